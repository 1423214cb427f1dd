use Rattle.std.proofs.Common.{ℕ, ◌∙◌, None, sym, subst}
use Rattle.std.specs.Prelude.{MatchOption}
use Rattle.std.proofs.lemmas.Option.{none-some}
use Rattle.vkg_company.specs.Count.{IsCount}
use Rattle.vkg_company.proofs.Counts.{counted_in, decided}
use Rattle.vkg_company.proofs.count.count_of.Goals as goal

pub returns-in-None-clause-count : goal.returns-in-None-clause-count
returns-in-None-clause-count c = λ n h. none-some n (sym c.in-None.is ∙ c.number_in.ensures n h.limit h.written)

pub returns-in-Some-clause-count : goal.returns-in-Some-clause-count
returns-in-Some-clause-count c =
    subst (λ r. MatchOption r ((m : ℕ) → IsCount c.args.word.now m → ⊥) (IsCount c.args.word.now)) (sym c.if_count.ensures)
    (decided c.args.word.now c.in-Some.n (λ m h e. sym c.in-Some.is ∙ c.number_in.ensures m h e))

pub returns-in-None-clause-value : goal.returns-in-None-clause-value
returns-in-None-clause-value c = counted_in c.args.word.now None (returns-in-None-clause-count c)

pub returns-in-Some-clause-value : goal.returns-in-Some-clause-value
returns-in-Some-clause-value c = counted_in c.args.word.now c.if_count.result (returns-in-Some-clause-count c)
