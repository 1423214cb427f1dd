use Rattle.std.proofs.Common.{◌≡◌, ◌∙◌, ◌+◌, ℕ, Some, slice_get, sym, ap}
use Rattle.std.specs.Option.{option_copied}
use Rattle.std.proofs.lemmas.Result.{IfOk-weaker}
use Rattle.vkg_store.proofs.FormLemmas.{number-bound, number-of-form}
use Rattle.vkg_store.proofs.stored_column.number_of.Goals as goal

pub returns-in-Some-clause-stands : goal.returns-in-Some-clause-stands
returns-in-Some-clause-stands c =
    let texts = c.intern.new.self in
    let form = c.in-Some.form.now in
    IfOk-weaker c.intern.result (λ n. (i : ℕ) × (n ≡ i + 1) × (slice_get texts i ≡ Some form)) _
    (λ n h. number-of-form texts c.args.cell.now n h.0 form (sym c.form.ensures ∙ ap option_copied c.in-Some.is) h.1 h.2) c.intern.ensures.stored

pub returns-in-Some-clause-bound : goal.returns-in-Some-clause-bound
returns-in-Some-clause-bound c =
    let texts = c.intern.new.self in
    let form = c.in-Some.form.now in
    IfOk-weaker c.intern.result (λ n. (i : ℕ) × (n ≡ i + 1) × (slice_get texts i ≡ Some form)) _ (λ n h. number-bound texts n h.0 form h.1 h.2) c.intern.ensures.stored
