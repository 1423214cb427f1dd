-- The joins of rules that fit the tables.
use Rattle.std.proofs.Common.{◌≡◌, ℕ, ◌<◌, List, length, get_or, refl, sym, subst}
use Rattle.std.specs.Prelude.{Option, Some, None, slice_get}
use Rattle.std.proofs.lemmas.Option.{slice_get_within}
use Rattle.vkg_lists.proofs.Members.{recursion_at}
use Rattle.vkg_cells.specs.declared.cell.SqlType.{SqlType}
use Rattle.vkg_cells.specs.declared.cell.SqlType.TheVariants as kind
use Rattle.vkg_expr.specs.Typing.{equality_kind}
use Rattle.vkg_plan.specs.Kinds.{Tables}
use Rattle.vkg_row_rules.specs.declared.row_rule.RowRule.{RowRule}
use Rattle.vkg_unfolded.specs.FittingRules.{FitJoins, FitsJoin}

-- what a column is compared with is there
pub there : (k : Option SqlType) (ls : List SqlType) (n : ℕ) → equality_kind k (slice_get ls n) ≡ Some kind.Bool → n < length ls
there k ls n e = of (slice_get ls n) refl k e
  where
    of : (o : Option SqlType) → slice_get ls n ≡ o → (k : Option SqlType) → equality_kind k o ≡ Some kind.Bool → n < length ls
    of (Some l) f k g = slice_get_within ls n l f
    of None f None g = cc
    of None f (Some k) g = cc

-- of each rule
pub join_of : (schema : Tables) (rules : List RowRule) (i : ℕ) (rule : RowRule) → FitJoins schema rules → i < length rules → rule ≡ get_or rules i rule → FitsJoin schema rule.table rule.join
join_of schema rules i rule fit inside e =
    subst (λ (r : RowRule). FitsJoin schema r.table r.join) (sym e) (recursion_at (λ (r : RowRule). FitsJoin schema r.table r.join) rules i rule fit inside)
