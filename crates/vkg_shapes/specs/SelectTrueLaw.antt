-- Its laws: the constant true keeps each row.
use Rattle.std.proofs.Common.{◌≡◌, true, Some, sym, subst, arith}
use Rattle.vkg_lists.proofs.Bags.{bag_same}
use Rattle.vkg_lists.proofs.Members.{filter_keeps}
use Rattle.vkg_lists.proofs.Results.{then_given}
use Rattle.vkg_cells.specs.declared.cell.Cell.TheVariants as cell
use Rattle.vkg_schema.specs.Rows.{Row}
use Rattle.vkg_expr.specs.Expr.{Expr, Const}
use Rattle.vkg_expr.specs.Value.{holds}
use Rattle.vkg_plan.specs.Kinds.{Tables, plan_kinds}
use Rattle.vkg_plan.specs.Plan.{Plan, Select}
use Rattle.vkg_plan.specs.Rows.{rows_of}
use Rattle.vkg_rules.specs.declared.rewrite.Fell.TheVariants as fell
use Rattle.vkg_rules.specs.Parts.{checked-is}
use Rattle.vkg_shapes.specs.SelectTrue.{is_true_const, select_true}
use Rattle.vkg_rules.specs.Steps.{Falls, FallsAll, IsTyped, Keeps, KeepsAll, Step}
use Rattle.vkg_rules.specs.Weights.{weight_positive}

true-holds : (c : Expr) (row : Row) → is_true_const c ≡ true → holds c row ≡ true
true-holds (Const (cell.Bool b) k) row h = h
true-holds _ row h = cc

select-keeps : (s : Tables) (c : Expr) (p : Plan) (x : Step) → IsTyped s (Select c p) → select_true s (Select c p) ≡ Some x → Keeps s (Select c p) x.0
select-keeps s c p x t e =
    let w = then_given (is_true_const c) (p, fell.Weight) x e in
    subst (λ (z : Step). Keeps s (Select c p) z.0) w.1
    (record { kinds = sym (checked-is c (plan_kinds s p) t); rows = λ db m. bag_same (filter_keeps (holds c) (rows_of s p db) (λ row i. true-holds c row w.0)) })

select-falls : (s : Tables) (c : Expr) (p : Plan) (x : Step) → select_true s (Select c p) ≡ Some x → Falls s (Select c p) x
select-falls s c p x e =
    let w = then_given (is_true_const c) (p, fell.Weight) x e in
    subst (Falls s (Select c p)) w.1 (let h = weight_positive p in omega (arith, h))

pub select_true-keeps : KeepsAll select_true
select_true-keeps s form (Select c p) x t e = select-keeps s c p x t e
select_true-keeps s form _ x t e = cc

pub select_true-falls : FallsAll select_true
select_true-falls s form (Select c p) x t e = select-falls s c p x e
select_true-falls s form _ x t e = cc
