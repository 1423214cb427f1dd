-- The kinds of nodes with one condition in the place of two.
use Rattle.std.proofs.Common.{◌≡◌, ◌∙◌, true, sym, ap, subst}
use Rattle.std.specs.Prelude.{Option, Some, None, is_some, if◌then◌else◌}
use Rattle.std.proofs.lemmas.Option.{same_Some}
use Rattle.vkg_cells.specs.declared.cell.SqlType.TheVariants as kind
use Rattle.vkg_expr.specs.Expr.{Expr}
use Rattle.vkg_expr.specs.Logic.{and_then}
use Rattle.vkg_expr.specs.Typing.{is_one}
use Rattle.vkg_columns.proofs.Conjuncts.{IsTruth, and_then-kind}
use Rattle.vkg_plan.proofs.RowsFit.{checked_parts}
use Rattle.vkg_plan.specs.Kinds.{Kinds, checked}
use Rattle.vkg_rules.specs.Parts.{checked-is}

pub checked-truth : (c : Expr) (o : Option Kinds) (ks : Kinds) → o ≡ Some ks → IsTruth ks c → checked c o ≡ Some ks
checked-truth c o ks e k = ap (checked c) e ∙ ap (λ m. if is_one kind.Bool m then Some ks else None) k

-- the kinds below a condition, over which it is a truth
pub checked-given : (c : Expr) (o : Option Kinds) (ks : Kinds) → checked c o ≡ Some ks → (o ≡ Some ks) × IsTruth ks c
checked-given c o ks e =
    let some = sym (checked-is c o (ap is_some e)) ∙ e in
    let a = checked_parts c o (ap is_some e) in
    (some, subst (λ ls. IsTruth ls c) (same_Some a.0 ks (sym a.1 ∙ some)) a.2)

-- a condition over a condition, and both as one
pub both-checked : (c d : Expr) (o : Option Kinds) → is_some (checked c (checked d o)) ≡ true → checked (and_then d c) o ≡ checked c (checked d o)
both-checked c d o t =
    let a = checked_parts c (checked d o) t in
    let g = checked-given d o a.0 a.1 in
    checked-truth (and_then d c) o a.0 g.0 (and_then-kind a.0 d c g.1 a.2) ∙ sym (checked-truth c (checked d o) a.0 a.1 a.2)
