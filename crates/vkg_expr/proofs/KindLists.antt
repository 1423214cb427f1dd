-- Kinds of lists of expressions, from their first.
use Rattle.std.proofs.Common.{◌≡◌, true, ◌&&◌, List, refl, ap, map, length, ◌∙◌}
use Rattle.std.proofs.Math.Bool.{and-false}
use Rattle.std.specs.Prelude.{Option, Some, None}
use Rattle.std.specs.Bool.{then_some}
use Rattle.std.proofs.lemmas.List.{length-map}
use Rattle.vkg_lists.specs.Options.{with_first}
use Rattle.vkg_lists.proofs.Onto.{onto_none, onto_first}
use Rattle.vkg_cells.specs.declared.cell.SqlType.{SqlType}
use Rattle.vkg_cells.specs.declared.cell.SqlType.TheVariants as kind
use Rattle.vkg_expr.specs.declared.expr.Expr.{Expr as ExprValue}
use Rattle.vkg_expr.specs.Seen.{expr_seen}
use Rattle.vkg_expr.specs.Expr.{each, exprs}
use Rattle.vkg_expr.specs.Typing.{are_all, common, is_one, same_kind}
use Rattle.vkg_expr.proofs.Conjuncts.{each_exprs}

pub are_all-more : (k : SqlType) (a : Option SqlType) (o : Option (List SqlType)) → are_all k (with_first a o) ≡ (is_one k a && are_all k o)
are_all-more k None o = refl
are_all-more k (Some l) None = rw and-false
are_all-more k (Some l) (Some ls) = refl

pub itself : (k : SqlType) → same_kind k k ≡ true
itself kind.Text = refl
itself kind.Int = refl
itself kind.Dec = refl
itself kind.Bool = refl
itself kind.Date = refl
itself kind.Stamp = refl
itself kind.Bin = refl
itself kind.Time = refl
itself kind.Term = refl

pub common-more : (k : SqlType) (o : Option (List SqlType)) → common (with_first (Some k) o) ≡ then_some (are_all k o) k
common-more k None = refl
common-more k (Some ls) = refl

pub length-each : (xs : List ExprValue) → length (each (exprs (map expr_seen xs))) ≡ length xs
length-each xs = ap length (each_exprs (map expr_seen xs)) ∙ length-map xs expr_seen

pub ruleset kind_lists = (are_all-more, common-more, onto_none, onto_first, length-each)
