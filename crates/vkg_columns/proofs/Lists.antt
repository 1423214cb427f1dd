-- Lists of expressions as the program has them and as they are seen.
use Rattle.std.proofs.Common.{◌≡◌, ◌≢◌, ◌∙◌, ℕ, zero, suc, ◌+◌, true, List, [], ◌∷◌, ◌++◌, length, map, refl, ap, arith, add-one}
use Rattle.std.specs.Prelude.{Some, option_map, slice_get, unwrap_or}
use Rattle.std.proofs.lemmas.List.{map-append}
use Rattle.std.proofs.lemmas.Option.{same_Some, slice_get-map}
use Rattle.vkg_cells.specs.declared.cell.Cell.TheVariants as cell
use Rattle.vkg_cells.specs.declared.cell.SqlType.TheVariants as kind
use Rattle.vkg_expr.specs.declared.expr.Expr.{Expr as ExprValue}
use Rattle.vkg_expr.proofs.Conjuncts.{each_exprs}
use Rattle.vkg_expr.specs.Expr.{Expr, Col, Const, And, More, exprs}
use Rattle.vkg_expr.specs.Logic.{and_of, truth_const}
use Rattle.vkg_expr.specs.Seen.{expr_seen}
use Rattle.vkg_expr.specs.Strict.{put, put_each}
use Rattle.vkg_columns.specs.Columns.{at_place, columns_from}
use Rattle.vkg_columns.proofs.SeenExprs.{seen-And}

-- ---- expressions put in

pub place : (by : List ExprValue) (at : ℕ) → at_place (map expr_seen by) at ≡ unwrap_or (option_map expr_seen (slice_get by at)) (Const cell.Null kind.Text)
place by at = ap (λ o. unwrap_or o (Const cell.Null kind.Text)) (slice_get-map expr_seen by at)

-- each of a list with others put in is the list with them put in
pub put_all : (f : ℕ → Expr) (done list : List ExprValue) → map expr_seen done ≡ map (λ e. put f (expr_seen e)) list → exprs (map expr_seen done) ≡ put_each f (exprs (map expr_seen list))
put_all f done list h = ap exprs h ∙ listed list
  where
    listed : (es : List ExprValue) → exprs (map (λ e. put f (expr_seen e)) es) ≡ put_each f (exprs (map expr_seen es))
    listed [] = refl
    listed (e ∷ es) = ap (λ x. More (put f (expr_seen e)) x) (listed es)

-- ---- columns from one on

behind_all : (n w : ℕ) → columns_from n (suc w) ≡ columns_from n w ++ Col (n + w) ∷ []
behind_all n zero = ap (λ m. Col m ∷ []) (omega arith)
behind_all n (suc w) = ap (λ l. Col n ∷ l) (behind_all (suc n) w ∙ ap (λ m. columns_from (suc n) w ++ Col m ∷ []) (omega arith))

pub next_column : (n w : ℕ) → columns_from n (w + 1) ≡ columns_from n w ++ Col (n + w) ∷ []
next_column n w = ap (columns_from n) (add-one w) ∙ behind_all n w

-- ---- conjuncts

pub ruleset conjunct_lists = (each_exprs, seen-And)

pub both_seen : (cs ds : List ExprValue) → map expr_seen (cs ++ ds) ≡ map expr_seen cs ++ map expr_seen ds
both_seen cs ds = map-append expr_seen cs ds

pub and_none : (es : List ExprValue) → length es ≡ 0 → and_of (map expr_seen es) ≡ truth_const true
and_none [] h = refl
and_none (e ∷ es) h = absurd (omega (arith, h))

pub and_one : (es : List ExprValue) (x : ExprValue) → length es ≡ 1 → slice_get es 0 ≡ Some x → and_of (map expr_seen es) ≡ expr_seen x
and_one [] x h k = absurd (omega (arith, h))
and_one (e ∷ []) x h k = ap expr_seen (same_Some e x k)
and_one (e ∷ f ∷ es) x h k = absurd (omega (arith, h))

pub and_more : (es : List ExprValue) → length es ≢ 0 → length es ≢ 1 → and_of (map expr_seen es) ≡ And (exprs (map expr_seen es))
and_more [] h k = absurd (h refl)
and_more (e ∷ []) h k = absurd (k refl)
and_more (e ∷ f ∷ es) h k = refl
