-- The names of a column more.
use Rattle.std.proofs.Common.{◌≡◌, ◌∙◌, ℕ, zero, suc, ◌+◌, List, [], ◌∷◌, ◌++◌, map, sym, ap, arith, add-one}
use Rattle.std.proofs.lemmas.List.{map-append}
use Rattle.vkg_columns.proofs.SeenExprs.{seen-Col, seen-Const}
use Rattle.vkg_expr.specs.declared.expr.Expr.{Expr as ExprValue}
use Rattle.vkg_expr.specs.Expr.{Expr}
use Rattle.vkg_expr.specs.Seen.{expr_seen}
use Rattle.vkg_key_joins.specs.ParentJoin.{all_tied_to, tied_to}

last_name : (child : List Expr) (pairs : List (ℕ × ℕ)) (y n : ℕ) → all_tied_to child pairs y (suc n) ≡ all_tied_to child pairs y n ++ tied_to child pairs (y + n) ∷ []
last_name child pairs y zero = ap (λ m. tied_to child pairs m ∷ []) (omega arith)
last_name child pairs y (suc n) = ap (λ l. tied_to child pairs y ∷ l) (last_name child pairs (suc y) n ∙ ap (λ m. all_tied_to child pairs (suc y) n ++ tied_to child pairs m ∷ []) (omega arith))

next_name : (child : List Expr) (pairs : List (ℕ × ℕ)) (n : ℕ) → all_tied_to child pairs 0 (n + 1) ≡ all_tied_to child pairs 0 n ++ tied_to child pairs n ∷ []
next_name child pairs n = ap (all_tied_to child pairs 0) (add-one n) ∙ last_name child pairs 0 n ∙ ap (λ m. all_tied_to child pairs 0 n ++ tied_to child pairs m ∷ []) (omega arith)

-- a name more, where so many are there
pub one_more : (child : List Expr) (pairs : List (ℕ × ℕ)) (n : ℕ) (old : List ExprValue) (e : ExprValue) {all : List ExprValue} → all ≡ old ++ e ∷ [] →
    map expr_seen old ≡ all_tied_to child pairs 0 n → expr_seen e ≡ tied_to child pairs n → map expr_seen all ≡ all_tied_to child pairs 0 (n + 1)
one_more child pairs n old e new h k =
    ap (map expr_seen) new ∙ map-append expr_seen old (e ∷ []) ∙ (λ i. h i ++ (k i ∷ [])) ∙ sym (next_name child pairs n)

pub ruleset named_columns = (seen-Col, seen-Const)
