-- A condition holds exactly where each of its conjuncts does, and an Or where one of its members does.
use Rattle.std.proofs.Common.{◌≡◌, Bool, true, false, List, [], ◌∷◌, map, refl, sym, ap, ◌∙◌}
use Rattle.std.proofs.Math.Bool.{and-true, and_assoc, or-false, or_assoc}
use Rattle.std.specs.Prelude.{Option, Some, None, ◌&&◌, ◌||◌, fold}
use Rattle.std.specs.List.{list_all, list_any}
use Rattle.vkg_cells.specs.declared.cell.Cell.{Cell}
use Rattle.vkg_schema.specs.Rows.{Row, is_known_true}
use Rattle.vkg_values.specs.Logic.{and3, or3}
use Rattle.vkg_expr.specs.Expr.{Expr, Exprs, And, Or, Nil, More, exprs, each}
use Rattle.vkg_expr.specs.Value.{truth_of, value_of, values_of, holds, all_of, any_of}
use Rattle.vkg_expr.specs.Logic.{and_of, conjuncts}
use Rattle.vkg_expr.proofs.ReadBack.{truth_back}

sure-and3 : (p q : Option Bool) → is_known_true (and3 p q) ≡ (is_known_true p && is_known_true q)
sure-and3 (Some true) q = refl
sure-and3 (Some false) q = refl
sure-and3 None (Some true) = refl
sure-and3 None (Some false) = refl
sure-and3 None None = refl

sure-fold : (p : Option Bool) (cs : List Cell) → is_known_true (fold and3 p (map truth_of cs)) ≡ (is_known_true p && list_all (λ c. is_known_true (truth_of c)) cs)
sure-fold p [] = sym (and-true (is_known_true p))
sure-fold p (c ∷ cs) = Prim.rw (sure-fold (and3 p (truth_of c)) cs, sure-and3 p (truth_of c)) (and_assoc (is_known_true p) (is_known_true (truth_of c)) _)

each_holds : (row : Row) (es : Exprs) → list_all (λ c. is_known_true (truth_of c)) (values_of es row) ≡ list_all (λ c. holds c row) (each es)
each_holds row Nil = refl
each_holds row (More e es) = ap (λ b. holds e row && b) (each_holds row es)

pub each_exprs : (es : List Expr) → each (exprs es) ≡ es
each_exprs [] = refl
each_exprs (e ∷ es) = ap (λ fs. e ∷ fs) (each_exprs es)

pub holds-And : (row : Row) (es : Exprs) → holds (And es) row ≡ list_all (λ c. holds c row) (each es)
holds-And row es = ap is_known_true (truth_back (all_of (values_of es row))) ∙ sure-fold (Some true) (values_of es row) ∙ each_holds row es

pub holds-conjuncts : (c : Expr) (row : Row) → holds c row ≡ list_all (λ e. holds e row) (conjuncts c)
holds-conjuncts (And es) row = holds-And row es
holds-conjuncts c row = sym (and-true (holds c row))

pub holds-and_of : (row : Row) (cs : List Expr) → holds (and_of cs) row ≡ list_all (λ c. holds c row) cs
holds-and_of row [] = refl
holds-and_of row (c ∷ []) = sym (and-true (holds c row))
holds-and_of row (c ∷ d ∷ cs) = holds-And row (exprs (c ∷ d ∷ cs)) ∙ ap (λ es. list_all (λ x. holds x row) es) (each_exprs (c ∷ d ∷ cs))

sure-or3 : (p q : Option Bool) → is_known_true (or3 p q) ≡ (is_known_true p || is_known_true q)
sure-or3 (Some true) q = refl
sure-or3 (Some false) q = refl
sure-or3 None (Some true) = refl
sure-or3 None (Some false) = refl
sure-or3 None None = refl

sure-any : (p : Option Bool) (cs : List Cell) → is_known_true (fold or3 p (map truth_of cs)) ≡ (is_known_true p || list_any (λ c. is_known_true (truth_of c)) cs)
sure-any p [] = sym (or-false (is_known_true p))
sure-any p (c ∷ cs) = Prim.rw (sure-any (or3 p (truth_of c)) cs, sure-or3 p (truth_of c)) (or_assoc (is_known_true p) (is_known_true (truth_of c)) _)

one_holds : (row : Row) (es : Exprs) → list_any (λ c. is_known_true (truth_of c)) (values_of es row) ≡ list_any (λ c. holds c row) (each es)
one_holds row Nil = refl
one_holds row (More e es) = ap (λ b. holds e row || b) (one_holds row es)

pub holds-Or : (row : Row) (es : Exprs) → holds (Or es) row ≡ list_any (λ c. holds c row) (each es)
holds-Or row es = ap is_known_true (truth_back (any_of (values_of es row))) ∙ sure-any (Some false) (values_of es row) ∙ one_holds row es

-- the values of a list of expressions, one by one
pub values_are : (es : List Expr) (row : Row) → values_of (exprs es) row ≡ map (λ e. value_of e row) es
values_are [] row = refl
values_are (e ∷ es) row = ap (λ cs. value_of e row ∷ cs) (values_are es row)
