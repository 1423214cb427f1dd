-- The first conjunct that is changed, by its place, and conditions of which none is.
use Rattle.std.proofs.Common.{◌≡◌, ◌∙◌, ◌+◌, ◌<◌, ◌≤◌, ℕ, zero, suc, arith, Bool, true, false, ◌&&◌, List, [], ◌∷◌, map, length, get_or, take, refl, sym, ap, subst}
use Rattle.std.specs.Prelude.{Option, Some, None, option_and_then, option_map, slice_set}
use Rattle.std.specs.Option.{option_or}
use Rattle.std.specs.List.{AllByRecursion, list_any}
use Rattle.std.proofs.lemmas.List.{take_more}
use Rattle.vkg_lists.proofs.Bools.{neither}
use Rattle.vkg_lists.proofs.Members.{recursion_push}
use Rattle.vkg_cells.specs.declared.cell.SqlType.TheVariants as kind
use Rattle.vkg_expr.specs.declared.expr.Expr.{Expr as ExprValue}
use Rattle.vkg_expr.specs.declared.term_expr.TermExpr.{TermExpr}
use Rattle.vkg_expr.specs.Expr.{Expr, Const, MakeIri, MakeBlank, MakeLit, Same}
use Rattle.vkg_expr.specs.Logic.{and_of, conjuncts}
use Rattle.vkg_expr.specs.Seen.{expr_seen}
use Rattle.vkg_plan.specs.Kinds.{Kinds, Tables, plan_kinds}
use Rattle.vkg_plan.specs.Plan.{Plan}
use Rattle.vkg_equalities.specs.Decided.{asks_terms, both_compared, compared, decided, if_fine, makes_term}
use Rattle.vkg_equalities.specs.Recognised.{recognised}
use Rattle.vkg_equalities.specs.TableColumns.{flag_at, table_columns}
use Rattle.vkg_equalities.specs.TermEquality.{condition_columns, condition_kinds, decided_in, first_changed, node_decided}

-- ---- by its place

module _ (f : Expr → Option Expr) where
  abbrev pub IsLeft : ExprValue → Type 0
  IsLeft e = f (expr_seen e) ≡ None

  pub left-more : (es : List ExprValue) (i : ℕ) (x : ExprValue) → i < length es → x ≡ get_or es i x → AllByRecursion IsLeft (take i es) → IsLeft x → AllByRecursion IsLeft (take (i + 1) es)
  left-more es i x l e h g =
      subst (AllByRecursion IsLeft) (sym (take_more es i x l))
      (recursion_push IsLeft (take i es) (get_or es i x) h (subst IsLeft e g))

  pub none-changed : (es : List ExprValue) (i : ℕ) → length es ≤ i → AllByRecursion IsLeft (take i es) → first_changed f (map expr_seen es) ≡ None
  none-changed [] i l h = refl
  none-changed (e ∷ es) zero l h = absurd (omega (arith, l))
  none-changed (e ∷ es) (suc i) l h =
      (λ k. option_or (option_map (λ d. d ∷ map expr_seen es) (h.0 k)) (option_map (λ ds. expr_seen e ∷ ds) (none-changed es i (omega (arith, l)) h.1 k)))

  pub changed-at : (es : List ExprValue) (i : ℕ) (x d : ExprValue) → i < length es → x ≡ get_or es i x → AllByRecursion IsLeft (take i es) → f (expr_seen x) ≡ Some (expr_seen d) → first_changed f (map expr_seen es) ≡ Some (map expr_seen (slice_set es i d))
  changed-at [] i x d l e h g = absurd (omega (arith, l))
  changed-at (y ∷ es) zero x d l e h g = ap (λ o. option_or (option_map (λ d. d ∷ map expr_seen es) o) (option_map (λ ds. expr_seen y ∷ ds) (first_changed f (map expr_seen es)))) (ap (λ z. f (expr_seen z)) (sym e) ∙ g)
  changed-at (y ∷ es) (suc i) x d l e h g =
      (λ k. option_or (option_map (λ d. d ∷ map expr_seen es) (h.0 k)) (option_map (λ ds. expr_seen y ∷ ds) (changed-at es i x d (omega (arith, l)) e h.1 g k)))

-- ---- where no conjunct asks two terms to be the same

not_recognised : (ks : Kinds) (e : Expr) → makes_term e ≡ false → recognised ks e ≡ None
not_recognised ks (Const c kind.Term) h = cc
not_recognised ks (Const c k) h = refl
not_recognised ks (MakeIri e) h = cc
not_recognised ks (MakeBlank e) h = cc
not_recognised ks (MakeLit e annotation) h = cc
not_recognised ks e h = refl

second_lacks : (o : Option TermExpr) → both_compared o None ≡ None
second_lacks None = refl
second_lacks (Some e) = refl

module _ (t : ℕ → Bool) (ks : Kinds) where
  not_compared : (e : Expr) → makes_term e ≡ false → compared t ks e ≡ None
  not_compared e h = ap (option_and_then (if_fine t)) (not_recognised ks e h)

  not_decided : (c : Expr) → asks_terms c ≡ false → decided t ks c ≡ None
  not_decided (Same a b) h = elim (makes_term a) as (λ m. makes_term a ≡ m → (m && makes_term b) ≡ false → both_compared (compared t ks a) (compared t ks b) ≡ None) [
    | true ↦ λ m e. ap (both_compared (compared t ks a)) (not_compared b e) ∙ second_lacks (compared t ks a)
    | false ↦ λ m e. ap (λ o. both_compared o (compared t ks b)) (not_compared a m)
  ] refl h
  not_decided c h = refl

  none_of : (cs : List Expr) → list_any asks_terms cs ≡ false → first_changed (decided t ks) cs ≡ None
  none_of [] h = refl
  none_of (c ∷ cs) h =
      let b = neither (asks_terms c) (list_any asks_terms cs) h in
      λ i. option_or (option_map (λ d. d ∷ cs) (not_decided c b.0 i)) (option_map (λ ds. c ∷ ds) (none_of cs b.1 i))

over_kinds : (flags : List Bool) (c : Expr) (o : Option Kinds) → list_any asks_terms (conjuncts c) ≡ false → option_and_then (λ ks. decided_in flags ks c) o ≡ None
unfolding decided_in
over_kinds flags c None h = refl
over_kinds flags c (Some ks) h = ap (option_map and_of) (none_of (flag_at flags) ks (conjuncts c) h)

pub none_asked : (s : Tables) (p : Plan) (c : Expr) → list_any asks_terms (conjuncts c) ≡ false → node_decided s p c ≡ None
none_asked s p c h = over_kinds (condition_columns s p) c (condition_kinds s p) h
