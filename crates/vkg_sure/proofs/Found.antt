-- The first member that is never the value of a COALESCE, and the list without it.
use Rattle.std.proofs.Common.{◌≡◌, ◌∙◌, ℕ, ◌+◌, ◌<◌, ◌≤◌, Bool, true, false, ◌&&◌, not, List, [], ◌∷◌, ◌++◌, length, map, take, drop, get_or, Option, Some, None, refl, sym, ap, append_assoc, arith}
use Rattle.std.specs.Prelude.{option_map, if◌then◌else◌}
use Rattle.std.specs.List.{list_any}
use Rattle.std.proofs.lemmas.List.{drop_all}
use Rattle.vkg_lists.specs.Lists.{is_empty}
use Rattle.vkg_lists.proofs.Onto.{onto, onto_none}
use Rattle.vkg_expr.specs.declared.expr.Expr.{Expr as ExprValue}
use Rattle.vkg_expr.specs.Expr.{Expr}
use Rattle.vkg_expr.specs.Seen.{expr_seen}
use Rattle.vkg_conditions.proofs.ListLemmas.{drop_here, seen_more}
use Rattle.vkg_equalities.specs.Decided.{makes_term}
use Rattle.vkg_sure.specs.NeverNull.{is_known}
use Rattle.vkg_sure.specs.FirstKnown.{adds_nothing, coalesce_of, fewer, fewer_at, of_members, shorter}

-- the members before i stay
abbrev pub Kept : List Bool → List ExprValue → ℕ → Type 0
Kept flags list i = fewer flags [] (map expr_seen list) ≡ onto (map expr_seen (take i list)) (fewer flags (map expr_seen (take i list)) (map expr_seen (drop i list)))

pub kept_none : (flags : List Bool) (list : List ExprValue) → Kept flags list 0
kept_none flags list = sym (onto_none (fewer flags [] (map expr_seen list)))

pub kept_all : (flags : List Bool) (list : List ExprValue) (i : ℕ) → length list ≤ i → Kept flags list i → fewer flags [] (map expr_seen list) ≡ None
kept_all flags list i past k = k ∙ ap (λ l. onto (map expr_seen (take i list)) (fewer flags (map expr_seen (take i list)) (map expr_seen l))) (drop_all i list past)

onto_next : (es : List Expr) (e : Expr) (o : Option (List Expr)) → onto es (option_map (λ ds. e ∷ ds) o) ≡ onto (es ++ e ∷ []) o
onto_next es e None = refl
onto_next es e (Some ds) = rw append_assoc

-- one goes for the sake of a member, or none does
found : (before behind : List Expr) (e : Expr) (b c : Bool) (o : Option (List Expr)) (xs : List Expr) →
    (if b then Some (before ++ behind) else (if c then Some (before ++ e ∷ []) else None)) ≡ Some xs →
    onto before (if b then Some behind else (if c then Some (e ∷ []) else option_map (λ ds. e ∷ ds) o)) ≡ Some xs
found before behind e true c o xs h = h
found before behind e false true o xs h = h
found before behind e false false o xs h = cc

passed : (before behind : List Expr) (e : Expr) (b c : Bool) (o : Option (List Expr)) →
    (if b then Some (before ++ behind) else (if c then Some (before ++ e ∷ []) else None)) ≡ None →
    onto before (if b then Some behind else (if c then Some (e ∷ []) else option_map (λ ds. e ∷ ds) o)) ≡ onto (before ++ e ∷ []) o
passed before behind e true c o h = cc
passed before behind e false true o h = cc
passed before behind e false false o h = onto_next before e o

module _ (flags : List Bool) (list : List ExprValue) (i : ℕ) (e : ExprValue) (below : i < length list) (is : e ≡ get_or list i e) (kept : Kept flags list i) where
  abbrev before : List Expr
  before = map expr_seen (take i list)

  abbrev behind : List Expr
  behind = map expr_seen (drop (i + 1) list)

  abbrev adds : Bool
  adds = adds_nothing before (expr_seen e)

  abbrev last : Bool
  last = is_known flags (expr_seen e) && not (is_empty behind)

  here : fewer flags [] (map expr_seen list) ≡ onto before (fewer flags before (expr_seen e ∷ behind))
  here = kept ∙ ap (λ l. onto before (fewer flags before (map expr_seen l))) (drop_here list i e below is)

  pub found_here : (d : List ExprValue) → fewer_at flags before (expr_seen e) behind ≡ Some (map expr_seen d) → Some (map expr_seen d) ≡ fewer flags [] (map expr_seen list)
  found_here d h = sym (here ∙ found before behind (expr_seen e) adds last (fewer flags (before ++ expr_seen e ∷ []) behind) (map expr_seen d) h)

  pub not_here : fewer_at flags before (expr_seen e) behind ≡ None → Kept flags list (i + 1)
  not_here h =
      here ∙ passed before behind (expr_seen e) adds last (fewer flags (before ++ expr_seen e ∷ []) behind) h
      ∙ ap (λ l. onto l (fewer flags l behind)) (sym (seen_more list i e below is))

-- of two or more members
pub of_many : (flags : List Bool) (es : List ExprValue) → 2 ≤ length es →
    option_map (coalesce_of (list_any makes_term (map expr_seen es))) (shorter flags (map expr_seen es)) ≡ of_members flags (map expr_seen es)
of_many flags [] h = absurd (omega arith)
of_many flags (e ∷ []) h = absurd (omega arith)
of_many flags (e ∷ f ∷ es) h = refl
