-- Steps of loops, and lists by their lengths.
use Rattle.std.proofs.Common.{◌≡◌, ◌≢◌, ◌∙◌, ℕ, ◌<◌, ◌+◌, Bool, true, false, cond, List, [], ◌∷◌, ◌++◌, map, take, drop, length, get_or, refl, sym, ap, arith}
use Rattle.std.specs.Prelude.{Some, None, slice_get, find, fold, flat_map, if◌then◌else◌}
use Rattle.std.specs.List.{list_any}
use Rattle.std.proofs.lemmas.List.{drop_more, map-append, map_more, take_more}
use Rattle.std.proofs.lemmas.Option.{same_Some}
use Rattle.vkg_lists.proofs.Distinct.{distinct_push, distinct-take_more}
use Rattle.vkg_lists.proofs.Walks.{list_any-map}
use Rattle.vkg_lists.specs.Sets.{distinct}
use Rattle.vkg_sparql.specs.Query.{Condition, And, Or}
use Rattle.vkg_sparql.specs.Seen.{condition_seen}
use Rattle.vkg_sparql.specs.declared.condition.Condition.{Condition as ConditionValue}
use Rattle.vkg_sparql.specs.declared.pattern.TriplePattern.{TriplePattern}
use Rattle.vkg_expr.specs.declared.expr.Expr.{Expr as ExprValue}
use Rattle.vkg_expr.specs.Expr.{Expr, exprs}
use Rattle.vkg_expr.specs.Expr as expr
use Rattle.vkg_expr.specs.Logic.{and_of, or_of, truth_const}
use Rattle.vkg_expr.specs.Seen.{expr_seen}
use Rattle.vkg_row_rules.specs.declared.row_rule.RowRule.{RowRule}
use Rattle.vkg_unfolded.specs.declared.mode.Mode.{Mode}
use Rattle.vkg_unfolded.specs.declared.mode.Mode.TheVariants.{Default, InGraph, Each}
use Rattle.vkg_unfold.specs.declared.named.Named.{Named as NamedValue}
use Rattle.vkg_unfolded.specs.Conditions.{gives_truth, truth_expr, value_expr}
use Rattle.vkg_unfold.specs.Parts.{named_seen, some_or}
use Rattle.vkg_unfolded.specs.Unfolded.{again, graph_terms, if_each, merged, Name, name_eq, Named, named, numbered, pattern_places, places, repeats, same_name, visible_column}
use Rattle.vkg_unfold.proofs.Chains.{truth-and, truth-or}

-- ---- each once

first_push : (xs : List NamedValue) (x : NamedValue) →
    map (λ (n : Named). n.1) (distinct same_name (map named_seen (xs ++ x ∷ [])))
    ≡ map (λ (n : Named). n.1) (distinct same_name (map named_seen xs)) ++ (if list_any (λ (n : NamedValue). name_eq n.name x.name) xs then [] else expr_seen x.expr ∷ [])
first_push xs x =
    ap (λ l. map (λ (n : Named). n.1) (distinct same_name l)) (map-append named_seen xs (x ∷ []))
    ∙ ap (map (λ (n : Named). n.1)) (distinct_push same_name (map named_seen xs) (named_seen x))
    ∙ map-append (λ (n : Named). n.1) (distinct same_name (map named_seen xs)) (if list_any (λ y. same_name y (named_seen x)) (map named_seen xs) then [] else named_seen x ∷ [])
    ∙ ap (λ l. map (λ (n : Named). n.1) (distinct same_name (map named_seen xs)) ++ l) (one (list_any (λ y. same_name y (named_seen x)) (map named_seen xs)) ∙ ap (λ b. if b then [] else expr_seen x.expr ∷ []) (list_any-map (λ y. same_name y (named_seen x)) named_seen xs))
  where
    one : (b : Bool) → map (λ (n : Named). n.1) (if b then [] else named_seen x ∷ []) ≡ (if b then [] else expr_seen x.expr ∷ [])
    one true = refl
    one false = refl

pub first_more : (list : List NamedValue) (i : ℕ) (d : NamedValue) → i < length list →
    map (λ (n : Named). n.1) (distinct same_name (map named_seen (take (i + 1) list)))
    ≡ map (λ (n : Named). n.1) (distinct same_name (map named_seen (take i list))) ++ (if list_any (λ (n : NamedValue). name_eq n.name (get_or list i d).name) (take i list) then [] else expr_seen (get_or list i d).expr ∷ [])
first_more list i d h = ap (λ l. map (λ (n : Named). n.1) (distinct same_name (map named_seen l))) (take_more list i d h) ∙ first_push (take i list) (get_or list i d)

-- ---- repeats of names

pub repeats_more : (list : List NamedValue) (i : ℕ) (d : NamedValue) → i < length list →
    repeats (map named_seen (take i list)) (map named_seen (drop i list))
    ≡ again (named_seen (get_or list i d)) (find (same_name (named_seen (get_or list i d))) (map named_seen (take i list))) ++ repeats (map named_seen (take (i + 1) list)) (map named_seen (drop (i + 1) list))
repeats_more list i d h =
    ap (λ l. repeats (map named_seen (take i list)) (map named_seen l)) (drop_more list i d h)
    ∙ ap (λ l. again x (find (same_name x) (map named_seen (take i list))) ++ repeats l (map named_seen (drop (i + 1) list))) (sym (map_more named_seen list i d h))
  where
    x : Named
    x = named_seen (get_or list i d)

pub numbered_more : (names : List Name) (i : ℕ) (d : Name) → i < length names → numbered i (drop i names) ≡ (get_or names i d, expr.Col i) ∷ numbered (i + 1) (drop (i + 1) names)
numbered_more names i d h = rw (drop_more names i d h) (ap (λ n. (get_or names i d, expr.Col i) ∷ numbered n (drop (i + 1) names)) (omega arith))

-- ---- lists of none, of one and of more

pub and_none : (es : List ExprValue) → length es ≡ 0 → and_of (map expr_seen es) ≡ truth_const true
and_none [] h = refl
and_none (e ∷ es) h = absurd (omega (arith, h))

pub and_one : (es : List ExprValue) (x : ExprValue) → length es ≡ 1 → slice_get es 0 ≡ Some x → and_of (map expr_seen es) ≡ expr_seen x
and_one [] x h k = absurd (omega (arith, h))
and_one (e ∷ []) x h k = ap expr_seen (same_Some e x k)
and_one (e ∷ f ∷ es) x h k = absurd (omega (arith, h))

pub and_more : (es : List ExprValue) → length es ≢ 0 → length es ≢ 1 → and_of (map expr_seen es) ≡ expr.And (exprs (map expr_seen es))
and_more [] h k = absurd (h refl)
and_more (e ∷ []) h k = absurd (k refl)
and_more (e ∷ f ∷ es) h k = refl

pub or_none : (es : List ExprValue) → length es ≡ 0 → or_of (map expr_seen es) ≡ truth_const false
or_none [] h = refl
or_none (e ∷ es) h = absurd (omega (arith, h))

pub or_one : (es : List ExprValue) (x : ExprValue) → length es ≡ 1 → slice_get es 0 ≡ Some x → or_of (map expr_seen es) ≡ expr_seen x
or_one [] x h k = absurd (omega (arith, h))
or_one (e ∷ []) x h k = ap expr_seen (same_Some e x k)
or_one (e ∷ f ∷ es) x h k = absurd (omega (arith, h))

pub or_more : (es : List ExprValue) → length es ≢ 0 → length es ≢ 1 → or_of (map expr_seen es) ≡ expr.Or (exprs (map expr_seen es))
or_more [] h k = absurd (h refl)
or_more (e ∷ []) h k = absurd (k refl)
or_more (e ∷ f ∷ es) h k = refl

-- ---- tests

pub truth_all : (a : Condition) (cs : List ConditionValue) → gives_truth (fold And a (map condition_seen cs)) ≡ some_or cs (gives_truth a)
truth_all a [] = refl
truth_all a (c ∷ cs) = truth-and (And a (condition_seen c)) (map condition_seen cs) refl

pub truth_any : (a : Condition) (cs : List ConditionValue) → gives_truth (fold Or a (map condition_seen cs)) ≡ some_or cs (gives_truth a)
truth_any a [] = refl
truth_any a (c ∷ cs) = truth-or (Or a (condition_seen c)) (map condition_seen cs) refl

-- a filter sees the columns of one algebra
pub of_one_algebra : (vs : List ℕ) (c : Condition) → truth_expr (merged Default vs []) c ≡ truth_expr (visible_column vs) c
of_one_algebra vs c = refl

pub value_of_one_algebra : (vs : List ℕ) (c : Condition) → value_expr (merged Default vs []) c ≡ value_expr (visible_column vs) c
value_of_one_algebra vs c = refl

-- ---- columns of a pattern

hidden_terms : (mode : Mode) (gs : List Expr) → map (λ (n : Named). n.1) (flat_map (λ g. if_each mode (None, g)) gs) ≡ flat_map (if_each mode) gs
hidden_terms Default [] = refl
hidden_terms Default (g ∷ gs) = hidden_terms Default gs
hidden_terms (InGraph i) [] = refl
hidden_terms (InGraph i) (g ∷ gs) = hidden_terms (InGraph i) gs
hidden_terms Each [] = refl
hidden_terms Each (g ∷ gs) = ap (λ l. g ∷ l) (hidden_terms Each gs)

pub columns_are : (mode : Mode) (p : TriplePattern) (rule : RowRule) →
    map (λ (n : Named). n.1) (pattern_places mode p rule)
    ≡ map (λ (n : Named). n.1) (distinct same_name (flat_map named (places p rule))) ++ flat_map (if_each mode) (graph_terms rule.graph)
columns_are mode p rule =
    map-append (λ (n : Named). n.1) (distinct same_name (flat_map named (places p rule))) (flat_map (λ g. if_each mode (None, g)) (graph_terms rule.graph))
    ∙ ap (λ l. map (λ (n : Named). n.1) (distinct same_name (flat_map named (places p rule))) ++ l) (hidden_terms mode (graph_terms rule.graph))

-- ---- the first column of a name

pub find_more : (x : Named) (list : List NamedValue) (i : ℕ) (d : NamedValue) → i < length list →
    find (same_name x) (map named_seen (drop i list)) ≡ cond (same_name x (named_seen (get_or list i d))) (Some (named_seen (get_or list i d))) (find (same_name x) (map named_seen (drop (i + 1) list)))
find_more x list i d h = ap (λ l. find (same_name x) (map named_seen l)) (drop_more list i d h)

-- ---- steps of loops, from what the call of the body ensures

pub name_once : (names found new before : List Name) (i : ℕ) (x d : Name) →
    new ≡ found ++ (if list_any (λ n. name_eq n x) before then [] else x ∷ []) → before ≡ take i names → x ≡ get_or names i d → i < length names → found ≡ distinct name_eq (take i names) → new ≡ distinct name_eq (take (i + 1) names)
name_once names found new before i x d e b is h inv =
    e ∙ (λ j. inv j ++ (if list_any (λ n. name_eq n (is j)) (b j) then [] else is j ∷ [])) ∙ sym (distinct-take_more name_eq names i d h)

pub column_once : (list before : List NamedValue) (i : ℕ) (x : NamedValue) (found new : List Expr) →
    new ≡ found ++ (if list_any (λ (n : NamedValue). name_eq n.name x.name) before then [] else expr_seen x.expr ∷ []) → before ≡ take i list → x ≡ get_or list i x → i < length list →
    found ≡ map (λ (n : Named). n.1) (distinct same_name (map named_seen (take i list))) → new ≡ map (λ (n : Named). n.1) (distinct same_name (map named_seen (take (i + 1) list)))
column_once list before i x found new e b is h inv =
    e ∙ (λ j. inv j ++ (if list_any (λ (n : NamedValue). name_eq n.name (is j).name) (b j) then [] else expr_seen (is j).expr ∷ [])) ∙ sym (first_more list i x h)
