-- The first of a list for which something stands in its place, and the list with that there.
use Rattle.std.proofs.Common.{◌≡◌, ◌∙◌, ℕ, ◌+◌, ◌<◌, ◌≤◌, Bool, true, false, ◌||◌, List, [], ◌∷◌, ◌++◌, length, map, take, drop, get_or, Option, Some, None, refl, sym, ap, append_assoc, append-nil}
use Rattle.std.specs.Prelude.{option_map, if◌then◌else◌}
use Rattle.std.specs.List.{list_any}
use Rattle.std.specs.Option.{option_or}
use Rattle.std.proofs.lemmas.List.{drop_all, map-append}
use Rattle.vkg_lists.proofs.Onto.{onto, onto_none}
use Rattle.vkg_expr.specs.declared.expr.Expr.{Expr as ExprValue}
use Rattle.vkg_expr.specs.Expr.{Expr}
use Rattle.vkg_expr.specs.Places.{first_place}
use Rattle.vkg_expr.specs.Seen.{expr_seen}
use Rattle.vkg_conditions.specs.declared.junctions.Junction.{Junction}
use Rattle.vkg_conditions.specs.Cases.{is_junction}
use Rattle.vkg_conditions.specs.Conditions.{is_truth, members, spread, without_first, without_repeat}
use Rattle.vkg_same.specs.SameExpr.{same_expr}
use Rattle.vkg_conditions.specs.SimplifyCondition.{first_conjunct, first_of}
use Rattle.vkg_conditions.proofs.ListLemmas.{drop_here, seen_more}

-- a list whose first member that becomes others is these
abbrev pub changed : (Expr → Option (List Expr)) → List Expr → Option (List Expr)
changed h [] = None
changed h (e ∷ es) = option_or (option_map (λ ds. ds ++ es) (h e)) (option_map (λ ds. e ∷ ds) (changed h es))

-- the members before i stay
abbrev pub Kept : (Expr → Option (List Expr)) → List ExprValue → ℕ → Type 0
Kept h list i = changed h (map expr_seen list) ≡ onto (map expr_seen (take i list)) (changed h (map expr_seen (drop i list)))

onto_next : (es : List Expr) (e : Expr) (o : Option (List Expr)) → onto es (option_map (λ ds. e ∷ ds) o) ≡ onto (es ++ e ∷ []) o
onto_next es e None = refl
onto_next es e (Some ds) = rw append_assoc

pub kept_none : (h : Expr → Option (List Expr)) (list : List ExprValue) → Kept h list 0
kept_none h list = sym (onto_none (changed h (map expr_seen list)))

pub kept_all : (h : Expr → Option (List Expr)) (list : List ExprValue) (i : ℕ) → length list ≤ i → Kept h list i → changed h (map expr_seen list) ≡ None
kept_all h list i past k = k ∙ ap (λ l. onto (map expr_seen (take i list)) (changed h (map expr_seen l))) (drop_all i list past)

module _ (h : Expr → Option (List Expr)) (list : List ExprValue) (i : ℕ) (e : ExprValue) (below : i < length list) (is : e ≡ get_or list i e) (kept : Kept h list i) where
  abbrev rest : List Expr
  rest = map expr_seen (drop (i + 1) list)

  abbrev or_rest : Option (List Expr) → Option (List Expr)
  or_rest o = onto (map expr_seen (take i list)) (option_or (option_map (λ ds. ds ++ rest) o) (option_map (λ ds. expr_seen e ∷ ds) (changed h rest)))

  kept_here : changed h (map expr_seen list) ≡ or_rest (h (expr_seen e))
  kept_here = kept ∙ ap (λ l. onto (map expr_seen (take i list)) (changed h (map expr_seen l))) (drop_here list i e below is)

  pub found_here : (inner r : List ExprValue) → h (expr_seen e) ≡ Some (map expr_seen inner) → r ≡ (take i list ++ inner) ++ drop (i + 1) list → Some (map expr_seen r) ≡ changed h (map expr_seen list)
  found_here inner r here new =
      ap (λ l. Some (map expr_seen l)) new
      ∙ ap Some (spliced_seen (take i list) inner (drop (i + 1) list))
      ∙ sym (kept_here ∙ ap or_rest here)
    where
      spliced_seen : (a b c : List ExprValue) → map expr_seen ((a ++ b) ++ c) ≡ map expr_seen a ++ (map expr_seen b ++ map expr_seen c)
      spliced_seen a b c = map-append expr_seen (a ++ b) c ∙ ap (λ l. l ++ map expr_seen c) (map-append expr_seen a b) ∙ append_assoc (map expr_seen a) (map expr_seen b) (map expr_seen c)

  pub not_here : h (expr_seen e) ≡ None → Kept h list (i + 1)
  not_here none =
      kept_here ∙ ap or_rest none ∙ onto_next (map expr_seen (take i list)) (expr_seen e) (changed h rest)
      ∙ ap (λ l. onto l (changed h rest)) (sym (seen_more list i e below is))

-- ---- the definitions are such

abbrev pub some_if : Bool → List Expr → Option (List Expr)
some_if b es = if b then Some es else None

case_if : (b : Bool) (ms : List Expr) (e : Expr) (es : List Expr) (o p : Option (List Expr)) → o ≡ p →
    (if b then Some (ms ++ es) else option_map (λ ds. e ∷ ds) o) ≡ option_or (option_map (λ ds. ds ++ es) (some_if b ms)) (option_map (λ ds. e ∷ ds) p)
case_if true ms e es o p k = refl
case_if false ms e es o p k = ap (option_map (λ ds. e ∷ ds)) k

abbrev pub gone_if : Bool → Expr → Option (List Expr)
gone_if truth e = some_if (is_truth truth e) []

without_first-is : (truth : Bool) (es : List Expr) → without_first (is_truth truth) es ≡ changed (gone_if truth) es
without_first-is truth [] = refl
without_first-is truth (e ∷ es) = case_if (is_truth truth e) [] e es (without_first (is_truth truth) es) (changed (gone_if truth) es) (without_first-is truth es)

pub gone_here : (truth : Bool) (list : List ExprValue) (i : ℕ) (e : ExprValue) (r : List ExprValue) → i < length list → e ≡ get_or list i e → Kept (gone_if truth) list i →
    is_truth truth (expr_seen e) ≡ true → r ≡ (take i list ++ []) ++ drop (i + 1) list → Some (map expr_seen r) ≡ without_first (is_truth truth) (map expr_seen list)
gone_here truth list i e r below is k known new =
    found_here (gone_if truth) list i e below is k [] r (ap (λ b. some_if b []) known) new ∙ sym (without_first-is truth (map expr_seen list))

pub not_gone_here : (truth : Bool) (list : List ExprValue) (i : ℕ) (e : ExprValue) → i < length list → e ≡ get_or list i e → Kept (gone_if truth) list i →
    is_truth truth (expr_seen e) ≡ false → Kept (gone_if truth) list (i + 1)
not_gone_here truth list i e below is k known = not_here (gone_if truth) list i e below is k (ap (λ b. some_if b []) known)

pub none_gone : (truth : Bool) (list : List ExprValue) (i : ℕ) → length list ≤ i → Kept (gone_if truth) list i → None ≡ without_first (is_truth truth) (map expr_seen list)
none_gone truth list i past k = sym (without_first-is truth (map expr_seen list) ∙ kept_all (gone_if truth) list i past k)

abbrev pub nested_in : Junction → Expr → Option (List Expr)
nested_in sort e = some_if (is_junction sort e) (members e)

spread-is : (sort : Junction) (es : List Expr) → spread (is_junction sort) es ≡ changed (nested_in sort) es
spread-is sort [] = refl
spread-is sort (e ∷ es) = case_if (is_junction sort e) (members e) e es (spread (is_junction sort) es) (changed (nested_in sort) es) (spread-is sort es)

pub spread_here : (sort : Junction) (list : List ExprValue) (i : ℕ) (e : ExprValue) (inner r : List ExprValue) → i < length list → e ≡ get_or list i e → Kept (nested_in sort) list i →
    nested_in sort (expr_seen e) ≡ Some (map expr_seen inner) → r ≡ (take i list ++ inner) ++ drop (i + 1) list → Some (map expr_seen r) ≡ spread (is_junction sort) (map expr_seen list)
spread_here sort list i e inner r below is k here new = found_here (nested_in sort) list i e below is k inner r here new ∙ sym (spread-is sort (map expr_seen list))

pub none_spread : (sort : Junction) (list : List ExprValue) (i : ℕ) → length list ≤ i → Kept (nested_in sort) list i → None ≡ spread (is_junction sort) (map expr_seen list)
none_spread sort list i past k = sym (spread-is sort (map expr_seen list) ∙ kept_all (nested_in sort) list i past k)

-- ---- one in the place of one

abbrev pub one_for : (Expr → Option Expr) → Expr → Option (List Expr)
one_for f e = option_map (λ d. d ∷ []) (f e)

pub one_here : (f : Expr → Option Expr) (list : List ExprValue) (i : ℕ) (e d : ExprValue) (es r : List ExprValue) → i < length list → e ≡ get_or list i e → Kept (one_for f) list i →
    f (expr_seen e) ≡ Some (expr_seen d) → es ≡ d ∷ [] → r ≡ (take i list ++ es) ++ drop (i + 1) list → Some (map expr_seen r) ≡ changed (one_for f) (map expr_seen list)
one_here f list i e d es r below is k here one new =
    found_here (one_for f) list i e below is k es r (ap (option_map (λ x. x ∷ [])) here ∙ ap (λ l. Some (map expr_seen l)) (sym one)) new

pub not_one_here : (f : Expr → Option Expr) (list : List ExprValue) (i : ℕ) (e : ExprValue) → i < length list → e ≡ get_or list i e → Kept (one_for f) list i →
    f (expr_seen e) ≡ None → Kept (one_for f) list (i + 1)
not_one_here f list i e below is k none = not_here (one_for f) list i e below is k (ap (option_map (λ x. x ∷ [])) none)

case_one : (o : Option Expr) (e : Expr) (es : List Expr) (p q : Option (List Expr)) → p ≡ q →
    option_or (option_map (λ d. d ∷ es) o) (option_map (λ ds. e ∷ ds) p) ≡ option_or (option_map (λ ds. ds ++ es) (option_map (λ d. d ∷ []) o)) (option_map (λ ds. e ∷ ds) q)
case_one None e es p q k = ap (option_map (λ ds. e ∷ ds)) k
case_one (Some d) e es p q k = refl

pub first_conjunct-is : (f : Expr → Option Expr) (es : List Expr) → first_conjunct f es ≡ changed (one_for f) es
first_conjunct-is f [] = refl
first_conjunct-is f (e ∷ es) = case_one (f e) e es (first_conjunct f es) (changed (one_for f) es) (first_conjunct-is f es)

pub first_of-is : (f : Expr → Option Expr) (es : List Expr) → first_of f es ≡ changed (one_for (first_place f)) es
first_of-is f [] = refl
first_of-is f (e ∷ es) = case_one (first_place f e) e es (first_of f es) (changed (one_for (first_place f)) es) (first_of-is f es)

-- ---- a member that is one of those before it

or_swap : (a b c : Bool) → (a || (b || c)) ≡ (b || (a || c))
or_swap true true c = refl
or_swap true false c = refl
or_swap false b c = refl

any_last : (test : Expr → Bool) (e : Expr) (es : List Expr) → list_any test (es ++ e ∷ []) ≡ (test e || list_any test es)
any_last test e [] = refl
any_last test e (x ∷ xs) = ap (λ b. test x || b) (any_last test e xs) ∙ or_swap (test x) (test e) (list_any test xs)

abbrev unless : Bool → Expr → List Expr → Option (List Expr) → Option (List Expr)
unless b e es o = if b then Some es else option_map (λ ds. e ∷ ds) o

-- only which are before counts, and not their order
reordered : (b c : List Expr) → ((x : Expr) → list_any (same_expr x) b ≡ list_any (same_expr x) c) → (es : List Expr) → without_repeat b es ≡ without_repeat c es
reordered b c h [] = refl
reordered b c h (e ∷ es) =
    ap (λ t. unless t e es (without_repeat (e ∷ b) es)) (h e)
    ∙ ap (unless (list_any (same_expr e) c) e es) (reordered (e ∷ b) (e ∷ c) (λ x. ap (λ t. same_expr x e || t) (h x)) es)

-- the members before i stay, and none is one of those before it
abbrev pub Single : List ExprValue → ℕ → Type 0
Single list i = without_repeat [] (map expr_seen list) ≡ onto (map expr_seen (take i list)) (without_repeat (map expr_seen (take i list)) (map expr_seen (drop i list)))

pub single_none : (list : List ExprValue) → Single list 0
single_none list = sym (onto_none (without_repeat [] (map expr_seen list)))

pub single_all : (list : List ExprValue) (i : ℕ) → length list ≤ i → Single list i → without_repeat [] (map expr_seen list) ≡ None
single_all list i past k = k ∙ ap (λ l. onto (map expr_seen (take i list)) (without_repeat (map expr_seen (take i list)) (map expr_seen l))) (drop_all i list past)

module _ (list : List ExprValue) (i : ℕ) (e : ExprValue) (below : i < length list) (is : e ≡ get_or list i e) (single : Single list i) where
  abbrev before : List Expr
  before = map expr_seen (take i list)

  abbrev behind : List Expr
  behind = map expr_seen (drop (i + 1) list)

  abbrev if_there : Bool → Option (List Expr)
  if_there b = onto before (unless b (expr_seen e) behind (without_repeat (expr_seen e ∷ before) behind))

  single_here : without_repeat [] (map expr_seen list) ≡ if_there (list_any (same_expr (expr_seen e)) before)
  single_here = single ∙ ap (λ l. onto before (without_repeat before (map expr_seen l))) (drop_here list i e below is)

  pub repeat_here : (r : List ExprValue) → list_any (same_expr (expr_seen e)) before ≡ true → r ≡ (take i list ++ []) ++ drop (i + 1) list → Some (map expr_seen r) ≡ without_repeat [] (map expr_seen list)
  repeat_here r there new =
      ap (λ l. Some (map expr_seen l)) (new ∙ ap (λ l. l ++ drop (i + 1) list) (append-nil (take i list)))
      ∙ ap Some (map-append expr_seen (take i list) (drop (i + 1) list))
      ∙ sym (single_here ∙ ap if_there there)

  pub no_repeat_here : list_any (same_expr (expr_seen e)) before ≡ false → Single list (i + 1)
  no_repeat_here none =
      let more = sym (seen_more list i e below is) in
      single_here ∙ ap if_there none ∙ onto_next before (expr_seen e) (without_repeat (expr_seen e ∷ before) behind)
      ∙ ap (onto (before ++ expr_seen e ∷ [])) (reordered (expr_seen e ∷ before) (before ++ expr_seen e ∷ []) (λ x. sym (any_last (same_expr x) (expr_seen e) before)) behind)
      ∙ ap (λ l. onto l (without_repeat l behind)) more
