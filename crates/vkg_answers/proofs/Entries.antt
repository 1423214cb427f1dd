-- Columns with names: where each later cell of a name is that of the first, the terms by name are a solution.
use Rattle.std.proofs.Common.{◌≡◌, ℕ, ◌⊎◌, inl, inr, Bool, true, false, ⊎_elim, List, [], ◌∷◌, ◌++◌, map, refl, sym, ap, subst, ◌∙◌, true≢false, append_assoc, append-nil}
use Rattle.std.specs.Prelude.{Option, Some, None, option_map, ◌&&◌, Contains, find, if◌then◌else◌, unwrap_or}
use Rattle.std.specs.Bool.{Decides}
use Rattle.std.specs.List.{list_all, range_with_len}
use Rattle.std.proofs.lemmas.List.{map-append}
use Rattle.std.proofs.lemmas.List.Elements.{Contains-append_left, Contains-append_right, Contains-append_cases}
use Rattle.std.proofs.Math.Bool.{and-true}
use Rattle.std.proofs.lemmas.List.Folds.{list_all-append}
use Rattle.vkg_lists.proofs.Counts.{eq_same}
use Rattle.vkg_lists.proofs.Members.{Contains-none, Contains-here, Contains-there, Contains-cons_cases, Contains-only}
use Rattle.vkg_lists.proofs.Bools.{and_parts}
use Rattle.vkg_terms.specs.declared.term.Term.{Term}
use Rattle.vkg_terms.proofs.SameLemmas.{terms_apart}
use Rattle.vkg_cells.specs.declared.cell.Cell.{Cell}
use Rattle.vkg_cells.specs.Order.{same}
use Rattle.vkg_cells.specs.declared.cell.Cell.TheVariants as cell
use Rattle.vkg_schema.specs.Rows.{Row}
use Rattle.vkg_algebra.specs.Solutions.{Solution}
use Rattle.vkg_expr.specs.Value.{value_of, term_of, truth_of, truth_cell, holds}
use Rattle.vkg_unfolded.specs.Unfolded.{Name, name_eq, Named, same_name, again, repeats}
use Rattle.vkg_unfolded.proofs.AlgebraColumns.{name_test}

-- a name and its cell
abbrev pub Entry : Type 0
Entry = Name × Cell

-- the first cell of a name, NULL if there is none
abbrev pub first : Name → List Entry → Cell
first x [] = cell.Null
first x (y ∷ ys) = if name_eq x y.0 then y.1 else first x ys

abbrev pub is_same : Cell → Cell → Bool
is_same c d = unwrap_or (truth_of (truth_cell (same c d))) false

abbrev pub again_alike : Entry → Option Entry → Bool
again_alike x None = true
again_alike x (Some y) = is_same x.1 y.1

abbrev pub same_entry : Entry → Entry → Bool
same_entry x y = name_eq x.0 y.0

-- each is the same as the first before it of its name
abbrev pub alike : List Entry → List Entry → Bool
alike before [] = true
alike before (x ∷ xs) = again_alike x (find (same_entry x) before) && alike (before ++ x ∷ []) xs

-- the terms by variable
abbrev pub named_term : List Entry → ℕ → Option Term
named_term zs v = term_of (first (Some v) zs)

abbrev pub named_solution : ℕ → List Entry → Solution
named_solution n zs = map (named_term zs) (range_with_len 0 n)

-- ---- the conditions that repeat names

abbrev pub entry : Row → Named → Entry
entry row x = (x.0, value_of x.1 row)

find-map : (row : Row) (x : Name) (before : List Named) → find (λ y. name_eq x y.0) (map (entry row) before) ≡ option_map (entry row) (find (λ y. name_eq x y.0) before)
find-map row x [] = refl
find-map row x (y ∷ ys) = of (find-map row x ys) (name_eq x y.0)
  where
    of : find (λ y. name_eq x y.0) (map (entry row) ys) ≡ option_map (entry row) (find (λ y. name_eq x y.0) ys) → (b : Bool) →
        (if b then Some (entry row y) else find (λ y. name_eq x y.0) (map (entry row) ys)) ≡ option_map (entry row) (if b then Some y else find (λ y. name_eq x y.0) ys)
    of rest true = refl
    of rest false = rest

again_is : (row : Row) (x : Named) (o : Option Named) → list_all (λ c. holds c row) (again x o) ≡ again_alike (entry row x) (option_map (entry row) o)
again_is row x None = refl
again_is row x (Some y) = and-true (is_same (value_of x.1 row) (value_of y.1 row))

pub repeats_alike : (row : Row) (before xs : List Named) → list_all (λ c. holds c row) (repeats before xs) ≡ alike (map (entry row) before) (map (entry row) xs)
repeats_alike row before [] = refl
repeats_alike row before (x ∷ xs) =
    list_all-append (λ c. holds c row) (again x (find (same_name x) before)) (repeats (before ++ x ∷ []) xs)
    ∙ (λ i. (again_is row x (find (same_name x) before) ∙ ap (again_alike (entry row x)) (sym (find-map row x.0 before))) i
    && (repeats_alike row (before ++ x ∷ []) xs ∙ ap (λ es. alike es (map (entry row) xs)) (map-append (entry row) before (x ∷ []))) i)

-- ---- entries whose cells are terms

abbrev pub AreTerms : List Entry → Type 0
AreTerms zs = (x : Entry) → Contains zs x → (t : Term) × (x.1 ≡ cell.Term t)

abbrev pub AreBetween : List Entry → List Entry → Type 0
AreBetween zs ws = (x y : Entry) → Contains zs x → Contains ws y → x.0 ≡ y.0 → x.1 ≡ y.1

abbrev pub AreAlike : List Entry → Type 0
AreAlike zs = AreBetween zs zs

same_terms : (c d : Cell) → ((t : Term) × (c ≡ cell.Term t)) → ((t : Term) × (d ≡ cell.Term t)) → Decides (is_same c d) (c ≡ d)
same_terms c d (t, e) (u, f) = (
  λ h. e ∙ ap cell.Term (eq_same terms_apart t u (sym (λ i. is_same (e i) (f i)) ∙ h)) ∙ sym f,
  λ h. (λ i. is_same (e i) (f i)) ∙ (terms_apart.decides t u).1 (let g : cell.Term t ≡ cell.Term u = sym e ∙ h ∙ f in cc),
)

-- what find finds
find_some : (x : Name) (zs : List Entry) (y : Entry) → find (λ y. name_eq x y.0) zs ≡ Some y → Contains zs y × (x ≡ y.0)
find_some x [] y h = cc
find_some x (z ∷ zs) y h = of (find_some x zs y) (name_eq x z.0) refl h
  where
    of : (find (λ y. name_eq x y.0) zs ≡ Some y → Contains zs y × (x ≡ y.0)) → (b : Bool) → name_eq x z.0 ≡ b → (if b then Some z else find (λ y. name_eq x y.0) zs) ≡ Some y → Contains (z ∷ zs) y × (x ≡ y.0)
    of rest true e k = let f : z ≡ y = cc in (subst (Contains (z ∷ zs)) f (Contains-here z zs), eq_same name_test x z.0 e ∙ ap (λ (w : Entry). w.0) f)
    of rest false e k = (Contains-there z zs y (rest k).0, (rest k).1)

find_none : (x : Name) (zs : List Entry) → find (λ y. name_eq x y.0) zs ≡ None → (y : Entry) → Contains zs y → x ≡ y.0 → ⊥
find_none x [] h y c e = Contains-none y c
find_none x (z ∷ zs) h y c e = of (find_none x zs) (name_eq x z.0) refl h
  where
    of : (find (λ y. name_eq x y.0) zs ≡ None → (y : Entry) → Contains zs y → x ≡ y.0 → ⊥) → (b : Bool) → name_eq x z.0 ≡ b → (if b then Some z else find (λ y. name_eq x y.0) zs) ≡ None → ⊥
    of rest true f k = cc
    of rest false f k = ⊎_elim (λ g. true≢false (sym ((name_test.decides x z.0).1 (e ∙ ap (λ (w : Entry). w.0) (sym g))) ∙ f)) (λ g. rest k y g e) (Contains-cons_cases z zs y c)

found : (x : Name) (zs : List Entry) → (find (λ y. name_eq x y.0) zs ≡ None) ⊎ ((y : Entry) × (find (λ y. name_eq x y.0) zs ≡ Some y))
found x zs = of (find (λ y. name_eq x y.0) zs) refl
  where
    of : (o : Option Entry) → find (λ y. name_eq x y.0) zs ≡ o → (find (λ y. name_eq x y.0) zs ≡ None) ⊎ ((y : Entry) × (find (λ y. name_eq x y.0) zs ≡ Some y))
    of None e = inl e
    of (Some y) e = inr (y, e)

one_more : (before : List Entry) (x : Entry) → AreTerms (before ++ x ∷ []) → AreAlike before → again_alike x (find (same_entry x) before) ≡ true → AreAlike (before ++ x ∷ [])
one_more before x terms h k y z c d e = ⊎_elim
    (λ a. ⊎_elim (λ b. h y z a b e) (λ b. at_x y a (e ∙ ap (λ (w : Entry). w.0) (sym (Contains-only x z b))) ∙ ap (λ (w : Entry). w.1) (Contains-only x z b)) (Contains-append_cases before (x ∷ []) z d))
    (λ a. ⊎_elim (λ b. ap (λ (w : Entry). w.1) (sym (Contains-only x y a)) ∙ sym (at_x z b (sym e ∙ ap (λ (w : Entry). w.0) (sym (Contains-only x y a))))) (λ b. ap (λ (w : Entry). w.1) (sym (Contains-only x y a) ∙ Contains-only x z b)) (Contains-append_cases before (x ∷ []) z d))
    (Contains-append_cases before (x ∷ []) y c)
  where
    at_x : (y : Entry) → Contains before y → y.0 ≡ x.0 → y.1 ≡ x.1
    at_x y a f = ⊎_elim
        (λ none. absurd (find_none x.0 before none y a (sym f)))
        (λ some.
        let r = find_some x.0 before some.0 some.1 in
        h y some.0 a r.0 (f ∙ r.1) ∙ sym ((same_terms x.1 some.0.1 (terms x (Contains-append_right before (x ∷ []) x (Contains-here x []))) (terms some.0 (Contains-append_left before (x ∷ []) some.0 r.0))).0 (sym (ap (again_alike x) some.1) ∙ k)))
        (found x.0 before)

pub alike_onto : (before xs : List Entry) → AreTerms (before ++ xs) → AreAlike before → alike before xs ≡ true → AreAlike (before ++ xs)
alike_onto before [] terms h k = subst AreAlike (sym (append-nil before)) h
alike_onto before (x ∷ xs) terms h k =
    let b = and_parts (again_alike x (find (same_entry x) before)) (alike (before ++ x ∷ []) xs) k in
    let whole = append_assoc before (x ∷ []) xs in
    subst AreAlike whole (alike_onto (before ++ x ∷ []) xs (subst AreTerms (sym whole) terms)
    (one_more before x (λ y c. terms y (subst (λ zs. Contains zs y) whole (Contains-append_left (before ++ x ∷ []) xs y c))) h b.0) b.1)

pub alike_back : (before xs : List Entry) → AreTerms (before ++ xs) → AreAlike (before ++ xs) → alike before xs ≡ true
alike_back before [] terms h = refl
alike_back before (x ∷ xs) terms h =
    let whole = append_assoc before (x ∷ []) xs in
    λ i. here i && alike_back (before ++ x ∷ []) xs (subst AreTerms (sym whole) terms) (subst AreAlike (sym whole) h) i
  where
    here : again_alike x (find (same_entry x) before) ≡ true
    here = ⊎_elim
        (λ none. ap (again_alike x) none)
        (λ some.
        let r = find_some x.0 before some.0 some.1 in
        let at = Contains-append_right before (x ∷ xs) x (Contains-here x xs) in
        let of = Contains-append_left before (x ∷ xs) some.0 r.0 in
        ap (again_alike x) some.1 ∙ (same_terms x.1 some.0.1 (terms x at) (terms some.0 of)).1 (h x some.0 at of r.1))
        (found x.0 before)
