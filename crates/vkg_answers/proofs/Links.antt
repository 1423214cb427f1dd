-- Two lists of entries one after another: alike where each is and their solutions are compatible.
use Rattle.std.proofs.Common.{◌≡◌, ℕ, ◌<◌, ◌⊎◌, inl, inr, Bool, true, false, ⊎_elim, List, [], ◌∷◌, ◌++◌, map, refl, sym, ap, ◌∙◌, arith, true≢false}
use Rattle.std.specs.Prelude.{Some, None, ◌&&◌, Contains, if◌then◌else◌}
use Rattle.std.specs.List.{list_all, range_with_len}
use Rattle.std.specs.Option.{option_or}
use Rattle.std.proofs.lemmas.List.Elements.{Contains-append_left, Contains-append_right, Contains-append_cases}
use Rattle.vkg_lists.proofs.Counts.{eq_itself, eq_same}
use Rattle.vkg_lists.proofs.Members.{Contains-none, Contains-here, Contains-there, Contains-cons_cases}
use Rattle.vkg_lists.proofs.Bools.{and_parts, and_true, same_truth}
use Rattle.vkg_lists.proofs.Rows.{agree_none}
use Rattle.vkg_terms.specs.declared.term.Term.{Term}
use Rattle.vkg_terms.specs.Same.{term_eq}
use Rattle.vkg_terms.proofs.SameLemmas.{terms_apart}
use Rattle.vkg_cells.specs.declared.cell.Cell.TheVariants as cell
use Rattle.vkg_algebra.specs.Solutions.{compatible, merge}
use Rattle.vkg_expr.specs.Value.{term_of}
use Rattle.vkg_unfolded.specs.Unfolded.{Name, name_eq}
use Rattle.vkg_unfolded.proofs.AlgebraColumns.{name_test}
use Rattle.vkg_answers.proofs.Joins.{agree, merge-map}
use Rattle.vkg_answers.proofs.Agreement.{all_elim, all_intro, has-upto, compatible-map}
use Rattle.vkg_answers.proofs.Entries.{Entry, first, alike, named_term, named_solution, AreTerms, AreAlike, alike_onto, alike_back, AreBetween}

pub first_there : (x : Name) (zs : List Entry) (y : Entry) → Contains zs y → x ≡ y.0 → (z : Entry) × Contains zs z × (x ≡ z.0) × (first x zs ≡ z.1)
first_there x [] y c e = absurd (Contains-none y c)
first_there x (z ∷ zs) y c e = of (first_there x zs y) (name_eq x z.0) refl
  where
    of : (Contains zs y → x ≡ y.0 → (z : Entry) × Contains zs z × (x ≡ z.0) × (first x zs ≡ z.1)) → (b : Bool) → name_eq x z.0 ≡ b →
        (w : Entry) × Contains (z ∷ zs) w × (x ≡ w.0) × ((if b then z.1 else first x zs) ≡ w.1)
    of rest true f = (z, Contains-here z zs, eq_same name_test x z.0 f, refl)
    of rest false f = ⊎_elim
        (λ g. absurd (true≢false (sym ((name_test.decides x z.0).1 (e ∙ ap (λ (w : Entry). w.0) (sym g))) ∙ f)))
        (λ d. let r = rest d e in (r.0, Contains-there z zs r.0 r.1, r.2, r.3))
        (Contains-cons_cases z zs y c)

pub first_cases : (x : Name) (zs : List Entry) → (first x zs ≡ cell.Null) ⊎ ((z : Entry) × Contains zs z × (x ≡ z.0) × (first x zs ≡ z.1))
first_cases x [] = inl refl
first_cases x (z ∷ zs) = of (first_cases x zs) (name_eq x z.0) refl
  where
    of : (first x zs ≡ cell.Null) ⊎ ((z : Entry) × Contains zs z × (x ≡ z.0) × (first x zs ≡ z.1)) → (b : Bool) → name_eq x z.0 ≡ b →
        ((if b then z.1 else first x zs) ≡ cell.Null) ⊎ ((w : Entry) × Contains (z ∷ zs) w × (x ≡ w.0) × ((if b then z.1 else first x zs) ≡ w.1))
    of rest true f = inr (z, Contains-here z zs, eq_same name_test x z.0 f, refl)
    of rest false f = ⊎_elim (λ n. inl n) (λ r. inr (r.0, Contains-there z zs r.0 r.1, r.2, r.3)) rest

pub first_alike : (zs : List Entry) → AreAlike zs → (y : Entry) → Contains zs y → first y.0 zs ≡ y.1
first_alike zs h y c = let r = first_there y.0 zs y c refl in r.3 ∙ sym (h y r.0 c r.1 r.2)

pub first-append : (x : Name) (zs ws : List Entry) → AreTerms zs → term_of (first x (zs ++ ws)) ≡ option_or (term_of (first x zs)) (term_of (first x ws))
first-append x [] ws h = refl
first-append x (z ∷ zs) ws h = of (first-append x zs ws (λ y c. h y (Contains-there z zs y c))) (name_eq x z.0)
  where
    t : (t : Term) × (z.1 ≡ cell.Term t)
    t = h z (Contains-here z zs)

    of : term_of (first x (zs ++ ws)) ≡ option_or (term_of (first x zs)) (term_of (first x ws)) → (b : Bool) →
        term_of (if b then z.1 else first x (zs ++ ws)) ≡ option_or (term_of (if b then z.1 else first x zs)) (term_of (first x ws))
    of rest true = Prim.rw (h z (Contains-here z zs)).1 refl
    of rest false = rest

pub solution-append : (n : ℕ) (zs ws : List Entry) → AreTerms zs → named_solution n (zs ++ ws) ≡ merge (named_solution n zs) (named_solution n ws)
solution-append n zs ws h = (λ i. map (λ v. first-append (Some v) zs ws h i) (range_with_len 0 n)) ∙ sym (merge-map (named_term zs) (named_term ws) (range_with_len 0 n))

-- ---- between the two

abbrev pub names_agree : List Entry → List Entry → Name → Bool
names_agree zs ws x = agree (term_of (first x zs)) (term_of (first x ws))

abbrev pub links : ℕ → List Entry → List Entry → Bool
links n zs ws = compatible (named_solution n zs) (named_solution n ws) && names_agree zs ws None

abbrev pub NamesBelow : ℕ → List Entry → Type 0
NamesBelow n zs = (x : Entry) → Contains zs x → (v : ℕ) → x.0 ≡ Some v → v < n

compatible_names : (n : ℕ) (zs ws : List Entry) → compatible (named_solution n zs) (named_solution n ws) ≡ list_all (λ v. names_agree zs ws (Some v)) (range_with_len 0 n)
compatible_names n zs ws = compatible-map (named_term zs) (named_term ws) (range_with_len 0 n)

between_agree : (zs ws : List Entry) → AreTerms zs → AreBetween zs ws → (x : Name) → names_agree zs ws x ≡ true
between_agree zs ws h b x = ⊎_elim
    (λ e. ap (λ c. agree (term_of c) (term_of (first x ws))) e)
    (λ r. ⊎_elim
    (λ e. ap (λ c. agree (term_of (first x zs)) (term_of c)) e ∙ agree_none term_eq (term_of (first x zs)))
    (λ s.
    let t = h r.0 r.1 in
    let left : first x zs ≡ cell.Term t.0 = r.3 ∙ t.1 in
    let right : first x ws ≡ cell.Term t.0 = s.3 ∙ sym (b r.0 s.0 r.1 s.1 (sym r.2 ∙ s.2)) ∙ t.1 in
    (λ i. agree (term_of (left i)) (term_of (right i))) ∙ eq_itself terms_apart t.0)
    (first_cases x ws))
    (first_cases x zs)

agree_between : (zs ws : List Entry) → AreTerms zs → AreTerms ws → AreAlike zs → AreAlike ws → (x y : Entry) → Contains zs x → Contains ws y → x.0 ≡ y.0 → names_agree zs ws x.0 ≡ true → x.1 ≡ y.1
agree_between zs ws h k p q x y c d e a =
    let t = h x c in
    let u = k y d in
    let left : first x.0 zs ≡ cell.Term t.0 = first_alike zs p x c ∙ t.1 in
    let right : first x.0 ws ≡ cell.Term u.0 = ap (λ z. first z ws) e ∙ first_alike ws q y d ∙ u.1 in
    t.1 ∙ ap cell.Term (eq_same terms_apart t.0 u.0 (sym (λ i. agree (term_of (left i)) (term_of (right i))) ∙ a)) ∙ sym u.1

nothing_alike : AreAlike []
nothing_alike x y c d e = absurd (Contains-none x c)

pub terms-append : (zs ws : List Entry) → AreTerms zs → AreTerms ws → AreTerms (zs ++ ws)
terms-append zs ws h k x c = ⊎_elim (h x) (k x) (Contains-append_cases zs ws x c)

pub are_alike : (zs : List Entry) → AreTerms zs → alike [] zs ≡ true → AreAlike zs
are_alike zs h k = alike_onto [] zs h nothing_alike k

pub alike_is : (zs : List Entry) → AreTerms zs → AreAlike zs → alike [] zs ≡ true
alike_is zs h k = alike_back [] zs h k

pub alike_parts : (zs ws : List Entry) → AreAlike zs → AreAlike ws → AreBetween zs ws → AreAlike (zs ++ ws)
alike_parts zs ws p q b x y c d e = ⊎_elim
    (λ i. ⊎_elim (λ j. p x y i j e) (λ j. b x y i j e) (Contains-append_cases zs ws y d))
    (λ i. ⊎_elim (λ j. sym (b y x j i (sym e))) (λ j. q x y i j e) (Contains-append_cases zs ws y d))
    (Contains-append_cases zs ws x c)

pub alike-append : (n : ℕ) (zs ws : List Entry) → AreTerms zs → AreTerms ws → NamesBelow n zs → alike [] (zs ++ ws) ≡ ((alike [] zs && alike [] ws) && links n zs ws)
alike-append n zs ws h k below = same_truth (alike [] (zs ++ ws)) ((alike [] zs && alike [] ws) && links n zs ws) onto back
  where
    onto : alike [] (zs ++ ws) ≡ true → ((alike [] zs && alike [] ws) && links n zs ws) ≡ true
    onto e =
        let whole = are_alike (zs ++ ws) (terms-append zs ws h k) e in
        let left = λ (x : Entry) (c : Contains zs x). Contains-append_left zs ws x c in
        let right = λ (x : Entry) (c : Contains ws x). Contains-append_right zs ws x c in
        let between : AreBetween zs ws = λ x y c d f. whole x y (left x c) (right y d) f in
        and_true (alike [] zs && alike [] ws) (links n zs ws)
        (and_true (alike [] zs) (alike [] ws) (alike_is zs h (λ x y c d f. whole x y (left x c) (left y d) f)) (alike_is ws k (λ x y c d f. whole x y (right x c) (right y d) f)))
        (and_true (compatible (named_solution n zs) (named_solution n ws)) (names_agree zs ws None)
        (compatible_names n zs ws ∙ all_intro (λ v. names_agree zs ws (Some v)) (range_with_len 0 n) (λ v c. between_agree zs ws h between (Some v)))
        (between_agree zs ws h between None))

    back : ((alike [] zs && alike [] ws) && links n zs ws) ≡ true → alike [] (zs ++ ws) ≡ true
    back e =
        let a = and_parts (alike [] zs && alike [] ws) (links n zs ws) e in
        let b = and_parts (alike [] zs) (alike [] ws) a.0 in
        let c = and_parts (compatible (named_solution n zs) (named_solution n ws)) (names_agree zs ws None) a.1 in
        let p = are_alike zs h b.0 in
        let q = are_alike ws k b.1 in
        alike_is (zs ++ ws) (terms-append zs ws h k) (alike_parts zs ws p q (λ x y i j f. agree_between zs ws h k p q x y i j f (agreed c.0 c.1 x i x.0 refl)))
      where
        agreed : compatible (named_solution n zs) (named_solution n ws) ≡ true → names_agree zs ws None ≡ true → (x : Entry) → Contains zs x → (m : Name) → x.0 ≡ m → names_agree zs ws m ≡ true
        agreed c g x i None f = g
        agreed c g x i (Some v) f = all_elim (λ v. names_agree zs ws (Some v)) (range_with_len 0 n) (sym (compatible_names n zs ws) ∙ c) v (has-upto n 0 v v (below x i v f) (omega arith))
