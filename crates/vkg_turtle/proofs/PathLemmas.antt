-- A path is its segments.
use Rattle.std.proofs.Common.{◌≡◌, ◌∙◌, ◌==◌, ◌||◌, ◌++◌, ◌<◌, ◌+◌, ◌-◌, ℕ, zero, suc, Bool, true, false, cond, List, [], ◌∷◌, length, map, take, drop, get_or, Bor, refl, sym, ap, arith, append_assoc, append-nil}
use Rattle.std.specs.Prelude.{if◌then◌else◌}
use Rattle.std.specs.List.{concat, list_any, onto_first, slice_split}
use Rattle.std.proofs.lemmas.Bool.{or_from, or_parts}
use Rattle.std.proofs.lemmas.List.Folds.{list_any-append}
use Rattle.std.proofs.lemmas.List.Splits.{length-slice_split}
use Rattle.std.proofs.lemmas.Bool.{eqb-true}
use Rattle.vkg_lists.specs.Lists.{without_last}
use Rattle.vkg_terms.specs.Resolve.{is_dot, is_dots, kept, remove_dots, segments, without_dots}
use Rattle.vkg_turtle.specs.Fronts.{has_dots, is_dot_segment}

pub any_of_texts : (p : List ℕ → Bool) (xs : List (Bor (List ℕ))) → list_any (λ x. p x.now) xs ≡ list_any p (map (λ x. x.now) xs)
any_of_texts p [] = refl
any_of_texts p (x ∷ xs) = ap (λ b. p x.now || b) (any_of_texts p xs)

-- ---- the segments of two paths with a slash between them

onto_by : (x : ℕ) (ps bs : List (List ℕ)) (b : Bool) → 0 < length ps → cond b ([] ∷ (ps ++ bs)) (onto_first x (ps ++ bs)) ≡ cond b ([] ∷ ps) (onto_first x ps) ++ bs
onto_by x [] bs b l = absurd (omega arith)
onto_by x (p ∷ ps) bs true l = refl
onto_by x (p ∷ ps) bs false l = refl

pub segments_joined : (xs ys : List ℕ) → segments (xs ++ 47 ∷ ys) ≡ segments xs ++ segments ys
segments_joined [] ys = refl
segments_joined (x ∷ xs) ys =
    ap (λ l. cond (x == 47) ([] ∷ l) (onto_first x l)) (segments_joined xs ys)
    ∙ onto_by x (segments xs) (segments ys) (x == 47) (omega (arith, length-slice_split (λ b. b == 47) xs))

pub dots_joined : (xs ys : List ℕ) → has_dots (xs ++ 47 ∷ ys) ≡ (has_dots xs || has_dots ys)
dots_joined xs ys = ap (list_any is_dot_segment) (segments_joined xs ys) ∙ list_any-append is_dot_segment (segments xs) (segments ys)

-- ---- the path again

abbrev slashed : List (List ℕ) → List ℕ
slashed [] = []
slashed (s ∷ ss) = 47 ∷ (s ++ slashed ss)

abbrev joined : List (List ℕ) → List ℕ
joined [] = []
joined (s ∷ ss) = s ++ slashed ss

joined_by : (x : ℕ) (parts : List (List ℕ)) (b : Bool) → (x == 47) ≡ b → 0 < length parts → joined (cond b ([] ∷ parts) (onto_first x parts)) ≡ x ∷ joined parts
joined_by x [] b e l = absurd (omega arith)
joined_by x (p ∷ ps) true e l = ap (λ c. c ∷ (p ++ slashed ps)) (sym (eqb-true x 47 e))
joined_by x (p ∷ ps) false e l = refl

joined_segments : (path : List ℕ) → joined (segments path) ≡ path
joined_segments [] = refl
joined_segments (x ∷ xs) = joined_by x (segments xs) (x == 47) refl (omega (arith, length-slice_split (λ b. b == 47) xs)) ∙ ap (λ (l : List ℕ). x ∷ l) (joined_segments xs)

-- ---- without dot segments nothing goes

by_tests : (a b : Bool) (x y z : List (List ℕ)) → (a || b) ≡ false → (if a then x else if b then y else z) ≡ z
by_tests true b x y z h = absurd (cc)
by_tests false true x y z h = absurd (cc)
by_tests false false x y z h = refl

plain_kept : (done ss : List (List ℕ)) (s : List ℕ) → is_dot_segment s ≡ false → kept done (s ∷ ss) ≡ kept (done ++ (47 ∷ s) ∷ []) ss
plain_kept done [] s e = by_tests (is_dot s) (is_dots s) (done ++ (47 ∷ []) ∷ []) (without_last done ++ (47 ∷ []) ∷ []) (done ++ (47 ∷ s) ∷ []) e
plain_kept done (t ∷ ss) s e = by_tests (is_dot s) (is_dots s) (kept done (t ∷ ss)) (kept (without_last done) (t ∷ ss)) (kept (done ++ (47 ∷ s) ∷ []) (t ∷ ss)) e

concat_push : (ps : List (List ℕ)) (q rest : List ℕ) → concat (ps ++ q ∷ []) ++ rest ≡ concat ps ++ (q ++ rest)
concat_push [] q rest = ap (λ (l : List ℕ). l ++ rest) (append-nil q)
concat_push (p ∷ ps) q rest = append_assoc p (concat (ps ++ q ∷ [])) rest ∙ ap (λ (l : List ℕ). p ++ l) (concat_push ps q rest) ∙ sym (append_assoc p (concat ps) (q ++ rest))

all_kept : (done ss : List (List ℕ)) → list_any is_dot_segment ss ≡ false → concat (kept done ss) ≡ concat done ++ slashed ss
all_kept done [] h = sym (append-nil (concat done))
all_kept done (s ∷ ss) h =
    let (here, rest) = or_parts (is_dot_segment s) (list_any is_dot_segment ss) h in
    ap concat (plain_kept done ss s here)
    ∙ all_kept (done ++ (47 ∷ s) ∷ []) ss rest
    ∙ concat_push done (47 ∷ s) (slashed ss)

all_stay : (ss : List (List ℕ)) → list_any is_dot_segment ss ≡ false → concat (without_dots ss) ≡ joined ss
all_stay [] h = refl
all_stay (s ∷ ss) h =
    let (here, rest) = or_parts (is_dot_segment s) (list_any is_dot_segment ss) h in
    ap (λ b. concat (if b then without_dots ss else kept (s ∷ []) ss)) here
    ∙ all_kept (s ∷ []) ss rest
    ∙ ap (λ (l : List ℕ). l ++ slashed ss) (append-nil s)

pub dotless_stays : (path : List ℕ) → has_dots path ≡ false → remove_dots path ≡ path
dotless_stays path h = all_stay (segments path) h ∙ joined_segments path
