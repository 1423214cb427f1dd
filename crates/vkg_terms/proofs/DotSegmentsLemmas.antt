-- Dot segments are removed a segment at a time.
use Rattle.std.proofs.Common.{◌≡◌, ◌==◌, ◌++◌, ◌∷◌, [], List, ℕ, ◌+◌, ◌-◌, ◌<◌, sym, ap, ◌∙◌, refl, Option, Some, None, Bool, true, false, length, drop, take, get_or, map, arith, Bor, flat_map, add-one, length-drop, drop-cons}
use Rattle.std.specs.Prelude.{option_to_list, if◌then◌else◌, MatchOption}
use Rattle.std.specs.List.{concat}
use Rattle.std.proofs.lemmas.Bool.Decides.{nat_tests}
use Rattle.std.proofs.lemmas.List.{append-nil, length-map, map-append}
use Rattle.std.proofs.lemmas.List.Concat.{concat_is}
use Rattle.std.proofs.lemmas.List.Folds.{flat_map-map}
use Rattle.vkg_lists.specs.Lists.{without_last}
use Rattle.vkg_lists.proofs.Heads.{without_last-push}
use Rattle.vkg_terms.specs.Resolve.{is_dot, is_dots, kept}
use Rattle.vkg_terms.specs.DotSegments.{going, with_segment}

module _ {A B : Type 0} (f : A → B) where
  last_off : (xs : List A) (x : A) → without_last (map f (xs ++ x ∷ [])) ≡ map f xs
  last_off xs x = ap without_last (map-append f xs (x ∷ [])) ∙ without_last-push (map f xs) (f x)

  -- what `pop` leaves of n items
  pub popped : (old new : List A) (r : Option A) (n : ℕ) (Q : Type 0) (P : A → Type 0) → old ≡ new ++ option_to_list r → MatchOption r ((n ≡ 0) × Q) P → new ≡ take (n - 1) old → map f new ≡ without_last (map f old)
  popped old new (Some x) n Q P e h g = sym (ap (λ (l : List A). without_last (map f l)) e ∙ last_off new x)
  popped old new None n Q P e h g =
      let none : new ≡ [] = g ∙ ap (λ k. take k old) (let k : n - 1 ≡ 0 = omega (arith, h.0) in k) in
      let all : old ≡ [] = e ∙ append-nil new ∙ none in
      ap (map f) none ∙ sym (ap (λ (l : List A). without_last (map f l)) all)

by_tests : (a b : Bool) (x y z rest : List (List ℕ))
    → (if a then kept x rest else if b then kept y rest else kept z rest) ≡ kept (if a then x else if b then y else z) rest
by_tests true b x y z rest = refl
by_tests false true x y z rest = refl
by_tests false false x y z rest = refl

-- one more segment of those that are left
step_kept : (done rest : List (List ℕ)) (s : List ℕ) (last : Bool) → last ≡ (length rest == 0) → kept done (s ∷ rest) ≡ kept (with_segment done s last) rest
step_kept done [] s last e = ap (λ b. kept (with_segment done s b) []) (sym e)
step_kept done (t ∷ rest) s last e =
    let more : last ≡ false = grind (arith, nat_tests) in
    by_tests (is_dot s) (is_dots s) done (without_last done) (done ++ (47 ∷ s) ∷ []) (t ∷ rest) ∙ ap (λ b. kept (with_segment done s b) (t ∷ rest)) (sym more)

-- one more turn of the loop, once the first segment that stays was found
pub kept_step : (started : Bool) (done new : List (List ℕ)) (segs : List (Bor (List ℕ))) (i : ℕ) (d : Bor (List ℕ)) (all : List (List ℕ))
    → started ≡ true → i < length segs → going started done (map (λ x. x.now) (drop i segs)) ≡ all
    → new ≡ with_segment done (get_or segs i d).now (i == length segs - 1) → going started new (map (λ x. x.now) (drop (i + 1) segs)) ≡ all
kept_step started done new segs i d all begun inside before now =
    let texts : List (Bor (List ℕ)) → List (List ℕ) = λ l. map (λ x. x.now) l in
    let rest = drop (i + 1) segs in
    let here : drop i segs ≡ get_or segs i d ∷ rest = drop-cons segs i d inside ∙ ap (λ k. get_or segs i d ∷ drop k segs) (sym (add-one i)) in
    let count : length (texts rest) ≡ length segs - (i + 1) = length-map rest (λ x. x.now) ∙ length-drop (i + 1) segs in
    let last : (i == length segs - 1) ≡ (length (texts rest) == 0) = grind (arith, nat_tests) in
    ap (λ b. going b new (texts rest)) begun
    ∙ ap (λ l. kept l (texts rest)) now
    ∙ sym (step_kept done (texts rest) (get_or segs i d).now (i == length segs - 1) last)
    ∙ ap (λ l. kept done (texts l)) (sym here)
    ∙ ap (λ b. going b done (texts (drop i segs))) (sym begun)
    ∙ before

pub flat_concat : {A : Type 0} (f : A → List ℕ) (xs : List A) → flat_map f xs ≡ concat (map f xs)
flat_concat f xs = sym (concat_is (map f xs) ∙ flat_map-map (λ x. x) f xs)
