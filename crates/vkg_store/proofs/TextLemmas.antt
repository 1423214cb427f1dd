-- The texts of a set of strings, and their numbers.
use Rattle.std.proofs.Common.{◌≡◌, ◌∙◌, ◌++◌, ◌∷◌, [], ℕ, Bool, true, false, List, Some, None, map, position, slice_get, length, ap, refl, sym, subst, if◌then◌else◌}
use Rattle.std.specs.Prelude.{is_some, Result, Ok, Err, OnOk}
use Rattle.std.specs.List.{list_any}
use Rattle.std.specs.Str.{bytes_eq}
use Rattle.std.specs.Cmp.Lexicographic.{bytes_decides}
use Rattle.std.proofs.lemmas.List.{map-append}
use Rattle.vkg_lists.proofs.Positions.{any_at, first_found, place_some}
use Rattle.vkg_store.specs.Stored.{interned}

pub stored_at_place : (t : List ℕ) (xs : List (List ℕ)) (i : ℕ) → position (bytes_eq t) xs ≡ Some i → slice_get xs i ≡ Some t
stored_at_place t xs i e =
    let f = first_found (bytes_eq t) xs (any_at (bytes_eq t) xs ∙ ap is_some e) in
    subst (λ k. slice_get xs k ≡ Some t) (sym (place_some (bytes_eq t) xs i e)) (f.1.at ∙ ap Some (sym ((bytes_decides _ _).0 f.1.passes)))

pub lacks_text : (t : List ℕ) (xs : List (List ℕ)) → position (bytes_eq t) xs ≡ None → list_any (bytes_eq t) xs ≡ false
lacks_text t xs e = any_at (bytes_eq t) xs ∙ ap is_some e

pub get-last : (xs : List (List ℕ)) (x : List ℕ) → slice_get (xs ++ x ∷ []) (length xs) ≡ Some x
get-last [] x = refl
get-last (y ∷ ys) x = get-last ys x

pub map-added : {X : Type 0} (text : X → List ℕ) (b : Bool) (xs : List X) (x : X) → b ≡ false → map text (if b then xs else xs ++ x ∷ []) ≡ map text xs ++ text x ∷ []
map-added text true xs x e = cc e
map-added text false xs x e = map-append text xs (x ∷ [])

pub interned-there : (t : List ℕ) (xs : List (List ℕ)) (i : ℕ) → position (bytes_eq t) xs ≡ Some i → xs ≡ interned xs t
interned-there t xs i e = ap (λ b. if b then xs else xs ++ t ∷ []) (sym (any_at (bytes_eq t) xs ∙ ap is_some e))

pub interned-new : (t : List ℕ) (xs : List (List ℕ)) → position (bytes_eq t) xs ≡ None → xs ++ t ∷ [] ≡ interned xs t
interned-new t xs e = ap (λ b. if b then xs else xs ++ t ∷ []) (sym (lacks_text t xs e))

pub on-ok : {T E P : Type 0} (r : Result T E) → P → OnOk r P
on-ok (Ok x) p = p
on-ok (Err e) p = tt
