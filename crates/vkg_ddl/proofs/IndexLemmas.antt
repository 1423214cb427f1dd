-- A column is found by its name in small letters.
use Rattle.std.proofs.Common.{◌≡◌, ℕ, suc, ◌+◌, ◌<◌, refl, sym, ◌∙◌, ap, ap₂, List, [], ◌∷◌, ◌++◌, drop, length, get_or, Bool, true, false, cond, Some, None, arith, append_assoc}
use Rattle.std.specs.Prelude.{find, position, slice_get, if◌then◌else◌}
use Rattle.std.specs.Option.{option_map_or}
use Rattle.std.specs.List.{cons_option, enumerate_from, position_from}
use Rattle.std.specs.Str.{bytes_eq, str_to_ascii_lowercase}
use Rattle.std.proofs.lemmas.Iterator.Adapters.{position_from-zero}
use Rattle.std.proofs.lemmas.Slice.Eq.{bytes_eq-Decides}
use Rattle.vkg_lists.proofs.Firsts.{opened}
use Rattle.vkg_ddl.specs.declared.name.Name.{Name}
use Rattle.vkg_ddl.specs.declared.written.WrittenColumn.{WrittenColumn}
use Rattle.vkg_ddl.specs.Index.{is_named, places_named}
use Rattle.vkg_ddl.specs.NameChecks.{column_place, matches, text_matches}

-- ---- one more column in the index

one_more : (b : Bool) (i : ℕ) (g rest : List ℕ) → (g ++ (if b then i ∷ [] else [])) ++ rest ≡ g ++ cons_option (if b then Some i else None) rest
one_more true i g rest = append_assoc g (i ∷ []) rest
one_more false i g rest = append_assoc g [] rest

pub places_more : (xs : List WrittenColumn) (i : ℕ) (x : WrittenColumn) (q : List ℕ) (g g' all : List ℕ) → i < length xs → x ≡ get_or xs i x → g' ≡ g ++ (if is_named q x then i ∷ [] else []) → g ++ places_named q (enumerate_from i (drop i xs)) ≡ all → g' ++ places_named q (enumerate_from (i + 1) (drop (i + 1) xs)) ≡ all
places_more xs i x q g g' all h e n was =
    let rest = places_named q (enumerate_from (i + 1) (drop (i + 1) xs)) in
    ap (λ g. g ++ rest) n
    ∙ (one_more (is_named q x) i g rest
    ∙ (ap (λ ys. g ++ places_named q (enumerate_from i ys)) (sym (opened xs i x h e)) ∙ was))

-- ---- what is found under a text

module _ (q : List ℕ) (test : WrittenColumn → Bool) (other : (c : WrittenColumn) → is_named q c ≡ false → test c ≡ false) where
  abbrev passes : List WrittenColumn → ℕ → Bool
  passes all k = option_map_or test (slice_get all k) false

  found_from : (all : List WrittenColumn) (k : ℕ) (xs : List WrittenColumn) → ((i : ℕ) → slice_get all (k + i) ≡ slice_get xs i) → find (passes all) (places_named q (enumerate_from k xs)) ≡ position_from test k xs
  found_from all k [] at = refl
  found_from all k (x ∷ xs) at = split (is_named q x) refl
      (found_from all (k + 1) xs (λ i. let e : (k + 1) + i ≡ k + suc i = omega arith in ap (λ j. slice_get all j) e ∙ at (suc i)))
    where
      here : slice_get all k ≡ Some x
      here = let e : k ≡ k + 0 = omega arith in ap (λ j. slice_get all j) e ∙ at 0

      split : (b : Bool) → is_named q x ≡ b → find (passes all) (places_named q (enumerate_from (k + 1) xs)) ≡ position_from test (k + 1) xs → find (passes all) (cons_option (if is_named q x then Some k else None) (places_named q (enumerate_from (k + 1) xs))) ≡ position_from test k (x ∷ xs)
      split true e r =
          ap (λ b. find (passes all) (cons_option (if b then Some k else None) (places_named q (enumerate_from (k + 1) xs)))) e
          ∙ ap₂ (λ o rest. cond (option_map_or test o false) (Some k) rest) here r
      split false e r =
          ap (λ b. find (passes all) (cons_option (if b then Some k else None) (places_named q (enumerate_from (k + 1) xs)))) e
          ∙ (r ∙ ap (λ b. cond b (Some k) (position_from test (k + 1) xs)) (sym (other x e)))

  found : (xs : List WrittenColumn) → find (passes xs) (places_named q (enumerate_from 0 xs)) ≡ position test xs
  found xs = found_from xs 0 xs (λ i. let e : 0 + i ≡ i = omega arith in ap (λ j. slice_get xs j) e) ∙ sym (position_from-zero test xs)

-- ---- a name that matches says the same in small letters

same_text : (a b : List ℕ) → bytes_eq a b ≡ true → bytes_eq (str_to_ascii_lowercase a) (str_to_ascii_lowercase b) ≡ true
same_text a b e = (bytes_eq-Decides _ _).1 (ap str_to_ascii_lowercase ((bytes_eq-Decides a b).0 e))

says_other : (a b : List ℕ) (d : Bool) → bytes_eq (str_to_ascii_lowercase a) (str_to_ascii_lowercase b) ≡ false → text_matches a d b ≡ false
says_other a b false e = e
says_other a b true e = by (bytes_eq a b) refl
  where
    by : (t : Bool) → bytes_eq a b ≡ t → t ≡ false
    by false h = refl
    by true h = sym (same_text a b h) ∙ e

pub place_found : (columns : List WrittenColumn) (n : Name) → find (λ k. option_map_or (λ c. matches n c.name) (slice_get columns k) false) (places_named (str_to_ascii_lowercase n.text) (enumerate_from 0 columns)) ≡ column_place columns n
place_found columns n = found (str_to_ascii_lowercase n.text) (λ c. matches n c.name) (λ c e. says_other n.text c.name.text n.delimited e) columns
