-- The walk to the first element that passes a test.
use Rattle.std.proofs.Common.{◌≡◌, ◌∙◌, ◌+◌, ◌<◌, ◌++◌, ℕ, Bool, true, false, not, List, [], ◌∷◌, Option, Some, None, if◌then◌else◌, refl, sym, ap, ap₂, subst, arith, length, get_or, take, drop, map, string_bytes, String, Vec}
use Rattle.std.proofs.lemmas.List.{take_more, length-take-le, map-append}
use Rattle.std.specs.List.{AllByRecursion, list_any}
use Rattle.std.specs.Option.{option_to_list}
use Rattle.vkg_lists.proofs.Firsts.{opened}
use Rattle.vkg_lists.proofs.Members.{recursion_at}
use Rattle.vkg_lists.proofs.Walks.{flat_map-take_more}
use Rattle.vkg_schema.specs.Rows.{Row}
use Rattle.vkg_tables.specs.Checks.{is_orphan, repeats}
use Rattle.vkg_tables.specs.Firsts.{first_after}
use Rattle.vkg_tables.specs.Parts.{HasNoTerm, all_parts, is_missing, parts, texts_eq, texts_of}
use Rattle.vkg_tables.proofs.PartsLemmas.{found, orphan-missing, repeats-found}

module _ {A : Type 0} (p : List A → A → Bool) (xs : List A) (i : ℕ) (x : A) (whole : Option ℕ) (h : i < length xs) (e : x ≡ get_or xs i x) where
  pub take-next : take (i + 1) xs ≡ take i xs ++ x ∷ []
  take-next = take_more xs i x h ∙ ap (λ y. take i xs ++ y ∷ []) (sym e)

  stepped : first_after p (take i xs) (drop i xs) ≡ whole → (if p (take i xs) x then Some (length (take i xs) + 1) else first_after p (take i xs ++ x ∷ []) (drop (i + 1) xs)) ≡ whole
  stepped w = ap (first_after p (take i xs)) (sym (opened xs i x h e)) ∙ w

  pub first-step : first_after p (take i xs) (drop i xs) ≡ whole → p (take i xs) x ≡ false → first_after p (take (i + 1) xs) (drop (i + 1) xs) ≡ whole
  first-step w f =
      ap (λ t. first_after p t (drop (i + 1) xs)) take-next
      ∙ ap (λ b. if b then Some (length (take i xs) + 1) else first_after p (take i xs ++ x ∷ []) (drop (i + 1) xs)) (sym f) ∙ stepped w

  pub first-found : first_after p (take i xs) (drop i xs) ≡ whole → p (take i xs) x ≡ true → Some (i + 1) ≡ whole
  first-found w t =
      ap (λ n. Some (n + 1)) (sym (length-take-le i xs (omega (arith, h))))
      ∙ ap (λ b. if b then Some (length (take i xs) + 1) else first_after p (take i xs ++ x ∷ []) (drop (i + 1) xs)) (sym t) ∙ stepped w

-- a row whose parts are there, and the parts of the rows before it
pub repeats-known : (key : List ℕ) (rows : List Row) (i : ℕ) (row : Row) (o : Option (List (List ℕ))) (known : List (List (List ℕ)))
    → AllByRecursion HasNoTerm rows → i < length rows → row ≡ get_or rows i row → o ≡ parts key row → known ≡ all_parts key (take i rows)
    → repeats key (take i rows) row ≡ found o known
repeats-known key rows i row o known a h e f s =
    let n : HasNoTerm row = subst HasNoTerm (sym e) (recursion_at HasNoTerm rows i row a h) in
    repeats-found key (take i rows) row n ∙ ap₂ found (sym f) (sym s)

pub orphan-known : (pairs : List (ℕ × ℕ)) (targets rows : List Row) (i : ℕ) (row : Row)
    → AllByRecursion HasNoTerm rows → i < length rows → row ≡ get_or rows i row
    → is_orphan pairs targets row ≡ is_missing (parts (map (λ p. p.0) pairs) row) (all_parts (map (λ p. p.1) pairs) targets)
orphan-known pairs targets rows i row a h e = orphan-missing pairs targets row (subst HasNoTerm (sym e) (recursion_at HasNoTerm rows i row a h))

-- the parts of one row more
pub parts-next : (columns : List ℕ) (rows : List Row) (i : ℕ) (row : Row) → i < length rows → row ≡ get_or rows i row
    → all_parts columns (take (i + 1) rows) ≡ all_parts columns (take i rows) ++ option_to_list (parts columns row)
parts-next columns rows i row h e =
    flat_map-take_more (λ r. option_to_list (parts columns r)) rows i row h
    ∙ ap (λ r. all_parts columns (take i rows) ++ option_to_list (parts columns r)) (sym e)

-- a set with a list of strings that it lacked
pub texts-pushed : {Y Z : Type 0} (vs : List (Vec (String Y) Z)) (v : Vec (String Y) Z) → texts_of (vs ++ v ∷ []) ≡ texts_of vs ++ map string_bytes v.items ∷ []
texts-pushed vs v = map-append (λ w. map string_bytes w.items) vs (v ∷ [])

pub missing-same : (o : Option (List (List ℕ))) (xs ys : List (List (List ℕ))) → ((f : List (List ℕ)) → list_any (texts_eq f) xs ≡ list_any (texts_eq f) ys) → is_missing o xs ≡ is_missing o ys
missing-same None xs ys h = refl
missing-same (Some f) xs ys h = ap not (h f)
