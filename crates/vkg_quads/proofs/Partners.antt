-- The partners of a row are among the rows of its key.
use Rattle.std.proofs.Common.{◌≡◌, ℕ, ◌+◌, refl, sym, ◌∙◌, ap, List, [], ◌∷◌, ◌++◌, append-nil, append_assoc, map, flat_map, filter, take, Bool, true, Option, Some, None}
use Rattle.std.specs.Prelude.{filter_map, slice_get, option_map}
use Rattle.std.specs.List.{cons_option}
use Rattle.std.specs.Str.{bytes_eq}
use Rattle.std.proofs.lemmas.Slice.Eq.{bytes_eq-Decides}
use Rattle.std.proofs.lemmas.List.Elements.{filter_map-append, filter-append}
use Rattle.std.proofs.lemmas.List.{flat_map_more, map-append}
use Rattle.std.proofs.lemmas.Option.{same_Some}
use Rattle.vkg_lists.specs.Options.{both_pass}
use Rattle.vkg_lists.proofs.Bools.{is_false}
use Rattle.vkg_lists.proofs.Members.{filter_drops}
use Rattle.vkg_lists.proofs.Onto.{map_lacking}
use Rattle.vkg_lists.proofs.Walks.{filter_absorbs}
use Rattle.vkg_terms.specs.NQuads.{Quad, line}
use Rattle.vkg_schema.specs.Rows.{Row, agree}
use Rattle.vkg_index.specs.Keys.{row_key, has_key}
use Rattle.vkg_index.proofs.OneKey.{near, far, one_key}
use Rattle.vkg_index.proofs.OneMore.{one_more}

-- a row without key has no partner
pub no_partner : (ps : List (ℕ × ℕ)) (r : Row) (rows : List Row) → row_key r (map near ps) ≡ None → filter (agree ps r) rows ≡ []
no_partner ps r rows e = filter_drops (agree ps r) rows (λ s c. is_false (agree ps r s) (λ a. let k = one_key ps r s a in let f : None ≡ Some k.0 = sym e ∙ k.1 in cc (f)))

pub partners : (ps : List (ℕ × ℕ)) (r : Row) (rows : List Row) (key : List ℕ) → row_key r (map near ps) ≡ Some key → filter (agree ps r) (filter (has_key (map far ps) key) rows) ≡ filter (agree ps r) rows
partners ps r rows key e = filter_absorbs (agree ps r) (has_key (map far ps) key) has rows
  where
    has : (s : Row) → agree ps r s ≡ true → has_key (map far ps) key s ≡ true
    has s a =
        let k = one_key ps r s a in
        let f : key ≡ k.0 = same_Some key k.0 (sym e ∙ k.1) in
        ap (both_pass bytes_eq (Some key)) k.2 ∙ (bytes_eq-Decides key k.0).1 f

-- the lines of partners that are looked at one by one
pub one_by_one : (f : Row → Option Quad) (t : Row → Bool) (rows : List Row) (ns : List ℕ) → flat_map (λ n. map line (filter_map f (filter t (filter_map (slice_get rows) (n ∷ []))))) ns ≡ map line (filter_map f (filter t (filter_map (slice_get rows) ns)))
one_by_one f t rows [] = refl
one_by_one f t rows (n ∷ ns) =
    ap (λ r. map line (filter_map f (filter t (filter_map (slice_get rows) (n ∷ [])))) ++ r) (one_by_one f t rows ns)
    ∙ (sym (map-append line (filter_map f (filter t (filter_map (slice_get rows) (n ∷ [])))) (filter_map f (filter t (filter_map (slice_get rows) ns))))
    ∙ ap (λ qs. map line qs) (sym (filter_map-append f (filter t (filter_map (slice_get rows) (n ∷ []))) (filter t (filter_map (slice_get rows) ns)))
    ∙ ap (λ rs. filter_map f rs) (sym (filter-append t (filter_map (slice_get rows) (n ∷ [])) (filter_map (slice_get rows) ns))
    ∙ ap (λ rs. filter t rs) (sym (filter_map-append (slice_get rows) (n ∷ []) ns)))))

pub quad_none : (o : Option Quad) (xs : List (List ℕ)) → None ≡ option_map line o → xs ≡ xs ++ map line (cons_option o [])
quad_none o xs e = sym (append-nil xs) ∙ ap (λ o. xs ++ map line (cons_option o [])) (sym (map_lacking line o (sym e)))

pub quad_some : (o : Option Quad) (l : List ℕ) (xs : List (List ℕ)) → Some l ≡ option_map line o → xs ++ l ∷ [] ≡ xs ++ map line (cons_option o [])
quad_some None l xs e = cc
quad_some (Some q) l xs e = let f : l ≡ line q = cc in ap (λ m. xs ++ m ∷ []) f

-- the numbered rows that a row agrees with are all that it agrees with
pub partners_by : (ps : List (ℕ × ℕ)) (r : Row) (rows : List Row) (key ns : List ℕ) → row_key r (map near ps) ≡ Some key → filter_map (slice_get rows) ns ≡ filter (has_key (map far ps) key) rows → filter (agree ps r) (filter_map (slice_get rows) ns) ≡ filter (agree ps r) rows
partners_by ps r rows key ns k e = ap (λ rs. filter (agree ps r) rs) e ∙ partners ps r rows key k

-- the lines of one more row
pub push_more : (f : Row → List Quad) (rows : List Row) (i : ℕ) (row : Row) (out was new : List (List ℕ)) → slice_get rows i ≡ Some row → was ≡ out ++ map line (flat_map f (take i rows)) → new ≡ was ++ map line (f row) → new ≡ out ++ map line (flat_map f (take (i + 1) rows))
push_more f rows i row out was new e w n =
    n ∙ (ap (λ ls. ls ++ map line (f row)) w
    ∙ (append_assoc out (map line (flat_map f (take i rows))) (map line (f row))
    ∙ ap (λ ls. out ++ ls) (sym (map-append line (flat_map f (take i rows)) (f row))
    ∙ ap (map line) (flat_map_more f [] (take i rows) row ∙ ap (flat_map f) (sym (one_more rows i row e))))))
