-- Rows agree where their parts are equal.
use Rattle.std.proofs.Common.{◌≡◌, ◌≢◌, ◌∙◌, ◌&&◌, ◌||◌, ◌++◌, ℕ, zero, suc, Bool, true, false, not, List, [], ◌∷◌, Option, Some, None, map, option_map, if◌then◌else◌, refl, sym, ap, ap₂, string_bytes, length, get_or, ◌<◌, ◌≤◌}
use Rattle.std.specs.List.{list_any}
use Rattle.std.specs.Cmp.Lexicographic.{bytes_decides, pointwise, pointwise_decides}
use Rattle.std.specs.Cmp.Derive.Mapped.{pointwise-map}
use Rattle.std.proofs.lemmas.List.{get_or_past, map-append, map-id}
use Rattle.std.proofs.lemmas.Option.{slice_get-get_or, unwrap_or-slice_get}
use Rattle.std.proofs.Math.Bool.{and-false, or-false}
use Rattle.std.specs.Str.{bytes_eq}
use Rattle.std.specs.Prelude.{String, is_some, slice_get, unwrap_or}
use Rattle.std.specs.String.{string_eq}
use Rattle.std.specs.Prelude.{Vec}
use Rattle.std.specs.Option.{option_to_list}
use Rattle.vkg_lists.specs.Options.{both_pass, with_first}
use Rattle.vkg_lists.proofs.Heads.{any_more}
use Rattle.vkg_lists.proofs.Onto.{is_some-first, onto_first}
use Rattle.vkg_lists.proofs.Walks.{map-map}
use Rattle.vkg_cells.specs.declared.cell.Cell.{Cell}
use Rattle.vkg_cells.specs.declared.cell.Cell.TheVariants as cell
use Rattle.vkg_cells.specs.Form.{lexical_form}
use Rattle.vkg_cells.specs.Keys.{key_parts}
use Rattle.vkg_cells.specs.Order.{same, same_form}
use Rattle.vkg_schema.specs.Rows.{Row, agree, equal_at, has_no_null, is_known, is_known_true, is_null, cell_at}
use Rattle.vkg_tables.specs.Checks.{is_orphan, repeats, with_itself}
use Rattle.vkg_tables.specs.Parts.{IsNoTerm, HasNoTerm, all_parts, is_missing, part, parts, texts_eq, texts_of}

cells-same : (c d : Cell) → IsNoTerm c → is_known_true (same c d) ≡ same_form (part c) (part d)
unfolding part
cells-same cell.Null d h = refl
cells-same (cell.Text a) cell.Null h = refl
cells-same (cell.Text a) (cell.Text b) h = refl
cells-same (cell.Text a) (cell.Int b) h = refl
cells-same (cell.Text a) (cell.Dec b) h = refl
cells-same (cell.Text a) (cell.Bool b) h = refl
cells-same (cell.Text a) (cell.Date b) h = refl
cells-same (cell.Text a) (cell.Stamp b) h = refl
cells-same (cell.Text a) (cell.Bin b) h = refl
cells-same (cell.Text a) (cell.Time b) h = refl
cells-same (cell.Text a) (cell.Term b) h = refl
cells-same (cell.Int a) cell.Null h = refl
cells-same (cell.Int a) (cell.Text b) h = refl
cells-same (cell.Int a) (cell.Int b) h = refl
cells-same (cell.Int a) (cell.Dec b) h = refl
cells-same (cell.Int a) (cell.Bool b) h = refl
cells-same (cell.Int a) (cell.Date b) h = refl
cells-same (cell.Int a) (cell.Stamp b) h = refl
cells-same (cell.Int a) (cell.Bin b) h = refl
cells-same (cell.Int a) (cell.Time b) h = refl
cells-same (cell.Int a) (cell.Term b) h = refl
cells-same (cell.Dec a) cell.Null h = refl
cells-same (cell.Dec a) (cell.Text b) h = refl
cells-same (cell.Dec a) (cell.Int b) h = refl
cells-same (cell.Dec a) (cell.Dec b) h = refl
cells-same (cell.Dec a) (cell.Bool b) h = refl
cells-same (cell.Dec a) (cell.Date b) h = refl
cells-same (cell.Dec a) (cell.Stamp b) h = refl
cells-same (cell.Dec a) (cell.Bin b) h = refl
cells-same (cell.Dec a) (cell.Time b) h = refl
cells-same (cell.Dec a) (cell.Term b) h = refl
cells-same (cell.Bool a) cell.Null h = refl
cells-same (cell.Bool a) (cell.Text b) h = refl
cells-same (cell.Bool a) (cell.Int b) h = refl
cells-same (cell.Bool a) (cell.Dec b) h = refl
cells-same (cell.Bool a) (cell.Bool b) h = refl
cells-same (cell.Bool a) (cell.Date b) h = refl
cells-same (cell.Bool a) (cell.Stamp b) h = refl
cells-same (cell.Bool a) (cell.Bin b) h = refl
cells-same (cell.Bool a) (cell.Time b) h = refl
cells-same (cell.Bool a) (cell.Term b) h = refl
cells-same (cell.Date a) cell.Null h = refl
cells-same (cell.Date a) (cell.Text b) h = refl
cells-same (cell.Date a) (cell.Int b) h = refl
cells-same (cell.Date a) (cell.Dec b) h = refl
cells-same (cell.Date a) (cell.Bool b) h = refl
cells-same (cell.Date a) (cell.Date b) h = refl
cells-same (cell.Date a) (cell.Stamp b) h = refl
cells-same (cell.Date a) (cell.Bin b) h = refl
cells-same (cell.Date a) (cell.Time b) h = refl
cells-same (cell.Date a) (cell.Term b) h = refl
cells-same (cell.Stamp a) cell.Null h = refl
cells-same (cell.Stamp a) (cell.Text b) h = refl
cells-same (cell.Stamp a) (cell.Int b) h = refl
cells-same (cell.Stamp a) (cell.Dec b) h = refl
cells-same (cell.Stamp a) (cell.Bool b) h = refl
cells-same (cell.Stamp a) (cell.Date b) h = refl
cells-same (cell.Stamp a) (cell.Stamp b) h = refl
cells-same (cell.Stamp a) (cell.Bin b) h = refl
cells-same (cell.Stamp a) (cell.Time b) h = refl
cells-same (cell.Stamp a) (cell.Term b) h = refl
cells-same (cell.Bin a) cell.Null h = refl
cells-same (cell.Bin a) (cell.Text b) h = refl
cells-same (cell.Bin a) (cell.Int b) h = refl
cells-same (cell.Bin a) (cell.Dec b) h = refl
cells-same (cell.Bin a) (cell.Bool b) h = refl
cells-same (cell.Bin a) (cell.Date b) h = refl
cells-same (cell.Bin a) (cell.Stamp b) h = refl
cells-same (cell.Bin a) (cell.Bin b) h = refl
cells-same (cell.Bin a) (cell.Time b) h = refl
cells-same (cell.Bin a) (cell.Term b) h = refl
cells-same (cell.Time a) cell.Null h = refl
cells-same (cell.Time a) (cell.Text b) h = refl
cells-same (cell.Time a) (cell.Int b) h = refl
cells-same (cell.Time a) (cell.Dec b) h = refl
cells-same (cell.Time a) (cell.Bool b) h = refl
cells-same (cell.Time a) (cell.Date b) h = refl
cells-same (cell.Time a) (cell.Stamp b) h = refl
cells-same (cell.Time a) (cell.Bin b) h = refl
cells-same (cell.Time a) (cell.Time b) h = refl
cells-same (cell.Time a) (cell.Term b) h = refl
cells-same (cell.Term s) d h = absurd (h refl)

-- the first of a cell's two texts
pub part-first : (c : Cell) → lexical_form c ≢ None → option_map (λ p. p.0) (key_parts c) ≡ part c
unfolding part
part-first cell.Null h = absurd (h refl)
part-first (cell.Text a) h = refl
part-first (cell.Int a) h = refl
part-first (cell.Dec a) h = refl
part-first (cell.Bool a) h = refl
part-first (cell.Date a) h = refl
part-first (cell.Stamp a) h = refl
part-first (cell.Bin a) h = refl
part-first (cell.Time a) h = refl
part-first (cell.Term s) h = absurd (h refl)

cell-NoTerm : (r : Row) (k : ℕ) → HasNoTerm r → IsNoTerm (cell_at r k)
cell-NoTerm [] k h = λ e. cc e
cell-NoTerm (c ∷ r) zero h = h.0
cell-NoTerm (c ∷ r) (suc k) h = cell-NoTerm r k h.1

both-onto : (x y : Option (List ℕ)) (xs ys : Option (List (List ℕ))) → both_pass texts_eq (with_first x xs) (with_first y ys) ≡ same_form x y && both_pass texts_eq xs ys
both-onto None y xs ys = refl
both-onto (Some a) y None ys = sym (and-false (same_form (Some a) y))
both-onto (Some a) None (Some us) ys = refl
both-onto (Some a) (Some b) (Some us) None = sym (and-false (bytes_eq a b))
both-onto (Some a) (Some b) (Some us) (Some vs) = refl

-- the rows agree where the parts of the two sides are there and equal
pub agree-parts : (pairs : List (ℕ × ℕ)) (r s : Row) → HasNoTerm r → agree pairs r s ≡ both_pass texts_eq (parts (map (λ p. p.0) pairs) r) (parts (map (λ p. p.1) pairs) s)
unfolding equal_at
agree-parts [] r s h = refl
agree-parts (p ∷ ps) r s h =
    ap₂ (λ a b. a && b) (cells-same (cell_at r p.0) (cell_at s p.1) (cell-NoTerm r p.0 h)) (agree-parts ps r s h)
    ∙ sym (both-onto (part (cell_at r p.0)) (part (cell_at s p.1)) (parts (map (λ p. p.0) ps) r) (parts (map (λ p. p.1) ps) s))

first-itself : (key : List ℕ) → map (λ (p : ℕ × ℕ). p.0) (with_itself key) ≡ key
first-itself key = map-map (λ (p : ℕ × ℕ). p.0) (λ c. (c, c)) key ∙ map-id key

second-itself : (key : List ℕ) → map (λ (p : ℕ × ℕ). p.1) (with_itself key) ≡ key
second-itself key = map-map (λ (p : ℕ × ℕ). p.1) (λ c. (c, c)) key ∙ map-id key

-- the parts are there, and are some of these
abbrev pub found : Option (List (List ℕ)) → List (List (List ℕ)) → Bool
found None known = false
found (Some ps) known = list_any (texts_eq ps) known

any-both : (o : Option (List (List ℕ))) (columns : List ℕ) (rows : List Row) → list_any (λ r. both_pass texts_eq o (parts columns r)) rows ≡ found o (all_parts columns rows)
any-both None columns [] = refl
any-both None columns (r ∷ rs) = any-both None columns rs
any-both (Some ps) columns [] = refl
any-both (Some ps) columns (r ∷ rs) = step (parts columns r) (all_parts columns rs) (any-both (Some ps) columns rs)
  where
    step : (x : Option (List (List ℕ))) {rest : Bool} (more : List (List (List ℕ))) → rest ≡ list_any (texts_eq ps) more → both_pass texts_eq (Some ps) x || rest ≡ list_any (texts_eq ps) (option_to_list x ++ more)
    step None more e = e
    step (Some qs) more e = ap (λ b. texts_eq ps qs || b) e

any-agree : (pairs : List (ℕ × ℕ)) (r : Row) (rows : List Row) → HasNoTerm r
    → list_any (agree pairs r) rows ≡ list_any (λ s. both_pass texts_eq (parts (map (λ p. p.0) pairs) r) (parts (map (λ p. p.1) pairs) s)) rows
any-agree pairs r [] h = refl
any-agree pairs r (s ∷ rows) h = ap₂ (λ a b. a || b) (agree-parts pairs r s h) (any-agree pairs r rows h)

pub any-found : (pairs : List (ℕ × ℕ)) (r : Row) (rows : List Row) → HasNoTerm r
    → list_any (agree pairs r) rows ≡ found (parts (map (λ p. p.0) pairs) r) (all_parts (map (λ p. p.1) pairs) rows)
any-found pairs r rows h = any-agree pairs r rows h ∙ any-both (parts (map (λ p. p.0) pairs) r) (map (λ p. p.1) pairs) rows

pub repeats-found : (key : List ℕ) (before : List Row) (row : Row) → HasNoTerm row → repeats key before row ≡ found (parts key row) (all_parts key before)
repeats-found key before row h =
    any-found (with_itself key) row before h ∙ ap₂ (λ a b. found (parts a row) (all_parts b before)) (first-itself key) (second-itself key)

-- no column is NULL where the parts are there
known-part : (c : Cell) → IsNoTerm c → not (is_null c) ≡ is_some (part c)
unfolding part
known-part cell.Null h = refl
known-part (cell.Text a) h = refl
known-part (cell.Int a) h = refl
known-part (cell.Dec a) h = refl
known-part (cell.Bool a) h = refl
known-part (cell.Date a) h = refl
known-part (cell.Stamp a) h = refl
known-part (cell.Bin a) h = refl
known-part (cell.Time a) h = refl
known-part (cell.Term s) h = absurd (h refl)

known-parts : (columns : List ℕ) (r : Row) → HasNoTerm r → has_no_null columns r ≡ is_some (parts columns r)
unfolding is_known
known-parts [] r h = refl
known-parts (c ∷ cs) r h = ap₂ (λ a b. a && b) (known-part (cell_at r c) (cell-NoTerm r c h)) (known-parts cs r h) ∙ sym (is_some-first (part (cell_at r c)) (parts cs r))

missing : (o : Option (List (List ℕ))) (known : List (List (List ℕ))) → is_some o && not (found o known) ≡ is_missing o known
missing None known = refl
missing (Some ps) known = refl

pub orphan-missing : (pairs : List (ℕ × ℕ)) (targets : List Row) (row : Row) → HasNoTerm row
    → is_orphan pairs targets row ≡ is_missing (parts (map (λ p. p.0) pairs) row) (all_parts (map (λ p. p.1) pairs) targets)
orphan-missing pairs targets row h =
    ap₂ (λ a b. a && not b) (known-parts (map (λ p. p.0) pairs) row h) (any-found pairs row targets h)
    ∙ missing (parts (map (λ p. p.0) pairs) row) (all_parts (map (λ p. p.1) pairs) targets)

-- a set of lists of strings, as the texts in it
pub any-texts : {Y Z : Type 0} (xs : List (String Y)) (vs : List (Vec (String Y) Z))
    → list_any (λ v. pointwise string_eq xs v.items) vs ≡ list_any (texts_eq (map string_bytes xs)) (texts_of vs)
any-texts xs [] = refl
any-texts xs (v ∷ vs) = ap₂ (λ a b. a || b) (sym (pointwise-map string_bytes bytes_eq xs v.items)) (any-texts xs vs)

-- the walk over the columns
pub parts-stop : (done : List (List ℕ)) (cs : List ℕ) (c : ℕ) (rest : List ℕ) (row : Row) (whole : Option (List (List ℕ))) → cs ≡ c ∷ rest → part (cell_at row c) ≡ None
    → option_map (λ ps. done ++ ps) (parts cs row) ≡ whole → None ≡ whole
parts-stop done cs c rest row whole e n w = ap (λ x. option_map (λ ps. done ++ ps) (with_first x (parts rest row))) (sym n) ∙ ap (λ l. option_map (λ ps. done ++ ps) (parts l row)) (sym e) ∙ w

pub parts-step : (done : List (List ℕ)) (cs : List ℕ) (c : ℕ) (rest : List ℕ) (row : Row) (whole : Option (List (List ℕ))) (t : List ℕ) → cs ≡ c ∷ rest → part (cell_at row c) ≡ Some t
    → option_map (λ ps. done ++ ps) (parts cs row) ≡ whole → option_map (λ ps. (done ++ t ∷ []) ++ ps) (parts rest row) ≡ whole
parts-step done cs c rest row whole t e n w =
    sym (onto_first done t (parts rest row)) ∙ ap (λ x. option_map (λ ps. done ++ ps) (with_first x (parts rest row))) (sym n) ∙ ap (λ l. option_map (λ ps. done ++ ps) (parts l row)) (sym e) ∙ w

-- the cell at a place past the end, and an element at one within
pub cell_at-past : (row : Row) (k : ℕ) → length row ≤ k → cell_at row k ≡ cell.Null
cell_at-past row k h = unwrap_or-slice_get row k cell.Null ∙ get_or_past row k cell.Null h

pub value-there : {A : Type 0} (xs : List A) (i : ℕ) (d e : A) → i < length xs → unwrap_or (slice_get xs i) e ≡ get_or xs i d
value-there xs i d e h = ap (λ o. unwrap_or o e) (slice_get-get_or xs i d h)

-- what is among them adds nothing
settled : (f t : List (List ℕ)) (ks : List (List (List ℕ))) → list_any (texts_eq t) ks ≡ true → list_any (texts_eq f) ks ≡ list_any (texts_eq f) (ks ++ t ∷ [])
settled f t ks e = by (texts_eq f t) refl ∙ sym (any_more (texts_eq f) ks t)
  where
    by : (b : Bool) → texts_eq f t ≡ b → list_any (texts_eq f) ks ≡ list_any (texts_eq f) ks || texts_eq f t
    by true h =
        let here : list_any (texts_eq f) ks ≡ true = ap (λ g. list_any (texts_eq g) ks) ((pointwise_decides bytes_decides f t).0 h) ∙ e in
        here ∙ sym (ap (λ b. b || texts_eq f t) here)
    by false h = sym (ap (λ b. list_any (texts_eq f) ks || b) h ∙ or-false (list_any (texts_eq f) ks))

inserted : {Y Z : Type 0} (f : List (List ℕ)) (b : Bool) (vs : List (Vec (String Y) Z)) (v : Vec (String Y) Z) → list_any (texts_eq (map string_bytes v.items)) (texts_of vs) ≡ b
    → list_any (texts_eq f) (texts_of (if b then vs else vs ++ v ∷ [])) ≡ list_any (texts_eq f) (texts_of vs ++ map string_bytes v.items ∷ [])
inserted f true vs v e = settled f (map string_bytes v.items) (texts_of vs) e
inserted f false vs v e = ap (list_any (texts_eq f)) (map-append (λ w. map string_bytes w.items) vs (v ∷ []))

-- a set with one list of strings more
pub any-inserted : {Y Z : Type 0} (f : List (List ℕ)) (vs : List (Vec (String Y) Z)) (v : Vec (String Y) Z)
    → list_any (texts_eq f) (texts_of (if list_any (λ y. pointwise string_eq v.items y.items) vs then vs else vs ++ v ∷ [])) ≡ list_any (texts_eq f) (texts_of vs) || texts_eq f (map string_bytes v.items)
any-inserted f vs v = inserted f (list_any (λ y. pointwise string_eq v.items y.items) vs) vs v (sym (any-texts v.items vs)) ∙ any_more (texts_eq f) (texts_of vs) (map string_bytes v.items)
