-- The solutions in the asked order: in whatever order they came, and in that of their lines.
use Rattle.std.proofs.Common.{◌≡◌, ◌∙◌, ℕ, false, List, [], ◌∷◌, map, take, drop, Option, Some, None, refl, sym, ap, Ordering, Less, Equal, Greater, is_lt}
use Rattle.std.specs.Cmp.{IsTotalOrder, on_total, then_total}
use Rattle.std.specs.Cmp.Lexicographic.{lists_total, options_total}
use Rattle.std.specs.Option.{option_cmp}
use Rattle.std.specs.Ordering.{ordering_then}
use Rattle.std.specs.List.{AllByRecursion, Contains}
use Rattle.std.specs.List.Sorted.{IsPermutation, IsSorted}
use Rattle.std.proofs.lemmas.List.{drop-map, take-map}
use Rattle.std.proofs.lemmas.List.Sorted.{Contains-permutation, IsPermutation-map, IsPermutation-sym}
use Rattle.std.proofs.lemmas.Map.Lookups.{exact_bytes}
use Rattle.vkg_lists.specs.Ascending.{ascending_by}
use Rattle.vkg_lists.specs.Texts.{bytes_cmp}
use Rattle.vkg_lists.proofs.Members.{map_agree_on}
use Rattle.vkg_lists.proofs.Orders.{then_equal}
use Rattle.vkg_lists.proofs.Walks.{map-map}
use Rattle.vkg_terms.specs.declared.term.Term.{Term}
use Rattle.vkg_terms.specs.declared.term.Term.TheVariants.{Iri, Blank, Lit}
use Rattle.vkg_terms.specs.declared.term.Annotation.{Annotation}
use Rattle.vkg_terms.specs.declared.term.Annotation.TheVariants.{Plain, Lang, Typed}
use Rattle.vkg_terms.specs.Same.{annotation_cmp, term_cmp}
use Rattle.vkg_cells.specs.declared.cell.Cell.TheVariants as cell
use Rattle.vkg_cells.proofs.OrderLemmas.{order-total}
use Rattle.vkg_order.specs.declared.modifiers.Direction.{Direction}
use Rattle.vkg_order.specs.declared.modifiers.Modifiers.{Modifiers}
use Rattle.vkg_order.specs.declared.modifiers.Slice.{Slice}
use Rattle.vkg_order.specs.Entries.{Entry, entry_cmp}
use Rattle.vkg_order.specs.Kept.{Rises}
use Rattle.vkg_order.specs.Listed.{at_most, listed, once, sliced}
use Rattle.vkg_order.specs.Ranked.{Found, found_cmp, ranked, terms_cmp}
use Rattle.vkg_order.proofs.Ordered.{Tied, ascending-bag, ascending-rises, ascending-same, ascending-tied, rises-from_sorted}
use Rattle.vkg_order.proofs.Standing.{listed-bag, listed-ready}
use Rattle.vkg_order.proofs.Totals.{entry-total}

-- ---- the order of terms is total, and terms that tie are equal

term-total : IsTotalOrder term_cmp
term-total = on_total cell.Term order-total

terms-total : IsTotalOrder terms_cmp
terms-total = lists_total (options_total term-total)

pub found-total : (directions : List Direction) → IsTotalOrder (found_cmp directions)
found-total directions = then_total (on_total (λ (f : Found). f.entry) (entry-total directions)) (on_total (λ (f : Found). f.terms) terms-total)

annotation_is : (x y : Annotation) → annotation_cmp x y ≡ Equal → x ≡ y
annotation_is Plain Plain h = refl
annotation_is (Lang a) (Lang b) h = ap Lang (exact_bytes a b h)
annotation_is (Typed a) (Typed b) h = ap Typed (exact_bytes a b h)
annotation_is x y h = absurd (cc)

term_is : (s t : Term) → term_cmp s t ≡ Equal → s ≡ t
term_is (Iri a) (Iri b) h = ap Iri (exact_bytes a b (then_equal (bytes_cmp a b) _ h).0)
term_is (Blank a) (Blank b) h = ap Blank (exact_bytes a b (then_equal (bytes_cmp a b) _ h).0)
term_is (Lit a x) (Lit b y) h =
    let e = then_equal (bytes_cmp a b) (annotation_cmp x y) h in
    λ i. Lit (exact_bytes a b e.0 i) (annotation_is x y e.1 i)
term_is s t h = absurd (cc)

place_is : (s t : Option Term) → option_cmp term_cmp s t ≡ Equal → s ≡ t
place_is None None h = refl
place_is (Some s) (Some t) h = ap Some (term_is s t h)
place_is s t h = absurd (cc)

terms_are : (ss ts : List (Option Term)) → terms_cmp ss ts ≡ Equal → ss ≡ ts
terms_are [] [] h = refl
terms_are (s ∷ ss) (t ∷ ts) h =
    let e = then_equal (option_cmp term_cmp s t) (terms_cmp ss ts) h in
    λ i. place_is s t e.0 i ∷ terms_are ss ts e.1 i
terms_are ss ts h = absurd (cc)

one_solution : (directions : List Direction) (f g : Found) → found_cmp directions f g ≡ Equal → f.terms ≡ g.terms
one_solution directions f g h = terms_are f.terms g.terms (then_equal (entry_cmp directions f.entry g.entry) _ h).1

-- ---- what does not tell apart what ties

tied-map : {A B : Type 0} {cmp : A → A → Ordering} (f : A → B) → ((x y : A) → cmp x y ≡ Equal → f x ≡ f y) → (xs ys : List A) → Tied cmp xs ys → map f xs ≡ map f ys
tied-map f alike [] [] t = refl
tied-map f alike [] (y ∷ ys) t = absurd t
tied-map f alike (x ∷ xs) [] t = absurd t
tied-map f alike (x ∷ xs) (y ∷ ys) t = λ i. alike x y t.0 i ∷ tied-map f alike xs ys t.1 i

sliced-map : {A B : Type 0} (f : A → B) (slice : Slice) (xs : List A) → map f (sliced slice xs) ≡ sliced slice (map f xs)
sliced-map f slice xs = by slice.limit
  where
    by : (limit : Option ℕ) → map f (at_most limit (drop slice.offset xs)) ≡ at_most limit (drop slice.offset (map f xs))
    by None = sym (drop-map f slice.offset xs)
    by (Some n) = sym (take-map f n (drop slice.offset xs)) ∙ ap (take n) (sym (drop-map f slice.offset xs))

module _ (m : Modifiers) where
  abbrev cmp : Found → Found → Ordering
  cmp = found_cmp m.directions

  abbrev terms_of : Found → List (Option Term)
  terms_of f = f.terms

  abbrev entry_of : Found → Entry
  entry_of f = f.entry

  same_terms : (fs gs : List Found) → IsPermutation fs gs → map terms_of (ascending_by cmp fs) ≡ map terms_of (ascending_by cmp gs)
  same_terms fs gs p = tied-map terms_of (one_solution m.directions) _ _ (ascending-tied (found-total m.directions) p)

  -- in whatever order the solutions came
  pub ranked-bag : (fs gs : List Found) → IsPermutation fs gs → ranked m fs ≡ ranked m gs
  unfolding ranked
  ranked-bag fs gs p = ap (sliced m.slice) (same_terms fs gs p)

  -- what a sort and a cut make of them
  pub ranked-is : (fs gs asked : List Found) → IsPermutation fs gs → IsSorted cmp gs → asked ≡ sliced m.slice gs → map terms_of asked ≡ ranked m fs
  unfolding ranked
  ranked-is fs gs asked p s e =
      ap (map terms_of) e ∙ sliced-map terms_of m.slice gs
      ∙ ap (sliced m.slice) (ap (map terms_of) (sym (ascending-same (found-total m.directions) gs (rises-from_sorted (found-total m.directions) gs s))) ∙ sym (same_terms fs gs p))

  -- ---- in the order of their lines

  weaker : (r s : Ordering) → is_lt (ordering_then r s) ≡ false → is_lt r ≡ false
  weaker Less s h = h
  weaker Equal s h = refl
  weaker Greater s h = refl

  entries_above : (f : Found) (gs : List Found) → AllByRecursion (λ g. is_lt (cmp g f) ≡ false) gs → AllByRecursion (λ e. is_lt (entry_cmp m.directions e f.entry) ≡ false) (map entry_of gs)
  entries_above f [] h = tt
  entries_above f (g ∷ gs) h = (weaker _ _ h.0, entries_above f gs h.1)

  rises-entries : (fs : List Found) → Rises cmp fs → Rises (entry_cmp m.directions) (map entry_of fs)
  rises-entries [] r = tt
  rises-entries (f ∷ fs) r = (entries_above f fs r.0, rises-entries fs r.1)

  -- where the line of each is that of its terms, and no line is asked once, their lines are those of the entries
  pub ranked-lines : (line : List (Option Term) → List ℕ) (fs : List Found) → m.distinct ≡ false → ((f : Found) → Contains fs f → line f.terms ≡ f.entry.line) → map line (ranked m fs) ≡ listed m (map entry_of fs)
  unfolding ranked
  ranked-lines line fs d h =
      let o = found-total m.directions in
      let sorted : List Found = ascending_by cmp fs in
      sliced-map line m.slice (map terms_of sorted)
      ∙ ap (sliced m.slice) (map-map line terms_of sorted
      ∙ map_agree_on (λ (f : Found). line f.terms) (λ (f : Found). f.entry.line) sorted (λ f c. h f (Contains-permutation sorted fs f (IsPermutation-sym _ _ (ascending-bag o fs)) c))
      ∙ sym (map-map (λ (e : Entry). e.line) entry_of sorted))
      ∙ sym (listed-ready m (map entry_of sorted) (rises-entries sorted (ascending-rises o fs)) (ap (λ b. once b (map (λ (e : Entry). e.line) (map entry_of sorted))) d))
      ∙ listed-bag m (map entry_of sorted) (map entry_of fs) (IsPermutation-map entry_of _ _ (IsPermutation-sym _ _ (ascending-bag o fs)))
