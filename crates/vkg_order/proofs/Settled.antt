-- What a keeper does to have its entries in order, each line once if that is asked.
use Rattle.std.proofs.Common.{◌≡◌, ℕ, Bool, true, false, cond, List, [], ◌∷◌, map, refl, sym, ap, subst, ◌∙◌, is_lt, Ordering, Less, Equal, Greater}
use Rattle.std.specs.Cmp.Lexicographic.{texts_ties}
use Rattle.std.specs.Ordering.{ordering_then}
use Rattle.std.specs.List.{IsDistinct, dedup, dedup_from}
use Rattle.std.specs.List.Sorted.{IsPermutation, IsSorted, IsStrictlySortedBy}
use Rattle.std.specs.Str.{bytes_eq}
use Rattle.std.proofs.lemmas.Cmp.{nat_list_cmp_total, tied_itself}
use Rattle.std.proofs.lemmas.List.Sorted.{IsPermutation-sym, IsPermutation-map}
use Rattle.std.proofs.lemmas.Map.Keys.{IsDistinct-IsPermutation, IsDistinct-from_sorted}
use Rattle.vkg_lists.specs.Texts.{bytes_cmp}
use Rattle.vkg_lists.proofs.Ascending.{sorted_dedup-ascending}
use Rattle.vkg_lists.proofs.Bags.{bag_exchange}
use Rattle.vkg_lists.proofs.Counts.{eq_comm}
use Rattle.vkg_lists.proofs.Members.{Contains-here}
use Rattle.vkg_lists.proofs.Orders.{IsSorted-map, map-dedup}
use Rattle.vkg_lists.proofs.Texts.{bytes_test}
use Rattle.vkg_order.specs.declared.modifiers.Modifiers.{Modifiers}
use Rattle.vkg_order.specs.Entries.{Entry, entry_cmp, keys_cmp}
use Rattle.vkg_order.specs.Kept.{IsReady, Rises, StandFor, have_one_line, line_first_cmp}
use Rattle.vkg_order.proofs.Ordered.{rises-from_sorted}
use Rattle.vkg_order.proofs.Standing.{stand-bag, stand-cons, stand-repeat, stand-trans}
use Rattle.vkg_order.proofs.Steps.{line_of}
use Rattle.vkg_order.proofs.Totals.{entry-total, line_first-total}

weaker : (r s : Ordering) → is_lt (ordering_then r s) ≡ false → is_lt r ≡ false
weaker Less s h = h
weaker Equal s h = refl
weaker Greater s h = refl

turned : (r s : Ordering) → r ≡ Equal → is_lt (ordering_then r s) ≡ false → is_lt (ordering_then s r) ≡ false
turned Less s e h = cc
turned Equal Less e h = h
turned Equal Equal e h = refl
turned Equal Greater e h = refl
turned Greater s e h = cc

module _ (m : Modifiers) where
  -- an entry behind one of its line is not below that
  not_below : (e f : Entry) → f.line ≡ e.line → is_lt (line_first_cmp m.directions f e) ≡ false → is_lt (entry_cmp m.directions f e) ≡ false
  not_below e f s h = turned (bytes_cmp f.line e.line) (keys_cmp m.directions f.keys e.keys) (ap (λ l. bytes_cmp l e.line) s ∙ tied_itself nat_list_cmp_total e.line) h

  repeats : m.distinct ≡ true → (k : Entry) (es : List Entry) → Rises (line_first_cmp m.directions) (k ∷ es) → StandFor m (dedup_from have_one_line k es) (k ∷ es)
  repeats d k [] r = λ more. refl
  repeats d k (e ∷ es) r = by (repeats d k es (r.0.1, r.1.1)) (repeats d e es r.1) (bytes_eq e.line k.line) refl
    where
      by : StandFor m (dedup_from have_one_line k es) (k ∷ es) → StandFor m (dedup_from have_one_line e es) (e ∷ es) → (b : Bool) → bytes_eq e.line k.line ≡ b → StandFor m (cond b (dedup_from have_one_line k es) (k ∷ dedup_from have_one_line e es)) (k ∷ e ∷ es)
      by before after true h =
          let s : e.line ≡ k.line = (bytes_test.decides e.line k.line).0 h in
          stand-trans m (dedup_from have_one_line k es) (k ∷ es) (k ∷ e ∷ es) before
          (stand-trans m (k ∷ es) (e ∷ k ∷ es) (k ∷ e ∷ es) (stand-repeat m d e k (k ∷ es) (Contains-here k es) (not_below k e s r.0.0) (sym s))
          (stand-bag m (e ∷ k ∷ es) (k ∷ e ∷ es) (bag_exchange (e ∷ []) (k ∷ []) es)))
      by before after false h = stand-cons m k (dedup_from have_one_line e es) (e ∷ es) after

  pub repeats-stand : m.distinct ≡ true → (es : List Entry) → IsSorted (line_first_cmp m.directions) es → StandFor m (dedup have_one_line es) es
  repeats-stand d [] s = λ more. refl
  repeats-stand d (e ∷ es) s = repeats d e es (rises-from_sorted (line_first-total m.directions) (e ∷ es) s)

  -- of entries whose lines ascend each line is left once
  pub repeats-once : (es : List Entry) → IsSorted (line_first_cmp m.directions) es → IsDistinct bytes_eq (map line_of (dedup have_one_line es))
  repeats-once es s =
      let by_line : IsSorted (λ (e f : Entry). bytes_cmp e.line f.line) es = λ k d l n. weaker _ _ (s k d l n) in
      let strict : IsStrictlySortedBy bytes_cmp (dedup bytes_eq (map line_of es)) = sorted_dedup-ascending (map line_of es) (IsSorted-map line_of bytes_cmp es by_line) in
      subst (IsDistinct bytes_eq) (sym (map-dedup line_of bytes_eq es))
      (subst (λ (t : List ℕ → List ℕ → Bool). IsDistinct t (dedup bytes_eq (map line_of es))) (λ i x y. sym (texts_ties x y) i) (IsDistinct-from_sorted bytes_cmp (dedup bytes_eq (map line_of es)) strict))

  -- without repeats asked to go
  pub settled-all : m.distinct ≡ false → (es fs : List Entry) → IsPermutation es fs → IsSorted (entry_cmp m.directions) fs → StandFor m fs es × IsReady m fs
  settled-all d es fs p s = (stand-bag m fs es (IsPermutation-sym _ _ p), record { rises = rises-from_sorted (entry-total m.directions) fs s; once = λ t. cc })

  -- with them
  pub settled-once : m.distinct ≡ true → (es fs gs : List Entry) → IsPermutation es fs → IsSorted (line_first_cmp m.directions) fs → IsPermutation (dedup have_one_line fs) gs → IsSorted (entry_cmp m.directions) gs
      → StandFor m gs es × IsReady m gs
  settled-once d es fs gs p s q t = (
    stand-trans m gs (dedup have_one_line fs) es (stand-bag m _ _ (IsPermutation-sym _ _ q)) (stand-trans m _ fs es (repeats-stand d fs s) (stand-bag m fs es (IsPermutation-sym _ _ p))),
    record {
      rises = rises-from_sorted (entry-total m.directions) gs t;
      once = λ _. IsDistinct-IsPermutation bytes_eq (eq_comm bytes_test) _ _ (IsPermutation-map line_of (dedup have_one_line fs) gs q) (repeats-once fs s);
    },
  )
