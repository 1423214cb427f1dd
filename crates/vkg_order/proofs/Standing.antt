-- Which entries may be left out of an answer's list.
use Rattle.std.proofs.Common.{◌≡◌, ℕ, ◌+◌, ◌≤◌, true, List, ◌∷◌, ◌++◌, map, length, take, drop, sym, ap, ◌∙◌, is_lt, append_assoc, Some, false}
use Rattle.std.specs.List.{Contains}
use Rattle.std.specs.List.Sorted.{IsPermutation}
use Rattle.std.proofs.Common.{Ordering}
use Rattle.std.proofs.lemmas.List.{drop-take}
use Rattle.std.proofs.lemmas.List.Elements.{Contains-append_left}
use Rattle.std.proofs.lemmas.List.Sorted.{IsPermutation-append_left, IsPermutation-middle, IsPermutation-refl, IsPermutation-sym}
use Rattle.vkg_lists.specs.Ascending.{ascending_by}
use Rattle.vkg_order.specs.declared.modifiers.Modifiers.{Modifiers}
use Rattle.vkg_order.specs.Entries.{Entry, entry_cmp}
use Rattle.vkg_order.specs.Kept.{Rises, StandFor}
use Rattle.vkg_order.specs.Listed.{listed, once, sliced}
use Rattle.vkg_order.proofs.Cut.{repeat-drop, room-drop, tied-lines}
use Rattle.vkg_order.proofs.Ordered.{ascending-same, ascending-tied}
use Rattle.vkg_order.proofs.Totals.{entry-total, one_line}

module _ (m : Modifiers) where
  abbrev cmp : Entry → Entry → Ordering
  cmp = entry_cmp m.directions

  abbrev line_of : Entry → List ℕ
  line_of e = e.line

  abbrev lines : List Entry → List (List ℕ)
  lines es = once m.distinct (map line_of (ascending_by cmp es))

  by_lines : (es fs : List Entry) → lines es ≡ lines fs → listed m es ≡ listed m fs
  unfolding listed
  by_lines es fs h = ap (sliced m.slice) h

  by_room : (n : ℕ) → m.slice.limit ≡ Some n → (es fs : List Entry) → take (m.slice.offset + n) (lines es) ≡ take (m.slice.offset + n) (lines fs) → listed m es ≡ listed m fs
  unfolding listed
  by_room n limit es fs h = rw limit (sym (drop-take m.slice.offset n (lines es)) ∙ ap (drop m.slice.offset) h ∙ drop-take m.slice.offset n (lines fs))

  pub listed-bag : (es fs : List Entry) → IsPermutation es fs → listed m es ≡ listed m fs
  listed-bag es fs p = by_lines es fs (ap (once m.distinct) (tied-lines (entry-total m.directions) line_of (one_line m.directions) _ _ (ascending-tied (entry-total m.directions) p)))

  pub stand-bag : (es fs : List Entry) → IsPermutation es fs → StandFor m es fs
  stand-bag es fs p = λ more. listed-bag (es ++ more) (fs ++ more) (IsPermutation-append_left more es fs p)

  pub stand-trans : (es fs gs : List Entry) → StandFor m es fs → StandFor m fs gs → StandFor m es gs
  stand-trans es fs gs h k = λ more. h more ∙ k more

  pub stand-more : (es fs gs : List Entry) → StandFor m es fs → StandFor m (es ++ gs) (fs ++ gs)
  stand-more es fs gs h = λ more. ap (listed m) (append_assoc es gs more) ∙ h (gs ++ more) ∙ sym (ap (listed m) (append_assoc fs gs more))

  pub stand-cons : (e : Entry) (es fs : List Entry) → StandFor m es fs → StandFor m (e ∷ es) (e ∷ fs)
  stand-cons e es fs h = λ more.
      listed-bag (e ∷ (es ++ more)) (es ++ e ∷ more) (IsPermutation-sym _ _ (IsPermutation-middle es e more))
      ∙ h (e ∷ more)
      ∙ listed-bag (fs ++ e ∷ more) (e ∷ (fs ++ more)) (IsPermutation-middle fs e more)

  -- each line is asked once, and an entry that is not above it has its line
  pub stand-repeat : m.distinct ≡ true → (e f : Entry) (es : List Entry) → Contains es f → is_lt (cmp e f) ≡ false → f.line ≡ e.line → StandFor m es (e ∷ es)
  stand-repeat d e f es c h same = λ more. sym (by_lines (e ∷ (es ++ more)) (es ++ more)
      (rw d (repeat-drop (entry-total m.directions) line_of (one_line m.directions) e (es ++ more) f (Contains-append_left es more f c) h same)))

  -- so many lines as the slice can reach stand before it
  pub stand-room : (n : ℕ) → m.slice.limit ≡ Some n → (e : Entry) (es : List Entry) → ((f : Entry) → Contains es f → is_lt (cmp e f) ≡ false)
      → m.slice.offset + n ≤ length (once m.distinct (map line_of es)) → StandFor m es (e ∷ es)
  stand-room n limit e es h long = λ more. sym (by_room n limit (e ∷ (es ++ more)) (es ++ more)
      (room-drop (entry-total m.directions) line_of (one_line m.directions) e (es ++ more) m.distinct (m.slice.offset + n) es more (IsPermutation-refl (es ++ more)) h long))

  -- entries in order, of which each line is there once: their lines are the list, but for the slice
  pub listed-ready : (es : List Entry) → Rises cmp es → once m.distinct (map line_of es) ≡ map line_of es → listed m es ≡ sliced m.slice (map line_of es)
  unfolding listed
  listed-ready es r h = ap (λ l. sliced m.slice (once m.distinct (map line_of l))) (ascending-same (entry-total m.directions) es r) ∙ ap (sliced m.slice) h
