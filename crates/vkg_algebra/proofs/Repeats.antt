-- Entries that are there already may be left out, where each line is asked once.
use Rattle.std.proofs.Common.{◌≡◌, ◌∙◌, Bool, true, false, not, List, [], ◌∷◌, map, if◌then◌else◌, refl, sym, ap, append-nil, is_lt}
use Rattle.std.specs.List.{filter}
use Rattle.std.proofs.lemmas.Cmp.{tied_itself}
use Rattle.vkg_lists.specs.Sets.{distinct}
use Rattle.vkg_lists.proofs.Bags.{bag_exchange}
use Rattle.vkg_lists.proofs.Members.{Contains-here}
use Rattle.vkg_order.specs.declared.modifiers.Modifiers.{Modifiers}
use Rattle.vkg_order.specs.Entries.{Entry, entry_cmp}
use Rattle.vkg_order.specs.Kept.{StandFor}
use Rattle.vkg_order.specs.Listed.{listed}
use Rattle.vkg_order.proofs.Standing.{stand-bag, stand-cons, stand-repeat, stand-trans}
use Rattle.vkg_order.proofs.Totals.{entry-total}

not_below : (m : Modifiers) (e f : Entry) → e ≡ f → is_lt (entry_cmp m.directions e f) ≡ false
not_below m e f same = ap (λ x. is_lt (entry_cmp m.directions x f)) same ∙ ap is_lt (tied_itself (entry-total m.directions) f)

module _ (m : Modifiers) (asked : m.distinct ≡ true) {A : Type 0} (eq : A → A → Bool) (entry : A → Entry) (alike : (x y : A) → eq x y ≡ true → entry x ≡ entry y) where
  exchanged : (e f : Entry) (es : List Entry) → StandFor m (e ∷ f ∷ es) (f ∷ e ∷ es)
  exchanged e f es = stand-bag m (e ∷ f ∷ es) (f ∷ e ∷ es) (bag_exchange (e ∷ []) (f ∷ []) es)

  -- behind x its likes may go
  without : (x : A) (ys : List A) → StandFor m (entry x ∷ map entry (filter (λ y. not (eq x y)) ys)) (entry x ∷ map entry ys)
  without x [] = λ more. refl
  without x (y ∷ ys) = by (eq x y) refl (without x ys)
    where
      e : Entry
      e = entry x

      f : Entry
      f = entry y

      some : List Entry
      some = map entry (filter (λ y. not (eq x y)) ys)

      all : List Entry
      all = map entry ys

      by : (b : Bool) → eq x y ≡ b → StandFor m (e ∷ some) (e ∷ all) → StandFor m (e ∷ map entry (if not b then y ∷ filter (λ y. not (eq x y)) ys else filter (λ y. not (eq x y)) ys)) (e ∷ f ∷ all)
      by true t h =
          stand-trans m (e ∷ some) (e ∷ all) (e ∷ f ∷ all) h
          (stand-trans m (e ∷ all) (f ∷ e ∷ all) (e ∷ f ∷ all)
          (stand-repeat m asked f e (e ∷ all) (Contains-here e all) (not_below m f e (sym (alike x y t))) (ap (λ (z : Entry). z.line) (alike x y t)))
          (exchanged f e all))
      by false t h =
          stand-trans m (e ∷ f ∷ some) (f ∷ e ∷ some) (e ∷ f ∷ all) (exchanged e f some)
          (stand-trans m (f ∷ e ∷ some) (f ∷ e ∷ all) (e ∷ f ∷ all) (stand-cons m f (e ∷ some) (e ∷ all) h) (exchanged f e all))

  once_each : (xs : List A) → StandFor m (map entry (distinct eq xs)) (map entry xs)
  once_each [] = λ more. refl
  once_each (x ∷ xs) =
      stand-trans m (map entry (distinct eq (x ∷ xs))) (entry x ∷ map entry (distinct eq xs)) (entry x ∷ map entry xs)
      (without x (distinct eq xs)) (stand-cons m (entry x) (map entry (distinct eq xs)) (map entry xs) (once_each xs))

  -- so may those of all elements but the first of those that are alike
  pub listed-once : (xs : List A) → listed m (map entry (distinct eq xs)) ≡ listed m (map entry xs)
  listed-once xs =
      sym (ap (listed m) (append-nil (map entry (distinct eq xs)))) ∙ once_each xs [] ∙ ap (listed m) (append-nil (map entry xs))
