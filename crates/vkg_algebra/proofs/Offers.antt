-- What a keeper stands for when a solution more is offered to it.
use Rattle.std.proofs.Common.{◌≡◌, ◌∙◌, ℕ, ◌+◌, List, [], ◌∷◌, ◌++◌, map, take, drop, get_or, length, ◌<◌, Some, Result, append-nil, refl, sym, ap, subst}
use Rattle.std.specs.Prelude.{IfOk, slice_get}
use Rattle.std.proofs.lemmas.Result.{IfOk-weaker}
use Rattle.std.proofs.lemmas.List.{map_more}
use Rattle.std.proofs.lemmas.Option.{get_or_from_slice_get, slice_get_within}
use Rattle.vkg_base.specs.declared.memory.Memory.{Memory}
use Rattle.vkg_cells.specs.declared.cell.Cell.{Cell}
use Rattle.vkg_order.specs.declared.modifiers.Modifiers.{Modifiers}
use Rattle.vkg_order.specs.Entries.{Entry, entry_of}
use Rattle.vkg_order.specs.Kept.{StandFor}
use Rattle.vkg_order.specs.Listed.{listed}
use Rattle.vkg_order.specs.Values.{bound}
use Rattle.vkg_order.proofs.Standing.{stand-more, stand-trans}
use Rattle.vkg_algebra.specs.Answer.{solution_entry, solution_line}
use Rattle.vkg_algebra.specs.Solutions.{Solution}

pub stands_none : (m : Modifiers) (held : List Entry) → held ≡ [] → StandFor m held []
stands_none m held e = subst (λ (es : List Entry). StandFor m es []) (sym e) (λ more. refl)

-- the lines of a keeper that was offered entries are those that are defined of these
pub finished : (made : Result (List (List ℕ)) Memory) (m now last : Modifiers) (held entries : List Entry) → IfOk made (λ lines. lines ≡ listed last held) → last ≡ now → now ≡ m → StandFor now held entries
    → IfOk made (λ lines. lines ≡ listed m entries)
finished made m now last held entries f a b h = IfOk-weaker made (λ lines. lines ≡ listed last held) (λ lines. lines ≡ listed m entries)
    (λ lines e. e ∙ ap (λ (x : Modifiers). listed x held) a ∙ sym (ap (listed now) (append-nil held)) ∙ h [] ∙ ap (listed now) (append-nil entries) ∙ ap (λ (x : Modifiers). listed x entries) b) f

-- what was offered are the entries of the solutions that these are
module _ {A : Type 0} (of : A → Solution) (width : ℕ) where
  abbrev pub entry : A → Entry
  entry x = solution_entry width (of x)

  -- one more of a list, by either way to tell it
  pub one_more : (xs : List A) (i : ℕ) (x : A) → slice_get xs i ≡ Some x → map entry (take (i + 1) xs) ≡ map entry (take i xs) ++ entry x ∷ []
  one_more xs i x e =
      let h = slice_get_within xs i x e in
      map_more entry xs i x h ∙ ap (λ y. map entry (take i xs) ++ entry y ∷ []) (get_or_from_slice_get xs i x x e)

  pub one_more_at : (xs : List A) (i : ℕ) (x : A) → i < length xs → x ≡ get_or xs i x → map entry (take (i + 1) xs) ≡ map entry (take i xs) ++ entry x ∷ []
  one_more_at xs i x h e = map_more entry xs i x h ∙ ap (λ y. map entry (take i xs) ++ entry y ∷ []) (sym e)

  entry_is : (x : A) (keys : List Cell) (line : List ℕ) → map bound keys ≡ drop width (of x) → line ≡ solution_line (take width (of x)) → entry_of keys line ≡ entry x
  entry_is x keys line k l = λ i. record { keys = k i; line = l i }

  pub offered_more : (m now : Modifiers) (xs : List A) (i : ℕ) (old new : List Entry) (x : A) (keys : List Cell) (line : List ℕ) → now ≡ m → StandFor m old (map entry (take i xs)) → map entry (take (i + 1) xs) ≡ map entry (take i xs) ++ entry x ∷ []
      → map bound keys ≡ drop width (of x) → line ≡ solution_line (take width (of x)) → StandFor now new (old ++ entry_of keys line ∷ []) → StandFor m new (map entry (take (i + 1) xs))
  offered_more m now xs i old new x keys line a h g k l n =
      let held : StandFor m new (old ++ entry x ∷ []) =
      subst (λ (e : Entry). StandFor m new (old ++ e ∷ [])) (entry_is x keys line k l) (subst (λ (w : Modifiers). StandFor w new (old ++ entry_of keys line ∷ [])) a n) in
      subst (StandFor m new) (sym g) (stand-trans m new (old ++ entry x ∷ []) (map entry (take i xs) ++ entry x ∷ []) held (stand-more m old (map entry (take i xs)) (entry x ∷ []) h))
