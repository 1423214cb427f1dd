-- A slice of lines, and where a keeper begins and ends.
use Rattle.std.proofs.Common.{◌≡◌, ℕ, ◌≤◌, ◌+◌, inl, inr, append-nil, nat_le, Bool, true, false, not, List, [], map, length, drop, Option, Some, None, refl, sym, ap, subst, ◌∙◌, arith, nat_lt}
use Rattle.std.proofs.lemmas.Bool.{cases_Bool}
use Rattle.std.proofs.lemmas.Bool.Decides.{nat_tests}
use Rattle.std.proofs.lemmas.List.{drop-map}
use Rattle.std.proofs.Math.ListN.{drop_of_length-le}
use Rattle.std.proofs.Math.Seq.{drop-length}
use Rattle.std.specs.Prelude.{min}
use Rattle.vkg_lists.proofs.Distinct.{IsDistinct-nil}
use Rattle.std.specs.Str.{bytes_eq}
use Rattle.vkg_order.specs.declared.modifiers.Modifiers.{Modifiers}
use Rattle.vkg_order.specs.declared.modifiers.Slice.{Slice}
use Rattle.vkg_order.specs.Entries.{Entry}
use Rattle.vkg_order.specs.Kept.{IsReady, IsSound, StandFor, has_room}
use Rattle.vkg_order.specs.Listed.{IsWithin, at_most, listed, sliced}
use Rattle.vkg_order.proofs.Standing.{listed-ready}
use Rattle.vkg_order.proofs.Steps.{line_of, once-itself}

-- an entry more than these fits
pub room-within : (m : Modifiers) (n k : ℕ) → has_room m.slice n ≡ true → k ≤ n + 1 → IsWithin m.slice k
room-within m n k h l = by m.slice.limit refl
  where
    by : (limit : Option ℕ) → m.slice.limit ≡ limit → IsWithin m.slice k
    by None e = rw e tt
    by (Some w) e = let q : nat_lt n (m.slice.offset + w) ≡ true = rw e at h in rw e (let g : k ≤ m.slice.offset + w = let f : n + 1 ≤ m.slice.offset + w = grind (arith, nat_tests) in omega (arith, f, l) in g)

pub within-less : (m : Modifiers) (n k : ℕ) → IsWithin m.slice n → k ≤ n → IsWithin m.slice k
within-less m n k h l = by m.slice.limit refl
  where
    by : (limit : Option ℕ) → m.slice.limit ≡ limit → IsWithin m.slice k
    by None e = rw e tt
    by (Some w) e = let q : n ≤ m.slice.offset + w = rw e at h in rw e (let g : k ≤ m.slice.offset + w = omega (arith, q, l) in g)

within-none : (m : Modifiers) → IsWithin m.slice 0
within-none m = by m.slice.limit refl
  where
    by : (limit : Option ℕ) → m.slice.limit ≡ limit → IsWithin m.slice 0
    by None e = rw e tt
    by (Some w) e = rw e (let g : 0 ≤ m.slice.offset + w = omega arith in g)

unturned : (b : Bool) → not b ≡ false → b ≡ true
unturned true h = refl
unturned false h = cc

pub sound-none : (m : Modifiers) (held : List Entry) (room : Bool) → held ≡ [] → room ≡ has_room m.slice 0 → IsSound m held (not room)
sound-none m held room e f = subst (λ l. IsSound m l (not room)) (sym e) (record {
  within = within-none m;
  room = λ h. sym f ∙ unturned room h;
  ready = λ h. record { rises = tt; once = λ d. IsDistinct-nil bytes_eq };
})

pub listed-settled : (m : Modifiers) (es : List Entry) → IsReady m es → listed m es ≡ sliced m.slice (map line_of es)
listed-settled m es r = listed-ready m es r.rises (once-itself m es r.once)

-- a slice of what is held in the end
pub finish-is : (m : Modifiers) (held offered : List Entry) → StandFor m held offered → IsReady m held → sliced m.slice (map line_of held) ≡ listed m offered
finish-is m held offered h r =
    sym (listed-settled m held r) ∙ sym (ap (listed m) (append-nil held)) ∙ h [] ∙ ap (listed m) (append-nil offered)

-- the lines from a place on, as far as there are any
pub drop-upto : {A : Type 0} (xs : List A) (n : ℕ) → drop (min (length xs) n) xs ≡ drop n xs
drop-upto xs n = elim (cases_Bool (nat_le n (length xs))) [
  | inl e ↦ ap (λ k. drop k xs) (let h : n ≤ length xs = grind (arith, nat_tests) in let g : min (length xs) n ≡ n = omega arith in g)
  | inr e ↦ let h : length xs ≤ n = grind (arith, nat_tests) in let g : min (length xs) n ≡ length xs = omega arith in ap (λ k. drop k xs) g ∙ drop-length xs ∙ sym (drop_of_length-le xs h)
]

-- what is left behind the first entries, as many as are asked
pub slice-is : (slice : Slice) (held asked cut : List Entry) → map line_of cut ≡ at_most slice.limit (map line_of asked) → asked ≡ drop (min (length held) slice.offset) held → map line_of cut ≡ sliced slice (map line_of held)
slice-is slice held asked cut e a =
    e ∙ ap (λ l. at_most slice.limit (map line_of l)) (a ∙ drop-upto held slice.offset) ∙ ap (at_most slice.limit) (sym (drop-map line_of slice.offset held))
