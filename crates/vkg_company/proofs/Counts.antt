-- A word is one number at most.
use Rattle.std.proofs.Common.{◌≡◌, ◌∙◌, ◌<◌, ◌≤◌, ◌^◌, ◌&&◌, ℕ, Bool, true, false, List, Option, Some, None, Ok, Result, refl, sym, ap, decimal, nat_lt, nat_le, arith, lit<, true≢false}
use Rattle.std.specs.Prelude.{MatchOption}
use Rattle.std.specs.Bool.{then_some}
use Rattle.std.specs.Str.{bytes_eq}
use Rattle.std.specs.Str.Parse.{ParsesUnsigned, digits_value}
use Rattle.std.proofs.Math.Nat.{lt_trans}
use Rattle.std.proofs.lemmas.Bool.{lt-ltb, ltb-true, le-leb, leb-true}
use Rattle.std.proofs.lemmas.Option.{same_Some}
use Rattle.std.proofs.lemmas.Fmt.{decimal_is_IsNumeral, parse-decimal}
use Rattle.std.proofs.lemmas.Slice.Eq.{bytes_eq-Decides}
use Rattle.vkg_lists.proofs.Bools.{and_parts, and_true}
use Rattle.vkg_company.specs.Count.{IsCount, count_in, if_count, is_count}

counted : (word : List ℕ) (n : ℕ) → is_count word n ≡ true → IsCount word n
counted word n e =
    let one = and_parts (nat_lt 0 n) (nat_le n 100000 && bytes_eq (decimal n) word) e in
    let two = and_parts (nat_le n 100000) (bytes_eq (decimal n) word) one.1 in
    record { written = sym ((bytes_eq-Decides (decimal n) word).0 two.1); some = ltb-true 0 n one.0; limit = leb-true n 100000 two.0 }

tested : (word : List ℕ) (n : ℕ) → IsCount word n → is_count word n ≡ true
tested word n k =
    and_true (nat_lt 0 n) (nat_le n 100000 && bytes_eq (decimal n) word) (lt-ltb 0 n k.some)
    (and_true (nat_le n 100000) (bytes_eq (decimal n) word) (le-leb n 100000 k.limit) ((bytes_eq-Decides (decimal n) word).1 (sym k.written)))

pub decided : (word : List ℕ) (n : ℕ) → ((m : ℕ) → m ≤ 100000 → word ≡ decimal m → ◌≡◌ {A = Option ℕ} (Some n) (Some m))
    → MatchOption (then_some (is_count word n) n) ((m : ℕ) → IsCount word m → ⊥) (IsCount word)
decided word n h = by (is_count word n) refl
  where
    by : (b : Bool) → is_count word n ≡ b → MatchOption (then_some b n) ((m : ℕ) → IsCount word m → ⊥) (IsCount word)
    by true e = counted word n e
    by false e = λ m k. true≢false (sym (sym e ∙ ap (is_count word) (same_Some n m (h m k.limit k.written)) ∙ tested word m k))

pub small : (n : ℕ) → n ≤ 100000 → n < 2 ^ 64
small n h = lt_trans (let j : n < 100001 = omega (arith, h) in j) (lit< tt)

pub parsed : {E : Type 0} (word : List ℕ) (n : ℕ) (r : Result ℕ E) → n ≤ 100000 → word ≡ decimal n → ParsesUnsigned 64 10 word r → r ≡ Ok n
parsed word n r h e p = parse-decimal 64 n word r (small n h) (small n h) e p

-- what a word is as a number, by its digits
pub counted_in : (word : List ℕ) (r : Option ℕ) → MatchOption r ((n : ℕ) → IsCount word n → ⊥) (IsCount word) → r ≡ count_in word
counted_in word None h = by (is_count word (digits_value 10 word)) refl
  where
    by : (b : Bool) → is_count word (digits_value 10 word) ≡ b → None ≡ then_some b (digits_value 10 word)
    by true e = absurd (h (digits_value 10 word) (counted word (digits_value 10 word) e))
    by false e = refl
counted_in word (Some n) k =
    let same : digits_value 10 word ≡ n = ap (digits_value 10) k.written ∙ (decimal_is_IsNumeral n (small n k.limit)).1 in
    sym (ap (if_count word) same ∙ ap (λ b. then_some b n) (tested word n k))
