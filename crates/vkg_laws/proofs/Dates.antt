-- Texts of days and of times of day are ordered as what they write.
use Rattle.std.proofs.Common.{◌≡◌, ◌∙◌, ◌+◌, ◌-◌, ◌*◌, ◌<◌, ◌≤◌, ℕ, zero, suc, Bool, true, false, ◌&&◌, ◌==◌, List, [], ◌∷◌, Option, Some, None, refl, sym, ap, subst, arith, length, drop, slice_index, cond, nat_le, leb-true, eqb-true}
use Rattle.std.specs.Char.{is_ascii_digit}
use Rattle.std.specs.Ordering.{nat_cmp, ordering_then}
use Rattle.std.specs.Cmp.{nat_cmp_is}
use Rattle.std.specs.Cmp.Derive.{then_next}
use Rattle.std.specs.Cmp.Lexicographic.{slice_cmp}
use Rattle.std.specs.declared.cmp.Ordering.{Ordering}
use Rattle.std.specs.declared.cmp.Ordering.TheVariants.{Equal}
use Rattle.std.proofs.lemmas.List.{drop_all, drop_more}
use Rattle.std.proofs.lemmas.Option.{cond_some, none-some, option_and_then_some}
use Rattle.vkg_lists.proofs.Bools.{and_parts}
use Rattle.vkg_cells.specs.declared.moment.Clock.{Clock}
use Rattle.vkg_cells.specs.declared.moment.Day.{Day}
use Rattle.vkg_cells.specs.Moment.{clock_of_text, day_of_text, is_day, two_digits_at}
use Rattle.vkg_cells.proofs.ValueLemmas.{then-equal}
use Rattle.vkg_laws.specs.ByValue.{clock_cmp, date_cmp}
use Rattle.vkg_laws.proofs.Orders.{nat-order-then}

-- so many bytes from a place on
abbrev pub bytes_from : ℕ → ℕ → List ℕ → List ℕ
bytes_from zero i text = []
bytes_from (suc n) i text = slice_index text i ∷ bytes_from n (i + 1) text

pub spelled : (text : List ℕ) (n i : ℕ) → length text ≡ i + n → drop i text ≡ bytes_from n i text
spelled text zero i e = drop_all i text (omega arith)
spelled text (suc n) i e =
    drop_more text i 0 (omega arith) ∙ ap (λ rest. slice_index text i ∷ rest) (spelled text n (i + 1) (omega arith))

-- two digits at a place, and their number
record TwoDigits (text : List ℕ) (i n : ℕ) : Type 0 where
  tens_from : 48 ≤ slice_index text i
  tens_to : slice_index text i ≤ 57
  ones_from : 48 ≤ slice_index text (i + 1)
  ones_to : slice_index text (i + 1) ≤ 57
  number : n ≡ (slice_index text i - 48) * 10 + (slice_index text (i + 1) - 48)

digit : (b : ℕ) → is_ascii_digit b ≡ true → (48 ≤ b) × (b ≤ 57)
digit b e = let h = and_parts (nat_le 48 b) (nat_le b 57) e in (leb-true 48 b h.0, leb-true b 57 h.1)

two-digits : (text : List ℕ) (i n : ℕ) → two_digits_at text i ≡ Some n → TwoDigits text i n
two-digits text i n e =
    let tens = slice_index text i in
    let ones = slice_index text (i + 1) in
    let h = cond_some (is_ascii_digit tens && is_ascii_digit ones) ((tens - 48) * 10 + (ones - 48)) n e in
    let d = and_parts (is_ascii_digit tens) (is_ascii_digit ones) h.0 in
    let a = digit tens d.0 in
    let b = digit ones d.1 in
    record { tens_from = a.0; tens_to = a.1; ones_from = b.0; ones_to = b.1; number = sym h.1 }

-- the order of the bytes at a place
abbrev pub at : List ℕ → List ℕ → ℕ → Ordering
at s t i = nat_cmp (slice_index s i) (slice_index t i)

digits-order : (a b c d m n : ℕ) → 48 ≤ a → 48 ≤ b → b ≤ 57 → 48 ≤ c → 48 ≤ d → d ≤ 57
    → m ≡ (a - 48) * 10 + (b - 48) → n ≡ (c - 48) * 10 + (d - 48) → nat_cmp m n ≡ ordering_then (nat_cmp a c) (nat_cmp b d)
digits-order a b c d m n fa fb tb fc fd td em en =
    nat-order-then m n a c b d (λ h. omega arith) (λ h. omega arith) (λ e h. omega arith) (λ e h. omega arith) (λ e h. omega arith)

two-order : (s t : List ℕ) (i m n : ℕ) → TwoDigits s i m → TwoDigits t i n → nat_cmp m n ≡ ordering_then (at s t i) (at s t (i + 1))
two-order s t i m n p q =
    digits-order (slice_index s i) (slice_index s (i + 1)) (slice_index t i) (slice_index t (i + 1)) m n
    p.tens_from p.ones_from p.ones_to q.tens_from q.ones_from q.ones_to p.number q.number

-- two digits write a number below a hundred
two-below : (a b n : ℕ) → a ≤ 57 → b ≤ 57 → n ≡ (a - 48) * 10 + (b - 48) → n < 100
two-below a b n ta tb e = omega arith

hundreds-order : (c y d z : ℕ) → y < 100 → z < 100 → nat_cmp (c * 100 + y) (d * 100 + z) ≡ ordering_then (nat_cmp c d) (nat_cmp y z)
hundreds-order c y d z h g =
    nat-order-then (c * 100 + y) (d * 100 + z) c d y z (λ l. omega arith) (λ l. omega arith) (λ e l. omega arith) (λ e l. omega arith) (λ e l. omega arith)

same-byte : (s t : List ℕ) (i b : ℕ) → slice_index s i ≡ b → slice_index t i ≡ b → at s t i ≡ Equal
same-byte s t i b e f = sym (nat_cmp_is (slice_index s i) (slice_index t i) Equal (e ∙ sym f))

if_given : {A R : Type 0} (b : Bool) (o : Option A) (x : A) → cond b o None ≡ Some x → (b ≡ true → o ≡ Some x → R) → R
if_given true o x e f = f refl e
if_given false o x e f = absurd (none-some x e)

-- a text of a day
record DayText (text : List ℕ) (a : Day) : Type 0 where
  long : length text ≡ 10
  first_dash : slice_index text 4 ≡ 45
  second_dash : slice_index text 7 ≡ 45
  hundreds : ℕ
  years : ℕ
  at_hundreds : TwoDigits text 0 hundreds
  at_years : TwoDigits text 2 years
  year : a.year ≡ hundreds * 100 + years
  month : TwoDigits text 5 a.month
  day : TwoDigits text 8 a.day

day-text : (text : List ℕ) (a : Day) → day_of_text text ≡ Some a → DayText text a
unfolding day_of_text
day-text text a e =
    if_given ((length text == 10) && (slice_index text 4 == 45) && (slice_index text 7 == 45)) _ a e (λ hold found.
    let outer = and_parts ((length text == 10) && (slice_index text 4 == 45)) (slice_index text 7 == 45) hold in
    let inner = and_parts (length text == 10) (slice_index text 4 == 45) outer.0 in
    option_and_then_some _ (two_digits_at text 0) a found (λ hundreds is_hundreds behind_hundreds.
    option_and_then_some _ (two_digits_at text 2) a behind_hundreds (λ years is_years behind_years.
    option_and_then_some _ (two_digits_at text 5) a behind_years (λ month is_month behind_month.
    option_and_then_some _ (two_digits_at text 8) a behind_month (λ day is_day_number behind_day.
    let last = cond_some (is_day (hundreds * 100 + years) month day) _ a behind_day in
    record {
      long = eqb-true (length text) 10 inner.0;
      first_dash = eqb-true (slice_index text 4) 45 inner.1;
      second_dash = eqb-true (slice_index text 7) 45 outer.1;
      hundreds = hundreds;
      years = years;
      at_hundreds = two-digits text 0 hundreds is_hundreds;
      at_years = two-digits text 2 years is_years;
      year = sym (ap (λ (d : Day). d.year) last.1);
      month = subst (TwoDigits text 5) (ap (λ (d : Day). d.month) last.1) (two-digits text 5 month is_month);
      day = subst (TwoDigits text 8) (ap (λ (d : Day). d.day) last.1) (two-digits text 8 day is_day_number);
    })))))

-- a text of a time of day
record ClockText (text : List ℕ) (a : Clock) : Type 0 where
  long : length text ≡ 8
  first_colon : slice_index text 2 ≡ 58
  second_colon : slice_index text 5 ≡ 58
  hour : TwoDigits text 0 a.hour
  minute : TwoDigits text 3 a.minute
  second : TwoDigits text 6 a.second

clock-text : (text : List ℕ) (a : Clock) → clock_of_text text ≡ Some a → ClockText text a
unfolding clock_of_text
clock-text text a e =
    if_given ((length text == 8) && (slice_index text 2 == 58) && (slice_index text 5 == 58)) _ a e (λ hold found.
    let outer = and_parts ((length text == 8) && (slice_index text 2 == 58)) (slice_index text 5 == 58) hold in
    let inner = and_parts (length text == 8) (slice_index text 2 == 58) outer.0 in
    option_and_then_some _ (two_digits_at text 0) a found (λ hour is_hour behind_hour.
    option_and_then_some _ (two_digits_at text 3) a behind_hour (λ minute is_minute behind_minute.
    option_and_then_some _ (two_digits_at text 6) a behind_minute (λ second is_second behind_second.
    let last = cond_some (nat_le hour 23 && nat_le minute 59 && nat_le second 59) _ a behind_second in
    record {
      long = eqb-true (length text) 8 inner.0;
      first_colon = eqb-true (slice_index text 2) 58 inner.1;
      second_colon = eqb-true (slice_index text 5) 58 outer.1;
      hour = subst (TwoDigits text 0) (ap (λ (d : Clock). d.hour) last.1) (two-digits text 0 hour is_hour);
      minute = subst (TwoDigits text 3) (ap (λ (d : Clock). d.minute) last.1) (two-digits text 3 minute is_minute);
      second = subst (TwoDigits text 6) (ap (λ (d : Clock). d.second) last.1) (two-digits text 6 second is_second);
    }))))

pub date-long : (text : List ℕ) (a : Day) → day_of_text text ≡ Some a → length text ≡ 10
date-long text a e = (day-text text a e).long

pub clock-long : (text : List ℕ) (a : Clock) → clock_of_text text ≡ Some a → length text ≡ 8
clock-long text a e = (clock-text text a e).long

-- the order byte by byte, gathered into that of the numbers
gathered-day : (a b c d e f g h i j y m k : Ordering) → y ≡ ordering_then (ordering_then a b) (ordering_then c d) → e ≡ Equal → m ≡ ordering_then f g → h ≡ Equal → k ≡ ordering_then i j
    → ordering_then a (ordering_then b (ordering_then c (ordering_then d (ordering_then e (ordering_then f (ordering_then g (ordering_then h (ordering_then i (ordering_then j Equal)))))))))
    ≡ ordering_then y (ordering_then m k)
gathered-day a b c d e f g h i j y m k year first month second day = rw (year, first, month, second, day) (
    then_next a b _ refl refl
    ∙ ap (ordering_then (ordering_then a b)) (then_next c d _ refl refl)
    ∙ then_next (ordering_then a b) (ordering_then c d) _ refl refl
    ∙ ap (ordering_then (ordering_then (ordering_then a b) (ordering_then c d))) (then_next f g _ refl refl ∙ ap (λ o. ordering_then (ordering_then f g) (ordering_then i o)) (then-equal j))
    )

gathered-clock : (a b c d e f g h x y z : Ordering) → x ≡ ordering_then a b → c ≡ Equal → y ≡ ordering_then d e → f ≡ Equal → z ≡ ordering_then g h
    → ordering_then a (ordering_then b (ordering_then c (ordering_then d (ordering_then e (ordering_then f (ordering_then g (ordering_then h Equal)))))))
    ≡ ordering_then x (ordering_then y z)
gathered-clock a b c d e f g h x y z hour first minute second third = rw (hour, first, minute, second, third) (
    then_next a b _ refl refl
    ∙ ap (ordering_then (ordering_then a b)) (then_next d e _ refl refl ∙ ap (λ o. ordering_then (ordering_then d e) (ordering_then g o)) (then-equal h))
    )

year-order : (s t : List ℕ) (a b : Day) → DayText s a → DayText t b
    → nat_cmp a.year b.year ≡ ordering_then (ordering_then (at s t 0) (at s t 1)) (ordering_then (at s t 2) (at s t 3))
year-order s t a b p q =
    (λ i. nat_cmp (p.year i) (q.year i))
    ∙ hundreds-order p.hundreds p.years q.hundreds q.years (below s p.years p.at_years) (below t q.years q.at_years)
    ∙ (λ i. ordering_then (two-order s t 0 p.hundreds q.hundreds p.at_hundreds q.at_hundreds i) (two-order s t 2 p.years q.years p.at_years q.at_years i))
  where
    below : (text : List ℕ) (n : ℕ) → TwoDigits text 2 n → n < 100
    below text n d = two-below (slice_index text 2) (slice_index text 3) n d.tens_to d.ones_to d.number

pub date-order : (s t : List ℕ) (a b : Day) → day_of_text s ≡ Some a → day_of_text t ≡ Some b → slice_cmp nat_cmp s t ≡ date_cmp a b
date-order s t a b e f =
    let p = day-text s a e in
    let q = day-text t b f in
    (λ i. slice_cmp nat_cmp (spelled s 10 0 p.long i) (spelled t 10 0 q.long i))
    ∙ gathered-day (at s t 0) (at s t 1) (at s t 2) (at s t 3) (at s t 4) (at s t 5) (at s t 6) (at s t 7) (at s t 8) (at s t 9) _ _ _
    (year-order s t a b p q)
    (same-byte s t 4 45 p.first_dash q.first_dash)
    (two-order s t 5 a.month b.month p.month q.month)
    (same-byte s t 7 45 p.second_dash q.second_dash)
    (two-order s t 8 a.day b.day p.day q.day)

pub clock-order : (s t : List ℕ) (a b : Clock) → clock_of_text s ≡ Some a → clock_of_text t ≡ Some b → slice_cmp nat_cmp s t ≡ clock_cmp a b
clock-order s t a b e f =
    let p = clock-text s a e in
    let q = clock-text t b f in
    (λ i. slice_cmp nat_cmp (spelled s 8 0 p.long i) (spelled t 8 0 q.long i))
    ∙ gathered-clock (at s t 0) (at s t 1) (at s t 2) (at s t 3) (at s t 4) (at s t 5) (at s t 6) (at s t 7) _ _ _
    (two-order s t 0 a.hour b.hour p.hour q.hour)
    (same-byte s t 2 58 p.first_colon q.first_colon)
    (two-order s t 3 a.minute b.minute p.minute q.minute)
    (same-byte s t 5 58 p.second_colon q.second_colon)
    (two-order s t 6 a.second b.second p.second q.second)
