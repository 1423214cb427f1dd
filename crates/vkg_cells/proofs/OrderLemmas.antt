-- The order of cells is total.
use Rattle.std.proofs.Common.{◌≡◌, ◌∙◌, ◌*◌, ◌^◌, ◌<◌, inl, inr, ℕ, zero, suc, Bool, true, false, List, [], ℤ, pos, refl, sym, ap, subst, arith, if◌then◌else◌}
use Rattle.std.specs.Prelude.{neg_ℤ, ◌*ℤ◌}
use Rattle.std.specs.Ordering.{bool_cmp, int_cmp, nat_cmp, on, then_cmp}
use Rattle.std.specs.Cmp.{IsTotalOrder, bool_cmp_total, int_cmp_total, nat_cmp_is, nat_cmp_total, on_total, then_total}
use Rattle.std.specs.Cmp.Lexicographic.{nat_list_cmp_total}
use Rattle.std.specs.declared.cmp.Ordering.{Ordering}
use Rattle.std.specs.declared.cmp.Ordering.TheVariants.{Less, Equal, Greater}
use Rattle.std.proofs.Math.IntN.{pos-*ℤ-pos}
use Rattle.std.proofs.Math.Nat.{mul-lt-mul_of_pos_right, mul-pos, mul_right_comm, one-le-pow, zero-mul}
use Rattle.std.proofs.Math.Dec.{lit<}
use Rattle.std.proofs.lemmas.Bool.{cases_order}
use Rattle.vkg_lists.specs.Texts.{bytes_cmp}
use Rattle.vkg_cells.specs.declared.cell.Cell.{Cell}
use Rattle.vkg_cells.specs.declared.cell.Cell.TheVariants as cell
use Rattle.vkg_cells.specs.Number.{is_negative, number_cmp, numerator, scale, size}
use Rattle.vkg_cells.specs.Order.{family_of, order}
use Rattle.vkg_cells.proofs.SignLemmas.{above-neg, cmp-neg, cmp-pos, neg-above, neg-times}
use Rattle.vkg_cells.proofs.ValueLemmas.{then-equal}
use Rattle.vkg_terms.specs.declared.term.Term.{Term}
use Rattle.vkg_terms.specs.declared.term.Term.TheVariants.{Iri}
use Rattle.vkg_terms.specs.Same.{annotation_cmp, annotation_name, annotation_rank, term_annotation, term_cmp, term_name, term_rank}

abbrev signed : Bool → ℕ → ℤ
signed minus n = if minus then neg_ℤ (pos n) else pos n

signed-times : (minus : Bool) (n m : ℕ) → signed minus n *ℤ pos m ≡ signed minus (n * m)
signed-times true n m = neg-times n m
signed-times false n m = pos-*ℤ-pos n m

nat-scaled : (x y m : ℕ) → 0 < m → nat_cmp (x * m) (y * m) ≡ nat_cmp x y
nat-scaled x y m h = elim (cases_order x y) [
  | inl e ↦ rw (sym (nat_cmp_is x y Equal e)) (sym (nat_cmp_is (x * m) (y * m) Equal (ap (λ n. n * m) e)))
  | inr (inl l) ↦ rw (sym (nat_cmp_is x y Less l)) (sym (nat_cmp_is (x * m) (y * m) Less (mul-lt-mul_of_pos_right l h)))
  | inr (inr g) ↦ rw (sym (nat_cmp_is x y Greater g)) (sym (nat_cmp_is (x * m) (y * m) Greater (mul-lt-mul_of_pos_right g h)))
]

int-scaled : (p q : Bool) (x y m : ℕ) → 0 < m → int_cmp (signed p (x * m)) (signed q (y * m)) ≡ int_cmp (signed p x) (signed q y)
int-scaled false false x y m h = cmp-pos (x * m) (y * m) ∙ nat-scaled x y m h ∙ sym (cmp-pos x y)
int-scaled true true x y m h = cmp-neg (x * m) (y * m) ∙ nat-scaled y x m h ∙ sym (cmp-neg x y)
int-scaled true false zero y m h =
    (λ i. int_cmp (neg_ℤ (pos (zero-mul m i))) (pos (y * m))) ∙ cmp-pos 0 (y * m)
    ∙ ap (λ n. nat_cmp n (y * m)) (sym (zero-mul m)) ∙ nat-scaled 0 y m h ∙ sym (cmp-pos 0 y)
int-scaled true false (suc x) y m h = neg-above (suc x * m) (y * m) (mul-pos (omega arith) h)
int-scaled false true x zero m h =
    (λ i. int_cmp (pos (x * m)) (neg_ℤ (pos (zero-mul m i)))) ∙ cmp-pos (x * m) 0
    ∙ ap (nat_cmp (x * m)) (sym (zero-mul m)) ∙ nat-scaled x 0 m h ∙ sym (cmp-pos x 0)
int-scaled false true x (suc y) m h = above-neg (x * m) (suc y * m) (mul-pos (omega arith) h)

-- a number over a common denominator
abbrev over : List ℕ → ℕ → ℤ
over a n = signed (is_negative a) n

number-over : (a b : List ℕ) (k : ℕ)
    → number_cmp a b ≡ int_cmp (over a (size a * 10 ^ scale b * 10 ^ k)) (over b (size b * 10 ^ scale a * 10 ^ k))
number-over a b k =
    (λ i. int_cmp (signed-times (is_negative a) (size a) (10 ^ scale b) i) (signed-times (is_negative b) (size b) (10 ^ scale a) i))
    ∙ sym (int-scaled (is_negative a) (is_negative b) (size a * 10 ^ scale b) (size b * 10 ^ scale a) (10 ^ k) (one-le-pow k 10 (lit< tt)))

-- three numbers over one denominator
module _ (a b c : List ℕ) where
  abbrev first : ℤ
  first = over a (size a * 10 ^ scale b * 10 ^ scale c)

  abbrev second : ℤ
  second = over b (size b * 10 ^ scale a * 10 ^ scale c)

  abbrev third : ℤ
  third = over c (size c * 10 ^ scale a * 10 ^ scale b)

  first-second : number_cmp a b ≡ int_cmp first second
  first-second = number-over a b (scale c)

  second-third : number_cmp b c ≡ int_cmp second third
  second-third =
      number-over b c (scale a)
      ∙ (λ i. int_cmp (over b (mul_right_comm (size b) (10 ^ scale c) (10 ^ scale a) i)) (over c (mul_right_comm (size c) (10 ^ scale b) (10 ^ scale a) i)))

  first-third : number_cmp a c ≡ int_cmp first third
  first-third =
      number-over a c (scale b) ∙ (λ i. int_cmp (over a (mul_right_comm (size a) (10 ^ scale c) (10 ^ scale b) i)) third)

pub number-total : IsTotalOrder number_cmp
number-total = record {
  antisymm = λ a b. int_cmp_total.antisymm (numerator a *ℤ pos (10 ^ scale b)) (numerator b *ℤ pos (10 ^ scale a));
  trans = λ a b c p q. first-third a b c ∙ int_cmp_total.trans (first a b c) (second a b c) (third a b c) (sym (first-second a b c) ∙ p) (sym (second-third a b c) ∙ q);
  congr = λ a b c p. first-third a b c ∙ int_cmp_total.congr (first a b c) (second a b c) (third a b c) (sym (first-second a b c) ∙ p) ∙ sym (second-third a b c);
}

annotation-total : IsTotalOrder annotation_cmp
annotation-total = then_total (on_total annotation_rank nat_cmp_total) (on_total annotation_name nat_list_cmp_total)

term-total : IsTotalOrder term_cmp
term-total =
    then_total (on_total term_rank nat_cmp_total) (then_total (on_total term_name nat_list_cmp_total) (on_total term_annotation annotation-total))

-- the text, the number, the truth and the term of a cell, and one that is always the same where it has none
abbrev text_of : Cell → List ℕ
text_of (cell.Text a) = a
text_of (cell.Date a) = a
text_of (cell.Stamp a) = a
text_of (cell.Bin a) = a
text_of (cell.Time a) = a
text_of c = []

abbrev number_in : Cell → List ℕ
number_in (cell.Int a) = a
number_in (cell.Dec a) = a
number_in c = []

abbrev truth_of : Cell → Bool
truth_of (cell.Bool b) = b
truth_of c = false

abbrev term_of : Cell → Term
term_of (cell.Term t) = t
term_of c = Iri []

abbrev by_parts : Cell → Cell → Ordering
by_parts = then_cmp (on family_of nat_cmp) (then_cmp (on text_of bytes_cmp) (then_cmp (on number_in number_cmp) (then_cmp (on truth_of bool_cmp) (on term_of term_cmp))))

parts-total : IsTotalOrder by_parts
parts-total =
    then_total (on_total family_of nat_cmp_total) (then_total (on_total text_of nat_list_cmp_total)
    (then_total (on_total number_in number-total) (then_total (on_total truth_of bool_cmp_total) (on_total term_of term-total))))

order-parts : (c d : Cell) → by_parts c d ≡ order c d
order-parts (cell.Text a) (cell.Text b) = then-equal (bytes_cmp a b)
order-parts (cell.Int a) (cell.Int b) = then-equal (number_cmp a b)
order-parts (cell.Int a) (cell.Dec b) = then-equal (number_cmp a b)
order-parts (cell.Dec a) (cell.Int b) = then-equal (number_cmp a b)
order-parts (cell.Dec a) (cell.Dec b) = then-equal (number_cmp a b)
order-parts (cell.Bool a) (cell.Bool b) = then-equal (bool_cmp a b)
order-parts (cell.Date a) (cell.Date b) = then-equal (bytes_cmp a b)
order-parts (cell.Stamp a) (cell.Stamp b) = then-equal (bytes_cmp a b)
order-parts (cell.Bin a) (cell.Bin b) = then-equal (bytes_cmp a b)
order-parts (cell.Time a) (cell.Time b) = then-equal (bytes_cmp a b)
order-parts cell.Null cell.Null = refl
order-parts (cell.Term s) (cell.Term t) = refl
order-parts c d = refl

pub order-total : IsTotalOrder order
order-total = subst IsTotalOrder (λ i c d. order-parts c d i) parts-total
