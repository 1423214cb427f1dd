-- The order of the numbers that digits write.
use Rattle.std.proofs.Common.{◌≡◌, ◌≢◌, ◌∙◌, ◌+◌, ◌-◌, ◌*◌, ◌^◌, ◌<◌, ◌≤◌, ◌++◌, ◌⊎◌, inl, inr, ℕ, zero, suc, Bool, true, false, List, [], ◌∷◌, refl, sym, ap, arith, length, fold, replicate, length-append, append_assoc, eqb-true, if◌then◌else◌, ◌==◌}
use Rattle.std.specs.Ordering.{nat_cmp, ordering_then}
use Rattle.std.specs.Cmp.{nat_cmp_is, ranked}
use Rattle.std.specs.Cmp.Derive.{then_next}
use Rattle.std.proofs.lemmas.List.{length-replicate, replicate-append-replicate}
use Rattle.std.proofs.lemmas.List.Sums.{fold-append}
use Rattle.std.proofs.Math.Nat.{mul-one, pow-suc}
use Rattle.vkg_cells.specs.Number.{digits_value, onto_unless_zero, without_leading_zeros, without_trailing_zeros}
use Rattle.std.specs.Str.Parse.{AllDigits}
use Rattle.vkg_cells.proofs.Digits.{digits-append, digits-without-leading, digits-without-trailing, first-digit, zero-first}
use Rattle.std.specs.Cmp.Lexicographic.{slice_cmp}
use Rattle.std.specs.declared.cmp.Ordering.{Ordering}
use Rattle.std.specs.declared.cmp.Ordering.TheVariants.{Less, Equal, Greater}
use Rattle.std.proofs.lemmas.Bool.{cases_order, eqb-false}

pub then-equal : (o : Ordering) → ordering_then o Equal ≡ o
then-equal Less = refl
then-equal Equal = refl
then-equal Greater = refl

-- the number that digits write behind those of n
abbrev pub onto : ℕ → List ℕ → ℕ
onto n ds = fold (λ a d. 10 * a + (d - 48)) n ds

step : (m n x y : ℕ) (o : Ordering) → 48 ≤ x → x ≤ 57 → 48 ≤ y → y ≤ 57
    → ordering_then (nat_cmp (10 * m + (x - 48)) (10 * n + (y - 48))) o ≡ ordering_then (nat_cmp m n) (ordering_then (nat_cmp x y) o)
step m n x y o a b c d = elim (cases_order m n) [
  | inl e ↦ rw (sym (nat_cmp_is m n Equal e)) (within e)
  | inr (inl h) ↦ rw (sym (nat_cmp_is m n Less h), sym (nat_cmp_is (10 * m + (x - 48)) (10 * n + (y - 48)) Less (omega arith))) refl
  | inr (inr h) ↦ rw (sym (nat_cmp_is m n Greater h), sym (nat_cmp_is (10 * m + (x - 48)) (10 * n + (y - 48)) Greater (omega arith))) refl
]
  where
    within : m ≡ n → ordering_then (nat_cmp (10 * m + (x - 48)) (10 * n + (y - 48))) o ≡ ordering_then (nat_cmp x y) o
    within e = elim (cases_order x y) [
      | inl f ↦ rw (sym (nat_cmp_is x y Equal f), sym (nat_cmp_is (10 * m + (x - 48)) (10 * n + (y - 48)) Equal (omega arith))) refl
      | inr (inl h) ↦ rw (sym (nat_cmp_is x y Less h), sym (nat_cmp_is (10 * m + (x - 48)) (10 * n + (y - 48)) Less (omega arith))) refl
      | inr (inr h) ↦ rw (sym (nat_cmp_is x y Greater h), sym (nat_cmp_is (10 * m + (x - 48)) (10 * n + (y - 48)) Greater (omega arith))) refl
    ]

-- as many digits are ordered as their texts are
pub cmp-onto : (xs ys : List ℕ) → AllDigits 10 xs → AllDigits 10 ys → length xs ≡ length ys → (m n : ℕ)
    → nat_cmp (onto m xs) (onto n ys) ≡ ordering_then (nat_cmp m n) (slice_cmp nat_cmp xs ys)
cmp-onto [] [] a b e m n = sym (then-equal (nat_cmp m n))
cmp-onto [] (y ∷ ys) a b e m n = absurd (omega (arith, e))
cmp-onto (x ∷ xs) [] a b e m n = absurd (omega (arith, e))
cmp-onto (x ∷ xs) (y ∷ ys) a b e m n =
    let p = first-digit x xs a in
    let q = first-digit y ys b in
    cmp-onto xs ys a.1 b.1 (omega (arith, e)) (10 * m + (x - 48)) (10 * n + (y - 48))
    ∙ step m n x y (slice_cmp nat_cmp xs ys) p.0 p.1 q.0 q.1

abbrev pub zeros : ℕ → List ℕ
zeros k = replicate k 48

digits-zeros : (k : ℕ) → AllDigits 10 (zeros k)
digits-zeros zero = tt
digits-zeros (suc k) = zero-first (zeros k) (digits-zeros k)

onto-leading : (k : ℕ) (xs : List ℕ) → onto 0 (zeros k ++ xs) ≡ onto 0 xs
onto-leading zero xs = refl
onto-leading (suc k) xs = onto-leading k xs

-- fewer digits are a lesser number, where the first of the others is no zero
shorter : (xs : List ℕ) (y : ℕ) (ys : List ℕ) → AllDigits 10 xs → AllDigits 10 (y ∷ ys) → 48 < y → length xs ≤ length ys
    → nat_cmp (onto 0 xs) (onto 0 (y ∷ ys)) ≡ Less
shorter xs y ys a b above fits =
    let k = length ys - length xs in
    let padded = zeros k ++ xs in
    let long : length (48 ∷ padded) ≡ length (y ∷ ys) = rw (length-append, length-replicate) (omega arith) in
    ap (λ n. nat_cmp n (onto 0 (y ∷ ys))) (sym (onto-leading (suc k) xs))
    ∙ cmp-onto (48 ∷ padded) (y ∷ ys) (zero-first padded (digits-append (zeros k) xs (digits-zeros k) a)) b long 0 0
    ∙ ap (λ o. ordering_then o (slice_cmp nat_cmp padded ys)) (sym (nat_cmp_is 48 y Less above))

cmp-append : (xs ys us vs : List ℕ) → length xs ≡ length ys
    → slice_cmp nat_cmp (xs ++ us) (ys ++ vs) ≡ ordering_then (slice_cmp nat_cmp xs ys) (slice_cmp nat_cmp us vs)
cmp-append [] [] us vs e = refl
cmp-append [] (y ∷ ys) us vs e = absurd (omega (arith, e))
cmp-append (x ∷ xs) [] us vs e = absurd (omega (arith, e))
cmp-append (x ∷ xs) (y ∷ ys) us vs e =
    ap (ordering_then (nat_cmp x y)) (cmp-append xs ys us vs (omega (arith, e)))
    ∙ then_next (nat_cmp x y) (slice_cmp nat_cmp xs ys) (slice_cmp nat_cmp us vs) refl refl

-- the last digit is no zero
abbrev pub IsTrimmed : List ℕ → Type 0
IsTrimmed [] = Unit {0}
IsTrimmed (d ∷ []) = 48 ≢ d
IsTrimmed (d ∷ e ∷ es) = IsTrimmed (e ∷ es)

trimmed-rest : (d : ℕ) (ds : List ℕ) → IsTrimmed (d ∷ ds) → IsTrimmed ds
trimmed-rest d [] h = tt
trimmed-rest d (e ∷ es) h = h

same-zeros : (k l : ℕ) → k ≡ l → slice_cmp nat_cmp (zeros k) (zeros l) ≡ Equal
same-zeros zero zero e = refl
same-zeros zero (suc l) e = absurd (omega (arith, e))
same-zeros (suc k) zero e = absurd (omega (arith, e))
same-zeros (suc k) (suc l) e = same-zeros k l (omega (arith, e))

zeros-below : (d : ℕ) (ds : List ℕ) → AllDigits 10 (d ∷ ds) → IsTrimmed (d ∷ ds) → (k l : ℕ) → k ≡ length (d ∷ ds) + l
    → slice_cmp nat_cmp (zeros k) (d ∷ ds ++ zeros l) ≡ Less
zeros-below d ds a t zero l e = absurd (omega (arith, e))
zeros-below d [] a t (suc k) l e =
    let above : 48 < d = omega (arith, (first-digit d [] a).0, t) in
    ap (λ o. ordering_then o (slice_cmp nat_cmp (zeros k) (zeros l))) (sym (nat_cmp_is 48 d Less above))
zeros-below d (c ∷ cs) a t (suc k) l e =
    ap (ordering_then (nat_cmp 48 d)) (zeros-below c cs a.1 t k l (omega (arith, e))) ∙ below (cases_order 48 d)
  where
    below : (48 ≡ d) ⊎ ((48 < d) ⊎ (d < 48)) → ordering_then (nat_cmp 48 d) Less ≡ Less
    below (inl h) = rw (sym (nat_cmp_is 48 d Equal h)) refl
    below (inr (inl h)) = rw (sym (nat_cmp_is 48 d Less h)) refl
    below (inr (inr h)) = absurd (omega (arith, (first-digit d (c ∷ cs) a).0, h))

zeros-above : (d : ℕ) (ds : List ℕ) → AllDigits 10 (d ∷ ds) → IsTrimmed (d ∷ ds) → (k l : ℕ) → k ≡ length (d ∷ ds) + l
    → slice_cmp nat_cmp (d ∷ ds ++ zeros l) (zeros k) ≡ Greater
zeros-above d ds a t zero l e = absurd (omega (arith, e))
zeros-above d [] a t (suc k) l e =
    let above : 48 < d = omega (arith, (first-digit d [] a).0, t) in
    ap (λ o. ordering_then o (slice_cmp nat_cmp (zeros l) (zeros k))) (sym (nat_cmp_is d 48 Greater above))
zeros-above d (c ∷ cs) a t (suc k) l e =
    ap (ordering_then (nat_cmp d 48)) (zeros-above c cs a.1 t k l (omega (arith, e))) ∙ above (cases_order d 48)
  where
    above : (d ≡ 48) ⊎ ((d < 48) ⊎ (48 < d)) → ordering_then (nat_cmp d 48) Greater ≡ Greater
    above (inl h) = rw (sym (nat_cmp_is d 48 Equal h)) refl
    above (inr (inl h)) = absurd (omega (arith, (first-digit d (c ∷ cs) a).0, h))
    above (inr (inr h)) = rw (sym (nat_cmp_is d 48 Greater h)) refl

-- zeros behind two fractions to one length change nothing
cmp-padded : (f g : List ℕ) → AllDigits 10 f → AllDigits 10 g → IsTrimmed f → IsTrimmed g → (k l : ℕ) → length f + k ≡ length g + l
    → slice_cmp nat_cmp (f ++ zeros k) (g ++ zeros l) ≡ slice_cmp nat_cmp f g
cmp-padded [] [] a b t u k l e = same-zeros k l (omega (arith, e))
cmp-padded [] (d ∷ ds) a b t u k l e = zeros-below d ds b u k l (omega (arith, e))
cmp-padded (c ∷ cs) [] a b t u k l e = zeros-above c cs a t l k (omega (arith, e))
cmp-padded (c ∷ cs) (d ∷ ds) a b t u k l e =
    ap (ordering_then (nat_cmp c d)) (cmp-padded cs ds a.1 b.1 (trimmed-rest c cs t) (trimmed-rest d ds u) k l (omega (arith, e)))

-- the first digit is no zero
abbrev pub HasNoZeroFirst : List ℕ → Type 0
HasNoZeroFirst [] = Unit {0}
HasNoZeroFirst (d ∷ ds) = 48 ≢ d

-- two numbers, each by its digits before and after the point, where the latter are made as many by zeros
pub cmp-magnitude : (w v f g : List ℕ) → AllDigits 10 w → AllDigits 10 v → AllDigits 10 f → AllDigits 10 g
    → HasNoZeroFirst w → HasNoZeroFirst v → IsTrimmed f → IsTrimmed g → (k l : ℕ) → length f + k ≡ length g + l
    → nat_cmp (onto 0 (w ++ (f ++ zeros k))) (onto 0 (v ++ (g ++ zeros l)))
    ≡ ordering_then (ordering_then (nat_cmp (length w) (length v)) (slice_cmp nat_cmp w v)) (slice_cmp nat_cmp f g)
cmp-magnitude w v f g dw dv df dg zw zv tf tg k l e = elim (cases_order (length w) (length v)) [
  | inl same ↦ rw (sym (nat_cmp_is (length w) (length v) Equal same))
      (cmp-onto (w ++ (f ++ zeros k)) (v ++ (g ++ zeros l)) (behind w f k dw df) (behind v g l dv dg) (as_long same) 0 0
      ∙ cmp-append w v (f ++ zeros k) (g ++ zeros l) same
      ∙ ap (ordering_then (slice_cmp nat_cmp w v)) (cmp-padded f g df dg tf tg k l e))
  | inr (inl less) ↦ rw (sym (nat_cmp_is (length w) (length v) Less less)) (fewer w v f g k l dw dv df dg zv e less)
  | inr (inr more) ↦ rw (sym (nat_cmp_is (length w) (length v) Greater more)) (turned (onto 0 (w ++ (f ++ zeros k))) (onto 0 (v ++ (g ++ zeros l))) (fewer v w g f l k dv dw dg df zw (sym e) more))
]
  where
    behind : (w f : List ℕ) (k : ℕ) → AllDigits 10 w → AllDigits 10 f → AllDigits 10 (w ++ (f ++ zeros k))
    behind w f k a b = digits-append w (f ++ zeros k) a (digits-append f (zeros k) b (digits-zeros k))

    length-all : (w f : List ℕ) (k : ℕ) → length (w ++ (f ++ zeros k)) ≡ length w + (length f + k)
    length-all w f k = rw (length-append w (f ++ zeros k), length-append f (zeros k), length-replicate {A = ℕ} k 48) refl

    as_long : length w ≡ length v → length (w ++ (f ++ zeros k)) ≡ length (v ++ (g ++ zeros l))
    as_long same = rw (length-all w f k, length-all v g l) (omega (arith, same, e))

    fewer : (w v f g : List ℕ) (k l : ℕ) → AllDigits 10 w → AllDigits 10 v → AllDigits 10 f → AllDigits 10 g → HasNoZeroFirst v
        → length f + k ≡ length g + l → length w < length v
        → nat_cmp (onto 0 (w ++ (f ++ zeros k))) (onto 0 (v ++ (g ++ zeros l))) ≡ Less
    fewer w [] f g k l dw dv df dg z e h = absurd (omega (arith, h))
    fewer w (d ∷ ds) f g k l dw dv df dg z e h =
        shorter (w ++ (f ++ zeros k)) d (ds ++ (g ++ zeros l)) (behind w f k dw df) (behind (d ∷ ds) g l dv dg)
        (omega (arith, (first-digit d ds dv).0, z)) (rw (length-all w f k, length-all ds g l) (omega (arith, e, h)))

    turned : (x y : ℕ) → nat_cmp y x ≡ Less → nat_cmp x y ≡ Greater
    turned x y h = sym (nat_cmp_is x y Greater (ranked y x Less (sym h)))

onto-zeros : (n k : ℕ) → onto n (zeros k) ≡ n * 10 ^ k
onto-zeros n zero = sym (mul-one n)
onto-zeros n (suc k) = onto-zeros (10 * n + 0) k ∙ rw (pow-suc 10 k) tens
  where
    tens : (10 * n + 0) * 10 ^ k ≡ n * (10 ^ k * 10)
    tens = grind arith

onto-without-leading : (w r : List ℕ) → onto 0 (w ++ r) ≡ onto 0 (without_leading_zeros w ++ r)
onto-without-leading [] r = refl
onto-without-leading (d ∷ ds) r = by (onto-without-leading ds r) (d == 48) refl
  where
    by : onto 0 (ds ++ r) ≡ onto 0 (without_leading_zeros ds ++ r) → (b : Bool) → (d == 48) ≡ b → onto 0 (d ∷ ds ++ r) ≡ onto 0 ((if d == 48 then without_leading_zeros ds else d ∷ ds) ++ r)
    by h true e = rw (e, eqb-true d 48 e) h
    by h false e = rw e refl

pub no-zero-first : (w : List ℕ) → HasNoZeroFirst (without_leading_zeros w)
no-zero-first [] = tt
no-zero-first (d ∷ ds) = by (no-zero-first ds) (d == 48) refl
  where
    by : HasNoZeroFirst (without_leading_zeros ds) → (b : Bool) → (d == 48) ≡ b → HasNoZeroFirst (if d == 48 then without_leading_zeros ds else d ∷ ds)
    by h true e = rw e h
    by h false e = rw e (λ h. eqb-false d 48 e (sym h))

-- a fraction is its digits without the zeros at its end, and zeros
pub record EndsInZeros (f : List ℕ) : Type 0 where
  pub count : ℕ
  pub whole : f ≡ without_trailing_zeros f ++ zeros count

ends-onto : (d : ℕ) (ds : List ℕ) (k : ℕ) → ds ≡ without_trailing_zeros ds ++ zeros k → EndsInZeros (d ∷ ds)
ends-onto d ds k e = by (without_trailing_zeros ds) refl
  where
    one : (b : Bool) → (d == 48) ≡ b → without_trailing_zeros ds ≡ [] → EndsInZeros (d ∷ ds)
    one true f h = record { count = suc k; whole = rw (h, f) (ap (λ c. c ∷ ds) (eqb-true d 48 f) ∙ ap (λ l. 48 ∷ l) (e ∙ rw h refl)) }
    one false f h = record { count = k; whole = rw (h, f) (ap (λ l. d ∷ l) (e ∙ rw h refl)) }

    by : (t : List ℕ) → without_trailing_zeros ds ≡ t → EndsInZeros (d ∷ ds)
    by [] h = one (d == 48) refl h
    by (c ∷ cs) h = record { count = k; whole = rw h (ap (λ l. d ∷ l) (e ∙ rw h refl)) }

pub ends-in-zeros : (f : List ℕ) → EndsInZeros f
ends-in-zeros [] = record { count = 0; whole = refl }
ends-in-zeros (d ∷ ds) = let rest = ends-in-zeros ds in ends-onto d ds rest.count rest.whole

trimmed-onto : (d : ℕ) (ds : List ℕ) → IsTrimmed ds → IsTrimmed (onto_unless_zero d ds)
trimmed-onto d (e ∷ es) h = h
trimmed-onto d [] h = by (d == 48) refl
  where
    by : (b : Bool) → (d == 48) ≡ b → IsTrimmed (if d == 48 then [] else d ∷ [])
    by true e = rw e tt
    by false e = rw e (λ h. eqb-false d 48 e (sym h))

pub trimmed : (f : List ℕ) → IsTrimmed (without_trailing_zeros f)
trimmed [] = tt
trimmed (d ∷ ds) = trimmed-onto d (without_trailing_zeros ds) (trimmed ds)

-- a number times a power of ten, by its digits without needless zeros
scaled : (w f : List ℕ) (s : ℕ) → digits_value (w ++ f) * 10 ^ s
    ≡ onto 0 (without_leading_zeros w ++ (without_trailing_zeros f ++ zeros ((ends-in-zeros f).count + s)))
scaled w f s =
    let z = ends-in-zeros f in
    sym (onto-zeros (onto 0 (w ++ f)) s)
    ∙ sym (fold-append (λ a d. 10 * a + (d - 48)) 0 (w ++ f) (zeros s))
    ∙ ap (onto 0) (append_assoc w f (zeros s) ∙ ap (λ l. w ++ l) (ap (λ l. l ++ zeros s) z.whole ∙ append_assoc (without_trailing_zeros f) (zeros z.count) (zeros s)
    ∙ ap (λ l. without_trailing_zeros f ++ l) (replicate-append-replicate z.count s 48)))
    ∙ onto-without-leading w (without_trailing_zeros f ++ zeros (z.count + s))

pub ends-long : (f : List ℕ) → length (without_trailing_zeros f) + (ends-in-zeros f).count ≡ length f
ends-long f =
    let z = ends-in-zeros f in
    sym (ap length z.whole ∙ length-append (without_trailing_zeros f) (zeros z.count) ∙ ap (λ n. length (without_trailing_zeros f) + n) (length-replicate {A = ℕ} z.count 48))

-- the sizes of two numbers, by their digits without needless zeros
pub cmp-scaled : (w f v g : List ℕ) → AllDigits 10 w → AllDigits 10 f → AllDigits 10 v → AllDigits 10 g
    → nat_cmp (digits_value (w ++ f) * 10 ^ length g) (digits_value (v ++ g) * 10 ^ length f)
    ≡ ordering_then (ordering_then (nat_cmp (length (without_leading_zeros w)) (length (without_leading_zeros v)))
    (slice_cmp nat_cmp (without_leading_zeros w) (without_leading_zeros v)))
    (slice_cmp nat_cmp (without_trailing_zeros f) (without_trailing_zeros g))
cmp-scaled w f v g dw df dv dg =
    (λ i. nat_cmp (scaled w f (length g) i) (scaled v g (length f) i))
    ∙ cmp-magnitude (without_leading_zeros w) (without_leading_zeros v) (without_trailing_zeros f) (without_trailing_zeros g)
    (digits-without-leading w dw) (digits-without-leading v dv) (digits-without-trailing f df) (digits-without-trailing g dg)
    (no-zero-first w) (no-zero-first v) (trimmed f) (trimmed g)
    ((ends-in-zeros f).count + length g) ((ends-in-zeros g).count + length f) (omega (arith, ends-long f, ends-long g))
