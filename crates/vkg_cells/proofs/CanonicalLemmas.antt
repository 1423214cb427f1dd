-- The canonical form of a number reads as itself.
use Rattle.std.proofs.Common.{◌≡◌, ◌∙◌, ◌+◌, ◌≤◌, ◌++◌, ◌==◌, ◌&&◌, ℕ, Bool, true, false, List, [], ◌∷◌, if◌then◌else◌, refl, sym, ap, arith, length, nat_lt, codes, append-nil, lit<}
use Rattle.std.proofs.lemmas.Bool.{ne_eqb}
use Rattle.std.specs.List.{after_first, before_first}
use Rattle.vkg_cells.specs.Number.{after_point, canonical, fraction, is_below_zero, is_decimal, is_digits, is_integer, is_negative, onto_unless_zero, or_zero, unsigned, whole, width, without_leading_zeros, without_trailing_zeros}
use Rattle.std.specs.Str.Parse.{AllDigits}
use Rattle.vkg_cells.proofs.Digits.{are-digits, digits-append, digits-some, digits-without-leading, digits-without-trailing, first-digit, zero-first}
use Rattle.vkg_cells.proofs.ValueLemmas.{HasNoZeroFirst, IsTrimmed, no-zero-first, trimmed}
use Rattle.vkg_cells.proofs.PlaceLemmas.{after-all, after-cut, before-all, before-cut, lacks-digits}
use Rattle.vkg_cells.proofs.SignLemmas.{decimal-parts}

-- a numeral of its parts
abbrev pub spelled : Bool → List ℕ → List ℕ → List ℕ
spelled minus w f = (if minus then codes "-" else []) ++ or_zero w ++ after_point f

pub unsigned-digits : (d : ℕ) (ds : List ℕ) → 48 ≤ d → unsigned (d ∷ ds) ≡ d ∷ ds
unsigned-digits d ds h = rw (ne_eqb d 43 (λ e. omega (arith, e, h)), ne_eqb d 45 (λ e. omega (arith, e, h))) refl

unsigned-spelled : (minus : Bool) (w f : List ℕ) → AllDigits 10 w → unsigned (spelled minus w f) ≡ or_zero w ++ after_point f
unsigned-spelled true w f a = refl
unsigned-spelled false [] f a = refl
unsigned-spelled false (d ∷ ds) f a = unsigned-digits d (ds ++ after_point f) (first-digit d ds a).0

pub negative-spelled : (minus : Bool) (w f : List ℕ) → AllDigits 10 w → is_negative (spelled minus w f) ≡ minus
negative-spelled true w f a = refl
negative-spelled false [] f a = refl
negative-spelled false (d ∷ ds) f a = rw (ne_eqb 45 d (λ e. omega (arith, e, (first-digit d ds a).0))) refl

digits-or-zero : (w : List ℕ) → AllDigits 10 w → AllDigits 10 (or_zero w)
digits-or-zero [] a = zero-first [] tt
digits-or-zero (d ∷ ds) a = a

before-spelled : (ds f : List ℕ) → AllDigits 10 ds → before_first (λ b. b == 46) (ds ++ after_point f) ≡ ds
before-spelled ds [] a = rw (append-nil ds) (before-all 46 ds (lacks-digits 46 ds (lit< tt) a))
before-spelled ds (d ∷ f) a = before-cut 46 ds (d ∷ f) (lacks-digits 46 ds (lit< tt) a)

after-spelled : (ds f : List ℕ) → AllDigits 10 ds → after_first (λ b. b == 46) (ds ++ after_point f) ≡ f
after-spelled ds [] a = rw (append-nil ds) (after-all 46 ds (lacks-digits 46 ds (lit< tt) a))
after-spelled ds (d ∷ f) a = after-cut 46 ds (d ∷ f) (lacks-digits 46 ds (lit< tt) a)

pub whole-spelled : (minus : Bool) (w f : List ℕ) → AllDigits 10 w → whole (spelled minus w f) ≡ or_zero w
whole-spelled minus w f a = rw (unsigned-spelled minus w f a) (before-spelled (or_zero w) f (digits-or-zero w a))

pub fraction-spelled : (minus : Bool) (w f : List ℕ) → AllDigits 10 w → fraction (spelled minus w f) ≡ f
fraction-spelled minus w f a = rw (unsigned-spelled minus w f a) (after-spelled (or_zero w) f (digits-or-zero w a))

pub leading-kept : (w : List ℕ) → HasNoZeroFirst w → without_leading_zeros (or_zero w) ≡ w
leading-kept [] h = refl
leading-kept (d ∷ ds) h = rw (ne_eqb d 48 (λ e. h (sym e))) refl

pub trailing-kept : (f : List ℕ) → IsTrimmed f → without_trailing_zeros f ≡ f
trailing-kept [] h = refl
trailing-kept (d ∷ []) h = rw (ne_eqb d 48 (λ e. h (sym e))) refl
trailing-kept (d ∷ e ∷ es) h = ap (onto_unless_zero d) (trailing-kept (e ∷ es) h)

some-digits : (w f : List ℕ) → AllDigits 10 w → AllDigits 10 f → is_digits (or_zero w ++ f) ≡ true
some-digits [] f a b = are-digits (48 ∷ f) (zero-first f b)
some-digits (d ∷ ds) f a b = are-digits (d ∷ ds ++ f) (digits-append (d ∷ ds) f a b)

-- a canonical form reads as what it is the form of
pub record IsRead (text : List ℕ) : Type 0 where
  pub decimal : is_decimal (canonical text) ≡ true
  pub width_same : width (canonical text) ≡ width text
  pub sign_same : is_below_zero (canonical text) ≡ is_below_zero text
  pub whole_same : without_leading_zeros (whole (canonical text)) ≡ without_leading_zeros (whole text)
  pub fraction_same : without_trailing_zeros (fraction (canonical text)) ≡ without_trailing_zeros (fraction text)
  pub again : canonical (canonical text) ≡ canonical text

pub is-read : (text : List ℕ) → is_decimal text ≡ true → IsRead text
is-read text d =
    let minus = is_below_zero text in
    let w = without_leading_zeros (whole text) in
    let f = without_trailing_zeros (fraction text) in
    let parts = decimal-parts text d in
    let dw = digits-without-leading (whole text) parts.0 in
    let df = digits-without-trailing (fraction text) parts.1 in
    let wholes : whole (canonical text) ≡ or_zero w = whole-spelled minus w f dw in
    let fractions : fraction (canonical text) ≡ f = fraction-spelled minus w f dw in
    let leads : without_leading_zeros (whole (canonical text)) ≡ w = ap without_leading_zeros wholes ∙ leading-kept w (no-zero-first (whole text)) in
    let trails : without_trailing_zeros (fraction (canonical text)) ≡ f = ap without_trailing_zeros fractions ∙ trailing-kept f (trimmed (fraction text)) in
    let widths : width (canonical text) ≡ width text = λ i. length (leads i) + length (trails i) in
    let signs : is_below_zero (canonical text) ≡ minus =
    (λ i. negative-spelled minus w f dw i && nat_lt 0 (widths i)) ∙ once (is_negative text) (nat_lt 0 (width text)) in
    record {
      decimal = (λ i. is_digits (wholes i ++ fractions i)) ∙ some-digits w f dw df;
      width_same = widths;
      sign_same = signs;
      whole_same = leads;
      fraction_same = trails;
      again = λ i. spelled (signs i) (leads i) (trails i);
    }
  where
    once : (a b : Bool) → (a && b) && b ≡ a && b
    once false b = refl
    once true true = refl
    once true false = refl

digits-of : (text : List ℕ) → is_integer text ≡ true → AllDigits 10 (unsigned text)
digits-of text h = digits-some (unsigned text) h

pub integer-decimal : (text : List ℕ) → is_integer text ≡ true → is_decimal text ≡ true
integer-decimal text h =
    let a = lacks-digits 46 (unsigned text) (lit< tt) (digits-of text h) in
    (λ i. is_digits (before-all 46 (unsigned text) a i ++ after-all 46 (unsigned text) a i)) ∙ ap is_digits (append-nil (unsigned text)) ∙ h

pub integer-read : (text : List ℕ) → is_integer text ≡ true → is_integer (canonical text) ≡ true
integer-read text h =
    let a = digits-of text h in
    let none : without_trailing_zeros (fraction text) ≡ [] = ap without_trailing_zeros (after-all 46 (unsigned text) (lacks-digits 46 (unsigned text) (lit< tt) a)) in
    let w = without_leading_zeros (whole text) in
    let dw = digits-without-leading (whole text) (decimal-parts text (integer-decimal text h)).0 in
    ap is_digits (unsigned-spelled (is_below_zero text) w (without_trailing_zeros (fraction text)) dw ∙ ap (λ f. or_zero w ++ after_point f) none)
    ∙ some-digits w [] dw tt
