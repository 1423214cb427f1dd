-- What stands before and after the first of a byte.
use Rattle.std.proofs.Common.{◌≡◌, ◌∙◌, ◌+◌, ◌<◌, ◌++◌, ◌==◌, ℕ, zero, suc, Bool, true, false, List, [], ◌∷◌, Some, None, refl, sym, ap, subst, arith, length, take, drop, eqb-true, append-nil, length-append}
use Rattle.std.proofs.lemmas.Bool.{eq-eqb, ne_eqb}
use Rattle.std.proofs.lemmas.Option.{none-some}
use Rattle.std.specs.List.{after_first, before_first, position_or_len}
use Rattle.std.proofs.Math.Seq.{drop-append-add, take-append_seam, take-length}
use Rattle.std.proofs.Math.Nat.{zero-add}
use Rattle.vkg_lists.proofs.Positions.{first_here}
use Rattle.vkg_cells.specs.Moment.{cut}
use Rattle.std.specs.Str.{NonePass}
use Rattle.std.specs.Str.Parse.{AllDigits}
use Rattle.vkg_cells.proofs.Digits.{first-digit}

-- no byte of the list is this one
abbrev pub Lacks : ℕ → List ℕ → Type 0
Lacks c xs = NonePass (λ b. b == c) xs

abbrev place : ℕ → List ℕ → ℕ
place c text = position_or_len (λ b. b == c) text

place-behind : (c : ℕ) (xs ys : List ℕ) → Lacks c xs → place c (xs ++ ys) ≡ length xs + place c ys
place-behind c [] ys h = sym (zero-add (place c ys))
place-behind c (x ∷ xs) ys h = rw h.0 (omega (arith, place-behind c xs ys h.1))

place-cut : (c : ℕ) (xs ys : List ℕ) → Lacks c xs → place c (xs ++ c ∷ ys) ≡ length xs
place-cut c xs ys h = omega (arith, place-behind c xs (c ∷ ys) h, first_here (λ b. b == c) c ys (eq-eqb c c refl))

place-all : (c : ℕ) (xs : List ℕ) → Lacks c xs → place c xs ≡ length xs
place-all c [] h = refl
place-all c (x ∷ xs) h = rw h.0 (omega (arith, place-all c xs h.1))

pub before-cut : (c : ℕ) (xs ys : List ℕ) → Lacks c xs → before_first (λ b. b == c) (xs ++ c ∷ ys) ≡ xs
before-cut c xs ys h = rw (place-cut c xs ys h) (take-append_seam xs (c ∷ ys))

pub after-cut : (c : ℕ) (xs ys : List ℕ) → Lacks c xs → after_first (λ b. b == c) (xs ++ c ∷ ys) ≡ ys
after-cut c xs ys h = rw (place-cut c xs ys h) (drop-append-add xs (c ∷ ys) 1)

pub before-all : (c : ℕ) (xs : List ℕ) → Lacks c xs → before_first (λ b. b == c) xs ≡ xs
before-all c xs h = rw (place-all c xs h) (ap (take (length xs)) (sym (append-nil xs)) ∙ take-append_seam xs [])

pub after-all : (c : ℕ) (xs : List ℕ) → Lacks c xs → after_first (λ b. b == c) xs ≡ []
after-all c xs h = rw (place-all c xs h) (ap (drop (length xs + 1)) (sym (append-nil xs)) ∙ drop-append-add xs [] 1)

pub lacks-before : (c : ℕ) (xs : List ℕ) → Lacks c (before_first (λ b. b == c) xs)
lacks-before c [] = tt
lacks-before c (x ∷ xs) = by (lacks-before c xs) (x == c) refl
  where
    one : (n : ℕ) → 1 + n ≡ suc n
    one n = omega arith

    by : Lacks c (before_first (λ b. b == c) xs) → (b : Bool) → (x == c) ≡ b → Lacks c (before_first (λ b. b == c) (x ∷ xs))
    by h true e = rw e tt
    by h false e = rw (e, one (place c xs)) (e, h)

pub lacks-take : (c n : ℕ) (xs : List ℕ) → Lacks c xs → Lacks c (take n xs)
lacks-take c zero xs h = tt
lacks-take c (suc n) [] h = tt
lacks-take c (suc n) (x ∷ xs) h = (h.0, lacks-take c n xs h.1)

pub lacks-digits : (c : ℕ) (xs : List ℕ) → c < 48 → AllDigits 10 xs → Lacks c xs
lacks-digits c [] h a = tt
lacks-digits c (x ∷ xs) h a = (ne_eqb x c (λ e. omega (arith, e, h, (first-digit x xs a).0)), lacks-digits c xs h a.1)

pub cut-none : (c : ℕ) (xs : List ℕ) → Lacks c xs → cut c xs ≡ None
cut-none c xs h = rw (place-all c xs h, eq-eqb (length xs) (length xs) refl) refl

pub cut-some : (c : ℕ) (xs ys : List ℕ) → Lacks c xs → cut c (xs ++ c ∷ ys) ≡ Some (xs, ys)
cut-some c xs ys h =
    rw (place-cut c xs ys h, ne_eqb (length xs) (length (xs ++ c ∷ ys)) (λ e. omega (arith, e, length-append xs (c ∷ ys))))
    (λ i. Some (take-append_seam xs (c ∷ ys) i, drop-append-add xs (c ∷ ys) 1 i))

pub lacks-cut : (c : ℕ) (text : List ℕ) → cut c text ≡ None → Lacks c text
lacks-cut c text e = by (place c text == length text) refl
  where
    by : (b : Bool) → (place c text == length text) ≡ b → Lacks c text
    by true f = subst (Lacks c) (ap (λ n. take n text) (eqb-true (place c text) (length text) f) ∙ take-length text) (lacks-before c text)
    by false f = absurd (none-some _ (sym (rw f at e)))

pub lacks-front : (c : ℕ) (text : List ℕ) (p : List ℕ × List ℕ) → cut c text ≡ Some p → Lacks c p.0
lacks-front c text p e = by (place c text == length text) refl
  where
    by : (b : Bool) → (place c text == length text) ≡ b → Lacks c p.0
    by true f = absurd (none-some p (rw f at e))
    by false f = subst (λ q. Lacks c q.0) (same (rw f at e)) (lacks-before c text)
      where
        same : Some (before_first (λ b. b == c) text, after_first (λ b. b == c) text) ≡ Some p → (before_first (λ b. b == c) text, after_first (λ b. b == c) text) ≡ p
        same h = cc

-- the front of a text that lacks the byte lacks it
pub lacks-front-of : (c d : ℕ) (text : List ℕ) (p : List ℕ × List ℕ) → cut d text ≡ Some p → Lacks c text → Lacks c p.0
lacks-front-of c d text p e h = by (place d text == length text) refl
  where
    by : (b : Bool) → (place d text == length text) ≡ b → Lacks c p.0
    by true f = absurd (none-some p (rw f at e))
    by false f = subst (λ q. Lacks c q.0) (same (rw f at e)) (lacks-take c (place d text) text h)
      where
        same : Some (before_first (λ b. b == d) text, after_first (λ b. b == d) text) ≡ Some p → (before_first (λ b. b == d) text, after_first (λ b. b == d) text) ≡ p
        same h = cc
