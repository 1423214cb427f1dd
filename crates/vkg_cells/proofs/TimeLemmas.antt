-- The lexical form of a time of day reads as itself.
use Rattle.std.proofs.Common.{◌≡◌, ◌∙◌, ◌≤◌, ◌++◌, ◌∷◌, ◌&&◌, ℕ, Bool, true, false, List, [], Option, Some, None, refl, sym, ap, subst, arith, length, nat_le, append-nil, leb-true}
use Rattle.std.proofs.lemmas.Bool.{le-leb}
use Rattle.std.proofs.lemmas.Option.{none-some}
use Rattle.std.specs.Str.Parse.{AllDigits}
use Rattle.vkg_lists.proofs.Bools.{and_parts}
use Rattle.vkg_cells.specs.Moment.{cut, is_clock, time_at, time_form, time_if}
use Rattle.vkg_cells.specs.Number.{after_point, is_digits, without_trailing_zeros}
use Rattle.vkg_cells.proofs.CanonicalLemmas.{trailing-kept}
use Rattle.vkg_cells.proofs.Digits.{are-digits, digits-some, digits-without-trailing}
use Rattle.vkg_cells.proofs.PlaceLemmas.{Lacks, cut-none, cut-some, lacks-cut, lacks-front}
use Rattle.vkg_cells.proofs.ValueLemmas.{ends-long, trimmed}

-- a time of its parts
abbrev written : List ℕ → List ℕ → List ℕ
written clock f = clock ++ after_point f

time-kept : (b : Bool) (clock f : List ℕ) → b ≡ true → without_trailing_zeros f ≡ f → time_if b clock f ≡ Some (written clock f)
time-kept b clock f e h = rw (e, h) refl

-- the parts of a time that is written so
time-none : (clock : List ℕ) → Lacks 46 clock → is_clock clock ≡ true → time_form clock ≡ Some clock
time-none clock c h = (λ i. time_at clock (cut-none 46 clock c i)) ∙ time-kept (is_clock clock) clock [] h refl ∙ ap Some (append-nil clock)

time-some : (clock : List ℕ) (b : ℕ) (bs : List ℕ) → Lacks 46 clock
    → is_clock clock && is_digits (b ∷ bs) && nat_le (length (b ∷ bs)) 9 ≡ true → without_trailing_zeros (b ∷ bs) ≡ b ∷ bs
    → time_form (written clock (b ∷ bs)) ≡ Some (written clock (b ∷ bs))
time-some clock b bs c h k =
    (λ i. time_at (written clock (b ∷ bs)) (cut-some 46 clock (b ∷ bs) c i))
    ∙ time-kept (is_clock clock && is_digits (b ∷ bs) && nat_le (length (b ∷ bs)) 9) clock (b ∷ bs) h k

time-made : (b : Bool) (clock f form : List ℕ) → time_if b clock f ≡ Some form → (b ≡ true) × (written clock (without_trailing_zeros f) ≡ form)
time-made true clock f form e = (refl, cc e)
time-made false clock f form e = absurd (none-some form e)

three : (a b c : Bool) → a && b && c ≡ true → (a ≡ true) × (b ≡ true) × (c ≡ true)
three a b c e =
    let last = and_parts (a && b) c e in
    let first = and_parts a b last.0 in
    (first.0, first.1, last.1)

again-with : (clock f form : List ℕ) → Lacks 46 clock → is_clock clock && is_digits f && nat_le (length f) 9 ≡ true
    → written clock (without_trailing_zeros f) ≡ form → time_form form ≡ Some form
again-with clock f form c h e =
    let all = three (is_clock clock) (is_digits f) (nat_le (length f) 9) h in
    let digits = digits-without-trailing f (digits-some f all.1) in
    subst (λ t. time_form t ≡ Some t) e (by (without_trailing_zeros f) refl all.0 digits (trailing-kept (without_trailing_zeros f) (trimmed f)) all.2)
  where
    by : (t : List ℕ) → without_trailing_zeros f ≡ t → is_clock clock ≡ true → AllDigits 10 (without_trailing_zeros f)
        → without_trailing_zeros (without_trailing_zeros f) ≡ without_trailing_zeros f → nat_le (length f) 9 ≡ true
        → time_form (written clock (without_trailing_zeros f)) ≡ Some (written clock (without_trailing_zeros f))
    by [] q y a k n = rw q (subst (λ t. time_form t ≡ Some t) (sym (append-nil clock)) (time-none clock c y))
    by (b ∷ bs) q y a k n =
        let shown : AllDigits 10 (b ∷ bs) = rw q at a in
        let kept : without_trailing_zeros (b ∷ bs) ≡ b ∷ bs = rw q at k in
        let short : length (b ∷ bs) ≤ 9 = omega (arith, ends-long f, leb-true (length f) 9 n, ap length q) in
        rw q (time-some clock b bs c (rw (y, are-digits (b ∷ bs) shown, le-leb (length (b ∷ bs)) 9 short) refl) kept)

again-at : (text form : List ℕ) (o : Option (List ℕ × List ℕ)) → cut 46 text ≡ o → time_at text o ≡ Some form → time_form form ≡ Some form
again-at text form None c e =
    let h = time-made (is_clock text) text [] form e in
    subst (λ t. time_form t ≡ Some t) (sym (append-nil text) ∙ h.1) (time-none text (lacks-cut 46 text c) h.0)
again-at text form (Some p) c e =
    let h = time-made (is_clock p.0 && is_digits p.1 && nat_le (length p.1) 9) p.0 p.1 form e in
    again-with p.0 p.1 form (lacks-front 46 text p c) h.0 h.1

pub time-again : (text form : List ℕ) → time_form text ≡ Some form → time_form form ≡ Some form
time-again text form e = again-at text form (cut 46 text) refl e
