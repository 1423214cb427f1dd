-- The lexical form of a moment reads as itself.
use Rattle.std.proofs.Common.{◌≡◌, ◌∙◌, ◌≤◌, ◌++◌, ◌∷◌, ◌&&◌, ℕ, Bool, true, false, List, [], Option, Some, None, refl, ap, subst, arith, length, nat_le, codes, append-nil, append_assoc, leb-true}
use Rattle.std.proofs.lemmas.Bool.{le-leb}
use Rattle.std.proofs.lemmas.Option.{none-some}
use Rattle.std.specs.Option.{option_or}
use Rattle.vkg_lists.proofs.Bools.{and_parts}
use Rattle.vkg_cells.specs.Moment.{cut, form_at, form_if, form_of_parts, is_clock, is_date, stamp_form}
use Rattle.vkg_cells.specs.Number.{after_point, is_digits, without_trailing_zeros}
use Rattle.vkg_cells.proofs.CanonicalLemmas.{trailing-kept}
use Rattle.std.specs.Str.Parse.{AllDigits}
use Rattle.vkg_cells.proofs.Digits.{are-digits, digits-some, digits-without-trailing}
use Rattle.vkg_cells.proofs.PlaceLemmas.{Lacks, cut-none, cut-some, lacks-cut, lacks-front, lacks-front-of}
use Rattle.vkg_cells.proofs.ValueLemmas.{ends-long, trimmed}

-- a moment of its parts
abbrev written : List ℕ → List ℕ → List ℕ → List ℕ
written date clock f = date ++ codes "T" ++ clock ++ after_point f

form-if-kept : (b : Bool) (date clock f : List ℕ) → b ≡ true → without_trailing_zeros f ≡ f → form_if b date clock f ≡ Some (written date clock f)
form-if-kept b date clock f e h = rw (e, h) refl

-- the parts of a moment that is written so
written-none : (date clock : List ℕ) → Lacks 84 date → Lacks 46 clock → is_date date && is_clock clock ≡ true
    → stamp_form (written date clock []) ≡ Some (written date clock [])
written-none date clock d c h =
    let text : written date clock [] ≡ date ++ 84 ∷ clock = append-nil (date ++ codes "T" ++ clock) ∙ append_assoc date (84 ∷ []) clock in
    let first : cut 84 (written date clock []) ≡ Some (date, clock) = ap (cut 84) text ∙ cut-some 84 date clock d in
    (λ i. form_of_parts (option_or (first i) (cut 32 (written date clock []))))
    ∙ (λ i. form_at date clock (cut-none 46 clock c i))
    ∙ form-if-kept (is_date date && is_clock clock) date clock [] h refl

written-some : (date clock : List ℕ) (b : ℕ) (bs : List ℕ) → Lacks 84 date → Lacks 46 clock
    → is_date date && is_clock clock && is_digits (b ∷ bs) && nat_le (length (b ∷ bs)) 9 ≡ true → without_trailing_zeros (b ∷ bs) ≡ b ∷ bs
    → stamp_form (written date clock (b ∷ bs)) ≡ Some (written date clock (b ∷ bs))
written-some date clock b bs d c h k =
    let text : written date clock (b ∷ bs) ≡ date ++ 84 ∷ (clock ++ 46 ∷ b ∷ bs) =
    append_assoc (date ++ codes "T") clock (46 ∷ b ∷ bs) ∙ append_assoc date (84 ∷ []) (clock ++ 46 ∷ b ∷ bs) in
    let first : cut 84 (written date clock (b ∷ bs)) ≡ Some (date, clock ++ 46 ∷ b ∷ bs) =
    ap (cut 84) text ∙ cut-some 84 date (clock ++ 46 ∷ b ∷ bs) d in
    (λ i. form_of_parts (option_or (first i) (cut 32 (written date clock (b ∷ bs)))))
    ∙ (λ i. form_at date (clock ++ 46 ∷ b ∷ bs) (cut-some 46 clock (b ∷ bs) c i))
    ∙ form-if-kept (is_date date && is_clock clock && is_digits (b ∷ bs) && nat_le (length (b ∷ bs)) 9) date clock (b ∷ bs) h k

form-if : (b : Bool) (date clock f form : List ℕ) → form_if b date clock f ≡ Some form
    → (b ≡ true) × (written date clock (without_trailing_zeros f) ≡ form)
form-if true date clock f form e = (refl, cc e)
form-if false date clock f form e = absurd (none-some form e)

four : (a b c d : Bool) → a && b && c && d ≡ true → (a ≡ true) × (b ≡ true) × (c ≡ true) × (d ≡ true)
four a b c d e =
    let last = and_parts (a && b && c) d e in
    let third = and_parts (a && b) c last.0 in
    let first = and_parts a b third.0 in
    (first.0, first.1, third.1, last.1)

again-with : (date clock f form : List ℕ) → Lacks 84 date → Lacks 46 clock
    → is_date date && is_clock clock && is_digits f && nat_le (length f) 9 ≡ true → written date clock (without_trailing_zeros f) ≡ form
    → stamp_form form ≡ Some form
again-with date clock f form d c h e =
    let all = four (is_date date) (is_clock clock) (is_digits f) (nat_le (length f) 9) h in
    let digits = digits-without-trailing f (digits-some f all.2) in
    subst (λ t. stamp_form t ≡ Some t) e (by (without_trailing_zeros f) refl all.0 all.1 digits (trailing-kept (without_trailing_zeros f) (trimmed f)) all.3)
  where
    by : (t : List ℕ) → without_trailing_zeros f ≡ t → is_date date ≡ true → is_clock clock ≡ true → AllDigits 10 (without_trailing_zeros f)
        → without_trailing_zeros (without_trailing_zeros f) ≡ without_trailing_zeros f → nat_le (length f) 9 ≡ true
        → stamp_form (written date clock (without_trailing_zeros f)) ≡ Some (written date clock (without_trailing_zeros f))
    by [] q x y a k n = rw q (written-none date clock d c (rw (x, y) refl))
    by (b ∷ bs) q x y a k n =
        let shown : AllDigits 10 (b ∷ bs) = rw q at a in
        let kept : without_trailing_zeros (b ∷ bs) ≡ b ∷ bs = rw q at k in
        let short : length (b ∷ bs) ≤ 9 = omega (arith, ends-long f, leb-true (length f) 9 n, ap length q) in
        rw q (written-some date clock b bs d c (rw (x, y, are-digits (b ∷ bs) shown, le-leb (length (b ∷ bs)) 9 short) refl) kept)

again-at : (date rest form : List ℕ) (o : Option (List ℕ × List ℕ)) → Lacks 84 date → cut 46 rest ≡ o → form_at date rest o ≡ Some form
    → stamp_form form ≡ Some form
again-at date rest form None d c e =
    let h = form-if (is_date date && is_clock rest) date rest [] form e in
    subst (λ t. stamp_form t ≡ Some t) h.1 (written-none date rest d (lacks-cut 46 rest c) h.0)
again-at date rest form (Some p) d c e =
    let h = form-if (is_date date && is_clock p.0 && is_digits p.1 && nat_le (length p.1) 9) date p.0 p.1 form e in
    again-with date p.0 p.1 form d (lacks-front 46 rest p c) h.0 h.1

again-parts : (o : Option (List ℕ × List ℕ)) (form : List ℕ) → ((p : List ℕ × List ℕ) → o ≡ Some p → Lacks 84 p.0)
    → form_of_parts o ≡ Some form → stamp_form form ≡ Some form
again-parts None form d e = absurd (none-some form e)
again-parts (Some p) form d e = again-at p.0 p.1 form (cut 46 p.1) (d p refl) refl e

front : (text : List ℕ) (q o : Option (List ℕ × List ℕ)) → cut 84 text ≡ q → cut 32 text ≡ o → (p : List ℕ × List ℕ) → option_or q o ≡ Some p → Lacks 84 p.0
front text (Some r) o a b p e = lacks-front 84 text p (a ∙ e)
front text None o a b p e = lacks-front-of 84 32 text p (b ∙ e) (lacks-cut 84 text a)

pub stamp-again : (text form : List ℕ) → stamp_form text ≡ Some form → stamp_form form ≡ Some form
stamp-again text form e = again-parts (option_or (cut 84 text) (cut 32 text)) form (front text (cut 84 text) (cut 32 text) refl refl) e
