-- The form of a moment that is read is a beginning of its text.
use Rattle.std.proofs.Common.{◌≡◌, ℕ, ◌+◌, ◌≤◌, inl, inr, Bool, true, false, ◌&&◌, ◌==◌, List, [], ◌∷◌, ◌++◌, length, take, Some, None, refl, sym, ap, ◌∙◌, arith, append_assoc, append-nil, eqb-true, length-append}
use Rattle.std.specs.Prelude.{codes, option_map}
use Rattle.std.specs.Bool.{then_some}
use Rattle.std.specs.List.{list_any}
use Rattle.std.specs.Option.{option_or}
use Rattle.std.proofs.lemmas.Bool.{cases_Bool}
use Rattle.std.proofs.lemmas.List.{get_or-take, length-take-le, take_more}
use Rattle.std.proofs.Math.ListN.{get_or}
use Rattle.std.proofs.Math.Seq.{get_or-append_seam, take-append_seam}
use Rattle.vkg_cells.specs.declared.cell.Cell.TheVariants as cell
use Rattle.vkg_cells.specs.Moment.{cut, form_at, form_if, form_of_parts}
use Rattle.vkg_cells.specs.Number.{after_point, without_trailing_zeros}
use Rattle.vkg_cells.proofs.NumberLemmas.{trailing-same, trailing-zero}
use Rattle.vkg_cells.proofs.PlaceLemmas.{Lacks, cut-none, cut-some, lacks-cut}
use Rattle.vkg_cells.proofs.ValueLemmas.{ends-in-zeros, zeros}
use Rattle.vkg_values.specs.Known.{moment_of}
use Rattle.vkg_order.specs.Marks.{EndsInFraction}

-- ---- the first `T`

none-any : (c : ℕ) (text : List ℕ) → Lacks c text → list_any (λ b. b == c) text ≡ false
none-any c [] h = refl
none-any c (b ∷ bs) h = rw h.0 (none-any c bs h.1)

any-none : (c : ℕ) (text : List ℕ) → list_any (λ b. b == c) text ≡ false → Lacks c text
any-none c [] h = tt
any-none c (b ∷ bs) h = by (any-none c bs) (b == c) refl h
  where
    by : (list_any (λ b. b == c) bs ≡ false → Lacks c bs) → (p : Bool) → (b == c) ≡ p → list_any (λ b. b == c) (b ∷ bs) ≡ false → Lacks c (b ∷ bs)
    by rest true e k = let f : list_any (λ b. b == c) (b ∷ bs) ≡ true = rw e refl in cc
    by rest false e k = (e, rest (rw e at k))

pub moment-none : (text : List ℕ) → cut 84 text ≡ None → moment_of text ≡ None
moment-none text e = rw (none-any 84 text (lacks-cut 84 text e)) refl

pub moment-some : (text : List ℕ) (p : List ℕ × List ℕ) → cut 84 text ≡ Some p → moment_of text ≡ option_map cell.Stamp (form_at p.0 p.1 (cut 46 p.1))
moment-some text p e = elim (cases_Bool (list_any (λ b. b == 84) text)) [
  | inl h ↦ rw h (ap (λ o. option_map cell.Stamp (form_of_parts (option_or o (cut 32 text)))) e)
  | inr h ↦ let n = cut-none 84 text (any-none 84 text h) in cc
]

-- a text with the byte is what stands before its first, it and the rest
abbrev Split : ℕ → List ℕ → Type 0
Split c xs = (front : List ℕ) × (back : List ℕ) × (xs ≡ front ++ c ∷ back) × Lacks c front

split : (c : ℕ) (xs : List ℕ) → list_any (λ b. b == c) xs ≡ true → Split c xs
split c [] h = cc
split c (b ∷ bs) h = by (split c bs) (b == c) refl h
  where
    by : (list_any (λ b. b == c) bs ≡ true → Split c bs) → (t : Bool) → (b == c) ≡ t → list_any (λ b. b == c) (b ∷ bs) ≡ true → Split c (b ∷ bs)
    by rest true f k = ([], bs, ap (λ d. d ∷ bs) (eqb-true b c f), tt)
    by rest false f k = let r = rest (rw f at k) in (b ∷ r.0, r.1, ap (λ l. b ∷ l) r.2, (f, r.3))

-- what is cut in two
pub cut-back : (c : ℕ) (text : List ℕ) (p : List ℕ × List ℕ) → cut c text ≡ Some p → text ≡ p.0 ++ c ∷ p.1
cut-back c text p e = elim (cases_Bool (list_any (λ b. b == c) text)) [
  | inl h ↦ let s = split c text h in let k : Some (s.0, s.1) ≡ Some p = sym (cut-some c s.0 s.1 s.3) ∙ ap (cut c) (sym s.2) ∙ e in s.2 ∙ ap (λ (q : List ℕ × List ℕ). q.0 ++ c ∷ q.1) (let f : (s.0, s.1) ≡ p = cc in f)
  | inr h ↦ let n = cut-none c text (any-none c text h) in cc
]

-- ---- the form

pub whole-form : (b : Bool) (text day clock : List ℕ) → text ≡ day ++ 84 ∷ clock → then_some b (cell.Stamp text) ≡ option_map cell.Stamp (form_if b day clock [])
whole-form true text day clock e = ap (λ t. Some (cell.Stamp t)) (e ∙ sym (append-nil (day ++ codes "T" ++ clock) ∙ append_assoc day (84 ∷ []) clock))
whole-form false text day clock e = refl

pub fraction-form : (a b c d : Bool) (day clock fraction : List ℕ)
    → then_some ((a && b) && c && d) (cell.Stamp ((day ++ 84 ∷ clock) ++ after_point (without_trailing_zeros fraction))) ≡ option_map cell.Stamp (form_if (a && b && c && d) day clock fraction)
fraction-form false b c d day clock fraction = refl
fraction-form true false c d day clock fraction = refl
fraction-form true true false d day clock fraction = refl
fraction-form true true true false day clock fraction = refl
fraction-form true true true true day clock fraction = ap (λ l. Some (cell.Stamp (l ++ after_point (without_trailing_zeros fraction)))) (sym (append_assoc day (84 ∷ []) clock))

-- a fraction is its form, and a rest
rest-of : (fraction : List ℕ) → (rest : List ℕ) × (46 ∷ fraction ≡ after_point (without_trailing_zeros fraction) ++ rest)
rest-of fraction = by (without_trailing_zeros fraction) (ends-in-zeros fraction).whole
  where
    by : (w : List ℕ) → fraction ≡ w ++ zeros (ends-in-zeros fraction).count → (rest : List ℕ) × (46 ∷ fraction ≡ after_point w ++ rest)
    by [] e = (46 ∷ fraction, refl)
    by (d ∷ ds) e = (zeros (ends-in-zeros fraction).count, ap (λ l. 46 ∷ l) e)

pub fraction-cut : (text front fraction : List ℕ) (start point : ℕ) → text ≡ front ++ 46 ∷ fraction → start + length fraction + 1 ≡ length text → point ≡ length (after_point (without_trailing_zeros fraction))
    → take (start + point) text ≡ front ++ after_point (without_trailing_zeros fraction)
fraction-cut text front fraction start point e s p =
    let r = rest-of fraction in
    let form : List ℕ = front ++ after_point (without_trailing_zeros fraction) in
    let whole : text ≡ form ++ r.0 = e ∙ ap (λ l. front ++ l) r.1 ∙ sym (append_assoc front (after_point (without_trailing_zeros fraction)) r.0) in
    let long : start + point ≡ length form = omega (arith, s, p, ap length e, length-append front (46 ∷ fraction), length-append front (after_point (without_trailing_zeros fraction))) in
    (λ i. take (long i) (whole i)) ∙ take-append_seam form r.0

pub fraction-long : (text fraction : List ℕ) → EndsInFraction text fraction → length fraction + 1 ≤ length text
fraction-long text fraction e = omega (arith, ap length e.1, length-append e.0 (46 ∷ fraction))

-- ---- the last zeros

pub zeros-step : (f : List ℕ) (n k : ℕ) → k + 1 ≡ n → n ≤ length f → get_or f k 0 ≡ 48 → without_trailing_zeros (take n f) ≡ without_trailing_zeros (take k f)
zeros-step f n k e h z =
    ap (λ m. without_trailing_zeros (take m f)) (sym e) ∙ ap without_trailing_zeros (take_more f k 0 (omega arith) ∙ ap (λ d. take k f ++ d ∷ []) z) ∙ trailing-zero (take k f)

pub zeros-end : (f : List ℕ) (n k : ℕ) → k + 1 ≡ n → n ≤ length f → (get_or f k 0 ≡ 48 → ⊥) → take n f ≡ without_trailing_zeros (take n f)
zeros-end f n k e h z = trailing-same (take n f) (λ front q. z (last front q))
  where
    last : (front : List ℕ) → take n f ≡ front ++ 48 ∷ [] → get_or f k 0 ≡ 48
    last front q =
        let long : length front ≡ k = omega (arith, ap length q, length-append front (48 ∷ []), length-take-fits, e) in
        sym (get_or-take n f k 0 (omega arith)) ∙ ap (λ l. get_or l k 0) q ∙ ap (λ m. get_or (front ++ 48 ∷ []) m 0) (sym long) ∙ get_or-append_seam front 48 [] 0
      where
        length-take-fits : length (take n f) ≡ n
        length-take-fits = length-take-le n f h
