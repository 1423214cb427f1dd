-- A text is cut in one way where each part of it shows its own end.
use Rattle.std.proofs.Common.{◌≡◌, ◌≢◌, ◌∙◌, ℕ, ◌<◌, ◌^◌, ◌==◌, ◌⊎◌, inl, inr, Bool, true, false, not, if◌then◌else◌, List, [], ◌∷◌, ◌++◌, flat_map, length, refl, sym, ap, subst, arith, append_assoc, eqb-true}
use Rattle.std.specs.Prelude.{IsUtf8, chars, decimal}
use Rattle.std.specs.Char.{is_ascii_digit}
use Rattle.std.specs.List.{list_all}
use Rattle.std.proofs.Math.Utf8.{encode}
use Rattle.std.proofs.lemmas.Bool.{eq-eqb, eqb-false, both_ways, not-true}
use Rattle.std.proofs.lemmas.Fmt.{decimal_is_IsNumeral}
use Rattle.std.proofs.lemmas.Str.{encode_same}
use Rattle.vkg_lists.proofs.Runs.{stops}
use Rattle.vkg_lists.proofs.Bools.{and_parts}
use Rattle.vkg_lists.proofs.Heads.{head_same, tail_same}
use Rattle.vkg_cells.proofs.Digits.{are-digits}
use Rattle.vkg_sqltext.specs.Text.{doubled, quoted}
use Rattle.vkg_terms.proofs.TextLemmas.{chars_same, octet}

-- bytes of another kind stand between
pub stops_behind : (p q : ℕ → Bool) (w x : List ℕ) → list_all q w ≡ true → ((b : ℕ) → q b ≡ true → p b ≡ false) → stops p x ≡ true → stops p (w ++ x) ≡ true
stops_behind p q [] x h f s = s
stops_behind p q (b ∷ w) x h f s = ap not (f b (and_parts (q b) (list_all q w) h).0)

-- ---- decimals

pub decimal_digits : (n : ℕ) → n < 2 ^ 64 → list_all is_ascii_digit (decimal n) ≡ true
decimal_digits n h = are-digits (decimal n) (decimal_is_IsNumeral n h).0.1

no_other : (b : ℕ) (ds x z : List ℕ) → 0 < length ds → list_all is_ascii_digit ds ≡ true → is_ascii_digit b ≡ false → b ∷ x ≡ ds ++ z → ⊥
no_other b [] x z l h n e = absurd (omega (arith, l))
no_other b (d ∷ ds) x z l h n e = absurd (let g : true ≡ false = sym (and_parts (is_ascii_digit d) (list_all is_ascii_digit ds) h).0 ∙ ap is_ascii_digit (sym (head_same b d x (ds ++ z) e)) ∙ n in cc)

-- a decimal begins with a digit
pub decimal_opens : (n b : ℕ) (x z : List ℕ) → n < 2 ^ 64 → is_ascii_digit b ≡ false → b ∷ x ≡ decimal n ++ z → ⊥
decimal_opens n b x z h k e = no_other b (decimal n) x z (decimal_is_IsNumeral n h).0.0 (decimal_digits n h) k e

-- ---- texts within signs that are doubled

module _ (sign : ℕ) (small : sign < 128) where
  abbrev is_sign : ℕ → Bool
  is_sign b = b == sign

  abbrev Written : ℕ → List ℕ → Type 0
  Written c v = ((c ≡ sign) × (v ≡ c ∷ c ∷ [])) ⊎ ((c ≢ sign) × (v ≡ encode c))

  written_by : (c : ℕ) (b : Bool) → (c == sign) ≡ b → Written c (if b then c ∷ c ∷ [] else encode c)
  written_by c true e = inl (eqb-true c sign e, refl)
  written_by c false e = inr (eqb-false c sign e, refl)

  written : (c : ℕ) → Written c (doubled sign c)
  written c = written_by c (c == sign) refl

  one_same : (c d : ℕ) (v w x y : List ℕ) → Written c v → Written d w → v ++ x ≡ w ++ y → (c ≡ d) × (x ≡ y)
  one_same c d v w x y (inl (e, p)) (inl (f, r)) same =
      let joined : c ∷ c ∷ x ≡ d ∷ d ∷ y = sym (ap (λ (l : List ℕ). l ++ x) p) ∙ same ∙ ap (λ (l : List ℕ). l ++ y) r in
      (e ∙ sym f, tail_same c d x y (tail_same c d (c ∷ x) (d ∷ y) joined))
  one_same c d v w x y (inl (e, p)) (inr (n, r)) same =
      let joined : c ∷ c ∷ x ≡ encode d ++ y = sym (ap (λ (l : List ℕ). l ++ x) p) ∙ same ∙ ap (λ (l : List ℕ). l ++ y) r in
      absurd (n ((octet d c y (c ∷ x) (omega (arith, e, small)) (sym joined)).0 ∙ e))
  one_same c d v w x y (inr (n, p)) (inl (f, r)) same =
      let joined : d ∷ d ∷ y ≡ encode c ++ x = sym (ap (λ (l : List ℕ). l ++ y) r) ∙ sym same ∙ ap (λ (l : List ℕ). l ++ x) p in
      absurd (n ((octet c d x (d ∷ y) (omega (arith, f, small)) (sym joined)).0 ∙ f))
  one_same c d v w x y (inr (n, p)) (inr (m, r)) same =
      encode_same c d x y (sym (ap (λ (l : List ℕ). l ++ x) p) ∙ same ∙ ap (λ (l : List ℕ). l ++ y) r)

  -- no sign that is doubled closes the text
  not_closed : (c : ℕ) (v x y : List ℕ) → Written c v → v ++ x ≡ sign ∷ y → stops is_sign y ≡ true → ⊥
  not_closed c v x y (inl (e, p)) same s =
      let joined : c ∷ c ∷ x ≡ sign ∷ y = sym (ap (λ (l : List ℕ). l ++ x) p) ∙ same in
      both_ways (c == sign) (not-true (c == sign) (subst (λ z. stops is_sign z ≡ true) (sym (tail_same c sign (c ∷ x) y joined)) s)) (eq-eqb c sign e)
  not_closed c v x y (inr (n, p)) same s = n ((octet c sign x y small (sym (sym same ∙ ap (λ (l : List ℕ). l ++ x) p))).0)

  body_same : (cs ds x y : List ℕ) → stops is_sign x ≡ true → stops is_sign y ≡ true → flat_map (doubled sign) cs ++ sign ∷ x ≡ flat_map (doubled sign) ds ++ sign ∷ y → (cs ≡ ds) × (x ≡ y)
  body_same [] [] x y s t same = (refl, tail_same sign sign x y same)
  body_same [] (d ∷ ds) x y s t same =
      absurd (not_closed d (doubled sign d) (flat_map (doubled sign) ds ++ sign ∷ y) x (written d) (sym (append_assoc (doubled sign d) (flat_map (doubled sign) ds) (sign ∷ y)) ∙ sym same) s)
  body_same (c ∷ cs) [] x y s t same =
      absurd (not_closed c (doubled sign c) (flat_map (doubled sign) cs ++ sign ∷ x) y (written c) (sym (append_assoc (doubled sign c) (flat_map (doubled sign) cs) (sign ∷ x)) ∙ same) t)
  body_same (c ∷ cs) (d ∷ ds) x y s t same =
      let one = one_same c d (doubled sign c) (doubled sign d) (flat_map (doubled sign) cs ++ sign ∷ x) (flat_map (doubled sign) ds ++ sign ∷ y) (written c) (written d)
      (sym (append_assoc (doubled sign c) (flat_map (doubled sign) cs) (sign ∷ x)) ∙ same ∙ append_assoc (doubled sign d) (flat_map (doubled sign) ds) (sign ∷ y)) in
      let more = body_same cs ds x y s t one.1 in
      ((λ i. one.0 i ∷ more.0 i), more.1)

  pub within_same : (a b x y : List ℕ) → IsUtf8 a → IsUtf8 b → stops is_sign x ≡ true → stops is_sign y ≡ true
      → (flat_map (doubled sign) (chars a) ++ sign ∷ []) ++ x ≡ (flat_map (doubled sign) (chars b) ++ sign ∷ []) ++ y → (a ≡ b) × (x ≡ y)
  within_same a b x y u v s t same =
      let inner = body_same (chars a) (chars b) x y s t (sym (append_assoc (flat_map (doubled sign) (chars a)) (sign ∷ []) x) ∙ same ∙ append_assoc (flat_map (doubled sign) (chars b)) (sign ∷ []) y) in
      (chars_same a b u v inner.0, inner.1)

pub quoted_same : (a b x y : List ℕ) → IsUtf8 a → IsUtf8 b → stops (λ b. b == 39) x ≡ true → stops (λ b. b == 39) y ≡ true → quoted a ++ x ≡ quoted b ++ y → (a ≡ b) × (x ≡ y)
quoted_same a b x y u v s t same = within_same 39 (omega arith) a b x y u v s t (tail_same 39 39 _ _ same)
