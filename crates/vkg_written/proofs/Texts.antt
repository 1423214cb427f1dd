-- What tokens of a text say is text.
use Rattle.std.proofs.Common.{◌≡◌, ◌&&◌, ◌||◌, ◌-◌, ◌≤◌, ◌==◌, ℕ, zero, suc, Bool, true, List, [], ◌∷◌, ◌++◌, take, drop, length, get_or, refl, sym, ap, subst, IsUtf8, arith, nat_lt, nat_le}
use Rattle.std.specs.Prelude.{chars, encode_utf8, flat_map}
use Rattle.std.specs.Char.{to_ascii_lowercase}
use Rattle.std.specs.List.{list_all}
use Rattle.std.specs.Str.{IsCharBoundary, str_to_ascii_lowercase}
use Rattle.std.proofs.Math.Utf8.{encodes, scalar, scalars}
use Rattle.std.proofs.lemmas.Bool.{cond_both}
use Rattle.std.proofs.lemmas.Bool.Decides.{nat_tests}
use Rattle.std.proofs.lemmas.Str.{IsUtf8-between, IsUtf8-nil, scalars-chars}
use Rattle.vkg_lists.proofs.Bools.{and_parts, and_true}
use Rattle.vkg_terms.specs.Writable.{is_visible}
use Rattle.vkg_turtle.specs.Escapes.{behind, behind_backslash, character, escaped, meant, text_meant, unescaped, with_digit}
use Rattle.vkg_turtle.specs.Words.{between, inside, is_boundary}

-- ---- escapes: whatever state the characters of a text lead to, what ends there are characters

module _ {E : Type 0} (gives : E → ℕ → List ℕ) (next : E → ℕ → E) where
  -- for so many characters
  abbrev Safe : ℕ → E → Type 0
  Safe zero e = Unit {0}
  Safe (suc n) e = (c : ℕ) → scalar c ≡ true → (scalars (gives e c) ≡ true) × Safe n (next e c)

  -- so many characters give none, and the one behind them gives one
  abbrev Quiet : E → ℕ → E → Type 0
  Quiet o zero e = (c : ℕ) → (scalars (gives e c) ≡ true) × (next e c ≡ o)
  Quiet o (suc k) e = (c : ℕ) → (scalars (gives e c) ≡ true) × Quiet o k (next e c)

  quiet_safe : (o : E) (n : ℕ) → ((m : ℕ) → m ≤ n → Safe m o) → (k : ℕ) (e : E) → Quiet o k e → (m : ℕ) → m ≤ n → Safe m e
  quiet_safe o n h k e q zero l = tt
  quiet_safe o n h zero e q (suc m) l = λ c _. ((q c).0, subst (Safe m) (sym (q c).1) (h m (omega arith)))
  quiet_safe o n h (suc k) e q (suc m) l = λ c _. ((q c).0, quiet_safe o n h k (next e c) (q c).1 m (omega arith))

scalars_both : (xs ys : List ℕ) → scalars xs ≡ true → scalars ys ≡ true → scalars (xs ++ ys) ≡ true
scalars_both [] ys h k = k
scalars_both (x ∷ xs) ys h k = let p = and_parts (scalar x) (scalars xs) h in and_true (scalar x) (scalars (xs ++ ys)) p.0 (scalars_both xs ys p.1 k)

safe_text : (cs : List ℕ) (e : _) → Safe meant behind (length cs) e → scalars cs ≡ true → scalars (unescaped e cs) ≡ true
safe_text [] e h u = refl
safe_text (c ∷ cs) e h u =
    let p = and_parts (scalar c) (scalars cs) u in
    let q = h c p.0 in
    scalars_both (meant e c) (unescaped (behind e c) cs) q.0 (safe_text cs (behind e c) q.1 p.1)

a_character : (code : ℕ) → scalars (character code ∷ []) ≡ true
a_character code = cond_both (scalar code) code 0xFFFD (λ c. scalars (c ∷ []) ≡ true) (λ e. and_true (scalar code) true e refl) (λ _. refl)

an_escaped : (c : ℕ) → scalar c ≡ true → scalars (escaped c ∷ []) ≡ true
an_escaped c u =
    let P : ℕ → Type 0 = λ x. scalars (x ∷ []) ≡ true in
    cond_both (c == 116) 9 _ P (λ _. refl)
    (λ _. cond_both (c == 98) 8 _ P (λ _. refl)
    (λ _. cond_both (c == 110) 10 _ P (λ _. refl)
    (λ _. cond_both (c == 114) 13 _ P (λ _. refl)
    (λ _. cond_both (c == 102) 12 c P (λ _. refl) (λ _. and_true (scalar c) true u refl)))))

-- four digits, and eight
four_digits : Quiet meant behind (behind_backslash 0) 3 (behind_backslash 117)
four_digits = λ a. (refl, λ b. (refl, λ c. (refl, λ d. (a_character (with_digit (with_digit (with_digit (with_digit 0 a) b) c) d), refl))))

eight_digits : Quiet meant behind (behind_backslash 0) 7 (behind_backslash 85)
eight_digits = λ a. (refl, λ b. (refl, λ c. (refl, λ d. (refl, λ e. (refl, λ f. (refl, λ g. (refl, λ h. (a_character (with_digit (with_digit (with_digit (with_digit (with_digit (with_digit (with_digit (with_digit 0 a) b) c) d) e) f) g) h), refl))))))))

-- behind a backslash, and outside an escape
backslash_safe : (n : ℕ) → ((m : ℕ) → m ≤ n → Safe meant behind m (behind_backslash 0)) → (m : ℕ) → m ≤ n → Safe meant behind m (behind (behind_backslash 0) 92)
backslash_safe n h zero l = tt
backslash_safe n h (suc m) l = λ c u. (
  cond_both ((c == 117) || (c == 85)) [] (escaped c ∷ []) (λ x. scalars x ≡ true) (λ _. refl) (λ _. an_escaped c u),
  cond_both (c == 117) _ _ (Safe meant behind m) (λ _. quiet_safe meant behind (behind_backslash 0) n h 3 (behind_backslash 117) four_digits m (omega arith))
      (λ _. cond_both (c == 85) _ _ (Safe meant behind m) (λ _. quiet_safe meant behind (behind_backslash 0) n h 7 (behind_backslash 85) eight_digits m (omega arith)) (λ _. h m (omega arith))),
)

outside_safe : (n m : ℕ) → m ≤ n → Safe meant behind m (behind_backslash 0)
outside_safe n zero l = tt
outside_safe zero (suc m) l = absurd (omega arith)
outside_safe (suc n) (suc m) l = λ c u. (
  cond_both (c == 92) [] (c ∷ []) (λ x. scalars x ≡ true) (λ _. refl) (λ _. and_true (scalar c) true u refl),
  cond_both (c == 92) _ _ (Safe meant behind m) (λ _. backslash_safe n (outside_safe n) m (omega arith)) (λ _. outside_safe n m (omega arith)),
)

encodes_each : (cs : List ℕ) → encodes cs ≡ flat_map encode_utf8 cs
encodes_each [] = refl
encodes_each (c ∷ cs) = ap (λ (t : List ℕ). encode_utf8 c ++ t) (encodes_each cs)

pub text_utf8 : (text : List ℕ) → IsUtf8 text → IsUtf8 (text_meant text)
unfolding text_meant
text_utf8 text u =
    let cs = unescaped (behind_backslash 0) (chars text) in
    (cs, (safe_text (chars text) (behind_backslash 0) (outside_safe (length (chars text)) (length (chars text)) (omega arith)) (scalars-chars text u), encodes_each cs))

-- ---- a part of a text

boundary : (text : List ℕ) (at : ℕ) → is_boundary text at ≡ true → IsCharBoundary text at
boundary text at e =
    let p = and_parts (nat_le at (length text)) (nat_lt (get_or text at 0) 128 || nat_le 192 (get_or text at 0)) e in
    (grind (arith, nat_tests), λ _. λ h. grind (arith, nat_tests))

ordered : (a b : ℕ) → nat_le a b ≡ true → a ≤ b
ordered a b e = grind (arith, nat_tests)

pub between_utf8 : (text : List ℕ) (start end : ℕ) → IsUtf8 text → IsUtf8 (between text start end)
between_utf8 text start end u =
    cond_both (nat_le start end && is_boundary text start && is_boundary text end) (take (end - start) (drop start text)) [] IsUtf8
    (λ e. let p = and_parts (nat_le start end && is_boundary text start) (is_boundary text end) e in
    let q = and_parts (nat_le start end) (is_boundary text start) p.0 in
    IsUtf8-between text start end u (ordered start end q.0) (boundary text start q.1) (boundary text end p.1))
    (λ _. IsUtf8-nil)

take_all : (p : ℕ → Bool) (n : ℕ) (xs : List ℕ) → list_all p xs ≡ true → list_all p (take n xs) ≡ true
take_all p zero xs h = refl
take_all p (suc n) [] h = refl
take_all p (suc n) (x ∷ xs) h = let q = and_parts (p x) (list_all p xs) h in and_true (p x) _ q.0 (take_all p n xs q.1)

drop_all : (p : ℕ → Bool) (n : ℕ) (xs : List ℕ) → list_all p xs ≡ true → list_all p (drop n xs) ≡ true
drop_all p zero xs h = h
drop_all p (suc n) [] h = refl
drop_all p (suc n) (x ∷ xs) h = drop_all p n xs (and_parts (p x) (list_all p xs) h).1

-- the part of a text whose bytes from one place to the other pass
pub between_all : (p : ℕ → Bool) (text : List ℕ) (start end : ℕ) → list_all p (take (end - start) (drop start text)) ≡ true → list_all p (between text start end) ≡ true
between_all p text start end h =
    cond_both (nat_le start end && is_boundary text start && is_boundary text end) (take (end - start) (drop start text)) [] (λ t. list_all p t ≡ true) (λ _. h) (λ _. refl)

pub inside_all : (p : ℕ → Bool) (token : List ℕ) (front back : ℕ) → list_all p token ≡ true → list_all p (inside token front back) ≡ true
inside_all p token front back h = between_all p token front (length token - back) (take_all p (length token - back - front) (drop front token) (drop_all p front token h))

pub lower_visible : (b : ℕ) → is_visible b ≡ true → is_visible (to_ascii_lowercase b) ≡ true
lower_visible b h = grind (arith, nat_tests)

pub lowered_visible : (text : List ℕ) → list_all is_visible text ≡ true → list_all is_visible (str_to_ascii_lowercase text) ≡ true
lowered_visible [] h = refl
lowered_visible (b ∷ bs) h = let p = and_parts (is_visible b) (list_all is_visible bs) h in and_true (is_visible (to_ascii_lowercase b)) _ (lower_visible b p.0) (lowered_visible bs p.1)
