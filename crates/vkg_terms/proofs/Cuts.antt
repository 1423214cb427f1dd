-- Where a text is cut.
use Rattle.std.proofs.Common.{append_assoc, ◌++◌, ◌≡◌, ℕ, ◌-◌, ◌+◌, ◌<◌, ◌≤◌, ◌==◌, ◌||◌, refl, sym, ◌∙◌, ap, List, [], ◌∷◌, length, Bool, true, false, cond, Option, Some, None, arith, not, take, drop, codes}
use Rattle.std.specs.Prelude.{MatchOption, if◌then◌else◌}
use Rattle.std.specs.List.{position_or_len, before_first, after_first, list_any, suffix_len, before_last}
use Rattle.std.specs.Str.{IsCharBoundary}
use Rattle.std.specs.Str.Pattern.{RFindsChar, FindsChar}
use Rattle.std.proofs.lemmas.Bool.Decides.{nat_tests}
use Rattle.std.proofs.lemmas.List.Folds.{list_any_at}
use Rattle.std.proofs.lemmas.List.Sums.{position_or_len_is, suffix_len_is}
use Rattle.std.proofs.lemmas.Str.Pattern.{find_char, rfind_char}
use Rattle.vkg_lists.proofs.Positions.{first_here, first_later, lacks}
use Rattle.vkg_terms.specs.Iri.{is_one_of}
use Rattle.vkg_terms.specs.Resolve.{up_to_last_slash, after, from_slash}

pub after_lacks : (c : ℕ) (text : List ℕ) → position_or_len (λ b. b == c) text ≡ length text → after c text ≡ None
after_lacks c text e = ap (λ b. if b then Some (after_first (λ b. b == c) text) else None) (lacks (λ b. b == c) text e)

before-cons : (p : ℕ → Bool) (x : ℕ) (xs : List ℕ) → before_first p (x ∷ xs) ≡ cond (p x) [] (x ∷ before_first p xs)
before-cons p x xs = by_test (p x) refl
  where
    by_test : (b : Bool) → p x ≡ b → take (position_or_len p (x ∷ xs)) (x ∷ xs) ≡ cond b [] (x ∷ before_first p xs)
    by_test true h = ap (λ n. take n (x ∷ xs)) (first_here p x xs h)
    by_test false h = ap (λ n. take n (x ∷ xs)) (first_later p x xs h)

either_by : (x : ℕ) (rest front : List ℕ) → rest ≡ before_first (λ b. b == 63) front → (q h : Bool) → (63 == x) ≡ q → (35 == x) ≡ h
    → cond (q || (h || false)) [] (x ∷ rest) ≡ before_first (λ b. b == 63) (cond (x == 35) [] (x ∷ front))
either_by x rest front same true true e f = absurd (grind (arith, nat_tests))
either_by x rest front same false true e f =
    let sharp : (x == 35) ≡ true = grind (arith, nat_tests) in
    sym (ap (λ b. before_first (λ c. c == 63) (cond b [] (x ∷ front))) sharp)
either_by x rest front same true false e f =
    let mark : (x == 63) ≡ true = grind (arith, nat_tests) in
    let sharp : (x == 35) ≡ false = grind (arith, nat_tests) in
    sym (ap (λ b. before_first (λ c. c == 63) (cond b [] (x ∷ front))) sharp ∙ before-cons (λ b. b == 63) x front ∙ ap (λ b. cond b [] (x ∷ before_first (λ c. c == 63) front)) mark)
either_by x rest front same false false e f =
    let mark : (x == 63) ≡ false = grind (arith, nat_tests) in
    let sharp : (x == 35) ≡ false = grind (arith, nat_tests) in
    ap (λ (l : List ℕ). x ∷ l) same ∙ sym (ap (λ b. before_first (λ c. c == 63) (cond b [] (x ∷ front))) sharp ∙ before-cons (λ b. b == 63) x front ∙ ap (λ b. cond b [] (x ∷ before_first (λ c. c == 63) front)) mark)

-- up to the first of two signs is up to one within what stands before the other
pub before_either : (xs : List ℕ) → before_first (is_one_of (codes "?#")) xs ≡ before_first (λ b. b == 63) (before_first (λ b. b == 35) xs)
before_either [] = refl
before_either (x ∷ xs) =
    before-cons (is_one_of (codes "?#")) x xs
    ∙ either_by x _ _ (before_either xs) (63 == x) (35 == x) refl refl
    ∙ ap (before_first (λ b. b == 63)) (sym (before-cons (λ b. b == 35) x xs))

slash_by : (x : ℕ) (xs : List ℕ) → from_slash xs ≡ drop (position_or_len (λ b. b == 47) xs) xs → (b : Bool) → (x == 47) ≡ b → (if b then x ∷ xs else from_slash xs) ≡ drop (position_or_len (λ b. b == 47) (x ∷ xs)) (x ∷ xs)
slash_by x xs rest true h = sym (ap (λ n. drop n (x ∷ xs)) (first_here (λ b. b == 47) x xs h))
slash_by x xs rest false h = rest ∙ sym (ap (λ n. drop n (x ∷ xs)) (first_later (λ b. b == 47) x xs h))

-- from the first slash on
pub from_slash-drop : (xs : List ℕ) → from_slash xs ≡ drop (position_or_len (λ b. b == 47) xs) xs
from_slash-drop [] = refl
from_slash-drop (x ∷ xs) = slash_by x xs (from_slash-drop xs) (x == 47) refl

-- the clause of `find`
abbrev pub Finds : ℕ → List ℕ → Option ℕ → Type 0
Finds c s r = MatchOption r (FindsChar c s None) (λ i. (j : ℕ) × FindsChar c s (Some (i, j)) × (i ≤ j) × IsCharBoundary s i × IsCharBoundary s j)

pub found_at : (c : ℕ) (s : List ℕ) (r : Option ℕ) (i : ℕ) → Finds c s r → c < 128 → r ≡ Some i → position_or_len (λ b. b == c) s ≡ i
found_at c s r i h low is =
    let (inside, here, earlier) = rw is at (find_char c s r h low) in
    position_or_len_is (λ b. b == c) s i 0 (omega arith) (λ k l. let other = earlier k l in grind (arith, nat_tests)) (λ _. grind (arith, nat_tests))

pub found_none : (c : ℕ) (s : List ℕ) (r : Option ℕ) → Finds c s r → c < 128 → r ≡ None → position_or_len (λ b. b == c) s ≡ length s
found_none c s r h low is =
    let none = rw is at (find_char c s r h low) in
    position_or_len_is (λ b. b == c) s (length s) 0 (omega arith) (λ k l. let other = none k l in grind (arith, nat_tests)) (λ l. absurd (omega arith))

-- the clause of `rfind`
abbrev pub FindsLast : ℕ → List ℕ → Option ℕ → Type 0
FindsLast c s r = MatchOption r (RFindsChar c s None) (λ i. (j : ℕ) × RFindsChar c s (Some (i, j)) × (i ≤ j) × IsCharBoundary s i × IsCharBoundary s j)

pub last_slash : (s : List ℕ) (r : Option ℕ) (i : ℕ) → FindsLast 47 s r → r ≡ Some i → up_to_last_slash s ≡ take i s ++ codes "/"
last_slash s r i h is =
    let (inside, here, later) = rw is at (rfind_char 47 s r h (omega arith)) in
    let any : list_any (λ b. b == 47) s ≡ true = list_any_at (λ b. b == 47) s i 0 inside (grind (arith, nat_tests)) in
    let after_it : suffix_len (λ b. not (b == 47)) s ≡ length s - (i + 1) =
    suffix_len_is (λ b. not (b == 47)) s (i + 1) 0 (omega arith) (λ k low l. let other = later k (omega arith) l in grind (arith, nat_tests)) (λ _. let at : i + 1 - 1 ≡ i = omega arith in rw at (grind (arith, nat_tests))) in
    let place : length s - suffix_len (λ b. not (b == 47)) s - 1 ≡ i = omega (arith, after_it) in
    ap (λ b. if b then before_last (λ c. c == 47) s ++ codes "/" else []) any ∙ ap (λ n. take n s ++ codes "/") place

pub no_slash : (s : List ℕ) (r : Option ℕ) → FindsLast 47 s r → r ≡ None → up_to_last_slash s ≡ []
no_slash s r h is =
    let none = rw is at (rfind_char 47 s r h (omega arith)) in
    let end : position_or_len (λ b. b == 47) s ≡ length s =
    position_or_len_is (λ b. b == 47) s (length s) 0 (omega arith) (λ k l. let other = none k l in grind (arith, nat_tests)) (λ l. absurd (omega arith)) in
    ap (λ b. if b then before_last (λ c. c == 47) s ++ codes "/" else []) (lacks (λ b. b == 47) s end)

pub put_slash : (old front mid sign new text : List ℕ) → mid ≡ old ++ front → sign ≡ 47 ∷ [] → new ≡ mid ++ sign → text ≡ front ++ codes "/" → new ≡ old ++ text
put_slash old front mid sign new text a b c d = cc (append_assoc old front sign)
