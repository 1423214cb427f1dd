-- Where a text that is put together is cut.
use Rattle.std.proofs.Common.{◌≡◌, ◌∙◌, ◌==◌, ◌||◌, ◌++◌, ◌<◌, ◌≤◌, ◌+◌, ◌-◌, ℕ, zero, suc, Bool, true, false, not, List, [], ◌∷◌, length, take, drop, get_or, codes, refl, sym, ap, subst, arith, append_assoc, append-nil, Option, Some, None, length-append, length-drop, get_or-append-add, get_or-drop, take_at, ne_eqb}
use Rattle.std.specs.Prelude.{if◌then◌else◌}
use Rattle.std.specs.List.{before_first, after_first, before_last, list_any, position_or_len, suffix_len}
use Rattle.std.proofs.lemmas.Bool.{eqb-true, or_left, or_parts, or_right}
use Rattle.std.proofs.lemmas.List.{get_or_default}
use Rattle.std.proofs.lemmas.List.Folds.{list_any-append, list_any_none}
use Rattle.std.proofs.lemmas.List.Sums.{suffix_len_is}
use Rattle.std.proofs.lemmas.Str.Pattern.{rfind_char}
use Rattle.vkg_lists.proofs.Positions.{first_here, first_later}
use Rattle.vkg_terms.specs.Iri.{is_one_of}
use Rattle.vkg_terms.specs.Resolve.{after, from_slash, prefixed, up_to_last_slash}
use Rattle.vkg_terms.proofs.Cuts.{FindsLast, before_either}
use Rattle.vkg_turtle.specs.Fronts.{IsBehindSlash, before_query, has_slash}

module _ (p : ℕ → Bool) where
  pub before_here : (x : ℕ) (xs : List ℕ) → p x ≡ true → before_first p (x ∷ xs) ≡ []
  before_here x xs h = ap (λ n. take n (x ∷ xs)) (first_here p x xs h)

  pub before_later : (x : ℕ) (xs : List ℕ) → p x ≡ false → before_first p (x ∷ xs) ≡ x ∷ before_first p xs
  before_later x xs h = ap (λ n. take n (x ∷ xs)) (first_later p x xs h)

  pub after_here : (x : ℕ) (xs : List ℕ) → p x ≡ true → after_first p (x ∷ xs) ≡ xs
  after_here x xs h = ap (λ n. drop (n + 1) (x ∷ xs)) (first_here p x xs h)

  pub after_later : (x : ℕ) (xs : List ℕ) → p x ≡ false → after_first p (x ∷ xs) ≡ after_first p xs
  after_later x xs h =
      let more : suc (position_or_len p xs) + 1 ≡ suc (position_or_len p xs + 1) = omega arith in
      ap (λ n. drop (n + 1) (x ∷ xs)) (first_later p x xs h) ∙ ap (λ n. drop n (x ∷ xs)) more

  -- a front without such a sign is passed over
  pub before_past : (xs ys : List ℕ) → list_any p xs ≡ false → before_first p (xs ++ ys) ≡ xs ++ before_first p ys
  before_past [] ys h = refl
  before_past (x ∷ xs) ys h =
      let (here, rest) = or_parts (p x) (list_any p xs) h in
      before_later x (xs ++ ys) here ∙ ap (λ (l : List ℕ). x ∷ l) (before_past xs ys rest)

  pub after_past : (xs ys : List ℕ) → list_any p xs ≡ false → after_first p (xs ++ ys) ≡ after_first p ys
  after_past [] ys h = refl
  after_past (x ∷ xs) ys h =
      let (here, rest) = or_parts (p x) (list_any p xs) h in
      after_later x (xs ++ ys) here ∙ after_past xs ys rest

  -- up to the sign there is none
  lacks_by : (x : ℕ) (xs : List ℕ) (b : Bool) → p x ≡ b → list_any p (before_first p xs) ≡ false → list_any p (before_first p (x ∷ xs)) ≡ false
  lacks_by x xs true e h = ap (list_any p) (before_here x xs e)
  lacks_by x xs false e h = ap (list_any p) (before_later x xs e) ∙ ap (λ b. b || list_any p (before_first p xs)) e ∙ h

  pub before_lacks : (xs : List ℕ) → list_any p (before_first p xs) ≡ false
  before_lacks [] = refl
  before_lacks (x ∷ xs) = lacks_by x xs (p x) refl (before_lacks xs)

  drop_by : (k x : ℕ) (xs : List ℕ) (b : Bool) → p x ≡ b → suc k ≤ length (before_first p (x ∷ xs)) → (k ≤ length (before_first p xs) → before_first p (drop k xs) ≡ drop k (before_first p xs))
      → before_first p (drop (suc k) (x ∷ xs)) ≡ drop (suc k) (before_first p (x ∷ xs))
  drop_by k x xs true e l more = absurd (let z : length (before_first p (x ∷ xs)) ≡ 0 = ap length (before_here x xs e) in omega (arith, l, z))
  drop_by k x xs false e l more =
      let z : length (before_first p (x ∷ xs)) ≡ suc (length (before_first p xs)) = ap length (before_later x xs e) in
      more (omega (arith, l, z)) ∙ ap (drop (suc k)) (sym (before_later x xs e))

  -- of what is behind a place that stands before the sign
  pub before_drop : (k : ℕ) (xs : List ℕ) → k ≤ length (before_first p xs) → before_first p (drop k xs) ≡ drop k (before_first p xs)
  before_drop zero xs l = refl
  before_drop (suc k) [] l = refl
  before_drop (suc k) (x ∷ xs) l = drop_by k x xs (p x) refl l (λ m. before_drop k xs m)

-- ---- a text is what stands before the first sign, and from it on

after_cons : (c x : ℕ) (xs : List ℕ) → (x == c) ≡ false → after c (x ∷ xs) ≡ after c xs
after_cons c x xs e =
    ap (λ b. if b || list_any (λ b. b == c) xs then Some (after_first (λ b. b == c) (x ∷ xs)) else None) e
    ∙ ap (λ l. if list_any (λ b. b == c) xs then Some l else None) (after_later (λ b. b == c) x xs e)

glue_by : (c x : ℕ) (xs : List ℕ) (b : Bool) → (x == c) ≡ b → before_first (λ b. b == c) xs ++ prefixed (c ∷ []) (after c xs) ≡ xs → before_first (λ b. b == c) (x ∷ xs) ++ prefixed (c ∷ []) (after c (x ∷ xs)) ≡ x ∷ xs
glue_by c x xs true e h =
    ap (λ (l : List ℕ). l ++ prefixed (c ∷ []) (after c (x ∷ xs))) (before_here (λ b. b == c) x xs e)
    ∙ ap (λ b. prefixed (c ∷ []) (if b || list_any (λ b. b == c) xs then Some (after_first (λ b. b == c) (x ∷ xs)) else None)) e
    ∙ (λ i. sym (eqb-true x c e) i ∷ after_here (λ b. b == c) x xs e i)
glue_by c x xs false e h =
    (λ i. before_later (λ b. b == c) x xs e i ++ prefixed (c ∷ []) (after_cons c x xs e i)) ∙ ap (λ (l : List ℕ). x ∷ l) h

pub glued : (c : ℕ) (xs : List ℕ) → before_first (λ b. b == c) xs ++ prefixed (c ∷ []) (after c xs) ≡ xs
glued c [] = refl
glued c (x ∷ xs) = glue_by c x xs (x == c) refl (glued c xs)

-- what stands before the query, the query and the fragment
pub query_glued : (text : List ℕ) → (before_query text ++ prefixed (codes "?") (after 63 (before_first (λ b. b == 35) text))) ++ prefixed (codes "#") (after 35 text) ≡ text
query_glued text =
    ap (λ (l : List ℕ). (l ++ prefixed (codes "?") (after 63 (before_first (λ b. b == 35) text))) ++ prefixed (codes "#") (after 35 text)) (before_either text)
    ∙ ap (λ (l : List ℕ). l ++ prefixed (codes "#") (after 35 text)) (glued 63 (before_first (λ b. b == 35) text))
    ∙ glued 35 text

-- an authority and what stands from its slash on
slash_by : (x : ℕ) (xs : List ℕ) (b : Bool) → (x == 47) ≡ b → before_first (λ b. b == 47) xs ++ from_slash xs ≡ xs → before_first (λ b. b == 47) (x ∷ xs) ++ (if b then x ∷ xs else from_slash xs) ≡ x ∷ xs
slash_by x xs true e h = ap (λ (l : List ℕ). l ++ (x ∷ xs)) (before_here (λ b. b == 47) x xs e)
slash_by x xs false e h = ap (λ (l : List ℕ). l ++ from_slash xs) (before_later (λ b. b == 47) x xs e) ∙ ap (λ (l : List ℕ). x ∷ l) h

pub slash_glued : (xs : List ℕ) → before_first (λ b. b == 47) xs ++ from_slash xs ≡ xs
slash_glued [] = refl
slash_glued (x ∷ xs) = slash_by x xs (x == 47) refl (slash_glued xs)

-- ---- the last slash

in_segment : (s : List ℕ) (k : ℕ) → has_slash s ≡ false → k < length s → (get_or s k 0 == 47) ≡ false
in_segment [] k h l = absurd (omega arith)
in_segment (a ∷ s) zero h l = (or_parts (a == 47) (has_slash s) h).0
in_segment (a ∷ s) (suc k) h l = in_segment s k (or_parts (a == 47) (has_slash s) h).1 (omega arith)

behind_front : (front s : List ℕ) (k j : ℕ) → has_slash s ≡ false → k ≡ length front + suc j → j < length s → (get_or (front ++ 47 ∷ s) k 0 == 47) ≡ false
behind_front front s k j h e l =
    ap (λ n. get_or (front ++ 47 ∷ s) n 0 == 47) e ∙ ap (λ n. n == 47) (get_or-append-add front (47 ∷ s) (suc j) 0) ∙ in_segment s j h l

last_cut : (front s : List ℕ) → has_slash s ≡ false → before_last (λ b. b == 47) (front ++ 47 ∷ s) ≡ front
last_cut front s h =
    let long : length (front ++ 47 ∷ s) ≡ length front + suc (length s) = length-append front (47 ∷ s) in
    let start : length front + 1 - 1 ≡ length front + 0 = omega arith in
    let count : suffix_len (λ b. not (b == 47)) (front ++ 47 ∷ s) ≡ length (front ++ 47 ∷ s) - (length front + 1) =
    suffix_len_is (λ b. not (b == 47)) (front ++ 47 ∷ s) (length front + 1) 0 (omega arith) (λ k low l. ap not (behind_front front s k (k - (length front + 1)) h (omega arith) (omega arith))) (λ _. ap (λ n. not (get_or (front ++ 47 ∷ s) n 0 == 47)) start ∙ ap (λ n. not (n == 47)) (get_or-append-add front (47 ∷ s) 0 0)) in
    let place : length (front ++ 47 ∷ s) - suffix_len (λ b. not (b == 47)) (front ++ 47 ∷ s) - 1 ≡ length front = omega arith in
    ap (λ n. take n (front ++ 47 ∷ s)) place ∙ take_at front (47 ∷ s) (length front) refl

pub up_to_last : (front s : List ℕ) → has_slash s ≡ false → up_to_last_slash (front ++ 47 ∷ s) ≡ front ++ 47 ∷ []
up_to_last front s h =
    ap (λ b. if b then before_last (λ b. b == 47) (front ++ 47 ∷ s) ++ codes "/" else []) (list_any-append (λ b. b == 47) front (47 ∷ s) ∙ or_right (has_slash front) _ refl)
    ∙ ap (λ (l : List ℕ). l ++ codes "/") (last_cut front s h)

-- what `rfind` finds
pub behind_found : (s : List ℕ) (r : Option ℕ) (i : ℕ) → FindsLast 47 s r → r ≡ Some i → IsBehindSlash s (i + 1)
behind_found s r i h is =
    let (inside, here, later) = rw is at (rfind_char 47 s r h (omega arith)) in
    record {
      inside = omega (arith, inside);
      slash = λ _. (let at : i + 1 - 1 ≡ i = omega arith in ap (λ n. get_or s n 0) at ∙ here);
      last = list_any_none (λ b. b == 47) (drop (i + 1) s) (λ k d l.
          ap (λ n. n == 47) (get_or_default (drop (i + 1) s) k d 0 l ∙ get_or-drop (i + 1) s k 0)
          ∙ ne_eqb (get_or s (i + 1 + k) 0) 47 (later (i + 1 + k) (omega arith) (omega (arith, l, length-drop (i + 1) s))));
    }

pub behind_none : (s : List ℕ) (r : Option ℕ) → FindsLast 47 s r → r ≡ None → IsBehindSlash s 0
behind_none s r h is =
    let none = rw is at (rfind_char 47 s r h (omega arith)) in
    record {
      inside = omega arith;
      slash = λ l. absurd (omega (arith, l));
      last = list_any_none (λ b. b == 47) s (λ k d l. ap (λ n. n == 47) (get_or_default s k d 0 l) ∙ ne_eqb (get_or s k 0) 47 (none k l));
    }
