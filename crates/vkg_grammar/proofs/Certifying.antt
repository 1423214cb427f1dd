-- A grammar whose claims pass the test keeps ways apart.
use Rattle.std.proofs.Common.{◌≡◌, ℕ, zero, suc, ◌+◌, ◌<◌, Bool, true, false, not, ◌⊎◌, inl, inr, List, [], ◌∷◌, ◌++◌, length, get_or, Option, Some, None, refl, sym, subst, arith, nat_eq, nat_lt, true≢false}
use Rattle.std.proofs.lemmas.Bool.{eqb-true, eq-eqb, ltb-true, both_ways, not-true}
use Rattle.vkg_lists.proofs.Members.{each_from_recursion, recursion_append, recursion_at, recursion_right}
use Rattle.vkg_lists.proofs.Each.{recursion_weaken}
use Rattle.vkg_lists.specs.Lists.{AllBelow}
use Rattle.vkg_grammar.specs.declared.note.Note.{Note}
use Rattle.vkg_grammar.specs.declared.note.Act.TheVariants.{Leaf}
use Rattle.vkg_grammar.specs.Tables.{HasText}
use Rattle.vkg_grammar.proofs.Core.{text_each, text_of_way}
use Rattle.std.specs.List.{AllByRecursion}
use Rattle.vkg_grammar.specs.declared.rule.Rule.{Rule}
use Rattle.vkg_grammar.specs.declared.rule.Rule.TheVariants.{Token, Empty, Then, Either, Optional, Repeated}
use Rattle.vkg_grammar.specs.Grammar.{noted, Shape, One, Parts, Choice, shape, shape_of, Derives, done, read, parts, first, second, MayBeEmpty, MayFollow, within, at_end, IsWay, the_parts, the_first, the_second, Starts, IsGrammar, IsProductive, IsLL1}
use Rattle.vkg_grammar.specs.Machine.{Sees, at_token, at_end_of}
use Rattle.vkg_grammar.specs.Certified.{Claim, none_claimed, holds, within_all, apart_all, both, if_so, claim_at, each, empty_way, begin_more, begin_way, follow_way, way_claimed, starts_way, shape_claimed, lower_way, either, shape_lower, all_below, shape_below, all_pass, rule_fits, all_fit}
use Rattle.vkg_grammar.specs.Form.{HasKinds}
use Rattle.vkg_grammar.specs.Laws.{CertificatesHold}
use Rattle.vkg_grammar.proofs.Following.{way_inside}

both_first : (a b : Bool) → both a b ≡ true → a ≡ true
both_first true b e = refl
both_first false b e = absurd (cc)

both_second : (a b : Bool) → both a b ≡ true → b ≡ true
both_second true b e = e
both_second false b e = absurd (cc)

both_true : (a b : Bool) → a ≡ true → b ≡ true → both a b ≡ true
both_true true b e q = q
both_true false b e q = absurd (cc)

each_passes : {A : Type 0} (test : A → Bool) (xs : List A) → each test xs ≡ true → AllByRecursion (λ x. test x ≡ true) xs
each_passes test [] e = tt
each_passes test (x ∷ xs) e = (both_first (test x) (each test xs) e, each_passes test xs (both_second (test x) (each test xs) e))

so_then : (a b : Bool) → if_so a b ≡ true → a ≡ true → b ≡ true
so_then true b e q = e
so_then false b e q = absurd (cc)

step_holds : (k x : ℕ) (xs : List ℕ) → holds k (x ∷ xs) ≡ true → (k ≡ x) ⊎ (holds k xs ≡ true)
step_holds k x xs h = by (nat_eq k x) refl h where
  by : (b : Bool) → nat_eq k x ≡ b → elim b as (λ _. Bool) [ true ↦ true | false ↦ holds k xs ] ≡ true → (k ≡ x) ⊎ (holds k xs ≡ true)
  by true e h = inl (eqb-true k x e)
  by false e h = inr h

holds_here : (k : ℕ) (xs : List ℕ) → holds k (k ∷ xs) ≡ true
holds_here k xs = by (nat_eq k k) (eq-eqb k k refl) where
  by : (b : Bool) → b ≡ true → elim b as (λ _. Bool) [ true ↦ true | false ↦ holds k xs ] ≡ true
  by true e = refl
  by false e = absurd (cc)

holds_later : (k x : ℕ) (xs : List ℕ) → holds k xs ≡ true → holds k (x ∷ xs) ≡ true
holds_later k x xs h = by (nat_eq k x) where
  by : (b : Bool) → elim b as (λ _. Bool) [ true ↦ true | false ↦ holds k xs ] ≡ true
  by true = refl
  by false = h

holds_left : (k : ℕ) (xs ys : List ℕ) → holds k xs ≡ true → holds k (xs ++ ys) ≡ true
holds_left k [] ys h = absurd (cc)
holds_left k (x ∷ xs) ys h = elim (step_holds k x xs h) [ inl e ↦ subst (λ y. holds k (y ∷ (xs ++ ys)) ≡ true) e (holds_here k (xs ++ ys)) | inr q ↦ holds_later k x (xs ++ ys) (holds_left k xs ys q) ]

holds_right : (k : ℕ) (xs ys : List ℕ) → holds k ys ≡ true → holds k (xs ++ ys) ≡ true
holds_right k [] ys h = h
holds_right k (x ∷ xs) ys h = holds_later k x (xs ++ ys) (holds_right k xs ys h)

within_first : (x : ℕ) (xs ys : List ℕ) → within_all (x ∷ xs) ys ≡ true → (holds x ys ≡ true) × (within_all xs ys ≡ true)
within_first x xs ys e = by (holds x ys) refl e where
  by : (b : Bool) → holds x ys ≡ b → elim b as (λ _. Bool) [ true ↦ within_all xs ys | false ↦ false ] ≡ true → (holds x ys ≡ true) × (within_all xs ys ≡ true)
  by true q e = (q, e)
  by false q e = absurd (cc)

within_holds : (k : ℕ) (xs ys : List ℕ) → within_all xs ys ≡ true → holds k xs ≡ true → holds k ys ≡ true
within_holds k [] ys e h = absurd (cc)
within_holds k (x ∷ xs) ys e h = elim (step_holds k x xs h) [ inl q ↦ subst (λ y. holds y ys ≡ true) (sym q) (within_first x xs ys e).0 | inr q ↦ within_holds k xs ys (within_first x xs ys e).1 q ]

apart_first : (x : ℕ) (xs ys : List ℕ) → apart_all (x ∷ xs) ys ≡ true → (holds x ys ≡ false) × (apart_all xs ys ≡ true)
apart_first x xs ys e = by (holds x ys) refl e where
  by : (b : Bool) → holds x ys ≡ b → elim b as (λ _. Bool) [ true ↦ false | false ↦ apart_all xs ys ] ≡ true → (holds x ys ≡ false) × (apart_all xs ys ≡ true)
  by true q e = absurd (cc)
  by false q e = (q, e)

apart_holds : (k : ℕ) (xs ys : List ℕ) → apart_all xs ys ≡ true → holds k xs ≡ true → holds k ys ≡ true → ⊥
apart_holds k [] ys e h h' = cc
apart_holds k (x ∷ xs) ys e h h' = elim (step_holds k x xs h) [ inl q ↦ (let f : holds x ys ≡ false = (apart_first x xs ys e).0 in let t : holds x ys ≡ true = subst (λ y. holds y ys ≡ true) q h' in cc) | inr q ↦ apart_holds k xs ys (apart_first x xs ys e).1 q h' ]

-- what a test of all rules with their claims says of each
pub rule_each : (p : Claim → Shape → Bool) (base : ℕ) (rs : List Rule) (ds : List Claim) (i j : ℕ) → j ≡ base + i → i < length rs → all_pass p base rs ds ≡ true → p (get_or ds i none_claimed) (shape j (get_or rs i (Token 0))) ≡ true
rule_each p base [] ds i j q h e = absurd (omega arith)
rule_each p base (r ∷ rs) [] i j q h e = absurd (true≢false (sym e))
rule_each p base (r ∷ rs) (d ∷ ds) zero j q h e = let same : base ≡ j = omega arith in subst (λ y. p d (shape y r) ≡ true) same (both_first (p d (shape base r)) (all_pass p (base + 1) rs ds) e)
rule_each p base (r ∷ rs) (d ∷ ds) (suc i) j q h e = rule_each p (base + 1) rs ds i j (omega arith) (omega arith) (both_second (p d (shape base r)) (all_pass p (base + 1) rs ds) e)

-- what is claimed of some symbols at the next token
abbrev ClaimedAt : List Claim → Option ℕ → List ℕ → Type 0
ClaimedAt cs None xs = empty_way cs xs ≡ true
ClaimedAt cs (Some k) xs = holds k (begin_way cs xs) ≡ true

more_holds : (k : ℕ) (b : Bool) (ks more : List ℕ) → holds k ks ≡ true → holds k (begin_more b ks more) ≡ true
more_holds k true ks more h = holds_left k ks more h
more_holds k false ks more h = h

more_behind : (k : ℕ) (b : Bool) (ks more : List ℕ) → b ≡ true → holds k more ≡ true → holds k (begin_more b ks more) ≡ true
more_behind k true ks more e h = holds_right k ks more h
more_behind k false ks more e h = absurd (cc)

append_holds : (k : ℕ) (xs ys : List ℕ) → holds k (xs ++ ys) ≡ true → (holds k xs ≡ true) ⊎ (holds k ys ≡ true)
append_holds k [] ys h = inr h
append_holds k (x ∷ xs) ys h = elim (step_holds k x (xs ++ ys) h) [
  | inl e ↦ inl (subst (λ y. holds k (y ∷ xs) ≡ true) e (holds_here k xs))
  | inr q ↦ elim (append_holds k xs ys q) [ inl p ↦ inl (holds_later k x xs p) | inr p ↦ inr p ]
]

more_either : (k : ℕ) (b : Bool) (ks more : List ℕ) → holds k (begin_more b ks more) ≡ true → (holds k ks ≡ true) ⊎ ((b ≡ true) × (holds k more ≡ true))
more_either k true ks more h = elim (append_holds k ks more h) [ inl p ↦ inl p | inr p ↦ inr (refl, p) ]
more_either k false ks more h = inl h

module _ (g : List Rule) (wf : IsGrammar g) (cs : List Claim) (claimed : (n : ℕ) → n < length g → shape_claimed cs (claim_at cs n) (shape_of g n) ≡ true) where
  empty_split : (xs s : List ℕ) → empty_way cs (xs ++ s) ≡ true → (empty_way cs xs ≡ true) × (empty_way cs s ≡ true)
  empty_split [] s e = (refl, e)
  empty_split (x ∷ xs) s e =
      let r : (empty_way cs xs ≡ true) × (empty_way cs s ≡ true) = empty_split xs s (both_second (claim_at cs x).empty (empty_way cs (xs ++ s)) e) in
      (both_true (claim_at cs x).empty (empty_way cs xs) (both_first (claim_at cs x).empty (empty_way cs (xs ++ s)) e) r.0, r.1)

  begin_split : (k : ℕ) (xs s : List ℕ) → holds k (begin_way cs (xs ++ s)) ≡ true → (holds k (begin_way cs xs) ≡ true) ⊎ ((empty_way cs xs ≡ true) × (holds k (begin_way cs s) ≡ true))
  begin_split k [] s h = inr (refl, h)
  begin_split k (x ∷ xs) s h = elim (more_either k (claim_at cs x).empty (claim_at cs x).begin (begin_way cs (xs ++ s)) h) [
    | inl p ↦ inl (more_holds k (claim_at cs x).empty (claim_at cs x).begin (begin_way cs xs) p)
    | inr p ↦ elim (begin_split k xs s p.1) [
      | inl q ↦ inl (more_behind k (claim_at cs x).empty (claim_at cs x).begin (begin_way cs xs) p.0 q)
      | inr q ↦ inr (both_true (claim_at cs x).empty (empty_way cs xs) p.0 q.0, q.1)
    ]
  ]

  of_way : (n : ℕ) (xs s : List ℕ) (c : Option ℕ) → way_claimed cs (claim_at cs n) xs ≡ true → ClaimedAt cs c (xs ++ s) → ClaimedAt cs c (n ∷ s)
  of_way n xs s None w e =
      let r : (empty_way cs xs ≡ true) × (empty_way cs s ≡ true) = empty_split xs s e in
      both_true (claim_at cs n).empty (empty_way cs s) (so_then (empty_way cs xs) (claim_at cs n).empty (both_first (if_so (empty_way cs xs) (claim_at cs n).empty) (follow_way cs (claim_at cs n).follow xs) (both_second (within_all (begin_way cs xs) (claim_at cs n).begin) (both (if_so (empty_way cs xs) (claim_at cs n).empty) (follow_way cs (claim_at cs n).follow xs)) w)) r.0) r.1
  of_way n xs s (Some k) w h = elim (begin_split k xs s h) [
    | inl p ↦ more_holds k (claim_at cs n).empty (claim_at cs n).begin (begin_way cs s) (within_holds k (begin_way cs xs) (claim_at cs n).begin (both_first (within_all (begin_way cs xs) (claim_at cs n).begin) (both (if_so (empty_way cs xs) (claim_at cs n).empty) (follow_way cs (claim_at cs n).follow xs)) w) p)
    | inr p ↦ more_behind k (claim_at cs n).empty (claim_at cs n).begin (begin_way cs s) (so_then (empty_way cs xs) (claim_at cs n).empty (both_first (if_so (empty_way cs xs) (claim_at cs n).empty) (follow_way cs (claim_at cs n).follow xs) (both_second (within_all (begin_way cs xs) (claim_at cs n).begin) (both (if_so (empty_way cs xs) (claim_at cs n).empty) (follow_way cs (claim_at cs n).follow xs)) w)) p.0) p.1
  ]

  way_of : {n : ℕ} {xs : List ℕ} → IsWay g n xs → way_claimed cs (claim_at cs n) xs ≡ true
  way_of {n = n} {xs = xs} (the_parts e) = let s : shape_claimed cs (claim_at cs n) (Parts xs) ≡ true = subst (λ y. shape_claimed cs (claim_at cs n) y ≡ true) e (claimed n (way_inside (the_parts e))) in s
  way_of {n = n} {xs = xs} (the_first {ys = ys} e) = let s : shape_claimed cs (claim_at cs n) (Choice xs ys) ≡ true = subst (λ y. shape_claimed cs (claim_at cs n) y ≡ true) e (claimed n (way_inside (the_first e))) in both_first (way_claimed cs (claim_at cs n) xs) _ s
  way_of {n = n} {xs = ys} (the_second {xs = xs} e) = let s : shape_claimed cs (claim_at cs n) (Choice xs ys) ≡ true = subst (λ y. shape_claimed cs (claim_at cs n) y ≡ true) e (claimed n (way_inside (the_second e))) in both_first (way_claimed cs (claim_at cs n) ys) _ (both_second (way_claimed cs (claim_at cs n) xs) _ s)

  pub claims_of : {s ts : List ℕ} {ws : List Note} (c : Option ℕ) → AllBelow (length g) s → Sees c ts → Derives g s ts ws → ClaimedAt cs c s
  claims_of c b at_end_of done = refl
  claims_of c b at_token (read {n = n} {k = k} {s = s} q d) = let h : shape_claimed cs (claim_at cs n) (One k) ≡ true = subst (λ y. shape_claimed cs (claim_at cs n) y ≡ true) q (claimed n b.0) in more_holds k (claim_at cs n).empty (claim_at cs n).begin (begin_way cs s) h
  claims_of c b see (parts {n = n} {xs = xs} {s = s} q d) = of_way n xs s c (way_of (the_parts q)) (claims_of c (recursion_append (λ k. k < length g) xs s (wf.closed n xs b.0 (the_parts q)) b.1) see d)
  claims_of c b see (first {n = n} {xs = xs} {s = s} q d) = of_way n xs s c (way_of (the_first q)) (claims_of c (recursion_append (λ k. k < length g) xs s (wf.closed n xs b.0 (the_first q)) b.1) see d)
  claims_of c b see (second {n = n} {ys = xs} {s = s} q d) = of_way n xs s c (way_of (the_second q)) (claims_of c (recursion_append (λ k. k < length g) xs s (wf.closed n xs b.0 (the_second q)) b.1) see d)

  follow_place : (k : ℕ) (behind before : List ℕ) (n : ℕ) (after : List ℕ) → follow_way cs behind (before ++ n ∷ after) ≡ true → (holds k (begin_way cs after) ≡ true) ⊎ ((empty_way cs after ≡ true) × (holds k behind ≡ true)) → holds k (claim_at cs n).follow ≡ true
  follow_place k behind [] n after e (inl h) = within_holds k (begin_way cs after) (claim_at cs n).follow (both_first (within_all (begin_way cs after) (claim_at cs n).follow) _ e) h
  follow_place k behind [] n after e (inr p) = within_holds k behind (claim_at cs n).follow (so_then (empty_way cs after) (within_all behind (claim_at cs n).follow) (both_first (if_so (empty_way cs after) (within_all behind (claim_at cs n).follow)) (follow_way cs behind after) (both_second (within_all (begin_way cs after) (claim_at cs n).follow) _ e)) p.0) p.1
  follow_place k behind (x ∷ before) n after e p = follow_place k behind before n after (both_second (if_so (empty_way cs (before ++ n ∷ after)) (within_all behind (claim_at cs x).follow)) (follow_way cs behind (before ++ n ∷ after)) (both_second (within_all (begin_way cs (before ++ n ∷ after)) (claim_at cs x).follow) _ e)) p

  follow_of_way : (m : ℕ) (xs : List ℕ) → way_claimed cs (claim_at cs m) xs ≡ true → follow_way cs (claim_at cs m).follow xs ≡ true
  follow_of_way m xs w = both_second (if_so (empty_way cs xs) (claim_at cs m).empty) (follow_way cs (claim_at cs m).follow xs) (both_second (within_all (begin_way cs xs) (claim_at cs m).begin) _ w)

  follows_of : {n k : ℕ} → MayFollow g n k → holds k (claim_at cs n).follow ≡ true
  follows_of {n = n} {k = k} (within m before after w b) =
      follow_place k (claim_at cs m).follow before n after (follow_of_way m (before ++ n ∷ after) (way_of w)) (inl (claims_of (Some k) (recursion_right (λ k. k < length g) before (n ∷ after) (wf.closed m (before ++ n ∷ after) (way_inside w) w)).1 at_token b.2))
  follows_of {n = n} {k = k} (at_end m before after w e f) =
      follow_place k (claim_at cs m).follow before n after (follow_of_way m (before ++ n ∷ after) (way_of w)) (inr (claims_of None (recursion_right (λ k. k < length g) before (n ∷ after) (wf.closed m (before ++ n ∷ after) (way_inside w) w)).1 at_end_of e.1, follows_of f))

  starts_of : (n k : ℕ) (xs : List ℕ) → AllBelow (length g) xs → Starts g n xs k → holds k (starts_way cs (claim_at cs n) xs) ≡ true
  starts_of n k xs b (inl m) = more_holds k (empty_way cs xs) (begin_way cs xs) (claim_at cs n).follow (claims_of (Some k) b at_token m.2)
  starts_of n k xs b (inr p) = more_behind k (empty_way cs xs) (begin_way cs xs) (claim_at cs n).follow (claims_of None b at_end_of p.0.1) (follows_of p.1)

  pub certified : IsProductive g → IsLL1 g
  certified prod = record { productive = prod; one_empty = one_empty; one_begins = one_begins }
    where
      choice : (n : ℕ) (xs ys : List ℕ) → n < length g → shape_of g n ≡ Choice xs ys → both (if_so (empty_way cs xs) (not (empty_way cs ys))) (apart_all (starts_way cs (claim_at cs n) xs) (starts_way cs (claim_at cs n) ys)) ≡ true
      choice n xs ys h e = let s : shape_claimed cs (claim_at cs n) (Choice xs ys) ≡ true = subst (λ y. shape_claimed cs (claim_at cs n) y ≡ true) e (claimed n h) in both_second (way_claimed cs (claim_at cs n) ys) _ (both_second (way_claimed cs (claim_at cs n) xs) _ s)

      one_empty : (n : ℕ) (xs ys : List ℕ) → n < length g → shape_of g n ≡ Choice xs ys → MayBeEmpty g xs → MayBeEmpty g ys → ⊥
      one_empty n xs ys h e p q = both_ways (empty_way cs ys) (not-true (empty_way cs ys) (so_then (empty_way cs xs) (not (empty_way cs ys)) (both_first (if_so (empty_way cs xs) (not (empty_way cs ys))) _ (choice n xs ys h e)) (claims_of None (wf.closed n xs h (the_first e)) at_end_of p.1))) (claims_of None (wf.closed n ys h (the_second e)) at_end_of q.1)

      one_begins : (n : ℕ) (xs ys : List ℕ) (k : ℕ) → n < length g → shape_of g n ≡ Choice xs ys → Starts g n xs k → Starts g n ys k → ⊥
      one_begins n xs ys k h e p q = apart_holds k (starts_way cs (claim_at cs n) xs) (starts_way cs (claim_at cs n) ys) (both_second (if_so (empty_way cs xs) (not (empty_way cs ys))) _ (choice n xs ys h e)) (starts_of n k xs (wf.closed n xs h (the_first e)) p) (starts_of n k ys (wf.closed n ys h (the_second e)) q)

either_true : (a b : Bool) → either a b ≡ true → (a ≡ true) ⊎ (b ≡ true)
either_true true b e = inl refl
either_true false b e = inr e

module _ (g : List Rule) (wf : IsGrammar g) (cs : List Claim) (lower : (n : ℕ) → n < length g → shape_lower cs (claim_at cs n).level (shape_of g n) ≡ true) where
  way_text : (b : ℕ) (xs : List ℕ) → AllBelow (length g) xs → ((x : ℕ) → x < length g → (claim_at cs x).level < b → HasText g x) → lower_way cs b xs ≡ true → (ts : List ℕ) × (ws : List Note) × Derives g xs ts ws
  way_text b xs bl so e = text_each xs (λ x c. so x (each_from_recursion (λ k. k < length g) xs bl x c) (ltb-true (claim_at cs x).level b (each_from_recursion (λ y. nat_lt (claim_at cs y).level b ≡ true) xs (each_passes (λ y. nat_lt (claim_at cs y).level b) xs e) x c)))

  shape_text : (n : ℕ) (sh : Shape) → n < length g → shape_of g n ≡ sh → ((x : ℕ) → x < length g → (claim_at cs x).level < (claim_at cs n).level → HasText g x) → shape_lower cs (claim_at cs n).level sh ≡ true → HasText g n
  shape_text n (One k) h e so l = (k ∷ [], noted n Leaf ∷ [], read e done)
  shape_text n (Parts xs) h e so l = text_of_way (the_parts e) (way_text (claim_at cs n).level xs (wf.closed n xs h (the_parts e)) so l)
  shape_text n (Choice xs ys) h e so l = elim (either_true (lower_way cs (claim_at cs n).level xs) (lower_way cs (claim_at cs n).level ys) l) [
    | inl p ↦ text_of_way (the_first e) (way_text (claim_at cs n).level xs (wf.closed n xs h (the_first e)) so p)
    | inr p ↦ text_of_way (the_second e) (way_text (claim_at cs n).level ys (wf.closed n ys h (the_second e)) so p)
  ]

  text_by : (b n : ℕ) → n < length g → (claim_at cs n).level < b → HasText g n
  text_by zero n h l = absurd (omega arith)
  text_by (suc b) n h l = shape_text n (shape_of g n) h refl (λ x h' l'. text_by b x h' (omega arith)) (lower n h)

  pub certified_productive : IsProductive g
  certified_productive n h = text_by (suc (claim_at cs n).level) n h (omega arith)

below_of : (m : ℕ) (xs : List ℕ) → all_below m xs ≡ true → AllBelow m xs
below_of m xs e = recursion_weaken (λ x. nat_lt x m ≡ true) (λ x. x < m) xs (λ x. ltb-true x m) (each_passes (λ x. nat_lt x m) xs e)

pub is_grammar : (g : List Rule) (cs : List Claim) → 0 < length g → all_pass (λ c. shape_below (length g)) 0 g cs ≡ true → IsGrammar g
is_grammar g cs pos e = record { start = pos; closed = λ n xs h w. by_way n xs h w }
  where
    by_way : (n : ℕ) (xs : List ℕ) → n < length g → IsWay g n xs → AllBelow (length g) xs
    by_way n xs h (the_parts q) = below_of (length g) xs (let s : shape_below (length g) (Parts xs) ≡ true = subst (λ y. shape_below (length g) y ≡ true) q (rule_each (λ c. shape_below (length g)) 0 g cs n n (omega arith) h e) in s)
    by_way n xs h (the_first {ys = ys} q) = below_of (length g) xs (let s : shape_below (length g) (Choice xs ys) ≡ true = subst (λ y. shape_below (length g) y ≡ true) q (rule_each (λ c. shape_below (length g)) 0 g cs n n (omega arith) h e) in both_first (all_below (length g) xs) (all_below (length g) ys) s)
    by_way n ys h (the_second {xs = xs} q) = below_of (length g) ys (let s : shape_below (length g) (Choice xs ys) ≡ true = subst (λ y. shape_below (length g) y ≡ true) q (rule_each (λ c. shape_below (length g)) 0 g cs n n (omega arith) h e) in both_second (all_below (length g) xs) (all_below (length g) ys) s)

-- A grammar whose claims pass all three tests is LL(1).
pub passes_ll1 : (g : List Rule) (cs : List Claim) → 0 < length g → all_pass (λ c. shape_below (length g)) 0 g cs ≡ true → all_pass (shape_claimed cs) 0 g cs ≡ true → all_pass (λ c. shape_lower cs c.level) 0 g cs ≡ true → IsLL1 g
passes_ll1 g cs pos closed claims levels =
    certified g (is_grammar g cs pos closed) cs (λ n h. rule_each (shape_claimed cs) 0 g cs n n (omega arith) h claims)
    (certified_productive g (is_grammar g cs pos closed) cs (λ n h. rule_each (λ c. shape_lower cs c.level) 0 g cs n n (omega arith) h levels))

-- The kinds fit.
kind_fits : (kinds n k : ℕ) (r : Rule) → shape n r ≡ One k → rule_fits kinds r ≡ true → k < kinds
kind_fits kinds n k (Token j) e f = let same : j ≡ k = cc in subst (λ x. x < kinds) same (ltb-true j kinds f)
kind_fits kinds n k Empty e f = absurd (cc)
kind_fits kinds n k (Then a b) e f = absurd (cc)
kind_fits kinds n k (Either a b) e f = absurd (cc)
kind_fits kinds n k (Optional a) e f = absurd (cc)
kind_fits kinds n k (Repeated a) e f = absurd (cc)

pub has_kinds : (kinds : ℕ) (g : List Rule) → all_fit kinds g ≡ true → HasKinds g kinds
has_kinds kinds g f = λ n k h e. kind_fits kinds n k (get_or g n (Token 0)) e (recursion_at (λ r. rule_fits kinds r ≡ true) g n (Token 0) (each_passes (rule_fits kinds) g f) h)

pub certificates_hold : CertificatesHold
certificates_hold g kinds cs c = (is_grammar g cs c.some c.closed, has_kinds kinds g c.fits, passes_ll1 g cs c.some c.closed c.claimed c.lower)
