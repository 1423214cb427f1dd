-- How many plans without a union come of a product or a union, counted up to a bound.
use Rattle.std.proofs.Common.{◌≡◌, ◌∙◌, ℕ, zero, suc, ◌+◌, ◌*◌, ◌<◌, ◌≤◌, inl, inr, List, [], ◌∷◌, drop, length, get_or, refl, sym, ap, mul_comm, mul-pos, arith}
use Rattle.std.proofs.Math.Nat.{mul-zero, mul_assoc}
use Rattle.std.proofs.lemmas.List.{drop_all}
use Rattle.std.proofs.lemmas.Bool.{lt-leb}
use Rattle.std.proofs.lemmas.Bool.Decides.{leb_tells}
use Rattle.vkg_plan.specs.declared.plan.Plan.{Plan as PlanValue}
use Rattle.vkg_plan.specs.Plan.{Plan, Plans, Unit, Empty, Scan, Select, Project, Join, Left, AntiJoin, UnionAll, Distinct, Nil, More, each}
use Rattle.vkg_plan.specs.Seen.{plan_seen}
use Rattle.vkg_rules.specs.StepSeen.{plans_seen}
use Rattle.vkg_rules.proofs.Members.{drop_here}
use Rattle.vkg_spreads.specs.Counted.{capped}
use Rattle.vkg_spreads.specs.DistributeUnion.{are_few, branches, branches_product, branches_sum}

pub members_counted : (us : List PlanValue) → length (each (plans_seen us)) ≡ length us
members_counted [] = refl
members_counted (u ∷ us) = ap suc (members_counted us)

-- ---- there is at least one

mutual
  branches_positive : (p : Plan) → 0 < branches p
  branches_positive (Select c p) = branches_positive p
  branches_positive (Project es p) = branches_positive p
  branches_positive (Distinct p) = branches_positive p
  branches_positive (Join ps c) = product_positive ps
  branches_positive (Left p q c) = mul-pos (branches_positive p) (branches_positive q)
  branches_positive (AntiJoin p q c) = omega arith
  branches_positive (UnionAll us) = omega arith
  branches_positive Unit = omega arith
  branches_positive (Empty ks) = omega arith
  branches_positive (Scan table) = omega arith

  product_positive : (ps : Plans) → 0 < branches_product ps
  product_positive Nil = omega arith
  product_positive (More p ps) = mul-pos (branches_positive p) (product_positive ps)

-- ---- a number capped at one that is not few

small : (n : ℕ) → n ≤ 65 → capped n ≡ n
small n h = omega (arith, h)

big : (n : ℕ) → 65 ≤ n → capped n ≡ 65
big n h = omega (arith, h)

pub few_capped : (n : ℕ) → are_few (capped n) ≡ are_few n
few_capped n = elim (leb_tells n 65) [
  | inl a ↦ ap are_few (small n a.1)
  | inr b ↦ let h : 64 < n = omega (arith, b.1) in ap are_few (big n (omega (arith, b.1))) ∙ sym (lt-leb n 64 h)
]

many : (k r : ℕ) → 65 ≤ k → 65 ≤ k * suc r
many k r h = omega arith

big_times : (k r : ℕ) → 65 ≤ k → capped (65 * r) ≡ capped (k * r)
big_times k zero h = ap capped (mul-zero 65 ∙ sym (mul-zero k))
big_times k (suc r) h = big (65 * suc r) (many 65 r (omega arith)) ∙ sym (big (k * suc r) (many k r h))

left_capped : (n r : ℕ) → capped (capped n * r) ≡ capped (n * r)
left_capped n r = elim (leb_tells n 65) [
  | inl a ↦ ap (λ k. capped (k * r)) (small n a.1)
  | inr b ↦ let h : 65 ≤ n = omega (arith, b.1) in ap (λ k. capped (k * r)) (big n h) ∙ big_times n r h
]

right_capped : (n r : ℕ) → capped (n * capped r) ≡ capped (n * r)
right_capped n r = ap capped (mul_comm n (capped r)) ∙ left_capped r n ∙ ap capped (mul_comm r n)

pub times_capped : (n m a b : ℕ) → a ≡ capped n → b ≡ capped m → capped (a * b) ≡ capped (n * m)
times_capped n m a b h k = (λ i. capped (h i * k i)) ∙ left_capped n (capped m) ∙ right_capped n m

pub within : (n k : ℕ) → k ≡ capped n → k ≤ 65
within n k e = omega (arith, e)

-- ---- what was counted, with what is left, is the whole up to the bound

abbrev pub CountedProduct : List PlanValue → ℕ → ℕ → Type 0
CountedProduct ps i n = capped (n * branches_product (plans_seen (drop i ps))) ≡ capped (branches_product (plans_seen ps))

pub next_factor : (ps : List PlanValue) (i : ℕ) (p : PlanValue) (n b k : ℕ) → i < length ps → p ≡ get_or ps i p → b ≡ capped (branches (plan_seen p)) → k ≡ capped (n * b) →
    CountedProduct ps i n → CountedProduct ps (i + 1) k
next_factor ps i p n b k below is h e counted =
    let rest = branches_product (plans_seen (drop (i + 1) ps)) in
    let own = branches (plan_seen p) in
    ap (λ j. capped (j * rest)) e
    ∙ left_capped (n * b) rest
    ∙ ap capped (mul_assoc n b rest)
    ∙ sym (right_capped n (b * rest))
    ∙ ap (λ j. capped (n * capped (j * rest))) h
    ∙ ap (λ j. capped (n * j)) (left_capped own rest)
    ∙ right_capped n (own * rest)
    ∙ ap (λ l. capped (n * branches_product (plans_seen l))) (sym (drop_here ps i p below is))
    ∙ counted

pub no_factor : (ps : List PlanValue) → CountedProduct ps 0 1
no_factor ps = let e : 1 * branches_product (plans_seen ps) ≡ branches_product (plans_seen ps) = omega arith in ap capped e

pub many_factors : (ps : List PlanValue) (i n : ℕ) → 65 ≤ n → CountedProduct ps i n → 65 ≡ capped (branches_product (plans_seen ps))
many_factors ps i n h counted =
    let rest = branches_product (plans_seen (drop i ps)) in
    let k = times_at_least n rest h (product_positive (plans_seen (drop i ps))) in
    sym (big (n * rest) k) ∙ counted
  where
    times_at_least : (n r : ℕ) → 65 ≤ n → 0 < r → 65 ≤ n * r
    times_at_least n zero h k = omega arith
    times_at_least n (suc r) h k = many n r h

pub all_factors : (ps : List PlanValue) (i n : ℕ) → length ps ≤ i → n ≤ 65 → CountedProduct ps i n → n ≡ capped (branches_product (plans_seen ps))
all_factors ps i n h k counted =
    let e : n ≡ n * 1 = omega arith in
    sym (small n k) ∙ ap capped e ∙ ap (λ l. capped (n * branches_product (plans_seen l))) (sym (drop_all i ps h)) ∙ counted

-- so of a union
abbrev pub CountedSum : List PlanValue → ℕ → ℕ → Type 0
CountedSum us i n = capped (n + branches_sum (plans_seen (drop i us))) ≡ capped (branches_sum (plans_seen us))

added : (n b k own rest : ℕ) → b ≡ capped own → k ≡ capped (n + b) → capped (k + rest) ≡ capped (n + (own + rest))
added n b k own rest h e = omega arith

pub next_term : (us : List PlanValue) (i : ℕ) (u : PlanValue) (n b k : ℕ) → i < length us → u ≡ get_or us i u → b ≡ capped (branches (plan_seen u)) → k ≡ capped (n + b) →
    CountedSum us i n → CountedSum us (i + 1) k
next_term us i u n b k below is h e counted =
    added n b k (branches (plan_seen u)) (branches_sum (plans_seen (drop (i + 1) us))) h e
    ∙ ap (λ l. capped (n + branches_sum (plans_seen l))) (sym (drop_here us i u below is))
    ∙ counted

many_added : (n rest whole : ℕ) → 65 ≤ n → capped (n + rest) ≡ capped whole → 65 ≡ capped whole
many_added n rest whole h e = omega arith

pub many_terms : (us : List PlanValue) (i n : ℕ) → 65 ≤ n → CountedSum us i n → 65 ≡ capped (branches_sum (plans_seen us))
many_terms us i n h counted = many_added n (branches_sum (plans_seen (drop i us))) (branches_sum (plans_seen us)) h counted

pub all_terms : (us : List PlanValue) (i n : ℕ) → length us ≤ i → n ≤ 65 → CountedSum us i n → n ≡ capped (branches_sum (plans_seen us))
all_terms us i n h k counted =
    let e : n ≡ n + 0 = omega arith in
    sym (small n k) ∙ ap capped e ∙ ap (λ l. capped (n + branches_sum (plans_seen l))) (sym (drop_all i us h)) ∙ counted
