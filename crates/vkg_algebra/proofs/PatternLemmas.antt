-- The instances of a basic graph pattern are the maps under which each pattern is a triple of the graph.
use Rattle.std.proofs.Common.{◌≡◌, ◌∙◌, ◌⊎◌, ℕ, zero, suc, Bool, true, false, cond, IsSome, List, [], ◌∷◌, ◌++◌, flat_map, length, Option, Some, None, inl, inr, ⊎_elim, refl, sym, ap, subst, true≢false, arith}
use Rattle.std.specs.List.{Contains, IsDistinct}
use Rattle.std.specs.Option.{option_or}
use Rattle.std.proofs.lemmas.Bool.{cases_Bool, cond_both}
use Rattle.std.proofs.lemmas.List.Elements.{Contains-append_left, Contains-append_right, Contains-append_cases}
use Rattle.std.proofs.lemmas.Map.Made.{is_member-Decides}
use Rattle.vkg_lists.proofs.Distinct.{IsDistinct-cons, IsDistinct-flat_map, IsDistinct-nil}
use Rattle.vkg_lists.proofs.Members.{Contains-none, Contains-from_flat_map, Contains-cond}
use Rattle.vkg_lists.proofs.Results.{some_if}
use Rattle.vkg_lists.proofs.Rows.{Decides-compatible, length-merge, value_at-merge}
use Rattle.vkg_lists.proofs.Tests.{nat_test}
use Rattle.vkg_lists.specs.Rows.{merged_if_compatible}
use Rattle.vkg_terms.specs.declared.term.Term.{Term}
use Rattle.vkg_terms.proofs.SameLemmas.{terms_apart}
use Rattle.vkg_terms.specs.Same.{term_eq}
use Rattle.vkg_algebra.specs.Answer.{solution_eq}
use Rattle.vkg_algebra.specs.Laws.{AreCompatible}
use Rattle.vkg_algebra.specs.Solutions.{Solution, compatible, join, lookup, merge}
use Rattle.vkg_algebra.specs.Visible.{has}
use Rattle.vkg_algebra.proofs.MapLemmas.{Contains-from_join, Contains-join, same_map, solution_test}

-- ---- what a merged map binds

-- a value that is there is kept
or_some : (o p : Option Term) → IsSome o → option_or o p ≡ o
or_some None p h = cc
or_some (Some t) p h = refl

-- the map at the numbers that pass, and nothing elsewhere
abbrev restricted : (ℕ → Bool) → Solution → Solution
restricted keep [] = []
restricted keep (x ∷ s) = cond (keep 0) x None ∷ restricted (λ v. keep (suc v)) s

length-restricted : (keep : ℕ → Bool) (s : Solution) → length (restricted keep s) ≡ length s
length-restricted keep [] = refl
length-restricted keep (x ∷ s) = ap suc (length-restricted (λ v. keep (suc v)) s)

lookup-restricted : (keep : ℕ → Bool) (s : Solution) (v : ℕ) → lookup (restricted keep s) v ≡ cond (keep v) (lookup s v) None
lookup-restricted keep [] v = sym (cond_both {A = Option Term} (keep v) None None (λ o. o ≡ None) (λ e. refl) (λ e. refl))
lookup-restricted keep (x ∷ s) zero = refl
lookup-restricted keep (x ∷ s) (suc v) = lookup-restricted (λ w. keep (suc w)) s v

same_kept : (b : Bool) (o : Option Term) (t : Term) → cond b o None ≡ Some t → o ≡ Some t
same_kept true o t h = h
same_kept false o t h = cc

or_kept : (b c : Bool) (o : Option Term) → (IsSome o → (b ≡ true) ⊎ (c ≡ true)) → option_or (cond b o None) (cond c o None) ≡ o
or_kept true true None h = refl
or_kept true false None h = refl
or_kept false true None h = refl
or_kept false false None h = refl
or_kept true c (Some t) h = refl
or_kept false true (Some t) h = refl
or_kept false false (Some t) h = ⊎_elim (λ e. absurd (true≢false (sym e))) (λ e. absurd (true≢false (sym e))) (h refl)

or_is_some : (o p : Option Term) → IsSome (option_or o p) → IsSome o ⊎ IsSome p
or_is_some None p h = inr h
or_is_some (Some t) p h = inl refl

none_if : (o : Option Term) → (IsSome o → ⊥) → o ≡ None
none_if None h = refl
none_if (Some t) h = absurd (h refl)

-- ---- lists of maps that are told by what they bind

-- a map of n places that binds numbers of these alone, and of which a fact holds
pub record IsMapOf (n : ℕ) (vs : List ℕ) (P : Solution → Type 0) (s : Solution) : Type 0 where
  pub size : length s ≡ n
  pub bound : (v : ℕ) → IsSome (lookup s v) → Contains vs v
  pub fact : P s

-- the list has these maps; the fact binds the numbers, and is about them alone
pub record Describes (n : ℕ) (vs : List ℕ) (P : Solution → Type 0) (ls : List Solution) : Type 0 where
  pub onto : (s : Solution) → Contains ls s → IsMapOf n vs P s
  pub back : (s : Solution) → IsMapOf n vs P s → Contains ls s
  pub binds : (s : Solution) → P s → (v : ℕ) → Contains vs v → IsSome (lookup s v)
  pub moves : (s t : Solution) → P s → ((v : ℕ) → Contains vs v → lookup t v ≡ lookup s v) → P t

kept_at : (vs : List ℕ) (s : Solution) (v : ℕ) → Contains vs v → lookup (restricted (has vs) s) v ≡ lookup s v
kept_at vs s v c = lookup-restricted (has vs) s v ∙ ap (λ b. cond b (lookup s v) None) ((is_member-Decides nat_test.decides vs v).1 c)

-- maps that bind the same at the numbers of both are one
pub same_bound : {n : ℕ} {vs : List ℕ} {P : Solution → Type 0} (s t : Solution) → IsMapOf n vs P s → IsMapOf n vs P t → ((v : ℕ) → Contains vs v → lookup s v ≡ lookup t v) → s ≡ t
same_bound {n} {vs} s t m k h = same_map s t (m.size ∙ sym k.size) (λ v. ⊎_elim
    (λ e. h v ((is_member-Decides nat_test.decides vs v).0 e))
    (λ e. none_if (lookup s v) (λ b. true≢false (sym ((is_member-Decides nat_test.decides vs v).1 (m.bound v b)) ∙ e)) ∙ sym (none_if (lookup t v) (λ b. true≢false (sym ((is_member-Decides nat_test.decides vs v).1 (k.bound v b)) ∙ e))))
    (cases_Bool (has vs v)))

pub one_distinct : (b : Bool) (x : Solution) → IsDistinct solution_eq (cond b (x ∷ []) [])
one_distinct true x = IsDistinct-cons solution_eq x [] (λ y c. absurd (Contains-none y c)) (IsDistinct-nil solution_eq)
one_distinct false x = IsDistinct-nil solution_eq

module _ {n : ℕ} {vs ws : List ℕ} {P Q : Solution → Type 0} {ls rs : List Solution} (d : Describes n vs P ls) (e : Describes n ws Q rs) where
  -- at the numbers of the first a merged map is the first, and at those of the second the second
  at_first : (l r : Solution) → P l → (v : ℕ) → Contains vs v → lookup (merge l r) v ≡ lookup l v
  at_first l r p v c = value_at-merge l r v ∙ or_some (lookup l v) (lookup r v) (d.binds l p v c)

  at_second : (l r : Solution) → AreCompatible l r → Q r → (v : ℕ) → Contains ws v → lookup (merge l r) v ≡ lookup r v
  at_second l r a q v c = value_at-merge l r v ∙ second_of (lookup l v) (lookup r v) (a v) (e.binds r q v c)
    where
      second_of : (o p : Option Term) → ((t u : Term) → o ≡ Some t → p ≡ Some u → t ≡ u) → IsSome p → option_or o p ≡ p
      second_of None p h k = refl
      second_of (Some t) (Some u) h k = ap Some (h t u refl refl)
      second_of (Some t) None h k = cc

  joined_map : (l r : Solution) → AreCompatible l r → IsMapOf n vs P l → IsMapOf n ws Q r → IsMapOf n (vs ++ ws) (λ s. P s × Q s) (merge l r)
  joined_map l r a m k = record {
    size = omega (arith, length-merge l r, m.size, k.size);
    bound = λ v h. ⊎_elim (λ b. Contains-append_left vs ws v (m.bound v b)) (λ b. Contains-append_right vs ws v (k.bound v b)) (or_is_some (lookup l v) (lookup r v) (subst IsSome (value_at-merge l r v) h));
    fact = (d.moves l (merge l r) m.fact (at_first l r m.fact), e.moves r (merge l r) k.fact (at_second l r a k.fact));
  }

  split_map : (s : Solution) → IsMapOf n (vs ++ ws) (λ s. P s × Q s) s → Contains (join ls rs) s
  split_map s m =
      let l = restricted (has vs) s in
      let r = restricted (has ws) s in
      let in_first : Contains ls l = d.back l (record {
        size = length-restricted (has vs) s ∙ m.size;
        bound = λ v h. (is_member-Decides nat_test.decides vs v).0 (some_if (has vs v) (lookup s v) (subst IsSome (lookup-restricted (has vs) s v) h)).0;
        fact = d.moves s l m.fact.0 (kept_at vs s);
      }) in
      let in_second : Contains rs r = e.back r (record {
        size = length-restricted (has ws) s ∙ m.size;
        bound = λ v h. (is_member-Decides nat_test.decides ws v).0 (some_if (has ws v) (lookup s v) (subst IsSome (lookup-restricted (has ws) s v) h)).0;
        fact = e.moves s r m.fact.1 (kept_at ws s);
      }) in
      let agree : AreCompatible l r = λ v t u f g.
      let first : lookup s v ≡ Some t = same_kept (has vs v) (lookup s v) t (sym (lookup-restricted (has vs) s v) ∙ f) in
      let second : lookup s v ≡ Some u = same_kept (has ws v) (lookup s v) u (sym (lookup-restricted (has ws) s v) ∙ g) in
      cc in
      let whole : merge l r ≡ s = same_map (merge l r) s (omega (arith, length-merge l r, length-restricted (has vs) s, length-restricted (has ws) s)) (λ v.
      value_at-merge l r v
      ∙ (λ i. option_or (lookup-restricted (has vs) s v i) (lookup-restricted (has ws) s v i))
      ∙ or_kept (has vs v) (has ws v) (lookup s v) (λ h. ⊎_elim (λ c. inl ((is_member-Decides nat_test.decides vs v).1 c)) (λ c. inr ((is_member-Decides nat_test.decides ws v).1 c)) (Contains-append_cases vs ws v (m.bound v h)))) in
      subst (Contains (join ls rs)) whole (Contains-join ls rs l r in_first in_second ((Decides-compatible terms_apart l r).1 agree))

  pub both_join : Describes n (vs ++ ws) (λ s. P s × Q s) (join ls rs)
  both_join = record {
    onto = λ s c. let pair = Contains-from_join ls rs s c in
        subst (IsMapOf n (vs ++ ws) (λ s. P s × Q s)) pair.is (joined_map pair.first pair.second ((Decides-compatible terms_apart pair.first pair.second).0 pair.agree) (d.onto pair.first pair.of_first) (e.onto pair.second pair.of_second));
    back = split_map;
    binds = λ s f v c. ⊎_elim (d.binds s f.0 v) (e.binds s f.1 v) (Contains-append_cases vs ws v c);
    moves = λ s t f h. (d.moves s t f.0 (λ v c. h v (Contains-append_left vs ws v c)), e.moves s t f.1 (λ v c. h v (Contains-append_right vs ws v c)));
  }

  pub once_join : IsDistinct solution_eq ls → IsDistinct solution_eq rs → IsDistinct solution_eq (join ls rs)
  once_join f g = IsDistinct-flat_map solution_test solution_test (λ l. flat_map (λ r. merged_if_compatible term_eq l r) rs) ls f
      (λ l c. IsDistinct-flat_map solution_test solution_test (λ r. merged_if_compatible term_eq l r) rs g
      (λ r k. one_distinct (compatible l r) (merge l r))
      (λ r t z k h a b. second_same l r t z (Contains-cond (compatible l r) (merge l r) z a) (Contains-cond (compatible l t) (merge l t) z b) k h))
      (λ l t z c k a b.
      let r = Contains-from_flat_map (λ r. merged_if_compatible term_eq l r) rs z a in
      let u = Contains-from_flat_map (λ r. merged_if_compatible term_eq t r) rs z b in
      let x = Contains-cond (compatible l r.0) (merge l r.0) z r.2 in
      let y = Contains-cond (compatible t u.0) (merge t u.0) z u.2 in
      let m = d.onto l c in
      let o = d.onto t k in
      same_bound l t m o (λ v h. sym (at_first l r.0 m.fact v h) ∙ ap (λ s. lookup s v) (x.1 ∙ sym y.1) ∙ at_first t u.0 o.fact v h))
    where
      second_same : (l r t z : Solution) → (compatible l r ≡ true) × (merge l r ≡ z) → (compatible l t ≡ true) × (merge l t ≡ z) → Contains rs r → Contains rs t → r ≡ t
      second_same l r t z x y k h =
          let m = e.onto r k in
          let o = e.onto t h in
          same_bound r t m o (λ v c. sym (at_second l r ((Decides-compatible terms_apart l r).0 x.0) m.fact v c) ∙ ap (λ s. lookup s v) (x.1 ∙ sym y.1) ∙ at_second l t ((Decides-compatible terms_apart l t).0 y.0) o.fact v c)
