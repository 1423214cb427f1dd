-- What may follow a symbol, by the table.
use Rattle.std.proofs.Common.{◌≡◌, ℕ, zero, suc, ◌+◌, ◌*◌, ◌<◌, ◌≤◌, Bool, false, ◌⊎◌, inl, inr, List, [], ◌∷◌, ◌++◌, length, Option, Some, None, refl, ap, sym, ◌∙◌, subst, append_assoc, arith, replicate}
use Rattle.std.proofs.lemmas.Bool.{cases_lt}
use Rattle.std.proofs.lemmas.List.{take_all, length-replicate}
use Rattle.std.proofs.Math.ListN.{get_or-eq_default}
use Rattle.vkg_lists.specs.Lists.{AllBelow}
use Rattle.vkg_lists.proofs.Members.{recursion_right}
use Rattle.vkg_grammar.specs.declared.rule.Rule.{Rule}
use Rattle.vkg_grammar.specs.declared.rule.Rule.TheVariants.{Token}
use Rattle.vkg_grammar.specs.Grammar.{Shape, One, Parts, Choice, shape_of, MayFollow, within, at_end, IsWay, the_parts, the_first, the_second, IsGrammar, IsProductive}
use Rattle.vkg_grammar.specs.Rank.{column, rank_in, Begins, IsTable}
use Rattle.vkg_grammar.specs.Machine.{at_token, at_end_of}
use Rattle.vkg_grammar.specs.Tables.{seen_at, IsRound, PlaceFollows, ShapeFollows, HasPlace, FollowReason, IsFollowTable}
use Rattle.vkg_grammar.proofs.Core.{ahead_empty, ahead_begin}
use Rattle.vkg_grammar.proofs.Heights.{ahead_begins, begins_ahead}
use Rattle.vkg_grammar.proofs.Rounds.{cell_why, cell_done, out_of_range, zero_rank, never_past, cell_at}

-- a way's symbol has a rule
pub way_inside : {g : List Rule} {m : ℕ} {xs : List ℕ} → IsWay g m xs → m < length g
way_inside {g = g} {m = m} w = elim (cases_lt (column (seen_at m)) (length g)) [ inl h ↦ inside m h | inr h ↦ absurd (none (past m h) w) ]
  where
    inside : (m : ℕ) → column (seen_at m) < length g → m < length g
    inside zero h = h
    inside (suc m) h = omega arith

    past : (m : ℕ) → length g ≤ column (seen_at m) → shape_of g m ≡ One 0
    past zero h = rw (get_or-eq_default g (Token 0) h) refl
    past (suc m) h = rw (get_or-eq_default g (Token 0) (let h' : length g ≤ suc m = omega arith in h')) refl

    none : {xs : List ℕ} → shape_of g m ≡ One 0 → IsWay g m xs → ⊥
    none e (the_parts q) = cc
    none e (the_first q) = cc
    none e (the_second q) = cc

-- What is found to follow does.
abbrev pub IsSound : List Rule → List ℕ → ℕ → Type 0
IsSound g follow width = (n : ℕ) (c : Option ℕ) → n < length g → 0 < rank_in follow width n c → (k : ℕ) × (c ≡ Some k) × MayFollow g n k

module _ (g : List Rule) (rank : ℕ → Option ℕ → ℕ) (wf : IsGrammar g) (prod : IsProductive g) (table : IsTable g rank) where
  place_sound : (m n : ℕ) (c : Option ℕ) (behind : Type 0) (before xs : List ℕ) → IsWay g m (before ++ xs) → AllBelow (length g) xs → (behind → (k : ℕ) × (c ≡ Some k) × MayFollow g m k) → PlaceFollows rank behind n c xs → (k : ℕ) × (c ≡ Some k) × MayFollow g n k
  place_sound m n c behind before [] w b so p = absurd p
  place_sound m n c behind before (x ∷ xs) w b so (inl (e, inl (k, q, s))) =
      (k, q, within m before xs (subst (λ y. IsWay g m (before ++ y ∷ xs)) e w) (ahead_begin (ahead_begins g rank xs wf prod table b.1 (subst (λ y. Begins rank y xs) q s))))
  place_sound m n c behind before (x ∷ xs) w b so (inl (e, inr (s, p))) =
      let f : (k : ℕ) × (c ≡ Some k) × MayFollow g m k = so p in
      (f.0, f.1, at_end m before xs (subst (λ y. IsWay g m (before ++ y ∷ xs)) e w) (ahead_empty (ahead_begins g rank xs wf prod table b.1 s)) f.2)
  place_sound m n c behind before (x ∷ xs) w b so (inr p) = place_sound m n c behind (before ++ x ∷ []) xs (subst (IsWay g m) (sym (append_assoc before (x ∷ []) xs)) w) b.1 so p

  shape_sound : (m n : ℕ) (c : Option ℕ) (behind : Type 0) (sh : Shape) → m < length g → shape_of g m ≡ sh → (behind → (k : ℕ) × (c ≡ Some k) × MayFollow g m k) → ShapeFollows rank behind n c sh → (k : ℕ) × (c ≡ Some k) × MayFollow g n k
  shape_sound m n c behind (One k) h e so p = absurd p
  shape_sound m n c behind (Parts xs) h e so p = place_sound m n c behind [] xs (the_parts e) (wf.closed m xs h (the_parts e)) so p
  shape_sound m n c behind (Choice xs ys) h e so (inl p) = place_sound m n c behind [] xs (the_first e) (wf.closed m xs h (the_first e)) so p
  shape_sound m n c behind (Choice xs ys) h e so (inr p) = place_sound m n c behind [] ys (the_second e) (wf.closed m ys h (the_second e)) so p

  place_here : (n k : ℕ) (behind : Type 0) (before after : List ℕ) → Begins rank (Some k) after ⊎ (Begins rank None after × behind) → PlaceFollows rank behind n (Some k) (before ++ n ∷ after)
  place_here n k behind [] after (inl b) = inl (refl, inl (k, refl, b))
  place_here n k behind [] after (inr p) = inl (refl, inr p)
  place_here n k behind (x ∷ before) after p = inr (place_here n k behind before after p)

  shape_here : {m : ℕ} {zs : List ℕ} (n k : ℕ) (behind : Type 0) → IsWay g m zs → PlaceFollows rank behind n (Some k) zs → ShapeFollows rank behind n (Some k) (shape_of g m)
  shape_here n k behind (the_parts e) p = subst (ShapeFollows rank behind n (Some k)) (sym e) p
  shape_here n k behind (the_first e) p = subst (ShapeFollows rank behind n (Some k)) (sym e) (inl p)
  shape_here n k behind (the_second e) p = subst (ShapeFollows rank behind n (Some k)) (sym e) (inr p)

  pub follows_found : {n k : ℕ} (follow : List ℕ) (width : ℕ) → ((n : ℕ) (c : Option ℕ) → n < length g → HasPlace g rank follow width n c → 0 < rank_in follow width n c) → MayFollow g n k → 0 < rank_in follow width n (Some k)
  follows_found {n = n} {k = k} follow width closed (within m before after w b) =
      let h : m < length g = way_inside w in
      let mid : (n < length g) × AllBelow (length g) after = recursion_right (λ k. k < length g) before (n ∷ after) (wf.closed m (before ++ n ∷ after) h w) in
      let s : Begins rank (Some k) after = begins_ahead g rank wf table mid.1 (record { tokens = k ∷ b.0; ways = b.1; sees = at_token; derives = b.2 }) in
      closed n (Some k) mid.0 (m, h, shape_here n k (0 < rank_in follow width m (Some k)) w (place_here n k (0 < rank_in follow width m (Some k)) before after (inl s)))
  follows_found {n = n} {k = k} follow width closed (at_end m before after w e f) =
      let h : m < length g = way_inside w in
      let mid : (n < length g) × AllBelow (length g) after = recursion_right (λ k. k < length g) before (n ∷ after) (wf.closed m (before ++ n ∷ after) h w) in
      let s : Begins rank None after = begins_ahead g rank wf table mid.1 (record { tokens = []; ways = e.0; sees = at_end_of; derives = e.1 }) in
      let more : 0 < rank_in follow width m (Some k) = follows_found follow width closed f in
      closed n (Some k) mid.0 (m, h, shape_here n k (0 < rank_in follow width m (Some k)) w (place_here n k (0 < rank_in follow width m (Some k)) before after (inr (s, more))))

place_behind : {A B : Type 0} (rank : ℕ → Option ℕ → ℕ) (n : ℕ) (c : Option ℕ) (xs : List ℕ) → (A → B) → PlaceFollows rank A n c xs → PlaceFollows rank B n c xs
place_behind rank n c [] f p = absurd p
place_behind rank n c (x ∷ xs) f (inl (e, inl s)) = inl (e, inl s)
place_behind rank n c (x ∷ xs) f (inl (e, inr (s, a))) = inl (e, inr (s, f a))
place_behind rank n c (x ∷ xs) f (inr p) = inr (place_behind rank n c xs f p)

pub shape_behind : {A B : Type 0} (rank : ℕ → Option ℕ → ℕ) (n : ℕ) (c : Option ℕ) (sh : Shape) → (A → B) → ShapeFollows rank A n c sh → ShapeFollows rank B n c sh
shape_behind rank n c (One k) f p = absurd p
shape_behind rank n c (Parts xs) f p = place_behind rank n c xs f p
shape_behind rank n c (Choice xs ys) f (inl p) = inl (place_behind rank n c xs f p)
shape_behind rank n c (Choice xs ys) f (inr p) = inr (place_behind rank n c ys f p)

-- What holds before each round.
pub record IsFollowing (g : List Rule) (w : ℕ) (t : List ℕ) : Type 0 where
  pub size : length t ≡ w * length g
  pub sound : IsSound g t w

pub follow_begun : {g : List Rule} (w : ℕ) (t : List ℕ) → t ≡ replicate (w * length g) 0 → IsFollowing g w t
follow_begun {g = g} w t e = subst (IsFollowing g w) (sym e) (record { size = length-replicate (w * length g) 0; sound = λ n c h p. absurd (let z : rank_in (replicate (w * length g) 0) w n c ≡ 0 = zero_rank (w * length g) w n c in omega arith) })

pub follow_next : {g : List Rule} {changed : Bool} (rank : ℕ → Option ℕ → ℕ) (w : ℕ) (old new : List ℕ) → IsGrammar g → IsProductive g → IsTable g rank → IsFollowing g w old → IsRound (FollowReason g rank w old) 1 old new (length old) changed → IsFollowing g w new
follow_next {g = g} rank w old new wf prod table a r = record { size = r.size ∙ a.size; sound = λ n c h p. sound n c h p (cases_lt (column c) w) }
  where
    by_reason : (n : ℕ) (c : Option ℕ) → n < length g → (0 < rank_in old w n c) ⊎ ((rank_in new w n c ≡ 1) × HasPlace g rank old w n c) → (k : ℕ) × (c ≡ Some k) × MayFollow g n k
    by_reason n c h (inl p) = a.sound n c h p
    by_reason n c h (inr (e, (m, hm, s))) = shape_sound g rank wf prod table m n c (0 < rank_in old w m c) (shape_of g m) hm refl (a.sound m c hm) s

    sound : (n : ℕ) (c : Option ℕ) → n < length g → 0 < rank_in new w n c → (column c < w) ⊎ (w ≤ column c) → (k : ℕ) × (c ≡ Some k) × MayFollow g n k
    sound n c h p (inr out) = absurd (let z : rank_in new w n c ≡ 0 = out_of_range new w n c out in omega arith)
    sound n c h p (inl col) = by_reason n c h (cell_why (cell_at (λ n c. HasPlace g rank old w n c) (length g) w 1 old new n c a.size h col r) p)

past_place : (w n m : ℕ) (c : Option ℕ) (t follow xs : List ℕ) → w ≤ column c → 0 < w → PlaceFollows (rank_in t w) (0 < rank_in follow w m c) n c xs → ⊥
past_place w n m c t follow [] out pos p = p
past_place w n m c t follow (x ∷ xs) out pos (inl (e, inl (k, q, b))) = never_past w c t xs out pos b
past_place w n m c t follow (x ∷ xs) out pos (inl (e, inr (b, p))) = let z : rank_in follow w m c ≡ 0 = out_of_range follow w m c out in omega arith
past_place w n m c t follow (x ∷ xs) out pos (inr p) = past_place w n m c t follow xs out pos p

past_shape : (w n m : ℕ) (c : Option ℕ) (t follow : List ℕ) (sh : Shape) → w ≤ column c → 0 < w → ShapeFollows (rank_in t w) (0 < rank_in follow w m c) n c sh → ⊥
past_shape w n m c t follow (One k) out pos p = p
past_shape w n m c t follow (Parts xs) out pos p = past_place w n m c t follow xs out pos p
past_shape w n m c t follow (Choice xs ys) out pos (inl p) = past_place w n m c t follow xs out pos p
past_shape w n m c t follow (Choice xs ys) out pos (inr p) = past_place w n m c t follow ys out pos p

pub follow_done : {g : List Rule} {changed : Bool} (t : List ℕ) (w : ℕ) (old new : List ℕ) → IsGrammar g → IsProductive g → IsTable g (rank_in t w) → 0 < w → IsFollowing g w old → IsRound (FollowReason g (rank_in t w) w old) 1 old new (length old) changed → changed ≡ false → IsFollowTable g w old
follow_done {g = g} t w old new wf prod table wide a r e = λ n k h. ((λ p. of_sound k (a.sound n (Some k) h p)), follows_found g (rank_in t w) wf prod table old w (λ n c h s. closed n c h s (cases_lt (column c) w)))
  where
    of_sound : {n : ℕ} (k : ℕ) → (j : ℕ) × (Some k ≡ Some j) × MayFollow g n j → MayFollow g n k
    of_sound {n = n} k (j, e, f) = let same : j ≡ k = cc in subst (MayFollow g n) same f

    same : new ≡ old
    same = r.same e ∙ take_all (length old) old (omega arith)

    closed : (n : ℕ) (c : Option ℕ) → n < length g → HasPlace g (rank_in t w) old w n c → (column c < w) ⊎ (w ≤ column c) → 0 < rank_in old w n c
    closed n c h s (inl col) = cell_done (cell_at (λ n c. HasPlace g (rank_in t w) old w n c) (length g) w 1 old new n c a.size h col r) (ap (λ y. rank_in y w n c) same) (omega arith) s
    closed n c h (m, hm, s) (inr out) = absurd (past_shape w n m c t old (shape_of g m) out wide s)
