-- What the rounds keep.
use Rattle.std.proofs.Common.{◌↔◌, IsTrue, ◌≡◌, ℕ, zero, suc, ◌+◌, ◌*◌, ◌/◌, ◌%◌, ◌<◌, ◌≤◌, Bool, true, false, cond, ◌⊎◌, inl, inr, List, [], ◌∷◌, ◌++◌, length, get_or, take, Option, Some, None, refl, ap, sym, ◌∙◌, subst, arith, add-one, below_more, lt-ltb, le-ltb, replicate, nat_eq}
use Rattle.std.proofs.lemmas.Bool.{cases_lt, both_ways, ne_eqb}
use Rattle.std.proofs.lemmas.List.{length-replicate, get_or_push}
use Rattle.std.proofs.lemmas.List.{get_or_append_left, length_push, take_more, take_all}
use Rattle.std.proofs.lemmas.List.Sums.{count_by-le-length}
use Rattle.std.proofs.lemmas.Nat.{mul-add-lt, div-mul-add, mod-mul-add}
use Rattle.vkg_lists.specs.Lists.{AllBelow}
use Rattle.vkg_lists.proofs.Counts.{count_by-append, count_by-cons}
use Rattle.vkg_lists.proofs.Heads.{replicate_same}
use Rattle.vkg_grammar.specs.declared.rule.Rule.{Rule}
use Rattle.vkg_grammar.specs.Grammar.{Shape, One, Parts, Choice, shape_of, IsGrammar, the_parts, the_first, the_second}
use Rattle.vkg_grammar.specs.Rank.{column, rank_in, Begins, ShapeBegins, Falls, falls_end, falls_here, falls_later, ShapeFalls, IsTable}
use Rattle.vkg_grammar.specs.Tables.{HasColumns, seen_at, IsNextCell, stays, comes, waits, zeros, IsRound, BeginReason}

-- what is found is found for a reason found before
pub record IsFounded (g : List Rule) (rank : ℕ → Option ℕ → ℕ) (stamp : ℕ) : Type 0 where
  pub falls : (n : ℕ) (c : Option ℕ) → n < length g → 0 < rank n c → ShapeFalls rank (rank n c) c (shape_of g n)
  pub below : (n : ℕ) (c : Option ℕ) → n < length g → rank n c < stamp

-- the place of a cell leads back to its symbol and column
pub column_inside : (w i : ℕ) → i < w → column (seen_at i) < w
column_inside w zero h = h
column_inside w (suc i) h = rw add-one h

zeros_one : (v : ℕ) → zeros (v ∷ []) ≤ 1
zeros_one v = count_by-le-length (λ x. nat_eq x 0) (v ∷ [])

zeros_some : (v : ℕ) → (v ≡ 0 → ⊥) → zeros (v ∷ []) ≡ 0
zeros_some v h = ap (λ b. 0 + cond b 1 0) (ne_eqb v 0 h)

cell_zeros : {reason : Type 0} {stamp old v : ℕ} → IsNextCell reason stamp old v → zeros (v ∷ []) ≤ zeros (old ∷ [])
cell_zeros (stays h) = omega arith
cell_zeros {v = v} (comes b) = zeros_one v
cell_zeros (waits b) = omega arith

cell_fewer : {reason : Type 0} {stamp old v : ℕ} → IsNextCell reason stamp old v → (v ≡ old → ⊥) → zeros (v ∷ []) < zeros (old ∷ [])
cell_fewer (stays h) d = absurd (d refl)
cell_fewer {v = v} (comes b) d = rw (zeros_some v d) (omega arith)
cell_fewer (waits b) d = absurd (d refl)

pub round_step : (reason : ℕ → Type 0) (stamp : ℕ) (old new : List ℕ) (i value : ℕ) (changed changed' : Bool) → i < length old → IsRound reason stamp old new i changed → IsNextCell (reason i) stamp (get_or old i 0) value → ((value ≡ get_or old i 0 → ⊥) × (changed' ≡ true)) ⊎ ((value ≡ get_or old i 0) × (changed' ≡ changed)) → IsRound reason stamp old (new ++ value ∷ []) (i + 1) changed'
round_step reason stamp old new i value changed changed' h r cell d =
    let next : take (i + 1) old ≡ take i old ++ get_or old i 0 ∷ [] = take_more old i 0 h in
    let new_zeros : zeros (new ++ value ∷ []) ≡ zeros new + zeros (value ∷ []) = count_by-append (λ x. nat_eq x 0) new (value ∷ []) in
    let old_zeros : zeros (take (i + 1) old) ≡ zeros (take i old) + zeros (get_or old i 0 ∷ []) = ap zeros next ∙ count_by-append (λ x. nat_eq x 0) (take i old) (get_or old i 0 ∷ []) in
    let no_more : zeros (value ∷ []) ≤ zeros (get_or old i 0 ∷ []) = cell_zeros cell in
    record {
      size = omega (arith, length_push new value, r.size);
      cells = below_more (λ j. IsNextCell (reason j) stamp (get_or old j 0) (get_or (new ++ value ∷ []) j 0)) i
          (λ j lt. rw (get_or_append_left new (value ∷ []) 0 j (omega (arith, r.size))) (r.cells j lt))
          (rw (get_or_push new value 0 i r.size) cell);
      same = λ e. same_end d e r.same next;
      fewer = omega (arith, r.fewer);
      changes = λ e. elim d [ inl p ↦ (let less : zeros (value ∷ []) < zeros (get_or old i 0 ∷ []) = cell_fewer cell p.0 in omega (arith, r.fewer)) | inr p ↦ (let less : zeros new < zeros (take i old) = r.changes (sym p.1 ∙ e) in omega arith) ];
    }
  where
    same_end : ((value ≡ get_or old i 0 → ⊥) × (changed' ≡ true)) ⊎ ((value ≡ get_or old i 0) × (changed' ≡ changed)) → changed' ≡ false → (changed ≡ false → new ≡ take i old) → take (i + 1) old ≡ take i old ++ get_or old i 0 ∷ [] → new ++ value ∷ [] ≡ take (i + 1) old
    same_end (inl p) e same next = absurd (let q : changed' ≡ true = p.1 in cc)
    same_end (inr p) e same next = let q : new ≡ take i old = same (sym p.1 ∙ e) in let v : value ≡ get_or old i 0 = p.0 in cc

pub next_comes : (reason : Type 0) {stamp old : ℕ} {b : Bool} → old ≡ 0 → b ≡ true → IsTrue b ↔ reason → IsNextCell reason stamp old stamp
next_comes reason {stamp = stamp} z t b = subst (λ y. IsNextCell reason stamp y stamp) (sym z) (comes (b.0 t))

pub next_waits : (reason : Type 0) {stamp old : ℕ} {b : Bool} → old ≡ 0 → b ≡ false → IsTrue b ↔ reason → IsNextCell reason stamp old 0
next_waits reason {stamp = stamp} {b = b} z f iff = subst (λ y. IsNextCell reason stamp y 0) (sym z) (waits (λ s. both_ways b f (iff.1 s)))

-- cells of the table
pub in_range : (t : List ℕ) (w n : ℕ) (c : Option ℕ) → column c < w → rank_in t w n c ≡ get_or t (n * w + column c) 0
in_range t w n c h = rw (lt-ltb (column c) w h) refl

pub out_of_range : (t : List ℕ) (w n : ℕ) (c : Option ℕ) → w ≤ column c → rank_in t w n c ≡ 0
out_of_range t w n c h = rw (le-ltb (column c) w h) refl

pub seen_column : (c : Option ℕ) → seen_at (column c) ≡ c
seen_column None = refl
seen_column (Some k) = rw add-one refl

-- a cell of a round
pub cell_at : (R : ℕ → Option ℕ → Type 0) {changed : Bool} (m w stamp : ℕ) (old new : List ℕ) (n : ℕ) (c : Option ℕ) → length old ≡ w * m → n < m → column c < w → IsRound (λ i. R (i / w) (seen_at (i % w))) stamp old new (length old) changed → IsNextCell (R n c) stamp (rank_in old w n c) (rank_in new w n c)
cell_at R m w stamp old new n c size h col r =
    let inside : n * w + column c < length old = rw size (mul-add-lt n w (column c) m h col) in
    let reason : R ((n * w + column c) / w) (seen_at ((n * w + column c) % w)) ≡ R n c = ap (λ y. R y (seen_at ((n * w + column c) % w))) (div-mul-add n w (column c) col) ∙ ap (R n) (ap seen_at (mod-mul-add n w (column c) col) ∙ seen_column c) in
    let cell : IsNextCell (R ((n * w + column c) / w) (seen_at ((n * w + column c) % w))) stamp (get_or old (n * w + column c) 0) (get_or new (n * w + column c) 0) = r.cells (n * w + column c) inside in
    rw (in_range old w n c col, in_range new w n c col) (subst (λ y. IsNextCell y stamp (get_or old (n * w + column c) 0) (get_or new (n * w + column c) 0)) reason cell)

pub cell_kept : {reason : Type 0} {stamp old v : ℕ} → IsNextCell reason stamp old v → 0 < old → v ≡ old
cell_kept (stays h) p = refl
cell_kept (comes b) p = absurd (omega arith)
cell_kept (waits b) p = refl

pub cell_why : {reason : Type 0} {stamp old v : ℕ} → IsNextCell reason stamp old v → 0 < v → (0 < old) ⊎ ((v ≡ stamp) × reason)
cell_why (stays h) p = inl p
cell_why (comes b) p = inr (refl, b)
cell_why (waits b) p = absurd (omega arith)

cell_at_most : {reason : Type 0} {stamp old v : ℕ} → IsNextCell reason stamp old v → old < stamp → v < stamp + 1
cell_at_most (stays h) p = omega arith
cell_at_most (comes b) p = omega arith
cell_at_most (waits b) p = omega arith

pub cell_done : {reason : Type 0} {stamp old v : ℕ} → IsNextCell reason stamp old v → v ≡ old → 0 < stamp → reason → 0 < old
cell_done (stays h) e p s = h
cell_done (comes b) e p s = absurd (omega arith)
cell_done (waits b) e p s = absurd (b s)

-- two tables, of which the second keeps what the first has
module _ (m : ℕ) (rank rank' : ℕ → Option ℕ → ℕ) (kept : (n : ℕ) (c : Option ℕ) → n < m → 0 < rank n c → rank' n c ≡ rank n c) where
  falls_kept : {r : ℕ} {c : Option ℕ} {xs : List ℕ} → AllBelow m xs → Falls rank r c xs → Falls rank' r c xs
  falls_kept b falls_end = falls_end
  falls_kept b (falls_here {k = k} {x = x} p q) = let e : rank' x (Some k) ≡ rank x (Some k) = kept x (Some k) b.0 p in falls_here (omega arith) (omega arith)
  falls_kept b (falls_later {x = x} p q f) = let e : rank' x None ≡ rank x None = kept x None b.0 p in falls_later (omega arith) (omega arith) (falls_kept b.1 f)

  falls_found : {stamp : ℕ} {c : Option ℕ} (xs : List ℕ) → AllBelow m xs → ((n : ℕ) (c : Option ℕ) → n < m → rank n c < stamp) → Begins rank c xs → Falls rank' stamp c xs
  falls_found {stamp = stamp} [] b lt e = subst (λ y. Falls rank' stamp y []) (sym e) falls_end
  falls_found {stamp = stamp} (x ∷ xs) b lt (inl (k, e, p)) = let q : rank' x (Some k) ≡ rank x (Some k) = kept x (Some k) b.0 p in let l : rank x (Some k) < stamp = lt x (Some k) b.0 in subst (λ y. Falls rank' stamp y (x ∷ xs)) (sym e) (falls_here (omega arith) (omega arith))
  falls_found {stamp = stamp} (x ∷ xs) b lt (inr (p, q)) = let e : rank' x None ≡ rank x None = kept x None b.0 p in let l : rank x None < stamp = lt x None b.0 in falls_later (omega arith) (omega arith) (falls_found xs b.1 lt q)

shape_kept : {g : List Rule} {n : ℕ} (r : ℕ) (c : Option ℕ) (rank rank' : ℕ → Option ℕ → ℕ) → IsGrammar g → n < length g → ((n : ℕ) (c : Option ℕ) → n < length g → 0 < rank n c → rank' n c ≡ rank n c) → (sh : Shape) → shape_of g n ≡ sh → ShapeFalls rank r c sh → ShapeFalls rank' r c sh
shape_kept r c rank rank' w h kept (One k) e f = f
shape_kept {g = g} {n = n} r c rank rank' w h kept (Parts xs) e f = falls_kept (length g) rank rank' kept (w.closed n xs h (the_parts e)) f
shape_kept {g = g} {n = n} r c rank rank' w h kept (Choice xs ys) e (inl f) = inl (falls_kept (length g) rank rank' kept (w.closed n xs h (the_first e)) f)
shape_kept {g = g} {n = n} r c rank rank' w h kept (Choice xs ys) e (inr f) = inr (falls_kept (length g) rank rank' kept (w.closed n ys h (the_second e)) f)

shape_found : {g : List Rule} {n stamp : ℕ} (c : Option ℕ) (rank rank' : ℕ → Option ℕ → ℕ) → IsGrammar g → n < length g → ((n : ℕ) (c : Option ℕ) → n < length g → 0 < rank n c → rank' n c ≡ rank n c) → ((n : ℕ) (c : Option ℕ) → n < length g → rank n c < stamp) → (sh : Shape) → shape_of g n ≡ sh → ShapeBegins rank c sh → ShapeFalls rank' stamp c sh
shape_found c rank rank' w h kept lt (One k) e f = f
shape_found {g = g} {n = n} c rank rank' w h kept lt (Parts xs) e f = falls_found (length g) rank rank' kept xs (w.closed n xs h (the_parts e)) lt f
shape_found {g = g} {n = n} c rank rank' w h kept lt (Choice xs ys) e (inl f) = inl (falls_found (length g) rank rank' kept xs (w.closed n xs h (the_first e)) lt f)
shape_found {g = g} {n = n} c rank rank' w h kept lt (Choice xs ys) e (inr f) = inr (falls_found (length g) rank rank' kept ys (w.closed n ys h (the_second e)) lt f)

pub founded_next : {g : List Rule} {changed : Bool} (w stamp : ℕ) (old new : List ℕ) → IsGrammar g → length old ≡ w * length g → 0 < stamp → IsFounded g (rank_in old w) stamp → IsRound (BeginReason g w old) stamp old new (length old) changed → IsFounded g (rank_in new w) (stamp + 1)
founded_next {g = g} w stamp old new wf size pos f r = record { falls = λ n c h p. falls n c h p (cases_lt (column c) w); below = λ n c h. below n c h (cases_lt (column c) w) }
  where
    kept : (n : ℕ) (c : Option ℕ) → n < length g → 0 < rank_in old w n c → rank_in new w n c ≡ rank_in old w n c
    kept n c h p = elim (cases_lt (column c) w) [
      | inl col ↦ cell_kept (cell_at (λ n c. ShapeBegins (rank_in old w) c (shape_of g n)) (length g) w stamp old new n c size h col r) p
      | inr out ↦ out_of_range new w n c out ∙ sym (out_of_range old w n c out)
    ]

    below : (n : ℕ) (c : Option ℕ) → n < length g → (column c < w) ⊎ (w ≤ column c) → rank_in new w n c < stamp + 1
    below n c h (inl col) = cell_at_most (cell_at (λ n c. ShapeBegins (rank_in old w) c (shape_of g n)) (length g) w stamp old new n c size h col r) (f.below n c h)
    below n c h (inr out) = rw (out_of_range new w n c out) (omega arith)

    falls : (n : ℕ) (c : Option ℕ) → n < length g → 0 < rank_in new w n c → (column c < w) ⊎ (w ≤ column c) → ShapeFalls (rank_in new w) (rank_in new w n c) c (shape_of g n)
    falls n c h p (inr out) = absurd (let z : rank_in new w n c ≡ 0 = out_of_range new w n c out in omega arith)
    falls n c h p (inl col) = elim (cell_why (cell_at (λ n c. ShapeBegins (rank_in old w) c (shape_of g n)) (length g) w stamp old new n c size h col r) p) [
      | inl q ↦ subst (λ y. ShapeFalls (rank_in new w) y c (shape_of g n)) (sym (kept n c h q)) (shape_kept (rank_in old w n c) c (rank_in old w) (rank_in new w) wf h kept (shape_of g n) refl (f.falls n c h q))
      | inr q ↦ subst (λ y. ShapeFalls (rank_in new w) y c (shape_of g n)) (sym q.0) (shape_found c (rank_in old w) (rank_in new w) wf h kept f.below (shape_of g n) refl q.1)
    ]

pub never_past : (w : ℕ) (c : Option ℕ) (t xs : List ℕ) → w ≤ column c → 0 < w → Begins (rank_in t w) c xs → ⊥
never_past w c t [] out pos e = let z : column c ≡ 0 = ap column e in omega arith
never_past w c t (x ∷ xs) out pos (inl (k, e, p)) = let z : rank_in t w x (Some k) ≡ 0 = out_of_range t w x (Some k) (subst (λ y. w ≤ column y) e out) in omega arith
never_past w c t (x ∷ xs) out pos (inr (p, q)) = never_past w c t xs out pos q

pub finished : {g : List Rule} {changed : Bool} (w stamp : ℕ) (old new : List ℕ) → IsGrammar g → HasColumns g w → 0 < w → length old ≡ w * length g → 0 < stamp → IsFounded g (rank_in old w) stamp → IsRound (BeginReason g w old) stamp old new (length old) changed → changed ≡ false → IsTable g (rank_in old w)
finished {g = g} w stamp old new wf cols wide size pos f r e = record { falls = f.falls; closed = λ n c h s. closed n c h s (cases_lt (column c) w) }
  where
    same : new ≡ old
    same = r.same e ∙ take_all (length old) old (omega arith)

    past : (c : Option ℕ) (n : ℕ) (sh : Shape) → n < length g → shape_of g n ≡ sh → w ≤ column c → ShapeBegins (rank_in old w) c sh → ⊥
    past c n (One k) h q out s = let l : k + 1 < w = cols n k h q in let z : column c ≡ k + 1 = ap column s in omega arith
    past c n (Parts xs) h q out s = never_past w c old xs out wide s
    past c n (Choice xs ys) h q out (inl s) = never_past w c old xs out wide s
    past c n (Choice xs ys) h q out (inr s) = never_past w c old ys out wide s

    closed : (n : ℕ) (c : Option ℕ) → n < length g → ShapeBegins (rank_in old w) c (shape_of g n) → (column c < w) ⊎ (w ≤ column c) → 0 < rank_in old w n c
    closed n c h s (inl col) = cell_done (cell_at (λ n c. ShapeBegins (rank_in old w) c (shape_of g n)) (length g) w stamp old new n c size h col r) (ap (λ y. rank_in y w n c) same) pos s
    closed n c h s (inr out) = absurd (past c n (shape_of g n) h refl out s)

-- a round that changes a cell leaves fewer empty
pub round_fewer : (reason : ℕ → Type 0) {changed : Bool} {stamp : ℕ} (old new : List ℕ) → IsRound reason stamp old new (length old) changed → changed ≡ true → zeros new < zeros old
round_fewer reason old new r e = let less : zeros new < zeros (take (length old) old) = r.changes e in let all : zeros (take (length old) old) ≡ zeros old = ap zeros (take_all (length old) old (omega arith)) in omega arith

pub zeros_replicate : (n : ℕ) → zeros (replicate n 0) ≡ n
zeros_replicate zero = refl
zeros_replicate (suc n) = count_by-cons (λ x. nat_eq x 0) 0 (replicate n 0) ∙ omega (arith, zeros_replicate n)

pub zero_rank : (m w n : ℕ) (c : Option ℕ) → rank_in (replicate m 0) w n c ≡ 0
zero_rank m w n c = elim (cases_lt (column c) w) [ inl col ↦ in_range (replicate m 0) w n c col ∙ replicate_same {A = ℕ} m (n * w + column c) 0 | inr out ↦ out_of_range (replicate m 0) w n c out ]

-- What holds before each round.
pub record IsBegun (g : List Rule) (w stamp : ℕ) (table : List ℕ) : Type 0 where
  pub founded : IsFounded g (rank_in table w) stamp
  pub size : length table ≡ w * length g
  pub room : stamp + zeros table ≤ w * length g + 1
  pub positive : 0 < stamp

pub begun : {g : List Rule} (w : ℕ) (table : List ℕ) → table ≡ replicate (w * length g) 0 → IsBegun g w 1 table
begun {g = g} w table e = subst (λ y. IsBegun g w 1 y) (sym e) (record {
  founded = record { falls = λ n c h p. absurd (let z : rank_in (replicate (w * length g) 0) w n c ≡ 0 = zero_rank (w * length g) w n c in omega arith); below = λ n c h. rw (zero_rank (w * length g) w n c) (omega arith) };
  size = length-replicate (w * length g) 0;
  room = omega (arith, zeros_replicate (w * length g));
  positive = omega arith;
})

pub begun_next : {g : List Rule} {changed : Bool} (w stamp : ℕ) (old new : List ℕ) → IsGrammar g → IsBegun g w stamp old → IsRound (BeginReason g w old) stamp old new (length old) changed → changed ≡ true → IsBegun g w (stamp + 1) new × (zeros new < zeros old)
begun_next {g = g} w stamp old new wf b r e =
    let less : zeros new < zeros old = round_fewer (BeginReason g w old) old new r e in
    (record { founded = founded_next w stamp old new wf b.size b.positive b.founded r; size = r.size ∙ b.size; room = omega (arith, b.room); positive = omega arith }, less)
