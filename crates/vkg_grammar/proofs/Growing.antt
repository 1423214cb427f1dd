-- A derivation is a tree, and a tree is a derivation.
use Rattle.std.proofs.Common.{◌≡◌, ℕ, ◌<◌, ◌≤◌, ◌+◌, List, [], ◌∷◌, ◌++◌, length, drop, slice_get, Some, refl, ap, sym, ◌∙◌, subst, arith, append_assoc, zero, suc, ◌-◌}
use Rattle.std.specs.List.{AllZip, flat_map, sum_by}
use Rattle.std.proofs.lemmas.List.{append-nil, drop_all, length-drop}
use Rattle.std.proofs.lemmas.List.Sums.{sum_by-cons}
use Rattle.std.proofs.lemmas.Option.{get_or_from_slice_get, slice_get_within}
use Rattle.vkg_lists.proofs.Firsts.{opened}
use Rattle.vkg_lists.proofs.Heads.{head_same, tail_same}
use Rattle.vkg_grammar.specs.declared.rule.Rule.{Rule}
use Rattle.vkg_grammar.specs.declared.rule.Rule.TheVariants.{Empty, Then, Either, Optional, Repeated}
use Rattle.vkg_grammar.specs.declared.note.Act.{Act as Step}
use Rattle.vkg_grammar.specs.declared.note.Act.TheVariants.{Leaf, Nothing, Pair, First, Second}
use Rattle.vkg_grammar.specs.Decoding.{steps_of, decoded}
use Rattle.vkg_grammar.proofs.Decode.{decodes}
use Rattle.vkg_grammar.specs.Trees.{Tree, leaf, nothing, pair, first, second, size, IsFrom}
use Rattle.vkg_grammar.specs.OneTree.{rule, parts, IsTree, a_token, a_nothing, a_pair, a_first, a_second, IsTreeOf}
use Rattle.vkg_grammar.proofs.BySteps.{Derives, done, read, by}

abbrev AllFrom : ℕ → List Tree → Type 0
AllFrom at [] = Unit {0}
AllFrom at (t ∷ f) = IsFrom at t × AllFrom (at + size t) f

record Grown (g : List Rule) (kinds : List ℕ) (at : ℕ) (s : List ℕ) (q : List Step) : Type 0 where
  forest : List Tree
  trees : AllZip (IsTree g kinds) s forest
  from : AllFrom at forest
  steps : q ≡ flat_map steps_of forest
  all : at + sum_by size forest ≡ length kinds

-- what each step makes of the trees of its parts
arity_pair : (r : Rule) (n : ℕ) (xs : List ℕ) → parts r n Pair ≡ Some xs → (a : ℕ) × (b : ℕ) × (xs ≡ a ∷ b ∷ [])
arity_pair (Then a b) n xs e = (a, b, cc)
arity_pair (Repeated a) n xs e = (a, n, cc)
arity_pair r n xs e = absurd (cc)

arity_nothing : (r : Rule) (n : ℕ) (xs : List ℕ) → parts r n Nothing ≡ Some xs → xs ≡ []
arity_nothing Empty n xs e = cc
arity_nothing (Optional a) n xs e = cc
arity_nothing (Repeated a) n xs e = cc
arity_nothing r n xs e = absurd (cc)

arity_first : (r : Rule) (n : ℕ) (xs : List ℕ) → parts r n First ≡ Some xs → (a : ℕ) × (xs ≡ a ∷ [])
arity_first (Either a b) n xs e = (a, cc)
arity_first (Optional a) n xs e = (a, cc)
arity_first r n xs e = absurd (cc)

arity_second : (r : Rule) (n : ℕ) (xs : List ℕ) → parts r n Second ≡ Some xs → (a : ℕ) × (xs ≡ a ∷ [])
arity_second (Either a b) n xs e = (b, cc)
arity_second r n xs e = absurd (cc)

no_leaf : (r : Rule) (n : ℕ) (xs : List ℕ) → parts r n Leaf ≡ Some xs → ⊥
no_leaf Empty n xs e = absurd (cc)
no_leaf r n xs e = absurd (cc)

-- the first of what is left
first_left : (kinds ts : List ℕ) (at k : ℕ) → k ∷ ts ≡ drop at kinds → (slice_get kinds at ≡ Some k) × (ts ≡ drop (at + 1) kinds) × (at < length kinds)
first_left [] ts zero k e = absurd (cc)
first_left [] ts (suc at) k e = absurd (cc)
first_left (x ∷ kinds) ts zero k e = (ap (λ y. Some y) (sym (head_same k x ts kinds e)), tail_same k x ts kinds e, omega arith)
first_left (x ∷ kinds) ts (suc at) k e =
    let r = first_left kinds ts at k e in
    (r.0, r.1 ∙ ap (λ m. drop m (x ∷ kinds)) (let same : suc (at + 1) ≡ suc at + 1 = omega arith in same), omega (arith, r.2))

pair_up : {g : List Rule} {kinds s : List ℕ} {q : List Step} {n a b : ℕ} (at : ℕ) → parts (rule g n) n Pair ≡ Some (a ∷ b ∷ []) → Grown g kinds at (a ∷ b ∷ s) q → Grown g kinds at (n ∷ s) (Pair ∷ q)
pair_up {g = g} {kinds = kinds} {s = s} {q = q} {n = n} {a = a} {b = b} at p r = go r.forest r.trees r.from r.steps r.all
  where
    go : (f : List Tree) → AllZip (IsTree g kinds) (a ∷ b ∷ s) f → AllFrom at f → q ≡ flat_map steps_of f → at + sum_by size f ≡ length kinds → Grown g kinds at (n ∷ s) (Pair ∷ q)
    go [] ts h e l = absurd ts
    go (x ∷ []) ts h e l = absurd ts.1
    go (x ∷ y ∷ f) ts h e l =
        record {
          forest = pair x y ∷ f;
          trees = (a_pair p ts.0 ts.1.0, ts.1.1);
          from = ((h.0, h.1.0), subst (λ m. AllFrom m f) (let same : at + size x + size y ≡ at + (size x + size y) = omega arith in same) h.1.1);
          steps = ap (λ z. Pair ∷ z) (e ∙ sym (append_assoc (steps_of x) (steps_of y) (flat_map steps_of f)));
          all = omega (arith, l, sum_by-cons size x (y ∷ f), sum_by-cons size y f, sum_by-cons size (pair x y) f);
        }

single_up : {g : List Rule} {kinds s : List ℕ} {q : List Step} {n a : ℕ} (at : ℕ) (step : Step) (up : Tree → Tree) → ((x : Tree) → IsTree g kinds a x → IsTree g kinds n (up x)) → ((m : ℕ) (x : Tree) → IsFrom m x → IsFrom m (up x)) → ((x : Tree) → size (up x) ≡ size x) → ((x : Tree) → steps_of (up x) ≡ step ∷ steps_of x) → Grown g kinds at (a ∷ s) q → Grown g kinds at (n ∷ s) (step ∷ q)
single_up {g = g} {kinds = kinds} {s = s} {q = q} {n = n} {a = a} at step up is from same_size same_steps r = go r.forest r.trees r.from r.steps r.all
  where
    go : (f : List Tree) → AllZip (IsTree g kinds) (a ∷ s) f → AllFrom at f → q ≡ flat_map steps_of f → at + sum_by size f ≡ length kinds → Grown g kinds at (n ∷ s) (step ∷ q)
    go [] ts h e l = absurd ts
    go (x ∷ f) ts h e l =
        record {
          forest = up x ∷ f;
          trees = (is x ts.0, ts.1);
          from = (from at x h.0, subst (λ m. AllFrom (at + m) f) (sym (same_size x)) h.1);
          steps = ap (λ z. step ∷ z) e ∙ ap (λ z. z ++ flat_map steps_of f) (sym (same_steps x));
          all = omega (arith, l, same_size x, sum_by-cons size x f, sum_by-cons size (up x) f);
        }

grow : {g : List Rule} {kinds s ts : List ℕ} {q : List Step} → Derives g s ts q → (at : ℕ) → at ≤ length kinds → ts ≡ drop at kinds → Grown g kinds at s q
grow {kinds = kinds} done at h e = record { forest = []; trees = tt; from = tt; steps = refl; all = (let left : 0 ≡ length kinds - at = ap length e ∙ length-drop at kinds in omega (arith, h, left)) }
grow {g = g} {kinds = kinds} (read {k = k} {s = s} {ts = ts} {q = q} p d) at h e =
    let f = first_left kinds ts at k e in
    let r : Grown g kinds (at + 1) s q = grow d (at + 1) (omega (arith, f.2)) f.1 in
    record { forest = leaf at ∷ r.forest; trees = (a_token p f.0, r.trees); from = (refl, r.from); steps = ap (λ z. Leaf ∷ z) r.steps; all = omega (arith, r.all, sum_by-cons size (leaf at) r.forest) }
grow {g = g} {kinds = kinds} (by {n = n} {step = Pair} {xs = xs} {s = s} {q = q} p d) at h e =
    let r = arity_pair (rule g n) n xs p in
    pair_up at (p ∙ ap (λ y. Some y) r.2) (subst (λ y. Grown g kinds at (y ++ s) q) r.2 (grow d at h e))
grow {g = g} {kinds = kinds} (by {n = n} {step = First} {xs = xs} {s = s} {q = q} p d) at h e =
    let r = arity_first (rule g n) n xs p in
    single_up at First first (λ x t. a_first (p ∙ ap (λ y. Some y) r.1) t) (λ m x i. i) (λ x. refl) (λ x. refl) (subst (λ y. Grown g kinds at (y ++ s) q) r.1 (grow d at h e))
grow {g = g} {kinds = kinds} (by {n = n} {step = Second} {xs = xs} {s = s} {q = q} p d) at h e =
    let r = arity_second (rule g n) n xs p in
    single_up at Second second (λ x t. a_second (p ∙ ap (λ y. Some y) r.1) t) (λ m x i. i) (λ x. refl) (λ x. refl) (subst (λ y. Grown g kinds at (y ++ s) q) r.1 (grow d at h e))
grow {g = g} {kinds = kinds} (by {n = n} {step = Nothing} {xs = xs} {s = s} {q = q} p d) at h e =
    let w = arity_nothing (rule g n) n xs p in
    let r : Grown g kinds at s q = subst (λ y. Grown g kinds at (y ++ s) q) w (grow d at h e) in
    record { forest = nothing ∷ r.forest; trees = (a_nothing (p ∙ ap (λ y. Some y) w), r.trees); from = (tt, subst (λ m. AllFrom m r.forest) (let same : at ≡ at + 0 = omega arith in same) r.from); steps = ap (λ z. Nothing ∷ z) r.steps; all = omega (arith, r.all, sum_by-cons size nothing r.forest) }
grow {g = g} (by {n = n} {step = Leaf} {xs = xs} p d) at h e = absurd (no_leaf (rule g n) n xs p)

-- a derivation of a text is its tree
pub has_tree : {g : List Rule} {kinds : List ℕ} {q : List Step} → Derives g (0 ∷ []) kinds q → (t : Tree) × IsTreeOf g kinds t × (q ≡ steps_of t)
has_tree {g = g} {kinds = kinds} {q = q} d = let r : Grown g kinds 0 (0 ∷ []) q = grow d 0 (omega arith) refl in go r.forest r.trees r.from r.steps r.all
  where
    go : (f : List Tree) → AllZip (IsTree g kinds) (0 ∷ []) f → AllFrom 0 f → q ≡ flat_map steps_of f → 0 + sum_by size f ≡ length kinds → (t : Tree) × IsTreeOf g kinds t × (q ≡ steps_of t)
    go [] ts h e l = absurd ts
    go (x ∷ y ∷ f) ts h e l = absurd ts.1
    go (x ∷ []) ts h e l = (x, record { is = ts.0; from = h.0; all = omega (arith, l, sum_by-cons size x []) }, e ∙ append-nil (steps_of x))

-- and back
pub sown : {g : List Rule} {kinds s : List ℕ} {q : List Step} {n : ℕ} {t : Tree} (at : ℕ) → IsTree g kinds n t → IsFrom at t → Derives g s (drop (at + size t) kinds) q → Derives g (n ∷ s) (drop at kinds) (steps_of t ++ q)
sown {g = g} {kinds = kinds} {s = s} {q = q} {n = n} at (a_token {k = k} {i = i} p o) h d =
    let here : slice_get kinds at ≡ Some k = ap (λ m. slice_get kinds m) (sym h) ∙ o in
    let e = opened kinds at k (slice_get_within kinds at k here) (sym (get_or_from_slice_get kinds at k k here)) in
    subst (λ ts. Derives g (n ∷ s) ts (Leaf ∷ q)) (sym e) (read p d)
sown {g = g} {kinds = kinds} {s = s} {q = q} at (a_nothing p) h d = by p (subst (λ m. Derives g s (drop m kinds) q) (let same : at + 0 ≡ at = omega arith in same) d)
sown at (a_first p t) h d = by p (sown at t h d)
sown at (a_second p t) h d = by p (sown at t h d)
sown {g = g} {kinds = kinds} {s = s} {q = q} at (a_pair {a = a} {b = b} {x = x} {y = y} p tx ty) h d =
    let back : Derives g (b ∷ s) (drop (at + size x) kinds) (steps_of y ++ q) = sown (at + size x) ty h.1 (subst (λ m. Derives g s (drop m kinds) q) (let same : at + (size x + size y) ≡ at + size x + size y = omega arith in same) d) in
    by p (subst (λ z. Derives g (a ∷ b ∷ s) (drop at kinds) z) (sym (append_assoc (steps_of x) (steps_of y) q)) (sown at tx h.0 back))

pub derives : {g : List Rule} {kinds : List ℕ} {t : Tree} → IsTreeOf g kinds t → Derives g (0 ∷ []) kinds (steps_of t)
derives {g = g} {kinds = kinds} {t = t} w =
    let d : Derives g (0 ∷ []) kinds (steps_of t ++ []) = sown 0 w.is w.from (subst (λ ts. Derives g [] ts []) (sym (drop_all (0 + size t) kinds (omega (arith, w.all)))) done) in
    subst (λ z. Derives g (0 ∷ []) kinds z) (append-nil (steps_of t)) d

-- a text of which there is one derivation has one tree
pub one_tree : {g : List Rule} {kinds : List ℕ} {t u : Tree} → ((p q : List Step) → Derives g (0 ∷ []) kinds p → Derives g (0 ∷ []) kinds q → p ≡ q) → IsTreeOf g kinds t → IsTreeOf g kinds u → t ≡ u
one_tree {kinds = kinds} {t = t} {u = u} only w v =
    let n = length kinds in
    let e : steps_of t ≡ steps_of u = only (steps_of t) (steps_of u) (derives w) (derives v) in
    let a = decodes n 0 t [] w.from (let same : n ≡ 0 + size t = omega (arith, w.all) in same) in
    let b = decodes n 0 u [] v.from (let same : n ≡ 0 + size u = omega (arith, v.all) in same) in
    head_same t u [] [] (sym a.1 ∙ ap (λ q. (decoded n (q ++ [])).trees) e ∙ b.1)
