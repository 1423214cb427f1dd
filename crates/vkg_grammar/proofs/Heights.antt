-- What the table says, and why the parser ends.
use Rattle.std.proofs.Common.{◌≡◌, ℕ, zero, suc, ◌+◌, ◌*◌, ◌^◌, ◌<◌, ◌≤◌, ◌⊎◌, inl, inr, List, [], ◌∷◌, ◌++◌, length, get_or, Option, Some, None, refl, ap, sym, subst, append-nil, arith}
use Rattle.std.proofs.Math.Logic.{⊎_swap}
use Rattle.std.proofs.Math.Nat.{eq-zero-or-pos, one-le-pow, pow-le-pow_right, pow-succ'}
use Rattle.std.specs.Prelude.{IfSome}
use Rattle.std.specs.List.{AllByRecursion}
use Rattle.vkg_lists.proofs.Members.{recursion_append, recursion_from_each}
use Rattle.vkg_lists.specs.Lists.{AllBelow}
use Rattle.vkg_grammar.specs.declared.note.Note.{Note}
use Rattle.vkg_grammar.specs.declared.note.Act.TheVariants.{Leaf}
use Rattle.vkg_grammar.specs.declared.rule.Rule.{Rule}
use Rattle.vkg_grammar.specs.declared.rule.Rule.TheVariants.{Token, Empty, Then, Either, Optional, Repeated}
use Rattle.vkg_grammar.specs.Machine.{Sees, at_end_of, at_token, Ahead, Picked, begins, empties}
use Rattle.vkg_grammar.specs.Grammar.{noted, Shape, One, Parts, Choice, shape, shape_of, Derives, done, read, parts, first, second, MayBeEmpty, MayBegin, IsWay, the_parts, the_first, the_second, within, IsLL1, IsProductive, IsGrammar}
use Rattle.vkg_grammar.specs.Rank.{Begins, ShapeBegins, Falls, falls_end, falls_here, falls_later, ShapeFalls, IsTable, at_rank, height}
use Rattle.vkg_grammar.proofs.Core.{spelled, join, ahead_empty, ahead_begin, Apart, apart, apart_other}
use Rattle.vkg_grammar.proofs.Outer.{completed}
use Rattle.vkg_grammar.proofs.Clash.{one_or_follows}

tri_pos : (n : ℕ) → 0 < 3 ^ n
tri_pos n = one-le-pow n 3 (omega arith)

tri_less : (a b : ℕ) → a < b → 3 * 3 ^ a ≤ 3 ^ b
tri_less a b h = subst (λ m. m ≤ 3 ^ b) (pow-succ' 3 a) (pow-le-pow_right {n = 3} (omega arith) {i = suc a} {j = b} h)

at_pos : (r other : ℕ) → 0 < r → at_rank r other ≡ 3 ^ r
at_pos zero other h = absurd (omega arith)
at_pos (suc r) other h = refl

-- A way has at most two symbols.
pub data Short : List ℕ → Type 0 where
  short0 : Short []
  short1 : (x : ℕ) → Short (x ∷ [])
  short2 : (x y : ℕ) → Short (x ∷ y ∷ [])

pub data ShortShape : Shape → Type 0 where
  short_one : {k : ℕ} → ShortShape (One k)
  short_parts : {xs : List ℕ} → Short xs → ShortShape (Parts xs)
  short_choice : {xs ys : List ℕ} → Short xs → Short ys → ShortShape (Choice xs ys)

short_rule : (n : ℕ) (r : Rule) → ShortShape (shape n r)
short_rule n (Token k) = short_one
short_rule n Empty = short_parts short0
short_rule n (Then a b) = short_parts (short2 a b)
short_rule n (Either a b) = short_choice (short1 a) (short1 b)
short_rule n (Optional a) = short_choice (short1 a) short0
short_rule n (Repeated a) = short_choice (short2 a n) short0

short_of_parts : {xs : List ℕ} → ShortShape (Parts xs) → Short xs
short_of_parts (short_parts s) = s

short_of_first : {xs ys : List ℕ} → ShortShape (Choice xs ys) → Short xs
short_of_first (short_choice s t) = s

short_of_second : {xs ys : List ℕ} → ShortShape (Choice xs ys) → Short ys
short_of_second (short_choice s t) = t

pub short_way : {g : List Rule} {n : ℕ} {xs : List ℕ} → IsWay g n xs → Short xs
short_way {g = g} {n = n} (the_parts e) = short_of_parts (subst ShortShape e (short_rule n (get_or g n (Token 0))))
short_way {g = g} {n = n} (the_first e) = short_of_first (subst ShortShape e (short_rule n (get_or g n (Token 0))))
short_way {g = g} {n = n} (the_second e) = short_of_second (subst ShortShape e (short_rule n (get_or g n (Token 0))))

module _ (g : List Rule) (rank : ℕ → Option ℕ → ℕ) where
  -- what the table finds is so
  ahead_falls : {r : ℕ} {c : Option ℕ} {xs : List ℕ} → IsProductive g → ((x : ℕ) (c : Option ℕ) → x < length g → rank x c < r → 0 < rank x c → Ahead g (x ∷ []) c) → AllBelow (length g) xs → Falls rank r c xs → Ahead g xs c
  ahead_falls ll again b falls_end = record { tokens = []; ways = []; sees = at_end_of; derives = done }
  ahead_falls ll again b (falls_here {k = k} {x = x} {xs = xs} p q) =
      let here : MayBegin g (x ∷ []) k = ahead_begin (again x (Some k) b.0 q p) in
      let more : (ts : List ℕ) × (ws : List Note) × Derives g xs ts ws = completed ll xs b.1 in
      record { tokens = k ∷ (here.0 ++ more.0); ways = here.1 ++ more.1; sees = at_token; derives = join here.2 more.2 }
  ahead_falls ll again b (falls_later {c = c} {x = x} {xs = xs} p q f) =
      let here : MayBeEmpty g (x ∷ []) = ahead_empty (again x None b.0 q p) in
      let more : Ahead g xs c = ahead_falls ll again b.1 f in
      record { tokens = more.tokens; ways = here.0 ++ more.ways; sees = more.sees; derives = join here.1 more.derives }

  way_ahead : {c : Option ℕ} {n : ℕ} {xs : List ℕ} → ((ts : List ℕ) (ws : List Note) → Derives g (xs ++ []) ts ws → (vs : List Note) × Derives g (n ∷ []) ts vs) → Ahead g xs c → Ahead g (n ∷ []) c
  way_ahead {xs = xs} up a =
      let d : (vs : List Note) × Derives g _ a.tokens vs = up a.tokens _ (spelled (append-nil a.tokens) (join a.derives done)) in
      record { tokens = a.tokens; ways = d.0; sees = a.sees; derives = d.1 }

  shape_ahead : {n : ℕ} {c : Option ℕ} {r : ℕ} (sh : Shape) → IsGrammar g → IsProductive g → n < length g → ((x : ℕ) (c : Option ℕ) → x < length g → rank x c < r → 0 < rank x c → Ahead g (x ∷ []) c) → shape_of g n ≡ sh → ShapeFalls rank r c sh → Ahead g (n ∷ []) c
  shape_ahead {n = n} (One k) w ll h again e f = subst (λ c. Ahead g (n ∷ []) c) (sym f) (record { tokens = k ∷ []; ways = noted n Leaf ∷ []; sees = at_token; derives = read e done })
  shape_ahead {n = n} (Parts xs) w ll h again e f = way_ahead (λ ts ws d. (_, parts e d)) (ahead_falls ll again (w.closed n xs h (the_parts e)) f)
  shape_ahead {n = n} (Choice xs ys) w ll h again e f = elim f [
    | inl p ↦ way_ahead (λ ts ws d. (_, first e d)) (ahead_falls ll again (w.closed n xs h (the_first e)) p)
    | inr p ↦ way_ahead (λ ts ws d. (_, second e d)) (ahead_falls ll again (w.closed n ys h (the_second e)) p)
  ]

  sound_by : (b n : ℕ) (c : Option ℕ) → IsGrammar g → IsProductive g → IsTable g rank → n < length g → rank n c < b → 0 < rank n c → Ahead g (n ∷ []) c
  sound_by zero n c w ll t h lt pos = absurd (omega arith)
  sound_by (suc b) n c w ll t h lt pos = shape_ahead (shape_of g n) w ll h (λ x c' h' lt' pos'. sound_by b x c' w ll t h' (omega arith) pos') refl (t.falls n c h pos)

  pub sound : {n : ℕ} {c : Option ℕ} → IsGrammar g → IsProductive g → IsTable g rank → n < length g → 0 < rank n c → Ahead g (n ∷ []) c
  sound {n = n} {c = c} w ll t h pos = sound_by (suc (rank n c)) n c w ll t h (omega arith) pos

  -- what is so the table finds
  begins_append : {c : Option ℕ} (xs s : List ℕ) → Begins rank c (xs ++ s) → ((k : ℕ) × (c ≡ Some k) × Begins rank c xs) ⊎ (Begins rank None xs × Begins rank c s)
  begins_append [] s b = inr (refl, b)
  begins_append (x ∷ xs) s (inl (k, e, p)) = inl (k, e, inl (k, e, p))
  begins_append (x ∷ xs) s (inr (p, b)) = elim (begins_append xs s b) [ inl (k, e, q) ↦ inl (k, e, inr (p, q)) | inr (q, q') ↦ inr (inr (p, q), q') ]

  on_top : {c : Option ℕ} {n : ℕ} (xs s : List ℕ) → ((c : Option ℕ) → Begins rank c xs → 0 < rank n c) → Begins rank c (xs ++ s) → Begins rank c (n ∷ s)
  on_top {c = c} {n = n} xs s up b = elim (begins_append xs s b) [
    | inl (k, e, q) ↦ inl (k, e, subst (λ y. 0 < rank n y) e (up c q))
    | inr (q, q') ↦ inr (up None q, q')
  ]

  begins_of : {s ts : List ℕ} {ws : List Note} (c : Option ℕ) → IsGrammar g → IsTable g rank → AllBelow (length g) s → Sees c ts → Derives g s ts ws → Begins rank c s
  begins_of c w t b at_end_of done = refl
  begins_of c w t b at_token (read {n = n} {k = k} {s = s} q d) = inl (k, refl, t.closed n (Some k) b.0 (subst (λ y. ShapeBegins rank (Some k) y) (sym q) refl))
  begins_of c w t b see (parts {n = n} {xs = xs} {s = s} q d) = on_top xs s (λ c' p. t.closed n c' b.0 (subst (λ y. ShapeBegins rank c' y) (sym q) p)) (begins_of c w t (recursion_append (λ k. k < length g) xs s (w.closed n xs b.0 (the_parts q)) b.1) see d)
  begins_of c w t b see (first {n = n} {xs = xs} {s = s} q d) = on_top xs s (λ c' p. t.closed n c' b.0 (subst (λ y. ShapeBegins rank c' y) (sym q) (inl p))) (begins_of c w t (recursion_append (λ k. k < length g) xs s (w.closed n xs b.0 (the_first q)) b.1) see d)
  begins_of c w t b see (second {n = n} {ys = xs} {s = s} q d) = on_top xs s (λ c' p. t.closed n c' b.0 (subst (λ y. ShapeBegins rank c' y) (sym q) (inr p))) (begins_of c w t (recursion_append (λ k. k < length g) xs s (w.closed n xs b.0 (the_second q)) b.1) see d)

  pub begins_ahead : {c : Option ℕ} {xs : List ℕ} → IsGrammar g → IsTable g rank → AllBelow (length g) xs → Ahead g xs c → Begins rank c xs
  begins_ahead {c = c} w t b a = begins_of c w t b a.sees a.derives

  pub ahead_begins : {c : Option ℕ} (xs : List ℕ) → IsGrammar g → IsProductive g → IsTable g rank → AllBelow (length g) xs → Begins rank c xs → Ahead g xs c
  ahead_begins [] w ll t b e = subst (λ y. Ahead g [] y) (sym e) (record { tokens = []; ways = []; sees = at_end_of; derives = done })
  ahead_begins (x ∷ xs) w ll t b (inl (k, e, p)) =
      let here : MayBegin g (x ∷ []) k = ahead_begin (sound w ll t b.0 p) in
      let more : (ts : List ℕ) × (ws : List Note) × Derives g xs ts ws = completed ll xs b.1 in
      subst (λ y. Ahead g (x ∷ xs) y) (sym e) (record { tokens = k ∷ (here.0 ++ more.0); ways = here.1 ++ more.1; sees = at_token; derives = join here.2 more.2 })
  ahead_begins {c = c} (x ∷ xs) w ll t b (inr (p, q)) =
      let here : MayBeEmpty g (x ∷ []) = ahead_empty (sound w ll t b.0 p) in
      let more : Ahead g xs c = ahead_begins xs w ll t b.1 q in
      record { tokens = more.tokens; ways = here.0 ++ more.ways; sees = more.sees; derives = join here.1 more.derives }

  pub complete : {n : ℕ} {c : Option ℕ} → IsGrammar g → IsTable g rank → n < length g → Ahead g (n ∷ []) c → 0 < rank n c
  complete {n = n} {c = c} w t h a = elim (begins_ahead w t (h, tt) a) [ inl (k, e, p) ↦ subst (λ y. 0 < rank n y) (sym e) p | inr (p, e) ↦ subst (λ y. 0 < rank n y) (sym e) p ]

  -- why the parser ends
  abbrev QuietAt : Option ℕ → ℕ → Type 0
  QuietAt c x = IfSome c (λ k. rank x (Some k) ≡ 0)

  abbrev Quiet : Option ℕ → List ℕ → Type 0
  Quiet c xs = AllByRecursion (QuietAt c) xs

  skip : (c : Option ℕ) (x : ℕ) (s : List ℕ) → QuietAt c x → height rank c (x ∷ s) ≡ 3 ^ rank x None + height rank c s
  skip None x s q = refl
  skip (Some k) x s q = ap (λ r. at_rank r (3 ^ rank x None + height rank (Some k) s)) q

  later_of : {r x : ℕ} {xs : List ℕ} → Falls rank r None (x ∷ xs) → (0 < rank x None) × (rank x None < r) × Falls rank r None xs
  later_of (falls_later p q f) = (p, q, f)

  here_or_later : {r k x : ℕ} {xs : List ℕ} → Falls rank r (Some k) (x ∷ xs) → ((0 < rank x (Some k)) × (rank x (Some k) < r)) ⊎ ((0 < rank x None) × (rank x None < r) × Falls rank r (Some k) xs)
  here_or_later (falls_here p q) = inl (p, q)
  here_or_later (falls_later p q f) = inr (p, q, f)

  none_here : {r k : ℕ} → Falls rank r (Some k) [] → ⊥
  none_here f = elim f [ ]

  none_drop : (r : ℕ) (c : Option ℕ) (s xs : List ℕ) → Short xs → Falls rank r None xs → Quiet c xs → height rank c (xs ++ s) < 3 ^ r + height rank c s
  none_drop r c s [] sh f q = omega (arith, tri_pos r)
  none_drop r c s (x ∷ []) sh f q =
      let p : (0 < rank x None) × (rank x None < r) × Falls rank r None [] = later_of f in
      rw (skip c x s q.0) (omega (arith, tri_less (rank x None) r p.1, tri_pos r, tri_pos (rank x None)))
  none_drop r c s (x ∷ y ∷ []) sh f q =
      let p : (0 < rank x None) × (rank x None < r) × Falls rank r None (y ∷ []) = later_of f in
      let p' : (0 < rank y None) × (rank y None < r) × Falls rank r None [] = later_of p.2 in
      rw (skip c x (y ∷ s) q.0, skip c y s q.1.0) (omega (arith, tri_less (rank x None) r p.1, tri_less (rank y None) r p'.1, tri_pos r, tri_pos (rank x None)))
  none_drop r c s (x ∷ y ∷ z ∷ xs) sh f q = elim sh [ ]

  some_drop : (r k : ℕ) (s xs : List ℕ) → Short xs → Falls rank r (Some k) xs → ((x y : ℕ) → xs ≡ x ∷ y ∷ [] → 0 < rank x None → 0 < rank y (Some k) → rank x (Some k) ≡ 0) → height rank (Some k) (xs ++ s) < 3 ^ r
  some_drop r k s [] sh f never = absurd (none_here f)
  some_drop r k s (x ∷ []) sh f never = elim (here_or_later f) [
    | inl p ↦ rw (at_pos (rank x (Some k)) (3 ^ rank x None + height rank (Some k) s) p.0) (omega (arith, tri_less (rank x (Some k)) r p.1, tri_pos (rank x (Some k))))
    | inr p ↦ absurd (none_here p.2)
  ]
  some_drop r k s (x ∷ y ∷ []) sh f never = elim (here_or_later f) [
    | inl p ↦ rw (at_pos (rank x (Some k)) (3 ^ rank x None + height rank (Some k) (y ∷ s)) p.0) (omega (arith, tri_less (rank x (Some k)) r p.1, tri_pos (rank x (Some k))))
    | inr p ↦ elim (here_or_later p.2) [
      | inl p' ↦ rw (skip (Some k) x (y ∷ s) (never x y refl p.0 p'.0), at_pos (rank y (Some k)) (3 ^ rank y None + height rank (Some k) s) p'.0) (omega (arith, tri_less (rank x None) r p.1, tri_less (rank y (Some k)) r p'.1, tri_pos (rank x None)))
      | inr p' ↦ absurd (none_here p'.2)
    ]
  ]
  some_drop r k s (x ∷ y ∷ z ∷ xs) sh f never = elim sh [ ]

  quiet_of : {r : ℕ} (k : ℕ) (xs : List ℕ) → Falls rank r None xs → (Begins rank (Some k) xs → ⊥) → Quiet (Some k) xs
  quiet_of k [] f never = tt
  quiet_of k (x ∷ xs) f never =
      let p : (0 < rank x None) × (rank x None < _) × Falls rank _ None xs = later_of f in (
        elim (eq-zero-or-pos (rank x (Some k))) [ inl z ↦ z | inr h ↦ absurd (never (inl (k, refl, h))) ],
        quiet_of k xs p.2 (λ b. never (inr (p.0, b))),
      )

  falls_begins : {r : ℕ} {c : Option ℕ} {xs : List ℕ} → Falls rank r c xs → Begins rank c xs
  falls_begins falls_end = refl
  falls_begins (falls_here {k = k} p q) = inl (k, refl, p)
  falls_begins (falls_later p q f) = inr (p, falls_begins f)

  -- Why a step from n into xs brings the next token nearer.
  data Nearer (n : ℕ) (xs : List ℕ) : Option ℕ → Type 0 where
    by_kind : {c : Option ℕ} → Falls rank (rank n c) c xs → 0 < rank n c → Nearer n xs c
    by_nothing : {k : ℕ} → rank n (Some k) ≡ 0 → Falls rank (rank n None) None xs → (Begins rank (Some k) xs → ⊥) → Nearer n xs (Some k)

  no_clash : {n k : ℕ} (xs : List ℕ) → IsGrammar g → IsLL1 g → IsTable g rank → n < length g → IsWay g n xs → (x y : ℕ) → xs ≡ x ∷ y ∷ [] → 0 < rank x None → 0 < rank y (Some k) → rank x (Some k) ≡ 0
  no_clash {n = n} {k = k} xs w ll t h way x y e p q =
      let way' : IsWay g n (x ∷ y ∷ []) = subst (λ z. IsWay g n z) e way in
      let b : AllBelow (length g) (x ∷ y ∷ []) = w.closed n (x ∷ y ∷ []) h way' in
      elim (eq-zero-or-pos (rank x (Some k))) [ inl z ↦ z | inr pos ↦ absurd (one_or_follows w ll b.0 (ahead_empty (sound w ll.productive t b.0 p)) (within n [] (y ∷ []) way' (ahead_begin (sound w ll.productive t b.1.0 q))) (ahead_begin (sound w ll.productive t b.0 pos))) ]

  nearer_drop : {n : ℕ} {xs : List ℕ} {c : Option ℕ} (s : List ℕ) → IsGrammar g → IsLL1 g → IsTable g rank → n < length g → IsWay g n xs → Nearer n xs c → height rank c (xs ++ s) < height rank c (n ∷ s)
  nearer_drop {n = n} {xs = xs} {c = c} s w ll t h way (by_kind f pos) = by_column c f pos
    where
      by_column : (c : Option ℕ) → Falls rank (rank n c) c xs → 0 < rank n c → height rank c (xs ++ s) < height rank c (n ∷ s)
      by_column None f pos = none_drop (rank n None) None s xs (short_way way) f (recursion_from_each (QuietAt None) xs (λ x m. tt))
      by_column (Some k) f pos = rw (at_pos (rank n (Some k)) (3 ^ rank n None + height rank (Some k) s) pos) (some_drop (rank n (Some k)) k s xs (short_way way) f (no_clash xs w ll t h way))
  nearer_drop {n = n} {xs = xs} s w ll t h way (by_nothing {k = k} z f never) =
      rw (skip (Some k) n s z) (none_drop (rank n None) (Some k) s xs (short_way way) f (quiet_of k xs f never))

  -- what the test before a step says: by the table, n begins with c or may be empty
  parts_nearer : {n : ℕ} {xs : List ℕ} (c : Option ℕ) → IsTable g rank → n < length g → shape_of g n ≡ Parts xs → (0 < rank n c) ⊎ (0 < rank n None) → Nearer n xs c
  parts_nearer {n = n} {xs = xs} c t h e d = by_test c (eq-zero-or-pos (rank n c)) d
    where
      at : (c : Option ℕ) → 0 < rank n c → Falls rank (rank n c) c xs
      at c pos = let f : ShapeFalls rank (rank n c) c (Parts xs) = subst (λ y. ShapeFalls rank (rank n c) c y) e (t.falls n c h pos) in f

      by_test : (c : Option ℕ) → (rank n c ≡ 0) ⊎ (0 < rank n c) → (0 < rank n c) ⊎ (0 < rank n None) → Nearer n xs c
      by_test c (inr pos) d = by_kind (at c pos) pos
      by_test None (inl z) d = absurd (elim d [ inl p ↦ omega arith | inr p ↦ omega arith ])
      by_test (Some k) (inl z) (inl p) = absurd (omega arith)
      by_test (Some k) (inl z) (inr p) = by_nothing z (at None p) (λ b. let pos : 0 < rank n (Some k) = t.closed n (Some k) h (subst (λ y. ShapeBegins rank (Some k) y) (sym e) b) in omega arith)

  pub parts_drop : {n : ℕ} {xs : List ℕ} (c : Option ℕ) (s : List ℕ) → IsGrammar g → IsLL1 g → IsTable g rank → n < length g → shape_of g n ≡ Parts xs → (0 < rank n c) ⊎ (0 < rank n None) → height rank c (xs ++ s) < height rank c (n ∷ s)
  parts_drop c s w ll t h e d = nearer_drop s w ll t h (the_parts e) (parts_nearer c t h e d)

  -- the other way has no reason to be taken
  not_both : {n : ℕ} {xs ys : List ℕ} {c : Option ℕ} → Apart g n xs ys → Ahead g xs c → Ahead g ys c → ⊥
  not_both {c = None} a p q = a.empty (ahead_empty p) (ahead_empty q)
  not_both {c = Some k} a p q = a.begins k (inl (ahead_begin p)) (inl (ahead_begin q))

  choice_nearer : {n : ℕ} {xs ys : List ℕ} {c : Option ℕ} → IsGrammar g → IsLL1 g → IsTable g rank → Apart g n xs ys → AllBelow (length g) xs → AllBelow (length g) ys → Picked g xs ys c → ((c : Option ℕ) → 0 < rank n c → Falls rank (rank n c) c xs ⊎ Falls rank (rank n c) c ys) → ((c : Option ℕ) → Begins rank c xs → 0 < rank n c) → (0 < rank n c) ⊎ (0 < rank n None) → Nearer n xs c
  choice_nearer {n = n} {xs = xs} {ys = ys} {c = c} w ll t a bx b p falls up d = by_test (eq-zero-or-pos (rank n c)) p d
    where
      by_test : {c : Option ℕ} → (rank n c ≡ 0) ⊎ (0 < rank n c) → Picked g xs ys c → (0 < rank n c) ⊎ (0 < rank n None) → Nearer n xs c
      by_test {c = c} (inr pos) (begins h) d = elim (falls c pos) [ inl f ↦ by_kind f pos | inr f ↦ absurd (not_both a h (ahead_begins ys w ll.productive t b (falls_begins f))) ]
      by_test {c = c} (inr pos) (empties {k = k} e never) d = elim (falls (Some k) pos) [ inl f ↦ by_kind f pos | inr f ↦ absurd (never (ahead_begin (ahead_begins ys w ll.productive t b (falls_begins f)))) ]
      by_test {c = c} (inl z) (begins h) d = let pos : 0 < rank n c = up c (begins_ahead w t bx h) in absurd (omega arith)
      by_test (inl z) (empties {k = k} e never) (inl pos) = absurd (omega arith)
      by_test (inl z) (empties {k = k} e never) (inr pos) = elim (falls None pos) [
        | inl f ↦ by_nothing z f (λ q. let pos' : 0 < rank n (Some k) = up (Some k) q in omega arith)
        | inr f ↦ absurd (a.empty e (ahead_empty (ahead_begins ys w ll.productive t b (falls_begins f))))
      ]

  choice_falls : {n : ℕ} {xs ys : List ℕ} → IsTable g rank → n < length g → shape_of g n ≡ Choice xs ys → (c : Option ℕ) → 0 < rank n c → Falls rank (rank n c) c xs ⊎ Falls rank (rank n c) c ys
  choice_falls {n = n} {xs = xs} {ys = ys} t h e c pos = let f : ShapeFalls rank (rank n c) c (Choice xs ys) = subst (λ y. ShapeFalls rank (rank n c) c y) e (t.falls n c h pos) in f

  choice_up : {n : ℕ} {xs ys : List ℕ} → IsTable g rank → n < length g → shape_of g n ≡ Choice xs ys → (c : Option ℕ) → Begins rank c xs ⊎ Begins rank c ys → 0 < rank n c
  choice_up {n = n} t h e c b = t.closed n c h (subst (λ y. ShapeBegins rank c y) (sym e) b)

  pub first_drop : {n : ℕ} {xs ys : List ℕ} {c : Option ℕ} (s : List ℕ) → IsGrammar g → IsLL1 g → IsTable g rank → n < length g → shape_of g n ≡ Choice xs ys → Picked g xs ys c → (0 < rank n c) ⊎ (0 < rank n None) → height rank c (xs ++ s) < height rank c (n ∷ s)
  first_drop {n = n} {xs = xs} {ys = ys} {c = c} s w ll t h e p d =
      nearer_drop s w ll t h (the_first e) (choice_nearer w ll t (apart ll h e) (w.closed n xs h (the_first e)) (w.closed n ys h (the_second e)) p (choice_falls t h e) (λ c b. choice_up t h e c (inl b)) d)

  pub second_drop : {n : ℕ} {xs ys : List ℕ} {c : Option ℕ} (s : List ℕ) → IsGrammar g → IsLL1 g → IsTable g rank → n < length g → shape_of g n ≡ Choice xs ys → Picked g ys xs c → (0 < rank n c) ⊎ (0 < rank n None) → height rank c (ys ++ s) < height rank c (n ∷ s)
  second_drop {n = n} {xs = xs} {ys = ys} {c = c} s w ll t h e p d =
      nearer_drop s w ll t h (the_second e) (choice_nearer w ll t (apart_other (apart ll h e)) (w.closed n ys h (the_second e)) (w.closed n xs h (the_first e)) p (λ c pos. ⊎_swap (choice_falls t h e c pos)) (λ c b. choice_up t h e c (inr b)) d)

  -- what the test at a choice says is why the way is picked
  pub picked_first : {n : ℕ} {xs ys : List ℕ} (c : Option ℕ) → IsGrammar g → IsLL1 g → IsTable g rank → n < length g → shape_of g n ≡ Choice xs ys → Begins rank c xs ⊎ ((Begins rank c ys → ⊥) × Begins rank None xs) → Picked g xs ys c
  picked_first {n = n} {xs = xs} {ys = ys} c w ll t h e (inl b) = begins (ahead_begins xs w ll.productive t (w.closed n xs h (the_first e)) b)
  picked_first {n = n} {xs = xs} {ys = ys} None w ll t h e (inr (never, b)) = begins (ahead_begins xs w ll.productive t (w.closed n xs h (the_first e)) b)
  picked_first {n = n} {xs = xs} {ys = ys} (Some k) w ll t h e (inr (never, b)) =
      empties (ahead_empty (ahead_begins xs w ll.productive t (w.closed n xs h (the_first e)) b)) (λ m. never (begins_ahead w t (w.closed n ys h (the_second e)) (record { tokens = k ∷ m.0; ways = m.1; sees = at_token; derives = m.2 })))

  pub picked_second : {n : ℕ} {xs ys : List ℕ} (c : Option ℕ) → IsGrammar g → IsLL1 g → IsTable g rank → n < length g → shape_of g n ≡ Choice xs ys → (Begins rank c xs → ⊥) → Begins rank c ys ⊎ (Begins rank None xs → ⊥) → (0 < rank n c) ⊎ (0 < rank n None) → Picked g ys xs c
  picked_second {n = n} {xs = xs} {ys = ys} c w ll t h e never (inl b) d = begins (ahead_begins ys w ll.productive t (w.closed n ys h (the_second e)) b)
  picked_second {n = n} {xs = xs} {ys = ys} c w ll t h e never (inr full) (inl pos) = elim (choice_falls t h e c pos) [ inl f ↦ absurd (never (falls_begins f)) | inr f ↦ begins (ahead_begins ys w ll.productive t (w.closed n ys h (the_second e)) (falls_begins f)) ]
  picked_second {n = n} {xs = xs} {ys = ys} None w ll t h e never (inr full) (inr pos) = elim (choice_falls t h e None pos) [ inl f ↦ absurd (never (falls_begins f)) | inr f ↦ begins (ahead_begins ys w ll.productive t (w.closed n ys h (the_second e)) (falls_begins f)) ]
  picked_second {n = n} {xs = xs} {ys = ys} (Some k) w ll t h e never (inr full) (inr pos) = elim (choice_falls t h e None pos) [
    | inl f ↦ absurd (full (falls_begins f))
    | inr f ↦ empties (ahead_empty (ahead_begins ys w ll.productive t (w.closed n ys h (the_second e)) (falls_begins f))) (λ m. never (begins_ahead w t (w.closed n xs h (the_first e)) (record { tokens = k ∷ m.0; ways = m.1; sees = at_token; derives = m.2 })))
  ]
