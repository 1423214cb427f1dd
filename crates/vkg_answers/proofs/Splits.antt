-- Pairs of rows that pass, where what passes belongs to a part of either side, are the pairs of those parts.
use Rattle.std.proofs.Common.{◌≡◌, ℕ, Bool, true, false, List, [], ◌∷◌, ◌++◌, map, refl, sym, ◌∙◌}
use Rattle.std.specs.Prelude.{not, ◌&&◌, replicate, filter, if◌then◌else◌}
use Rattle.std.specs.List.{list_all, AllByRecursion as Every}
use Rattle.std.proofs.lemmas.Bool.{cond_both}
use Rattle.std.proofs.lemmas.List.Elements.{filter-append}
use Rattle.vkg_lists.proofs.Walks.{filter-filter}
use Rattle.vkg_cells.specs.declared.cell.Cell.TheVariants as cell
use Rattle.vkg_schema.specs.Rows.{Row}
use Rattle.vkg_plan.specs.Rows.{is_alone, pairs, left_pairs}

abbrev pub no_row : List Row
no_row = []

module _ (P Q : Row → Type 0) (kl kr pass h : Row → Bool) where
  module _ (kp : Row → Bool) (split : (l r : Row) → P l → Q r → (h (l ++ r) && kp (l ++ r)) ≡ ((kl l && kr r) && pass (l ++ r))) where
    one_split : (l : Row) (rs : List Row) → P l → Every Q rs →
        filter (λ x. h x && kp x) (map (λ r. l ++ r) rs) ≡ (if kl l then filter pass (map (λ r. l ++ r) (filter kr rs)) else [])
    one_split l [] p q = cond_both (kl l) no_row no_row (λ rs. no_row ≡ rs) (λ _. refl) (λ _. refl)
    one_split l (r ∷ rs) p q = Prim.rw (split l r p q.0, one_split l rs p q.1) (of (kl l) (kr r) (pass (l ++ r)) refl)
      where
        rest : List Row
        rest = filter pass (map (λ r. l ++ r) (filter kr rs))

        of : (a b c : Bool) → pass (l ++ r) ≡ c →
            (if (a && b) && c then (l ++ r) ∷ (if a then rest else []) else (if a then rest else []))
            ≡ (if a then filter pass (map (λ r. l ++ r) (if b then r ∷ filter kr rs else filter kr rs)) else [])
        of true true true e = Prim.rw e refl
        of true true false e = Prim.rw e refl
        of true false c e = refl
        of false b c e = refl

    pub pairs_split : (ls rs : List Row) → Every P ls → Every Q rs → filter (λ x. h x && kp x) (pairs ls rs) ≡ filter pass (pairs (filter kl ls) (filter kr rs))
    pairs_split [] rs p q = refl
    pairs_split (l ∷ ls) rs p q =
        filter-append (λ x. h x && kp x) (map (λ r. l ++ r) rs) (pairs ls rs)
        ∙ Prim.rw (one_split l rs p.0 q, pairs_split ls rs p.1 q) (of (kl l))
      where
        of : (a : Bool) →
            (if a then filter pass (map (λ r. l ++ r) (filter kr rs)) else []) ++ filter pass (pairs (filter kl ls) (filter kr rs))
            ≡ filter pass (pairs (if a then l ∷ filter kl ls else filter kl ls) (filter kr rs))
        of true = sym (filter-append pass (map (λ r. l ++ r) (filter kr rs)) (pairs (filter kl ls) (filter kr rs)))
        of false = refl

  module _ (near : (l r : Row) → P l → Q r → kl l ≡ true → h (l ++ r) ≡ (kr r && pass (l ++ r))) where
    none_near : (l : Row) (rs : List Row) → P l → Every Q rs → kl l ≡ true → is_alone h rs l ≡ is_alone pass (filter kr rs) l
    none_near l [] p q e = refl
    none_near l (r ∷ rs) p q e = Prim.rw (near l r p q.0 e, none_near l rs p q.1 e) (of (kr r))
      where
        of : (b : Bool) → (not (b && pass (l ++ r)) && is_alone pass (filter kr rs) l) ≡ list_all (λ r. not (pass (l ++ r))) (if b then r ∷ filter kr rs else filter kr rs)
        of true = refl
        of false = refl

    -- the rows without one that passes
    pub alone_split : (ls rs : List Row) → Every P ls → Every Q rs → filter kl (filter (is_alone h rs) ls) ≡ filter (is_alone pass (filter kr rs)) (filter kl ls)
    alone_split [] rs p q = refl
    alone_split (l ∷ ls) rs p q = of (alone_split ls rs p.1 q) (kl l) refl (is_alone h rs l) refl
      where
        none : Row → Bool
        none l = is_alone h rs l

        none_there : Row → Bool
        none_there l = is_alone pass (filter kr rs) l

        of : filter kl (filter none ls) ≡ filter none_there (filter kl ls) →
            (a : Bool) → kl l ≡ a → (x : Bool) → none l ≡ x →
            filter kl (if x then l ∷ filter none ls else filter none ls) ≡ filter none_there (if a then l ∷ filter kl ls else filter kl ls)
        of rest true e true f = Prim.rw (e, sym (none_near l rs p.0 q e) ∙ f, rest) refl
        of rest true e false f = Prim.rw (sym (none_near l rs p.0 q e) ∙ f) rest
        of rest false e true f = Prim.rw e rest
        of rest false e false f = rest

    module _ (kp : Row → Bool) (m : ℕ) (kept : (l : Row) → P l → kp (l ++ replicate m cell.Null) ≡ kl l) where
      pub lonely_split : (ls rs : List Row) → Every P ls → Every Q rs →
          filter kp (map (λ l. l ++ replicate m cell.Null) (filter (is_alone h rs) ls))
          ≡ map (λ l. l ++ replicate m cell.Null) (filter (is_alone pass (filter kr rs)) (filter kl ls))
      lonely_split [] rs p q = refl
      lonely_split (l ∷ ls) rs p q = of (lonely_split ls rs p.1 q) (kl l) refl (is_alone h rs l) refl
        where
          none : Row → Bool
          none l = is_alone h rs l

          none_there : Row → Bool
          none_there l = is_alone pass (filter kr rs) l

          pad : Row → Row
          pad l = l ++ replicate m cell.Null

          of : filter kp (map pad (filter none ls)) ≡ map pad (filter none_there (filter kl ls)) →
              (a : Bool) → kl l ≡ a → (x : Bool) → none l ≡ x →
              filter kp (map pad (if x then l ∷ filter none ls else filter none ls)) ≡ map pad (filter none_there (if a then l ∷ filter kl ls else filter kl ls))
          of rest true e true f = Prim.rw (kept l p.0 ∙ e, sym (none_near l rs p.0 q e) ∙ f, rest) refl
          of rest true e false f = Prim.rw (sym (none_near l rs p.0 q e) ∙ f) rest
          of rest false e true f = Prim.rw (kept l p.0 ∙ e) rest
          of rest false e false f = rest

      module _ (split : (l r : Row) → P l → Q r → (h (l ++ r) && kp (l ++ r)) ≡ ((kl l && kr r) && pass (l ++ r))) where
        pub left_split : (ls rs : List Row) → Every P ls → Every Q rs → filter kp (left_pairs h m ls rs) ≡ left_pairs pass m (filter kl ls) (filter kr rs)
        left_split ls rs p q =
            filter-append kp (filter h (pairs ls rs)) (map (λ l. l ++ replicate m cell.Null) (filter (is_alone h rs) ls))
            ∙ (λ i. (filter-filter kp h (pairs ls rs) ∙ pairs_split kp split ls rs p q) i ++ lonely_split ls rs p q i)
