-- Its laws: a member's rows stand among those of the equal one before it.
use Rattle.std.proofs.Common.{◌≡◌, ◌<◌, Bool, true, false, ⊎_elim, List, [], ◌∷◌, ◌++◌, Some, refl, sym, ap, subst, ◌∙◌, arith, append_assoc, append-nil}
use Rattle.std.specs.Prelude.{option_map, ◌||◌, if◌then◌else◌}
use Rattle.std.specs.List.{flat_map, list_any, Contains}
use Rattle.std.proofs.lemmas.List.Concat.{flat_map-append}
use Rattle.std.proofs.lemmas.List.Elements.{Contains-append_left, Contains-append_right, Contains-append_cases}
use Rattle.std.proofs.lemmas.Option.{same_Some}
use Rattle.vkg_lists.specs.Sets.{HasSameMembers}
use Rattle.vkg_lists.proofs.Distinct.{bag_distinct_members}
use Rattle.vkg_lists.proofs.Members.{Contains-flat_map, Contains-here, Contains-there}
use Rattle.vkg_lists.proofs.Onto.{map_given}
use Rattle.vkg_lists.proofs.Results.{some_of}
use Rattle.vkg_schema.specs.Rows.{Database, Row}
use Rattle.vkg_plan.proofs.CellLemmas.{rows_apart}
use Rattle.vkg_plan.specs.Kinds.{Kinds, Tables, plan_kinds}
use Rattle.vkg_plan.specs.Plan.{Plan, Plans, UnionAll, Distinct, Nil, More}
use Rattle.vkg_plan.specs.Rows.{rows_of, rows_of_each}
use Rattle.vkg_rules.specs.Measure.{weights_sum}
use Rattle.vkg_rules.specs.Steps.{Falls, FallsAll, IsTyped, Keeps, KeepsAll, Step}
use Rattle.vkg_shapes.specs.UnionKinds.{AllKinds, given-union, made-union}
use Rattle.vkg_unions.specs.EqualMembers.{distinct_union, equal_members, without_repeat}
use Rattle.vkg_unions.specs.SamePlan.{same_plan}
use Rattle.vkg_unions.specs.SamePlanLaw.{same_plan-is}

any_equal : (ps : List Plan) (p : Plan) → list_any (λ q. same_plan q p) ps ≡ true → Contains ps p
any_equal [] p e = cc
any_equal (q ∷ qs) p e = at (same_plan q p) refl (any_equal qs p) e
  where
    at : (b : Bool) → same_plan q p ≡ b → (list_any (λ q. same_plan q p) qs ≡ true → Contains qs p) → (b || list_any (λ q. same_plan q p) qs) ≡ true → Contains (q ∷ qs) p
    at true h r k = subst (Contains (q ∷ qs)) (same_plan-is q p h) (Contains-here q qs)
    at false h r k = Contains-there q qs p (r k)

-- either the first is dropped or one behind it
module _ (earlier : List Plan) (p : Plan) (ps qs : Plans) (R : Plans → Type 0)
    (here : list_any (λ q. same_plan q p) earlier ≡ true → R ps)
    (later : (rest : Plans) → without_repeat (earlier ++ p ∷ []) ps ≡ Some rest → R (More p rest)) where
  at : (b : Bool) → list_any (λ q. same_plan q p) earlier ≡ b → (if b then Some ps else option_map (More p) (without_repeat (earlier ++ p ∷ []) ps)) ≡ Some qs → R qs
  at true h e = subst R (same_Some ps qs e) (here h)
  at false h e = let m = map_given (More p) (without_repeat (earlier ++ p ∷ []) ps) qs e in subst R m.2 (later m.0 m.1)

  pub repeat_cases : without_repeat earlier (More p ps) ≡ Some qs → R qs
  repeat_cases e = at (list_any (λ q. same_plan q p) earlier) refl e

module _ (s : Tables) (db : Database) where
  abbrev rows_all : List Plan → List Row
  rows_all ps = flat_map (λ p. rows_of s p db) ps

  abbrev rows_union : Plans → List Row
  rows_union ps = flat_map (λ rows. rows) (rows_of_each s ps db)

  doubled : (xs ys zs : List Row) → ((x : Row) → Contains ys x → Contains xs x) → HasSameMembers (xs ++ (ys ++ zs)) (xs ++ zs)
  doubled xs ys zs h = record {
    onto = λ x c. ⊎_elim (λ a. Contains-append_left xs zs x a) (λ b. ⊎_elim (λ a. Contains-append_left xs zs x (h x a)) (λ d. Contains-append_right xs zs x d) (Contains-append_cases ys zs x b)) (Contains-append_cases xs (ys ++ zs) x c);
    back = λ x c. ⊎_elim (λ a. Contains-append_left xs (ys ++ zs) x a) (λ b. Contains-append_right xs (ys ++ zs) x (Contains-append_right ys zs x b)) (Contains-append_cases xs zs x c);
  }

  seam : (earlier : List Plan) (p : Plan) (ps : Plans) → rows_all (earlier ++ p ∷ []) ++ rows_union ps ≡ rows_all earlier ++ rows_union (More p ps)
  seam earlier p ps =
      ap (λ l. l ++ rows_union ps) (flat_map-append (λ q. rows_of s q db) earlier (p ∷ []))
      ∙ append_assoc (rows_all earlier) (rows_of s p db ++ []) (rows_union ps)
      ∙ ap (λ l. rows_all earlier ++ (l ++ rows_union ps)) (append-nil (rows_of s p db))

  repeat-rows : (earlier : List Plan) (ps qs : Plans) → without_repeat earlier ps ≡ Some qs → HasSameMembers (rows_all earlier ++ rows_union ps) (rows_all earlier ++ rows_union qs)
  repeat-rows earlier Nil qs e = cc
  repeat-rows earlier (More p ps) qs e = repeat_cases earlier p ps qs (λ rs. HasSameMembers (rows_all earlier ++ rows_union (More p ps)) (rows_all earlier ++ rows_union rs))
      (λ h. doubled (rows_all earlier) (rows_of s p db) (rows_union ps) (λ x c. Contains-flat_map (λ q. rows_of s q db) earlier p x (any_equal earlier p h) c))
      (λ rest k. subst (λ l. HasSameMembers l (rows_all earlier ++ rows_union (More p rest))) (seam earlier p ps)
      (subst (HasSameMembers (rows_all (earlier ++ p ∷ []) ++ rows_union ps)) (seam earlier p rest) (repeat-rows (earlier ++ p ∷ []) ps rest k)))
      e

repeat-kinds : (s : Tables) (ks : Kinds) (earlier : List Plan) (ps qs : Plans) → without_repeat earlier ps ≡ Some qs → AllKinds s ks ps → AllKinds s ks qs
repeat-kinds s ks earlier Nil qs e h = cc
repeat-kinds s ks earlier (More p ps) qs e h = repeat_cases earlier p ps qs (AllKinds s ks) (λ k. h.1) (λ rest k. (h.0, repeat-kinds s ks (earlier ++ p ∷ []) ps rest k h.1)) e

repeat-weight : (earlier : List Plan) (ps qs : Plans) → without_repeat earlier ps ≡ Some qs → weights_sum qs < weights_sum ps
repeat-weight earlier Nil qs e = cc
repeat-weight earlier (More p ps) qs e = repeat_cases earlier p ps qs (λ rs. weights_sum rs < weights_sum (More p ps))
    (λ k. omega arith) (λ rest k. let h = repeat-weight (earlier ++ p ∷ []) ps rest k in omega (arith, h)) e

-- the first stays
first-stays : (p : Plan) (ps qs : Plans) → without_repeat [] (More p ps) ≡ Some qs → (rest : Plans) × (More p rest ≡ qs)
first-stays p ps qs e = let m = map_given (More p) (without_repeat (p ∷ []) ps) qs e in (m.0, m.2)

same-kinds : (s : Tables) (ps qs : Plans) → IsTyped s (UnionAll ps) → without_repeat [] ps ≡ Some qs → plan_kinds s (UnionAll qs) ≡ plan_kinds s (UnionAll ps)
same-kinds s Nil qs t e = cc
same-kinds s (More p ps) qs t e =
    let k = some_of (plan_kinds s (UnionAll (More p ps))) t in
    let f = first-stays p ps qs e in
    let all = repeat-kinds s k.0 [] (More p ps) qs e (given-union s k.0 (More p ps) k.1) in
    subst (λ rs. AllKinds s k.0 rs → plan_kinds s (UnionAll rs) ≡ plan_kinds s (UnionAll (More p ps))) f.1
    (λ h. made-union s k.0 p f.0 h ∙ sym k.1) all

keeps-here : (s : Tables) (ps : Plans) (x : Step) → IsTyped s (Distinct (UnionAll ps)) → equal_members s (Distinct (UnionAll ps)) ≡ Some x → Keeps s (Distinct (UnionAll ps)) x.0
keeps-here s ps x t e =
    let m = map_given distinct_union (without_repeat [] ps) x e in
    subst (λ (z : Step). Keeps s (Distinct (UnionAll ps)) z.0) m.2
    (record { kinds = same-kinds s ps m.0 t m.1; rows = λ db h. bag_distinct_members rows_apart (repeat-rows s db [] ps m.0 m.1) })

falls-here : (s : Tables) (ps : Plans) (x : Step) → equal_members s (Distinct (UnionAll ps)) ≡ Some x → Falls s (Distinct (UnionAll ps)) x
falls-here s ps x e =
    let m = map_given distinct_union (without_repeat [] ps) x e in
    subst (Falls s (Distinct (UnionAll ps))) m.2 (let h = repeat-weight [] ps m.0 m.1 in omega (arith, h))

pub equal_members-keeps : KeepsAll equal_members
equal_members-keeps s form (Distinct (UnionAll ps)) x t e = keeps-here s ps x t e
equal_members-keeps s form _ x t e = cc

pub equal_members-falls : FallsAll equal_members
equal_members-falls s form (Distinct (UnionAll ps)) x t e = falls-here s ps x e
equal_members-falls s form _ x t e = cc
