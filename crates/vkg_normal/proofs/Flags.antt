-- A plan has as many flags as columns.
use Rattle.std.proofs.Common.{◌≡◌, ◌∙◌, ◌+◌, false, List, [], ◌∷◌, ◌++◌, length, length-append, map, Option, Some, None, sym, ap, arith}
use Rattle.std.specs.Prelude.{Bool, option_map, slice_get}
use Rattle.std.specs.Option.{option_map_or}
use Rattle.std.proofs.lemmas.List.{length-map}
use Rattle.std.proofs.lemmas.Option.{same_Some}
use Rattle.vkg_lists.proofs.Onto.{both_given, first_given}
use Rattle.vkg_lists.specs.Options.{joined}
use Rattle.vkg_schema.specs.declared.table.Table.{Table}
use Rattle.vkg_plan.proofs.RowsFit.{beside_is, checked_is, first_checked-parts}
use Rattle.vkg_plan.specs.Kinds.{Kinds, Tables, beside_all, kinds_of_each, plan_kinds, side_by_side}
use Rattle.vkg_plan.specs.Plan.{Plan, Plans, Unit as UnitPlan, Empty, Scan, Select, Project, Join, Left, AntiJoin, UnionAll, Distinct, Nil, More}
use Rattle.vkg_shapes.specs.UnionKinds.{given-union}
use Rattle.vkg_lifts.specs.InBetween.{kinds-long}
use Rattle.vkg_lifts.specs.LiftedKinds.{project-kinds}
use Rattle.vkg_nulls.specs.KnownColumns.{known_beside, known_columns, unsaid}

of-table : (o : Option Table) (ks : Kinds) → option_map (λ (t : Table). map (λ c. c.kind) t.columns) o ≡ Some ks →
    length (map (λ c. c.not_null) (option_map_or (λ (t : Table). t.columns) o [])) ≡ length ks
of-table None ks e = cc
of-table (Some t) ks e = length-map t.columns (λ c. c.not_null) ∙ sym (length-map t.columns (λ c. c.kind)) ∙ ap length (same_Some (map (λ c. c.kind) t.columns) ks e)

both-long : (fs gs : List Bool) (ks ls : Kinds) → length fs ≡ length ks → length gs ≡ length ls → length (fs ++ gs) ≡ length (ks ++ ls)
both-long fs gs ks ls e f = length-append fs gs ∙ (λ i. e i + f i) ∙ sym (length-append ks ls)

module _ (s : Tables) where
  mutual
    pub flags-long : (p : Plan) (ks : Kinds) → plan_kinds s p ≡ Some ks → length (known_columns s p) ≡ length ks
    flags-long UnitPlan ks e = ap length (same_Some [] ks e)
    flags-long (Empty ls) ks e = length-map ls (λ k. false) ∙ ap length (same_Some ls ks e)
    flags-long (Scan table) ks e = of-table (slice_get s table) ks e
    flags-long (Select c p) ks e = flags-long p ks (checked_is c (plan_kinds s p) ks e)
    flags-long (Project es p) ks e = let own = project-kinds s es p ks e in length-map es (λ x. false) ∙ sym (kinds-long es own.below ks own.of_each)
    flags-long (Join ps c) ks e =
        let b = beside_is (kinds_of_each s ps) ks (checked_is c (beside_all (kinds_of_each s ps)) ks e) in
        flags-beside ps b.0 b.1 ∙ ap length b.2
    flags-long (Left p q c) ks e =
        let b = both_given (plan_kinds s p) (plan_kinds s q) ks (checked_is c (joined (plan_kinds s p) (plan_kinds s q)) ks e) in
        length-map (known_columns s p ++ known_columns s q) (λ x. false)
        ∙ both-long (known_columns s p) (known_columns s q) b.0 b.2.0 (flags-long p b.0 b.1) (flags-long q b.2.0 b.2.1) ∙ ap length b.2.2
    flags-long (AntiJoin p q c) ks e = length-map (known_columns s p) (λ x. false) ∙ flags-long p ks (first_checked-parts c (plan_kinds s p) (plan_kinds s q) ks e).first
    flags-long (UnionAll Nil) ks e = cc
    flags-long (UnionAll (More p ps)) ks e = length-map (known_columns s p) (λ x. false) ∙ flags-long p ks (given-union s ks (More p ps) e).0
    flags-long (Distinct p) ks e = length-map (known_columns s p) (λ x. false) ∙ flags-long p ks e

    flags-beside : (ps : Plans) (kss : List Kinds) → kinds_of_each s ps ≡ Some kss → length (known_beside s ps) ≡ length (side_by_side kss)
    flags-beside Nil kss e = ap (λ (l : List Kinds). length (side_by_side l)) (same_Some [] kss e)
    flags-beside (More p ps) kss e =
        let a = first_given (plan_kinds s p) (kinds_of_each s ps) kss e in
        both-long (known_columns s p) (known_beside s ps) a.0 (side_by_side a.2.0) (flags-long p a.0 a.1) (flags-beside ps a.2.0 a.2.1)
        ∙ ap (λ (l : List Kinds). length (side_by_side l)) a.2.2

-- where nothing is said, the number of columns is all that is told
unsaid-long : {A B : Type 0} (xs : List A) (ys : List B) → length xs ≡ length ys → unsaid xs ≡ unsaid ys
unsaid-long [] [] e = λ i. []
unsaid-long [] (y ∷ ys) e = cc
unsaid-long (x ∷ xs) [] e = cc
unsaid-long (x ∷ xs) (y ∷ ys) e = ap (λ l. false ∷ l) (unsaid-long xs ys (omega (arith, e)))

-- the flags of a left join with another left side of these columns
pub left-flags : (s : Tables) (p l q : Plan) (ks : Kinds) → plan_kinds s p ≡ Some ks → plan_kinds s l ≡ plan_kinds s p → unsaid (known_columns s l ++ known_columns s q) ≡ unsaid (known_columns s p ++ known_columns s q)
left-flags s p l q ks e k =
    let same = flags-long s l ks (k ∙ e) ∙ sym (flags-long s p ks e) in
    unsaid-long (known_columns s l ++ known_columns s q) (known_columns s p ++ known_columns s q)
    (length-append (known_columns s l) (known_columns s q) ∙ (λ i. same i + length (known_columns s q)) ∙ sym (length-append (known_columns s p) (known_columns s q)))
