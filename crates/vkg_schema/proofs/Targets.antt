-- The form of a foreign key in which no check finds a fault.
use Rattle.std.proofs.Common.{◌≡◌, ◌≢◌, ℕ, suc, ◌+◌, ◌<◌, Bool, true, false, not, ◌||◌, ◌&&◌, Option, Some, None, List, [], ◌∷◌, length, map, refl, sym, ap, ◌∙◌, subst, arith}
use Rattle.std.specs.Prelude.{find, slice_get, unwrap_or, option_map, IfSome, IsTrue, nat_eq, ◌==◌, is_none}
use Rattle.std.specs.List.{list_any, list_all, AllByRecursion, Contains, range_with_len}
use Rattle.std.proofs.lemmas.Bool.{eqb-true}
use Rattle.std.proofs.lemmas.List.{length-map, nil_from_length}
use Rattle.std.proofs.lemmas.List.FromFn.{length-range_with_len}
use Rattle.std.proofs.lemmas.Option.{slice_get-map}
use Rattle.vkg_lists.specs.Options.{both_pass}
use Rattle.vkg_lists.proofs.Nothing.{map_nothing}
use Rattle.vkg_lists.proofs.Each.{recursion_map, each_below, below_range, recursion_fails}
use Rattle.vkg_lists.proofs.Positions.{Found, found, any_mapped, all_mapped, get_below}
use Rattle.vkg_lists.proofs.Bools.{not_false, and_parts}
use Rattle.vkg_cells.specs.Order.{family}
use Rattle.vkg_ddl.specs.declared.name.Name.{Name}
use Rattle.vkg_ddl.specs.declared.written.WrittenColumn.{WrittenColumn}
use Rattle.vkg_ddl.specs.declared.written.WrittenKey.{WrittenKey}
use Rattle.vkg_ddl.specs.declared.written.WrittenReference.{WrittenReference}
use Rattle.vkg_ddl.specs.declared.written.WrittenTable.{WrittenTable}
use Rattle.vkg_ddl.specs.Formed.{HasColumns}
use Rattle.vkg_ddl.specs.NameChecks.{matches, column_place, one_column, names_column, names_table, name_twice, unknown_columns}
use Rattle.vkg_ddl.specs.TypeChecks.{column_kind}
use Rattle.vkg_ddl.specs.ReferenceChecks.{targets_in, are_columns, columns_fault, same_columns, are_key, key_fault, at_target, family_of, family_named, over_families, family_fault}
use Rattle.vkg_lists.proofs.Members.{each_from_recursion}
use Rattle.vkg_lists.proofs.Walks.{map-map}
use Rattle.vkg_schema.specs.declared.table.Reference.{Reference}
use Rattle.vkg_schema.specs.Meets.{same_columns as same_places, child_columns, parent_columns, RefersTo, Comparable, IsReference}
use Rattle.vkg_schema.specs.Resolve.{column_at, columns_at, place_of, places_of, key_at, keys_at, table_place, place_at, pair_at, pairs_at, pairs_to, reference_at, table_at, schema_of}
use Rattle.vkg_schema.proofs.Faultless.{AreKnown, known, nowhere}
use Rattle.vkg_schema.proofs.Forms.{Means, meant, if_some}

-- what a list says by its places
by_place : {A B : Type 0} (g : ℕ → B) (h : A → B) (a : ℕ) (xs : List A) → ((k : ℕ) (x : A) → slice_get xs k ≡ Some x → g (a + k) ≡ h x) → map g (range_with_len a (length xs)) ≡ map h xs
by_place g h a [] e = refl
by_place g h a (x ∷ xs) e =
    let z : a ≡ a + 0 = omega arith in
    let first : g a ≡ h x = ap g z ∙ e 0 x refl in
    let rest : map g (range_with_len (a + 1) (length xs)) ≡ map h xs = by_place g h (a + 1) xs (λ k y q. let s : a + 1 + k ≡ a + suc k = omega arith in ap g s ∙ e (suc k) y q) in
    (λ i. first i ∷ rest i)

one_same : (columns : List WrittenColumn) (a b : Name) → one_column columns a b ≡ true → nat_eq (place_of columns a) (place_of columns b) ≡ true
one_same columns a b e = go (column_place columns a) (column_place columns b) e
  where
    go : (o p : Option ℕ) → both_pass nat_eq o p ≡ true → nat_eq (unwrap_or o 0) (unwrap_or p 0) ≡ true
    go (Some i) (Some j) q = q
    go (Some i) None q = absurd (cc)
    go None p q = absurd (cc)

same_placed : (columns : List WrittenColumn) (xs ys : List Name) → same_columns columns xs ys ≡ true → same_places (places_of columns xs) (places_of columns ys) ≡ true
same_placed columns xs ys e =
    let r = and_parts (list_all (λ x. list_any (one_column columns x) ys) xs) (list_all (λ y. list_any (one_column columns y) xs) ys) e in
    let left : list_all (λ i. list_any (nat_eq i) (places_of columns ys)) (places_of columns xs) ≡ true = all_mapped (λ x. list_any (one_column columns x) ys) (λ i. list_any (nat_eq i) (places_of columns ys)) (place_of columns) xs (λ x q. any_mapped (one_column columns x) (nat_eq (place_of columns x)) (place_of columns) ys (one_same columns x) q) r.0 in
    let right : list_all (λ i. list_any (nat_eq i) (places_of columns xs)) (places_of columns ys) ≡ true = all_mapped (λ y. list_any (one_column columns y) xs) (λ i. list_any (nat_eq i) (places_of columns xs)) (place_of columns) ys (λ y q. any_mapped (one_column columns y) (nat_eq (place_of columns y)) (place_of columns) xs (one_same columns y) q) r.1 in
    (λ i. left i && right i)

-- the right side of a foreign key without a fault
record IsRight (u : WrittenTable) (r : WrittenReference) (right : List Name) : Type 0 where
  pub meant_so : targets_in u r ≡ Some right
  pub size : length right ≡ length r.columns
  pub right_known : AreKnown u.columns right
  pub keyed : are_key u right ≡ true

none_nowhere : (o : Option ℕ) → is_none o ≡ true → o ≡ None
none_nowhere None e = refl
none_nowhere (Some at) e = absurd (cc)

right_of : (u : WrittenTable) (r : WrittenReference) (o : Option (List Name)) → targets_in u r ≡ o → columns_fault u r o ≡ None → key_fault u r o ≡ None → (right : List Name) × IsRight u r right
right_of u r None e c k = absurd (cc)
right_of u r (Some right) e c k =
    let whole : are_columns u r.columns right ≡ true = not_false (are_columns u r.columns right) (nowhere (not (are_columns u r.columns right)) r.first.at c) in
    let outer = and_parts ((length right == length r.columns) && is_none (unknown_columns u.columns right)) (is_none (name_twice u.columns right)) whole in
    let inner = and_parts (length right == length r.columns) (is_none (unknown_columns u.columns right)) outer.0 in (
      right,
      record {
        meant_so = e;
        size = eqb-true (length right) (length r.columns) inner.0;
        right_known = known u.columns right (none_nowhere (unknown_columns u.columns right) inner.1);
        keyed = not_false (are_key u right) (nowhere (not (are_key u right)) r.first.at k);
      },
    )

no_first : (columns : List WrittenColumn) (names : List Name) → names ≢ [] → (later : Bool) → (same_columns columns [] names || later) ≡ true → (later ≡ true → ⊥) → ⊥
no_first columns [] n later q more = n refl
no_first columns (x ∷ xs) n later q more = more q

-- no key has no columns, so none is that of no names
no_key_of_none : (columns : List WrittenColumn) (keys : List WrittenKey) → AllByRecursion HasColumns keys → list_any (λ k. same_columns columns [] k.columns) keys ≡ true → ⊥
no_key_of_none columns [] h e = absurd (cc)
no_key_of_none columns (k ∷ keys) h e = no_first columns k.columns h.0 (list_any (λ j. same_columns columns [] j.columns) keys) e (λ q. no_key_of_none columns keys h.1 q)

module _ (tables : List WrittenTable) (t u : WrittenTable) (r : WrittenReference) (right : List Name) (i : ℕ)
    (left_known : AreKnown t.columns r.columns) (is_right : IsRight u r right) (some_keys : AllByRecursion HasColumns u.keys)
    (families : over_families t.columns u.columns r.columns right ≡ false)
    (at : Found (λ v. matches r.table v.name) tables i u) where
  abbrev pairs : List (ℕ × ℕ)
  pairs = pairs_at t.columns u.columns r.columns right

  abbrev plain : Reference
  plain = record { table = i; pairs = pairs }

  left_at : (k : ℕ) → k < length r.columns → (n : Name) × (slice_get r.columns k ≡ Some n) × (c : WrittenColumn) × Means t.keys t.columns n c
  left_at k h = let g = get_below r.columns k h in let m = meant t.keys t.columns g.0 (each_from_recursion (λ n. names_column t.columns n ≡ true) r.columns left_known g.0 g.2) in (g.0, g.1, m.0, m.1)

  right_at : (k : ℕ) → k < length r.columns → (n : Name) × (slice_get right k ≡ Some n) × (c : WrittenColumn) × Means u.keys u.columns n c
  right_at k h =
      let size : length right ≡ length r.columns = is_right.size in
      let g = get_below right k (omega arith) in
      let m = meant u.keys u.columns g.0 (each_from_recursion (λ n. names_column u.columns n ≡ true) right is_right.right_known g.0 g.2) in
      (g.0, g.1, m.0, m.1)

  children : AllByRecursion (λ k. k < length (columns_at t.keys t.columns)) (child_columns plain)
  children = recursion_map (λ k. k < length (columns_at t.keys t.columns)) (λ p. p.0) pairs
      (recursion_map (λ p. p.0 < length (columns_at t.keys t.columns)) (pair_at t.columns u.columns r.columns right) (range_with_len 0 (length r.columns))
      (each_below (λ k. place_at t.columns (slice_get r.columns k) < length (columns_at t.keys t.columns)) (length r.columns) (λ k h.
      let l = left_at k h in let m : Means t.keys t.columns l.0 l.2 = l.3 in
      subst (λ o. place_at t.columns o < length (columns_at t.keys t.columns)) (sym l.1) m.inside)))

  parents_inside : AllByRecursion (λ k. k < length (columns_at u.keys u.columns)) (parent_columns plain)
  parents_inside = recursion_map (λ k. k < length (columns_at u.keys u.columns)) (λ p. p.1) pairs
      (recursion_map (λ p. p.1 < length (columns_at u.keys u.columns)) (pair_at t.columns u.columns r.columns right) (range_with_len 0 (length r.columns))
      (each_below (λ k. place_at u.columns (slice_get right k) < length (columns_at u.keys u.columns)) (length r.columns) (λ k h.
      let l = right_at k h in let m : Means u.keys u.columns l.0 l.2 = l.3 in
      subst (λ o. place_at u.columns o < length (columns_at u.keys u.columns)) (sym l.1) m.inside)))

  parents_are : parent_columns plain ≡ places_of u.columns right
  parents_are =
      map-map (λ p. p.1) (pair_at t.columns u.columns r.columns right) (range_with_len 0 (length r.columns))
      ∙ ap (λ n. map (λ k. place_at u.columns (slice_get right k)) (range_with_len 0 n)) (sym is_right.size)
      ∙ by_place (λ k. place_at u.columns (slice_get right k)) (place_of u.columns) 0 right (λ k n e. let z : 0 + k ≡ k = omega arith in ap (λ j. place_at u.columns (slice_get right j)) z ∙ ap (place_at u.columns) e)

  has_pairs : pairs ≢ []
  has_pairs e = no_key_of_none u.columns u.keys some_keys (subst (λ names. are_key u names ≡ true) (nil_from_length right empty) is_right.keyed)
    where
      empty : length right ≡ 0
      empty = is_right.size ∙ sym (length-range_with_len 0 (length r.columns)) ∙ ap length (map_nothing (pair_at t.columns u.columns r.columns right) (range_with_len 0 (length r.columns)) e)

  keyed : IsTrue (list_any (λ k. same_places (parent_columns plain) k.columns) (keys_at u.columns u.keys))
  keyed = subst (λ ps. list_any (λ k. same_places ps k.columns) (keys_at u.columns u.keys) ≡ true) (sym parents_are)
      (any_mapped (λ k. same_columns u.columns right k.columns) (λ k. same_places (places_of u.columns right) k.columns) (key_at u.columns) u.keys (λ k e. same_placed u.columns right k.columns e) is_right.keyed)

  compared : AllByRecursion (Comparable (table_at tables t) (table_at tables u)) pairs
  compared = recursion_map (Comparable (table_at tables t) (table_at tables u)) (pair_at t.columns u.columns r.columns right) (range_with_len 0 (length r.columns))
      (each_below (λ k. Comparable (table_at tables t) (table_at tables u) (pair_at t.columns u.columns r.columns right k)) (length r.columns) (λ k h.
      let l = left_at k h in let lm : Means t.keys t.columns l.0 l.2 = l.3 in
      let g = right_at k h in let gm : Means u.keys u.columns g.0 g.2 = g.3 in
      let equal : (family_named t.columns (slice_get r.columns k) == family_named u.columns (slice_get right k)) ≡ true = not_false _ (below_range (λ j. not (family_named t.columns (slice_get r.columns j) == family_named u.columns (slice_get right j)) ≡ false) (length r.columns) (recursion_fails (λ j. not (family_named t.columns (slice_get r.columns j) == family_named u.columns (slice_get right j))) (range_with_len 0 (length r.columns)) families) k h) in
      let left_family : family_named t.columns (slice_get r.columns k) ≡ family (column_kind l.2) = ap (family_named t.columns) l.1 ∙ ap family_of lm.found in
      let right_family : family_named u.columns (slice_get right k) ≡ family (column_kind g.2) = ap (family_named u.columns) g.1 ∙ ap family_of gm.found in
      let one : family (column_kind l.2) ≡ family (column_kind g.2) = sym left_family ∙ eqb-true _ _ equal ∙ right_family in
      let left_place : slice_get (columns_at t.keys t.columns) (place_at t.columns (slice_get r.columns k)) ≡ Some (column_at t.keys l.2) = ap (λ o. slice_get (columns_at t.keys t.columns) (place_at t.columns o)) l.1 ∙ lm.at in
      let right_place : slice_get (columns_at u.keys u.columns) (place_at u.columns (slice_get right k)) ≡ Some (column_at u.keys g.2) = ap (λ o. slice_get (columns_at u.keys u.columns) (place_at u.columns o)) g.1 ∙ gm.at in
      if_some (λ c. IfSome (slice_get (columns_at u.keys u.columns) (place_at u.columns (slice_get right k))) (λ d. family c.kind ≡ family d.kind)) (slice_get (columns_at t.keys t.columns) (place_at t.columns (slice_get r.columns k))) (column_at t.keys l.2) left_place
      (if_some (λ d. family (column_kind l.2) ≡ family d.kind) (slice_get (columns_at u.keys u.columns) (place_at u.columns (slice_get right k))) (column_at u.keys g.2) right_place one)))

  plain_form : IsReference (schema_of tables) (table_at tables t) plain
  plain_form =
      let size : length (schema_of tables) ≡ length tables = length-map tables (table_at tables) in
      record {
        children = children;
        inside = omega (arith, at.inside);
        target = if_some (λ v. RefersTo plain v × AllByRecursion (Comparable (table_at tables t) v) pairs) (slice_get (schema_of tables) i) (table_at tables u) (slice_get-map (table_at tables) tables i ∙ ap (option_map (table_at tables)) at.at)
            (record { some = has_pairs; parents = parents_inside; key = keyed }, compared);
      }

  resolved_form : IsReference (schema_of tables) (table_at tables t) (reference_at tables t r)
  resolved_form =
      let table : table_place tables r.table ≡ i = ap (λ o. unwrap_or o 0) at.place in
      let those : pairs_to t (find (λ v. matches r.table v.name) tables) r ≡ pairs = ap (λ o. pairs_to t o r) at.found ∙ ap (λ o. pairs_at t.columns u.columns r.columns (unwrap_or o [])) is_right.meant_so in
      let whole : ◌≡◌ {A = Reference} (reference_at tables t r) plain = (λ j. record { table = table j; pairs = those j }) in
      subst (IsReference (schema_of tables) (table_at tables t)) (sym whole) plain_form

-- the families are compared where the target is known
families_of : (t u : WrittenTable) (r : WrittenReference) (right : List Name) → targets_in u r ≡ Some right → family_fault t u r (targets_in u r) ≡ None → over_families t.columns u.columns r.columns right ≡ false
families_of t u r right e f = nowhere (over_families t.columns u.columns r.columns right) r.first.at (sym (ap (family_fault t u r) e) ∙ f)

pub reference_form : (tables : List WrittenTable) (t : WrittenTable) (r : WrittenReference)
    → ((u : WrittenTable) → Contains tables u → AllByRecursion HasColumns u.keys)
    → names_table tables r.table ≡ true → AreKnown t.columns r.columns
    → at_target columns_fault (find (λ u. matches r.table u.name) tables) r ≡ None
    → at_target key_fault (find (λ u. matches r.table u.name) tables) r ≡ None
    → at_target (family_fault t) (find (λ u. matches r.table u.name) tables) r ≡ None
    → IsReference (schema_of tables) (table_at tables t) (reference_at tables t r)
reference_form tables t r keys e left_known c k f =
    let w = found (λ v. matches r.table v.name) tables e in
    let i : ℕ = w.0 in
    let u : WrittenTable = w.1 in
    let at : Found (λ v. matches r.table v.name) tables i u = w.2 in
    let g = get_below tables i at.inside in
    let same : ◌≡◌ {A = Option WrittenTable} (Some g.0) (Some u) = sym g.1 ∙ at.at in
    let this : g.0 ≡ u = cc in
    let d = right_of u r (targets_in u r) refl (sym (ap (λ o. at_target columns_fault o r) at.found) ∙ c) (sym (ap (λ o. at_target key_fault o r) at.found) ∙ k) in
    let h : IsRight u r d.0 = d.1 in
    resolved_form tables t u r d.0 i left_known h (keys u (subst (Contains tables) this g.2))
    (families_of t u r d.0 h.meant_so (sym (ap (λ o. at_target (family_fault t) o r) at.found) ∙ f)) at
