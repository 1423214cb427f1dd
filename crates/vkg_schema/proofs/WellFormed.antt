-- A text in which no check finds a fault gives a schema that is well formed.
use Rattle.std.proofs.Common.{◌≡◌, None, List}
use Rattle.std.specs.Prelude.{find, not}
use Rattle.std.specs.List.{AllByRecursion, Contains}
use Rattle.vkg_lists.proofs.Each.{recursion_weaken, recursion_map}
use Rattle.vkg_lists.proofs.Places.{lesser-both_none, least_of-each}
use Rattle.vkg_lists.proofs.Bools.{not_false}
use Rattle.vkg_ddl.specs.declared.written.WrittenReference.{WrittenReference}
use Rattle.vkg_ddl.specs.declared.written.WrittenTable.{WrittenTable}
use Rattle.vkg_ddl.specs.FirstFault.{first_fault}
use Rattle.vkg_ddl.specs.Formed.{IsNamed, HasColumns, IsFormed}
use Rattle.vkg_lists.specs.Places.{least_of}
use Rattle.vkg_ddl.specs.NameChecks.{matches, names_table, unknown_columns, unknown_in_table, unknown_target}
use Rattle.vkg_ddl.specs.ReferenceChecks.{at_target, columns_fault, key_fault, family_fault}
use Rattle.vkg_lists.proofs.Members.{each_from_recursion, recursion_from_each}
use Rattle.vkg_schema.specs.Meets.{IsTable, IsColumn, IsKey, IsReference, IsWellFormed}
use Rattle.vkg_schema.specs.Resolve.{column_at, key_at, reference_at, table_at, schema_of}
use Rattle.vkg_schema.proofs.Faultless.{IsFaultless, faultless, known, nowhere}
use Rattle.vkg_schema.proofs.Forms.{column_form, key_form}
use Rattle.vkg_schema.proofs.Targets.{reference_form}

module _ (tables : List WrittenTable) (fine : IsFaultless tables) (formed : AllByRecursion IsFormed tables) where
  keys_of : (u : WrittenTable) → Contains tables u → AllByRecursion HasColumns u.keys
  keys_of u m = let f : IsFormed u = each_from_recursion IsFormed tables formed u m in f.keys

  -- what a check of the foreign keys of each table says of one
  each_reference : (place : WrittenTable → WrittenReference → _) (t : WrittenTable) (r : WrittenReference) → Contains tables t → Contains t.references r → least_of (λ v. least_of (place v) v.references) tables ≡ None → place t r ≡ None
  each_reference place t r m rm e = each_from_recursion (λ s. place t s ≡ None) t.references (least_of-each (place t) t.references (each_from_recursion (λ v. least_of (place v) v.references ≡ None) tables (least_of-each (λ v. least_of (place v) v.references) tables e) t m)) r rm

  table_form : (t : WrittenTable) → Contains tables t → IsTable (schema_of tables) (table_at tables t)
  table_form t m =
      let f : IsFormed t = each_from_recursion IsFormed tables formed t m in
      let both = lesser-both_none (least_of (λ k. unknown_columns t.columns k.columns) t.keys) (least_of (λ r. unknown_columns t.columns r.columns) t.references) (each_from_recursion (λ v. unknown_in_table v ≡ None) tables (least_of-each unknown_in_table tables fine.columns_known) t m) in
      record {
        name = f.name;
        columns = recursion_map IsColumn (column_at t.keys) t.columns (recursion_weaken IsNamed (λ c. IsColumn (column_at t.keys c)) t.columns (column_form t.keys) f.columns);
        keys = recursion_map (IsKey (table_at tables t)) (key_at t.columns) t.keys (recursion_from_each (λ k. IsKey (table_at tables t) (key_at t.columns k)) t.keys (λ k km.
            key_form tables t k (known t.columns k.columns (each_from_recursion (λ j. unknown_columns t.columns j.columns ≡ None) t.keys (least_of-each (λ j. unknown_columns t.columns j.columns) t.keys both.0) k km)) (each_from_recursion HasColumns t.keys f.keys k km) km));
        references = recursion_map (IsReference (schema_of tables) (table_at tables t)) (reference_at tables t) t.references (recursion_from_each (λ r. IsReference (schema_of tables) (table_at tables t) (reference_at tables t r)) t.references (λ r rm.
            reference_form tables t r keys_of
            (not_false (names_table tables r.table) (nowhere (not (names_table tables r.table)) r.table.at (each_reference (λ v s. unknown_target tables s) t r m rm fine.tables_known)))
            (known t.columns r.columns (each_from_recursion (λ s. unknown_columns t.columns s.columns ≡ None) t.references (least_of-each (λ s. unknown_columns t.columns s.columns) t.references both.1) r rm))
            (each_reference (λ v s. at_target columns_fault (find (λ u. matches s.table u.name) tables) s) t r m rm fine.columns_right)
            (each_reference (λ v s. at_target key_fault (find (λ u. matches s.table u.name) tables) s) t r m rm fine.to_keys)
            (each_reference (λ v s. at_target (family_fault v) (find (λ u. matches s.table u.name) tables) s) t r m rm fine.comparable)));
      }

pub well_formed : (tables : List WrittenTable) → first_fault tables ≡ None → AllByRecursion IsFormed tables → IsWellFormed (schema_of tables)
well_formed tables e formed =
    let fine : IsFaultless tables = faultless tables e in
    recursion_map (IsTable (schema_of tables)) (table_at tables) tables (recursion_from_each (λ t. IsTable (schema_of tables) (table_at tables t)) tables (table_form tables fine formed))
