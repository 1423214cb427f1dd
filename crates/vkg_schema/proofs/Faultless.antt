-- What no check finds, where the first fault is none.
use Rattle.std.proofs.Common.{◌≡◌, ℕ, Bool, true, false, not, Option, Some, None, List, refl}
use Rattle.std.specs.List.{AllByRecursion}
use Rattle.vkg_lists.proofs.Each.{recursion_weaken}
use Rattle.vkg_lists.proofs.Places.{least_of-each}
use Rattle.vkg_lists.proofs.Bools.{not_false}
use Rattle.vkg_ddl.specs.declared.name.Name.{Name}
use Rattle.vkg_ddl.specs.declared.written.WrittenColumn.{WrittenColumn}
use Rattle.vkg_ddl.specs.declared.written.WrittenTable.{WrittenTable}
use Rattle.vkg_lists.specs.Places.{place_if}
use Rattle.vkg_ddl.specs.NameChecks.{table_twice, column_twice, key_column_unknown, key_column_twice, primary_twice, table_unknown, names_column, unknown_column, unknown_columns}
use Rattle.vkg_ddl.specs.TypeChecks.{type_unknown, precision_wrong}
use Rattle.vkg_ddl.specs.ReferenceChecks.{columns_wrong, no_key, families_differ}
use Rattle.vkg_ddl.specs.FirstFault.{failed, first_fault}

-- the checks on which the form and the names of a schema rest
pub record IsFaultless (tables : List WrittenTable) : Type 0 where
  pub names_once : table_twice tables ≡ None
  pub columns_known : key_column_unknown tables ≡ None
  pub tables_known : table_unknown tables ≡ None
  pub columns_right : columns_wrong tables ≡ None
  pub to_keys : no_key tables ≡ None
  pub comparable : families_differ tables ≡ None

passed : (check : ℕ) (o : Option ℕ) (later : Option (ℕ × ℕ)) → failed check o later ≡ None → (o ≡ None) × (later ≡ None)
passed check None later e = (refl, e)
passed check (Some at) later e = absurd (cc)

pub faultless : (tables : List WrittenTable) → first_fault tables ≡ None → IsFaultless tables
faultless tables e =
    let r3 = passed 3 (table_twice tables) _ e in
    let r4 = passed 4 (column_twice tables) _ r3.1 in
    let r5 = passed 5 (type_unknown tables) _ r4.1 in
    let r6 = passed 6 (precision_wrong tables) _ r5.1 in
    let r7 = passed 7 (key_column_unknown tables) _ r6.1 in
    let r8 = passed 8 (key_column_twice tables) _ r7.1 in
    let r9 = passed 9 (primary_twice tables) _ r8.1 in
    let r10 = passed 10 (table_unknown tables) _ r9.1 in
    let r11 = passed 11 (columns_wrong tables) _ r10.1 in
    let r12 = passed 12 (no_key tables) _ r11.1 in
    let r13 = passed 13 (families_differ tables) _ r12.1 in
    record { names_once = r3.0; columns_known = r7.0; tables_known = r10.0; columns_right = r11.0; to_keys = r12.0; comparable = r13.0 }

pub nowhere : (fails : Bool) (at : ℕ) → place_if fails at ≡ None → fails ≡ false
nowhere true at e = absurd (cc)
nowhere false at e = refl

-- each of the names is a column's
abbrev pub AreKnown : List WrittenColumn → List Name → Type 0
AreKnown columns names = AllByRecursion (λ n. names_column columns n ≡ true) names

pub known : (columns : List WrittenColumn) (names : List Name) → unknown_columns columns names ≡ None → AreKnown columns names
known columns names e = recursion_weaken (λ n. unknown_column columns n ≡ None) (λ n. names_column columns n ≡ true) names (λ n q. not_false (names_column columns n) (nowhere (not (names_column columns n)) n.at q)) (least_of-each (unknown_column columns) names e)
