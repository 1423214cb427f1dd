-- A schema's text as it is written, before any name is resolved.
use Rattle.std.specs.Prelude.{Bool, true, false, List, [], ◌∷◌, ◌++◌, ◌-◌, length, slice_get, Option, Some, None}
use Rattle.vkg_ddl.specs.declared.name.Name.{Name}
use Rattle.vkg_ddl.specs.declared.role.Role.{Role}
use Rattle.vkg_ddl.specs.declared.role.Role.TheVariants as role
use Rattle.vkg_ddl.specs.declared.written.WrittenColumn.{WrittenColumn}
use Rattle.vkg_ddl.specs.declared.written.WrittenKey.{WrittenKey}
use Rattle.vkg_ddl.specs.declared.written.WrittenReference.{WrittenReference}
use Rattle.vkg_ddl.specs.declared.written.WrittenTable.{WrittenTable}

abbrev pub new_column : Name → WrittenColumn
new_column t = record { name = t; kind = t; numbers = []; not_null = false }

abbrev pub new_key : Bool → Name → List Name → WrittenKey
new_key primary first columns = record { primary = primary; first = first; columns = columns }

abbrev pub new_reference : Name → List Name → WrittenReference
new_reference first columns = record { first = first; columns = columns; table = first; targets = [] }

abbrev pub new_table : Name → WrittenTable
new_table t = record { name = t; columns = []; keys = []; references = [] }

-- the list with its last item changed
unfoldable pub on_last : {A : Type 0} → (A → A) → List A → List A
on_last f [] = []
on_last f (x ∷ []) = f x ∷ []
on_last f (x ∷ y ∷ xs) = x ∷ on_last f (y ∷ xs)

abbrev pub name_or : Name → Option WrittenColumn → Name
name_or t None = t
name_or t (Some c) = c.name

-- the name of the last column, as a list
abbrev pub last_name : Name → List WrittenColumn → List Name
last_name t columns = name_or t (slice_get columns (length columns - 1)) ∷ []

abbrev pub edit_column : Role → Name → WrittenColumn → WrittenColumn
edit_column role.Kind t c = record c { kind = t }
edit_column role.NotNull t c = record c { not_null = true }
edit_column role.Number t c = record c { numbers = c.numbers ++ t ∷ [] }
edit_column r t c = c

abbrev pub edit_key : Role → Name → WrittenKey → WrittenKey
edit_key role.KeyFirst t k = record k { columns = t ∷ [] }
edit_key role.KeyColumn t k = record k { columns = k.columns ++ t ∷ [] }
edit_key r t k = k

abbrev pub edit_reference : Role → Name → WrittenReference → WrittenReference
edit_reference role.References t r = record r { first = t }
edit_reference role.Target t r = record r { table = t }
edit_reference role.ChildColumn t r = record r { columns = r.columns ++ t ∷ [] }
edit_reference role.TargetColumn t r = record r { targets = r.targets ++ t ∷ [] }
edit_reference o t r = r

abbrev pub with_columns : WrittenTable → List WrittenColumn → WrittenTable
with_columns table columns = record table { columns = columns }

abbrev pub with_key : WrittenTable → WrittenKey → WrittenTable
with_key table key = record table { keys = table.keys ++ key ∷ [] }

abbrev pub with_keys : WrittenTable → List WrittenKey → WrittenTable
with_keys table keys = record table { keys = keys }

abbrev pub with_references : WrittenTable → List WrittenReference → WrittenTable
with_references table references = record table { references = references }

abbrev pub with_reference : WrittenTable → WrittenReference → WrittenTable
with_reference table reference = record table { references = table.references ++ reference ∷ [] }

-- what a token adds to the last table
abbrev pub edit : Role → Name → WrittenTable → WrittenTable
edit role.Column t table = with_columns table (table.columns ++ new_column t ∷ [])
edit role.Kind t table = with_columns table (on_last (edit_column role.Kind t) table.columns)
edit role.Number t table = with_columns table (on_last (edit_column role.Number t) table.columns)
edit role.NotNull t table = with_columns table (on_last (edit_column role.NotNull t) table.columns)
edit role.ColumnPrimary t table = with_key table (new_key true t (last_name t table.columns))
edit role.ColumnUnique t table = with_key table (new_key false t (last_name t table.columns))
edit role.Primary t table = with_key table (new_key true t (t ∷ []))
edit role.Unique t table = with_key table (new_key false t (t ∷ []))
edit role.KeyFirst t table = with_keys table (on_last (edit_key role.KeyFirst t) table.keys)
edit role.KeyColumn t table = with_keys table (on_last (edit_key role.KeyColumn t) table.keys)
edit role.ColumnReferences t table = with_reference table (new_reference t (last_name t table.columns))
edit role.Foreign t table = with_reference table (new_reference t [])
edit role.ChildColumn t table = with_references table (on_last (edit_reference role.ChildColumn t) table.references)
edit role.References t table = with_references table (on_last (edit_reference role.References t) table.references)
edit role.Target t table = with_references table (on_last (edit_reference role.Target t) table.references)
edit role.TargetColumn t table = with_references table (on_last (edit_reference role.TargetColumn t) table.references)
edit r t table = table

-- what a token adds to the tables
abbrev pub act : Role → Name → List WrittenTable → List WrittenTable
act role.Table t tables = tables ++ new_table t ∷ []
act r t tables = on_last (edit r t) tables
