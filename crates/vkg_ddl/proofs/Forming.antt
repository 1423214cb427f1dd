-- What each token keeps of the form of the tables.
use Rattle.std.proofs.Common.{◌≡◌, ◌≢◌, Bool, true, false, cond, List, [], ◌∷◌, ◌++◌, refl, sym, subst}
use Rattle.std.specs.Prelude.{IsUtf8}
use Rattle.std.specs.List.{AllByRecursion}
use Rattle.vkg_lists.proofs.Members.{recursion_push}
use Rattle.vkg_grammar.specs.declared.note.Note.{Note}
use Rattle.vkg_ddl.specs.declared.name.Name.{Name}
use Rattle.vkg_ddl.specs.declared.role.Role.{Role}
use Rattle.vkg_ddl.specs.declared.role.Role.TheVariants as role
use Rattle.vkg_ddl.specs.declared.written.WrittenColumn.{WrittenColumn}
use Rattle.vkg_ddl.specs.declared.written.WrittenKey.{WrittenKey}
use Rattle.vkg_ddl.specs.declared.written.WrittenTable.{WrittenTable}
use Rattle.vkg_ddl.specs.Formed.{IsWord, IsNamed, HasColumns, IsFormed}
use Rattle.vkg_ddl.specs.Reading.{role_of, is_choice, with_token, written_of}
use Rattle.vkg_ddl.specs.Written.{on_last, act, edit, edit_column, edit_key, new_column, new_key, new_table, last_name}

pub on_last_keeps : {A : Type 0} (P : A → Type 0) (f : A → A) (xs : List A) → ((x : A) → P x → P (f x)) → AllByRecursion P xs → AllByRecursion P (on_last f xs)
unfolding on_last
on_last_keeps P f [] k h = tt
on_last_keeps P f (x ∷ []) k h = (k x h.0, tt)
on_last_keeps P f (x ∷ y ∷ xs) k h = (h.0, on_last_keeps P f (y ∷ xs) k h.1)

some : {A : Type 0} (x : A) (xs : List A) → x ∷ xs ≢ []
some x xs = λ e. cc

pushed_some : {A : Type 0} (xs : List A) (x : A) → xs ++ x ∷ [] ≢ []
pushed_some [] x = λ e. cc
pushed_some (y ∷ xs) x = λ e. cc

column_kept : (r : Role) (t : Name) (c : WrittenColumn) → IsNamed c → IsNamed (edit_column r t c)
column_kept role.Kind t c h = h
column_kept role.NotNull t c h = h
column_kept role.Number t c h = h
column_kept r t c h = h

key_kept : (r : Role) (t : Name) (k : WrittenKey) → HasColumns k → HasColumns (edit_key r t k)
key_kept role.KeyFirst t k h = some t []
key_kept role.KeyColumn t k h = pushed_some k.columns t
key_kept r t k h = h

with_key_kept : (table : WrittenTable) (k : WrittenKey) → IsFormed table → HasColumns k → IsFormed (record table { keys = table.keys ++ k ∷ [] })
with_key_kept table k f h = record { name = f.name; columns = f.columns; keys = recursion_push HasColumns table.keys k f.keys h }

columns_changed : (r : Role) (t : Name) (table : WrittenTable) → IsFormed table → IsFormed (record table { columns = on_last (edit_column r t) table.columns })
columns_changed r t table f = record { name = f.name; columns = on_last_keeps IsNamed (edit_column r t) table.columns (column_kept r t) f.columns; keys = f.keys }

keys_changed : (r : Role) (t : Name) (table : WrittenTable) → IsFormed table → IsFormed (record table { keys = on_last (edit_key r t) table.keys })
keys_changed r t table f = record { name = f.name; columns = f.columns; keys = on_last_keeps HasColumns (edit_key r t) table.keys (key_kept r t) f.keys }

same_parts : {table next : WrittenTable} → IsFormed table → next.name ≡ table.name → next.columns ≡ table.columns → next.keys ≡ table.keys → IsFormed next
same_parts f n c k = record { name = subst (λ x. IsUtf8 x.text) (sym n) f.name; columns = subst (AllByRecursion IsNamed) (sym c) f.columns; keys = subst (AllByRecursion HasColumns) (sym k) f.keys }

table_kept : (r : Role) (t : Name) (table : WrittenTable) → IsWord t → IsFormed table → IsFormed (edit r t table)
table_kept role.Column t table w f = record { name = f.name; columns = recursion_push IsNamed table.columns (new_column t) f.columns w; keys = f.keys }
table_kept role.Kind t table w f = columns_changed role.Kind t table f
table_kept role.Number t table w f = columns_changed role.Number t table f
table_kept role.NotNull t table w f = columns_changed role.NotNull t table f
table_kept role.ColumnPrimary t table w f = with_key_kept table (new_key true t (last_name t table.columns)) f (λ e. cc)
table_kept role.ColumnUnique t table w f = with_key_kept table (new_key false t (last_name t table.columns)) f (λ e. cc)
table_kept role.Primary t table w f = with_key_kept table (new_key true t (t ∷ [])) f (some t [])
table_kept role.Unique t table w f = with_key_kept table (new_key false t (t ∷ [])) f (some t [])
table_kept role.KeyFirst t table w f = keys_changed role.KeyFirst t table f
table_kept role.KeyColumn t table w f = keys_changed role.KeyColumn t table f
table_kept role.ColumnReferences t table w f = same_parts f refl refl refl
table_kept role.Foreign t table w f = same_parts f refl refl refl
table_kept role.ChildColumn t table w f = same_parts f refl refl refl
table_kept role.References t table w f = same_parts f refl refl refl
table_kept role.Target t table w f = same_parts f refl refl refl
table_kept role.TargetColumn t table w f = same_parts f refl refl refl
table_kept role.Table t table w f = f
table_kept role.Choice t table w f = f
table_kept role.Other t table w f = f

pub act_kept : (r : Role) (t : Name) (tables : List WrittenTable) → IsWord t → AllByRecursion IsFormed tables → AllByRecursion IsFormed (act r t tables)
act_kept role.Table t tables w f = recursion_push IsFormed tables (new_table t) f (record { name = w; columns = tt; keys = tt })
act_kept role.Column t tables w f = on_last_keeps IsFormed (edit role.Column t) tables (λ x. table_kept role.Column t x w) f
act_kept role.Kind t tables w f = on_last_keeps IsFormed (edit role.Kind t) tables (λ x. table_kept role.Kind t x w) f
act_kept role.Number t tables w f = on_last_keeps IsFormed (edit role.Number t) tables (λ x. table_kept role.Number t x w) f
act_kept role.NotNull t tables w f = on_last_keeps IsFormed (edit role.NotNull t) tables (λ x. table_kept role.NotNull t x w) f
act_kept role.ColumnPrimary t tables w f = on_last_keeps IsFormed (edit role.ColumnPrimary t) tables (λ x. table_kept role.ColumnPrimary t x w) f
act_kept role.ColumnUnique t tables w f = on_last_keeps IsFormed (edit role.ColumnUnique t) tables (λ x. table_kept role.ColumnUnique t x w) f
act_kept role.Primary t tables w f = on_last_keeps IsFormed (edit role.Primary t) tables (λ x. table_kept role.Primary t x w) f
act_kept role.Unique t tables w f = on_last_keeps IsFormed (edit role.Unique t) tables (λ x. table_kept role.Unique t x w) f
act_kept role.KeyFirst t tables w f = on_last_keeps IsFormed (edit role.KeyFirst t) tables (λ x. table_kept role.KeyFirst t x w) f
act_kept role.KeyColumn t tables w f = on_last_keeps IsFormed (edit role.KeyColumn t) tables (λ x. table_kept role.KeyColumn t x w) f
act_kept role.ColumnReferences t tables w f = on_last_keeps IsFormed (edit role.ColumnReferences t) tables (λ x. table_kept role.ColumnReferences t x w) f
act_kept role.Foreign t tables w f = on_last_keeps IsFormed (edit role.Foreign t) tables (λ x. table_kept role.Foreign t x w) f
act_kept role.ChildColumn t tables w f = on_last_keeps IsFormed (edit role.ChildColumn t) tables (λ x. table_kept role.ChildColumn t x w) f
act_kept role.References t tables w f = on_last_keeps IsFormed (edit role.References t) tables (λ x. table_kept role.References t x w) f
act_kept role.Target t tables w f = on_last_keeps IsFormed (edit role.Target t) tables (λ x. table_kept role.Target t x w) f
act_kept role.TargetColumn t tables w f = on_last_keeps IsFormed (edit role.TargetColumn t) tables (λ x. table_kept role.TargetColumn t x w) f
act_kept role.Choice t tables w f = on_last_keeps IsFormed (edit role.Choice t) tables (λ x. table_kept role.Choice t x w) f
act_kept role.Other t tables w f = on_last_keeps IsFormed (edit role.Other t) tables (λ x. table_kept role.Other t x w) f

module _ (n : Note) (ns : List Note) (kept : (ts : List Name) (tables : List WrittenTable) → AllByRecursion IsWord ts → AllByRecursion IsFormed tables → AllByRecursion IsFormed (written_of ns ts tables)) where
  token_kept : (ts : List Name) (tables : List WrittenTable) → AllByRecursion IsWord ts → AllByRecursion IsFormed tables → AllByRecursion IsFormed (with_token (role_of n.symbol) ts tables (λ us next. written_of ns us next))
  token_kept [] tables w f = f
  token_kept (t ∷ ts) tables w f = kept ts (act (role_of n.symbol) t tables) w.1 (act_kept (role_of n.symbol) t tables w.0 f)

  note_kept : (is_so : Bool) (ts : List Name) (tables : List WrittenTable) → AllByRecursion IsWord ts → AllByRecursion IsFormed tables → AllByRecursion IsFormed (cond is_so (written_of ns ts tables) (with_token (role_of n.symbol) ts tables (λ us next. written_of ns us next)))
  note_kept true ts tables w f = kept ts tables w f
  note_kept false ts tables w f = token_kept ts tables w f

pub written_formed : (ns : List Note) (ts : List Name) (tables : List WrittenTable) → AllByRecursion IsWord ts → AllByRecursion IsFormed tables → AllByRecursion IsFormed (written_of ns ts tables)
unfolding written_of
written_formed [] ts tables w f = f
written_formed (n ∷ ns) ts tables w f = note_kept n ns (λ us next. written_formed ns us next) (is_choice (role_of n.symbol)) ts tables w f
