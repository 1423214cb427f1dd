use Rattle.std.proofs.Common.{◌≡◌, ◌∙◌, ◌<◌, ap, sym, subst, length, get_or}
use Rattle.std.specs.Prelude.{Ok}
use Rattle.std.specs.List.{AllByRecursion}
use Rattle.vkg_schema.specs.Meets.{IsColumn}
use Rattle.vkg_store.specs.Stored.{IsStored, table_seen}
use Rattle.vkg_tables.specs.Kept.{tables_seen}
use Rattle.vkg_tables.specs.TableFile.{table_of_bytes}
use Rattle.vkg_tables.specs.Seen.{columns_of, loaded, with_read}
use Rattle.vkg_tables.proofs.FitLemmas.{columns-there, file-fits}
use Rattle.vkg_tables.proofs.KeptLemmas.{columns-are, more-kept, more-seen, put-kept, put-seen, there}
use Rattle.vkg_tables.proofs.database.Database.load_table.Goals as goal

pub read_file-requires : goal.read_file-requires
read_file-requires c =
    let schema = c.self.inside.schema in
    let k = c.args.table in
    let d = c.index-tables-table.result in
    let lt : k < length schema = subst (λ s. k < length s) (sym (ap (λ s. s.schema) c.self.view_is)) c.requires in
    subst (AllByRecursion IsColumn) (ap (λ ts. (get_or ts k d).columns) (sym c.tables.ensures.value) ∙ sym c.as_slice-columns.ensures) (columns-are schema schema k d c.tables.ensures.form lt)

pub set-requires : goal.set-requires
set-requires c =
    let lt : c.args.table < length c.self.inside.schema = subst (λ s. c.args.table < length s) (sym (ap (λ s. s.schema) c.self.view_is)) c.requires in
    there c.self.inside.schema c.self.inside.texts c.self.inside.tables c.args.table lt c.self.invariant

pub invariant_of-self : goal.invariant_of-self
invariant_of-self c =
    let schema = c.self.inside.schema in
    let old = c.self.inside.texts in
    let new = c.read_file.new.texts in
    let tables = c.self.inside.tables in
    let k = c.args.table in
    let bytes = c.args.bytes.now in
    let d = c.index-tables-table.result in
    let lt : k < length schema = subst (λ s. k < length s) (sym (ap (λ s. s.schema) c.self.view_is)) c.requires in
    let columns : columns_of schema k ≡ c.as_slice-columns.result.now =
    columns-there schema k d lt ∙ ap (λ ts. (get_or ts k d).columns) (sym c.tables.ensures.value) ∙ sym c.as_slice-columns.ensures in
    let s = c.in-Ok.stored in
    let defined : table_of_bytes (columns_of schema k) bytes ≡ Ok (table_seen new s) = ap (λ cs. table_of_bytes cs bytes) columns ∙ c.in-Ok.ensures.rows in
    rw c.set.ensures (put-kept schema old new tables k s lt c.self.invariant c.in-Ok.ensures.extends (subst (λ cs. IsStored new cs s) (sym columns) c.in-Ok.ensures.stored) (file-fits (columns_of schema k) bytes (table_seen new s) defined))

pub returns-in-Ok-clause-ok : goal.returns-in-Ok-clause-ok
returns-in-Ok-clause-ok c =
    let schema = c.self.inside.schema in
    let old = c.self.inside.texts in
    let new = c.read_file.new.texts in
    let tables = c.self.inside.tables in
    let k = c.args.table in
    let bytes = c.args.bytes.now in
    let d = c.index-tables-table.result in
    let lt : k < length schema = subst (λ s. k < length s) (sym (ap (λ s. s.schema) c.self.view_is)) c.requires in
    let columns : columns_of schema k ≡ c.as_slice-columns.result.now =
    columns-there schema k d lt ∙ ap (λ ts. (get_or ts k d).columns) (sym c.tables.ensures.value) ∙ sym c.as_slice-columns.ensures in
    let s = c.in-Ok.stored in
    let defined : table_of_bytes (columns_of schema k) bytes ≡ Ok (table_seen new s) = ap (λ cs. table_of_bytes cs bytes) columns ∙ c.in-Ok.ensures.rows in
    let now = ap (tables_seen new) c.set.ensures ∙ put-seen schema old new tables k s c.self.invariant.stored c.in-Ok.ensures.extends in
    ap (λ v. loaded v k bytes) (sym c.self.view_is) ∙ ap (with_read (record { schema = schema; tables = tables_seen old tables }) k) defined
    ∙ (λ i. Ok (record { schema = schema; tables = sym now i }))

pub returns-in-Err-Fault-clause-fault : goal.returns-in-Err-Fault-clause-fault
returns-in-Err-Fault-clause-fault c =
    let schema = c.self.inside.schema in
    let old = c.self.inside.texts in
    let new = c.read_file.new.texts in
    let tables = c.self.inside.tables in
    let k = c.args.table in
    let bytes = c.args.bytes.now in
    let d = c.index-tables-table.result in
    let lt : k < length schema = subst (λ s. k < length s) (sym (ap (λ s. s.schema) c.self.view_is)) c.requires in
    let columns : columns_of schema k ≡ c.as_slice-columns.result.now =
    columns-there schema k d lt ∙ ap (λ ts. (get_or ts k d).columns) (sym c.tables.ensures.value) ∙ sym c.as_slice-columns.ensures in
    ap (λ v. loaded v k bytes) (sym c.self.view_is)
    ∙ ap (with_read (record { schema = schema; tables = tables_seen old tables }) k) (ap (λ cs. table_of_bytes cs bytes) columns ∙ (rw c.in-Err-Fault.field-0-is at c.in-Err-Fault.ensures.rows))

pub invariant_of-self-in-Err-Fault : goal.invariant_of-self-in-Err-Fault
invariant_of-self-in-Err-Fault c = more-kept c.self.inside.schema c.self.inside.texts c.read_file.new.texts c.self.inside.tables c.self.invariant c.read_file.ensures.extends

pub returns-in-Err-Fault-clause-err : goal.returns-in-Err-Fault-clause-err
returns-in-Err-Fault-clause-err c =
    let more = more-seen c.self.inside.texts c.read_file.new.texts c.self.inside.schema c.self.inside.tables c.read_file.ensures.extends c.self.invariant.stored in
    (λ i. record { schema = c.self.inside.schema; tables = more i }) ∙ c.self.view_is

pub invariant_of-self-in-Err-Memory : goal.invariant_of-self-in-Err-Memory
invariant_of-self-in-Err-Memory c = more-kept c.self.inside.schema c.self.inside.texts c.read_file.new.texts c.self.inside.tables c.self.invariant c.read_file.ensures.extends

pub returns-in-Err-Memory-clause-err : goal.returns-in-Err-Memory-clause-err
returns-in-Err-Memory-clause-err c =
    let more = more-seen c.self.inside.texts c.read_file.new.texts c.self.inside.schema c.self.inside.tables c.read_file.ensures.extends c.self.invariant.stored in
    (λ i. record { schema = c.self.inside.schema; tables = more i }) ∙ c.self.view_is
