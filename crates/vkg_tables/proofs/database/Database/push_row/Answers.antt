use Rattle.std.proofs.Common.{◌≡◌, ◌∙◌, ◌<◌, ap, get_or, length, subst, sym}
use Rattle.std.specs.Prelude.{slice_set}
use Rattle.std.specs.List.{AllZip}
use Rattle.vkg_schema.specs.Meets.{FitsColumn}
use Rattle.vkg_tables.specs.Kept.{IsKept, tables_seen}
use Rattle.vkg_tables.specs.Seen.{columns_of, with_row}
use Rattle.vkg_tables.proofs.KeptLemmas.{stored-there, there}
use Rattle.vkg_tables.proofs.PushLemmas.{on-err, on-ok, pushed-err, pushed-kept, pushed-ok}
use Rattle.vkg_tables.proofs.database.Database.push_row.Goals as goal

pub index_mut-requires : goal.index_mut-requires
index_mut-requires c =
    let lt : c.args.table < length c.self.inside.schema = subst (λ s. c.args.table < length s.schema) (sym c.self.view_is) c.requires.table in
    subst (λ n. c.args.table < n) (ap length (sym (c.into_vec-tables.ensures ∙ c.replace.ensures.value)) ∙ sym c.into_vec-tables.result.ok.0)
    (there c.self.inside.schema c.self.inside.texts c.self.inside.tables c.args.table lt c.self.invariant)

pub push-pushed-requires : goal.push-pushed-requires
push-pushed-requires c =
    let schema = c.self.inside.schema in
    let k = c.args.table in
    let t = c.index_mut.result.now in
    let lt : k < length schema = subst (λ s. k < length s.schema) (sym c.self.view_is) c.requires.table in
    let is : t ≡ get_or c.self.inside.tables k t = c.index_mut.ensures.value ∙ ap (λ ts. get_or ts k t) (c.into_vec-tables.ensures ∙ c.replace.ensures.value) in
    let fits : AllZip FitsColumn (columns_of schema k) c.args.row.items = subst (λ s. AllZip FitsColumn (columns_of s.schema k) c.args.row.items) (sym c.self.view_is) c.requires.row in
    (columns_of schema k, stored-there schema c.self.inside.texts c.self.inside.tables k t lt c.self.invariant is, subst (AllZip FitsColumn (columns_of schema k)) (sym c.as_slice.ensures.value) fits)

pub invariant_of-self : goal.invariant_of-self
invariant_of-self c =
    let schema = c.self.inside.schema in
    let old = c.self.inside.texts in
    let new = c.push-pushed.new.texts in
    let tables = c.self.inside.tables in
    let k = c.args.table in
    let t = c.index_mut.result.now in
    let s = c.push-pushed.new.self in
    let lt : k < length schema = subst (λ s. k < length s.schema) (sym c.self.view_is) c.requires.table in
    let items = c.into_vec-tables.ensures ∙ c.replace.ensures.value in
    let is : t ≡ get_or tables k t = c.index_mut.ensures.value ∙ ap (λ ts. get_or ts k t) items in
    let now = c.from_vec.ensures ∙ ap (λ ts. slice_set ts k s) items in
    let fits : AllZip FitsColumn (columns_of schema k) c.args.row.items = subst (λ s. AllZip FitsColumn (columns_of s.schema k) c.args.row.items) (sym c.self.view_is) c.requires.row in
    subst (IsKept schema new) (sym now)
    (pushed-kept schema old new tables k t s c.as_slice.result.now lt c.self.invariant c.push-pushed.ensures.extends is c.push-pushed.result
    (c.push-pushed.ensures.stored (columns_of schema k) (stored-there schema old tables k t lt c.self.invariant is))
    (subst (AllZip FitsColumn (columns_of schema k)) (sym c.as_slice.ensures.value) fits) c.push-pushed.ensures.ok c.push-pushed.ensures.err)

pub returns-clause-ok : goal.returns-clause-ok
returns-clause-ok c =
    let schema = c.self.inside.schema in
    let old = c.self.inside.texts in
    let new = c.push-pushed.new.texts in
    let tables = c.self.inside.tables in
    let k = c.args.table in
    let t = c.index_mut.result.now in
    let s = c.push-pushed.new.self in
    let lt : k < length schema = subst (λ s. k < length s.schema) (sym c.self.view_is) c.requires.table in
    let items = c.into_vec-tables.ensures ∙ c.replace.ensures.value in
    let is : t ≡ get_or tables k t = c.index_mut.ensures.value ∙ ap (λ ts. get_or ts k t) items in
    let now = c.from_vec.ensures ∙ ap (λ ts. slice_set ts k s) items in
    on-ok c.push-pushed.result
    (λ q. (λ i. record { schema = schema; tables = (ap (tables_seen new) now ∙ q) i }) ∙ ap (λ w. with_row (record { schema = schema; tables = tables_seen old tables }) k w) c.as_slice.ensures.value
    ∙ ap (λ s. with_row s k c.args.row.items) c.self.view_is)
    (pushed-ok schema old new tables k t s c.as_slice.result.now lt c.self.invariant c.push-pushed.ensures.extends is c.push-pushed.result c.push-pushed.ensures.ok)

pub returns-clause-err : goal.returns-clause-err
returns-clause-err c =
    let schema = c.self.inside.schema in
    let old = c.self.inside.texts in
    let new = c.push-pushed.new.texts in
    let tables = c.self.inside.tables in
    let k = c.args.table in
    let t = c.index_mut.result.now in
    let s = c.push-pushed.new.self in
    let lt : k < length schema = subst (λ s. k < length s.schema) (sym c.self.view_is) c.requires.table in
    let items = c.into_vec-tables.ensures ∙ c.replace.ensures.value in
    let is : t ≡ get_or tables k t = c.index_mut.ensures.value ∙ ap (λ ts. get_or ts k t) items in
    let now = c.from_vec.ensures ∙ ap (λ ts. slice_set ts k s) items in
    on-err c.push-pushed.result (λ q. (λ i. record { schema = schema; tables = (ap (tables_seen new) now ∙ q) i }) ∙ c.self.view_is)
    (pushed-err schema old new tables k t s c.as_slice.result.now lt c.self.invariant c.push-pushed.ensures.extends is c.push-pushed.result c.push-pushed.ensures.err)
