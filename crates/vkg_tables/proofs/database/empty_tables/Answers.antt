use Rattle.std.proofs.Common.{◌≡◌, ◌∙◌, ◌<◌, [], ap, get_or, length, subst, sym}
use Rattle.std.specs.List.{AllByRecursion}
use Rattle.vkg_schema.specs.Meets.{IsColumn}
use Rattle.vkg_store.specs.Stored.{IsStored}
use Rattle.vkg_tables.proofs.KeptLemmas.{columns-are, seen-next, stored-next}
use Rattle.vkg_tables.proofs.database.empty_tables.Goals as goal

pub new-requires : goal.new-requires
new-requires c =
    let schema = c.args.schema.now in
    let i = c.loop-table.table-index in
    let t = c.table-item.result in
    let lt : i < length schema = subst (λ ts. i < length ts) c.tables-table-items.ensures.value c.loop-table-test.true in
    let is : t ≡ get_or schema i t = c.table-item.is ∙ ap (λ ts. get_or ts i t) c.tables-table-items.ensures.value in
    subst (AllByRecursion IsColumn) (sym (c.as_slice.ensures ∙ ap (λ x. x.columns) is)) (columns-are schema schema i t c.tables-table-items.ensures.form lt)

pub loop-table-preserved : goal.loop-table-preserved
loop-table-preserved c =
    let items = c.tables-table-items.result.now in
    let i = c.loop-table.table-index in
    let t = c.table-item.result in
    let s = c.in_ok-stored.stored in
    let columns = subst (λ cs. IsStored [] cs s) c.as_slice.ensures (c.in_ok-stored.ensures.stored []) in
    record {
      stored = rw c.in_ok-push.ensures.ok (stored-next [] items c.loop-table.tables i t s c.loop-table-test.true c.table-item.is c.loop-table.invariant.stored columns);
      none = rw c.in_ok-push.ensures.ok (seen-next [] items c.loop-table.tables i t s c.loop-table-test.true c.table-item.is c.loop-table.invariant.none (c.in_ok-stored.ensures.empty []));
    }
