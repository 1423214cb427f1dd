use Rattle.std.proofs.Common.{◌≡◌, ◌+◌, suc, set, subst, arith}
use Rattle.std.proofs.lemmas.Slice.Zip.{AllZip-long}
use Rattle.vkg_store.specs.Held.{ArePut, CanTake}
use Rattle.vkg_store.proofs.HeldLemmas.{next-can-take, on-err, puts-long, puts-more, puts-next, puts-refused}
use Rattle.vkg_store.proofs.StoredLemmas.{extends-more}
use Rattle.vkg_store.proofs.stored_column.put_row.Goals as goal

pub index_mut-requires : goal.index_mut-requires
index_mut-requires c =
    let olds = c.args.columns.now.items in
    let row = c.args.row.now in
    omega (arith, c.loop-k-test.true, puts-long c.loop-k.texts c.args.rows c.loop-k.k olds row c.loop-k.columns.items c.loop-k.invariant.put, AllZip-long (CanTake c.args.rows) olds row c.requires, c.loop-k.columns.ok.0)

pub put-requires : goal.put-requires
put-requires c =
    next-can-take c.loop-k.texts c.args.rows c.loop-k.k c.args.columns.now.items c.args.row.now c.loop-k.columns.items c.index_mut.result.now c.index-row-k.result
    c.loop-k.invariant.put c.requires c.loop-k-test.true c.index_mut.ensures.value c.index-row-k.is

pub returns-in_err-put-clause-err : goal.returns-in_err-put-clause-err
returns-in_err-put-clause-err c =
    on-err c.from_residual.result
    (puts-refused c.loop-k.texts c.args.rows c.loop-k.k c.args.columns.now.items c.args.row.now c.loop-k.columns.items c.index_mut.result.now c.put.new.self
    c.loop-k.invariant.put c.requires c.loop-k-test.true c.index_mut.ensures.value c.in_err-put.ensures.err)

pub loop-k-preserved : goal.loop-k-preserved
loop-k-preserved c =
    let old = c.loop-k.texts in
    let new = c.put.new.texts in
    let rows = c.args.rows in
    let k = c.loop-k.k in
    let olds = c.args.columns.now.items in
    let row = c.args.row.now in
    let was = c.loop-k.columns.items in
    let grown = c.in_ok-put.ensures.extends in
    let next : suc k ≡ k + 1 = omega arith in
    record {
      put = subst (λ n. ArePut new rows n olds row (set was k c.put.new.self)) next
          (puts-next new rows k olds row was c.index_mut.result.now c.index-row-k.result c.put.new.self (puts-more old new rows k olds row was grown c.loop-k.invariant.put) c.requires c.loop-k-test.true
          c.index_mut.ensures.value c.index-row-k.is c.in_ok-put.ensures.ok);
      extends = extends-more _ old new c.loop-k.invariant.extends grown;
    }
