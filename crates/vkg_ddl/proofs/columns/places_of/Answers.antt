use Rattle.std.proofs.Common.{◌<◌, length, arith}
use Rattle.vkg_hash.specs.Groups.{group}
use Rattle.vkg_ddl.proofs.IndexLemmas.{places_more}
use Rattle.vkg_ddl.proofs.columns.places_of.Goals as goal

pub loop-k-preserved : goal.loop-k-preserved
loop-k-preserved c = λ q.
    let inside : c.loop-k.k < length c.args.columns.now = omega arith in
    places_more c.args.columns.now c.loop-k.k c.index-columns-k.result q (group c.loop-k.index q) _ _ inside c.index-columns-k.is (c.in_ok-add.ensures q) (c.loop-k.invariant q)
