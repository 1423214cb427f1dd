use Rattle.std.proofs.Common.{◌<◌, ◌++◌, ◌∷◌, [], ◌∙◌, ap, length, arith}
use Rattle.vkg_lists.proofs.Numbered.{numbered_more}
use Rattle.vkg_direct.specs.DirectMapping.{column_property}
use Rattle.vkg_direct.proofs.triples_map.push_columns.Goals as goal

pub loop-k-preserved : goal.loop-k-preserved
loop-k-preserved c =
    let inside : c.loop-k.k < length c.args.columns.now = omega arith in
    numbered_more (column_property c.args.base.now c.args.table.now) c.args.columns.now c.loop-k.k c.index-columns-k.result _ c.loop-k.out _ inside c.index-columns-k.is (c.in_ok-push.ensures.ok ∙ ap (λ p. c.loop-k.out ++ p ∷ []) c.in_ok-column_property.ensures) c.loop-k.invariant
