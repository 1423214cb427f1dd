use Rattle.std.proofs.Common.{◌<◌, ◌++◌, ◌∷◌, [], ◌∙◌, ap, length, arith}
use Rattle.vkg_lists.proofs.Numbered.{numbered_more}
use Rattle.vkg_direct.specs.DirectMapping.{direct_map}
use Rattle.vkg_direct.proofs.triples_map.direct_maps.Goals as goal

pub loop-k-preserved : goal.loop-k-preserved
loop-k-preserved c =
    let inside : c.loop-k.k < length c.args.tables.now = omega arith in
    numbered_more (direct_map c.args.base.now) c.args.tables.now c.loop-k.k c.index-tables-k.result _ c.loop-k.out _ inside c.index-tables-k.is (c.in_ok-push.ensures.ok ∙ ap (λ p. c.loop-k.out ++ p ∷ []) c.in_ok-direct_map.ensures) c.loop-k.invariant
