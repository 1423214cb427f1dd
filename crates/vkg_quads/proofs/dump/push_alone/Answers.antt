-- The lines of one more row.
use Rattle.std.proofs.Common.{◌∷◌, []}
use Rattle.std.specs.Prelude.{filter_map}
use Rattle.vkg_maps.specs.Dataset.{quad_of}
use Rattle.vkg_quads.proofs.Partners.{push_more}
use Rattle.vkg_quads.proofs.dump.push_alone.Goals as goal

pub loop-k-preserved : goal.loop-k-preserved
loop-k-preserved c =
    push_more (λ row. filter_map (quad_of c.args.base.now c.args.rule.now row) (row ∷ [])) c.args.rows.now c.loop-k.k c.row-row.result _ _ _ c.row-row.ensures c.loop-k.invariant c.in_ok-push_quad.ensures
