-- The lines of one more row and its partners.
use Rattle.std.proofs.Common.{filter}
use Rattle.std.specs.Prelude.{filter_map}
use Rattle.vkg_schema.specs.Rows.{agree}
use Rattle.vkg_maps.specs.Dataset.{quad_of}
use Rattle.vkg_quads.proofs.Partners.{push_more}
use Rattle.vkg_quads.proofs.dump.push_joined.Goals as goal

pub loop-k-preserved : goal.loop-k-preserved
loop-k-preserved c =
    push_more (λ row. filter_map (quad_of c.args.base.now c.args.rule.now row) (filter (agree c.args.conditions.now row) c.args.parents.now)) c.args.rows.now c.loop-k.k c.row-row.result _ _ _ c.row-row.ensures c.loop-k.invariant c.in_ok-push_partners.ensures
