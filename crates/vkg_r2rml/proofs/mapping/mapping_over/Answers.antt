use Rattle.std.proofs.Common.{◌∙◌, ap, map, sym, Ok}
use Rattle.vkg_r2rml.specs.Mapping.{count_fault, in_order}
use Rattle.vkg_r2rml.specs.TriplesMap.{triples_map}
use Rattle.vkg_r2rml.proofs.InOrder.{whole}
use Rattle.vkg_r2rml.proofs.mapping.mapping_over.Goals as goal

pub returns-clause-ok : goal.returns-clause-ok
returns-clause-ok c =
    let read = c.in_ok-maps.ensures.ok in
    whole c.args.base.now (count_fault c.args.maps.now) (in_order 1 (map (triples_map c.args.graph.now c.args.schema.now c.args.base.now c.args.maps.now) c.args.maps.now)) c.in_ok-maps.maps
    (ap count_fault (sym c.as_slice.ensures) ∙ sym c.count_fault.ensures ∙ c.in_default.is) read.0 read.1
    ∙ ap (λ base. Ok (record { base = base; maps = c.in_ok-maps.maps })) (sym c.in_ok-base.ensures)
