use Rattle.vkg_term_maps.proofs.FirstCheckLemmas.{gives_first}
use Rattle.vkg_term_maps.proofs.reading.read_term_map.Goals as goal

pub returns-clause-first : goal.returns-clause-first
returns-clause-first c = gives_first c.args.graph.now c.args.columns.now c.args.base.now c.args.role c.args.place.now c.term_map_at.result c.term_map_at.ensures
