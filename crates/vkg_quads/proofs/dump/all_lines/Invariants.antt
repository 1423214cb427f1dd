use Rattle.std.proofs.Common.{◌≡◌, map, flat_map, take}
use Rattle.vkg_terms.specs.NQuads.{line}
use Rattle.vkg_maps.specs.Dataset.{quads_of_rule}
use Rattle.vkg_quads.proofs.dump.all_lines.Given as goal

abbrev pub invariant-loop-rule : goal.invariant-loop-rule
invariant-loop-rule l = l.out ≡ map line (flat_map (quads_of_rule l.base l.db.tables) (take l.rule-index l.rules))
