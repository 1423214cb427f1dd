use Rattle.std.proofs.Common.{◌≡◌, ◌++◌, flat_map, codes, take}
use Rattle.vkg_direct.specs.DirectMapping.{node_pieces}
use Rattle.vkg_direct.proofs.triples_map.push_nodes.Given as goal

abbrev pub invariant-loop-column : goal.invariant-loop-column
invariant-loop-column l = l.out ≡ l.fn.out ++ flat_map (node_pieces l.table (codes ";")) (take l.column-index l.columns)
