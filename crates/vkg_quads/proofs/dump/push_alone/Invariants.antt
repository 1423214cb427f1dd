use Rattle.std.proofs.Common.{◌≡◌, ◌++◌, ◌∷◌, [], map, flat_map, take}
use Rattle.std.specs.Prelude.{filter_map}
use Rattle.vkg_terms.specs.NQuads.{line}
use Rattle.vkg_maps.specs.Dataset.{quad_of}
use Rattle.vkg_quads.proofs.dump.push_alone.Given as goal

abbrev pub invariant-loop-k : goal.invariant-loop-k
invariant-loop-k l = l.out ≡ l.fn.out ++ map line (flat_map (λ row. filter_map (quad_of l.base l.rule row) (row ∷ [])) (take l.k l.rows))
