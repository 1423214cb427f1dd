use Rattle.std.proofs.Common.{◌≡◌, ◌++◌, ◌∷◌, [], map, flat_map, filter, take}
use Rattle.std.specs.Prelude.{filter_map, slice_get}
use Rattle.vkg_terms.specs.NQuads.{line}
use Rattle.vkg_schema.specs.Rows.{agree}
use Rattle.vkg_maps.specs.Dataset.{quad_of}
use Rattle.vkg_quads.proofs.dump.push_agreeing.Given as goal

abbrev pub invariant-loop-n : goal.invariant-loop-n
invariant-loop-n l = l.out ≡ l.fn.out ++ flat_map (λ n. map line (filter_map (quad_of l.base l.rule l.row) (filter (agree l.conditions l.row) (filter_map (slice_get l.parents) (n ∷ []))))) (take l.n-index l.numbers)
