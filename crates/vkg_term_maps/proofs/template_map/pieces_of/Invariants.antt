use Rattle.std.proofs.Common.{◌≡◌, ◌++◌, drop}
use Rattle.std.specs.Prelude.{option_map}
use Rattle.vkg_term_maps.specs.TermMaps.{pieces_of}
use Rattle.vkg_term_maps.proofs.template_map.pieces_of.Given as goal

abbrev pub invariant-loop-part : goal.invariant-loop-part
invariant-loop-part l = pieces_of l.columns l.parts ≡ option_map (λ ps. l.pieces ++ ps) (pieces_of l.columns (drop l.part-index l.parts))
