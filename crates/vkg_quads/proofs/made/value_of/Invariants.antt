use Rattle.std.proofs.Common.{◌≡◌, Some, string_bytes, drop}
use Rattle.vkg_lists.specs.Options.{joined}
use Rattle.vkg_maps.specs.Terms.{template_value}
use Rattle.vkg_quads.proofs.made.value_of.Given as goal

abbrev pub invariant-loop-piece : goal.invariant-loop-piece
invariant-loop-piece l = template_value l.sort l.row l.pieces ≡ joined (Some (string_bytes l.all)) (template_value l.sort l.row (drop l.piece-index l.pieces))
