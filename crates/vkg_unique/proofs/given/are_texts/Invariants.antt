use Rattle.std.proofs.Common.{◌≡◌, drop}
use Rattle.std.specs.List.{list_all}
use Rattle.vkg_unique.specs.Recovered.{is_text}
use Rattle.vkg_unique.proofs.given.are_texts.Given as goal

abbrev pub invariant-loop-piece : goal.invariant-loop-piece
invariant-loop-piece l = list_all is_text l.pieces ≡ list_all is_text (drop l.piece-index l.pieces)
