-- What is left of the list gives the whole, behind what was passed.
use Rattle.std.proofs.Common.{◌≡◌, ◌++◌, drop}
use Rattle.vkg_unique.specs.Recovered.{hole_columns}
use Rattle.vkg_unique.proofs.given.hole_columns.Given as goal

abbrev pub invariant-loop-piece : goal.invariant-loop-piece
invariant-loop-piece l = hole_columns l.pieces ≡ l.columns ++ hole_columns (drop l.piece-index l.pieces)
