use Rattle.std.proofs.Common.{◌≡◌, map, take}
use Rattle.vkg_algebra.specs.Answer.{place_text}
use Rattle.vkg_expr.specs.Value.{term_of}
use Rattle.vkg_rewrite.proofs.lines.place_texts.Given as goal

abbrev pub invariant-loop-cell : goal.invariant-loop-cell
invariant-loop-cell l = l.texts ≡ map place_text (map term_of (take l.cell-index l.row))
