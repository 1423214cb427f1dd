use Rattle.std.proofs.Common.{◌≡◌, map, take}
use Rattle.vkg_algebra.specs.Answer.{place_text}
use Rattle.vkg_plain.proofs.lines.place_texts.Given as goal

abbrev pub invariant-loop-place : goal.invariant-loop-place
invariant-loop-place l = l.texts ≡ map place_text (take l.place-index l.solution)
