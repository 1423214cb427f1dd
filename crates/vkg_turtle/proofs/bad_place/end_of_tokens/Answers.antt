use Rattle.std.proofs.Common.{refl}
use Rattle.vkg_turtle.specs.Lexical.{stops, ends}
use Rattle.vkg_turtle.proofs.bad_place.end_of_tokens.Goals as goal
use Rattle.vkg_turtle.proofs.bad_place.end_of_tokens.Goals.{in-Ok, in-Err-LexFault, in-Err-Memory}

pub returns : goal.returns
returns c =
    elim c.match-tokens.branch [
      | in-Ok w ↦ rw w.result-is (ends w.in-Ok.ensures.ok refl)
      | in-Err-LexFault w ↦
          let fails = rw w.in-Err-LexFault.field-0-is at w.in-Err-LexFault.ensures in
          rw (w.result-is, w.in-Err-LexFault.at-is) (stops fails.err)
      | in-Err-Memory w ↦ rw w.result-is tt
    ]
