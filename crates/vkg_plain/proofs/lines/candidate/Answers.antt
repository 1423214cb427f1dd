use Rattle.vkg_plain.proofs.Written.{found_is}
use Rattle.vkg_plain.proofs.lines.candidate.Goals as goal

pub returns : goal.returns
returns c = found_is c.args.width c.args.row.now c.parts.result.0.now _ _ _ c.new.ensures c.in_ok-cells.ensures c.parts.ensures.shown c.in_ok-line.ensures
