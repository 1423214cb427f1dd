use Rattle.std.proofs.Common.{◌≢◌, arith}
use Rattle.vkg_plain.proofs.EscapeLemmas.{meant_is, means_itself, means_letter}
use Rattle.vkg_plain.proofs.literal_reader.meant.Goals as goal

pub returns-in-n : goal.returns-in-n
returns-in-n c = λ d e. means_letter 110 c.args.letter d c.in-n.is (meant_is d c.args.letter e)

pub returns-in-r : goal.returns-in-r
returns-in-r c = λ d e. means_letter 114 c.args.letter d c.in-r.is (meant_is d c.args.letter e)

pub returns-in-t : goal.returns-in-t
returns-in-t c = λ d e. means_letter 116 c.args.letter d c.in-t.is (meant_is d c.args.letter e)

pub returns-in_default : goal.returns-in_default
returns-in_default c = λ d e.
    let feed : c.args.letter ≢ 110 = omega arith in
    let return : c.args.letter ≢ 114 = omega arith in
    let tab : c.args.letter ≢ 116 = omega arith in
    means_itself c.args.letter d feed return tab (meant_is d c.args.letter e)
