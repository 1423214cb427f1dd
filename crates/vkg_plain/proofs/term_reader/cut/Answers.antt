use Rattle.std.proofs.Common.{lit<}
use Rattle.std.proofs.lemmas.Str.Pattern.{split_after}
use Rattle.vkg_plain.proofs.TermLemmas.{no_blank}
use Rattle.vkg_plain.proofs.term_reader.cut.Goals as goal

pub returns-clause-value : goal.returns-clause-value
returns-clause-value c = λ front rest v e.
    split_after 32 c.args.text.now front rest c.split_once.result c.split_once.ensures.cases (lit< tt) e (no_blank front v)
