use Rattle.std.proofs.Common.{◌++◌, ◌∷◌, [], ◌∙◌, sym, Some, None, lit<}
use Rattle.std.proofs.lemmas.Str.Pattern.{strip_prefix_char, strip_suffix_char}
use Rattle.vkg_lists.proofs.Heads.{tail_same}
use Rattle.vkg_plain.proofs.term_reader.iri.Goals as goal

pub returns-in_default : goal.returns-in_default
returns-in_default c = λ iri e. absurd (strip_prefix_char 60 c.args.text.now None c.in_default.ensures.cases (lit< tt) (iri ++ 62 ∷ []) e)

pub returns-in_default-strip_suffix : goal.returns-in_default-strip_suffix
returns-in_default-strip_suffix c = λ iri e.
    let front = strip_prefix_char 60 c.args.text.now (Some c.in-Some.text) c.in-Some.ensures.cases (lit< tt) in
    absurd (strip_suffix_char 62 c.in-Some.text.now None c.in_default-strip_suffix.ensures.cases (lit< tt) iri (tail_same _ _ _ _ (sym front ∙ e)))
