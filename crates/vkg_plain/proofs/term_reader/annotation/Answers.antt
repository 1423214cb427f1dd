use Rattle.std.proofs.Common.{◌∙◌, sym, None, length, lit<}
use Rattle.std.proofs.lemmas.Str.Pattern.{strip_prefix_char}
use Rattle.vkg_terms.specs.NQuads.{bracketed}
use Rattle.std.proofs.lemmas.Bool.{eqb-false}
use Rattle.vkg_plain.proofs.TermLemmas.{annotation_typed}
use Rattle.vkg_plain.proofs.term_reader.annotation.Goals as goal

pub returns-in_default-strip_prefix : goal.returns-in_default-strip_prefix
returns-in_default-strip_prefix c = λ a h e.
    let typed = annotation_typed c.args.text.now a (eqb-false (length c.args.text.now) 0 (sym c.is_empty.ensures ∙ c.if-is_empty.false)) (strip_prefix_char 64 c.args.text.now None c.in_default.ensures.cases (lit< tt)) e in
    absurd (c.in_default-strip_prefix.ensures.cases (bracketed typed.0) typed.2)
