use Rattle.std.proofs.Common.{◌∙◌, sym, Some, None, lit<, rules, arith}
use Rattle.std.proofs.lemmas.Bool.{false≢true}
use Rattle.std.proofs.lemmas.Str.Pattern.{strip_prefix_char}
use Rattle.vkg_plain.proofs.EscapeLemmas.{read_none, read_more, read_all}
use Rattle.vkg_lists.proofs.Heads.{tail_same}
use Rattle.vkg_plain.proofs.literal_reader.lexical_form.Goals as goal

pub loop-c-init : goal.loop-c-init
loop-c-init c = record { text = search rules; read = read_none c.args.text.now _ c.new-form.ensures.bytes; within = omega arith }

pub loop-c-preserved : goal.loop-c-preserved
loop-c-preserved c = record {
  text = search rules;
  read = read_more c.args.text.now _ c.loop-c.rest.now c.in-Some.behind.now _ c.in-Some.c c.loop-c.invariant.read c.in-Some.ensures.value (λ rest e. false≢true (sym (c.in-Some.ensures.closing rest e))) c.in_ok-push.ensures.bytes;
  within = omega (arith, c.in-Some.ensures.shorter);
}

pub returns-in-Some-strip_prefix-clause-value : goal.returns-in-Some-strip_prefix-clause-value
returns-in-Some-strip_prefix-clause-value c = λ form rest u e.
    let parts = read_all c.args.text.now _ c.loop-c.rest.now c.loop-c.invariant.read c.in_default.ensures.value form rest u e in
    let quote = strip_prefix_char 34 c.loop-c.rest.now (Some c.in-Some-strip_prefix.behind) c.in-Some-strip_prefix.ensures.cases (lit< tt) in
    (c.from_string.ensures ∙ parts.0, tail_same _ _ _ _ (sym quote ∙ parts.1))

pub returns-clause-value : goal.returns-clause-value
returns-clause-value c = λ form rest u e.
    let parts = read_all c.args.text.now _ c.loop-c.rest.now c.loop-c.invariant.read c.in_default.ensures.value form rest u e in
    absurd (strip_prefix_char 34 c.loop-c.rest.now None c.in-None.ensures.cases (lit< tt) rest parts.1)
