use Rattle.std.proofs.Common.{◌∙◌, sym, ap, flat_map, encode_utf8}
use Rattle.std.proofs.lemmas.Iterator.{YieldsList-from_chars}
use Rattle.std.proofs.lemmas.Iterator.Consumers.{YieldsList-end}
use Rattle.std.proofs.lemmas.List.{map-id}
use Rattle.vkg_turtle.specs.declared.escape.Escape.TheVariants.{Outside}
use Rattle.vkg_turtle.specs.Escapes.{unescaped, text_meant}
use Rattle.vkg_turtle.proofs.Escaping.{step_text, step_escape}
use Rattle.vkg_turtle.proofs.escape.text_meant.Goals as goal

pub loop-c-preserved : goal.loop-c-preserved
loop-c-preserved c = record {
  text = step_text _ _ c.loop-c.yielded c.loop-c.escape _ c.loop-c.invariant.text c.loop-c.invariant.escape c.in_ok-push_meant.ensures;
  escape = step_escape _ c.loop-c.escape c.loop-c.yielded _ c.loop-c.invariant.escape c.behind-escape.ensures;
}

pub returns : goal.returns
unfolding text_meant
returns c =
    let end = YieldsList-end (YieldsList-from_chars c.args.text.now c.utf8.text cc) c.loop-c.yielded _ c.loop-c.yielded_by _ _ c.in-None.is c.next.ensures.steps in
    c.from_string.ensures ∙ c.loop-c.invariant.text ∙ ap (λ cs. flat_map encode_utf8 (unescaped Outside cs)) (sym (map-id _) ∙ end.0)
