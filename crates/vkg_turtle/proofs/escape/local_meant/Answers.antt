use Rattle.std.proofs.Common.{◌∙◌, not, ◌==◌, sym, ap, flat_map, encode_utf8}
use Rattle.std.proofs.lemmas.Iterator.{YieldsList-from_chars}
use Rattle.std.proofs.lemmas.Iterator.Consumers.{YieldsList-end}
use Rattle.std.proofs.lemmas.List.{map-id}
use Rattle.std.specs.List.{filter}
use Rattle.vkg_turtle.specs.Escapes.{local_meant}
use Rattle.vkg_turtle.proofs.escape.local_meant.Goals as goal

pub returns : goal.returns
unfolding local_meant
returns c =
    let end = YieldsList-end (YieldsList-from_chars c.args.text.now c.utf8.text cc) c.loop-c.yielded _ c.loop-c.yielded_by _ _ c.in-None.is c.next.ensures.steps in
    c.from_string.ensures ∙ c.loop-c.invariant ∙ ap (λ cs. flat_map encode_utf8 (filter (λ c. not (c == 92)) cs)) (sym (map-id _) ∙ end.0)
