-- What was read in all is the text.
use Rattle.std.proofs.Common.{◌++◌, ◌∙◌, sym, ap, flat_map, string_bytes}
use Rattle.std.proofs.lemmas.Iterator.{YieldsList-from_chars}
use Rattle.std.proofs.lemmas.Iterator.Consumers.{YieldsList-end}
use Rattle.std.proofs.lemmas.List.{map-id}
use Rattle.vkg_sqltext.specs.Text.{doubled}
use Rattle.vkg_sqltext.proofs.lists.push_doubled.Goals as goal

pub returns : goal.returns
returns c =
    let end = YieldsList-end (YieldsList-from_chars c.args.text.now c.utf8.text cc) c.loop-c.yielded _ c.loop-c.yielded_by _ _ c.in-None.is c.next.ensures.steps in
    c.loop-c.invariant ∙ ap (λ cs. string_bytes c.args.out.now ++ flat_map (doubled c.args.sign) cs) (sym (map-id _) ∙ end.0)
