use Rattle.std.proofs.Common.{◌≡◌, ◌∙◌, drop, Some, None, sym, ap}
use Rattle.std.specs.List.{position}
use Rattle.std.proofs.lemmas.List.{take_rest}
use Rattle.vkg_order.specs.Kept.{repeat_place}
use Rattle.vkg_order.proofs.Entering.{has_line, repeat-found, repeat-here, repeat-none}
use Rattle.vkg_order.proofs.held.drop_repeat.Goals as goal

pub returns-in-Some : goal.returns-in-Some
returns-in-Some c = λ front e rest h l.
    let held = c.args.held.now.items in
    let place = c.args.place in
    let p : position (has_line e.line) rest ≡ Some c.in-Some.behind =
    sym (c.repeat_place.ensures.place ∙ ap repeat_place (take_rest c.deref.result.now place) ∙ ap (λ es. repeat_place (drop place es)) c.deref.ensures.value ∙ repeat-here held front e rest place h l) ∙ c.in-Some.is in
    c.remove.ensures.items ∙ repeat-found held front e rest place c.in-Some.behind h l p

pub returns-in_default : goal.returns-in_default
returns-in_default c = λ front e rest h l.
    let held = c.args.held.now.items in
    let place = c.args.place in
    let p : position (has_line e.line) rest ≡ None =
    sym (c.repeat_place.ensures.place ∙ ap repeat_place (take_rest c.deref.result.now place) ∙ ap (λ es. repeat_place (drop place es)) c.deref.ensures.value ∙ repeat-here held front e rest place h l) ∙ c.in_default.is in
    repeat-none held front e rest h p
