use Rattle.std.proofs.Common.{◌≡◌, ◌∙◌, ◌+◌, length, position, slice_get, string_bytes, sym, ap, arith}
use Rattle.std.specs.Str.{bytes_eq}
use Rattle.std.proofs.lemmas.List.{length-map}
use Rattle.std.proofs.lemmas.Result.{IfOk-weaker}
use Rattle.vkg_lists.proofs.Positions.{position-map}
use Rattle.vkg_store.proofs.TextLemmas.{get-last, interned-new, interned-there, lacks_text, on-ok, stored_at_place}
use Rattle.vkg_store.proofs.texts.Texts.intern.Goals as goal

pub returns-in-Some-clause-stored : goal.returns-in-Some-clause-stored
returns-in-Some-clause-stored c =
    let text = c.args.text.now in
    let at = stored_at_place text c.args.self.now c.in-Some.place
    (sym (c.get_index_of.ensures.index ∙ position-map string_bytes (bytes_eq text) c.self.inside.texts.keys ∙ ap (position (bytes_eq text)) c.self.view_is) ∙ c.in-Some.is) in
    IfOk-weaker c.next.result (λ n. n ≡ c.in-Some.place + 1) _ (λ n e. (c.in-Some.place, e, at)) c.next.ensures

pub returns-in-Some-clause-once : goal.returns-in-Some-clause-once
returns-in-Some-clause-once c =
    let text = c.args.text.now in
    on-ok c.next.result
    (interned-there text c.args.self.now c.in-Some.place
    (sym (c.get_index_of.ensures.index ∙ position-map string_bytes (bytes_eq text) c.self.inside.texts.keys ∙ ap (position (bytes_eq text)) c.self.view_is) ∙ c.in-Some.is))

pub add-requires : goal.add-requires
add-requires c =
    let text = c.args.text.now in
    lacks_text text c.args.self.now
    (sym (c.get_index_of.ensures.index ∙ position-map string_bytes (bytes_eq text) c.self.inside.texts.keys ∙ ap (position (bytes_eq text)) c.self.view_is) ∙ c.in-None.is)

pub returns-in_ok-add-in-None-clause-stored : goal.returns-in_ok-add-in-None-clause-stored
returns-in_ok-add-in-None-clause-stored c =
    let now = c.args.self.now in
    let long = length-map c.self.inside.texts.keys string_bytes in
    let number : c.in_ok-number-in-None.number ≡ length now + 1 = omega (arith, c.in_ok-number-in-None.ensures, c.len.ensures.len, long, ap length c.self.view_is) in
    (length now, number, ap (λ xs. slice_get xs (length now)) c.in_ok-add-in-None.ensures.ok ∙ get-last now c.args.text.now)

pub returns-in_ok-add-in-None-clause-once : goal.returns-in_ok-add-in-None-clause-once
returns-in_ok-add-in-None-clause-once c =
    let text = c.args.text.now in
    c.in_ok-add-in-None.ensures.ok
    ∙ interned-new text c.args.self.now
    (sym (c.get_index_of.ensures.index ∙ position-map string_bytes (bytes_eq text) c.self.inside.texts.keys ∙ ap (position (bytes_eq text)) c.self.view_is) ∙ c.in-None.is)
