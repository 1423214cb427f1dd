use Rattle.std.proofs.Common.{◌≡◌, ◌∙◌, sym}
use Rattle.vkg_lists.specs.Texts.{bytes_cmp}
use Rattle.vkg_terms.specs.NQuads.{annotation_text}
use Rattle.vkg_order.specs.Marks.{bracketed_order}
use Rattle.vkg_order.proofs.Texts.{bracketed-order}
use Rattle.vkg_order.proofs.marks.order_annotations.Goals as goal

pub returns-in-Typed-Typed : goal.returns-in-Typed-Typed
returns-in-Typed-Typed c =
    let h = c.in-Typed-Typed in
    let p : c.as_bytes.result.now ≡ h.a = c.as_bytes.ensures.value ∙ c.as_str-in-Typed-Typed.ensures ∙ c.iri.ensures.value in
    let q : c.as_bytes-in-Typed-Typed.result.now ≡ h.b = c.as_bytes-in-Typed-Typed.ensures.value ∙ c.as_str-in-Typed-Typed-2.ensures ∙ c.iri-in-Typed-Typed.ensures.value in
    c.order_bracketed.ensures ∙ (λ i. bracketed_order (p i) (q i)) ∙ sym (bracketed-order h.a h.b)
    ∙ sym (λ i. bytes_cmp (annotation_text (h.is-0 i)) (annotation_text (h.is-1 i)))
