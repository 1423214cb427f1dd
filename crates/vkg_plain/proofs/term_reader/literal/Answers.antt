use Rattle.std.proofs.Common.{◌++◌, ◌∷◌, ℕ, List, ap, ◌∙◌}
use Rattle.std.proofs.lemmas.Result.{err_from_is_err_and}
use Rattle.vkg_terms.specs.NQuads.{annotation_text}
use Rattle.vkg_terms.specs.declared.term.Term.TheVariants.{Lit}
use Rattle.vkg_plain.proofs.TermLemmas.{literal_shape, visible_annotation}
use Rattle.vkg_plain.proofs.term_reader.literal.Goals as goal

pub returns-in_default-clause-value : goal.returns-in_default-clause-value
returns-in_default-clause-value c = λ form a rest w h e.
    let parts = c.in_ok-form.ensures.value form (annotation_text a ++ 32 ∷ rest) w.0 (literal_shape c.args.text.now form a rest e) in
    absurd (c.in_default.ensures.value (annotation_text a) rest (visible_annotation a w.1) parts.1)

pub returns-in_err-annotation-clause-value : goal.returns-in_err-annotation-clause-value
returns-in_err-annotation-clause-value c = λ form a rest w h e.
    let parts = c.in_ok-form.ensures.value form (annotation_text a ++ 32 ∷ rest) w.0 (literal_shape c.args.text.now form a rest e) in
    let cut = c.in-Some.ensures.value (annotation_text a) rest (visible_annotation a w.1) parts.1 in
    let p = err_from_is_err_and c.from_residual-in_err-annotation.result c.from_residual-in_err-annotation.ensures.1 in
    rw (p.1, p.2) (c.in_err-annotation.ensures a h cut.0)

pub returns-clause-value : goal.returns-clause-value
returns-clause-value c = λ form a rest w h e.
    let parts = c.in_ok-form.ensures.value form (annotation_text a ++ 32 ∷ rest) w.0 (literal_shape c.args.text.now form a rest e) in
    let cut = c.in-Some.ensures.value (annotation_text a) rest (visible_annotation a w.1) parts.1 in
    (ap (λ (z : List ℕ). Lit z c.in_ok-annotation.annotation) parts.0 ∙ ap (Lit form) (c.in_ok-annotation.ensures a h cut.0), cut.1)
