-- A chain of two or more gives a truth.
use Rattle.std.proofs.Common.{◌≡◌, ◌∙◌, ap, sym}
use Rattle.vkg_sparql.specs.Seen.{condition_seen}
use Rattle.vkg_unfolded.specs.Conditions.{gives_truth}
use Rattle.vkg_unfold.specs.Parts.{some_or}
use Rattle.vkg_unfold.proofs.Steps.{truth_all, truth_any}
use Rattle.vkg_unfold.proofs.conditions.+gives_truth.Goals as goal
use Rattle.vkg_sparql.proofs.SeenForms.{seen-And, seen-Or}

pub returns-in-And : goal.returns-in-And
returns-in-And t c =
    let first : c.gives_truth.result ≡ gives_truth (condition_seen c.in-And.first) = c.gives_truth.ensures ∙ ap (λ x. gives_truth (condition_seen x)) c.deref.ensures in
    c.of_chain.ensures ∙ (λ i. some_or (c.as_slice.ensures i) (first i))
    ∙ sym (truth_all (condition_seen c.in-And.first) c.in-And.more) ∙ sym (ap gives_truth (seen-And c.in-And.first c.in-And.more)) ∙ ap (λ x. gives_truth (condition_seen x)) (sym c.in-And.is)

pub returns-in-Or : goal.returns-in-Or
returns-in-Or t c =
    let first : c.gives_truth-in-Or.result ≡ gives_truth (condition_seen c.in-Or.first) = c.gives_truth-in-Or.ensures ∙ ap (λ x. gives_truth (condition_seen x)) c.deref-in-Or.ensures in
    c.of_chain-in-Or.ensures ∙ (λ i. some_or (c.as_slice-in-Or.ensures i) (first i))
    ∙ sym (truth_any (condition_seen c.in-Or.first) c.in-Or.more) ∙ sym (ap gives_truth (seen-Or c.in-Or.first c.in-Or.more)) ∙ ap (λ x. gives_truth (condition_seen x)) (sym c.in-Or.is)
