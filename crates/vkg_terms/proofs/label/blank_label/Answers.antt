use Rattle.std.proofs.Common.{◌∙◌, arith}
use Rattle.vkg_terms.proofs.LabelLemmas.{label_same, label_steps}
use Rattle.vkg_terms.proofs.label.blank_label.Goals as goal

pub returns-clause-value : goal.returns-clause-value
returns-clause-value c =
    label_steps c.args.text.now _ _ _ _ _ _ (λ i. omega (arith, c.type_inv.text i))
    c.new-label.ensures.bytes (c.in_ok-push.ensures.ascii (omega arith)) c.in_ok-push.ensures.bytes
    c.in_ok-digits.ensures c.as_str.ensures.value c.in_ok-push_str.ensures.bytes

pub returns-clause-one_to_one : goal.returns-clause-one_to_one
returns-clause-one_to_one c = λ other e. label_same _ _ (e ∙ returns-clause-value c)
