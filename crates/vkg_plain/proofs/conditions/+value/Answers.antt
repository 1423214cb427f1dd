-- The value of a chain, and where a number of more than 38 digits was asked for in an operator of two operands or more.
use Rattle.std.proofs.Common.{◌≡◌, map, refl, subst, ap, ◌∙◌}
use Rattle.std.specs.Prelude.{IfOk}
use Rattle.std.specs.List.{list_any}
use Rattle.vkg_sparql.specs.Query.{And, Or}
use Rattle.vkg_sparql.specs.Seen.{condition_seen}
use Rattle.vkg_sparql.proofs.SeenForms.{seen-And, seen-Compare, seen-Or, seen-Test}
use Rattle.vkg_algebra.specs.Values.{expression_value}
use Rattle.vkg_plain.specs.Asks.{asks}
use Rattle.vkg_plain.proofs.Asked.{OnlyWhere, chain_asks, compare_asks, test_asks}
use Rattle.vkg_plain.specs.Chains.{both_value, either_value}
use Rattle.vkg_plain.proofs.Chains.{chain_result}
use Rattle.vkg_plain.proofs.conditions.+value.Goals as goal

pub value-returns-in-And-clause-value : goal.value-returns-in-And-clause-value
value-returns-in-And-clause-value t c =
    let s = c.args.solution.now in
    chain_result And both_value s (λ a b. refl) c.in-And.first c.in-And.more c.args.condition.now c.all_of.result c.value-in-And.result c.values.result c.all_of.ensures.value
    (subst (λ a. IfOk c.value-in-And.result (λ w. w ≡ expression_value (condition_seen a) s)) c.deref-in-And.ensures c.value-in-And.ensures.value)
    (subst (λ ds. IfOk c.values.result (λ vs. vs ≡ map (λ d. expression_value (condition_seen d) s) ds)) c.as_slice.ensures c.values.ensures.value)
    (ap condition_seen c.in-And.is ∙ seen-And c.in-And.first c.in-And.more)

pub value-returns-in-And-clause-wide : goal.value-returns-in-And-clause-wide
value-returns-in-And-clause-wide t c =
    let s = c.args.solution.now in
    chain_asks And s (λ a b. refl) c.all_of.result c.in-And.first c.in-And.more c.args.condition.now c.value-in-And.result c.values.result c.all_of.ensures.wide
    (subst (λ a. IfOk c.value-in-And.result (λ w. w ≡ expression_value (condition_seen a) s)) c.deref-in-And.ensures c.value-in-And.ensures.value)
    (subst (λ a. OnlyWhere c.value-in-And.result (asks (condition_seen a) s)) c.deref-in-And.ensures c.value-in-And.ensures.wide)
    (subst (λ ds. IfOk c.values.result (λ vs. vs ≡ map (λ d. expression_value (condition_seen d) s) ds)) c.as_slice.ensures c.values.ensures.value)
    (subst (λ ds. OnlyWhere c.values.result (list_any (λ d. asks (condition_seen d) s) ds)) c.as_slice.ensures c.values.ensures.wide)
    (ap condition_seen c.in-And.is ∙ seen-And c.in-And.first c.in-And.more)

pub value-returns-in-Or-clause-value : goal.value-returns-in-Or-clause-value
value-returns-in-Or-clause-value t c =
    let s = c.args.solution.now in
    chain_result Or either_value s (λ a b. refl) c.in-Or.first c.in-Or.more c.args.condition.now c.any_of.result c.value-in-Or.result c.values-in-Or.result c.any_of.ensures.value
    (subst (λ a. IfOk c.value-in-Or.result (λ w. w ≡ expression_value (condition_seen a) s)) c.deref-in-Or.ensures c.value-in-Or.ensures.value)
    (subst (λ ds. IfOk c.values-in-Or.result (λ vs. vs ≡ map (λ d. expression_value (condition_seen d) s) ds)) c.as_slice-in-Or.ensures c.values-in-Or.ensures.value)
    (ap condition_seen c.in-Or.is ∙ seen-Or c.in-Or.first c.in-Or.more)

pub value-returns-in-Or-clause-wide : goal.value-returns-in-Or-clause-wide
value-returns-in-Or-clause-wide t c =
    let s = c.args.solution.now in
    chain_asks Or s (λ a b. refl) c.any_of.result c.in-Or.first c.in-Or.more c.args.condition.now c.value-in-Or.result c.values-in-Or.result c.any_of.ensures.wide
    (subst (λ a. IfOk c.value-in-Or.result (λ w. w ≡ expression_value (condition_seen a) s)) c.deref-in-Or.ensures c.value-in-Or.ensures.value)
    (subst (λ a. OnlyWhere c.value-in-Or.result (asks (condition_seen a) s)) c.deref-in-Or.ensures c.value-in-Or.ensures.wide)
    (subst (λ ds. IfOk c.values-in-Or.result (λ vs. vs ≡ map (λ d. expression_value (condition_seen d) s) ds)) c.as_slice-in-Or.ensures c.values-in-Or.ensures.value)
    (subst (λ ds. OnlyWhere c.values-in-Or.result (list_any (λ d. asks (condition_seen d) s) ds)) c.as_slice-in-Or.ensures c.values-in-Or.ensures.wide)
    (ap condition_seen c.in-Or.is ∙ seen-Or c.in-Or.first c.in-Or.more)

pub value-returns-in-Compare-clause-wide : goal.value-returns-in-Compare-clause-wide
value-returns-in-Compare-clause-wide t c =
    let s = c.args.solution.now in
    compare_asks c.compared.result c.value-in-Compare.result c.value-in-Compare-2.result
    (asks (condition_seen c.in-Compare.a) s) (asks (condition_seen c.in-Compare.b) s) (asks (condition_seen c.args.condition.now) s)
    (expression_value (condition_seen c.in-Compare.a) s) (expression_value (condition_seen c.in-Compare.b) s) c.compared.ensures.wide
    (subst (λ a. IfOk c.value-in-Compare.result (λ w. w ≡ expression_value (condition_seen a) s)) c.deref-in-Compare.ensures c.value-in-Compare.ensures.value)
    (subst (λ a. OnlyWhere c.value-in-Compare.result (asks (condition_seen a) s)) c.deref-in-Compare.ensures c.value-in-Compare.ensures.wide)
    (subst (λ a. IfOk c.value-in-Compare-2.result (λ w. w ≡ expression_value (condition_seen a) s)) c.deref-in-Compare-2.ensures c.value-in-Compare-2.ensures.value)
    (subst (λ a. OnlyWhere c.value-in-Compare-2.result (asks (condition_seen a) s)) c.deref-in-Compare-2.ensures c.value-in-Compare-2.ensures.wide)
    (ap (λ x. asks (condition_seen x) s) c.in-Compare.is ∙ ap (λ x. asks x s) (seen-Compare c.in-Compare.compare c.in-Compare.a c.in-Compare.b))

pub value-returns-in-Test-clause-wide : goal.value-returns-in-Test-clause-wide
value-returns-in-Test-clause-wide t c =
    let s = c.args.solution.now in
    test_asks c.tested.result c.value.result (asks (condition_seen c.in-Test.a) s) (asks (condition_seen c.args.condition.now) s) (expression_value (condition_seen c.in-Test.a) s) c.tested.ensures.wide
    (subst (λ a. IfOk c.value.result (λ w. w ≡ expression_value (condition_seen a) s)) c.deref.ensures c.value.ensures.value)
    (subst (λ a. OnlyWhere c.value.result (asks (condition_seen a) s)) c.deref.ensures c.value.ensures.wide)
    (ap (λ x. asks (condition_seen x) s) c.in-Test.is ∙ ap (λ x. asks x s) (seen-Test c.in-Test.test c.in-Test.a))
