use Rattle.std.proofs.Common.{◌∙◌, ap}
use Rattle.vkg_sparql.specs.Seen.{query_seen}
use Rattle.vkg_plan.specs.Seen.{plan_seen}
use Rattle.vkg_normal.specs.NormalForm.{normal_form}
use Rattle.vkg_rewrite.specs.Rewritten.{rewritten}
use Rattle.vkg_rewrite.proofs.Answered.{solutions_as}
use Rattle.vkg_rewrite.proofs.Typed.{end_as, joins_fit, settled_as, start_typed_as, typed_as}
use Rattle.vkg_rewrite.proofs.rewriting.rewrite.Goals as goal

pub plan_of-requires : goal.plan_of-requires
plan_of-requires c =
    rw (c.as_slice.ensures, c.in_ok-rules.ensures) (joins_fit c.args.schema.now c.args.mapping.now (query_seen c.args.query.now) c.tables-tables.ensures.form c.requires)

pub normal_plan-requires : goal.normal_plan-requires
normal_plan-requires c =
    start_typed_as c.args.schema.now c.args.mapping.now (query_seen c.args.query.now) c.tables-tables.ensures.form c.requires (plan_seen c.in_ok-start.start)
    (rw (c.as_slice.ensures, c.in_ok-rules.ensures) at c.in_ok-start.ensures)

pub returns-clause-plan : goal.returns-clause-plan
unfolding rewritten
returns-clause-plan c =
    c.in_ok-plan.ensures ∙ ap (normal_form c.args.schema.now) (rw (c.as_slice.ensures, c.in_ok-rules.ensures) at c.in_ok-start.ensures)

pub returns-clause-typed : goal.returns-clause-typed
returns-clause-typed c =
    typed_as c.args.schema.now c.args.mapping.now (query_seen c.args.query.now) c.tables-tables.ensures.form c.requires (plan_seen c.in_ok-plan.plan) (returns-clause-plan c)

pub returns-clause-end : goal.returns-clause-end
returns-clause-end c =
    end_as c.args.schema.now c.args.mapping.now (query_seen c.args.query.now) c.tables-tables.ensures.form c.requires (plan_seen c.in_ok-plan.plan) (returns-clause-plan c)

pub returns-clause-settled : goal.returns-clause-settled
returns-clause-settled c =
    settled_as c.args.schema.now c.args.mapping.now (query_seen c.args.query.now) c.tables-tables.ensures.form c.requires (plan_seen c.in_ok-plan.plan) (returns-clause-plan c)

pub returns-clause-solutions : goal.returns-clause-solutions
returns-clause-solutions c =
    solutions_as c.args.schema.now c.args.mapping.now (query_seen c.args.query.now) c.tables-tables.ensures.form c.requires (plan_seen c.in_ok-plan.plan) (returns-clause-plan c)
