use Rattle.std.proofs.Common.{◌≡◌}
use Rattle.std.proofs.lemmas.Result.{IfOk-weaker}
use Rattle.vkg_sparql.specs.Lawful.{IsLawfulQuery}
use Rattle.vkg_sparql.specs.Seen.{query_seen}
use Rattle.vkg_plan.specs.Seen.{plan_seen}
use Rattle.vkg_unfolded.specs.FineRows.{Meets}
use Rattle.vkg_unfolded.specs.Unfolded.{start_plan}
use Rattle.vkg_answers.specs.Answering.{GivesSolutions}
use Rattle.vkg_unfold.proofs.Stands.{solutions_as}
use Rattle.vkg_unfold.proofs.query.start_plan.Goals as goal

pub returns-clause-solutions : goal.returns-clause-solutions
returns-clause-solutions c =
    let schema = c.args.schema.now in
    let made = c.args.rules.now in
    let query = query_seen c.args.query.now in
    IfOk-weaker c.selected_plan.result (λ p. plan_seen p ≡ start_plan schema made query)
    (λ p. IsLawfulQuery query → GivesSolutions (Meets schema made) schema made (plan_seen p) query)
    (λ p e. solutions_as schema made query (plan_seen p) e) c.selected_plan.ensures
