-- A member has fewer nodes than the list.
use Rattle.std.proofs.Common.{◌≡◌, ℕ, ◌<◌, List, map, length, get_or, sym, subst}
use Rattle.std.proofs.lemmas.List.{get_or_default}
use Rattle.vkg_plan.specs.declared.plan.Plan.{Plan as PlanValue}
use Rattle.vkg_plan.specs.Plan.{Plan, plans}
use Rattle.vkg_plan.specs.Seen.{plan_seen}
use Rattle.vkg_rules.proofs.Inside.{nodes, nodes_each}
use Rattle.vkg_rules.proofs.Members.{nodes-member}

-- the members as they are now, and how they were seen at first
pub fewer_nodes : (ms : List PlanValue) (ps : List Plan) (i : ℕ) (d : PlanValue) → map plan_seen ms ≡ ps → i < length ms → nodes (plan_seen (get_or ms i d)) < nodes_each (plans ps)
fewer_nodes ms ps i d same below = subst (λ l. nodes (plan_seen (get_or ms i d)) < nodes_each (plans l)) same (nodes-member ms i (get_or ms i d) below (sym (get_or_default ms i (get_or ms i d) d below)))
