-- The first union is found where it stands.
use Rattle.std.proofs.Common.{◌∙◌, Some, sym, ap, arith}
use Rattle.std.specs.Prelude.{option_map}
use Rattle.vkg_rules.specs.StepSeen.{plans_seen}
use Rattle.vkg_spreads.proofs.Finding.{found_here}
use Rattle.vkg_spreads.proofs.unions.first_union.Goals as goal

pub returns-in-Some : goal.returns-in-Some
returns-in-Some c =
    let is = ap (option_map (λ us. plans_seen us.now)) (sym c.in-Some.is) ∙ c.union_members.ensures in
    sym (found_here c.args.ps.now c.loop-p.p-index c.p-item.result (Some (plans_seen c.in-Some.us.now)) (omega arith) c.p-item.is is c.loop-p.invariant)
