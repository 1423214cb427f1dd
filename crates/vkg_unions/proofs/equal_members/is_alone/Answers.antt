-- The plan at a place is compared with those before it and those behind it.
use Rattle.std.proofs.Common.{◌≡◌, ◌∙◌, ◌+◌, ◌-◌, [], not, ◌&&◌, drop, length, sym, ap, arith, length-drop}
use Rattle.std.specs.List.{list_any}
use Rattle.std.proofs.lemmas.List.{take_all}
use Rattle.vkg_plan.specs.Seen.{plan_seen}
use Rattle.vkg_unions.specs.SamePlan.{same_plan}
use Rattle.vkg_unions.proofs.Told.{alone-is, alone-past}
use Rattle.vkg_unions.proofs.equal_members.is_alone.Goals as goal

pub returns-then-ps-at : goal.returns-then-ps-at
returns-then-ps-at c = alone-past [] c.args.ps.now c.args.at (omega arith)

pub returns-then-not-is_among : goal.returns-then-not-is_among
returns-then-not-is_among c =
    let ps = c.args.ps.now in
    let n = c.args.at + 1 in
    let p = c.index-ps-at.result in
    let long = length-drop n ps in
    let whole = take_all (length ps - n) (drop n ps) (omega (arith, long)) in
    let behind = list_any (λ q. same_plan (plan_seen p) (plan_seen q)) (drop n ps) in
    let ahead : c.is_ahead.result ≡ behind = c.is_ahead.ensures ∙ ap (list_any (λ q. same_plan (plan_seen p) (plan_seen q))) whole in
    ap not ahead ∙ ap (λ b. not b && not behind) (sym c.if-not-is_among.true ∙ c.is_among.ensures) ∙ alone-is ps c.args.at p (omega arith) c.index-ps-at.is

pub returns-else-not-is_among : goal.returns-else-not-is_among
returns-else-not-is_among c =
    let ps = c.args.ps.now in
    let p = c.index-ps-at.result in
    let behind = list_any (λ q. same_plan (plan_seen p) (plan_seen q)) (drop (c.args.at + 1) ps) in
    ap not c.if-not-is_among.false ∙ ap (λ b. not b && not behind) (sym c.if-not-is_among.false ∙ c.is_among.ensures) ∙ alone-is ps c.args.at p (omega arith) c.index-ps-at.is
