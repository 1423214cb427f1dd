use Rattle.std.proofs.Common.{sym, ap, ◌∙◌, ◌≤◌, ◌≡◌, length, arith}
use Rattle.vkg_match.specs.Seen.{verdict_seen}
use Rattle.vkg_match.specs.Verdict.{both}
use Rattle.vkg_match.proofs.Joined.{both_never, longer}
use Rattle.vkg_match.proofs.terms.segments.Goals as goal

pub returns-in-len1-up-empty : goal.returns-in-len1-up-empty
returns-in-len1-up-empty c =
    let h = c.in-len1-up-empty in
    let long : 1 ≤ length c.loop-left.left.now = grind arith in
    let none : length c.loop-left.right.now ≡ 0 = grind arith in
    sym (c.loop-left.invariant ∙ ap (both (verdict_seen c.loop-left.verdict)) (longer c.args.sort.now c.loop-left.left.now c.loop-left.right.now long none) ∙ both_never (verdict_seen c.loop-left.verdict))
