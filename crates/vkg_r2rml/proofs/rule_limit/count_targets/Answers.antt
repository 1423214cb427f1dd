use Rattle.std.proofs.Common.{◌++◌, length-append, arith}
use Rattle.vkg_r2rml.proofs.RuleCount.{target_count}
use Rattle.vkg_r2rml.proofs.rule_limit.count_targets.Goals as goal

pub returns : goal.returns
returns c = let e = target_count (c.args.graphs.now ++ c.args.more.now) in let l = length-append c.args.graphs.now c.args.more.now in omega (arith, e, l)
