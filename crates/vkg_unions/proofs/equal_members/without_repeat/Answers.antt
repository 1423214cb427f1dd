-- The first repeat is found where it stands.
use Rattle.std.proofs.Common.{◌∙◌, rules, sym, arith}
use Rattle.vkg_unions.proofs.Keys.{keys_taken}
use Rattle.vkg_unions.proofs.Repeats.{not_repeated_here, repeated_here}
use Rattle.vkg_unions.proofs.equal_members.without_repeat.Goals as goal

pub is_repeated-requires-clause-keys : goal.is_repeated-requires-clause-keys
is_repeated-requires-clause-keys c = keys_taken c.as_slice-keys.result.now c.args.ps.now c.loop-i.i (search rules)

pub returns-then-is_repeated : goal.returns-then-is_repeated
returns-then-is_repeated c =
    repeated_here c.args.ps.now c.loop-i.i c.index-ps-i.result c.in_ok-without.field-0 (omega arith) c.index-ps-i.is (sym c.is_repeated.ensures ∙ c.if-is_repeated.true) c.in_ok-without.ensures c.loop-i.invariant

pub loop-i-preserved : goal.loop-i-preserved
loop-i-preserved c = not_repeated_here c.args.ps.now c.loop-i.i c.index-ps-i.result (omega arith) c.index-ps-i.is (sym c.is_repeated.ensures ∙ c.if-is_repeated.false) c.loop-i.invariant
