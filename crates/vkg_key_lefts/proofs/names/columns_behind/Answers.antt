-- The next column is one further.
use Rattle.std.proofs.Common.{length}
use Rattle.vkg_keys.proofs.SeenColumns.{one_more}
use Rattle.vkg_key_lefts.proofs.names.columns_behind.Goals as goal

pub loop-i-preserved : goal.loop-i-preserved
loop-i-preserved c = one_more (length c.args.first.now) c.loop-i.i c.loop-i.columns c.in_ok-push.ensures.ok c.loop-i.invariant
