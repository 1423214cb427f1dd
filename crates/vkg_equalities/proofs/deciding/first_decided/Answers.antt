use Rattle.std.proofs.Common.{◌≡◌, Some, ◌<◌, ◌≤◌, arith, length}
use Rattle.vkg_expr.specs.Seen.{expr_seen}
use Rattle.vkg_equalities.specs.Decided.{decided}
use Rattle.vkg_equalities.specs.TableColumns.{flag_at}
use Rattle.vkg_equalities.proofs.Conjuncts.{changed-at, none-changed}
use Rattle.vkg_equalities.proofs.deciding.first_decided.Goals as goal

pub returns-in-Some-clause-value : goal.returns-in-Some-clause-value
returns-in-Some-clause-value c =
    let inside : c.loop-i.i < length c.args.list.now = grind arith in
    let found : decided (flag_at c.args.flags.now) c.args.kinds.now (expr_seen c.index-list-i.result) ≡ Some (expr_seen c.in-Some.d) = grind arith in
    changed-at (decided (flag_at c.args.flags.now) c.args.kinds.now) c.args.list.now c.loop-i.i c.index-list-i.result c.in-Some.d inside c.index-list-i.is c.loop-i.invariant found

pub returns-clause-value : goal.returns-clause-value
returns-clause-value c =
    let done : length c.args.list.now ≤ c.loop-i.i = grind arith in
    none-changed (decided (flag_at c.args.flags.now) c.args.kinds.now) c.args.list.now c.loop-i.i done c.loop-i.invariant
