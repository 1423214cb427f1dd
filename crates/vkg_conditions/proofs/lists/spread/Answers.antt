-- The first nested one is found where it stands.
use Rattle.std.proofs.Common.{◌∙◌, sym, ap, arith, map}
use Rattle.std.specs.Prelude.{option_map}
use Rattle.vkg_expr.specs.Seen.{expr_seen}
use Rattle.vkg_conditions.proofs.Found.{nested_in, none_spread, not_here, spread_here}
use Rattle.vkg_conditions.proofs.lists.spread.Goals as goal

pub returns-in-Some : goal.returns-in-Some
returns-in-Some c =
    spread_here c.args.sort c.args.list.now c.loop-i.i c.index-list-i.result c.in-Some.inner c.in_ok-spliced.field-0 (omega arith) c.index-list-i.is c.loop-i.invariant
    (sym c.in_ok-inner.ensures ∙ ap (option_map (map expr_seen)) c.in-Some.is) c.in_ok-spliced.ensures

pub loop-i-preserved : goal.loop-i-preserved
loop-i-preserved c =
    not_here (nested_in c.args.sort) c.args.list.now c.loop-i.i c.index-list-i.result (omega arith) c.index-list-i.is c.loop-i.invariant
    (sym c.in_ok-inner.ensures ∙ ap (option_map (map expr_seen)) c.in_default.is)

pub returns : goal.returns
returns c = none_spread c.args.sort c.args.list.now c.loop-i.i (omega arith) c.loop-i.invariant
