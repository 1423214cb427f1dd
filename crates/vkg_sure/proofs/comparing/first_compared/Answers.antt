-- The first conjunct that is compared is found where it stands.
use Rattle.std.proofs.Common.{◌∙◌, sym, ap, arith, map}
use Rattle.std.specs.Prelude.{option_map}
use Rattle.vkg_expr.specs.Seen.{expr_seen}
use Rattle.vkg_conditions.proofs.Found.{first_conjunct-is, kept_all, not_one_here, one_for, one_here}
use Rattle.vkg_equalities.specs.TableColumns.{flag_at}
use Rattle.vkg_sure.specs.TermComparison.{compared}
use Rattle.vkg_sure.proofs.comparing.first_compared.Goals as goal

pub returns-in-Some : goal.returns-in-Some
returns-in-Some c =
    let f = compared (flag_at c.args.flags.now) c.args.kinds.now in
    one_here f c.args.list.now c.loop-i.i c.index-list-i.result c.in-Some.d c.in_ok-single.field-0 c.in_ok-spliced.field-0 (omega arith) c.index-list-i.is c.loop-i.invariant
    (sym c.in_ok-d.ensures ∙ ap (option_map expr_seen) c.in-Some.is) c.in_ok-single.ensures c.in_ok-spliced.ensures
    ∙ sym (first_conjunct-is f (map expr_seen c.args.list.now))

pub loop-i-preserved : goal.loop-i-preserved
loop-i-preserved c =
    not_one_here (compared (flag_at c.args.flags.now) c.args.kinds.now) c.args.list.now c.loop-i.i c.index-list-i.result (omega arith) c.index-list-i.is c.loop-i.invariant
    (sym c.in_ok-d.ensures ∙ ap (option_map expr_seen) c.in_default.is)

pub returns : goal.returns
returns c =
    let f = compared (flag_at c.args.flags.now) c.args.kinds.now in
    sym (first_conjunct-is f (map expr_seen c.args.list.now) ∙ kept_all (one_for f) c.args.list.now c.loop-i.i (omega arith) c.loop-i.invariant)
