-- The first such member is found where it stands.
use Rattle.std.proofs.Common.{◌∙◌, ◌+◌, sym, ap, arith, map, take}
use Rattle.std.specs.Prelude.{option_map}
use Rattle.std.proofs.lemmas.List.{take_rest}
use Rattle.vkg_expr.specs.Seen.{expr_seen}
use Rattle.vkg_sure.specs.FirstKnown.{fewer_at}
use Rattle.vkg_sure.proofs.Found.{found_here, kept_all, not_here}
use Rattle.vkg_sure.proofs.members.fewer.Goals as goal

pub returns-in-Some : goal.returns-in-Some
returns-in-Some c =
    let list = c.args.list.now in
    let i = c.loop-i.i in
    let e = c.index-list-i.result in
    found_here c.args.own.now list i e (omega arith) c.index-list-i.is c.loop-i.invariant c.in-Some.d
    (ap (λ l. fewer_at c.args.own.now (map expr_seen (take i list)) (expr_seen e) (map expr_seen l)) (sym (take_rest list (i + 1)))
    ∙ sym c.in_ok-d.ensures ∙ ap (option_map (map expr_seen)) c.in-Some.is)

pub loop-i-preserved : goal.loop-i-preserved
loop-i-preserved c =
    let list = c.args.list.now in
    let i = c.loop-i.i in
    let e = c.index-list-i.result in
    not_here c.args.own.now list i e (omega arith) c.index-list-i.is c.loop-i.invariant
    (ap (λ l. fewer_at c.args.own.now (map expr_seen (take i list)) (expr_seen e) (map expr_seen l)) (sym (take_rest list (i + 1)))
    ∙ sym c.in_ok-d.ensures ∙ ap (option_map (map expr_seen)) c.in_default.is)

pub returns : goal.returns
returns c = sym (kept_all c.args.own.now c.args.list.now c.loop-i.i (omega arith) c.loop-i.invariant)
