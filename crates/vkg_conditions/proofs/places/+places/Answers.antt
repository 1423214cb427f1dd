-- The step is at the root or at the first place below; of a list, at the first member that has one.
use Rattle.std.proofs.Common.{◌≡◌, ◌∙◌, Option, sym, ap, arith, map}
use Rattle.std.specs.Prelude.{option_map}
use Rattle.std.specs.Option.{option_or}
use Rattle.std.proofs.lemmas.Result.{IfOk-weaker}
use Rattle.vkg_expr.specs.Expr.{Expr, exprs}
use Rattle.vkg_expr.specs.Places.{first_place}
use Rattle.vkg_expr.specs.Seen.{expr_seen}
use Rattle.vkg_expr.proofs.Weights.{item-weighs, weight_of}
use Rattle.vkg_conditions.specs.Cases.{inside}
use Rattle.vkg_conditions.proofs.Found.{first_of-is, kept_all, not_one_here, one_for, one_here}
use Rattle.vkg_conditions.proofs.PlaceLemmas.{at_root, of_parts}
use Rattle.vkg_conditions.proofs.places.+places.Goals as goal

pub first_place-returns-in-Some : goal.first_place-returns-in-Some
first_place-returns-in-Some g t c =
    let f = g.C.Change.becomes c.args.change.now in
    let e = expr_seen c.args.e.now in
    ap (λ (o : Option Expr). option_or o (inside f e)) (ap (option_map expr_seen) (sym c.in-Some.is) ∙ c.in_ok-d.ensures) ∙ sym (at_root f e)

pub first_place-returns-in-None : goal.first_place-returns-in-None
first_place-returns-in-None g t c =
    let f = g.C.Change.becomes c.args.change.now in
    let e = expr_seen c.args.e.now in
    let root = ap (λ (o : Option Expr). option_or o (inside f e)) (ap (option_map expr_seen) (sym c.in-None.is) ∙ c.in_ok-d.ensures) ∙ sym (at_root f e) in
    IfOk-weaker c.inside.result (λ o. option_map expr_seen o ≡ inside f e) (λ o. option_map expr_seen o ≡ first_place f e) (λ o h. h ∙ root) c.inside.ensures

pub in_parts-first_place-requires : goal.in_parts-first_place-requires
in_parts-first_place-requires g t c κs within =
    let weighs = item-weighs c.args.list.now c.index-list-i.result c.loop-i.i (omega arith) in
    let same = ap weight_of c.index-list-i.is in
    (omega (arith, weighs, same), within)

pub in_parts-returns-in-Some : goal.in_parts-returns-in-Some
in_parts-returns-in-Some g t c =
    let f = g.C.Change.becomes c.args.change.now in
    let list = c.args.list.now in
    ap (option_map exprs) (one_here (first_place f) list c.loop-i.i c.index-list-i.result c.in-Some.d c.in_ok-single.field-0 c.in_ok-spliced.field-0 (omega arith) c.index-list-i.is c.loop-i.invariant
    (sym c.in_ok-d.ensures ∙ ap (option_map expr_seen) c.in-Some.is) c.in_ok-single.ensures c.in_ok-spliced.ensures
    ∙ sym (first_of-is f (map expr_seen list))) ∙ sym (of_parts f (map expr_seen list))

pub in_parts-loop-i-preserved : goal.in_parts-loop-i-preserved
in_parts-loop-i-preserved g t c =
    not_one_here (first_place (g.C.Change.becomes c.args.change.now)) c.args.list.now c.loop-i.i c.index-list-i.result (omega arith) c.index-list-i.is c.loop-i.invariant
    (sym c.in_ok-d.ensures ∙ ap (option_map expr_seen) c.in_default.is)

pub in_parts-returns : goal.in_parts-returns
in_parts-returns g t c =
    let f = g.C.Change.becomes c.args.change.now in
    let list = c.args.list.now in
    ap (option_map exprs) (sym (first_of-is f (map expr_seen list) ∙ kept_all (one_for (first_place f)) list c.loop-i.i (omega arith) c.loop-i.invariant)) ∙ sym (of_parts f (map expr_seen list))
