-- A condition says nothing of places.
use Rattle.vkg_sure.proofs.Nodes.{placed_anti, placed_join, placed_left, placed_select}
use Rattle.vkg_sure.proofs.placed.+placed.Goals as goal

pub placed-returns-in-Select : goal.placed-returns-in-Select
placed-returns-in-Select t c =
    placed_select c.args.schema.now c.args.plan.now c.in-Select.p c.deref.result.now c.in-Select.field-0 c.args.column c.placed.result c.in-Select.is c.deref.ensures c.placed.ensures

pub placed-returns-in-Join : goal.placed-returns-in-Join
placed-returns-in-Join t c =
    placed_join c.args.schema.now c.args.plan.now c.in-Join.ps c.as_slice-in-Join.result.now c.in-Join.field-1 c.args.column c.beside.result c.in-Join.is c.as_slice-in-Join.ensures c.beside.ensures

pub placed-returns-in-Left : goal.placed-returns-in-Left
placed-returns-in-Left t c =
    placed_left c.args.schema.now c.args.plan.now c.in-Left.p c.in-Left.q c.deref-in-Left.result.now c.deref-in-Left-2.result.now c.in-Left.field-2 c.args.column c.or_placed.result
    c.placed-told.result c.in-Left.is c.deref-in-Left.ensures c.deref-in-Left-2.ensures c.placed-told.ensures c.or_placed.ensures

pub placed-returns-in-AntiJoin : goal.placed-returns-in-AntiJoin
placed-returns-in-AntiJoin t c =
    placed_anti c.args.schema.now c.args.plan.now c.in-AntiJoin.p c.in-AntiJoin.field-1 c.deref-in-AntiJoin.result.now c.in-AntiJoin.field-2 c.args.column c.placed-in-AntiJoin.result c.in-AntiJoin.is c.deref-in-AntiJoin.ensures c.placed-in-AntiJoin.ensures
