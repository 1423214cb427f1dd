use Rattle.std.proofs.Common.{◌∙◌, ap, refl, sym}
use Rattle.std.proofs.lemmas.List.{drop_all}
use Rattle.vkg_cli.proofs.Ran.{ran_settle, ran_short}
use Rattle.vkg_cli.proofs.Tables.{tables_next, tables_stop}
use Rattle.vkg_cli.proofs.load.load_tables.Goals as goal

pub loop-k-init : goal.loop-k-init
loop-k-init g c = record {
  schema = ap (λ d. d.schema) c.in-Ok.ensures;
  rest = λ new result ran. rw (c.in-Ok.ensures, c.tables-table-items.ensures.value) at ran;
}

pub load_table-requires : goal.load_table-requires
load_table-requires g c =
    let inside = c.loop-k-test.true in
    let same = c.loop-k.invariant.schema ∙ sym c.tables-table-items.ensures.value in
    rw same inside

pub returns-in-Err-load_table-clause-ran : goal.returns-in-Err-load_table-clause-ran
returns-in-Err-load_table-clause-ran g c =
    c.loop-k.invariant.rest _ _ (tables_stop _ _ _ _ _ c.loop-k-test.true c.table-item.is _ _ _ c.in-Err-load_table.ensures.ran)

pub loop-k-preserved : goal.loop-k-preserved
loop-k-preserved g c = record {
  schema = c.in-Ok-load_table.ensures.schema ∙ c.loop-k.invariant.schema;
  rest = λ new result ran. c.loop-k.invariant.rest new result (tables_next _ _ _ _ _ c.loop-k-test.true c.table-item.is _ _ _ _ _ c.in-Ok-load_table.ensures.ran ran);
}

pub returns-clause-ran : goal.returns-clause-ran
returns-clause-ran g c = c.loop-k.invariant.rest _ _ (rw (drop_all _ _ c.loop-k-test.false) (ran_settle _ _ _ refl))

pub returns-in-Err-clause-ran : goal.returns-in-Err-clause-ran
returns-in-Err-clause-ran g c = ran_short _ _
