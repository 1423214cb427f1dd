use Rattle.std.proofs.Common.{◌∙◌, ap, sym}
use Rattle.vkg_store.specs.Stored.{table_seen}
use Rattle.vkg_tables.proofs.KeptLemmas.{rows-past, rows-within}
use Rattle.vkg_tables.proofs.checks.rows_at.Goals as goal

pub returns-in-Some : goal.returns-in-Some
returns-in-Some c =
    c.new.ensures ∙ ap (table_seen c.args.texts.now) c.in-Some.ensures.lookup.1 ∙ rows-within c.args.texts.now c.args.tables.now c.args.table c.in-Some.stored.now c.in-Some.ensures.lookup.3.0

pub returns-in-None : goal.returns-in-None
returns-in-None c = c.none.ensures ∙ sym (rows-past c.args.texts.now c.args.tables.now c.args.table c.in-None.ensures.lookup.3)
