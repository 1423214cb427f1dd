use Rattle.std.proofs.Common.{◌<◌, ◌∙◌, ap, arith, length, subst, sym}
use Rattle.std.specs.List.{AllByRecursion}
use Rattle.vkg_store.specs.Stored.{table_seen}
use Rattle.vkg_tables.specs.Parts.{HasNoTerm}
use Rattle.vkg_tables.proofs.KeptLemmas.{mapped-at}
use Rattle.vkg_tables.specs.Checks.{broken_references}
use Rattle.vkg_tables.specs.Kept.{tables_seen}
use Rattle.vkg_tables.proofs.Places.{tables-first}
use Rattle.vkg_tables.proofs.checks.find_reference_fault.Goals as goal

pub loop-i-init : goal.loop-i-init
loop-i-init c = tables-first 10 (broken_references (tables_seen c.args.texts.now c.args.tables.now)) 1 c.args.schema.now (tables_seen c.args.texts.now c.args.tables.now)

pub reference_place-requires : goal.reference_place-requires
reference_place-requires c =
    let texts = c.args.texts.now in
    let t = c.index-tables-i.result in
    let within : c.loop-i.i < length c.args.tables.now = omega arith in
    subst (AllByRecursion HasNoTerm) (sym (c.new-rows.ensures ∙ ap (table_seen texts) c.index-tables-i.is))
    (mapped-at (AllByRecursion HasNoTerm) (table_seen texts) c.args.tables.now c.loop-i.i t c.requires.terms within)
