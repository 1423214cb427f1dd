use Rattle.std.proofs.Common.{◌≡◌, ◌∙◌, ◌+◌, Ok, ap, ap₂, map, subst, sym}
use Rattle.std.specs.List.{AllZip}
use Rattle.csv.specs.Records.{AllText, fields_of}
use Rattle.vkg_lists.specs.Results.{followed_by}
use Rattle.vkg_schema.specs.Meets.{FitsColumn}
use Rattle.vkg_store.specs.Stored.{table_seen}
use Rattle.vkg_store.proofs.StoredLemmas.{extends-more, extends-same}
use Rattle.vkg_tables.specs.Steps.{row_from, rows_from}
use Rattle.vkg_tables.specs.Texts.{AreTexts}
use Rattle.vkg_tables.proofs.FitLemmas.{row-fits}
use Rattle.vkg_tables.proofs.LoadLemmas.{walk-start, walk-step}
use Rattle.vkg_tables.proofs.load.read_rows.Goals as goal

pub loop-record-init : goal.loop-record-init
loop-record-init c =
    let items = c.into_iter-record-iterator.ensures.into_iter_gives.1 in
    record {
      rows = walk-start (table_seen c.args.texts.now c.in_ok-table.table) _ (c.in_ok-table.ensures.empty c.args.texts.now) ∙ ap (λ rs. rows_from c.args.header.now.names c.args.columns.now 1 (map fields_of rs)) items;
      stored = c.in_ok-table.ensures.stored c.args.texts.now;
      extends = extends-same c.args.texts.now;
      left = subst (λ rs. AreTexts (map fields_of rs)) (sym items) c.requires.texts;
    }

pub text_of-fields-requires : goal.text_of-fields-requires
text_of-fields-requires c = (subst (λ rs. AreTexts (map fields_of rs)) c.in-Some.ensures.steps.0 c.loop-record.invariant.left).0

pub push-requires : goal.push-requires
push-requires c =
    let text : AllText (fields_of c.in-Some.record) = (subst (λ rs. AreTexts (map fields_of rs)) c.in-Some.ensures.steps.0 c.loop-record.invariant.left).0 in (
      c.args.columns.now,
      c.loop-record.invariant.stored,
      subst (AllZip FitsColumn c.args.columns.now) (sym c.as_slice.ensures)
          (row-fits c.args.header.now.names c.args.columns.now c.in_ok-row.row (fields_of c.text_of-fields.result) c.in_ok-cells.cells (subst AllText (sym c.text_of-fields.ensures) text) c.in_ok-cells.ensures),
    )

pub loop-record-preserved : goal.loop-record-preserved
loop-record-preserved c =
    let header = c.args.header.now.names in
    let columns = c.args.columns.now in
    let done = table_seen c.loop-record.texts c.loop-record.table in
    let inv = c.loop-record.invariant in
    let one : row_from header columns (c.loop-record.last + 1) (fields_of c.in-Some.record) ≡ Ok c.in_ok-cells.cells =
    ap₂ (row_from header columns) (sym c.in_ok-row.ensures) (sym c.text_of-fields.ensures) ∙ c.in_ok-cells.ensures in
    record {
      rows = rw (c.in_ok-push.ensures.ok, c.as_slice.ensures, c.in_ok-row.ensures)
          (walk-step done c.in_ok-cells.cells _ _ _ one (ap (λ rs. followed_by done (rows_from header columns (c.loop-record.last + 1) (map fields_of rs))) (sym c.in-Some.ensures.steps.0) ∙ inv.rows));
      stored = c.in_ok-push.ensures.stored columns inv.stored;
      extends = extends-more c.args.texts.now c.loop-record.texts c.push.new.texts inv.extends c.in_ok-push.ensures.extends;
      left = (subst (λ rs. AreTexts (map fields_of rs)) c.in-Some.ensures.steps.0 inv.left).1;
    }
