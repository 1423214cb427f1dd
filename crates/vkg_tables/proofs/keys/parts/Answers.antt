use Rattle.std.proofs.Common.{◌∙◌, ap, map, option_map, string_bytes, drop, get_or, add-one, drop-cons, sym, ◌∷◌, []}
use Rattle.std.proofs.lemmas.List.{map-append}
use Rattle.vkg_tables.specs.Parts.{part}
use Rattle.vkg_tables.proofs.PartsLemmas.{parts-step, parts-stop}
use Rattle.vkg_tables.proofs.keys.parts.Goals as goal

pub returns-in_default : goal.returns-in_default
returns-in_default c =
    let k = get_or c.args.columns.now c.loop-column.column-index 0 in
    parts-stop _ _ k _ c.args.row.now _ (drop-cons c.args.columns.now c.loop-column.column-index 0 c.loop-column-test.true)
    (ap part (sym c.cell-cell.ensures) ∙ sym c.in_ok-text.ensures ∙ ap (option_map string_bytes) c.in_default.is)
    c.loop-column.invariant

pub loop-column-preserved : goal.loop-column-preserved
loop-column-preserved c =
    let k = get_or c.args.columns.now c.loop-column.column-index 0 in
    let step = parts-step (map string_bytes c.loop-column.out.items) (drop c.loop-column.column-index c.args.columns.now) k _ c.args.row.now _ (string_bytes c.in-Some.text)
    (drop-cons c.args.columns.now c.loop-column.column-index 0 c.loop-column-test.true)
    (ap part (sym c.cell-cell.ensures) ∙ sym c.in_ok-text.ensures ∙ ap (option_map string_bytes) c.in-Some.is)
    c.loop-column.invariant in
    rw (c.in_ok-push.ensures.items, map-append string_bytes c.loop-column.out.items (c.in-Some.text ∷ []), add-one) step
