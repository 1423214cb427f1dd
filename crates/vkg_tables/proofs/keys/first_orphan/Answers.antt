use Rattle.std.proofs.Common.{◌≡◌, ◌<◌, ◌∙◌, arith, get_or, length, ap₂, sym}
use Rattle.std.proofs.lemmas.Option.{get_or_from_slice_get}
use Rattle.vkg_tables.specs.Checks.{is_orphan}
use Rattle.vkg_tables.specs.Parts.{all_parts, is_missing, parts, texts_of}
use Rattle.vkg_tables.proofs.FirstLemmas.{first-found, first-step, missing-same, orphan-known}
use Rattle.vkg_tables.proofs.keys.first_orphan.Goals as goal

pub returns-then-branch : goal.returns-then-branch
returns-then-branch c =
    let row = c.row-row.result in
    let within : c.loop-i.i < length c.args.rows.now = omega arith in
    let place : row ≡ get_or c.args.rows.now c.loop-i.i row = sym (get_or_from_slice_get c.args.rows.now c.loop-i.i row row c.row-row.ensures) in
    let pairs = c.args.pairs.now in
    let targets = c.args.targets.now in
    let known = texts_of c.in_ok-known.known.keys in
    let there : is_orphan pairs targets row ≡ c.in_ok-is_orphan.field-0 =
    orphan-known pairs targets c.args.rows.now c.loop-i.i row c.requires within place
    ∙ ap₂ (λ a b. is_missing (parts a row) (all_parts b targets)) (sym (c.as_slice-in-loop-i.ensures.value ∙ c.in_ok-children.ensures)) (sym (c.as_slice.ensures.value ∙ c.in_ok-parents.ensures))
    ∙ sym (missing-same (parts c.as_slice-in-loop-i.result.now row) known (all_parts c.as_slice.result.now targets) c.in_ok-known.ensures)
    ∙ sym c.in_ok-is_orphan.ensures in
    first-found (λ before r. is_orphan pairs targets r) c.args.rows.now c.loop-i.i row _ within place c.loop-i.invariant (there ∙ c.if-branch.true)

pub loop-i-preserved : goal.loop-i-preserved
loop-i-preserved c =
    let row = c.row-row.result in
    let within : c.loop-i.i < length c.args.rows.now = omega arith in
    let place : row ≡ get_or c.args.rows.now c.loop-i.i row = sym (get_or_from_slice_get c.args.rows.now c.loop-i.i row row c.row-row.ensures) in
    let pairs = c.args.pairs.now in
    let targets = c.args.targets.now in
    let known = texts_of c.in_ok-known.known.keys in
    let there : is_orphan pairs targets row ≡ c.in_ok-is_orphan.field-0 =
    orphan-known pairs targets c.args.rows.now c.loop-i.i row c.requires within place
    ∙ ap₂ (λ a b. is_missing (parts a row) (all_parts b targets)) (sym (c.as_slice-in-loop-i.ensures.value ∙ c.in_ok-children.ensures)) (sym (c.as_slice.ensures.value ∙ c.in_ok-parents.ensures))
    ∙ sym (missing-same (parts c.as_slice-in-loop-i.result.now row) known (all_parts c.as_slice.result.now targets) c.in_ok-known.ensures)
    ∙ sym c.in_ok-is_orphan.ensures in
    first-step (λ before r. is_orphan pairs targets r) c.args.rows.now c.loop-i.i row _ within place c.loop-i.invariant (there ∙ c.if-branch.false)
