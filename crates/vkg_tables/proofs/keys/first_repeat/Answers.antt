use Rattle.std.proofs.Common.{◌≡◌, ◌<◌, ◌∙◌, arith, get_or, length, ◌++◌, None, Some, ap, ap₂, map, option_map, string_bytes, sym, take}
use Rattle.std.proofs.lemmas.Option.{get_or_from_slice_get}
use Rattle.std.proofs.lemmas.List.{append-nil}
use Rattle.std.specs.Option.{option_to_list}
use Rattle.vkg_lists.proofs.Bools.{not_false, not_true}
use Rattle.vkg_tables.specs.Checks.{repeats}
use Rattle.vkg_tables.specs.Parts.{all_parts, parts}
use Rattle.vkg_tables.proofs.PartsLemmas.{any-texts}
use Rattle.vkg_tables.proofs.FirstLemmas.{first-found, first-step, parts-next, repeats-known, texts-pushed}
use Rattle.vkg_tables.proofs.keys.first_repeat.Goals as goal

pub loop-i-preserved-in_default : goal.loop-i-preserved-in_default
loop-i-preserved-in_default c =
    let row = c.row-row.result in
    let within : c.loop-i.i < length c.args.rows.now = omega arith in
    let place : row ≡ get_or c.args.rows.now c.loop-i.i row = sym (get_or_from_slice_get c.args.rows.now c.loop-i.i row row c.row-row.ensures) in
    let none : None ≡ parts c.args.key.now row = ap (option_map (λ v. map string_bytes v.items)) (sym c.in_default.is) ∙ c.in_ok-found.ensures in
    record {
      first = first-step (repeats c.args.key.now) c.args.rows.now c.loop-i.i row _ within place c.loop-i.invariant.first
          (repeats-known c.args.key.now c.args.rows.now c.loop-i.i row None _ c.requires within place none c.loop-i.invariant.seen);
      seen = c.loop-i.invariant.seen ∙ sym (parts-next c.args.key.now c.args.rows.now c.loop-i.i row within place
          ∙ ap (λ o. all_parts c.args.key.now (take c.loop-i.i c.args.rows.now) ++ option_to_list o) (sym none) ∙ append-nil _);
    }

pub returns-then-not-is_new : goal.returns-then-not-is_new
returns-then-not-is_new c =
    let row = c.row-row.result in
    let within : c.loop-i.i < length c.args.rows.now = omega arith in
    let place : row ≡ get_or c.args.rows.now c.loop-i.i row = sym (get_or_from_slice_get c.args.rows.now c.loop-i.i row row c.row-row.ensures) in
    let some : Some (map string_bytes c.in-Some.found.items) ≡ parts c.args.key.now row = ap (option_map (λ v. map string_bytes v.items)) (sym c.in-Some.is) ∙ c.in_ok-found.ensures in
    let here = not_false _ (sym c.in_ok-is_new.ensures.added ∙ c.if-not-is_new.true) in
    first-found (repeats c.args.key.now) c.args.rows.now c.loop-i.i row _ within place c.loop-i.invariant.first
    (repeats-known c.args.key.now c.args.rows.now c.loop-i.i row _ _ c.requires within place some c.loop-i.invariant.seen
    ∙ sym (any-texts c.in-Some.found.items c.loop-i.seen.keys) ∙ here)

pub loop-i-preserved : goal.loop-i-preserved
loop-i-preserved c =
    let row = c.row-row.result in
    let within : c.loop-i.i < length c.args.rows.now = omega arith in
    let place : row ≡ get_or c.args.rows.now c.loop-i.i row = sym (get_or_from_slice_get c.args.rows.now c.loop-i.i row row c.row-row.ensures) in
    let some : Some (map string_bytes c.in-Some.found.items) ≡ parts c.args.key.now row = ap (option_map (λ v. map string_bytes v.items)) (sym c.in-Some.is) ∙ c.in_ok-found.ensures in
    let absent = not_true _ (sym c.in_ok-is_new.ensures.added ∙ c.if-not-is_new.false) in
    record {
      first = first-step (repeats c.args.key.now) c.args.rows.now c.loop-i.i row _ within place c.loop-i.invariant.first
          (repeats-known c.args.key.now c.args.rows.now c.loop-i.i row _ _ c.requires within place some c.loop-i.invariant.seen
          ∙ sym (any-texts c.in-Some.found.items c.loop-i.seen.keys) ∙ absent);
      seen = rw (c.in_ok-is_new.ensures.keys, absent) (texts-pushed c.loop-i.seen.keys c.in-Some.found)
          ∙ ap₂ (λ ks o. ks ++ option_to_list o) c.loop-i.invariant.seen some
          ∙ sym (parts-next c.args.key.now c.args.rows.now c.loop-i.i row within place);
    }
