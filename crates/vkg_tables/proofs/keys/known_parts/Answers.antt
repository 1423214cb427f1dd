use Rattle.std.proofs.Common.{◌≡◌, ◌<◌, ◌∙◌, arith, get_or, length, ◌++◌, ◌||◌, None, Some, ap, map, option_map, string_bytes, sym, take}
use Rattle.std.proofs.lemmas.List.{append-nil}
use Rattle.std.proofs.lemmas.Option.{get_or_from_slice_get}
use Rattle.std.specs.List.{list_any}
use Rattle.std.specs.Option.{option_to_list}
use Rattle.vkg_tables.specs.Parts.{all_parts, parts, texts_eq}
use Rattle.vkg_lists.proofs.Heads.{any_more}
use Rattle.vkg_tables.proofs.PartsLemmas.{any-inserted}
use Rattle.vkg_tables.proofs.FirstLemmas.{parts-next}
use Rattle.vkg_tables.proofs.keys.known_parts.Goals as goal

pub loop-i-preserved : goal.loop-i-preserved
loop-i-preserved c f =
    let row = c.row-row.result in
    let within : c.loop-i.i < length c.args.rows.now = omega arith in
    let place : row ≡ get_or c.args.rows.now c.loop-i.i row = sym (get_or_from_slice_get c.args.rows.now c.loop-i.i row row c.row-row.ensures) in
    let some : Some (map string_bytes c.in-Some.found.items) ≡ parts c.args.columns.now row = ap (option_map (λ v. map string_bytes v.items)) (sym c.in-Some.is) ∙ c.in_ok-found.ensures in
    rw c.in_ok-insert_full.ensures.keys (any-inserted f c.loop-i.known.keys c.in-Some.found)
    ∙ ap (λ b. b || texts_eq f (map string_bytes c.in-Some.found.items)) (c.loop-i.invariant f)
    ∙ sym (any_more (texts_eq f) (all_parts c.args.columns.now (take c.loop-i.i c.args.rows.now)) (map string_bytes c.in-Some.found.items))
    ∙ ap (λ o. list_any (texts_eq f) (all_parts c.args.columns.now (take c.loop-i.i c.args.rows.now) ++ option_to_list o)) some
    ∙ sym (ap (list_any (texts_eq f)) (parts-next c.args.columns.now c.args.rows.now c.loop-i.i row within place))

pub loop-i-preserved-in_default : goal.loop-i-preserved-in_default
loop-i-preserved-in_default c f =
    let row = c.row-row.result in
    let within : c.loop-i.i < length c.args.rows.now = omega arith in
    let place : row ≡ get_or c.args.rows.now c.loop-i.i row = sym (get_or_from_slice_get c.args.rows.now c.loop-i.i row row c.row-row.ensures) in
    let none : None ≡ parts c.args.columns.now row = ap (option_map (λ v. map string_bytes v.items)) (sym c.in_default.is) ∙ c.in_ok-found.ensures in
    c.loop-i.invariant f
    ∙ sym (ap (list_any (texts_eq f)) (parts-next c.args.columns.now c.args.rows.now c.loop-i.i row within place ∙ ap (λ o. all_parts c.args.columns.now (take c.loop-i.i c.args.rows.now) ++ option_to_list o) (sym none) ∙ append-nil _))
