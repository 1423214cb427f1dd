use Rattle.std.proofs.Common.{◌≡◌, [], ◌++◌, ◌∙◌, append-nil, sym, ap, map, filter, Some, None, string_bytes}
use Rattle.std.specs.Prelude.{filter_map, slice_get, option_map}
use Rattle.std.specs.Option.{option_copied, option_map_or}
use Rattle.std.specs.HashMap.{get_by_text}
use Rattle.vkg_terms.specs.NQuads.{line}
use Rattle.vkg_schema.specs.Rows.{agree}
use Rattle.vkg_maps.specs.Dataset.{quad_of}
use Rattle.vkg_index.specs.Keys.{row_key, has_key}
use Rattle.vkg_quads.proofs.Partners.{no_partner, one_by_one, partners_by}
use Rattle.vkg_quads.proofs.dump.push_partners.Goals as goal

pub returns-in-None : goal.returns-in-None
returns-in-None c =
    let ps = c.args.conditions.now in
    let k : row_key c.args.row.now (map (λ p. p.0) ps) ≡ None = ap (λ cs. row_key c.args.row.now cs) (sym c.requires.children) ∙ (sym c.in_ok-key_of_lent.ensures ∙ ap (λ o. option_map string_bytes o) c.in-None.is) in
    sym (append-nil c.args.out.now) ∙ ap (λ rs. c.args.out.now ++ map line (filter_map (quad_of c.args.base.now c.args.rule.now c.args.row.now) rs)) (sym (no_partner ps c.args.row.now c.args.parents.now k))

pub returns-in-None-get : goal.returns-in-None-get
returns-in-None-get c =
    let ps = c.args.conditions.now in
    let key = c.as_str.result.now in
    let rows = c.args.parents.now in
    let k : row_key c.args.row.now (map (λ p. p.0) ps) ≡ Some key =
    ap (λ cs. row_key c.args.row.now cs) (sym c.requires.children) ∙ (sym c.in_ok-key_of_lent.ensures ∙ (ap (λ o. option_map string_bytes o) c.in-Some.is ∙ ap Some (sym c.as_str.ensures.value))) in
    let g : get_by_text c.args.groups.now key ≡ None = sym c.get.ensures.value ∙ ap option_copied c.in-None-get.is in
    let e : filter_map (slice_get rows) [] ≡ filter (has_key (map (λ p. p.1) ps) key) rows =
    ap (λ o. filter_map (slice_get rows) (option_map_or (λ g. g.items) o [])) (sym g) ∙ (c.requires.index key ∙ ap (λ cs. filter (has_key cs key) rows) c.requires.parents) in
    sym (append-nil c.args.out.now) ∙ ap (λ rs. c.args.out.now ++ map line (filter_map (quad_of c.args.base.now c.args.rule.now c.args.row.now) rs)) (partners_by ps c.args.row.now rows key [] k e)

pub returns : goal.returns
returns c =
    let ps = c.args.conditions.now in
    let key = c.as_str.result.now in
    let rows = c.args.parents.now in
    let ns = c.as_slice.result.now in
    let f = quad_of c.args.base.now c.args.rule.now c.args.row.now in
    let k : row_key c.args.row.now (map (λ p. p.0) ps) ≡ Some key =
    ap (λ cs. row_key c.args.row.now cs) (sym c.requires.children) ∙ (sym c.in_ok-key_of_lent.ensures ∙ (ap (λ o. option_map string_bytes o) c.in-Some.is ∙ ap Some (sym c.as_str.ensures.value))) in
    let g : get_by_text c.args.groups.now key ≡ Some c.in-Some-get.numbers.now = sym c.get.ensures.value ∙ ap option_copied c.in-Some-get.is in
    let e : filter_map (slice_get rows) ns ≡ filter (has_key (map (λ p. p.1) ps) key) rows =
    ap (λ ns. filter_map (slice_get rows) ns) c.as_slice.ensures.value
    ∙ (ap (λ o. filter_map (slice_get rows) (option_map_or (λ g. g.items) o [])) (sym g) ∙ (c.requires.index key ∙ ap (λ cs. filter (has_key cs key) rows) c.requires.parents)) in
    c.in_ok-push_agreeing-in-Some-get.ensures ∙ ap (λ ls. c.args.out.now ++ ls) (one_by_one f (agree ps c.args.row.now) rows ns ∙ ap (λ rs. map line (filter_map f rs)) (partners_by ps c.args.row.now rows key ns k e))
