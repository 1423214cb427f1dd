use Rattle.std.proofs.Common.{◌≡◌, ◌∙◌, sym, ap, subst, map, flat_map}
use Rattle.vkg_lists.specs.Ascending.{ascending_once}
use Rattle.vkg_terms.specs.NQuads.{line}
use Rattle.vkg_maps.specs.Dataset.{quads_of_rule, quads, dataset}
use Rattle.vkg_quads.specs.Dump.{IsDump, HasLineForEach, dump}
use Rattle.vkg_quads.proofs.DumpLaws.{dump_of_quads, dump_is, line_for_each}
use Rattle.vkg_quads.proofs.dump.dump_lines.Goals as goal

pub returns : goal.returns
returns c =
    let mapping = c.args.mapping.now in
    let db = c.args.db.now.tables in
    let made : c.in_ok-lines.lines ≡ map line (quads mapping db) =
    c.in_ok-lines.ensures
    ∙ (ap (λ b. map line (flat_map (quads_of_rule b db) c.as_slice.result.now)) c.as_str.ensures
    ∙ ap (λ rs. map line (flat_map (quads_of_rule mapping.base db) rs)) (c.as_slice.ensures ∙ c.in_ok-rules.ensures)) in
    let is : c.sort_once.new.self ≡ dump (dataset mapping db) = c.sort_once.ensures.value ∙ ap ascending_once made ∙ dump_of_quads mapping db in
    record {
      value = is;
      order = subst (λ ls. IsDump ls (dataset mapping db)) (sym is) (dump_is (dataset mapping db));
      once = subst (HasLineForEach mapping c.args.db.now) (sym is) (line_for_each mapping c.args.db.now);
    }
