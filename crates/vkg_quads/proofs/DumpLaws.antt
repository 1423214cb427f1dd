-- The lines of the quads, each once, are the dump of the dataset.
use Rattle.std.proofs.Common.{◌≡◌, ◌∙◌, List, map, length, sym, ap}
use Rattle.std.specs.Prelude.{Contains, bytes_eq}
use Rattle.std.specs.Cmp.{both_ways}
use Rattle.std.specs.List.{AllByRecursion}
use Rattle.std.proofs.lemmas.List.{length-map}
use Rattle.std.proofs.lemmas.List.Sorted.{length_permutation}
use Rattle.vkg_lists.specs.Ascending.{ascending_once}
use Rattle.vkg_lists.specs.Sets.{HasSameMembers, distinct}
use Rattle.vkg_lists.proofs.Ascending.{ascending_by-bag, ascending_once_is, ascending_once-ascending, ascending_once-members}
use Rattle.vkg_lists.proofs.Distinct.{HasSameMembers-distinct, distinct-distinct, distinct_map_on}
use Rattle.vkg_lists.proofs.Members.{each_from_recursion}
use Rattle.vkg_lists.proofs.Orders.{bytes_linear}
use Rattle.vkg_lists.proofs.SameMembers.{members_map, members_sym, members_trans}
use Rattle.vkg_lists.proofs.Texts.{bytes_test}
use Rattle.vkg_terms.proofs.TextLemmas.{line_same}
use Rattle.vkg_terms.specs.NQuads.{Quad, line}
use Rattle.vkg_terms.specs.Writable.{IsWritableQuad}
use Rattle.vkg_schema.specs.Rows.{Database}
use Rattle.vkg_tables.specs.Seen.{Seen}
use Rattle.vkg_maps.specs.declared.mapping.Mapping.{Mapping}
use Rattle.vkg_maps.specs.Dataset.{quad_eq, quads, dataset}
use Rattle.vkg_maps.proofs.Quads.{quads_apart}
use Rattle.vkg_maps.proofs.Writable.{dataset_written}
use Rattle.vkg_quads.specs.Dump.{IsDump, HasLineForEach, dump}

-- the dataset's lines are those of all quads
lines_of_dataset : (mapping : Mapping) (db : Database) → HasSameMembers (map line (dataset mapping db)) (map line (quads mapping db))
lines_of_dataset mapping db = members_sym (members_map line (HasSameMembers-distinct quads_apart (quads mapping db)))

pub dump_of_quads : (mapping : Mapping) (db : Database) → ascending_once (map line (quads mapping db)) ≡ dump (dataset mapping db)
dump_of_quads mapping db = ascending_once_is (map line (dataset mapping db)) (ascending_once (map line (quads mapping db)))
    (members_trans (lines_of_dataset mapping db) (ascending_once-members (map line (quads mapping db)))) (ascending_once-ascending (map line (quads mapping db)))

pub dump_is : (qs : List Quad) → IsDump (dump qs) qs
dump_is qs = record { ascending = ascending_once-ascending (map line qs); each = ascending_once-members (map line qs) }

-- two quads that can be written have one line only where they are one
lines_apart : (qs : List Quad) → AllByRecursion IsWritableQuad qs → (p q : Quad) → Contains qs p → Contains qs q → bytes_eq (line p) (line q) ≡ quad_eq p q
lines_apart qs w p q c d =
    let each = each_from_recursion IsWritableQuad qs w in
    both_ways (bytes_eq (line p) (line q)) (quad_eq p q)
    (λ e. (quads_apart.decides p q).1 (line_same p q (each p c) (each q d) ((bytes_test.decides (line p) (line q)).0 e)))
    (λ e. (bytes_test.decides (line p) (line q)).1 (ap line ((quads_apart.decides p q).0 e)))

pub line_for_each : (mapping : Mapping) (db : Seen) → HasLineForEach mapping db (dump (dataset mapping db.tables))
line_for_each mapping db meets writable =
    let qs = dataset mapping db.tables in
    let w = dataset_written db.schema db.tables meets mapping writable in
    let same : distinct bytes_eq (map line qs) ≡ map line qs =
    sym (distinct_map_on quad_eq bytes_eq line qs (lines_apart qs w)) ∙ ap (map line) (distinct-distinct quad_eq (quads mapping db.tables)) in
    length_permutation _ _ (ascending_by-bag bytes_linear (distinct bytes_eq (map line qs))) ∙ ap length same ∙ length-map qs line
