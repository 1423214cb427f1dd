-- The dataset of a mapping over a database.
use Rattle.std.specs.Prelude.{ℕ, Bool, ◌&&◌, List, [], ◌∷◌, flat_map, filter, filter_map, Option, Some, None, if◌then◌else◌, option_map}
use Rattle.std.specs.Option.{option_eq}
use Rattle.vkg_lists.specs.Sets.{distinct}
use Rattle.vkg_terms.specs.declared.term.Term.{Term}
use Rattle.vkg_terms.specs.declared.term.Term.TheVariants.{Iri}
use Rattle.vkg_terms.specs.Vocabulary.{rr_default_graph}
use Rattle.vkg_terms.specs.Same.{term_eq}
use Rattle.vkg_terms.specs.NQuads.{Quad}
use Rattle.vkg_schema.specs.Rows.{Row, Database, rows_of, agree}
use Rattle.vkg_maps.specs.declared.term_map.TermMap.{TermMap}
use Rattle.vkg_maps.specs.declared.mapping.Mapping.{Mapping}
use Rattle.vkg_maps.specs.Terms.{term_of, term_if_any}
use Rattle.vkg_maps.specs.declared.quad_rule.QuadRule.{QuadRule}
use Rattle.vkg_maps.specs.declared.quad_rule.Join.{Join}
use Rattle.vkg_maps.specs.QuadRules.{quad_rules}

-- R2RML, 8, joint SQL query: of each row the rows that its object is made of, itself where there is no join
abbrev pub object_rows : Option Join → Database → Row → List Row
object_rows None db row = row ∷ []
object_rows (Some join) db row = filter (agree join.conditions row) (rows_of db join.table)

-- R2RML, 9: rr:defaultGraph names the default graph
abbrev pub graph_name : Term → Option Term
graph_name g = if term_eq g (Iri rr_default_graph) then None else Some g

-- R2RML, 11.1, add triples: one where all terms are there
abbrev pub quad_from : Option Term → Option Term → Option Term → Option (Option Term) → Option Quad
quad_from (Some s) (Some p) (Some o) (Some g) = Some (record { subject = s; predicate = p; object = o; graph = g })
quad_from s p o g = None

abbrev pub target : List ℕ → Option TermMap → Row → Option (Option Term)
target base None row = Some None
target base (Some g) row = option_map graph_name (term_if_any (term_of base g row))

abbrev pub quad_of : List ℕ → QuadRule → Row → Row → Option Quad
quad_of base rule row other =
    quad_from (term_if_any (term_of base rule.subject row)) (term_if_any (term_of base rule.predicate row)) (term_if_any (term_of base rule.object other)) (target base rule.graph row)

-- the quads of a rule, one after another
abbrev pub quads_of_rule : List ℕ → Database → QuadRule → List Quad
quads_of_rule base db rule =
    flat_map (λ row. filter_map (quad_of base rule row) (object_rows rule.join db row)) (rows_of db rule.table)

-- every quad, as often as a rule makes it
abbrev pub quads : Mapping → Database → List Quad
quads mapping db = flat_map (quads_of_rule mapping.base db) (quad_rules mapping)

-- the same graph name, or both the default graph
abbrev pub graph_eq : Option Term → Option Term → Bool
graph_eq = option_eq term_eq

-- RDF 1.1 Concepts, 3.1 and 4: the same terms in the same graph
abbrev pub quad_eq : Quad → Quad → Bool
quad_eq q r = term_eq q.subject r.subject && term_eq q.predicate r.predicate && term_eq q.object r.object && graph_eq q.graph r.graph

-- R2RML, 11: the output dataset is the set of these quads, here each of them once
abbrev pub dataset : Mapping → Database → List Quad
dataset mapping db = distinct quad_eq (quads mapping db)
