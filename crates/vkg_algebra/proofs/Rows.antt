-- What the definitions give on worked queries, over the dataset of two departments and three employees.
use Rattle.std.specs.Prelude.{◌≡◌, true, false, List, ℕ, [], ◌∷◌, Option, Some, None, codes, refl}
use Rattle.std.specs.Str.{chars}
use Rattle.std.specs.Char.{encode_utf8}
use Rattle.std.specs.Fmt.{digits}
use Rattle.vkg_terms.specs.declared.term.Term.{Term}
use Rattle.vkg_values.specs.declared.operator.Compare.TheVariants as asks
use Rattle.vkg_sparql.specs.declared.pattern.Node.TheVariants.{Variable, Label, Fixed}
use Rattle.vkg_sparql.specs.declared.pattern.GraphName.TheVariants.{Each, Named}
use Rattle.vkg_sparql.specs.declared.pattern.TriplePattern.{TriplePattern}
use Rattle.vkg_sparql.specs.declared.query.Form.TheVariants.{Select, Ask, Construct}
use Rattle.vkg_sparql.specs.declared.query.Selected.TheVariants.{All, Listed}
use Rattle.vkg_sparql.specs.Orders.{no_slice}
use Rattle.vkg_sparql.specs.Query.{Condition, Part, Key, Constant, Bound, Compare, Triples, Filter, Optional, Graph, Groups, Minus, Values, Bind, Group, End, Last, Union, Query}
use Rattle.vkg_sparql.specs.Query as expression
use Rattle.vkg_sparql.specs.Seen.{group_of}
use Rattle.vkg_order.specs.Listed.{listed}
use Rattle.vkg_order.specs.Ranked.{ranked}
use Rattle.vkg_order.specs.Values.{value_cmp}
use Rattle.vkg_algebra.specs.Algebra.{Bgp, Join, LeftJoin, Table, Extend}
use Rattle.vkg_algebra.specs.Algebra as algebra
use Rattle.vkg_algebra.specs.Evaluation.{Dataset}
use Rattle.vkg_algebra.specs.Translation.{algebra_of}
use Rattle.vkg_algebra.specs.Answer.{answer}
use Rattle.vkg_algebra.proofs.Data.{dataset, quad, e, int, plain, pattern, has_name, has_dept, has_title, select}

-- what has to be opened so that texts of terms compute
unfoldable opened : Unit {0}
unfolding chars encode_utf8
opened = tt

-- SELECT ?n { ?e <e:emp#name> ?n }
abbrev pub name_query : Query
name_query = select (1 ∷ []) (Triples (has_name ∷ []) ∷ [])

names_algebra : algebra_of name_query ≡ Bgp (has_name ∷ [])
names_algebra = refl

names_answer : answer name_query dataset ≡ codes "?n" ∷ codes "\"Ann\"" ∷ codes "\"Ann\"" ∷ codes "\"Bo\"" ∷ []
unfolding opened listed
names_answer = refl

-- the same with DISTINCT
distinct_answer : answer (record name_query { distinct = true }) dataset ≡ codes "?n" ∷ codes "\"Ann\"" ∷ codes "\"Bo\"" ∷ []
unfolding opened listed
distinct_answer = refl

-- an optional department: SELECT ?n ?d { ?e <e:emp#name> ?n OPTIONAL { ?e <e:emp#ref-dept> ?d } }
abbrev pub optional_query : Query
optional_query = select (1 ∷ 2 ∷ []) (Triples (has_name ∷ []) ∷ Optional (group_of (Triples (has_dept ∷ []) ∷ [])) ∷ [])

optional_algebra : algebra_of optional_query ≡ LeftJoin (Bgp (has_name ∷ [])) (Bgp (has_dept ∷ [])) None
optional_algebra = refl

abbrev ann_dept : List ℕ
ann_dept = codes "\"Ann\"\t<http://e/dept/id=1>"

optional_answer : answer optional_query dataset ≡ codes "?n\t?d" ∷ ann_dept ∷ ann_dept ∷ codes "\"Bo\"\t" ∷ []
unfolding opened listed
optional_answer = refl

-- with FILTER(?n = "Ann") last inside the OPTIONAL's braces: the left variable is seen
abbrev is_ann : Condition
is_ann = Compare asks.Equal (expression.Variable 1) (Constant (plain (codes "Ann")))

abbrev filtered_query : Query
filtered_query = select (1 ∷ 2 ∷ []) (Triples (has_name ∷ []) ∷ Optional (group_of (Triples (has_dept ∷ []) ∷ Filter is_ann ∷ [])) ∷ [])

filtered_algebra : algebra_of filtered_query ≡ LeftJoin (Bgp (has_name ∷ [])) (Bgp (has_dept ∷ [])) (Some is_ann)
filtered_algebra = refl

filtered_answer : answer filtered_query dataset ≡ codes "?n\t?d" ∷ ann_dept ∷ ann_dept ∷ codes "\"Bo\"\t" ∷ []
unfolding opened listed
filtered_answer = refl

-- with the OPTIONAL's content in doubled braces: the filter stays inside, where ?n is unbound
abbrev doubled_query : Query
doubled_query = select (1 ∷ 2 ∷ []) (Triples (has_name ∷ []) ∷ Optional (group_of (Groups (group_of (Triples (has_dept ∷ []) ∷ Filter is_ann ∷ [])) Last ∷ [])) ∷ [])

doubled_algebra : algebra_of doubled_query ≡ LeftJoin (Bgp (has_name ∷ [])) (algebra.Filter is_ann (Bgp (has_dept ∷ []))) None
doubled_algebra = refl

abbrev no_dept : List (List ℕ)
no_dept = codes "?n\t?d" ∷ codes "\"Ann\"\t" ∷ codes "\"Ann\"\t" ∷ codes "\"Bo\"\t" ∷ []

doubled_answer : answer doubled_query dataset ≡ no_dept
unfolding opened listed
doubled_answer = refl

-- a filter that is an error inside the optional group, since ?t is unbound: each left solution stays
abbrev error_query : Query
error_query = select (1 ∷ 2 ∷ []) (Triples (has_name ∷ []) ∷ Optional (group_of (Triples (has_dept ∷ []) ∷ Filter (expression.Variable 3) ∷ [])) ∷ [])

error_answer : answer error_query dataset ≡ no_dept
unfolding opened listed
error_answer = refl

-- a pattern matches by identity: SELECT ?e { ?e <e:emp#dept> 01 }
abbrev identity_query : Query
identity_query = select (0 ∷ []) (Triples (pattern (Variable 0) (Fixed (e (codes "emp#dept"))) (Fixed (int (codes "01"))) ∷ []) ∷ [])

identity_answer : answer identity_query dataset ≡ codes "?e" ∷ []
unfolding opened listed
identity_answer = refl

-- a filter compares by value: SELECT ?e { ?e <e:emp#dept> ?d FILTER(?d = 01) }
abbrev value_query : Query
value_query = select (0 ∷ []) (Triples (pattern (Variable 0) (Fixed (e (codes "emp#dept"))) (Variable 2) ∷ []) ∷ Filter (Compare asks.Equal (expression.Variable 2) (Constant (int (codes "01")))) ∷ [])

value_answer : answer value_query dataset ≡ codes "?e" ∷ codes "<http://e/emp/id=7>" ∷ codes "<http://e/emp/id=9>" ∷ []
unfolding opened listed
value_answer = refl

-- SELECT * {}: one solution, without variables
abbrev empty_query : Query
empty_query = record { names = []; form = Select; distinct = false; selected = All; group = End; keys = []; slice = no_slice }

empty_algebra : algebra_of empty_query ≡ Bgp []
empty_algebra = refl

empty_answer : answer empty_query dataset ≡ [] ∷ [] ∷ []
unfolding opened listed
empty_answer = refl

-- a union keeps repeats
abbrev union_query : Query
union_query = select (1 ∷ []) (Groups (group_of (Triples (has_name ∷ []) ∷ [])) (Union (group_of (Triples (has_name ∷ []) ∷ [])) Last) ∷ [])

union_algebra : algebra_of union_query ≡ algebra.Union (Bgp (has_name ∷ [])) (Bgp (has_name ∷ []))
union_algebra = refl

union_answer : answer union_query dataset ≡ codes "?n" ∷ codes "\"Ann\"" ∷ codes "\"Ann\"" ∷ codes "\"Ann\"" ∷ codes "\"Ann\"" ∷ codes "\"Bo\"" ∷ codes "\"Bo\"" ∷ []
unfolding opened listed
union_answer = refl

-- unbound is compatible
abbrev unbound_query : Query
unbound_query = select (1 ∷ 2 ∷ 3 ∷ []) (Triples (has_name ∷ []) ∷ Optional (group_of (Triples (has_dept ∷ []) ∷ [])) ∷ Triples (has_title ∷ []) ∷ [])

unbound_algebra : algebra_of unbound_query ≡ Join (LeftJoin (Bgp (has_name ∷ [])) (Bgp (has_dept ∷ [])) None) (Bgp (has_title ∷ []))
unbound_algebra = refl

unbound_answer : answer unbound_query dataset ≡ codes "?n\t?d\t?t" ∷ codes "\"Ann\"\t<http://e/dept/id=1>\t\"Ore\"" ∷ codes "\"Ann\"\t<http://e/dept/id=1>\t\"Ore\"" ∷ codes "\"Bo\"\t<http://e/dept/id=1>\t\"Ore\"" ∷ []
unfolding opened listed
unbound_answer = refl

-- GRAPH over a dataset of one named graph; ?g is 0, ?s 1, ?p 2, ?o 3
abbrev one_graph : Dataset
one_graph =
    quad (e (codes "g/1")) (e (codes "emp/7")) (e (codes "name")) (plain (codes "Ann"))
    ∷ quad (e (codes "g/1")) (e (codes "emp/9")) (e (codes "name")) (plain (codes "Ann")) ∷ []

abbrev graph_query : Query
graph_query = record { names = codes "g" ∷ codes "s" ∷ codes "p" ∷ codes "o" ∷ []; form = Select; distinct = false; selected = Listed (0 ∷ []); group = End; keys = []; slice = no_slice }

-- SELECT ?g { GRAPH ?g {} }: one solution a name
names_of_graphs : answer (record graph_query { group = group_of (Graph (Each 0) End ∷ []) }) one_graph ≡ codes "?g" ∷ codes "<http://e/g/1>" ∷ []
unfolding opened listed
names_of_graphs = refl

-- SELECT * { GRAPH <e:none> {} }: nothing for an IRI that names no graph
no_graph : answer (record empty_query { group = group_of (Graph (Named (codes "http://e/none")) End ∷ []) }) one_graph ≡ [] ∷ []
unfolding opened listed
no_graph = refl

-- SELECT ?g { GRAPH ?g { ?s ?p ?o FILTER(?g = <e:g/1>) } }: ?g is unbound inside
abbrev inside_query : Query
inside_query = record graph_query { group = group_of (Graph (Each 0) (group_of (Triples (pattern (Variable 1) (Variable 2) (Variable 3) ∷ []) ∷ Filter (Compare asks.Equal (expression.Variable 0) (Constant (e (codes "g/1")))) ∷ [])) ∷ []) }

inside_answer : answer inside_query one_graph ≡ codes "?g" ∷ []
unfolding opened listed
inside_answer = refl

-- { ?s ?p ?o FILTER(BOUND(?d)) OPTIONAL { ?s <e:q> ?d FILTER(?d = ?o) } }, where ?s, ?p, ?o, ?d are 0 to 3: a group's filter comes
-- last, and the optional group's is the condition
abbrev both_query : Query
both_query = select (0 ∷ []) (Triples (pattern (Variable 0) (Variable 1) (Variable 2) ∷ []) ∷ Filter (Bound 3) ∷ Optional (group_of (Triples (pattern (Variable 0) (Fixed (e (codes "q"))) (Variable 3) ∷ []) ∷ Filter (Compare asks.Equal (expression.Variable 3) (expression.Variable 2)) ∷ [])) ∷ [])

both_algebra : algebra_of both_query ≡ algebra.Filter (Bound 3) (LeftJoin (Bgp (pattern (Variable 0) (Variable 1) (Variable 2) ∷ [])) (Bgp (pattern (Variable 0) (Fixed (e (codes "q"))) (Variable 3) ∷ [])) (Some (Compare asks.Equal (expression.Variable 3) (expression.Variable 2))))
both_algebra = refl

-- a filter between two blocks of triples ends no basic graph pattern
interrupted_algebra : algebra_of (select (1 ∷ []) (Triples (has_name ∷ []) ∷ Filter is_ann ∷ Triples (has_dept ∷ []) ∷ Filter (Bound 2) ∷ [])) ≡ algebra.Filter (expression.And is_ann (Bound 2)) (Bgp (has_name ∷ has_dept ∷ []))
interrupted_algebra = refl

-- ORDER BY, OFFSET and LIMIT; ?e, ?n and ?d are 0, 1 and 2
abbrev by_variable : ℕ → Key
by_variable v = record { condition = expression.Variable v; descends = false }

abbrev from_greatest : ℕ → Key
from_greatest v = record { condition = expression.Variable v; descends = true }

-- SELECT ?n { ?e <e:emp#name> ?n } ORDER BY DESC(?n) ?e OFFSET .. LIMIT ..
abbrev sliced_query : ℕ → Option ℕ → Query
sliced_query offset limit = record name_query { keys = from_greatest 1 ∷ by_variable 0 ∷ []; slice = record { offset = offset; limit = limit } }

two_first : answer (sliced_query 0 (Some 2)) dataset ≡ codes "?n" ∷ codes "\"Bo\"" ∷ codes "\"Ann\"" ∷ []
unfolding opened listed value_cmp
two_first = refl

the_second : answer (sliced_query 1 (Some 1)) dataset ≡ codes "?n" ∷ codes "\"Ann\"" ∷ []
unfolding opened listed value_cmp
the_second = refl

none_asked : answer (sliced_query 0 (Some 0)) dataset ≡ codes "?n" ∷ []
unfolding opened listed value_cmp
none_asked = refl

none_left : answer (sliced_query 3 None) dataset ≡ codes "?n" ∷ []
unfolding opened listed value_cmp
none_left = refl

-- SELECT DISTINCT ?n { ?e <e:emp#name> ?n } ORDER BY DESC(?e): each line stands at its first place
each_name_once : answer (record name_query { distinct = true; keys = from_greatest 0 ∷ [] }) dataset ≡ codes "?n" ∷ codes "\"Ann\"" ∷ codes "\"Bo\"" ∷ []
unfolding opened listed value_cmp
each_name_once = refl

-- SELECT ?n ?d { ?e <e:emp#name> ?n OPTIONAL { ?e <e:emp#ref-dept> ?d } } ORDER BY ?d: nothing comes first
unbound_first : answer (record optional_query { keys = by_variable 2 ∷ [] }) dataset ≡ codes "?n\t?d" ∷ codes "\"Bo\"\t" ∷ ann_dept ∷ ann_dept ∷ []
unfolding opened listed value_cmp
unbound_first = refl

-- SELECT ?n { ?e <e:emp#name> ?n MINUS { ?e <e:emp#dept> ?d } }
abbrev dept_of : ℕ → Group
dept_of v = group_of (Triples (pattern (Variable v) (Fixed (e (codes "emp#dept"))) (Variable 2) ∷ []) ∷ [])

abbrev minus_query : ℕ → Query
minus_query v = select (1 ∷ []) (Triples (has_name ∷ []) ∷ Minus (dept_of v) ∷ [])

minus_algebra : algebra_of (minus_query 0) ≡ algebra.Minus (Bgp (has_name ∷ [])) (Bgp (pattern (Variable 0) (Fixed (e (codes "emp#dept"))) (Variable 2) ∷ []))
minus_algebra = refl

minus_answer : answer (minus_query 0) dataset ≡ codes "?n" ∷ codes "\"Bo\"" ∷ []
unfolding opened listed
minus_answer = refl

-- with ?t for ?e in the MINUS no variable is shared
minus_of_others : answer (minus_query 3) dataset ≡ codes "?n" ∷ codes "\"Ann\"" ∷ codes "\"Ann\"" ∷ codes "\"Bo\"" ∷ []
unfolding opened listed
minus_of_others = refl

-- a variable that an OPTIONAL leaves unbound is not shared: SELECT ?n { ?e <e:emp#name> ?n OPTIONAL { ?e <e:emp#ref-dept> ?d } MINUS { ?d <e:dept#title> ?t } }
minus_unbound : answer (select (1 ∷ []) (Triples (has_name ∷ []) ∷ Optional (group_of (Triples (has_dept ∷ []) ∷ [])) ∷ Minus (group_of (Triples (has_title ∷ []) ∷ [])) ∷ [])) dataset ≡ codes "?n" ∷ codes "\"Bo\"" ∷ []
unfolding opened listed
minus_unbound = refl

-- SELECT ?n ?t { VALUES (?n ?t) { ("Bo" UNDEF) (UNDEF 1) } ?e <e:emp#name> ?n }
abbrev values_rows : List (List (Option Term))
values_rows = (Some (plain (codes "Bo")) ∷ None ∷ []) ∷ (None ∷ Some (int (codes "1")) ∷ []) ∷ []

abbrev values_query : Query
values_query = select (1 ∷ 3 ∷ []) (Values (1 ∷ 3 ∷ []) values_rows ∷ Triples (has_name ∷ []) ∷ [])

values_algebra : algebra_of values_query ≡ Join (Table (1 ∷ 3 ∷ []) values_rows) (Bgp (has_name ∷ []))
values_algebra = refl

abbrev ann_one : List ℕ
ann_one = codes "\"Ann\"\t\"1\"^^<http://www.w3.org/2001/XMLSchema#integer>"

values_answer : answer values_query dataset ≡ codes "?n\t?t" ∷ ann_one ∷ ann_one ∷ codes "\"Bo\"\t" ∷ codes "\"Bo\"\t\"1\"^^<http://www.w3.org/2001/XMLSchema#integer>" ∷ []
unfolding opened listed
values_answer = refl

-- SELECT * { VALUES ?e { } }: no solution; SELECT * { VALUES () { () () } }: the one without variables, twice
no_rows : answer (record empty_query { names = codes "e" ∷ []; group = group_of (Values (0 ∷ []) [] ∷ []) }) dataset ≡ codes "?e" ∷ []
unfolding opened listed
no_rows = refl

two_rows : answer (record empty_query { group = group_of (Values [] ([] ∷ [] ∷ []) ∷ []) }) dataset ≡ [] ∷ [] ∷ [] ∷ []
unfolding opened listed
two_rows = refl

-- SELECT * { BIND(?z AS ?y) }: an error leaves the variable unbound, and `*` lists it
abbrev bind_query : Query
bind_query = record empty_query { names = codes "z" ∷ codes "y" ∷ []; group = group_of (Bind (expression.Variable 0) 1 ∷ []) }

bind_algebra : algebra_of bind_query ≡ Extend (Bgp []) 1 (expression.Variable 0)
bind_algebra = refl

bind_answer : answer bind_query dataset ≡ codes "?y" ∷ [] ∷ []
unfolding opened listed
bind_answer = refl

-- BIND in an OPTIONAL: its group is no Filter. SELECT ?n ?t { ?e <e:emp#name> ?n OPTIONAL { ?e <e:emp#ref-dept> ?d BIND(?d AS ?t) } }
abbrev bind_in_optional : Query
bind_in_optional = select (1 ∷ 3 ∷ []) (Triples (has_name ∷ []) ∷ Optional (group_of (Triples (has_dept ∷ []) ∷ Bind (expression.Variable 2) 3 ∷ [])) ∷ [])

bind_in_optional_algebra : algebra_of bind_in_optional ≡ LeftJoin (Bgp (has_name ∷ [])) (Extend (Bgp (has_dept ∷ [])) 3 (expression.Variable 2)) None
bind_in_optional_algebra = refl

bind_in_optional_answer : answer bind_in_optional dataset ≡ codes "?n\t?t" ∷ ann_dept ∷ ann_dept ∷ codes "\"Bo\"\t" ∷ []
unfolding opened listed
bind_in_optional_answer = refl

-- MINUS within GRAPH ?g: SELECT ?s { GRAPH ?g { ?s ?p ?o MINUS { <e:emp/7> ?p ?s } } }, where ?p is shared and ?s has another value
minus_in_graph : answer (record graph_query { selected = Listed (1 ∷ []); group = group_of (Graph (Each 0) (group_of (Triples (pattern (Variable 1) (Variable 2) (Variable 3) ∷ []) ∷ Minus (group_of (Triples (pattern (Fixed (e (codes "emp/7"))) (Variable 2) (Variable 1) ∷ []) ∷ [])) ∷ [])) ∷ []) }) one_graph ≡ codes "?s" ∷ codes "<http://e/emp/7>" ∷ codes "<http://e/emp/9>" ∷ []
unfolding opened listed
minus_in_graph = refl

-- ASK { ?e <e:emp#name> "Bo" } and ASK { ?s <e:emp#dept> 01 }
abbrev pub ask : List Part → Query
ask parts = record (select [] parts) { form = Ask }

is_named_bo : answer (ask (Triples (pattern (Variable 0) (Fixed (e (codes "emp#name"))) (Fixed (plain (codes "Bo"))) ∷ []) ∷ [])) dataset ≡ codes "true" ∷ []
unfolding opened
is_named_bo = refl

is_in_01 : answer (ask (Triples (pattern (Variable 0) (Fixed (e (codes "emp#dept"))) (Fixed (int (codes "01"))) ∷ []) ∷ [])) dataset ≡ codes "false" ∷ []
unfolding opened
is_in_01 = refl

-- CONSTRUCT { ?d <e:staff> [ <e:n> ?n ] } { ?e <e:emp#name> ?n OPTIONAL { ?e <e:emp#ref-dept> ?d } }, where the blank node is 4
abbrev staff_template : List TriplePattern
staff_template = pattern (Variable 2) (Fixed (e (codes "staff"))) (Label 4) ∷ pattern (Label 4) (Fixed (e (codes "n"))) (Variable 1) ∷ []

abbrev construct_query : List TriplePattern → Query
construct_query ts = record optional_query { form = Construct ts; selected = All }

staff_answer : answer (construct_query staff_template) dataset
    ≡ codes "<http://e/dept/id=1> <http://e/staff> _:c1_1 ."
    ∷ codes "<http://e/dept/id=1> <http://e/staff> _:c3_1 ."
    ∷ codes "_:c1_1 <http://e/n> \"Ann\" ."
    ∷ codes "_:c2_1 <http://e/n> \"Bo\" ."
    ∷ codes "_:c3_1 <http://e/n> \"Ann\" ." ∷ []
unfolding opened ranked digits
staff_answer = refl

-- the same with LIMIT 1, and with OFFSET 1: solutions are numbered behind it
first_answer : answer (record (construct_query staff_template) { slice = record { offset = 0; limit = Some 1 } }) dataset
    ≡ codes "<http://e/dept/id=1> <http://e/staff> _:c1_1 ." ∷ codes "_:c1_1 <http://e/n> \"Ann\" ." ∷ []
unfolding opened ranked digits
first_answer = refl

second_answer : answer (record (construct_query staff_template) { slice = record { offset = 1; limit = Some 1 } }) dataset ≡ codes "_:c1_1 <http://e/n> \"Bo\" ." ∷ []
unfolding opened ranked digits
second_answer = refl

-- names as subjects: CONSTRUCT { ?n <e:p> ?e } { .. }; and a constant triple, which is one line
literal_subjects : answer (construct_query (pattern (Variable 1) (Fixed (e (codes "p"))) (Variable 0) ∷ [])) dataset ≡ []
unfolding opened ranked digits
literal_subjects = refl

one_line : answer (construct_query (pattern (Fixed (e (codes "s"))) (Fixed (e (codes "p"))) (Fixed (e (codes "o"))) ∷ [])) dataset ≡ codes "<http://e/s> <http://e/p> <http://e/o> ." ∷ []
unfolding opened ranked digits
one_line = refl
