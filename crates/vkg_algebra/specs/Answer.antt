-- The answer to a query over a dataset, as lines (SPARQL 1.1 Query Results CSV and TSV Formats, 4).
use Rattle.std.specs.Prelude.{ℕ, Bool, true, false, List, [], ◌∷◌, ◌++◌, codes, map, length, take, drop, slice_get, Option, Some, None, if◌then◌else◌}
use Rattle.std.specs.List.{join_with_byte}
use Rattle.std.specs.Option.{option_eq}
use Rattle.std.specs.Cmp.Lexicographic.{pointwise}
use Rattle.vkg_lists.specs.Sets.{distinct}
use Rattle.vkg_terms.specs.declared.term.Term.{Term}
use Rattle.vkg_terms.specs.Same.{term_eq}
use Rattle.vkg_terms.specs.NQuads.{term_text}
use Rattle.vkg_sparql.specs.declared.query.Form.{Form}
use Rattle.vkg_sparql.specs.declared.query.Form.TheVariants.{Select, Ask, Construct}
use Rattle.vkg_sparql.specs.declared.query.Selected.{Selected}
use Rattle.vkg_sparql.specs.declared.query.Selected.TheVariants.{All, Listed}
use Rattle.vkg_sparql.specs.Query.{Key, Query}
use Rattle.vkg_order.specs.declared.modifiers.Direction.{Direction}
use Rattle.vkg_order.specs.declared.modifiers.Direction.TheVariants.{Ascending, Descending}
use Rattle.vkg_order.specs.declared.modifiers.Modifiers.{Modifiers}
use Rattle.vkg_order.specs.Entries.{Entry}
use Rattle.vkg_order.specs.Listed.{listed}
use Rattle.vkg_order.specs.Ranked.{Found, ranked}
use Rattle.vkg_algebra.specs.Construct.{graph_lines}
use Rattle.vkg_algebra.specs.Solutions.{Solution, lookup}
use Rattle.vkg_algebra.specs.Evaluation.{Dataset, evaluate}
use Rattle.vkg_algebra.specs.Visible.{visible, each_once}
use Rattle.vkg_algebra.specs.Translation.{algebra_of}
use Rattle.vkg_algebra.specs.Values.{expression_value}

-- SPARQL 1.1, 16.1: `*` selects the variables in scope; one that is named twice is listed once
abbrev pub columns : Selected → List ℕ → List ℕ
columns All vs = vs
columns (Listed vs) all = each_once vs

abbrev pub selected_variables : Query → List ℕ
selected_variables query = columns query.selected (visible (algebra_of query))

-- SPARQL 1.1, 18.5, Project: the terms of these variables
abbrev pub projected : List ℕ → Solution → Solution
projected vs s = map (lookup s) vs

abbrev pub solution_eq : Solution → Solution → Bool
solution_eq s t = pointwise (option_eq term_eq) s t

-- SPARQL 1.1, 18.6: the solutions of the query's pattern, where the default graph is active
abbrev pub matches_of : Query → Dataset → List Solution
matches_of query dataset = evaluate (length query.names) dataset (algebra_of query) None

-- SPARQL 1.1, 15.1: the values of the keys; an error is none, as an unbound variable is
abbrev pub key_values : List Key → Solution → List (Option Term)
key_values keys s = map (λ k. expression_value k.condition s) keys

-- the terms of the selected variables, and behind them the values of the keys
abbrev pub with_keys : Query → Solution → Solution
with_keys query s = projected (selected_variables query) s ++ key_values query.keys s

-- what a plan gives of a query: these, each once under DISTINCT. Without keys these are SPARQL's, 18.2.5.2 and 18.2.5.3
abbrev pub solutions_of : Query → Dataset → List Solution
solutions_of query dataset =
    let solutions = map (with_keys query) (matches_of query dataset) in
    if query.distinct then distinct solution_eq solutions else solutions

-- texts with a tab (9) between each two
abbrev pub tabbed : List (List ℕ) → List ℕ
tabbed texts = join_with_byte 9 texts

-- a variable with its question mark (63)
abbrev pub variable_text : Option (List ℕ) → List ℕ
variable_text (Some name) = 63 ∷ name
variable_text None = []

abbrev pub header : Query → List ℕ
header query = tabbed (map (λ v. variable_text (slice_get query.names v)) (selected_variables query))

-- an unbound variable has the empty text
abbrev pub place_text : Option Term → List ℕ
place_text (Some t) = term_text t
place_text None = []

abbrev pub solution_line : Solution → List ℕ
solution_line s = tabbed (map place_text s)

abbrev pub direction_of : Key → Direction
direction_of k = if k.descends then Descending else Ascending

-- SPARQL 1.1, 15: what ORDER BY, DISTINCT, OFFSET and LIMIT ask
abbrev pub modifiers_of : Query → Modifiers
modifiers_of query = record {
  directions = map direction_of query.keys;
  distinct = query.distinct;
  slice = record { offset = query.slice.offset; limit = query.slice.limit };
}

-- a solution's line, and the values by which it is ordered, which may be of variables that are not selected
abbrev pub entry_of : Query → Solution → Entry
entry_of query s = record { keys = key_values query.keys s; line = solution_line (projected (selected_variables query) s) }

-- the same of the terms of the selected variables, which are so many, and the values of the keys behind them
abbrev pub solution_entry : ℕ → Solution → Entry
solution_entry n s = record { keys = drop n s; line = solution_line (take n s) }

-- a solution with its entry, of so many variables and the values of the keys behind them
abbrev pub found_of : ℕ → Solution → Found
found_of n s = record { entry = solution_entry n s; terms = s }

-- SPARQL 1.1, 18.2.5: the solutions in the asked order, and of them the slice
abbrev pub ordered : Query → List Solution → List Solution
ordered query ss = ranked (modifiers_of query) (map (found_of (length (selected_variables query))) ss)

-- SPARQL 1.1, 16.3: whether there is a solution
abbrev pub has_solution : List Solution → Bool
has_solution [] = false
has_solution (s ∷ ss) = true

abbrev pub asked : List Solution → List ℕ
asked ss = if has_solution ss then codes "true" else codes "false"

-- SPARQL 1.1, 16: of SELECT the header, then the solutions' lines in the asked order, or where nothing is asked in that of their bytes; of ASK
-- one word; of CONSTRUCT the graph that the template makes of the ordered solutions
abbrev pub form_answer : Query → Form → Dataset → List (List ℕ)
form_answer query Select dataset = header query ∷ listed (modifiers_of query) (map (entry_of query) (matches_of query dataset))
form_answer query Ask dataset = asked (matches_of query dataset) ∷ []
form_answer query (Construct template) dataset = graph_lines template (selected_variables query) (ordered query (solutions_of query dataset))

abbrev pub answer : Query → Dataset → List (List ℕ)
answer query dataset = form_answer query query.form dataset

-- the same of what a plan gives, in any order
abbrev pub form_lines : Query → Form → List Solution → List (List ℕ)
form_lines query Select ss = header query ∷ listed (modifiers_of query) (map (solution_entry (length (selected_variables query))) ss)
form_lines query Ask ss = asked ss ∷ []
form_lines query (Construct template) ss = graph_lines template (selected_variables query) (ordered query ss)

abbrev pub solutions_lines : Query → List Solution → List (List ℕ)
solutions_lines query ss = form_lines query query.form ss
