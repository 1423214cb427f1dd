-- SPARQL 1.1, 19.8, [1] to [12], [17], [18], [53] to [74]: groups and the query, off its tree.
use Rattle.std.specs.Prelude.{ℕ, Bool, true, false, List, [], ◌∷◌, ◌++◌, map}
use Rattle.vkg_grammar.specs.Trees.{Tree, pair, first, second}
use Rattle.vkg_sparql.specs.declared.meaning.Meaning.{Meaning}
use Rattle.vkg_sparql.specs.declared.meaning.TripleTokens.{TripleTokens}
use Rattle.vkg_sparql.specs.declared.pattern.TriplePattern.{TriplePattern}
use Rattle.vkg_sparql.specs.declared.query.Form.{Form}
use Rattle.vkg_sparql.specs.declared.query.Form.TheVariants.{Select, Ask, Construct}
use Rattle.vkg_sparql.specs.declared.query.Part.{Part}
use Rattle.vkg_sparql.specs.declared.query.Part.TheVariants.{Triples, Filter, Optional, Graph, Groups, Minus, Bind}
use Rattle.vkg_sparql.specs.declared.query.Query.{Query}
use Rattle.vkg_sparql.specs.declared.query.Selected.{Selected}
use Rattle.vkg_sparql.specs.declared.query.Selected.TheVariants.{All, Listed}
use Rattle.vkg_sparql.specs.Conditions.{filter_value, or_value}
use Rattle.vkg_sparql.specs.Meanings.{first_token, meaning_at, number_of, numbers_value, pattern_of, name_of}
use Rattle.vkg_sparql.specs.Orders.{no_slice, order_value, slice_value}
use Rattle.vkg_sparql.specs.Tables.{table_value}
use Rattle.vkg_sparql.specs.Triples.{block_value, block_triples}

abbrev pub patterns_of : List Meaning → List TripleTokens → List TriplePattern
patterns_of ms ts = map (pattern_of ms) ts

-- [ block ]
abbrev pub block_parts : List Meaning → Tree → List Part
block_parts ms (first t) = Triples (patterns_of ms (block_value t)) ∷ []
block_parts ms t = []

-- of a tree that no production has
abbrev pub no_part : Part
no_part = Triples []

-- BIND "(" or AS VAR ")"
abbrev pub bind_value : List Meaning → Tree → Part
bind_value ms (pair word (pair left (pair c (pair as_ (pair v right))))) = Bind (or_value ms c) (number_of (meaning_at ms (first_token v)))
bind_value ms t = no_part

abbrev mutual
  -- group = "{" [ block ] { part [ "." ] [ block ] } "}"
  pub group_value : List Meaning → Tree → List Part
  group_value ms (pair left (pair block (pair more right))) = block_parts ms block ++ parts_value ms more
  group_value ms t = []

  pub parts_value : List Meaning → Tree → List Part
  parts_value ms (pair (pair p (pair dot block)) more) = (part_value ms p ∷ block_parts ms block) ++ parts_value ms more
  parts_value ms t = []

  -- part = OPTIONAL group | GRAPH name group | FILTER filter | group { UNION group } | MINUS group | BIND "(" or AS VAR ")" | VALUES table
  pub part_value : List Meaning → Tree → Part
  part_value ms (first (pair word g)) = Optional (group_value ms g)
  part_value ms (second t) = other_value ms t
  part_value ms t = no_part

  pub other_value : List Meaning → Tree → Part
  other_value ms (first t) = graph_value ms t
  other_value ms (second (first (pair word t))) = Filter (filter_value ms t)
  other_value ms (second (second t)) = later_value ms t
  other_value ms t = no_part

  pub later_value : List Meaning → Tree → Part
  later_value ms (first t) = union_value ms t
  later_value ms (second t) = last_value ms t
  later_value ms t = no_part

  -- MINUS group | BIND "(" or AS VAR ")" | VALUES table
  pub last_value : List Meaning → Tree → Part
  last_value ms (first (pair word g)) = Minus (group_value ms g)
  last_value ms (second (first t)) = bind_value ms t
  last_value ms (second (second (pair word t))) = table_value ms t
  last_value ms t = no_part

  -- GRAPH name group
  pub graph_value : List Meaning → Tree → Part
  graph_value ms (pair word (pair name g)) = Graph (name_of (meaning_at ms (first_token name))) (group_value ms g)
  graph_value ms t = no_part

  -- group { UNION group }
  pub union_value : List Meaning → Tree → Part
  union_value ms (pair g more) = Groups (group_value ms g) (groups_value ms more)
  union_value ms t = no_part

  pub groups_value : List Meaning → Tree → List (List Part)
  groups_value ms (pair (pair word g) more) = group_value ms g ∷ groups_value ms more
  groups_value ms t = []

-- selection = VAR { VAR } | "*"
abbrev pub selection_value : List Meaning → Tree → Selected
selection_value ms (first t) = Listed (numbers_value ms t)
selection_value ms t = All

-- [ DISTINCT | REDUCED ]
abbrev pub is_distinct : Tree → Bool
is_distinct (first (first t)) = true
is_distinct t = false

-- of a tree that no production has
abbrev pub no_query : List (List ℕ) → Query
no_query names = record { names = names; form = Select; distinct = false; selected = All; group = []; keys = []; slice = no_slice }

-- solutions = [ WHERE ] group [ order ] [ slice ], behind what asks for this
abbrev pub solutions_value : List (List ℕ) → Form → Bool → Selected → List Meaning → Tree → Query
solutions_value names form distinct selected ms (pair where_ (pair g (pair order slice))) = record {
  names = names;
  form = form;
  distinct = distinct;
  selected = selected;
  group = group_value ms g;
  keys = order_value ms order;
  slice = slice_value ms slice;
}
solutions_value names form distinct selected ms t = no_query names

-- SELECT [ DISTINCT | REDUCED ] selection solutions
abbrev pub select_value : List (List ℕ) → List Meaning → Tree → Query
select_value names ms (pair select (pair kind (pair selection t))) = solutions_value names Select (is_distinct kind) (selection_value ms selection) ms t
select_value names ms t = no_query names

-- ASK [ WHERE ] group: no variable is selected
abbrev pub ask_value : List (List ℕ) → List Meaning → Tree → Query
ask_value names ms (pair ask (pair where_ g)) = record { names = names; form = Ask; distinct = false; selected = Listed []; group = group_value ms g; keys = []; slice = no_slice }
ask_value names ms t = no_query names

-- CONSTRUCT "{" [ block ] "}" solutions: each variable is selected
abbrev pub construct_value : List (List ℕ) → List Meaning → Tree → Query
construct_value names ms (pair construct (pair left (pair block (pair right t)))) = solutions_value names (Construct (patterns_of ms (block_triples block))) false All ms t
construct_value names ms t = no_query names

-- form = SELECT .. | ASK .. | CONSTRUCT ..
abbrev pub form_value : List (List ℕ) → List Meaning → Tree → Query
form_value names ms (first t) = select_value names ms t
form_value names ms (second (first t)) = ask_value names ms t
form_value names ms (second (second t)) = construct_value names ms t
form_value names ms t = no_query names

-- query = prologue form, where the variables and labels have these names
abbrev pub query_value : List (List ℕ) → List Meaning → Tree → Query
query_value names ms (pair prologue t) = form_value names ms t
query_value names ms t = no_query names
