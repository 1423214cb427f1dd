-- SPARQL 1.1, 19.8, [55] and [75] to [109]: the triple patterns of a block, off its tree, in the order in which their objects
-- begin. Each part of a pattern is said by its first token; a `[` stands for its blank node (4.1.4).
use Rattle.std.specs.Prelude.{ℕ, List, [], ◌∷◌, ◌++◌}
use Rattle.vkg_grammar.specs.Trees.{Tree, pair, first, second}
use Rattle.vkg_sparql.specs.declared.meaning.TripleTokens.{TripleTokens}
use Rattle.vkg_sparql.specs.Meanings.{first_token}

abbrev pub triple : ℕ → ℕ → ℕ → TripleTokens
triple s p o = record { subject = s; predicate = p; object = o }

abbrev mutual
  -- plist = verb olist { ";" [ verb olist ] }
  pub plist_value : ℕ → Tree → List TripleTokens
  plist_value s (pair verb (pair objects more)) = olist_value s (first_token verb) objects ++ plist_more s more
  plist_value s t = []

  pub plist_more : ℕ → Tree → List TripleTokens
  plist_more s (pair (pair semicolon t) more) = verb_value s t ++ plist_more s more
  plist_more s t = []

  -- [ verb olist ]
  pub verb_value : ℕ → Tree → List TripleTokens
  verb_value s (first (pair verb objects)) = olist_value s (first_token verb) objects
  verb_value s t = []

  -- olist = object { "," object }
  pub olist_value : ℕ → ℕ → Tree → List TripleTokens
  olist_value s p (pair o more) = object_value s p o ++ olist_more s p more
  olist_value s p t = []

  pub olist_more : ℕ → ℕ → Tree → List TripleTokens
  olist_more s p (pair (pair comma o) more) = object_value s p o ++ olist_more s p more
  olist_more s p t = []

  -- object = item | "[" [ plist ] "]"
  pub object_value : ℕ → ℕ → Tree → List TripleTokens
  object_value s p (first t) = triple s p (first_token t) ∷ []
  object_value s p (second (pair left (pair inner right))) = triple s p (first_token left) ∷ inner_value (first_token left) inner
  object_value s p t = []

  -- [ plist ]
  pub inner_value : ℕ → Tree → List TripleTokens
  inner_value s (first t) = plist_value s t
  inner_value s t = []

-- "]" plist | plist "]" [ plist ], behind a `[`
abbrev pub bracket_value : ℕ → Tree → List TripleTokens
bracket_value s (first (pair right list)) = plist_value s list
bracket_value s (second (pair list (pair right more))) = plist_value s list ++ inner_value s more
bracket_value s t = []

-- same = item plist | "[" ( "]" plist | plist "]" [ plist ] )
abbrev pub same_value : Tree → List TripleTokens
same_value (first (pair item list)) = plist_value (first_token item) list
same_value (second (pair left rest)) = bracket_value (first_token left) rest
same_value t = []

-- block = same [ "." [ block ] ]
abbrev pub block_value : Tree → List TripleTokens
block_value (pair same (first (pair dot (first more)))) = same_value same ++ block_value more
block_value (pair same t) = same_value same
block_value t = []

-- [ block ]
abbrev pub block_triples : Tree → List TripleTokens
block_triples (first t) = block_value t
block_triples t = []

abbrev mutual
  -- group = "{" [ block ] { part [ "." ] [ block ] } "}": all its triple patterns
  pub group_triples : Tree → List TripleTokens
  group_triples (pair left (pair block (pair more right))) = block_triples block ++ parts_triples more
  group_triples t = []

  pub parts_triples : Tree → List TripleTokens
  parts_triples (pair (pair p (pair dot block)) more) = (part_triples p ++ block_triples block) ++ parts_triples more
  parts_triples t = []

  -- part = OPTIONAL group | GRAPH name group | FILTER filter | group { UNION group } | MINUS group | BIND .. | VALUES table
  pub part_triples : Tree → List TripleTokens
  part_triples (first (pair word g)) = group_triples g
  part_triples (second t) = other_triples t
  part_triples t = []

  pub other_triples : Tree → List TripleTokens
  other_triples (first t) = graph_triples t
  other_triples (second (second t)) = later_triples t
  other_triples t = []

  pub later_triples : Tree → List TripleTokens
  later_triples (first t) = union_triples t
  later_triples (second t) = last_triples t
  later_triples t = []

  -- MINUS group | BIND "(" or AS VAR ")" | VALUES table
  pub last_triples : Tree → List TripleTokens
  last_triples (first (pair word g)) = group_triples g
  last_triples t = []

  -- GRAPH name group
  pub graph_triples : Tree → List TripleTokens
  graph_triples (pair word (pair name g)) = group_triples g
  graph_triples t = []

  -- group { UNION group }
  pub union_triples : Tree → List TripleTokens
  union_triples (pair g more) = group_triples g ++ groups_triples more
  union_triples t = []

  pub groups_triples : Tree → List TripleTokens
  groups_triples (pair (pair word g) more) = group_triples g ++ groups_triples more
  groups_triples t = []

-- solutions = [ WHERE ] group [ order ] [ slice ]
abbrev pub solutions_triples : Tree → List TripleTokens
solutions_triples (pair where_ (pair g more)) = group_triples g
solutions_triples t = []

-- SELECT [ DISTINCT | REDUCED ] selection solutions
abbrev pub select_triples : Tree → List TripleTokens
select_triples (pair select (pair kind (pair selection t))) = solutions_triples t
select_triples t = []

-- ASK [ WHERE ] group
abbrev pub ask_triples : Tree → List TripleTokens
ask_triples (pair ask (pair where_ g)) = group_triples g
ask_triples t = []

-- CONSTRUCT "{" [ block ] "}" solutions
abbrev pub construct_triples : Tree → List TripleTokens
construct_triples (pair construct (pair left (pair block (pair right t)))) = block_triples block ++ solutions_triples t
construct_triples t = []

-- form = SELECT .. | ASK .. | CONSTRUCT ..
abbrev pub form_triples : Tree → List TripleTokens
form_triples (first t) = select_triples t
form_triples (second (first t)) = ask_triples t
form_triples (second (second t)) = construct_triples t
form_triples t = []

-- all triple patterns of a query, those of its template first
abbrev pub query_triples : Tree → List TripleTokens
query_triples (pair prologue t) = form_triples t
query_triples t = []
