-- What is visible in a group, read from the left, and what of its tables and its variables is wrong.
use Rattle.std.specs.Prelude.{ℕ, Bool, false, List, [], ◌∷◌, ◌++◌, fold, length, Option, Some, None, if◌then◌else◌, ◌==◌, nat_eq}
use Rattle.std.specs.List.{list_any}
use Rattle.std.specs.Option.{option_or}
use Rattle.vkg_grammar.specs.Trees.{Tree, pair, first, second}
use Rattle.vkg_sparql.specs.declared.lexeme.Lexeme.{Lexeme}
use Rattle.vkg_sparql.specs.declared.meaning.Meaning.{Meaning}
use Rattle.vkg_sparql.specs.declared.meaning.TripleTokens.{TripleTokens}
use Rattle.vkg_sparql.specs.declared.scopes.Scope.{Scope}
use Rattle.vkg_sparql.specs.Checks.{place_in}
use Rattle.vkg_sparql.specs.Meanings.{first_token, meaning_at, variable_if}
use Rattle.vkg_sparql.specs.Triples.{block_triples}

abbrev pub no_scope : Scope
no_scope = record { visible = []; uneven = None; again = None }

abbrev pub is_among : List ℕ → ℕ → Bool
is_among ns n = list_any (nat_eq n) ns

abbrev pub with_number : List ℕ → ℕ → List ℕ
with_number ns n = if is_among ns n then ns else ns ++ n ∷ []

-- the variable of this number, if there is one, is visible
abbrev pub with_visible : Scope → Option ℕ → Scope
with_visible s None = s
with_visible s (Some n) = record s { visible = with_number s.visible n }

abbrev pub is_visible : Scope → Option ℕ → Bool
is_visible s None = false
is_visible s (Some n) = is_among s.visible n

abbrev pub with_variable : List Meaning → Scope → ℕ → Scope
with_variable ms s token = with_visible s (variable_if (meaning_at ms token))

-- SPARQL 1.1, 18.2.1: in a triple pattern and in GRAPH a variable is visible
abbrev pub with_triple : List Meaning → Scope → TripleTokens → Scope
with_triple ms s t = with_variable ms (with_variable ms (with_variable ms s t.subject) t.predicate) t.object

abbrev pub with_triples : List Meaning → Scope → List TripleTokens → Scope
with_triples ms s ts = fold (with_triple ms) s ts

abbrev pub with_again : Scope → Option ℕ → Scope
with_again s at = record s { again = option_or s.again at }

-- 10.1: a variable that BIND makes visible must not be so in what the group holds before it
abbrev pub with_bound : List Meaning → List Lexeme → Scope → ℕ → Scope
with_bound ms xs s token =
    with_variable ms (if is_visible s (variable_if (meaning_at ms token)) then with_again s (place_in xs token) else s) token

-- { VAR } or { value }: their first tokens
abbrev pub tokens_value : Tree → List ℕ
tokens_value (pair v more) = first_token v ∷ tokens_value more
tokens_value t = []

-- 10.2.2: a row has as many values as there are variables; that without is told at its `(`
abbrev pub row_over : List Lexeme → ℕ → Tree → Option ℕ
row_over xs width (pair (pair left (pair vs right)) more) = if length (tokens_value vs) == width then row_over xs width more else place_in xs (first_token left)
row_over xs width t = None

-- own: the first variable that is listed twice, at its second place
abbrev pub listed_again : List Meaning → List Lexeme → List ℕ → Option ℕ
listed_again ms xs tokens = (fold (with_bound ms xs) no_scope tokens).again

abbrev pub with_uneven : Scope → Option ℕ → Scope
with_uneven s at = record s { uneven = option_or s.uneven at }

abbrev pub with_table : List Meaning → List Lexeme → Scope → List ℕ → Tree → Scope
with_table ms xs s tokens rows =
    with_uneven (fold (with_variable ms) s tokens) (option_or (listed_again ms xs tokens) (row_over xs (length tokens) rows))

-- "(" { VAR } ")" "{" { row } "}"
abbrev pub list_scope : List Meaning → List Lexeme → Scope → Tree → Scope
list_scope ms xs s (pair left (pair vs (pair right (pair brace (pair rows close))))) = with_table ms xs s (tokens_value vs) rows
list_scope ms xs s t = s

-- table = VAR "{" { value } "}" | "(" { VAR } ")" "{" { row } "}"
abbrev pub table_scope : List Meaning → List Lexeme → Scope → Tree → Scope
table_scope ms xs s (first (pair v more)) = with_variable ms s (first_token v)
table_scope ms xs s (second t) = list_scope ms xs s t
table_scope ms xs s t = s

-- BIND "(" or AS VAR ")"
abbrev pub bind_scope : List Meaning → List Lexeme → Scope → Tree → Scope
bind_scope ms xs s (pair word (pair left (pair c (pair as_ (pair v right))))) = with_bound ms xs s (first_token v)
bind_scope ms xs s t = s

-- where a group within begins
abbrev pub inside : Scope → Scope
inside s = record s { visible = [] }

-- behind it: what is visible in it is so where it stands
abbrev pub joined : Scope → Scope → Scope
joined s inner = record inner { visible = fold with_number s.visible inner.visible }

-- 18.2.1: of MINUS nothing is
abbrev pub left_out : Scope → Scope → Scope
left_out s inner = record inner { visible = s.visible }

abbrev mutual
  -- group = "{" [ block ] { part [ "." ] [ block ] } "}", within what this scope says
  pub group_scope : List Meaning → List Lexeme → Scope → Tree → Scope
  group_scope ms xs s (pair left (pair block (pair more right))) = parts_scope ms xs (with_triples ms (inside s) (block_triples block)) more
  group_scope ms xs s t = inside s

  pub parts_scope : List Meaning → List Lexeme → Scope → Tree → Scope
  parts_scope ms xs s (pair (pair p (pair dot block)) more) = parts_scope ms xs (with_triples ms (part_scope ms xs s p) (block_triples block)) more
  parts_scope ms xs s t = s

  -- part = OPTIONAL group | GRAPH name group | FILTER filter | group { UNION group } | MINUS group | BIND "(" or AS VAR ")" | VALUES table
  pub part_scope : List Meaning → List Lexeme → Scope → Tree → Scope
  part_scope ms xs s (first (pair word g)) = joined s (group_scope ms xs s g)
  part_scope ms xs s (second t) = other_scope ms xs s t
  part_scope ms xs s t = s

  pub other_scope : List Meaning → List Lexeme → Scope → Tree → Scope
  other_scope ms xs s (first t) = graph_scope ms xs s t
  other_scope ms xs s (second (second t)) = later_scope ms xs s t
  other_scope ms xs s t = s

  pub later_scope : List Meaning → List Lexeme → Scope → Tree → Scope
  later_scope ms xs s (first t) = union_scope ms xs s t
  later_scope ms xs s (second t) = last_scope ms xs s t
  later_scope ms xs s t = s

  -- MINUS group | BIND "(" or AS VAR ")" | VALUES table
  pub last_scope : List Meaning → List Lexeme → Scope → Tree → Scope
  last_scope ms xs s (first (pair word g)) = left_out s (group_scope ms xs s g)
  last_scope ms xs s (second (first t)) = bind_scope ms xs s t
  last_scope ms xs s (second (second (pair word t))) = table_scope ms xs s t
  last_scope ms xs s t = s

  -- GRAPH name group
  pub graph_scope : List Meaning → List Lexeme → Scope → Tree → Scope
  graph_scope ms xs s (pair word (pair name g)) = joined (with_variable ms s (first_token name)) (group_scope ms xs s g)
  graph_scope ms xs s t = s

  -- group { UNION group }
  pub union_scope : List Meaning → List Lexeme → Scope → Tree → Scope
  union_scope ms xs s (pair g more) = groups_scope ms xs (joined s (group_scope ms xs s g)) more
  union_scope ms xs s t = s

  pub groups_scope : List Meaning → List Lexeme → Scope → Tree → Scope
  groups_scope ms xs s (pair (pair word g) more) = groups_scope ms xs (joined s (group_scope ms xs s g)) more
  groups_scope ms xs s t = s

-- solutions = [ WHERE ] group [ order ] [ slice ]
abbrev pub solutions_scope : List Meaning → List Lexeme → Tree → Scope
solutions_scope ms xs (pair where_ (pair g more)) = group_scope ms xs no_scope g
solutions_scope ms xs t = no_scope

-- SELECT [ DISTINCT | REDUCED ] selection solutions
abbrev pub select_scope : List Meaning → List Lexeme → Tree → Scope
select_scope ms xs (pair select (pair kind (pair selection t))) = solutions_scope ms xs t
select_scope ms xs t = no_scope

-- ASK [ WHERE ] group
abbrev pub ask_scope : List Meaning → List Lexeme → Tree → Scope
ask_scope ms xs (pair ask (pair where_ g)) = group_scope ms xs no_scope g
ask_scope ms xs t = no_scope

-- CONSTRUCT "{" [ block ] "}" solutions: a variable of the template is not visible by that
abbrev pub construct_scope : List Meaning → List Lexeme → Tree → Scope
construct_scope ms xs (pair construct (pair left (pair block (pair right t)))) = solutions_scope ms xs t
construct_scope ms xs t = no_scope

-- form = SELECT .. | ASK .. | CONSTRUCT ..
abbrev pub form_scope : List Meaning → List Lexeme → Tree → Scope
form_scope ms xs (first t) = select_scope ms xs t
form_scope ms xs (second (first t)) = ask_scope ms xs t
form_scope ms xs (second (second t)) = construct_scope ms xs t
form_scope ms xs t = no_scope

-- of the outermost group of a query
abbrev pub query_scope : List Meaning → List Lexeme → Tree → Scope
query_scope ms xs (pair prologue t) = form_scope ms xs t
query_scope ms xs t = no_scope
