-- The nodes of a query, which are counted.
use Rattle.std.specs.Prelude.{ℕ, Bool, false, ◌||◌, ◌&&◌, List, [], ◌∷◌, ◌++◌, fold, slice_get, Option, if◌then◌else◌, ◌==◌, nat_le}
use Rattle.vkg_tokens.specs.declared.sparql_kinds.TheConstants.{OPEN_BRACE, CLOSE_BRACE, OPEN, EQUAL, OR, CARETS, OPTIONAL, DATATYPE, STRLEN, BIND, VALUES, UNDEF, CONSTRUCT}
use Rattle.vkg_sparql.specs.declared.lexeme.Lexeme.{Lexeme}
use Rattle.vkg_sparql.specs.declared.nodes.Nodes.{Nodes}
use Rattle.vkg_sparql.specs.declared.nodes.Stretch.{Stretch}
use Rattle.vkg_sparql.specs.declared.nodes.Stretch.TheVariants as stretch
use Rattle.vkg_sparql.specs.Literals.{is_term}

-- SPARQL 1.1, 19.8, [61] to [65] and [10]: behind VALUES come variables, and behind a brace values; an IRI behind `^^` is no value of its own;
-- behind CONSTRUCT comes a template, up to its closing brace
abbrev pub next_stretch : Stretch → ℕ → Stretch
next_stretch stretch.Group kind = if kind == VALUES then stretch.Variables else if kind == CONSTRUCT then stretch.Template else stretch.Group
next_stretch stretch.Template kind = if kind == CLOSE_BRACE then stretch.Group else stretch.Template
next_stretch stretch.Variables kind = if kind == OPEN_BRACE then stretch.Rows else stretch.Variables
next_stretch stretch.Rows kind = if kind == CLOSE_BRACE then stretch.Group else if kind == CARETS then stretch.Suffix else stretch.Rows
next_stretch stretch.Suffix kind = stretch.Rows

-- own: the nodes that are counted: a group's `{`, OPTIONAL, GRAPH, FILTER, UNION, MINUS, BIND, VALUES, the signs of operators, the words of
-- calls. Among the kinds the signs stand together from `=` to `||`, and the words from OPTIONAL to DATATYPE and from STRLEN to BIND
abbrev pub is_node : ℕ → Bool
is_node kind = (kind == OPEN_BRACE) || (nat_le EQUAL kind && nat_le kind OR) || (nat_le OPTIONAL kind && nat_le kind DATATYPE) || (nat_le STRLEN kind && nat_le kind BIND) || (kind == VALUES)

-- own: and of VALUES each row's `(` and each value
abbrev pub is_node_in : Stretch → ℕ → Bool
is_node_in stretch.Group kind = is_node kind
is_node_in stretch.Template kind = false
is_node_in stretch.Variables kind = false
is_node_in stretch.Rows kind = (kind == OPEN) || (kind == UNDEF) || is_term kind
is_node_in stretch.Suffix kind = false

abbrev pub node_step : Nodes → Lexeme → Nodes
node_step n x = record {
  stretch = next_stretch n.stretch x.kind;
  places = if is_node_in n.stretch x.kind then n.places ++ x.at ∷ [] else n.places;
}

abbrev pub no_nodes : Nodes
no_nodes = record { stretch = stretch.Group; places = [] }

abbrev pub node_places : List Lexeme → List ℕ
node_places xs = (fold node_step no_nodes xs).places

-- own: at most 1,024 nodes
abbrev pub nodes_over : List Lexeme → Option ℕ
nodes_over xs = slice_get (node_places xs) 1024
