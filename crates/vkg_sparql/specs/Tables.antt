-- SPARQL 1.1, 19.8, [61] to [65]: a table of VALUES, off its tree.
use Rattle.std.specs.Prelude.{List, [], ◌∷◌, Option}
use Rattle.vkg_grammar.specs.Trees.{Tree, pair, first, second}
use Rattle.vkg_terms.specs.declared.term.Term.{Term}
use Rattle.vkg_sparql.specs.declared.meaning.Meaning.{Meaning}
use Rattle.vkg_sparql.specs.declared.query.Part.{Part}
use Rattle.vkg_sparql.specs.declared.query.Part.TheVariants.{Values}
use Rattle.vkg_sparql.specs.Meanings.{first_token, meaning_at, number_of, numbers_value, term_if}

-- value = iri | literal | UNDEF
abbrev pub data_value : List Meaning → Tree → Option Term
data_value ms t = term_if (meaning_at ms (first_token t))

-- { value }
abbrev pub row_value : List Meaning → Tree → List (Option Term)
row_value ms (pair v more) = data_value ms v ∷ row_value ms more
row_value ms t = []

-- { value }, each of them a row
abbrev pub column_value : List Meaning → Tree → List (List (Option Term))
column_value ms (pair v more) = (data_value ms v ∷ []) ∷ column_value ms more
column_value ms t = []

-- { row }, where row = "(" { value } ")"
abbrev pub rows_value : List Meaning → Tree → List (List (Option Term))
rows_value ms (pair (pair left (pair vs right)) more) = row_value ms vs ∷ rows_value ms more
rows_value ms t = []

-- of a tree that no production has
abbrev pub no_table : Part
no_table = Values [] []

-- VAR "{" { value } "}"
abbrev pub column_table : List Meaning → Tree → Part
column_table ms (pair v (pair left (pair vs right))) = Values (number_of (meaning_at ms (first_token v)) ∷ []) (column_value ms vs)
column_table ms t = no_table

-- "(" { VAR } ")" "{" { row } "}"
abbrev pub rows_table : List Meaning → Tree → Part
rows_table ms (pair left (pair vs (pair right (pair brace (pair rows close))))) = Values (numbers_value ms vs) (rows_value ms rows)
rows_table ms t = no_table

-- table = VAR "{" { value } "}" | "(" { VAR } ")" "{" { row } "}"
abbrev pub table_value : List Meaning → Tree → Part
table_value ms (first t) = column_table ms t
table_value ms (second t) = rows_table ms t
table_value ms t = no_table
