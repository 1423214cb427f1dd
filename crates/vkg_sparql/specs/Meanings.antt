-- What the tokens of a query stand for, and what is made of them. Where the grammar has no such token, any value serves.
use Rattle.std.specs.Prelude.{ℕ, List, [], ◌∷◌, slice_get, unwrap_or, Option, Some, None}
use Rattle.vkg_grammar.specs.Trees.{Tree, leaf, nothing, pair, first, second}
use Rattle.vkg_terms.specs.declared.term.Term.{Term}
use Rattle.vkg_terms.specs.declared.term.Term.TheVariants.{Iri}
use Rattle.vkg_values.specs.declared.operator.Compare.{Compare as CompareOp}
use Rattle.vkg_values.specs.declared.operator.Compare.TheVariants.{Equal}
use Rattle.vkg_sparql.specs.declared.condition.Condition.{Condition}
use Rattle.vkg_sparql.specs.declared.condition.Condition.TheVariants as condition
use Rattle.vkg_sparql.specs.declared.meaning.Meaning.{Meaning}
use Rattle.vkg_sparql.specs.declared.meaning.Meaning.TheVariants.{Mark, Variable, Label, Fixed, Compare, Test, Take}
use Rattle.vkg_sparql.specs.declared.meaning.TripleTokens.{TripleTokens}
use Rattle.vkg_sparql.specs.declared.pattern.Node.{Node}
use Rattle.vkg_sparql.specs.declared.pattern.Node.TheVariants as node
use Rattle.vkg_sparql.specs.declared.pattern.GraphName.{GraphName}
use Rattle.vkg_sparql.specs.declared.pattern.GraphName.TheVariants.{Each, Named}
use Rattle.vkg_sparql.specs.declared.pattern.TriplePattern.{TriplePattern}

-- the number of the first token of a tree
abbrev pub first_token : Tree → ℕ
first_token (leaf token) = token
first_token nothing = 0
first_token (pair a b) = first_token a
first_token (first a) = first_token a
first_token (second a) = first_token a

abbrev pub meaning_at : List Meaning → ℕ → Meaning
meaning_at ms token = unwrap_or (slice_get ms token) Mark

-- a place of a triple pattern
abbrev pub node_of : Meaning → Node
node_of (Variable n) = node.Variable n
node_of (Label n) = node.Label n
node_of (Fixed t) = node.Fixed t
node_of m = node.Label 0

abbrev pub number_of : Meaning → ℕ
number_of (Variable n) = n
number_of m = 0

abbrev pub variable_if : Meaning → Option ℕ
variable_if (Variable n) = Some n
variable_if m = None

-- a value of VALUES; UNDEF is none
abbrev pub term_if : Meaning → Option Term
term_if (Fixed t) = Some t
term_if m = None

-- { VAR }
abbrev pub numbers_value : List Meaning → Tree → List ℕ
numbers_value ms (pair v more) = number_of (meaning_at ms (first_token v)) ∷ numbers_value ms more
numbers_value ms t = []

-- an expression that is one token, or one literal
abbrev pub operand_of : Meaning → Condition
operand_of (Variable n) = condition.Variable n
operand_of (Fixed t) = condition.Constant t
operand_of m = condition.Variable 0

abbrev pub compare_of : Meaning → CompareOp
compare_of (Compare op) = op
compare_of m = Equal

-- the call of a word that takes one argument, and of one that takes two
abbrev pub applied : Meaning → Condition → Condition
applied (Test op) c = condition.Test op c
applied (Take op) c = condition.Take op c
applied m c = condition.Not c

abbrev pub applied_to_two : Meaning → Condition → Condition → Condition
applied_to_two (Compare op) c d = condition.Compare op c d
applied_to_two m c d = condition.SameTerm c d

abbrev pub pattern_of : List Meaning → TripleTokens → TriplePattern
pattern_of ms t = record {
  subject = node_of (meaning_at ms t.subject);
  predicate = node_of (meaning_at ms t.predicate);
  object = node_of (meaning_at ms t.object);
}

-- what stands behind GRAPH
abbrev pub name_of : Meaning → GraphName
name_of (Variable n) = Each n
name_of (Fixed (Iri iri)) = Named iri
name_of m = Named []
