-- SPARQL 1.1, 19.8, [69] and [110] to [121]: the expression of a filter, off its tree. `||` and `&&` join from the left; a comparison
-- has two sides.
use Rattle.std.specs.Prelude.{ℕ, Bool, true, false, List, [], ◌∷◌}
use Rattle.vkg_grammar.specs.Trees.{Tree, pair, first, second, present}
use Rattle.vkg_sparql.specs.declared.condition.Condition.{Condition}
use Rattle.vkg_sparql.specs.declared.condition.Condition.TheVariants.{Variable, Bound, Compare, Not, And, Or}
use Rattle.vkg_sparql.specs.declared.meaning.Meaning.{Meaning}
use Rattle.vkg_sparql.specs.Meanings.{first_token, meaning_at, number_of, operand_of, compare_of, applied, applied_to_two}

abbrev pub or_joined : Condition → List Condition → Condition
or_joined c [] = c
or_joined c (d ∷ ds) = Or c (d ∷ ds)

abbrev pub and_joined : Condition → List Condition → Condition
and_joined c [] = c
and_joined c (d ∷ ds) = And c (d ∷ ds)

abbrev pub negated : Bool → Condition → Condition
negated true c = Not c
negated false c = c

-- of a tree that no production has
abbrev pub no_condition : Condition
no_condition = Variable 0

-- BOUND "(" VAR ")"
abbrev pub bound_value : List Meaning → Tree → Condition
bound_value ms (pair word (pair left (pair v right))) = Bound (number_of (meaning_at ms (first_token v)))
bound_value ms t = no_condition

-- VAR | iri | literal
abbrev pub operand_value : List Meaning → Tree → Condition
operand_value ms t = operand_of (meaning_at ms (first_token t))

abbrev mutual
  -- or = and { "||" and }
  pub or_value : List Meaning → Tree → Condition
  or_value ms (pair a more) = or_joined (and_value ms a) (or_more ms more)
  or_value ms t = no_condition

  pub or_more : List Meaning → Tree → List Condition
  or_more ms (pair (pair sign a) more) = and_value ms a ∷ or_more ms more
  or_more ms t = []

  -- and = rel { "&&" rel }
  pub and_value : List Meaning → Tree → Condition
  and_value ms (pair a more) = and_joined (rel_value ms a) (and_more ms more)
  and_value ms t = no_condition

  pub and_more : List Meaning → Tree → List Condition
  and_more ms (pair (pair sign a) more) = rel_value ms a ∷ and_more ms more
  and_more ms t = []

  -- rel = unary [ sign unary ]
  pub rel_value : List Meaning → Tree → Condition
  rel_value ms (pair a more) = rel_more ms (unary_value ms a) more
  rel_value ms t = no_condition

  pub rel_more : List Meaning → Condition → Tree → Condition
  rel_more ms c (first (pair sign b)) = Compare (compare_of (meaning_at ms (first_token sign))) c (unary_value ms b)
  rel_more ms c t = c

  -- unary = [ "!" ] primary
  pub unary_value : List Meaning → Tree → Condition
  unary_value ms (pair mark a) = negated (present mark) (primary_value ms a)
  unary_value ms t = no_condition

  -- primary = bracketed | call | VAR | iri | literal
  pub primary_value : List Meaning → Tree → Condition
  primary_value ms (first t) = bracketed ms t
  primary_value ms (second (first t)) = call_value ms t
  primary_value ms (second (second t)) = operand_value ms t
  primary_value ms t = no_condition

  -- bracketed = "(" or ")"
  pub bracketed : List Meaning → Tree → Condition
  bracketed ms (pair left (pair a right)) = or_value ms a
  bracketed ms t = no_condition

  -- call = BOUND "(" VAR ")" | two "(" or "," or ")" | test bracketed
  pub call_value : List Meaning → Tree → Condition
  call_value ms (first t) = bound_value ms t
  call_value ms (second (first (pair word t))) = two_value ms (first_token word) t
  call_value ms (second (second (pair word t))) = applied (meaning_at ms (first_token word)) (bracketed ms t)
  call_value ms t = no_condition

  -- "(" or "," or ")"
  pub two_value : List Meaning → ℕ → Tree → Condition
  two_value ms word (pair left (pair a (pair comma (pair b right)))) = applied_to_two (meaning_at ms word) (or_value ms a) (or_value ms b)
  two_value ms word t = no_condition

-- filter = bracketed | call
abbrev pub filter_value : List Meaning → Tree → Condition
filter_value ms (first t) = bracketed ms t
filter_value ms (second t) = call_value ms t
filter_value ms t = no_condition
