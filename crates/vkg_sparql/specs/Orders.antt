-- SPARQL 1.1, 19.8, [18] and [23] to [27]: the order and the slice, off the tree of a query.
use Rattle.std.specs.Prelude.{ℕ, ◌^◌, Bool, true, false, ◌&&◌, List, [], ◌∷◌, Option, Some, None, nat_lt, unwrap_or}
use Rattle.std.specs.Bool.{then_some}
use Rattle.std.specs.Str.Parse.{digits_value}
use Rattle.vkg_cells.specs.Number.{is_digits}
use Rattle.vkg_grammar.specs.Trees.{Tree, pair, first, second}
use Rattle.vkg_terms.specs.declared.term.Term.TheVariants.{Lit}
use Rattle.vkg_sparql.specs.declared.condition.Condition.{Condition}
use Rattle.vkg_sparql.specs.declared.meaning.Meaning.{Meaning}
use Rattle.vkg_sparql.specs.declared.meaning.Meaning.TheVariants.{Fixed}
use Rattle.vkg_sparql.specs.declared.query.Key.{Key}
use Rattle.vkg_sparql.specs.declared.query.Slice.{Slice}
use Rattle.vkg_sparql.specs.Conditions.{bracketed, call_value, no_condition, operand_value}
use Rattle.vkg_sparql.specs.Meanings.{first_token, meaning_at}

abbrev pub key_of : Condition → Bool → Key
key_of condition descends = record { condition = condition; descends = descends }

-- direction = ASC | DESC
abbrev pub is_descending : Tree → Bool
is_descending (second t) = true
is_descending t = false

-- bracketed | direction bracketed
abbrev pub bracketed_key : List Meaning → Tree → Key
bracketed_key ms (first t) = key_of (bracketed ms t) false
bracketed_key ms (second (pair direction t)) = key_of (bracketed ms t) (is_descending direction)
bracketed_key ms t = key_of no_condition false

-- key = VAR | call | bracketed | direction bracketed
abbrev pub key_value : List Meaning → Tree → Key
key_value ms (first t) = key_of (operand_value ms t) false
key_value ms (second (first t)) = key_of (call_value ms t) false
key_value ms (second (second t)) = bracketed_key ms t
key_value ms t = key_of no_condition false

-- { key }
abbrev pub keys_value : List Meaning → Tree → List Key
keys_value ms (pair k more) = key_value ms k ∷ keys_value ms more
keys_value ms t = []

-- [ order ], where order = ORDER BY key { key }
abbrev pub order_value : List Meaning → Tree → List Key
order_value ms (first (pair order (pair by keys))) = keys_value ms keys
order_value ms t = []

-- own: the number of a slice has no sign and is at most 4,294,967,295
unfoldable pub slice_number : List ℕ → Option ℕ
slice_number text = then_some (is_digits text && nat_lt (digits_value 10 text) (2 ^ 32)) (digits_value 10 text)

abbrev pub number_of_slice : Meaning → ℕ
number_of_slice (Fixed (Lit text annotation)) = unwrap_or (slice_number text) 0
number_of_slice m = 0

abbrev pub number_value : List Meaning → Tree → ℕ
number_value ms t = number_of_slice (meaning_at ms (first_token t))

-- [ LIMIT INTEGER ] or [ OFFSET INTEGER ]
abbrev pub number_if : List Meaning → Tree → Option ℕ
number_if ms (first (pair word n)) = Some (number_value ms n)
number_if ms t = None

-- all solutions: where no slice is asked
abbrev pub no_slice : Slice
no_slice = record { offset = 0; limit = None }

-- LIMIT INTEGER [ OFFSET INTEGER ]
abbrev pub limit_first : List Meaning → Tree → Slice
limit_first ms (pair word (pair n more)) = record { offset = unwrap_or (number_if ms more) 0; limit = Some (number_value ms n) }
limit_first ms t = no_slice

-- OFFSET INTEGER [ LIMIT INTEGER ]
abbrev pub offset_first : List Meaning → Tree → Slice
offset_first ms (pair word (pair n more)) = record { offset = number_value ms n; limit = number_if ms more }
offset_first ms t = no_slice

-- [ slice ], where slice = LIMIT INTEGER [ OFFSET INTEGER ] | OFFSET INTEGER [ LIMIT INTEGER ]
abbrev pub slice_value : List Meaning → Tree → Slice
slice_value ms (first (first t)) = limit_first ms t
slice_value ms (first (second t)) = offset_first ms t
slice_value ms t = no_slice
