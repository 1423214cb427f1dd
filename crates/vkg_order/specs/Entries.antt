-- The entries of a query's answer: the values of its keys, and its line.
use Rattle.std.specs.Prelude.{ℕ, List, [], ◌∷◌, map, Option, None}
use Rattle.std.specs.declared.cmp.Ordering.{Ordering}
use Rattle.std.specs.declared.cmp.Ordering.TheVariants.{Equal}
use Rattle.std.specs.Ordering.{ordering_then}
use Rattle.vkg_lists.specs.Texts.{bytes_cmp}
use Rattle.vkg_terms.specs.declared.term.Term.{Term}
use Rattle.vkg_cells.specs.declared.cell.Cell.{Cell}
use Rattle.vkg_order.specs.declared.modifiers.Direction.{Direction}
use Rattle.vkg_order.specs.declared.modifiers.Direction.TheVariants.{Ascending, Descending}
use Rattle.vkg_order.specs.Values.{bound, value_cmp}

pub record Entry : Type 0 where
  -- of each key its value, if it has one
  pub keys : List (Option Term)
  pub line : List ℕ

-- the entry of these cells and this line
abbrev pub entry_of : List Cell → List ℕ → Entry
entry_of cells line = record { keys = map bound cells; line = line }

-- SPARQL 1.1 Query, 15.1, ASC and DESC: of a key that descends the greater value comes first
abbrev pub directed_cmp : Direction → Option Term → Option Term → Ordering
directed_cmp Ascending v w = value_cmp v w
directed_cmp Descending v w = value_cmp w v

-- a value that is lacking is none
abbrev pub first_value : List (Option Term) → Option Term
first_value [] = None
first_value (v ∷ vs) = v

abbrev pub other_values : List (Option Term) → List (Option Term)
other_values [] = []
other_values (v ∷ vs) = vs

-- SPARQL 1.1 Query, 15.1: by the first key, and by the next where that does not decide
abbrev pub keys_cmp : List Direction → List (Option Term) → List (Option Term) → Ordering
keys_cmp [] vs ws = Equal
keys_cmp (d ∷ ds) vs ws = ordering_then (directed_cmp d (first_value vs) (first_value ws)) (keys_cmp ds (other_values vs) (other_values ws))

-- own: where no key decides, the line does, ascending
abbrev pub entry_cmp : List Direction → Entry → Entry → Ordering
entry_cmp directions e f = ordering_then (keys_cmp directions e.keys f.keys) (bytes_cmp e.line f.line)
