-- The index of a graph: the places of its triples, by the texts of their subjects.
use Rattle.std.specs.Prelude.{◌≡◌, ℕ, List, filter_map, slice_get, Option, Some, None, if◌then◌else◌, option_and_then, Vec, String}
use Rattle.std.specs.List.{enumerate_from}
use Rattle.std.specs.Str.{bytes_eq}
use Rattle.std.specs.HashMap.{HashMap}
use Rattle.vkg_hash.specs.Groups.{group}
use Rattle.vkg_terms.specs.Same.{term_name}
use Rattle.vkg_turtle.specs.declared.triple.Triple.{Triple}

abbrev pub number_if_named : List ℕ → (ℕ × Triple) → Option ℕ
number_if_named name t = if bytes_eq name (term_name t.1.subject) then Some t.0 else None

-- the numbers of the triples whose subject has this text
abbrev pub numbers_named : List ℕ → List (ℕ × Triple) → List ℕ
numbers_named name numbered = filter_map (number_if_named name) numbered

abbrev pub IsIndexOf : {Y S Z : Type 0} → List Triple → HashMap (String Y) (Vec ℕ Z) S → Type 0
IsIndexOf triples index = (name : List ℕ) → group index name ≡ numbers_named name (enumerate_from 0 triples)

-- what the triple at a place gives
abbrev pub given_at : {A : Type 0} → (Triple → Option A) → List Triple → ℕ → Option A
given_at f triples at = option_and_then f (slice_get triples at)
