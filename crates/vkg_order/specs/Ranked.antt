-- The solutions of a query in the asked order, where each is a solution and no line of its own: those of CONSTRUCT.
use Rattle.std.specs.Prelude.{ℕ, List, drop, map, Option}
use Rattle.std.specs.Cmp.Lexicographic.{slice_cmp}
use Rattle.std.specs.Option.{option_cmp}
use Rattle.std.specs.Ordering.{ordering_then}
use Rattle.std.specs.declared.cmp.Ordering.{Ordering}
use Rattle.vkg_lists.specs.Ascending.{ascending_by}
use Rattle.vkg_terms.specs.declared.term.Term.{Term}
use Rattle.vkg_terms.specs.Same.{term_cmp}
use Rattle.vkg_cells.specs.declared.cell.Cell.{Cell}
use Rattle.vkg_order.specs.declared.modifiers.Direction.{Direction}
use Rattle.vkg_order.specs.declared.modifiers.Modifiers.{Modifiers}
use Rattle.vkg_order.specs.Entries.{Entry, entry_cmp, entry_of}
use Rattle.vkg_order.specs.Listed.{sliced}
use Rattle.vkg_order.specs.Values.{bound}

-- a solution among others
pub record Found : Type 0 where
  pub entry : Entry
  -- its terms, and behind them the values of the keys
  pub terms : List (Option Term)

-- of so many terms and the cells of the keys behind them
abbrev pub candidate_of : ℕ → List Cell → List ℕ → Found
candidate_of width cells line = record { entry = entry_of (drop width cells) line; terms = map bound cells }

-- own: by the terms, one after another; nothing comes first
abbrev pub terms_cmp : List (Option Term) → List (Option Term) → Ordering
terms_cmp ss ts = slice_cmp (option_cmp term_cmp) ss ts

-- own: where neither the keys nor the lines decide, the terms do
abbrev pub found_cmp : List Direction → Found → Found → Ordering
found_cmp directions f g = ordering_then (entry_cmp directions f.entry g.entry) (terms_cmp f.terms g.terms)

-- SPARQL 1.1 Query, 18.2.5, without DISTINCT: the order, then the slice
unfoldable pub ranked : Modifiers → List Found → List (List (Option Term))
ranked m found = sliced m.slice (map (λ f. f.terms) (ascending_by (found_cmp m.directions) found))
