-- The check of a part that fails, where the part is not kept; subject maps that passed.
use Rattle.std.proofs.Common.{◌≡◌, ◌==◌, ◌&&◌, ◌||◌, ℕ, Bool, true, false, List, [], ◌∷◌, Ok, Err, refl, subst}
use Rattle.std.specs.List.{list_any}
use Rattle.std.specs.Result.{result_err}
use Rattle.vkg_lists.specs.Places.{lesser}
use Rattle.vkg_lists.proofs.Bools.{and_parts}
use Rattle.vkg_lists.proofs.Tests.{nat_test}
use Rattle.vkg_terms.specs.declared.term.Term.{Term}
use Rattle.vkg_terms.specs.Same.{term_eq}
use Rattle.vkg_terms.proofs.SameLemmas.{term_decides}
use Rattle.vkg_turtle.specs.declared.triple.Triple.{Triple}
use Rattle.vkg_schema.specs.declared.table.Table.{Table}
use Rattle.vkg_maps.specs.declared.term_map.TermMap.{TermMap}
use Rattle.vkg_maps.specs.declared.mapping.PredicateObjectMap.{PredicateObjectMap}
use Rattle.vkg_r2rml.specs.declared.map_check.Passed.{Passed}
use Rattle.vkg_r2rml.specs.Checked.{Checked, both, and_then}
use Rattle.vkg_r2rml.specs.Passed.{Passes, ArePassed}
use Rattle.vkg_r2rml.specs.TriplesMap.{assembled}

-- the checks of a triples map are those of its parts
pub fault_of_map : (table : ℕ) (subject : Checked (TermMap × (List (List ℕ) × List TermMap))) (pairs : Checked (List PredicateObjectMap)) → lesser (result_err subject) (result_err pairs) ≡ result_err (and_then (both subject pairs) (assembled table))
fault_of_map table (Ok s) (Ok p) = refl
fault_of_map table (Ok s) (Err d) = refl
fault_of_map table (Err c) (Ok p) = refl
fault_of_map table (Err c) (Err d) = refl

module _ (triples : List Triple) (schema : List Table) (base : List ℕ) where
  one_passed : (p : Passed) (node : Term) (table : ℕ) → (p.table == table && term_eq p.node node) ≡ true → Passes triples schema base p.node p.table → Passes triples schema base node table
  one_passed p node table e h =
      let same = and_parts (p.table == table) (term_eq p.node node) e in
      let over : Passes triples schema base p.node table = subst (λ t. Passes triples schema base p.node t) ((nat_test.decides p.table table).0 same.0) h in
      subst (λ n. Passes triples schema base n table) ((term_decides p.node node).0 same.1) over

  -- one of those that passed
  pub was_passed : (passed : List Passed) (node : Term) (table : ℕ) → list_any (λ p. p.table == table && term_eq p.node node) passed ≡ true → ArePassed triples schema base passed → Passes triples schema base node table
  was_passed [] node table e h = cc
  was_passed (p ∷ ps) node table e h = by (p.table == table && term_eq p.node node) refl e (λ k. was_passed ps node table k h.1)
    where
      by : (b : Bool) → (p.table == table && term_eq p.node node) ≡ b → (b || list_any (λ q. q.table == table && term_eq q.node node) ps) ≡ true → (list_any (λ q. q.table == table && term_eq q.node node) ps ≡ true → Passes triples schema base node table) → Passes triples schema base node table
      by true i k later = one_passed p node table i h.0
      by false i k later = later k
