-- What is written of solutions does not depend on the order in which they come.
use Rattle.std.proofs.Common.{◌≡◌, ℕ, List, [], ◌∷◌, length, map, refl, sym, ap, arith}
use Rattle.std.specs.Prelude.{codes, if◌then◌else◌}
use Rattle.std.specs.List.Sorted.{IsPermutation}
use Rattle.std.proofs.lemmas.List.Sorted.{IsPermutation-map, length_permutation}
use Rattle.vkg_lists.specs.Sets.{distinct}
use Rattle.vkg_sparql.specs.declared.query.Form.{Form}
use Rattle.vkg_sparql.specs.declared.query.Form.TheVariants.{Select, Ask, Construct}
use Rattle.vkg_sparql.specs.Query.{Query}
use Rattle.vkg_order.proofs.Ranks.{ranked-bag}
use Rattle.vkg_order.proofs.Standing.{listed-bag}
use Rattle.vkg_algebra.specs.Answer.{asked, form_lines, found_of, has_solution, header, modifiers_of, selected_variables, solution_entry, solution_eq, solutions_lines}
use Rattle.vkg_algebra.specs.Construct.{graph_lines}
use Rattle.vkg_algebra.specs.Solutions.{Solution}

as_many : (ss ts : List Solution) → length ss ≡ length ts → has_solution ss ≡ has_solution ts
as_many [] [] e = refl
as_many [] (t ∷ ts) e = absurd (omega (arith, e))
as_many (s ∷ ss) [] e = absurd (omega (arith, e))
as_many (s ∷ ss) (t ∷ ts) e = refl

pub asked-map : (f : Solution → Solution) (ss : List Solution) → asked (map f ss) ≡ asked ss
asked-map f [] = refl
asked-map f (s ∷ ss) = refl

pub asked-once : (ss : List Solution) → asked (distinct solution_eq ss) ≡ asked ss
asked-once [] = refl
asked-once (s ∷ ss) = refl

pub lines-bag : (query : Query) (ss ts : List Solution) → IsPermutation ss ts → solutions_lines query ss ≡ solutions_lines query ts
lines-bag query ss ts p = by query.form
  where
    by : (form : Form) → form_lines query form ss ≡ form_lines query form ts
    by Select = ap (λ (ls : List (List ℕ)). header query ∷ ls) (listed-bag (modifiers_of query) _ _ (IsPermutation-map (solution_entry (length (selected_variables query))) ss ts p))
    by Ask = ap (λ b. (if b then codes "true" else codes "false") ∷ []) (as_many ss ts (sym (length_permutation ss ts p)))
    by (Construct template) = ap (graph_lines template (selected_variables query)) (ranked-bag (modifiers_of query) _ _ (IsPermutation-map (found_of (length (selected_variables query))) ss ts p))
