-- What is written of solutions, by the form of the query.
use Rattle.std.proofs.Common.{◌≡◌, ◌∙◌, ℕ, Bool, List, [], ◌∷◌, codes, drop, map, take, refl, sym, ap, subst}
use Rattle.std.specs.Prelude.{IfOk, Result, if◌then◌else◌}
use Rattle.std.proofs.lemmas.List.{drop-map}
use Rattle.vkg_base.specs.declared.memory.Memory.{Memory}
use Rattle.vkg_cells.specs.declared.cell.Cell.{Cell}
use Rattle.vkg_order.specs.Ranked.{Found, candidate_of}
use Rattle.vkg_order.specs.Values.{bound}
use Rattle.vkg_sparql.specs.declared.query.Form.{Form}
use Rattle.vkg_sparql.specs.declared.query.Form.TheVariants.{Ask, Construct}
use Rattle.vkg_sparql.specs.declared.pattern.TriplePattern.{TriplePattern}
use Rattle.vkg_sparql.specs.Query.{Query}
use Rattle.vkg_algebra.specs.Answer.{form_lines, found_of, has_solution, ordered, selected_variables, solution_line, solutions_lines}
use Rattle.vkg_algebra.specs.Construct.{graph_lines}
use Rattle.vkg_algebra.specs.Solutions.{Solution}

-- a solution among others, made of its cells
pub found_is : (width : ℕ) (row shown : Solution) (cells : List Cell) (line : List ℕ) (c : Found) → c ≡ candidate_of width cells line → map bound cells ≡ row → shown ≡ take width row → line ≡ solution_line shown → c ≡ found_of width row
found_is width row shown cells line c e k s l =
    e ∙ (λ i. record {
      entry = record { keys = (sym (drop-map bound width cells) ∙ ap (drop width) k) i; line = (l ∙ ap solution_line s) i };
      terms = k i;
    })

module _ (query : Query) (rows : List Solution) (made : Result (List (List ℕ)) Memory) where
  -- what is written for the form is what is written for the query
  pub by_form : (form : Form) → query.form ≡ form → IfOk made (λ lines. lines ≡ form_lines query form rows) → IfOk made (λ lines. lines ≡ solutions_lines query rows)
  by_form form e h = subst (λ f. IfOk made (λ lines. lines ≡ form_lines query f rows)) (sym e) h

  pub written_ask : (is_there : Bool) → query.form ≡ Ask → is_there ≡ has_solution rows → IfOk made (λ lines. lines ≡ (if is_there then codes "true" else codes "false") ∷ []) → IfOk made (λ lines. lines ≡ solutions_lines query rows)
  written_ask is_there e y h = by_form Ask e (subst (λ b. IfOk made (λ lines. lines ≡ (if b then codes "true" else codes "false") ∷ [])) y h)

  pub written_construct : (template seen : List TriplePattern) → query.form ≡ Construct template → seen ≡ template
      → IfOk made (λ lines. lines ≡ graph_lines seen (selected_variables query) (ordered query rows)) → IfOk made (λ lines. lines ≡ solutions_lines query rows)
  written_construct template seen e s h = by_form (Construct template) e (subst (λ ts. IfOk made (λ lines. lines ≡ graph_lines ts (selected_variables query) (ordered query rows))) s h)
