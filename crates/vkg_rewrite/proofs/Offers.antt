-- A row's cells as the terms of its solution, and what is written of rows.
use Rattle.std.proofs.Common.{◌≡◌, ◌∙◌, ◌==◌, ℕ, ◌<◌, Bool, false, not, List, [], ◌∷◌, codes, length, map, take, drop, refl, sym, ap, subst, arith}
use Rattle.std.specs.Prelude.{IfOk, Result, if◌then◌else◌}
use Rattle.std.proofs.lemmas.Bool.Decides.{nat_tests}
use Rattle.std.proofs.lemmas.List.{drop-map}
use Rattle.std.specs.List.{take-map}
use Rattle.vkg_base.specs.declared.memory.Memory.{Memory}
use Rattle.vkg_lists.proofs.Walks.{map-map}
use Rattle.vkg_cells.specs.declared.cell.Cell.{Cell}
use Rattle.vkg_cells.specs.declared.cell.Cell.TheVariants as cell
use Rattle.vkg_schema.specs.Rows.{Row}
use Rattle.vkg_expr.specs.Value.{term_of}
use Rattle.vkg_order.specs.Listed.{listed}
use Rattle.vkg_order.specs.Ranked.{Found, candidate_of}
use Rattle.vkg_order.specs.Values.{bound}
use Rattle.vkg_sparql.specs.declared.query.Form.{Form}
use Rattle.vkg_sparql.specs.declared.query.Form.TheVariants.{Select, Ask, Construct}
use Rattle.vkg_sparql.specs.declared.pattern.TriplePattern.{TriplePattern}
use Rattle.vkg_sparql.specs.Query.{Query}
use Rattle.vkg_algebra.specs.Answer.{form_lines, found_of, has_solution, header, modifiers_of, ordered, selected_variables, solution_entry, solution_line}
use Rattle.vkg_algebra.specs.Construct.{graph_lines}
use Rattle.vkg_answers.specs.Answering.{row_entry, row_solution}
use Rattle.vkg_rewrite.specs.Lines.{result_lines}

bound_is : (c : Cell) → bound c ≡ term_of c
bound_is (cell.Term t) = refl
bound_is c = refl

bound_all : (cs : List Cell) → map bound cs ≡ map term_of cs
bound_all [] = refl
bound_all (c ∷ cs) = λ i. bound_is c i ∷ bound_all cs i

pub keys_are : (width : ℕ) (row behind keys : Row) → behind ≡ drop width row → keys ≡ behind → map bound keys ≡ drop width (map term_of row)
keys_are width row behind keys b k = ap (map bound) (k ∙ b) ∙ bound_all (drop width row) ∙ sym (drop-map term_of width row)

pub line_is : (width : ℕ) (row shown : Row) (line : List ℕ) → shown ≡ take width row → line ≡ solution_line (map term_of shown) → line ≡ solution_line (take width (map term_of row))
line_is width row shown line s l = l ∙ ap (λ cs. solution_line (map term_of cs)) s ∙ ap solution_line (sym (take-map term_of width row))

-- ---- a row as a solution among others

pub found_is : (width : ℕ) (row shown cells : Row) (line : List ℕ) (c : Found) → c ≡ candidate_of width cells line → cells ≡ row → shown ≡ take width row → line ≡ solution_line (map term_of shown) → c ≡ found_of width (row_solution row)
found_is width row shown cells line c e k s l =
    e ∙ (λ i. record {
      entry = record { keys = keys_are width row (drop width cells) (drop width cells) (ap (drop width) k) refl i; line = line_is width row shown line s l i };
      terms = (ap (map bound) k ∙ bound_all row) i;
    })

-- each of rows, where the width is that of the query
pub found_all : (query : Query) (width : ℕ) → width ≡ length (selected_variables query) → (rows : List Row) → map (λ row. found_of width (row_solution row)) rows ≡ map (found_of (length (selected_variables query))) (map row_solution rows)
found_all query width e rows =
    ap (λ n. map (λ row. found_of n (row_solution row)) rows) e ∙ sym (map-map (found_of (length (selected_variables query))) row_solution rows)

not_zero : (n : ℕ) → 0 < n → (n == 0) ≡ false
not_zero n h = grind (arith, nat_tests)

pub some_row : (rows : List Row) → not (length rows == 0) ≡ has_solution (map row_solution rows)
some_row [] = refl
some_row (row ∷ rows) = ap not (not_zero (length (row ∷ rows)) (omega arith))

-- ---- what is written, by the form of the query

module _ (query : Query) (rows : List Row) (made : Result (List (List ℕ)) Memory) where
  -- what is written for the form is what is written for the query
  by_form : (form : Form) → query.form ≡ form → IfOk made (λ lines. lines ≡ form_lines query form (map row_solution rows)) → IfOk made (λ lines. lines ≡ result_lines query rows)
  unfolding result_lines
  by_form form e h = subst (λ f. IfOk made (λ lines. lines ≡ form_lines query f (map row_solution rows))) (sym e) h

  pub written_select : query.form ≡ Select → IfOk made (λ lines. lines ≡ header query ∷ listed (modifiers_of query) (map (row_entry query) rows)) → IfOk made (λ lines. lines ≡ result_lines query rows)
  written_select e h =
      by_form Select e (subst (λ es. IfOk made (λ lines. lines ≡ header query ∷ listed (modifiers_of query) es)) (sym (map-map (solution_entry (length (selected_variables query))) row_solution rows)) h)

  pub written_ask : (is_there : Bool) → query.form ≡ Ask → is_there ≡ has_solution (map row_solution rows) → IfOk made (λ lines. lines ≡ (if is_there then codes "true" else codes "false") ∷ []) → IfOk made (λ lines. lines ≡ result_lines query rows)
  written_ask is_there e y h = by_form Ask e (subst (λ b. IfOk made (λ lines. lines ≡ (if b then codes "true" else codes "false") ∷ [])) y h)

  pub written_construct : (template seen : List TriplePattern) → query.form ≡ Construct template → seen ≡ template
      → IfOk made (λ lines. lines ≡ graph_lines seen (selected_variables query) (ordered query (map row_solution rows))) → IfOk made (λ lines. lines ≡ result_lines query rows)
  written_construct template seen e s h = by_form (Construct template) e (subst (λ ts. IfOk made (λ lines. lines ≡ graph_lines ts (selected_variables query) (ordered query (map row_solution rows)))) s h)
