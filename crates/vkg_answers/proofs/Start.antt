-- The rows of a query's plan are its solutions, and their lines its answer.
use Rattle.std.proofs.Common.{◌≡◌, ℕ, suc, Bool, true, false, List, [], ◌∷◌, ◌++◌, map, length, refl, sym, ap, subst, ◌∙◌}
use Rattle.std.specs.List.{AllByRecursion}
use Rattle.std.proofs.Math.Seq.{drop-append_seam, take-append_seam}
use Rattle.std.proofs.lemmas.List.{length-map, map-append}
use Rattle.std.proofs.lemmas.List.Elements.{Contains-append_left, Contains-append_right}
use Rattle.std.specs.Prelude.{Option, Some, None, ◌&&◌, Contains, filter, if◌then◌else◌}
use Rattle.std.specs.List.Sorted.{IsPermutation}
use Rattle.std.specs.Option.{option_eq}
use Rattle.vkg_lists.specs.Sets.{distinct}
use Rattle.std.proofs.lemmas.List.Sorted.{IsPermutation-map, IsPermutation-trans}
use Rattle.vkg_lists.proofs.Bags.{bag_same}
use Rattle.vkg_lists.proofs.Distinct.{bag_distinct, distinct_map_on}
use Rattle.vkg_lists.proofs.Members.{Contains-from_map, filter_keeps, map_agree_on}
use Rattle.vkg_lists.proofs.Walks.{map-map}
use Rattle.vkg_terms.specs.declared.term.Term.{Term}
use Rattle.vkg_terms.specs.Same.{term_eq}
use Rattle.vkg_schema.specs.Rows.{Database, Row}
use Rattle.vkg_sparql.specs.declared.pattern.Node.TheVariants.{Fixed}
use Rattle.vkg_sparql.specs.declared.query.Form.{Form}
use Rattle.vkg_sparql.specs.declared.query.Form.TheVariants.{Select, Ask, Construct}
use Rattle.vkg_sparql.specs.Lawful.{IsLawfulQuery, condition_nodes, form_nodes, group_nodes, keys_nodes, selected_nodes}
use Rattle.vkg_sparql.specs.Query.{Key, Query}
use Rattle.vkg_order.specs.Entries.{Entry}
use Rattle.vkg_order.specs.Listed.{listed}
use Rattle.vkg_algebra.proofs.Forms.{asked-map, asked-once, lines-bag}
use Rattle.vkg_algebra.proofs.Repeats.{listed-once}
use Rattle.vkg_algebra.specs.Answer.{answer, asked, entry_of, form_answer, form_lines, header, key_values, matches_of, modifiers_of, projected, selected_variables, solution_entry, solution_eq, solution_line, solutions_lines, solutions_of, with_keys}
use Rattle.vkg_algebra.specs.Values.{expression_value}
use Rattle.vkg_algebra.specs.Lawful.{IsLawfulAlgebra}
use Rattle.vkg_algebra.specs.Solutions.{Solution, lookup}
use Rattle.vkg_algebra.specs.Translation.{algebra_of}
use Rattle.vkg_algebra.specs.Visible.{visible}
use Rattle.vkg_algebra.proofs.LawfulLemmas.{lawful_algebra}
use Rattle.vkg_algebra.proofs.MapLemmas.{solution_test}
use Rattle.vkg_expr.specs.Value.{term_cell, term_of, value_of}
use Rattle.vkg_expr.proofs.ReadBack.{term_back}
use Rattle.vkg_plan.specs.Kinds.{Tables}
use Rattle.vkg_plan.specs.Plan.{Plan, Project, Distinct}
use Rattle.vkg_plan.specs.Rows.{one_cell, one_row, rows_of}
use Rattle.vkg_row_rules.specs.declared.row_rule.RowRule.{RowRule}
use Rattle.vkg_row_rules.specs.RowDataset.{dataset_of}
use Rattle.vkg_unfolded.specs.declared.mode.Mode.TheVariants.{Default}
use Rattle.vkg_unfolded.specs.Unfolded.{answer_columns, key_column, start_plan, unfolded, visible_column}
use Rattle.vkg_unfolded.specs.StandsFor.{belongs, solution_of}
use Rattle.vkg_unfolded.specs.FineRows.{IsNarrow, Meets}
use Rattle.vkg_answers.specs.Answering.{GivesAnswer, GivesSolutions, row_solution}
use Rattle.vkg_answers.proofs.Reading.{AreBelow, AreTermCells, cells-cons, cells-map, cells-nil, is_term_cell, lookup-solution, read_typed}
use Rattle.vkg_answers.proofs.Values.{IsNarrowCondition, Means, value_means}
use Rattle.vkg_answers.proofs.Steps.{project_rows}
use Rattle.vkg_answers.proofs.Theorem.{visible_below}
use Rattle.vkg_answers.proofs.Whole.{unfolded_rows}

-- the terms of a row of variables are those that its solution binds
terms_are : (n : ℕ) (vs sel : List ℕ) (row : Row) → AreBelow n vs → row_solution (map (λ e. value_of e row) (map (visible_column vs) sel)) ≡ projected sel (solution_of n vs row)
terms_are n vs [] row h = refl
terms_are n vs (u ∷ sel) row h = λ i. sym (lookup-solution n vs row u h) i ∷ terms_are n vs sel row h i

-- ---- the values of keys

abbrev NarrowKeys : List Key → Type 0
NarrowKeys ks = AllByRecursion (λ (k : Key). IsNarrowCondition k.condition) ks

narrow_keys : (ks : List Key) → ((t : Term) → Contains (keys_nodes ks) (Fixed t) → IsNarrow (Some t)) → NarrowKeys ks
narrow_keys [] h = tt
narrow_keys (k ∷ ks) h = (
  λ t c. h t (Contains-append_left (condition_nodes k.condition) (keys_nodes ks) (Fixed t) c),
  narrow_keys ks (λ t c. h t (Contains-append_right (condition_nodes k.condition) (keys_nodes ks) (Fixed t) c)),
)

lawful_keys : (query : Query) → IsLawfulQuery query → NarrowKeys query.keys
lawful_keys query lawful = narrow_keys query.keys (λ t c. lawful.within (Fixed t)
    (Contains-append_right (form_nodes query.form) (selected_nodes query.selected ++ (group_nodes query.group ++ keys_nodes query.keys)) (Fixed t)
    (Contains-append_right (selected_nodes query.selected) (group_nodes query.group ++ keys_nodes query.keys) (Fixed t)
    (Contains-append_right (group_nodes query.group) (keys_nodes query.keys) (Fixed t) c))))

module _ (n : ℕ) (vs : List ℕ) (below : AreBelow n vs) (row : Row) (cells : AreTermCells row) where
  key_means : (k : Key) → IsNarrowCondition k.condition → Means false (value_of (key_column vs k) row) (expression_value k.condition (solution_of n vs row))
  key_means k h = value_means (visible_column vs) row (solution_of n vs row)
      (λ v. (read_typed vs row cells v).0 ∙ ap term_cell (sym (lookup-solution n vs row v below)))
      (λ v. subst IsNarrow (sym (lookup-solution n vs row v below)) (read_typed vs row cells v).1) k.condition h

  keys_are : (ks : List Key) → NarrowKeys ks → row_solution (map (λ e. value_of e row) (map (key_column vs) ks)) ≡ key_values ks (solution_of n vs row)
  keys_are [] h = refl
  keys_are (k ∷ ks) h = λ i. (ap term_of (key_means k h.0).0 ∙ term_back (expression_value k.condition (solution_of n vs row))) i ∷ keys_are ks h.1 i

  keys_typed : (ks : List Key) → NarrowKeys ks → AreTermCells (map (λ e. value_of e row) (map (key_column vs) ks))
  keys_typed [] h = cells-nil
  keys_typed (k ∷ ks) h =
      let m = key_means k h.0 in
      cells-cons (value_of (key_column vs k) row) (map (λ e. value_of e row) (map (key_column vs) ks)) (is_term_cell (value_of (key_column vs k) row) (expression_value k.condition (solution_of n vs row)) m.0 m.1) (keys_typed ks h.1)

-- ---- rows of terms are one row where their solutions are one

one_term : (o p : Option Term) → option_eq term_eq o p ≡ one_cell (term_cell o) (term_cell p)
one_term None None = refl
one_term None (Some u) = refl
one_term (Some t) None = refl
one_term (Some t) (Some u) = refl

same_rows : (x y : Row) → AreTermCells x → AreTermCells y → solution_eq (row_solution x) (row_solution y) ≡ one_row x y
same_rows [] [] h k = refl
same_rows [] (d ∷ y) h k = refl
same_rows (c ∷ x) [] h k = refl
same_rows (c ∷ x) (d ∷ y) h k = λ i.
    (one_term (term_of c) (term_of d) ∙ (λ j. one_cell (sym (h 0).0 j) (sym (k 0).0 j))) i && same_rows x y (λ at. h (suc at)) (λ at. k (suc at)) i

-- what is said of a solution and its keys, of the row that has both
entry_is : (query : Query) (s : Solution) → solution_entry (length (selected_variables query)) (with_keys query s) ≡ entry_of query s
entry_is query s = ap (λ n. solution_entry n (with_keys query s)) (sym (length-map (selected_variables query) (lookup s))) ∙ split (projected (selected_variables query) s) (key_values query.keys s)
  where
    split : (xs ys : Solution) → solution_entry (length xs) (xs ++ ys) ≡ record { keys = ys; line = solution_line xs }
    split xs ys = λ i. record { keys = drop-append_seam xs ys i; line = solution_line (take-append_seam xs ys i) }

module _ (schema : Tables) (rules : List RowRule) (query : Query) (db : Database) (lawful : IsLawfulAlgebra (length query.names) (algebra_of query)) (narrow : NarrowKeys query.keys) (meets : Meets schema rules db) where
  abbrev inner : Plan
  inner = unfolded schema rules (algebra_of query) Default

  abbrev vs : List ℕ
  vs = visible (algebra_of query)

  abbrev bound : Row → Solution
  bound row = solution_of (length query.names) vs row

  abbrev found : List Solution
  found = matches_of query (dataset_of schema rules db)

  -- the rows before DISTINCT
  abbrev selected : Row → Row
  selected row = map (λ e. value_of e row) (answer_columns query)

  abbrev rows : List Row
  rows = map selected (rows_of schema inner db)

  below : AreBelow (length query.names) vs
  below = visible_below (length query.names) (algebra_of query) lawful

  cells_of : (row : Row) → Contains (rows_of schema inner db) row → AreTermCells row
  cells_of row c = ((unfolded_rows schema rules (length query.names) db meets (algebra_of query) Default lawful).are_rows row c).cells

  row_is : (row : Row) → AreTermCells row → row_solution (selected row) ≡ with_keys query (bound row)
  row_is row cells =
      ap row_solution (map-append (λ e. value_of e row) (map (visible_column vs) (selected_variables query)) (map (key_column vs) query.keys))
      ∙ map-append term_of (map (λ e. value_of e row) (map (visible_column vs) (selected_variables query))) (map (λ e. value_of e row) (map (key_column vs) query.keys))
      ∙ (λ i. terms_are (length query.names) vs (selected_variables query) row below i ++ keys_are (length query.names) vs below row cells query.keys narrow i)

  bag : IsPermutation (map row_solution rows) (map (with_keys query) found)
  bag = let stands = unfolded_rows schema rules (length query.names) db meets (algebra_of query) Default lawful in
      IsPermutation-trans _ _ _ (bag_same
      (map-map row_solution selected (rows_of schema inner db)
      ∙ map_agree_on (λ row. row_solution (selected row)) (λ row. with_keys query (bound row)) (rows_of schema inner db) (λ row c. row_is row (cells_of row c))
      ∙ (λ i. map (λ row. with_keys query (bound row)) (sym (filter_keeps (belongs Default (length vs) None) (rows_of schema inner db) (λ x c. refl)) i))
      ∙ sym (map-map (with_keys query) bound (filter (belongs Default (length vs) None) (rows_of schema inner db)))))
      (IsPermutation-map (with_keys query) _ _ (stands.bag None refl))

  rows_typed : (row : Row) → Contains rows row → AreTermCells row
  rows_typed row c =
      let x = Contains-from_map selected (rows_of schema inner db) row c in
      let cells = cells_of x.0 x.1 in
      subst AreTermCells x.2 (cells-map (visible_column vs) (selected_variables query) (map (key_column vs) query.keys) x.0 (λ v. read_typed vs x.0 cells v)
      (keys_typed (length query.names) vs below x.0 cells query.keys narrow))

  pub start_solutions : IsPermutation (map row_solution (rows_of schema (start_plan schema rules query) db)) (solutions_of query (dataset_of schema rules db))
  start_solutions = of query.distinct
    where
      of : (b : Bool) → IsPermutation
          (map row_solution (rows_of schema (if b then Distinct (Project (answer_columns query) inner) else Project (answer_columns query) inner) db))
          (if b then distinct solution_eq (map (with_keys query) found) else map (with_keys query) found)
      of true = IsPermutation-trans _ _ _ (bag_same
          (ap (λ rs. map row_solution (distinct one_row rs)) (project_rows schema db (answer_columns query) inner)
          ∙ distinct_map_on one_row solution_eq row_solution rows (λ x y c d. same_rows x y (rows_typed x c) (rows_typed y d))))
          (bag_distinct solution_test bag)
      of false = IsPermutation-trans _ _ _ (bag_same (ap (map row_solution) (project_rows schema db (answer_columns query) inner))) bag

  -- rows that are there more than once under DISTINCT say nothing more
  entries_are : listed (modifiers_of query) (map (solution_entry (length (selected_variables query))) (solutions_of query (dataset_of schema rules db))) ≡ listed (modifiers_of query) (map (entry_of query) found)
  entries_are = of query.distinct refl
    where
      entry : Solution → Entry
      entry = solution_entry (length (selected_variables query))

      plainly : listed (modifiers_of query) (map entry (map (with_keys query) found)) ≡ listed (modifiers_of query) (map (entry_of query) found)
      plainly = ap (listed (modifiers_of query)) (map-map entry (with_keys query) found ∙ (λ i. map (λ s. entry_is query s i) found))

      of : (b : Bool) → query.distinct ≡ b → listed (modifiers_of query) (map entry (if b then distinct solution_eq (map (with_keys query) found) else map (with_keys query) found)) ≡ listed (modifiers_of query) (map (entry_of query) found)
      of true e = listed-once (modifiers_of query) e solution_eq entry (λ s t h. ap entry ((solution_test.decides s t).0 h)) (map (with_keys query) found) ∙ plainly
      of false e = plainly

  -- whether there is a solution
  asked_are : asked (solutions_of query (dataset_of schema rules db)) ≡ asked found
  asked_are = of query.distinct
    where
      of : (b : Bool) → asked (if b then distinct solution_eq (map (with_keys query) found) else map (with_keys query) found) ≡ asked found
      of true = asked-once (map (with_keys query) found) ∙ asked-map (with_keys query) found
      of false = asked-map (with_keys query) found

  -- what is written of the solutions that a plan gives is the answer, whatever the form
  forms_are : (form : Form) → form_lines query form (solutions_of query (dataset_of schema rules db)) ≡ form_answer query form (dataset_of schema rules db)
  forms_are Select = ap (λ (ls : List (List ℕ)). header query ∷ ls) entries_are
  forms_are Ask = ap (λ (l : List ℕ). l ∷ []) asked_are
  forms_are (Construct template) = refl

  pub start_answer : (rows : List Row) → IsPermutation rows (rows_of schema (start_plan schema rules query) db) → solutions_lines query (map row_solution rows) ≡ answer query (dataset_of schema rules db)
  start_answer rows p = lines-bag query _ _ (IsPermutation-trans _ _ _ (IsPermutation-map row_solution _ _ p) start_solutions) ∙ forms_are query.form

pub gives_solutions : (schema : Tables) (rules : List RowRule) (query : Query) → IsLawfulQuery query → GivesSolutions (Meets schema rules) schema rules (start_plan schema rules query) query
gives_solutions schema rules query lawful db meets = start_solutions schema rules query db (lawful_algebra query lawful) (lawful_keys query lawful) meets

pub gives_answer : (schema : Tables) (rules : List RowRule) (query : Query) → IsLawfulQuery query → GivesAnswer (Meets schema rules) schema rules (start_plan schema rules query) query
gives_answer schema rules query lawful db meets rows p = start_answer schema rules query db (lawful_algebra query lawful) (lawful_keys query lawful) meets rows p
