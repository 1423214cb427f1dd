-- The rows of a triple pattern's plan, and the plan as a whole.
use Rattle.std.proofs.Common.{◌≡◌, ℕ, Bool, true, false, ⊎_elim, List, [], ◌∷◌, ◌++◌, map, length, refl, sym, ap, subst, ◌∙◌, arith, true≢false}
use Rattle.std.specs.Prelude.{Option, Some, None, ◌&&◌, Contains, filter, flat_map, filter_map, is_some}
use Rattle.std.specs.Option.{option_map_or}
use Rattle.std.specs.List.Sorted.{IsPermutation}
use Rattle.std.proofs.lemmas.List.Elements.{Contains-append_cases}
use Rattle.std.specs.List.{zip}
use Rattle.vkg_lists.proofs.Results.{some_of}
use Rattle.std.proofs.lemmas.List.Sorted.{IsPermutation-sym, IsPermutation-trans}
use Rattle.vkg_lists.proofs.Bags.{bag_same}
use Rattle.vkg_lists.proofs.Counts.{eq_itself, eq_same}
use Rattle.vkg_lists.proofs.Distinct.{Contains-from_distinct, Contains-distinct, distinct_map_on, filter-distinct}
use Rattle.vkg_lists.proofs.Members.{Contains-none, Contains-here, Contains-there, Contains-from_map, Contains-from_filter, Contains-from_flat_map, Contains-flat_map, Contains-filter_map, Contains-only}
use Rattle.vkg_lists.specs.Sets.{distinct}
use Rattle.vkg_lists.proofs.Bools.{and_parts}
use Rattle.vkg_terms.specs.declared.term.Term.{Term}
use Rattle.vkg_terms.specs.NQuads.{Quad}
use Rattle.vkg_terms.specs.Same.{term_eq}
use Rattle.vkg_terms.proofs.SameLemmas.{terms_apart}
use Rattle.vkg_cells.specs.declared.cell.Cell.{Cell}
use Rattle.vkg_cells.specs.declared.cell.Cell.TheVariants as cell
use Rattle.vkg_schema.specs.Rows.{Row, Database}
use Rattle.vkg_maps.specs.Dataset.{graph_eq, quad_from}
use Rattle.vkg_maps.proofs.Quads.{quads_apart, graphs_apart}
use Rattle.vkg_sparql.specs.declared.pattern.Node.{Node}
use Rattle.vkg_sparql.specs.declared.pattern.Node.TheVariants.{Variable, Label, Fixed}
use Rattle.vkg_sparql.specs.declared.pattern.TriplePattern.{TriplePattern}
use Rattle.vkg_algebra.specs.Evaluation.{Dataset, graph_names, graph_of}
use Rattle.vkg_algebra.specs.Patterns.{triple_solutions, pattern_solutions}
use Rattle.vkg_algebra.specs.Solutions.{Solution}
use Rattle.vkg_algebra.specs.Answer.{solution_eq}
use Rattle.vkg_algebra.proofs.InstanceLemmas.{triple_once}
use Rattle.vkg_expr.specs.Expr.{Expr}
use Rattle.vkg_expr.specs.declared.term_expr.TermExpr.{TermExpr}
use Rattle.vkg_expr.specs.TermExprs.{term_expr}
use Rattle.vkg_expr.specs.Value.{value_of, term_of, term_cell}
use Rattle.vkg_expr.proofs.ReadBack.{term_back}
use Rattle.vkg_expr.proofs.TermValues.{term_expr_is}
use Rattle.vkg_plan.specs.Kinds.{Tables}
use Rattle.vkg_plan.specs.Rows.{rows_of, one_row}
use Rattle.vkg_plan.proofs.CellLemmas.{rows_apart}
use Rattle.vkg_row_rules.specs.declared.row_rule.RowRule.{RowRule}
use Rattle.vkg_row_rules.specs.RowDataset.{rule_rows, term_at, graph_at, quads_of, dataset_of, quad_at}
use Rattle.vkg_unfolded.specs.declared.mode.Mode.{Mode}
use Rattle.vkg_unfolded.specs.declared.mode.Mode.TheVariants.{Default, InGraph, Each}
use Rattle.vkg_unfolded.specs.Unfolded.{Named, named, places, constants, repeats, graph_test, rule_member, pattern_member, pattern_places, pattern_names, pattern_plan, graph_terms}
use Rattle.vkg_unfolded.specs.StandsFor.{IsIn}
use Rattle.vkg_unfolded.specs.FineRows.{IsFineRow, IsNarrowGraph, IsNarrow, NeverDefault}
use Rattle.vkg_answers.proofs.Entries.{Entry, entry, same_entry, first, alike, named_solution, AreTerms, AreAlike, AreBetween}
use Rattle.vkg_answers.proofs.Links.{are_alike, alike_is, alike_parts, terms-append, NamesBelow}
use Rattle.vkg_answers.proofs.Columns.{hidden_in, graphs_fit, HasGraphEntry, IsPatternRow, PatternStands}
use Rattle.vkg_answers.proofs.Sources.{all_hold, member_rows, rows_or_none, union_rows, not_nulls, graph_is, graph_passes, graph_passes_is, not_null_is}
use Rattle.vkg_answers.proofs.Quads.{NodeBelow, node_entries, node_below, pattern_entries, pattern_ok, node_all, entry_from}
use Rattle.vkg_answers.proofs.Members.{hidden_of, names_are_places, member_exprs, row_cells, member_entries, member_conditions, conditions_are, rules_answer, row_fits, row_solution}
use Rattle.vkg_answers.proofs.Once.{quads_once}
use Rattle.vkg_answers.proofs.TriplePatterns.{quad_apart, solution_says, pattern_below}

value_term : (e : TermExpr) (row : Row) → is_some (term_at e row) ≡ true → (t : Term) × (value_of (term_expr e) row ≡ cell.Term t)
value_term e row h = let s = some_of (term_at e row) h in (s.0, term_expr_is e row ∙ ap term_cell s.1)

value_narrow : (e : TermExpr) (row : Row) → IsNarrow (term_at e row) → IsNarrow (term_of (value_of (term_expr e) row))
value_narrow e row h = subst IsNarrow (sym (ap term_of (term_expr_is e row) ∙ term_back (term_at e row))) h

node_named : (x : Node) (c : Cell) (e : Entry) → Contains (node_entries x c) e → e.0 ≡ None → ⊥
node_named (Variable v) c e k m = let g : Some v ≡ None = ap (λ (z : Entry). z.0) (Contains-only (Some v, c) e k) ∙ m in cc
node_named (Label v) c e k m = let g : Some v ≡ None = ap (λ (z : Entry). z.0) (Contains-only (Some v, c) e k) ∙ m in cc
node_named (Fixed t) c e k m = Contains-none e k

no_first : (zs ws : List Entry) → ((x : Entry) → Contains zs x → x.0 ≡ None → ⊥) → first None (zs ++ ws) ≡ first None ws
no_first [] ws h = refl
no_first ((Some v, c) ∷ zs) ws h = no_first zs ws (λ x k. h x (Contains-there (Some v, c) zs x k))
no_first ((None, c) ∷ zs) ws h = absurd (h (None, c) (Contains-here (None, c) zs) refl)

length-member : (row : Row) (xs : List Named) → length (row_cells row (map (λ (x : Named). x.1) xs)) ≡ length (map (λ (x : Named). x.0) xs)
length-member row [] = refl
length-member row (x ∷ xs) = omega (arith, length-member row xs)

module _ (schema : Tables) (rules : List RowRule) (db : Database) (n : ℕ) (p : TriplePattern) (below : NodeBelow n p.subject × NodeBelow n p.predicate × NodeBelow n p.object) where
  abbrev pub d : Dataset
  d = dataset_of schema rules db

  -- a row of a rule that passes, with a graph of its own, has its quad in the dataset
  graph_named : (rule : RowRule) → Contains rules rule → (row : Row) → Contains (rule_rows schema db rule.table rule.join) row → (i s t u : Term) →
      graph_at rule.graph row ≡ Some (Some i) → term_at rule.subject row ≡ Some s → term_at rule.predicate row ≡ Some t → term_at rule.object row ≡ Some u → Contains (graph_names d) i
  graph_named rule c row k i s t u e0 e1 e2 e3 =
      Contains-distinct terms_apart (filter_map (λ q. q.graph) d) i (Contains-filter_map (λ q. q.graph) d q i (Contains-distinct quads_apart (flat_map (quads_of schema db) rules) q
      (Contains-flat_map (quads_of schema db) rules rule q c (Contains-filter_map (quad_at rule) (rule_rows schema db rule.table rule.join) row q k (λ j. quad_from (e1 j) (e2 j) (e3 j) (e0 j))))) refl)
    where
      q : Quad
      q = record { subject = s; predicate = t; object = u; graph = Some i }

  module _ (mode : Mode) (rule : RowRule) (listed : Contains rules rule) (test : List Expr) (admits : graph_test mode rule.graph ≡ Some test) (row : Row) (of_rule : Contains (rule_rows schema db rule.table rule.join) row)
      (passes : all_hold (member_conditions p rule test) row ≡ true) (fine : IsFineRow rule row) where
    abbrev S : Cell
    S = value_of (term_expr rule.subject) row

    abbrev P : Cell
    P = value_of (term_expr rule.predicate) row

    abbrev O : Cell
    O = value_of (term_expr rule.object) row

    abbrev pe : List Entry
    pe = pattern_entries p S P O

    abbrev hid : List Entry
    hid = map (entry row) (hidden_of mode rule.graph)

    record Parts : Type 0 where
      subject : is_some (term_at rule.subject row) ≡ true
      predicate : is_some (term_at rule.predicate row) ≡ true
      object : is_some (term_at rule.object row) ≡ true
      nulls : all_hold (not_nulls (graph_terms rule.graph)) row ≡ true
      tested : all_hold test row ≡ true
      same : alike [] pe ≡ true

    -- any dataset and graph serve to take a condition apart
    parts : Parts
    parts =
        let some = quad_parts in some
      where
        quad_parts : Parts
        quad_parts =
            let a = and_parts ((is_some (term_at rule.subject row) && (is_some (term_at rule.predicate row) && (is_some (term_at rule.object row) && all_hold (not_nulls (graph_terms rule.graph)) row))) && all_hold test row) (pattern_ok p S P O && alike [] pe)
            (sym (conditions_are n [] Default None refl p below rule test row) ∙ passes) in
            let b = and_parts (is_some (term_at rule.subject row) && (is_some (term_at rule.predicate row) && (is_some (term_at rule.object row) && all_hold (not_nulls (graph_terms rule.graph)) row))) (all_hold test row) a.0 in
            let c = and_parts (is_some (term_at rule.subject row)) (is_some (term_at rule.predicate row) && (is_some (term_at rule.object row) && all_hold (not_nulls (graph_terms rule.graph)) row)) b.0 in
            let e = and_parts (is_some (term_at rule.predicate row)) (is_some (term_at rule.object row) && all_hold (not_nulls (graph_terms rule.graph)) row) c.1 in
            let f = and_parts (is_some (term_at rule.object row)) (all_hold (not_nulls (graph_terms rule.graph)) row) e.1 in
            record { subject = c.0; predicate = e.0; object = f.0; nulls = f.1; tested = b.1; same = (and_parts (pattern_ok p S P O) (alike [] pe) a.1).1 }

    abbrev IsTerm : Cell → Type 0
    IsTerm c = (t : Term) × (c ≡ cell.Term t)

    pe_terms : AreTerms pe
    pe_terms x k = entry_from p S P O x (node_all IsTerm p.subject S (value_term rule.subject row parts.subject) x) (node_all IsTerm p.predicate P (value_term rule.predicate row parts.predicate) x) (node_all IsTerm p.object O (value_term rule.object row parts.object) x) k

    pe_narrow : (x : Entry) → Contains pe x → IsNarrow (term_of x.1)
    pe_narrow x k = entry_from p S P O x (node_all (λ c. IsNarrow (term_of c)) p.subject S (value_narrow rule.subject row fine.subject) x) (node_all (λ c. IsNarrow (term_of c)) p.predicate P (value_narrow rule.predicate row fine.predicate) x) (node_all (λ c. IsNarrow (term_of c)) p.object O (value_narrow rule.object row fine.object) x) k

    pe_below : NamesBelow n pe
    pe_below x k = entry_from p S P O x (node_below n p.subject S below.0 x) (node_below n p.predicate P below.1 x) (node_below n p.object O below.2 x) k

    pe_named : (x : Entry) → Contains pe x → x.0 ≡ None → ⊥
    pe_named x k = entry_from p S P O x (node_named p.subject S x) (node_named p.predicate P x) (node_named p.object O x) k

    -- the hidden entry
    record Hidden (m : Mode) (o : Option TermExpr) : Type 0 where
      terms : AreTerms (map (entry row) (hidden_of m o))
      narrow : (x : Entry) → Contains (map (entry row) (hidden_of m o)) x → IsNarrow (term_of x.1)
      names : (x : Entry) → Contains (map (entry row) (hidden_of m o)) x → x.0 ≡ None
      same : AreAlike (map (entry row) (hidden_of m o))

    hidden_fine : (mode : Mode) (o : Option TermExpr) → all_hold (not_nulls (graph_terms o)) row ≡ true → IsNarrowGraph o row → Hidden mode o
    hidden_fine Default o h k = record { terms = λ x c. absurd (Contains-none x c); narrow = λ x c. absurd (Contains-none x c); names = λ x c. absurd (Contains-none x c); same = λ x y c e f. absurd (Contains-none x c) }
    hidden_fine (InGraph i) o h k = record { terms = λ x c. absurd (Contains-none x c); narrow = λ x c. absurd (Contains-none x c); names = λ x c. absurd (Contains-none x c); same = λ x y c e f. absurd (Contains-none x c) }
    hidden_fine Each None h k = record { terms = λ x c. absurd (Contains-none x c); narrow = λ x c. absurd (Contains-none x c); names = λ x c. absurd (Contains-none x c); same = λ x y c e f. absurd (Contains-none x c) }
    hidden_fine Each (Some e) h k =
        let there = sym (not_null_is e row) ∙ (and_parts _ true h).0 in
        record {
          terms = λ x c. subst (λ (z : Entry). IsTerm z.1) (is x c) (value_term e row there);
          narrow = λ x c. subst (λ (z : Entry). IsNarrow (term_of z.1)) (is x c) (value_narrow e row k);
          names = λ x c. ap (λ (z : Entry). z.0) (sym (is x c));
          same = λ x y c f g. ap (λ (z : Entry). z.1) (sym (is x c) ∙ is y f);
        }
      where
        is : (x : Entry) → Contains ((None, value_of (term_expr e) row) ∷ []) x → (None, value_of (term_expr e) row) ≡ x
        is x c = Contains-only (None, value_of (term_expr e) row) x c

    hidden : Hidden mode rule.graph
    hidden = hidden_fine mode rule.graph parts.nulls fine.graph

    once : (x : Entry) → Contains (distinct same_entry pe) x → Contains pe x
    once x c = Contains-from_distinct same_entry pe x c

    graph_entry : (mode : Mode) (o : Option TermExpr) → rule.graph ≡ o → graph_test mode o ≡ Some test → HasGraphEntry d mode (distinct same_entry pe ++ map (entry row) (hidden_of mode o))
    graph_entry Default o e h = λ x c f. ⊎_elim (λ a. pe_named x (once x a) f) (λ b. Contains-none x b) (Contains-append_cases (distinct same_entry pe) [] x c)
    graph_entry (InGraph i) o e h = λ x c f. ⊎_elim (λ a. pe_named x (once x a) f) (λ b. Contains-none x b) (Contains-append_cases (distinct same_entry pe) [] x c)
    graph_entry Each None e h = cc
    graph_entry Each (Some ge) e h =
        let nulls = subst (λ o. all_hold (not_nulls (graph_terms o)) row ≡ true) e parts.nulls in
        let there = sym (not_null_is ge row) ∙ (and_parts _ true nulls).0 in
        let t = some_of (term_at ge row) there in
        let v = value_term ge row there in
        let s0 = some_of (term_at rule.subject row) parts.subject in
        let p0 = some_of (term_at rule.predicate row) parts.predicate in
        let o0 = some_of (term_at rule.object row) parts.object in (
          t.0,
          graph_named rule listed row of_rule t.0 s0.0 p0.0 o0.0 (ap (λ o. graph_at o row) e ∙ own t.0 t.1 nulls) s0.1 p0.1 o0.1,
          no_first (distinct same_entry pe) ((None, value_of (term_expr ge) row) ∷ []) (λ x a f. pe_named x (once x a) f) ∙ term_expr_is ge row ∙ ap term_cell t.1,
        )
      where
        -- its graph is not the default graph
        own : (i : Term) → term_at ge row ≡ Some i → all_hold (not_nulls (graph_terms (Some ge))) row ≡ true → graph_at (Some ge) row ≡ Some (Some i)
        own i f nulls = is (graph_at (Some ge) row) (sym (graph_passes_is one Each (Some i) (Some ge) row (i, refl, Contains-here i []) (subst (λ o. NeverDefault o row) e fine.never)) ∙ passed)
          where
            one : Dataset
            one = record { subject = i; predicate = i; object = i; graph = Some i } ∷ []

            passed : graph_passes Each (Some i) (Some ge) row ≡ true
            passed = ap (λ o. option_map_or (λ test. (all_hold (not_nulls (graph_terms (Some ge))) row && all_hold test row) && graph_is Each (Some i) (Some ge) row) o false) h
                ∙ (λ j. (nulls j && parts.tested j) && (ap (λ o. option_map_or (term_eq i) o false) f ∙ eq_itself terms_apart i) j)

            is : (o : Option (Option Term)) → option_map_or (λ h. graph_eq h (Some i)) o false ≡ true → o ≡ Some (Some i)
            is None x = absurd (true≢false (sym x))
            is (Some g) x = ap Some (eq_same graphs_apart g (Some i) x)

    pub member_row : IsPatternRow n d mode (pattern_names mode p) (row_cells row (member_exprs mode p rule))
    member_row =
        let whole = sym (member_entries mode p rule test admits row) in
        let once_terms : AreTerms (distinct same_entry pe) = λ x c. pe_terms x (once x c) in
        let terms = terms-append (distinct same_entry pe) hid once_terms hidden.terms in
        let pe_same = are_alike pe pe_terms parts.same in
        let between : AreBetween (distinct same_entry pe) hid = λ x y c e f. absurd (pe_named x (once x c) (f ∙ hidden.names y e)) in
        let same = alike_parts (distinct same_entry pe) hid (λ x y c e f. pe_same x y (once x c) (once y e) f) hidden.same between in
        record {
          named = record {
            size = length-member row (pattern_places mode p rule) ∙ ap length (names_are_places mode p rule test admits);
            terms = subst AreTerms whole terms;
            narrow = subst (λ zs. (x : Entry) → Contains zs x → IsNarrow (term_of x.1)) whole (λ x c. ⊎_elim (λ a. pe_narrow x (once x a)) (λ b. hidden.narrow x b) (Contains-append_cases (distinct same_entry pe) hid x c));
            below = subst (NamesBelow n) whole (λ x c v f. ⊎_elim (λ a. pe_below x (once x a) v f) (λ b. let g : None ≡ Some v = sym (hidden.names x b) ∙ f in cc) (Contains-append_cases (distinct same_entry pe) hid x c));
          };
          alone = subst (λ zs. alike [] zs ≡ true) whole (alike_is (distinct same_entry pe ++ hid) terms same);
          graph = subst (HasGraphEntry d mode) whole (graph_entry mode rule.graph refl admits);
        }

  -- THE TRIPLE PATTERN'S PLAN
  module _ (fine : (rule : RowRule) → Contains rules rule → (row : Row) → Contains (rule_rows schema db rule.table rule.join) row → IsFineRow rule row) (mode : Mode) where
    abbrev all_rows : List Row
    all_rows = flat_map (λ rule. rows_or_none schema db (pattern_member schema mode p rule)) rules

    rule_row : (rule : RowRule) → Contains rules rule → (row : Row) → Contains (rows_or_none schema db (pattern_member schema mode p rule)) row → IsPatternRow n d mode (pattern_names mode p) row
    rule_row rule c row k = of (graph_test mode rule.graph) refl k
      where
        of : (o : Option (List Expr)) → graph_test mode rule.graph ≡ o →
            Contains (rows_or_none schema db (rule_member schema rule (member_exprs mode p rule) (flat_map constants (places p rule) ++ repeats [] (flat_map named (places p rule))) o)) row →
            IsPatternRow n d mode (pattern_names mode p) row
        of None e k = absurd (Contains-none row k)
        of (Some test) e k =
            let k2 = subst (λ rs. Contains rs row) (member_rows schema db rule (member_exprs mode p rule) (member_conditions p rule test)) k in
            let x = Contains-from_map (λ row. row_cells row (member_exprs mode p rule)) (filter (all_hold (member_conditions p rule test)) (rule_rows schema db rule.table rule.join)) row k2 in
            let y = Contains-from_filter (all_hold (member_conditions p rule test)) (rule_rows schema db rule.table rule.join) x.0 x.1 in
            subst (IsPatternRow n d mode (pattern_names mode p)) x.2 (member_row mode rule c test e x.0 y.0 y.1 (fine rule c x.0 y.0))

    any_row : (row : Row) → Contains all_rows row → IsPatternRow n d mode (pattern_names mode p) row
    any_row row c = let x = Contains-from_flat_map (λ rule. rows_or_none schema db (pattern_member schema mode p rule)) rules row c in rule_row x.0 x.1 row x.2

    pub pattern_stands : PatternStands n d mode p (rows_of schema (pattern_plan schema rules mode p) db)
    pattern_stands = subst (PatternStands n d mode p) (sym (union_rows schema db (length (pattern_names mode p)) (pattern_member schema mode p) rules)) (record {
      are_rows = λ row c. any_row row (Contains-from_distinct one_row all_rows row c);
      bag = whole;
    })
      where
        whole : (g : Option Term) → IsIn d mode g →
            IsPermutation (map (λ row. named_solution n (zip (pattern_names mode p) row)) (filter (λ row. graphs_fit (hidden_in mode g) (zip (pattern_names mode p) row)) (distinct one_row all_rows))) (pattern_solutions n p (graph_of d g))
        whole g h = IsPermutation-trans _ _ _ (bag_same
            (ap (map solution) (filter-distinct rows_apart fits all_rows)
            ∙ distinct_map_on one_row solution_eq solution (filter fits all_rows)
            (λ x y a b. let s = Contains-from_filter fits all_rows x a in let t = Contains-from_filter fits all_rows y b in
            solution_says n d mode (pattern_names mode p) g h x y (any_row x s.0) (any_row y t.0) s.1 t.1)
            ∙ ap (distinct solution_eq) (rules_answer schema db n d mode g h p below rules (λ rule c row k. (fine rule c row k).never))))
            (IsPermutation-sym _ _ (quads_once (triple_solutions n p) g (triple_once n p (pattern_below n p below)) (quad_apart n p below) (flat_map (quads_of schema db) rules)))
          where
            solution : Row → Solution
            solution = row_solution schema db n d mode g h p below

            fits : Row → Bool
            fits = row_fits schema db n d mode g h p below
