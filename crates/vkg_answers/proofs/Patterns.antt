-- A basic graph pattern: its rows stand for its solutions, if those of each triple pattern do.
use Rattle.std.proofs.Common.{◌≡◌, ℕ, ◌⊎◌, inl, inr, Bool, true, false, ⊎_elim, List, [], ◌∷◌, ◌++◌, map, length, refl, sym, ap, subst, ◌∙◌, arith, true≢false, append-nil}
use Rattle.std.specs.Prelude.{Option, Some, None, ◌&&◌, ◌||◌, Contains, filter, flat_map, nat_eq, if◌then◌else◌}
use Rattle.std.specs.Option.{option_map_or}
use Rattle.std.specs.List.Sorted.{IsPermutation}
use Rattle.std.specs.List.{list_any, zip, range_with_len, position_or_len}
use Rattle.std.proofs.lemmas.Bool.{or_cases}
use Rattle.std.proofs.lemmas.List.{map-append}
use Rattle.std.proofs.lemmas.List.Elements.{Contains-append_cases}
use Rattle.std.proofs.lemmas.List.Folds.{list_any-append}
use Rattle.vkg_lists.proofs.Tests.{nat_test}
use Rattle.vkg_lists.proofs.Distinct.{any_of-distinct}
use Rattle.std.proofs.lemmas.List.Sorted.{IsPermutation-map, IsPermutation-trans}
use Rattle.vkg_lists.proofs.Bags.{bag_same}
use Rattle.vkg_lists.proofs.Counts.{eq_comm}
use Rattle.vkg_lists.proofs.Walks.{filter-map, filter-filter, map-map}
use Rattle.vkg_lists.proofs.Members.{Contains-none, Contains-here, Contains-there, Contains-from_map, Contains-from_filter, Contains-from_flat_map, map_agree_on, filter_agree_on, each_of_all, all_of_each}
use Rattle.vkg_lists.proofs.Bools.{or_left, or_right, same_truth, is_false}
use Rattle.vkg_lists.specs.Sets.{distinct}
use Rattle.vkg_terms.specs.declared.term.Term.{Term}
use Rattle.vkg_terms.specs.Same.{term_eq}
use Rattle.vkg_terms.proofs.SameLemmas.{terms_apart}
use Rattle.vkg_cells.specs.declared.cell.Cell.TheVariants as cell
use Rattle.vkg_schema.specs.Rows.{Row, Database, cell_at}
use Rattle.vkg_sparql.specs.declared.pattern.Node.{Node}
use Rattle.vkg_sparql.specs.declared.pattern.Node.TheVariants.{Variable, Label, Fixed}
use Rattle.vkg_sparql.specs.declared.pattern.TriplePattern.{TriplePattern}
use Rattle.vkg_algebra.specs.Algebra.{Bgp}
use Rattle.vkg_algebra.specs.Evaluation.{Dataset, graph_of, evaluate}
use Rattle.vkg_algebra.specs.Patterns.{bgp_solutions, labels_of, node_labels, without}
use Rattle.vkg_algebra.specs.Visible.{has, node_variables, pattern_variables, visible}
use Rattle.vkg_expr.specs.Expr.{Expr, Col}
use Rattle.vkg_expr.specs.Value.{value_of, term_of, holds}
use Rattle.vkg_expr.specs.Logic.{and_of}
use Rattle.vkg_expr.proofs.Conjuncts.{holds-and_of}
use Rattle.vkg_plan.specs.Kinds.{Tables}
use Rattle.vkg_plan.specs.Plan.{Join, Project, plans}
use Rattle.vkg_plan.specs.Rows.{rows_of, rows_of_each, product}
use Rattle.vkg_row_rules.specs.declared.row_rule.RowRule.{RowRule}
use Rattle.vkg_unfolded.specs.Unfolded.{if_each, Name, name_eq, node_names, pattern_names, pattern_plan, numbered, repeats, bgp_plan, visible_column}
use Rattle.vkg_unfolded.specs.declared.mode.Mode.{Mode}
use Rattle.vkg_unfolded.specs.declared.mode.Mode.TheVariants.{Default, InGraph, Each}
use Rattle.vkg_unfolded.specs.StandsFor.{IsIn, belongs, hidden_is, solution_of, solutions_of, term_in}
use Rattle.vkg_unfolded.specs.FineRows.{IsNarrow}
use Rattle.vkg_unfolded.proofs.AlgebraColumns.{name_test}
use Rattle.vkg_answers.proofs.Reading.{AreBelow, IsTermCell, is_term_cell, read_project, has-each_once, set_at}
use Rattle.vkg_answers.proofs.Modes.{IsRowOf, cell_at-after, hidden_found}
use Rattle.vkg_answers.proofs.Steps.{Stands, projected, project_rows, IsGraphCell}
use Rattle.vkg_answers.proofs.Entries.{Entry, first, alike, named_term, named_solution, repeats_alike, AreAlike}
use Rattle.vkg_answers.proofs.Links.{first_cases, first_alike, are_alike}
use Rattle.vkg_answers.proofs.Columns.{cells-append, place_first, numbered_cells, graph_fits, graphs_fit, fits_term, HasGraphEntry, IsNamedRow, PatternStands, fits, product_row, product_bag, names}

-- ---- without labels

pub without-map : (n : ℕ) (vs : List ℕ) (f : ℕ → Option Term) → without vs (map f (range_with_len 0 n)) ≡ map (λ v. if has vs v then None else f v) (range_with_len 0 n)
without-map n [] f = refl
without-map n (w ∷ vs) f =
    ap (without vs) (set_at None f n 0 w w (omega arith))
    ∙ without-map n vs (λ u. if nat_eq w u then None else f u)
    ∙ (λ i. map (λ v. (ap (λ b. if has vs v then None else (if b then None else f v)) (eq_comm nat_test w v) ∙ of v (nat_eq v w) (has vs v)) i) (range_with_len 0 n))
  where
    of : (v : ℕ) (a b : Bool) → (if b then None else (if a then None else f v)) ≡ (if a || b then None else f v)
    of v true true = refl
    of v true false = refl
    of v false b = refl

-- ---- the names of patterns

pub first_absent : (x : Name) (ns : List Name) (row : Row) → list_any (name_eq x) ns ≡ false → first x (zip ns row) ≡ cell.Null
first_absent x [] row h = refl
first_absent x (y ∷ ns) [] h = refl
first_absent x (y ∷ ns) (c ∷ row) h = of (first_absent x ns row) (name_eq x y) h
  where
    of : (list_any (name_eq x) ns ≡ false → first x (zip ns row) ≡ cell.Null) → (b : Bool) → (b || list_any (name_eq x) ns) ≡ false → (if b then c else first x (zip ns row)) ≡ cell.Null
    of rest true k = absurd (true≢false k)
    of rest false k = rest k

-- what a node names is a variable or a label
abbrev IsKnown : List ℕ → List ℕ → ℕ → Type 0
IsKnown vs ls v = (has vs v ≡ true) ⊎ (has ls v ≡ true)

known_append : (vs ls ws ms : List ℕ) (v : ℕ) → IsKnown vs ls v ⊎ IsKnown ws ms v → IsKnown (vs ++ ws) (ls ++ ms) v
known_append vs ls ws ms v k = ⊎_elim
    (λ a. ⊎_elim (λ e. inl (list_any-append (nat_eq v) vs ws ∙ or_left (has vs v) (has ws v) e)) (λ e. inr (list_any-append (nat_eq v) ls ms ∙ or_left (has ls v) (has ms v) e)) a)
    (λ a. ⊎_elim (λ e. inl (list_any-append (nat_eq v) vs ws ∙ or_right (has vs v) (has ws v) e)) (λ e. inr (list_any-append (nat_eq v) ls ms ∙ or_right (has ls v) (has ms v) e)) a) k

node_known : (x : Node) (v : ℕ) → list_any (name_eq (Some v)) (node_names x) ≡ true → IsKnown (node_variables x) (node_labels x) v
node_known (Variable w) v h = inl h
node_known (Label w) v h = inr h
node_known (Fixed t) v h = absurd (true≢false (sym h))

not_hidden : (mode : Mode) (v : ℕ) → list_any (name_eq (Some v)) (if_each mode None) ≡ false
not_hidden Default v = refl
not_hidden (InGraph i) v = refl
not_hidden Each v = refl

pattern_known : (mode : Mode) (p : TriplePattern) (v : ℕ) → list_any (name_eq (Some v)) (pattern_names mode p) ≡ true → IsKnown (pattern_variables p) (node_labels p.subject ++ node_labels p.predicate ++ node_labels p.object) v
pattern_known mode p v h =
    let a = or_cases (list_any (name_eq (Some v)) (distinct name_eq (flat_map node_names (p.subject ∷ p.predicate ∷ p.object ∷ [])))) (list_any (name_eq (Some v)) (if_each mode None))
    (sym (list_any-append (name_eq (Some v)) (distinct name_eq (flat_map node_names (p.subject ∷ p.predicate ∷ p.object ∷ []))) (if_each mode None)) ∙ h) in
    let b = sym (any_of-distinct name_test (flat_map node_names (p.subject ∷ p.predicate ∷ p.object ∷ [])) (Some v)) ∙ (⊎_elim (λ e. e) (λ e. absurd (true≢false (sym e ∙ not_hidden mode v))) a) in
    let c = or_cases (list_any (name_eq (Some v)) (node_names p.subject)) (list_any (name_eq (Some v)) (node_names p.predicate ++ (node_names p.object ++ []))) (sym (list_any-append (name_eq (Some v)) (node_names p.subject) (node_names p.predicate ++ (node_names p.object ++ []))) ∙ b) in
    known_append (node_variables p.subject ++ node_variables p.predicate) (node_labels p.subject ++ node_labels p.predicate) (node_variables p.object) (node_labels p.object) v
    (⊎_elim
    (λ s. inl (known_append (node_variables p.subject) (node_labels p.subject) (node_variables p.predicate) (node_labels p.predicate) v (inl (node_known p.subject v s))))
    (λ r.
    let e = or_cases (list_any (name_eq (Some v)) (node_names p.predicate)) (list_any (name_eq (Some v)) (node_names p.object ++ [])) (sym (list_any-append (name_eq (Some v)) (node_names p.predicate) (node_names p.object ++ [])) ∙ r) in
    ⊎_elim
    (λ q. inl (known_append (node_variables p.subject) (node_labels p.subject) (node_variables p.predicate) (node_labels p.predicate) v (inr (node_known p.predicate v q))))
    (λ q. inr (node_known p.object v (sym (ap (list_any (name_eq (Some v))) (append-nil (node_names p.object))) ∙ q))) e)
    c)

names_known : (mode : Mode) (ps : List TriplePattern) (v : ℕ) → list_any (name_eq (Some v)) (flat_map (pattern_names mode) ps) ≡ true → IsKnown (flat_map pattern_variables ps) (labels_of ps) v
names_known mode [] v h = absurd (true≢false (sym h))
names_known mode (p ∷ ps) v h =
    known_append (pattern_variables p) (node_labels p.subject ++ node_labels p.predicate ++ node_labels p.object) (flat_map pattern_variables ps) (labels_of ps) v
    (⊎_elim (λ e. inl (pattern_known mode p v e)) (λ e. inr (names_known mode ps v e))
    (or_cases (list_any (name_eq (Some v)) (pattern_names mode p)) (list_any (name_eq (Some v)) (flat_map (pattern_names mode) ps)) (sym (list_any-append (name_eq (Some v)) (pattern_names mode p) (flat_map (pattern_names mode) ps)) ∙ h)))

-- ---- the graph of a whole row

first_stays : (x : Name) (zs ws : List Entry) (t : Term) → first x zs ≡ cell.Term t → first x (zs ++ ws) ≡ cell.Term t
first_stays x [] ws t h = cc
first_stays x (z ∷ zs) ws t h = of (first_stays x zs ws t) (name_eq x z.0) h
  where
    of : (first x zs ≡ cell.Term t → first x (zs ++ ws) ≡ cell.Term t) → (b : Bool) → (if b then z.1 else first x zs) ≡ cell.Term t → (if b then z.1 else first x (zs ++ ws)) ≡ cell.Term t
    of rest true k = k
    of rest false k = rest k

abbrev pub AllStand : ℕ → Dataset → Mode → (TriplePattern → List Row) → List TriplePattern → Type 0
AllStand n d mode R ps = (p : TriplePattern) → Contains ps p → PatternStands n d mode p (R p)

no_graph : (n : ℕ) (d : Dataset) (mode : Mode) (R : TriplePattern → List Row) (ps : List TriplePattern) → ((zs : List Entry) → HasGraphEntry d mode zs → (x : Entry) → Contains zs x → x.0 ≡ None → ⊥) → AllStand n d mode R ps →
    (row : Row) → Contains (product (map R ps)) row → (x : Entry) → Contains (zip (names mode ps) row) x → x.0 ≡ None → ⊥
no_graph n d mode R [] f h row c x k e = absurd (Contains-none x k)
no_graph n d mode R (p ∷ ps) f h row c x k e =
    let y = Contains-from_flat_map (λ l. map (λ r. l ++ r) (product (map R ps))) (R p) row c in
    let z = Contains-from_map (λ r. y.0 ++ r) (product (map R ps)) row y.2 in
    let a = (h p (Contains-here p ps)).are_rows y.0 y.1 in
    let k2 = subst (λ zs. Contains zs x) (ap (zip (names mode (p ∷ ps))) (sym z.2) ∙ cells-append (pattern_names mode p) (names mode ps) y.0 z.0 a.named.size) k in
    ⊎_elim (λ l. f (zip (pattern_names mode p) y.0) a.graph x l e) (λ r. no_graph n d mode R ps f (λ q m. h q (Contains-there p ps q m)) z.0 z.1 x r e)
    (Contains-append_cases (zip (pattern_names mode p) y.0) (zip (names mode ps) z.0) x k2)

product_graph : (n : ℕ) (d : Dataset) (mode : Mode) (R : TriplePattern → List Row) (p : TriplePattern) (ps : List TriplePattern) → AllStand n d mode R (p ∷ ps) →
    (row : Row) → Contains (product (map R (p ∷ ps))) row → HasGraphEntry d mode (zip (names mode (p ∷ ps)) row)
product_graph n d Default R p ps h row c = no_graph n d Default R (p ∷ ps) (λ zs f. f) h row c
product_graph n d (InGraph i) R p ps h row c = no_graph n d (InGraph i) R (p ∷ ps) (λ zs f. f) h row c
product_graph n d Each R p ps h row c =
    let y = Contains-from_flat_map (λ l. map (λ r. l ++ r) (product (map R ps))) (R p) row c in
    let z = Contains-from_map (λ r. y.0 ++ r) (product (map R ps)) row y.2 in
    let a = (h p (Contains-here p ps)).are_rows y.0 y.1 in
    let whole = ap (zip (names Each (p ∷ ps))) (sym z.2) ∙ cells-append (pattern_names Each p) (names Each ps) y.0 z.0 a.named.size in
    (a.graph.0, a.graph.1, ap (first None) whole ∙ first_stays None (zip (pattern_names Each p) y.0) (zip (names Each ps) z.0) a.graph.0 a.graph.2)

-- whether a whole row belongs to a graph
no_entries_fit : (o : Option Term) (zs : List Entry) → ((x : Entry) → Contains zs x → x.0 ≡ None → ⊥) → graphs_fit o zs ≡ true
no_entries_fit o zs h = all_of_each (graph_fits o) zs (λ x c. of x (h x c))
  where
    of : (x : Entry) → (x.0 ≡ None → ⊥) → graph_fits o x ≡ true
    of (Some v, c) k = refl
    of (None, c) k = absurd (k refl)

fits_first : (i t : Term) (zs : List Entry) → AreAlike zs → first None zs ≡ cell.Term t → graphs_fit (Some i) zs ≡ term_eq i t
fits_first i t zs h e = same_truth (graphs_fit (Some i) zs) (term_eq i t) onto back
  where
    onto : graphs_fit (Some i) zs ≡ true → term_eq i t ≡ true
    onto k = ⊎_elim
        (λ none. let f : cell.Null ≡ cell.Term t = sym none ∙ e in cc)
        (λ r. let u = fits_term (Some i) r.0 (sym r.2) (each_of_all (graph_fits (Some i)) zs k r.0 r.1) in
        let g : Some i ≡ Some t = u.1 ∙ sym u.2 ∙ ap term_of (sym r.3 ∙ e) in (terms_apart.decides i t).1 cc)
        (first_cases None zs)

    back : term_eq i t ≡ true → graphs_fit (Some i) zs ≡ true
    back k = all_of_each (graph_fits (Some i)) zs (λ x c. of x x.0 refl c)
      where
        of : (x : Entry) (m : Name) → x.0 ≡ m → Contains zs x → graph_fits (Some i) x ≡ true
        of (Some v, c) m f k2 = refl
        of (None, c) m f k2 = ap (λ b. option_map_or (term_eq i) (term_of b) false) (sym (first_alike zs h (None, c) k2) ∙ e) ∙ k

module _ (schema : Tables) (rules : List RowRule) (n : ℕ) (d : Dataset) (db : Database) where
  abbrev pub pattern_rows : Mode → TriplePattern → List Row
  pattern_rows mode p = rows_of schema (pattern_plan schema rules mode p) db

  rows_each : (mode : Mode) (ps : List TriplePattern) → rows_of_each schema (plans (map (pattern_plan schema rules mode) ps)) db ≡ map (pattern_rows mode) ps
  rows_each mode [] = refl
  rows_each mode (p ∷ ps) = ap (λ rs. pattern_rows mode p ∷ rs) (rows_each mode ps)

  module _ (p : TriplePattern) (ps : List TriplePattern) (below : AreBelow n (flat_map pattern_variables (p ∷ ps)))
      (apart : (v : ℕ) → has (flat_map pattern_variables (p ∷ ps)) v ≡ true → has (labels_of (p ∷ ps)) v ≡ true → ⊥) where
    abbrev vis : List ℕ
    vis = visible (Bgp (p ∷ ps))

    abbrev at : Mode → ℕ → Expr
    at mode v = Col (position_or_len (name_eq (Some v)) (names mode (p ∷ ps)))

    abbrev hidden : Mode → Expr
    hidden mode = Col (position_or_len (name_eq None) (names mode (p ∷ ps)))

    abbrev cells : Mode → Row → List Entry
    cells mode row = zip (names mode (p ∷ ps)) row

    abbrev proj : Mode → Row → Row
    proj mode row = map (λ e. value_of e row) (map (at mode) vis ++ if_each mode (hidden mode))

    columns_are : (mode : Mode) → map (λ x. Col (position_or_len (name_eq x) (names mode (p ∷ ps)))) (map Some vis ++ if_each mode None) ≡ map (at mode) vis ++ if_each mode (hidden mode)
    columns_are Default = map-append (λ x. Col (position_or_len (name_eq x) (names Default (p ∷ ps)))) (map Some vis) [] ∙ ap (λ es. es ++ []) (map-map (λ x. Col (position_or_len (name_eq x) (names Default (p ∷ ps)))) Some vis)
    columns_are (InGraph i) = map-append (λ x. Col (position_or_len (name_eq x) (names (InGraph i) (p ∷ ps)))) (map Some vis) [] ∙ ap (λ es. es ++ []) (map-map (λ x. Col (position_or_len (name_eq x) (names (InGraph i) (p ∷ ps)))) Some vis)
    columns_are Each = map-append (λ x. Col (position_or_len (name_eq x) (names Each (p ∷ ps)))) (map Some vis) (None ∷ []) ∙ ap (λ es. es ++ hidden Each ∷ []) (map-map (λ x. Col (position_or_len (name_eq x) (names Each (p ∷ ps)))) Some vis)

    module _ (mode : Mode) (row : Row) (a : IsNamedRow n (names mode (p ∷ ps)) row) where
      at_is : (v : ℕ) → value_of (at mode v) row ≡ first (Some v) (cells mode row)
      at_is v = place_first (Some v) (names mode (p ∷ ps)) row a.size

      first_typed : (x : Name) → IsTermCell (first x (cells mode row))
      first_typed x = ⊎_elim
          (λ e. subst IsTermCell (sym e) (refl, tt))
          (λ r. let t = a.terms r.0 r.1 in is_term_cell (first x (cells mode row)) (Some t.0) (r.3 ∙ t.1) (subst IsNarrow (ap term_of t.1) (a.narrow r.0 r.1)))
          (first_cases x (cells mode row))

      condition_is : holds (and_of (repeats [] (numbered 0 (names mode (p ∷ ps))))) row ≡ alike [] (cells mode row)
      condition_is =
          holds-and_of row (repeats [] (numbered 0 (names mode (p ∷ ps))))
          ∙ repeats_alike row [] (numbered 0 (names mode (p ∷ ps)))
          ∙ ap (alike []) (numbered_cells row (names mode (p ∷ ps)) row 0 a.size (λ j m e. ap (cell_at row) (let f : m ≡ j = omega arith in f)))

      solution_is : solution_of n vis (proj mode row) ≡ without (labels_of (p ∷ ps)) (named_solution n (cells mode row))
      solution_is =
          (λ i. map (λ v. one v i) (range_with_len 0 n)) ∙ sym (without-map n (labels_of (p ∷ ps)) (named_term (cells mode row)))
        where
          kept : (v : ℕ) (b : Bool) → has vis v ≡ b → (c : Bool) → has (labels_of (p ∷ ps)) v ≡ c →
              term_of (if b then value_of (at mode v) row else cell.Null) ≡ (if c then None else named_term (cells mode row) v)
          kept v true e true f = absurd (apart v (sym (has-each_once (flat_map pattern_variables (p ∷ ps)) v) ∙ e) f)
          kept v true e false f = ap term_of (at_is v)
          kept v false e true f = refl
          kept v false e false f = sym (ap term_of (first_absent (Some v) (names mode (p ∷ ps)) row not_there))
            where
              not_there : list_any (name_eq (Some v)) (names mode (p ∷ ps)) ≡ false
              not_there = is_false (list_any (name_eq (Some v)) (names mode (p ∷ ps)))
                  (λ g. ⊎_elim (λ k. true≢false (sym (has-each_once (flat_map pattern_variables (p ∷ ps)) v ∙ k) ∙ e)) (λ k. true≢false (sym k ∙ f)) (names_known mode (p ∷ ps) v g))

          one : (v : ℕ) → term_in (visible_column vis) (proj mode row) v ≡ (if has (labels_of (p ∷ ps)) v then None else named_term (cells mode row) v)
          one v = ap term_of (read_project (at mode) (if_each mode (hidden mode)) vis row v) ∙ kept v (has vis v) refl (has (labels_of (p ∷ ps)) v) refl

    graph_cell_of : (mode : Mode) (row : Row) → IsNamedRow n (names mode (p ∷ ps)) row → HasGraphEntry d mode (cells mode row) → IsGraphCell d mode (value_of (hidden mode) row)
    graph_cell_of Default row a g = tt
    graph_cell_of (InGraph i) row a g = tt
    graph_cell_of Each row a g =
        let e = place_first None (names Each (p ∷ ps)) row a.size in
        (subst IsTermCell (sym e) (first_typed Each row a None), (g.0, g.1, e ∙ g.2))

    belongs_fits : (mode : Mode) (g : Option Term) → IsIn d mode g → (row : Row) → IsNamedRow n (names mode (p ∷ ps)) row → HasGraphEntry d mode (cells mode row) →
        (alike [] (cells mode row) && belongs mode (length vis) g (proj mode row)) ≡ fits n d mode (pattern_rows mode) g (p ∷ ps) row
    belongs_fits Default g h row a k = ap (λ b. alike [] (cells Default row) && b) (sym (no_entries_fit None (cells Default row) k))
    belongs_fits (InGraph j) g h row a k = ap (λ b. alike [] (cells (InGraph j) row) && b) (sym (no_entries_fit None (cells (InGraph j) row) k))
    belongs_fits Each None h row a k = let e : None ≡ Some h.0 = h.1 in cc
    belongs_fits Each (Some i) h row a k = of (alike [] (cells Each row)) refl
      where
        of : (b : Bool) → alike [] (cells Each row) ≡ b → (b && hidden_is (length vis) i (proj Each row)) ≡ (b && graphs_fit (Some i) (cells Each row))
        of true e = hidden_found (length vis) i k.0 (proj Each row) (cell_at-after (at Each) vis (hidden Each) row ∙ place_first None (names Each (p ∷ ps)) row a.size ∙ k.2)
            ∙ sym (fits_first i k.0 (cells Each row) (are_alike (cells Each row) a.terms e) k.2)
        of false e = refl

    pub patterns_stand : (mode : Mode) → AllStand n d mode (pattern_rows mode) (p ∷ ps) → Stands n d mode vis (rows_of schema (bgp_plan schema rules mode (p ∷ ps)) db) (evaluate n d (Bgp (p ∷ ps)))
    patterns_stand mode h = subst (λ rows. Stands n d mode vis rows (evaluate n d (Bgp (p ∷ ps)))) (sym (plan_rows mode)) (record { are_rows = rows_fine; bag = bag_fine })
      where
        X : List Row
        X = product (map (pattern_rows mode) (p ∷ ps))

        condition : Row → Bool
        condition row = holds (and_of (repeats [] (numbered 0 (names mode (p ∷ ps))))) row

        joined_rows : (mode : Mode) →
            rows_of schema (Project (map (λ x. Col (position_or_len (name_eq x) (names mode (p ∷ ps)))) (map Some vis ++ if_each mode None)) (Join (plans (map (pattern_plan schema rules mode) (p ∷ ps))) (and_of (repeats [] (numbered 0 (names mode (p ∷ ps))))))) db
            ≡ map (proj mode) (filter (λ row. holds (and_of (repeats [] (numbered 0 (names mode (p ∷ ps))))) row) (product (map (pattern_rows mode) (p ∷ ps))))
        joined_rows mode =
            project_rows schema db (map (λ x. Col (position_or_len (name_eq x) (names mode (p ∷ ps)))) (map Some vis ++ if_each mode None)) (Join (plans (map (pattern_plan schema rules mode) (p ∷ ps))) (and_of (repeats [] (numbered 0 (names mode (p ∷ ps))))))
            ∙ (λ i. map (λ row. map (λ e. value_of e row) (columns_are mode i)) (filter (holds (and_of (repeats [] (numbered 0 (names mode (p ∷ ps)))))) (product (rows_each mode (p ∷ ps) i))))

        plan_rows : (mode : Mode) → rows_of schema (bgp_plan schema rules mode (p ∷ ps)) db ≡ map (proj mode) (filter (λ row. holds (and_of (repeats [] (numbered 0 (names mode (p ∷ ps))))) row) (product (map (pattern_rows mode) (p ∷ ps))))
        plan_rows Default = joined_rows Default
        plan_rows (InGraph j) = joined_rows (InGraph j)
        plan_rows Each = joined_rows Each

        named : (row : Row) → Contains X row → IsNamedRow n (names mode (p ∷ ps)) row
        named row c = product_row n d mode (pattern_rows mode) (p ∷ ps) h row c

        rows_fine : (row : Row) → Contains (map (proj mode) (filter condition X)) row → IsRowOf d mode vis row
        rows_fine row c =
            let x = Contains-from_map (proj mode) (filter condition X) row c in
            let y = (Contains-from_filter condition X x.0 x.1).0 in
            subst (IsRowOf d mode vis) x.2 (projected d mode (at mode) vis (hidden mode) x.0
            (λ v. subst IsTermCell (sym (at_is mode x.0 (named x.0 y) v)) (first_typed mode x.0 (named x.0 y) (Some v)))
            (graph_cell_of mode x.0 (named x.0 y) (product_graph n d mode (pattern_rows mode) p ps h x.0 y)))

        bag_fine : (g : Option Term) → IsIn d mode g → IsPermutation (solutions_of n vis (filter (belongs mode (length vis) g) (map (proj mode) (filter condition X)))) (bgp_solutions n (p ∷ ps) (graph_of d g))
        bag_fine g k = IsPermutation-trans _ _ _ (bag_same
            (ap (map (solution_of n vis)) (filter-map (belongs mode (length vis) g) (proj mode) (filter condition X))
            ∙ map-map (solution_of n vis) (proj mode) (filter (λ row. belongs mode (length vis) g (proj mode row)) (filter condition X))
            ∙ ap (map (λ row. solution_of n vis (proj mode row))) (filter-filter (λ row. belongs mode (length vis) g (proj mode row)) condition X
            ∙ filter_agree_on (λ row. condition row && belongs mode (length vis) g (proj mode row)) (fits n d mode (pattern_rows mode) g (p ∷ ps)) X
            (λ row c. ap (λ b. b && belongs mode (length vis) g (proj mode row)) (condition_is mode row (named row c)) ∙ belongs_fits mode g k row (named row c) (product_graph n d mode (pattern_rows mode) p ps h row c)))
            ∙ map_agree_on (λ row. solution_of n vis (proj mode row)) (λ row. without (labels_of (p ∷ ps)) (named_solution n (cells mode row))) (filter (fits n d mode (pattern_rows mode) g (p ∷ ps)) X)
            (λ row c. solution_is mode row (named row (Contains-from_filter (fits n d mode (pattern_rows mode) g (p ∷ ps)) X row c).0))
            ∙ sym (map-map (without (labels_of (p ∷ ps))) (λ row. named_solution n (cells mode row)) (filter (fits n d mode (pattern_rows mode) g (p ∷ ps)) X))))
            (IsPermutation-map (without (labels_of (p ∷ ps))) _ _ (product_bag n d mode (pattern_rows mode) (p ∷ ps) h g k))
