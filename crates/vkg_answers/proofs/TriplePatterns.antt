-- A triple pattern's plan stands for its solutions.
use Rattle.std.proofs.Common.{◌≡◌, ℕ, ◌+◌, ◌<◌, Bool, true, ⊎_elim, List, [], ◌∷◌, ◌++◌, map, length, refl, sym, ap, subst, ◌∙◌, arith}
use Rattle.std.specs.Prelude.{Option, Some, None, ◌&&◌, Contains, if◌then◌else◌}
use Rattle.std.proofs.lemmas.List.Elements.{Contains-append_cases, Contains-append_left, Contains-append_right}
use Rattle.std.specs.List.{zip}
use Rattle.vkg_lists.proofs.Counts.{eq_same}
use Rattle.vkg_lists.proofs.Members.{Contains-none, Contains-here, Contains-there, Contains-cons_cases, map_agree_on, each_of_all, Contains-cond, Contains-only}
use Rattle.vkg_lists.proofs.Bools.{and_parts, same_truth}
use Rattle.vkg_terms.specs.declared.term.Term.{Term}
use Rattle.vkg_terms.specs.NQuads.{Quad}
use Rattle.vkg_terms.proofs.SameLemmas.{terms_apart}
use Rattle.vkg_cells.specs.declared.cell.Cell.{Cell}
use Rattle.vkg_cells.specs.declared.cell.Cell.TheVariants as cell
use Rattle.vkg_schema.specs.Rows.{Row}
use Rattle.vkg_sparql.specs.declared.pattern.Node.{Node}
use Rattle.vkg_sparql.specs.declared.pattern.Node.TheVariants.{Variable, Label, Fixed}
use Rattle.vkg_sparql.specs.declared.pattern.TriplePattern.{TriplePattern}
use Rattle.vkg_algebra.specs.Patterns.{triple_solutions}
use Rattle.vkg_algebra.specs.Solutions.{Solution, lookup}
use Rattle.vkg_algebra.specs.Evaluation.{Dataset}
use Rattle.vkg_algebra.proofs.MapLemmas.{solution_test}
use Rattle.vkg_algebra.specs.Answer.{solution_eq}
use Rattle.vkg_algebra.specs.Laws.{node_numbers, pattern_numbers}
use Rattle.vkg_expr.specs.Value.{term_of, term_cell}
use Rattle.vkg_plan.specs.Rows.{one_row}
use Rattle.vkg_plan.proofs.CellLemmas.{rows_apart}
use Rattle.vkg_unfolded.specs.declared.mode.Mode.{Mode}
use Rattle.vkg_unfolded.specs.Unfolded.{Name}
use Rattle.vkg_unfolded.specs.StandsFor.{IsIn}
use Rattle.vkg_answers.proofs.Reading.{lookup-upto}
use Rattle.vkg_answers.proofs.Entries.{Entry, first, alike, named_term, named_solution, AreTerms, AreAlike}
use Rattle.vkg_answers.proofs.Links.{first_there, first_alike, are_alike}
use Rattle.vkg_answers.proofs.Columns.{hidden_in, graph_fits, graphs_fit, fits_term, IsPatternRow}
use Rattle.vkg_answers.proofs.Quads.{NodeBelow, node_entries, node_ok, node_terms, pattern_entries, pattern_ok, quad_solutions_are, entry_from}

-- ---- the solutions of a quad

named_lookup : (n : ℕ) (zs : List Entry) (v : ℕ) → v < n → lookup (named_solution n zs) v ≡ term_of (first (Some v) zs)
named_lookup n zs v h = lookup-upto (named_term zs) n 0 v h ∙ ap (named_term zs) (let e : 0 + v ≡ v = omega arith in e)

variable_same : (n v : ℕ) (t u : Term) (zs ws : List Entry) → v < n → AreAlike zs → AreAlike ws → Contains zs (Some v, cell.Term t) → Contains ws (Some v, cell.Term u) → named_solution n zs ≡ named_solution n ws → t ≡ u
variable_same n v t u zs ws h a b c d e =
    let f : Some t ≡ Some u =
    sym (ap term_of (first_alike zs a (Some v, cell.Term t) c)) ∙ sym (named_lookup n zs v h) ∙ ap (λ s. lookup s v) e ∙ named_lookup n ws v h ∙ ap term_of (first_alike ws b (Some v, cell.Term u) d) in
    cc

node_same : (n : ℕ) (x : Node) → NodeBelow n x → (t u : Term) (zs ws : List Entry) → AreAlike zs → AreAlike ws →
    ((e : Entry) → Contains (node_entries x (cell.Term t)) e → Contains zs e) → ((e : Entry) → Contains (node_entries x (cell.Term u)) e → Contains ws e) →
    named_solution n zs ≡ named_solution n ws → node_ok x (cell.Term t) ≡ true → node_ok x (cell.Term u) ≡ true → t ≡ u
node_same n (Variable v) h t u zs ws a b c d e k l = variable_same n v t u zs ws h a b (c (Some v, cell.Term t) (Contains-here (Some v, cell.Term t) [])) (d (Some v, cell.Term u) (Contains-here (Some v, cell.Term u) [])) e
node_same n (Label v) h t u zs ws a b c d e k l = variable_same n v t u zs ws h a b (c (Some v, cell.Term t) (Contains-here (Some v, cell.Term t) [])) (d (Some v, cell.Term u) (Contains-here (Some v, cell.Term u) [])) e
node_same n (Fixed w) h t u zs ws a b c d e k l = sym (eq_same terms_apart w t k) ∙ eq_same terms_apart w u l

pub entries_terms : (p : TriplePattern) (s t u : Term) → AreTerms (pattern_entries p (cell.Term s) (cell.Term t) (cell.Term u))
entries_terms p s t u x k =
    entry_from p (cell.Term s) (cell.Term t) (cell.Term u) x (node_terms p.subject s x) (node_terms p.predicate t x) (node_terms p.object u x) k

numbers_below : (n : ℕ) (x : Node) → NodeBelow n x → (v : ℕ) → Contains (node_numbers x) v → v < n
numbers_below n (Variable w) h v c = subst (λ u. u < n) (Contains-only w v c) h
numbers_below n (Label w) h v c = subst (λ u. u < n) (Contains-only w v c) h
numbers_below n (Fixed t) h v c = absurd (Contains-none v c)

module _ (n : ℕ) (p : TriplePattern) (below : NodeBelow n p.subject × NodeBelow n p.predicate × NodeBelow n p.object) where
  abbrev entries : Quad → List Entry
  entries q = pattern_entries p (cell.Term q.subject) (cell.Term q.predicate) (cell.Term q.object)

  abbrev solved : Quad → Bool
  solved q = pattern_ok p (cell.Term q.subject) (cell.Term q.predicate) (cell.Term q.object) && alike [] (entries q)

  solutions_are : (q : Quad) → triple_solutions n p q ≡ (if solved q then named_solution n (entries q) ∷ [] else [])
  solutions_are q = quad_solutions_are n p below q.subject q.predicate q.object q.graph

  pub pattern_below : (v : ℕ) → Contains (pattern_numbers p) v → v < n
  pattern_below v c = ⊎_elim (numbers_below n p.subject below.0 v)
      (λ k. ⊎_elim (numbers_below n p.predicate below.1 v) (numbers_below n p.object below.2 v) (Contains-append_cases (node_numbers p.predicate) (node_numbers p.object) v k))
      (Contains-append_cases (node_numbers p.subject) (node_numbers p.predicate ++ node_numbers p.object) v c)

  pub quad_apart : (q r : Quad) (s : Solution) → q.graph ≡ r.graph → Contains (triple_solutions n p q) s → Contains (triple_solutions n p r) s → q ≡ r
  quad_apart q r s g c d =
      let a = Contains-cond (solved q) (named_solution n (entries q)) s (subst (λ l. Contains l s) (solutions_are q) c) in
      let b = Contains-cond (solved r) (named_solution n (entries r)) s (subst (λ l. Contains l s) (solutions_are r) d) in
      let same = a.1 ∙ sym b.1 in
      let a2 = and_parts (pattern_ok p (cell.Term q.subject) (cell.Term q.predicate) (cell.Term q.object)) (alike [] (entries q)) a.0 in
      let b2 = and_parts (pattern_ok p (cell.Term r.subject) (cell.Term r.predicate) (cell.Term r.object)) (alike [] (entries r)) b.0 in
      let aq = are_alike (entries q) (entries_terms p q.subject q.predicate q.object) a2.1 in
      let ar = are_alike (entries r) (entries_terms p r.subject r.predicate r.object) b2.1 in
      let oq = and_parts (node_ok p.subject (cell.Term q.subject)) (node_ok p.predicate (cell.Term q.predicate) && (node_ok p.object (cell.Term q.object) && true)) a2.0 in
      let or = and_parts (node_ok p.subject (cell.Term r.subject)) (node_ok p.predicate (cell.Term r.predicate) && (node_ok p.object (cell.Term r.object) && true)) b2.0 in
      let oq2 = and_parts (node_ok p.predicate (cell.Term q.predicate)) (node_ok p.object (cell.Term q.object) && true) oq.1 in
      let or2 = and_parts (node_ok p.predicate (cell.Term r.predicate)) (node_ok p.object (cell.Term r.object) && true) or.1 in
      let oq3 = and_parts (node_ok p.object (cell.Term q.object)) true oq2.1 in
      let or3 = and_parts (node_ok p.object (cell.Term r.object)) true or2.1 in
      let e0 = node_same n p.subject below.0 q.subject r.subject (entries q) (entries r) aq ar (in_subject q) (in_subject r) same oq.0 or.0 in
      let e1 = node_same n p.predicate below.1 q.predicate r.predicate (entries q) (entries r) aq ar (in_predicate q) (in_predicate r) same oq2.0 or2.0 in
      let e2 = node_same n p.object below.2 q.object r.object (entries q) (entries r) aq ar (in_object q) (in_object r) same oq3.0 or3.0 in
      λ i. record { subject = e0 i; predicate = e1 i; object = e2 i; graph = g i }
    where
      in_subject : (q : Quad) (e : Entry) → Contains (node_entries p.subject (cell.Term q.subject)) e → Contains (entries q) e
      in_subject q e c = Contains-append_left (node_entries p.subject (cell.Term q.subject)) (node_entries p.predicate (cell.Term q.predicate) ++ (node_entries p.object (cell.Term q.object) ++ [])) e c

      in_predicate : (q : Quad) (e : Entry) → Contains (node_entries p.predicate (cell.Term q.predicate)) e → Contains (entries q) e
      in_predicate q e c = Contains-append_right (node_entries p.subject (cell.Term q.subject)) (node_entries p.predicate (cell.Term q.predicate) ++ (node_entries p.object (cell.Term q.object) ++ [])) e
          (Contains-append_left (node_entries p.predicate (cell.Term q.predicate)) (node_entries p.object (cell.Term q.object) ++ []) e c)

      in_object : (q : Quad) (e : Entry) → Contains (node_entries p.object (cell.Term q.object)) e → Contains (entries q) e
      in_object q e c = Contains-append_right (node_entries p.subject (cell.Term q.subject)) (node_entries p.predicate (cell.Term q.predicate) ++ (node_entries p.object (cell.Term q.object) ++ [])) e
          (Contains-append_right (node_entries p.predicate (cell.Term q.predicate)) (node_entries p.object (cell.Term q.object) ++ []) e (Contains-append_left (node_entries p.object (cell.Term q.object)) [] e c))

-- ---- rows with the same solution are one row

-- a row is its first cells by name
row_back : (zs : List Entry) (ns : List Name) (row : Row) → length row ≡ length ns → ((e : Entry) → Contains (zip ns row) e → first e.0 zs ≡ e.1) → map (λ m. first m zs) ns ≡ row
row_back zs [] [] e h = refl
row_back zs [] (c ∷ row) e h = absurd (omega arith)
row_back zs (m ∷ ns) [] e h = absurd (omega arith)
row_back zs (m ∷ ns) (c ∷ row) e h = λ i. h (m, c) (Contains-here (m, c) (zip ns row)) i ∷ row_back zs ns row (omega arith) (λ x k. h x (Contains-there (m, c) (zip ns row) x k)) i

has_cell : (ns : List Name) (row : Row) (m : Name) → length row ≡ length ns → Contains ns m → (c : Cell) × Contains (zip ns row) (m, c)
has_cell [] row m e h = absurd (Contains-none m h)
has_cell (k ∷ ns) [] m e h = absurd (omega arith)
has_cell (k ∷ ns) (c ∷ row) m e h = ⊎_elim
    (λ f. (c, ap_here f))
    (λ g. let r = has_cell ns row m (omega arith) g in (r.0, Contains-there (k, c) (zip ns row) (m, r.0) r.1))
    (Contains-cons_cases k ns m h)
  where
    ap_here : k ≡ m → Contains ((k, c) ∷ zip ns row) (m, c)
    ap_here f = subst (λ j. Contains ((k, c) ∷ zip ns row) (j, c)) f (Contains-here (k, c) (zip ns row))

module _ (n : ℕ) (d : Dataset) (mode : Mode) (ns : List Name) where
  named_first : (row : Row) → IsPatternRow n d mode ns row → (m : Name) → Contains ns m → first m (zip ns row) ≡ term_cell (term_of (first m (zip ns row)))
  named_first row a m c =
      let r = has_cell ns row m a.named.size c in
      let s = first_there m (zip ns row) (m, r.0) r.1 refl in
      let t = a.named.terms s.0 s.1 in
      let e : first m (zip ns row) ≡ cell.Term t.0 = s.3 ∙ t.1 in
      e ∙ ap (λ z. term_cell (term_of z)) (sym e)

  row_alike : (row : Row) → IsPatternRow n d mode ns row → AreAlike (zip ns row)
  row_alike row a = are_alike (zip ns row) a.named.terms a.alone

  pub solution_says : (g : Option Term) → IsIn d mode g → (x y : Row) → IsPatternRow n d mode ns x → IsPatternRow n d mode ns y →
      graphs_fit (hidden_in mode g) (zip ns x) ≡ true → graphs_fit (hidden_in mode g) (zip ns y) ≡ true →
      solution_eq (named_solution n (zip ns x)) (named_solution n (zip ns y)) ≡ one_row x y
  solution_says g h x y a b k l = same_truth (solution_eq (named_solution n (zip ns x)) (named_solution n (zip ns y))) (one_row x y)
      (λ e. (rows_apart.decides x y).1 (equal (eq_same solution_test (named_solution n (zip ns x)) (named_solution n (zip ns y)) e)))
      (λ e. (solution_test.decides (named_solution n (zip ns x)) (named_solution n (zip ns y))).1 (ap (λ r. named_solution n (zip ns r)) ((rows_apart.decides x y).0 e)))
    where
      zs : List Entry
      zs = zip ns x

      ws : List Entry
      ws = zip ns y

      terms_at : named_solution n zs ≡ named_solution n ws → (m : Name) → Contains ns m → term_of (first m zs) ≡ term_of (first m ws)
      terms_at e None c =
          let r = has_cell ns x None a.named.size c in
          let s = has_cell ns y None b.named.size c in
          let t = fits_term (hidden_in mode g) (None, r.0) refl (each_of_all (graph_fits (hidden_in mode g)) zs k (None, r.0) r.1) in
          let u = fits_term (hidden_in mode g) (None, s.0) refl (each_of_all (graph_fits (hidden_in mode g)) ws l (None, s.0) s.1) in
          ap term_of (first_alike zs (row_alike x a) (None, r.0) r.1) ∙ t.2 ∙ sym t.1 ∙ u.1 ∙ sym u.2 ∙ sym (ap term_of (first_alike ws (row_alike y b) (None, s.0) s.1))
      terms_at e (Some v) c =
          let r = has_cell ns x (Some v) a.named.size c in
          let within = a.named.below (Some v, r.0) r.1 v refl in
          sym (named_lookup n zs v within) ∙ ap (λ s. lookup s v) e ∙ named_lookup n ws v within

      equal : named_solution n zs ≡ named_solution n ws → x ≡ y
      equal e =
          sym (row_back zs ns x a.named.size (λ z c. first_alike zs (row_alike x a) z c))
          ∙ map_agree_on (λ m. first m zs) (λ m. first m ws) ns (λ m c. named_first x a m c ∙ ap term_cell (terms_at e m c) ∙ sym (named_first y b m c))
          ∙ row_back ws ns y b.named.size (λ z c. first_alike ws (row_alike y b) z c)
