-- Rows with a name for each column.
use Rattle.std.proofs.Common.{◌≡◌, ℕ, zero, suc, ◌+◌, Bool, true, false, ⊎_elim, List, [], ◌∷◌, ◌++◌, map, length, refl, sym, ap, subst, ◌∙◌, arith, true≢false, length-append, drop, append-nil}
use Rattle.std.specs.Prelude.{Option, Some, None, ◌&&◌, Contains, filter, flat_map, if◌then◌else◌, cond, not}
use Rattle.std.specs.Option.{option_map_or}
use Rattle.std.specs.List.{list_all, AllByRecursion as Every, zip, range_with_len, position_or_len}
use Rattle.std.specs.List.Sorted.{IsPermutation}
use Rattle.std.proofs.lemmas.List.Elements.{Contains-append_cases}
use Rattle.std.proofs.lemmas.List.Folds.{list_all-append}
use Rattle.std.proofs.Math.Seq.{drop-append_seam}
use Rattle.std.proofs.lemmas.List.Sorted.{IsPermutation-trans}
use Rattle.vkg_lists.proofs.Bags.{bag_same}
use Rattle.vkg_lists.proofs.Counts.{eq_itself, eq_same}
use Rattle.vkg_lists.proofs.Members.{Contains-none, Contains-here, Contains-there, Contains-from_map, Contains-from_filter, Contains-from_flat_map, each_of_all, recursion_from_each, Contains-only}
use Rattle.vkg_lists.proofs.Rows.{agree_none}
use Rattle.vkg_terms.specs.declared.term.Term.{Term}
use Rattle.vkg_terms.specs.Same.{term_eq}
use Rattle.vkg_terms.proofs.SameLemmas.{terms_apart}
use Rattle.vkg_cells.specs.declared.cell.Cell.TheVariants as cell
use Rattle.vkg_schema.specs.Rows.{Row, cell_at}
use Rattle.vkg_sparql.specs.declared.pattern.TriplePattern.{TriplePattern}
use Rattle.vkg_algebra.specs.Solutions.{Solution, compatible, merge, join_all, unbound}
use Rattle.vkg_algebra.specs.Evaluation.{Dataset, graph_names, graph_of}
use Rattle.vkg_algebra.specs.Patterns.{pattern_solutions}
use Rattle.vkg_expr.specs.Value.{term_of}
use Rattle.vkg_plan.specs.Rows.{product}
use Rattle.vkg_unfolded.specs.Unfolded.{Name, name_eq, numbered, pattern_names}
use Rattle.vkg_unfolded.specs.declared.mode.Mode.{Mode}
use Rattle.vkg_unfolded.specs.declared.mode.Mode.TheVariants.{Each}
use Rattle.vkg_unfolded.specs.StandsFor.{IsIn}
use Rattle.vkg_unfolded.specs.FineRows.{IsNarrow}
use Rattle.vkg_answers.proofs.Joins.{agree, join_rows, bag_join}
use Rattle.vkg_answers.proofs.Splits.{pairs_split}
use Rattle.vkg_answers.proofs.Entries.{Entry, entry, first, alike, named_solution, AreTerms}
use Rattle.vkg_answers.proofs.Links.{first_cases, solution-append, names_agree, links, NamesBelow, alike-append, terms-append}

-- the row after these columns
abbrev pub rest_of : List Name → Row → Row
rest_of ns row = drop (length ns) row

pub rest_is : (ns : List Name) (l r : Row) → length l ≡ length ns → rest_of ns (l ++ r) ≡ r
rest_is ns l r e = ap (λ n. drop n (l ++ r)) (sym e) ∙ drop-append_seam l r

pub cells-append : (ns ms : List Name) (l r : Row) → length l ≡ length ns → zip (ns ++ ms) (l ++ r) ≡ zip ns l ++ zip ms r
cells-append [] ms [] r e = refl
cells-append [] ms (c ∷ l) r e = absurd (omega arith)
cells-append (x ∷ ns) ms [] r e = absurd (omega arith)
cells-append (x ∷ ns) ms (c ∷ l) r e = ap (λ zs. (x, c) ∷ zs) (cells-append ns ms l r (omega arith))

pub front_is : (ns : List Name) (l r : Row) → length l ≡ length ns → zip ns (l ++ r) ≡ zip ns l
front_is ns l r e = ap (λ ms. zip ms (l ++ r)) (sym (append-nil ns)) ∙ cells-append ns [] l r e ∙ append-nil (zip ns l)

-- the column of a name's first place
pub place_first : (x : Name) (ns : List Name) (row : Row) → length row ≡ length ns → cell_at row (position_or_len (name_eq x) ns) ≡ first x (zip ns row)
place_first x [] [] e = refl
place_first x [] (c ∷ row) e = absurd (omega arith)
place_first x (y ∷ ns) [] e = absurd (omega arith)
place_first x (y ∷ ns) (c ∷ row) e = of (place_first x ns row (omega arith)) (name_eq x y)
  where
    next : 1 + position_or_len (name_eq x) ns ≡ suc (position_or_len (name_eq x) ns)
    next = omega arith

    of : cell_at row (position_or_len (name_eq x) ns) ≡ first x (zip ns row) → (b : Bool) →
        cell_at (c ∷ row) (cond (not b) (1 + position_or_len (name_eq x) ns) 0) ≡ (if b then c else first x (zip ns row))
    of rest true = refl
    of rest false = ap (cell_at (c ∷ row)) next ∙ rest

-- the numbered names over a row
pub numbered_cells : (whole : Row) (ns : List Name) (row : Row) (k : ℕ) → length row ≡ length ns → ((j m : ℕ) → m ≡ k + j → cell_at whole m ≡ cell_at row j) → map (entry whole) (numbered k ns) ≡ zip ns row
numbered_cells whole [] row k e h = refl
numbered_cells whole (x ∷ ns) [] k e h = absurd (omega arith)
numbered_cells whole (x ∷ ns) (c ∷ row) k e h = λ i. (x, h 0 k (omega arith) i) ∷ numbered_cells whole ns row (suc k) (omega arith) (λ j m f. h (suc j) m (omega arith)) i

-- ---- the hidden graph among the entries

abbrev pub hidden_in : Mode → Option Term → Option Term
hidden_in Each g = g
hidden_in mode g = None

abbrev pub graph_fits : Option Term → Entry → Bool
graph_fits o (Some v, c) = true
graph_fits None (None, c) = false
graph_fits (Some i) (None, c) = option_map_or (term_eq i) (term_of c) false

abbrev pub graphs_fit : Option Term → List Entry → Bool
graphs_fit o zs = list_all (graph_fits o) zs

pub fits_term : (o : Option Term) (x : Entry) → x.0 ≡ None → graph_fits o x ≡ true → (i : Term) × (o ≡ Some i) × (term_of x.1 ≡ Some i)
fits_term o (Some v, c) e h = cc
fits_term None (None, c) e h = absurd (true≢false (sym h))
fits_term (Some i) (None, c) e h = (i, refl, of (term_of c) h)
  where
    of : (o : Option Term) → option_map_or (term_eq i) o false ≡ true → o ≡ Some i
    of None k = absurd (true≢false (sym k))
    of (Some t) k = ap Some (sym (eq_same terms_apart i t k))

graphs_agree : (o : Option Term) (zs ws : List Entry) → graphs_fit o zs ≡ true → graphs_fit o ws ≡ true → names_agree zs ws None ≡ true
graphs_agree o zs ws h k = ⊎_elim
    (λ e. ap (λ c. agree (term_of c) (term_of (first None ws))) e)
    (λ r. ⊎_elim
    (λ e. ap (λ c. agree (term_of (first None zs)) (term_of c)) e ∙ agree_none term_eq (term_of (first None zs)))
    (λ s.
    let t = fits_term o r.0 (sym r.2) (each_of_all (graph_fits o) zs h r.0 r.1) in
    let u = fits_term o s.0 (sym s.2) (each_of_all (graph_fits o) ws k s.0 s.1) in
    let left : term_of (first None zs) ≡ Some t.0 = ap term_of r.3 ∙ t.2 in
    let right : term_of (first None ws) ≡ Some t.0 = ap term_of s.3 ∙ u.2 ∙ sym u.1 ∙ t.1 in
    (λ i. agree (left i) (right i)) ∙ eq_itself terms_apart t.0)
    (first_cases None ws))
    (first_cases None zs)

-- ---- rows of one pattern and of several

abbrev pub HasGraphEntry : Dataset → Mode → List Entry → Type 0
HasGraphEntry d Each zs = (i : Term) × Contains (graph_names d) i × (first None zs ≡ cell.Term i)
HasGraphEntry d mode zs = (x : Entry) → Contains zs x → x.0 ≡ None → ⊥

-- a row with these names
pub record IsNamedRow (n : ℕ) (ns : List Name) (row : Row) : Type 0 where
  pub size : length row ≡ length ns
  pub terms : AreTerms (zip ns row)
  pub narrow : (x : Entry) → Contains (zip ns row) x → IsNarrow (term_of x.1)
  pub below : NamesBelow n (zip ns row)

pub record IsPatternRow (n : ℕ) (d : Dataset) (mode : Mode) (ns : List Name) (row : Row) : Type 0 where
  pub named : IsNamedRow n ns row
  pub alone : alike [] (zip ns row) ≡ true
  pub graph : HasGraphEntry d mode (zip ns row)

-- the rows of a triple pattern, and in each graph its solutions
pub record PatternStands (n : ℕ) (d : Dataset) (mode : Mode) (p : TriplePattern) (rows : List Row) : Type 0 where
  pub are_rows : (row : Row) → Contains rows row → IsPatternRow n d mode (pattern_names mode p) row
  pub bag : (g : Option Term) → IsIn d mode g →
      IsPermutation (map (λ row. named_solution n (zip (pattern_names mode p) row)) (filter (λ row. graphs_fit (hidden_in mode g) (zip (pattern_names mode p) row)) rows)) (pattern_solutions n p (graph_of d g))

pub named_row-append : (n : ℕ) (ns ms : List Name) (l r : Row) → IsNamedRow n ns l → IsNamedRow n ms r → IsNamedRow n (ns ++ ms) (l ++ r)
named_row-append n ns ms l r p q =
    let whole = sym (cells-append ns ms l r p.size) in
    record {
      size = omega (arith, p.size, q.size, length-append l r, length-append ns ms);
      terms = subst AreTerms whole (terms-append (zip ns l) (zip ms r) p.terms q.terms);
      narrow = λ x c. ⊎_elim (p.narrow x) (q.narrow x) (Contains-append_cases (zip ns l) (zip ms r) x (subst (λ zs. Contains zs x) (sym whole) c));
      below = λ x c. ⊎_elim (p.below x) (q.below x) (Contains-append_cases (zip ns l) (zip ms r) x (subst (λ zs. Contains zs x) (sym whole) c));
    }

nothing_named : (n : ℕ) → IsNamedRow n [] []
nothing_named n = record { size = refl; terms = λ x c. absurd (Contains-none x c); narrow = λ x c. absurd (Contains-none x c); below = λ x c. absurd (Contains-none x c) }

pub unbound_is : (n k : ℕ) → unbound n ≡ map (λ v. None) (range_with_len k n)
unbound_is zero k = refl
unbound_is (suc n) k = ap (λ s. None ∷ s) (unbound_is n (k + 1))

-- the names of several patterns
abbrev pub names : Mode → List TriplePattern → List Name
names mode ps = flat_map (pattern_names mode) ps

module _ (n : ℕ) (d : Dataset) (mode : Mode) (R : TriplePattern → List Row) where
  abbrev pub fits : Option Term → List TriplePattern → Row → Bool
  fits g ps row = alike [] (zip (names mode ps) row) && graphs_fit (hidden_in mode g) (zip (names mode ps) row)

  pub product_row : (ps : List TriplePattern) → ((p : TriplePattern) → Contains ps p → PatternStands n d mode p (R p)) → (row : Row) → Contains (product (map R ps)) row → IsNamedRow n (names mode ps) row
  product_row [] h row c = subst (IsNamedRow n []) (Contains-only {A = Row} [] row c) (nothing_named n)
  product_row (p ∷ ps) h row c =
      let y = Contains-from_flat_map (λ l. map (λ r. l ++ r) (product (map R ps))) (R p) row c in
      let z = Contains-from_map (λ r. y.0 ++ r) (product (map R ps)) row y.2 in
      subst (IsNamedRow n (names mode (p ∷ ps))) z.2
      (named_row-append n (pattern_names mode p) (names mode ps) y.0 z.0 ((h p (Contains-here p ps)).are_rows y.0 y.1).named (product_row ps (λ q k. h q (Contains-there p ps q k)) z.0 z.1))

  truths : (a c m hz hw : Bool) → (hz ≡ true → hw ≡ true → m ≡ true) → (((true && a) && (c && m)) && (hz && hw)) ≡ ((hz && (a && hw)) && c)
  truths true true m true true h = Prim.rw (h refl refl) refl
  truths true true true true false h = refl
  truths true true false true false h = refl
  truths true true true false hw h = refl
  truths true true false false hw h = refl
  truths true false m true true h = refl
  truths true false m true false h = refl
  truths true false m false hw h = refl
  truths false c m true hw h = refl
  truths false c m false hw h = refl

  pub product_bag : (ps : List TriplePattern) → ((p : TriplePattern) → Contains ps p → PatternStands n d mode p (R p)) → (g : Option Term) → IsIn d mode g →
      IsPermutation (map (λ row. named_solution n (zip (names mode ps) row)) (filter (fits g ps) (product (map R ps)))) (join_all n (map (λ p. pattern_solutions n p (graph_of d g)) ps))
  product_bag [] h g k = bag_same (ap (λ s. s ∷ []) (sym (unbound_is n 0)))
  product_bag (p ∷ ps) h g k =
      IsPermutation-trans _ _ _ (bag_same
      (ap (map solution) (pairs_split P Q kl (fits g ps) pass (λ row. alike [] (cells row)) (λ row. graphs_fit (hidden_in mode g) (cells row)) split (R p) (product (map R ps)) every_left every_right)
      ∙ join_rows P Q (λ l. named_solution n (zip ns l)) (λ r. named_solution n (zip (names mode ps) r)) solution pass agrees merged
      (filter kl (R p)) (filter (fits g ps) (product (map R ps))) (recursion_from_each _ (filter kl (R p)) (λ row c. here.are_rows row (Contains-from_filter kl (R p) row c).0))
      (recursion_from_each _ (filter (fits g ps) (product (map R ps))) (λ row c. product_row ps more row (Contains-from_filter (fits g ps) (product (map R ps)) row c).0))))
      (bag_join (here.bag g k) (product_bag ps more g k))
    where
      ns : List Name
      ns = pattern_names mode p

      here : PatternStands n d mode p (R p)
      here = h p (Contains-here p ps)

      more : (q : TriplePattern) → Contains ps q → PatternStands n d mode q (R q)
      more q c = h q (Contains-there p ps q c)

      P : Row → Type 0
      P l = IsPatternRow n d mode ns l

      Q : Row → Type 0
      Q r = IsNamedRow n (names mode ps) r

      cells : Row → List Entry
      cells row = zip (names mode (p ∷ ps)) row

      solution : Row → Solution
      solution row = named_solution n (cells row)

      kl : Row → Bool
      kl l = graphs_fit (hidden_in mode g) (zip ns l)

      pass : Row → Bool
      pass row = compatible (named_solution n (zip ns row)) (named_solution n (zip (names mode ps) (rest_of ns row)))

      agrees : (l r : Row) → P l → Q r → pass (l ++ r) ≡ compatible (named_solution n (zip ns l)) (named_solution n (zip (names mode ps) r))
      agrees l r a b = λ i. compatible (named_solution n (front_is ns l r a.named.size i)) (named_solution n (zip (names mode ps) (rest_is ns l r a.named.size i)))

      merged : (l r : Row) → P l → Q r → solution (l ++ r) ≡ merge (named_solution n (zip ns l)) (named_solution n (zip (names mode ps) r))
      merged l r a b = ap (named_solution n) (cells-append ns (names mode ps) l r a.named.size) ∙ solution-append n (zip ns l) (zip (names mode ps) r) a.named.terms

      split : (l r : Row) → P l → Q r → (alike [] (cells (l ++ r)) && graphs_fit (hidden_in mode g) (cells (l ++ r))) ≡ ((kl l && fits g ps r) && pass (l ++ r))
      split l r a b =
          let zs = zip ns l in
          let ws = zip (names mode ps) r in
          let o = hidden_in mode g in
          (λ i. alike [] (cells-append ns (names mode ps) l r a.named.size i) && graphs_fit o (cells-append ns (names mode ps) l r a.named.size i))
          ∙ (λ i. (alike-append n zs ws a.named.terms b.terms a.named.below ∙ ap (λ x. (x && alike [] ws) && links n zs ws) a.alone) i && list_all-append (graph_fits o) zs ws i)
          ∙ truths (alike [] ws) (compatible (named_solution n zs) (named_solution n ws)) (names_agree zs ws None) (graphs_fit o zs) (graphs_fit o ws) (graphs_agree o zs ws)
          ∙ ap (λ x. (graphs_fit o zs && (alike [] ws && graphs_fit o ws)) && x) (sym (agrees l r a b))

      every_left : Every P (R p)
      every_left = recursion_from_each _ (R p) here.are_rows

      every_right : Every Q (product (map R ps))
      every_right = recursion_from_each _ (product (map R ps)) (product_row ps more)
