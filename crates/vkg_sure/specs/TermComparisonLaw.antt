-- Its laws: of two terms of which one is no literal `=` is true where they are one term, so that the verdict on them holds of the same rows.
use Rattle.std.proofs.Common.{◌≡◌, ◌∙◌, ◌⊎◌, inl, inr, ◌+◌, ◌<◌, ◌≤◌, ℕ, Bool, true, false, cond, not, ◌&&◌, ◌||◌, List, [], ◌∷◌, ◌++◌, map, length, refl, sym, ap, subst, arith}
use Rattle.std.specs.Prelude.{Option, Some, None, is_some, option_and_then, option_map, replicate, if◌then◌else◌, nat_lt, ◌==◌}
use Rattle.std.specs.List.{AllByRecursion, filter, list_all}
use Rattle.std.proofs.lemmas.Bool.{ltb-true, or_cases}
use Rattle.std.proofs.lemmas.Option.{option_and_then_some}
use Rattle.vkg_lists.proofs.Bags.{bag_same}
use Rattle.vkg_lists.proofs.Bools.{and_parts, not_true}
use Rattle.vkg_lists.proofs.Members.{each_from_recursion, filter_agree_on, recursion_left, recursion_right}
use Rattle.vkg_lists.proofs.Onto.{both_given, map_given}
use Rattle.vkg_lists.proofs.Results.{some_then, then_given}
use Rattle.vkg_lists.specs.Options.{joined}
use Rattle.vkg_terms.specs.declared.term.Term.{Term}
use Rattle.vkg_terms.specs.declared.term.Term.TheVariants.{Iri, Blank, Lit}
use Rattle.vkg_terms.specs.Label.{blank_label}
use Rattle.vkg_terms.specs.Same.{term_eq}
use Rattle.vkg_cells.specs.declared.cell.Cell.{Cell}
use Rattle.vkg_cells.specs.declared.cell.Cell.TheVariants as cell
use Rattle.vkg_cells.specs.declared.cell.SqlType.TheVariants as kind
use Rattle.vkg_cells.specs.Order.{same}
use Rattle.vkg_values.specs.declared.operator.Compare.TheVariants as asks
use Rattle.vkg_values.specs.Known.{known, widest}
use Rattle.vkg_values.specs.Logic.{and3}
use Rattle.vkg_values.specs.Operators.{compare_value, compared_values, equal, equal_where, is_literal, on_two}
use Rattle.vkg_schema.specs.Meets.{IsWellFormed}
use Rattle.vkg_schema.specs.Rows.{Row, is_known_true}
use Rattle.vkg_expr.specs.declared.expr.Operator.TheVariants as op
use Rattle.vkg_expr.specs.Expr.{Expr, Const, MakeIri, MakeBlank, Same, And, Sparql, Nil, More, each, exprs}
use Rattle.vkg_expr.specs.Logic.{and_of}
use Rattle.vkg_expr.specs.Typing.{are_all, arity, equality_kind, is_one, kind_of, kinds_of}
use Rattle.vkg_expr.specs.Value.{holds, term_cell, term_of, text_of, value_of}
use Rattle.vkg_expr.proofs.KindLists.{are_all-more}
use Rattle.vkg_expr.proofs.ReadBack.{truth_back}
use Rattle.vkg_expr.proofs.TypedParts.{one_is}
use Rattle.vkg_columns.proofs.Conjuncts.{AreTruths, IsTruth, and_of-kind, conjuncts-kind, holds-and_of, holds-conjuncts}
use Rattle.vkg_plan.specs.Kinds.{Kinds, Tables, beside_all, checked, kinds_of_each, plan_kinds, width}
use Rattle.vkg_plan.specs.Plan.{Plan, Plans, Select, Join, Left, AntiJoin}
use Rattle.vkg_plan.specs.Rows.{is_alone, left_pairs, pairs, product, rows_of, rows_of_each}
use Rattle.vkg_plan.proofs.RowsFit.{beside_is, checked_parts}
use Rattle.vkg_rules.specs.declared.rewrite.Fell.TheVariants as fell
use Rattle.vkg_rules.specs.InNodes.{IsLawful}
use Rattle.vkg_rules.specs.Measure.{equalities, equalities_each, is_term, kinds_or_none, one_if, or_no_kinds, size, sizes}
use Rattle.vkg_rules.specs.Parts.{checked-is}
use Rattle.vkg_rules.specs.Steps.{FallsAll, IsTyped, KeepsAll, Step}
use Rattle.vkg_conditions.specs.ConditionsLaw.{each-equalities, each-sizes, if_so-given}
use Rattle.vkg_conditions.specs.FirstPlace.{or_cases as either_given}
use Rattle.vkg_conditions.specs.Junctions.{and_joins, equalities-of, size-make, size-of}
use Rattle.vkg_conditions.specs.NodesLaw.{BetterOn}
use Rattle.vkg_conditions.specs.SimplifyCondition.{first_conjunct, in_conjuncts}
use Rattle.vkg_equalities.specs.Decided.{decided}
use Rattle.vkg_equalities.specs.DecidedLaw.{decided-right}
use Rattle.vkg_equalities.specs.TableColumns.{columns_of_each, flag_at, flags_beside, table_columns}
use Rattle.vkg_equalities.specs.TableColumnsLaw.{CellsFit, FitsColumns, cells, pair-cells, product-cells}
use Rattle.vkg_equalities.specs.TermEquality.{condition_columns, condition_kinds}
use Rattle.vkg_sure.specs.TermComparison.{as_same, compared, compared_in, if_smaller, makes_no_literal, node_compared, same_by, same_terms, term_comparison}

-- ---- of two terms of which one is no literal

as_truth : (b : Bool) → (if b then Some true else Some false) ≡ Some b
as_truth true = refl
as_truth false = refl

unknown-second : (o : Option Cell) → compared_values o None ≡ None
unknown-second None = refl
unknown-second (Some c) = refl

first-equal : (most : Option ℕ) (t u : Term) → is_literal t ≡ false → equal most t u ≡ Some (term_eq t u)
first-equal most (Iri s) u h = as_truth (term_eq (Iri s) u)
first-equal most (Blank s) u h = as_truth (term_eq (Blank s) u)
first-equal most (Lit s a) u h = cc

second-equal : (most : Option ℕ) (t u : Term) → is_literal u ≡ false → equal most t u ≡ Some (term_eq t u)
second-equal most (Iri s) u h = first-equal most (Iri s) u refl
second-equal most (Blank s) u h = first-equal most (Blank s) u refl
second-equal most (Lit s a) (Iri r) h = ap (equal_where (Lit s a) (Iri r)) (unknown-second (known most (Lit s a))) ∙ as_truth (term_eq (Lit s a) (Iri r))
second-equal most (Lit s a) (Blank r) h = ap (equal_where (Lit s a) (Blank r)) (unknown-second (known most (Lit s a))) ∙ as_truth (term_eq (Lit s a) (Blank r))
second-equal most (Lit s a) (Lit r b) h = cc

-- a term that is no literal, or NULL
abbrev IsNoLiteral : Cell → Type 0
IsNoLiteral cell.Null = Unit {0}
IsNoLiteral (cell.Term t) = is_literal t ≡ false
IsNoLiteral c = ⊥

abbrev AreEqual : Option ℕ → Cell → Cell → Type 0
AreEqual most c d = is_known_true (on_two (compare_value most asks.Equal) (term_of c) (term_of d)) ≡ is_known_true (same c d)

first-same : (most : Option ℕ) (c d : Cell) → IsNoLiteral c → AreEqual most c d
first-same most cell.Null d h = refl
first-same most (cell.Term t) (cell.Term u) h = ap is_known_true (first-equal most t u h)
first-same most (cell.Term t) _ h = refl
first-same most _ d h = absurd h

second-same : (most : Option ℕ) (c d : Cell) → IsNoLiteral d → AreEqual most c d
second-same most cell.Null d h = refl
second-same most (cell.Term t) (cell.Term u) h = ap is_known_true (second-equal most t u h)
second-same most (cell.Term t) cell.Null h = refl
second-same most _ cell.Null h = refl
second-same most _ (cell.Term u) h = refl
second-same most c _ h = absurd h

iri-none : (o : Option (List ℕ)) → IsNoLiteral (term_cell (option_map Iri o))
iri-none None = tt
iri-none (Some s) = refl

blank-none : (o : Option (List ℕ)) → IsNoLiteral (term_cell (option_map (λ s. Blank (blank_label s)) o))
blank-none None = tt
blank-none (Some s) = refl

none-made : (e : Expr) (row : Row) → makes_no_literal e ≡ true → IsNoLiteral (value_of e row)
none-made (Const (cell.Term t) k) row h = not_true (is_literal t) h
none-made (Const c k) row h = cc
none-made (MakeIri e) row h = iri-none (text_of (value_of e row))
none-made (MakeBlank e) row h = blank-none (text_of (value_of e row))
none-made e row h = cc

-- ---- a comparison

-- the comparison of two, and their equality
abbrev equal_to : Expr → Expr → Expr
equal_to a b = Sparql (op.Compare asks.Equal) (More a (More b Nil))

record IsCompared (c z : Expr) : Type 0 where
  first : Expr
  second : Expr
  is : equal_to first second ≡ c
  made : Same first second ≡ z
  none : (makes_no_literal first || makes_no_literal second) ≡ true

of-terms : (es : _) (z : Expr) → same_terms es ≡ Some z → IsCompared (Sparql (op.Compare asks.Equal) es) z
of-terms (More a (More b Nil)) z h =
    let g = if_so-given (makes_no_literal a || makes_no_literal b) (Same a b) z h in
    record { first = a; second = b; is = refl; made = g.1; none = g.0 }
of-terms _ z h = cc

by-operator : (o : _) (es : _) (z : Expr) → same_by o es ≡ Some z → IsCompared (Sparql o es) z
by-operator (op.Compare asks.Equal) es z h = of-terms es z h
by-operator _ es z h = cc

as-compared : (c z : Expr) → as_same c ≡ Some z → IsCompared c z
as-compared (Sparql o es) z h = by-operator o es z h
as-compared _ z h = cc

equal-holds : (a b : Expr) (row : Row) → (makes_no_literal a || makes_no_literal b) ≡ true → holds (Same a b) row ≡ holds (equal_to a b) row
equal-holds a b row h =
    let va = value_of a row in
    let vb = value_of b row in
    let are : AreEqual widest va vb = elim (or_cases (makes_no_literal a) (makes_no_literal b) h) [
      | inl k ↦ first-same widest va vb (none-made a row k)
      | inr k ↦ second-same widest va vb (none-made b row k)
    ] in
    ap is_known_true (truth_back (same va vb)) ∙ sym are ∙ sym (ap is_known_true (truth_back (on_two (compare_value widest asks.Equal) (term_of va) (term_of vb))))

both-terms : (a b : Expr) (ks : Kinds) → IsTruth ks (equal_to a b) → (kind_of a ks ≡ Some kind.Term) × (kind_of b ks ≡ Some kind.Term)
both-terms a b ks h =
    let es = More a (More b Nil) in
    let g = and_parts (length (each es) == arity (op.Compare asks.Equal)) (are_all kind.Term (kinds_of es ks)) (then_given _ kind.Bool kind.Bool h).0 in
    let f = and_parts (is_one kind.Term (kind_of a ks)) (are_all kind.Term (kinds_of (More b Nil) ks)) (sym (are_all-more kind.Term (kind_of a ks) (kinds_of (More b Nil) ks)) ∙ g.1) in
    let e = and_parts (is_one kind.Term (kind_of b ks)) (are_all kind.Term (kinds_of Nil ks)) (sym (are_all-more kind.Term (kind_of b ks) (kinds_of Nil ks)) ∙ f.1) in
    (one_is kind.Term (kind_of a ks) f.0, one_is kind.Term (kind_of b ks) e.0)

one-most : (b : Bool) → one_if b ≤ 1
one-most true = omega arith
one-most false = omega arith

no-more : (d o a b : ℕ) → d < o + a + b → o ≤ 1 → d ≤ a + (b + 0)
no-more d o a b h k = omega (arith, h, k)

module _ (t : ℕ → Bool) (ks : Kinds) where
  abbrev IsBetter : Expr → Expr → Type 0
  IsBetter = BetterOn (FitsColumns t ks) ks

  equal-better : (a b d : Expr) → IsTruth ks (equal_to a b) → (makes_no_literal a || makes_no_literal b) ≡ true → decided t ks (Same a b) ≡ Some d → size d < size (equal_to a b) → IsBetter (equal_to a b) d
  equal-better a b d typed none h less =
      let k = both-terms a b ks typed in
      let r = decided-right t ks (Same a b) d (λ i. equality_kind (k.0 i) (k.1 i)) h in
      record {
        truth = r.truth;
        same = λ row w. r.same row w ∙ equal-holds a b row none;
        less = less;
        fewer = no-more (equalities ks d) (one_if (is_term (kind_of a ks) && is_term (kind_of b ks))) (equalities ks a) (equalities ks b) r.fewer (one-most (is_term (kind_of a ks) && is_term (kind_of b ks)));
      }

  compared-better : (c d : Expr) → IsTruth ks c → compared t ks c ≡ Some d → IsBetter c d
  compared-better c d typed h = option_and_then_some (if_smaller c) (option_and_then (decided t ks) (as_same c)) d h (λ y i j.
      let g = if_so-given (nat_lt (size y) (size c)) y d j in
      option_and_then_some (decided t ks) (as_same c) y i (λ z k l.
      let m = as-compared c z k in
      subst (λ x. IsBetter x d) m.is
      (equal-better m.first m.second d (subst (IsTruth ks) (sym m.is) typed) m.none
      (ap (decided t ks) m.made ∙ l ∙ ap Some g.1)
      (subst (λ x. size d < size x) (sym m.is) (subst (λ x. size x < size c) g.1 (ltb-true (size y) (size c) g.0))))))

-- ---- the first conjunct that becomes better

module _ (On : Row → Type 0) (ks : Kinds) (f : Expr → Option Expr) (better : (c d : Expr) → IsTruth ks c → f c ≡ Some d → BetterOn On ks c d) where
  record AreBetter (cs ds : List Expr) : Type 0 where
    truths : AreTruths ks ds
    same : (row : Row) → On row → list_all (λ e. holds e row) ds ≡ list_all (λ e. holds e row) cs
    less : sizes (exprs ds) < sizes (exprs cs)
    fewer : equalities_each ks (exprs ds) ≤ equalities_each ks (exprs cs)

  all-better : (cs ds : List Expr) → AreTruths ks cs → first_conjunct f cs ≡ Some ds → AreBetter cs ds
  all-better [] ds t h = cc
  all-better (c ∷ cs) ds t h = elim (either_given (option_map (λ d. d ∷ cs) (f c)) (option_map (λ es. c ∷ es) (first_conjunct f cs)) ds h) [
    | inl i ↦
        let m = map_given (λ d. d ∷ cs) (f c) ds i in
        let b = better c m.0 t.0 m.1 in let x = b.less in let y = b.fewer in
        subst (AreBetter (c ∷ cs)) m.2 (record {
          truths = (b.truth, t.1);
          same = λ row w. ap (λ z. z && list_all (λ e. holds e row) cs) (b.same row w);
          less = omega (arith, x);
          fewer = omega (arith, y);
        })
    | inr i ↦
        let m = map_given (λ es. c ∷ es) (first_conjunct f cs) ds i in
        let b = all-better cs m.0 t.1 m.1 in let x = b.less in let y = b.fewer in
        subst (AreBetter (c ∷ cs)) m.2 (record {
          truths = (t.0, b.truths);
          same = λ row w. ap (λ z. holds c row && z) (b.same row w);
          less = omega (arith, x);
          fewer = omega (arith, y);
        })
  ]

  -- a condition of one conjunct, and one of several
  alone-better : (c d : Expr) → IsTruth ks c → option_map and_of (first_conjunct f (c ∷ [])) ≡ Some d → BetterOn On ks c d
  alone-better c d t h =
      let m = map_given and_of (first_conjunct f (c ∷ [])) d h in
      elim (either_given (option_map (λ x. x ∷ []) (f c)) None m.0 m.1) [
        | inl i ↦
            let n = map_given (λ x. x ∷ []) (f c) m.0 i in
            subst (BetterOn On ks c) (ap and_of n.2 ∙ m.2) (better c n.0 t n.1)
        | inr i ↦ cc
      ]

  several-better : (es : _) (d : Expr) → IsTruth ks (And es) → option_map and_of (first_conjunct f (each es)) ≡ Some d → BetterOn On ks (And es) d
  several-better es d t h =
      let m = map_given and_of (first_conjunct f (each es)) d h in
      let b = all-better (each es) m.0 (conjuncts-kind ks (And es) t) m.1 in
      let u = size-of And and_of and3 true false and_joins m.0 in let v = b.less in let w = each-sizes es in let x = size-make And and_of and3 true false and_joins es in
      let p = equalities-of And and_of and3 true false and_joins ks m.0 in let q = b.fewer in let r = each-equalities ks es in
      subst (BetterOn On ks (And es)) m.2 (record {
        truth = and_of-kind ks m.0 b.truths;
        same = λ row fits. holds-and_of row m.0 ∙ b.same row fits ∙ sym (holds-conjuncts (And es) row);
        less = omega (arith, u, v, w, x);
        fewer = omega (arith, p, q, r);
      })

  conjuncts-better : (c d : Expr) → in_conjuncts f c ≡ Some d → IsTruth ks c → BetterOn On ks c d
  conjuncts-better (And es) d h t = several-better es d t h
  conjuncts-better c d h t = alone-better c d t h

-- over the kinds that the condition is over
in-better : (flags : List Bool) (ks : Kinds) (c d : Expr) → compared_in flags ks c ≡ Some d → IsTruth ks c → BetterOn (FitsColumns (flag_at flags) ks) ks c d
unfolding compared_in
in-better flags ks c d h t = conjuncts-better (FitsColumns (flag_at flags) ks) ks (compared (flag_at flags) ks) (compared-better (flag_at flags) ks) c d h t

node-better : (s : Tables) (p : Plan) (ks : Kinds) (c d : Expr) → condition_kinds s p ≡ Some ks → IsTruth ks c → node_compared s p c ≡ Some d → BetterOn (FitsColumns (flag_at (condition_columns s p)) ks) ks c d
node-better s p ks c d is typed h = in-better (condition_columns s p) ks c d (ap (option_and_then (λ l. compared_in (condition_columns s p) l c)) (sym is) ∙ h) typed

checked-same : (c d : Expr) (o : Option Kinds) (ks : Kinds) → o ≡ Some ks → IsTruth ks c → IsTruth ks d → checked d o ≡ checked c o
checked-same c d o ks is h g = to d g ∙ sym (to c h)
  where
    to : (e : Expr) → IsTruth ks e → checked e o ≡ Some ks
    to e k = ap (checked e) is ∙ ap (λ z. if is_one kind.Bool z then Some ks else None) k

fewer-over : (ks ls : Kinds) (c d : Expr) → ls ≡ ks → equalities ks d ≤ equalities ks c → equalities ls d ≤ equalities ls c
fewer-over ks ls c d is h = subst (λ l. equalities l d ≤ equalities l c) (sym is) h

-- ---- rows

module _ (P : Row → Type 0) (f g : Row → Bool) (same : (row : Row) → P row → f row ≡ g row) where
  filter-on : (xs : List Row) → AllByRecursion P xs → filter f xs ≡ filter g xs
  filter-on xs h = filter_agree_on f g xs (λ x i. same x (each_from_recursion P xs h x i))

  alone-on : (x : Row) (ys : List Row) → AllByRecursion P (map (λ r. x ++ r) ys) → is_alone f ys x ≡ is_alone g ys x
  alone-on x [] h = refl
  alone-on x (y ∷ ys) h = λ i. not (same (x ++ y) h.0 i) && alone-on x ys h.1 i

  all_alone-on : (xs ys : List Row) → AllByRecursion P (pairs xs ys) → filter (is_alone f ys) xs ≡ filter (is_alone g ys) xs
  all_alone-on [] ys h = refl
  all_alone-on (x ∷ xs) ys h =
      let a = alone-on x ys (recursion_left P (map (λ r. x ++ r) ys) (pairs xs ys) h) in
      let b = all_alone-on xs ys (recursion_right P (map (λ r. x ++ r) ys) (pairs xs ys) h) in
      λ i. cond (a i) (x ∷ b i) (b i)

  left-on : (n : ℕ) (xs ys : List Row) → AllByRecursion P (pairs xs ys) → left_pairs f n xs ys ≡ left_pairs g n xs ys
  left-on n xs ys h = λ i. filter-on (pairs xs ys) h i ++ map (λ l. l ++ replicate n cell.Null) (all_alone-on xs ys h i)

-- ---- the laws

module _ (s : Tables) (form : IsWellFormed s) where
  select-lawful : (c : Expr) (p : Plan) (x : Step) → IsTyped s (Select c p) → term_comparison s (Select c p) ≡ Some x → IsLawful s (Select c p) x
  select-lawful c p x typed e =
      let t : ℕ → Bool = flag_at (table_columns s p) in
      let a = checked_parts c (plan_kinds s p) typed in
      let m = map_given (λ (d : Expr). (Select d p, fell.Size)) (node_compared s (Select c p) c) x e in
      let r = node-better s (Select c p) a.0 c m.0 (checked-is c (plan_kinds s p) typed ∙ a.1) a.2 m.1 in
      let l = r.less in
      let n = fewer-over a.0 (kinds_or_none s p) c m.0 (ap or_no_kinds a.1) r.fewer in
      subst (IsLawful s (Select c p)) m.2 (record {
        kinds = checked-same c m.0 (plan_kinds s p) a.0 a.1 a.2 r.truth;
        rows = λ db meets. bag_same (filter-on (FitsColumns t a.0) (holds c) (holds m.0) (λ row f. sym (r.same row f)) (rows_of s p db) (cells s db form meets p a.0 a.1));
        falls = (omega arith, omega (arith, n), omega (arith, l));
      })

  join-lawful : (ps : Plans) (c : Expr) (x : Step) → IsTyped s (Join ps c) → term_comparison s (Join ps c) ≡ Some x → IsLawful s (Join ps c) x
  join-lawful ps c x typed e =
      let t : ℕ → Bool = flag_at (flags_beside (columns_of_each s ps)) in
      let o : Option Kinds = beside_all (kinds_of_each s ps) in
      let a = checked_parts c o typed in
      let b = beside_is (kinds_of_each s ps) a.0 a.1 in
      let m = map_given (λ (d : Expr). (Join ps d, fell.Size)) (node_compared s (Join ps c) c) x e in
      let r = node-better s (Join ps c) a.0 c m.0 (checked-is c o typed ∙ a.1) a.2 m.1 in
      let l = r.less in
      let n = fewer-over a.0 (or_no_kinds o) c m.0 (ap or_no_kinds a.1) r.fewer in
      subst (IsLawful s (Join ps c)) m.2 (record {
        kinds = checked-same c m.0 o a.0 a.1 a.2 r.truth;
        rows = λ db meets. bag_same (filter-on (FitsColumns t a.0) (holds c) (holds m.0) (λ row f. sym (r.same row f)) (product (rows_of_each s ps db))
            (subst (λ z. CellsFit t z (product (rows_of_each s ps db))) b.2 (product-cells s db form meets ps b.0 b.1)));
        falls = (omega arith, omega (arith, n), omega (arith, l));
      })

  left-lawful : (p q : Plan) (c : Expr) (x : Step) → IsTyped s (Left p q c) → term_comparison s (Left p q c) ≡ Some x → IsLawful s (Left p q c) x
  left-lawful p q c x typed e =
      let t : ℕ → Bool = flag_at (table_columns s p ++ table_columns s q) in
      let o : Option Kinds = joined (plan_kinds s p) (plan_kinds s q) in
      let a = checked_parts c o typed in
      let b = both_given (plan_kinds s p) (plan_kinds s q) a.0 a.1 in
      let m = map_given (λ (d : Expr). (Left p q d, fell.Size)) (node_compared s (Left p q c) c) x e in
      let r = node-better s (Left p q c) a.0 c m.0 (checked-is c o typed ∙ a.1) a.2 m.1 in
      let k : kinds_or_none s p ++ kinds_or_none s q ≡ a.0 = (λ i. or_no_kinds (b.1 i) ++ or_no_kinds (b.2.1 i)) ∙ b.2.2 in
      let l = r.less in
      let n = fewer-over a.0 (kinds_or_none s p ++ kinds_or_none s q) c m.0 k r.fewer in
      subst (IsLawful s (Left p q c)) m.2 (record {
        kinds = checked-same c m.0 o a.0 a.1 a.2 r.truth;
        rows = λ db meets. bag_same (left-on (FitsColumns t a.0) (holds c) (holds m.0) (λ row f. sym (r.same row f)) (width s q) (rows_of s p db) (rows_of s q db)
            (subst (λ z. CellsFit t z (pairs (rows_of s p db) (rows_of s q db))) b.2.2
            (pair-cells s db form meets p (table_columns s q) b.0 b.2.0 (rows_of s q db) b.1 (cells s db form meets p b.0 b.1) (cells s db form meets q b.2.0 b.2.1))));
        falls = (omega arith, omega (arith, n), omega (arith, l));
      })

  anti-lawful : (p q : Plan) (c : Expr) (x : Step) → IsTyped s (AntiJoin p q c) → term_comparison s (AntiJoin p q c) ≡ Some x → IsLawful s (AntiJoin p q c) x
  anti-lawful p q c x typed e =
      let t : ℕ → Bool = flag_at (table_columns s p ++ table_columns s q) in
      let o : Option Kinds = joined (plan_kinds s p) (plan_kinds s q) in
      let first = some_then (λ (ks : Kinds). plan_kinds s p) (checked c o) typed in
      let a = checked_parts c o (ap is_some first.1) in
      let b = both_given (plan_kinds s p) (plan_kinds s q) a.0 a.1 in
      let m = map_given (λ (d : Expr). (AntiJoin p q d, fell.Size)) (node_compared s (AntiJoin p q c) c) x e in
      let r = node-better s (AntiJoin p q c) a.0 c m.0 a.1 a.2 m.1 in
      let k : kinds_or_none s p ++ kinds_or_none s q ≡ a.0 = (λ i. or_no_kinds (b.1 i) ++ or_no_kinds (b.2.1 i)) ∙ b.2.2 in
      let l = r.less in
      let n = fewer-over a.0 (kinds_or_none s p ++ kinds_or_none s q) c m.0 k r.fewer in
      subst (IsLawful s (AntiJoin p q c)) m.2 (record {
        kinds = ap (option_and_then (λ (ks : Kinds). plan_kinds s p)) (checked-same c m.0 o a.0 a.1 a.2 r.truth);
        rows = λ db meets. bag_same (all_alone-on (FitsColumns t a.0) (holds c) (holds m.0) (λ row f. sym (r.same row f)) (rows_of s p db) (rows_of s q db)
            (subst (λ z. CellsFit t z (pairs (rows_of s p db) (rows_of s q db))) b.2.2
            (pair-cells s db form meets p (table_columns s q) b.0 b.2.0 (rows_of s q db) b.1 (cells s db form meets p b.0 b.1) (cells s db form meets q b.2.0 b.2.1))));
        falls = (omega arith, omega (arith, n), omega (arith, l));
      })

  lawful : (p : Plan) (x : Step) → IsTyped s p → term_comparison s p ≡ Some x → IsLawful s p x
  lawful (Select c p) x typed e = select-lawful c p x typed e
  lawful (Join ps c) x typed e = join-lawful ps c x typed e
  lawful (Left p q c) x typed e = left-lawful p q c x typed e
  lawful (AntiJoin p q c) x typed e = anti-lawful p q c x typed e
  lawful _ x typed e = cc

pub term_comparison-keeps : KeepsAll term_comparison
term_comparison-keeps s form p x typed e = let g = lawful s form p x typed e in record { kinds = g.kinds; rows = g.rows }

pub term_comparison-falls : FallsAll term_comparison
term_comparison-falls s form p x typed e = (lawful s form p x typed e).falls
