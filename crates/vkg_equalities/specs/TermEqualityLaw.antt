-- Its laws: in columns of tables stand cells that verdicts are exact of, and a verdict asks no two terms to be the same.
use Rattle.std.proofs.Common.{◌≡◌, ◌∙◌, ◌+◌, ◌<◌, ◌≤◌, inl, inr, ℕ, Bool, cond, not, List, [], ◌∷◌, ◌++◌, map, refl, sym, ap, subst, arith}
use Rattle.std.specs.Prelude.{Option, Some, None, is_some, option_and_then, option_map, replicate, ◌&&◌, if◌then◌else◌}
use Rattle.std.specs.List.{AllByRecursion, filter, list_all}
use Rattle.vkg_lists.proofs.Bags.{bag_same}
use Rattle.vkg_lists.proofs.Members.{each_from_recursion, filter_agree_on, recursion_left, recursion_right}
use Rattle.vkg_lists.proofs.Onto.{both_given, map_given}
use Rattle.vkg_lists.proofs.Results.{some_then}
use Rattle.vkg_lists.specs.Options.{joined}
use Rattle.vkg_cells.specs.declared.cell.Cell.TheVariants as cell
use Rattle.vkg_cells.specs.declared.cell.SqlType.TheVariants as kind
use Rattle.vkg_schema.specs.Meets.{IsWellFormed}
use Rattle.vkg_schema.specs.Rows.{Row}
use Rattle.vkg_expr.specs.Expr.{Expr, Exprs, And, each, exprs}
use Rattle.vkg_expr.specs.Expr as expr
use Rattle.vkg_expr.specs.Logic.{and_of, conjuncts}
use Rattle.vkg_expr.specs.Typing.{is_one}
use Rattle.vkg_expr.specs.Value.{holds}
use Rattle.vkg_columns.proofs.Conjuncts.{AreTruths, IsTruth, and_of-kind, conjuncts-kind, holds-and_of, holds-conjuncts}
use Rattle.vkg_plan.specs.Kinds.{Kinds, Tables, beside_all, checked, kinds_of_each, plan_kinds, width}
use Rattle.vkg_plan.specs.Plan.{Plan, Plans, Select, Join, Left, AntiJoin}
use Rattle.vkg_plan.specs.Rows.{is_alone, left_pairs, pairs, product, rows_of, rows_of_each}
use Rattle.vkg_plan.proofs.RowsFit.{beside_is, checked_parts}
use Rattle.vkg_rules.specs.declared.rewrite.Fell.TheVariants as fell
use Rattle.vkg_rules.specs.EverywhereLaw.{or_given}
use Rattle.vkg_rules.specs.InNodes.{IsLawful}
use Rattle.vkg_rules.specs.Measure.{equalities, equalities_each, kinds_or_none, or_no_kinds, plan_equalities, plans_equalities, weight}
use Rattle.vkg_rules.specs.Parts.{checked-is}
use Rattle.vkg_rules.specs.Steps.{FallsAll, IsTyped, KeepsAll, Step}
use Rattle.vkg_equalities.specs.Decided.{decided}
use Rattle.vkg_equalities.specs.DecidedLaw.{IsRight, alone, count-and_of, decided-right}
use Rattle.vkg_equalities.specs.TableColumns.{columns_of_each, flag_at, flags_beside, table_columns}
use Rattle.vkg_equalities.specs.TableColumnsLaw.{CellsFit, FitsColumns, cells, pair-cells, product-cells}
use Rattle.vkg_equalities.specs.TermEquality.{condition_columns, condition_kinds, decided_in, first_changed, node_decided, term_equality}

left-less : (a b n : ℕ) → a < b → a + n < b + n
left-less a b n h = omega (arith, h)

right-less : (n a b : ℕ) → a < b → n + a < n + b
right-less n a b h = omega (arith, h)

less-through : (a b c d : ℕ) → a ≡ b → b < c → d ≡ c → a < d
less-through a b c d e h f = omega (arith, e, h, f)

no_more : (n : ℕ) → n ≤ n
no_more n = omega arith

-- ---- conditions

-- what the second conjuncts are to the first
record AreRight (t : ℕ → Bool) (ks : Kinds) (cs ds : List Expr) : Type 0 where
  truths : AreTruths ks ds
  same : (row : Row) → FitsColumns t ks row → list_all (λ e. holds e row) ds ≡ list_all (λ e. holds e row) cs
  fewer : equalities_each ks (exprs ds) < equalities_each ks (exprs cs)

right-here : (t : ℕ → Bool) (ks : Kinds) (c d : Expr) (cs : List Expr) → AreTruths ks cs → IsRight t ks c d → AreRight t ks (c ∷ cs) (d ∷ cs)
right-here t ks c d cs w r = record {
  truths = (r.truth, w);
  same = λ row f. ap (λ b. b && list_all (λ e. holds e row) cs) (r.same row f);
  fewer = left-less (equalities ks d) (equalities ks c) (equalities_each ks (exprs cs)) r.fewer;
}

right-later : (t : ℕ → Bool) (ks : Kinds) (c : Expr) (cs ds : List Expr) → IsTruth ks c → AreRight t ks cs ds → AreRight t ks (c ∷ cs) (c ∷ ds)
right-later t ks c cs ds w r = record {
  truths = (w, r.truths);
  same = λ row f. ap (λ b. holds c row && b) (r.same row f);
  fewer = right-less (equalities ks c) (equalities_each ks (exprs ds)) (equalities_each ks (exprs cs)) r.fewer;
}

first-right : (t : ℕ → Bool) (ks : Kinds) (cs ds : List Expr) → AreTruths ks cs → first_changed (decided t ks) cs ≡ Some ds → AreRight t ks cs ds
first-right t ks [] ds w h = cc
first-right t ks (c ∷ cs) ds w h = elim (or_given (option_map (λ d. d ∷ cs) (decided t ks c)) (option_map (λ es. c ∷ es) (first_changed (decided t ks) cs)) ds h) [
  | inl i ↦
      let m = map_given (λ d. d ∷ cs) (decided t ks c) ds i in
      subst (AreRight t ks (c ∷ cs)) m.2 (right-here t ks c m.0 cs w.1 (decided-right t ks c m.0 w.0 m.1))
  | inr i ↦
      let m = map_given (λ es. c ∷ es) (first_changed (decided t ks) cs) ds i in
      subst (AreRight t ks (c ∷ cs)) m.2 (right-later t ks c cs m.0 w.0 (first-right t ks cs m.0 w.1 m.1))
]

exprs-each : (es : Exprs) → exprs (each es) ≡ es
exprs-each expr.Nil = refl
exprs-each (expr.More e es) = ap (expr.More e) (exprs-each es)

count-conjuncts : (ks : Kinds) (c : Expr) → equalities ks c ≡ equalities_each ks (exprs (conjuncts c))
count-conjuncts ks (And es) = ap (equalities_each ks) (sym (exprs-each es))
count-conjuncts ks c = alone (equalities ks c)

in-right : (flags : List Bool) (ks : Kinds) (c d : Expr) → IsTruth ks c → decided_in flags ks c ≡ Some d → IsRight (flag_at flags) ks c d
unfolding decided_in
in-right flags ks c d typed h =
    let m = map_given and_of (first_changed (decided (flag_at flags) ks) (conjuncts c)) d h in
    let r = first-right (flag_at flags) ks (conjuncts c) m.0 (conjuncts-kind ks c typed) m.1 in
    subst (IsRight (flag_at flags) ks c) m.2 (record {
      truth = and_of-kind ks m.0 r.truths;
      same = λ row f. holds-and_of row m.0 ∙ r.same row f ∙ sym (holds-conjuncts c row);
      fewer = less-through (equalities ks (and_of m.0)) (equalities_each ks (exprs m.0)) (equalities_each ks (exprs (conjuncts c))) (equalities ks c) (count-and_of ks m.0) r.fewer (count-conjuncts ks c);
    })

-- over the kinds that the plan has
node-right : (s : Tables) (p : Plan) (ks : Kinds) (c d : Expr) → condition_kinds s p ≡ Some ks → IsTruth ks c → node_decided s p c ≡ Some d → IsRight (flag_at (condition_columns s p)) ks c d
node-right s p ks c d is typed h = in-right (condition_columns s p) ks c d typed (ap (option_and_then (λ l. decided_in (condition_columns s p) l c)) (sym is) ∙ h)

checked-same : (c d : Expr) (o : Option Kinds) (ks : Kinds) → o ≡ Some ks → IsTruth ks c → IsTruth ks d → checked d o ≡ checked c o
checked-same c d o ks is h g = to d g ∙ sym (to c h)
  where
    to : (e : Expr) → IsTruth ks e → checked e o ≡ Some ks
    to e k = ap (checked e) is ∙ ap (λ z. if is_one kind.Bool z then Some ks else None) k

fewer-over : (ks ls : Kinds) (c d : Expr) → ls ≡ ks → equalities ks d < equalities ks c → equalities ls d < equalities ls c
fewer-over ks ls c d is h = subst (λ l. equalities l d < equalities l c) (sym is) h

-- ---- rows

module _ (P : Row → Type 0) (f g : Row → Bool) (same : (row : Row) → P row → f row ≡ g row) where
  filter-on : (xs : List Row) → AllByRecursion P xs → filter f xs ≡ filter g xs
  filter-on xs h = filter_agree_on f g xs (λ x i. same x (each_from_recursion P xs h x i))

  alone-on : (x : Row) (ys : List Row) → AllByRecursion P (map (λ r. x ++ r) ys) → is_alone f ys x ≡ is_alone g ys x
  alone-on x [] h = refl
  alone-on x (y ∷ ys) h = λ i. not (same (x ++ y) h.0 i) && alone-on x ys h.1 i

  all_alone-on : (xs ys : List Row) → AllByRecursion P (pairs xs ys) → filter (is_alone f ys) xs ≡ filter (is_alone g ys) xs
  all_alone-on [] ys h = refl
  all_alone-on (x ∷ xs) ys h =
      let a = alone-on x ys (recursion_left P (map (λ r. x ++ r) ys) (pairs xs ys) h) in
      let b = all_alone-on xs ys (recursion_right P (map (λ r. x ++ r) ys) (pairs xs ys) h) in
      λ i. cond (a i) (x ∷ b i) (b i)

  left-on : (n : ℕ) (xs ys : List Row) → AllByRecursion P (pairs xs ys) → left_pairs f n xs ys ≡ left_pairs g n xs ys
  left-on n xs ys h = λ i. filter-on (pairs xs ys) h i ++ map (λ l. l ++ replicate n cell.Null) (all_alone-on xs ys h i)

-- ---- the laws

module _ (s : Tables) (form : IsWellFormed s) where
  select-lawful : (c : Expr) (p : Plan) (x : Step) → IsTyped s (Select c p) → term_equality s (Select c p) ≡ Some x → IsLawful s (Select c p) x
  select-lawful c p x typed e =
      let t : ℕ → Bool = flag_at (table_columns s p) in
      let a = checked_parts c (plan_kinds s p) typed in
      let m = map_given (λ (d : Expr). (Select d p, fell.Equalities)) (node_decided s (Select c p) c) x e in
      let r = node-right s (Select c p) a.0 c m.0 (checked-is c (plan_kinds s p) typed ∙ a.1) a.2 m.1 in
      subst (IsLawful s (Select c p)) m.2 (record {
        kinds = checked-same c m.0 (plan_kinds s p) a.0 a.1 a.2 r.truth;
        rows = λ db meets. bag_same (filter-on (FitsColumns t a.0) (holds c) (holds m.0) (λ row f. sym (r.same row f)) (rows_of s p db) (cells s db form meets p a.0 a.1));
        falls = (no_more (weight (Select c p)), left-less _ _ (plan_equalities s p) (fewer-over a.0 (kinds_or_none s p) c m.0 (ap or_no_kinds a.1) r.fewer));
      })

  join-lawful : (ps : Plans) (c : Expr) (x : Step) → IsTyped s (Join ps c) → term_equality s (Join ps c) ≡ Some x → IsLawful s (Join ps c) x
  join-lawful ps c x typed e =
      let t : ℕ → Bool = flag_at (flags_beside (columns_of_each s ps)) in
      let o : Option Kinds = beside_all (kinds_of_each s ps) in
      let a = checked_parts c o typed in
      let b = beside_is (kinds_of_each s ps) a.0 a.1 in
      let m = map_given (λ (d : Expr). (Join ps d, fell.Equalities)) (node_decided s (Join ps c) c) x e in
      let r = node-right s (Join ps c) a.0 c m.0 (checked-is c o typed ∙ a.1) a.2 m.1 in
      subst (IsLawful s (Join ps c)) m.2 (record {
        kinds = checked-same c m.0 o a.0 a.1 a.2 r.truth;
        rows = λ db meets. bag_same (filter-on (FitsColumns t a.0) (holds c) (holds m.0) (λ row f. sym (r.same row f)) (product (rows_of_each s ps db))
            (subst (λ z. CellsFit t z (product (rows_of_each s ps db))) b.2 (product-cells s db form meets ps b.0 b.1)));
        falls = (no_more (weight (Join ps c)), left-less _ _ (plans_equalities s ps) (fewer-over a.0 (or_no_kinds o) c m.0 (ap or_no_kinds a.1) r.fewer));
      })

  left-lawful : (p q : Plan) (c : Expr) (x : Step) → IsTyped s (Left p q c) → term_equality s (Left p q c) ≡ Some x → IsLawful s (Left p q c) x
  left-lawful p q c x typed e =
      let t : ℕ → Bool = flag_at (table_columns s p ++ table_columns s q) in
      let o : Option Kinds = joined (plan_kinds s p) (plan_kinds s q) in
      let a = checked_parts c o typed in
      let b = both_given (plan_kinds s p) (plan_kinds s q) a.0 a.1 in
      let m = map_given (λ (d : Expr). (Left p q d, fell.Equalities)) (node_decided s (Left p q c) c) x e in
      let r = node-right s (Left p q c) a.0 c m.0 (checked-is c o typed ∙ a.1) a.2 m.1 in
      let k : kinds_or_none s p ++ kinds_or_none s q ≡ a.0 = (λ i. or_no_kinds (b.1 i) ++ or_no_kinds (b.2.1 i)) ∙ b.2.2 in
      subst (IsLawful s (Left p q c)) m.2 (record {
        kinds = checked-same c m.0 o a.0 a.1 a.2 r.truth;
        rows = λ db meets. bag_same (left-on (FitsColumns t a.0) (holds c) (holds m.0) (λ row f. sym (r.same row f)) (width s q) (rows_of s p db) (rows_of s q db)
            (subst (λ z. CellsFit t z (pairs (rows_of s p db) (rows_of s q db))) b.2.2
            (pair-cells s db form meets p (table_columns s q) b.0 b.2.0 (rows_of s q db) b.1 (cells s db form meets p b.0 b.1) (cells s db form meets q b.2.0 b.2.1))));
        falls = (no_more (weight (Left p q c)), left-less _ _ (plan_equalities s q) (left-less _ _ (plan_equalities s p) (fewer-over a.0 (kinds_or_none s p ++ kinds_or_none s q) c m.0 k r.fewer)));
      })

  anti-lawful : (p q : Plan) (c : Expr) (x : Step) → IsTyped s (AntiJoin p q c) → term_equality s (AntiJoin p q c) ≡ Some x → IsLawful s (AntiJoin p q c) x
  anti-lawful p q c x typed e =
      let t : ℕ → Bool = flag_at (table_columns s p ++ table_columns s q) in
      let o : Option Kinds = joined (plan_kinds s p) (plan_kinds s q) in
      let first = some_then (λ (ks : Kinds). plan_kinds s p) (checked c o) typed in
      let a = checked_parts c o (ap is_some first.1) in
      let b = both_given (plan_kinds s p) (plan_kinds s q) a.0 a.1 in
      let m = map_given (λ (d : Expr). (AntiJoin p q d, fell.Equalities)) (node_decided s (AntiJoin p q c) c) x e in
      let r = node-right s (AntiJoin p q c) a.0 c m.0 a.1 a.2 m.1 in
      let k : kinds_or_none s p ++ kinds_or_none s q ≡ a.0 = (λ i. or_no_kinds (b.1 i) ++ or_no_kinds (b.2.1 i)) ∙ b.2.2 in
      subst (IsLawful s (AntiJoin p q c)) m.2 (record {
        kinds = ap (option_and_then (λ (ks : Kinds). plan_kinds s p)) (checked-same c m.0 o a.0 a.1 a.2 r.truth);
        rows = λ db meets. bag_same (all_alone-on (FitsColumns t a.0) (holds c) (holds m.0) (λ row f. sym (r.same row f)) (rows_of s p db) (rows_of s q db)
            (subst (λ z. CellsFit t z (pairs (rows_of s p db) (rows_of s q db))) b.2.2
            (pair-cells s db form meets p (table_columns s q) b.0 b.2.0 (rows_of s q db) b.1 (cells s db form meets p b.0 b.1) (cells s db form meets q b.2.0 b.2.1))));
        falls = (no_more (weight (AntiJoin p q c)), left-less _ _ (plan_equalities s q) (left-less _ _ (plan_equalities s p) (fewer-over a.0 (kinds_or_none s p ++ kinds_or_none s q) c m.0 k r.fewer)));
      })

  lawful : (p : Plan) (x : Step) → IsTyped s p → term_equality s p ≡ Some x → IsLawful s p x
  lawful (Select c p) x typed e = select-lawful c p x typed e
  lawful (Join ps c) x typed e = join-lawful ps c x typed e
  lawful (Left p q c) x typed e = left-lawful p q c x typed e
  lawful (AntiJoin p q c) x typed e = anti-lawful p q c x typed e
  lawful _ x typed e = cc

pub term_equality-keeps : KeepsAll term_equality
term_equality-keeps s form p x typed e = let g = lawful s form p x typed e in record { kinds = g.kinds; rows = g.rows }

pub term_equality-falls : FallsAll term_equality
term_equality-falls s form p x typed e = (lawful s form p x typed e).falls
