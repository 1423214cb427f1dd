-- A plan with another condition, or other expressions, in the place of its own.
use Rattle.std.proofs.Common.{◌≡◌, ◌∙◌, ℕ, ◌<◌, ◌≤◌, Bool, cond, not, List, [], ◌∷◌, ◌++◌, map, refl, sym, ap, subst, arith}
use Rattle.std.specs.Prelude.{Option, Some, None, replicate, ◌&&◌, if◌then◌else◌, is_some, option_and_then}
use Rattle.std.specs.List.{AllByRecursion, filter}
use Rattle.vkg_lists.proofs.Bags.{bag_same}
use Rattle.vkg_lists.proofs.Each.{recursion_weaken}
use Rattle.vkg_lists.proofs.Members.{recursion_left, recursion_right}
use Rattle.vkg_lists.proofs.Onto.{both_given}
use Rattle.vkg_lists.proofs.Results.{some_of, some_then}
use Rattle.vkg_lists.specs.Options.{joined}
use Rattle.std.proofs.lemmas.List.{append-nil}
use Rattle.vkg_cells.specs.declared.cell.Cell.TheVariants as cell
use Rattle.vkg_cells.specs.declared.cell.SqlType.{SqlType}
use Rattle.vkg_cells.specs.declared.cell.SqlType.TheVariants as kind
use Rattle.vkg_schema.specs.Meets.{MeetsSchema}
use Rattle.vkg_schema.specs.Rows.{Database, Row}
use Rattle.vkg_expr.specs.Expr.{Expr, exprs}
use Rattle.vkg_expr.specs.Laws.{FitsRow, HasKinds}
use Rattle.vkg_expr.specs.Typing.{is_one, kinds_of}
use Rattle.vkg_expr.specs.Value.{holds, values_of}
use Rattle.vkg_expr.proofs.TypedParts.{fits_row}
use Rattle.vkg_plan.specs.Kinds.{Kinds, Tables, beside_all, checked, kinds_of_each, plan_kinds, width}
use Rattle.vkg_plan.specs.Plan.{Plan, Plans, Select, Project, Join, Left, AntiJoin}
use Rattle.vkg_plan.specs.Rows.{is_alone, left_pairs, pairs, product, rows_of, rows_of_each}
use Rattle.vkg_plan.specs.Laws.{HaveKinds}
use Rattle.vkg_plan.proofs.Pairs.{pairs-unit}
use Rattle.vkg_plan.proofs.RowsFit.{beside_is, checked_parts, each-fit, product-fit, rows-fit}
use Rattle.vkg_rules.specs.declared.rewrite.Fell.TheVariants as fell
use Rattle.vkg_rules.specs.InNodes.{IsLawful}
use Rattle.vkg_rules.specs.Measure.{equalities, equalities_each, or_no_kinds, size, sizes}
use Rattle.vkg_rules.specs.Steps.{IsTyped}
use Rattle.vkg_conditions.specs.Junctions.{IsTruth}
use Rattle.vkg_conditions.specs.SameAs.{SameEachOn}
use Rattle.vkg_shapes.specs.TableRows.{tables_fit}

-- a truth that holds of the same rows among such rows, is smaller, and has no more equalities of terms
pub record BetterOn (On : Row → Type 0) (ks : List SqlType) (c d : Expr) : Type 0 where
  pub truth : IsTruth ks d
  pub same : (row : Row) → On row → holds d row ≡ holds c row
  pub less : size d < size c
  pub fewer : equalities ks d ≤ equalities ks c

-- the rows are all of the columns' kinds
abbrev pub IsBetter : List SqlType → Expr → Expr → Type 0
IsBetter ks = BetterOn (FitsRow ks) ks

-- ---- the rows over which a plan's own expressions are taken, and the kinds of their columns

abbrev pub own_kinds : Tables → Plan → Option Kinds
own_kinds s (Select c p) = plan_kinds s p
own_kinds s (Project es p) = plan_kinds s p
own_kinds s (Join ps c) = beside_all (kinds_of_each s ps)
own_kinds s (Left p q c) = joined (plan_kinds s p) (plan_kinds s q)
own_kinds s (AntiJoin p q c) = joined (plan_kinds s p) (plan_kinds s q)
own_kinds s p = None

abbrev pub own_rows : Tables → Plan → Database → List Row
own_rows s (Select c p) db = rows_of s p db
own_rows s (Project es p) db = rows_of s p db
own_rows s (Join ps c) db = product (rows_of_each s ps db)
own_rows s (Left p q c) db = pairs (rows_of s p db) (rows_of s q db)
own_rows s (AntiJoin p q c) db = pairs (rows_of s p db) (rows_of s q db)
own_rows s p db = []

-- over each database that meets the schema they are such rows
abbrev pub AreOwn : (Kinds → Row → Type 0) → Tables → Plan → Type 0
AreOwn On s p = (ks : Kinds) → own_kinds s p ≡ Some ks → (db : Database) → MeetsSchema s db → AllByRecursion (On ks) (own_rows s p db)

pairs-kinds : (ks ls : Kinds) (ts rs : List Row) → HaveKinds ks ts → HaveKinds ls rs → HaveKinds (ks ++ ls) (pairs ts rs)
pairs-kinds ks ls ts rs h k =
    subst (λ m. HaveKinds (ks ++ m) (pairs ts rs)) (append-nil ls)
    (subst (λ m. HaveKinds (ks ++ (ls ++ [])) (pairs ts m)) (pairs-unit rs) (product-fit (ks ∷ ls ∷ []) (ts ∷ rs ∷ []) (h, (k, tt))))

module _ (s : Tables) where
  own-kinds : (p : Plan) (ks : Kinds) → own_kinds s p ≡ Some ks → (db : Database) → MeetsSchema s db → HaveKinds ks (own_rows s p db)
  own-kinds (Select c p) ks e db m = rows-fit s db (tables_fit s db m) p ks e
  own-kinds (Project es p) ks e db m = rows-fit s db (tables_fit s db m) p ks e
  own-kinds (Join ps c) ks e db m =
      let k = beside_is (kinds_of_each s ps) ks e in
      subst (λ ls. HaveKinds ls (product (rows_of_each s ps db))) k.2 (product-fit k.0 (rows_of_each s ps db) (each-fit s db (tables_fit s db m) ps k.0 k.1))
  own-kinds (Left p q c) ks e db m =
      let k = both_given (plan_kinds s p) (plan_kinds s q) ks e in
      let ts = tables_fit s db m in
      subst (λ ls. HaveKinds ls (pairs (rows_of s p db) (rows_of s q db))) k.2.2
      (pairs-kinds k.0 k.2.0 (rows_of s p db) (rows_of s q db) (rows-fit s db ts p k.0 k.1) (rows-fit s db ts q k.2.0 k.2.1))
  own-kinds (AntiJoin p q c) ks e db m =
      let k = both_given (plan_kinds s p) (plan_kinds s q) ks e in
      let ts = tables_fit s db m in
      subst (λ ls. HaveKinds ls (pairs (rows_of s p db) (rows_of s q db))) k.2.2
      (pairs-kinds k.0 k.2.0 (rows_of s p db) (rows_of s q db) (rows-fit s db ts p k.0 k.1) (rows-fit s db ts q k.2.0 k.2.1))
  own-kinds _ ks e db m = cc

  -- they are of their columns' kinds
  pub own-fit : (p : Plan) → AreOwn FitsRow s p
  own-fit p ks e db m = recursion_weaken (HasKinds ks) (FitsRow ks) (own_rows s p db) (fits_row ks) (own-kinds p ks e db m)

-- ---- rows that pass

module _ (P : Row → Type 0) (f g : Row → Bool) (same : (row : Row) → P row → f row ≡ g row) where
  filter-on : (xs : List Row) → AllByRecursion P xs → filter f xs ≡ filter g xs
  filter-on [] h = refl
  filter-on (x ∷ xs) h = λ i. cond (same x h.0 i) (x ∷ filter-on xs h.1 i) (filter-on xs h.1 i)

  alone-on : (x : Row) (ys : List Row) → AllByRecursion P (map (λ r. x ++ r) ys) → is_alone f ys x ≡ is_alone g ys x
  alone-on x [] h = refl
  alone-on x (y ∷ ys) h = λ i. not (same (x ++ y) h.0 i) && alone-on x ys h.1 i

  all_alone-on : (xs ys : List Row) → AllByRecursion P (pairs xs ys) → filter (is_alone f ys) xs ≡ filter (is_alone g ys) xs
  all_alone-on [] ys h = refl
  all_alone-on (x ∷ xs) ys h =
      let a = alone-on x ys (recursion_left P (map (λ r. x ++ r) ys) (pairs xs ys) h) in
      let b = all_alone-on xs ys (recursion_right P (map (λ r. x ++ r) ys) (pairs xs ys) h) in
      λ i. cond (a i) (x ∷ b i) (b i)

  left-on : (n : ℕ) (xs ys : List Row) → AllByRecursion P (pairs xs ys) → left_pairs f n xs ys ≡ left_pairs g n xs ys
  left-on n xs ys h = λ i. filter-on (pairs xs ys) h i ++ map (λ l. l ++ replicate n cell.Null) (all_alone-on xs ys h i)

checked-same : (o : Option Kinds) (ks : Kinds) (c d : Expr) → o ≡ Some ks → IsTruth ks c → IsTruth ks d → checked d o ≡ checked c o
checked-same o ks c d is h g = to d g ∙ sym (to c h)
  where
    to : (e : Expr) → IsTruth ks e → checked e o ≡ Some ks
    to e k = ap (checked e) is ∙ ap (λ z. if is_one kind.Bool z then Some ks else None) k

-- what is known of the kinds of a plan holds of those that its measure takes
taken : (o : Option Kinds) (ks : Kinds) (c d : Expr) → o ≡ Some ks → equalities ks d ≤ equalities ks c → equalities (or_no_kinds o) d ≤ equalities (or_no_kinds o) c
taken o ks c d e h = subst (λ z. equalities (or_no_kinds z) d ≤ equalities (or_no_kinds z) c) (sym e) h

module _ (On : Kinds → Row → Type 0) (s : Tables) where
  pub select-better : (c d : Expr) (p : Plan) → IsTyped s (Select c p) → AreOwn On s (Select c p) → ((ks : Kinds) → IsTruth ks c → BetterOn (On ks) ks c d) → IsLawful s (Select c p) (Select d p, fell.Size)
  select-better c d p t own better =
      let a = checked_parts c (plan_kinds s p) t in
      let b = better a.0 a.2 in
      let e = taken (plan_kinds s p) a.0 c d a.1 b.fewer in
      let z = b.less in
      record {
        kinds = checked-same (plan_kinds s p) a.0 c d a.1 a.2 b.truth;
        rows = λ db m. bag_same (filter-on (On a.0) (holds c) (holds d) (λ row h. sym (b.same row h)) (rows_of s p db) (own a.0 a.1 db m));
        falls = (omega arith, omega (arith, e), omega (arith, z));
      }

  pub join-better : (c d : Expr) (ps : Plans) → IsTyped s (Join ps c) → AreOwn On s (Join ps c) → ((ks : Kinds) → IsTruth ks c → BetterOn (On ks) ks c d) → IsLawful s (Join ps c) (Join ps d, fell.Size)
  join-better c d ps t own better =
      let o = beside_all (kinds_of_each s ps) in
      let a = checked_parts c o t in
      let b = better a.0 a.2 in
      let e = taken o a.0 c d a.1 b.fewer in
      let z = b.less in
      record {
        kinds = checked-same o a.0 c d a.1 a.2 b.truth;
        rows = λ db m. bag_same (filter-on (On a.0) (holds c) (holds d) (λ row h. sym (b.same row h)) (product (rows_of_each s ps db)) (own a.0 a.1 db m));
        falls = (omega arith, omega (arith, e), omega (arith, z));
      }

  pub left-better : (c d : Expr) (p q : Plan) → IsTyped s (Left p q c) → AreOwn On s (Left p q c) → ((ks : Kinds) → IsTruth ks c → BetterOn (On ks) ks c d) → IsLawful s (Left p q c) (Left p q d, fell.Size)
  left-better c d p q t own better =
      let o = joined (plan_kinds s p) (plan_kinds s q) in
      let a = checked_parts c o t in
      let b = better a.0 a.2 in
      let k = both_given (plan_kinds s p) (plan_kinds s q) a.0 a.1 in
      let both : or_no_kinds (plan_kinds s p) ++ or_no_kinds (plan_kinds s q) ≡ a.0 = (λ i. or_no_kinds (k.1 i) ++ or_no_kinds (k.2.1 i)) ∙ k.2.2 in
      let e : equalities (or_no_kinds (plan_kinds s p) ++ or_no_kinds (plan_kinds s q)) d ≤ equalities (or_no_kinds (plan_kinds s p) ++ or_no_kinds (plan_kinds s q)) c =
      subst (λ ks. equalities ks d ≤ equalities ks c) (sym both) b.fewer in
      let z = b.less in
      record {
        kinds = checked-same o a.0 c d a.1 a.2 b.truth;
        rows = λ db m. bag_same (left-on (On a.0) (holds c) (holds d) (λ row h. sym (b.same row h)) (width s q) (rows_of s p db) (rows_of s q db) (own a.0 a.1 db m));
        falls = (omega arith, omega (arith, e), omega (arith, z));
      }

  pub anti-better : (c d : Expr) (p q : Plan) → IsTyped s (AntiJoin p q c) → AreOwn On s (AntiJoin p q c) → ((ks : Kinds) → IsTruth ks c → BetterOn (On ks) ks c d) → IsLawful s (AntiJoin p q c) (AntiJoin p q d, fell.Size)
  anti-better c d p q t own better =
      let o = joined (plan_kinds s p) (plan_kinds s q) in
      let first = some_then (λ (ks : Kinds). plan_kinds s p) (checked c o) t in
      let a = checked_parts c o (ap is_some first.1) in
      let b = better a.0 a.2 in
      let k = both_given (plan_kinds s p) (plan_kinds s q) a.0 a.1 in
      let both : or_no_kinds (plan_kinds s p) ++ or_no_kinds (plan_kinds s q) ≡ a.0 = (λ i. or_no_kinds (k.1 i) ++ or_no_kinds (k.2.1 i)) ∙ k.2.2 in
      let e : equalities (or_no_kinds (plan_kinds s p) ++ or_no_kinds (plan_kinds s q)) d ≤ equalities (or_no_kinds (plan_kinds s p) ++ or_no_kinds (plan_kinds s q)) c =
      subst (λ ks. equalities ks d ≤ equalities ks c) (sym both) b.fewer in
      let z = b.less in
      record {
        kinds = ap (option_and_then (λ (ks : Kinds). plan_kinds s p)) (checked-same o a.0 c d a.1 a.2 b.truth);
        rows = λ db m. bag_same (all_alone-on (On a.0) (holds c) (holds d) (λ row h. sym (b.same row h)) (rows_of s p db) (rows_of s q db) (own a.0 a.1 db m));
        falls = (omega arith, omega (arith, e), omega (arith, z));
      }

  map-on : (P : Row → Type 0) (f g : Row → Row) → ((row : Row) → P row → f row ≡ g row) → (xs : List Row) → AllByRecursion P xs → map f xs ≡ map g xs
  map-on P f g same [] h = refl
  map-on P f g same (x ∷ xs) h = λ i. same x h.0 i ∷ map-on P f g same xs h.1 i

  -- other expressions, of the same kinds and values
  pub project-better : (es ds : List Expr) (p : Plan) → IsTyped s (Project es p) → AreOwn On s (Project es p)
      → ((ks : Kinds) (ls : Kinds) → kinds_of (exprs es) ks ≡ Some ls → SameEachOn (On ks) ks (exprs es) (exprs ds) × (sizes (exprs ds) < sizes (exprs es)) × (equalities_each ks (exprs ds) ≤ equalities_each ks (exprs es)))
      → IsLawful s (Project es p) (Project ds p, fell.Size)
  project-better es ds p t own better =
      let a = some_then (kinds_of (exprs es)) (plan_kinds s p) t in
      let l = some_of (kinds_of (exprs es) a.0) a.2 in
      let b = better a.0 l.0 l.1 in
      let e : equalities_each (or_no_kinds (plan_kinds s p)) (exprs ds) ≤ equalities_each (or_no_kinds (plan_kinds s p)) (exprs es) =
      subst (λ z. equalities_each (or_no_kinds z) (exprs ds) ≤ equalities_each (or_no_kinds z) (exprs es)) (sym a.1) b.2 in
      let z = b.1 in
      record {
        kinds = ap (option_and_then (kinds_of (exprs ds))) a.1 ∙ b.0.kinds_kept ∙ sym (ap (option_and_then (kinds_of (exprs es))) a.1);
        rows = λ db m. bag_same (map-on (On a.0) (values_of (exprs es)) (values_of (exprs ds)) (λ row h. sym (b.0.values row h)) (rows_of s p db) (own a.0 a.1 db m));
        falls = (omega arith, omega (arith, e), omega (arith, z));
      }
