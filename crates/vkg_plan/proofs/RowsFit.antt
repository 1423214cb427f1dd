-- The rows of a well-typed plan have a cell for each of its columns, NULL or of that column's kind.
use Rattle.std.proofs.Common.{◌≡◌, ◌∙◌, Bool, true, false, List, [], ◌∷◌, ◌++◌, map, length, refl, sym, ap, subst}
use Rattle.std.specs.Prelude.{IfSome, Option, Some, None, replicate, if◌then◌else◌, is_some}
use Rattle.std.specs.List.{filter, flat_map, list_all, AllZip}
use Rattle.std.specs.Option.{option_map_or}
use Rattle.std.specs.Cmp.Lexicographic.{pointwise}
use Rattle.std.proofs.lemmas.Option.{same_Some, cond_some, option_and_then_some}
use Rattle.vkg_lists.proofs.Counts.{eq_same}
use Rattle.vkg_lists.proofs.Each.{recursion_filter, recursion_map_weaken, recursion_distinct}
use Rattle.vkg_lists.proofs.Members.{recursion_append}
use Rattle.vkg_lists.proofs.Onto.{first_given, both_given}
use Rattle.vkg_lists.proofs.Tests.{list_test}
use Rattle.vkg_lists.specs.Options.{joined}
use Rattle.vkg_cells.specs.declared.cell.Cell.TheVariants as cell
use Rattle.vkg_cells.specs.declared.cell.SqlType.TheVariants as kind
use Rattle.vkg_schema.specs.Rows.{Database, Row}
use Rattle.vkg_expr.proofs.ValueFits.{kinds_apart, null_fits, values-fit}
use Rattle.vkg_expr.proofs.TypedParts.{fits_row, kinds-append, one_is}
use Rattle.vkg_expr.specs.Expr.{Expr, exprs}
use Rattle.vkg_expr.specs.Laws.{HasKinds}
use Rattle.vkg_expr.specs.Typing.{is_one, kind_of, kinds_of, same_kind}
use Rattle.vkg_expr.specs.Value.{holds, values_of}
use Rattle.vkg_plan.specs.Kinds.{Kinds, Tables, alike, beside_all, checked, first_checked, side_by_side, kinds_of_each, plan_kinds, width}
use Rattle.vkg_plan.specs.Laws.{HasRowsOf, HaveKinds, TablesFit}
use Rattle.vkg_plan.specs.Plan.{Plan, Plans, Unit as UnitPlan, Empty, Scan, Select, Project, Join, Left, AntiJoin, UnionAll, Distinct, Nil, More}
use Rattle.vkg_plan.proofs.KindLists.{themselves}
use Rattle.vkg_plan.specs.Rows.{is_alone, left_pairs, one_row, pairs, product, rows_of, rows_of_each}
use Rattle.vkg_lists.proofs.Bools.{and_parts}
use Rattle.vkg_lists.proofs.Results.{some_if}

pairs-fit : (ks ls : Kinds) (xs ys : List Row) → HaveKinds ks xs → HaveKinds ls ys → HaveKinds (ks ++ ls) (pairs xs ys)
pairs-fit ks ls [] ys h k = tt
pairs-fit ks ls (x ∷ xs) ys h k =
    recursion_append (HasKinds (ks ++ ls)) (map (λ r. x ++ r) ys) (pairs xs ys)
    (recursion_map_weaken (HasKinds ls) (HasKinds (ks ++ ls)) (λ r. x ++ r) (λ r e. kinds-append ks ls x r h.0 e) ys k)
    (pairs-fit ks ls xs ys h.1 k)

-- lists of rows, each of its kinds
abbrev pub EachHasKinds : List Kinds → List (List Row) → Type 0
EachHasKinds kss rss = AllZip HaveKinds kss rss

pub product-fit : (kss : List Kinds) (rss : List (List Row)) → EachHasKinds kss rss → HaveKinds (side_by_side kss) (product rss)
product-fit [] [] h = (tt, tt)
product-fit [] (rs ∷ rss) h = absurd h
product-fit (ks ∷ kss) [] h = absurd h
product-fit (ks ∷ kss) (rs ∷ rss) h = pairs-fit ks (side_by_side kss) rs (product rss) h.0 (product-fit kss rss h.1)

nulls-fit : (ls : Kinds) → HasKinds ls (replicate (length ls) cell.Null)
nulls-fit [] = tt
nulls-fit (l ∷ ls) = (null_fits l, nulls-fit ls)

left-fit : (pass : Row → Bool) (ks ls : Kinds) (xs ys : List Row) → HaveKinds ks xs → HaveKinds ls ys → HaveKinds (ks ++ ls) (left_pairs pass (length ls) xs ys)
left-fit pass ks ls xs ys h k = recursion_append (HasKinds (ks ++ ls)) (filter pass (pairs xs ys)) _
    (recursion_filter (HasKinds (ks ++ ls)) pass (pairs xs ys) (pairs-fit ks ls xs ys h k))
    (recursion_map_weaken (HasKinds ks) (HasKinds (ks ++ ls)) (λ l. l ++ replicate (length ls) cell.Null) (λ l e. kinds-append ks ls l (replicate (length ls) cell.Null) e (nulls-fit ls)) (filter (is_alone pass ys) xs)
    (recursion_filter (HasKinds ks) (is_alone pass ys) xs h))

union-fit : (ks : Kinds) (kss : List Kinds) (rss : List (List Row)) → EachHasKinds kss rss → list_all (pointwise same_kind ks) kss ≡ true → HaveKinds ks (flat_map (λ rows. rows) rss)
union-fit ks [] [] h e = tt
union-fit ks [] (rs ∷ rss) h e = absurd h
union-fit ks (ls ∷ kss) [] h e = absurd h
union-fit ks (ls ∷ kss) (rs ∷ rss) h e =
    let b = and_parts (pointwise same_kind ks ls) (list_all (pointwise same_kind ks) kss) e in
    recursion_append (HasKinds ks) rs (flat_map (λ rows. rows) rss)
    (subst (λ m. HaveKinds m rs) (sym (eq_same (list_test kinds_apart) ks ls b.0)) h.0) (union-fit ks kss rss h.1 b.1)

pub checked_is : (c : Expr) (o : Option Kinds) (ks : Kinds) → checked c o ≡ Some ks → o ≡ Some ks
checked_is c None ks e = cc
checked_is c (Some ls) ks e = ap Some (cond_some (is_one kind.Bool (kind_of c ls)) ls ks e).1

-- the kinds of both parts of an anti join
pub record FirstChecked (c : Expr) (a b : Option Kinds) (ks : Kinds) : Type 0 where
  pub first : a ≡ Some ks
  pub kinds : Kinds
  pub second : b ≡ Some kinds
  pub both : checked c (joined a b) ≡ Some (ks ++ kinds)

pub first_checked-parts : (c : Expr) (a b : Option Kinds) (ks : Kinds) → first_checked c a b ≡ Some ks → FirstChecked c a b ks
first_checked-parts c a b ks e = option_and_then_some (λ (ms : Kinds). a) (checked c (joined a b)) ks e (λ ms i j. parts ms i j (both_given a b ms (checked_is c (joined a b) ms i)))
  where
    parts : (ms : Kinds) → checked c (joined a b) ≡ Some ms → a ≡ Some ks → ((k : Kinds) × (a ≡ Some k) × ((l : Kinds) × (b ≡ Some l) × (k ++ l ≡ ms))) → FirstChecked c a b ks
    parts ms i j g =
        let same : g.0 ≡ ks = same_Some g.0 ks (sym g.1 ∙ j) in
        record { first = j; kinds = g.2.0; second = g.2.1; both = i ∙ ap Some (sym g.2.2 ∙ ap (λ k. k ++ g.2.0) same) }

pub checked_parts : (c : Expr) (o : Option Kinds) → is_some (checked c o) ≡ true → (ks : Kinds) × (o ≡ Some ks) × (kind_of c ks ≡ Some kind.Bool)
checked_parts c None e = cc
checked_parts c (Some ks) e = (ks, refl, one_is kind.Bool (kind_of c ks) (some_if (is_one kind.Bool (kind_of c ks)) (Some ks) e).0)

pub beside_is : (o : Option (List Kinds)) (ks : Kinds) → beside_all o ≡ Some ks → (kss : List Kinds) × (o ≡ Some kss) × (side_by_side kss ≡ ks)
beside_is None ks e = cc
beside_is (Some []) ks e = cc
beside_is (Some (ls ∷ kss)) ks e = (ls ∷ kss, refl, same_Some (side_by_side (ls ∷ kss)) ks e)

alike_is : (o : Option (List Kinds)) (ks : Kinds) → alike o ≡ Some ks → (kss : List Kinds) × (o ≡ Some kss) × (list_all (pointwise same_kind ks) kss ≡ true)
alike_is None ks e = cc
alike_is (Some []) ks e = cc
alike_is (Some (ls ∷ kss)) ks e = at (list_all (pointwise same_kind ls) kss) refl e
  where
    at : (b : Bool) → list_all (pointwise same_kind ls) kss ≡ b → (if b then Some ls else None) ≡ Some ks → (kss' : List Kinds) × (Some (ls ∷ kss) ≡ Some kss') × (list_all (pointwise same_kind ks) kss' ≡ true)
    at true p e =
        let i : ls ≡ ks = same_Some ls ks e in
        let all : list_all (pointwise same_kind ls) (ls ∷ kss) ≡ true = rw (themselves ls) p in
        (ls ∷ kss, refl, subst (λ m. list_all (pointwise same_kind m) (ls ∷ kss) ≡ true) i all)
    at false p e = cc

module _ (s : Tables) (db : Database) (t : TablesFit s db) where
  mutual
    pub rows-fit : (p : Plan) (ks : Kinds) → plan_kinds s p ≡ Some ks → HaveKinds ks (rows_of s p db)
    rows-fit UnitPlan ks e = (subst (λ m. HasKinds m []) (same_Some [] ks e) tt, tt)
    rows-fit (Empty ls) ks e = tt
    rows-fit (Scan table) ks e = t table ks e
    rows-fit (Select c p) ks e = recursion_filter (HasKinds ks) (holds c) (rows_of s p db) (rows-fit p ks (checked_is c (plan_kinds s p) ks e))
    rows-fit (Project es p) ks e = option_and_then_some (kinds_of (exprs es)) (plan_kinds s p) ks e (λ ls i j.
        recursion_map_weaken (HasKinds ls) (HasKinds ks) (values_of (exprs es)) (λ row h. values-fit (exprs es) ls ks row (fits_row ls row h) j) (rows_of s p db) (rows-fit p ls i))
    rows-fit (Join ps c) ks e =
        let a = beside_is (kinds_of_each s ps) ks (checked_is c (beside_all (kinds_of_each s ps)) ks e) in
        recursion_filter (HasKinds ks) (holds c) (product (rows_of_each s ps db))
        (subst (λ m. HaveKinds m (product (rows_of_each s ps db))) a.2 (product-fit a.0 (rows_of_each s ps db) (each-fit ps a.0 a.1)))
    rows-fit (Left p q c) ks e =
        let a = both_given (plan_kinds s p) (plan_kinds s q) ks (checked_is c (joined (plan_kinds s p) (plan_kinds s q)) ks e) in
        let wide : length a.2.0 ≡ width s q = ap (λ o. option_map_or length o 0) (sym a.2.1) in
        subst (λ m. HaveKinds m (rows_of s (Left p q c) db)) a.2.2
        (subst (λ n. HaveKinds (a.0 ++ a.2.0) (left_pairs (holds c) n (rows_of s p db) (rows_of s q db))) wide
        (left-fit (holds c) a.0 a.2.0 (rows_of s p db) (rows_of s q db) (rows-fit p a.0 a.1) (rows-fit q a.2.0 a.2.1)))
    rows-fit (AntiJoin p q c) ks e =
        let a = first_checked-parts c (plan_kinds s p) (plan_kinds s q) ks e in
        recursion_filter (HasKinds ks) (is_alone (holds c) (rows_of s q db)) (rows_of s p db) (rows-fit p ks a.first)
    rows-fit (UnionAll ps) ks e =
        let a = alike_is (kinds_of_each s ps) ks e in
        union-fit ks a.0 (rows_of_each s ps db) (each-fit ps a.0 a.1) a.2
    rows-fit (Distinct p) ks e = recursion_distinct (HasKinds ks) one_row (rows_of s p db) (rows-fit p ks e)

    pub each-fit : (ps : Plans) (kss : List Kinds) → kinds_of_each s ps ≡ Some kss → EachHasKinds kss (rows_of_each s ps db)
    each-fit Nil kss e = subst (λ l. EachHasKinds l []) (same_Some [] kss e) tt
    each-fit (More p ps) kss e =
        let a = first_given (plan_kinds s p) (kinds_of_each s ps) kss e in
        subst (λ l. EachHasKinds l (rows_of s p db ∷ rows_of_each s ps db)) a.2.2 (rows-fit p a.0 a.1, each-fit ps a.2.0 a.2.1)

has_rows : (s : Tables) (p : Plan) (ks : Kinds) → Some ks ≡ plan_kinds s p → HasRowsOf s p ks
has_rows s p ks e db t = rows-fit s db t p ks (sym e)

pub has_rows_if_any : (s : Tables) (p : Plan) (o : Option Kinds) → o ≡ plan_kinds s p → IfSome o (HasRowsOf s p)
has_rows_if_any s p None e = tt
has_rows_if_any s p (Some ks) e = has_rows s p ks e

pub ruleset fitting_rows = (has_rows_if_any)
