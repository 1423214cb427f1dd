-- Its laws: of the rows of the member the one that stands in the left row alone makes partners, with the rows of the others.
use Rattle.std.proofs.Common.{◌≡◌, ◌∙◌, inl, inr, ℕ, zero, suc, ◌+◌, ◌-◌, ◌*◌, ◌<◌, ◌≤◌, Bool, true, false, true≢false, cond, not, ◌&&◌, ◌||◌, nat_eq, nat_le, nat_lt, List, [], ◌∷◌, ◌++◌, append-nil, append_assoc, length, length-append, map, replicate, Option, Some, None, refl, sym, ap, subst, arith}
use Rattle.std.specs.Prelude.{drop, is_some, option_and_then, slice_get, unwrap_or}
use Rattle.std.specs.List.{AllByRecursion, AllZip, Contains, filter, flat_map, list_all, list_any}
use Rattle.std.specs.List.Sorted.{IsPermutation}
use Rattle.std.specs.Option.{option_map_or}
use Rattle.std.proofs.Math.Nat.{mul-lt-mul_of_pos_right}
use Rattle.std.proofs.lemmas.Bool.{cases_Bool, eqb-true, le-leb, leb-true, lt-ltb, ltb-true, or_cases}
use Rattle.std.proofs.lemmas.List.Elements.{Contains-append_cases}
use Rattle.std.proofs.lemmas.List.Sorted.{IsPermutation-sym, IsPermutation-trans}
use Rattle.std.proofs.lemmas.Option.{option_and_then_some, same_Some}
use Rattle.vkg_lists.specs.Lists.{AllBelow, is_empty}
use Rattle.vkg_lists.specs.Options.{joined}
use Rattle.vkg_lists.proofs.Bags.{bag_same}
use Rattle.vkg_lists.proofs.Bools.{and_parts, and_true, neither}
use Rattle.vkg_lists.proofs.Each.{recursion_get}
use Rattle.vkg_lists.proofs.Heads.{slice_get-behind}
use Rattle.vkg_lists.proofs.Members.{Contains-none, Contains-only, each_from_recursion, filter_keeps, flat_map_agree_on}
use Rattle.vkg_lists.proofs.Nothing.{flat_map_nothing}
use Rattle.vkg_lists.proofs.Onto.{both_given, first_given}
use Rattle.vkg_lists.proofs.Positions.{Found, found, get_member}
use Rattle.vkg_lists.proofs.Results.{some_of, then_given}
use Rattle.vkg_lists.proofs.Walks.{flat_map-filter}
use Rattle.vkg_cells.specs.declared.cell.Cell.TheVariants as cell
use Rattle.vkg_cells.specs.declared.cell.SqlType.{SqlType}
use Rattle.vkg_cells.specs.declared.cell.SqlType.TheVariants as kind
use Rattle.vkg_schema.specs.declared.table.Key.{Key}
use Rattle.vkg_schema.specs.declared.table.Table.{Table}
use Rattle.vkg_schema.specs.Meets.{FitsColumn, IsKey, IsTable, IsWellFormed, MeetsSchema}
use Rattle.vkg_schema.specs.Rows.{Database, Row, agree, cell_at, is_null, rows_of as table_rows}
use Rattle.vkg_schema.proofs.RowCells.{cell_at-right}
use Rattle.vkg_expr.specs.Expr.{Expr, exprs}
use Rattle.vkg_expr.specs.Laws.{HasKinds}
use Rattle.vkg_expr.specs.Logic.{and_then, truth_const}
use Rattle.vkg_expr.specs.Strict.{columns, is_strict, put}
use Rattle.vkg_expr.specs.Typing.{kind_of, kinds_of}
use Rattle.vkg_expr.specs.Value.{holds, value_of, values_of}
use Rattle.vkg_expr.proofs.TypedParts.{fits_row, kinds-append}
use Rattle.vkg_columns.proofs.Conjuncts.{IsTruth, and_then-kind, holds-and_then}
use Rattle.vkg_columns.proofs.OnColumns.{columns-in_range, each-in_range, on-weaker, on_each-weaker}
use Rattle.vkg_columns.proofs.PutIn.{put-holds, put-kind, put-value, put_each-exprs, put_each-kinds}
use Rattle.vkg_columns.specs.Columns.{Gives, KeepsKind, at_place, columns_from}
use Rattle.vkg_plan.proofs.RowsFit.{rows-fit}
use Rattle.vkg_plan.specs.Kinds.{Kinds, Tables, beside_all, checked, kinds_of_each, plan_kinds, width}
use Rattle.vkg_plan.specs.Plan.{Plan, Unit as UnitPlan, Empty, Scan, Select, Project, Join, Left, AntiJoin, UnionAll, Distinct, each, plans}
use Rattle.vkg_plan.specs.Rows.{is_alone, pairs, rows_of}
use Rattle.vkg_rules.specs.declared.rewrite.Fell.TheVariants as fell
use Rattle.vkg_rules.specs.Measure.{weight, weights_product}
use Rattle.vkg_rules.specs.Steps.{Falls, FallsAll, IsTyped, Keeps, KeepsAll, Step}
use Rattle.vkg_rules.specs.Weights.{product_positive, weight_positive}
use Rattle.vkg_shapes.specs.TableRows.{tables_fit}
use Rattle.vkg_nulls.specs.NullExactly.{any_null, null-exactly}
use Rattle.vkg_keys.specs.Keys.{AreWide, with_itself}
use Rattle.vkg_keys.specs.Members.{Place, first_made, others, renamed, scan_between, scans, widths}
use Rattle.vkg_keys.specs.Ties.{all_tied}
use Rattle.vkg_keys.proofs.NamedColumns.{on-both, on-passing}
use Rattle.vkg_keys.proofs.OnlyOne.{walk-agreeing}
use Rattle.vkg_keys.proofs.Parts.{part-at}
use Rattle.vkg_keys.proofs.Places.{made-given, member_rows, rows-append, rows-one, sides-wide, wide-kinds, wide-members}
use Rattle.vkg_keys.proofs.Products.{flat_map-pairs, walk-three}
use Rattle.vkg_keys.proofs.RenamedColumns.{get-left, long-columns, place-columns, renamed-kind, renamed-value}
use Rattle.vkg_keys.proofs.TableRows.{key_holds, row_fits, row_length, table_meets}
use Rattle.vkg_keys.proofs.TiedColumns.{all_tied-agree}
use Rattle.vkg_key_joins.specs.MembersLaw.{JoinKinds, ScanKinds, checked-truth, join-kinds, others-kinds, plans-each, scan-kinds, without-weight}
use Rattle.vkg_key_lefts.specs.declared.standing.StandingScan.{StandingScan}
use Rattle.vkg_key_lefts.specs.LeftRows.{left-by_rows, with_partners, without_partner}
use Rattle.vkg_key_lefts.specs.SelfLeft.{ties_key}
use Rattle.vkg_key_lefts.specs.Nulls.{behind-null, null-is, nulls, nulls-append, nulls-fit, nulls-long, or-true, strict-back}
use Rattle.vkg_key_lefts.specs.SelfLeftLaw.{itself-each}
use Rattle.vkg_key_lefts.specs.SelfLeftMember.{both_conditions, columns_before, is_again, is_between, is_kept, is_null_behind, named_left, over_left, over_others, self_left_member, with_right, without_again}
use Rattle.vkg_key_lefts.specs.Standing.{standing}
use Rattle.vkg_key_lefts.specs.StandingLaw.{HasRow, HasTable, checked-given, has-row, has-table, regrouped, standing-cell}
use Rattle.vkg_key_lefts.specs.Tables.{keys_of}

-- ---- small steps

cond-both : {B : Type 0} (a b : Bool) (xs : List B) → cond a (cond b xs []) [] ≡ cond (a && b) xs []
cond-both true b xs = refl
cond-both false b xs = refl

drop-place : (n : ℕ) (es : List Expr) (at : ℕ) → at_place (drop n es) at ≡ at_place es (n + at)
drop-place zero es at = let same : at ≡ zero + at = omega arith in ap (at_place es) same
drop-place (suc n) [] at = refl
drop-place (suc n) (e ∷ es) at =
    let next : suc (n + at) ≡ suc n + at = omega arith in
    drop-place n es at ∙ ap (at_place (e ∷ es)) next

-- no row passes where a walk of those that pass has nothing
walk-alone : (p : Row → Bool) (rs : List Row) → list_all (λ r. not (p r)) rs ≡ is_empty (flat_map (λ r. cond (p r) (true ∷ []) []) rs)
walk-alone p [] = refl
walk-alone p (r ∷ rs) = elim (cases_Bool (p r)) [
  | inl t ↦ ap (λ b. not b && list_all (λ r. not (p r)) rs) t ∙ ap (λ b. is_empty (cond b (true ∷ []) [] ++ flat_map (λ r. cond (p r) (true ∷ []) []) rs)) (sym t)
  | inr f ↦
      ap (λ b. not b && list_all (λ r. not (p r)) rs) f ∙ walk-alone p rs
      ∙ ap (λ b. is_empty (cond b (true ∷ []) [] ++ flat_map (λ r. cond (p r) (true ∷ []) []) rs)) (sym f)
]

between-behind : (n m w : ℕ) (columns : List ℕ) → n ≤ m → list_any (is_between m w) columns ≡ true → list_any (nat_le n) columns ≡ true
between-behind n m w [] l h = cc
between-behind n m w (at ∷ columns) l h = elim (or_cases (is_between m w at) (list_any (is_between m w) columns) h) [
  | inl b ↦
      let most = leb-true m at (and_parts (nat_le m at) (nat_lt (at - m) w) b).0 in
      ap (λ z. z || list_any (nat_le n) columns) (le-leb n at (omega (arith, most, l)))
  | inr b ↦ ap (λ z. nat_le n at || z) (between-behind n m w columns l b) ∙ or-true (nat_le n at)
]

none-between : (m w : ℕ) (columns : List ℕ) → list_any (is_between m w) columns ≡ false → list_all (λ at. not (is_between m w at)) columns ≡ true
none-between m w [] h = refl
none-between m w (at ∷ columns) h =
    let b = neither (is_between m w at) (list_any (is_between m w) columns) h in
    and_true (not (is_between m w at)) (list_all (λ at. not (is_between m w at)) columns) (ap not b.0) (none-between m w columns b.1)

some-first : (ps : List Plan) → 0 < length ps → (q : Plan) × (qs : List Plan) × (ps ≡ [] ++ (q ∷ qs))
some-first [] h = absurd (omega (arith, h))
some-first (q ∷ qs) h = (q, qs, refl)

-- ---- a left join to a join with the table of a Scan that stands on the left

module _ (s : Tables) (form : IsWellFormed s) (p : Plan) (b a : List Plan) (d c : Expr) (es : List Expr) (x : StandingScan) (stands : Contains (standing s [] p) x) (more : 0 < length (b ++ a)) where
  abbrev n : ℕ
  n = width s p

  abbrev m : ℕ
  m = width s p + widths s b

  abbrev w : ℕ
  w = width s (Scan x.table)

  abbrev z : ℕ
  z = widths s a

  abbrev own_columns : List Expr
  own_columns = columns_from (length x.before) w

  abbrev names : List Expr
  names = renamed m own_columns z

  abbrev by : ℕ → Expr
  by = at_place names

  abbrev right : Plan
  right = Join (plans (b ++ (Scan x.table ∷ a))) d

  abbrev rest : Plan
  rest = Join (plans (b ++ a)) (truth_const true)

  abbrev right_by : ℕ → Expr
  right_by = at_place (drop n names)

  abbrev both : Expr
  both = both_conditions names n d c

  module _ (kl ms : Kinds) (of_left : plan_kinds s p ≡ Some kl) (kr : JoinKinds s b (Scan x.table) a d) (truth : IsTruth (kl ++ kr.all) c) (of_all : kinds_of (exprs es) (kl ++ kr.all) ≡ Some ms) where
    abbrev kb : Kinds
    kb = kr.around.first

    abbrev kt : Kinds
    kt = kr.around.own

    abbrev ka : Kinds
    ka = kr.around.last

    abbrev there : HasTable s x kl
    there = has-table s p kl of_left x stands

    same-kinds : there.own ≡ kt
    same-kinds = same_Some there.own kt (sym there.of_own ∙ kr.around.of_own)

    left-long : length kl ≡ n
    left-long = ap (λ o. option_map_or length o 0) (sym of_left)

    before-long : length kb ≡ widths s b
    before-long = sides-wide s b kb kr.around.of_first

    own-long : length kt ≡ w
    own-long = ap (λ o. option_map_or length o 0) (sym kr.around.of_own)

    after-long : length ka ≡ z
    after-long = sides-wide s a ka kr.around.of_last

    front-long : length (kl ++ kb) ≡ m
    front-long = let e = length-append kl kb in let f = left-long in let g = before-long in omega (arith, e, f, g)

    all-long : length (kl ++ kr.all) ≡ (m + w) + z
    all-long =
        let e = length-append kl kr.all in
        let f : length (kb ++ (kt ++ ka)) ≡ length kr.all = ap length kr.around.together in
        let g = length-append kb (kt ++ ka) in
        let h = length-append kt ka in
        let i = left-long in
        let j = before-long in
        let k = own-long in
        let l = after-long in
        omega (arith, e, f, g, h, i, j, k, l)

    -- the kinds without those of the member
    abbrev left_kinds : Kinds
    left_kinds = kl ++ (kb ++ ka)

    rest-kinds : plan_kinds s rest ≡ Some (kb ++ ka)
    rest-kinds =
        let q = some-first (b ++ a) more in
        checked-truth (truth_const true) (beside_all (kinds_of_each s (plans (b ++ a)))) (kb ++ ka) (others-kinds s b a [] q.0 q.1 kb ka kr.around.of_first kr.around.of_last q.2) refl

    own-kind : (y : ℕ) → y < length kt → KeepsKind (at_place own_columns) kt ((kl ++ kb) ++ ka) y
    own-kind y h =
        let long = own-long in
        let own : length there.own ≡ length kt = ap length same-kinds in
        ap (λ e. kind_of e ((kl ++ kb) ++ ka)) (place-columns (length x.before) w y (omega (arith, h, long)))
        ∙ ap (λ ks. slice_get ks (length x.before + y)) (append_assoc kl kb ka)
        ∙ ap (λ ks. slice_get (ks ++ (kb ++ ka)) (length x.before + y)) (sym there.together)
        ∙ ap (λ ks. slice_get ks (length x.before + y)) (regrouped x.before there.own there.last (kb ++ ka))
        ∙ slice_get-behind x.before (there.own ++ (there.last ++ (kb ++ ka))) (length x.before + y) y (omega arith)
        ∙ get-left there.own (there.last ++ (kb ++ ka)) y (omega (arith, h, own))
        ∙ ap (λ ks. slice_get ks y) same-kinds

    -- a column has the kind that it had
    named-kind : (at : ℕ) → at < length (kl ++ kr.all) → KeepsKind by (kl ++ kr.all) left_kinds at
    named-kind at h =
        let whole : (kl ++ kb) ++ (kt ++ ka) ≡ kl ++ kr.all = append_assoc kl kb (kt ++ ka) ∙ ap (λ r. kl ++ r) kr.around.together in
        let long : length ((kl ++ kb) ++ (kt ++ ka)) ≡ length (kl ++ kr.all) = ap length whole in
        ap (λ ks. kind_of (by at) ks) (sym (append_assoc kl kb ka))
        ∙ renamed-kind (kl ++ kb) kt ka m z own_columns front-long after-long (long-columns (length x.before) w ∙ sym own-long) at (omega (arith, h, long)) (λ y i e. own-kind y i)
        ∙ ap (λ ks. slice_get ks at) whole

    one-kind : (e : Expr) (k : SqlType) → kind_of e (kl ++ kr.all) ≡ Some k → kind_of (put by e) left_kinds ≡ Some k
    one-kind e k t = put-kind by (kl ++ kr.all) left_kinds e k (on-weaker (λ at. at < length (kl ++ kr.all)) (KeepsKind by (kl ++ kr.all) left_kinds) named-kind e (columns-in_range e (kl ++ kr.all) k t)) t

    all-kinds : kinds_of (exprs (map (put by) es)) left_kinds ≡ Some ms
    all-kinds =
        ap (λ es. kinds_of es left_kinds) (sym (put_each-exprs by es))
        ∙ put_each-kinds by (kl ++ kr.all) left_kinds (exprs es) ms (on_each-weaker (λ at. at < length (kl ++ kr.all)) (KeepsKind by (kl ++ kr.all) left_kinds) named-kind (exprs es) (each-in_range (exprs es) (kl ++ kr.all) ms of_all)) of_all

    right-kind : (at : ℕ) → at < length kr.all → KeepsKind right_by kr.all left_kinds at
    right-kind at h =
        let e = length-append kl kr.all in
        let f = left-long in
        ap (λ e. kind_of e left_kinds) (drop-place n names at) ∙ named-kind (n + at) (omega (arith, h, e, f)) ∙ slice_get-behind kl kr.all (n + at) at (omega (arith, f))

    -- the conditions of both together are a truth
    both-truth : IsTruth left_kinds both
    both-truth =
        and_then-kind left_kinds (put right_by d) (put by c)
        (put-kind right_by kr.all left_kinds d kind.Bool (on-weaker (λ at. at < length kr.all) (KeepsKind right_by kr.all left_kinds) right-kind d (columns-in_range d kr.all kind.Bool kr.truth)) kr.truth)
        (one-kind c kind.Bool truth)

    rest-long : width s rest ≡ widths s b + z
    rest-long =
        let e : width s rest ≡ length (kb ++ ka) = ap (λ o. option_map_or length o 0) rest-kinds in
        let f = length-append kb ka in
        let g = before-long in
        let h = after-long in
        omega (arith, e, f, g, h)

    right-long : width s right ≡ widths s b + (w + z)
    right-long =
        let e : width s right ≡ length kr.all = ap (λ o. option_map_or length o 0) kr.of_all in
        let f : length (kb ++ (kt ++ ka)) ≡ length kr.all = ap length kr.around.together in
        let g = length-append kb (kt ++ ka) in
        let h = length-append kt ka in
        let i = before-long in
        let j = own-long in
        let k = after-long in
        omega (arith, e, f, g, h, i, j, k)

    module _ (db : Database) (meets : MeetsSchema s db) (l : Row) (dl : Contains (rows_of s p db) l) where
      -- the row of the table that stands in it
      abbrev has : HasRow db x l
      has = has-row s db meets p kl of_left x stands l dl

      abbrev rows : List Row
      rows = table_rows db x.table

      abbrev firsts : List Row
      firsts = member_rows s b db

      abbrev lasts : List Row
      lasts = member_rows s a db

      left-wide : length l ≡ n
      left-wide = wide-kinds kl n (rows_of s p db) left-long (rows-fit s db (tables_fit s db meets) p kl of_left) l dl

      left-fits : HasKinds kl l
      left-fits = each_from_recursion (HasKinds kl) (rows_of s p db) (rows-fit s db (tables_fit s db meets) p kl of_left) l dl

      rows-wide : AreWide w rows
      rows-wide = wide-kinds kt w rows own-long (rows-fit s db (tables_fit s db meets) (Scan x.table) kt kr.around.of_own)

      firsts-wide : AreWide (widths s b) firsts
      firsts-wide = wide-members s db (tables_fit s db meets) b kb kr.around.of_first

      lasts-wide : AreWide z lasts
      lasts-wide = wide-members s db (tables_fit s db meets) a ka kr.around.of_last

      -- a column has the value that it has beside the row of the table, and any rows of the others
      module _ (u v : Row) (lu : length u ≡ widths s b) (lv : length v ≡ z) where
        front-wide : length (l ++ u) ≡ m
        front-wide = let e = length-append l u in let f = left-wide in omega (arith, e, f, lu)

        named-value : (q : Row) → length q ≡ w → (at : ℕ) → at < length (kl ++ kr.all) → ((y : ℕ) → y < w → at ≡ m + y → cell_at ((l ++ u) ++ v) (length x.before + y) ≡ cell_at q y) → Gives by (l ++ (u ++ v)) (l ++ (u ++ (q ++ v))) at
        named-value q lq at h own =
            let long = all-long in
            let e = length-append (l ++ u) (q ++ v) in
            let f = length-append q v in
            let g = front-wide in
            ap (λ r. value_of (by at) r) (sym (append_assoc l u v))
            ∙ renamed-value (l ++ u) q v m z own_columns g lv (long-columns (length x.before) w ∙ sym lq) at (omega (arith, h, long, e, f, g, lq, lv))
            (λ y i o. ap (λ e. value_of e ((l ++ u) ++ v)) (place-columns (length x.before) w y (omega (arith, i, lq))) ∙ own y (omega (arith, i, lq)) o)
            ∙ ap (λ r. cell_at r at) (append_assoc l u (q ++ v))

        beside-value : (at : ℕ) → at < length (kl ++ kr.all) → Gives by (l ++ (u ++ v)) (l ++ (u ++ (has.own ++ v))) at
        beside-value at h = named-value has.own (rows-wide has.own has.member) at h (λ y i o.
            let own = rows-wide has.own has.member in
            ap (λ r. cell_at r (length x.before + y)) (append_assoc l u v) ∙ standing-cell db x l (u ++ v) has y (omega (arith, i, own)))

        one-value : (e : Expr) (k : SqlType) → kind_of e (kl ++ kr.all) ≡ Some k → value_of (put by e) (l ++ (u ++ v)) ≡ value_of e (l ++ (u ++ (has.own ++ v)))
        one-value e k t = put-value by (l ++ (u ++ v)) (l ++ (u ++ (has.own ++ v))) e (on-weaker (λ at. at < length (kl ++ kr.all)) (Gives by (l ++ (u ++ v)) (l ++ (u ++ (has.own ++ v)))) beside-value e (columns-in_range e (kl ++ kr.all) k t))

        each-value : (fs : List Expr) (ks : Kinds) → kinds_of (exprs fs) (kl ++ kr.all) ≡ Some ks → values_of (exprs (map (put by) fs)) (l ++ (u ++ v)) ≡ values_of (exprs fs) (l ++ (u ++ (has.own ++ v)))
        each-value [] ks t = refl
        each-value (e ∷ fs) ks t =
            let g = first_given (kind_of e (kl ++ kr.all)) (kinds_of (exprs fs) (kl ++ kr.all)) ks t in
            λ i. one-value e g.0 g.1 i ∷ each-value fs g.2.0 g.2.1 i

        right-value : (at : ℕ) → at < length kr.all → Gives right_by (l ++ (u ++ v)) (u ++ (has.own ++ v)) at
        right-value at h =
            let e = length-append kl kr.all in
            let f = left-long in
            let g = left-wide in
            ap (λ e. value_of e (l ++ (u ++ v))) (drop-place n names at) ∙ beside-value (n + at) (omega (arith, h, e, f)) ∙ cell_at-right l (u ++ (has.own ++ v)) (n + at) at (omega (arith, g))

        condition-holds : holds both (l ++ (u ++ v)) ≡ (holds d (u ++ (has.own ++ v)) && holds c (l ++ (u ++ (has.own ++ v))))
        condition-holds =
            let first = put-holds right_by (l ++ (u ++ v)) (u ++ (has.own ++ v)) d (on-weaker (λ at. at < length kr.all) (Gives right_by (l ++ (u ++ v)) (u ++ (has.own ++ v))) right-value d (columns-in_range d kr.all kind.Bool kr.truth)) in
            let second = put-holds by (l ++ (u ++ v)) (l ++ (u ++ (has.own ++ v))) c (on-weaker (λ at. at < length (kl ++ kr.all)) (Gives by (l ++ (u ++ v)) (l ++ (u ++ (has.own ++ v)))) beside-value c (columns-in_range c (kl ++ kr.all) kind.Bool truth)) in
            holds-and_then (l ++ (u ++ v)) (put right_by d) (put by c) ∙ (λ i. first i && second i)

      -- ---- NULLs on the right

      padded-fits : (ks : Kinds) → HasKinds (kl ++ ks) (l ++ nulls (length ks))
      padded-fits ks = kinds-append kl ks l (nulls (length ks)) left-fits (nulls-fit ks)

      right-nulls : nulls (width s right) ≡ nulls (widths s b) ++ (nulls w ++ nulls z)
      right-nulls = ap nulls right-long ∙ nulls-append (widths s b) (w + z) ∙ ap (λ r. nulls (widths s b) ++ r) (nulls-append w z)

      rest-nulls : nulls (width s rest) ≡ nulls (widths s b) ++ nulls z
      rest-nulls = ap nulls rest-long ∙ nulls-append (widths s b) z

      -- an expression that names no column of the member
      other-value : (e : Expr) (k : SqlType) → kind_of e (kl ++ kr.all) ≡ Some k → list_any (is_between m w) (columns e) ≡ false → value_of e (l ++ nulls (width s right)) ≡ value_of (put by e) (l ++ nulls (width s rest))
      other-value e k t h =
          let u = nulls (widths s b) in
          let v = nulls z in
          let apart = on-passing (λ at. not (is_between m w at)) e (none-between m w (columns e) h) in
          let within = columns-in_range e (kl ++ kr.all) k t in
          ap (λ r. value_of e (l ++ r)) right-nulls
          ∙ sym (put-value by (l ++ (u ++ v)) (l ++ (u ++ (nulls w ++ v))) e
          (on-weaker (λ at. (not (is_between m w at) ≡ true) × (at < length (kl ++ kr.all))) (Gives by (l ++ (u ++ v)) (l ++ (u ++ (nulls w ++ v))))
          (λ at i. named-value u v (nulls-long (widths s b)) (nulls-long z) (nulls w) (nulls-long w) at i.1 (λ y g o. absurd (not-own at y g o i.0)))
          e (on-both (λ at. not (is_between m w at) ≡ true) (λ at. at < length (kl ++ kr.all)) e apart within)))
          ∙ ap (λ r. value_of (put by e) (l ++ r)) (sym rest-nulls)
        where
          not-own : (at y : ℕ) → y < w → at ≡ m + y → not (is_between m w at) ≡ true → ⊥
          not-own at y g o i =
              let between : is_between m w at ≡ true = and_true (nat_le m at) (nat_lt (at - m) w) (le-leb m at (omega (arith, o))) (lt-ltb (at - m) w (omega (arith, o, g))) in
              true≢false (sym i ∙ ap not between)

      -- one that is NULL on both
      own-value : (e : Expr) (k : SqlType) → kind_of e (kl ++ kr.all) ≡ Some k → list_any (is_between m w) (columns e) ≡ true → is_null_behind n (put by e) ≡ true → value_of e (l ++ nulls (width s right)) ≡ value_of (put by e) (l ++ nulls (width s rest))
      own-value e k t h i =
          let g = and_parts (is_strict (put by e)) (list_any (nat_le n) (columns (put by e))) i in
          let right_fits : HasKinds (kl ++ kr.all) (l ++ nulls (width s right)) = subst (λ j. HasKinds (kl ++ kr.all) (l ++ nulls j)) (ap (λ o. option_map_or length o 0) (sym kr.of_all)) (padded-fits kr.all) in
          let rest_fits : HasKinds left_kinds (l ++ nulls (width s rest)) = subst (λ j. HasKinds left_kinds (l ++ nulls j)) (ap (λ o. option_map_or length o 0) (sym rest-kinds)) (padded-fits (kb ++ ka)) in
          null-is (value_of e (l ++ nulls (width s right))) (value_of (put by e) (l ++ nulls (width s rest)))
          (null-exactly (kl ++ kr.all) (l ++ nulls (width s right)) (fits_row (kl ++ kr.all) (l ++ nulls (width s right)) right_fits) e k t (strict-back by e g.0)
          ∙ behind-null n (width s right) l (columns e) left-wide (between-behind n m w (columns e) (omega arith) h))
          (null-exactly left_kinds (l ++ nulls (width s rest)) (fits_row left_kinds (l ++ nulls (width s rest)) rest_fits) (put by e) k (one-kind e k t) g.0
          ∙ behind-null n (width s rest) l (columns (put by e)) left-wide g.1)

      padded-value : (e : Expr) (k : SqlType) → kind_of e (kl ++ kr.all) ≡ Some k → is_kept names n m w e ≡ true → value_of e (l ++ nulls (width s right)) ≡ value_of (put by e) (l ++ nulls (width s rest))
      padded-value e k t h = elim (cases_Bool (list_any (is_between m w) (columns e))) [
        | inl i ↦ own-value e k t i (ap (λ q. not q || is_null_behind n (put by e)) (sym i) ∙ h)
        | inr i ↦ other-value e k t i
      ]

      padded-values : (fs : List Expr) (ks : Kinds) → kinds_of (exprs fs) (kl ++ kr.all) ≡ Some ks → list_all (is_kept names n m w) fs ≡ true →
          values_of (exprs fs) (l ++ nulls (width s right)) ≡ values_of (exprs (map (put by) fs)) (l ++ nulls (width s rest))
      padded-values [] ks t h = refl
      padded-values (e ∷ fs) ks t h =
          let g = first_given (kind_of e (kl ++ kr.all)) (kinds_of (exprs fs) (kl ++ kr.all)) ks t in
          let i = and_parts (is_kept names n m w e) (list_all (is_kept names n m w) fs) h in
          λ j. padded-value e g.0 g.1 i.0 j ∷ padded-values fs g.2.0 g.2.1 i.1 j

      -- ---- the partners

      module _ (target : Table) (is_target : slice_get s x.table ≡ Some target) (key : Key) (of_table : Contains target.keys key) (tied : all_tied c (length x.before) m (with_itself key.columns) ≡ true) where
        inside : AllBelow w key.columns
        inside =
            let form_table : IsTable s target = recursion_get (IsTable s) s x.table target form is_target in
            let form_key : IsKey target key = each_from_recursion (IsKey target) target.keys form_table.keys key of_table in
            let fits = row_fits db target rows (table_meets s db meets x.table target is_target) has.own has.member in
            subst (λ j. AllBelow j key.columns) (sym (row_length target.columns has.own fits) ∙ rows-wide has.own has.member) form_key.columns

        -- with a row of the table that does not agree with the left row's on the key there is none
        apart : (u q v : Row) → length u ≡ widths s b → Contains rows q → agree (with_itself key.columns) has.own q ≡ false → (holds d (u ++ (q ++ v)) && holds c (l ++ (u ++ (q ++ v)))) ≡ false
        apart u q v lu cq e = elim (cases_Bool (holds d (u ++ (q ++ v)) && holds c (l ++ (u ++ (q ++ v))))) [
          | inl t ↦
              let front = length-append l u in
              let lw = left-wide in
              let own = rows-wide has.own has.member in
              let same = all_tied-agree c (length x.before) m (with_itself key.columns) (l ++ (u ++ (q ++ v))) has.own q tied
              (itself-each (λ y. cell_at (l ++ (u ++ (q ++ v))) (length x.before + y.0) ≡ cell_at has.own y.0) w key.columns inside (λ k h. standing-cell db x l (u ++ (q ++ v)) has k (omega (arith, h, own))))
              (itself-each (λ y. cell_at (l ++ (u ++ (q ++ v))) (m + y.1) ≡ cell_at q y.1) w key.columns inside (λ k h.
              ap (λ r. cell_at r (m + k)) (sym (append_assoc l u (q ++ v))) ∙ part-at (l ++ u) q v m k (omega (arith, front, lw, lu)) (let lq = rows-wide q cq in omega (arith, h, lq))))
              (and_parts (holds d (u ++ (q ++ v))) (holds c (l ++ (u ++ (q ++ v)))) t).1 in
              absurd (true≢false (sym same ∙ e))
          | inr f ↦ f
        ]

        module _ {B : Type 0} (given left : Row → B) (equal : (u v : Row) → length u ≡ widths s b → length v ≡ z → given (l ++ (u ++ (has.own ++ v))) ≡ left (l ++ (u ++ v))) where
          abbrev before : Row → List B
          before r = cond (holds d r) (cond (holds c (l ++ r)) (given (l ++ r) ∷ []) []) []

          abbrev after : Row → List B
          after r = cond (holds both (l ++ r)) (left (l ++ r) ∷ []) []

          before-both : (r : Row) → before r ≡ cond (holds d r && holds c (l ++ r)) (given (l ++ r) ∷ []) []
          before-both r = cond-both (holds d r) (holds c (l ++ r)) (given (l ++ r) ∷ [])

          before-none : (u q v : Row) → length u ≡ widths s b → Contains rows q → agree (with_itself key.columns) has.own q ≡ false → before (u ++ (q ++ v)) ≡ []
          before-none u q v lu cq e = before-both (u ++ (q ++ v)) ∙ ap (λ t. cond t (given (l ++ (u ++ (q ++ v))) ∷ []) []) (apart u q v lu cq e)

          before-after : (u v : Row) → length u ≡ widths s b → length v ≡ z → before (u ++ (has.own ++ v)) ≡ after (u ++ v)
          before-after u v lu lv = before-both (u ++ (has.own ++ v)) ∙ (λ i. cond (sym (condition-holds u v lu lv) i) (equal u v lu lv i ∷ []) [])

          partners-same : with_partners (holds c) (width s right) (rows_of s right db) given l ≡ with_partners (holds both) (width s rest) (rows_of s rest db) left l
          partners-same =
              let kh = key_holds db target rows (table_meets s db meets x.table target is_target) key of_table in
              flat_map-filter (λ r. cond (holds c (l ++ r)) (given (l ++ r) ∷ []) []) (holds d) (member_rows s (b ++ (Scan x.table ∷ a)) db)
              ∙ ap (flat_map before) (rows-one s db b (Scan x.table) a)
              ∙ walk-three before firsts rows lasts
              ∙ flat_map_agree_on _ (λ u. flat_map (λ v. after (u ++ v)) lasts) firsts (λ u cu.
              walk-agreeing key rows kh (λ q. flat_map (λ v. before (u ++ (q ++ v))) lasts) has.own has.member
              (λ q cq e. flat_map_nothing _ lasts (λ v cv. before-none u q v (firsts-wide u cu) cq e))
              ∙ flat_map_agree_on _ _ lasts (λ v cv. before-after u v (firsts-wide u cu) (lasts-wide v cv)))
              ∙ sym (flat_map-pairs after firsts lasts)
              ∙ ap (flat_map after) (sym (rows-append s db b a))
              ∙ ap (flat_map after) (sym (filter_keeps (holds (truth_const true)) (member_rows s (b ++ a) db) (λ r i. refl)))

        -- it is without a partner where it was
        alone-same : is_alone (holds c) (rows_of s right db) l ≡ is_alone (holds both) (rows_of s rest db) l
        alone-same =
            walk-alone (λ r. holds c (l ++ r)) (rows_of s right db)
            ∙ ap is_empty (partners-same (λ r. true) (λ r. true) (λ u v lu lv. refl))
            ∙ sym (walk-alone (λ r. holds both (l ++ r)) (rows_of s rest db))

        one-row : list_all (is_kept names n m w) es ≡ true →
            with_partners (holds c) (width s right) (rows_of s right db) (values_of (exprs es)) l ++ without_partner (holds c) (width s right) (rows_of s right db) (values_of (exprs es)) l
            ≡ with_partners (holds both) (width s rest) (rows_of s rest db) (values_of (exprs (map (put by) es))) l ++ without_partner (holds both) (width s rest) (rows_of s rest db) (values_of (exprs (map (put by) es))) l
        one-row kept =
            let partners = partners-same (values_of (exprs es)) (values_of (exprs (map (put by) es))) (λ u v lu lv. sym (each-value u v lu lv es ms of_all)) in
            let padded = padded-values es ms of_all kept in
            λ i. partners i ++ cond (alone-same i) (padded i ∷ []) []

  again-keeps : IsTyped s (Project es (Left p right c)) → ties_key s m c x ≡ true → list_all (is_kept names n m w) es ≡ true → Keeps s (Project es (Left p right c)) (over_others names es p n (b ++ a) d c).0
  again-keeps t tied kept =
      let k = some_of (plan_kinds s (Project es (Left p right c))) t in
      let f = found (λ (key : Key). all_tied c (length x.before) m (with_itself key.columns)) (keys_of s x.table) tied in
      let key : Found (λ (key : Key). all_tied c (length x.before) m (with_itself key.columns)) (keys_of s x.table) f.0 f.1 = f.2 in
      option_and_then_some (kinds_of (exprs es)) (plan_kinds s (Left p right c)) k.0 k.1 (λ all i j.
      let g = checked-given c (joined (plan_kinds s p) (plan_kinds s right)) all i in
      let h = both_given (plan_kinds s p) (plan_kinds s right) all g.0 in
      let kr = join-kinds s b (Scan x.table) a d (ap is_some h.2.1) in
      let same : h.2.0 ≡ kr.all = same_Some h.2.0 kr.all (sym h.2.1 ∙ kr.of_all) in
      let whole : h.0 ++ kr.all ≡ all = ap (λ ks. h.0 ++ ks) (sym same) ∙ h.2.2 in
      let truth : IsTruth (h.0 ++ kr.all) c = subst (λ ks. IsTruth ks c) (sym whole) g.1 in
      let of_all : kinds_of (exprs es) (h.0 ++ kr.all) ≡ Some k.0 = ap (kinds_of (exprs es)) whole ∙ j in
      let there = scan-kinds s x.table kr.around.own kr.around.of_own in
      let of_table = subst (λ keys. Contains keys f.1) (ap (λ o. option_map_or (λ (t : Table). t.keys) o []) there.is_found) (get_member (keys_of s x.table) f.0 f.1 key.at) in
      let over = checked-truth both (joined (plan_kinds s p) (plan_kinds s rest)) (h.0 ++ (kr.around.first ++ kr.around.last))
      (λ i. joined (h.1 i) (rest-kinds h.0 k.0 h.1 kr truth of_all i)) (both-truth h.0 k.0 h.1 kr truth of_all) in
      record {
        kinds = ap (option_and_then (kinds_of (exprs (map (put by) es)))) over ∙ all-kinds h.0 k.0 h.1 kr truth of_all ∙ sym k.1;
        rows = λ db q.
            IsPermutation-trans _ _ _
            (left-by_rows (holds c) (width s right) (rows_of s right db) (values_of (exprs es)) (rows_of s p db))
            (IsPermutation-trans _ _ _
            (bag_same (flat_map_agree_on _ _ (rows_of s p db) (λ l dl. one-row h.0 k.0 h.1 kr truth of_all db q l dl there.found there.is_found f.1 of_table key.passes kept)))
            (IsPermutation-sym _ _ (left-by_rows (holds both) (width s rest) (rows_of s rest db) (values_of (exprs (map (put by) es))) (rows_of s p db))));
      })

  -- of the parts p and q the weight 3(4p(12q) + 1) + 1 falls to 3(4p(3q) + 1) + 1
  times_four : (u q : ℕ) → u * (3 * (4 * q)) ≡ 4 * (u * (3 * q))
  times_four u q = omega arith

  positive_times : (u q : ℕ) → 0 < u → 0 < q → 0 < u * q
  positive_times u q h k = let l = mul-lt-mul_of_pos_right h k in omega (arith, l)

  again-weight : 3 * (4 * weight p * (3 * weights_product (plans (b ++ a))) + 1) + 1 < 3 * (4 * weight p * weight right + 1) + 1
  again-weight =
      let old : weight right ≡ 3 * (4 * weights_product (plans (b ++ a))) = ap (λ q. 3 * q) (without-weight b x.table a) in
      let big : 4 * weight p * weight right ≡ 4 * (4 * weight p * (3 * weights_product (plans (b ++ a)))) =
      ap (λ q. 4 * weight p * q) old ∙ times_four (4 * weight p) (weights_product (plans (b ++ a))) in
      let first = weight_positive p in
      let second = product_positive (plans (b ++ a)) in
      let some = positive_times (4 * weight p) (3 * weights_product (plans (b ++ a))) (omega (arith, first)) (omega (arith, second)) in
      omega (arith, big, some)

  again-falls : Falls s (Project es (Left p right c)) (over_others names es p n (b ++ a) d c)
  again-falls = again-weight

-- ---- the rule

-- the members are those before a Scan that was found, it, and those behind it
between-place : (before : List Plan) (q : Plan) (ps : List Plan) (y : Place) → Contains (scan_between before q ps) y → before ++ (q ∷ ps) ≡ y.before ++ (Scan y.table ∷ y.after)
between-place before (Scan table) ps y i =
    let here : Place = record { before = before; table = table; after = ps } in
    let is : here ≡ y = Contains-only here y i in
    subst (λ y. before ++ (Scan table ∷ ps) ≡ y.before ++ (Scan y.table ∷ y.after)) is refl
between-place before UnitPlan ps y i = absurd (Contains-none y i)
between-place before (Empty ks) ps y i = absurd (Contains-none y i)
between-place before (Select c q) ps y i = absurd (Contains-none y i)
between-place before (Project es q) ps y i = absurd (Contains-none y i)
between-place before (Join qs c) ps y i = absurd (Contains-none y i)
between-place before (Left q r c) ps y i = absurd (Contains-none y i)
between-place before (AntiJoin q r c) ps y i = absurd (Contains-none y i)
between-place before (UnionAll qs) ps y i = absurd (Contains-none y i)
between-place before (Distinct q) ps y i = absurd (Contains-none y i)

scan-place : (before ps : List Plan) (y : Place) → Contains (scans before ps) y → before ++ ps ≡ y.before ++ (Scan y.table ∷ y.after)
scan-place before [] y i = absurd (Contains-none y i)
scan-place before (q ∷ ps) y i = elim (Contains-append_cases (scan_between before q ps) (scans (before ++ q ∷ []) ps) y i) [
  | inl h ↦ between-place before q ps y h
  | inr h ↦ sym (append_assoc before (q ∷ []) ps) ∙ scan-place (before ++ q ∷ []) ps y h
]

-- what was found
record IsAgain (s : Tables) (es : List Expr) (p : Plan) (ps : List Plan) (d c : Expr) (r : Step) : Type 0 where
  scan : StandingScan
  stands : Contains (standing s [] p) scan
  before : List Plan
  after : List Plan
  members : ps ≡ before ++ (Scan scan.table ∷ after)
  more : 0 < length (before ++ after)
  tied : ties_key s (width s p + widths s before) c scan ≡ true
  kept : list_all (is_kept (renamed (width s p + widths s before) (columns_from (length scan.before) (width s (Scan scan.table))) (widths s after)) (width s p) (width s p + widths s before) (width s (Scan scan.table))) es ≡ true
  made : over_others (renamed (width s p + widths s before) (columns_from (length scan.before) (width s (Scan scan.table))) (widths s after)) es p (width s p) (before ++ after) d c ≡ r

again : (s : Tables) (es : List Expr) (p : Plan) (ps : List Plan) (d c : Expr) (r : Step) →
    first_made (λ y. first_made (without_again s es p d c y) (standing s [] p)) (scans [] ps) ≡ Some r → IsAgain s es p ps d c r
again s es p ps d c r e =
    let g = made-given (λ y. first_made (without_again s es p d c y) (standing s [] p)) (scans [] ps) r e in
    let y = g.0 in
    let h = made-given (without_again s es p d c y) (standing s [] p) r g.2 in
    let x = h.0 in
    let m = columns_before s p y in
    let v = then_given (is_again s es p c y x) (over_others (named_left s p y x) es p (width s p) (others y) d c) r h.2 in
    let kept = list_all (is_kept (named_left s p y x) (width s p) m (width s (Scan y.table))) es in
    let i = and_parts (nat_eq x.table y.table) (nat_lt 0 (length (others y)) && (ties_key s m c x && kept)) v.0 in
    let j = and_parts (nat_lt 0 (length (others y))) (ties_key s m c x && kept) i.1 in
    let k = and_parts (ties_key s m c x) kept j.1 in
    let is : x.table ≡ y.table = eqb-true x.table y.table i.0 in
    record {
      scan = x;
      stands = h.1;
      before = y.before;
      after = y.after;
      members = scan-place [] ps y g.1 ∙ ap (λ t. y.before ++ (Scan t ∷ y.after)) (sym is);
      more = ltb-true 0 (length (others y)) j.0;
      tied = k.0;
      kept = subst (λ t. list_all (is_kept (renamed m (columns_from (length x.before) (width s (Scan t))) (widths s y.after)) (width s p) m (width s (Scan t))) es ≡ true) (sym is) k.1;
      made = ap (λ t. over_others (renamed m (columns_from (length x.before) (width s (Scan t))) (widths s y.after)) es p (width s p) (others y) d c) is ∙ v.1;
    }

members-keeps : (s : Tables) → IsWellFormed s → (es : List Expr) (p : Plan) (c : Expr) (ps : List Plan) (d : Expr) (r : Step) → IsTyped s (Project es (Left p (Join (plans ps) d) c)) → IsAgain s es p ps d c r →
    Keeps s (Project es (Left p (Join (plans ps) d) c)) r.0
members-keeps s form es p c ps d r t u =
    subst (λ qs. Keeps s (Project es (Left p (Join (plans qs) d) c)) r.0) (sym u.members)
    (subst (λ (y : Step). Keeps s (Project es (Left p (Join (plans (u.before ++ (Scan u.scan.table ∷ u.after))) d) c)) y.0) u.made
    (again-keeps s form p u.before u.after d c es u.scan u.stands u.more (subst (λ qs. IsTyped s (Project es (Left p (Join (plans qs) d) c))) u.members t) u.tied u.kept))

members-falls : (s : Tables) → IsWellFormed s → (es : List Expr) (p : Plan) (c : Expr) (ps : List Plan) (d : Expr) (r : Step) → IsAgain s es p ps d c r → Falls s (Project es (Left p (Join (plans ps) d) c)) r
members-falls s form es p c ps d r u =
    subst (λ qs. Falls s (Project es (Left p (Join (plans qs) d) c)) r) (sym u.members)
    (subst (Falls s (Project es (Left p (Join (plans (u.before ++ (Scan u.scan.table ∷ u.after))) d) c))) u.made (again-falls s form p u.before u.after d c es u.scan u.stands u.more))

with-keeps : (s : Tables) → IsWellFormed s → (es : List Expr) (p : Plan) (c : Expr) (q : Plan) (r : Step) → IsTyped s (Project es (Left p q c)) → with_right s es p c q ≡ Some r → Keeps s (Project es (Left p q c)) r.0
with-keeps s form es p c (Join ps d) r t e =
    subst (λ qs. Keeps s (Project es (Left p (Join qs d) c)) r.0) (plans-each ps)
    (members-keeps s form es p c (each ps) d r (subst (λ qs. IsTyped s (Project es (Left p (Join qs d) c))) (sym (plans-each ps)) t) (again s es p (each ps) d c r e))
with-keeps s form es p c _ r t e = cc

with-falls : (s : Tables) → IsWellFormed s → (es : List Expr) (p : Plan) (c : Expr) (q : Plan) (r : Step) → with_right s es p c q ≡ Some r → Falls s (Project es (Left p q c)) r
with-falls s form es p c (Join ps d) r e =
    subst (λ qs. Falls s (Project es (Left p (Join qs d) c)) r) (plans-each ps) (members-falls s form es p c (each ps) d r (again s es p (each ps) d c r e))
with-falls s form es p c _ r e = cc

over-keeps : (s : Tables) → IsWellFormed s → (es : List Expr) (p : Plan) (r : Step) → IsTyped s (Project es p) → over_left s es p ≡ Some r → Keeps s (Project es p) r.0
over-keeps s form es (Left p q c) r t e = with-keeps s form es p c q r t e
over-keeps s form es _ r t e = cc

over-falls : (s : Tables) → IsWellFormed s → (es : List Expr) (p : Plan) (r : Step) → over_left s es p ≡ Some r → Falls s (Project es p) r
over-falls s form es (Left p q c) r e = with-falls s form es p c q r e
over-falls s form es _ r e = cc

pub self_left_member-keeps : KeepsAll self_left_member
self_left_member-keeps s form (Project es p) r t e = over-keeps s form es p r t e
self_left_member-keeps s form _ r t e = cc

pub self_left_member-falls : FallsAll self_left_member
self_left_member-falls s form (Project es p) r t e = over-falls s form es p r e
self_left_member-falls s form _ r t e = cc
