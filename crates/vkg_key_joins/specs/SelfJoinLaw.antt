-- Its laws: a row of the second Scan is with the row itself of the first, or with none.
use Rattle.std.proofs.Common.{◌≡◌, ◌∙◌, ℕ, ◌+◌, ◌<◌, true, List, [], ◌∷◌, ◌++◌, append_assoc, length, length-append, map, Some, sym, ap, subst, arith}
use Rattle.std.specs.Prelude.{nat_eq, nat_le, option_and_then, slice_get}
use Rattle.std.specs.Option.{option_map_or}
use Rattle.std.specs.List.{Contains, filter}
use Rattle.std.proofs.lemmas.Bool.{eqb-true, leb-false}
use Rattle.vkg_lists.proofs.Bags.{bag_same}
use Rattle.vkg_lists.proofs.Bools.{and_parts, not_true}
use Rattle.vkg_lists.proofs.Each.{recursion_get}
use Rattle.vkg_lists.proofs.Heads.{slice_get-behind}
use Rattle.vkg_lists.proofs.Members.{each_from_recursion}
use Rattle.vkg_lists.proofs.Positions.{Found, found, get_member}
use Rattle.vkg_lists.proofs.Results.{then_given}
use Rattle.vkg_lists.specs.Lists.{AllBelow}
use Rattle.std.proofs.lemmas.Option.{same_Some}
use Rattle.vkg_cells.specs.declared.cell.SqlType.TheVariants as kind
use Rattle.vkg_columns.proofs.OnColumns.{columns-in_range, on-all, on-weaker}
use Rattle.vkg_columns.proofs.PutIn.{put-holds, put-kind}
use Rattle.vkg_columns.specs.Columns.{Gives, KeepsKind, at_place, columns_from}
use Rattle.vkg_expr.specs.Expr.{Expr, exprs}
use Rattle.vkg_expr.specs.Strict.{put}
use Rattle.vkg_expr.specs.Typing.{kind_of, kinds_of}
use Rattle.vkg_expr.specs.Value.{holds, values_of}
use Rattle.vkg_schema.specs.declared.table.Key.{Key}
use Rattle.vkg_schema.specs.declared.table.Table.{Table}
use Rattle.vkg_schema.specs.Meets.{IsKey, IsTable, IsWellFormed, MeetsSchema}
use Rattle.vkg_schema.specs.Rows.{Database, Row}
use Rattle.vkg_plan.specs.Kinds.{Tables, beside_all, kinds_of_each, plan_kinds, width}
use Rattle.vkg_plan.specs.Plan.{Plan, Scan, Join, each, plans}
use Rattle.vkg_plan.specs.Rows.{pairs, rows_of}
use Rattle.vkg_rules.specs.declared.rewrite.Fell.TheVariants as fell
use Rattle.vkg_rules.specs.Steps.{Falls, FallsAll, IsTyped, Keeps, KeepsAll, Step}
use Rattle.vkg_rules.specs.Weights.{product_positive}
use Rattle.vkg_shapes.specs.TableRows.{tables_fit}
use Rattle.vkg_keys.specs.Keys.{with_itself}
use Rattle.vkg_keys.specs.Members.{first_two, others, renamed, widths}
use Rattle.vkg_keys.specs.Ties.{all_tied}
use Rattle.vkg_keys.proofs.Places.{AroundKinds, around-kinds, earlier, member_rows, rows-left, rows-two, scans-found, sides-wide, wide-kinds, wide-members, widths-append}
use Rattle.vkg_keys.proofs.RenamedColumns.{get-left, kinds-by_place, long-columns, place-columns, place-value, renamed-long}
use Rattle.vkg_keys.proofs.SelfJoin.{named_again, self_join-rows}
use Rattle.vkg_keys.proofs.TableRows.{key_holds, table_meets}
use Rattle.vkg_key_joins.specs.MembersLaw.{JoinKinds, checked-truth, join-kinds, others-kinds, plans-each, renamed-keeps, scan-kinds, without-weight}
use Rattle.vkg_key_joins.specs.SelfJoin.{is_again, is_twice, named_in_first, over_others, self_join, self_joined, stands_before, ties_key}
use Rattle.vkg_key_joins.specs.Tables.{keys_of}

-- ---- a table at two places, the first behind b, the second behind m more and before a

module _ (s : Tables) (form : IsWellFormed s) (b : List Plan) (table : ℕ) (m a : List Plan) (c : Expr) where
  abbrev first_part : List Plan
  first_part = b ++ (Scan table ∷ m)

  abbrev joined : Plan
  joined = Join (plans (first_part ++ (Scan table ∷ a))) c

  abbrev own : List Expr
  own = columns_from (widths s b) (width s (Scan table))

  abbrev names : List Expr
  names = renamed (widths s first_part) own (widths s a)

  module _ (t : IsTyped s joined) where
    abbrev kinds : JoinKinds s first_part (Scan table) a c
    kinds = join-kinds s first_part (Scan table) a c t

    abbrev about : AroundKinds s first_part (Scan table) a kinds.all
    about = kinds.around

    abbrev within : AroundKinds s b (Scan table) m about.first
    within = around-kinds s b (Scan table) m about.first about.of_first

    same-kinds : within.own ≡ about.own
    same-kinds = same_Some within.own about.own (sym within.of_own ∙ about.of_own)

    as_long : length about.own ≡ width s (Scan table)
    as_long = (scan-kinds s table about.own about.of_own).as_long

    own-long : length own ≡ length about.own
    own-long = long-columns (widths s b) (width s (Scan table)) ∙ sym as_long

    -- a column of the first Scan has the kind that the second Scan's had
    own-kind : (y : ℕ) → y < length about.own → KeepsKind (at_place own) about.own (about.first ++ about.last) y
    own-kind y below =
        let long = as_long in
        let before = sides-wide s b within.first within.of_first in
        let inside = length-append within.first (within.own ++ within.last) in
        let rest = length-append within.own within.last in
        let same : length within.own ≡ length about.own = ap length same-kinds in
        let whole : length (within.first ++ (within.own ++ within.last)) ≡ length about.first = ap length within.together in
        ap (λ e. kind_of e (about.first ++ about.last)) (place-columns (widths s b) (width s (Scan table)) y (omega (arith, below, long)))
        ∙ get-left about.first about.last (widths s b + y) (omega (arith, below, before, inside, rest, same, whole))
        ∙ ap (λ ks. slice_get ks (widths s b + y)) (sym within.together)
        ∙ slice_get-behind within.first (within.own ++ within.last) (widths s b + y) y (omega (arith, before))
        ∙ get-left within.own within.last y (omega (arith, below, same))
        ∙ ap (λ ks. slice_get ks y) same-kinds

    names-kind : (at : ℕ) → at < length kinds.all → KeepsKind (at_place names) kinds.all (about.first ++ about.last) at
    names-kind at below = renamed-keeps s first_part (Scan table) a kinds.all about own own-long at below (λ y h e. own-kind y h)

    names-long : length names ≡ length kinds.all
    names-long =
        let long = renamed-long (widths s first_part) own (widths s a) in
        let first = sides-wide s first_part about.first about.of_first in
        let last = sides-wide s a about.last about.of_last in
        let whole = length-append about.first (about.own ++ about.last) in
        let rest = length-append about.own about.last in
        let mid = own-long in
        let all : length (about.first ++ (about.own ++ about.last)) ≡ length kinds.all = ap length about.together in
        omega (arith, long, first, last, whole, rest, mid, all)

    once-kinds : plan_kinds s (over_others names (first_part ++ a) c).0 ≡ plan_kinds s joined
    once-kinds =
        let left = about.first ++ about.last in
        let there = others-kinds s first_part a b (Scan table) (m ++ a) about.first about.last about.of_first about.of_last (append_assoc b (Scan table ∷ m) a) in
        let truth = put-kind (at_place names) kinds.all left c kind.Bool
        (on-weaker (λ at. at < length kinds.all) (KeepsKind (at_place names) kinds.all left) names-kind c (columns-in_range c kinds.all kind.Bool kinds.truth)) kinds.truth in
        ap (option_and_then (kinds_of (exprs names))) (checked-truth (put (at_place names) c) (beside_all (kinds_of_each s (plans (first_part ++ a)))) left there truth)
        ∙ kinds-by_place names left kinds.all names-long names-kind
        ∙ sym kinds.of_all

    module _ (key : Key) (in_table : (found : Table) → slice_get s table ≡ Some found → Contains found.keys key) (tied : all_tied c (widths s b) (widths s first_part) (with_itself key.columns) ≡ true)
        (db : Database) (meets : MeetsSchema s db) where
      -- the rows of the others
      abbrev other_rows : List Row
      other_rows = pairs (member_rows s b db) (pairs (rows_of s (Scan table) db) (pairs (member_rows s m db) (member_rows s a db)))

      once-rows : rows_of s joined db ≡ rows_of s (over_others names (first_part ++ a) c).0 db
      once-rows =
          let n = widths s b in
          let w = width s (Scan table) in
          let k = widths s m in
          let z = widths s a in
          let fit = tables_fit s db meets in
          let there = scan-kinds s table about.own about.of_own in
          let of_table = table_meets s db meets table there.found there.is_found in
          let key_there = in_table there.found there.is_found in
          let form_table : IsTable s there.found = recursion_get (IsTable s) s table there.found form there.is_found in
          let form_key : IsKey there.found key = each_from_recursion (IsKey there.found) there.found.keys form_table.keys key key_there in
          let wider : widths s first_part ≡ n + (w + k) = widths-append s b (Scan table ∷ m) in
          let again : named_again n w k z ≡ names = ap (λ i. renamed i own z) (sym wider) in
          ap (filter (holds c)) (ap (λ ps. member_rows s ps db) (append_assoc b (Scan table ∷ m) (Scan table ∷ a)) ∙ rows-two s db b (Scan table) m (Scan table) a)
          ∙ self_join-rows c key (member_rows s b db) (rows_of s (Scan table) db) (member_rows s m db) (member_rows s a db) n w k z
          (key_holds db there.found (rows_of s (Scan table) db) of_table key key_there)
          (wide-members s db fit b within.first within.of_first)
          (wide-kinds about.own w (rows_of s (Scan table) db) as_long (fit table about.own about.of_own))
          (wide-members s db fit m within.last within.of_last)
          (wide-members s db fit a about.last about.of_last)
          (subst (λ i. AllBelow i key.columns) there.as_wide form_key.columns)
          (subst (λ i. all_tied c n i (with_itself key.columns) ≡ true) wider tied)
          ∙ ap (λ es. map (values_of (exprs es)) (filter (λ row. holds c (values_of (exprs es) row)) other_rows)) again
          ∙ (λ i. map (values_of (exprs names)) (filter (λ row. sym (put-holds (at_place names) row (values_of (exprs names) row) c (on-all (Gives (at_place names) row (values_of (exprs names) row)) (place-value names row) c)) i) other_rows))
          ∙ ap (λ rows. map (values_of (exprs names)) (filter (holds (put (at_place names) c)) rows)) (sym (rows-left s db b (Scan table) m a) ∙ ap (λ ps. member_rows s ps db) (sym (append_assoc b (Scan table ∷ m) a)))

  -- ---- the law at these places

  pub again-keeps : IsTyped s joined → ties_key s table c (widths s b) (widths s first_part) ≡ true → Keeps s joined (over_others names (first_part ++ a) c).0
  again-keeps t tied =
      let f = found (λ (key : Key). all_tied c (widths s b) (widths s first_part) (with_itself key.columns)) (keys_of s table) tied in
      let k : Found (λ (key : Key). all_tied c (widths s b) (widths s first_part) (with_itself key.columns)) (keys_of s table) f.0 f.1 = f.2 in
      record {
        kinds = once-kinds t;
        rows = λ db meets. bag_same (once-rows t f.1 (λ there is. subst (λ keys. Contains keys f.1) (ap (λ o. option_map_or (λ (x : Table). x.keys) o []) is) (get_member (keys_of s table) f.0 f.1 k.at)) k.passes db meets);
      }

  pub again-falls : Falls s joined (over_others names (first_part ++ a) c)
  again-falls =
      let old = without-weight first_part table a in
      let some = product_positive (plans (first_part ++ a)) in
      omega (arith, old, some)

-- ---- the rule

-- two places of one table among the members, the first before the second
record IsTwice (s : Tables) (ps : List Plan) (c : Expr) (r : Step) : Type 0 where
  before : List Plan
  table : ℕ
  between : List Plan
  after : List Plan
  members : ps ≡ (before ++ (Scan table ∷ between)) ++ (Scan table ∷ after)
  tied : ties_key s table c (widths s before) (widths s (before ++ (Scan table ∷ between))) ≡ true
  made : over_others (renamed (widths s (before ++ (Scan table ∷ between))) (columns_from (widths s before) (width s (Scan table))) (widths s after)) ((before ++ (Scan table ∷ between)) ++ after) c ≡ r

twice : (s : Tables) (ps : List Plan) (c : Expr) (r : Step) → first_two (self_joined s c) ps ≡ Some r → IsTwice s ps c r
twice s ps c r e =
    let f = scans-found (self_joined s c) ps r e in
    let x = f.first in
    let y = f.second in
    let g = then_given (is_again s c x y) (over_others (named_in_first s x y) (others y) c) r f.made in
    let q = and_parts (is_twice x y) (ties_key s x.table c (widths s x.before) (widths s y.before)) g.0 in
    let p = and_parts (stands_before x y) (nat_eq x.table y.table) q.0 in
    let same : x.table ≡ y.table = eqb-true x.table y.table p.1 in
    let less : length x.before < length y.before = leb-false (length y.before) (length x.before) (not_true (nat_le (length y.before) (length x.before)) p.0) in
    let m = earlier x.before (Scan x.table) x.after y.before (Scan y.table) y.after (sym f.of_first ∙ f.of_second) less in
    record {
      before = x.before;
      table = x.table;
      between = m.0;
      after = y.after;
      members = f.of_second ∙ (λ i. m.1 i ++ (Scan (sym same i) ∷ y.after));
      tied = subst (λ l. ties_key s x.table c (widths s x.before) (widths s l) ≡ true) m.1 q.1;
      made = ap (λ l. over_others (renamed (widths s l) (columns_from (widths s x.before) (width s (Scan x.table))) (widths s y.after)) (l ++ y.after) c) (sym m.1) ∙ g.1;
    }

joined-keeps : (s : Tables) → IsWellFormed s → (ps : List Plan) (c : Expr) (r : Step) → IsTyped s (Join (plans ps) c) → first_two (self_joined s c) ps ≡ Some r → Keeps s (Join (plans ps) c) r.0
joined-keeps s form ps c r t e =
    let f = twice s ps c r e in
    subst (λ l. Keeps s (Join (plans l) c) r.0) (sym f.members)
    (subst (λ (z : Step). Keeps s (Join (plans ((f.before ++ (Scan f.table ∷ f.between)) ++ (Scan f.table ∷ f.after))) c) z.0) f.made
    (again-keeps s form f.before f.table f.between f.after c (subst (λ l. IsTyped s (Join (plans l) c)) f.members t) f.tied))

joined-falls : (s : Tables) → IsWellFormed s → (ps : List Plan) (c : Expr) (r : Step) → first_two (self_joined s c) ps ≡ Some r → Falls s (Join (plans ps) c) r
joined-falls s form ps c r e =
    let f = twice s ps c r e in
    subst (λ l. Falls s (Join (plans l) c) r) (sym f.members)
    (subst (Falls s (Join (plans ((f.before ++ (Scan f.table ∷ f.between)) ++ (Scan f.table ∷ f.after))) c)) f.made (again-falls s form f.before f.table f.between f.after c))

pub self_join-keeps : KeepsAll self_join
self_join-keeps s form (Join ps c) x t e =
    subst (λ qs. Keeps s (Join qs c) x.0) (plans-each ps) (joined-keeps s form (each ps) c x (subst (λ qs. IsTyped s (Join qs c)) (sym (plans-each ps)) t) e)
self_join-keeps s form _ x t e = cc

pub self_join-falls : FallsAll self_join
self_join-falls s form (Join ps c) x t e = subst (λ qs. Falls s (Join qs c) x) (plans-each ps) (joined-falls s form (each ps) c x e)
self_join-falls s form _ x t e = cc
