-- The kinds of what is left without the parent are those that there were.
use Rattle.std.proofs.Common.{◌≡◌, ◌∙◌, ℕ, ◌+◌, ◌<◌, Bool, true, true≢false, List, [], ◌∷◌, ◌++◌, length, map, Option, Some, None, refl, sym, ap, subst, arith}
use Rattle.std.specs.Prelude.{is_some, option_and_then, option_map, slice_get}
use Rattle.std.specs.Option.{option_map_or}
use Rattle.std.specs.List.{AllByRecursion, Contains, list_all}
use Rattle.std.proofs.lemmas.Option.{slice_get-map}
use Rattle.vkg_lists.proofs.Bools.{and_parts}
use Rattle.vkg_lists.proofs.Counts.{eq_same}
use Rattle.vkg_lists.proofs.Each.{recursion_get}
use Rattle.vkg_lists.proofs.Heads.{slice_get-behind}
use Rattle.vkg_lists.proofs.Members.{each_from_recursion}
use Rattle.vkg_lists.specs.Lists.{AllBelow}
use Rattle.vkg_cells.specs.declared.cell.SqlType.{SqlType}
use Rattle.vkg_cells.specs.declared.cell.SqlType.TheVariants as kind
use Rattle.vkg_columns.proofs.OnColumns.{columns-in_range, each-in_range, on-weaker, on_each-weaker}
use Rattle.vkg_columns.proofs.PutIn.{put-kind, put_each-exprs, put_each-kinds}
use Rattle.vkg_columns.specs.Columns.{KeepsKind, OnColumns, OnEach, at_place, columns_from}
use Rattle.vkg_expr.proofs.ValueFits.{kinds_apart}
use Rattle.vkg_expr.specs.Expr.{Expr, exprs}
use Rattle.vkg_expr.specs.Strict.{columns, put}
use Rattle.vkg_expr.specs.Typing.{kind_of, kinds_of}
use Rattle.vkg_schema.specs.declared.table.Column.{Column}
use Rattle.vkg_schema.specs.declared.table.Reference.{Reference}
use Rattle.vkg_schema.specs.declared.table.Table.{Table}
use Rattle.vkg_schema.specs.Kinds.{columns_of}
use Rattle.vkg_schema.specs.Meets.{IsReference, IsTable, IsWellFormed}
use Rattle.vkg_plan.specs.Kinds.{Kinds, Tables, beside_all, kinds_of_each, plan_kinds, width}
use Rattle.vkg_plan.specs.Plan.{Plan, Scan, Project, Join, plans}
use Rattle.vkg_rules.specs.Parts.{typed_project}
use Rattle.vkg_rules.specs.Steps.{IsTyped, Step}
use Rattle.vkg_keys.specs.Keys.{firsts, is_of_one_kind, is_one_kind}
use Rattle.vkg_keys.specs.Members.{renamed, widths}
use Rattle.vkg_keys.proofs.NamedColumns.{on-both, on-passing, on_all-passing, on_each-both}
use Rattle.vkg_keys.proofs.Places.{AroundKinds, around-kinds, both-kinds, sides, sides-wide}
use Rattle.vkg_keys.proofs.RenamedColumns.{get-left, place-columns}
use Rattle.vkg_key_joins.specs.MembersLaw.{JoinKinds, ScanKinds, checked-truth, join-kinds, others-kinds, renamed-keeps, scan-kinds}
use Rattle.vkg_key_joins.specs.ParentJoin.{all_tied_to, is_given, known_too, left_joined, names_given}
use Rattle.vkg_key_joins.specs.ParentNames.{HasKind, given-tied, known-kind, long-tied, place-first, tied-gives}
use Rattle.vkg_key_joins.specs.ParentRows.{IsGivenOf}
use Rattle.vkg_key_joins.specs.Tables.{references_of}

-- a column of each pair is there, and they are of one kind
one-kinds : (o p : Option Column) → is_one_kind o p ≡ true → (c : Column) × (o ≡ Some c) × ((d : Column) × (p ≡ Some d) × (c.kind ≡ d.kind))
one-kinds None p e = absurd (true≢false (sym e))
one-kinds (Some c) None e = absurd (true≢false (sym e))
one-kinds (Some c) (Some d) e = (c, refl, (d, refl, eq_same kinds_apart c.kind d.kind e))

given-some : {A : Type 0} (o : Option A) → is_some o ≡ true → (x : A) × (o ≡ Some x)
given-some None e = absurd (true≢false (sym e))
given-some (Some x) e = (x, refl)

-- The parent, a Scan of a table that a foreign key of the child refers to, stands behind the members l and before a. Without it the child stands
-- behind b and before d, and of the parent no column is named that the child does not give.
pub record IsParent (s : Tables) (l a : List Plan) (es : List Expr) (c : Expr) (of : ℕ) (reference : Reference) (b d : List Plan) : Type 0 where
  pub rest : l ++ a ≡ b ++ (Scan of ∷ d)
  pub typed : IsTyped s (Project es (Join (plans (l ++ (Scan reference.table ∷ a))) c))
  pub of_child : Contains (references_of s of) reference
  pub one_kind : list_all (is_of_one_kind (columns_of s of) (columns_of s reference.table)) reference.pairs ≡ true
  pub named : list_all (names_given (widths s l) (width s (Scan reference.table)) reference.pairs) (c ∷ es) ≡ true

module _ (s : Tables) (form : IsWellFormed s) (l a : List Plan) (es : List Expr) (c : Expr) (of : ℕ) (reference : Reference) (b d : List Plan) (g : IsParent s l a es c of reference b d) where
  abbrev pub to : ℕ
  to = reference.table

  abbrev pub pairs : List (ℕ × ℕ)
  pairs = reference.pairs

  abbrev pub child : List Expr
  child = columns_from (widths s b) (width s (Scan of))

  abbrev pub names : List Expr
  names = renamed (widths s l) (all_tied_to child pairs 0 (width s (Scan to))) (widths s a)

  abbrev pub left_plan : Step
  left_plan = left_joined names es (l ++ a) child c pairs

  pub typed_join : IsTyped s (Join (plans (l ++ (Scan to ∷ a))) c)
  typed_join = typed_project s es (Join (plans (l ++ (Scan to ∷ a))) c) g.typed

  pub kinds : JoinKinds s l (Scan to) a c
  kinds = join-kinds s l (Scan to) a c typed_join

  abbrev pub about : AroundKinds s l (Scan to) a kinds.all
  about = kinds.around

  abbrev pub left : Kinds
  left = about.first ++ about.last

  pub child_kinds : AroundKinds s b (Scan of) d left
  child_kinds = around-kinds s b (Scan of) d left (ap (sides s) (sym g.rest) ∙ both-kinds s l a about.first about.last about.of_first about.of_last)

  pub child_table : ScanKinds s of child_kinds.own
  child_table = scan-kinds s of child_kinds.own child_kinds.of_own

  pub parent_table : ScanKinds s to about.own
  parent_table = scan-kinds s to about.own about.of_own

  pub child_is : Contains child_table.found.references reference
  child_is = subst (λ rs. Contains rs reference) (ap (λ o. option_map_or (λ (x : Table). x.references) o []) child_table.is_found) g.of_child

  -- the columns of the foreign key are the child's
  pub inside : AllBelow (width s (Scan of)) (firsts pairs)
  inside =
      let t : IsTable s child_table.found = recursion_get (IsTable s) s of child_table.found form child_table.is_found in
      let r : IsReference s child_table.found reference = each_from_recursion (IsReference s child_table.found) child_table.found.references t.references reference child_is in
      subst (λ n. AllBelow n (firsts pairs)) child_table.as_wide r.children

  pub one_kind : list_all (is_of_one_kind child_table.found.columns parent_table.found.columns) pairs ≡ true
  one_kind =
      let of_columns : columns_of s of ≡ child_table.found.columns = ap (λ o. option_map_or (λ (x : Table). x.columns) o []) child_table.is_found in
      let to_columns : columns_of s to ≡ parent_table.found.columns = ap (λ o. option_map_or (λ (x : Table). x.columns) o []) parent_table.is_found in
      (λ i. list_all (is_of_one_kind (sym of_columns i) (sym to_columns i)) pairs) ∙ g.one_kind

  -- ---- kinds of the child's columns

  child-kind : (k : ℕ) → k < width s (Scan of) → kind_of (at_place child k) left ≡ slice_get child_kinds.own k
  child-kind k h =
      let first = sides-wide s b child_kinds.first child_kinds.of_first in
      let long = child_table.as_long in
      ap (λ e. kind_of e left) (place-columns (widths s b) (width s (Scan of)) k h)
      ∙ ap (λ ks. slice_get ks (widths s b + k)) (sym child_kinds.together)
      ∙ slice_get-behind child_kinds.first (child_kinds.own ++ child_kinds.last) (widths s b + k) k (omega (arith, first))
      ∙ get-left child_kinds.own child_kinds.last k (omega (arith, h, long))

  -- the kind of both columns of a pair
  pair-kind : (p : ℕ × ℕ) → is_of_one_kind child_table.found.columns parent_table.found.columns p ≡ true → (k : SqlType) × (slice_get child_kinds.own p.0 ≡ Some k) × (slice_get about.own p.1 ≡ Some k)
  pair-kind p h =
      let cs = child_table.found.columns in
      let ds = parent_table.found.columns in
      let x = one-kinds (slice_get cs p.0) (slice_get ds p.1) h in (
        x.0.kind,
        ap (λ ks. slice_get ks p.0) (sym child_table.of_columns) ∙ slice_get-map (λ (y : Column). y.kind) cs p.0 ∙ ap (option_map (λ (y : Column). y.kind)) x.1,
        ap (λ ks. slice_get ks p.1) (sym parent_table.of_columns) ∙ slice_get-map (λ (y : Column). y.kind) ds p.1 ∙ ap (option_map (λ (y : Column). y.kind)) x.2.1 ∙ ap Some (sym x.2.2),
      )

  pair-kinds : (ties : List (ℕ × ℕ)) → AllBelow (width s (Scan of)) (firsts ties) → list_all (is_of_one_kind child_table.found.columns parent_table.found.columns) ties ≡ true →
      AllByRecursion (λ p. kind_of (at_place child p.0) left ≡ slice_get about.own p.1) ties × AllByRecursion (λ p. HasKind left (at_place child p.0)) ties
  pair-kinds [] below h = (tt, tt)
  pair-kinds (p ∷ ties) below h =
      let x = and_parts (is_of_one_kind child_table.found.columns parent_table.found.columns p) (list_all (is_of_one_kind child_table.found.columns parent_table.found.columns) ties) h in
      let k = pair-kind p x.0 in
      let rest = pair-kinds ties below.1 x.1 in
      let has = child-kind p.0 below.0 ∙ k.1 in
      ((has ∙ sym k.2, rest.0), ((k.0, has), rest.1))

  -- ---- and of all columns

  names-kind : (at : ℕ) → IsGivenOf (length kinds.all) (widths s l) (width s (Scan to)) pairs at → KeepsKind (at_place names) kinds.all left at
  names-kind at h =
      renamed-keeps s l (Scan to) a kinds.all about (all_tied_to child pairs 0 (width s (Scan to))) (long-tied child pairs 0 (width s (Scan to)) ∙ sym parent_table.as_long) at h.0
      (λ y below e. own y (subst (λ n. y < n) parent_table.as_long below) (ap (is_given (widths s l) (width s (Scan to)) pairs) (sym e) ∙ h.1))
    where
      own : (y : ℕ) → y < width s (Scan to) → is_given (widths s l) (width s (Scan to)) pairs (widths s l + y) ≡ true → KeepsKind (at_place (all_tied_to child pairs 0 (width s (Scan to)))) about.own left y
      own y below t =
          ap (λ e. kind_of e left) (place-first child pairs (width s (Scan to)) y below)
          ∙ tied-gives (λ e. kind_of e left) (slice_get about.own) child pairs (pair-kinds pairs inside one_kind).0 y (given-tied (widths s l) (width s (Scan to)) pairs y below t)

  named_parts : (names_given (widths s l) (width s (Scan to)) pairs c ≡ true) × (list_all (names_given (widths s l) (width s (Scan to)) pairs) es ≡ true)
  named_parts = and_parts (names_given (widths s l) (width s (Scan to)) pairs c) (list_all (names_given (widths s l) (width s (Scan to)) pairs) es) g.named

  -- the expressions have kinds over the join
  pub expr_kinds : (os : Kinds) × (kinds_of (exprs es) kinds.all ≡ Some os)
  expr_kinds = given-some (kinds_of (exprs es) kinds.all) (ap (λ o. is_some (option_and_then (kinds_of (exprs es)) o)) (sym kinds.of_all) ∙ g.typed)

  pub condition_given : OnColumns (IsGivenOf (length kinds.all) (widths s l) (width s (Scan to)) pairs) c
  condition_given = on-both (λ at. at < length kinds.all) (λ at. is_given (widths s l) (width s (Scan to)) pairs at ≡ true) c
      (columns-in_range c kinds.all kind.Bool kinds.truth) (on-passing (is_given (widths s l) (width s (Scan to)) pairs) c named_parts.0)

  pub exprs_given : OnEach (IsGivenOf (length kinds.all) (widths s l) (width s (Scan to)) pairs) (exprs es)
  exprs_given = on_each-both (λ at. at < length kinds.all) (λ at. is_given (widths s l) (width s (Scan to)) pairs at ≡ true) (exprs es)
      (each-in_range (exprs es) kinds.all expr_kinds.0 expr_kinds.1) (on_all-passing (is_given (widths s l) (width s (Scan to)) pairs) es named_parts.1)

  pub left-kinds : plan_kinds s left_plan.0 ≡ plan_kinds s (Project es (Join (plans (l ++ (Scan to ∷ a))) c))
  left-kinds =
      let there = others-kinds s l a b (Scan of) d about.first about.last about.of_first about.of_last g.rest in
      let truth = put-kind (at_place names) kinds.all left c kind.Bool
      (on-weaker (IsGivenOf (length kinds.all) (widths s l) (width s (Scan to)) pairs) (KeepsKind (at_place names) kinds.all left) names-kind c condition_given) kinds.truth in
      let known = known-kind child left (put (at_place names) c) pairs truth (pair-kinds pairs inside one_kind).1 in
      let each = put_each-kinds (at_place names) kinds.all left (exprs es) expr_kinds.0
      (on_each-weaker (IsGivenOf (length kinds.all) (widths s l) (width s (Scan to)) pairs) (KeepsKind (at_place names) kinds.all left) names-kind (exprs es) exprs_given) expr_kinds.1 in
      ap (option_and_then (kinds_of (exprs (map (put (at_place names)) es)))) (checked-truth (known_too child (put (at_place names) c) pairs) (beside_all (kinds_of_each s (plans (l ++ a)))) left there known)
      ∙ ap (λ fs. kinds_of fs left) (sym (put_each-exprs (at_place names) es))
      ∙ each
      ∙ sym (ap (option_and_then (kinds_of (exprs es))) kinds.of_all ∙ expr_kinds.1)
