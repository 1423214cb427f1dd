-- The parent stands before the child.
use Rattle.std.proofs.Common.{◌≡◌, ◌∙◌, ℕ, ◌+◌, ◌<◌, true, false, List, ◌∷◌, ◌++◌, append_assoc, length, length-append, map, sym, ap, subst, arith}
use Rattle.std.specs.List.{AllByRecursion, Contains, filter}
use Rattle.std.proofs.lemmas.Option.{same_Some}
use Rattle.std.specs.List.Sorted.{IsPermutation}
use Rattle.std.proofs.lemmas.List.Sorted.{IsPermutation-trans}
use Rattle.vkg_lists.proofs.Bags.{bag_same}
use Rattle.vkg_expr.specs.Expr.{Expr, exprs}
use Rattle.vkg_expr.specs.Value.{holds, values_of}
use Rattle.vkg_schema.specs.declared.table.Reference.{Reference}
use Rattle.vkg_schema.specs.Meets.{IsWellFormed, MeetsSchema, RefersTo}
use Rattle.vkg_schema.specs.Rows.{Database, Row, agree, cell_at, has_no_null}
use Rattle.vkg_plan.specs.Kinds.{Tables, width}
use Rattle.vkg_plan.specs.Plan.{Plan, Scan, Project, Join, plans}
use Rattle.vkg_plan.specs.Rows.{pairs, rows_of}
use Rattle.vkg_rules.specs.Steps.{Keeps}
use Rattle.vkg_shapes.specs.TableRows.{tables_fit}
use Rattle.vkg_keys.specs.Keys.{AreWide, firsts}
use Rattle.vkg_keys.specs.Members.{widths}
use Rattle.vkg_keys.specs.Ties.{all_tied}
use Rattle.vkg_keys.proofs.Parents.{refers}
use Rattle.vkg_keys.proofs.ParentJoin.{parent_cells, parent_join-before, table_wide}
use Rattle.vkg_keys.proofs.Parts.{part-at}
use Rattle.vkg_keys.proofs.Places.{AroundKinds, around-kinds, member_rows, rows-append, rows-one, rows-two, wide-members, widths-append}
use Rattle.vkg_key_joins.specs.MembersLaw.{JoinKinds, ScanKinds}
use Rattle.vkg_key_joins.specs.ParentCells.{left_test, left_values, row-null, row-test, row-values}
use Rattle.vkg_key_joins.specs.ParentKinds.{IsParent, child_is, child_kinds, child_table, kinds, left-kinds, left_plan, one_kind, parent_table}

module _ (s : Tables) (form : IsWellFormed s) (b m : List Plan) (of : ℕ) (d : List Plan) (es : List Expr) (c : Expr) (reference : Reference)
    (g : IsParent s b (m ++ (Scan of ∷ d)) es c of reference (b ++ m) d) (tied : all_tied c (widths s (b ++ (Scan reference.table ∷ m))) (widths s b) reference.pairs ≡ true) where
  abbrev after_parent : List Plan
  after_parent = m ++ (Scan of ∷ d)

  abbrev all : JoinKinds s b (Scan reference.table) after_parent c
  all = kinds s form b (m ++ (Scan of ∷ d)) es c of reference (b ++ m) d g

  abbrev of_table : ScanKinds s of (child_kinds s form b (m ++ (Scan of ∷ d)) es c of reference (b ++ m) d g).own
  of_table = child_table s form b (m ++ (Scan of ∷ d)) es c of reference (b ++ m) d g

  abbrev to_table : ScanKinds s reference.table all.around.own
  to_table = parent_table s form b (m ++ (Scan of ∷ d)) es c of reference (b ++ m) d g

  last_kinds : AroundKinds s m (Scan of) d all.around.last
  last_kinds = around-kinds s m (Scan of) d all.around.last all.around.of_last

  is_referred : RefersTo reference to_table.found
  is_referred =
      let p = refers s form of of_table.found of_table.is_found reference (child_is s form b (m ++ (Scan of ∷ d)) es c of reference (b ++ m) d g) in
      subst (RefersTo reference) (same_Some p.0 to_table.found (sym p.1 ∙ to_table.is_found)) p.2

  wider : widths s (b ++ (Scan reference.table ∷ m)) ≡ widths s b + (length to_table.found.columns + widths s m)
  wider =
      let e : widths s (b ++ (Scan reference.table ∷ m)) ≡ widths s b + (width s (Scan reference.table) + widths s m) = widths-append s b (Scan reference.table ∷ m) in
      let w = to_table.as_wide in omega (arith, e, w)

  module _ (db : Database) (meets : MeetsSchema s db) where
    wide-before : AreWide (widths s b) (member_rows s b db)
    wide-before = wide-members s db (tables_fit s db meets) b all.around.first all.around.of_first

    wide-between : AreWide (widths s m) (member_rows s m db)
    wide-between = wide-members s db (tables_fit s db meets) m last_kinds.first last_kinds.of_first

    wide-after : AreWide (widths s d) (member_rows s d db)
    wide-after = wide-members s db (tables_fit s db meets) d last_kinds.last last_kinds.of_last

    wide-children : AreWide (length of_table.found.columns) (rows_of s (Scan of) db)
    wide-children = table_wide s db meets of of_table.found of_table.is_found

    wide-parents : AreWide (length to_table.found.columns) (rows_of s (Scan reference.table) db)
    wide-parents = table_wide s db meets reference.table to_table.found to_table.is_found

    -- the parts of a row
    module _ (x r y z : Row) (cx : Contains (member_rows s b db) x) (cr : Contains (rows_of s (Scan of) db) r) (cy : Contains (member_rows s m db) y) (cz : Contains (member_rows s d db) z) where
      after-long : length (y ++ (r ++ z)) ≡ widths s after_parent
      after-long =
          let e : widths s after_parent ≡ widths s m + (width s (Scan of) + widths s d) = widths-append s m (Scan of ∷ d) in
          let one = length-append y (r ++ z) in
          let two = length-append r z in
          let w = of_table.as_wide in
          let ly = wide-between y cy in
          let lr = wide-children r cr in
          let lz = wide-after z cz in
          omega (arith, e, one, two, w, ly, lr, lz)

      stands : (k : ℕ) → k < width s (Scan of) → cell_at (x ++ (y ++ (r ++ z))) (widths s (b ++ m) + k) ≡ cell_at r k
      stands k h =
          let e = widths-append s b m in
          let w = of_table.as_wide in
          let lr = wide-children r cr in
          let both = length-append x y in
          let lx = wide-before x cx in
          let ly = wide-between y cy in
          ap (λ row. cell_at row (widths s (b ++ m) + k)) (sym (append_assoc x y (r ++ z)))
          ∙ part-at (x ++ y) r z (widths s (b ++ m)) k (omega (arith, e, both, lx, ly)) (omega (arith, h, w, lr))

      null : has_no_null (firsts reference.pairs) r ≡ false → left_test s form b (m ++ (Scan of ∷ d)) es c of reference (b ++ m) d g (x ++ (y ++ (r ++ z))) ≡ false
      null h = row-null s form b (m ++ (Scan of ∷ d)) es c of reference (b ++ m) d g x (y ++ (r ++ z)) r stands h

      module _ (q : Row) (cq : Contains (rows_of s (Scan reference.table) db) q) (e : agree reference.pairs r q ≡ true) where
        parent-long : length q ≡ width s (Scan reference.table)
        parent-long = wide-parents q cq ∙ to_table.as_wide

        same : AllByRecursion (λ p. cell_at r p.0 ≡ cell_at q p.1) reference.pairs
        same = parent_cells s db form meets of of_table.found of_table.is_found reference (child_is s form b (m ++ (Scan of ∷ d)) es c of reference (b ++ m) d g) to_table.found to_table.is_found is_referred
            (one_kind s form b (m ++ (Scan of ∷ d)) es c of reference (b ++ m) d g) r q cr cq e

        on : holds c (x ++ (q ++ (y ++ (r ++ z)))) ≡ left_test s form b (m ++ (Scan of ∷ d)) es c of reference (b ++ m) d g (x ++ (y ++ (r ++ z)))
        on = row-test s form b (m ++ (Scan of ∷ d)) es c of reference (b ++ m) d g x (y ++ (r ++ z)) r stands q (wide-before x cx) parent-long after-long same e

        equal : values_of (exprs es) (x ++ (q ++ (y ++ (r ++ z)))) ≡ left_values s form b (m ++ (Scan of ∷ d)) es c of reference (b ++ m) d g (x ++ (y ++ (r ++ z)))
        equal = row-values s form b (m ++ (Scan of ∷ d)) es c of reference (b ++ m) d g x (y ++ (r ++ z)) r stands q (wide-before x cx) parent-long after-long same

    before-rows : IsPermutation (rows_of s (Project es (Join (plans (b ++ (Scan reference.table ∷ after_parent))) c)) db) (rows_of s (left_plan s form b (m ++ (Scan of ∷ d)) es c of reference (b ++ m) d g).0 db)
    before-rows =
        IsPermutation-trans _ _ _
        (bag_same (ap (λ rows. map (values_of (exprs es)) (filter (holds c) rows)) (rows-two s db b (Scan reference.table) m (Scan of) d)))
        (IsPermutation-trans _ _ _
        (parent_join-before s db form meets of of_table.found of_table.is_found reference (child_is s form b (m ++ (Scan of ∷ d)) es c of reference (b ++ m) d g) to_table.found to_table.is_found is_referred
        c (member_rows s b db) (member_rows s m db) (member_rows s d db) (widths s b) (widths s m) wide-before wide-between
        (values_of (exprs es)) (left_test s form b (m ++ (Scan of ∷ d)) es c of reference (b ++ m) d g) (left_values s form b (m ++ (Scan of ∷ d)) es c of reference (b ++ m) d g)
        (subst (λ n. all_tied c n (widths s b) reference.pairs ≡ true) wider tied)
        (λ x r y q z cx cr cy cq cz e. on x r y z cx cr cy cz q cq e)
        (λ x r y q z cx cr cy cq cz e. equal x r y z cx cr cy cz q cq e)
        (λ x r y z cx cr cy cz h. null x r y z cx cr cy cz h))
        (bag_same (ap (λ rows. map (left_values s form b (m ++ (Scan of ∷ d)) es c of reference (b ++ m) d g) (filter (left_test s form b (m ++ (Scan of ∷ d)) es c of reference (b ++ m) d g) rows)) (sym (rows-append s db b after_parent ∙ ap (pairs (member_rows s b db)) (rows-one s db m (Scan of) d))))))

  pub before-keeps : Keeps s (Project es (Join (plans (b ++ (Scan reference.table ∷ after_parent))) c)) (left_plan s form b (m ++ (Scan of ∷ d)) es c of reference (b ++ m) d g).0
  before-keeps = record { kinds = left-kinds s form b (m ++ (Scan of ∷ d)) es c of reference (b ++ m) d g; rows = λ db meets. before-rows db meets }
