-- The parent stands behind the child.
use Rattle.std.proofs.Common.{◌≡◌, ◌∙◌, ℕ, ◌+◌, ◌<◌, true, false, List, ◌∷◌, ◌++◌, append_assoc, length, map, sym, ap, subst, arith}
use Rattle.std.specs.List.{AllByRecursion, Contains, filter}
use Rattle.std.proofs.lemmas.Option.{same_Some}
use Rattle.vkg_lists.proofs.Bags.{bag_same}
use Rattle.vkg_expr.specs.Expr.{Expr, exprs}
use Rattle.vkg_expr.specs.Value.{holds, values_of}
use Rattle.vkg_schema.specs.declared.table.Reference.{Reference}
use Rattle.vkg_schema.specs.Meets.{IsWellFormed, MeetsSchema, RefersTo}
use Rattle.vkg_schema.specs.Rows.{Database, Row, agree, cell_at, has_no_null}
use Rattle.vkg_plan.specs.Kinds.{Tables, width}
use Rattle.vkg_plan.specs.Plan.{Plan, Scan, Project, Join, plans}
use Rattle.vkg_plan.specs.Rows.{pairs, rows_of}
use Rattle.vkg_rules.specs.Steps.{Keeps}
use Rattle.vkg_shapes.specs.TableRows.{tables_fit}
use Rattle.vkg_keys.specs.Keys.{AreWide, firsts}
use Rattle.vkg_keys.specs.Members.{widths}
use Rattle.vkg_keys.specs.Ties.{all_tied}
use Rattle.vkg_keys.proofs.Parents.{refers}
use Rattle.vkg_keys.proofs.ParentJoin.{parent_cells, parent_join-behind, table_wide}
use Rattle.vkg_keys.proofs.Parts.{front, part-at, regrouped}
use Rattle.vkg_keys.proofs.Places.{AroundKinds, around-kinds, member_rows, rows-left, rows-two, wide-members, widths-append}
use Rattle.vkg_keys.proofs.SelfJoin.{grouped}
use Rattle.vkg_key_joins.specs.MembersLaw.{JoinKinds, ScanKinds}
use Rattle.vkg_key_joins.specs.ParentCells.{left_test, left_values, row-null, row-test, row-values}
use Rattle.vkg_key_joins.specs.ParentKinds.{IsParent, child_is, child_kinds, child_table, kinds, left-kinds, left_plan, one_kind, parent_table}

module _ (s : Tables) (form : IsWellFormed s) (b : List Plan) (of : ℕ) (m a : List Plan) (es : List Expr) (c : Expr) (reference : Reference)
    (g : IsParent s (b ++ (Scan of ∷ m)) a es c of reference b (m ++ a)) (tied : all_tied c (widths s b) (widths s (b ++ (Scan of ∷ m))) reference.pairs ≡ true) where
  abbrev before_parent : List Plan
  before_parent = b ++ (Scan of ∷ m)

  abbrev all : JoinKinds s before_parent (Scan reference.table) a c
  all = kinds s form before_parent a es c of reference b (m ++ a) g

  abbrev of_table : ScanKinds s of (child_kinds s form before_parent a es c of reference b (m ++ a) g).own
  of_table = child_table s form before_parent a es c of reference b (m ++ a) g

  abbrev to_table : ScanKinds s reference.table all.around.own
  to_table = parent_table s form before_parent a es c of reference b (m ++ a) g

  first_kinds : AroundKinds s b (Scan of) m all.around.first
  first_kinds = around-kinds s b (Scan of) m all.around.first all.around.of_first

  is_referred : RefersTo reference to_table.found
  is_referred =
      let p = refers s form of of_table.found of_table.is_found reference (child_is s form before_parent a es c of reference b (m ++ a) g) in
      subst (RefersTo reference) (same_Some p.0 to_table.found (sym p.1 ∙ to_table.is_found)) p.2

  wider : widths s before_parent ≡ widths s b + (length of_table.found.columns + widths s m)
  wider =
      let e : widths s before_parent ≡ widths s b + (width s (Scan of) + widths s m) = widths-append s b (Scan of ∷ m) in
      let w = of_table.as_wide in omega (arith, e, w)

  module _ (db : Database) (meets : MeetsSchema s db) where
    wide-before : AreWide (widths s b) (member_rows s b db)
    wide-before = wide-members s db (tables_fit s db meets) b first_kinds.first first_kinds.of_first

    wide-between : AreWide (widths s m) (member_rows s m db)
    wide-between = wide-members s db (tables_fit s db meets) m first_kinds.last first_kinds.of_last

    wide-after : AreWide (widths s a) (member_rows s a db)
    wide-after = wide-members s db (tables_fit s db meets) a all.around.last all.around.of_last

    wide-children : AreWide (length of_table.found.columns) (rows_of s (Scan of) db)
    wide-children = table_wide s db meets of of_table.found of_table.is_found

    wide-parents : AreWide (length to_table.found.columns) (rows_of s (Scan reference.table) db)
    wide-parents = table_wide s db meets reference.table to_table.found to_table.is_found

    -- the parts of a row
    module _ (x r y z : Row) (cx : Contains (member_rows s b db) x) (cr : Contains (rows_of s (Scan of) db) r) (cy : Contains (member_rows s m db) y) (cz : Contains (member_rows s a db) z) where
      before-long : length (x ++ (r ++ y)) ≡ widths s before_parent
      before-long = front x r y (widths s b) (length of_table.found.columns) (widths s m) (wide-before x cx) (wide-children r cr) (wide-between y cy) ∙ sym wider

      stands : (k : ℕ) → k < width s (Scan of) → cell_at ((x ++ (r ++ y)) ++ z) (widths s b + k) ≡ cell_at r k
      stands k h =
          let w = of_table.as_wide in
          let lr = wide-children r cr in
          ap (λ row. cell_at row (widths s b + k)) (grouped x r y z) ∙ part-at x r (y ++ z) (widths s b) k (wide-before x cx) (omega (arith, h, w, lr))

      null : has_no_null (firsts reference.pairs) r ≡ false → left_test s form before_parent a es c of reference b (m ++ a) g (x ++ (r ++ (y ++ z))) ≡ false
      null h =
          ap (left_test s form before_parent a es c of reference b (m ++ a) g) (sym (grouped x r y z))
          ∙ row-null s form before_parent a es c of reference b (m ++ a) g (x ++ (r ++ y)) z r stands h

      module _ (q : Row) (cq : Contains (rows_of s (Scan reference.table) db) q) where
        parent-long : length q ≡ width s (Scan reference.table)
        parent-long = wide-parents q cq ∙ to_table.as_wide

        module _ (e : agree reference.pairs r q ≡ true) where
          same : AllByRecursion (λ p. cell_at r p.0 ≡ cell_at q p.1) reference.pairs
          same = parent_cells s db form meets of of_table.found of_table.is_found reference (child_is s form before_parent a es c of reference b (m ++ a) g) to_table.found to_table.is_found is_referred
              (one_kind s form before_parent a es c of reference b (m ++ a) g) r q cr cq e

          on : holds c (x ++ (r ++ (y ++ (q ++ z)))) ≡ left_test s form before_parent a es c of reference b (m ++ a) g (x ++ (r ++ (y ++ z)))
          on =
              ap (holds c) (sym (regrouped x r y q z))
              ∙ row-test s form before_parent a es c of reference b (m ++ a) g (x ++ (r ++ y)) z r stands q before-long parent-long (wide-after z cz) same e
              ∙ ap (left_test s form before_parent a es c of reference b (m ++ a) g) (grouped x r y z)

          equal : values_of (exprs es) (x ++ (r ++ (y ++ (q ++ z)))) ≡ left_values s form before_parent a es c of reference b (m ++ a) g (x ++ (r ++ (y ++ z)))
          equal =
              ap (values_of (exprs es)) (sym (regrouped x r y q z))
              ∙ row-values s form before_parent a es c of reference b (m ++ a) g (x ++ (r ++ y)) z r stands q before-long parent-long (wide-after z cz) same
              ∙ ap (left_values s form before_parent a es c of reference b (m ++ a) g) (grouped x r y z)

    behind-rows : rows_of s (Project es (Join (plans (before_parent ++ (Scan reference.table ∷ a))) c)) db ≡ rows_of s (left_plan s form before_parent a es c of reference b (m ++ a) g).0 db
    behind-rows =
        ap (λ rows. map (values_of (exprs es)) (filter (holds c) rows))
        (ap (λ ps. member_rows s ps db) (append_assoc b (Scan of ∷ m) (Scan reference.table ∷ a)) ∙ rows-two s db b (Scan of) m (Scan reference.table) a)
        ∙ parent_join-behind s db form meets of of_table.found of_table.is_found reference (child_is s form before_parent a es c of reference b (m ++ a) g) to_table.found to_table.is_found is_referred
        c (member_rows s b db) (member_rows s m db) (member_rows s a db) (widths s b) (widths s m) wide-before wide-between
        (values_of (exprs es)) (left_test s form before_parent a es c of reference b (m ++ a) g) (left_values s form before_parent a es c of reference b (m ++ a) g)
        (subst (λ n. all_tied c (widths s b) n reference.pairs ≡ true) wider tied)
        (λ x r y q z cx cr cy cq cz e. on x r y z cx cr cy cz q cq e)
        (λ x r y q z cx cr cy cq cz e. equal x r y z cx cr cy cz q cq e)
        (λ x r y z cx cr cy cz h. null x r y z cx cr cy cz h)
        ∙ ap (λ rows. map (left_values s form before_parent a es c of reference b (m ++ a) g) (filter (left_test s form before_parent a es c of reference b (m ++ a) g) rows))
        (sym (rows-left s db b (Scan of) m a) ∙ ap (λ ps. member_rows s ps db) (sym (append_assoc b (Scan of ∷ m) a)))

  pub behind-keeps : Keeps s (Project es (Join (plans (before_parent ++ (Scan reference.table ∷ a))) c)) (left_plan s form before_parent a es c of reference b (m ++ a) g).0
  behind-keeps = record { kinds = left-kinds s form before_parent a es c of reference b (m ++ a) g; rows = λ db meets. bag_same (behind-rows db meets) }
