-- A selection over a node with a condition: kinds, rows and weights.
use Rattle.std.proofs.Common.{◌≡◌, ◌∙◌, ◌+◌, ◌*◌, ◌<◌, length, Some, sym, ap, subst, arith, false}
use Rattle.std.specs.Prelude.{not}
use Rattle.std.specs.Option.{option_map_or}
use Rattle.std.proofs.Math.Nat.{mul_assoc}
use Rattle.std.proofs.lemmas.Option.{same_Some}
use Rattle.vkg_lists.proofs.Bags.{bag_same}
use Rattle.vkg_lists.proofs.Bools.{not_true}
use Rattle.vkg_lists.proofs.Onto.{both_given}
use Rattle.vkg_lists.proofs.Results.{then_given}
use Rattle.vkg_lists.specs.Options.{joined}
use Rattle.vkg_cells.specs.declared.cell.SqlType.TheVariants as kind
use Rattle.vkg_expr.specs.Expr.{Expr}
use Rattle.vkg_expr.specs.Laws.{HasKinds}
use Rattle.vkg_expr.specs.Logic.{and_then}
use Rattle.vkg_expr.specs.Value.{holds}
use Rattle.vkg_columns.specs.Columns.{IsWithin}
use Rattle.vkg_columns.proofs.Conjuncts.{IsTruth, filter-and_then}
use Rattle.vkg_columns.proofs.MovedColumns.{left-holds}
use Rattle.vkg_plan.proofs.RowsFit.{checked_parts, rows-fit}
use Rattle.vkg_plan.specs.Kinds.{Kinds, Tables, beside_all, checked, kinds_of_each, plan_kinds, width}
use Rattle.vkg_plan.specs.Plan.{Plan, Plans, Select, Join, Left}
use Rattle.vkg_plan.specs.Rows.{product, rows_of, rows_of_each}
use Rattle.vkg_rules.specs.declared.rewrite.Fell.TheVariants as fell
use Rattle.vkg_rules.specs.Measure.{weight}
use Rattle.vkg_rules.specs.Steps.{Falls, IsTyped, Keeps, Step}
use Rattle.vkg_rules.specs.Weights.{product_positive, weight_positive}
use Rattle.vkg_shapes.specs.PartsLaw.{wide}
use Rattle.vkg_joins.specs.TableRows.{tables_fit}
use Rattle.vkg_moves.specs.Columns.{names_behind}
use Rattle.vkg_moves.specs.ColumnsLaw.{first-kind, within-first}
use Rattle.vkg_moves.specs.Conditions.{both-checked, checked-given, checked-truth}
use Rattle.vkg_moves.specs.LeftRows.{left_below}
use Rattle.vkg_moves.specs.MergeSelects.{over_condition}

-- as many kinds as columns
pub kinds-wide : (s : Tables) (p : Plan) (ks : Kinds) → plan_kinds s p ≡ Some ks → length ks ≡ width s p
kinds-wide s p ks e = sym (ap (λ o. option_map_or length o 0) e)

module _ (s : Tables) where
  select-keeps : (c d : Expr) (p : Plan) → IsTyped s (Select c (Select d p)) → Keeps s (Select c (Select d p)) (Select (and_then d c) p)
  select-keeps c d p t = record { kinds = both-checked c d (plan_kinds s p) t; rows = λ db m. bag_same (filter-and_then d c (rows_of s p db)) }

  join-keeps : (c d : Expr) (ps : Plans) → IsTyped s (Select c (Join ps d)) → Keeps s (Select c (Join ps d)) (Join ps (and_then d c))
  join-keeps c d ps t =
      record { kinds = both-checked c d (beside_all (kinds_of_each s ps)) t; rows = λ db m. bag_same (filter-and_then d c (product (rows_of_each s ps db))) }

  -- what is known where a condition on left columns alone stands over a left join
  record LeftParts (c d : Expr) (p q : Plan) : Type 0 where
    all : Kinds
    first : Kinds
    typed : checked d (joined (plan_kinds s p) (plan_kinds s q)) ≡ Some all
    left : plan_kinds s p ≡ Some first
    whole : IsTruth all c
    own : IsTruth first c
    within : IsWithin (length first) c

  left-parts : (c d : Expr) (p q : Plan) → IsTyped s (Select c (Left p q d)) → names_behind (width s p) c ≡ false → LeftParts c d p q
  left-parts c d p q t none =
      let both = joined (plan_kinds s p) (plan_kinds s q) in
      let a = checked_parts c (checked d both) t in
      let b = both_given (plan_kinds s p) (plan_kinds s q) a.0 (checked-given d both a.0 a.1).0 in
      let within = subst (λ n. IsWithin n c) (sym (kinds-wide s p b.0 b.1)) (within-first (width s p) c none) in
      record {
        all = a.0;
        first = b.0;
        typed = a.1;
        left = b.1;
        whole = a.2;
        own = first-kind b.0 b.2.0 c kind.Bool within (subst (λ ks. IsTruth ks c) (sym b.2.2) a.2);
        within = within;
      }

  left-keeps : (c d : Expr) (p q : Plan) → IsTyped s (Select c (Left p q d)) → names_behind (width s p) c ≡ false → Keeps s (Select c (Left p q d)) (Left (Select c p) q d)
  left-keeps c d p q t none =
      let g = left-parts c d p q t none in
      let both = joined (plan_kinds s p) (plan_kinds s q) in
      record {
        kinds =
            ap (λ o. checked d (joined o (plan_kinds s q))) (checked-truth c (plan_kinds s p) g.first g.left g.own ∙ sym g.left)
            ∙ g.typed
            ∙ sym (checked-truth c (checked d both) g.all g.typed g.whole);
        rows = λ db m. bag_same (
            left_below (HasKinds g.first) (holds c) (holds d) (width s q)
            (λ l k r. left-holds l r (length g.first) c (sym (wide g.first l k)) g.within)
            (rows_of s p db) (rows_of s q db) (rows-fit s db (tables_fit s db m) p g.first g.left));
      }

  pub over-keeps : (c : Expr) (p : Plan) (x : Step) → IsTyped s (Select c p) → over_condition s c p ≡ Some x → Keeps s (Select c p) x.0
  over-keeps c (Select d p) x t e = subst (λ (z : Step). Keeps s (Select c (Select d p)) z.0) (same_Some (Select (and_then d c) p, fell.Weight) x e) (select-keeps c d p t)
  over-keeps c (Join ps d) x t e = subst (λ (z : Step). Keeps s (Select c (Join ps d)) z.0) (same_Some (Join ps (and_then d c), fell.Weight) x e) (join-keeps c d ps t)
  over-keeps c (Left p q d) x t e =
      let w = then_given (not (names_behind (width s p) c)) (Left (Select c p) q d, fell.Weight) x e in
      subst (λ (z : Step). Keeps s (Select c (Left p q d)) z.0) w.1 (left-keeps c d p q t (not_true (names_behind (width s p) c) w.0))
  over-keeps c _ x t e = cc

  -- 8ab + 2 falls to 8ab + 1
  left-weight : (p q : Plan) → 4 * (2 * weight p) * weight q + 1 < 2 * (4 * weight p * weight q + 1)
  left-weight p q =
      let four : 4 * (2 * weight p) ≡ 2 * (4 * weight p) = omega arith in
      let e : 4 * (2 * weight p) * weight q ≡ 2 * (4 * weight p * weight q) = ap (λ n. n * weight q) four ∙ mul_assoc 2 (4 * weight p) (weight q) in
      omega (arith, e)

  pub over-falls : (c : Expr) (p : Plan) (x : Step) → over_condition s c p ≡ Some x → Falls s (Select c p) x
  over-falls c (Select d p) x e = subst (Falls s (Select c (Select d p))) (same_Some (Select (and_then d c) p, fell.Weight) x e) (let h = weight_positive p in omega (arith, h))
  over-falls c (Join ps d) x e = subst (Falls s (Select c (Join ps d))) (same_Some (Join ps (and_then d c), fell.Weight) x e) (let h = product_positive ps in omega (arith, h))
  over-falls c (Left p q d) x e =
      let w = then_given (not (names_behind (width s p) c)) (Left (Select c p) q d, fell.Weight) x e in
      subst (Falls s (Select c (Left p q d))) w.1 (left-weight p q)
  over-falls c _ x e = cc
