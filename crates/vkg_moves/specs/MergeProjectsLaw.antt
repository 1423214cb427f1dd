-- Its laws: expressions over what a projection gives are expressions over what it projects.
use Rattle.std.proofs.Common.{◌≡◌, ◌∙◌, ℕ, suc, true, ◌==◌, List, [], ◌∷◌, length, map, Some, refl, sym, ap, subst, arith}
use Rattle.std.specs.Prelude.{option_and_then, is_some}
use Rattle.std.specs.Bool.{then_some}
use Rattle.std.proofs.lemmas.Bool.{eqb-true}
use Rattle.std.proofs.lemmas.Option.{same_Some}
use Rattle.vkg_lists.proofs.Bags.{bag_same}
use Rattle.vkg_lists.proofs.Bools.{and_parts}
use Rattle.vkg_lists.proofs.Results.{some_of, some_then, then_given}
use Rattle.vkg_expr.specs.Expr.{Expr, Col, exprs}
use Rattle.vkg_expr.specs.Strict.{put}
use Rattle.vkg_expr.specs.Typing.{kinds_of}
use Rattle.vkg_expr.specs.Value.{values_of}
use Rattle.vkg_columns.specs.Columns.{at_place, columns_from}
use Rattle.vkg_plan.proofs.RowsFit.{rows-fit}
use Rattle.vkg_plan.specs.Kinds.{Tables, plan_kinds, width}
use Rattle.vkg_plan.specs.Plan.{Plan, Unit as UnitPlan, Empty, Scan, Select, Project, Join, Left, AntiJoin, UnionAll, Distinct}
use Rattle.vkg_plan.specs.Rows.{rows_of}
use Rattle.vkg_rules.specs.declared.rewrite.Fell.TheVariants as fell
use Rattle.vkg_rules.specs.Steps.{Falls, FallsAll, IsTyped, Keeps, KeepsAll, Step}
use Rattle.vkg_rules.specs.Weights.{weight_positive}
use Rattle.vkg_joins.specs.TableRows.{tables_fit}
use Rattle.vkg_moves.specs.MergeProjects.{are_columns_from, are_in_place, is_column_at, merge_projects, projected}
use Rattle.vkg_moves.specs.PutColumns.{all-kinds, columns-rows, merged-kinds, merged-rows}
use Rattle.vkg_moves.specs.SelectLaw.{kinds-wide}

-- ---- columns in their places

column-is : (at : ℕ) (e : Expr) → is_column_at at e ≡ true → e ≡ Col at
column-is at (Col column) h = ap (λ n. Col n) (eqb-true column at h)
column-is at _ h = cc

columns-are : (at : ℕ) (es : List Expr) → are_columns_from at es ≡ true → es ≡ columns_from at (length es)
columns-are at [] h = refl
columns-are at (e ∷ es) h =
    let b = and_parts (is_column_at at e) (are_columns_from (suc at) es) h in
    λ i. column-is at e b.0 i ∷ columns-are (suc at) es b.1 i

in_place-are : (n : ℕ) (es : List Expr) → are_in_place n es ≡ true → es ≡ columns_from 0 n
in_place-are n es h =
    let b = and_parts (are_columns_from 0 es) (length es == n) h in
    columns-are 0 es b.0 ∙ ap (columns_from 0) (eqb-true (length es) n b.1)

-- ---- the laws

module _ (s : Tables) where
  merged-keeps : (es fs : List Expr) (p : Plan) → IsTyped s (Project es (Project fs p)) → Keeps s (Project es (Project fs p)) (Project (map (put (at_place fs)) es) p)
  merged-keeps es fs p t =
      let outer = some_then (kinds_of (exprs es)) (plan_kinds s (Project fs p)) t in
      let inner = some_then (kinds_of (exprs fs)) (plan_kinds s p) (ap is_some outer.1) in
      let below : kinds_of (exprs fs) inner.0 ≡ Some outer.0 = sym (ap (option_and_then (kinds_of (exprs fs))) inner.1) ∙ outer.1 in
      let last = some_of (kinds_of (exprs es) outer.0) outer.2 in
      record {
        kinds =
            ap (option_and_then (kinds_of (exprs (map (put (at_place fs)) es)))) inner.1
            ∙ merged-kinds fs es inner.0 outer.0 last.0 below last.1
            ∙ sym (ap (option_and_then (kinds_of (exprs es))) outer.1 ∙ last.1);
        rows = λ db m. bag_same (merged-rows fs es (rows_of s p db));
      }

  same-keeps : (es : List Expr) (p : Plan) → IsTyped s (Project es p) → es ≡ columns_from 0 (width s p) → Keeps s (Project es p) p
  same-keeps es p t e =
      let a = some_then (kinds_of (exprs es)) (plan_kinds s p) t in
      let is : es ≡ columns_from 0 (length a.0) = e ∙ ap (columns_from 0) (sym (kinds-wide s p a.0 a.1)) in
      record {
        kinds = a.1 ∙ sym (ap (option_and_then (kinds_of (exprs es))) a.1 ∙ ap (λ l. kinds_of (exprs l) a.0) is ∙ all-kinds a.0);
        rows = λ db m. bag_same (ap (λ l. map (values_of (exprs l)) (rows_of s p db)) is ∙ columns-rows a.0 (rows_of s p db) (rows-fit s db (tables_fit s db m) p a.0 a.1));
      }

  in_place-keeps : (es : List Expr) (p : Plan) (x : Step) → IsTyped s (Project es p) → then_some (are_in_place (width s p) es) (p, fell.Weight) ≡ Some x → Keeps s (Project es p) x.0
  in_place-keeps es p x t e =
      let w = then_given (are_in_place (width s p) es) (p, fell.Weight) x e in
      subst (λ (z : Step). Keeps s (Project es p) z.0) w.1 (same-keeps es p t (in_place-are (width s p) es w.0))

  projected-keeps : (es : List Expr) (p : Plan) (x : Step) → IsTyped s (Project es p) → projected s es p ≡ Some x → Keeps s (Project es p) x.0
  projected-keeps es (Project fs p) x t e =
      subst (λ (z : Step). Keeps s (Project es (Project fs p)) z.0) (same_Some (Project (map (put (at_place fs)) es) p, fell.Weight) x e) (merged-keeps es fs p t)
  projected-keeps es UnitPlan x t e = in_place-keeps es UnitPlan x t e
  projected-keeps es (Empty ks) x t e = in_place-keeps es (Empty ks) x t e
  projected-keeps es (Scan table) x t e = in_place-keeps es (Scan table) x t e
  projected-keeps es (Select c p) x t e = in_place-keeps es (Select c p) x t e
  projected-keeps es (Join ps c) x t e = in_place-keeps es (Join ps c) x t e
  projected-keeps es (Left p q c) x t e = in_place-keeps es (Left p q c) x t e
  projected-keeps es (AntiJoin p q c) x t e = in_place-keeps es (AntiJoin p q c) x t e
  projected-keeps es (UnionAll ps) x t e = in_place-keeps es (UnionAll ps) x t e
  projected-keeps es (Distinct p) x t e = in_place-keeps es (Distinct p) x t e

  in_place-falls : (es : List Expr) (p : Plan) (x : Step) → then_some (are_in_place (width s p) es) (p, fell.Weight) ≡ Some x → Falls s (Project es p) x
  in_place-falls es p x e =
      let w = then_given (are_in_place (width s p) es) (p, fell.Weight) x e in
      subst (Falls s (Project es p)) w.1 (let h = weight_positive p in omega (arith, h))

  projected-falls : (es : List Expr) (p : Plan) (x : Step) → projected s es p ≡ Some x → Falls s (Project es p) x
  projected-falls es (Project fs p) x e = subst (Falls s (Project es (Project fs p))) (same_Some (Project (map (put (at_place fs)) es) p, fell.Weight) x e) (omega arith)
  projected-falls es UnitPlan x e = in_place-falls es UnitPlan x e
  projected-falls es (Empty ks) x e = in_place-falls es (Empty ks) x e
  projected-falls es (Scan table) x e = in_place-falls es (Scan table) x e
  projected-falls es (Select c p) x e = in_place-falls es (Select c p) x e
  projected-falls es (Join ps c) x e = in_place-falls es (Join ps c) x e
  projected-falls es (Left p q c) x e = in_place-falls es (Left p q c) x e
  projected-falls es (AntiJoin p q c) x e = in_place-falls es (AntiJoin p q c) x e
  projected-falls es (UnionAll ps) x e = in_place-falls es (UnionAll ps) x e
  projected-falls es (Distinct p) x e = in_place-falls es (Distinct p) x e

pub merge_projects-keeps : KeepsAll merge_projects
merge_projects-keeps s form (Project es p) x t e = projected-keeps s es p x t e
merge_projects-keeps s form _ x t e = cc

pub merge_projects-falls : FallsAll merge_projects
merge_projects-falls s form (Project es p) x t e = projected-falls s es p x e
merge_projects-falls s form _ x t e = cc
