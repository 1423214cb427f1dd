-- SQL-92, 7.9, DISTINCT: repeated rows are eliminated, so that another Distinct anywhere below adds nothing; the first, in preorder, is dropped.
use Rattle.std.specs.Prelude.{ℕ, zero, suc, List, [], ◌∷◌, Bool, true, false, is_none, Option, Some, None, option_map}
use Rattle.vkg_plan.specs.Plan.{Plan, Plans, Unit, Empty, Scan, Select, Project, Join, Left, AntiJoin, UnionAll, Distinct, Nil, More}
use Rattle.vkg_rules.specs.declared.rewrite.Fell.TheVariants as fell
use Rattle.vkg_rules.specs.Everywhere.{around, everywhere}
use Rattle.vkg_rules.specs.Steps.{Rule, Step}

-- what is below a Distinct
abbrev pub without_distinct : Plan → Option Step
without_distinct (Distinct p) = Some (p, fell.Weight)
without_distinct p = None

-- so once at the first place inside of a Distinct
abbrev pub distinct_distinct : Rule
distinct_distinct schema (Distinct p) = option_map (around Distinct) (everywhere without_distinct p)
distinct_distinct schema p = None

-- where a place of a plan is another than when the rule did not apply: no Distinct is there
abbrev mutual
  pub none_at : List ℕ → Plan → Bool
  none_at [] p = is_none (everywhere without_distinct p)
  none_at (at ∷ path) Unit = true
  none_at (at ∷ path) (Empty ks) = true
  none_at (at ∷ path) (Scan table) = true
  none_at (at ∷ path) (Select c p) = none_at (at ∷ path) p
  none_at (at ∷ path) (Project es p) = none_at (at ∷ path) p
  none_at (at ∷ path) (Join ps c) = none_in at path ps
  none_at (zero ∷ path) (Left p q c) = none_at path p
  none_at (suc at ∷ path) (Left p q c) = none_at path q
  none_at (zero ∷ path) (AntiJoin p q c) = none_at path p
  none_at (suc at ∷ path) (AntiJoin p q c) = none_at path q
  none_at (at ∷ path) (UnionAll ps) = none_in at path ps
  none_at (at ∷ path) (Distinct p) = false

  pub none_in : ℕ → List ℕ → Plans → Bool
  none_in at path Nil = true
  none_in zero path (More p ps) = none_at path p
  none_in (suc at) path (More p ps) = none_in at path ps

abbrev pub stays : List ℕ → Plan → Bool
stays path (Distinct p) = none_at path p
stays path p = true
