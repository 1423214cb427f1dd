-- Its laws: each left row is without a pair that passes.
use Rattle.std.proofs.Common.{◌≡◌, ◌∙◌, ℕ, ◌+◌, ◌*◌, Bool, true, false, List, [], ◌++◌, Some, refl, sym, ap, subst, arith}
use Rattle.std.specs.Prelude.{◌||◌, Contains, filter}
use Rattle.vkg_lists.proofs.Bags.{bag_same}
use Rattle.vkg_lists.proofs.Members.{Contains-none}
use Rattle.vkg_lists.proofs.Results.{then_given}
use Rattle.vkg_schema.specs.Rows.{Database, Row}
use Rattle.vkg_expr.specs.Expr.{Expr}
use Rattle.vkg_expr.specs.Value.{holds}
use Rattle.vkg_plan.specs.Kinds.{Tables}
use Rattle.vkg_plan.specs.Plan.{Plan, AntiJoin, Empty}
use Rattle.vkg_plan.specs.Rows.{alone_rows, rows_of}
use Rattle.vkg_rules.specs.declared.rewrite.Fell.TheVariants as fell
use Rattle.vkg_rules.specs.Measure.{weight}
use Rattle.vkg_rules.specs.Parts.{anti-kinds}
use Rattle.vkg_rules.specs.Steps.{Falls, FallsAll, IsTyped, Keeps, KeepsAll, Step}
use Rattle.vkg_rules.specs.Weights.{weight_positive}
use Rattle.vkg_shapes.specs.FalseCondition.{is_never}
use Rattle.vkg_shapes.specs.FalseConditionLaw.{never-holds}
use Rattle.vkg_shapes.specs.PartsLaw.{all_alone, times_more}
use Rattle.vkg_shapes.specs.PropagateEmpty.{is_nothing}
use Rattle.vkg_antis.specs.AntiNothing.{anti_nothing}

nothing-rows : (s : Tables) (db : Database) (p : Plan) → is_nothing p ≡ true → rows_of s p db ≡ []
nothing-rows s db (Empty ks) h = refl
nothing-rows s db _ h = cc

-- the three reasons
all-left : (s : Tables) (db : Database) (p q : Plan) (c : Expr) (a b d : Bool) → is_never c ≡ a → is_nothing q ≡ b → is_nothing p ≡ d → (a || (b || d)) ≡ true →
    alone_rows (holds c) (rows_of s p db) (rows_of s q db) ≡ rows_of s p db
all-left s db p q c true b d e f g h = all_alone (holds c) (rows_of s p db) (rows_of s q db) (λ l r i. never-holds c (l ++ r) e)
all-left s db p q c false true d e f g h =
    all_alone (holds c) (rows_of s p db) (rows_of s q db) (λ l r i. absurd (Contains-none r (subst (λ rows. Contains rows r) (nothing-rows s db q f) i)))
all-left s db p q c false false true e f g h =
    ap (λ rows. alone_rows (holds c) rows (rows_of s q db)) (nothing-rows s db p g) ∙ sym (nothing-rows s db p g)
all-left s db p q c false false false e f g h = cc

anti-keeps : (s : Tables) (p q : Plan) (c : Expr) (x : Step) → IsTyped s (AntiJoin p q c) → anti_nothing s (AntiJoin p q c) ≡ Some x → Keeps s (AntiJoin p q c) x.0
anti-keeps s p q c x t e =
    let w = then_given (is_never c || (is_nothing q || is_nothing p)) (p, fell.Weight) x e in
    subst (λ (z : Step). Keeps s (AntiJoin p q c) z.0) w.1
    (record { kinds = sym (anti-kinds s p q c t); rows = λ db m. bag_same (all-left s db p q c (is_never c) (is_nothing q) (is_nothing p) refl refl refl w.0) })

anti-falls : (s : Tables) (p q : Plan) (c : Expr) (x : Step) → anti_nothing s (AntiJoin p q c) ≡ Some x → Falls s (AntiJoin p q c) x
anti-falls s p q c x e =
    let w = then_given (is_never c || (is_nothing q || is_nothing p)) (p, fell.Weight) x e in
    let h = times_more (4 * weight p) (weight q) (weight_positive q) in
    subst (Falls s (AntiJoin p q c)) w.1 (omega (arith, h))

pub anti_nothing-keeps : KeepsAll anti_nothing
anti_nothing-keeps s form (AntiJoin p q c) x t e = anti-keeps s p q c x t e
anti_nothing-keeps s form _ x t e = cc

pub anti_nothing-falls : FallsAll anti_nothing
anti_nothing-falls s form (AntiJoin p q c) x t e = anti-falls s p q c x e
anti_nothing-falls s form _ x t e = cc
