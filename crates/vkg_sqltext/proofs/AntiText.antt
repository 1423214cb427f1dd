-- The text of an AntiJoin from the texts of its sides.
use Rattle.std.proofs.Common.{◌≡◌, ◌∙◌, ℕ, List, [], ◌∷◌, ◌++◌, ap, sym}
use Rattle.std.specs.Prelude.{IfOk, IsOkAnd, Result, Ok, Err, codes}
use Rattle.vkg_expr.specs.declared.expr.Expr.{Expr as ExprValue}
use Rattle.vkg_expr.specs.Seen.{expr_seen}
use Rattle.vkg_plan.specs.declared.plan.Plan.{Plan as PlanValue}
use Rattle.vkg_plan.specs.declared.plan.Plan.TheVariants as value
use Rattle.vkg_plan.specs.Kinds.{Tables}
use Rattle.vkg_plan.specs.Seen.{plan_seen}
use Rattle.vkg_plan.proofs.SeenParts.{seen-AntiJoin}
use Rattle.vkg_sqltext.specs.Text.{expr_text, separated, sources, sql_text}

abbrev anti_of : List ℕ → ExprValue → List ℕ → List ℕ
anti_of x c y = codes "SELECT * FROM " ++ separated (codes " ANTI JOIN ") (sources 1 (x ∷ y ∷ [])) ++ codes " ON " ++ expr_text (expr_seen c)

pub anti_case : {E : Type 0} (s : Tables) (e p q p' q' : PlanValue) (c : ExprValue) (r a b : Result (List ℕ) E) →
    e ≡ value.AntiJoin p q c → p' ≡ p → q' ≡ q →
    IfOk a (λ t. t ≡ sql_text s (plan_seen p')) → IfOk b (λ t. t ≡ sql_text s (plan_seen q')) →
    IfOk r (λ t. IsOkAnd a (λ x. IsOkAnd b (λ y. t ≡ anti_of x c y))) →
    IfOk r (λ t. t ≡ sql_text s (plan_seen e))
anti_case s e p q p' q' c (Err m) a b is ip iq ha hb h = tt
anti_case s e p q p' q' c (Ok t) (Err m) b is ip iq ha hb h = absurd h
anti_case s e p q p' q' c (Ok t) (Ok x) (Err m) is ip iq ha hb h = absurd h
anti_case s e p q p' q' c (Ok t) (Ok x) (Ok y) is ip iq ha hb h =
    let first : x ≡ sql_text s (plan_seen p) = ha ∙ ap (λ z. sql_text s (plan_seen z)) ip in
    let second : y ≡ sql_text s (plan_seen q) = hb ∙ ap (λ z. sql_text s (plan_seen z)) iq in
    h ∙ (λ i. anti_of (first i) c (second i)) ∙ sym (ap (sql_text s) (seen-AntiJoin p q c)) ∙ sym (ap (λ z. sql_text s (plan_seen z)) is)
