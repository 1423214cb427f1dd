-- Chains of `&&` and `||`, joined from the left.
use Rattle.std.proofs.Common.{◌≡◌, ◌∙◌, ℕ, Bool, true, List, [], ◌∷◌, map, refl, sym, ap}
use Rattle.std.specs.Prelude.{Result, Ok, Err, IfOk, IsOkAnd, fold}
use Rattle.vkg_sparql.specs.declared.condition.Condition.{Condition as ConditionValue}
use Rattle.vkg_sparql.specs.declared.condition.Condition.TheVariants as value
use Rattle.vkg_sparql.specs.Query.{Condition, And, Or}
use Rattle.vkg_sparql.specs.Seen.{condition_seen}
use Rattle.vkg_expr.specs.declared.expr.Expr.{Expr as ExprValue}
use Rattle.vkg_expr.specs.Expr.{Expr, exprs}
use Rattle.vkg_expr.specs.Seen.{expr_seen}
use Rattle.vkg_expr.specs.Expr as expr
use Rattle.vkg_unfolded.specs.Conditions.{expr_of, gives_truth, to_truth, truth_expr}
use Rattle.vkg_unfold.specs.Parts.{all_of, any_of, chain_all, chain_any}
use Rattle.vkg_sparql.proofs.SeenForms.{seen-And, seen-Or}

all_of_truth : (at : ℕ → Expr) (a : Condition) (cs : List ConditionValue) → gives_truth a ≡ true → all_of (expr_of at a) (map (λ c. truth_expr at (condition_seen c)) cs) ≡ expr_of at (fold And a (map condition_seen cs))
all_of_truth at a [] h = refl
all_of_truth at a (c ∷ cs) h =
    ap (λ b. all_of (expr.And (exprs (to_truth b (expr_of at a) ∷ truth_expr at (condition_seen c) ∷ []))) (map (λ d. truth_expr at (condition_seen d)) cs)) (sym h)
    ∙ all_of_truth at (And a (condition_seen c)) cs refl

any_of_truth : (at : ℕ → Expr) (a : Condition) (cs : List ConditionValue) → gives_truth a ≡ true → any_of (expr_of at a) (map (λ c. truth_expr at (condition_seen c)) cs) ≡ expr_of at (fold Or a (map condition_seen cs))
any_of_truth at a [] h = refl
any_of_truth at a (c ∷ cs) h =
    ap (λ b. any_of (expr.Or (exprs (to_truth b (expr_of at a) ∷ truth_expr at (condition_seen c) ∷ []))) (map (λ d. truth_expr at (condition_seen d)) cs)) (sym h)
    ∙ any_of_truth at (Or a (condition_seen c)) cs refl

-- the expression of a chain
pub all_chain : (at : ℕ → Expr) (a : Condition) (cs : List ConditionValue) → chain_all (gives_truth a) (expr_of at a) (map (λ c. truth_expr at (condition_seen c)) cs) ≡ expr_of at (fold And a (map condition_seen cs))
all_chain at a [] = refl
all_chain at a (c ∷ cs) = all_of_truth at (And a (condition_seen c)) cs refl

pub any_chain : (at : ℕ → Expr) (a : Condition) (cs : List ConditionValue) → chain_any (gives_truth a) (expr_of at a) (map (λ c. truth_expr at (condition_seen c)) cs) ≡ expr_of at (fold Or a (map condition_seen cs))
any_chain at a [] = refl
any_chain at a (c ∷ cs) = any_of_truth at (Or a (condition_seen c)) cs refl

-- whether a chain gives a truth
pub truth-and : (a : Condition) (cs : List Condition) → gives_truth a ≡ true → gives_truth (fold And a cs) ≡ true
truth-and a [] h = h
truth-and a (c ∷ cs) h = truth-and (And a c) cs refl

pub truth-or : (a : Condition) (cs : List Condition) → gives_truth a ≡ true → gives_truth (fold Or a cs) ≡ true
truth-or a [] h = h
truth-or a (c ∷ cs) h = truth-or (Or a c) cs refl

-- what is made of the parts of a chain
pub all_result : {E : Type 0} (at : ℕ → Expr) (r first : Result ExprValue E) (more : Result (List ExprValue) E) (b : Bool) (a : ConditionValue) (cs : List ConditionValue) (whole : ConditionValue) →
    IfOk r (λ e. IsOkAnd first (λ x. IsOkAnd more (λ fs. expr_seen e ≡ chain_all b (expr_seen x) (map expr_seen fs)))) →
    IfOk first (λ x. expr_seen x ≡ expr_of at (condition_seen a)) → IfOk more (λ fs. map expr_seen fs ≡ map (λ d. truth_expr at (condition_seen d)) cs) →
    b ≡ gives_truth (condition_seen a) → whole ≡ value.And a cs → IfOk r (λ e. expr_seen e ≡ expr_of at (condition_seen whole))
all_result at (Err m) first more b a cs whole h f g t is = tt
all_result at (Ok e) (Err m) more b a cs whole h f g t is = absurd h
all_result at (Ok e) (Ok x) (Err m) b a cs whole h f g t is = absurd h
all_result at (Ok e) (Ok x) (Ok fs) b a cs whole h f g t is =
    h ∙ (λ i. chain_all (t i) (f i) (g i)) ∙ all_chain at (condition_seen a) cs ∙ sym (ap (expr_of at) (seen-And a cs)) ∙ ap (λ d. expr_of at (condition_seen d)) (sym is)

-- what is made of the parts of a chain
pub any_result : {E : Type 0} (at : ℕ → Expr) (r first : Result ExprValue E) (more : Result (List ExprValue) E) (b : Bool) (a : ConditionValue) (cs : List ConditionValue) (whole : ConditionValue) →
    IfOk r (λ e. IsOkAnd first (λ x. IsOkAnd more (λ fs. expr_seen e ≡ chain_any b (expr_seen x) (map expr_seen fs)))) →
    IfOk first (λ x. expr_seen x ≡ expr_of at (condition_seen a)) → IfOk more (λ fs. map expr_seen fs ≡ map (λ d. truth_expr at (condition_seen d)) cs) →
    b ≡ gives_truth (condition_seen a) → whole ≡ value.Or a cs → IfOk r (λ e. expr_seen e ≡ expr_of at (condition_seen whole))
any_result at (Err m) first more b a cs whole h f g t is = tt
any_result at (Ok e) (Err m) more b a cs whole h f g t is = absurd h
any_result at (Ok e) (Ok x) (Err m) b a cs whole h f g t is = absurd h
any_result at (Ok e) (Ok x) (Ok fs) b a cs whole h f g t is =
    h ∙ (λ i. chain_any (t i) (f i) (g i)) ∙ any_chain at (condition_seen a) cs ∙ sym (ap (expr_of at) (seen-Or a cs)) ∙ ap (λ d. expr_of at (condition_seen d)) (sym is)
