-- What the parts of the program stand for.
use Rattle.std.specs.Prelude.{Bool, true, List, [], ◌∷◌}
use Rattle.vkg_expr.specs.Expr.{Expr, And, Or, exprs}
use Rattle.vkg_expr.specs.Seen.{expr_seen}
use Rattle.vkg_unfold.specs.declared.named.Named.{Named as NamedValue}
use Rattle.vkg_unfolded.specs.Conditions.{to_truth}
use Rattle.vkg_unfolded.specs.Unfolded.{Named}

-- a name with its expression
abbrev pub named_seen : NamedValue → Named
named_seen n = (n.name, expr_seen n.expr)

-- true where a list has members
abbrev pub some_or : {X : Type 0} → List X → Bool → Bool
some_or [] b = b
some_or (x ∷ xs) b = true

-- truths joined from the left
abbrev pub all_of : Expr → List Expr → Expr
all_of e [] = e
all_of e (f ∷ fs) = all_of (And (exprs (e ∷ f ∷ []))) fs

abbrev pub any_of : Expr → List Expr → Expr
any_of e [] = e
any_of e (f ∷ fs) = any_of (Or (exprs (e ∷ f ∷ []))) fs

-- a chain of a first expression and truths
abbrev pub chain_all : Bool → Expr → List Expr → Expr
chain_all b e [] = e
chain_all b e (f ∷ fs) = all_of (to_truth b e) (f ∷ fs)

abbrev pub chain_any : Bool → Expr → List Expr → Expr
chain_any b e [] = e
chain_any b e (f ∷ fs) = any_of (to_truth b e) (f ∷ fs)
