-- The value of a chain, joined from the left, from the values of its members.
use Rattle.std.proofs.Common.{◌≡◌, ◌∙◌, List, [], ◌∷◌, fold, map, refl, sym, ap}
use Rattle.std.specs.Prelude.{Option, Result, Ok, Err, IfOk, IsOkAnd}
use Rattle.vkg_terms.specs.declared.term.Term.{Term}
use Rattle.vkg_sparql.specs.declared.condition.Condition.{Condition as ConditionValue}
use Rattle.vkg_sparql.specs.Query.{Condition}
use Rattle.vkg_sparql.specs.Seen.{condition_seen}
use Rattle.vkg_algebra.specs.Solutions.{Solution}
use Rattle.vkg_algebra.specs.Values.{expression_value}

-- an operator of conditions, and what it makes of the values of its operands
module _ (op : Condition → Condition → Condition) (on : Option Term → Option Term → Option Term) (s : Solution) (made : (a b : Condition) → on (expression_value a s) (expression_value b s) ≡ expression_value (op a b) s) where
  value_chain : (a : Condition) (cs : List ConditionValue) → fold on (expression_value a s) (map (λ c. expression_value (condition_seen c) s) cs) ≡ expression_value (fold op a (map condition_seen cs)) s
  value_chain a [] = refl
  value_chain a (c ∷ cs) = ap (λ v. fold on v (map (λ d. expression_value (condition_seen d) s) cs)) (made a (condition_seen c)) ∙ value_chain (op a (condition_seen c)) cs

  -- what is made of the values of a chain's members
  pub chain_result : {E : Type 0} (a : ConditionValue) (cs : List ConditionValue) (whole : ConditionValue) (r first : Result (Option Term) E) (more : Result (List (Option Term)) E) →
      IfOk r (λ v. IsOkAnd first (λ w. IsOkAnd more (λ vs. v ≡ fold on w vs))) →
      IfOk first (λ w. w ≡ expression_value (condition_seen a) s) → IfOk more (λ vs. vs ≡ map (λ c. expression_value (condition_seen c) s) cs) →
      condition_seen whole ≡ fold op (condition_seen a) (map condition_seen cs) → IfOk r (λ v. v ≡ expression_value (condition_seen whole) s)
  chain_result a cs whole (Err m) first more h f g is = tt
  chain_result a cs whole (Ok v) (Err m) more h f g is = absurd h
  chain_result a cs whole (Ok v) (Ok w) (Err m) h f g is = absurd h
  chain_result a cs whole (Ok v) (Ok w) (Ok vs) h f g is =
      h ∙ (λ i. fold on (f i) (g i)) ∙ value_chain (condition_seen a) cs ∙ sym (ap (λ c. expression_value c s) is)
