-- The value of an expression in a solution; none is an error.
use Rattle.std.specs.Prelude.{Bool, true, false, Option, Some, None, is_some, option_map, option_and_then, codes}
use Rattle.vkg_terms.specs.declared.term.Term.{Term}
use Rattle.vkg_terms.specs.declared.term.Term.TheVariants.{Lit}
use Rattle.vkg_terms.specs.declared.term.Annotation.TheVariants.{Typed}
use Rattle.vkg_terms.specs.Same.{term_eq}
use Rattle.vkg_terms.specs.Vocabulary.{xsd}
use Rattle.vkg_schema.specs.Rows.{is_known_true}
use Rattle.vkg_values.specs.Logic.{not3, and3, or3}
use Rattle.vkg_values.specs.Operators.{ebv, test_value, take_value, compare_value, on_two}
use Rattle.vkg_sparql.specs.Query.{Condition, Variable, Constant, Bound, Test, Take, Compare, SameTerm, Not, And, Or}
use Rattle.vkg_algebra.specs.Solutions.{Solution, lookup}

-- SPARQL 1.1, 17.2: a truth is an xsd:boolean
abbrev pub truth_term : Bool → Term
truth_term true = Lit (codes "true") (Typed (xsd (codes "boolean")))
truth_term false = Lit (codes "false") (Typed (xsd (codes "boolean")))

-- SPARQL 1.1, 17.2.2: the effective boolean value of what may be an error
abbrev pub truth : Option Term → Option Bool
truth value = option_and_then (ebv None) value

-- SPARQL 1.1, 17.2 to 17.4: by the form of the expression; an unbound variable is an error but in BOUND
abbrev pub expression_value : Condition → Solution → Option Term
expression_value (Variable v) s = lookup s v
expression_value (Constant t) s = Some t
expression_value (Bound v) s = Some (truth_term (is_some (lookup s v)))
expression_value (Test op a) s = option_map (λ t. truth_term (test_value None op t)) (expression_value a s)
expression_value (Take op a) s = option_and_then (take_value op) (expression_value a s)
expression_value (Compare op a b) s = option_map truth_term (on_two (compare_value None op) (expression_value a s) (expression_value b s))
expression_value (SameTerm a b) s = option_map truth_term (on_two (λ t u. Some (term_eq t u)) (expression_value a s) (expression_value b s))
expression_value (Not a) s = option_map truth_term (not3 (truth (expression_value a s)))
expression_value (And a b) s = option_map truth_term (and3 (truth (expression_value a s)) (truth (expression_value b s)))
expression_value (Or a b) s = option_map truth_term (or3 (truth (expression_value a s)) (truth (expression_value b s)))

-- SPARQL 1.1, 18.5, Filter: the effective boolean value is true
abbrev pub holds : Condition → Solution → Bool
holds c s = is_known_true (truth (expression_value c s))

-- a condition that may be left out, which is then true
abbrev pub holds_if_any : Option Condition → Solution → Bool
holds_if_any None s = true
holds_if_any (Some c) s = holds c s
