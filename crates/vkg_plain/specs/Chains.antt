-- The value of `&&` and `||` from the values of their operands (SPARQL 1.1, 17.2).
use Rattle.std.specs.Prelude.{Option, option_map}
use Rattle.vkg_terms.specs.declared.term.Term.{Term}
use Rattle.vkg_values.specs.Logic.{and3, or3}
use Rattle.vkg_algebra.specs.Values.{truth, truth_term}

abbrev pub both_value : Option Term → Option Term → Option Term
both_value a b = option_map truth_term (and3 (truth a) (truth b))

abbrev pub either_value : Option Term → Option Term → Option Term
either_value a b = option_map truth_term (or3 (truth a) (truth b))
