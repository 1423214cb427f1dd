-- Truths with a third value: an error, or what SQL calls unknown.
use Rattle.std.specs.Prelude.{Bool, true, false, not, Option, Some, None, option_map}

-- SPARQL 1.1 Query, 17.2, the truth table of `&&` and `||`, and 17.3, `!`; none is an error
abbrev pub not3 : Option Bool → Option Bool
not3 o = option_map not o

abbrev pub and3 : Option Bool → Option Bool → Option Bool
and3 (Some false) q = Some false
and3 (Some true) q = q
and3 None (Some false) = Some false
and3 None q = None

abbrev pub or3 : Option Bool → Option Bool → Option Bool
or3 (Some true) q = Some true
or3 (Some false) q = q
or3 None (Some true) = Some true
or3 None q = None
