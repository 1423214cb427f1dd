-- What is asked of results that may have failed before.
use Rattle.std.specs.Prelude.{Bool, true, false, not, ◌&&◌, ◌||◌, List, Option, Result, Ok, Err}
use Rattle.std.specs.List.{list_any}
use Rattle.vkg_lists.specs.Lists.{is_empty}
use Rattle.vkg_terms.specs.declared.term.Term.{Term}
use Rattle.vkg_plain.specs.declared.fault.PlainFault.{PlainFault}
use Rattle.vkg_plain.specs.declared.fault.PlainFault.TheVariants.{WideNumber, Memory}
use Rattle.vkg_plain.specs.Asks.{is_wide}

abbrev pub is_wide_fault : PlainFault → Bool
is_wide_fault WideNumber = true
is_wide_fault Memory = false

-- it failed for such a number
abbrev pub has_failed : {T : Type 0} → Result T PlainFault → Bool
has_failed (Ok value) = false
has_failed (Err fault) = is_wide_fault fault

-- it failed for such a number, or is one
abbrev pub is_asked : Result (Option Term) PlainFault → Bool
is_asked (Ok value) = is_wide value
is_asked (Err fault) = is_wide_fault fault

-- one of the values before the last, or the last of more than one
abbrev pub are_asked : Option Term → List (Option Term) → Bool
are_asked first more = (is_wide first && not (is_empty more)) || list_any is_wide more

-- a chain of values: the first, and then the others
abbrev pub is_chain_asked : Result (Option Term) PlainFault → Result (List (Option Term)) PlainFault → Bool
is_chain_asked (Err fault) more = is_wide_fault fault
is_chain_asked (Ok first) (Err fault) = is_wide_fault fault
is_chain_asked (Ok first) (Ok more) = are_asked first more
