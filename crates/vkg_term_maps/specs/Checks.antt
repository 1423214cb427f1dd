-- The checks on a term map, by their numbers.
use Rattle.std.specs.Prelude.{ℕ}
use Rattle.vkg_term_maps.specs.declared.error.TermMapFault.{TermMapFault}
use Rattle.vkg_term_maps.specs.declared.error.TermMapFault.TheVariants.{Kind, UnknownColumn, BadTemplate, DoubtfulTemplate, TermType, Annotation, WideNumber}

-- as in the fault codes M11 to M16 and M22
abbrev pub check_of : TermMapFault → ℕ
check_of Kind = 11
check_of UnknownColumn = 12
check_of BadTemplate = 13
check_of DoubtfulTemplate = 14
check_of TermType = 15
check_of Annotation = 16
check_of WideNumber = 22
