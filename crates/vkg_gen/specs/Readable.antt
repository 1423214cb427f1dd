-- Texts that are read as queries.
use Rattle.std.specs.Prelude.{List, ℕ}
use Rattle.vkg_sparql.specs.declared.fault.QueryFault.{QueryFault}
use Rattle.vkg_sparql.specs.Reading.{IsFirstFault}
use Rattle.vkg_schema.specs.Company.{base}

-- the text has no fault
abbrev pub IsFaultless : List ℕ → Type 0
IsFaultless text = (f : QueryFault) → IsFirstFault text base f → ⊥
