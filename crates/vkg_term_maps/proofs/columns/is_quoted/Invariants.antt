use Rattle.std.proofs.Common.{◌≡◌, drop}
use Rattle.std.specs.Str.{bytes_eq}
use Rattle.vkg_terms.specs.Name.{quoted}
use Rattle.vkg_term_maps.proofs.columns.is_quoted.Given as goal

abbrev pub invariant-loop-b : goal.invariant-loop-b
invariant-loop-b l = bytes_eq l.rest (quoted (drop l.b-index l.name)) ≡ bytes_eq l.text (quoted l.name)
