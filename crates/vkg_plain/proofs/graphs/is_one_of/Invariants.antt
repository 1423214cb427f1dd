use Rattle.std.proofs.Common.{◌≡◌, drop}
use Rattle.std.specs.List.{list_any}
use Rattle.vkg_terms.specs.Same.{term_eq}
use Rattle.vkg_plain.proofs.graphs.is_one_of.Given as goal

abbrev pub invariant-loop-name : goal.invariant-loop-name
invariant-loop-name l = list_any (term_eq l.term) l.names ≡ list_any (term_eq l.term) (drop l.name-index l.names)
