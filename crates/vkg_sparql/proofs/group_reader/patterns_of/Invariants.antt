use Rattle.std.proofs.Common.{◌≡◌, take}
use Rattle.vkg_sparql.specs.Groups.{patterns_of}
use Rattle.vkg_sparql.proofs.group_reader.patterns_of.Given as goal

abbrev pub invariant-loop-triple : goal.invariant-loop-triple
invariant-loop-triple l = l.patterns ≡ patterns_of l.meanings (take l.triple-index l.triples)
