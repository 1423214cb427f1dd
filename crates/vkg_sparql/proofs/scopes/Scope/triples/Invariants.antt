use Rattle.std.proofs.Common.{◌≡◌, take}
use Rattle.vkg_sparql.specs.Scopes.{with_triples}
use Rattle.vkg_sparql.proofs.scopes.Scope.triples.Given as goal

abbrev pub invariant-loop-triple : goal.invariant-loop-triple
invariant-loop-triple l = l.self ≡ with_triples l.meanings l.fn.self (take l.triple-index l.triples)
