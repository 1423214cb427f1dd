use Rattle.std.proofs.Common.{◌≡◌, fold, take}
use Rattle.vkg_sparql.specs.Scopes.{with_variable}
use Rattle.vkg_sparql.proofs.scopes.Scope.variables.Given as goal

abbrev pub invariant-loop-token : goal.invariant-loop-token
invariant-loop-token l = l.self ≡ fold (with_variable l.meanings) l.fn.self (take l.token-index l.tokens)
