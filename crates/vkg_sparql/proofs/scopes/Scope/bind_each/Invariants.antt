use Rattle.std.proofs.Common.{◌≡◌, fold, take}
use Rattle.vkg_sparql.specs.Scopes.{with_bound}
use Rattle.vkg_sparql.proofs.scopes.Scope.bind_each.Given as goal

abbrev pub invariant-loop-token : goal.invariant-loop-token
invariant-loop-token l = l.self ≡ fold (with_bound l.meanings l.lexemes) l.fn.self (take l.token-index l.tokens)
