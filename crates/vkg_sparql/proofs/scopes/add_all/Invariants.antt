use Rattle.std.proofs.Common.{◌≡◌, fold, take}
use Rattle.vkg_sparql.specs.Scopes.{with_number}
use Rattle.vkg_sparql.proofs.scopes.add_all.Given as goal

abbrev pub invariant-loop-number : goal.invariant-loop-number
invariant-loop-number l = l.numbers ≡ fold with_number l.fn.numbers (take l.number-index l.more)
