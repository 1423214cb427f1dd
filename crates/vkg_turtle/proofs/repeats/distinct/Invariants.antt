use Rattle.std.proofs.Common.{◌≡◌, [], fold}
use Rattle.vkg_turtle.specs.Document.{with_triple}
use Rattle.vkg_turtle.proofs.repeats.distinct.Given as goal

abbrev pub invariant-loop-triple : goal.invariant-loop-triple
invariant-loop-triple l = l.kept.keys ≡ fold with_triple [] l.yielded
