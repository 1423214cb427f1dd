-- A test of each column until here, each once.
use Rattle.std.proofs.Common.{◌≡◌, map, nat_eq, take}
use Rattle.vkg_lists.specs.Sets.{distinct}
use Rattle.vkg_expr.specs.Seen.{expr_seen}
use Rattle.vkg_nulls.specs.NullTests.{null_test}
use Rattle.vkg_nulls.proofs.null_tests.tests.Given as goal

abbrev pub invariant-loop-i : goal.invariant-loop-i
invariant-loop-i l = map expr_seen l.tests ≡ map null_test (distinct nat_eq (take l.i l.columns))
