use Rattle.std.proofs.Common.{ℕ, ◌<◌, get_or}
use Rattle.vkg_grammar.proofs.productive.has_no_zero.Given as goal

abbrev pub invariant-loop-found : goal.invariant-loop-found
invariant-loop-found l = (n : ℕ) → n < l.found-index → 0 < get_or l.table n 0
