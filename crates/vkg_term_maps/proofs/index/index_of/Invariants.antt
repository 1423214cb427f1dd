use Rattle.std.proofs.Common.{◌≡◌, ℕ, List, ◌++◌, drop}
use Rattle.std.specs.List.{enumerate_from}
use Rattle.vkg_hash.specs.Groups.{group}
use Rattle.vkg_term_maps.specs.Index.{numbers_named}
use Rattle.vkg_term_maps.proofs.index.index_of.Given as goal

abbrev pub invariant-loop-k : goal.invariant-loop-k
invariant-loop-k l = (q : List ℕ) → group l.index q ++ numbers_named q (enumerate_from l.k (drop l.k l.triples)) ≡ numbers_named q (enumerate_from 0 l.triples)
