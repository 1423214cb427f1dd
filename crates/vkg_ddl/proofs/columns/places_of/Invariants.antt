use Rattle.std.proofs.Common.{◌≡◌, ℕ, List, ◌++◌, drop}
use Rattle.std.specs.List.{enumerate_from}
use Rattle.vkg_hash.specs.Groups.{group}
use Rattle.vkg_ddl.specs.Index.{places_named}
use Rattle.vkg_ddl.proofs.columns.places_of.Given as goal

abbrev pub invariant-loop-k : goal.invariant-loop-k
invariant-loop-k l = (q : List ℕ) → group l.index q ++ places_named q (enumerate_from l.k (drop l.k l.columns)) ≡ places_named q (enumerate_from 0 l.columns)
