use Rattle.std.specs.Prelude.{◌≡◌, ◌/◌, ◌-◌, ◌%◌, ◌≤◌}
use Rattle.vkg_hash.specs.Hashing.{after_words}
use Rattle.vkg_hash.proofs.hasher.SeededHasherHasher.write.Given as goal

abbrev pub invariant-loop-at : goal.invariant-loop-at
invariant-loop-at l = (l.at % 8 ≡ 0) × (l.at ≤ l.len) × (l.at / 8 ≤ (l.len - 1) / 8) × (l.state ≡ after_words l.self.factor l.bytes l.initial.state (l.at / 8))

abbrev pub decreases-loop-at : goal.decreases-loop-at
decreases-loop-at l = l.len - l.at
