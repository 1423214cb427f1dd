use Rattle.std.specs.Prelude.{◌≡◌, ℕ, suc, ◌+◌, ◌-◌, ◌*◌, ◌/◌, length}
use Rattle.std.proofs.Common.{arith, refl}
use Rattle.vkg_hash.specs.Hashing.{after_words, written}
use Rattle.vkg_hash.proofs.hasher.SeededHasherHasher.write.Goals as goal

pub loop-at-init : goal.loop-at-init
unfolding after_words
loop-at-init c = (refl, omega arith, omega arith, refl)

pub loop-at-preserved : goal.loop-at-preserved
unfolding after_words
loop-at-preserved c =
    let at : ℕ = c.loop-at.at in
    let whole : at ≡ 8 * (at / 8) = omega (arith, c.loop-at.invariant.0) in
    let more : (at + 8) / 8 ≡ suc (at / 8) = omega arith in (
      omega (arith, c.loop-at.invariant.0),
      omega (arith, c.loop-at-test.true),
      omega (arith, c.loop-at.invariant.0, c.loop-at-test.true),
      rw (more, c.mixed-state.ensures, c.read_u64.ensures, ← c.loop-at.invariant.3, ← whole),
    )

pub returns : goal.returns
unfolding written
returns c =
    let n : ℕ = length c.args.bytes.now in
    let count : (n - 1) / 8 ≡ c.loop-at.at / 8 = omega (arith, c.loop-at.invariant.0, c.loop-at.invariant.1, c.loop-at.invariant.2, c.loop-at-test.false) in
    rw (count, ← c.loop-at.invariant.3, c.mixed-self.ensures, c.last_word.ensures)
