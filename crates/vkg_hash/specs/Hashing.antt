-- own: what a seeded hasher computes, by the words of std's fast one.
use Rattle.std.specs.Prelude.{ℕ, zero, suc, ◌-◌, ◌*◌, ◌/◌, List, length, if◌then◌else◌, nat_le, bit_xor}
use Rattle.std.specs.Hash.FoldHasher.{folded_multiply, read_short, read_u64}
use Rattle.vkg_hash.specs.declared.hasher.SeededHasher.{SeededHasher}

-- the state after a word
abbrev pub mixed : ℕ → ℕ → ℕ → ℕ
mixed factor state word = folded_multiply (bit_xor state word) factor

-- the state after the first n words of 8 bytes
unfoldable pub after_words : ℕ → List ℕ → ℕ → ℕ → ℕ
after_words factor bytes state zero = state
after_words factor bytes state (suc n) = mixed factor (after_words factor bytes state n) (read_u64 bytes (8 * n))

-- the last 8 bytes, or all
abbrev pub last_word : List ℕ → ℕ
last_word bytes = if nat_le (length bytes) 8 then read_short bytes else read_u64 bytes (length bytes - 8)

-- the state after a write: all whole words but the last, and then that, with the length in the factor
unfoldable pub written : SeededHasher → List ℕ → SeededHasher
written h bytes = record h {
  state = mixed (bit_xor h.factor (length bytes)) (after_words h.factor bytes h.state ((length bytes - 1) / 8)) (last_word bytes);
}
