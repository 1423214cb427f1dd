use Rattle.std.proofs.Common.{◌≡◌, ◌++◌, ◌∷◌, flat_map, string_bytes, take}
use Rattle.vkg_algebra.proofs.tabs.push_each_behind.Given as goal

abbrev pub invariant-loop-text : goal.invariant-loop-text
invariant-loop-text l = string_bytes l.out ≡ string_bytes l.initial.out ++ flat_map (λ t. 9 ∷ t) (take l.text-index l.texts)
