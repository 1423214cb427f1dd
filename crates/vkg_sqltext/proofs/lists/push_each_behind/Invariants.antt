use Rattle.std.proofs.Common.{◌≡◌, ◌++◌, ℕ, List, take, flat_map, string_bytes}
use Rattle.vkg_sqltext.proofs.lists.push_each_behind.Given as goal

abbrev pub invariant-loop-text : goal.invariant-loop-text
invariant-loop-text l = string_bytes l.out ≡ string_bytes l.initial.out ++ flat_map (λ (u : List ℕ). l.sign ++ u) (take l.text-index l.texts)
