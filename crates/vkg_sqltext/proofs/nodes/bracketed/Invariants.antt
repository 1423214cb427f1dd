use Rattle.std.proofs.Common.{◌≡◌, take, map}
use Rattle.vkg_sqltext.specs.Text.{in_brackets}
use Rattle.vkg_sqltext.proofs.nodes.bracketed.Given as goal

abbrev pub invariant-loop-text : goal.invariant-loop-text
invariant-loop-text l = l.all ≡ map in_brackets (take l.text-index l.texts)
