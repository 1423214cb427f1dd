use Rattle.std.proofs.Common.{◌≡◌, take, map}
use Rattle.vkg_sqltext.specs.Text.{kind_text}
use Rattle.vkg_sqltext.proofs.nodes.kind_texts.Given as goal

abbrev pub invariant-loop-kind : goal.invariant-loop-kind
invariant-loop-kind l = l.texts ≡ map kind_text (take l.kind-index l.kinds)
