use Rattle.std.proofs.Common.{◌≡◌, ◌+◌, ◌++◌, drop, suc}
use Rattle.std.specs.Prelude.{string_bytes}
use Rattle.vkg_sqltext.specs.OrderText.{more_keys_text}
use Rattle.vkg_sqltext.proofs.order_texts.push_more_keys.Given as goal

abbrev pub invariant-loop-i : goal.invariant-loop-i
invariant-loop-i l = string_bytes l.out ++ more_keys_text (suc l.first + l.i) (drop l.i l.directions) ≡ string_bytes l.fn.out ++ more_keys_text (suc l.first) l.directions
