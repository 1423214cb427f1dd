use Rattle.std.proofs.Common.{◌≡◌, string_bytes, flat_map, encode_utf8, fold}
use Rattle.vkg_turtle.specs.declared.escape.Escape.TheVariants.{Outside}
use Rattle.vkg_turtle.specs.Escapes.{behind, unescaped}
use Rattle.vkg_turtle.proofs.escape.text_meant.Given as goal

abbrev pub invariant-loop-c : goal.invariant-loop-c
invariant-loop-c l = record {
  text : string_bytes l.out ≡ flat_map encode_utf8 (unescaped Outside l.yielded);
  escape : l.escape ≡ fold behind Outside l.yielded;
}
