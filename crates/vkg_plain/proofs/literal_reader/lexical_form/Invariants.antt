use Rattle.std.proofs.Common.{◌≤◌, length, string_bytes}
use denote.Shadow.{shadow}
use denote.Text.{Utf8}
use Rattle.vkg_plain.proofs.EscapeLemmas.{HasRead}
use Rattle.vkg_plain.proofs.literal_reader.lexical_form.Given as goal

abbrev pub invariant-loop-c : goal.invariant-loop-c
invariant-loop-c l = record { text : shadow (Utf8 l.rest); read : HasRead l.text (string_bytes l.form) l.rest; within : length l.rest ≤ length l.text }

abbrev pub decreases-loop-c : goal.decreases-loop-c
decreases-loop-c l = length l.rest
