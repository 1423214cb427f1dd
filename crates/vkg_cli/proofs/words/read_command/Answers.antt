use Rattle.std.proofs.Common.{◌≡◌, ◌∙◌, ap, ap₂, subst, sym, map, string_bytes, inl, inr, [], None, option_and_then}
use Rattle.clap.specs.Words.{IsAmong, fault_of, kind_of, is_simple, is_simple_and_free, subcommand_of, subcommand_rows_of}
use Rattle.vkg_cli.specs.Words.{named_words}
use Rattle.vkg_cli.specs.CommandLine.{vkg_app}
use Rattle.vkg_cli.proofs.AskedLemmas.{asked-refused, asked-taken, simple, simple-and-free}
use Rattle.vkg_cli.proofs.TakenLemmas.{refusal, taking}
use Rattle.vkg_cli.proofs.words.read_command.Goals as goal

pub returns-in-Ok-clause-value : goal.returns-in-Ok-clause-value
returns-in-Ok-clause-value c =
    let app = c.in_ok-program.ensures in
    let texts = map string_bytes c.args.words.now.items in
    let words = ap (map string_bytes) c.as_slice.ensures.value in
    let fault : fault_of vkg_app texts ≡ [] = ap₂ fault_of (sym app) (sym words) ∙ c.in-Ok.ensures.kinds (ap is_simple_and_free app ∙ simple-and-free) in
    let used : subcommand_rows_of c.in-Ok.matches ≡ subcommand_of vkg_app texts = (c.in-Ok.ensures.matches (ap is_simple app ∙ simple)).1 ∙ ap₂ subcommand_of app words in
    c.read_matches.ensures.value ∙ ap (option_and_then (λ p. named_words p.0 p.1)) used ∙ sym (asked-taken texts fault)

pub returns-clause-value : goal.returns-clause-value
returns-clause-value c =
    let app = c.in_ok-program.ensures in
    let texts = map string_bytes c.args.words.now.items in
    let words = ap (map string_bytes) c.as_slice.ensures.value in
    elim (c.in-Err.ensures.kinds (ap is_simple_and_free app ∙ simple-and-free)) [
      | inl memory ↦ absurd (c.in_default.not-OutOfMemory (c.kind.ensures ∙ memory))
      | inr among ↦ sym (asked-refused texts (kind_of c.in-Err.error) (subst (IsAmong (kind_of c.in-Err.error)) (ap₂ fault_of app words) among))
    ]

pub returns-in-Ok-clause-taken : goal.returns-in-Ok-clause-taken
returns-in-Ok-clause-taken c = taking c.read_matches.result (map string_bytes c.args.words.now.items) (returns-in-Ok-clause-value c)

pub returns-in-Ok-clause-refused : goal.returns-in-Ok-clause-refused
returns-in-Ok-clause-refused c = refusal c.read_matches.result (map string_bytes c.args.words.now.items) (returns-in-Ok-clause-value c)

pub returns-clause-refused : goal.returns-clause-refused
returns-clause-refused c = refusal None (map string_bytes c.args.words.now.items) (returns-clause-value c)
