use Rattle.std.proofs.Common.{sym, subst}
use Rattle.std.specs.Prelude.{IsUtf8}
use Rattle.vkg_ddl.proofs.Words.{word_utf8}
use Rattle.std.proofs.lemmas.Str.{IsUtf8-string_bytes}
use Rattle.vkg_ddl.proofs.name.name_at.Goals as goal

pub unreachable-requires : goal.unreachable-requires
unreachable-requires c =
    let utf8 : IsUtf8 c.in_ok-bytes.bytes.items = subst IsUtf8 (sym c.in_ok-bytes.ensures) (word_utf8 c.args.text.now c.args.token c.requires.text c.requires.some c.requires.inside c.requires.ends) in
    let wrong = c.in-Err.ensures.succeeds utf8 in
    absurd (cc)

pub returns-clause-utf8 : goal.returns-clause-utf8
returns-clause-utf8 c = subst IsUtf8 (sym c.from_string.ensures) (IsUtf8-string_bytes c.in-Ok.string)
