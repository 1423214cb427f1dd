use Rattle.std.proofs.Common.{◌≡◌, ap, subst, refl, true, false, IsUtf8}
use Rattle.std.specs.Str.{is_utf8}
use Rattle.std.proofs.lemmas.Str.{IsUtf8-from_is_utf8, IsUtf8-string_bytes, is_utf8-from_IsUtf8}
use Rattle.vkg_lists.proofs.Bools.{is_false}
use Rattle.vkg_match.proofs.sources.as_text.Goals as goal

pub returns-in-Ok : goal.returns-in-Ok
returns-in-Ok c =
    let same = ap (λ v. v.items) c.in-Ok.ensures.ok in
    let u : is_utf8 c.args.octets.items ≡ true = is_utf8-from_IsUtf8 c.args.octets.items (subst IsUtf8 same (IsUtf8-string_bytes c.in-Ok.text)) in
    rw (u, c.from_string.ensures, same) refl

pub returns : goal.returns
returns c =
    let u : is_utf8 c.args.octets.items ≡ false = is_false (is_utf8 c.args.octets.items) (λ e. let h = c.in-Err.ensures.succeeds (IsUtf8-from_is_utf8 c.args.octets.items e) in cc) in
    rw u refl
