use Rattle.std.proofs.Common.{◌≡◌, ◌∙◌, true, false}
use Rattle.std.specs.Char.{is_ascii_digit}
use Rattle.std.specs.List.{list_all}
use Rattle.vkg_sparql.proofs.SliceNumbers.{no_digits, read}
use Rattle.vkg_sparql.proofs.order_reader.slice_number.Goals as goal

pub returns-then-not-are_digits : goal.returns-then-not-are_digits
returns-then-not-are_digits c =
    let d : list_all is_ascii_digit c.args.text.now ≡ false = cc in
    no_digits c.args.text.now d

pub returns : goal.returns
returns c =
    let d : list_all is_ascii_digit c.args.text.now ≡ true = cc in
    c.ok.ensures.value ∙ read _ c.args.text.now c.parse.result d c.parse.ensures.value.0
