use Rattle.std.proofs.Common.{map, string_bytes}
use Rattle.vkg_cli.specs.Words.{is_help}
use Rattle.vkg_cli.proofs.Answers.{answers_to, no_help_asked, reports_to, short_words}
use Rattle.vkg_cli.proofs.top.run.Goals as goal

pub returns-in-Ok-Run : goal.returns-in-Ok-Run
returns-in-Ok-Run g c =
    let asked = rw c.in-Ok-Run.field-0-is at c.in-Ok-Run.ensures.value in
    answers_to _ _ _ _ c.text_of-made.result _ asked c.text_of-made.ensures.kind c.text_of-made.ensures.numbered c.text_of-made.ensures.text c.text_of-made.ensures.asked c.text_of-made.ensures.ran c.deliver.ensures

pub returns-in-Err : goal.returns-in-Err
returns-in-Err g c = short_words (map string_bytes c.args.words.now.items) _ _ _ _ (no_help_asked (is_help (map string_bytes c.args.words.now.items)) c.read_request.result _ c.read_request.ensures.help c.in-Err.is) c.tell-in-Err.ensures

pub returns-in-Ok-Gen : goal.returns-in-Ok-Gen
returns-in-Ok-Gen g c =
    let asked = rw c.in-Ok-Gen.field-0-is at c.in-Ok-Gen.ensures.value in
    reports_to _ _ _ _ _ asked (c.write_report.ensures _)
