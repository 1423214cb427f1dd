use Rattle.vkg_cli.proofs.Answers.{reports}
use Rattle.vkg_cli.proofs.top.write_report.Goals as goal

pub returns : goal.returns
returns g c = λ store. reports c.args.n c.text_of_gen-made.result store _ _ _ _ _ c.text_of_gen-made.ensures.report c.text_of_gen-made.ensures.kind c.deliver.ensures
