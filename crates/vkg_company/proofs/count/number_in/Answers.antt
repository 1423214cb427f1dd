use Rattle.std.proofs.Common.{◌∙◌, sym, ap, Some}
use Rattle.vkg_company.proofs.Counts.{parsed}
use Rattle.vkg_lists.proofs.Results.{ok_err, ok_same}
use Rattle.vkg_company.proofs.count.number_in.Goals as goal

pub returns-in-Ok : goal.returns-in-Ok
returns-in-Ok c = λ n h e. ap Some (ok_same c.in-Ok.n n (sym c.in-Ok.is ∙ parsed c.args.word.now n c.parse.result h e c.parse.ensures.value.0))

pub returns-in-Err : goal.returns-in-Err
returns-in-Err c = λ n h e. absurd (ok_err n _ (sym (parsed c.args.word.now n c.parse.result h e c.parse.ensures.value.0) ∙ c.in-Err.is))
