use Rattle.std.proofs.Common.{◌∙◌, sym, ap, arith, drop}
use Rattle.std.proofs.Math.Seq.{drop-length}
use Rattle.vkg_terms.proofs.Cuts.{found_at, found_none, from_slash-drop}
use Rattle.vkg_turtle.proofs.path.from_slash.Goals as goal

pub returns-in-Some-clause-back : goal.returns-in-Some-clause-back
returns-in-Some-clause-back c =
    c.split_at.ensures.back ∙ sym (from_slash-drop c.args.text.now ∙ ap (λ n. drop n c.args.text.now) (found_at 47 c.args.text.now _ c.in-Some.at c.find.ensures.cases (omega arith) c.in-Some.is))

pub returns-in-None-clause-back : goal.returns-in-None-clause-back
returns-in-None-clause-back c =
    sym (from_slash-drop c.args.text.now ∙ ap (λ n. drop n c.args.text.now) (found_none 47 c.args.text.now _ c.find.ensures.cases (omega arith) c.in-None.is) ∙ drop-length c.args.text.now)
