use Rattle.std.proofs.Common.{ap, ◌∙◌}
use Rattle.vkg_turtle.specs.Document.{annotated_triple}
use Rattle.vkg_turtle.proofs.Lasts.{last_changed}
use Rattle.std.proofs.lemmas.Result.{on_ok_weaker}
use Rattle.vkg_turtle.proofs.document.Document.annotate.Goals as goal

pub returns-in-Some : goal.returns-in-Some
returns-in-Some c = on_ok_weaker c.push.result
    (λ e. ap (λ ts. record c.args.self.now { triples = ts }) (e ∙ last_changed (annotated_triple c.args.annotation) c.args.self.now.triples c.pop.new.self c.in-Some.last c.annotated_triple.result c.in-Some.ensures c.annotated_triple.ensures))
    c.push.ensures.ok
