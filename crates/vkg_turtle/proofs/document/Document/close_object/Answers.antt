use Rattle.std.proofs.Common.{sym, ap, ◌∙◌}
use Rattle.vkg_turtle.specs.Document.{restored}
use Rattle.vkg_turtle.proofs.Lasts.{last_is, front_is}
use Rattle.vkg_turtle.proofs.document.Document.close_object.Goals as goal

pub returns-in-Some : goal.returns-in-Some
returns-in-Some c =
    let last = last_is c.args.self.now.outer c.pop.new.self c.in-Some.field-0 c.in-Some.ensures in
    let front = front_is c.args.self.now.outer c.pop.new.self c.in-Some.field-0 c.in-Some.ensures in
    ap (λ os. record c.args.self.now { outer = os; subject = c.in-Some.field-0.subject; predicate = c.in-Some.field-0.predicate }) (sym front)
    ∙ ap (λ o. restored o c.args.self.now) (sym last)
