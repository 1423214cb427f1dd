use Rattle.vkg_turtle.proofs.Cutting.{behind_found, behind_none}
use Rattle.vkg_turtle.proofs.path.behind_slash.Goals as goal

pub returns-in-Some : goal.returns-in-Some
returns-in-Some c = behind_found c.args.path.now _ c.in-Some.at c.rfind.ensures.cases c.in-Some.is

pub returns-in-None : goal.returns-in-None
returns-in-None c = behind_none c.args.path.now _ c.rfind.ensures.cases c.in-None.is
