-- The bounds of a plan of one node.
use Rattle.vkg_tests_plans.proofs.StepBounds.{at-least, at-most}
use Rattle.vkg_tests_plans.proofs.of_steps.scan_of_three.Goals as goal

pub returns-clause-least : goal.returns-clause-least
returns-clause-least g c =
    at-least c.args.database.now.schema c.args.database.now.tables c.args.plan.now c.args.steps.now c.run.new.steps c.requires.scan c.requires.three c.run.result c.run.ensures.bag c.run.ensures.least

pub returns-clause-most : goal.returns-clause-most
returns-clause-most g c =
    at-most c.args.database.now.schema c.args.database.now.tables c.args.plan.now c.args.steps.now c.run.new.steps c.requires.scan c.requires.three c.run.result c.run.ensures.most
