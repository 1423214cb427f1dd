-- What is the unfolded plan of an algebra stands for it, and the plan of a query has its solutions.
use Rattle.std.proofs.Common.{◌≡◌, ℕ, List}
use Rattle.vkg_sparql.specs.Lawful.{IsLawfulQuery}
use Rattle.vkg_sparql.specs.Query.{Query}
use Rattle.vkg_algebra.specs.Algebra.{Algebra}
use Rattle.vkg_algebra.specs.Lawful.{IsLawfulAlgebra}
use Rattle.vkg_plan.specs.Kinds.{Tables}
use Rattle.vkg_plan.specs.Plan.{Plan}
use Rattle.vkg_row_rules.specs.declared.row_rule.RowRule.{RowRule}
use Rattle.vkg_unfolded.specs.declared.mode.Mode.{Mode}
use Rattle.vkg_unfolded.specs.FineRows.{Meets}
use Rattle.vkg_unfolded.specs.StandsFor.{StandsFor}
use Rattle.vkg_unfolded.specs.Unfolded.{start_plan, unfolded}
use Rattle.vkg_answers.specs.Answering.{GivesSolutions}
use Rattle.vkg_answers.proofs.Start.{gives_solutions}
use Rattle.vkg_answers.proofs.Whole.{unfolded_stands}

module _ (schema : Tables) (rules : List RowRule) where
  pub stands_as : (a : Algebra) (mode : Mode) (plan : Plan) → plan ≡ unfolded schema rules a mode →
      (n : ℕ) → IsLawfulAlgebra n a → StandsFor (Meets schema rules) schema rules n mode plan a
  stands_as a mode plan e n lawful = rw e (unfolded_stands schema rules n a mode lawful)

  pub solutions_as : (query : Query) (plan : Plan) → plan ≡ start_plan schema rules query → IsLawfulQuery query → GivesSolutions (Meets schema rules) schema rules plan query
  solutions_as query plan e lawful = rw e (gives_solutions schema rules query lawful)
