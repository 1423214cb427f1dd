-- The unfolded plan stands for every lawful algebra, in each mode, over every database that meets what is asked of it.
use Rattle.std.proofs.Common.{ℕ, List, [], ◌∷◌}
use Rattle.vkg_schema.specs.Rows.{Database}
use Rattle.vkg_sparql.specs.declared.pattern.TriplePattern.{TriplePattern}
use Rattle.vkg_algebra.specs.Algebra.{Algebra, Bgp}
use Rattle.vkg_algebra.specs.Evaluation.{evaluate}
use Rattle.vkg_algebra.specs.Lawful.{IsLawfulAlgebra}
use Rattle.vkg_algebra.specs.Visible.{visible}
use Rattle.vkg_plan.specs.Kinds.{Tables}
use Rattle.vkg_plan.specs.Rows.{rows_of}
use Rattle.vkg_row_rules.specs.declared.row_rule.RowRule.{RowRule}
use Rattle.vkg_row_rules.specs.RowDataset.{dataset_of}
use Rattle.vkg_unfolded.specs.declared.mode.Mode.{Mode}
use Rattle.vkg_unfolded.specs.Unfolded.{bgp_plan, unfolded}
use Rattle.vkg_unfolded.specs.StandsFor.{StandsFor}
use Rattle.vkg_unfolded.specs.FineRows.{Meets}
use Rattle.vkg_answers.proofs.Lawful.{nodes_below, numbers_apart, variables_below}
use Rattle.vkg_answers.proofs.Steps.{Stands}
use Rattle.vkg_answers.proofs.Patterns.{patterns_stand}
use Rattle.vkg_answers.proofs.MemberRows.{pattern_stands}
use Rattle.vkg_answers.proofs.GraphNames.{names_are}
use Rattle.vkg_answers.proofs.GraphExists.{exists_are, names_narrow, empty_stands}
use Rattle.vkg_answers.proofs.Theorem.{stands}

module _ (schema : Tables) (rules : List RowRule) (n : ℕ) (db : Database) (meets : Meets schema rules db) where
  bgp_stands : (mode : Mode) (ps : List TriplePattern) → IsLawfulAlgebra n (Bgp ps) → Stands n (dataset_of schema rules db) mode (visible (Bgp ps)) (rows_of schema (bgp_plan schema rules mode ps) db) (evaluate n (dataset_of schema rules db) (Bgp ps))
  bgp_stands mode [] h = empty_stands schema rules n (dataset_of schema rules db) db (names_are schema rules db meets) (names_narrow schema rules db meets) mode
  bgp_stands mode (p ∷ ps) h = patterns_stand schema rules n (dataset_of schema rules db) db p ps (variables_below n (p ∷ ps) h) (numbers_apart n (p ∷ ps) h) mode
      (λ q c. pattern_stands schema rules db n q (nodes_below n (p ∷ ps) h q c) meets mode)

  pub unfolded_rows : (a : Algebra) (mode : Mode) → IsLawfulAlgebra n a → Stands n (dataset_of schema rules db) mode (visible a) (rows_of schema (unfolded schema rules a mode) db) (evaluate n (dataset_of schema rules db) a)
  unfolded_rows a mode h = stands schema rules n (dataset_of schema rules db) db bgp_stands (names_are schema rules db meets) (exists_are schema rules db meets) (names_narrow schema rules db meets) a mode h

-- THE THEOREM
pub unfolded_stands : (schema : Tables) (rules : List RowRule) (n : ℕ) (a : Algebra) (mode : Mode) → IsLawfulAlgebra n a → StandsFor (Meets schema rules) schema rules n mode (unfolded schema rules a mode) a
unfolded_stands schema rules n a mode h db meets = let s = unfolded_rows schema rules n db meets a mode h in (s.bag, λ row c. (s.are_rows row c).graph)
