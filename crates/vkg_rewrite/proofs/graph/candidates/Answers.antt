use Rattle.vkg_algebra.specs.Answer.{found_of}
use Rattle.vkg_answers.specs.Answering.{row_solution}
use Rattle.vkg_rewrite.proofs.RowLists.{pushed}
use Rattle.vkg_rewrite.proofs.graph.candidates.Goals as goal

pub loop-i-preserved : goal.loop-i-preserved
loop-i-preserved c =
    pushed (λ row. found_of c.args.width (row_solution row)) c.args.rows.now c.loop-i.i c.row.result.now _ _ _ c.row.ensures c.loop-i.invariant c.in_ok-candidate.ensures c.in_ok-push.ensures.items
