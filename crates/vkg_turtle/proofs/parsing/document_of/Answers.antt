use Rattle.std.proofs.Common.{◌+◌, drop, ◌∙◌, arith}
use Rattle.vkg_turtle.specs.Document.{document_of}
use Rattle.vkg_turtle.proofs.Meaning.{past_choice, past_token, out_of_tokens, all_noted}
use Rattle.vkg_turtle.proofs.parsing.document_of.Goals as goal
use Rattle.vkg_turtle.proofs.parsing.document_of.Goals.{then-not-is_choice+in-Some+in_ok-act, else-not-is_choice}

pub returns-in_default : goal.returns-in_default
returns-in_default c = out_of_tokens c.args.notes.now c.loop-note.note-index _ c.role_of-role.result c.loop-note-test.true c.role_of-role.ensures c.loop-note.rest.now c.loop-note.document _ c.if-not-is_choice.ensures c.in_default.ensures.cases c.loop-note.invariant

pub loop-note-preserved : goal.loop-note-preserved
loop-note-preserved c =
    elim c.if-not-is_choice.branch [
      | then-not-is_choice+in-Some+in_ok-act w ↦
          (λ i. document_of (drop (c.loop-note.note-index + 1) c.args.notes.now) (w.rest-is i).now (w.document-is i))
          ∙ past_token c.args.notes.now c.loop-note.note-index _ c.role_of-role.result c.loop-note-test.true c.role_of-role.ensures c.loop-note.rest.now w.in-Some.after.now w.in-Some.lexeme.now c.loop-note.document w.act.new.self _ w.if-not-is_choice.ensures w.in-Some.ensures.cases.0 w.in_ok-act.ensures c.loop-note.invariant
      | else-not-is_choice w ↦
          (λ i. document_of (drop (c.loop-note.note-index + 1) c.args.notes.now) (w.rest-is i).now (w.document-is i))
          ∙ past_choice c.args.notes.now c.loop-note.note-index _ c.role_of-role.result c.loop-note-test.true c.role_of-role.ensures c.loop-note.rest.now c.loop-note.document _ w.if-not-is_choice.ensures c.loop-note.invariant
    ]

pub returns : goal.returns
returns c = all_noted c.args.notes.now c.loop-note.note-index c.loop-note.rest.now c.loop-note.document _ (omega arith) c.loop-note.invariant
