use Rattle.std.proofs.Common.{◌≡◌, ◌∙◌, length}
use Rattle.std.proofs.lemmas.Result.{IfOk-weaker}
use Rattle.vkg_expr.specs.TermExprs.{moved_term}
use Rattle.vkg_row_rules.specs.RowTerms.{row_term}
use Rattle.vkg_row_rules.proofs.Moved.{behind_none}
use Rattle.vkg_row_rules.proofs.row_terms.row_term.Goals as goal

pub returns : goal.returns
returns c =
    let made = row_term c.args.base.now c.args.kinds.now c.args.map.now in
    IfOk-weaker c.term_behind.result (λ e. e ≡ moved_term (length c.as_slice.result.now) made) (λ e. e ≡ made)
    (λ e h. h ∙ behind_none c.as_slice.result.now made (c.as_slice.ensures ∙ c.new-before.ensures)) c.term_behind.ensures
