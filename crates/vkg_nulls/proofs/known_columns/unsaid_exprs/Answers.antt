-- The expressions are as many as they are seen.
use Rattle.std.proofs.Common.{◌≡◌, ◌∙◌, map, sym}
use Rattle.std.proofs.lemmas.Result.{IfOk-weaker}
use Rattle.vkg_expr.specs.Seen.{expr_seen}
use Rattle.vkg_nulls.specs.KnownColumns.{unsaid}
use Rattle.vkg_nulls.proofs.Lists.{flags_seen}
use Rattle.vkg_nulls.proofs.known_columns.unsaid_exprs.Goals as goal

pub returns : goal.returns
returns c =
    let es = c.args.es.now in
    IfOk-weaker c.unsaid.result (λ fs. fs ≡ unsaid es) (λ fs. fs ≡ unsaid (map expr_seen es)) (λ fs h. h ∙ sym (flags_seen es)) c.unsaid.ensures
