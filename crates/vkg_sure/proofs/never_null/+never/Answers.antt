-- A column behind those of the left side is one of the right side, of which nothing is said; an expression is known by the flags of its columns.
use Rattle.std.proofs.Common.{◌≡◌, ◌∙◌, ℕ, Bool, sym, ap}
use Rattle.std.specs.List.{list_all}
use Rattle.std.proofs.lemmas.Result.{IfOk-weaker}
use Rattle.vkg_expr.specs.Seen.{expr_seen}
use Rattle.vkg_plan.specs.Seen.{plan_seen}
use Rattle.vkg_unique.specs.Sure.{unset}
use Rattle.vkg_sure.specs.NeverNull.{is_known, never_null}
use Rattle.vkg_sure.specs.ToldAt.{is_set, told_at}
use Rattle.vkg_sure.proofs.Places.{append_past, known_told, told_unset}
use Rattle.vkg_sure.proofs.never_null.+never.Goals as goal

pub left_joined-returns-in-Behind : goal.left_joined-returns-in-Behind
left_joined-returns-in-Behind t c =
    let fs = never_null c.args.schema.now (plan_seen c.args.p.now) in
    let gs = never_null c.args.schema.now (plan_seen c.args.q.now) in
    c.placed.ensures ∙ sym (told_unset gs c.in-Behind.at) ∙ sym (append_past fs (unset gs) c.args.column c.in-Behind.at (sym c.in_ok-set.ensures ∙ c.in-Behind.is))

pub is_known-returns : goal.is_known-returns
is_known-returns t c =
    let fs = never_null c.args.schema.now (plan_seen c.args.p.now) in
    let e = expr_seen c.args.e.now in
    IfOk-weaker c.are_set.result
    (λ (b : Bool). b ≡ list_all (λ (k : ℕ). is_set (told_at fs k)) c.as_slice.result.now)
    (λ (b : Bool). b ≡ is_known fs e)
    (λ b h. h ∙ ap (list_all (λ (k : ℕ). is_set (told_at fs k))) (c.as_slice.ensures ∙ c.in_ok-columns.ensures) ∙ known_told fs e (sym c.is_strict.ensures ∙ c.if-not-is_strict.false))
    c.are_set.ensures
