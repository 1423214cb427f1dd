-- What is left decides.
use Rattle.std.proofs.Common.{◌≡◌, drop, map}
use Rattle.std.specs.List.{list_all}
use Rattle.vkg_expr.specs.Seen.{expr_seen}
use Rattle.vkg_key_lefts.specs.SelfLeftMember.{is_kept}
use Rattle.vkg_key_lefts.proofs.self_left_member.all_kept.Given as goal

abbrev pub invariant-loop-e : goal.invariant-loop-e
invariant-loop-e l =
    list_all (is_kept (map expr_seen l.names) l.n l.m l.own) (map expr_seen l.es) ≡ list_all (is_kept (map expr_seen l.names) l.n l.m l.own) (map expr_seen (drop l.e-index l.es))
