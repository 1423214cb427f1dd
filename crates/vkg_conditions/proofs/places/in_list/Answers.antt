-- What holds of a list of parts holds of the list.
use Rattle.std.proofs.Common.{◌≡◌, map}
use Rattle.std.specs.Prelude.{option_map}
use Rattle.std.proofs.lemmas.Result.{IfOk-weaker}
use Rattle.vkg_expr.specs.Places.{first_of_each}
use Rattle.vkg_expr.specs.Seen.{expr_seen}
use Rattle.vkg_conditions.specs.Cases.{exprs_seen}
use Rattle.vkg_conditions.specs.SimplifyCondition.{first_of}
use Rattle.vkg_conditions.proofs.PlaceLemmas.{listed}
use Rattle.vkg_conditions.proofs.places.in_list.Goals as goal

pub returns : goal.returns
returns g c =
    let f = g.C.Change.becomes c.args.change.now in
    let list = c.args.list.now in
    IfOk-weaker c.in_parts.result (λ o. option_map exprs_seen o ≡ first_of_each f (exprs_seen list)) (λ o. option_map (map expr_seen) o ≡ first_of f (map expr_seen list))
    (λ o h. listed f o (map expr_seen list) h) c.in_parts.ensures
