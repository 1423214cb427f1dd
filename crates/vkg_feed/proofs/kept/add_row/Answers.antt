-- The index has the place of one more row.
use Rattle.std.proofs.Common.{◌≡◌, ◌∷◌, ◌++◌, [], ℕ, List, string_bytes}
use Rattle.std.proofs.lemmas.Result.{IfOk-weaker}
use Rattle.vkg_hash.specs.Groups.{group}
use Rattle.vkg_feed.specs.Kept.{places}
use Rattle.vkg_feed.proofs.KeptLemmas.{placed-more}
use Rattle.vkg_feed.proofs.kept.add_row.Goals as goal

pub returns-clause-index : goal.returns-clause-index
returns-clause-index c =
    IfOk-weaker c.push.result (λ _. c.push.new.self ≡ c.args.rows.now ++ c.args.cells ∷ []) (λ _. (q : List ℕ) → group c.put.new.groups q ≡ places 0 q c.push.new.self)
    (λ u e q. placed-more q (string_bytes c.args.text) c.args.rows.now c.push.new.self c.args.cells c.len.result (group c.args.groups.now q) (group c.put.new.groups q) c.requires.text c.len.ensures (c.requires.index q) (c.in_ok-put.ensures q) e)
    c.push.ensures.ok
