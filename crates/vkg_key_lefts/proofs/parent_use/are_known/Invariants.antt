-- What is left decides.
use Rattle.std.proofs.Common.{◌≡◌, drop}
use Rattle.std.specs.List.{list_all}
use Rattle.vkg_key_lefts.specs.ParentLeft.{is_known_child}
use Rattle.vkg_key_lefts.proofs.parent_use.are_known.Given as goal

abbrev pub invariant-loop-pair : goal.invariant-loop-pair
invariant-loop-pair l =
    list_all (λ p. is_known_child l.schema l.x l.names p.0) l.pairs ≡ list_all (λ p. is_known_child l.schema l.x l.names p.0) (drop l.pair-index l.pairs)
