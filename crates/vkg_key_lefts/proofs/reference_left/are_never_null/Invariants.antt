-- What is left decides.
use Rattle.std.proofs.Common.{◌≡◌, drop, map}
use Rattle.std.specs.List.{list_all}
use Rattle.vkg_keys.specs.Keys.{is_full_column}
use Rattle.vkg_key_lefts.proofs.reference_left.are_never_null.Given as goal

abbrev pub invariant-loop-pair : goal.invariant-loop-pair
invariant-loop-pair l =
    list_all (is_full_column l.table) (map (λ p. p.0) l.pairs) ≡ list_all (is_full_column l.table) (map (λ p. p.0) (drop l.pair-index l.pairs))
