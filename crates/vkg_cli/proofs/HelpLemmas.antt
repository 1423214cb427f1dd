-- Pieces that are written one after another.
use Rattle.std.proofs.Common.{ℕ, ◌+◌, ◌<◌, List, ◌++◌, length, take, drop, get_or}
use Rattle.std.specs.List.{flat_map}
use Rattle.vkg_lists.proofs.Walks.{flat_map-take_more, flat_map-split}
use Rattle.vkg_base.specs.Outside.{SinkState, Took, Broke}
use Rattle.vkg_base.proofs.Sinks.{took_more, broke_behind, broke_before}

module _ {A : Type 0} (f : A → List ℕ) (xs : List A) (i : ℕ) (old mid new : SinkState) (d : A) (lt : i < length xs) (done : Took old mid (flat_map f (take i xs))) where
  -- one more piece was taken
  pub took_piece : Took mid new (f (get_or xs i d)) → Took old new (flat_map f (take (i + 1) xs))
  took_piece piece = rw (flat_map-take_more f xs i d lt) (took_more old mid new (flat_map f (take i xs)) (f (get_or xs i d)) done piece)

  -- the next piece was broken off
  pub broke_piece : Broke mid new (f (get_or xs i d)) → Broke old new (flat_map f xs)
  broke_piece piece =
      rw (flat_map-split f xs (i + 1), flat_map-take_more f xs i d lt)
      (broke_before old new (flat_map f (take i xs) ++ f (get_or xs i d)) (flat_map f (drop (i + 1) xs)) (broke_behind old mid new (flat_map f (take i xs)) (f (get_or xs i d)) done piece))
