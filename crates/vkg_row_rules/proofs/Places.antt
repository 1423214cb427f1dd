-- What holds of all items holds of each, and the columns of each piece of a template are there.
use Rattle.std.proofs.Common.{◌≡◌, ℕ, ◌<◌, List, [], ◌∷◌, length, get_or, sym, subst}
use Rattle.std.specs.Prelude.{flat_map}
use Rattle.std.specs.List.{AllByRecursion}
use Rattle.vkg_lists.specs.Lists.{AllBelow}
use Rattle.vkg_lists.proofs.Members.{recursion_at, recursion_left, recursion_right}
use Rattle.vkg_maps.specs.declared.term_map.Piece.{Piece}
use Rattle.vkg_maps.specs.Within.{piece_columns}

pub of_item : {A : Type 0} (P : A → Type 0) (xs : List A) (i : ℕ) (x : A) → AllByRecursion P xs → i < length xs → x ≡ get_or xs i x → P x
of_item P xs i x all inside is = subst P (sym is) (recursion_at P xs i x all inside)

pub each_piece : (n : ℕ) (pieces : List Piece) → AllBelow n (flat_map piece_columns pieces) → AllByRecursion (λ p. AllBelow n (piece_columns p)) pieces
each_piece n [] h = tt
each_piece n (p ∷ ps) h =
    let all = flat_map piece_columns ps in
    (recursion_left (λ k. k < n) (piece_columns p) all h, each_piece n ps (recursion_right (λ k. k < n) (piece_columns p) all h))
