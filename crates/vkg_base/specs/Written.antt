-- Lines as they are written.
use Rattle.std.specs.Prelude.{ℕ, List, [], ◌∷◌, ◌++◌}
use Rattle.std.specs.List.{flat_map}
use Rattle.vkg_lists.specs.Lists.{without_last}

-- the lines one after another, with a line feed behind each
abbrev pub written : List (List ℕ) → List ℕ
written lines = flat_map (λ line. line ++ 10 ∷ []) lines

-- a line's text: all of its bytes but the last, the line feed
abbrev pub text_of : List ℕ → List ℕ
text_of bytes = without_last bytes
