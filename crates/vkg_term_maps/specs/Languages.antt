-- Language tags as they are written.
use Rattle.std.specs.Prelude.{ℕ, Bool, true, false, not, ◌&&◌, ◌||◌, List, [], ◌∷◌, ◌==◌, if◌then◌else◌}
use Rattle.std.specs.Char.{is_ascii_alphabetic, is_ascii_digit}

-- what a part of a tag holds: letters, and digits behind the first part
abbrev pub is_tag_character : Bool → ℕ → Bool
is_tag_character first b = is_ascii_alphabetic b || (not first && is_ascii_digit b)

-- the rest of a tag: whether this is its first part, and whether the part holds a character yet; `-` (45) ends a part
abbrev pub tag_from : Bool → Bool → List ℕ → Bool
tag_from first some [] = some
tag_from first some (b ∷ bs) =
    if b == 45 then some && tag_from false false bs else is_tag_character first b && tag_from first true bs

-- RDF 1.1 Turtle, 6.5, LANGTAG behind its `@`: letters, then `-` and letters or digits any number of times
abbrev pub is_language_tag : List ℕ → Bool
is_language_tag text = tag_from true false text
