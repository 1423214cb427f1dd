-- Dot segments are removed a segment at a time.
use Rattle.std.specs.Prelude.{ℕ, Bool, List, [], ◌∷◌, ◌++◌, codes, if◌then◌else◌}
use Rattle.vkg_lists.specs.Lists.{without_last}
use Rattle.vkg_terms.specs.declared.dot_segments.Piece.{Piece}
use Rattle.vkg_terms.specs.Resolve.{is_dot, is_dots, kept, without_dots}

-- a piece of the output, as it is written
abbrev pub piece_text : Piece → List ℕ
piece_text p = if p.slash then 47 ∷ p.segment.now else p.segment.now

-- RFC 3986, 5.2.4: a last segment that goes leaves its slash
abbrev pub closed : List (List ℕ) → Bool → List (List ℕ)
closed done is_last = if is_last then done ++ codes "/" ∷ [] else done

-- what one segment, with a slash before it, makes of the output
abbrev pub with_segment : List (List ℕ) → List ℕ → Bool → List (List ℕ)
with_segment done s is_last =
    if is_dot s then closed done is_last
    else if is_dots s then closed (without_last done) is_last
    else done ++ (47 ∷ s) ∷ []

-- the output once the rest is taken: before the first segment that stays, and after it
abbrev pub going : Bool → List (List ℕ) → List (List ℕ) → List (List ℕ)
going started done rest = if started then kept done rest else without_dots rest
