-- A composed text, cut where no hole's text can reach.
use Rattle.std.specs.Prelude.{ℕ, Bool, true, false, not, ◌&&◌, ◌||◌, List, [], ◌∷◌, ◌++◌, fold, chars, encode_utf8, if◌then◌else◌}
use Rattle.std.specs.List.{list_any}
use Rattle.vkg_terms.specs.Safe.{is_safe_character}
use Rattle.vkg_expr.specs.declared.term_expr.Sort.{Sort}
use Rattle.vkg_expr.specs.declared.term_expr.Sort.TheVariants.{OfIri}
use Rattle.vkg_expr.specs.declared.term_expr.Piece.{Piece}
use Rattle.vkg_expr.specs.declared.term_expr.Piece.TheVariants.{Chars, Hole}
use Rattle.vkg_match.specs.declared.cut.Segment.{Segment}

-- R2RML, 7.3: a character that no hole's text holds: in an IRI that is IRI-safe, elsewhere it may hold any
abbrev pub is_break : Sort → ℕ → Bool
is_break OfIri c = not (is_safe_character c)
is_break sort c = false

-- what stands before the breaks, and behind the last one: its pieces, and then a text
pub record Cut : Type 0 where
  pub done : List Segment
  pub pieces : List Piece
  pub text : List ℕ

-- a text as pieces: none of an empty one
abbrev pub text_pieces : List ℕ → List Piece
text_pieces [] = []
text_pieces (b ∷ bs) = Chars (b ∷ bs) ∷ []

-- the last segment: constants that meet are one there
abbrev pub last_pieces : Cut → List Piece
last_pieces cut = cut.pieces ++ text_pieces cut.text

abbrev pub uncut : Cut
uncut = record { done = []; pieces = []; text = [] }

abbrev pub cut_at : Cut → ℕ → Cut
cut_at cut c = record { done = cut.done ++ record { pieces = last_pieces cut; mark = c } ∷ []; pieces = []; text = [] }

abbrev pub with_character : Cut → ℕ → Cut
with_character cut c = record { done = cut.done; pieces = cut.pieces; text = cut.text ++ encode_utf8 c }

unfoldable pub cut_character : Sort → Cut → ℕ → Cut
cut_character sort cut c = if is_break sort c then cut_at cut c else with_character cut c

unfoldable pub cut_piece : Sort → Cut → Piece → Cut
cut_piece sort cut (Chars text) = fold (cut_character sort) cut (chars text)
cut_piece sort cut (Hole at k) = record { done = cut.done; pieces = last_pieces cut ++ Hole at k ∷ []; text = [] }

-- the pieces of a text of this sort, cut at the breaks of its constants
abbrev pub cut_pieces : Sort → List Piece → Cut
cut_pieces sort ps = fold (cut_piece sort) uncut ps

-- a constant holds a break
abbrev pub has_break : List ℕ → Bool
has_break text = list_any (is_break OfIri) (chars text)

-- whether a break stands before each hole that a hole precedes; `parted` tells whether the first hole may come at once
abbrev pub are_parted : Bool → List Piece → Bool
are_parted parted [] = true
are_parted parted (Chars text ∷ ps) = are_parted (parted || has_break text) ps
are_parted parted (Hole at k ∷ ps) = parted && are_parted false ps

-- between any two holes stands a break, a character that no IRI-safe text holds
abbrev pub is_separable : List Piece → Bool
is_separable ps = are_parted true ps
