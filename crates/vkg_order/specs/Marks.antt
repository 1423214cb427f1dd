-- How two texts as N-Quads are compared without being written: by the first place at which they differ.
use Rattle.std.specs.Prelude.{◌≡◌, ◌++◌, ℕ, suc, ◌+◌, ◌*◌, List, [], ◌∷◌, Option, Some, None, if◌then◌else◌, ◌==◌, slice_get, length}
use Rattle.std.specs.declared.cmp.Ordering.{Ordering}
use Rattle.std.specs.Ordering.{nat_cmp, ordering_then}

-- how many octets the texts begin with in common
abbrev pub common_length : List ℕ → List ℕ → ℕ
common_length [] ys = 0
common_length (x ∷ xs) [] = 0
common_length (x ∷ xs) (y ∷ ys) = if x == y then suc (common_length xs ys) else 0

-- RDF 1.1 N-Quads, 4, ECHAR: the octet that an octet is written as, and behind it, if it is escaped, that of the letter; at the end
-- of the text the closing quote (34)
abbrev pub quoted_mark : Option ℕ → ℕ
quoted_mark None = 34 * 256
quoted_mark (Some b) =
    if b == 34 then 92 * 256 + 34
    else if b == 92 then 92 * 256 + 92
    else if b == 10 then 92 * 256 + 110
    else if b == 13 then 92 * 256 + 114
    else if b == 9 then 92 * 256 + 116
    else b * 256

abbrev pub quoted_order : List ℕ → List ℕ → Ordering
quoted_order a b = nat_cmp (quoted_mark (slice_get a (common_length a b))) (quoted_mark (slice_get b (common_length a b)))

-- RDF 1.1 N-Quads, 4, IRIREF: at the end of the text the closing bracket (62)
abbrev pub bracketed_mark : Option ℕ → ℕ
bracketed_mark None = 62
bracketed_mark (Some b) = b

abbrev pub bracketed_order : List ℕ → List ℕ → Ordering
bracketed_order a b =
    ordering_then (nat_cmp (bracketed_mark (slice_get a (common_length a b))) (bracketed_mark (slice_get b (common_length a b)))) (nat_cmp (length a) (length b))

-- the text ends in a point (46) and these digits
abbrev pub EndsInFraction : List ℕ → List ℕ → Type 0
EndsInFraction text fraction = (front : List ℕ) × (text ≡ front ++ 46 ∷ fraction)
