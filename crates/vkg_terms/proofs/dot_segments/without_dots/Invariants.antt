use Rattle.std.proofs.Common.{◌≡◌, [], map, drop, false}
use Rattle.vkg_terms.specs.Resolve.{without_dots}
use Rattle.vkg_terms.specs.DotSegments.{piece_text, going}
use Rattle.vkg_terms.proofs.dot_segments.without_dots.Given as goal

abbrev pub invariant-loop-i : goal.invariant-loop-i
invariant-loop-i l =
    (going l.started (map piece_text l.pieces.items) (map (λ s. s.now) (drop l.i l.segments)) ≡ without_dots (map (λ s. s.now) l.segments))
    × (l.started ≡ false → l.pieces.items ≡ [])
