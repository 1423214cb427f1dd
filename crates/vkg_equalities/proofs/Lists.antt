-- Flags of two lists where the second ends first, and how many pieces there are.
use Rattle.std.proofs.Common.{◌≡◌, ◌<◌, ◌≤◌, Bool, List, [], ◌∷◌, length, refl, arith}
use Rattle.std.specs.Prelude.{Some, None}
use Rattle.vkg_expr.specs.declared.term_expr.Sort.{Sort}
use Rattle.vkg_expr.specs.declared.term_expr.Piece.{Piece}
use Rattle.vkg_expr.specs.declared.term_expr.TermExpr.TheVariants.{Made}
use Rattle.vkg_equalities.specs.Recognised.{several}
use Rattle.vkg_equalities.specs.TableColumns.{both_flags}

pub none-behind : (fs gs : List Bool) → length gs ≡ 0 → both_flags fs gs ≡ []
none-behind [] gs e = refl
none-behind (f ∷ fs) [] e = refl
none-behind (f ∷ fs) (g ∷ gs) e = absurd (omega (arith, e))

pub several_few : (sort : Sort) (ps : List Piece) → length ps < 2 → several sort ps ≡ None
several_few sort [] h = refl
several_few sort (p ∷ []) h = refl
several_few sort (p ∷ q ∷ ps) h = absurd (omega (arith, h))

pub several_many : (sort : Sort) (ps : List Piece) → 2 ≤ length ps → several sort ps ≡ Some (Made sort ps)
several_many sort [] h = absurd (omega (arith, h))
several_many sort (p ∷ []) h = absurd (omega (arith, h))
several_many sort (p ∷ q ∷ ps) h = refl
