-- Conditions as lists of conjuncts: where they hold, and their kinds.
use Rattle.std.proofs.Common.{◌≡◌, ◌∙◌, Bool, true, false, ◌&&◌, List, [], ◌∷◌, ◌++◌, refl, sym, ap}
use Rattle.std.specs.Prelude.{Some, filter, if◌then◌else◌}
use Rattle.std.specs.Bool.{then_some}
use Rattle.std.specs.List.{AllByRecursion}
use Rattle.std.proofs.lemmas.List.Folds.{list_all-append}
use Rattle.vkg_lists.proofs.Bools.{and_parts, and_true}
use Rattle.vkg_lists.proofs.Results.{then_given}
use Rattle.vkg_cells.specs.declared.cell.SqlType.{SqlType}
use Rattle.vkg_cells.specs.declared.cell.SqlType.TheVariants as kind
use Rattle.vkg_schema.specs.Rows.{Row}
use Rattle.vkg_expr.specs.Expr.{Expr, Exprs, And, Nil, More, each, exprs}
use Rattle.vkg_expr.specs.Logic.{and_of, and_then, conjuncts}
use Rattle.vkg_expr.specs.Typing.{are_all, is_one, kind_of, kinds_of}
use Rattle.vkg_expr.specs.Value.{holds}
use Rattle.vkg_expr.proofs.KindLists.{are_all-more}
use Rattle.vkg_expr.proofs.TypedParts.{one_is}
pub use Rattle.vkg_expr.proofs.Conjuncts.{holds-and_of, holds-conjuncts}

-- ---- where they hold

pub holds-both : (row : Row) (cs ds : List Expr) → holds (and_of (cs ++ ds)) row ≡ (holds (and_of cs) row && holds (and_of ds) row)
holds-both row cs ds = holds-and_of row (cs ++ ds) ∙ list_all-append (λ c. holds c row) cs ds ∙ (λ i. sym (holds-and_of row cs) i && sym (holds-and_of row ds) i)

pub holds-of_conjuncts : (row : Row) (c : Expr) → holds (and_of (conjuncts c)) row ≡ holds c row
holds-of_conjuncts row c = holds-and_of row (conjuncts c) ∙ sym (holds-conjuncts c row)

pub holds-and_then : (row : Row) (c d : Expr) → holds (and_then c d) row ≡ (holds c row && holds d row)
holds-and_then row c d = holds-both row (conjuncts c) (conjuncts d) ∙ (λ i. holds-of_conjuncts row c i && holds-of_conjuncts row d i)

-- a condition after another keeps what both keep
pub filter-and_then : (c d : Expr) (rows : List Row) → filter (holds d) (filter (holds c) rows) ≡ filter (holds (and_then c d)) rows
filter-and_then c d [] = refl
filter-and_then c d (row ∷ rows) = Prim.rw (holds-and_then row c d) (at (filter-and_then c d rows) (holds c row) (holds d row) refl)
  where
    at : filter (holds d) (filter (holds c) rows) ≡ filter (holds (and_then c d)) rows → (a b : Bool) → holds d row ≡ b →
        filter (holds d) (if a then row ∷ filter (holds c) rows else filter (holds c) rows) ≡ (if a && b then row ∷ filter (holds (and_then c d)) rows else filter (holds (and_then c d)) rows)
    at k false b e = k
    at k true true e = Prim.rw (e, k) refl
    at k true false e = Prim.rw (e, k) refl

-- ---- kinds

abbrev pub IsTruth : List SqlType → Expr → Type 0
IsTruth ks c = kind_of c ks ≡ Some kind.Bool

abbrev pub AreTruths : List SqlType → List Expr → Type 0
AreTruths ks = AllByRecursion (IsTruth ks)

truths-kinds : (ks : List SqlType) (cs : List Expr) → AreTruths ks cs → are_all kind.Bool (kinds_of (exprs cs) ks) ≡ true
truths-kinds ks [] h = refl
truths-kinds ks (c ∷ cs) h = are_all-more kind.Bool (kind_of c ks) (kinds_of (exprs cs) ks) ∙ and_true _ _ (ap (is_one kind.Bool) h.0) (truths-kinds ks cs h.1)

kinds-truths : (ks : List SqlType) (es : Exprs) → are_all kind.Bool (kinds_of es ks) ≡ true → AreTruths ks (each es)
kinds-truths ks Nil h = tt
kinds-truths ks (More e es) h =
    let b = and_parts (is_one kind.Bool (kind_of e ks)) (are_all kind.Bool (kinds_of es ks)) (sym (are_all-more kind.Bool (kind_of e ks) (kinds_of es ks)) ∙ h) in
    (one_is kind.Bool (kind_of e ks) b.0, kinds-truths ks es b.1)

pub and_of-kind : (ks : List SqlType) (cs : List Expr) → AreTruths ks cs → IsTruth ks (and_of cs)
and_of-kind ks [] h = refl
and_of-kind ks (c ∷ []) h = h.0
and_of-kind ks (c ∷ d ∷ cs) h = ap (λ b. then_some b kind.Bool) (truths-kinds ks (c ∷ d ∷ cs) h)

pub truths-append : (ks : List SqlType) (cs ds : List Expr) → AreTruths ks cs → AreTruths ks ds → AreTruths ks (cs ++ ds)
truths-append ks [] ds h k = k
truths-append ks (c ∷ cs) ds h k = (h.0, truths-append ks cs ds h.1 k)

pub conjuncts-kind : (ks : List SqlType) (c : Expr) → IsTruth ks c → AreTruths ks (conjuncts c)
conjuncts-kind ks (And es) h = kinds-truths ks es (then_given (are_all kind.Bool (kinds_of es ks)) kind.Bool kind.Bool h).0
conjuncts-kind ks c h = (h, tt)

pub and_then-kind : (ks : List SqlType) (c d : Expr) → IsTruth ks c → IsTruth ks d → IsTruth ks (and_then c d)
and_then-kind ks c d h k = and_of-kind ks (conjuncts c ++ conjuncts d) (truths-append ks (conjuncts c) (conjuncts d) (conjuncts-kind ks c h) (conjuncts-kind ks d k))
