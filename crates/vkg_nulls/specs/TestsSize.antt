-- The tests of an expression's columns are smaller than the test of the expression.
use Rattle.std.proofs.Common.{◌≡◌, ◌∙◌, ◌⊎◌, inl, inr, ℕ, suc, ◌+◌, ◌*◌, ◌<◌, ◌≤◌, arith, Bool, true, false, cond, not, ◌&&◌, ◌||◌, List, [], ◌∷◌, map, length, length-append, nat_eq, refl, sym, ap}
use Rattle.std.specs.Prelude.{Some}
use Rattle.std.specs.List.{filter, list_any}
use Rattle.std.proofs.lemmas.Bool.{eqb-true}
use Rattle.vkg_lists.specs.Sets.{distinct}
use Rattle.vkg_lists.proofs.Bools.{and_parts}
use Rattle.vkg_lists.proofs.Results.{then_given}
use Rattle.vkg_cells.specs.declared.cell.SqlType.{SqlType}
use Rattle.vkg_cells.specs.declared.cell.SqlType.TheVariants as kind
use Rattle.vkg_expr.specs.Expr.{Expr, Exprs, Col, Const, MakeIri, IriOf, MakeBlank, MakeLit, Lex, IriSafe, Concat, Same, IsNull, Not, And, Or, Coalesce, Sparql, Ebv, Nil, More, exprs}
use Rattle.vkg_expr.specs.Logic.{or_of}
use Rattle.vkg_expr.specs.Strict.{are_strict, columns, columns_each, is_strict}
use Rattle.vkg_expr.specs.Typing.{are_all, is_column, is_one, kind_of, kinds_of, no_column}
use Rattle.vkg_expr.proofs.KindLists.{are_all-more}
use Rattle.vkg_expr.proofs.TypedParts.{lexical_given, one_is}
use Rattle.vkg_rules.specs.Measure.{equalities, equalities_each, size, sizes}
use Rattle.vkg_nulls.specs.NullTests.{null_test}

-- ---- each once

fewer-kept : (p : ℕ → Bool) (xs : List ℕ) → length (filter p xs) ≤ length xs
fewer-kept p [] = omega arith
fewer-kept p (x ∷ xs) = at (p x) (fewer-kept p xs)
  where
    at : (b : Bool) → length (filter p xs) ≤ length xs → length (cond b (x ∷ filter p xs) (filter p xs)) ≤ suc (length xs)
    at true r = omega (arith, r)
    at false r = omega (arith, r)

pub once-fewer : (xs : List ℕ) → length (distinct nat_eq xs) ≤ length xs
once-fewer [] = omega arith
once-fewer (x ∷ xs) = let a = fewer-kept (λ y. not (nat_eq x y)) (distinct nat_eq xs) in let b = once-fewer xs in omega (arith, a, b)

without-same : (t : ℕ → Bool) (x : ℕ) (xs : List ℕ) → t x ≡ false → list_any t (filter (λ y. not (nat_eq x y)) xs) ≡ list_any t xs
without-same t x [] h = refl
without-same t x (y ∷ xs) h = at (nat_eq x y) refl (without-same t x xs h)
  where
    rest : List ℕ
    rest = filter (λ z. not (nat_eq x z)) xs

    at : (b : Bool) → nat_eq x y ≡ b → list_any t rest ≡ list_any t xs → list_any t (cond (not b) (y ∷ rest) rest) ≡ (t y || list_any t xs)
    at true e r = r ∙ ap (λ b. b || list_any t xs) (sym h ∙ ap t (eqb-true x y e))
    at false e r = ap (λ b. t y || b) r

pub any-once : (t : ℕ → Bool) (xs : List ℕ) → list_any t (distinct nat_eq xs) ≡ list_any t xs
any-once t [] = refl
any-once t (x ∷ xs) = at (t x) refl (any-once t xs)
  where
    rest : List ℕ
    rest = filter (λ z. not (nat_eq x z)) (distinct nat_eq xs)

    at : (b : Bool) → t x ≡ b → list_any t (distinct nat_eq xs) ≡ list_any t xs → (b || list_any t rest) ≡ (b || list_any t xs)
    at true e r = refl
    at false e r = without-same t x (distinct nat_eq xs) e ∙ r

-- ---- an expression of n columns and of size z that is no column itself has two nodes a column, and more where it has several

abbrev pub IsHeavy : ℕ → ℕ → Type 0
IsHeavy n z = (2 * n ≤ z) × ((n ≤ 1) ⊎ (2 * n < z))

over-part : (x : Expr) → (not (is_column x) ≡ true → 2 * length (columns x) ≤ size x) → IsHeavy (length (columns x)) (1 + size x)
over-part (Col at) h = (omega arith, inl (omega arith))
over-part x h = let a = h refl in (omega (arith, a), inr (omega (arith, a)))

module _ (ks : List SqlType) where
  mutual
    pub heavy : (e : Expr) (k : SqlType) → kind_of e ks ≡ Some k → is_strict e ≡ true → not (is_column e) ≡ true → IsHeavy (length (columns e)) (size e)
    heavy (Col at) k t s n = cc
    heavy (Const c l) k t s n = (omega arith, inl (omega arith))
    heavy (MakeIri e) k t s n = over-part e (λ b. (heavy e kind.Text (one_is kind.Text (kind_of e ks) (then_given (is_one kind.Text (kind_of e ks)) kind.Term k t).0) s b).0)
    heavy (IriOf base e) k t s n = over-part e (λ b. (heavy e kind.Text (one_is kind.Text (kind_of e ks) (then_given (is_one kind.Text (kind_of e ks)) kind.Text k t).0) s b).0)
    heavy (MakeBlank e) k t s n = over-part e (λ b. (heavy e kind.Text (one_is kind.Text (kind_of e ks) (then_given (is_one kind.Text (kind_of e ks)) kind.Term k t).0) s b).0)
    heavy (MakeLit e l) k t s n = over-part e (λ b. (heavy e kind.Text (one_is kind.Text (kind_of e ks) (then_given (is_one kind.Text (kind_of e ks)) kind.Term k t).0) s b).0)
    heavy (IriSafe e) k t s n = over-part e (λ b. (heavy e kind.Text (one_is kind.Text (kind_of e ks) (then_given (is_one kind.Text (kind_of e ks)) kind.Text k t).0) s b).0)
    heavy (Lex e) k t s n = let m = lexical_given (kind_of e ks) k t in over-part e (λ b. (heavy e m.0 m.1 s b).0)
    heavy (Concat es) k t s n =
        let b = and_parts (no_column es) (are_all kind.Text (kinds_of es ks)) (then_given (no_column es && are_all kind.Text (kinds_of es ks)) kind.Text k t).0 in
        let a = all-heavy es b.1 s b.0 in
        (omega (arith, a), inr (omega (arith, a)))
    heavy (Same a b) k t s n = cc
    heavy (IsNull e) k t s n = cc
    heavy (Not e) k t s n = cc
    heavy (And es) k t s n = cc
    heavy (Or es) k t s n = cc
    heavy (Coalesce es) k t s n = cc
    heavy (Sparql op es) k t s n = cc
    heavy (Ebv e) k t s n = cc

    all-heavy : (es : Exprs) → are_all kind.Text (kinds_of es ks) ≡ true → are_strict es ≡ true → no_column es ≡ true → 2 * length (columns_each es) ≤ sizes es
    all-heavy Nil a s n = omega arith
    all-heavy (More e es) a s n =
        let b = and_parts (is_one kind.Text (kind_of e ks)) (are_all kind.Text (kinds_of es ks)) (sym (are_all-more kind.Text (kind_of e ks) (kinds_of es ks)) ∙ a) in
        let c = and_parts (is_strict e) (are_strict es) s in
        let d = and_parts (not (is_column e)) (no_column es) n in
        let h = (heavy e kind.Text (one_is kind.Text (kind_of e ks) b.0) c.0 d.0).0 in
        let r = all-heavy es b.1 c.1 d.1 in
        let l = length-append (columns e) (columns_each es) in
        omega (arith, h, r, l)

-- ---- the tests

tests-size : (cs : List ℕ) → sizes (exprs (map null_test cs)) ≡ 2 * length cs
tests-size [] = omega arith
tests-size (c ∷ cs) = let h = tests-size cs in omega (arith, h)

pub tests-less : (cs : List ℕ) (n z : ℕ) → length cs ≤ n → IsHeavy n z → 1 ≤ z → size (or_of (map null_test cs)) < 1 + z
tests-less [] n z l h p = omega (arith, p)
tests-less (c ∷ []) n z l h p = let a = h.0 in omega (arith, l, a)
tests-less (c ∷ d ∷ cs) n z l h p = let s = tests-size cs in elim h.1 [
  | inl i ↦ absurd (omega (arith, l, i))
  | inr i ↦ omega (arith, l, i, s)
]

none-each : (ks : List SqlType) (cs : List ℕ) → equalities_each ks (exprs (map null_test cs)) ≡ 0
none-each ks [] = refl
none-each ks (c ∷ cs) = let h = none-each ks cs in omega (arith, h)

-- they ask no terms to be the same
pub tests-none : (ks : List SqlType) (cs : List ℕ) → equalities ks (or_of (map null_test cs)) ≡ 0
tests-none ks [] = refl
tests-none ks (c ∷ []) = refl
tests-none ks (c ∷ d ∷ cs) = none-each ks (c ∷ d ∷ cs)
