-- NULLs in the place of right columns, and what is NULL with them.
use Rattle.std.proofs.Common.{◌≡◌, ◌∙◌, inl, inr, ℕ, zero, suc, ◌+◌, ◌-◌, Bool, true, false, ◌&&◌, ◌||◌, nat_le, List, [], ◌∷◌, ◌++◌, length, replicate, refl, sym, ap, arith}
use Rattle.std.specs.List.{list_any}
use Rattle.std.proofs.lemmas.Bool.{leb-true, or_cases}
use Rattle.vkg_lists.proofs.Bools.{and_parts, and_true}
use Rattle.vkg_cells.specs.declared.cell.Cell.{Cell}
use Rattle.vkg_cells.specs.declared.cell.Cell.TheVariants as cell
use Rattle.vkg_cells.specs.declared.cell.SqlType.TheVariants as kind
use Rattle.vkg_schema.specs.Rows.{Row, cell_at, is_null}
use Rattle.vkg_schema.proofs.RowCells.{cell_at-right}
use Rattle.vkg_expr.specs.Expr.{Expr, Exprs, Col, Const, MakeIri, IriOf, MakeBlank, MakeLit, Lex, IriSafe, Concat, Nil, More}
use Rattle.vkg_expr.specs.Laws.{HasKinds}
use Rattle.vkg_expr.specs.Strict.{are_strict, is_strict, put, put_each}
use Rattle.vkg_plan.specs.Kinds.{Kinds}
use Rattle.vkg_nulls.specs.NullExactly.{any_null}

pub null-is : (c d : Cell) → is_null c ≡ true → is_null d ≡ true → c ≡ d
null-is cell.Null cell.Null e f = refl
null-is cell.Null _ e f = cc
null-is _ d e f = cc

pub or-true : (b : Bool) → (b || true) ≡ true
or-true true = refl
or-true false = refl

abbrev pub nulls : ℕ → Row
nulls n = replicate n cell.Null

pub nulls-cell : (n k : ℕ) → cell_at (nulls n) k ≡ cell.Null
nulls-cell zero k = refl
nulls-cell (suc n) zero = refl
nulls-cell (suc n) (suc k) = nulls-cell n k

pub nulls-long : (n : ℕ) → length (nulls n) ≡ n
nulls-long zero = refl
nulls-long (suc n) = ap suc (nulls-long n)

pub nulls-append : (a b : ℕ) → nulls (a + b) ≡ nulls a ++ nulls b
nulls-append zero b = let e : zero + b ≡ b = omega arith in ap nulls e
nulls-append (suc a) b = let e : suc a + b ≡ suc (a + b) = omega arith in ap nulls e ∙ ap (λ r. cell.Null ∷ r) (nulls-append a b)

pub nulls-fit : (ls : Kinds) → HasKinds ls (nulls (length ls))
nulls-fit [] = tt
nulls-fit (kind.Text ∷ ls) = (refl, nulls-fit ls)
nulls-fit (kind.Int ∷ ls) = (refl, nulls-fit ls)
nulls-fit (kind.Dec ∷ ls) = (refl, nulls-fit ls)
nulls-fit (kind.Bool ∷ ls) = (refl, nulls-fit ls)
nulls-fit (kind.Date ∷ ls) = (refl, nulls-fit ls)
nulls-fit (kind.Stamp ∷ ls) = (refl, nulls-fit ls)
nulls-fit (kind.Bin ∷ ls) = (refl, nulls-fit ls)
nulls-fit (kind.Time ∷ ls) = (refl, nulls-fit ls)
nulls-fit (kind.Term ∷ ls) = (refl, nulls-fit ls)

-- a column behind the first n, where NULLs stand
pub behind-null : (n k : ℕ) (l : Row) (columns : List ℕ) → length l ≡ n → list_any (nat_le n) columns ≡ true → any_null (l ++ nulls k) columns ≡ true
behind-null n k l [] w h = cc
behind-null n k l (at ∷ columns) w h = elim (or_cases (nat_le n at) (list_any (nat_le n) columns) h) [
  | inl b ↦
      let most = leb-true n at b in
      ap (λ v. is_null v || any_null (l ++ nulls k) columns) (cell_at-right l (nulls k) at (at - n) (omega (arith, most, w)) ∙ nulls-cell k (at - n))
  | inr b ↦ ap (λ z. is_null (cell_at (l ++ nulls k) at) || z) (behind-null n k l columns w b) ∙ or-true (is_null (cell_at (l ++ nulls k) at))
]

mutual
  -- what is strict with others put in is strict
  pub strict-back : (f : ℕ → Expr) (e : Expr) → is_strict (put f e) ≡ true → is_strict e ≡ true
  strict-back f (Col at) h = refl
  strict-back f (Const c k) h = h
  strict-back f (MakeIri e) h = strict-back f e h
  strict-back f (IriOf base e) h = strict-back f e h
  strict-back f (MakeBlank e) h = strict-back f e h
  strict-back f (MakeLit e l) h = strict-back f e h
  strict-back f (Lex e) h = strict-back f e h
  strict-back f (IriSafe e) h = strict-back f e h
  strict-back f (Concat es) h = strict_each-back f es h
  strict-back f _ h = cc

  strict_each-back : (f : ℕ → Expr) (es : Exprs) → are_strict (put_each f es) ≡ true → are_strict es ≡ true
  strict_each-back f Nil h = refl
  strict_each-back f (More e es) h = let b = and_parts (is_strict (put f e)) (are_strict (put_each f es)) h in and_true (is_strict e) (are_strict es) (strict-back f e b.0) (strict_each-back f es b.1)
