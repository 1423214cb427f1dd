-- Columns that an expression names: all of those in its list pass a test, and what is true of them in two ways.
use Rattle.std.proofs.Common.{◌≡◌, ◌∙◌, ℕ, Bool, true, List, [], ◌∷◌, sym}
use Rattle.std.specs.List.{list_all}
use Rattle.std.proofs.lemmas.List.Folds.{list_all-append}
use Rattle.vkg_lists.proofs.Bools.{and_parts}
use Rattle.vkg_columns.specs.Columns.{OnColumns, OnEach}
use Rattle.vkg_expr.specs.Expr.{Expr, Exprs, Col, Const, MakeIri, IriOf, MakeBlank, MakeLit, Lex, IriSafe, Concat, Same, IsNull, Not, And, Or, Coalesce, Sparql, Ebv, Nil, More, exprs}
use Rattle.vkg_expr.specs.Strict.{columns, columns_each}

module _ (f : ℕ → Bool) where
  mutual
    pub on-passing : (e : Expr) → list_all f (columns e) ≡ true → OnColumns (λ at. f at ≡ true) e
    on-passing (Col at) h = (and_parts (f at) true h).0
    on-passing (Const c k) h = tt
    on-passing (MakeIri e) h = on-passing e h
    on-passing (IriOf base e) h = on-passing e h
    on-passing (MakeBlank e) h = on-passing e h
    on-passing (MakeLit e l) h = on-passing e h
    on-passing (Lex e) h = on-passing e h
    on-passing (IriSafe e) h = on-passing e h
    on-passing (IsNull e) h = on-passing e h
    on-passing (Not e) h = on-passing e h
    on-passing (Ebv e) h = on-passing e h
    on-passing (Same a b) h = let p = and_parts (list_all f (columns a)) (list_all f (columns b)) (sym (list_all-append f (columns a) (columns b)) ∙ h) in (on-passing a p.0, on-passing b p.1)
    on-passing (Concat es) h = on_each-passing es h
    on-passing (And es) h = on_each-passing es h
    on-passing (Or es) h = on_each-passing es h
    on-passing (Coalesce es) h = on_each-passing es h
    on-passing (Sparql op es) h = on_each-passing es h

    pub on_each-passing : (es : Exprs) → list_all f (columns_each es) ≡ true → OnEach (λ at. f at ≡ true) es
    on_each-passing Nil h = tt
    on_each-passing (More e es) h = let p = and_parts (list_all f (columns e)) (list_all f (columns_each es)) (sym (list_all-append f (columns e) (columns_each es)) ∙ h) in (on-passing e p.0, on_each-passing es p.1)

  -- each of a list of expressions names such columns alone
  pub on_all-passing : (es : List Expr) → list_all (λ e. list_all f (columns e)) es ≡ true → OnEach (λ at. f at ≡ true) (exprs es)
  on_all-passing [] h = tt
  on_all-passing (e ∷ es) h = let p = and_parts (list_all f (columns e)) (list_all (λ x. list_all f (columns x)) es) h in (on-passing e p.0, on_all-passing es p.1)

module _ (P Q : ℕ → Type 0) where
  mutual
    pub on-both : (e : Expr) → OnColumns P e → OnColumns Q e → OnColumns (λ at. P at × Q at) e
    on-both (Col at) h k = (h, k)
    on-both (Const c l) h k = tt
    on-both (MakeIri e) h k = on-both e h k
    on-both (IriOf base e) h k = on-both e h k
    on-both (MakeBlank e) h k = on-both e h k
    on-both (MakeLit e l) h k = on-both e h k
    on-both (Lex e) h k = on-both e h k
    on-both (IriSafe e) h k = on-both e h k
    on-both (IsNull e) h k = on-both e h k
    on-both (Not e) h k = on-both e h k
    on-both (Ebv e) h k = on-both e h k
    on-both (Same a b) h k = (on-both a h.0 k.0, on-both b h.1 k.1)
    on-both (Concat es) h k = on_each-both es h k
    on-both (And es) h k = on_each-both es h k
    on-both (Or es) h k = on_each-both es h k
    on-both (Coalesce es) h k = on_each-both es h k
    on-both (Sparql op es) h k = on_each-both es h k

    pub on_each-both : (es : Exprs) → OnEach P es → OnEach Q es → OnEach (λ at. P at × Q at) es
    on_each-both Nil h k = tt
    on_each-both (More e es) h k = (on-both e h.0 k.0, on_each-both es h.1 k.1)
