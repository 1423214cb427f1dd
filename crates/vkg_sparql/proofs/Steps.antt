-- One step of the loops that read a tree.
use Rattle.std.proofs.Common.{◌≡◌, List, [], ◌∷◌, ◌++◌, ap, sym, ◌∙◌, append_assoc, refl}
use Rattle.vkg_grammar.specs.Trees.{Tree, pair}
use Rattle.vkg_sparql.specs.declared.meaning.Meaning.{Meaning}
use Rattle.vkg_sparql.specs.declared.query.Part.{Part}
use Rattle.vkg_sparql.specs.declared.lexeme.Lexeme.{Lexeme}
use Rattle.vkg_sparql.specs.declared.scopes.Scope.{Scope}
use Rattle.vkg_sparql.specs.Groups.{block_parts, part_value, parts_value}
use Rattle.vkg_sparql.specs.Scopes.{group_scope, groups_scope, inside, joined, part_scope, parts_scope, with_triples}
use Rattle.vkg_sparql.specs.Triples.{block_triples}

-- what a loop has written and what is left, after one more step
pub one_more : {A : Type 0} (before item rest : List A) {after left : List A} → left ≡ item ++ rest → after ≡ before ++ item → after ++ rest ≡ before ++ left
one_more before item rest e h = ap (λ y. y ++ rest) h ∙ append_assoc before item rest ∙ ap (λ y. before ++ y) (sym e)

-- the same of a list that a tree chains: a sign with an element, and then more
pub chain_step : {A : Type 0} (value : Tree → A) (more : Tree → List A) → ((x a m : Tree) → more (pair (pair x a) m) ≡ value a ∷ more m) → (before : List A) {after : List A} {v : A} {t s m x a : Tree} → t ≡ pair s m → s ≡ pair x a → v ≡ value a → after ≡ before ++ v ∷ [] → after ++ more m ≡ before ++ more t
chain_step value more opens before {m = m} {x = x} {a = a} e f g h =
    let left : more _ ≡ (value a ∷ []) ++ more m = rw (e, f) (opens x a m) in
    one_more before (value a ∷ []) (more m) left (h ∙ ap (λ d. before ++ d ∷ []) g)

pub parts_step : (ms : List Meaning) (before : List Part) {pushed all : List Part} {v : Part} {t s m p e d b : Tree} → t ≡ pair s m → s ≡ pair p e → e ≡ pair d b → v ≡ part_value ms p → pushed ≡ before ++ v ∷ [] → all ≡ pushed ++ block_parts ms b → all ++ parts_value ms m ≡ before ++ parts_value ms t
parts_step ms before q r u v h k = rw (q, r, u, k, h, v) (simp append_assoc)

-- the same of what is visible
module _ (ms : List Meaning) (xs : List Lexeme) where
  pub group_scope_step : (outer : Scope) {begun after all : Scope} {t w b d e m r : Tree} → t ≡ pair w b → b ≡ pair d e → e ≡ pair m r → begun ≡ inside outer → after ≡ with_triples ms begun (block_triples d) → all ≡ parts_scope ms xs after m → all ≡ group_scope ms xs outer t
  group_scope_step outer q u v h k l = rw (q, u, v, l, k, h) refl

  pub parts_scope_step : (before : Scope) {one all : Scope} {t s m p e d b : Tree} → t ≡ pair s m → s ≡ pair p e → e ≡ pair d b → one ≡ part_scope ms xs before p → all ≡ with_triples ms one (block_triples b) → parts_scope ms xs all m ≡ parts_scope ms xs before t
  parts_scope_step before q u v h k = rw (q, u, v, k, h) refl

  pub groups_scope_step : (before : Scope) {inner all : Scope} {t s m w g : Tree} → t ≡ pair s m → s ≡ pair w g → inner ≡ group_scope ms xs before g → all ≡ joined before inner → groups_scope ms xs all m ≡ groups_scope ms xs before t
  groups_scope_step before q u h k = rw (q, u, k, h) refl
