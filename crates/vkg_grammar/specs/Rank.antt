-- The table of the parser: when it was found that a symbol begins with a kind, or may be empty; 0 for never.
use Rattle.std.specs.Prelude.{◌≡◌, ℕ, ◌+◌, ◌*◌, ◌^◌, ◌<◌, ◌⊎◌, List, [], ◌∷◌, length, get_or, Option, Some, None, nat_lt, if◌then◌else◌}
use Rattle.std.proofs.Common.{zero, suc}
use Rattle.vkg_grammar.specs.declared.rule.Rule.{Rule}
use Rattle.vkg_grammar.specs.Grammar.{Shape, One, Parts, Choice, shape_of}

-- The next token as a column of the table.
abbrev pub column : Option ℕ → ℕ
column None = 0
column (Some k) = k + 1

-- When it was found that n begins with the next token c, or for None that it may be empty; 0 for a kind past the last column.
abbrev pub rank_in : List ℕ → ℕ → ℕ → Option ℕ → ℕ
rank_in table width n c = if nat_lt (column c) width then get_or table (n * width + column c) 0 else 0

-- By the table, these symbols begin with c.
abbrev pub Begins : (ℕ → Option ℕ → ℕ) → Option ℕ → List ℕ → Type 0
Begins rank c [] = c ≡ None
Begins rank c (x ∷ xs) = ((k : ℕ) × (c ≡ Some k) × (0 < rank x (Some k))) ⊎ ((0 < rank x None) × Begins rank c xs)

-- by the table, a symbol of this shape begins with c
abbrev pub ShapeBegins : (ℕ → Option ℕ → ℕ) → Option ℕ → Shape → Type 0
ShapeBegins rank c (One k) = c ≡ Some k
ShapeBegins rank c (Parts xs) = Begins rank c xs
ShapeBegins rank c (Choice xs ys) = Begins rank c xs ⊎ Begins rank c ys

-- These symbols begin with c by what was found before r.
pub data Falls (rank : ℕ → Option ℕ → ℕ) (r : ℕ) : Option ℕ → List ℕ → Type 0 where
  falls_end : Falls rank r None []
  falls_here : {k x : ℕ} {xs : List ℕ} → 0 < rank x (Some k) → rank x (Some k) < r → Falls rank r (Some k) (x ∷ xs)
  falls_later : {c : Option ℕ} {x : ℕ} {xs : List ℕ} → 0 < rank x None → rank x None < r → Falls rank r c xs → Falls rank r c (x ∷ xs)

-- a symbol of this shape begins with c by what was found before r
abbrev pub ShapeFalls : (ℕ → Option ℕ → ℕ) → ℕ → Option ℕ → Shape → Type 0
ShapeFalls rank r c (One k) = c ≡ Some k
ShapeFalls rank r c (Parts xs) = Falls rank r c xs
ShapeFalls rank r c (Choice xs ys) = Falls rank r c xs ⊎ Falls rank r c ys

-- Nothing is found without a reason found before, and nothing with a reason is left out.
pub record IsTable (g : List Rule) (rank : ℕ → Option ℕ → ℕ) : Type 0 where
  pub falls : (n : ℕ) (c : Option ℕ) → n < length g → 0 < rank n c → ShapeFalls rank (rank n c) c (shape_of g n)
  pub closed : (n : ℕ) (c : Option ℕ) → n < length g → ShapeBegins rank c (shape_of g n) → 0 < rank n c

-- the bound of a symbol that begins with the next token: by its rank, or the other where it does not begin so
abbrev pub at_rank : ℕ → ℕ → ℕ
at_rank zero other = other
at_rank (suc r) other = 3 ^ suc r

-- What bounds the steps until the next token c is taken from this stack.
abbrev pub height : (ℕ → Option ℕ → ℕ) → Option ℕ → List ℕ → ℕ
height rank c [] = 0
height rank None (n ∷ s) = 3 ^ rank n None + height rank None s
height rank (Some k) (n ∷ s) = at_rank (rank n (Some k)) (3 ^ rank n None + height rank (Some k) s)

-- Each cell of these symbols' rows, for what is seen and for nothing, is in the table.
abbrev pub HasRows : ℕ → ℕ → ℕ → Option ℕ → Type 0
HasRows size width symbol c = (column c < width) × (symbol * width + column c < size) × (symbol * width < size)

abbrev pub AllHaveRows : ℕ → ℕ → List ℕ → Option ℕ → Type 0
AllHaveRows size width symbols c = (i : ℕ) → i < length symbols → HasRows size width (get_or symbols i 0) c
