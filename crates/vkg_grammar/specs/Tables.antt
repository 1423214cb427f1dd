-- How the table is made: rounds over all cells, until nothing changes.
use Rattle.std.specs.Prelude.{◌↔◌, ◌≡◌, ℕ, ◌+◌, ◌/◌, ◌%◌, ◌<◌, ◌≤◌, Bool, true, false, ◌⊎◌, List, [], ◌∷◌, length, get_or, take, Option, Some, None, nat_eq}
use Rattle.std.proofs.Common.{zero, suc}
use Rattle.std.specs.List.{AllByRecursion, count_by}
use Rattle.vkg_grammar.specs.declared.note.Note.{Note}
use Rattle.vkg_grammar.specs.declared.rule.Rule.{Rule}
use Rattle.vkg_grammar.specs.Grammar.{Shape, One, Parts, Choice, shape_of, Derives, MayFollow}
use Rattle.vkg_grammar.specs.Rank.{rank_in, Begins, ShapeBegins}

-- Each kind of token has its column.
abbrev pub HasColumns : List Rule → ℕ → Type 0
HasColumns g width = (n k : ℕ) → n < length g → shape_of g n ≡ One k → k + 1 < width

-- what the column is for
abbrev pub seen_at : ℕ → Option ℕ
seen_at zero = None
seen_at (suc k) = Some k

-- One round at a cell: what was found stays, what has a reason now is found in this round.
pub data IsNextCell (reason : Type 0) (stamp : ℕ) : ℕ → ℕ → Type 0 where
  stays : {old : ℕ} → 0 < old → IsNextCell reason stamp old old
  comes : reason → IsNextCell reason stamp 0 stamp
  waits : (reason → ⊥) → IsNextCell reason stamp 0 0

-- how many cells are empty
abbrev pub zeros : List ℕ → ℕ
zeros xs = count_by (λ x. nat_eq x 0) xs

-- One round over the first cells, for these reasons.
pub record IsRound (reason : ℕ → Type 0) (stamp : ℕ) (old new : List ℕ) (done : ℕ) (changed : Bool) : Type 0 where
  pub size : length new ≡ done
  pub cells : (i : ℕ) → i < done → IsNextCell (reason i) stamp (get_or old i 0) (get_or new i 0)
  pub same : changed ≡ false → new ≡ take done old
  pub fewer : zeros new ≤ zeros (take done old)
  pub changes : changed ≡ true → zeros new < zeros (take done old)

-- The symbol of this cell has a reason by the table to begin with what the cell's column is for.
abbrev pub BeginReason : List Rule → ℕ → List ℕ → ℕ → Type 0
BeginReason g width table i = ShapeBegins (rank_in table width) (seen_at (i % width)) (shape_of g (i / width))

-- All of these symbols are found.
abbrev pub AllFound : List ℕ → List ℕ → Type 0
AllFound table xs = AllByRecursion (λ x. 0 < get_or table x 0) xs

-- A symbol of this shape derives some list if the symbols that are found do.
abbrev pub ShapeFound : List ℕ → Shape → Type 0
ShapeFound table (One k) = Unit {0}
ShapeFound table (Parts xs) = AllFound table xs
ShapeFound table (Choice xs ys) = AllFound table xs ⊎ AllFound table ys

-- the symbol derives some list if the symbols that are found do
abbrev pub TextReason : List Rule → List ℕ → ℕ → Type 0
TextReason g table n = ShapeFound table (shape_of g n)

-- The symbol derives some list of tokens.
abbrev pub HasText : List Rule → ℕ → Type 0
HasText g n = (ts : List ℕ) × (ws : List Note) × Derives g (n ∷ []) ts ws

-- By its place in these symbols, c may come behind n, where behind says whether it may come behind them all.
abbrev pub PlaceFollows : (ℕ → Option ℕ → ℕ) → Type 0 → ℕ → Option ℕ → List ℕ → Type 0
PlaceFollows rank behind n c [] = ⊥
PlaceFollows rank behind n c (x ∷ xs) = ((x ≡ n) × (((k : ℕ) × (c ≡ Some k) × Begins rank c xs) ⊎ (Begins rank None xs × behind))) ⊎ PlaceFollows rank behind n c xs

-- by its place in a symbol of this shape, c may come behind n
abbrev pub ShapeFollows : (ℕ → Option ℕ → ℕ) → Type 0 → ℕ → Option ℕ → Shape → Type 0
ShapeFollows rank behind n c (One k) = ⊥
ShapeFollows rank behind n c (Parts xs) = PlaceFollows rank behind n c xs
ShapeFollows rank behind n c (Choice xs ys) = PlaceFollows rank behind n c xs ⊎ PlaceFollows rank behind n c ys

-- Some symbol's way is a reason that c may follow n.
abbrev pub HasPlace : List Rule → (ℕ → Option ℕ → ℕ) → List ℕ → ℕ → ℕ → Option ℕ → Type 0
HasPlace g rank follow width n c = (m : ℕ) × (m < length g) × ShapeFollows rank (0 < rank_in follow width m c) n c (shape_of g m)

-- the symbol of this cell has a reason by the tables to be followed by what the cell's column is for
abbrev pub FollowReason : List Rule → (ℕ → Option ℕ → ℕ) → ℕ → List ℕ → ℕ → Type 0
FollowReason g rank width follow i = HasPlace g rank follow width (i / width) (seen_at (i % width))

-- By the tables, c begins this way of n.
abbrev pub StartsBy : (ℕ → Option ℕ → ℕ) → List ℕ → ℕ → ℕ → ℕ → List ℕ → Type 0
StartsBy rank follow width n k xs = Begins rank (Some k) xs ⊎ (Begins rank None xs × (0 < rank_in follow width n (Some k)))

-- By the tables, at most one of two ways of n may be empty, and no kind begins both.
abbrev pub WaysApart : (ℕ → Option ℕ → ℕ) → List ℕ → ℕ → ℕ → List ℕ → List ℕ → Type 0
WaysApart rank follow width n xs ys = (Begins rank None xs → Begins rank None ys → ⊥) × ((k : ℕ) → k + 1 < width → StartsBy rank follow width n k xs → StartsBy rank follow width n k ys → ⊥)

-- by the tables, the ways of a symbol of this shape are apart
abbrev pub ShapeApart : (ℕ → Option ℕ → ℕ) → List ℕ → ℕ → ℕ → Shape → Type 0
ShapeApart rank follow width n (One k) = Unit {0}
ShapeApart rank follow width n (Parts xs) = Unit {0}
ShapeApart rank follow width n (Choice xs ys) = WaysApart rank follow width n xs ys

-- What is found to follow is what may follow.
abbrev pub IsFollowTable : List Rule → ℕ → List ℕ → Type 0
IsFollowTable g width follow = (n k : ℕ) → n < length g → (0 < rank_in follow width n (Some k) ↔ MayFollow g n k)
