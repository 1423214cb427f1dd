-- Pairs of columns that tie a row to the rows of a table, keys among the tied columns, and keys without NULL.
use Rattle.std.specs.Prelude.{◌≡◌, ℕ, ◌⊎◌, Bool, true, false, List, [], ◌∷◌, length, map, Option, Some, slice_get, nat_eq}
use Rattle.std.specs.List.{Contains, filter, list_all, list_any}
use Rattle.std.specs.Option.{option_map_or}
use Rattle.vkg_expr.specs.Typing.{same_kind}
use Rattle.vkg_schema.specs.declared.table.Column.{Column}
use Rattle.vkg_schema.specs.declared.table.Key.{Key}
use Rattle.vkg_schema.specs.declared.table.Table.{Table}
use Rattle.vkg_schema.specs.Rows.{Row, agree}

-- each column with itself
abbrev pub with_itself : List ℕ → List (ℕ × ℕ)
with_itself columns = map (λ c. (c, c)) columns

abbrev pub firsts : List (ℕ × ℕ) → List ℕ
firsts ties = map (λ p. p.0) ties

abbrev pub seconds : List (ℕ × ℕ) → List ℕ
seconds ties = map (λ p. p.1) ties

-- each of the first columns is one of the second
abbrev pub are_among : List ℕ → List ℕ → Bool
are_among key columns = list_all (λ k. list_any (nat_eq k) columns) key

-- no element passes, or one does
abbrev pub AtMostOne : {A : Type 0} → (A → Bool) → List A → Type 0
AtMostOne {A} p xs = (filter p xs ≡ []) ⊎ ((x : A) × (filter p xs ≡ x ∷ []))

-- SQL-92, 4.10.2: of these rows q alone agrees with r
pub record IsPartner (ties : List (ℕ × ℕ)) (r : Row) (rows : List Row) (q : Row) : Type 0 where
  pub member : Contains rows q
  pub agrees : agree ties r q ≡ true
  pub alone : filter (agree ties r) rows ≡ q ∷ []

-- the rows have n cells each
abbrev pub AreWide : ℕ → List Row → Type 0
AreWide n rows = (r : Row) → Contains rows r → length r ≡ n

-- both columns are there, and they are of one kind
abbrev pub is_one_kind : Option Column → Option Column → Bool
is_one_kind (Some c) (Some d) = same_kind c.kind d.kind
is_one_kind o p = false

-- the columns of a pair, the one among a table's columns and the other among another's, are of one kind
abbrev pub is_of_one_kind : List Column → List Column → (ℕ × ℕ) → Bool
is_of_one_kind child parent p = is_one_kind (slice_get child p.0) (slice_get parent p.1)

-- the table has the column, and it is not NULL
abbrev pub is_full_column : Table → ℕ → Bool
is_full_column table k = option_map_or (λ c. c.not_null) (slice_get table.columns k) false

-- SQL-92, 11.7: no column of the key is NULL
abbrev pub is_full : Table → Key → Bool
is_full table key = list_all (is_full_column table) key.columns
