-- What is written behind the text of a query's plan: the order of its rows, and the slice of them.
use Rattle.std.specs.Prelude.{ℕ, suc, List, [], ◌∷◌, ◌++◌, codes, decimal, Option, Some, None, ◌==◌, if◌then◌else◌}
use Rattle.vkg_order.specs.declared.modifiers.Direction.{Direction}
use Rattle.vkg_order.specs.declared.modifiers.Direction.TheVariants.{Ascending, Descending}
use Rattle.vkg_order.specs.declared.modifiers.Modifiers.{Modifiers}
use Rattle.vkg_sqltext.specs.Text.{column_text}

-- SQL-92, 13.1, ordering specification
abbrev pub direction_text : Direction → List ℕ
direction_text Ascending = codes " ASC"
direction_text Descending = codes " DESC"

-- a key by its column
abbrev pub key_text : ℕ → Direction → List ℕ
key_text at direction = column_text at ++ direction_text direction

abbrev pub more_keys_text : ℕ → List Direction → List ℕ
more_keys_text at [] = []
more_keys_text at (d ∷ ds) = codes ", " ++ key_text at d ++ more_keys_text (suc at) ds

-- SQL-92, 13.1, order by clause, of the columns from one on
abbrev pub keys_text : ℕ → List Direction → List ℕ
keys_text at [] = []
keys_text at (d ∷ ds) = codes " ORDER BY " ++ key_text at d ++ more_keys_text (suc at) ds

abbrev pub limit_text : Option ℕ → List ℕ
limit_text None = []
limit_text (Some n) = codes " LIMIT " ++ decimal n

abbrev pub offset_text : ℕ → List ℕ
offset_text n = if n == 0 then [] else codes " OFFSET " ++ decimal n

-- own: where the column of the first key is this one
abbrev pub order_text : ℕ → Modifiers → List ℕ
order_text at m = keys_text at m.directions ++ limit_text m.slice.limit ++ offset_text m.slice.offset
