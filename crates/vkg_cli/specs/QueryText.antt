-- The text that `sql` writes for a query.
use Rattle.std.specs.Prelude.{ℕ, List, ◌++◌, length}
use Rattle.vkg_schema.specs.declared.table.Table.{Table}
use Rattle.vkg_maps.specs.declared.mapping.Mapping.{Mapping}
use Rattle.vkg_sparql.specs.Query.{Query}
use Rattle.vkg_algebra.specs.Answer.{modifiers_of, selected_variables}
use Rattle.vkg_sqltext.specs.OrderText.{order_text}
use Rattle.vkg_sqltext.specs.Text.{sql_text}
use Rattle.vkg_rewrite.specs.Rewritten.{rewritten}

-- the text of its plan, and behind it the order and the slice; the keys' columns stand behind those of the selected variables
abbrev pub query_text : List Table → Mapping → Query → List ℕ
query_text schema mapping query = sql_text schema (rewritten schema mapping query) ++ order_text (length (selected_variables query)) (modifiers_of query)
