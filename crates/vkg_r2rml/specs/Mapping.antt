-- The mapping that a graph is read as, or its least fault: the least number of a triples map, and there the least check.
use Rattle.std.specs.Prelude.{◌≡◌, ℕ, ◌+◌, nat_lt, List, [], ◌∷◌, length, map, Option, Some, None, Result, Ok, Err, if◌then◌else◌}
use Rattle.vkg_lists.specs.Results.{unless, in_front}
use Rattle.vkg_turtle.specs.declared.triple.Triple.{Triple}
use Rattle.vkg_schema.specs.declared.table.Table.{Table}
use Rattle.vkg_maps.specs.declared.mapping.Mapping.{Mapping}
use Rattle.vkg_maps.specs.declared.mapping.TriplesMap.{TriplesMap}
use Rattle.vkg_maps.specs.QuadRules.{quad_rules, rule_limit}
use Rattle.vkg_r2rml.specs.declared.map_error.MapFault.{MapFault}
use Rattle.vkg_r2rml.specs.declared.map_error.MapError.{MapError}
use Rattle.vkg_r2rml.specs.declared.map_error.MapError.TheVariants.{Fault, Memory}
use Rattle.vkg_r2rml.specs.declared.map_node.MapNode.{MapNode}
use Rattle.vkg_r2rml.specs.Checked.{Checked}
use Rattle.vkg_r2rml.specs.TriplesMaps.{triples_maps}
use Rattle.vkg_r2rml.specs.TriplesMap.{triples_map}

abbrev pub fault : ℕ → ℕ → MapFault
fault check place = record { check = check; map = place }

-- own: a mapping has at most so many triples maps
abbrev pub map_limit : ℕ
map_limit = 1024

-- the first triples map, counted from here, of which a check fails
abbrev pub in_order : ℕ → List (Checked TriplesMap) → Result (List TriplesMap) MapFault
in_order place [] = Ok []
in_order place (Ok m ∷ ms) = in_front m (in_order (place + 1) ms)
in_order place (Err check ∷ ms) = Err (fault check place)

-- only where nothing else fails
abbrev pub within_rules : Mapping → Result Mapping MapFault
within_rules mapping = if nat_lt rule_limit (length (quad_rules mapping)) then Err (fault 22 0) else Ok mapping

abbrev pub of_maps : List ℕ → Result (List TriplesMap) MapFault → Result Mapping MapFault
of_maps base (Ok ms) = within_rules (record { base = base; maps = ms })
of_maps base (Err f) = Err f

-- where maps have too many rules: the fault of those behind them, or else this limit
abbrev pub past_limit : Option MapFault → Result Mapping MapFault
past_limit (Some f) = Err f
past_limit None = Err (fault 22 0)

-- there is a triples map, and there are not too many
abbrev pub count_fault : List MapNode → Option MapFault
count_fault [] = Some (fault 21 0)
count_fault (m ∷ ms) = if nat_lt map_limit (length (m ∷ ms)) then Some (fault 22 0) else None

abbrev pub mapping_over : List Triple → List Table → List ℕ → List MapNode → Result Mapping MapFault
mapping_over triples schema base maps = unless (count_fault maps) (of_maps base (in_order 1 (map (triples_map triples schema base maps) maps)))

-- R2RML, 6: the mapping of a graph over a schema
abbrev pub mapping_of : List Triple → List Table → List ℕ → Result Mapping MapFault
mapping_of triples schema base = mapping_over triples schema base (triples_maps triples schema)

-- this fault is defined; want of memory is free
abbrev pub IsFault : {A : Type 0} → Result A MapFault → MapError → Type 0
IsFault defined (Fault f) = defined ≡ Err f
IsFault defined Memory = Unit {0}

-- this is the least fault of the graph
abbrev pub Fails : List Triple → List Table → List ℕ → MapError → Type 0
Fails triples schema base e = IsFault (mapping_of triples schema base) e
