-- What the program's types stand for.
use Rattle.std.specs.Prelude.{List, [], ◌∷◌, map, fold}
use Rattle.vkg_sparql.specs.declared.condition.Condition.{Condition as ConditionValue}
use Rattle.vkg_sparql.specs.declared.condition.Condition.TheOpen.{Condition-F}
use Rattle.vkg_sparql.specs.declared.condition.Condition.TheFolds.{fold-Condition}
use Rattle.vkg_sparql.specs.declared.query.Part.{Part as PartValue}
use Rattle.vkg_sparql.specs.declared.query.Part.TheOpen.{Part-F}
use Rattle.vkg_sparql.specs.declared.query.Part.TheFolds.{fold-Part}
use Rattle.vkg_sparql.specs.declared.query.Key.{Key as KeyValue}
use Rattle.vkg_sparql.specs.declared.query.Query.{Query as QueryValue}
use Rattle.vkg_sparql.specs.Query.{Condition, Variable, Constant, Bound, Test, Take, Compare, SameTerm, Not, And, Or, Part, Triples, Filter, Optional, Graph, Groups, Minus, Values, Bind, Group, End, Then, Unions, Last, Union, Key, Query}

-- one form of an expression over what stands in it; a chain is joined from the left
abbrev pub condition_step : Condition-F Condition → Condition
condition_step (Condition-F.Variable v) = Variable v
condition_step (Condition-F.Constant t) = Constant t
condition_step (Condition-F.Bound v) = Bound v
condition_step (Condition-F.Test op a) = Test op a
condition_step (Condition-F.Take op a) = Take op a
condition_step (Condition-F.Compare op a b) = Compare op a b
condition_step (Condition-F.SameTerm a b) = SameTerm a b
condition_step (Condition-F.Not a) = Not a
condition_step (Condition-F.And a more) = fold And a more
condition_step (Condition-F.Or a more) = fold Or a more

abbrev pub condition_seen : ConditionValue → Condition
condition_seen = fold-Condition Condition condition_step

abbrev pub group_of : List Part → Group
group_of [] = End
group_of (p ∷ ps) = Then p (group_of ps)

abbrev pub unions_of : List (List Part) → Unions
unions_of [] = Last
unions_of (ps ∷ pss) = Union (group_of ps) (unions_of pss)

abbrev pub part_step : Part-F Part → Part
part_step (Part-F.Triples ts) = Triples ts
part_step (Part-F.Filter c) = Filter (condition_seen c)
part_step (Part-F.Optional ps) = Optional (group_of ps)
part_step (Part-F.Graph name ps) = Graph name (group_of ps)
part_step (Part-F.Groups ps pss) = Groups (group_of ps) (unions_of pss)
part_step (Part-F.Minus ps) = Minus (group_of ps)
part_step (Part-F.Values vs rows) = Values vs rows
part_step (Part-F.Bind c v) = Bind (condition_seen c) v

abbrev pub part_seen : PartValue → Part
part_seen = fold-Part Part part_step

-- the group of these parts
abbrev pub group_seen : List PartValue → Group
group_seen ps = group_of (map part_seen ps)

-- the groups of these lists of parts
abbrev pub unions_seen : List (List PartValue) → Unions
unions_seen pss = unions_of (map (map part_seen) pss)

abbrev pub key_seen : KeyValue → Key
key_seen k = record { condition = condition_seen k.condition; descends = k.descends }

abbrev pub query_seen : QueryValue → Query
query_seen q = record {
  names = q.names;
  form = q.form;
  distinct = q.distinct;
  selected = q.selected;
  group = group_seen q.group;
  keys = map key_seen q.keys;
  slice = q.slice;
}
