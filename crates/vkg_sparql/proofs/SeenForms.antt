-- What each form of the program's expressions and parts stands for.
use Rattle.std.proofs.Common.{◌≡◌, ◌∙◌, ℕ, List, Option, fold, map, sym, ap}
use Rattle.vkg_terms.specs.declared.term.Term.{Term}
use Rattle.vkg_values.specs.declared.operator.Compare.{Compare as CompareOp}
use Rattle.vkg_values.specs.declared.operator.Take.{Take as TakeOp}
use Rattle.vkg_values.specs.declared.operator.Test.{Test as TestOp}
use Rattle.vkg_sparql.specs.declared.condition.Condition.{Condition as ConditionValue}
use Rattle.vkg_sparql.specs.declared.condition.Condition.TheFolds.{fold-roll-Condition}
use Rattle.vkg_sparql.specs.declared.condition.Condition.TheOpen.{Condition-F}
use Rattle.vkg_sparql.specs.declared.condition.Condition.TheVariants as condition
use Rattle.vkg_sparql.specs.declared.condition.Condition.TheVariants.{rolls-Variable, rolls-Constant, rolls-Bound, rolls-Test, rolls-Take, rolls-Compare, rolls-SameTerm, rolls-Not, rolls-And, rolls-Or}
use Rattle.vkg_sparql.specs.declared.pattern.GraphName.{GraphName}
use Rattle.vkg_sparql.specs.declared.pattern.TriplePattern.{TriplePattern}
use Rattle.vkg_sparql.specs.declared.query.Part.{Part as PartValue}
use Rattle.vkg_sparql.specs.declared.query.Part.TheFolds.{fold-roll-Part}
use Rattle.vkg_sparql.specs.declared.query.Part.TheOpen.{Part-F}
use Rattle.vkg_sparql.specs.declared.query.Part.TheVariants as part
use Rattle.vkg_sparql.specs.declared.query.Part.TheVariants.{rolls-Triples, rolls-Filter, rolls-Optional, rolls-Graph, rolls-Groups, rolls-Minus, rolls-Values, rolls-Bind}
use Rattle.vkg_sparql.specs.Query.{Condition, Variable, Constant, Bound, Test, Take, Compare, SameTerm, Not, And, Or, Part, Triples, Filter, Optional, Graph, Groups, Minus, Values, Bind}
use Rattle.vkg_sparql.specs.Seen.{condition_seen, condition_step, group_seen, part_seen, part_step, unions_seen}

pub seen-Variable : (v : ℕ) → condition_seen (condition.Variable v) ≡ Variable v
seen-Variable v = ap condition_seen (sym (rolls-Variable v)) ∙ fold-roll-Condition Condition condition_step (Condition-F.Variable v)

pub seen-Constant : (t : Term) → condition_seen (condition.Constant t) ≡ Constant t
seen-Constant t = ap condition_seen (sym (rolls-Constant t)) ∙ fold-roll-Condition Condition condition_step (Condition-F.Constant t)

pub seen-Bound : (v : ℕ) → condition_seen (condition.Bound v) ≡ Bound v
seen-Bound v = ap condition_seen (sym (rolls-Bound v)) ∙ fold-roll-Condition Condition condition_step (Condition-F.Bound v)

pub seen-Test : (op : TestOp) (a : ConditionValue) → condition_seen (condition.Test op a) ≡ Test op (condition_seen a)
seen-Test op a = ap condition_seen (sym (rolls-Test op a)) ∙ fold-roll-Condition Condition condition_step (Condition-F.Test op a)

pub seen-Take : (op : TakeOp) (a : ConditionValue) → condition_seen (condition.Take op a) ≡ Take op (condition_seen a)
seen-Take op a = ap condition_seen (sym (rolls-Take op a)) ∙ fold-roll-Condition Condition condition_step (Condition-F.Take op a)

pub seen-Compare : (op : CompareOp) (a b : ConditionValue) → condition_seen (condition.Compare op a b) ≡ Compare op (condition_seen a) (condition_seen b)
seen-Compare op a b = ap condition_seen (sym (rolls-Compare op a b)) ∙ fold-roll-Condition Condition condition_step (Condition-F.Compare op a b)

pub seen-SameTerm : (a b : ConditionValue) → condition_seen (condition.SameTerm a b) ≡ SameTerm (condition_seen a) (condition_seen b)
seen-SameTerm a b = ap condition_seen (sym (rolls-SameTerm a b)) ∙ fold-roll-Condition Condition condition_step (Condition-F.SameTerm a b)

pub seen-Not : (a : ConditionValue) → condition_seen (condition.Not a) ≡ Not (condition_seen a)
seen-Not a = ap condition_seen (sym (rolls-Not a)) ∙ fold-roll-Condition Condition condition_step (Condition-F.Not a)

pub seen-And : (a : ConditionValue) (more : List ConditionValue) → condition_seen (condition.And a more) ≡ fold And (condition_seen a) (map condition_seen more)
seen-And a more = ap condition_seen (sym (rolls-And a more)) ∙ fold-roll-Condition Condition condition_step (Condition-F.And a more)

pub seen-Or : (a : ConditionValue) (more : List ConditionValue) → condition_seen (condition.Or a more) ≡ fold Or (condition_seen a) (map condition_seen more)
seen-Or a more = ap condition_seen (sym (rolls-Or a more)) ∙ fold-roll-Condition Condition condition_step (Condition-F.Or a more)

pub seen-Triples : (ts : List TriplePattern) → part_seen (part.Triples ts) ≡ Triples ts
seen-Triples ts = ap part_seen (sym (rolls-Triples ts)) ∙ fold-roll-Part Part part_step (Part-F.Triples ts)

pub seen-Filter : (c : ConditionValue) → part_seen (part.Filter c) ≡ Filter (condition_seen c)
seen-Filter c = ap part_seen (sym (rolls-Filter c)) ∙ fold-roll-Part Part part_step (Part-F.Filter c)

pub seen-Optional : (ps : List PartValue) → part_seen (part.Optional ps) ≡ Optional (group_seen ps)
seen-Optional ps = ap part_seen (sym (rolls-Optional ps)) ∙ fold-roll-Part Part part_step (Part-F.Optional ps)

pub seen-Graph : (name : GraphName) (ps : List PartValue) → part_seen (part.Graph name ps) ≡ Graph name (group_seen ps)
seen-Graph name ps = ap part_seen (sym (rolls-Graph name ps)) ∙ fold-roll-Part Part part_step (Part-F.Graph name ps)

pub seen-Groups : (ps : List PartValue) (pss : List (List PartValue)) → part_seen (part.Groups ps pss) ≡ Groups (group_seen ps) (unions_seen pss)
seen-Groups ps pss = ap part_seen (sym (rolls-Groups ps pss)) ∙ fold-roll-Part Part part_step (Part-F.Groups ps pss)

pub seen-Minus : (ps : List PartValue) → part_seen (part.Minus ps) ≡ Minus (group_seen ps)
seen-Minus ps = ap part_seen (sym (rolls-Minus ps)) ∙ fold-roll-Part Part part_step (Part-F.Minus ps)

pub seen-Values : (vs : List ℕ) (rows : List (List (Option Term))) → part_seen (part.Values vs rows) ≡ Values vs rows
seen-Values vs rows = ap part_seen (sym (rolls-Values vs rows)) ∙ fold-roll-Part Part part_step (Part-F.Values vs rows)

pub seen-Bind : (c : ConditionValue) (v : ℕ) → part_seen (part.Bind c v) ≡ Bind (condition_seen c) v
seen-Bind c v = ap part_seen (sym (rolls-Bind c v)) ∙ fold-roll-Part Part part_step (Part-F.Bind c v)
