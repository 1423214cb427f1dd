-- The plan of an algebra over quad rules: a column for each visible variable, and in mode each the graph last.
use Rattle.std.specs.Prelude.{ℕ, ◌+◌, Bool, true, false, List, [], ◌∷◌, ◌++◌, map, filter, flat_map, filter_map, length, replicate, Option, Some, None, nat_eq, if◌then◌else◌, find, suc}
use Rattle.std.specs.Option.{option_eq}
use Rattle.std.specs.List.{list_any, position_or_len}
use Rattle.vkg_lists.specs.Sets.{distinct}
use Rattle.vkg_terms.specs.declared.term.Term.TheVariants.{Iri}
use Rattle.vkg_terms.specs.Vocabulary.{rr_default_graph}
use Rattle.vkg_terms.specs.declared.term.Term.{Term}
use Rattle.vkg_terms.specs.Same.{term_eq}
use Rattle.vkg_cells.specs.declared.cell.Cell.TheVariants as cell
use Rattle.vkg_cells.specs.declared.cell.SqlType.TheVariants as kind
use Rattle.vkg_sparql.specs.declared.pattern.Node.{Node}
use Rattle.vkg_sparql.specs.declared.pattern.Node.TheVariants.{Variable, Label, Fixed}
use Rattle.vkg_sparql.specs.declared.pattern.GraphName.TheVariants as name
use Rattle.vkg_sparql.specs.declared.pattern.TriplePattern.{TriplePattern}
use Rattle.vkg_sparql.specs.Query.{Condition, Key, Query}
use Rattle.vkg_algebra.specs.Algebra.{Algebra, Bgp, LeftJoin, Filter, Graph, Minus, Table, Extend}
use Rattle.vkg_algebra.specs.Algebra as algebra
use Rattle.vkg_algebra.specs.Visible.{each_once, has, visible}
use Rattle.vkg_algebra.specs.Translation.{algebra_of}
use Rattle.vkg_algebra.specs.Answer.{selected_variables}
use Rattle.vkg_expr.specs.declared.term_expr.TermExpr.{TermExpr}
use Rattle.vkg_expr.specs.declared.term_expr.TermExpr.TheVariants as term_form
use Rattle.vkg_expr.specs.Expr.{Expr, Col, Const, Same, IsNull, Not, Coalesce, exprs}
use Rattle.vkg_expr.specs.TermExprs.{term_expr, term_const}
use Rattle.vkg_plan.specs.Kinds.{Tables}
use Rattle.vkg_plan.specs.Plan.{Plan, Unit, Empty, Scan, Select, Project, Join, Left, AntiJoin, UnionAll, Distinct, plans}
use Rattle.vkg_match.specs.Verdict.{Verdict, Never, All, verdict_of}
use Rattle.vkg_maps.specs.declared.quad_rule.Join.{Join as ParentJoin}
use Rattle.vkg_row_rules.specs.declared.row_rule.RowRule.{RowRule}
use Rattle.vkg_row_rules.specs.RowDataset.{conditions}
use Rattle.vkg_expr.specs.Logic.{truth_const, and_of, or_of}
use Rattle.vkg_unfolded.specs.declared.mode.Mode.{Mode}
use Rattle.vkg_unfolded.specs.declared.mode.Mode.TheVariants.{Default, InGraph, Each}
use Rattle.vkg_unfolded.specs.Conditions.{truth_expr, value_expr, condition_of}

-- what stands in mode each alone
abbrev pub if_each : {X : Type 0} → Mode → X → List X
if_each Each x = x ∷ []
if_each mode x = []

abbrev pub null_term : Expr
null_term = Const cell.Null kind.Term

abbrev pub or_null : Expr → Expr → Expr
or_null l r = or_of (IsNull l ∷ IsNull r ∷ Same l r ∷ [])

-- TRIPLE PATTERNS

-- R2RML, 9: the name of the default graph
abbrev pub default_graph : Term
default_graph = Iri rr_default_graph

-- a graph is not the default graph, where the verdict does not say so already
abbrev pub unless_never : TermExpr → Verdict → List Expr
unless_never g Never = []
unless_never g (All es) = Not (Same (term_expr g) (term_const default_graph)) ∷ []

-- the test by which a rule is admitted, if it may be
abbrev pub graph_test : Mode → Option TermExpr → Option (List Expr)
graph_test Default None = Some []
graph_test Default (Some g) = Some (Same (term_expr g) (term_const default_graph) ∷ [])
graph_test (InGraph i) None = None
graph_test (InGraph i) (Some g) =
    if term_eq (Iri i) default_graph then None else Some (Same (term_expr g) (term_const (Iri i)) ∷ [])
graph_test Each None = None
graph_test Each (Some g) = Some (unless_never g (verdict_of g (term_form.Fixed default_graph)))

-- the rows of a rule's table that pass, or its pairs of rows that agree and pass
abbrev pub source_plan : Tables → ℕ → Option ParentJoin → List Expr → Plan
source_plan schema table None cs = Select (and_of cs) (Scan table)
source_plan schema table (Some join) cs =
    Join (plans (Scan table ∷ Scan join.table ∷ [])) (and_of (conditions schema table join ++ cs))

abbrev pub rule_source : Tables → RowRule → List Expr → Plan
rule_source schema rule cs = source_plan schema rule.table rule.join cs

abbrev pub graph_terms : Option TermExpr → List Expr
graph_terms None = []
graph_terms (Some g) = term_expr g ∷ []

abbrev pub graph_exprs : RowRule → List Expr
graph_exprs rule = graph_terms rule.graph

-- the terms of a rule's quad are there
abbrev pub not_null : RowRule → List Expr
not_null rule = map (λ e. Not (IsNull e)) (term_expr rule.subject ∷ term_expr rule.predicate ∷ term_expr rule.object ∷ graph_exprs rule)

-- the nodes of a pattern with the expressions of a rule
abbrev pub Places : Type 0
Places = List (Node × Expr)

abbrev pub places : TriplePattern → RowRule → Places
places p rule = (p.subject, term_expr rule.subject) ∷ (p.predicate, term_expr rule.predicate) ∷ (p.object, term_expr rule.object) ∷ []

abbrev pub constants : Node × Expr → List Expr
constants (Fixed t, e) = Same (term_const t) e ∷ []
constants (x, e) = []

-- a column's name: a variable's or label's number, or none for the hidden graph
abbrev pub Name : Type 0
Name = Option ℕ

abbrev pub name_eq : Name → Name → Bool
name_eq = option_eq nat_eq

-- a column's name and its expression
abbrev pub Named : Type 0
Named = Name × Expr

abbrev pub same_name : Named → Named → Bool
same_name x y = name_eq x.0 y.0

abbrev pub named : Node × Expr → List Named
named (Variable v, e) = (Some v, e) ∷ []
named (Label v, e) = (Some v, e) ∷ []
named (Fixed t, e) = []

-- Same of each later place of a name with its first
abbrev pub again : Named → Option Named → List Expr
again x (Some y) = Same x.1 y.1 ∷ []
again x None = []

abbrev pub repeats : List Named → List Named → List Expr
repeats before [] = []
repeats before (x ∷ xs) = again x (find (same_name x) before) ++ repeats (before ++ x ∷ []) xs

-- the columns of a triple pattern: its names, each at its first place, and in mode each the graph
abbrev pub pattern_places : Mode → TriplePattern → RowRule → List Named
pattern_places mode p rule =
    distinct same_name (flat_map named (places p rule)) ++ flat_map (λ g. if_each mode (None, g)) (graph_exprs rule)

-- a member for each admitted rule
abbrev pub rule_member : Tables → RowRule → List Expr → List Expr → Option (List Expr) → Option Plan
rule_member schema rule es cs None = None
rule_member schema rule es cs (Some test) = Some (Project es (rule_source schema rule (not_null rule ++ test ++ cs)))

abbrev pub pattern_member : Tables → Mode → TriplePattern → RowRule → Option Plan
pattern_member schema mode p rule =
    rule_member schema rule (map (λ x. x.1) (pattern_places mode p rule))
    (flat_map constants (places p rule) ++ repeats [] (flat_map named (places p rule)))
    (graph_test mode rule.graph)

-- the name of a rule's graph, and whether a rule has a quad in a mode: a row without columns
abbrev pub names_member : Tables → RowRule → Option Plan
names_member schema rule = rule_member schema rule (graph_exprs rule) [] (graph_test Each rule.graph)

abbrev pub exists_member : Tables → Mode → RowRule → Option Plan
exists_member schema mode rule = rule_member schema rule [] [] (graph_test mode rule.graph)

-- Distinct of all members, Empty for none
abbrev pub union_of : ℕ → List Plan → Plan
union_of n [] = Empty (replicate n kind.Term)
union_of n (p ∷ ps) = Distinct (UnionAll (plans (p ∷ ps)))

abbrev pub node_names : Node → List Name
node_names (Variable v) = Some v ∷ []
node_names (Label v) = Some v ∷ []
node_names (Fixed t) = []

abbrev pub pattern_names : Mode → TriplePattern → List Name
pattern_names mode p =
    distinct name_eq (flat_map node_names (p.subject ∷ p.predicate ∷ p.object ∷ [])) ++ if_each mode None

-- the columns of a list of names, from a number on
abbrev pub numbered : ℕ → List Name → List Named
numbered n [] = []
numbered n (x ∷ xs) = (x, Col n) ∷ numbered (suc n) xs

module _ (schema : Tables) (rules : List RowRule) where
  abbrev pub pattern_plan : Mode → TriplePattern → Plan
  pattern_plan mode p = union_of (length (pattern_names mode p)) (filter_map (pattern_member schema mode p) rules)

  -- the graphs' names, and whether there is a graph of a name
  abbrev pub names_plan : Plan
  names_plan = union_of 1 (filter_map (names_member schema) rules)

  abbrev pub exists_plan : List ℕ → Plan
  exists_plan i = union_of 0 (filter_map (exists_member schema (InGraph i)) rules)

  -- BASIC GRAPH PATTERNS: the join of their patterns, with Same of each later column of a name with its first
  abbrev pub patterns_plan : Mode → List ℕ → List TriplePattern → Plan
  patterns_plan mode vs ps =
      let names = flat_map (pattern_names mode) ps in
      Project (map (λ x. Col (position_or_len (name_eq x) names)) (map Some vs ++ if_each mode None))
      (Join (plans (map (pattern_plan mode) ps)) (and_of (repeats [] (numbered 0 names))))

  -- the empty one has one solution, in mode each one in each graph
  abbrev pub bgp_plan : Mode → List TriplePattern → Plan
  bgp_plan Each [] = names_plan
  bgp_plan mode [] = Unit
  bgp_plan mode (p ∷ ps) = patterns_plan mode (visible (Bgp (p ∷ ps))) (p ∷ ps)

-- TWO ALGEBRAS: the variables of the left, then those of the right
abbrev pub column : List ℕ → ℕ → ℕ → Expr
column vs first v = Col (first + position_or_len (nat_eq v) vs)

-- the number of columns
abbrev pub columns_in : Mode → List ℕ → ℕ
columns_in Each vs = suc (length vs)
columns_in mode vs = length vs

abbrev pub left_column : List ℕ → ℕ → Expr
left_column vs v = Col (position_or_len (nat_eq v) vs)

abbrev pub right_column : Mode → List ℕ → List ℕ → ℕ → Expr
right_column mode vs ws = column ws (columns_in mode vs)

-- a variable in the two: where both have it the left one's, or else the right one's
abbrev pub merged : Mode → List ℕ → List ℕ → ℕ → Expr
merged mode vs ws v =
    if has vs v then (if has ws v then Coalesce (exprs (left_column vs v ∷ right_column mode vs ws v ∷ [])) else left_column vs v)
    else (if has ws v then right_column mode vs ws v else null_term)

abbrev pub merged_columns : Mode → List ℕ → List ℕ → List Expr
merged_columns mode vs ws = map (merged mode vs ws) (each_once (vs ++ ws)) ++ if_each mode (Col (length vs))

-- shared variables agree, and the graphs
abbrev pub agreement : Mode → List ℕ → List ℕ → List Expr
agreement mode vs ws =
    map (λ v. or_null (left_column vs v) (right_column mode vs ws v)) (filter (has ws) vs)
    ++ if_each mode (Same (Col (length vs)) (Col (columns_in mode vs + length ws)))

-- a variable of one algebra, NULL where it is not visible
abbrev pub visible_column : List ℕ → ℕ → Expr
visible_column vs v = if has vs v then left_column vs v else null_term

-- the value of a key, where these variables are visible
abbrev pub key_column : List ℕ → Key → Expr
key_column vs k = value_expr (visible_column vs) k.condition

-- the columns of a query's answer: the selected variables, and behind them the keys
abbrev pub answer_columns : Query → List Expr
answer_columns query =
    let vs = visible (algebra_of query) in
    map (visible_column vs) (selected_variables query) ++ map (key_column vs) query.keys

abbrev pub answer_width : Query → ℕ
answer_width query = length (selected_variables query) + length query.keys

-- SPARQL 1.1, 18.5, Join: the pairs that agree
abbrev pub join_plan : Mode → List ℕ → List ℕ → Plan → Plan → Plan
join_plan mode vs ws p q = Project (merged_columns mode vs ws) (Join (plans (p ∷ q ∷ [])) (and_of (agreement mode vs ws)))

-- SPARQL 1.1, 18.5, LeftJoin: the pairs that agree and pass, and each row of the left without one
abbrev pub left_plan : Mode → List ℕ → List ℕ → Option Condition → Plan → Plan → Plan
left_plan mode vs ws c p q =
    Project (merged_columns mode vs ws) (Left p q (and_of (agreement mode vs ws ++ condition_of (merged mode vs ws) c)))

-- a variable that both may have is bound in both
abbrev pub both_there : Mode → List ℕ → List ℕ → ℕ → Expr
both_there mode vs ws v = and_of (Not (IsNull (left_column vs v)) ∷ Not (IsNull (right_column mode vs ws v)) ∷ [])

-- the graphs agree, and shared variables, and one of these is bound in both
abbrev pub overlap : Mode → List ℕ → List ℕ → List Expr
overlap mode vs ws =
    if_each mode (Same (Col (length vs)) (Col (columns_in mode vs + length ws)))
    ++ map (λ v. or_null (left_column vs v) (right_column mode vs ws v)) (filter (has ws) vs)
    ++ or_of (map (both_there mode vs ws) (filter (has ws) vs)) ∷ []

-- SPARQL 1.1, 18.5, Minus: the rows of the left for which none of the right agrees and has a variable in common
abbrev pub minus_plan : Mode → List ℕ → List ℕ → Plan → Plan → Plan
minus_plan mode vs ws p q = if list_any (has ws) vs then AntiJoin p q (and_of (overlap mode vs ws)) else p

-- SPARQL 1.1, 18.2.2.6, the data of VALUES: a row of constants for each of its rows, in which UNDEF is NULL
abbrev pub value_const : Option Term → Expr
value_const None = null_term
value_const (Some t) = term_const t

-- the value of a variable in a row, at its first place
abbrev pub row_term : List ℕ → List (Option Term) → ℕ → Option Term
row_term (v ∷ vs) (t ∷ ts) w = if nat_eq v w then t else row_term vs ts w
row_term vs ts w = None

abbrev pub row_plan : List ℕ → List (Option Term) → Plan
row_plan vs row = Project (map (λ v. value_const (row_term vs row v)) (each_once vs)) Unit

abbrev pub all_plan : ℕ → List Plan → Plan
all_plan n [] = Empty (replicate n kind.Term)
all_plan n (p ∷ ps) = UnionAll (plans (p ∷ ps))

abbrev pub table_plan : List ℕ → List (List (Option Term)) → Plan
table_plan vs rows = all_plan (length (each_once vs)) (map (row_plan vs) rows)

-- SPARQL 1.1, 18.5, Extend: the variable has the value; NULL where that is an error
abbrev pub extend_column : List ℕ → ℕ → Condition → ℕ → Expr
extend_column vs v c w = if nat_eq v w then value_expr (visible_column vs) c else visible_column vs w

abbrev pub extend_plan : Mode → List ℕ → ℕ → Condition → Plan → Plan
extend_plan mode vs v c p = Project (map (extend_column vs v c) (each_once (vs ++ v ∷ [])) ++ if_each mode (Col (length vs))) p

-- SPARQL 1.1, 18.5, Union: the rows of both over the variables of both
abbrev pub union_member : Mode → List ℕ → List ℕ → Plan → Plan
union_member mode all vs p = Project (map (visible_column vs) all ++ if_each mode (Col (length vs))) p

abbrev pub union_plan : Mode → List ℕ → List ℕ → Plan → Plan → Plan
union_plan mode vs ws p q =
    let all = each_once (vs ++ ws) in
    UnionAll (plans (union_member mode all vs p ∷ union_member mode all ws q ∷ []))

-- a plan without graphs after a plan of graphs' names, or of none
abbrev pub after : Plan → List ℕ → ℕ → Plan → Plan
after first vs n p =
    Project (map (column vs n) vs ++ map Col (if nat_eq n 0 then [] else 0 ∷ []))
    (Join (plans (first ∷ p ∷ [])) (truth_const true))

-- GRAPH with a variable, of a plan in mode each: the variable has the graph's name
abbrev pub graph_column : List ℕ → ℕ → ℕ → Expr
graph_column vs v w = if nat_eq v w then Col (length vs) else left_column vs w

-- where the variable is bound inside, too, to the same name
abbrev pub in_its_graph : List ℕ → ℕ → Plan → Plan
in_its_graph vs v p =
    if has vs v then Select (or_of (IsNull (left_column vs v) ∷ Same (left_column vs v) (Col (length vs)) ∷ [])) p else p

abbrev pub each_graph : List ℕ → ℕ → Plan → Plan
each_graph vs v p = Project (map (graph_column vs v) (each_once (v ∷ vs))) (in_its_graph vs v p)

abbrev pub is_pattern : Algebra → Bool
is_pattern (Bgp (p ∷ ps)) = true
is_pattern a = false

module _ (schema : Tables) (rules : List RowRule) where
  -- in outer mode each a plan without graphs is joined after the graphs' names
  abbrev pub in_mode : Mode → List ℕ → Plan → Plan
  in_mode Each vs p = after (names_plan schema rules) vs 1 p
  in_mode mode vs p = p

  -- GRAPH with an IRI: a pattern has no solution in a graph that is not there
  abbrev pub named_graph : Algebra → List ℕ → Plan → Plan
  named_graph a i p = if is_pattern a then p else after (exists_plan schema rules i) (visible a) 0 p

  abbrev pub unfolded : Algebra → Mode → Plan
  unfolded (Bgp ps) mode = bgp_plan schema rules mode ps
  unfolded (algebra.Join a b) mode = join_plan mode (visible a) (visible b) (unfolded a mode) (unfolded b mode)
  unfolded (LeftJoin a b c) mode = left_plan mode (visible a) (visible b) c (unfolded a mode) (unfolded b mode)
  unfolded (algebra.Union a b) mode = union_plan mode (visible a) (visible b) (unfolded a mode) (unfolded b mode)
  unfolded (Filter c a) mode = Select (truth_expr (visible_column (visible a)) c) (unfolded a mode)
  unfolded (Minus a b) mode = minus_plan mode (visible a) (visible b) (unfolded a mode) (unfolded b mode)
  unfolded (Table vs rows) mode = in_mode mode (each_once vs) (table_plan vs rows)
  unfolded (Extend a v c) mode = extend_plan mode (visible a) v c (unfolded a mode)
  unfolded (Graph (name.Named i) a) mode = in_mode mode (visible a) (named_graph a i (unfolded a (InGraph i)))
  unfolded (Graph (name.Each v) a) mode = in_mode mode (each_once (v ∷ visible a)) (each_graph (visible a) v (unfolded a Each))

  -- the plan of a query before any rewriting
  abbrev pub start_plan : Query → Plan
  start_plan query =
      let p = Project (answer_columns query) (unfolded (algebra_of query) Default) in
      if query.distinct then Distinct p else p
