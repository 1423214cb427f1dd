-- The kinds of the columns of plans: terms.
use Rattle.std.proofs.Common.{◌≡◌, ◌∙◌, ℕ, ◌+◌, Bool, true, false, List, [], ◌∷◌, ◌++◌, map, length, refl, sym, ap, append-nil, length-append}
use Rattle.std.specs.Prelude.{IfSome, Option, Some, None, replicate, slice_get, flat_map, filter_map, find, if◌then◌else◌, option_and_then}
use Rattle.std.specs.List.{AllByRecursion}
use Rattle.std.specs.Cmp.Lexicographic.{pointwise}
use Rattle.std.proofs.lemmas.List.{length-map, map-append}
use Rattle.std.proofs.lemmas.Option.{none-some}
use Rattle.vkg_lists.proofs.Each.{recursion_map_weaken, recursion_flat_map, recursion_distinct, recursion_filter_map, recursion_find}
use Rattle.vkg_lists.proofs.Members.{recursion_append}
use Rattle.vkg_lists.specs.Options.{with_first}
use Rattle.vkg_lists.specs.Sets.{distinct}
use Rattle.vkg_lists.proofs.Heads.{list_all-replicate, slice_get-behind}
use Rattle.vkg_lists.proofs.Distinct.{distinct_map_on}
use Rattle.vkg_cells.specs.declared.cell.SqlType.{SqlType}
use Rattle.vkg_cells.specs.declared.cell.SqlType.TheVariants as kind
use Rattle.vkg_maps.specs.declared.quad_rule.Join.{Join as ParentJoin}
use Rattle.vkg_terms.specs.declared.term.Term.TheVariants.{Iri}
use Rattle.vkg_terms.specs.Same.{term_eq}
use Rattle.vkg_sparql.specs.declared.pattern.Node.{Node}
use Rattle.vkg_sparql.specs.declared.pattern.Node.TheVariants.{Variable, Label, Fixed}
use Rattle.vkg_sparql.specs.declared.pattern.TriplePattern.{TriplePattern}
use Rattle.vkg_expr.specs.declared.term_expr.TermExpr.{TermExpr}
use Rattle.vkg_expr.specs.declared.term_expr.TermExpr.TheVariants as form
use Rattle.vkg_expr.specs.Expr.{Expr, Col, Same, Not, IsNull, exprs}
use Rattle.vkg_expr.specs.Logic.{and_of}
use Rattle.vkg_expr.specs.TermExprs.{term_const, term_expr}
use Rattle.vkg_expr.specs.Typing.{equality_kind, is_one, kinds_of, same_kind}
use Rattle.vkg_expr.proofs.TypedParts.{equality_given}
use Rattle.vkg_plan.specs.Kinds.{Kinds, Tables, alike, beside_all, checked, kinds_of_each, plan_kinds}
use Rattle.vkg_plan.specs.Plan.{Plan, Project, plans}
use Rattle.vkg_plan.proofs.KindLists.{themselves}
use Rattle.vkg_match.specs.Verdict.{Verdict, Never, All, verdict_of}
use Rattle.vkg_row_rules.specs.declared.row_rule.RowRule.{RowRule}
use Rattle.vkg_row_rules.specs.RowDataset.{conditions}
use Rattle.vkg_unfolded.specs.declared.mode.Mode.{Mode}
use Rattle.vkg_unfolded.specs.declared.mode.Mode.TheVariants.{Default, InGraph, Each}
use Rattle.vkg_unfolded.specs.FittingRules.{AreFitting, FitsCondition, FitsGraph, FitsJoin, FitsTerm, IsFitting, IsTable, rule_kinds}
use Rattle.vkg_unfolded.specs.Unfolded.{Name, Named, again, constants, default_graph, exists_plan, graph_exprs, graph_terms, graph_test, if_each, name_eq, named, names_plan, node_names, not_null, pattern_member, pattern_names, pattern_places, pattern_plan, places, repeats, rule_member, rule_source, same_name, source_plan, union_of, unless_never, names_member, exists_member}
use Rattle.vkg_unfolded.proofs.TermKinds.{IsTerm, IsTruth, and_truth, kinds_each, known_truth, not_truth, rule_term, same_truth, wider_term, get_wider}
use Rattle.vkg_maps.specs.Within.{kinds_at}

-- ---- the rows of a rule

pub checked_truth : (c : Expr) (ks : Kinds) → IsTruth ks c → checked c (Some ks) ≡ Some ks
checked_truth c ks h = ap (λ o. if is_one kind.Bool o then Some ks else None) h

there : (ks ls : Kinds) (at : ℕ) (o : Option SqlType) → equality_kind (slice_get ks at) o ≡ Some kind.Bool → slice_get (ks ++ ls) at ≡ slice_get ks at
there ks ls at o h = let g = (equality_given (slice_get ks at) o kind.Bool h).0 in get_wider ks ls at g.0 g.1 ∙ sym g.1

conditions_truth : (schema : Tables) (child : ℕ) (join : ParentJoin) (ls : Kinds) → AllByRecursion (FitsCondition (kinds_at schema child) ls) join.conditions → AllByRecursion (IsTruth (kinds_at schema child ++ ls)) (conditions schema child join)
conditions_truth schema child join ls h =
    recursion_map_weaken (FitsCondition ks ls) (IsTruth (ks ++ ls)) (λ c. Same (Col c.0) (Col (c.1 + length ks)))
    (λ c k. (λ i. equality_kind (there ks ls c.0 (slice_get ls c.1) k i) (slice_get-behind ks ls (c.1 + length ks) c.1 refl i)) ∙ k) join.conditions h
  where
    ks : Kinds
    ks = kinds_at schema child

source_kinds : (schema : Tables) (table : ℕ) (o : Option ParentJoin) (cs : List Expr) → IsTable schema table → FitsJoin schema table o → AllByRecursion (IsTruth (rule_kinds schema table o)) cs →
    plan_kinds schema (source_plan schema table o cs) ≡ Some (rule_kinds schema table o)
source_kinds schema table None cs t j h = ap (checked (and_of cs)) t ∙ checked_truth (and_of cs) (kinds_at schema table) (and_truth (kinds_at schema table) cs h)
source_kinds schema table (Some join) cs t j h =
    (λ i. checked c (beside_all (with_first (t i) (with_first (j.0 i) (Some [])))))
    ∙ ap (λ l. checked c (Some (ks ++ l))) (append-nil ls)
    ∙ checked_truth c (ks ++ ls) (and_truth (ks ++ ls) (conditions schema table join ++ cs) (recursion_append (IsTruth (ks ++ ls)) (conditions schema table join) cs (conditions_truth schema table join ls j.1) h))
  where
    ks : Kinds
    ks = kinds_at schema table

    ls : Kinds
    ls = kinds_at schema join.table

    c : Expr
    c = and_of (conditions schema table join ++ cs)

-- the terms of a rule over its rows
pub record HasTerms (ks : Kinds) (rule : RowRule) : Type 0 where
  pub subject : IsTerm ks (term_expr rule.subject)
  pub predicate : IsTerm ks (term_expr rule.predicate)
  pub object : IsTerm ks (term_expr rule.object)
  pub graph : AllByRecursion (IsTerm ks) (graph_exprs rule)

wide : (schema : Tables) (table : ℕ) (o : Option ParentJoin) (t : TermExpr) → FitsTerm (kinds_at schema table) t → FitsTerm (rule_kinds schema table o) t
wide schema table None t h = h
wide schema table (Some join) t h = wider_term (kinds_at schema table) (kinds_at schema join.table) t h

graph_fits : (schema : Tables) (table : ℕ) (o : Option ParentJoin) (g : Option TermExpr) → FitsGraph (kinds_at schema table) g → AllByRecursion (IsTerm (rule_kinds schema table o)) (graph_terms g)
graph_fits schema table o None h = tt
graph_fits schema table o (Some g) h = (rule_term (rule_kinds schema table o) g (wide schema table o g h), tt)

abbrev pub kinds_of_rule : Tables → RowRule → Kinds
kinds_of_rule schema rule = rule_kinds schema rule.table rule.join

rule_terms : (schema : Tables) (rule : RowRule) → IsFitting schema rule → HasTerms (kinds_of_rule schema rule) rule
rule_terms schema rule h = record {
  subject = rule_term (kinds_of_rule schema rule) rule.subject (wide schema rule.table rule.join rule.subject h.subject);
  predicate = rule_term (kinds_of_rule schema rule) rule.predicate (wide schema rule.table rule.join rule.predicate h.predicate);
  object = rule_term (kinds_of_rule schema rule) rule.object h.object;
  graph = graph_fits schema rule.table rule.join rule.graph h.graph;
}

not_null_truth : (ks : Kinds) (rule : RowRule) → HasTerms ks rule → AllByRecursion (IsTruth ks) (not_null rule)
not_null_truth ks rule h =
    recursion_map_weaken (IsTerm ks) (IsTruth ks) (λ e. Not (IsNull e)) (λ e k. known_truth ks e k)
    (term_expr rule.subject ∷ term_expr rule.predicate ∷ term_expr rule.object ∷ graph_exprs rule)
    (h.subject, (h.predicate, (h.object, h.graph)))

-- ---- the graph's test

default_term : (ks : Kinds) → IsTerm ks (term_const default_graph)
default_term ks = refl

test_truth : (ks : Kinds) (mode : Mode) (g : Option TermExpr) → AllByRecursion (IsTerm ks) (graph_terms g) → IfSome (graph_test mode g) (AllByRecursion (IsTruth ks))
test_truth ks Default None h = tt
test_truth ks Default (Some g) h = (same_truth ks (term_expr g) (term_const default_graph) h.0 refl, tt)
test_truth ks (InGraph i) None h = tt
test_truth ks (InGraph i) (Some g) h = by (term_eq (Iri i) default_graph)
  where
    by : (b : Bool) → IfSome (if b then None else Some (Same (term_expr g) (term_const (Iri i)) ∷ [])) (AllByRecursion (IsTruth ks))
    by true = tt
    by false = (same_truth ks (term_expr g) (term_const (Iri i)) h.0 refl, tt)
test_truth ks Each None h = tt
test_truth ks Each (Some g) h = by (verdict_of g (form.Fixed default_graph))
  where
    by : (v : Verdict) → AllByRecursion (IsTruth ks) (unless_never g v)
    by Never = tt
    by (All es) = (not_truth ks (Same (term_expr g) (term_const default_graph)) (same_truth ks (term_expr g) (term_const default_graph) h.0 refl), tt)

-- ---- members and their union

abbrev pub HasTermKinds : Tables → ℕ → Plan → Type 0
HasTermKinds schema n p = plan_kinds schema p ≡ Some (replicate n kind.Term)

pub project_kinds : (schema : Tables) (es : List Expr) (p : Plan) (ks : Kinds) → plan_kinds schema p ≡ Some ks → AllByRecursion (IsTerm ks) es → HasTermKinds schema (length es) (Project es p)
project_kinds schema es p ks h k = ap (option_and_then (kinds_of (exprs es))) h ∙ kinds_each kind.Term ks es k

member_kinds : (schema : Tables) (rule : RowRule) (es test cs : List Expr) → IsFitting schema rule → AllByRecursion (IsTerm (kinds_of_rule schema rule)) es → AllByRecursion (IsTruth (kinds_of_rule schema rule)) test → AllByRecursion (IsTruth (kinds_of_rule schema rule)) cs →
    HasTermKinds schema (length es) (Project es (rule_source schema rule (not_null rule ++ test ++ cs)))
member_kinds schema rule es test cs h terms tests k =
    project_kinds schema es (rule_source schema rule (not_null rule ++ test ++ cs)) ks
    (source_kinds schema rule.table rule.join (not_null rule ++ test ++ cs) h.table h.join
    (recursion_append (IsTruth ks) (not_null rule ++ test) cs (recursion_append (IsTruth ks) (not_null rule) test (not_null_truth ks rule (rule_terms schema rule h)) tests) k))
    terms
  where
    ks : Kinds
    ks = kinds_of_rule schema rule

members_alike : (schema : Tables) (n : ℕ) (ps : List Plan) → AllByRecursion (HasTermKinds schema n) ps → kinds_of_each schema (plans ps) ≡ Some (replicate (length ps) (replicate n kind.Term))
members_alike schema n [] h = refl
members_alike schema n (p ∷ ps) h = λ i. with_first (h.0 i) (members_alike schema n ps h.1 i)

pub union_kinds : (schema : Tables) (n : ℕ) (p : Plan) (ps : List Plan) → AllByRecursion (HasTermKinds schema n) (p ∷ ps) → alike (kinds_of_each schema (plans (p ∷ ps))) ≡ Some (replicate n kind.Term)
union_kinds schema n p ps h =
    ap alike (members_alike schema n (p ∷ ps) h)
    ∙ ap (λ b. if b then Some (replicate n kind.Term) else None) (list_all-replicate (pointwise same_kind (replicate n kind.Term)) (length ps) (replicate n kind.Term) (themselves (replicate n kind.Term)))

union_of_kinds : (schema : Tables) (n : ℕ) (ps : List Plan) → AllByRecursion (HasTermKinds schema n) ps → HasTermKinds schema n (union_of n ps)
union_of_kinds schema n [] h = refl
union_of_kinds schema n (p ∷ ps) h = union_kinds schema n p ps h

-- ---- a triple pattern

-- a place's expression is a term
abbrev PlaceFits : Kinds → Node × Expr → Type 0
PlaceFits ks x = IsTerm ks x.1

abbrev NamedFits : Kinds → Named → Type 0
NamedFits ks x = IsTerm ks x.1

places_fit : (ks : Kinds) (p : TriplePattern) (rule : RowRule) → HasTerms ks rule → AllByRecursion (PlaceFits ks) (places p rule)
places_fit ks p rule h = (h.subject, (h.predicate, (h.object, tt)))

named_fits : (ks : Kinds) (x : Node × Expr) → PlaceFits ks x → AllByRecursion (NamedFits ks) (named x)
named_fits ks (Variable v, e) h = (h, tt)
named_fits ks (Label v, e) h = (h, tt)
named_fits ks (Fixed t, e) h = tt

constants_truth : (ks : Kinds) (x : Node × Expr) → PlaceFits ks x → AllByRecursion (IsTruth ks) (constants x)
constants_truth ks (Variable v, e) h = tt
constants_truth ks (Label v, e) h = tt
constants_truth ks (Fixed t, e) h = (same_truth ks (term_const t) e refl h, tt)

again_truth : (ks : Kinds) (x : Named) (o : Option Named) → NamedFits ks x → IfSome o (NamedFits ks) → AllByRecursion (IsTruth ks) (again x o)
again_truth ks x None h k = tt
again_truth ks x (Some y) h k = (same_truth ks x.1 y.1 h k, tt)

pub repeats_truth : (ks : Kinds) (before xs : List Named) → AllByRecursion (NamedFits ks) before → AllByRecursion (NamedFits ks) xs → AllByRecursion (IsTruth ks) (repeats before xs)
repeats_truth ks before [] h k = tt
repeats_truth ks before (x ∷ xs) h k =
    recursion_append (IsTruth ks) (again x (find (same_name x) before)) (repeats (before ++ x ∷ []) xs)
    (again_truth ks x (find (same_name x) before) k.0 (recursion_find (NamedFits ks) (same_name x) before h))
    (repeats_truth ks (before ++ x ∷ []) xs (recursion_append (NamedFits ks) before (x ∷ []) h (k.0, tt)) k.1)

hidden_fits : (ks : Kinds) (mode : Mode) (gs : List Expr) → AllByRecursion (IsTerm ks) gs → AllByRecursion (NamedFits ks) (flat_map (λ g. if_each mode (None, g)) gs)
hidden_fits ks Default gs h = recursion_flat_map (IsTerm ks) (NamedFits ks) (λ g. []) (λ g k. tt) gs h
hidden_fits ks (InGraph i) gs h = recursion_flat_map (IsTerm ks) (NamedFits ks) (λ g. []) (λ g k. tt) gs h
hidden_fits ks Each gs h = recursion_flat_map (IsTerm ks) (NamedFits ks) (λ g. (None, g) ∷ []) (λ g k. (k, tt)) gs h

columns_fit : (ks : Kinds) (mode : Mode) (p : TriplePattern) (rule : RowRule) → HasTerms ks rule → AllByRecursion (NamedFits ks) (pattern_places mode p rule)
columns_fit ks mode p rule h =
    recursion_append (NamedFits ks) (distinct same_name (flat_map named (places p rule))) (flat_map (λ g. if_each mode (None, g)) (graph_exprs rule))
    (recursion_distinct (NamedFits ks) same_name (flat_map named (places p rule)) (recursion_flat_map (PlaceFits ks) (NamedFits ks) named (named_fits ks) (places p rule) (places_fit ks p rule h)))
    (hidden_fits ks mode (graph_exprs rule) h.graph)

pattern_conditions : (ks : Kinds) (p : TriplePattern) (rule : RowRule) → HasTerms ks rule → AllByRecursion (IsTruth ks) (flat_map constants (places p rule) ++ repeats [] (flat_map named (places p rule)))
pattern_conditions ks p rule h =
    recursion_append (IsTruth ks) (flat_map constants (places p rule)) (repeats [] (flat_map named (places p rule)))
    (recursion_flat_map (PlaceFits ks) (IsTruth ks) constants (constants_truth ks) (places p rule) (places_fit ks p rule h))
    (repeats_truth ks [] (flat_map named (places p rule)) tt (recursion_flat_map (PlaceFits ks) (NamedFits ks) named (named_fits ks) (places p rule) (places_fit ks p rule h)))

-- the number of columns
names_of : (x : Node × Expr) → map (λ (n : Named). n.0) (named x) ≡ node_names x.0
names_of (Variable v, e) = refl
names_of (Label v, e) = refl
names_of (Fixed t, e) = refl

pub names_of_places : (xs : List (Node × Expr)) → map (λ (n : Named). n.0) (flat_map named xs) ≡ flat_map node_names (map (λ (x : Node × Expr). x.0) xs)
names_of_places [] = refl
names_of_places (x ∷ xs) = map-append (λ (n : Named). n.0) (named x) (flat_map named xs) ∙ (λ i. names_of x i ++ names_of_places xs i)

hidden_one : (mode : Mode) (g : Option TermExpr) (test : List Expr) → graph_test mode g ≡ Some test → length (flat_map (λ e. if_each {X = Named} mode (None, e)) (graph_terms g)) ≡ length (if_each {X = Name} mode None)
hidden_one Default None test h = refl
hidden_one Default (Some g) test h = refl
hidden_one (InGraph i) None test h = refl
hidden_one (InGraph i) (Some g) test h = refl
hidden_one Each None test h = absurd (none-some test h)
hidden_one Each (Some g) test h = refl

columns_number : (mode : Mode) (p : TriplePattern) (rule : RowRule) (test : List Expr) → graph_test mode rule.graph ≡ Some test → length (map (λ (x : Named). x.1) (pattern_places mode p rule)) ≡ length (pattern_names mode p)
columns_number mode p rule test h =
    length-map (pattern_places mode p rule) (λ (x : Named). x.1)
    ∙ length-append (distinct same_name all) hidden
    ∙ (λ i. same i + hidden_one mode rule.graph test h i)
    ∙ sym (length-append (distinct name_eq nodes) (if_each mode None))
  where
    all : List Named
    all = flat_map named (places p rule)

    hidden : List Named
    hidden = flat_map (λ g. if_each mode (None, g)) (graph_exprs rule)

    nodes : List Name
    nodes = flat_map node_names (p.subject ∷ p.predicate ∷ p.object ∷ [])

    same : length (distinct same_name all) ≡ length (distinct name_eq nodes)
    same = sym (length-map (distinct same_name all) (λ (n : Named). n.0)) ∙ ap length (distinct_map_on same_name name_eq (λ (n : Named). n.0) all (λ x y c d. refl)) ∙ ap (λ l. length (distinct name_eq l)) (names_of_places (places p rule))

pattern_member_kinds : (schema : Tables) (mode : Mode) (p : TriplePattern) (rule : RowRule) → IsFitting schema rule → IfSome (pattern_member schema mode p rule) (HasTermKinds schema (length (pattern_names mode p)))
pattern_member_kinds schema mode p rule h = by (graph_test mode rule.graph) refl (test_truth ks mode rule.graph terms.graph)
  where
    ks : Kinds
    ks = kinds_of_rule schema rule

    terms : HasTerms ks rule
    terms = rule_terms schema rule h

    es : List Expr
    es = map (λ (x : Named). x.1) (pattern_places mode p rule)

    cs : List Expr
    cs = flat_map constants (places p rule) ++ repeats [] (flat_map named (places p rule))

    by : (o : Option (List Expr)) → graph_test mode rule.graph ≡ o → IfSome o (AllByRecursion (IsTruth ks)) → IfSome (rule_member schema rule es cs o) (HasTermKinds schema (length (pattern_names mode p)))
    by None e k = tt
    by (Some test) e k =
        member_kinds schema rule es test cs h (recursion_map_weaken (NamedFits ks) (IsTerm ks) (λ (x : Named). x.1) (λ x f. f) (pattern_places mode p rule) (columns_fit ks mode p rule terms)) k (pattern_conditions ks p rule terms)
        ∙ ap (λ n. Some (replicate n kind.Term)) (columns_number mode p rule test e)

module _ (schema : Tables) (rules : List RowRule) (fit : AreFitting schema rules) where
  pub pattern_plan_kinds : (mode : Mode) (p : TriplePattern) → HasTermKinds schema (length (pattern_names mode p)) (pattern_plan schema rules mode p)
  pattern_plan_kinds mode p = union_of_kinds schema (length (pattern_names mode p)) (filter_map (pattern_member schema mode p) rules)
      (recursion_filter_map (IsFitting schema) (HasTermKinds schema (length (pattern_names mode p))) (pattern_member schema mode p) (pattern_member_kinds schema mode p) rules fit)

  -- ---- the graphs' names

  one_graph : (ks : Kinds) (g : Option TermExpr) (test : List Expr) → graph_test Each g ≡ Some test → length (graph_terms g) ≡ 1
  one_graph ks None test h = absurd (none-some test h)
  one_graph ks (Some g) test h = refl

  names_member_kinds : (rule : RowRule) → IsFitting schema rule → IfSome (names_member schema rule) (HasTermKinds schema 1)
  names_member_kinds rule h = by (graph_test Each rule.graph) refl (test_truth ks Each rule.graph terms.graph)
    where
      ks : Kinds
      ks = kinds_of_rule schema rule

      terms : HasTerms ks rule
      terms = rule_terms schema rule h

      by : (o : Option (List Expr)) → graph_test Each rule.graph ≡ o → IfSome o (AllByRecursion (IsTruth ks)) → IfSome (rule_member schema rule (graph_exprs rule) [] o) (HasTermKinds schema 1)
      by None e k = tt
      by (Some test) e k =
          member_kinds schema rule (graph_exprs rule) test [] h terms.graph k tt
          ∙ ap (λ n. Some (replicate n kind.Term)) (one_graph ks rule.graph test e)

  pub names_plan_kinds : HasTermKinds schema 1 (names_plan schema rules)
  names_plan_kinds = union_of_kinds schema 1 (filter_map (names_member schema) rules) (recursion_filter_map (IsFitting schema) (HasTermKinds schema 1) (names_member schema) names_member_kinds rules fit)

  exists_member_kinds : (mode : Mode) (rule : RowRule) → IsFitting schema rule → IfSome (exists_member schema mode rule) (HasTermKinds schema 0)
  exists_member_kinds mode rule h = by (graph_test mode rule.graph) (test_truth ks mode rule.graph terms.graph)
    where
      ks : Kinds
      ks = kinds_of_rule schema rule

      terms : HasTerms ks rule
      terms = rule_terms schema rule h

      by : (o : Option (List Expr)) → IfSome o (AllByRecursion (IsTruth ks)) → IfSome (rule_member schema rule [] [] o) (HasTermKinds schema 0)
      by None k = tt
      by (Some test) k = member_kinds schema rule [] test [] h tt k tt

  pub exists_plan_kinds : (i : List ℕ) → HasTermKinds schema 0 (exists_plan schema rules i)
  exists_plan_kinds i = union_of_kinds schema 0 (filter_map (exists_member schema (InGraph i)) rules) (recursion_filter_map (IsFitting schema) (HasTermKinds schema 0) (exists_member schema (InGraph i)) (exists_member_kinds (InGraph i)) rules fit)
