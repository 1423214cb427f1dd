-- What a tree of the grammar of queries names is numbered, and its terms are narrow, where its tokens are so.
use Rattle.std.proofs.Common.{◌≡◌, ℕ, Bool, true, false, List, [], ◌∷◌, ◌++◌, fold, map, flat_map, Option, refl, sym, subst}
use Rattle.std.specs.List.{AllByRecursion}
use Rattle.vkg_lists.proofs.Members.{recursion_append, recursion_left, recursion_right}
use Rattle.vkg_grammar.specs.Trees.{Tree, pair, first, second, present}
use Rattle.vkg_terms.specs.declared.term.Term.{Term}
use Rattle.vkg_terms.specs.declared.term.Term.TheVariants.{Iri}
use Rattle.vkg_sparql.specs.declared.condition.Condition.{Condition as ConditionValue}
use Rattle.vkg_sparql.specs.declared.grammar_table.TheConstants.{SPARQL}
use Rattle.vkg_sparql.specs.declared.meaning.Meaning.{Meaning}
use Rattle.vkg_sparql.specs.declared.meaning.Meaning.TheVariants as meaning
use Rattle.vkg_sparql.specs.declared.meaning.TripleTokens.{TripleTokens}
use Rattle.vkg_sparql.specs.declared.pattern.Node.{Node}
use Rattle.vkg_sparql.specs.declared.pattern.Node.TheVariants as node
use Rattle.vkg_sparql.specs.declared.symbols.TheConstants.{SELECTION, TOKEN_VAR, SELECTION_1, GROUP, BLOCK, SAME, ITEM, PLIST, VERB, OLIST, OBJECT, TOKEN_OPEN_BRACKET, OBJECT_1, OLIST_2, PLIST_2, PLIST_4, SAME_5, GROUP_1, PART, NAME, PART_3, FILTER, BRACKETED, OR, AND, REL, UNARY, PRIMARY, CALL, CALL_3, CALL_7, PRIMARY_FROM_3, REL_2, AND_2, OR_2, PART_6, PART_7, PART_FROM_2, PART_FROM_4, PART_FROM_5, PART_12, TABLE, TABLE_1, TABLE_4, TABLE_5, TABLE_10, VALUE, GROUP_5, KEY, KEY_FROM_3, ORDER_1, ORDER_2, FORM, FORM_5, FORM_7, FORM_11, SOLUTIONS, SOLUTIONS_2}
use Rattle.vkg_sparql.specs.declared.query.Form.{Form}
use Rattle.vkg_sparql.specs.declared.query.Form.TheVariants.{Select, Construct}
use Rattle.vkg_sparql.specs.declared.query.Key.{Key}
use Rattle.vkg_sparql.specs.declared.query.Part.{Part as PartValue}
use Rattle.vkg_sparql.specs.declared.query.Query.{Query}
use Rattle.vkg_sparql.specs.declared.query.Selected.{Selected}
use Rattle.vkg_sparql.specs.declared.query.Selected.TheVariants.{All}
use Rattle.vkg_sparql.specs.Conditions.{or_joined, and_joined, negated, bound_value, operand_value, or_value, or_more, and_value, and_more, rel_value, rel_more, unary_value, primary_value, bracketed, call_value, two_value, filter_value}
use Rattle.vkg_sparql.specs.Groups.{patterns_of, block_parts, no_part, bind_value, group_value, parts_value, part_value, other_value, later_value, last_value, graph_value, union_value, groups_value, selection_value, is_distinct, solutions_value, select_value, ask_value, construct_value, form_value, query_value}
use Rattle.vkg_sparql.specs.Lawful.{condition_nodes, patterns_nodes, name_node, value_nodes, rows_nodes, part_nodes, group_nodes, unions_nodes, form_nodes, selected_nodes, keys_nodes, query_nodes}
use Rattle.vkg_sparql.specs.Meanings.{first_token, meaning_at, node_of, number_of, numbers_value, term_if, operand_of, compare_of, applied, applied_to_two, name_of}
use Rattle.vkg_sparql.specs.declared.query.Part.TheVariants as part
use Rattle.vkg_sparql.specs.Orders.{bracketed_key, key_value, keys_value, order_value}
use Rattle.vkg_sparql.specs.Query.{Condition, And, Or, Part}
use Rattle.vkg_sparql.specs.Seen.{condition_seen, group_seen, key_seen, part_seen, unions_seen, query_seen}
use Rattle.vkg_sparql.specs.Tables.{data_value, row_value, column_value, rows_value, column_table, rows_table, table_value}
use Rattle.vkg_sparql.specs.Triples.{plist_value, plist_more, verb_value, olist_value, olist_more, object_value, inner_value, bracket_value, same_value, block_value, block_triples}
use Rattle.vkg_sparql.proofs.Made.{IsToken, Has, leads, lead}
use Rattle.vkg_sparql.proofs.Numbering.{Marked}
use Rattle.vkg_sparql.proofs.SeenForms.{seen-Variable, seen-Constant, seen-Bound, seen-Test, seen-Take, seen-Compare, seen-SameTerm, seen-Not, seen-And, seen-Or, seen-Triples, seen-Filter, seen-Optional, seen-Graph, seen-Groups, seen-Minus, seen-Values, seen-Bind}
use Rattle.vkg_sparql.proofs.Standing.{IsGiven, IsNode, IsOperand, IsVariable, is_node_kind, is_operand_kind, is_variable_kind}
use Rattle.vkg_cells.specs.WellTyped.{is_wide_number}

-- a node whose number is that of a key of its kind, or whose term is narrow
abbrev pub Fits : List (List ℕ) → Node → Type 0
Fits keys (node.Variable n) = Marked keys n true
Fits keys (node.Label n) = Marked keys n false
Fits keys (node.Fixed t) = is_wide_number t ≡ false

module _ (keys : List (List ℕ)) where
  abbrev pub Good : List Node → Type 0
  Good xs = AllByRecursion (Fits keys) xs

  fits_node : (m : Meaning) → IsNode keys m → Fits keys (node_of m)
  fits_node (meaning.Variable n) h = h
  fits_node (meaning.Label n) h = h
  fits_node (meaning.Fixed t) h = h
  fits_node m h = absurd (h)

  fits_number : (m : Meaning) → IsVariable keys m → Marked keys (number_of m) true
  fits_number (meaning.Variable n) h = h
  fits_number m h = absurd (h)

  fits_name : (m : Meaning) → IsOperand keys m → Fits keys (name_node (name_of m))
  fits_name (meaning.Variable n) h = h
  fits_name (meaning.Fixed t) h = fixed t
    where
      fixed : (t : _) → Fits keys (name_node (name_of (meaning.Fixed t)))
      fixed (Iri iri) = refl
      fixed t = refl
  fits_name m h = absurd (h)

  -- ---- conditions

  abbrev GoodCondition : ConditionValue → Type 0
  GoodCondition c = Good (condition_nodes (condition_seen c))

  abbrev GoodConditions : List ConditionValue → Type 0
  GoodConditions cs = AllByRecursion GoodCondition cs

  by_seen : (c : ConditionValue) {s : Condition} → condition_seen c ≡ s → Good (condition_nodes s) → GoodCondition c
  by_seen c e h = subst (λ x. Good (condition_nodes x)) (sym e) h

  fits_operand : (m : Meaning) → IsOperand keys m → GoodCondition (operand_of m)
  fits_operand (meaning.Variable n) h = by_seen _ (seen-Variable n) (h, tt)
  fits_operand (meaning.Fixed t) h = by_seen _ (seen-Constant t) (h, tt)
  fits_operand m h = absurd (h)

  good_chain : (join : Condition → Condition → Condition) → ((a b : Condition) → Good (condition_nodes a) → Good (condition_nodes b) → Good (condition_nodes (join a b))) → (cs : List ConditionValue) (a : Condition) → Good (condition_nodes a) → GoodConditions cs → Good (condition_nodes (fold join a (map condition_seen cs)))
  good_chain join f [] a h k = h
  good_chain join f (c ∷ cs) a h k = good_chain join f cs (join a (condition_seen c)) (f a (condition_seen c) h k.0) k.1

  good_or_joined : (c : ConditionValue) (cs : List ConditionValue) → GoodCondition c → GoodConditions cs → GoodCondition (or_joined c cs)
  good_or_joined c [] h k = h
  good_or_joined c (d ∷ ds) h k = by_seen _ (seen-Or c (d ∷ ds)) (good_chain Or (λ a b. recursion_append (Fits keys) (condition_nodes a) (condition_nodes b)) (d ∷ ds) (condition_seen c) h k)

  good_and_joined : (c : ConditionValue) (cs : List ConditionValue) → GoodCondition c → GoodConditions cs → GoodCondition (and_joined c cs)
  good_and_joined c [] h k = h
  good_and_joined c (d ∷ ds) h k = by_seen _ (seen-And c (d ∷ ds)) (good_chain And (λ a b. recursion_append (Fits keys) (condition_nodes a) (condition_nodes b)) (d ∷ ds) (condition_seen c) h k)

  good_negated : (b : Bool) (c : ConditionValue) → GoodCondition c → GoodCondition (negated b c)
  good_negated true c h = by_seen _ (seen-Not c) h
  good_negated false c h = h

  good_applied : (m : Meaning) (c : ConditionValue) → GoodCondition c → GoodCondition (applied m c)
  good_applied (meaning.Test op) c h = by_seen _ (seen-Test op c) h
  good_applied (meaning.Take op) c h = by_seen _ (seen-Take op c) h
  good_applied m c h = by_seen _ (seen-Not c) h

  good_applied_to_two : (m : Meaning) (c d : ConditionValue) → GoodCondition c → GoodCondition d → GoodCondition (applied_to_two m c d)
  good_applied_to_two (meaning.Compare op) c d h k = by_seen _ (seen-Compare op c d) (recursion_append (Fits keys) (condition_nodes (condition_seen c)) (condition_nodes (condition_seen d)) h k)
  good_applied_to_two m c d h k = by_seen _ (seen-SameTerm c d) (recursion_append (Fits keys) (condition_nodes (condition_seen c)) (condition_nodes (condition_seen d)) h k)

  module _ (ks : List ℕ) (start : ℕ) (ms : List Meaning)
      (node_at : (i k : ℕ) → IsToken SPARQL ks start k i → is_node_kind k ≡ true → IsNode keys (meaning_at ms i))
      (operand_at : (i k : ℕ) → IsToken SPARQL ks start k i → is_operand_kind k ≡ true → IsOperand keys (meaning_at ms i))
      (variable_at : (i k : ℕ) → IsToken SPARQL ks start k i → is_variable_kind k ≡ true → IsVariable keys (meaning_at ms i))
      (given_at : (i k : ℕ) → IsToken SPARQL ks start k i → IsGiven keys (meaning_at ms i)) where
    -- the tree is one of the symbol n
    abbrev Of : Tree → ℕ → Type 0
    Of t n = Has SPARQL ks start t n

    abbrev Fit : ℕ → Type 0
    Fit i = Fits keys (node_of (meaning_at ms i))

    -- the first token of a tree of a symbol that is made of choices between tokens
    node_first : (t : Tree) (n : ℕ) → leads SPARQL ks start 9 is_node_kind n ≡ true → Of t n → Fit (first_token t)
    node_first t n e h = let l = lead SPARQL ks start 9 is_node_kind t n e h in fits_node (meaning_at ms (first_token t)) (node_at (first_token t) l.kind l.token l.passes)

    operand_first : (t : Tree) (n : ℕ) → leads SPARQL ks start 9 is_operand_kind n ≡ true → Of t n → IsOperand keys (meaning_at ms (first_token t))
    operand_first t n e h = let l = lead SPARQL ks start 9 is_operand_kind t n e h in operand_at (first_token t) l.kind l.token l.passes

    variable_first : (t : Tree) (n : ℕ) → leads SPARQL ks start 9 is_variable_kind n ≡ true → Of t n → Marked keys (number_of (meaning_at ms (first_token t))) true
    variable_first t n e h = let l = lead SPARQL ks start 9 is_variable_kind t n e h in fits_number (meaning_at ms (first_token t)) (variable_at (first_token t) l.kind l.token l.passes)

    -- ---- the expression of a filter

    good_bound : (t : Tree) → Of t CALL_3 → GoodCondition (bound_value ms t)
    good_bound (pair word (pair left (pair v right))) h = by_seen _ (seen-Bound (number_of (meaning_at ms (first_token v)))) (variable_first v TOKEN_VAR refl h.1.1.0, tt)
    good_bound (pair word (pair left t)) h = absurd (h.1.1)
    good_bound (pair word t) h = absurd (h.1)
    good_bound t h = absurd (h)

    good_operand : (t : Tree) → Of t PRIMARY_FROM_3 → GoodCondition (operand_value ms t)
    good_operand t h = fits_operand (meaning_at ms (first_token t)) (operand_first t PRIMARY_FROM_3 refl h)

    mutual
      good_or_value : (t : Tree) → Of t OR → GoodCondition (or_value ms t)
      good_or_value (pair a more) h = good_or_joined (and_value ms a) (or_more ms more) (good_and_value a h.0) (good_or_more more h.1)
      good_or_value t h = absurd (h)

      good_or_more : (t : Tree) → Of t OR_2 → GoodConditions (or_more ms t)
      good_or_more (pair (pair sign a) more) h = (good_and_value a h.0.1, good_or_more more h.1)
      good_or_more t h = tt

      good_and_value : (t : Tree) → Of t AND → GoodCondition (and_value ms t)
      good_and_value (pair a more) h = good_and_joined (rel_value ms a) (and_more ms more) (good_rel_value a h.0) (good_and_more more h.1)
      good_and_value t h = absurd (h)

      good_and_more : (t : Tree) → Of t AND_2 → GoodConditions (and_more ms t)
      good_and_more (pair (pair sign a) more) h = (good_rel_value a h.0.1, good_and_more more h.1)
      good_and_more t h = tt

      good_rel_value : (t : Tree) → Of t REL → GoodCondition (rel_value ms t)
      good_rel_value (pair a more) h = good_rel_more (unary_value ms a) more (good_unary a h.0) h.1
      good_rel_value t h = absurd (h)

      good_rel_more : (c : ConditionValue) (t : Tree) → GoodCondition c → Of t REL_2 → GoodCondition (rel_more ms c t)
      good_rel_more c (first (pair sign b)) g h =
          by_seen _ (seen-Compare (compare_of (meaning_at ms (first_token sign))) c (unary_value ms b)) (recursion_append (Fits keys) (condition_nodes (condition_seen c)) (condition_nodes (condition_seen (unary_value ms b))) g (good_unary b h.1))
      good_rel_more c t g h = g

      good_unary : (t : Tree) → Of t UNARY → GoodCondition (unary_value ms t)
      good_unary (pair mark a) h = good_negated (present mark) (primary_value ms a) (good_primary a h.1)
      good_unary t h = absurd (h)

      good_primary : (t : Tree) → Of t PRIMARY → GoodCondition (primary_value ms t)
      good_primary (first t) h = good_bracketed t h
      good_primary (second (first t)) h = good_call t h
      good_primary (second (second t)) h = good_operand t h
      good_primary t h = absurd (h)

      good_bracketed : (t : Tree) → Of t BRACKETED → GoodCondition (bracketed ms t)
      good_bracketed (pair left (pair a right)) h = good_or_value a h.1.0
      good_bracketed (pair left t) h = absurd (h.1)
      good_bracketed t h = absurd (h)

      good_call : (t : Tree) → Of t CALL → GoodCondition (call_value ms t)
      good_call (first t) h = good_bound t h
      good_call (second (first (pair word t))) h = good_two (first_token word) t h.1
      good_call (second (second (pair word t))) h = good_applied (meaning_at ms (first_token word)) (bracketed ms t) (good_bracketed t h.1)
      good_call t h = absurd (h)

      good_two : (word : ℕ) (t : Tree) → Of t CALL_7 → GoodCondition (two_value ms word t)
      good_two word (pair left (pair a (pair comma (pair b right)))) h = good_applied_to_two (meaning_at ms word) (or_value ms a) (or_value ms b) (good_or_value a h.1.0) (good_or_value b h.1.1.1.0)
      good_two word (pair left (pair a (pair comma t))) h = absurd (h.1.1.1)
      good_two word (pair left (pair a t)) h = absurd (h.1.1)
      good_two word (pair left t) h = absurd (h.1)
      good_two word t h = absurd (h)

    good_filter : (t : Tree) → Of t FILTER → GoodCondition (filter_value ms t)
    good_filter (first t) h = good_bracketed t h
    good_filter (second t) h = good_call t h
    good_filter t h = absurd (h)

    -- ---- triple patterns

    abbrev FitTokens : TripleTokens → Type 0
    FitTokens t = Fit t.subject × Fit t.predicate × Fit t.object

    abbrev AllFit : List TripleTokens → Type 0
    AllFit ts = AllByRecursion FitTokens ts

    good_patterns : (ts : List TripleTokens) → AllFit ts → Good (patterns_nodes (patterns_of ms ts))
    good_patterns [] h = tt
    good_patterns (t ∷ ts) h = (h.0.0, (h.0.1, (h.0.2, good_patterns ts h.1)))

    mutual
      fit_plist : (s : ℕ) (t : Tree) → Fit s → Of t PLIST → AllFit (plist_value s t)
      fit_plist s (pair verb (pair objects more)) f h = recursion_append FitTokens (olist_value s (first_token verb) objects) (plist_more s more) (fit_olist s (first_token verb) objects f (node_first verb VERB refl h.0) h.1.0) (fit_plist_more s more f h.1.1)
      fit_plist s t f h = tt

      fit_plist_more : (s : ℕ) (t : Tree) → Fit s → Of t PLIST_4 → AllFit (plist_more s t)
      fit_plist_more s (pair (pair semicolon t) more) f h = recursion_append FitTokens (verb_value s t) (plist_more s more) (fit_verb s t f h.0.1) (fit_plist_more s more f h.1)
      fit_plist_more s t f h = tt

      fit_verb : (s : ℕ) (t : Tree) → Fit s → Of t PLIST_2 → AllFit (verb_value s t)
      fit_verb s (first (pair verb objects)) f h = fit_olist s (first_token verb) objects f (node_first verb VERB refl h.0) h.1
      fit_verb s t f h = tt

      fit_olist : (s p : ℕ) (t : Tree) → Fit s → Fit p → Of t OLIST → AllFit (olist_value s p t)
      fit_olist s p (pair o more) f g h = recursion_append FitTokens (object_value s p o) (olist_more s p more) (fit_object s p o f g h.0) (fit_olist_more s p more f g h.1)
      fit_olist s p t f g h = tt

      fit_olist_more : (s p : ℕ) (t : Tree) → Fit s → Fit p → Of t OLIST_2 → AllFit (olist_more s p t)
      fit_olist_more s p (pair (pair comma o) more) f g h = recursion_append FitTokens (object_value s p o) (olist_more s p more) (fit_object s p o f g h.0.1) (fit_olist_more s p more f g h.1)
      fit_olist_more s p t f g h = tt

      fit_object : (s p : ℕ) (t : Tree) → Fit s → Fit p → Of t OBJECT → AllFit (object_value s p t)
      fit_object s p (first t) f g h = ((f, g, node_first t ITEM refl h), tt)
      fit_object s p (second (pair left (pair inner right))) f g h =
          let l : Fit (first_token left) = node_first left TOKEN_OPEN_BRACKET refl h.0 in
          ((f, g, l), fit_inner (first_token left) inner l h.1.0)
      fit_object s p t f g h = tt

      fit_inner : (s : ℕ) (t : Tree) → Fit s → Of t OBJECT_1 → AllFit (inner_value s t)
      fit_inner s (first t) f h = fit_plist s t f h
      fit_inner s t f h = tt

    fit_bracket : (s : ℕ) (t : Tree) → Fit s → Of t SAME_5 → AllFit (bracket_value s t)
    fit_bracket s (first (pair right list)) f h = fit_plist s list f h.1
    fit_bracket s (second (pair list (pair right more))) f h = recursion_append FitTokens (plist_value s list) (inner_value s more) (fit_plist s list f h.0) (fit_inner s more f h.1.1)
    fit_bracket s t f h = tt

    fit_same : (t : Tree) → Of t SAME → AllFit (same_value t)
    fit_same (first (pair item list)) h = fit_plist (first_token item) list (node_first item ITEM refl h.0) h.1
    fit_same (second (pair left rest)) h = fit_bracket (first_token left) rest (node_first left TOKEN_OPEN_BRACKET refl h.0) h.1
    fit_same t h = tt

    fit_block : (t : Tree) → Of t BLOCK → AllFit (block_value t)
    fit_block (pair same (first (pair dot (first more)))) h = recursion_append FitTokens (same_value same) (block_value more) (fit_same same h.0) (fit_block more h.1.1)
    fit_block (pair same t) h = fit_same same h.0
    fit_block t h = tt

    -- ---- tables

    good_given : (m : Meaning) → IsGiven keys m → Good (value_nodes (term_if m))
    good_given (meaning.Fixed t) h = (h, tt)
    good_given m h = tt

    good_data : (t : Tree) → Of t VALUE → Good (value_nodes (data_value ms t))
    good_data t h = let l = lead SPARQL ks start 9 (λ k. true) t VALUE refl h in good_given (meaning_at ms (first_token t)) (given_at (first_token t) l.kind l.token)

    good_row : (t : Tree) → Of t TABLE_1 → Good (flat_map value_nodes (row_value ms t))
    good_row (pair v more) h = recursion_append (Fits keys) (value_nodes (data_value ms v)) (flat_map value_nodes (row_value ms more)) (good_data v h.0) (good_row more h.1)
    good_row t h = tt

    good_column : (t : Tree) → Of t TABLE_1 → Good (rows_nodes (column_value ms t))
    good_column (pair v more) h =
        recursion_append (Fits keys) (flat_map value_nodes (data_value ms v ∷ [])) (rows_nodes (column_value ms more)) (recursion_append (Fits keys) (value_nodes (data_value ms v)) [] (good_data v h.0) tt) (good_column more h.1)
    good_column t h = tt

    good_rows : (t : Tree) → Of t TABLE_5 → Good (rows_nodes (rows_value ms t))
    good_rows (pair (pair left (pair vs right)) more) h = recursion_append (Fits keys) (flat_map value_nodes (row_value ms vs)) (rows_nodes (rows_value ms more)) (good_row vs h.0.1.0) (good_rows more h.1)
    good_rows t h = tt

    -- ---- groups

    abbrev GoodParts : List PartValue → Type 0
    GoodParts ps = Good (group_nodes (group_seen ps))

    good_parts_append : (ps qs : List PartValue) → GoodParts ps → GoodParts qs → GoodParts (ps ++ qs)
    good_parts_append [] qs h k = k
    good_parts_append (p ∷ ps) qs h k =
        recursion_append (Fits keys) (part_nodes (part_seen p)) (group_nodes (group_seen (ps ++ qs))) (recursion_left (Fits keys) (part_nodes (part_seen p)) (group_nodes (group_seen ps)) h)
        (good_parts_append ps qs (recursion_right (Fits keys) (part_nodes (part_seen p)) (group_nodes (group_seen ps)) h) k)

    by_part : (p : PartValue) {s : Part} → part_seen p ≡ s → Good (part_nodes s) → Good (part_nodes (part_seen p))
    by_part p e h = subst (λ x. Good (part_nodes x)) (sym e) h

    good_no_part : Good (part_nodes (part_seen no_part))
    good_no_part = by_part _ (seen-Triples []) tt

    good_block_parts : (t : Tree) → Of t GROUP_1 → GoodParts (block_parts ms t)
    good_block_parts (first t) h = recursion_append (Fits keys) (part_nodes (part_seen (part.Triples (patterns_of ms (block_value t))))) [] (by_part _ (seen-Triples (patterns_of ms (block_value t))) (good_patterns (block_value t) (fit_block t h))) tt
    good_block_parts t h = tt

    good_variables : (t : Tree) → Of t SELECTION_1 → Good (map node.Variable (numbers_value ms t))
    good_variables (pair v more) h = (variable_first v TOKEN_VAR refl h.0, good_variables more h.1)
    good_variables t h = tt

    -- the table of these variables and rows
    good_values : (vs : List ℕ) (rows : List (List (Option Term))) → Good (map node.Variable vs) → Good (rows_nodes rows) → Good (part_nodes (part_seen (part.Values vs rows)))
    good_values vs rows h k = by_part _ (seen-Values vs rows) (recursion_append (Fits keys) (map node.Variable vs) (rows_nodes rows) h k)

    good_column_table : (t : Tree) → Of t TABLE_4 → Good (part_nodes (part_seen (column_table ms t)))
    good_column_table (pair v (pair left (pair vs right))) h = good_values (number_of (meaning_at ms (first_token v)) ∷ []) (column_value ms vs) (variable_first v TOKEN_VAR refl h.0, tt) (good_column vs h.1.1.0)
    good_column_table t h = good_values [] [] tt tt

    good_rows_table : (t : Tree) → Of t TABLE_10 → Good (part_nodes (part_seen (rows_table ms t)))
    good_rows_table (pair left (pair vs (pair right (pair brace (pair rows close))))) h = good_values (numbers_value ms vs) (rows_value ms rows) (good_variables vs h.1.0) (good_rows rows h.1.1.1.1.0)
    good_rows_table t h = good_values [] [] tt tt

    good_table : (t : Tree) → Of t TABLE → Good (part_nodes (part_seen (table_value ms t)))
    good_table (first t) h = good_column_table t h
    good_table (second t) h = good_rows_table t h
    good_table t h = good_values [] [] tt tt

    good_bind : (t : Tree) → Of t PART_12 → Good (part_nodes (part_seen (bind_value ms t)))
    good_bind (pair word (pair left (pair c (pair as_ (pair v right))))) h =
        by_part _ (seen-Bind (or_value ms c) (number_of (meaning_at ms (first_token v)))) (variable_first v TOKEN_VAR refl h.1.1.1.1.0, good_or_value c h.1.1.0)
    good_bind t h = good_no_part

    mutual
      good_group : (t : Tree) → Of t GROUP → GoodParts (group_value ms t)
      good_group (pair left (pair block (pair more right))) h = good_parts_append (block_parts ms block) (parts_value ms more) (good_block_parts block h.1.0) (good_parts more h.1.1.0)
      good_group t h = tt

      good_parts : (t : Tree) → Of t GROUP_5 → GoodParts (parts_value ms t)
      good_parts (pair (pair p (pair dot block)) more) h =
          good_parts_append (part_value ms p ∷ block_parts ms block) (parts_value ms more)
          (recursion_append (Fits keys) (part_nodes (part_seen (part_value ms p))) (group_nodes (group_seen (block_parts ms block))) (good_part p h.0.0) (good_block_parts block h.0.1.1))
          (good_parts more h.1)
      good_parts t h = tt

      good_part : (t : Tree) → Of t PART → Good (part_nodes (part_seen (part_value ms t)))
      good_part (first (pair word g)) h = by_part _ (seen-Optional (group_value ms g)) (good_group g h.1)
      good_part (second t) h = good_other t h
      good_part t h = good_no_part

      good_other : (t : Tree) → Of t PART_FROM_2 → Good (part_nodes (part_seen (other_value ms t)))
      good_other (first t) h = good_graph t h
      good_other (second (first (pair word t))) h = by_part _ (seen-Filter (filter_value ms t)) (good_filter t h.1)
      good_other (second (second t)) h = good_later t h
      good_other t h = good_no_part

      good_later : (t : Tree) → Of t PART_FROM_4 → Good (part_nodes (part_seen (later_value ms t)))
      good_later (first t) h = good_union t h
      good_later (second t) h = good_last t h
      good_later t h = good_no_part

      good_last : (t : Tree) → Of t PART_FROM_5 → Good (part_nodes (part_seen (last_value ms t)))
      good_last (first (pair word g)) h = by_part _ (seen-Minus (group_value ms g)) (good_group g h.1)
      good_last (second (first t)) h = good_bind t h
      good_last (second (second (pair word t))) h = good_table t h.1
      good_last t h = good_no_part

      good_graph : (t : Tree) → Of t PART_3 → Good (part_nodes (part_seen (graph_value ms t)))
      good_graph (pair word (pair name g)) h =
          by_part _ (seen-Graph (name_of (meaning_at ms (first_token name))) (group_value ms g)) (fits_name (meaning_at ms (first_token name)) (operand_first name NAME refl h.1.0), good_group g h.1.1)
      good_graph t h = good_no_part

      good_union : (t : Tree) → Of t PART_7 → Good (part_nodes (part_seen (union_value ms t)))
      good_union (pair g more) h =
          by_part _ (seen-Groups (group_value ms g) (groups_value ms more)) (recursion_append (Fits keys) (group_nodes (group_seen (group_value ms g))) (unions_nodes (unions_seen (groups_value ms more))) (good_group g h.0) (good_groups more h.1))
      good_union t h = good_no_part

      good_groups : (t : Tree) → Of t PART_6 → Good (unions_nodes (unions_seen (groups_value ms t)))
      good_groups (pair (pair word g) more) h = recursion_append (Fits keys) (group_nodes (group_seen (group_value ms g))) (unions_nodes (unions_seen (groups_value ms more))) (good_group g h.0.1) (good_groups more h.1)
      good_groups t h = tt

    -- ---- the query

    good_selection : (t : Tree) → Of t SELECTION → Good (selected_nodes (selection_value ms t))
    good_selection (first (pair v more)) h = (variable_first v TOKEN_VAR refl h.0, good_variables more h.1)
    good_selection t h = tt

    good_bracketed_key : (t : Tree) → Of t KEY_FROM_3 → GoodCondition (bracketed_key ms t).condition
    good_bracketed_key (first t) h = good_bracketed t h
    good_bracketed_key (second (pair direction t)) h = good_bracketed t h.1
    good_bracketed_key (second t) h = absurd (h)
    good_bracketed_key t h = absurd (h)

    good_key : (t : Tree) → Of t KEY → GoodCondition (key_value ms t).condition
    good_key (first t) h = fits_operand (meaning_at ms (first_token t)) (operand_first t TOKEN_VAR refl h)
    good_key (second (first t)) h = good_call t h
    good_key (second (second t)) h = good_bracketed_key t h
    good_key (second t) h = absurd (h)
    good_key t h = absurd (h)

    abbrev GoodKeys : List Key → Type 0
    GoodKeys ks = Good (keys_nodes (map key_seen ks))

    -- a key, and more of them
    good_keys_with : (k more : Tree) → Of k KEY → GoodKeys (keys_value ms more) → GoodKeys (key_value ms k ∷ keys_value ms more)
    good_keys_with k more h g = recursion_append (Fits keys) (condition_nodes (condition_seen (key_value ms k).condition)) (keys_nodes (map key_seen (keys_value ms more))) (good_key k h) g

    good_keys : (t : Tree) → Of t ORDER_1 → GoodKeys (keys_value ms t)
    good_keys (pair k more) h = good_keys_with k more h.0 (good_keys more h.1)
    good_keys t h = tt

    good_some_keys : (t : Tree) → Of t ORDER_2 → GoodKeys (keys_value ms t)
    good_some_keys (pair k more) h = good_keys_with k more h.0 (good_keys more h.1)
    good_some_keys t h = tt

    good_order : (t : Tree) → Of t SOLUTIONS_2 → GoodKeys (order_value ms t)
    good_order (first (pair order (pair by some))) h = good_some_keys some h.1.1
    good_order t h = tt

    abbrev GoodQuery : Query → Type 0
    GoodQuery q = Good (query_nodes (query_seen q))

    good_solutions : (names : List (List ℕ)) (form : Form) (distinct : Bool) (selected : Selected) (t : Tree) → Good (form_nodes form) → Good (selected_nodes selected) → Of t SOLUTIONS
        → GoodQuery (solutions_value names form distinct selected ms t)
    good_solutions names form distinct selected (pair where_ (pair g (pair order slice))) f s h =
        recursion_append (Fits keys) (form_nodes form) (selected_nodes selected ++ (group_nodes (group_seen (group_value ms g)) ++ keys_nodes (map key_seen (order_value ms order)))) f
        (recursion_append (Fits keys) (selected_nodes selected) (group_nodes (group_seen (group_value ms g)) ++ keys_nodes (map key_seen (order_value ms order))) s
        (recursion_append (Fits keys) (group_nodes (group_seen (group_value ms g))) (keys_nodes (map key_seen (order_value ms order))) (good_group g h.1.0) (good_order order h.1.1.0)))
    good_solutions names form distinct selected t f s h = tt

    good_select : (names : List (List ℕ)) (t : Tree) → Of t FORM_5 → GoodQuery (select_value names ms t)
    good_select names (pair select (pair kind (pair selection t))) h =
        good_solutions names Select (is_distinct kind) (selection_value ms selection) t tt (good_selection selection h.1.1.0) h.1.1.1
    good_select names t h = tt

    good_ask : (names : List (List ℕ)) (t : Tree) → Of t FORM_7 → GoodQuery (ask_value names ms t)
    good_ask names (pair ask (pair where_ g)) h = recursion_append (Fits keys) (group_nodes (group_seen (group_value ms g))) [] (good_group g h.1.1) tt
    good_ask names t h = tt

    -- the triples of [ block ]
    good_template : (t : Tree) → Of t GROUP_1 → Good (patterns_nodes (patterns_of ms (block_triples t)))
    good_template (first t) h = good_patterns (block_value t) (fit_block t h)
    good_template t h = tt

    good_construct : (names : List (List ℕ)) (t : Tree) → Of t FORM_11 → GoodQuery (construct_value names ms t)
    good_construct names (pair construct (pair left (pair block (pair right t)))) h =
        good_solutions names (Construct (patterns_of ms (block_triples block))) false All t (good_template block h.1.1.0) tt h.1.1.1.1
    good_construct names t h = tt

    good_form : (names : List (List ℕ)) (t : Tree) → Of t FORM → GoodQuery (form_value names ms t)
    good_form names (first t) h = good_select names t h
    good_form names (second (first t)) h = good_ask names t h
    good_form names (second (second t)) h = good_construct names t h
    good_form names t h = tt

    pub good_query : (names : List (List ℕ)) (prologue rest : Tree) → Of rest FORM → Good (query_nodes (query_seen (query_value names ms (pair prologue rest))))
    good_query names prologue rest h = good_form names rest h
