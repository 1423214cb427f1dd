-- One more triples map, in the list and in the index.
use Rattle.std.proofs.Common.{true≢false, ◌≡◌, ℕ, refl, sym, ◌∙◌, ap, subst, List, [], ◌∷◌, ◌++◌, length, Bool, true, false, cond, Option, Some, None, map}
use Rattle.std.specs.Prelude.{String, is_some, is_none, filter, ◌&&◌, not}
use Rattle.std.specs.Option.{option_or}
use Rattle.std.specs.Str.{bytes_eq}
use Rattle.std.specs.HashMap.{HashMap, get_by_text}
use Rattle.std.specs.Map.{update}
use Rattle.std.proofs.lemmas.Slice.Eq.{bytes_eq-Decides}
use Rattle.std.specs.Bool.{Decides}
use Rattle.std.specs.List.{list_any, Contains}
use Rattle.std.proofs.lemmas.List.{map-append, append-nil}
use Rattle.std.proofs.lemmas.List.Elements.{filter-append}
use Rattle.vkg_lists.proofs.Positions.{any_at, place_push}
use Rattle.vkg_lists.specs.Sets.{distinct}
use Rattle.vkg_lists.proofs.Counts.{Decides-contains_test}
use Rattle.vkg_lists.proofs.Onto.{or_none}
use Rattle.vkg_lists.proofs.Walks.{list_any-map}
use Rattle.vkg_lists.proofs.Distinct.{Contains-distinct, Contains-from_distinct, distinct_push_new, distinct_push_old}
use Rattle.vkg_terms.specs.declared.term.Term.{Term}
use Rattle.vkg_terms.specs.Same.{term_eq}
use Rattle.vkg_terms.specs.NQuads.{term_text}
use Rattle.vkg_terms.specs.Writable.{HoldsText, IsOnlyTerm}
use Rattle.vkg_r2rml.specs.declared.map_node.MapNode.{MapNode}
use Rattle.vkg_turtle.specs.declared.triple.Triple.{Triple}
use Rattle.vkg_schema.specs.declared.table.Table.{Table}
use Rattle.vkg_r2rml.specs.TriplesMaps.{shows_triples_map, nodes_of_maps, map_node, place_of}
use Rattle.vkg_r2rml.specs.Index.{IsIndexOf, with_triple}
use Rattle.vkg_terms.proofs.SameLemmas.{terms_apart}

-- what is found under the text of a term, by whether it is that of the new triples map
step : (maps : List MapNode) (m : MapNode) (t : Term) (before : Option ℕ) (b : Bool) → bytes_eq (term_text m.node) (term_text t) ≡ b → place_of maps m.node ≡ None → IsOnlyTerm m.node (term_text m.node) → HoldsText t → before ≡ place_of maps t → cond b (Some (length maps)) before ≡ place_of (maps ++ m ∷ []) t
step maps m t before true e is_new only u old =
    let same : t ≡ m.node = only t u (sym ((bytes_eq-Decides (term_text m.node) (term_text t)).0 e)) in
    let itself : term_eq m.node m.node ≡ true = (terms_apart.decides m.node m.node).1 refl in
    sym (place_push (λ n. term_eq n.node t) maps m
    ∙ ap (λ s. option_or (place_of maps s) (cond (term_eq m.node s) (Some (length maps)) None)) same
    ∙ ap (λ o. option_or o (cond (term_eq m.node m.node) (Some (length maps)) None)) is_new
    ∙ ap (λ b. cond b (Some (length maps)) None) itself)
step maps m t before false e is_new only u old =
    let other : term_eq m.node t ≡ false = apart (term_eq m.node t) refl in
    old ∙ sym (place_push (λ n. term_eq n.node t) maps m ∙ ap (λ b. option_or (place_of maps t) (cond b (Some (length maps)) None)) other ∙ or_none (place_of maps t))
  where
    apart : (b : Bool) → term_eq m.node t ≡ b → b ≡ false
    apart false h = refl
    apart true h =
        let same : m.node ≡ t = (terms_apart.decides m.node t).0 h in
        let texts : bytes_eq (term_text m.node) (term_text t) ≡ true = (bytes_eq-Decides (term_text m.node) (term_text t)).1 (ap term_text same) in
        cc

pub index_more : {Y S : Type 0} (maps : List MapNode) (m : MapNode) (text : List ℕ) (place : ℕ) (old new : HashMap (String Y) ℕ S) → text ≡ term_text m.node → place ≡ length maps → place_of maps m.node ≡ None → IsOnlyTerm m.node text → ((cs : List ℕ) → get_by_text new cs ≡ update bytes_eq (get_by_text old) text (Some place) cs) → IsIndexOf maps old → IsIndexOf (maps ++ m ∷ []) new
index_more maps m text place old new is at is_new only updates h = λ t u.
    updates (term_text t)
    ∙ ap (λ n. cond (bytes_eq text (term_text t)) (Some n) (get_by_text old (term_text t))) at
    ∙ ap (λ x. cond (bytes_eq x (term_text t)) (Some (length maps)) (get_by_text old (term_text t))) is
    ∙ step maps m t (get_by_text old (term_text t)) (bytes_eq (term_text m.node) (term_text t)) refl is_new (subst (λ x. IsOnlyTerm m.node x) is only) u (h t u)

module _ (triples : List Triple) (schema : List Table) where
  abbrev made : Term → MapNode
  made = map_node triples schema

  -- the triples maps that these triples show
  abbrev shown : List Triple → List Term
  shown xs = map (λ t. t.subject) (filter shows_triples_map xs)

  -- whether a triples map is there already
  known : (xs : List Triple) (s : Term) → Decides (is_some (place_of (map made (distinct term_eq (shown xs))) s)) (Contains (shown xs) s)
  known xs s =
      let kept = distinct term_eq (shown xs) in
      let is : is_some (place_of (map made kept) s) ≡ list_any (λ y. term_eq y s) kept = sym (any_at (λ n. term_eq n.node s) (map made kept)) ∙ list_any-map (λ (n : MapNode). term_eq n.node s) made kept in
      let d = Decides-contains_test terms_apart kept s in
      (λ h. Contains-from_distinct term_eq (shown xs) s (d.0 (sym is ∙ h)), λ c. is ∙ d.1 (Contains-distinct terms_apart (shown xs) s c))

  grown : (xs : List Triple) (s : Term) (b : Bool) → is_some (place_of (map made (distinct term_eq (shown xs))) s) ≡ b → cond (not b) (map made (distinct term_eq (shown xs)) ++ made s ∷ []) (map made (distinct term_eq (shown xs))) ≡ map made (distinct term_eq (shown xs ++ s ∷ []))
  grown xs s true e = ap (map made) (sym (distinct_push_old terms_apart (shown xs) s ((known xs s).0 e)))
  grown xs s false e =
      sym (ap (map made) (distinct_push_new terms_apart (shown xs) s (λ c. true≢false (sym ((known xs s).1 c) ∙ e)))
      ∙ map-append made (distinct term_eq (shown xs)) (s ∷ []))

  more : (xs : List Triple) (t : Triple) (b : Bool) → shows_triples_map t ≡ b → cond (b && is_none (place_of (map made (nodes_of_maps xs)) t.subject)) (map made (nodes_of_maps xs) ++ made t.subject ∷ []) (map made (nodes_of_maps xs)) ≡ map made (nodes_of_maps (xs ++ t ∷ []))
  more xs t false e =
      ap (λ l. map made (distinct term_eq (map (λ t. t.subject) l)))
      (sym (filter-append shows_triples_map xs (t ∷ []) ∙ ap (λ b. filter shows_triples_map xs ++ cond b (t ∷ []) []) e ∙ append-nil (filter shows_triples_map xs)))
  more xs t true e =
      grown xs t.subject (is_some (place_of (map made (nodes_of_maps xs)) t.subject)) refl
      ∙ ap (λ l. map made (distinct term_eq l))
      (sym (ap (map (λ t. t.subject)) (filter-append shows_triples_map xs (t ∷ []) ∙ ap (λ b. filter shows_triples_map xs ++ cond b (t ∷ []) []) e) ∙ map-append (λ t. t.subject) (filter shows_triples_map xs) (t ∷ [])))

  -- one more triple
  pub triple_more : (xs : List Triple) (t : Triple) → with_triple triples schema (map (map_node triples schema) (nodes_of_maps xs)) t ≡ map (map_node triples schema) (nodes_of_maps (xs ++ t ∷ []))
  triple_more xs t = more xs t (shows_triples_map t) refl
