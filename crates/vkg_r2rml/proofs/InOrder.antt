-- Triples maps in their order, and their rules.
use Rattle.std.proofs.Common.{◌≡◌, ◌∙◌, ◌+◌, ◌-◌, ◌<◌, ◌≤◌, ℕ, List, [], ◌∷◌, ◌++◌, length, get_or, drop, map, Option, Some, None, Result, Ok, Err, refl, ap, sym, subst, arith}
use Rattle.std.specs.Prelude.{sum_by}
use Rattle.std.specs.Result.{result_err}
use Rattle.std.proofs.lemmas.Bool.{lt-ltb, le-ltb}
use Rattle.std.proofs.lemmas.List.{append-nil, drop_all, drop_more}
use Rattle.std.proofs.lemmas.List.Sums.{sum_by_push, sum_by-append}
use Rattle.std.proofs.lemmas.Option.{same_Some}
use Rattle.vkg_lists.specs.Results.{followed_by, in_front, unless}
use Rattle.vkg_lists.proofs.Results.{followed_first, followed_none}
use Rattle.vkg_maps.specs.declared.mapping.TriplesMap.{TriplesMap}
use Rattle.vkg_maps.specs.QuadRules.{rule_limit}
use Rattle.vkg_r2rml.specs.declared.map_error.MapFault.{MapFault}
use Rattle.vkg_r2rml.specs.declared.map_node.MapNode.{MapNode}
use Rattle.vkg_r2rml.specs.Checked.{Checked}
use Rattle.vkg_r2rml.specs.Mapping.{fault, in_order, of_maps, past_limit}
use Rattle.vkg_r2rml.specs.RuleCount.{rules_of_map}
use Rattle.vkg_r2rml.proofs.MappingLemmas.{too_many, few_enough}

-- what is left of the limit behind one more map
pub left_behind : (read : List TriplesMap) (m : TriplesMap) (left rest : ℕ) → rules_of_map m ≤ left → rest ≡ left - rules_of_map m → left + sum_by rules_of_map read ≡ rule_limit → rest + sum_by rules_of_map (read ++ m ∷ []) ≡ rule_limit
left_behind read m left rest few what room = let sum = sum_by_push rules_of_map read m in omega (arith, room, few, what, sum)

-- the rules of one more map are too many, whatever comes behind it
pub too_many_with : (base : List ℕ) (read : List TriplesMap) (m : TriplesMap) (behind : List TriplesMap) (left : ℕ) → (rules_of_map m ≤ left → ⊥) → left + sum_by rules_of_map read ≡ rule_limit → of_maps base (Ok ((read ++ m ∷ []) ++ behind)) ≡ Err (fault 22 0)
too_many_with base read m behind left many room =
    let one = sum_by_push rules_of_map read m in
    let all = sum_by-append rules_of_map (read ++ m ∷ []) behind in
    let more : rule_limit < sum_by rules_of_map ((read ++ m ∷ []) ++ behind) = omega (arith, room, many, one, all) in
    too_many base ((read ++ m ∷ []) ++ behind) (lt-ltb rule_limit (sum_by rules_of_map ((read ++ m ∷ []) ++ behind)) more)

-- the mapping of maps that have not too many rules
pub whole : (base : List ℕ) (count : Option MapFault) (r : Result (List TriplesMap) MapFault) (read : List TriplesMap) → count ≡ None → r ≡ Ok read → sum_by rules_of_map read ≤ rule_limit → unless count (of_maps base r) ≡ Ok (record { base = base; maps = read })
whole base count r read none is few = ap (λ f. unless f (of_maps base r)) none ∙ ap (of_maps base) is ∙ few_enough base read (le-ltb rule_limit (sum_by rules_of_map read) few)

-- no map is read yet
pub begins : (first : Result (List TriplesMap) MapFault) (read : List TriplesMap) → read ≡ [] → first ≡ followed_by read first
begins first read e = sym (ap (λ r. followed_by r first) e ∙ followed_none first)

-- the first of these maps
pub passes_first : (d : Checked TriplesMap) (n : ℕ) (ds : List (Checked TriplesMap)) → result_err d ≡ None → result_err (in_order n (d ∷ ds)) ≡ result_err (in_order (n + 1) ds)
passes_first (Err check) n ds e = cc
passes_first (Ok m) n ds e = behind (in_order (n + 1) ds)
  where
    behind : (r : Result (List TriplesMap) MapFault) → result_err (in_front m r) ≡ result_err r
    behind (Ok ms) = refl
    behind (Err f) = refl

pub fails_first : (d : Checked TriplesMap) (n : ℕ) (ds : List (Checked TriplesMap)) (check : ℕ) → result_err d ≡ Some check → result_err (in_order n (d ∷ ds)) ≡ Some (fault check n)
fails_first (Ok m) n ds check e = cc
fails_first (Err c) n ds check e = ap (λ x. Some (fault x n)) (same_Some c check e)

-- triples maps in their order: one more of them, one of which a check fails, and none
module _ (f : MapNode → Checked TriplesMap) (maps items : List MapNode) (k : ℕ) where
  here : (m : MapNode) → items ≡ maps → k < length items → m ≡ get_or items k m → drop k maps ≡ m ∷ drop (k + 1) maps
  here m same inside is = subst (λ l. drop k l ≡ m ∷ drop (k + 1) l) same (drop_more items k m inside ∙ ap (λ x. x ∷ drop (k + 1) items) (sym is))

  past : items ≡ maps → length items ≤ k → drop k maps ≡ []
  past same over = subst (λ l. drop k l ≡ []) same (drop_all k items over)

  pub next_passes : (m : MapNode) → items ≡ maps → k < length items → m ≡ get_or items k m → result_err (f m) ≡ None → result_err (in_order (k + 1) (map f (drop k maps))) ≡ result_err (in_order (k + 1 + 1) (map f (drop (k + 1) maps)))
  next_passes m same inside is e = ap (λ l. result_err (in_order (k + 1) (map f l))) (here m same inside is) ∙ passes_first (f m) (k + 1) (map f (drop (k + 1) maps)) e

  pub next_fails : (m : MapNode) (check : ℕ) → items ≡ maps → k < length items → m ≡ get_or items k m → result_err (f m) ≡ Some check → result_err (in_order (k + 1) (map f (drop k maps))) ≡ Some (fault check (k + 1))
  next_fails m check same inside is e = ap (λ l. result_err (in_order (k + 1) (map f l))) (here m same inside is) ∙ fails_first (f m) (k + 1) (map f (drop (k + 1) maps)) check e

  pub none_fails : items ≡ maps → length items ≤ k → result_err (in_order (k + 1) (map f (drop k maps))) ≡ None
  none_fails same over = ap (λ l. result_err (in_order (k + 1) (map f l))) (past same over)

  module _ (first : Result (List TriplesMap) MapFault) (read : List TriplesMap) where
    pub next_map : (m : MapNode) (made : TriplesMap) → items ≡ maps → k < length items → m ≡ get_or items k m → f m ≡ Ok made → first ≡ followed_by read (in_order (k + 1) (map f (drop k maps))) → first ≡ followed_by (read ++ made ∷ []) (in_order (k + 1 + 1) (map f (drop (k + 1) maps)))
    next_map m made same inside is e h =
        h ∙ ap (λ l. followed_by read (in_order (k + 1) (map f l))) (here m same inside is) ∙ ap (λ d. followed_by read (in_order (k + 1) (d ∷ map f (drop (k + 1) maps)))) e
        ∙ followed_first read made (in_order (k + 1 + 1) (map f (drop (k + 1) maps)))

    pub failed_map : (m : MapNode) (check : ℕ) → items ≡ maps → k < length items → m ≡ get_or items k m → f m ≡ Err check → first ≡ followed_by read (in_order (k + 1) (map f (drop k maps))) → first ≡ Err (fault check (k + 1))
    failed_map m check same inside is e h =
        h ∙ ap (λ l. followed_by read (in_order (k + 1) (map f l))) (here m same inside is) ∙ ap (λ d. followed_by read (in_order (k + 1) (d ∷ map f (drop (k + 1) maps)))) e

    pub no_map : items ≡ maps → length items ≤ k → first ≡ followed_by read (in_order (k + 1) (map f (drop k maps))) → first ≡ Ok read
    no_map same over h = h ∙ ap (λ l. followed_by read (in_order (k + 1) (map f l))) (past same over) ∙ ap Ok (append-nil read)

-- maps that have too many rules, and those behind them
module _ (base : List ℕ) (first : Result (List TriplesMap) MapFault) (read : List TriplesMap) (m : TriplesMap) (left : ℕ) where
  pub behind_limit : (behind : Result (List TriplesMap) MapFault) → first ≡ followed_by (read ++ m ∷ []) behind → (rules_of_map m ≤ left → ⊥) → left + sum_by rules_of_map read ≡ rule_limit → past_limit (result_err behind) ≡ of_maps base first
  behind_limit (Ok ms) e many room = sym (ap (of_maps base) e ∙ too_many_with base read m ms left many room)
  behind_limit (Err f) e many room = sym (ap (of_maps base) e)
