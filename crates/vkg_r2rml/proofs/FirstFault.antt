-- The answer for a graph is its least fault.
use Rattle.std.proofs.Common.{◌≡◌, ℕ, ◌+◌, ◌<◌, ◌≤◌, ◌⊎◌, inl, inr, ⊎_elim, refl, sym, ◌∙◌, ap, subst, List, [], ◌∷◌, map, length, Option, Some, None, Ok, Err, Result, Bool, true, false, cond, nat_lt, arith}
use Rattle.std.specs.Prelude.{IfErr, IfOk}
use Rattle.std.specs.List.{Contains, enumerate_from}
use Rattle.std.proofs.lemmas.Bool.{ltb-true, ltb-false}
use Rattle.std.proofs.lemmas.Result.{IfErr-weaker, IfOk-weaker}
use Rattle.std.proofs.Math.Nat.{eq-or-lt_of_le}
use Rattle.vkg_lists.proofs.Numbered.{numbered_from}
use Rattle.vkg_lists.specs.Results.{unless, in_front}
use Rattle.vkg_lists.proofs.Members.{Contains-none, Contains-here, Contains-there, Contains-cons_cases}
use Rattle.vkg_lists.proofs.Results.{ok_err, err_same, front_given}
use Rattle.vkg_turtle.specs.declared.triple.Triple.{Triple}
use Rattle.vkg_schema.specs.declared.table.Table.{Table}
use Rattle.vkg_maps.specs.declared.mapping.Mapping.{Mapping}
use Rattle.vkg_maps.specs.declared.mapping.TriplesMap.{TriplesMap}
use Rattle.vkg_maps.specs.QuadRules.{quad_rules, rule_limit}
use Rattle.vkg_r2rml.specs.declared.map_node.MapNode.{MapNode}
use Rattle.vkg_r2rml.specs.declared.map_error.MapFault.{MapFault}
use Rattle.vkg_r2rml.specs.declared.map_error.MapError.{MapError}
use Rattle.vkg_r2rml.specs.declared.map_error.MapError.TheVariants.{Fault, Memory}
use Rattle.vkg_r2rml.specs.Checked.{Checked}
use Rattle.vkg_r2rml.specs.TriplesMaps.{triples_maps}
use Rattle.vkg_r2rml.specs.TriplesMap.{triples_map}
use Rattle.vkg_r2rml.specs.Mapping.{fault, map_limit, in_order, of_maps, count_fault, mapping_of, Fails as FailsOf}
use Rattle.vkg_r2rml.specs.Faults.{OnTriplesMap, Precedes, IsLeastFault, IsFaultless, IsFaultOf, IsLeast, no_map, many_maps, least, many_rules}
use Rattle.vkg_r2rml.proofs.Least.{AnswersLeast}
use Rattle.vkg_r2rml.proofs.LeastFault.{on_triples_map}

front_err : (m : TriplesMap) (rest : Result (List TriplesMap) MapFault) (f : MapFault) → in_front m rest ≡ Err f → rest ≡ Err f
front_err m (Ok ms) f e = absurd (ok_err (m ∷ ms) f e)
front_err m (Err g) f e = e

module _ (P : MapNode → ℕ → Type 0) (read : MapNode → Checked TriplesMap) (answers : (m : MapNode) → AnswersLeast (P m) (read m)) where
  record First (n : ℕ) (maps : List MapNode) (f : MapFault) : Type 0 where
    node : MapNode
    is_map : Contains (enumerate_from n maps) (f.map, node)
    fails : P node f.check
    first : (p : ℕ × MapNode) (check : ℕ) → Contains (enumerate_from n maps) p → P p.1 check → (f.map < p.0) ⊎ ((f.map ≡ p.0) × (f.check ≤ check))

  fault_here : (n : ℕ) (m : MapNode) (maps : List MapNode) (check : ℕ) → read m ≡ Err check → First n (m ∷ maps) (fault check n)
  fault_here n m maps check e = record {
    node = m;
    is_map = Contains-here (n, m) (enumerate_from (n + 1) maps);
    fails = (answers m).fails check e;
    first = λ p d h bad. ⊎_elim
        (λ i. let r = (answers p.1).least d bad in
        let same : check ≡ r.0 = let both : ◌≡◌ {A = Checked TriplesMap} (Err check) (Err r.0) = sym e ∙ ap (λ q. read q.1) i ∙ r.1 in cc in
        inr (ap (λ q. q.0) i, omega (arith, r.2, same)))
        (λ c. inl (let l = numbered_from (n + 1) maps p c in omega (arith, l))) (Contains-cons_cases (n, m) (enumerate_from (n + 1) maps) p h);
  }

  fault_later : (n : ℕ) (m : MapNode) (maps : List MapNode) (f : MapFault) (made : TriplesMap) → read m ≡ Ok made → First (n + 1) maps f → First n (m ∷ maps) f
  fault_later n m maps f made e later = record {
    node = later.node;
    is_map = Contains-there (n, m) (enumerate_from (n + 1) maps) (f.map, later.node) later.is_map;
    fails = later.fails;
    first = λ p d h bad. ⊎_elim
        (λ i. let r = (answers p.1).least d bad in absurd (ok_err made r.0 (sym e ∙ ap (λ q. read q.1) i ∙ r.1)))
        (λ c. later.first p d c bad) (Contains-cons_cases (n, m) (enumerate_from (n + 1) maps) p h);
  }

  first_fault : (n : ℕ) (maps : List MapNode) (f : MapFault) → in_order n (map read maps) ≡ Err f → First n maps f
  first_fault n [] f e = absurd (ok_err [] f e)
  first_fault n (m ∷ maps) f e = split (first_fault (n + 1) maps f) (read m) refl e
    where
      split : (in_order (n + 1) (map read maps) ≡ Err f → First (n + 1) maps f) → (r : Checked TriplesMap) → read m ≡ r → in_order n (r ∷ map read maps) ≡ Err f → First n (m ∷ maps) f
      split later (Ok made) i h = fault_later n m maps f made i (later (front_err made (in_order (n + 1) (map read maps)) f h))
      split later (Err check) i h =
          let same : fault check n ≡ f = cc in
          subst (First n (m ∷ maps)) same (fault_here n m maps check i)

  no_fault : (n : ℕ) (maps : List MapNode) (made : List TriplesMap) → in_order n (map read maps) ≡ Ok made → (p : ℕ × MapNode) (check : ℕ) → Contains (enumerate_from n maps) p → P p.1 check → ⊥
  no_fault n [] made e p check h bad = Contains-none p h
  no_fault n (m ∷ maps) made e p check h bad = split (λ ms i c. no_fault (n + 1) maps ms i p check c bad) (read m) refl e
    where
      split : ((ms : List TriplesMap) → in_order (n + 1) (map read maps) ≡ Ok ms → Contains (enumerate_from (n + 1) maps) p → ⊥) → (r : Checked TriplesMap) → read m ≡ r → in_order n (r ∷ map read maps) ≡ Ok made → ⊥
      split later (Ok x) i k =
          let rest = front_given x (in_order (n + 1) (map read maps)) made k in
          ⊎_elim (λ j. let r = (answers p.1).least check bad in ok_err x r.0 (sym i ∙ ap (λ q. read q.1) j ∙ r.1)) (λ c. later rest.0 rest.1 c) (Contains-cons_cases (n, m) (enumerate_from (n + 1) maps) p h)
      split later (Err c) i k = ok_err made (fault c n) (sym k)

module _ (triples : List Triple) (schema : List Table) (base : List ℕ) where
  abbrev maps : List MapNode
  maps = triples_maps triples schema

  abbrev read : Result (List TriplesMap) MapFault
  read = in_order 1 (map (triples_map triples schema base maps) maps)

  least_fault : (f : MapFault) → read ≡ Err f → IsLeastFault triples schema base maps f
  least_fault f e =
      let r = first_fault (OnTriplesMap triples schema base maps) (triples_map triples schema base maps) (on_triples_map triples schema base maps) 1 maps f e in
      record {
        is = record { node = r.node; is_map = r.is_map; fails = r.fails };
        first = λ g h. ⊎_elim (λ l. inr (inl l)) (λ i. order f g i.0 i.1) (r.first (g.map, h.node) g.check h.is_map h.fails);
      }
    where
      order : (f g : MapFault) → f.map ≡ g.map → f.check ≤ g.check → (f ≡ g) ⊎ Precedes f g
      order f g i h = ⊎_elim (λ e. inl (λ k. record { check = e k; map = i k })) (λ l. inr (inr (i, l))) (eq-or-lt_of_le h)

  faultless : (made : List TriplesMap) → read ≡ Ok made → IsFaultless triples schema base maps
  faultless made e = λ f h. no_fault (OnTriplesMap triples schema base maps) (triples_map triples schema base maps) (on_triples_map triples schema base maps) 1 maps made e (f.map, h.node) f.check h.is_map h.fails

  by_rules : (made : List TriplesMap) (b : Bool) (f : MapFault) → read ≡ Ok made → nat_lt rule_limit (length (quad_rules (record { base = base; maps = made }))) ≡ b → cond {A = Result Mapping MapFault} b (Err (fault 22 0)) (Ok (record { base = base; maps = made })) ≡ Err f → IsFaultOf triples schema base f
  by_rules made true f r t e = subst (IsFaultOf triples schema base) (err_same {A = Mapping} (fault 22 0) f e) (many_rules made (faultless made r) r (ltb-true rule_limit (length (quad_rules (record { base = base; maps = made }))) t))
  by_rules made false f r t e = absurd (ok_err {A = Mapping} _ f e)

  by_read : (r : Result (List TriplesMap) MapFault) (f : MapFault) → read ≡ r → length maps ≤ map_limit → of_maps base r ≡ Err f → IsFaultOf triples schema base f
  by_read (Ok made) f i few e = by_rules made (nat_lt rule_limit (length (quad_rules (record { base = base; maps = made })))) f i refl e
  by_read (Err g) f i few e = least few (least_fault f (i ∙ ap (λ h. Err h) (err_same {A = Mapping} g f e)))

  by_count : (b : Bool) (f : MapFault) → nat_lt map_limit (length maps) ≡ b → unless (cond b (Some (fault 22 0)) None) (of_maps base read) ≡ Err f → IsFaultOf triples schema base f
  by_count true f t e = subst (IsFaultOf triples schema base) (err_same {A = Mapping} (fault 22 0) f e) (many_maps (ltb-true map_limit (length maps) t))
  by_count false f t e = by_read read f refl (ltb-false map_limit (length maps) t) e

  by_maps : (ms : List MapNode) (f : MapFault) → maps ≡ ms → unless (count_fault ms) (of_maps base read) ≡ Err f → IsFaultOf triples schema base f
  by_maps [] f i e = subst (IsFaultOf triples schema base) (err_same {A = Mapping} (fault 21 0) f e) (no_map i)
  by_maps (m ∷ ms) f i e = by_count (nat_lt map_limit (length (m ∷ ms))) f (ap (λ l. nat_lt map_limit (length l)) i) e

  -- the fault that is defined is the fault of the graph
  pub fault_of : (e : MapError) → FailsOf triples schema base e → IsLeast triples schema base e
  fault_of Memory h = h
  fault_of (Fault f) h = by_maps maps f refl h

  read_of : (b : Option MapFault) (r : Result (List TriplesMap) MapFault) (mapping : Mapping) → unless b (of_maps base r) ≡ Ok mapping → (made : List TriplesMap) × (r ≡ Ok made)
  read_of None (Ok made) mapping e = (made, refl)
  read_of None (Err f) mapping e = absurd (ok_err mapping f (sym e))
  read_of (Some f) r mapping e = absurd (ok_err mapping f (sym e))

  -- where there is a mapping, nothing fails
  pub nothing_fails : (mapping : Mapping) → mapping_of triples schema base ≡ Ok mapping → IsFaultless triples schema base (triples_maps triples schema)
  nothing_fails mapping e = let r = read_of (count_fault maps) read mapping e in faultless r.0 r.1

  pub errors : (r : Result Mapping MapError) → IfErr r (FailsOf triples schema base) → IfErr r (IsLeast triples schema base)
  errors r h = IfErr-weaker r (FailsOf triples schema base) (IsLeast triples schema base) fault_of h

  pub values : (r : Result Mapping MapError) → IfOk r (λ mapping. mapping_of triples schema base ≡ Ok mapping) → IfOk r (λ mapping. IsFaultless triples schema base (triples_maps triples schema))
  values r h = IfOk-weaker r (λ mapping. mapping_of triples schema base ≡ Ok mapping) (λ mapping. IsFaultless triples schema base (triples_maps triples schema)) nothing_fails h
