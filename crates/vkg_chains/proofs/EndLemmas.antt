-- What the loops of a lawful rule reach is the end: no subplan is changed there, and it has the rows of the start.
use Rattle.std.proofs.Common.{◌≡◌, length, Option, Some, None, refl, ap, ◌∙◌}
use Rattle.std.specs.Prelude.{option_and_then, option_map}
use Rattle.std.specs.Option.{option_or}
use Rattle.vkg_lists.proofs.Onto.{map_lacking}
use Rattle.vkg_schema.specs.Meets.{IsWellFormed}
use Rattle.vkg_plan.specs.Kinds.{Tables}
use Rattle.vkg_plan.specs.Plan.{Plan, Plans, Unit, Empty, Scan, Select, Project, Join, Left, AntiJoin, UnionAll, Distinct, Nil, More}
use Rattle.vkg_rules.specs.Everywhere.{among, anywhere, around, everywhere, first_of_list, in_members, later_in_list}
use Rattle.vkg_rules.specs.EverywhereLaw.{anywhere-falls, anywhere-keeps}
use Rattle.vkg_rules.specs.Steps.{FallsAll, IsTyped, Keeps, KeepsAll, Rule, Step}
use Rattle.vkg_chains.specs.Chains.{Chain, ended, after}
use Rattle.vkg_chains.specs.Ends.{IsEndOf, Settled, SettledEach, changed_times, end_of}
use Rattle.vkg_chains.specs.Fix.{Run, run}
use Rattle.vkg_chains.specs.FixLaw.{chain_keeps, run-chain, run-end}

neither : {A : Type 0} (o p : Option A) → option_or o p ≡ None → (o ≡ None) × (p ≡ None)
neither None p e = (refl, e)
neither (Some x) p e = cc

mutual
  pub everywhere-settled : (r : Plan → Option Step) (p : Plan) → everywhere r p ≡ None → Settled r p
  everywhere-settled r Unit e = e
  everywhere-settled r (Empty ks) e = e
  everywhere-settled r (Scan table) e = e
  everywhere-settled r (Select c p) e = let n = neither (r (Select c p)) _ e in (n.0, everywhere-settled r p (map_lacking (around (Select c)) _ n.1))
  everywhere-settled r (Project es p) e = let n = neither (r (Project es p)) _ e in (n.0, everywhere-settled r p (map_lacking (around (Project es)) _ n.1))
  everywhere-settled r (Join ps c) e = let n = neither (r (Join ps c)) _ e in (n.0, members-settled r ps (map_lacking (among (λ qs. Join qs c)) _ n.1))
  everywhere-settled r (Left p q c) e =
      let n = neither (r (Left p q c)) _ e in
      let m = neither (option_map (around (λ x. Left x q c)) (everywhere r p)) _ n.1 in
      (n.0, everywhere-settled r p (map_lacking (around (λ x. Left x q c)) _ m.0), everywhere-settled r q (map_lacking (around (λ x. Left p x c)) _ m.1))
  everywhere-settled r (AntiJoin p q c) e =
      let n = neither (r (AntiJoin p q c)) _ e in
      let m = neither (option_map (around (λ x. AntiJoin x q c)) (everywhere r p)) _ n.1 in
      (n.0, everywhere-settled r p (map_lacking (around (λ x. AntiJoin x q c)) _ m.0), everywhere-settled r q (map_lacking (around (λ x. AntiJoin p x c)) _ m.1))
  everywhere-settled r (UnionAll ps) e = let n = neither (r (UnionAll ps)) _ e in (n.0, members-settled r ps (map_lacking (among UnionAll) _ n.1))
  everywhere-settled r (Distinct p) e = let n = neither (r (Distinct p)) _ e in (n.0, everywhere-settled r p (map_lacking (around Distinct) _ n.1))

  members-settled : (r : Plan → Option Step) (ps : Plans) → in_members r ps ≡ None → SettledEach r ps
  members-settled r Nil e = tt
  members-settled r (More p ps) e =
      let n = neither (option_map (first_of_list ps) (everywhere r p)) (option_map (later_in_list p) (in_members r ps)) e in
      (everywhere-settled r p (map_lacking (first_of_list ps) (everywhere r p) n.0), members-settled r ps (map_lacking (later_in_list p) (in_members r ps) n.1))

-- as many changes as the chain has steps
chain-times : (r : Rule) (s : Tables) (p : Plan) (y : Run) → Chain (anywhere r s) p y → changed_times (length y.0) r s p ≡ Some y.1
chain-times r s p y (ended _ e) = refl
chain-times r s p y (after _ x z e c) =
    ap (λ o. option_and_then (changed_times (length z.0) r s) (option_map (λ (w : Step). w.0) o)) e ∙ chain-times r s x.0 z c

module _ (r : Rule) (keeps : KeepsAll r) (falls : FallsAll r) (s : Tables) (form : IsWellFormed s) (p : Plan) (t : IsTyped s p) where
  pub end-chain : Chain (anywhere r s) p (run (anywhere r) s p)
  end-chain = run-chain (anywhere r) (anywhere-keeps r keeps falls) (anywhere-falls r keeps falls) s form p t

  at_end : anywhere r s (end_of r s p) ≡ None
  at_end = run-end (anywhere r) (anywhere-keeps r keeps falls) (anywhere-falls r keeps falls) s form p t

  pub end-is : IsEndOf r s p (end_of r s p)
  end-is = record {
    changes = length (run (anywhere r) s p).0;
    reached = chain-times r s p (run (anywhere r) s p) end-chain;
    ended = ap (option_map (λ (x : Step). x.0)) at_end;
  }

  pub end-settled : Settled (r s) (end_of r s p)
  end-settled = everywhere-settled (r s) (end_of r s p) at_end

  pub end-keeps : Keeps s p (end_of r s p)
  end-keeps = chain_keeps (anywhere r) (anywhere-keeps r keeps falls) (anywhere-falls r keeps falls) s form p (run (anywhere r) s p) end-chain t
