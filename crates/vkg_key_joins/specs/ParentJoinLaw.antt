-- Its laws: a child row without NULL in the foreign key is with exactly one row of the parent, whose key it has, and each other row is with none.
use Rattle.std.proofs.Common.{◌≡◌, ◌∙◌, inl, inr, ℕ, ◌+◌, ◌-◌, ◌<◌, ◌≤◌, Bool, true, false, true≢false, List, [], ◌∷◌, ◌++◌, append_assoc, cond, length, Some, None, refl, sym, ap, subst, arith}
use Rattle.std.specs.Prelude.{◌&&◌, nat_eq, nat_le, option_map, if◌then◌else◌}
use Rattle.std.specs.List.{Contains, find, list_all}
use Rattle.std.proofs.lemmas.Bool.{cases_Bool, eq-eqb, eqb-true, leb-false, leb-true}
use Rattle.std.proofs.lemmas.Option.{same_Some}
use Rattle.vkg_lists.proofs.Bools.{and_parts}
use Rattle.vkg_lists.proofs.Members.{Contains-here, Contains-there}
use Rattle.vkg_lists.proofs.Onto.{map_given}
use Rattle.vkg_columns.specs.Columns.{columns_from}
use Rattle.vkg_expr.specs.Expr.{Expr}
use Rattle.vkg_schema.specs.declared.table.Reference.{Reference}
use Rattle.vkg_schema.specs.Kinds.{columns_of}
use Rattle.vkg_schema.specs.Meets.{IsWellFormed}
use Rattle.vkg_plan.specs.Kinds.{Tables, width}
use Rattle.vkg_plan.specs.Plan.{Plan, Unit as UnitPlan, Scan, Project, Join, each, plans}
use Rattle.vkg_rules.specs.Steps.{Falls, FallsAll, IsTyped, Keeps, KeepsAll, Step}
use Rattle.vkg_rules.specs.Weights.{product_positive}
use Rattle.vkg_keys.specs.Keys.{is_of_one_kind}
use Rattle.vkg_keys.specs.Members.{Place, first_two, renamed, widths}
use Rattle.vkg_keys.specs.Ties.{all_tied}
use Rattle.vkg_keys.proofs.Places.{IsPlace, earlier, scans-found, widths-append}
use Rattle.vkg_key_joins.specs.MembersLaw.{plans-each, without-weight}
use Rattle.vkg_key_joins.specs.ParentBefore.{before-keeps}
use Rattle.vkg_key_joins.specs.ParentBehind.{behind-keeps}
use Rattle.vkg_key_joins.specs.ParentJoin.{all_tied_to, first_left, is_unused, left_joined, names_given, over_join, parent_join, parent_joined, without_parent}
use Rattle.vkg_key_joins.specs.Tables.{references_of}

-- what is left of such a join without the parent behind l and before a, where the child stands behind f columns
abbrev gone : Tables → List Expr → Expr → ℕ → Reference → ℕ → List Plan → List Plan → Step
gone s es c of reference f l a =
    left_joined (renamed (widths s l) (all_tied_to (columns_from f (width s (Scan of))) reference.pairs 0 (width s (Scan reference.table))) (widths s a)) es (l ++ a) (columns_from f (width s (Scan of))) c reference.pairs

-- ---- what was found

-- The foreign key, and where the child stands without its parent.
record IsLeft (s : Tables) (es : List Expr) (ps : List Plan) (c : Expr) (r : Step) : Type 0 where
  before : List Plan
  after : List Plan
  reference : Reference
  members : ps ≡ before ++ (Scan reference.table ∷ after)
  of : ℕ
  first : ℕ
  made : gone s es c of reference first before after ≡ r
  kept : IsWellFormed s → IsTyped s (Project es (Join (plans ps) c)) → Keeps s (Project es (Join (plans ps) c)) r.0

find-given : {A : Type 0} (p : A → Bool) (xs : List A) (x : A) → find p xs ≡ Some x → Contains xs x × (p x ≡ true)
find-given p [] x e = cc
find-given p (y ∷ xs) x e = here (p y) refl e (find-given p xs x)
  where
    here : (b : Bool) → p y ≡ b → cond b (Some y) (find p xs) ≡ Some x → (find p xs ≡ Some x → Contains xs x × (p x ≡ true)) → Contains (y ∷ xs) x × (p x ≡ true)
    here true h k rest = let is = same_Some y x k in (subst (λ z. Contains (y ∷ xs) z) is (Contains-here y xs), ap p (sym is) ∙ h)
    here false h k rest = let g = rest k in (Contains-there y xs x g.0, g.1)

-- what a test of a foreign key says
record UnusedParts (s : Tables) (es : List Expr) (c : Expr) (x y : Place) (reference : Reference) : Type 0 where
  to_parent : reference.table ≡ y.table
  tied : all_tied c (widths s x.before) (widths s y.before) reference.pairs ≡ true
  one_kind : list_all (is_of_one_kind (columns_of s x.table) (columns_of s reference.table)) reference.pairs ≡ true
  named : list_all (names_given (widths s y.before) (width s (Scan reference.table)) reference.pairs) (c ∷ es) ≡ true

unused-parts : (s : Tables) (es : List Expr) (c : Expr) (x y : Place) (reference : Reference) → is_unused s es c x y reference ≡ true → UnusedParts s es c x y reference
unused-parts s es c x y reference h =
    let kind = list_all (is_of_one_kind (columns_of s x.table) (columns_of s y.table)) reference.pairs in
    let named = list_all (names_given (widths s y.before) (width s (Scan y.table)) reference.pairs) (c ∷ es) in
    let tie = all_tied c (widths s x.before) (widths s y.before) reference.pairs in
    let a = and_parts (nat_eq reference.table y.table) (tie && (kind && named)) h in
    let b = and_parts tie (kind && named) a.1 in
    let d = and_parts kind named b.1 in
    let is : reference.table ≡ y.table = eqb-true reference.table y.table a.0 in
    record {
      to_parent = is;
      tied = b.0;
      one_kind = ap (λ t. list_all (is_of_one_kind (columns_of s x.table) (columns_of s t)) reference.pairs) is ∙ d.0;
      named = ap (λ t. list_all (names_given (widths s y.before) (width s (Scan t)) reference.pairs) (c ∷ es)) is ∙ d.1;
    }

module _ (s : Tables) (es : List Expr) (ps : List Plan) (c : Expr) (r : Step) (x y : Place) (is_x : IsPlace ps x) (is_y : IsPlace ps y) (reference : Reference) (of_child : Contains (references_of s x.table) reference)
    (u : UnusedParts s es c x y reference) (made : without_parent s es c x y reference ≡ r) where
  -- the step with other words for the same
  abbrev named_as : ℕ → ℕ → List Plan → List Plan → Step
  named_as f table l a = left_joined (renamed (widths s l) (all_tied_to (columns_from f (width s (Scan x.table))) reference.pairs 0 (width s (Scan table))) (widths s a)) es (l ++ a) (columns_from f (width s (Scan x.table))) c reference.pairs

  -- the child stands before the parent
  child-first : length x.before < length y.before → nat_le (length x.before) (length y.before) ≡ true → IsLeft s es ps c r
  child-first less most =
      let m = earlier x.before (Scan x.table) x.after y.before (Scan y.table) y.after (sym is_x ∙ is_y) less in
      let l = x.before ++ (Scan x.table ∷ m.0) in
      let f : first_left s x y ≡ widths s x.before = ap (λ b. if b then widths s x.before else widths s x.before - width s (Scan y.table)) most in
      let members : ps ≡ l ++ (Scan reference.table ∷ y.after) = is_y ∙ (λ i. m.1 i ++ (Scan (sym u.to_parent i) ∷ y.after)) in
      let left : gone s es c x.table reference (widths s x.before) l y.after ≡ r = (λ i. named_as (sym f i) (u.to_parent i) (sym m.1 i) y.after) ∙ made in
      record {
        before = l;
        after = y.after;
        reference = reference;
        members = members;
        of = x.table;
        first = widths s x.before;
        made = left;
        kept = λ form t.
            subst (λ qs. Keeps s (Project es (Join (plans qs) c)) r.0) (sym members)
            (subst (λ (z : Step). Keeps s (Project es (Join (plans (l ++ (Scan reference.table ∷ y.after))) c)) z.0) left
            (behind-keeps s form x.before x.table m.0 y.after es c reference
            (record {
              rest = append_assoc x.before (Scan x.table ∷ m.0) y.after;
              typed = subst (λ qs. IsTyped s (Project es (Join (plans qs) c))) members t;
              of_child = of_child;
              one_kind = u.one_kind;
              named = subst (λ z. list_all (names_given (widths s z) (width s (Scan reference.table)) reference.pairs) (c ∷ es) ≡ true) m.1 u.named;
            })
            (subst (λ z. all_tied c (widths s x.before) (widths s z) reference.pairs ≡ true) m.1 u.tied)));
      }

  -- the parent stands before the child
  parent-first : length y.before < length x.before → nat_le (length x.before) (length y.before) ≡ false → IsLeft s es ps c r
  parent-first less most =
      let m = earlier y.before (Scan y.table) y.after x.before (Scan x.table) x.after (sym is_y ∙ is_x) less in
      let a = m.0 ++ (Scan x.table ∷ x.after) in
      let wide : widths s x.before ≡ widths s y.before + (width s (Scan y.table) + widths s m.0) = ap (widths s) m.1 ∙ widths-append s y.before (Scan y.table ∷ m.0) in
      let both = widths-append s y.before m.0 in
      let back : widths s x.before - width s (Scan y.table) ≡ widths s (y.before ++ m.0) = omega (arith, wide, both) in
      let f : first_left s x y ≡ widths s (y.before ++ m.0) = ap (λ b. if b then widths s x.before else widths s x.before - width s (Scan y.table)) most ∙ back in
      let members : ps ≡ y.before ++ (Scan reference.table ∷ a) = is_y ∙ (λ i. y.before ++ (Scan (sym u.to_parent i) ∷ m.2 i)) in
      let left : gone s es c x.table reference (widths s (y.before ++ m.0)) y.before a ≡ r = (λ i. named_as (sym f i) (u.to_parent i) y.before (sym m.2 i)) ∙ made in
      record {
        before = y.before;
        after = a;
        reference = reference;
        members = members;
        of = x.table;
        first = widths s (y.before ++ m.0);
        made = left;
        kept = λ form t.
            subst (λ qs. Keeps s (Project es (Join (plans qs) c)) r.0) (sym members)
            (subst (λ (z : Step). Keeps s (Project es (Join (plans (y.before ++ (Scan reference.table ∷ a))) c)) z.0) left
            (before-keeps s form y.before m.0 x.table x.after es c reference
            (record {
              rest = sym (append_assoc y.before m.0 (Scan x.table ∷ x.after));
              typed = subst (λ qs. IsTyped s (Project es (Join (plans qs) c))) members t;
              of_child = of_child;
              one_kind = u.one_kind;
              named = u.named;
            })
            (subst (λ z. all_tied c (widths s z) (widths s y.before) reference.pairs ≡ true) (m.1 ∙ ap (λ t. y.before ++ (Scan t ∷ m.0)) (sym u.to_parent)) u.tied)));
      }

  is-left : nat_eq (length x.before) (length y.before) ≡ false → IsLeft s es ps c r
  is-left other = elim (cases_Bool (nat_le (length x.before) (length y.before))) [
    | inl most ↦
        let h = leb-true (length x.before) (length y.before) most in
        child-first (apart (length x.before) (length y.before) h other) most
    | inr less ↦ parent-first (leb-false (length x.before) (length y.before) less) less
  ]
    where
      apart : (n m : ℕ) → n ≤ m → nat_eq n m ≡ false → n < m
      apart n m h e = elim (cases_Bool (nat_le m n)) [
        | inl most ↦
            let k = leb-true m n most in
            let same : n ≡ m = omega (arith, h, k) in absurd (true≢false (sym (eq-eqb n m same) ∙ e))
        | inr less ↦ leb-false m n less
      ]

left-found : (s : Tables) (es : List Expr) (ps : List Plan) (c : Expr) (r : Step) → first_two (parent_joined s es c) ps ≡ Some r → IsLeft s es ps c r
left-found s es ps c r e =
    let f = scans-found (parent_joined s es c) ps r e in
    at f.first f.second f.of_first f.of_second (nat_eq (length f.first.before) (length f.second.before)) refl f.made
  where
    at : (x y : Place) → IsPlace ps x → IsPlace ps y → (b : Bool) → nat_eq (length x.before) (length y.before) ≡ b →
        (if b then None else option_map (without_parent s es c x y) (find (is_unused s es c x y) (references_of s x.table))) ≡ Some r → IsLeft s es ps c r
    at x y is_x is_y true other h = cc
    at x y is_x is_y false other h =
        let m = map_given (without_parent s es c x y) (find (is_unused s es c x y) (references_of s x.table)) r h in
        let g = find-given (is_unused s es c x y) (references_of s x.table) m.0 m.1 in
        is-left s es ps c r x y is_x is_y m.0 g.0 (unused-parts s es c x y m.0 g.1) m.2 other

-- ---- the laws

over-keeps : (s : Tables) → IsWellFormed s → (es : List Expr) (p : Plan) (r : Step) → IsTyped s (Project es p) → over_join s es p ≡ Some r → Keeps s (Project es p) r.0
over-keeps s form es (Join ps c) r t e =
    subst (λ qs. Keeps s (Project es (Join qs c)) r.0) (plans-each ps)
    ((left-found s es (each ps) c r e).kept form (subst (λ qs. IsTyped s (Project es (Join qs c))) (sym (plans-each ps)) t))
over-keeps s form es _ r t e = cc

over-falls : (s : Tables) (es : List Expr) (p : Plan) (r : Step) → over_join s es p ≡ Some r → Falls s (Project es p) r
over-falls s es (Join ps c) r e =
    let f = left-found s es (each ps) c r e in
    let old = without-weight f.before f.reference.table f.after in
    let some = product_positive (plans (f.before ++ f.after)) in
    subst (λ qs. Falls s (Project es (Join qs c)) r) (plans-each ps)
    (subst (λ qs. Falls s (Project es (Join (plans qs) c)) r) (sym f.members)
    (subst (Falls s (Project es (Join (plans (f.before ++ (Scan f.reference.table ∷ f.after))) c))) f.made (omega (arith, old, some))))
over-falls s es _ r e = cc

pub parent_join-keeps : KeepsAll parent_join
parent_join-keeps s form (Project es p) x t e = over-keeps s form es p x t e
parent_join-keeps s form _ x t e = cc

pub parent_join-falls : FallsAll parent_join
parent_join-falls s form (Project es p) x t e = over-falls s es p x e
parent_join-falls s form _ x t e = cc
