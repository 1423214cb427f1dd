-- What lists of flags tell of one column.
use Rattle.std.proofs.Common.{◌≡◌, ◌∙◌, ℕ, zero, suc, ◌-◌, Bool, true, false, ◌&&◌, ◌||◌, cond, List, [], ◌∷◌, ◌++◌, length, map, get_or, drop, drop-cons, add-one, ◌+◌, ◌<◌, ◌≤◌, refl, sym, ap, subst, arith}
use Rattle.std.specs.Prelude.{Some, None, fold, nat_eq, slice_get}
use Rattle.std.specs.List.{list_all, list_any}
use Rattle.std.proofs.Math.Dec.{eqb-suc-suc, eqb-suc-zero, eqb-zero-suc}
use Rattle.std.proofs.lemmas.Option.{same_Some}
use Rattle.vkg_expr.specs.declared.expr.Expr.{Expr as ExprValue}
use Rattle.vkg_expr.specs.Expr.{Expr, Same, IsNull, Not}
use Rattle.vkg_expr.specs.Logic.{conjuncts}
use Rattle.vkg_expr.specs.Seen.{expr_seen}
use Rattle.vkg_expr.specs.Strict.{columns, is_strict, nulls_on_null}
use Rattle.vkg_plan.specs.declared.plan.Plan.{Plan as PlanValue}
use Rattle.vkg_plan.specs.Kinds.{Tables}
use Rattle.vkg_plan.specs.Plan.{plans}
use Rattle.vkg_plan.specs.Seen.{plan_seen}
use Rattle.vkg_equalities.specs.TableColumns.{flag_at, flags_beside}
use Rattle.vkg_unique.specs.Sure.{unset, with_flag, with_flags, with_tested}
use Rattle.vkg_sure.specs.NeverNull.{both, common, is_known, never_null, never_null_each, with_all_told, with_told}
use Rattle.vkg_sure.specs.declared.told.Told.{Told}
use Rattle.vkg_sure.specs.declared.told.Told.TheVariants as told
use Rattle.vkg_sure.specs.ToldAt.{and_set, is_set, is_tested, names, or_behind, or_set, says, told_at, unsaid}

pub flag_told : (fs : List Bool) (at : ℕ) → flag_at fs at ≡ is_set (told_at fs at)
flag_told [] at = refl
flag_told (f ∷ fs) zero = refl
flag_told (f ∷ fs) (suc at) = flag_told fs at

flags_told : (fs : List Bool) (ks : List ℕ) → list_all (flag_at fs) ks ≡ list_all (λ k. is_set (told_at fs k)) ks
flags_told fs ks = λ i. list_all (λ k. flag_told fs k i) ks

pub known_told : (fs : List Bool) (e : Expr) → is_strict e ≡ true → list_all (λ k. is_set (told_at fs k)) (columns e) ≡ is_known fs e
known_told fs e h = sym (flags_told fs (columns e)) ∙ ap (λ b. b && list_all (flag_at fs) (columns e)) (sym h)

-- ---- lists of flags

pub told_append : (fs gs : List Bool) (at : ℕ) → told_at (fs ++ gs) at ≡ or_behind (told_at fs at) (told_at gs)
told_append [] gs at = refl
told_append (f ∷ fs) gs zero = refl
told_append (f ∷ fs) gs (suc at) = told_append fs gs at

append-here : (t : Told) (f : ℕ → Told) (b : Bool) → t ≡ told.Here b → or_behind t f ≡ told.Here b
append-here (told.Here c) f b h = h
append-here (told.Behind at) f b h = cc

append-past : (t : Told) (f : ℕ → Told) (n : ℕ) → t ≡ told.Behind n → or_behind t f ≡ f n
append-past t f n h = ap (λ z. or_behind z f) h

pub append_here : (fs gs : List Bool) (at : ℕ) (b : Bool) → told_at fs at ≡ told.Here b → told_at (fs ++ gs) at ≡ told.Here b
append_here fs gs at b h = told_append fs gs at ∙ append-here (told_at fs at) (told_at gs) b h

pub append_past : (fs gs : List Bool) (at n : ℕ) → told_at fs at ≡ told.Behind n → told_at (fs ++ gs) at ≡ told_at gs n
append_past fs gs at n h = told_append fs gs at ∙ append-past (told_at fs at) (told_at gs) n h

pub told_unset : (fs : List Bool) (at : ℕ) → told_at (unset fs) at ≡ unsaid (told_at fs at)
told_unset [] at = refl
told_unset (f ∷ fs) zero = refl
told_unset (f ∷ fs) (suc at) = told_unset fs at

module _ {A : Type 0} (f : A → Bool) where
  pub told_here : (xs : List A) (at : ℕ) (x : A) → slice_get xs at ≡ Some x → told_at (map f xs) at ≡ told.Here (f x)
  told_here [] at x h = cc
  told_here (y ∷ xs) zero x h = ap (λ z. told.Here (f z)) (same_Some y x h)
  told_here (y ∷ xs) (suc at) x h = told_here xs at x h

  pub told_behind : (xs : List A) (at : ℕ) → slice_get xs at ≡ None → told_at (map f xs) at ≡ told.Behind (at - length xs)
  told_behind [] at h = ap told.Behind (omega arith)
  told_behind (y ∷ xs) zero h = cc
  told_behind (y ∷ xs) (suc at) h = told_behind xs at h ∙ ap told.Behind (omega arith)

module _ (f : Expr → Bool) where
  pub expr_here : (es : List ExprValue) (at : ℕ) (e : ExprValue) → slice_get es at ≡ Some e → told_at (map f (map expr_seen es)) at ≡ told.Here (f (expr_seen e))
  expr_here [] at e h = cc
  expr_here (x ∷ es) zero e h = ap (λ z. told.Here (f (expr_seen z))) (same_Some x e h)
  expr_here (x ∷ es) (suc at) e h = expr_here es at e h

  pub expr_behind : (es : List ExprValue) (at : ℕ) → slice_get es at ≡ None → told_at (map f (map expr_seen es)) at ≡ told.Behind (at - length es)
  expr_behind [] at h = ap told.Behind (omega arith)
  expr_behind (x ∷ es) zero h = cc
  expr_behind (x ∷ es) (suc at) h = expr_behind es at h ∙ ap told.Behind (omega arith)

unsaid-known : (t : Told) (b : Bool) → t ≡ told.Here b → unsaid t ≡ told.Here false
unsaid-known t b h = ap unsaid h

pub expr_placed : (f : Expr → Bool) (es : List ExprValue) (at : ℕ) (e : ExprValue) → slice_get es at ≡ Some e → unsaid (told_at (map f (map expr_seen es)) at) ≡ told.Here false
expr_placed f es at e h = unsaid-known (told_at (map f (map expr_seen es)) at) (f (expr_seen e)) (expr_here f es at e h)

-- ---- set by something else

or-false : (t : Told) → or_set t false ≡ t
or-false (told.Here true) = refl
or-false (told.Here false) = refl
or-false (told.Behind at) = refl

or-or : (t : Told) (b c : Bool) → or_set (or_set t b) c ≡ or_set t (b || c)
or-or (told.Here true) b c = refl
or-or (told.Here false) b c = refl
or-or (told.Behind at) b c = refl

told-flag : (fs : List Bool) (k at : ℕ) → told_at (with_flag fs k) at ≡ or_set (told_at fs at) (nat_eq at k)
told-flag [] k at = refl
told-flag (true ∷ fs) zero zero = refl
told-flag (false ∷ fs) zero zero = refl
told-flag (f ∷ fs) zero (suc at) = sym (or-false (told_at fs at)) ∙ ap (or_set (told_at fs at)) (sym (eqb-suc-zero at))
told-flag (f ∷ fs) (suc k) zero = sym (or-false (told.Here f)) ∙ ap (or_set (told.Here f)) (sym (eqb-zero-suc k))
told-flag (f ∷ fs) (suc k) (suc at) = told-flag fs k at ∙ ap (or_set (told_at fs at)) (sym (eqb-suc-suc at k))

told-flags : (fs : List Bool) (ks : List ℕ) (at : ℕ) → told_at (with_flags fs ks) at ≡ or_set (told_at fs at) (list_any (nat_eq at) ks)
told-flags fs [] at = sym (or-false (told_at fs at))
told-flags fs (k ∷ ks) at =
    told-flags (with_flag fs k) ks at ∙ ap (λ t. or_set t (list_any (nat_eq at) ks)) (told-flag fs k at) ∙ or-or (told_at fs at) (nat_eq at k) (list_any (nat_eq at) ks)

told-side : (fs : List Bool) (e : Expr) (at : ℕ) → told_at (with_tested fs (IsNull e)) at ≡ or_set (told_at fs at) (names at e)
told-side fs e at = elim (nulls_on_null e) as (λ b. told_at (cond b (with_flags fs (columns e)) fs) at ≡ or_set (told_at fs at) (b && list_any (nat_eq at) (columns e))) [
  | true ↦ told-flags fs (columns e) at
  | false ↦ sym (or-false (told_at fs at))
]

told-tested : (fs : List Bool) (e : Expr) (at : ℕ) → told_at (with_tested fs e) at ≡ or_set (told_at fs at) (is_tested at e)
told-tested fs (IsNull e) at = told-side fs e at
told-tested fs _ at = sym (or-false (told_at fs at))

told-conjunct : (fs : List Bool) (c : Expr) (at : ℕ) → told_at (with_told fs c) at ≡ or_set (told_at fs at) (says at c)
told-conjunct fs (Same a b) at =
    told-side (with_tested fs (IsNull a)) b at ∙ ap (λ t. or_set t (names at b)) (told-side fs a at) ∙ or-or (told_at fs at) (names at a) (names at b)
told-conjunct fs (Not e) at = told-tested fs e at
told-conjunct fs _ at = sym (or-false (told_at fs at))

told-conjuncts : (fs : List Bool) (cs : List Expr) (at : ℕ) → told_at (fold with_told fs cs) at ≡ or_set (told_at fs at) (list_any (says at) cs)
told-conjuncts fs [] at = sym (or-false (told_at fs at))
told-conjuncts fs (c ∷ cs) at =
    told-conjuncts (with_told fs c) cs at ∙ ap (λ t. or_set t (list_any (says at) cs)) (told-conjunct fs c at) ∙ or-or (told_at fs at) (says at c) (list_any (says at) cs)

pub told_condition : (fs : List Bool) (c : Expr) (at : ℕ) → told_at (with_all_told fs c) at ≡ or_set (told_at fs at) (list_any (says at) (conjuncts c))
told_condition fs c at = told-conjuncts fs (conjuncts c) at

-- ---- common to several

and-and : (t : Told) (b c : Bool) → and_set (and_set t b) c ≡ and_set t (b && c)
and-and (told.Here true) b c = refl
and-and (told.Here false) b c = refl
and-and (told.Behind at) b c = refl

and-true : (t : Told) → t ≡ and_set t true
and-true (told.Here true) = refl
and-true (told.Here false) = refl
and-true (told.Behind at) = refl

none-set : (fs : List Bool) (at : ℕ) → told_at (both fs []) at ≡ and_set (told_at fs at) false
none-set [] at = refl
none-set (true ∷ fs) zero = refl
none-set (false ∷ fs) zero = refl
none-set (f ∷ fs) (suc at) = none-set fs at

told-both : (fs gs : List Bool) (at : ℕ) → told_at (both fs gs) at ≡ and_set (told_at fs at) (is_set (told_at gs at))
told-both [] gs at = refl
told-both (f ∷ fs) [] at = none-set (f ∷ fs) at
told-both (f ∷ fs) (g ∷ gs) zero = refl
told-both (f ∷ fs) (g ∷ gs) (suc at) = told-both fs gs at

pub told_common : (fs : List Bool) (fss : List (List Bool)) (at : ℕ) → told_at (fold both fs fss) at ≡ and_set (told_at fs at) (list_all (λ gs. is_set (told_at gs at)) fss)
told_common fs [] at = and-true (told_at fs at)
told_common fs (gs ∷ fss) at =
    told_common (both fs gs) fss at ∙ ap (λ t. and_set t (list_all (λ gs. is_set (told_at gs at)) fss)) (told-both fs gs at)
    ∙ and-and (told_at fs at) (is_set (told_at gs at)) (list_all (λ gs. is_set (told_at gs at)) fss)

-- ---- of which nothing is said

unsaid-behind : (t : Told) (f : ℕ → Told) → unsaid (or_behind t f) ≡ or_behind (unsaid t) (λ at. unsaid (f at))
unsaid-behind (told.Here b) f = refl
unsaid-behind (told.Behind at) f = refl

unsaid-or : (t : Told) (b : Bool) → unsaid (or_set t b) ≡ unsaid t
unsaid-or (told.Here c) b = refl
unsaid-or (told.Behind at) b = refl

unsaid-and : (t : Told) (b : Bool) → unsaid (and_set t b) ≡ unsaid t
unsaid-and (told.Here c) b = refl
unsaid-and (told.Behind at) b = refl

unsaid-twice : (t : Told) → unsaid (unsaid t) ≡ unsaid t
unsaid-twice (told.Here c) = refl
unsaid-twice (told.Behind at) = refl

placed-append : (fs gs : List Bool) (at : ℕ) → unsaid (told_at (fs ++ gs) at) ≡ or_behind (unsaid (told_at fs at)) (λ n. unsaid (told_at gs n))
placed-append fs gs at = ap unsaid (told_append fs gs at) ∙ unsaid-behind (told_at fs at) (told_at gs)

unsaid-here : (t : Told) (b : Bool) → unsaid t ≡ told.Here b → unsaid t ≡ told.Here false
unsaid-here (told.Here c) b h = refl
unsaid-here (told.Behind at) b h = cc

pub placed_here : (fs gs : List Bool) (at : ℕ) (b : Bool) → unsaid (told_at fs at) ≡ told.Here b → unsaid (told_at (fs ++ gs) at) ≡ told.Here false
placed_here fs gs at b h = placed-append fs gs at ∙ append-here (unsaid (told_at fs at)) (λ n. unsaid (told_at gs n)) false (unsaid-here (told_at fs at) b h)

pub placed_past : (fs gs : List Bool) (at n : ℕ) → unsaid (told_at fs at) ≡ told.Behind n → unsaid (told_at (fs ++ gs) at) ≡ unsaid (told_at gs n)
placed_past fs gs at n h = placed-append fs gs at ∙ append-past (unsaid (told_at fs at)) (λ n. unsaid (told_at gs n)) n h

pub placed_two : (fs gs : List Bool) (at : ℕ) → unsaid (told_at (fs ++ unset gs) at) ≡ or_behind (unsaid (told_at fs at)) (λ n. unsaid (told_at gs n))
placed_two fs gs at = placed-append fs (unset gs) at ∙ ap (or_behind (unsaid (told_at fs at))) (λ i n. (ap unsaid (told_unset gs n) ∙ unsaid-twice (told_at gs n)) i)

pub placed_condition : (fs : List Bool) (c : Expr) (at : ℕ) → unsaid (told_at (with_all_told fs c) at) ≡ unsaid (told_at fs at)
placed_condition fs c at = ap unsaid (told_condition fs c at) ∙ unsaid-or (told_at fs at) (list_any (says at) (conjuncts c))

placed-common : (fs : List Bool) (fss : List (List Bool)) (at : ℕ) → unsaid (told_at (fold both fs fss) at) ≡ unsaid (told_at fs at)
placed-common fs fss at = ap unsaid (told_common fs fss at) ∙ unsaid-and (told_at fs at) (list_all (λ gs. is_set (told_at gs at)) fss)

and-here : (t : Told) (c b : Bool) → unsaid t ≡ told.Here b → and_set t c ≡ told.Here (is_set t && c)
and-here (told.Here a) c b h = refl
and-here (told.Behind at) c b h = cc

and-past : (t : Told) (c : Bool) (n : ℕ) → unsaid t ≡ told.Behind n → and_set t c ≡ told.Behind n
and-past (told.Here a) c n h = cc
and-past (told.Behind at) c n h = h

-- ---- of the members of a join and of a union

module _ (s : Tables) where
  abbrev flags : List PlanValue → List (List Bool)
  flags ps = never_null_each s (plans (map plan_seen ps))

  here : (ps : List PlanValue) (i : ℕ) (p : PlanValue) → i < length ps → p ≡ get_or ps i p → drop i ps ≡ p ∷ drop (i + 1) ps
  here ps i p below is = drop-cons ps i p below ∙ ap (λ n. get_or ps i p ∷ drop n ps) (sym (add-one i)) ∙ ap (λ q. q ∷ drop (i + 1) ps) (sym is)

  pub member_here : (ps : List PlanValue) (i at : ℕ) (p : PlanValue) (b : Bool) → i < length ps → p ≡ get_or ps i p → told_at (never_null s (plan_seen p)) at ≡ told.Here b →
      told_at (flags_beside (flags (drop i ps))) at ≡ told.Here b
  member_here ps i at p b below is h = ap (λ l. told_at (flags_beside (flags l)) at) (here ps i p below is) ∙ append_here (never_null s (plan_seen p)) (flags_beside (flags (drop (i + 1) ps))) at b h

  pub member_past : (ps : List PlanValue) (i at n : ℕ) (p : PlanValue) → i < length ps → p ≡ get_or ps i p → told_at (never_null s (plan_seen p)) at ≡ told.Behind n →
      told_at (flags_beside (flags (drop i ps))) at ≡ told_at (flags_beside (flags (drop (i + 1) ps))) n
  member_past ps i at n p below is h = ap (λ l. told_at (flags_beside (flags l)) at) (here ps i p below is) ∙ append_past (never_null s (plan_seen p)) (flags_beside (flags (drop (i + 1) ps))) at n h

  pub member_placed : (ps : List PlanValue) (i at : ℕ) (p : PlanValue) (b : Bool) → i < length ps → p ≡ get_or ps i p → unsaid (told_at (never_null s (plan_seen p)) at) ≡ told.Here b →
      unsaid (told_at (flags_beside (flags (drop i ps))) at) ≡ told.Here false
  member_placed ps i at p b below is h = ap (λ l. unsaid (told_at (flags_beside (flags l)) at)) (here ps i p below is) ∙ placed_here (never_null s (plan_seen p)) (flags_beside (flags (drop (i + 1) ps))) at b h

  pub member_behind : (ps : List PlanValue) (i at n : ℕ) (p : PlanValue) → i < length ps → p ≡ get_or ps i p → unsaid (told_at (never_null s (plan_seen p)) at) ≡ told.Behind n →
      unsaid (told_at (flags_beside (flags (drop i ps))) at) ≡ unsaid (told_at (flags_beside (flags (drop (i + 1) ps))) n)
  member_behind ps i at n p below is h = ap (λ l. unsaid (told_at (flags_beside (flags l)) at)) (here ps i p below is) ∙ placed_past (never_null s (plan_seen p)) (flags_beside (flags (drop (i + 1) ps))) at n h

  pub placed_first : (ps : List PlanValue) (at : ℕ) (p : PlanValue) → 1 ≤ length ps → p ≡ get_or ps 0 p → unsaid (told_at (common (flags ps)) at) ≡ unsaid (told_at (never_null s (plan_seen p)) at)
  placed_first [] at p l h = absurd (omega (arith, l))
  placed_first (q ∷ ps) at p l h = placed-common (never_null s (plan_seen q)) (flags ps) at ∙ ap (λ x. unsaid (told_at (never_null s (plan_seen x)) at)) (sym h)

  pub common_here : (ps : List PlanValue) (at : ℕ) (p : PlanValue) (b : Bool) → 1 ≤ length ps → p ≡ get_or ps 0 p → unsaid (told_at (never_null s (plan_seen p)) at) ≡ told.Here b →
      told_at (common (flags ps)) at ≡ told.Here (list_all (λ fs. is_set (told_at fs at)) (flags ps))
  common_here [] at p b l h e = absurd (omega (arith, l))
  common_here (q ∷ ps) at p b l h e =
      told_common (never_null s (plan_seen q)) (flags ps) at
      ∙ and-here (told_at (never_null s (plan_seen q)) at) (list_all (λ fs. is_set (told_at fs at)) (flags ps)) b (subst (λ x. unsaid (told_at (never_null s (plan_seen x)) at) ≡ told.Here b) h e)

  pub common_past : (ps : List PlanValue) (at : ℕ) (p : PlanValue) (n : ℕ) → 1 ≤ length ps → p ≡ get_or ps 0 p → unsaid (told_at (never_null s (plan_seen p)) at) ≡ told.Behind n →
      told_at (common (flags ps)) at ≡ told.Behind n
  common_past [] at p n l h e = absurd (omega (arith, l))
  common_past (q ∷ ps) at p n l h e =
      told_common (never_null s (plan_seen q)) (flags ps) at
      ∙ and-past (told_at (never_null s (plan_seen q)) at) (list_all (λ fs. is_set (told_at fs at)) (flags ps)) n (subst (λ x. unsaid (told_at (never_null s (plan_seen x)) at) ≡ told.Behind n) h e)
