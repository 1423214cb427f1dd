-- Variables by first appearance.
use Rattle.std.proofs.Common.{◌≡◌, ◌∙◌, ℕ, true, false, not, List, [], ◌∷◌, ◌++◌, nat_eq, refl, sym, ap, subst, true≢false, append_assoc, append-nil}
use Rattle.std.specs.List.{filter, list_any, Contains}
use Rattle.vkg_lists.proofs.Counts.{Decides-contains_test}
use Rattle.vkg_lists.proofs.Distinct.{Contains-distinct, Contains-from_distinct, distinct-append, distinct-distinct, distinct_push_new, distinct_push_old, list_any-distinct}
use Rattle.vkg_lists.proofs.Tests.{nat_test}
use Rattle.vkg_algebra.specs.Algebra.{Algebra, Bgp, Join, LeftJoin, Union, Filter, Graph, Minus, Table, Extend}
use Rattle.vkg_algebra.specs.Visible.{AddsEach, appearing, each_once, name_variables, visible}

-- each of two lists may be taken with each number once
pub each_once-append : (xs ys : List ℕ) → each_once (each_once xs ++ each_once ys) ≡ each_once (xs ++ ys)
each_once-append xs ys =
    distinct-append nat_test (each_once xs) (each_once ys)
    ∙ (λ i. distinct-distinct nat_eq xs i ++ filter (λ y. not (list_any-distinct nat_test xs y i)) (distinct-distinct nat_eq ys i))
    ∙ sym (distinct-append nat_test xs ys)

each_once-append_left : (xs ys : List ℕ) → each_once (each_once xs ++ ys) ≡ each_once (xs ++ ys)
each_once-append_left xs ys =
    distinct-append nat_test (each_once xs) ys
    ∙ (λ i. distinct-distinct nat_eq xs i ++ filter (λ y. not (list_any-distinct nat_test xs y i)) (each_once ys))
    ∙ sym (distinct-append nat_test xs ys)

each_once-append_right : (xs ys : List ℕ) → each_once (xs ++ each_once ys) ≡ each_once (xs ++ ys)
each_once-append_right xs ys =
    distinct-append nat_test xs (each_once ys)
    ∙ (λ i. each_once xs ++ filter (λ y. not (list_any (λ x. nat_eq x y) xs)) (distinct-distinct nat_eq ys i))
    ∙ sym (distinct-append nat_test xs ys)

-- by first appearance
pub each_once_appearing : (a : Algebra) → each_once (appearing a) ≡ visible a
each_once_appearing (Bgp ps) = refl
each_once_appearing (Join a b) = sym (each_once-append (appearing a) (appearing b)) ∙ (λ i. each_once (each_once_appearing a i ++ each_once_appearing b i))
each_once_appearing (LeftJoin a b c) = sym (each_once-append (appearing a) (appearing b)) ∙ (λ i. each_once (each_once_appearing a i ++ each_once_appearing b i))
each_once_appearing (Union a b) = sym (each_once-append (appearing a) (appearing b)) ∙ (λ i. each_once (each_once_appearing a i ++ each_once_appearing b i))
each_once_appearing (Filter c a) = each_once_appearing a
each_once_appearing (Minus a b) = each_once_appearing a
each_once_appearing (Table vs rows) = refl
each_once_appearing (Extend a v c) = sym (each_once-append_left (appearing a) (v ∷ [])) ∙ (λ i. each_once (each_once_appearing a i ++ v ∷ []))
each_once_appearing (Graph name a) = sym (each_once-append_right (name_variables name) (appearing a)) ∙ (λ i. each_once (name_variables name ++ each_once_appearing a i))

-- a list of visible variables names each once
pub visible_once : (a : Algebra) → each_once (visible a) ≡ visible a
visible_once a = ap each_once (sym (each_once_appearing a)) ∙ distinct-distinct nat_eq (appearing a) ∙ each_once_appearing a

pub adds_none : (s : List ℕ) → AddsEach [] s s
adds_none s before e = e ∙ ap each_once (sym (append-nil before))

pub adds_both : {vs ws r s t : List ℕ} → AddsEach vs r s → AddsEach ws s t → AddsEach (vs ++ ws) r t
adds_both {vs} {ws} f g before e = g (before ++ vs) (f before e) ∙ ap each_once (append_assoc before vs ws)

pub adds_old : (found : List ℕ) (v : ℕ) → list_any (λ k. nat_eq k v) found ≡ true → AddsEach (v ∷ []) found found
adds_old found v h before e =
    let there : Contains (each_once before) v = subst (λ s. Contains s v) e ((Decides-contains_test nat_test found v).0 h) in
    e ∙ sym (distinct_push_old nat_test before v (Contains-from_distinct nat_eq before v there))

pub adds_new : (found : List ℕ) (v : ℕ) → list_any (λ k. nat_eq k v) found ≡ false → AddsEach (v ∷ []) found (found ++ v ∷ [])
adds_new found v h before e =
    let apart : Contains before v → ⊥ = λ c. true≢false (sym ((Decides-contains_test nat_test found v).1 (subst (λ s. Contains s v) (sym e) (Contains-distinct nat_test before v c))) ∙ h) in
    ap (λ s. s ++ v ∷ []) e ∙ sym (distinct_push_new nat_test before v apart)
