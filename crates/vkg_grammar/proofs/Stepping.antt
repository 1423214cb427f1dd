-- What the steps of the parser keep, over derivations alone.
use Rattle.std.proofs.Common.{◌<◌, ◌≡◌, ℕ, ◌⊎◌, inl, inr, List, [], ◌∷◌, ◌++◌, length, Option, Some, None, refl, ap, sym, ◌∙◌, subst, append_assoc}
use Rattle.vkg_lists.proofs.Members.{recursion_append}
use Rattle.vkg_lists.specs.Lists.{AllBelow}
use Rattle.vkg_lists.proofs.Heads.{head_same, tail_same}
use Rattle.vkg_grammar.specs.declared.note.Act.TheVariants.{Leaf}
use Rattle.vkg_grammar.specs.declared.note.Note.{Note}
use Rattle.vkg_grammar.specs.declared.rule.Rule.{Rule}
use Rattle.vkg_grammar.specs.Machine.{Sees, at_end_of, at_token, Ahead, Fits, Picked, begins, empties, Reach, Takes, IsDead}
use Rattle.vkg_grammar.specs.Grammar.{noted, at_parts, at_first, at_second, One, Parts, Choice, shape_of, Derives, read, parts, first, second, MayBegin, IsWay, the_parts, the_first, the_second, MayFollow, within, at_end, IsLL1, IsGrammar}
use Rattle.vkg_grammar.proofs.Core.{Split, split, spelled, Apart, apart, apart_other, starts_seen, forced, forced_empty}

pub fits_way : {g : List Rule} {n : ℕ} {s : List ℕ} (before xs : List ℕ) → IsWay g n (before ++ xs) → ((k : ℕ) → MayBegin g s k → MayFollow g n k) → Fits g s → Fits g (xs ++ s)
fits_way before [] w f fs = fs
fits_way {g = g} {n = n} {s = s} before (x ∷ xs) w f fs =
    (λ k b. follows k b.0 b.1 b.2, fits_way (before ++ x ∷ []) xs (subst (λ y. IsWay g n y) (sym (append_assoc before (x ∷ []) xs)) w) f fs)
  where
    follows : (k : ℕ) (ts : List ℕ) (ws : List Note) → Derives g (xs ++ s) (k ∷ ts) ws → MayFollow g x k
    follows k ts ws d = elim (starts_seen xs f d) [ inl b ↦ within n before xs w b | inr p ↦ at_end n before xs w p.0 p.1 ]

-- inversion at the top of the stack
pub data OfParts (g : List Rule) (n : ℕ) (xs s ts : List ℕ) : List Note → Type 0 where
  by_parts : {left : List Note} → Derives g (xs ++ s) ts left → OfParts g n xs s ts (noted n (at_parts xs) ∷ left)

pub of_parts : {g : List Rule} {n : ℕ} {xs s ts : List ℕ} {ws : List Note} → shape_of g n ≡ Parts xs → Derives g (n ∷ s) ts ws → OfParts g n xs s ts ws
of_parts e (read q d) = absurd (cc)
of_parts {g = g} {n = n} {xs = xs} {s = s} {ts = ts} e (parts {xs = zs} {ws = ws} q d) = let same : zs ≡ xs = cc in subst (λ y. OfParts g n y s ts (noted n (at_parts zs) ∷ ws)) same (by_parts d)
of_parts e (first q d) = absurd (cc)
of_parts e (second q d) = absurd (cc)

pub data OfOne (g : List Rule) (n k : ℕ) (s : List ℕ) : List ℕ → List Note → Type 0 where
  by_one : {ts : List ℕ} {left : List Note} → Derives g s ts left → OfOne g n k s (k ∷ ts) (noted n Leaf ∷ left)

pub of_one : {g : List Rule} {n k : ℕ} {s ts : List ℕ} {ws : List Note} → shape_of g n ≡ One k → Derives g (n ∷ s) ts ws → OfOne g n k s ts ws
of_one {g = g} {n = n} {k = k} {s = s} e (read {k = j} {ts = ts} {ws = ws} q d) = let same : j ≡ k = cc in subst (λ y. OfOne g n y s (j ∷ ts) (noted n Leaf ∷ ws)) same (by_one d)
of_one e (parts q d) = absurd (cc)
of_one e (first q d) = absurd (cc)
of_one e (second q d) = absurd (cc)

pub data OfChoice (g : List Rule) (n : ℕ) (xs ys s ts : List ℕ) : List Note → Type 0 where
  by_first : {left : List Note} → Derives g (xs ++ s) ts left → OfChoice g n xs ys s ts (noted n (at_first xs) ∷ left)
  by_second : {left : List Note} → Derives g (ys ++ s) ts left → OfChoice g n xs ys s ts (noted n (at_second ys) ∷ left)

pub of_choice : {g : List Rule} {n : ℕ} {xs ys s ts : List ℕ} {ws : List Note} → shape_of g n ≡ Choice xs ys → Derives g (n ∷ s) ts ws → OfChoice g n xs ys s ts ws
of_choice e (read q d) = absurd (cc)
of_choice e (parts q d) = absurd (cc)
of_choice {g = g} {n = n} {xs = xs} {ys = ys} {s = s} {ts = ts} e (first {xs = zs} {ws = ws} q d) = let same : zs ≡ xs = cc in subst (λ y. OfChoice g n y ys s ts (noted n (at_first zs) ∷ ws)) same (by_first d)
of_choice {g = g} {n = n} {xs = xs} {ys = ys} {s = s} {ts = ts} e (second {ys = zs} {ws = ws} q d) = let same : zs ≡ ys = cc in subst (λ y. OfChoice g n xs y s ts (noted n (at_second zs) ∷ ws)) same (by_second d)

pub not_other : {g : List Rule} {n : ℕ} {xs ys s : List ℕ} {c : Option ℕ} {ts : List ℕ} {ws : List Note} → Apart g n xs ys → ((k : ℕ) → MayBegin g s k → MayFollow g n k) → Picked g xs ys c → Sees c ts → Derives g (ys ++ s) ts ws → ⊥
not_other a f (begins h) see d = forced a f h see d
not_other a f (empties h never) at_token d = forced_empty a f h never d

pub reach_start : {g : List Rule} {s : List ℕ} (c : Option ℕ) → Fits g s → AllBelow (length g) s → Reach g c s s []
reach_start c f b = record { forward = λ ts ws d. d; backward = λ ts ws see d. (ws, refl, d); fits = f; below = b }

pub reach_parts : {g : List Rule} {c : Option ℕ} {old s xs : List ℕ} {n : ℕ} {taken : List Note} → IsGrammar g → shape_of g n ≡ Parts xs → Reach g c old (n ∷ s) taken → Reach g c old (xs ++ s) (taken ++ noted n (at_parts xs) ∷ [])
reach_parts {g = g} {old = old} {s = s} {xs = xs} {n = n} {taken = taken} w e r = record {
  forward = λ ts ws d. subst (λ y. Derives g old ts y) (sym (append_assoc taken (noted n (at_parts xs) ∷ []) ws)) (r.forward ts (noted n (at_parts xs) ∷ ws) (parts e d));
  backward = λ ts ws see d. let b : (left : List Note) × (ws ≡ taken ++ left) × Derives g (n ∷ s) ts left = r.backward ts ws see d in on ts ws b.0 b.1 (of_parts e b.2);
  fits = fits_way [] xs (the_parts e) r.fits.0 r.fits.1;
  below = recursion_append (λ k. k < length g) xs s (w.closed n xs r.below.0 (the_parts e)) r.below.1;
}
  where
    on : (ts : List ℕ) (ws left : List Note) → ws ≡ taken ++ left → OfParts g n xs s ts left → (left' : List Note) × (ws ≡ (taken ++ noted n (at_parts xs) ∷ []) ++ left') × Derives g (xs ++ s) ts left'
    on ts ws left q (by_parts {left = l} d) = (l, q ∙ sym (append_assoc taken (noted n (at_parts xs) ∷ []) l), d)

pub reach_first : {g : List Rule} {c : Option ℕ} {old s xs ys : List ℕ} {n : ℕ} {taken : List Note} → IsGrammar g → IsLL1 g → shape_of g n ≡ Choice xs ys → Picked g xs ys c → Reach g c old (n ∷ s) taken → Reach g c old (xs ++ s) (taken ++ noted n (at_first xs) ∷ [])
reach_first {g = g} {c = c} {old = old} {s = s} {xs = xs} {ys = ys} {n = n} {taken = taken} w ll e p r = record {
  forward = λ ts ws d. subst (λ y. Derives g old ts y) (sym (append_assoc taken (noted n (at_first xs) ∷ []) ws)) (r.forward ts (noted n (at_first xs) ∷ ws) (first e d));
  backward = λ ts ws see d. let b : (left : List Note) × (ws ≡ taken ++ left) × Derives g (n ∷ s) ts left = r.backward ts ws see d in on ts ws b.0 see b.1 (of_choice e b.2);
  fits = fits_way [] xs (the_first e) r.fits.0 r.fits.1;
  below = recursion_append (λ k. k < length g) xs s (w.closed n xs r.below.0 (the_first e)) r.below.1;
}
  where
    on : (ts : List ℕ) (ws left : List Note) → Sees c ts → ws ≡ taken ++ left → OfChoice g n xs ys s ts left → (left' : List Note) × (ws ≡ (taken ++ noted n (at_first xs) ∷ []) ++ left') × Derives g (xs ++ s) ts left'
    on ts ws left see q (by_first {left = l} d) = (l, q ∙ sym (append_assoc taken (noted n (at_first xs) ∷ []) l), d)
    on ts ws left see q (by_second d) = absurd (not_other (apart ll r.below.0 e) r.fits.0 p see d)

pub reach_second : {g : List Rule} {c : Option ℕ} {old s xs ys : List ℕ} {n : ℕ} {taken : List Note} → IsGrammar g → IsLL1 g → shape_of g n ≡ Choice xs ys → Picked g ys xs c → Reach g c old (n ∷ s) taken → Reach g c old (ys ++ s) (taken ++ noted n (at_second ys) ∷ [])
reach_second {g = g} {c = c} {old = old} {s = s} {xs = xs} {ys = ys} {n = n} {taken = taken} w ll e p r = record {
  forward = λ ts ws d. subst (λ y. Derives g old ts y) (sym (append_assoc taken (noted n (at_second ys) ∷ []) ws)) (r.forward ts (noted n (at_second ys) ∷ ws) (second e d));
  backward = λ ts ws see d. let b : (left : List Note) × (ws ≡ taken ++ left) × Derives g (n ∷ s) ts left = r.backward ts ws see d in on ts ws b.0 see b.1 (of_choice e b.2);
  fits = fits_way [] ys (the_second e) r.fits.0 r.fits.1;
  below = recursion_append (λ k. k < length g) ys s (w.closed n ys r.below.0 (the_second e)) r.below.1;
}
  where
    on : (ts : List ℕ) (ws left : List Note) → Sees c ts → ws ≡ taken ++ left → OfChoice g n xs ys s ts left → (left' : List Note) × (ws ≡ (taken ++ noted n (at_second ys) ∷ []) ++ left') × Derives g (ys ++ s) ts left'
    on ts ws left see q (by_second {left = l} d) = (l, q ∙ sym (append_assoc taken (noted n (at_second ys) ∷ []) l), d)
    on ts ws left see q (by_first d) = absurd (not_other (apart_other (apart ll r.below.0 e)) r.fits.0 p see d)

pub takes_token : {g : List Rule} {k n : ℕ} {old s : List ℕ} {taken : List Note} → shape_of g n ≡ One k → Reach g (Some k) old (n ∷ s) taken → Takes g k old s (taken ++ noted n Leaf ∷ [])
takes_token {g = g} {k = k} {n = n} {old = old} {s = s} {taken = taken} e r = record {
  forward = λ ts ws d. subst (λ y. Derives g old (k ∷ ts) y) (sym (append_assoc taken (noted n Leaf ∷ []) ws)) (r.forward (k ∷ ts) (noted n Leaf ∷ ws) (read e d));
  backward = λ ts ws d. let b : (left : List Note) × (ws ≡ taken ++ left) × Derives g (n ∷ s) (k ∷ ts) left = r.backward (k ∷ ts) ws at_token d in on ts ws b.0 b.1 (of_one e b.2);
  fits = r.fits.1;
  below = r.below.1;
}
  where
    same_rest : {ts us : List ℕ} {left : List Note} → us ≡ k ∷ ts → OfOne g n k s us left → (left' : List Note) × (left ≡ noted n Leaf ∷ left') × Derives g s ts left'
    same_rest h (by_one {left = l} d) = (l, refl, spelled (tail_same _ _ _ _ h) d)

    on : (ts : List ℕ) (ws left : List Note) → ws ≡ taken ++ left → OfOne g n k s (k ∷ ts) left → (left' : List Note) × (ws ≡ (taken ++ noted n Leaf ∷ []) ++ left') × Derives g s ts left'
    on ts ws left q o = let r : (left' : List Note) × (left ≡ noted n Leaf ∷ left') × Derives g s ts left' = same_rest refl o in (r.0, q ∙ ap (λ y. taken ++ y) r.1 ∙ sym (append_assoc taken (noted n Leaf ∷ []) r.0), r.2)

pub stuck_out : {g : List Rule} {k : ℕ} {old : List ℕ} {taken : List Note} → Reach g (Some k) old [] taken → IsDead g old (Some k)
stuck_out {g = g} {k = k} r = λ ts ws see d. let b : (left : List Note) × (ws ≡ _ ++ left) × Derives g [] ts left = r.backward ts ws see d in none see b.2
  where
    none : {ts : List ℕ} {ws : List Note} → Sees (Some k) ts → Derives g [] ts ws → ⊥
    none at_token d = elim d [ ]

pub sees_front : {c : Option ℕ} {ts : List ℕ} (u v : List ℕ) → Sees c ts → ts ≡ u ++ v → Sees c u ⊎ (u ≡ [])
sees_front [] v see e = inr refl
sees_front (x ∷ u) v at_end_of e = absurd (cc)
sees_front (x ∷ u) v (at_token {k = k}) e = inl (subst (λ y. Sees (Some k) (y ∷ u)) (head_same _ _ _ _ e) at_token)

pub stuck : {g : List Rule} {c : Option ℕ} {n : ℕ} {old s : List ℕ} {taken : List Note} → (Ahead g (n ∷ []) c → ⊥) → (Ahead g (n ∷ []) None → ⊥) → Reach g c old (n ∷ s) taken → IsDead g old c
stuck {g = g} {c = c} {n = n} {s = s} here empty r = λ ts ws see d. let b : (left : List Note) × (ws ≡ _ ++ left) × Derives g (n ∷ s) ts left = r.backward ts ws see d in by_split ts b.0 see (split (n ∷ []) s refl b.2)
  where
    by_split : (ts : List ℕ) (left : List Note) → Sees c ts → Split g (n ∷ []) s ts left → ⊥
    by_split ts left see r' = elim (sees_front r'.front r'.back see r'.tokens) [ inl h ↦ here (record { tokens = r'.front; ways = r'.front_ways; sees = h; derives = r'.of_front }) | inr e ↦ empty (record { tokens = []; ways = r'.front_ways; sees = at_end_of; derives = spelled e r'.of_front }) ]
