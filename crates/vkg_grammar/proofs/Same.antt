-- The engine's derivations and these are the same.
use Rattle.std.proofs.Common.{◌≡◌, ℕ, ◌+◌, List, [], ◌∷◌, ◌++◌, length, Some, refl, ap, sym, ◌∙◌, subst, append-nil, arith}
use Rattle.vkg_lists.proofs.Heads.{head_same}
use Rattle.vkg_grammar.specs.declared.rule.Rule.{Rule}
use Rattle.vkg_grammar.specs.declared.rule.Rule.TheVariants.{Token, Empty, Then, Either, Optional, Repeated}
use Rattle.vkg_grammar.specs.declared.note.Note.{Note}
use Rattle.vkg_grammar.specs.declared.note.Act.{Act}
use Rattle.vkg_grammar.specs.declared.note.Act.TheVariants.{Leaf, Nothing, Pair, First, Second}
use Rattle.vkg_grammar.specs.Grammar.{noted, One, Parts, Choice, shape, at_parts, at_first, at_second}
use Rattle.vkg_grammar.specs.Grammar as engine
use Rattle.vkg_grammar.specs.Laws.{TextsHaveTrees}
use Rattle.vkg_grammar.specs.Parsing.{IsTheText}
use Rattle.vkg_grammar.specs.Trees.{Tree, size}
use Rattle.vkg_grammar.specs.Decoding.{acts_of, decoded, steps_of}
use Rattle.vkg_grammar.proofs.Decode.{decodes}
use Rattle.vkg_grammar.specs.OneTree.{rule, parts, IsTreeOf, IsTheTree}
use Rattle.vkg_grammar.proofs.BySteps.{Derives, done, read, by}
use Rattle.vkg_grammar.proofs.Growing.{derives, has_tree, one_tree}

token_of : (r : Rule) (n k : ℕ) → shape n r ≡ One k → r ≡ Token k
token_of (Token j) n k e = cc
token_of Empty n k e = absurd (cc)
token_of (Then a b) n k e = absurd (cc)
token_of (Either a b) n k e = absurd (cc)
token_of (Optional a) n k e = absurd (cc)
token_of (Repeated a) n k e = absurd (cc)

parts_of : (r : Rule) (n : ℕ) (xs : List ℕ) → shape n r ≡ Parts xs → parts r n (at_parts xs) ≡ Some xs
parts_of (Token j) n xs e = absurd (cc)
parts_of Empty n xs e = let same : [] ≡ xs = cc in subst (λ y. parts Empty n (at_parts y) ≡ Some y) same refl
parts_of (Then a b) n xs e = let same : a ∷ b ∷ [] ≡ xs = cc in subst (λ y. parts (Then a b) n (at_parts y) ≡ Some y) same refl
parts_of (Either a b) n xs e = absurd (cc)
parts_of (Optional a) n xs e = absurd (cc)
parts_of (Repeated a) n xs e = absurd (cc)

first_of : (r : Rule) (n : ℕ) (xs ys : List ℕ) → shape n r ≡ Choice xs ys → parts r n (at_first xs) ≡ Some xs
first_of (Token j) n xs ys e = absurd (cc)
first_of Empty n xs ys e = absurd (cc)
first_of (Then a b) n xs ys e = absurd (cc)
first_of (Either a b) n xs ys e = let same : a ∷ [] ≡ xs = cc in subst (λ y. parts (Either a b) n (at_first y) ≡ Some y) same refl
first_of (Optional a) n xs ys e = let same : a ∷ [] ≡ xs = cc in subst (λ y. parts (Optional a) n (at_first y) ≡ Some y) same refl
first_of (Repeated a) n xs ys e = let same : a ∷ n ∷ [] ≡ xs = cc in subst (λ y. parts (Repeated a) n (at_first y) ≡ Some y) same refl

second_of : (r : Rule) (n : ℕ) (xs ys : List ℕ) → shape n r ≡ Choice xs ys → parts r n (at_second ys) ≡ Some ys
second_of (Token j) n xs ys e = absurd (cc)
second_of Empty n xs ys e = absurd (cc)
second_of (Then a b) n xs ys e = absurd (cc)
second_of (Either a b) n xs ys e = let same : b ∷ [] ≡ ys = cc in subst (λ y. parts (Either a b) n (at_second y) ≡ Some y) same refl
second_of (Optional a) n xs ys e = let same : [] ≡ ys = cc in subst (λ y. parts (Optional a) n (at_second y) ≡ Some y) same refl
second_of (Repeated a) n xs ys e = let same : [] ≡ ys = cc in subst (λ y. parts (Repeated a) n (at_second y) ≡ Some y) same refl

pub from_engine : {g : List Rule} {s ts : List ℕ} {ws : List Note} → engine.Derives g s ts ws → Derives g s ts (acts_of ws)
from_engine engine.done = done
from_engine {g = g} (engine.read {n = n} {k = k} e d) = read (token_of (rule g n) n k e) (from_engine d)
from_engine {g = g} (engine.parts {n = n} {xs = xs} e d) = by (parts_of (rule g n) n xs e) (from_engine d)
from_engine {g = g} (engine.first {n = n} {xs = xs} {ys = ys} e d) = by (first_of (rule g n) n xs ys e) (from_engine d)
from_engine {g = g} (engine.second {n = n} {xs = xs} {ys = ys} e d) = by (second_of (rule g n) n xs ys e) (from_engine d)

-- how the engine sees an act
data Way (n : ℕ) (r : Rule) (xs : List ℕ) (act : Act) : Type 0 where
  only_way : shape n r ≡ Parts xs → act ≡ at_parts xs → Way n r xs act
  first_way : (ys : List ℕ) → shape n r ≡ Choice xs ys → act ≡ at_first xs → Way n r xs act
  second_way : (ys : List ℕ) → shape n r ≡ Choice ys xs → act ≡ at_second xs → Way n r xs act

way_of : (r : Rule) (n : ℕ) (act : Act) (xs : List ℕ) → parts r n act ≡ Some xs → Way n r xs act
way_of Empty n Nothing xs e = let same : [] ≡ xs = cc in subst (λ y. Way n Empty y Nothing) same (only_way refl refl)
way_of (Then a b) n Pair xs e = let same : a ∷ b ∷ [] ≡ xs = cc in subst (λ y. Way n (Then a b) y Pair) same (only_way refl refl)
way_of (Either a b) n First xs e = let same : a ∷ [] ≡ xs = cc in subst (λ y. Way n (Either a b) y First) same (first_way (b ∷ []) refl refl)
way_of (Either a b) n Second xs e = let same : b ∷ [] ≡ xs = cc in subst (λ y. Way n (Either a b) y Second) same (second_way (a ∷ []) refl refl)
way_of (Optional a) n First xs e = let same : a ∷ [] ≡ xs = cc in subst (λ y. Way n (Optional a) y First) same (first_way [] refl refl)
way_of (Optional a) n Nothing xs e = let same : [] ≡ xs = cc in subst (λ y. Way n (Optional a) y Nothing) same (second_way (a ∷ []) refl refl)
way_of (Repeated a) n Pair xs e = let same : a ∷ n ∷ [] ≡ xs = cc in subst (λ y. Way n (Repeated a) y Pair) same (first_way [] refl refl)
way_of (Repeated a) n Nothing xs e = let same : [] ≡ xs = cc in subst (λ y. Way n (Repeated a) y Nothing) same (second_way (a ∷ n ∷ []) refl refl)
way_of r n act xs e = absurd (cc)

-- a derivation with these acts
record Noted (g : List Rule) (s ts : List ℕ) (q : List Act) : Type 0 where
  notes : List Note
  derives : engine.Derives g s ts notes
  acts : acts_of notes ≡ q

to_engine : {g : List Rule} {s ts : List ℕ} {q : List Act} → Derives g s ts q → Noted g s ts q
to_engine done = record { notes = []; derives = engine.done; acts = refl }
to_engine {g = g} (read {n = n} {k = k} e d) =
    let r = to_engine d in
    record { notes = noted n Leaf ∷ r.notes; derives = engine.read (ap (shape n) e) r.derives; acts = ap (λ z. Leaf ∷ z) r.acts }
to_engine {g = g} (by {n = n} {step = act} {xs = xs} {s = s} {ts = ts} {q = q} e d) = on (way_of (rule g n) n act xs e) (to_engine d)
  where
    on : Way n (rule g n) xs act → Noted g (xs ++ s) ts q → Noted g (n ∷ s) ts (act ∷ q)
    on (only_way f h) r = record { notes = noted n (at_parts xs) ∷ r.notes; derives = engine.parts f r.derives; acts = ap (λ a. a ∷ acts_of r.notes) (sym h) ∙ ap (λ z. act ∷ z) r.acts }
    on (first_way ys f h) r = record { notes = noted n (at_first xs) ∷ r.notes; derives = engine.first f r.derives; acts = ap (λ a. a ∷ acts_of r.notes) (sym h) ∙ ap (λ z. act ∷ z) r.acts }
    on (second_way ys f h) r = record { notes = noted n (at_second xs) ∷ r.notes; derives = engine.second f r.derives; acts = ap (λ a. a ∷ acts_of r.notes) (sym h) ∙ ap (λ z. act ∷ z) r.acts }

-- a tree of the text is derived
pub tree_derives : {g : List Rule} {kinds : List ℕ} {t : Tree} → IsTreeOf g kinds t → (ws : List Note) × engine.Derives g (0 ∷ []) kinds ws
tree_derives t = let r = to_engine (derives t) in (r.notes, r.derives)

-- what is built of a derivation is a tree of the text
built : {g : List Rule} {kinds : List ℕ} {ws : List Note} → engine.Derives g (0 ∷ []) kinds ws → (t : Tree) × IsTreeOf g kinds t × ((decoded (length kinds) (acts_of ws)).trees ≡ t ∷ [])
built {g = g} {kinds = kinds} {ws = ws} derived =
    let r : (t : Tree) × IsTreeOf g kinds t × (acts_of ws ≡ steps_of t) = has_tree (from_engine derived) in
    let d = decodes (length kinds) 0 r.0 [] r.1.from (let same : length kinds ≡ 0 + size r.0 = omega (arith, r.1.all) in same) in
    (r.0, r.1, ap (λ q. (decoded (length kinds) q).trees) (r.2 ∙ sym (append-nil (steps_of r.0))) ∙ d.1)

-- tokens have a tree exactly where they are derived
pub texts_have_trees : TextsHaveTrees
texts_have_trees g kinds = ((λ h. tree_derives h.1), (λ h. let r = built h.1 in (r.0, r.1)))

pub tree_found : (g : List Rule) (kinds : List ℕ) (ws : List Note) (t : Tree) → engine.Derives g (0 ∷ []) kinds ws → (decoded (length kinds) (acts_of ws)).trees ≡ t ∷ [] → IsTreeOf g kinds t
tree_found g kinds ws t d e = let r = built d in subst (IsTreeOf g kinds) (head_same r.0 t [] [] (sym r.2 ∙ e)) r.1

-- the engine's acts are those of the one tree, and what is built of them is that tree
pub the_tree : {g : List Rule} {kinds : List ℕ} {ws : List Note} → IsTheText g kinds ws → (t : Tree) × IsTheTree g kinds t × ((decoded (length kinds) (acts_of ws)).trees ≡ t ∷ [])
the_tree {g = g} {kinds = kinds} {ws = ws} w =
    let r : (t : Tree) × IsTreeOf g kinds t × ((decoded (length kinds) (acts_of ws)).trees ≡ t ∷ []) = built w.derives in
    let only : (p q : List Act) → Derives g (0 ∷ []) kinds p → Derives g (0 ∷ []) kinds q → p ≡ q = λ p q a b.
    let x = to_engine a in
    let y = to_engine b in
    sym x.acts ∙ ap acts_of (w.only x.notes x.derives ∙ sym (w.only y.notes y.derives)) ∙ y.acts in
    (r.0, record { is = r.1; only = λ u v. one_tree only v r.1 }, r.2)
