-- The algebra of a group, simplified as it grows.
use Rattle.std.proofs.Common.{◌≡◌, ◌∙◌, ℕ, ◌+◌, ◌<◌, List, [], ◌∷◌, ◌++◌, Option, Some, None, drop, fold, get_or, length, refl, sym, ap, append_assoc}
use Rattle.vkg_sparql.specs.declared.query.Part.{Part as PartValue}
use Rattle.vkg_sparql.specs.declared.query.Part.TheVariants as value
use Rattle.vkg_sparql.specs.Seen.{group_seen, part_seen, unions_seen}
use Rattle.vkg_lists.proofs.Firsts.{opened}
use Rattle.vkg_sparql.specs.declared.pattern.TriplePattern.{TriplePattern}
use Rattle.vkg_sparql.specs.Query.{Condition, Groups, Unions, Last, Union}
use Rattle.vkg_algebra.specs.Algebra.{Algebra, Bgp, Join, LeftJoin, Table, Extend}
use Rattle.vkg_algebra.specs.Algebra as algebra
use Rattle.vkg_algebra.specs.Translation.{Element, Block, Test, Optionally, Inner, Without, Bound, before, condition_of, element, elements, filtered, group_algebra, grown, joined, pattern_of, patterns_of, simplified, tests_of, united}
use Rattle.vkg_algebra.specs.Simplified.{condition_in, filtered_in, grown_by, grown_simply, inner_of, united_simply}
use Rattle.vkg_sparql.proofs.SeenForms.{seen-Groups}

-- nothing is joined to Z
joined-unit : (g : Algebra) → joined g (Bgp []) ≡ g
joined-unit (Bgp []) = refl
joined-unit (Bgp (p ∷ ps)) = refl
joined-unit (Join a b) = refl
joined-unit (LeftJoin a b c) = refl
joined-unit (algebra.Union a b) = refl
joined-unit (algebra.Filter c a) = refl
joined-unit (algebra.Graph name a) = refl
joined-unit (algebra.Minus a b) = refl
joined-unit (Table vs rows) = refl
joined-unit (Extend a v c) = refl

-- a block without triples adds nothing
pub fold-before-none : (g : Algebra) (es : List Element) → fold grown_simply g (before [] es) ≡ fold grown_simply g es
fold-before-none g [] = joined-unit g
fold-before-none g (Block ps ∷ es) = refl
fold-before-none g (Test c ∷ es) = ap (λ a. fold grown_simply a (Test c ∷ es)) (joined-unit g)
fold-before-none g (Optionally a ∷ es) = ap (λ b. fold grown_simply b (Optionally a ∷ es)) (joined-unit g)
fold-before-none g (Inner a ∷ es) = ap (λ b. fold grown_simply b (Inner a ∷ es)) (joined-unit g)
fold-before-none g (Without a ∷ es) = ap (λ b. fold grown_simply b (Without a ∷ es)) (joined-unit g)
fold-before-none g (Bound c v ∷ es) = ap (λ b. fold grown_simply b (Bound c v ∷ es)) (joined-unit g)

-- two blocks before these elements are one
pub before-before : (ps qs : List TriplePattern) (es : List Element) → before ps (before qs es) ≡ before (ps ++ qs) es
before-before ps qs [] = refl
before-before ps qs (Block rs ∷ es) = ap (λ ts. Block ts ∷ es) (sym (append_assoc ps qs rs))
before-before ps qs (Test c ∷ es) = refl
before-before ps qs (Optionally a ∷ es) = refl
before-before ps qs (Inner a ∷ es) = refl
before-before ps qs (Without a ∷ es) = refl
before-before ps qs (Bound c v ∷ es) = refl

simplified-grown : (g : Algebra) (e : Element) → simplified (grown g e) ≡ grown_simply (simplified g) e
simplified-grown g (Block ps) = refl
simplified-grown g (Test c) = refl
simplified-grown g (Inner a) = refl
simplified-grown g (Without a) = refl
simplified-grown g (Bound c v) = refl
simplified-grown g (Optionally (Bgp ps)) = refl
simplified-grown g (Optionally (Join a b)) = refl
simplified-grown g (Optionally (LeftJoin a b c)) = refl
simplified-grown g (Optionally (algebra.Union a b)) = refl
simplified-grown g (Optionally (algebra.Filter c a)) = refl
simplified-grown g (Optionally (algebra.Graph name a)) = refl
simplified-grown g (Optionally (algebra.Minus a b)) = refl
simplified-grown g (Optionally (Table vs rows)) = refl
simplified-grown g (Optionally (Extend a v c)) = refl

simplified-fold : (es : List Element) (g : Algebra) → simplified (fold grown g es) ≡ fold grown_simply (simplified g) es
simplified-fold [] g = refl
simplified-fold (e ∷ es) g = simplified-fold es (grown g e) ∙ ap (λ a. fold grown_simply a es) (simplified-grown g e)

-- a group grows to its algebra
pub simplified_pattern : (es : List Element) → simplified (pattern_of es) ≡ grown_by (Bgp []) [] es
simplified_pattern es = simplified-fold (patterns_of es) (Bgp []) ∙ sym (fold-before-none (Bgp []) (patterns_of es))

-- UNION from the left
pub simplified_united : (more : Unions) (a : Algebra) → simplified (united a more) ≡ united_simply (simplified a) more
simplified_united Last a = refl
simplified_united (Union g more) a = simplified_united more (algebra.Union a (group_algebra (elements g)))

module _ {parts first_seen : List PartValue} {more items : List (List PartValue)} {part : PartValue} {a : Algebra} where
  -- the first group is what the unions begin with
  pub united_at_first : part ≡ value.Groups parts more → first_seen ≡ parts → items ≡ more → a ≡ simplified (group_algebra (elements (group_seen first_seen))) → united_simply a (unions_seen (drop 0 items)) ≡ simplified (inner_of (element (part_seen part)))
  united_at_first is first all begun =
      let seen : part_seen part ≡ Groups (group_seen parts) (unions_seen more) = ap part_seen is ∙ seen-Groups parts more in
      (λ i. united_simply (begun i) (unions_seen (all i)))
      ∙ (λ i. united_simply (simplified (group_algebra (elements (group_seen (first i))))) (unions_seen more))
      ∙ sym (simplified_united (unions_seen more) (group_algebra (elements (group_seen parts))))
      ∙ ap (λ p. simplified (inner_of (element p))) (sym seen)

module _ (items : List (List PartValue)) (i : ℕ) {item parts : List PartValue} {a b c : Algebra} where
  -- one more group
  pub united_more : i < length items → item ≡ get_or items i item → parts ≡ item → b ≡ simplified (group_algebra (elements (group_seen parts))) → c ≡ algebra.Union a b → united_simply c (unions_seen (drop (i + 1) items)) ≡ united_simply a (unions_seen (drop i items))
  united_more below is same next whole =
      let left : drop i items ≡ item ∷ drop (i + 1) items = opened items i item below is in
      whole_with (drop (i + 1) items)
      ∙ ap (λ ps. united_simply (algebra.Union a (simplified (group_algebra (elements (group_seen ps))))) (unions_seen (drop (i + 1) items))) same
      ∙ ap (λ pss. united_simply a (unions_seen pss)) (sym left)
    where
      whole_with : (rest : List (List PartValue)) → united_simply c (unions_seen rest) ≡ united_simply (algebra.Union a (simplified (group_algebra (elements (group_seen parts))))) (unions_seen rest)
      whole_with rest = ap (λ x. united_simply x (unions_seen rest)) (whole ∙ ap (algebra.Union a) next)

-- no group without filters is a Filter
pub record IsPlain (a : Algebra) : Type 0 where
  pub none : condition_in a ≡ None
  pub itself : filtered_in a ≡ a

plain-grown : (g : Algebra) (e : Element) → IsPlain g → IsPlain (grown g e)
plain-grown g (Block ps) h = record { none = refl; itself = refl }
plain-grown g (Test c) h = h
plain-grown g (Inner a) h = record { none = refl; itself = refl }
plain-grown g (Without a) h = record { none = refl; itself = refl }
plain-grown g (Bound c v) h = record { none = refl; itself = refl }
plain-grown g (Optionally (Bgp ps)) h = record { none = refl; itself = refl }
plain-grown g (Optionally (Join a b)) h = record { none = refl; itself = refl }
plain-grown g (Optionally (LeftJoin a b c)) h = record { none = refl; itself = refl }
plain-grown g (Optionally (algebra.Union a b)) h = record { none = refl; itself = refl }
plain-grown g (Optionally (algebra.Filter c a)) h = record { none = refl; itself = refl }
plain-grown g (Optionally (algebra.Graph name a)) h = record { none = refl; itself = refl }
plain-grown g (Optionally (algebra.Minus a b)) h = record { none = refl; itself = refl }
plain-grown g (Optionally (Table vs rows)) h = record { none = refl; itself = refl }
plain-grown g (Optionally (Extend a v c)) h = record { none = refl; itself = refl }

plain-fold : (es : List Element) (g : Algebra) → IsPlain g → IsPlain (fold grown g es)
plain-fold [] g h = h
plain-fold (e ∷ es) g h = plain-fold es (grown g e) (plain-grown g e h)

pub plain-pattern : (es : List Element) → IsPlain (pattern_of es)
plain-pattern es = plain-fold (patterns_of es) (Bgp []) (record { none = refl; itself = refl })

condition_in-filtered : (c : Option Condition) (a : Algebra) → IsPlain a → condition_in (filtered c a) ≡ c
condition_in-filtered None a h = h.none
condition_in-filtered (Some c) a h = refl

filtered_in-filtered : (c : Option Condition) (a : Algebra) → IsPlain a → filtered_in (filtered c a) ≡ a
filtered_in-filtered None a h = h.itself
filtered_in-filtered (Some c) a h = refl

-- the filters of an optional group are the condition of the LeftJoin
pub grown_optional : (g : Algebra) (es : List Element) → grown_simply g (Optionally (group_algebra es)) ≡ LeftJoin g (simplified (pattern_of es)) (condition_of (tests_of es))
grown_optional g es =
    let h = plain-pattern es in
    let c = condition_of (tests_of es) in
    λ i. LeftJoin g (simplified (filtered_in-filtered c (pattern_of es) h i)) (condition_in-filtered c (pattern_of es) h i)

simplified-filtered : (c : Option Condition) (a : Algebra) → simplified (filtered c a) ≡ filtered c (simplified a)
simplified-filtered None a = refl
simplified-filtered (Some c) a = refl

pub simplified-group : (es : List Element) → simplified (group_algebra es) ≡ filtered (condition_of (tests_of es)) (simplified (pattern_of es))
simplified-group es = simplified-filtered (condition_of (tests_of es)) (pattern_of es)
