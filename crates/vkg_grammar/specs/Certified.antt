-- A test that computes: by lists of the kinds that begin and follow each symbol, the grammar is LL(1).
use Rattle.std.specs.Prelude.{◌≡◌, ℕ, ◌+◌, ◌<◌, length, Bool, true, false, not, List, [], ◌∷◌, ◌++◌, get_or, nat_eq, nat_lt}
use Rattle.vkg_grammar.specs.declared.rule.Rule.{Rule}
use Rattle.vkg_grammar.specs.declared.rule.Rule.TheVariants.{Token}
use Rattle.vkg_grammar.specs.Grammar.{Shape, One, Parts, Choice, shape}

-- what is claimed of a symbol: whether it may be empty, what kinds begin it, what kinds follow it, and a level
-- above those of the symbols that it has to be made of, so that each symbol makes some text
pub record Claim : Type 0 where
  pub empty : Bool
  pub begin : List ℕ
  pub follow : List ℕ
  pub level : ℕ

-- what is claimed of a symbol past the claims
abbrev pub none_claimed : Claim
none_claimed = record { empty = false; begin = []; follow = []; level = 0 }

-- k is one of these kinds
abbrev pub holds : ℕ → List ℕ → Bool
holds k [] = false
holds k (x ∷ xs) = elim (nat_eq k x) [ true ↦ true | false ↦ holds k xs ]

-- each of the first kinds is one of the second
abbrev pub within_all : List ℕ → List ℕ → Bool
within_all [] ys = true
within_all (x ∷ xs) ys = elim (holds x ys) [ true ↦ within_all xs ys | false ↦ false ]

-- none of the first kinds is one of the second
abbrev pub apart_all : List ℕ → List ℕ → Bool
apart_all [] ys = true
apart_all (x ∷ xs) ys = elim (holds x ys) [ true ↦ false | false ↦ apart_all xs ys ]

-- the claim on the symbol n
abbrev pub claim_at : List Claim → ℕ → Claim
claim_at cs n = get_or cs n none_claimed

-- a conjunction, and an implication, that look at the second only where they must
abbrev pub both : Bool → Bool → Bool
both true b = b
both false b = false

abbrev pub if_so : Bool → Bool → Bool
if_so true b = b
if_so false b = true

-- each of these passes the test
abbrev pub each : {A : Type 0} → (A → Bool) → List A → Bool
each test [] = true
each test (x ∷ xs) = both (test x) (each test xs)

-- by the claims, these symbols may all be empty
abbrev pub empty_way : List Claim → List ℕ → Bool
empty_way cs xs = each (λ x. (claim_at cs x).empty) xs

-- these kinds, and the others where what they begin may be empty
abbrev pub begin_more : Bool → List ℕ → List ℕ → List ℕ
begin_more true ks more = ks ++ more
begin_more false ks more = ks

-- the kinds that by the claims begin these symbols
abbrev pub begin_way : List Claim → List ℕ → List ℕ
begin_way cs [] = []
begin_way cs (x ∷ xs) = begin_more (claim_at cs x).empty (claim_at cs x).begin (begin_way cs xs)

-- what begins or comes behind what stands after each of these symbols is claimed to follow it
abbrev pub follow_way : List Claim → List ℕ → List ℕ → Bool
follow_way cs behind [] = true
follow_way cs behind (x ∷ xs) = both (within_all (begin_way cs xs) (claim_at cs x).follow) (both (if_so (empty_way cs xs) (within_all behind (claim_at cs x).follow)) (follow_way cs behind xs))

-- what these symbols, a way of a symbol, bring about is claimed of the symbol and of them
abbrev pub way_claimed : List Claim → Claim → List ℕ → Bool
way_claimed cs c xs = both (within_all (begin_way cs xs) c.begin) (both (if_so (empty_way cs xs) c.empty) (follow_way cs c.follow xs))

-- the kinds that begin this way of a symbol: where it may be empty, what follows the symbol too
abbrev pub starts_way : List Claim → Claim → List ℕ → List ℕ
starts_way cs c xs = begin_more (empty_way cs xs) (begin_way cs xs) c.follow

-- the claims hold together at a symbol of this shape, and keep its ways apart
abbrev pub shape_claimed : List Claim → Claim → Shape → Bool
shape_claimed cs c (One k) = holds k c.begin
shape_claimed cs c (Parts xs) = way_claimed cs c xs
shape_claimed cs c (Choice xs ys) = both (way_claimed cs c xs) (both (way_claimed cs c ys) (both (if_so (empty_way cs xs) (not (empty_way cs ys))) (apart_all (starts_way cs c xs) (starts_way cs c ys))))

-- each symbol of this way has a lower level
abbrev pub lower_way : List Claim → ℕ → List ℕ → Bool
lower_way cs n xs = each (λ x. nat_lt (claim_at cs x).level n) xs

abbrev pub either : Bool → Bool → Bool
either true b = true
either false b = b

-- some way of a symbol of this shape has lower levels alone, so that it derives some list of tokens
abbrev pub shape_lower : List Claim → ℕ → Shape → Bool
shape_lower cs n (One k) = true
shape_lower cs n (Parts xs) = lower_way cs n xs
shape_lower cs n (Choice xs ys) = either (lower_way cs n xs) (lower_way cs n ys)

-- each of these symbols has a rule
abbrev pub all_below : ℕ → List ℕ → Bool
all_below m xs = each (λ x. nat_lt x m) xs

-- each symbol that a shape names has a rule
abbrev pub shape_below : ℕ → Shape → Bool
shape_below m (One k) = true
shape_below m (Parts xs) = all_below m xs
shape_below m (Choice xs ys) = both (all_below m xs) (all_below m ys)

-- each of these rules has a claim on its symbol, and their shapes pass the test; n is the symbol of the first
abbrev pub all_pass : (Claim → Shape → Bool) → ℕ → List Rule → List Claim → Bool
all_pass test n [] ds = true
all_pass test n (r ∷ rs) [] = false
all_pass test n (r ∷ rs) (d ∷ ds) = both (test d (shape n r)) (all_pass test (n + 1) rs ds)

-- the kinds that a rule names are below this number
abbrev pub rule_fits : ℕ → Rule → Bool
rule_fits kinds (Token k) = nat_lt k kinds
rule_fits kinds r = true

abbrev pub all_fit : ℕ → List Rule → Bool
all_fit kinds rs = each (rule_fits kinds) rs

-- The claims on the symbols of these rules pass every test. For rules and claims that are written out, each is by computing.
pub record IsCertified (g : List Rule) (kinds : ℕ) (cs : List Claim) : Type 0 where
  pub some : 0 < length g
  pub closed : all_pass (λ c. shape_below (length g)) 0 g cs ≡ true
  pub fits : all_fit kinds g ≡ true
  pub claimed : all_pass (shape_claimed cs) 0 g cs ≡ true
  pub lower : all_pass (λ c. shape_lower cs c.level) 0 g cs ≡ true
