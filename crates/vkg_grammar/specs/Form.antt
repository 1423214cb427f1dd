-- What contracts see of a grammar, and how deep the brackets of a text are.
use Rattle.std.specs.Prelude.{◌≡◌, ℕ, ◌+◌, ◌-◌, ◌*◌, ◌<◌, ◌^◌, Bool, true, false, List, length, take, Option, Some, None, nat_le, nat_eq, if◌then◌else◌}
use Rattle.std.specs.List.{list_any, fold}
use Rattle.vkg_grammar.specs.declared.rule.Rule.{Rule}
use Rattle.vkg_grammar.specs.Grammar.{One, shape_of, IsGrammar}

-- A grammar: the rule of each symbol, how many kinds of token there are, the kinds that open and that close a bracket,
-- and how many brackets may be open at once.
pub record Form : Type 0 where
  pub rules : List Rule
  pub kinds : ℕ
  pub openers : List ℕ
  pub closers : List ℕ
  pub limit : Option ℕ

-- Each kind that a rule names is below this number.
abbrev pub HasKinds : List Rule → ℕ → Type 0
HasKinds g kinds = (n k : ℕ) → n < length g → shape_of g n ≡ One k → k < kinds

-- Each symbol that a rule names has a rule, so has the first, and each kind is one of the kinds; the tables of the grammar
-- have a size that can be counted.
pub record IsWellFormed (rules : List Rule) (kinds : ℕ) : Type 0 where
  pub grammar : IsGrammar rules
  pub has_kinds : HasKinds rules kinds
  pub small : (kinds + 1) * length rules < 2 ^ 60

-- How many brackets are open behind a token of kind k, where d were open before it. A closer of any kind closes one.
unfoldable pub deepened : Form → ℕ → ℕ → ℕ
deepened g d k = if list_any (λ o. nat_eq o k) g.openers then d + 1 else if list_any (λ c. nat_eq c k) g.closers then d - 1 else d

-- How many brackets are open behind tokens of these kinds.
abbrev pub depth : Form → List ℕ → ℕ
depth g ks = fold (deepened g) 0 ks

-- So many brackets may be open.
abbrev pub allows : Option ℕ → ℕ → Bool
allows None d = true
allows (Some limit) d = nat_le d limit

-- Behind the token n more brackets are open than may be, and behind no token before it.
pub record IsTooDeep (g : Form) (ks : List ℕ) (n : ℕ) : Type 0 where
  pub inside : n < length ks
  pub deep : allows g.limit (depth g (take (n + 1) ks)) ≡ false
  pub before : (m : ℕ) → m < n → allows g.limit (depth g (take (m + 1) ks)) ≡ true

-- Behind no token are more brackets open than may be.
abbrev pub IsShallow : Form → List ℕ → Type 0
IsShallow g ks = (n : ℕ) → n < length ks → allows g.limit (depth g (take (n + 1) ks)) ≡ true
