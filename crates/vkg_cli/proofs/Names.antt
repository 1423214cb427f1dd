-- The names that work asks for, whatever the store tells.
use Rattle.std.proofs.Common.{◌≡◌, ◌⊎◌, inl, inr, ℕ, ◌+◌, List, [], ◌∷◌, ◌++◌, length, take, refl, sym, ◌∙◌, ap, append_assoc, Ok, Err}
use Rattle.std.proofs.Math.Seq.{take-append-add, take-length}
use Rattle.std.proofs.lemmas.List.{append-nil}
use Rattle.std.specs.Prelude.{Result}
use Rattle.vkg_cli.specs.declared.stops.Stop.{Stop}
use Rattle.vkg_cli.specs.Stages.{AsksFrom, AsksMore, AsksThese, AsksUpTo}
use Rattle.vkg_cli.specs.Words.{Command, dump, query, sql}
use Rattle.vkg_cli.specs.Work.{AsksFirst}
use Rattle.vkg_cli.proofs.Ran.{fewer}

-- all of the names are the first of them, too
pub up_to_all : (names before now : List (List ℕ)) → now ≡ before ++ names → AsksUpTo names before now
up_to_all names before now is = (length names, is ∙ ap (λ (l : List (List ℕ)). before ++ l) (sym (take-length names)))

pub these_all : {A : Type 0} (names before now : List (List ℕ)) (result : Result A Stop) → now ≡ before ++ names → AsksThese names before now result
these_all names before now (Ok v) is = is
these_all names before now (Err why) is = up_to_all names before now is

-- no name is asked for
pub these_none : {A : Type 0} (before : List (List ℕ)) (result : Result A Stop) → AsksThese [] before before result
these_none before result = these_all [] before before result (sym (append-nil before))

-- want of memory, before or behind the one name
pub up_to_one : (name : List ℕ) (before now : List (List ℕ)) → (now ≡ before) ⊎ (now ≡ before ++ name ∷ []) → AsksUpTo (name ∷ []) before now
up_to_one name before now (inl same) = (0, same ∙ sym (append-nil before))
up_to_one name before now (inr asked) = (1, asked)

-- the first of some names, and so of more
pub up_to_more : (xs ys before now : List (List ℕ)) → AsksUpTo xs before now → AsksUpTo (xs ++ ys) before now
up_to_more xs ys before now (n, is) = fewer before now xs ys (xs ++ ys) n is refl

-- behind all of some names, the first of others
pub up_to_then : (xs ys before mid now : List (List ℕ)) → mid ≡ before ++ xs → AsksUpTo ys mid now → AsksUpTo (xs ++ ys) before now
up_to_then xs ys before mid now first (n, is) = (
  length xs + n,
  is
      ∙ ap (λ (l : List (List ℕ)). l ++ take n ys) first
      ∙ append_assoc before xs (take n ys)
      ∙ ap (λ (l : List (List ℕ)). before ++ l) (sym (take-append-add xs ys n)),
)

pub all_then : (xs ys before mid now : List (List ℕ)) → mid ≡ before ++ xs → now ≡ mid ++ ys → now ≡ before ++ (xs ++ ys)
all_then xs ys before mid now first second = second ∙ ap (λ (l : List (List ℕ)). l ++ ys) first ∙ append_assoc before xs ys

-- behind a first name and others, more
pub from_more : {A : Type 0} (name : List ℕ) (others before mid now : List (List ℕ)) (result : Result A Stop) → mid ≡ before ++ name ∷ others → AsksMore mid now → AsksFrom name before now result
from_more name others before mid now result first (names, more) =
    (others ++ names, these_all (name ∷ (others ++ names)) before now result (all_then (name ∷ others) names before mid now first more))

pub first_more : (name : List ℕ) (others before mid now : List (List ℕ)) → mid ≡ before ++ name ∷ others → AsksMore mid now → (all : List (List ℕ)) × AsksUpTo (name ∷ all) before now
first_more name others before mid now first (names, more) =
    (others ++ names, up_to_all (name ∷ (others ++ names)) before now (all_then (name ∷ others) names before mid now first more))

pub first_then : (name : List ℕ) (others before mid late now : List (List ℕ)) → mid ≡ before ++ name ∷ others → AsksMore mid late → AsksMore late now → (all : List (List ℕ)) × AsksUpTo (name ∷ all) before now
first_then name others before mid late now first (names, more) later =
    first_more name (others ++ names) before late now (all_then (name ∷ others) names before mid late first more) later

-- nothing was asked for yet
pub first_none : (command : Command) (before : List (List ℕ)) → AsksFirst command before before
first_none (dump words) before = ([], (0, sym (append-nil before)))
first_none (query words) before = ([], (0, sym (append-nil before)))
first_none (sql words) before = (0, sym (append-nil before))
