-- Work over a store, in stages: which files it asks for, and what it comes to.
use Rattle.std.specs.Prelude.{◌≡◌, ℕ, ◌≤◌, List, [], ◌∷◌, ◌++◌, take, Option, Some, None, Result, Ok, Err}
use Rattle.vkg_lists.specs.Results.{mapped}
use Rattle.vkg_base.specs.Outside.{Files, held, StoreState, Rose}
use Rattle.vkg_cli.specs.declared.stops.Stop.{Stop}
use Rattle.vkg_cli.specs.declared.stops.Stop.TheVariants.{Refused, Read, Memory}

-- Work over known files, as a relation: the names of the files that it loads, in order, up to where it ends, and what
-- it comes to: a value, the first fault, or a file that is not there.
abbrev pub Stage : Type 0 → Type 1
Stage A = List (List ℕ) → Result A Stop → Type 0

-- no file is needed
unfoldable pub Settles : {A : Type 0} → (Result A Stop → Type 0) → Stage A
Settles comes names outcome = (names ≡ []) × comes outcome

abbrev pub found : ℕ → Option (List ℕ) → Result (List ℕ) Stop
found limit None = Err Read
found limit (Some bytes) = Ok (take limit bytes)

-- one file, cut at a limit
unfoldable pub Loads : ℕ → Files → List ℕ → Stage (List ℕ)
Loads limit files name names outcome = (names ≡ name ∷ []) × (outcome ≡ found limit (held files name))

-- one stage, and at its value the next one
pub data Then {A B : Type 0} (stage : Stage A) (rest : A → Stage B) (names : List (List ℕ)) (outcome : Result B Stop) : Type 0 where
  goes_on : (v : A) (before after : List (List ℕ)) → stage before (Ok v) → rest v after outcome → names ≡ before ++ after → Then stage rest names outcome
  stops : (stop : Stop) → stage names (Err stop) → outcome ≡ Err stop → Then stage rest names outcome

-- over the same files the work loads the same files and comes to the same
pub record IsDetermined {A : Type 0} (stage : Stage A) : Type 0 where
  pub one_list : (m n : List (List ℕ)) (o p : Result A Stop) → stage m o → stage n p → m ≡ n
  pub one_outcome : (m n : List (List ℕ)) (o p : Result A Stop) → stage m o → stage n p → o ≡ p

-- the store's count of faults, by how the work ended
abbrev pub CountsFaults : {A : Type 0} → Result A Stop → ℕ → ℕ → Type 0
CountsFaults (Ok v) before now = now ≡ before
CountsFaults (Err (Refused fault)) before now = now ≡ before
CountsFaults (Err Read) before now = Rose before now
CountsFaults (Err Memory) before now = before ≤ now

-- the whole work was done, and it asked for all of its names
abbrev pub Asks : {A : Type 0} → Stage A → List (List ℕ) → List (List ℕ) → Result A Stop → Type 0
Asks stage before now outcome = (names : List (List ℕ)) × stage names outcome × (now ≡ before ++ names)

-- the work was broken off: some of its names were asked for, in order
abbrev pub AsksSome : {A : Type 0} → Stage A → List (List ℕ) → List (List ℕ) → Type 0
AsksSome {A} stage before now = (names : List (List ℕ)) (outcome : Result A Stop) → stage names outcome → (n : ℕ) × (now ≡ before ++ take n names)

-- over known files, by how the work ended
abbrev pub Matches : {A : Type 0} → Stage A → List (List ℕ) → List (List ℕ) → Result A Stop → Type 0
Matches stage before now (Ok v) = Asks stage before now (Ok v)
Matches stage before now (Err (Refused fault)) = Asks stage before now (Err (Refused fault))
Matches stage before now (Err Read) = AsksSome stage before now
Matches stage before now (Err Memory) = AsksSome stage before now

-- some of the first of these names were asked for
abbrev pub AsksUpTo : List (List ℕ) → List (List ℕ) → List (List ℕ) → Type 0
AsksUpTo names before now = (n : ℕ) × (now ≡ before ++ take n names)

-- these names were asked for, or where the work was broken off the first of them
abbrev pub AsksThese : {A : Type 0} → List (List ℕ) → List (List ℕ) → List (List ℕ) → Result A Stop → Type 0
AsksThese names before now (Ok v) = now ≡ before ++ names
AsksThese names before now (Err why) = AsksUpTo names before now

-- this name was asked for first, and others behind it
abbrev pub AsksFrom : {A : Type 0} → List ℕ → List (List ℕ) → List (List ℕ) → Result A Stop → Type 0
AsksFrom name before now outcome = (others : List (List ℕ)) × AsksThese (name ∷ others) before now outcome

-- names are asked for behind those that were, and none is forgotten
abbrev pub AsksMore : List (List ℕ) → List (List ℕ) → Type 0
AsksMore before now = (names : List (List ℕ)) × (now ≡ before ++ names)

-- the name of a file, where there is one
abbrev pub listed : Option (List ℕ) → List (List ℕ)
listed None = []
listed (Some name) = name ∷ []

-- a fact on the files, where a store tells them
abbrev pub Where : Option Files → (Files → Type 0) → Type 0
Where told fact = (files : Files) → told ≡ Some files → fact files

-- the work was done over a store, with this result
pub record Ran {A : Type 0} (stage : Files → Stage A) (old new : StoreState) (result : Result A Stop) : Type 0 where
  pub files : new.files ≡ old.files
  pub counts : CountsFaults result old.faults new.faults
  pub more : AsksMore old.asked new.asked
  pub over : (files' : Files) → old.files ≡ Some files' → Matches (stage files') old.asked new.asked result

-- what a call without a store answers, against what is defined: want of memory alone is free
abbrev pub Answers : {A : Type 0} → (Result A Stop → Type 0) → Result A Stop → Type 0
Answers comes (Ok v) = comes (Ok v)
Answers comes (Err (Refused fault)) = comes (Err (Refused fault))
Answers comes (Err Read) = ⊥
Answers comes (Err Memory) = Unit {0}

-- at most one outcome
abbrev pub IsOneOutcome : {A : Type 0} → (Result A Stop → Type 0) → Type 0
IsOneOutcome {A} comes = (o p : Result A Stop) → comes o → comes p → o ≡ p

-- a result at whose success a place holds the value
abbrev pub carried : {A B : Type 0} → A → Result B Stop → Result A Stop
carried value r = mapped (λ v. value) r

-- a result without a value
abbrev pub done_or : {B : Type 0} → Result B Stop → Result (Unit {0}) Stop
done_or r = mapped {B = Unit {0}} (λ v. tt) r
