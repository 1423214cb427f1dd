-- Results through a function, results that a fault may forestall, and results whose value is a list.
use Rattle.std.specs.Prelude.{List, ◌∷◌, ◌++◌, Option, Some, None, Result, Ok, Err}

-- the value through a function
abbrev pub mapped : {A B F : Type 0} → (A → B) → Result A F → Result B F
mapped f (Ok x) = Ok (f x)
mapped f (Err fault) = Err fault

-- the result, unless there is a fault
abbrev pub unless : {A F : Type 0} → Option F → Result A F → Result A F
unless (Some fault) r = Err fault
unless None r = r

-- an element before those of a result
abbrev pub in_front : {A F : Type 0} → A → Result (List A) F → Result (List A) F
in_front x (Ok xs) = Ok (x ∷ xs)
in_front x (Err fault) = Err fault

-- a list followed by those of a result
abbrev pub followed_by : {A F : Type 0} → List A → Result (List A) F → Result (List A) F
followed_by xs (Ok ys) = Ok (xs ++ ys)
followed_by xs (Err fault) = Err fault
