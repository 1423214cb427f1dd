-- The first of a list.
use Rattle.std.specs.Prelude.{List, Option, slice_get}

-- the first element, if there is one
abbrev pub first_of : {A : Type 0} → List A → Option A
first_of xs = slice_get xs 0
