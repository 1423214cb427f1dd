-- What is read as a field of a number's kind is the known number.
use Rattle.std.proofs.Common.{◌≡◌, ℕ, Bool, true, false, not, ◌&&◌, List, refl}
use Rattle.std.specs.Prelude.{Option, Some, None, option_map, nat_lt}
use Rattle.std.specs.Result.{result_ok}
use Rattle.std.specs.Bool.{then_some}
use Rattle.vkg_cells.specs.declared.cell.Cell.{Cell}
use Rattle.vkg_cells.specs.declared.cell.Cell.TheVariants as cell
use Rattle.vkg_cells.specs.Field.{where_field, where_number, where_stamp}
use Rattle.vkg_cells.specs.Number.{width}

by_tests : (fine wide : Bool) (text : List ℕ) (c : Cell) → nat_lt 38 (width text) ≡ wide → result_ok (where_number fine text c) ≡ then_some (fine && not wide) c
by_tests false wide text c e = refl
by_tests true true text c e = rw e
by_tests true false text c e = rw e

pub number : (fine : Bool) (text : List ℕ) (c : Cell) → result_ok (where_number fine text c) ≡ then_some (fine && not (nat_lt 38 (width text))) c
number fine text c = by_tests fine (nat_lt 38 (width text)) text c refl

pub field : (fine : Bool) (c : Cell) → result_ok (where_field fine c) ≡ then_some fine c
field true c = refl
field false c = refl

pub stamp : (form : Option (List ℕ)) → result_ok (where_stamp form) ≡ option_map cell.Stamp form
stamp None = refl
stamp (Some form) = refl

pub ruleset known_number = (number, field, stamp)
