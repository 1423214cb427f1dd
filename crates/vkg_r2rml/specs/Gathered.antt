-- Parts of a mapping as far as they are read.
use Rattle.std.specs.Prelude.{◌≡◌, List, filter_map}
use Rattle.std.specs.Result.{result_ok, result_err}
use Rattle.vkg_lists.specs.Places.{least_of}
use Rattle.vkg_r2rml.specs.declared.gathered.Gathered.{Gathered}
use Rattle.vkg_r2rml.specs.Checked.{Checked}

-- these parts were read
pub record IsGathered {A : Type 0} (parts : List (Checked A)) (g : Gathered A) : Type 0 where
  pub values : g.values ≡ filter_map result_ok parts
  pub fault : g.fault ≡ least_of result_err parts
