-- The names that one load asked for are those of the work that it begins.
use Rattle.std.proofs.Common.{◌≡◌, ℕ, List, ◌++◌}
use Rattle.std.specs.Prelude.{Result}
use Rattle.vkg_base.specs.Outside.{Files, StoreState}
use Rattle.vkg_cli.specs.declared.stops.Stop.{Stop}
use Rattle.vkg_cli.specs.Stages.{AsksThese, Ran, Stage}
use Rattle.vkg_cli.proofs.Names.{these_all}

pub load_asks : {A B : Type 0} (stage : Files → Stage B) (old new : StoreState) (loaded : Result B Stop) (names : List (List ℕ)) (result : Result A Stop)
    → Ran stage old new loaded → new.asked ≡ old.asked ++ names → AsksThese names old.asked new.asked result
load_asks stage old new loaded names result ran is = these_all names old.asked new.asked result is
