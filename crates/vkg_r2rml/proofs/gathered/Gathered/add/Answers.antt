use Rattle.std.proofs.Common.{refl}
use Rattle.vkg_r2rml.proofs.GatheredLemmas.{value_added, fault_added}
use Rattle.vkg_r2rml.proofs.gathered.Gathered.add.Goals as goal

pub returns-in_ok-push-in-Ok : goal.returns-in_ok-push-in-Ok
returns-in_ok-push-in-Ok g c = λ parts h. value_added parts _ _ c.args.self.now _ c.in-Ok.is c.in_ok-push-in-Ok.ensures.ok refl h

pub returns-in-Err : goal.returns-in-Err
returns-in-Err g c = λ parts h. fault_added parts _ _ c.args.self.now _ c.in-Err.is refl c.lesser-self.ensures h
