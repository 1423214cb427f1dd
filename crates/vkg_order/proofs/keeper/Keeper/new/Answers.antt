use Rattle.std.proofs.Common.{◌≡◌, []}
use Rattle.vkg_order.proofs.Sliced.{sound-none}
use Rattle.vkg_order.proofs.keeper.Keeper.new.Goals as goal

pub invariant_of-result : goal.invariant_of-result
invariant_of-result c = sound-none c.args.modifiers c.new.result.items c.has_room-is_sorted.result (let e : c.new.result.items ≡ [] = cc in e) c.has_room-is_sorted.ensures
