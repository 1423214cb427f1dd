use Rattle.std.proofs.Common.{refl}
use Rattle.vkg_lists.proofs.Texts.{joined_is}
use Rattle.vkg_algebra.proofs.tabs.tabbed.Goals as goal

pub returns-in_ok-push_each_behind-in-Some : goal.returns-in_ok-push_each_behind-in-Some
returns-in_ok-push_each_behind-in-Some c =
    let first = c.in-Some.first.now in
    let rest = c.in-Some.rest.now in
    rw (c.in-Some.ensures.cases.0, c.in_ok-push_each_behind-in-Some.ensures, c.in_ok-push_str-in-Some.ensures.bytes, c.new-out.ensures.bytes, c.as_str.ensures, joined_is 9 first rest) refl
