use Rattle.std.proofs.Common.{◌≡◌, ◌∙◌, ◌≤◌, ◌&&◌, ◌++◌, ◌∷◌, [], true, false, List, length, take, drop, sym, ap, subst}
use Rattle.std.specs.Prelude.{is_some}
use Rattle.std.specs.List.{position}
use Rattle.std.specs.List.Sorted.{IsPartitionPoint}
use Rattle.std.specs.Ordering.{is_lt}
use Rattle.std.proofs.lemmas.List.{length-take-le}
use Rattle.vkg_lists.proofs.Bools.{and_parts}
use Rattle.vkg_order.specs.Entries.{Entry, entry_cmp}
use Rattle.vkg_order.specs.Kept.{IsReady, StandFor}
use Rattle.vkg_order.specs.Listed.{IsWithin}
use Rattle.vkg_order.proofs.Entering.{enter-no_room, enter-ready, enter-repeat, enter-stands, enter-within, has_line, parts-moved}
use Rattle.vkg_order.proofs.held.enter.Goals as goal

pub returns-then-not-has_room-clause-ok : goal.returns-then-not-has_room-clause-ok
returns-then-not-has_room-clause-ok c =
    let m = c.args.modifiers.now in
    let x = c.args.offer in
    let held = c.args.held.now.items in
    let place = c.place_of-place.result in
    let fits : place ≤ length held = subst (λ (l : List Entry). place ≤ length l) c.deref.ensures.value c.place_of-place.ensures.within in
    let parts : IsPartitionPoint (λ e. is_lt (entry_cmp m.directions e x) ≡ true) (λ e. is_lt (entry_cmp m.directions e x) ≡ false) held place =
    parts-moved c.as_slice.result.now m.directions x c.deref.result.now held place c.as_slice.ensures c.deref.ensures.value c.place_of-place.ensures.parts in
    enter-no_room m x held place fits parts c.requires.ready (sym c.has_room.ensures ∙ c.if-not-has_room.true)

pub returns-then-is_repeat-clause-ok : goal.returns-then-is_repeat-clause-ok
returns-then-is_repeat-clause-ok c =
    let m = c.args.modifiers.now in
    let x = c.args.offer in
    let held = c.args.held.now.items in
    let place = c.place_of-place.result in
    let fits : place ≤ length held = subst (λ (l : List Entry). place ≤ length l) c.deref.ensures.value c.place_of-place.ensures.within in
    let parts : IsPartitionPoint (λ e. is_lt (entry_cmp m.directions e x) ≡ true) (λ e. is_lt (entry_cmp m.directions e x) ≡ false) held place =
    parts-moved c.as_slice.result.now m.directions x c.deref.result.now held place c.as_slice.ensures c.deref.ensures.value c.place_of-place.ensures.parts in
    let told : c.is_repeat.result ≡ (m.distinct && is_some (position (has_line x.line) (take place held))) =
    c.is_repeat.ensures ∙ (λ j. m.distinct && is_some (position (has_line x.line) (take place (c.deref-2.ensures.value j)))) in
    let both = and_parts m.distinct (is_some (position (has_line x.line) (take place held))) (sym told ∙ c.if-is_repeat.true) in
    enter-repeat m x held place fits parts c.requires.ready both.0 both.1

pub returns-clause-ok : goal.returns-clause-ok
returns-clause-ok c =
    let m = c.args.modifiers.now in
    let x = c.args.offer in
    let held = c.args.held.now.items in
    let place = c.place_of-place.result in
    let fits : place ≤ length held = subst (λ (l : List Entry). place ≤ length l) c.deref.ensures.value c.place_of-place.ensures.within in
    let parts : IsPartitionPoint (λ e. is_lt (entry_cmp m.directions e x) ≡ true) (λ e. is_lt (entry_cmp m.directions e x) ≡ false) held place =
    parts-moved c.as_slice.result.now m.directions x c.deref.result.now held place c.as_slice.ensures c.deref.ensures.value c.place_of-place.ensures.parts in
    let told : c.is_repeat.result ≡ (m.distinct && is_some (position (has_line x.line) (take place held))) =
    c.is_repeat.ensures ∙ (λ j. m.distinct && is_some (position (has_line x.line) (take place (c.deref-2.ensures.value j)))) in
    let new : m.distinct ≡ true → is_some (position (has_line x.line) (take place held)) ≡ false =
    λ d. ap (λ b. b && is_some (position (has_line x.line) (take place held))) (sym d) ∙ sym told ∙ c.if-is_repeat.false in
    let e = c.drop_excess.ensures (take place held) x (drop place held) c.in_ok-insert.ensures.items (length-take-le place held fits) in
    subst (λ l. StandFor m l (held ++ x ∷ [])) (sym e) (enter-stands m x held place fits parts c.requires.ready new c.requires.within)

pub returns-clause-ready : goal.returns-clause-ready
returns-clause-ready c =
    let m = c.args.modifiers.now in
    let x = c.args.offer in
    let held = c.args.held.now.items in
    let place = c.place_of-place.result in
    let fits : place ≤ length held = subst (λ (l : List Entry). place ≤ length l) c.deref.ensures.value c.place_of-place.ensures.within in
    let parts : IsPartitionPoint (λ e. is_lt (entry_cmp m.directions e x) ≡ true) (λ e. is_lt (entry_cmp m.directions e x) ≡ false) held place =
    parts-moved c.as_slice.result.now m.directions x c.deref.result.now held place c.as_slice.ensures c.deref.ensures.value c.place_of-place.ensures.parts in
    let told : c.is_repeat.result ≡ (m.distinct && is_some (position (has_line x.line) (take place held))) =
    c.is_repeat.ensures ∙ (λ j. m.distinct && is_some (position (has_line x.line) (take place (c.deref-2.ensures.value j)))) in
    let new : m.distinct ≡ true → is_some (position (has_line x.line) (take place held)) ≡ false =
    λ d. ap (λ b. b && is_some (position (has_line x.line) (take place held))) (sym d) ∙ sym told ∙ c.if-is_repeat.false in
    let e = c.drop_excess.ensures (take place held) x (drop place held) c.in_ok-insert.ensures.items (length-take-le place held fits) in
    subst (IsReady m) (sym e) (enter-ready m x held place fits parts c.requires.ready new c.requires.within)

pub returns-clause-within : goal.returns-clause-within
returns-clause-within c =
    let m = c.args.modifiers.now in
    let x = c.args.offer in
    let held = c.args.held.now.items in
    let place = c.place_of-place.result in
    let fits : place ≤ length held = subst (λ (l : List Entry). place ≤ length l) c.deref.ensures.value c.place_of-place.ensures.within in
    let parts : IsPartitionPoint (λ e. is_lt (entry_cmp m.directions e x) ≡ true) (λ e. is_lt (entry_cmp m.directions e x) ≡ false) held place =
    parts-moved c.as_slice.result.now m.directions x c.deref.result.now held place c.as_slice.ensures c.deref.ensures.value c.place_of-place.ensures.parts in
    let told : c.is_repeat.result ≡ (m.distinct && is_some (position (has_line x.line) (take place held))) =
    c.is_repeat.ensures ∙ (λ j. m.distinct && is_some (position (has_line x.line) (take place (c.deref-2.ensures.value j)))) in
    let new : m.distinct ≡ true → is_some (position (has_line x.line) (take place held)) ≡ false =
    λ d. ap (λ b. b && is_some (position (has_line x.line) (take place held))) (sym d) ∙ sym told ∙ c.if-is_repeat.false in
    let e = c.drop_excess.ensures (take place held) x (drop place held) c.in_ok-insert.ensures.items (length-take-le place held fits) in
    subst (λ (l : List Entry). IsWithin m.slice (length l)) (sym e) (enter-within m x held place fits parts c.requires.ready new c.requires.within)
