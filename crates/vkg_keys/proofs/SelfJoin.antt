-- A table joined with itself on a key, among other members: the second Scan goes.
use Rattle.std.proofs.Common.{◌≡◌, ◌∙◌, ℕ, ◌+◌, ◌<◌, true, List, ◌++◌, append_assoc, length, length-append, map, sym, ap, subst, arith}
use Rattle.std.specs.List.{filter}
use Rattle.vkg_lists.specs.Lists.{AllBelow}
use Rattle.vkg_schema.specs.declared.table.Key.{Key}
use Rattle.vkg_schema.specs.Meets.{KeyHolds}
use Rattle.vkg_schema.specs.Rows.{Row, cell_at}
use Rattle.vkg_columns.specs.Columns.{Gives, at_place, columns_from}
use Rattle.vkg_expr.specs.Expr.{Expr, exprs}
use Rattle.vkg_expr.specs.Value.{holds, value_of, values_of}
use Rattle.vkg_plan.specs.Rows.{pairs}
use Rattle.vkg_keys.specs.Keys.{AreWide, seconds, with_itself}
use Rattle.vkg_keys.specs.Members.{renamed}
use Rattle.vkg_keys.specs.Ties.{all_tied}
use Rattle.vkg_keys.proofs.Agreement.{firsts-itself, seconds-itself}
use Rattle.vkg_keys.proofs.Parts.{front, part-at, regrouped, tied-behind}
use Rattle.vkg_keys.proofs.Products.{self_join}
use Rattle.vkg_keys.proofs.RenamedColumns.{long-columns, place-columns, renamed-long, renamed-value, values-by_place}

-- the columns of such members, the second Scan's named in the first
abbrev pub named_again : ℕ → ℕ → ℕ → ℕ → List Expr
named_again n w k z = renamed (n + (w + k)) (columns_from n w) z

pub grouped : (a r b d : Row) → (a ++ (r ++ b)) ++ d ≡ a ++ (r ++ (b ++ d))
grouped a r b d = append_assoc a (r ++ b) d ∙ ap (λ x. a ++ x) (append_assoc r b d)

-- the part r once more, where its second place was
pub named-again : (n w k z : ℕ) (a r b d : Row) → length a ≡ n → length r ≡ w → length b ≡ k → length d ≡ z → values_of (exprs (named_again n w k z)) (a ++ (r ++ (b ++ d))) ≡ a ++ (r ++ (b ++ (r ++ d)))
named-again n w k z a r b d la lr lb ld =
    let whole = front a r b n w k la lr lb in
    let long = renamed-long (n + (w + k)) (columns_from n w) z in
    let own = long-columns n w in
    let len = length-append (a ++ (r ++ b)) (r ++ d) in
    let rest = length-append r d in
    ap (values_of (exprs (named_again n w k z))) (sym (grouped a r b d))
    ∙ values-by_place (named_again n w k z) ((a ++ (r ++ b)) ++ d) ((a ++ (r ++ b)) ++ (r ++ d)) (omega (arith, long, own, len, rest, whole, lr, ld))
    (λ i h. renamed-value (a ++ (r ++ b)) r d (n + (w + k)) z (columns_from n w) whole ld (own ∙ sym lr) i h (λ y m e. again y m))
    ∙ regrouped a r b r d
  where
    again : (y : ℕ) → y < length r → Gives (at_place (columns_from n w)) ((a ++ (r ++ b)) ++ d) r y
    again y m =
        ap (λ x. value_of x ((a ++ (r ++ b)) ++ d)) (place-columns n w y (omega (arith, m, lr)))
        ∙ ap (λ row. cell_at row (n + y)) (grouped a r b d)
        ∙ part-at a r (b ++ d) n y la m

pub self_join-rows : (c : Expr) (key : Key) (before rows between after : List Row) (n w k z : ℕ) → KeyHolds key rows → AreWide n before → AreWide w rows → AreWide k between → AreWide z after →
    AllBelow w key.columns → all_tied c n (n + (w + k)) (with_itself key.columns) ≡ true →
    filter (holds c) (pairs before (pairs rows (pairs between (pairs rows after))))
    ≡ map (values_of (exprs (named_again n w k z))) (filter (λ row. holds c (values_of (exprs (named_again n w k z)) row)) (pairs before (pairs rows (pairs between after))))
self_join-rows c key before rows between after n w k z h wb wr wk wz inside t = self_join (holds c) key before rows between after h
    (λ a r b q d ca cr cb cq cd e. tied-behind c (with_itself key.columns) n w k a r b q d (wb a ca) (wr r cr) (wk b cb)
    (subst (AllBelow w) (sym (firsts-itself key.columns)) inside)
    (subst (λ m. AllBelow m (seconds (with_itself key.columns))) (sym (wr q cq)) (subst (AllBelow w) (sym (seconds-itself key.columns)) inside))
    t e)
    (values_of (exprs (named_again n w k z)))
    (λ a r b d ca cr cb cd. named-again n w k z a r b d (wb a ca) (wr r cr) (wk b cb) (wz d cd))
