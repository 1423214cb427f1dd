-- The last item of a list.
use Rattle.std.proofs.Common.{◌≡◌, List, [], ◌∷◌, ◌++◌, Result, refl, ap, sym, ◌∙◌}
use Rattle.std.specs.Prelude.{OnOk}
use Rattle.std.proofs.lemmas.Result.{on_ok_weaker}
use Rattle.vkg_ddl.specs.declared.name.Name.{Name}
use Rattle.vkg_ddl.specs.declared.role.Role.{Role}
use Rattle.vkg_ddl.specs.declared.role.Role.TheVariants as role
use Rattle.vkg_ddl.specs.declared.written.WrittenTable.{WrittenTable}
use Rattle.vkg_ddl.specs.Written.{on_last, act, edit}

pub on_last_push : {A : Type 0} (f : A → A) (xs : List A) (x : A) → on_last f (xs ++ x ∷ []) ≡ xs ++ f x ∷ []
unfolding on_last
on_last_push f [] x = refl
on_last_push f (y ∷ []) x = refl
on_last_push f (y ∷ z ∷ xs) x = ap (λ l. y ∷ l) (on_last_push f (z ∷ xs) x)

pub last_none : {A : Type 0} (f : A → A) {old new : List A} → old ≡ [] → new ≡ [] → new ≡ on_last f old
unfolding on_last
last_none f {old = old} {new = new} o n = n ∙ sym (ap (on_last f) o)

pub last_edited : {A T E : Type 0} (f : A → A) (r : Result T E) {old : List A} (front new : List A) {last edited : A} → old ≡ front ++ last ∷ [] → edited ≡ f last → OnOk r (new ≡ front ++ edited ∷ []) → OnOk r (new ≡ on_last f old)
last_edited f r {old = old} front new {last = last} o e p =
    on_ok_weaker r (λ n. n ∙ ap (λ x. front ++ x ∷ []) e ∙ sym (on_last_push f front last) ∙ sym (ap (on_last f) o)) p

-- where the token begins no table
pub act_other : (r : Role) (t : Name) (tables : List WrittenTable) → (r ≡ role.Table → ⊥) → act r t tables ≡ on_last (edit r t) tables
act_other role.Table t tables n = absurd (n refl)
act_other r t tables n = refl
