-- The least check that fails, of parts that are put together.
use Rattle.std.proofs.Common.{◌≡◌, ℕ, ◌≤◌, min, ◌⊎◌, inl, inr, ⊎_elim, refl, sym, ◌∙◌, ap, subst, List, map, Option, Some, None, Ok, Err, arith}
use Rattle.std.proofs.lemmas.Option.{none-some}
use Rattle.std.specs.List.{Contains, filter_map}
use Rattle.std.specs.Result.{result_ok, result_err}
use Rattle.vkg_lists.specs.Results.{unless}
use Rattle.vkg_lists.specs.Places.{least_of}
use Rattle.vkg_lists.proofs.Places.{least_of-none, least_of-some}
use Rattle.vkg_lists.proofs.Members.{Contains-map, Contains-from_map}
use Rattle.vkg_lists.proofs.Results.{ok_err, ok_same, err_same}
use Rattle.vkg_r2rml.specs.Checked.{Checked, both, all_of, and_then}
use Rattle.vkg_r2rml.specs.Faults.{Fails, Among, After}

-- a part answers the least check of these that fail, if any fails
pub record AnswersLeast {A : Type 0} (P : ℕ → Type 0) (part : Checked A) : Type 0 where
  pub fails : (check : ℕ) → part ≡ Err check → P check
  pub least : (check : ℕ) → P check → (answer : ℕ) × (part ≡ Err answer) × (answer ≤ check)

-- a part by itself
pub alone : {A : Type 0} (part : Checked A) → AnswersLeast (Fails part) part
alone part = record { fails = λ check e. e; least = λ check e. (check, e, omega arith) }

-- no check of it can fail
pub never : {A : Type 0} (P : ℕ → Type 0) (a : A) → ((check : ℕ) → P check → ⊥) → AnswersLeast P (Ok a)
never P a nothing = record { fails = λ check e. absurd (ok_err a check e); least = λ check h. absurd (nothing check h) }

-- two parts
pub of_both : {A B : Type 0} (P Q : ℕ → Type 0) (a : Checked A) (b : Checked B) → AnswersLeast P a → AnswersLeast Q b → AnswersLeast (λ check. P check ⊎ Q check) (both a b)
of_both P Q (Ok x) (Ok y) p q = record {
  fails = λ check e. absurd (ok_err (x, y) check e);
  least = λ check h. ⊎_elim (λ i. let r = p.least check i in absurd (ok_err x r.0 r.1)) (λ j. let r = q.least check j in absurd (ok_err y r.0 r.1)) h;
}
of_both {A} {B} P Q (Ok x) (Err d) p q = record {
  fails = λ check e. inr (q.fails check (ap (λ n. Err n) (err_same {A = A × B} d check e)));
  least = λ check h. ⊎_elim (λ i. let r = p.least check i in absurd (ok_err x r.0 r.1)) (λ j. let r = q.least check j in let same : d ≡ r.0 = err_same {A = B} d r.0 r.1 in (d, refl, omega (arith, r.2, same))) h;
}
of_both {A} {B} P Q (Err c) (Ok y) p q = record {
  fails = λ check e. inl (p.fails check (ap (λ n. Err n) (err_same {A = A × B} c check e)));
  least = λ check h. ⊎_elim (λ i. let r = p.least check i in let same : c ≡ r.0 = err_same {A = A} c r.0 r.1 in (c, refl, omega (arith, r.2, same))) (λ j. let r = q.least check j in absurd (ok_err y r.0 r.1)) h;
}
of_both {A} {B} P Q (Err c) (Err d) p q = record {
  fails = λ check e.
      let is : min c d ≡ check = err_same {A = A × B} (min c d) check e in
      ⊎_elim (λ i. inl (p.fails check (ap (λ n. Err n) (i ∙ is)))) (λ j. inr (q.fails check (ap (λ n. Err n) (j ∙ is)))) (one_of c d);
  least = λ check h. ⊎_elim (λ i. let r = p.least check i in let same : c ≡ r.0 = err_same {A = A} c r.0 r.1 in (min c d, refl, omega (arith, r.2, same))) (λ j. let r = q.least check j in let same : d ≡ r.0 = err_same {A = B} d r.0 r.1 in (min c d, refl, omega (arith, r.2, same))) h;
}
  where
    one_of : (c d : ℕ) → (c ≡ min c d) ⊎ (d ≡ min c d)
    one_of c d = grind arith

-- a part that needs an earlier one
pub of_then : {A B : Type 0} (P : ℕ → Type 0) (Q : A → ℕ → Type 0) (a : Checked A) (next : A → Checked B) → AnswersLeast P a → ((x : A) → a ≡ Ok x → AnswersLeast (Q x) (next x)) → AnswersLeast (λ check. P check ⊎ After a Q check) (and_then a next)
of_then {A} P Q (Ok x) next p q = record {
  fails = λ check e. inr (x, refl, (q x refl).fails check e);
  least = λ check h. ⊎_elim (λ i. let r = p.least check i in absurd (ok_err x r.0 r.1)) (λ j. (q x refl).least check (subst (λ y. Q y check) (sym (ok_same x j.0 j.1)) j.2)) h;
}
of_then {A} {B} P Q (Err c) next p q = record {
  fails = λ check e. inl (p.fails check (ap (λ n. Err n) (err_same {A = B} c check e)));
  least = λ check h. ⊎_elim (λ i. let r = p.least check i in let same : c ≡ r.0 = err_same {A = A} c r.0 r.1 in (c, refl, omega (arith, r.2, same))) (λ j. absurd (ok_err j.0 c (sym j.1))) h;
}

-- a value made of a part
pub of_value : {A B : Type 0} (P : ℕ → Type 0) (a : Checked A) (made : A → B) → AnswersLeast P a → AnswersLeast P (and_then a (λ x. Ok (made x)))
of_value P (Ok x) made p = record {
  fails = λ check e. absurd (ok_err (made x) check e);
  least = λ check h. let r = p.least check h in absurd (ok_err x r.0 r.1);
}
of_value {A} {B} P (Err c) made p = record {
  fails = λ check e. p.fails check (ap (λ n. Err n) (err_same {A = B} c check e));
  least = λ check h. let r = p.least check h in (r.0, ap (λ n. Err n) (err_same {A = A} c r.0 r.1), r.2);
}

-- any number of parts
module _ {X A : Type 0} (P : X → ℕ → Type 0) (f : X → Checked A) (xs : List X) (each : (x : X) → Contains xs x → AnswersLeast (P x) (f x)) where
  fault_is : (c : Checked A) (n : ℕ) → result_err c ≡ Some n → c ≡ Err n
  fault_is (Ok a) n e = cc
  fault_is (Err m) n e = cc

  among : (found : Option ℕ) → least_of result_err (map f xs) ≡ found → AnswersLeast (Among xs P) (unless found (Ok (filter_map result_ok (map f xs))))
  among None e = record {
    fails = λ check h. absurd (ok_err _ check h);
    least = λ check h.
        let r = (each h.0 h.1).least check h.2 in
        absurd (none-some r.0 (sym (least_of-none result_err (map f xs) e (f h.0) (Contains-map f xs h.0 h.1)) ∙ ap result_err r.1));
  }
  among (Some c) e =
      let l = least_of-some result_err (map f xs) c e in
      record {
        fails = λ check h.
            let is : c ≡ check = err_same {A = List A} c check h in
            let m = Contains-from_map f xs l.item l.among in
            (m.0, m.1, (each m.0 m.1).fails check (m.2 ∙ fault_is l.item check (l.here ∙ ap (λ (n : ℕ). Some n) is)));
        least = λ check h.
            let r = (each h.0 h.1).least check h.2 in
            let low : c ≤ r.0 = l.least (f h.0) r.0 (Contains-map f xs h.0 h.1) (ap result_err r.1) in
            (c, refl, omega (arith, low, r.2));
      }

  pub of_all : AnswersLeast (Among xs P) (all_of (map f xs))
  of_all = among (least_of result_err (map f xs)) refl
