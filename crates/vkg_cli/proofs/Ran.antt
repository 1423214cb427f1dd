-- Work over a store, stage by stage.
use Rattle.std.proofs.Common.{◌≡◌, ◌⊎◌, inl, inr, ℕ, ◌+◌, ◌≤◌, min, List, [], ◌∷◌, ◌++◌, length, take, refl, sym, ◌∙◌, ap, subst, arith, append_assoc, Ok, Err, Some}
use Rattle.std.proofs.lemmas.List.{append-nil, take-append-le, take_min}
use Rattle.std.proofs.lemmas.Option.{same_Some}
use Rattle.std.specs.Option.{option_map}
use Rattle.std.proofs.Math.Seq.{take-append-add}
use Rattle.std.specs.Prelude.{Result, Option, None}
use Rattle.vkg_lists.proofs.Results.{ok_same, ok_err}
use Rattle.vkg_base.specs.Outside.{Files, StoreState, Rose, held, Gives}
use Rattle.vkg_cli.specs.declared.stops.Stop.{Stop}
use Rattle.vkg_cli.specs.declared.stops.Stop.TheVariants.{Refused, Read, Memory}
use Rattle.vkg_cli.specs.Stages.{Stage, Settles, Loads, Then, goes_on, stops, IsDetermined, IsOneOutcome, Answers, Asks, AsksMore, AsksSome, CountsFaults, Matches, Ran, found}
use Rattle.vkg_cli.proofs.LoadLemmas.{same_error}

-- Each stage is determined by its files, where its parts are.

pub determined_settles : {A : Type 0} (comes : Result A Stop → Type 0) → IsOneOutcome comes → IsDetermined (Settles comes)
unfolding Settles
determined_settles comes one = record {
  one_list = λ m n o p first second. first.0 ∙ sym second.0;
  one_outcome = λ m n o p first second. one o p first.1 second.1;
}

pub determined_loads : (limit : ℕ) (files : Files) (name : List ℕ) → IsDetermined (Loads limit files name)
unfolding Loads
determined_loads limit files name = record {
  one_list = λ m n o p first second. first.0 ∙ sym second.0;
  one_outcome = λ m n o p first second. first.1 ∙ sym second.1;
}

module _ {A B : Type 0} (stage : Stage A) (rest : A → Stage B) (first : IsDetermined stage) (second : (v : A) → IsDetermined (rest v)) where
  then_list : (m n : List (List ℕ)) (o p : Result B Stop) → Then stage rest m o → Then stage rest n p → m ≡ n
  then_list m n o p (goes_on v before after done went is) (goes_on w before' after' done' went' is') =
      let head = first.one_list before before' (Ok v) (Ok w) done done' in
      let same = ok_same v w (first.one_outcome before before' (Ok v) (Ok w) done done') in
      let tail = (second w).one_list after after' o p (subst (λ x. rest x after o) same went) went' in
      is ∙ ap (λ (l : List (List ℕ)). l ++ after) head ∙ ap (λ (l : List (List ℕ)). before' ++ l) tail ∙ sym is'
  then_list m n o p (goes_on v before after done went is) (stops stop done' is') = absurd (ok_err v stop (first.one_outcome before n (Ok v) (Err stop) done done'))
  then_list m n o p (stops stop done is) (goes_on v before after done' went is') = absurd (ok_err v stop (first.one_outcome before m (Ok v) (Err stop) done' done))
  then_list m n o p (stops stop done is) (stops other done' is') = first.one_list m n (Err stop) (Err other) done done'

  then_outcome : (m n : List (List ℕ)) (o p : Result B Stop) → Then stage rest m o → Then stage rest n p → o ≡ p
  then_outcome m n o p (goes_on v before after done went is) (goes_on w before' after' done' went' is') =
      let same = ok_same v w (first.one_outcome before before' (Ok v) (Ok w) done done') in
      (second w).one_outcome after after' o p (subst (λ x. rest x after o) same went) went'
  then_outcome m n o p (goes_on v before after done went is) (stops stop done' is') = absurd (ok_err v stop (first.one_outcome before n (Ok v) (Err stop) done done'))
  then_outcome m n o p (stops stop done is) (goes_on v before after done' went is') = absurd (ok_err v stop (first.one_outcome before m (Ok v) (Err stop) done' done))
  then_outcome m n o p (stops stop done is) (stops other done' is') =
      is ∙ same_error {A = A} {B = B} stop other (first.one_outcome m n (Err stop) (Err other) done done') ∙ sym is'

  pub determined_then : IsDetermined (Then stage rest)
  determined_then = record { one_list = then_list; one_outcome = then_outcome }

-- A call that needs no file.

settled : {A : Type 0} (comes : Result A Stop → Type 0) (before : List (List ℕ)) (result : Result A Stop) → Answers comes result → Matches (Settles comes) before before result
unfolding Settles
settled comes before (Ok v) is = ([], (refl, is), sym (append-nil before))
settled comes before (Err (Refused fault)) is = ([], (refl, is), sym (append-nil before))
settled comes before (Err Read) is = absurd is
settled comes before (Err Memory) is = λ names outcome all. (0, sym (append-nil before))

settled_counts : {A : Type 0} (comes : Result A Stop → Type 0) (count : ℕ) (result : Result A Stop) → Answers comes result → CountsFaults result count count
settled_counts comes count (Ok v) is = refl
settled_counts comes count (Err (Refused fault)) is = refl
settled_counts comes count (Err Read) is = absurd is
settled_counts comes count (Err Memory) is = omega arith

pub ran_settle : {A : Type 0} (comes : Result A Stop → Type 0) (store : StoreState) (result : Result A Stop) → Answers comes result → Ran (λ files. Settles comes) store store result
ran_settle comes store result is = record {
  files = refl;
  counts = settled_counts comes store.faults result is;
  more = ([], sym (append-nil store.asked));
  over = λ files told. settled comes store.asked result is;
}

-- After a value the next stage goes on.

module _ {A B : Type 0} (stage : Stage A) (rest : A → Stage B) (v : A) (before mid now : List (List ℕ)) (first : Asks stage before mid (Ok v)) where
  asked_then : (result : Result B Stop) → Asks (rest v) mid now result → Asks (Then stage rest) before now result
  asked_then result (after, went, asked) = (
    first.0 ++ after,
    goes_on v first.0 after first.1 went refl,
    asked ∙ ap (λ (l : List (List ℕ)). l ++ after) first.2 ∙ append_assoc before first.0 after,
  )

  some_of : IsDetermined stage → AsksSome (rest v) mid now → (names : List (List ℕ)) (outcome : Result B Stop) → Then stage rest names outcome → (n : ℕ) × (now ≡ before ++ take n names)
  some_of one some names outcome (goes_on w head tail done went is) =
      let heads = one.one_list first.0 head (Ok v) (Ok w) first.1 done in
      let same = ok_same v w (one.one_outcome first.0 head (Ok v) (Ok w) first.1 done) in
      let asked = some tail outcome (subst (λ x. rest x tail outcome) (sym same) went) in (
        length head + asked.0,
        asked.1
            ∙ ap (λ (l : List (List ℕ)). l ++ take asked.0 tail) (first.2 ∙ ap (λ (l : List (List ℕ)). before ++ l) heads)
            ∙ append_assoc before head (take asked.0 tail)
            ∙ ap (λ (l : List (List ℕ)). before ++ l) (sym (take-append-add head tail asked.0) ∙ ap (take (length head + asked.0)) (sym is)),
      )
  some_of one some names outcome (stops stop done is) = absurd (ok_err v stop (one.one_outcome first.0 names (Ok v) (Err stop) first.1 done))

  on_value : IsDetermined stage → (result : Result B Stop) → Matches (rest v) mid now result → Matches (Then stage rest) before now result
  on_value one (Ok w) second = asked_then (Ok w) second
  on_value one (Err (Refused fault)) second = asked_then (Err (Refused fault)) second
  on_value one (Err Read) second = some_of one second
  on_value one (Err Memory) second = some_of one second

more_then : (before mid now : List (List ℕ)) → AsksMore before mid → AsksMore mid now → AsksMore before now
more_then before mid now (xs, first) (ys, second) = (xs ++ ys, second ∙ ap (λ (l : List (List ℕ)). l ++ ys) first ∙ append_assoc before xs ys)

pub ran_then : {A B : Type 0} (stage : Files → Stage A) (rest : Files → A → Stage B) (v : A) (old mid new : StoreState) (result : Result B Stop)
    → ((files : Files) → IsDetermined (stage files)) → Ran stage old mid (Ok v) → Ran (λ files. rest files v) mid new result → Ran (λ files. Then (stage files) (rest files)) old new result
ran_then stage rest v old mid new result one first second = record {
  files = second.files ∙ first.files;
  counts = subst (λ n. CountsFaults result n new.faults) first.counts second.counts;
  more = more_then old.asked mid.asked new.asked first.more second.more;
  over = λ files told. on_value (stage files) (rest files) v old.asked mid.asked new.asked (first.over files told) (one files) result (second.over files (first.files ∙ told));
}

-- Where a stage stops, all of it stops.

pub fewer : (before now head tail names : List (List ℕ)) (n : ℕ) → now ≡ before ++ take n head → names ≡ head ++ tail → (m : ℕ) × (now ≡ before ++ take m names)
fewer before now head tail names n asked is = (
  min n (length head),
  asked ∙ ap (λ (l : List (List ℕ)). before ++ l) (sym (take-append-le (min n (length head)) head tail (omega arith) ∙ take_min n head) ∙ ap (take (min n (length head))) (sym is)),
)

module _ {A B : Type 0} (stage : Stage A) (rest : A → Stage B) (before now : List (List ℕ)) where
  broken_off : AsksSome stage before now → (names : List (List ℕ)) (outcome : Result B Stop) → Then stage rest names outcome → (n : ℕ) × (now ≡ before ++ take n names)
  broken_off some names outcome (goes_on v head tail done went is) =
      let asked = some head (Ok v) done in
      fewer before now head tail names asked.0 asked.1 is
  broken_off some names outcome (stops stop done is) = some names (Err stop) done

  at_stop : (stop : Stop) → Matches {A = A} stage before now (Err stop) → Matches {A = B} (Then stage rest) before now (Err stop)
  at_stop (Refused fault) (names, done, asked) = (names, stops (Refused fault) done refl, asked)
  at_stop Read some = broken_off some
  at_stop Memory some = broken_off some

stop_counts : (A B : Type 0) (stop : Stop) (before now : ℕ) → CountsFaults {A = A} (Err stop) before now → CountsFaults {A = B} (Err stop) before now
stop_counts A B (Refused fault) before now counts = counts
stop_counts A B Read before now counts = counts
stop_counts A B Memory before now counts = counts

pub ran_stop : {A B : Type 0} (stage : Files → Stage A) (rest : Files → A → Stage B) (old new : StoreState) (stop : Stop)
    → Ran {A = A} stage old new (Err stop) → Ran {A = B} (λ files. Then (stage files) (rest files)) old new (Err stop)
ran_stop {A} {B} stage rest old new stop ran = record {
  files = ran.files;
  counts = stop_counts A B stop old.faults new.faults ran.counts;
  more = ran.more;
  over = λ files told. at_stop (stage files) (rest files) old.asked new.asked stop (ran.over files told);
}

-- want of memory, before any file
pub ran_short : {A : Type 0} (stage : Files → Stage A) (store : StoreState) → Ran {A = A} stage store store (Err Memory)
ran_short stage store = record { files = refl; counts = omega arith; more = ([], sym (append-nil store.asked)); over = λ files told names outcome all. (0, sym (append-nil store.asked)) }

-- One file.

given : (limit : ℕ) (file : Option (List ℕ)) (bytes : List ℕ) → option_map (take limit) file ≡ Some bytes → Ok bytes ≡ found limit file
given limit None bytes is = cc
given limit (Some file) bytes is = ap (λ (b : List ℕ). Ok b) (sym (same_Some (take limit file) bytes is))

pub ran_load : (limit : ℕ) (name : List ℕ) (old new : StoreState) (bytes : List ℕ)
    → new.files ≡ old.files → new.asked ≡ old.asked ++ name ∷ [] → new.faults ≡ old.faults → Gives old.files name limit bytes → Ran (λ files. Loads limit files name) old new (Ok bytes)
unfolding Loads
ran_load limit name old new bytes files asked faults gives = record {
  files = files;
  counts = faults;
  more = (name ∷ [], asked);
  over = λ files' told. (name ∷ [], (refl, given limit (held files' name) bytes (gives files' told)), asked);
}

pub ran_unread : (limit : ℕ) (name : List ℕ) (old new : StoreState)
    → new.files ≡ old.files → new.asked ≡ old.asked ++ name ∷ [] → Rose old.faults new.faults → Ran {A = List ℕ} (λ files. Loads limit files name) old new (Err Read)
unfolding Loads
ran_unread limit name old new files asked rose = record {
  files = files;
  counts = rose;
  more = (name ∷ [], asked);
  over = λ files' told names outcome all. (1, rw (all.0) asked);
}

pub ran_load_short : (limit : ℕ) (name : List ℕ) (old new : StoreState)
    → new.files ≡ old.files → ((new.asked ≡ old.asked) ⊎ (new.asked ≡ old.asked ++ name ∷ [])) → old.faults ≤ new.faults → Ran {A = List ℕ} (λ files. Loads limit files name) old new (Err Memory)
unfolding Loads
ran_load_short limit name old new files (inl asked) later = record {
  files = files;
  counts = later;
  more = ([], asked ∙ sym (append-nil old.asked));
  over = λ files' told names outcome all. (0, asked ∙ sym (append-nil old.asked));
}
ran_load_short limit name old new files (inr asked) later = record {
  files = files;
  counts = later;
  more = (name ∷ [], asked);
  over = λ files' told names outcome all. (1, rw (all.0) asked);
}
