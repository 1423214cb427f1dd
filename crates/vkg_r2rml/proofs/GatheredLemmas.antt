-- One more part of a mapping.
use Rattle.std.proofs.Common.{◌≡◌, ℕ, ◌≤◌, length, map, take, List, [], ◌∷◌, ◌++◌, None, Some, sym, ◌∙◌, ap, Ok, Err}
use Rattle.std.specs.Prelude.{filter_map}
use Rattle.std.proofs.lemmas.List.{append-nil, take_all}
use Rattle.std.proofs.lemmas.List.Elements.{filter_map-append}
use Rattle.std.proofs.lemmas.List.Sums.{fold_push}
use Rattle.std.specs.Result.{result_ok, result_err}
use Rattle.vkg_lists.specs.Places.{lesser, least_of}
use Rattle.vkg_lists.proofs.Places.{lesser-none}
use Rattle.vkg_r2rml.specs.declared.gathered.Gathered.{Gathered}
use Rattle.vkg_r2rml.specs.Gathered.{IsGathered}
use Rattle.vkg_r2rml.specs.Checked.{Checked, all_of}

module _ {A : Type 0} where
  pub value_added : (parts : List (Checked A)) (p : Checked A) (a : A) (old new : Gathered A) → p ≡ Ok a → new.values ≡ old.values ++ a ∷ [] → new.fault ≡ old.fault → IsGathered parts old → IsGathered (parts ++ p ∷ []) new
  value_added parts p a old new is values fault h = record {
    values = values ∙ ap (λ l. l ++ a ∷ []) h.values ∙ sym (filter_map-append result_ok parts (Ok a ∷ [])) ∙ ap (λ q. filter_map result_ok (parts ++ q ∷ [])) (sym is);
    fault = fault ∙ h.fault ∙ sym (lesser-none (least_of result_err parts)) ∙ ap (λ q. lesser (least_of result_err parts) (result_err q)) (sym is) ∙ sym (fold_push (λ best q. lesser best (result_err q)) None parts p);
  }

  pub fault_added : (parts : List (Checked A)) (p : Checked A) (check : ℕ) (old new : Gathered A) → p ≡ Err check → new.values ≡ old.values → new.fault ≡ lesser old.fault (Some check) → IsGathered parts old → IsGathered (parts ++ p ∷ []) new
  fault_added parts p check old new is values fault h = record {
    values = values ∙ h.values ∙ sym (filter_map-append result_ok parts (Err check ∷ []) ∙ append-nil (filter_map result_ok parts)) ∙ ap (λ q. filter_map result_ok (parts ++ q ∷ [])) (sym is);
    fault = fault ∙ ap (λ l. lesser l (Some check)) h.fault ∙ ap (λ q. lesser (least_of result_err parts) (result_err q)) (sym is) ∙ sym (fold_push (λ best q. lesser best (result_err q)) None parts p);
  }

  -- where a loop over parts ends, all are read
  pub all_read : {X : Type 0} (f : X → Checked A) (xs : List X) (i : ℕ) (r : Checked (List A)) → length xs ≤ i → r ≡ all_of (map f (take i xs)) → r ≡ all_of (map f xs)
  all_read f xs i r h e = e ∙ ap (λ l. all_of (map f l)) (take_all i xs h)
