-- The last item of a list.
use Rattle.std.proofs.Common.{◌≡◌, List, [], ◌∷◌, ◌++◌, Some, map, option_to_list, sym, ap, ◌∙◌}
use Rattle.std.specs.Prelude.{slice_get}
use Rattle.vkg_lists.specs.Lists.{without_last}
use Rattle.vkg_lists.proofs.Heads.{at_seam, before_end, without_last-push}
use Rattle.vkg_turtle.specs.Document.{last_of}

module _ {A : Type 0} where
  pub last_is : (old front : List A) (x : A) → old ≡ front ++ x ∷ [] → last_of old ≡ Some x
  last_is old front x e = ap last_of e ∙ ap (slice_get (front ++ x ∷ [])) (before_end front x) ∙ at_seam front x []

  pub front_is : (old front : List A) (x : A) → old ≡ front ++ x ∷ [] → without_last old ≡ front
  front_is old front x e = ap without_last e ∙ without_last-push front x

  -- the last item is replaced by what f makes of it
  pub last_changed : (f : A → A) (old front : List A) (x y : A) → old ≡ front ++ x ∷ [] → y ≡ f x → front ++ y ∷ [] ≡ without_last old ++ map f (option_to_list (last_of old))
  last_changed f old front x y e n =
      let at_last : last_of old ≡ Some x = last_is old front x e in
      let before : without_last old ≡ front = front_is old front x e in
      ap (λ z. front ++ z ∷ []) n ∙ (λ i. sym before i ++ map f (option_to_list (sym at_last i)))
