-- Reads one after another.
use Rattle.std.proofs.Common.{◌≡◌, ℕ, ◌<◌, ◌≤◌, List, ◌++◌, length, take, sym, ◌∙◌, ap, arith}
use Rattle.std.proofs.lemmas.List.{append-nil, take-append-le, take_all}
use Rattle.std.specs.Prelude.{Option, Some, None, IfSome}
use Rattle.std.specs.Io.KnownBytes.{Consumes, IsAtEnd}
use Rattle.std.proofs.KnownBytes.{Consumes-trans}

-- as many bytes as were wanted
pub filled : (a b : Option (List ℕ)) (bs : List ℕ) (limit : ℕ) → Consumes a b bs → length bs ≡ limit → IfSome a (λ left. bs ≡ take limit left)
filled None b bs limit consumed full = tt
filled (Some xs) None bs limit consumed full = absurd consumed
filled (Some xs) (Some ys) bs limit consumed full = sym (ap (take limit) consumed ∙ ap (λ n. take n (bs ++ ys)) (sym full) ∙ take-append-le (length bs) bs ys (omega arith) ∙ take_all (length bs) bs (omega arith))

-- a read that gave nothing, though there was room: all bytes that there were
pub ended : (a b c : Option (List ℕ)) (bs buffer : List ℕ) (n limit : ℕ) → Consumes a b bs → Consumes b c (take n buffer) × (n ≡ 0 → 0 < length buffer → IsAtEnd c) → n ≡ 0 → 0 < length buffer → length bs ≤ limit → IfSome a (λ left. bs ≡ take limit left)
ended a b c bs buffer n limit first second none room short = whole a c (Consumes-trans a b c bs (take n buffer) first second.0) (second.1 none room)
  where
    whole : (a c : Option (List ℕ)) → Consumes a c (bs ++ take n buffer) → IsAtEnd c → IfSome a (λ left. bs ≡ take limit left)
    whole None c consumed end = tt
    whole (Some xs) None consumed end = absurd consumed
    whole (Some xs) (Some ys) consumed end =
        let all : xs ≡ bs = consumed ∙ ap (λ (l : List ℕ). (bs ++ take n buffer) ++ l) end ∙ append-nil (bs ++ take n buffer) ∙ ap (λ k. bs ++ take k buffer) none ∙ append-nil bs in
        sym (ap (take limit) all ∙ take_all limit bs short)
