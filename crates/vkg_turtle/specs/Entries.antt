-- The prefixes as they are kept.
use Rattle.std.specs.Prelude.{ℕ, List, map, String, string_bytes}

-- each prefix with what it stands for
abbrev pub texts_of_entries : {Z : Type 0} → List (String Z × List ℕ) → List (List ℕ × List ℕ)
texts_of_entries es = map (λ e. (string_bytes e.0, e.1)) es
