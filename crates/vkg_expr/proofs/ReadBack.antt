-- What is put into a cell is read back.
use Rattle.std.proofs.Common.{◌≡◌, ℕ, Bool, List, refl}
use Rattle.std.specs.Prelude.{Option, Some, None}
use Rattle.vkg_terms.specs.declared.term.Term.{Term}
use Rattle.vkg_expr.specs.Value.{term_cell, term_of, text_cell, text_of, truth_cell, truth_of}

pub truth_back : (o : Option Bool) → truth_of (truth_cell o) ≡ o
truth_back None = refl
truth_back (Some b) = refl

pub text_back : (o : Option (List ℕ)) → text_of (text_cell o) ≡ o
text_back None = refl
text_back (Some s) = refl

pub term_back : (o : Option Term) → term_of (term_cell o) ≡ o
term_back None = refl
term_back (Some t) = refl
