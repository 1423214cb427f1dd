-- One note of a derivation more.
use Rattle.vkg_grammar.specs.declared.note.Note.{Note}
use Rattle.std.proofs.Common.{◌≡◌, ℕ, ◌+◌, ◌<◌, ◌≤◌, Bool, true, false, cond, List, [], ◌∷◌, length, get_or, drop, ap, sym, ◌∙◌, arith}
use Rattle.std.proofs.lemmas.List.{at_drop_more, at_drop_all}
use Rattle.vkg_ddl.specs.declared.role.Role.{Role}
use Rattle.vkg_ddl.specs.declared.written.WrittenTable.{WrittenTable}
use Rattle.vkg_ddl.specs.Written.{act}
use Rattle.vkg_ddl.specs.declared.name.Name.{Name}
use Rattle.vkg_ddl.specs.Reading.{role_of, is_choice, written_of, with_token}

note_first : (n : Note) (ns : List Note) (ts : List Name) (tables : List WrittenTable) (is_so : Bool) → is_choice (role_of n.symbol) ≡ is_so → written_of (n ∷ ns) ts tables ≡ cond is_so (written_of ns ts tables) (with_token (role_of n.symbol) ts tables (λ us next. written_of ns us next))
unfolding written_of
note_first n ns ts tables is_so e = ap (λ b. cond b (written_of ns ts tables) (with_token (role_of n.symbol) ts tables (λ us next. written_of ns us next))) e

module _ (notes : List Note) (i : ℕ) (d : Note) (r : Role) (h : i < length notes) (e : r ≡ role_of (get_or notes i d).symbol) where
  here : (ts : List Name) (tables : List WrittenTable) (is_so : Bool) → is_so ≡ is_choice r → written_of (drop i notes) ts tables ≡ cond is_so (written_of (drop (i + 1) notes) ts tables) (with_token r ts tables (λ us next. written_of (drop (i + 1) notes) us next))
  here ts tables is_so q =
      at_drop_more (λ ns. written_of ns ts tables) notes i d h
      ∙ note_first (get_or notes i d) (drop (i + 1) notes) ts tables is_so (ap is_choice (sym e) ∙ sym q)
      ∙ ap (λ y. cond is_so (written_of (drop (i + 1) notes) ts tables) (with_token y ts tables (λ us next. written_of (drop (i + 1) notes) us next))) (sym e)

  pub past_choice : (ts : List Name) (tables all : List WrittenTable) → true ≡ is_choice r → written_of (drop i notes) ts tables ≡ all → written_of (drop (i + 1) notes) ts tables ≡ all
  past_choice ts tables all q inv = sym (here ts tables true q) ∙ inv

  pub past_token : (ts us : List Name) (t : Name) (tables next all : List WrittenTable) → false ≡ is_choice r → ts ≡ t ∷ us → next ≡ act r t tables → written_of (drop i notes) ts tables ≡ all → written_of (drop (i + 1) notes) us next ≡ all
  past_token ts us t tables next all q f n inv =
      ap (written_of (drop (i + 1) notes) us) n
      ∙ sym (ap (λ y. with_token r y tables (λ us next. written_of (drop (i + 1) notes) us next)) f)
      ∙ sym (here ts tables false q) ∙ inv

  pub out_of_tokens : (ts : List Name) (tables all : List WrittenTable) → false ≡ is_choice r → length ts ≡ 0 → written_of (drop i notes) ts tables ≡ all → tables ≡ all
  out_of_tokens [] tables all q z inv = sym (here [] tables false q) ∙ inv
  out_of_tokens (t ∷ ts) tables all q z inv = absurd (omega arith)

pub all_noted : (notes : List Note) (i : ℕ) (ts : List Name) (tables all : List WrittenTable) → length notes ≤ i → written_of (drop i notes) ts tables ≡ all → tables ≡ all
unfolding written_of
all_noted notes i ts tables all h inv = sym (at_drop_all (λ ns. written_of ns ts tables) notes i h) ∙ inv
