-- Why a text is no schema.
use Rattle.std.proofs.Common.{◌≡◌, ℕ, List, Some, ap, sym, ◌∙◌, subst}
use Rattle.std.specs.Prelude.{IsUtf8}
use Rattle.vkg_ddl.specs.declared.reading.TextFault.{TextFault}
use Rattle.vkg_ddl.specs.declared.reading.TextFault.TheVariants as text
use Rattle.vkg_ddl.specs.declared.written.WrittenTable.{WrittenTable}
use Rattle.vkg_ddl.specs.FirstFault.{first_fault}
use Rattle.vkg_ddl.specs.Reading.{TextFails as NoText, Says}
use Rattle.vkg_schema.specs.Reading.{TextFails, of_text, no_token, no_text, no_schema, IsFaultOf, fault}

pub no_text_of : (bytes : List ℕ) (e : TextFault) → IsUtf8 bytes → NoText bytes e → TextFails bytes (of_text e)
no_text_of bytes text.Memory u h = tt
no_text_of bytes (text.Lexical at) u h = no_token u h
no_text_of bytes (text.Grammar at) u h = no_text u h

pub no_schema_of : {bytes : List ℕ} {text : List ℕ} (written those : List WrittenTable) (check at : ℕ) → text ≡ bytes → those ≡ written → IsUtf8 bytes → Says text written → first_fault those ≡ Some (check, at) → IsFaultOf bytes (fault check at)
no_schema_of written those check at e w u s f = no_schema written u (subst (λ b. Says b written) e s) (ap first_fault (sym w) ∙ f)
