-- Why a text is no document.
use Rattle.std.proofs.Common.{◌≡◌, ℕ, List, Some, Ok, Err, inl, inr, length, ap, sym, ◌∙◌, subst}
use Rattle.std.specs.Prelude.{IsUtf8}
use Rattle.vkg_grammar.specs.Form.{IsTooDeep, IsShallow}
use Rattle.vkg_grammar.specs.Kinds.{kinds_of, start_at}
use Rattle.vkg_grammar.specs.Parsing.{IsFirstDead, IsCutOff}
use Rattle.vkg_tokens.specs.declared.cutting.Token.{Token}
use Rattle.vkg_turtle.specs.declared.document.Document.{Document}
use Rattle.vkg_turtle.specs.declared.grammar_table.TheConstants.{TURTLE}
use Rattle.vkg_turtle.specs.declared.reading.TurtleError.{TurtleError}
use Rattle.vkg_turtle.specs.declared.reading.TurtleError.TheVariants.{Fault}
use Rattle.vkg_turtle.specs.declared.reading.TurtleFault.{TurtleFault}
use Rattle.vkg_turtle.specs.Reading.{turtle, turtle_tokens, fault, fault_of, Says, IsFaultOf, TextFails, lexical, too_deep, no_text, no_document}
use Rattle.vkg_turtle.proofs.Lexical.{first_of_text}

module _ (text base : List ℕ) (u : IsUtf8 text) where
  -- the error is the one that is made of the fault
  named : (e : TurtleError) (f : TurtleFault) → e ≡ Fault f → IsFaultOf text base f → TextFails text base e
  named e f n h = subst (TextFails text base) (sym n) h

  pub no_token_named : (e : TurtleError) (at : ℕ) → e ≡ Fault (fault 1 at) → turtle_tokens text ≡ Err at → TextFails text base e
  no_token_named e at n h = named e (fault 1 at) n (lexical (first_of_text at u h))

  module _ (ts xs ys : List Token) (cut : turtle_tokens text ≡ Ok ts) (x : xs ≡ ts) (y : ys ≡ ts) where
    pub too_deep_named : (e : TurtleError) (i at : ℕ) → e ≡ Fault (fault 3 at) → IsTooDeep turtle (kinds_of xs) i → at ≡ start_at ys i → TextFails text base e
    too_deep_named e i at n d p = named e (fault 3 at) n (too_deep u (record { tokens = ts; bracket = i; cut = cut; deep = subst (λ t. IsTooDeep turtle (kinds_of t) i) x d; place = p ∙ ap (λ t. start_at t i) y }))

    pub dead_named : (e : TurtleError) (i at : ℕ) → e ≡ Fault (fault 2 at) → IsShallow turtle (kinds_of xs) → IsFirstDead TURTLE (kinds_of xs) i → at ≡ start_at ys i → TextFails text base e
    dead_named e i at n s d p = named e (fault 2 at) n (no_text u (record { tokens = ts; cut = cut; shallow = subst (λ t. IsShallow turtle (kinds_of t)) x s; place = inl (i, subst (λ t. IsFirstDead TURTLE (kinds_of t) i) x d, p ∙ ap (λ t. start_at t i) y) }))

    pub ended_named : (e : TurtleError) (at : ℕ) → e ≡ Fault (fault 2 at) → IsShallow turtle (kinds_of xs) → IsCutOff TURTLE (kinds_of xs) → at ≡ length text → TextFails text base e
    ended_named e at n s d p = named e (fault 2 at) n (no_text u (record { tokens = ts; cut = cut; shallow = subst (λ t. IsShallow turtle (kinds_of t)) x s; place = inr (subst (λ t. IsCutOff TURTLE (kinds_of t)) x d, p) }))

pub no_document_of : {bytes base text : List ℕ} (document : Document) (f : TurtleFault) → text ≡ bytes → IsUtf8 bytes → Says text base document → fault_of document ≡ Some f → IsFaultOf bytes base f
no_document_of {base = base} document f e u s h = no_document document u (subst (λ b. Says b base document) e s) h
