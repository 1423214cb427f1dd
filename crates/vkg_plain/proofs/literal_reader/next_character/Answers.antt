use Rattle.std.proofs.Common.{◌≡◌, ◌≢◌, ◌++◌, ℕ, List, length, sym, ap, ◌∙◌, arith}
use Rattle.std.proofs.Math.Utf8.{encode}
use Rattle.vkg_plain.proofs.EscapeLemmas.{character_as_is, character_escaped, letter_lacks, no_character, never_empty, at_quote}
use Rattle.vkg_plain.proofs.literal_reader.next_character.Goals as goal

-- the text begins with a character that is known
begins : (text rest more : List ℕ) (c d : ℕ) → rest ≡ text → rest ≡ encode c ++ more → c ≡ d → text ≡ encode d ++ more
begins text rest more c d same is known = sym same ∙ is ∙ ap (λ n. encode n ++ more) known

pub returns-in_err-c-clause-value : goal.returns-in_err-c-clause-value
returns-in_err-c-clause-value c = λ d rest e.
    absurd (never_empty d c.args.text.now rest (sym (ap length c.chars-characters.ensures.rest) ∙ c.in_err-c.ensures.steps.0.0) e)

pub returns-in_err-letter-in-92-clause-value : goal.returns-in_err-letter-in-92-clause-value
returns-in_err-letter-in-92-clause-value c = λ d rest e.
    let is = begins c.args.text.now _ _ _ 92 c.chars-characters.ensures.rest c.in_ok-c.ensures.steps.0 c.in-92.is in
    absurd (letter_lacks d c.args.text.now rest c.next.new.self.rest.now is c.in_err-letter-in-92.ensures.steps.0.0 e)

pub returns-in-34-clause-value : goal.returns-in-34-clause-value
returns-in-34-clause-value c = λ d rest e.
    let is = begins c.args.text.now _ _ _ 34 c.chars-characters.ensures.rest c.in_ok-c.ensures.steps.0 c.in-34.is in
    no_character d c.args.text.now rest c.next.new.self.rest.now is e

pub returns-in_ok-letter-in-92-clause-value : goal.returns-in_ok-letter-in-92-clause-value
returns-in_ok-letter-in-92-clause-value c = λ d rest e.
    let is = begins c.args.text.now _ _ _ 92 c.chars-characters.ensures.rest c.in_ok-c.ensures.steps.0 c.in-92.is in
    let parts = character_escaped d c.in_ok-letter-in-92.letter c.args.text.now rest c.next.new.self.rest.now c.next-in-92.new.self.rest.now is c.in_ok-letter-in-92.ensures.steps.0 e in
    (c.meant.ensures d parts.0, c.as_str.ensures ∙ parts.1)

pub returns-in_default-clause-value : goal.returns-in_default-clause-value
returns-in_default-clause-value c = λ d rest e.
    let unescaped : c.in_ok-c.c ≢ 92 = omega arith in
    let parts = character_as_is d c.in_ok-c.c c.args.text.now rest c.next.new.self.rest.now (sym c.chars-characters.ensures.rest ∙ c.in_ok-c.ensures.steps.0) unescaped e in
    (parts.0, c.as_str-in_default.ensures ∙ parts.1)

pub returns-in_default-clause-closing : goal.returns-in_default-clause-closing
returns-in_default-clause-closing c = λ rest e.
    let quote = at_quote c.in_ok-c.c c.args.text.now rest c.next.new.self.rest.now (sym c.chars-characters.ensures.rest ∙ c.in_ok-c.ensures.steps.0) e in
    absurd (omega arith)
