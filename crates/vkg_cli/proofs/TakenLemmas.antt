-- Words in which the definition finds no fault give a command with all of its options, but for `gen` with a word that is no number.
use Rattle.std.proofs.Common.{◌≡◌, ◌&&◌, ◌⊎◌, inl, inr, ℕ, Bool, true, false, not, List, [], ◌∷◌, Option, Some, None, cond, refl, sym, ap, ◌∙◌, codes}
use Rattle.std.specs.Prelude.{IfNone, IfSome, option_and_then, option_map}
use Rattle.std.specs.Option.{is_some, option_map_or}
use Rattle.clap.specs.Words.{App, Kinds, Row, Shape, Text, built, fault_of, first_of, subcommand_of}
use Rattle.clap.specs.Walk.{finished, nothing_held, rows_after, stop_after, walk}
use Rattle.clap.specs.Faults.{entered_fault, level_fault}
use Rattle.clap.specs.Simple.{argument_words, built_leaf, entered, filled, inherited, marked_built, names_of, rows_at, with_index, with_leaf_noted}
use Rattle.vkg_lists.proofs.Bools.{neither, not_false}
use Rattle.vkg_company.specs.Count.{count_in}
use Rattle.vkg_cli.specs.Words.{AreNotTaken, Asked, HasNoCount, command_unless, gen, named_words, request_seen, taken_command}
use Rattle.vkg_cli.specs.declared.words.Request.{Request}
use Rattle.vkg_cli.specs.CommandLine.{dump_app, gen_app, option_rule, optional_rule, query_app, sql_app, vkg_app, word_rule}
use Rattle.vkg_cli.proofs.AskedLemmas.{asked-taken}
use Rattle.vkg_cli.proofs.FilledLemmas.{IsOption, argument-check, given-first, level-filled, level-parts, subcommand-check}

-- a subcommand as the parse sees it
abbrev leaf : App → Shape
leaf a = built_leaf (inherited (with_leaf_noted (marked_built vkg_app.top)) a.top)

fits : (name : Text) → IsOption (with_index 1 (filled (option_rule name)))
fits name = record { action = refl; range = refl; short = refl; short_aliases = refl; defaults = refl }

fits-optional : (name : Text) → IsOption (with_index 1 (filled (optional_rule name)))
fits-optional name = record { action = refl; range = refl; short = refl; short_aliases = refl; defaults = refl }

fits-word : (name : Text) → IsOption (with_index 1 (filled (word_rule name)))
fits-word name = record { action = refl; range = refl; short = refl; short_aliases = refl; defaults = refl }

not-and-true : (b : Bool) → (not b && true) ≡ false → b ≡ true
not-and-true true e = refl
not-and-true false e = cc e

abbrev Gives : Option (Text × List Row) → Type 0
Gives o = is_some (option_and_then (λ p. named_words p.0 p.1) o) ≡ true

dump-gives : (words : List Text) → level_fault (leaf dump_app) [] nothing_held words false [] ≡ [] → Gives (Some (rows_at (leaf dump_app) words))
dump-gives words e =
    let rows = rows_after (leaf dump_app).rules [] words in
    let level = level-filled (leaf dump_app) (fits (codes "schema"), (fits (codes "data"), (fits (codes "base"), (fits-optional (codes "mapping"), tt)))) words e in
    let schema = neither _ _ (argument-check (leaf dump_app) rows false level.1) in
    let folder = neither _ _ schema.1 in
    let base = neither _ _ folder.1 in
    let has_schema = given-first (codes "schema") rows level.0 (not_false _ schema.0) in
    let has_folder = given-first (codes "data") rows level.0 (not_false _ folder.0) in
    let has_base = given-first (codes "base") rows level.0 (not_false _ base.0) in
    rw (has_schema.1, has_folder.1, has_base.1) refl

query-gives : (words : List Text) → level_fault (leaf query_app) [] nothing_held words false [] ≡ [] → Gives (Some (rows_at (leaf query_app) words))
query-gives words e =
    let rows = rows_after (leaf query_app).rules [] words in
    let level = level-filled (leaf query_app) (fits (codes "schema"), (fits (codes "data"), (fits (codes "base"), (fits (codes "query"), (fits-optional (codes "mapping"), tt))))) words e in
    let schema = neither _ _ (argument-check (leaf query_app) rows false level.1) in
    let folder = neither _ _ schema.1 in
    let base = neither _ _ folder.1 in
    let file = neither _ _ base.1 in
    let has_schema = given-first (codes "schema") rows level.0 (not_false _ schema.0) in
    let has_folder = given-first (codes "data") rows level.0 (not_false _ folder.0) in
    let has_base = given-first (codes "base") rows level.0 (not_false _ base.0) in
    let has_file = given-first (codes "query") rows level.0 (not_false _ file.0) in
    rw (has_schema.1, has_folder.1, has_base.1, has_file.1) refl

sql-gives : (words : List Text) → level_fault (leaf sql_app) [] nothing_held words false [] ≡ [] → Gives (Some (rows_at (leaf sql_app) words))
sql-gives words e =
    let rows = rows_after (leaf sql_app).rules [] words in
    let level = level-filled (leaf sql_app) (fits (codes "schema"), (fits (codes "base"), (fits (codes "query"), (fits-optional (codes "mapping"), tt)))) words e in
    let schema = neither _ _ (argument-check (leaf sql_app) rows false level.1) in
    let base = neither _ _ schema.1 in
    let file = neither _ _ base.1 in
    let has_schema = given-first (codes "schema") rows level.0 (not_false _ schema.0) in
    let has_base = given-first (codes "base") rows level.0 (not_false _ base.0) in
    let has_file = given-first (codes "query") rows level.0 (not_false _ file.0) in
    rw (has_schema.1, has_base.1, has_file.1) refl

abbrev GivesOr : Option (Text × List Row) → Type 0
GivesOr o = Gives o ⊎ HasNoCount o

counts : (rows : List Row) (word : Text) → first_of (codes "N") rows ≡ Some word → (counted : Option ℕ) → count_in word ≡ counted → GivesOr (Some (codes "gen", rows))
counts rows word first None e = inr (record { rows = rows; named = refl; word = word; given = first; none = e })
counts rows word first (Some n) e = inl (ap (λ o. is_some (option_and_then (λ w. option_map gen (count_in w)) o)) first ∙ ap (λ (o : Option ℕ). is_some (option_map gen o)) e)

gen-gives : (words : List Text) → level_fault (leaf gen_app) [] nothing_held words false [] ≡ [] → GivesOr (Some (rows_at (leaf gen_app) words))
gen-gives words e =
    let rows = rows_after (leaf gen_app).rules [] words in
    let level = level-filled (leaf gen_app) (fits-word (codes "N"), tt) words e in
    let word = neither _ _ (argument-check (leaf gen_app) rows false level.1) in
    let has_word = given-first (codes "N") rows level.0 (not_false _ word.0) in
    counts rows has_word.0 has_word.1 (count_in has_word.0) refl

-- the command that is named
abbrev Found : Bool → Bool → Bool → Bool → Option Shape
Found dumps asks writes reports = cond dumps (Some (leaf dump_app)) (cond asks (Some (leaf query_app)) (cond writes (Some (leaf sql_app)) (cond reports (Some (leaf gen_app)) None)))

one : (dumps asks writes reports : Bool) (words : List Text)
    → is_some (option_map (λ s. rows_at s words) (Found dumps asks writes reports)) ≡ true
    → option_map_or (λ s. level_fault s [] nothing_held words false []) (Found dumps asks writes reports) [] ≡ []
    → GivesOr (option_map (λ s. rows_at s words) (Found dumps asks writes reports))
one true asks writes reports words here e = inl (dump-gives words e)
one false true writes reports words here e = inl (query-gives words e)
one false false true reports words here e = inl (sql-gives words e)
one false false false true words here e = gen-gives words e
one false false false false words here e = cc here

stopped : (stop : Option (Text × List Text)) → is_some (entered (built vkg_app) stop) ≡ true → entered_fault (built vkg_app) stop ≡ [] → GivesOr (entered (built vkg_app) stop)
stopped None here e = cc here
stopped (Some p) here e = one _ _ _ _ p.1 here e

pub taken-gives : (words : List Text) → fault_of vkg_app words ≡ [] → GivesOr (subcommand_of vkg_app words)
taken-gives words e =
    let texts = argument_words (built vkg_app) words in
    let stop = stop_after (built vkg_app).top.rules (names_of (built vkg_app)) texts in
    let parts = level-parts (built vkg_app).top (names_of (built vkg_app)) texts (is_some (entered (built vkg_app) stop)) (entered_fault (built vkg_app) stop) e in
    let rows = finished (built vkg_app).top.rules (walk (built vkg_app).top.rules (names_of (built vkg_app)) nothing_held texts).held in
    let named = is_some (entered (built vkg_app) stop) in
    stopped stop (not-and-true named (subcommand-check (built vkg_app).top rows named parts.1)) parts.0

nothing-given : (words : List Text) → taken_command words ≡ None → (kinds : Kinds) → fault_of vkg_app words ≡ kinds → AreNotTaken words
nothing-given words none [] e = elim (taken-gives words e) [
  | inl some ↦ cc (sym some ∙ ap is_some (sym (asked-taken words e) ∙ none))
  | inr counts ↦ inr counts
]
nothing-given words none (k ∷ ks) e = inl (λ empty. cc (sym e ∙ empty))

-- why words are not taken
pub refusal : (r : Option Request) (words : List Text) → option_map request_seen r ≡ taken_command words → IfNone r (AreNotTaken words)
refusal None words e = nothing-given words (sym e) (fault_of vkg_app words) refl
refusal (Some x) words e = tt

faultless : (kinds : Kinds) (x : Asked) (words : List Text) → Some x ≡ command_unless kinds words → kinds ≡ []
faultless [] x words e = refl
faultless (k ∷ ks) x words e = cc e

-- words that are taken have no fault
pub taking : (r : Option Request) (words : List Text) → option_map request_seen r ≡ taken_command words → IfSome r (λ _. fault_of vkg_app words ≡ [])
unfolding taken_command
taking None words e = tt
taking (Some x) words e = faultless (fault_of vkg_app words) (request_seen x) words e
