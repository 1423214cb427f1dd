-- The options that words give, by the faults that the command line's definition finds in them.
use Rattle.std.proofs.Common.{◌≡◌, ◌∷◌, [], List, true, None, option_and_then, refl, ap}
use Rattle.clap.specs.Words.{IsAmong, Kinds, Text, fault_of, is_simple, is_simple_and_free, subcommand_of}
use Rattle.clap.specs.declared.error.ErrorKind.{ErrorKind}
use Rattle.clap.proofs.OnLiterals.{clap_on_literals}
use Rattle.vkg_cli.specs.Words.{command_unless, named_words, taken_command}
use Rattle.vkg_cli.specs.CommandLine.{vkg_app}

pub simple : is_simple vkg_app ≡ true
unfolding clap_on_literals
simple = refl

pub simple-and-free : is_simple_and_free vkg_app ≡ true
unfolding clap_on_literals
simple-and-free = refl

pub asked-taken : (words : List Text) → fault_of vkg_app words ≡ [] → taken_command words ≡ option_and_then (λ p. named_words p.0 p.1) (subcommand_of vkg_app words)
unfolding taken_command
asked-taken words e = ap (λ ks. command_unless ks words) e

refused : (kinds : Kinds) (k : ErrorKind) (words : List Text) → IsAmong k kinds → command_unless kinds words ≡ None
refused [] k words h = absurd h
refused (x ∷ xs) k words h = refl

pub asked-refused : (words : List Text) (k : ErrorKind) → IsAmong k (fault_of vkg_app words) → taken_command words ≡ None
unfolding taken_command
asked-refused words k h = refused (fault_of vkg_app words) k words h
