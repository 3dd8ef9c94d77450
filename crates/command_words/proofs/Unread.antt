-- Which commands clap doesn't read.
use Rattle.std.proofs.Common.{◌≡◌, ◌⊎◌, refl, inl, inr, drop, List, [], ◌∷◌, Option, None, Some}
use Rattle.std.specs.Prelude.{Result, Ok, Err, IsTrue}
use Rattle.clap.specs.Words.{Text}
use Rattle.command_words.specs.declared.reading.Command.{Command}
use Rattle.command_words.specs.declared.reading.Command.TheVariants as C
use Rattle.command_words.specs.declared.reading.Name.{Name}
use Rattle.command_words.specs.declared.reading.Name.TheVariants as N
use Rattle.command_words.specs.declared.reading.Topic.TheVariants as T
use Rattle.command_words.specs.Words.{alone, asks_clap, command_named, command_of, is_parsed, name_of}

alone_is : (others : List Text) (said command : Command) → alone others said ≡ Ok command → command ≡ said
alone_is [] said command e = cc
alone_is (word ∷ others) said command e = absurd cc

named_unread : (words : List Text) (command : Command) (name : Option Name) → command_named name words ≡ Ok command → IsTrue (is_parsed name) ⊎ ((command ≡ C.Help T.Program) ⊎ (command ≡ C.Version))
named_unread words command None e = absurd cc
named_unread words command (Some N.Play) e = inl refl
named_unread words command (Some N.Cells) e = inl refl
named_unread words command (Some N.Grow) e = inl refl
named_unread words command (Some N.Check) e = inl refl
named_unread words command (Some N.Mirror) e = inl refl
named_unread words command (Some N.Help) e = inr (inl (alone_is (drop 1 words) (C.Help T.Program) command e))
named_unread words command (Some N.Version) e = inr (inr (alone_is (drop 1 words) C.Version command e))

-- clap reads the words, or they ask for the program's help or version
pub read_or_told : (words : List Text) (command : Command) → command_of words ≡ Ok command → IsTrue (asks_clap words) ⊎ ((command ≡ C.Help T.Program) ⊎ (command ≡ C.Version))
read_or_told [] command e = absurd cc
read_or_told (first ∷ others) command e = named_unread (first ∷ others) command (name_of first) e
