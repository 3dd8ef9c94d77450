-- Words that stand behind one that asks for help or the version.
use Rattle.std.proofs.Common.{◌≡◌, ◌∙◌, ◌≤◌, ap, subst, sym, length, drop, List, [], ◌∷◌, Option, Some, arith}
use Rattle.std.specs.Prelude.{slice_index_or}
use Rattle.clap.specs.Words.{Text}
use Rattle.command_words.specs.Complaints.{Complains}
use Rattle.command_words.specs.declared.complaints.Complaint.{Complaint}
use Rattle.command_words.specs.declared.reading.Command.TheVariants as C
use Rattle.command_words.specs.declared.reading.Name.{Name}
use Rattle.command_words.specs.declared.reading.Name.TheVariants as N
use Rattle.command_words.specs.declared.reading.Topic.TheVariants as T
use Rattle.command_words.specs.Words.{alone, command_of, command_named, name_of}

module _ (first : Text) (told : Option Complaint) where
  pub behind_help : (words : List Text) → 1 ≤ length words → first ≡ slice_index_or words 0 first → name_of first ≡ Some N.Help
      → Complains (first ∷ drop 1 words) (alone (drop 1 words) (C.Help T.Program)) told → Complains words (command_of words) told
  behind_help [] some is named complains = absurd (omega arith)
  behind_help (word ∷ others) some is named complains =
      subst (λ (name : Option Name). Complains (word ∷ others) (command_named name (word ∷ others)) told) (sym (ap name_of (sym is) ∙ named))
      (subst (λ (w : Text). Complains (w ∷ others) (alone others (C.Help T.Program)) told) is complains)

  pub behind_version : (words : List Text) → 1 ≤ length words → first ≡ slice_index_or words 0 first → name_of first ≡ Some N.Version
      → Complains (first ∷ drop 1 words) (alone (drop 1 words) C.Version) told → Complains words (command_of words) told
  behind_version [] some is named complains = absurd (omega arith)
  behind_version (word ∷ others) some is named complains =
      subst (λ (name : Option Name). Complains (word ∷ others) (command_named name (word ∷ others)) told) (sym (ap name_of (sym is) ∙ named))
      (subst (λ (w : Text). Complains (w ∷ others) (alone others C.Version) told) is complains)
