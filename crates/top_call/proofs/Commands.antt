-- What the words say of the status.
use Rattle.std.proofs.Common.{◌≡◌, ◌≢◌, ◌⊎◌, ◌∙◌, refl, sym, ap, subst, inl, inr}
use Rattle.std.specs.Prelude.{ℕ, List, IsTrue, Result, Ok, Err}
use Rattle.ice_base.specs.Ends.{InputAt}
use Rattle.command_words.specs.declared.reading.Command.{Command}
use Rattle.command_words.specs.declared.reading.Command.TheVariants as C
use Rattle.command_words.specs.declared.reading.Topic.TheVariants as T
use Rattle.command_words.specs.declared.reading.UsageFault.{UsageFault}
use Rattle.command_words.specs.declared.reading.WordsFault.{WordsFault}
use Rattle.command_words.specs.declared.reading.WordsFault.TheVariants as W
use Rattle.command_words.specs.Words.{IsFault, asks_clap, command_of}
use Rattle.command_words.proofs.Unread.{read_or_told}
use Rattle.top_call.specs.declared.statuses.Status.{Status}
use Rattle.top_call.specs.declared.statuses.Status.TheVariants as S
use Rattle.top_call.specs.Statuses.{of_words}
use Rattle.top_call.specs.Run.{TellsRefused}

-- what holds of the command that is said
pub of_said : (said : Result Command UsageFault) (is : Command) → said ≡ Ok is → (P : Command → Type 0) → P is → (command : Command) → said ≡ Ok command → P command
of_said said is e P p command k = let both = sym e ∙ k in let same : is ≡ command = cc in subst P same p

pub not_said : {said : Result Command UsageFault} {is : Command} {fault : UsageFault} {P : Type 0} → said ≡ Ok is → said ≡ Err fault → P
not_said e k = let both = sym e ∙ k in absurd cc

-- ---- words that are no command, or for which there was no memory
module _ (said : Result Command UsageFault) where
  pub usage_told : (fault : WordsFault) → IsFault said fault → (usage : UsageFault) → said ≡ Err usage → (of_words fault ≡ S.Usage usage) ⊎ (of_words fault ≡ S.NoMemory)
  usage_told (W.Usage fault) is usage k = let both = sym is ∙ k in let same : fault ≡ usage = cc in inl (subst (λ (u : UsageFault). S.Usage fault ≡ S.Usage u) same refl)
  usage_told W.NoMemory is usage k = inr refl

  pub starved : (fault : WordsFault) → IsFault said fault → (P : Status → Type 0) → P S.NoMemory → (command : Command) → said ≡ Ok command → P (of_words fault)
  starved (W.Usage fault) is P p command k = let both = sym is ∙ k in absurd cc
  starved W.NoMemory is P p command k = p

pub refused_starved : (command : Command) (a : InputAt) → TellsRefused command a S.NoMemory
refused_starved C.Play a = λ bytes line kind e r. inr (inr refl)
refused_starved (C.Cells box) a = λ line kind r. inr refl
refused_starved (C.Grow tasks) a = λ line kind r. inr refl
refused_starved C.Check a = tt
refused_starved (C.Help topic) a = tt
refused_starved C.Version a = tt

-- words tell no fault of the store or of the sink
pub no_store : {P : Type 0} (fault : WordsFault) → of_words fault ≡ S.StoreFault → P
no_store (W.Usage fault) k = absurd cc
no_store W.NoMemory k = absurd cc

pub no_sink : {P : Type 0} (fault : WordsFault) → of_words fault ≡ S.WriteFault → P
no_sink (W.Usage fault) k = absurd cc
no_sink W.NoMemory k = absurd cc

-- ---- where want of memory may be told
abbrev refused : WordsFault → Result Command WordsFault
refused fault = Err fault

pub unread : {P : Type 0} (fault : WordsFault) → (refused fault ≡ refused W.NoMemory → P) → of_words fault ≡ S.NoMemory → P
unread (W.Usage fault) memory k = absurd cc
unread W.NoMemory memory k = memory refl

pub read_in_memory : (words : List (List ℕ)) (command : Command) (status : Status) → command_of words ≡ Ok command → (command ≡ C.Version → status ≢ S.NoMemory) → status ≡ S.NoMemory → IsTrue (asks_clap words) ⊎ (command_of words ≡ Ok (C.Help T.Program))
read_in_memory words command status e apart k = by_command (read_or_told words command e)
  where
    by_command : IsTrue (asks_clap words) ⊎ ((command ≡ C.Help T.Program) ⊎ (command ≡ C.Version)) → IsTrue (asks_clap words) ⊎ (command_of words ≡ Ok (C.Help T.Program))
    by_command (inl read) = inl read
    by_command (inr (inl help)) = inr (e ∙ ap Ok help)
    by_command (inr (inr version)) = absurd (apart version k)
