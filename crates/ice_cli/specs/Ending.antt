-- How the process ends (own): by the number of the status of what the words say was done.
use Rattle.std.specs.Prelude.{◌≡◌, ◌⊎◌, ℕ, true, false, List, [], Option, Some, None, Ok, Err}
use Rattle.std.specs.declared.process.ExitCode.{ExitCode}
use Rattle.std.specs.Process.{exit_status}
use Rattle.ice_base.specs.Ends.{OutputAt}
use Rattle.ice_ids.specs.declared.drawing.Draw.{Draw}
use Rattle.ice_ids.specs.declared.drawing.Draw.TheVariants.{Count, Stream}
use Rattle.store_api.specs.Callers.{View}
use Rattle.two_stores.specs.Sides.{Both}
use Rattle.command_words.specs.declared.reading.Command.{Command}
use Rattle.command_words.specs.declared.reading.UsageFault.{UsageFault}
use Rattle.command_words.specs.Words.{command_of, dir_of, pair_of}
use Rattle.run_mirror.specs.declared.ending.MirrorStatus.{MirrorStatus}
use Rattle.run_mirror.specs.Ending.{MirrorEnds, mirror_number}
use Rattle.top_call.specs.declared.statuses.Status.{Status}
use Rattle.top_call.specs.declared.statuses.Status.TheVariants as S
use Rattle.top_call.specs.Statuses.{number_of}
use Rattle.top_call.specs.Promise.{World, KeepsOwn, SparesOwn}
use Rattle.top_call.specs.Exact.{Exact}

-- ---- a run over one store
-- Over this store, with some input and output, the command was done exactly as the status tells;
-- and over an empty one what was played keeps the promise, and its collections spare what is
-- needed. (The system's streams tell no bytes, so the input and output are some that fit.)
pub record Did (draw : Draw) (command : Command) (store : View) (status : Status) : Type 0 where
  pub before : World
  pub after : World
  pub over : before.store ≡ store
  pub exact : Exact draw command before after status
  pub ours : KeepsOwn draw command before after status
  pub spares : SparesOwn draw command before after status

-- what the words say was done over this store; or they are wrong, and the status tells that
pub record DidWords (draw : Draw) (words : List (List ℕ)) (store : View)
    (status : Status) : Type 0 where
  pub wrong : (fault : UsageFault) → command_of words ≡ Err fault
      → (status ≡ S.Usage fault) ⊎ (status ≡ S.NoMemory)
  pub did : (command : Command) → command_of words ≡ Ok command → Did draw command store status

-- the process ended with that status, and the store was such a one
pub record EndsByRun (draw : Draw) (Is : View → Type 0) (words : List (List ℕ))
    (code : ExitCode) : Type 0 where
  pub store : View
  pub kind : Is store
  pub status : Status
  pub did : DidWords draw words store status
  pub code_is : exit_status code ≡ number_of status

-- an empty store that tells its journal
abbrev pub IsEmpty : View → Type 0
IsEmpty store = (store.caller.tells ≡ true) × (store.seen ≡ [])

-- a store that tells none
abbrev pub IsSilent : View → Type 0
IsSilent store = store.caller.tells ≡ false

-- ---- where the repository lies
-- in memory: over an empty store, with ids by counting
abbrev pub EndsInMemory : (words : List (List ℕ)) → ExitCode → Type 0
EndsInMemory words code = EndsByRun Count IsEmpty words code

-- in a directory, with ids by these random bytes
abbrev pub EndsInDirectory : (words : List (List ℕ)) → ExitCode → Type 0
EndsInDirectory words code = (seed : List ℕ) × EndsByRun (Stream seed) IsSilent words code

-- in two directories: by the status of a mirror
pub record EndsByMirror (code : ExitCode) : Type 0 where
  pub old : Both View
  pub new : Both View
  pub before : OutputAt
  pub after : OutputAt
  pub ended : MirrorStatus
  pub did : MirrorEnds old new before after ended
  pub code_is : exit_status code ≡ mirror_number ended

-- there was no directory to work on, or no memory to open it
abbrev pub EndsUnopened : ExitCode → Type 0
EndsUnopened code = (exit_status code ≡ 8) ⊎ (exit_status code ≡ number_of S.NoMemory)

-- a standard stream can't be used
abbrev pub IsStreamFault : Status → Type 0
IsStreamFault status = (status ≡ S.ReadFault) ⊎ (status ≡ S.WriteFault)

abbrev pub EndsUnbegun : ExitCode → Type 0
EndsUnbegun code = (status : Status) × IsStreamFault status × (exit_status code ≡ number_of status)

-- ---- by the words
abbrev pub EndsWhere : (dir : Option (List ℕ)) → (pair : Option (List ℕ × List ℕ))
    → (words : List (List ℕ)) → ExitCode → Type 0
EndsWhere None None words code = EndsInMemory words code
EndsWhere None (Some pair) words code = EndsUnbegun code ⊎ (EndsUnopened code ⊎ EndsByMirror code)
EndsWhere (Some dir) pair words code =
    EndsUnbegun code ⊎ (EndsUnopened code ⊎ EndsInDirectory words code)

-- by these words, where the repository lies that they name; or there
-- was no memory to find out where
abbrev pub EndsByWords : (words : List (List ℕ)) → ExitCode → Type 0
EndsByWords words code =
    (exit_status code ≡ number_of S.NoMemory) ⊎ EndsWhere (dir_of words) (pair_of words) words code
