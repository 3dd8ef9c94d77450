-- How runs end.
use Rattle.std.proofs.Common.{◌≡◌, ◌⊎◌, ℕ, List, refl}
use Rattle.std.specs.Prelude.{Ok, Err}
use Rattle.std.specs.declared.process.ExitCode.{ExitCode}
use Rattle.std.specs.Process.{exit_status}
use Rattle.ice_ids.specs.declared.drawing.Draw.{Draw}
use Rattle.store_api.specs.Callers.{View}
use Rattle.command_words.specs.declared.reading.Command.{Command}
use Rattle.command_words.specs.declared.reading.UsageFault.{UsageFault}
use Rattle.command_words.specs.Words.{command_of}
use Rattle.top_call.specs.declared.statuses.Status.{Status}
use Rattle.top_call.specs.declared.statuses.Status.TheVariants as S
use Rattle.top_call.specs.Statuses.{number_of}
use Rattle.top_call.specs.Promise.{World, KeepsOwn, SparesOwn}
use Rattle.top_call.specs.Exact.{Exact}
use Rattle.ice_cli.specs.Ending.{DidWords, EndsByRun}

pub did-words : (draw : Draw) (words : List (List ℕ)) (a b : World) (status : Status)
    → ((fault : UsageFault) → command_of words ≡ Err fault → ((status ≡ S.Usage fault) ⊎ (status ≡ S.NoMemory)) × (b.store ≡ a.store) × (b.input ≡ a.input) × (b.out ≡ a.out))
    → ((command : Command) → command_of words ≡ Ok command → Exact draw command a b status) → ((command : Command) → command_of words ≡ Ok command → KeepsOwn draw command a b status)
    → ((command : Command) → command_of words ≡ Ok command → SparesOwn draw command a b status) → DidWords draw words a.store status
did-words draw words a b status wrong exact ours spares = record {
  wrong = λ fault e. (wrong fault e).0;
  did = λ command e. record { before = a; after = b; over = refl; exact = exact command e; ours = ours command e; spares = spares command e };
}

pub by-run : (draw : Draw) (Is : View → Type 0) (words : List (List ℕ)) (code : ExitCode) (store : View) (status : Status) → DidWords draw words store status → exit_status code ≡ number_of status → Is store → EndsByRun draw Is words code
by-run draw Is words code store status did code_is kind = record { store = store; kind = kind; status = status; did = did; code_is = code_is }
