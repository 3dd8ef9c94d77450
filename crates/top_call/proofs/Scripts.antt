-- What is read of the text that a command makes.
use Rattle.std.proofs.Common.{◌≡◌, ◌∙◌, ℕ, List, sym, ap, subst, true≢false, Result, Ok, Err}
use Rattle.std.specs.Result.{IsErr, IsErrAnd, MatchResult}
use Rattle.ice_base.specs.Ends.{InputAt}
use Rattle.command_words.specs.declared.reading.Command.{Command}
use Rattle.play_script.specs.declared.scripts.Script.{Script}
use Rattle.play_script.specs.declared.faults.ScriptFault.{ScriptFault}
use Rattle.play_script.specs.declared.faults.ScriptFault.TheVariants.{At, NoMemory}
use Rattle.play_script.specs.Reading.{script_of, IsReading}
use Rattle.top_call.specs.Run.{IsSource, HasScript, HasNone}
use Rattle.top_call.specs.Statuses.{of_script}
use Rattle.top_call.specs.declared.statuses.Status.{Status}

module _ (command : Command) (at : InputAt) (text bytes : List ℕ) (source : IsSource command at at text) (same : bytes ≡ text) where
  pub script_read : (script : Script) → IsReading (script_of bytes) (Ok script) → HasScript command at at script
  script_read script reads = record { text = text; source = source; reads = ap script_of (sym same) ∙ reads }

  pub none_read : (why : ScriptFault) → IsReading (script_of bytes) (Err why) → HasNone command at at (of_script why)
  none_read (At line kind) reads = record { text = text; source = source; reads = ap script_of (sym same) ∙ reads }
  none_read NoMemory reads = tt

  pub refused_read : (result : Result Script Status) (why : ScriptFault) → IsReading (script_of bytes) (Err why) → IsErr result → IsErrAnd result (λ status. status ≡ of_script why) → MatchResult result (HasScript command at at) (HasNone command at at)
  refused_read (Ok script) why reads is told = absurd (true≢false (sym is))
  refused_read (Err status) why reads is told = subst (HasNone command at at) (sym told) (none_read why reads)
