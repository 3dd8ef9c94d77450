-- What the bytes of an input say of the script that is read from it.
use Rattle.std.proofs.Common.{◌≡◌, ◌⊎◌, ℕ, ◌+◌, ◌<◌, ◌≤◌, List, [], ◌++◌, length, take, Bool, true, false, refl, sym, ◌∙◌, ap, inl, inr, ltb, arith, length-append}
use Rattle.std.specs.Prelude.{Some, Err}
use Rattle.std.proofs.lemmas.Bool.{lt-leb, ltb-true, ltb-false}
use Rattle.std.proofs.lemmas.List.{take-append-le, append-nil}
use Rattle.ice_base.specs.Ends.{InputAt, OutputAt, IsInput, Rose}
use Rattle.ice_ids.specs.declared.drawing.Draw.{Draw}
use Rattle.store_api.specs.Callers.{View}
use Rattle.script_values.specs.declared.kinds.ScriptKind.{ScriptKind}
use Rattle.script_values.specs.declared.kinds.ScriptKind.TheVariants.{Long}
use Rattle.play_script.specs.declared.scripts.Script.{Script}
use Rattle.play_script.specs.Reading.{script_of, most_bytes, feeds}
use Rattle.top_call.specs.declared.statuses.Status.{Status}
use Rattle.top_call.specs.declared.statuses.Status.TheVariants as S
use Rattle.command_words.specs.declared.reading.Command.{Command}
use Rattle.command_words.specs.declared.reading.Command.TheVariants as C
use Rattle.command_words.specs.Help.{help_of, version_line}
use Rattle.top_call.specs.Run.{most_input, IsSource, HasFailed, HasScript, HasFault, SayEnds, TellsRefused, IsCalm, IsFaultless}
use Rattle.top_call.specs.Check.{Checks}
use Rattle.top_call.proofs.Checking.{check-sink, check-store}
use Rattle.top_call.proofs.Endings.{store_played, sink_played}
use Rattle.top_call.specs.inside.Playing.{PlayEnds, Ends}

-- a text that is too long is refused by its first bytes alone
too_long : (text : List ℕ) → most_bytes < length text → script_of text ≡ Err (feeds (take most_bytes text) + 1, Long)
unfolding script_of
too_long text l = rw (lt-leb (length text) most_bytes l) refl

still_long : (text rest : List ℕ) → most_bytes < length text → script_of (text ++ rest) ≡ script_of text
still_long text rest l =
    let more : most_bytes < length (text ++ rest) = omega (arith, l, length-append text rest) in
    let within : most_bytes ≤ length text = omega (arith, l) in
    too_long (text ++ rest) more
    ∙ (ap (λ (t : List ℕ). Err (feeds t + 1, Long)) (take-append-le most_bytes text rest within) ∙ sym (too_long text l))

-- what was read of an input is the same script as all of it
pub reads_all : (a b : InputAt) (text bytes : List ℕ) → IsInput most_input a b text → a.left ≡ Some bytes → script_of bytes ≡ script_of text
reads_all a b text bytes i e =
    let taken = rw e at i.taken in
    decide taken.0 taken.1 taken.2 (ltb (length text) most_input) refl
  where
    decide : (rest : List ℕ) → b.left ≡ Some rest → bytes ≡ text ++ rest → (less : Bool) → ltb (length text) most_input ≡ less → script_of bytes ≡ script_of text
    decide rest at is true h =
        let none : rest ≡ [] = rw at at i.whole (ltb-true (length text) most_input h) in
        ap script_of (is ∙ (ap (λ (r : List ℕ). text ++ r) none ∙ append-nil text))
    decide rest at is false h =
        let l = ltb-false (length text) most_input h in
        ap script_of is ∙ still_long text rest (omega (arith, l))

-- the script of a command whose text is refused
module _ (command : Command) (a b : InputAt) (line : ℕ) (kind : ScriptKind) (refused : (text : List ℕ) → IsSource command a b text → script_of text ≡ Err (line, kind)) where
  not_script : {P : Type 0} (script : Script) → HasScript command a b script → P
  not_script script h = let both = sym (refused h.text h.source) ∙ h.reads in absurd cc

  first_fault : (n : ℕ) (k : ScriptKind) → HasFault command a b n k → S.Script n k ≡ S.Script line kind
  first_fault n k h =
      let both = sym (refused h.text h.source) ∙ h.reads in
      let same : (line, kind) ≡ (n, k) = cc in
      ap (λ (at : ℕ × ScriptKind). S.Script at.0 at.1) (sym same)

  module _ (draw : Draw) (s t : View) (x y : OutputAt) where
    pub first_refused : (status : Status) → PlayEnds command draw a b s t x y status → (status ≡ S.Script line kind) ⊎ (((status ≡ S.ReadFault) × HasFailed command a b) ⊎ (status ≡ S.NoMemory))
    first_refused S.ReadFault ends = inr (inl (refl, ends.0))
    first_refused S.NoMemory ends = inr (inr refl)
    first_refused (S.Script n k) ends = inl (first_fault n k ends.0)
    first_refused (S.Usage fault) ends = absurd ends
    first_refused S.Ok ends = not_script ends.script ends.reads
    first_refused S.Refused ends = not_script ends.script ends.reads
    first_refused S.WriteFault ends = not_script ends.script ends.reads
    first_refused S.StoreFault ends = not_script ends.script ends.reads

module _ (draw : Draw) (a b : InputAt) (s t : View) (x y : OutputAt) (status : Status) where
  pub tells_refused : (command : Command) → Ends command draw a b s t x y status → TellsRefused command a status
  tells_refused C.Play ends = λ bytes line kind e r.
      elim (first_refused C.Play a b line kind (λ text i. sym (reads_all a b text bytes i e) ∙ r) draw s t x y status ends) [ inl is ↦ inl is | inr other ↦ elim other [ inl failed ↦ inr (inl failed.0) | inr short ↦ inr (inr short) ] ]
  tells_refused (C.Cells box) ends = λ line kind r.
      elim (first_refused (C.Cells box) a b line kind (λ text i. ap script_of i ∙ r) draw s t x y status ends.1) [ inl is ↦ inl is | inr other ↦ elim other [ inl failed ↦ absurd failed.1 | inr short ↦ inr short ] ]
  tells_refused (C.Grow tasks) ends = λ line kind r.
      elim (first_refused (C.Grow tasks) a b line kind (λ text i. ap script_of i ∙ r) draw s t x y status ends.1) [ inl is ↦ inl is | inr other ↦ elim other [ inl failed ↦ absurd failed.1 | inr short ↦ inr short ] ]
  tells_refused C.Check ends = tt
  tells_refused (C.Help topic) ends = tt
  tells_refused C.Version ends = tt

failed_rose : (command : Command) (a b : InputAt) → HasFailed command a b → Rose a.faults b.faults
failed_rose C.Play a b h = h
failed_rose (C.Cells box) a b h = absurd h
failed_rose (C.Grow tasks) a b h = absurd h
failed_rose C.Check a b h = h
failed_rose (C.Help topic) a b h = h
failed_rose C.Version a b h = h

play_faultless : (command : Command) (draw : Draw) (a b : InputAt) (s t : View) (x y : OutputAt) (status : Status) → PlayEnds command draw a b s t x y status → IsCalm a b s t x y → IsFaultless status
play_faultless command draw a b s t x y S.Ok ends calm = tt
play_faultless command draw a b s t x y S.Refused ends calm = tt
play_faultless command draw a b s t x y (S.Script line kind) ends calm = tt
play_faultless command draw a b s t x y S.NoMemory ends calm = tt
play_faultless command draw a b s t x y (S.Usage fault) ends calm = ends
play_faultless command draw a b s t x y S.ReadFault ends calm = calm.input (failed_rose command a b ends.0)
play_faultless command draw a b s t x y S.StoreFault ends calm = calm.store (store_played command draw a b s t x y S.StoreFault ends refl)
play_faultless command draw a b s t x y S.WriteFault ends calm = calm.output (sink_played command draw a b s t x y S.WriteFault ends refl)

say_faultless : (text : List ℕ) (x y : OutputAt) (status : Status) → SayEnds text x y status → ¬ Rose x.faults y.faults → IsFaultless status
say_faultless text x y S.Ok ends calm = tt
say_faultless text x y S.Refused ends calm = tt
say_faultless text x y (S.Script line kind) ends calm = tt
say_faultless text x y S.NoMemory ends calm = tt
say_faultless text x y (S.Usage fault) ends calm = ends
say_faultless text x y S.ReadFault ends calm = ends
say_faultless text x y S.StoreFault ends calm = ends
say_faultless text x y S.WriteFault ends calm = calm ends.faults

check_faultless : (a b : InputAt) (s t : View) (x y : OutputAt) (status : Status) → Checks s t x y status → IsCalm a b s t x y → IsFaultless status
check_faultless a b s t x y S.Ok c calm = tt
check_faultless a b s t x y S.Refused c calm = tt
check_faultless a b s t x y (S.Script line kind) c calm = tt
check_faultless a b s t x y S.NoMemory c calm = tt
check_faultless a b s t x y (S.Usage fault) c calm = c
check_faultless a b s t x y S.ReadFault c calm = c
check_faultless a b s t x y S.StoreFault c calm = calm.store (check-store s t x y S.StoreFault c refl)
check_faultless a b s t x y S.WriteFault c calm = calm.output (check-sink s t x y S.WriteFault c refl)

pub faultless : (draw : Draw) (a b : InputAt) (s t : View) (x y : OutputAt) (status : Status) (command : Command) → Ends command draw a b s t x y status → IsCalm a b s t x y → IsFaultless status
faultless draw a b s t x y status C.Play ends calm = play_faultless C.Play draw a b s t x y status ends calm
faultless draw a b s t x y status (C.Cells box) ends calm = play_faultless (C.Cells box) draw a b s t x y status ends.1 calm
faultless draw a b s t x y status (C.Grow tasks) ends calm = play_faultless (C.Grow tasks) draw a b s t x y status ends.1 calm
faultless draw a b s t x y status C.Check ends calm = check_faultless a b s t x y status ends.1.0 calm
faultless draw a b s t x y status (C.Help topic) ends calm = say_faultless (help_of topic) x y status ends.2 calm.output
faultless draw a b s t x y status C.Version ends calm = say_faultless version_line x y status ends.2 calm.output
