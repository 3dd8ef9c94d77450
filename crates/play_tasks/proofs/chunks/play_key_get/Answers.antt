use Rattle.std.proofs.Common.{◌∙◌, ◌++◌, ◌∷◌, [], ℕ, List, inl, sym, ap, subst, Ok}
use Rattle.zarr_path.specs.Keys.{key_of}
use Rattle.zarr_keys.specs.declared.getting.KeyGetting.{KeyGetting}
use Rattle.zarr_keys.specs.Keys.{key_get_program}
use Rattle.zarr_keys.specs.Calls.{Gets, GetRefused}
use Rattle.store_api.specs.Plays.{Or, Comes}
use Rattle.store_api.specs.declared.machines.Refusal.TheVariants.{NoMemory}
use Rattle.session.specs.Getting.{get_rest, get_session}
use Rattle.play_outcome.specs.declared.outcome.Shown.{Shown}
use Rattle.play_tasks.specs.declared.working.Working.{Working}
use Rattle.play_tasks.specs.Lines.{key_get_deed}
use Rattle.play_outcome.specs.Playing.{refused}
use Rattle.play_tasks.specs.Playing.{play_deed}
use Rattle.play_tasks.specs.inside.Working.{lines_from, working_rest}
use Rattle.play_tasks.proofs.Keys.{key-get-calm, key-get-why, key-got, key-asks, key-refused}
use Rattle.play_tasks.proofs.Locals.{well_refused}
use Rattle.play_tasks.proofs.Machines.{calm-why}
use Rattle.play_tasks.proofs.chunks.play_key_get.Goals as goal

pub returns-in-Ok-clause-comes : goal.returns-in-Ok-clause-comes
returns-in-Ok-clause-comes c = λ access rest.
    let s = c.args.session in
    let key = c.args.key.now in
    let shown = c.args.shown.items in
    let told = subst (λ (k : List ℕ). Gets (key_get_program s k) s (Ok c.in-Ok-Ready.field-0)) c.as_str.ensures c.in-Ok-Ready.ensures.read in
    let is = subst (λ (x : KeyGetting). Gets (key_get_program s key) s (Ok x)) c.in-Ok-Ready.field-0-is told in
    let shows = c.in-Ok.ensures.ok ∙ ap (λ (x : Shown). shown ++ x ∷ []) c.key_shown.ensures in
    key-got access c.args.line shown c.show.new.shown.items s c.in-Ok-Ready.session key c.in-Ok-Ready.value rest is.0 is.1 shows

pub returns-in-Ok-Again-clause-comes : goal.returns-in-Ok-Again-clause-comes
returns-in-Ok-Again-clause-comes c = λ access task.
    let s = c.args.session in
    let get = c.in-Ok-Again.get in
    let told = subst (λ (k : List ℕ). Gets (key_get_program s k) s (Ok c.in-Ok-Again.field-0)) c.as_str.ensures c.in-Ok-Again.ensures.read in
    let is = subst (λ (x : KeyGetting). Gets (key_get_program s c.args.key.now) s (Ok x)) c.in-Ok-Again.field-0-is told in
    inl (key-asks access c.args.line c.args.shown.items s (get_session get) c.args.key.now (get_rest get) (lines_from task c.args.at) is.0 is.1 is.2)

pub returns-in-Err-clause-comes : goal.returns-in-Err-clause-comes
returns-in-Err-clause-comes c = λ access task.
    let s = c.args.session in
    let key = c.args.key.now in
    let line = c.args.line in
    let shown = c.args.shown.items in
    let why = c.in-Err.why in
    let told = subst (λ (k : List ℕ). GetRefused (key_get_program s k) s c.in-Err.session why) c.as_str.ensures c.in-Err.ensures.read in
    subst (λ (x : Working). Comes (Or (play_deed access line shown s (key_get_deed line (key_of key) s) (lines_from task c.args.at)) (refused line shown NoMemory)) (working_rest task x)) (sym c.refuse-in-Err.ensures)
    (key-refused access line shown s c.in-Err.session key why (lines_from task c.args.at) told)

pub returns-in-Err-clause-clean : goal.returns-in-Err-clause-clean
returns-in-Err-clause-clean c =
    let s = c.args.session in
    let key = c.as_str.result.now in
    let p = key_get_program s key in
    well_refused c.refuse-in-Err.result c.args.line c.args.shown.items c.in-Err.why c.refuse-in-Err.ensures
    (calm-why p c.in-Err.why (key-get-calm s key) (key-get-why p s c.in-Err.session c.in-Err.why c.in-Err.ensures.read))
