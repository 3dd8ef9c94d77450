use Rattle.std.proofs.Common.{ℕ, List, subst}
use Rattle.store_api.specs.Plays.{call}
use Rattle.zarr_keys.specs.Keys.{key_set_program}
use Rattle.zarr_path.specs.Keys.{key_of}
use Rattle.session.specs.Setting.{SetBegun}
use Rattle.play_tasks.specs.Lines.{key_set_deed}
use Rattle.play_tasks.specs.Playing.{play_deed}
use Rattle.play_tasks.specs.inside.Working.{after_set}
use Rattle.play_tasks.proofs.Keys.{key-set-plays, key-set-calm, plays-comes}
use Rattle.play_tasks.proofs.chunks.play_key_set.Goals as goal

pub returns-clause-comes : goal.returns-clause-comes
returns-clause-comes c = λ access.
    let s = c.args.session in
    let key = c.args.key.now in
    let bytes = c.args.bytes.now in
    let line = c.args.line in
    let shown = c.args.shown.items in
    plays-comes line c.args.at shown (λ rest. play_deed access line shown s (key_set_deed bytes (key_of key) s) rest) (λ rest. call (key_set_program s key bytes) (after_set line shown rest)) c.after_call.result (key-set-plays access line shown s key bytes)
    (c.after_call.ensures.comes s (key_set_program s key bytes) (subst (λ (k : List ℕ). SetBegun (key_set_program s k bytes) s c.key_set.result) c.as_str.ensures c.key_set.ensures))

pub returns-clause-clean : goal.returns-clause-clean
returns-clause-clean c =
    let s = c.args.session in
    let key = c.as_str.result.now in
    let bytes = c.args.bytes.now in
    c.after_call.ensures.clean s (key_set_program s key bytes) c.key_set.ensures (key-set-calm s key bytes)
