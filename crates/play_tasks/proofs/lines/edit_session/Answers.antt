use Rattle.std.proofs.Common.{sym, subst, ap, ◌∙◌, Result}
use Rattle.zarr_meta.specs.Plain.{group_text}
use Rattle.store_api.specs.declared.machines.Refusal.{Refusal}
use Rattle.session.specs.Editing.{group_fault, array_fault, node_fault, group_added}
use Rattle.script_calls.specs.declared.calls.EditCall.{EditCall}
use Rattle.script_calls.specs.declared.calls.EditCall.TheVariants.{Group}
use Rattle.play_tasks.specs.Lines.{edits_to}
use Rattle.play_tasks.specs.inside.Working.{is_local, Edits}
use Rattle.play_tasks.proofs.Locals.{added-local, set-local, drop-local, unset-local, adds-edits}
use Rattle.play_tasks.proofs.Keys.{erase-local}
use Rattle.play_tasks.proofs.lines.edit_session.Goals as goal

pub returns-in-Group-clause-edits : goal.returns-in-Group-clause-edits
returns-in-Group-clause-edits c =
    subst (λ (x : EditCall). Edits (edits_to x c.args.session.now) c.without_id.result c.add_group.new.self) (sym c.in-Group.is)
    (subst (λ (r : Result (Unit {0}) Refusal). Edits (edits_to (Group c.in-Group.path) c.args.session.now) r c.add_group.new.self) (sym c.without_id.ensures)
    (adds-edits (group_added c.args.session.now c.in-Group.path group_text) c.args.session.now c.add_group.new.self c.add_group.result c.add_group.ensures))

pub returns-in-Group-clause-local : goal.returns-in-Group-clause-local
returns-in-Group-clause-local c = ap is_local c.without_id.ensures ∙ added-local group_fault c.args.session.now c.add_group.new.self c.in-Group.path group_text c.add_group.result c.add_group.ensures

pub returns-in-Array-clause-local : goal.returns-in-Array-clause-local
returns-in-Array-clause-local c = ap is_local c.without_id-in-Array.ensures ∙ added-local array_fault c.args.session.now c.add_array.new.self c.deref.result.now c.as_bytes.result.now c.add_array.result c.add_array.ensures

pub returns-in-Make-clause-local : goal.returns-in-Make-clause-local
returns-in-Make-clause-local c = ap is_local c.without_id-in-Make.ensures ∙ added-local node_fault c.args.session.now c.add_node.new.self c.deref-in-Make.result.now c.as_bytes-in-Make.result.now c.add_node.result c.add_node.ensures

pub returns-in-Meta-clause-local : goal.returns-in-Meta-clause-local
returns-in-Meta-clause-local c = set-local c.args.session.now c.set_meta.new.self c.deref-in-Meta.result.now c.as_bytes-in-Meta.result.now c.set_meta.result c.set_meta.ensures

pub returns-in-Drop-clause-local : goal.returns-in-Drop-clause-local
returns-in-Drop-clause-local c = drop-local c.args.session.now c.drop_node.new.self c.in-Drop.path c.drop_node.result c.drop_node.ensures

pub returns-in-Unset-clause-local : goal.returns-in-Unset-clause-local
returns-in-Unset-clause-local c = unset-local c.args.session.now c.unset_chunk.new.self c.deref-in-Unset.result.now c.deref-in-Unset-2.result.now c.unset_chunk.result c.unset_chunk.ensures

pub returns-in-KeyErase-clause-local : goal.returns-in-KeyErase-clause-local
returns-in-KeyErase-clause-local c = erase-local c.args.session.now c.key_erase.new.session c.as_str-in-KeyErase.result.now c.key_erase.result c.key_erase.ensures
