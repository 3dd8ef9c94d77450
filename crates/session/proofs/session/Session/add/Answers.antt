use Rattle.std.proofs.Common.{◌≡◌, ◌≤◌, sym, ap, subst, ◌∙◌, Ok, Err, Result}
use Rattle.std.specs.FinMap.{len}
use Rattle.ice_ids.specs.Drawing.{drawn8, after8}
use Rattle.manifest_file.specs.declared.manifest.Place.{Place}
use Rattle.zarr_tree.specs.declared.edit.EditFault.{EditFault}
use Rattle.zarr_tree.specs.Edits.{most_nodes}
use Rattle.zarr_tree.specs.Held.{Held}
use Rattle.zarr_changes.specs.Edits.{with_added}
use Rattle.zarr_changes.specs.Sets.{add_refusal, Enters}
use Rattle.store_api.specs.declared.machines.Refusal.{Refusal}
use Rattle.session.specs.Sessions.{SessionState, nodes_seen}
use Rattle.session.specs.Viewed.{viewed}
use Rattle.session.specs.Editing.{Adds, entered, refusal_of_edit}
use Rattle.session.proofs.Adding.{edit_refused, edit_kept, there, few-after}
use Rattle.session.proofs.session.Session.add.Goals as goal
use Rattle.session.proofs.session.Session.add.Goals.{In-Err}

-- the set of changes refused
fault_told : (c : In-Err) → Enters (add_refusal (nodes_seen (viewed c.self.inside)) c.args.path.now) (with_added c.self.inside.changes c.args.path.now (record { id = c.in-Some.id; text = c.args.meta.text })) c.self.inside.changes (Err c.in-Err.fault) c.add.new.self
fault_told c = subst (λ (r : Result (Unit {0}) EditFault). Enters (add_refusal (nodes_seen (viewed c.self.inside)) c.args.path.now) (with_added c.self.inside.changes c.args.path.now (record { id = c.in-Some.id; text = c.args.meta.text })) c.self.inside.changes r c.add.new.self) c.in-Err.is c.add.ensures

pub spent-requires : goal.spent-requires
spent-requires c = ap (λ (s : SessionState). drawn8 s.ids) (sym c.self.view_is) ∙ ap drawn8 (sym c.ids-ids.ensures) ∙ sym c.next8.ensures.0 ∙ c.in_default.is

pub invariant_of-self : goal.invariant_of-self
invariant_of-self c =
    subst (λ (h : Held Place). len (nodes_seen (record (viewed c.self.inside) { held = h })) ≤ most_nodes) (sym (edit_kept (add_refusal (nodes_seen (viewed c.self.inside)) c.args.path.now) (with_added c.self.inside.changes c.args.path.now (record { id = c.in-Some.id; text = c.args.meta.text })) c.self.inside.changes c.add.new.self c.in-Err.fault (fault_told (goal.at.invariant_of-self c).In-Err))) c.self.invariant

pub returns-in-Err : goal.returns-in-Err
returns-in-Err c =
    let v = viewed c.self.inside in
    let new = viewed (record c.self.inside { changes = c.add.new.self }) in
    let at_view : Adds (entered v c.args.path.now c.args.meta.text) v (Err (refusal_of_edit c.in-Err.fault)) new =
    edit_refused v c.args.path.now c.args.meta.text (with_added c.self.inside.changes c.args.path.now (record { id = c.in-Some.id; text = c.args.meta.text })) c.add.new.self c.in-Err.fault (fault_told (goal.at.returns-in-Err c).In-Err) in
    let at_now = subst (λ (s : SessionState). Adds (entered s c.args.path.now c.args.meta.text) s (Err (refusal_of_edit c.in-Err.fault)) new) c.self.view_is at_view in
    subst (λ (r : Refusal). Adds (entered c.args.self.now c.args.path.now c.args.meta.text) c.args.self.now (Err r) new) (sym c.refusal_of_edit.ensures) at_now

pub invariant_of-self-2 : goal.invariant_of-self-2
invariant_of-self-2 c = few-after _ _ _ c.args.path.now _ c.in_default-add.ensures.0 c.in_default-add.ensures.1

pub returns : goal.returns
returns c =
    let v = viewed c.self.inside in
    let new = viewed (record c.self.inside { changes = c.add.new.self; ids = c.new.result }) in
    let at_view = there v c.args.path.now c.args.meta.text c.in-Some.id c.add.new.self c.new.result (ap drawn8 (sym c.ids-ids.ensures) ∙ sym c.next8.ensures.0 ∙ c.in-Some.is) (c.new.ensures ∙ c.next8.ensures.1 ∙ ap after8 c.ids-ids.ensures) c.in_default-add.ensures.0 c.in_default-add.ensures.1 in
    subst (λ (s : SessionState). entered s c.args.path.now c.args.meta.text ≡ Ok (c.in-Some.id, new)) c.self.view_is at_view
