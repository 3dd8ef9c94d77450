-- What local calls of a session come to, and lines; none of them tells a fault of the store.
use Rattle.std.proofs.Common.{◌≡◌, inl, subst, refl, sym, ap, ◌∙◌, Bool, true, false, ℕ, List, ◌∷◌, Option, None, Some, Result, Ok, Err}
use Rattle.std.proofs.Common.{suc, arith, ◌+◌, ◌<◌, ◌≤◌, length, drop, slice_index_or}
use Rattle.std.proofs.Math.Seq.{drop-cons}
use Rattle.std.proofs.Math.ListN.{drop_of_length-le}
use Rattle.std.specs.Prelude.{not}
use Rattle.ice_ids.specs.declared.Id8.{Id8}
use Rattle.ice_ids.specs.Drawing.{drawn8}
use Rattle.zarr_meta.specs.declared.faults.MetaFault.{MetaFault}
use Rattle.zarr_meta.specs.declared.views.MetaView.{MetaView}
use Rattle.zarr_meta.specs.Meta.{meta_of}
use Rattle.zarr_tree.specs.declared.edit.EditFault.{EditFault}
use Rattle.zarr_changes.specs.Sets.{add_refusal, text_refusal, drop_refusal, unset_refusal}
use Rattle.snapshot_file.specs.declared.properties.PropFault.{PropFault}
use Rattle.snapshot_file.specs.Props.{prop_fault}
use Rattle.store_api.specs.declared.machines.Refusal.{Refusal}
use Rattle.store_api.specs.declared.machines.Refusal.TheVariants as R
use Rattle.store_api.specs.Program.{is_fault}
use Rattle.store_api.specs.Plays.{Play, Or, Comes}
use Rattle.session.specs.Sessions.{SessionState, writes, nodes_seen}
use Rattle.session.specs.Editing.{Adds, Leaves, refusal_of_edit, node_fault, added, meta_set, node_dropped, if_writes, unless_bad, unless_refused, unless_unfit, drawn_node, prop_added}
use Rattle.session.specs.Chunks.{chunk_unset}
use Rattle.zarr_keys.specs.Keys.{session_of}
use Rattle.script_calls.specs.declared.calls.Access.{Access}
use Rattle.play_script.specs.declared.scripts.Line.{Line}
use Rattle.play_outcome.specs.declared.outcome.Shown.{Shown}
use Rattle.play_outcome.specs.declared.outcome.End.TheVariants.{Refused, Done}
use Rattle.play_outcome.specs.declared.outcome.Outcome.{Outcome}
use Rattle.play_tasks.specs.declared.working.SessionTask.{SessionTask}
use Rattle.play_tasks.specs.declared.working.Working.{Working}
use Rattle.play_tasks.specs.declared.working.Working.TheVariants as w
use Rattle.play_tasks.specs.declared.working.Step.TheVariants as step
use Rattle.play_tasks.specs.Lines.{deed}
use Rattle.play_outcome.specs.Playing.{ended, refused}
use Rattle.play_tasks.specs.Playing.{Rest, play_deed, play_lines}
use Rattle.play_tasks.specs.inside.Working.{is_well, is_local, without_id, Edits, LineComes, lines_from, working_rest}
use Rattle.play_tasks.proofs.Calm.{edit_fault}

-- ---- refusals that tell no fault
pub well_refused : (x : Working) (line : ℕ) (shown : List Shown) (why : Refusal) → x ≡ w.Ended (record { shown = shown; end = Refused line why }) → is_fault why ≡ false → is_well x ≡ true
well_refused x line shown why e f = ap is_well e ∙ ap not f

-- no refusal of a call tells a fault
abbrev pub IsLocal : {A : Type 0} → Result A Refusal → Type 0
IsLocal r = (why : Refusal) → r ≡ Err why → is_fault why ≡ false

by_edit : {A : Type 0} (o : Option EditFault) (r : Result A Refusal) → IsLocal r → IsLocal (unless_refused o r)
by_edit None r l why e = l why e
by_edit (Some fault) r l why e = let x : refusal_of_edit fault ≡ why = cc in sym (ap is_fault x) ∙ edit_fault fault

by_text : {A : Type 0} (m : Option MetaFault) (r : Result A Refusal) → IsLocal r → IsLocal (unless_bad m r)
by_text None r l why e = l why e
by_text (Some fault) r l why e = let x : R.BadMeta fault ≡ why = cc in sym (ap is_fault x)

by_writes : {A : Type 0} (w : Bool) (r : Result A Refusal) → IsLocal r → IsLocal (if_writes w r)
by_writes true r l why e = l why e
by_writes false r l why e = let x : R.ReadOnly ≡ why = cc in sym (ap is_fault x)

by_id8 : (s : SessionState) (p text : List ℕ) (o : Option Id8) → IsLocal (drawn_node s p text o)
by_id8 s p text None why e = let x : R.IdsSpent ≡ why = cc in sym (ap is_fault x)
by_id8 s p text (Some id) why e = absurd (cc)

pub added_local : (fault : Result MetaView MetaFault → Option MetaFault) (s : SessionState) (p text : List ℕ) → IsLocal (added fault s p text)
unfolding added
added_local fault s p text = by_writes (writes s) _ (by_text (fault (meta_of text)) _ (by_edit (add_refusal (nodes_seen s) p) _ (by_id8 s p text (drawn8 s.ids))))

pub set_local : (s : SessionState) (p text : List ℕ) → IsLocal (meta_set s p text)
unfolding meta_set
set_local s p text = by_writes (writes s) _ (by_text (node_fault (meta_of text)) _ (by_edit (text_refusal (nodes_seen s) p text) _ (λ why e. absurd (cc))))

pub drop_local : (s : SessionState) (p : List ℕ) → IsLocal (node_dropped s p)
unfolding node_dropped
drop_local s p = by_writes (writes s) _ (by_edit (drop_refusal (nodes_seen s) p) _ (λ why e. absurd (cc)))

pub unset_local : (s : SessionState) (p i : List ℕ) → IsLocal (chunk_unset s p i)
unfolding chunk_unset
unset_local s p i = by_writes (writes s) _ (by_edit (unset_refusal (nodes_seen s) p i) _ (λ why e. absurd (cc)))

by_prop : {A : Type 0} (o : Option PropFault) (r : Result A Refusal) → IsLocal r → IsLocal (unless_unfit o r)
by_prop None r l why e = l why e
by_prop (Some fault) r l why e = let x : R.BadProp fault ≡ why = cc in sym (ap is_fault x)

pub prop_local : (s : SessionState) (name value : List ℕ) → IsLocal (prop_added s name value)
unfolding prop_added
prop_local s name value = by_writes (writes s) _ (by_prop (prop_fault s.props name value) _ (λ why e. absurd (cc)))

adds-local : (expected : Result (Id8 × SessionState) Refusal) (s t : SessionState) (r : Result Id8 Refusal) → IsLocal expected → Adds expected s r t → is_local (without_id r) ≡ true
adds-local expected s t (Ok id) l a = refl
adds-local expected s t (Err R.NoMemory) l a = refl
adds-local expected s t (Err why) l a = ap not (l why a.0)

pub leaves-local : (expected : Result SessionState Refusal) (s t : SessionState) (r : Result (Unit {0}) Refusal) → IsLocal expected → Leaves expected s r t → is_local r ≡ true
leaves-local expected s t (Ok done) l a = refl
leaves-local expected s t (Err R.NoMemory) l a = refl
leaves-local expected s t (Err why) l a = ap not (l why a.0)

pub added-local : (fault : Result MetaView MetaFault → Option MetaFault) (s t : SessionState) (p text : List ℕ) (r : Result Id8 Refusal) → Adds (added fault s p text) s r t → is_local (without_id r) ≡ true
added-local fault s t p text r a = adds-local (added fault s p text) s t r (added_local fault s p text) a

pub set-local : (s t : SessionState) (p text : List ℕ) (r : Result (Unit {0}) Refusal) → Leaves (meta_set s p text) s r t → is_local r ≡ true
set-local s t p text r a = leaves-local (meta_set s p text) s t r (set_local s p text) a

pub drop-local : (s t : SessionState) (p : List ℕ) (r : Result (Unit {0}) Refusal) → Leaves (node_dropped s p) s r t → is_local r ≡ true
drop-local s t p r a = leaves-local (node_dropped s p) s t r (drop_local s p) a

pub unset-local : (s t : SessionState) (p i : List ℕ) (r : Result (Unit {0}) Refusal) → Leaves (chunk_unset s p i) s r t → is_local r ≡ true
unset-local s t p i r a = leaves-local (chunk_unset s p i) s t r (unset_local s p i) a

-- what the calls leave is what an edit comes to
pub adds-edits : (expected : Result (Id8 × SessionState) Refusal) (s t : SessionState) (r : Result Id8 Refusal) → Adds expected s r t → Edits (session_of expected) (without_id r) t
adds-edits expected s t (Ok id) a = ap session_of a
adds-edits expected s t (Err R.NoMemory) a = tt
adds-edits expected s t (Err why) a = ap session_of a.0

-- ---- lines
drop_at : (lines : List Line) (i : ℕ) (l : Line) → i < length lines → drop i lines ≡ slice_index_or lines i l ∷ drop (i + 1) lines
drop_at lines i l within = let next : suc i ≡ i + 1 = omega arith in drop-cons lines i l within ∙ ap (λ (n : ℕ). slice_index_or lines i l ∷ drop n lines) next

-- the first of the lines of a body that are left
one_left : (access : Access) (body lines : List Line) (i : ℕ) (l : Line) (s : SessionState) (shown : List Shown) → lines ≡ body → i < length lines → l ≡ slice_index_or lines i l
    → play_lines access (drop i body) s shown ≡ Or (play_deed access l.number shown s (deed l.number l.call s) (play_lines access (drop (i + 1) body))) (refused l.number shown R.NoMemory)
unfolding play_lines
one_left access body lines i l s shown same within is =
    let there = subst (λ (ls : List Line). i < length ls) same within in
    let own = subst (λ (ls : List Line). l ≡ slice_index_or ls i l) same is in
    ap (λ (ls : List Line). play_lines access ls s shown) (drop_at body i l there ∙ ap (λ (x : Line). x ∷ drop (i + 1) body) (sym own))

pub one_stop : (task : SessionTask) (lines : List Line) (i : ℕ) (l : Line) (s : SessionState) (shown : List Shown) (state : Working) → lines ≡ task.body.now → i < length lines → l ≡ slice_index_or lines i l
    → LineComes task.access.now l.number (i + 1) shown s (deed l.number l.call s) (step.Stop state) → Comes (lines_from task i s shown) (working_rest task state)
one_stop task lines i l s shown state body within is c = subst (λ (p : Play Outcome). Comes p (working_rest task state)) (sym (one_left task.access.now task.body.now lines i l s shown body within is)) (c task)

pub one_on : (task : SessionTask) (lines : List Line) (i : ℕ) (l : Line) (s t : SessionState) (shown more : List Shown) (q : Play Outcome) → lines ≡ task.body.now → i < length lines → l ≡ slice_index_or lines i l
    → ((rest : Rest) → play_deed task.access.now l.number shown s (deed l.number l.call s) rest ≡ rest t more) → Comes (lines_from task (i + 1) t more) q → Comes (lines_from task i s shown) q
one_on task lines i l s t shown more q body within is d c =
    subst (λ (p : Play Outcome). Comes p q) (sym (one_left task.access.now task.body.now lines i l s shown body within is)) (inl (subst (λ (p : Play Outcome). Comes p q) (sym (d (lines_from task (i + 1)))) c))

pub at_end : (task : SessionTask) (lines : List Line) (i : ℕ) (s : SessionState) (shown kept : List Shown) → lines ≡ task.body.now → length lines ≤ i → kept ≡ shown → Comes (lines_from task i s shown) (ended kept Done)
unfolding play_lines
at_end task lines i s shown kept body over k =
    let past = subst (λ (ls : List Line). length ls ≤ i) body over in
    subst (λ (ls : List Line). Comes (play_lines task.access.now ls s shown) (ended kept Done)) (sym (drop_of_length-le task.body.now past)) (ap (λ (x : List Shown). ended x Done) k)
