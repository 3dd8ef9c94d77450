-- What tasks answer in a run over an empty store.
use Rattle.std.proofs.Common.{◌≡◌, ◌⊎◌, inl, inr, ℕ, ℤ, zero, suc, Bool, true, false, List, [], ◌∷◌, ◌++◌, refl, sym, ap, subst}
use Rattle.std.specs.Prelude.{Option, Some, None, option_map, ok_or, Result, Ok, Err}
use Rattle.std.specs.FinMap.{get}
use Rattle.ice_ids.specs.declared.Id8.{Id8}
use Rattle.ice_ids.specs.declared.Id12.{Id12}
use Rattle.ice_ids.specs.declared.drawing.AnyIds.{AnyIds}
use Rattle.ice_ids.specs.Drawing.{drawn8, drawn12}
use Rattle.zarr_path.specs.declared.keys.ZarrKey.{ZarrKey}
use Rattle.zarr_path.specs.declared.keys.ZarrKey.TheVariants as zarr
use Rattle.zarr_path.specs.Keys.{key_of}
use Rattle.zarr_meta.specs.declared.faults.MetaFault.{MetaFault}
use Rattle.zarr_meta.specs.declared.views.MetaView.{MetaView}
use Rattle.zarr_meta.specs.Meta.{meta_of}
use Rattle.zarr_tree.specs.Nodes.{Node}
use Rattle.zarr_tree.specs.declared.edit.EditFault.{EditFault}
use Rattle.repo_objects.specs.Laws.{SnapshotLaw}
use Rattle.ref_file.specs.Refs.{ref_bytes}
use Rattle.object_store.specs.declared.keys.Key.TheVariants.{Lease as Lease_key}
use Rattle.object_store.specs.declared.keys.Why.TheVariants.{Lease as For_lease}
use Rattle.object_store.specs.declared.events.Op.TheVariants.{Get, PutNew}
use Rattle.object_store.specs.declared.events.Reply.{Reply}
use Rattle.object_store.specs.declared.events.Event.{Event}
use Rattle.object_store.specs.declared.events.Version.{Version}
use Rattle.store_api.specs.declared.machines.Refusal.{Refusal}
use Rattle.zarr_tree.specs.declared.edit.EditFault.TheVariants as Fault
use Rattle.store_api.specs.declared.machines.Refusal.TheVariants as R
use Rattle.store_api.specs.Plays.{Play, call}
use Rattle.snapshot_file.specs.declared.properties.PropFault.{PropFault}
use Rattle.snapshot_file.specs.Props.{prop_fault}
use Rattle.session.specs.declared.session.Listing.{Listing}
use Rattle.session.specs.Sessions.{SessionState, branch_of, nodes_seen, writes}
use Rattle.session.specs.Opening.{open_program}
use Rattle.session.specs.Editing as session
use Rattle.script_calls.specs.declared.calls.Call.{Call}
use Rattle.script_calls.specs.declared.calls.Call.TheVariants.{Edit, Read, Commit, Ref, Prop, Lease}
use Rattle.script_calls.specs.declared.calls.EditCall.{EditCall}
use Rattle.script_calls.specs.declared.calls.ReadCall.{ReadCall}
use Rattle.script_calls.specs.declared.calls.Access.{Access}
use Rattle.play_script.specs.declared.scripts.Line.{Line}
use Rattle.play_outcome.specs.declared.outcome.Shown.{Shown}
use Rattle.play_outcome.specs.declared.outcome.End.{End}
use Rattle.play_outcome.specs.declared.outcome.End.TheVariants as E
use Rattle.play_outcome.specs.declared.outcome.Outcome.{Outcome}
use Rattle.play_outcome.specs.Playing.{refused}
use Rattle.std.specs.Prelude.{All}
use Rattle.std.proofs.lemmas.List.Elements.{All-head, All-tail}
use Rattle.zarr_changes.specs.Sets.{add_refusal, text_refusal, drop_refusal, unset_refusal}
use Rattle.session.specs.declared.chunks.Value.{Value}
use Rattle.session.specs.Editing.{node_fault, added, entered, meta_set, node_dropped, if_writes, unless_bad, unless_refused, unless_unfit, refusal_of_edit, drawn_node, with_prop, prop_added, if_there, listed}
use Rattle.session.specs.Chunks.{after_draw, set_program, get_program, filled, chunk_unset, without_chunk}
use Rattle.leases.specs.declared.lease.Leased.{Leased}
use Rattle.leases.specs.declared.witness.Witness.{Witness}
use Rattle.leases.specs.Plays.{witness_of, witness_key, confirmed, after_put, confirm_play, lease_play, lease_with}
use Rattle.leases.specs.Starting.{lease_of}
use Rattle.leases.specs.Following.{followed}
use Rattle.array_region.specs.Reading.{region_program}
use Rattle.array_region.specs.Writing.{region_set_program}
use Rattle.commit_path.specs.Laws.{TellsFaults}
use Rattle.commit_path.specs.Opened.{IsOpened}
use Rattle.commit_path.specs.declared.commit.Tried.{Tried}
use Rattle.commit_path.specs.declared.commit.Tried.TheVariants.{Done as Was_done, Lost}
use Rattle.commit_path.specs.Committing.{commit_program}
use Rattle.conflicts.specs.declared.solving.Policy.{Policy}
use Rattle.rebase.specs.declared.machine.Rebased.{Rebased}
use Rattle.rebase.specs.declared.machine.Rebased.TheVariants.{OnHead, UpToDate}
use Rattle.rebase.specs.Rebasing.{rebase_program}
use Rattle.commit_path.proofs.Editing.{node-added, text-set, node-dropped, added-opened, set-opened, dropped-opened}
use Rattle.commit_path.proofs.Setting.{chunk-unset, without-opened}
use Rattle.script_calls.specs.declared.calls.EditCall.TheVariants.{Set as Set_call, Fill, Put, KeySet}
use Rattle.script_calls.specs.declared.calls.ReadCall.TheVariants.{List as List_call, Get as Get_call, Chunk as Chunk_call, Cells, KeyGet}
use Rattle.play_script.specs.Well.{IsWellPath, IsWellEdit, IsWellLine}
use Rattle.zarr_keys.specs.Keys.{session_of, meta_value, put_over}
use Rattle.play_tasks.specs.Lines.{deed, edit_deed, read_deed, edits_to, read_by, silent, still, nodes_shown, meta_shown, value_shown, cells_shown, key_shown, chunk_key_shown, key_set_deed, key_get_deed, lease_shown, Goes}
use Rattle.play_tasks.specs.Playing.{Rest, after_confirm, after_lease, lease_by, after_line, how_of, after_settling, doubt_of, doubt_play, after_commit, after_rebase, after_open, shown_by, commit_play, tries_of, policy_of, play_deed, play_lines, asked_by, session_play}
use Rattle.play_tasks.proofs.Ways.{Way, adds, texts, drops, unsets, no_key, stays, put-way, edited-way}
use Rattle.run_histories.specs.Sources.{NodesAreNew}
use Rattle.commit_path.proofs.Adding.{prop-added, prop-opened}
use Rattle.run_histories.proofs.Drawing.{way-draws, prop-draws, access-ids}
use Rattle.run_histories.proofs.Edits.{Edits, edit-later, edit-goes, edit-base, own-stay}
use Rattle.run_histories.proofs.Editing.{Leads, call-leads}
use Rattle.play_course.specs.Refusing.{is_strange, strange_end}
use Rattle.play_course.proofs.Tidy.{Client, AreIts}
use Rattle.play_course.proofs.Meeting.{PlayMeets, ended-meets, or-meets, play-asks, call-meets, put-replied}
use Rattle.settle.specs.Settling.{settle_program}
use Rattle.play_course.proofs.Settling.{SettlesWell, kept-meets, settle-meets, how-plain}
use Rattle.play_course.proofs.Knowing.{IsKept, Before, beside, before-later, drawn-now, plain-beside}
use Rattle.play_course.proofs.Holding.{KnowsSession, MayCommit, knows-may, knows-others}
use Rattle.play_course.proofs.Reading.{edit-plain, ReadWell, get-meets, held-got}
use Rattle.play_course.proofs.Leasing.{Plain, confirmed-plain, held-leased}
use Rattle.play_course.proofs.Opening.{Opens, open-meets}
use Rattle.play_course.proofs.Placing.{SetWell, set-meets}
use Rattle.play_course.proofs.Boxing.{NumbersWell, WriteWell, gather-meets, put-box-meets}
use Rattle.play_course.proofs.Committing.{CommitsWell, commit-meets}
use Rattle.play_course.proofs.Rebasing.{IsFine, RebasesWell, rebase-meets}

-- ---- the calls of sessions that need no operation
-- no refusal of this result is strange
abbrev pub IsPlain : {A : Type 0} → Result A Refusal → Type 0
IsPlain {A} r = (why : Refusal) → ◌≡◌ {A = Result A Refusal} r (Err why) → is_strange false why ≡ false

pub refused_as : {A : Type 0} (why given : Refusal) → is_strange false given ≡ false → ◌≡◌ {A = Result A Refusal} (Err given) (Err why) → is_strange false why ≡ false
refused_as why given plain e = let same : given ≡ why = cc in subst (λ (w : Refusal). is_strange false w ≡ false) same plain

drawn-plain : (s : SessionState) (path text : List ℕ) (o : Option Id8) → IsPlain (drawn_node s path text o)
drawn-plain s path text None why e = refused_as why R.IdsSpent refl e
drawn-plain s path text (Some id) why e = cc

unless-plain : {A : Type 0} (o : Option EditFault) (r : Result A Refusal) → IsPlain r → IsPlain (unless_refused o r)
unless-plain None r p why e = p why e
unless-plain (Some fault) r p why e = refused_as why (refusal_of_edit fault) (edit-plain fault) e

text-plain : {A : Type 0} (o : Option MetaFault) (r : Result A Refusal) → IsPlain r → IsPlain (unless_bad o r)
text-plain None r p why e = p why e
text-plain (Some fault) r p why e = refused_as why (R.BadMeta fault) refl e

writes-plain : {A : Type 0} (w : Bool) (r : Result A Refusal) → IsPlain r → IsPlain (if_writes w r)
writes-plain true r p why e = p why e
writes-plain false r p why e = refused_as why R.ReadOnly refl e

without-id : (r : Result (Id8 × SessionState) Refusal) → IsPlain r → IsPlain (session_of r)
without-id (Ok new) p why e = cc
without-id (Err own) p why e = let same : own ≡ why = cc in subst (λ (w : Refusal). is_strange false w ≡ false) same (p own refl)

added-plain : (fault : Result MetaView MetaFault → Option MetaFault) (s : SessionState) (path text : List ℕ) → IsPlain (session_of (added fault s path text))
unfolding added
added-plain fault s path text =
    without-id (if_writes (writes s) (unless_bad (fault (meta_of text)) (entered s path text)))
    (writes-plain (writes s) (unless_bad (fault (meta_of text)) (entered s path text)) (text-plain (fault (meta_of text)) (entered s path text)
    (unless-plain (add_refusal (nodes_seen s) path) (drawn_node s path text (drawn8 s.ids)) (drawn-plain s path text (drawn8 s.ids)))))

done-plain : (s : SessionState) → IsPlain {A = SessionState} (Ok s)
done-plain s why e = cc

set-plain : (s : SessionState) (path text : List ℕ) → IsPlain (meta_set s path text)
unfolding meta_set
set-plain s path text =
    let r : Result SessionState Refusal = unless_refused (text_refusal (nodes_seen s) path text) (Ok (session.text_changed s path text)) in
    writes-plain (writes s) (unless_bad (node_fault (meta_of text)) r) (text-plain (node_fault (meta_of text)) r (unless-plain (text_refusal (nodes_seen s) path text) (Ok (session.text_changed s path text)) (done-plain (session.text_changed s path text))))

drop-plain : (s : SessionState) (path : List ℕ) → IsPlain (node_dropped s path)
unfolding node_dropped
drop-plain s path =
    let r : Result SessionState Refusal = unless_refused (drop_refusal (nodes_seen s) path) (Ok (session.node_gone s path)) in
    writes-plain (writes s) r (unless-plain (drop_refusal (nodes_seen s) path) (Ok (session.node_gone s path)) (done-plain (session.node_gone s path)))

unset-plain : (s : SessionState) (path index : List ℕ) → IsPlain (chunk_unset s path index)
unfolding chunk_unset
unset-plain s path index =
    let r : Result SessionState Refusal = unless_refused (unset_refusal (nodes_seen s) path index) (Ok (without_chunk s path index)) in
    writes-plain (writes s) r (unless-plain (unset_refusal (nodes_seen s) path index) (Ok (without_chunk s path index)) (done-plain (without_chunk s path index)))

fit-plain : {A : Type 0} (o : Option PropFault) (r : Result A Refusal) → IsPlain r → IsPlain (unless_unfit o r)
fit-plain None r p why e = p why e
fit-plain (Some fault) r p why e = refused_as why (R.BadProp fault) refl e

pub prop-plain : (s : SessionState) (name value : List ℕ) → IsPlain (prop_added s name value)
unfolding prop_added
prop-plain s name value =
    let r : Result SessionState Refusal = unless_unfit (prop_fault s.props name value) (Ok (with_prop s name value)) in
    writes-plain (writes s) r (fit-plain (prop_fault s.props name value) (Ok (with_prop s name value)) (done-plain (with_prop s name value)))

-- nor of an edit, whichever way it goes
way-plain : (Well : Type 0) (s : SessionState) {r : Result SessionState Refusal} → Way Well s r → IsPlain r
way-plain Well s (adds fault tells path text at) = added-plain fault s path text
way-plain Well s (texts path text) = set-plain s path text
way-plain Well s (drops path) = drop-plain s path
way-plain Well s (unsets path index) = unset-plain s path index
way-plain Well s no_key = λ why e. refused_as why R.BadKey refl e
way-plain Well s stays = done-plain s

pub put-plain : (o : Option Node) (s : SessionState) (path text : List ℕ) → IsPlain (put_over o s path text)
put-plain o s path text = way-plain (IsWellPath path) s (put-way s o path text)

pub edited-plain : (edit : EditCall) (s : SessionState) → IsPlain (edits_to edit s)
edited-plain edit s = way-plain (IsWellEdit edit) s (edited-way edit s)

there-plain : {A B : Type 0} (o : Option A) (b : B) → IsPlain (if_there o b)
there-plain None b why e = refused_as why (R.Edit Fault.NoNode) refl e
there-plain (Some a) b why e = cc

nodes-plain : (line : ℕ) (r : Result (List Listing) Refusal) → IsPlain r → IsPlain (nodes_shown line r)
nodes-plain line (Ok nodes) p why e = cc
nodes-plain line (Err own) p why e = let same : own ≡ why = cc in subst (λ (w : Refusal). is_strange false w ≡ false) same (p own refl)

meta-plain : (line : ℕ) (o : Option (List ℕ)) → IsPlain (meta_shown line (ok_or o (R.Edit Fault.NoNode)))
meta-plain line (Some text) why e = cc
meta-plain line None why e = refused_as why (R.Edit Fault.NoNode) refl e

shown-plain : (shown : List Shown) → IsPlain {A = List Shown} (Ok shown)
shown-plain shown why e = cc

pub read-plain : (line : ℕ) (look : ReadCall) (s : SessionState) → IsPlain (read_by line look s)
read-plain line (List_call path) s = nodes-plain line (listed s path) (there-plain _ _)
read-plain line (Chunk_call path index) s = shown-plain []
read-plain line (Cells place) s = shown-plain []
read-plain line (KeyGet key) s = shown-plain []
read-plain line (Get_call path) s = meta-plain line (option_map (λ (n : Node). n.text) (get (nodes_seen s) path))

-- ---- a session behind an edit
-- what a session knows stays so
added-known : (fault : Result MetaView MetaFault → Option MetaFault) (s t : SessionState) (path text : List ℕ) (journal : List Event) → TellsFaults fault → (r : Result (Id8 × SessionState) Refusal) → added fault s path text ≡ r → session_of r ≡ Ok t → IsOpened s journal → IsOpened t journal
added-known fault s t path text journal tells (Err why) e d o = absurd cc
added-known fault s t path text journal tells (Ok new) e d o = let same : new.1 ≡ t = cc in subst (λ (x : SessionState). IsOpened x journal) same (added-opened s new.1 path text new.0 journal (node-added fault s new.1 path text new.0 tells e) o)

same-known : (s t : SessionState) (journal : List Event) → ◌≡◌ {A = Result SessionState Refusal} (Ok s) (Ok t) → IsOpened s journal → IsOpened t journal
same-known s t journal e o = let same : s ≡ t = cc in subst (λ (x : SessionState). IsOpened x journal) same o

way-known : (Well : Type 0) (s t : SessionState) (journal : List Event) {r : Result SessionState Refusal} → Way Well s r → r ≡ Ok t → IsOpened s journal → IsOpened t journal
way-known Well s t journal (adds fault tells path text at) e o = added-known fault s t path text journal tells (added fault s path text) refl e o
way-known Well s t journal (texts path text) e o = set-opened s t path text journal (text-set s t path text e) o
way-known Well s t journal (drops path) e o = dropped-opened s t path journal (node-dropped s t path e) o
way-known Well s t journal (unsets path index) e o = without-opened s t path index journal (chunk-unset s t path index e) o
way-known Well s t journal no_key e o = absurd cc
way-known Well s t journal stays e o = same-known s t journal e o

-- a task ends by no strange refusal but one that says that a log hides a node
abbrev pub EndsFine : (collects : Bool) → End → Type 0
EndsFine collects (E.Committed id) = Unit {0}
EndsFine collects (E.Collected removed) = Unit {0}
EndsFine collects E.Done = Unit {0}
EndsFine collects (E.Refused line why) = IsFine collects why
EndsFine collects (E.Stopped line why removed) = is_strange collects why ≡ false
EndsFine collects (E.InDoubt id how) = strange_end collects (E.InDoubt id how) ≡ false
EndsFine collects (E.Expired line cases result) = strange_end collects (E.Expired line cases result) ≡ false
EndsFine collects (E.Checked line faults result) = strange_end collects (E.Checked line faults result) ≡ false

module _ (client : Client) (ids : AnyIds) where
  abbrev Knows : SessionState → List Event → Type 0
  Knows s journal = KnowsSession client ids s journal

  held-led : (s t : SessionState) (journal : List Event) → (t ≡ s) ⊎ Edits s t → AreIts client t.ids → IsOpened t journal → KnowsSession client ids s journal → KnowsSession client ids t journal
  held-led s t journal (inl same) known opened h = subst (λ (x : SessionState). KnowsSession client ids x journal) (sym same) h
  held-led s t journal (inr edits) known opened h = record {
    before = before-later client s.ids t.ids journal (edit-later s t edits) h.before;
    known = known;
    goes = edit-goes ids s t edits h.goes;
    own = own-stay ids t s (sym (edit-base s t edits)) h.own;
    opened = opened;
  }

  -- ---- the lines of a task
  abbrev Ends : Outcome → Type 0
  Ends o = EndsFine client.collects o.end

  -- what follows a line, on a session of which this is known
  abbrev GoesOn : Rest → Type 0
  GoesOn rest = (s : SessionState) (shown : List Shown) (journal : List Event) → KnowsSession client ids s journal → PlayMeets Ends (beside client ids) (rest s shown) journal

  refused-fine : (line : ℕ) (shown : List Shown) (why : Refusal) (journal : List Event) → IsFine client.collects why → PlayMeets Ends (beside client ids) (refused line shown why) journal
  refused-fine line shown why journal p = ended-meets Ends (beside client ids) (record { shown = shown; end = E.Refused line why }) journal p

  refused-meets : (line : ℕ) (shown : List Shown) (why : Refusal) (journal : List Event) → is_strange client.collects why ≡ false → PlayMeets Ends (beside client ids) (refused line shown why) journal
  refused-meets line shown why journal p = refused-fine line shown why journal (inl p)

  -- a refusal that needs no operation
  refused-plain : (line : ℕ) (shown : List Shown) (why : Refusal) (journal : List Event) → is_strange false why ≡ false → PlayMeets Ends (beside client ids) (refused line shown why) journal
  refused-plain line shown why journal p = refused-meets line shown why journal (plain-beside client.collects why p)

  -- an edit, by whichever way
  way-meets : (line : ℕ) (shown : List Shown) (Well : Type 0) (s : SessionState) (rest : Rest) (journal : List Event) → KnowsSession client ids s journal → GoesOn rest → (expected : Result SessionState Refusal) → Way Well s expected → Leads (Goes (silent expected)) s → (r : Result SessionState Refusal) → expected ≡ r
      → PlayMeets Ends (beside client ids) (after_line line shown (silent r) rest) journal
  way-meets line shown Well s rest journal h go expected w leads (Ok t) e =
      go t (shown ++ []) journal (held-led s t journal (leads [] t (ap (λ (x : Result SessionState Refusal). silent x) e)) (way-draws client.draw client.number Well s t w h.known e) (way-known Well s t journal w e h.opened) h)
  way-meets line shown Well s rest journal h go expected w leads (Err why) e = refused-plain line shown why journal (way-plain Well s w why e)

  -- a property is added
  prop-meets : (line : ℕ) (shown : List Shown) (name value : List ℕ) (s : SessionState) (rest : Rest) (journal : List Event) → KnowsSession client ids s journal → GoesOn rest → Leads (Goes (silent (prop_added s name value))) s → (r : Result SessionState Refusal) → prop_added s name value ≡ r
      → PlayMeets Ends (beside client ids) (after_line line shown (silent r) rest) journal
  prop-meets line shown name value s rest journal h go leads (Ok t) e =
      go t (shown ++ []) journal (held-led s t journal (leads [] t (ap (λ (x : Result SessionState Refusal). silent x) e)) (prop-draws client.draw client.number s t name value h.known e) (prop-opened s t name value journal (prop-added s t name value e) h.opened) h)
  prop-meets line shown name value s rest journal h go leads (Err why) e = refused-plain line shown why journal (prop-plain s name value why e)

  look-meets : (line : ℕ) (shown : List Shown) (s : SessionState) (rest : Rest) (journal : List Event) → KnowsSession client ids s journal → GoesOn rest → (r : Result (List Shown) Refusal) → IsPlain r → PlayMeets Ends (beside client ids) (after_line line shown (still s r) rest) journal
  look-meets line shown s rest journal h go (Ok more) p = go s _ journal h
  look-meets line shown s rest journal h go (Err why) p = refused-plain line shown why journal (p why refl)

  set-goes : (line : ℕ) (shown : List Shown) (s : SessionState) (path index bytes : List ℕ) (rest : Rest) → GoesOn rest → (r : Result SessionState Refusal) (journal : List Event) → SetWell client ids s path index bytes r journal → PlayMeets Ends (beside client ids) (after_line line shown (silent r) rest) journal
  set-goes line shown s path index bytes rest go (Ok t) journal h = go t (shown ++ []) journal h.0
  set-goes line shown s path index bytes rest go (Err why) journal p = refused-meets line shown why journal p

  get-goes : (line : ℕ) (shown : List Shown) (s : SessionState) (show : Value → Shown) (rest : Rest) → GoesOn rest → (r : Result Value Refusal) (journal : List Event) → ReadWell client ids s r journal → PlayMeets Ends (beside client ids) (after_line line shown (shown_by s show r) rest) journal
  get-goes line shown s show rest go (Ok value) journal h = go s _ journal h
  get-goes line shown s show rest go (Err why) journal p = refused-meets line shown why journal p

  put-box-goes : (line : ℕ) (shown : List Shown) (rest : Rest) → GoesOn rest → (r : Result SessionState Refusal) (journal : List Event) → WriteWell client ids r journal → PlayMeets Ends (beside client ids) (after_line line shown (silent r) rest) journal
  put-box-goes line shown rest go (Ok t) journal h = go t (shown ++ []) journal h
  put-box-goes line shown rest go (Err why) journal p = refused-meets line shown why journal p

  gather-goes : (line : ℕ) (shown : List Shown) (s : SessionState) (show : List ℤ → Shown) (rest : Rest) → GoesOn rest → (r : Result (List ℤ) Refusal) (journal : List Event) → NumbersWell client ids s r journal → PlayMeets Ends (beside client ids) (after_line line shown (shown_by s show r) rest) journal
  gather-goes line shown s show rest go (Ok numbers) journal h = go s _ journal h
  gather-goes line shown s show rest go (Err why) journal p = refused-meets line shown why journal p

  -- ---- leases
  confirm-goes : (line : ℕ) (shown : List Shown) (t : SessionState) (rest : Rest) → GoesOn rest → (r : Result (Unit {0}) Refusal) → Plain r → (journal : List Event) → KnowsSession client ids t journal → PlayMeets Ends (beside client ids) (after_confirm line shown t rest r) journal
  confirm-goes line shown t rest go (Ok done) p journal h = go t shown journal h
  confirm-goes line shown t rest go (Err why) p journal h = refused-plain line shown why journal p

  -- a lease that was put is to be confirmed
  confirm-meets : (line : ℕ) (shown : List Shown) (t : SessionState) (rest : Rest) → GoesOn rest → (id : Id12) (w : Witness) (journal : List Event) → KnowsSession client ids t journal → PlayMeets Ends (beside client ids) (followed (confirm_play id w) (after_lease (lease_shown line) line shown t rest)) journal
  confirm-meets line shown t rest go id w journal h =
      let all : List Shown = shown ++ lease_shown line id ∷ [] in
      play-asks Ends (beside client ids) (Get (witness_key w)) (refused line all R.NoMemory) (λ reply. after_confirm line all t rest (confirmed w reply)) journal (refused-meets line all R.NoMemory journal refl)
      (λ more event others own is.
      confirm-goes line all t rest go (confirmed w event.reply) (confirmed-plain w event.reply) ((journal ++ more) ++ event ∷ []) (held-got client ids t (journal ++ more) event (witness_key w) own is (knows-others client ids t journal more others h)))

  leasing-meets : (line : ℕ) (shown : List Shown) (s : SessionState) (rest : Rest) (journal : List Event) → KnowsSession client ids s journal → GoesOn rest → (w : Witness) (id : Id12) → drawn12 s.ids ≡ Some id
      → PlayMeets Ends (beside client ids) (followed (lease_play id s.base w) (after_lease (lease_shown line) line shown (after_draw s) rest)) journal
  leasing-meets line shown s rest journal h go w id drawn =
      let f : Leased → Play Outcome = after_lease (lease_shown line) line shown (after_draw s) rest in
      play-asks Ends (beside client ids) (PutNew (Lease_key id) (ref_bytes s.base) For_lease) (refused line (shown ++ []) R.NoMemory) (λ reply. followed (after_put id w reply) f) journal (refused-meets line (shown ++ []) R.NoMemory journal refl)
      (λ more event others own is.
      let mid = knows-others client ids s journal more others h in
      let free = (mid.before.free id (drawn-now s.ids id drawn)).lease in
      let after : List Event = (journal ++ more) ++ event ∷ [] in
      let P : Reply → Type 0 = λ reply. PlayMeets Ends (beside client ids) (followed (after_put id w reply) f) after in
      elim (put-replied (journal ++ more) event (Lease_key id) (ref_bytes s.base) For_lease own.tidy.good is free) [
        | inl told ↦ subst P (sym told) (confirm-meets line shown (after_draw s) rest go id w after (held-leased client ids s (journal ++ more) event id (ref_bytes s.base) own is drawn mid))
        | inr failed ↦ subst P (sym failed.is) (refused-meets line (shown ++ lease_shown line id ∷ []) R.StoreFault after refl)
      ])

  lease-meets : (line : ℕ) (shown : List Shown) (s : SessionState) (rest : Rest) (journal : List Event) → KnowsSession client ids s journal → GoesOn rest → PlayMeets Ends (beside client ids) (lease_by (lease_shown line) line shown s rest (lease_of s)) journal
  lease-meets line shown s rest journal h go = by_parts (witness_of s.origin) (drawn12 s.ids) refl
    where
      by_parts : (w : Option Witness) (o : Option Id12) → drawn12 s.ids ≡ o → PlayMeets Ends (beside client ids) (lease_by (lease_shown line) line shown s rest (lease_with w o s.base)) journal
      by_parts None o drawn = refused-meets line shown R.Unnamed journal refl
      by_parts (Some w) None drawn = refused-meets line shown R.IdsSpent journal refl
      by_parts (Some w) (Some id) drawn = leasing-meets line shown s rest journal h go w id drawn

  -- ---- commits
  -- a commit in doubt
  doubt-meets : (shown : List Shown) (s : SessionState) (id : Id12) (h : List Event) → IsKept client h → PlayMeets Ends (beside client ids) (doubt_play shown s id) h
  doubt-meets shown s id h k =
      call-meets Ends (beside client ids) (SettlesWell client ids) (settle_program (branch_of s) (doubt_of s id)) (after_settling shown id) h (settle-meets client ids (branch_of s) (doubt_of s id) h k)
      (λ answer j q. ended-meets Ends (beside client ids) (record { shown = shown; end = E.InDoubt id (how_of answer) }) j (how-plain client ids answer j q))
      (λ j. ended-meets Ends (beside client ids) (record { shown = shown; end = E.InDoubt id (how_of (Err R.NoMemory)) }) j refl)

  -- what follows the answer of a commit
  abbrev Tries : SessionState → Result Tried Refusal → List Event → Type 0
  Tries s r h = CommitsWell client ids s r h × IsKept client h

  committed-meets : (line : ℕ) (shown : List Shown) (s : SessionState) (lost : Version → Option Version → AnyIds → Play Outcome) → ((old : Version) (there : Option Version) (next : AnyIds) (h : List Event) → MayCommit client (record s { ids = next }) h → PlayMeets Ends (beside client ids) (lost old there next) h)
      → (r : Result Tried Refusal) (h : List Event) → Tries s r h → PlayMeets Ends (beside client ids) (after_commit line shown (doubt_play shown s) lost r) h
  committed-meets line shown s lost go (Ok (Was_done made)) h q = ended-meets Ends (beside client ids) (record { shown = shown; end = E.Committed made.id }) h tt
  committed-meets line shown s lost go (Ok (Lost old there next)) h q = go old there next h q.0
  committed-meets line shown s lost go (Err (R.InDoubt id)) h q = doubt-meets shown s id h q.1
  committed-meets line shown s lost go (Err why) h q = refused-meets line shown why h q.0

  module _ (law : SnapshotLaw) where
    -- and what follows that of a rebase
    rebased-meets : (line : ℕ) (shown : List Shown) (policy : Policy) (s : SessionState) (again : SessionState → Play Outcome) → ((t : SessionState) (h : List Event) → MayCommit client t h → PlayMeets Ends (beside client ids) (again t) h)
        → (r : Result Rebased Refusal) (h : List Event) → RebasesWell client ids law policy s r h → PlayMeets Ends (beside client ids) (after_rebase line shown again r) h
    rebased-meets line shown policy s again go (Ok (OnHead t count)) h q = or-meets Ends (beside client ids) (again t) (refused line shown R.NoMemory) h (go t h q) (refused-meets line shown R.NoMemory h refl)
    rebased-meets line shown policy s again go (Ok (UpToDate t)) h q = or-meets Ends (beside client ids) (again t) (refused line shown R.NoMemory) h (go t h q) (refused-meets line shown R.NoMemory h refl)
    rebased-meets line shown policy s again go (Err why) h q = refused-fine line shown why h q

    -- a commit, and what follows where it was lost
    lost-meets : (line : ℕ) (shown : List Shown) (message : List ℕ) (s : SessionState) (journal : List Event) → MayCommit client s journal → (lost : Version → Option Version → AnyIds → Play Outcome)
        → ((old : Version) (there : Option Version) (next : AnyIds) (h : List Event) → MayCommit client (record s { ids = next }) h → PlayMeets Ends (beside client ids) (lost old there next) h) → PlayMeets Ends (beside client ids) (call (commit_program s message) (after_commit line shown (doubt_play shown s) lost)) journal
    lost-meets line shown message s journal k lost go =
        call-meets Ends (beside client ids) (Tries s) (commit_program s message) (after_commit line shown (doubt_play shown s) lost) journal
        (kept-meets client ids (CommitsWell client ids s) (commit_program s message) journal (record { tidy = k.before.tidy; so_far = k.before.so_far }) (commit-meets client ids s message journal k))
        (λ r h q. committed-meets line shown s lost go r h q) (λ h. refused-meets line shown R.NoMemory h refl)

    -- as often as it may be tried
    tries-meet : (tries : ℕ) (policy : Policy) (line : ℕ) (shown : List Shown) (message : List ℕ) (s : SessionState) (journal : List Event) → MayCommit client s journal → PlayMeets Ends (beside client ids) (commit_play tries policy line shown message s) journal
    unfolding commit_play
    tries-meet zero policy line shown message s journal k =
        lost-meets line shown message s journal k (λ old there next. refused line shown (R.LostRace old there)) (λ old there next h m. refused-meets line shown (R.LostRace old there) h refl)
    tries-meet (suc tries) policy line shown message s journal k =
        let again = λ (t : SessionState). commit_play tries policy line shown message t in
        lost-meets line shown message s journal k (λ old there next. call (rebase_program policy (record s { ids = next })) (after_rebase line shown again)) (λ old there next h m.
        let left : SessionState = record s { ids = next } in
        call-meets Ends (beside client ids) (RebasesWell client ids law policy left) (rebase_program policy left) (after_rebase line shown again) h (rebase-meets client ids law policy left h m)
        (λ r j q. rebased-meets line shown policy left again (λ t i n. tries-meet tries policy line shown message t i n) r j q) (λ j. refused-meets line shown R.NoMemory j refl))

  sets-meets : (line : ℕ) (shown : List Shown) (s : SessionState) (path index bytes : List ℕ) (rest : Rest) (journal : List Event) → KnowsSession client ids s journal → GoesOn rest → PlayMeets Ends (beside client ids) (call (set_program s path index bytes) (λ answer. after_line line shown (silent answer) rest)) journal
  sets-meets line shown s path index bytes rest journal h go =
      call-meets Ends (beside client ids) (SetWell client ids s path index bytes) (set_program s path index bytes) (λ answer. after_line line shown (silent answer) rest) journal (set-meets client ids s path index bytes journal h)
      (λ r j w. set-goes line shown s path index bytes rest go r j w) (λ j. refused-meets line shown R.NoMemory j refl)

  key-set-meets : (access : Access) (line : ℕ) (bytes : List ℕ) (o : Option ZarrKey) (shown : List Shown) (s : SessionState) (rest : Rest) (journal : List Event) → KnowsSession client ids s journal → GoesOn rest → Leads (key_set_deed bytes o s) s → PlayMeets Ends (beside client ids) (play_deed access line shown s (key_set_deed bytes o s) rest) journal
  key-set-meets access line bytes None shown s rest journal h go leads = refused-meets line shown R.BadKey journal refl
  key-set-meets access line bytes (Some (zarr.Meta path)) shown s rest journal h go leads =
      let r = put_over (get (nodes_seen s) path) s path bytes in
      way-meets line shown (IsWellPath path) s rest journal h go r (put-way s (get (nodes_seen s) path) path bytes) leads r refl
  key-set-meets access line bytes (Some (zarr.Chunk path index)) shown s rest journal h go leads = sets-meets line shown s path index bytes rest journal h go

  edit-deed-meets : (access : Access) (line : ℕ) (edit : EditCall) (shown : List Shown) (s : SessionState) (rest : Rest) (journal : List Event) → KnowsSession client ids s journal → GoesOn rest → Leads (edit_deed edit s) s → PlayMeets Ends (beside client ids) (play_deed access line shown s (edit_deed edit s) rest) journal
  edit-deed-meets access line (KeySet key bytes) shown s rest journal h go leads = key-set-meets access line bytes (key_of key) shown s rest journal h go leads
  edit-deed-meets access line (Set_call path index bytes) shown s rest journal h go leads = sets-meets line shown s path index bytes rest journal h go
  edit-deed-meets access line (Put place numbers) shown s rest journal h go leads =
      call-meets Ends (beside client ids) (WriteWell client ids) (region_set_program s place.path place.from place.to numbers) (λ answer. after_line line shown (silent answer) rest) journal (put-box-meets client ids s place.path place.from place.to numbers journal h)
      (λ r j w. put-box-goes line shown rest go r j w) (λ j. refused-meets line shown R.NoMemory j refl)
  edit-deed-meets access line (Fill path index byte) shown s rest journal h go leads = sets-meets line shown s path index (filled s path byte) rest journal h go
  edit-deed-meets access line edit shown s rest journal h go leads = way-meets line shown (IsWellEdit edit) s rest journal h go (edits_to edit s) (edited-way edit s) leads (edits_to edit s) refl

  reads-meets : (line : ℕ) (show : Value → Shown) (path index : List ℕ) (shown : List Shown) (s : SessionState) (rest : Rest) (journal : List Event) → KnowsSession client ids s journal → GoesOn rest → PlayMeets Ends (beside client ids) (call (get_program s path index) (λ answer. after_line line shown (shown_by s show answer) rest)) journal
  reads-meets line show path index shown s rest journal h go =
      call-meets Ends (beside client ids) (ReadWell client ids s) (get_program s path index) (λ answer. after_line line shown (shown_by s show answer) rest) journal (get-meets client ids s path index journal h)
      (λ r j w. get-goes line shown s show rest go r j w) (λ j. refused-meets line shown R.NoMemory j refl)

  key-get-meets : (access : Access) (line : ℕ) (o : Option ZarrKey) (shown : List Shown) (s : SessionState) (rest : Rest) (journal : List Event) → KnowsSession client ids s journal → GoesOn rest → PlayMeets Ends (beside client ids) (play_deed access line shown s (key_get_deed line o s) rest) journal
  key-get-meets access line None shown s rest journal h go = refused-meets line shown R.BadKey journal refl
  key-get-meets access line (Some (zarr.Meta path)) shown s rest journal h go = go s (shown ++ key_shown line (meta_value s path) ∷ []) journal h
  key-get-meets access line (Some (zarr.Chunk path index)) shown s rest journal h go = reads-meets line (chunk_key_shown line) path index shown s rest journal h go

  read-deed-meets : (access : Access) (line : ℕ) (look : ReadCall) (shown : List Shown) (s : SessionState) (rest : Rest) (journal : List Event) → KnowsSession client ids s journal → GoesOn rest → PlayMeets Ends (beside client ids) (play_deed access line shown s (read_deed line look s) rest) journal
  read-deed-meets access line (List_call path) shown s rest journal h go = look-meets line shown s rest journal h go (read_by line (List_call path) s) (read-plain line (List_call path) s)
  read-deed-meets access line (Get_call path) shown s rest journal h go = look-meets line shown s rest journal h go (read_by line (Get_call path) s) (read-plain line (Get_call path) s)
  read-deed-meets access line (Chunk_call path index) shown s rest journal h go = reads-meets line (value_shown line) path index shown s rest journal h go
  read-deed-meets access line (Cells place) shown s rest journal h go =
      call-meets Ends (beside client ids) (NumbersWell client ids s) (region_program s place.path place.from place.to) (λ answer. after_line line shown (shown_by s (cells_shown line) answer) rest) journal (gather-meets client ids s place.path place.from place.to journal h)
      (λ r j w. gather-goes line shown s (cells_shown line) rest go r j w) (λ j. refused-meets line shown R.NoMemory j refl)
  read-deed-meets access line (KeyGet key) shown s rest journal h go = key-get-meets access line (key_of key) shown s rest journal h go

  deed-meets : (law : SnapshotLaw) (access : Access) (line : ℕ) (made : Call) (shown : List Shown) (s : SessionState) (rest : Rest) (journal : List Event) → KnowsSession client ids s journal → GoesOn rest → Leads (deed line made s) s → PlayMeets Ends (beside client ids) (play_deed access line shown s (deed line made s) rest) journal
  deed-meets law access line (Edit edit) shown s rest journal h go leads = edit-deed-meets access line edit shown s rest journal h go leads
  deed-meets law access line (Read look) shown s rest journal h go leads = read-deed-meets access line look shown s rest journal h go
  deed-meets law access line (Ref call) shown s rest journal h go leads = go s (shown ++ []) journal h
  deed-meets law access line (Prop name value) shown s rest journal h go leads = prop-meets line shown name value s rest journal h go leads (prop_added s name value) refl
  deed-meets law access line Lease shown s rest journal h go leads = lease-meets line shown s rest journal h go
  deed-meets law access line (Commit message) shown s rest journal h go leads = tries-meet law (tries_of access) (policy_of access) line shown message s journal (knows-may client ids s journal h)

  lines-meets : (law : SnapshotLaw) (access : Access) (lines : List Line) → All IsWellLine lines → (s : SessionState) (shown : List Shown) (journal : List Event) → KnowsSession client ids s journal → PlayMeets Ends (beside client ids) (play_lines access lines s shown) journal
  unfolding play_lines
  lines-meets law access [] well s shown journal h = ended-meets Ends (beside client ids) (record { shown = shown; end = E.Done }) journal tt
  lines-meets law access (l ∷ ls) well s shown journal h =
      or-meets Ends (beside client ids) (play_deed access l.number shown s (deed l.number l.call s) (play_lines access ls)) (refused l.number shown R.NoMemory) journal
      (deed-meets law access l.number l.call shown s (play_lines access ls) journal h (λ t more j k. lines-meets law access ls (All-tail IsWellLine l ls well) t more j k) (call-leads l.number l.call s (All-head IsWellLine l ls well).call))
      (refused-meets l.number shown R.NoMemory journal refl)

  opened-meets : (law : SnapshotLaw) (access : Access) (line : ℕ) (body : List Line) → All IsWellLine body → (known : AreIts client ids) (r : Result SessionState Refusal) (journal : List Event) → Opens client ids known (asked_by access ids) (access-ids access ids) r journal → PlayMeets Ends (beside client ids) (after_open access line body r) journal
  opened-meets law access line body well known (Ok s) journal h = lines-meets law access body well s [] journal h
  opened-meets law access line body well known (Err why) journal p = refused-meets line [] why journal p

  -- a session of this client is refused as it may be, or by a log that hides a node
  pub session-meets : (law : SnapshotLaw) (access : Access) (line : ℕ) (body : List Line) → All IsWellLine body → (journal : List Event) → AreIts client ids → Before client ids journal → NodesAreNew ids journal → PlayMeets (λ o. EndsFine client.collects o.end) (beside client ids) (session_play ids access line body) journal
  session-meets law access line body well journal known before nodes =
      call-meets Ends (beside client ids) (Opens client ids known (asked_by access ids) (access-ids access ids)) (open_program (asked_by access ids)) (after_open access line body) journal
      (open-meets client ids known (asked_by access ids) (access-ids access ids) journal (record { before = before; nodes = nodes }))
      (λ r j o. opened-meets law access line body well known r j o) (λ j. refused-meets line [] R.NoMemory j refl)
