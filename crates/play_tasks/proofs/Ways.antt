-- The ways in which an edit that needs no operation changes a session: what is proved of each way holds of every such edit.
use Rattle.std.proofs.Common.{ℕ, List, Option, Some, None, Result, Ok, Err, refl}
use Rattle.zarr_path.specs.declared.keys.ZarrKey.{ZarrKey}
use Rattle.zarr_path.specs.declared.keys.ZarrKey.TheVariants as zarr
use Rattle.zarr_path.specs.Keys.{key_of}
use Rattle.zarr_meta.specs.declared.faults.MetaFault.{MetaFault}
use Rattle.zarr_meta.specs.declared.views.MetaView.{MetaView}
use Rattle.zarr_meta.specs.Plain.{group_text}
use Rattle.zarr_tree.specs.Nodes.{Node}
use Rattle.store_api.specs.declared.machines.Refusal.{Refusal}
use Rattle.store_api.specs.declared.machines.Refusal.TheVariants.{BadKey}
use Rattle.session.specs.Sessions.{SessionState}
use Rattle.session.specs.Chunks.{chunk_unset}
use Rattle.session.specs.Editing.{group_fault, array_fault, node_fault, added, meta_set, node_dropped}
use Rattle.commit_path.specs.Laws.{TellsFaults}
use Rattle.zarr_keys.specs.Keys.{session_of, put_over, erased_at, key_erased}
use Rattle.script_calls.specs.declared.calls.EditCall.{EditCall}
use Rattle.script_calls.specs.declared.calls.EditCall.TheVariants as edit
use Rattle.play_script.specs.Well.{IsWellPath, IsWellText, IsWellEdit}
use Rattle.play_tasks.specs.Lines.{edits_to}

-- what comes of a session by one of the ways; a node is added at a path that is well wherever its edit is
pub data Way (Well : Type 0) (s : SessionState) : Result SessionState Refusal → Type 0 where
  adds : (fault : Result MetaView MetaFault → Option MetaFault) → TellsFaults fault → (path text : List ℕ) → (Well → IsWellPath path) → Way Well s (session_of (added fault s path text))
  texts : (path text : List ℕ) → Way Well s (meta_set s path text)
  drops : (path : List ℕ) → Way Well s (node_dropped s path)
  unsets : (path index : List ℕ) → Way Well s (chunk_unset s path index)
  no_key : Way Well s (Err BadKey)
  stays : Way Well s (Ok s)

-- a key's metadata is put
pub put-way : (s : SessionState) (o : Option Node) (path text : List ℕ) → Way (IsWellPath path) s (put_over o s path text)
put-way s (Some node) path text = texts path text
put-way s None path text = adds node_fault (λ bad. refl) path text (λ well. well)

-- a key is erased
erased-way : (Well : Type 0) (s : SessionState) (o : Option ZarrKey) → Way Well s (erased_at s o)
erased-way Well s None = no_key
erased-way Well s (Some (zarr.Meta path)) = drops path
erased-way Well s (Some (zarr.Chunk path index)) = unsets path index

-- each edit goes one of the ways
pub edited-way : (x : EditCall) (s : SessionState) → Way (IsWellEdit x) s (edits_to x s)
unfolding key_erased
edited-way (edit.Group path) s = adds group_fault (λ bad. refl) path group_text (λ well. well)
edited-way (edit.Array path text) s = adds array_fault (λ bad. refl) path text (λ well. well.0)
edited-way (edit.Make path text) s = adds node_fault (λ bad. refl) path text (λ well. well.0)
edited-way (edit.Meta path text) s = texts path text
edited-way (edit.Drop path) s = drops path
edited-way (edit.Unset path index) s = unsets path index
edited-way (edit.KeyErase key) s = erased-way (IsWellText key) s (key_of key)
edited-way (edit.Set path index bytes) s = stays
edited-way (edit.Fill path index byte) s = stays
edited-way (edit.Put place numbers) s = stays
edited-way (edit.KeySet key bytes) s = stays
