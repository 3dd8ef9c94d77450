-- Snapshots that were read along parents stay read, and one more behind them.
use Rattle.std.proofs.Common.{◌≡◌, ℕ, List, [], ◌∷◌, ◌++◌, refl, sym, subst}
use Rattle.std.specs.Prelude.{Option, Some, None}
use Rattle.ice_ids.specs.declared.Id12.{Id12}
use Rattle.snapshot_file.specs.declared.snapshot.SnapshotFile.{SnapshotFile}
use Rattle.object_store.specs.declared.keys.Key.TheVariants.{Snapshot}
use Rattle.object_store.specs.declared.events.Op.{Op}
use Rattle.object_store.specs.declared.events.Reply.{Reply}
use Rattle.object_store.specs.declared.events.Event.{Event}
use Rattle.store_api.specs.Callers.{Caller, Makes, own_event}
use Rattle.store_api.specs.Telling.{WasReadAs}
use Rattle.store_api.proofs.Happening.{WasGot-append}
use Rattle.repo_read.specs.Chains.{Leading}
use Rattle.repo_read.proofs.Own.{made-more}

pub read-append : (client : ℕ) (id : Id12) (s : SnapshotFile) (start journal more : List Event) → WasReadAs client id s start journal → WasReadAs client id s start (journal ++ more)
read-append client id s start journal more r = record { bytes = r.bytes; version = r.version; got = WasGot-append client (Snapshot id) r.bytes r.version start journal more r.got; read = r.read }

pub leading-append : (client : ℕ) (from : Option Id12) (seen : List SnapshotFile) (to : Option Id12) (start journal more : List Event) → Leading client from seen to start journal → Leading client from seen to start (journal ++ more)
leading-append client from [] to start journal more l = l
leading-append client None (s ∷ ss) to start journal more l = absurd l
leading-append client (Some id) (s ∷ ss) to start journal more l = (read-append client id s start journal more l.0, leading-append client s.parent ss to start journal more l.1)

pub leading-makes : (by : Caller) (op : Op) (reply : Reply) (from : Option Id12) (seen : List SnapshotFile) (to : Option Id12) (start old new : List Event) → Makes by op reply old new → Leading by.number from seen to start old → Leading by.number from seen to start new
leading-makes by op reply from seen to start old new m l =
    subst (λ (h : List Event). Leading by.number from seen to start h) (sym (made-more by op reply old new m)) (leading-append by.number from seen to start old (m.waits.between ++ own_event by op reply m.time ∷ []) l)

-- one more
pub leading-next : (client : ℕ) (from : Option Id12) (seen : List SnapshotFile) (id : Id12) (s : SnapshotFile) (start journal : List Event) → Leading client from seen (Some id) start journal → WasReadAs client id s start journal → Leading client from (seen ++ s ∷ []) s.parent start journal
leading-next client from [] id s start journal l r = subst (λ (o : Option Id12). Leading client o (s ∷ []) s.parent start journal) (sym l) (r, refl)
leading-next client None (x ∷ xs) id s start journal l r = absurd l
leading-next client (Some i) (x ∷ xs) id s start journal l r = (l.0, leading-next client x.parent xs id s start journal l.1 r)
