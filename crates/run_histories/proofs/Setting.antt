-- What the setting of a chunk comes to, and that none is held any more.
use Rattle.std.proofs.Common.{◌≡◌, inl, inr, ℕ, List, length, refl}
use Rattle.std.specs.Prelude.{Ok}
use Rattle.ice_ids.specs.Drawing.{after12}
use Rattle.manifest_file.specs.declared.manifest.Place.TheVariants.{Inline, Object}
use Rattle.object_store.specs.declared.events.Event.{Event}
use Rattle.session.specs.Sessions.{SessionState}
use Rattle.session.specs.Chunks.{chunk_unset}
use Rattle.commit_path.proofs.Setting.{chunk-unset}
use Rattle.region_calls.specs.ChunkTold.{WasSet}
use Rattle.run_histories.proofs.Edits.{SetsChunk, UnsetsChunk}

-- a set that was told
pub set-told : (s t : SessionState) (path index bytes : List ℕ) (client : ℕ) (start journal : List Event) → WasSet client s path index bytes t start journal → SetsChunk s t
set-told s t path index bytes client start journal w = elim w.is [
  | inl short ↦ record { path = path; index = index; place = Inline bytes; allowed = w.taken; ids = s.ids; ids_are = inl refl; is = short.1 }
  | inr out ↦ record { path = path; index = index; place = Object out.id 0 (length bytes); allowed = w.taken; ids = after12 s.ids; ids_are = inr refl; is = out.is }
]

-- a chunk that isn't held any more
pub unset-edits : (s t : SessionState) (path index : List ℕ) → chunk_unset s path index ≡ Ok t → UnsetsChunk s t
unset-edits s t path index e = let a = chunk-unset s t path index e in record { path = path; index = index; allowed = a.allowed; is = a.is }
