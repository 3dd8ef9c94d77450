-- What follows a snapshot in its history, and what is written of a cut.
use Rattle.std.proofs.Common.{◌≡◌, ◌≢◌, ◌⊎◌, inl, inr, ℕ, ◌<◌, ◌≤◌, Bool, true, false, cond, ltb, List, [], ◌∷◌, length, refl, ap, subst}
use Rattle.std.specs.Prelude.{Option, Some, None, nat_lt, ◌&&◌}
use Rattle.std.specs.List.{All, list_all}
use Rattle.std.proofs.lemmas.Bool.{and_parts, ltb-true, ltb-false}
use Rattle.std.proofs.lemmas.List.Elements.{All-nil, All-cons}
use Rattle.flat_tables.specs.File.{file_limit}
use Rattle.ice_ids.specs.declared.Id12.{Id12}
use Rattle.ice_ids.specs.Text.{IsId12, initial_id, same_id12}
use Rattle.snapshot_file.specs.declared.snapshot.SnapshotFile.{SnapshotFile}
use Rattle.repo_objects.specs.Readings.{snapshot_by}
use Rattle.repo_objects.specs.Laws.{IsProper, SnapshotLaw}
use Rattle.object_store.proofs.Slots.{bytes-same, id-true}
use Rattle.expiry.specs.Verdicts.{ToCut, ToDrop, is_older, cut_of, expiry_of, cut_file}
use Rattle.expiry.specs.Looks.{but_initial, next_of, cut_bytes}

-- ---- ids
pub id-differs : (a b : Id12) → same_id12 a b ≡ false → a ≢ b
id-differs a b e same = let y = ap (λ (x : Id12). same_id12 x b) same in let z = bytes-same b.0 in cc

all-bytes : (bytes : List ℕ) → list_all (λ b. ltb b 256) bytes ≡ true → All (λ b. b < 256) bytes
all-bytes [] e = All-nil (λ b. b < 256)
all-bytes (b ∷ bytes) e =
    let parts = and_parts (ltb b 256) (list_all (λ x. ltb x 256) bytes) e in
    All-cons (λ x. x < 256) b bytes (ltb-true b 256 parts.0) (all-bytes bytes parts.1)

initial-id : IsId12 initial_id
initial-id = (refl, all-bytes initial_id.0 refl)

-- ---- the parent that is read next
pub record Follows (s : SnapshotFile) (id : Id12) : Type 0 where
  pub parent_is : s.parent ≡ Some id
  pub not_initial : s.id ≢ initial_id
  pub further : id ≢ initial_id

-- the parent is this one, and not the initial snapshot
but-is : (o : Option Id12) (id : Id12) → but_initial o ≡ Some id → (o ≡ Some id) × (id ≢ initial_id)
but-is None id e = absurd (cc)
but-is (Some i) id e = choose (same_id12 i initial_id) refl e
  where
    choose : (b : Bool) → same_id12 i initial_id ≡ b → cond b None (Some i) ≡ Some id → (Some i ≡ Some id) × (id ≢ initial_id)
    choose true f g = absurd (cc)
    choose false f g = let same : i ≡ id = cc in (g, subst (λ (x : Id12). x ≢ initial_id) same (id-differs i initial_id f))

but-none : (o : Option Id12) → but_initial o ≡ None → (o ≡ None) ⊎ (o ≡ Some initial_id)
but-none None e = inl refl
but-none (Some i) e = choose (same_id12 i initial_id) refl e
  where
    choose : (b : Bool) → same_id12 i initial_id ≡ b → cond b None (Some i) ≡ None → (Some i ≡ None) ⊎ (Some i ≡ Some initial_id)
    choose true f g = inr (ap (λ (x : Id12). Some x) (id-true i initial_id f))
    choose false f g = absurd (cc)

pub next-is : (s : SnapshotFile) (id : Id12) → next_of s ≡ Some id → Follows s id
next-is s id e = choose (same_id12 s.id initial_id) refl e
  where
    choose : (b : Bool) → same_id12 s.id initial_id ≡ b → cond b None (but_initial s.parent) ≡ Some id → Follows s id
    choose true f g = absurd (cc)
    choose false f g = let p = but-is s.parent id g in record { parent_is = p.0; not_initial = id-differs s.id initial_id f; further = p.1 }

-- the history ends at a snapshot that none follows
pub next-none : (s : SnapshotFile) → next_of s ≡ None → (s.id ≡ initial_id) ⊎ ((s.parent ≡ None) ⊎ (s.parent ≡ Some initial_id))
next-none s e = choose (same_id12 s.id initial_id) refl e
  where
    choose : (b : Bool) → same_id12 s.id initial_id ≡ b → cond b None (but_initial s.parent) ≡ None → (s.id ≡ initial_id) ⊎ ((s.parent ≡ None) ⊎ (s.parent ≡ Some initial_id))
    choose true f g = inl (id-true s.id initial_id f)
    choose false f g = inr (but-none s.parent g)

-- ---- verdicts
pub drops-so : (cutoff : ℕ) (drops : Bool) (head : SnapshotFile) (below : List SnapshotFile) → (drops && is_older cutoff head) ≡ true → expiry_of cutoff drops head below ≡ ToDrop
drops-so cutoff drops head below e = ap (λ (b : Bool). cond b ToDrop (cut_of cutoff head below)) e

pub stays-so : (cutoff : ℕ) (drops : Bool) (head : SnapshotFile) (below : List SnapshotFile) → (drops && is_older cutoff head) ≡ false → expiry_of cutoff drops head below ≡ cut_of cutoff head below
stays-so cutoff drops head below e = ap (λ (b : Bool). cond b ToDrop (cut_of cutoff head below)) e

pub cuts-here : (cutoff : ℕ) (last s : SnapshotFile) (more : List SnapshotFile) → is_older cutoff s ≡ true → cut_of cutoff last (s ∷ more) ≡ ToCut last
cuts-here cutoff last s more e = ap (λ (b : Bool). cond b (ToCut last) (cut_of cutoff s more)) e

pub cuts-later : (cutoff : ℕ) (last s : SnapshotFile) (more : List SnapshotFile) → is_older cutoff s ≡ false → cut_of cutoff last (s ∷ more) ≡ cut_of cutoff s more
cuts-later cutoff last s more e = ap (λ (b : Bool). cond b (ToCut last) (cut_of cutoff s more)) e

-- ---- the file of a cut
cut-proper : (s : SnapshotFile) → IsProper s → IsProper (cut_file s)
cut-proper s p = record {
  sized = record { id = p.sized.id; parent = initial-id; nodes = p.sized.nodes; flushed_at = p.sized.flushed_at; message = p.sized.message; props = p.sized.props; files = p.sized.files };
  writable = record { few = p.writable.few; nodes = p.writable.nodes; files = p.writable.files; listed = p.writable.listed };
  texts = p.texts;
}

-- what was read, and isn't too long once it is cut, is read so
pub cut-written : SnapshotLaw → (id : Id12) (bytes : List ℕ) (s : SnapshotFile) → snapshot_by id bytes ≡ Some s → length (cut_bytes s) ≤ file_limit → snapshot_by s.id (cut_bytes s) ≡ Some (cut_file s)
cut-written laws id bytes s read short = laws.written (cut_file s) (cut-proper s (laws.read id bytes s read)) short

-- ---- lengths
pub longer : (limit n : ℕ) → nat_lt limit n ≡ true → limit < n
longer limit n e = ltb-true limit n e

pub no-longer : (limit n : ℕ) → nat_lt limit n ≡ false → n ≤ limit
no-longer limit n e = ltb-false limit n e
