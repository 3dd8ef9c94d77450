-- What a marking and a collection have still to do.
use Rattle.std.specs.Prelude.{◌≡◌, ℕ, ◌+◌, ◌-◌, ◌*◌, ◌^◌, Bool, true, false}
use Rattle.std.specs.Prelude.{List, length, Result, Ok, Err}
use Rattle.ice_ids.specs.declared.Id12.{Id12}
use Rattle.object_store.specs.declared.keys.Key.{Key}
use Rattle.object_store.specs.declared.keys.Key.TheVariants.{Snapshot, Manifest}
use Rattle.object_store.specs.declared.events.Op.TheVariants.{Get}
use Rattle.store_api.specs.declared.machines.Next.{Next}
use Rattle.store_api.specs.declared.machines.Refusal.{Refusal}
use Rattle.store_api.specs.declared.machines.Refusal.TheVariants.{NoMemory}
use Rattle.store_api.specs.Program.{Done, Ask}
use Rattle.chunk_gc.specs.declared.mark.Mark.{Mark}
use Rattle.chunk_gc.specs.declared.mark.Marking.{Marking}
use Rattle.chunk_gc.specs.declared.mark.Marking.TheVariants as state
use Rattle.chunk_gc.specs.Told.{ref_got, snapshot_got, manifest_got}
use Rattle.chunk_gc.specs.Programs.{Answer, Work, asks, with_ref, with_lease, get_refs, with_file}
use Rattle.chunk_gc.specs.Programs.{get_files, mark_got, list_snapshots, list_logs, list_manifests}
use Rattle.chunk_gc.specs.Programs.{list_chunks, list_leases, list_tags, list_branches, marking}

-- ---- a marking
abbrev pub work_of : Mark → Work
work_of m = record {
  cutoff = m.cutoff;
  snapshots = m.snapshots;
  files = m.files;
  logs = m.logs;
  chunks = m.chunks;
  leased = m.leased;
  passes = m.passes;
  doomed = m.doomed;
}

-- behind a ref, a lease, a snapshot or a manifest that is got next
abbrev pub branch_rest : Key → (left : ℕ) → List Key → Work → Answer
branch_rest key left names w =
    asks (Get key) (ref_got key) (λ id. get_refs with_ref names (with_ref id w) (list_tags left))

abbrev pub tag_rest : Key → (left : ℕ) → List Key → Work → Answer
tag_rest key left names w =
    asks (Get key) (ref_got key) (λ id. get_refs with_ref names (with_ref id w) (list_leases left))

abbrev pub lease_rest : Key → (left : ℕ) → List Key → Work → Answer
lease_rest key left names w =
    asks (Get key) (ref_got key)
    (λ id. get_refs with_lease names (with_lease id w) (marking w.passes left))

abbrev pub snapshot_rest : Id12 → (left : ℕ) → Work → Answer
snapshot_rest id left w =
    asks (Get (Snapshot id)) (snapshot_got w.passes id)
    (mark_got id (marking w.passes (left - 1)) (marking w.passes left w) w)

abbrev pub manifest_rest : Id12 → (left : ℕ) → Work → Answer
manifest_rest id left w =
    asks (Get (Manifest id)) (manifest_got w.passes id)
    (λ m. get_files w.files.todo (with_file m w) (marking w.passes left))

abbrev pub marking_rest : Marking → (left : ℕ) → List Key → Work → Answer
marking_rest state.Branches left names w = list_branches left w
marking_rest (state.Branch key) left names w = branch_rest key left names w
marking_rest state.Tags left names w = list_tags left w
marking_rest (state.Tag key) left names w = tag_rest key left names w
marking_rest state.Leases left names w = list_leases left w
marking_rest (state.Lease key) left names w = lease_rest key left names w
marking_rest (state.Snapshot id) left names w = snapshot_rest id left w
marking_rest (state.Manifest id) left names w = manifest_rest id left w
marking_rest state.Snapshots left names w = list_snapshots w
marking_rest state.Txns left names w = list_logs w
marking_rest state.Manifests left names w = list_manifests w
marking_rest state.Chunks left names w = list_chunks w
marking_rest state.Ended left names w = Done (Err NoMemory)

abbrev pub mark_rest : Mark → Answer
mark_rest m = marking_rest m.state m.left m.names (work_of m)

-- where a refusal comes next, for which nothing takes memory, that is told
abbrev pub Tells : Answer → Result (Next (List Key)) Refusal → Type 0
Tells (Done (Err why)) result = result ≡ Err why
Tells (Done (Ok keys)) result = Unit {0}
Tells (Ask op next) result = Unit {0}

-- no list is as long
abbrev pub many : ℕ
many = 2 ^ 64

-- how many ids may be found at once later
abbrev pub phase_left : (passes : Bool) → ℕ
phase_left true = 0
phase_left false = many

-- how many steps are left at most, where so many snapshots may be read
-- and so many are still to be got
abbrev pub marks_left : (left queue : ℕ) → ℕ
marks_left left queue = many + 5 + left * (many + many + 2) + queue

-- and where refs or leases are still to be got
abbrev pub begins_left : (left phase : ℕ) → ℕ
begins_left left phase = marks_left left (many + phase)

abbrev pub leases_left : (left phase : ℕ) → ℕ
leases_left left phase = begins_left left phase + many + 1

abbrev pub tags_left : (left phase : ℕ) → ℕ
tags_left left phase = leases_left left phase + many + 1

abbrev pub marking_left : Marking → (left names files todo phase : ℕ) → ℕ
marking_left state.Branches left names files todo phase = tags_left left phase + many + 1
marking_left (state.Branch key) left names files todo phase = tags_left left phase + 1 + names
marking_left state.Tags left names files todo phase = tags_left left phase
marking_left (state.Tag key) left names files todo phase = leases_left left phase + 1 + names
marking_left state.Leases left names files todo phase = leases_left left phase
marking_left (state.Lease key) left names files todo phase = begins_left left phase + 1 + names
marking_left (state.Snapshot id) left names files todo phase =
    marks_left (left - 1) (todo + phase) + many + many + 3
marking_left (state.Manifest id) left names files todo phase =
    marks_left left (todo + phase) + 1 + files
marking_left state.Snapshots left names files todo phase = many + 4
marking_left state.Txns left names files todo phase = many + 3
marking_left state.Manifests left names files todo phase = many + 2
marking_left state.Chunks left names files todo phase = many + 1
marking_left state.Ended left names files todo phase = 0

abbrev pub mark_left : Mark → ℕ
mark_left m =
    marking_left m.state m.left (length m.names) (length m.files.todo)
    (length m.snapshots.todo) (phase_left m.passes)
