-- One step of each recursion.
use Rattle.std.proofs.Common.{◌≡◌, ℕ, zero, suc, ◌-◌, ◌<◌, Bool, true, false, List, [], ◌∷◌, refl, sym, ◌∙◌, ap, arith}
use Rattle.ice_ids.specs.declared.Id12.{Id12}
use Rattle.ice_ids.specs.Sets.{has_object}
use Rattle.object_store.specs.declared.keys.Key.TheVariants.{Snapshot, Chunk}
use Rattle.object_store.specs.declared.events.Op.TheVariants.{Get}
use Rattle.store_api.specs.declared.machines.Refusal.TheVariants.{TooDeep}
use Rattle.repo_read.specs.Answers.{snapshot_told}
use Rattle.two_stores.specs.declared.side.Side.TheVariants.{From}
use Rattle.mirror_reports.specs.declared.outcome.RefId.{RefId}
use Rattle.mirror.specs.declared.lines.Link.{Link}
use Rattle.mirror.specs.Programs.{Work, Answer, refused, asks, take_object, put_object, copy_chunks, copy_manifest, copy_manifests, copy_snapshot, copy_line, down, down_behind, copy_ref, copy_refs}
use Rattle.mirror.proofs.Parts.{down-onto}

pub chunks-end : (ids : List Id12) (w : Work) (next : Work → Answer) → ids ≡ [] → copy_chunks ids w next ≡ next w
unfolding copy_chunks
chunks-end ids w next e = rw e refl

pub chunks-more : (id : Id12) (ids behind : List Id12) (w : Work) (next : Work → Answer) → ids ≡ id ∷ behind → copy_chunks ids w next ≡ take_object (Chunk id) w (λ bytes. put_object (Chunk id) bytes w (λ v. copy_chunks behind v next))
unfolding copy_chunks
chunks-more id ids behind w next e = rw e refl

pub manifests-end : (ids : List Id12) (w : Work) (next : Work → Answer) → ids ≡ [] → copy_manifests ids w next ≡ next w
unfolding copy_manifests
manifests-end ids w next e = rw e refl

pub manifests-more : (id : Id12) (ids behind : List Id12) (w : Work) (next : Work → Answer) → ids ≡ id ∷ behind → copy_manifests ids w next ≡ copy_manifest id w (λ v. copy_manifests behind v next)
unfolding copy_manifests
manifests-more id ids behind w next e = rw e refl

pub line-end : (links : List Link) (w : Work) (next : Work → Answer) → links ≡ [] → copy_line links w next ≡ next w
unfolding copy_line
line-end links w next e = rw e refl

pub line-more : (link : Link) (links behind : List Link) (w : Work) (next : Work → Answer) → links ≡ link ∷ behind → copy_line links w next ≡ copy_snapshot link w (λ v. copy_line behind v next)
unfolding copy_line
line-more link links behind w next e = rw e refl

pub refs-end : (rs : List RefId) (w : Work) (next : Work → Answer) → rs ≡ [] → copy_refs rs w next ≡ next w
unfolding copy_refs
refs-end rs w next e = rw e refl

pub refs-more : (r : RefId) (rs behind : List RefId) (w : Work) (next : Work → Answer) → rs ≡ r ∷ behind → copy_refs rs w next ≡ copy_ref r w (λ v. copy_refs behind v next)
unfolding copy_refs
refs-more r rs behind w next e = rw e refl

pub down-copied : (left : ℕ) (links : List Link) (w : Work) (next : Work → Answer) (id : Id12) → has_object w.snapshots id ≡ true → down left links w next id ≡ copy_line links w next
unfolding down
down-copied zero links w next id e = rw e refl
down-copied (suc left) links w next id e = rw e refl

pub down-deep : (left : ℕ) (links : List Link) (w : Work) (next : Work → Answer) (id : Id12) → has_object w.snapshots id ≡ false → left ≡ 0 → down left links w next id ≡ refused w TooDeep
unfolding down
down-deep zero links w next id e z = rw e refl
down-deep (suc left) links w next id e z = absurd (omega arith)

pub down-more : (left : ℕ) (links : List Link) (w : Work) (next : Work → Answer) (id : Id12) → has_object w.snapshots id ≡ false → 0 < left → down left links w next id ≡ asks w From (Get (Snapshot id)) (snapshot_told id) (down_behind (down-onto (left - 1) w next) links w next id)
unfolding down
down-more zero links w next id e l = absurd (omega arith)
down-more (suc left) links w next id e l = let m : suc left - 1 ≡ left = omega arith in rw (m, e) refl
