-- What follows the answers to a check's operations.
use Rattle.std.proofs.Common.{◌≡◌, inl, inr, ℕ, Bool, true, false, cond, ◌+◌, ◌*◌, ◌<◌, ◌≤◌, List, [], ◌∷◌, ◌++◌, length, refl, sym, ◌∙◌, ap, subst, arith, Result, Ok, Err, Option, Some, None, length-append}
use Rattle.ice_ids.specs.declared.Id12.{Id12}
use Rattle.ice_ids.specs.Text.{same_id12, initial_id}
use Rattle.snapshot_file.specs.declared.snapshot.SnapshotFile.{SnapshotFile}
use Rattle.manifest_file.specs.declared.manifest.ManifestFile.{ManifestFile}
use Rattle.object_store.specs.declared.keys.Key.{Key}
use Rattle.object_store.specs.declared.keys.Key.TheVariants.{Manifest, Txn}
use Rattle.object_store.specs.declared.events.Op.TheVariants.{Get}
use Rattle.check_reports.specs.declared.faults.FaultKind.{FaultKind}
use Rattle.check_reports.specs.declared.faults.CheckFault.{CheckFault}
use Rattle.store_api.specs.declared.machines.Refusal.TheVariants.{NoMemory}
use Rattle.store_api.specs.Plays.{Ended, Comes, Or}
use Rattle.intact.specs.declared.visits.FileVisit.{FileVisit}
use Rattle.intact.specs.declared.visits.PartVisit.{PartVisit}
use Rattle.intact.specs.Rows.{files_of}
use Rattle.intact.specs.Parts.{parts_of}
use Rattle.intact.specs.Told.{found_log}
use Rattle.intact.specs.Places.{SnapshotLeft, many}
use Rattle.repo_check.specs.declared.course.Course.{Course}
use Rattle.repo_check.specs.Works.{Work, meet_file, tell}
use Rattle.repo_check.specs.Plays.{Answer, starved, asks, on_got, roots_with, told_log, get_refs, get_files, get_parts, after_file, read_on, walk, walks}
use Rattle.repo_check.specs.inside.Working.{parent_rest, files_rest, name_cost, root_cost, all_tags_left, branches_left, tags_left}

-- ---- without memory
abbrev starved-with : List CheckFault → Answer
starved-with faults = Ended (record { faults = faults; result = Err NoMemory })

pub starved-same : (v w : Work) → v.faults ≡ w.faults → starved v ≡ starved w
starved-same v w e = ap starved-with e

-- ---- with the memory for it
-- goes on with what was met by then
pub worked : (next : Work → Answer) (w v old : Work) (q : Answer) → v ≡ w → Comes (next v) q → Comes (Or (next w) (starved old)) q
worked next w v old q e h = inl (subst (λ (x : Work). Comes (next x) q) e h)

-- ... where that may take memory itself
pub worked-or : (next : Work → Answer) (w v old : Work) (q : Answer) → v ≡ w → w.faults ≡ old.faults → Comes (Or (next v) (starved v)) q → Comes (Or (next w) (starved old)) q
worked-or next w v old q e f (inl h) = inl (subst (λ (x : Work). Comes (next x) q) e h)
worked-or next w v old q e f (inr h) = inr (h ∙ starved-same v old (ap (λ (x : Work). x.faults) e ∙ f))

-- ---- refs
-- those of a listing come next
pub named : (next : List Id12 → Work → Answer) (c d : Course) (keys ks : List Key) (q : Answer) → ks ≡ keys → d ≡ record c { names = ks } → Comes (get_refs d.names d.roots d.work next) q → Comes (Or (get_refs keys c.roots c.work next) (starved c.work)) q
named next c d keys ks q k e h = inl (subst (λ (x : List Key). Comes (get_refs x c.roots c.work next) q) k (subst (λ (x : Course). Comes (get_refs x.names x.roots x.work next) q) e h))

-- what one of them named is taken
pub entered : (next : List Id12 → Work → Answer) (c d : Course) (roots : List Id12) (w : Work) (q : Answer) → d ≡ record c { roots = roots; work = w } → Comes (get_refs d.names d.roots d.work next) q → Comes (Or (get_refs c.names roots w next) (starved c.work)) q
entered next c d roots w q e h = inl (subst (λ (x : Course). Comes (get_refs x.names x.roots x.work next) q) e h)

-- ---- snapshots
-- what follows the log of one that was read, with what its place has left
abbrev logged : ℕ → List Id12 → Id12 → Work → List FileVisit → Option Id12 → Answer
logged left roots id w files parent = asks (Get (Txn id)) w (on_got w (λ got. get_files files (told_log id (found_log id got) w) (parent_rest left roots parent)))

module _ (left : ℕ) (roots : List Id12) (id : Id12) (s : SnapshotFile) (place : SnapshotLeft) (w : Work) (q : Answer) (files : place.files ≡ files_of s.nodes) (parent : place.parent ≡ s.parent) where
  -- the initial one has none
  pub log-none : same_id12 id initial_id ≡ true → Comes (files_rest left roots place w) q → Comes (read_on (walk left (walks roots)) id s w (walks roots)) q
  log-none e h =
      subst (λ (initial : Bool). Comes (cond initial (get_files (files_of s.nodes) w (parent_rest left roots s.parent)) (logged left roots id w (files_of s.nodes) s.parent)) q) (sym e)
      (subst (λ (p : Option Id12). Comes (get_files (files_of s.nodes) w (parent_rest left roots p)) q) parent
      (subst (λ (fs : List FileVisit). Comes (get_files fs w (parent_rest left roots place.parent)) q) files h))

  pub log-asked : same_id12 id initial_id ≡ false → q ≡ logged left roots id w place.files place.parent → Comes (read_on (walk left (walks roots)) id s w (walks roots)) q
  log-asked e h =
      subst (λ (initial : Bool). Comes (cond initial (get_files (files_of s.nodes) w (parent_rest left roots s.parent)) (logged left roots id w (files_of s.nodes) s.parent)) q) (sym e)
      (h ∙ (ap (λ (fs : List FileVisit). logged left roots id w fs place.parent) files ∙ ap (λ (p : Option Id12). logged left roots id w (files_of s.nodes) p) parent))

-- ---- manifests
module _ (f : FileVisit) (w : Work) (next : Work → Answer) (told : Result ManifestFile FaultKind) (q : Answer) where
  pub file-read : (m : ManifestFile) (parts : List PartVisit) → Ok m ≡ told → parts ≡ parts_of f m → Comes (Or (get_parts parts (meet_file f w) next) (starved w)) q → Comes (Or (after_file f w next told) (starved w)) q
  file-read m parts e p h =
      subst (λ (r : Result ManifestFile FaultKind). Comes (Or (after_file f w next r) (starved w)) q) e
      (subst (λ (ps : List PartVisit). Comes (Or (get_parts ps (meet_file f w) next) (starved w)) q) p h)

  pub file-missed : (kind : FaultKind) → Err kind ≡ told → Comes (Or (next (tell (Manifest f.manifest) kind (meet_file f w))) (starved w)) q → Comes (Or (after_file f w next told) (starved w)) q
  file-missed kind e h = subst (λ (r : Result ManifestFile FaultKind). Comes (Or (after_file f w next r) (starved w)) q) e h

-- ---- how much is left
pub roots-few : (roots : List Id12) (seen : Result (Option Id12) FaultKind) → length (roots_with roots seen) ≤ length roots + 1
roots-few roots (Ok None) = omega arith
roots-few roots (Ok (Some id)) = omega (arith, length-append roots (id ∷ []))
roots-few roots (Err kind) = omega arith

pub branches-named : (c d : Course) (ks : List Key) (n : ℕ) → d ≡ record c { names = ks } → length d.names < many → n ≤ branches_left d → n < 1 + many * name_cost + all_tags_left c
branches-named c d ks n e few h = let same : length d.roots ≡ length c.roots = ap (λ (x : Course). length x.roots) e in omega arith

pub tags-named : (c d : Course) (ks : List Key) (n : ℕ) → d ≡ record c { names = ks } → length d.names < many → n ≤ tags_left d → n < all_tags_left c
tags-named c d ks n e few h = let same : length d.roots ≡ length c.roots = ap (λ (x : Course). length x.roots) e in omega arith

pub branches-entered : (c d : Course) (seen : Result (Option Id12) FaultKind) (w : Work) (n : ℕ) → d ≡ record c { roots = roots_with c.roots seen; work = w } → n ≤ branches_left d → n < 1 + root_cost + branches_left c
branches-entered c d seen w n e h =
    let roots : length d.roots ≡ length (roots_with c.roots seen) = ap (λ (x : Course). length x.roots) e in
    let names : length d.names ≡ length c.names = ap (λ (x : Course). length x.names) e in
    omega (arith, roots-few c.roots seen)

pub tags-entered : (c d : Course) (seen : Result (Option Id12) FaultKind) (w : Work) (n : ℕ) → d ≡ record c { roots = roots_with c.roots seen; work = w } → n ≤ tags_left d → n < 1 + root_cost + tags_left c
tags-entered c d seen w n e h =
    let roots : length d.roots ≡ length (roots_with c.roots seen) = ap (λ (x : Course). length x.roots) e in
    let names : length d.names ≡ length c.names = ap (λ (x : Course). length x.names) e in
    omega (arith, roots-few c.roots seen)
