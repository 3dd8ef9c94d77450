-- A check tells faults only where none of its operations failed.
use Rattle.std.proofs.Common.{◌≡◌, inl, inr, ℕ, zero, suc, Bool, true, false, cond, List, [], ◌∷◌, ◌++◌, refl, sym, ◌∙◌, ap, subst}
use Rattle.std.specs.Prelude.{Option, Some, None, Result, Ok, Err, Contains}
use Rattle.std.proofs.lemmas.List.Elements.{Contains-push_cases}
use Rattle.ice_ids.specs.declared.Id12.{Id12}
use Rattle.ice_ids.specs.Text.{same_id12, initial_id}
use Rattle.ice_ids.specs.Sets.{has_object}
use Rattle.snapshot_file.specs.declared.snapshot.SnapshotFile.{SnapshotFile}
use Rattle.manifest_file.specs.declared.manifest.ManifestFile.{ManifestFile}
use Rattle.object_store.specs.declared.keys.Key.{Key}
use Rattle.object_store.specs.declared.keys.Key.TheVariants.{Snapshot, Manifest, Txn, Chunk}
use Rattle.object_store.specs.declared.keys.Part.{Part as Part_of_store}
use Rattle.object_store.specs.declared.keys.Part.TheVariants.{Branches, Tags}
use Rattle.object_store.specs.declared.events.Op.TheVariants.{Get, List as ListPart}
use Rattle.object_store.specs.declared.events.Got.{Got}
use Rattle.object_store.specs.declared.events.Reply.{Reply}
use Rattle.object_store.specs.declared.events.Reply.TheVariants.{Got as Is_got, New as Is_new, Over as Is_over, Gone as Is_gone, GoneAt as Is_gone_at, Listed as Is_listed, Failed}
use Rattle.object_store.specs.declared.events.Event.{Event}
use Rattle.store_api.specs.declared.machines.Refusal.TheVariants.{Unsound, TooDeep, StoreFault}
use Rattle.store_api.specs.Callers.{Caller, Waits, has_failed}
use Rattle.store_api.specs.Plays.{Ended, Ask, Or, behind, PlayLeads}
use Rattle.check_reports.specs.declared.faults.FaultKind.{FaultKind}
use Rattle.check_reports.specs.declared.faults.FaultKind.TheVariants.{Ring}
use Rattle.repo_read.specs.Chains.{most_snapshots}
use Rattle.live_refs.specs.Live.{live}
use Rattle.intact.specs.declared.visits.FileVisit.{FileVisit}
use Rattle.intact.specs.declared.visits.PartVisit.{PartVisit}
use Rattle.intact.specs.Rows.{files_of}
use Rattle.intact.specs.Parts.{parts_of}
use Rattle.intact.specs.Told.{found_ref, found_snapshot, found_log, found_manifest, found_part}
use Rattle.repo_check.specs.declared.standing.CheckReport.{CheckReport}
use Rattle.repo_check.specs.Works.{Work, no_work, new_walk, has_file, has_part, meet_snapshot, meet_file, tell, verdict}
use Rattle.repo_check.specs.Plays.{Answer, ends_with, starved, asks, on_got, on_listed, roots_with, told_ref, told_part, told_log, get_refs, get_parts, get_files, get_log, after_file, after_snapshot, meets, onward, walk, walks, list_refs, then_tags, check_play}
use Rattle.repo_check.specs.Findings.{Deed}
use Rattle.repo_check.specs.Exact.{CheckTells, deeds_behind}
use Rattle.repo_check.proofs.Journals.{IsAt, at-begin, at-step, deeds-at, deeds-stay}
use Rattle.ice_ids.proofs.Elements.{none-in}
use Rattle.check_calls.specs.Told.{TellsNoFailure}
use Rattle.check_calls.specs.Laws.{FailureLaw}

-- ---- whatever the replies are
abbrev NoFailures : List Deed → Type 0
NoFailures deeds = (deed : Deed) → Contains deeds deed → has_failed deed.reply ≡ false

-- faults are told only where no deed failed
abbrev Tells : List Deed → CheckReport → Type 0
Tells deeds report = (faults : ℕ) → report.result ≡ Err (Unsound faults) → NoFailures deeds

unfoldable Goes : List Deed → Answer → Type 0
Goes d (Ended report) = Tells d report
Goes d (Ask op without next) = Goes d without × ((reply : Reply) → Goes (d ++ record { op = op; reply = reply } ∷ []) (next reply))
Goes d (Or p q) = Goes d p × Goes d q

one-more : (d : List Deed) (deed : Deed) → NoFailures d → has_failed deed.reply ≡ false → NoFailures (d ++ deed ∷ [])
one-more d deed h e x k = elim (Contains-push_cases d deed x k) [
  | inl a ↦ h x a
  | inr same ↦ ap (λ (y : Deed). has_failed y.reply) (sym same) ∙ e
]

starves : (d : List Deed) (w : Work) → Goes d (starved w)
unfolding Goes
starves d w = λ n e. absurd cc

faults : (d : List Deed) (w : Work) → Goes d (ends_with w (Err StoreFault))
unfolding Goes
faults d w = λ n e. absurd cc

-- what follows goes on, where nothing failed
abbrev Follows : (Work → Answer) → Type 0
Follows next = (d : List Deed) (w : Work) → NoFailures d → Goes d (next w)

goes-get : (d : List Deed) (w : Work) (key : Key) (next : Got → Answer) → NoFailures d → ((got : Got) (e : List Deed) → NoFailures e → Goes e (next got)) → Goes d (asks (Get key) w (on_got w next))
unfolding Goes
goes-get d w key next h goes = (starves d w, by)
  where
    deed : Reply → Deed
    deed reply = record { op = Get key; reply = reply }

    by : (reply : Reply) → Goes (d ++ record { op = Get key; reply = reply } ∷ []) (behind (Get key) reply (on_got w next reply) (starved w))
    by (Is_got got) = (goes got (d ++ deed (Is_got got) ∷ []) (one-more d (deed (Is_got got)) h refl), starves (d ++ deed (Is_got got) ∷ []) w)
    by (Is_new g) = (faults (d ++ deed (Is_new g) ∷ []) w, starves (d ++ deed (Is_new g) ∷ []) w)
    by (Is_over g) = (faults (d ++ deed (Is_over g) ∷ []) w, starves (d ++ deed (Is_over g) ∷ []) w)
    by (Is_gone g) = (faults (d ++ deed (Is_gone g) ∷ []) w, starves (d ++ deed (Is_gone g) ∷ []) w)
    by (Is_gone_at g) = (faults (d ++ deed (Is_gone_at g) ∷ []) w, starves (d ++ deed (Is_gone_at g) ∷ []) w)
    by (Is_listed g) = (faults (d ++ deed (Is_listed g) ∷ []) w, starves (d ++ deed (Is_listed g) ∷ []) w)
    by (Failed g) = faults (d ++ deed (Failed g) ∷ []) w

goes-list : (d : List Deed) (w : Work) (part : Part_of_store) (next : List Key → Answer) → NoFailures d → ((keys : List Key) (e : List Deed) → NoFailures e → Goes e (next keys)) → Goes d (asks (ListPart part) w (on_listed w next))
unfolding Goes
goes-list d w part next h goes = (starves d w, by)
  where
    deed : Reply → Deed
    deed reply = record { op = ListPart part; reply = reply }

    by : (reply : Reply) → Goes (d ++ record { op = ListPart part; reply = reply } ∷ []) (behind (ListPart part) reply (on_listed w next reply) (starved w))
    by (Is_listed l) = (goes (live l.entries) (d ++ deed (Is_listed l) ∷ []) (one-more d (deed (Is_listed l)) h refl), starves (d ++ deed (Is_listed l) ∷ []) w)
    by (Is_got g) = (faults (d ++ deed (Is_got g) ∷ []) w, starves (d ++ deed (Is_got g) ∷ []) w)
    by (Is_new g) = (faults (d ++ deed (Is_new g) ∷ []) w, starves (d ++ deed (Is_new g) ∷ []) w)
    by (Is_over g) = (faults (d ++ deed (Is_over g) ∷ []) w, starves (d ++ deed (Is_over g) ∷ []) w)
    by (Is_gone g) = (faults (d ++ deed (Is_gone g) ∷ []) w, starves (d ++ deed (Is_gone g) ∷ []) w)
    by (Is_gone_at g) = (faults (d ++ deed (Is_gone_at g) ∷ []) w, starves (d ++ deed (Is_gone_at g) ∷ []) w)
    by (Failed g) = faults (d ++ deed (Failed g) ∷ []) w

-- ---- parts, manifests, logs
goes-parts : (next : Work → Answer) → Follows next → (ps : List PartVisit) → Follows (λ w. get_parts ps w next)
unfolding get_parts
goes-parts next f [] d w h = f d w h
goes-parts next f (p ∷ ps) d w h = split (goes-parts next f ps) (has_part w.parts p)
  where
    split : Follows (λ v. get_parts ps v next) → (b : Bool) → Goes d (cond b (get_parts ps w next) (asks (Get (Chunk p.object)) w (on_got w (λ got. get_parts ps (told_part p (found_part p got) w) next))))
    split again true = again d w h
    split again false = goes-get d w (Chunk p.object) (λ got. get_parts ps (told_part p (found_part p got) w) next) h (λ got e k. again e (told_part p (found_part p got) w) k)

goes-file : (next : Work → Answer) → Follows next → (f : FileVisit) (r : Result ManifestFile FaultKind) → Follows (λ w. after_file f w next r)
goes-file next follows f (Ok m) d w h = goes-parts next follows (parts_of f m) d (meet_file f w) h
goes-file next follows f (Err kind) d w h = follows d (tell (Manifest f.manifest) kind (meet_file f w)) h

goes-files : (next : Work → Answer) → Follows next → (fs : List FileVisit) → Follows (λ w. get_files fs w next)
unfolding get_files
goes-files next follows [] d w h = follows d w h
goes-files next follows (f ∷ fs) d w h = split (goes-files next follows fs) (has_file w.files f)
  where
    split : Follows (λ v. get_files fs v next) → (b : Bool) → Goes d (cond b (get_files fs w next) (asks (Get (Manifest f.manifest)) w (on_got w (λ got. after_file f w (λ v. get_files fs v next) (found_manifest f got)))))
    split again true = again d w h
    split again false = goes-get d w (Manifest f.manifest) (λ got. after_file f w (λ v. get_files fs v next) (found_manifest f got)) h (λ got e k. goes-file (λ v. get_files fs v next) again f (found_manifest f got) e w k)

goes-log : (next : Work → Answer) → Follows next → (id : Id12) → Follows (λ w. get_log id w next)
goes-log next f id d w h = split (same_id12 id initial_id)
  where
    split : (b : Bool) → Goes d (cond b (next w) (asks (Get (Txn id)) w (on_got w (λ got. next (told_log id (found_log id got) w)))))
    split true = f d w h
    split false = goes-get d w (Txn id) (λ got. next (told_log id (found_log id got) w)) h (λ got e k. f e (told_log id (found_log id got) w) k)

-- ---- walks
goes-meets : (next : Work → Answer) → Follows next → (id : Id12) (fresh : Answer) (d : List Deed) (w : Work) → NoFailures d → Goes d fresh → Goes d (meets id w next fresh)
unfolding Goes
goes-meets next f id fresh d w h g = split (has_object w.walk id) (has_object w.met id)
  where
    split : (a b : Bool) → Goes d (cond a (Or (next (tell (Snapshot id) Ring w)) (starved w)) (cond b (next w) fresh))
    split true b = (f d (tell (Snapshot id) Ring w) h, starves d w)
    split false true = f d w h
    split false false = g

goes-onward : (go : Id12 → Work → Answer) → ((id : Id12) → Follows (go id)) → (next : Work → Answer) → Follows next → (parent : Option Id12) → Follows (λ w. onward go parent w next)
goes-onward go goes next f None d w h = f d w h
goes-onward go goes next f (Some parent) d w h = goes parent d w h

goes-snapshot : (go : Id12 → Work → Answer) → ((id : Id12) → Follows (go id)) → (next : Work → Answer) → Follows next → (id : Id12) (r : Result SnapshotFile FaultKind) → Follows (λ w. after_snapshot go id w next r)
goes-snapshot go goes next f id (Ok s) d w h =
    goes-log (λ v. get_files (files_of s.nodes) v (λ u. onward go s.parent u next)) (goes-files (λ u. onward go s.parent u next) (goes-onward go goes next f s.parent) (files_of s.nodes)) id d (meet_snapshot id w) h
goes-snapshot go goes next f id (Err kind) d w h = f d (tell (Snapshot id) kind (meet_snapshot id w)) h

too-deep : (d : List Deed) (w : Work) → Goes d (ends_with w (Err TooDeep))
unfolding Goes
too-deep d w = λ n e. absurd cc

goes-walk : (next : Work → Answer) → Follows next → (left : ℕ) (id : Id12) → Follows (walk left next id)
unfolding walk
goes-walk next f zero id d w h = goes-meets next f id (ends_with w (Err TooDeep)) d w h (too-deep d w)
goes-walk next f (suc left) id d w h =
    goes-meets next f id (asks (Get (Snapshot id)) w (on_got w (λ got. after_snapshot (walk left next) id w next (found_snapshot id got)))) d w h
    (goes-get d w (Snapshot id) (λ got. after_snapshot (walk left next) id w next (found_snapshot id got)) h (λ got e k. goes-snapshot (walk left next) (goes-walk next f left) next f id (found_snapshot id got) e w k))

ends : (d : List Deed) (w : Work) → NoFailures d → Goes d (ends_with w (verdict w))
unfolding Goes
ends d w h = λ n e. h

goes-walks : (ids : List Id12) → Follows (walks ids)
unfolding walks
goes-walks [] d w h = ends d w h
goes-walks (id ∷ ids) d w h = goes-walk (walks ids) (goes-walks ids) most_snapshots id d (new_walk w) h

-- ---- refs
goes-refs : (next : List Id12 → Work → Answer) → ((roots : List Id12) → Follows (next roots)) → (keys : List Key) (roots : List Id12) → Follows (λ w. get_refs keys roots w next)
unfolding get_refs
goes-refs next f [] roots d w h = f roots d w h
goes-refs next f (key ∷ keys) roots d w h =
    goes-get d w key (λ got. get_refs keys (roots_with roots (found_ref got)) (told_ref key (found_ref got) w) next) h (λ got e k. goes-refs next f keys (roots_with roots (found_ref got)) e (told_ref key (found_ref got) w) k)

goes-listing : (part : Part_of_store) (next : List Id12 → Work → Answer) → ((roots : List Id12) → Follows (next roots)) → (roots : List Id12) → Follows (λ w. list_refs part roots w next)
goes-listing part next f roots d w h = goes-list d w part (λ keys. get_refs keys roots w next) h (λ keys e k. goes-refs next f keys roots e w k)

goes-play : Goes [] check_play
goes-play = goes-listing Branches then_tags (λ roots. goes-listing Tags walks goes-walks roots) [] [] no_work (λ deed k. absurd (none-in deed k))

-- ---- in a journal
module _ (by : Caller) (start : List Event) where
  leads : (d : List Deed) (p : Answer) (journal : List Event) → Goes d p → IsAt by start d journal → PlayLeads (TellsNoFailure by.number start) by p journal
  unfolding PlayLeads Goes
  leads d (Ended report) journal g a = λ n e. subst NoFailures (deeds-at by start d journal a) (g n e)
  leads d (Ask op without next) journal g a = (
    leads d without journal g.0 a,
    λ reply new m. leads (d ++ record { op = op; reply = reply } ∷ []) (next reply) new (g.1 reply) (at-step by start d op reply journal new a m),
  )
  leads d (Or p q) journal g a = (leads d p journal g.0 a, leads d q journal g.1 a)

  -- ---- later
  kept : (report : CheckReport) (old new : List Event) → Waits by old new → CheckTells by.number start report old → TellsNoFailure by.number start report old → TellsNoFailure by.number start report new
  kept report old new w c t = λ n e. subst NoFailures (sym (ap (deeds_behind by.number start) w.is ∙ deeds-stay by start old w.between c.more c.since w.others)) (t n e)

pub failure-law : FailureLaw
failure-law = record {
  leads = λ by start. leads by start [] check_play start goes-play (at-begin by start);
  kept = λ by start. kept by start;
}
