-- A check goes through all that is named, whatever it is told.
use Rattle.std.proofs.Common.{◌≡◌, ◌⊎◌, inl, inr, ℕ, zero, suc, ◌+◌, ◌≤◌, Bool, true, false, cond, List, [], ◌∷◌, ◌++◌, map, length, refl, sym, ◌∙◌, ap, subst, arith, append_assoc, append-nil}
use Rattle.std.specs.Prelude.{Option, Some, None, Result, Ok, Err, Contains}
use Rattle.std.proofs.lemmas.List.Elements.{Contains-append_left, Contains-append_right, Contains-append_cases, Contains-push, Contains-push_cases}
use Rattle.ice_ids.specs.declared.Id12.{Id12}
use Rattle.ice_ids.specs.Text.{same_id12, initial_id}
use Rattle.ice_ids.specs.Sets.{has_object, with_object}
use Rattle.snapshot_file.specs.declared.snapshot.SnapshotFile.{SnapshotFile}
use Rattle.manifest_file.specs.declared.manifest.ManifestFile.{ManifestFile}
use Rattle.object_store.specs.declared.keys.Key.{Key}
use Rattle.object_store.specs.declared.keys.Key.TheVariants.{Snapshot, Manifest, Txn, Chunk}
use Rattle.object_store.specs.declared.keys.Part.{Part as Part_of_store}
use Rattle.object_store.specs.declared.events.Op.{Op}
use Rattle.object_store.specs.declared.events.Op.TheVariants.{Get, List as ListPart}
use Rattle.object_store.specs.declared.events.Got.{Got}
use Rattle.object_store.specs.declared.events.Listed.{Listed}
use Rattle.object_store.specs.declared.events.Reply.{Reply}
use Rattle.object_store.specs.declared.events.Reply.TheVariants.{Got as Is_got, New as Is_new, Over as Is_over, Gone as Is_gone, GoneAt as Is_gone_at, Listed as Is_listed, Failed}
use Rattle.check_reports.specs.declared.faults.FaultKind.{FaultKind}
use Rattle.check_reports.specs.declared.faults.FaultKind.TheVariants.{Ring}
use Rattle.check_reports.specs.declared.faults.CheckFault.{CheckFault}
use Rattle.check_reports.specs.declared.faults.Checked.{Checked}
use Rattle.store_api.specs.declared.machines.Refusal.{Refusal}
use Rattle.store_api.specs.declared.machines.Refusal.TheVariants.{NoMemory, StoreFault, TooDeep}
use Rattle.store_api.specs.Callers.{Fits, has_failed}
use Rattle.store_api.specs.Plays.{Play, Ended, Ask, Or, behind}
use Rattle.repo_read.specs.Chains.{most_snapshots}
use Rattle.live_refs.specs.Live.{live}
use Rattle.intact.specs.declared.visits.FileVisit.{FileVisit}
use Rattle.intact.specs.declared.visits.PartVisit.{PartVisit}
use Rattle.intact.specs.Rows.{files_of}
use Rattle.intact.specs.Parts.{parts_of}
use Rattle.intact.specs.Told.{found_ref, found_snapshot, found_log, found_manifest, found_part}
use Rattle.intact.specs.Visits.{Visit, Refs, Ref, Snap, Log, File, Part, leading, nowhere, or_nowhere, behind_ref, behind_snapshot, behind_manifest, its_files, its_parent}
use Rattle.intact.specs.Intact.{Made, WasAnswered, WasVisited, IsFineBy, HasParent, IsAbove}
use Rattle.intact.specs.Intact as intact
use Rattle.repo_check.specs.Works.{Work, has_file, has_part, new_walk, meet_snapshot, meet_file, meet_part, tell}
use Rattle.repo_check.specs.Plays.{Answer, ends_with, starved, asks, on_got, on_listed, told_part, told_log, told_ref, roots_with, get_parts, get_files, get_log, get_refs, after_file, after_snapshot, meets, onward, read_on, walk}
use Rattle.repo_check.specs.Findings.{Finding, Makes, Comes_back, made_of, Deed, deed_of, fault_by}
use Rattle.repo_check.specs.Exact.{IsOfObject, IsRead, EndsSo, Reports, one_for_snapshot, snapshot_gets}
use Rattle.repo_check.proofs.Sets.{Has, kept-with, has-with, only-with}
use Rattle.repo_check.proofs.Made.{gets-more, Grows, grows-more, told-here, above-grows, above-then}
use Rattle.ice_ids.proofs.Elements.{first-is, later-is, first-or-later, none-in}
use Rattle.repo_check.proofs.Settling.{NoParent, Settled, Extends, settled-grows}
use Rattle.repo_check.proofs.Settling as settling
use Rattle.repo_check.proofs.Keeping.{Keeps, MayMake, Sets, keeps-skip, keeps-moves, keeps-made, keeps-back, reports-now, reports-behind, sets-other, sets-snapshot, sets-file, sets-part}

-- Whatever the replies are, each operation to come reads, and the report says what it should.
unfoldable pub Goes : List Deed → Answer → Type 0
Goes d (Ended report) = Reports d report
Goes d (Ask op without next) = IsRead op × Goes d without × ((reply : Reply) → Goes (d ++ record { op = op; reply = reply } ∷ []) (next reply))
Goes d (Or p q) = Goes d p × Goes d q

pub differ : (b : Bool) → b ≡ false → b ≡ true → ⊥
differ b e f = cc

-- ---- further on
pub extends-same : (f : List Finding) (m : List Made) → Extends f m f m
extends-same f m = record { grows = λ v r t. t; backs = λ id c. c }

pub extends-then : (f g h : List Finding) (m n o : List Made) → Extends f m g n → Extends g n h o → Extends f m h o
extends-then f g h m n o x y = record { grows = λ v r t. y.grows v r (x.grows v r t); backs = λ id c. y.backs id (x.backs id c) }

pub extends-made : (f : List Finding) (m : List Made) (one : Made) → Extends f m (f ++ Makes one ∷ []) (m ++ one ∷ [])
extends-made f m one = record { grows = grows-more m one; backs = λ id c. Contains-append_left f (Makes one ∷ []) (Comes_back id) c }

pub extends-back : (f : List Finding) (m : List Made) (id : Id12) → Extends f m (f ++ Comes_back id ∷ []) m
extends-back f m id = record { grows = λ v r t. t; backs = λ x c. Contains-append_left f (Comes_back id ∷ []) (Comes_back x) c }

-- ... within what one snapshot leads to, beside its parent
pub record Further (f : List Finding) (m : List Made) (w : Work) (g : List Finding) (n : List Made) (v : Work) : Type 0 where
  pub extends : Extends f m g n
  pub met : v.met ≡ w.met
  pub walk : v.walk ≡ w.walk
  pub gets : snapshot_gets n ≡ snapshot_gets m

further-same : (f : List Finding) (m : List Made) (w : Work) → Further f m w f m w
further-same f m w = record { extends = extends-same f m; met = refl; walk = refl; gets = refl }

further-then : (f g h : List Finding) (m n o : List Made) (w v u : Work) → Further f m w g n v → Further g n v h o u → Further f m w h o u
further-then f g h m n o w v u x y = record { extends = extends-then f g h m n o x.extends y.extends; met = y.met ∙ x.met; walk = y.walk ∙ x.walk; gets = y.gets ∙ x.gets }

further-made : (f : List Finding) (m : List Made) (w v : Work) (one : Made) → v.met ≡ w.met → v.walk ≡ w.walk → one_for_snapshot one.visit ≡ 0 → Further f m w (f ++ Makes one ∷ []) (m ++ one ∷ []) v
further-made f m w v one a b c = record { extends = extends-made f m one; met = a; walk = b; gets = let more = gets-more m one in omega (arith, more, c) }

abbrev pub Follows : List Finding → List Made → Work → List Visit → (Work → Answer) → Type 0
Follows f m w pending next = (g : List Finding) (n : List Made) (e : List Deed) (v : Work) → Further f m w g n v → Keeps g n e v pending → Goes e (next v)

follows-further : (f g : List Finding) (m n : List Made) (w v : Work) (pending : List Visit) (next : Work → Answer) → Further f m w g n v → Follows f m w pending next → Follows g n v pending next
follows-further f g m n w v pending next x a = λ h o e u y k. a h o e u (further-then f g h m n o w v u x y) k

-- ---- one operation
module _ (f : List Finding) (m : List Made) (d : List Deed) (w : Work) (pending : List Visit) (k : Keeps f m d w pending) where
  pub starves-now : Goes d (starved w)
  unfolding Goes
  starves-now = reports-now f m d w pending (Err NoMemory) k (omega arith)

  starves-behind : (deed : Deed) → Goes (d ++ deed ∷ []) (starved w)
  unfolding Goes
  starves-behind deed = reports-behind f m d w pending deed (Err NoMemory) k (omega arith)

  fails : (deed : Deed) → (Fits deed.op deed.reply → has_failed deed.reply ≡ true) → Goes (d ++ deed ∷ []) (ends_with w (Err StoreFault))
  unfolding Goes
  fails deed h = reports-behind f m d w pending deed (Err StoreFault) k (record { deed = deed; is = refl; failed = h })

  pub goes-get : (key : Key) (next : Got → Answer) → ((got : Got) → Goes (d ++ record { op = Get key; reply = Is_got got } ∷ []) (next got)) → Goes d (asks (Get key) w (on_got w next))
  unfolding Goes
  goes-get key next goes = (tt, starves-now, by)
    where
      deed : Reply → Deed
      deed reply = record { op = Get key; reply = reply }

      by : (reply : Reply) → Goes (d ++ record { op = Get key; reply = reply } ∷ []) (behind (Get key) reply (on_got w next reply) (starved w))
      by (Is_got x) = (goes x, starves-behind (deed (Is_got x)))
      by (Failed x) = fails (record { op = Get key; reply = Failed x }) (λ h. refl)
      by (Is_new x) = (fails (record { op = Get key; reply = Is_new x }) (λ h. absurd h), starves-behind (record { op = Get key; reply = Is_new x }))
      by (Is_over x) = (fails (record { op = Get key; reply = Is_over x }) (λ h. absurd h), starves-behind (record { op = Get key; reply = Is_over x }))
      by (Is_gone x) = (fails (record { op = Get key; reply = Is_gone x }) (λ h. absurd h), starves-behind (record { op = Get key; reply = Is_gone x }))
      by (Is_gone_at x) = (fails (record { op = Get key; reply = Is_gone_at x }) (λ h. absurd h), starves-behind (record { op = Get key; reply = Is_gone_at x }))
      by (Is_listed x) = (fails (record { op = Get key; reply = Is_listed x }) (λ h. absurd h), starves-behind (record { op = Get key; reply = Is_listed x }))

  pub goes-list : (part : Part_of_store) (next : List Key → Answer) → ((l : Listed) → Goes (d ++ record { op = ListPart part; reply = Is_listed l } ∷ []) (next (live l.entries))) → Goes d (asks (ListPart part) w (on_listed w next))
  unfolding Goes
  goes-list part next goes = (tt, starves-now, by)
    where
      by : (reply : Reply) → Goes (d ++ record { op = ListPart part; reply = reply } ∷ []) (behind (ListPart part) reply (on_listed w next reply) (starved w))
      by (Is_listed x) = (goes x, starves-behind (record { op = ListPart part; reply = Is_listed x }))
      by (Failed x) = fails (record { op = ListPart part; reply = Failed x }) (λ h. refl)
      by (Is_got x) = (fails (record { op = ListPart part; reply = Is_got x }) (λ h. absurd h), starves-behind (record { op = ListPart part; reply = Is_got x }))
      by (Is_new x) = (fails (record { op = ListPart part; reply = Is_new x }) (λ h. absurd h), starves-behind (record { op = ListPart part; reply = Is_new x }))
      by (Is_over x) = (fails (record { op = ListPart part; reply = Is_over x }) (λ h. absurd h), starves-behind (record { op = ListPart part; reply = Is_over x }))
      by (Is_gone x) = (fails (record { op = ListPart part; reply = Is_gone x }) (λ h. absurd h), starves-behind (record { op = ListPart part; reply = Is_gone x }))
      by (Is_gone_at x) = (fails (record { op = ListPart part; reply = Is_gone_at x }) (λ h. absurd h), starves-behind (record { op = ListPart part; reply = Is_gone_at x }))

-- ---- parts of objects
abbrev pub part_visits : List PartVisit → List Visit
part_visits ps = map (λ p. Part p) ps

part-may : (m : List Made) (p : PartVisit) (r : Reply) → (WasVisited m (Part p) → ⊥) → MayMake m (Part p) r
part-may m p r unmade = record { new = λ o h. unmade h; log = λ id e. absurd (other id e); list = λ part e. absurd (another part e) }
  where
    other : (id : Id12) → Part p ≡ Log id → ⊥
    other id e = cc

    another : (part : Part_of_store) → Part p ≡ Refs part → ⊥
    another part e = cc

module _ (pending : List Visit) (next : Work → Answer) where
  abbrev PartsGo : List PartVisit → Type 0
  PartsGo ps = (f : List Finding) (m : List Made) (d : List Deed) (w : Work) → Keeps f m d w (part_visits ps ++ pending) → Follows f m w pending next → Goes d (get_parts ps w next)

  part-seen : (p : PartVisit) (ps : List PartVisit) → PartsGo ps → (f : List Finding) (m : List Made) (d : List Deed) (w : Work) → Keeps f m d w (Part p ∷ (part_visits ps ++ pending)) → Follows f m w pending next → (WasVisited m (Part p) → ⊥)
      → (got : Got) (r : Result (Unit {0}) FaultKind) → found_part p got ≡ r → Goes (d ++ record { op = Get (Chunk p.object); reply = Is_got got } ∷ []) (get_parts ps (told_part p r w) next)
  part-seen p ps again f m d w k follows unmade got r e = go r e
    where
      kept : (v : Work) → Sets (m ++ record { visit = Part p; reply = Is_got got } ∷ []) v.met v.files v.parts v.objects → (r : Result (Unit {0}) FaultKind) → found_part p got ≡ r → v.faults ≡ fault_by (Some (Chunk p.object)) (leading nowhere r) w.faults
          → Keeps (f ++ Makes (record { visit = Part p; reply = Is_got got }) ∷ []) (m ++ record { visit = Part p; reply = Is_got got } ∷ []) (d ++ record { op = Get (Chunk p.object); reply = Is_got got } ∷ []) v (or_nowhere (leading nowhere r) ++ (part_visits ps ++ pending))
      kept v sets r e faults =
          subst (λ (x : Result (Unit {0}) FaultKind). Keeps (f ++ Makes (record { visit = Part p; reply = Is_got got }) ∷ []) (m ++ record { visit = Part p; reply = Is_got got } ∷ []) (d ++ record { op = Get (Chunk p.object); reply = Is_got got } ∷ []) v (or_nowhere (leading nowhere x) ++ (part_visits ps ++ pending))) e
          (keeps-made f m d w v (Part p) (part_visits ps ++ pending) (Is_got got) k (part-may m p (Is_got got) unmade) sets (faults ∙ sym (ap (λ (x : Result (Unit {0}) FaultKind). fault_by (Some (Chunk p.object)) (leading nowhere x) w.faults) e)))

      go : (r : Result (Unit {0}) FaultKind) → found_part p got ≡ r → Goes (d ++ record { op = Get (Chunk p.object); reply = Is_got got } ∷ []) (get_parts ps (told_part p r w) next)
      go (Ok x) e =
          let v = meet_part p w in
          let g = f ++ Makes (record { visit = Part p; reply = Is_got got }) ∷ [] in
          let n = m ++ record { visit = Part p; reply = Is_got got } ∷ [] in
          again g n (d ++ record { op = Get (Chunk p.object); reply = Is_got got } ∷ []) v
          (kept v (sets-part m w.met w.files w.parts w.objects k.sets (record { visit = Part p; reply = Is_got got }) p refl) (Ok x) e refl)
          (follows-further f g m n w v pending next (further-made f m w v (record { visit = Part p; reply = Is_got got }) refl refl refl) follows)
      go (Err kind) e =
          let v = tell (Chunk p.object) kind (meet_part p w) in
          let g = f ++ Makes (record { visit = Part p; reply = Is_got got }) ∷ [] in
          let n = m ++ record { visit = Part p; reply = Is_got got } ∷ [] in
          again g n (d ++ record { op = Get (Chunk p.object); reply = Is_got got } ∷ []) v
          (kept v (sets-part m w.met w.files w.parts w.objects k.sets (record { visit = Part p; reply = Is_got got }) p refl) (Err kind) e refl)
          (follows-further f g m n w v pending next (further-made f m w v (record { visit = Part p; reply = Is_got got }) refl refl refl) follows)

  pub goes-parts : (ps : List PartVisit) → PartsGo ps
  unfolding get_parts
  goes-parts [] f m d w k follows = follows f m d w (further-same f m w) k
  goes-parts (p ∷ ps) f m d w k follows = split (goes-parts ps) (has_part w.parts p) refl
    where
      split : PartsGo ps → (b : Bool) → has_part w.parts p ≡ b → Goes d (cond b (get_parts ps w next) (asks (Get (Chunk p.object)) w (on_got w (λ got. get_parts ps (told_part p (found_part p got) w) next))))
      split again true e = again f m d w (keeps-skip f m d w (Part p) (part_visits ps ++ pending) (k.sets.parts_in p e) k) follows
      split again false e =
          goes-get f m d w (Part p ∷ (part_visits ps ++ pending)) k (Chunk p.object) (λ got. get_parts ps (told_part p (found_part p got) w) next)
          (λ got. part-seen p ps again f m d w k follows (λ h. differ (has_part w.parts p) e (k.sets.parts_all p h)) got (found_part p got) refl)

-- ---- manifests
abbrev pub file_visits : List FileVisit → List Visit
file_visits fs = map (λ f. File f) fs

file-may : (m : List Made) (x : FileVisit) (r : Reply) → (WasVisited m (File x) → ⊥) → MayMake m (File x) r
file-may m x r unmade = record { new = λ o h. unmade h; log = λ id e. absurd (other id e); list = λ part e. absurd (another part e) }
  where
    other : (id : Id12) → File x ≡ Log id → ⊥
    other id e = cc

    another : (part : Part_of_store) → File x ≡ Refs part → ⊥
    another part e = cc

module _ (pending : List Visit) (next : Work → Answer) where
  abbrev FilesGo : List FileVisit → Type 0
  FilesGo fs = (f : List Finding) (m : List Made) (d : List Deed) (w : Work) → Keeps f m d w (file_visits fs ++ pending) → Follows f m w pending next → Goes d (get_files fs w next)

  file-seen : (x : FileVisit) (xs : List FileVisit) → FilesGo xs → (f : List Finding) (m : List Made) (d : List Deed) (w : Work) → Keeps f m d w (File x ∷ (file_visits xs ++ pending)) → Follows f m w pending next → (WasVisited m (File x) → ⊥)
      → (got : Got) (r : Result ManifestFile FaultKind) → found_manifest x got ≡ r → Goes (d ++ record { op = Get (Manifest x.manifest); reply = Is_got got } ∷ []) (after_file x w (λ v. get_files xs v next) r)
  file-seen x xs again f m d w k follows unmade got r e = go r e
    where
      kept : (v : Work) → Sets (m ++ record { visit = File x; reply = Is_got got } ∷ []) v.met v.files v.parts v.objects → (r : Result ManifestFile FaultKind) → found_manifest x got ≡ r → v.faults ≡ fault_by (Some (Manifest x.manifest)) (leading (behind_manifest x) r) w.faults
          → Keeps (f ++ Makes (record { visit = File x; reply = Is_got got }) ∷ []) (m ++ record { visit = File x; reply = Is_got got } ∷ []) (d ++ record { op = Get (Manifest x.manifest); reply = Is_got got } ∷ []) v (or_nowhere (leading (behind_manifest x) r) ++ (file_visits xs ++ pending))
      kept v sets r e faults =
          subst (λ (y : Result ManifestFile FaultKind). Keeps (f ++ Makes (record { visit = File x; reply = Is_got got }) ∷ []) (m ++ record { visit = File x; reply = Is_got got } ∷ []) (d ++ record { op = Get (Manifest x.manifest); reply = Is_got got } ∷ []) v (or_nowhere (leading (behind_manifest x) y) ++ (file_visits xs ++ pending))) e
          (keeps-made f m d w v (File x) (file_visits xs ++ pending) (Is_got got) k (file-may m x (Is_got got) unmade) sets (faults ∙ sym (ap (λ (y : Result ManifestFile FaultKind). fault_by (Some (Manifest x.manifest)) (leading (behind_manifest x) y) w.faults) e)))

      go : (r : Result ManifestFile FaultKind) → found_manifest x got ≡ r → Goes (d ++ record { op = Get (Manifest x.manifest); reply = Is_got got } ∷ []) (after_file x w (λ v. get_files xs v next) r)
      go (Ok file) e =
          let v = meet_file x w in
          let one : Made = record { visit = File x; reply = Is_got got } in
          let g = f ++ Makes one ∷ [] in
          let n = m ++ one ∷ [] in
          let far = further-made f m w v one refl refl refl in
          goes-parts (file_visits xs ++ pending) (λ u. get_files xs u next) (parts_of x file) g n (d ++ record { op = Get (Manifest x.manifest); reply = Is_got got } ∷ []) v
          (kept v (sets-file m w.met w.files w.parts w.objects k.sets one x refl) (Ok file) e refl)
          (λ h o e u y l. again h o e u l (follows-further f h m o w u pending next (further-then f g h m n o w v u far y) follows))
      go (Err kind) e =
          let v = tell (Manifest x.manifest) kind (meet_file x w) in
          let one : Made = record { visit = File x; reply = Is_got got } in
          let g = f ++ Makes one ∷ [] in
          let n = m ++ one ∷ [] in
          again g n (d ++ record { op = Get (Manifest x.manifest); reply = Is_got got } ∷ []) v
          (kept v (sets-file m w.met w.files w.parts w.objects k.sets one x refl) (Err kind) e refl)
          (follows-further f g m n w v pending next (further-made f m w v one refl refl refl) follows)

  pub goes-files : (fs : List FileVisit) → FilesGo fs
  unfolding get_files
  goes-files [] f m d w k follows = follows f m d w (further-same f m w) k
  goes-files (x ∷ xs) f m d w k follows = split (goes-files xs) (has_file w.files x) refl
    where
      split : FilesGo xs → (b : Bool) → has_file w.files x ≡ b → Goes d (cond b (get_files xs w next) (asks (Get (Manifest x.manifest)) w (on_got w (λ got. after_file x w (λ v. get_files xs v next) (found_manifest x got)))))
      split again true e = again f m d w (keeps-skip f m d w (File x) (file_visits xs ++ pending) (k.sets.files_in x e) k) follows
      split again false e =
          goes-get f m d w (File x ∷ (file_visits xs ++ pending)) k (Manifest x.manifest) (λ got. after_file x w (λ v. get_files xs v next) (found_manifest x got))
          (λ got. file-seen x xs again f m d w k follows (λ h. differ (has_file w.files x) e (k.sets.files_all x h)) got (found_manifest x got) refl)

-- ---- logs
module _ (pending : List Visit) (next : Work → Answer) (id : Id12) (f : List Finding) (m : List Made) (d : List Deed) (w : Work) (follows : Follows f m w pending next) (snap : WasVisited m (Snap id)) (unmade : WasVisited m (Log id) → ⊥) where
  log-may : (r : Reply) → MayMake m (Log id) r
  log-may r = record { new = λ o h. unmade h; log = λ x e. subst (λ (y : Id12). WasVisited m (Snap y)) (same x e) snap; list = λ part e. absurd (another part e) }
    where
      same : (x : Id12) → Log id ≡ Log x → id ≡ x
      same x e = cc

      another : (part : Part_of_store) → Log id ≡ Refs part → ⊥
      another part e = cc

  log-seen : Keeps f m d w (Log id ∷ pending) → (got : Got) (r : Result (Unit {0}) FaultKind) → found_log id got ≡ r → Goes (d ++ record { op = Get (Txn id); reply = Is_got got } ∷ []) (next (told_log id r w))
  log-seen k got r e = go r e
    where
      kept : (v : Work) → Sets (m ++ record { visit = Log id; reply = Is_got got } ∷ []) v.met v.files v.parts v.objects → (r : Result (Unit {0}) FaultKind) → found_log id got ≡ r → v.faults ≡ fault_by (Some (Txn id)) (leading nowhere r) w.faults
          → Keeps (f ++ Makes (record { visit = Log id; reply = Is_got got }) ∷ []) (m ++ record { visit = Log id; reply = Is_got got } ∷ []) (d ++ record { op = Get (Txn id); reply = Is_got got } ∷ []) v (or_nowhere (leading nowhere r) ++ pending)
      kept v sets r e faults =
          subst (λ (x : Result (Unit {0}) FaultKind). Keeps (f ++ Makes (record { visit = Log id; reply = Is_got got }) ∷ []) (m ++ record { visit = Log id; reply = Is_got got } ∷ []) (d ++ record { op = Get (Txn id); reply = Is_got got } ∷ []) v (or_nowhere (leading nowhere x) ++ pending)) e
          (keeps-made f m d w v (Log id) pending (Is_got got) k (log-may (Is_got got)) sets (faults ∙ sym (ap (λ (x : Result (Unit {0}) FaultKind). fault_by (Some (Txn id)) (leading nowhere x) w.faults) e)))

      same_sets : Sets (m ++ record { visit = Log id; reply = Is_got got } ∷ []) w.met w.files w.parts w.objects
      same_sets = sets-other m w.met w.files w.parts w.objects k.sets (record { visit = Log id; reply = Is_got got }) (λ x e. no-snap x e) (λ x e. no-file x e) (λ x e. no-part x e)
        where
          no-snap : (x : Id12) → Log id ≡ Snap x → ⊥
          no-snap x e = cc

          no-file : (x : FileVisit) → Log id ≡ File x → ⊥
          no-file x e = cc

          no-part : (x : PartVisit) → Log id ≡ Part x → ⊥
          no-part x e = cc

      go : (r : Result (Unit {0}) FaultKind) → found_log id got ≡ r → Goes (d ++ record { op = Get (Txn id); reply = Is_got got } ∷ []) (next (told_log id r w))
      go (Ok x) e =
          let one : Made = record { visit = Log id; reply = Is_got got } in
          follows (f ++ Makes one ∷ []) (m ++ one ∷ []) (d ++ record { op = Get (Txn id); reply = Is_got got } ∷ []) w (further-made f m w w one refl refl refl) (kept w same_sets (Ok x) e refl)
      go (Err kind) e =
          let v = tell (Txn id) kind w in
          let one : Made = record { visit = Log id; reply = Is_got got } in
          follows (f ++ Makes one ∷ []) (m ++ one ∷ []) (d ++ record { op = Get (Txn id); reply = Is_got got } ∷ []) v (further-made f m w v one refl refl refl) (kept v same_sets (Err kind) e refl)

  pub goes-log : (b : Bool) → Keeps f m d w (cond b [] (Log id ∷ []) ++ pending) → Goes d (cond b (next w) (asks (Get (Txn id)) w (on_got w (λ got. next (told_log id (found_log id got) w)))))
  goes-log true k = follows f m d w (further-same f m w) k
  goes-log false k = goes-get f m d w (Log id ∷ pending) k (Txn id) (λ got. next (told_log id (found_log id got) w)) (λ got. log-seen k got (found_log id got) refl)
