-- What calls on refs answer in a run over an empty store.
use Rattle.std.proofs.Common.{◌≡◌, ℕ, zero, suc, Bool, true, false, cond, List, [], ◌∷◌, ◌++◌, map, refl, sym, subst}
use Rattle.std.specs.Prelude.{Option, Some, None, Result, Ok, Err}
use Rattle.ice_base.specs.Names.{main_name, same_name}
use Rattle.ice_ids.specs.declared.Id12.{Id12}
use Rattle.ice_ids.specs.declared.drawing.AnyIds.{AnyIds}
use Rattle.ref_file.specs.Refs.{ref_bytes}
use Rattle.snapshot_file.specs.declared.snapshot.SnapshotFile.{SnapshotFile}
use Rattle.repo_objects.specs.declared.bad_objects.Bad.{Bad}
use Rattle.repo_objects.specs.Readings.{read_snapshot, snapshot_by}
use Rattle.object_store.specs.declared.keys.Key.{Key}
use Rattle.object_store.specs.declared.keys.Key.TheVariants.{Snapshot, Branch, Tag, Tombstone}
use Rattle.object_store.specs.declared.keys.Why.TheVariants as why
use Rattle.object_store.specs.declared.events.Version.{Version}
use Rattle.object_store.specs.declared.events.Op.{Op}
use Rattle.object_store.specs.declared.events.Op.TheVariants.{Get, PutNew, PutOver, RemoveAt}
use Rattle.object_store.specs.declared.events.Got.TheVariants.{Found, Absent}
use Rattle.object_store.specs.declared.events.New.TheVariants.{Done as New_done, Present}
use Rattle.object_store.specs.declared.events.Over.TheVariants.{Done as Over_done, Moved as Over_moved}
use Rattle.object_store.specs.declared.events.GoneAt.TheVariants.{Done as Gone_done, Moved as Gone_moved}
use Rattle.object_store.specs.declared.events.Reply.{Reply}
use Rattle.object_store.specs.declared.events.Reply.TheVariants.{Got as Is_got, New as Is_new, Over as Is_over, Gone as Is_gone, GoneAt as Is_gone_at, Listed as Is_listed, Failed}
use Rattle.object_store.specs.declared.events.Event.{Event}
use Rattle.store_api.specs.declared.machines.Refusal.{Refusal}
use Rattle.store_api.specs.declared.machines.Refusal.TheVariants as R
use Rattle.object_store.specs.Machine.{Stored, found}
use Rattle.store_api.specs.Journal.{Each, WasPut}
use Rattle.store_api.specs.Program.{Done, Ask}
use Rattle.store_api.specs.Plays.{Play}
use Rattle.store_api.specs.Running.{Program, on_answer}
use Rattle.object_store.proofs.Slots.{WasPut-append}
use Rattle.repo_read.specs.declared.answers.Resolved.{Resolved}
use Rattle.repo_read.specs.declared.resolving.At.{At}
use Rattle.repo_read.specs.declared.resolving.Named.{Named}
use Rattle.repo_read.specs.Answers.{at_key, snapshot_told}
use Rattle.repo_read.specs.Chains.{most_snapshots, walk}
use Rattle.repo_read.specs.Programs.{resolve_program}
use Rattle.repo_read.specs.Resolving.{but_refused, no_ref, resolve_at_program, tag_program}
use Rattle.refs_admin.specs.declared.log.LogLine.{LogLine}
use Rattle.refs_admin.specs.Targets.{no_snapshot, target_told, target_program}
use Rattle.refs_admin.specs.Branches.{created, put_branch, create_program, branch_new_program, moved, put_over, move_program, reset_program, branch_reset_program, dropped, removal, branch_drop_program}
use Rattle.refs_admin.specs.Tags.{taken, after_tag, put_tag, tag_target_program, tag_new_program, buried, put_tombstone, tag_drop_program}
use Rattle.refs_admin.specs.LogReading.{told_lines, refused_now, refused_first, chain_at, chain_log_program, line_of}
use Rattle.script_calls.specs.declared.calls.Call.{Call}
use Rattle.script_calls.specs.declared.calls.Call.TheVariants as calls
use Rattle.script_calls.specs.declared.calls.RefCall.{RefCall}
use Rattle.script_calls.specs.declared.calls.RefCall.TheVariants as ref
use Rattle.play_script.specs.declared.scripts.Line.{Line}
use Rattle.play_outcome.specs.declared.outcome.Shown.{Shown}
use Rattle.play_outcome.specs.declared.outcome.End.TheVariants as E
use Rattle.play_outcome.specs.declared.outcome.Outcome.{Outcome}
use Rattle.play_outcome.specs.Playing.{refused}
use Rattle.play_refs.specs.Playing.{Rest, logged, unseen, ref_play, after_ref, play_ref_line, refs_play}
use Rattle.play_course.specs.Refusing.{is_strange, strange_end}
use Rattle.play_course.proofs.Tidy.{Client, stands-readable, put-stands}
use Rattle.play_course.proofs.Parents.{comes-from}
use Rattle.play_course.proofs.Meeting.{was-read, Meets, PlayMeets, done-meets, ask-meets, then-meets, got-meets, ended-meets, or-meets, call-meets}
use Rattle.play_course.proofs.Knowing.{IsKept, OfOthers, OfOwn, beside, kept-next, kept-others, missing-plain}
use Rattle.play_course.proofs.Naming.{Names, Reads, Resolves, branch-read, tag-read, Tags, resolve-meets}

-- ---- what replies tell
-- it is refused so
abbrev strange_by : {A : Type 0} → (collects : Bool) → Result A Refusal → Bool
strange_by collects (Ok a) = false
strange_by collects (Err w) = is_strange collects w

created-plain : (collects : Bool) (reply : Reply) → strange_by collects (created reply) ≡ false
created-plain collects (Is_new (New_done version now)) = refl
created-plain collects (Is_new (Present version now)) = refl
created-plain collects (Is_got x) = refl
created-plain collects (Is_over x) = refl
created-plain collects (Is_gone x) = refl
created-plain collects (Is_gone_at x) = refl
created-plain collects (Is_listed x) = refl
created-plain collects (Failed done) = refl

moved-plain : (collects : Bool) (reply : Reply) → strange_by collects (moved reply) ≡ false
moved-plain collects (Is_over (Over_done version now)) = refl
moved-plain collects (Is_over (Over_moved there now)) = refl
moved-plain collects (Is_got x) = refl
moved-plain collects (Is_new x) = refl
moved-plain collects (Is_gone x) = refl
moved-plain collects (Is_gone_at x) = refl
moved-plain collects (Is_listed x) = refl
moved-plain collects (Failed done) = refl

dropped-plain : (collects : Bool) (reply : Reply) → strange_by collects (dropped reply) ≡ false
dropped-plain collects (Is_gone_at (Gone_done now)) = refl
dropped-plain collects (Is_gone_at (Gone_moved there now)) = refl
dropped-plain collects (Is_got x) = refl
dropped-plain collects (Is_new x) = refl
dropped-plain collects (Is_over x) = refl
dropped-plain collects (Is_gone x) = refl
dropped-plain collects (Is_listed x) = refl
dropped-plain collects (Failed done) = refl

buried-plain : (collects : Bool) (reply : Reply) → strange_by collects (buried reply) ≡ false
buried-plain collects (Is_new (New_done version now)) = refl
buried-plain collects (Is_new (Present version now)) = refl
buried-plain collects (Is_got x) = refl
buried-plain collects (Is_over x) = refl
buried-plain collects (Is_gone x) = refl
buried-plain collects (Is_gone_at x) = refl
buried-plain collects (Is_listed x) = refl
buried-plain collects (Failed done) = refl

taken-plain : (collects : Bool) (version : Version) (reply : Reply) → is_strange collects (taken version reply) ≡ false
taken-plain collects version (Is_got (Found bytes at now)) = refl
taken-plain collects version (Is_got (Absent now)) = refl
taken-plain collects version (Is_new x) = refl
taken-plain collects version (Is_over x) = refl
taken-plain collects version (Is_gone x) = refl
taken-plain collects version (Is_gone_at x) = refl
taken-plain collects version (Is_listed x) = refl
taken-plain collects version (Failed done) = refl

-- absence that is told as that of a ref isn't strange
no_ref-plain : (collects : Bool) (w : Refusal) → is_strange collects w ≡ false → is_strange collects (no_ref w) ≡ false
no_ref-plain collects (R.Missing key) e = refl
no_ref-plain collects w e = e

module _ (client : Client) (ids : AnyIds) where
  -- ---- the journal
  abbrev Kept : List Event → Type 0
  Kept h = IsKept client h

  kept-along : (journal more : List Event) → Each (OfOthers client ids) journal more → Kept journal → Kept (journal ++ more)
  kept-along journal more others k = kept-others client ids journal more others k

  kept-own : (journal : List Event) (event : Event) → OfOwn client ids journal event → Kept journal → Kept (journal ++ event ∷ [])
  kept-own journal event own k = kept-next client journal event own.tidy own.after k

  kept-got : (journal : List Event) (event : Event) (key : Key) → OfOwn client ids journal event → event.op ≡ Get key → Kept journal → Kept (journal ++ event ∷ [])
  kept-got journal event key own is k = kept-own journal event own k

  kept-behind : (journal more : List Event) (event : Event) → Each (OfOthers client ids) journal more → OfOwn client ids (journal ++ more) event → Kept journal → Kept ((journal ++ more) ++ event ∷ [])
  kept-behind journal more event others own k = kept-own (journal ++ more) event own (kept-along journal more others k)

  -- ---- operations
  -- the journal is known still, or the call was refused as it may be
  abbrev Knows : {A : Type 0} → Result A Refusal → List Event → Type 0
  Knows (Ok a) h = IsKept client h
  Knows (Err w) h = is_strange client.collects w ≡ false

  knows-of : {A : Type 0} (r : Result A Refusal) (h : List Event) → strange_by client.collects r ≡ false → Kept h → Knows r h
  knows-of (Ok a) h p t = t
  knows-of (Err w) h p t = p

  -- an operation of which no reply tells anything strange
  told-meets : {A : Type 0} (op : Op) (told : Reply → Result A Refusal) → ((reply : Reply) → strange_by client.collects (told reply) ≡ false) → (journal : List Event) → Kept journal → Meets Knows (beside client ids) (Ask op (λ reply. Done (told reply))) journal
  told-meets op told plain journal t =
      ask-meets Knows (beside client ids) op (λ reply. Done (told reply)) journal (λ more event others own is.
      done-meets Knows (beside client ids) (told event.reply) ((journal ++ more) ++ event ∷ []) (knows-of (told event.reply) ((journal ++ more) ++ event ∷ []) (plain event.reply) (kept-behind journal more event others own t)))

  -- the snapshot that a ref is to name
  target-meets : (id : Id12) (journal : List Event) → Kept journal → Meets Knows (beside client ids) (target_program id) journal
  target-meets id journal t =
      ask-meets Knows (beside client ids) (Get (Snapshot id)) (λ reply. Done (target_told id reply)) journal (λ more event others own is.
      let mid = kept-along journal more others t in
      got-meets Knows (beside client ids) (λ reply. Done (target_told id reply)) (journal ++ more) event own.tidy.good ((journal ++ more) ++ event ∷ []) (Snapshot id) is
      (λ s at. let can = stands-readable id (journal ++ more) s mid.tidy at in
      subst (λ (r : Result SnapshotFile Bad). Meets Knows (beside client ids) (Done (but_refused no_snapshot (at_key (Snapshot id) r))) ((journal ++ more) ++ event ∷ [])) (sym (was-read (read_snapshot id s.bytes) can.0 can.1))
      (done-meets Knows (beside client ids) (Ok can.0) ((journal ++ more) ++ event ∷ []) (kept-own (journal ++ more) event own mid)))
      (λ gone. done-meets Knows (beside client ids) (Err R.NoSnapshot) ((journal ++ more) ++ event ∷ []) refl)
      (λ done. done-meets Knows (beside client ids) (Err R.StoreFault) ((journal ++ more) ++ event ∷ []) refl))

  -- ---- names
  abbrev Named_well : At → Result Named Refusal → List Event → Type 0
  Named_well = Resolves client ids Kept kept-along kept-got (λ h k. k.tidy)

  naming : (at : At) (journal : List Event) → Kept journal → Meets (Named_well at) (beside client ids) (resolve_at_program at) journal
  naming at journal t = resolve-meets client ids Kept kept-along kept-got (λ h k. k.tidy) at journal t

  abbrev Read_well : List ℕ → Result Resolved Refusal → List Event → Type 0
  Read_well = Reads client ids Kept kept-along kept-got (λ h k. k.tidy)

  reading : (name : List ℕ) (journal : List Event) → Kept journal → Meets (Read_well name) (beside client ids) (resolve_program name) journal
  reading name journal t = branch-read client ids Kept kept-along kept-got (λ h k. k.tidy) name journal t

  -- ---- branches
  create-meets : (name : List ℕ) (id : Id12) (journal : List Event) → Kept journal → Meets Knows (beside client ids) (create_program name id) journal
  create-meets name id journal t =
      then-meets Knows Knows (beside client ids) (target_program id) (λ target. put_branch name id) journal (target-meets id journal t)
      (λ target h k. told-meets (PutNew (Branch name) (ref_bytes id) why.Create) created (created-plain client.collects) h k) (λ w h p. p)

  new-meets : (name : List ℕ) (at : At) (journal : List Event) → Kept journal → Meets Knows (beside client ids) (branch_new_program name at) journal
  new-meets name at journal t =
      then-meets (Named_well at) Knows (beside client ids) (resolve_at_program at) (λ named. create_program name named.id) journal (naming at journal t)
      (λ named h q. create-meets name named.id h q.0) (λ w h p. p)

  move-meets : (name : List ℕ) (id : Id12) (version : Version) (journal : List Event) → Kept journal → Meets Knows (beside client ids) (move_program name id version) journal
  move-meets name id version journal t =
      then-meets Knows Knows (beside client ids) (target_program id) (λ target. put_over name id version) journal (target-meets id journal t)
      (λ target h k. told-meets (PutOver (Branch name) (ref_bytes id) version why.Reset) moved (moved-plain client.collects) h k) (λ w h p. p)

  set-meets : (name : List ℕ) (id : Id12) (journal : List Event) → Kept journal → Meets Knows (beside client ids) (reset_program name id) journal
  set-meets name id journal t =
      then-meets (Read_well name) Knows (beside client ids) (resolve_program name) (λ read. move_program name id read.version) journal (reading name journal t)
      (λ read h q. move-meets name id read.version h q.0) (λ w h p. p)

  reset-meets : (name : List ℕ) (at : At) (journal : List Event) → Kept journal → Meets Knows (beside client ids) (branch_reset_program name at) journal
  reset-meets name at journal t =
      then-meets (Named_well at) Knows (beside client ids) (resolve_at_program at) (λ named. reset_program name named.id) journal (naming at journal t)
      (λ named h q. set-meets name named.id h q.0) (λ w h p. p)

  drop-meets : (name : List ℕ) (journal : List Event) → Kept journal → Meets Knows (beside client ids) (branch_drop_program name) journal
  drop-meets name journal t =
      then-meets (Read_well name) Knows (beside client ids) (resolve_program name) _ journal (reading name journal t)
      (λ read h q. by_name read h q.0 (same_name name main_name)) (λ w h p. p)
    where
      by_name : (read : Resolved) (h : List Event) → Kept h → (main : Bool) → Meets Knows (beside client ids) (cond main (Done (Err R.MainKept)) (removal name read.version)) h
      by_name read h k true = done-meets Knows (beside client ids) (Err R.MainKept) h refl
      by_name read h k false = told-meets (RemoveAt (Branch name) read.version why.Drop) dropped (dropped-plain client.collects) h k

  -- ---- tags
  after-meets : (name : List ℕ) (reply : Reply) (journal : List Event) → Kept journal → Meets Knows (beside client ids) (after_tag name reply) journal
  after-meets name (Is_new (New_done version now)) journal t = done-meets Knows (beside client ids) (Ok tt) journal t
  after-meets name (Is_new (Present version now)) journal t = told-meets (Get (Tombstone name)) (λ reply. Err (taken version reply)) (taken-plain client.collects version) journal t
  after-meets name (Is_got x) journal t = done-meets Knows (beside client ids) (Err R.StoreFault) journal refl
  after-meets name (Is_over x) journal t = done-meets Knows (beside client ids) (Err R.StoreFault) journal refl
  after-meets name (Is_gone x) journal t = done-meets Knows (beside client ids) (Err R.StoreFault) journal refl
  after-meets name (Is_gone_at x) journal t = done-meets Knows (beside client ids) (Err R.StoreFault) journal refl
  after-meets name (Is_listed x) journal t = done-meets Knows (beside client ids) (Err R.StoreFault) journal refl
  after-meets name (Failed done) journal t = done-meets Knows (beside client ids) (Err R.StoreFault) journal refl

  put-tag-meets : (name : List ℕ) (id : Id12) (journal : List Event) → Kept journal → Meets Knows (beside client ids) (put_tag name id) journal
  put-tag-meets name id journal t =
      ask-meets Knows (beside client ids) (PutNew (Tag name) (ref_bytes id) why.Tag) (after_tag name) journal (λ more event others own is.
      after-meets name event.reply ((journal ++ more) ++ event ∷ []) (kept-behind journal more event others own t))

  tag-target-meets : (name : List ℕ) (id : Id12) (journal : List Event) → Kept journal → Meets Knows (beside client ids) (tag_target_program name id) journal
  tag-target-meets name id journal t =
      then-meets Knows Knows (beside client ids) (target_program id) (λ target. put_tag name id) journal (target-meets id journal t)
      (λ target h k. put-tag-meets name id h k) (λ w h p. p)

  tag-meets : (name : List ℕ) (at : At) (journal : List Event) → Kept journal → Meets Knows (beside client ids) (tag_new_program name at) journal
  tag-meets name at journal t =
      then-meets (Named_well at) Knows (beside client ids) (resolve_at_program at) (λ named. tag_target_program name named.id) journal (naming at journal t)
      (λ named h q. tag-target-meets name named.id h q.0) (λ w h p. p)

  untag-meets : (name : List ℕ) (journal : List Event) → Kept journal → Meets Knows (beside client ids) (tag_drop_program name) journal
  untag-meets name journal t =
      then-meets (Tags client ids Kept kept-along kept-got (λ h k. k.tidy)) Knows (beside client ids) (tag_program name) (λ tagged. put_tombstone name) journal (tag-read client ids Kept kept-along kept-got (λ h k. k.tidy) name journal t)
      (λ tagged h q. told-meets (PutNew (Tombstone name) [] why.Drop) buried (buried-plain client.collects) h q.0) (λ w h p. p)

  -- ---- logs
  -- what follows a snapshot
  abbrev behind : (left : ℕ) → (seen : List SnapshotFile) → SnapshotFile → Option Id12 → Program (List SnapshotFile)
  behind left seen f parent = elim parent [
    | Some parent ↦ walk left (seen ++ f ∷ []) parent
    | None ↦ Done (Ok (seen ++ f ∷ []))
  ]

  abbrev rest : (left : ℕ) → (seen : List SnapshotFile) → Result SnapshotFile Refusal → Program (List SnapshotFile)
  rest left seen r = on_answer (λ (f : SnapshotFile). behind left seen f f.parent) r

  abbrev WalksOn : ℕ → Type 0
  WalksOn left = (seen : List SnapshotFile) (id : Id12) (journal : List Event) → Kept journal → WasPut journal (Snapshot id) → Meets Knows (beside client ids) (walk left seen id) journal

  parent-meets : (left : ℕ) (seen : List SnapshotFile) (f : SnapshotFile) (journal : List Event) → Kept journal → ((parent : Id12) → f.parent ≡ Some parent → WasPut journal (Snapshot parent)) → WalksOn left → (o : Option Id12) → f.parent ≡ o → Meets Knows (beside client ids) (behind left seen f o) journal
  parent-meets left seen f journal t put go None e = done-meets Knows (beside client ids) (Ok (seen ++ f ∷ [])) journal t
  parent-meets left seen f journal t put go (Some parent) e = go (seen ++ f ∷ []) parent journal t (put parent e)

  -- what follows a snapshot that stands
  read-meets : (left : ℕ) (seen : List SnapshotFile) (id : Id12) (journal : List Event) (event : Event) (s : Stored) → Kept journal → OfOwn client ids journal event → found journal (Snapshot id) ≡ Some s → WalksOn left → (f : SnapshotFile) → snapshot_by id s.bytes ≡ Some f
      → Meets Knows (beside client ids) (rest left seen (at_key (Snapshot id) (read_snapshot id s.bytes))) (journal ++ event ∷ [])
  read-meets left seen id journal event s t own at go f read =
      let after : Kept (journal ++ event ∷ []) = kept-own journal event own t in
      let from = comes-from journal t.tidy t.so_far.once id s f at read in
      subst (λ (r : Result SnapshotFile Bad). Meets Knows (beside client ids) (rest left seen (at_key (Snapshot id) r)) (journal ++ event ∷ [])) (sym (was-read (read_snapshot id s.bytes) f read))
      (parent-meets left seen f (journal ++ event ∷ []) after (λ parent e. WasPut-append journal (event ∷ []) (Snapshot parent) (from parent e).0) go f.parent refl)

  walk-meets : (left : ℕ) → WalksOn left
  unfolding walk
  walk-meets zero seen id journal t put = done-meets Knows (beside client ids) (Err R.TooDeep) journal refl
  walk-meets (suc left) seen id journal t put =
      ask-meets Knows (beside client ids) (Get (Snapshot id)) (λ reply. rest left seen (snapshot_told id reply)) journal (λ more event others own is.
      let mid = kept-along journal more others t in
      got-meets Knows (beside client ids) (λ reply. rest left seen (snapshot_told id reply)) (journal ++ more) event own.tidy.good ((journal ++ more) ++ event ∷ []) (Snapshot id) is
      (λ s at. let can = stands-readable id (journal ++ more) s mid.tidy at in read-meets left seen id (journal ++ more) event s mid own at (walk-meets left) can.0 can.1)
      (λ gone. done-meets Knows (beside client ids) (Err (R.Missing (Snapshot id))) ((journal ++ more) ++ event ∷ []) (missing-plain client.collects (Snapshot id) (λ none. put-stands (Snapshot id) tt (journal ++ more) (mid.so_far.stand none) (WasPut-append journal more (Snapshot id) put) gone)))
      (λ done. done-meets Knows (beside client ids) (Err R.StoreFault) ((journal ++ more) ++ event ∷ []) refl))

  -- where absence is told as that of a ref
  now-meets : {A : Type 0} (p : Program A) (journal : List Event) → Meets Knows (beside client ids) p journal → Meets Knows (beside client ids) (refused_now no_ref p) journal
  unfolding Meets
  now-meets (Done (Ok x)) journal m = m
  now-meets (Done (Err w)) journal m = no_ref-plain client.collects w m
  now-meets (Ask op next) journal m = m

  first-meets : (left : ℕ) (id : Id12) (journal : List Event) → Kept journal → Meets Knows (beside client ids) (refused_first no_ref (walk left [] id)) journal
  unfolding walk
  first-meets zero id journal t = done-meets Knows (beside client ids) (Err R.TooDeep) journal refl
  first-meets (suc left) id journal t =
      ask-meets Knows (beside client ids) (Get (Snapshot id)) (λ reply. refused_now no_ref (rest left [] (snapshot_told id reply))) journal (λ more event others own is.
      let mid = kept-along journal more others t in
      got-meets Knows (beside client ids) (λ reply. refused_now no_ref (rest left [] (snapshot_told id reply))) (journal ++ more) event own.tidy.good ((journal ++ more) ++ event ∷ []) (Snapshot id) is
      (λ s at. let can = stands-readable id (journal ++ more) s mid.tidy at in now-meets _ ((journal ++ more) ++ event ∷ []) (read-meets left [] id (journal ++ more) event s mid own at (walk-meets left) can.0 can.1))
      (λ gone. done-meets Knows (beside client ids) (Err R.NoRef) ((journal ++ more) ++ event ∷ []) refl)
      (λ done. done-meets Knows (beside client ids) (Err R.StoreFault) ((journal ++ more) ++ event ∷ []) refl))

  chain-meets : (at : At) (named : Named) (journal : List Event) → Kept journal → Names at named journal → Meets Knows (beside client ids) (chain_at at named.id) journal
  chain-meets (At.Branch name) named journal t n = walk-meets most_snapshots [] named.id journal t (n.put tt)
  chain-meets (At.Tag name) named journal t n = walk-meets most_snapshots [] named.id journal t (n.put tt)
  chain-meets (At.Snapshot own) named journal t n = first-meets most_snapshots named.id journal t

  log-meets : (at : At) (journal : List Event) → Kept journal → Meets Knows (beside client ids) (chain_log_program at) journal
  log-meets at journal t =
      then-meets (Named_well at) Knows (beside client ids) (resolve_at_program at) _ journal (naming at journal t)
      (λ named h q.
      then-meets Knows Knows (beside client ids) (chain_at at named.id) told_lines h (chain-meets at named h q.0 q.1)
      (λ seen j k. done-meets Knows (beside client ids) (Ok (map line_of seen)) j k) (λ w j p. p))
      (λ w h p. p)

  -- ---- lines
  abbrev Ends : Outcome → Type 0
  Ends o = strange_end client.collects o.end ≡ false

  abbrev Follows : (Result (List Shown) Refusal → Play Outcome) → Type 0
  Follows next = (r : Result (List Shown) Refusal) (h : List Event) → Knows r h → PlayMeets Ends (beside client ids) (next r) h

  follows-unseen : (next : Result (List Shown) Refusal → Play Outcome) → Follows next → (r : Result (Unit {0}) Refusal) (h : List Event) → Knows r h → PlayMeets Ends (beside client ids) (next (unseen r)) h
  follows-unseen next go (Ok done) h k = go (Ok []) h k
  follows-unseen next go (Err w) h k = go (Err w) h k

  follows-logged : (line : ℕ) (next : Result (List Shown) Refusal → Play Outcome) → Follows next → (r : Result (List LogLine) Refusal) (h : List Event) → Knows r h → PlayMeets Ends (beside client ids) (next (logged line r)) h
  follows-logged line next go (Ok lines) h k = go (logged line (Ok lines)) h k
  follows-logged line next go (Err w) h k = go (Err w) h k

  ref-meets : (line : ℕ) (c : RefCall) (next : Result (List Shown) Refusal → Play Outcome) (journal : List Event) → Kept journal → Follows next → PlayMeets Ends (beside client ids) (ref_play line c next) journal
  ref-meets line (ref.Branch name at) next journal t go =
      call-meets Ends (beside client ids) Knows (branch_new_program name at) (λ answer. next (unseen answer)) journal (new-meets name at journal t) (follows-unseen next go) (λ h. go (Err R.NoMemory) h refl)
  ref-meets line (ref.Reset name at) next journal t go =
      call-meets Ends (beside client ids) Knows (branch_reset_program name at) (λ answer. next (unseen answer)) journal (reset-meets name at journal t) (follows-unseen next go) (λ h. go (Err R.NoMemory) h refl)
  ref-meets line (ref.Unbranch name) next journal t go =
      call-meets Ends (beside client ids) Knows (branch_drop_program name) (λ answer. next (unseen answer)) journal (drop-meets name journal t) (follows-unseen next go) (λ h. go (Err R.NoMemory) h refl)
  ref-meets line (ref.Tag name at) next journal t go =
      call-meets Ends (beside client ids) Knows (tag_new_program name at) (λ answer. next (unseen answer)) journal (tag-meets name at journal t) (follows-unseen next go) (λ h. go (Err R.NoMemory) h refl)
  ref-meets line (ref.Untag name) next journal t go =
      call-meets Ends (beside client ids) Knows (tag_drop_program name) (λ answer. next (unseen answer)) journal (untag-meets name journal t) (follows-unseen next go) (λ h. go (Err R.NoMemory) h refl)
  ref-meets line (ref.Log at) next journal t go =
      call-meets Ends (beside client ids) Knows (chain_log_program at) (λ answer. next (logged line answer)) journal (log-meets at journal t) (follows-logged line next go) (λ h. go (Err R.NoMemory) h refl)

  refused-meets : (line : ℕ) (shown : List Shown) (w : Refusal) (journal : List Event) → is_strange client.collects w ≡ false → PlayMeets Ends (beside client ids) (refused line shown w) journal
  refused-meets line shown w journal p = ended-meets Ends (beside client ids) (record { shown = shown; end = E.Refused line w }) journal p

  abbrev GoesOn : Rest → Type 0
  GoesOn next = (shown : List Shown) (h : List Event) → Kept h → PlayMeets Ends (beside client ids) (next shown) h

  after-line : (line : ℕ) (shown : List Shown) (next : Rest) → GoesOn next → Follows (after_ref line shown next)
  after-line line shown next go (Ok more) h k = go (shown ++ more) h k
  after-line line shown next go (Err w) h p = refused-meets line shown w h p

  line-meets : (line : ℕ) (made : Call) (shown : List Shown) (next : Rest) (journal : List Event) → Kept journal → GoesOn next → PlayMeets Ends (beside client ids) (play_ref_line line made shown next) journal
  line-meets line (calls.Ref c) shown next journal t go = ref-meets line c (after_ref line shown next) journal t (after-line line shown next go)
  line-meets line (calls.Edit edit) shown next journal t go = go shown journal t
  line-meets line (calls.Read look) shown next journal t go = go shown journal t
  line-meets line (calls.Commit message) shown next journal t go = go shown journal t
  line-meets line (calls.Prop name value) shown next journal t go = go shown journal t
  line-meets line calls.Lease shown next journal t go = go shown journal t

  -- a task on refs ends by no strange refusal
  pub calls-meet : (lines : List Line) (shown : List Shown) (journal : List Event) → Kept journal → PlayMeets (λ o. strange_end client.collects o.end ≡ false) (beside client ids) (refs_play lines shown) journal
  unfolding refs_play
  calls-meet [] shown journal t = ended-meets Ends (beside client ids) (record { shown = shown; end = E.Done }) journal refl
  calls-meet (l ∷ ls) shown journal t =
      or-meets Ends (beside client ids) (play_ref_line l.number l.call shown (refs_play ls)) (refused l.number shown R.NoMemory) journal
      (line-meets l.number l.call shown (refs_play ls) journal t (λ more h k. calls-meet ls more h k))
      (refused-meets l.number shown R.NoMemory journal refl)
