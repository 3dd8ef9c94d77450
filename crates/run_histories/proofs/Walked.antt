-- The commits that a session's client read: each is linked to the one before it.
use Rattle.std.proofs.Common.{◌≡◌, inl, inr, ℕ, zero, suc, List, [], ◌∷◌, ◌++◌, map, sym, ◌∙◌, ap, append-nil, subst}
use Rattle.std.specs.Prelude.{All, Some}
use Rattle.std.proofs.lemmas.List.Elements.{All-head, All-tail}
use Rattle.ice_ids.specs.Text.{initial_id}
use Rattle.ice_ids.specs.declared.Id12.{Id12}
use Rattle.ice_ids.specs.declared.drawing.AnyIds.{AnyIds}
use Rattle.snapshot_file.specs.declared.snapshot.SnapshotFile.{SnapshotFile}
use Rattle.repo_objects.specs.Laws.{InitialLaw}
use Rattle.repo_objects.specs.declared.bad_objects.Bad.{Bad}
use Rattle.conflicts.specs.declared.solving.Policy.{Policy}
use Rattle.store_api.specs.Telling.{WasGot, WasReadAs}
use Rattle.object_store.specs.declared.events.Event.{Event}
use Rattle.object_store.specs.declared.events.Version.{Version}
use Rattle.object_store.specs.declared.keys.Key.{Key}
use Rattle.object_store.specs.declared.keys.Key.TheVariants.{Snapshot, Txn}
use Rattle.store_api.proofs.Happening.{WasGot-append}
use Rattle.session.specs.Sessions.{SessionState, base_nodes, rebased_to}
use Rattle.commit_path.specs.Single.{HasPutAlike}
use Rattle.rebase.specs.Along.{Link, Solves, along}
use Rattle.rebase.specs.Telling.{CameToHead, LogWasReadAs, Rises, WasHidden, WereMet}
use Rattle.rebase.proofs.AsPut.{log-logged, snapshot-made}
use Rattle.play_script.specs.Well.{IsWellTask}
use Rattle.play_script.specs.declared.scripts.Task.{Task}
use Rattle.play_tasks.specs.Playing.{asked_by, policy_of}
use Rattle.play_tasks.specs.Solving.{IsOfTask, WasCarried, WasRebased}
use Rattle.reach.specs.Chains.{parent_at}
use Rattle.run_histories.proofs.Began.{lines-carried, lost-carried}
use Rattle.run_histories.proofs.Carrying.{IsFront, alike-back, front-front, lost-same, rebased-front, rebased-same, task-lines}
use Rattle.run_histories.proofs.Gotten.{read-parent}
use Rattle.run_histories.proofs.Grounds.{Grounds, IsCarried, IsLink}
use Rattle.run_histories.proofs.CarriedAlong.{AllLinked, walk-carried, walk-honest}

some-same : {A : Type 0} (a b : A) → Some a ≡ Some b → a ≡ b
some-same a b e = cc

module _ (initial : InitialLaw) (ids : AnyIds) (client : ℕ) (start journal : List Event) (g : Grounds ids client start journal) where
  -- ---- what was told of a beginning of the journal
  read-on : (then now : List Event) (id : Id12) (f : SnapshotFile) → IsFront now journal → WasReadAs client id f then now → WasReadAs client id f then journal
  read-on then now id f front r = record {
    bytes = r.bytes;
    version = r.version;
    got = subst (λ (j : List Event). WasGot client (Snapshot id) r.bytes r.version then j) (sym front.is) (WasGot-append client (Snapshot id) r.bytes r.version then now front.more r.got);
    read = r.read;
  }

  log-on : (then now : List Event) (l : Link) → IsFront now journal → LogWasReadAs client l then now → LogWasReadAs client l then journal
  log-on then now l front r = record {
    bytes = r.bytes;
    version = r.version;
    got = subst (λ (j : List Event). WasGot client (Txn l.file.id) r.bytes r.version then j) (sym front.is) (WasGot-append client (Txn l.file.id) r.bytes r.version then now front.more r.got);
    log = r.log;
    read = r.read;
    lists_are = r.lists_are;
  }

  -- ---- one commit
  pub one-linked : (then : List Event) (base : Id12) (l : Link) → l.file.parent ≡ Some base → WasReadAs client l.file.id l.file then journal → LogWasReadAs client l then journal → IsLink journal base l
  one-linked then base l rises read log =
      let made = snapshot-made client then journal g.good g.once initial l.file.id l.file read in
      record {
        put = made.put;
        rows = made.rows;
        logged = log-logged client then journal g.good g.once l log;
        parent = elim made.same [
          | inl same ↦ inl (record { snap = made.snap; made = made.made; parent = ap (λ (f : SnapshotFile). f.parent) (sym same) ∙ rises })
          | inr cut ↦ let is : base ≡ initial_id = some-same base initial_id (sym rises ∙ ap (λ (f : SnapshotFile). f.parent) cut.0) in inr (is, stays-cut is)
        ];
      }
    where
      -- what had the initial snapshot as its parent has it still
      stays-cut : base ≡ initial_id → parent_at journal l.file.id ≡ Some initial_id
      stays-cut is = elim (read-parent client then journal g.good g.once l.file.id l.file read) [
        | inl same ↦ same ∙ rises ∙ ap (λ (i : Id12). Some i) is
        | inr cut ↦ cut
      ]

  -- ---- commit after commit
  module _ (then now : List Event) (front : IsFront now journal) (later : List SnapshotFile) where
    abbrev files : List Link → List SnapshotFile
    files ls = map (λ (l : Link). l.file) ls ++ later

    pub all-linked : (links : List Link) (base head : Id12) → Rises base (files links) head → All (λ (f : SnapshotFile). WasReadAs client f.id f then now) (files links) → All (λ (l : Link). LogWasReadAs client l then now) links
        → AllLinked initial ids client start journal g base links
    unfolding Rises AllLinked
    all-linked [] base head rises read logs = tt
    all-linked (l ∷ ls) base head rises read logs = (
      one-linked then base l rises.0
          (read-on then now l.file.id l.file front (All-head (λ (f : SnapshotFile). WasReadAs client f.id f then now) l.file (files ls) read))
          (log-on then now l front (All-head (λ (k : Link). LogWasReadAs client k then now) l ls logs)),
      all-linked ls l.file.id head rises.1 (All-tail (λ (f : SnapshotFile). WasReadAs client f.id f then now) l.file (files ls) read) (All-tail (λ (k : Link). LogWasReadAs client k then now) l ls logs),
    )

  -- the last one is the head
  rises-last : (before : List Link) (last : Link) (base head : Id12) → Rises base (map (λ (l : Link). l.file) (before ++ last ∷ []) ++ []) head → last.file.id ≡ head
  unfolding Rises
  rises-last [] last base head rises = rises.1
  rises-last (l ∷ ls) last base head rises = rises-last ls last l.file.id head rises.1

  -- ---- a rebase
  -- the commits that were met are linked
  pub met-linked : (s : SessionState) (head : Id12) (version : Version) (links : List Link) (later : List SnapshotFile) (then now : List Event) → IsFront now journal → WereMet client s head version links later then now
      → AllLinked initial ids client start journal g s.base links
  met-linked s head version links later then now front m = all-linked then now front later links s.base head m.walked.rises m.walked.read m.logs

  pub moved-carried : (policy : Policy) (s t : SessionState) (count : ℕ) (then now : List Event) → IsFront now journal → IsCarried ids journal s → HasPutAlike client s start journal → CameToHead client policy s t count then now → IsCarried ids journal t
  moved-carried policy s t count then now front k alike m =
      let last : Link = record { file = m.snap; lists = m.solved.lists } in
      let met : WereMet client s m.head m.version (m.solved.before ++ last ∷ []) [] then now = subst (λ (ls : List Link). WereMet client s m.head m.version ls [] then now) m.solved.last m.solved.met in
      let way : along policy s.held (base_nodes s) (m.solved.before ++ last ∷ []) ≡ Solves m.held = ap (along policy s.held (base_nodes s)) (sym m.solved.last) ∙ m.solved.solved in
      let linked = met-linked s m.head m.version (m.solved.before ++ last ∷ []) [] then now front met in
      let here = walk-carried initial ids client start journal g policy m.solved.before last s m.held m.version.0 k alike linked way in
      subst (IsCarried ids journal) (sym m.becomes) (subst (λ (id : Id12). IsCarried ids journal (rebased_to s id m.version.0 m.snap m.held)) (rises-last m.solved.before last s.base m.head met.walked.rises) here)

  pub rebased-carried : (policy : Policy) (s t : SessionState) (then now : List Event) → IsFront now journal → IsCarried ids journal s → HasPutAlike client s start journal → WasRebased client policy s t then now → IsCarried ids journal t
  rebased-carried policy s t then now front k alike (inl (count, m)) = moved-carried policy s t count then now front k alike m
  rebased-carried policy s t then now front k alike (inr u) =
      subst (IsCarried ids journal) (sym u.becomes) (record { later = k.later; put = k.put; rows = k.rows; added = k.added; free = k.free; drops = k.drops; normal = k.normal; texts = k.texts })

  -- no log hides a node from it
  pub rebase-honest : (policy : Policy) (s : SessionState) (key : Key) (bad : Bad) (then now : List Event) → IsFront now journal → IsCarried ids journal s → HasPutAlike client s start journal → ¬ WasHidden client policy s key bad then now
  rebase-honest policy s key bad then now front k alike h =
      walk-honest initial ids client start journal g policy h.links s h.at h.node k alike (met-linked s h.head h.version h.links h.later then now front h.met) h.hides

  -- ---- as often as it was carried
  pub carried : (policy : Policy) (count : ℕ) (s t : SessionState) (now : List Event) → IsFront now journal → IsCarried ids journal s → HasPutAlike client t start journal → WasCarried client policy count s t start now → IsCarried ids journal t
  unfolding WasCarried
  carried policy zero s t now front k alike c = subst (IsCarried ids journal) (sym c) k
  carried policy (suc count) s t now front k alike c =
      let mid : SessionState = c.0 in
      let lost : SessionState = c.1 in
      let since : List Event = start ++ c.2 in
      let rebased = rebased-same client policy lost t since now c.5 in
      let lost_alike : HasPutAlike client lost start journal = alike-back client lost t start journal rebased.holds alike in
      let mid_alike : HasPutAlike client mid start journal = alike-back client mid lost start journal (lost-same client policy mid lost start since c.4).holds lost_alike in
      let earlier : IsFront since journal = front-front since now journal (rebased-front client policy lost t since now c.5) front in
      rebased-carried policy lost t since now front
      (lost-carried initial ids client start journal g mid lost since c.4 (carried policy count s mid since earlier k mid_alike c.3))
      lost_alike c.5

-- ---- a task
-- a session of a task at its commit
pub task-carried_on : InitialLaw → (ids : AnyIds) (task : Task) (client : ℕ) (start journal : List Event) → Grounds ids client start journal → IsWellTask task → (t : SessionState) (id : Id12) → IsOfTask ids task client start journal t id → IsCarried ids journal t
task-carried_on initial ids task client start journal g well t id o =
    let k = lines-carried initial ids client start journal g (asked_by o.access ids) o.opened o.begun o.early o.session (task-lines ids task client start journal t id well o) in
    carried initial ids client start journal g (policy_of o.access) o.count o.session t journal (record { more = []; is = sym (append-nil journal) }) k o.alike o.carried
