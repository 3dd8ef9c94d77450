-- What an opening answers in a run over an empty store, by a branch, by a tag or by a snapshot's id.
use Rattle.std.proofs.Common.{◌≡◌, ℕ, Bool, false, List, [], ◌∷◌, ◌++◌, refl, sym, ◌∙◌, ap, subst}
use Rattle.std.specs.Prelude.{Option, Some, option_map, Result, Ok, Err}
use Rattle.ice_ids.specs.declared.Id12.{Id12}
use Rattle.ice_ids.specs.declared.drawing.AnyIds.{AnyIds}
use Rattle.snapshot_file.specs.declared.snapshot.SnapshotFile.{SnapshotFile}
use Rattle.repo_objects.specs.declared.bad_objects.Bad.{Bad}
use Rattle.repo_objects.specs.Readings.{read_snapshot, snapshot_by}
use Rattle.repo_objects.specs.Trees.{tree_under}
use Rattle.object_store.specs.declared.keys.Key.{Key}
use Rattle.object_store.specs.declared.keys.Key.TheVariants.{Snapshot}
use Rattle.object_store.specs.declared.events.Op.TheVariants.{Get}
use Rattle.object_store.specs.declared.events.Event.{Event}
use Rattle.object_store.specs.declared.events.Got.TheVariants.{Found, Absent}
use Rattle.object_store.specs.declared.events.Reply.TheVariants.{Got as Is_got, Failed}
use Rattle.object_store.specs.declared.events.Version.{Version}
use Rattle.store_api.specs.declared.machines.Refusal.{Refusal}
use Rattle.store_api.specs.declared.machines.Refusal.TheVariants as R
use Rattle.object_store.specs.Machine.{Stored, found, last_put, version_at}
use Rattle.store_api.specs.Journal.{Each, IsGood, WasPut, rows_of, snap_in, puts_of}
use Rattle.store_api.specs.Program.{Done}
use Rattle.store_api.specs.Running.{Program, on_answer}
use Rattle.object_store.proofs.Journals.{Each-one}
use Rattle.object_store.proofs.Slots.{WasPut-append, StoodAt-append, found-stood, sound}
use Rattle.repo_read.specs.declared.resolving.At.{At}
use Rattle.repo_read.specs.declared.resolving.Named.{Named}
use Rattle.repo_read.specs.Answers.{at_key}
use Rattle.repo_read.specs.Resolving.{but_refused, no_ref, resolve_at_program, base_told}
use Rattle.session.specs.Sessions.{SessionState, tip_in}
use Rattle.session.specs.Opening.{Asked, origin_for, begun, base_program, open_program}
use Rattle.commit_path.specs.Opened.{IsByRef, IsTip}
use Rattle.commit_path.specs.Single.{PutsSnapshot}
use Rattle.commit_path.proofs.Knowing.{IsTip-append, tree-by_rows, rows-kept}
use Rattle.run_histories.specs.Sources.{NodesAreNew}
use Rattle.run_histories.proofs.Editing.{begun-goes}
use Rattle.play_course.specs.Refusing.{is_strange}
use Rattle.play_course.proofs.Tidy.{Client, AreIts, stands-readable, put-stands}
use Rattle.play_course.proofs.Meeting.{was-read, Meets, done-meets, ask-meets, then-meets, got-meets}
use Rattle.play_course.proofs.Knowing.{OfOthers, OfOwn, Before, beside, before-others, before-got, nodes-others, missing-plain}
use Rattle.play_course.proofs.Holding.{KnowsSession}
use Rattle.play_course.proofs.Naming.{Names, names-more, Resolves, resolve-meets}

-- ---- the snapshot that was named
-- one that can be read
base-found : (at : At) (id : Id12) (bytes : List ℕ) (version : Version) (now : ℕ) (snap : SnapshotFile) → read_snapshot id bytes ≡ Ok snap → base_told at id (Is_got (Found bytes version now)) ≡ Ok snap
base-found (At.Branch name) id bytes version now snap e = ap (at_key (Snapshot id)) e
base-found (At.Tag name) id bytes version now snap e = ap (at_key (Snapshot id)) e
base-found (At.Snapshot own) id bytes version now snap e = ap (λ (r : Result SnapshotFile Bad). but_refused no_ref (at_key (Snapshot id) r)) e

base-failed : (at : At) (id : Id12) (done : Bool) → base_told at id (Failed done) ≡ Err R.StoreFault
base-failed (At.Branch name) id done = refl
base-failed (At.Tag name) id done = refl
base-failed (At.Snapshot own) id done = refl

-- One that its own id names may be absent, which is told as a ref that isn't there; one that a ref names is missing, where a task collects.
record TellsAbsent (collects : Bool) (at : At) (id : Id12) (now : ℕ) : Type 0 where
  why : Refusal
  told : base_told at id (Is_got (Absent now)) ≡ Err why
  plain : is_strange collects why ≡ false

base-absent : (collects : Bool) (at : At) (id : Id12) (now : ℕ) → (collects ≡ false → IsByRef at → ⊥) → TellsAbsent collects at id now
base-absent collects (At.Branch name) id now never = record { why = R.Missing (Snapshot id); told = refl; plain = missing-plain collects (Snapshot id) (λ none. never none tt) }
base-absent collects (At.Tag name) id now never = record { why = R.Missing (Snapshot id); told = refl; plain = missing-plain collects (Snapshot id) (λ none. never none tt) }
base-absent collects (At.Snapshot own) id now never = record { why = R.NoRef; told = refl; plain = refl }

module _ (client : Client) (ids : AnyIds) where
  -- the journal is known, and no node has an id that the client may draw
  pub record Begins (journal : List Event) : Type 0 where
    pub before : Before client ids journal
    pub nodes : NodesAreNew ids journal

  module _ (known : AreIts client ids) (a : Asked) (a_ids : a.ids ≡ ids) where
    begins-others : (journal more : List Event) → Each (OfOthers client ids) journal more → Begins journal → Begins (journal ++ more)
    begins-others journal more others b = record { before = before-others client ids ids known journal more others b.before; nodes = nodes-others client ids journal more others b.nodes }

    gets-no-snapshot : (key : Key) → ¬ PutsSnapshot (Get key)
    gets-no-snapshot key p = p

    begins-got : (journal : List Event) (event : Event) (key : Key) → OfOwn client ids journal event → event.op ≡ Get key → Begins journal → Begins (journal ++ event ∷ [])
    begins-got journal event key own is b = record { before = before-got client ids ids known journal event key own is b.before; nodes = own.nodes (λ p. gets-no-snapshot key (subst PutsSnapshot is p)) b.nodes }

    -- ---- the session
    abbrev pub Opens : Result SessionState Refusal → List Event → Type 0
    Opens (Ok s) h = KnowsSession client ids s h
    Opens (Err why) h = is_strange client.collects why ≡ false

    -- the session that begins at this snapshot, got in this journal
    begun-held : (named : Named) (journal : List Event) (event : Event) (st : Stored) (snap : SnapshotFile) → IsTip journal named.id (tip_in (origin_for a named)) → Begins journal → OfOwn client ids journal event → event.op ≡ Get (Snapshot named.id) → found journal (Snapshot named.id) ≡ Some st → snapshot_by named.id st.bytes ≡ Some snap
        → KnowsSession client ids (begun a named snap) (journal ++ event ∷ [])
    begun-held named journal event st snap tip b own is at read =
        let s : SessionState = begun a named snap in
        let good = Each-one IsGood journal event own.tidy.good in
        let slot = sound journal (Snapshot named.id) in
        let put : WasPut journal (Snapshot named.id) = slot.first st at in
        let last : last_put journal (Snapshot named.id) ≡ Some st.bytes = slot.last st at in
        let rows : rows_of journal named.id ≡ Some snap.nodes = ap (λ (o : Option (List ℕ)). option_map (λ (x : SnapshotFile). x.nodes) (snap_in named.id o)) last ∙ ap (option_map (λ (x : SnapshotFile). x.nodes)) read in
        record {
          before = subst (λ (x : AnyIds). Before client x (journal ++ event ∷ [])) (sym a_ids) (begins-got journal event (Snapshot named.id) own is b).before;
          known = subst (AreIts client) (sym a_ids) known;
          goes = begun-goes ids s a_ids refl;
          own = λ p m f. b.nodes named.id (tree_under (puts_of journal) snap.nodes) p m (tree-by_rows journal named.id snap.nodes rows) f;
          opened = record {
            named = IsTip-append journal (event ∷ []) named.id (tip_in (origin_for a named)) tip;
            put = WasPut-append journal (event ∷ []) (Snapshot named.id) put;
            had = record { version = st.version; bytes = st.bytes; stood = StoodAt-append journal (event ∷ []) (Snapshot named.id) st.version st.bytes (found-stood journal (Snapshot named.id) st at); snap = snap; read = read; rows_are = refl };
            rows = λ once. rows-kept journal (event ∷ []) named.id snap.nodes put good (λ before. rows) once;
            objects = λ node i id offset size e. absurd cc;
            chunks = λ once node i place e. absurd cc;
          };
        }

    -- what follows the get of the snapshot
    abbrev after_base : Named → Result SnapshotFile Refusal → Program SessionState
    after_base named = on_answer (λ snap. Done (Ok (begun a named snap)))

    base-meets : (named : Named) (journal : List Event) → Begins journal → Names a.at named journal → Meets Opens (beside client ids) (base_program a named) journal
    base-meets named journal b n = ask-meets Opens (beside client ids) (Get (Snapshot named.id)) (λ reply. after_base named (base_told a.at named.id reply)) journal (λ more event others own is.
        let mid = begins-others journal more others b in
        let there = names-more a.at named journal more n in
        got-meets Opens (beside client ids) (λ reply. after_base named (base_told a.at named.id reply)) (journal ++ more) event own.tidy.good ((journal ++ more) ++ event ∷ []) (Snapshot named.id) is
        (λ s at. let can = stands-readable named.id (journal ++ more) s mid.before.tidy at in
        subst (λ (r : Result SnapshotFile Refusal). Meets Opens (beside client ids) (after_base named r) ((journal ++ more) ++ event ∷ [])) (sym (base-found a.at named.id s.bytes (version_at s.version) event.time can.0 (was-read (read_snapshot named.id s.bytes) can.0 can.1)))
        (done-meets Opens (beside client ids) (Ok (begun a named can.0)) ((journal ++ more) ++ event ∷ []) (begun-held named (journal ++ more) event s can.0 (there.tip a.writes) mid own is at can.1)))
        (λ gone.
        let absent = base-absent client.collects a.at named.id event.time (λ none by. put-stands (Snapshot named.id) tt (journal ++ more) (mid.before.so_far.stand none) (there.put by) gone) in
        subst (λ (r : Result SnapshotFile Refusal). Meets Opens (beside client ids) (after_base named r) ((journal ++ more) ++ event ∷ [])) (sym absent.told)
        (done-meets Opens (beside client ids) (Err absent.why) ((journal ++ more) ++ event ∷ []) absent.plain))
        (λ done.
        subst (λ (r : Result SnapshotFile Refusal). Meets Opens (beside client ids) (after_base named r) ((journal ++ more) ++ event ∷ [])) (sym (base-failed a.at named.id done))
        (done-meets Opens (beside client ids) (Err R.StoreFault) ((journal ++ more) ++ event ∷ []) refl)))

    -- an opening is never refused so
    pub open-meets : (journal : List Event) → Begins journal → Meets Opens (beside client ids) (open_program a) journal
    open-meets journal b =
        then-meets (Resolves client ids Begins begins-others begins-got (λ h k. k.before.tidy) a.at) Opens (beside client ids) (resolve_at_program a.at) (base_program a) journal
        (resolve-meets client ids Begins begins-others begins-got (λ h k. k.before.tidy) a.at journal b)
        (λ named h q. base-meets named h q.0 q.1) (λ why h p. p)
