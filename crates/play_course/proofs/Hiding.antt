-- No task of a run over an empty store ends by a log that hides a node: what its outcome tells of the journal says so.
use Rattle.std.proofs.Common.{◌≡◌, inl, inr, ℕ, Bool, true, false, cond, List, [], ◌∷◌, ◌++◌, refl, sym, ◌∙◌, ap, subst, append_assoc}
use Rattle.std.specs.Prelude.{Option, Some, None, Result, Ok, Err}
use Rattle.std.specs.FinMap.{get}
use Rattle.ice_ids.specs.declared.Id8.{Id8}
use Rattle.ice_ids.specs.declared.Id12.{Id12}
use Rattle.ice_ids.specs.declared.drawing.AnyIds.{AnyIds}
use Rattle.ice_ids.specs.Text.{same_id12}
use Rattle.ice_ids.specs.Drawing.{drawn12}
use Rattle.zarr_path.specs.declared.keys.ZarrKey.{ZarrKey}
use Rattle.zarr_path.specs.declared.keys.ZarrKey.TheVariants as zarr
use Rattle.zarr_path.specs.Keys.{key_of}
use Rattle.flat_tables.specs.declared.fault.FileFault.{FileFault}
use Rattle.txn_file.specs.declared.log.TxnFile.{TxnFile}
use Rattle.txn_file.specs.Logs.{txn_of}
use Rattle.repo_objects.specs.declared.bad_objects.Bad.{Bad}
use Rattle.repo_objects.specs.declared.bad_objects.Bad.TheVariants.{Unlisted, WrongId}
use Rattle.repo_objects.specs.Readings.{◌>>=◌, in_file, under, read_log}
use Rattle.conflicts.specs.declared.solving.Policy.{Policy}
use Rattle.object_store.specs.declared.keys.Key.{Key}
use Rattle.object_store.specs.declared.keys.Key.TheVariants.{Snapshot, Txn}
use Rattle.object_store.specs.declared.keys.Why.{Why}
use Rattle.object_store.specs.declared.events.Op.{Op}
use Rattle.object_store.specs.declared.events.Op.TheVariants.{PutNew}
use Rattle.object_store.specs.declared.events.Event.{Event}
use Rattle.object_store.proofs.Journals.{Each-append, Each-back, Each-weaker}
use Rattle.store_api.specs.declared.machines.Refusal.{Refusal}
use Rattle.store_api.specs.declared.machines.Refusal.TheVariants as R
use Rattle.store_api.specs.Journal.{Each, IsGood, IsGoodJournal}
use Rattle.store_api.specs.Telling.{IsGet}
use Rattle.repo_read.specs.declared.resolving.At.{At}
use Rattle.repo_read.specs.Naming as named
use Rattle.session.specs.Sessions.{SessionState, nodes_seen}
use Rattle.session.specs.Editing.{prop_added}
use Rattle.commit_path.specs.Answered.{CommitTells}
use Rattle.commit_path.specs.Opened.{RefusalTells}
use Rattle.commit_path.specs.Single.{HasPutAlike, PutsAlike}
use Rattle.commit_path.proofs.Knowing.{IsOpened-append}
use Rattle.rebase.specs.Telling.{RebaseSays, WasHidden}
use Rattle.rebase.proofs.Kept.{hidden-append}
use Rattle.leases.specs.declared.witness.Witness.{Witness}
use Rattle.leases.specs.Plays.{witness_of, lease_with}
use Rattle.leases.specs.Starting.{lease_of}
use Rattle.leases.specs.Telling.{LeaseTells, PlacedTells, UnplacedTells}
use Rattle.zarr_keys.specs.Keys.{put_over}
use Rattle.region_calls.specs.ChunkTold.{SetTells, GetTells}
use Rattle.script_calls.specs.declared.calls.Call.{Call}
use Rattle.script_calls.specs.declared.calls.Call.TheVariants.{Edit, Read, Commit, Ref, Prop, Lease}
use Rattle.script_calls.specs.declared.calls.EditCall.{EditCall}
use Rattle.script_calls.specs.declared.calls.EditCall.TheVariants.{Set as Set_call, Fill, Put, KeySet}
use Rattle.script_calls.specs.declared.calls.ReadCall.{ReadCall}
use Rattle.script_calls.specs.declared.calls.ReadCall.TheVariants.{List as List_call, Get as Get_call, Chunk as Chunk_call, Cells, KeyGet}
use Rattle.script_calls.specs.declared.calls.Access.{Access}
use Rattle.script_calls.specs.declared.calls.Head.TheVariants.{Session}
use Rattle.play_script.specs.declared.scripts.Line.{Line}
use Rattle.play_script.specs.declared.scripts.Task.{Task}
use Rattle.play_outcome.specs.declared.outcome.Shown.{Shown}
use Rattle.play_outcome.specs.declared.outcome.End.{End}
use Rattle.play_outcome.specs.declared.outcome.End.TheVariants as E
use Rattle.play_outcome.specs.declared.outcome.Outcome.{Outcome}
use Rattle.play_tasks.specs.Lines.{LineDeed, Goes, Sets, Reads, Puts, Gathers, Leases, Commits, deed, edit_deed, read_deed, edits_to, read_by, silent, still, key_set_deed, key_get_deed}
use Rattle.play_tasks.specs.Playing.{asked_by, policy_of}
use Rattle.play_tasks.specs.Solving.{PlaysAll}
use Rattle.play_tasks.specs.Bases.{MadeAlone}
use Rattle.play_tasks.specs.Played.{IsGetOrRelease}
use Rattle.play_tasks.specs.Telling.{TellsOfChunks, Refuses, RefusesLease, WasTriedAt, EndsAt, SessionTells}
use Rattle.play_tasks.proofs.Early.{WasBegun-more}
use Rattle.play_tasks.proofs.Going.{PlaysAll-append}
use Rattle.play_tasks.proofs.Tried.{WasCarried-append}
use Rattle.run_histories.specs.Told.{HasLost}
use Rattle.play_course.specs.Refusing.{is_strange, strange_end}
use Rattle.play_course.proofs.Reading.{edit-plain}
use Rattle.play_course.proofs.Rebasing.{SaysHidden}
use Rattle.play_course.proofs.Tasks.{IsPlain, EndsFine, refused_as, put-plain, edited-plain, read-plain, prop-plain}

-- ---- lines that are refused without an operation
silent-plain : (r : Result SessionState Refusal) → IsPlain r → IsPlain (silent r)
silent-plain (Ok s) p why e = cc
silent-plain (Err own) p why e = let same : own ≡ why = cc in subst (λ (w : Refusal). is_strange false w ≡ false) same (p own refl)

still-plain : (s : SessionState) (r : Result (List Shown) Refusal) → IsPlain r → IsPlain (still s r)
still-plain s (Ok shown) p why e = cc
still-plain s (Err own) p why e = let same : own ≡ why = cc in subst (λ (w : Refusal). is_strange false w ≡ false) same (p own refl)

-- no refusal of the line is strange
abbrev DeedIsPlain : LineDeed → Type 0
DeedIsPlain (Goes r) = IsPlain r
DeedIsPlain (Sets path index bytes) = Unit {0}
DeedIsPlain (Reads path index show) = Unit {0}
DeedIsPlain (Puts path from to numbers) = Unit {0}
DeedIsPlain (Gathers path from to show) = Unit {0}
DeedIsPlain (Leases show) = Unit {0}
DeedIsPlain (Commits message) = Unit {0}

key-set-plain : (bytes : List ℕ) (o : Option ZarrKey) (s : SessionState) → DeedIsPlain (key_set_deed bytes o s)
key-set-plain bytes None s = λ why e. refused_as why R.BadKey refl e
key-set-plain bytes (Some (zarr.Meta path)) s = silent-plain (put_over (get (nodes_seen s) path) s path bytes) (put-plain (get (nodes_seen s) path) s path bytes)
key-set-plain bytes (Some (zarr.Chunk path index)) s = tt

key-get-plain : (line : ℕ) (o : Option ZarrKey) (s : SessionState) → DeedIsPlain (key_get_deed line o s)
key-get-plain line None s = λ why e. refused_as why R.BadKey refl e
key-get-plain line (Some (zarr.Meta path)) s = λ why e. cc
key-get-plain line (Some (zarr.Chunk path index)) s = tt

edit-deed-plain : (edit : EditCall) (s : SessionState) → DeedIsPlain (edit_deed edit s)
edit-deed-plain (Put place numbers) s = tt
edit-deed-plain (KeySet key bytes) s = key-set-plain bytes (key_of key) s
edit-deed-plain (Set_call path index bytes) s = tt
edit-deed-plain (Fill path index byte) s = tt
edit-deed-plain edit s = silent-plain (edits_to edit s) (edited-plain edit s)

read-deed-plain : (line : ℕ) (look : ReadCall) (s : SessionState) → DeedIsPlain (read_deed line look s)
read-deed-plain line (List_call path) s = still-plain s (read_by line (List_call path) s) (read-plain line (List_call path) s)
read-deed-plain line (Get_call path) s = still-plain s (read_by line (Get_call path) s) (read-plain line (Get_call path) s)
read-deed-plain line (Chunk_call path index) s = tt
read-deed-plain line (Cells place) s = tt
read-deed-plain line (KeyGet key) s = key-get-plain line (key_of key) s

deed-plain : (line : ℕ) (made : Call) (s : SessionState) → DeedIsPlain (deed line made s)
deed-plain line (Edit edit) s = edit-deed-plain edit s
deed-plain line (Read look) s = read-deed-plain line look s
deed-plain line (Commit message) s = tt
deed-plain line (Ref call) s = λ why e. cc
deed-plain line Lease s = tt
deed-plain line (Prop name value) s = silent-plain (prop_added s name value) (prop-plain s name value)

-- ---- logs
-- no reading of a log says that it hides a node
log-listed : (id : Id12) (bytes : List ℕ) (node : Id8) → ◌≡◌ {A = Result TxnFile Bad} (read_log id bytes) (Err (Unlisted node)) → ⊥
unfolding read_log
log-listed id bytes node e = by_file (txn_of bytes) e
  where
    by_id : (log : TxnFile) (b : Bool) → ◌≡◌ {A = Result TxnFile Bad} (cond b (Ok log) (Err (WrongId log.id))) (Err (Unlisted node)) → ⊥
    by_id log true f = absurd cc
    by_id log false f = absurd cc

    by_file : (r : Result TxnFile FileFault) → ◌≡◌ {A = Result TxnFile Bad} (in_file r >>= λ log. under id log.id log) (Err (Unlisted node)) → ⊥
    by_file (Ok log) f = by_id log (same_id12 log.id id) f
    by_file (Err fault) f = absurd cc

-- ---- outcomes
-- no log hides a node from a session of a task that lost a commit
abbrev pub NeverHides : AnyIds → Task → ℕ → (start journal : List Event) → Type 0
NeverHides ids task client start journal =
    (lost : SessionState) (since : List Event) (key : Key) (bad : Bad) (l : HasLost ids task client start lost since journal) → ¬ WasHidden client (policy_of l.was_played.access) lost key bad since journal

-- neither a get nor a release puts anything
puts-none : (op : Op) → IsGetOrRelease op → (key : Key) (bytes : List ℕ) (why : Why) → op ≡ PutNew key bytes why → ⊥
puts-none op (inl get) key bytes why put = absurd (subst IsGet put get)
puts-none op (inr r) key bytes why put = let both = sym put ∙ r.1 in absurd cc

module _ (ids : AnyIds) (task : Task) (client : ℕ) (start ended more : List Event) (good : Each IsGood ended more) (each : Each (λ before event. event.client ≡ client → IsGetOrRelease event.op) ended more) where
  -- releases put no snapshot
  alike-more : (s : SessionState) → HasPutAlike client s start ended → HasPutAlike client s start (ended ++ more)
  alike-more s a =
      let released : Each (PutsAlike client s) ended more =
      Each-weaker (λ before event. event.client ≡ client → IsGetOrRelease event.op) (PutsAlike client s) (λ before event alone mine id bytes why put. absurd (puts-none event.op (alone mine) (Snapshot id) bytes why put)) ended more each in
      record {
        more = a.more ++ more;
        is = ap (λ (h : List Event). h ++ more) a.is ∙ append_assoc start a.more more;
        each = Each-append (PutsAlike client s) start a.more more a.each (subst (λ (h : List Event). Each (PutsAlike client s) h more) a.is released);
      }

  lost-more : (lost : SessionState) (since : List Event) → HasLost ids task client start lost since ended → HasLost ids task client start lost since (ended ++ more)
  lost-more lost since l =
      let p = l.was_played in
      record {
        session = l.session;
        was_played = record {
          access = p.access;
          head_is = p.head_is;
          opened = p.opened;
          begun = WasBegun-more client (asked_by p.access ids) p.opened start ended more p.begun;
          early = p.early;
          read = IsOpened-append p.opened ended more good p.read;
          played = p.played;
          left = p.left;
          body = p.body;
          shown = p.shown;
          plays = PlaysAll-append client p.played p.opened start p.shown l.session ended more good p.plays;
        };
        count = l.count;
        at_last = l.at_last;
        carried = WasCarried-append client (policy_of p.access) l.count l.session l.at_last start ended more l.carried;
        was_lost = l.was_lost;
        alike = alike-more lost l.alike;
      }

  hides-before : NeverHides ids task client start (ended ++ more) → NeverHides ids task client start ended
  unfolding lost-more
  hides-before never lost since key bad l hidden = never lost since key bad (lost-more lost since l) (hidden-append client since ended more (policy_of l.was_played.access) lost key bad hidden)

-- so it was before the releases
pub earlier-hides : (ids : AnyIds) (task : Task) (client : ℕ) (start ended journal : List Event) → IsGoodJournal journal → MadeAlone IsGetOrRelease client ended journal → NeverHides ids task client start journal → NeverHides ids task client start ended
earlier-hides ids task client start ended journal good made never =
    let behind = (Each-back IsGood [] ended made.more (subst IsGoodJournal made.is good)).1 in
    hides-before ids task client start ended made.more behind made.each (subst (NeverHides ids task client start) made.is never)

same-why : (end : End) (line other : ℕ) (why own : Refusal) → end ≡ E.Refused line why → end ≡ E.Refused other own → own ≡ why
same-why end line other why own e f = let both = sym e ∙ f in cc

not-strange : (why : Refusal) → SaysHidden why → is_strange false why ≡ false → ⊥
not-strange why h p = let both = sym (ap (is_strange false) h.is) ∙ p in absurd cc

-- no ref is a log
log-no-ref : (at : At) (id : Id12) → Txn id ≡ named.key_of at → ⊥
log-no-ref (At.Branch name) id e = cc
log-no-ref (At.Tag name) id e = cc
log-no-ref (At.Snapshot own) id e = cc

module _ (ids : AnyIds) (task : Task) (client : ℕ) (start journal : List Event) (never : NeverHides ids task client start journal) (access : Access) (head_is : task.head ≡ Session access) where
  not-opened : (why : Refusal) → SaysHidden why → RefusalTells client (asked_by access ids) start why journal → ⊥
  not-opened why h t = elim (subst (λ (w : Refusal). RefusalTells client (asked_by access ids) start w journal) h.is t).0 [
    | inl w ↦ log-no-ref (asked_by access ids).at h.at w.key_is
    | inr w ↦ let k = w.unread.key_is in absurd cc
  ]

  -- no lease is refused so
  lease-unhidden : (s : SessionState) (why : Refusal) → SaysHidden why → lease_of s ≡ Err why → ⊥
  lease-unhidden s why h = by_parts (witness_of s.origin) (drawn12 s.ids)
    where
      by_parts : (w : Option Witness) (o : Option Id12) → lease_with w o s.base ≡ Err why → ⊥
      by_parts None o e = not-strange why h (refused_as why R.Unnamed refl e)
      by_parts (Some w) None e = not-strange why h (refused_as why R.IdsSpent refl e)
      by_parts (Some w) (Some id) e = absurd cc

  leased-unhidden : (id base : Id12) (w : Witness) (since : List Event) (placed : Option Id12) (why : Refusal) → SaysHidden why → LeaseTells client id base w since (record { placed = placed; result = Err why }) journal → ⊥
  leased-unhidden id base w since None why h t = subst (λ (x : Refusal). UnplacedTells client id base since (Err x) journal) h.is t
  leased-unhidden id base w since (Some own) why h t = subst (λ (x : Refusal). PlacedTells client id base w since (Err x) journal) h.is t.1

  lease-refused : (show : Id12 → Shown) (s : SessionState) (last : List Shown) (why : Refusal) → SaysHidden why → RefusesLease client show s start last why journal → ⊥
  lease-refused show s last why h (inl t) = lease-unhidden s why h t.0
  lease-refused show s last why h (inr t) = leased-unhidden t.id s.base t.witness (start ++ t.since) t.placed why h t.tells

  not-refused : (d : LineDeed) (s : SessionState) (last : List Shown) (why : Refusal) → SaysHidden why → DeedIsPlain d → Refuses client d s start last why journal → ⊥
  not-refused (Goes r) s last why h p t = not-strange why h (p why t.0)
  not-refused (Sets path index bytes) s last why h p t =
      let f = (subst (λ (w : Refusal). SetTells client s path index bytes start (Err w) journal) h.is t).0 in
      let both = ap (is_strange false) f.2 ∙ edit-plain f.0 in
      absurd cc
  not-refused (Reads path index show) s last why h p t = (subst (λ (w : Refusal). GetTells client s path index start (Err w) journal) h.is t).0.unfit
  not-refused (Puts path from to numbers) s last why h p t = subst TellsOfChunks h.is t.1
  not-refused (Gathers path from to show) s last why h p t = subst TellsOfChunks h.is t.1
  not-refused (Leases show) s last why h p t = lease-refused show s last why h t.0
  not-refused (Commits message) s last why h p t = absurd t

  not-committed : (s : SessionState) (message : List ℕ) (why : Refusal) → SaysHidden why → CommitTells client s message start (Err why) journal → ⊥
  not-committed s message why h t = let w = (subst (λ (x : Refusal). CommitTells client s message start (Err x) journal) h.is t).0 in let k = w.key_is in absurd cc

  -- a rebase is refused so by a log that hides a node alone
  says-hidden : (policy : Policy) (lost : SessionState) (since : List Event) (why : Refusal) → (h : SaysHidden why) → RebaseSays client policy lost since (Err why) journal → WasHidden client policy lost (Txn h.at) (Unlisted h.node) since journal
  says-hidden policy lost since why h t = elim (subst (λ (w : Refusal). RebaseSays client policy lost since (Err w) journal) h.is t) [
    | inl w ↦ let k = w.key_is in absurd cc
    | inr r ↦ elim r [
      | inl w ↦ let k = w.cause.key_is in absurd cc
      | inr q ↦ elim q [
        | inl w ↦ absurd (log-listed w.next.id w.bytes h.node w.unread)
        | inr w ↦ w
      ]
    ]
  ]

  module _ (outcome : Outcome) (line : ℕ) (why : Refusal) (end : outcome.end ≡ E.Refused line why) (h : SaysHidden why) where
    abbrev says : (other : ℕ) (own : Refusal) → outcome.end ≡ E.Refused other own → SaysHidden own
    says other own e = let same = same-why outcome.end line other why own end e in record { at = h.at; node = h.node; is = same ∙ h.is }

    never-told : SessionTells ids access task client start outcome journal → ⊥
    never-told (inl t) = not-opened t.why (says task.line t.why t.end_is) t.tells
    never-told (inr t) = by_left t.left refl t.ends
      where
        -- a commit that was tried
        tried : (l : Line) (s : SessionState) → PlaysAll client t.played t.opened start t.shown s journal → WasTriedAt client access l s start t.last outcome.end journal → ⊥
        tried l s plays w = elim w.ends [
          | inl c ↦ let both = sym end ∙ c.end_is in absurd cc
          | inr (inl c) ↦ let both = sym end ∙ c.end_is in absurd cc
          | inr (inr a) ↦ elim a [
            | inl c ↦ not-committed w.at_last w.message c.why (says l.number c.why c.end_is) c.tells
            | inr b ↦ elim b [
              | inl c ↦ not-strange (R.LostRace c.old c.found) (says l.number (R.LostRace c.old c.found) c.end_is) refl
              | inr n ↦
                  let own = says l.number n.why n.end_is in
                  never n.lost (start ++ n.since) (Txn own.at) (Unlisted own.node)
                  (record {
                    session = s;
                    was_played = record { access = access; head_is = head_is; opened = t.opened; begun = t.begun; early = t.early; read = t.read; played = t.played; left = t.left; body = t.body; shown = t.shown; plays = plays };
                    count = w.count;
                    at_last = w.at_last;
                    carried = w.carried;
                    was_lost = n.was_lost;
                    alike = n.alike;
                  })
                  (says-hidden (policy_of access) n.lost (start ++ n.since) n.why own n.tells.0)
            ]
          ]
        ]

        by_left : (left : List Line) → t.left ≡ left → EndsAt client access left t.session start t.last outcome.end journal → ⊥
        by_left [] e w = let both = sym end ∙ w.0 in absurd cc
        by_left (l ∷ ls) e w = elim w [
          | inl r ↦ not-refused (deed l.number l.call t.session) t.session t.last r.why (says l.number r.why r.end_is) (deed-plain l.number l.call t.session) r.refuses
          | inr a ↦ elim a [
            | inl r ↦ not-strange R.NoMemory (says l.number R.NoMemory r.end_is) refl
            | inr r ↦ tried l t.session t.plays r
          ]
        ]

  -- so no refusal of it is strange
  pub told-plain : (collects : Bool) (outcome : Outcome) → SessionTells ids access task client start outcome journal → EndsFine collects outcome.end → strange_end collects outcome.end ≡ false
  told-plain collects outcome t fine = by_end outcome.end refl fine
    where
      by_end : (end : End) → outcome.end ≡ end → EndsFine collects end → strange_end collects end ≡ false
      by_end (E.Committed id) e f = refl
      by_end (E.Collected removed) e f = refl
      by_end E.Done e f = refl
      by_end (E.Stopped line why removed) e plain = plain
      by_end (E.InDoubt id how) e plain = plain
      by_end (E.Expired line cases result) e plain = plain
      by_end (E.Checked line faults result) e plain = plain
      by_end (E.Refused line why) e (inl plain) = plain
      by_end (E.Refused line why) e (inr h) = absurd (never-told outcome line why e h t)
