-- Whatever others do, each operation of a task is minded, and its outcome tells the journal.
use Rattle.std.proofs.Common.{◌≡◌, inl, inr, ℕ, ℤ, ◌<◌, refl, sym, ap, subst, ◌∙◌, true, List, [], ◌∷◌, ◌++◌, append-nil, zero-add, arith, Result, Ok, Err}
use Rattle.std.specs.Prelude.{All, Option, Some, None, IfOk, nat_lt}
use Rattle.std.specs.List.{list_all}
use Rattle.std.proofs.lemmas.List.Elements.{All-nil, All-cons, All-head, All-tail, All-replicate}
use Rattle.std.specs.Str.{IsUtf8}
use Rattle.std.proofs.lemmas.Str.{IsUtf8-from_is_utf8}
use Rattle.ice_ids.specs.declared.Id12.{Id12}
use Rattle.ice_ids.specs.declared.drawing.AnyIds.{AnyIds}
use Rattle.ice_base.specs.Lists.{IsBytes}
use Rattle.zarr_path.specs.declared.keys.ZarrKey.{ZarrKey}
use Rattle.zarr_path.specs.declared.keys.ZarrKey.TheVariants as zarr
use Rattle.zarr_path.specs.Keys.{key_of}
use Rattle.file_fields.proofs.Bytes.{bytes_pass}
use Rattle.object_store.specs.declared.events.Event.{Event}
use Rattle.object_store.specs.declared.events.Op.{Op}
use Rattle.store_api.specs.declared.machines.Refusal.{Refusal}
use Rattle.store_api.specs.declared.machines.Refusal.TheVariants.{NoMemory}
use Rattle.store_api.specs.Callers.{Caller}
use Rattle.store_api.specs.Journal.{Each, IsGood, IsPolite}
use Rattle.store_api.specs.Plays.{Play, PlayKeeps, PlayLeads}
use Rattle.store_api.proofs.PlayLaws.{PlayKeeps-call, PlayKeeps-weaker, PlayLeads-call}
use Rattle.session.specs.declared.chunks.Value.{Value}
use Rattle.session.specs.Sessions.{SessionState}
use Rattle.session.specs.Sources.{IsLater}
use Rattle.session.specs.Opening.{open_program}
use Rattle.session.specs.Chunks.{after_draw, set_program, get_program, filled}
use Rattle.commit_path.specs.Owed.{Sessions, IsCareful}
use Rattle.store_api.specs.Telling.{ChangedNothing}
use Rattle.commit_path.specs.Own.{HasPutDrawn, OwesOwn, Owns}
use Rattle.commit_path.proofs.OwnPuts.{HasPutDrawn-none}
use Rattle.commit_path.specs.Opened.{IsOpened, WasBegun, OpeningTells}
use Rattle.commit_path.specs.Single.{HasPutNone}
use Rattle.commit_path.specs.Spelled.{IsSpelled}
use Rattle.store_api.proofs.Happening.{ChangedNothing-none}
use Rattle.commit_path.proofs.Singling.{HasPutNone-none, none-alike}
use Rattle.commit_path.proofs.Sources.{later-same}
use Rattle.region_calls.specs.ChunkTold.{SetTells, GetTells}
use Rattle.region_calls.proofs.ChunkGets.{gets-keep}
use Rattle.region_calls.proofs.OwnCalls.{got-owned}
use Rattle.array_region.specs.Reading.{region_program}
use Rattle.array_region.specs.Writing.{region_set_program}
use Rattle.region_calls.specs.Told.{RegionTells}
use Rattle.region_calls.specs.Written.{RegionSetTells}
use Rattle.region_calls.proofs.Gets.{region_gets}
use Rattle.region_calls.proofs.Leading.{gets_lead}
use Rattle.script_calls.specs.declared.calls.Call.{Call}
use Rattle.script_calls.specs.declared.calls.Call.TheVariants as call
use Rattle.script_calls.specs.declared.calls.EditCall.{EditCall}
use Rattle.script_calls.specs.declared.calls.EditCall.TheVariants as edit
use Rattle.script_calls.specs.declared.calls.ReadCall.{ReadCall}
use Rattle.script_calls.specs.declared.calls.ReadCall.TheVariants as read
use Rattle.script_calls.specs.declared.calls.Access.{Access}
use Rattle.script_calls.specs.declared.calls.Access.TheVariants as access
use Rattle.script_calls.specs.declared.calls.Head.{Head}
use Rattle.script_calls.specs.declared.calls.Head.TheVariants.{Session, Refs, Collect, Expire, Check}
use Rattle.play_script.specs.declared.scripts.Line.{Line}
use Rattle.play_script.specs.declared.scripts.Task.{Task}
use Rattle.play_script.specs.Well.{IsWellEdit, IsWellCall, IsWellLine, IsWellTask}
use Rattle.play_outcome.specs.declared.outcome.Shown.{Shown}
use Rattle.play_outcome.specs.declared.outcome.End.TheVariants.{Done, Refused}
use Rattle.play_outcome.specs.declared.outcome.Outcome.{Outcome}
use Rattle.play_tasks.specs.Lines.{LineDeed, Goes, Sets, Reads, Puts, Gathers, Leases, Commits, deed, edit_deed, read_deed, key_set_deed, key_get_deed, lease_shown, silent}
use Rattle.play_outcome.specs.Playing.{ended}
use Rattle.play_tasks.specs.Playing.{after_confirm, after_lease, lease_by, placed_shown, release_all, tries_of, policy_of, commit_play, play_deed, play_lines, after_line, after_open, shown_by, asked_by, session_play, headed_play, task_play}
use Rattle.play_tasks.specs.Solving.{DidLease, DidPlay, WasCarried, IsOfTask}
use Rattle.play_refs.specs.Playing.{refs_play}
use Rattle.play_refs.specs.Telling.{OwesRefs}
use Rattle.chunk_gc.specs.Exact.{IsOwed}
use Rattle.expiry.specs.Owing.{IsOwed as OwesExpiry}
use Rattle.play_collect.specs.Playing.{collect_task}
use Rattle.play_expire.specs.Playing.{terms_of, expire_task}
use Rattle.repo_check.specs.Exact.{IsRead}
use Rattle.play_check.specs.Playing.{check_task}
use Rattle.play_tasks.specs.Bases.{ComesOpen, OpensOrHasBase}
use Rattle.play_tasks.proofs.Basing.{session-opens}
use Rattle.play_tasks.proofs.Within.{IsSame}
use Rattle.play_tasks.proofs.Boxing.{By, AnyNumbers, MovesNone, none-gets, none-puts, gather-goes, put-box-goes, within-leads, stays-leads}
use Rattle.play_tasks.specs.Owing.{OwesBy, OwesOwnBy, IsDue, ComesBefore, BeforeChange}
use Rattle.play_tasks.specs.Telling.{Refuses, RefusesLease, IsSilent, SessionTells, WereReleased, TellsBy, TellsOutcome}
use Rattle.leases.proofs.Following.{PlayKeeps-followed, PlayLeads-followed}
use Rattle.repo_read.proofs.Own.{Since, Since-none}
use Rattle.ice_ids.specs.Drawing.{drawn12}
use Rattle.leases.specs.declared.lease.Leased.{Leased}
use Rattle.leases.specs.declared.witness.Witness.{Witness}
use Rattle.leases.specs.Plays.{lease_play, witness_of}
use Rattle.leases.specs.Starting.{lease_of}
use Rattle.leases.specs.Following.{followed}
use Rattle.leases.specs.Telling.{LeaseTells, WasLeased}
use Rattle.play_tasks.proofs.Drawn.{deed-drawn, lease-drawn, lease-shows}
use Rattle.play_tasks.proofs.LeaseWays.{lease-cases}
use Rattle.play_tasks.proofs.Leased.{Kept, drew-owns, drew-ready, lease-keeps, lease-minds}
use Rattle.play_tasks.proofs.Released.{PlayLeads-both, HasReleased, IsDrawnLease, PlayLeads-since, releases-keep, releases-lead}
use Rattle.play_outcome.proofs.Plays.{PlayLeads-weaker}
use Rattle.play_tasks.proofs.Carrying.{PlayKeeps-own, Minds, Keeps-minds, PlayKeeps-both, Leads-both, PlayLeads-carry, PlayKeeps-good, Leads-good, careful-more, puts-none}
use Rattle.play_tasks.proofs.Early.{put-none-before, WasBegun-more}
use Rattle.play_tasks.proofs.Going.{Laws, Ending, ends-showing, Came, Came-append, came-on, plays-none, one-more, DidPlay-append, GoesWell, ends-well, refused-well, starved-well, called-well, none-careful}
use Rattle.play_tasks.proofs.Ready.{IsReady, deed-ready}
use Rattle.play_tasks.proofs.Tried.{IsTried}
use Rattle.play_tasks.proofs.Trying.{tries-well}

-- ---- what a well line holds
key_bytes : (held : List ℕ) (o : Option ZarrKey) (s : SessionState) (path index bytes : List ℕ) → IsBytes held → key_set_deed held o s ≡ Sets path index bytes → list_all (λ n. nat_lt n 256) bytes ≡ true
key_bytes held None s path index bytes well d = absurd cc
key_bytes held (Some (zarr.Meta own)) s path index bytes well d = absurd cc
key_bytes held (Some (zarr.Chunk own place)) s path index bytes well d = let is : held ≡ bytes = cc in subst (λ (x : List ℕ). list_all (λ n. nat_lt n 256) x ≡ true) is (bytes_pass held well)

edit-bytes : (x : EditCall) (s : SessionState) (path index bytes : List ℕ) → IsWellEdit x → edit_deed x s ≡ Sets path index bytes → list_all (λ n. nat_lt n 256) bytes ≡ true
edit-bytes (edit.Set own place held) s path index bytes well d = let is : held ≡ bytes = cc in subst (λ (x : List ℕ). list_all (λ n. nat_lt n 256) x ≡ true) is (bytes_pass held well.2)
edit-bytes (edit.Fill own place byte) s path index bytes well d =
    let is : filled s own byte ≡ bytes = cc in subst (λ (x : List ℕ). list_all (λ n. nat_lt n 256) x ≡ true) is (bytes_pass (filled s own byte) (All-replicate (λ b. b < 256) _ byte well.2))
edit-bytes (edit.KeySet key held) s path index bytes well d = key_bytes held (key_of key) s path index bytes well.1 d
edit-bytes x s path index bytes well d = absurd cc

key-no-bytes : (line : ℕ) (o : Option ZarrKey) (s : SessionState) (path index bytes : List ℕ) → key_get_deed line o s ≡ Sets path index bytes → ⊥
key-no-bytes line None s path index bytes d = cc
key-no-bytes line (Some (zarr.Meta own)) s path index bytes d = cc
key-no-bytes line (Some (zarr.Chunk own place)) s path index bytes d = cc

reads-no-bytes : (line : ℕ) (x : ReadCall) (s : SessionState) (path index bytes : List ℕ) → read_deed line x s ≡ Sets path index bytes → ⊥
reads-no-bytes line (read.List own) s path index bytes d = cc
reads-no-bytes line (read.Get own) s path index bytes d = cc
reads-no-bytes line (read.Chunk own place) s path index bytes d = cc
reads-no-bytes line (read.Cells place) s path index bytes d = cc
reads-no-bytes line (read.KeyGet key) s path index bytes d = key-no-bytes line (key_of key) s path index bytes d

deed-bytes : (line : ℕ) (x : Call) (s : SessionState) (path index bytes : List ℕ) → IsWellCall x → deed line x s ≡ Sets path index bytes → list_all (λ n. nat_lt n 256) bytes ≡ true
deed-bytes line (call.Edit change) s path index bytes well d = edit-bytes change s path index bytes well d
deed-bytes line (call.Read look) s path index bytes well d = absurd (reads-no-bytes line look s path index bytes d)
deed-bytes line (call.Commit message) s path index bytes well d = absurd cc
deed-bytes line (call.Ref own) s path index bytes well d = absurd cc
deed-bytes line (call.Prop name value) s path index bytes well d = absurd cc
deed-bytes line call.Lease s path index bytes well d = absurd cc

key-set-no-message : (held : List ℕ) (o : Option ZarrKey) (s : SessionState) (message : List ℕ) → key_set_deed held o s ≡ Commits message → ⊥
key-set-no-message held None s message d = cc
key-set-no-message held (Some (zarr.Meta own)) s message d = cc
key-set-no-message held (Some (zarr.Chunk own place)) s message d = cc

edits-no-message : (x : EditCall) (s : SessionState) (message : List ℕ) → edit_deed x s ≡ Commits message → ⊥
edits-no-message (edit.KeySet key held) s message d = key-set-no-message held (key_of key) s message d
edits-no-message x s message d = cc

key-get-no-message : (line : ℕ) (o : Option ZarrKey) (s : SessionState) (message : List ℕ) → key_get_deed line o s ≡ Commits message → ⊥
key-get-no-message line None s message d = cc
key-get-no-message line (Some (zarr.Meta own)) s message d = cc
key-get-no-message line (Some (zarr.Chunk own place)) s message d = cc

reads-no-message : (line : ℕ) (x : ReadCall) (s : SessionState) (message : List ℕ) → read_deed line x s ≡ Commits message → ⊥
reads-no-message line (read.List own) s message d = cc
reads-no-message line (read.Get own) s message d = cc
reads-no-message line (read.Chunk own place) s message d = cc
reads-no-message line (read.Cells place) s message d = cc
reads-no-message line (read.KeyGet key) s message d = key-get-no-message line (key_of key) s message d

deed-utf8 : (line : ℕ) (x : Call) (s : SessionState) (message : List ℕ) → IsWellCall x → deed line x s ≡ Commits message → IsUtf8 message
deed-utf8 line (call.Edit change) s message well d = absurd (edits-no-message change s message d)
deed-utf8 line (call.Read look) s message well d = absurd (reads-no-message line look s message d)
deed-utf8 line (call.Ref own) s message well d = absurd cc
deed-utf8 line (call.Prop name value) s message well d = absurd cc
deed-utf8 line call.Lease s message well d = absurd cc
deed-utf8 line (call.Commit own) s message well d = let is : own ≡ message = cc in subst IsUtf8 is (IsUtf8-from_is_utf8 own well)

module _ (L : Laws) (by : Caller) (ids : AnyIds) (access : Access) (body : List Line) (opened : SessionState) (start : List Event) where
  abbrev Tried : Sessions
  Tried = IsTried body opened by.number access start

  abbrev Nothing : List Event → Type 0
  Nothing = ChangedNothing by.number start

  abbrev PutNone : List Event → Type 0
  PutNone = HasPutNone by.number start

  abbrev Well : List Line → SessionState → List Shown → Play Outcome → List Event → Type 0
  Well ls s shown p journal = GoesWell by ids access Tried start ls s shown p journal

  refused : (l : Line) (ls : List Line) (s : SessionState) (shown : List Shown) (why : Refusal) (journal : List Event) → Refuses by.number (deed l.number l.call s) s start [] why journal → IsSilent (deed l.number l.call s) [] → Well (l ∷ ls) s shown (ended shown (Refused l.number why)) journal
  refused l ls s shown why journal r quiet = refused-well by ids access Tried start l ls s shown why journal r quiet

  starved : (l : Line) (ls : List Line) (s : SessionState) (shown : List Shown) (journal : List Event) → Nothing journal → Well (l ∷ ls) s shown (ended shown (Refused l.number NoMemory)) journal
  starved l ls s shown journal c = starved-well by ids access Tried start l ls s shown journal c

  -- these lines are left of the body, and those before them led to the session
  abbrev At : List Line → SessionState → List Event → Type 0
  At ls s journal = Came by.number body opened start ls s journal

  at-append : (ls : List Line) (s : SessionState) (journal more : List Event) → Each IsGood journal more → At ls s journal → At ls s (journal ++ more)
  at-append ls s journal more g c = Came-append by.number body opened start ls s journal more g c

  -- ---- the lines
  -- the lines that are left go well on any session that is ready, wherever the client has changed no branch and put no snapshot
  abbrev AllGoWell : List Line → Type 0
  AllGoWell ls = (journal : List Event) → Nothing journal → PutNone journal → (s : SessionState) (shown : List Shown) → IsReady ids by.number start s journal → At ls s journal → Well ls s shown (play_lines access ls s shown) journal

  -- a line was played, and the others behind it go well
  went-well : (l : Line) (ls : List Line) (s : SessionState) (shown first : List Shown) (mid : SessionState) (journal : List Event) → IsLater ids s.ids → DidPlay by.number (deed l.number l.call s) s start first mid journal → Well ls mid (shown ++ first) (play_lines access ls mid (shown ++ first)) journal
      → Well (l ∷ ls) s shown (play_lines access ls mid (shown ++ first)) journal
  went-well l ls s shown first mid journal later did rest =
      let Did : List Event → Type 0 = λ h. DidPlay by.number (deed l.number l.call s) s start first mid h in
      let p = play_lines access ls mid (shown ++ first) in (
        rest.0,
        PlayLeads-weaker (λ outcome h. Did h × Ending ids by.number access start ls mid (shown ++ first) outcome h) (Ending ids by.number access start (l ∷ ls) s shown) (λ outcome h x. one-more ids by.number access start l ls s mid shown first outcome h (deed-drawn ids by.number l.number l.call s start first mid h later x.0) x.0 x.1) by p journal
            (PlayLeads-carry Did (λ h more g d. DidPlay-append by.number (deed l.number l.call s) s start first mid h more g d) ids Tried start by p journal (Ending ids by.number access start ls mid (shown ++ first)) rest.0 did rest.1),
      )

  -- ---- a line that sets a chunk
  module _ (l : Line) (ls : List Line) (s : SessionState) (shown : List Shown) (path index bytes : List ℕ) (sets : deed l.number l.call s ≡ Sets path index bytes) (go : AllGoWell ls) (later : IsLater ids s.ids) where
    abbrev SetAnswers : Result SessionState Refusal → List Event → Type 0
    SetAnswers answer h = (SetTells by.number s path index bytes start answer h × IfOk answer (λ t. IsSpelled t × IsOpened t h × IsLater ids t.ids)) × (PutNone h × IfOk answer (λ t. Owns ids by.number t start h))

    set-answered : (answer : Result SessionState Refusal) (h : List Event) → At (l ∷ ls) s h × SetAnswers answer h → Well (l ∷ ls) s shown (after_line l.number shown (silent answer) (play_lines access ls)) h
    set-answered (Ok t) h q =
        let did = subst (λ (d : LineDeed). DidPlay by.number d s start [] t h) (sym sets) (refl, q.1.0.0.0) in
        went-well l ls s shown [] t h later did
        (go h q.1.0.0.1 q.1.1.0 t (shown ++ []) (record { opened = q.1.0.1.1; spelled = q.1.0.1.0; later = q.1.0.1.2; owned = q.1.1.1 }) (came-on by.number body opened start l ls s t [] h did q.0))
    set-answered (Err why) h q = refused l ls s shown why h (subst (λ (d : LineDeed). Refuses by.number d s start [] why h) (sym sets) q.1.0.0) (subst (λ (d : LineDeed). IsSilent d []) (sym sets) refl)

    set-well : (journal : List Event) → list_all (λ n. nat_lt n 256) bytes ≡ true → IsReady ids by.number start s journal → Nothing journal → PutNone journal → At (l ∷ ls) s journal → Well (l ∷ ls) s shown (play_deed access l.number shown s (Sets path index bytes) (play_lines access ls)) journal
    set-well journal are ready c f came =
        let law = L.set by ids s path index bytes start journal ready.later are ready.spelled ready.opened c in
        let owning = L.calls.sets by ids s path index bytes start journal ready.later ready.owned in
        let p = set_program s path index bytes in
        let careful = none-careful by ids Tried p journal law.0 in
        let told = Leads-both (λ answer h. SetTells by.number s path index bytes start answer h × IfOk answer (λ t. IsSpelled t × IsOpened t h × IsLater ids t.ids)) (λ answer h. PutNone h × IfOk answer (λ t. Owns ids by.number t start h)) by p journal law.3
        (Leads-both (λ answer h. PutNone h) (λ answer h. IfOk answer (λ t. Owns ids by.number t start h)) by p journal (puts-none by start p journal law.1 f) owning.1) in
        called-well by ids access Tried start (l ∷ ls) s shown p (λ answer. after_line l.number shown (silent answer) (play_lines access ls)) (λ answer h. At (l ∷ ls) s h × SetAnswers answer h) journal careful law.2 owning.0
        (Leads-good (At (l ∷ ls) s) (at-append (l ∷ ls) s) ids Tried by SetAnswers p journal careful came told) set-answered (λ h n. starved l ls s shown h n)

  -- ---- a line that reads a chunk
  module _ (l : Line) (ls : List Line) (s : SessionState) (shown : List Shown) (path index : List ℕ) (show : Value → Shown) (reads : deed l.number l.call s ≡ Reads path index show) (go : AllGoWell ls) (spelled : IsSpelled s) (later : IsLater ids s.ids) where
    abbrev GetAnswers : Result Value Refusal → List Event → Type 0
    GetAnswers answer h = (GetTells by.number s path index start answer h × IsOpened s h) × (PutNone h × Owns ids by.number s start h)

    get-answered : (answer : Result Value Refusal) (h : List Event) → At (l ∷ ls) s h × GetAnswers answer h → Well (l ∷ ls) s shown (after_line l.number shown (shown_by s show answer) (play_lines access ls)) h
    get-answered (Ok value) h q =
        let did = subst (λ (d : LineDeed). DidPlay by.number d s start (show value ∷ []) s h) (sym reads) (refl, value, refl, q.1.0.0.0) in
        went-well l ls s shown (show value ∷ []) s h later did
        (go h q.1.0.0.1 q.1.1.0 s (shown ++ show value ∷ []) (record { opened = q.1.0.1; spelled = spelled; later = later; owned = q.1.1.1 }) (came-on by.number body opened start l ls s s (show value ∷ []) h did q.0))
    get-answered (Err why) h q = refused l ls s shown why h (subst (λ (d : LineDeed). Refuses by.number d s start [] why h) (sym reads) q.1.0.0) (subst (λ (d : LineDeed). IsSilent d []) (sym reads) refl)

    get-well : (journal : List Event) → IsOpened s journal → Owns ids by.number s start journal → Nothing journal → PutNone journal → At (l ∷ ls) s journal → Well (l ∷ ls) s shown (play_deed access l.number shown s (Reads path index show) (play_lines access ls)) journal
    get-well journal ready owned c f came =
        let law = L.get by ids s path index start journal spelled ready c in
        let owning = L.calls.gets by ids s path index start journal owned in
        let p = get_program s path index in
        let careful = none-careful by ids Tried p journal law.0 in
        let told = Leads-both (λ answer h. GetTells by.number s path index start answer h × IsOpened s h) (λ answer h. PutNone h × Owns ids by.number s start h) by p journal law.3
        (Leads-both (λ answer h. PutNone h) (λ answer h. Owns ids by.number s start h) by p journal (puts-none by start p journal law.1 f) owning.1) in
        called-well by ids access Tried start (l ∷ ls) s shown p (λ answer. after_line l.number shown (shown_by s show answer) (play_lines access ls)) (λ answer h. At (l ∷ ls) s h × GetAnswers answer h) journal careful law.2 owning.0
        (Leads-good (At (l ∷ ls) s) (at-append (l ∷ ls) s) ids Tried by GetAnswers p journal careful came told) get-answered (λ h n. starved l ls s shown h n)

  -- ---- a line that puts numbers into a box
  module _ (l : Line) (ls : List Line) (s : SessionState) (shown : List Shown) (path from to : List ℕ) (numbers : List ℤ) (puts : deed l.number l.call s ≡ Puts path from to numbers) (go : AllGoWell ls) (later : IsLater ids s.ids) where
    abbrev PutTells : Result SessionState Refusal → List Event → Type 0
    PutTells answer h = RegionSetTells by.number s path from to numbers start answer h × IfOk answer (λ t. IsSpelled t × IsOpened t h × IsLater ids t.ids)

    abbrev PutKeeps : Result SessionState Refusal → List Event → Type 0
    PutKeeps answer h = PutNone h × IfOk answer (λ t. Owns ids by.number t start h)

    abbrev PutAnswers : Result SessionState Refusal → List Event → Type 0
    PutAnswers answer h = PutTells answer h × (By (IsSame s) answer × (Nothing h × PutKeeps answer h))

    put-answered : (answer : Result SessionState Refusal) (h : List Event) → At (l ∷ ls) s h × PutAnswers answer h → Well (l ∷ ls) s shown (after_line l.number shown (silent answer) (play_lines access ls)) h
    put-answered (Ok t) h q =
        let did = subst (λ (d : LineDeed). DidPlay by.number d s start [] t h) (sym puts) (refl, q.1.0.0.0) in
        went-well l ls s shown [] t h later did
        (go h q.1.1.1.0 q.1.1.1.1.0 t (shown ++ []) (record { opened = q.1.0.1.1; spelled = q.1.0.1.0; later = q.1.0.1.2; owned = q.1.1.1.1.1 }) (came-on by.number body opened start l ls s t [] h did q.0))
    put-answered (Err why) h q = refused l ls s shown why h (subst (λ (d : LineDeed). Refuses by.number d s start [] why h) (sym puts) (q.1.0.0, q.1.1.0, q.1.1.1.0)) (subst (λ (d : LineDeed). IsSilent d []) (sym puts) refl)

    put-well : (journal : List Event) → IsReady ids by.number start s journal → Nothing journal → PutNone journal → At (l ∷ ls) s journal → Well (l ∷ ls) s shown (play_deed access l.number shown s (Puts path from to numbers) (play_lines access ls)) journal
    put-well journal ready c f came =
        let law = L.put by ids s path from to numbers start journal ready.later ready.spelled ready.opened c in
        let owning = L.boxes by ids s path from to numbers start journal ready.later ready.owned in
        let p = region_set_program s path from to numbers in
        let careful = none-careful by ids Tried p journal law.0 in
        let goes = put-box-goes MovesNone none-gets none-puts s path from to numbers in
        let still = stays-leads Nothing (By (IsSame s)) by p journal c goes law.2 in
        let tells = within-leads MovesNone (By (IsSame s)) by p journal goes in
        let kept = Leads-both (λ answer h. PutNone h) (λ answer h. IfOk answer (λ t. Owns ids by.number t start h)) by p journal (puts-none by start p journal law.1 f) owning.1 in
        let told = Leads-both PutTells (λ answer h. By (IsSame s) answer × (Nothing h × PutKeeps answer h)) by p journal law.3
        (Leads-both (λ answer h. By (IsSame s) answer) (λ answer h. Nothing h × PutKeeps answer h) by p journal tells (Leads-both (λ answer h. Nothing h) PutKeeps by p journal still kept)) in
        called-well by ids access Tried start (l ∷ ls) s shown p (λ answer. after_line l.number shown (silent answer) (play_lines access ls)) (λ answer h. At (l ∷ ls) s h × PutAnswers answer h) journal careful law.2 owning.0
        (Leads-good (At (l ∷ ls) s) (at-append (l ∷ ls) s) ids Tried by PutAnswers p journal careful came told) put-answered (λ h n. starved l ls s shown h n)

  -- ---- a line that gathers the numbers of a box
  module _ (l : Line) (ls : List Line) (s : SessionState) (shown : List Shown) (path from to : List ℕ) (show : List ℤ → Shown) (gathers : deed l.number l.call s ≡ Gathers path from to show) (go : AllGoWell ls) (spelled : IsSpelled s) (later : IsLater ids s.ids) where
    abbrev GatherKeeps : List Event → Type 0
    GatherKeeps h = Nothing h × (PutNone h × Owns ids by.number s start h)

    abbrev GatherAnswers : Result (List ℤ) Refusal → List Event → Type 0
    GatherAnswers answer h = RegionTells s path from to answer h × (By AnyNumbers answer × GatherKeeps h)

    abbrev Along : List Event → Type 0
    Along h = At (l ∷ ls) s h × IsOpened s h

    along : (journal more : List Event) → Each IsGood journal more → Along journal → Along (journal ++ more)
    along journal more g a = (at-append (l ∷ ls) s journal more g a.0, L.session.kept s journal more g a.1)

    gather-answered : (answer : Result (List ℤ) Refusal) (h : List Event) → Along h × GatherAnswers answer h → Well (l ∷ ls) s shown (after_line l.number shown (shown_by s show answer) (play_lines access ls)) h
    gather-answered (Ok numbers) h q =
        let did = subst (λ (d : LineDeed). DidPlay by.number d s start (show numbers ∷ []) s h) (sym gathers) (refl, numbers, refl, q.1.0) in
        went-well l ls s shown (show numbers ∷ []) s h later did
        (go h q.1.1.1.0 q.1.1.1.1.0 s (shown ++ show numbers ∷ []) (record { opened = q.0.1; spelled = spelled; later = later; owned = q.1.1.1.1.1 }) (came-on by.number body opened start l ls s s (show numbers ∷ []) h did q.0.0))
    gather-answered (Err why) h q = refused l ls s shown why h (subst (λ (d : LineDeed). Refuses by.number d s start [] why h) (sym gathers) (q.1.0, q.1.1.0, q.1.1.1.0)) (subst (λ (d : LineDeed). IsSilent d []) (sym gathers) refl)

    gather-well : (journal : List Event) → IsOpened s journal → Owns ids by.number s start journal → Nothing journal → PutNone journal → At (l ∷ ls) s journal → Well (l ∷ ls) s shown (play_deed access l.number shown s (Gathers path from to show) (play_lines access ls)) journal
    gather-well journal ready owned c f came =
        let law = L.gather by ids s path from to start journal c in
        let p = region_program s path from to in
        let gets = region_gets s path from to in
        let careful = none-careful by ids Tried p journal law.0 in
        let goes = gather-goes MovesNone none-gets none-puts s path from to in
        let still = stays-leads Nothing (By AnyNumbers) by p journal c goes law.2 in
        let tells = within-leads MovesNone (By AnyNumbers) by p journal goes in
        let owns = gets_lead (λ h. Owns ids by.number s start h) by (λ key reply old new m o. got-owned by ids start s key reply old new m o) p gets journal owned in
        let kept = Leads-both (λ answer h. PutNone h) (λ answer h. Owns ids by.number s start h) by p journal (puts-none by start p journal law.1 f) owns in
        let told = Leads-both (RegionTells s path from to) (λ answer h. By AnyNumbers answer × GatherKeeps h) by p journal law.3
        (Leads-both (λ answer h. By AnyNumbers answer) (λ answer h. GatherKeeps h) by p journal tells (Leads-both (λ answer h. Nothing h) (λ answer h. PutNone h × Owns ids by.number s start h) by p journal still kept)) in
        called-well by ids access Tried start (l ∷ ls) s shown p (λ answer. after_line l.number shown (shown_by s show answer) (play_lines access ls)) (λ answer h. Along h × GatherAnswers answer h) journal careful law.2
        (gets-keep (λ h client op. OwesOwn ids client start op h) by (λ h key. tt) p gets journal)
        (Leads-good Along along ids Tried by GatherAnswers p journal careful (came, ready) told) gather-answered (λ h n. starved l ls s shown h n)

  -- ---- a line that leases
  module _ (l : Line) (ls : List Line) (s : SessionState) (shown : List Shown) (show : Id12 → Shown) (leases : deed l.number l.call s ≡ Leases show) (go : AllGoWell ls) (began : List Event) (ready : IsReady ids by.number start s began) (unchanged : Nothing began) where
    -- what stays, whatever good events come
    abbrev Stays : List Event → Type 0
    Stays h = At (l ∷ ls) s h × IsOpened s h

    stays-on : (h more : List Event) → Each IsGood h more → Stays h → Stays (h ++ more)
    stays-on h more g k = (at-append (l ∷ ls) s h more g k.0, L.session.kept s h more g k.1)

    module _ (id : Id12) (w : Witness) (drawn : drawn12 s.ids ≡ Some id) (named : witness_of s.origin ≡ Some w) where
      -- what the lease tells, and what the client's session knows behind it
      abbrev Keeps : List Event → Type 0
      Keeps h = Kept L by ids Tried start s id w drawn h

      abbrev Told : Leased → List Event → Type 0
      Told leased h = Since began h × (Stays h × (LeaseTells by.number id s.base w began leased h × Keeps h))

      -- the moment at which it began, and until when it went
      since-start : (P : List Event → Type 0) → P began → P (start ++ unchanged.more)
      since-start P p = subst P unchanged.is p

      is-drawn : (i : Id12) → i ≡ id → (line : ℕ) → show ≡ lease_shown line → IsDrawnLease ids (show i)
      is-drawn i same line is = subst (IsDrawnLease ids) (sym (ap (λ (f : Id12 → Shown). f i) is)) (lease-drawn ids line i s ready.later (drawn ∙ ap Some (sym same)))

      shows-its : show ≡ lease_shown l.number
      shows-its = lease-shows l.number l.call s show leases

      placed-drawn : (placed : Option Id12) (result : Result (Unit {0}) Refusal) (h : List Event) → LeaseTells by.number id s.base w began (record { placed = placed; result = result }) h → All (IsDrawnLease ids) (placed_shown show placed)
      placed-drawn None result h t = All-nil (IsDrawnLease ids)
      placed-drawn (Some i) result h t = All-cons (IsDrawnLease ids) (show i) [] (is-drawn i t.0 l.number shows-its) (All-nil (IsDrawnLease ids))

      did-lease : (i : Id12) (h : List Event) → LeaseTells by.number id s.base w began (record { placed = Some i; result = Ok tt }) h → Since began h → DidLease by.number show s start (show i ∷ []) (after_draw s) h
      did-lease i h t k = record {
        id = id;
        drawn = drawn;
        witness = w;
        witness_is = named;
        since = unchanged.more;
        until = k.more;
        more = [];
        is = k.is ∙ (ap (λ (x : List Event). x ++ k.more) unchanged.is ∙ sym (append-nil (start ++ unchanged.more ++ k.more)));
        leased = subst (λ (x : List Event). WasLeased by.number id s.base w (start ++ unchanged.more) x) (k.is ∙ ap (λ (x : List Event). x ++ k.more) unchanged.is) (since-start (λ x. WasLeased by.number id s.base w x h) t.1);
        shown_is = ap (λ (x : Id12). show x ∷ []) t.0;
        becomes = refl;
      }

      lease-refused : (placed : Option Id12) (why : Refusal) (h : List Event) → LeaseTells by.number id s.base w began (record { placed = placed; result = Err why }) h → Nothing h → Well (l ∷ ls) s shown (ended (shown ++ placed_shown show placed) (Refused l.number why)) h
      lease-refused placed why h t k =
          let refuses : RefusesLease by.number show s start (placed_shown show placed) why h = inr (record {
            id = id;
            drawn = drawn;
            witness = w;
            witness_is = named;
            since = unchanged.more;
            placed = placed;
            tells = since-start (λ x. LeaseTells by.number id s.base w x (record { placed = placed; result = Err why }) h) t;
            last_is = refl;
          }) in
          ends-showing by ids access Tried start (l ∷ ls) s shown (placed_shown show placed) (Refused l.number why) h (placed-drawn placed (Err why) h t) (inl (record {
            why = why;
            refuses = subst (λ (d : LineDeed). Refuses by.number d s start (placed_shown show placed) why h) (sym leases) (refuses, k);
            quiet = subst (λ (d : LineDeed). IsSilent d (placed_shown show placed)) (sym leases) tt;
            end_is = refl;
          }))

      -- behind the lease
      leased-well : (placed : Option Id12) (result : Result (Unit {0}) Refusal) (h : List Event) → Told (record { placed = placed; result = result }) h → Well (l ∷ ls) s shown (after_confirm l.number (shown ++ placed_shown show placed) (after_draw s) (play_lines access ls) result) h
      leased-well placed (Err why) h q = lease-refused placed why h q.1.1.0 q.1.1.1.nothing
      leased-well None (Ok done) h q = absurd q.1.1.0
      leased-well (Some i) (Ok done) h q =
          let did = subst (λ (d : LineDeed). DidPlay by.number d s start (show i ∷ []) (after_draw s) h) (sym leases) (did-lease i h q.1.1.0 q.0) in
          went-well l ls s shown (show i ∷ []) (after_draw s) h ready.later did
          (go h q.1.1.1.nothing q.1.1.1.put_none (after_draw s) (shown ++ show i ∷ []) (drew-ready ids by.number start s began h ready q.1.0.1 q.1.1.1.owns) (came-on by.number body opened start l ls s (after_draw s) (show i ∷ []) h did q.1.0.0))

      begun-well : Stays began → Keeps began → Well (l ∷ ls) s shown (followed (lease_play id s.base w) (after_lease show l.number shown (after_draw s) (play_lines access ls))) began
      begun-well first holds =
          let p = lease_play id s.base w in
          let f = after_lease show l.number shown (after_draw s) (play_lines access ls) in
          let minds = lease-minds L by ids Tried start s id w drawn began ready unchanged in
          let tells = PlayLeads-both (LeaseTells by.number id s.base w began) (λ leased h. Keeps h) by p began ((L.leases by).leads id s.base w began) (lease-keeps L by ids Tried start s id w drawn began ready.later holds) in
          let told : PlayLeads Told by p began = PlayLeads-since (λ leased h. Stays h × (LeaseTells by.number id s.base w began leased h × Keeps h)) by began p began (Since-none began) (PlayLeads-carry Stays stays-on ids Tried start by p began (λ leased h. LeaseTells by.number id s.base w began leased h × Keeps h) minds first tells) in (
            PlayKeeps-followed (Minds ids Tried start) Told by p f began minds told (λ leased h q. (leased-well leased.placed leased.result h q).0),
            PlayLeads-followed (Ending ids by.number access start (l ∷ ls) s shown) Told by p f began told (λ leased h q. (leased-well leased.placed leased.result h q).1),
          )

  lease-well : (l : Line) (ls : List Line) (s : SessionState) (shown : List Shown) (show : Id12 → Shown) → deed l.number l.call s ≡ Leases show → AllGoWell ls → (journal : List Event) → IsReady ids by.number start s journal → Nothing journal → PutNone journal → At (l ∷ ls) s journal
      → Well (l ∷ ls) s shown (lease_by show l.number shown s (play_lines access ls) (lease_of s)) journal
  lease-well l ls s shown show leases go journal ready c f came =
      lease-cases (λ (r : Result (Play Leased) Refusal). Well (l ∷ ls) s shown (lease_by show l.number shown s (play_lines access ls) r) journal) s
      (λ id w drawn named. begun-well l ls s shown show leases go journal ready c id w drawn named (came, ready.opened) (record { nothing = c; put_none = f; owns = drew-owns ids by.number s start journal ready.owned }))
      (λ why e. refused l ls s shown why journal (subst (λ (d : LineDeed). Refuses by.number d s start [] why journal) (sym leases) (inl (e, refl), c)) (subst (λ (d : LineDeed). IsSilent d []) (sym leases) tt))

  -- ---- a line that commits
  commit-well : (l : Line) (ls : List Line) (s : SessionState) (shown : List Shown) (message : List ℕ) → deed l.number l.call s ≡ Commits message → (journal : List Event) → IsUtf8 message → IsReady ids by.number start s journal → Nothing journal → PutNone journal → At (l ∷ ls) s journal
      → Well (l ∷ ls) s shown (commit_play (tries_of access) (policy_of access) l.number shown message s) journal
  unfolding WasCarried
  commit-well l ls s shown message commits journal utf8 ready c f came =
      tries-well L by ids access body opened start l ls s shown message commits utf8 (tries_of access) 0 (zero-add (tries_of access)) s journal
      (record {
        few = omega arith;
        carried = refl;
        alike = none-alike by.number s start journal f;
        ready = ready;
        nothing = c;
        came = record { played = came.0; line = l; left = ls; body_is = came.2; shown = came.1; plays = came.3; message = message; commits = commits };
      })

  -- ---- any line
  deed-well : (l : Line) (ls : List Line) (s : SessionState) (shown : List Shown) (journal : List Event) → IsWellCall l.call → IsReady ids by.number start s journal → Nothing journal → PutNone journal → At (l ∷ ls) s journal → AllGoWell ls
      → (d : LineDeed) → deed l.number l.call s ≡ d → Well (l ∷ ls) s shown (play_deed access l.number shown s d (play_lines access ls)) journal
  deed-well l ls s shown journal well ready c f came go (Goes (Err why)) e = refused l ls s shown why journal (subst (λ (d : LineDeed). Refuses by.number d s start [] why journal) (sym e) (refl, c)) (subst (λ (d : LineDeed). IsSilent d []) (sym e) refl)
  deed-well l ls s shown journal well ready c f came go (Goes (Ok went)) e =
      let did = subst (λ (d : LineDeed). DidPlay by.number d s start went.0 went.1 journal) (sym e) refl in
      went-well l ls s shown went.0 went.1 journal ready.later did
      (go journal c f went.1 (shown ++ went.0) (deed-ready L.session L.owning ids by.number start l.number l.call s went journal well ready e) (came-on by.number body opened start l ls s went.1 went.0 journal did came))
  deed-well l ls s shown journal well ready c f came go (Sets path index bytes) e = set-well l ls s shown path index bytes e go ready.later journal (deed-bytes l.number l.call s path index bytes well e) ready c f came
  deed-well l ls s shown journal well ready c f came go (Reads path index show) e = get-well l ls s shown path index show e go ready.spelled ready.later journal ready.opened ready.owned c f came
  deed-well l ls s shown journal well ready c f came go (Puts path from to numbers) e = put-well l ls s shown path from to numbers e go ready.later journal ready c f came
  deed-well l ls s shown journal well ready c f came go (Gathers path from to show) e = gather-well l ls s shown path from to show e go ready.spelled ready.later journal ready.opened ready.owned c f came
  deed-well l ls s shown journal well ready c f came go (Leases show) e = lease-well l ls s shown show e go journal ready c f came
  deed-well l ls s shown journal well ready c f came go (Commits message) e = commit-well l ls s shown message e journal (deed-utf8 l.number l.call s message well e) ready c f came

  lines-well : (ls : List Line) → All IsWellLine ls → AllGoWell ls
  unfolding PlayKeeps PlayLeads play_lines
  lines-well [] well journal c f s shown ready came = ends-well by ids access Tried start [] s shown Done journal (refl, c, refl)
  lines-well (l ∷ ls) well journal c f s shown ready came =
      let played = deed-well l ls s shown journal (All-head IsWellLine l ls well).call ready c f came (lines-well ls (All-tail IsWellLine l ls well)) (deed l.number l.call s) refl in
      let off = starved l ls s shown journal c in
      ((played.0, off.0), (played.1, off.1))

-- ---- a task that opens a session
asked-ids : (a : Access) (ids : AnyIds) → (asked_by a ids).ids ≡ ids
asked-ids (access.Write branch tries policy) ids = refl
asked-ids (access.Read at) ids = refl

module _ (L : Laws) (by : Caller) (ids : AnyIds) (access : Access) (task : Task) (start : List Event) (head_is : task.head ≡ Session access) where
  abbrev Mine : Sessions
  Mine = IsOfTask ids task by.number start

  abbrev Outcomes : Outcome → List Event → Type 0
  Outcomes outcome h = SessionTells ids access task by.number start outcome h × All (IsDrawnLease ids) outcome.shown

  abbrev TaskGoesWell : Play Outcome → List Event → Type 0
  TaskGoesWell p journal = PlayKeeps (Minds ids Mine start) by p journal × PlayLeads Outcomes by p journal

  -- the session was begun before the client put a snapshot
  record Begun (s : SessionState) (h : List Event) : Type 0 where
    pub begun : WasBegun by.number (asked_by access ids) s start h
    pub early : HasPutNone by.number start begun.got.own.before
    pub opened : IsOpened s h

  played : (s : SessionState) (outcome : Outcome) (journal : List Event) → Begun s journal → Ending ids by.number access start task.body s [] outcome journal → Outcomes outcome journal
  played s outcome journal b e = (
    inr (record {
      opened = s;
      begun = b.begun;
      early = b.early;
      read = b.opened;
      played = e.played;
      left = e.left;
      body = e.body;
      session = e.session;
      shown = e.more;
      last = e.last;
      shown_is = e.shown_is;
      plays = e.plays;
      ends = e.ends;
    }),
    subst (All (IsDrawnLease ids)) (sym e.shown_is) e.drawn,
  )

  abbrev Answers : Result SessionState Refusal → List Event → Type 0
  Answers r h = (OpeningTells by.number (asked_by access ids) start r h × IfOk r IsSpelled) × (HasPutNone by.number start h × IfOk r (λ s. Owns ids by.number s start h))

  refused-task : (why : Refusal) (journal : List Event) → OpeningTells by.number (asked_by access ids) start (Err why) journal → TaskGoesWell (after_open access task.line task.body (Err why)) journal
  unfolding PlayKeeps PlayLeads
  refused-task why journal q = (tt, (inl (record { why = why; shown_is = refl; end_is = refl; tells = q }), All-nil (IsDrawnLease ids)))

  opened-task : IsWellTask task → (r : Result SessionState Refusal) (journal : List Event) → Answers r journal → TaskGoesWell (after_open access task.line task.body r) journal
  opened-task well (Err why) journal q = refused-task why journal q.0.0
  opened-task well (Ok s) journal q =
      let begun = q.0.0.0 in
      let drawing : s.ids ≡ ids = ap (λ (x : SessionState). x.ids) begun.begins ∙ asked-ids access ids in
      let ready : IsReady ids by.number start s journal = record { opened = q.0.0.1; spelled = q.0.1; later = subst (IsLater ids) (sym drawing) (later-same ids); owned = q.1.1 } in
      let tried : Sessions = IsTried task.body s by.number access start in
      let lines = lines-well L by ids access task.body s start task.body well.body journal q.0.0.2 q.1.0 s [] ready ([], [], refl, plays-none by.number s start journal) in
      let p = play_lines access task.body s [] in
      let own = begun.got.own in
      let early : HasPutNone by.number start own.before = put-none-before by.number start journal own.before own.since own.after own.event own.before_is own.is q.1.0 in
      let first : Begun s journal = record { begun = begun; early = early; opened = q.0.0.1 } in
      let lasts : (h more : List Event) → Each IsGood h more → Begun s h → Begun s (h ++ more) = λ h more g b. record { begun = WasBegun-more by.number (asked_by access ids) s start h more b.begun; early = b.early; opened = L.session.kept s h more g b.opened } in
      let keeps = PlayKeeps-weaker (λ h client op. Begun s h × Minds ids tried start h client op) (Minds ids Mine start)
      (λ h client op k. (careful-more ids tried Mine h (λ t id x. of-task s h t id k.0 x) client op k.1.0, k.1.1)) by p journal
      (PlayKeeps-good (Begun s) lasts ids tried start by p journal lines.0 first) in
      let carried = PlayLeads-carry (Begun s) lasts ids tried start by p journal (Ending ids by.number access start task.body s []) lines.0 first lines.1 in
      (keeps, PlayLeads-weaker (λ outcome h. Begun s h × Ending ids by.number access start task.body s [] outcome h) Outcomes (λ outcome h x. played s outcome h x.0 x.1) by p journal carried)
    where
      of-task : (s : SessionState) (h : List Event) (t : SessionState) (id : Id12) → Begun s h → IsTried task.body s by.number access start h t id → Mine h t id
      of-task s h t id b x = record { access = access; head_is = head_is; opened = s; begun = b.begun; early = b.early; read = b.opened; session = x.session; came = x.came; count = x.count; few = x.few; carried = x.carried; alike = x.alike; drawn = x.drawn }

  session-well : IsWellTask task → PlayKeeps (λ h client op. IsCareful ids Mine h client op × OwesOwn ids client start op h) by (session_play ids access task.line task.body) start × PlayKeeps (λ journal client op. ComesBefore (Session access) client start journal op) by (session_play ids access task.line task.body) start × PlayLeads Outcomes by (session_play ids access task.line task.body) start
  session-well well =
      let a = asked_by access ids in
      let p = open_program a in
      let law = L.opening by ids a start start (ChangedNothing-none by.number start) in
      let single = L.single.opening by a start start (HasPutNone-none by.number start) in
      let owning = L.owning.opens by ids a start start (subst (λ (x : AnyIds). HasPutDrawn ids x by.number start start) (sym (asked-ids access ids)) (HasPutDrawn-none ids ids by.number start)) in
      let told = Leads-both (λ r h. OpeningTells by.number a start r h × IfOk r IsSpelled) (λ r h. HasPutNone by.number start h × IfOk r (λ s. Owns ids by.number s start h)) by p start law.2
      (Leads-both (λ r h. HasPutNone by.number start h) (λ r h. IfOk r (λ s. Owns ids by.number s start h)) by p start single.1 owning.1) in
      let keeps = PlayKeeps-call (Minds ids Mine start) Answers (ChangedNothing by.number start) by p (after_open access task.line task.body) start
      (Keeps-minds ids Mine start by p start (none-careful by ids Mine p start law.0) law.1 owning.0) told law.1 (λ r h q. (opened-task well r h q).0) (λ h q. (refused-task NoMemory h q).0) in (
        PlayKeeps-weaker (Minds ids Mine start) (λ h client op. IsCareful ids Mine h client op × OwesOwn ids client start op h) (λ h client op x. (x.0, x.1.1)) by (session_play ids access task.line task.body) start keeps,
        PlayKeeps-weaker (Minds ids Mine start) (λ h client op. ComesBefore (Session access) client start h op) (λ h client op x. x.1.0) by (session_play ids access task.line task.body) start keeps,
        PlayLeads-call Outcomes Answers (ChangedNothing by.number start) by p (after_open access task.line task.body) start told law.1 (λ r h q. (opened-task well r h q).1) (λ h q. (refused-task NoMemory h q).1),
      )

-- ---- any task
-- what holds of each operation of a play that is owed so, whatever it is
all-before : (P : List Event → ℕ → Op → Type 0) (by : Caller) (p : Play Outcome) (journal : List Event) → PlayKeeps P by p journal → PlayKeeps (λ h client op. Unit {0}) by p journal
all-before P by p journal k = PlayKeeps-weaker P (λ h client op. Unit {0}) (λ h client op x. tt) by p journal k

module _ (L : Laws) (by : Caller) (ids : AnyIds) (task : Task) (start : List Event) (well : IsWellTask task) where
  -- the operation is polite, and what a task owes that begins so, and comes where its session is open
  abbrev Pays : Head → List Event → ℕ → Op → Type 0
  Pays head h client op = IsPolite h op × (OwesBy head ids task by.number start h op × (OwesOwnBy head ids by.number start h op × ComesOpen head ids by.number start h op))

  abbrev GoesBy : Head → Type 0
  GoesBy head =
      let p = headed_play head ids task in
      PlayKeeps (Pays head) by p start × PlayKeeps (λ h client op. ComesBefore head client start h op) by p start × PlayLeads (TellsBy head ids task by.number start) by p start

  by_head : (head : Head) → task.head ≡ head → GoesBy head
  by_head (Session access) is =
      let told = session-well L by ids access task start is well in
      let p = session_play ids access task.line task.body in
      let minds : List Event → ℕ → Op → Type 0 = λ h client op. IsCareful ids (IsOfTask ids task by.number start) h client op × OwesOwn ids client start op h in
      let opens : List Event → ℕ → Op → Type 0 = λ h client op. OpensOrHasBase client (asked_by access ids) start h op in
      let both = PlayKeeps-both minds opens by p start told.0 (session-opens by ids access task.line task.body start) in
      let Told : Outcome → List Event → Type 0 = λ outcome h. Since start h × (SessionTells ids access task by.number start outcome h × All (IsDrawnLease ids) outcome.shown) in
      let leads : PlayLeads Told by p start = PlayLeads-since (λ outcome h. SessionTells ids access task by.number start outcome h × All (IsDrawnLease ids) outcome.shown) by start p start (Since-none start) told.2 in (
        PlayKeeps-followed (Pays (Session access)) Told by p release_all start
            (PlayKeeps-own (λ h client op. minds h client op × opens h client op) (Pays (Session access)) by (λ h op c. (c.0.0.polite, (c.0.0.owes, (c.0.1, inl c.1)))) p start both) leads
            (λ outcome h q. releases-keep (Pays (Session access)) by ids (λ j id drawn. (refl, ((drawn, refl), (tt, inr (id, drawn, refl))))) outcome.end [] outcome.shown q.1.1 h),
        PlayKeeps-followed (λ h client op. ComesBefore (Session access) client start h op) Told by p release_all start told.1 leads
            (λ outcome h q. releases-keep (λ j client op. ComesBefore (Session access) client start j op) by ids (λ j id drawn. λ put. absurd put) outcome.end [] outcome.shown q.1.1 h),
        PlayLeads-followed (TellsBy (Session access) ids task by.number start) Told by p release_all start leads (λ outcome h q.
            PlayLeads-weaker (λ o j. Since h j × HasReleased by.number outcome.end [] outcome.shown h o j) (TellsBy (Session access) ids task by.number start)
            (λ o j r. record { session = outcome; ended = h; tells = q.1.0; since = r.0.more; is = r.0.is; released = subst (λ (x : List Shown). WereReleased by.number outcome.shown h x j) (sym r.1.shown_is) r.1.released; end_is = r.1.end_is }) by (release_all outcome) h
            (PlayLeads-since (HasReleased by.number outcome.end [] outcome.shown h) by h (release_all outcome) h (Since-none h) (releases-lead L.leases by outcome.end [] outcome.shown h))),
      )
  by_head Refs is =
      let told = L.refs by task.body start in
      let pays = PlayKeeps-weaker (λ h client op. IsPolite h op × OwesRefs op) (Pays Refs) (λ h client op x. (x.0, (x.1, (tt, tt)))) by (refs_play task.body []) start told.0 in
      (pays, all-before (Pays Refs) by (refs_play task.body []) start pays, told.1)
  by_head (Collect cutoff) is =
      let told = L.collect by task.line cutoff start in
      let p = collect_task task.line cutoff in
      let pays = PlayKeeps-own (λ h client op. IsPolite h op × IsOwed cutoff start h client op) (Pays (Collect cutoff)) by (λ h op x. (x.0, (x.1, (tt, tt)))) p start told.0 in
      (pays, all-before (Pays (Collect cutoff)) by p start pays, told.1)
  by_head (Expire cutoff drop_branches drop_tags) is =
      let terms = terms_of cutoff drop_branches drop_tags in
      let head = Expire cutoff drop_branches drop_tags in
      let told = L.expire by task.line terms start in
      let p = expire_task task.line terms in
      let pays = PlayKeeps-own (λ h client op. IsPolite h op × OwesExpiry terms start h client op) (Pays head) by (λ h op x. (x.0, (x.1, (tt, tt)))) p start told.0 in
      (pays, all-before (Pays head) by p start pays, told.1)
  by_head Check is =
      let told = L.check by task.line start in
      let p = check_task task.line in
      let pays = PlayKeeps-weaker (λ h client op. IsPolite h op × IsRead op) (Pays Check) (λ h client op x. (x.0, (x.1, (tt, tt)))) by p start told.0 in
      (pays, all-before (Pays Check) by p start pays, told.1)

  pub task-well : PlayKeeps (IsDue ids task by.number start) by (task_play ids task) start × PlayKeeps (λ journal client op. BeforeChange task client start journal op) by (task_play ids task) start
      × PlayLeads (TellsOutcome ids task by.number start) by (task_play ids task) start
  task-well =
      let told = by_head task.head refl in
      (PlayKeeps-weaker (Pays task.head) (IsDue ids task by.number start) (λ h client op x. record { polite = x.0; owes = x.1.0; own = x.1.1.0; open_at = x.1.1.1 }) by (task_play ids task) start told.0, told.1, told.2)
