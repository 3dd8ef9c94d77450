-- A commit goes well, however often it is lost and tried again.
use Rattle.std.proofs.Common.{◌≡◌, ◌≢◌, ◌⊎◌, ◌≤◌, ◌<◌, ◌+◌, inl, inr, ℕ, zero, suc, refl, sym, ap, subst, ◌∙◌, List, ◌∷◌, ◌++◌, append_assoc, Option, Result, Ok, Err, arith}
use Rattle.std.specs.Prelude.{IfOk}
use Rattle.std.specs.Str.{IsUtf8}
use Rattle.ice_ids.specs.declared.Id12.{Id12}
use Rattle.ice_ids.specs.declared.drawing.AnyIds.{AnyIds}
use Rattle.conflicts.specs.declared.solving.Policy.{Policy}
use Rattle.object_store.specs.declared.events.Version.{Version}
use Rattle.object_store.specs.declared.events.Op.{Op}
use Rattle.object_store.specs.declared.events.Op.TheVariants.{Get}
use Rattle.object_store.specs.declared.events.Event.{Event}
use Rattle.store_api.specs.declared.machines.Refusal.{Refusal}
use Rattle.store_api.specs.declared.machines.Refusal.TheVariants.{NoMemory, LostRace}
use Rattle.store_api.specs.declared.machines.Refusal.TheVariants as R
use Rattle.store_api.specs.Journal.{Each, IsGood, IsPolite}
use Rattle.store_api.specs.Callers.{Caller}
use Rattle.store_api.specs.Plays.{Play, call, PlayKeeps, PlayLeads}
use Rattle.store_api.specs.Telling.{ChangedNothing, IsGet, MadeGets}
use Rattle.store_api.proofs.PlayLaws.{PlayKeeps-call, PlayLeads-call}
use Rattle.repo_read.proofs.Own.{MadeGets-none}
use Rattle.session.specs.Sessions.{SessionState, branch_of}
use Rattle.session.specs.Sources.{IsLater, MayDrawObject}
use Rattle.commit_path.specs.declared.commit.Tried.{Tried}
use Rattle.commit_path.specs.declared.commit.Tried.TheVariants.{Done as Was_done, Lost}
use Rattle.commit_path.specs.Committing.{commit_program}
use Rattle.commit_path.specs.Owed.{Sessions, Owes, IsCareful}
use Rattle.commit_path.specs.Answered.{WasDoubted, WasMoved, CommitTells}
use Rattle.commit_path.specs.Own.{OwesOwn, Owns, OwnsNext}
use Rattle.commit_path.specs.Opened.{IsOpened}
use Rattle.commit_path.specs.Single.{HasPutAlike}
use Rattle.commit_path.proofs.Singling.{HasPutAlike-same}
use Rattle.commit_path.proofs.Sources.{later-later}
use Rattle.rebase.proofs.Alike.{moved-alike, up_to_date-alike}
use Rattle.rebase.specs.declared.machine.Rebased.{Rebased}
use Rattle.rebase.specs.declared.machine.Rebased.TheVariants.{OnHead, UpToDate}
use Rattle.rebase.specs.Laws.{RebaseLaw, CanGoOn, OwnsOn}
use Rattle.rebase.specs.Rebasing.{rebase_program}
use Rattle.rebase.specs.Telling.{CameToHead, WasUpToDate, RebaseTells}
use Rattle.settle.specs.declared.settle.Doubt.{Doubt}
use Rattle.settle.specs.declared.settle.Settled.{Settled}
use Rattle.settle.specs.Laws.{SettleLaw}
use Rattle.settle.specs.Settling.{settle_program}
use Rattle.settle.specs.Telling.{SettleTells}
use Rattle.script_calls.specs.declared.calls.Access.{Access}
use Rattle.play_script.specs.declared.scripts.Line.{Line}
use Rattle.play_outcome.specs.declared.outcome.Shown.{Shown}
use Rattle.play_outcome.specs.declared.outcome.End.{End}
use Rattle.play_outcome.specs.declared.outcome.End.TheVariants.{Committed, Refused, InDoubt}
use Rattle.play_outcome.specs.declared.outcome.Outcome.{Outcome}
use Rattle.play_tasks.specs.Lines.{Commits, deed}
use Rattle.play_outcome.specs.Playing.{ended, refused}
use Rattle.play_tasks.specs.Owing.{IsPut}
use Rattle.play_tasks.specs.Playing.{tries_of, policy_of, how_of, after_settling, doubt_of, doubt_play, after_commit, after_rebase, commit_play}
use Rattle.play_tasks.specs.Solving.{CameToCommit, WasLost, WasCarried}
use Rattle.play_tasks.specs.Telling.{EndsCommitted, WasInDoubt, WasCommitRefused, WasLostAtLast, WasNotRebased}
use Rattle.play_outcome.proofs.Plays.{Keeps-both}
use Rattle.play_tasks.proofs.Doubting.{which, no-doubt, settle-within, walked-gets}
use Rattle.play_tasks.proofs.Carrying.{Minds, Keeps-own, Keeps-with, Keeps-good, Leads-with, Leads-good, Leads-both, careful-more}
use Rattle.play_tasks.proofs.Going.{Laws, Ending, CameToCommit-append, GoesWell, ends-well, starved-well, called-well}
use Rattle.play_tasks.proofs.Ready.{IsReady}
use Rattle.play_tasks.proofs.Tried.{IsTried, WasCarried-append, other-spelled, other-opened}

get-own : (ids : AnyIds) (client : ℕ) (start journal : List Event) (op : Op) → IsGet op → OwesOwn ids client start op journal
get-own ids client start journal (Get key) g = tt
get-own ids client start journal _ g = absurd g

-- ... and puts nothing
get-no-put : (op : Op) → IsGet op → IsPut op → ⊥
get-no-put (Get key) g puts = puts
get-no-put _ g puts = g

-- a get owes nothing
get-owes : (ids : AnyIds) (mine : Sessions) (journal : List Event) (op : Op) → IsGet op → Owes ids mine journal op
get-owes ids mine journal (Get key) g = tt
get-owes ids mine journal _ g = absurd g

module _ (L : Laws) (by : Caller) (ids : AnyIds) (access : Access) (body : List Line) (opened : SessionState) (start : List Event) where
  abbrev Mine : Sessions
  Mine = IsTried body opened by.number access start

  abbrev Nothing : List Event → Type 0
  Nothing = ChangedNothing by.number start

  abbrev policy : Policy
  policy = policy_of access

  module _ (l : Line) (ls : List Line) (s : SessionState) (shown : List Shown) (message : List ℕ) (commits : deed l.number l.call s ≡ Commits message) (utf8 : IsUtf8 message) where
    abbrev Well : Play Outcome → List Event → Type 0
    Well p journal = GoesWell by ids access Mine start (l ∷ ls) s shown p journal

    -- the lines of the body led to the session that is to be committed
    abbrev pub From : List Event → Type 0
    From journal = CameToCommit by.number body opened start journal s

    from-append : (journal more : List Event) → Each IsGood journal more → From journal → From (journal ++ more)
    from-append journal more g c = CameToCommit-append by.number body opened start journal more s g c

    -- how often the session was carried until here, and that it may commit
    pub record Stands (count : ℕ) (t : SessionState) (journal : List Event) : Type 0 where
      pub few : count ≤ tries_of access
      pub carried : WasCarried by.number policy count s t start journal
      pub alike : HasPutAlike by.number t start journal
      pub ready : IsReady ids by.number start t journal
      pub nothing : Nothing journal
      pub came : From journal

    -- how its commit ends the task
    abbrev Ends : ℕ → SessionState → End → List Event → Type 0
    Ends count t end journal =
        EndsCommitted by.number t message start end journal
        ⊎ (WasInDoubt by.number t message start end journal
        ⊎ (WasCommitRefused by.number l.number t message start end journal ⊎ (WasLostAtLast by.number access l.number count t start end journal ⊎ WasNotRebased by.number access l.number count t start end journal)))

    tried : (count : ℕ) (t : SessionState) (end : End) (journal : List Event) → count ≤ tries_of access → WasCarried by.number policy count s t start journal → Ends count t end journal → Well (ended shown end) journal
    tried count t end journal few c e =
        ends-well by ids access Mine start (l ∷ ls) s shown end journal
        (inr (inr (record { quiet = refl; message = message; commits = commits; count = count; few = few; at_last = t; carried = c; ends = e })))

    starved : (journal : List Event) → Nothing journal → Well (refused l.number shown NoMemory) journal
    starved journal c = starved-well by ids access Mine start l ls s shown journal c

    -- ---- one commit
    module _ (count : ℕ) (t : SessionState) where
      abbrev Carried : List Event → Type 0
      Carried journal = WasCarried by.number policy count s t start journal

      abbrev Answers : Result Tried Refusal → List Event → Type 0
      Answers answer journal = Carried journal × (((IsOpened t journal × From journal) × CommitTells by.number t message start answer journal) × (HasPutAlike by.number t start journal × OwnsNext ids by.number t start answer journal))

      carried-append : (journal more : List Event) → Carried journal → Carried (journal ++ more)
      carried-append journal more c = WasCarried-append by.number policy count s t start journal more c

      -- what is owed for this session is owed for one of the task
      owed : count ≤ tries_of access → (journal : List Event) (op : Op)
          → Carried journal × (HasPutAlike by.number t start journal × (From journal × IsCareful ids (λ h u id. (u ≡ t) × MayDrawObject t.ids id) journal by.number op)) → IsCareful ids Mine journal by.number op
      owed few journal op k =
          careful-more ids (λ h u id. (u ≡ t) × MayDrawObject t.ids id) Mine journal
          (λ u id is. subst (λ (x : SessionState). Mine journal x id) (sym is.0) (record { session = s; came = k.1.1.0; count = count; few = few; carried = k.0; alike = k.1.0; drawn = is.1 }))
          by.number op k.1.1.1

      -- ---- it is in doubt
      module _ (few : count ≤ tries_of access) (id : Id12) (h : List Event) (doubted : WasDoubted by.number t message id start h) (c : Carried h) where
        abbrev doubt : Doubt
        doubt = doubt_of t id

        abbrev until : List Event
        until = doubted.own.since ++ doubted.own.event ∷ doubted.own.after

        until_is : h ≡ start ++ until
        until_is = doubted.own.is ∙ (ap (λ (x : List Event). x ++ doubted.own.event ∷ doubted.own.after) doubted.own.before_is ∙ append_assoc start doubted.own.since (doubted.own.event ∷ doubted.own.after))

        abbrev Tells : Result Settled Refusal → List Event → Type 0
        Tells answer journal = SettleTells by.number (branch_of t) doubt h answer journal

        -- what was told of it ends the task
        told : (answer : Result Settled Refusal) (journal : List Event) → Tells answer journal → Well (after_settling shown id answer) journal
        told answer journal q =
            let lasts = subst (λ (x : List Event). WasCarried by.number policy count s t start x) (sym q.1.is) (WasCarried-append by.number policy count s t start h q.1.more c) in
            tried count t (InDoubt id (how_of answer)) journal few lasts (inr (inl (record {
              id = id;
              since = until;
              doubted = subst (λ (x : List Event). WasDoubted by.number t message id start x) until_is doubted;
              answer = answer;
              settled = subst (λ (x : List Event). SettleTells by.number (branch_of t) doubt x answer journal) until_is q;
              end_is = refl;
            })))

        -- each operation of the settling is a get
        minded : (journal : List Event) (op : Op) → IsPolite journal op × IsGet op → Minds ids Mine start journal by.number op
        minded journal op k = (record { polite = k.0; owes = get-owes ids Mine journal op k.1 }, (λ puts. absurd (get-no-put op k.1 puts), get-own ids by.number start journal op k.1))

        doubt-well : Well (doubt_play shown t id) h
        doubt-well =
            let law : SettleLaw by = L.settle by in
            let p = settle_program (branch_of t) doubt in
            let f = after_settling shown id in
            let gets = walked-gets (λ r. IfOk r (λ (x : Settled). Unit {0})) by p h (settle-within (branch_of t) doubt) in
            let both = Keeps-both (λ j client op. IsPolite j op) (λ j client op. IsGet op) by p h ((law.told (branch_of t) doubt).polite h) gets in
            let minds = Keeps-own (λ j client op. IsPolite j op × IsGet op) (Minds ids Mine start) by minded p h both in
            let leads = (law.told (branch_of t) doubt).leads h in
            let stays = law.gets (branch_of t) doubt h h (MadeGets-none by.number h) in
            let N = MadeGets by.number h in (
              PlayKeeps-call (Minds ids Mine start) Tells N by p f h minds leads stays (λ answer journal q. (told answer journal q).0) (λ journal n. (told (Err NoMemory) journal (tt, n)).0),
              PlayLeads-call (Ending ids by.number access start (l ∷ ls) s shown) Tells N by p f h leads stays (λ answer journal q. (told answer journal q).1) (λ journal n. (told (Err NoMemory) journal (tt, n)).1),
            )

      -- ---- it was refused
      module _ (few : count ≤ tries_of access) (lost : Version → Option Version → AnyIds → Play Outcome) (h : List Event) (c : Carried h) where
        abbrev behind : Result Tried Refusal → Play Outcome
        behind = after_commit l.number shown (doubt_play shown t) lost

        refused-so : (why : Refusal) → ((id : Id12) → why ≢ R.InDoubt id) → CommitTells by.number t message start (Err why) h → Well (behind (Err why)) h
        refused-so why never tells =
            subst (λ (p : Play Outcome). Well p h) (sym (no-doubt l.number shown (doubt_play shown t) lost why never))
            (tried count t (Refused l.number why) h few c (inr (inr (inl (record { why = why; no_doubt = never; tells = tells; end_is = refl })))))

        doubted-so : (why : Refusal) (id : Id12) → why ≡ R.InDoubt id → CommitTells by.number t message start (Err why) h → Well (behind (Err why)) h
        doubted-so why id is tells =
            let doubted : WasDoubted by.number t message id start h = subst (λ (w : Refusal). CommitTells by.number t message start (Err w) h) is tells in
            subst (λ (w : Refusal). Well (behind (Err w)) h) (sym is) (doubt-well few id h doubted c)

        not-done : (why : Refusal) → CommitTells by.number t message start (Err why) h → Well (behind (Err why)) h
        not-done why tells = elim (which why) [
          | inl d ↦ doubted-so why d.0 d.1 tells
          | inr never ↦ refused-so why never tells
        ]

      answered : count ≤ tries_of access → (lost : Version → Option Version → AnyIds → Play Outcome)
          → ((old : Version) (found : Option Version) (next : AnyIds) (h : List Event) → WasMoved by.number t old found next start h → Carried h → IsOpened t h → From h → HasPutAlike by.number t start h → Owns ids by.number (record t { ids = next }) start h → Well (lost old found next) h)
          → (answer : Result Tried Refusal) (h : List Event) → Answers answer h → Well (after_commit l.number shown (doubt_play shown t) lost answer) h
      answered few lost go (Ok (Was_done made)) h q = tried count t (Committed made.id) h few q.0 (inl (record { made = made; took = q.1.0.1; end_is = refl }))
      answered few lost go (Ok (Lost old found next)) h q = go old found next h q.1.0.1 q.0 q.1.0.0.0 q.1.0.0.1 q.1.1.0 q.1.1.1
      answered few lost go (Err why) h q = not-done few lost h q.0 why q.1.0.1

      commit-called : (journal : List Event) → Stands count t journal → (lost : Version → Option Version → AnyIds → Play Outcome)
          → ((old : Version) (found : Option Version) (next : AnyIds) (h : List Event) → WasMoved by.number t old found next start h → Carried h → IsOpened t h → From h → HasPutAlike by.number t start h → Owns ids by.number (record t { ids = next }) start h → Well (lost old found next) h)
          → Well (call (commit_program t message) (after_commit l.number shown (doubt_play shown t) lost)) journal
      commit-called journal x lost go =
          let p = commit_program t message in
          let law = L.commit by ids t message start journal x.ready.later utf8 x.ready.spelled x.ready.opened x.nothing in
          let single = L.single.commit by t message start journal utf8 x.ready.spelled x.ready.opened x.alike in
          let owning = L.owning.commits by ids t message start journal x.ready.later utf8 x.ready.spelled x.ready.opened x.nothing x.ready.owned in
          let own : Sessions = λ h u id. (u ≡ t) × MayDrawObject t.ids id in
          let put : List Event → ℕ → Op → Type 0 = λ h client op. HasPutAlike client t start h in
          let careful : List Event → ℕ → Op → Type 0 = λ h client op. From h × IsCareful ids own h client op in
          let keeps = Keeps-with Carried carried-append by (λ h client op. put h client op × careful h client op) p journal x.carried (Keeps-both put careful by p journal single.0 (Keeps-good From from-append ids own by p journal law.0 x.came)) in
          let knows = Leads-good (λ h. IsOpened t h × From h) (λ h more g o. (L.session.kept t h more g o.0, from-append h more g o.1)) ids own by (CommitTells by.number t message start) p journal law.0 (x.ready.opened, x.came) law.2 in
          let tells = Leads-both (λ answer h. (IsOpened t h × From h) × CommitTells by.number t message start answer h) (λ answer h. HasPutAlike by.number t start h × OwnsNext ids by.number t start answer h) by p journal knows
          (Leads-both (λ answer h. HasPutAlike by.number t start h) (OwnsNext ids by.number t start) by p journal single.1 owning.1) in
          called-well by ids access Mine start (l ∷ ls) s shown p (after_commit l.number shown (doubt_play shown t) lost) Answers journal
          (Keeps-own (λ h client op. Carried h × (put h client op × careful h client op)) (IsCareful ids Mine) by (owed x.few) p journal keeps)
          law.1
          owning.0
          (Leads-with Carried carried-append by (λ answer h. ((IsOpened t h × From h) × CommitTells by.number t message start answer h) × (HasPutAlike by.number t start h × OwnsNext ids by.number t start answer h)) p journal x.carried tells)
          (answered x.few lost go)
          starved

    -- ---- it was lost, and isn't tried again
    spent-well : (count : ℕ) (t : SessionState) → count ≡ tries_of access → (old : Version) (found : Option Version) (next : AnyIds) (h : List Event) → WasMoved by.number t old found next start h → WasCarried by.number policy count s t start h
        → Well (refused l.number shown (LostRace old found)) h
    spent-well count t spent old found next h moved c =
        let few : count ≤ tries_of access = omega (arith, spent) in
        tried count t (Refused l.number (LostRace old found)) h few c (inr (inr (inr (inl (record { spent = spent; old = old; found = found; next = next; moved = moved; end_is = refl })))))

    -- ---- it was lost, and is tried again
    module _ (count : ℕ) (t : SessionState) (less : count < tries_of access) (old : Version) (found : Option Version) (next : AnyIds) (h : List Event) (moved : WasMoved by.number t old found next start h) (c : WasCarried by.number policy count s t start h)
        (ready : IsReady ids by.number start (record t { ids = next }) h) (came : From h) (alike : HasPutAlike by.number t start h) where
      abbrev lost : SessionState
      lost = record t { ids = next }

      abbrev law : RebaseLaw by policy lost
      law = L.rebase by policy lost

      abbrev since : List Event
      since = moved.nothing.more

      abbrev there : h ≡ start ++ since
      there = moved.nothing.is

      was_lost : WasLost by.number t lost start (start ++ since)
      was_lost = record { old = old; found = found; next = next; moved = subst (λ (x : List Event). WasMoved by.number t old found next start x) there moved; becomes = refl }

      tells : (answer : Result Rebased Refusal) (journal : List Event) → RebaseTells by.number policy lost h answer journal → RebaseTells by.number policy lost (start ++ since) answer journal
      tells answer journal w = subst (λ (x : List Event). RebaseTells by.number policy lost x answer journal) there w

      nothing : (journal : List Event) → MadeGets by.number h journal → Nothing journal
      nothing journal gets = (law.quiet start h journal gets).0 moved.nothing

      -- the snapshots that the client put are still of sessions that added and dropped the same nodes
      puts : (journal : List Event) → MadeGets by.number h journal → HasPutAlike by.number lost start journal
      puts journal gets = law.alike lost start h journal gets (HasPutAlike-same by.number t lost start h refl refl alike)

      -- the session that was rebased may commit
      carried : (u : SessionState) (journal : List Event) → ((n : ℕ) × CameToHead by.number policy lost u n (start ++ since) journal) ⊎ WasUpToDate by.number lost u (start ++ since) journal → WasCarried by.number policy (suc count) s u start journal
      unfolding WasCarried
      carried u journal w = (t, lost, since, subst (λ (x : List Event). WasCarried by.number policy count s t start x) there c, was_lost, w)

      stands : (u : SessionState) (journal : List Event) → MadeGets by.number h journal → ((n : ℕ) × CameToHead by.number policy lost u n (start ++ since) journal) ⊎ WasUpToDate by.number lost u (start ++ since) journal
          → HasPutAlike by.number u start journal → u.ids ≡ next → CanGoOn (Ok (UpToDate u)) journal → Owns ids by.number u start journal → From journal → Stands (suc count) u journal
      stands u journal gets w put drawn goes owned from = record {
        few = less;
        carried = carried u journal w;
        alike = put;
        ready = record { opened = goes.1; spelled = goes.0; later = subst (IsLater ids) (sym drawn) ready.later; owned = owned };
        nothing = nothing journal gets;
        came = from;
      }

      abbrev Rebases : Result Rebased Refusal → List Event → Type 0
      Rebases answer journal = From journal × (RebaseTells by.number policy lost h answer journal × (CanGoOn answer journal × OwnsOn ids by.number start answer journal))

      rebased : (again : SessionState → Play Outcome) → ((u : SessionState) (journal : List Event) → Stands (suc count) u journal → Well (again u) journal)
          → (answer : Result Rebased Refusal) (journal : List Event) → Rebases answer journal → Well (after_rebase l.number shown again answer) journal
      unfolding PlayKeeps PlayLeads
      rebased again go (Ok (OnHead u n)) journal q =
          let w = (tells (Ok (OnHead u n)) journal q.1.0).0 in
          let put = moved-alike by.number policy lost u n (start ++ since) journal start journal w (puts journal q.1.0.1) in
          let on = go u journal (stands u journal q.1.0.1 (inl (n, w)) put (ap (λ (x : SessionState). x.ids) w.becomes) q.1.1.0 q.1.1.1 q.0) in
          let off = starved journal (nothing journal q.1.0.1) in
          ((on.0, off.0), (on.1, off.1))
      rebased again go (Ok (UpToDate u)) journal q =
          let w = (tells (Ok (UpToDate u)) journal q.1.0).0 in
          let put = up_to_date-alike by.number lost u (start ++ since) journal start journal w (puts journal q.1.0.1) in
          let on = go u journal (stands u journal q.1.0.1 (inr w) put (ap (λ (x : SessionState). x.ids) w.becomes) q.1.1.0 q.1.1.1 q.0) in
          let off = starved journal (nothing journal q.1.0.1) in
          ((on.0, off.0), (on.1, off.1))
      rebased again go (Err why) journal q =
          let few : count ≤ tries_of access = omega (arith, less) in
          let c' = subst (λ (x : List Event). WasCarried by.number policy count s t start x) (sym q.1.0.1.is) (WasCarried-append by.number policy count s t start h q.1.0.1.more c) in
          tried count t (Refused l.number why) journal few c'
          (inr (inr (inr (inr (record { left = less; lost = lost; since = since; was_lost = was_lost; alike = puts journal q.1.0.1; why = why; tells = tells (Err why) journal q.1.0; nothing = nothing journal q.1.0.1; end_is = refl })))))

      rebase-called : (again : SessionState → Play Outcome) → ((u : SessionState) (journal : List Event) → Stands (suc count) u journal → Well (again u) journal) → Well (call (rebase_program policy lost) (after_rebase l.number shown again)) h
      rebase-called again go =
          let p = rebase_program policy lost in
          let both = Keeps-both (λ j client op. IsPolite j op) (λ j client op. IsGet op) by p h (law.told.polite h) (law.gets h) in
          let careful = Keeps-own (λ j client op. IsPolite j op × IsGet op) (IsCareful ids Mine) by (λ j op k. record { polite = k.0; owes = get-owes ids Mine j op k.1 }) p h both in
          let says : Result Rebased Refusal → List Event → Type 0 = λ answer j. RebaseTells by.number policy lost h answer j × (CanGoOn answer j × OwnsOn ids by.number start answer j) in
          called-well by ids access Mine start (l ∷ ls) s shown p (after_rebase l.number shown again) Rebases h
          careful
          (law.stays start h moved.nothing)
          (Keeps-own (λ j client op. IsGet op) (λ j client op. OwesOwn ids client start op j) by (λ j op g. get-own ids by.number start j op g) p h (law.gets h))
          (Leads-good From from-append ids Mine by says p h careful came
          (Leads-both (RebaseTells by.number policy lost h) (λ answer j. CanGoOn answer j × OwnsOn ids by.number start answer j) by p h (law.told.leads h)
          (Leads-both CanGoOn (OwnsOn ids by.number start) by p h (law.goes_on h ready.spelled ready.opened) (law.owns ids start h ready.owned))))
          (rebased again go)
          starved

    -- ---- as often as it may
    pub tries-well : (left count : ℕ) → count + left ≡ tries_of access → (t : SessionState) (journal : List Event) → Stands count t journal → Well (commit_play left policy l.number shown message t) journal
    unfolding commit_play
    tries-well zero count all t journal x =
        let spent : count ≡ tries_of access = omega (arith, all) in
        commit-called count t journal x (λ old found next. refused l.number shown (LostRace old found)) (λ old found next h moved c opened came alike owned. spent-well count t spent old found next h moved c)
    tries-well (suc left) count all t journal x =
        let more : suc count + left ≡ tries_of access = omega (arith, all) in
        let less : count < tries_of access = omega (arith, all) in
        commit-called count t journal x (λ old found next. call (rebase_program policy (record t { ids = next })) (after_rebase l.number shown (commit_play left policy l.number shown message)))
        (λ old found next h moved c opened came alike owned.
        rebase-called count t less old found next h moved c (record { opened = other-opened t next h opened; spelled = other-spelled t next x.ready.spelled; later = later-later ids t.ids next x.ready.later moved.next_is; owned = owned }) came alike (commit_play left policy l.number shown message)
        (λ u j y. tries-well left (suc count) more u j y))
