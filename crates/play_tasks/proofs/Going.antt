-- What lines that are left come to.
use Rattle.std.proofs.Common.{◌≡◌, ◌∙◌, inl, inr, ℕ, refl, sym, ap, subst, List, [], ◌∷◌, ◌++◌, append_assoc, append-nil, Result, Err}
use Rattle.ice_ids.specs.declared.drawing.AnyIds.{AnyIds}
use Rattle.conflicts.specs.declared.solving.Policy.{Policy}
use Rattle.object_store.specs.declared.events.Event.{Event}
use Rattle.store_api.specs.declared.machines.Refusal.{Refusal}
use Rattle.store_api.specs.declared.machines.Refusal.TheVariants.{NoMemory}
use Rattle.store_api.specs.Journal.{Each, IsGood}
use Rattle.store_api.specs.Callers.{Caller}
use Rattle.store_api.specs.Program.{Prog, Keeps, Leads}
use Rattle.store_api.specs.Plays.{Play, call, Stays, PlayKeeps, PlayLeads}
use Rattle.store_api.specs.Telling.{ChangedNothing}
use Rattle.store_api.proofs.Programs.{Keeps-weaker}
use Rattle.store_api.proofs.PlayLaws.{PlayKeeps-call, PlayLeads-call}
use Rattle.session.specs.Sessions.{SessionState}
use Rattle.commit_path.specs.Owed.{Sessions, IsCareful}
use Rattle.commit_path.specs.Laws.{OpeningLaw, SessionLaw, CommitLaw}
use Rattle.commit_path.specs.Own.{OwesOwn, OwningLaw}
use Rattle.commit_path.specs.Single.{HasPutNone, SingleLaw}
use Rattle.region_calls.specs.ChunkLaws.{SetLaw, GetLaw, OwningCallsLaw}
use Rattle.region_calls.proofs.Lasting.{WasSet-append, IsChunk-append}
use Rattle.region_calls.specs.Laws.{RegionLaw, RegionSetLaw, OwningRegionLaw}
use Rattle.rebase.specs.Laws.{RebaseLaw}
use Rattle.settle.specs.Laws.{SettleLaw}
use Rattle.play_refs.specs.Laws.{RefsTaskLaw}
use Rattle.play_collect.specs.Laws.{CollectTaskLaw}
use Rattle.play_expire.specs.Laws.{ExpireTaskLaw}
use Rattle.play_check.specs.Laws.{CheckTaskLaw}
use Rattle.script_calls.specs.declared.calls.Access.{Access}
use Rattle.play_script.specs.declared.scripts.Line.{Line}
use Rattle.play_outcome.specs.declared.outcome.Shown.{Shown}
use Rattle.play_outcome.specs.declared.outcome.End.{End}
use Rattle.play_outcome.specs.declared.outcome.End.TheVariants.{Refused}
use Rattle.play_outcome.specs.declared.outcome.Outcome.{Outcome}
use Rattle.leases.specs.Laws.{LeaseLaw}
use Rattle.std.specs.Prelude.{All}
use Rattle.std.proofs.lemmas.List.Elements.{All-nil, All-append}
use Rattle.play_tasks.proofs.Released.{IsDrawnLease}
use Rattle.play_tasks.specs.Lines.{LineDeed, Goes, Sets, Reads, Puts, Gathers, Leases, Commits, deed}
use Rattle.play_outcome.specs.Playing.{ended}
use Rattle.play_tasks.specs.Solving.{DidPlay, PlaysAll, CameToCommit}
use Rattle.play_tasks.specs.Telling.{Refuses, EndsAt, IsSilent}
use Rattle.play_tasks.proofs.Boxing.{AreCells-append, WasWritten-append}
use Rattle.play_tasks.proofs.Carrying.{Minds, Keeps-minds, careful-more}

-- the laws on which tasks stand
pub record Laws : Type 0 where
  pub opening : OpeningLaw
  pub session : SessionLaw
  pub commit : CommitLaw
  pub single : SingleLaw
  pub owning : OwningLaw
  pub rebase : (by : Caller) (policy : Policy) (s : SessionState) → RebaseLaw by policy s
  pub settle : (by : Caller) → SettleLaw by
  pub set : SetLaw
  pub get : GetLaw
  pub calls : OwningCallsLaw
  pub gather : RegionLaw
  pub put : RegionSetLaw
  pub boxes : OwningRegionLaw
  pub leases : (by : Caller) → LeaseLaw by
  pub refs : RefsTaskLaw
  pub collect : CollectTaskLaw
  pub expire : ExpireTaskLaw
  pub check : CheckTaskLaw

-- ---- what was told of a line stays so, whatever good events come
pub DidPlay-append : (client : ℕ) (d : LineDeed) (s : SessionState) (start : List Event) (shown : List Shown) (t : SessionState) (journal more : List Event) → Each IsGood journal more → DidPlay client d s start shown t journal → DidPlay client d s start shown t (journal ++ more)
DidPlay-append client (Goes went) s start shown t journal more g x = x
DidPlay-append client (Sets path index bytes) s start shown t journal more g x = (x.0, WasSet-append client s path index bytes start journal more t x.1)
DidPlay-append client (Reads path index show) s start shown t journal more g x = (x.0, x.1, x.2, IsChunk-append s path index x.1 journal more g x.3)
DidPlay-append client (Puts path from to numbers) s start shown t journal more g x = (x.0, WasWritten-append client s path from to numbers t start journal more g x.1)
DidPlay-append client (Gathers path from to show) s start shown t journal more g x = (x.0, x.1, x.2, AreCells-append s path from to x.1 journal more g x.3)
DidPlay-append client (Leases show) s start shown t journal more g x = record {
  id = x.id;
  drawn = x.drawn;
  witness = x.witness;
  witness_is = x.witness_is;
  since = x.since;
  until = x.until;
  more = x.more ++ more;
  is = ap (λ (h : List Event). h ++ more) x.is ∙ append_assoc (start ++ x.since ++ x.until) x.more more;
  leased = x.leased;
  shown_is = x.shown_is;
  becomes = x.becomes;
}
DidPlay-append client (Commits message) s start shown t journal more g x = x

pub PlaysAll-append : (client : ℕ) (ls : List Line) (s : SessionState) (start : List Event) (shown : List Shown) (t : SessionState) (journal more : List Event) → Each IsGood journal more → PlaysAll client ls s start shown t journal → PlaysAll client ls s start shown t (journal ++ more)
unfolding PlaysAll
PlaysAll-append client [] s start shown t journal more g p = p
PlaysAll-append client (l ∷ ls) s start shown t journal more g p = (p.0, p.1, p.2, p.3, DidPlay-append client (deed l.number l.call s) s start p.0 p.2 journal more g p.4, PlaysAll-append client ls p.2 start p.1 t journal more g p.5)

pub CameToCommit-append : (client : ℕ) (body : List Line) (opened : SessionState) (start journal more : List Event) (s : SessionState) → Each IsGood journal more → CameToCommit client body opened start journal s → CameToCommit client body opened start (journal ++ more) s
CameToCommit-append client body opened start journal more s g c = record {
  played = c.played;
  line = c.line;
  left = c.left;
  body_is = c.body_is;
  shown = c.shown;
  plays = PlaysAll-append client c.played opened start c.shown s journal more g c.plays;
  message = c.message;
  commits = c.commits;
}

-- ---- the lines before
-- lines were played on a session that was opened, and these lines of the body are left
abbrev pub Came : (client : ℕ) (body : List Line) (opened : SessionState) (start : List Event) (left : List Line) (s : SessionState) (journal : List Event) → Type 0
Came client body opened start left s journal = (played : List Line) × (shown : List Shown) × (body ≡ played ++ left) × PlaysAll client played opened start shown s journal

pub Came-append : (client : ℕ) (body : List Line) (opened : SessionState) (start : List Event) (left : List Line) (s : SessionState) (journal more : List Event) → Each IsGood journal more → Came client body opened start left s journal → Came client body opened start left s (journal ++ more)
Came-append client body opened start left s journal more g c = (c.0, c.1, c.2, PlaysAll-append client c.0 opened start c.1 s journal more g c.3)

pub plays-last : (client : ℕ) (played : List Line) (l : Line) (s mid t : SessionState) (start : List Event) (shown first : List Shown) (journal : List Event) → PlaysAll client played s start shown mid journal → DidPlay client (deed l.number l.call mid) mid start first t journal
    → PlaysAll client (played ++ l ∷ []) s start (shown ++ first) t journal
unfolding PlaysAll
plays-last client [] l s mid t start shown first journal p d =
    (first, [], t, ap (λ (x : List Shown). x ++ first) p.0 ∙ sym (append-nil first), subst (λ (x : SessionState). DidPlay client (deed l.number l.call x) x start first t journal) p.1 d, (refl, refl))
plays-last client (x ∷ xs) l s mid t start shown first journal p d =
    (p.0, p.1 ++ first, p.2, ap (λ (y : List Shown). y ++ first) p.3 ∙ append_assoc p.0 p.1 first, p.4, plays-last client xs l p.2 mid t start p.1 first journal p.5 d)

-- one more was played
pub came-on : (client : ℕ) (body : List Line) (opened : SessionState) (start : List Event) (l : Line) (ls : List Line) (s mid : SessionState) (first : List Shown) (journal : List Event) → DidPlay client (deed l.number l.call s) s start first mid journal
    → Came client body opened start (l ∷ ls) s journal → Came client body opened start ls mid journal
came-on client body opened start l ls s mid first journal d c = (c.0 ++ l ∷ [], c.1 ++ first, c.2 ∙ sym (append_assoc c.0 (l ∷ []) ls), plays-last client c.0 l opened s mid start c.1 first journal c.3 d)

-- ---- the lines that are left
-- what these lines come to on a session, where this was shown before them
pub record Ending (ids : AnyIds) (client : ℕ) (access : Access) (start : List Event) (ls : List Line) (s : SessionState) (before : List Shown) (outcome : Outcome) (journal : List Event) : Type 0 where
  pub played : List Line
  pub left : List Line
  pub body : ls ≡ played ++ left
  pub more : List Shown
  pub last : List Shown
  pub shown_is : outcome.shown ≡ before ++ (more ++ last)
  pub session : SessionState
  pub plays : PlaysAll client played s start more session journal
  pub ends : EndsAt client access left session start last outcome.end journal
  pub drawn : All (IsDrawnLease ids) (more ++ last)

pub plays-none : (client : ℕ) (s : SessionState) (start journal : List Event) → PlaysAll client [] s start [] s journal
unfolding PlaysAll
plays-none client s start journal = (refl, refl)

plays-more : (client : ℕ) (l : Line) (ls : List Line) (s mid t : SessionState) (start : List Event) (first more : List Shown) (journal : List Event) → DidPlay client (deed l.number l.call s) s start first mid journal → PlaysAll client ls mid start more t journal → PlaysAll client (l ∷ ls) s start (first ++ more) t journal
unfolding PlaysAll
plays-more client l ls s mid t start first more journal d p = (first, more, mid, refl, d, p)

-- after one more line
pub one-more : (ids : AnyIds) (client : ℕ) (access : Access) (start : List Event) (l : Line) (ls : List Line) (s mid : SessionState) (before first : List Shown) (outcome : Outcome) (journal : List Event) → All (IsDrawnLease ids) first → DidPlay client (deed l.number l.call s) s start first mid journal → Ending ids client access start ls mid (before ++ first) outcome journal
    → Ending ids client access start (l ∷ ls) s before outcome journal
one-more ids client access start l ls s mid before first outcome journal drawn d e = record {
  played = l ∷ e.played;
  left = e.left;
  body = ap (λ (x : List Line). l ∷ x) e.body;
  more = first ++ e.more;
  last = e.last;
  shown_is = e.shown_is ∙ (append_assoc before first (e.more ++ e.last) ∙ ap (λ (x : List Shown). before ++ x) (sym (append_assoc first e.more e.last)));
  session = e.session;
  plays = plays-more client l e.played s mid e.session start first e.more journal d e.plays;
  ends = e.ends;
  drawn = subst (All (IsDrawnLease ids)) (sym (append_assoc first e.more e.last)) (All-append (IsDrawnLease ids) first (e.more ++ e.last) drawn e.drawn);
}

module _ (by : Caller) (ids : AnyIds) (access : Access) (mine : Sessions) (start : List Event) where
  abbrev pub Nothing : List Event → Type 0
  Nothing = ChangedNothing by.number start

  abbrev pub PutNone : List Event → Type 0
  PutNone = HasPutNone by.number start

  -- each operation of the play is minded, and it comes to what these lines come to
  abbrev pub GoesWell : List Line → SessionState → List Shown → Play Outcome → List Event → Type 0
  GoesWell ls s shown p journal = PlayKeeps (Minds ids mine start) by p journal × PlayLeads (Ending ids by.number access start ls s shown) by p journal

  -- at the first of these lines, which showed this
  pub ends-showing : (ls : List Line) (s : SessionState) (shown last : List Shown) (end : End) (journal : List Event) → All (IsDrawnLease ids) last → EndsAt by.number access ls s start last end journal → GoesWell ls s shown (ended (shown ++ last) end) journal
  unfolding PlayKeeps PlayLeads
  ends-showing ls s shown last end journal drawn e = (tt, record { played = []; left = ls; body = refl; more = []; last = last; shown_is = refl; session = s; plays = plays-none by.number s start journal; ends = e; drawn = drawn })

  -- ... which showed nothing
  pub ends-well : (ls : List Line) (s : SessionState) (shown : List Shown) (end : End) (journal : List Event) → EndsAt by.number access ls s start [] end journal → GoesWell ls s shown (ended shown end) journal
  ends-well ls s shown end journal e = subst (λ (x : List Shown). GoesWell ls s shown (ended x end) journal) (append-nil shown) (ends-showing ls s shown [] end journal (All-nil (IsDrawnLease ids)) e)

  pub refused-well : (l : Line) (ls : List Line) (s : SessionState) (shown : List Shown) (why : Refusal) (journal : List Event) → Refuses by.number (deed l.number l.call s) s start [] why journal → IsSilent (deed l.number l.call s) [] → GoesWell (l ∷ ls) s shown (ended shown (Refused l.number why)) journal
  refused-well l ls s shown why journal r quiet = ends-well (l ∷ ls) s shown (Refused l.number why) journal (inl (record { why = why; refuses = r; quiet = quiet; end_is = refl }))

  pub starved-well : (l : Line) (ls : List Line) (s : SessionState) (shown : List Shown) (journal : List Event) → Nothing journal → GoesWell (l ∷ ls) s shown (ended shown (Refused l.number NoMemory)) journal
  starved-well l ls s shown journal c = ends-well (l ∷ ls) s shown (Refused l.number NoMemory) journal (inr (inl (record { quiet = refl; end_is = refl; nothing = c })))

  -- a call of a machine, and then what follows its answer
  pub called-well : {A : Type 0} (ls : List Line) (s : SessionState) (shown : List Shown) (p : Prog (Result A Refusal)) (f : Result A Refusal → Play Outcome) (Q : Result A Refusal → List Event → Type 0) (journal : List Event)
      → Keeps (IsCareful ids mine) by p journal → Stays Nothing by p journal → Keeps (λ h client op. OwesOwn ids client start op h) by p journal → Leads Q by p journal
      → ((answer : Result A Refusal) (h : List Event) → Q answer h → GoesWell ls s shown (f answer) h) → ((h : List Event) → Nothing h → GoesWell ls s shown (f (Err NoMemory)) h) → GoesWell ls s shown (call p f) journal
  called-well ls s shown p f Q journal careful stays owns told answered starved = (
    PlayKeeps-call (Minds ids mine start) Q Nothing by p f journal (Keeps-minds ids mine start by p journal careful stays owns) told stays (λ answer h q. (answered answer h q).0) (λ h c. (starved h c).0),
    PlayLeads-call (Ending ids by.number access start ls s shown) Q Nothing by p f journal told stays (λ answer h q. (answered answer h q).1) (λ h c. (starved h c).1),
  )

-- what is owed for no session
pub none-careful : {A : Type 0} (by : Caller) (ids : AnyIds) (mine : Sessions) (p : Prog A) (journal : List Event) → Keeps (IsCareful ids (λ h t id. ⊥)) by p journal → Keeps (IsCareful ids mine) by p journal
none-careful by ids mine p journal k = Keeps-weaker (IsCareful ids (λ h t id. ⊥)) (IsCareful ids mine) (λ h client op c. careful-more ids (λ j t id. ⊥) mine h (λ t id none. absurd none) client op c) by p journal k
