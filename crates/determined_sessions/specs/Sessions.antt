-- That the sessions of tasks are determined. (Own.)
use Rattle.std.specs.Prelude.{◌≡◌, ◌≢◌, ℕ, zero, suc, List, [], ◌∷◌, ◌++◌}
use Rattle.std.proofs.Common.{inl, inr}
use Rattle.ice_ids.specs.declared.Id12.{Id12}
use Rattle.ice_ids.specs.declared.drawing.AnyIds.{AnyIds}
use Rattle.conflicts.specs.declared.solving.Policy.{Policy}
use Rattle.object_store.specs.declared.keys.Key.{Key}
use Rattle.object_store.specs.declared.keys.Key.TheVariants.{Snapshot}
use Rattle.object_store.specs.declared.events.Op.TheVariants.{Get}
use Rattle.object_store.specs.declared.events.Event.{Event}
use Rattle.repo_read.specs.declared.resolving.At.{At}
use Rattle.repo_read.specs.declared.resolving.Named.{Named}
use Rattle.repo_read.specs.Naming.{WasResolved, key_of}
use Rattle.session.specs.Sessions.{SessionState}
use Rattle.session.specs.Opening.{Asked}
use Rattle.commit_path.specs.Opened.{WasBegun}
use Rattle.rebase.specs.Along.{Link}
use Rattle.play_script.specs.declared.scripts.Line.{Line}
use Rattle.play_script.specs.declared.scripts.Task.{Task}
use Rattle.play_outcome.specs.declared.outcome.Shown.{Shown}
use Rattle.play_tasks.specs.Bases.{MadeAlone}
use Rattle.play_tasks.specs.Lines.{LineDeed, Goes, Sets, Reads, Puts}
use Rattle.play_tasks.specs.Lines.{Gathers, Leases, Commits, deed}
use Rattle.play_tasks.specs.Playing.{policy_of}
use Rattle.play_tasks.specs.Solving.{DidPlay, PlaysAll, WasRebased, WasCarried, IsOfTask}

-- ---- boxes
-- the chunks that a box of a line was put into, each with its bytes; other lines put no box
abbrev pub box_put : (client : ℕ) (d : LineDeed) (s : SessionState)
    (start : List Event) (shown : List Shown) (t : SessionState) (journal : List Event)
    → DidPlay client d s start shown t journal → List (List ℕ × List ℕ)
box_put client (Goes went) s start shown t journal did = []
box_put client (Sets path index bytes) s start shown t journal did = []
box_put client (Reads path index show) s start shown t journal did = []
box_put client (Puts path from to numbers) s start shown t journal did = did.1.chunks
box_put client (Gathers path from to show) s start shown t journal did = []
box_put client (Leases show) s start shown t journal did = []
box_put client (Commits message) s start shown t journal did = []

-- the same of lines, for each in its turn
unfoldable pub boxes_put : (client : ℕ) (lines : List Line) (s : SessionState)
    (start : List Event) (shown : List Shown) (t : SessionState) (journal : List Event)
    → PlaysAll client lines s start shown t journal → List (List (List ℕ × List ℕ))
unfolding PlaysAll
boxes_put client [] s start shown t journal played = []
boxes_put client (l ∷ ls) s start shown t journal played =
    box_put client (deed l.number l.call s) s start played.0 played.2 journal played.4
    ∷ boxes_put client ls played.2 start played.1 t journal played.5

-- of the lines that led a task's session to its commit
abbrev pub boxes_of : (ids : AnyIds) (task : Task) (client : ℕ)
    (start journal : List Event) (t : SessionState) (id : Id12)
    → IsOfTask ids task client start journal t id → List (List (List ℕ × List ℕ))
boxes_of ids task client start journal t id a =
    boxes_put client a.came.played a.opened start a.came.shown a.session journal a.came.plays

-- ---- lines
-- Lines lead from a session to one session alone, whoever plays them, and whatever journals tell of
-- it, as long as their boxes were put into chunks of the same bytes: a box's chunks have, beside
-- its numbers, what was read of them.
abbrev pub LinesLaw : Type 0
LinesLaw =
    (client other : ℕ) (lines : List Line) (s t u : SessionState)
    (start journal begun whole : List Event) (shown told : List Shown)
    → (p : PlaysAll client lines s start shown t journal)
    (q : PlaysAll other lines s begun told u whole)
    → boxes_put client lines s start shown t journal p
    ≡ boxes_put other lines s begun told u whole q
    → t ≡ u

-- ---- where they begin
-- since `start` no operation of the client was a get of this key
abbrev pub NeverGot : (client : ℕ) (key : Key) (start journal : List Event) → Type 0
NeverGot client key start journal = MadeAlone (λ op. op ≢ Get key) client start journal

-- the journal at the get of the ref that was asked for; where a snapshot is
-- asked for by its id, no ref is
abbrev pub asked_before : (client : ℕ) (at : At) (named : Named) (start journal : List Event)
    → WasResolved client at named start journal → List Event
asked_before client (At.Branch branch) named start journal resolved = resolved.read.got.own.before
asked_before client (At.Tag tag) named start journal resolved = resolved.1.read.got.own.before
asked_before client (At.Snapshot id) named start journal resolved = start

-- A session began at its client's first get of what was asked for, and
-- its first get of the snapshot.
pub record BeganAtFirst (client : ℕ) (a : Asked) (s : SessionState) (start journal : List Event)
    (was : WasBegun client a s start journal) : Type 0 where
  pub named : NeverGot client (key_of a.at)
      start (asked_before client a.at was.named start journal was.resolved)
  pub got : NeverGot client (Snapshot s.base) start was.got.own.before

-- So one session alone began, where one thing was asked for, and this is what its gets told: what
-- is named, and the bytes of that snapshot.
abbrev pub FirstLaw : Type 0
FirstLaw =
    (client : ℕ) (a : Asked) (s t : SessionState) (start journal : List Event)
    (x : WasBegun client a s start journal) (y : WasBegun client a t start journal)
    → BeganAtFirst client a s start journal x → BeganAtFirst client a t start journal y
    → (x.named ≡ y.named) × (x.bytes ≡ y.bytes) × (s ≡ t)

-- Two sessions of a task, which draws these ids, began alike, their client's gets being told the
-- same, and their boxes were put into chunks of the same bytes. Then they were one session when
-- they came to the line that commits it.
abbrev pub SessionsLaw : Type 0
SessionsLaw =
    (ids : AnyIds) (task : Task) (client : ℕ)
    (start journal whole : List Event) (t u : SessionState) (id other : Id12)
    → (a : IsOfTask ids task client start journal t id)
    (b : IsOfTask ids task client start whole u other)
    → a.begun.named ≡ b.begun.named → a.begun.bytes ≡ b.begun.bytes
    → boxes_of ids task client start journal t id a ≡ boxes_of ids task client start whole u other b
    → a.session ≡ b.session

-- ---- carried over the commits of others
-- the commits over which a rebase led the session, if its branch had moved on
abbrev pub links_read : (client : ℕ) (policy : Policy)
    (s t : SessionState) (start journal : List Event)
    → WasRebased client policy s t start journal → List Link
links_read client policy s t start journal (inl moved) = moved.1.solved.links
links_read client policy s t start journal (inr was) = []

-- the commits over which a session was carried, as its client read them, the first one first
unfoldable pub links_met : (client : ℕ) (policy : Policy)
    (count : ℕ) (s t : SessionState) (start journal : List Event)
    → WasCarried client policy count s t start journal → List Link
unfolding WasCarried
links_met client policy zero s t start journal was = []
links_met client policy (suc count) s t start journal was =
    links_met client policy count s was.0 start (start ++ was.2) was.3
    ++ links_read client policy was.1 t (start ++ was.2) journal was.5

-- If both were carried over the same commits, in however many rebases, they hold the same at last:
-- so they have the same solved changes.
abbrev pub SolvedLaw : Type 0
SolvedLaw =
    (ids : AnyIds) (task : Task) (client : ℕ)
    (start journal whole : List Event) (t u : SessionState) (id other : Id12)
    → (a : IsOfTask ids task client start journal t id)
    (b : IsOfTask ids task client start whole u other)
    → a.begun.named ≡ b.begun.named → a.begun.bytes ≡ b.begun.bytes
    → boxes_of ids task client start journal t id a ≡ boxes_of ids task client start whole u other b
    → links_met client (policy_of a.access) a.count a.session t start journal a.carried
    ≡ links_met client (policy_of b.access) b.count b.session u start whole b.carried
    → t.held ≡ u.held
