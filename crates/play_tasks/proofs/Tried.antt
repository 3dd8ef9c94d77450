-- Sessions that commit, and commit again behind rebases: what of them stays so, whatever comes.
use Rattle.std.proofs.Common.{◌≤◌, inl, inr, ℕ, zero, suc, List, [], ◌++◌}
use Rattle.ice_ids.specs.declared.Id12.{Id12}
use Rattle.ice_ids.specs.declared.drawing.AnyIds.{AnyIds}
use Rattle.conflicts.specs.declared.solving.Policy.{Policy}
use Rattle.object_store.specs.declared.keys.Key.TheVariants.{Branch}
use Rattle.object_store.specs.declared.events.Event.{Event}
use Rattle.session.specs.Sessions.{SessionState, branch_of}
use Rattle.session.specs.Sources.{MayDrawObject}
use Rattle.commit_path.specs.Opened.{IsOpened}
use Rattle.commit_path.specs.Single.{HasPutAlike}
use Rattle.commit_path.specs.Spelled.{IsSpelled}
use Rattle.rebase.specs.Telling.{CameToHead, WasUpToDate}
use Rattle.rebase.proofs.Kept.{ref-append, met-append}
use Rattle.script_calls.specs.declared.calls.Access.{Access}
use Rattle.play_script.specs.declared.scripts.Line.{Line}
use Rattle.play_tasks.specs.Playing.{tries_of, policy_of}
use Rattle.play_tasks.specs.Solving.{CameToCommit, WasRebased, WasCarried}

-- A session at its commit, with an object id that it draws: the lines of a body led to it from this one, and it was carried over the commits of others no more often than the
-- task may try; and the client put snapshots of sessions alone that added and dropped the same nodes.
pub record IsTried (body : List Line) (opened : SessionState) (client : ℕ) (access : Access) (start journal : List Event) (t : SessionState) (id : Id12) : Type 0 where
  pub session : SessionState
  pub came : CameToCommit client body opened start journal session
  pub count : ℕ
  pub few : count ≤ tries_of access
  pub carried : WasCarried client (policy_of access) count session t start journal
  pub alike : HasPutAlike client t start journal
  pub drawn : MayDrawObject t.ids id

-- ---- sessions that were carried
module _ (client : ℕ) (policy : Policy) (s t : SessionState) (start journal more : List Event) where
  moved-append : (count : ℕ) → CameToHead client policy s t count start journal → CameToHead client policy s t count start (journal ++ more)
  moved-append count w = record {
    head = w.head;
    version = w.version;
    snap = w.snap;
    held = w.held;
    solved = record {
      links = w.solved.links;
      met = met-append client start journal more s w.head w.version w.solved.links [] w.solved.met;
      solved = w.solved.solved;
      before = w.solved.before;
      lists = w.solved.lists;
      last = w.solved.last;
      count_is = w.solved.count_is;
    };
    few = w.few;
    becomes = w.becomes;
  }

  same-append : WasUpToDate client s t start journal → WasUpToDate client s t start (journal ++ more)
  same-append w = record { version = w.version; ref = ref-append client start journal more (Branch (branch_of s)) w.version s.base w.ref; becomes = w.becomes }

  rebased-append : WasRebased client policy s t start journal → WasRebased client policy s t start (journal ++ more)
  rebased-append (inl w) = inl (w.0, moved-append w.0 w.1)
  rebased-append (inr w) = inr (same-append w)

-- so it is of the client's own gets
pub WasCarried-append : (client : ℕ) (policy : Policy) (count : ℕ) (s t : SessionState) (start journal more : List Event) → WasCarried client policy count s t start journal → WasCarried client policy count s t start (journal ++ more)
unfolding WasCarried
WasCarried-append client policy zero s t start journal more c = c
WasCarried-append client policy (suc count) s t start journal more c = (c.0, c.1, c.2, c.3, c.4, rebased-append client policy c.1 t (start ++ c.2) journal more c.5)

-- ---- sessions that draw other ids
pub other-spelled : (s : SessionState) (ids : AnyIds) → IsSpelled s → IsSpelled (record s { ids = ids })
other-spelled s ids w = record {
  base = w.base;
  of_snapshot = record { file = w.of_snapshot.file; proper = w.of_snapshot.proper; rows = w.of_snapshot.rows; files = w.of_snapshot.files };
  added = w.added;
  texts = w.texts;
  frozen = w.frozen;
  free = w.free;
  chunks = w.chunks;
  props = w.props;
  few = w.few;
}

pub other-opened : (s : SessionState) (ids : AnyIds) (journal : List Event) → IsOpened s journal → IsOpened (record s { ids = ids }) journal
other-opened s ids journal o = record { named = o.named; put = o.put; had = o.had; rows = o.rows; objects = o.objects; chunks = o.chunks }
