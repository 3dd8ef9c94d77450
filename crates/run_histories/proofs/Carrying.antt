-- Sessions of tasks at their commits: what lines and the commits of others leave of them, whatever the journal.
use Rattle.std.proofs.Common.{◌≡◌, inl, inr, ℕ, zero, suc, List, [], ◌∷◌, ◌++◌, refl, sym, ◌∙◌, ap, subst, append_assoc}
use Rattle.std.specs.Prelude.{All}
use Rattle.std.specs.FinMap.{FinMap}
use Rattle.ice_ids.specs.declared.Id12.{Id12}
use Rattle.ice_ids.specs.declared.drawing.AnyIds.{AnyIds}
use Rattle.ice_ids.specs.declared.drawing.Draw.{Draw}
use Rattle.zarr_path.specs.Paths.{path_cmp}
use Rattle.zarr_tree.specs.Nodes.{Node}
use Rattle.zarr_tree.specs.Held.{Held}
use Rattle.manifest_file.specs.declared.manifest.Place.{Place}
use Rattle.repo_objects.specs.Trees.{nodes_in}
use Rattle.conflicts.specs.declared.solving.Policy.{Policy}
use Rattle.object_store.specs.declared.events.Event.{Event}
use Rattle.object_store.proofs.Journals.{Each-weaker}
use Rattle.session.specs.Sessions.{SessionState}
use Rattle.session.specs.Sources.{IsLater, MayDrawObject}
use Rattle.commit_path.specs.Opened.{WasBegun}
use Rattle.commit_path.specs.Single.{IsAlike, PutsAlike, HasPutAlike}
use Rattle.commit_path.proofs.Sources.{later-same, later-later, object-later}
use Rattle.rebase.specs.Along.{Link, Solves, left_at, solved_at, first_hidden, along}
use Rattle.rebase.proofs.Following.{past-solves}
use Rattle.script_calls.specs.declared.calls.Access.{Access}
use Rattle.play_script.specs.declared.scripts.Task.{Task}
use Rattle.play_script.specs.Well.{IsWellLine, IsWellTask}
use Rattle.play_tasks.specs.Playing.{asked_by, policy_of}
use Rattle.play_tasks.specs.Solving.{WasLost, WasRebased, WasCarried, IsOfTask}
use Rattle.run_histories.proofs.Drawing.{IsDrawnBy, AreOf, object-draws, access-ids}
use Rattle.run_histories.proofs.Edits.{GoesOn}
use Rattle.run_histories.proofs.Editing.{WentOn, all-front, lines-went, begun-goes}

-- ---- a journal that another one is the beginning of
pub record IsFront (journal whole : List Event) : Type 0 where
  pub more : List Event
  pub is : whole ≡ journal ++ more

pub front-front : (a b c : List Event) → IsFront a b → IsFront b c → IsFront a c
front-front a b c p q = record { more = p.more ++ q.more; is = q.is ∙ ap (λ (j : List Event). j ++ q.more) p.is ∙ append_assoc a p.more q.more }

-- ---- what a rebase leaves of what is held
-- the same nodes are added and dropped, and have the same other texts
pub record HoldsSame (g h : Held Place) : Type 0 where
  pub added : g.added ≡ h.added
  pub dropped : g.dropped ≡ h.dropped
  pub metas : g.metas ≡ h.metas

pub holds-refl : (h : Held Place) → HoldsSame h h
holds-refl h = record { added = refl; dropped = refl; metas = refl }

pub holds-trans : (f g h : Held Place) → HoldsSame f g → HoldsSame g h → HoldsSame f h
holds-trans f g h p q = record { added = p.added ∙ q.added; dropped = p.dropped ∙ q.dropped; metas = p.metas ∙ q.metas }

pub along-holds : (policy : Policy) (held left : Held Place) (before : FinMap path_cmp Node) (links : List Link) → along policy held before links ≡ Solves left → HoldsSame left held
unfolding along
along-holds policy held left before [] e = let same : held ≡ left = cc e in subst (λ (h : Held Place). HoldsSame h held) same (holds-refl held)
along-holds policy held left before (l ∷ ls) e =
    let g = past-solves l.file.id (left_at policy held before l) (first_hidden (nodes_in l.file.nodes) held.metas) (along policy (solved_at policy held before l) (nodes_in l.file.nodes) ls) left e in
    let further = along-holds policy (solved_at policy held before l) left (nodes_in l.file.nodes) ls g.goes_on in
    record { added = further.added; dropped = further.dropped; metas = further.metas }

-- ---- a session that was carried
-- it is of the same source, with the same nodes added and dropped
pub record IsSameSession (s t : SessionState) : Type 0 where
  pub later : IsLater s.ids t.ids
  pub holds : HoldsSame t.held s.held

same-session : (s : SessionState) → IsSameSession s s
same-session s = record { later = later-same s.ids; holds = holds-refl s.held }

session-session : (s t u : SessionState) → IsSameSession s t → IsSameSession t u → IsSameSession s u
session-session s t u p q = record { later = later-later s.ids t.ids u.ids p.later q.later; holds = holds-trans u.held t.held s.held q.holds p.holds }

module _ (client : ℕ) (policy : Policy) where
  pub lost-same : (s t : SessionState) (start journal : List Event) → WasLost client s t start journal → IsSameSession s t
  lost-same s t start journal w =
      subst (IsSameSession s) (sym w.becomes) (record { later = w.moved.next_is; holds = holds-refl s.held })

  pub rebased-same : (s t : SessionState) (start journal : List Event) → WasRebased client policy s t start journal → IsSameSession s t
  rebased-same s t start journal (inl (count, m)) =
      subst (IsSameSession s) (sym m.becomes) (record { later = later-same s.ids; holds = along-holds policy s.held m.held (nodes_in s.rows) m.solved.links m.solved.solved })
  rebased-same s t start journal (inr u) = subst (IsSameSession s) (sym u.becomes) (record { later = later-same s.ids; holds = holds-refl s.held })

  -- the journal behind a rebase goes on from the one before it
  pub rebased-front : (s t : SessionState) (start journal : List Event) → WasRebased client policy s t start journal → IsFront start journal
  rebased-front s t start journal (inl (count, m)) =
      let own = m.solved.met.ref.got.own in
      record { more = own.since ++ own.event ∷ own.after; is = own.is ∙ ap (λ (j : List Event). j ++ own.event ∷ own.after) own.before_is ∙ append_assoc start own.since (own.event ∷ own.after) }
  rebased-front s t start journal (inr u) =
      let own = u.ref.got.own in
      record { more = own.since ++ own.event ∷ own.after; is = own.is ∙ ap (λ (j : List Event). j ++ own.event ∷ own.after) own.before_is ∙ append_assoc start own.since (own.event ∷ own.after) }

  pub carried-same : (count : ℕ) (s t : SessionState) (start journal : List Event) → WasCarried client policy count s t start journal → IsSameSession s t
  unfolding WasCarried
  carried-same zero s t start journal c = subst (IsSameSession s) (sym c) (same-session s)
  carried-same (suc count) s t start journal c =
      let mid : SessionState = c.0 in
      let lost : SessionState = c.1 in
      session-session s mid t (carried-same count s mid start (start ++ c.2) c.3)
      (session-session mid lost t (lost-same mid lost start (start ++ c.2) c.4) (rebased-same lost t (start ++ c.2) journal c.5))

-- ---- snapshots of one session
-- the client's snapshots are like those of any session with the same nodes added and dropped
alike-held : (s t : SessionState) (id : Id12) (bytes : List ℕ) → HoldsSame t.held s.held → IsAlike t id bytes → IsAlike s id bytes
alike-held s t id bytes h a = record { session = a.session; added = a.added ∙ h.added; dropped = a.dropped ∙ h.dropped; snap = a.snap; read = a.read; nodes = a.nodes }

pub alike-back : (client : ℕ) (s t : SessionState) (start journal : List Event) → HoldsSame t.held s.held → HasPutAlike client t start journal → HasPutAlike client s start journal
alike-back client s t start journal h p = record {
  more = p.more;
  is = p.is;
  each = Each-weaker (PutsAlike client t) (PutsAlike client s) (λ before event a own id bytes why e. alike-held s t id bytes h (a own id bytes why e)) start p.more p.each;
}

-- ---- a task
pub opened-goes : (ids : AnyIds) (access : Access) (client : ℕ) (start journal : List Event) (opened : SessionState) → WasBegun client (asked_by access ids) opened start journal → GoesOn ids opened
opened-goes ids access client start journal opened b = begun-goes ids opened (ap (λ (x : SessionState). x.ids) b.begins ∙ access-ids access ids) (ap (λ (x : SessionState). x.held) b.begins)

module _ (ids : AnyIds) (task : Task) (client : ℕ) (start journal : List Event) where
  module _ (t : SessionState) (id : Id12) (well : IsWellTask task) (o : IsOfTask ids task client start journal t id) where
    pub task-lines : WentOn ids o.opened o.session
    task-lines =
        let lines : All IsWellLine o.came.played = all-front IsWellLine o.came.played (o.came.line ∷ o.came.left) (subst (All IsWellLine) o.came.body_is well.body) in
        lines-went ids client start journal o.came.played o.opened o.session o.came.shown lines (opened-goes ids o.access client start journal o.opened o.begun) o.came.plays

    pub task-carried : IsSameSession o.session t
    task-carried = carried-same client (policy_of o.access) o.count o.session t start journal o.carried

    -- the id of the commit is one that the task's source may draw
    pub task-object : MayDrawObject ids id
    task-object = object-later ids t.ids id (later-later ids o.session.ids t.ids task-lines.goes.later task-carried.later) o.drawn

    -- so it was drawn by the task's client
    pub task-draws : (draw : Draw) (other : ℕ) → AreOf draw other ids → IsDrawnBy draw other id
    task-draws draw other known = object-draws draw other ids id known task-object
