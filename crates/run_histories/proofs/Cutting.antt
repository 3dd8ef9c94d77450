-- What expiries of a run do, and that they alone put snapshots over.
use Rattle.std.proofs.Common.{◌≡◌, ℕ, ◌+◌, Bool, List, refl, ◌∙◌, ap, subst}
use Rattle.std.specs.Prelude.{Some, slice_get}
use Rattle.ice_ids.specs.declared.Id12.{Id12}
use Rattle.ice_ids.specs.declared.drawing.Draw.{Draw}
use Rattle.object_store.specs.declared.events.Op.{Op}
use Rattle.object_store.specs.declared.events.Event.{Event}
use Rattle.object_store.proofs.Journals.{Each-weaker}
use Rattle.collecting.specs.Runs.{walk_of}
use Rattle.collecting.specs.Walks.{MayDo}
use Rattle.commit_path.specs.Owed.{Owes}
use Rattle.expiry.specs.Owing.{IsOwed}
use Rattle.repo_check.specs.Exact.{IsRead}
use Rattle.play_expire.specs.Playing.{terms_of}
use Rattle.play_refs.specs.Telling.{OwesRefs}
use Rattle.script_calls.specs.declared.calls.Head.{Head}
use Rattle.script_calls.specs.declared.calls.Head.TheVariants.{Session, Refs, Collect, Expire, Check}
use Rattle.play_script.specs.declared.scripts.Task.{Task}
use Rattle.play_tasks.specs.Owing.{OwesBy}
use Rattle.play_tasks.specs.Solving.{IsOfTask}
use Rattle.play_tasks.specs.Tasks.{ids_at, IsOfClient}
use Rattle.run_histories.specs.Runs.{IsBy, IsRun}
use Rattle.run_histories.specs.Told.{CutsExpiring, HasExpiries, IsOfExpiry, IsPutOver, KeepsSnapshots, OwesExpiring}
use Rattle.run_histories.proofs.Firsts.{Plain, client-task, closing-plain, opening-plain, reads-alone, rest, rest-each, rest-is}
use Rattle.run_histories.proofs.Programs.{IsPlain}

-- what is plain puts no snapshot over
plain-uncut : (op : Op) (id : Id12) → IsPlain op → IsPutOver id op → ⊥
plain-uncut op id plain over = (subst IsPlain over.is plain).0

module _ (draw : Draw) (tasks : List Task) (start journal : List Event) (event : Event) (c : IsOfClient draw tasks start journal event) where
  -- where a client puts a snapshot over, its task expires
  client-cuts : (id : Id12) → IsPutOver id event.op → IsOfExpiry tasks event
  client-cuts id over = by_head c.task.head refl c.careful.owes
    where
      by_head : (head : Head) → c.task.head ≡ head → OwesBy head (ids_at draw c.place) c.task (c.place + 1) start journal event.op → IsOfExpiry tasks event
      by_head (Session access) e o = absurd (subst (Owes (ids_at draw c.place) (IsOfTask (ids_at draw c.place) c.task (c.place + 1) start) journal) over.is o)
      by_head Refs e o = absurd (subst OwesRefs over.is o)
      by_head (Collect cutoff) e o = absurd (subst (MayDo cutoff (walk_of cutoff (c.place + 1) start journal)) over.is o.may.1)
      by_head (Expire cutoff drop_branches drop_tags) e o = record { place = c.place; task = c.task; cutoff = cutoff; drop_branches = drop_branches; drop_tags = drop_tags; at = c.at; head_is = e; client_is = c.client }
      by_head Check e o = absurd (subst IsRead over.is o)

  -- and a client that expires does what its expiry owes
  client-owes : (place : ℕ) (task : Task) (cutoff : ℕ) (drop_branches drop_tags : Bool) → slice_get tasks place ≡ Some task → task.head ≡ Expire cutoff drop_branches drop_tags → OwesExpiring (terms_of cutoff drop_branches drop_tags) (place + 1) start journal event
  client-owes place task cutoff drop_branches drop_tags at head_is client =
      let same = client-task draw tasks start journal event c place task at client in
      let head : c.task.head ≡ Expire cutoff drop_branches drop_tags = ap (λ (t : Task). t.head) same.1 ∙ head_is in
      let owed : OwesBy (Expire cutoff drop_branches drop_tags) (ids_at draw c.place) c.task (c.place + 1) start journal event.op =
      subst (λ (h : Head). OwesBy h (ids_at draw c.place) c.task (c.place + 1) start journal event.op) head c.careful.owes in
      subst (λ (k : ℕ). IsOwed (terms_of cutoff drop_branches drop_tags) start journal (k + 1) event.op) same.0 owed

-- ---- the run
module _ (draw : Draw) (tasks : List Task) (old new : List Event) (r : IsRun draw tasks old new) where
  pub run-expiries : HasExpiries tasks old r.begun new
  run-expiries = record {
    opening = r.opening.own;
    start_is = r.opening.is;
    keeps = Each-weaker (Plain draw tasks old new r) KeepsSnapshots (λ h e p id over. plain-uncut e.op id p over) old r.opening.own (opening-plain draw tasks old new r);
    more = rest draw tasks old new r;
    is = rest-is draw tasks old new r;
    expiring = λ place task cutoff drop_branches drop_tags at head_is.
        let Owing : List Event → Event → Type 0 = OwesExpiring (terms_of cutoff drop_branches drop_tags) (place + 1) r.begun in
        rest-each draw tasks old new r Owing
        (Each-weaker (IsOfClient draw tasks r.begun) Owing (λ h e c. client-owes draw tasks r.begun h e c place task cutoff drop_branches drop_tags at head_is) r.begun r.playing.own r.playing.owed)
        (Each-weaker (IsBy 0) Owing (λ h e reader client. absurd (reads-alone draw tasks old new r e.client reader place client)) r.played r.closing.own r.reader);
    cutting =
        rest-each draw tasks old new r (CutsExpiring tasks)
        (Each-weaker (IsOfClient draw tasks r.begun) (CutsExpiring tasks) (λ h e c. client-cuts draw tasks r.begun h e c) r.begun r.playing.own r.playing.owed)
        (Each-weaker (Plain draw tasks old new r) (CutsExpiring tasks) (λ h e p id over. absurd (plain-uncut e.op id p over)) r.played r.closing.own (closing-plain draw tasks old new r));
  }
