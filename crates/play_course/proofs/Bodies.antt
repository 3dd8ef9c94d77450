-- The lines of a task's body that were played, in words of trees.
use Rattle.std.proofs.Common.{◌≡◌, ℕ, ◌+◌, List, [], ◌∷◌, ◌++◌, sym, ◌∙◌, ap, subst, append_assoc}
use Rattle.std.specs.Prelude.{Some, slice_get}
use Rattle.ice_ids.specs.declared.drawing.Draw.{Draw}
use Rattle.zarr_tree.specs.Trees.{IsWellFormed}
use Rattle.zarr_tree.specs.Changes.{Changes, IsNormal}
use Rattle.snapshot_file.specs.declared.nodes.NodeRow.{NodeRow}
use Rattle.repo_objects.specs.Trees.{Puts, tree_under}
use Rattle.object_store.specs.declared.events.Event.{Event}
use Rattle.store_api.specs.Journal.{puts_of, tree_of}
use Rattle.session.specs.Sessions.{SessionState, base_tree, changes_in, overlay}
use Rattle.commit_path.specs.Opened.{IsOpened, WasBegun}
use Rattle.commit_path.proofs.Knowing.{tree-by_rows}
use Rattle.commit_path.specs.Single.{HasPutNone}
use Rattle.script_calls.specs.declared.calls.Access.{Access}
use Rattle.script_calls.specs.declared.calls.Head.TheVariants.{Session}
use Rattle.play_script.specs.declared.scripts.Line.{Line}
use Rattle.play_script.specs.declared.scripts.Task.{Task}
use Rattle.play_outcome.specs.declared.outcome.Shown.{Shown}
use Rattle.play_tasks.specs.Playing.{asked_by}
use Rattle.play_tasks.specs.Solving.{PlaysAll}
use Rattle.play_tasks.specs.Tasks.{ids_at}
use Rattle.play_tasks.proofs.Going.{plays-last}
use Rattle.run_histories.specs.Told.{WasPlayedOn, HasHistories}
use Rattle.play_course.specs.Lines.{DoesAll}
use Rattle.play_course.proofs.Lines.{AreNormal, line-does, line-goes}

module _ (draw : Draw) (tasks : List Task) (before : ℕ → Changes) (old start new : List Event) (h : HasHistories draw tasks before old start new) (place : ℕ) (task : Task) (at : slice_get tasks place ≡ Some task) where
  abbrev put : Puts
  put = puts_of new

  abbrev Played : SessionState → Type 0
  Played s = WasPlayedOn (ids_at draw place) task (place + 1) start s new

  some-same : {A : Type 0} (a b : A) → Some a ≡ Some b → a ≡ b
  some-same a b e = cc

  -- the tree of a session's base is well formed, and that of its snapshot
  pub base-is : (s : SessionState) → IsOpened s new → tree_of new s.base ≡ Some (base_tree put s)
  base-is s o = tree-by_rows new s.base s.rows (o.rows h.sound.once)

  base-well : (s : SessionState) → IsOpened s new → IsWellFormed (base_tree put s)
  base-well s o =
      let t = h.sound.trees s.base o.put in
      subst (λ (rows : List NodeRow). IsWellFormed (tree_under put rows)) (some-same t.rows s.rows (sym t.is ∙ o.rows h.sound.once)) t.has.well_formed

  normal : (s : SessionState) → Played s → IsOpened s new → IsNormal (changes_in put s) (base_tree put s)
  normal s w o = h.normal.played start place task s h.began at w (o.chunks h.sound.once)

  module _ (access : Access) (head_is : task.head ≡ Session access) (opened : SessionState) (begun : WasBegun (place + 1) (asked_by access (ids_at draw place)) opened start new) (early : HasPutNone (place + 1) start begun.got.own.before) (read : IsOpened opened new) where
    -- after the first lines of the body
    played : (front left : List Line) (shown : List Shown) (s : SessionState) → task.body ≡ front ++ left → PlaysAll (place + 1) front opened start shown s new → Played s
    played front left shown s body plays = record { access = access; head_is = head_is; opened = opened; begun = begun; early = early; read = read; played = front; left = left; body = body; shown = shown; plays = plays }

    -- lines were played from here on, and this is behind them
    pub record PlayedOn (ls : List Line) (s t : SessionState) (shown : List Shown) : Type 0 where
      pub plays : DoesAll ls (overlay put s) shown (overlay put t)
      pub knows : IsOpened t new
      pub rows : t.rows ≡ s.rows
      pub based : t.base ≡ s.base

    pub plays-on : (ls rest front : List Line) (s t : SessionState) (shown more : List Shown) → task.body ≡ front ++ (ls ++ rest) → PlaysAll (place + 1) front opened start shown s new → IsOpened s new → PlaysAll (place + 1) ls s start more t new → PlayedOn ls s t more
    unfolding PlaysAll DoesAll
    plays-on [] rest front s t shown more body so o p = record {
      plays = (p.0, ap (overlay put) p.1);
      knows = subst (λ (x : SessionState). IsOpened x new) (sym p.1) o;
      rows = ap (λ (x : SessionState). x.rows) p.1;
      based = ap (λ (x : SessionState). x.base) p.1;
    }
    plays-on (l ∷ ls) rest front s t shown more body so o p =
        let mid : SessionState = p.2 in
        let did = p.4 in
        let on = line-goes (place + 1) start new h.sound.good h.sound.once l.number l.call s mid p.0 did o in
        let was = played front ((l ∷ ls) ++ rest) shown s body so in
        let body' : task.body ≡ (front ++ l ∷ []) ++ (ls ++ rest) = body ∙ sym (append_assoc front (l ∷ []) (ls ++ rest)) in
        let so' = plays-last (place + 1) front l opened s mid start shown p.0 new so did in
        let was' = played (front ++ l ∷ []) (ls ++ rest) (shown ++ p.0) mid body' so' in
        let behind : IsNormal (changes_in put mid) (base_tree put s) = subst (λ (rows : List NodeRow). IsNormal (changes_in put mid) (tree_under put rows)) on.rows (normal mid was' on.opened) in
        let n : AreNormal put s mid = record { well = base-well s o; before = normal s was o; behind = behind } in
        let does = line-does (place + 1) start new h.sound.good h.sound.once l.number l.call s mid p.0 (h.frozen start place task s h.began at was) n did in
        let further = plays-on ls rest (front ++ l ∷ []) mid t (shown ++ p.0) p.1 body' so' on.opened p.5 in
        record { plays = (p.0, p.1, overlay put mid, p.3, does, further.plays); knows = further.knows; rows = further.rows ∙ on.rows; based = further.based ∙ on.at }
