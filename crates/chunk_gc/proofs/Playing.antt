-- Each operation of a collection may be made, and its end is as it should be, whatever it is told.
use Rattle.std.proofs.Common.{◌≡◌, ℕ, Bool, true, false, List, [], ◌∷◌, ◌++◌, refl, sym, ◌∙◌, ap, subst, append_assoc, append-nil}
use Rattle.std.specs.Prelude.{None, Result, Ok, Err}
use Rattle.std.proofs.lemmas.List.Elements.{Contains-append_right}
use Rattle.held_manifest.specs.Laws.{ObjectsLaw}
use Rattle.repo_objects.specs.Laws.{SnapshotLaw, ManifestLaw}
use Rattle.object_store.specs.declared.keys.Key.{Key}
use Rattle.object_store.specs.declared.keys.Why.TheVariants.{Collect}
use Rattle.object_store.specs.declared.events.Gone.TheVariants.{Done as Gone_done, Absent as Gone_absent}
use Rattle.object_store.specs.declared.events.Op.{Op}
use Rattle.object_store.specs.declared.events.Op.TheVariants.{Remove}
use Rattle.object_store.specs.declared.events.Reply.{Reply}
use Rattle.object_store.specs.declared.events.Reply.TheVariants.{Got as Is_got, New as Is_new, Over as Is_over, Gone as Is_gone, GoneAt as Is_gone_at, Listed as Is_listed, Failed}
use Rattle.store_api.specs.declared.machines.Refusal.{Refusal}
use Rattle.store_api.specs.declared.machines.Refusal.TheVariants.{NoMemory}
use Rattle.store_api.specs.Callers.{Fits, has_failed}
use Rattle.store_api.specs.Program.{Done, Ask as Ask_next, is_told_surely}
use Rattle.store_api.specs.Plays.{Play, Ended, Ask, Or, call, behind}
use Rattle.cleanup_reports.specs.declared.removed.Removed.{Removed}
use Rattle.collecting.specs.Walks.{Walk, fresh, IsObject, Marked, Doomed, RefsRead, May, ended}
use Rattle.chunk_gc.specs.Programs.{Answer, mark_program}
use Rattle.chunk_gc.specs.declared.standing.Collected.{Collected}
use Rattle.chunk_gc.specs.Plays.{nothing, counted, tally_from, tally, ends_with, after_removal, sweep, after_marking, collect_play}
use Rattle.chunk_gc.specs.Exact.{Picks, InOrder, Ends}
use Rattle.ice_ids.proofs.Elements.{first-is}
use Rattle.chunk_gc.proofs.Sweeping.{picked}
use Rattle.chunk_gc.proofs.Going.{Trail, follow, deed, IsCalm, Marks, marks-calm, MarkEnds, goes-program}

-- ---- reports
tally-more : (r : Removed) (keys : List Key) (key : Key) → tally_from r (keys ++ key ∷ []) ≡ counted key (tally_from r keys)
tally-more r [] key = refl
tally-more r (k ∷ keys) key = tally-more (counted k r) keys key

-- ---- plays
-- each operation may be made, a removal in order, and its end is as it should be, whatever it is told
unfoldable pub PlayGoes : ℕ → Trail → Play Collected → Type 0
PlayGoes cutoff t (Ended outcome) = Ends cutoff t.walk t.last outcome
PlayGoes cutoff t (Ask op starved next) = (May cutoff t.walk op × InOrder cutoff t.walk op) × PlayGoes cutoff t starved × ((reply : Reply) → PlayGoes cutoff (follow cutoff t op reply) (next reply))
PlayGoes cutoff t (Or p q) = PlayGoes cutoff t p × PlayGoes cutoff t q

behind-goes : (cutoff : ℕ) (t : Trail) (op : Op) (reply : Reply) (p s : Play Collected) (surely : Bool) → is_told_surely op reply ≡ surely → PlayGoes cutoff t p → PlayGoes cutoff t s → PlayGoes cutoff t (behind op reply p s)
unfolding PlayGoes
behind-goes cutoff t op reply p s true e g h = rw e g
behind-goes cutoff t op reply p s false e g h = rw e (g, h)

-- a marking, and then what follows its answer
goes-call : (cutoff : ℕ) (Q : Trail → Result (List Key) Refusal → Type 0) (t : Trail) (p : Answer) (f : Result (List Key) Refusal → Play Collected) → Marks cutoff Q t p
    → ((a : Result (List Key) Refusal) (u : Trail) → IsCalm u.walk → Q u a → PlayGoes cutoff u (f a)) → ((u : Trail) → IsCalm u.walk → PlayGoes cutoff u (f (Err NoMemory))) → PlayGoes cutoff t (call p f)
unfolding PlayGoes Marks
goes-call cutoff Q t (Done a) f m g h = g a t m.0 m.1
goes-call cutoff Q t (Ask_next op next) f m g h = (
  m.1,
  h t m.0,
  λ reply. behind-goes cutoff (follow cutoff t op reply) op reply (call (next reply) f) (f (Err NoMemory)) (is_told_surely op reply) refl (goes-call cutoff Q (follow cutoff t op reply) (next reply) f (m.2 reply) g h) (h (follow cutoff t op reply) (marks-calm cutoff Q (follow cutoff t op reply) (next reply) (m.2 reply))),
)

-- ---- removals
record Removing (cutoff : ℕ) (w : Walk) (keys : List Key) (r : Removed) : Type 0 where
  over : w.over ≡ false
  refs : RefsRead w
  lists : w.lists ≡ 4
  picks : Picks cutoff (Marked w) w.listed (w.answered ++ keys)
  report : r ≡ tally w.removed

doomed-next : (cutoff : ℕ) (w : Walk) (key : Key) (keys : List Key) (r : Removed) → Removing cutoff w (key ∷ keys) r → Doomed cutoff w key
doomed-next cutoff w key keys r s =
    let p = picked cutoff (Marked w) w.listed (w.answered ++ key ∷ keys) s.picks key (Contains-append_right w.answered (key ∷ keys) key (first-is key keys)) in
    record { whole = s.lists; entry = p.0; listed = p.1; key_is = p.2; object = subst IsObject p.2 p.3.object; old = p.3.old; unmarked = λ m. p.3.unmarked (subst (Marked w) (sym p.2) m) }

goes-sweep : (cutoff : ℕ) (keys : List Key) (r : Removed) (t : Trail) → Removing cutoff t.walk keys r → PlayGoes cutoff t (sweep keys r)
unfolding PlayGoes sweep
goes-sweep cutoff [] r t s = record { report = s.report; ends = record { lists = s.lists; picks = subst (λ (l : List Key). Picks cutoff (Marked t.walk) t.walk.listed l) (append-nil t.walk.answered) s.picks } }
goes-sweep cutoff (key ∷ keys) r t s =
    (((s.over, (refl, s.refs, doomed-next cutoff t.walk key keys r s)), (keys, s.picks)), record { report = s.report; ends = tt }, by (goes-sweep cutoff keys))
  where
    left : Picks cutoff (Marked t.walk) t.walk.listed ((t.walk.answered ++ key ∷ []) ++ keys)
    left = subst (λ (l : List Key). Picks cutoff (Marked t.walk) t.walk.listed l) (sym (append_assoc t.walk.answered (key ∷ []) keys)) s.picks

    failed : (reply : Reply) → (Fits (Remove key Collect) reply → has_failed reply ≡ true) → PlayGoes cutoff (record { walk = ended t.walk; last = deed (Remove key Collect) reply }) (ends_with r (Err Rattle.store_api.specs.declared.machines.Refusal.TheVariants.StoreFault))
    failed reply f = record { report = s.report; ends = record { deed = record { op = Remove key Collect; reply = reply }; is = refl; failed = f } }

    by : ((r : Removed) (u : Trail) → Removing cutoff u.walk keys r → PlayGoes cutoff u (sweep keys r)) → (reply : Reply) → PlayGoes cutoff (follow cutoff t (Remove key Collect) reply) (after_removal key (sweep keys) r reply)
    by again (Is_gone (Gone_done now)) = again (counted key r) (follow cutoff t (Remove key Collect) (Is_gone (Gone_done now))) (record { over = s.over; refs = s.refs; lists = s.lists; picks = left; report = ap (counted key) s.report ∙ sym (tally-more nothing t.walk.removed key) })
    by again (Is_gone (Gone_absent now)) = again r (follow cutoff t (Remove key Collect) (Is_gone (Gone_absent now))) (record { over = s.over; refs = s.refs; lists = s.lists; picks = left; report = s.report })
    by again (Failed d) = failed (Failed d) (λ f. refl)
    by again (Is_got x) = failed (Is_got x) (λ f. absurd f)
    by again (Is_new x) = failed (Is_new x) (λ f. absurd f)
    by again (Is_over x) = failed (Is_over x) (λ f. absurd f)
    by again (Is_gone_at x) = failed (Is_gone_at x) (λ f. absurd f)
    by again (Is_listed x) = failed (Is_listed x) (λ f. absurd f)

-- ---- all of it
module _ (cutoff : ℕ) (snaps : SnapshotLaw) (files : ManifestLaw) (objects : ObjectsLaw) where
  no-report : (w : Walk) → IsCalm w → nothing ≡ tally w.removed
  no-report w c = ap tally (sym c.1)

  after : (a : Result (List Key) Refusal) (u : Trail) → IsCalm u.walk → MarkEnds cutoff u a → PlayGoes cutoff u (after_marking nothing a)
  unfolding PlayGoes
  after (Ok keys) u c q = goes-sweep cutoff keys nothing u (record { over = q.over; refs = q.refs; lists = q.lists; picks = subst (λ (l : List Key). Picks cutoff (Marked u.walk) u.walk.listed (l ++ keys)) (sym c.0) q.picks; report = no-report u.walk c })
  after (Err why) u c q = record { report = no-report u.walk c; ends = q }

  starved : (u : Trail) → IsCalm u.walk → PlayGoes cutoff u (after_marking nothing (Err NoMemory))
  unfolding PlayGoes
  starved u c = record { report = no-report u.walk c; ends = tt }

  pub goes-play : PlayGoes cutoff (record { walk = fresh; last = None }) (collect_play cutoff)
  goes-play = goes-call cutoff (MarkEnds cutoff) (record { walk = fresh; last = None }) (mark_program _ cutoff) (after_marking nothing) (goes-program cutoff snaps files objects None) after starved
