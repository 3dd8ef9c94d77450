-- A collection in a journal, beside others.
use Rattle.std.proofs.Common.{◌≡◌, ℕ, List, [], ◌∷◌, ◌++◌, length, drop, refl, sym, ◌∙◌, ap, subst, append_assoc, append-nil}
use Rattle.std.specs.Prelude.{◌==◌, Option, Some, None}
use Rattle.std.proofs.Math.Seq.{drop-append_seam}
use Rattle.std.proofs.lemmas.List.Elements.{filter-append}
use Rattle.held_manifest.specs.Laws.{ObjectsLaw}
use Rattle.repo_objects.specs.Laws.{SnapshotLaw, ManifestLaw}
use Rattle.object_store.specs.declared.keys.Key.{Key}
use Rattle.object_store.specs.declared.keys.Key.TheVariants.{Snapshot, Manifest, Txn, Chunk, Branch, Tag, Tombstone, Lease}
use Rattle.object_store.specs.declared.keys.Why.{Why}
use Rattle.object_store.specs.declared.keys.Why.TheVariants.{Collect}
use Rattle.object_store.specs.declared.events.Op.{Op}
use Rattle.object_store.specs.declared.events.Op.TheVariants.{Get, PutNew, PutOver, Remove, RemoveAt, List as ListPart}
use Rattle.object_store.specs.declared.events.Reply.{Reply}
use Rattle.object_store.specs.declared.events.Event.{Event}
use Rattle.store_api.specs.Journal.{Each, IsPolite, MayRemove}
use Rattle.store_api.specs.Callers.{Caller, IsOther, Waits, Makes, own_event}
use Rattle.store_api.specs.Program.{events_of}
use Rattle.store_api.specs.Plays.{Play, Ended, Ask, Or, PlayKeeps, PlayLeads}
use Rattle.store_api.proofs.Programs.{events_of-others, own-one}
use Rattle.collecting.specs.Walks.{Walk, fresh, IsObject, May, told}
use Rattle.collecting.specs.Runs.{told_all, walk_of}
use Rattle.chunk_gc.specs.declared.standing.Collected.{Collected}
use Rattle.chunk_gc.specs.Plays.{collect_play}
use Rattle.chunk_gc.specs.Exact.{Deed, last_deed, last_of, InOrder, Ends, IsOwed, CollectTells}
use Rattle.chunk_gc.specs.Laws.{CollectLaw}
use Rattle.chunk_gc.proofs.Going.{Trail, follow, deed}
use Rattle.chunk_gc.proofs.Playing.{PlayGoes, goes-play}

-- ---- one more event of its own
told-more : (cutoff : ℕ) (w : Walk) (own : List Event) (event : Event) → told_all cutoff w (own ++ event ∷ []) ≡ told cutoff (told_all cutoff w own) event.op event.reply
told-more cutoff w [] event = refl
told-more cutoff w (x ∷ own) event = told-more cutoff (told cutoff w x.op x.reply) own event

last-more : (last : Option Deed) (own : List Event) (event : Event) → last_deed last (own ++ event ∷ []) ≡ deed event.op event.reply
last-more last [] event = refl
last-more last (x ∷ own) event = last-more (Some (record { op = x.op; reply = x.reply })) own event

module _ (cutoff : ℕ) (by : Caller) (start : List Event) where
  -- the trail of the client's events behind `start`
  record IsAt (t : Trail) (journal : List Event) : Type 0 where
    more : List Event
    since : journal ≡ start ++ more
    walk : told_all cutoff fresh (events_of by.number more) ≡ t.walk
    last : last_deed None (events_of by.number more) ≡ t.last

  behind-start : (journal more : List Event) → journal ≡ start ++ more → drop (length start) journal ≡ more
  behind-start journal more e = ap (drop (length start)) e ∙ drop-append_seam start more

  at-begin : IsAt (record { walk = fresh; last = None }) start
  at-begin = record { more = []; since = sym (append-nil start); walk = refl; last = refl }

  walk-at : (t : Trail) (journal : List Event) → IsAt t journal → t.walk ≡ walk_of cutoff by.number start journal
  walk-at t journal a = sym a.walk ∙ ap (λ (l : List Event). told_all cutoff fresh (events_of by.number l)) (sym (behind-start journal a.more a.since))

  last-at : (t : Trail) (journal : List Event) → IsAt t journal → t.last ≡ last_of by.number start journal
  last-at t journal a = sym a.last ∙ ap (λ (l : List Event). last_deed None (events_of by.number l)) (sym (behind-start journal a.more a.since))

  -- others' events are none of its own
  own-waits : (old between : List Event) → Each (IsOther by) old between → (more : List Event) → events_of by.number (more ++ between) ≡ events_of by.number more
  own-waits old between o more =
      filter-append (λ (e : Event). e.client == by.number) more between
      ∙ (ap (λ (l : List Event). events_of by.number more ++ l) (events_of-others by old between o) ∙ append-nil (events_of by.number more))

  at-step : (t : Trail) (op : Op) (reply : Reply) (journal new : List Event) → IsAt t journal → Makes by op reply journal new → IsAt (follow cutoff t op reply) new
  at-step t op reply journal new a m =
      let event : Event = own_event by op reply m.time in
      let between = m.waits.between in
      let own : events_of by.number ((a.more ++ between) ++ event ∷ []) ≡ events_of by.number a.more ++ event ∷ [] =
      filter-append (λ (e : Event). e.client == by.number) (a.more ++ between) (event ∷ [])
      ∙ (ap (λ (l : List Event). l ++ events_of by.number (event ∷ [])) (own-waits journal between m.waits.others a.more)
      ∙ ap (λ (l : List Event). events_of by.number a.more ++ l) (own-one by.number event refl)) in
      record {
        more = (a.more ++ between) ++ event ∷ [];
        since = m.is ∙ (ap (λ (h : List Event). h ++ event ∷ []) (m.waits.is ∙ (ap (λ (h : List Event). h ++ between) a.since ∙ append_assoc start a.more between)) ∙ append_assoc start (a.more ++ between) (event ∷ []));
        walk = ap (told_all cutoff fresh) own ∙ (told-more cutoff fresh (events_of by.number a.more) event ∙ ap (λ (w : Walk). told cutoff w op reply) a.walk);
        last = ap (last_deed None) own ∙ last-more None (events_of by.number a.more) event;
      }

  -- ---- each operation, and the outcome
  owed-at : (t : Trail) (journal : List Event) (op : Op) → IsAt t journal → May cutoff t.walk op × InOrder cutoff t.walk op → IsOwed cutoff start journal by.number op
  owed-at t journal op a m = record {
    more = a.more;
    since = a.since;
    may = subst (λ (w : Walk). May cutoff w op) (walk-at t journal a) m.0;
    order = subst (λ (w : Walk). InOrder cutoff w op) (walk-at t journal a) m.1;
  }

  play-keeps : (t : Trail) (p : Play Collected) (journal : List Event) → PlayGoes cutoff t p → IsAt t journal → PlayKeeps (IsOwed cutoff start) by p journal
  unfolding PlayKeeps PlayGoes
  play-keeps t (Ended outcome) journal g a = tt
  play-keeps t (Ask op starved next) journal g a = (
    owed-at t journal op a g.0,
    play-keeps t starved journal g.1 a,
    λ reply new m. play-keeps (follow cutoff t op reply) (next reply) new (g.2 reply) (at-step t op reply journal new a m),
  )
  play-keeps t (Or p q) journal g a = (play-keeps t p journal g.0 a, play-keeps t q journal g.1 a)

  tells-at : (t : Trail) (outcome : Collected) (journal : List Event) → IsAt t journal → Ends cutoff t.walk t.last outcome → CollectTells cutoff by.number start outcome journal
  tells-at t outcome journal a e = record {
    more = a.more;
    since = a.since;
    ends = subst (λ (l : Option Deed). Ends cutoff (walk_of cutoff by.number start journal) l outcome) (last-at t journal a) (subst (λ (w : Walk). Ends cutoff w t.last outcome) (walk-at t journal a) e);
  }

  play-leads : (t : Trail) (p : Play Collected) (journal : List Event) → PlayGoes cutoff t p → IsAt t journal → PlayLeads (CollectTells cutoff by.number start) by p journal
  unfolding PlayLeads PlayGoes
  play-leads t (Ended outcome) journal g a = tells-at t outcome journal a g
  play-leads t (Ask op starved next) journal g a = (
    play-leads t starved journal g.1 a,
    λ reply new m. play-leads (follow cutoff t op reply) (next reply) new (g.2 reply) (at-step t op reply journal new a m),
  )
  play-leads t (Or p q) journal g a = (play-leads t p journal g.0 a, play-leads t q journal g.1 a)

  -- ---- later
  walk-stays : (journal between more : List Event) → journal ≡ start ++ more → Each (IsOther by) journal between → walk_of cutoff by.number start (journal ++ between) ≡ walk_of cutoff by.number start journal
  walk-stays journal between more e o =
      ap (λ (l : List Event). told_all cutoff fresh (events_of by.number l)) (behind-start (journal ++ between) (more ++ between) (ap (λ (h : List Event). h ++ between) e ∙ append_assoc start more between))
      ∙ (ap (told_all cutoff fresh) (own-waits journal between o more)
      ∙ ap (λ (l : List Event). told_all cutoff fresh (events_of by.number l)) (sym (behind-start journal more e)))

  last-stays : (journal between more : List Event) → journal ≡ start ++ more → Each (IsOther by) journal between → last_of by.number start (journal ++ between) ≡ last_of by.number start journal
  last-stays journal between more e o =
      ap (λ (l : List Event). last_deed None (events_of by.number l)) (behind-start (journal ++ between) (more ++ between) (ap (λ (h : List Event). h ++ between) e ∙ append_assoc start more between))
      ∙ (ap (last_deed None) (own-waits journal between o more)
      ∙ ap (λ (l : List Event). last_deed None (events_of by.number l)) (sym (behind-start journal more e)))

  stays : (journal more : List Event) (op : Op) → Each (IsOther by) journal more → IsOwed cutoff start journal by.number op → IsOwed cutoff start (journal ++ more) by.number op
  stays journal more op o w = record {
    more = w.more ++ more;
    since = ap (λ (h : List Event). h ++ more) w.since ∙ append_assoc start w.more more;
    may = subst (λ (x : Walk). May cutoff x op) (sym (walk-stays journal more w.more w.since o)) w.may;
    order = subst (λ (x : Walk). InOrder cutoff x op) (sym (walk-stays journal more w.more w.since o)) w.order;
  }

  kept-more : (outcome : Collected) (journal between : List Event) → Each (IsOther by) journal between → CollectTells cutoff by.number start outcome journal → CollectTells cutoff by.number start outcome (journal ++ between)
  kept-more outcome journal between o c = record {
    more = c.more ++ between;
    since = ap (λ (h : List Event). h ++ between) c.since ∙ append_assoc start c.more between;
    ends =
        subst (λ (l : Option Deed). Ends cutoff (walk_of cutoff by.number start (journal ++ between)) l outcome) (sym (last-stays journal between c.more c.since o))
        (subst (λ (w : Walk). Ends cutoff w (last_of by.number start journal) outcome) (sym (walk-stays journal between c.more c.since o)) c.ends);
  }

  kept : (outcome : Collected) (old new : List Event) → Waits by old new → CollectTells cutoff by.number start outcome old → CollectTells cutoff by.number start outcome new
  kept outcome old new w c = subst (CollectTells cutoff by.number start outcome) (sym w.is) (kept-more outcome old w.between w.others c)

  -- ---- politeness
  polite-removal : (key : Key) (why : Why) → why ≡ Collect → IsObject key → MayRemove why key
  polite-removal (Snapshot id) why e o = e
  polite-removal (Manifest id) why e o = e
  polite-removal (Txn id) why e o = e
  polite-removal (Chunk id) why e o = e
  polite-removal (Branch name) why e o = absurd o
  polite-removal (Tag name) why e o = absurd o
  polite-removal (Tombstone name) why e o = absurd o
  polite-removal (Lease id) why e o = absurd o

  polite-op : (w : Walk) (op : Op) (journal : List Event) → May cutoff w op → IsPolite journal op
  polite-op w (Get key) journal m = tt
  polite-op w (ListPart part) journal m = tt
  polite-op w (Remove key why) journal m = polite-removal key why m.1.0 m.1.2.object
  polite-op w (PutNew key bytes why) journal m = absurd m.1
  polite-op w (PutOver key bytes old why) journal m = absurd m.1
  polite-op w (RemoveAt key old why) journal m = absurd m.1

  play-polite : (t : Trail) (p : Play Collected) (journal : List Event) → PlayGoes cutoff t p → PlayKeeps (λ journal client op. IsPolite journal op) by p journal
  unfolding PlayKeeps PlayGoes
  play-polite t (Ended outcome) journal g = tt
  play-polite t (Ask op starved next) journal g = (
    polite-op t.walk op journal g.0.0,
    play-polite t starved journal g.1,
    λ reply new m. play-polite (follow cutoff t op reply) (next reply) new (g.2 reply),
  )
  play-polite t (Or p q) journal g = (play-polite t p journal g.0, play-polite t q journal g.1)

-- ---- the law
pub collects-exactly : SnapshotLaw → ManifestLaw → ObjectsLaw → CollectLaw
collects-exactly snaps files objects by cutoff start =
    let first : Trail = record { walk = fresh; last = None } in
    let goes = goes-play cutoff snaps files objects in
    record {
      polite = play-polite cutoff by start first (collect_play cutoff) start goes;
      owed = play-keeps cutoff by start first (collect_play cutoff) start goes (at-begin cutoff by start);
      leads = play-leads cutoff by start first (collect_play cutoff) start goes (at-begin cutoff by start);
      stays = stays cutoff by start;
      kept = kept cutoff by start;
    }
