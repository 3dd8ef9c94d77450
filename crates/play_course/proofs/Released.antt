-- Behind the end of a session, the releases of its leases: the client makes these, and gets at most besides.
use Rattle.std.proofs.Common.{◌≡◌, inl, inr, ◌∙◌, ℕ, List, [], ◌∷◌, ◌++◌, append_assoc, refl, ap, subst, sym}
use Rattle.std.specs.Prelude.{Result, Ok, Err}
use Rattle.ice_ids.specs.declared.Id12.{Id12}
use Rattle.object_store.specs.declared.events.Op.{Op}
use Rattle.object_store.specs.declared.events.Reply.{Reply}
use Rattle.object_store.specs.declared.events.Reply.TheVariants.{Gone as Is_gone, Failed}
use Rattle.object_store.specs.declared.events.Event.{Event}
use Rattle.store_api.specs.declared.machines.Refusal.{Refusal}
use Rattle.store_api.specs.declared.machines.Refusal.TheVariants as R
use Rattle.store_api.specs.Journal.{Each}
use Rattle.store_api.specs.Telling.{GetsAlone, MadeGets, MadeOne}
use Rattle.object_store.proofs.Journals.{Each-append, Each-one, Each-weaker}
use Rattle.leases.specs.Plays.{releases}
use Rattle.leases.specs.Telling.{ReleaseTells}
use Rattle.play_outcome.specs.declared.outcome.Shown.{Shown}
use Rattle.play_outcome.specs.declared.outcome.Shown.TheVariants.{Node, Meta, Chunk, Fill, Cells, Key, Log, Lease}
use Rattle.play_tasks.specs.Bases.{MadeAlone}
use Rattle.play_tasks.specs.Played.{IsGetOrRelease}
use Rattle.play_tasks.specs.Telling.{WereReleased}

module _ (client : ℕ) where
  abbrev Made : List Event → List Event → Type 0
  Made first second = MadeAlone IsGetOrRelease client first second

  abbrev Own : List Event → Event → Type 0
  Own before event = event.client ≡ client → IsGetOrRelease event.op

  made-then : (first second third : List Event) → Made first second → Made second third → Made first third
  made-then first second third x y = record {
    more = x.more ++ y.more;
    is = y.is ∙ ap (λ (h : List Event). h ++ y.more) x.is ∙ append_assoc first x.more y.more;
    each = Each-append Own first x.more y.more x.each (subst (λ (h : List Event). Each Own h y.more) x.is y.each);
  }

  gets-made : (first second : List Event) → MadeGets client first second → Made first second
  gets-made first second g = record { more = g.more; is = g.is; each = Each-weaker (GetsAlone client) Own (λ before event alone mine. inl (alone mine)) first g.more g.each }

  one-made : (op : Op) (reply : Reply) (first second : List Event) → IsGetOrRelease op → MadeOne client op reply first second → Made first second
  one-made op reply first second may m =
      let own = m.own in
      let behind : List Event = own.before ++ own.event ∷ [] in
      let here : Made own.before behind = record { more = own.event ∷ []; is = refl; each = Each-one Own own.before own.event (λ mine. subst IsGetOrRelease (sym own.op_is) may) } in
      made-then first behind second (made-then first own.before behind (gets-made first own.before m.earlier) here) (gets-made behind second m.later)

  release-made : (id : Id12) (first : List Event) (result : Result (Unit {0}) Refusal) (second : List Event) → ReleaseTells client id first result second → Made first second
  release-made id first (Ok done) second t = one-made (releases id) (Is_gone t.gone) first second (inr (id, refl)) t.made
  release-made id first (Err R.StoreFault) second t = one-made t.op (Failed t.done) first second (inr (id, t.of_kind)) t.made
  release-made id first (Err R.NoMemory) second t = gets-made first second t
  release-made id first (Err _) second t = absurd t

  pub released-made : (before : List Shown) (first : List Event) (after : List Shown) (journal : List Event) → WereReleased client before first after journal → Made first journal
  unfolding WereReleased
  released-made [] first after journal w = gets-made first journal w.1
  released-made (Lease line id left ∷ before) first after journal w = made-then first w.1 journal (release-made id first w.0 w.1 w.4) (released-made before w.1 w.2 journal w.5)
  released-made (Node line array path ∷ before) first after journal w = released-made before first w.0 journal w.2
  released-made (Meta line text ∷ before) first after journal w = released-made before first w.0 journal w.2
  released-made (Chunk line bytes ∷ before) first after journal w = released-made before first w.0 journal w.2
  released-made (Fill line ∷ before) first after journal w = released-made before first w.0 journal w.2
  released-made (Cells line numbers ∷ before) first after journal w = released-made before first w.0 journal w.2
  released-made (Key line bytes ∷ before) first after journal w = released-made before first w.0 journal w.2
  released-made (Log line id flushed_at message props ∷ before) first after journal w = released-made before first w.0 journal w.2
