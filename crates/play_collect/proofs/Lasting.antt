-- What a collection owes and what the outcome of its task tells stay so, whatever others do.
use Rattle.std.proofs.Common.{◌≡◌, ◌∙◌, ap, sym, subst, ℕ, List, ◌++◌, length, drop, append_assoc, append-nil}
use Rattle.std.specs.Prelude.{◌==◌, Option, None}
use Rattle.std.proofs.Math.Seq.{drop-append_seam}
use Rattle.std.proofs.lemmas.List.Elements.{filter-append}
use Rattle.object_store.specs.declared.events.Op.{Op}
use Rattle.object_store.specs.declared.events.Event.{Event}
use Rattle.store_api.specs.Journal.{Each}
use Rattle.store_api.specs.Callers.{Caller, IsOther}
use Rattle.store_api.specs.Program.{events_of}
use Rattle.store_api.proofs.Programs.{events_of-others}
use Rattle.collecting.specs.Walks.{Walk, fresh, May}
use Rattle.collecting.specs.Runs.{told_all, walk_of}
use Rattle.chunk_gc.specs.declared.standing.Collected.{Collected}
use Rattle.chunk_gc.specs.Exact.{Deed, last_deed, last_of, InOrder, Ends, IsOwed, CollectTells}
use Rattle.play_outcome.specs.declared.outcome.Outcome.{Outcome}
use Rattle.play_collect.specs.Telling.{CollectedTells}

module _ (cutoff : ℕ) (by : Caller) (start journal between : List Event) (others : Each (IsOther by) journal between) where
  -- what the client made itself behind `start`
  abbrev Own : List Event → List Event
  Own h = events_of by.number (drop (length start) h)

  own-stays : (more : List Event) → journal ≡ start ++ more → Own (journal ++ between) ≡ Own journal
  own-stays more since =
      let behind : drop (length start) journal ≡ more = ap (drop (length start)) since ∙ drop-append_seam start more in
      let longer : drop (length start) (journal ++ between) ≡ more ++ between = ap (drop (length start)) (ap (λ (h : List Event). h ++ between) since ∙ append_assoc start more between) ∙ drop-append_seam start (more ++ between) in
      ap (events_of by.number) longer
      ∙ (filter-append (λ (e : Event). e.client == by.number) more between
      ∙ (ap (λ (h : List Event). events_of by.number more ++ h) (events_of-others by journal between others)
      ∙ (append-nil (events_of by.number more)
      ∙ ap (events_of by.number) (sym behind))))

  walk-stays : (more : List Event) → journal ≡ start ++ more → walk_of cutoff by.number start (journal ++ between) ≡ walk_of cutoff by.number start journal
  walk-stays more since = ap (told_all cutoff fresh) (own-stays more since)

  last-stays : (more : List Event) → journal ≡ start ++ more → last_of by.number start (journal ++ between) ≡ last_of by.number start journal
  last-stays more since = ap (last_deed None) (own-stays more since)

  longer-since : (more : List Event) → journal ≡ start ++ more → journal ++ between ≡ start ++ (more ++ between)
  longer-since more since = ap (λ (h : List Event). h ++ between) since ∙ append_assoc start more between

  pub owed-others : (op : Op) → IsOwed cutoff start journal by.number op → IsOwed cutoff start (journal ++ between) by.number op
  owed-others op w = record {
    more = w.more ++ between;
    since = longer-since w.more w.since;
    may = subst (λ (x : Walk). May cutoff x op) (sym (walk-stays w.more w.since)) w.may;
    order = subst (λ (x : Walk). InOrder cutoff x op) (sym (walk-stays w.more w.since)) w.order;
  }

  collect-others : (outcome : Collected) → CollectTells cutoff by.number start outcome journal → CollectTells cutoff by.number start outcome (journal ++ between)
  collect-others outcome c = record {
    more = c.more ++ between;
    since = longer-since c.more c.since;
    ends =
        subst (λ (l : Option Deed). Ends cutoff (walk_of cutoff by.number start (journal ++ between)) l outcome) (sym (last-stays c.more c.since))
        (subst (λ (w : Walk). Ends cutoff w (last_of by.number start journal) outcome) (sym (walk-stays c.more c.since)) c.ends);
  }

  pub CollectedTells-others : (line : ℕ) (outcome : Outcome) → CollectedTells line cutoff by.number start outcome journal → CollectedTells line cutoff by.number start outcome (journal ++ between)
  CollectedTells-others line outcome t = record { collected = t.collected; is = t.is; tells = collect-others t.collected t.tells }
