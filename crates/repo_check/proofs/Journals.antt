-- A check in a journal, beside others.
use Rattle.std.proofs.Common.{◌≡◌, ℕ, List, [], ◌∷◌, ◌++◌, length, drop, refl, sym, ◌∙◌, ap, subst, append_assoc, append-nil}
use Rattle.std.specs.Prelude.{◌==◌}
use Rattle.std.proofs.Math.Seq.{drop-append_seam}
use Rattle.std.proofs.lemmas.List.Elements.{filter-append}
use Rattle.object_store.specs.declared.events.Op.{Op}
use Rattle.object_store.specs.declared.events.Reply.{Reply}
use Rattle.object_store.specs.declared.events.Event.{Event}
use Rattle.store_api.specs.Journal.{Each}
use Rattle.store_api.specs.Callers.{Caller, IsOther, Waits, Makes, own_event}
use Rattle.store_api.specs.Program.{events_of}
use Rattle.store_api.specs.Plays.{Play, Ended, Ask, Or, PlayKeeps, PlayLeads}
use Rattle.store_api.proofs.Programs.{events_of-others, own-one}
use Rattle.repo_check.specs.declared.standing.CheckReport.{CheckReport}
use Rattle.repo_check.specs.Plays.{Answer, check_play}
use Rattle.repo_check.specs.Findings.{Deed}
use Rattle.repo_check.specs.Exact.{Reports, deeds_in, deeds_behind, IsRead, CheckTells}
use Rattle.repo_check.specs.Laws.{CheckLaw}
use Rattle.repo_check.proofs.Going.{Goes}
use Rattle.repo_check.proofs.Playing.{goes-play}

deeds-append : (own : List Event) (event : Event) → deeds_in (own ++ event ∷ []) ≡ deeds_in own ++ record { op = event.op; reply = event.reply } ∷ []
deeds-append [] event = refl
deeds-append (x ∷ own) event = ap (λ (l : List Deed). record { op = x.op; reply = x.reply } ∷ l) (deeds-append own event)

module _ (by : Caller) (start : List Event) where
  -- these are the client's operations behind `start`
  pub record IsAt (d : List Deed) (journal : List Event) : Type 0 where
    pub more : List Event
    pub since : journal ≡ start ++ more
    pub deeds : deeds_in (events_of by.number more) ≡ d

  behind-start : (journal more : List Event) → journal ≡ start ++ more → drop (length start) journal ≡ more
  behind-start journal more e = ap (drop (length start)) e ∙ drop-append_seam start more

  pub at-begin : IsAt [] start
  at-begin = record { more = []; since = sym (append-nil start); deeds = refl }

  own-waits : (old between : List Event) → Each (IsOther by) old between → (more : List Event) → events_of by.number (more ++ between) ≡ events_of by.number more
  own-waits old between o more =
      filter-append (λ (e : Event). e.client == by.number) more between
      ∙ (ap (λ (l : List Event). events_of by.number more ++ l) (events_of-others by old between o) ∙ append-nil (events_of by.number more))

  pub at-step : (d : List Deed) (op : Op) (reply : Reply) (journal new : List Event) → IsAt d journal → Makes by op reply journal new → IsAt (d ++ record { op = op; reply = reply } ∷ []) new
  at-step d op reply journal new a m =
      let event : Event = own_event by op reply m.time in
      let between = m.waits.between in
      let own : events_of by.number ((a.more ++ between) ++ event ∷ []) ≡ events_of by.number a.more ++ event ∷ [] =
      filter-append (λ (e : Event). e.client == by.number) (a.more ++ between) (event ∷ [])
      ∙ (ap (λ (l : List Event). l ++ events_of by.number (event ∷ [])) (own-waits journal between m.waits.others a.more)
      ∙ ap (λ (l : List Event). events_of by.number a.more ++ l) (own-one by.number event refl)) in
      record {
        more = (a.more ++ between) ++ event ∷ [];
        since = m.is ∙ (ap (λ (h : List Event). h ++ event ∷ []) (m.waits.is ∙ (ap (λ (h : List Event). h ++ between) a.since ∙ append_assoc start a.more between)) ∙ append_assoc start (a.more ++ between) (event ∷ []));
        deeds = ap deeds_in own ∙ (deeds-append (events_of by.number a.more) event ∙ ap (λ (l : List Deed). l ++ record { op = op; reply = reply } ∷ []) a.deeds);
      }

  pub deeds-at : (d : List Deed) (journal : List Event) → IsAt d journal → d ≡ deeds_behind by.number start journal
  deeds-at d journal a = sym a.deeds ∙ ap (λ (l : List Event). deeds_in (events_of by.number l)) (sym (behind-start journal a.more a.since))

  tells-at : (d : List Deed) (report : CheckReport) (journal : List Event) → IsAt d journal → Reports d report → CheckTells by.number start report journal
  tells-at d report journal a r = record { more = a.more; since = a.since; reports = subst (λ (l : List Deed). Reports l report) (deeds-at d journal a) r }

  play-reads : (d : List Deed) (p : Answer) (journal : List Event) → Goes d p → PlayKeeps (λ known client op. IsRead op) by p journal
  unfolding PlayKeeps Goes
  play-reads d (Ended report) journal g = tt
  play-reads d (Ask op without next) journal g = (g.0, play-reads d without journal g.1, λ reply new m. play-reads (d ++ record { op = op; reply = reply } ∷ []) (next reply) new (g.2 reply))
  play-reads d (Or p q) journal g = (play-reads d p journal g.0, play-reads d q journal g.1)

  play-leads : (d : List Deed) (p : Answer) (journal : List Event) → Goes d p → IsAt d journal → PlayLeads (CheckTells by.number start) by p journal
  unfolding PlayLeads Goes
  play-leads d (Ended report) journal g a = tells-at d report journal a g
  play-leads d (Ask op without next) journal g a = (
    play-leads d without journal g.1 a,
    λ reply new m. play-leads (d ++ record { op = op; reply = reply } ∷ []) (next reply) new (g.2 reply) (at-step d op reply journal new a m),
  )
  play-leads d (Or p q) journal g a = (play-leads d p journal g.0 a, play-leads d q journal g.1 a)

  -- ---- later
  pub deeds-stay : (journal between more : List Event) → journal ≡ start ++ more → Each (IsOther by) journal between → deeds_behind by.number start (journal ++ between) ≡ deeds_behind by.number start journal
  deeds-stay journal between more e o =
      ap (λ (l : List Event). deeds_in (events_of by.number l)) (behind-start (journal ++ between) (more ++ between) (ap (λ (h : List Event). h ++ between) e ∙ append_assoc start more between))
      ∙ (ap deeds_in (own-waits journal between o more)
      ∙ ap (λ (l : List Event). deeds_in (events_of by.number l)) (sym (behind-start journal more e)))

  kept-more : (report : CheckReport) (journal between : List Event) → Each (IsOther by) journal between → CheckTells by.number start report journal → CheckTells by.number start report (journal ++ between)
  kept-more report journal between o c = record {
    more = c.more ++ between;
    since = ap (λ (h : List Event). h ++ between) c.since ∙ append_assoc start c.more between;
    reports = subst (λ (l : List Deed). Reports l report) (sym (deeds-stay journal between c.more c.since o)) c.reports;
  }

  kept : (report : CheckReport) (old new : List Event) → Waits by old new → CheckTells by.number start report old → CheckTells by.number start report new
  kept report old new w c = subst (CheckTells by.number start report) (sym w.is) (kept-more report old w.between w.others c)

-- ---- the law
pub checks-exactly : CheckLaw
checks-exactly by start = record {
  reads = play-reads by start [] check_play start goes-play;
  leads = play-leads by start [] check_play start goes-play (at-begin by start);
  kept = kept by start;
}
