-- What a client owned with a session it owns with the one that a rebase answers.
use Rattle.std.proofs.Common.{ℕ, List, sym, ◌∙◌, ap, subst}
use Rattle.std.specs.Prelude.{Result, Ok, Err}
use Rattle.ice_ids.specs.declared.drawing.AnyIds.{AnyIds}
use Rattle.manifest_file.specs.declared.manifest.Place.{Place}
use Rattle.zarr_tree.specs.Held.{Held}
use Rattle.repo_objects.specs.Laws.{RefLaw, SnapshotLaw}
use Rattle.conflicts.specs.declared.solving.Policy.{Policy}
use Rattle.object_store.specs.declared.events.Event.{Event}
use Rattle.store_api.specs.declared.machines.Refusal.{Refusal}
use Rattle.store_api.specs.Callers.{Caller}
use Rattle.store_api.specs.Program.{Leads}
use Rattle.store_api.proofs.Programs.{Leads-weaker}
use Rattle.session.specs.Sessions.{SessionState, base_nodes}
use Rattle.commit_path.specs.Own.{OwnsChunks, Owns}
use Rattle.commit_path.proofs.OwnPuts.{owns-fewer, Owns-gets}
use Rattle.rebase.specs.declared.machine.Rebased.{Rebased}
use Rattle.rebase.specs.declared.machine.Rebased.TheVariants.{OnHead, UpToDate}
use Rattle.rebase.specs.Along.{Link, along}
use Rattle.rebase.specs.Laws.{OwnsOn}
use Rattle.rebase.specs.Rebasing.{rebase_program}
use Rattle.rebase.specs.Telling.{CameToHead, WasUpToDate, RebaseTells}
use Rattle.rebase.proofs.Moving.{EndsAt, way-ends}
use Rattle.rebase.proofs.Saying.{rebase-leads}

module _ (ids : AnyIds) (client : ℕ) (start : List Event) where
  -- a rebase gives up entries alone, and draws nothing
  moved-owns : (policy : Policy) (s t : SessionState) (count : ℕ) (origin journal : List Event) → CameToHead client policy s t count origin journal → Owns ids client s start journal → Owns ids client t start journal
  moved-owns policy s t count origin journal m o =
      let last : Link = record { file = m.snap; lists = m.solved.lists } in
      let ends : EndsAt policy s.held m.held last = way-ends policy s.held m.held (base_nodes s) m.solved.before last (ap (λ (ls : List Link). along policy s.held (base_nodes s) ls) (sym m.solved.last) ∙ m.solved.solved) in
      let fewer : OwnsChunks client ends.less.rows start journal = owns-fewer client start s.held.chunks ends.less.rows journal ends.less.fewer o.chunks in
      subst (λ (x : SessionState). Owns ids client x start journal) (sym m.becomes)
      (record { chunks = subst (λ (h : Held Place). OwnsChunks client h.chunks start journal) (sym ends.less.is) fewer; drawn = o.drawn })

  up_to_date-owns : (s t : SessionState) (origin journal : List Event) → WasUpToDate client s t origin journal → Owns ids client s start journal → Owns ids client t start journal
  up_to_date-owns s t origin journal u o = subst (λ (x : SessionState). Owns ids client x start journal) (sym u.becomes) (record { chunks = o.chunks; drawn = o.drawn })

  owns-on : (policy : Policy) (s : SessionState) (journal : List Event) → Owns ids client s start journal → (answer : Result Rebased Refusal) (h : List Event) → RebaseTells client policy s journal answer h → OwnsOn ids client start answer h
  owns-on policy s journal o (Ok (OnHead t count)) h q = moved-owns policy s t count journal h q.0 (Owns-gets ids client s start journal h q.1 o)
  owns-on policy s journal o (Ok (UpToDate t)) h q = up_to_date-owns s t journal h q.0 (Owns-gets ids client s start journal h q.1 o)
  owns-on policy s journal o (Err why) h q = tt

pub rebase-owns : RefLaw → SnapshotLaw → (by : Caller) (policy : Policy) (s : SessionState) (ids : AnyIds) (start journal : List Event) → Owns ids by.number s start journal → Leads (OwnsOn ids by.number start) by (rebase_program policy s) journal
rebase-owns reference law by policy s ids start journal o =
    Leads-weaker (RebaseTells by.number policy s journal) (OwnsOn ids by.number start) (owns-on ids by.number start policy s journal o) by (rebase_program policy s) journal (rebase-leads reference law by policy s journal)
