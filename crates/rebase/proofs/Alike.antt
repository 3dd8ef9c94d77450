-- A session that was rebased added and dropped the same nodes as before.
use Rattle.std.proofs.Common.{ℕ, List, sym, ◌∙◌, ap}
use Rattle.manifest_file.specs.declared.manifest.Place.{Place}
use Rattle.zarr_tree.specs.Held.{Held}
use Rattle.conflicts.specs.declared.solving.Policy.{Policy}
use Rattle.object_store.specs.declared.events.Event.{Event}
use Rattle.session.specs.Sessions.{SessionState, base_nodes}
use Rattle.commit_path.specs.Single.{HasPutAlike}
use Rattle.commit_path.proofs.Singling.{HasPutAlike-same}
use Rattle.rebase.specs.Along.{Link, along}
use Rattle.rebase.specs.Telling.{CameToHead, WasUpToDate}
use Rattle.rebase.proofs.Moving.{EndsAt, way-ends}

-- so the snapshots that its client put are like those of both
pub moved-alike : (client : ℕ) (policy : Policy) (s t : SessionState) (count : ℕ) (start journal origin h : List Event) → CameToHead client policy s t count start journal → HasPutAlike client s origin h → HasPutAlike client t origin h
moved-alike client policy s t count start journal origin h m =
    let last : Link = record { file = m.snap; lists = m.solved.lists } in
    let ends : EndsAt policy s.held m.held last = way-ends policy s.held m.held (base_nodes s) m.solved.before last (ap (λ (ls : List Link). along policy s.held (base_nodes s) ls) (sym m.solved.last) ∙ m.solved.solved) in
    HasPutAlike-same client s t origin h
    (sym (ap (λ (x : SessionState). x.held.added) m.becomes ∙ ap (λ (x : Held Place). x.added) ends.less.is))
    (sym (ap (λ (x : SessionState). x.held.dropped) m.becomes ∙ ap (λ (x : Held Place). x.dropped) ends.less.is))

pub up_to_date-alike : (client : ℕ) (s t : SessionState) (start journal origin h : List Event) → WasUpToDate client s t start journal → HasPutAlike client s origin h → HasPutAlike client t origin h
up_to_date-alike client s t start journal origin h u =
    HasPutAlike-same client s t origin h (sym (ap (λ (x : SessionState). x.held.added) u.becomes)) (sym (ap (λ (x : SessionState). x.held.dropped) u.becomes))
