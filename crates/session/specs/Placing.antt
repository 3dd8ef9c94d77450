-- Chunks that are entered at once. (Own.)
use Rattle.std.specs.Prelude.{ℕ, List, [], ◌∷◌, Result, Ok}
use Rattle.zarr_changes.specs.declared.placing.Placed.{Placed}
use Rattle.zarr_changes.specs.Sets.{set_refusal}
use Rattle.store_api.specs.declared.machines.Refusal.{Refusal}
use Rattle.session.specs.Sessions.{SessionState, nodes_seen, writes}
use Rattle.session.specs.Editing.{if_writes, unless_refused}
use Rattle.session.specs.Chunks.{with_chunk}

-- whether a chunk of so many bytes may be set, or the first refusal: ReadOnly, those of
-- the edit on the session's tree
abbrev pub set_allowed : SessionState → (path index : List ℕ) → (len : ℕ)
    → Result (Unit {0}) Refusal
set_allowed s path index len =
    if_writes (writes s) (unless_refused (set_refusal (nodes_seen s) path index len) (Ok (tt {0})))

-- the session in which chunks of the array at a path are at these places
abbrev pub with_places : SessionState → (path : List ℕ) → List Placed → SessionState
with_places s path [] = s
with_places s path (first ∷ more) =
    with_places (with_chunk s path first.index first.place) path more
