-- Ids that were found, and those of them that are still to be taken (own).
use Rattle.std.specs.Prelude.{◌≡◌, Bool, true, false, List, [], ◌∷◌, ◌++◌, Option, Some, None}
use Rattle.ice_ids.specs.declared.Id12.{Id12}
use Rattle.ice_ids.specs.Sets.{has_object, with_object}
use Rattle.snapshot_file.specs.declared.nodes.ManifestRef.{ManifestRef}
use Rattle.snapshot_file.specs.declared.nodes.NodeRow.{NodeRow}
use Rattle.snapshot_file.specs.Snapshots.{manifests_named}

-- a set, in the order of the ids' bytes, and what is still to be taken
-- of it, in the order of finding
pub record Line : Type 0 where
  pub all : List Id12
  pub todo : List Id12

abbrev pub no_ids : Line
no_ids = record { all = []; todo = [] }

-- a set of which nothing is to be taken
abbrev pub found : List Id12 → Line
found ids = record { all = ids; todo = [] }

abbrev pub unless_found : Bool → Id12 → List Id12 → List Id12
unless_found true id ids = ids
unless_found false id ids = ids ++ id ∷ []

-- an id, where it is new
abbrev pub enter : Id12 → Line → Line
enter id q = record {
  all = with_object q.all id;
  todo = unless_found (has_object q.all id) id q.todo;
}

abbrev pub enter_some : Option Id12 → Line → Line
enter_some None q = q
enter_some (Some id) q = enter id q

-- these ids, those that are new
abbrev pub enter_ids : List Id12 → Line → Line
enter_ids [] q = q
enter_ids (id ∷ ids) q = enter_ids ids (enter id q)

-- the manifests that an array names
abbrev pub enter_refs : List ManifestRef → Line → Line
enter_refs [] q = q
enter_refs (m ∷ ms) q = enter_refs ms (enter m.id q)

-- the manifests that rows name, in their order
abbrev pub enter_rows : List NodeRow → Line → Line
enter_rows [] q = q
enter_rows (row ∷ rows) q = enter_rows rows (enter_refs (manifests_named row.kind) q)

-- the first that is still to be taken is taken
abbrev pub Pops : Line → Option Id12 → Line → Type 0
Pops old None new = (old.todo ≡ []) × (new ≡ old)
Pops old (Some id) new = (old.todo ≡ id ∷ new.todo) × (new.all ≡ old.all)
