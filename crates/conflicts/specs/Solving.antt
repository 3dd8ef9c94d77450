-- What a policy solves, and what it gives up. (The policies are those of Icechunk's basic conflict
-- solver; that they solve these cases is own.)
use Rattle.std.specs.Prelude.{◌≡◌, ◌≢◌, ℕ, Bool, true, false, not}
use Rattle.std.specs.Prelude.{List, [], ◌∷◌, Option, Some, None}
use Rattle.std.specs.List.{filter, flat_map}
use Rattle.std.specs.FinMap.{FinMap, get}
use Rattle.ice_ids.specs.declared.Id8.{Id8}
use Rattle.zarr_path.specs.Paths.{path_cmp}
use Rattle.zarr_tree.specs.declared.cases.Case.{Case}
use Rattle.zarr_tree.specs.declared.cases.Case.TheVariants as case
use Rattle.zarr_tree.specs.declared.cases.Conflict.{Conflict}
use Rattle.zarr_tree.specs.Nodes.{Node}
use Rattle.conflicts.specs.declared.solving.Pick.{Pick}
use Rattle.conflicts.specs.declared.solving.Pick.TheVariants.{Fail, Ours, Theirs}
use Rattle.conflicts.specs.declared.solving.Policy.{Policy}
use Rattle.conflicts.specs.declared.solving.Solved.{Solved}
use Rattle.conflicts.specs.declared.solving.Solved.TheVariants.{Done, Left}

-- whether a chunk that both sides wrote is a conflict that stays
abbrev pub chunk_stays : Pick → Option (List ℕ) → Bool
chunk_stays pick None = true
chunk_stays Fail (Some i) = true
chunk_stays Ours (Some i) = false
chunk_stays Theirs (Some i) = false

-- whether a conflict of a case stays
abbrev pub case_stays : Policy → Case → Option (List ℕ) → Bool
case_stays policy case.ChunkDoubleUpdate i = chunk_stays policy.chunks i
case_stays policy case.DeleteOfUpdatedArray i = not policy.drop_arrays
case_stays policy case.DeleteOfUpdatedGroup i = not policy.drop_groups
case_stays policy k i = true

-- the conflicts that stay
abbrev pub left_of : Policy → List Conflict → List Conflict
left_of policy found = filter (λ x. case_stays policy x.case x.index) found

-- the entry of ours that a policy gives up for a conflict, if it does
abbrev pub given_by : Pick → Case → (path : List ℕ) → Option (List ℕ) → List (List ℕ × List ℕ)
given_by Theirs case.ChunkDoubleUpdate p (Some i) = (p, i) ∷ []
given_by pick k p i = []

abbrev pub given_up : Policy → List Conflict → List (List ℕ × List ℕ)
given_up policy found = flat_map (λ x. given_by policy.chunks x.case x.path x.index) found

-- these chunks, by the ids that nodes have: a place where none stands gives no chunk
abbrev pub key_at : Option Node → (index : List ℕ) → List (Id8 × List ℕ)
key_at None i = []
key_at (Some n) i = (n.id, i) ∷ []

abbrev pub keys_in : FinMap path_cmp Node → List (List ℕ × List ℕ) → List (Id8 × List ℕ)
keys_in nodes places = flat_map (λ place. key_at (get nodes place.0) place.1) places

-- done exactly where nothing stays
abbrev pub IsSolved : Policy → List Conflict → Solved → Type 0
IsSolved policy found (Done given) = (left_of policy found ≡ []) × (given ≡ given_up policy found)
IsSolved policy found (Left left) = (left_of policy found ≢ []) × (left ≡ left_of policy found)
