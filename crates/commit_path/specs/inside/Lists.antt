-- The arrays of a commit, one after another.
use Rattle.std.specs.Prelude.{◌≡◌, ℕ, List, [], ◌∷◌, ◌++◌, map, Option, None}
use Rattle.flat_tables.specs.Rows.{Ascends}
use Rattle.zarr_changes.specs.declared.chunks.ChangedArray.{ChangedArray}
use Rattle.changed_snapshot.specs.declared.new_snapshot.NewManifest.{NewManifest}
use Rattle.changed_snapshot.specs.declared.new_snapshot.NewList.{NewList}
use Rattle.commit_path.specs.Arrays.{ArraysState}

-- the paths of those that are written and of those that are left strictly ascend
abbrev pub paths_in : ArraysState → List (List ℕ)
paths_in a = map (λ l. l.path) a.news ++ map (λ a. a.path) a.left

abbrev pub AreInOrder : ArraysState → Type 0
AreInOrder a = Ascends (λ path. path) None (paths_in a)

-- the array is the first one
abbrev pub IsFirst : List ChangedArray → ChangedArray → Type 0
IsFirst [] a = ⊥
IsFirst (first ∷ more) a = a ≡ first

-- the first array that is left has this list
abbrev pub closed_at : List NewList → List ChangedArray → Option NewManifest → ArraysState
closed_at news [] manifest = record { news = news; left = [] }
closed_at news (a ∷ more) manifest = record {
  news = news ++ record { path = a.path; manifest = manifest } ∷ [];
  left = more;
}

abbrev pub closed : ArraysState → Option NewManifest → ArraysState
closed a manifest = closed_at a.news a.left manifest

-- the first array has this rank
abbrev pub IsRank : List ChangedArray → ℕ → Type 0
IsRank [] rank = ⊥
IsRank (a ∷ more) rank = rank ≡ a.rank
