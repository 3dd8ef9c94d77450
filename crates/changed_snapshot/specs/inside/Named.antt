-- Ids of manifests; no public contract cites this.
use Rattle.std.specs.Prelude.{Bool, List, map}
use Rattle.std.specs.List.{list_any}
use Rattle.std.specs.FinMap.{FinMap, from_entries}
use Rattle.ice_ids.specs.declared.Id12.{Id12}
use Rattle.ice_ids.specs.Text.{same_id12, id12_cmp}
use Rattle.snapshot_file.specs.declared.nodes.ManifestRef.{ManifestRef}
use Rattle.snapshot_file.specs.declared.snapshot.ManifestInfo.{ManifestInfo}

-- whether an id is among these, and whether it is that of one of these manifests
abbrev pub has_id : List Id12 → Id12 → Bool
has_id ids id = list_any (λ other. same_id12 other id) ids

abbrev pub have_id : List ManifestRef → Id12 → Bool
have_id manifests id = list_any (λ manifest. same_id12 manifest.id id) manifests

-- manifests by their ids, of two of one id the first
abbrev pub files_by_id : List ManifestInfo → FinMap id12_cmp ManifestInfo
files_by_id files = from_entries (map (λ file. (file.id, file)) files)
