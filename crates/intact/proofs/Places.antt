-- Places in a snapshot and in a manifest that move on.
use Rattle.std.proofs.Common.{◌≡◌, ℕ, zero, suc, ◌+◌, ◌<◌, ◌≤◌, List, [], ◌∷◌, ◌++◌, drop, length, Option, Some, None, option_map, refl, sym, ◌∙◌, ap, arith}
use Rattle.std.specs.Prelude.{slice_get}
use Rattle.std.specs.List.{cons_option}
use Rattle.std.specs.Option.{option_or}
use Rattle.std.proofs.lemmas.List.{drop_all, length-map}
use Rattle.std.proofs.lemmas.Option.{slice_get-map}
use Rattle.manifest_file.specs.declared.manifest.ChunkRef.{ChunkRef}
use Rattle.repo_objects.specs.declared.bad_objects.Bad.{Bad}
use Rattle.snapshot_file.specs.declared.nodes.ManifestRef.{ManifestRef}
use Rattle.snapshot_file.specs.declared.nodes.NodeRow.{NodeRow}
use Rattle.snapshot_file.specs.Snapshots.{manifests_named}
use Rattle.intact.specs.declared.visits.FileVisit.{FileVisit}
use Rattle.intact.specs.declared.visits.PartVisit.{PartVisit}
use Rattle.intact.specs.Rows.{file_for, files_of_row, files_of}
use Rattle.intact.specs.Parts.{part_at, parts_in, inline_fault, first_short}
use Rattle.intact.specs.Places.{files_behind, files_from}
use Rattle.intact.proofs.Looking.{one-more}

-- ---- a snapshot
from-start : (rows : List NodeRow) → files_behind 0 rows ≡ files_of rows
from-start [] = refl
from-start (row ∷ rows) = refl

pub files-here : (rows : List NodeRow) (i from : ℕ) (row : NodeRow) (manifest : ManifestRef) → slice_get rows i ≡ Some row → slice_get (manifests_named row.kind) from ≡ Some manifest → files_from i from rows ≡ file_for row manifest ∷ files_from i (from + 1) rows
files-here rows i from row manifest at named =
    let entry : slice_get (files_of_row row) from ≡ Some (file_for row manifest) = slice_get-map (λ (m : ManifestRef). file_for row m) (manifests_named row.kind) from ∙ ap (option_map (λ (m : ManifestRef). file_for row m)) named in
    ap (files_behind from) (one-more rows i row at)
    ∙ (ap (λ (xs : List FileVisit). xs ++ files_of (drop (i + 1) rows)) (one-more (files_of_row row) from (file_for row manifest) entry)
    ∙ ap (λ (xs : List FileVisit). file_for row manifest ∷ xs) (sym (ap (files_behind (from + 1)) (one-more rows i row at))))

pub files-passed : (rows : List NodeRow) (i from : ℕ) (row : NodeRow) → slice_get rows i ≡ Some row → length (manifests_named row.kind) ≤ from → files_from i from rows ≡ files_from (i + 1) 0 rows
files-passed rows i from row at past =
    let count : length (files_of_row row) ≤ from = omega (arith, past, length-map (manifests_named row.kind) (λ (m : ManifestRef). file_for row m)) in
    ap (files_behind from) (one-more rows i row at)
    ∙ (ap (λ (xs : List FileVisit). xs ++ files_of (drop (i + 1) rows)) (drop_all from (files_of_row row) count)
    ∙ sym (from-start (drop (i + 1) rows)))

pub files-end : (rows : List NodeRow) (i from : ℕ) → length rows ≤ i → files_from i from rows ≡ []
files-end rows i from h = ap (files_behind from) (drop_all i rows h)

pub files-all : (rows : List NodeRow) → files_from 0 0 rows ≡ files_of rows
files-all rows = from-start rows

-- ---- a manifest
by-part : (want : ℕ) (refs : List ChunkRef) (i : ℕ) (chunk : ChunkRef) (o : Option PartVisit) → slice_get refs i ≡ Some chunk → part_at want chunk.place ≡ o → parts_in want (drop i refs) ≡ cons_option o (parts_in want (drop (i + 1) refs))
by-part want refs i chunk o at is = ap (parts_in want) (one-more refs i chunk at) ∙ ap (λ (p : Option PartVisit). cons_option p (parts_in want (drop (i + 1) refs))) is

pub part-here : (want : ℕ) (refs : List ChunkRef) (i : ℕ) (chunk : ChunkRef) (part : PartVisit) → slice_get refs i ≡ Some chunk → part_at want chunk.place ≡ Some part → parts_in want (drop i refs) ≡ part ∷ parts_in want (drop (i + 1) refs)
part-here want refs i chunk part at is = by-part want refs i chunk (Some part) at is

pub part-passed : (want : ℕ) (refs : List ChunkRef) (i : ℕ) (chunk : ChunkRef) → slice_get refs i ≡ Some chunk → part_at want chunk.place ≡ None → parts_in want (drop i refs) ≡ parts_in want (drop (i + 1) refs)
part-passed want refs i chunk at is = by-part want refs i chunk None at is

pub parts-end : (want : ℕ) (refs : List ChunkRef) (i : ℕ) → length refs ≤ i → parts_in want (drop i refs) ≡ []
parts-end want refs i h = ap (parts_in want) (drop_all i refs h)

one-or-none : (o : Option PartVisit) (xs : List PartVisit) (n : ℕ) → length xs ≤ n → length (cons_option o xs) ≤ n + 1
one-or-none None xs n h = omega (arith, h)
one-or-none (Some p) xs n h = omega (arith, h)

pub few-parts : (want : ℕ) (refs : List ChunkRef) → length (parts_in want refs) ≤ length refs
few-parts want [] = omega arith
few-parts want (chunk ∷ refs) = let rest = one-or-none (part_at want chunk.place) (parts_in want refs) (length refs) (few-parts want refs) in omega (arith, rest)

-- ---- chunks in a manifest
pub short-here : (want : ℕ) (refs : List ChunkRef) (i : ℕ) (chunk : ChunkRef) (bad : Bad) → slice_get refs i ≡ Some chunk → inline_fault want chunk.place ≡ Some bad → first_short want (drop i refs) ≡ Some bad
unfolding first_short
short-here want refs i chunk bad at is = ap (first_short want) (one-more refs i chunk at) ∙ ap (λ (o : Option Bad). option_or o (first_short want (drop (i + 1) refs))) is

pub short-passed : (want : ℕ) (refs : List ChunkRef) (i : ℕ) (chunk : ChunkRef) → slice_get refs i ≡ Some chunk → inline_fault want chunk.place ≡ None → first_short want (drop i refs) ≡ first_short want (drop (i + 1) refs)
unfolding first_short
short-passed want refs i chunk at is = ap (first_short want) (one-more refs i chunk at) ∙ ap (λ (o : Option Bad). option_or o (first_short want (drop (i + 1) refs))) is

pub short-end : (want : ℕ) (refs : List ChunkRef) (i : ℕ) → length refs ≤ i → first_short want (drop i refs) ≡ None
unfolding first_short
short-end want refs i h = ap (first_short want) (drop_all i refs h)

pub some-at : {A : Type 0} (xs : List A) (k : ℕ) → k < length xs → (x : A) × (slice_get xs k ≡ Some x)
some-at [] k h = absurd (omega (arith, h))
some-at (x ∷ xs) zero h = (x, refl)
some-at (x ∷ xs) (suc k) h = some-at xs k (omega (arith, h))
