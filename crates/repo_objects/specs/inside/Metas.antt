-- What the code's own functions answer; no public contract cites this.
use Rattle.std.specs.Prelude.{◌≡◌, ⊤, ℕ, List, map, Some, None, Result, Ok, Err}
use Rattle.ref_file.specs.declared.RefFault.{RefFault}
use Rattle.ref_file.specs.declared.RefFault.TheVariants as ref
use Rattle.zarr_meta.specs.declared.faults.MetaFault.{MetaFault}
use Rattle.zarr_meta.specs.declared.metas.Meta.{Meta}
use Rattle.snapshot_file.specs.declared.nodes.NodeRow.{NodeRow}
use Rattle.repo_objects.specs.declared.bad_objects.Bad.TheVariants.{Ref, Node}
use Rattle.repo_objects.specs.declared.bad_objects.Unread.{Unread}
use Rattle.repo_objects.specs.declared.bad_objects.Unread.TheVariants as unread
use Rattle.repo_objects.specs.Readings.{row_fault, first_bad}

-- why a reference isn't read whose reader tells this
abbrev pub unread_ref_of : RefFault → Unread
unread_ref_of ref.NoMemory = unread.NoMemory
unread_ref_of fault = unread.Bad (Ref fault)

-- the metadata of the rows, one after another
abbrev pub AreMetas : List NodeRow → List Meta → Type 0
AreMetas rows metas = map (λ meta. meta.text) metas ≡ map (λ row. row.user_data) rows

-- the metadata of a row, or the fault of row number `at`
abbrev pub LoadsMeta : (at : ℕ) → NodeRow → Result Meta Unread → Type 0
LoadsMeta at row (Ok meta) = (row_fault row ≡ None) × (meta.text ≡ row.user_data)
LoadsMeta at row (Err (unread.Bad bad)) =
    (fault : MetaFault) × (row_fault row ≡ Some fault) × (bad ≡ Node at fault)
LoadsMeta at row (Err unread.NoMemory) = ⊤

-- the metadata of rows, or the first row's fault
abbrev pub LoadsMetas : List NodeRow → Result (List Meta) Unread → Type 0
LoadsMetas rows (Ok metas) = (first_bad 0 rows ≡ None) × AreMetas rows metas
LoadsMetas rows (Err (unread.Bad bad)) = first_bad 0 rows ≡ Some bad
LoadsMetas rows (Err unread.NoMemory) = ⊤
