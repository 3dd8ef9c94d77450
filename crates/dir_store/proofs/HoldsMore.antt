-- Of entries that tell more than a new repository has, one stands.
use Rattle.std.proofs.Common.{◌≡◌, ℕ, ◌<◌, List, length, refl, sym}
use Rattle.std.specs.Prelude.{true, Option}
use Rattle.std.specs.List.{slice_index_or}
use Rattle.std.proofs.lemmas.List.Folds.{Any-from_list_any}
use Rattle.std.proofs.lemmas.Option.{slice_get_read}
use Rattle.object_store.specs.declared.keys.Key.{Key}
use Rattle.object_store.specs.declared.keys.Part.{Part}
use Rattle.object_store.specs.declared.events.Entry.{Entry}
use Rattle.object_store.specs.Machine.{Stored, IsEntry}
use Rattle.dir_store.specs.Contents.{ListsAll}
use Rattle.dir_store.specs.Losing.{is_more, tell_more, HoldsMore}

pub holds-more : (at : Key → Option Stored) (part : Part) (entries : List Entry) → ListsAll at part entries → tell_more entries ≡ true → HoldsMore at part
holds-more at part entries lists more =
    let found = Any-from_list_any (λ (e : Entry). is_more e.key) entries more in
    let k : ℕ = found.0 in
    let e : Entry = found.1 in
    let within : k < length entries = found.2 in
    let is : slice_index_or entries k e ≡ e = found.3 in
    let entry : IsEntry at part e = lists.right k e (slice_get_read entries (length entries) k e refl within (sym is)) in
    record { key = e.key; stored = entry.stored; stands = entry.stands; part_is = entry.part_is; more = found.4 }
