-- What a text is read as.
use Rattle.std.specs.Prelude.{◌≡◌, ℕ, List, Option, Some, None, Result, Ok, Err}
use Rattle.zarr_meta.specs.declared.faults.MetaFault.{MetaFault}
use Rattle.zarr_meta.specs.declared.metas.Meta.{Meta}
use Rattle.zarr_meta.specs.declared.views.MetaView.{MetaView}
use Rattle.zarr_meta.specs.Meta.{meta_of}
use Rattle.zarr_meta.specs.Kept.{IsReadingOf}
use Rattle.store_api.specs.declared.machines.Refusal.{Refusal}
use Rattle.store_api.specs.declared.machines.Refusal.TheVariants.{BadMeta, NoMemory}

-- the metadata that a text says, or why this text doesn't serve: the fault
-- that this tells of what it says
abbrev pub Reads : (Result MetaView MetaFault → Option MetaFault) → (text : List ℕ)
    → Result Meta Refusal → Type 0
Reads fault text (Ok meta) = (fault (meta_of text) ≡ None) × IsReadingOf text meta
Reads fault text (Err (BadMeta bad)) = fault (meta_of text) ≡ Some bad
Reads fault text (Err NoMemory) = Unit {0}
Reads fault text (Err _) = ⊥
