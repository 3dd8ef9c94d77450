-- Which fault of a listing is kept.
use Rattle.std.proofs.Common.{Global, ◌≡◌, ◌∙◌, ◌⊎◌, inl, inr, ℕ, List, Option, Some, None, Result, Ok, Err, ap, sym, subst}
use Rattle.std.specs.Prelude.{IfSome, String, string_bytes, unwrap_or}
use Rattle.object_store.specs.declared.keys.Part.{Part}
use Rattle.object_store.specs.declared.events.StoreFault.{StoreFault}
use Rattle.object_store.specs.declared.events.StoreFault.TheVariants.{Failed, NoMemory}
use Rattle.object_files.specs.Listings.{IsObjectPath}
use Rattle.object_files.specs.Paths.{folder_in}
use Rattle.dir_store.specs.declared.directory.FirstFault.{FirstFault}
use Rattle.dir_store.specs.Faults.{TellsFirst, TellsFirstIn}

module _ (root : List ℕ) (part : Part) where
  pub path-told : (path : Option (String Global)) (folder told : String Global) → told ≡ unwrap_or path folder → string_bytes folder ≡ folder_in root part
      → IfSome path (λ p. IsObjectPath root part (string_bytes p)) → (string_bytes told ≡ folder_in root part) ⊎ IsObjectPath root part (string_bytes told)
  path-told None folder told is of object = inl (ap string_bytes is ∙ of)
  path-told (Some path) folder told is of object = inr (object.0, object.1, ap string_bytes is ∙ object.2)

  pub listed : {A : Type 0} (path : List ℕ) (done : Result A StoreFault) (old new : Option FirstFault) → (path ≡ folder_in root part) ⊎ IsObjectPath root part path
      → TellsFirst path done old new → TellsFirstIn root part done old new
  listed path (Ok a) old new at told = told
  listed path (Err Failed) old new at told =
      (told.0, subst (λ (p : List ℕ). (p ≡ folder_in root part) ⊎ IsObjectPath root part p) (sym told.1) at, told.2)
  listed path (Err NoMemory) old new at told = told
