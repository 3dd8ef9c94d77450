-- The paths of faults of listings.
use Rattle.std.proofs.Common.{Global, ◌≡◌, ℕ, List, Option, Some, Result, Ok, Err, refl, sym, subst}
use Rattle.std.specs.Prelude.{IfErr, IfSome, String, string_bytes}
use Rattle.object_store.specs.declared.keys.Key.{Key}
use Rattle.object_store.specs.declared.keys.Part.{Part}
use Rattle.object_store.specs.Machine.{part_of}
use Rattle.object_files.specs.declared.listing.ListFault.{ListFault}
use Rattle.object_files.specs.Listings.{IsFaultIn, IsObjectPath}
use Rattle.object_files.specs.Paths.{path_in}

pub at-key : {T : Type 0} (root : List ℕ) (key : Key) (path : String Global) (done : Result T ListFault) → string_bytes path ≡ path_in root key
    → IfErr done (λ fault. fault.path ≡ Some path) → IfErr done (IsFaultIn root (part_of key))
at-key root key path (Ok value) is told = tt
at-key root key path (Err fault) is told =
    subst (λ (p : Option (String Global)). IfSome p (λ q. IsObjectPath root (part_of key) (string_bytes q))) (sym told) (key, refl, is)

pub of-part : (root : List ℕ) (part other : Part) (fault : ListFault) → other ≡ part → IsFaultIn root other fault → IsFaultIn root part fault
of-part root part other fault is told = subst (λ (p : Part). IsFaultIn root p fault) is told
