-- What was put and is readable stays so.
use Rattle.std.proofs.Common.{◌≡◌, List, [], ◌++◌, refl, sym, ◌∙◌, ap}
use Rattle.std.specs.Prelude.{ℕ, Option, Some, None, option_and_then}
use Rattle.zarr_tree.specs.Held.{HeldEntry}
use Rattle.manifest_file.specs.declared.manifest.Place.{Place}
use Rattle.manifest_file.specs.declared.manifest.Place.TheVariants.{Inline, Object}
use Rattle.repo_objects.specs.Trees.{Puts, bytes_at, part_of, Extends}
use Rattle.object_store.specs.declared.events.Event.{Event}
use Rattle.store_api.specs.Journal.{Each, puts_of, IsFirst, IsOnce, IsGood}
use Rattle.object_store.proofs.Journals.{Each-back}
use Rattle.store_api.proofs.Standing.{puts-stay}
use Rattle.commit_path.specs.Owed.{HasChunks}

pub extends-same : (p : Puts) → Extends p p
extends-same p = record { manifests = λ id m e. e; chunks = λ id bytes e. e }

pub extends-more : (p q r : Puts) → Extends p q → Extends q r → Extends p r
extends-more p q r a b = record { manifests = λ id m e. b.manifests id m (a.manifests id m e); chunks = λ id bytes e. b.chunks id bytes (a.chunks id bytes e) }

read-some : {A B : Type 0} (f : A → Option B) (o : Option A) (b : B) → option_and_then f o ≡ Some b → (a : A) × (o ≡ Some a)
read-some f None b e = cc
read-some f (Some a) b e = (a, refl)

pub puts-kept : (journal more : List Event) → Each IsGood journal more → IsOnce (journal ++ more) → Extends (puts_of journal) (puts_of (journal ++ more))
puts-kept journal more g once = let parts = Each-back IsFirst [] journal more once in puts-stay journal more parts.0 g parts.1

-- ---- the bytes of chunks
pub bytes-extend : (p q : Puts) → Extends p q → (place : Place) (bytes : List ℕ) → bytes_at p place ≡ Some bytes → bytes_at q place ≡ Some bytes
bytes-extend p q x (Inline own) bytes e = e
bytes-extend p q x (Object id offset size) bytes e =
    let a = read-some (part_of offset size) (p.chunk id) bytes e in
    ap (option_and_then (part_of offset size)) (x.chunks id a.0 a.1 ∙ sym a.1) ∙ e

pub chunks-extend : (p q : Puts) → Extends p q → (entries : List (HeldEntry Place)) → HasChunks p entries → HasChunks q entries
chunks-extend p q x entries h node i place e = let b = h node i place e in (b.0, bytes-extend p q x place b.0 b.1, b.2)
