-- The numbers of a chunk that was read.
use Rattle.std.proofs.Common.{◌≡◌, ℕ, ℤ, true, false, cond, List, length, sym, ◌∙◌, ap, eqb-true}
use Rattle.std.specs.Prelude.{◌&&◌, nat_eq}
use Rattle.zarr_tree.specs.Nodes.{chunk_length}
use Rattle.zarr_tree.proofs.Apply.{first, second}
use Rattle.session.specs.declared.chunks.Value.{Value}
use Rattle.session.specs.declared.chunks.Value.TheVariants.{Bytes}
use Rattle.region_cells.specs.Boxes.{count_of}
use Rattle.region_cells.specs.Parts.{ReadsPart}
use Rattle.region_cells.specs.Walks.{with_part}
use Rattle.region_cells.proofs.ReadLaws.{part_is}
use Rattle.array_region.specs.Reading.{Reads, fits, with_value}

-- what fits
pub record Fit (r : Reads) (index bytes : List ℕ) (numbers : List ℤ) : Type 0 where
  pub rank : length index ≡ length r.array.chunks
  pub whole : length bytes ≡ chunk_length r.array
  pub count : length numbers ≡ count_of r.from r.to

pub fitting : (r : Reads) (index bytes : List ℕ) (numbers : List ℤ) → fits r index bytes numbers ≡ true → Fit r index bytes numbers
fitting r index bytes numbers h =
    let two = first (nat_eq (length index) (length r.array.chunks) && nat_eq (length bytes) (chunk_length r.array)) (nat_eq (length numbers) (count_of r.from r.to)) h in
    record {
      rank = eqb-true _ _ (first (nat_eq (length index) (length r.array.chunks)) (nat_eq (length bytes) (chunk_length r.array)) two);
      whole = eqb-true _ _ (second (nat_eq (length index) (length r.array.chunks)) (nat_eq (length bytes) (chunk_length r.array)) two);
      count = eqb-true _ _ (second _ (nat_eq (length numbers) (count_of r.from r.to)) h);
    }

-- a part that was read is told whole
pub entered : (r : Reads) (index bytes : List ℕ) (value : Value) (old new : List ℤ) → length r.from ≡ length r.to → fits r index bytes old ≡ true → value ≡ Bytes bytes → ReadsPart r.array.kind r.array.big r.from r.to r.array.chunks index bytes old new
    → new ≡ with_value r index value old
entered r index bytes value old new rank h v read =
    part_is r.array.kind r.array.big r.from r.to r.array.chunks index bytes old new rank (fitting r index bytes old h).count read
    ∙ sym (ap (λ b. cond b (with_part r.array.kind r.array.big r.from r.to r.array.chunks index bytes old) old) h)
    ∙ sym (ap (λ x. with_value r index x old) v)

-- what doesn't fit leaves them
pub left : (r : Reads) (index bytes : List ℕ) (value : Value) (numbers : List ℤ) → fits r index bytes numbers ≡ false → value ≡ Bytes bytes → numbers ≡ with_value r index value numbers
left r index bytes value numbers h v =
    sym (ap (λ b. cond b (with_part r.array.kind r.array.big r.from r.to r.array.chunks index bytes numbers) numbers) h) ∙ sym (ap (λ x. with_value r index x numbers) v)
