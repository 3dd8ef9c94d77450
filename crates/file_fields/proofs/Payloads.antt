-- What a file says, by its payload.
use Rattle.std.proofs.Common.{◌≡◌, ℕ, Bool, true, false, cond, List, drop, Result, Ok, Err, refl, ap, ◌∙◌}
use Rattle.flat_tables.specs.declared.header.Kind.{Kind}
use Rattle.flat_tables.specs.declared.header.HeaderFault.{HeaderFault}
use Rattle.flat_tables.specs.declared.fault.FileFault.{FileFault}
use Rattle.flat_tables.specs.Header.{kind_of}
use Rattle.flat_tables.specs.Step.{◌>>=◌}
use Rattle.flat_tables.specs.File.{of_kind, file_of}
use Rattle.file_fields.specs.Fields.{payload_in}

else_read : {A : Type 0} (b : Bool) (d : FileFault) (r : Result (List ℕ) FileFault) (s : Result A FileFault) (read : List ℕ → Result A FileFault) → s ≡ (r >>= read) → cond b (Err d) s ≡ (cond b (Err d) r >>= read)
else_read true d r s read e = refl
else_read false d r s read e = e

then_read : {A : Type 0} (b : Bool) (d : FileFault) (payload : List ℕ) (read : List ℕ → Result A FileFault) → cond b (read payload) (Err d) ≡ (cond b (Ok payload) (Err d) >>= read)
then_read true d payload read = refl
then_read false d payload read = refl

kind_read : {A : Type 0} (wanted : Kind) (found : Result Kind HeaderFault) (payload : List ℕ) (read : List ℕ → Result A FileFault) → of_kind wanted found (read payload) ≡ (of_kind wanted found (Ok payload) >>= read)
kind_read wanted (Err fault) payload read = refl
kind_read wanted (Ok found) payload read = then_read _ _ payload read

-- a file says what its payload says, or its fault
pub payload_read : {A : Type 0} (kind : Kind) (read : List ℕ → Result A FileFault) (file : List ℕ) → file_of kind read file ≡ (payload_in kind file >>= read)
unfolding file_of
payload_read kind read file = else_read _ _ _ _ read (kind_read kind (kind_of file) (drop 39 file) read)

pub read_is : {A : Type 0} (kind : Kind) (read : List ℕ → Result A FileFault) (file payload : List ℕ) → payload_in kind file ≡ Ok payload → file_of kind read file ≡ read payload
read_is kind read file payload e = payload_read kind read file ∙ ap (λ p. p >>= read) e

pub fault_is : {A : Type 0} (kind : Kind) (read : List ℕ → Result A FileFault) (file : List ℕ) (fault : FileFault) → payload_in kind file ≡ Err fault → file_of kind read file ≡ Err fault
fault_is kind read file fault e = payload_read kind read file ∙ ap (λ p. p >>= read) e
