-- What a loss of power may leave behind an operation.
use Rattle.std.proofs.Common.{◌≡◌, ◌∙◌, ℕ, List, ap, sym, subst, inl, inr, ⊎_elim}
use Rattle.std.specs.Prelude.{Option}
use Rattle.folder.specs.Files.{StoredFile, Leaves}
use Rattle.whole_files.specs.Whole.{aside_in, IsLeft}
use Rattle.whole_files.specs.Changes.{IsNew, IsOver}
use Rattle.object_store.specs.declared.keys.Key.{Key}
use Rattle.object_store.specs.declared.keys.Why.{Why}
use Rattle.object_store.specs.declared.events.Op.{Op}
use Rattle.object_store.specs.declared.events.Op.TheVariants.{PutNew, PutOver}
use Rattle.object_store.specs.declared.events.Version.{Version}
use Rattle.object_files.specs.Versions.{putting_of}
use Rattle.dir_store.specs.Contents.{object_at, IsDone, IsLeftBy}
use Rattle.object_files.specs.Paths.{path_in, aside_folder_in}
use Rattle.dir_store.proofs.Answering.{object, new-done, over-done}

-- of a key's file, where it lies in the directory
module _ (root asides path : List ℕ) (key : Key) (files : List ℕ → Option StoredFile) (there : asides ≡ aside_folder_in root) (at : path ≡ path_in root key) where
  left-by : (op : Op) (Made : Option StoredFile → Type 0) → ((f : Option StoredFile) → Made f → IsDone op (object_at files root key) (object key f)) → (p : List ℕ) (f : Option StoredFile) → IsLeft asides path Made files p f → IsLeftBy root key op files p f
  left-by op Made done p f is = record {
    others = λ other out. is.others (λ same. other (same ∙ at)) (λ number same. out number (same ∙ ap (λ (folder : List ℕ). aside_in folder number) there));
    here = λ same. ⊎_elim (λ stays. inl (stays ∙ ap files at)) (λ made. inr (done f made)) (is.here (same ∙ sym at));
  }

  more : (op : Op) (Made : Option StoredFile → Type 0) → ((f : Option StoredFile) → Made f → IsDone op (object_at files root key) (object key f)) → (a b : ℕ → List ℕ → Option StoredFile → Type 0) → Leaves (IsLeft asides path Made files) a b → Leaves (IsLeftBy root key op files) a b
  more op Made done a b leaves = λ n p f is. ⊎_elim inl (λ x. inr (left-by op Made done p f x)) (leaves n p f is)

  pub new-left : (bytes : List ℕ) (why : Why) (a b : ℕ → List ℕ → Option StoredFile → Type 0) → Leaves (IsLeft asides path (IsNew bytes (files path)) files) a b → Leaves (IsLeftBy root key (PutNew key bytes why) files) a b
  new-left bytes why = more (PutNew key bytes why) (IsNew bytes (files path)) (λ f made. new-done key bytes why (files (path_in root key)) f (subst (λ (q : List ℕ). IsNew bytes (files q) f) at made))

  pub over-left : (bytes : List ℕ) (version : Version) (why : Why) (a b : ℕ → List ℕ → Option StoredFile → Type 0) → Leaves (IsLeft asides path (IsOver (putting_of key) bytes version.0 (files path)) files) a b → Leaves (IsLeftBy root key (PutOver key bytes version why) files) a b
  over-left bytes version why = more (PutOver key bytes version why) (IsOver (putting_of key) bytes version.0 (files path))
      (λ f made. over-done key bytes version why (files (path_in root key)) f (subst (λ (q : List ℕ). IsOver (putting_of key) bytes version.0 (files q) f) at made))
