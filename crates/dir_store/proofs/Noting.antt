-- What stays so from one call to the next: where a file is put behind a settling, and where a failure is noted.
use Rattle.std.proofs.Common.{◌≡◌, ◌∙◌, ℕ, List, refl, sym, subst, ⊎_elim}
use Rattle.std.specs.Prelude.{Bool, true, false, Result, Ok, Err, OnOk}
use Rattle.folder.specs.declared.faults.FileFault.{FileFault}
use Rattle.folder.specs.declared.faults.FileFault.TheVariants as F
use Rattle.whole_files.specs.Changes.{UnlessFailed}
use Rattle.whole_files.specs.Whole.{LooserAside}
use Rattle.object_store.specs.declared.events.StoreFault.{StoreFault}
use Rattle.object_files.specs.Paths.{path_in, aside_folder_in}
use Rattle.object_files.proofs.Apart.{outside}
use Rattle.dir_store.specs.Firm.{AreFirmIf}
use Rattle.dir_store.specs.inside.Telling.{settled_after, as_told}

-- ---- a file that is put
pub unless-failed : {A : Type 0} (done : Result A FileFault) (P : Type 0) → P → UnlessFailed done P
unless-failed (Ok a) P is = is
unless-failed (Err (F.Failed trouble)) P is = tt
unless-failed (Err F.NoMemory) P is = is

unless-map : {A : Type 0} (done : Result A FileFault) (P Q : Type 0) → (P → Q) → UnlessFailed done P → UnlessFailed done Q
unless-map (Ok a) P Q leads is = leads is
unless-map (Err (F.Failed trouble)) P Q leads is = tt
unless-map (Err F.NoMemory) P Q leads is = leads is

aside-kept : (root asides : List ℕ) (settled : Bool) (old new : List ℕ → Type 0) → asides ≡ aside_folder_in root → AreFirmIf settled old root → LooserAside asides old new → AreFirmIf settled new root
aside-kept root asides settled old new there firm looser = λ is key known at.
    ⊎_elim (λ before. firm is key known before) (λ aside. outside root asides (path_in root key) key there refl aside.0 aside.1) (looser (path_in root key) at)

-- names that were firm are so behind it, unless it failed
pub put-kept : {A : Type 0} (done : Result A FileFault) (root asides : List ℕ) (settled : Bool) (old new : List ℕ → Type 0) → asides ≡ aside_folder_in root → AreFirmIf settled old root → UnlessFailed done (LooserAside asides old new) → UnlessFailed done (AreFirmIf settled new root)
put-kept done root asides settled old new there firm looser = unless-map done (LooserAside asides old new) (AreFirmIf settled new root) (aside-kept root asides settled old new there firm) looser

-- ---- a failure that is noted
noted-kept : {A : Type 0} (done : Result A FileFault) (root : List ℕ) (before after : Bool) (loose : List ℕ → Type 0) → after ≡ settled_after before done → UnlessFailed done (AreFirmIf before loose root) → AreFirmIf after loose root
noted-kept (Ok a) root before after loose is kept = λ settled. kept (sym is ∙ settled)
noted-kept (Err (F.Failed trouble)) root before after loose is kept = λ settled. let bad : false ≡ true = sym is ∙ settled in cc
noted-kept (Err F.NoMemory) root before after loose is kept = λ settled. kept (sym is ∙ settled)

told-on-ok : {A : Type 0} (done : Result A FileFault) (P : Type 0) → OnOk done P → OnOk (as_told done) P
told-on-ok (Ok a) P is = is
told-on-ok (Err (F.Failed trouble)) P is = tt
told-on-ok (Err F.NoMemory) P is = tt

-- the folders and files are the same behind the note
module _ {A T : Type 0} (loose : T → List ℕ → Type 0) (before after : T) (same : after ≡ before) (done : Result A FileFault) where
  pub noted-firm : (root : List ℕ) (was is : Bool) → is ≡ settled_after was done → UnlessFailed done (AreFirmIf was (loose before) root) → AreFirmIf is (loose after) root
  noted-firm root was is noted kept = subst (λ (tree : T). AreFirmIf is (loose tree) root) (sym same) (noted-kept done root was is (loose before) noted kept)

  pub noted-looser : (asides : List ℕ) (old : List ℕ → Type 0) (told : Result A StoreFault) → told ≡ as_told done → OnOk done (LooserAside asides old (loose before)) → OnOk told (LooserAside asides old (loose after))
  noted-looser asides old told is looser =
      subst (λ (tree : T). OnOk told (LooserAside asides old (loose tree))) (sym same)
      (subst (λ (r : Result A StoreFault). OnOk r (LooserAside asides old (loose before))) (sym is) (told-on-ok done (LooserAside asides old (loose before)) looser))
