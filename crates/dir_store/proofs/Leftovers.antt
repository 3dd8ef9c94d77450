-- What is removed of files aside.
use Rattle.std.proofs.Common.{◌∙◌, ◌≡◌, ◌++◌, ℕ, List, ap, sym}
use Rattle.std.specs.Prelude.{codes, Option}
use Rattle.folder.specs.Files.{StoredFile, SameBut}
use Rattle.whole_files.specs.Whole.{OnlyAside}
use Rattle.object_files.specs.Paths.{IsAsideName}

pub only-aside : (folder name path : List ℕ) (old new : List ℕ → Option StoredFile) → IsAsideName name → path ≡ folder ++ codes "/" ++ name → SameBut path old new → OnlyAside folder old new
only-aside folder name path old new aside is same = record {
  others = λ p out. same p (λ at. out aside.0 (at ∙ is ∙ ap (λ (n : List ℕ). folder ++ codes "/" ++ n) (sym aside.2)));
}
