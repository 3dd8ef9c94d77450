-- Changes of a folder in memory, one after the other.
use Rattle.std.proofs.Common.{◌≡◌, ◌≢◌, ℕ, ◌+◌, ◌<◌, ◌≤◌, subst, List, [], ◌∷◌, ◌++◌, take, length, get_or, refl, ap, sym, ◌∙◌, inl, inr, ◌⊎◌, ⊎_elim, Bool, true, false, Some, None, zero, suc}
use Rattle.std.specs.Prelude.{bytes_eq, string_bytes, if◌then◌else◌, slice_get, codes}
use Rattle.std.proofs.lemmas.Slice.Eq.{bytes_eq-Decides}
use Rattle.std.proofs.lemmas.List.{take_more, take_all}
use Rattle.folder.specs.declared.memory.Change.{Change}
use Rattle.folder.specs.declared.memory.Content.{Content}
use Rattle.folder.specs.declared.memory.Content.TheVariants.{Nothing}
use Rattle.std.proofs.lemmas.Option.{same_Some}
use Rattle.folder.specs.Files.{TellsNames}
use Rattle.folder.specs.Memory.{content_after, content_through, content_at, file_of, file_at, ChangedTo, AddsName, TellsChanges}

pub content_through-append : (path : List ℕ) (before : Content) (old : List Change) (change : Change) → content_through path before (old ++ change ∷ []) ≡ content_after path (content_through path before old) change
unfolding content_through
content_through-append path before [] change = refl
content_through-append path before (c ∷ cs) change = content_through-append path (content_after path before c) cs change

at-append : (path : List ℕ) (old : List Change) (change : Change) → content_at (old ++ change ∷ []) path ≡ content_after path (content_at old path) change
at-append path old change = content_through-append path Nothing old change

after-same : (path : List ℕ) (before : Content) (change : Change) → string_bytes change.path ≡ path → content_after path before change ≡ change.content
after-same path before change same = ap (λ b. if b then change.content else before) ((bytes_eq-Decides (string_bytes change.path) path).1 same)

after-other : (path : List ℕ) (before : Content) (change : Change) → (string_bytes change.path ≡ path → ⊥) → content_after path before change ≡ before
after-other path before change other = decide (bytes_eq (string_bytes change.path) path) refl
  where
    decide : (b : Bool) → bytes_eq (string_bytes change.path) path ≡ b → (if b then change.content else before) ≡ before
    decide true is = absurd (other ((bytes_eq-Decides (string_bytes change.path) path).0 is))
    decide false is = refl

pub changed-to : (old new : List Change) (path : List ℕ) (change : Change) → new ≡ old ++ change ∷ [] → string_bytes change.path ≡ path → ChangedTo old new path change.content
changed-to old new path change is same = record {
  at = ap (λ cs. content_at cs path) is ∙ at-append path old change ∙ after-same path (content_at old path) change same;
  others = λ p other. ap (λ cs. content_at cs p) is ∙ at-append p old change ∙ after-other p (content_at old p) change (λ here. other (sym here ∙ same));
}

-- one change more is looked at
pub found-here : (path : List ℕ) (changes : List Change) (i : ℕ) (change : Change) → i < length changes → get_or changes i change ≡ change → string_bytes change.path ≡ path
    → change.content ≡ content_at (take (i + 1) changes) path
found-here path changes i change l here same =
    sym (ap (λ cs. content_at cs path) (take_more changes i change l ∙ ap (λ c. take i changes ++ c ∷ []) here)
    ∙ at-append path (take i changes) change ∙ after-same path (content_at (take i changes) path) change same)

pub found-before : (path : List ℕ) (changes : List Change) (i : ℕ) (change : Change) → i < length changes → get_or changes i change ≡ change → (string_bytes change.path ≡ path → ⊥)
    → content_at (take i changes) path ≡ content_at (take (i + 1) changes) path
found-before path changes i change l here other =
    sym (ap (λ cs. content_at cs path) (take_more changes i change l ∙ ap (λ c. take i changes ++ c ∷ []) here)
    ∙ at-append path (take i changes) change ∙ after-other path (content_at (take i changes) path) change other)

pub at-none : (path : List ℕ) → Nothing ≡ content_at [] path
unfolding content_through
at-none path = refl

-- ---- where a file is, a change put it
pub record Put (changes : List Change) (path : List ℕ) : Type 0 where
  pub place : ℕ
  pub change : Change
  pub here : slice_get changes place ≡ Some change
  pub path_is : string_bytes change.path ≡ path

put-at : (path : List ℕ) (before : Content) (c : Change) (cs : List Change) (b : Bool) → bytes_eq (string_bytes c.path) path ≡ b → (content_after path before c ≡ before → Put cs path) → Put (c ∷ cs) path
put-at path before c cs true is later = record { place = 0; change = c; here = refl; path_is = (bytes_eq-Decides (string_bytes c.path) path).0 is }
put-at path before c cs false is later =
    let put = later (ap (λ b. if b then c.content else before) is) in
    record { place = suc put.place; change = put.change; here = put.here; path_is = put.path_is }

put-from : (path : List ℕ) (before : Content) (changes : List Change) → file_of before ≡ None → file_of (content_through path before changes) ≢ None → Put changes path
unfolding content_through
put-from path before [] none some = absurd (some none)
put-from path before (c ∷ cs) none some =
    put-at path before c cs (bytes_eq (string_bytes c.path) path) refl (λ stays. put-from path (content_after path before c) cs (ap file_of stays ∙ none) some)

pub put-by : (changes : List Change) (path : List ℕ) → file_at changes path ≢ None → Put changes path
put-by changes path some = put-from path Nothing changes refl some

-- ---- listings
pub tells-names : (changes : List Change) (folder : List ℕ) (names : List (List ℕ)) → TellsChanges changes folder names → TellsNames (file_at changes) folder names
tells-names changes folder names tells = λ name rest plain ends some.
    let put = put-by changes (folder ++ codes "/" ++ name ++ rest) some in
    tells put.place put.change put.here name rest plain ends put.path_is

get-nil : (k : ℕ) → slice_get {X = Change} [] k ≡ None
get-nil zero = refl
get-nil (suc k) = refl

pub tells-none : (folder : List ℕ) (names : List (List ℕ)) → TellsChanges [] folder names
tells-none folder names = λ k change at. let bad : None ≡ Some change = sym (get-nil k) ∙ at in cc

get-append : (xs : List Change) (x change : Change) (k : ℕ) → slice_get (xs ++ x ∷ []) k ≡ Some change → (slice_get xs k ≡ Some change) ⊎ (x ≡ change)
get-append [] x change zero at = inr (same_Some x change at)
get-append [] x change (suc k) at = let bad : None ≡ Some change = sym (get-nil k) ∙ at in cc
get-append (y ∷ xs) x change zero at = inl at
get-append (y ∷ xs) x change (suc k) at = get-append xs x change k at

-- one change more is listed
pub tells-more : (changes : List Change) (i : ℕ) (change : Change) (folder : List ℕ) (old new : List (List ℕ)) → i < length changes → get_or changes i change ≡ change
    → TellsChanges (take i changes) folder old → AddsName (string_bytes change.path) folder old new → TellsChanges (take (i + 1) changes) folder new
tells-more changes i change folder old new l here tells adds = λ k c at name rest plain ends leads.
    let split : take (i + 1) changes ≡ take i changes ++ change ∷ [] = take_more changes i change l ∙ ap (λ x. take i changes ++ x ∷ []) here in
    let one : (slice_get (take i changes) k ≡ Some c) ⊎ (change ≡ c) = get-append (take i changes) change c k (sym (ap (λ cs. slice_get cs k) split) ∙ at) in
    ⊎_elim (λ earlier. adds.stay name (tells k c earlier name rest plain ends leads))
    (λ this. adds.added name rest plain ends (ap (λ (x : Change). string_bytes x.path) this ∙ leads))
    one

pub tells-all : (items changes : List Change) (i : ℕ) (folder : List ℕ) (names : List (List ℕ)) → items ≡ changes → length items ≤ i → TellsChanges (take i items) folder names → TellsNames (file_at changes) folder names
tells-all items changes i folder names same l tells = tells-names changes folder names (subst (λ (cs : List Change). TellsChanges cs folder names) (take_all i items l ∙ same) tells)
