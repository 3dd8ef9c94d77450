-- Folders and files as a map from paths to plain files: what calls see of it, and what they change.
use Rattle.std.specs.Prelude.{◌≡◌, ◌≢◌, ◌++◌, ◌∷◌, ◌⊎◌, ℕ, List, [], length, take, Option}
use Rattle.std.specs.Prelude.{Some, None, codes, Bool, true, false, Result, Ok, Err, slice_get}
use Rattle.folder.specs.declared.seen.Seen.{Seen}
use Rattle.folder.specs.declared.seen.Kind.{Kind}
use Rattle.folder.specs.declared.seen.Kind.TheVariants.{File, Folder, Other}

-- a plain file: its bytes, and the time of its last change in microseconds
pub record StoredFile : Type 0 where
  pub bytes : List ℕ
  pub changed : ℕ

-- a file of these bytes
abbrev pub HasBytes : List ℕ → Option StoredFile → Type 0
HasBytes bytes None = ⊥
HasBytes bytes (Some stored) = stored.bytes ≡ bytes

-- a file as long as is seen, and changed then
abbrev pub IsMeasured : Seen → Option StoredFile → Type 0
IsMeasured seen None = ⊥
IsMeasured seen (Some stored) = (seen.size ≡ length stored.bytes) × (seen.changed ≡ stored.changed)

-- of this kind: only a plain file is in the map
abbrev pub IsOfKind : Kind → Seen → Option StoredFile → Type 0
IsOfKind File seen file = IsMeasured seen file
IsOfKind Folder seen file = file ≡ None
IsOfKind Other seen file = file ≡ None

-- what is seen of whatever lies at a path
abbrev pub IsSeen : Option StoredFile → Option Seen → Type 0
IsSeen file None = file ≡ None
IsSeen file (Some seen) = IsOfKind seen.kind seen file

-- what is seen of a plain file
abbrev pub IsFileSeen : Option StoredFile → Option Seen → Type 0
IsFileSeen file None = file ≡ None
IsFileSeen file (Some seen) = IsMeasured seen file

-- From a file of which this was left a piece was read, that is behind it less; where room was and
-- nothing was read, it is at its end.
pub record ReadsOn (room count : ℕ) (piece old new : List ℕ) : Type 0 where
  pub read : old ≡ take count piece ++ new
  pub ends : count ≡ 0 → (room ≡ 0) ⊎ (old ≡ [])

-- all but the file at this path stayed
abbrev pub SameBut : List ℕ → (List ℕ → Option StoredFile) → (List ℕ → Option StoredFile) → Type 0
SameBut path old new = (p : List ℕ) → p ≢ path → new p ≡ old p

-- all but the files at these two paths stayed
abbrev pub SameButTwo : List ℕ → List ℕ → (List ℕ → Option StoredFile)
    → (List ℕ → Option StoredFile) → Type 0
SameButTwo path aside old new = (p : List ℕ) → p ≢ path → p ≢ aside → new p ≡ old p

-- What came at a path of a move that overwrites nothing: the file is there where none was, or what
-- was there stays; where the call failed, one of both.
abbrev pub PlacesNew : {E : Type 0} → List ℕ → Option StoredFile → Option StoredFile
    → Result Bool E → Type 0
PlacesNew bytes old new (Ok true) = (old ≡ None) × HasBytes bytes new
PlacesNew bytes old new (Ok false) = (old ≢ None) × (new ≡ old)
PlacesNew bytes old new (Err e) = (new ≡ old) ⊎ ((old ≡ None) × HasBytes bytes new)

-- what came at a path of a move that overwrites
abbrev pub PlacesOver : {A E : Type 0} → List ℕ → Option StoredFile
    → Option StoredFile → Result A E → Type 0
PlacesOver bytes old new (Ok a) = HasBytes bytes new
PlacesOver bytes old new (Err e) = (new ≡ old) ⊎ HasBytes bytes new

-- what came at a path of a removal
abbrev pub Removes : {E : Type 0} → Option StoredFile → Option StoredFile → Result Bool E → Type 0
Removes old new (Ok true) = (old ≢ None) × (new ≡ None)
Removes old new (Ok false) = (old ≡ None) × (new ≡ None)
Removes old new (Err e) = (new ≡ old) ⊎ (new ≡ None)

-- ---- listings
-- a path's part behind a name: its end, or a slash
abbrev pub IsBehind : List ℕ → Type 0
IsBehind [] = Unit {0}
IsBehind (byte ∷ rest) = byte ≡ 47

-- a name has no slash
abbrev pub IsFileName : List ℕ → Type 0
IsFileName [] = Unit {0}
IsFileName (byte ∷ rest) = (byte ≢ 47) × IsFileName rest

-- a place in the list where this name stands
pub record HasName (names : List (List ℕ)) (name : List ℕ) : Type 0 where
  pub place : ℕ
  pub here : slice_get names place ≡ Some name

-- each name in the folder at which or beneath which a file lies is told
abbrev pub TellsNames : (List ℕ → Option StoredFile) → List ℕ → List (List ℕ) → Type 0
TellsNames files folder names =
    (name rest : List ℕ) → IsFileName name → IsBehind rest
    → files (folder ++ codes "/" ++ name ++ rest) ≢ None → HasName names name

-- nothing lies in the folder
abbrev pub HoldsNone : (List ℕ → Option StoredFile) → List ℕ → Type 0
HoldsNone files folder = (rest : List ℕ) → files (folder ++ codes "/" ++ rest) ≡ None

-- ---- what a loss of power may take
-- From one call to the next: which names are loose, so that a loss of power may leave at them what
-- lay there before. None but those that were:
abbrev pub NoLooser : (List ℕ → Type 0) → (List ℕ → Type 0) → Type 0
NoLooser old new = (p : List ℕ) → new p → old p

-- ... or this one
abbrev pub LooserAt : List ℕ → (List ℕ → Type 0) → (List ℕ → Type 0) → Type 0
LooserAt path old new = (p : List ℕ) → new p → old p ⊎ (p ≡ path)

-- ... or these two
abbrev pub LooserAtTwo : List ℕ → List ℕ → (List ℕ → Type 0) → (List ℕ → Type 0) → Type 0
LooserAtTwo path aside old new = (p : List ℕ) → new p → old p ⊎ ((p ≡ path) ⊎ (p ≡ aside))

-- this path is a name in this folder
pub record IsIn (folder path : List ℕ) : Type 0 where
  pub name : List ℕ
  pub plain : IsFileName name
  pub is : path ≡ folder ++ codes "/" ++ name

-- no name in the folder is loose any more
abbrev pub Firms : List ℕ → (List ℕ → Type 0) → (List ℕ → Type 0) → Type 0
Firms folder old new = (p : List ℕ) → new p → old p × (IsIn folder p → ⊥)

-- no name beneath the path is loose
abbrev pub NoneLoose : (List ℕ → Type 0) → List ℕ → Type 0
NoneLoose loose path = (rest : List ℕ) → loose (path ++ codes "/" ++ rest) → ⊥

-- only beneath a folder a name is loose
abbrev pub LooseOf : Kind → (List ℕ → Type 0) → List ℕ → Type 0
LooseOf File loose path = NoneLoose loose path
LooseOf Folder loose path = Unit {0}
LooseOf Other loose path = NoneLoose loose path

-- where this is seen
abbrev pub LooseIn : (List ℕ → Type 0) → List ℕ → Option Seen → Type 0
LooseIn loose path None = NoneLoose loose path
LooseIn loose path (Some seen) = LooseOf seen.kind loose path

-- each name in the folder at which or beneath which a name is loose is told
abbrev pub TellsLoose : (List ℕ → Type 0) → List ℕ → List (List ℕ) → Type 0
TellsLoose loose folder names =
    (name rest : List ℕ) → IsFileName name → IsBehind rest
    → loose (folder ++ codes "/" ++ name ++ rest) → HasName names name

-- a move that overwrites nothing loosens the path only where it moved
abbrev pub LoosensNew : {E : Type 0} → List ℕ → List ℕ → (List ℕ → Type 0) → (List ℕ → Type 0)
    → Result Bool E → Type 0
LoosensNew path aside old new (Ok true) = LooserAtTwo path aside old new
LoosensNew path aside old new (Ok false) = LooserAt aside old new
LoosensNew path aside old new (Err e) = LooserAtTwo path aside old new

-- ... and a removal only where it removed
abbrev pub LoosensGone : {E : Type 0} → List ℕ → (List ℕ → Type 0) → (List ℕ → Type 0)
    → Result Bool E → Type 0
LoosensGone path old new (Ok true) = LooserAt path old new
LoosensGone path old new (Ok false) = NoLooser old new
LoosensGone path old new (Err e) = LooserAt path old new

-- ---- what a loss of power leaves
-- What a loss of power may leave at a path, at the nth moment or a later one up to now. From one
-- call to the next: what it might have left before, or what is so.
abbrev pub Leaves : (List ℕ → Option StoredFile → Type 0)
    → (ℕ → List ℕ → Option StoredFile → Type 0) → (ℕ → List ℕ → Option StoredFile → Type 0) → Type 0
Leaves P old new = (n : ℕ) (p : List ℕ) (f : Option StoredFile) → new n p f → old n p f ⊎ P p f

-- what lies there
abbrev pub IsKept : (List ℕ → Option StoredFile) → List ℕ → Option StoredFile → Type 0
IsKept files p f = f ≡ files p

-- ... where no draft lies
abbrev pub IsKeptBut : List ℕ → (List ℕ → Option StoredFile) → List ℕ → Option StoredFile → Type 0
IsKeptBut aside files p f = p ≢ aside → f ≡ files p

-- What lies there, or, at the path of a change, what it makes.
pub record IsChanged (path : List ℕ) (Made : Option StoredFile → Type 0)
    (files : List ℕ → Option StoredFile) (p : List ℕ) (f : Option StoredFile) : Type 0 where
  pub others : p ≢ path → f ≡ files p
  pub here : p ≡ path → (f ≡ files path) ⊎ Made f

-- ... where no draft lies
pub record IsPlaced (path aside : List ℕ) (Made : Option StoredFile → Type 0)
    (files : List ℕ → Option StoredFile) (p : List ℕ) (f : Option StoredFile) : Type 0 where
  pub others : p ≢ path → p ≢ aside → f ≡ files p
  pub here : p ≡ path → (f ≡ files path) ⊎ Made f

-- a file of these bytes where none was
abbrev pub IsNew : List ℕ → Option StoredFile → Option StoredFile → Type 0
IsNew bytes old new = (old ≡ None) × HasBytes bytes new
