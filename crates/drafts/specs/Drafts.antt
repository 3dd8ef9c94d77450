-- Texts on their way to a sink (own).
use Rattle.std.specs.Prelude.{◌≡◌, ◌⊎◌, ℕ, Bool, true, false, List, [], ◌++◌}
use Rattle.ice_base.specs.Ends.{OutputAt, WroteWhole, WroteLess}

-- what is seen of a draft: how many bytes can wait, those that wait to be written,
-- and whether a write has failed
pub record DraftAt : Type 0 where
  pub room : ℕ
  pub waiting : List ℕ
  pub unwritten : Bool

-- nothing waits, and no write has failed
pub record IsBlank (d : DraftAt) : Type 0 where
  pub none : d.waiting ≡ []
  pub fine : d.unwritten ≡ false

-- ---- a text was added to the draft d at the sink x: the draft is e then, and the sink y
-- a write had failed before, and so nothing was done
pub record Passed (d : DraftAt) (x : OutputAt) (e : DraftAt) (y : OutputAt) : Type 0 where
  pub before : d.unwritten ≡ true
  pub draft : e ≡ d
  pub out : y ≡ x

-- Of what waited and the text behind it, the first bytes were written, and the others wait.
pub record Kept (d : DraftAt) (x : OutputAt) (text : List ℕ) (e : DraftAt)
    (y : OutputAt) : Type 0 where
  pub before : d.unwritten ≡ false
  pub after : e.unwritten ≡ false
  pub sent : List ℕ
  pub wrote : WroteWhole x y sent
  pub all : d.waiting ++ text ≡ sent ++ e.waiting

-- A write failed: of what waited and the text behind it, the first bytes were written, but not all.
pub record Failed (d : DraftAt) (x : OutputAt) (text : List ℕ) (e : DraftAt)
    (y : OutputAt) : Type 0 where
  pub before : d.unwritten ≡ false
  pub after : e.unwritten ≡ true
  pub wrote : WroteLess x y (d.waiting ++ text)

pub record Took (d : DraftAt) (x : OutputAt) (text : List ℕ) (e : DraftAt)
    (y : OutputAt) : Type 0 where
  pub is : Passed d x e y ⊎ (Kept d x text e y ⊎ Failed d x text e y)

-- ---- a whole text
-- all of it was written; or not all of it, and the sink failed
abbrev pub Wrote : OutputAt → OutputAt → List ℕ → Bool → Type 0
Wrote old new text false = WroteWhole old new text
Wrote old new text true = WroteLess old new text
