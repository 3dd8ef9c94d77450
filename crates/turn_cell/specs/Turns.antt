-- The rule of the cell's table, and what each step tells. The table has one word, which is 1 while
-- a pass has the turn, and one slot, which has the value while no pass has the turn. Its views are
-- the passes' sights. No public clause names this. All of it is this project's own.
use Rattle.std.specs.Prelude.{◌≡◌, ◌≢◌, ◌⊎◌, ℕ, ◌≤◌, true, false, List, [], ◌∷◌, Option, Some}
use mathlib.Core.Option.{some, none}
use mathlib.Core.Option as maybe
use lib.ListN.{get_elem?}
use Rattle.atomic_table.specs.Table.{State, Me, Step}
use Rattle.turn_cell.specs.declared.known.Known.{Known}
use Rattle.turn_cell.specs.declared.known.Sight.{Sight}
use Rattle.turn_cell.specs.Owners.{AreApart}
use Rattle.turn_cell.specs.SeenJournals.{Follows, longer, nothing}

module _ {E : Type 0} where
  -- with no join behind it
  abbrev pub plain : Known E → Sight E
  plain known = record { known = known; first = nothing; second = nothing }

  -- no number is an owner number of two passes
  abbrev pub AllApart : List (Sight E) → Type 0
  AllApart views =
      (i j : ℕ) (v w : Sight E) → get_elem? views i ≡ some v → get_elem? views j ≡ some w → i ≢ j
      → AreApart v.known.owners w.known.owners

  module _ (owner : E → ℕ) where
    -- the longer of two logs follows on each of them
    pub record AreJoined (a b : Known E) : Type 0 where
      pub first : Follows owner a.owners a.journal (longer a.journal b.journal)
      pub second : Follows owner b.owners b.journal (longer a.journal b.journal)

    -- what the pass has seen is a beginning of the journal, past which no entry
    -- is its own, and no greater count
    pub record Agrees (journal : List E) (count : ℕ) (v : Sight E) : Type 0 where
      pub follows : Follows owner v.known.owners v.known.journal journal
      pub counted : v.known.count ≤ count
      pub joined : AreJoined v.first v.second

module _ {T E : Type 0} (journal_of : T → List E) (owner : E → ℕ) (count_of : T → ℕ) where
  abbrev Slots : Type 0
  Slots = List (maybe.Option (Option T))

  -- no pass has the turn, and the value is at home
  pub record Home (journal : List E) (count : ℕ) (words : List ℕ) (homes : Slots)
      (views : List (Sight E)) : Type 0 where
    pub word : words ≡ 0 ∷ []
    pub value : T
    pub slot : homes ≡ some (Some value) ∷ []
    pub journal_is : journal_of value ≡ journal
    pub count_is : count_of value ≡ count
    pub idle : (i : ℕ) (v : Sight E) → get_elem? views i ≡ some v → v.known.has_turn ≡ false

  -- one pass has the turn, and the slot is out with it
  pub record Out (journal : List E) (count : ℕ) (words : List ℕ) (homes : Slots)
      (views : List (Sight E)) : Type 0 where
    pub word : words ≡ 1 ∷ []
    pub slot : homes ≡ none ∷ []
    pub holder : ℕ
    pub view : Sight E
    pub at : get_elem? views holder ≡ some view
    pub on : view.known.has_turn ≡ true
    pub journal_is : view.known.journal ≡ journal
    pub count_is : view.known.count ≡ count
    pub alone : (i : ℕ) (v : Sight E) → get_elem? views i ≡ some v
        → v.known.has_turn ≡ true → i ≡ holder

  -- there is one journal and one count with which all passes agree: the value's,
  -- or while it is out, its holder's
  pub record Kept (s : State (Option T) (Sight E)) : Type 0 where
    pub journal : List E
    pub count : ℕ
    pub apart : AllApart s.views
    pub agree : (i : ℕ) (v : Sight E) → get_elem? s.views i ≡ some v → Agrees owner journal count v
    pub place : Home journal count s.words s.homes s.views
        ⊎ Out journal count s.words s.homes s.views

  abbrev Sat : Type 0
  Sat = Me (Option T) (Sight E)

  -- the value that was at home is out with the seat, which knows its journal and count
  pub record Takes (v : Sight E) (r : Sat) : Type 0 where
    pub value : T
    pub held : r.1 ≡ (0, Some value) ∷ []
    pub knows : r.0 ≡ plain (record v.known {
      journal = journal_of value;
      count = count_of value;
      has_turn = true;
    })
    pub agrees : Agrees owner (journal_of value) (count_of value) v

  -- where the word was 0, the turn is taken; else nothing changes
  abbrev pub took : Step (Option T) → Sat → ℕ → Sat → Type 0
  took s m n r = (n ≡ 0 → Takes m.0 r) × (n ≢ 0 → r ≡ m)

  -- the turn and the value are given back, and the seat knows the value's journal and count
  abbrev pub gave : Step (Option T) → Sat → ℕ → Sat → Type 0
  gave s m n r = (value : T) → m.1 ≡ (0, Some value) ∷ []
      → r ≡ (
        plain (record m.0.known {
          journal = journal_of value;
          count = count_of value;
          has_turn = false;
        }),
        [],
      )

  -- nothing changes, and the seat is told what the two passes of its last join knew
  abbrev pub looked : Step (Option T) → Sat → ℕ → Sat → Type 0
  looked s m n r = (r ≡ m) × AreJoined owner m.0.first m.0.second
