-- Laws of reading and writing boxes of numbers.
use Rattle.std.specs.Prelude.{ℕ, ℤ, List, IfOk}
use Rattle.ice_ids.specs.declared.drawing.AnyIds.{AnyIds}
use Rattle.object_store.specs.declared.events.Event.{Event}
use Rattle.store_api.specs.Callers.{Caller}
use Rattle.store_api.specs.Program.{Keeps, Leads}
use Rattle.store_api.specs.Plays.{Stays}
use Rattle.store_api.specs.Telling.{ChangedNothing}
use Rattle.session.specs.Sessions.{SessionState}
use Rattle.session.specs.Sources.{IsLater}
use Rattle.commit_path.specs.Owed.{IsCareful}
use Rattle.commit_path.specs.Opened.{IsOpened}
use Rattle.commit_path.specs.Own.{OwesOwn, Owns}
use Rattle.commit_path.specs.Single.{PutsSnapshot}
use Rattle.commit_path.specs.Spelled.{IsSpelled}
use Rattle.array_region.specs.Reading.{region_program}
use Rattle.array_region.specs.Writing.{region_set_program}
use Rattle.region_calls.specs.Told.{RegionTells}
use Rattle.region_calls.specs.Written.{RegionSetTells}

-- Whatever others do, a read of a box only reads; wherever it may find no memory, its client has
-- changed no branch; and its answer is the numbers of the box, or tells why there is none.
abbrev pub RegionLaw : Type 0
RegionLaw =
    (by : Caller) (ids : AnyIds) (s : SessionState)
    (path from to : List ℕ) (start journal : List Event)
    → ChangedNothing by.number start journal
    → Keeps (IsCareful ids (λ h t id. ⊥)) by (region_program s path from to) journal
    × Keeps (λ h client op. ¬ PutsSnapshot op) by (region_program s path from to) journal
    × Stays (ChangedNothing by.number start) by (region_program s path from to) journal
    × Leads (RegionTells s path from to) by (region_program s path from to) journal

-- Whatever others do, each operation of a write of a box is polite; where it puts, it is a new
-- object under an id that its client may draw, and no snapshot; wherever it may find no memory, its
-- client has changed no branch; its answer tells the journal; and the session that it leads to can
-- be written, and knows what it knew and that the bytes of its chunks are there.
abbrev pub RegionSetLaw : Type 0
RegionSetLaw =
    (by : Caller) (ids : AnyIds) (s : SessionState)
    (path from to : List ℕ) (numbers : List ℤ) (start journal : List Event)
    → IsLater ids s.ids → IsSpelled s → IsOpened s journal → ChangedNothing by.number start journal
    → Keeps (IsCareful ids (λ h t id. ⊥)) by (region_set_program s path from to numbers) journal
    × Keeps (λ h client op. ¬ PutsSnapshot op)
    by (region_set_program s path from to numbers) journal
    × Stays (ChangedNothing by.number start) by (region_set_program s path from to numbers) journal
    × Leads (λ answer h. RegionSetTells by.number s path from to numbers start answer h
    × IfOk answer (λ t. IsSpelled t × IsOpened t h × IsLater ids t.ids))
    by (region_set_program s path from to numbers) journal

-- Whatever others do, the objects of a write of a box are put where its client put none since
-- `start`, if its source draws no id twice; and what the client owns with a session it owns behind
-- a write, with the session that this leads to.
abbrev pub OwningRegionLaw : Type 0
OwningRegionLaw =
    (by : Caller) (ids : AnyIds) (s : SessionState)
    (path from to : List ℕ) (numbers : List ℤ) (start journal : List Event)
    → IsLater ids s.ids → Owns ids by.number s start journal
    → Keeps (λ h client op. OwesOwn ids client start op h)
    by (region_set_program s path from to numbers) journal
    × Leads (λ answer h. IfOk answer (λ t. Owns ids by.number t start h))
    by (region_set_program s path from to numbers) journal
