-- What own operations are answered.
use Rattle.std.proofs.Common.{◌≡◌, ℕ, Bool, true, false, cond, List, refl, eqb-true, eq-eqb}
use Rattle.std.specs.Prelude.{Option, Some, None, ◌==◌}
use Rattle.object_store.specs.declared.keys.Key.{Key}
use Rattle.object_store.specs.declared.keys.Why.{Why}
use Rattle.object_store.specs.declared.events.Version.{Version}
use Rattle.object_store.specs.declared.events.Op.TheVariants.{PutOver, RemoveAt}
use Rattle.object_store.specs.declared.events.Over.TheVariants.{Done as Over_done, Moved as Over_moved}
use Rattle.object_store.specs.declared.events.GoneAt.TheVariants.{Done as Gone_done, Moved as Gone_moved}
use Rattle.object_store.specs.declared.events.Reply.{Reply}
use Rattle.object_store.specs.declared.events.Reply.TheVariants.{Got, New, Over, Gone, GoneAt, Listed, Failed}
use Rattle.object_store.specs.declared.events.Event.{Event}
use Rattle.object_store.specs.Machine.{Stored, version_at, gone_at_of}
use Rattle.store_api.specs.Callers.{Caller, Makes}
use Rattle.store_api.proofs.Happening.{Differs}

-- ---- by kind: a reply of another kind is none of an honest store's
module _ (by : Caller) (old new : List Event) (P : Reply → Type 0) where
  pub over-cases : (key : Key) (bytes : List ℕ) (at : Version) (why : Why)
      → ((version : Version) (now : ℕ) → Makes by (PutOver key bytes at why) (Over (Over_done version now)) old new → P (Over (Over_done version now)))
      → ((there : Option Version) (now : ℕ) → Makes by (PutOver key bytes at why) (Over (Over_moved there now)) old new → P (Over (Over_moved there now)))
      → ((done : Bool) → Makes by (PutOver key bytes at why) (Failed done) old new → P (Failed done))
      → (reply : Reply) → Makes by (PutOver key bytes at why) reply old new → P reply
  over-cases key bytes at why did moved failed (Over (Over_done version now)) m = did version now m
  over-cases key bytes at why did moved failed (Over (Over_moved there now)) m = moved there now m
  over-cases key bytes at why did moved failed (Failed done) m = failed done m
  over-cases key bytes at why did moved failed (Got x) m = let e = m.answered.answered in absurd (cc)
  over-cases key bytes at why did moved failed (New x) m = let e = m.answered.answered in absurd (cc)
  over-cases key bytes at why did moved failed (Gone x) m = let e = m.answered.answered in absurd (cc)
  over-cases key bytes at why did moved failed (GoneAt x) m = let e = m.answered.answered in absurd (cc)
  over-cases key bytes at why did moved failed (Listed x) m = let e = m.answered.answered in absurd (cc)

  pub gone-cases : (key : Key) (at : Version) (why : Why)
      → ((now : ℕ) → Makes by (RemoveAt key at why) (GoneAt (Gone_done now)) old new → P (GoneAt (Gone_done now)))
      → ((there : Option Version) (now : ℕ) → Makes by (RemoveAt key at why) (GoneAt (Gone_moved there now)) old new → P (GoneAt (Gone_moved there now)))
      → ((done : Bool) → Makes by (RemoveAt key at why) (Failed done) old new → P (Failed done))
      → (reply : Reply) → Makes by (RemoveAt key at why) reply old new → P reply
  gone-cases key at why did moved failed (GoneAt (Gone_done now)) m = did now m
  gone-cases key at why did moved failed (GoneAt (Gone_moved there now)) m = moved there now m
  gone-cases key at why did moved failed (Failed done) m = failed done m
  gone-cases key at why did moved failed (Got x) m = let e = m.answered.answered in absurd (cc)
  gone-cases key at why did moved failed (New x) m = let e = m.answered.answered in absurd (cc)
  gone-cases key at why did moved failed (Over x) m = let e = m.answered.answered in absurd (cc)
  gone-cases key at why did moved failed (Gone x) m = let e = m.answered.answered in absurd (cc)
  gone-cases key at why did moved failed (Listed x) m = let e = m.answered.answered in absurd (cc)

-- ---- what the answers say of what stands
-- a removal that was done: this version stood
pub record StoodSo (old : ℕ) (at : Option Stored) : Type 0 where
  pub stored : Stored
  pub stands : at ≡ Some stored
  pub old_is : stored.version ≡ old

pub gone-done : (time old : ℕ) (at : Option Stored) (now : ℕ) → GoneAt (Gone_done now) ≡ GoneAt (gone_at_of time old at) → StoodSo old at
gone-done time old None now e = absurd (cc)
gone-done time old (Some s) now e = decide (s.version == old) refl e
  where
    decide : (b : Bool) → (s.version == old) ≡ b → GoneAt (Gone_done now) ≡ GoneAt (cond b (Gone_done time) (Gone_moved (Some (version_at s.version)) time)) → StoodSo old (Some s)
    decide true h d = record { stored = s; stands = refl; old_is = eqb-true s.version old h }
    decide false h d = absurd (cc)

pub gone-moved : (time old : ℕ) (at : Option Stored) (there : Option Version) (now : ℕ) → GoneAt (Gone_moved there now) ≡ GoneAt (gone_at_of time old at) → Differs old at there
gone-moved time old None None now e = refl
gone-moved time old None (Some v) now e = absurd (cc)
gone-moved time old (Some s) there now e = decide (s.version == old) refl there e
  where
    decide : (b : Bool) → (s.version == old) ≡ b → (t : Option Version) → GoneAt (Gone_moved t now) ≡ GoneAt (cond b (Gone_done time) (Gone_moved (Some (version_at s.version)) time)) → Differs old (Some s) t
    decide true h t d = absurd (cc)
    decide false h None d = absurd (cc)
    decide false h (Some v) d = (s, refl, cc, λ same. let y = eq-eqb s.version old same in cc)
