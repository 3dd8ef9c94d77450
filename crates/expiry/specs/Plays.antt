-- What an expiry does, from its beginning to its end (own).
use Rattle.std.specs.Prelude.{Bool, false, List, [], ◌∷◌, ◌++◌, Result, Ok, Err}
use Rattle.ice_ids.specs.declared.Id12.{Id12}
use Rattle.object_store.specs.declared.keys.Key.{Key}
use Rattle.object_store.specs.declared.keys.Key.TheVariants.{Snapshot, Manifest, Txn, Chunk}
use Rattle.object_store.specs.declared.keys.Key.TheVariants.{Branch, Tag, Tombstone, Lease}
use Rattle.object_store.specs.declared.keys.Part.{Part}
use Rattle.object_store.specs.declared.keys.Part.TheVariants.{Branches, Tags}
use Rattle.object_store.specs.declared.keys.Why.TheVariants.{Expire}
use Rattle.object_store.specs.declared.events.Version.{Version}
use Rattle.object_store.specs.declared.events.Op.{Op}
use Rattle.object_store.specs.declared.events.Op.TheVariants.{Get, PutNew, PutOver}
use Rattle.object_store.specs.declared.events.Op.TheVariants.{RemoveAt, List as ListPart}
use Rattle.object_store.specs.declared.events.New.TheVariants.{Done as New_done}
use Rattle.object_store.specs.declared.events.New.TheVariants.{Present as New_present}
use Rattle.object_store.specs.declared.events.Over.TheVariants.{Done as Over_done}
use Rattle.object_store.specs.declared.events.Over.TheVariants.{Moved as Over_moved}
use Rattle.object_store.specs.declared.events.GoneAt.TheVariants.{Done as Gone_done}
use Rattle.object_store.specs.declared.events.GoneAt.TheVariants.{Moved as Gone_moved}
use Rattle.object_store.specs.declared.events.Reply.{Reply}
use Rattle.object_store.specs.declared.events.Reply.TheVariants.{New, Over, GoneAt}
use Rattle.object_store.specs.declared.events.Reply.TheVariants.{Listed as Is_listed}
use Rattle.store_api.specs.declared.machines.Refusal.{Refusal}
use Rattle.store_api.specs.declared.machines.Refusal.TheVariants.{StoreFault, NoMemory}
use Rattle.store_api.specs.Program.{is_fault}
use Rattle.store_api.specs.Plays.{Play, Ended, Ask, Or, call}
use Rattle.cleanup_reports.specs.declared.cases.What.{What}
use Rattle.cleanup_reports.specs.declared.cases.What.TheVariants.{Kept, Cut, Dropped, Moved, Absent}
use Rattle.cleanup_reports.specs.declared.cases.RefCase.{RefCase}
use Rattle.live_refs.specs.Live.{live}
use Rattle.expiry.specs.declared.terms.Terms.{Terms}
use Rattle.expiry.specs.declared.look.Decision.{Decision}
use Rattle.expiry.specs.declared.look.Decision.TheVariants.{Gone, Keeps, Drops, Cuts}
use Rattle.expiry.specs.declared.standing.Expired.{Expired}
use Rattle.expiry.specs.Looks.{look_program}

-- ---- outcomes
abbrev pub refused_by_fault : Result (Unit {0}) Refusal → Bool
refused_by_fault (Ok done) = false
refused_by_fault (Err why) = is_fault why

abbrev pub tells_failure : Expired → Bool
tells_failure e = refused_by_fault e.result

abbrev pub ends_with : List RefCase → Result (Unit {0}) Refusal → Play Expired
ends_with cases result = Ended (record { cases = cases; result = result })

-- ---- the one operation that decides what becomes of a ref
-- A branch is dropped by a removal of the version that was read, a tag by its
-- tombstone. Nothing else is ever dropped.
abbrev pub drop_op : Key → Version → Op
drop_op (Branch name) version = RemoveAt (Branch name) version Expire
drop_op (Tag name) version = PutNew (Tombstone name) [] Expire
drop_op (Snapshot id) version = Get (Snapshot id)
drop_op (Manifest id) version = Get (Manifest id)
drop_op (Txn id) version = Get (Txn id)
drop_op (Chunk id) version = Get (Chunk id)
drop_op (Tombstone name) version = Get (Tombstone name)
drop_op (Lease id) version = Get (Lease id)

-- what the reply to it tells: done, or the ref had moved on, or the tombstone was there
abbrev pub drop_told : Reply → Result What Refusal
drop_told (GoneAt (Gone_done now)) = Ok Dropped
drop_told (GoneAt (Gone_moved found now)) = Ok Moved
drop_told (New (New_done version now)) = Ok Dropped
drop_told (New (New_present version now)) = Ok Moved
drop_told _ = Err StoreFault

-- what the reply to a cut of this snapshot tells: done, or the snapshot
-- was cut or collected meanwhile
abbrev pub cut_told : Id12 → Reply → Result What Refusal
cut_told id (Over (Over_done version now)) = Ok (Cut id)
cut_told id (Over (Over_moved found now)) = Ok Moved
cut_told id _ = Err StoreFault

-- ---- one ref
-- does what was decided, and goes on with what became of the ref
abbrev pub decide : (ref : Key) → (Result What Refusal → Play Expired) → Decision → Play Expired
decide ref next Gone = next (Ok Absent)
decide ref next Keeps = next (Ok Kept)
decide ref next (Drops version) =
    Ask (drop_op ref version) (next (Err NoMemory)) (λ reply. next (drop_told reply))
decide ref next (Cuts id version bytes) =
    Ask (PutOver (Snapshot id) bytes version Expire) (next (Err NoMemory))
    (λ reply. next (cut_told id reply))

abbrev pub after_look : (ref : Key) → (Result What Refusal → Play Expired)
    → Result Decision Refusal → Play Expired
after_look ref next (Ok decision) = decide ref next decision
after_look ref next (Err why) = next (Err why)

-- ---- ref after ref
abbrev pub after_case : (ref : Key) → List RefCase → (List RefCase → Play Expired)
    → Result What Refusal → Play Expired
after_case ref cases next (Ok what) = next (cases ++ record { key = ref; what = what } ∷ [])
after_case ref cases next (Err why) = ends_with cases (Err why)

-- Each of these refs wholly, one after the other.
unfoldable pub expire_each : Terms → List Key → List RefCase → (List RefCase → Play Expired)
    → Play Expired
expire_each t [] cases next = next cases
expire_each t (ref ∷ refs) cases next =
    call (look_program t ref)
    (after_look ref (after_case ref cases (λ more. expire_each t refs more next)))

-- Lists a part. The room for its refs' cases is taken before the first of them is looked at, so
-- that what was done is never untold.
abbrev pub after_listing : List RefCase → (List Key → Play Expired) → Reply → Play Expired
after_listing cases next (Is_listed listed) =
    Or (next (live listed.entries)) (ends_with cases (Err NoMemory))
after_listing cases next _ = ends_with cases (Err StoreFault)

abbrev pub listing : Part → List RefCase → (List Key → Play Expired) → Play Expired
listing part cases next =
    Ask (ListPart part) (ends_with cases (Err NoMemory)) (after_listing cases next)

abbrev pub all_done : List RefCase → Play Expired
all_done cases = ends_with cases (Ok tt)

abbrev pub expire_tags : Terms → List RefCase → Play Expired
expire_tags t cases = listing Tags cases (λ refs. expire_each t refs cases all_done)

-- The branches, each wholly, and then the tags that have no tombstone.
abbrev pub expire_play : Terms → Play Expired
expire_play t = listing Branches [] (λ refs. expire_each t refs [] (expire_tags t))
