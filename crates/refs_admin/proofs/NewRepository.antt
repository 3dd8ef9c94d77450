-- A repository that is made: each operation is polite, and the answer tells the journal.
use Rattle.std.proofs.Common.{inl, inr, List, refl}
use Rattle.std.specs.Prelude.{Result}
use Rattle.ice_base.specs.Names.{main_name}
use Rattle.ice_ids.specs.Text.{initial_id}
use Rattle.ref_file.specs.Refs.{ref_bytes}
use Rattle.repo_objects.specs.Laws.{initial_bytes}
use Rattle.object_store.specs.declared.keys.Key.TheVariants.{Snapshot, Branch}
use Rattle.object_store.specs.declared.keys.Why.TheVariants.{Init}
use Rattle.object_store.specs.declared.events.New.{New}
use Rattle.object_store.specs.declared.events.New.TheVariants.{Done as New_done, Present}
use Rattle.object_store.specs.declared.events.Reply.{Reply}
use Rattle.object_store.specs.declared.events.Reply.TheVariants.{Got, New as Is_new, Over, Gone, GoneAt, Listed, Failed}
use Rattle.object_store.specs.declared.events.Event.{Event}
use Rattle.store_api.specs.declared.machines.Refusal.{Refusal}
use Rattle.object_store.specs.Machine.{found}
use Rattle.store_api.specs.Callers.{Caller, Makes}
use Rattle.store_api.specs.Program.{Leads, Keeps}
use Rattle.store_api.specs.Running.{Program, on_answer, StaysPolite}
use Rattle.store_api.proofs.Puts.{put-told, snapshot-polite, main-polite}
use Rattle.store_api.proofs.Happening.{HasOwn-makes, new-present, stands-as}
use Rattle.refs_admin.specs.Branches.{created}
use Rattle.refs_admin.specs.NewRepository.{placed, put_main, init_program}
use Rattle.refs_admin.specs.InitTelling.{HasInitial, puts_initial, puts_main, InitTells}
use Rattle.repo_read.proofs.Own.{Since, Since-none, Since-makes, own-made}
use Rattle.repo_read.proofs.Replies.{new-cases, new-done}
use Rattle.refs_admin.proofs.Targets.{Spelled}

-- ---- politeness
abbrev then_main : Reply → Program (Unit {0})
then_main reply = on_answer (λ (done : Unit {0}). put_main) (placed reply)

module _ (laws : Spelled) (by : Caller) where
  placed-polite : (reply : Reply) (old new : List Event) → Makes by puts_initial reply old new → StaysPolite by (then_main reply) new
  unfolding Keeps
  placed-polite (Is_new x) old new m = (main-polite laws.reference new main_name (ref_bytes initial_id) refl refl (put-told by (Snapshot initial_id) initial_bytes Init x old new m), λ reply next n. tt)
  placed-polite (Got x) old new m = tt
  placed-polite (Over x) old new m = tt
  placed-polite (Gone x) old new m = tt
  placed-polite (GoneAt x) old new m = tt
  placed-polite (Listed x) old new m = tt
  placed-polite (Failed done) old new m = tt

  pub init-polite : (journal : List Event) → StaysPolite by init_program journal
  unfolding Keeps
  init-polite journal = (snapshot-polite laws.initial journal initial_bytes refl, λ reply new m. placed-polite reply journal new m)

-- ---- what is told
module _ (by : Caller) (start : List Event) where
  abbrev Tells : Result (Unit {0}) Refusal → List Event → Type 0
  Tells = InitTells by.number start

  initial-makes : (reply : Reply) (old new : List Event) → Makes by puts_main reply old new → HasInitial by.number start old → HasInitial by.number start new
  initial-makes reply old new m i = record { answer = i.answer; own = HasOwn-makes by start puts_main puts_initial reply (Is_new i.answer) old new m i.own }

  main-told : (reply : Reply) (old new : List Event) → HasInitial by.number start old → Since start old → Makes by puts_main reply old new → Tells (created reply) new
  main-told reply old new i s m = new-cases by old new (λ r. Tells (created r) new) (Branch main_name) (ref_bytes initial_id) Init
      (λ version now n.
      let free = new-done _ n.time (found n.middle (Branch main_name)) version now n.answered.answered in
      record { initial = initial-makes (Is_new (New_done version now)) old new n i; version = version; now = now; own = own-made by start puts_main (Is_new (New_done version now)) old new n s; position = free.1; free = free.0 })
      (λ version now n.
      let was = new-present _ n.time (found n.middle (Branch main_name)) version now n.answered.answered in
      record { initial = initial-makes (Is_new (Present version now)) old new n i; now = now; own = own-made by start puts_main (Is_new (Present version now)) old new n s; there = stands-as n.middle (Branch main_name) was.stored version.0 was.stands was.version_is })
      (λ done n. record { op = puts_main; which = inr refl; done = done; own = own-made by start puts_main (Failed done) old new n s })
      reply m

  main-leads : (answer : New) (old new : List Event) → Since start old → Makes by puts_initial (Is_new answer) old new → Leads Tells by put_main new
  unfolding Leads
  main-leads answer old new s m =
      let i : HasInitial by.number start new = record { answer = answer; own = own-made by start puts_initial (Is_new answer) old new m s } in
      let since = Since-makes by start puts_initial (Is_new answer) old new m s in
      λ reply next n. main-told reply new next i since n

  placed-leads : (reply : Reply) (old new : List Event) → Since start old → Makes by puts_initial reply old new → Leads Tells by (then_main reply) new
  unfolding Leads
  placed-leads reply old new s m = new-cases by old new (λ r. Leads Tells by (then_main r) new) (Snapshot initial_id) initial_bytes Init
      (λ version now n. main-leads (New_done version now) old new s n)
      (λ version now n. main-leads (Present version now) old new s n)
      (λ done n. record { op = puts_initial; which = inl refl; done = done; own = own-made by start puts_initial (Failed done) old new n s })
      reply m

pub init-leads : (by : Caller) (journal : List Event) → Leads (InitTells by.number journal) by init_program journal
unfolding Leads
init-leads by journal = λ reply new m. placed-leads by journal reply journal new (Since-none journal) m
