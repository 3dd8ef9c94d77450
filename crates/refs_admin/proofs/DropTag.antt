-- A tag that is dropped: each operation is polite, and the answer tells the journal.
use Rattle.std.proofs.Common.{◌≡◌, inl, inr, ℕ, List, [], refl, ap}
use Rattle.std.specs.Prelude.{Result, Ok, Err}
use Rattle.std.specs.Result.{result_ok}
use Rattle.ice_ids.specs.declared.Id12.{Id12}
use Rattle.repo_objects.specs.declared.bad_objects.Bad.{Bad}
use Rattle.repo_objects.specs.Readings.{read_ref}
use Rattle.object_store.specs.declared.keys.Key.TheVariants.{Tag, Tombstone}
use Rattle.object_store.specs.declared.keys.Why.TheVariants.{Drop}
use Rattle.object_store.specs.declared.events.Version.{Version}
use Rattle.object_store.specs.declared.events.Op.TheVariants.{Get}
use Rattle.object_store.specs.declared.events.Got.TheVariants.{Found, Absent}
use Rattle.object_store.specs.declared.events.New.TheVariants.{Done as New_done, Present}
use Rattle.object_store.specs.declared.events.Reply.{Reply}
use Rattle.object_store.specs.declared.events.Reply.TheVariants.{Got, New, Over, Gone, GoneAt, Listed, Failed}
use Rattle.object_store.specs.declared.events.Event.{Event}
use Rattle.store_api.specs.declared.machines.Refusal.{Refusal}
use Rattle.object_store.specs.Machine.{found}
use Rattle.store_api.specs.Journal.{WasPut}
use Rattle.store_api.specs.Callers.{Caller, Makes}
use Rattle.store_api.specs.Program.{Leads, Keeps}
use Rattle.store_api.specs.Running.{Program, on_answer, StaysPolite}
use Rattle.repo_read.specs.Answers.{at_key}
use Rattle.store_api.specs.Telling.{MadeGets, WasGot}
use Rattle.store_api.proofs.Telling.{get-had}
use Rattle.store_api.proofs.Happening.{new-present, stands-as}
use Rattle.repo_read.specs.Resolving.{tag_told}
use Rattle.refs_admin.specs.Tags.{buried, put_tombstone, tag_drop_program}
use Rattle.repo_read.specs.Naming.{TagNames}
use Rattle.refs_admin.specs.TagTelling.{TagWasRead, IsOfBurying, buries, TagDropTells}
use Rattle.repo_read.proofs.Own.{MadeGets-none, MadeGets-get, one-made}
use Rattle.repo_read.proofs.Replies.{got-cases, Holds, new-cases, new-done}
use Rattle.repo_read.proofs.Namings.{got-made, absent-made, failed-made, got-tag, holds-names, names-waits, WasRef-makes}

-- ---- politeness
module _ (by : Caller) (name : List ℕ) where
  abbrev bury : Id12 → Program (Unit {0})
  bury tagged = put_tombstone name

  tag-polite : (r : Result Id12 Refusal) (h : List Event) → WasPut h (Tag name) → StaysPolite by (on_answer bury r) h
  unfolding Keeps
  tag-polite (Ok id) h put = (put, λ reply new m. tt)
  tag-polite (Err why) h put = tt

  told-polite : (reply : Reply) (old new : List Event) → Makes by (Get (Tag name)) reply old new → StaysPolite by (on_answer bury (tag_told name reply)) new
  unfolding Keeps
  told-polite (Got (Found bytes version now)) old new m = tag-polite (at_key (Tag name) (read_ref bytes)) new (get-had by (Tag name) bytes version now old new m).put
  told-polite (Got (Absent now)) old new m = tt
  told-polite (New x) old new m = tt
  told-polite (Over x) old new m = tt
  told-polite (Gone x) old new m = tt
  told-polite (GoneAt x) old new m = tt
  told-polite (Listed x) old new m = tt
  told-polite (Failed done) old new m = tt

  pub tag_drop-polite : (journal : List Event) → StaysPolite by (tag_drop_program name) journal
  unfolding Keeps
  tag_drop-polite journal = (tt, λ reply new m. told-polite reply journal new m)

-- ---- what is told
module _ (by : Caller) (name : List ℕ) (start : List Event) where
  abbrev Tells : Result (Unit {0}) Refusal → List Event → Type 0
  Tells = TagDropTells by.number name start

  abbrev read-makes : (reply : Reply) (old new : List Event) → Makes by (buries name) reply old new → TagWasRead by.number name start old → TagWasRead by.number name start new
  read-makes reply old new m t = record { version = t.version; id = t.id; read = WasRef-makes by (buries name) reply (Tag name) t.version t.id start old new m t.read }

  put-told : (reply : Reply) (old new : List Event) → (t : TagWasRead by.number name start old) → TagNames old name t.id → MadeGets by.number start old → Makes by (buries name) reply old new → Tells (buried reply) new
  put-told reply old new t k c m = new-cases by old new (λ r. Tells (buried r) new) (Tombstone name) [] Drop
      (λ version now n.
      let free = new-done _ n.time (found n.middle (Tombstone name)) version now n.answered.answered in
      record { tag = read-makes (New (New_done version now)) old new n t; version = version; now = now; made = one-made by start (buries name) (New (New_done version now)) old new n c; still = names-waits by name t.id old n.middle n.waits k; free = free.0 })
      (λ version now n.
      let was = new-present _ n.time (found n.middle (Tombstone name)) version now n.answered.answered in
      inr (record { tag = read-makes (New (Present version now)) old new n t; version = version; now = now; made = one-made by start (buries name) (New (Present version now)) old new n c; still = names-waits by name t.id old n.middle n.waits k; there = stands-as n.middle (Tombstone name) was.stored version.0 was.stands was.version_is }))
      (λ done n. failed-made by start (IsOfBurying by.number name start new) (buries name) done old new (inr (read-makes (Failed done) old new n t, refl)) n c)
      reply m

  bytes-leads : (bytes : List ℕ) (version : Version) (h : List Event) → WasGot by.number (Tag name) bytes version.0 start h → Holds (found h (Tag name)) bytes version → MadeGets by.number start h → (r : Result Id12 Bad) → read_ref bytes ≡ r → Leads Tells by (on_answer (bury by name) (at_key (Tag name) r)) h
  unfolding Leads
  bytes-leads bytes version h g k c (Ok id) e = λ reply new m. put-told reply h new (record { version = version; id = id; read = record { bytes = bytes; got = g; names = ap result_ok e } }) (holds-names h name bytes version id k (ap result_ok e)) c m
  bytes-leads bytes version h g k c (Err bad) e = (record { key_is = refl; bytes = bytes; version = version.0; got = g; unread = e }, c)

  told-leads : (reply : Reply) (old new : List Event) → MadeGets by.number start old → Makes by (Get (Tag name)) reply old new → Leads Tells by (on_answer (bury by name) (tag_told name reply)) new
  unfolding Leads
  told-leads reply old new c m = got-cases by old new (λ r. Leads Tells by (on_answer (bury by name) (tag_told name r)) new) (Tag name)
      (λ bytes version now n. bytes-leads bytes version new (got-made by start (Tag name) bytes version now old new n c) (got-tag by name bytes version now old new n) (MadeGets-get by start (Tag name) (Got (Found bytes version now)) old new n c) (read_ref bytes) refl)
      (λ now n. inl (absent-made by start (Tag name) now old new n c, MadeGets-get by start (Tag name) (Got (Absent now)) old new n c))
      (λ done n. failed-made by start (IsOfBurying by.number name start new) (Get (Tag name)) done old new (inl refl) n c)
      reply m

pub tag_drop-leads : (by : Caller) (name : List ℕ) (journal : List Event) → Leads (TagDropTells by.number name journal) by (tag_drop_program name) journal
unfolding Leads
tag_drop-leads by name journal = λ reply new m. told-leads by name journal reply journal new (MadeGets-none by.number journal) m
