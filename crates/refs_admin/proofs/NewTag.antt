-- A new tag: each operation is polite, and the answer tells the journal.
use Rattle.std.proofs.Common.{◌≡◌, inl, inr, ℕ, List, [], ◌∷◌, ◌++◌, refl, sym, ◌∙◌, ap, subst}
use Rattle.std.specs.Prelude.{Some, Result, Ok, Err}
use Rattle.ice_ids.specs.declared.Id12.{Id12}
use Rattle.ice_ids.specs.Text.{IsId12}
use Rattle.ref_file.specs.Refs.{ref_bytes}
use Rattle.object_store.specs.declared.keys.Key.TheVariants.{Snapshot, Tag, Tombstone}
use Rattle.object_store.specs.declared.keys.Why.TheVariants.{Tag as For_tag}
use Rattle.object_store.specs.declared.events.Version.{Version}
use Rattle.object_store.specs.declared.events.Op.{Op}
use Rattle.object_store.specs.declared.events.Op.TheVariants.{Get}
use Rattle.object_store.specs.declared.events.Got.TheVariants.{Found, Absent}
use Rattle.object_store.specs.declared.events.New.TheVariants.{Done as New_done, Present}
use Rattle.object_store.specs.declared.events.Reply.{Reply}
use Rattle.object_store.specs.declared.events.Reply.TheVariants.{Got, New, Over, Gone, GoneAt, Listed, Failed}
use Rattle.object_store.specs.declared.events.Event.{Event}
use Rattle.store_api.specs.declared.machines.Refusal.{Refusal}
use Rattle.store_api.specs.declared.machines.Refusal.TheVariants as R
use Rattle.object_store.specs.Machine.{Stored, found}
use Rattle.store_api.specs.Journal.{WasPut}
use Rattle.store_api.specs.Callers.{Caller, Makes, own_event}
use Rattle.store_api.specs.Program.{Done, Leads, Keeps}
use Rattle.store_api.specs.Running.{on_answer, StaysPolite}
use Rattle.store_api.proofs.Programs.{Leads-bind}
use Rattle.store_api.proofs.Happening.{new-present, stands-as}
use Rattle.repo_read.specs.declared.resolving.At.{At}
use Rattle.repo_read.specs.declared.resolving.Named.{Named}
use Rattle.repo_read.specs.Resolving.{resolve_at_program}
use Rattle.refs_admin.specs.Tags.{taken, after_tag, put_tag, tag_target_program, tag_new_program}
use Rattle.repo_read.specs.Naming.{NamingTells, IsNaming}
use Rattle.refs_admin.specs.Telling.{IsOfMaking}
use Rattle.store_api.specs.Telling.{GetsOf}
use Rattle.refs_admin.specs.TagTelling.{tags, TagWasThere, TagNewTells}
use Rattle.repo_read.proofs.Own.{MadeGets-none, MadeOne-append, Since, Since-gets, Since-makes, got-alone, made-more, own-made, one-made}
use Rattle.repo_read.proofs.Replies.{got-cases, got-absent, new-cases, new-done}
use Rattle.repo_read.proofs.Namings.{failed-made, behind-polite, naming-leads, WasResolved-append}
use Rattle.refs_admin.proofs.Targets.{Spelled, names-put, target-polite, IsAimed, aimed-makes, target-leads, WasSnapshot-append}
use Rattle.refs_admin.proofs.NewBranch.{failure-as}
use Rattle.repo_read.proofs.Stays.{tag-new, tag-waits}

-- ---- politeness
module _ (laws : Spelled) (by : Caller) (name : List ℕ) where
  after-polite : (reply : Reply) (h : List Event) → StaysPolite by (after_tag name reply) h
  unfolding Keeps
  after-polite (New (New_done version now)) h = tt
  after-polite (New (Present version now)) h = (tt, λ reply new m. tt)
  after-polite (Got x) h = tt
  after-polite (Over x) h = tt
  after-polite (Gone x) h = tt
  after-polite (GoneAt x) h = tt
  after-polite (Listed x) h = tt
  after-polite (Failed done) h = tt

  put-polite : (id : Id12) (h : List Event) → IsId12 id → WasPut h (Snapshot id) → StaysPolite by (put_tag name id) h
  unfolding Keeps
  put-polite id h i put = ((names-put laws h id i put, refl), λ reply new m. after-polite reply new)

  pub tag_new-polite : (at : At) (journal : List Event) → StaysPolite by (tag_new_program name at) journal
  tag_new-polite at journal = behind-polite by at (λ (named : Named). tag_target_program name named.id) (λ named h. target-polite laws by named.id (put_tag name named.id) (put-polite named.id) h) journal

-- ---- what is told
there-makes : (by : Caller) (name : List ℕ) (at : At) (version : Version) (reply : Reply) (start old new : List Event) → Makes by (Get (Tombstone name)) reply old new → TagWasThere by.number name at version start old → TagWasThere by.number name at version start new
there-makes by name at version reply start old new m t =
    let more : List Event = m.waits.between ++ own_event by (Get (Tombstone name)) reply m.time ∷ [] in
    subst (λ (h : List Event). TagWasThere by.number name at version start h) (sym (made-more by (Get (Tombstone name)) reply old new m))
    (record {
      aim = record { named = t.aim.named; resolved = WasResolved-append by.number at t.aim.named start old more t.aim.resolved; target = WasSnapshot-append by.number t.aim.named.id start old more t.aim.target };
      now = t.now;
      made = MadeOne-append by.number (tags name t.aim.named.id) (New (Present version t.now)) start old more (got-alone by (Tombstone name) reply old new m) t.made;
      there = t.there;
    })

module _ (by : Caller) (name : List ℕ) (at : At) (start : List Event) where
  abbrev Tells : Result (Unit {0}) Refusal → List Event → Type 0
  Tells = TagNewTells by.number name at start

  abbrev IsOf : List Event → Op → Type 0
  IsOf = IsOfMaking by.number at (tags name) start

  -- the tag stands at this version
  abbrev TagAt : Version → List Event → Type 0
  TagAt version h = (s : Stored) × (found h (Tag name) ≡ Some s) × (s.version ≡ version.0)

  taken-told : (version : Version) (reply : Reply) (old new : List Event) → Since start old → TagWasThere by.number name at version start old → TagAt version old → Makes by (Get (Tombstone name)) reply old new → Tells (Err (taken version reply)) new
  taken-told version reply old new s t k m =
      let there : (r : Reply) → Makes by (Get (Tombstone name)) r old new → TagWasThere by.number name at version start new = λ r n. there-makes by name at version r start old new n t in
      got-cases by old new (λ r. Tells (Err (taken version r)) new) (Tombstone name)
      (λ bytes put now n. record { version = version; there = there (Got (Found bytes put now)) n; gone = record { bytes = bytes; version = put.0; got = record { now = now; own = own-made by start (Get (Tombstone name)) (Got (Found bytes put now)) old new n s } } })
      (λ now n. record { there = there (Got (Absent now)) n; stands = record { now = now; own = own-made by start (Get (Tombstone name)) (Got (Absent now)) old new n s; nothing = got-absent (found n.middle (Tombstone name)) now n.time n.answered.answered }; still = stands-as n.middle (Tag name) k.0 version.0 (tag-waits by name old n.middle k.0 n.waits k.1) k.2 })
      (λ done n. inr (record { version = version; there = there (Failed done) n; done = done; own = own-made by start (Get (Tombstone name)) (Failed done) old new n s }))
      reply m

  put-told : (named : Named) (reply : Reply) (old new : List Event) → IsAimed by.number at named start old → Makes by (tags name named.id) reply old new → Leads Tells by (after_tag name reply) new
  unfolding Leads
  put-told named reply old new a m = new-cases by old new (λ r. Leads Tells by (after_tag name r) new) (Tag name) (ref_bytes named.id) For_tag
      (λ version now n.
      let kept = aimed-makes by (tags name named.id) (New (New_done version now)) at named start old new n a in
      let free = new-done _ n.time (found n.middle (Tag name)) version now n.answered.answered in
      record { aim = record { named = named; resolved = kept.0; target = kept.1 }; version = version; now = now; made = one-made by start (tags name named.id) (New (New_done version now)) old new n a.gets; position = free.1; free = free.0 })
      (λ version now n.
      let kept = aimed-makes by (tags name named.id) (New (Present version now)) at named start old new n a in
      let was = new-present _ n.time (found n.middle (Tag name)) version now n.answered.answered in
      let there : TagWasThere by.number name at version start new = record { aim = record { named = named; resolved = kept.0; target = kept.1 }; now = now; made = one-made by start (tags name named.id) (New (Present version now)) old new n a.gets; there = stands-as n.middle (Tag name) was.stored version.0 was.stands was.version_is } in
      let since = Since-makes by start (tags name named.id) (New (Present version now)) old new n (Since-gets by.number start old a.gets) in
      let stands : found new (Tag name) ≡ Some was.stored = ap (λ (h : List Event). found h (Tag name)) n.is ∙ tag-new by (Tag name) (ref_bytes named.id) For_tag (New (Present version now)) n.time name n.middle was.stored was.stands in
      λ reply next o. taken-told version reply new next since there (was.stored, stands, was.version_is) o)
      (λ done n.
      let kept = aimed-makes by (tags name named.id) (Failed done) at named start old new n a in
      inl (failed-made by start (IsOf new) (tags name named.id) done old new (inr (inr (record { named = named; resolved = kept.0; target = kept.1 }, refl))) n a.gets))
      reply m

  put-leads : (named : Named) (h : List Event) → IsAimed by.number at named start h → Leads Tells by (put_tag name named.id) h
  unfolding Leads
  put-leads named h a = λ reply new m. put-told named reply h new a m

  named-leads : (r : Result Named Refusal) (h : List Event) → NamingTells by.number at start r h → Leads Tells by (on_answer (λ (named : Named). tag_target_program name named.id) r) h
  unfolding Leads
  named-leads (Ok named) h t = target-leads by at named start (put_tag name named.id) Tells (λ h. Unit {0}) (λ reply old new m k. tt)
      (λ h w c. (w, c))
      (λ fault h w c. (inr w, c))
      (λ h r w. inl (failure-as by.number (λ op. op ≡ Get (Snapshot named.id)) (IsOf h) start h (λ op e. inr (inl (named, r, e))) w))
      (λ h a k. put-leads named h a) h t.0 t.1 tt
  named-leads (Err why) h t = refused why t
    where
      refused : (why : Refusal) → NamingTells by.number at start (Err why) h → Leads Tells by (Done (Err why)) h
      refused R.NoRef t = t
      refused (R.BadFile key bad) t = (inl t.0, t.1)
      refused R.StoreFault t = inl (failure-as by.number (GetsOf (IsNaming at)) (IsOf h) start h (λ op k. inl k) t)
      refused _ t = absurd t

pub tag_new-leads : (by : Caller) (name : List ℕ) (at : At) (journal : List Event) → Leads (TagNewTells by.number name at journal) by (tag_new_program name at) journal
tag_new-leads by name at journal =
    Leads-bind (NamingTells by.number at journal) (TagNewTells by.number name at journal) by (resolve_at_program at) (on_answer (λ (named : Named). tag_target_program name named.id)) journal
    (naming-leads by journal at journal (MadeGets-none by.number journal)) (named-leads by name at journal)
