-- The one operation that decides what becomes of a ref, and what its reply tells.
use Rattle.std.proofs.Common.{◌≡◌, ◌≢◌, inl, inr, ℕ, Bool, true, false, List, [], refl, sym, ap, subst}
use Rattle.std.specs.Prelude.{Result, Ok, Err, not}
use Rattle.std.proofs.lemmas.Bool.{and_parts, not-true}
use Rattle.ice_base.specs.Names.{main_name, same_name}
use Rattle.ice_ids.specs.declared.Id12.{Id12}
use Rattle.object_store.specs.declared.keys.Key.{Key}
use Rattle.object_store.specs.declared.keys.Key.TheVariants.{Snapshot, Manifest, Txn, Chunk, Branch, Tag, Tombstone, Lease}
use Rattle.object_store.specs.declared.keys.Why.TheVariants.{Expire}
use Rattle.object_store.specs.declared.events.Version.{Version}
use Rattle.object_store.specs.declared.events.Op.{Op}
use Rattle.object_store.specs.declared.events.Op.TheVariants.{PutNew, PutOver, RemoveAt}
use Rattle.object_store.specs.declared.events.New.TheVariants.{Done as New_done, Present as New_present}
use Rattle.object_store.specs.declared.events.Over.TheVariants.{Done as Over_done, Moved as Over_moved}
use Rattle.object_store.specs.declared.events.GoneAt.TheVariants.{Done as Gone_done, Moved as Gone_moved}
use Rattle.object_store.specs.declared.events.Reply.{Reply}
use Rattle.object_store.specs.declared.events.Reply.TheVariants.{Got, New, Over, Gone as Is_gone, GoneAt, Listed, Failed}
use Rattle.object_store.specs.declared.events.Event.{Event}
use Rattle.object_store.proofs.Slots.{bytes-same}
use Rattle.store_api.specs.declared.machines.Refusal.{Refusal}
use Rattle.store_api.specs.declared.machines.Refusal.TheVariants as R
use Rattle.store_api.specs.Journal.{IsPolite}
use Rattle.store_api.specs.Callers.{Caller, Makes}
use Rattle.store_api.specs.Plays.{Play}
use Rattle.repo_read.proofs.Own.{Since, own-made}
use Rattle.cleanup_reports.specs.declared.cases.What.{What}
use Rattle.cleanup_reports.specs.declared.cases.What.TheVariants.{Kept, Cut, Dropped, Moved, Absent}
use Rattle.expiry.specs.declared.terms.Terms.{Terms}
use Rattle.expiry.specs.declared.look.Decision.{Decision}
use Rattle.expiry.specs.declared.look.Decision.TheVariants.{Gone, Keeps, Drops, Cuts}
use Rattle.expiry.specs.declared.standing.Expired.{Expired}
use Rattle.expiry.specs.Verdicts.{ToDrop, may_drop}
use Rattle.expiry.specs.Plays.{drop_op, drop_told, cut_told, decide, after_look}
use Rattle.expiry.specs.Telling.{WasJudged, IsCutOf, WasCut, WasDropped, CaseTells, Cause, ExpireTells}
use Rattle.expiry.specs.Owing.{IsOwed}
use Rattle.expiry.proofs.Lasting.{Lasts, lasts-makes, judged-more, cut-of-more}
use Rattle.expiry.proofs.Playing.{Goes}
use Rattle.expiry.proofs.Reading.{ToBeDropped, ToBeCut, LookTells, failed-so}

-- each operation is polite, and owed
abbrev pub Fine : Terms → (start : List Event) → List Event → ℕ → Op → Type 0
Fine t start journal client op = IsPolite journal op × IsOwed t start journal client op

-- ---- what may be dropped
other-name : (name : List ℕ) → same_name name main_name ≡ false → name ≢ main_name
other-name name e same = let y = ap (λ (n : List ℕ). same_name n main_name) same in let z = bytes-same main_name in cc

not-main : (t : Terms) (name : List ℕ) → may_drop t (Branch name) ≡ true → name ≢ main_name
not-main t name e = other-name name (not-true (same_name name main_name) (and_parts t.drop_branches (not (same_name name main_name)) e).1)

drop-fine : (t : Terms) (client : ℕ) (ref : Key) (version : Version) (start h : List Event) → ToBeDropped t client ref version start h → may_drop t ref ≡ true → Fine t start h client (drop_op ref version)
drop-fine t client (Branch name) version start h d may = (not-main t name may, (refl, d.judged))
drop-fine t client (Tag name) version start h d may = (d.put, (refl, (refl, (version, d.judged))))
drop-fine t client (Snapshot id) version start h d may = absurd (cc)
drop-fine t client (Manifest id) version start h d may = absurd (cc)
drop-fine t client (Txn id) version start h d may = absurd (cc)
drop-fine t client (Chunk id) version start h d may = absurd (cc)
drop-fine t client (Tombstone name) version start h d may = absurd (cc)
drop-fine t client (Lease id) version start h d may = absurd (cc)

-- ---- replies, by kind: one of another kind is none of an honest store's
module _ (by : Caller) (old new : List Event) (P : Reply → Type 0) where
  -- P holds of each reply by which this was told
  abbrev Told : (Reply → Result What Refusal) → Op → What → Type 0
  Told tells op what = (reply : Reply) → Makes by op reply old new → tells reply ≡ Ok what → P reply

  -- ... and of a failure
  abbrev Fails : Op → Type 0
  Fails op = (done : Bool) → Makes by op (Failed done) old new → P (Failed done)

  removal-cases : (key : Key) (version : Version) → Told drop_told (RemoveAt key version Expire) Dropped → Told drop_told (RemoveAt key version Expire) Moved → Fails (RemoveAt key version Expire) → (reply : Reply) → Makes by (RemoveAt key version Expire) reply old new → P reply
  removal-cases key version did moved failed (GoneAt (Gone_done now)) m = did (GoneAt (Gone_done now)) m refl
  removal-cases key version did moved failed (GoneAt (Gone_moved there now)) m = moved (GoneAt (Gone_moved there now)) m refl
  removal-cases key version did moved failed (Failed done) m = failed done m
  removal-cases key version did moved failed (Got x) m = let e = m.answered.answered in absurd (cc)
  removal-cases key version did moved failed (New x) m = let e = m.answered.answered in absurd (cc)
  removal-cases key version did moved failed (Over x) m = let e = m.answered.answered in absurd (cc)
  removal-cases key version did moved failed (Is_gone x) m = let e = m.answered.answered in absurd (cc)
  removal-cases key version did moved failed (Listed x) m = let e = m.answered.answered in absurd (cc)

  burial-cases : (key : Key) → Told drop_told (PutNew key [] Expire) Dropped → Told drop_told (PutNew key [] Expire) Moved → Fails (PutNew key [] Expire) → (reply : Reply) → Makes by (PutNew key [] Expire) reply old new → P reply
  burial-cases key did moved failed (New (New_done version now)) m = did (New (New_done version now)) m refl
  burial-cases key did moved failed (New (New_present version now)) m = moved (New (New_present version now)) m refl
  burial-cases key did moved failed (Failed done) m = failed done m
  burial-cases key did moved failed (Got x) m = let e = m.answered.answered in absurd (cc)
  burial-cases key did moved failed (Over x) m = let e = m.answered.answered in absurd (cc)
  burial-cases key did moved failed (Is_gone x) m = let e = m.answered.answered in absurd (cc)
  burial-cases key did moved failed (GoneAt x) m = let e = m.answered.answered in absurd (cc)
  burial-cases key did moved failed (Listed x) m = let e = m.answered.answered in absurd (cc)

  -- of a drop of what may be dropped
  drop-cases : (t : Terms) (ref : Key) (version : Version) → may_drop t ref ≡ true → Told drop_told (drop_op ref version) Dropped → Told drop_told (drop_op ref version) Moved → Fails (drop_op ref version) → (reply : Reply) → Makes by (drop_op ref version) reply old new → P reply
  drop-cases t (Branch name) version may did moved failed reply m = removal-cases (Branch name) version did moved failed reply m
  drop-cases t (Tag name) version may did moved failed reply m = burial-cases (Tombstone name) did moved failed reply m
  drop-cases t (Snapshot id) version may did moved failed reply m = absurd (cc)
  drop-cases t (Manifest id) version may did moved failed reply m = absurd (cc)
  drop-cases t (Txn id) version may did moved failed reply m = absurd (cc)
  drop-cases t (Chunk id) version may did moved failed reply m = absurd (cc)
  drop-cases t (Tombstone name) version may did moved failed reply m = absurd (cc)
  drop-cases t (Lease id) version may did moved failed reply m = absurd (cc)

  cut-cases : (id : Id12) (bytes : List ℕ) (version : Version) → Told (cut_told id) (PutOver (Snapshot id) bytes version Expire) (Cut id) → Told (cut_told id) (PutOver (Snapshot id) bytes version Expire) Moved → Fails (PutOver (Snapshot id) bytes version Expire)
      → (reply : Reply) → Makes by (PutOver (Snapshot id) bytes version Expire) reply old new → P reply
  cut-cases id bytes version did moved failed (Over (Over_done at now)) m = did (Over (Over_done at now)) m refl
  cut-cases id bytes version did moved failed (Over (Over_moved there now)) m = moved (Over (Over_moved there now)) m refl
  cut-cases id bytes version did moved failed (Failed done) m = failed done m
  cut-cases id bytes version did moved failed (Got x) m = let e = m.answered.answered in absurd (cc)
  cut-cases id bytes version did moved failed (New x) m = let e = m.answered.answered in absurd (cc)
  cut-cases id bytes version did moved failed (Is_gone x) m = let e = m.answered.answered in absurd (cc)
  cut-cases id bytes version did moved failed (GoneAt x) m = let e = m.answered.answered in absurd (cc)
  cut-cases id bytes version did moved failed (Listed x) m = let e = m.answered.answered in absurd (cc)

-- ---- what was decided is done
-- N holds all along, and what follows is as it should be, where the case of the ref is told, or why it is refused
module _ (by : Caller) (t : Terms) (start : List Event) (ref : Key) (N : List Event → Type 0) (lasts : Lasts N) (since : (h : List Event) → N h → Since start h) (next : Result What Refusal → Play Expired)
    (told : (what : What) (h : List Event) → N h → CaseTells t by.number ref what start h → Goes (Fine t start) (ExpireTells t by.number start) by (next (Ok what)) h)
    (refused : (why : Refusal) (h : List Event) → N h → Cause t by.number why start h → Goes (Fine t start) (ExpireTells t by.number start) by (next (Err why)) h) where
  abbrev Follows : Result What Refusal → List Event → Type 0
  Follows result h = Goes (Fine t start) (ExpireTells t by.number start) by (next result) h

  was-dropped : (version : Version) (what : What) (reply : Reply) (old new : List Event) → N old → WasJudged t by.number ref version ToDrop start old → Makes by (drop_op ref version) reply old new → drop_told reply ≡ Ok what → WasDropped t by.number ref what start new
  was-dropped version what reply old new n judged m e = record {
    version = version;
    judged = lasts-makes (WasJudged t by.number ref version ToDrop start) (λ j more w. judged-more t by.number start j more ref version ToDrop w) by (drop_op ref version) reply old new m judged;
    reply = reply;
    own = own-made by start (drop_op ref version) reply old new m (since old n);
    tells = e;
  }

  was-cut : (id : Id12) (bytes : List ℕ) (old_version : Version) (what : What) (reply : Reply) (old new : List Event) → N old → IsCutOf t by.number ref id bytes old_version start old → Makes by (PutOver (Snapshot id) bytes old_version Expire) reply old new → cut_told id reply ≡ Ok what
      → WasCut t by.number ref what start new
  was-cut id bytes old_version what reply old new n cut m e = record {
    id = id;
    bytes = bytes;
    old = old_version;
    cut = lasts-makes (IsCutOf t by.number ref id bytes old_version start) (λ j more w. cut-of-more t by.number start j more ref id bytes old_version w) by (PutOver (Snapshot id) bytes old_version Expire) reply old new m cut;
    reply = reply;
    own = own-made by start (PutOver (Snapshot id) bytes old_version Expire) reply old new m (since old n);
    tells = e;
  }

  drop-goes : (version : Version) (h : List Event) → N h → ToBeDropped t by.number ref version start h → Goes (Fine t start) (ExpireTells t by.number start) by (decide ref next (Drops version)) h
  unfolding Goes
  drop-goes version h n d = (
    drop-fine t by.number ref version start h d d.may,
    refused R.NoMemory h n tt,
    λ reply new m.
        let along : (r : Reply) → Makes by (drop_op ref version) r h new → N new = λ r k. lasts-makes N lasts by (drop_op ref version) r h new k n in
        drop-cases by h new (λ r. Follows (drop_told r) new) t ref version d.may
        (λ r k e. subst (λ (x : Result What Refusal). Follows x new) (sym e) (told Dropped new (along r k) (was-dropped version Dropped r h new n d.judged k e)))
        (λ r k e. subst (λ (x : Result What Refusal). Follows x new) (sym e) (told Moved new (along r k) (inr (was-dropped version Moved r h new n d.judged k e))))
        (λ done k. refused R.StoreFault new (along (Failed done) k) (failed-so by start (drop_op ref version) done h new k (since h n)))
        reply m,
  )

  cut-goes : (id : Id12) (version : Version) (bytes : List ℕ) (h : List Event) → N h → ToBeCut t by.number ref id bytes version start h → Goes (Fine t start) (ExpireTells t by.number start) by (decide ref next (Cuts id version bytes)) h
  unfolding Goes
  cut-goes id version bytes h n c = (
    (c.polite, (refl, (ref, c.cut))),
    refused R.NoMemory h n tt,
    λ reply new m.
        let along : (r : Reply) → Makes by (PutOver (Snapshot id) bytes version Expire) r h new → N new = λ r k. lasts-makes N lasts by (PutOver (Snapshot id) bytes version Expire) r h new k n in
        cut-cases by h new (λ r. Follows (cut_told id r) new) id bytes version
        (λ r k e. subst (λ (x : Result What Refusal). Follows x new) (sym e) (told (Cut id) new (along r k) (was-cut id bytes version (Cut id) r h new n c.cut k e)))
        (λ r k e. subst (λ (x : Result What Refusal). Follows x new) (sym e) (told Moved new (along r k) (inl (was-cut id bytes version Moved r h new n c.cut k e))))
        (λ done k. refused R.StoreFault new (along (Failed done) k) (failed-so by start (PutOver (Snapshot id) bytes version Expire) done h new k (since h n)))
        reply m,
  )

  pub decided-goes : (answer : Result Decision Refusal) (h : List Event) → N h → LookTells t by.number ref start answer h → Goes (Fine t start) (ExpireTells t by.number start) by (after_look ref next answer) h
  decided-goes (Ok Gone) h n w = told Absent h n w
  decided-goes (Ok Keeps) h n w = told Kept h n w
  decided-goes (Ok (Drops version)) h n w = drop-goes version h n w
  decided-goes (Ok (Cuts id version bytes)) h n w = cut-goes id version bytes h n w
  decided-goes (Err why) h n w = refused why h n w

  pub starved-goes : (h : List Event) → N h → Goes (Fine t start) (ExpireTells t by.number start) by (after_look ref next (Err R.NoMemory)) h
  starved-goes h n = refused R.NoMemory h n tt
