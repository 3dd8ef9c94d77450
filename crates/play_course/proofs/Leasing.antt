-- What leases of sessions answer in a run over an empty store, and what their releases leave.
use Rattle.std.proofs.Common.{◌≡◌, ℕ, Bool, true, false, cond, List, [], ◌∷◌, ◌++◌, refl}
use Rattle.std.specs.Prelude.{◌==◌, Some, Result, Ok, Err}
use Rattle.ice_ids.specs.declared.Id12.{Id12}
use Rattle.ice_ids.specs.declared.drawing.AnyIds.{AnyIds}
use Rattle.ice_ids.specs.Drawing.{drawn12, after12}
use Rattle.object_store.specs.declared.keys.Key.TheVariants.{Lease as Lease_key}
use Rattle.object_store.specs.declared.keys.Why.TheVariants.{Lease as For_lease}
use Rattle.object_store.specs.declared.events.Op.TheVariants.{PutNew}
use Rattle.object_store.specs.declared.events.Got.TheVariants.{Found, Absent}
use Rattle.object_store.specs.declared.events.Reply.{Reply}
use Rattle.object_store.specs.declared.events.Reply.TheVariants.{Got as Is_got, New as Is_new, Over as Is_over, Gone as Is_gone, GoneAt as Is_gone_at, Listed as Is_listed, Failed}
use Rattle.object_store.specs.declared.events.Version.{Version}
use Rattle.object_store.specs.declared.events.Event.{Event}
use Rattle.object_store.proofs.Journals.{Each-one}
use Rattle.store_api.specs.declared.machines.Refusal.{Refusal}
use Rattle.store_api.specs.declared.machines.Refusal.TheVariants as R
use Rattle.store_api.specs.Journal.{IsGood}
use Rattle.session.specs.Sessions.{SessionState}
use Rattle.session.specs.Chunks.{after_draw}
use Rattle.leases.specs.declared.witness.Witness.{Witness}
use Rattle.leases.specs.declared.witness.Witness.TheVariants as W
use Rattle.leases.specs.Plays.{stands_at, has_none, confirmed, release_play}
use Rattle.commit_path.proofs.Knowing.{IsOpened-append}
use Rattle.region_calls.proofs.Setting.{entries-opened}
use Rattle.play_outcome.specs.declared.outcome.Shown.{Shown}
use Rattle.play_outcome.specs.declared.outcome.Shown.TheVariants.{Node, Meta, Chunk, Fill, Cells, Key, Log, Lease}
use Rattle.play_outcome.specs.declared.outcome.End.{End}
use Rattle.play_outcome.specs.declared.outcome.Outcome.{Outcome}
use Rattle.play_tasks.specs.Playing.{left_by, release_from}
use Rattle.run_histories.proofs.Drawing.{drawn12-of}
use Rattle.run_histories.proofs.Edits.{drew-goes}
use Rattle.play_course.specs.Refusing.{is_strange}
use Rattle.play_course.proofs.Tidy.{Client}
use Rattle.play_course.proofs.Meeting.{Watch, PlayMeets, ended-meets, followed-meets}
use Rattle.play_course.proofs.Knowing.{OfOwn, before-put}
use Rattle.play_course.proofs.Holding.{KnowsSession}
use Rattle.play_course.proofs.Checking.{meets-any}

-- ---- the put
-- the session has drawn the lease's id
pub held-leased : (client : Client) (ids : AnyIds) (s : SessionState) (journal : List Event) (event : Event) (id : Id12) (bytes : List ℕ) → OfOwn client ids journal event → event.op ≡ PutNew (Lease_key id) bytes For_lease → drawn12 s.ids ≡ Some id → KnowsSession client ids s journal → KnowsSession client ids (after_draw s) (journal ++ event ∷ [])
held-leased client ids s journal event id bytes own is drawn h =
    let after : List Event = journal ++ event ∷ [] in
    let opened = IsOpened-append s journal (event ∷ []) (Each-one IsGood journal event own.tidy.good) h.opened in
    record {
      before = before-put client ids s.ids h.known journal event (Lease_key id) bytes For_lease id own is refl drawn h.before;
      known = drawn12-of client.draw client.number s.ids h.known;
      goes = drew-goes ids s h.goes;
      own = h.own;
      opened = entries-opened s (after12 s.ids) s.held.chunks after opened opened.objects opened.chunks;
    }

-- ---- the confirmation
-- it isn't refused strangely
abbrev pub Plain : Result (Unit {0}) Refusal → Type 0
Plain (Ok done) = Unit {0}
Plain (Err why) = is_strange false why ≡ false

stands-plain : (wanted : Version) (reply : Reply) → Plain (stands_at wanted reply)
stands-plain wanted (Is_got (Found bytes version now)) = by_test (version.0 == wanted.0)
  where
    by_test : (same : Bool) → Plain (cond same (Ok tt) (Err (R.Moved (Some version))))
    by_test true = tt
    by_test false = refl
stands-plain wanted (Is_got (Absent now)) = refl
stands-plain wanted (Is_new x) = refl
stands-plain wanted (Is_over x) = refl
stands-plain wanted (Is_gone x) = refl
stands-plain wanted (Is_gone_at x) = refl
stands-plain wanted (Is_listed x) = refl
stands-plain wanted (Failed done) = refl

none-plain : (reply : Reply) → Plain (has_none reply)
none-plain (Is_got (Found bytes version now)) = refl
none-plain (Is_got (Absent now)) = tt
none-plain (Is_new x) = refl
none-plain (Is_over x) = refl
none-plain (Is_gone x) = refl
none-plain (Is_gone_at x) = refl
none-plain (Is_listed x) = refl
none-plain (Failed done) = refl

pub confirmed-plain : (w : Witness) (reply : Reply) → Plain (confirmed w reply)
confirmed-plain (W.Branch tip) reply = stands-plain tip.version reply
confirmed-plain (W.Tag tag) reply = none-plain reply

-- ---- releases
-- behind them the task ends as it did
pub releases-meet : (Q : End → Type 0) (watch : Watch) (end : End) → Q end → (done left : List Shown) (journal : List Event) → PlayMeets (λ (o : Outcome). Q o.end) watch (release_from done left end) journal
releases-meet Q watch end q done [] journal = ended-meets (λ (o : Outcome). Q o.end) watch (record { shown = done; end = end }) journal q
releases-meet Q watch end q done (Lease line id left ∷ more) journal =
    followed-meets (λ (result : Result (Unit {0}) Refusal). Unit {0}) (λ (o : Outcome). Q o.end) watch (release_play id) (λ result. release_from (done ++ Lease line id (left_by result) ∷ []) more end) journal
    (meets-any (λ (result : Result (Unit {0}) Refusal). Unit {0}) (λ result. tt) watch (release_play id) journal) (λ result h any. releases-meet Q watch end q (done ++ Lease line id (left_by result) ∷ []) more h)
releases-meet Q watch end q done (Node line array path ∷ more) journal = releases-meet Q watch end q (done ++ Node line array path ∷ []) more journal
releases-meet Q watch end q done (Meta line text ∷ more) journal = releases-meet Q watch end q (done ++ Meta line text ∷ []) more journal
releases-meet Q watch end q done (Chunk line bytes ∷ more) journal = releases-meet Q watch end q (done ++ Chunk line bytes ∷ []) more journal
releases-meet Q watch end q done (Fill line ∷ more) journal = releases-meet Q watch end q (done ++ Fill line ∷ []) more journal
releases-meet Q watch end q done (Cells line numbers ∷ more) journal = releases-meet Q watch end q (done ++ Cells line numbers ∷ []) more journal
releases-meet Q watch end q done (Key line bytes ∷ more) journal = releases-meet Q watch end q (done ++ Key line bytes ∷ []) more journal
releases-meet Q watch end q done (Log line id flushed_at message props ∷ more) journal = releases-meet Q watch end q (done ++ Log line id flushed_at message props ∷ []) more journal
