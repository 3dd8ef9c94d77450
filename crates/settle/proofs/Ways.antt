-- What a settling tells, whatever others do.
use Rattle.std.proofs.Common.{◌≡◌, ◌≢◌, inl, inr, ℕ, zero, suc, ◌+◌, Bool, true, false, List, [], ◌∷◌, ◌++◌, length, refl, sym, ◌∙◌, ap, subst, arith}
use Rattle.std.specs.Prelude.{if◌then◌else◌, Option, Some, None, Result, Ok, Err}
use Rattle.std.specs.Result.{result_ok}
use Rattle.std.proofs.lemmas.List.{length-append}
use Rattle.std.proofs.lemmas.List.Elements.{All-nil, All-cons, All-append}
use Rattle.ice_ids.specs.declared.Id12.{Id12}
use Rattle.ice_ids.specs.Text.{same_id12}
use Rattle.ice_ids.proofs.TextLaws.{same_id12-true, same_id12-self}
use Rattle.snapshot_file.specs.declared.snapshot.SnapshotFile.{SnapshotFile}
use Rattle.repo_objects.specs.declared.bad_objects.Bad.{Bad}
use Rattle.repo_objects.specs.Laws.{SnapshotLaw}
use Rattle.repo_objects.specs.Readings.{read_snapshot, read_ref}
use Rattle.object_store.specs.declared.keys.Key.TheVariants.{Snapshot, Branch}
use Rattle.object_store.specs.declared.events.Version.{Version}
use Rattle.object_store.specs.declared.events.Op.TheVariants.{Get}
use Rattle.object_store.specs.declared.events.Got.TheVariants.{Found, Absent}
use Rattle.object_store.specs.declared.events.Reply.{Reply}
use Rattle.object_store.specs.declared.events.Reply.TheVariants.{Got}
use Rattle.object_store.specs.declared.events.Event.{Event}
use Rattle.store_api.specs.declared.machines.Refusal.{Refusal}
use Rattle.store_api.specs.Callers.{Caller, Makes}
use Rattle.store_api.specs.Program.{Leads}
use Rattle.store_api.specs.Running.{Program, on_answer}
use Rattle.store_api.specs.Telling.{GetsOf, MadeGets, WasGot, WasReadAs}
use Rattle.repo_read.specs.Answers.{at_key, resolved_at, ref_told, snapshot_told}
use Rattle.repo_read.specs.Chains.{most_snapshots, Leading}
use Rattle.repo_read.proofs.Own.{MadeGets-none, MadeGets-get}
use Rattle.repo_read.proofs.Replies.{got-cases}
use Rattle.repo_read.proofs.Leading.{leading-makes, leading-next}
use Rattle.repo_read.proofs.Namings.{got-made, absent-made, failed-made, WasRef-makes}
use Rattle.settle.specs.declared.settle.Doubt.{Doubt}
use Rattle.settle.specs.declared.settle.Settled.{Settled}
use Rattle.settle.specs.declared.settle.Settled.TheVariants.{Committed, NotCommitted}
use Rattle.settle.specs.Settling.{met, unless_met, settle_walk, settle_program}
use Rattle.settle.specs.Telling.{IsNeither, WasFollowed, IsOfSettle, SettleSays, SettleTells}
use Rattle.settle.specs.inside.Working.{way_behind}
use Rattle.settle.proofs.Reading.{from_head, settle-reads}
use Rattle.repo_read.proofs.GetsAlone.{reads-gets}

same_id12-false : (a b : Id12) → same_id12 a b ≡ false → a ≢ b
same_id12-false a b t same = let here : same_id12 a b ≡ true = subst (λ (id : Id12). same_id12 a id ≡ true) same (same_id12-self a) in cc

module _ (law : SnapshotLaw) (by : Caller) (branch : List ℕ) (d : Doubt) (start : List Event) where
  abbrev Says : Result Settled Refusal → List Event → Type 0
  Says = SettleSays by.number branch d start

  abbrev Followed : (head : Id12) → (to : Option Id12) → List Event → Type 0
  Followed head to h = WasFollowed by.number branch d head to start h

  -- where the way comes to this id, it is one of the two, or this program goes on
  came : (head id : Id12) (p : Program Settled) (h : List Event) → Followed head (Some id) h → (IsNeither d id → Leads Says by p h) → Leads Says by (unless_met (met d id) p) h
  unfolding Leads
  came head id p h w rest = by_tests (same_id12 id d.snapshot) (same_id12 id d.base) refl refl
    where
      by_tests : (a b : Bool) → same_id12 id d.snapshot ≡ a → same_id12 id d.base ≡ b → Leads Says by (unless_met (if a then Some Committed else (if b then Some NotCommitted else None)) p) h
      by_tests true b s e = (head, subst (λ (x : Id12). Followed head (Some x) h) (same_id12-true id d.snapshot s) w)
      by_tests false true s e = (
        λ same. same_id12-false id d.snapshot s (same_id12-true id d.base e ∙ same),
        head,
        subst (λ (x : Id12). Followed head (Some x) h) (same_id12-true id d.base e) w,
      )
      by_tests false false s e = rest (record { snapshot = same_id12-false id d.snapshot s; base = same_id12-false id d.base e })

  -- the way has come to this snapshot, and so many more may be read
  record Comes (head next : Id12) (left : ℕ) (h : List Event) : Type 0 where
    pub followed : Followed head (Some next) h
    pub gets : MadeGets by.number start h
    pub count : length followed.seen + left ≡ most_snapshots

  -- ... also behind a get
  comes-get : (head next : Id12) (left : ℕ) (reply : Reply) (old new : List Event) → Makes by (Get (Snapshot next)) reply old new → Comes head next left old → Comes head next left new
  comes-get head next left reply old new m g = record {
    followed = record {
      version = g.followed.version;
      read = WasRef-makes by (Get (Snapshot next)) reply (Branch branch) g.followed.version head start old new m g.followed.read;
      seen = g.followed.seen;
      chain = leading-makes by (Get (Snapshot next)) reply (Some head) g.followed.seen (Some next) start old new m g.followed.chain;
      neither = g.followed.neither;
    };
    gets = MadeGets-get by start (Snapshot next) reply old new m g.gets;
    count = g.count;
  }

  -- one more was read
  abbrev followed-next : (head next : Id12) (s : SnapshotFile) (to : Option Id12) (h : List Event) → Followed head (Some next) h → IsNeither d next → WasReadAs by.number next s start h → s.parent ≡ to → Followed head to h
  followed-next head next s to h w n r e = record {
    version = w.version;
    read = w.read;
    seen = w.seen ++ s ∷ [];
    chain = subst (λ (o : Option Id12). Leading by.number (Some head) (w.seen ++ s ∷ []) o start h) e (leading-next by.number (Some head) w.seen next s start h w.chain r);
    neither = All-append (λ (f : SnapshotFile). IsNeither d f.id) w.seen (s ∷ []) w.neither
        (All-cons (λ (f : SnapshotFile). IsNeither d f.id) s [] (subst (λ (id : Id12). IsNeither d id) (sym (law.own next r.bytes s r.read)) n) (All-nil (λ (f : SnapshotFile). IsNeither d f.id)));
  }

  comes-on : (head next : Id12) (left : ℕ) (s : SnapshotFile) (parent : Id12) (h : List Event) → Comes head next (suc left) h → IsNeither d next → WasReadAs by.number next s start h → s.parent ≡ Some parent → Comes head parent left h
  comes-on head next left s parent h g n r e = record {
    followed = followed-next head next s (Some parent) h g.followed n r e;
    gets = g.gets;
    count = let l = length-append g.followed.seen (s ∷ []) in let c = g.count in omega (arith, l, c);
  }

  -- what follows tells so
  abbrev Goes_on : (head : Id12) (left : ℕ) → Type 0
  Goes_on head left = (parent : Id12) (h : List Event) → Comes head parent left h → IsNeither d parent → Leads Says by (settle_walk d head left parent) h

  parent-leads : (head next : Id12) (left : ℕ) (s : SnapshotFile) (h : List Event) → Comes head next (suc left) h → IsNeither d next → WasReadAs by.number next s start h → Goes_on head left
      → (o : Option Id12) → s.parent ≡ o → Leads Says by (way_behind d head left o) h
  unfolding Leads
  parent-leads head next left s h g n r here (Some parent) e = came head parent (settle_walk d head left parent) h (followed-next head next s (Some parent) h g.followed n r e) (λ k. here parent h (comes-on head next left s parent h g n r e) k)
  parent-leads head next left s h g n r here None e = followed-next head next s None h g.followed n r e

  abbrev behind : (head : Id12) (left : ℕ) → SnapshotFile → Program Settled
  behind head left s = way_behind d head left s.parent

  bytes-lead : (head next : Id12) (left : ℕ) (bytes : List ℕ) (version : ℕ) (h : List Event) → Comes head next (suc left) h → IsNeither d next → WasGot by.number (Snapshot next) bytes version start h → Goes_on head left
      → (r : Result SnapshotFile Bad) → read_snapshot next bytes ≡ r → Leads Says by (on_answer (behind head left) (at_key (Snapshot next) r)) h
  unfolding Leads
  bytes-lead head next left bytes version h g n got here (Ok s) e = parent-leads head next left s h g n (record { bytes = bytes; version = version; got = got; read = ap result_ok e }) here s.parent refl
  bytes-lead head next left bytes version h g n got here (Err bad) e = inr (record { head = head; next = next; followed = g.followed; neither = n; unread = record { key_is = refl; bytes = bytes; version = version; got = got; unread = e } })

  get-leads : (head next : Id12) (left : ℕ) (reply : Reply) (old new : List Event) → Comes head next (suc left) old → IsNeither d next → Goes_on head left → Makes by (Get (Snapshot next)) reply old new → Leads Says by (on_answer (behind head left) (snapshot_told next reply)) new
  unfolding Leads
  get-leads head next left reply old new g n here m =
      got-cases by old new (λ r. Leads Says by (on_answer (behind head left) (snapshot_told next r)) new) (Snapshot next)
      (λ bytes version now k. bytes-lead head next left bytes version.0 new (comes-get head next (suc left) (Got (Found bytes version now)) old new k g) n (got-made by start (Snapshot next) bytes version now old new k g.gets) here (read_snapshot next bytes) refl)
      (λ now k. record { head = head; next = next; followed = (comes-get head next (suc left) (Got (Absent now)) old new k g).followed; neither = n; key_is = refl; absent = absent-made by start (Snapshot next) now old new k g.gets })
      (λ done k. failed-made by start (GetsOf (IsOfSettle branch)) (Get (Snapshot next)) done old new (Snapshot next, inr (next, refl), refl) k g.gets)
      reply m

  walk-leads : (head : Id12) (left : ℕ) → Goes_on head left
  unfolding Leads settle_walk
  walk-leads head zero next h g n = record { head = head; next = next; followed = g.followed; neither = n; many = let c = g.count in omega (arith, c) }
  walk-leads head (suc left) next h g n = λ reply new m. get-leads head next left reply h new g n (walk-leads head left) m

  -- ---- the head
  ref-leads : (bytes : List ℕ) (version : Version) (h : List Event) → WasGot by.number (Branch branch) bytes version.0 start h → MadeGets by.number start h
      → (r : Result Id12 Bad) → read_ref bytes ≡ r → Leads Says by (on_answer (from_head d) (resolved_at version (at_key (Branch branch) r))) h
  unfolding Leads
  ref-leads bytes version h got c (Ok id) e =
      let first : Followed id (Some id) h = record { version = version; read = record { bytes = bytes; got = got; names = ap result_ok e }; seen = []; chain = refl; neither = All-nil (λ (f : SnapshotFile). IsNeither d f.id) } in
      came id id (settle_walk d id most_snapshots id) h first (λ n. walk-leads id most_snapshots id h (record { followed = first; gets = c; count = refl }) n)
  ref-leads bytes version h got c (Err bad) e = inl (record { key_is = refl; bytes = bytes; version = version.0; got = got; unread = e })

  head-leads : (reply : Reply) (old new : List Event) → MadeGets by.number start old → Makes by (Get (Branch branch)) reply old new → Leads Says by (on_answer (from_head d) (ref_told branch reply)) new
  unfolding Leads
  head-leads reply old new c m =
      got-cases by old new (λ r. Leads Says by (on_answer (from_head d) (ref_told branch r)) new) (Branch branch)
      (λ bytes version now k. ref-leads bytes version new (got-made by start (Branch branch) bytes version now old new k c) (MadeGets-get by start (Branch branch) (Got (Found bytes version now)) old new k c) (read_ref bytes) refl)
      (λ now k. absent-made by start (Branch branch) now old new k c)
      (λ done k. failed-made by start (GetsOf (IsOfSettle branch)) (Get (Branch branch)) done old new (Branch branch, inl refl, refl) k c)
      reply m

  settle-says : (h : List Event) → MadeGets by.number start h → Leads Says by (settle_program branch d) h
  unfolding Leads
  settle-says h c = λ reply new m. head-leads reply h new c m

pub settle-leads : SnapshotLaw → (by : Caller) (branch : List ℕ) (d : Doubt) (journal : List Event) → Leads (SettleTells by.number branch d journal) by (settle_program branch d) journal
settle-leads law by branch d journal =
    reads-gets (SettleSays by.number branch d journal) by journal (settle_program branch d) journal (settle-reads branch d) (MadeGets-none by.number journal) (settle-says law by branch d journal journal (MadeGets-none by.number journal))
