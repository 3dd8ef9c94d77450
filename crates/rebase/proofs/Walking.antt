-- What a walk from the branch's snapshot down to the base tells, whatever others do.
use Rattle.std.proofs.Common.{◌≡◌, ◌≢◌, inl, inr, ℕ, zero, suc, ◌+◌, Bool, true, false, cond, List, [], ◌∷◌, ◌++◌, length, refl, sym, ◌∙◌, ap, subst, arith}
use Rattle.std.specs.Prelude.{Option, Some, None, option_map, Result, Ok, Err}
use Rattle.std.specs.Result.{result_ok}
use Rattle.std.proofs.lemmas.List.Elements.{All-nil, All-cons}
use Rattle.ice_ids.specs.declared.Id12.{Id12}
use Rattle.ice_ids.specs.Text.{same_id12}
use Rattle.ice_ids.proofs.TextLaws.{same_id12-true, same_id12-self}
use Rattle.snapshot_file.specs.declared.snapshot.SnapshotFile.{SnapshotFile}
use Rattle.repo_objects.specs.declared.bad_objects.Bad.{Bad}
use Rattle.repo_objects.specs.Laws.{IsProper, SnapshotLaw}
use Rattle.repo_objects.specs.Readings.{read_snapshot}
use Rattle.object_store.specs.declared.keys.Key.TheVariants.{Snapshot, Branch}
use Rattle.object_store.specs.declared.events.Version.{Version}
use Rattle.object_store.specs.declared.events.Op.TheVariants.{Get}
use Rattle.object_store.specs.declared.events.Got.TheVariants.{Found, Absent}
use Rattle.object_store.specs.declared.events.Reply.{Reply}
use Rattle.object_store.specs.declared.events.Reply.TheVariants.{Got}
use Rattle.object_store.specs.declared.events.Event.{Event}
use Rattle.store_api.specs.declared.machines.Refusal.{Refusal}
use Rattle.store_api.specs.declared.machines.Refusal.TheVariants as R
use Rattle.store_api.specs.Journal.{Each, HadRows, IsGood, IsOnce, WasPut, rows_of, snap_in}
use Rattle.store_api.specs.Callers.{Caller, Makes}
use Rattle.store_api.specs.Program.{Done, Leads}
use Rattle.store_api.specs.Running.{Program, on_answer}
use Rattle.store_api.specs.Telling.{GetsOf, MadeGets, WasFailure, WasGot, WasReadAs, WasRef}
use Rattle.object_store.proofs.Slots.{WasPut-append}
use Rattle.store_api.proofs.Standing.{HadRows-append}
use Rattle.store_api.proofs.Telling.{Had, get-had, makes-keeps}
use Rattle.repo_read.specs.Answers.{at_key, snapshot_told}
use Rattle.repo_read.specs.Chains.{most_snapshots}
use Rattle.session.specs.Sessions.{SessionState, branch_of}
use Rattle.commit_path.proofs.Knowing.{rows-kept}
use Rattle.rebase.specs.Rebasing.{CommitsSince, head_of, walk_down}
use Rattle.rebase.specs.Telling.{CameTo, HasEnded, IsOfRebase, Rises, SnapshotIsBad, SnapshotIsMissing, WasTooDeep, WasWalked}
use Rattle.repo_read.proofs.Own.{MadeGets-get}
use Rattle.repo_read.proofs.Replies.{got-cases}
use Rattle.repo_read.proofs.Namings.{got-made, absent-made, failed-made}
use Rattle.commit_path.proofs.Gets.{Gets, done-gets}
use Rattle.rebase.proofs.Kept.{stays-makes, ref-append, walked-append}

pub same_id12-false : (a b : Id12) → same_id12 a b ≡ false → a ≢ b
same_id12-false a b t same = let here : same_id12 a b ≡ true = subst (λ (id : Id12). same_id12 a id ≡ true) same (same_id12-self a) in cc

-- ---- the chain
pub rises-none : (id : Id12) → Rises id [] id
unfolding Rises
rises-none id = refl

-- one more below
pub rises-next : (below head : Id12) (f : SnapshotFile) (fs : List SnapshotFile) → f.parent ≡ Some below → Rises f.id fs head → Rises below (f ∷ fs) head
unfolding Rises
rises-next below head f fs e r = (e, r)

rises-end : (below head : Id12) → Rises below [] head → below ≡ head
unfolding Rises
rises-end below head r = r

-- ---- the branch's snapshot
-- It was put, with these rows, as it was read; where nothing is put again, the rows are its own. It can be written.
pub record IsHead (id : Id12) (f : SnapshotFile) (h : List Event) : Type 0 where
  pub put : WasPut h (Snapshot id)
  pub had : HadRows h id f.nodes
  pub rows : IsOnce h → rows_of h id ≡ Some f.nodes
  pub proper : IsProper f

pub IsHead-append : (id : Id12) (f : SnapshotFile) (journal more : List Event) → Each IsGood journal more → IsHead id f journal → IsHead id f (journal ++ more)
IsHead-append id f journal more g k = record {
  put = WasPut-append journal more (Snapshot id) k.put;
  had = HadRows-append journal more id f.nodes k.had;
  rows = rows-kept journal more id f.nodes k.put g k.rows;
  proper = k.proper;
}

pub got-head : SnapshotLaw → (id : Id12) (bytes : List ℕ) (version : ℕ) (f : SnapshotFile) (h : List Event) → Had h (Snapshot id) bytes version → read_snapshot id bytes ≡ Ok f → IsHead id f h
got-head law id bytes version f h k e = record {
  put = k.put;
  had = record { version = version; bytes = bytes; stood = k.stood; snap = f; read = ap result_ok e; rows_are = refl };
  rows = λ once. ap (λ (o : Option (List ℕ)). option_map (λ (s : SnapshotFile). s.nodes) (snap_in id o)) k.last ∙ ap (λ (r : Result SnapshotFile Bad). option_map (λ (s : SnapshotFile). s.nodes) (result_ok r)) e;
  proper = law.read id bytes f (ap result_ok e);
}

-- the last one of these, if there is one, is the branch's snapshot
abbrev Top : (head : Id12) → List SnapshotFile → List Event → Type 0
Top head [] h = Unit {0}
Top head (f ∷ fs) h = IsHead head (head_of f fs) h

top-append : (head : Id12) (fs : List SnapshotFile) (journal more : List Event) → Each IsGood journal more → Top head fs journal → Top head fs (journal ++ more)
top-append head [] journal more g t = tt
top-append head (f ∷ fs) journal more g t = IsHead-append head (head_of f fs) journal more g t

top-next : (head next : Id12) (f : SnapshotFile) (fs : List SnapshotFile) (h : List Event) → Rises next fs head → Top head fs h → IsHead next f h → IsHead head (head_of f fs) h
top-next head next f [] h r t k = subst (λ (id : Id12). IsHead id f h) (rises-end next head r) k
top-next head next f (g ∷ gs) h r t k = t

-- ---- gets alone
-- the commits from this one on
abbrev from : SnapshotFile → List SnapshotFile → CommitsSince
from f fs = record { oldest = f; later = fs }

end-gets : (base head : Id12) (left : ℕ) (above : List SnapshotFile) (f : SnapshotFile) (parent : Id12) → Gets (walk_down base head left (f ∷ above) parent) → (b : Bool) → Gets (cond b (Done (Ok (from f above))) (walk_down base head left (f ∷ above) parent))
end-gets base head left above f parent g true = done-gets (Ok (from f above))
end-gets base head left above f parent g false = g

abbrev behind : (base head : Id12) → (left : ℕ) → (above : List SnapshotFile) → SnapshotFile → Option Id12 → Program CommitsSince
behind base head left above f parent = elim parent [
  | Some parent ↦ cond (same_id12 parent base) (Done (Ok (from f above))) (walk_down base head left (f ∷ above) parent)
  | None ↦ Done (Err (R.NotAncestor head))
]

parent-gets : (base head : Id12) (left : ℕ) (above : List SnapshotFile) (f : SnapshotFile) → ((id : Id12) → Gets (walk_down base head left (f ∷ above) id)) → (parent : Option Id12) → Gets (behind base head left above f parent)
parent-gets base head left above f g (Some parent) = end-gets base head left above f parent (g parent) (same_id12 parent base)
parent-gets base head left above f g None = done-gets (Err (R.NotAncestor head))

told-gets : (base head : Id12) (left : ℕ) (above : List SnapshotFile) → ((f : SnapshotFile) (id : Id12) → Gets (walk_down base head left (f ∷ above) id)) → (r : Result SnapshotFile Refusal) → Gets (on_answer (λ (f : SnapshotFile). behind base head left above f f.parent) r)
told-gets base head left above g (Ok f) = parent-gets base head left above f (g f) f.parent
told-gets base head left above g (Err why) = done-gets (Err why)

pub walk-gets : (base head : Id12) (left : ℕ) (above : List SnapshotFile) (id : Id12) → Gets (walk_down base head left above id)
unfolding Gets walk_down
walk-gets base head zero above id = tt
walk-gets base head (suc left) above id = (tt, λ reply. told-gets base head left above (λ f next. walk-gets base head left (f ∷ above) next) (snapshot_told id reply))

-- ---- what is told
-- the commits above the base, of which the last one is the branch's snapshot
pub record AreCommits (by : Caller) (s : SessionState) (head : Id12) (version : Version) (start : List Event) (c : CommitsSince) (h : List Event) : Type 0 where
  pub ref : WasRef by.number (Branch (branch_of s)) version head start h
  pub walked : WasWalked by.number s.base s.base head (c.oldest ∷ c.later) start h
  pub gets : MadeGets by.number start h
  pub top : IsHead head (head_of c.oldest c.later) h

abbrev pub WalkTells : (by : Caller) → SessionState → (head : Id12) → Version → (start : List Event) → Result CommitsSince Refusal → List Event → Type 0
WalkTells by s head version start (Ok c) h = AreCommits by s head version start c h
WalkTells by s head version start (Err (R.Missing key)) h = SnapshotIsMissing by.number s key start h
WalkTells by s head version start (Err (R.BadFile key bad)) h = SnapshotIsBad by.number s key bad start h
WalkTells by s head version start (Err R.TooDeep) h = WasTooDeep by.number s start h
WalkTells by s head version start (Err (R.NotAncestor to)) h = HasEnded by.number s to start h
WalkTells by s head version start (Err R.StoreFault) h = WasFailure by.number (GetsOf (IsOfRebase s)) start h
WalkTells by s head version start (Err _) h = ⊥

module _ (law : SnapshotLaw) (by : Caller) (s : SessionState) (head : Id12) (version : Version) (start : List Event) where
  abbrev Told : Result CommitsSince Refusal → List Event → Type 0
  Told = WalkTells by s head version start

  -- the walk has come to this snapshot
  record Goes (above : List SnapshotFile) (next : Id12) (left : ℕ) (h : List Event) : Type 0 where
    pub ref : WasRef by.number (Branch (branch_of s)) version head start h
    pub walked : WasWalked by.number s.base next head above start h
    pub apart : next ≢ s.base
    pub gets : MadeGets by.number start h
    pub count : length above + left ≡ most_snapshots
    pub top : Top head above h

  abbrev came : (above : List SnapshotFile) (next : Id12) (left : ℕ) (h : List Event) → Goes above next left h → CameTo by.number s head next above start h
  came above next left h g = record { version = version; ref = g.ref; walked = g.walked; apart = g.apart }

  -- one more was got
  goes-get : (above : List SnapshotFile) (next : Id12) (left : ℕ) (reply : Reply) (old new : List Event) → Makes by (Get (Snapshot next)) reply old new → Goes above next left old → Goes above next left new
  goes-get above next left reply old new m g = record {
    ref = stays-makes (λ (h : List Event). WasRef by.number (Branch (branch_of s)) version head start h) (λ journal more. ref-append by.number start journal more (Branch (branch_of s)) version head) by (Get (Snapshot next)) reply old new m g.ref;
    walked = stays-makes (λ (h : List Event). WasWalked by.number s.base next head above start h) (λ journal more. walked-append by.number start journal more s.base next head above) by (Get (Snapshot next)) reply old new m g.walked;
    apart = g.apart;
    gets = MadeGets-get by start (Snapshot next) reply old new m g.gets;
    count = g.count;
    top = makes-keeps (Top head above) (top-append head above) by (Get (Snapshot next)) reply old new tt m g.top;
  }

  -- ... and read
  record IsRead (next : Id12) (f : SnapshotFile) (h : List Event) : Type 0 where
    pub read : WasReadAs by.number next f start h
    pub id_is : f.id ≡ next
    pub head_is : IsHead next f h

  abbrev own-read : (next : Id12) (f : SnapshotFile) (h : List Event) → IsRead next f h → WasReadAs by.number f.id f start h
  own-read next f h r = subst (λ (id : Id12). WasReadAs by.number id f start h) (sym r.id_is) r.read

  walked-next : (above : List SnapshotFile) (next parent : Id12) (f : SnapshotFile) (h : List Event) → WasWalked by.number s.base next head above start h → next ≢ s.base → IsRead next f h → f.parent ≡ Some parent → WasWalked by.number s.base parent head (f ∷ above) start h
  walked-next above next parent f h w apart r e = record {
    rises = rises-next parent head f above e (subst (λ (id : Id12). Rises id above head) (sym r.id_is) w.rises);
    apart = All-cons (λ (g : SnapshotFile). g.id ≢ s.base) f above (λ same. apart (sym r.id_is ∙ same)) w.apart;
    read = All-cons (λ (g : SnapshotFile). WasReadAs by.number g.id g start h) f above (own-read next f h r) w.read;
  }

  abbrev Goes_on : (left : ℕ) (above : List SnapshotFile) → Type 0
  Goes_on left above = (f : SnapshotFile) (parent : Id12) (h : List Event) → Goes (f ∷ above) parent left h → Leads Told by (walk_down s.base head left (f ∷ above) parent) h

  parent-leads : (left : ℕ) (above : List SnapshotFile) (next : Id12) (f : SnapshotFile) (h : List Event) → Goes above next (suc left) h → IsRead next f h → Goes_on left above → (o : Option Id12) → f.parent ≡ o → Leads Told by (behind s.base head left above f o) h
  unfolding Leads
  parent-leads left above next f h g r here None e = record {
    lowest = f;
    seen = above;
    came = subst (λ (id : Id12). CameTo by.number s head id above start h) (sym r.id_is) (came above next (suc left) h g);
    read = own-read next f h r;
    alone = e;
  }
  parent-leads left above next f h g r here (Some parent) e = by_base (same_id12 parent s.base) refl
    where
      by_base : (b : Bool) → same_id12 parent s.base ≡ b → Leads Told by (cond b (Done (Ok (from f above))) (walk_down s.base head left (f ∷ above) parent)) h
      by_base true t = record {
        ref = g.ref;
        walked = walked-next above next s.base f h g.walked g.apart r (e ∙ ap (λ (id : Id12). Some id) (same_id12-true parent s.base t));
        gets = g.gets;
        top = top-next head next f above h g.walked.rises g.top r.head_is;
      }
      by_base false t = here f parent h (record {
        ref = g.ref;
        walked = walked-next above next parent f h g.walked g.apart r e;
        apart = same_id12-false parent s.base t;
        gets = g.gets;
        count = let c = g.count in omega (arith, c);
        top = top-next head next f above h g.walked.rises g.top r.head_is;
      })

  bytes-lead : (left : ℕ) (above : List SnapshotFile) (next : Id12) (bytes : List ℕ) (put : ℕ) (h : List Event) → Goes above next (suc left) h → WasGot by.number (Snapshot next) bytes put start h → Had h (Snapshot next) bytes put → Goes_on left above
      → (r : Result SnapshotFile Bad) → read_snapshot next bytes ≡ r → Leads Told by (on_answer (λ (f : SnapshotFile). behind s.base head left above f f.parent) (at_key (Snapshot next) r)) h
  unfolding Leads
  bytes-lead left above next bytes put h g got had here (Ok f) e =
      parent-leads left above next f h g (record { read = record { bytes = bytes; version = put; got = got; read = ap result_ok e }; id_is = law.own next bytes f (ap result_ok e); head_is = got-head law next bytes put f h had e }) here f.parent refl
  bytes-lead left above next bytes put h g got had here (Err bad) e = record { head = head; next = next; seen = above; came = came above next (suc left) h g; cause = record { key_is = refl; bytes = bytes; version = put; got = got; unread = e } }

  get-leads : (left : ℕ) (above : List SnapshotFile) (next : Id12) (reply : Reply) (old new : List Event) → Goes above next (suc left) old → Goes_on left above → Makes by (Get (Snapshot next)) reply old new
      → Leads Told by (on_answer (λ (f : SnapshotFile). behind s.base head left above f f.parent) (snapshot_told next reply)) new
  unfolding Leads
  get-leads left above next reply old new g here m =
      got-cases by old new (λ r. Leads Told by (on_answer (λ (f : SnapshotFile). behind s.base head left above f f.parent) (snapshot_told next r)) new) (Snapshot next)
      (λ bytes put now n.
      bytes-lead left above next bytes put.0 new (goes-get above next (suc left) (Got (Found bytes put now)) old new n g) (got-made by start (Snapshot next) bytes put now old new n g.gets) (get-had by (Snapshot next) bytes put now old new n) here (read_snapshot next bytes) refl)
      (λ now n. record { head = head; next = next; seen = above; came = came above next (suc left) new (goes-get above next (suc left) (Got (Absent now)) old new n g); key_is = refl; absent = absent-made by start (Snapshot next) now old new n g.gets })
      (λ done n. failed-made by start (GetsOf (IsOfRebase s)) (Get (Snapshot next)) done old new (Snapshot next, inr (inl (next, refl)), refl) n g.gets)
      reply m

  go-leads : (left : ℕ) (above : List SnapshotFile) (next : Id12) (h : List Event) → Goes above next left h → Leads Told by (walk_down s.base head left above next) h
  unfolding Leads walk_down
  go-leads zero above next h g = record { head = head; next = next; seen = above; came = came above next zero h g; many = let c = g.count in omega (arith, c) }
  go-leads (suc left) above next h g = λ reply new m. get-leads left above next reply h new g (λ f parent k j. go-leads left (f ∷ above) parent k j) m

  pub walk-leads : (h : List Event) → WasRef by.number (Branch (branch_of s)) version head start h → MadeGets by.number start h → head ≢ s.base → Leads Told by (walk_down s.base head most_snapshots [] head) h
  walk-leads h ref gets apart = go-leads most_snapshots [] head h (record {
    ref = ref;
    walked = record { rises = rises-none head; apart = All-nil (λ (g : SnapshotFile). g.id ≢ s.base); read = All-nil (λ (g : SnapshotFile). WasReadAs by.number g.id g start h) };
    apart = apart;
    gets = gets;
    count = refl;
    top = tt;
  })
