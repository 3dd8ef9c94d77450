-- What a check has found when all walks are at their ends.
use Rattle.std.proofs.Common.{◌≡◌, ◌⊎◌, inl, inr, ℕ, ◌+◌, Bool, true, false, cond, List, [], ◌∷◌, ◌++◌, length, refl, sym, ◌∙◌, ap, subst, arith}
use Rattle.std.specs.Prelude.{◌↔◌, Option, Some, None, Result, Ok, Err, Contains}
use Rattle.ice_ids.specs.declared.Id12.{Id12}
use Rattle.object_store.specs.declared.keys.Key.{Key}
use Rattle.object_store.specs.declared.keys.Key.TheVariants.{Snapshot, Manifest, Txn, Chunk, Branch, Tag, Tombstone, Lease}
use Rattle.object_store.specs.declared.keys.Part.{Part as Part_of_store}
use Rattle.object_store.specs.declared.keys.Part.TheVariants.{Branches, Tags}
use Rattle.object_store.specs.declared.events.Reply.{Reply}
use Rattle.object_store.specs.declared.events.Reply.TheVariants.{Got as Is_got}
use Rattle.check_reports.specs.declared.faults.FaultKind.{FaultKind}
use Rattle.check_reports.specs.declared.faults.FaultKind.TheVariants.{Ring}
use Rattle.check_reports.specs.declared.faults.CheckFault.{CheckFault}
use Rattle.check_reports.specs.declared.faults.Checked.{Checked}
use Rattle.store_api.specs.declared.machines.Refusal.{Refusal}
use Rattle.intact.specs.declared.visits.FileVisit.{FileVisit}
use Rattle.intact.specs.declared.visits.PartVisit.{PartVisit}
use Rattle.intact.specs.Visits.{Visit, Refs, Ref, Snap, Log, File, Part, told}
use Rattle.intact.specs.Intact.{Made, WasAnswered, WasVisited, IsFineBy, IsFine, Named, HasParent, IsAbove, IsIntact}
use Rattle.intact.specs.Intact as intact
use Rattle.repo_check.specs.Works.{Work, has_fault, and_fault, unless_told, with_fault, verdict_by, verdict}
use Rattle.repo_check.specs.Plays.{ends_with}
use Rattle.repo_check.specs.Findings.{Finding, Makes, Comes_back, made_of, Deed, key_for, fault_by, with_finding, faults_from, faults_of}
use Rattle.repo_check.specs.Exact.{AreFindings, AreAll, IsRinged, Counts, IsSnapshotNamed, IsObjectNamed, AllIsIntact, IsUnsound, EndsSo}
use Rattle.repo_check.proofs.Sets.{Has, as-elements, rises-distinct}
use Rattle.ice_ids.proofs.Elements.{first-is, later-is, first-or-later, none-in}
use Rattle.repo_check.proofs.Settling.{Settled, settled-ring}
use Rattle.repo_check.proofs.Keeping.{Keeps, IsObjectMade, reports-now}
use Rattle.repo_check.proofs.Going.{Goes}
use Rattle.repo_check.proofs.Walking.{AllSettled}

-- ---- no faults
not-empty : (faults : List CheckFault) (x : CheckFault) → faults ++ x ∷ [] ≡ [] → ⊥
not-empty [] x e = cc
not-empty (y ∷ faults) x e = cc

unless-not-empty : (key : Key) (kind : FaultKind) (faults : List CheckFault) → unless_told key kind faults ≡ [] → ⊥
unless-not-empty key kind [] e = cc
unless-not-empty key kind (x ∷ faults) e = go (has_fault (x ∷ faults) key) e
  where
    go : (b : Bool) → cond b (x ∷ faults) (and_fault key kind (x ∷ faults)) ≡ [] → ⊥
    go true e = cc
    go false e = cc

fault-not-empty : (key : Key) (kind : FaultKind) (faults : List CheckFault) → with_fault key kind faults ≡ [] → ⊥
fault-not-empty (Manifest id) kind faults e = unless-not-empty (Manifest id) kind faults e
fault-not-empty (Chunk id) kind faults e = unless-not-empty (Chunk id) kind faults e
fault-not-empty (Snapshot id) kind faults e = not-empty faults (record { key = Snapshot id; kind = kind }) e
fault-not-empty (Txn id) kind faults e = not-empty faults (record { key = Txn id; kind = kind }) e
fault-not-empty (Branch name) kind faults e = not-empty faults (record { key = Branch name; kind = kind }) e
fault-not-empty (Tag name) kind faults e = not-empty faults (record { key = Tag name; kind = kind }) e
fault-not-empty (Tombstone name) kind faults e = not-empty faults (record { key = Tombstone name; kind = kind }) e
fault-not-empty (Lease id) kind faults e = not-empty faults (record { key = Lease id; kind = kind }) e

-- nothing is wrong with what a finding is
abbrev IsClean : Finding → Type 0
IsClean (Makes one) = (key : Key) (kind : FaultKind) → key_for one.visit ≡ Some key → told one.visit one.reply ≡ Err kind → ⊥
IsClean (Comes_back id) = ⊥

one-clean : (x : Finding) (faults : List CheckFault) → with_finding x faults ≡ [] → (faults ≡ []) × IsClean x
one-clean (Comes_back id) faults e = absurd (fault-not-empty (Snapshot id) Ring faults e)
one-clean (Makes one) faults e = go (key_for one.visit) (told one.visit one.reply) refl refl e
  where
    go : (k : Option Key) (r : Result (List Visit) FaultKind) → key_for one.visit ≡ k → told one.visit one.reply ≡ r → fault_by k r faults ≡ [] → (faults ≡ []) × IsClean (Makes one)
    go (Some key) (Err kind) a b e = absurd (fault-not-empty key kind faults e)
    go (Some key) (Ok next) a b e = (e, λ other kind x y. no-err next kind (sym b ∙ y))
      where
        no-err : (next : List Visit) (kind : FaultKind) → ◌≡◌ {A = Result (List Visit) FaultKind} (Ok next) (Err kind) → ⊥
        no-err next kind e = cc
    go None r a b e = (e, λ key kind x y. no-key key (sym a ∙ x))
      where
        no-key : (key : Key) → ◌≡◌ {A = Option Key} None (Some key) → ⊥
        no-key key e = cc

clean : (f : List Finding) (faults : List CheckFault) → faults_from faults f ≡ [] → (faults ≡ []) × ((x : Finding) → Contains f x → IsClean x)
clean [] faults e = (e, λ x h. absurd (none-in x h))
clean (y ∷ f) faults e =
    let rest = clean f (with_finding y faults) e in
    let own = one-clean y faults rest.0 in
    (own.0, λ x h. elim (first-or-later y x f h) [ inl same ↦ subst IsClean same own.1 | inr later ↦ rest.1 x later ])

-- ---- an operation that was made is a finding
as-finding : (f : List Finding) (one : Made) → Contains (made_of f) one → Contains f (Makes one)
as-finding [] one h = absurd (none-in one h)
as-finding (Makes x ∷ f) one h = elim (first-or-later x one (made_of f) h) [
  | inl e ↦ subst (λ (y : Finding). Contains (Makes x ∷ f) y) (ap (λ (y : Made). Makes y) e) (first-is (Makes x) f)
  | inr l ↦ later-is (Makes x) (Makes one) f (as-finding f one l)
]
as-finding (Comes_back id ∷ f) one h = later-is (Comes_back id) (Makes one) f (as-finding f one h)

as-made : (f : List Finding) (one : Made) → Contains f (Makes one) → Contains (made_of f) one
as-made [] one h = absurd (none-in (Makes one) h)
as-made (Makes x ∷ f) one h = elim (first-or-later (Makes x) (Makes one) f h) [
  | inl e ↦ subst (λ (y : Made). Contains (x ∷ made_of f) y) (same e) (first-is x (made_of f))
  | inr l ↦ later-is x one (made_of f) (as-made f one l)
]
  where
    same : Makes x ≡ Makes one → x ≡ one
    same e = cc
as-made (Comes_back id ∷ f) one h = elim (first-or-later (Comes_back id) (Makes one) f h) [ inl e ↦ absurd (differs e) | inr l ↦ as-made f one l ]
  where
    differs : Comes_back id ≡ Makes one → ⊥
    differs e = cc

-- ---- findings with which nothing is wrong
fine-none : (one : Made) (faults : List CheckFault) → IsFineBy one.visit one.reply → with_finding (Makes one) faults ≡ faults
fine-none one faults fine = go (key_for one.visit) (told one.visit one.reply) fine.is
  where
    never : (kind : FaultKind) → ◌≡◌ {A = Result (List Visit) FaultKind} (Err kind) (Ok fine.next) → ⊥
    never kind e = cc

    go : (k : Option Key) (r : Result (List Visit) FaultKind) → r ≡ Ok fine.next → fault_by k r faults ≡ faults
    go (Some key) (Err kind) e = absurd (never kind e)
    go (Some key) (Ok next) e = refl
    go None r e = refl

abbrev IsFineFinding : Finding → Type 0
IsFineFinding (Makes one) = IsFineBy one.visit one.reply
IsFineFinding (Comes_back id) = ⊥

fine-all : (f : List Finding) (faults : List CheckFault) → ((x : Finding) → Contains f x → IsFineFinding x) → faults_from faults f ≡ faults
fine-all [] faults fine = refl
fine-all (Makes one ∷ f) faults fine = fine-all f (with_finding (Makes one) faults) (λ x h. fine x (later-is (Makes one) x f h)) ∙ fine-none one faults (fine (Makes one) (first-is (Makes one) f))
fine-all (Comes_back id ∷ f) faults fine = absurd (fine (Comes_back id) (first-is (Comes_back id) f))

-- ---- all of it, where nothing is left to be made
module _ (f : List Finding) (d : List Deed) (w : Work) (k : Keeps f (made_of f) d w []) (settled : AllSettled f (made_of f) w.met) where
  abbrev m : List Made
  m = made_of f

  or-none : (v : Visit) → WasVisited m v ⊎ Contains [] v → WasVisited m v
  or-none v (inl a) = a
  or-none v (inr b) = absurd (none-in v b)

  whole : (v : Visit) → Named m v → WasVisited m v
  whole v intact.branches = or-none (Refs Branches) k.core.branches
  whole v intact.tags = or-none (Refs Tags) k.core.tags
  whole v (intact.behind h t c) = or-none v (k.core.owes _ v _ t c)

  ringed : (id : Id12) → Named m (Snap id) → IsAbove m id id → IsRinged f id
  ringed id h a =
      let r = settled-ring f m id k.core.once (settled id (k.sets.snaps_all id (whole (Snap id) h))) a in
      record { ring = r.0; told = r.1; below = r.2 }

  all : AreAll f
  all = record { whole = whole; ringed = ringed }

  -- a reply with which nothing is wrong
  fine-by : ((x : Finding) → Contains f x → IsClean x) → (v : Visit) (r : Reply) → WasAnswered m v r → IsFineBy v r
  fine-by cleans v r t = go v refl (told v r) refl
    where
      cleaned : (key : Key) (kind : FaultKind) → key_for v ≡ Some key → told v r ≡ Err kind → ⊥
      cleaned key kind a b =
          cleans (Makes t.one) (as-finding f t.one t.among) key kind (ap key_for t.visit_is ∙ a)
          (ap (λ (x : Visit). told x t.one.reply) t.visit_is ∙ (ap (told v) t.reply_is ∙ b))

      by : (key : Key) → key_for v ≡ Some key → (x : Result (List Visit) FaultKind) → told v r ≡ x → IsFineBy v r
      by key a (Ok next) e = record { next = next; is = e }
      by key a (Err kind) e = absurd (cleaned key kind a e)

      go : (u : Visit) → v ≡ u → (x : Result (List Visit) FaultKind) → told v r ≡ x → IsFineBy v r
      go (Refs part) e x is = subst (λ (y : Visit). IsFineBy y r) (sym e) (k.core.lists part r (subst (λ (y : Visit). WasAnswered m y r) e t))
      go (Ref key) e x is = by key (ap key_for e) x is
      go (Snap id) e x is = by (Snapshot id) (ap key_for e) x is
      go (Log id) e x is = by (Txn id) (ap key_for e) x is
      go (File y) e x is = by (Manifest y.manifest) (ap key_for e) x is
      go (Part y) e x is = by (Chunk y.object) (ap key_for e) x is

  -- ---- without a fault
  sound-intact : faults_of f ≡ [] → IsIntact m
  sound-intact e =
      let cleans = clean f [] e in
      record {
        each = λ v h. record { was = whole v h; each = λ r t. fine-by cleans.1 v r t };
        onward = λ id h a. let r = ringed id h a in cleans.1 (Comes_back r.ring) r.told;
      }

  count-snapshots : Counts (IsSnapshotNamed m) (length w.met)
  count-snapshots = record {
    ids = w.met;
    once = rises-distinct w.met k.sets.met_order;
    are = λ id. (
      λ c. k.core.named (Snap id) (k.sets.snaps_in id ((as-elements w.met id).1 c)),
      λ h. (as-elements w.met id).0 (k.sets.snaps_all id (whole (Snap id) h)),
    );
    count = refl;
  }

  to-object : (id : Id12) → IsObjectMade m id → IsObjectNamed m id
  to-object id o = record { part = o.part; named = k.core.named (Part o.part) o.made; object_is = o.object_is }

  count-objects : Counts (IsObjectNamed m) (length w.objects)
  count-objects = record {
    ids = w.objects;
    once = rises-distinct w.objects k.sets.objects_order;
    are = λ id. (
      λ c. to-object id (k.sets.objects_in id ((as-elements w.objects id).1 c)),
      λ h. (as-elements w.objects id).0 (subst (Has w.objects) h.object_is (k.sets.objects_all h.part (whole (Part h.part) h.named))),
    );
    count = refl;
  }

  -- ---- with one
  first-parent : (a b : Id12) → IsAbove m a b → (p : Id12) × HasParent m a p
  first-parent a b (intact.next h) = (b, h)
  first-parent a b (intact.further {parent} h i) = (parent, h)

  broken : (x : CheckFault) (faults : List CheckFault) → faults_of f ≡ x ∷ faults → IsIntact m → ⊥
  broken x faults e i = never (sym (fine-all f [] fine) ∙ e)
    where
      never : ◌≡◌ {A = List CheckFault} [] (x ∷ faults) → ⊥
      never e = cc

      fine : (y : Finding) → Contains f y → IsFineFinding y
      fine (Makes one) h =
          let t : WasAnswered m one.visit one.reply = record { one = one; among = as-made f one h; visit_is = refl; reply_is = refl } in
          (i.each one.visit (k.core.named one.visit (record { reply = one.reply; told = t }))).each one.reply t
      fine (Comes_back id) h =
          let above = k.rings id h in
          let p = (first-parent id id above).1 in
          i.onward id (k.core.named (Snap id) (record { reply = Is_got p.got; told = p.answered })) above

  by-verdict : (faults : List CheckFault) → w.faults ≡ faults → EndsSo f [] (verdict_by (length w.met) (length w.objects) faults)
  by-verdict [] e = (refl, record { all = all; intact = sound-intact (sym k.faults ∙ e); snapshots = count-snapshots; chunks = count-objects })
  by-verdict (x ∷ faults) e =
      let are : faults_of f ≡ x ∷ faults = sym k.faults ∙ e in
      (refl, record { all = all; broken = broken x faults are; count = ap length are })

pub goes-verdict : (f : List Finding) (m : List Made) (d : List Deed) (w : Work) → Keeps f m d w [] → AllSettled f m w.met → Goes d (ends_with w (verdict w))
unfolding Goes
goes-verdict f m d w k s =
    reports-now f m d w [] (verdict w) k
    (by-verdict f d w (subst (λ (l : List Made). Keeps f l d w []) (sym k.made_is) k) (subst (λ (l : List Made). AllSettled f l w.met) (sym k.made_is) s) w.faults refl)
