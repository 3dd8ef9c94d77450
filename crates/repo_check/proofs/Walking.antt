-- A walk along parents.
use Rattle.std.proofs.Common.{◌≡◌, ◌⊎◌, inl, inr, ℕ, zero, suc, ◌+◌, ◌≤◌, Bool, true, false, cond, List, [], ◌∷◌, ◌++◌, map, length, refl, sym, ◌∙◌, ap, subst, arith, append_assoc, append-nil}
use Rattle.std.specs.Prelude.{Option, Some, None, Result, Ok, Err, Contains}
use Rattle.std.proofs.lemmas.List.Elements.{Contains-push}
use Rattle.ice_ids.specs.declared.Id12.{Id12}
use Rattle.ice_ids.specs.Text.{same_id12, initial_id}
use Rattle.ice_ids.specs.Sets.{has_object, with_object}
use Rattle.snapshot_file.specs.declared.snapshot.SnapshotFile.{SnapshotFile}
use Rattle.object_store.specs.declared.keys.Key.TheVariants.{Snapshot, Txn}
use Rattle.object_store.specs.declared.keys.Part.{Part as Part_of_store}
use Rattle.object_store.specs.declared.events.Op.TheVariants.{Get}
use Rattle.object_store.specs.declared.events.Got.{Got}
use Rattle.object_store.specs.declared.events.Reply.TheVariants.{Got as Is_got}
use Rattle.check_reports.specs.declared.faults.FaultKind.{FaultKind}
use Rattle.check_reports.specs.declared.faults.FaultKind.TheVariants.{Ring}
use Rattle.store_api.specs.declared.machines.Refusal.TheVariants.{TooDeep}
use Rattle.store_api.specs.Plays.{Or}
use Rattle.repo_read.specs.Chains.{most_snapshots}
use Rattle.intact.specs.declared.visits.FileVisit.{FileVisit}
use Rattle.intact.specs.declared.visits.PartVisit.{PartVisit}
use Rattle.intact.specs.Rows.{files_of}
use Rattle.intact.specs.Told.{found_snapshot, found_log}
use Rattle.intact.specs.Visits.{Visit, Refs, Snap, Log, File, Part, leading, or_nowhere, behind_snapshot, its_log, its_files, its_parent}
use Rattle.intact.specs.Intact.{Made, WasAnswered, WasVisited, HasParent, IsAbove}
use Rattle.intact.specs.Intact as intact
use Rattle.repo_check.specs.Works.{Work, meet_snapshot, tell}
use Rattle.repo_check.specs.Plays.{Answer, ends_with, starved, asks, on_got, told_log, get_files, after_snapshot, meets, onward, read_on, walk}
use Rattle.repo_check.specs.Findings.{Finding, Makes, Comes_back, made_of, Deed, deed_of, fault_by}
use Rattle.repo_check.specs.Exact.{snapshot_gets, IsLine}
use Rattle.repo_check.proofs.Sets.{Has, kept-with, has-with, only-with}
use Rattle.repo_check.proofs.Made.{gets-more, Grows, grows-more, told-here, made-here, made-cases, parent-grows, above-grows, above-then}
use Rattle.ice_ids.proofs.Elements.{first-is}
use Rattle.repo_check.proofs.Settling.{NoParent, Settled, Extends, settled-grows}
use Rattle.repo_check.proofs.Settling as settling
use Rattle.repo_check.proofs.Keeping.{Keeps, MayMake, Sets, keeps-skip, keeps-made, keeps-back, reports-now, sets-snapshot}
use Rattle.repo_check.proofs.Going.{Goes, Further, Follows, differ, extends-same, extends-then, extends-made, extends-back, starves-now, goes-get, goes-log, goes-files}

-- ---- within a walk whose next snapshot is this one, if there is one
abbrev pub Ending : List Finding → List Made → Option Id12 → Type 0
Ending g n None = Unit {0}
Ending g n (Some id) = Settled g n id

pub record InWalk (f : List Finding) (m : List Made) (met walked : List Id12) (parent : Option Id12) : Type 0 where
  pub others : (x : Id12) → Has met x → Has walked x ⊎ Settled f m x
  pub above : (x p : Id12) → Has walked x → parent ≡ Some p → IsAbove m x p
  pub settles : (g : List Finding) (n : List Made) → Extends f m g n → Ending g n parent → (x : Id12) → Has walked x → Settled g n x
  pub in_met : (x : Id12) → Has walked x → Has met x

pub inwalk-grows : (f g : List Finding) (m n : List Made) (met walked : List Id12) (parent : Option Id12) → Extends f m g n → InWalk f m met walked parent → InWalk g n met walked parent
inwalk-grows f g m n met walked parent e i = record {
  others = λ x h. elim (i.others x h) [ inl a ↦ inl a | inr s ↦ inr (settled-grows f g m n x e s) ];
  above = λ x p h is. above-grows m n x p e.grows (i.above x p h is);
  settles = λ h o y end x a. i.settles h o (extends-then f g h m n o e y) end x a;
  in_met = i.in_met;
}

-- where it ends so, all that was met is settled
pub walk-ends : (f g : List Finding) (m n : List Made) (met walked : List Id12) (parent : Option Id12) → InWalk f m met walked parent → Extends f m g n → Ending g n parent → (x : Id12) → Has met x → Settled g n x
walk-ends f g m n met walked parent i e end x h = elim (i.others x h) [ inl a ↦ i.settles g n e end x a | inr s ↦ settled-grows f g m n x e s ]

abbrev pub AllSettled : List Finding → List Made → List Id12 → Type 0
AllSettled f m met = (x : Id12) → Has met x → Settled f m x

-- what follows a walk goes
abbrev pub WalkFollows : List Visit → (Work → Answer) → Type 0
WalkFollows pending next = (f : List Finding) (m : List Made) (d : List Deed) (w : Work) → Keeps f m d w pending → AllSettled f m w.met → Goes d (next w)

-- ---- a snapshot is got
module _ (f : List Finding) (m : List Made) (met walked : List Id12) (id : Id12) (i : InWalk f m met walked (Some id)) (got : Got) where
  abbrev own : Made
  own = record { visit = Snap id; reply = Is_got got }

  -- with a fault
  pub faulty-settled : (kind : FaultKind) → found_snapshot id got ≡ Err kind → AllSettled (f ++ Makes own ∷ []) (m ++ own ∷ []) (with_object met id)
  faulty-settled kind e x h =
      let here : Settled (f ++ Makes own ∷ []) (m ++ own ∷ []) id = settling.stop got (told-here m own) (λ s p a b. unmade s (sym e ∙ a)) in
      elim (only-with met id x h) [
        | inl a ↦ walk-ends f (f ++ Makes own ∷ []) m (m ++ own ∷ []) met walked (Some id) i (extends-made f m own) here x a
        | inr is ↦ subst (Settled (f ++ Makes own ∷ []) (m ++ own ∷ [])) is here
      ]
    where
      unmade : (s : SnapshotFile) → ◌≡◌ {A = Result SnapshotFile FaultKind} (Err kind) (Ok s) → ⊥
      unmade s e = cc

  -- ... or with its parent
  pub next-walk : (s : SnapshotFile) → found_snapshot id got ≡ Ok s → InWalk (f ++ Makes own ∷ []) (m ++ own ∷ []) (with_object met id) (with_object walked id) s.parent
  next-walk s e = record {
    others = λ x h. elim (only-with met id x h) [
      | inl a ↦ elim (i.others x a) [ inl b ↦ inl (kept-with walked id x b) | inr c ↦ inr (settled-grows f g m n x (extends-made f m own) c) ]
      | inr is ↦ inl (subst (Has (with_object walked id)) is (has-with walked id))
    ];
    above = λ x p h is. elim (only-with walked id x h) [
      | inl a ↦ above-then n x id p (above-grows m n x id (grows-more m own) (i.above x id a refl)) (parent_of p is)
      | inr same ↦ subst (λ (y : Id12). IsAbove n y p) same (intact.next (parent_of p is))
    ];
    settles = λ h o y end x a.
        let here : Settled h o id = settle s.parent refl h o y end in
        elim (only-with walked id x a) [
          | inl b ↦ i.settles h o (extends-then f g h m n o (extends-made f m own) y) here x b
          | inr same ↦ subst (Settled h o) same here
        ];
    in_met = λ x h. elim (only-with walked id x h) [ inl a ↦ kept-with met id x (i.in_met x a) | inr same ↦ subst (Has (with_object met id)) same (has-with met id) ];
  }
    where
      g : List Finding
      g = f ++ Makes (record { visit = Snap id; reply = Is_got got }) ∷ []

      n : List Made
      n = m ++ record { visit = Snap id; reply = Is_got got } ∷ []

      parent_of : (p : Id12) → s.parent ≡ Some p → HasParent n id p
      parent_of p is = record { got = got; answered = told-here m (record { visit = Snap id; reply = Is_got got }); file = s; read = e; is = is }

      same_file : (t : SnapshotFile) → found_snapshot id got ≡ Ok t → s ≡ t
      same_file t a = let both = sym e ∙ a in cc

      no-some : (p : Id12) → ◌≡◌ {A = Option Id12} None (Some p) → ⊥
      no-some p is = cc

      settle : (parent : Option Id12) → s.parent ≡ parent → (h : List Finding) (o : List Made) → Extends g n h o → Ending h o parent → Settled h o id
      settle None is h o y end = settling.stop got (y.grows (Snap id) (Is_got got) (told-here m (record { visit = Snap id; reply = Is_got got }))) (λ t p a b. no-some p (sym is ∙ (ap (λ (u : SnapshotFile). u.parent) (same_file t a) ∙ b)))
      settle (Some p) is h o y end = settling.down (record { got = got; answered = y.grows (Snap id) (Is_got got) (told-here m (record { visit = Snap id; reply = Is_got got })); file = s; read = e; is = is }) end

snap-may : (m : List Made) (id : Id12) (got : Got) → (WasVisited m (Snap id) → ⊥) → MayMake m (Snap id) (Is_got got)
snap-may m id got unmade = record { new = λ o h. unmade h; log = λ x e. absurd (other x e); list = λ part e. absurd (another part e) }
  where
    other : (x : Id12) → Snap id ≡ Log x → ⊥
    other x e = cc

    another : (part : Part_of_store) → Snap id ≡ Refs part → ⊥
    another part e = cc

-- ---- the line of a walk
line-grows : (f g : List Finding) (m n : List Made) (below : Id12) (ids : List Id12) → Extends f m g n → IsLine m below ids → IsLine n below ids
line-grows f g m n below [] e l = tt
line-grows f g m n below (id ∷ ids) e l = (parent-grows m n id below e.grows l.0, line-grows f g m n id ids e l.1)

-- ---- the walk
module _ (pending : List Visit) (next : Work → Answer) (ends : WalkFollows pending next) where
  -- from the snapshot that comes next, of which so many may be got yet
  pub record Stands (left : ℕ) (id : Id12) (f : List Finding) (m : List Made) (d : List Deed) (w : Work) : Type 0 where
    pub keeps : Keeps f m d w (Snap id ∷ pending)
    pub inwalk : InWalk f m w.met w.walk (Some id)
    pub count : ℕ
    pub fuel : left + count ≡ most_snapshots
    pub few : count ≤ snapshot_gets m
    pub line : List Id12
    pub long : length line ≡ count
    pub read : IsLine m id line

  abbrev WalkGoes : ℕ → Type 0
  WalkGoes left = (id : Id12) (f : List Finding) (m : List Made) (d : List Deed) (w : Work) → Stands left id f m d w → Goes d (walk left next id w)

  -- a snapshot that was met, by this walk or by an earlier one
  met-goes : (left : ℕ) (id : Id12) (f : List Finding) (m : List Made) (d : List Deed) (w : Work) (fresh : Answer) → Stands left id f m d w → (has_object w.walk id ≡ false → has_object w.met id ≡ false → Goes d fresh) → Goes d (meets id w next fresh)
  unfolding Goes
  met-goes left id f m d w fresh s goes = ring (has_object w.walk id) refl
    where
      back : has_object w.walk id ≡ true → Goes d (next (tell (Snapshot id) Ring w))
      back e =
          let k = keeps-skip f m d w (Snap id) pending (s.keeps.sets.snaps_in id (s.inwalk.in_met id e)) s.keeps in
          let g = f ++ Comes_back id ∷ [] in
          ends g m d (tell (Snapshot id) Ring w) (keeps-back f m d w (tell (Snapshot id) Ring w) pending id k (s.inwalk.above id id e refl) k.sets refl)
          (walk-ends f g m m w.met w.walk (Some id) s.inwalk (extends-back f m id) (settling.back (Contains-push f (Comes_back id))))

      known : has_object w.walk id ≡ false → has_object w.met id ≡ true → Goes d (next w)
      known n e =
          ends f m d w (keeps-skip f m d w (Snap id) pending (s.keeps.sets.snaps_in id e) s.keeps)
          (walk-ends f f m m w.met w.walk (Some id) s.inwalk (extends-same f m) (elim (s.inwalk.others id e) [ inl a ↦ absurd (differ (has_object w.walk id) n a) | inr b ↦ b ]))

      met : has_object w.walk id ≡ false → (b : Bool) → has_object w.met id ≡ b → Goes d (cond b (next w) fresh)
      met n true e = known n e
      met n false e = goes n e

      ring : (b : Bool) → has_object w.walk id ≡ b → Goes d (cond b (Or (next (tell (Snapshot id) Ring w)) (starved w)) (cond (has_object w.met id) (next w) fresh))
      ring true e = (back e, starves-now f m d w (Snap id ∷ pending) s.keeps)
      ring false e = met e (has_object w.met id) refl

  -- behind the get of one that wasn't met
  module _ (left : ℕ) (again : WalkGoes left) (id : Id12) (f : List Finding) (m : List Made) (d : List Deed) (w : Work) (s : Stands (suc left) id f m d w) (unmade : WasVisited m (Snap id) → ⊥) (got : Got) where
    abbrev one : Made
    one = record { visit = Snap id; reply = Is_got got }

    abbrev g : List Finding
    g = f ++ Makes one ∷ []

    abbrev n : List Made
    n = m ++ one ∷ []

    abbrev e1 : List Deed
    e1 = d ++ record { op = Get (Snapshot id); reply = Is_got got } ∷ []

    kept : (v : Work) → Sets n v.met v.files v.parts v.objects → (r : Result SnapshotFile FaultKind) → found_snapshot id got ≡ r → v.faults ≡ fault_by (Some (Snapshot id)) (leading (behind_snapshot id) r) w.faults → Keeps g n e1 v (or_nowhere (leading (behind_snapshot id) r) ++ pending)
    kept v sets r e faults =
        subst (λ (x : Result SnapshotFile FaultKind). Keeps g n e1 v (or_nowhere (leading (behind_snapshot id) x) ++ pending)) e
        (keeps-made f m d w v (Snap id) pending (Is_got got) s.keeps (snap-may m id got unmade) sets (faults ∙ sym (ap (λ (x : Result SnapshotFile FaultKind). fault_by (Some (Snapshot id)) (leading (behind_snapshot id) x) w.faults) e)))

    same_sets : Sets n (with_object w.met id) w.files w.parts w.objects
    same_sets = sets-snapshot m w.met w.files w.parts w.objects s.keeps.sets one id refl

    -- on to the parent
    parent-goes : (h : List Finding) (o : List Made) (e : List Deed) (v : Work) (parent : Option Id12) → ((p : Id12) → parent ≡ Some p → HasParent n id p) → Extends g n h o → snapshot_gets o ≡ snapshot_gets n → InWalk h o v.met v.walk parent → Keeps h o e v (its_parent parent ++ pending) → Goes e (onward (walk left next) parent v next)
    parent-goes h o e v None named x c i k = ends h o e v k (walk-ends h h o o v.met v.walk None i (extends-same h o) tt)
    parent-goes h o e v (Some p) named x c i k =
        let more = gets-more m one in
        let fuel = s.fuel in
        let few = s.few in
        let long = s.long in
        let far : Extends f m h o = extends-then f g h m n o (extends-made f m one) x in
        let here : HasParent o id p = parent-grows n o id p x.grows (named p refl) in
        let line : IsLine o p (id ∷ s.line) = (here, line-grows f h m o id s.line far s.read) in
        again p h o e v (record { keeps = k; inwalk = i; count = s.count + 1; fuel = omega (arith, fuel); few = omega (arith, more, few, c); line = id ∷ s.line; long = omega (arith, long); read = line })

    -- its log, its manifests, its parent
    read-goes : (file : SnapshotFile) → found_snapshot id got ≡ Ok file → Goes e1 (read_on (walk left next) id file (meet_snapshot id w) next)
    read-goes file e =
        let v = meet_snapshot id w in
        let k = kept v same_sets (Ok file) e refl in
        let i = next-walk f m w.met w.walk id s.inwalk got file e in
        let here : WasVisited n (Snap id) = made-here m one (Snap id) refl in
        let named : (p : Id12) → file.parent ≡ Some p → HasParent n id p = λ p is. record { got = got; answered = told-here m one; file = file; read = e; is = is } in
        let regroup : behind_snapshot id file ++ pending ≡ its_log id ++ (its_files file ++ (its_parent file.parent ++ pending)) =
        append_assoc (its_log id) (its_files file ++ its_parent file.parent) pending ∙ ap (λ (l : List Visit). its_log id ++ l) (append_assoc (its_files file) (its_parent file.parent) pending) in
        goes-log (its_files file ++ (its_parent file.parent ++ pending)) (λ u. get_files (files_of file.nodes) u (λ t. onward (walk left next) file.parent t next)) id g n e1 v
        (λ h o e u far l.
        goes-files (its_parent file.parent ++ pending) (λ t. onward (walk left next) file.parent t next) (files_of file.nodes) h o e u l
        (λ h2 o2 e2 t far2 l2. parent-goes h2 o2 e2 t file.parent named (extends-then g h h2 n o o2 far.extends far2.extends) (far2.gets ∙ far.gets)
        (subst (λ (x : List Id12). InWalk h2 o2 t.met x file.parent) (sym (far2.walk ∙ far.walk))
        (subst (λ (x : List Id12). InWalk h2 o2 x (with_object w.walk id) file.parent) (sym (far2.met ∙ far.met))
        (inwalk-grows g h2 n o2 (with_object w.met id) (with_object w.walk id) file.parent (extends-then g h h2 n o o2 far.extends far2.extends) i)))
        l2))
        here (no-log here) (same_id12 id initial_id) (subst (λ (l : List Visit). Keeps g n e1 v l) regroup k)
      where
        not-same : Snap id ≡ Log id → ⊥
        not-same e = cc

        no-log : WasVisited n (Snap id) → WasVisited n (Log id) → ⊥
        no-log here h = elim (made-cases m one (Log id) h) [ inl a ↦ unmade (s.keeps.core.logs id a) | inr e ↦ not-same e ]

    pub snapshot-goes : (r : Result SnapshotFile FaultKind) → found_snapshot id got ≡ r → Goes e1 (after_snapshot (walk left next) id w next r)
    snapshot-goes (Ok file) e = read-goes file e
    snapshot-goes (Err kind) e =
        let v = tell (Snapshot id) kind (meet_snapshot id w) in
        ends g n e1 v (kept v same_sets (Err kind) e refl) (faulty-settled f m w.met w.walk id s.inwalk got kind e)

  -- as many were got as may be
  deep-goes : (id : Id12) (f : List Finding) (m : List Made) (d : List Deed) (w : Work) → Stands zero id f m d w → Goes d (ends_with w (Err TooDeep))
  unfolding Goes
  deep-goes id f m d w s =
      let fuel = s.fuel in
      let few = s.few in
      let got : most_snapshots ≤ snapshot_gets m = omega (arith, fuel, few) in
      let long = s.long in
      reports-now f m d w (Snap id ∷ pending) (Err TooDeep) s.keeps (
        refl,
        record {
          many = subst (λ (l : List Made). most_snapshots ≤ snapshot_gets l) (sym s.keeps.made_is) got;
          next = id;
          line = s.line;
          long = omega (arith, fuel, long);
          read = subst (λ (l : List Made). IsLine l id s.line) (sym s.keeps.made_is) s.read;
        },
      )

  pub goes-walk : (left : ℕ) → WalkGoes left
  unfolding walk
  goes-walk zero id f m d w s = met-goes zero id f m d w (ends_with w (Err TooDeep)) s (λ a b. deep-goes id f m d w s)
  goes-walk (suc left) id f m d w s = met-goes (suc left) id f m d w (asks (Get (Snapshot id)) w (on_got w (λ got. after_snapshot (walk left next) id w next (found_snapshot id got)))) s (fresh (goes-walk left))
    where
      fresh : WalkGoes left → has_object w.walk id ≡ false → has_object w.met id ≡ false → Goes d (asks (Get (Snapshot id)) w (on_got w (λ got. after_snapshot (walk left next) id w next (found_snapshot id got))))
      fresh again a b =
          goes-get f m d w (Snap id ∷ pending) s.keeps (Snapshot id) (λ got. after_snapshot (walk left next) id w next (found_snapshot id got))
          (λ got. snapshot-goes left again id f m d w s (λ h. differ (has_object w.met id) b (s.keeps.sets.snaps_all id h)) got (found_snapshot id got) refl)
