-- A check from its beginning to its end.
use Rattle.std.proofs.Common.{◌≡◌, ◌⊎◌, inl, inr, ℕ, suc, ◌+◌, Bool, true, false, List, [], ◌∷◌, ◌++◌, map, length, refl, sym, ◌∙◌, ap, subst, arith, append_assoc, append-nil}
use Rattle.std.specs.Prelude.{Option, Some, None, Result, Ok, Err, Contains}
use Rattle.std.proofs.lemmas.List.Elements.{Contains-append_left, Contains-append_right, Contains-append_cases}
use Rattle.ice_ids.specs.declared.Id12.{Id12}
use Rattle.object_store.specs.declared.keys.Key.{Key}
use Rattle.object_store.specs.declared.keys.Part.{Part as Part_of_store}
use Rattle.object_store.specs.declared.keys.Part.TheVariants.{Branches, Tags}
use Rattle.object_store.specs.declared.events.Listed.{Listed}
use Rattle.object_store.specs.declared.events.Op.TheVariants.{Get, List as ListPart}
use Rattle.object_store.specs.declared.events.Got.{Got}
use Rattle.object_store.specs.declared.events.Reply.{Reply}
use Rattle.object_store.specs.declared.events.Reply.TheVariants.{Got as Is_got, Listed as Is_listed}
use Rattle.check_reports.specs.declared.faults.FaultKind.{FaultKind}
use Rattle.repo_read.specs.Chains.{most_snapshots}
use Rattle.live_refs.specs.Live.{live}
use Rattle.intact.specs.declared.visits.FileVisit.{FileVisit}
use Rattle.intact.specs.declared.visits.PartVisit.{PartVisit}
use Rattle.intact.specs.Told.{found_ref}
use Rattle.intact.specs.Visits.{Visit, Refs, Ref, Snap, Log, File, Part, leading, or_nowhere, behind_ref}
use Rattle.intact.specs.Intact.{Made, WasAnswered, WasVisited, IsFineBy, Named}
use Rattle.intact.specs.Intact as intact
use Rattle.repo_check.specs.Works.{Work, no_work, new_walk, tell}
use Rattle.repo_check.specs.Plays.{Answer, asks, on_got, on_listed, told_ref, roots_with, get_refs, walks, list_refs, then_tags, check_play}
use Rattle.repo_check.specs.Findings.{Finding, Makes, made_of, Deed, fault_by}
use Rattle.repo_check.specs.Exact.{snapshot_gets}
use Rattle.repo_check.proofs.Sets.{Has}
use Rattle.ice_ids.proofs.Elements.{first-is, later-is, first-or-later, none-in}
use Rattle.repo_check.proofs.Settling.{Settled}
use Rattle.repo_check.proofs.Keeping.{Core, Keeps, MayMake, Sets, keeps-moves, keeps-made, sets-other}
use Rattle.repo_check.proofs.Going.{Goes, goes-get, goes-list}
use Rattle.repo_check.proofs.Walking.{AllSettled, InWalk, goes-walk}
use Rattle.repo_check.proofs.Ending.{goes-verdict}

-- ---- walks
abbrev pub root_visits : List Id12 → List Visit
root_visits ids = map (λ id. Snap id) ids

begun : (f : List Finding) (m : List Made) (met : List Id12) (id : Id12) → AllSettled f m met → InWalk f m met [] (Some id)
begun f m met id s = record {
  others = λ x h. inr (s x h);
  above = λ x p h e. absurd (nobody x h);
  settles = λ g n e end x h. absurd (nobody x h);
  in_met = λ x h. absurd (nobody x h);
}
  where
    nobody : (x : Id12) → Has [] x → ⊥
    nobody x h = cc

goes-walks : (roots : List Id12) (f : List Finding) (m : List Made) (d : List Deed) (w : Work) → Keeps f m d w (root_visits roots) → AllSettled f m w.met → Goes d (walks roots w)
unfolding walks
goes-walks [] f m d w k s = goes-verdict f m d w k s
goes-walks (id ∷ ids) f m d w k s =
    goes-walk (root_visits ids) (walks ids) (goes-walks ids) most_snapshots id f m d (new_walk w)
    (record { keeps = record { made_is = k.made_is; deeds_are = k.deeds_are; core = k.core; sets = k.sets; faults = k.faults; rings = k.rings }; inwalk = begun f m w.met id s; count = 0; fuel = omega arith; few = omega arith; line = []; long = refl; read = tt })

-- ---- refs
abbrev pub ref_visits : List Key → List Visit
ref_visits keys = map (λ key. Ref key) keys

ref-may : (m : List Made) (key : Key) (r : Reply) → MayMake m (Ref key) r
ref-may m key r = record { new = λ o h. absurd o; log = λ id e. absurd (other id e); list = λ part e. absurd (another part e) }
  where
    other : (id : Id12) → Ref key ≡ Log id → ⊥
    other id e = cc

    another : (part : Part_of_store) → Ref key ≡ Refs part → ⊥
    another part e = cc

pushed : (id : Id12) (roots : List Id12) → Contains (root_visits (roots ++ id ∷ [])) (Snap id)
pushed id [] = first-is (Snap id) []
pushed id (x ∷ roots) = later-is (Snap x) (Snap id) (root_visits (roots ++ id ∷ [])) (pushed id roots)

root-kept : (id : Id12) (v : Visit) (roots : List Id12) → Contains (root_visits roots) v → Contains (root_visits (roots ++ id ∷ [])) v
root-kept id v [] c = absurd (none-in v c)
root-kept id v (x ∷ roots) c = elim (first-or-later (Snap x) v (root_visits roots) c) [
  | inl e ↦ subst (λ (y : Visit). Contains (Snap x ∷ root_visits (roots ++ id ∷ [])) y) e (first-is (Snap x) (root_visits (roots ++ id ∷ [])))
  | inr l ↦ later-is (Snap x) v (root_visits (roots ++ id ∷ [])) (root-kept id v roots l)
]

older : (id : Id12) (v : Visit) (roots : List Id12) → Contains (root_visits (roots ++ id ∷ [])) v → (Snap id ≡ v) ⊎ Contains (root_visits roots) v
older id v [] c = elim (first-or-later (Snap id) v [] c) [ inl e ↦ inl e | inr n ↦ absurd (none-in v n) ]
older id v (x ∷ roots) c = elim (first-or-later (Snap x) v (root_visits (roots ++ id ∷ [])) c) [
  | inl e ↦ inr (subst (λ (y : Visit). Contains (Snap x ∷ root_visits roots) y) e (first-is (Snap x) (root_visits roots)))
  | inr l ↦ elim (older id v roots l) [ inl e ↦ inl e | inr o ↦ inr (later-is (Snap x) v (root_visits roots) o) ]
]

-- a snapshot that a ref names comes behind the others
roots-to : (id : Id12) (keys : List Key) (roots : List Id12) (q : List Visit) (v : Visit) → Contains (Snap id ∷ (ref_visits keys ++ (root_visits roots ++ q))) v → Contains (ref_visits keys ++ (root_visits (roots ++ id ∷ []) ++ q)) v
roots-to id keys roots q v h = elim (first-or-later (Snap id) v (ref_visits keys ++ (root_visits roots ++ q)) h) [
  | inl e ↦ Contains-append_right (ref_visits keys) (root_visits (roots ++ id ∷ []) ++ q) v (Contains-append_left (root_visits (roots ++ id ∷ [])) q v (subst (λ (x : Visit). Contains (root_visits (roots ++ id ∷ [])) x) e (pushed id roots)))
  | inr l ↦ elim (Contains-append_cases (ref_visits keys) (root_visits roots ++ q) v l) [
    | inl a ↦ Contains-append_left (ref_visits keys) (root_visits (roots ++ id ∷ []) ++ q) v a
    | inr b ↦ Contains-append_right (ref_visits keys) (root_visits (roots ++ id ∷ []) ++ q) v (elim (Contains-append_cases (root_visits roots) q v b) [
      | inl c ↦ Contains-append_left (root_visits (roots ++ id ∷ [])) q v (root-kept id v roots c)
      | inr c ↦ Contains-append_right (root_visits (roots ++ id ∷ [])) q v c
    ])
  ]
]

roots-from : (id : Id12) (keys : List Key) (roots : List Id12) (q : List Visit) (v : Visit) → Contains (ref_visits keys ++ (root_visits (roots ++ id ∷ []) ++ q)) v → Contains (Snap id ∷ (ref_visits keys ++ (root_visits roots ++ q))) v
roots-from id keys roots q v h = elim (Contains-append_cases (ref_visits keys) (root_visits (roots ++ id ∷ []) ++ q) v h) [
  | inl a ↦ later-is (Snap id) v (ref_visits keys ++ (root_visits roots ++ q)) (Contains-append_left (ref_visits keys) (root_visits roots ++ q) v a)
  | inr b ↦ elim (Contains-append_cases (root_visits (roots ++ id ∷ [])) q v b) [
    | inl c ↦ elim (older id v roots c) [
      | inl e ↦ subst (λ (x : Visit). Contains (Snap id ∷ (ref_visits keys ++ (root_visits roots ++ q))) x) e (first-is (Snap id) (ref_visits keys ++ (root_visits roots ++ q)))
      | inr o ↦ later-is (Snap id) v (ref_visits keys ++ (root_visits roots ++ q)) (Contains-append_right (ref_visits keys) (root_visits roots ++ q) v (Contains-append_left (root_visits roots) q v o))
    ]
    | inr c ↦ later-is (Snap id) v (ref_visits keys ++ (root_visits roots ++ q)) (Contains-append_right (ref_visits keys) (root_visits roots ++ q) v (Contains-append_right (root_visits roots) q v c))
  ]
]

module _ (q : List Visit) (next : List Id12 → Work → Answer) (follows : (roots : List Id12) (f : List Finding) (m : List Made) (d : List Deed) (w : Work) → Keeps f m d w (root_visits roots ++ q) → w.met ≡ [] → Goes d (next roots w)) where
  abbrev RefsGo : List Key → Type 0
  RefsGo keys = (roots : List Id12) (f : List Finding) (m : List Made) (d : List Deed) (w : Work) → Keeps f m d w (ref_visits keys ++ (root_visits roots ++ q)) → w.met ≡ [] → Goes d (get_refs keys roots w next)

  ref-seen : (key : Key) (keys : List Key) → RefsGo keys → (roots : List Id12) (f : List Finding) (m : List Made) (d : List Deed) (w : Work) → Keeps f m d w (Ref key ∷ (ref_visits keys ++ (root_visits roots ++ q))) → w.met ≡ []
      → (got : Got) (r : Result (Option Id12) FaultKind) → found_ref got ≡ r → Goes (d ++ record { op = Get key; reply = Is_got got } ∷ []) (get_refs keys (roots_with roots r) (told_ref key r w) next)
  ref-seen key keys again roots f m d w k bare got r e = go r e
    where
      rest : List Visit
      rest = ref_visits keys ++ (root_visits roots ++ q)

      same_sets : Sets (m ++ record { visit = Ref key; reply = Is_got got } ∷ []) w.met w.files w.parts w.objects
      same_sets = sets-other m w.met w.files w.parts w.objects k.sets (record { visit = Ref key; reply = Is_got got }) (λ x e. no-snap x e) (λ x e. no-file x e) (λ x e. no-part x e)
        where
          no-snap : (x : Id12) → Ref key ≡ Snap x → ⊥
          no-snap x e = cc

          no-file : (x : FileVisit) → Ref key ≡ File x → ⊥
          no-file x e = cc

          no-part : (x : PartVisit) → Ref key ≡ Part x → ⊥
          no-part x e = cc

      kept : (v : Work) → Sets (m ++ record { visit = Ref key; reply = Is_got got } ∷ []) v.met v.files v.parts v.objects → (r : Result (Option Id12) FaultKind) → found_ref got ≡ r → v.faults ≡ fault_by (Some key) (leading behind_ref r) w.faults
          → Keeps (f ++ Makes (record { visit = Ref key; reply = Is_got got }) ∷ []) (m ++ record { visit = Ref key; reply = Is_got got } ∷ []) (d ++ record { op = Get key; reply = Is_got got } ∷ []) v (or_nowhere (leading behind_ref r) ++ (ref_visits keys ++ (root_visits roots ++ q)))
      kept v sets r e faults =
          subst (λ (x : Result (Option Id12) FaultKind). Keeps (f ++ Makes (record { visit = Ref key; reply = Is_got got }) ∷ []) (m ++ record { visit = Ref key; reply = Is_got got } ∷ []) (d ++ record { op = Get key; reply = Is_got got } ∷ []) v (or_nowhere (leading behind_ref x) ++ (ref_visits keys ++ (root_visits roots ++ q)))) e
          (keeps-made f m d w v (Ref key) (ref_visits keys ++ (root_visits roots ++ q)) (Is_got got) k (ref-may m key (Is_got got)) sets (faults ∙ sym (ap (λ (x : Result (Option Id12) FaultKind). fault_by (Some key) (leading behind_ref x) w.faults) e)))

      go : (r : Result (Option Id12) FaultKind) → found_ref got ≡ r → Goes (d ++ record { op = Get key; reply = Is_got got } ∷ []) (get_refs keys (roots_with roots r) (told_ref key r w) next)
      go (Ok None) e =
          let one : Made = record { visit = Ref key; reply = Is_got got } in
          again roots (f ++ Makes one ∷ []) (m ++ one ∷ []) (d ++ record { op = Get key; reply = Is_got got } ∷ []) w (kept w same_sets (Ok None) e refl) bare
      go (Ok (Some id)) e =
          let one : Made = record { visit = Ref key; reply = Is_got got } in
          again (roots ++ id ∷ []) (f ++ Makes one ∷ []) (m ++ one ∷ []) (d ++ record { op = Get key; reply = Is_got got } ∷ []) w
          (keeps-moves (f ++ Makes one ∷ []) (m ++ one ∷ []) (d ++ record { op = Get key; reply = Is_got got } ∷ []) w (Snap id ∷ (ref_visits keys ++ (root_visits roots ++ q))) (ref_visits keys ++ (root_visits (roots ++ id ∷ []) ++ q)) (roots-to id keys roots q) (roots-from id keys roots q) (kept w same_sets (Ok (Some id)) e refl)) bare
      go (Err kind) e =
          let one : Made = record { visit = Ref key; reply = Is_got got } in
          again roots (f ++ Makes one ∷ []) (m ++ one ∷ []) (d ++ record { op = Get key; reply = Is_got got } ∷ []) (tell key kind w) (kept (tell key kind w) same_sets (Err kind) e refl) bare

  goes-refs : (keys : List Key) → RefsGo keys
  unfolding get_refs
  goes-refs [] roots f m d w k bare = follows roots f m d w k bare
  goes-refs (key ∷ keys) roots f m d w k bare =
      goes-get f m d w (Ref key ∷ (ref_visits keys ++ (root_visits roots ++ q))) k key (λ got. get_refs keys (roots_with roots (found_ref got)) (told_ref key (found_ref got) w) next)
      (λ got. ref-seen key keys (goes-refs keys) roots f m d w k bare got (found_ref got) refl)

  list-may : (m : List Made) (part : Part_of_store) (l : Listed) → MayMake m (Refs part) (Is_listed l)
  list-may m part l = record { new = λ o h. absurd o; log = λ id e. absurd (other id e); list = λ p e. record { next = ref_visits (live l.entries); is = refl } }
    where
      other : (id : Id12) → Refs part ≡ Log id → ⊥
      other id e = cc

  -- a listing, and its refs
  pub goes-part : (part : Part_of_store) (roots : List Id12) (f : List Finding) (m : List Made) (d : List Deed) (w : Work) → Keeps f m d w (Refs part ∷ (root_visits roots ++ q)) → w.met ≡ [] → Goes d (list_refs part roots w next)
  goes-part part roots f m d w k bare =
      goes-list f m d w (Refs part ∷ (root_visits roots ++ q)) k part (λ keys. get_refs keys roots w next)
      (λ l.
      let one : Made = record { visit = Refs part; reply = Is_listed l } in
      goes-refs (live l.entries) roots (f ++ Makes one ∷ []) (m ++ one ∷ []) (d ++ record { op = ListPart part; reply = Is_listed l } ∷ []) w
      (keeps-made f m d w w (Refs part) (root_visits roots ++ q) (Is_listed l) k (list-may m part l)
      (sets-other m w.met w.files w.parts w.objects k.sets one (λ x e. no-snap x e) (λ x e. no-file x e) (λ x e. no-part x e)) refl) bare)
    where
      no-snap : (x : Id12) → Refs part ≡ Snap x → ⊥
      no-snap x e = cc

      no-file : (x : FileVisit) → Refs part ≡ File x → ⊥
      no-file x e = cc

      no-part : (x : PartVisit) → Refs part ≡ Part x → ⊥
      no-part x e = cc

-- ---- all of it
none-settled : (f : List Finding) (m : List Made) (met : List Id12) → met ≡ [] → AllSettled f m met
none-settled f m met e x h = absurd (never (subst (λ (l : List Id12). Has l x) e h))
  where
    never : Has [] x → ⊥
    never h = cc

walks-follow : (roots : List Id12) (f : List Finding) (m : List Made) (d : List Deed) (w : Work) → Keeps f m d w (root_visits roots ++ []) → w.met ≡ [] → Goes d (walks roots w)
walks-follow roots f m d w k bare = goes-walks roots f m d w (subst (λ (l : List Visit). Keeps f m d w l) (append-nil (root_visits roots)) k) (none-settled f m w.met bare)

tags-first : (roots : List Id12) (v : Visit) → Contains (root_visits roots ++ Refs Tags ∷ []) v → Contains (Refs Tags ∷ (root_visits roots ++ [])) v
tags-first roots v h = elim (Contains-append_cases (root_visits roots) (Refs Tags ∷ []) v h) [
  | inl a ↦ later-is (Refs Tags) v (root_visits roots ++ []) (Contains-append_left (root_visits roots) [] v a)
  | inr b ↦ elim (first-or-later (Refs Tags) v [] b) [ inl e ↦ subst (λ (x : Visit). Contains (Refs Tags ∷ (root_visits roots ++ [])) x) e (first-is (Refs Tags) (root_visits roots ++ [])) | inr n ↦ absurd (none-in v n) ]
]

tags-last : (roots : List Id12) (v : Visit) → Contains (Refs Tags ∷ (root_visits roots ++ [])) v → Contains (root_visits roots ++ Refs Tags ∷ []) v
tags-last roots v h = elim (first-or-later (Refs Tags) v (root_visits roots ++ []) h) [
  | inl e ↦ Contains-append_right (root_visits roots) (Refs Tags ∷ []) v (subst (λ (x : Visit). Contains (Refs Tags ∷ []) x) e (first-is (Refs Tags) []))
  | inr l ↦ elim (Contains-append_cases (root_visits roots) [] v l) [ inl a ↦ Contains-append_left (root_visits roots) (Refs Tags ∷ []) v a | inr n ↦ absurd (none-in v n) ]
]

tags-follow : (roots : List Id12) (f : List Finding) (m : List Made) (d : List Deed) (w : Work) → Keeps f m d w (root_visits roots ++ Refs Tags ∷ []) → w.met ≡ [] → Goes d (then_tags roots w)
tags-follow roots f m d w k bare = goes-part [] walks walks-follow Tags roots f m d w (keeps-moves f m d w (root_visits roots ++ Refs Tags ∷ []) (Refs Tags ∷ (root_visits roots ++ [])) (tags-first roots) (tags-last roots) k) bare

nothing-told : {A : Type 0} (v : Visit) → WasVisited [] v → A
nothing-told v h = absurd (none-in h.told.one h.told.among)

at-first : Keeps [] [] [] no_work (Refs Branches ∷ (root_visits [] ++ Refs Tags ∷ []))
at-first = record {
  made_is = refl;
  deeds_are = refl;
  core = record {
    once = tt;
    named = λ v h. nothing-told v h;
    waits = λ v h. elim (first-or-later (Refs Branches) v (Refs Tags ∷ []) h) [
      | inl e ↦ subst (Named []) e intact.branches
      | inr l ↦ elim (first-or-later (Refs Tags) v [] l) [ inl e ↦ subst (Named []) e intact.tags | inr n ↦ absurd (none-in v n) ]
    ];
    owes = λ v u r t h. nothing-told v (record { reply = r; told = t });
    branches = inr (first-is (Refs Branches) (Refs Tags ∷ []));
    tags = inr (later-is (Refs Branches) (Refs Tags) (Refs Tags ∷ []) (first-is (Refs Tags) []));
    logs = λ id h. nothing-told (Log id) h;
    lists = λ part r t. nothing-told (Refs part) (record { reply = r; told = t });
  };
  sets = record {
    snaps_in = λ id h. absurd (never h);
    snaps_all = λ id h. nothing-told (Snap id) h;
    files_in = λ f h. absurd (never h);
    files_all = λ f h. nothing-told (File f) h;
    parts_in = λ p h. absurd (never h);
    parts_all = λ p h. nothing-told (Part p) h;
    objects_in = λ id h. absurd (never h);
    objects_all = λ p h. nothing-told (Part p) h;
    met_order = tt;
    objects_order = tt;
  };
  faults = refl;
  rings = λ id h. absurd (none-in _ h);
}
  where
    never : false ≡ true → ⊥
    never e = cc

pub goes-play : Goes [] check_play
goes-play = goes-part (Refs Tags ∷ []) then_tags tags-follow Branches [] [] [] [] no_work at-first refl
