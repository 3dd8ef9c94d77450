-- What a check keeps, and how each operation keeps it.
use Rattle.std.proofs.Common.{◌≡◌, ◌⊎◌, inl, inr, ℕ, ◌+◌, ◌≤◌, Bool, true, false, List, [], ◌∷◌, ◌++◌, length, refl, sym, ◌∙◌, ap, subst, arith, append-nil}
use Rattle.std.specs.Prelude.{Option, Some, None, Result, Ok, Err, Contains}
use Rattle.std.proofs.lemmas.List.Elements.{Contains-append_left, Contains-append_right, Contains-append_cases, Contains-push, Contains-push_cases}
use Rattle.ice_ids.specs.declared.Id12.{Id12}
use Rattle.ice_ids.specs.Sets.{with_object}
use Rattle.object_store.specs.declared.keys.Part.{Part as Part_of_store}
use Rattle.object_store.specs.declared.keys.Part.TheVariants.{Branches, Tags}
use Rattle.object_store.specs.declared.events.Reply.{Reply}
use Rattle.check_reports.specs.declared.faults.CheckFault.{CheckFault}
use Rattle.check_reports.specs.declared.faults.Checked.{Checked}
use Rattle.store_api.specs.declared.machines.Refusal.{Refusal}
use Rattle.intact.specs.declared.visits.FileVisit.{FileVisit}
use Rattle.intact.specs.declared.visits.PartVisit.{PartVisit}
use Rattle.intact.specs.Places.{file_cmp, part_cmp}
use Rattle.intact.specs.Visits.{Visit, Refs, Ref, Snap, Log, File, Part, leads}
use Rattle.intact.specs.Intact.{Made, WasAnswered, WasVisited, IsFineBy, Named, IsAbove}
use Rattle.intact.specs.Intact as intact
use Rattle.repo_check.specs.declared.standing.CheckReport.{CheckReport}
use Rattle.repo_check.specs.Works.{Work, with_file, with_part}
use Rattle.repo_check.specs.Findings.{Finding, Makes, Comes_back, made_of, Deed, deed_of, deeds_of, with_finding, faults_of}
use Rattle.repo_check.specs.Exact.{IsOfObject, AreOnce, AreFindings, EndsSo, Reports}
use Rattle.repo_check.proofs.Sets.{Has, HasKey, kept-key, has-key, only-key, file-exact, file-self, part-exact, part-self, kept-with, has-with, only-with, Rises, ascend-with}
use Rattle.repo_check.proofs.Made.{made-more, made-back, deeds-more, faults-more, Grows, grows-more, told-here, told-cases, made-grows, made-here, made-cases, made-old, named-grows, above-grows, once-more}
use Rattle.ice_ids.proofs.Elements.{first-is, later-is, first-or-later, none-in}

-- ---- what is named, and what is still to be made of it
pub record Core (m : List Made) (pending : List Visit) : Type 0 where
  pub once : AreOnce m
  pub named : (v : Visit) → WasVisited m v → Named m v
  pub waits : (v : Visit) → Contains pending v → Named m v
  pub owes : (v u : Visit) (r : Reply) → WasAnswered m v r → Contains (leads v r) u → WasVisited m u ⊎ Contains pending u
  pub branches : WasVisited m (Refs Branches) ⊎ Contains pending (Refs Branches)
  pub tags : WasVisited m (Refs Tags) ⊎ Contains pending (Refs Tags)
  pub logs : (id : Id12) → WasVisited m (Log id) → WasVisited m (Snap id)
  pub lists : (part : Part_of_store) (r : Reply) → WasAnswered m (Refs part) r → IsFineBy (Refs part) r

-- what a visit needs for its being made now
pub record MayMake (m : List Made) (v : Visit) (r : Reply) : Type 0 where
  pub new : IsOfObject v → WasVisited m v → ⊥
  pub log : (id : Id12) → v ≡ Log id → WasVisited m (Snap id)
  pub list : (part : Part_of_store) → v ≡ Refs part → IsFineBy (Refs part) r

-- what is pending first was made already
pub core-skip : (m : List Made) (v : Visit) (pending : List Visit) → WasVisited m v → Core m (v ∷ pending) → Core m pending
core-skip m v pending made c = record {
  once = c.once;
  named = c.named;
  waits = λ u h. c.waits u (later-is v u pending h);
  owes = λ x u r t h. settle u (c.owes x u r t h);
  branches = settle (Refs Branches) c.branches;
  tags = settle (Refs Tags) c.tags;
  logs = c.logs;
  lists = c.lists;
}
  where
    settle : (u : Visit) → WasVisited m u ⊎ Contains (v ∷ pending) u → WasVisited m u ⊎ Contains pending u
    settle u (inl a) = inl a
    settle u (inr b) = elim (first-or-later v u pending b) [ inl e ↦ inl (subst (WasVisited m) e made) | inr l ↦ inr l ]

-- what is pending may stand in another order
pub core-moves : (m : List Made) (p q : List Visit) → ((v : Visit) → Contains p v → Contains q v) → ((v : Visit) → Contains q v → Contains p v) → Core m p → Core m q
core-moves m p q to from c = record {
  once = c.once;
  named = c.named;
  waits = λ v h. c.waits v (from v h);
  owes = λ v u r t h. moved u (c.owes v u r t h);
  branches = moved (Refs Branches) c.branches;
  tags = moved (Refs Tags) c.tags;
  logs = c.logs;
  lists = c.lists;
}
  where
    moved : (u : Visit) → WasVisited m u ⊎ Contains p u → WasVisited m u ⊎ Contains q u
    moved u (inl a) = inl a
    moved u (inr b) = inr (to u b)

-- ... or it is made now
pub core-made : (m : List Made) (v : Visit) (pending : List Visit) (r : Reply) → MayMake m v r → Core m (v ∷ pending) → Core (m ++ record { visit = v; reply = r } ∷ []) (leads v r ++ pending)
core-made m v pending r may c = record {
  once = once-more m one c.once may.new;
  named = λ u h. elim (made-cases m one u h) [ inl a ↦ named-grows m n u g (c.named u a) | inr e ↦ subst (Named n) e own ];
  waits = λ u h. elim (Contains-append_cases (leads v r) pending u h) [
    | inl a ↦ intact.behind own (told-here m one) a
    | inr b ↦ named-grows m n u g (c.waits u (later-is v u pending b))
  ];
  owes = λ x u s t h. elim (told-cases m one x s t) [
    | inl a ↦ settle u (c.owes x u s a h)
    | inr e ↦ inr (Contains-append_left (leads v r) pending u (subst (λ (y : Reply). Contains (leads v y) u) (sym e.1) (subst (λ (y : Visit). Contains (leads y s) u) (sym e.0) h)))
  ];
  branches = settle (Refs Branches) c.branches;
  tags = settle (Refs Tags) c.tags;
  logs = λ id h. elim (made-cases m one (Log id) h) [ inl a ↦ made-grows m n (Snap id) g (c.logs id a) | inr e ↦ made-grows m n (Snap id) g (may.log id e) ];
  lists = λ part s t. elim (told-cases m one (Refs part) s t) [ inl a ↦ c.lists part s a | inr e ↦ subst (IsFineBy (Refs part)) e.1 (may.list part e.0) ];
}
  where
    one : Made
    one = record { visit = v; reply = r }

    n : List Made
    n = m ++ record { visit = v; reply = r } ∷ []

    g : Grows m n
    g = grows-more m (record { visit = v; reply = r })

    own : Named n v
    own = named-grows m n v g (c.waits v (first-is v pending))

    settle : (u : Visit) → WasVisited m u ⊎ Contains (v ∷ pending) u → WasVisited n u ⊎ Contains (leads v r ++ pending) u
    settle u (inl a) = inl (made-grows m n u g a)
    settle u (inr b) = elim (first-or-later v u pending b) [ inl e ↦ inl (made-here m (record { visit = v; reply = r }) u e) | inr l ↦ inr (Contains-append_right (leads v r) pending u l) ]

-- ---- the sets have what was made
abbrev pub HasFile : List FileVisit → FileVisit → Type 0
HasFile = HasKey file_cmp file-exact file-self

abbrev pub HasPart : List PartVisit → PartVisit → Type 0
HasPart = HasKey part_cmp part-exact part-self

pub record IsObjectMade (m : List Made) (id : Id12) : Type 0 where
  pub part : PartVisit
  pub made : WasVisited m (Part part)
  pub object_is : part.object ≡ id

pub record Sets (m : List Made) (met : List Id12) (files : List FileVisit) (parts : List PartVisit) (objects : List Id12) : Type 0 where
  pub snaps_in : (id : Id12) → Has met id → WasVisited m (Snap id)
  pub snaps_all : (id : Id12) → WasVisited m (Snap id) → Has met id
  pub files_in : (f : FileVisit) → HasFile files f → WasVisited m (File f)
  pub files_all : (f : FileVisit) → WasVisited m (File f) → HasFile files f
  pub parts_in : (p : PartVisit) → HasPart parts p → WasVisited m (Part p)
  pub parts_all : (p : PartVisit) → WasVisited m (Part p) → HasPart parts p
  pub objects_in : (id : Id12) → Has objects id → IsObjectMade m id
  pub objects_all : (p : PartVisit) → WasVisited m (Part p) → Has objects p.object
  pub met_order : Rises met
  pub objects_order : Rises objects

module _ (m : List Made) (met : List Id12) (files : List FileVisit) (parts : List PartVisit) (objects : List Id12) (s : Sets m met files parts objects) (one : Made) where
  abbrev more : List Made
  more = m ++ one ∷ []

  grown : (v : Visit) → WasVisited m v → WasVisited more v
  grown v h = made-grows m more v (grows-more m one) h

  grown-object : (id : Id12) → IsObjectMade m id → IsObjectMade more id
  grown-object id h = record { part = h.part; made = grown (Part h.part) h.made; object_is = h.object_is }

  -- a listing, a ref or a log
  pub sets-other : ((id : Id12) → one.visit ≡ Snap id → ⊥) → ((f : FileVisit) → one.visit ≡ File f → ⊥) → ((p : PartVisit) → one.visit ≡ Part p → ⊥) → Sets more met files parts objects
  sets-other a b c = record {
    snaps_in = λ id h. grown (Snap id) (s.snaps_in id h);
    snaps_all = λ id h. s.snaps_all id (made-old m one (Snap id) (a id) h);
    files_in = λ f h. grown (File f) (s.files_in f h);
    files_all = λ f h. s.files_all f (made-old m one (File f) (b f) h);
    parts_in = λ p h. grown (Part p) (s.parts_in p h);
    parts_all = λ p h. s.parts_all p (made-old m one (Part p) (c p) h);
    objects_in = λ id h. grown-object id (s.objects_in id h);
    objects_all = λ p h. s.objects_all p (made-old m one (Part p) (c p) h);
    met_order = s.met_order;
    objects_order = s.objects_order;
  }

  pub sets-snapshot : (own : Id12) → one.visit ≡ Snap own → Sets more (with_object met own) files parts objects
  sets-snapshot own is = record {
    snaps_in = λ id h. elim (only-with met own id h) [ inl a ↦ grown (Snap id) (s.snaps_in id a) | inr e ↦ made-here m one (Snap id) (is ∙ ap (λ (x : Id12). Snap x) e) ];
    snaps_all = λ id h. elim (made-cases m one (Snap id) h) [ inl a ↦ kept-with met own id (s.snaps_all id a) | inr e ↦ subst (Has (with_object met own)) (same id (sym is ∙ e)) (has-with met own) ];
    files_in = λ f h. grown (File f) (s.files_in f h);
    files_all = λ f h. s.files_all f (made-old m one (File f) (λ e. no-file f (sym is ∙ e)) h);
    parts_in = λ p h. grown (Part p) (s.parts_in p h);
    parts_all = λ p h. s.parts_all p (made-old m one (Part p) (λ e. no-part p (sym is ∙ e)) h);
    objects_in = λ id h. grown-object id (s.objects_in id h);
    objects_all = λ p h. s.objects_all p (made-old m one (Part p) (λ e. no-part p (sym is ∙ e)) h);
    met_order = ascend-with met own s.met_order;
    objects_order = s.objects_order;
  }
    where
      same : (id : Id12) → Snap own ≡ Snap id → own ≡ id
      same id e = cc

      no-file : (f : FileVisit) → Snap own ≡ File f → ⊥
      no-file f e = cc

      no-part : (p : PartVisit) → Snap own ≡ Part p → ⊥
      no-part p e = cc

  pub sets-file : (own : FileVisit) → one.visit ≡ File own → Sets more met (with_file files own) parts objects
  sets-file own is = record {
    snaps_in = λ id h. grown (Snap id) (s.snaps_in id h);
    snaps_all = λ id h. s.snaps_all id (made-old m one (Snap id) (λ e. no-snap id (sym is ∙ e)) h);
    files_in = λ f h. elim (only-key file_cmp file-exact file-self files own f h) [ inl a ↦ grown (File f) (s.files_in f a) | inr e ↦ made-here m one (File f) (is ∙ ap (λ (x : FileVisit). File x) e) ];
    files_all = λ f h. elim (made-cases m one (File f) h) [ inl a ↦ kept-key file_cmp file-exact file-self files own f (s.files_all f a) | inr e ↦ subst (HasFile (with_file files own)) (same f (sym is ∙ e)) (has-key file_cmp file-exact file-self files own) ];
    parts_in = λ p h. grown (Part p) (s.parts_in p h);
    parts_all = λ p h. s.parts_all p (made-old m one (Part p) (λ e. no-part p (sym is ∙ e)) h);
    objects_in = λ id h. grown-object id (s.objects_in id h);
    objects_all = λ p h. s.objects_all p (made-old m one (Part p) (λ e. no-part p (sym is ∙ e)) h);
    met_order = s.met_order;
    objects_order = s.objects_order;
  }
    where
      same : (f : FileVisit) → File own ≡ File f → own ≡ f
      same f e = cc

      no-snap : (id : Id12) → File own ≡ Snap id → ⊥
      no-snap id e = cc

      no-part : (p : PartVisit) → File own ≡ Part p → ⊥
      no-part p e = cc

  pub sets-part : (own : PartVisit) → one.visit ≡ Part own → Sets more met files (with_part parts own) (with_object objects own.object)
  sets-part own is = record {
    snaps_in = λ id h. grown (Snap id) (s.snaps_in id h);
    snaps_all = λ id h. s.snaps_all id (made-old m one (Snap id) (λ e. no-snap id (sym is ∙ e)) h);
    files_in = λ f h. grown (File f) (s.files_in f h);
    files_all = λ f h. s.files_all f (made-old m one (File f) (λ e. no-file f (sym is ∙ e)) h);
    parts_in = λ p h. elim (only-key part_cmp part-exact part-self parts own p h) [ inl a ↦ grown (Part p) (s.parts_in p a) | inr e ↦ made-here m one (Part p) (is ∙ ap (λ (x : PartVisit). Part x) e) ];
    parts_all = λ p h. elim (made-cases m one (Part p) h) [ inl a ↦ kept-key part_cmp part-exact part-self parts own p (s.parts_all p a) | inr e ↦ subst (HasPart (with_part parts own)) (same p (sym is ∙ e)) (has-key part_cmp part-exact part-self parts own) ];
    objects_in = λ id h. elim (only-with objects own.object id h) [ inl a ↦ grown-object id (s.objects_in id a) | inr e ↦ record { part = own; made = made-here m one (Part own) is; object_is = e } ];
    objects_all = λ p h. elim (made-cases m one (Part p) h) [
      | inl a ↦ kept-with objects own.object p.object (s.objects_all p a)
      | inr e ↦ subst (λ (x : PartVisit). Has (with_object objects own.object) x.object) (same p (sym is ∙ e)) (has-with objects own.object)
    ];
    met_order = s.met_order;
    objects_order = ascend-with objects own.object s.objects_order;
  }
    where
      same : (p : PartVisit) → Part own ≡ Part p → own ≡ p
      same p e = cc

      no-snap : (id : Id12) → Part own ≡ Snap id → ⊥
      no-snap id e = cc

      no-file : (f : FileVisit) → Part own ≡ File f → ⊥
      no-file f e = cc

-- ---- all that is kept
pub record Keeps (f : List Finding) (m : List Made) (d : List Deed) (w : Work) (pending : List Visit) : Type 0 where
  pub made_is : made_of f ≡ m
  pub deeds_are : deeds_of m ≡ d
  pub core : Core m pending
  pub sets : Sets m w.met w.files w.parts w.objects
  pub faults : w.faults ≡ faults_of f
  pub rings : (id : Id12) → Contains f (Comes_back id) → IsAbove m id id

pub keeps-skip : (f : List Finding) (m : List Made) (d : List Deed) (w : Work) (v : Visit) (pending : List Visit) → WasVisited m v → Keeps f m d w (v ∷ pending) → Keeps f m d w pending
keeps-skip f m d w v pending made k = record { made_is = k.made_is; deeds_are = k.deeds_are; core = core-skip m v pending made k.core; sets = k.sets; faults = k.faults; rings = k.rings }

pub keeps-moves : (f : List Finding) (m : List Made) (d : List Deed) (w : Work) (p q : List Visit) → ((v : Visit) → Contains p v → Contains q v) → ((v : Visit) → Contains q v → Contains p v) → Keeps f m d w p → Keeps f m d w q
keeps-moves f m d w p q to from k = record { made_is = k.made_is; deeds_are = k.deeds_are; core = core-moves m p q to from k.core; sets = k.sets; faults = k.faults; rings = k.rings }

old-back : (f : List Finding) (one : Made) (id : Id12) → Contains (f ++ Makes one ∷ []) (Comes_back id) → Contains f (Comes_back id)
old-back f one id h = elim (Contains-push_cases f (Makes one) (Comes_back id) h) [ inl a ↦ a | inr e ↦ absurd (differ e) ]
  where
    differ : Makes one ≡ Comes_back id → ⊥
    differ e = cc

pub keeps-made : (f : List Finding) (m : List Made) (d : List Deed) (w w' : Work) (v : Visit) (pending : List Visit) (r : Reply) → Keeps f m d w (v ∷ pending) → MayMake m v r
    → Sets (m ++ record { visit = v; reply = r } ∷ []) w'.met w'.files w'.parts w'.objects → w'.faults ≡ with_finding (Makes (record { visit = v; reply = r })) w.faults
    → Keeps (f ++ Makes (record { visit = v; reply = r }) ∷ []) (m ++ record { visit = v; reply = r } ∷ []) (d ++ deed_of (record { visit = v; reply = r }) ∷ []) w' (leads v r ++ pending)
keeps-made f m d w w' v pending r k may sets faults =
    let one : Made = record { visit = v; reply = r } in
    record {
      made_is = made-more f one ∙ ap (λ (l : List Made). l ++ one ∷ []) k.made_is;
      deeds_are = deeds-more m one ∙ ap (λ (l : List Deed). l ++ deed_of one ∷ []) k.deeds_are;
      core = core-made m v pending r may k.core;
      sets = sets;
      faults = faults ∙ (ap (with_finding (Makes one)) k.faults ∙ sym (faults-more [] f (Makes one)));
      rings = λ id h. above-grows m (m ++ one ∷ []) id id (grows-more m one) (k.rings id (old-back f one id h));
    }

-- a walk came back
pub keeps-back : (f : List Finding) (m : List Made) (d : List Deed) (w w' : Work) (pending : List Visit) (id : Id12) → Keeps f m d w pending → IsAbove m id id → Sets m w'.met w'.files w'.parts w'.objects → w'.faults ≡ with_finding (Comes_back id) w.faults → Keeps (f ++ Comes_back id ∷ []) m d w' pending
keeps-back f m d w w' pending id k above sets faults = record {
  made_is = made-back f id ∙ k.made_is;
  deeds_are = k.deeds_are;
  core = k.core;
  sets = sets;
  faults = faults ∙ (ap (with_finding (Comes_back id)) k.faults ∙ sym (faults-more [] f (Comes_back id)));
  rings = λ x h. elim (Contains-push_cases f (Comes_back id) (Comes_back x) h) [ inl a ↦ k.rings x a | inr e ↦ subst (λ (y : Id12). IsAbove m y y) (same x e) above ];
}
  where
    same : (x : Id12) → Comes_back id ≡ Comes_back x → id ≡ x
    same x e = cc

-- ---- reports
pub sound-so-far : (f : List Finding) (m : List Made) (d : List Deed) (w : Work) (pending : List Visit) → Keeps f m d w pending → AreFindings f
sound-so-far f m d w pending k = record {
  once = subst AreOnce (sym k.made_is) k.core.once;
  named = subst (λ (l : List Made). (v : Visit) → WasVisited l v → Named l v) (sym k.made_is) k.core.named;
  rings = subst (λ (l : List Made). (id : Id12) → Contains f (Comes_back id) → IsAbove l id id) (sym k.made_is) k.rings;
}

-- behind these findings
pub reports-now : (f : List Finding) (m : List Made) (d : List Deed) (w : Work) (pending : List Visit) (result : Result Checked Refusal) → Keeps f m d w pending → EndsSo f [] result → Reports d (record { faults = w.faults; result = result })
reports-now f m d w pending result k e = record {
  findings = f;
  rest = [];
  are = sym k.deeds_are ∙ (ap deeds_of (sym k.made_is) ∙ sym (append-nil (deeds_of (made_of f))));
  sound = sound-so-far f m d w pending k;
  faults = k.faults;
  ends = e;
}

-- ... and one reply that is none of them
pub reports-behind : (f : List Finding) (m : List Made) (d : List Deed) (w : Work) (pending : List Visit) (deed : Deed) (result : Result Checked Refusal) → Keeps f m d w pending → EndsSo f (deed ∷ []) result → Reports (d ++ deed ∷ []) (record { faults = w.faults; result = result })
reports-behind f m d w pending deed result k e = record {
  findings = f;
  rest = deed ∷ [];
  are = ap (λ (l : List Deed). l ++ deed ∷ []) (sym k.deeds_are ∙ ap deeds_of (sym k.made_is));
  sound = sound-so-far f m d w pending k;
  faults = k.faults;
  ends = e;
}
