-- What the marking keeps.
use Rattle.std.proofs.Common.{◌≡◌, ◌⊎◌, inl, inr, Bool, true, false, List, [], ◌∷◌, ◌++◌, refl, sym, ◌∙◌, ap, subst}
use Rattle.std.specs.Prelude.{Some, Contains}
use Rattle.std.proofs.lemmas.List.Elements.{Contains-append_left, Contains-append_right, Contains-append_cases, Contains-push, Contains-push_cases}
use Rattle.ice_ids.specs.Text.{initial_id}
use Rattle.ice_ids.specs.declared.Id12.{Id12}
use Rattle.ice_ids.specs.Sets.{with_object}
use Rattle.snapshot_file.specs.declared.snapshot.SnapshotFile.{SnapshotFile}
use Rattle.manifest_file.specs.declared.manifest.ManifestFile.{ManifestFile}
use Rattle.held_manifest.specs.Objects.{objects_of, NamesObject}
use Rattle.held_manifest.specs.Laws.{ObjectsLaw}
use Rattle.repo_objects.specs.Trees.{NamesManifest, NamesChunk}
use Rattle.object_store.specs.declared.keys.Key.{Key}
use Rattle.object_store.specs.declared.keys.Key.TheVariants.{Snapshot, Manifest, Txn, Chunk, Branch, Tag, Tombstone, Lease}
use Rattle.collecting.specs.Marks.{MarkedBy, FoundBy}
use Rattle.collecting.specs.Marks as marks
use Rattle.collecting.specs.Walks.{Walk, Marked, IsFound, IsNeeded, IsNamed, Nothing, IsAbsent, IsClosedBy, IsWantedBy}
use Rattle.chunk_gc.specs.Lines.{with_ids}
use Rattle.repo_objects.specs.Lines.{Line, enter_some, enter_ids, enter_rows}
use Rattle.chunk_gc.specs.Programs.{Work}
use Rattle.chunk_gc.proofs.Sets.{kept-ids, has-ids, only-ids}
use Rattle.repo_objects.proofs.Entering.{enters-some, enters-ids, enters-rows}
use Rattle.ice_ids.proofs.OneMore.{Has, kept-with, has-with, only-with}
use Rattle.ice_ids.proofs.Elements.{first-is, first-or-later, later-is, none-in}

-- ---- more is told, more is marked
module _ (rs rs' : List Id12) (xs xs' : List SnapshotFile) (fs fs' : List ManifestFile) (a : (id : Id12) → Contains rs id → Contains rs' id) (b : (s : SnapshotFile) → Contains xs s → Contains xs' s) (c : (m : ManifestFile) → Contains fs m → Contains fs' m) where
  pub marked-more : (key : Key) → MarkedBy rs xs fs key → MarkedBy rs' xs' fs' key
  marked-more key marks.first = marks.first
  marked-more key marks.first_log = marks.first_log
  marked-more key (marks.root {id} h) = marks.root (a id h)
  marked-more key (marks.log s h m) = marks.log s (b s h) (marked-more (Snapshot s.id) m)
  marked-more key (marks.parent s h m p) = marks.parent s (b s h) (marked-more (Snapshot s.id) m) p
  marked-more key (marks.manifest s h m p) = marks.manifest s (b s h) (marked-more (Snapshot s.id) m) p
  marked-more key (marks.chunk s f h m p g o) = marks.chunk s f (b s h) (marked-more (Snapshot s.id) m) p (c f g) o

  pub found-more : (id : Id12) → FoundBy rs xs id → FoundBy rs' xs' id
  found-more id (marks.named h) = marks.named (a id h)
  found-more id (marks.below s h f p) = marks.below s (b s h) (found-more s.id f) p

-- what is found is marked
pub found-marked : (rs : List Id12) (xs : List SnapshotFile) (fs : List ManifestFile) (id : Id12) → FoundBy rs xs id → MarkedBy rs xs fs (Snapshot id)
found-marked rs xs fs id (marks.named h) = marks.root h
found-marked rs xs fs id (marks.below s h f p) = marks.parent s h (found-marked rs xs fs s.id f) p

-- a manifest that a snapshot names which is found
pub record NamedBy (rs : List Id12) (xs : List SnapshotFile) (id : Id12) : Type 0 where
  pub snap : SnapshotFile
  pub read : Contains xs snap
  pub found : FoundBy rs xs snap.id
  pub names : NamesManifest snap.nodes id

abbrev pub ReadIn : List SnapshotFile → Id12 → Type 0
ReadIn xs id = (s : SnapshotFile) × Contains xs s × (s.id ≡ id)

abbrev pub FileIn : List ManifestFile → Id12 → Type 0
FileIn fs id = (m : ManifestFile) × Contains fs m × (m.id ≡ id)

-- What a collection holds is marked by what it was told, and it holds what that marks.
pub record HoldsBy (snapshots files : Line) (logs chunks rs : List Id12) (xs : List SnapshotFile) (fs : List ManifestFile) (gone : List Key) : Type 0 where
  pub roots : (id : Id12) → Contains rs id → Has snapshots.all id
  pub parents : (s : SnapshotFile) (id : Id12) → Contains xs s → s.parent ≡ Some id → Has snapshots.all id
  pub manifests : (s : SnapshotFile) (id : Id12) → Contains xs s → NamesManifest s.nodes id → Has files.all id
  pub objects : (m : ManifestFile) (id : Id12) → Contains fs m → NamesChunk m id → Has chunks id
  pub logged : (s : SnapshotFile) → Contains xs s → Has logs s.id
  pub found : (id : Id12) → Has snapshots.all id → FoundBy rs xs id
  pub named : (id : Id12) → Has files.all id → NamedBy rs xs id
  pub held : (id : Id12) → Has chunks id → MarkedBy rs xs fs (Chunk id)
  pub read : (id : Id12) → Has logs id → MarkedBy rs xs fs (Txn id)
  pub taken : (id : Id12) → Has snapshots.all id → Contains snapshots.todo id ⊎ (ReadIn xs id ⊎ Contains gone (Snapshot id))
  pub got : (id : Id12) → Has files.all id → Contains files.todo id ⊎ (FileIn fs id ⊎ Contains gone (Manifest id))
  pub later : (id : Id12) → Contains snapshots.todo id → Has snapshots.all id
  pub waiting : (id : Id12) → Contains files.todo id → Has files.all id

-- by what refs named, or by what refs and leases named
abbrev pub roots_by : (passes : Bool) → (roots leased : List Id12) → List Id12
roots_by false roots leased = roots
roots_by true roots leased = roots ++ leased

abbrev pub roots_in : (passes : Bool) → Walk → List Id12
roots_in passes v = roots_by passes v.roots v.leased

abbrev pub Holds : (passes : Bool) → Work → Walk → Type 0
Holds passes w v = HoldsBy w.snapshots w.files w.logs w.chunks (roots_in passes v) v.reads v.files v.absent

pub holds-nothing : HoldsBy (record { all = []; todo = [] }) (record { all = []; todo = [] }) [] [] [] [] [] []
holds-nothing = record {
  roots = λ id h. absurd (none-in id h);
  parents = λ x id h e. absurd (none-in x h);
  manifests = λ x id h n. absurd (none-in x h);
  objects = λ m id h n. absurd (none-in m h);
  logged = λ s h. absurd (none-in s h);
  found = λ id h. absurd cc;
  named = λ id h. absurd cc;
  held = λ id h. absurd cc;
  read = λ id h. absurd cc;
  taken = λ id h. absurd cc;
  got = λ id h. absurd cc;
  later = λ id h. absurd (none-in id h);
  waiting = λ id h. absurd (none-in id h);
}

module _ (snapshots files : Line) (logs chunks rs : List Id12) (xs : List SnapshotFile) (fs : List ManifestFile) (gone : List Key) (h : HoldsBy snapshots files logs chunks rs xs fs gone) where
  -- ---- more roots
  grown : (more : List Id12) (after : Line) → ((id : Id12) → Has snapshots.all id → Has after.all id) → ((id : Id12) → Contains more id → Has after.all id) → ((id : Id12) → Has after.all id → Has snapshots.all id ⊎ Contains more id)
      → ((id : Id12) → Contains snapshots.todo id → Contains after.todo id) → ((id : Id12) → Has after.all id → Has snapshots.all id ⊎ Contains after.todo id) → ((id : Id12) → Contains after.todo id → Contains snapshots.todo id ⊎ Contains more id)
      → HoldsBy after files logs chunks (rs ++ more) xs fs gone
  grown more after kept entered only left fresh inside =
      let grows = marked-more rs (rs ++ more) xs xs fs fs (λ q a. Contains-append_left rs more q a) (λ s a. a) (λ m a. a) in
      let finds = found-more rs (rs ++ more) xs xs fs fs (λ q a. Contains-append_left rs more q a) (λ s a. a) (λ m a. a) in
      record {
        roots = λ q a. elim (Contains-append_cases rs more q a) [ inl b ↦ kept q (h.roots q b) | inr b ↦ entered q b ];
        parents = λ s q a b. kept q (h.parents s q a b);
        manifests = h.manifests;
        objects = h.objects;
        logged = h.logged;
        found = λ q a. elim (only q a) [ inl b ↦ finds q (h.found q b) | inr b ↦ marks.named (Contains-append_right rs more q b) ];
        named = λ q a. let n = h.named q a in record { snap = n.snap; read = n.read; found = finds n.snap.id n.found; names = n.names };
        held = λ q a. grows (Chunk q) (h.held q a);
        read = λ q a. grows (Txn q) (h.read q a);
        taken = λ q a. elim (fresh q a) [ inl b ↦ elim (h.taken q b) [ inl x ↦ inl (left q x) | inr y ↦ inr y ] | inr t ↦ inl t ];
        got = h.got;
        later = λ q a. elim (inside q a) [ inl b ↦ kept q (h.later q b) | inr b ↦ entered q b ];
        waiting = h.waiting;
      }

  -- a ref was got
  pub holds-root : (id : Id12) → HoldsBy (enter_some (Some id) snapshots) files logs chunks (rs ++ id ∷ []) xs fs gone
  holds-root id =
      let e = enters-some (Some id) snapshots in
      grown (id ∷ []) (enter_some (Some id) snapshots) e.kept (λ q a. e.entered q (to q a)) (λ q a. elim (e.only q a) [ inl b ↦ inl b | inr s ↦ inr (from q s) ]) e.left e.fresh (λ q a. elim (e.inside q a) [ inl b ↦ inl b | inr s ↦ inr (from q s) ])
    where
      to : (q : Id12) → Contains (id ∷ []) q → Some id ≡ Some q
      to q a = elim (first-or-later id q [] a) [ inl s ↦ ap (λ (x : Id12). Some x) s | inr n ↦ absurd (none-in q n) ]

      from : (q : Id12) → Some id ≡ Some q → Contains (id ∷ []) q
      from q s = let is : id ≡ q = cc in subst (λ (x : Id12). Contains (id ∷ []) x) is (first-is id [])

  -- all that leases named is found
  pub holds-leased : (ids : List Id12) → HoldsBy (enter_ids ids snapshots) files logs chunks (rs ++ ids) xs fs gone
  holds-leased ids =
      let e = enters-ids ids snapshots in
      grown ids (enter_ids ids snapshots) e.kept e.entered e.only e.left e.fresh e.inside

  -- ---- a snapshot was got
  pub holds-read : (id : Id12) (behind : List Id12) (s : SnapshotFile) → s.id ≡ id → snapshots.todo ≡ id ∷ behind → HoldsBy (enter_some s.parent (record { all = snapshots.all; todo = behind })) (enter_rows s.nodes files) (with_object logs id) chunks rs (xs ++ s ∷ []) fs gone
  holds-read id behind s own is =
      let q : Line = record { all = snapshots.all; todo = behind } in
      let e = enters-some s.parent q in
      let g = enters-rows s.nodes files in
      let among : Contains (xs ++ s ∷ []) s = Contains-push xs s in
      let more = marked-more rs rs xs (xs ++ s ∷ []) fs fs (λ n a. a) (λ x a. Contains-append_left xs (s ∷ []) x a) (λ m a. a) in
      let finds = found-more rs rs xs (xs ++ s ∷ []) fs fs (λ n a. a) (λ x a. Contains-append_left xs (s ∷ []) x a) (λ m a. a) in
      let here : FoundBy rs (xs ++ s ∷ []) s.id = finds s.id (subst (λ (x : Id12). FoundBy rs xs x) (sym own) (h.found id (h.later id (subst (λ (l : List Id12). Contains l id) (sym is) (first-is id behind))))) in
      record {
        roots = λ n a. e.kept n (h.roots n a);
        parents = λ x n a b. elim (Contains-push_cases xs s x a) [ inl c ↦ e.kept n (h.parents x n c b) | inr i ↦ e.entered n (ap (λ (y : SnapshotFile). y.parent) i ∙ b) ];
        manifests = λ x n a b. elim (Contains-push_cases xs s x a) [ inl c ↦ g.kept n (h.manifests x n c b) | inr i ↦ g.entered n (subst (λ (y : SnapshotFile). NamesManifest y.nodes n) (sym i) b) ];
        objects = h.objects;
        logged = λ x a. elim (Contains-push_cases xs s x a) [
          | inl c ↦ kept-with logs id x.id (h.logged x c)
          | inr i ↦ subst (λ (n : Id12). Has (with_object logs id) n) (sym own ∙ ap (λ (y : SnapshotFile). y.id) i) (has-with logs id)
        ];
        found = λ n a. elim (e.only n a) [ inl b ↦ finds n (h.found n b) | inr p ↦ marks.below s among here p ];
        named = λ n a. elim (g.only n a) [
          | inl b ↦ (let x = h.named n b in record { snap = x.snap; read = Contains-append_left xs (s ∷ []) x.snap x.read; found = finds x.snap.id x.found; names = x.names })
          | inr c ↦ record { snap = s; read = among; found = here; names = c }
        ];
        held = λ n a. more (Chunk n) (h.held n a);
        read = λ n a. elim (only-with logs id n a) [
          | inl b ↦ more (Txn n) (h.read n b)
          | inr same ↦ subst (λ (y : Id12). MarkedBy rs (xs ++ s ∷ []) fs (Txn y)) (own ∙ same) (marks.log s among (found-marked rs (xs ++ s ∷ []) fs s.id here))
        ];
        taken = λ n a. elim (e.fresh n a) [
          | inl b ↦ elim (h.taken n b) [
            | inl x ↦ elim (first-or-later id n behind (subst (λ (l : List Id12). Contains l n) is x)) [ inl i ↦ inr (inl (s, among, own ∙ i)) | inr y ↦ inl (e.left n y) ]
            | inr y ↦ inr (elim y [ inl z ↦ inl (z.0, Contains-append_left xs (s ∷ []) z.0 z.1, z.2) | inr z ↦ inr z ])
          ]
          | inr t ↦ inl t
        ];
        got = λ n a. elim (g.fresh n a) [ inl b ↦ elim (h.got n b) [ inl x ↦ inl (g.left n x) | inr y ↦ inr y ] | inr t ↦ inl t ];
        later = λ n a. elim (e.inside n a) [ inl b ↦ e.kept n (h.later n (subst (λ (l : List Id12). Contains l n) (sym is) (later-is id n behind b))) | inr p ↦ e.entered n p ];
        waiting = λ n a. elim (g.inside n a) [ inl b ↦ g.kept n (h.waiting n b) | inr c ↦ g.entered n c ];
      }

  -- a snapshot was passed over
  pub holds-passed : (id : Id12) (behind : List Id12) → snapshots.todo ≡ id ∷ behind → HoldsBy (record { all = snapshots.all; todo = behind }) files logs chunks rs xs fs (gone ++ Snapshot id ∷ [])
  holds-passed id behind is = record {
    roots = h.roots;
    parents = h.parents;
    manifests = h.manifests;
    objects = h.objects;
    logged = h.logged;
    found = h.found;
    named = h.named;
    held = h.held;
    read = h.read;
    taken = λ n a. elim (h.taken n a) [
      | inl x ↦ elim (first-or-later id n behind (subst (λ (l : List Id12). Contains l n) is x)) [
        | inl i ↦ inr (inr (subst (λ (y : Id12). Contains (gone ++ Snapshot id ∷ []) (Snapshot y)) i (Contains-push gone (Snapshot id))))
        | inr y ↦ inl y
      ]
      | inr y ↦ inr (elim y [ inl z ↦ inl z | inr z ↦ inr (Contains-append_left gone (Snapshot id ∷ []) (Snapshot n) z) ])
    ];
    got = λ n a. elim (h.got n a) [ inl x ↦ inl x | inr y ↦ inr (elim y [ inl z ↦ inl z | inr z ↦ inr (Contains-append_left gone (Snapshot id ∷ []) (Manifest n) z) ]) ];
    later = λ n a. h.later n (subst (λ (l : List Id12). Contains l n) (sym is) (later-is id n behind a));
    waiting = h.waiting;
  }

  -- ---- a manifest was got
  pub holds-file : ObjectsLaw → (id : Id12) (behind : List Id12) (m : ManifestFile) → m.id ≡ id → files.todo ≡ id ∷ behind → HoldsBy snapshots (record { all = files.all; todo = behind }) logs (with_ids chunks (objects_of m)) rs xs (fs ++ m ∷ []) gone
  holds-file law id behind m own is =
      let among : Contains (fs ++ m ∷ []) m = Contains-push fs m in
      let more = marked-more rs rs xs xs fs (fs ++ m ∷ []) (λ n a. a) (λ x a. a) (λ x a. Contains-append_left fs (m ∷ []) x a) in
      let n = h.named m.id (h.waiting m.id (subst (λ (l : List Id12). Contains l m.id) (sym is) (subst (λ (x : Id12). Contains (id ∷ behind) x) (sym own) (first-is id behind)))) in
      record {
        roots = h.roots;
        parents = h.parents;
        manifests = h.manifests;
        objects = λ x o a b. elim (Contains-push_cases fs m x a) [
          | inl c ↦ kept-ids chunks (objects_of m) o (h.objects x o c b)
          | inr i ↦ has-ids chunks (objects_of m) o ((law m o).1 (to_object m o (subst (λ (y : ManifestFile). NamesChunk y o) (sym i) b)))
        ];
        logged = h.logged;
        found = h.found;
        named = h.named;
        held = λ o a. elim (only-ids chunks (objects_of m) o a) [
          | inl b ↦ more (Chunk o) (h.held o b)
          | inr c ↦ marks.chunk n.snap m n.read (found-marked rs xs (fs ++ m ∷ []) n.snap.id n.found) n.names among (to_chunk m o ((law m o).0 c))
        ];
        read = λ x a. more (Txn x) (h.read x a);
        taken = h.taken;
        got = λ x a. elim (h.got x a) [
          | inl b ↦ elim (first-or-later id x behind (subst (λ (l : List Id12). Contains l x) is b)) [ inl i ↦ inr (inl (m, among, own ∙ i)) | inr c ↦ inl c ]
          | inr y ↦ inr (elim y [ inl z ↦ inl (z.0, Contains-append_left fs (m ∷ []) z.0 z.1, z.2) | inr z ↦ inr z ])
        ];
        later = h.later;
        waiting = λ x a. h.waiting x (subst (λ (l : List Id12). Contains l x) (sym is) (later-is id x behind a));
      }
    where
      to_object : (m : ManifestFile) (o : Id12) → NamesChunk m o → NamesObject m o
      to_object m o n = record { array = n.array; among = n.among; chunk = n.chunk; has = n.has; offset = n.offset; size = n.size; is = n.is }

      to_chunk : (m : ManifestFile) (o : Id12) → NamesObject m o → NamesChunk m o
      to_chunk m o n = record { array = n.array; among = n.among; chunk = n.chunk; has = n.has; offset = n.offset; size = n.size; is = n.is }

  -- a manifest was passed over
  pub holds-file-passed : (id : Id12) (behind : List Id12) → files.todo ≡ id ∷ behind → HoldsBy snapshots (record { all = files.all; todo = behind }) logs chunks rs xs fs (gone ++ Manifest id ∷ [])
  holds-file-passed id behind is = record {
    roots = h.roots;
    parents = h.parents;
    manifests = h.manifests;
    objects = h.objects;
    logged = h.logged;
    found = h.found;
    named = h.named;
    held = h.held;
    read = h.read;
    taken = λ n a. elim (h.taken n a) [ inl x ↦ inl x | inr y ↦ inr (elim y [ inl z ↦ inl z | inr z ↦ inr (Contains-append_left gone (Manifest id ∷ []) (Snapshot n) z) ]) ];
    got = λ n a. elim (h.got n a) [
      | inl x ↦ elim (first-or-later id n behind (subst (λ (l : List Id12). Contains l n) is x)) [
        | inl i ↦ inr (inr (subst (λ (y : Id12). Contains (gone ++ Manifest id ∷ []) (Manifest y)) i (Contains-push gone (Manifest id))))
        | inr y ↦ inl y
      ]
      | inr y ↦ inr (elim y [ inl z ↦ inl z | inr z ↦ inr (Contains-append_left gone (Manifest id ∷ []) (Manifest n) z) ])
    ];
    later = h.later;
    waiting = λ n a. h.waiting n (subst (λ (l : List Id12). Contains l n) (sym is) (later-is id n behind a));
  }

  -- what is found is in the set
  pub found-in : (id : Id12) → FoundBy rs xs id → Has snapshots.all id
  found-in id (marks.named r) = h.roots id r
  found-in id (marks.below s a f p) = h.parents s id a p

-- ---- what the sets hold of a key
abbrev pub ListedIn : Work → Key → Type 0
ListedIn w (Snapshot id) = (id ≡ initial_id) ⊎ Has w.snapshots.all id
ListedIn w (Txn id) = (id ≡ initial_id) ⊎ Has w.logs id
ListedIn w (Manifest id) = Has w.files.all id
ListedIn w (Chunk id) = Has w.chunks id
ListedIn w (Branch name) = ⊥
ListedIn w (Tag name) = ⊥
ListedIn w (Tombstone name) = ⊥
ListedIn w (Lease id) = ⊥

-- where leases are marked, too
module _ (w : Work) (v : Walk) (h : Holds true w v) where
  pub marked-listed : (key : Key) → MarkedBy (v.roots ++ v.leased) v.reads v.files key → ListedIn w key
  marked-listed key marks.first = inl refl
  marked-listed key marks.first_log = inl refl
  marked-listed key (marks.root {id} a) = inr (h.roots id a)
  marked-listed key (marks.log s a m) = inr (h.logged s a)
  marked-listed key (marks.parent {id} s a m b) = inr (h.parents s id a b)
  marked-listed key (marks.manifest {id} s a m b) = h.manifests s id a b
  marked-listed key (marks.chunk {id} s f a m b c d) = h.objects f id c d

  pub listed-marked : (key : Key) → ListedIn w key → Marked v key
  listed-marked (Snapshot id) (inl e) = subst (λ (x : Id12). IsFound v x) (sym e) marks.first
  listed-marked (Snapshot id) (inr a) = found-marked (v.roots ++ v.leased) v.reads v.files id (h.found id a)
  listed-marked (Txn id) (inl e) = subst (λ (x : Id12). Marked v (Txn x)) (sym e) marks.first_log
  listed-marked (Txn id) (inr a) = h.read id a
  listed-marked (Manifest id) a = let x = h.named id a in marks.manifest x.snap x.read (found-marked (v.roots ++ v.leased) v.reads v.files x.snap.id x.found) x.names
  listed-marked (Chunk id) a = h.held id a
  listed-marked (Branch name) a = absurd a
  listed-marked (Tag name) a = absurd a
  listed-marked (Tombstone name) a = absurd a
  listed-marked (Lease id) a = absurd a

  -- where nothing is still to be got, all is read, or was absent
  pub all-closed : w.snapshots.todo ≡ [] → w.files.todo ≡ [] → IsClosedBy (IsFound v) (IsAbsent v) v
  all-closed s f = record {
    snapshots = λ id a. elim (marked-listed (Snapshot id) a) [
      | inl e ↦ inl e
      | inr b ↦ inr (elim (h.taken id b) [
        | inl x ↦ absurd (none-in id (subst (λ (l : List Id12). Contains l id) s x))
        | inr y ↦ elim y [ inl z ↦ inl (record { snap = z.0; read = z.1; id_is = z.2 }) | inr z ↦ inr z ]
      ])
    ];
    manifests = λ id n. elim (h.got id (h.manifests n.snap id n.read n.names)) [
      | inl x ↦ absurd (none-in id (subst (λ (l : List Id12). Contains l id) f x))
      | inr y ↦ elim y [ inl z ↦ inl (record { file = z.0; read = z.1; id_is = z.2 }) | inr z ↦ inr z ]
    ];
  }

-- where refs alone are marked
module _ (w : Work) (v : Walk) (h : Holds false w v) (none : v.absent ≡ []) where
  pub needed-in : (id : Id12) → IsNeeded v id → Has w.snapshots.all id
  needed-in id f = found-in w.snapshots w.files w.logs w.chunks v.roots v.reads v.files v.absent h id f

  -- where nothing is still to be got, all that refs need is read
  pub needed-closed : w.snapshots.todo ≡ [] → w.files.todo ≡ [] → IsClosedBy (IsNeeded v) Nothing v
  needed-closed s f = record {
    snapshots = λ id a. inr (elim (h.taken id (needed-in id a)) [
      | inl x ↦ absurd (none-in id (subst (λ (l : List Id12). Contains l id) s x))
      | inr y ↦ elim y [
        | inl z ↦ inl (record { snap = z.0; read = z.1; id_is = z.2 })
        | inr z ↦ absurd (none-in (Snapshot id) (subst (λ (l : List Key). Contains l (Snapshot id)) none z))
      ]
    ]);
    manifests = λ id n. elim (h.got id (h.manifests n.snap id n.read n.names)) [
      | inl x ↦ absurd (none-in id (subst (λ (l : List Id12). Contains l id) f x))
      | inr y ↦ elim y [
        | inl z ↦ inl (record { file = z.0; read = z.1; id_is = z.2 })
        | inr z ↦ absurd (none-in (Manifest id) (subst (λ (l : List Key). Contains l (Manifest id)) none z))
      ]
    ];
  }

-- ---- what is to be got is wanted
in-all : (passes : Bool) (v : Walk) (id : Id12) → Contains (roots_in passes v) id → Contains (v.roots ++ v.leased) id
in-all false v id a = Contains-append_left v.roots v.leased id a
in-all true v id a = a

module _ (passes : Bool) (w : Work) (v : Walk) (h : Holds passes w v) where
  its-found : (id : Id12) → FoundBy (roots_in passes v) v.reads id → IsFound v id
  its-found id f = marked-more (roots_in passes v) (v.roots ++ v.leased) v.reads v.reads v.files v.files (in-all passes v) (λ s a. a) (λ m a. a) (Snapshot id) (found-marked (roots_in passes v) v.reads v.files id f)

  next-file : (id : Id12) (behind : List Id12) → w.files.todo ≡ id ∷ behind → NamedBy (roots_in passes v) v.reads id
  next-file id behind is = h.named id (h.waiting id (subst (λ (l : List Id12). Contains l id) (sym is) (first-is id behind)))

  next-snapshot : (id : Id12) (behind : List Id12) → w.snapshots.todo ≡ id ∷ behind → FoundBy (roots_in passes v) v.reads id
  next-snapshot id behind is = h.found id (h.later id (subst (λ (l : List Id12). Contains l id) (sym is) (first-is id behind)))

  pub wanted-file : (id : Id12) (behind : List Id12) → w.files.todo ≡ id ∷ behind → IsNamed v id
  wanted-file id behind is = let n = next-file id behind is in record { snap = n.snap; read = n.read; found = its-found n.snap.id n.found; names = n.names }

  pub wanted-snapshot : (id : Id12) (behind : List Id12) → w.snapshots.todo ≡ id ∷ behind → IsFound v id
  wanted-snapshot id behind is = its-found id (next-snapshot id behind is)

-- and needed, where refs alone are marked
module _ (w : Work) (v : Walk) (h : Holds false w v) where
  pub needed-file : (id : Id12) (behind : List Id12) → w.files.todo ≡ id ∷ behind → IsWantedBy (IsNeeded v) v (Manifest id)
  needed-file id behind is = let n = next-file false w v h id behind is in record { snap = n.snap; read = n.read; found = n.found; names = n.names }

  pub needed-snapshot : (id : Id12) (behind : List Id12) → w.snapshots.todo ≡ id ∷ behind → IsWantedBy (IsNeeded v) v (Snapshot id)
  needed-snapshot id behind is = next-snapshot false w v h id behind is
