-- What is known of manifests that were got, and of new lists that were written, whatever good events come.
use Rattle.std.proofs.Common.{◌≡◌, ◌⊎◌, inl, inr, ℕ, zero, suc, nat_eq, slice_index_or, ◌<◌, ◌^◌, true, false, cond, List, [], ◌∷◌, ◌++◌, length, refl, subst, arith}
use Rattle.std.specs.Prelude.{nat_lt, Option, Some, None}
use Rattle.std.specs.List.{AllZip, Contains}
use Rattle.std.proofs.lemmas.Bool.Decides.{nat_tests}
use Rattle.std.proofs.lemmas.List.Elements.{Contains-append_right}
use Rattle.ice_ids.specs.declared.Id8.{Id8}
use Rattle.ice_ids.specs.declared.Id12.{Id12}
use Rattle.flat_tables.specs.File.{file_limit}
use Rattle.zarr_tree.specs.Held.{HeldEntry, entry_in}
use Rattle.manifest_file.specs.declared.manifest.Place.{Place}
use Rattle.manifest_file.specs.declared.manifest.Place.TheVariants.{Object}
use Rattle.manifest_file.specs.declared.manifest.ManifestFile.{ManifestFile}
use Rattle.manifest_file.specs.Manifests.{refs_limit}
use Rattle.held_manifest.specs.LookUp.{Listed, chunk_place}
use Rattle.snapshot_file.specs.declared.nodes.ManifestRef.{ManifestRef}
use Rattle.repo_objects.specs.Trees.{Extends, NamesManifest, NamesChunk, manifest_put}
use Rattle.object_store.specs.declared.keys.Key.TheVariants.{Manifest}
use Rattle.object_store.specs.declared.events.Op.{Op}
use Rattle.object_store.specs.declared.events.Reply.{Reply}
use Rattle.object_store.specs.declared.events.Event.{Event}
use Rattle.store_api.specs.Journal.{Each, WasPut, StoodAt, puts_of, IsOnce, IsPolite, IsGood}
use Rattle.store_api.specs.Callers.{Caller, Makes}
use Rattle.object_store.proofs.Slots.{WasPut-append, StoodAt-append}
use Rattle.session.specs.Sessions.{SessionState}
use Rattle.zarr_changes.specs.declared.chunks.ChangedArray.{ChangedArray}
use Rattle.changed_snapshot.specs.declared.new_snapshot.NewManifest.{NewManifest}
use Rattle.changed_snapshot.specs.declared.new_snapshot.NewList.{NewList}
use Rattle.changed_snapshot.specs.Laws.{IsSized}
use Rattle.session.specs.Sources.{IsLater, MayDrawObject}
use Rattle.commit_path.specs.Committing.{Written, unwritten}
use Rattle.reach.specs.Own.{PutItself}
use Rattle.commit_path.specs.Answered.{WasRead, WereRead, ids_behind, AreInTurn, WereListed}
use Rattle.store_api.specs.Telling.{ChangedNothing}
use Rattle.commit_path.specs.Opened.{IsOpened}
use Rattle.commit_path.proofs.Putting.{puts-kept}
use Rattle.commit_path.proofs.Rewriting.{IsRead, AreRead, Rewritten, rewritten-extends, zip-weaker, Among}
use Rattle.store_api.proofs.Telling.{makes-keeps}
use Rattle.commit_path.proofs.Sources.{later-same}
use Rattle.commit_path.proofs.Listing.{more-makes, PutItself-append, WasRead-append, WereListed-append}
use Rattle.commit_path.proofs.Knowing.{once-front, IsOpened-append}

-- ---- what is known of a manifest that was got
pub record IsGot (client : ℕ) (start journal : List Event) (m : ManifestRef) (l : Listed) : Type 0 where
  pub told : WasRead client start journal m l
  pub stood : StoodAt journal (Manifest m.id) told.version told.bytes
  pub now : IsOnce journal → IsRead (puts_of journal) m l

pub IsGot-append : (client : ℕ) (start journal more : List Event) → Each IsGood journal more → (m : ManifestRef) (l : Listed) → IsGot client start journal m l → IsGot client start (journal ++ more) m l
IsGot-append client start journal more g m l r = record {
  told = WasRead-append client start journal more m l r.told;
  stood = StoodAt-append journal more (Manifest m.id) r.told.version r.told.bytes r.stood;
  now = λ once. let n = r.now (once-front journal more once) in record { extents = n.extents; put = (puts-kept journal more g once).manifests m.id l.1 n.put };
}

abbrev pub WereGot : ℕ → List Event → List ManifestRef → List Listed → List Event → Type 0
WereGot client start refs old journal = AllZip (IsGot client start journal) refs old

pub WereGot-append : (client : ℕ) (start : List Event) (refs : List ManifestRef) (old : List Listed) (journal more : List Event) → Each IsGood journal more → WereGot client start refs old journal → WereGot client start refs old (journal ++ more)
WereGot-append client start refs old journal more g = zip-weaker (IsGot client start journal) (IsGot client start (journal ++ more)) (IsGot-append client start journal more g) refs old

pub got-told : (client : ℕ) (start journal : List Event) (refs : List ManifestRef) (old : List Listed) → WereGot client start refs old journal → WereRead client refs old start journal
got-told client start journal = zip-weaker (IsGot client start journal) (WasRead client start journal) (λ m l r. r.told)

pub got-read : (client : ℕ) (start journal : List Event) (refs : List ManifestRef) (old : List Listed) → WereGot client start refs old journal → IsOnce journal → AreRead (puts_of journal) refs old
got-read client start journal refs old z once = zip-weaker (IsGot client start journal) (IsRead (puts_of journal)) (λ m l r. r.now once) refs old z

pub record GotFor (client : ℕ) (start journal : List Event) (refs : List ManifestRef) (l : Listed) : Type 0 where
  pub ref : ManifestRef
  pub among : Contains refs ref
  pub got : IsGot client start journal ref l

pub there : {A : Type 0} (x y : A) (xs : List A) → Contains xs x → Contains (y ∷ xs) x
there x y xs c = Contains-append_right (y ∷ []) xs x c

pub here : {A : Type 0} (x : A) (xs : List A) → Contains (x ∷ xs) x
here x xs = (0, omega arith, refl)

pub got-for : (client : ℕ) (start journal : List Event) (refs : List ManifestRef) (old : List Listed) → WereGot client start refs old journal → (l : Listed) → Among old l → GotFor client start journal refs l
got-for client start journal [] [] z l a = absurd a
got-for client start journal [] (y ∷ ys) z l a = absurd z
got-for client start journal (m ∷ ms) [] z l a = absurd z
got-for client start journal (m ∷ ms) (y ∷ ys) z l a = elim a [
  | inl same ↦ record { ref = m; among = here m ms; got = subst (IsGot client start journal m) same z.0 }
  | inr later ↦ let r = got-for client start journal ms ys z.1 l later in record { ref = r.ref; among = there r.ref m ms r.among; got = r.got }
]

-- ---- what is known of a new list
-- an entry of the session has the object
pub record IsInEntries (entries : List (HeldEntry Place)) (object : Id12) : Type 0 where
  pub node : Id8
  pub index : List ℕ
  pub offset : ℕ
  pub size : ℕ
  pub entry : entry_in entries node index ≡ Some (Some (Object object offset size))

-- a manifest that the base names does
pub record IsInBase (s : SessionState) (journal : List Event) (object : Id12) : Type 0 where
  pub manifest : Id12
  pub named : NamesManifest s.rows manifest
  pub file : ManifestFile
  pub put : manifest_put (puts_of journal) manifest ≡ Some file
  pub names : NamesChunk file object

-- each object of a new manifest is the session's, or the base's
pub record IsFilled (s : SessionState) (journal : List Event) (m : NewManifest) : Type 0 where
  pub file : ManifestFile
  pub put : manifest_put (puts_of journal) m.id ≡ Some file
  pub chunks : (object : Id12) → NamesChunk file object → IsInEntries s.held.chunks object ⊎ IsInBase s journal object

filled-extends : (s : SessionState) (journal more : List Event) (m : NewManifest) → Extends (puts_of journal) (puts_of (journal ++ more)) → IsFilled s journal m → IsFilled s (journal ++ more) m
filled-extends s journal more m x f = record {
  file = f.file;
  put = x.manifests m.id f.file f.put;
  chunks = λ object n. elim (f.chunks object n) [
    | inl own ↦ inl own
    | inr old ↦ inr (record { manifest = old.manifest; named = old.named; file = old.file; put = x.manifests old.manifest old.file old.put; names = old.names })
  ];
}

pub record IsOwnNew (s : SessionState) (client : ℕ) (start journal : List Event) (m : NewManifest) : Type 0 where
  pub put : WasPut journal (Manifest m.id)
  pub own : PutItself client (Manifest m.id) start journal
  pub filled : IsOnce journal → IsFilled s journal m
  pub drawn : MayDrawObject s.ids m.id
  pub sized : IsSized m

pub record IsNewFor (s : SessionState) (client : ℕ) (start journal : List Event) (a : ChangedArray) (n : NewList) : Type 0 where
  pub path : n.path ≡ a.path
  pub known : (m : NewManifest) → n.manifest ≡ Some m → IsOwnNew s client start journal m
  pub list : IsOnce journal → Rewritten (puts_of journal) s.rows s.held.chunks a n.manifest

pub IsNewFor-append : (s : SessionState) (client : ℕ) (start journal more : List Event) → Each IsGood journal more → (a : ChangedArray) (n : NewList) → IsNewFor s client start journal a n → IsNewFor s client start (journal ++ more) a n
IsNewFor-append s client start journal more g a n k = record {
  path = k.path;
  known = λ m e. let o = k.known m e in record { put = WasPut-append journal more (Manifest m.id) o.put; own = PutItself-append client (Manifest m.id) start journal more o.own; filled = λ once. filled-extends s journal more m (puts-kept journal more g once) (o.filled (once-front journal more once)); drawn = o.drawn; sized = o.sized };
  list = λ once. rewritten-extends (puts_of journal) (puts_of (journal ++ more)) (puts-kept journal more g once) s.rows s.held.chunks a n.manifest (k.list (once-front journal more once));
}

abbrev pub AreNewFor : SessionState → ℕ → List Event → List ChangedArray → List NewList → List Event → Type 0
AreNewFor s client start arrays news journal = AllZip (IsNewFor s client start journal) arrays news

pub AreNewFor-append : (s : SessionState) (client : ℕ) (start : List Event) (arrays : List ChangedArray) (news : List NewList) (journal more : List Event) → Each IsGood journal more → AreNewFor s client start arrays news journal → AreNewFor s client start arrays news (journal ++ more)
AreNewFor-append s client start arrays news journal more g = zip-weaker (IsNewFor s client start journal) (IsNewFor s client start (journal ++ more)) (IsNewFor-append s client start journal more g) arrays news

-- what is known when the lists of these arrays are written
pub record Wrote (s : SessionState) (client : ℕ) (start : List Event) (arrays : List ChangedArray) (x : Written) (journal : List Event) : Type 0 where
  pub opened : IsOpened s journal
  pub nothing : ChangedNothing client start journal
  pub ids : IsLater s.ids x.ids
  pub lists : AreNewFor s client start arrays x.news journal
  pub listed : WereListed client s arrays x.news start journal
  pub behind : x.ids ≡ ids_behind s.ids x.news

-- nothing is written yet
pub none-written : (by : Caller) (s : SessionState) (start journal : List Event) → IsOpened s journal → ChangedNothing by.number start journal → Wrote s by.number start [] (unwritten s) journal
unfolding ids_behind AreInTurn
none-written by s start journal o c = record { opened = o; nothing = c; ids = later-same s.ids; lists = tt; listed = record { lists = tt; turn = tt }; behind = refl }

-- an own event that leaves the branches
pub Wrote-makes : (by : Caller) (s : SessionState) (start : List Event) (arrays : List ChangedArray) (x : Written) (op : Op) (reply : Reply) (old new : List Event) → IsPolite old op → (n : Makes by op reply old new) → ChangedNothing by.number start new → Wrote s by.number start arrays x old → Wrote s by.number start arrays x new
Wrote-makes by s start arrays x op reply old new polite n nothing k = record {
  opened = makes-keeps (IsOpened s) (IsOpened-append s) by op reply old new polite n k.opened;
  nothing = nothing;
  ids = k.ids;
  lists = makes-keeps (AreNewFor s by.number start arrays x.news) (AreNewFor-append s by.number start arrays x.news) by op reply old new polite n k.lists;
  listed = more-makes (WereListed by.number s arrays x.news start) (WereListed-append by.number s arrays x.news start) by op reply old new n k.listed;
  behind = k.behind;
}

-- the one array of a manifest
pub one-among : {A : Type 0} (x y : A) → Contains (x ∷ []) y → x ≡ y
one-among x y c = at c.0 c.1 c.2
  where
    at : (k : ℕ) → k < 1 → slice_index_or (x ∷ []) k y ≡ y → x ≡ y
    at zero l e = e
    at (suc k) l e = absurd (omega (arith, l))

pub no-chunks : (rank : ℕ) (node : Id8) (i : List ℕ) → chunk_place rank node i [] ≡ None
no-chunks rank node i = elim (nat_eq (length i) rank) as (λ b. cond {A = Option Place} b None None ≡ None) [ true ↦ refl | false ↦ refl ]

pub small-file : (n : ℕ) → nat_lt file_limit n ≡ false → n < 2 ^ 64
small-file n e = grind (arith, nat_tests)

pub small-refs : (n : ℕ) → nat_lt refs_limit n ≡ false → n < 2 ^ 32
small-refs n e = grind (arith, nat_tests)

pub too-many : (n : ℕ) → nat_lt refs_limit n ≡ true → refs_limit < n
too-many n e = grind (arith, nat_tests)
