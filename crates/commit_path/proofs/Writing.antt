-- What a commit does before its log is polite and owed, changes no branch, and leaves the new lists that its changes ask for.
use Rattle.std.proofs.Common.{◌≡◌, ◌⊎◌, inl, inr, ℕ, ◌<◌, Bool, true, false, cond, List, [], ◌∷◌, ◌++◌, length, refl, sym, ◌∙◌, ap, subst, append_assoc, append-nil}
use Rattle.std.specs.Prelude.{nat_lt, Option, Some, None, option_and_then, Result, Ok, Err}
use Rattle.std.specs.List.{AllByRecursion, Contains}
use Rattle.std.specs.Result.{result_ok}
use Rattle.std.proofs.lemmas.List.Elements.{All-contains, All-from_recursion, Contains-append_right}
use Rattle.ice_ids.specs.declared.Id12.{Id12}
use Rattle.ice_ids.specs.declared.drawing.AnyIds.{AnyIds}
use Rattle.ice_ids.specs.Text.{IsId8, initial_id}
use Rattle.ice_ids.specs.Drawing.{drawn12, after12}
use Rattle.ice_ids.proofs.Drawn.{drawn12-IsId12}
use Rattle.flat_tables.specs.declared.header.Kind.TheVariants as kinds
use Rattle.zarr_changes.specs.Sets.{chunks_of, changed_arrays}
use Rattle.manifest_file.specs.declared.manifest.Place.{Place}
use Rattle.manifest_file.specs.declared.manifest.ChunkRef.{ChunkRef}
use Rattle.manifest_file.specs.declared.manifest.ArrayRefs.{ArrayRefs}
use Rattle.manifest_file.specs.declared.manifest.ManifestFile.{ManifestFile}
use Rattle.manifest_file.specs.Manifests.{refs_limit}
use Rattle.manifest_file.specs.Layout.{file_bytes}
use Rattle.held_manifest.specs.LookUp.{Listed}
use Rattle.manifest_index.specs.Merging.{ChunkChange, merged, IsMerged, merged_array}
use Rattle.snapshot_file.specs.declared.nodes.ManifestRef.{ManifestRef}
use Rattle.repo_objects.specs.declared.bad_objects.Bad.{Bad}
use Rattle.repo_objects.specs.Readings.{read_manifest, manifest_by}
use Rattle.repo_objects.specs.Trees.{NamesManifest, NamesChunk}
use Rattle.object_store.specs.declared.keys.Key.TheVariants.{Manifest}
use Rattle.object_store.specs.declared.keys.Why.TheVariants.{Set}
use Rattle.object_store.specs.declared.events.Version.{Version}
use Rattle.object_store.specs.declared.events.Op.{Op}
use Rattle.object_store.specs.declared.events.Op.TheVariants.{Get, PutNew}
use Rattle.object_store.specs.declared.events.Got.TheVariants.{Found, Absent}
use Rattle.object_store.specs.declared.events.New.TheVariants.{Done as New_done, Present}
use Rattle.object_store.specs.declared.events.Reply.{Reply}
use Rattle.object_store.specs.declared.events.Reply.TheVariants.{Got as Is_got, New as Is_new, Failed}
use Rattle.object_store.specs.declared.events.Event.{Event}
use Rattle.store_api.specs.declared.machines.Refusal.{Refusal}
use Rattle.store_api.specs.declared.machines.Refusal.TheVariants as R
use Rattle.object_store.specs.Machine.{found}
use Rattle.store_api.specs.Journal.{IsOnce, IsPolite, ChunksKnown}
use Rattle.store_api.specs.Callers.{Caller, Makes}
use Rattle.store_api.specs.Program.{Done, Ask}
use Rattle.repo_read.specs.Answers.{at_key, manifest_told}
use Rattle.session.specs.Sessions.{SessionState, base_nodes}
use Rattle.zarr_changes.specs.declared.chunks.ChangedArray.{ChangedArray}
use Rattle.changed_snapshot.specs.declared.new_snapshot.NewManifest.{NewManifest}
use Rattle.changed_snapshot.specs.Rows.{own_manifests}
use Rattle.manifest_index.specs.Laws.{IsNewList}
use Rattle.manifest_index.specs.Extents.{extents_for}
use Rattle.session.specs.Sources.{IsLater, MayDrawObject}
use Rattle.repo_read.specs.Programs.{manifest_program}
use Rattle.commit_path.specs.Committing.{Written, manifest_for, with_list, with_manifest, after_manifest, put_manifest, write_array, old_program, array_program, arrays_program, is_long}
use Rattle.commit_path.specs.Owed.{Sessions}
use Rattle.reach.specs.Own.{PutsItself}
use Rattle.commit_path.specs.Answered.{IsManifestOf, IsListed, ids_behind, IsNext, WereListed, IsOfCommit, CommitTells}
use Rattle.store_api.specs.Telling.{ChangedNothing}
use Rattle.commit_path.specs.Opened.{IsOpened}
use Rattle.commit_path.specs.Spelled.{IsSpelled}
use Rattle.commit_path.proofs.Sources.{later-later, later-drawn12, object-drawn, object-later}
use Rattle.commit_path.proofs.Walks.{Walks, Ends, walks-done, walks-ask, walks-then}
use Rattle.commit_path.proofs.Rewriting.{zip-push, IsChanged, each-changed, Among}
use Rattle.commit_path.proofs.Spelling.{Spellings, node-id, not-long}
use Rattle.commit_path.proofs.Named.{own-named, own-sized}
use Rattle.commit_path.proofs.Chunking.{IsFrom, all-from, IsFineOld, proper-new, extents-fine}
use Rattle.store_api.proofs.Telling.{DidPut, get-had, put-did, makes-keeps}
use Rattle.store_api.proofs.Happening.{own-made, ChangedNothing-makes, manifest-leaves, stands-as, new-present, failed-made, got-nothing, got-made, absent-made}
use Rattle.commit_path.proofs.Listing.{ids-push, turn-push}
use Rattle.commit_path.proofs.Minding.{IsMinded}
use Rattle.commit_path.proofs.Having.{IsInEntries, IsInBase, IsGot, WereGot, WereGot-append, got-told, got-read, there, here, got-for, IsOwnNew, IsNewFor, Wrote, Wrote-makes, one-among, no-chunks, small-file, small-refs, too-many}

module _ (L : Spellings) (by : Caller) (ids : AnyIds) (mine : Sessions) (s : SessionState) (message : List ℕ) (later : IsLater ids s.ids) (w : IsSpelled s) (start : List Event) where
  abbrev Careful : List Event → ℕ → Op → Type 0
  Careful = IsMinded ids mine s start

  abbrev Nothing : List Event → Type 0
  Nothing = ChangedNothing by.number start

  abbrev Refused : Refusal → List Event → Type 0
  Refused why journal = CommitTells by.number s message start (Err why) journal

  abbrev Knows : List ChangedArray → Written → List Event → Type 0
  Knows arrays x journal = Wrote s by.number start arrays x journal

  -- ---- the manifests of a list are got
  module _ (arrays : List ChangedArray) (x : Written) where
    abbrev Seen : List ManifestRef → List Listed → List Event → Type 0
    Seen refs old journal = WereGot by.number start refs old journal × Knows arrays x journal

    abbrev SeenMore : List ManifestRef → List Listed → ManifestRef → ManifestFile → List Event → Type 0
    SeenMore refs old m file journal = Seen (refs ++ m ∷ []) (old ++ (m.extents, file) ∷ []) journal

    file-read : (refs : List ManifestRef) (seen : List Listed) (m : ManifestRef) (bytes : List ℕ) (version : Version) (now : ℕ) (old new : List Event) → NamesManifest s.rows m.id → Seen refs seen old → Makes by (Get (Manifest m.id)) (Is_got (Found bytes version now)) old new
        → (r : Result ManifestFile Bad) → read_manifest m.id bytes ≡ r → Walks Careful Nothing (Ends (SeenMore refs seen m) Refused) by (Done (at_key (Manifest m.id) r)) new
    file-read refs seen m bytes version now old new named k n (Err bad) e =
        walks-done Careful Nothing (Ends (SeenMore refs seen m) Refused) by (Err (R.BadFile (Manifest m.id) bad)) new (
          record { manifest = m.id; named = named; key_is = refl; bytes = bytes; version = version.0; got = got-made by start (Manifest m.id) bytes version now old new n k.1.nothing; unread = e },
          got-nothing by start (Manifest m.id) (Is_got (Found bytes version now)) old new n k.1.nothing,
        )
    file-read refs seen m bytes version now old new named k n (Ok file) e =
        let had = get-had by (Manifest m.id) bytes version now old new n in
        let reply : Reply = Is_got (Found bytes version now) in
        let got : IsGot by.number start new m (m.extents, file) = record {
          told = record { bytes = bytes; version = version.0; got = got-made by start (Manifest m.id) bytes version now old new n k.1.nothing; read = ap result_ok e; extents = refl };
          stood = had.stood;
          now = λ once. record { extents = refl; put = ap (option_and_then (manifest_by m.id)) had.last ∙ ap result_ok e };
        } in
        walks-done Careful Nothing (Ends (SeenMore refs seen m) Refused) by (Ok file) new (
          zip-push (IsGot by.number start new) refs seen m (m.extents, file) (makes-keeps (WereGot by.number start refs seen) (WereGot-append by.number start refs seen) by (Get (Manifest m.id)) reply old new tt n k.0) got,
          Wrote-makes by s start arrays x (Get (Manifest m.id)) reply old new tt n (got-nothing by start (Manifest m.id) reply old new n k.1.nothing) k.1,
        )

    file-told : (refs : List ManifestRef) (seen : List Listed) (m : ManifestRef) (reply : Reply) (old new : List Event) → NamesManifest s.rows m.id → Seen refs seen old → Makes by (Get (Manifest m.id)) reply old new
        → Walks Careful Nothing (Ends (SeenMore refs seen m) Refused) by (Done (manifest_told m.id reply)) new
    file-told refs seen m (Is_got (Found bytes version now)) old new named k n = file-read refs seen m bytes version now old new named k n (read_manifest m.id bytes) refl
    file-told refs seen m (Is_got (Absent now)) old new named k n =
        walks-done Careful Nothing (Ends (SeenMore refs seen m) Refused) by (Err (R.Missing (Manifest m.id))) new (
          record { manifest = m.id; named = named; key_is = refl; absent = absent-made by start (Manifest m.id) now old new n k.1.nothing },
          got-nothing by start (Manifest m.id) (Is_got (Absent now)) old new n k.1.nothing,
        )
    file-told refs seen m (Failed d) old new named k n =
        walks-done Careful Nothing (Ends (SeenMore refs seen m) Refused) by (Err R.StoreFault) new
        (failed-made by (IsOfCommit s) start (Get (Manifest m.id)) d old new (inl (m.id, named, refl)) n k.1.nothing, got-nothing by start (Manifest m.id) (Failed d) old new n k.1.nothing)
    file-told refs seen m _ old new named k n = let e = n.answered.answered in absurd (cc)

    manifest-walks : (refs : List ManifestRef) (seen : List Listed) (m : ManifestRef) (journal : List Event) → NamesManifest s.rows m.id → Seen refs seen journal → Walks Careful Nothing (Ends (SeenMore refs seen m) Refused) by (manifest_program m.id) journal
    manifest-walks refs seen m journal named k =
        walks-ask Careful Nothing (Ends (SeenMore refs seen m) Refused) by (Get (Manifest m.id)) (λ reply. Done (manifest_told m.id reply)) journal (record { polite = tt; owes = tt }, tt) k.1.nothing
        (λ reply new n. (λ off. got-nothing by start (Manifest m.id) reply journal new n k.1.nothing, file-told refs seen m reply journal new named k n))

    pub old-walks : (refs front more : List ManifestRef) (seen : List Listed) (journal : List Event) → front ++ more ≡ refs → ((m : ManifestRef) → Contains more m → NamesManifest s.rows m.id) → Seen front seen journal → Walks Careful Nothing (Ends (Seen refs) Refused) by (old_program more seen) journal
    unfolding old_program
    old-walks refs front [] seen journal split named k = walks-done Careful Nothing (Ends (Seen refs) Refused) by (Ok seen) journal (subst (λ (r : List ManifestRef). Seen r seen journal) (sym (append-nil front) ∙ split) k)
    old-walks refs front (m ∷ more) seen journal split named k =
        walks-then Careful Nothing (SeenMore front seen m) Refused (Ends (Seen refs) Refused) by (manifest_program m.id) (λ file. old_program more (seen ++ (m.extents, file) ∷ [])) journal
        (manifest-walks front seen m journal (named m (here m more)) k)
        (λ file h q. old-walks refs (front ++ m ∷ []) more (seen ++ (m.extents, file) ∷ []) h (append_assoc front (m ∷ []) more ∙ split) (λ n c. named n (there n m more c)) q)
        (λ why h e. e)

  -- ---- an array's manifest is put
  module _ (arrays : List ChangedArray) (x : Written) (a : ChangedArray) (among : Contains (changed_arrays s.held (base_nodes s)) a) (others : List ChangedArray) (split : arrays ++ a ∷ others ≡ changed_arrays s.held (base_nodes s)) (old : List Listed) where
    abbrev Own : List ManifestRef
    Own = own_manifests s.rows a.path a.node

    abbrev change : List ChunkChange
    change = chunks_of s.held.chunks a.node

    abbrev Done_with : Written → List Event → Type 0
    Done_with y journal = Knows (arrays ++ a ∷ []) y journal

    abbrev Ended : Result Written Refusal → List Event → Type 0
    Ended = Ends Done_with Refused

    is-changed : IsChanged s.held (base_nodes s) a
    is-changed = All-contains (IsChanged s.held (base_nodes s)) (changed_arrays s.held (base_nodes s)) a (All-from_recursion (IsChanged s.held (base_nodes s)) (changed_arrays s.held (base_nodes s)) (each-changed s.held (base_nodes s))) among

    array-id : IsId8 a.node
    array-id = let c = is-changed in subst IsId8 c.same (node-id s w a.path c.node c.found)

    fine-old : (journal : List Event) → WereGot by.number start Own old journal → (l : Listed) → Among old l → IsFineOld l
    fine-old journal z l b =
        let g = got-for by.number start journal Own old z l b in
        record {
          proper = L.manifest.read g.ref.id g.got.told.bytes l.1 g.got.told.read;
          extents = subst (AllByRecursion _) (sym g.got.told.extents) (own-sized s w a.path a.node g.ref g.among);
        }

    -- one more list
    listed-push : (journal : List Event) → WereGot by.number start Own old journal → WereListed by.number s arrays x.news start journal → (m : Option NewManifest) → IsManifestOf by.number a.rank (merged_array a.rank a.node old change) m start journal → IsNext (ids_behind s.ids x.news) m
        → WereListed by.number s (arrays ++ a ∷ []) (x.news ++ record { path = a.path; manifest = m } ∷ []) start journal
    listed-push journal z l m is next = record {
      lists = zip-push (IsListed by.number s start journal) arrays x.news a (record { path = a.path; manifest = m }) l.lists (record { path = refl; old = old; read = got-told by.number start journal Own old z; manifest = is });
      turn = turn-push s.ids x.news (record { path = a.path; manifest = m }) l.turn next;
    }

    -- the list of an array without chunks
    none-walks : (journal : List Event) → WereGot by.number start Own old journal → Knows arrays x journal → merged_array a.rank a.node old change ≡ None → ((i : List ℕ) → merged a.rank a.node old change i ≡ None) → Walks Careful Nothing Ended by (Done (Ok (with_list x a None))) journal
    none-walks journal z k is none_left =
        walks-done Careful Nothing Ended by (Ok (with_list x a None)) journal
        (record {
          opened = k.opened;
          nothing = k.nothing;
          ids = k.ids;
          lists = zip-push (IsNewFor s by.number start journal) arrays x.news a (record { path = a.path; manifest = None }) k.lists (record {
            path = refl;
            known = λ m e. cc;
            list = λ once. record { old = old; new = []; was = got-read by.number start journal Own old z once; is = tt; same = λ i. no-chunks a.rank a.node i ∙ sym (none_left i) };
          });
          listed = listed-push journal z k.listed None (subst (λ (o : Option ArrayRefs). IsManifestOf by.number a.rank o None start journal) (sym is) tt) tt;
          behind = k.behind ∙ sym (ids-push s.ids x.news (record { path = a.path; manifest = None }));
        })

    module _ (array : ArrayRefs) (is_array : merged_array a.rank a.node old change ≡ Some array) (is : IsMerged a.rank a.node old change (Some array)) (lists : IsNewList a.rank a.node old change (Some array)) (few : nat_lt refs_limit (length array.refs) ≡ false) (id : Id12) (drawn : drawn12 x.ids ≡ Some id) (short : is_long (file_bytes (manifest_for id array)) ≡ false) where
      abbrev bytes : List ℕ
      bytes = file_bytes (manifest_for id array)

      abbrev put : Op
      put = PutNew (Manifest id) bytes Set

      abbrev new_manifest : NewManifest
      new_manifest = record { id = id; extents = extents_for a.rank array.refs; size = length bytes; refs = length array.refs }

      read : (journal : List Event) → WereGot by.number start Own old journal → manifest_by id bytes ≡ Some (manifest_for id array)
      read journal z = L.manifest.written (manifest_for id array) (proper-new a.node s.held.chunks old w.chunks (fine-old journal z) a.rank array is id (drawn12-IsId12 x.ids id drawn) array-id few) (not-long bytes short)

      may-draw : IsLater s.ids x.ids → MayDrawObject s.ids id
      may-draw l = object-drawn s.ids x.ids id l drawn

      chunk-known : (journal : List Event) → WereGot by.number start Own old journal → IsOpened s journal → ChunksKnown journal (Some (manifest_for id array))
      chunk-known journal z o object n =
          let same : array ≡ n.array = one-among array n.array n.among in
          let from : IsFrom a.node s.held.chunks old n.chunk.index n.chunk.place = All-contains (λ (r : ChunkRef). IsFrom a.node s.held.chunks old r.index r.place) array.refs n.chunk (All-from_recursion _ array.refs (all-from a.rank a.node s.held.chunks old array is)) (subst (λ (y : ArrayRefs). Contains y.refs n.chunk) (sym same) n.has) in
          elim from [
            | inl e ↦ inl (o.objects a.node n.chunk.index object n.offset n.size (e ∙ ap (λ (p : Place). Some (Some p)) n.is))
            | inr f ↦
                let g = got-for by.number start journal Own old z f.listed f.among in
                inr (record {
                  id = g.ref.id;
                  version = g.got.told.version;
                  bytes = g.got.told.bytes;
                  stood = g.got.stood;
                  manifest = f.listed.1;
                  read = g.got.told.read;
                  names = record { array = f.array; among = f.array_in; chunk = f.chunk; has = f.chunk_in; offset = n.offset; size = n.size; is = f.place_is ∙ n.is };
                })
          ]

      -- each object of the new manifest is the session's, or the base's
      chunk-from : (journal : List Event) → WereGot by.number start Own old journal → IsOnce journal → (object : Id12) → NamesChunk (manifest_for id array) object → IsInEntries s.held.chunks object ⊎ IsInBase s journal object
      chunk-from journal z once object n =
          let same : array ≡ n.array = one-among array n.array n.among in
          let from : IsFrom a.node s.held.chunks old n.chunk.index n.chunk.place = All-contains (λ (r : ChunkRef). IsFrom a.node s.held.chunks old r.index r.place) array.refs n.chunk (All-from_recursion _ array.refs (all-from a.rank a.node s.held.chunks old array is)) (subst (λ (y : ArrayRefs). Contains y.refs n.chunk) (sym same) n.has) in
          elim from [
            | inl e ↦ inl (record { node = a.node; index = n.chunk.index; offset = n.offset; size = n.size; entry = e ∙ ap (λ (p : Place). Some (Some p)) n.is })
            | inr f ↦
                let g = got-for by.number start journal Own old z f.listed f.among in
                inr (record {
                  manifest = g.ref.id;
                  named = own-named s.rows a.path a.node g.ref g.among;
                  file = f.listed.1;
                  put = (g.got.now once).put;
                  names = record { array = f.array; among = f.array_in; chunk = f.chunk; has = f.chunk_in; offset = n.offset; size = n.size; is = f.place_is ∙ n.is };
                })
          ]

      put-polite : (journal : List Event) → WereGot by.number start Own old journal → IsOpened s journal → IsPolite journal (PutNew (Manifest id) (file_bytes (manifest_for id array)) Set)
      put-polite journal z o = subst (ChunksKnown journal) (sym (read journal z)) (chunk-known journal z o)

      put-nothing : (reply : Reply) (before new : List Event) → Makes by put reply before new → Nothing before → Nothing new
      put-nothing reply before new n c = ChangedNothing-makes by start put reply before new n (manifest-leaves by id bytes Set reply n.time n.middle) c

      -- the list with the new manifest
      did-put : (version : Version) (now : ℕ) (before new : List Event) → WereGot by.number start Own old before → Knows arrays x before → Makes by put (Is_new (New_done version now)) before new → Done_with (with_manifest x a array id) new
      did-put version now before new z k n =
          let reply : Reply = Is_new (New_done version now) in
          let polite = put-polite before z k.opened in
          let d : DidPut new (Manifest id) bytes = put-did by (Manifest id) bytes Set version now before new (λ j first free. first.0 free) n in
          let k' = Wrote-makes by s start arrays x put reply before new polite n (put-nothing reply before new n k.nothing) k in
          let z' = makes-keeps (WereGot by.number start Own old) (WereGot-append by.number start Own old) by put reply before new polite n z in
          let itself : PutsItself by.number (Manifest id) bytes start new = record { version = version; now = now; own = own-made by start put reply before new n k.nothing } in
          record {
            opened = k'.opened;
            nothing = k'.nothing;
            ids = later-later s.ids x.ids (after12 x.ids) k.ids (later-drawn12 x.ids);
            lists = zip-push (IsNewFor s by.number start new) arrays x.news a (record { path = a.path; manifest = Some new_manifest }) k'.lists (record {
              path = refl;
              known = λ m e. let same : new_manifest ≡ m = cc in subst (IsOwnNew s by.number start new) same (record {
                put = d.put;
                own = record { bytes = bytes; put = itself };
                filled = λ once. record { file = manifest_for id array; put = ap (option_and_then (manifest_by id)) d.last ∙ read before z; chunks = chunk-from new z' once };
                drawn = may-draw k.ids;
                sized = record {
                  id = drawn12-IsId12 x.ids id drawn;
                  extents = extents-fine a.node s.held.chunks old w.chunks (fine-old before z) a.rank array is L.extents;
                  size = small-file (length bytes) short;
                  refs = small-refs (length array.refs) few;
                };
              });
              list = λ once. record {
                old = old;
                new = (extents_for a.rank array.refs, manifest_for id array) ∷ [];
                was = got-read by.number start new Own old z' once;
                is = (record { extents = refl; put = ap (option_and_then (manifest_by id)) d.last ∙ read before z }, tt);
                same = λ i. lists id i;
              };
            });
            listed = listed-push new z' k'.listed (Some new_manifest) (subst (λ (o : Option ArrayRefs). IsManifestOf by.number a.rank o (Some new_manifest) start new) (sym is_array) (refl, itself)) (subst (λ (i : AnyIds). drawn12 i ≡ Some id) k.behind drawn);
            behind = ap after12 k.behind ∙ sym (ids-push s.ids x.news (record { path = a.path; manifest = Some new_manifest }));
          }

      put-told : (reply : Reply) (before new : List Event) → WereGot by.number start Own old before → Knows arrays x before → Makes by put reply before new → Walks Careful Nothing Ended by (after_manifest (with_manifest x a array id) id reply) new
      put-told (Is_new (New_done version now)) before new z k n = walks-done Careful Nothing Ended by (Ok (with_manifest x a array id)) new (did-put version now before new z k n)
      put-told (Is_new (Present version now)) before new z k n =
          let there_is = new-present (length n.middle) n.time (found n.middle (Manifest id)) version now n.answered.answered in
          walks-done Careful Nothing Ended by (Err (R.IdTaken (Manifest id))) new (
            record {
              id = id;
              drawn = may-draw k.ids;
              which = inr (inr refl);
              bytes = bytes;
              version = version;
              now = now;
              own = own-made by start put (Is_new (Present version now)) before new n k.nothing;
              there = stands-as n.middle (Manifest id) there_is.stored version.0 there_is.stands there_is.version_is;
            },
            put-nothing (Is_new (Present version now)) before new n k.nothing,
          )
      put-told (Failed d) before new z k n =
          walks-done Careful Nothing Ended by (Err R.StoreFault) new (failed-made by (IsOfCommit s) start put d before new (inr (id, bytes, may-draw k.ids, inl refl)) n k.nothing, put-nothing (Failed d) before new n k.nothing)
      put-told _ before new z k n = let e = n.answered.answered in absurd (cc)

      put-walks : (journal : List Event) → WereGot by.number start Own old journal → Knows arrays x journal → Walks Careful Nothing Ended by (Ask (PutNew (Manifest id) (file_bytes (manifest_for id array)) Set) (after_manifest (with_manifest x a array id) id)) journal
      put-walks journal z k =
          walks-ask Careful Nothing Ended by put (after_manifest (with_manifest x a array id) id) journal
          (record { polite = put-polite journal z k.opened; owes = object-later ids s.ids id later (may-draw k.ids) }, tt) k.nothing
          (λ reply new n. (λ off. put-nothing reply journal new n k.nothing, put-told reply journal new z k n))

    -- ---- too many chunks, no id, or too long a file
    module _ (array : ArrayRefs) (is_array : merged_array a.rank a.node old change ≡ Some array) (is : IsMerged a.rank a.node old change (Some array)) (lists : IsNewList a.rank a.node old change (Some array)) (journal : List Event) (z : WereGot by.number start Own old journal) (k : Knows arrays x journal) where
      too_many : (id : Id12) → (refs_limit < length array.refs) ⊎ (MayDrawObject s.ids id × (is_long (file_bytes (manifest_for id array)) ≡ true)) → Walks Careful Nothing Ended by (Done (Err (R.TooLarge kinds.Manifest))) journal
      too_many id cause = walks-done Careful Nothing Ended by (Err (R.TooLarge kinds.Manifest)) journal (record { array = a; among = among; old = old; read = got-told by.number start journal Own old z; refs = array; merged = is_array; id = id; cause = cause }, k.nothing)

      by_length : (few : nat_lt refs_limit (length array.refs) ≡ false) (id : Id12) (drawn : drawn12 x.ids ≡ Some id) (b : Bool) → is_long (file_bytes (manifest_for id array)) ≡ b
          → Walks Careful Nothing Ended by (cond b (Done (Err (R.TooLarge kinds.Manifest))) (Ask (PutNew (Manifest id) (file_bytes (manifest_for id array)) Set) (after_manifest (with_manifest x a array id) id))) journal
      by_length few id drawn true e = too_many id (inr (object-drawn s.ids x.ids id k.ids drawn, e))
      by_length few id drawn false e = put-walks array is_array is lists few id drawn e journal z k

      by_draw : (few : nat_lt refs_limit (length array.refs) ≡ false) (o : Option Id12) → drawn12 x.ids ≡ o → Walks Careful Nothing Ended by (put_manifest x a array o) journal
      by_draw few None e =
          walks-done Careful Nothing Ended by (Err R.IdsSpent) journal (
            record { front = arrays; left = a ∷ others; are = split; news = x.news; listed = k.listed; needs = record { old = old; read = got-told by.number start journal Own old z; refs = array; merged = is_array }; spent = subst (λ (i : AnyIds). drawn12 i ≡ None) k.behind e },
            k.nothing,
          )
      by_draw few (Some id) e = by_length few id e (is_long (file_bytes (manifest_for id array))) refl

      by_number : (b : Bool) → nat_lt refs_limit (length array.refs) ≡ b → Walks Careful Nothing Ended by (cond b (Done (Err (R.TooLarge kinds.Manifest))) (put_manifest x a array (drawn12 x.ids))) journal
      by_number true e = too_many initial_id (inl (too-many (length array.refs) e))
      by_number false e = by_draw e (drawn12 x.ids) refl

    pub write-walks : (journal : List Event) → WereGot by.number start Own old journal → Knows arrays x journal → Walks Careful Nothing Ended by (write_array x a (merged_array a.rank a.node old change)) journal
    write-walks journal z k = by_array (merged_array a.rank a.node old change) refl
      where
        by_array : (o : Option ArrayRefs) → merged_array a.rank a.node old change ≡ o → Walks Careful Nothing Ended by (write_array x a o) journal
        by_array None e = none-walks journal z k e (subst (IsNewList a.rank a.node old change) e (L.lists a.rank a.node old change))
        by_array (Some array) e =
            by_number array e (subst (IsMerged a.rank a.node old change) e (L.merged.merged a.rank a.node old change)) (subst (IsNewList a.rank a.node old change) e (L.lists a.rank a.node old change)) journal z k
            (nat_lt refs_limit (length array.refs)) refl

  -- ---- the arrays
  abbrev changed : List ChangedArray
  changed = changed_arrays s.held (base_nodes s)

  array-walks : (arrays others : List ChangedArray) (x : Written) (a : ChangedArray) (journal : List Event) → arrays ++ a ∷ others ≡ changed_arrays s.held (base_nodes s) → Contains (changed_arrays s.held (base_nodes s)) a → Knows arrays x journal → Walks Careful Nothing (Ends (Knows (arrays ++ a ∷ [])) Refused) by (array_program s.rows s.held.chunks x a) journal
  array-walks arrays others x a journal split among k =
      walks-then Careful Nothing (Seen arrays x (own_manifests s.rows a.path a.node)) Refused (Ends (Knows (arrays ++ a ∷ [])) Refused) by (old_program (own_manifests s.rows a.path a.node) []) (λ old. write_array x a (merged_array a.rank a.node old (chunks_of s.held.chunks a.node))) journal
      (old-walks arrays x (own_manifests s.rows a.path a.node) [] (own_manifests s.rows a.path a.node) [] journal refl (own-named s.rows a.path a.node) (tt, k))
      (λ old h q. write-walks arrays x a among others split old h q.0 q.1)
      (λ why h e. e)

  pub arrays-walks : (arrays more : List ChangedArray) (x : Written) (journal : List Event) → arrays ++ more ≡ changed_arrays s.held (base_nodes s) → Knows arrays x journal → Walks Careful Nothing (Ends (Knows (changed_arrays s.held (base_nodes s))) Refused) by (arrays_program s.rows s.held.chunks more x) journal
  unfolding arrays_program
  arrays-walks arrays [] x journal split k = walks-done Careful Nothing (Ends (Knows changed) Refused) by (Ok x) journal (subst (λ (l : List ChangedArray). Knows l x journal) (sym (append-nil arrays) ∙ split) k)
  arrays-walks arrays (a ∷ more) x journal split k =
      walks-then Careful Nothing (Knows (arrays ++ a ∷ [])) Refused (Ends (Knows changed) Refused) by (array_program s.rows s.held.chunks x a) (arrays_program s.rows s.held.chunks more) journal
      (array-walks arrays more x a journal split (subst (λ (l : List ChangedArray). Contains l a) split (Contains-append_right arrays (a ∷ more) a (here a more))) k)
      (λ y h q. arrays-walks (arrays ++ a ∷ []) more y h (append_assoc arrays (a ∷ []) more ∙ split) q)
      (λ why h e. e)
