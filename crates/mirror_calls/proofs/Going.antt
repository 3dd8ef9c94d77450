-- What a mirror does and tells, whatever it is answered: from its program, once and for all.
use Rattle.std.proofs.Common.{◌≡◌, ◌≢◌, ◌⊎◌, ℕ, zero, suc, inl, inr, Bool, true, false, List, [], ◌∷◌, refl, sym, ◌∙◌, subst, arith}
use Rattle.std.specs.Prelude.{◌+◌, ◌≤◌, length, if◌then◌else◌, IfSome, Option, Some, None, Result, Ok, Err, Contains}
use Rattle.std.proofs.lemmas.List.Elements.{Contains-append_left, Contains-push, Contains-push_cases}
use Rattle.ice_ids.specs.declared.Id12.{Id12}
use Rattle.ice_ids.specs.Text.{IsId12, same_id12, initial_id}
use Rattle.ice_ids.specs.Sets.{has_object}
use Rattle.ice_ids.proofs.TextLaws.{same_id12-true, same_id12-self}
use Rattle.snapshot_file.specs.declared.snapshot.SnapshotFile.{SnapshotFile}
use Rattle.manifest_file.specs.declared.manifest.ManifestFile.{ManifestFile}
use Rattle.held_manifest.specs.Objects.{objects_of}
use Rattle.held_manifest.specs.Laws.{ObjectsLaw}
use Rattle.ref_file.specs.Refs.{ref_bytes}
use Rattle.repo_objects.specs.Readings.{read_snapshot, read_manifest, read_log, snapshot_by, manifest_by}
use Rattle.repo_objects.specs.Trees.{NamesManifest}
use Rattle.repo_objects.specs.Laws.{SnapshotLaw}
use Rattle.object_store.specs.declared.keys.Key.{Key}
use Rattle.object_store.specs.declared.keys.Key.TheVariants.{Snapshot, Manifest, Txn, Chunk, Tag, Tombstone}
use Rattle.object_store.specs.declared.keys.Part.{Part}
use Rattle.object_store.specs.declared.keys.Part.TheVariants as part
use Rattle.object_store.specs.declared.keys.Why.TheVariants.{Reset}
use Rattle.object_store.specs.declared.events.Version.{Version}
use Rattle.object_store.specs.declared.events.Op.{Op}
use Rattle.object_store.specs.declared.events.Op.TheVariants.{Get, PutNew, PutOver, List as ListPart}
use Rattle.object_store.specs.declared.events.New.TheVariants.{Done as New_done, Present}
use Rattle.object_store.specs.declared.events.Reply.{Reply}
use Rattle.object_store.specs.declared.events.Reply.TheVariants as R
use Rattle.store_api.specs.declared.machines.Refusal.{Refusal}
use Rattle.store_api.specs.declared.machines.Refusal.TheVariants.{TooDeep, Differs}
use Rattle.store_api.specs.Callers.{Fits}
use Rattle.repo_read.specs.declared.answers.Resolved.{Resolved}
use Rattle.repo_read.specs.Answers.{at_key, snapshot_told}
use Rattle.repo_read.specs.Chains.{most_snapshots}
use Rattle.live_refs.specs.Live.{live}
use Rattle.two_stores.specs.declared.side.Side.{Side}
use Rattle.two_stores.specs.declared.side.Side.TheVariants.{From, To}
use Rattle.two_stores.specs.Pairs.{Done, Ask, is_ref, moves_ref}
use Rattle.mirror_reports.specs.declared.outcome.RefId.{RefId}
use Rattle.mirror_reports.specs.declared.outcome.MirrorRef.{MirrorRef}
use Rattle.mirror_reports.specs.declared.outcome.Mirrored.{Mirrored}
use Rattle.mirror_reports.specs.Told.{key_of, listed_told, bytes_told, ref_told, buried_told, put_told, made_told, moved_told, file_under}
use Rattle.mirror.specs.declared.lines.Link.{Link}
use Rattle.repo_objects.specs.Lines.{Line, found, enter_ids, enter_rows}
use Rattle.mirror.specs.Programs.{Work, Answer, no_work, refused, on_told, asks, counted, with_put, cause_of, fits_there, unless_differs, compare, put_behind, put_object, take_object, copy_chunks, with_chunks, with_manifest, copy_manifest, copy_manifests, copy_log, with_copied, put_snapshot, with_manifests, with_snapshot, copy_snapshot, copy_line, down, down_onto, down_behind, with_ref, make_ref, move_ref, unless_buried, see_tag, see_branch, see_ref, point, behind_ref, copy_ref, copy_refs, ref_ids, copy_part, finish, copy_tags, mirror_program}
use Rattle.mirror.proofs.Parts.{log-behind, down-onto}
use Rattle.repo_objects.proofs.Entering.{enters-ids, enters-rows, Enters}
use Rattle.ice_ids.proofs.OneMore.{Has, only-with}
use Rattle.ice_ids.proofs.Elements.{first-or-later, none-in}
use Rattle.mirror_calls.specs.Deeds.{Deed, HasGot, HasMissed, HasRef}
use Rattle.mirror_calls.specs.Copies.{IsThere, IsCopied, AreChunksCopied, IsManifestCopied, IsNamedCopied, SaysBut, IsSnapshotCopied, HasParent, IsChainCopied, first, further}
use Rattle.mirror_calls.specs.Owed.{MayPoint, MayMake, MayMove, MayPut, MayCopyOver, MayDo}
use Rattle.mirror_calls.specs.Reports.{IsRef, IsObject, IsPointed, NotBuried, IsMirrored, IsToldOf, IsPartDone, put_by, count_deed, counts_of, snapshot_gets, IsLine, WasDeep, IsFine, DifferInParent, HasOther, other_object, other_snapshot, has_tombstone, IsCompared, AreCompared, Cause, Reports}
use Rattle.mirror_calls.proofs.Later.{Later, later-same, later-both, later-step, with-deed, did-now, did-later, got-later, missed-later, ref-later, copied-later, chunks-later, manifest-later, named-later, parent-later, chain-later, before-later, mirrored-later, tally-same, tally-more, gets-append, Puts, puts-same, puts-with, puts-left, still-none, Unmet, compared-none, ButOne, same-put, but-one, one-compared}
use Rattle.mirror_calls.proofs.Causes.{ok-err, key-ok, cause-bytes, bytes-got, cause-bad, cause-snapshot, parent-told, cause-ref, ref-got, ref-missed, cause-buried, buried-got, buried-missed, cause-listed, listed-now, cause-put, cause-made, made-now, cause-moved, moved-now, object-no-ref, made-none, made-put, moved-none, moved-put}
use Rattle.mirror_calls.proofs.Files.{Under, file-says, under-long, is-fine, not-fine, fine-self, fine-long}

-- Each operation to come is owed, and what is told at the end is so, by what was done so far.
unfoldable pub Goes : Answer → List Deed → Type 0
Goes (Done end) deeds = Reports deeds end
Goes (Ask side op starved next) deeds =
    MayDo deeds side op × Reports deeds starved × ((reply : Reply) → Fits op reply → (moves_ref op ≡ false → Reports (with-deed deeds side op reply) starved) × Goes (next reply) (with-deed deeds side op reply))

abbrev Next : Type 0
Next = Work → Answer

-- what is told of refs is so
abbrev Tells : List Deed → Work → Type 0
Tells deeds w = (r : MirrorRef) → Contains w.refs r → IsMirrored deeds r

tells-later : {old new : List Deed} (w : Work) → Later old new → Tells old w → Tells new w
tells-later w l t r c = mirrored-later l (t r c)

-- what was put is counted, and the refs that were are told
abbrev Counted : List Deed → Work → Type 0
Counted deeds w = (w.counts ≡ counts_of deeds) × Puts deeds w.refs

-- ... and what stood there already is compared
abbrev Tallied : List Deed → Work → Type 0
Tallied deeds w = (w.counts ≡ counts_of deeds) × Puts deeds w.refs × AreCompared deeds

-- ---- one operation
goes-refused : (w : Work) (why : Refusal) (deeds : List Deed) → Tells deeds w → Puts deeds w.refs → Cause deeds why → Goes (refused w why) deeds
unfolding Goes
goes-refused w why deeds t z c = record { refs = t; puts = z; ends = c }

goes-told : {A : Type 0} (w : Work) (next : A → Answer) (result : Result A Refusal) (deeds : List Deed) → Tells deeds w → ((why : Refusal) → result ≡ Err why → Puts deeds w.refs × Cause deeds why) → ((x : A) → result ≡ Ok x → Goes (next x) deeds) → Goes (on_told w next result) deeds
goes-told w next (Ok x) deeds t c f = f x refl
goes-told w next (Err why) deeds t c f = let p : Puts deeds w.refs × Cause deeds why = c why refl in goes-refused w why deeds t p.0 p.1

goes-asks : {A : Type 0} (w : Work) (side : Side) (op : Op) (told : Reply → Result A Refusal) (next : A → Answer) (deeds : List Deed) → Tells deeds w → Puts deeds w.refs → MayDo deeds side op → ((reply : Reply) (why : Refusal) → told reply ≡ Err why → put_by op reply ≡ []) → ((reply : Reply) (why : Refusal) → Fits op reply → told reply ≡ Err why → Cause (with-deed deeds side op reply) why) → ((reply : Reply) (x : A) → Fits op reply → told reply ≡ Ok x → Goes (next x) (with-deed deeds side op reply)) → Goes (asks w side op told next) deeds
unfolding Goes
goes-asks w side op told next deeds t z may none c f = (
  may,
  record { refs = t; puts = z; ends = tt },
  λ reply fits.
      let later : Tells (with-deed deeds side op reply) w = tells-later w (later-step deeds side op reply) t in (
        λ still. record { refs = later; puts = puts-same deeds side op reply w.refs (still-none op reply still) z; ends = tt },
        goes-told w next (told reply) (with-deed deeds side op reply) later (λ why e. (puts-same deeds side op reply w.refs (none reply why e) z, c reply why fits e)) (λ x e. f reply x fits e),
      ),
)

-- what is neither counted nor puts a ref
count-none : (deeds : List Deed) (side : Side) (op : Op) (reply : Reply) (w : Work) → ((m : Mirrored) → count_deed op reply m ≡ m) → put_by op reply ≡ [] → Counted deeds w → Counted (with-deed deeds side op reply) w
count-none deeds side op reply w same none y = (tally-same deeds side op reply w.counts same y.0, puts-same deeds side op reply w.refs none y.1)

-- ... nor finds an object
tally-none : (deeds : List Deed) (side : Side) (op : Op) (reply : Reply) (w : Work) → ((m : Mirrored) → count_deed op reply m ≡ m) → put_by op reply ≡ [] → Unmet op reply → Tallied deeds w → Tallied (with-deed deeds side op reply) w
tally-none deeds side op reply w same none unmet y = (tally-same deeds side op reply w.counts same y.0, puts-same deeds side op reply w.refs none y.1, compared-none deeds side op reply unmet y.2)

get-unmet : (key : Key) (reply : Reply) → Unmet (Get key) reply
get-unmet key reply k b why version now is o r = cc

list-unmet : (p : Part) (reply : Reply) → Unmet (ListPart p) reply
list-unmet p reply k b why version now is o r = cc

over-unmet : (key : Key) (bytes : List ℕ) (old : Version) (reply : Reply) → Unmet (PutOver key bytes old Reset) reply
over-unmet key bytes old reply k b why version now is o r = cc

done-unmet : (op : Op) (version : Version) (now : ℕ) → Unmet op (R.New (New_done version now))
done-unmet op version now k b why other time is o r = cc

-- a get isn't counted
tally-get : (deeds : List Deed) (side : Side) (key : Key) (reply : Reply) (w : Work) → Tallied deeds w → Tallied (with-deed deeds side (Get key) reply) w
tally-get deeds side key reply w y = tally-none deeds side (Get key) reply w (λ m. refl) refl (get-unmet key reply) y

-- ---- objects
goes-take : (key : Key) (w : Work) (next : List ℕ → Answer) (deeds : List Deed) → IsObject key → Tells deeds w → Tallied deeds w → ((bytes : List ℕ) (new : List Deed) → Later deeds new → Tallied new w → HasGot new From key bytes → Goes (next bytes) new) → Goes (take_object key w next) deeds
goes-take key w next deeds is t y f = goes-asks w From (Get key) (bytes_told From key) next deeds t y.1 tt (λ reply why e. refl) (λ reply why fits e. cause-bytes deeds From key reply why is fits e) (λ reply bytes fits e.
    f bytes (with-deed deeds From (Get key) reply) (later-step deeds From (Get key) reply) (tally-get deeds From key reply w y) (bytes-got deeds From key reply bytes fits e))

-- the comparison of what is there may be refused
abbrev Long : Key → List ℕ → List Deed → Type 0
Long key bytes deeds = (there : List ℕ) (new : List Deed) (why : Refusal) → Later deeds new → HasGot new To key there → fits_there key bytes there ≡ Err why → Cause new why

goes-compare : SnapshotLaw → (key : Key) (bytes : List ℕ) (w : Work) (next : Next) (deeds : List Deed) → IsObject key → Tells deeds w → Counted deeds w → ButOne deeds key bytes → Long key bytes deeds → ((there : List ℕ) (new : List Deed) → Later deeds new → HasGot new To key there → (IsFine key bytes there → ⊥) → HasOther new key) → ((there : List ℕ) (new : List Deed) → Later deeds new → Tallied new w → HasGot new To key there → fits_there key bytes there ≡ Ok true → Goes (next w) new) → Goes (compare key bytes w next) deeds
goes-compare law key bytes w next deeds is t y but long other f = goes-asks w To (Get key) (bytes_told To key) (λ there. on_told w (unless_differs key w next) (fits_there key bytes there)) deeds t y.1 tt (λ reply why e. refl) (λ reply why fits e. cause-bytes deeds To key reply why is fits e) (λ reply there fits e.
    let new : List Deed = with-deed deeds To (Get key) reply in
    let l : Later deeds new = later-step deeds To (Get key) reply in
    let got : HasGot new To key there = bytes-got deeds To key reply there fits e in
    let z : Counted new w = count-none deeds To (Get key) reply w (λ m. refl) refl y in
    goes-told w (unless_differs key w next) (fits_there key bytes there) new (tells-later w l t) (λ why x. (z.1, long there new why l got x)) (λ fine x. judged there new l got fine x z (λ one. one-compared deeds key bytes reply but one)))
  where
    judged : (there : List ℕ) (new : List Deed) → Later deeds new → HasGot new To key there → (fine : Bool) → fits_there key bytes there ≡ Ok fine → Counted new w → (IsCompared new key bytes → AreCompared new) → Goes (unless_differs key w next fine) new
    judged there new l got true x z all = f there new l (z.0, z.1, all (record { there = there; got = got; fine = is-fine law key bytes there x })) got x
    judged there new l got false x z all = goes-refused w (Differs key) new (tells-later w l t) z.1 (other there new l got (not-fine key bytes there x))

-- the same but for counts
record Same (w v : Work) : Type 0 where
  snaps : v.snapshots ≡ w.snapshots
  files : v.manifests ≡ w.manifests
  parts : v.chunks ≡ w.chunks
  refs : v.refs ≡ w.refs

-- from w to v, of which the counts alone may differ
record Went (w v : Work) (old new : List Deed) : Type 0 where
  later : Later old new
  same : Same w v
  tally : Tallied new v

went-none : (w : Work) (deeds : List Deed) → Tallied deeds w → Went w w deeds deeds
went-none w deeds y = record { later = later-same deeds; same = record { snaps = refl; files = refl; parts = refl; refs = refl }; tally = y }

went-both : {u v w : Work} {a b c : List Deed} → Went u v a b → Went v w b c → Went u w a c
went-both g h = record {
  later = later-both g.later h.later;
  same = record { snaps = h.same.snaps ∙ g.same.snaps; files = h.same.files ∙ g.same.files; parts = h.same.parts ∙ g.same.parts; refs = h.same.refs ∙ g.same.refs };
  tally = h.tally;
}

went-after : {w v : Work} {a b c : List Deed} → Later a b → Went w v b c → Went w v a c
went-after l g = record { later = later-both l g.later; same = g.same; tally = g.tally }

tells-went : {w v : Work} {old new : List Deed} → Went w v old new → Tells old w → Tells new v
tells-went {w} g t r c = mirrored-later g.later (t r (subst (λ (rs : List MirrorRef). Contains rs r) g.same.refs c))

abbrev put-deed : List Deed → Key → List ℕ → Reply → List Deed
put-deed deeds key bytes reply = with-deed deeds To (PutNew key bytes (cause_of key)) reply

-- Puts an object: what is there then is fine.
goes-put : SnapshotLaw → (key : Key) (bytes : List ℕ) (w : Work) (next : Next) (deeds : List Deed) → IsObject key → Tells deeds w → Tallied deeds w → MayPut deeds bytes key → Long key bytes deeds → ((v : Work) (there : List ℕ) (new : List Deed) → Went w v deeds new → IsThere new key there → IsFine key bytes there → Goes (next v) new) → Goes (put_object key bytes w next) deeds
goes-put law key bytes w next deeds is t y may long f = goes-asks w To (PutNew key bytes (cause_of key)) put_told (put_behind key bytes w next) deeds t y.1 (may, refl) (λ reply why e. still-none (PutNew key bytes (cause_of key)) reply (object-no-ref key is)) (λ reply why fits e. cause-put deeds key bytes (cause_of key) reply why fits e) behind
  where
    present : (version : Version) (now : ℕ) → Goes (compare key bytes w next) (put-deed deeds key bytes (R.New (Present version now)))
    present version now =
        let reply : Reply = R.New (Present version now) in
        let l : Later deeds (put-deed deeds key bytes reply) = later-step deeds To (PutNew key bytes (cause_of key)) reply in
        goes-compare law key bytes w next (put-deed deeds key bytes reply) is (tells-later w l t) (count-none deeds To (PutNew key bytes (cause_of key)) reply w (λ m. refl) refl (y.0, y.1)) (but-one deeds key bytes (cause_of key) reply y.2) (λ there new why m got x. long there new why (later-both l m) got x) (λ there new m got bad. other_object bytes there (cause_of key) version now (did-later _ m (did-now deeds To (PutNew key bytes (cause_of key)) reply)) got bad) (λ there new m z got x.
        f w there new (record { later = later-both l m; same = record { snaps = refl; files = refl; parts = refl; refs = refl }; tally = z }) (inr got) (is-fine law key bytes there x))

    behind : (reply : Reply) (done : Bool) → Fits (PutNew key bytes (cause_of key)) reply → put_told reply ≡ Ok done → Goes (put_behind key bytes w next done) (put-deed deeds key bytes reply)
    behind (R.New (New_done version now)) true fits e =
        f (with_put key w) bytes (put-deed deeds key bytes (R.New (New_done version now))) (record {
          later = later-step deeds To (PutNew key bytes (cause_of key)) (R.New (New_done version now));
          same = record { snaps = refl; files = refl; parts = refl; refs = refl };
          tally = (
            tally-more deeds To (PutNew key bytes (cause_of key)) (R.New (New_done version now)) w.counts y.0,
            puts-same deeds To (PutNew key bytes (cause_of key)) (R.New (New_done version now)) w.refs (still-none (PutNew key bytes (cause_of key)) (R.New (New_done version now)) (object-no-ref key is)) y.1,
            compared-none deeds To (PutNew key bytes (cause_of key)) (R.New (New_done version now)) (done-unmet (PutNew key bytes (cause_of key)) version now) y.2,
          );
        }) (inl (record { why = cause_of key; version = version; now = now; did = did-now deeds To (PutNew key bytes (cause_of key)) (R.New (New_done version now)) })) (fine-self key bytes)
    behind (R.New (New_done version now)) false fits e = absurd (cc)
    behind (R.New (Present version now)) true fits e = absurd (cc)
    behind (R.New (Present version now)) false fits e = present version now
    behind (R.Failed x) done fits e = absurd (cc)
    behind (R.Got x) done fits e = absurd fits
    behind (R.Over x) done fits e = absurd fits
    behind (R.Gone x) done fits e = absurd fits
    behind (R.GoneAt x) done fits e = absurd fits
    behind (R.Listed x) done fits e = absurd fits

-- ---- what a mirror holds is copied
-- All that it has come to is copied, but for these, which come next.
record Known (deeds : List Deed) (left more : List Id12) (w : Work) : Type 0 where
  snaps : (id : Id12) → Has w.snapshots id → IsChainCopied deeds id
  files : (id : Id12) → Has w.manifests id → Contains left id ⊎ IsManifestCopied deeds id
  parts : (id : Id12) → Has w.chunks id → Contains more id ⊎ IsCopied deeds (Chunk id)
  refs : Tells deeds w

or-later : {A : Type 0} {P Q : Type 0} → (P → Q) → A ⊎ P → A ⊎ Q
or-later f (inl a) = inl a
or-later f (inr p) = inr (f p)

known-later : {old new : List Deed} (left more : List Id12) (w : Work) → Later old new → Known old left more w → Known new left more w
known-later left more w l k = record {
  snaps = λ id h. chain-later l (k.snaps id h);
  files = λ id h. or-later (λ c. manifest-later l c) (k.files id h);
  parts = λ id h. or-later (λ c. copied-later l c) (k.parts id h);
  refs = tells-later w l k.refs;
}

known-same : (deeds : List Deed) (left more : List Id12) (w v : Work) → Same w v → Known deeds left more w → Known deeds left more v
known-same deeds left more w v s k = record {
  snaps = λ id h. k.snaps id (subst (λ (ids : List Id12). Has ids id) s.snaps h);
  files = λ id h. k.files id (subst (λ (ids : List Id12). Has ids id) s.files h);
  parts = λ id h. k.parts id (subst (λ (ids : List Id12). Has ids id) s.parts h);
  refs = λ r c. k.refs r (subst (λ (rs : List MirrorRef). Contains rs r) s.refs c);
}

known-went : {w v : Work} {old new : List Deed} (left more : List Id12) → Went w v old new → Known old left more w → Known new left more v
known-went {w} {v} {old} {new} left more g k = known-same new left more w v g.same (known-later left more w g.later k)

-- the first of those that come next is copied
one-fewer : (P : Id12 → Type 0) (id q : Id12) (ids : List Id12) → P id → Contains (id ∷ ids) q ⊎ P q → Contains ids q ⊎ P q
one-fewer P id q ids here (inl c) = elim (first-or-later id q ids c) [
  | inl same ↦ inr (subst P same here)
  | inr later ↦ inl later
]
one-fewer P id q ids here (inr p) = inr p

part-copied : (deeds : List Deed) (id : Id12) (left more : List Id12) (w : Work) → IsCopied deeds (Chunk id) → Known deeds left (id ∷ more) w → Known deeds left more w
part-copied deeds id left more w c k = record { snaps = k.snaps; files = k.files; parts = λ q h. one-fewer (λ x. IsCopied deeds (Chunk x)) id q more c (k.parts q h); refs = k.refs }

file-copied : (deeds : List Deed) (id : Id12) (left more : List Id12) (w : Work) → IsManifestCopied deeds id → Known deeds (id ∷ left) more w → Known deeds left more w
file-copied deeds id left more w c k = record { snaps = k.snaps; files = λ q h. one-fewer (λ x. IsManifestCopied deeds x) id q left c (k.files q h); parts = k.parts; refs = k.refs }

snap-copied : (deeds : List Deed) (id : Id12) (w : Work) → IsChainCopied deeds id → Known deeds [] [] w → Known deeds [] [] (with_copied id w)
snap-copied deeds id w c k = record {
  snaps = λ q h. elim (only-with w.snapshots id q h) [
    | inl was ↦ k.snaps q was
    | inr same ↦ subst (λ (x : Id12). IsChainCopied deeds x) same c
  ];
  files = k.files;
  parts = k.parts;
  refs = k.refs;
}

-- where none come next, all is copied
all-there : {A : Type 0} (q : Id12) → Contains [] q ⊎ A → A
all-there q (inl c) = absurd (none-in q c)
all-there q (inr a) = a

-- those that are found come next
newly : {A : Type 0} (todo : List Id12) (q : Id12) → Contains [] q ⊎ A → Contains todo q ⊎ A
newly todo q (inl c) = absurd (none-in q c)
newly todo q (inr a) = inr a

parts-found : (deeds : List Deed) (line : Line) (P : Id12 → Type 0) (left : List Id12) (w : Work) → Enters P (found w.chunks) line → Known deeds left [] w → Known deeds left line.todo (with_chunks line w)
parts-found deeds line P left w e k = record {
  snaps = k.snaps;
  files = k.files;
  parts = λ q h. elim (e.fresh q h) [
    | inl was ↦ newly line.todo q (k.parts q was)
    | inr new ↦ inl new
  ];
  refs = k.refs;
}

files-found : (deeds : List Deed) (line : Line) (P : Id12 → Type 0) (more : List Id12) (w : Work) → Enters P (found w.manifests) line → Known deeds [] more w → Known deeds line.todo more (with_manifests line w)
files-found deeds line P more w e k = record {
  snaps = k.snaps;
  files = λ q h. elim (e.fresh q h) [
    | inl was ↦ newly line.todo q (k.files q was)
    | inr new ↦ inl new
  ];
  parts = k.parts;
  refs = k.refs;
}

-- ---- from the chunks of a manifest up to a snapshot
-- from w to v, where chunks were found
record Went_on (w v : Work) (old new : List Deed) : Type 0 where
  later : Later old new
  files : v.manifests ≡ w.manifests
  refs : v.refs ≡ w.refs
  tally : Tallied new v

-- ... and manifests and snapshots
record Passed (w v : Work) (old new : List Deed) : Type 0 where
  later : Later old new
  refs : v.refs ≡ w.refs
  tally : Tallied new v

passed-both : {u v w : Work} {a b c : List Deed} → Passed u v a b → Passed v w b c → Passed u w a c
passed-both g h = record { later = later-both g.later h.later; refs = h.refs ∙ g.refs; tally = h.tally }

passed-after : {w v : Work} {a b c : List Deed} → Later a b → Passed w v b c → Passed w v a c
passed-after l g = record { later = later-both l g.later; refs = g.refs; tally = g.tally }

module _ (snapshots : SnapshotLaw) (objects : ObjectsLaw) where
  goes-chunks : (ids left : List Id12) (w : Work) (next : Next) (deeds : List Deed) → Known deeds left ids w → Tallied deeds w → ((v : Work) (new : List Deed) → Went w v deeds new → Known new left [] v → Goes (next v) new) → Goes (copy_chunks ids w next) deeds
  unfolding copy_chunks
  goes-chunks [] left w next deeds k y f = f w deeds (went-none w deeds y) k
  goes-chunks (id ∷ ids) left w next deeds k y f = goes-take (Chunk id) w (λ bytes. put_object (Chunk id) bytes w (λ v. copy_chunks ids v next)) deeds tt k.refs y (λ bytes new l z got.
      goes-put snapshots (Chunk id) bytes w (λ v. copy_chunks ids v next) new tt (tells-later w l k.refs) z got (λ there later why m g x. absurd (ok-err _ why x)) (λ v there later g at fine.
      let whole : Went w v deeds later = went-after l g in
      let copied : IsCopied later (Chunk id) = record { bytes = bytes; got = got-later g.later got; there = subst (λ (b : List ℕ). IsThere later (Chunk id) b) (sym fine) at } in
      goes-chunks ids left v next later (part-copied later id left ids v copied (known-went left (id ∷ ids) whole k)) g.tally (λ u last h j. f u last (went-both whole h) j)))

  goes-filled : (id : Id12) (bytes : List ℕ) (m : ManifestFile) (left : List Id12) (w : Work) (next : Next) (deeds : List Deed) → HasGot deeds From (Manifest id) bytes → manifest_by id bytes ≡ Some m → Known deeds (id ∷ left) [] w → Tallied deeds w → ((v : Work) (new : List Deed) → Went_on w v deeds new → Known new left [] v → Goes (next v) new) → Goes (with_manifest id bytes w next m) deeds
  goes-filled id bytes m left w next deeds got read k y f =
      let line : Line = enter_ids (objects_of m) (found w.chunks) in
      let e : Enters (Contains (objects_of m)) (found w.chunks) line = enters-ids (objects_of m) (found w.chunks) in
      goes-chunks line.todo (id ∷ left) (with_chunks line w) (λ v. put_object (Manifest id) bytes v next) deeds (parts-found deeds line (Contains (objects_of m)) (id ∷ left) w e k) y (λ v new g h.
      let here : HasGot new From (Manifest id) bytes = got-later g.later got in
      let chunks : AreChunksCopied new m = λ object n. all-there object (h.parts object (subst (λ (ids : List Id12). Has ids object) (sym g.same.parts) (e.entered object ((objects m object).1 (record { array = n.array; among = n.among; chunk = n.chunk; has = n.has; offset = n.offset; size = n.size; is = n.is }))))) in
      goes-put snapshots (Manifest id) bytes v next new tt h.refs g.tally (record { got = here; manifest = m; read = read; chunks = chunks }) (λ there later why l o x. absurd (ok-err _ why x)) (λ u there later i at fine.
      let copied : IsManifestCopied later id = record { bytes = bytes; got = got-later i.later here; manifest = m; read = read; chunks = chunks-later m i.later chunks; there = subst (λ (b : List ℕ). IsThere later (Manifest id) b) (sym fine) at } in
      f u later (record { later = later-both g.later i.later; files = i.same.files ∙ g.same.files; refs = i.same.refs ∙ g.same.refs; tally = i.tally }) (file-copied later id left [] u copied (known-went (id ∷ left) [] i h))))

  goes-manifest : (id : Id12) (left : List Id12) (w : Work) (next : Next) (deeds : List Deed) → Known deeds (id ∷ left) [] w → Tallied deeds w → ((v : Work) (new : List Deed) → Went_on w v deeds new → Known new left [] v → Goes (next v) new) → Goes (copy_manifest id w next) deeds
  goes-manifest id left w next deeds k y f = goes-take (Manifest id) w (λ bytes. on_told w (with_manifest id bytes w next) (at_key (Manifest id) (read_manifest id bytes))) deeds tt k.refs y (λ bytes new l z got.
      goes-told w (with_manifest id bytes w next) (at_key (Manifest id) (read_manifest id bytes)) new (tells-later w l k.refs) (λ why x. (z.1, cause-bad new (Manifest id) bytes (read_manifest id bytes) why (λ bad b. b) got x)) (λ m x.
      let read : manifest_by id bytes ≡ Some m = rw (key-ok (Manifest id) (read_manifest id bytes) m x) refl in
      goes-filled id bytes m left w next new got read (known-later (id ∷ left) [] w l k) z (λ v later g h. f v later (record { later = later-both l g.later; files = g.files; refs = g.refs; tally = g.tally }) h)))

  goes-manifests : (ids : List Id12) (w : Work) (next : Next) (deeds : List Deed) → Known deeds ids [] w → Tallied deeds w → ((v : Work) (new : List Deed) → Went_on w v deeds new → Known new [] [] v → Goes (next v) new) → Goes (copy_manifests ids w next) deeds
  unfolding copy_manifests
  goes-manifests [] w next deeds k y f = f w deeds (record { later = later-same deeds; files = refl; refs = refl; tally = y }) k
  goes-manifests (id ∷ ids) w next deeds k y f = goes-manifest id ids w (λ v. copy_manifests ids v next) deeds k y (λ v new g h.
      goes-manifests ids v next new h g.tally (λ u later i j. f u later (record { later = later-both g.later i.later; files = i.files ∙ g.files; refs = i.refs ∙ g.refs; tally = i.tally }) j))

  -- the log of a snapshot is copied, or it is the initial one
  abbrev LogCopied : List Deed → Id12 → Type 0
  LogCopied deeds id = (id ≡ initial_id) ⊎ IsCopied deeds (Txn id)

  log-stays : {old new : List Deed} (id : Id12) → Later old new → LogCopied old id → LogCopied new id
  log-stays id l (inl same) = inl same
  log-stays id l (inr c) = inr (copied-later l c)

  goes-log : (id : Id12) (w : Work) (next : Next) (deeds : List Deed) → Tells deeds w → Tallied deeds w → ((v : Work) (new : List Deed) → Went w v deeds new → LogCopied new id → Goes (next v) new) → Goes (copy_log id w next) deeds
  goes-log id w next deeds t y f = go (same_id12 id initial_id) refl
    where
      go : (b : Bool) → same_id12 id initial_id ≡ b → Goes (if b then next w else take_object (Txn id) w (log-behind id w next)) deeds
      go true e = f w deeds (went-none w deeds y) (inl (same_id12-true id initial_id e))
      go false e = goes-take (Txn id) w (log-behind id w next) deeds tt t y (λ bytes new l z got.
          goes-told w (λ log. put_object (Txn id) bytes w next) (at_key (Txn id) (read_log id bytes)) new (tells-later w l t) (λ why x. (z.1, cause-bad new (Txn id) bytes (read_log id bytes) why (λ bad b. b) got x)) (λ log x.
          goes-put snapshots (Txn id) bytes w next new tt (tells-later w l t) z got (λ there later why m o b. absurd (ok-err _ why b)) (λ v there later g at fine.
          f v later (went-after l g) (inr (record { bytes = bytes; got = got-later g.later got; there = subst (λ (b : List ℕ). IsThere later (Txn id) b) (sym fine) at })))))

  -- what a snapshot's file says that stands where one was put
  says-there : (id : Id12) (parent : Option Id12) (s : SnapshotFile) (file there : List ℕ) → Under id parent s file → (file ≡ there) ⊎ DifferInParent id file there → SaysBut id s there
  says-there id parent s file there u (inl same) = record { parent = parent; read = subst (λ (b : List ℕ). snapshot_by id b ≡ Some (record s { parent = parent })) same u.read }
  says-there id parent s file there u (inr d) =
      let same : record s { parent = parent } ≡ d.snap = some-is (record s { parent = parent }) d.snap (sym u.read ∙ d.read) in
      record { parent = d.says.parent; read = subst (λ (x : SnapshotFile). snapshot_by id there ≡ Some (record x { parent = d.says.parent })) (sym same) d.says.read }
    where
      some-is : (x y : SnapshotFile) → Some x ≡ Some y → x ≡ y
      some-is x y e = cc

  -- with what it names and all before it, a snapshot's chain is copied
  chain-of : (deeds : List Deed) (id : Id12) (parent : Option Id12) → HasParent deeds id parent → IsSnapshotCopied deeds id → IfSome parent (IsChainCopied deeds) → IsChainCopied deeds id
  chain-of deeds id None p s c = first p s
  chain-of deeds id (Some parent) p s c = further p s c

  goes-under : (link : Link) (bytes file : List ℕ) (s : SnapshotFile) (w : Work) (next : Next) (deeds : List Deed) → HasGot deeds From (Snapshot link.id) bytes → snapshot_by link.id bytes ≡ Some s → Under link.id link.parent s file → HasParent deeds link.id link.parent → IfSome link.parent (IsChainCopied deeds) → Known deeds [] [] w → Tallied deeds w → ((v : Work) (new : List Deed) → Passed w v deeds new → Known new [] [] v → IsChainCopied new link.id → Goes (next v) new) → Goes (copy_manifests (enter_rows s.nodes (found w.manifests)).todo (with_manifests (enter_rows s.nodes (found w.manifests)) w) (λ v. copy_log link.id v (λ u. put_snapshot link.id file u next))) deeds
  goes-under link bytes file s w next deeds got read says parent before k y f =
      let line : Line = enter_rows s.nodes (found w.manifests) in
      let e : Enters (NamesManifest s.nodes) (found w.manifests) line = enters-rows s.nodes (found w.manifests) in
      goes-manifests line.todo (with_manifests line w) (λ v. copy_log link.id v (λ u. put_snapshot link.id file u next)) deeds (files-found deeds line (NamesManifest s.nodes) [] w e k) y (λ v new g h.
      goes-log link.id v (λ u. put_snapshot link.id file u next) new h.refs g.tally (λ u later i log.
      let j : Known later [] [] u = known-went [] [] i h in
      let l : Later deeds later = later-both g.later i.later in
      let here : HasGot later From (Snapshot link.id) bytes = got-later l got in
      let inner : IsNamedCopied later link.id s = record { log = log; manifests = λ m n. all-there m (j.files m (subst (λ (ids : List Id12). Has ids m) (sym (i.same.files ∙ g.files)) (e.entered m n))) } in
      goes-put snapshots (Snapshot link.id) file u (λ x. next (with_copied link.id x)) later tt j.refs i.tally (record { source = bytes; got = here; snap = s; read = read; named = inner; says = record { parent = link.parent; read = says.read }; parent = parent-later l parent; before = before-later link.parent l before }) (λ there last why m other x. fine-long last link.id bytes file there s link.parent why (got-later m here) read says other x) (λ x there last n at fine.
      let copied : IsSnapshotCopied last link.id = record { bytes = bytes; got = got-later n.later here; snap = s; read = read; named = named-later n.later inner; file = there; says = says-there link.id link.parent s file there says fine; there = at } in
      let whole : Later deeds last = later-both l n.later in
      let chain : IsChainCopied last link.id = chain-of last link.id link.parent (parent-later whole parent) copied (before-later link.parent whole before) in
      f (with_copied link.id x) last (record { later = whole; refs = n.same.refs ∙ (i.same.refs ∙ g.refs); tally = n.tally }) (snap-copied last link.id x chain (known-went [] [] n j)) chain)))

  goes-snapshot : (link : Link) (w : Work) (next : Next) (deeds : List Deed) → IfSome link.parent IsId12 → HasParent deeds link.id link.parent → IfSome link.parent (IsChainCopied deeds) → Known deeds [] [] w → Tallied deeds w → ((v : Work) (new : List Deed) → Passed w v deeds new → Known new [] [] v → IsChainCopied new link.id → Goes (next v) new) → Goes (copy_snapshot link w next) deeds
  goes-snapshot link w next deeds i parent before k y f = goes-take (Snapshot link.id) w (λ bytes. on_told w (with_snapshot link bytes w next) (at_key (Snapshot link.id) (read_snapshot link.id bytes))) deeds tt k.refs y (λ bytes new l z got.
      goes-told w (with_snapshot link bytes w next) (at_key (Snapshot link.id) (read_snapshot link.id bytes)) new (tells-later w l k.refs) (λ why x. (z.1, cause-bad new (Snapshot link.id) bytes (read_snapshot link.id bytes) why (λ bad b. b) got x)) (λ s x.
      let read : snapshot_by link.id bytes ≡ Some s = rw (key-ok (Snapshot link.id) (read_snapshot link.id bytes) s x) refl in
      goes-told w (λ file. copy_manifests (enter_rows s.nodes (found w.manifests)).todo (with_manifests (enter_rows s.nodes (found w.manifests)) w) (λ v. copy_log link.id v (λ u. put_snapshot link.id file u next))) (file_under link.parent bytes s) new (tells-later w l k.refs) (λ why b. (z.1, under-long new link.id link.parent bytes s why got read b)) (λ file b.
      goes-under link bytes file s w next new got read (file-says snapshots link.id link.parent bytes file s i read b) (parent-later l parent) (before-later link.parent l before) (known-later [] [] w l k) z (λ v later g h chain. f v later (passed-after l g) h chain))))

  -- ---- chains
  -- the snapshot at the upper end of a chain, which begins above this one
  abbrev top : Option Id12 → List Link → Option Id12
  top below [] = below
  top below (link ∷ links) = top (Some link.id) links

  -- each names the one below as its parent, as it was read
  abbrev Fit : List Deed → Option Id12 → List Link → Type 0
  Fit deeds below [] = Unit {0}
  Fit deeds below (link ∷ links) = (link.parent ≡ below) × IfSome link.parent IsId12 × HasParent deeds link.id link.parent × Fit deeds (Some link.id) links

  fit-later : {old new : List Deed} (below : Option Id12) (links : List Link) → Later old new → Fit old below links → Fit new below links
  fit-later below [] l fit = tt
  fit-later below (link ∷ links) l fit = (fit.0, fit.1, parent-later l fit.2, fit-later (Some link.id) links l fit.3)

  -- the snapshots of a chain, each of which was read
  abbrev line-ids : List Link → List Id12
  line-ids [] = []
  line-ids (link ∷ links) = link.id ∷ line-ids links

  line-long : (links : List Link) → length (line-ids links) ≡ length links
  line-long [] = refl
  line-long (link ∷ links) = let h = line-long links in omega (arith, h)

  fit-line : (deeds : List Deed) (below : Id12) (links : List Link) → Fit deeds (Some below) links → IsLine deeds below (line-ids links)
  fit-line deeds below [] fit = tt
  fit-line deeds below (link ∷ links) fit = (subst (λ (p : Option Id12). HasParent deeds link.id p) fit.0 fit.2, fit-line deeds link.id links fit.3)

  goes-line : (links : List Link) (below : Option Id12) (w : Work) (next : Next) (deeds : List Deed) → Fit deeds below links → IfSome below (IsChainCopied deeds) → Known deeds [] [] w → Tallied deeds w → ((v : Work) (new : List Deed) → Passed w v deeds new → Known new [] [] v → IfSome (top below links) (IsChainCopied new) → Goes (next v) new) → Goes (copy_line links w next) deeds
  unfolding copy_line
  goes-line [] below w next deeds fit before k y f = f w deeds (record { later = later-same deeds; refs = refl; tally = y }) k before
  goes-line (link ∷ links) below w next deeds fit before k y f = goes-snapshot link w (λ v. copy_line links v next) deeds fit.1 fit.2 (subst (λ (p : Option Id12). IfSome p (IsChainCopied deeds)) (sym fit.0) before) k y (λ v new g h chain.
      goes-line links (Some link.id) v next new (fit-later (Some link.id) links g.later fit.3) chain h g.tally (λ u later i j c. f u later (passed-both g i) j c))

  -- what follows where the whole chain is copied
  abbrev Reached : Work → Next → List Deed → Id12 → Type 0
  Reached w next deeds target = (v : Work) (new : List Deed) → Passed w v deeds new → Known new [] [] v → IsChainCopied new target → Goes (next v) new

  reached-later : {old new : List Deed} (w : Work) (next : Next) (target : Id12) → Later old new → Reached w next old target → Reached w next new target
  reached-later w next target l f v later g h c = f v later (passed-after l g) h c

  reached-line : (links : List Link) (below : Option Id12) (w : Work) (next : Next) (deeds : List Deed) (target : Id12) → Fit deeds below links → top below links ≡ Some target → IfSome below (IsChainCopied deeds) → Known deeds [] [] w → Tallied deeds w → Reached w next deeds target → Goes (copy_line links w next) deeds
  reached-line links below w next deeds target fit at_top before k y f = goes-line links below w next deeds fit before k y (λ v new g h c. f v new g h (subst (λ (o : Option Id12). IfSome o (IsChainCopied new)) at_top c))

  goes-if : (b : Bool) (p q : Answer) (deeds : List Deed) → (b ≡ true → Goes p deeds) → (b ≡ false → Goes q deeds) → Goes (if b then p else q) deeds
  goes-if true p q deeds f g = f refl
  goes-if false p q deeds f g = g refl

  -- a chain down to a snapshot that is copied
  down-end : (links : List Link) (w : Work) (next : Next) (id target : Id12) (deeds : List Deed) → Fit deeds (Some id) links → top (Some id) links ≡ Some target → Known deeds [] [] w → Tallied deeds w → Reached w next deeds target → has_object w.snapshots id ≡ true → Goes (copy_line links w next) deeds
  down-end links w next id target deeds fit at_top k y f e = reached-line links (Some id) w next deeds target fit at_top (k.snaps id e) k y f

  -- further down
  abbrev Further : (onto : List Link → Id12 → Answer) → List Link → Id12 → List Deed → Type 0
  Further onto links id new = (p : Id12) → IsId12 p → Fit new (Some p) (record { id = id; parent = Some p } ∷ links) → Goes (onto (record { id = id; parent = Some p } ∷ links) p) new

  -- behind a snapshot of the way down
  goes-onto : (onto : List Link → Id12 → Answer) (links : List Link) (w : Work) (next : Next) (id target : Id12) (new : List Deed) (parent : Option Id12) → IfSome parent IsId12 → HasParent new id parent → Fit new (Some id) links → top (Some id) links ≡ Some target → Known new [] [] w → Tallied new w → Reached w next new target → Further onto links id new → Goes (down_onto onto links w next id parent) new
  goes-onto onto links w next id target new None i p fit at_top k y f more = reached-line (record { id = id; parent = None } ∷ links) None w next new target (refl, tt, p, fit) at_top tt k y f
  goes-onto onto links w next id target new (Some q) i p fit at_top k y f more = more q i (refl, i, p, fit)

  parent-is-id : (deeds : List Deed) (id : Id12) (parent : Option Id12) → HasParent deeds id parent → IfSome parent IsId12
  parent-is-id deeds id parent p = subst (λ (o : Option Id12). IfSome o IsId12) p.is (snapshots.read id p.bytes p.snap p.read).sized.parent

  -- so many gets are left
  one-more : (left : ℕ) (deeds : List Deed) (id : Id12) (reply : Reply) → most_snapshots ≤ suc left + snapshot_gets deeds → most_snapshots ≤ left + snapshot_gets (with-deed deeds From (Get (Snapshot id)) reply)
  one-more left deeds id reply few =
      let h : snapshot_gets (with-deed deeds From (Get (Snapshot id)) reply) ≡ snapshot_gets deeds + 1 = gets-append deeds (record { side = From; op = Get (Snapshot id); reply = reply } ∷ []) in
      omega (arith, few, h)

  one-longer : (left : ℕ) (link : Link) (links : List Link) → suc left + length links ≡ most_snapshots → left + length (link ∷ links) ≡ most_snapshots
  one-longer left link links long = omega (arith, long)

  goes-down : (left : ℕ) (links : List Link) (w : Work) (next : Next) (id target : Id12) (deeds : List Deed) → most_snapshots ≤ left + snapshot_gets deeds → left + length links ≡ most_snapshots → Fit deeds (Some id) links → top (Some id) links ≡ Some target → Known deeds [] [] w → Tallied deeds w → Reached w next deeds target → Goes (down left links w next id) deeds
  unfolding down
  goes-down zero links w next id target deeds few long fit at_top k y f = goes-if (has_object w.snapshots id) (copy_line links w next) (refused w TooDeep) deeds (λ e. down-end links w next id target deeds fit at_top k y f e) (λ e.
      let gets : most_snapshots ≤ snapshot_gets deeds = omega (arith, few) in
      let same : length (line-ids links) ≡ length links = line-long links in
      let deep : WasDeep deeds = record { next = id; line = line-ids links; many = omega (arith, same, long); read = fit-line deeds id links fit } in
      goes-refused w TooDeep deeds k.refs y.1 (gets, deep))
  goes-down (suc left) links w next id target deeds few long fit at_top k y f = goes-if (has_object w.snapshots id) (copy_line links w next) (asks w From (Get (Snapshot id)) (snapshot_told id) (down_behind (down-onto left w next) links w next id)) deeds (λ e. down-end links w next id target deeds fit at_top k y f e) (λ e.
      goes-asks w From (Get (Snapshot id)) (snapshot_told id) (down_behind (down-onto left w next) links w next id) deeds k.refs y.1 tt (λ reply why e. refl) (λ reply why fits x. cause-snapshot deeds id reply why fits x) (λ reply s fits x.
      let new : List Deed = with-deed deeds From (Get (Snapshot id)) reply in
      let l : Later deeds new = later-step deeds From (Get (Snapshot id)) reply in
      let p : HasParent new id s.parent = parent-told deeds id reply s fits x in
      let h : Known new [] [] w = known-later [] [] w l k in
      let z : Tallied new w = tally-get deeds From (Snapshot id) reply w y in
      let g : Reached w next new target = reached-later w next target l f in
      goes-onto (down-onto left w next) links w next id target new s.parent (parent-is-id new id s.parent p) p (fit-later (Some id) links l fit) at_top h z g (λ q i fits_on.
      goes-down left (record { id = id; parent = Some q } ∷ links) w next q target new (one-more left deeds id reply few) (one-longer left (record { id = id; parent = Some q }) links long) fits_on at_top h z g)))

  -- ---- refs
  key-is-ref : (tag : Bool) (name : List ℕ) → IsRef (key_of (record { tag = tag; name = name }))
  key-is-ref true name = refl
  key-is-ref false name = refl

  made-may : (tag : Bool) (name : List ℕ) (deeds : List Deed) (bytes : List ℕ) → MayMake deeds (key_of (record { tag = tag; name = name })) bytes → MayPut deeds bytes (key_of (record { tag = tag; name = name }))
  made-may true name deeds bytes m = m
  made-may false name deeds bytes m = m

  moved-may : (tag : Bool) (name : List ℕ) (deeds : List Deed) (bytes : List ℕ) (old : Version) → tag ≡ false → MayMove deeds (key_of (record { tag = tag; name = name })) bytes old → MayCopyOver deeds bytes old (key_of (record { tag = tag; name = name }))
  moved-may true name deeds bytes old e m = absurd (cc)
  moved-may false name deeds bytes old e m = m

  -- no ref is an object
  ref-unmet : (r : RefId) (bytes : List ℕ) (reply : Reply) → Unmet (PutNew (key_of r) bytes (cause_of (key_of r))) reply
  ref-unmet r bytes reply k b why version now is o e = no-object (subst IsObject (sym (same-put (key_of r) k bytes b (cause_of (key_of r)) why o).0) is)
    where
      no-object : IsObject (key_of r) → ⊥
      no-object x =
          let no : is_ref (key_of r) ≡ false = object-no-ref (key_of r) x in
          let yes : is_ref (key_of r) ≡ true = key-is-ref r.tag r.name in
          cc

  -- a ref's put isn't counted
  uncounted-key : (tag : Bool) (name : List ℕ) (m : Mirrored) → counted (key_of (record { tag = tag; name = name })) m ≡ m
  uncounted-key true name m = refl
  uncounted-key false name m = refl

  uncounted : (r : RefId) (bytes : List ℕ) (reply : Reply) (m : Mirrored) → count_deed (PutNew (key_of r) bytes (cause_of (key_of r))) reply m ≡ m
  uncounted r bytes (R.New (New_done version now)) m = uncounted-key r.tag r.name m
  uncounted r bytes (R.New (Present version now)) m = refl
  uncounted r bytes (R.Failed x) m = refl
  uncounted r bytes (R.Got x) m = refl
  uncounted r bytes (R.Over x) m = refl
  uncounted r bytes (R.Gone x) m = refl
  uncounted r bytes (R.GoneAt x) m = refl
  uncounted r bytes (R.Listed x) m = refl

  -- of these two it is told, where it is told of the one
  differ-tag : (tag : Bool) (name : List ℕ) (deeds : List Deed) → tag ≡ true → HasOther deeds (Tag name) → HasOther deeds (key_of (record { tag = tag; name = name }))
  differ-tag true name deeds e h = h
  differ-tag false name deeds e h = absurd (cc)

  differ-named : (tag : Bool) (name : List ℕ) (deeds : List Deed) (version at : Version) (id other : Id12) → tag ≡ true → HasRef deeds From (key_of (record { tag = tag; name = name })) version id → HasRef deeds To (key_of (record { tag = tag; name = name })) at other → other ≢ id → HasOther deeds (key_of (record { tag = tag; name = name }))
  differ-named true name deeds version at id other e s t n = other_snapshot version at id other s t n
  differ-named false name deeds version at id other e s t n = absurd (cc)

  unlike : (a b : Id12) → same_id12 a b ≡ false → a ≢ b
  unlike a b e same = absurd (both (same_id12 a b) e (subst (λ (x : Id12). same_id12 a x ≡ true) same (same_id12-self a)))
    where
      both : (t : Bool) → t ≡ false → t ≡ true → ⊥
      both true e f = cc
      both false e f = cc

  -- what follows behind a ref, of which it is told, or which was passed over
  record Onward (w v : Work) (old new : List Deed) : Type 0 where
    later : Later old new
    refs : (m : MirrorRef) → Contains w.refs m → Contains v.refs m
    tally : Tallied new v

  onward-both : {u v w : Work} {a b c : List Deed} → Onward u v a b → Onward v w b c → Onward u w a c
  onward-both g h = record { later = later-both g.later h.later; refs = λ m c. h.refs m (g.refs m c); tally = h.tally }

  abbrev Became : List Deed → Work → RefId → Type 0
  Became deeds w r = IsToldOf w.refs r ⊎ HasMissed deeds From (key_of r)

  became-later : {old new : List Deed} {w v : Work} (r : RefId) → Onward w v old new → Became old w r → Became new v r
  became-later r g (inl t) = inl (record { told = t.told; among = g.refs t.told t.among; is = t.is })
  became-later r g (inr m) = inr (missed-later g.later m)

  abbrev Goes_on : Work → Next → List Deed → RefId → Type 0
  Goes_on w next deeds r = (v : Work) (new : List Deed) → Onward w v deeds new → Known new [] [] v → Became new v r → Goes (next v) new

  -- the source's ref named the snapshot, whose chain is copied
  record Named (deeds : List Deed) (r : RefId) (id : Id12) (w : Work) : Type 0 where
    version : Version
    source : HasRef deeds From (key_of r) version id
    chain : IsChainCopied deeds id
    known : Known deeds [] [] w

  named-on : {old new : List Deed} {r : RefId} {id : Id12} {w : Work} → Later old new → Named old r id w → Named new r id w
  named-on {old} {new} {r} {id} {w} l p = record { version = p.version; source = ref-later l p.source; chain = chain-later l p.chain; known = known-later [] [] w l p.known }

  -- ... and all that was done is told so far
  record Pointing (deeds : List Deed) (r : RefId) (id : Id12) (w : Work) : Type 0 where
    version : Version
    source : HasRef deeds From (key_of r) version id
    chain : IsChainCopied deeds id
    known : Known deeds [] [] w
    tally : Tallied deeds w

  named-of : {deeds : List Deed} {r : RefId} {id : Id12} {w : Work} → Pointing deeds r id w → Named deeds r id w
  named-of p = record { version = p.version; source = p.source; chain = p.chain; known = p.known }

  pointing-later : {old new : List Deed} {r : RefId} {id : Id12} {w : Work} → Later old new → Tallied new w → Pointing old r id w → Pointing new r id w
  pointing-later {old} {new} {r} {id} {w} l y p = record { version = p.version; source = ref-later l p.source; chain = chain-later l p.chain; known = known-later [] [] w l p.known; tally = y }

  module _ (r : RefId) (id : Id12) (w : Work) (next : Next) (start : List Deed) (f : Goes_on w next start r) where
    abbrev entry : Bool → MirrorRef
    entry put = record { tag = r.tag; name = r.name; id = id; put = put }

    -- it is told of the ref
    told-ref : (put : Bool) (deeds : List Deed) → Later start deeds → Named deeds r id w → Tallied deeds (with_ref r id put w) → IsPointed deeds r id put → Goes (next (with_ref r id put w)) deeds
    told-ref put deeds l p z at = f (with_ref r id put w) deeds (record { later = l; refs = λ m c. Contains-append_left w.refs (entry put ∷ []) m c; tally = z }) (record { snaps = p.known.snaps; files = p.known.files; parts = p.known.parts; refs = λ m c. told-now m (Contains-push_cases w.refs (entry put) m c) }) (inl (record { told = entry put; among = Contains-push w.refs (entry put); is = refl }))
      where
        told-now : (m : MirrorRef) → Contains w.refs m ⊎ (entry put ≡ m) → IsMirrored deeds m
        told-now m (inl c) = p.known.refs m c
        told-now m (inr same) = subst (λ (x : MirrorRef). IsMirrored deeds x) same (record { version = p.version; source = p.source; copied = p.chain; target = at })

    abbrev may-point : (deeds : List Deed) → Pointing deeds r id w → MayPoint deeds (key_of r) (ref_bytes id)
    may-point deeds p = record { version = p.version; id = id; named = p.source; copied = p.chain; is = refl }

    goes-made : (deeds : List Deed) → Later start deeds → Pointing deeds r id w → HasMissed deeds To (key_of r) → Goes (make_ref r id w next) deeds
    goes-made deeds l p missed = goes-asks w To (PutNew (key_of r) (ref_bytes id) (cause_of (key_of r))) made_told (λ done. next (with_ref r id true w)) deeds p.known.refs p.tally.1 (made-may r.tag r.name deeds (ref_bytes id) (record { point = may-point deeds p; missed = missed }), refl) (λ reply why e. made-none (key_of r) (ref_bytes id) (cause_of (key_of r)) reply why e) (λ reply why fits x. cause-made deeds (key_of r) (ref_bytes id) (cause_of (key_of r)) reply why (key-is-ref r.tag r.name) fits x) (λ reply done fits x.
        let new : List Deed = with-deed deeds To (PutNew (key_of r) (ref_bytes id) (cause_of (key_of r))) reply in
        let m : Later deeds new = later-step deeds To (PutNew (key_of r) (ref_bytes id) (cause_of (key_of r))) reply in
        let counts = tally-same deeds To (PutNew (key_of r) (ref_bytes id) (cause_of (key_of r))) reply w.counts (λ c. uncounted r (ref_bytes id) reply c) p.tally.0 in
        let puts = puts-with deeds To (PutNew (key_of r) (ref_bytes id) (cause_of (key_of r))) reply w.refs (entry true) (made-put (key_of r) (ref_bytes id) (cause_of (key_of r)) reply done (key-is-ref r.tag r.name) fits x) p.tally.1 in
        let compared = compared-none deeds To (PutNew (key_of r) (ref_bytes id) (cause_of (key_of r))) reply (ref-unmet r (ref_bytes id) reply) p.tally.2 in
        told-ref true new (later-both l m) (named-on m (named-of p)) (counts, puts, compared) (inl (made-now deeds (key_of r) (ref_bytes id) (cause_of (key_of r)) reply done fits x)))

    goes-moved : (there : Resolved) (deeds : List Deed) → r.tag ≡ false → Later start deeds → Pointing deeds r id w → HasRef deeds To (key_of r) there.version there.id → there.id ≢ id → Goes (move_ref r id w next there.version) deeds
    goes-moved there deeds tag l p h n = goes-asks w To (PutOver (key_of r) (ref_bytes id) there.version Reset) moved_told (λ done. next (with_ref r id true w)) deeds p.known.refs p.tally.1 (moved-may r.tag r.name deeds (ref_bytes id) there.version tag (record { point = may-point deeds p; other = there.id; there = h; differs = n }), refl) (λ reply why e. moved-none (key_of r) (ref_bytes id) there.version reply why e) (λ reply why fits x. cause-moved deeds (key_of r) (ref_bytes id) there.version reply why (key-is-ref r.tag r.name) fits x) (λ reply done fits x.
        let new : List Deed = with-deed deeds To (PutOver (key_of r) (ref_bytes id) there.version Reset) reply in
        let m : Later deeds new = later-step deeds To (PutOver (key_of r) (ref_bytes id) there.version Reset) reply in
        let now = moved-now deeds (key_of r) id (ref_bytes id) there.version reply done fits x in
        let counts = tally-same deeds To (PutOver (key_of r) (ref_bytes id) there.version Reset) reply w.counts (λ c. refl) p.tally.0 in
        let puts = puts-with deeds To (PutOver (key_of r) (ref_bytes id) there.version Reset) reply w.refs (entry true) (moved-put (key_of r) (ref_bytes id) there.version reply done (key-is-ref r.tag r.name) fits x) p.tally.1 in
        let compared = compared-none deeds To (PutOver (key_of r) (ref_bytes id) there.version Reset) reply (over-unmet (key_of r) (ref_bytes id) there.version reply) p.tally.2 in
        told-ref true new (later-both l m) (named-on m (named-of p)) (counts, puts, compared) (inr (there.version, now.0, now.1, now.2)))

    goes-branch : (there : Resolved) (deeds : List Deed) → r.tag ≡ false → Later start deeds → Pointing deeds r id w → HasRef deeds To (key_of r) there.version there.id → Goes (see_branch r id w next there) deeds
    goes-branch there deeds tag l p h = go (same_id12 there.id id) refl
      where
        go : (b : Bool) → same_id12 there.id id ≡ b → Goes (if b then next (with_ref r id false w) else move_ref r id w next there.version) deeds
        go true e = told-ref false deeds l (named-of p) (p.tally.0, puts-left deeds w.refs (entry false) refl p.tally.1, p.tally.2) ((there.version, subst (λ (x : Id12). HasRef deeds To (key_of r) there.version x) (same_id12-true there.id id e) h), subst (λ (t : Bool). NotBuried deeds r t) (sym tag) tt)
        go false e = goes-moved there deeds tag l p h (unlike there.id id e)

    abbrev behind-tombstone : List Deed → Reply → List Deed
    behind-tombstone deeds reply = with-deed deeds To (Get (Tombstone r.name)) reply

    goes-tag : (at : Version) (there : Id12) (deeds : List Deed) → r.tag ≡ true → Later start deeds → Pointing deeds r id w → HasRef deeds To (key_of r) at there → Goes (see_tag r id w next there) deeds
    goes-tag at there deeds tag l p h = goes-asks w To (Get (Tombstone r.name)) buried_told (unless_buried r id w next there) deeds p.known.refs p.tally.1 tt (λ reply why e. refl) (λ reply why fits x. cause-buried deeds (Tombstone r.name) reply why fits x) (λ reply gone fits x. judged reply gone fits x (tally-get deeds To (Tombstone r.name) reply w p.tally))
      where
        same : (reply : Reply) (b : Bool) → same_id12 there id ≡ b → Pointing (behind-tombstone deeds reply) r id w → HasRef (behind-tombstone deeds reply) To (key_of r) at there → HasMissed (behind-tombstone deeds reply) To (Tombstone r.name) → Goes (if b then next (with_ref r id false w) else refused w (Differs (key_of r))) (behind-tombstone deeds reply)
        same reply true e q t missed = told-ref false (behind-tombstone deeds reply) (later-both l (later-step deeds To (Get (Tombstone r.name)) reply)) (named-of q) (q.tally.0, puts-left (behind-tombstone deeds reply) w.refs (entry false) refl q.tally.1, q.tally.2) ((at, subst (λ (x : Id12). HasRef (behind-tombstone deeds reply) To (key_of r) at x) (same_id12-true there id e) t), subst (λ (b : Bool). NotBuried (behind-tombstone deeds reply) r b) (sym tag) missed)
        same reply false e q t missed = goes-refused w (Differs (key_of r)) (behind-tombstone deeds reply) q.known.refs q.tally.1 (differ-named r.tag r.name (behind-tombstone deeds reply) q.version at id there tag q.source t (unlike there id e))

        judged : (reply : Reply) (gone : Bool) → Fits (Get (Tombstone r.name)) reply → buried_told reply ≡ Ok gone → Tallied (behind-tombstone deeds reply) w → Goes (unless_buried r id w next there gone) (behind-tombstone deeds reply)
        judged reply true fits x y =
            let m : Later deeds (behind-tombstone deeds reply) = later-step deeds To (Get (Tombstone r.name)) reply in
            let b = buried-got deeds (Tombstone r.name) reply fits x in
            goes-refused w (Differs (key_of r)) (behind-tombstone deeds reply) (tells-later w m p.known.refs) y.1 (differ-tag r.tag r.name (behind-tombstone deeds reply) tag (has_tombstone b.0 b.1))
        judged reply false fits x y =
            let m : Later deeds (behind-tombstone deeds reply) = later-step deeds To (Get (Tombstone r.name)) reply in
            same reply (same_id12 there id) refl (pointing-later m y p) (ref-later m h) (buried-missed deeds (Tombstone r.name) reply fits x)

    -- the target has the ref
    goes-there : (there : Resolved) (deeds : List Deed) (tag : Bool) → r.tag ≡ tag → Later start deeds → Pointing deeds r id w → HasRef deeds To (key_of r) there.version there.id → Goes (if tag then see_tag r id w next there.id else see_branch r id w next there) deeds
    goes-there there deeds true tag l p h = goes-tag there.version there.id deeds tag l p h
    goes-there there deeds false tag l p h = goes-branch there deeds tag l p h

    abbrev behind-get : List Deed → Reply → List Deed
    behind-get deeds reply = with-deed deeds To (Get (key_of r)) reply

    goes-seen : (deeds : List Deed) (reply : Reply) (there : Option Resolved) → Fits (Get (key_of r)) reply → ref_told To (key_of r) reply ≡ Ok there → Later start deeds → Pointing deeds r id w → Goes (see_ref r id w next there) (with-deed deeds To (Get (key_of r)) reply)
    goes-seen deeds reply None fits x l p =
        let m : Later deeds (with-deed deeds To (Get (key_of r)) reply) = later-step deeds To (Get (key_of r)) reply in
        goes-made (with-deed deeds To (Get (key_of r)) reply) (later-both l m) (pointing-later m (tally-get deeds To (key_of r) reply w p.tally) p) (ref-missed deeds To (key_of r) reply fits x)
    goes-seen deeds reply (Some there) fits x l p =
        let m : Later deeds (behind-get deeds reply) = later-step deeds To (Get (key_of r)) reply in
        let q : Pointing (behind-get deeds reply) r id w = pointing-later m (tally-get deeds To (key_of r) reply w p.tally) p in
        goes-there there (behind-get deeds reply) r.tag refl (later-both l m) q (ref-got deeds To (key_of r) reply there fits x)

    goes-point : (deeds : List Deed) → Later start deeds → Pointing deeds r id w → Goes (point r id w next) deeds
    goes-point deeds l p = goes-asks w To (Get (key_of r)) (ref_told To (key_of r)) (see_ref r id w next) deeds p.known.refs p.tally.1 tt (λ reply why e. refl) (λ reply why fits x. cause-ref deeds To (key_of r) reply why (key-is-ref r.tag r.name) fits x) (λ reply there fits x. goes-seen deeds reply there fits x l p)

  goes-ref : (r : RefId) (w : Work) (next : Next) (deeds : List Deed) → Known deeds [] [] w → Tallied deeds w → Goes_on w next deeds r → Goes (copy_ref r w next) deeds
  goes-ref r w next deeds k y f = goes-asks w From (Get (key_of r)) (ref_told From (key_of r)) (behind_ref r w next) deeds k.refs y.1 tt (λ reply why e. refl) (λ reply why fits x. cause-ref deeds From (key_of r) reply why (key-is-ref r.tag r.name) fits x) behind
    where
      behind : (reply : Reply) (there : Option Resolved) → Fits (Get (key_of r)) reply → ref_told From (key_of r) reply ≡ Ok there → Goes (behind_ref r w next there) (with-deed deeds From (Get (key_of r)) reply)
      behind reply None fits x =
          let l : Later deeds (with-deed deeds From (Get (key_of r)) reply) = later-step deeds From (Get (key_of r)) reply in
          f w (with-deed deeds From (Get (key_of r)) reply) (record { later = l; refs = λ m c. c; tally = tally-get deeds From (key_of r) reply w y }) (known-later [] [] w l k) (inr (ref-missed deeds From (key_of r) reply fits x))
      behind reply (Some there) fits x =
          let new : List Deed = with-deed deeds From (Get (key_of r)) reply in
          let l : Later deeds new = later-step deeds From (Get (key_of r)) reply in
          let source : HasRef new From (key_of r) there.version there.id = ref-got deeds From (key_of r) reply there fits x in
          goes-down most_snapshots [] w (λ v. point r there.id v next) there.id there.id new (omega arith) refl tt refl (known-later [] [] w l k) (tally-get deeds From (key_of r) reply w y) (λ v later g h chain.
          goes-point r there.id v next later (λ u last o j b. f u last (record { later = later-both l (later-both g.later o.later); refs = λ m c. o.refs m (subst (λ (rs : List MirrorRef). Contains rs m) (sym g.refs) c); tally = o.tally }) j b) later (later-same later) (record { version = there.version; source = ref-later g.later source; chain = chain; known = h; tally = g.tally }))

  -- of each of these refs it is told, or it was passed over
  abbrev AllBecame : List Deed → Work → List RefId → Type 0
  AllBecame deeds w rs = (r : RefId) → Contains rs r → Became deeds w r

  goes-refs : (rs : List RefId) (w : Work) (next : Next) (deeds : List Deed) → Known deeds [] [] w → Tallied deeds w → ((v : Work) (new : List Deed) → Onward w v deeds new → Known new [] [] v → AllBecame new v rs → Goes (next v) new) → Goes (copy_refs rs w next) deeds
  unfolding copy_refs
  goes-refs [] w next deeds k y f = f w deeds (record { later = later-same deeds; refs = λ m c. c; tally = y }) k (λ r c. absurd (no-ref r c))
    where
      no-ref : (r : RefId) → Contains [] r → ⊥
      no-ref r c = none-in r c
  goes-refs (r ∷ rs) w next deeds k y f = goes-ref r w (λ v. copy_refs rs v next) deeds k y (λ v new g h b.
      goes-refs rs v next new h g.tally (λ u later i j all. f u later (onward-both g i) j (λ x c. either u later i b all x (first-or-later r x rs c))))
    where
      either : {v : Work} {new : List Deed} (u : Work) (later : List Deed) → Onward v u new later → Became new v r → AllBecame later u rs → (x : RefId) → (r ≡ x) ⊎ Contains rs x → Became later u x
      either u later i b all x (inl same) = subst (λ (q : RefId). Became later u q) same (became-later r i b)
      either u later i b all x (inr c) = all x c

  part-later : {old new : List Deed} {w v : Work} {p : Part} → Onward w v old new → IsPartDone old w.refs p → IsPartDone new v.refs p
  part-later g d = record { listed = d.listed; did = did-later _ g.later d.did; each = λ r c. became-later r g (d.each r c) }

  goes-part : (p : Part) (w : Work) (next : Next) (deeds : List Deed) → Known deeds [] [] w → Tallied deeds w → ((v : Work) (new : List Deed) → Onward w v deeds new → Known new [] [] v → IsPartDone new v.refs p → Goes (next v) new) → Goes (copy_part p w next) deeds
  goes-part p w next deeds k y f = goes-asks w From (ListPart p) listed_told (λ l. copy_refs (ref_ids (live l.entries)) w next) deeds k.refs y.1 tt (λ reply why e. refl) (λ reply why fits x. cause-listed deeds p reply why fits x) (λ reply l fits x.
      let new : List Deed = with-deed deeds From (ListPart p) reply in
      let m : Later deeds new = later-step deeds From (ListPart p) reply in
      goes-refs (ref_ids (live l.entries)) w next new (known-later [] [] w m k) (tally-none deeds From (ListPart p) reply w (λ c. refl) refl (list-unmet p reply) y) (λ v later g h all.
      f v later (record { later = later-both m g.later; refs = g.refs; tally = g.tally }) h (record { listed = l; did = did-later _ g.later (listed-now deeds p reply l fits x); each = all })))

  nothing-known : Known [] [] [] no_work
  nothing-known = record { snaps = λ id h. absurd (cc); files = λ id h. absurd (cc); parts = λ id h. absurd (cc); refs = λ r c. absurd (none-in r c) }

  nothing-compared : AreCompared []
  nothing-compared key bytes why version now is did = absurd (none-in _ did)

  goes-finish : (w : Work) (deeds : List Deed) → Known deeds [] [] w → Tallied deeds w → IsPartDone deeds w.refs part.Branches → IsPartDone deeds w.refs part.Tags → Goes (finish w) deeds
  unfolding Goes
  goes-finish w deeds k y b t = record { refs = k.refs; puts = y.1; ends = record { branches = b; tags = t; counts_are = y.0; compared = y.2 } }

  -- a mirror does what it may do, and tells what is so
  pub goes-mirror : Goes mirror_program []
  goes-mirror = goes-part part.Branches no_work copy_tags [] nothing-known (refl, refl, nothing-compared) (λ v new g k b.
      goes-part part.Tags v finish new k g.tally (λ u later i h t. goes-finish u later h i.tally (part-later i b) t))
