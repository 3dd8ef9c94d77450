-- What the opening and the closing reading answer in a run over an empty store.
use Rattle.std.proofs.Common.{◌≡◌, ℕ, zero, suc, inl, inr, Bool, true, false, cond, List, [], ◌∷◌, ◌++◌, refl, sym, ◌∙◌, ap, subst}
use Rattle.std.specs.Prelude.{Some, None, Result, Ok, Err, slice_get}
use Rattle.ice_ids.specs.declared.Id12.{Id12}
use Rattle.snapshot_file.specs.Initial.{initial_snapshot}
use Rattle.repo_objects.specs.declared.bad_objects.Bad.{Bad}
use Rattle.repo_objects.specs.Readings.{snapshot_by, read_ref as read_bytes}
use Rattle.repo_objects.specs.Laws.{InitialLaw}
use Rattle.ice_ids.specs.Text.{initial_id}
use Rattle.object_store.specs.declared.keys.Key.{Key}
use Rattle.object_store.specs.declared.keys.Key.TheVariants.{Snapshot, Manifest, Txn, Chunk, Branch, Tag, Tombstone, Lease}
use Rattle.object_store.specs.declared.keys.Part.{Part}
use Rattle.object_store.specs.declared.keys.Part.TheVariants.{Branches, Tags, Leases}
use Rattle.object_store.specs.declared.events.Op.{Op}
use Rattle.object_store.specs.declared.events.Op.TheVariants.{Get, PutNew, PutOver, Remove, RemoveAt, List as ListPart}
use Rattle.object_store.specs.declared.events.Entry.{Entry}
use Rattle.object_store.specs.declared.events.New.TheVariants.{Done as New_done, Present}
use Rattle.object_store.specs.declared.events.Reply.{Reply}
use Rattle.object_store.specs.declared.events.Reply.TheVariants.{Got as Is_got, New as Is_new, Over as Is_over, Gone as Is_gone, GoneAt as Is_gone_at, Listed as Is_listed, Failed}
use Rattle.object_store.specs.declared.events.Event.{Event}
use Rattle.store_api.specs.declared.machines.Refusal.{Refusal}
use Rattle.store_api.specs.declared.machines.Refusal.TheVariants.{StoreFault, RefExists}
use Rattle.object_store.specs.Machine.{Stored, found, part_of}
use Rattle.store_api.specs.Journal.{Each, IsGood, NamesPut}
use Rattle.store_api.specs.Program.{Done}
use Rattle.object_store.proofs.Journals.{Each-append, Each-one, Each-both}
use Rattle.play_outcome.specs.declared.outcome.RefLine.{RefLine}
use Rattle.refs_admin.specs.Branches.{created}
use Rattle.refs_admin.specs.NewRepository.{init_program, put_main, placed}
use Rattle.repository.specs.Beginning.{begin_program, begun}
use Rattle.repository.specs.Refs.{list_part, on_listed, read_ref, on_got, on_id, read_each, read_tags, read_branches, refs_program, with_line, live, is_gone}
use Rattle.run_histories.proofs.Programs.{IsPlain}
use Rattle.play_course.specs.Refusing.{is_strange, strange_answer}
use Rattle.play_course.proofs.Tidy.{tidy-more, IsTidy, IsAny, Puts, all-named}
use Rattle.play_course.proofs.Meeting.{Watch, drawing, was-read, Plain, Meets, done-meets, ask-meets, bind-meets, then-meets, meets-weaker, got-meets, replied}

-- ---- the events of the opening, of tasks on refs and of the closing reading
pub plain-puts : InitialLaw → (op : Op) → IsPlain op → Puts (λ id. ⊥) op
plain-puts initial (Get key) p = tt
plain-puts initial (ListPart part) p = tt
plain-puts initial (PutNew (Snapshot id) bytes why) p = ((initial_snapshot, ap (λ (i : Id12). snapshot_by i bytes) p.0 ∙ (ap (snapshot_by initial_id) p.1 ∙ initial)), inl p.0)
plain-puts initial (PutNew (Branch name) bytes why) p = tt
plain-puts initial (PutNew (Manifest id) bytes why) p = absurd p
plain-puts initial (PutNew (Txn id) bytes why) p = absurd p
plain-puts initial (PutNew (Chunk id) bytes why) p = absurd p
plain-puts initial (PutNew (Tag name) bytes why) p = tt
plain-puts initial (PutNew (Tombstone name) bytes why) p = tt
plain-puts initial (PutNew (Lease id) bytes why) p = absurd p
plain-puts initial (PutOver key bytes old why) p = tt
plain-puts initial (Remove key why) p = absurd p
plain-puts initial (RemoveAt key old why) p = p

-- they put nothing under any client's ids
pub plain-tidy : InitialLaw → (old own : List Event) → Each IsGood old own → Each (λ journal event. IsPlain event.op) old own → Each (IsTidy (λ id. ⊥)) old own
plain-tidy initial old own good plain = Each-both IsGood (λ journal event. IsPlain event.op) (IsTidy (λ id. ⊥)) (λ journal event g p. record { good = g; puts = plain-puts initial event.op p }) old own good plain

-- ---- answers
placed-plain : (reply : Reply) → strange_answer (placed reply) ≡ false
placed-plain (Is_new x) = refl
placed-plain (Is_got x) = refl
placed-plain (Is_over x) = refl
placed-plain (Is_gone x) = refl
placed-plain (Is_gone_at x) = refl
placed-plain (Is_listed x) = refl
placed-plain (Failed done) = refl

created-plain : (reply : Reply) → strange_answer (created reply) ≡ false
created-plain (Is_new (New_done version now)) = refl
created-plain (Is_new (Present version now)) = refl
created-plain (Is_got x) = refl
created-plain (Is_over x) = refl
created-plain (Is_gone x) = refl
created-plain (Is_gone_at x) = refl
created-plain (Is_listed x) = refl
created-plain (Failed done) = refl

begun-plain : (made : Result (Unit {0}) Refusal) → strange_answer made ≡ false → strange_answer (begun made) ≡ false
begun-plain (Ok done) p = refl
begun-plain (Err (RefExists version)) p = refl
begun-plain (Err refusal) p = p

module _ (who : Id12 → Type 0) where
  abbrev watch : Watch
  watch = drawing who

  -- the opening
  main-meets : (journal : List Event) → Meets Plain watch put_main journal
  main-meets journal = ask-meets Plain watch _ (λ reply. Done (created reply)) journal (λ more event others any is. done-meets Plain watch (created event.reply) ((journal ++ more) ++ event ∷ []) (created-plain event.reply))

  init-meets : (journal : List Event) → Meets Plain watch init_program journal
  init-meets journal = ask-meets Plain watch _ _ journal (λ more event others any is.
      let h = (journal ++ more) ++ event ∷ [] in
      then-meets Plain Plain watch (Done (placed event.reply)) (λ done. put_main) h (done-meets Plain watch (placed event.reply) h (placed-plain event.reply))
      (λ done g p. main-meets g) (λ why g p. p))

  pub begin-meets : (journal : List Event) → Meets (λ (r : Result (Unit {0}) Refusal) (h : List Event). strange_answer r ≡ false) (drawing who) begin_program journal
  begin-meets journal = bind-meets Plain Plain watch init_program (λ made. Done (begun made)) journal (init-meets journal) (λ made h p. done-meets Plain watch (begun made) h (begun-plain made p))

-- ---- the closing reading
-- a branch, a tag, a tombstone or a lease
abbrev pub IsNamed : Key → Type 0
IsNamed (Branch name) = Unit {0}
IsNamed (Tag name) = Unit {0}
IsNamed (Tombstone name) = Unit {0}
IsNamed (Lease id) = Unit {0}
IsNamed _ = ⊥

-- a branch, a tag or a lease
abbrev pub IsRef : Key → Type 0
IsRef (Branch name) = Unit {0}
IsRef (Tag name) = Unit {0}
IsRef (Lease id) = Unit {0}
IsRef _ = ⊥

abbrev pub AllNamedKeys : List Entry → Type 0
AllNamedKeys [] = Unit {0}
AllNamedKeys (e ∷ es) = IsNamed e.key × AllNamedKeys es

abbrev pub AllRefs : List Key → Type 0
AllRefs [] = Unit {0}
AllRefs (k ∷ ks) = IsRef k × AllRefs ks

-- a part of such keys
abbrev pub IsRefs : Part → Type 0
IsRefs Branches = Unit {0}
IsRefs Tags = Unit {0}
IsRefs Leases = Unit {0}
IsRefs _ = ⊥

pub named-in : (part : Part) (key : Key) → IsRefs part → part_of key ≡ part → IsNamed key
named-in part (Branch name) r e = tt
named-in part (Tag name) r e = tt
named-in part (Tombstone name) r e = tt
named-in part (Lease id) r e = tt
named-in part (Snapshot id) r e = subst IsRefs (sym e) r
named-in part (Manifest id) r e = subst IsRefs (sym e) r
named-in part (Txn id) r e = subst IsRefs (sym e) r
named-in part (Chunk id) r e = subst IsRefs (sym e) r

pub all-entries : (entries : List Entry) → ((k : ℕ) (e : Entry) → slice_get entries k ≡ Some e → IsNamed e.key) → AllNamedKeys entries
all-entries [] f = tt
all-entries (e ∷ es) f = (f zero e refl, all-entries es (λ k x at. f (suc k) x at))

keep-refs : (b : Bool) (key : Key) (keys : List Key) → IsRef key → AllRefs keys → AllRefs (cond b keys (key ∷ keys))
keep-refs true key keys r all = all
keep-refs false key keys r all = (r, all)

live-one : (key : Key) (behind : List Entry) (keys : List Key) → IsNamed key → AllRefs keys → AllRefs (cond (is_gone key behind) keys (key ∷ keys))
live-one (Branch name) behind keys n all = keep-refs (is_gone (Branch name) behind) (Branch name) keys tt all
live-one (Tag name) behind keys n all = keep-refs (is_gone (Tag name) behind) (Tag name) keys tt all
live-one (Tombstone name) behind keys n all = all
live-one (Lease id) behind keys n all = keep-refs (is_gone (Lease id) behind) (Lease id) keys tt all
live-one (Snapshot id) behind keys n all = absurd n
live-one (Manifest id) behind keys n all = absurd n
live-one (Txn id) behind keys n all = absurd n
live-one (Chunk id) behind keys n all = absurd n

pub live-refs : (entries : List Entry) → AllNamedKeys entries → AllRefs (live entries)
live-refs [] a = tt
live-refs (e ∷ es) a = live-one e.key es (live es) a.0 (live-refs es a.1)

-- what stands at a ref or a lease names a snapshot that was put
pub named-at : (key : Key) (journal : List Event) (s : Stored) → IsRef key → Each IsAny [] journal → found journal key ≡ Some s → NamesPut journal s.bytes
named-at (Branch name) journal s r tidy e = (all-named journal tidy).branches name s e
named-at (Tag name) journal s r tidy e = (all-named journal tidy).tags name s e
named-at (Tombstone name) journal s r tidy e = absurd r
named-at (Lease id) journal s r tidy e = (all-named journal tidy).leases id s e
named-at (Snapshot id) journal s r tidy e = absurd r
named-at (Manifest id) journal s r tidy e = absurd r
named-at (Txn id) journal s r tidy e = absurd r
named-at (Chunk id) journal s r tidy e = absurd r

module _ (who : Id12 → Type 0) where
  tidy-next : (journal more : List Event) (event : Event) → Each IsAny [] journal → Each (IsTidy who) journal more → IsAny (journal ++ more) event → Each IsAny [] ((journal ++ more) ++ event ∷ [])
  tidy-next journal more event tidy others any = Each-append IsAny [] (journal ++ more) (event ∷ []) (tidy-more who journal more tidy others) (Each-one IsAny (journal ++ more) event any)

  -- a listing answers branches or tags
  Lists : Result (List Entry) Refusal → List Event → Type 0
  Lists (Ok entries) h = Each IsAny [] h × AllNamedKeys entries
  Lists (Err why) h = is_strange false why ≡ false

  list-meets : (part : Part) (journal : List Event) → IsRefs part → Each IsAny [] journal → Meets Lists (drawing who) (list_part part) journal
  unfolding Lists
  list-meets part journal r tidy = ask-meets Lists (drawing who) (ListPart part) on_listed journal (λ more event others any is.
      elim (replied (journal ++ more) event (ListPart part) any.good is) [
        | inl h ↦ subst (λ (x : Reply). Meets Lists (drawing who) (on_listed x) ((journal ++ more) ++ event ∷ [])) (sym h.1)
            (done-meets Lists (drawing who) (Ok h.0) ((journal ++ more) ++ event ∷ []) (tidy-next journal more event tidy others any, all-entries h.0 (λ k e at. named-in part e.key r (h.2.right k e at).part_is)))
        | inr f ↦ subst (λ (x : Reply). Meets Lists (drawing who) (on_listed x) ((journal ++ more) ++ event ∷ [])) (sym f.is) (done-meets Lists (drawing who) (Err StoreFault) ((journal ++ more) ++ event ∷ []) refl)
      ])

  -- a ref that stands is a reference
  Reads : {A : Type 0} → Result A Refusal → List Event → Type 0
  Reads (Ok a) h = Each IsAny [] h
  Reads (Err why) h = is_strange false why ≡ false

  ref-meets : (key : Key) (journal : List Event) → IsRef key → Each IsAny [] journal → Meets Reads (drawing who) (read_ref key) journal
  unfolding Reads
  ref-meets key journal r tidy = ask-meets Reads (drawing who) (Get key) (on_got key) journal (λ more event others any is.
      let after = tidy-next journal more event tidy others any in
      got-meets Reads (drawing who) (on_got key) (journal ++ more) event any.good ((journal ++ more) ++ event ∷ []) key is
      (λ s at. let n = named-at key (journal ++ more) s r (tidy-more who journal more tidy others) at in
      subst (λ (o : Result Id12 Bad). Meets Reads (drawing who) (Done (on_id key o)) ((journal ++ more) ++ event ∷ [])) (sym (was-read (read_bytes s.bytes) n.id n.reference)) (done-meets Reads (drawing who) (on_id key (Ok n.id)) ((journal ++ more) ++ event ∷ []) after))
      (λ gone. done-meets Reads (drawing who) (Ok None) ((journal ++ more) ++ event ∷ []) after)
      (λ done. done-meets Reads (drawing who) (Err StoreFault) ((journal ++ more) ++ event ∷ []) refl))

  each-meets : (lines : List RefLine) (keys : List Key) (journal : List Event) → AllRefs keys → Each IsAny [] journal → Meets Reads (drawing who) (read_each lines keys) journal
  unfolding Reads
  each-meets lines [] journal r tidy = done-meets Reads (drawing who) (Ok lines) journal tidy
  each-meets lines (key ∷ keys) journal r tidy =
      then-meets Reads Reads (drawing who) (read_ref key) (λ line. read_each (with_line lines line) keys) journal (ref-meets key journal r.0 tidy)
      (λ line h t. each-meets (with_line lines line) keys h r.1 t) (λ why h p. p)

  tags-meets : (lines : List RefLine) (journal : List Event) → Each IsAny [] journal → Meets Reads (drawing who) (read_tags lines) journal
  unfolding Reads Lists
  tags-meets lines journal tidy = then-meets Lists Reads (drawing who) (list_part Tags) (λ tags. read_each lines (live tags)) journal (list-meets Tags journal tt tidy)
      (λ tags h t. each-meets lines (live tags) h (live-refs tags t.1) t.0) (λ why h p. p)

  branches-meets : (lines : List RefLine) (branches : List Entry) (journal : List Event) → AllNamedKeys branches → Each IsAny [] journal → Meets Reads (drawing who) (read_branches lines branches) journal
  unfolding Reads
  branches-meets lines branches journal n tidy = then-meets Reads Reads (drawing who) (read_each lines (live branches)) read_tags journal (each-meets lines (live branches) journal (live-refs branches n) tidy)
      (λ more h t. tags-meets more h t) (λ why h p. p)

  refs-read : (journal : List Event) → Each IsAny [] journal → Meets Reads (drawing who) refs_program journal
  unfolding Reads Lists
  refs-read journal tidy = then-meets Lists Reads (drawing who) (list_part Branches) (λ branches. read_branches [] branches) journal (list-meets Branches journal tt tidy)
      (λ branches h t. branches-meets [] branches h t.1 t.0) (λ why h p. p)

  reads-plain : {A : Type 0} (r : Result A Refusal) (h : List Event) → Reads r h → strange_answer r ≡ false
  unfolding Reads
  reads-plain (Ok a) h p = refl
  reads-plain (Err why) h p = p

  pub refs-meets : (journal : List Event) → Each IsAny [] journal → Meets (λ (r : Result (List RefLine) Refusal) (h : List Event). strange_answer r ≡ false) (drawing who) refs_program journal
  refs-meets journal tidy = meets-weaker Reads (λ r h. strange_answer r ≡ false) reads-plain (drawing who) refs_program journal (refs-read journal tidy)
