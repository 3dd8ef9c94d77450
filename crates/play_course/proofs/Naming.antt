-- What the resolution of a name answers in a run over an empty store: what a ref names was put.
use Rattle.std.proofs.Common.{◌≡◌, ℕ, Bool, true, false, List, [], ◌∷◌, ◌++◌, refl, sym, subst}
use Rattle.std.specs.Prelude.{Some, Result, Ok, Err}
use Rattle.ice_ids.specs.declared.Id12.{Id12}
use Rattle.ice_ids.specs.declared.drawing.AnyIds.{AnyIds}
use Rattle.repo_objects.specs.declared.bad_objects.Bad.{Bad}
use Rattle.repo_objects.specs.Readings.{read_ref}
use Rattle.object_store.specs.declared.keys.Key.{Key}
use Rattle.object_store.specs.declared.keys.Key.TheVariants.{Snapshot, Branch, Tag, Tombstone}
use Rattle.object_store.specs.declared.events.Op.TheVariants.{Get}
use Rattle.object_store.specs.declared.events.Event.{Event}
use Rattle.store_api.specs.declared.machines.Refusal.{Refusal}
use Rattle.store_api.specs.declared.machines.Refusal.TheVariants as R
use Rattle.object_store.specs.Machine.{version_at}
use Rattle.store_api.specs.Journal.{Each, WasPut}
use Rattle.store_api.specs.Program.{Done}
use Rattle.object_store.proofs.Slots.{WasPut-append, StoodAt-append, found-stood}
use Rattle.repo_read.specs.declared.answers.Resolved.{Resolved}
use Rattle.repo_read.specs.declared.resolving.At.{At}
use Rattle.repo_read.specs.declared.resolving.Named.{Named}
use Rattle.repo_read.specs.Answers.{at_key, resolved_at, ref_told}
use Rattle.repo_read.specs.Programs.{resolve_program}
use Rattle.repo_read.specs.Resolving.{alone, tag_told, tombstone_told, tag_program, tombstone_program, resolve_at_program}
use Rattle.session.specs.Sessions.{tip_in}
use Rattle.session.specs.Opening.{of_branch, origin_named}
use Rattle.commit_path.specs.Opened.{BranchNamed, IsByRef, IsTip}
use Rattle.commit_path.proofs.Knowing.{IsTip-append}
use Rattle.play_course.specs.Refusing.{is_strange}
use Rattle.play_course.proofs.Tidy.{Client, IsAny, all-named}
use Rattle.play_course.proofs.Meeting.{was-read, Meets, done-meets, ask-meets, then-meets, got-meets}
use Rattle.play_course.proofs.Knowing.{OfOthers, OfOwn, beside}

-- ---- what was named
-- the branch, if it was one, stood at this version with a reference to the snapshot, so that a session may keep it; and what a ref names was put
pub record Names (at : At) (named : Named) (journal : List Event) : Type 0 where
  pub tip : (writes : Bool) → IsTip journal named.id (tip_in (origin_named writes at named.version))
  pub put : IsByRef at → WasPut journal (Snapshot named.id)

pub names-more : (at : At) (named : Named) (journal more : List Event) → Names at named journal → Names at named (journal ++ more)
names-more at named journal more n = record {
  tip = λ writes. IsTip-append journal more named.id (tip_in (origin_named writes at named.version)) (n.tip writes);
  put = λ by. WasPut-append journal more (Snapshot named.id) (n.put by);
}

branch-tip : (name : List ℕ) (read : Resolved) (journal : List Event) → BranchNamed journal name read.version.0 read.id → (writes : Bool) → IsTip journal read.id (tip_in (of_branch writes (record { branch = name; version = read.version })))
branch-tip name read journal n true = n
branch-tip name read journal n false = n

-- ---- names
-- what is known of the journal is known through the events of others, and through own gets
abbrev pub ByOthers : Client → AnyIds → (List Event → Type 0) → Type 0
ByOthers client ids K = (journal more : List Event) → Each (OfOthers client ids) journal more → K journal → K (journal ++ more)

abbrev pub ByGets : Client → AnyIds → (List Event → Type 0) → Type 0
ByGets client ids K = (journal : List Event) (event : Event) (key : Key) → OfOwn client ids journal event → event.op ≡ Get key → K journal → K (journal ++ event ∷ [])

module _ (client : Client) (ids : AnyIds) (K : List Event → Type 0) (k_others : ByOthers client ids K) (k_got : ByGets client ids K) (k_tidy : (journal : List Event) → K journal → Each IsAny [] journal) where
  -- ---- a branch
  abbrev pub Reads : List ℕ → Result Resolved Refusal → List Event → Type 0
  Reads name (Ok read) h = K h × BranchNamed h name read.version.0 read.id × WasPut h (Snapshot read.id)
  Reads name (Err why) h = is_strange client.collects why ≡ false

  pub branch-read : (name : List ℕ) (journal : List Event) → K journal → Meets (Reads name) (beside client ids) (resolve_program name) journal
  branch-read name journal k =
      ask-meets (Reads name) (beside client ids) (Get (Branch name)) (λ reply. Done (ref_told name reply)) journal (λ more event others own is.
      let mid = k_others journal more others k in
      let after = k_got (journal ++ more) event (Branch name) own is mid in
      got-meets (Reads name) (beside client ids) (λ reply. Done (ref_told name reply)) (journal ++ more) event own.tidy.good ((journal ++ more) ++ event ∷ []) (Branch name) is
      (λ s at. let n = (all-named (journal ++ more) (k_tidy (journal ++ more) mid)).branches name s at in
      subst (λ (r : Result Id12 Bad). Meets (Reads name) (beside client ids) (Done (resolved_at (version_at s.version) (at_key (Branch name) r))) ((journal ++ more) ++ event ∷ [])) (sym (was-read (read_ref s.bytes) n.id n.reference))
      (done-meets (Reads name) (beside client ids) (Ok (record { id = n.id; version = version_at s.version })) ((journal ++ more) ++ event ∷ []) (
        after,
        record { bytes = s.bytes; stood = StoodAt-append (journal ++ more) (event ∷ []) (Branch name) s.version s.bytes (found-stood (journal ++ more) (Branch name) s at); names = n.reference },
        WasPut-append (journal ++ more) (event ∷ []) (Snapshot n.id) n.put,
      )))
      (λ gone. done-meets (Reads name) (beside client ids) (Err R.NoRef) ((journal ++ more) ++ event ∷ []) refl)
      (λ done. done-meets (Reads name) (beside client ids) (Err R.StoreFault) ((journal ++ more) ++ event ∷ []) refl))

  -- ---- a tag
  abbrev pub Tags : Result Id12 Refusal → List Event → Type 0
  Tags (Ok id) h = K h × WasPut h (Snapshot id)
  Tags (Err why) h = is_strange client.collects why ≡ false

  pub tag-read : (name : List ℕ) (journal : List Event) → K journal → Meets Tags (beside client ids) (tag_program name) journal
  tag-read name journal k =
      ask-meets Tags (beside client ids) (Get (Tag name)) (λ reply. Done (tag_told name reply)) journal (λ more event others own is.
      let mid = k_others journal more others k in
      let after = k_got (journal ++ more) event (Tag name) own is mid in
      got-meets Tags (beside client ids) (λ reply. Done (tag_told name reply)) (journal ++ more) event own.tidy.good ((journal ++ more) ++ event ∷ []) (Tag name) is
      (λ s at. let n = (all-named (journal ++ more) (k_tidy (journal ++ more) mid)).tags name s at in
      subst (λ (r : Result Id12 Bad). Meets Tags (beside client ids) (Done (at_key (Tag name) r)) ((journal ++ more) ++ event ∷ [])) (sym (was-read (read_ref s.bytes) n.id n.reference))
      (done-meets Tags (beside client ids) (Ok n.id) ((journal ++ more) ++ event ∷ []) (after, WasPut-append (journal ++ more) (event ∷ []) (Snapshot n.id) n.put)))
      (λ gone. done-meets Tags (beside client ids) (Err R.NoRef) ((journal ++ more) ++ event ∷ []) refl)
      (λ done. done-meets Tags (beside client ids) (Err R.StoreFault) ((journal ++ more) ++ event ∷ []) refl))

  tombstone-read : (name : List ℕ) (id : Id12) (journal : List Event) → K journal → WasPut journal (Snapshot id) → Meets Tags (beside client ids) (tombstone_program name id) journal
  tombstone-read name id journal k put =
      ask-meets Tags (beside client ids) (Get (Tombstone name)) (λ reply. Done (tombstone_told id reply)) journal (λ more event others own is.
      let after = k_got (journal ++ more) event (Tombstone name) own is (k_others journal more others k) in
      got-meets Tags (beside client ids) (λ reply. Done (tombstone_told id reply)) (journal ++ more) event own.tidy.good ((journal ++ more) ++ event ∷ []) (Tombstone name) is
      (λ s at. done-meets Tags (beside client ids) (Err R.NoRef) ((journal ++ more) ++ event ∷ []) refl)
      (λ gone. done-meets Tags (beside client ids) (Ok id) ((journal ++ more) ++ event ∷ []) (after, WasPut-append (journal ++ more) (event ∷ []) (Snapshot id) (WasPut-append journal more (Snapshot id) put)))
      (λ done. done-meets Tags (beside client ids) (Err R.StoreFault) ((journal ++ more) ++ event ∷ []) refl))

  -- ---- a branch, a tag or an id
  abbrev pub Resolves : At → Result Named Refusal → List Event → Type 0
  Resolves at (Ok named) h = K h × Names at named h
  Resolves at (Err why) h = is_strange client.collects why ≡ false

  abbrev by_branch : Resolved → Named
  by_branch read = record { id = read.id; version = Some read.version }

  pub resolve-meets : (at : At) (journal : List Event) → K journal → Meets (Resolves at) (beside client ids) (resolve_at_program at) journal
  resolve-meets (At.Branch name) journal k =
      then-meets (Reads name) (Resolves (At.Branch name)) (beside client ids) (resolve_program name) (λ read. Done (Ok (by_branch read))) journal (branch-read name journal k)
      (λ read h r. done-meets (Resolves (At.Branch name)) (beside client ids) (Ok (by_branch read)) h (r.0, record { tip = λ writes. branch-tip name read h r.1 writes; put = λ by. r.2 }))
      (λ why h p. p)
  resolve-meets (At.Tag name) journal k =
      then-meets Tags (Resolves (At.Tag name)) (beside client ids) (tag_program name) _ journal (tag-read name journal k)
      (λ tagged h t.
      then-meets Tags (Resolves (At.Tag name)) (beside client ids) (tombstone_program name tagged) (λ id. Done (Ok (alone id))) h (tombstone-read name tagged h t.0 t.1)
      (λ id j u. done-meets (Resolves (At.Tag name)) (beside client ids) (Ok (alone id)) j (u.0, record { tip = λ writes. tt; put = λ by. u.1 }))
      (λ why j p. p))
      (λ why h p. p)
  resolve-meets (At.Snapshot id) journal k = done-meets (Resolves (At.Snapshot id)) (beside client ids) (Ok (alone id)) journal (k, record { tip = λ writes. tt; put = λ by. absurd by })
