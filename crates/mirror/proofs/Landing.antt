-- What a mirror has still to do, one step further.
use Rattle.std.proofs.Common.{◌≡◌, ℕ, suc, ◌+◌, ◌*◌, ◌-◌, ◌<◌, length, arith, inl, inr, Bool, true, false, List, [], ◌∷◌, ◌++◌, refl, sym, ◌∙◌, ap, subst}
use Rattle.std.specs.Prelude.{if◌then◌else◌, Option, Some, None, Result, Ok, Err}
use Rattle.ice_ids.specs.declared.Id12.{Id12}
use Rattle.ice_ids.specs.Text.{same_id12, initial_id}
use Rattle.ice_ids.specs.Sets.{has_object}
use Rattle.repo_objects.specs.Readings.{read_log}
use Rattle.object_store.specs.declared.keys.Key.TheVariants.{Txn, Manifest}
use Rattle.store_api.specs.declared.machines.Refusal.{Refusal}
use Rattle.store_api.specs.declared.machines.Refusal.TheVariants.{TooDeep, Differs}
use Rattle.repo_read.specs.declared.answers.Resolved.{Resolved}
use Rattle.repo_read.specs.Chains.{most_snapshots}
use Rattle.mirror_reports.specs.declared.outcome.RefId.{RefId}
use Rattle.mirror_reports.specs.Told.{key_of}
use Rattle.mirror.specs.declared.register.Phase.{Phase}
use Rattle.mirror.specs.declared.register.Phase.TheVariants.{Branches, Tags}
use Rattle.mirror.specs.declared.lines.Link.{Link}
use Rattle.mirror.specs.declared.mirror.Mirror.{Mirror}
use Rattle.mirror.specs.declared.mirror.Object.TheVariants as object
use Rattle.mirror.specs.declared.mirror.Stage.TheVariants as stage
use Rattle.mirror.specs.Lines.{Takes}
use Rattle.repo_objects.specs.Lines.{Line, Pops}
use Rattle.mirror.specs.Programs.{Work, Answer, refused, on_told, take_object, put_object, copy_line, copy_refs, down, down_onto, with_ref, behind_ref, point, see_tag, see_branch, see_ref, move_ref, differs, unless_buried}
use Rattle.mirror.specs.inside.Registers.{Refs}
use Rattle.mirror.specs.inside.Working.{work_of, mirror_rest, on_first, behind_refs, behind_line, behind_snapshot, behind_log, behind_files, behind_manifest, behind_chunk, each_ref, phase_left, refs_left, others_left}
use Rattle.mirror.proofs.Parts.{log-behind}
use Rattle.mirror.proofs.Answering.{at-first}
use Rattle.mirror.proofs.Stepping.{chunks-end, chunks-more, manifests-end, manifests-more, line-end, line-more, refs-end, refs-more, down-copied, down-deep, down-more}

-- ---- the next object with chunks
abbrev with-chunks : Mirror → List Id12 → List Id12 → Mirror
with-chunks m all todo = record m { chunks = record { all = all; todo = todo } }

pub chunk-none : (m : Mirror) (q : Line) → Pops m.chunks None q → mirror_rest (record m { chunks = q; stage = stage.Put (object.Manifest m.file) }) ≡ behind_chunk m (work_of m)
chunk-none m q p =
    subst (λ (l : Line). mirror_rest (record m { chunks = l; stage = stage.Put (object.Manifest m.file) }) ≡ behind_chunk m (work_of m)) (sym p.1) (sym (chunks-end m.chunks.todo (work_of m) (λ v. put_object (Manifest m.file) m.manifest v (behind_manifest m)) p.0))

pub chunk-some : (m : Mirror) (id : Id12) (q : Line) → Pops m.chunks (Some id) q → mirror_rest (record m { chunks = q; stage = stage.Take (object.Chunk id) }) ≡ behind_chunk m (work_of m)
chunk-some m id q p =
    subst (λ (ids : List Id12). mirror_rest (record (with-chunks m ids q.todo) { stage = stage.Take (object.Chunk id) }) ≡ behind_chunk m (work_of m)) (sym p.1) (sym (chunks-more id m.chunks.todo q.todo (work_of m) (λ v. put_object (Manifest m.file) m.manifest v (behind_manifest m)) p.0))

-- ---- the next manifest, the log, the snapshot
abbrev with-files : Mirror → List Id12 → List Id12 → Mirror
with-files m all todo = record m { files = record { all = all; todo = todo } }

-- behind the manifests comes the log, if there is one
abbrev log-or : Mirror → Bool → Answer
log-or m first = if first then behind_log m (work_of m) else take_object (Txn m.link.id) (work_of m) (log-behind m.link.id (work_of m) (behind_log m))

files-done : (m : Mirror) (q : Line) (first : Bool) → Pops m.files None q → same_id12 m.link.id initial_id ≡ first → log-or m first ≡ behind_manifest m (work_of m)
files-done m q first p e = ap (λ (b : Bool). log-or m b) (sym e) ∙ sym (manifests-end m.files.todo (work_of m) (behind_files m) p.0)

pub files-initial : (m : Mirror) (q : Line) → Pops m.files None q → same_id12 m.link.id initial_id ≡ true → mirror_rest (record m { files = q; stage = stage.Put object.Snapshot }) ≡ behind_manifest m (work_of m)
files-initial m q p e =
    subst (λ (l : Line). mirror_rest (record m { files = l; stage = stage.Put object.Snapshot }) ≡ behind_manifest m (work_of m)) (sym p.1) (files-done m q true p e)

pub files-none : (m : Mirror) (q : Line) → Pops m.files None q → same_id12 m.link.id initial_id ≡ false → mirror_rest (record m { files = q; stage = stage.Take object.Log }) ≡ behind_manifest m (work_of m)
files-none m q p e =
    subst (λ (l : Line). mirror_rest (record m { files = l; stage = stage.Take object.Log }) ≡ behind_manifest m (work_of m)) (sym p.1) (files-done m q false p e)

-- behind the log comes the snapshot
pub log-done : (m : Mirror) → mirror_rest (record m { stage = stage.Put object.Snapshot }) ≡ behind_log m (work_of m)
log-done m = refl

pub files-some : (m : Mirror) (id : Id12) (q : Line) → Pops m.files (Some id) q → mirror_rest (record m { files = q; stage = stage.Take (object.Manifest id) }) ≡ behind_manifest m (work_of m)
files-some m id q p =
    subst (λ (ids : List Id12). mirror_rest (record (with-files m ids q.todo) { stage = stage.Take (object.Manifest id) }) ≡ behind_manifest m (work_of m)) (sym p.1) (sym (manifests-more id m.files.todo q.todo (work_of m) (behind_files m) p.0))

-- ---- the next snapshot of the way up
pub link-none : (m : Mirror) (links : List Link) → Takes m.line None links → mirror_rest (record m { line = links; stage = stage.Target }) ≡ copy_line m.line (work_of m) (behind_line m)
link-none m links t = sym (line-end m.line (work_of m) (behind_line m) t.0)

pub link-some : (m : Mirror) (link : Link) (links : List Link) → Takes m.line (Some link) links → mirror_rest (record m { line = links; link = link; stage = stage.Take object.Snapshot }) ≡ copy_line m.line (work_of m) (behind_line m)
link-some m link links t = sym (line-more link m.line links (work_of m) (behind_line m) t)

-- behind a snapshot of the way down, by its parent
abbrev further-down : Mirror → Id12 → Option Id12 → Answer
further-down m id parent = down_onto (λ more next. down m.left more (work_of m) (behind_line m) next) m.line (work_of m) (behind_line m) id parent

pub down-ends : (m : Mirror) (id : Id12) (parent : Option Id12) → parent ≡ None → copy_line (record { id = id; parent = parent } ∷ m.line) (work_of m) (behind_line m) ≡ further-down m id parent
down-ends m id parent e = rw e refl

pub down-on : (m : Mirror) (id : Id12) (parent : Option Id12) (next : Id12) → parent ≡ Some next → down m.left (record { id = id; parent = parent } ∷ m.line) (work_of m) (behind_line m) next ≡ further-down m id parent
down-on m id parent next e = rw e refl

-- ---- the next ref
pub ref-some : (m : Mirror) (r : RefId) (rs : List RefId) → m.register.names ≡ r ∷ rs → mirror_rest (record m { stage = stage.Ref }) ≡ copy_refs m.register.names (work_of m) (behind_refs m.register.phase)
ref-some m r rs e = at-first m.register.names rs r (work_of m) _ m.register.phase e ∙ sym (refs-more r m.register.names rs (work_of m) (behind_refs m.register.phase) e)

refs-done : (m : Mirror) (phase : Phase) → m.register.names ≡ [] → m.register.phase ≡ phase → behind_refs phase (work_of m) ≡ copy_refs m.register.names (work_of m) (behind_refs m.register.phase)
refs-done m phase e f = ap (λ (p : Phase). behind_refs p (work_of m)) (sym f) ∙ sym (refs-end m.register.names (work_of m) (behind_refs m.register.phase) e)

pub ref-tags : (m : Mirror) → m.register.names ≡ [] → m.register.phase ≡ Branches → mirror_rest (record m { register = record (m.register) { phase = Tags }; stage = stage.List }) ≡ copy_refs m.register.names (work_of m) (behind_refs m.register.phase)
ref-tags m e f = refs-done m Branches e f

pub ref-done : (m : Mirror) → m.register.names ≡ [] → m.register.phase ≡ Tags → mirror_rest (record m { stage = stage.Ended; result = Ok m.counts }) ≡ copy_refs m.register.names (work_of m) (behind_refs m.register.phase)
ref-done m e f = refs-done m Tags e f

-- what is left with another register
abbrev refs-after : Mirror → Refs → Answer
refs-after m reg = copy_refs reg.names (work_of (record m { register = reg })) (behind_refs reg.phase)

pub ref-told : (m : Mirror) (put : Bool) (reg : Refs) (r : RefId) (rs : List RefId) → m.register.names ≡ r ∷ rs → reg ≡ record (m.register) { refs = m.register.refs ++ record { tag = r.tag; name = r.name; id = m.target; put = put } ∷ []; names = rs } → refs-after m reg ≡ on_first m.register.names (work_of m) (λ r next. next (with_ref r m.target put (work_of m))) m.register.phase
ref-told m put reg r rs e f = ap (refs-after m) f ∙ sym (at-first m.register.names rs r (work_of m) (λ r next. next (with_ref r m.target put (work_of m))) m.register.phase e)

pub ref-passed : (m : Mirror) (reg : Refs) (r : RefId) (rs : List RefId) → m.register.names ≡ r ∷ rs → reg ≡ record (m.register) { names = rs } → refs-after m reg ≡ on_first m.register.names (work_of m) (λ r next. behind_ref r (work_of m) next None) m.register.phase
ref-passed m reg r rs e f = ap (refs-after m) f ∙ sym (at-first m.register.names rs r (work_of m) (λ r next. behind_ref r (work_of m) next None) m.register.phase e)

-- from the snapshot that the ref names
abbrev NamedBy : (names : List RefId) (phase : Phase) (w : Work) (named : Resolved) → Type 0
NamedBy names phase w named = down most_snapshots [] w (λ v. on_first names v (λ r next. point r named.id v next) phase) named.id ≡ on_first names w (λ r next. behind_ref r w next (Some named)) phase

pub ref-named : (names rs : List RefId) (r : RefId) (phase : Phase) (w : Work) (named : Resolved) → names ≡ r ∷ rs → NamedBy names phase w named
ref-named names rs r phase w named e = subst (λ (ns : List RefId). NamedBy ns phase w named) (sym e) refl

-- ---- the target's ref
module _ (m : Mirror) (r : RefId) (rs : List RefId) (e : m.register.names ≡ r ∷ rs) where
  -- of the ref in work
  abbrev of-first : (RefId → (Work → Answer) → Answer) → Answer
  of-first f = on_first m.register.names (work_of m) f m.register.phase

  abbrev next-refs : Work → Answer
  next-refs v = copy_refs rs v (behind_refs m.register.phase)

  -- two that agree on the ref in work
  alike : (f g : RefId → (Work → Answer) → Answer) → f r next-refs ≡ g r next-refs → of-first f ≡ of-first g
  alike f g same = at-first m.register.names rs r (work_of m) f m.register.phase e ∙ (same ∙ sym (at-first m.register.names rs r (work_of m) g m.register.phase e))

  abbrev seen : Resolved → Bool → Answer
  seen there tag = if tag then see_tag r m.target (work_of m) next-refs there.id else see_branch r m.target (work_of m) next-refs there

  abbrev seen-branch : Resolved → Bool → Answer
  seen-branch there same = if same then next-refs (with_ref r m.target false (work_of m)) else move_ref r m.target (work_of m) next-refs there.version

  pub seen-tag : (there : Resolved) → r.tag ≡ true → of-first (λ r next. see_tag r m.target (work_of m) next there.id) ≡ of-first (λ r next. see_ref r m.target (work_of m) next (Some there))
  seen-tag there t = alike (λ r next. see_tag r m.target (work_of m) next there.id) (λ r next. see_ref r m.target (work_of m) next (Some there)) (ap (seen there) (sym t))

  pub seen-same : (there : Resolved) → r.tag ≡ false → same_id12 there.id m.target ≡ true → of-first (λ r next. next (with_ref r m.target false (work_of m))) ≡ of-first (λ r next. see_ref r m.target (work_of m) next (Some there))
  seen-same there t s = alike (λ r next. next (with_ref r m.target false (work_of m))) (λ r next. see_ref r m.target (work_of m) next (Some there)) (ap (seen-branch there) (sym s) ∙ ap (seen there) (sym t))

  pub seen-other : (there : Resolved) → r.tag ≡ false → same_id12 there.id m.target ≡ false → of-first (λ r next. move_ref r m.target (work_of m) next there.version) ≡ of-first (λ r next. see_ref r m.target (work_of m) next (Some there))
  seen-other there t s = alike (λ r next. move_ref r m.target (work_of m) next there.version) (λ r next. see_ref r m.target (work_of m) next (Some there)) (ap (seen-branch there) (sym s) ∙ ap (seen there) (sym t))

  -- a tag that is there
  abbrev kept-or : Bool → Answer
  kept-or same = if same then next-refs (with_ref r m.target false (work_of m)) else refused (work_of m) (Differs (key_of r))

  pub tag-kept : (there : Id12) (buried : Bool) → buried ≡ false → same_id12 there m.target ≡ true → of-first (λ r next. next (with_ref r m.target false (work_of m))) ≡ of-first (λ r next. unless_buried r m.target (work_of m) next there buried)
  tag-kept there true b s = absurd (cc)
  tag-kept there false b s = alike (λ r next. next (with_ref r m.target false (work_of m))) (λ r next. unless_buried r m.target (work_of m) next there false) (ap kept-or (sym s))

  pub tag-buried : (there : Id12) (buried : Bool) → buried ≡ true → of-first (λ r next. differs r (work_of m)) ≡ of-first (λ r next. unless_buried r m.target (work_of m) next there buried)
  tag-buried there true b = refl
  tag-buried there false b = absurd (cc)

  pub tag-other : (there : Id12) (buried : Bool) → buried ≡ false → same_id12 there m.target ≡ false → of-first (λ r next. differs r (work_of m)) ≡ of-first (λ r next. unless_buried r m.target (work_of m) next there buried)
  tag-other there true b s = absurd (cc)
  tag-other there false b s = alike (λ r next. differs r (work_of m)) (λ r next. unless_buried r m.target (work_of m) next there false) (ap kept-or (sym s))

  pub ref-differs : refused (work_of m) (Differs (key_of r)) ≡ of-first (λ r next. differs r (work_of m))
  ref-differs = sym (at-first m.register.names rs r (work_of m) (λ r next. differs r (work_of m)) m.register.phase e)

-- the target's ref, as it was got
abbrev pub seen-by : Mirror → Option Resolved → Answer
seen-by m there = on_first m.register.names (work_of m) (λ r next. see_ref r m.target (work_of m) next there) m.register.phase

-- fewer refs are left
pub left-told : (m : Mirror) (put : Bool) (reg : Refs) (r : RefId) (rs : List RefId) → m.register.names ≡ r ∷ rs → reg ≡ record (m.register) { refs = m.register.refs ++ record { tag = r.tag; name = r.name; id = m.target; put = put } ∷ []; names = rs } → refs_left (record m { register = reg }) ≡ others_left m
left-told m put reg r rs e f =
    let n : length m.register.names ≡ suc (length rs) = ap length e in
    let l : length rs ≡ length m.register.names - 1 = omega (arith, n) in
    ap (λ (q : Refs). each_ref * length q.names + phase_left q.phase) f ∙ ap (λ (k : ℕ). each_ref * k + phase_left m.register.phase) l
