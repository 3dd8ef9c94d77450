-- One step of each recursion.
use Rattle.std.proofs.Common.{◌≡◌, ℕ, zero, suc, ◌+◌, ◌-◌, ◌<◌, ◌≤◌, Bool, true, false, cond, List, [], ◌∷◌, ◌++◌, length, Some, None, refl, sym, ◌∙◌, ap, subst, arith}
use Rattle.std.specs.Prelude.{Err}
use Rattle.ice_ids.specs.declared.Id12.{Id12}
use Rattle.ice_ids.specs.Sets.{has_object}
use Rattle.object_store.specs.declared.keys.Key.{Key}
use Rattle.object_store.specs.declared.keys.Key.TheVariants.{Snapshot, Manifest, Chunk}
use Rattle.object_store.specs.declared.events.Op.TheVariants.{Get}
use Rattle.check_reports.specs.declared.faults.FaultKind.TheVariants.{Ring}
use Rattle.store_api.specs.declared.machines.Refusal.TheVariants.{TooDeep}
use Rattle.store_api.specs.Plays.{Or}
use Rattle.repo_read.specs.Chains.{most_snapshots}
use Rattle.intact.specs.declared.visits.FileVisit.{FileVisit}
use Rattle.intact.specs.declared.visits.PartVisit.{PartVisit}
use Rattle.intact.specs.Told.{found_ref, found_snapshot, found_manifest, found_part}
use Rattle.repo_check.specs.Works.{Work, new_walk, has_file, has_part, tell, verdict}
use Rattle.repo_check.specs.Plays.{Answer, ends_with, starved, asks, on_got, roots_with, told_ref, told_part, get_refs, get_parts, get_files, after_file, after_snapshot, walk, walks}
use Rattle.repo_check.specs.inside.Working.{new_roots, new_files, new_parts}

-- ---- from the first on that wasn't met
pub root-passed : (met ids left : List Id12) (id : Id12) → ids ≡ id ∷ left → has_object met id ≡ true → new_roots met ids ≡ new_roots met left
unfolding new_roots
root-passed met ids left id e h = rw (e, h) refl

pub root-stops : (met ids left : List Id12) (id : Id12) → ids ≡ id ∷ left → has_object met id ≡ false → new_roots met ids ≡ id ∷ left
unfolding new_roots
root-stops met ids left id e h = rw (e, h) refl

pub roots-over : (met ids : List Id12) → ids ≡ [] → new_roots met ids ≡ []
unfolding new_roots
roots-over met ids e = rw e refl

pub file-passed : (met fs left : List FileVisit) (f : FileVisit) → fs ≡ f ∷ left → has_file met f ≡ true → new_files met fs ≡ new_files met left
unfolding new_files
file-passed met fs left f e h = rw (e, h) refl

pub file-stops : (met fs left : List FileVisit) (f : FileVisit) → fs ≡ f ∷ left → has_file met f ≡ false → new_files met fs ≡ f ∷ left
unfolding new_files
file-stops met fs left f e h = rw (e, h) refl

pub files-over : (met fs : List FileVisit) → fs ≡ [] → new_files met fs ≡ []
unfolding new_files
files-over met fs e = rw e refl

pub part-passed : (met ps left : List PartVisit) (p : PartVisit) → ps ≡ p ∷ left → has_part met p ≡ true → new_parts met ps ≡ new_parts met left
unfolding new_parts
part-passed met ps left p e h = rw (e, h) refl

pub part-stops : (met ps left : List PartVisit) (p : PartVisit) → ps ≡ p ∷ left → has_part met p ≡ false → new_parts met ps ≡ p ∷ left
unfolding new_parts
part-stops met ps left p e h = rw (e, h) refl

pub parts-over : (met ps : List PartVisit) → ps ≡ [] → new_parts met ps ≡ []
unfolding new_parts
parts-over met ps e = rw e refl

-- ---- refs
pub refs-end : (keys : List Key) (roots : List Id12) (w : Work) (next : List Id12 → Work → Answer) → keys ≡ [] → get_refs keys roots w next ≡ next roots w
unfolding get_refs
refs-end keys roots w next e = rw e refl

pub refs-more : (key : Key) (keys behind : List Key) (roots : List Id12) (w : Work) (next : List Id12 → Work → Answer) → keys ≡ key ∷ behind → get_refs keys roots w next ≡ asks (Get key) w (on_got w (λ got. get_refs behind (roots_with roots (found_ref got)) (told_ref key (found_ref got) w) next))
unfolding get_refs
refs-more key keys behind roots w next e = rw e refl

-- ---- parts
parts-skip : (ps : List PartVisit) (w : Work) (next : Work → Answer) → get_parts ps w next ≡ get_parts (new_parts w.parts ps) w next
unfolding get_parts new_parts
parts-skip [] w next = refl
parts-skip (p ∷ ps) w next = go (has_part w.parts p) refl (parts-skip ps w next)
  where
    go : (b : Bool) → has_part w.parts p ≡ b → get_parts ps w next ≡ get_parts (new_parts w.parts ps) w next
        → cond b (get_parts ps w next) (asks (Get (Chunk p.object)) w (on_got w (λ got. get_parts ps (told_part p (found_part p got) w) next))) ≡ get_parts (cond b (new_parts w.parts ps) (p ∷ ps)) w next
    go true e rest = rest
    go false e rest = sym (ap (λ (b : Bool). cond b (get_parts ps w next) (asks (Get (Chunk p.object)) w (on_got w (λ got. get_parts ps (told_part p (found_part p got) w) next)))) e)

parts-head : (met ps left : List PartVisit) (p : PartVisit) → new_parts met ps ≡ p ∷ left → has_part met p ≡ false
unfolding new_parts
parts-head met [] left p e = absurd cc
parts-head met (x ∷ ps) left p e = go (has_part met x) refl e (parts-head met ps left p)
  where
    go : (b : Bool) → has_part met x ≡ b → cond b (new_parts met ps) (x ∷ ps) ≡ p ∷ left → (new_parts met ps ≡ p ∷ left → has_part met p ≡ false) → has_part met p ≡ false
    go true h e rest = rest e
    go false h e rest = let same : x ≡ p = cc in ap (has_part met) (sym same) ∙ h

pub parts-end : (ps : List PartVisit) (w : Work) (next : Work → Answer) → new_parts w.parts ps ≡ [] → get_parts ps w next ≡ next w
unfolding get_parts
parts-end ps w next e = parts-skip ps w next ∙ ap (λ (xs : List PartVisit). get_parts xs w next) e

pub parts-more : (p : PartVisit) (ps left : List PartVisit) (w : Work) (next : Work → Answer) → new_parts w.parts ps ≡ p ∷ left → get_parts ps w next ≡ asks (Get (Chunk p.object)) w (on_got w (λ got. get_parts left (told_part p (found_part p got) w) next))
unfolding get_parts
parts-more p ps left w next e =
    parts-skip ps w next
    ∙ (ap (λ (xs : List PartVisit). get_parts xs w next) e
    ∙ ap (λ (b : Bool). cond b (get_parts left w next) (asks (Get (Chunk p.object)) w (on_got w (λ got. get_parts left (told_part p (found_part p got) w) next)))) (parts-head w.parts ps left p e))

-- ---- manifests
files-skip : (fs : List FileVisit) (w : Work) (next : Work → Answer) → get_files fs w next ≡ get_files (new_files w.files fs) w next
unfolding get_files new_files
files-skip [] w next = refl
files-skip (f ∷ fs) w next = go (has_file w.files f) refl (files-skip fs w next)
  where
    go : (b : Bool) → has_file w.files f ≡ b → get_files fs w next ≡ get_files (new_files w.files fs) w next
        → cond b (get_files fs w next) (asks (Get (Manifest f.manifest)) w (on_got w (λ got. after_file f w (λ v. get_files fs v next) (found_manifest f got)))) ≡ get_files (cond b (new_files w.files fs) (f ∷ fs)) w next
    go true e rest = rest
    go false e rest = sym (ap (λ (b : Bool). cond b (get_files fs w next) (asks (Get (Manifest f.manifest)) w (on_got w (λ got. after_file f w (λ v. get_files fs v next) (found_manifest f got))))) e)

files-head : (met fs left : List FileVisit) (f : FileVisit) → new_files met fs ≡ f ∷ left → has_file met f ≡ false
unfolding new_files
files-head met [] left f e = absurd cc
files-head met (x ∷ fs) left f e = go (has_file met x) refl e (files-head met fs left f)
  where
    go : (b : Bool) → has_file met x ≡ b → cond b (new_files met fs) (x ∷ fs) ≡ f ∷ left → (new_files met fs ≡ f ∷ left → has_file met f ≡ false) → has_file met f ≡ false
    go true h e rest = rest e
    go false h e rest = let same : x ≡ f = cc in ap (has_file met) (sym same) ∙ h

pub files-end : (fs : List FileVisit) (w : Work) (next : Work → Answer) → new_files w.files fs ≡ [] → get_files fs w next ≡ next w
unfolding get_files
files-end fs w next e = files-skip fs w next ∙ ap (λ (xs : List FileVisit). get_files xs w next) e

pub files-more : (f : FileVisit) (fs left : List FileVisit) (w : Work) (next : Work → Answer) → new_files w.files fs ≡ f ∷ left → get_files fs w next ≡ asks (Get (Manifest f.manifest)) w (on_got w (λ got. after_file f w (λ v. get_files left v next) (found_manifest f got)))
unfolding get_files
files-more f fs left w next e =
    files-skip fs w next
    ∙ (ap (λ (xs : List FileVisit). get_files xs w next) e
    ∙ ap (λ (b : Bool). cond b (get_files left w next) (asks (Get (Manifest f.manifest)) w (on_got w (λ got. after_file f w (λ v. get_files left v next) (found_manifest f got))))) (files-head w.files fs left f e))

-- ---- snapshots
pub walk-ring : (left : ℕ) (next : Work → Answer) (id : Id12) (w : Work) → has_object w.walk id ≡ true → walk left next id w ≡ Or (next (tell (Snapshot id) Ring w)) (starved w)
unfolding walk
walk-ring zero next id w e = rw e refl
walk-ring (suc left) next id w e = rw e refl

pub walk-known : (left : ℕ) (next : Work → Answer) (id : Id12) (w : Work) → has_object w.walk id ≡ false → has_object w.met id ≡ true → walk left next id w ≡ next w
unfolding walk
walk-known zero next id w a b = rw (a, b) refl
walk-known (suc left) next id w a b = rw (a, b) refl

pub walk-deep : (left : ℕ) (next : Work → Answer) (id : Id12) (w : Work) → has_object w.walk id ≡ false → has_object w.met id ≡ false → left ≡ 0 → walk left next id w ≡ ends_with w (Err TooDeep)
unfolding walk
walk-deep zero next id w a b z = rw (a, b) refl
walk-deep (suc left) next id w a b z = absurd (omega arith)

pub walk-more : (left : ℕ) (next : Work → Answer) (id : Id12) (w : Work) → has_object w.walk id ≡ false → has_object w.met id ≡ false → 0 < left → walk left next id w ≡ asks (Get (Snapshot id)) w (on_got w (λ got. after_snapshot (walk (left - 1) next) id w next (found_snapshot id got)))
unfolding walk
walk-more zero next id w a b l = absurd (omega arith)
walk-more (suc left) next id w a b l = let m : suc left - 1 ≡ left = omega arith in rw (m, a, b) refl

-- ---- walks
walks-skip : (roots : List Id12) (w : Work) → walks roots w ≡ walks (new_roots w.met roots) (new_walk w)
unfolding walks new_roots
walks-skip [] w = refl
walks-skip (id ∷ ids) w = go (has_object w.met id) refl (walks-skip ids (new_walk w))
  where
    go : (b : Bool) → has_object w.met id ≡ b → walks ids (new_walk w) ≡ walks (new_roots w.met ids) (new_walk w) → walk most_snapshots (walks ids) id (new_walk w) ≡ walks (cond b (new_roots w.met ids) (id ∷ ids)) (new_walk w)
    go true e rest = walk-known most_snapshots (walks ids) id (new_walk w) refl e ∙ rest
    go false e rest = refl

roots-head : (met ids left : List Id12) (id : Id12) → new_roots met ids ≡ id ∷ left → has_object met id ≡ false
unfolding new_roots
roots-head met [] left id e = absurd cc
roots-head met (x ∷ ids) left id e = go (has_object met x) refl e (roots-head met ids left id)
  where
    go : (b : Bool) → has_object met x ≡ b → cond b (new_roots met ids) (x ∷ ids) ≡ id ∷ left → (new_roots met ids ≡ id ∷ left → has_object met id ≡ false) → has_object met id ≡ false
    go true h e rest = rest e
    go false h e rest = let same : x ≡ id = cc in ap (has_object met) (sym same) ∙ h

pub walks-end : (roots : List Id12) (w : Work) → new_roots w.met roots ≡ [] → walks roots w ≡ ends_with w (verdict w)
unfolding walks
walks-end roots w e = walks-skip roots w ∙ ap (λ (ids : List Id12). walks ids (new_walk w)) e

pub walks-more : (id : Id12) (roots left : List Id12) (w : Work) → new_roots w.met roots ≡ id ∷ left → walks roots w ≡ asks (Get (Snapshot id)) (new_walk w) (on_got (new_walk w) (λ got. after_snapshot (walk (most_snapshots - 1) (walks left)) id (new_walk w) (walks left) (found_snapshot id got)))
unfolding walks
walks-more id roots left w e =
    walks-skip roots w
    ∙ (ap (λ (ids : List Id12). walks ids (new_walk w)) e
    ∙ walk-more most_snapshots (walks left) id (new_walk w) refl (roots-head w.met roots left id e) (omega arith))
