-- One step of each recursion.
use Rattle.std.proofs.Common.{◌≡◌, ◌∙◌, ℕ, zero, suc, ◌-◌, ◌<◌, ◌≤◌, Bool, true, false, List, [], ◌∷◌, length, refl, sym, ap, subst, arith}
use Rattle.std.specs.Prelude.{Option, Some, Result, Err}
use Rattle.ice_ids.specs.declared.Id12.{Id12}
use Rattle.object_store.specs.declared.keys.Key.{Key}
use Rattle.object_store.specs.declared.keys.Key.TheVariants.{Snapshot, Manifest}
use Rattle.object_store.specs.declared.events.Op.TheVariants.{Get}
use Rattle.store_api.specs.declared.machines.Next.{Next}
use Rattle.store_api.specs.declared.machines.Refusal.{Refusal}
use Rattle.store_api.specs.declared.machines.Refusal.TheVariants.{TooDeep}
use Rattle.store_api.specs.Program.{Done}
use Rattle.repo_objects.specs.Lines.{Line, Pops}
use Rattle.chunk_gc.specs.Told.{ref_got, snapshot_got, manifest_got}
use Rattle.chunk_gc.specs.Programs.{Answer, Work, asks, get_refs, with_file, get_files, mark_got, mark_next, mark, mark_leased, begin_leased, marking, leaving_files, leaving_snapshots, list_snapshots}
use Rattle.chunk_gc.specs.inside.Working.{Tells}

pub refs-end : (add : Option Id12 → Work → Work) (keys : List Key) (w : Work) (next : Work → Answer) → keys ≡ [] → get_refs add keys w next ≡ next w
unfolding get_refs
refs-end add keys w next e = rw e refl

pub refs-more : (add : Option Id12 → Work → Work) (key : Key) (keys behind : List Key) (w : Work) (next : Work → Answer) → keys ≡ key ∷ behind → get_refs add keys w next ≡ asks (Get key) (ref_got key) (λ id. get_refs add behind (add id w) next)
unfolding get_refs
refs-more add key keys behind w next e = rw e refl

pub files-end : (ids : List Id12) (w : Work) (next : Work → Answer) → ids ≡ [] → get_files ids w next ≡ next w
unfolding get_files
files-end ids w next e = rw e refl

files-more : (id : Id12) (ids behind : List Id12) (w : Work) (next : Work → Answer) → ids ≡ id ∷ behind → get_files ids w next ≡ asks (Get (Manifest id)) (manifest_got w.passes id) (λ m. get_files behind (with_file m (leaving_files behind w)) next)
unfolding get_files
files-more id ids behind w next e = rw e refl

mark-end : (left : ℕ) (end : ℕ → Work → Answer) (w : Work) → w.snapshots.todo ≡ [] → mark left end w ≡ end left w
unfolding mark mark_next
mark-end zero end w e = rw e refl
mark-end (suc left) end w e = rw e refl

mark-deep : (left : ℕ) (id : Id12) (behind : List Id12) (end : ℕ → Work → Answer) (w : Work) → w.snapshots.todo ≡ id ∷ behind → left ≡ 0 → mark left end w ≡ Done (Err TooDeep)
unfolding mark mark_next
mark-deep zero id behind end w e z = rw e refl
mark-deep (suc left) id behind end w e z = absurd (omega (arith, z))

mark-more : (left : ℕ) (id : Id12) (behind : List Id12) (end : ℕ → Work → Answer) (w : Work) → w.snapshots.todo ≡ id ∷ behind → 0 < left
    → mark left end w ≡ asks (Get (Snapshot id)) (snapshot_got w.passes id) (mark_got id (λ v. mark (left - 1) end v) (mark left end (leaving_snapshots behind w)) (leaving_snapshots behind w))
unfolding mark mark_next
mark-more zero id behind end w e l = absurd (omega (arith, l))
mark-more (suc left) id behind end w e l = let m : suc left - 1 ≡ left = omega arith in rw (m, e) refl

-- the same where a queue gave its first
mark-taken : (left : ℕ) (id : Id12) (end : ℕ → Work → Answer) (w : Work) (q : Line) → Pops w.snapshots (Some id) q → 0 < left
    → mark left end w ≡ asks (Get (Snapshot id)) (snapshot_got w.passes id) (mark_got id (λ v. mark (left - 1) end v) (mark left end (record w { snapshots = q })) (record w { snapshots = q }))
mark-taken left id end w q p l =
    subst (λ (x : List Id12). mark left end w ≡ asks (Get (Snapshot id)) (snapshot_got w.passes id) (mark_got id (λ v. mark (left - 1) end v) (mark left end (record w { snapshots = record { all = x; todo = q.todo } })) (record w { snapshots = record { all = x; todo = q.todo } })))
    (sym p.1) (mark-more left id q.todo end w p.0 l)

pub files-taken : (id : Id12) (w : Work) (q : Line) (next : Work → Answer) → Pops w.files (Some id) q → get_files w.files.todo w next ≡ asks (Get (Manifest id)) (manifest_got w.passes id) (λ m. get_files q.todo (with_file m (record w { files = q })) next)
files-taken id w q next p =
    subst (λ (x : List Id12). get_files w.files.todo w next ≡ asks (Get (Manifest id)) (manifest_got w.passes id) (λ m. get_files q.todo (with_file m (record w { files = record { all = x; todo = q.todo } })) next)) (sym p.1) (files-more id w.files.todo q.todo w next p.0)

-- ---- both parts of the marking
pub marking-end : (passes : Bool) (left : ℕ) (w : Work) → w.snapshots.todo ≡ [] → (passes ≡ false → 0 < length w.snapshots.todo) → marking passes left w ≡ list_snapshots w
marking-end true left w e some = mark-end left (λ n v. list_snapshots v) w e
marking-end false left w e some = absurd (let more = some refl in let none = ap length e in omega (arith, more, none))

-- what leases named comes next
pub marking-on : (left : ℕ) (w : Work) → w.snapshots.todo ≡ [] → marking false left w ≡ marking true left (begin_leased w)
marking-on left w e = mark-end left (λ n v. mark_leased n (begin_leased v)) w e

pub marking-deep : (passes : Bool) (left : ℕ) (id : Id12) (behind : List Id12) (w : Work) → w.snapshots.todo ≡ id ∷ behind → left ≡ 0 → marking passes left w ≡ Done (Err TooDeep)
marking-deep true left id behind w e z = mark-deep left id behind (λ n v. list_snapshots v) w e z
marking-deep false left id behind w e z = mark-deep left id behind (λ n v. mark_leased n (begin_leased v)) w e z

pub marking-taken : (passes : Bool) (left : ℕ) (id : Id12) (w : Work) (q : Line) → Pops w.snapshots (Some id) q → 0 < left
    → marking passes left w ≡ asks (Get (Snapshot id)) (snapshot_got w.passes id) (mark_got id (marking passes (left - 1)) (marking passes left (record w { snapshots = q })) (record w { snapshots = q }))
marking-taken true left id w q p l = mark-taken left id (λ n v. list_snapshots v) w q p l
marking-taken false left id w q p l = mark-taken left id (λ n v. mark_leased n (begin_leased v)) w q p l

none-left : (ids : List Id12) → length ids ≤ 0 → ids ≡ []
none-left [] few = refl
none-left (id ∷ ids) few = absurd (omega (arith, few))

pub passed-on : (passes : Bool) (left : ℕ) (w : Work) (after : Bool) (still : ℕ) (v : Work) → passes ≡ false → length w.snapshots.todo ≤ 0 → v ≡ begin_leased w → after ≡ true → still ≡ left → marking passes left w ≡ marking after still v
passed-on passes left w after still v first few begun last same =
    ap (λ (b : Bool). marking b left w) first ∙ (marking-on left w (none-left w.snapshots.todo few) ∙ (ap (λ (x : Work). marking true left x) (sym begun)
    ∙ (ap (λ (n : ℕ). marking true n v) (sym same) ∙ ap (λ (b : Bool). marking b still v) (sym last))))

-- the same refusal is told
pub tells-by : (p q : Answer) (result : Result (Next (List Key)) Refusal) → p ≡ q → Tells q result → Tells p result
tells-by p q result e t = subst (λ (x : Answer). Tells x result) (sym e) t
