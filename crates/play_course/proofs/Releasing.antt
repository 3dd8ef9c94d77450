-- What a task shows once its session's leases were released: the same, but for why leases were left.
use Rattle.std.proofs.Common.{◌≡◌, inl, inr, ℕ, List, [], ◌∷◌, ◌++◌, map, refl, sym, ◌∙◌, ap, subst, ℤ}
use Rattle.std.specs.Prelude.{Option, Some, None, option_map, filter}
use Rattle.std.specs.FinMap.{entries}
use Rattle.zarr_path.specs.Paths.{is_beneath}
use Rattle.zarr_path.specs.Keys.{key_of}
use Rattle.zarr_path.specs.declared.keys.ZarrKey.{ZarrKey}
use Rattle.zarr_path.specs.declared.keys.ZarrKey.TheVariants as K
use Rattle.zarr_tree.specs.Nodes.{Node, is_array}
use Rattle.zarr_tree.specs.Trees.{Tree, node_at}
use Rattle.object_store.specs.declared.events.Event.{Event}
use Rattle.store_api.specs.declared.machines.Refusal.{Refusal}
use Rattle.array_region.specs.Cells.{cells_of}
use Rattle.script_calls.specs.declared.calls.EditCall.{EditCall}
use Rattle.script_calls.specs.declared.calls.EditCall.TheVariants as E
use Rattle.script_calls.specs.declared.calls.ReadCall.{ReadCall}
use Rattle.script_calls.specs.declared.calls.ReadCall.TheVariants as R
use Rattle.script_calls.specs.declared.calls.Call.{Call}
use Rattle.script_calls.specs.declared.calls.Call.TheVariants as C
use Rattle.play_script.specs.declared.scripts.Line.{Line}
use Rattle.play_outcome.specs.declared.outcome.Shown.{Shown}
use Rattle.play_outcome.specs.declared.outcome.Shown.TheVariants as S
use Rattle.play_tasks.specs.Playing.{left_by}
use Rattle.play_tasks.specs.Telling.{WereReleased}
use Rattle.play_course.specs.Lines.{beneath_shown, chunk_shown, key_shown, shown_of, Changed, Does, DoesAll}
use Rattle.play_course.specs.Promise.{EndsShowing}

-- ---- one after the other
-- a lease may be left, and all else stays
abbrev pub IsAfter : Shown → Shown → Type 0
IsAfter (S.Node line array path) y = y ≡ S.Node line array path
IsAfter (S.Meta line text) y = y ≡ S.Meta line text
IsAfter (S.Chunk line bytes) y = y ≡ S.Chunk line bytes
IsAfter (S.Fill line) y = y ≡ S.Fill line
IsAfter (S.Cells line numbers) y = y ≡ S.Cells line numbers
IsAfter (S.Key line bytes) y = y ≡ S.Key line bytes
IsAfter (S.Log line snapshot flushed_at message props) y = y ≡ S.Log line snapshot flushed_at message props
IsAfter (S.Lease line id left) y = (why : Option Refusal) × (y ≡ S.Lease line id why)

abbrev pub AreAfter : List Shown → List Shown → Type 0
AreAfter [] ys = ys ≡ []
AreAfter (x ∷ xs) ys = (y : Shown) × (more : List Shown) × (ys ≡ y ∷ more) × IsAfter x y × AreAfter xs more

pub released-after : (client : ℕ) (before : List Shown) (first : List Event) (after : List Shown) (journal : List Event) → WereReleased client before first after journal → AreAfter before after
unfolding WereReleased
released-after client [] first after journal w = w.0
released-after client (S.Lease line id left ∷ before) first after journal w = (S.Lease line id (left_by w.0), w.2, w.3, (left_by w.0, refl), released-after client before w.1 w.2 journal w.5)
released-after client (S.Node line array path ∷ before) first after journal w = (S.Node line array path, w.0, w.1, refl, released-after client before first w.0 journal w.2)
released-after client (S.Meta line text ∷ before) first after journal w = (S.Meta line text, w.0, w.1, refl, released-after client before first w.0 journal w.2)
released-after client (S.Chunk line bytes ∷ before) first after journal w = (S.Chunk line bytes, w.0, w.1, refl, released-after client before first w.0 journal w.2)
released-after client (S.Fill line ∷ before) first after journal w = (S.Fill line, w.0, w.1, refl, released-after client before first w.0 journal w.2)
released-after client (S.Cells line numbers ∷ before) first after journal w = (S.Cells line numbers, w.0, w.1, refl, released-after client before first w.0 journal w.2)
released-after client (S.Key line bytes ∷ before) first after journal w = (S.Key line bytes, w.0, w.1, refl, released-after client before first w.0 journal w.2)
released-after client (S.Log line id flushed_at message props ∷ before) first after journal w = (S.Log line id flushed_at message props, w.0, w.1, refl, released-after client before first w.0 journal w.2)

pub after-parts : (xs ys zs : List Shown) → AreAfter (xs ++ ys) zs → (front back : List Shown) × (zs ≡ front ++ back) × AreAfter xs front × AreAfter ys back
after-parts [] ys zs a = ([], zs, refl, refl, a)
after-parts (x ∷ xs) ys zs a =
    let rest = after-parts xs ys a.1 a.4 in
    (a.0 ∷ rest.0, rest.1, a.2 ∙ ap (λ (l : List Shown). a.0 ∷ l) rest.2, (a.0, rest.0, refl, a.3, rest.3), rest.4)

-- ---- what shows no lease
abbrev IsNoLease : Shown → Type 0
IsNoLease (S.Lease line id left) = ⊥
IsNoLease (S.Node line array path) = Unit {0}
IsNoLease (S.Meta line text) = Unit {0}
IsNoLease (S.Chunk line bytes) = Unit {0}
IsNoLease (S.Fill line) = Unit {0}
IsNoLease (S.Cells line numbers) = Unit {0}
IsNoLease (S.Key line bytes) = Unit {0}
IsNoLease (S.Log line snapshot flushed_at message props) = Unit {0}

abbrev AreNoLeases : List Shown → Type 0
AreNoLeases [] = Unit {0}
AreNoLeases (x ∷ xs) = IsNoLease x × AreNoLeases xs

one-stays : (x y : Shown) → IsNoLease x → IsAfter x y → y ≡ x
one-stays (S.Lease line id left) y none a = absurd none
one-stays (S.Node line array path) y none a = a
one-stays (S.Meta line text) y none a = a
one-stays (S.Chunk line bytes) y none a = a
one-stays (S.Fill line) y none a = a
one-stays (S.Cells line numbers) y none a = a
one-stays (S.Key line bytes) y none a = a
one-stays (S.Log line snapshot flushed_at message props) y none a = a

stay : (xs ys : List Shown) → AreNoLeases xs → AreAfter xs ys → ys ≡ xs
stay [] ys none a = a
stay (x ∷ xs) ys none a = a.2 ∙ (ap (λ (y : Shown). y ∷ a.1) (one-stays x a.0 none.0 a.3) ∙ ap (λ (l : List Shown). x ∷ l) (stay xs a.1 none.1 a.4))

none-after : (xs ys : List Shown) → xs ≡ [] → AreAfter xs ys → ys ≡ []
none-after xs ys none a = subst (λ (x : List Shown). AreAfter x ys) none a

rows-none : (line : ℕ) (rows : List (List ℕ × Node)) → AreNoLeases (map (λ row. S.Node line (is_array row.1.text) row.0) rows)
rows-none line [] = tt
rows-none line (row ∷ rows) = (tt, rows-none line rows)

mapped-none : {A : Type 0} (f : A → List Shown) (each : (a : A) → AreNoLeases (f a)) (o : Option A) (shown : List Shown) → option_map f o ≡ Some shown → AreNoLeases shown
mapped-none f each None shown e = absurd cc
mapped-none f each (Some a) shown e = let is : f a ≡ shown = cc in subst AreNoLeases is (each a)

chunk-none : (line : ℕ) (o : Option (List ℕ)) → IsNoLease (chunk_shown line o)
chunk-none line None = tt
chunk-none line (Some bytes) = tt

key-none : (line : ℕ) (o : Option ZarrKey) (t : Tree) (shown : List Shown) → key_shown line o t ≡ Some shown → AreNoLeases shown
key-none line None t shown e = absurd cc
key-none line (Some (K.Meta path)) t shown e = let is : S.Key line (option_map (λ (node : Node). node.text) (node_at t path)) ∷ [] ≡ shown = cc in subst AreNoLeases is (tt, tt)
key-none line (Some (K.Chunk path index)) t shown e = let is : S.Key line (t.chunk path index) ∷ [] ≡ shown = cc in subst AreNoLeases is (tt, tt)

look-none : (line : ℕ) (look : ReadCall) (t : Tree) (shown : List Shown) → shown_of line look t ≡ Some shown → AreNoLeases shown
look-none line (R.List path) t shown e = mapped-none (λ (node : Node). beneath_shown line t path) (λ node. rows-none line (filter (λ row. is_beneath path row.0) (entries t.nodes))) (node_at t path) shown e
look-none line (R.Get path) t shown e = mapped-none (λ (node : Node). S.Meta line node.text ∷ []) (λ node. (tt, tt)) (node_at t path) shown e
look-none line (R.Chunk path index) t shown e = let is : chunk_shown line (t.chunk path index) ∷ [] ≡ shown = cc in subst AreNoLeases is (chunk-none line (t.chunk path index), tt)
look-none line (R.Cells place) t shown e = mapped-none (λ (held : List ℤ). S.Cells line held ∷ []) (λ held. (tt, tt)) (cells_of t place.path place.from place.to) shown e
look-none line (R.KeyGet key) t shown e = key-none line (key_of key) t shown e

-- ---- lines
silent : (edit : EditCall) (t : Tree) (shown : List Shown) (u : Tree) → Changed edit t shown u → shown ≡ []
silent (E.Put place numbers) t shown u d = d.silent
silent edit t shown u d = d.silent

does-after : (line : ℕ) (call : Call) (t : Tree) (shown after : List Shown) (u : Tree) → AreAfter shown after → Does line call t shown u → Does line call t after u
does-after line (C.Edit edit) t shown after u a d =
    let quiet = silent edit t shown u d in
    subst (λ (x : List Shown). Changed edit t x u) (quiet ∙ sym (none-after shown after quiet a)) d
does-after line (C.Read look) t shown after u a d = (d.0 ∙ ap (λ (x : List Shown). Some x) (sym (stay shown after (look-none line look t shown d.0) a)), d.1)
does-after line (C.Commit message) t shown after u a d = d
does-after line (C.Ref call) t shown after u a d = (none-after shown after d.0 a, d.1)
does-after line (C.Prop name value) t shown after u a d = (none-after shown after d.0 a, d.1)
does-after line C.Lease t shown after u a d =
    let one : AreAfter (S.Lease line d.0 d.1 ∷ []) after = subst (λ (x : List Shown). AreAfter x after) d.2 a in
    (d.0, one.3.0, one.2 ∙ (ap (λ (y : Shown). y ∷ one.1) one.3.1 ∙ ap (λ (l : List Shown). S.Lease line d.0 one.3.0 ∷ l) one.4), d.3)

pub plays-after : (ls : List Line) (t : Tree) (shown after : List Shown) (u : Tree) → AreAfter shown after → DoesAll ls t shown u → DoesAll ls t after u
unfolding DoesAll
plays-after [] t shown after u a p = (none-after shown after p.0 a, p.1)
plays-after (l ∷ ls) t shown after u a p =
    let parts = after-parts p.0 p.1 after (subst (λ (x : List Shown). AreAfter x after) p.3 a) in
    (parts.0, parts.1, p.2, parts.2, does-after l.number l.call t p.0 parts.0 p.2 parts.3 p.4, plays-after ls p.2 p.1 parts.1 u parts.4 p.5)

-- ---- the line at which a session ended
pub end-after : (left : List Line) (last after : List Shown) → AreAfter last after → EndsShowing left last → EndsShowing left after
end-after left last after a (inl none) = inl (none-after last after none a)
end-after left last after a (inr l) =
    let one : AreAfter (S.Lease l.line.number l.id l.why ∷ []) after = subst (λ (x : List Shown). AreAfter x after) l.shows a in
    inr (record {
      line = l.line;
      behind = l.behind;
      left_is = l.left_is;
      leases = l.leases;
      id = l.id;
      why = one.3.0;
      shows = one.2 ∙ (ap (λ (y : Shown). y ∷ one.1) one.3.1 ∙ ap (λ (x : List Shown). S.Lease l.line.number l.id one.3.0 ∷ x) one.4);
    })
