-- What lines do is determined, and what is left of changes, in words of trees.
use Rattle.std.proofs.Common.{◌≡◌, ◌⊎◌, ℕ, List, [], ◌∷◌, ◌++◌, map, Option, Some, None, Result, Ok, inl, inr, ℤ, Bool, true, false, refl, sym, ◌∙◌, ap, subst}
use Rattle.std.specs.Cmp.{both_ways}
use Rattle.std.proofs.lemmas.Bool.{false≢true}
use Rattle.std.proofs.lemmas.List.{map-append}
use Rattle.ice_ids.specs.declared.Id8.{Id8}
use Rattle.ice_ids.specs.declared.Id12.{Id12}
use Rattle.zarr_path.specs.Paths.{same_path}
use Rattle.zarr_path.specs.Keys.{key_of}
use Rattle.zarr_path.proofs.OrderLaws.{same_path-true, same_path-refl}
use Rattle.zarr_path.specs.declared.keys.ZarrKey.{ZarrKey}
use Rattle.zarr_path.specs.declared.keys.ZarrKey.TheVariants as K
use Rattle.zarr_tree.specs.declared.edit.EditFault.{EditFault}
use Rattle.zarr_tree.specs.Nodes.{Node}
use Rattle.zarr_tree.specs.Trees.{Tree, node_at}
use Rattle.zarr_tree.specs.Changes.{Changes}
use Rattle.zarr_tree.specs.Conflicts.{without}
use Rattle.zarr_tree.specs.Edits.{Edit, Add, change}
use Rattle.zarr_meta.specs.Plain.{group_text}
use Rattle.zarr_meta.specs.declared.views.ArrayView.{ArrayView}
use Rattle.region_cells.specs.Walks.{chunks_met}
use Rattle.region_calls.specs.Written.{IsTreeWith}
use Rattle.region_calls.proofs.Cells.{has_told}
use Rattle.conflicts.specs.declared.solving.Policy.{Policy}
use Rattle.rebase.specs.Along.{Link}
use Rattle.rebase.specs.AlongLaws.{Passes}
use Rattle.script_calls.specs.declared.calls.CellBox.{CellBox}
use Rattle.script_calls.specs.declared.calls.EditCall.{EditCall}
use Rattle.script_calls.specs.declared.calls.EditCall.TheVariants as E
use Rattle.script_calls.specs.declared.calls.Call.{Call}
use Rattle.script_calls.specs.declared.calls.Call.TheVariants as C
use Rattle.play_outcome.specs.declared.outcome.Shown.{Shown}
use Rattle.play_course.specs.Lines.{text_put, key_put, edit_of, Edits, PutsBox, Changed, Does, DoesAll}
use Rattle.play_course.specs.Ways.{Carried, stays, over}
use Rattle.determined_sessions.specs.Trees.{id_added, edit_ids, id_given, ids_given, but_leases, PlaysLaw, links_of, CarriedLaw}

some-same : {A : Type 0} (a b : A) → Some a ≡ Some b → a ≡ b
some-same a b e = cc

array-same : (a b : ArrayView) → Some a ≡ Some b → a ≡ b
array-same a b e = cc

tree-same : (r : Result Tree EditFault) (t u : Tree) → r ≡ Ok t → r ≡ Ok u → t ≡ u
tree-same r t u e f = cc

-- ---- one line
-- the edits are one, and so are the ids behind theirs
abbrev Same : (m n : Edit) (xs ys : List Id8) → Type 0
Same m n xs ys = (m ≡ n) × (xs ≡ ys)

adds-same : (path text : List ℕ) (id other : Id8) (m n : Edit) (xs ys : List Id8) → Some (Add path id text) ≡ Some m → Some (Add path other text) ≡ Some n → id_added m ++ xs ≡ id_added n ++ ys → Same m n xs ys
adds-same path text id other m n xs ys e f h =
    let first : Add path id text ≡ m = some-same (Add path id text) m e in
    let second : Add path other text ≡ n = some-same (Add path other text) n f in
    let ids : id ∷ xs ≡ other ∷ ys = ap (λ (k : Edit). id_added k ++ xs) first ∙ h ∙ sym (ap (λ (k : Edit). id_added k ++ ys) second) in
    let one : id ≡ other = cc in
    let more : xs ≡ ys = cc in
    (sym first ∙ ap (λ (k : Id8). Add path k text) one ∙ second, more)

rest-same : (zs xs ys : List Id8) → zs ++ xs ≡ zs ++ ys → xs ≡ ys
rest-same [] xs ys h = h
rest-same (z ∷ zs) xs ys h =
    let whole : z ∷ (zs ++ xs) ≡ z ∷ (zs ++ ys) = h in
    let rest : zs ++ xs ≡ zs ++ ys = cc in
    rest-same zs xs ys rest

-- they add one node, but for its id
record AddsOne (id other : Id8) (o p : Option Edit) : Type 0 where
  path : List ℕ
  text : List ℕ
  first : o ≡ Some (Add path id text)
  second : p ≡ Some (Add path other text)

-- whatever id it gives a node, a line asks for one edit
abbrev AsksOne : (id other : Id8) (o p : Option Edit) → Type 0
AsksOne id other o p = (o ≡ p) ⊎ AddsOne id other o p

adds-one : (path text : List ℕ) (id other : Id8) → AsksOne id other (Some (Add path id text)) (Some (Add path other text))
adds-one path text id other = inr (record { path = path; text = text; first = refl; second = refl })

text-put-one : (there : Option Node) (path text : List ℕ) (id other : Id8) → AsksOne id other (Some (text_put there id path text)) (Some (text_put there other path text))
text-put-one None path text id other = adds-one path text id other
text-put-one (Some node) path text id other = inl refl

key-put-one : (key : Option ZarrKey) (bytes : List ℕ) (t : Tree) (id other : Id8) → AsksOne id other (key_put key id bytes t) (key_put key other bytes t)
key-put-one (Some (K.Meta path)) bytes t id other = text-put-one (node_at t path) path bytes id other
key-put-one (Some (K.Chunk path index)) bytes t id other = inl refl
key-put-one None bytes t id other = inl refl

edit-asks : (edit : EditCall) (t : Tree) (id other : Id8) → AsksOne id other (edit_of edit id t) (edit_of edit other t)
edit-asks (E.Group path) t id other = adds-one path group_text id other
edit-asks (E.Array path text) t id other = adds-one path text id other
edit-asks (E.Make path text) t id other = adds-one path text id other
edit-asks (E.KeySet key bytes) t id other = key-put-one (key_of key) bytes t id other
edit-asks edit t id other = inl refl

edit-same : (id other : Id8) (o p : Option Edit) (m n : Edit) (xs ys : List Id8) → AsksOne id other o p → o ≡ Some m → p ≡ Some n → id_added m ++ xs ≡ id_added n ++ ys → Same m n xs ys
edit-same id other o p m n xs ys (inl same) e f h =
    let one : m ≡ n = some-same m n (sym e ∙ (same ∙ f)) in
    (one, rest-same (id_added n) xs ys (ap (λ (k : Edit). id_added k ++ xs) (sym one) ∙ h))
edit-same id other o p m n xs ys (inr a) e f h = adds-same a.path a.text id other m n xs ys (sym a.first ∙ e) (sym a.second ∙ f) h

-- what one line shows, the tree behind it, and the ids behind its own
abbrev AreShown : List Shown → List Shown → Type 0
AreShown shown told = map but_leases shown ≡ map but_leases told

abbrev Alike : (shown told : List Shown) (u v : Tree) (xs ys : List Id8) → Type 0
Alike shown told u v xs ys = AreShown shown told × (u ≡ v) × (xs ≡ ys)

shown-same : (shown told : List Shown) → shown ≡ told → AreShown shown told
shown-same shown told e = ap (map but_leases) e

edits-same : (edit : EditCall) (t : Tree) (shown told : List Shown) (u v : Tree) (p : Edits edit t shown u) (q : Edits edit t told v) (xs ys : List Id8) → id_added p.made ++ xs ≡ id_added q.made ++ ys → Alike shown told u v xs ys
edits-same edit t shown told u v p q xs ys h =
    let one = edit-same p.id q.id (edit_of edit p.id t) (edit_of edit q.id t) p.made q.made xs ys (edit-asks edit t p.id q.id) p.asked q.asked h in
    (shown-same shown told (p.silent ∙ sym q.silent), tree-same (change t q.made) u v (ap (change t) (sym one.0) ∙ p.changed) q.changed, one.1)

-- a tree with these numbers in a box is one tree
module _ (path : List ℕ) (array : ArrayView) (from to : List ℕ) (numbers : List ℤ) (t u v : Tree) (a : IsTreeWith path array from to numbers t u) (b : IsTreeWith path array from to numbers t v) where
  own-chunk : (index : List ℕ) → u.chunk path index ≡ v.chunk path index
  own-chunk index = elim (has_told (chunks_met array.chunks from to) index) [ inl met ↦ a.touched index met ∙ sym (b.touched index met) | inr none ↦ a.others index none ∙ sym (b.others index none) ]

  chunk-by : (q index : List ℕ) (same : Bool) → same_path q path ≡ same → u.chunk q index ≡ v.chunk q index
  chunk-by q index true e = let is : q ≡ path = same_path-true q path e in ap (λ (p : List ℕ). u.chunk p index) is ∙ own-chunk index ∙ sym (ap (λ (p : List ℕ). v.chunk p index) is)
  chunk-by q index false e =
      let apart : q ≡ path → ⊥ = λ is. false≢true (sym e ∙ ap (same_path q) (sym is) ∙ same_path-refl q) in
      a.elsewhere q index apart ∙ sym (b.elsewhere q index apart)

  with-one : u ≡ v
  with-one =
      let nodes : u.nodes ≡ v.nodes = a.nodes ∙ sym b.nodes in
      λ i. record { nodes = nodes i; chunk = λ q index. chunk-by q index (same_path q path) refl i }

puts-same : (place : CellBox) (numbers : List ℤ) (t : Tree) (shown told : List Shown) (u v : Tree) (p : PutsBox place numbers t shown u) (q : PutsBox place numbers t told v) → u ≡ v
puts-same place numbers t shown told u v p q =
    let array : p.array ≡ q.array = array-same p.array q.array (sym p.there ∙ q.there) in
    with-one place.path q.array place.from place.to numbers t u v (subst (λ (x : ArrayView). IsTreeWith place.path x place.from place.to numbers t u) array p.box) q.box

changed-same : (edit : EditCall) (t : Tree) (shown told : List Shown) (u v : Tree) (p : Changed edit t shown u) (q : Changed edit t told v) (xs ys : List Id8) → edit_ids edit t shown u p ++ xs ≡ edit_ids edit t told v q ++ ys → Alike shown told u v xs ys
changed-same (E.Put place numbers) t shown told u v p q xs ys h = (shown-same shown told (p.silent ∙ sym q.silent), puts-same place numbers t shown told u v p q, h)
changed-same edit t shown told u v p q xs ys h = edits-same edit t shown told u v p q xs ys h

does-same : (line : ℕ) (call : Call) (t : Tree) (shown told : List Shown) (u v : Tree) (p : Does line call t shown u) (q : Does line call t told v) (xs ys : List Id8)
    → id_given line call t shown u p ++ xs ≡ id_given line call t told v q ++ ys → Alike shown told u v xs ys
does-same line (C.Edit edit) t shown told u v p q xs ys h = changed-same edit t shown told u v p q xs ys h
does-same line (C.Read read) t shown told u v p q xs ys h = (shown-same shown told (some-same shown told (sym p.0 ∙ q.0)), p.1 ∙ sym q.1, h)
does-same line (C.Commit message) t shown told u v p q xs ys h = absurd p
does-same line (C.Ref call) t shown told u v p q xs ys h = (shown-same shown told (p.0 ∙ sym q.0), p.1 ∙ sym q.1, h)
does-same line (C.Prop name value) t shown told u v p q xs ys h = (shown-same shown told (p.0 ∙ sym q.0), p.1 ∙ sym q.1, h)
does-same line C.Lease t shown told u v p q xs ys h = (ap (map but_leases) p.2 ∙ sym (ap (map but_leases) q.2), p.3 ∙ sym q.3, h)

-- ---- lines
pub plays-law : PlaysLaw
unfolding DoesAll ids_given
plays-law [] t shown told u v p q h = (shown-same shown told (p.0 ∙ sym q.0), p.1 ∙ sym q.1)
plays-law (l ∷ ls) t shown told u v p q h =
    let one = does-same l.number l.call t p.0 q.0 p.2 q.2 p.4 q.4 (ids_given ls p.2 p.1 u p.5) (ids_given ls q.2 q.1 v q.5) h in
    let more =
    subst (λ (m : Tree). (r : DoesAll ls m q.1 v) → ids_given ls p.2 p.1 u p.5 ≡ ids_given ls m q.1 v r → AreShown p.1 q.1 × (u ≡ v)) one.1
    (λ r k. plays-law ls p.2 p.1 q.1 u v p.5 r k) q.5 one.2
    in
    let first = shown-same shown (p.0 ++ p.1) p.3 ∙ map-append but_leases p.0 p.1 in
    let second = shown-same told (q.0 ++ q.1) q.3 ∙ map-append but_leases q.0 q.1 in
    (first ∙ (λ i. one.0 i ++ more.0 i) ∙ sym second, more.1)

-- ---- the commits of others
pass-one : (policy : Policy) (c : Changes) (l : Link) (t u : Tree) (d e : Changes) → Passes policy c l t u d → Passes policy c l t u e → d ≡ e
pass-one policy c l t u d e a b =
    a.rest
    ∙ (λ z. without c (λ id i. both_ways (a.out id i) (b.out id i) (λ k. (b.given_up id i).1 ((a.given_up id i).0 k)) (λ k. (a.given_up id i).1 ((b.given_up id i).0 k)) z))
    ∙ sym b.rest

none-some : (l : Link) (ls : List Link) → [] ≡ l ∷ ls → ⊥
none-some l ls e = cc

cons-head : (k l : Link) (ks ls : List Link) → k ∷ ks ≡ l ∷ ls → k ≡ l
cons-head k l ks ls e = cc

cons-tail : (k l : Link) (ks ls : List Link) → k ∷ ks ≡ l ∷ ls → ks ≡ ls
cons-tail k l ks ls e = cc

carried-one : {trees : Id12 → Option Tree} {policy : Policy} {base head other : Id12} {c e f : Changes} (a : Carried trees policy base c head e) (b : Carried trees policy base c other f) → links_of a ≡ links_of b → (head ≡ other) × (e ≡ f)
unfolding links_of
carried-one stays stays h = (refl, refl)
carried-one stays (over l was is follows passes more) h = absurd (none-some l (links_of more) h)
carried-one (over l was is follows passes more) stays h = absurd (none-some l (links_of more) (sym h))
carried-one {trees} {policy} {base} {head} {other} {c} {e} {f} (over {d = d} {t = t} {u = u} l was is follows passes more) (over {d = g} {t = v} {u = w} k has at after goes rest) h =
    let link : l ≡ k = cons-head l k (links_of more) (links_of rest) h in
    let earlier : v ≡ t = some-same v t (sym has ∙ was) in
    let later : w ≡ u = some-same w u (sym at ∙ ap (λ (x : Link). trees x.file.id) (sym link) ∙ is) in
    let passed : Passes policy c l t u g = subst (λ (x : Link). Passes policy c x t u g) (sym link) (subst (λ (x : Tree). Passes policy c k t x g) later (subst (λ (x : Tree). Passes policy c k x w g) earlier goes)) in
    let left : d ≡ g = pass-one policy c l t u d g passes passed in
    subst (λ (x : Link). (r : Carried trees policy x.file.id g other f) → links_of more ≡ links_of r → (head ≡ other) × (e ≡ f)) link
    (subst (λ (x : Changes). (r : Carried trees policy l.file.id x other f) → links_of more ≡ links_of r → (head ≡ other) × (e ≡ f)) left (λ r m. carried-one more r m)) rest (cons-tail l k (links_of more) (links_of rest) h)

pub carried-law : CarriedLaw
carried-law trees policy base head other c e f a b h = carried-one a b h
