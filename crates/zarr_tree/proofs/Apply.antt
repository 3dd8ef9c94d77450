-- What `apply` gives at a path.
use Rattle.std.proofs.Common.{◌≡◌, ◌≢◌, Bool, true, false, cond, not, ◌&&◌, map, Option, Some, None, option_map, refl, sym, ap, ◌∙◌, ◌⊎◌, inl, inr}
use Rattle.std.specs.Option.{option_or}
use Rattle.std.specs.FinMap.{find, get, entries, keys, retain_keys, get-entries}
use Rattle.std.proofs.lemmas.Bool.{false_from_ne_true}
use Rattle.ice_ids.specs.declared.Id8.{Id8}
use Rattle.ice_ids.specs.Text.{same_id8}
use Rattle.ice_ids.proofs.TextLaws.{same_id8-true, same_id8-self}
use Rattle.zarr_path.specs.Paths.{path_cmp, is_within}
use Rattle.zarr_tree.specs.Nodes.{Node}
use Rattle.zarr_tree.specs.Trees.{Tree, node_at}
use Rattle.zarr_tree.specs.Changes.{Changes, is_dropped, is_gone, patched, has_id, has_id_within, nodes_after, apply}
use Rattle.zarr_tree.proofs.Maps.{Path, any_found, any_key, find-append, find-map, get-where, get-made}

-- `apply` at a path, as a formula
abbrev pub node_after : Changes → Tree → Path → Option Node
node_after c t p = option_or (get c.added p) (cond (is_gone c.dropped t.nodes p) None (option_map (patched c.metas) (node_at t p)))

turned : {A B : Type 0} (b : Bool) (f : A → B) (o : Option A) → option_map f (cond (not b) o None) ≡ cond b None (option_map f o)
turned true f o = refl
turned false f o = refl

pub node-apply : (c : Changes) (t : Tree) (p : Path) → node_at (apply c t) p ≡ node_after c t p
unfolding nodes_after
node-apply c t p =
    let left = retain_keys t.nodes (λ q. not (is_gone c.dropped t.nodes q)) in
    let own : find path_cmp p (map (λ (e : Path × Node). (e.0, patched c.metas e.1)) (entries left)) ≡ cond (is_gone c.dropped t.nodes p) None (option_map (patched c.metas) (node_at t p)) =
    find-map (patched c.metas) p (entries left) ∙ ap (option_map (patched c.metas)) (sym (get-entries left p) ∙ get-where t.nodes (λ q. not (is_gone c.dropped t.nodes q)) p) ∙ turned (is_gone c.dropped t.nodes p) (patched c.metas) (node_at t p)
    in
    get-made _ p ∙ find-append p (entries c.added) _ ∙ (λ i. option_or (sym (get-entries c.added p) i) (own i))

-- a node of t at p or above it is dropped
pub record Gone (dropped : Id8 → Bool) (t : Tree) (p : Path) : Type 0 where
  pub path : Path
  pub node : Node
  pub found : node_at t path ≡ Some node
  pub dropped_id : dropped node.id ≡ true
  pub within : is_within path p ≡ true

pub both : (a b : Bool) → a ≡ true → b ≡ true → (a && b) ≡ true
both true b p q = q
both false b p q = p

pub first : (a b : Bool) → (a && b) ≡ true → a ≡ true
first true b p = refl
first false b p = p

pub second : (a b : Bool) → (a && b) ≡ true → b ≡ true
second true b p = p
second false b p = cc

pub gone-intro : (d : Id8 → Bool) (t : Tree) (p : Path) → Gone d t p → is_gone d t.nodes p ≡ true
unfolding is_gone
gone-intro d t p g = any_key t.nodes _ g.path g.node g.found (both _ _ g.within (ap (is_dropped d) g.found ∙ g.dropped_id))

some_dropped : (d : Id8 → Bool) (o : Option Node) → is_dropped d o ≡ true → (n : Node) × (o ≡ Some n) × (d n.id ≡ true)
some_dropped d None h = cc
some_dropped d (Some n) h = (n, refl, h)

pub gone-elim : (d : Id8 → Bool) (t : Tree) (p : Path) → is_gone d t.nodes p ≡ true → Gone d t p
unfolding is_gone
gone-elim d t p h =
    let f = any_found _ (keys t.nodes) h in
    let x = some_dropped d (node_at t f.0) (second _ _ f.1) in
    record { path = f.0; node = x.0; found = x.1; dropped_id = x.2; within = first _ _ f.1 }

pub gone-false : (d : Id8 → Bool) (t : Tree) (p : Path) → ¬ Gone d t p → is_gone d t.nodes p ≡ false
gone-false d t p never = by_test (is_gone d t.nodes p) (gone-elim d t p)
  where
    by_test : (b : Bool) → (b ≡ true → Gone d t p) → b ≡ false
    by_test true f = absurd (never (f refl))
    by_test false f = refl

pub record IdWithin (t : Tree) (p : Path) (id : Id8) : Type 0 where
  pub path : Path
  pub node : Node
  pub found : node_at t path ≡ Some node
  pub same : node.id ≡ id
  pub within : is_within p path ≡ true

pub id-true : (m n : Id8) → same_id8 m n ≡ true → m ≡ n
id-true m n h = same_id8-true m n h

pub id-refl : (n : Id8) → same_id8 n n ≡ true
id-refl n = same_id8-self n

pub id-false : (m n : Id8) → m ≢ n → same_id8 m n ≡ false
id-false m n h = false_from_ne_true (same_id8 m n) (λ e. h (same_id8-true m n e))

pub some_id : (id : Id8) (o : Option Node) → has_id id o ≡ true → (n : Node) × (o ≡ Some n) × (n.id ≡ id)
some_id id None h = cc
some_id id (Some n) h = (n, refl, id-true n.id id h)

pub id_within-elim : (t : Tree) (p : Path) (id : Id8) → has_id_within t.nodes p id ≡ true → IdWithin t p id
unfolding has_id_within
id_within-elim t p id h =
    let f = any_found _ (keys t.nodes) h in
    let x = some_id id (node_at t f.0) (second _ _ f.1) in
    record { path = f.0; node = x.0; found = x.1; same = x.2; within = first _ _ f.1 }

pub id_within-intro : (t : Tree) (p : Path) (id : Id8) → IdWithin t p id → has_id_within t.nodes p id ≡ true
unfolding has_id_within
id_within-intro t p id g = any_key t.nodes _ g.path g.node g.found (both _ _ g.within (ap (has_id id) g.found ∙ ap (λ k. same_id8 k id) g.same ∙ id-refl id))

-- the two ways to be in the new tree
pub record Own (c : Changes) (t : Tree) (p : Path) (n : Node) : Type 0 where
  pub not_added : get c.added p ≡ None
  pub stays : is_gone c.dropped t.nodes p ≡ false
  pub before : Node
  pub found : node_at t p ≡ Some before
  pub same : n ≡ patched c.metas before

cases_of : (c : Changes) (t : Tree) (p : Path) (n : Node) (o : Option Node) (b : Bool) (m : Option Node) → get c.added p ≡ o → is_gone c.dropped t.nodes p ≡ b → node_at t p ≡ m → option_or o (cond b None (option_map (patched c.metas) m)) ≡ Some n → (get c.added p ≡ Some n) ⊎ Own c t p n
cases_of c t p n (Some x) b m e f g h = inl (e ∙ h)
cases_of c t p n None true m e f g h = cc
cases_of c t p n None false None e f g h = cc
cases_of c t p n None false (Some x) e f g h = inr (record { not_added = e; stays = f; before = x; found = g; same = cc })

pub node_cases : (c : Changes) (t : Tree) (p : Path) (n : Node) → node_at (apply c t) p ≡ Some n → (get c.added p ≡ Some n) ⊎ Own c t p n
node_cases c t p n h = cases_of c t p n _ _ _ refl refl refl (sym (node-apply c t p) ∙ h)

pub added_node : (c : Changes) (t : Tree) (p : Path) (n : Node) → get c.added p ≡ Some n → node_at (apply c t) p ≡ Some n
added_node c t p n h = node-apply c t p ∙ ap (λ o. option_or o (cond (is_gone c.dropped t.nodes p) None (option_map (patched c.metas) (node_at t p)))) h

pub own_node : (c : Changes) (t : Tree) (p : Path) (n : Node) → get c.added p ≡ None → is_gone c.dropped t.nodes p ≡ false → node_at t p ≡ Some n → node_at (apply c t) p ≡ Some (patched c.metas n)
own_node c t p n h g f = node-apply c t p ∙ (λ i. option_or (h i) (cond (g i) None (option_map (patched c.metas) (f i))))

none_of : (o : Option Node) (b : Bool) (m : Option Node) (f : Node → Node) → o ≡ None → (b ≡ true) ⊎ (m ≡ None) → option_or o (cond b None (option_map f m)) ≡ None
none_of None true m f e h = refl
none_of None false m f e (inl x) = cc
none_of None false m f e (inr x) = ap (option_map f) x
none_of (Some n) b m f e h = cc

pub no_node : (c : Changes) (t : Tree) (p : Path) → get c.added p ≡ None → (is_gone c.dropped t.nodes p ≡ true) ⊎ (node_at t p ≡ None) → node_at (apply c t) p ≡ None
no_node c t p h g = node-apply c t p ∙ none_of _ _ _ (patched c.metas) h g
