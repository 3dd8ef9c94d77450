-- Whether changes are normal doesn't hang on the bytes of chunks, but on their number alone.
use Rattle.std.proofs.Common.{◌≡◌, ℕ, Bool, true, false, cond, List, length, replicate, Option, Some, None, option_map, unwrap_or, refl, sym, ◌∙◌, ap, subst, ◌⊎◌, inl, inr}
use Rattle.std.specs.Prelude.{option_and_then}
use Rattle.std.specs.FinMap.{get}
use Rattle.std.proofs.lemmas.List.{length-replicate}
use Rattle.ice_ids.specs.declared.Id8.{Id8}
use Rattle.zarr_path.specs.Paths.{parent_of}
use Rattle.zarr_tree.specs.Nodes.{Node, SameFrozen, is_array}
use Rattle.zarr_tree.specs.Trees.{Tree, node_at, HasGroup, HasArray}
use Rattle.zarr_tree.specs.Changes.{Changes, patched, own_chunk, chunk_of, apply, StillHas, EntryFits, IsNormal}
use Rattle.zarr_tree.specs.Held.{Held, HeldEntry, entry_in, changes_of}
use Rattle.zarr_tree.proofs.NodeLaws.{frozen-refl}
use Rattle.zarr_tree.proofs.Apply.{Own, node_cases}
use Rattle.zarr_changes.specs.Sets.{length_of}
use Rattle.manifest_file.specs.declared.manifest.Place.{Place}
use Rattle.manifest_file.specs.declared.manifest.Place.TheVariants.{Inline, Object}
use Rattle.repo_objects.specs.Trees.{Puts, Extends, bytes_at}
use Rattle.changed_snapshot.specs.Laws.{KeepsFrozen}
use Rattle.session.specs.Sessions.{SessionState, base_tree, changes_in}
use Rattle.commit_path.specs.Owed.{HasChunks}
use Rattle.commit_path.proofs.Putting.{bytes-extend}

-- ---- as many bytes as a place tells
abbrev pub sized : Place → Option (List ℕ)
sized (Inline bytes) = Some bytes
sized (Object id offset size) = Some (replicate size 0)

pub sized-bytes : (place : Place) → (bytes : List ℕ) × (sized place ≡ Some bytes) × (length bytes ≡ length_of place)
sized-bytes (Inline bytes) = (bytes, refl, refl)
sized-bytes (Object id offset size) = (replicate size 0, refl, length-replicate size 0)

abbrev pub changes_sized : SessionState → Changes
changes_sized s = changes_of sized s.held

-- ---- places that have as many bytes by one look as by another
abbrev pub AreAlike : {P : Type 0} → (f g : P → Option (List ℕ)) → List (HeldEntry P) → Type 0
AreAlike {P} f g entries = (node : Id8) (i : List ℕ) (place : P) → entry_in entries node i ≡ Some (Some place) → (a b : List ℕ) × (f place ≡ Some a) × (g place ≡ Some b) × (length a ≡ length b)

some-same : {A : Type 0} (a b : A) → Some a ≡ Some b → a ≡ b
some-same a b e = cc

module _ {P : Type 0} (f g : P → Option (List ℕ)) (h : Held P) (t : Tree) (alike : AreAlike f g h.chunks) (normal : IsNormal (changes_of f h) t) where
  abbrev c : Changes
  c = changes_of f h

  abbrev d : Changes
  d = changes_of g h

  stands : (id : Id8) → StillHas t (apply c t) id → StillHas t (apply d t) id
  stands id s = record { path = s.path; before = s.before; after = s.after; was = s.was; is = s.is; before_id = s.before_id; after_id = s.after_id }

  fits-other : (id : Id8) (i : List ℕ) (e o : Option (List ℕ)) → (o ≡ None → e ≡ None) → ((b : List ℕ) → o ≡ Some b → (a : List ℕ) × (e ≡ Some a) × (length a ≡ length b)) → EntryFits t (apply c t) id i e → EntryFits t (apply d t) id i o
  fits-other id i e o unset whole x = record {
    path = x.path;
    node = x.node;
    found = x.found;
    same = x.same;
    fits = record { array = x.fits.array; found = x.fits.found; rank = x.fits.rank; low = x.fits.low; whole = λ b is. let a = whole b is in sym a.2 ∙ x.fits.whole a.0 a.1 };
    unset = λ is. stands id (x.unset (unset is));
  }

  -- an entry fits as it does by the other look
  by_entry : (id : Id8) (i : List ℕ) (o : Option (Option P)) → entry_in h.chunks id i ≡ o → (e : Option (List ℕ)) → option_map (λ (place : Option P). option_and_then g place) o ≡ Some e → EntryFits t (apply d t) id i e
  by_entry id i None found e k = cc
  by_entry id i (Some None) found e k =
      subst (EntryFits t (apply d t) id i) (some-same None e k)
      (fits-other id i None None (λ x. refl) (λ b x. absurd cc) (normal.chunks id i None (ap (option_map (λ (place : Option P). option_and_then f place)) found)))
  by_entry id i (Some (Some place)) found e k =
      let x = alike id i place found in
      let is : Some x.1 ≡ e = sym x.3 ∙ some-same (g place) e k in
      subst (EntryFits t (apply d t) id i) is
      (fits-other id i (Some x.0) (Some x.1) (λ y. absurd cc) (λ b y. (x.0, refl, x.4 ∙ ap length (some-same x.1 b y)))
      (normal.chunks id i (Some x.0) (ap (option_map (λ (place : Option P). option_and_then f place)) found ∙ ap (λ (o : Option (List ℕ)). Some o) x.2)))

  -- ---- the tree is well formed
  array-same : (p i b : List ℕ) → HasArray (apply c t) p i b → HasArray (apply d t) p i b
  array-same p i b a = record { node = a.node; found = a.found; fits = a.fits }

  group-same : (p : List ℕ) → HasGroup (apply c t) p → HasGroup (apply d t) p
  group-same p a = record { node = a.node; found = a.found; group = a.group }

  abbrev own : (p i : List ℕ) → Node → Option (List ℕ)
  own p i n = own_chunk (node_at t p) n.id (t.chunk p i)

  entered : (p i b : List ℕ) (n : Node) → node_at (apply d t) p ≡ Some n → EntryFits t (apply d t) n.id i (Some b) → HasArray (apply d t) p i b
  entered p i b n found x =
      let path : x.path ≡ p = normal.well_formed.distinct x.path p x.node n x.found found x.same in
      record { node = x.node; found = subst (λ (q : List ℕ). node_at (apply d t) q ≡ Some x.node) path x.found; fits = x.fits }

  by_chunk : (p i b : List ℕ) (n : Node) → node_at (apply d t) p ≡ Some n → is_array n.text ≡ true → (o : Option (Option P)) → entry_in h.chunks n.id i ≡ o → unwrap_or (option_map (λ (place : Option P). option_and_then g place) o) (own p i n) ≡ Some b → HasArray (apply d t) p i b
  by_chunk p i b n found array None none e =
      let was : (apply c t).chunk p i ≡ Some b =
      ap (chunk_of c.chunks t p i) found
      ∙ ap (λ (k : Bool). cond k (unwrap_or (c.chunks n.id i) (own p i n)) None) array
      ∙ ap (λ (o : Option (Option P)). unwrap_or (option_map (λ (place : Option P). option_and_then f place) o) (own p i n)) none
      ∙ e in
      array-same p i b (normal.well_formed.chunks p i b was)
  by_chunk p i b n found array (Some None) is e = cc
  by_chunk p i b n found array (Some (Some place)) is e = entered p i b n found (by_entry n.id i (Some (Some place)) is (Some b) (ap (λ (o : Option (List ℕ)). Some o) e))

  by_kind : (p i b : List ℕ) (n : Node) → node_at (apply d t) p ≡ Some n → (k : Bool) → is_array n.text ≡ k → cond k (unwrap_or (d.chunks n.id i) (own p i n)) None ≡ Some b → HasArray (apply d t) p i b
  by_kind p i b n found true array e = by_chunk p i b n found array (entry_in h.chunks n.id i) refl e
  by_kind p i b n found false array e = cc

  by_node : (p i b : List ℕ) (o : Option Node) → node_at (apply d t) p ≡ o → chunk_of d.chunks t p i o ≡ Some b → HasArray (apply d t) p i b
  by_node p i b None found e = cc
  by_node p i b (Some n) found e = by_kind p i b n found (is_array n.text) refl e

  pub normal-alike : IsNormal (changes_of g h) t
  normal-alike = record {
    distinct = normal.distinct;
    fresh = normal.fresh;
    not_dropped = normal.not_dropped;
    free = normal.free;
    metas = λ id text e. stands id (normal.metas id text e);
    frozen = normal.frozen;
    chunks = λ id i e k. by_entry id i (entry_in h.chunks id i) refl e k;
    well_formed = record {
      named = normal.well_formed.named;
      readable = normal.well_formed.readable;
      distinct = normal.well_formed.distinct;
      parents = λ p n found not_root. group-same (parent_of p) (normal.well_formed.parents p n found not_root);
      chunks = λ p i b e. by_node p i b (node_at (apply d t) p) refl e;
    };
  }

-- ---- a session's changes
-- where each chunk that was set has its bytes, as many as its place tells, they are normal as they are by lengths
pub normal-in : (puts : Puts) (s : SessionState) → HasChunks puts s.held.chunks → IsNormal (changes_sized s) (base_tree puts s) → IsNormal (changes_in puts s) (base_tree puts s)
normal-in puts s has normal = normal-alike sized (bytes_at puts) s.held (base_tree puts s) alike normal
  where
    alike : AreAlike sized (bytes_at puts) s.held.chunks
    alike node i place e =
        let a = sized-bytes place in
        let b = has node i place e in
        (a.0, b.0, a.1, b.1, a.2 ∙ sym b.2)

-- and they stay as they are when more is put
pub changes-stay : (p q : Puts) (s : SessionState) → Extends p q → HasChunks p s.held.chunks → changes_in q s ≡ changes_in p s
changes-stay p q s x has = λ j. record (changes_in p s) { chunks = λ id i. stay id i (entry_in s.held.chunks id i) refl j }
  where
    stay : (id : Id8) (i : List ℕ) (o : Option (Option Place)) → entry_in s.held.chunks id i ≡ o → option_map (λ (place : Option Place). option_and_then (bytes_at q) place) o ≡ option_map (λ (place : Option Place). option_and_then (bytes_at p) place) o
    stay id i None e = refl
    stay id i (Some None) e = refl
    stay id i (Some (Some place)) e = let b = has id i place e in ap (λ (o : Option (List ℕ)). Some o) (bytes-extend p q x place b.0 b.1 ∙ sym b.1)

-- nodes keep the parts of their metadata that stay
patched-keeps : (m : Node) (o : Option (List ℕ)) → ((text : List ℕ) → o ≡ Some text → SameFrozen m.text text) → SameFrozen m.text (unwrap_or o m.text)
patched-keeps m None frozen = frozen-refl m.text
patched-keeps m (Some text) frozen = frozen text refl

pub sized-keeps : (puts : Puts) (s : SessionState) → IsNormal (changes_sized s) (base_tree puts s) → KeepsFrozen s.held s.rows
sized-keeps puts s normal p m n was is same = cases (node_cases (changes_sized s) (base_tree puts s) p n is)
  where
    cases : (get s.held.added p ≡ Some n) ⊎ Own (changes_sized s) (base_tree puts s) p n → SameFrozen m.text n.text
    cases (inl added) = absurd (normal.fresh p p n m added was (sym same))
    cases (inr own) =
        let before : own.before ≡ m = some-same own.before m (sym own.found ∙ was) in
        let text : n.text ≡ unwrap_or ((changes_sized s).metas m.id) m.text = ap (λ (x : Node). x.text) (own.same ∙ ap (patched (changes_sized s).metas) before) in
        subst (SameFrozen m.text) (sym text) (patched-keeps m ((changes_sized s).metas m.id) (λ other e. normal.frozen m.id other p m e was refl))
