-- The trees of sessions in which chunks were set.
use Rattle.std.proofs.Common.{◌≡◌, ◌≢◌, ◌<◌, ℕ, zero, suc, Bool, true, false, cond, List, [], ◌∷◌, ◌++◌, length, map, slice_index_or, refl, sym, ◌∙◌, ap, subst, arith}
use Rattle.std.specs.Prelude.{◌&&◌, Option, Some, None}
use Rattle.std.specs.Option.{unwrap_or}
use Rattle.std.specs.List.{Contains}
use Rattle.std.specs.FinMap.{get}
use Rattle.ice_ids.specs.Text.{same_id8}
use Rattle.ice_ids.specs.declared.drawing.AnyIds.{AnyIds}
use Rattle.zarr_path.specs.Paths.{same_path}
use Rattle.zarr_path.proofs.OrderLaws.{same_path-true, same_path-refl}
use Rattle.zarr_tree.specs.Nodes.{Node, is_array, same_numbers}
use Rattle.zarr_tree.specs.Trees.{Tree, node_at}
use Rattle.zarr_tree.specs.Edits.{is_place}
use Rattle.zarr_tree.specs.Changes.{Changes, own_chunk, chunk_of, apply, with_entry}
use Rattle.zarr_tree.proofs.Above.{apart}
use Rattle.zarr_tree.proofs.Apply.{id-refl, id-false}
use Rattle.zarr_changes.proofs.ChunkLaws.{set-law}
use Rattle.manifest_file.specs.declared.manifest.Place.{Place}
use Rattle.repo_objects.specs.Trees.{Puts, Extends, bytes_at}
use Rattle.object_store.specs.declared.events.Event.{Event}
use Rattle.store_api.specs.Journal.{Each, IsGood, IsOnce, puts_of}
use Rattle.session.specs.Sessions.{SessionState, nodes_seen, base_tree, changes_in, overlay}
use Rattle.session.specs.Chunks.{with_chunk}
use Rattle.session.proofs.Places.{chunk-seen}
use Rattle.region_calls.specs.ChunkTold.{WasSet}
use Rattle.region_calls.proofs.Growing.{Surely, Surely-append}
use Rattle.region_calls.proofs.Lasting.{WasSet-append}
use Rattle.region_calls.specs.Written.{AreSet}

-- ---- one chunk's entry in changes
module _ (c : Changes) (t : Tree) (p i b : List ℕ) (n : Node) (f : node_at (apply c t) p ≡ Some n) (a : is_array n.text ≡ true) (distinct : (q r : List ℕ) (k m : Node) → node_at (apply c t) q ≡ Some k → node_at (apply c t) r ≡ Some m → k.id ≡ m.id → q ≡ r) where
  abbrev now : Changes
  now = with_entry c i (Some (Some b)) (Some n)

  at_it : (q j : List ℕ) → chunk_of now.chunks t q j (Some n) ≡ cond (same_numbers j i) (Some b) (chunk_of c.chunks t q j (Some n))
  at_it q j =
      elim (same_numbers j i) as (λ s. cond (is_array n.text) (unwrap_or (cond (same_id8 n.id n.id && s) (Some (Some b)) (c.chunks n.id j)) (own_chunk (node_at t q) n.id (t.chunk q j))) None
      ≡ cond s (Some b) (cond (is_array n.text) (unwrap_or (c.chunks n.id j) (own_chunk (node_at t q) n.id (t.chunk q j))) None)) [
        | true ↦ λ k. cond (a k) (unwrap_or (cond (id-refl n.id k && true) (Some (Some b)) (c.chunks n.id j)) (own_chunk (node_at t q) n.id (t.chunk q j))) None
        | false ↦ ap (λ e. cond (is_array n.text) (unwrap_or (cond (e && false) (Some (Some b)) (c.chunks n.id j)) (own_chunk (node_at t q) n.id (t.chunk q j))) None) (id-refl n.id)
      ]

  other : (q j : List ℕ) → same_path q p ≡ false → (x : Option Node) → node_at (apply c t) q ≡ x → chunk_of now.chunks t q j x ≡ chunk_of c.chunks t q j x
  other q j s None g = refl
  other q j s (Some x) g =
      ap (λ e. cond (is_array x.text) (unwrap_or (cond (e && same_numbers j i) (Some (Some b)) (c.chunks x.id j)) (own_chunk (node_at t q) x.id (t.chunk q j))) None) (id-false x.id n.id (λ same. apart q p s (distinct q p x n g f same)))

  pub entry_seen : (q j : List ℕ) → (apply now t).chunk q j ≡ cond (is_place p i q j) (Some b) ((apply c t).chunk q j)
  entry_seen q j = elim (same_path q p) as (λ s. same_path q p ≡ s → chunk_of now.chunks t q j (node_at (apply c t) q) ≡ cond (s && same_numbers j i) (Some b) (chunk_of c.chunks t q j (node_at (apply c t) q))) [
    | true ↦ λ s.
        let there : node_at (apply c t) q ≡ Some n = ap (node_at (apply c t)) (same_path-true q p s) ∙ f in
        ap (chunk_of now.chunks t q j) there ∙ at_it q j ∙ sym (ap (λ o. cond (same_numbers j i) (Some b) (chunk_of c.chunks t q j o)) there)
    | false ↦ λ s. other q j s (node_at (apply c t) q) refl
  ] refl

-- ---- a session in which a chunk was set
-- an array stands at the path of a session's tree, and no two nodes have one id
pub record IsHere (u : SessionState) (path : List ℕ) (n : Node) : Type 0 where
  pub found : get (nodes_seen u) path ≡ Some n
  pub array : is_array n.text ≡ true
  pub distinct : (q r : List ℕ) (k m : Node) → get (nodes_seen u) q ≡ Some k → get (nodes_seen u) r ≡ Some m → k.id ≡ m.id → q ≡ r

pub same_here : (u v : SessionState) (path : List ℕ) (n : Node) → nodes_seen v ≡ nodes_seen u → IsHere u path n → IsHere v path n
same_here u v path n e h = record {
  found = ap (λ nodes. get nodes path) e ∙ h.found;
  array = h.array;
  distinct = λ q r k m f g. h.distinct q r k m (sym (ap (λ nodes. get nodes q) e) ∙ f) (sym (ap (λ nodes. get nodes r) e) ∙ g);
}

module _ (puts : Puts) (u : SessionState) (path index bytes : List ℕ) (place : Place) (ids : AnyIds) (n : Node) (h : IsHere u path n) (there : bytes_at puts place ≡ Some bytes) where
  set_seen : (q j : List ℕ) → (overlay puts (record (with_chunk u path index place) { ids = ids })).chunk q j ≡ cond (is_place path index q j) (Some bytes) ((overlay puts u).chunk q j)
  set_seen q j =
      ap (λ (c : Changes). (apply c (base_tree puts u)).chunk q j)
      (set-law (bytes_at puts) u.held (base_tree puts u) path index bytes place there ∙ ap (with_entry (changes_in puts u) index (Some (Some bytes))) h.found)
      ∙ entry_seen (changes_in puts u) (base_tree puts u) path index bytes n h.found h.array h.distinct q j

-- ---- chunks set one after another
-- the trees' chunks with these
abbrev pub over : (path : List ℕ) → List (List ℕ × List ℕ) → ((q j : List ℕ) → Option (List ℕ)) → (q j : List ℕ) → Option (List ℕ)
over path [] f = f
over path (c ∷ cs) f = over path cs (λ q j. cond (is_place path c.0 q j) (Some c.1) (f q j))

module _ (client : ℕ) (start : List Event) (path : List ℕ) (B : Puts → List ℕ → List ℕ) (frozen : Type 0) where
  -- a chunk was set: where it is now, that its bytes are there, and which they are
  pub record IsStep (u : SessionState) (index bytes : List ℕ) (t : SessionState) (h : List Event) : Type 0 where
    pub set : WasSet client u path index bytes t start h
    pub place : Place
    pub is : t ≡ record (with_chunk u path index place) { ids = t.ids }
    pub there : Surely (λ puts. bytes_at puts place ≡ Some bytes) h
    pub bytes_are : Surely (λ puts. frozen → bytes ≡ B puts index) h

  abbrev pub Chain : SessionState → List (List ℕ × List ℕ) → SessionState → List Event → Type 0
  Chain u [] t h = t ≡ u
  Chain u (c ∷ cs) t h = (v : SessionState) × IsStep u c.0 c.1 v h × Chain v cs t h

  pub chain_more : (cs : List (List ℕ × List ℕ)) (u t v : SessionState) (index bytes : List ℕ) (h : List Event) → Chain u cs t h → IsStep t index bytes v h → Chain u (cs ++ (index, bytes) ∷ []) v h
  chain_more [] u t v index bytes h e s = (v, subst (λ (x : SessionState). IsStep x index bytes v h) e s, refl)
  chain_more (c ∷ cs) u t v index bytes h x s = (x.0, x.1, chain_more cs x.0 t v index bytes h x.2 s)

  step_append : (u t : SessionState) (index bytes : List ℕ) (h more : List Event) → Each IsGood h more → IsStep u index bytes t h → IsStep u index bytes t (h ++ more)
  step_append u t index bytes h more g s = record {
    set = WasSet-append client u path index bytes start h more t s.set;
    place = s.place;
    is = s.is;
    there = Surely-append (λ puts. bytes_at puts s.place ≡ Some bytes) h more g s.there;
    bytes_are = Surely-append (λ puts. frozen → bytes ≡ B puts index) h more g s.bytes_are;
  }

  pub chain_append : (cs : List (List ℕ × List ℕ)) (u t : SessionState) (h more : List Event) → Each IsGood h more → Chain u cs t h → Chain u cs t (h ++ more)
  chain_append [] u t h more g e = e
  chain_append (c ∷ cs) u t h more g x = (x.0, step_append u x.0 c.0 c.1 h more g x.1, chain_append cs x.0 t h more g x.2)

  pub chain_set : (cs : List (List ℕ × List ℕ)) (u t : SessionState) (h : List Event) → Chain u cs t h → AreSet client u path cs t start h
  chain_set [] u t h e = e
  chain_set (c ∷ cs) u t h x = (x.0, x.1.set, chain_set cs x.0 t h x.2)

  step_nodes : (u t : SessionState) (index bytes : List ℕ) (h : List Event) → IsStep u index bytes t h → nodes_seen t ≡ nodes_seen u
  step_nodes u t index bytes h s = ap nodes_seen s.is ∙ chunk-seen path u index s.place

  pub chain_nodes : (cs : List (List ℕ × List ℕ)) (u t : SessionState) (h : List Event) → Chain u cs t h → nodes_seen t ≡ nodes_seen u
  chain_nodes [] u t h e = ap nodes_seen e
  chain_nodes (c ∷ cs) u t h x = chain_nodes cs x.0 t h x.2 ∙ step_nodes u x.0 c.0 c.1 h x.1

  -- each has its bytes
  abbrev pub Are : Puts → List (List ℕ × List ℕ) → Type 0
  Are puts [] = Unit {0}
  Are puts (c ∷ cs) = (c.1 ≡ B puts c.0) × Are puts cs

  -- where nothing is put again, and by whatever more is put
  module _ (puts : Puts) (n : Node) (h : List Event) (once : IsOnce h) (more : Extends (puts_of h) puts) where
    pub chain_seen : (cs : List (List ℕ × List ℕ)) (u t : SessionState) → IsHere u path n → Chain u cs t h → (q j : List ℕ) → (overlay puts t).chunk q j ≡ over path cs (overlay puts u).chunk q j
    chain_seen [] u t here e q j = ap (λ (x : SessionState). (overlay puts x).chunk q j) e
    chain_seen (c ∷ cs) u t here x q j =
        let s = x.1 in
        chain_seen cs x.0 t (same_here u x.0 path n (step_nodes u x.0 c.0 c.1 h s) here) x.2 q j
        ∙ (λ i. over path cs (λ p k. (ap (λ (y : SessionState). (overlay puts y).chunk p k) s.is ∙ set_seen puts u path c.0 c.1 s.place x.0.ids n here (s.there once puts more) p k) i) q j)

    pub each_is : frozen → (cs : List (List ℕ × List ℕ)) (u t : SessionState) → Chain u cs t h → Are puts cs
    each_is f [] u t e = tt
    each_is f (c ∷ cs) u t x = (x.1.bytes_are once puts more f, each_is f cs x.0 t x.2)

  -- ---- which they are then
  module _ (puts : Puts) where
    is_not : (i j : List ℕ) → (j ≡ i → ⊥) → is_place path i path j ≡ false
    is_not i j h = by_test (same_path path path && same_numbers j i) refl
      where
        by_test : (b : Bool) → (same_path path path && same_numbers j i) ≡ b → b ≡ false
        by_test true e = absurd (h (same_path-true j i (sym (ap (λ t. t && same_numbers j i) (same_path-refl path)) ∙ e)))
        by_test false e = refl

    pub over_elsewhere : (cs : List (List ℕ × List ℕ)) (f : (q j : List ℕ) → Option (List ℕ)) (q j : List ℕ) → q ≢ path → over path cs f q j ≡ f q j
    over_elsewhere [] f q j ne = refl
    over_elsewhere (c ∷ cs) f q j ne =
        over_elsewhere cs (λ p k. cond (is_place path c.0 p k) (Some c.1) (f p k)) q j ne ∙ ap (λ b. cond (b && same_numbers j c.0) (Some c.1) (f q j)) (is_false (same_path q path) refl)
      where
        is_false : (b : Bool) → same_path q path ≡ b → same_path q path ≡ false
        is_false true e = absurd (ne (same_path-true q path e))
        is_false false e = e

    pub over_out : (cs : List (List ℕ × List ℕ)) (f : (q j : List ℕ) → Option (List ℕ)) (j : List ℕ) → (Contains (map (λ (c : List ℕ × List ℕ). c.0) cs) j → ⊥) → over path cs f path j ≡ f path j
    over_out [] f j none = refl
    over_out (c ∷ cs) f j none =
        over_out cs (λ p k. cond (is_place path c.0 p k) (Some c.1) (f p k)) j (λ x. none (suc x.0, omega (arith, x.1), x.2))
        ∙ ap (λ b. cond b (Some c.1) (f path j)) (is_not c.0 j (λ e. none (0, omega arith, sym e)))

    -- those that come later leave it
    over_stays : (cs : List (List ℕ × List ℕ)) (f : (q j : List ℕ) → Option (List ℕ)) (j : List ℕ) → Are puts cs → f path j ≡ Some (B puts j) → over path cs f path j ≡ Some (B puts j)
    over_stays [] f j are e = e
    over_stays (c ∷ cs) f j are e = over_stays cs (λ p k. cond (is_place path c.0 p k) (Some c.1) (f p k)) j are.1 (by_test (is_place path c.0 path j) refl)
      where
        by_test : (b : Bool) → is_place path c.0 path j ≡ b → cond b (Some c.1) (f path j) ≡ Some (B puts j)
        by_test true t =
            let same : j ≡ c.0 = same_path-true j c.0 (sym (ap (λ x. x && same_numbers j c.0) (same_path-refl path)) ∙ t) in
            ap (λ (x : List ℕ). Some x) (are.0 ∙ ap (B puts) (sym same))
        by_test false t = e

    over_at : (cs : List (List ℕ × List ℕ)) (f : (q j : List ℕ) → Option (List ℕ)) (j : List ℕ) → Are puts cs → (k : ℕ) → k < length (map (λ (c : List ℕ × List ℕ). c.0) cs) → slice_index_or (map (λ (c : List ℕ × List ℕ). c.0) cs) k j ≡ j → over path cs f path j ≡ Some (B puts j)
    over_at [] f j are k less e = absurd (omega (arith, less))
    over_at (c ∷ cs) f j are zero less e =
        over_stays cs (λ p k. cond (is_place path c.0 p k) (Some c.1) (f p k)) j are.1
        (ap (λ (w : List ℕ). cond (same_path path path && same_numbers w c.0) (Some c.1) (f path w)) (sym e) ∙ ap (λ b. cond (b && same_numbers c.0 c.0) (Some c.1) (f path c.0)) (same_path-refl path) ∙ ap (λ b. cond b (Some c.1) (f path c.0)) (same_path-refl c.0) ∙ ap (λ (x : List ℕ). Some x) (are.0 ∙ ap (B puts) e))
    over_at (c ∷ cs) f j are (suc k) less e = over_at cs (λ p k. cond (is_place path c.0 p k) (Some c.1) (f p k)) j are.1 k (omega (arith, less)) e

    pub over_in : (cs : List (List ℕ × List ℕ)) (f : (q j : List ℕ) → Option (List ℕ)) (j : List ℕ) → Are puts cs → Contains (map (λ (c : List ℕ × List ℕ). c.0) cs) j → over path cs f path j ≡ Some (B puts j)
    over_in cs f j are x = over_at cs f j are x.0 x.1 x.2
