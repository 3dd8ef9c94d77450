-- What listings doom.
use Rattle.std.proofs.Common.{◌≡◌, ◌⊎◌, inl, inr, ℕ, ◌<◌, Bool, true, false, not, List, [], ◌∷◌, ◌++◌, refl, sym, ◌∙◌, ap, subst}
use Rattle.std.specs.Prelude.{Contains, ◌||◌, ◌&&◌, nat_lt}
use Rattle.std.proofs.lemmas.Bool.{lt-ltb, ltb-true}
use Rattle.ice_ids.specs.declared.Id12.{Id12}
use Rattle.ice_ids.specs.Text.{initial_id, same_id12}
use Rattle.ice_ids.specs.Sets.{has_object}
use Rattle.ice_ids.proofs.TextLaws.{same_id12-true, same_id12-self}
use Rattle.object_store.specs.declared.keys.Key.{Key}
use Rattle.object_store.specs.declared.keys.Key.TheVariants.{Snapshot, Manifest, Txn, Chunk, Branch, Tag, Tombstone, Lease}
use Rattle.object_store.specs.declared.events.Entry.{Entry}
use Rattle.collecting.specs.Walks.{IsObject}
use Rattle.chunk_gc.specs.Programs.{Work, keeps, dooms, swept, with_key}
use Rattle.chunk_gc.specs.Exact.{IsChosen, Picks}
use Rattle.ice_ids.proofs.OneMore.{Has}
use Rattle.ice_ids.proofs.Elements.{first-is, first-or-later, later-is, none-in}
use Rattle.chunk_gc.proofs.Marking.{ListedIn}

or_split : (a b : Bool) → (a || b) ≡ true → (a ≡ true) ⊎ (b ≡ true)
or_split true b e = inl refl
or_split false b e = inr e

or_first : (a b : Bool) → a ≡ true → (a || b) ≡ true
or_first a b e = rw e refl

or_second : (a b : Bool) → b ≡ true → (a || b) ≡ true
or_second true b e = refl
or_second false b e = e

kept_id : (id : Id12) (ids : List Id12) → (same_id12 id initial_id || has_object ids id) ≡ true → (id ≡ initial_id) ⊎ Has ids id
kept_id id ids e = elim (or_split (same_id12 id initial_id) (has_object ids id) e) [ inl a ↦ inl (same_id12-true id initial_id a) | inr b ↦ inr b ]

id_kept : (id : Id12) (ids : List Id12) → (id ≡ initial_id) ⊎ Has ids id → (same_id12 id initial_id || has_object ids id) ≡ true
id_kept id ids (inl e) = or_first (same_id12 id initial_id) (has_object ids id) (ap (λ (x : Id12). same_id12 x initial_id) e ∙ same_id12-self initial_id)
id_kept id ids (inr h) = or_second (same_id12 id initial_id) (has_object ids id) h

kept-listed : (w : Work) (key : Key) → IsObject key → keeps w key ≡ true → ListedIn w key
kept-listed w (Snapshot id) o e = kept_id id w.snapshots.all e
kept-listed w (Txn id) o e = kept_id id w.logs e
kept-listed w (Manifest id) o e = e
kept-listed w (Chunk id) o e = e
kept-listed w (Branch name) o e = absurd o
kept-listed w (Tag name) o e = absurd o
kept-listed w (Tombstone name) o e = absurd o
kept-listed w (Lease id) o e = absurd o

listed-kept : (w : Work) (key : Key) → ListedIn w key → keeps w key ≡ true
listed-kept w (Snapshot id) h = id_kept id w.snapshots.all h
listed-kept w (Txn id) h = id_kept id w.logs h
listed-kept w (Manifest id) h = h
listed-kept w (Chunk id) h = h
listed-kept w (Branch name) h = absurd h
listed-kept w (Tag name) h = absurd h
listed-kept w (Tombstone name) h = absurd h
listed-kept w (Lease id) h = absurd h

object-of : (w : Work) (key : Key) → keeps w key ≡ false → IsObject key
object-of w (Snapshot id) e = tt
object-of w (Txn id) e = tt
object-of w (Manifest id) e = tt
object-of w (Chunk id) e = tt
object-of w (Branch name) e = absurd cc
object-of w (Tag name) e = absurd cc
object-of w (Tombstone name) e = absurd cc
object-of w (Lease id) e = absurd cc

module _ (cutoff : ℕ) (w : Work) (marked : Key → Type 0) (cut : w.cutoff ≡ cutoff) (into : (key : Key) → marked key → ListedIn w key) (from : (key : Key) → ListedIn w key → marked key) where
  chosen : (entry : Entry) (old kept : Bool) → nat_lt entry.created w.cutoff ≡ old → keeps w entry.key ≡ kept → (old && not kept) ≡ true → IsChosen cutoff marked entry
  chosen entry true false a b d = record { object = object-of w entry.key b; old = subst (λ (c : ℕ). entry.created < c) cut (ltb-true entry.created w.cutoff a); unmarked = λ h. let x = listed-kept w entry.key (into entry.key h) in absurd cc }
  chosen entry true true a b d = absurd cc
  chosen entry false true a b d = absurd cc
  chosen entry false false a b d = absurd cc

  not-chosen : (entry : Entry) (old kept : Bool) → nat_lt entry.created w.cutoff ≡ old → keeps w entry.key ≡ kept → (old && not kept) ≡ false → IsChosen cutoff marked entry → ⊥
  not-chosen entry true false a b d c = absurd cc
  not-chosen entry true true a b d c = c.unmarked (from entry.key (kept-listed w entry.key c.object b))
  not-chosen entry false kept a b d c = let x = lt-ltb entry.created w.cutoff (subst (λ (n : ℕ). entry.created < n) (sym cut) c.old) in absurd cc

  pub swept-picks : (entries : List Entry) → Picks cutoff marked entries (swept (dooms w) entries)
  swept-picks [] = refl
  swept-picks (entry ∷ entries) = go (dooms w entry) refl (swept-picks entries)
    where
      go : (b : Bool) → dooms w entry ≡ b → Picks cutoff marked entries (swept (dooms w) entries) → Picks cutoff marked (entry ∷ entries) (with_key b entry.key (swept (dooms w) entries))
      go true d rest = inl (chosen entry (nat_lt entry.created w.cutoff) (keeps w entry.key) refl refl d, (swept (dooms w) entries, refl, rest))
      go false d rest = inr (not-chosen entry (nat_lt entry.created w.cutoff) (keeps w entry.key) refl refl d, rest)

module _ (cutoff : ℕ) (marked : Key → Type 0) where
  pub picks-append : (xs ys : List Entry) (ks ls : List Key) → Picks cutoff marked xs ks → Picks cutoff marked ys ls → Picks cutoff marked (xs ++ ys) (ks ++ ls)
  picks-append [] ys ks ls a b = subst (λ (x : List Key). Picks cutoff marked ys (x ++ ls)) (sym a) b
  picks-append (x ∷ xs) ys ks ls (inl h) b = inl (h.0, (h.1.0 ++ ls, ap (λ (l : List Key). l ++ ls) h.1.1, picks-append xs ys h.1.0 ls h.1.2 b))
  picks-append (x ∷ xs) ys ks ls (inr h) b = inr (h.0, picks-append xs ys ks ls h.1 b)

  -- each of the keys is that of an entry which is chosen
  pub picked : (xs : List Entry) (ks : List Key) → Picks cutoff marked xs ks → (key : Key) → Contains ks key → (entry : Entry) × Contains xs entry × (entry.key ≡ key) × IsChosen cutoff marked entry
  picked [] ks p key a = absurd (none-in key (subst (λ (l : List Key). Contains l key) p a))
  picked (x ∷ xs) ks (inr h) key a = let r = picked xs ks h.1 key a in (r.0, later-is x r.0 xs r.1, r.2, r.3)
  picked (x ∷ xs) ks (inl h) key a = elim (first-or-later x.key key h.1.0 (subst (λ (l : List Key). Contains l key) h.1.1 a)) [
    | inl e ↦ (x, first-is x xs, e, h.0)
    | inr b ↦ (let r = picked xs h.1.0 h.1.2 key b in (r.0, later-is x r.0 xs r.1, r.2, r.3))
  ]

  -- and the key of each entry that is chosen is one of them
  pub picks-all : (xs : List Entry) (ks : List Key) → Picks cutoff marked xs ks → (entry : Entry) → Contains xs entry → IsChosen cutoff marked entry → Contains ks entry.key
  picks-all [] ks p entry a c = absurd (none-in entry a)
  picks-all (x ∷ xs) ks (inl h) entry a c = subst (λ (l : List Key). Contains l entry.key) (sym h.1.1) (elim (first-or-later x entry xs a) [
    | inl e ↦ subst (λ (y : Entry). Contains (x.key ∷ h.1.0) y.key) e (first-is x.key h.1.0)
    | inr b ↦ later-is x.key entry.key h.1.0 (picks-all xs h.1.0 h.1.2 entry b c)
  ])
  picks-all (x ∷ xs) ks (inr h) entry a c = elim (first-or-later x entry xs a) [
    | inl e ↦ absurd (h.0 (subst (λ (y : Entry). IsChosen cutoff marked y) (sym e) c))
    | inr b ↦ picks-all xs ks h.1 entry b c
  ]
