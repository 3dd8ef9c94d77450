-- Which keys of a listing are got.
use Rattle.std.proofs.Common.{◌≡◌, ℕ, zero, suc, ◌<◌, inl, inr, Bool, true, false, cond, List, [], ◌∷◌, length, drop, refl, sym, ◌∙◌, ap, subst, arith}
use Rattle.std.specs.Prelude.{Option, Some, None, slice_get}
use Rattle.std.specs.declared.cmp.Ordering.{Ordering}
use Rattle.std.specs.declared.cmp.Ordering.TheVariants.{Less, Equal, Greater}
use Rattle.std.specs.Ordering.{nat_cmp, ordering_then, ordering_reverse}
use Rattle.std.specs.Cmp.Lexicographic.{slice_cmp}
use Rattle.std.proofs.lemmas.Bool.{cases_lt}
use Rattle.std.proofs.lemmas.Cmp.{nat_list_cmp_total, tied_itself}
use Rattle.std.proofs.lemmas.Option.{slice_get_within}
use Rattle.object_store.specs.declared.keys.Key.{Key}
use Rattle.object_store.specs.declared.keys.Key.TheVariants.{Snapshot, Manifest, Txn, Chunk, Branch, Tag, Tombstone, Lease}
use Rattle.object_store.specs.declared.keys.Part.{Part}
use Rattle.object_store.specs.declared.events.Entry.{Entry}
use Rattle.object_store.specs.Machine.{Stored, same_key, part_of, name_of, rank_of, listing_cmp, HasEntry, IsListing}
use Rattle.object_store.proofs.Slots.{same_key-refl, same_key-true}
use Rattle.live_refs.specs.Live.{live, is_gone}
use Rattle.live_refs.specs.Laws.{HasKey, IsNotGone, IsRefIn, LiveLaw}

-- ---- lists
drop-get : (xs : List Entry) (place : ℕ) (x : Entry) → slice_get xs place ≡ Some x → drop place xs ≡ x ∷ drop (suc place) xs
drop-get [] place x e = cc
drop-get (y ∷ ys) zero x e = let same : y ≡ x = cc in ap (λ (z : Entry). z ∷ ys) same
drop-get (y ∷ ys) (suc place) x e = drop-get ys place x e

get-drop : (xs : List Entry) (place : ℕ) (x : Entry) (ys : List Entry) → drop place xs ≡ x ∷ ys → slice_get xs place ≡ Some x
get-drop [] zero x ys e = cc
get-drop [] (suc place) x ys e = cc
get-drop (y ∷ zs) zero x ys e = let same : y ≡ x = cc in ap (λ (z : Entry). Some z) same
get-drop (y ∷ zs) (suc place) x ys e = get-drop zs place x ys e

within-get : (xs : List Entry) (place : ℕ) → place < length xs → (x : Entry) × (slice_get xs place ≡ Some x)
within-get [] place l = absurd (omega (arith, l))
within-get (x ∷ xs) zero l = (x, refl)
within-get (x ∷ xs) (suc place) l = within-get xs place (omega (arith, l))

-- ---- the keys that are got
pub live-step : (entry : Entry) (behind : List Entry) (gone : Bool) → is_gone entry.key behind ≡ gone → live (entry ∷ behind) ≡ cond gone (live behind) (entry.key ∷ live behind)
live-step entry behind gone e = ap (λ (b : Bool). cond b (live behind) (entry.key ∷ live behind)) e

-- a place in a listing at which this key isn't gone
pub record StaysAt (entries : List Entry) (key : Key) : Type 0 where
  pub place : ℕ
  pub entry : Entry
  pub here : slice_get entries place ≡ Some entry
  pub same : entry.key ≡ key
  pub stays : is_gone key (drop (suc place) entries) ≡ false

later : (entry : Entry) (entries : List Entry) (key : Key) → StaysAt entries key → StaysAt (entry ∷ entries) key
later entry entries key a = record { place = suc a.place; entry = a.entry; here = a.here; same = a.same; stays = a.stays }

-- the keys that are got of the entries behind, each at its place
abbrev pub AllStay : List Entry → Key → Type 0
AllStay entries key = (place : ℕ) → slice_get (live entries) place ≡ Some key → StaysAt entries key

at_first : (e : Entry) (es : List Entry) (key : Key) → AllStay es key → is_gone e.key es ≡ false → (n : ℕ) → slice_get (e.key ∷ live es) n ≡ Some key → StaysAt (e ∷ es) key
at_first e es key rest g zero i =
    let same : e.key ≡ key = cc in
    record { place = zero; entry = e; here = refl; same = same; stays = subst (λ (k : Key). is_gone k es ≡ false) same g }
at_first e es key rest g (suc n) i = later e es key (rest n i)

by_step : (e : Entry) (es : List Entry) (key : Key) → AllStay es key → (b : Bool) → is_gone e.key es ≡ b → AllStay (e ∷ es) key
by_step e es key rest true g place h = later e es key (rest place (subst (λ (l : List Key). slice_get l place ≡ Some key) (live-step e es true g) h))
by_step e es key rest false g place h = at_first e es key rest g place (subst (λ (l : List Key). slice_get l place ≡ Some key) (live-step e es false g) h)

pub live-stays : (entries : List Entry) (key : Key) → AllStay entries key
live-stays [] key place h = cc
live-stays (e ∷ es) key place h = by_step e es key (live-stays es key) (is_gone e.key es) refl place h

live-later : (e : Entry) (es : List Entry) (key : Key) → HasKey (live es) key → HasKey (live (e ∷ es)) key
live-later e es key h = by_case (is_gone e.key es) refl
  where
    by_case : (b : Bool) → is_gone e.key es ≡ b → HasKey (live (e ∷ es)) key
    by_case true g = record { place = h.place; here = ap (λ (l : List Key). slice_get l h.place) (live-step e es true g) ∙ h.here }
    by_case false g = record { place = suc h.place; here = ap (λ (l : List Key). slice_get l (suc h.place)) (live-step e es false g) ∙ h.here }

stays-live : (entries : List Entry) (key : Key) (place : ℕ) (entry : Entry) → slice_get entries place ≡ Some entry → entry.key ≡ key → is_gone key (drop (suc place) entries) ≡ false → HasKey (live entries) key
stays-live [] key place entry h s g = cc
stays-live (e ∷ es) key zero entry h s g =
    let first : e ≡ entry = cc in
    let same : e.key ≡ key = ap (λ (x : Entry). x.key) first ∙ s in
    let stays : is_gone e.key es ≡ false = subst (λ (k : Key). is_gone k es ≡ false) (sym same) g in
    record { place = zero; here = ap (λ (l : List Key). slice_get l zero) (live-step e es false stays) ∙ ap (λ (k : Key). Some k) same }
stays-live (e ∷ es) key (suc place) entry h s g = live-later e es key (stays-live es key place entry h s g)

-- ---- nothing is listed between a tag and its tombstone
no-rank : (key : Key) → nat_cmp 0 (rank_of key) ≡ Less → nat_cmp (rank_of key) 1 ≡ Less → ⊥
no-rank (Snapshot id) l m = cc
no-rank (Manifest id) l m = cc
no-rank (Txn id) l m = cc
no-rank (Chunk id) l m = cc
no-rank (Branch name) l m = cc
no-rank (Tag name) l m = cc
no-rank (Tombstone name) l m = cc
no-rank (Lease id) l m = cc

no-order : (o : Ordering) (key : Key) → ordering_then o (nat_cmp 0 (rank_of key)) ≡ Less → ordering_then (ordering_reverse o) (nat_cmp (rank_of key) 1) ≡ Less → ⊥
no-order Less key l m = cc
no-order Equal key l m = no-rank key l m
no-order Greater key l m = cc

no-between : (name : List ℕ) (key : Key) → listing_cmp (Tag name) key ≡ Less → listing_cmp key (Tombstone name) ≡ Less → ⊥
no-between name key l m =
    let back : slice_cmp nat_cmp (name_of key) name ≡ ordering_reverse (slice_cmp nat_cmp name (name_of key)) = nat_list_cmp_total.antisymm (name_of key) name in
    no-order (slice_cmp nat_cmp name (name_of key)) key l (subst (λ (o : Ordering). ordering_then o (nat_cmp (rank_of key) 1) ≡ Less) back m)

not-before : (name : List ℕ) → listing_cmp (Tombstone name) (Tag name) ≡ Less → ⊥
not-before name l = let e : ordering_then Equal (nat_cmp 1 0) ≡ Less = subst (λ (o : Ordering). ordering_then o (nat_cmp 1 0) ≡ Less) (tied_itself nat_list_cmp_total name) l in cc

-- ---- an honest listing
module _ (at : Key → Option Stored) (part : Part) (entries : List Entry) (L : IsListing at part entries) where
  between : (name : List ℕ) (j k : ℕ) (d e : Entry) → suc j < k → slice_get entries j ≡ Some d → slice_get entries k ≡ Some e → d.key ≡ Tag name → e.key ≡ Tombstone name → ⊥
  between name j k d e l hd he kd ke =
      let next = within-get entries (suc j) (omega (arith, l, slice_get_within entries k e he)) in
      let one : listing_cmp d.key next.0.key ≡ Less = L.ascending j (suc j) d next.0 (omega arith) hd next.1 in
      let two : listing_cmp next.0.key e.key ≡ Less = L.ascending (suc j) k next.0 e l next.1 he in
      no-between name next.0.key (subst (λ (x : Key). listing_cmp x next.0.key ≡ Less) kd one) (subst (λ (x : Key). listing_cmp next.0.key x ≡ Less) ke two)

  behind : (name : List ℕ) (j k : ℕ) (d e : Entry) → j ≡ k → slice_get entries (suc j) ≡ Some d → d.key ≡ Tombstone name → is_gone (Tag name) (drop (suc k) entries) ≡ false → ⊥
  behind name j k d e same hd kd g =
      let g' : is_gone (Tag name) (drop (suc j) entries) ≡ false = subst (λ (n : ℕ). is_gone (Tag name) (drop (suc n) entries) ≡ false) (sym same) g in
      let listed : same_key d.key (Tombstone name) ≡ false = sym (ap (is_gone (Tag name)) (drop-get entries (suc j) d hd)) ∙ g' in
      let is : same_key (Tombstone name) (Tombstone name) ≡ false = subst (λ (x : Key). same_key x (Tombstone name) ≡ false) kd listed in
      let yes = same_key-refl (Tombstone name) in cc

  no-tombstone : (name : List ℕ) (k : ℕ) (e : Entry) → slice_get entries k ≡ Some e → e.key ≡ Tag name → is_gone (Tag name) (drop (suc k) entries) ≡ false → HasEntry entries (Tombstone name) → ⊥
  no-tombstone name k e he ke g t = elim (cases_lt k t.place) [
    | inl l ↦ elim (cases_lt (suc k) t.place) [
      | inl m ↦ between name k t.place e t.entry m he t.here ke t.same
      | inr m ↦
          let next : t.place ≡ suc k = omega (arith, l, m) in
          behind name k k t.entry e refl (subst (λ (n : ℕ). slice_get entries n ≡ Some t.entry) next t.here) t.same g
    ]
    | inr l ↦ elim (cases_lt t.place k) [
      | inl m ↦
          let up : listing_cmp t.entry.key e.key ≡ Less = L.ascending t.place k t.entry e m t.here he in
          not-before name (subst (λ (x : Key). listing_cmp x (Tag name) ≡ Less) t.same (subst (λ (x : Key). listing_cmp t.entry.key x ≡ Less) ke up))
      | inr m ↦
          let place : t.place ≡ k = omega (arith, l, m) in
          let one : slice_get entries k ≡ Some t.entry = subst (λ (n : ℕ). slice_get entries n ≡ Some t.entry) place t.here in
          let entry_is : e ≡ t.entry = cc in
          let keys : Tag name ≡ Tombstone name = sym ke ∙ (ap (λ (x : Entry). x.key) entry_is ∙ t.same) in cc
    ]
  ]

  gone-none : (name : List ℕ) (k : ℕ) (e : Entry) → slice_get entries k ≡ Some e → e.key ≡ Tag name → is_gone (Tag name) (drop (suc k) entries) ≡ false → at (Tombstone name) ≡ None
  gone-none name k e he ke g = by_case (at (Tombstone name)) refl
    where
      by_case : (o : Option Stored) → at (Tombstone name) ≡ o → at (Tombstone name) ≡ None
      by_case None s = s
      by_case (Some s) is =
          let part_is : part_of (Tag name) ≡ part = subst (λ (x : Key). part_of x ≡ part) ke (L.right k e he).part_is in
          absurd (no-tombstone name k e he ke g (L.whole (Tombstone name) s part_is is))

  not-gone : (key : Key) (k : ℕ) (e : Entry) → slice_get entries k ≡ Some e → e.key ≡ key → is_gone key (drop (suc k) entries) ≡ false → IsNotGone at key
  not-gone (Snapshot id) k e he ke g = tt
  not-gone (Manifest id) k e he ke g = tt
  not-gone (Txn id) k e he ke g = tt
  not-gone (Chunk id) k e he ke g = tt
  not-gone (Branch name) k e he ke g = tt
  not-gone (Tag name) k e he ke g = gone-none name k e he ke g
  not-gone (Tombstone name) k e he ke g = absurd cc
  not-gone (Lease id) k e he ke g = tt

  live-ref : (key : Key) → HasKey (live entries) key → IsRefIn at part key
  live-ref key h =
      let s = live-stays entries key h.place h.here in
      let r = L.right s.place s.entry s.here in
      record {
        stored = r.stored;
        stands = subst (λ (x : Key). at x ≡ Some r.stored) s.same r.stands;
        part_is = subst (λ (x : Key). part_of x ≡ part) s.same r.part_is;
        not_gone = not-gone key s.place s.entry s.here s.same s.stays;
      }

  stays-tag : (name : List ℕ) (k : ℕ) → at (Tombstone name) ≡ None → (rest : List Entry) → drop k entries ≡ rest → is_gone (Tag name) rest ≡ false
  stays-tag name k none [] e = refl
  stays-tag name k none (next ∷ rest) e = by_case (same_key next.key (Tombstone name)) refl
    where
      by_case : (b : Bool) → same_key next.key (Tombstone name) ≡ b → same_key next.key (Tombstone name) ≡ false
      by_case false s = s
      by_case true s =
          let r = L.right k next (get-drop entries k next rest e) in
          let there : at (Tombstone name) ≡ Some r.stored = subst (λ (x : Key). at x ≡ Some r.stored) (same_key-true next.key (Tombstone name) s) r.stands in
          absurd cc

  stays-key : (key : Key) (k : ℕ) → IsNotGone at key → is_gone key (drop k entries) ≡ false
  stays-key (Snapshot id) k n = refl
  stays-key (Manifest id) k n = refl
  stays-key (Txn id) k n = refl
  stays-key (Chunk id) k n = refl
  stays-key (Branch name) k n = refl
  stays-key (Tag name) k n = stays-tag name k n (drop k entries) refl
  stays-key (Tombstone name) k n = absurd n
  stays-key (Lease id) k n = refl

  ref-live : (key : Key) → IsRefIn at part key → HasKey (live entries) key
  ref-live key r =
      let h = L.whole key r.stored r.part_is r.stands in
      stays-live entries key h.place h.entry h.here h.same (stays-key key (suc h.place) r.not_gone)

-- the keys that are got are those of the refs that stand
pub live-law : LiveLaw
live-law at part entries listing key = (live-ref at part entries listing key, ref-live at part entries listing key)
