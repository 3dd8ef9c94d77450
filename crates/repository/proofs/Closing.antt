-- The lines of a reading are those of the refs that stand.
use Rattle.std.proofs.Common.{◌≡◌, ℕ, zero, suc, ◌+◌, ◌<◌, ◌⊎◌, inl, inr, Bool, true, false, cond, List, [], ◌∷◌, ◌++◌, length, refl, sym, ◌∙◌, ap, subst, arith}
use Rattle.std.specs.Prelude.{Option, Some, None, Ok, slice_get}
use Rattle.std.specs.declared.cmp.Ordering.{Ordering}
use Rattle.std.specs.declared.cmp.Ordering.TheVariants.{Less, Equal, Greater}
use Rattle.std.specs.Ordering.{nat_cmp, bool_cmp, ordering_then}
use Rattle.std.specs.Cmp.Lexicographic.{slice_cmp}
use Rattle.std.proofs.lemmas.Option.{slice_get_within}
use Rattle.ice_ids.specs.declared.Id12.{Id12}
use Rattle.repo_objects.specs.Readings.{ref_of}
use Rattle.object_store.specs.declared.keys.Key.{Key}
use Rattle.object_store.specs.declared.keys.Key.TheVariants.{Snapshot, Manifest, Txn, Chunk, Branch, Tag, Tombstone, Lease}
use Rattle.object_store.specs.declared.keys.Part.{Part}
use Rattle.object_store.specs.declared.keys.Part.TheVariants.{Branches, Tags}
use Rattle.object_store.specs.declared.events.Entry.{Entry}
use Rattle.object_store.specs.declared.events.Event.{Event}
use Rattle.object_store.specs.Machine.{Stored, found, part_of, listing_cmp, IsListing}
use Rattle.store_api.specs.Program.{Done}
use Rattle.play_outcome.specs.declared.outcome.RefLine.{RefLine}
use Rattle.repository.specs.Refs.{refs_program, list_part, read_each, live, is_gone}
use Rattle.live_refs.specs.Laws.{HasKey, IsNotGone, IsRefIn}
use Rattle.repository.specs.Closing.{HasLine, branch_line, tag_line, NamesAt, line_cmp, TellsRefs, RefsLaw}
use Rattle.repository.proofs.Listed.{after_branches, after_lines, after_tags, refs-reads}
use Rattle.live_refs.proofs.Live.{live-step, live-stays, live-law}
use Rattle.repository.proofs.Answered.{AllRead, found-reads, path-reads, Yields, path-yields, yields-then, list-yields, each-yields, key_of, Told, IsLine, HasOne, AllTold}

-- ---- places in lists
get-left : {X : Type 0} (xs ys : List X) (place : ℕ) (x : X) → slice_get xs place ≡ Some x → slice_get (xs ++ ys) place ≡ Some x
get-left [] ys place x e = absurd cc
get-left (y ∷ xs) ys zero x e = e
get-left (y ∷ xs) ys (suc place) x e = get-left xs ys place x e

-- a place in the second list, in both
record IsBehind {X : Type 0} (xs ys : List X) (place : ℕ) (x : X) : Type 0 where
  pub rest : ℕ
  pub place_is : place ≡ length xs + rest
  pub here : slice_get ys rest ≡ Some x

behind-more : {X : Type 0} (y : X) (xs ys : List X) (place : ℕ) (x : X) → IsBehind xs ys place x → IsBehind (y ∷ xs) ys (suc place) x
behind-more y xs ys place x b = record { rest = b.rest; place_is = omega (arith, b.place_is); here = b.here }

get-split : {X : Type 0} (xs ys : List X) (place : ℕ) (x : X) → slice_get (xs ++ ys) place ≡ Some x → (slice_get xs place ≡ Some x) ⊎ IsBehind xs ys place x
get-split [] ys place x e = inr (record { rest = place; place_is = omega arith; here = e })
get-split (y ∷ xs) ys zero x e = inl e
get-split (y ∷ xs) ys (suc place) x e = elim (get-split xs ys place x e) [ inl l ↦ inl l | inr b ↦ inr (behind-more y xs ys place x b) ]

-- a line of the second list, in both
line-right : (xs ys : List RefLine) (line : RefLine) → HasLine ys line → HasLine (xs ++ ys) line
line-right [] ys line h = h
line-right (x ∷ xs) ys line h = let r = line-right xs ys line h in record { place = suc r.place; here = r.here }

-- ---- the keys that are got are in order
abbrev KeysAscend : List Key → Type 0
KeysAscend keys = (j k : ℕ) (d e : Key) → j < k → slice_get keys j ≡ Some d → slice_get keys k ≡ Some e → listing_cmp d e ≡ Less

abbrev EntriesAscend : List Entry → Type 0
EntriesAscend entries = (j k : ℕ) (d e : Entry) → j < k → slice_get entries j ≡ Some d → slice_get entries k ≡ Some e → listing_cmp d.key e.key ≡ Less

first-ascends : (x : Entry) (xs : List Entry) → EntriesAscend (x ∷ xs) → KeysAscend (live xs) → KeysAscend (x.key ∷ live xs)
first-ascends x xs h rest zero zero d e l hd he = absurd (omega (arith, l))
first-ascends x xs h rest zero (suc k) d e l hd he =
    let s = live-stays xs e k he in
    let first : x.key ≡ d = cc in
    let up : listing_cmp x.key s.entry.key ≡ Less = h zero (suc s.place) x s.entry (omega arith) refl s.here in
    subst (λ (i : Key). listing_cmp i e ≡ Less) first (subst (λ (i : Key). listing_cmp x.key i ≡ Less) s.same up)
first-ascends x xs h rest (suc j) zero d e l hd he = absurd (omega (arith, l))
first-ascends x xs h rest (suc j) (suc k) d e l hd he = rest j k d e (omega (arith, l)) hd he

step-ascends : (x : Entry) (xs : List Entry) → EntriesAscend (x ∷ xs) → KeysAscend (live xs) → (gone : Bool) → is_gone x.key xs ≡ gone → KeysAscend (live (x ∷ xs))
step-ascends x xs h rest true g = subst (λ (keys : List Key). KeysAscend keys) (sym (live-step x xs true g)) rest
step-ascends x xs h rest false g = subst (λ (keys : List Key). KeysAscend keys) (sym (live-step x xs false g)) (first-ascends x xs h rest)

live-ascends : (entries : List Entry) → EntriesAscend entries → KeysAscend (live entries)
live-ascends [] h = λ j k d e l hd he. absurd cc
live-ascends (x ∷ xs) h = step-ascends x xs h (live-ascends xs (λ j k d e l hd he. h (suc j) (suc k) d e (omega (arith, l)) hd he)) (is_gone x.key xs) refl

-- ---- lines and keys, place by place
record LineAt (at : Key → Option Stored) (keys : List Key) (place : ℕ) (line : RefLine) : Type 0 where
  pub key : Key
  pub here : slice_get keys place ≡ Some key
  pub told : Told at key line

line-told : (at : Key → Option Stored) (keys : List Key) (lines : List RefLine) (place : ℕ) (line : RefLine) → AllTold at keys lines → slice_get lines place ≡ Some line → LineAt at keys place line
line-told at [] [] place line a e = absurd cc
line-told at [] (l ∷ lines) place line a e = absurd a
line-told at (k ∷ keys) [] place line a e = absurd a
line-told at (k ∷ keys) (l ∷ lines) zero line a e =
    let same : l ≡ line = cc in
    record { key = k; here = refl; told = subst (λ (x : RefLine). Told at k x) same a.0 }
line-told at (k ∷ keys) (l ∷ lines) (suc place) line a e =
    let r = line-told at keys lines place line a.1 e in record { key = r.key; here = r.here; told = r.told }

record KeyAt (at : Key → Option Stored) (lines : List RefLine) (place : ℕ) (key : Key) : Type 0 where
  pub line : RefLine
  pub here : slice_get lines place ≡ Some line
  pub told : Told at key line

key-told : (at : Key → Option Stored) (keys : List Key) (lines : List RefLine) (place : ℕ) (key : Key) → AllTold at keys lines → slice_get keys place ≡ Some key → KeyAt at lines place key
key-told at [] [] place key a e = absurd cc
key-told at [] (l ∷ lines) place key a e = absurd a
key-told at (k ∷ keys) [] place key a e = absurd a
key-told at (k ∷ keys) (l ∷ lines) zero key a e =
    let same : k ≡ key = cc in
    record { line = l; here = refl; told = subst (λ (x : Key). Told at x l) same a.0 }
key-told at (k ∷ keys) (l ∷ lines) (suc place) key a e =
    let r = key-told at keys lines place key a.1 e in record { line = r.line; here = r.here; told = r.told }

-- ---- the lines of a part
then-equal : (o : Ordering) → ordering_then o Equal ≡ o
then-equal Less = refl
then-equal Equal = refl
then-equal Greater = refl

lines-less : (s t : Bool) (m n : List ℕ) → part_of (cond s (Tag m) (Branch m)) ≡ part_of (cond t (Tag n) (Branch n)) → listing_cmp (cond s (Tag m) (Branch m)) (cond t (Tag n) (Branch n)) ≡ Less → ordering_then (bool_cmp s t) (slice_cmp nat_cmp m n) ≡ Less
lines-less true true m n p l = sym (then-equal (slice_cmp nat_cmp m n)) ∙ l
lines-less false false m n p l = sym (then-equal (slice_cmp nat_cmp m n)) ∙ l
lines-less true false m n p l = absurd cc
lines-less false true m n p l = absurd cc

abbrev LinesAscend : List RefLine → Type 0
LinesAscend lines = (j k : ℕ) (a b : RefLine) → j < k → slice_get lines j ≡ Some a → slice_get lines k ≡ Some b → line_cmp a b ≡ Less

-- the lines are those of the refs that stand in a part
record TellsPart (at : Key → Option Stored) (part : Part) (lines : List RefLine) : Type 0 where
  pub right : (line : RefLine) → HasLine lines line → Told at (key_of line) line × IsRefIn at part (key_of line)
  pub whole : (key : Key) → IsRefIn at part key → (line : RefLine) × HasLine lines line × Told at key line
  pub ascending : LinesAscend lines

module _ (at : Key → Option Stored) (part : Part) (entries : List Entry) (lines : List RefLine) (L : IsListing at part entries) (a : AllTold at (live entries) lines) where
  line-right-of : (line : RefLine) → HasLine lines line → Told at (key_of line) line × IsRefIn at part (key_of line)
  line-right-of line h =
      let t = line-told at (live entries) lines h.place line a h.here in
      let r : IsRefIn at part t.key = (live-law at part entries L t.key).0 (record { place = h.place; here = t.here }) in
      (subst (λ (k : Key). Told at k line) (sym t.told.is) t.told, subst (λ (k : Key). IsRefIn at part k) (sym t.told.is) r)

  line-whole : (key : Key) → IsRefIn at part key → (line : RefLine) × HasLine lines line × Told at key line
  line-whole key r =
      let h : HasKey (live entries) key = (live-law at part entries L key).1 r in
      let t = key-told at (live entries) lines h.place key a h.here in
      (t.line, record { place = h.place; here = t.here }, t.told)

  lines-ascend : LinesAscend lines
  lines-ascend j k x y l hx hy =
      let d = line-told at (live entries) lines j x a hx in
      let e = line-told at (live entries) lines k y a hy in
      let up : listing_cmp d.key e.key ≡ Less = live-ascends entries L.ascending j k d.key e.key l d.here e.here in
      let up' : listing_cmp (key_of x) (key_of y) ≡ Less = subst (λ (i : Key). listing_cmp i (key_of y) ≡ Less) (sym d.told.is) (subst (λ (i : Key). listing_cmp d.key i ≡ Less) (sym e.told.is) up) in
      let left = (line-right-of x (record { place = j; here = hx })).1 in
      let right = (line-right-of y (record { place = k; here = hy })).1 in
      lines-less x.tag y.tag x.name y.name (left.part_is ∙ sym right.part_is) up'

  part-told : TellsPart at part lines
  part-told = record { right = line-right-of; whole = line-whole; ascending = lines-ascend }

-- ---- the keys of a part have lines
branch-lined : (name : List ℕ) (id : Id12) → IsLine (Branch name) id
branch-lined name id = record { line = branch_line name id; made = refl; is = refl; names = refl }

tag-lined : (name : List ℕ) (id : Id12) → IsLine (Tag name) id
tag-lined name id = record { line = tag_line name id; made = refl; is = refl; names = refl }

branches-lined : (at : Key → Option Stored) (key : Key) → IsRefIn at Branches key → (id : Id12) → IsLine key id
branches-lined at (Branch name) r id = branch-lined name id
branches-lined at (Snapshot i) r id = let p = r.part_is in absurd cc
branches-lined at (Manifest i) r id = let p = r.part_is in absurd cc
branches-lined at (Txn i) r id = let p = r.part_is in absurd cc
branches-lined at (Chunk i) r id = let p = r.part_is in absurd cc
branches-lined at (Tag name) r id = let p = r.part_is in absurd cc
branches-lined at (Tombstone name) r id = let p = r.part_is in absurd cc
branches-lined at (Lease i) r id = let p = r.part_is in absurd cc

tags-lined : (at : Key → Option Stored) (key : Key) → IsRefIn at Tags key → (id : Id12) → IsLine key id
tags-lined at (Tag name) r id = tag-lined name id
tags-lined at (Tombstone name) r id = absurd r.not_gone
tags-lined at (Lease i) r id = let p = r.part_is in absurd cc
tags-lined at (Branch name) r id = let p = r.part_is in absurd cc
tags-lined at (Snapshot i) r id = let p = r.part_is in absurd cc
tags-lined at (Manifest i) r id = let p = r.part_is in absurd cc
tags-lined at (Txn i) r id = let p = r.part_is in absurd cc
tags-lined at (Chunk i) r id = let p = r.part_is in absurd cc

-- what is got of a listing has lines
has-ones : (at : Key → Option Stored) (part : Part) (entries : List Entry) → IsListing at part entries → ((key : Key) → IsRefIn at part key → (id : Id12) → IsLine key id) → (key : Key) → HasKey (live entries) key → HasOne at key
has-ones at part entries L lined key h =
    let r : IsRefIn at part key = (live-law at part entries L key).0 h in
    record { stored = r.stored; stands = r.stands; lined = lined key r }

-- ---- both parts
-- the line of a key
line-of-branch : (name : List ℕ) (line : RefLine) (tag : Bool) → line.tag ≡ tag → cond tag (Tag line.name) (Branch line.name) ≡ Branch name → line ≡ branch_line name line.id
line-of-branch name line true e k = absurd cc
line-of-branch name line false e k =
    let n : line.name ≡ name = cc in
    ap (λ (t : Bool). record { tag = t; name = line.name; id = line.id }) e ∙ ap (λ (m : List ℕ). branch_line m line.id) n

line-of-tag : (name : List ℕ) (line : RefLine) (tag : Bool) → line.tag ≡ tag → cond tag (Tag line.name) (Branch line.name) ≡ Tag name → line ≡ tag_line name line.id
line-of-tag name line false e k = absurd cc
line-of-tag name line true e k =
    let n : line.name ≡ name = cc in
    ap (λ (t : Bool). record { tag = t; name = line.name; id = line.id }) e ∙ ap (λ (m : List ℕ). tag_line m line.id) n

line-is : (lines : List RefLine) (line other : RefLine) → line ≡ other → HasLine lines line → HasLine lines other
line-is lines line other e h = subst (λ (x : RefLine). HasLine lines x) e h

same-id : (s t : Stored) (i j : Id12) (o : Option Stored) → o ≡ Some s → o ≡ Some t → ref_of s.bytes ≡ Some i → ref_of t.bytes ≡ Some j → i ≡ j
same-id s t i j o hs ht hi hj =
    let same : s ≡ t = cc in
    let hj' : ref_of s.bytes ≡ Some j = subst (λ (x : Stored). ref_of x.bytes ≡ Some j) (sym same) hj in cc

same-name : (s t : Stored) (id : Id12) (o : Option Stored) → o ≡ Some s → o ≡ Some t → ref_of s.bytes ≡ Some id → ref_of t.bytes ≡ Some id
same-name s t id o hs ht named =
    let same : s ≡ t = cc in subst (λ (x : Stored). ref_of x.bytes ≡ Some id) same named

tags-behind : (s t : Bool) (m n : List ℕ) → part_of (cond s (Tag m) (Branch m)) ≡ Branches → part_of (cond t (Tag n) (Branch n)) ≡ Tags → ordering_then (bool_cmp s t) (slice_cmp nat_cmp m n) ≡ Less
tags-behind false true m n p q = refl
tags-behind true t m n p q = absurd cc
tags-behind false false m n p q = absurd cc

module _ (journal : List Event) (xs ys : List RefLine) (b : TellsPart (found journal) Branches xs) (t : TellsPart (found journal) Tags ys) where
  line-told-by : (line : RefLine) → HasLine (xs ++ ys) line → Told (found journal) (key_of line) line × IsNotGone (found journal) (key_of line)
  line-told-by line h = elim (get-split xs ys h.place line h.here) [
    | inl l ↦ let r = b.right line (record { place = h.place; here = l }) in (r.0, r.1.not_gone)
    | inr m ↦ let r = t.right line (record { place = m.rest; here = m.here }) in (r.0, r.1.not_gone)
  ]

  branch-whole : (name : List ℕ) (s : Stored) → found journal (Branch name) ≡ Some s → (line : RefLine) × HasLine (xs ++ ys) line × Told (found journal) (Branch name) line
  branch-whole name s e =
      let w = b.whole (Branch name) (record { stored = s; stands = e; part_is = refl; not_gone = tt }) in
      (w.0, record { place = w.1.place; here = get-left xs ys w.1.place w.0 w.1.here }, w.2)

  tag-whole : (name : List ℕ) (s : Stored) → found journal (Tag name) ≡ Some s → found journal (Tombstone name) ≡ None → (line : RefLine) × HasLine (xs ++ ys) line × Told (found journal) (Tag name) line
  tag-whole name s e n =
      let w = t.whole (Tag name) (record { stored = s; stands = e; part_is = refl; not_gone = n }) in
      (w.0, line-right xs ys w.0 w.1, w.2)

  branch-line : (name : List ℕ) (id : Id12) → NamesAt journal (Branch name) id → HasLine (xs ++ ys) (branch_line name id)
  branch-line name id n =
      let w = branch-whole name n.stored n.stands in
      let same : w.0.id ≡ id = same-id w.2.stored n.stored w.0.id id (found journal (Branch name)) w.2.stands n.stands w.2.named n.names in
      line-is (xs ++ ys) w.0 (branch_line name id) (line-of-branch name w.0 w.0.tag refl w.2.is ∙ ap (λ (i : Id12). branch_line name i) same) w.1

  tag-line : (name : List ℕ) (id : Id12) → NamesAt journal (Tag name) id → found journal (Tombstone name) ≡ None → HasLine (xs ++ ys) (tag_line name id)
  tag-line name id n gone =
      let w = tag-whole name n.stored n.stands gone in
      let same : w.0.id ≡ id = same-id w.2.stored n.stored w.0.id id (found journal (Tag name)) w.2.stands n.stands w.2.named n.names in
      line-is (xs ++ ys) w.0 (tag_line name id) (line-of-tag name w.0 w.0.tag refl w.2.is ∙ ap (λ (i : Id12). tag_line name i) same) w.1

  names-branch : (name : List ℕ) (id : Id12) → HasLine (xs ++ ys) (branch_line name id) → NamesAt journal (Branch name) id
  names-branch name id h =
      let r = (line-told-by (branch_line name id) h).0 in record { stored = r.stored; stands = r.stands; names = r.named }

  names-tag : (name : List ℕ) (id : Id12) → HasLine (xs ++ ys) (tag_line name id) → NamesAt journal (Tag name) id × (found journal (Tombstone name) ≡ None)
  names-tag name id h =
      let r = line-told-by (tag_line name id) h in (record { stored = r.0.stored; stands = r.0.stands; names = r.0.named }, r.1)

  -- a branch before a tag
  across : (j k : ℕ) (x y : RefLine) → slice_get xs j ≡ Some x → slice_get ys k ≡ Some y → line_cmp x y ≡ Less
  across j k x y hx hy =
      let p = (b.right x (record { place = j; here = hx })).1.part_is in
      let q = (t.right y (record { place = k; here = hy })).1.part_is in
      tags-behind x.tag y.tag x.name y.name p q

  both-ascend : LinesAscend (xs ++ ys)
  both-ascend j k x y l hx hy = elim (get-split xs ys j x hx) [
    | inl p ↦ elim (get-split xs ys k y hy) [ inl q ↦ b.ascending j k x y l p q | inr q ↦ across j q.rest x y p q.here ]
    | inr p ↦ elim (get-split xs ys k y hy) [
      | inl q ↦ let within = slice_get_within xs k y q in absurd (omega (arith, l, within, p.place_is))
      | inr q ↦ t.ascending p.rest q.rest x y (omega (arith, l, p.place_is, q.place_is)) p.here q.here
    ]
  ]

  both-told : TellsRefs journal (xs ++ ys)
  both-told = record {
    branches = λ name id. (names-branch name id, branch-line name id);
    tags = λ name id. (names-tag name id, λ n. tag-line name id n.0 n.1);
    named_branches = λ name s e. let w = branch-whole name s e in (w.0.id, same-name w.2.stored s w.0.id (found journal (Branch name)) w.2.stands e w.2.named);
    named_tags = λ name gone s e. let w = tag-whole name s e gone in (w.0.id, same-name w.2.stored s w.0.id (found journal (Tag name)) w.2.stands e w.2.named);
    ascending = both-ascend;
  }

-- ---- the whole reading
-- the lines of the tags are behind those of the branches
behind-first : (xs ys first lines : List RefLine) → first ≡ xs → lines ≡ first ++ ys → lines ≡ xs ++ ys
behind-first xs ys first lines f e = e ∙ ap (λ (l : List RefLine). l ++ ys) f

-- from the two listings, and the lines of what was got of each
parts-told : (journal : List Event) (branches tags : List Entry) (xs ys lines : List RefLine) → IsListing (found journal) Branches branches → IsListing (found journal) Tags tags → AllTold (found journal) (live branches) xs → AllTold (found journal) (live tags) ys → lines ≡ xs ++ ys → TellsRefs journal lines
parts-told journal branches tags xs ys lines L M a b e =
    subst (λ (l : List RefLine). TellsRefs journal l) (sym e) (both-told journal xs ys (part-told (found journal) Branches branches xs L a) (part-told (found journal) Tags tags ys M b))

refs-yields : (journal : List Event) (lines : List RefLine) → Yields (found journal) refs_program (Ok lines) → TellsRefs journal lines
refs-yields journal lines y =
    let at : Key → Option Stored = found journal in
    let a = yields-then at (list_part Branches) after_branches lines y in
    let listed = list-yields at Branches a.0 a.1 in
    let b = yields-then at (read_each [] (live a.0)) after_lines lines a.2 in
    let first = each-yields at (live a.0) [] b.0 (has-ones at Branches a.0 listed (branches-lined at)) b.1 in
    let c = yields-then at (list_part Tags) (after_tags b.0) lines b.2 in
    let tagged = list-yields at Tags c.0 c.1 in
    let last = each-yields at (live c.0) b.0 lines (has-ones at Tags c.0 tagged (tags-lined at)) c.2 in
    parts-told journal a.0 c.0 first.0 last.0 lines listed tagged first.2 last.2 (behind-first first.0 last.0 b.0 lines first.1 last.1)

pub refs-law : RefsLaw
refs-law old own lines good path =
    let reads : AllRead own = path-reads refs_program (Done (Ok lines)) own refs-reads path in
    refs-yields (old ++ own) lines (path-yields (found (old ++ own)) refs_program (Ok lines) old own reads (λ key. sym (found-reads old own key reads)) good path)
