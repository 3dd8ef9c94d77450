-- What a reading may answer where each of its operations is answered by what stands.
use Rattle.std.proofs.Common.{◌≡◌, ℕ, zero, suc, List, [], ◌∷◌, ◌++◌, length, refl, sym, ◌∙◌, ap, subst, append_assoc, append-nil}
use Rattle.std.specs.Prelude.{Option, Some, None, Result, Ok, Err, cond}
use Rattle.std.specs.Result.{result_ok}
use Rattle.ice_ids.specs.declared.Id12.{Id12}
use Rattle.repo_objects.specs.declared.bad_objects.Bad.{Bad}
use Rattle.repo_objects.specs.Readings.{read_ref as read_bytes, ref_of}
use Rattle.object_store.specs.declared.keys.Key.{Key}
use Rattle.object_store.specs.declared.keys.Key.TheVariants.{Branch, Tag}
use Rattle.object_store.specs.declared.keys.Part.{Part}
use Rattle.object_store.specs.declared.events.Op.{Op}
use Rattle.object_store.specs.declared.events.Op.TheVariants.{Get, PutNew, PutOver, Remove, RemoveAt, List as ListPart}
use Rattle.object_store.specs.declared.events.Got.TheVariants.{Found, Absent}
use Rattle.object_store.specs.declared.events.Entry.{Entry}
use Rattle.object_store.specs.declared.events.Event.{Event}
use Rattle.object_store.specs.declared.events.Reply.{Reply}
use Rattle.object_store.specs.declared.events.Reply.TheVariants.{Got as Is_got, New as Is_new, Over as Is_over, Gone as Is_gone, GoneAt as Is_gone_at, Listed as Is_listed, Failed}
use Rattle.store_api.specs.declared.machines.Refusal.{Refusal}
use Rattle.object_store.specs.Machine.{Stored, Slot, leaves, effect, slot_of, found, got_of, IsEntry, IsListing, IsHonest, UnlessFailed}
use Rattle.store_api.specs.Journal.{Each, IsGood}
use Rattle.store_api.specs.Program.{Prog, Done, Ask, bind, Path}
use Rattle.object_store.proofs.Slots.{effect-cases, slot-append_one}
use Rattle.play_outcome.specs.declared.outcome.RefLine.{RefLine}
use Rattle.store_api.specs.Running.{Program, ◌>>=◌, on_answer}
use Rattle.repository.specs.Refs.{list_part, on_listed, on_got, on_id, line_of, read_each, read_ref, with_line}
use Rattle.live_refs.specs.Laws.{HasKey}
use Rattle.repository.proofs.Listed.{IsRead, OnlyReads}

-- ---- a reading changes nothing
abbrev pub AllRead : List Event → Type 0
AllRead [] = Unit {0}
AllRead (event ∷ events) = IsRead event.op × AllRead events

leaves-read : (n time : ℕ) (op : Op) (slot : Slot) → IsRead op → leaves n time op slot ≡ slot
leaves-read n time (Get key) slot r = refl
leaves-read n time (ListPart part) slot r = refl
leaves-read n time (PutNew key bytes why) slot r = absurd r
leaves-read n time (PutOver key bytes old why) slot r = absurd r
leaves-read n time (Remove key why) slot r = absurd r
leaves-read n time (RemoveAt key old why) slot r = absurd r

effect-read : (key : Key) (n : ℕ) (slot : Slot) (event : Event) → IsRead event.op → effect key n slot event ≡ slot
effect-read key n slot event r = effect-cases (λ (s : Slot). s ≡ slot) key n slot event refl (λ _ _. leaves-read n event.time event.op slot r)

found-read : (journal : List Event) (event : Event) (key : Key) → IsRead event.op → found (journal ++ event ∷ []) key ≡ found journal key
found-read journal event key r = ap (λ (s : Slot). s.stands) (slot-append_one journal event key ∙ effect-read key (length journal) (slot_of journal key) event r)

pub found-reads : (old own : List Event) (key : Key) → AllRead own → found (old ++ own) key ≡ found old key
found-reads old [] key r = ap (λ (h : List Event). found h key) (append-nil old)
found-reads old (x ∷ xs) key r =
    ap (λ (h : List Event). found h key) (sym (append_assoc old (x ∷ []) xs)) ∙ (found-reads (old ++ x ∷ []) xs key r.1 ∙ found-read old x key r.0)

pub path-reads : {A : Type 0} (p q : Prog A) (own : List Event) → OnlyReads p → Path p own q → AllRead own
unfolding OnlyReads Path
path-reads p q [] r path = tt
path-reads (Done a) q (x ∷ xs) r path = absurd path
path-reads (Ask op k) q (x ∷ xs) r path = (subst (λ (o : Op). IsRead o) (sym path.0) r.0, path-reads (k x.reply) q xs (r.1 x.reply) path.1)

-- ---- replies of what stands
abbrev pub IsToldBy : (Key → Option Stored) → Op → Reply → Type 0
IsToldBy at (Get key) reply = (now : ℕ) × (reply ≡ Is_got (got_of now (at key)))
IsToldBy at (ListPart part) reply = (now : ℕ) × (entries : List Entry) × (reply ≡ Is_listed (record { entries = entries; now = now })) × IsListing at part entries
IsToldBy at _ reply = Unit {0}

abbrev pub AreSame : (Key → Option Stored) → (Key → Option Stored) → Type 0
AreSame at to = (key : Key) → at key ≡ to key

module _ (at to : Key → Option Stored) (same : AreSame at to) (part : Part) (entries : List Entry) where
  entry-same : (entry : Entry) → IsEntry at part entry → IsEntry to part entry
  entry-same entry e = record { stored = e.stored; stands = sym (same entry.key) ∙ e.stands; part_is = e.part_is; size = e.size; created = e.created }

  listing-same : IsListing at part entries → IsListing to part entries
  listing-same l = record {
    right = λ k e h. entry-same e (l.right k e h);
    whole = λ key s p h. l.whole key s p (same key ∙ h);
    ascending = l.ascending;
  }

told-by : (at to : Key → Option Stored) → AreSame at to → (n now : ℕ) (op : Op) (reply : Reply) → IsHonest at n now op reply → IsToldBy to op reply
told-by at to same n now (Get key) reply h = (now, h ∙ ap (λ (o : Option Stored). Is_got (got_of now o)) (same key))
told-by at to same n now (ListPart part) reply h = (now, h.0, h.1, listing-same at to same part h.0 h.2)
told-by at to same n now (PutNew key bytes why) reply h = tt
told-by at to same n now (PutOver key bytes old why) reply h = tt
told-by at to same n now (Remove key why) reply h = tt
told-by at to same n now (RemoveAt key old why) reply h = tt

unless-more : (P Q : Reply → Type 0) → ((reply : Reply) → P reply → Q reply) → (reply : Reply) → UnlessFailed P reply → UnlessFailed Q reply
unless-more P Q f (Failed done) u = tt
unless-more P Q f (Is_got x) u = f (Is_got x) u
unless-more P Q f (Is_new x) u = f (Is_new x) u
unless-more P Q f (Is_over x) u = f (Is_over x) u
unless-more P Q f (Is_gone x) u = f (Is_gone x) u
unless-more P Q f (Is_gone_at x) u = f (Is_gone_at x) u
unless-more P Q f (Is_listed x) u = f (Is_listed x) u

-- ---- what a program may answer
-- the program can end with this, where each operation fails or is answered by what stands
unfoldable pub Yields : {A : Type 0} → (Key → Option Stored) → Prog A → A → Type 0
Yields at (Done a) r = a ≡ r
Yields at (Ask op k) r = (reply : Reply) × UnlessFailed (IsToldBy at op) reply × Yields at (k reply) r

pub path-yields : {A : Type 0} (at : Key → Option Stored) (p : Prog A) (r : A) (old own : List Event) → AllRead own → AreSame (found old) at → Each IsGood old own → Path p own (Done r) → Yields at p r
unfolding Yields Path Each
path-yields at p r old [] reads same good path = subst (λ (x : Prog _). Yields at x r) (sym path) refl
path-yields at (Done a) r old (x ∷ xs) reads same good path = absurd path
path-yields at (Ask op k) r old (x ∷ xs) reads same good path =
    let told : UnlessFailed (IsToldBy at x.op) x.reply = unless-more (IsHonest (found old) (length old) x.time x.op) (IsToldBy at x.op) (told-by (found old) at same (length old) x.time x.op) x.reply good.0.legal.answered in (
      x.reply,
      subst (λ (o : Op). UnlessFailed (IsToldBy at o) x.reply) path.0 told,
      path-yields at (k x.reply) r (old ++ x ∷ []) xs reads.1 (λ key. found-read old x key reads.0 ∙ same key) good.1 path.1,
    )

yields-bind : {A B : Type 0} (at : Key → Option Stored) (p : Prog A) (f : A → Prog B) (b : B) → Yields at (bind p f) b → (a : A) × Yields at p a × Yields at (f a) b
unfolding Yields
yields-bind at (Done a) f b y = (a, refl, y)
yields-bind at (Ask op k) f b y = let rest = yields-bind at (k y.0) f b y.2 in (rest.0, (y.0, y.1, rest.1), rest.2)

yields-answer : {A B : Type 0} (at : Key → Option Stored) (p : Program A) (f : A → Program B) (b : B) (result : Result A Refusal) → Yields at p result → Yields at (on_answer f result) (Ok b) → (a : A) × Yields at p (Ok a) × Yields at (f a) (Ok b)
unfolding Yields
yields-answer at p f b (Ok a) y z = (a, y, z)
yields-answer at p f b (Err refusal) y z = absurd cc

-- both answer, the one behind the other
pub yields-then : {A B : Type 0} (at : Key → Option Stored) (p : Program A) (f : A → Program B) (b : B) → Yields at (p >>= f) (Ok b) → (a : A) × Yields at p (Ok a) × Yields at (f a) (Ok b)
yields-then at p f b y = let s = yields-bind at p (on_answer f) (Ok b) y in yields-answer at p f b s.0 s.1 s.2

pub yields-done : {A : Type 0} (at : Key → Option Stored) (a b : A) → Yields at (Done a) b → a ≡ b
unfolding Yields
yields-done at a b y = y

-- ---- a listing
abbrev entries_in : Reply → List Entry
entries_in (Is_listed l) = l.entries
entries_in _ = []

abbrev ok_list : {X : Type 0} → Result (List X) Refusal → List X
ok_list (Ok xs) = xs
ok_list (Err refusal) = []

listed-yields : (at : Key → Option Stored) (part : Part) (entries : List Entry) (reply : Reply) → UnlessFailed (IsToldBy at (ListPart part)) reply → Yields at (on_listed reply) (Ok entries) → IsListing at part entries
unfolding Yields
listed-yields at part entries (Is_listed l) t y =
    let same : t.1 ≡ entries = sym (ap entries_in t.2) ∙ ap ok_list y in
    subst (λ (x : List Entry). IsListing at part x) same t.3
listed-yields at part entries (Is_got x) t y = absurd cc
listed-yields at part entries (Is_new x) t y = absurd cc
listed-yields at part entries (Is_over x) t y = absurd cc
listed-yields at part entries (Is_gone x) t y = absurd cc
listed-yields at part entries (Is_gone_at x) t y = absurd cc
listed-yields at part entries (Failed d) t y = absurd cc

pub list-yields : (at : Key → Option Stored) (part : Part) (entries : List Entry) → Yields at (list_part part) (Ok entries) → IsListing at part entries
unfolding Yields
list-yields at part entries y = listed-yields at part entries y.0 y.1 y.2

-- ---- a ref
abbrev bytes_in : Reply → List ℕ
bytes_in (Is_got (Found bytes version now)) = bytes
bytes_in _ = []

abbrev ok_line : Result (Option RefLine) Refusal → Option RefLine
ok_line (Ok line) = line
ok_line (Err refusal) = None

-- what is answered of a key at which these bytes stand
abbrev TellsLine : Key → List ℕ → Option RefLine → Type 0
TellsLine key bytes line = (id : Id12) × (ref_of bytes ≡ Some id) × (line ≡ line_of key id)

named-yields : (key : Key) (bytes : List ℕ) (line : Option RefLine) (r : Result Id12 Bad) → read_bytes bytes ≡ r → ◌≡◌ {A = Result (Option RefLine) Refusal} (on_id key r) (Ok line) → TellsLine key bytes line
named-yields key bytes line (Err bad) e y = absurd cc
named-yields key bytes line (Ok id) e y = (id, ap result_ok e, sym (ap ok_line y))

got-yields : (at : Key → Option Stored) (key : Key) (s : Stored) (line : Option RefLine) (reply : Reply) → at key ≡ Some s → UnlessFailed (IsToldBy at (Get key)) reply → Yields at (on_got key reply) (Ok line) → TellsLine key s.bytes line
unfolding Yields
got-yields at key s line (Is_got (Found bytes version now)) h t y =
    let same : bytes ≡ s.bytes = ap bytes_in (t.1 ∙ ap (λ (o : Option Stored). Is_got (got_of t.0 o)) h) in
    subst (λ (b : List ℕ). TellsLine key b line) same (named-yields key bytes line (read_bytes bytes) refl y)
got-yields at key s line (Is_got (Absent now)) h t y =
    let there = t.1 ∙ ap (λ (o : Option Stored). Is_got (got_of t.0 o)) h in absurd cc
got-yields at key s line (Is_listed x) h t y = absurd cc
got-yields at key s line (Is_new x) h t y = absurd cc
got-yields at key s line (Is_over x) h t y = absurd cc
got-yields at key s line (Is_gone x) h t y = absurd cc
got-yields at key s line (Is_gone_at x) h t y = absurd cc
got-yields at key s line (Failed d) h t y = absurd cc

ref-yields : (at : Key → Option Stored) (key : Key) (s : Stored) (line : Option RefLine) → at key ≡ Some s → Yields at (read_ref key) (Ok line) → TellsLine key s.bytes line
unfolding Yields
ref-yields at key s line h y = got-yields at key s line y.0 h y.1 y.2

-- ---- the lines of keys
abbrev pub key_of : RefLine → Key
key_of line = cond line.tag (Tag line.name) (Branch line.name)

-- the line is that of this key, and of the reference that stands there
pub record Told (at : Key → Option Stored) (key : Key) (line : RefLine) : Type 0 where
  pub is : key_of line ≡ key
  pub stored : Stored
  pub stands : at key ≡ Some stored
  pub named : ref_of stored.bytes ≡ Some line.id

pub record IsLine (key : Key) (id : Id12) : Type 0 where
  pub line : RefLine
  pub made : line_of key id ≡ Some line
  pub is : key_of line ≡ key
  pub names : line.id ≡ id

-- something stands there, and it has a line
pub record HasOne (at : Key → Option Stored) (key : Key) : Type 0 where
  pub stored : Stored
  pub stands : at key ≡ Some stored
  pub lined : (id : Id12) → IsLine key id

-- the lines of these keys, one for each
abbrev pub AllTold : (Key → Option Stored) → List Key → List RefLine → Type 0
AllTold at [] [] = Unit {0}
AllTold at [] (line ∷ lines) = ⊥
AllTold at (key ∷ keys) [] = ⊥
AllTold at (key ∷ keys) (line ∷ lines) = Told at key line × AllTold at keys lines

told-line : (at : Key → Option Stored) (key : Key) (line : Option RefLine) → HasOne at key → Yields at (read_ref key) (Ok line) → (told : RefLine) × (line ≡ Some told) × Told at key told
told-line at key line h y =
    let t = ref-yields at key h.stored line h.stands y in
    let l = h.lined t.0 in
    (l.line, t.2 ∙ l.made, record { is = l.is; stored = h.stored; stands = h.stands; named = t.1 ∙ ap (λ (i : Id12). Some i) (sym l.names) })

pub each-yields : (at : Key → Option Stored) (keys : List Key) (lines out : List RefLine) → ((key : Key) → HasKey keys key → HasOne at key) → Yields at (read_each lines keys) (Ok out) → (more : List RefLine) × (out ≡ lines ++ more) × AllTold at keys more
each-yields at [] lines out h y = ([], sym (ap ok_list (yields-done at (Ok lines) (Ok out) y)) ∙ sym (append-nil lines), tt)
each-yields at (key ∷ keys) lines out h y =
    let s = yields-then at (read_ref key) (λ line. read_each (with_line lines line) keys) out y in
    let t = told-line at key s.0 (h key (record { place = zero; here = refl })) s.1 in
    let y' : Yields at (read_each (lines ++ t.0 ∷ []) keys) (Ok out) = subst (λ (o : Option RefLine). Yields at (read_each (with_line lines o) keys) (Ok out)) t.1 s.2 in
    let rest = each-yields at keys (lines ++ t.0 ∷ []) out (λ k i. h k (record { place = suc i.place; here = i.here })) y' in
    (t.0 ∷ rest.0, rest.1 ∙ append_assoc lines (t.0 ∷ []) rest.0, (t.2, rest.2))
