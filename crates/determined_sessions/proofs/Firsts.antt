-- One session alone begins at its client's first gets.
use Rattle.std.proofs.Common.{◌≡◌, ℕ, List, [], ◌∷◌, ◌++◌, Some, sym, ◌∙◌, ap, subst, append_assoc}
use Rattle.std.specs.Prelude.{◌≢◌}
use Rattle.std.proofs.lemmas.List.{append_cancel_left}
use Rattle.ice_ids.specs.declared.Id12.{Id12}
use Rattle.repo_objects.specs.Readings.{ref_of}
use Rattle.object_store.specs.declared.keys.Key.{Key}
use Rattle.object_store.specs.declared.keys.Key.TheVariants.{Branch, Tag, Snapshot}
use Rattle.object_store.specs.declared.events.Version.{Version}
use Rattle.object_store.specs.declared.events.Op.TheVariants.{Get}
use Rattle.object_store.specs.declared.events.Got.TheVariants.{Found}
use Rattle.object_store.specs.declared.events.Reply.TheVariants.{Got as Is_got}
use Rattle.object_store.specs.declared.events.Event.{Event}
use Rattle.object_store.specs.Machine.{version_at}
use Rattle.store_api.specs.Journal.{Each}
use Rattle.store_api.specs.Telling.{WasGot}
use Rattle.repo_read.specs.declared.resolving.At.{At}
use Rattle.repo_read.specs.declared.resolving.Named.{Named}
use Rattle.repo_read.specs.Naming.{WasResolved, key_of}
use Rattle.repo_read.specs.Resolving.{alone}
use Rattle.determined_sessions.specs.Sessions.{NeverGot, asked_before, FirstLaw}
use Rattle.determined_sessions.proofs.Sessions.{begun-one}

some-same : {A : Type 0} (a b : A) → Some a ≡ Some b → a ≡ b
some-same a b e = cc

-- ---- one first event
-- where the event is the client's, it is no get of the key
abbrev NoGet : ℕ → Key → List Event → Event → Type 0
NoGet client key before event = event.client ≡ client → event.op ≢ Get key

event-head : (k l : Event) (ks ls : List Event) → k ∷ ks ≡ l ∷ ls → k ≡ l
event-head k l ks ls e = cc

event-tail : (k l : Event) (ks ls : List Event) → k ∷ ks ≡ l ∷ ls → ks ≡ ls
event-tail k l ks ls e = cc

-- in one list, the first get of the key is one event
first-one : (client : ℕ) (key : Key) (old now xs ys left rest : List Event) (x y : Event) → xs ++ x ∷ left ≡ ys ++ y ∷ rest → Each (NoGet client key) old xs → Each (NoGet client key) now ys → x.client ≡ client → x.op ≡ Get key → y.client ≡ client → y.op ≡ Get key → x ≡ y
unfolding Each
first-one client key old now [] [] left rest x y e a b own gets its got = event-head x y left rest e
first-one client key old now [] (k ∷ ys) left rest x y e a b own gets its got =
    let is : k ≡ x = sym (event-head x k left (ys ++ y ∷ rest) e) in
    absurd (b.0 (ap (λ (v : Event). v.client) is ∙ own) (ap (λ (v : Event). v.op) is ∙ gets))
first-one client key old now (k ∷ xs) [] left rest x y e a b own gets its got =
    let is : k ≡ y = event-head k y (xs ++ x ∷ left) rest e in
    absurd (a.0 (ap (λ (v : Event). v.client) is ∙ its) (ap (λ (v : Event). v.op) is ∙ got))
first-one client key old now (k ∷ xs) (l ∷ ys) left rest x y e a b own gets its got =
    first-one client key (old ++ k ∷ []) (now ++ l ∷ []) xs ys left rest x y (event-tail k l (xs ++ x ∷ left) (ys ++ y ∷ rest) e) a.1 b.1 own gets its got

found-same : (bytes other : List ℕ) (v w : Version) (m n : ℕ) → Is_got (Found bytes v m) ≡ Is_got (Found other w n) → (bytes ≡ other) × (v ≡ w)
found-same bytes other v w m n e = (cc, cc)

-- so it is told one thing
got-one : (client : ℕ) (key : Key) (start journal : List Event) (bytes other : List ℕ) (v w : ℕ) (a : WasGot client key bytes v start journal) (b : WasGot client key other w start journal) → NeverGot client key start a.own.before → NeverGot client key start b.own.before
    → (bytes ≡ other) × (version_at v ≡ version_at w)
got-one client key start journal bytes other v w a b first second =
    let x = a.own in
    let y = b.own in
    let here : journal ≡ start ++ (first.more ++ x.event ∷ x.after) = x.is ∙ ap (λ (h : List Event). h ++ x.event ∷ x.after) first.is ∙ append_assoc start first.more (x.event ∷ x.after) in
    let there : journal ≡ start ++ (second.more ++ y.event ∷ y.after) = y.is ∙ ap (λ (h : List Event). h ++ y.event ∷ y.after) second.is ∙ append_assoc start second.more (y.event ∷ y.after) in
    let events : first.more ++ x.event ∷ x.after ≡ second.more ++ y.event ∷ y.after = append_cancel_left start (first.more ++ x.event ∷ x.after) (second.more ++ y.event ∷ y.after) (sym here ∙ there) in
    let event : x.event ≡ y.event = first-one client key start start first.more second.more x.after y.after x.event y.event events first.each second.each x.client_is x.op_is y.client_is y.op_is in
    found-same bytes other (version_at v) (version_at w) a.now b.now (sym x.reply_is ∙ ap (λ (e : Event). e.reply) event ∙ y.reply_is)

-- ---- openings
resolved-one : (client : ℕ) (at : At) (x y : Named) (start journal : List Event) (p : WasResolved client at x start journal) (q : WasResolved client at y start journal) → NeverGot client (key_of at) start (asked_before client at x start journal p)
    → NeverGot client (key_of at) start (asked_before client at y start journal q) → x ≡ y
resolved-one client (At.Branch branch) x y start journal p q first second =
    let told = got-one client (Branch branch) start journal p.read.bytes q.read.bytes p.version.0 q.version.0 p.read.got q.read.got first second in
    let id : x.id ≡ y.id = some-same x.id y.id (sym p.read.names ∙ ap ref_of told.0 ∙ q.read.names) in
    let version : x.version ≡ y.version = p.version_is ∙ ap (λ (v : Version). Some v) told.1 ∙ sym q.version_is in
    λ i. record { id = id i; version = version i }
resolved-one client (At.Tag tag) x y start journal p q first second =
    let told = got-one client (Tag tag) start journal p.1.read.bytes q.1.read.bytes p.1.version.0 q.1.version.0 p.1.read.got q.1.read.got first second in
    let id : x.id ≡ y.id = some-same x.id y.id (sym p.1.read.names ∙ ap ref_of told.0 ∙ q.1.read.names) in
    p.0 ∙ ap alone id ∙ sym q.0
resolved-one client (At.Snapshot id) x y start journal p q first second = p ∙ sym q

snapshot-one : (client : ℕ) (base other : Id12) → base ≡ other → (start journal : List Event) (bytes more : List ℕ) (v w : ℕ) (a : WasGot client (Snapshot base) bytes v start journal) (b : WasGot client (Snapshot other) more w start journal)
    → NeverGot client (Snapshot base) start a.own.before → NeverGot client (Snapshot other) start b.own.before → bytes ≡ more
snapshot-one client base other is start journal bytes more v w a b first second =
    subst (λ (k : Id12). (g : WasGot client (Snapshot k) more w start journal) → NeverGot client (Snapshot k) start g.own.before → bytes ≡ more) is
    (λ g n. (got-one client (Snapshot base) start journal bytes more v w a g first n).0) b second

pub first-law : FirstLaw
first-law client a s t start journal x y first second =
    let named : x.named ≡ y.named = resolved-one client a.at x.named y.named start journal x.resolved y.resolved first.named second.named in
    let base : s.base ≡ t.base = x.base ∙ ap (λ (n : Named). n.id) named ∙ sym y.base in
    let bytes : x.bytes ≡ y.bytes = snapshot-one client s.base t.base base start journal x.bytes y.bytes x.version y.version x.got y.got first.got second.got in
    (named, bytes, begun-one client a s t start journal journal x y named bytes)
