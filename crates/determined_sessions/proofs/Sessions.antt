-- The sessions of tasks are determined.
use Rattle.std.proofs.Common.{◌≡◌, ◌⊎◌, inl, inr, ℕ, ℤ, ◌≤◌, List, [], ◌∷◌, ◌++◌, length, Some, Result, Ok, sym, ◌∙◌, ap, subst, arith}
use Rattle.ice_ids.specs.declared.Id12.{Id12}
use Rattle.manifest_file.specs.declared.manifest.Place.TheVariants.{Inline, Object}
use Rattle.repo_objects.specs.Readings.{snapshot_by}
use Rattle.object_store.specs.declared.events.Event.{Event}
use Rattle.store_api.specs.declared.machines.Refusal.{Refusal}
use Rattle.session.specs.Sessions.{SessionState}
use Rattle.session.specs.Chunks.{most_inline, with_chunk, after_draw}
use Rattle.session.specs.Opening.{Asked, begun}
use Rattle.region_calls.specs.ChunkTold.{WasSet, WasPutOut}
use Rattle.region_calls.specs.Written.{AreSet, WasWritten}
use Rattle.commit_path.specs.Opened.{WasBegun}
use Rattle.script_calls.specs.declared.calls.Access.{Access}
use Rattle.script_calls.specs.declared.calls.Head.TheVariants.{Session}
use Rattle.play_script.specs.declared.scripts.Line.{Line}
use Rattle.play_outcome.specs.declared.outcome.Shown.{Shown}
use Rattle.play_tasks.specs.Lines.{LineDeed, Goes, Sets, Reads, Puts, Gathers, Leases, Commits, deed}
use Rattle.play_tasks.specs.Playing.{asked_by}
use Rattle.play_tasks.specs.Solving.{DidPlay, PlaysAll}
use Rattle.determined_sessions.specs.Sessions.{box_put, boxes_put, LinesLaw, SessionsLaw}

some-same : {A : Type 0} (a b : A) → Some a ≡ Some b → a ≡ b
some-same a b e = cc

went-same : (r : Result (List Shown × SessionState) Refusal) (a b : List Shown × SessionState) → r ≡ Ok a → r ≡ Ok b → a ≡ b
went-same r a b e f = cc

cons-head : (k l : Line) (ks ls : List Line) → k ∷ ks ≡ l ∷ ls → k ≡ l
cons-head k l ks ls e = cc

cons-tail : (k l : Line) (ks ls : List Line) → k ∷ ks ≡ l ∷ ls → ks ≡ ls
cons-tail k l ks ls e = cc

-- ---- lines
-- a short chunk stands in the session, and a long one in an object under the next id
set-one : (client other : ℕ) (s : SessionState) (path index bytes : List ℕ) (t u : SessionState) (start journal begun whole : List Event) → WasSet client s path index bytes t start journal → WasSet other s path index bytes u begun whole → t ≡ u
set-one client other s path index bytes t u start journal begun whole p q = by_case p.is q.is
  where
    by_case : ((length bytes ≤ most_inline) × (t ≡ with_chunk s path index (Inline bytes))) ⊎ WasPutOut client s path index bytes t start journal
        → ((length bytes ≤ most_inline) × (u ≡ with_chunk s path index (Inline bytes))) ⊎ WasPutOut other s path index bytes u begun whole → t ≡ u
    by_case (inl a) (inl b) = a.1 ∙ sym b.1
    by_case (inl a) (inr b) = let short = a.0 in let long = b.long in absurd (omega (arith, short, long))
    by_case (inr a) (inl b) = let short = b.0 in let long = a.long in absurd (omega (arith, short, long))
    by_case (inr a) (inr b) =
        let id : a.id ≡ b.id = some-same a.id b.id (sym a.drawn ∙ b.drawn) in
        a.is ∙ ap (λ (k : Id12). with_chunk (after_draw s) path index (Object k 0 (length bytes))) id ∙ sym b.is

-- so chunks of the same bytes lead to one session
sets-one : (client other : ℕ) (chunks : List (List ℕ × List ℕ)) (s : SessionState) (path : List ℕ) (t u : SessionState) (start journal begun whole : List Event) → AreSet client s path chunks t start journal → AreSet other s path chunks u begun whole → t ≡ u
sets-one client other [] s path t u start journal begun whole p q = p ∙ sym q
sets-one client other (c ∷ cs) s path t u start journal begun whole p q =
    let mid : p.0 ≡ q.0 = set-one client other s path c.0 c.1 p.0 q.0 start journal begun whole p.1 q.1 in
    sets-one client other cs q.0 path t u start journal begun whole (subst (λ (m : SessionState). AreSet client m path cs t start journal) mid p.2) q.2

put-one : (client other : ℕ) (s : SessionState) (path from to : List ℕ) (numbers : List ℤ) (t u : SessionState) (start journal begun whole : List Event)
    → (p : WasWritten client s path from to numbers t start journal) (q : WasWritten other s path from to numbers u begun whole) → p.chunks ≡ q.chunks → t ≡ u
put-one client other s path from to numbers t u start journal begun whole p q h =
    sets-one client other q.chunks s path t u start journal begun whole (subst (λ (chunks : List (List ℕ × List ℕ)). AreSet client s path chunks t start journal) h p.set) q.set

did-one : (client other : ℕ) (d : LineDeed) (s t u : SessionState) (start journal begun whole : List Event) (shown told : List Shown) → (p : DidPlay client d s start shown t journal) (q : DidPlay other d s begun told u whole)
    → box_put client d s start shown t journal p ≡ box_put other d s begun told u whole q → t ≡ u
did-one client other (Goes went) s t u start journal begun whole shown told p q h = ap (λ (x : List Shown × SessionState). x.1) (went-same went (shown, t) (told, u) p q)
did-one client other (Sets path index bytes) s t u start journal begun whole shown told p q h = set-one client other s path index bytes t u start journal begun whole p.1 q.1
did-one client other (Reads path index show) s t u start journal begun whole shown told p q h = p.0 ∙ sym q.0
did-one client other (Puts path from to numbers) s t u start journal begun whole shown told p q h = put-one client other s path from to numbers t u start journal begun whole p.1 q.1 h
did-one client other (Gathers path from to show) s t u start journal begun whole shown told p q h = p.0 ∙ sym q.0
did-one client other (Leases show) s t u start journal begun whole shown told p q h = p.becomes ∙ sym q.becomes
did-one client other (Commits message) s t u start journal begun whole shown told p q h = absurd p

-- the boxes of the first line, and of those behind it
abbrev Boxes : Type 0
Boxes = List (List ℕ × List ℕ)

box-head : (a b : Boxes) (xs ys : List Boxes) → a ∷ xs ≡ b ∷ ys → a ≡ b
box-head a b xs ys e = cc

box-tail : (a b : Boxes) (xs ys : List Boxes) → a ∷ xs ≡ b ∷ ys → xs ≡ ys
box-tail a b xs ys e = cc

pub lines-law : LinesLaw
unfolding PlaysAll boxes_put
lines-law client other [] s t u start journal begun whole shown told p q h = p.1 ∙ sym q.1
lines-law client other (l ∷ ls) s t u start journal begun whole shown told p q h =
    let mid : p.2 ≡ q.2 = did-one client other (deed l.number l.call s) s p.2 q.2 start journal begun whole p.0 q.0 p.4 q.4 (box-head _ _ _ _ h) in
    subst (λ (m : SessionState). (r : PlaysAll client ls m start p.1 t journal) → boxes_put client ls m start p.1 t journal r ≡ boxes_put other ls q.2 begun q.1 u whole q.5 → t ≡ u) (sym mid)
    (λ r k. lines-law client other ls q.2 t u start journal begun whole p.1 q.1 r q.5 k) p.5 (box-tail _ _ _ _ h)

-- ---- to the line that commits
-- no line before it commits, so in one body it is one line
came-one : (client other : ℕ) (xs ys : List Line) (x y : Line) (left rest : List Line) (o s t : SessionState) (start journal begun whole : List Event) (shown told : List Shown) (message text : List ℕ) → xs ++ x ∷ left ≡ ys ++ y ∷ rest
    → (p : PlaysAll client xs o start shown s journal) (q : PlaysAll other ys o begun told t whole) → boxes_put client xs o start shown s journal p ≡ boxes_put other ys o begun told t whole q
    → deed x.number x.call s ≡ Commits message → deed y.number y.call t ≡ Commits text → s ≡ t
unfolding PlaysAll boxes_put
came-one client other [] [] x y left rest o s t start journal begun whole shown told message text e p q h f g = p.1 ∙ sym q.1
came-one client other [] (k ∷ ys) x y left rest o s t start journal begun whole shown told message text e p q h f g =
    let head : x ≡ k = cons-head x k left (ys ++ y ∷ rest) e in
    let is : deed k.number k.call o ≡ Commits message = ap (λ (l : Line). deed l.number l.call o) (sym head) ∙ ap (deed x.number x.call) (sym p.1) ∙ f in
    absurd (subst (λ (d : LineDeed). DidPlay other d o begun q.0 q.2 whole) is q.4)
came-one client other (k ∷ xs) [] x y left rest o s t start journal begun whole shown told message text e p q h f g =
    let head : k ≡ y = cons-head k y (xs ++ x ∷ left) rest e in
    let is : deed k.number k.call o ≡ Commits text = ap (λ (l : Line). deed l.number l.call o) head ∙ ap (deed y.number y.call) (sym q.1) ∙ g in
    absurd (subst (λ (d : LineDeed). DidPlay client d o start p.0 p.2 journal) is p.4)
came-one client other (k ∷ xs) (l ∷ ys) x y left rest o s t start journal begun whole shown told message text e p q h f g =
    let head : k ≡ l = cons-head k l (xs ++ x ∷ left) (ys ++ y ∷ rest) e in
    let tail : xs ++ x ∷ left ≡ ys ++ y ∷ rest = cons-tail k l (xs ++ x ∷ left) (ys ++ y ∷ rest) e in
    let mid : p.2 ≡ q.2 =
    subst (λ (z : Line). (did : DidPlay other (deed z.number z.call o) o begun q.0 q.2 whole) → box_put client (deed k.number k.call o) o start p.0 p.2 journal p.4 ≡ box_put other (deed z.number z.call o) o begun q.0 q.2 whole did → p.2 ≡ q.2) head
    (λ did b. did-one client other (deed k.number k.call o) o p.2 q.2 start journal begun whole p.0 q.0 p.4 did b) q.4 (box-head _ _ _ _ h)
    in
    subst (λ (m : SessionState). (r : PlaysAll client xs m start p.1 s journal) → boxes_put client xs m start p.1 s journal r ≡ boxes_put other ys q.2 begun q.1 t whole q.5 → s ≡ t) (sym mid)
    (λ r b. came-one client other xs ys x y left rest q.2 s t start journal begun whole p.1 q.1 message text tail r q.5 b f g) p.5 (box-tail _ _ _ _ h)

-- ---- where a session begins
pub access-same : (a b : Access) → Session a ≡ Session b → a ≡ b
access-same a b e = cc

pub begun-one : (client : ℕ) (a : Asked) (s t : SessionState) (start journal whole : List Event) (x : WasBegun client a s start journal) (y : WasBegun client a t start whole) → x.named ≡ y.named → x.bytes ≡ y.bytes → s ≡ t
begun-one client a s t start journal whole x y named bytes =
    let first : snapshot_by x.named.id x.bytes ≡ Some x.snap = ap (λ (i : Id12). snapshot_by i x.bytes) (sym x.base) ∙ x.read in
    let second : snapshot_by y.named.id y.bytes ≡ Some y.snap = ap (λ (i : Id12). snapshot_by i y.bytes) (sym y.base) ∙ y.read in
    let snap : x.snap ≡ y.snap = some-same x.snap y.snap (sym first ∙ (λ i. snapshot_by ((named i).id) (bytes i)) ∙ second) in
    x.begins ∙ (λ i. begun a (named i) (snap i)) ∙ sym y.begins

pub sessions-law : SessionsLaw
sessions-law ids task client start journal whole t u id other a b named bytes boxes =
    let access : a.access ≡ b.access = access-same a.access b.access (sym a.head_is ∙ b.head_is) in
    let opened : a.opened ≡ b.opened =
    subst (λ (x : Access). (y : WasBegun client (asked_by x ids) b.opened start whole) → a.begun.named ≡ y.named → a.begun.bytes ≡ y.bytes → a.opened ≡ b.opened) access
    (λ y n m. begun-one client (asked_by a.access ids) a.opened b.opened start journal whole a.begun y n m) b.begun named bytes
    in
    subst (λ (o : SessionState). (r : PlaysAll client a.came.played o start a.came.shown a.session journal)
    → boxes_put client a.came.played o start a.came.shown a.session journal r ≡ boxes_put client b.came.played b.opened start b.came.shown b.session whole b.came.plays → a.session ≡ b.session) (sym opened)
    (λ r h. came-one client client a.came.played b.came.played a.came.line b.came.line a.came.left b.came.left b.opened a.session b.session start journal start whole a.came.shown b.came.shown a.came.message b.came.message (sym a.came.body_is ∙ b.came.body_is) r
    b.came.plays h a.came.commits b.came.commits) a.came.plays boxes
