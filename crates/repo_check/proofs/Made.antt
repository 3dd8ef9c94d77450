-- What one more finding changes, and what stays.
use Rattle.std.proofs.Common.{◌≡◌, ◌⊎◌, inl, inr, ℕ, ◌+◌, List, [], ◌∷◌, ◌++◌, refl, sym, ◌∙◌, ap, subst, arith}
use Rattle.std.specs.Prelude.{Some, Result, Ok, Err}
use Rattle.std.proofs.lemmas.List.Elements.{Contains-append_left, Contains-push, Contains-push_cases}
use Rattle.ice_ids.specs.declared.Id12.{Id12}
use Rattle.ice_ids.proofs.Elements.{first-is, later-is, first-or-later, none-in}
use Rattle.snapshot_file.specs.declared.snapshot.SnapshotFile.{SnapshotFile}
use Rattle.object_store.specs.declared.events.Got.{Got}
use Rattle.object_store.specs.declared.events.Reply.{Reply}
use Rattle.object_store.specs.declared.events.Reply.TheVariants.{Got as Is_got}
use Rattle.check_reports.specs.declared.faults.FaultKind.{FaultKind}
use Rattle.check_reports.specs.declared.faults.CheckFault.{CheckFault}
use Rattle.intact.specs.Told.{found_snapshot}
use Rattle.intact.specs.Visits.{Visit, Snap, leads}
use Rattle.intact.specs.Intact.{Made, WasAnswered, WasVisited, Named, HasParent, IsAbove}
use Rattle.intact.specs.Intact as intact
use Rattle.repo_check.specs.Findings.{Finding, Makes, Comes_back, made_of, Deed, deed_of, deeds_of, with_finding, faults_from}
use Rattle.repo_check.specs.Exact.{IsOfObject, AreOnce, one_for_snapshot, snapshot_gets}

-- ---- lists of findings
pub made-more : (f : List Finding) (one : Made) → made_of (f ++ Makes one ∷ []) ≡ made_of f ++ one ∷ []
made-more [] one = refl
made-more (Makes x ∷ f) one = ap (λ (l : List Made). x ∷ l) (made-more f one)
made-more (Comes_back id ∷ f) one = made-more f one

pub made-back : (f : List Finding) (id : Id12) → made_of (f ++ Comes_back id ∷ []) ≡ made_of f
made-back [] id = refl
made-back (Makes x ∷ f) id = ap (λ (l : List Made). x ∷ l) (made-back f id)
made-back (Comes_back x ∷ f) id = made-back f id

pub deeds-more : (m : List Made) (one : Made) → deeds_of (m ++ one ∷ []) ≡ deeds_of m ++ deed_of one ∷ []
deeds-more [] one = refl
deeds-more (x ∷ m) one = ap (λ (l : List Deed). deed_of x ∷ l) (deeds-more m one)

pub faults-more : (faults : List CheckFault) (f : List Finding) (x : Finding) → faults_from faults (f ++ x ∷ []) ≡ with_finding x (faults_from faults f)
faults-more faults [] x = refl
faults-more faults (y ∷ f) x = faults-more (with_finding y faults) f x

pub gets-more : (m : List Made) (one : Made) → snapshot_gets (m ++ one ∷ []) ≡ snapshot_gets m + one_for_snapshot one.visit
gets-more [] one = omega arith
gets-more (x ∷ m) one = let rest = gets-more m one in omega (arith, rest)

-- ---- what was told
told-first : (one : Made) (m : List Made) → WasAnswered (one ∷ m) one.visit one.reply
told-first one m = record { one = one; among = first-is one m; visit_is = refl; reply_is = refl }

told-later : (one : Made) (m : List Made) (v : Visit) (r : Reply) → WasAnswered m v r → WasAnswered (one ∷ m) v r
told-later one m v r t = record { one = t.one; among = later-is one t.one m t.among; visit_is = t.visit_is; reply_is = t.reply_is }

pub told-here : (m : List Made) (one : Made) → WasAnswered (m ++ one ∷ []) one.visit one.reply
told-here m one = record { one = one; among = Contains-push m one; visit_is = refl; reply_is = refl }

-- what was told stays told
abbrev pub Grows : List Made → List Made → Type 0
Grows m n = (v : Visit) (r : Reply) → WasAnswered m v r → WasAnswered n v r

pub grows-more : (m : List Made) (one : Made) → Grows m (m ++ one ∷ [])
grows-more m one v r t = record { one = t.one; among = Contains-append_left m (one ∷ []) t.one t.among; visit_is = t.visit_is; reply_is = t.reply_is }

pub told-cases : (m : List Made) (one : Made) (v : Visit) (r : Reply) → WasAnswered (m ++ one ∷ []) v r → WasAnswered m v r ⊎ ((one.visit ≡ v) × (one.reply ≡ r))
told-cases m one v r t = elim (Contains-push_cases m one t.one t.among) [
  | inl a ↦ inl (record { one = t.one; among = a; visit_is = t.visit_is; reply_is = t.reply_is })
  | inr e ↦ inr (ap (λ (x : Made). x.visit) e ∙ t.visit_is, ap (λ (x : Made). x.reply) e ∙ t.reply_is)
]

pub made-grows : (m n : List Made) (v : Visit) → Grows m n → WasVisited m v → WasVisited n v
made-grows m n v g h = record { reply = h.reply; told = g v h.reply h.told }

pub made-here : (m : List Made) (one : Made) (v : Visit) → one.visit ≡ v → WasVisited (m ++ one ∷ []) v
made-here m one v e = record { reply = one.reply; told = subst (λ (x : Visit). WasAnswered (m ++ one ∷ []) x one.reply) e (told-here m one) }

pub made-cases : (m : List Made) (one : Made) (v : Visit) → WasVisited (m ++ one ∷ []) v → WasVisited m v ⊎ (one.visit ≡ v)
made-cases m one v h = elim (told-cases m one v h.reply h.told) [ inl t ↦ inl (record { reply = h.reply; told = t }) | inr e ↦ inr e.0 ]

pub made-old : (m : List Made) (one : Made) (v : Visit) → (one.visit ≡ v → ⊥) → WasVisited (m ++ one ∷ []) v → WasVisited m v
made-old m one v n h = elim (made-cases m one v h) [ inl a ↦ a | inr e ↦ absurd (n e) ]

pub named-grows : (m n : List Made) (v : Visit) → Grows m n → Named m v → Named n v
named-grows m n v g intact.branches = intact.branches
named-grows m n v g intact.tags = intact.tags
named-grows m n v g (intact.behind h t c) = intact.behind (named-grows m n _ g h) (g _ _ t) c

pub parent-grows : (m n : List Made) (a b : Id12) → Grows m n → HasParent m a b → HasParent n a b
parent-grows m n a b g h = record { got = h.got; answered = g (Snap a) (Is_got h.got) h.answered; file = h.file; read = h.read; is = h.is }

pub above-grows : (m n : List Made) (a b : Id12) → Grows m n → IsAbove m a b → IsAbove n a b
above-grows m n a b g (intact.next h) = intact.next (parent-grows m n a b g h)
above-grows m n a b g (intact.further h i) = intact.further (parent-grows m n _ _ g h) (above-grows m n _ _ g i)

-- a chain, and one parent more
pub above-then : (m : List Made) (a b c : Id12) → IsAbove m a b → HasParent m b c → IsAbove m a c
above-then m a b c (intact.next h) i = intact.further h (intact.next i)
above-then m a b c (intact.further h g) i = intact.further h (above-then m _ b c g i)

-- ---- made once
pub once-more : (m : List Made) (one : Made) → AreOnce m → (IsOfObject one.visit → WasVisited m one.visit → ⊥) → AreOnce (m ++ one ∷ [])
once-more [] one a n = (λ o h. none-in h.told.one h.told.among, tt)
once-more (x ∷ m) one a n = (here, once-more m one a.1 (λ o h. n o (record { reply = h.reply; told = told-later x m one.visit h.reply h.told })))
  where
    here : IsOfObject x.visit → WasVisited (m ++ one ∷ []) x.visit → ⊥
    here o h = elim (made-cases m one x.visit h) [
      | inl b ↦ a.0 o b
      | inr e ↦ n (subst IsOfObject (sym e) o) (record { reply = x.reply; told = subst (λ (v : Visit). WasAnswered (x ∷ m) v x.reply) (sym e) (told-first x m) })
    ]

tail-told : (one : Made) (m : List Made) (v : Visit) (r : Reply) → WasAnswered (one ∷ m) v r → ((one.visit ≡ v) × (one.reply ≡ r)) ⊎ WasAnswered m v r
tail-told one m v r t = elim (first-or-later one t.one m t.among) [
  | inl e ↦ inl (ap (λ (x : Made). x.visit) e ∙ t.visit_is, ap (λ (x : Made). x.reply) e ∙ t.reply_is)
  | inr a ↦ inr (record { one = t.one; among = a; visit_is = t.visit_is; reply_is = t.reply_is })
]

pub told-once : (m : List Made) (v : Visit) (r s : Reply) → AreOnce m → IsOfObject v → WasAnswered m v r → WasAnswered m v s → r ≡ s
told-once [] v r s a o t u = absurd (none-in t.one t.among)
told-once (x ∷ m) v r s a o t u = both (λ b c. told-once m v r s a.1 o b c) (tail-told x m v r t) (tail-told x m v s u)
  where
    both : (WasAnswered m v r → WasAnswered m v s → r ≡ s) → ((x.visit ≡ v) × (x.reply ≡ r)) ⊎ WasAnswered m v r → ((x.visit ≡ v) × (x.reply ≡ s)) ⊎ WasAnswered m v s → r ≡ s
    both again (inl b) (inl c) = sym b.1 ∙ c.1
    both again (inl b) (inr c) = absurd (a.0 (subst IsOfObject (sym b.0) o) (record { reply = s; told = subst (λ (y : Visit). WasAnswered m y s) (sym b.0) c }))
    both again (inr b) (inl c) = absurd (a.0 (subst IsOfObject (sym c.0) o) (record { reply = r; told = subst (λ (y : Visit). WasAnswered m y r) (sym c.0) b }))
    both again (inr b) (inr c) = again b c

-- a snapshot has one parent at most
some-same : (a b : Id12) → Some a ≡ Some b → a ≡ b
some-same a b e = cc

pub one-parent : (m : List Made) (a b c : Id12) → AreOnce m → HasParent m a b → HasParent m a c → b ≡ c
one-parent m a b c o h i =
    let same_reply : Is_got h.got ≡ Is_got i.got = told-once m (Snap a) (Is_got h.got) (Is_got i.got) o tt h.answered i.answered in
    let same_got : h.got ≡ i.got = cc in
    let read : found_snapshot a i.got ≡ Ok h.file = ap (found_snapshot a) (sym same_got) ∙ h.read in
    let both : ◌≡◌ {A = Result SnapshotFile FaultKind} (Ok h.file) (Ok i.file) = sym read ∙ i.read in
    let same_file : h.file ≡ i.file = cc in
    some-same b c (sym h.is ∙ (ap (λ (s : SnapshotFile). s.parent) same_file ∙ i.is))
