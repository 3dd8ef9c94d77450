-- Texts that are added one behind the other.
use Rattle.std.proofs.Common.{◌≡◌, inl, inr, ℕ, ◌+◌, ◌-◌, ◌≤◌, Bool, true, false, List, [], ◌++◌, length, take, drop, refl, sym, ap, subst, ◌∙◌, arith, append_assoc, length-append}
use Rattle.std.proofs.lemmas.List.{append-nil, take-append-le, take-append-drop}
use Rattle.std.proofs.Math.Seq.{take-append-add, take-add}
use Rattle.ice_base.specs.Ends.{OutputAt, Rose, Appended, WroteWhole, WroteLess}
use Rattle.ice_base.proofs.Pieces.{Appended-none, Appended-append, rest-is}
use Rattle.drafts.specs.Drafts.{DraftAt, IsBlank, Passed, Kept, Failed, Took, Wrote}

-- ---- what a sink was given
wrote-none : (x : OutputAt) → WroteWhole x x []
wrote-none x = record { whole = Appended-none x.written; faults = omega arith }

wrote-on : (x y z : OutputAt) (s t : List ℕ) → WroteWhole x y s → WroteWhole y z t → WroteWhole x z (s ++ t)
wrote-on x y z s t a b = record { whole = Appended-append x.written y.written z.written s t a.whole b.whole; faults = omega (arith, a.faults, b.faults) }

rose-later : (a b c : ℕ) → a ≤ b → Rose b c → Rose a c
rose-later a b c l r = (omega (arith, l, r.0), elim r.1 [ inl s ↦ inl (omega (arith, l, s)) | inr e ↦ inr e ])

less-on : (x y z : OutputAt) (s t : List ℕ) → WroteWhole x y s → WroteLess y z t → WroteLess x z (s ++ t)
less-on x y z s t a b =
    record {
      count = length s + b.count;
      less = omega (arith, b.less, length-append s t);
      prefix = subst (λ (sent : List ℕ). Appended x.written z.written sent) (sym (take-append-add s t b.count)) (Appended-append x.written y.written z.written s (take b.count t) a.whole b.prefix);
      faults = rose-later x.faults y.faults z.faults a.faults b.faults;
    }

-- what is more is not written either
less-more : (x y : OutputAt) (s t : List ℕ) → WroteLess x y s → WroteLess x y (s ++ t)
less-more x y s t a =
    let within : a.count ≤ length s = omega (arith, a.less) in
    record {
      count = a.count;
      less = omega (arith, a.less, length-append s t);
      prefix = subst (λ (sent : List ℕ). Appended x.written y.written sent) (sym (take-append-le a.count s t within)) a.prefix;
      faults = a.faults;
    }

-- ---- nothing
none-by : (b : Bool) (d : DraftAt) (x : OutputAt) → d.unwritten ≡ b → Took d x [] d x
none-by true d x e = record { is = inl (record { before = e; draft = refl; out = refl }) }
none-by false d x e = record { is = inr (inl (record { before = e; after = e; sent = []; wrote = wrote-none x; all = append-nil d.waiting })) }

pub took_none : (d : DraftAt) (x : OutputAt) → Took d x [] d x
took_none d x = none-by d.unwritten d x refl

-- ---- one text behind another
not-both : {P : Type 0} (b : Bool) → b ≡ true → b ≡ false → P
not-both b e h = let both : true ≡ false = sym e ∙ h in absurd cc

module _ (d e f : DraftAt) (x y z : OutputAt) (s t : List ℕ) where
  passed-on : Passed d x e y → Took e y t f z → Took d x (s ++ t) f z
  passed-on p k =
      let still : e.unwritten ≡ true = ap (λ (at : DraftAt). at.unwritten) p.draft ∙ p.before in
      elim k.is [
        | inl q ↦ record { is = inl (record { before = p.before; draft = q.draft ∙ p.draft; out = q.out ∙ p.out }) }
        | inr more ↦ elim more [ inl a ↦ not-both e.unwritten still a.before | inr b ↦ not-both e.unwritten still b.before ]
      ]

  -- what was sent first, and what waited then with the text behind it, are what waited at first and both texts
  both-sent : (sent : List ℕ) → d.waiting ++ s ≡ sent ++ e.waiting → sent ++ (e.waiting ++ t) ≡ d.waiting ++ (s ++ t)
  both-sent sent all = sym (append_assoc sent e.waiting t) ∙ (ap (λ (l : List ℕ). l ++ t) (sym all) ∙ append_assoc d.waiting s t)

  kept-kept : Kept d x s e y → Kept e y t f z → Kept d x (s ++ t) f z
  kept-kept a b =
      record {
        before = a.before;
        after = b.after;
        sent = a.sent ++ b.sent;
        wrote = wrote-on x y z a.sent b.sent a.wrote b.wrote;
        all = sym (both-sent a.sent a.all) ∙ (ap (λ (l : List ℕ). a.sent ++ l) b.all ∙ sym (append_assoc a.sent b.sent f.waiting));
      }

  kept-failed : Kept d x s e y → Failed e y t f z → Failed d x (s ++ t) f z
  kept-failed a b =
      record {
        before = a.before;
        after = b.after;
        wrote = subst (λ (l : List ℕ). WroteLess x z l) (both-sent a.sent a.all) (less-on x y z a.sent (e.waiting ++ t) a.wrote b.wrote);
      }

  kept-on : Kept d x s e y → Took e y t f z → Took d x (s ++ t) f z
  kept-on a k =
      elim k.is [
        | inl q ↦ not-both e.unwritten q.before a.after
        | inr more ↦ elim more [ inl b ↦ record { is = inr (inl (kept-kept a b)) } | inr b ↦ record { is = inr (inr (kept-failed a b)) } ]
      ]

  failed-passed : Failed d x s e y → Passed e y f z → Failed d x (s ++ t) f z
  failed-passed a q =
      record {
        before = a.before;
        after = ap (λ (at : DraftAt). at.unwritten) q.draft ∙ a.after;
        wrote = subst (λ (at : OutputAt). WroteLess x at (d.waiting ++ (s ++ t))) (sym q.out) (subst (λ (l : List ℕ). WroteLess x y l) (append_assoc d.waiting s t) (less-more x y (d.waiting ++ s) t a.wrote));
      }

  failed-on : Failed d x s e y → Took e y t f z → Took d x (s ++ t) f z
  failed-on a k =
      elim k.is [
        | inl q ↦ record { is = inr (inr (failed-passed a q)) }
        | inr more ↦ elim more [ inl b ↦ not-both e.unwritten a.after b.before | inr b ↦ not-both e.unwritten a.after b.before ]
      ]

  on-by : Took d x s e y → Took e y t f z → Took d x (s ++ t) f z
  on-by h k = elim h.is [ inl p ↦ passed-on p k | inr more ↦ elim more [ inl a ↦ kept-on a k | inr a ↦ failed-on a k ] ]

pub took_on : {d e f : DraftAt} {x y z : OutputAt} {s t : List ℕ} → Took d x s e y → Took e y t f z → Took d x (s ++ t) f z
took_on h k = on-by _ _ _ _ _ _ _ _ h k

-- the same, between the facts of a text's parts
infixr 55 ◌then◌
pub ◌then◌ : {d e f : DraftAt} {x y z : OutputAt} {s t : List ℕ} → Took d x s e y → Took e y t f z → Took d x (s ++ t) f z
h then k = took_on h k

-- ---- a text waits
pub took_waiting : (d : DraftAt) (x : OutputAt) (text : List ℕ) → d.unwritten ≡ false → Took d x text (record d { waiting = d.waiting ++ text }) x
took_waiting d x text fine = record { is = inr (inl (record { before = fine; after = fine; sent = []; wrote = wrote-none x; all = refl })) }

pub took_kept : (d e : DraftAt) (x : OutputAt) (text : List ℕ) → e ≡ record d { waiting = d.waiting ++ text } → d.unwritten ≡ false → Took d x text e x
took_kept d e x text is fine = subst (λ (at : DraftAt). Took d x text at x) (sym is) (took_waiting d x text fine)

-- ---- behind a write that failed nothing is done
pub took_failed : (d : DraftAt) (x : OutputAt) (text : List ℕ) → d.unwritten ≡ true → Took d x text d x
took_failed d x text failed = record { is = inl (record { before = failed; draft = refl; out = refl }) }

-- ---- what waited was written
sent-by : (b : Bool) (d e : DraftAt) (x y : OutputAt) → e.unwritten ≡ b → d.unwritten ≡ false → Wrote x y d.waiting b → e.waiting ≡ [] → Took d x [] e y
sent-by false d e x y after fine wrote none = record { is = inr (inl (record { before = fine; after = after; sent = d.waiting; wrote = wrote; all = ap (λ (l : List ℕ). d.waiting ++ l) (sym none) })) }
sent-by true d e x y after fine wrote none = record { is = inr (inr (record { before = fine; after = after; wrote = subst (λ (l : List ℕ). WroteLess x y l) (sym (append-nil d.waiting)) wrote })) }

pub took_sent : (d e : DraftAt) (x y : OutputAt) → d.unwritten ≡ false → Wrote x y d.waiting e.unwritten → e.waiting ≡ [] → Took d x [] e y
took_sent d e x y fine wrote none = sent-by e.unwritten d e x y refl fine wrote none

-- ---- a whole text
fine-by : (b : Bool) (x y : OutputAt) (text : List ℕ) → b ≡ false → WroteWhole x y text → Wrote x y text b
fine-by false x y text e w = w
fine-by true x y text e w = absurd cc

failed-by : (b : Bool) (x y : OutputAt) (text : List ℕ) → b ≡ true → WroteLess x y text → Wrote x y text b
failed-by true x y text e w = w
failed-by false x y text e w = absurd cc

module _ (d e : DraftAt) (x y : OutputAt) (text : List ℕ) (blank : IsBlank d) where
  -- nothing waited before it
  alone : d.waiting ++ (text ++ []) ≡ text
  alone = ap (λ (l : List ℕ). l ++ (text ++ [])) blank.none ∙ append-nil text

  whole-kept : Kept d x (text ++ []) e y → (e.unwritten ≡ false → e.waiting ≡ []) → WroteWhole x y text
  whole-kept a none =
      let is : text ≡ a.sent = sym alone ∙ (a.all ∙ (ap (λ (l : List ℕ). a.sent ++ l) (none a.after) ∙ append-nil a.sent)) in
      subst (λ (l : List ℕ). WroteWhole x y l) (sym is) a.wrote

  pub whole-by : Took d x (text ++ []) e y → (e.unwritten ≡ false → e.waiting ≡ []) → Wrote x y text e.unwritten
  whole-by h none =
      elim h.is [
        | inl p ↦ not-both d.unwritten p.before blank.fine
        | inr more ↦ elim more [
          | inl a ↦ fine-by e.unwritten x y text a.after (whole-kept a none)
          | inr b ↦ failed-by e.unwritten x y text b.after (subst (λ (l : List ℕ). WroteLess x y l) alone b.wrote)
        ]
      ]

-- ---- the same text, otherwise told
pub took_as : {d e : DraftAt} {x y : OutputAt} {s t : List ℕ} → s ≡ t → Took d x s e y → Took d x t e y
took_as {d} {e} {x} {y} is h = subst (λ (l : List ℕ). Took d x l e y) is h

-- ---- a text, piece by piece
pub next-piece : (bytes : List ℕ) (at count : ℕ) → (take at bytes ++ []) ++ take count (take (length bytes - at) (drop at bytes)) ≡ take (at + count) bytes
next-piece bytes at count =
    ap (λ (l : List ℕ). l ++ take count (take (length bytes - at) (drop at bytes))) (append-nil (take at bytes))
    ∙ (ap (λ (l : List ℕ). take at bytes ++ take count l) (rest-is bytes at) ∙ sym (take-add at count bytes))

pub last-piece : (bytes : List ℕ) (at : ℕ) → (take at bytes ++ []) ++ drop at bytes ≡ bytes
last-piece bytes at = ap (λ (l : List ℕ). l ++ drop at bytes) (append-nil (take at bytes)) ∙ take-append-drop at bytes
