use Rattle.std.proofs.Common.{◌≡◌, ◌∙◌, ℕ, cond, Option, Some, None, sym, ap, rules}
use Rattle.object_store.specs.declared.keys.Key.{Key}
use Rattle.object_store.specs.Machine.{same_key}
use Rattle.mem_store.specs.KeptEvents.{key_changed}
use Rattle.mem_store.specs.Places.{place_in, place_left}
use Rattle.mem_store.proofs.Changing.{after-some, after-same, same-option, OnOk-then}
use Rattle.mem_store.proofs.index.Index.follow.Goals as goal

pub returns-then-eq-clause-ok : goal.returns-then-eq-clause-ok
returns-then-eq-clause-ok c =
    let f : Key → Option ℕ = place_in c.args.self.now in
    let on : key_changed c.args.op.now ≡ Some c.in-Some.key.now = search rules in
    let left : c.left_by-left.result ≡ cond c.args.done (place_left c.args.place c.args.op.now (f c.in-Some.key.now)) (f c.in-Some.key.now) = c.left_by-left.ensures ∙ ap (λ (at : Option ℕ). cond c.args.done (place_left c.args.place c.args.op.now at) at) c.place-at.ensures in
    let same : c.left_by-left.result ≡ f c.in-Some.key.now = same-option c.left_by-left.result c.place-at.result (sym c.eq.ensures ∙ c.if-eq.true) ∙ c.place-at.ensures in
    λ q. after-same f c.args.place c.args.op.now c.args.done c.in-Some.key.now q c.left_by-left.result on left same

pub returns-in-None-clause-ok : goal.returns-in-None-clause-ok
returns-in-None-clause-ok c =
    let f : Key → Option ℕ = place_in c.args.self.now in
    let on : key_changed c.args.op.now ≡ Some c.in-Some.key.now = search rules in
    let left : None ≡ cond c.args.done (place_left c.args.place c.args.op.now (f c.in-Some.key.now)) (f c.in-Some.key.now) = sym c.in-None.is ∙ (c.left_by-left.ensures ∙ ap (λ (at : Option ℕ). cond c.args.done (place_left c.args.place c.args.op.now at) at) c.place-at.ensures) in
    λ q. c.leave.ensures q ∙ after-some f c.args.place c.args.op.now c.args.done c.in-Some.key.now q None on left

pub returns-in_ok-copy-in-Some-left-clause-ok : goal.returns-in_ok-copy-in-Some-left-clause-ok
returns-in_ok-copy-in-Some-left-clause-ok c =
    let k : Key = c.in-Some.key.now in
    let place : ℕ = c.in-Some-left.place in
    let f : Key → Option ℕ = place_in c.args.self.now in
    let on : key_changed c.args.op.now ≡ Some k = search rules in
    let named : c.in_ok-copy-in-Some-left.field-0 ≡ k = search rules in
    let left : Some place ≡ cond c.args.done (place_left c.args.place c.args.op.now (f k)) (f k) = sym c.in-Some-left.is ∙ (c.left_by-left.ensures ∙ ap (λ (at : Option ℕ). cond c.args.done (place_left c.args.place c.args.op.now at) at) c.place-at.ensures) in
    OnOk-then c.enter.result c.enter.ensures.ok (λ entered. λ q. entered q
    ∙ (ap (λ (x : Key). cond (same_key x q) (Some place) (f q)) named
    ∙ after-some f c.args.place c.args.op.now c.args.done k q (Some place) on left))
