use Rattle.std.proofs.Common.{◌≡◌, ℕ, ◌+◌, ◌<◌, List, ◌∷◌, ◌++◌, length, get_or, drop, sym, ap, ◌∙◌, subst}
use Rattle.std.proofs.lemmas.List.{at_drop_more, take_rest}
use Rattle.object_store.specs.declared.keys.Key.{Key}
use Rattle.object_store.specs.declared.events.Entry.{Entry}
use Rattle.live_refs.specs.Live.{live}
use Rattle.expiry.proofs.register.live_keys.Goals as goal

live-turn : (entries behind : List Entry) (place : ℕ) (entry : Entry) (keys more : List Key) → place < length entries → entry ≡ get_or entries place entry → behind ≡ drop (place + 1) entries → more ++ live behind ≡ keys ++ live (entry ∷ behind) → keys ++ live (drop place entries) ≡ live entries → more ++ live (drop (place + 1) entries) ≡ live entries
live-turn entries behind place entry keys more l here rest e invariant =
    let a = subst (λ (b : List Entry). more ++ live b ≡ keys ++ live (entry ∷ b)) rest e in
    let s = ap (λ (x : Entry). keys ++ live (x ∷ drop (place + 1) entries)) here in
    let t = at_drop_more (λ (left : List Entry). keys ++ live left) entries place entry l in
    a ∙ (s ∙ (sym t ∙ invariant))

pub loop-place-preserved : goal.loop-place-preserved
loop-place-preserved c =
    live-turn c.args.entries.now _ c.loop-place.place c.index-entries-place.result c.loop-place.keys.items c.enter_live.new.keys.items c.loop-place-test.true c.index-entries-place.is (take_rest c.args.entries.now (c.loop-place.place + 1)) c.in_ok-enter_live.ensures c.loop-place.invariant
