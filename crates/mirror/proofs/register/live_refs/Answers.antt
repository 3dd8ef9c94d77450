use Rattle.std.proofs.Common.{◌≡◌, ℕ, ◌+◌, ◌<◌, List, ◌∷◌, ◌++◌, length, get_or, drop, sym, ap, ◌∙◌, subst}
use Rattle.std.proofs.lemmas.List.{at_drop_more, take_rest}
use Rattle.object_store.specs.declared.events.Entry.{Entry}
use Rattle.live_refs.specs.Live.{live}
use Rattle.mirror_reports.specs.declared.outcome.RefId.{RefId}
use Rattle.mirror.specs.Programs.{ref_ids}
use Rattle.mirror.proofs.register.live_refs.Goals as goal

abbrev refs_of : List Entry → List RefId
refs_of entries = ref_ids (live entries)

live-turn : (entries behind : List Entry) (place : ℕ) (entry : Entry) (names more : List RefId) → place < length entries → entry ≡ get_or entries place entry → behind ≡ drop (place + 1) entries → more ++ refs_of behind ≡ names ++ refs_of (entry ∷ behind) → names ++ refs_of (drop place entries) ≡ refs_of entries → more ++ refs_of (drop (place + 1) entries) ≡ refs_of entries
live-turn entries behind place entry names more l here rest e invariant =
    let a = subst (λ (b : List Entry). more ++ refs_of b ≡ names ++ refs_of (entry ∷ b)) rest e in
    let s = ap (λ (x : Entry). names ++ refs_of (x ∷ drop (place + 1) entries)) here in
    let t = at_drop_more (λ (left : List Entry). names ++ refs_of left) entries place entry l in
    a ∙ (s ∙ (sym t ∙ invariant))

pub loop-place-preserved : goal.loop-place-preserved
loop-place-preserved c =
    live-turn c.args.entries.now _ c.loop-place.place c.index-entries-place.result c.loop-place.names.items c.enter_live.new.names.items c.loop-place-test.true c.index-entries-place.is (take_rest c.args.entries.now (c.loop-place.place + 1)) c.in_ok-enter_live.ensures c.loop-place.invariant
