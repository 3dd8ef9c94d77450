-- A lease that was confirmed: the ref names the base at that get.
use Rattle.std.proofs.Common.{ℕ, List, [], ◌∷◌, sym, ◌∙◌, ap, subst}
use Rattle.ice_ids.specs.declared.Id12.{Id12}
use Rattle.repo_objects.specs.Readings.{ref_of}
use Rattle.object_store.specs.declared.keys.Key.TheVariants.{Branch, Tag}
use Rattle.object_store.specs.declared.events.Op.{Op}
use Rattle.object_store.specs.declared.events.Reply.{Reply}
use Rattle.object_store.specs.declared.events.Event.{Event}
use Rattle.object_store.specs.Machine.{found}
use Rattle.object_store.proofs.Journals.{Each-back}
use Rattle.object_store.proofs.Slots.{StoodAt-append, stood-is}
use Rattle.store_api.specs.Journal.{Each, IsGood, StoodAt}
use Rattle.store_api.specs.Telling.{HasOwn}
use Rattle.repo_read.proofs.Stays.{tag-stays}
use Rattle.leases.specs.declared.witness.Witness.{Witness}
use Rattle.leases.specs.declared.witness.Witness.TheVariants as W
use Rattle.leases.specs.Telling.{NamedBy, StillNames, WasConfirmed, confirmed_at}

-- what came between is good
between : (client : ℕ) (op : Op) (reply : Reply) (start journal : List Event) → (h : HasOwn client op reply start journal) → Each IsGood [] journal → Each IsGood start h.since
between client op reply start journal h goods =
    let front = (Each-back IsGood [] h.before (h.event ∷ h.after) (subst (λ (j : List Event). Each IsGood [] j) h.is goods)).0 in
    (Each-back IsGood [] start h.since (subst (λ (j : List Event). Each IsGood [] j) h.before_is front)).1

pub confirms : (client : ℕ) (w : Witness) (base : Id12) (start journal : List Event) → Each IsGood [] journal → NamedBy w base start → (c : WasConfirmed client w start journal) → StillNames w base (confirmed_at client start journal w c)
confirms client (W.Branch tip) base start journal goods named c =
    let before : List Event = c.got.own.before in
    let stood : StoodAt before (Branch tip.branch) tip.version.0 named.0 = subst (λ (j : List Event). StoodAt j (Branch tip.branch) tip.version.0 named.0) (sym c.got.own.before_is) (StoodAt-append start c.got.own.since (Branch tip.branch) tip.version.0 named.0 named.1) in
    let here : StoodAt before (Branch tip.branch) c.stood.stored.version named.0 = subst (λ (n : ℕ). StoodAt before (Branch tip.branch) n named.0) (sym c.stood.version_is) stood in
    record { stored = c.stood.stored; stands = c.stood.stands; names = ap ref_of (stood-is before (Branch tip.branch) c.stood.stored named.0 c.stood.stands here) ∙ named.2 }
confirms client (W.Tag tag) base start journal goods named c = (
  record {
    stored = named.stored;
    stands = ap (λ (h : List Event). found h (Tag tag)) c.own.before_is ∙ tag-stays tag start c.own.since named.stored (between client _ _ start journal c.own goods) named.stands;
    names = named.names;
  },
  c.nothing,
)
