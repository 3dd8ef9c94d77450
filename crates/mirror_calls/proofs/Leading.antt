-- A mirror in both journals, whatever others do.
use Rattle.std.proofs.Common.{◌≡◌, List, [], ◌∷◌, ◌++◌, refl, ap, subst}
use Rattle.std.specs.Prelude.{IsTrue}
use Rattle.held_manifest.specs.Laws.{ObjectsLaw}
use Rattle.repo_objects.specs.Laws.{SnapshotLaw, RefLaw}
use Rattle.object_store.specs.declared.events.Op.{Op}
use Rattle.object_store.specs.declared.events.Reply.{Reply}
use Rattle.object_store.specs.declared.events.Event.{Event}
use Rattle.store_api.specs.Callers.{Caller}
use Rattle.two_stores.specs.declared.side.Side.{Side}
use Rattle.two_stores.specs.declared.side.Side.TheVariants.{From, To}
use Rattle.two_stores.specs.Sides.{Both, at_side, OthersCame}
use Rattle.two_stores.specs.Pairs.{Done, Ask, StepsOn, KeepsPair, LeadsPair}
use Rattle.two_stores.proofs.PairLaws.{KeepsPair-weaker}
use Rattle.mirror_reports.specs.declared.outcome.MirrorEnd.{MirrorEnd}
use Rattle.mirror.specs.Programs.{Answer, mirror_program}
use Rattle.mirror_calls.specs.Deeds.{Deed}
use Rattle.mirror_calls.specs.Owed.{MayDo}
use Rattle.mirror_calls.specs.Journals.{GrewBy, AreOwed, AreDeeds}
use Rattle.mirror_calls.specs.Laws.{PoliteOn, IsOwed, MirrorTells, MirrorLaw}
use Rattle.mirror_calls.proofs.Later.{with-deed}
use Rattle.mirror_calls.proofs.Going.{Goes, goes-mirror}
use Rattle.mirror_calls.proofs.Beside.{goes-begin, goes-waits, goes-makes, goes-still}
use Rattle.mirror_calls.proofs.Polite.{side-polite}

-- ---- each was owed
-- where a place of a list with one more element is: its end, or a place of the list
data Split (xs : List Deed) (d : Deed) (before after : List Deed) (e : Deed) : Type 0 where
  at_end : xs ≡ before → d ≡ e → Split xs d before after e
  inside : (rest : List Deed) → xs ≡ before ++ e ∷ rest → Split xs d before after e

nowhere : (before : List Deed) (e : Deed) (after : List Deed) → [] ≡ before ++ e ∷ after → ⊥
nowhere [] e after x = cc
nowhere (b ∷ before) e after x = cc

split : (xs : List Deed) (d : Deed) (before after : List Deed) (e : Deed) → xs ++ d ∷ [] ≡ before ++ e ∷ after → Split xs d before after e
split [] d [] after e x = let same : d ≡ e = cc in at_end refl same
split [] d (b ∷ before) after e x = let none : [] ≡ before ++ e ∷ after = cc in absurd (nowhere before e after none)
split (y ∷ xs) d [] after e x = let same : y ≡ e = cc in inside xs (ap (λ (z : Deed). z ∷ xs) same)
split (y ∷ xs) d (b ∷ before) after e x =
    let rest : xs ++ d ∷ [] ≡ before ++ e ∷ after = cc in
    let same : y ≡ b = cc in
    one-on (split xs d before after e rest) same
  where
    one-on : Split xs d before after e → y ≡ b → Split (y ∷ xs) d (b ∷ before) after e
    one-on (at_end s t) same = at_end (λ i. same i ∷ s i) t
    one-on (inside rest s) same = inside rest (λ i. same i ∷ s i)

owed-more : (deeds : List Deed) (side : Side) (op : Op) (reply : Reply) → AreOwed deeds → MayDo deeds side op → AreOwed (with-deed deeds side op reply)
owed-more deeds side op reply owed may before after e x = go (split deeds (record { side = side; op = op; reply = reply }) before after e x)
  where
    go : Split deeds (record { side = side; op = op; reply = reply }) before after e → MayDo before e.side e.op
    go (at_end s t) = subst (λ (ds : List Deed). MayDo ds e.side e.op) s (subst (λ (d : Deed). MayDo deeds d.side d.op) t may)
    go (inside rest s) = owed before rest e s

module _ (law : RefLaw) (by : Both Caller) (start : Both (List Event)) where
  -- ---- steps
  are-begun : AreDeeds by start start []
  are-begun = record { on = λ side t. goes-begin (at_side side by).number (at_side side start) side; owed = λ before after e x. absurd (nowhere before e after x) }

  are-step : (deeds : List Deed) (side : Side) (op : Op) (reply : Reply) (old new : Both (List Event)) → MayDo deeds side op → StepsOn by side op reply old new → AreDeeds by start old deeds → AreDeeds by start new (with-deed deeds side op reply)
  are-step deeds side op reply old new may s a = record { on = on_side side s may; owed = owed-more deeds side op reply a.owed may }
    where
      on_side : (at : Side) → StepsOn by at op reply old new → MayDo deeds at op → (x : Side) → IsTrue (at_side x by).tells → GrewBy (at_side x by).number (at_side x start) (at_side x new) x (with-deed deeds at op reply)
      on_side From s m From t = goes-makes by.from start.from From deeds op reply old.from new.from (s.made t) (λ g. side-polite law by.from.number start.from (s.made t).middle From deeds op m g) (a.on From t)
      on_side From s m To t = goes-still by.to.number start.to From deeds op reply old.to new.to s.stays (a.on To t)
      on_side To s m From t = goes-still by.from.number start.from To deeds op reply old.from new.from s.stays (a.on From t)
      on_side To s m To t = goes-makes by.to start.to To deeds op reply old.to new.to (s.made t) (λ g. side-polite law by.to.number start.to (s.made t).middle To deeds op m g) (a.on To t)

  -- ---- from what goes to what keeps and leads
  keeps : (p : Answer) (deeds : List Deed) (seen : Both (List Event)) → Goes p deeds → AreDeeds by start seen deeds → KeepsPair (IsOwed by start) by p seen
  unfolding KeepsPair Goes
  keeps (Done end) deeds seen g a = tt
  keeps (Ask side op starved next) deeds seen g a = ((deeds, a, g.0), λ reply new s. keeps (next reply) (with-deed deeds side op reply) new (g.2 reply s.fits).1 (are-step deeds side op reply seen new g.0 s a))

  leads : (p : Answer) (deeds : List Deed) (seen : Both (List Event)) → Goes p deeds → AreDeeds by start seen deeds → LeadsPair (MirrorTells by start) by p seen
  unfolding LeadsPair Goes
  leads (Done end) deeds seen g a = (deeds, a, g)
  leads (Ask side op starved next) deeds seen g a = (
    (deeds, a, g.1),
    λ reply new s.
        let more : List Deed = with-deed deeds side op reply in
        let b : AreDeeds by start new more = are-step deeds side op reply seen new g.0 s a in
        (λ still. (more, b, (g.2 reply s.fits).0 still), leads (next reply) more new (g.2 reply s.fits).1 b),
  )

  -- others leave it
  are-others : (deeds : List Deed) (old new : Both (List Event)) → OthersCame by old new → AreDeeds by start old deeds → AreDeeds by start new deeds
  are-others deeds old new w a = record { on = λ side t. goes-waits (at_side side by) (at_side side start) side deeds (at_side side old) (at_side side new) (w side t) (a.on side t); owed = a.owed }

  tells-kept : (end : MirrorEnd) (old new : Both (List Event)) → OthersCame by old new → MirrorTells by start end old → MirrorTells by start end new
  tells-kept end old new w (deeds, a, r) = (deeds, are-others deeds old new w a, r)

  polite-owed : (side : Side) (seen : Both (List Event)) (op : Op) → IsOwed by start side seen op → PoliteOn by side seen op
  polite-owed side seen op (deeds, a, may) t = side-polite law (at_side side by).number (at_side side start) (at_side side seen) side deeds op may (a.on side t)

-- exact mirror
pub mirrors-exactly : SnapshotLaw → ObjectsLaw → RefLaw → MirrorLaw
mirrors-exactly snapshots objects names by start =
    let goes : Goes mirror_program [] = goes-mirror snapshots objects in
    let owed = keeps names by start mirror_program [] start goes (are-begun names by start) in
    record {
      polite = KeepsPair-weaker (IsOwed by start) (PoliteOn by) (polite-owed names by start) by mirror_program start owed;
      owed = owed;
      leads = leads names by start mirror_program [] start goes (are-begun names by start);
      kept = tells-kept names by start;
    }
