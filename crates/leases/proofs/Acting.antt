-- A step of a player that asks an operation outright.
use Rattle.std.proofs.Common.{inl, inr, Bool, true≢false, refl, sym, ◌∙◌, Result, Ok, Err}
use Rattle.object_store.specs.declared.events.Op.{Op}
use Rattle.object_store.specs.declared.events.Reply.{Reply}
use Rattle.object_store.specs.declared.events.Reply.TheVariants.{Failed as Reply_failed}
use Rattle.object_store.specs.declared.events.StoreFault.{StoreFault}
use Rattle.object_store.specs.declared.events.StoreFault.TheVariants.{Failed, NoMemory}
use Rattle.store_api.specs.Callers.{View, Called, Fits}
use Rattle.store_api.specs.Plays.{Play, Ask, Acts}
use Rattle.store_api.proofs.Programs.{made-done}
use Rattle.leases.specs.inside.Answered.{Follows, CalmAfter}

module _ {A B : Type 0} (failed : B → Bool) (wrap : A → Reply) (op : Op) (starved : Play B) (next : Reply → Play B) (old new : View) (q : Play B) where
  pub asked-acts : (answer : Result A StoreFault) → ((a : A) → Fits op (wrap a)) → ((done : Bool) → Fits op (Reply_failed done)) → Called wrap op answer old new
      → Follows wrap starved next answer q → CalmAfter failed answer q → Acts failed old new (Ask op starved next) q
  asked-acts (Ok a) fits fails c f calm = record {
    same = c.same;
    blames = (c.counted, λ doomed. absurd (true≢false (sym doomed ∙ calm)));
    went = inl (record { op = op; starved = starved; next = next; reply = wrap a; asks = refl; fits = fits a; made = c.did; comes = f });
  }
  asked-acts (Err Failed) fits fails c f calm =
      let made = made-done wrap old.caller op old.seen new.seen old.caller.tells c.did in
      record {
        same = c.same;
        blames = (c.counted.0, λ doomed. inr c.counted);
        went = inl (record { op = op; starved = starved; next = next; reply = Reply_failed made.0; asks = refl; fits = fails made.0; made = made.1; comes = f made.0 });
      }
  asked-acts (Err NoMemory) fits fails c f calm = record {
    same = c.same;
    blames = (c.counted, λ doomed. absurd (true≢false (sym doomed ∙ calm)));
    went = inr (record { op = op; starved = starved; next = next; asks = refl; waits = c.did; comes = f });
  }
