-- What a client put itself was put where nothing stood.
use Rattle.std.proofs.Common.{◌≡◌, inl, inr, ℕ, List, [], length, refl, ap, subst}
use Rattle.std.specs.Prelude.{Option, Some, None}
use Rattle.object_store.specs.declared.keys.Key.{Key}
use Rattle.object_store.specs.declared.keys.Why.TheVariants.{Set}
use Rattle.object_store.specs.declared.events.Version.{Version}
use Rattle.object_store.specs.declared.events.New.TheVariants.{Done as New_done}
use Rattle.object_store.specs.declared.events.Op.{Op}
use Rattle.object_store.specs.declared.events.Op.TheVariants.{PutNew}
use Rattle.object_store.specs.declared.events.Reply.{Reply}
use Rattle.object_store.specs.declared.events.Reply.TheVariants.{New as Is_new}
use Rattle.object_store.specs.declared.events.Event.{Event}
use Rattle.object_store.specs.Machine.{Stored, found, new_of, was_done, IsHonest, UnlessFailed}
use Rattle.object_store.proofs.Journals.{Each-at}
use Rattle.store_api.specs.Journal.{Each, IsGood, IsGoodJournal}
use Rattle.reach.specs.Own.{PutItself, HasPut, OwnLaw}

new-free : (n now : ℕ) (o : Option Stored) (version : Version) (t : ℕ) → Is_new (New_done version t) ≡ Is_new (new_of n now o) → o ≡ None
new-free n now None version t e = refl
new-free n now (Some s) version t e = cc

-- what the client put itself was put
pub was-put : (client : ℕ) (key : Key) (start journal : List Event) → IsGoodJournal journal → PutItself client key start journal → HasPut client key start journal
was-put client key start journal good p =
    let own = p.put.own in
    let at : IsGood own.before own.event = Each-at IsGood [] own.before own.event own.after (subst (λ (j : List Event). Each IsGood [] j) own.is good) in
    let by_op : UnlessFailed (IsHonest (found own.before) (length own.before) own.event.time (PutNew key p.bytes Set)) own.event.reply = subst (λ (o : Op). UnlessFailed (IsHonest (found own.before) (length own.before) own.event.time o) own.event.reply) own.op_is at.legal.answered in
    let honest = subst (λ (r : Reply). UnlessFailed (IsHonest (found own.before) (length own.before) own.event.time (PutNew key p.bytes Set)) r) own.reply_is by_op in
    record {
      before = own.before;
      since = own.since;
      before_is = own.before_is;
      event = own.event;
      after = own.after;
      is = own.is;
      client_is = own.client_is;
      bytes = p.bytes;
      why = Set;
      op_is = own.op_is;
      done = ap was_done own.reply_is;
      free = new-free (length own.before) own.event.time (found own.before key) p.put.version p.put.now honest;
    }

pub own-law : OwnLaw
own-law = record {
  puts = was-put;
  snapshots = λ client base id start journal good own key h. elim (own key h) [ inl before ↦ inl before | inr put ↦ inr (was-put client key start journal good put) ];
}
