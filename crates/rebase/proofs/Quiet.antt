-- A client that makes gets alone puts no snapshot.
use Rattle.std.proofs.Common.{ℕ, List, ◌++◌, sym, ◌∙◌, ap, subst, append_assoc}
use Rattle.object_store.specs.declared.events.Op.{Op}
use Rattle.object_store.specs.declared.events.Event.{Event}
use Rattle.store_api.specs.Journal.{Each}
use Rattle.store_api.specs.Telling.{GetsAlone, MadeGets}
use Rattle.object_store.proofs.Journals.{Each-append, Each-weaker}
use Rattle.commit_path.specs.Single.{HasPutNone, PutsNone, PutsSnapshot}
use Rattle.commit_path.proofs.Gets.{is-get}

got-puts_none : (client : ℕ) (before : List Event) (event : Event) → GetsAlone client before event → PutsNone client before event
got-puts_none client before event g k puts = let get = is-get event.op (g k) in subst (λ (op : Op). PutsSnapshot op) (sym get.1) puts

pub gets-put_none : (client : ℕ) (start middle journal : List Event) → MadeGets client middle journal → HasPutNone client start middle → HasPutNone client start journal
gets-put_none client start middle journal m c = record {
  more = c.more ++ m.more;
  is = m.is ∙ (ap (λ (h : List Event). h ++ m.more) c.is ∙ append_assoc start c.more m.more);
  each = Each-append (PutsNone client) start c.more m.more c.each
      (subst (λ (h : List Event). Each (PutsNone client) h m.more) c.is
      (Each-weaker (GetsAlone client) (PutsNone client) (got-puts_none client) middle m.more m.each));
}
