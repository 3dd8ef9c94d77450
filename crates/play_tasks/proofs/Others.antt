-- What an outcome tells stays so, whatever good events others make.
use Rattle.std.proofs.Common.{sym, ◌∙◌, ap, subst, List, ◌++◌, append_assoc}
use Rattle.ice_ids.specs.declared.drawing.AnyIds.{AnyIds}
use Rattle.object_store.specs.declared.events.Event.{Event}
use Rattle.store_api.specs.Journal.{Each}
use Rattle.store_api.specs.Callers.{Caller, IsOther}
use Rattle.store_api.proofs.PlayLaws.{IsKeptByOthers}
use Rattle.play_refs.specs.Laws.{RefsOutcomeLaw}
use Rattle.play_collect.specs.Laws.{CollectOutcomeLaw}
use Rattle.play_expire.specs.Playing.{terms_of}
use Rattle.play_expire.specs.Laws.{ExpireOutcomeLaw}
use Rattle.play_check.specs.Laws.{CheckOutcomeLaw}
use Rattle.script_calls.specs.declared.calls.Access.{Access}
use Rattle.script_calls.specs.declared.calls.Head.{Head}
use Rattle.script_calls.specs.declared.calls.Head.TheVariants.{Session, Refs, Collect, Expire, Check}
use Rattle.play_script.specs.declared.scripts.Task.{Task}
use Rattle.play_outcome.specs.declared.outcome.Outcome.{Outcome}
use Rattle.play_tasks.specs.Telling.{ToldAndReleased, TellsBy, TellsOutcome}
use Rattle.play_tasks.specs.Laws.{OutcomeLaw}
use Rattle.play_tasks.proofs.Released.{WereReleased-others}

-- the laws of what the other tasks' outcomes tell
pub record Lasting : Type 0 where
  pub refs : RefsOutcomeLaw
  pub collect : CollectOutcomeLaw
  pub expire : ExpireOutcomeLaw
  pub check : CheckOutcomeLaw

module _ (L : Lasting) (by : Caller) (start journal more : List Event) (others : Each (IsOther by) journal more) where
  -- a session's outcome told the journal when it had ended, so only the releases behind it see what others make
  released-others : (ids : AnyIds) (access : Access) (task : Task) (outcome : Outcome) → ToldAndReleased ids access task by.number start outcome journal → ToldAndReleased ids access task by.number start outcome (journal ++ more)
  released-others ids access task outcome t = record {
    session = t.session;
    ended = t.ended;
    tells = t.tells;
    since = t.since ++ more;
    is = ap (λ (h : List Event). h ++ more) t.is ∙ append_assoc t.ended t.since more;
    released = WereReleased-others by t.session.shown t.ended outcome.shown journal more others t.released;
    end_is = t.end_is;
  }

  headed-others : (head : Head) (ids : AnyIds) (task : Task) (outcome : Outcome) → TellsBy head ids task by.number start outcome journal → TellsBy head ids task by.number start outcome (journal ++ more)
  headed-others (Session access) ids task outcome t = released-others ids access task outcome t
  headed-others Refs ids task outcome t = L.refs by task.body outcome start journal more others t
  headed-others (Collect cutoff) ids task outcome t = L.collect by task.line cutoff outcome start journal more others t
  headed-others (Expire cutoff drop_branches drop_tags) ids task outcome t = L.expire by task.line (terms_of cutoff drop_branches drop_tags) outcome start journal more others t
  headed-others Check ids task outcome t = L.check by task.line outcome start journal more others t

  pub TellsOutcome-others : (ids : AnyIds) (task : Task) (outcome : Outcome) → TellsOutcome ids task by.number start outcome journal → TellsOutcome ids task by.number start outcome (journal ++ more)
  TellsOutcome-others ids task outcome t = headed-others task.head ids task outcome t

-- so it stays through a wait
pub TellsOutcome-waits : OutcomeLaw → (by : Caller) (ids : AnyIds) (task : Task) (start : List Event) → IsKeptByOthers (TellsOutcome ids task by.number start) by
TellsOutcome-waits law by ids task start outcome old new w t = subst (λ (h : List Event). TellsOutcome ids task by.number start outcome h) (sym w.is) (law by ids task outcome start old w.between w.others t)
