-- The laws of openings and commits.
use Rattle.std.proofs.Common.{◌≡◌, refl, List, ◌++◌, Result, Ok, Err}
use Rattle.std.specs.Prelude.{IfOk}
use Rattle.object_store.specs.declared.events.Event.{Event}
use Rattle.store_api.specs.declared.machines.Refusal.{Refusal}
use Rattle.store_api.specs.Journal.{Each}
use Rattle.store_api.specs.Callers.{Caller, IsOther}
use Rattle.store_api.specs.Program.{Leads}
use Rattle.store_api.proofs.Programs.{Keeps-weaker, Leads-weaker, good-waits}
use Rattle.session.specs.Sessions.{SessionState}
use Rattle.session.specs.Opening.{Asked, open_program}
use Rattle.commit_path.specs.Owed.{Sessions, IsCareful}
use Rattle.commit_path.specs.Committing.{commit_program}
use Rattle.commit_path.proofs.Minding.{IsMinded}
use Rattle.store_api.specs.Telling.{ChangedNothing}
use Rattle.commit_path.specs.Opened.{OpeningTells}
use Rattle.commit_path.specs.Spelled.{IsSpelled}
use Rattle.commit_path.specs.Laws.{OpeningLaw, SessionLaw, CommitLaw, AnswersLaw}
use Rattle.commit_path.proofs.Spelling.{Spellings}
use Rattle.commit_path.proofs.Adding.{prop-added, prop-spelled, prop-opened}
use Rattle.commit_path.proofs.Editing.{node-added, added-spelled, added-opened, text-set, set-spelled, set-opened, node-dropped, dropped-spelled, dropped-opened}
use Rattle.commit_path.proofs.Setting.{chunk-set, chunk-spelled, chunk-opened, chunk-unset, without-spelled, without-opened}
use Rattle.session.specs.Sources.{MayDrawObject}
use Rattle.commit_path.proofs.Knowing.{IsOpened-append}
use Rattle.store_api.proofs.Happening.{ChangedNothing-others}
use Rattle.commit_path.proofs.Opened.{Opens, open-careful, open-leads}
use Rattle.commit_path.proofs.Answering.{commit-walks}
use Rattle.commit_path.proofs.Lasting.{CommitTells-others}
use Rattle.commit_path.proofs.Staying.{open-stays}
use Rattle.commit_path.proofs.Reading.{GetsTell, Leads-both, WasBegun-append, RefusalTells-others, open-told}

opened-both : (by : Caller) (a : Asked) (start : List Event) (answer : Result SessionState Refusal) (h : List Event) → GetsTell by.number a start answer h × Opens answer h → OpeningTells by.number a start answer h × IfOk answer IsSpelled
opened-both by a start (Ok s) h q = ((q.0.0, q.1.opened, q.0.1), q.1.spelled)
opened-both by a start (Err why) h q = (q.0, tt)

-- what an opening answers tells the journal
pub opening-told : (L : Spellings) (by : Caller) (a : Asked) (start journal : List Event) → ChangedNothing by.number start journal → Leads (λ answer h. OpeningTells by.number a start answer h × IfOk answer IsSpelled) by (open_program a) journal
opening-told L by a start journal c =
    Leads-weaker (λ answer h. GetsTell by.number a start answer h × Opens answer h) (λ answer h. OpeningTells by.number a start answer h × IfOk answer IsSpelled) (λ answer h q. opened-both by a start answer h q) by (open_program a) journal
    (Leads-both (GetsTell by.number a start) Opens by (open_program a) journal (open-told by a start journal c) (open-leads L by a journal))

pub opening-law : Spellings → OpeningLaw
opening-law L by ids a start journal c = (open-careful by ids (λ h t id. ⊥) a journal, open-stays by start a journal c, opening-told L by a start journal c)

pub session-law : SessionLaw
session-law = record {
  adds = λ fault s t path text id journal tells is_a utf8 e w o.
      let a = node-added fault s t path text id tells e in
      (added-spelled s t path text id a is_a utf8 w, added-opened s t path text id journal a o);
  texts = λ s t path text journal e w o.
      let a = text-set s t path text e in
      (set-spelled s t path text a w, set-opened s t path text journal a o);
  drops = λ s t path journal e w o.
      let a = node-dropped s t path e in
      (dropped-spelled s t path a w, dropped-opened s t path journal a o);
  sets = λ s t path index bytes journal b e w o.
      let a = chunk-set s t path index bytes e in
      (chunk-spelled s t path index bytes a b w, chunk-opened s t path index bytes journal a o);
  unsets = λ s t path index journal e w o.
      let a = chunk-unset s t path index e in
      (without-spelled s t path index a w, without-opened s t path index journal a o);
  props = λ s t name value journal n v e w o.
      let a = prop-added s t name value e in
      (prop-spelled s t name value a n v w, prop-opened s t name value journal a o);
  kept = IsOpened-append;
}

pub commit-law : Spellings → CommitLaw
commit-law L by ids s message start journal later m w o c =
    let mine : Sessions = λ h t id. (t ≡ s) × MayDrawObject s.ids id in
    let all = commit-walks L by ids mine s message later w m start (λ h id drawn. (refl, drawn)) journal o c in
    (Keeps-weaker (IsMinded ids mine s start) (IsCareful ids mine) (λ h client op k. k.0) by (commit_program s message) journal all.keeps, all.stays, all.leads)

OpeningTells-others : (by : Caller) (a : Asked) (answer : Result SessionState Refusal) (start journal more : List Event) → Each (IsOther by) journal more → OpeningTells by.number a start answer journal → OpeningTells by.number a start answer (journal ++ more)
OpeningTells-others by a (Ok s) start journal more others t = (WasBegun-append by.number a s start journal more t.0, IsOpened-append s journal more (good-waits by journal more others) t.1, ChangedNothing-others by start journal more others t.2)
OpeningTells-others by a (Err why) start journal more others t = RefusalTells-others by a start journal more others why t

pub answers-law : AnswersLaw
answers-law = record {
  opening = OpeningTells-others;
  commit = λ by s message answer start journal more others. CommitTells-others by start journal more others s message answer;
}
