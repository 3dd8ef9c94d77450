-- The law of rebases.
use Rattle.repo_objects.specs.Laws.{RefLaw, SnapshotLaw}
use Rattle.conflicts.specs.declared.solving.Policy.{Policy}
use Rattle.store_api.specs.Callers.{Caller}
use Rattle.store_api.specs.Journal.{IsPolite}
use Rattle.store_api.specs.Telling.{ChangedNothing, IsGet}
use Rattle.store_api.proofs.Happening.{got-nothing}
use Rattle.session.specs.Sessions.{SessionState}
use Rattle.commit_path.proofs.Singling.{HasPutAlike-gets}
use Rattle.rebase.specs.Laws.{RebaseLaw}
use Rattle.rebase.specs.Rebasing.{rebase_program}
use Rattle.commit_path.proofs.Gets.{gets-keep_each, gets-stay}
use Rattle.commit_path.proofs.Sooner.{gets-change_nothing}
use Rattle.rebase.proofs.Quiet.{gets-put_none}
use Rattle.rebase.proofs.Kept.{rebase-kept}
use Rattle.rebase.proofs.OwnedOn.{rebase-owns}
use Rattle.rebase.proofs.Saying.{rebase-gets, rebase-leads, rebase-goes_on}

pub rebase-law : RefLaw → SnapshotLaw → (by : Caller) (policy : Policy) (s : SessionState) → RebaseLaw by policy s
rebase-law reference law by policy s = record {
  told = record {
    polite = λ journal. gets-keep_each (λ known client op. IsPolite known op) by (λ h key. tt) (rebase_program policy s) journal (rebase-gets policy s);
    leads = λ journal. rebase-leads reference law by policy s journal;
    kept = λ result start journal more others t. rebase-kept by policy s start journal more others result t;
  };
  gets = λ journal. gets-keep_each (λ known client op. IsGet op) by (λ h key. tt) (rebase_program policy s) journal (rebase-gets policy s);
  quiet = λ start middle journal m. (gets-change_nothing by.number start middle journal m, gets-put_none by.number start middle journal m);
  alike = λ t start middle journal. HasPutAlike-gets by.number t start middle journal;
  stays = λ start journal c. gets-stay (ChangedNothing by.number start) by (got-nothing by start) (rebase_program policy s) journal (rebase-gets policy s) c;
  owns = λ ids start journal o. rebase-owns reference law by policy s ids start journal o;
  goes_on = λ journal spelled opened. rebase-goes_on reference law by policy s journal spelled opened;
}
