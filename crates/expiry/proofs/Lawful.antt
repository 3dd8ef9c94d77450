-- The law of expiries.
use Rattle.repo_objects.specs.Laws.{SnapshotLaw}
use Rattle.store_api.specs.Journal.{IsPolite}
use Rattle.store_api.proofs.PlayLaws.{PlayKeeps-weaker}
use Rattle.repo_read.proofs.Own.{Since-none}
use Rattle.expiry.specs.Plays.{expire_play}
use Rattle.expiry.specs.Telling.{ExpireTells}
use Rattle.expiry.specs.Owing.{IsOwed}
use Rattle.expiry.specs.Laws.{ExpireLaw}
use Rattle.expiry.proofs.Lasting.{tells-more, owed-more}
use Rattle.expiry.proofs.Playing.{goes-keeps, goes-leads}
use Rattle.expiry.proofs.Deciding.{Fine}
use Rattle.expiry.proofs.Listing.{play-goes}
use Rattle.expiry.proofs.Changing.{changes-told, changes-kept}

pub expires-exactly : SnapshotLaw → ExpireLaw
expires-exactly laws by t start =
    let goes = play-goes laws by t start start (Since-none start) in
    let fine = goes-keeps (Fine t start) (ExpireTells t by.number start) by (expire_play t) start goes in
    record {
      polite = PlayKeeps-weaker (Fine t start) (λ journal client op. IsPolite journal op) (λ journal client op f. f.0) by (expire_play t) start fine;
      owed = PlayKeeps-weaker (Fine t start) (IsOwed t start) (λ journal client op f. f.1) by (expire_play t) start fine;
      leads = goes-leads (Fine t start) (ExpireTells t by.number start) by (expire_play t) start goes;
      changes = changes-told by start t;
      stays = λ journal more op others w. owed-more t by.number start journal more op w;
      kept = λ outcome journal more others e. tells-more t by.number start journal more outcome e;
      changes_kept = changes-kept by start;
    }
