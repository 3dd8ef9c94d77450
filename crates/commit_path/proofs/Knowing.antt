-- What a session knows of the journal, whatever good events come.
use Rattle.std.proofs.Common.{◌≡◌, ℕ, true, List, [], ◌++◌, ◌∙◌, ap}
use Rattle.std.specs.Prelude.{Option, Some, None, option_map}
use Rattle.ice_ids.specs.declared.Id12.{Id12}
use Rattle.snapshot_file.specs.declared.nodes.NodeRow.{NodeRow}
use Rattle.repo_objects.specs.Trees.{tree_under}
use Rattle.object_store.specs.declared.keys.Key.TheVariants.{Snapshot, Chunk, Branch}
use Rattle.object_store.specs.declared.events.Event.{Event}
use Rattle.object_store.specs.Machine.{last_put}
use Rattle.store_api.specs.Journal.{Each, WasPut, puts_of, rows_of, tree_of, snap_in, IsFirst, IsOnce, IsGood}
use Rattle.object_store.proofs.Journals.{Each-back}
use Rattle.object_store.proofs.Slots.{WasPut-append, StoodAt-append}
use Rattle.store_api.proofs.Standing.{by-rows, rows-stay, HadRows-append}
use Rattle.session.specs.declared.origin.Tip.{Tip}
use Rattle.session.specs.declared.origin.Origin.{Origin}
use Rattle.session.specs.declared.origin.Origin.TheVariants.{Writes, ReadsBranch, ReadsTag, ReadsId}
use Rattle.session.specs.Sessions.{SessionState, tip_branch, tip_version, tip_in, tip_of, writes_in, origin_at}
use Rattle.commit_path.specs.Opened.{BranchNamed, IsTip, IsOpened}
use Rattle.commit_path.proofs.Putting.{puts-kept, chunks-extend}

pub once-front : (old more : List Event) → IsOnce (old ++ more) → IsOnce old
once-front old more once = (Each-back IsFirst [] old more once).0

pub once-back : (old more : List Event) → IsOnce (old ++ more) → Each IsFirst old more
once-back old more once = (Each-back IsFirst [] old more once).1

-- the tree of a snapshot with these rows
pub tree-by_rows : (journal : List Event) (id : Id12) (rows : List NodeRow) → rows_of journal id ≡ Some rows → tree_of journal id ≡ Some (tree_under (puts_of journal) rows)
tree-by_rows journal id rows e = by-rows (puts_of journal) (snap_in id (last_put journal (Snapshot id))) ∙ ap (option_map (tree_under (puts_of journal))) e

-- rows stay where a snapshot has them
pub rows-kept : (journal more : List Event) (id : Id12) (rows : List NodeRow) → WasPut journal (Snapshot id) → Each IsGood journal more → (IsOnce journal → rows_of journal id ≡ Some rows) → IsOnce (journal ++ more) → rows_of (journal ++ more) id ≡ Some rows
rows-kept journal more id rows w g e once = rows-stay id journal more (once-front journal more once) w g (once-back journal more once) ∙ e (once-front journal more once)

-- ---- the branch that a session writes to
pub BranchNamed-append : (journal more : List Event) (branch : List ℕ) (version : ℕ) (base : Id12) → BranchNamed journal branch version base → BranchNamed (journal ++ more) branch version base
BranchNamed-append journal more branch version base n = record { bytes = n.bytes; stood = StoodAt-append journal more (Branch branch) version n.bytes n.stood; names = n.names }

pub IsTip-append : (journal more : List Event) (base : Id12) (tip : Option Tip) → IsTip journal base tip → IsTip (journal ++ more) base tip
IsTip-append journal more base None n = tt
IsTip-append journal more base (Some tip) n = BranchNamed-append journal more tip.branch tip.version.0 base n

-- one that writes has it
pub tip-named : (journal : List Event) (base : Id12) (origin : Origin) → writes_in origin ≡ true → IsTip journal base (tip_in origin) → BranchNamed journal (tip_branch (tip_in origin)) (tip_version (tip_in origin)) base
tip-named journal base (Writes tip) e n = n
tip-named journal base (ReadsBranch tip) e n = n
tip-named journal base (ReadsTag name) e n = cc
tip-named journal base ReadsId e n = cc

-- at another version
pub tip-moved : (journal : List Event) (base : Id12) (version : ℕ) (origin : Origin) → BranchNamed journal (tip_branch (tip_in origin)) version base → IsTip journal base (tip_in (origin_at version origin))
tip-moved journal base version (Writes tip) n = n
tip-moved journal base version (ReadsBranch tip) n = n
tip-moved journal base version (ReadsTag name) n = tt
tip-moved journal base version ReadsId n = tt

-- ---- all that a session knows
pub IsOpened-append : (s : SessionState) (journal more : List Event) → Each IsGood journal more → IsOpened s journal → IsOpened s (journal ++ more)
IsOpened-append s journal more g o = record {
  named = IsTip-append journal more s.base (tip_of s) o.named;
  put = WasPut-append journal more (Snapshot s.base) o.put;
  had = HadRows-append journal more s.base s.rows o.had;
  rows = rows-kept journal more s.base s.rows o.put g o.rows;
  objects = λ node i id offset size e. WasPut-append journal more (Chunk id) (o.objects node i id offset size e);
  chunks = λ once. chunks-extend (puts_of journal) (puts_of (journal ++ more)) (puts-kept journal more g once) s.held.chunks (o.chunks (once-front journal more once));
}
