-- Laws of refs: tags and `main` stay; and whatever others do, each operation of a call is polite,
-- and the answer tells the journal.
use Rattle.std.specs.Prelude.{◌≡◌, ℕ, List, ◌++◌, Some}
use Rattle.ice_base.specs.Names.{main_name}
use Rattle.object_store.specs.declared.keys.Key.TheVariants.{Branch, Tag, Tombstone}
use Rattle.object_store.specs.declared.events.Event.{Event}
use Rattle.object_store.specs.Machine.{Stored, found}
use Rattle.store_api.specs.Journal.{Each, IsGood}
use Rattle.store_api.specs.Callers.{Caller}
use Rattle.store_api.specs.Telling.{IsTold}
use Rattle.repo_read.specs.declared.resolving.At.{At}
use Rattle.repo_read.specs.Resolving.{resolve_at_program}
use Rattle.refs_admin.specs.Branches.{branch_new_program, branch_reset_program, branch_drop_program}
use Rattle.refs_admin.specs.Tags.{tag_new_program, tag_drop_program}
use Rattle.refs_admin.specs.NewRepository.{init_program}
use Rattle.refs_admin.specs.LogReading.{chain_log_program}
use Rattle.repo_read.specs.Naming.{NamingTells}
use Rattle.refs_admin.specs.BranchTelling.{BranchNewTells, BranchResetTells, BranchDropTells}
use Rattle.refs_admin.specs.TagTelling.{TagNewTells, TagDropTells}
use Rattle.refs_admin.specs.InitTelling.{InitTells}
use Rattle.refs_admin.specs.LogTelling.{LogTells}

pub record RefsLaw (by : Caller) : Type 0 where
  pub resolve : (at : At) → IsTold by (resolve_at_program at) (NamingTells by.number at)
  pub init : IsTold by init_program (InitTells by.number)
  pub branch_new : (name : List ℕ) (at : At)
      → IsTold by (branch_new_program name at) (BranchNewTells by.number name at)
  pub branch_reset : (name : List ℕ) (at : At)
      → IsTold by (branch_reset_program name at) (BranchResetTells by.number name at)
  pub branch_drop : (name : List ℕ)
      → IsTold by (branch_drop_program name) (BranchDropTells by.number name)
  pub tag_new : (name : List ℕ) (at : At)
      → IsTold by (tag_new_program name at) (TagNewTells by.number name at)
  pub tag_drop : (name : List ℕ) → IsTold by (tag_drop_program name) (TagDropTells by.number name)
  pub log : (at : At) → IsTold by (chain_log_program at) (LogTells by.number at)

-- Whatever good events come, a tag stays as it was put, and so does a tombstone: a tag never moves,
-- and its name isn't used again.
pub record TagsStay : Type 0 where
  pub tags : (name : List ℕ) (journal more : List Event) (s : Stored) → Each IsGood journal more
      → found journal (Tag name) ≡ Some s → found (journal ++ more) (Tag name) ≡ Some s
  pub tombstones : (name : List ℕ) (journal more : List Event) (s : Stored)
      → Each IsGood journal more → found journal (Tombstone name) ≡ Some s
      → found (journal ++ more) (Tombstone name) ≡ Some s

-- And where `main` is there, it stays there.
abbrev pub MainStays : Type 0
MainStays =
    (journal more : List Event) (s : Stored) → Each IsGood journal more
    → found journal (Branch main_name) ≡ Some s
    → (t : Stored) × (found (journal ++ more) (Branch main_name) ≡ Some t)
