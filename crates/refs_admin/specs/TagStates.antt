-- What the answers of calls on tags tell is what the tag's state gives, as it was at the client's
-- own event that decided them: at the last get or put of the tag or of its tombstone.
use Rattle.std.specs.Prelude.{◌≡◌, ℕ, List, Option}
use Rattle.ice_ids.specs.declared.Id12.{Id12}
use Rattle.zarr_tree.specs.Trees.{Tree}
use Rattle.repo_objects.specs.declared.bad_objects.Bad.{Bad}
use Rattle.object_store.specs.declared.keys.Key.{Key}
use Rattle.object_store.specs.declared.keys.Key.TheVariants.{Tag, Tombstone}
use Rattle.object_store.specs.declared.events.Version.{Version}
use Rattle.object_store.specs.declared.events.Event.{Event}
use Rattle.store_api.specs.Journal.{IsGoodJournal}
use Rattle.store_api.specs.Telling.{RefWasBad, WasAbsent, WasPresent}
use Rattle.histories.specs.Tags.{TagCall, Open, Make, Drop, TagAnswer, Opened}
use Rattle.histories.specs.Tags.{Done, NoRef, RefExists, TagDropped, tag_answer}
use Rattle.histories.specs.TagCalls.{tag_of}
use Rattle.histories.specs.Formats.{files_by}
use Rattle.repo_read.specs.declared.resolving.At.{At}
use Rattle.repo_read.specs.Naming.{WasTagged}
use Rattle.refs_admin.specs.TagTelling.{WasTagPut, TagWasGone, TagStands, WasBuried, HadTombstone}

-- the state of the tag behind this journal gives the call this answer
abbrev pub Gives : (Id12 → Option Tree) → List Event → List ℕ → TagCall → TagAnswer → Type 0
Gives trees journal tag call answer = tag_answer call (tag_of (files_by trees) journal tag) ≡ answer

-- A tag that was opened; one that was absent, so that it was neither opened nor dropped; one
-- that was gone, so that it wasn't opened; one that was made; one that was not, since it stood
-- or was gone; one that was dropped; and one that was not, since it was gone. And a tag that
-- was got is always a reference.
pub record TagStatesTell (trees : Id12 → Option Tree) (client : ℕ) (tag : List ℕ)
    (start journal : List Event) : Type 0 where
  pub opened : (id : Id12) (told : WasTagged client tag id start journal)
      → Gives trees told.stands.own.before tag Open
      (Opened (record { version = told.version.0; id = id; tree = trees id }))
  pub absent : (told : WasAbsent client (Tag tag) start journal)
      → Gives trees told.own.before tag Open NoRef × Gives trees told.own.before tag Drop NoRef
  pub gone : (told : WasPresent client (Tombstone tag) start journal)
      → Gives trees told.got.own.before tag Open NoRef
  pub made : (at : At) (told : WasTagPut client tag at start journal)
      → Gives trees told.made.own.before tag (Make told.aim.named.id) Done
  pub stands : (at : At) (version : Version) (told : TagStands client tag at version start journal)
      → Gives trees told.stands.own.before tag (Make told.there.aim.named.id) (RefExists version.0)
  pub was_gone : (at : At) (told : TagWasGone client tag at start journal)
      → Gives trees told.gone.got.own.before tag (Make told.there.aim.named.id) TagDropped
  pub dropped : (told : WasBuried client tag start journal)
      → Gives trees told.made.own.before tag Drop Done
  pub buried : (told : HadTombstone client tag start journal)
      → Gives trees told.made.own.before tag Drop NoRef
  pub readable : (key : Key) (bad : Bad) → RefWasBad client (Tag tag) key bad start journal → ⊥

-- it does so in each legal polite journal
abbrev pub TagStatesLaw : Type 0
TagStatesLaw =
    (trees : Id12 → Option Tree) (client : ℕ) (tag : List ℕ) (start journal : List Event)
    → IsGoodJournal journal → TagStatesTell trees client tag start journal
