-- When a repository is intact, by what operations on it were answered. No walk is known here.
use Rattle.std.specs.Prelude.{◌≡◌, List, Contains, Some, Ok}
use Rattle.ice_ids.specs.declared.Id12.{Id12}
use Rattle.snapshot_file.specs.declared.snapshot.SnapshotFile.{SnapshotFile}
use Rattle.object_store.specs.declared.keys.Part.TheVariants.{Branches, Tags}
use Rattle.object_store.specs.declared.events.Got.{Got}
use Rattle.object_store.specs.declared.events.Reply.{Reply}
use Rattle.object_store.specs.declared.events.Reply.TheVariants.{Got as Is_got}
use Rattle.intact.specs.Told.{found_snapshot}
use Rattle.intact.specs.Visits.{Visit, Refs, Snap, told, leads}

-- an operation, by what it was for, and the reply to it
pub record Made : Type 0 where
  pub visit : Visit
  pub reply : Reply

-- it was made, and this was the reply
pub record WasAnswered (made : List Made) (visit : Visit) (reply : Reply) : Type 0 where
  pub one : Made
  pub among : Contains made one
  pub visit_is : one.visit ≡ visit
  pub reply_is : one.reply ≡ reply

-- What is named: the least set with the listings of the branches and of the tags, and with all to
-- which what was made for one of its own leads. A listing leads to its refs that stand, a ref to
-- its snapshot, a snapshot to its log, manifests and parent, a manifest to parts of objects.
pub data Named (made : List Made) : Visit → Type 0 where
  branches : Named made (Refs Branches)
  tags : Named made (Refs Tags)
  behind : {v w : Visit} {reply : Reply} → Named made v → WasAnswered made v reply
      → Contains (leads v reply) w → Named made w

-- it was made
pub record WasVisited (made : List Made) (visit : Visit) : Type 0 where
  pub reply : Reply
  pub told : WasAnswered made visit reply

-- nothing is wrong by a reply
pub record IsFineBy (visit : Visit) (reply : Reply) : Type 0 where
  pub next : List Visit
  pub is : told visit reply ≡ Ok next

-- It was made, and nothing is wrong. What was never made isn't fine.
pub record IsFine (made : List Made) (visit : Visit) : Type 0 where
  pub was : WasVisited made visit
  pub each : (reply : Reply) → WasAnswered made visit reply → IsFineBy visit reply

-- the snapshot was read, and this is its parent
pub record HasParent (made : List Made) (id parent : Id12) : Type 0 where
  pub got : Got
  pub answered : WasAnswered made (Snap id) (Is_got got)
  pub file : SnapshotFile
  pub read : found_snapshot id got ≡ Ok file
  pub is : file.parent ≡ Some parent

-- one snapshot is above another along parents
pub data IsAbove (made : List Made) : (id below : Id12) → Type 0 where
  next : {id below : Id12} → HasParent made id below → IsAbove made id below
  further : {id parent below : Id12} → HasParent made id parent → IsAbove made parent below
      → IsAbove made id below

-- All that is named was made and is fine, and no snapshot is above itself.
pub record IsIntact (made : List Made) : Type 0 where
  pub each : (v : Visit) → Named made v → IsFine made v
  pub onward : (id : Id12) → Named made (Snap id) → IsAbove made id id → ⊥
