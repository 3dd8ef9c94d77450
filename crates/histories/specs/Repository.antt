-- Branches as lists of trees. There are no objects, files or retries here.
use Rattle.std.specs.Prelude.{ℕ, ◌==◌, if◌then◌else◌, List, [], ◌∷◌, Option, Some, None, option_map}
use Rattle.ice_ids.specs.declared.Id12.{Id12}
use Rattle.zarr_tree.specs.Trees.{Tree}

-- what a commit makes of the tree before it
abbrev pub Change : Type 0
Change = Tree → Tree

-- what a branch named from some version on: a snapshot, and the tree that it has, if it is readable
pub record Entry : Type 0 where
  pub version : ℕ
  pub id : Id12
  pub tree : Option Tree

-- the entries of a branch, the last one first; none where it was removed
abbrev pub RefHistory : Type 0
RefHistory = List (Option Entry)

-- the last entry of a branch that is there
abbrev pub last : RefHistory → Option Entry
last [] = None
last (e ∷ es) = e

pub data Call : Type 0 where
  Open : Call
  Create : (id : Id12) → Call
  Commit : (old : ℕ) (id : Id12) → Change → Call
  Reset : (old : ℕ) (id : Id12) → Call
  Drop : (old : ℕ) → Call

pub data Answer : Type 0 where
  Opened : Entry → Answer
  NoRef : Answer
  RefExists : (version : ℕ) → Answer
  Appended : Answer
  Moved : (found : Option ℕ) → Answer

abbrev pub opened : Option Entry → Answer
opened None = NoRef
opened (Some e) = Opened e

abbrev pub created : Option Entry → Answer
created None = Appended
created (Some e) = RefExists e.version

abbrev pub at_version : ℕ → Option Entry → Answer
at_version old None = Moved None
at_version old (Some e) = if e.version == old then Appended else Moved (Some e.version)

-- what a call answers at the last entry
abbrev pub answer_of : Call → Option Entry → Answer
answer_of Open l = opened l
answer_of (Create id) l = created l
answer_of (Commit old id c) l = at_version old l
answer_of (Reset old id) l = at_version old l
answer_of (Drop old) l = at_version old l

abbrev pub tree_at : Option Entry → Option Tree
tree_at None = None
tree_at (Some e) = e.tree

-- what a call that appends at version n appends, where `trees` gives the tree of each snapshot
abbrev pub appended : (Id12 → Option Tree) → ℕ → Call → Option Entry → Option Entry
appended trees n Open l = l
appended trees n (Create id) l = Some (record { version = n; id = id; tree = trees id })
appended trees n (Commit old id c) l =
    Some (record { version = n; id = id; tree = option_map c (tree_at l) })
appended trees n (Reset old id) l = Some (record { version = n; id = id; tree = trees id })
appended trees n (Drop old) l = None

abbrev pub after_answer : Answer → Option Entry → RefHistory → RefHistory
after_answer Appended e h = e ∷ h
after_answer (Opened x) e h = h
after_answer NoRef e h = h
after_answer (RefExists v) e h = h
after_answer (Moved v) e h = h

-- the branch after a call at version n
abbrev pub called : (Id12 → Option Tree) → ℕ → Call → RefHistory → RefHistory
called trees n call h = after_answer (answer_of call (last h)) (appended trees n call (last h)) h
