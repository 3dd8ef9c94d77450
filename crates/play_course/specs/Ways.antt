-- A session that is carried over the commits of others, in words of trees. (Icechunk's manual,
-- "Conflict resolution": a session is rebased over one commit after another.)
use Rattle.std.specs.Prelude.{◌≡◌, ◌⊎◌, ℕ, List, Option, Some, None}
use Rattle.ice_ids.specs.declared.Id12.{Id12}
use Rattle.zarr_tree.specs.declared.lists.Touched.{Touched}
use Rattle.zarr_tree.specs.Trees.{Tree, node_at}
use Rattle.zarr_tree.specs.Changes.{Changes, apply}
use Rattle.zarr_tree.specs.Touched.{Touches}
use Rattle.conflicts.specs.declared.solving.Policy.{Policy}
use Rattle.rebase.specs.Along.{Link}
use Rattle.rebase.specs.AlongLaws.{Passes}

-- what a commit did to the tree before it, and its log lists: this made its tree
pub record DidTo (t u : Tree) (lists : Touched) : Type 0 where
  pub changes : Changes
  pub made : u ≡ apply changes t
  pub touches : Touches changes t lists

-- the commit follows on the tree t; or t has no node, as that of a snapshot that a commit comes to
-- stand on when what was between is cut away
abbrev pub FollowsOn : (t u : Tree) → Touched → Type 0
FollowsOn t u lists = DidTo t u lists ⊎ ((path : List ℕ) → node_at t path ≡ None)

-- Changes of a snapshot's tree, and what is left of them over the commits from there up to another
-- snapshot. At each commit, each conflict is one that the policy solves, and what is left is all
-- but the entries that the policy gives up for it.
pub data Carried (trees : Id12 → Option Tree)
    (policy : Policy) : Id12 → Changes → Id12 → Changes → Type 0 where
  stays : {base : Id12} {c : Changes} → Carried trees policy base c base c
  over : {base head : Id12} {c d e : Changes} {t u : Tree} → (l : Link) → trees base ≡ Some t
      → trees l.file.id ≡ Some u → FollowsOn t u l.lists → Passes policy c l t u d
      → Carried trees policy l.file.id d head e → Carried trees policy base c head e
