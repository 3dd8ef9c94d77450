-- Laws of what becomes of changes along commits.
use Rattle.std.specs.Prelude.{◌≡◌, ◌≢◌, ◌↔◌, ◌⊎◌, ℕ, Bool, true, false}
use Rattle.std.specs.Prelude.{List, [], ◌∷◌, Option, Some, None, Contains}
use Rattle.std.specs.List.{All}
use Rattle.std.specs.FinMap.{FinMap, get}
use Rattle.ice_ids.specs.declared.Id8.{Id8}
use Rattle.ice_ids.specs.declared.Id12.{Id12}
use Rattle.zarr_path.specs.Paths.{path_cmp}
use Rattle.manifest_file.specs.declared.manifest.Place.{Place}
use Rattle.repo_objects.specs.Trees.{nodes_in}
use Rattle.zarr_tree.specs.declared.cases.Case.{Case}
use Rattle.zarr_tree.specs.declared.cases.Conflict.{Conflict}
use Rattle.zarr_tree.specs.Nodes.{Node}
use Rattle.zarr_tree.specs.Trees.{Tree, node_at, IsWellFormed}
use Rattle.zarr_tree.specs.Changes.{Changes, apply, nodes_under, IsNormal}
use Rattle.zarr_tree.specs.Touched.{Touches, IsOrdered}
use Rattle.zarr_tree.specs.Held.{Held, meta_in, changes_of}
use Rattle.zarr_tree.specs.Conflicts.{IsConflict, IsApart, AddsUnlike, without}
use Rattle.conflicts.specs.declared.solving.Policy.{Policy}
use Rattle.conflicts.specs.Found.{found}
use Rattle.conflicts.specs.Laws.{IsGivenUp}
use Rattle.conflicts.specs.Order.{Ascend}
use Rattle.conflicts.specs.Solving.{case_stays}
use Rattle.commit_path.specs.Spelled.{IsOtherText}
use Rattle.rebase.specs.Along.{Link, Solves, Stays, Hides, sides_at, along}

-- ---- along commits whose logs are right
-- Each commit's tree is the tree before it under changes that are normal for it; its log lists what
-- they touch, its snapshot has the nodes; and they add no id that c adds. The last tree is u.
unfoldable pub Follows : (c : Changes) → (t : Tree) → List Link → (u : Tree) → Type 0
Follows c t [] u = t ≡ u
Follows c t (l ∷ ls) u =
    (d : Changes) × IsNormal d t × Touches d t l.lists × ((apply d t).nodes ≡ nodes_in l.file.nodes)
    × AddsUnlike c d × Follows c (apply d t) ls u

-- As in `Follows`; and neither they nor c drop an id that the other one adds.
unfoldable pub FollowsApart : (c : Changes) → (t : Tree) → List Link → (u : Tree) → Type 0
FollowsApart c t [] u = t ≡ u
FollowsApart c t (l ∷ ls) u =
    (d : Changes) × IsNormal d t × Touches d t l.lists × ((apply d t).nodes ≡ nodes_in l.file.nodes)
    × IsApart c d × IsApart d c × FollowsApart c (apply d t) ls u

-- each other text that is held is the one that its node has: no node has two
abbrev pub HasOneTextEach : Held Place → Type 0
HasOneTextEach held = All (λ (row : Id8 × List ℕ). meta_in held.metas row.0 ≡ Some row.1) held.metas

-- Along such commits no log hides a node; and where all conflicts are solved, what is still
-- held is normal for the last tree.
pub record NormalLaw (bytes_at : Place → Option (List ℕ)) : Type 0 where
  pub normal : (policy : Policy) (held left : Held Place) (t u : Tree) (links : List Link)
      → IsWellFormed t → IsNormal (changes_of bytes_at held) t
      → Follows (changes_of bytes_at held) t links u
      → along policy held t.nodes links ≡ Solves left
      → IsNormal (changes_of bytes_at left) u × IsWellFormed u
  pub honest : (policy : Policy) (held : Held Place)
      (t u : Tree) (links : List Link) (at : Id12) (node : Id8)
      → HasOneTextEach held → IsWellFormed t → IsNormal (changes_of bytes_at held) t
      → Follows (changes_of bytes_at held) t links u
      → ¬ (along policy held t.nodes links ≡ Hides at node)

-- where no commit conflicts with what is held
unfoldable pub NoneConflicts : Held Place → FinMap path_cmp Node → List Link → Type 0
NoneConflicts held before [] = Unit {0}
NoneConflicts held before (l ∷ ls) =
    (found (sides_at held before l) ≡ []) × NoneConflicts held (nodes_in l.file.nodes) ls

-- Changes that each commit's log lists, and that make its tree of the tree before it, lead from t
-- to u; and the same changes lead from v to w.
unfoldable pub LeadBoth : List Link → (t u v w : Tree) → Type 0
LeadBoth [] t u v w = (t ≡ u) × (v ≡ w)
LeadBoth (l ∷ ls) t u v w =
    (d : Changes) × IsNormal d t × Touches d t l.lists × ((apply d t).nodes ≡ nodes_in l.file.nodes)
    × LeadBoth ls (apply d t) u (apply d v) w

-- Along such commits nothing is given up where nothing conflicts; and what the commits did leads
-- from the first tree under the changes to the last tree under them.
abbrev pub QuietLaw : Type 0
QuietLaw =
    (bytes_at : Place → Option (List ℕ)) (policy : Policy)
    (held : Held Place) (t u : Tree) (links : List Link)
    → HasOneTextEach held → IsWellFormed t → IsNormal (changes_of bytes_at held) t
    → FollowsApart (changes_of bytes_at held) t links u → NoneConflicts held t.nodes links
    → (along policy held t.nodes links ≡ Solves held)
    × LeadBoth links t u (apply (changes_of bytes_at held) t) (apply (changes_of bytes_at held) u)

-- ---- what the way says, in words of conflicts
-- no conflict with a commit stays, by the policy
abbrev pub NoneStays : Policy → Changes → Link → (t u : Tree) → Type 0
NoneStays policy c l t u =
    (k : Case) (p : List ℕ) (i : Option (List ℕ)) → IsConflict c l.lists t u k p i
    → case_stays policy k i ≡ false

-- these are the conflicts with a commit that stay, in their order, and there is one
pub record TheseStay (policy : Policy) (c : Changes) (l : Link) (t u : Tree)
    (xs : List Conflict) : Type 0 where
  pub some : xs ≢ []
  pub order : Ascend xs
  pub exactly : (x : Conflict)
      → Contains xs x
      ↔ (IsConflict c l.lists t u x.case x.path x.index × (case_stays policy x.case x.index ≡ true))

-- there is another text of a node, and the tree doesn't have the node, or not with the
-- parts of its metadata that stay
pub record IsHidden (c : Changes) (u : Tree) (id : Id8) : Type 0 where
  pub text : List ℕ
  pub held : c.metas id ≡ Some text
  pub lost : ¬ IsOtherText u.nodes id text

-- c passes a commit: no conflict with it stays; its tree has the nodes of other texts, with the
-- parts that stay; and e is c without exactly the entries that the policy gives up.
pub record Passes (policy : Policy) (c : Changes) (l : Link) (t u : Tree)
    (e : Changes) : Type 0 where
  pub none_stays : NoneStays policy c l t u
  pub kept : (id : Id8) (text : List ℕ) → c.metas id ≡ Some text → IsOtherText u.nodes id text
  pub out : Id8 → List ℕ → Bool
  pub given_up : (id : Id8) (i : List ℕ) → (out id i ≡ true) ↔ IsGivenUp policy c l.lists t u id i
  pub rest : e ≡ without c out

-- a tree with the nodes of a commit's snapshot
abbrev pub HasNodes : Link → Tree → Type 0
HasNodes l u = u.nodes ≡ nodes_in l.file.nodes

-- c passes commit after commit, each without the entries that were given up
-- before; e is what is left of c.
unfoldable pub PassesAll : Policy → (c : Changes) → (t : Tree) → List Link → (e : Changes) → Type 0
PassesAll policy c t [] e = c ≡ e
PassesAll policy c t (l ∷ ls) e =
    (u : Tree) → HasNodes l u → (d : Changes) × Passes policy c l t u d × PassesAll policy d u ls e

-- c passes the first commits, up to one of which exactly these conflicts stay
unfoldable pub StaysAt : Policy → (c : Changes) → (t : Tree) → List Link → (at : Id12)
    → List Conflict → Type 0
StaysAt policy c t [] at xs = ⊥
StaysAt policy c t (l ∷ ls) at xs =
    (u : Tree) → HasNodes l u
    → ((at ≡ l.file.id) × TheseStay policy c l t u xs)
    ⊎ ((d : Changes) × Passes policy c l t u d × StaysAt policy d u ls at xs)

-- c passes the first commits, up to one of which no conflict stays, and
-- whose tree doesn't keep this node
unfoldable pub HidesAt : Policy → (c : Changes) → (t : Tree) → List Link → (at : Id12)
    → (node : Id8) → Type 0
HidesAt policy c t [] at node = ⊥
HidesAt policy c t (l ∷ ls) at node =
    (u : Tree) → HasNodes l u
    → ((at ≡ l.file.id) × NoneStays policy c l t u × IsHidden c u node)
    ⊎ ((d : Changes) × Passes policy c l t u d × HidesAt policy d u ls at node)

-- the lists of each commit stand in order, as those of a log that was read do
abbrev pub AllOrdered : List Link → Type 0
AllOrdered links = All (λ (l : Link). IsOrdered l.lists) links

-- Where the way solves all, the changes pass all the commits, and this is left of them; where it
-- ends at conflicts, they pass the commits up to one of which exactly these stay; and where it ends
-- at a node, those up to one whose tree hides it.
pub record MeansLaw (bytes_at : Place → Option (List ℕ)) : Type 0 where
  pub solves : (policy : Policy) (held left : Held Place) (t : Tree) (links : List Link)
      → along policy held t.nodes links ≡ Solves left
      → PassesAll policy (changes_of bytes_at held) t links (changes_of bytes_at left)
  pub stays : (policy : Policy) (held : Held Place) (t : Tree)
      (links : List Link) (at : Id12) (xs : List Conflict)
      → AllOrdered links → along policy held t.nodes links ≡ Stays at xs
      → StaysAt policy (changes_of bytes_at held) t links at xs
  pub hides : (policy : Policy) (held : Held Place)
      (t : Tree) (links : List Link) (at : Id12) (node : Id8)
      → HasOneTextEach held → along policy held t.nodes links ≡ Hides at node
      → HidesAt policy (changes_of bytes_at held) t links at node

-- ---- that one thing alone can be said
-- Where c passes all, what is left of it is determined; where it stops, at which commit, and which
-- conflicts stay. And no two of these go together: it passes all, it stops at conflicts that stay,
-- it stops at a node that is hidden.
pub record OnlyLaw (policy : Policy) (c : Changes) (t : Tree) (links : List Link) : Type 0 where
  pub one_rest : (d e : Changes) → PassesAll policy c t links d
      → PassesAll policy c t links e → d ≡ e
  pub one_stop : (at other : Id12) (xs ys : List Conflict) → StaysAt policy c t links at xs
      → StaysAt policy c t links other ys → (at ≡ other) × (xs ≡ ys)
  pub one_hiding : (at other : Id12) (node next : Id8) → HidesAt policy c t links at node
      → HidesAt policy c t links other next → at ≡ other
  pub passed_or_stays : (e : Changes) (at : Id12) (xs : List Conflict)
      → PassesAll policy c t links e → ¬ StaysAt policy c t links at xs
  pub passed_or_hides : (e : Changes) (at : Id12) (node : Id8) → PassesAll policy c t links e
      → ¬ HidesAt policy c t links at node
  pub stays_or_hides : (at other : Id12) (xs : List Conflict) (node : Id8)
      → StaysAt policy c t links at xs → ¬ HidesAt policy c t links other node

-- ---- along commits of the session itself, or over no node
-- The commit's snapshot has the nodes of a tree under changes that add and drop what c does, and c
-- adds a node: a snapshot is so that the session itself put before.
pub record IsOwnLink (c : Changes) (l : Link) : Type 0 where
  pub path : List ℕ
  pub node : Node
  pub adds : get c.added path ≡ Some node
  pub other : Changes
  pub added : other.added ≡ c.added
  pub dropped : other.dropped ≡ c.dropped
  pub nodes : FinMap path_cmp Node
  pub is : nodes_in l.file.nodes ≡ nodes_under other nodes

-- The commits follow as in `Follows`, up to the first one that is the session's own, or to the last
-- one. Nothing is said of those behind an own one.
unfoldable pub FollowsToOwn : (c : Changes) → (t : Tree) → List Link → (u : Tree) → Type 0
FollowsToOwn c t [] u = t ≡ u
FollowsToOwn c t (l ∷ ls) u =
    IsOwnLink c l
    ⊎ ((d : Changes) × IsNormal d t × Touches d t l.lists
    × ((apply d t).nodes ≡ nodes_in l.file.nodes) × AddsUnlike c d
    × FollowsToOwn c (apply d t) ls u)

-- The base has no node, and c drops none. Nothing is said of the first commit's log; its tree is
-- well formed, and the later ones follow it so.
pub record FollowsNothing (c : Changes) (t : Tree) (links : List Link) (u : Tree) : Type 0 where
  pub nothing : (p : List ℕ) → node_at t p ≡ None
  pub none_dropped : (id : Id8) → c.dropped id ≡ false
  pub first : Link
  pub later : List Link
  pub is : links ≡ first ∷ later
  pub tree : Tree
  pub nodes : HasNodes first tree
  pub well_formed : IsWellFormed tree
  pub follows : FollowsToOwn c tree later u

-- the commits follow in one of these ways
abbrev pub FollowsFrom : (c : Changes) → (t : Tree) → List Link → (u : Tree) → Type 0
FollowsFrom c t links u = FollowsToOwn c t links u ⊎ FollowsNothing c t links u

-- A commit of the session itself ends the way: its conflicts stay by each policy, so none was met
-- where all is solved. What is still held then is normal for the last tree, and has lost no more
-- than entries of chunks; and no log hides a node on the way to the first own commit.
pub record OwnLaw (bytes_at : Place → Option (List ℕ)) : Type 0 where
  pub stops : (policy : Policy) (held : Held Place) (t : Tree) (l : Link) (ls : List Link)
      → IsNormal (changes_of bytes_at held) t → IsOwnLink (changes_of bytes_at held) l
      → (xs : List Conflict) × (along policy held t.nodes (l ∷ ls) ≡ Stays l.file.id xs)
  pub none_own : (policy : Policy) (held left : Held Place) (t : Tree) (links : List Link)
      → IsNormal (changes_of bytes_at held) t → along policy held t.nodes links ≡ Solves left
      → All (λ (l : Link). ¬ IsOwnLink (changes_of bytes_at held) l) links
  pub chunks_alone : (policy : Policy) (held left : Held Place) (t : Tree) (links : List Link)
      → along policy held t.nodes links ≡ Solves left → left ≡ record held { chunks = left.chunks }
  pub normal : (policy : Policy) (held left : Held Place) (t u : Tree) (links : List Link)
      → IsWellFormed t → IsNormal (changes_of bytes_at held) t
      → FollowsFrom (changes_of bytes_at held) t links u
      → along policy held t.nodes links ≡ Solves left
      → IsNormal (changes_of bytes_at left) u × IsWellFormed u
  pub honest : (policy : Policy) (held : Held Place)
      (t u : Tree) (links : List Link) (at : Id12) (node : Id8)
      → HasOneTextEach held → IsWellFormed t → IsNormal (changes_of bytes_at held) t
      → FollowsFrom (changes_of bytes_at held) t links u
      → ¬ (along policy held t.nodes links ≡ Hides at node)
