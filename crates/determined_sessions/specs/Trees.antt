-- That what lines do is determined, and what is left of changes, in words of trees. (Own.)
use Rattle.std.specs.Prelude.{◌≡◌, ℕ, List, [], ◌∷◌, ◌++◌, map, Option, None}
use Rattle.ice_ids.specs.declared.Id8.{Id8}
use Rattle.ice_ids.specs.declared.Id12.{Id12}
use Rattle.ice_ids.specs.Text.{initial_id}
use Rattle.zarr_tree.specs.Trees.{Tree}
use Rattle.zarr_tree.specs.Changes.{Changes}
use Rattle.zarr_tree.specs.Edits.{Edit, Add, SetMeta, Drop, Set, Unset}
use Rattle.conflicts.specs.declared.solving.Policy.{Policy}
use Rattle.rebase.specs.Along.{Link}
use Rattle.script_calls.specs.declared.calls.EditCall.{EditCall}
use Rattle.script_calls.specs.declared.calls.EditCall.TheVariants as E
use Rattle.script_calls.specs.declared.calls.Call.{Call}
use Rattle.script_calls.specs.declared.calls.Call.TheVariants as C
use Rattle.play_script.specs.declared.scripts.Line.{Line}
use Rattle.play_outcome.specs.declared.outcome.Shown.{Shown}
use Rattle.play_outcome.specs.declared.outcome.Shown.TheVariants.{Lease as Shown_lease}
use Rattle.play_course.specs.Lines.{Changed, Does, DoesAll}
use Rattle.play_course.specs.Ways.{Carried, stays, over}

-- ---- lines
-- the id of the node that an edit adds, if it adds one
abbrev pub id_added : Edit → List Id8
id_added (Add path id text) = id ∷ []
id_added (SetMeta path text) = []
id_added (Drop path) = []
id_added (Set path index bytes) = []
id_added (Unset path index) = []

abbrev pub edit_ids : (edit : EditCall) (t : Tree) (shown : List Shown) (u : Tree)
    → Changed edit t shown u → List Id8
edit_ids (E.Put place numbers) t shown u did = []
edit_ids edit t shown u did = id_added did.made

abbrev pub id_given : (line : ℕ) (call : Call) (t : Tree) (shown : List Shown) (u : Tree)
    → Does line call t shown u → List Id8
id_given line (C.Edit edit) t shown u did = edit_ids edit t shown u did
id_given line (C.Read read) t shown u did = []
id_given line (C.Commit message) t shown u did = []
id_given line (C.Ref call) t shown u did = []
id_given line (C.Prop name value) t shown u did = []
id_given line C.Lease t shown u did = []

-- the ids that lines gave the nodes that they added, one after another
unfoldable pub ids_given : (lines : List Line) (t : Tree) (shown : List Shown) (u : Tree)
    → DoesAll lines t shown u → List Id8
unfolding DoesAll
ids_given [] t shown u played = []
ids_given (l ∷ ls) t shown u played =
    id_given l.number l.call t played.0 played.2 played.4
    ++ ids_given ls played.2 played.1 u played.5

-- what is shown, whichever lease was put, and whether or not it was left
abbrev pub but_leases : Shown → Shown
but_leases (Shown_lease line id left) = Shown_lease line initial_id None
but_leases shown = shown

-- Lines that are played on one tree, and give the nodes that they add the same ids, show the same,
-- but for which leases they put, and lead to the same tree.
abbrev pub PlaysLaw : Type 0
PlaysLaw =
    (lines : List Line) (t : Tree) (shown told : List Shown) (u v : Tree)
    → (p : DoesAll lines t shown u) (q : DoesAll lines t told v)
    → ids_given lines t shown u p ≡ ids_given lines t told v q
    → (map but_leases shown ≡ map but_leases told) × (u ≡ v)

-- ---- the commits of others
-- the commits over which changes were carried, the first one first
unfoldable pub links_of :
    {trees : Id12 → Option Tree} {policy : Policy} {base head : Id12} {c e : Changes}
    → Carried trees policy base c head e → List Link
links_of stays = []
links_of (over l was is follows passes more) = l ∷ links_of more

-- Changes of one snapshot's tree that are carried over the same commits come to one snapshot,
-- and one thing is left of them.
abbrev pub CarriedLaw : Type 0
CarriedLaw =
    (trees : Id12 → Option Tree) (policy : Policy) (base head other : Id12) (c e f : Changes)
    → (a : Carried trees policy base c head e) (b : Carried trees policy base c other f)
    → links_of a ≡ links_of b → (head ≡ other) × (e ≡ f)
