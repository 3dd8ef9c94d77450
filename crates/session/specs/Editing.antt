-- The calls of a session.
use Rattle.std.specs.Prelude.{◌≡◌, ◌⊎◌, ℕ, Bool, true, false, List, map}
use Rattle.std.specs.Prelude.{Option, Some, None, option_map, ok_or, Result, Ok, Err}
use Rattle.std.specs.Borrow.{Bor}
use Rattle.std.specs.BTreeMap.{insert_entry}
use Rattle.std.specs.FinMap.{get, entries}
use Rattle.std.specs.List.{filter}
use Rattle.ice_ids.specs.declared.Id8.{Id8}
use Rattle.ice_ids.specs.Drawing.{drawn8, after8}
use Rattle.zarr_path.specs.Paths.{is_beneath}
use Rattle.zarr_meta.specs.declared.faults.MetaFault.{MetaFault}
use Rattle.zarr_meta.specs.declared.faults.MetaFault.TheVariants.{NodeType}
use Rattle.zarr_meta.specs.declared.metas.Meta.{Meta}
use Rattle.zarr_meta.specs.declared.views.MetaView.{MetaView}
use Rattle.zarr_meta.specs.declared.views.MetaView.TheVariants as view
use Rattle.zarr_meta.specs.Meta.{meta_of}
use Rattle.zarr_tree.specs.Nodes.{Node, is_array}
use Rattle.zarr_tree.specs.declared.edit.EditFault.{EditFault}
use Rattle.zarr_tree.specs.declared.edit.EditFault.TheVariants as E
use Rattle.zarr_changes.specs.Edits.{with_added, with_text_at, without_node}
use Rattle.zarr_changes.specs.Sets.{add_refusal, text_refusal, drop_refusal}
use Rattle.snapshot_file.specs.declared.properties.PropFault.{PropFault}
use Rattle.snapshot_file.specs.Props.{name_cmp, prop_fault}
use Rattle.store_api.specs.declared.machines.Refusal.{Refusal}
use Rattle.store_api.specs.declared.machines.Refusal.TheVariants as R
use Rattle.session.specs.declared.session.Listing.{Listing}
use Rattle.session.specs.Sessions.{SessionState, base_nodes, nodes_seen, writes}

-- a session refuses an edit as its tree does
abbrev pub refusal_of_edit : EditFault → Refusal
refusal_of_edit E.NodeExists = R.Edit E.NodeExists
refusal_of_edit E.NoParent = R.Edit E.NoParent
refusal_of_edit E.Full = R.Edit E.Full
refusal_of_edit E.NoNode = R.Edit E.NoNode
refusal_of_edit (E.FrozenField part) = R.Edit (E.FrozenField part)
refusal_of_edit E.NotArray = R.Edit E.NotArray
refusal_of_edit E.OutOfGrid = R.Edit E.OutOfGrid
refusal_of_edit (E.ChunkLength want got) = R.Edit (E.ChunkLength want got)
refusal_of_edit E.NoMemory = R.NoMemory

-- ---- what a text says
-- why a text that says this isn't the metadata of a group, of an array, or of any node
abbrev pub group_fault : Result MetaView MetaFault → Option MetaFault
group_fault (Ok view.Group) = None
group_fault (Ok (view.Array array)) = Some NodeType
group_fault (Err fault) = Some fault

abbrev pub array_fault : Result MetaView MetaFault → Option MetaFault
array_fault (Ok view.Group) = Some NodeType
array_fault (Ok (view.Array array)) = None
array_fault (Err fault) = Some fault

abbrev pub node_fault : Result MetaView MetaFault → Option MetaFault
node_fault (Ok v) = None
node_fault (Err fault) = Some fault

-- ---- what comes before an edit
abbrev pub unless_refused : {A : Type 0} → Option EditFault → Result A Refusal → Result A Refusal
unless_refused None r = r
unless_refused (Some fault) r = Err (refusal_of_edit fault)

abbrev pub unless_bad : {A : Type 0} → Option MetaFault → Result A Refusal → Result A Refusal
unless_bad None r = r
unless_bad (Some fault) r = Err (R.BadMeta fault)

abbrev pub if_writes : {A : Type 0} → (writes : Bool) → Result A Refusal → Result A Refusal
if_writes true r = r
if_writes false r = Err R.ReadOnly

-- ---- nodes that are added
abbrev pub with_node : SessionState → (path text : List ℕ) → Id8 → SessionState
with_node s path text id = record s {
  held = with_added s.held path (record { id = id; text = text });
  ids = after8 s.ids;
}

abbrev pub drawn_node : SessionState → (path text : List ℕ) → Option Id8
    → Result (Id8 × SessionState) Refusal
drawn_node s path text None = Err R.IdsSpent
drawn_node s path text (Some id) = Ok (id, with_node s path text id)

-- the session with one more node under the next id drawn, and this id, or the first refusal: those
-- of the edit on its tree, IdsSpent
abbrev pub entered : SessionState → (path text : List ℕ) → Result (Id8 × SessionState) Refusal
entered s path text =
    unless_refused (add_refusal (nodes_seen s) path) (drawn_node s path text (drawn8 s.ids))

-- the same, but ReadOnly comes before, and then BadMeta where this tells a fault of the text
unfoldable pub added : (Result MetaView MetaFault → Option MetaFault) → SessionState
    → (path text : List ℕ) → Result (Id8 × SessionState) Refusal
added fault s path text =
    if_writes (writes s) (unless_bad (fault (meta_of text)) (entered s path text))

abbrev pub group_added : SessionState → (path text : List ℕ) → Result (Id8 × SessionState) Refusal
group_added = added group_fault

abbrev pub array_added : SessionState → (path text : List ℕ) → Result (Id8 × SessionState) Refusal
array_added = added array_fault

-- a group or an array, as the text says
abbrev pub node_added : SessionState → (path text : List ℕ) → Result (Id8 × SessionState) Refusal
node_added = added node_fault

-- ---- other metadata, and nodes that are dropped
abbrev pub text_changed : SessionState → (path text : List ℕ) → SessionState
text_changed s path text = record s { held = with_text_at s.held (base_nodes s) path text }

-- the session in which the node at a path has another text, or the first refusal: ReadOnly,
-- BadMeta, those of the edit on its tree
unfoldable pub meta_set : SessionState → (path text : List ℕ) → Result SessionState Refusal
meta_set s path text =
    if_writes (writes s)
    (unless_bad (node_fault (meta_of text))
    (unless_refused (text_refusal (nodes_seen s) path text) (Ok (text_changed s path text))))

abbrev pub node_gone : SessionState → (path : List ℕ) → SessionState
node_gone s path = record s { held = without_node s.held (base_nodes s) path }

-- the session without the node at a path and all beneath it, or the first refusal:
-- ReadOnly, that of the edit on its tree
unfoldable pub node_dropped : SessionState → (path : List ℕ) → Result SessionState Refusal
node_dropped s path =
    if_writes (writes s) (unless_refused (drop_refusal (nodes_seen s) path) (Ok (node_gone s path)))

-- ---- properties of the snapshot to come
abbrev pub with_prop : SessionState → (name value : List ℕ) → SessionState
with_prop s name value = record s { props = insert_entry name_cmp s.props name value }

abbrev pub unless_unfit : {A : Type 0} → Option PropFault → Result A Refusal → Result A Refusal
unless_unfit None r = r
unless_unfit (Some fault) r = Err (R.BadProp fault)

-- the session with one more property of the snapshot that it commits, or the
-- first refusal: ReadOnly, BadProp
unfoldable pub prop_added : SessionState → (name value : List ℕ) → Result SessionState Refusal
prop_added s name value =
    if_writes (writes s)
    (unless_unfit (prop_fault s.props name value) (Ok (with_prop s name value)))

-- ---- what the calls answer and leave
-- nothing changed but that one id may have been drawn
abbrev pub SameOrDrawn : SessionState → SessionState → Type 0
SameOrDrawn old new = (new ≡ old) ⊎ (new ≡ record old { ids = after8 old.ids })

-- a node was added, and its id is answered; or this was refused, and the session is as before
abbrev pub Adds : (expected : Result (Id8 × SessionState) Refusal) → SessionState
    → Result Id8 Refusal → SessionState → Type 0
Adds expected old (Ok id) new = expected ≡ Ok (id, new)
Adds expected old (Err R.NoMemory) new = SameOrDrawn old new
Adds expected old (Err refusal) new = (expected ≡ Err refusal) × (new ≡ old)

-- the session was changed; or this was refused, and it is as before, as where there was no memory
abbrev pub Leaves : (expected : Result SessionState Refusal) → SessionState
    → Result (Unit {0}) Refusal → SessionState → Type 0
Leaves expected old (Ok done) new = expected ≡ Ok new
Leaves expected old (Err R.NoMemory) new = new ≡ old
Leaves expected old (Err refusal) new = (expected ≡ Err refusal) × (new ≡ old)

-- ---- reads
abbrev pub listing : List ℕ × Node → Listing
listing row = record { path = row.0; array = is_array row.1.text }

-- what stands beneath a path, in the order of the paths' bytes
abbrev pub beneath : SessionState → List ℕ → List Listing
beneath s path = map listing (filter (λ row. is_beneath path row.0) (entries (nodes_seen s)))

abbrev pub if_there : {A B : Type 0} → Option A → B → Result B Refusal
if_there None b = Err (R.Edit E.NoNode)
if_there (Some a) b = Ok b

-- the listing, or NoNode where the session's tree has no node at the path
abbrev pub listed : SessionState → List ℕ → Result (List Listing) Refusal
listed s path = if_there (get (nodes_seen s) path) (beneath s path)

-- the text of the node at a path, or NoNode
abbrev pub text_at : SessionState → List ℕ → Result (List ℕ) Refusal
text_at s path =
    ok_or (option_map (λ (n : Node). n.text) (get (nodes_seen s) path)) (R.Edit E.NoNode)

-- the call found this text, or was refused
abbrev pub text_found : Result (Bor Meta) Refusal → Result (List ℕ) Refusal
text_found (Ok meta) = Ok meta.now.text
text_found (Err refusal) = Err refusal

-- what a call answers, unless it found no memory
abbrev pub Answers : {A : Type 0} → Result A Refusal → Result A Refusal → Type 0
Answers expected (Ok a) = expected ≡ Ok a
Answers expected (Err R.NoMemory) = Unit {0}
Answers expected (Err refusal) = expected ≡ Err refusal
