-- What sources of ids may still draw.
use Rattle.std.proofs.Common.{◌≡◌, ◌≢◌, ℕ, ◌≤◌, sym, ◌∙◌, subst, arith}
use Rattle.std.specs.Prelude.{Some}
use Rattle.ice_ids.specs.declared.Id8.{Id8}
use Rattle.ice_ids.specs.declared.Id12.{Id12}
use Rattle.ice_ids.specs.declared.drawing.AnyIds.{AnyIds}
use Rattle.ice_ids.specs.declared.drawing.Draw.{Draw}
use Rattle.ice_ids.specs.Text.{initial_id}
use Rattle.ice_ids.specs.Drawing.{client_of, left_of, drawn12, after12, drawn8, after8, IsAmong, DrawsOnce}
use Rattle.ice_ids.specs.Sources.{any_source12, any_source8}
use Rattle.ice_ids.proofs.Drawn.{after8-draw, left-node, left-object}
use Rattle.session.specs.Sources.{IsLater, MayDrawObject, MayDrawNode}
use Rattle.commit_path.proofs.Sources.{later-same, later-later, later-drawn12}

-- ---- later sources
pub later-drawn8 : (ids : AnyIds) → IsLater ids (after8 ids)
later-drawn8 ids = let moves = any_source8.moves ids in record { way = after8-draw ids; client = any_source8.keeps ids; left = omega (arith, moves) }

-- what a source draws now
pub node-now : (ids : AnyIds) (id : Id8) → drawn8 ids ≡ Some id → MayDrawNode ids id
node-now ids id d = record { later = ids; is_later = later-same ids; drawn = d }

-- what a later source may draw
pub node-later : (ids later : AnyIds) (id : Id8) → IsLater ids later → MayDrawNode later id → MayDrawNode ids id
node-later ids later id l m = record { later = m.later; is_later = later-later ids later m.later l m.is_later; drawn = m.drawn }

-- no node id that a source draws is drawn again
abbrev pub SpendsNodes : AnyIds → Type 0
SpendsNodes ids = (later : AnyIds) (id : Id8) → IsLater ids later → drawn8 later ≡ Some id → ¬ MayDrawNode (after8 later) id

module _ (draw : Draw) (most : ℕ) where
  -- a later source is among them too
  pub among-later : (ids later : AnyIds) → IsLater ids later → IsAmong draw most ids → IsAmong draw most later
  among-later ids later l a = record { way = l.way ∙ a.way; small = subst (λ (n : ℕ). n ≤ most) (sym l.client) a.small }

  -- ---- an id is drawn once
  module _ (once : DrawsOnce draw most) where
    -- what was drawn isn't drawn again
    pub node-spent : (ids : AnyIds) (id : Id8) → IsAmong draw most ids → drawn8 ids ≡ Some id → ¬ MayDrawNode (after8 ids) id
    node-spent ids id among d m =
        let later = later-later ids (after8 ids) m.later (later-drawn8 ids) m.is_later in
        let same : left_of m.later ≡ left_of ids = (once.nodes m.later ids id (among-later ids m.later later among) among m.drawn d).1 in
        let some : left_of ids ≢ 0 = left-node ids id d in
        let moves = any_source8.moves ids in
        let left = m.is_later.left in
        omega (arith, same, some, moves, left)

    pub object-spent : (ids : AnyIds) (id : Id12) → IsAmong draw most ids → drawn12 ids ≡ Some id → ¬ MayDrawObject (after12 ids) id
    object-spent ids id among d m =
        let later = later-later ids (after12 ids) m.later (later-drawn12 ids) m.is_later in
        let same : left_of m.later ≡ left_of ids = (once.objects m.later ids id (among-later ids m.later later among) among m.drawn d).1 in
        let some : left_of ids ≢ 0 = left-object ids id d in
        let moves = any_source12.moves ids in
        let left = m.is_later.left in
        omega (arith, same, some, moves, left)

    -- so it is of what any later source draws
    pub node-spends : (ids : AnyIds) → IsAmong draw most ids → SpendsNodes ids
    node-spends ids among later id l d = node-spent later id (among-later ids later l among) d

    -- two clients draw no id both
    pub node-apart : (a b : AnyIds) (id : Id8) → IsAmong draw most a → IsAmong draw most b → MayDrawNode a id → MayDrawNode b id → client_of a ≡ client_of b
    node-apart a b id among other m n =
        sym m.is_later.client ∙ ((once.nodes m.later n.later id (among-later a m.later m.is_later among) (among-later b n.later n.is_later other) m.drawn n.drawn).0 ∙ n.is_later.client)

    pub object-apart : (a b : AnyIds) (id : Id12) → IsAmong draw most a → IsAmong draw most b → MayDrawObject a id → MayDrawObject b id → client_of a ≡ client_of b
    object-apart a b id among other m n =
        sym m.is_later.client ∙ ((once.objects m.later n.later id (among-later a m.later m.is_later among) (among-later b n.later n.is_later other) m.drawn n.drawn).0 ∙ n.is_later.client)

    -- no object id that is drawn is the initial snapshot's
    pub object-not_initial : (ids : AnyIds) (id : Id12) → IsAmong draw most ids → MayDrawObject ids id → id ≢ initial_id
    object-not_initial ids id among m = once.others m.later id (among-later ids m.later m.is_later among) m.drawn
