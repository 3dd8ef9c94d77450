-- Chains of parents that end.
use Rattle.std.proofs.Common.{◌≡◌, List, subst}
use Rattle.std.specs.Prelude.{Option, Some, None}
use Rattle.ice_ids.specs.declared.Id12.{Id12}
use Rattle.object_store.specs.declared.events.Event.{Event}
use Rattle.reach.specs.Chains.{Chain, here, down, parent_at}
use Rattle.check_calls.specs.Whole.{ChainEnds, last, further}

pub chain-join : {journal : List Event} {a b x : Id12} → Chain journal a b → Chain journal b x → Chain journal a x
chain-join here d = d
chain-join (down e c) d = down e (chain-join c d)

-- a chain, and one parent more
pub chain-more : {journal : List Event} {a b parent : Id12} → Chain journal a b → parent_at journal b ≡ Some parent → Chain journal a parent
chain-more c e = chain-join c (down e here)

same-parent : (o : Option Id12) (a b : Id12) → o ≡ Some a → o ≡ Some b → a ≡ b
same-parent o a b e f = cc

no-parent : (o : Option Id12) (a : Id12) → o ≡ None → o ≡ Some a → ⊥
no-parent o a e f = cc

-- down a chain that ends it ends too
pub ends-below : (journal : List Event) (id at : Id12) → ChainEnds journal id → Chain journal id at → ChainEnds journal at
ends-below journal id at e here = e
ends-below journal id at (last none) (down p c) = absurd (no-parent (parent_at journal id) _ none p)
ends-below journal id at (further {parent = parent} q e) (down {parent = below} p c) =
    let same : below ≡ parent = same-parent (parent_at journal id) below parent p q in
    ends-below journal parent at e (subst (λ (x : Id12). Chain journal x at) same c)

-- a snapshot is below another along parents
pub record IsBelow (journal : List Event) (id at : Id12) : Type 0 where
  pub parent : Id12
  pub is : parent_at journal id ≡ Some parent
  pub chain : Chain journal parent at

turn : (journal : List Event) (id parent : Id12) → parent_at journal id ≡ Some parent → Chain journal parent id → IsBelow journal parent parent
turn journal id parent e here = record { parent = id; is = e; chain = here }
turn journal id parent e (down {parent = below} f c) = record { parent = below; is = f; chain = chain-more c e }

-- none is below itself where the chain ends
pub no-loop : (journal : List Event) (id : Id12) → ChainEnds journal id → IsBelow journal id id → ⊥
no-loop journal id (last none) b = no-parent (parent_at journal id) b.parent none b.is
no-loop journal id (further {parent = parent} q e) b =
    let same : b.parent ≡ parent = same-parent (parent_at journal id) b.parent parent b.is q in
    no-loop journal parent e (subst (λ (x : Id12). IsBelow journal x x) same (turn journal id b.parent b.is b.chain))
