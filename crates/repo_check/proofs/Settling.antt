-- Where chains of parents end.
use Rattle.std.proofs.Common.{◌≡◌, ◌⊎◌, inl, inr, List, [], ◌∷◌, ◌++◌, refl, sym, ◌∙◌, ap, subst}
use Rattle.std.specs.Prelude.{Option, Some, None, Result, Ok, Err, Contains}
use Rattle.ice_ids.specs.declared.Id12.{Id12}
use Rattle.snapshot_file.specs.declared.snapshot.SnapshotFile.{SnapshotFile}
use Rattle.object_store.specs.declared.events.Got.{Got}
use Rattle.object_store.specs.declared.events.Reply.{Reply}
use Rattle.object_store.specs.declared.events.Reply.TheVariants.{Got as Is_got}
use Rattle.intact.specs.Told.{found_snapshot}
use Rattle.intact.specs.Visits.{Visit, Snap}
use Rattle.intact.specs.Intact.{Made, WasAnswered, HasParent, IsAbove}
use Rattle.intact.specs.Intact as intact
use Rattle.repo_check.specs.Findings.{Finding, Comes_back}
use Rattle.repo_check.specs.Exact.{AreOnce}
use Rattle.repo_check.proofs.Made.{Grows, parent-grows, above-then, told-once, one-parent}

-- the get of a snapshot leads to no parent
abbrev pub NoParent : Id12 → Got → Type 0
NoParent id got = (s : SnapshotFile) (p : Id12) → found_snapshot id got ≡ Ok s → s.parent ≡ Some p → ⊥

-- the chain from a snapshot ends, or comes to one to which a walk came back
pub data Settled (f : List Finding) (m : List Made) : Id12 → Type 0 where
  stop : {id : Id12} (got : Got) → WasAnswered m (Snap id) (Is_got got) → NoParent id got → Settled f m id
  back : {id : Id12} → Contains f (Comes_back id) → Settled f m id
  down : {id parent : Id12} → HasParent m id parent → Settled f m parent → Settled f m id

pub record Extends (f : List Finding) (m : List Made) (g : List Finding) (n : List Made) : Type 0 where
  pub grows : Grows m n
  pub backs : (id : Id12) → Contains f (Comes_back id) → Contains g (Comes_back id)

pub settled-grows : (f g : List Finding) (m n : List Made) (id : Id12) → Extends f m g n → Settled f m id → Settled g n id
settled-grows f g m n id x (stop got t bare) = stop got (x.grows (Snap id) (Is_got got) t) bare
settled-grows f g m n id x (back c) = back (x.backs id c)
settled-grows f g m n id x (down h s) = down (parent-grows m n _ _ x.grows h) (settled-grows f g m n _ x s)

-- where one's own parent is known
no-parent : (m : List Made) (id p : Id12) (got : Got) → AreOnce m → WasAnswered m (Snap id) (Is_got got) → NoParent id got → HasParent m id p → ⊥
no-parent m id p got o t bare h =
    let same_reply : Is_got got ≡ Is_got h.got = told-once m (Snap id) (Is_got got) (Is_got h.got) o tt t h.answered in
    let same_got : got ≡ h.got = cc in
    bare h.file p (ap (found_snapshot id) same_got ∙ h.read) h.is

first-parent : (m : List Made) (a b : Id12) → IsAbove m a b → (p : Id12) × HasParent m a p
first-parent m a b (intact.next h) = (b, h)
first-parent m a b (intact.further {parent} h i) = (parent, h)

-- the parent of one that is above itself is above itself
around : (m : List Made) (id p : Id12) → AreOnce m → HasParent m id p → IsAbove m id id → IsAbove m p p
around m id p o h (intact.next i) =
    let same : p ≡ id = one-parent m id p id o h i in
    intact.next (subst (λ (x : Id12). HasParent m x p) (sym same) h)
around m id p o h (intact.further {parent} i a) =
    let same : parent ≡ p = one-parent m id parent p o i h in
    above-then m p id p (subst (λ (x : Id12). IsAbove m x id) same a) h

-- one that is above itself comes to one to which a walk came back
pub settled-ring : (f : List Finding) (m : List Made) (id : Id12) → AreOnce m → Settled f m id → IsAbove m id id → (ring : Id12) × Contains f (Comes_back ring) × ((id ≡ ring) ⊎ IsAbove m id ring)
settled-ring f m id o (stop got t bare) a = let first = first-parent m id id a in absurd (no-parent m id first.0 got o t bare first.1)
settled-ring f m id o (back c) a = (id, c, inl refl)
settled-ring f m id o (down {parent} h s) a =
    let rest = settled-ring f m parent o s (around m id parent o h a) in (
      rest.0,
      rest.1,
      inr (elim rest.2 [
        | inl e ↦ subst (λ (y : Id12). IsAbove m id y) e (intact.next h)
        | inr b ↦ intact.further h b
      ]),
    )
