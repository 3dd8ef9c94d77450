-- Which manifests and objects have told a fault, with one more fault.
use Rattle.std.proofs.Common.{◌≡◌, Bool, true, false, cond, not, List, [], ◌∷◌, ◌++◌, refl, sym, ◌∙◌, ap, subst, Result, Ok, Err}
use Rattle.std.specs.Prelude.{◌||◌, IfOk, OnOk}
use Rattle.std.proofs.lemmas.List.Folds.{list_any-append}
use Rattle.ice_ids.specs.declared.Id12.{Id12}
use Rattle.ice_ids.specs.Text.{same_id12}
use Rattle.ice_ids.specs.Sets.{has_object}
use Rattle.object_store.specs.declared.keys.Key.{Key}
use Rattle.object_store.specs.declared.keys.Key.TheVariants.{Snapshot, Manifest, Txn, Chunk, Branch, Tag, Tombstone, Lease}
use Rattle.object_store.specs.Machine.{same_key}
use Rattle.check_reports.specs.declared.faults.FaultKind.{FaultKind}
use Rattle.check_reports.specs.declared.faults.CheckFault.{CheckFault}
use Rattle.ice_ids.proofs.TextLaws.{same_id12-true}
use Rattle.repo_check.specs.Works.{has_fault, and_fault, unless_told, with_fault}
use Rattle.repo_check.specs.inside.Telling.{AreTold, NotesOne, Notes}

has-more : (faults : List CheckFault) (key q : Key) (kind : FaultKind) → has_fault (and_fault key kind faults) q ≡ (has_fault faults q || (same_key key q || false))
has-more faults key q kind = list_any-append (λ (fault : CheckFault). same_key fault.key q) faults (record { key = key; kind = kind } ∷ [])

turned : (a b : Bool) → (a || b) ≡ (b || (a || false))
turned true true = refl
turned true false = refl
turned false true = refl
turned false false = refl

same : (a : Bool) → a ≡ (a || (false || false))
same true = refl
same false = refl

module _ (files objects : List Id12) (faults : List CheckFault) (t : AreTold files objects faults) (kind : FaultKind) where
  -- of a manifest
  pub told-file : (id : Id12) (more : List Id12) → ((q : Id12) → has_object more q ≡ has_object (id ∷ files) q) → AreTold more objects (and_fault (Manifest id) kind faults)
  told-file id more members = record {
    files_are = λ q. members q ∙ (ap (λ (b : Bool). same_id12 id q || b) (t.files_are q) ∙ (turned (same_id12 id q) (has_fault faults (Manifest q)) ∙ sym (has-more faults (Manifest id) (Manifest q) kind)));
    objects_are = λ q. t.objects_are q ∙ (same (has_fault faults (Chunk q)) ∙ sym (has-more faults (Manifest id) (Chunk q) kind));
  }

  -- of an object with chunks
  pub told-object : (id : Id12) (more : List Id12) → ((q : Id12) → has_object more q ≡ has_object (id ∷ objects) q) → AreTold files more (and_fault (Chunk id) kind faults)
  told-object id more members = record {
    files_are = λ q. t.files_are q ∙ (same (has_fault faults (Manifest q)) ∙ sym (has-more faults (Chunk id) (Manifest q) kind));
    objects_are = λ q. members q ∙ (ap (λ (b : Bool). same_id12 id q || b) (t.objects_are q) ∙ (turned (same_id12 id q) (has_fault faults (Chunk q)) ∙ sym (has-more faults (Chunk id) (Chunk q) kind)));
  }

  -- of another object
  pub told-other : (key : Key) → ((q : Id12) → same_key key (Manifest q) ≡ false) → ((q : Id12) → same_key key (Chunk q) ≡ false) → AreTold files objects (and_fault key kind faults)
  told-other key a b = record {
    files_are = λ q. t.files_are q ∙ (same (has_fault faults (Manifest q)) ∙ sym (has-more faults key (Manifest q) kind ∙ ap (λ (x : Bool). has_fault faults (Manifest q) || (x || false)) (a q)));
    objects_are = λ q. t.objects_are q ∙ (same (has_fault faults (Chunk q)) ∙ sym (has-more faults key (Chunk q) kind ∙ ap (λ (x : Bool). has_fault faults (Chunk q) || (x || false)) (b q)));
  }

-- a fault that is new, and one that isn't
pub new-told : (key : Key) (kind : FaultKind) (faults : List CheckFault) (held : Bool) → held ≡ has_fault faults key → not held ≡ true → unless_told key kind faults ≡ and_fault key kind faults
new-told key kind faults true e n = absurd cc
new-told key kind faults false e n = ap (λ (b : Bool). cond b faults (and_fault key kind faults)) (sym e)

pub old-told : (key : Key) (kind : FaultKind) (faults : List CheckFault) (held : Bool) → held ≡ has_fault faults key → not held ≡ false → unless_told key kind faults ≡ faults
old-told key kind faults true e n = ap (λ (b : Bool). cond b faults (and_fault key kind faults)) (sym e)
old-told key kind faults false e n = absurd cc

-- ---- what is noted
-- one that is in a set already changes nothing in it
held-already : (ids : List Id12) (id q : Id12) → has_object ids id ≡ true → has_object (id ∷ ids) q ≡ has_object ids q
held-already ids id q h = go (same_id12 id q) refl
  where
    go : (b : Bool) → same_id12 id q ≡ b → (b || has_object ids q) ≡ has_object ids q
    go true e = sym (ap (has_object ids) (sym (same_id12-true id q e)) ∙ h)
    go false e = refl

chosen : (key : Key) (kind : FaultKind) (faults : List CheckFault) (new b : Bool) → new ≡ b → cond b (and_fault key kind faults) faults ≡ cond new (and_fault key kind faults) faults
chosen key kind faults new b e = ap (λ (x : Bool). cond x (and_fault key kind faults) faults) (sym e)

note-file : (files objects more : List Id12) (id : Id12) (new held : Bool) → has_object files id ≡ held → new ≡ not held → ((q : Id12) → has_object more q ≡ has_object (id ∷ files) q) → Notes (Manifest id) files objects new more objects
note-file files objects more id new true h e members = λ kind faults t.
    let old = old-told (Manifest id) kind faults true (sym h ∙ t.files_are id) refl in
    record {
      is = old ∙ chosen (Manifest id) kind faults new false e;
      told = subst (λ (fs : List CheckFault). AreTold more objects fs) (sym old) (record { files_are = λ q. members q ∙ (held-already files id q h ∙ t.files_are q); objects_are = t.objects_are });
    }
note-file files objects more id new false h e members = λ kind faults t.
    let one = new-told (Manifest id) kind faults false (sym h ∙ t.files_are id) refl in
    record {
      is = one ∙ chosen (Manifest id) kind faults new true e;
      told = subst (λ (fs : List CheckFault). AreTold more objects fs) (sym one) (told-file files objects faults t kind id more members);
    }

note-object : (files objects more : List Id12) (id : Id12) (new held : Bool) → has_object objects id ≡ held → new ≡ not held → ((q : Id12) → has_object more q ≡ has_object (id ∷ objects) q) → Notes (Chunk id) files objects new files more
note-object files objects more id new true h e members = λ kind faults t.
    let old = old-told (Chunk id) kind faults true (sym h ∙ t.objects_are id) refl in
    record {
      is = old ∙ chosen (Chunk id) kind faults new false e;
      told = subst (λ (fs : List CheckFault). AreTold files more fs) (sym old) (record { files_are = t.files_are; objects_are = λ q. members q ∙ (held-already objects id q h ∙ t.objects_are q) });
    }
note-object files objects more id new false h e members = λ kind faults t.
    let one = new-told (Chunk id) kind faults false (sym h ∙ t.objects_are id) refl in
    record {
      is = one ∙ chosen (Chunk id) kind faults new true e;
      told = subst (λ (fs : List CheckFault). AreTold files more fs) (sym one) (told-object files objects faults t kind id more members);
    }

-- by the answer of the set
pub file-noted : {E : Type 0} (files objects more : List Id12) (id : Id12) (result : Result Bool E) → IfOk result (λ new. new ≡ not (has_object files id)) → OnOk result ((q : Id12) → has_object more q ≡ has_object (id ∷ files) q) → IfOk result (λ new. Notes (Manifest id) files objects new more objects)
file-noted files objects more id (Ok new) e members = note-file files objects more id new (has_object files id) refl e members
file-noted files objects more id (Err fault) e members = tt

pub object-noted : {E : Type 0} (files objects more : List Id12) (id : Id12) (result : Result Bool E) → IfOk result (λ new. new ≡ not (has_object objects id)) → OnOk result ((q : Id12) → has_object more q ≡ has_object (id ∷ objects) q) → IfOk result (λ new. Notes (Chunk id) files objects new files more)
object-noted files objects more id (Ok new) e members = note-object files objects more id new (has_object objects id) refl e members
object-noted files objects more id (Err fault) e members = tt

-- another object
pub other-noted : (key : Key) (files objects : List Id12) → ((id : Id12) → key ≡ Manifest id → ⊥) → ((id : Id12) → key ≡ Chunk id → ⊥) → Notes key files objects true files objects
other-noted (Manifest id) files objects a b = λ kind faults t. absurd (a id refl)
other-noted (Chunk id) files objects a b = λ kind faults t. absurd (b id refl)
other-noted (Snapshot id) files objects a b = λ kind faults t. record { is = refl; told = told-other files objects faults t kind (Snapshot id) (λ q. refl) (λ q. refl) }
other-noted (Txn id) files objects a b = λ kind faults t. record { is = refl; told = told-other files objects faults t kind (Txn id) (λ q. refl) (λ q. refl) }
other-noted (Branch name) files objects a b = λ kind faults t. record { is = refl; told = told-other files objects faults t kind (Branch name) (λ q. refl) (λ q. refl) }
other-noted (Tag name) files objects a b = λ kind faults t. record { is = refl; told = told-other files objects faults t kind (Tag name) (λ q. refl) (λ q. refl) }
other-noted (Tombstone name) files objects a b = λ kind faults t. record { is = refl; told = told-other files objects faults t kind (Tombstone name) (λ q. refl) (λ q. refl) }
other-noted (Lease id) files objects a b = λ kind faults t. record { is = refl; told = told-other files objects faults t kind (Lease id) (λ q. refl) (λ q. refl) }

-- what is pushed then
pub told-faults : (key : Key) (kind : FaultKind) (faults made pushed : List CheckFault) (new : Bool) → made ≡ faults → pushed ≡ cond new (made ++ record { key = key; kind = kind } ∷ []) made → with_fault key kind faults ≡ cond new (and_fault key kind faults) faults → pushed ≡ with_fault key kind faults
told-faults key kind faults made pushed new m p w = p ∙ (ap (λ (fs : List CheckFault). cond new (and_fault key kind fs) fs) m ∙ sym w)
