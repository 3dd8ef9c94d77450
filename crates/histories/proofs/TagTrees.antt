-- The trees of tags stay, where nothing is put again.
use Rattle.std.proofs.Common.{◌≡◌, ℕ, ◌++◌, refl, sym, ◌∙◌, ap, subst}
use Rattle.std.specs.Prelude.{Option, Some, None}
use Rattle.ice_ids.specs.declared.Id12.{Id12}
use Rattle.zarr_tree.specs.Trees.{Tree}
use Rattle.repo_objects.specs.Readings.{ref_of}
use Rattle.object_store.specs.declared.keys.Key.TheVariants.{Tag, Tombstone}
use Rattle.object_store.specs.Machine.{Stored, found}
use Rattle.store_api.specs.Journal.{NamesPut, tree_of}
use Rattle.store_api.proofs.Naming.{names-law}
use Rattle.store_api.proofs.Standing.{standing}
use Rattle.histories.specs.Repository.{Entry}
use Rattle.histories.specs.Calls.{HasItsTree, StandsAs}
use Rattle.histories.specs.Tags.{TagState, Absent, Stands, Gone, made_as, GoesOnAs}
use Rattle.histories.specs.TagCalls.{tag_of, IsBuriedAs, StandsByState}
use Rattle.histories.specs.Formats.{files_by}
use Rattle.histories.specs.Laws.{KeepsItsTree}
use Rattle.histories.proofs.Tagging.{never-moves, tags-law}

pub entry-same : (a b : Entry) → a.version ≡ b.version → a.id ≡ b.id → a.tree ≡ b.tree → a ≡ b
entry-same a b v i t =
    ap (λ (n : ℕ). record { version = n; id = a.id; tree = a.tree }) v
    ∙ ap (λ (x : Id12). record { version = b.version; id = x; tree = a.tree }) i
    ∙ ap (λ (x : Option Tree). record { version = b.version; id = b.id; tree = x }) t

-- two states beside the same store, by trees that agree on the snapshot that is named there
module _ (T U : Id12 → Option Tree) (at : Option Stored) (agree : (x : Stored) (id : Id12) → at ≡ Some x → ref_of x.bytes ≡ Some id → T id ≡ U id) where
  made-same : (a b : Option Entry) → (o : Option Stored) → at ≡ o → StandsAs (files_by T) o a → StandsAs (files_by U) o b → HasItsTree T a → HasItsTree U b → a ≡ b
  made-same None None o e h k t u = refl
  made-same None (Some y) None e h k t u = absurd k
  made-same None (Some y) (Some x) e h k t u = absurd h
  made-same (Some z) None None e h k t u = absurd h
  made-same (Some z) None (Some x) e h k t u = absurd k
  made-same (Some z) (Some y) None e h k t u = absurd h
  made-same (Some z) (Some y) (Some x) e h k t u =
      let first : ref_of x.bytes ≡ Some z.id = h.1 in
      let second : ref_of x.bytes ≡ Some y.id = k.1 in
      let ids : z.id ≡ y.id = cc in
      ap (λ (w : Entry). Some w) (entry-same z y (sym h.0 ∙ k.0) ids (t ∙ agree x z.id e first ∙ ap U ids ∙ sym u))

  state-same : (r s : TagState) (tombstone : Option Stored) → made_as r ≡ made_as s → IsBuriedAs r tombstone → IsBuriedAs s tombstone → r ≡ s
  state-same Absent Absent o m h k = refl
  state-same Absent (Stands y) o m h k = cc
  state-same Absent (Gone y) o m h k = cc
  state-same (Stands z) Absent o m h k = cc
  state-same (Stands z) (Stands y) o m h k = let e : z ≡ y = cc in ap Stands e
  state-same (Stands z) (Gone y) o m h k = let there = k.1 in cc
  state-same (Gone z) Absent o m h k = cc
  state-same (Gone z) (Stands y) o m h k = let there = h.1 in cc
  state-same (Gone z) (Gone y) o m h k = let e : z ≡ y = cc in ap Gone e

pub keeps-its-tree : KeepsItsTree
keeps-its-tree journal more name good once goods firsts =
    subst (λ (s : TagState). GoesOnAs s (tag_of (files_by (tree_of (journal ++ more))) (journal ++ more) name)) same (never-moves (files_by (tree_of (journal ++ more))) journal more name)
  where
    agree : (x : Stored) (id : Id12) → found journal (Tag name) ≡ Some x → ref_of x.bytes ≡ Some id → tree_of (journal ++ more) id ≡ tree_of journal id
    agree x id e r =
        let put : NamesPut journal x.bytes = (names-law journal good).tags name x e in
        let named = put.reference in
        let same : put.id ≡ id = cc in
        subst (λ (i : Id12). tree_of (journal ++ more) i ≡ tree_of journal i) same (standing put.id journal more once put.put goods firsts)

    same : tag_of (files_by (tree_of (journal ++ more))) journal name ≡ tag_of (files_by (tree_of journal)) journal name
    same =
        let new : StandsByState (files_by (tree_of (journal ++ more))) journal name = (tags-law (tree_of (journal ++ more)) journal good).1 name in
        let old : StandsByState (files_by (tree_of journal)) journal name = (tags-law (tree_of journal) journal good).1 name in
        state-same (tree_of (journal ++ more)) (tree_of journal) (found journal (Tag name)) agree (tag_of (files_by (tree_of (journal ++ more))) journal name) (tag_of (files_by (tree_of journal)) journal name) (found journal (Tombstone name))
        (made-same (tree_of (journal ++ more)) (tree_of journal) (found journal (Tag name)) agree (made_as (tag_of (files_by (tree_of (journal ++ more))) journal name)) (made_as (tag_of (files_by (tree_of journal)) journal name)) (found journal (Tag name)) refl new.tag old.tag new.tree old.tree)
        new.tombstone old.tombstone
