use Rattle.std.proofs.Common.{◌≡◌, ◌++◌, ◌∷◌, [], ℕ, ◌+◌, List, true, false, drop, append_assoc, append-nil, refl, sym, ap, ◌∙◌, arith}
use Rattle.std.proofs.lemmas.List.{drop_all}
use Rattle.ice_ids.specs.declared.Id12.{Id12}
use Rattle.snapshot_file.specs.declared.nodes.ManifestRef.{ManifestRef}
use Rattle.held_manifest.specs.LookUp.{within}
use Rattle.held_snapshot.proofs.Made.{from_here}
use Rattle.manifest_index.specs.Merging.{ids_within}
use Rattle.manifest_index.proofs.manifests_within.candidates.Goals as goal
use Rattle.manifest_index.proofs.manifests_within.candidates.Goals.{then-contain+in_ok-push, else-contain}

taken : (index : List ℕ) (m : ManifestRef) (rest : List ManifestRef) (ids : List Id12) → within m.extents index ≡ true → (ids ++ m.id ∷ []) ++ ids_within index rest ≡ ids ++ ids_within index (m ∷ rest)
taken index m rest ids is = rw (is, append_assoc) refl

passed : (index : List ℕ) (m : ManifestRef) (rest : List ManifestRef) (ids : List Id12) → within m.extents index ≡ false → ids ++ ids_within index rest ≡ ids ++ ids_within index (m ∷ rest)
passed index m rest ids is = rw is refl

pub loop-at-preserved : goal.loop-at-preserved
loop-at-preserved c =
    let index = c.args.index.now in
    let m = c.at-manifest.result in
    let ids : List Id12 = c.loop-at.ids in
    let rest = drop (c.loop-at.at + 1) c.args.refs.now in
    let here = ap (λ (ms : List ManifestRef). ids ++ ids_within index ms) (from_here c.args.refs.now c.loop-at.at m c.at-manifest.ensures) in
    let test : c.contain.result ≡ within m.extents index = c.contain.ensures ∙ (λ i. within (c.extents.ensures i) (c.parts.ensures.value i)) in
    elim c.if-contain.branch [
      | then-contain+in_ok-push w ↦
          ap (λ (xs : List Id12). xs ++ ids_within index rest) (w.ids-is ∙ w.in_ok-push.ensures.ok ∙ ap (λ (id : Id12). ids ++ id ∷ []) w.id.ensures)
          ∙ taken index m rest ids (sym test ∙ w.if-contain.true) ∙ sym here ∙ c.loop-at.invariant
      | else-contain w ↦
          ap (λ (xs : List Id12). xs ++ ids_within index rest) w.ids-is ∙ passed index m rest ids (sym test ∙ w.if-contain.false) ∙ sym here ∙ c.loop-at.invariant
    ]

pub returns : goal.returns
returns c =
    let refs = c.args.refs.now in
    let none = ap (λ (ms : List ManifestRef). c.loop-at.ids ++ ids_within c.args.index.now ms) (drop_all c.loop-at.at refs (omega (arith, c.len-at-end.ensures, c.loop-at-test.false))) in
    sym (none ∙ append-nil c.loop-at.ids) ∙ c.loop-at.invariant
