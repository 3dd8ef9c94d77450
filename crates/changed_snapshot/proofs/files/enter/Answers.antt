use Rattle.std.proofs.Common.{◌≡◌, ◌∙◌, ◌+◌, ◌∷◌, ◌||◌, drop, ap, sym}
use Rattle.std.proofs.lemmas.List.{drop_more}
use Rattle.snapshot_file.specs.declared.nodes.ManifestRef.{ManifestRef}
use Rattle.changed_snapshot.specs.inside.Named.{has_id, have_id}
use Rattle.changed_snapshot.proofs.IdSets.{next_id}
use Rattle.changed_snapshot.proofs.files.enter.Goals as goal

pub loop-manifest-preserved : goal.loop-manifest-preserved
loop-manifest-preserved c id =
    let at = c.loop-manifest.manifest-index in
    let manifests = c.args.manifests.now in
    let manifest = c.manifest-item.result in
    let left : drop at manifests ≡ manifest ∷ drop (at + 1) manifests =
    drop_more manifests at manifest c.loop-manifest-test.true ∙ ap (λ (m : ManifestRef). m ∷ drop (at + 1) manifests) (sym c.manifest-item.is)
    in
    ap (λ ids. has_id ids id || have_id (drop (at + 1) manifests) id) c.in_ok-insert.ensures.keys
    ∙ next_id c.loop-manifest.ids.keys manifest (drop at manifests) (drop (at + 1) manifests) id left
    ∙ c.loop-manifest.invariant id
