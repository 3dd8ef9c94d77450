use Rattle.std.proofs.Common.{true, ap, sym, ◌∙◌, arith}
use Rattle.std.specs.List.{list_all}
use Rattle.ice_ids.specs.declared.Id12.{Id12}
use Rattle.snapshot_file.specs.declared.nodes.ManifestRef.{ManifestRef}
use Rattle.snapshot_file.specs.Snapshots.{is_listed}
use Rattle.std.proofs.Common.{List}
use Rattle.held_snapshot.specs.LookUp.{has_file}
use Rattle.held_snapshot.proofs.Found.{before_none, before_more, all_pass, not_all}
use Rattle.held_snapshot.proofs.listed_files.all_listed.Goals as goal

pub loop-i-init : goal.loop-i-init
loop-i-init c = before_none (is_listed c.args.files.now) true c.manifests-manifests.result

pub returns-then-not-has : goal.returns-then-not-has
returns-then-not-has c =
    let files = c.args.files.now in
    let test = ap (λ (id : Id12). has_file files id) (sym c.id.ensures) ∙ sym c.has.ensures ∙ c.if-not-has.true in
    let named = c.manifests-manifests.ensures in
    sym (ap (λ (ms : List ManifestRef). list_all (is_listed files) ms) (sym named) ∙ not_all (is_listed files) c.manifests-manifests.result c.loop-i.i c.at.result c.at.ensures test)

pub loop-i-preserved : goal.loop-i-preserved
loop-i-preserved c =
    let files = c.args.files.now in
    let test = ap (λ (id : Id12). has_file files id) (sym c.id.ensures) ∙ sym c.has.ensures ∙ c.if-not-has.false in
    before_more (is_listed files) true c.manifests-manifests.result c.loop-i.i c.at.result c.loop-i.invariant c.at.ensures test

pub returns : goal.returns
returns c =
    let files = c.args.files.now in
    let named = c.manifests-manifests.ensures in
    sym (ap (λ (ms : List ManifestRef). list_all (is_listed files) ms) (sym named) ∙ all_pass (is_listed files) c.manifests-manifests.result c.loop-i.i (omega (arith, c.len-i-end.ensures)) c.loop-i.invariant)
