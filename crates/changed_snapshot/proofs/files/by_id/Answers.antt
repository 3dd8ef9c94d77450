use Rattle.std.proofs.Common.{◌≡◌, ◌∙◌, ℕ, ◌+◌, ◌-◌, ◌∷◌, [], List, length, drop, get_or, ap, sym, arith}
use Rattle.std.specs.FinMap as map
use Rattle.std.proofs.lemmas.List.{drop_all, drop_more}
use Rattle.snapshot_file.specs.declared.snapshot.ManifestInfo.{ManifestInfo}
use Rattle.changed_snapshot.specs.inside.Named.{files_by_id}
use Rattle.changed_snapshot.proofs.FilesById.{nothing_entered, file_entered}
use Rattle.changed_snapshot.proofs.files.by_id.Goals as goal

pub loop-k-init : goal.loop-k-init
loop-k-init c =
    let files = c.args.files.now in
    c.new-by_id.ensures.empty ∙ sym nothing_entered ∙ ap (λ (xs : List ManifestInfo). map.entries (files_by_id xs)) (sym (drop_all (length files) files (omega arith)))

pub loop-k-preserved : goal.loop-k-preserved
loop-k-preserved c =
    let files = c.args.files.now in
    let at : ℕ = c.loop-k.k - 1 in
    let file : ManifestInfo = get_or files at (record { id = record { 0 = [] }; size = 0; refs = 0 }) in
    let behind : at + 1 ≡ c.loop-k.k = omega (arith, c.loop-k-test.true) in
    let first : drop at files ≡ file ∷ drop c.loop-k.k files =
    drop_more files at (record { id = record { 0 = [] }; size = 0; refs = 0 }) (omega (arith, c.loop-k-test.true, c.loop-k.auto.k)) ∙ ap (λ n. file ∷ drop n files) behind
    in
    file_entered c.loop-k.by_id.entries c.insert.new.self.entries file (drop at files) (drop c.loop-k.k files) first c.loop-k.invariant c.in_ok-insert.ensures.entries
