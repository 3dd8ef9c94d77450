use Rattle.std.proofs.Common.{◌≡◌, ◌∙◌, ◌+◌, ◌∷◌, ◌++◌, [], List, drop, get_or, ap, sym}
use Rattle.std.proofs.lemmas.List.{drop_more}
use Rattle.snapshot_file.specs.declared.snapshot.ManifestInfo.{ManifestInfo}
use Rattle.changed_snapshot.specs.Rows.{names_in, files_over}
use Rattle.changed_snapshot.proofs.IdSets.{contains_id, file_kept, file_passed}
use Rattle.changed_snapshot.proofs.files.files_over.Goals as goal
use Rattle.changed_snapshot.proofs.files.files_over.Goals.{then-contains+in_ok-push, else-contains}

pub loop-file-preserved : goal.loop-file-preserved
loop-file-preserved c =
    let at = c.loop-file.file-index in
    let files = c.args.files.now in
    let rows = c.args.rows.now in
    let kept = c.loop-file.kept.items in
    let rest : List ManifestInfo = drop (at + 1) files in
    let file : ManifestInfo = get_or files at (record { id = record { 0 = [] }; size = 0; refs = 0 }) in
    let first : drop at files ≡ file ∷ rest = drop_more files at (record { id = record { 0 = [] }; size = 0; refs = 0 }) c.loop-file-test.true in
    let named : c.contains.result ≡ names_in rows file.id = c.contains.ensures ∙ contains_id c.in_ok-ids.ids.keys file.id ∙ c.in_ok-ids.ensures file.id in
    elim c.if-contains.branch [
      | then-contains+in_ok-push w ↦
          ap (λ (xs : List ManifestInfo). xs ++ files_over rest rows) (ap (λ v. v.items) w.kept-is ∙ w.in_ok-push.ensures.items)
          ∙ file_kept kept (drop at files) rest file rows first (sym named ∙ w.if-contains.true) ∙ c.loop-file.invariant
      | else-contains w ↦
          ap (λ (xs : List ManifestInfo). xs ++ files_over rest rows) (ap (λ v. v.items) w.kept-is)
          ∙ file_passed kept (drop at files) rest file rows first (sym named ∙ w.if-contains.false) ∙ c.loop-file.invariant
    ]
