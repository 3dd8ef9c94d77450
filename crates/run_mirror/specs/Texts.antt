-- What a mirror prints (own).
use Rattle.std.specs.Prelude.{ℕ, Bool, if◌then◌else◌, List, ◌++◌, codes, decimal, Result, Ok, Err}
use Rattle.std.specs.List.{flat_map}
use Rattle.ice_ids.specs.Text.{id12_text}
use Rattle.store_api.specs.declared.machines.Refusal.{Refusal}
use Rattle.play_report.specs.Refusals.{refusal_text}
use Rattle.mirror_reports.specs.declared.outcome.MirrorRef.{MirrorRef}
use Rattle.mirror_reports.specs.declared.outcome.Mirrored.{Mirrored}
use Rattle.mirror_reports.specs.declared.outcome.MirrorEnd.{MirrorEnd}

abbrev pub kind_text : (tag : Bool) → List ℕ
kind_text tag = if tag then codes "tag " else codes "branch "

abbrev pub put_text : (put : Bool) → List ℕ
put_text put = if put then codes " put\n" else codes " kept\n"

-- a branch or a tag, the snapshot that it names, and whether it was put or is as it was
abbrev pub ref_text : MirrorRef → List ℕ
ref_text r = kind_text r.tag ++ (r.name ++ (codes " " ++ (id12_text r.id ++ put_text r.put)))

-- how many snapshots, logs, manifests and objects with chunks were put
abbrev pub counts_text : Mirrored → List ℕ
counts_text m =
    codes "mirrored " ++ (decimal m.snapshots ++ (codes " " ++ (decimal m.logs ++ (codes " "
    ++ (decimal m.manifests ++ (codes " " ++ (decimal m.chunks ++ codes "\n")))))))

abbrev pub refused_text : Refusal → List ℕ
refused_text why = codes "mirror refused " ++ (refusal_text why ++ codes "\n")

-- what was put, or why the mirror was refused
abbrev pub result_text : Result Mirrored Refusal → List ℕ
result_text (Ok m) = counts_text m
result_text (Err why) = refused_text why

abbrev pub mirror_text : MirrorEnd → List ℕ
mirror_text end = flat_map ref_text end.refs ++ result_text end.result
