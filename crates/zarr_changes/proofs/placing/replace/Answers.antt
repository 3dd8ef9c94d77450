use Rattle.std.proofs.Common.{◌≡◌, None, sym, ap, ◌∙◌}
use Rattle.std.specs.Option.{option_copied_mut}
use Rattle.std.specs.Map.{lookup, set_value}
use Rattle.std.specs.BTreeMap.{is_at}
use Rattle.zarr_path.specs.Indices.{index_cmp}
use Rattle.zarr_changes.proofs.EntryKept.{Chunks, no_some}
use Rattle.zarr_changes.proofs.PlacedLaws.{set_none}
use Rattle.zarr_changes.proofs.placing.replace.Goals as goal

pub returns-in_default : goal.returns-in_default
returns-in_default c =
    let none : lookup (is_at (index_cmp c.args.index.now)) c.args.chunks.now.entries ≡ None = sym c.get_mut.ensures.value ∙ ap option_copied_mut (no_some c.get_mut.result c.in_default.not-Some) in
    ap (λ (m : Chunks). m.entries) c.get_mut.follows.holds-at-none ∙ sym (set_none (is_at (index_cmp c.args.index.now)) c.args.chunks.now.entries c.args.entry none)

pub returns : goal.returns
returns c =
    (c.get_mut.follows.holds c.replace.new.dest).0 ∙ ap (set_value (is_at (index_cmp c.args.index.now)) c.args.chunks.now.entries) c.replace.ensures.after
