use Rattle.std.proofs.Common.{sym, ap, ◌∙◌}
use Rattle.std.specs.Option.{option_copied_mut}
use Rattle.zarr_changes.specs.Edits.{without_entry}
use Rattle.zarr_changes.proofs.EntryKept.{Arrays, all_of, forgotten, forgotten_not, no_some}
use Rattle.zarr_changes.proofs.entries.Entries.forget.Goals as goal
use Rattle.zarr_changes.proofs.entries.Entries.forget.Goals.{in-Some, in_default}

pub returns : goal.returns
returns c =
    let es : Arrays = c.self.inside.arrays.entries in
    elim c.match-get_mut.branch [
      | in-Some w ↦
          ap (λ e. all_of e.arrays.entries) w.self-inside-is
          ∙ ap all_of (c.get_mut.follows.holds w.forget.new.chunks).0
          ∙ forgotten es c.args.node.now c.self.invariant c.args.index.now w.in-Some.chunks.now w.forget.new.chunks (sym c.get_mut.ensures.value ∙ ap option_copied_mut w.in-Some.is) w.forget.ensures
          ∙ ap (λ rows. without_entry rows c.args.node.now c.args.index.now) c.self.view_is
      | in_default w ↦
          ap (λ e. all_of e.arrays.entries) w.self-inside-is
          ∙ ap (λ m. all_of m.entries) c.get_mut.follows.holds-at-none
          ∙ forgotten_not es c.args.node.now c.self.invariant c.args.index.now (sym c.get_mut.ensures.value ∙ ap option_copied_mut (no_some c.get_mut.result w.in_default.not-Some))
          ∙ ap (λ rows. without_entry rows c.args.node.now c.args.index.now) c.self.view_is
    ]
