use Rattle.std.proofs.Common.{◌≡◌, Some, None, sym, ap, ◌∙◌}
use Rattle.std.specs.Option.{option_copied_mut}
use Rattle.std.specs.Map.{lookup}
use Rattle.std.specs.BTreeMap.{is_at, insert_entry}
use Rattle.ice_ids.specs.Text.{id8_cmp}
use Rattle.zarr_path.specs.Indices.{index_cmp}
use Rattle.zarr_changes.specs.Edits.{with_entry}
use Rattle.zarr_changes.proofs.EntryKept.{Arrays, all_of, entered, entered_new, entered_not, done_ok, done_err}
use Rattle.zarr_changes.proofs.entries.Entries.insert.Goals as goal

pub returns-in-Some-clause-ok : goal.returns-in-Some-clause-ok
returns-in-Some-clause-ok c =
    let es : Arrays = c.self.inside.arrays.entries in
    let found : lookup (is_at (id8_cmp c.args.node)) es ≡ Some c.in-Some.chunks.now = sym c.get_mut.ensures.value ∙ ap option_copied_mut c.in-Some.is in
    done_ok c.enter.result c.enter.ensures.ok (λ is.
    ap all_of (c.get_mut.follows.holds c.enter.new.chunks).0
    ∙ entered es c.args.node c.self.invariant c.args.index c.args.entry c.in-Some.chunks.now c.enter.new.chunks found c.enter.ensures.order is
    ∙ ap (λ rows. with_entry rows c.args.node c.args.index c.args.entry) c.self.view_is)

pub returns-in-Some-clause-err : goal.returns-in-Some-clause-err
returns-in-Some-clause-err c =
    let es : Arrays = c.self.inside.arrays.entries in
    let found : lookup (is_at (id8_cmp c.args.node)) es ≡ Some c.in-Some.chunks.now = sym c.get_mut.ensures.value ∙ ap option_copied_mut c.in-Some.is in
    done_err c.enter.result c.enter.ensures.err (λ is.
    ap all_of (c.get_mut.follows.holds c.enter.new.chunks).0
    ∙ entered_not es c.args.node c.self.invariant c.in-Some.chunks.now c.enter.new.chunks found is
    ∙ c.self.view_is)

pub returns-in_ok-enter-in-None-clause-ok : goal.returns-in_ok-enter-in-None-clause-ok
returns-in_ok-enter-in-None-clause-ok c =
    let es : Arrays = c.self.inside.arrays.entries in
    let none : lookup (is_at (id8_cmp c.args.node)) es ≡ None = sym c.get_mut.ensures.value ∙ ap option_copied_mut c.in-None.is in
    done_ok c.enter_array.result c.enter_array.ensures.ok (λ is.
    ap all_of is
    ∙ ap (λ m. all_of (insert_entry id8_cmp m.entries c.args.node c.enter-in-None.new.chunks)) c.get_mut.follows.holds-at-none
    ∙ entered_new es c.args.node c.self.invariant c.args.index c.args.entry c.enter-in-None.new.chunks none (c.in_ok-enter-in-None.ensures.ok ∙ ap (λ rows. insert_entry index_cmp rows c.args.index c.args.entry) c.new-chunks.ensures.empty)
    ∙ ap (λ rows. with_entry rows c.args.node c.args.index c.args.entry) c.self.view_is)
