use Rattle.std.proofs.Common.{◌≡◌, Some, None, sym, ap, ◌∙◌, vec_len}
use Rattle.std.specs.Option.{option_copied_mut}
use Rattle.std.specs.Map.{lookup}
use Rattle.std.specs.BTreeMap.{is_at, insert_entry}
use Rattle.ice_ids.specs.Text.{id8_cmp}
use Rattle.zarr_path.proofs.PathLaws.{by_numbers}
use Rattle.zarr_changes.specs.Placing.{with_placed}
use Rattle.zarr_changes.specs.inside.Placing.{rows_placed}
use Rattle.zarr_changes.proofs.EntryKept.{Arrays, all_of, entered_not, done_ok, done_err}
use Rattle.zarr_changes.proofs.PlacedLaws.{all_entered, all_entered_new, none_placed}
use Rattle.zarr_changes.proofs.entries.Entries.insert_all.Goals as goal

pub returns-then-is_empty-clause-ok : goal.returns-then-is_empty-clause-ok
returns-then-is_empty-clause-ok c =
    sym (none_placed c.args.self.now c.args.node c.args.placed.items (sym c.args.placed.ok.0 ∙ (by_numbers (vec_len c.args.placed) 0).0 (sym c.is_empty.ensures ∙ c.if-is_empty.true)))

pub returns-in-Some-clause-ok : goal.returns-in-Some-clause-ok
returns-in-Some-clause-ok c =
    let es : Arrays = c.self.inside.arrays.entries in
    let found : lookup (is_at (id8_cmp c.args.node)) es ≡ Some c.in-Some.chunks.now = sym c.get_mut.ensures.value ∙ ap option_copied_mut c.in-Some.is in
    done_ok c.enter_all.result c.enter_all.ensures.ok (λ is.
    ap all_of (c.get_mut.follows.holds c.enter_all.new.chunks).0
    ∙ all_entered c.args.node es c.self.invariant c.args.placed.items c.in-Some.chunks.now c.enter_all.new.chunks found c.enter_all.ensures.order is
    ∙ ap (λ rows. with_placed rows c.args.node c.args.placed.items) c.self.view_is)

pub returns-in-Some-clause-err : goal.returns-in-Some-clause-err
returns-in-Some-clause-err c =
    let es : Arrays = c.self.inside.arrays.entries in
    let found : lookup (is_at (id8_cmp c.args.node)) es ≡ Some c.in-Some.chunks.now = sym c.get_mut.ensures.value ∙ ap option_copied_mut c.in-Some.is in
    done_err c.enter_all.result c.enter_all.ensures.err (λ is.
    ap all_of (c.get_mut.follows.holds c.enter_all.new.chunks).0
    ∙ entered_not es c.args.node c.self.invariant c.in-Some.chunks.now c.enter_all.new.chunks found is
    ∙ c.self.view_is)

pub returns-in_ok-enter_all-in-None-clause-ok : goal.returns-in_ok-enter_all-in-None-clause-ok
returns-in_ok-enter_all-in-None-clause-ok c =
    let es : Arrays = c.self.inside.arrays.entries in
    let none : lookup (is_at (id8_cmp c.args.node)) es ≡ None = sym c.get_mut.ensures.value ∙ ap option_copied_mut c.in-None.is in
    done_ok c.enter_array.result c.enter_array.ensures.ok (λ is.
    ap all_of is
    ∙ ap (λ m. all_of (insert_entry id8_cmp m.entries c.args.node c.enter_all-in-None.new.chunks)) c.get_mut.follows.holds-at-none
    ∙ all_entered_new c.args.node es c.self.invariant c.args.placed.items c.enter_all-in-None.new.chunks none (c.in_ok-enter_all-in-None.ensures.ok ∙ ap (λ rows. rows_placed rows c.args.placed.items) c.new-chunks.ensures.empty)
    ∙ ap (λ rows. with_placed rows c.args.node c.args.placed.items) c.self.view_is)
