use Rattle.std.proofs.Common.{◌≡◌, ◌∙◌, rules, ap, sym, subst, not, Some, None, String, Global}
use Rattle.std.specs.String.{string_cmp}
use Rattle.std.specs.BTreeMap.{BTreeMap, ContainsKey, get, get_key}
use Rattle.std.specs.BTreeMap.Entry.{MatchEntry, IsEntryFor, entry_key, entry_map_ref}
use Rattle.zarr_tree.specs.Nodes.{Node}
use Rattle.zarr_changes.proofs.added.enter_new.Goals as goal

pub returns-in_default-clause-free : goal.returns-in_default-clause-free
returns-in_default-clause-free c =
    let m = c.args.nodes.now in
    let k = c.args.text in
    let found = subst (λ e. MatchEntry e (ContainsKey string_cmp m k × (get_key string_cmp m k ≡ Some (entry_key e))) (get string_cmp m k ≡ None)) c.in_default.is c.in_ok-place.ensures.found in
    sym (ap not found.0)

-- what was lent is given back under the same name
pub returns-clause-entries : goal.returns-clause-entries
returns-clause-entries c =
    let at = subst (λ e. IsEntryFor string_cmp c.args.nodes.now c.args.text e) c.in-Vacant.is c.in_ok-place.ensures.update in
    let named = sym (c.insert_entry.ensures.0 ∙ ap (λ e. (entry_map_ref e).ghost_name) (sym c.in-Vacant.is) ∙ c.in_ok-place.ensures.same_map) in
    let rows = ap (λ (m : BTreeMap (String Global) Node). m.entries) c.insert_entry.ensures.1 ∙ at.1 c.args.node in
    search rules
