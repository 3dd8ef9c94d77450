use Rattle.std.proofs.Common.{◌≡◌, true, false, cond, List, take, ap, sym, subst, ◌∙◌, arith}
use Rattle.std.specs.List.{list_any}
use Rattle.std.specs.BTreeMap.{is_at}
use Rattle.ice_ids.specs.declared.Id8.{Id8}
use Rattle.ice_ids.specs.Text.{id8_cmp}
use Rattle.snapshot_file.specs.declared.nodes.NodeRow.{NodeRow}
use Rattle.intact.specs.Rows.{has_node, stands}
use Rattle.intact.proofs.Looking.{well-next, unwell-here, well-end, both-hold, known-fails, fallen-fails, held-there, not-there, more-ids, one-taken}
use Rattle.intact.proofs.rows.first_unwell.Goals as goal

pub returns-then-not-branch : goal.returns-then-not-branch
returns-then-not-branch c =
    let rows = c.args.rows.now in
    let row = c.at-row.result in
    let earlier = take c.loop-at.at rows in
    let there : list_any (is_at (id8_cmp c.id.result)) c.loop-at.ids.keys ≡ true = held-there c.in_ok-insert.field-0 _ c.in_ok-insert.ensures.added c.if-not-branch.true in
    let known : has_node earlier row.id ≡ true = sym (c.loop-at.invariant.known row.id) ∙ (ap (λ (q : Id8). list_any (is_at (id8_cmp q)) c.loop-at.ids.keys) (sym c.id.ensures) ∙ there) in
    sym (c.loop-at.invariant.left ∙ unwell-here rows c.loop-at.at row c.at-row.ensures (known-fails (has_node earlier row.id) (stands rows row.path) known))

pub returns-then-not-stands : goal.returns-then-not-stands
returns-then-not-stands c =
    let rows = c.args.rows.now in
    let row = c.at-row.result in
    let earlier = take c.loop-at.at rows in
    let fallen : stands rows row.path ≡ false = ap (stands rows) (sym c.path.ensures.value) ∙ (sym c.stands.ensures ∙ c.if-not-stands.true) in
    sym (c.loop-at.invariant.left ∙ unwell-here rows c.loop-at.at row c.at-row.ensures (fallen-fails (has_node earlier row.id) (stands rows row.path) fallen))

pub loop-at-preserved : goal.loop-at-preserved
loop-at-preserved c =
    let rows = c.args.rows.now in
    let row = c.at-row.result in
    let earlier = take c.loop-at.at rows in
    let none : list_any (is_at (id8_cmp c.id.result)) c.loop-at.ids.keys ≡ false = not-there c.in_ok-insert.field-0 _ c.in_ok-insert.ensures.added c.if-not-branch.false in
    let fresh : has_node earlier row.id ≡ false = sym (c.loop-at.invariant.known row.id) ∙ (ap (λ (q : Id8). list_any (is_at (id8_cmp q)) c.loop-at.ids.keys) (sym c.id.ensures) ∙ none) in
    let stood : stands rows row.path ≡ true = ap (stands rows) (sym c.path.ensures.value) ∙ (sym c.stands.ensures ∙ c.if-not-stands.false) in
    let updates = subst (λ (k : Id8). (q : Id8) → list_any (is_at (id8_cmp q)) c.insert.new.self.keys ≡ cond (is_at (id8_cmp k) q) true (list_any (is_at (id8_cmp q)) c.loop-at.ids.keys)) c.id.ensures c.in_ok-insert.ensures.updates.0 in
    record {
      left = c.loop-at.invariant.left ∙ well-next rows c.loop-at.at row c.at-row.ensures (both-hold (has_node earlier row.id) (stands rows row.path) fresh stood);
      known = λ q. more-ids c.loop-at.ids.keys c.insert.new.self.keys earlier row c.loop-at.invariant.known updates q ∙ ap (λ (xs : List NodeRow). has_node xs q) (sym (one-taken rows c.loop-at.at row c.at-row.ensures));
    }

pub returns : goal.returns
returns c = sym (c.loop-at.invariant.left ∙ well-end c.args.rows.now c.loop-at.at (omega (arith, c.len-at-end.ensures.count)))
