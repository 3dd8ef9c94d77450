-- A session as it was opened, and behind the lines of its task; and one whose commit was lost.
use Rattle.std.proofs.Common.{◌≡◌, ℕ, List, ◌∷◌, ◌++◌, sym, ◌∙◌, ap, append_assoc, subst}
use Rattle.std.specs.Prelude.{Some}
use Rattle.std.proofs.lemmas.List.{append_cancel_left}
use Rattle.ice_ids.specs.declared.Id12.{Id12}
use Rattle.ice_ids.specs.declared.drawing.AnyIds.{AnyIds}
use Rattle.snapshot_file.specs.declared.nodes.NodeRow.{NodeRow}
use Rattle.repo_objects.specs.Laws.{InitialLaw}
use Rattle.store_api.specs.Journal.{Each, WasPut, puts_of, rows_of, tree_of}
use Rattle.object_store.specs.declared.events.Event.{Event}
use Rattle.object_store.specs.declared.keys.Key.TheVariants.{Snapshot}
use Rattle.session.specs.Opening.{Asked}
use Rattle.session.specs.Sessions.{SessionState, base_tree}
use Rattle.commit_path.specs.Opened.{WasBegun}
use Rattle.commit_path.specs.Single.{HasPutNone, PutsNone}
use Rattle.commit_path.proofs.Knowing.{tree-by_rows}
use Rattle.commit_path.proofs.Sources.{later-later}
use Rattle.play_tasks.specs.Solving.{WasLost}
use Rattle.reach.specs.Chains.{here}
use Rattle.run_histories.specs.Sources.{NodesAreNew}
use Rattle.run_histories.proofs.Ancestors.{IsFree, ancestor-self, free-on, new-free, node-has}
use Rattle.run_histories.proofs.Editing.{WentOn}
use Rattle.run_histories.proofs.Edits.{IsKept, OwnAreNew}
use Rattle.run_histories.proofs.Gotten.{got-put, read-rows, stands-put, then-goes, then-stood}
use Rattle.run_histories.proofs.Grounds.{Grounds, IsCarried, well-rows}

some-same : {A : Type 0} (a b : A) → Some a ≡ Some b → a ≡ b
some-same a b e = cc

module _ (initial : InitialLaw) (ids : AnyIds) (client : ℕ) (start journal : List Event) (g : Grounds ids client start journal) where
  -- ---- a session as it was opened, and behind lines
  module _ (a : Asked) (opened : SessionState) (begun : WasBegun client a opened start journal) (early : HasPutNone client start begun.got.own.before) where
    abbrev then : List Event
    then = begun.got.own.before

    -- its client's nodes were new when it got the base
    new-then : NodesAreNew ids then
    new-then =
        let own = begun.got.own in
        let since : g.since ≡ own.since ++ own.event ∷ own.after =
        append_cancel_left start g.since (own.since ++ own.event ∷ own.after)
        (sym g.is ∙ own.is ∙ ap (λ (j : List Event). j ++ own.event ∷ own.after) own.before_is ∙ append_assoc start own.since (own.event ∷ own.after))
        in
        let none : Each (PutsNone client) start own.since = subst (Each (PutsNone client) start) (append_cancel_left start early.more own.since (sym early.is ∙ own.before_is)) early.each in
        subst (NodesAreNew ids) (sym own.before_is) (g.early own.since (own.event ∷ own.after) since none)

    opened-put : WasPut journal (Snapshot opened.base)
    opened-put = got-put client start journal g.good g.once (Snapshot opened.base) begun.bytes begun.version begun.got

    opened-rows : rows_of journal opened.base ≡ Some opened.rows
    opened-rows =
        read-rows client start journal g.good g.once opened.base begun.snap (record { bytes = begun.bytes; version = begun.version; got = begun.got; read = begun.read })
        ∙ ap (λ (s : SessionState). Some s.rows) (sym begun.begins)

    opened-free : IsFree ids journal opened.base
    opened-free =
        let own = begun.got.own in
        let stood = then-stood client start journal g.good g.once (Snapshot opened.base) begun.bytes begun.version begun.got in
        let goes = then-goes client start journal g.good g.once (Snapshot opened.base) begun.bytes begun.version begun.got in
        subst (λ (j : List Event). IsFree ids j opened.base) (sym own.is)
        (free-on then (own.event ∷ own.after) goes initial ids opened.base (stands-put then (Snapshot opened.base) begun.bytes stood) (new-free ids then new-then opened.base))

    pub lines-carried : (s : SessionState) → WentOn ids opened s → IsCarried ids journal s
    lines-carried s w =
        let put : WasPut journal (Snapshot s.base) = subst (λ (i : Id12). WasPut journal (Snapshot i)) (sym w.base) opened-put in
        let rows : rows_of journal s.base ≡ Some s.rows = ap (rows_of journal) w.base ∙ opened-rows ∙ ap (λ (r : List NodeRow). Some r) (sym w.rows) in
        let free : IsFree ids journal s.base = subst (IsFree ids journal) (sym w.base) opened-free in
        let tree : tree_of journal s.base ≡ Some (base_tree (puts_of journal) s) = tree-by_rows journal s.base s.rows rows in
        let own : OwnAreNew ids s = λ p n f. free s.base n.id here (node-has journal s.base (base_tree (puts_of journal) s) p n tree f) in
        let kept : IsKept ids s = w.goes.kept g.spends own in
        record {
          later = w.goes.later;
          put = put;
          rows = rows;
          added = λ p n f. (kept.added p n f).before;
          free = λ p n f. free;
          drops = λ node d.
              let h = kept.dropped node d in
              record { below = s.base; ancestor = ancestor-self journal s.base; has = record { tree = base_tree (puts_of journal) s; has = tree; path = h.path; node = h.node; found = h.found; same = h.same } };
          normal = kept.normal (puts_of journal) (well-rows ids client start journal g s.base s.rows put rows);
          texts = w.goes.texts;
        }

  -- ---- a commit that was lost
  pub lost-carried : (s t : SessionState) (since : List Event) → WasLost client s t start since → IsCarried ids journal s → IsCarried ids journal t
  lost-carried s t since w k =
      subst (IsCarried ids journal) (sym w.becomes) (record { later = later-later ids s.ids w.next k.later w.moved.next_is; put = k.put; rows = k.rows; added = k.added; free = k.free; drops = k.drops; normal = k.normal; texts = k.texts })
