use Rattle.std.proofs.Common.{◌≡◌, ℕ, ℤ, List, inl, inr, refl, sym, ◌∙◌, ap, subst}
use Rattle.session.specs.Sessions.{SessionState}
use Rattle.script_calls.specs.declared.calls.CellBox.{CellBox}
use Rattle.script_calls.specs.declared.calls.EditCall.{EditCall}
use Rattle.script_calls.specs.declared.calls.EditCall.TheVariants.{Group, Array, Make, Meta, Drop, Set, Fill, Unset, Put, KeySet, KeyErase}
use Rattle.play_tasks.specs.Lines.{LineDeed, Goes, edit_deed, edits_to, silent}
use Rattle.play_tasks.specs.inside.Working.{LineComes, CallComes}
use Rattle.play_tasks.proofs.lines.play_edit.Goals as goal

-- the edit is one that needs no operation
goes : (x y : EditCall) (s : SessionState) → x ≡ y → edit_deed y s ≡ Goes (silent (edits_to y s)) → edit_deed x s ≡ Goes (silent (edits_to x s))
goes x y s e d = subst (λ (z : EditCall). edit_deed z s ≡ Goes (silent (edits_to z s))) (sym e) d

pub returns-in-Group-clause-comes : goal.returns-in-Group-clause-comes
returns-in-Group-clause-comes c =
    let x = c.args.edit.now in
    let s = c.args.session in
    let is : edit_deed x s ≡ Goes (silent (edits_to x s)) = elim c.in-Group.is [
      | inl w ↦ goes x (Group w.0) s w.1 refl
      | inr r ↦ elim r [
        | inl w ↦ goes x (Array w.0 w.1) s w.2 refl
        | inr r ↦ elim r [
          | inl w ↦ goes x (Make w.0 w.1) s w.2 refl
          | inr r ↦ elim r [
            | inl w ↦ goes x (Meta w.0 w.1) s w.2 refl
            | inr r ↦ elim r [
              | inl w ↦ goes x (Drop w.0) s w.1 refl
              | inr r ↦ elim r [
                | inl w ↦ goes x (Unset w.0 w.1) s w.2 refl
                | inr w ↦ goes x (KeyErase w.0) s w.1 refl
              ]
            ]
          ]
        ]
      ]
    ] in
    subst (λ (d : LineDeed). CallComes c.args.line c.args.at c.args.shown.items s d c.play_change.result) (sym is) (c.play_change.ensures.comes c.args.at)

pub returns-in-Group-clause-bounded : goal.returns-in-Group-clause-bounded
returns-in-Group-clause-bounded c = c.play_change.ensures.bounded c.args.at

pub returns-in-Fill-clause-comes : goal.returns-in-Fill-clause-comes
returns-in-Fill-clause-comes c =
    let path = c.deref-in-Fill.result.now in
    let is = c.in-Fill.is ∙ (ap (λ (p : List ℕ). Fill p c.in-Fill.index c.in-Fill.byte) (sym c.deref-in-Fill.ensures) ∙ ap (λ (i : List ℕ). Fill path i c.in-Fill.byte) (sym c.deref-in-Fill-2.ensures)) in
    subst (λ (x : EditCall). CallComes c.args.line c.args.at c.args.shown.items c.args.session (edit_deed x c.args.session) c.play_fill.result) (sym is) c.play_fill.ensures.comes

pub returns-in-Set-clause-comes : goal.returns-in-Set-clause-comes
returns-in-Set-clause-comes c = λ access.
    let s = c.args.session in
    let path = c.deref.result.now in
    let index = c.deref-in-Set.result.now in
    let held = sym (c.as_slice.ensures.value ∙ c.deref-in-Set-2.ensures) in
    let is = c.in-Set.is ∙ (ap (λ (p : List ℕ). Set p c.in-Set.index c.in-Set.bytes) (sym c.deref.ensures) ∙ (ap (λ (i : List ℕ). Set path i c.in-Set.bytes) (sym c.deref-in-Set.ensures) ∙ ap (λ (b : List ℕ). Set path index b) held)) in
    subst (λ (x : EditCall). LineComes access c.args.line c.args.at c.args.shown.items s (edit_deed x s) c.play_set.result) (sym is) (c.play_set.ensures.comes access)

pub returns-in-KeySet-clause-comes : goal.returns-in-KeySet-clause-comes
returns-in-KeySet-clause-comes c = λ access.
    let s = c.args.session in
    let key = c.deref-in-KeySet.result.now in
    let held = sym (c.as_slice-in-KeySet.ensures.value ∙ c.deref-in-KeySet-2.ensures) in
    let is = c.in-KeySet.is ∙ (ap (λ (k : List ℕ). KeySet k c.in-KeySet.bytes) (sym c.deref-in-KeySet.ensures) ∙ ap (λ (b : List ℕ). KeySet key b) held) in
    subst (λ (x : EditCall). LineComes access c.args.line c.args.at c.args.shown.items s (edit_deed x s) c.play_key_set.result) (sym is) (c.play_key_set.ensures.comes access)

pub returns-in-Put-clause-comes : goal.returns-in-Put-clause-comes
returns-in-Put-clause-comes c =
    let place = c.deref-in-Put.result.now in
    let is = c.in-Put.is ∙ (ap (λ (p : CellBox). Put p c.in-Put.numbers) (sym c.deref-in-Put.ensures) ∙ ap (λ (n : List ℤ). Put place n) (sym c.deref-in-Put-2.ensures)) in
    subst (λ (x : EditCall). CallComes c.args.line c.args.at c.args.shown.items c.args.session (edit_deed x c.args.session) c.play_put.result) (sym is) c.play_put.ensures.comes
