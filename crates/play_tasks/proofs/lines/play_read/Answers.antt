use Rattle.std.proofs.Common.{◌≡◌, ℕ, List, inl, inr, refl, sym, ◌∙◌, ap, subst}
use Rattle.session.specs.Sessions.{SessionState}
use Rattle.script_calls.specs.declared.calls.CellBox.{CellBox}
use Rattle.script_calls.specs.declared.calls.ReadCall.{ReadCall}
use Rattle.script_calls.specs.declared.calls.ReadCall.TheVariants.{List as List_call, Get, Chunk, Cells}
use Rattle.play_tasks.specs.Lines.{LineDeed, Goes, read_deed, read_by, still}
use Rattle.play_tasks.specs.inside.Working.{CallComes}
use Rattle.play_tasks.proofs.lines.play_read.Goals as goal

pub returns-in-Chunk-clause-comes : goal.returns-in-Chunk-clause-comes
returns-in-Chunk-clause-comes c =
    let path = c.deref.result.now in
    let is = c.in-Chunk.is ∙ (ap (λ (p : List ℕ). Chunk p c.in-Chunk.index) (sym c.deref.ensures) ∙ ap (λ (i : List ℕ). Chunk path i) (sym c.deref-in-Chunk.ensures)) in
    subst (λ (x : ReadCall). CallComes c.args.line c.args.at c.args.shown.items c.args.session (read_deed c.args.line x c.args.session) c.play_get.result) (sym is) c.play_get.ensures.comes

pub returns-in-KeyGet-clause-comes : goal.returns-in-KeyGet-clause-comes
returns-in-KeyGet-clause-comes c = subst (λ (x : ReadCall). CallComes c.args.line c.args.at c.args.shown.items c.args.session (read_deed c.args.line x c.args.session) c.play_key_get.result) (sym c.in-KeyGet.is) c.play_key_get.ensures.comes

pub returns-in-Cells-clause-comes : goal.returns-in-Cells-clause-comes
returns-in-Cells-clause-comes c =
    let is = c.in-Cells.is ∙ ap (λ (p : CellBox). Cells p) (sym c.deref-in-Cells.ensures) in
    subst (λ (x : ReadCall). CallComes c.args.line c.args.at c.args.shown.items c.args.session (read_deed c.args.line x c.args.session) c.play_cells.result) (sym is) c.play_cells.ensures.comes

-- the read is one that needs no operation
goes : (line : ℕ) (x y : ReadCall) (s : SessionState) → x ≡ y → read_deed line y s ≡ Goes (still s (read_by line y s)) → read_deed line x s ≡ Goes (still s (read_by line x s))
goes line x y s e d = subst (λ (z : ReadCall). read_deed line z s ≡ Goes (still s (read_by line z s))) (sym e) d

pub returns-in-List-clause-comes : goal.returns-in-List-clause-comes
returns-in-List-clause-comes c =
    let x = c.args.read.now in
    let s = c.args.session in
    let line = c.args.line in
    let is : read_deed line x s ≡ Goes (still s (read_by line x s)) = elim c.in-List.is [
      | inl w ↦ goes line x (List_call w.0) s w.1 refl
      | inr w ↦ goes line x (Get w.0) s w.1 refl
    ] in
    subst (λ (d : LineDeed). CallComes line c.args.at c.args.shown.items s d c.play_look.result) (sym is) (c.play_look.ensures.comes c.args.at)

pub returns-in-List-clause-bounded : goal.returns-in-List-clause-bounded
returns-in-List-clause-bounded c = c.play_look.ensures.bounded c.args.at
