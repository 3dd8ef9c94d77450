use Rattle.std.proofs.Common.{◌≡◌, Result, Ok, Err, IfOk}
use Rattle.chunk_gc.specs.inside.Collecting.{collecting_rest}
use Rattle.chunk_gc.proofs.Acting.{removed-acts}
use Rattle.chunk_gc.proofs.removing.step_removing.Goals as goal

answered : {A B : Type 0} (P : Type 0) (r : Result A B) (a : A) → IfOk r (λ x. P) → r ≡ Ok a → P
answered P (Ok x) a h e = h
answered P (Err x) a h e = absurd cc

pub returns-clause-acts : goal.returns-clause-acts
returns-clause-acts g c =
    removed-acts c.args.key.now c.args.keys c.args.removed c.remove-answer.result (g.S.Viewed.view c.args.store.now) (g.S.Viewed.view c.remove-answer.new.self) (collecting_rest c.after_removing.result) c.remove-answer.ensures c.after_removing.ensures.comes (λ gone e. answered _ c.remove-answer.result gone c.after_removing.ensures.blames e)
