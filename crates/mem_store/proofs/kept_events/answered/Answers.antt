use Rattle.std.proofs.Common.{◌≡◌, ◌∙◌, ℕ, List, length, Option, sym, ap, rules}
use Rattle.object_store.specs.declared.events.Op.{Op}
use Rattle.object_store.specs.declared.events.Op.TheVariants.{PutNew, PutOver}
use Rattle.object_store.specs.declared.events.New.{New}
use Rattle.object_store.specs.declared.events.Over.{Over}
use Rattle.object_store.specs.declared.events.Reply.TheVariants.{New as Is_new, Over as Is_over}
use Rattle.object_store.specs.declared.events.Event.{Event}
use Rattle.object_store.specs.Machine.{Stored, new_of, over_of}
use Rattle.mem_store.specs.KeptEvents.{puts_in, answered_by, told}
use Rattle.mem_store.proofs.Told.{length-told}
use Rattle.mem_store.proofs.kept_events.answered.Goals as goal

pub returns-in-PutNew : goal.returns-in-PutNew
returns-in-PutNew c =
    let j : List Event = told c.args.before.now in
    let at : Option Stored = puts_in j c.args.at in
    let op : c.args.op.now ≡ PutNew c.in-PutNew.key c.in-PutNew.bytes c.in-PutNew.why = search rules in
    let same : c.new_answer.result ≡ new_of (length j) c.args.now at = c.new_answer.ensures j ∙ ap (λ (n : ℕ). new_of n c.args.now at) (sym (length-told c.args.before.now)) in
    ap (λ (x : New). Is_new x) same ∙ ap (λ (x : Op). answered_by (length j) c.args.now x at) (sym op)

pub returns-in-PutOver : goal.returns-in-PutOver
returns-in-PutOver c =
    let j : List Event = told c.args.before.now in
    let at : Option Stored = puts_in j c.args.at in
    let op : c.args.op.now ≡ PutOver c.in-PutOver.key c.in-PutOver.bytes c.in-PutOver.old c.in-PutOver.why = search rules in
    let same : c.over_answer.result ≡ over_of (length j) c.args.now c.in-PutOver.old.0 at = c.over_answer.ensures j ∙ ap (λ (n : ℕ). over_of n c.args.now c.in-PutOver.old.0 at) (sym (length-told c.args.before.now)) in
    ap (λ (x : Over). Is_over x) same ∙ ap (λ (x : Op). answered_by (length j) c.args.now x at) (sym op)
