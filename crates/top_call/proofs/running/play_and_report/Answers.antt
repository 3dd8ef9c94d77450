use Rattle.top_call.specs.declared.statuses.Status.TheVariants as S
use Rattle.top_call.proofs.Endings.{ends_played, ends_untold, ends_unread}
use Rattle.top_call.proofs.Tellings.{finished, kept-all, told-report, unplayed}
use Rattle.top_call.proofs.running.play_and_report.Goals as goal

pub returns-in-Err : goal.returns-in-Err
returns-in-Err g c = λ command a b reported h. ends_unread command c.args.draw a b (g.S.Viewed.view c.args.store) (g.K.Sink.at c.args.out.now) S.NoMemory tt

pub returns-in-Ok-played : goal.returns-in-Ok-played
returns-in-Ok-played g c = λ command a b reported h.
    let draw = c.args.draw in
    let script = c.args.script.now in
    let s = g.S.Viewed.view c.args.store in
    let t = g.S.Viewed.view c.play-store.result.0 in
    let x = g.K.Sink.at c.args.out.now in
    let y = g.K.Sink.at c.finish-status.new.out in
    let p = c.in-Ok-played.played in
    let course = rw c.in-Ok-played.is at c.play-store.ensures.course in
    let leaves = rw c.in-Ok-played.is at c.play-store.ensures.leaves in
    let regular = rw c.in-Ok-played.is at c.play-store.ensures.regular in
    let all = kept-all c.promise_law.ensures draw script s t p.opening _ p.refs c.requires.well course in
    let named = rw c.deref.ensures.value at c.finish-status.ensures in
    let told = told-report command reported _ script s t p.opening _ p.refs x y c.finish-status.result c.in-Ok.ensures.1 named in
    ends_played command draw a b s t x y script c.finish-status.result h (finished command draw script s t x y p.opening _ p.refs c.finish-status.result course all leaves regular told)

pub returns-in-Err-played : goal.returns-in-Err-played
returns-in-Err-played g c = λ command a b reported h.
    let s = g.S.Viewed.view c.args.store in
    let t = g.S.Viewed.view c.play-store.result.0 in
    let x = g.K.Sink.at c.args.out.now in
    let began = rw c.in-Err-played.is at c.play-store.ensures.began in
    let kept = rw c.in-Err-played.is at c.play-store.ensures.kept in
    ends_untold command c.args.draw a b s t x x c.args.script.now h
    (unplayed c.args.draw c.args.script.now s t x began (λ told before sound new. (t.seen, kept told before sound new)))
