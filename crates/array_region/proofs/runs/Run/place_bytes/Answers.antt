use Rattle.std.proofs.Common.{◌∙◌, Ok, refl, sym, ap, subst, arith}
use Rattle.store_api.specs.Program.{Done}
use Rattle.session.specs.Sessions.{SessionState}
use Rattle.session.specs.Chunks.{put_chunk}
use Rattle.session.specs.Placing.{with_places}
use Rattle.array_region.specs.Setting.{run_entered, object_put, Places}
use Rattle.array_region.proofs.Objects.{short_placed, none_drawn, object_placed}
use Rattle.array_region.proofs.runs.Run.place_bytes.Goals as goal
use Rattle.array_region.proofs.runs.Run.place_bytes.Goals.{in-Ok, in-Err}

pub returns-then-len-le-MOST_INLINE-clause-places : goal.returns-then-len-le-MOST_INLINE-clause-places
returns-then-len-le-MOST_INLINE-clause-places c =
    let m = c.args.self.now in
    let path = m.given.plan.region.path in
    let p = put_chunk (run_entered m) path c.args.index c.args.bytes in
    let new = record m { placed = c.push.new.self } in
    elim c.match-push.branch [
      | in-Ok w ↦
          subst (λ r. Places p m new r) (sym w.result-is) (
            short_placed m.session path c.args.index c.args.bytes m.placed.items (omega (arith, c.len.ensures, c.if-len-le-MOST_INLINE.true)) ∙ sym (ap (λ l. Done (Ok (with_places m.session path l))) w.in-Ok.ensures.items),
            refl,
            c.requires,
          )
      | in-Err w ↦ subst (λ r. Places p m new r) (sym w.result-is) (record { is = λ e. cc; calm = refl }, c.requires)
    ]

pub returns-in_default-clause-places : goal.returns-in_default-clause-places
returns-in_default-clause-places c =
    let m = c.args.self.now in
    (record { is = λ e. none_drawn m.session m.given.plan.region.path c.args.index c.args.bytes m.placed.items (omega (arith, c.len.ensures, c.if-len-le-MOST_INLINE.false)) (sym c.draw.ensures.drawn ∙ c.in_default.is); calm = refl }, c.requires)

pub returns-clause-places : goal.returns-clause-places
returns-clause-places c =
    let m = c.args.self.now in
    let path = m.given.plan.region.path in
    record {
      index = c.args.index;
      id = c.in-Some.id;
      bytes = c.args.bytes;
      stage = c.follow.ensures;
      program =
          ap (λ (t : SessionState). object_put (with_places t path m.placed.items) path c.args.index c.args.bytes c.in-Some.id) c.draw.ensures.after
          ∙ object_placed m.session path c.args.index c.args.bytes m.placed.items (omega (arith, c.len.ensures, c.if-len-le-MOST_INLINE.false)) c.in-Some.id (sym c.draw.ensures.drawn ∙ c.in-Some.is);
    }

pub returns-then-len-le-MOST_INLINE-clause-spent : goal.returns-then-len-le-MOST_INLINE-clause-spent
returns-then-len-le-MOST_INLINE-clause-spent c = λ long none. absurd (omega (arith, long, c.len.ensures, c.if-len-le-MOST_INLINE.true))

pub returns-in_default-clause-spent : goal.returns-in_default-clause-spent
returns-in_default-clause-spent c = λ long none. refl

pub returns-clause-spent : goal.returns-clause-spent
returns-clause-spent c = λ long none. let some = sym c.draw.ensures.drawn ∙ c.in-Some.is in absurd (cc)
