use Rattle.std.proofs.Common.{◌<◌, ◌∙◌, List, length, get_or, refl, sym, ap, subst, arith}
use Rattle.std.specs.Prelude.{option_map}
use Rattle.std.specs.Option.{option_copied}
use Rattle.ice_ids.specs.declared.Id12.{Id12}
use Rattle.held_manifest.specs.Places.{place_seen}
use Rattle.store_api.specs.Program.{IsAsk}
use Rattle.store_api.specs.Running.{Program}
use Rattle.array_region.specs.Reading.{Chunk}
use Rattle.array_region.specs.Getting.{reads_of, kept_of}
use Rattle.array_region.proofs.Looking.{looks_more, no_id, is_got, is_asked, has_it, has_none, ends}
use Rattle.array_region.proofs.plans.Plan.look_up.Goals as goal

pub returns-in_default : goal.returns-in_default
returns-in_default c =
    let same = ap length c.loop-next.invariant.0 in
    let within : c.loop-next.next < length c.loop-next.ids = omega (arith, c.loop-next-test.true, c.len-next-end.ensures, same) in (
      refl,
      sym (is_got (reads_of c.args.self.now) c.args.index (kept_of c.args.kept.now) c.loop-next.ids c.loop-next.next _ _ no_id refl within (ap (λ (l : List Id12). get_or l c.loop-next.next no_id) c.as_slice.ensures) (sym c.file_kept.ensures ∙ ap option_copied c.in_default.is)) ∙ c.loop-next.invariant.1,
      subst (λ (p : Program Chunk). IsAsk p) c.loop-next.invariant.1 (is_asked (reads_of c.args.self.now) c.args.index (kept_of c.args.kept.now) c.loop-next.ids c.loop-next.next _ _ no_id refl within (ap (λ (l : List Id12). get_or l c.loop-next.next no_id) c.as_slice.ensures) (sym c.file_kept.ensures ∙ ap option_copied c.in_default.is)),
      omega (arith, same, c.loop-next.auto.next, within),
    )

pub returns-in-Some-seek : goal.returns-in-Some-seek
returns-in-Some-seek c =
    let same = ap length c.loop-next.invariant.0 in
    let within : c.loop-next.next < length c.loop-next.ids = omega (arith, c.loop-next-test.true, c.len-next-end.ensures, same) in
    looks_more (reads_of c.args.self.now) (kept_of c.args.kept.now) c.args.index 1 _ _ _ c.at_place.result (omega arith)
    (sym c.loop-next.invariant.1
    ∙ has_it (reads_of c.args.self.now) c.args.index (kept_of c.args.kept.now) c.loop-next.ids c.loop-next.next _ _ no_id refl within (ap (λ (l : List Id12). get_or l c.loop-next.next no_id) c.as_slice.ensures) c.in-Some.held.now (sym c.file_kept.ensures ∙ ap option_copied c.in-Some.is)
    (place_seen c.in-Some-seek.place) (sym c.seek.ensures ∙ ap (option_map place_seen) c.in-Some-seek.is))
    (c.at_place.ensures (kept_of c.args.kept.now))

pub loop-next-preserved : goal.loop-next-preserved
loop-next-preserved c =
    let same = ap length c.loop-next.invariant.0 in
    let within : c.loop-next.next < length c.loop-next.ids = omega (arith, c.loop-next-test.true, c.len-next-end.ensures, same) in (
      c.loop-next.invariant.0,
      sym (has_none (reads_of c.args.self.now) c.args.index (kept_of c.args.kept.now) c.loop-next.ids c.loop-next.next _ _ no_id refl within (ap (λ (l : List Id12). get_or l c.loop-next.next no_id) c.as_slice.ensures) c.in-Some.held.now (sym c.file_kept.ensures ∙ ap option_copied c.in-Some.is)
          (sym c.seek.ensures ∙ ap (option_map place_seen) c.in_default-seek.is)) ∙ c.loop-next.invariant.1,
    )

pub returns : goal.returns
returns c =
    let same = ap length c.loop-next.invariant.0 in (
      refl,
      sym c.loop-next.invariant.1 ∙ ends (reads_of c.args.self.now) c.args.index (kept_of c.args.kept.now) c.loop-next.ids c.loop-next.next (omega (arith, c.loop-next-test.false, c.len-next-end.ensures, same)),
    )
