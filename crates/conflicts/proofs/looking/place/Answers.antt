use Rattle.std.proofs.Common.{rules, of_calls, ℕ, List, Bor, Ok, Err, refl, inl, inr}
use Rattle.std.proofs.lemmas.Fn.{always_returns_same}
use Rattle.zarr_path.specs.Paths.{path_cmp}
use Rattle.conflicts.proofs.Halving.{place_low, place_high}
use Rattle.conflicts.proofs.looking.place.Goals as goal

pub returns-in-Ok : goal.returns-in-Ok
returns-in-Ok c =
    let facts = c.in-Ok.ensures in
    let found = facts.position (λ text. path_cmp text.now c.args.text.now) (always_returns_same _ _ _ (λ a r f called. search (rules, of_calls))) in
    record {
      before = place_low (λ (text : Bor (List ℕ)). text.now) c.args.texts.now c.args.text.now c.requires c.in-Ok.at (Ok c.in-Ok.at) (inl refl) facts.bound found;
      behind = place_high (λ (text : Bor (List ℕ)). text.now) c.args.texts.now c.args.text.now c.requires c.in-Ok.at (Ok c.in-Ok.at) (inl refl) facts.bound found;
    }

pub returns-in-Err : goal.returns-in-Err
returns-in-Err c =
    let facts = c.in-Err.ensures in
    let found = facts.position (λ text. path_cmp text.now c.args.text.now) (always_returns_same _ _ _ (λ a r f called. search (rules, of_calls))) in
    record {
      before = place_low (λ (text : Bor (List ℕ)). text.now) c.args.texts.now c.args.text.now c.requires c.in-Err.at (Err c.in-Err.at) (inr refl) facts.bound found;
      behind = place_high (λ (text : Bor (List ℕ)). text.now) c.args.texts.now c.args.text.now c.requires c.in-Err.at (Err c.in-Err.at) (inr refl) facts.bound found;
    }
