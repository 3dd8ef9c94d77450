use Rattle.std.proofs.Common.{◌≡◌, ◌∙◌, ◌≤◌, ◌+◌, ◌-◌, ◌++◌, ℕ, List, take, length, rules, arith, ap, ap₂, sym}
use Rattle.std.specs.Prelude.{replicate}
use Rattle.std.proofs.lemmas.List.{length-replicate, take-replicate, replicate-append-replicate}
use Rattle.session.proofs.filling.repeated.Goals as goal

pub loop-piece-preserved : goal.loop-piece-preserved
loop-piece-preserved c =
    let byte : ℕ = c.args.byte in
    let many : ℕ = length c.loop-piece.bytes.items in
    let more : ℕ = c.min-more.result in
    let small : more ≤ 1024 = omega (arith, c.min-more.ensures) in
    let room : more ≤ c.args.len - many = omega (arith, c.min-more.ensures, c.len-in-loop-piece.ensures) in
    let pushed : c.extend_from_slice.new.self.items ≡ c.loop-piece.bytes.items ++ take more (replicate 1024 byte) = search rules in
    let cut : take more (replicate 1024 byte) ≡ replicate more byte = take-replicate more 1024 byte small in
    let joined : c.extend_from_slice.new.self.items ≡ replicate (many + more) byte = pushed ∙ ap₂ (λ (a b : List ℕ). a ++ b) c.loop-piece.invariant.alike cut ∙ replicate-append-replicate many more byte in
    let long : length c.extend_from_slice.new.self.items ≡ many + more = ap length joined ∙ length-replicate (many + more) byte in
    record {
      within = omega (arith, long, room, c.loop-piece.invariant.within);
      alike = joined ∙ ap (λ (n : ℕ). replicate n byte) (sym long);
    }
