-- What is left of a listing.
use Rattle.std.proofs.Common.{◌≡◌, ℕ, ◌+◌, ◌-◌, ◌<◌, ◌≤◌, Bool, true, false, cond, List, [], ◌∷◌, length, take, drop, get_or, sym, ◌∙◌, ap}
use Rattle.std.proofs.Math.Seq.{take-length}
use Rattle.std.proofs.Math.ListN.{drop_of_length-le}
use Rattle.std.proofs.lemmas.List.{drop_more, length-drop}
use Rattle.object_store.specs.declared.events.Entry.{Entry}
use Rattle.live_refs.specs.Live.{live, is_gone, first_and_live}

-- a slice up to the end
behind-slice : (entries : List Entry) (from : ℕ) → take (length entries - from) (drop from entries) ≡ drop from entries
behind-slice entries from = ap (λ (n : ℕ). take n (drop from entries)) (sym (length-drop from entries)) ∙ take-length (drop from entries)

live-at : (entries : List Entry) (place : ℕ) (entry : Entry) (b : Bool) → place < length entries → b ≡ is_gone (get_or entries place entry).key (take (length entries - (place + 1)) (drop (place + 1) entries)) → live (drop place entries) ≡ cond b (live (drop (place + 1) entries)) ((get_or entries place entry).key ∷ live (drop (place + 1) entries))
live-at entries place entry b l e =
    let same : is_gone (get_or entries place entry).key (drop (place + 1) entries) ≡ b = ap (is_gone (get_or entries place entry).key) (sym (behind-slice entries (place + 1))) ∙ sym e in
    ap live (drop_more entries place entry l) ∙ ap (λ (x : Bool). cond x (live (drop (place + 1) entries)) ((get_or entries place entry).key ∷ live (drop (place + 1) entries))) same

pub live-gone : (entries : List Entry) (place : ℕ) (entry : Entry) (b : Bool) → place < length entries → b ≡ is_gone (get_or entries place entry).key (take (length entries - (place + 1)) (drop (place + 1) entries)) → b ≡ true → live (drop place entries) ≡ live (drop (place + 1) entries)
live-gone entries place entry b l e gone = live-at entries place entry b l e ∙ ap (λ (x : Bool). cond x (live (drop (place + 1) entries)) ((get_or entries place entry).key ∷ live (drop (place + 1) entries))) gone

pub live-stands : (entries : List Entry) (place : ℕ) (entry : Entry) (b : Bool) → place < length entries → b ≡ is_gone (get_or entries place entry).key (take (length entries - (place + 1)) (drop (place + 1) entries)) → b ≡ false → live (drop place entries) ≡ (get_or entries place entry).key ∷ live (drop (place + 1) entries)
live-stands entries place entry b l e stands = live-at entries place entry b l e ∙ ap (λ (x : Bool). cond x (live (drop (place + 1) entries)) ((get_or entries place entry).key ∷ live (drop (place + 1) entries))) stands

pub live-none : (entries : List Entry) (place : ℕ) → length entries ≤ place → live (drop place entries) ≡ []
live-none entries place l = ap live (drop_of_length-le entries l)

-- the first that stands
pub first-stands : (entries : List Entry) (place : ℕ) (entry : Entry) (b : Bool) → place < length entries → b ≡ is_gone (get_or entries place entry).key (take (length entries - (place + 1)) (drop (place + 1) entries)) → b ≡ false → live (drop place entries) ≡ first_and_live (drop place entries)
first-stands entries place entry b l e stands = live-stands entries place entry b l e stands ∙ ap first_and_live (sym (drop_more entries place entry l))

-- at the end none is left
pub none-left : (entries : List Entry) (place : ℕ) → length entries ≤ place → (n : ℕ) → length entries ≤ n → live (drop place entries) ≡ first_and_live (drop n entries)
none-left entries place l n m = live-none entries place l ∙ sym (ap first_and_live (drop_of_length-le entries m))
