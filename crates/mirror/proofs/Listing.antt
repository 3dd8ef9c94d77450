-- The refs of a listing that stand, one entry further.
use Rattle.std.proofs.Common.{◌≡◌, ℕ, Bool, true, false, List, [], ◌∷◌, ◌++◌, refl, sym, ◌∙◌, ap, append_assoc}
use Rattle.std.specs.Prelude.{if◌then◌else◌}
use Rattle.object_store.specs.declared.keys.Key.{Key}
use Rattle.object_store.specs.declared.keys.Key.TheVariants.{Branch, Tag}
use Rattle.object_store.specs.declared.events.Entry.{Entry}
use Rattle.live_refs.specs.Live.{live, is_gone}
use Rattle.mirror_reports.specs.declared.outcome.RefId.{RefId}
use Rattle.mirror.specs.Programs.{ref_ids}

abbrev live-or : Entry → List Entry → Bool → List Key
live-or entry behind gone = if gone then live behind else entry.key ∷ live behind

pub entered-gone : (names : List RefId) (entry : Entry) (behind : List Entry) → is_gone entry.key behind ≡ true → names ++ ref_ids (live behind) ≡ names ++ ref_ids (live (entry ∷ behind))
entered-gone names entry behind g = ap (λ (keys : List Key). names ++ ref_ids keys) (sym (ap (live-or entry behind) g))

-- a key that stands
standing : (names : List RefId) (entry : Entry) (behind : List Entry) (key : Key) → is_gone entry.key behind ≡ false → entry.key ≡ key → names ++ ref_ids (key ∷ live behind) ≡ names ++ ref_ids (live (entry ∷ behind))
standing names entry behind key g e = ap (λ (keys : List Key). names ++ ref_ids keys) (ap (λ (k : Key). k ∷ live behind) (sym e) ∙ sym (ap (live-or entry behind) g))

pub entered-branch : (names : List RefId) (name : List ℕ) (entry : Entry) (behind : List Entry) → is_gone entry.key behind ≡ false → entry.key ≡ Branch name → (names ++ record { tag = false; name = name } ∷ []) ++ ref_ids (live behind) ≡ names ++ ref_ids (live (entry ∷ behind))
entered-branch names name entry behind g e = append_assoc names (record { tag = false; name = name } ∷ []) (ref_ids (live behind)) ∙ standing names entry behind (Branch name) g e

pub entered-tag : (names : List RefId) (name : List ℕ) (entry : Entry) (behind : List Entry) → is_gone entry.key behind ≡ false → entry.key ≡ Tag name → (names ++ record { tag = true; name = name } ∷ []) ++ ref_ids (live behind) ≡ names ++ ref_ids (live (entry ∷ behind))
entered-tag names name entry behind g e = append_assoc names (record { tag = true; name = name } ∷ []) (ref_ids (live behind)) ∙ standing names entry behind (Tag name) g e

-- a key that is no ref
pub entered-none : (names : List RefId) (entry : Entry) (behind : List Entry) (key : Key) → is_gone entry.key behind ≡ false → entry.key ≡ key → ref_ids (key ∷ live behind) ≡ ref_ids (live behind) → names ++ ref_ids (live behind) ≡ names ++ ref_ids (live (entry ∷ behind))
entered-none names entry behind key g e none = ap (λ (rs : List RefId). names ++ rs) (sym none) ∙ standing names entry behind key g e
