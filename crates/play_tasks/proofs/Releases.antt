-- What the releases of leases that are shown come to.
use Rattle.std.proofs.Common.{◌≡◌, ◌++◌, ◌∙◌, ◌+◌, ◌<◌, ◌≤◌, Bool, true, false, List, [], ◌∷◌, length, take, drop, get_or, refl, sym, ap}
use Rattle.std.specs.Prelude.{◌||◌, ℕ, Option, Some, None, Result, Ok, Err}
use Rattle.std.proofs.lemmas.List.Folds.{list_any-append}
use Rattle.ice_ids.specs.declared.Id12.{Id12}
use Rattle.object_store.specs.declared.events.Reply.{Reply}
use Rattle.object_store.specs.declared.events.Reply.TheVariants.{Got, New, Over, Gone, GoneAt, Listed, Failed}
use Rattle.store_api.specs.declared.machines.Refusal.{Refusal}
use Rattle.store_api.specs.declared.machines.Refusal.TheVariants.{StoreFault, NoMemory}
use Rattle.store_api.specs.Plays.{Play, Ended, dooms}
use Rattle.leases.specs.Plays.{after_release}
use Rattle.play_outcome.specs.declared.outcome.Shown.{Shown}
use Rattle.play_outcome.specs.declared.outcome.Shown.TheVariants.{Node, Meta, Chunk, Fill, Cells, Key, Log, Lease}
use Rattle.play_outcome.specs.declared.outcome.End.{End}
use Rattle.play_outcome.specs.declared.outcome.Outcome.{Outcome}
use Rattle.play_outcome.specs.Ending.{end_failed, ends_failed, is_failed, left_failed, shows_failed}
use Rattle.play_outcome.specs.Playing.{ended}
use Rattle.play_tasks.specs.Playing.{left_by, release_from, release_all}
use Rattle.std.proofs.lemmas.List.{take_more, take_all, drop_more, drop_all}
use Rattle.play_tasks.specs.inside.Releasing.{lease_in, next_play}

-- ---- by cases
-- the answer to a release
pub release-cases : (P : Play (Result (Unit {0}) Refusal) → Type 0) → P (Ended (Ok tt)) → P (Ended (Err StoreFault)) → (reply : Reply) → P (after_release reply)
release-cases P done failed (Gone x) = done
release-cases P done failed (Got x) = failed
release-cases P done failed (New x) = failed
release-cases P done failed (Over x) = failed
release-cases P done failed (GoneAt x) = failed
release-cases P done failed (Listed x) = failed
release-cases P done failed (Failed x) = failed

-- an induction over what is shown, behind what is done: a lease is released, whatever comes of it, and all else is passed over
module _ (end : End) (P : List Shown → List Shown → Play Outcome → Type 0) (none : (done : List Shown) → P done [] (ended done end)) (next : (done : List Shown) (line : ℕ) (id : Id12) (left : Option Refusal) (more : List Shown) → ((result : Result (Unit {0}) Refusal) → P (done ++ Lease line id (left_by result) ∷ []) more (release_from (done ++ Lease line id (left_by result) ∷ []) more end)) → P done (Lease line id left ∷ more) (release_from done (Lease line id left ∷ more) end)) (other : (done : List Shown) (s : Shown) (more : List Shown) → lease_in s ≡ None → P (done ++ s ∷ []) more (release_from (done ++ s ∷ []) more end) → P done (s ∷ more) (release_from (done ++ s ∷ []) more end)) where
  pub each-release : (done left : List Shown) → P done left (release_from done left end)
  each-release done [] = none done
  each-release done (Lease line id left ∷ more) = next done line id left more (λ result. each-release (done ++ Lease line id (left_by result) ∷ []) more)
  each-release done (Node line array path ∷ more) = other done (Node line array path) more refl (each-release (done ++ Node line array path ∷ []) more)
  each-release done (Meta line text ∷ more) = other done (Meta line text) more refl (each-release (done ++ Meta line text ∷ []) more)
  each-release done (Chunk line bytes ∷ more) = other done (Chunk line bytes) more refl (each-release (done ++ Chunk line bytes ∷ []) more)
  each-release done (Fill line ∷ more) = other done (Fill line) more refl (each-release (done ++ Fill line ∷ []) more)
  each-release done (Cells line numbers ∷ more) = other done (Cells line numbers) more refl (each-release (done ++ Cells line numbers ∷ []) more)
  each-release done (Key line bytes ∷ more) = other done (Key line bytes) more refl (each-release (done ++ Key line bytes ∷ []) more)
  each-release done (Log line id flushed_at message props ∷ more) = other done (Log line id flushed_at message props) more refl (each-release (done ++ Log line id flushed_at message props ∷ []) more)

-- what is no lease is passed over
pub passes : (s : Shown) → lease_in s ≡ None → (done more : List Shown) (end : End) → release_from done (s ∷ more) end ≡ release_from (done ++ s ∷ []) more end
passes (Node line array path) none done more end = refl
passes (Meta line text) none done more end = refl
passes (Chunk line bytes) none done more end = refl
passes (Fill line) none done more end = refl
passes (Cells line numbers) none done more end = refl
passes (Key line bytes) none done more end = refl
passes (Log line id flushed_at message props) none done more end = refl
passes (Lease line id left) none done more end = absurd (cc)

-- ... and a lease is one of this line and id
pub is-lease : (s : Shown) (line : ℕ) (id : Id12) → lease_in s ≡ Some (line, id) → (left : Option Refusal) × (s ≡ Lease line id left)
is-lease (Lease own this left) line id e =
    let both : ◌≡◌ {A = ℕ × Id12} (own, this) (line, id) = cc in
    (left, ap (λ (x : ℕ × Id12). Lease x.0 x.1 left) both)
is-lease (Node n array path) line id e = absurd (cc)
is-lease (Meta n text) line id e = absurd (cc)
is-lease (Chunk n bytes) line id e = absurd (cc)
is-lease (Fill n) line id e = absurd (cc)
is-lease (Cells n numbers) line id e = absurd (cc)
is-lease (Key n bytes) line id e = absurd (cc)
is-lease (Log n own flushed_at message props) line id e = absurd (cc)

-- ---- what they tell where memory is wanting
other-calm : (s : Shown) → lease_in s ≡ None → left_failed s ≡ false
other-calm (Node line array path) none = refl
other-calm (Meta line text) none = refl
other-calm (Chunk line bytes) none = refl
other-calm (Fill line) none = refl
other-calm (Cells line numbers) none = refl
other-calm (Key line bytes) none = refl
other-calm (Log line id flushed_at message props) none = refl
other-calm (Lease line id left) none = absurd (cc)

or-none : (b : Bool) → (b || false) ≡ b
or-none true = refl
or-none false = refl

-- one more that tells no fault
pub shows-calm : (done : List Shown) (s : Shown) → left_failed s ≡ false → shows_failed (done ++ s ∷ []) ≡ shows_failed done
shows-calm done s calm = list_any-append left_failed done (s ∷ []) ∙ (ap (λ (b : Bool). shows_failed done || (b || false)) calm ∙ or-none (shows_failed done))

pub releases-doom : (done left : List Shown) (end : End) → dooms is_failed (release_from done left end) ≡ (shows_failed done || end_failed end)
releases-doom done left end =
    each-release end (λ d l p. dooms is_failed p ≡ (shows_failed d || end_failed end))
    (λ d. refl)
    (λ d line id before more rest. rest (Err NoMemory) ∙ ap (λ (b : Bool). b || end_failed end) (shows-calm d (Lease line id (Some NoMemory)) refl))
    (λ d s more none rest. rest ∙ ap (λ (b : Bool). b || end_failed end) (shows-calm d s (other-calm s none)))
    done left

-- the whole tells a fault where the session's end did
pub all-doom : (outcome : Outcome) → dooms is_failed (release_all outcome) ≡ ends_failed outcome
all-doom outcome = releases-doom [] outcome.shown outcome.end

-- ---- a walk over what is shown
-- what is no lease at a place is passed over
pub pass-on : (xs : List Shown) (i : ℕ) (d : Shown) (end : End) → i < length xs → lease_in (get_or xs i d) ≡ None → release_from (take i xs) (drop i xs) end ≡ release_from (take (i + 1) xs) (drop (i + 1) xs) end
pass-on xs i d end within none =
    ap (λ (l : List Shown). release_from (take i xs) l end) (drop_more xs i d within)
    ∙ (passes (get_or xs i d) none (take i xs) (drop (i + 1) xs) end ∙ ap (λ (l : List Shown). release_from l (drop (i + 1) xs) end) (sym (take_more xs i d within)))

-- a lease at a place is released next
pub stop-at : (xs : List Shown) (i : ℕ) (d : Shown) (end : End) (line : ℕ) (id : Id12) → i < length xs → lease_in (get_or xs i d) ≡ Some (line, id) → release_from (take i xs) (drop i xs) end ≡ next_play xs end i line id
stop-at xs i d end line id within some =
    let l = is-lease (get_or xs i d) line id some in
    ap (λ (ys : List Shown). release_from (take i xs) ys end) (drop_more xs i d within ∙ ap (λ (s : Shown). s ∷ drop (i + 1) xs) l.1)

-- behind all that is shown the task has ended
pub at-end : (xs : List Shown) (i : ℕ) (end : End) → length xs ≤ i → release_from (take i xs) (drop i xs) end ≡ ended xs end
at-end xs i end past = ap (λ (ys : List Shown). release_from (take i xs) ys end) (drop_all i xs past) ∙ ap (λ (ys : List Shown). ended ys end) (take_all i xs past)
