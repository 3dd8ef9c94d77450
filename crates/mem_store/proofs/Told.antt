-- The journal that is kept, event by event.
use Rattle.std.proofs.Common.{◌≡◌, ℕ, zero, suc, ◌+◌, ◌-◌, ◌<◌, ◌≤◌, List, [], ◌∷◌, ◌++◌, length, take, refl, sym, ◌∙◌, ap, arith, length-append}
use Rattle.std.specs.Prelude.{Option, Some, None, slice_get}
use Rattle.std.proofs.lemmas.List.{get_or_append_left}
use Rattle.std.proofs.Math.Seq.{get_or-append_seam}
use Rattle.std.proofs.lemmas.Option.{slice_get-get_or, slice_get_past, slice_get_within}
use Rattle.object_store.specs.declared.events.Event.{Event}
use Rattle.object_store.specs.Machine.{Stored, last_time}
use Rattle.mem_store.specs.declared.kept_events.KeptEvent.{KeptEvent}
use Rattle.mem_store.specs.KeptEvents.{bytes_put, put_by, put_in, event_in, told_after, told}
use Rattle.mem_store.proofs.Times.{time-last}

pub get-before : {X : Type 0} (xs ys : List X) (i : ℕ) → i < length xs → slice_get (xs ++ ys) i ≡ slice_get xs i
get-before {X} xs ys i l =
    let d : X = get_in xs i l in
    slice_get-get_or (xs ++ ys) i d (omega (arith, l, length-append xs ys))
    ∙ (ap (λ (x : X). Some x) (get_or_append_left xs ys d i l)
    ∙ sym (slice_get-get_or xs i d l))
  where
    get_in : (xs : List X) (i : ℕ) → i < length xs → X
    get_in [] i l = absurd (omega (arith, l))
    get_in (x ∷ xs) i l = x

pub get-seam : {X : Type 0} (xs : List X) (y : X) (ys : List X) → slice_get (xs ++ y ∷ ys) (length xs) ≡ Some y
get-seam {X} xs y ys =
    slice_get-get_or (xs ++ y ∷ ys) (length xs) y (omega (arith, length-append xs (y ∷ ys)))
    ∙ ap (λ (x : X). Some x) (get_or-append_seam xs y ys y)

pub told-append : (journal : List Event) (logs : List KeptEvent) (log : KeptEvent) → told_after journal (logs ++ log ∷ []) ≡ told_after journal logs ++ event_in (told_after journal logs) log ∷ []
unfolding told_after
told-append journal [] log = refl
told-append journal (x ∷ xs) log = told-append (journal ++ event_in journal x ∷ []) xs log

told-none : (journal : List Event) → told_after journal [] ≡ journal
unfolding told_after
told-none journal = refl

pub told-empty : told [] ≡ []
told-empty = told-none []

told-more : (journal : List Event) (log : KeptEvent) (logs : List KeptEvent) → told_after journal (log ∷ logs) ≡ told_after (journal ++ event_in journal log ∷ []) logs
unfolding told_after
told-more journal log logs = refl

length-told_after : (journal : List Event) (logs : List KeptEvent) → length (told_after journal logs) ≡ length journal + length logs
length-told_after journal [] = ap (λ (xs : List Event). length xs) (told-none journal) ∙ omega arith
length-told_after journal (x ∷ xs) =
    let more : List Event = journal ++ event_in journal x ∷ [] in
    let one : length more ≡ length journal + length (event_in journal x ∷ []) = length-append journal (event_in journal x ∷ []) in
    ap (λ (ys : List Event). length ys) (told-more journal x xs) ∙ (length-told_after more xs ∙ omega (arith, one))

pub length-told : (logs : List KeptEvent) → length (told logs) ≡ length logs
length-told logs = length-told_after [] logs ∙ omega arith

told-before : (journal : List Event) (logs : List KeptEvent) (i : ℕ) → i < length journal → slice_get (told_after journal logs) i ≡ slice_get journal i
told-before journal [] i l = ap (λ (xs : List Event). slice_get xs i) (told-none journal)
told-before journal (x ∷ xs) i l =
    let more : List Event = journal ++ event_in journal x ∷ [] in
    ap (λ (ys : List Event). slice_get ys i) (told-more journal x xs)
    ∙ (told-before more xs i (omega (arith, l, length-append journal (event_in journal x ∷ [])))
    ∙ get-before journal (event_in journal x ∷ []) i l)

told_after-at : (journal : List Event) (logs : List KeptEvent) (i : ℕ) (log : KeptEvent) → slice_get logs i ≡ Some log → slice_get (told_after journal logs) (length journal + i) ≡ Some (event_in (told_after journal (take i logs)) log)
told_after-at journal [] i log e = let l : i < 0 = slice_get_within [] i log e in absurd (omega (arith, l))
told_after-at journal (x ∷ xs) zero log e =
    let more : List Event = journal ++ event_in journal x ∷ [] in
    let one : length more ≡ length journal + 1 = length-append journal (event_in journal x ∷ []) in
    let place : length journal + 0 ≡ length journal = omega arith in
    let same : x ≡ log = cc in
    ap (λ (n : ℕ). slice_get (told_after journal (x ∷ xs)) n) place
    ∙ (ap (λ (ys : List Event). slice_get ys (length journal)) (told-more journal x xs)
    ∙ (told-before more xs (length journal) (omega (arith, one))
    ∙ (get-seam journal (event_in journal x) []
    ∙ (ap (λ (y : KeptEvent). Some (event_in journal y)) same
    ∙ ap (λ (ys : List Event). Some (event_in ys log)) (sym (told-none journal))))))
told_after-at journal (x ∷ xs) (suc i) log e =
    let more : List Event = journal ++ event_in journal x ∷ [] in
    let one : length more ≡ length journal + 1 = length-append journal (event_in journal x ∷ []) in
    let place : length journal + suc i ≡ length more + i = omega (arith, one) in
    ap (λ (n : ℕ). slice_get (told_after journal (x ∷ xs)) n) place
    ∙ (ap (λ (ys : List Event). slice_get ys (length more + i)) (told-more journal x xs)
    ∙ (told_after-at more xs i log e
    ∙ ap (λ (ys : List Event). Some (event_in ys log)) (sym (told-more journal x (take i xs)))))

-- the event that is kept at a place
pub told-at : (logs : List KeptEvent) (i : ℕ) (log : KeptEvent) → slice_get logs i ≡ Some log → slice_get (told logs) i ≡ Some (event_in (told (take i logs)) log)
told-at logs i log e =
    let place : i ≡ length {A = Event} [] + i = omega arith in
    ap (λ (n : ℕ). slice_get (told logs) n) place ∙ told_after-at [] logs i log e

pub told-past : (logs : List KeptEvent) (i : ℕ) → length logs ≤ i → slice_get (told logs) i ≡ None
told-past logs i le = slice_get_past (told logs) i (omega (arith, le, length-told logs))

-- what the put that is kept at a place put
abbrev pub kept_by : ℕ → Option KeptEvent → Stored
kept_by place None = record { bytes = []; version = place; created = 0 }
kept_by place (Some log) = record { bytes = bytes_put log.op; version = place; created = log.time }

pub put-told : (logs : List KeptEvent) (place : ℕ) → put_in (told logs) place ≡ kept_by place (slice_get logs place)
put-told logs place = decide (slice_get logs place) refl
  where
    decide : (o : Option KeptEvent) → slice_get logs place ≡ o → put_in (told logs) place ≡ kept_by place (slice_get logs place)
    decide None e = ap (put_by place) (told-past logs place (past logs place e)) ∙ ap (kept_by place) (sym e)
      where
        past : (xs : List KeptEvent) (i : ℕ) → slice_get xs i ≡ None → length xs ≤ i
        past [] i e = omega arith
        past (x ∷ xs) zero e = cc
        past (x ∷ xs) (suc i) e = omega (arith, past xs i e)
    decide (Some log) e = ap (put_by place) (told-at logs place log e) ∙ ap (kept_by place) (sym e)

pub told-last : (logs : List KeptEvent) (log : KeptEvent) → slice_get logs (length logs - 1) ≡ Some log → last_time (told logs) ≡ log.time
told-last logs log e =
    time-last (told logs) (event_in (told (take (length logs - 1) logs)) log)
    (ap (λ (n : ℕ). slice_get (told logs) (n - 1)) (length-told logs) ∙ told-at logs (length logs - 1) log e)

pub told-first : (logs : List KeptEvent) → slice_get logs (length logs - 1) ≡ None → last_time (told logs) ≡ 0
told-first [] e = ap last_time told-empty
told-first (log ∷ logs) e = absurd (present (log ∷ logs) (length (log ∷ logs) - 1) (omega arith) e)
  where
    present : (xs : List KeptEvent) (i : ℕ) → i < length xs → slice_get xs i ≡ None → ⊥
    present [] i l e = omega (arith, l)
    present (x ∷ xs) zero l e = cc
    present (x ∷ xs) (suc i) l e = present xs i (omega (arith, l)) e
