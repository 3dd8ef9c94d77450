-- All collections of a run.
use Rattle.std.proofs.Common.{◌≡◌, ◌⊎◌, inl, inr, ℕ, zero, suc, ◌+◌, List, [], ◌∷◌, refl, sym, ◌∙◌, ap, subst, arith, zero-add}
use Rattle.std.specs.Prelude.{Contains, Some, slice_get}
use Rattle.std.proofs.lemmas.List.Elements.{Contains-append_cases, Contains-append_left, Contains-append_right, Contains-push, Contains-push_cases}
use Rattle.object_store.specs.declared.events.Event.{Event}
use Rattle.history_laws.specs.Collections.{Collection}
use Rattle.history_laws.specs.Laws.{collection_of}
use Rattle.script_calls.specs.declared.calls.Head.{Head}
use Rattle.script_calls.specs.declared.calls.Head.TheVariants.{Session, Refs, Collect, Expire, Check}
use Rattle.play_script.specs.declared.scripts.Task.{Task}
use Rattle.run_histories.specs.Beside.{CollectsAt}

module _ (start journal : List Event) where
  -- the collection of the client at this place
  abbrev pub its_own : (place cutoff : ℕ) → Collection
  its_own place cutoff = collection_of cutoff (place + 1) start journal

  abbrev with_head : Head → (place : ℕ) → List Collection → List Collection
  with_head (Collect cutoff) place cs = its_own place cutoff ∷ cs
  with_head (Session access) place cs = cs
  with_head Refs place cs = cs
  with_head (Expire cutoff drop_branches drop_tags) place cs = cs
  with_head Check place cs = cs

  -- the collections of the tasks, of which the first stands at this place
  abbrev pub all_from : (place : ℕ) → List Task → List Collection
  all_from place [] = []
  all_from place (t ∷ ts) = with_head t.head place (all_from (place + 1) ts)

  -- ---- each of them is one
  first-in : (head : Head) (place cutoff : ℕ) (cs : List Collection) → head ≡ Collect cutoff → Contains (with_head head place cs) (its_own place cutoff)
  first-in (Collect own) place cutoff cs e =
      let same : own ≡ cutoff = cc in
      subst (λ (n : ℕ). Contains (its_own place n ∷ cs) (its_own place cutoff)) (sym same) (Contains-append_left (its_own place cutoff ∷ []) cs (its_own place cutoff) (Contains-push [] (its_own place cutoff)))
  first-in (Session access) place cutoff cs e = absurd cc
  first-in Refs place cutoff cs e = absurd cc
  first-in (Expire before drop_branches drop_tags) place cutoff cs e = absurd cc
  first-in Check place cutoff cs e = absurd cc

  later-in : (head : Head) (place : ℕ) (cs : List Collection) (c : Collection) → Contains cs c → Contains (with_head head place cs) c
  later-in (Collect own) place cs c h = Contains-append_right (its_own place own ∷ []) cs c h
  later-in (Session access) place cs c h = h
  later-in Refs place cs c h = h
  later-in (Expire cutoff drop_branches drop_tags) place cs c h = h
  later-in Check place cs c h = h

  among-from : (tasks : List Task) (place k cutoff : ℕ) (task : Task) → slice_get tasks k ≡ Some task → task.head ≡ Collect cutoff → Contains (all_from place tasks) (its_own (place + k) cutoff)
  among-from [] place k cutoff task at head_is = absurd cc
  among-from (t ∷ ts) place zero cutoff task at head_is =
      let same : t ≡ task = cc in
      let here : place ≡ place + 0 = omega arith in
      subst (λ (n : ℕ). Contains (all_from place (t ∷ ts)) (its_own n cutoff)) here (first-in t.head place cutoff (all_from (place + 1) ts) (ap (λ (x : Task). x.head) same ∙ head_is))
  among-from (t ∷ ts) place (suc k) cutoff task at head_is =
      let there : (place + 1) + k ≡ place + suc k = omega arith in
      subst (λ (n : ℕ). Contains (all_from place (t ∷ ts)) (its_own n cutoff)) there (later-in t.head place (all_from (place + 1) ts) (its_own ((place + 1) + k) cutoff) (among-from ts (place + 1) k cutoff task at head_is))

  -- ---- and no other is
  record IsOneFrom (tasks : List Task) (place : ℕ) (c : Collection) : Type 0 where
    k : ℕ
    cutoff : ℕ
    task : Task
    at : slice_get tasks k ≡ Some task
    head_is : task.head ≡ Collect cutoff
    is : c ≡ its_own (place + k) cutoff

  record IsFirst (head : Head) (place : ℕ) (c : Collection) : Type 0 where
    cutoff : ℕ
    head_is : head ≡ Collect cutoff
    is : c ≡ its_own place cutoff

  first-or-later : (head : Head) (place : ℕ) (cs : List Collection) (c : Collection) → Contains (with_head head place cs) c → IsFirst head place c ⊎ Contains cs c
  first-or-later (Collect own) place cs c h = elim (Contains-append_cases (its_own place own ∷ []) cs c h) [
    | inl one ↦ elim (Contains-push_cases [] (its_own place own) c one) [
      | inl none ↦ absurd (omega (arith, none.1))
      | inr same ↦ inl (record { cutoff = own; head_is = refl; is = sym same })
    ]
    | inr later ↦ inr later
  ]
  first-or-later (Session access) place cs c h = inr h
  first-or-later Refs place cs c h = inr h
  first-or-later (Expire cutoff drop_branches drop_tags) place cs c h = inr h
  first-or-later Check place cs c h = inr h

  one-from : (tasks : List Task) (place : ℕ) (c : Collection) → Contains (all_from place tasks) c → IsOneFrom tasks place c
  one-from [] place c h = absurd (omega (arith, h.1))
  one-from (t ∷ ts) place c h = elim (first-or-later t.head place (all_from (place + 1) ts) c h) [
    | inl first ↦
        let here : place ≡ place + 0 = omega arith in
        record { k = 0; cutoff = first.cutoff; task = t; at = refl; head_is = first.head_is; is = first.is ∙ ap (λ (n : ℕ). its_own n first.cutoff) here }
    | inr later ↦
        let one = one-from ts (place + 1) c later in
        let there : (place + 1) + one.k ≡ place + suc one.k = omega arith in
        record { k = suc one.k; cutoff = one.cutoff; task = one.task; at = one.at; head_is = one.head_is; is = one.is ∙ ap (λ (n : ℕ). its_own n one.cutoff) there }
  ]

  -- ---- from the first place on
  pub all-among : (tasks : List Task) (place cutoff : ℕ) → CollectsAt tasks place cutoff → Contains (all_from 0 tasks) (its_own place cutoff)
  all-among tasks place cutoff at = subst (λ (n : ℕ). Contains (all_from 0 tasks) (its_own n cutoff)) (zero-add place) (among-from tasks 0 place cutoff at.task at.at at.head_is)

  -- what holds of the collection of each task that collects holds of all of them
  pub of-all : (P : Collection → Type 0) (tasks : List Task) → ((place cutoff : ℕ) → CollectsAt tasks place cutoff → P (its_own place cutoff)) → (c : Collection) → Contains (all_from 0 tasks) c → P c
  of-all P tasks each c h =
      let one = one-from tasks 0 c h in
      subst P (sym (one.is ∙ ap (λ (n : ℕ). its_own n one.cutoff) (zero-add one.k))) (each one.k one.cutoff (record { task = one.task; at = one.at; head_is = one.head_is }))
