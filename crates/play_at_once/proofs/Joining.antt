-- Two parts of a run, joined.
use Rattle.std.proofs.Common.{◌≡◌, ◌≢◌, ◌⊎◌, inl, inr, ⊎_elim, ℕ, zero, suc, ◌+◌, ◌<◌, ◌≤◌, Bool, true, false, List, [], ◌∷◌, ◌++◌, length, refl, sym, ◌∙◌, ap, subst, append-nil, append_assoc, arith, max, map, ne_eqb, eq-eqb, eqb-true}
use Rattle.std.specs.Prelude.{◌==◌, IsTrue, IfSome, All, Some, slice_get, nat_lt, if◌then◌else◌}
use Rattle.std.proofs.lemmas.List.{map-append}
use Rattle.std.proofs.lemmas.List.Elements.{All-nil, All-append, All-head, All-tail, All-weaker, filter-append}
use Rattle.ice_base.proofs.Counts.{Rose-after}
use Rattle.ice_ids.specs.declared.drawing.Draw.{Draw}
use Rattle.turn_cell.specs.declared.known.Known.{Known}
use Rattle.turn_cell.specs.declared.known.Owners.{Owners}
use Rattle.turn_cell.specs.Owners.{IsOwner, lower_part, upper_part, united}
use Rattle.turn_cell.specs.SeenJournals.{Follows, joined, longer}
use Rattle.turn_cell.proofs.Growth.{one_of}
use Rattle.shared_store.specs.Told.{client_of}
use Rattle.object_store.specs.declared.events.Event.{Event}
use Rattle.store_api.specs.Journal.{Each, IsGood}
use Rattle.store_api.specs.Callers.{IsOther, only}
use Rattle.store_api.specs.Program.{events_of}
use Rattle.store_api.specs.Plays.{Play}
use Rattle.object_store.proofs.Journals.{Each-append, Each-back, Each-both, Each-weaker, Each-none}
use Rattle.play_script.specs.declared.scripts.Task.{Task}
use Rattle.play_outcome.specs.declared.outcome.Outcome.{Outcome}
use Rattle.play_outcome.specs.Ending.{is_failed}
use Rattle.play_tasks.specs.Tasks.{ids_at, AllStand, AllBlame, TellsAt}
use Rattle.play_tasks.specs.Played.{PlaysTo}
use Rattle.play_tasks.specs.Laws.{OutcomeLaw}
use Rattle.play_tasks.specs.declared.worker.Worker.{Worker}
use Rattle.play_tasks.specs.Workers.{worker_rest}
use Rattle.play_run.proofs.Rounds.{size_map}
use Rattle.play_run.proofs.Turning.{only-other}
use Rattle.play_at_once.specs.inside.Stepping.{Blames, IsKnown, IsAt, Tells}
use Rattle.play_at_once.specs.inside.Forking.{HasPlaces, CanGo, CanGoAt, IsBack, RanOne, IsAmong, AllTell, RanAll}

-- ---- lists
cancel : (xs ys zs : List Event) → xs ++ ys ≡ xs ++ zs → ys ≡ zs
cancel [] ys zs e = e
cancel (x ∷ xs) ys zs e = cancel xs ys zs (rest e)
  where
    rest : x ∷ (xs ++ ys) ≡ x ∷ (xs ++ zs) → xs ++ ys ≡ xs ++ zs
    rest h = cc

module _ {X : Type 0} where
  get_more : (xs : List X) (x w : X) (k : ℕ) → slice_get xs k ≡ Some w → slice_get (xs ++ x ∷ []) k ≡ Some w
  get_more [] x w k e = absurd (cc)
  get_more (y ∷ ys) x w zero e = e
  get_more (y ∷ ys) x w (suc k) e = get_more ys x w k e

  get_last : (xs : List X) (x : X) → slice_get (xs ++ x ∷ []) (length xs) ≡ Some x
  get_last [] x = refl
  get_last (y ∷ ys) x = get_last ys x

  get_snoc : (xs : List X) (x w : X) (k : ℕ) → slice_get (xs ++ x ∷ []) k ≡ Some w → ((k < length xs) × (slice_get xs k ≡ Some w)) ⊎ ((k ≡ length xs) × (x ≡ w))
  get_snoc [] x w zero e = inr (refl, cc)
  get_snoc [] x w (suc k) e = absurd (cc)
  get_snoc (y ∷ ys) x w zero e = inl (omega arith, e)
  get_snoc (y ∷ ys) x w (suc k) e = ⊎_elim (λ p. inl (omega (arith, p.0), p.1)) (λ p. inr (ap suc p.0, p.1)) (get_snoc ys x w k e)

  length-snoc : (xs : List X) (x : X) → length (xs ++ x ∷ []) ≡ length xs + 1
  length-snoc [] x = refl
  length-snoc (y ∷ ys) x = let rest = length-snoc ys x in omega (arith, rest)

  none-left : (xs : List X) → length xs ≡ 0 → xs ≡ []
  none-left [] e = refl
  none-left (y ∷ ys) e = absurd (omega (arith, e))

-- ---- whose events they are
abbrev Foreign : (ℕ → Type 0) → Event → Type 0
Foreign clients e = ¬ clients e.client

none-of : (client : ℕ) (xs : List Event) → All (λ e. e.client ≢ client) xs → events_of client xs ≡ []
none-of client [] all = refl
none-of client (x ∷ xs) all = rw (ne_eqb x.client client (All-head (λ (e : Event). e.client ≢ client) x xs all)) (none-of client xs (All-tail (λ (e : Event). e.client ≢ client) x xs all))

-- all of them are the client's
all-of : (client : ℕ) (xs : List Event) → All (λ e. e.client ≡ client) xs → events_of client xs ≡ xs
all-of client [] all = refl
all-of client (x ∷ xs) all =
    rw (eq-eqb x.client client (All-head (λ (e : Event). e.client ≡ client) x xs all)) (ap (λ (ys : List Event). x ∷ ys) (all-of client xs (All-tail (λ (e : Event). e.client ≡ client) x xs all)))

foreign-none : (clients : ℕ → Type 0) (client : ℕ) (xs : List Event) → clients client → All (Foreign clients) xs → events_of client xs ≡ []
foreign-none clients client xs own all = none-of client xs (All-weaker (Foreign clients) (λ e. e.client ≢ client) (λ e out is. out (subst clients (sym is) own)) xs all)

-- the events of a client of one part, where those behind it are others'
part-of : (clients : ℕ → Type 0) (client : ℕ) (xs ys : List Event) → clients client → All (Foreign clients) ys → events_of client (xs ++ ys) ≡ events_of client xs
part-of clients client xs ys own all = filter-append (λ e. e.client == client) xs ys ∙ (ap (λ (zs : List Event). events_of client xs ++ zs) (foreign-none clients client ys own all) ∙ append-nil (events_of client xs))

module _ (draw : Draw) (tasks : List Task) (start : List Event) where
  abbrev Known_by : (ℕ → Type 0) → List Event → Event → Type 0
  Known_by clients = IsKnown draw tasks start clients

  -- events past one part are known to the other
  known-foreign : (A B C : ℕ → Type 0) → ((n : ℕ) → C n → A n ⊎ B n) → (old ys : List Event) → Each (Known_by A) old ys → All (Foreign B) ys → Each (Known_by C) old ys
  unfolding Each
  known-foreign A B C split old [] each all = tt
  known-foreign A B C split old (y ∷ ys) each all =
      let out = All-head (Foreign B) y ys all in (
        record { good = each.0.good; mine = λ c. ⊎_elim (λ a. each.0.mine a) (λ b. absurd (out b)) (split y.client c) },
        known-foreign A B C split (old ++ y ∷ []) ys each.1 (All-tail (Foreign B) y ys all),
      )

  -- one part has seen them all, and the other the first of them
  merged : (A B C : ℕ → Type 0) → ((n : ℕ) → C n → A n ⊎ B n) → (old xs ys : List Event) → Each (Known_by A) old (xs ++ ys) → Each (Known_by B) old xs → All (Foreign B) ys → Each (Known_by C) old (xs ++ ys)
  merged A B C split old xs ys whole some all =
      let parts = Each-back (Known_by A) old xs ys whole in
      Each-append (Known_by C) old xs ys
      (Each-both (Known_by A) (Known_by B) (Known_by C) (λ h e a b. record { good = a.good; mine = λ c. ⊎_elim (λ x. a.mine x) (λ y. b.mine y) (split e.client c) }) old xs parts.0 some)
      (known-foreign A B C split (old ++ xs) ys parts.1 all)

  -- one of the two parts has seen them all
  known-joined : (A B C : ℕ → Type 0) → ((n : ℕ) → C n → A n ⊎ B n) → (old more xs ys us vs : List Event) → more ≡ xs ++ ys → more ≡ us ++ vs → Each (Known_by A) old xs → Each (Known_by B) old us
      → All (Foreign A) ys → All (Foreign B) vs → (xs ≡ more) ⊎ (us ≡ more) → Each (Known_by C) old more
  known-joined A B C split old more xs ys us vs e f a b out out' (inl all) =
      let whole = subst (λ (l : List Event). Each (Known_by A) old l) (all ∙ f) a in
      subst (λ (l : List Event). Each (Known_by C) old l) (sym f) (merged A B C split old us vs whole b out')
  known-joined A B C split old more xs ys us vs e f a b out out' (inr all) =
      let whole = subst (λ (l : List Event). Each (Known_by B) old l) (all ∙ e) b in
      subst (λ (l : List Event). Each (Known_by C) old l) (sym e) (merged B A C (λ n c. ⊎_elim (λ x. inr x) (λ y. inl y) (split n c)) old xs ys whole a out)

-- good events of others
others-each : (tells : Bool) (clients : ℕ → Type 0) (place : ℕ) → clients (place + 1) → (old xs : List Event) → Each IsGood old xs → All (Foreign clients) xs → Each (IsOther (only tells (place + 1))) old xs
unfolding Each
others-each tells clients place own old [] good all = tt
others-each tells clients place own old (x ∷ xs) good all =
    let out : x.client ≢ place + 1 = λ is. All-head (Foreign clients) x xs all (subst clients (sym is) own) in
    (record { good = good.0; other = out; not_owned = only-other tells place x.client out }, others-each tells clients place own (old ++ x ∷ []) xs good.1 (All-tail (Foreign clients) x xs all))

-- what an outcome tells stays so
still-told : OutcomeLaw → (draw : Draw) (tells : Bool) (clients : ℕ → Type 0) (place : ℕ) (task : Task) (outcome : Outcome) (start old xs ys : List Event) → clients (place + 1) → Each IsGood old (xs ++ ys) → All (Foreign clients) ys
    → TellsAt draw place task start outcome (old ++ xs) → TellsAt draw place task start outcome (old ++ (xs ++ ys))
still-told law draw tells clients place task outcome start old xs ys own good all told =
    let parts = Each-back IsGood old xs ys good in
    subst (λ (h : List Event). TellsAt draw place task start outcome h) (append_assoc old xs ys)
    (law (only tells (place + 1)) (ids_at draw place) task outcome start (old ++ xs) ys (others-each tells clients place own (old ++ xs) ys parts.1 all) told)

one-journal : (xs ys : List Event) → (longer xs ys ≡ xs) ⊎ (longer xs ys ≡ ys)
one-journal xs ys = by_test (nat_lt (length xs) (length ys))
  where
    by_test : (b : Bool) → ((if b then ys else xs) ≡ xs) ⊎ ((if b then ys else xs) ≡ ys)
    by_test true = inr refl
    by_test false = inl refl

-- ---- the clients of two parts
lower-places : (owners : Owners) (count place : ℕ) → HasPlaces owners (count + 1) → place < count → IsOwner (lower_part (count + 1) owners) (place + 1)
lower-places owners count place h less = (let low = h.low in omega (arith, low), omega (arith, less))

upper-place : (owners : Owners) (count : ℕ) → HasPlaces owners (count + 1) → IsOwner (upper_part (count + 1) owners) (count + 1)
upper-place owners count h = (omega arith, h.end)

-- ---- a crew and one more
module _ (law : OutcomeLaw) (tells : Bool) (old : Known Event) (l r j : Known Event) (ps : List (Play Outcome)) (p : Play Outcome) (outcomes : List Outcome) (outcome : Outcome)
    (h : HasPlaces old.owners (length ps + 1))
    (a : RanAll tells (record old { owners = lower_part (length ps + 1) old.owners }) l ps outcomes)
    (b : RanOne tells (length ps) (record old { owners = upper_part (length ps + 1) old.owners }) r p outcome)
    (is : j ≡ joined l r) (first : Follows client_of l.owners l.journal j.journal) (second : Follows client_of r.owners r.journal j.journal) where
  abbrev at : ℕ
  at = length ps + 1

  abbrev Low : ℕ → Type 0
  Low n = IsOwner (lower_part at old.owners) n

  abbrev High : ℕ → Type 0
  High n = IsOwner (upper_part at old.owners) n

  abbrev events : List Event
  events = a.events ++ b.events

  out-low : All (Foreign Low) first.rest
  out-low = subst (λ (o : Owners). All (λ e. ¬ IsOwner o (client_of e)) first.rest) a.back.owners first.foreign

  out-high : All (Foreign High) second.rest
  out-high = subst (λ (o : Owners). All (λ e. ¬ IsOwner o (client_of e)) second.rest) b.back.owners second.foreign

  splits : (n : ℕ) → IsOwner old.owners n → Low n ⊎ High n
  splits n own = one_of (lower_part at old.owners) (upper_part at old.owners) n refl own

  -- the crew's events aren't the last one's
  below-mine : (place : ℕ) → place < length ps → events_of (place + 1) events ≡ events_of (place + 1) a.events
  below-mine place less =
      let none : events_of (place + 1) b.events ≡ [] = none-of (place + 1) b.events (All-weaker (IsAt (length ps)) (λ e. e.client ≢ place + 1) (λ e mine same. differ (sym mine ∙ same)) b.events b.mine) in
      filter-append (λ e. e.client == place + 1) a.events b.events ∙ (ap (λ (zs : List Event). events_of (place + 1) a.events ++ zs) none ∙ append-nil (events_of (place + 1) a.events))
    where
      differ : length ps + 1 ≡ place + 1 → ⊥
      differ e = omega (arith, e, less)

  last-mine : events_of (length ps + 1) events ≡ b.events
  last-mine =
      let none : events_of (length ps + 1) a.events ≡ [] = none-of (length ps + 1) a.events (All-weaker (IsAmong (length ps)) (λ e. e.client ≢ length ps + 1) (λ e mine same. differ mine.place mine.within (sym mine.client ∙ same)) a.events a.owned) in
      filter-append (λ e. e.client == length ps + 1) a.events b.events ∙ (ap (λ (zs : List Event). zs ++ events_of (length ps + 1) b.events) none ∙ all-of (length ps + 1) b.events b.mine)
    where
      differ : (place : ℕ) → place < length ps → place + 1 ≡ length ps + 1 → ⊥
      differ place less e = omega (arith, e, less)

  module _ (draw : Draw) (tasks : List Task) (start : List Event) (told : IsTrue tells) (stand : AllStand draw tasks start tells (ps ++ p ∷ []) old.journal) where
    crew : AllTell draw tasks start Low outcomes a.events old.journal l.journal
    crew = a.kept draw tasks start told (λ place q at_q. stand place q (get_more ps p q place at_q))

    one : ((task : Task) → slice_get tasks (length ps) ≡ Some task → TellsAt draw (length ps) task start outcome r.journal) × Tells draw tasks start High (length ps) b.events old.journal r.journal
    one = b.kept draw tasks start told (stand (length ps) p (get_last ps p))

    abbrev more : List Event
    more = crew.more ++ first.rest

    goes : j.journal ≡ old.journal ++ more
    goes = first.is ∙ (ap (λ (x : List Event). x ++ first.rest) crew.is ∙ append_assoc old.journal crew.more first.rest)

    goes-one : j.journal ≡ old.journal ++ (one.1.more ++ second.rest)
    goes-one = second.is ∙ (ap (λ (x : List Event). x ++ second.rest) one.1.is ∙ append_assoc old.journal one.1.more second.rest)

    same-more : more ≡ one.1.more ++ second.rest
    same-more = cancel old.journal more (one.1.more ++ second.rest) (sym goes ∙ goes-one)

    which : (crew.more ≡ more) ⊎ (one.1.more ≡ more)
    which = ⊎_elim
        (λ e. inl (cancel old.journal crew.more more (sym crew.is ∙ (sym e ∙ (sym journal_is ∙ goes)))))
        (λ e. inr (cancel old.journal one.1.more more (sym one.1.is ∙ (sym e ∙ (sym journal_is ∙ goes)))))
        (one-journal l.journal r.journal)
      where
        journal_is : j.journal ≡ longer l.journal r.journal
        journal_is = ap (λ (x : Known Event). x.journal) is

    all-known : Each (IsKnown draw tasks start (IsOwner old.owners)) old.journal more
    all-known = known-joined draw tasks start Low High (IsOwner old.owners) splits old.journal more crew.more first.rest one.1.more second.rest refl same-more crew.known one.1.known out-low out-high which

    all-good : Each IsGood old.journal more
    all-good = Each-weaker (IsKnown draw tasks start (IsOwner old.owners)) IsGood (λ x e k. k.good) old.journal more all-known

    alike-below : (place : ℕ) → place < length ps → place < length outcomes → events_of (place + 1) more ≡ events_of (place + 1) events
    alike-below place less less' = part-of Low (place + 1) crew.more first.rest (lower-places old.owners (length ps) place h less) out-low ∙ (crew.alike place less' ∙ sym (below-mine place less))

    alike-last : events_of (length ps + 1) more ≡ events_of (length ps + 1) events
    alike-last = ap (events_of (length ps + 1)) same-more ∙ (part-of High (length ps + 1) one.1.more second.rest (upper-place old.owners (length ps) h) out-high ∙ (one.1.alike ∙ sym last-mine))

    told-below : (place : ℕ) (task : Task) (o : Outcome) → place < length ps → slice_get tasks place ≡ Some task → slice_get outcomes place ≡ Some o → TellsAt draw place task start o j.journal
    told-below place task o less at_task at_o =
        let here = subst (λ (x : List Event). TellsAt draw place task start o x) crew.is (crew.told place task o at_task at_o) in
        subst (λ (x : List Event). TellsAt draw place task start o x) (sym goes) (still-told law draw tells Low place task o start old.journal crew.more first.rest (lower-places old.owners (length ps) place h less) all-good out-low here)

    told-last : (task : Task) → slice_get tasks (length ps) ≡ Some task → TellsAt draw (length ps) task start outcome j.journal
    told-last task at_task =
        let here = subst (λ (x : List Event). TellsAt draw (length ps) task start outcome x) one.1.is (one.0 task at_task) in
        subst (λ (x : List Event). TellsAt draw (length ps) task start outcome x) (sym goes-one)
        (still-told law draw tells High (length ps) task outcome start old.journal one.1.more second.rest (upper-place old.owners (length ps) h) (subst (λ (x : List Event). Each IsGood old.journal x) same-more all-good) out-high here)

    all-tell : AllTell draw tasks start (IsOwner old.owners) (outcomes ++ outcome ∷ []) events old.journal j.journal
    all-tell = record {
      more = more;
      is = goes;
      known = all-known;
      alike = λ place less. by_alike place less (place == length ps) refl;
      told = λ place task o at_task at_o. ⊎_elim
          (λ c. told-below place task o (below c.0) at_task c.1)
          (λ c. by_last place task o (c.0 ∙ a.size) at_task c.1)
          (get_snoc outcomes outcome o place at_o);
    }
      where
        below : {place : ℕ} → place < length outcomes → place < length ps
        below less = let size = a.size in omega (arith, less, size)

        by_alike : (place : ℕ) → place < length (outcomes ++ outcome ∷ []) → (x : Bool) → (place == length ps) ≡ x → events_of (place + 1) more ≡ events_of (place + 1) events
        by_alike place less true e =
            let same : place ≡ length ps = eqb-true place (length ps) e in
            subst (λ (n : ℕ). events_of (n + 1) more ≡ events_of (n + 1) events) (sym same) alike-last
        by_alike place less false e =
            let differs : place ≢ length ps = λ s. let w = eq-eqb place (length ps) s in cc in
            let size = a.size in
            let grown = length-snoc outcomes outcome in
            alike-below place (omega (arith, less, differs, size, grown)) (omega (arith, less, differs, size, grown))

        by_last : (place : ℕ) (task : Task) (o : Outcome) → place ≡ length ps → slice_get tasks place ≡ Some task → outcome ≡ o → TellsAt draw place task start o j.journal
        by_last place task o same at_task e =
            subst (λ (n : ℕ). TellsAt draw n task start o j.journal) (sym same) (subst (λ (x : Outcome). TellsAt draw (length ps) task start x j.journal) e (told-last task (subst (λ (n : ℕ). slice_get tasks n ≡ Some task) same at_task)))

  back : IsBack old j
  back = record {
    owners = ap (λ (x : Known Event). x.owners) is ∙ (ap (λ (o : Owners). united o r.owners) a.back.owners ∙ ap (λ (o : Owners). united (lower_part at old.owners) o) b.back.owners);
    idle = ap (λ (x : Known Event). x.has_turn) is;
    counted = let up = a.back.counted in let count_is : j.count ≡ max l.count r.count = ap (λ (x : Known Event). x.count) is in omega (arith, up, count_is);
  }

  blamed : (m : ℕ) → m ≤ old.count → ((place : ℕ) (q : Play Outcome) → slice_get (ps ++ p ∷ []) place ≡ Some q → Blames q m old.count) → AllBlame (outcomes ++ outcome ∷ []) m j.count
  blamed m below all place o at_o failed = ⊎_elim
      (λ c. Rose-after m l.count j.count (a.blames m below (λ k q at_q. all k q (get_more ps p q k at_q)) place o c.1 failed) (let count_is = counted in omega (arith, count_is)))
      (λ c. Rose-after m r.count j.count (b.blames m below (all (length ps) p (get_last ps p)) (ap is_failed c.1 ∙ failed)) (let count_is = counted in omega (arith, count_is)))
      (get_snoc outcomes outcome o place at_o)
    where
      counted : j.count ≡ max l.count r.count
      counted = ap (λ (x : Known Event). x.count) is

  played : (place : ℕ) (q : Play Outcome) (o : Outcome) → slice_get (ps ++ p ∷ []) place ≡ Some q → slice_get (outcomes ++ outcome ∷ []) place ≡ Some o → PlaysTo q (events_of (place + 1) events) o
  played place q o at_q at_o = ⊎_elim
      (λ c. ⊎_elim
      (λ d. subst (λ (xs : List Event). PlaysTo q xs o) (sym (below-mine place c.0)) (a.plays place q o c.1 d.1))
      (λ d. absurd (let less = c.0 in let same = d.0 in let size = a.size in omega (arith, less, same, size)))
      (get_snoc outcomes outcome o place at_o))
      (λ c. ⊎_elim
      (λ d. absurd (let same = c.0 in let less = d.0 in let size = a.size in omega (arith, less, same, size)))
      (λ d. last place q o c.0 c.1 d.1)
      (get_snoc outcomes outcome o place at_o))
      (get_snoc ps p q place at_q)
    where
      last : (place : ℕ) (q : Play Outcome) (o : Outcome) → place ≡ length ps → p ≡ q → outcome ≡ o → PlaysTo q (events_of (place + 1) events) o
      last place q o same e f =
          subst (λ (n : ℕ). PlaysTo q (events_of (n + 1) events) o) (sym same) (subst (λ (xs : List Event). PlaysTo q xs o) (sym last-mine) (subst (λ (x : Outcome). PlaysTo q b.events x) f (subst (λ (x : Play Outcome). PlaysTo x b.events outcome) e b.plays)))

  owned : All (IsAmong (length (ps ++ p ∷ []))) events
  owned = All-append (IsAmong (length (ps ++ p ∷ []))) a.events b.events
      (All-weaker (IsAmong (length ps)) (IsAmong (length (ps ++ p ∷ []))) (λ e m. record { place = m.place; within = further m.place m.within; client = m.client }) a.events a.owned)
      (All-weaker (IsAt (length ps)) (IsAmong (length (ps ++ p ∷ []))) (λ e m. record { place = length ps; within = here; client = m }) b.events b.mine)
    where
      further : (k : ℕ) → k < length ps → k < length (ps ++ p ∷ [])
      further k less = let grown = length-snoc ps p in omega (arith, less, grown)

      here : length ps < length (ps ++ p ∷ [])
      here = let grown = length-snoc ps p in omega (arith, grown)

  pub RanAll-joined : RanAll tells old j (ps ++ p ∷ []) (outcomes ++ outcome ∷ [])
  RanAll-joined = record {
    back = back;
    size = length-snoc outcomes outcome ∙ (ap (λ (n : ℕ). n + 1) a.size ∙ sym (length-snoc ps p));
    blames = blamed;
    events = events;
    owned = owned;
    plays = played;
    kept = λ draw tasks start told stand. all-tell draw tasks start told stand;
  }

-- nobody is left to run
pub RanAll-none : (tells : Bool) (old : Known Event) → old.has_turn ≡ false → (ps : List (Play Outcome)) (outcomes : List Outcome) → ps ≡ [] → outcomes ≡ [] → RanAll tells old old ps outcomes
RanAll-none tells old idle ps outcomes e f = subst (λ (qs : List (Play Outcome)). RanAll tells old old qs outcomes) (sym e) (subst (λ (os : List Outcome). RanAll tells old old [] os) (sym f) none)
  where
    none : RanAll tells old old [] []
    none = record {
      back = record { owners = refl; idle = idle; counted = omega arith };
      size = refl;
      blames = λ m below all place o at failed. absurd (cc);
      events = [];
      owned = All-nil (IsAmong 0);
      plays = λ place p o at at_o. absurd (cc);
      kept = λ draw tasks start told stand. record {
        more = [];
        is = sym (append-nil old.journal);
        known = Each-none (IsKnown draw tasks start (IsOwner old.owners)) old.journal;
        alike = λ place less. refl;
        told = λ place task o at_task at_o. absurd (cc);
      };
    }

-- ---- before the parts run
CanGo-rest : (tells : Bool) (ps : List (Play Outcome)) (p : Play Outcome) (journal : List Event) → CanGo tells (ps ++ p ∷ []) journal → CanGo tells ps journal
CanGo-rest tells ps p journal can told = let r = can told in record { draw = r.draw; tasks = r.tasks; start = r.start; stand = λ place q at_q. r.stand place q (get_more ps p q place at_q) }

CanGo-last : (tells : Bool) (ps : List (Play Outcome)) (p : Play Outcome) (journal : List Event) → CanGo tells (ps ++ p ∷ []) journal → CanGoAt tells (length ps) p journal
CanGo-last tells ps p journal can told = let r = can told in record { draw = r.draw; tasks = r.tasks; start = r.start; stand = r.stand (length ps) p (get_last ps p) }

-- ---- workers of which the last one leaves
module _ (ws xs : List Worker) (x : Worker) (items : ws ≡ xs ++ x ∷ []) where
  rests : map worker_rest ws ≡ map worker_rest xs ++ worker_rest x ∷ []
  rests = ap (map worker_rest) items ∙ map-append worker_rest xs (x ∷ [])

  pub CanGo-crew : (tells : Bool) (old journal : List Event) → journal ≡ old → CanGo tells (map worker_rest ws) old → CanGo tells (map worker_rest xs) journal
  CanGo-crew tells old journal same can =
      CanGo-rest tells (map worker_rest xs) (worker_rest x) journal (subst (λ (h : List Event). CanGo tells (map worker_rest xs ++ worker_rest x ∷ []) h) (sym same) (subst (λ ps. CanGo tells ps old) rests can))

  pub CanGoAt-crew : (tells : Bool) (place : ℕ) (old journal : List Event) → place ≡ length xs → journal ≡ old → CanGo tells (map worker_rest ws) old → CanGoAt tells place (worker_rest x) journal
  CanGoAt-crew tells place old journal e same can =
      subst (λ (n : ℕ). CanGoAt tells n (worker_rest x) journal) (size_map xs ∙ sym e)
      (CanGo-last tells (map worker_rest xs) (worker_rest x) journal (subst (λ (h : List Event). CanGo tells (map worker_rest xs ++ worker_rest x ∷ []) h) (sym same) (subst (λ ps. CanGo tells ps old) rests can)))

  pub RanAll-crew : OutcomeLaw → (tells : Bool) (place : ℕ) (old l0 r0 l r j : Known Event) (outcomes after : List Outcome) (outcome : Outcome) → place ≡ length xs
      → l0 ≡ record old { owners = lower_part (place + 1) old.owners } → r0 ≡ record old { owners = upper_part (place + 1) old.owners } → HasPlaces old.owners (length ws)
      → RanAll tells l0 l (map worker_rest xs) outcomes → RanOne tells place r0 r (worker_rest x) outcome → j ≡ joined l r → Follows client_of l.owners l.journal j.journal → Follows client_of r.owners r.journal j.journal
      → after ≡ outcomes ++ outcome ∷ [] → RanAll tells old j (map worker_rest ws) after
  RanAll-crew law tells place old l0 r0 l r j outcomes after outcome place_is lower upper places a b is first second all =
      let ps : List (Play Outcome) = map worker_rest xs in
      let p : Play Outcome = worker_rest x in
      let size : length ps ≡ length xs = size_map xs in
      let e : place ≡ length ps = place_is ∙ sym size in
      let a' : RanAll tells (record old { owners = lower_part (length ps + 1) old.owners }) l ps outcomes = subst (λ (k : Known Event). RanAll tells k l ps outcomes) (lower ∙ ap (λ (n : ℕ). record old { owners = lower_part (n + 1) old.owners }) e) a in
      let b' : RanOne tells (length ps) (record old { owners = upper_part (length ps + 1) old.owners }) r p outcome = subst (λ (n : ℕ). RanOne tells n (record old { owners = upper_part (n + 1) old.owners }) r p outcome) e (subst (λ (k : Known Event). RanOne tells place k r p outcome) upper b) in
      let h : HasPlaces old.owners (length ps + 1) = subst (HasPlaces old.owners) (ap length items ∙ (length-snoc xs x ∙ ap (λ (n : ℕ). n + 1) (sym size))) places in
      let whole = RanAll-joined law tells old l r j ps p outcomes outcome h a' b' is first second in
      subst (λ (os : List Outcome). RanAll tells old j (map worker_rest ws) os) (sym all) (subst (λ (qs : List (Play Outcome)). RanAll tells old j qs (outcomes ++ outcome ∷ [])) (sym rests) whole)

pub no_workers : (ws : List Worker) → length ws ≡ 0 → map worker_rest ws ≡ []
no_workers ws e = ap (map worker_rest) (none-left ws e)

pub HasPlaces-lower : (owners part : Owners) (count place n : ℕ) → part ≡ lower_part (place + 1) owners → HasPlaces owners count → n ≡ place → HasPlaces part n
HasPlaces-lower owners part count place n is h e = subst (λ (o : Owners). HasPlaces o n) (sym is) (record { low = h.low; end = omega (arith, e) })

pub IsOwner-upper : (owners part : Owners) (count place : ℕ) → part ≡ upper_part (place + 1) owners → HasPlaces owners count → count ≡ place + 1 → IsOwner part (place + 1)
IsOwner-upper owners part count place is h e = subst (λ (o : Owners). IsOwner o (place + 1)) (sym is) (omega arith, subst (λ (n : ℕ). IfSome owners.end (λ end. n < end)) e h.end)
