-- Each kind of step keeps the rule of the cell's table, from `opens`, where it is made, to `closes`, where it is closed.
use Rattle.std.proofs.Common.{◌≡◌, ℕ, ◌<◌, ◌≤◌, ◌≢◌, ◌⊎◌, true, false, List, [], ◌∷◌, ◌++◌, get_or, set, refl, sym, ap, ◌∙◌, inl, inr, ⊎_elim, subst, arith}
use Rattle.std.specs.Prelude.{Option, Some, ◌==◌, slice_index, slice_set}
use mathlib.Core.Option.{some, none, some-injective}
use mathlib.Core.Option as maybe
use lib.ListN.{get_elem?}
use prog.Atomic.{either}
use Rattle.atomic_table.specs.Table.{State, Me, Act, step, keeps, takes, gives, stepped, Allows, Splits, Joins, Valid, carried_after, opening, Final, Seen}
use Rattle.atomic_table.proofs.Lists.{at_set, set_else, set_again, at_longer}
use Rattle.turn_cell.specs.declared.known.Known.{Known}
use Rattle.turn_cell.specs.declared.known.Owners.{Owners}
use Rattle.turn_cell.specs.declared.known.Sight.{Sight}
use Rattle.turn_cell.specs.Owners.{IsOwner, Adjoins, lower_part, upper_part}
use Rattle.turn_cell.specs.SeenJournals.{Follows, Grows, starting, joined, nothing}
use Rattle.turn_cell.specs.Hands.{hands}
use Rattle.turn_cell.specs.Turns.{plain, AllApart, Agrees, Home, Out, Kept, took, gave, looked}
use Rattle.turn_cell.proofs.Growth.{in_lower, in_upper, one_of, narrower, nothing_more, grown, compared, both_follow, nothing_joined}
use Rattle.turn_cell.proofs.Views.{off, set_at, snoc_at, set_swap, one_only, one_is, apart_set, apart_snoc}

set_first : (ns : List ℕ) → set ns 0 (get_or ns 0 0) ≡ ns
set_first [] = refl
set_first (n ∷ ns) = refl

module _ {T E : Type 0} (journal_of : T → List E) (owner : E → ℕ) (count_of : T → ℕ) where
  abbrev S : Type 0
  S = Option T

  abbrev V : Type 0
  V = Sight E

  abbrev K : State S V → Type 0
  K = Kept journal_of owner count_of

  -- what a pass knows once it has the turn, and once it has given it back
  abbrev taken : V → T → V
  taken v value = plain (record v.known { journal = journal_of value; count = count_of value; has_turn = true })

  abbrev given : V → T → V
  given v value = plain (record v.known { journal = journal_of value; count = count_of value; has_turn = false })

  -- a pass that has seen exactly this journal and no greater count
  agrees_whole : (v : Known E) (journal : List E) (count : ℕ) → v.journal ≡ journal → v.count ≤ count → Agrees owner journal count (plain v)
  agrees_whole v journal count is less = record { follows = subst (λ (l : List E). Follows owner v.owners l journal) (sym is) (nothing_more owner journal v.owners); counted = less; joined = nothing_joined owner }

  -- the turn is taken

  abbrev TakesNext : ℕ → State S V → ℕ → V → Type 0
  TakesNext n s id v = (w : V) × (a : Act S) × Valid s.homes [] a × K (stepped s 0 (either (slice_index s.words 0 == 0) 1 (slice_index s.words 0)) id [] w a)
      × took journal_of owner count_of (step n 0 0 1 none) (v, []) (slice_index s.words 0) (w, carried_after [] a)

  take_home : (n : ℕ) (s : State S V) (id : ℕ) (v : V) (k : K s) (h : Home journal_of owner count_of k.journal k.count s.words s.homes s.views) → get_elem? s.views id ≡ some v → TakesNext n s id v
  take_home n s id v k h at =
      let w : V = taken v h.value in (
        w,
        takes 0 (Some h.value),
        ap (λ hs. get_elem? hs 0) h.slot,
        record {
          journal = k.journal;
          count = k.count;
          apart = apart_set s.views id w (λ j u bt ne. k.apart id j v u at bt (λ e. ne (sym e))) k.apart;
          agree = λ i u bt. ⊎_elim
              (λ p. subst (Agrees owner k.journal k.count) p.1 (agrees_whole w.known k.journal k.count h.journal_is (let e = h.count_is in omega arith)))
              (λ p. k.agree i u p.1)
              (at_set s.views id i w u bt);
          place = inr (record {
            word = ap (λ ws. slice_set ws 0 (either (slice_index ws 0 == 0) 1 (slice_index ws 0))) h.word;
            slot = ap (λ hs. slice_set hs 0 none) h.slot;
            holder = id;
            view = w;
            at = set_at s.views id v w at;
            on = refl;
            journal_is = h.journal_is;
            count_is = h.count_is;
            alone = λ i u bt on. ⊎_elim (λ p. p.0) (λ p. absurd (let off = h.idle i u p.1 in cc)) (at_set s.views id i w u bt);
          });
        },
        (
          (λ zero_is. record {
            value = h.value;
            held = refl;
            knows = refl;
            agrees = subst (λ (n : ℕ). Agrees owner (journal_of h.value) n v) (sym h.count_is) (subst (λ (l : List E). Agrees owner l k.count v) (sym h.journal_is) (k.agree id v at));
          }),
          (λ not_zero. absurd (not_zero (ap (λ ws. slice_index ws 0) h.word))),
        ),
      )

  -- the turn is found taken

  take_out : (n : ℕ) (s : State S V) (id : ℕ) (v : V) (k : K s) (o : Out journal_of owner count_of k.journal k.count s.words s.homes s.views) → get_elem? s.views id ≡ some v → TakesNext n s id v
  take_out n s id v k o at =
      let same : set s.views id v ≡ s.views = set_again s.views id v at in (
        v,
        keeps,
        tt,
        record {
          journal = k.journal;
          count = k.count;
          apart = subst AllApart (sym same) k.apart;
          agree = subst (λ vs. (i : ℕ) (u : V) → get_elem? vs i ≡ some u → Agrees owner k.journal k.count u) (sym same) k.agree;
          place = inr (subst (λ vs. Out journal_of owner count_of k.journal k.count (slice_set s.words 0 (either (slice_index s.words 0 == 0) 1 (slice_index s.words 0))) s.homes vs) (sym same) (record {
            word = ap (λ ws. slice_set ws 0 (either (slice_index ws 0 == 0) 1 (slice_index ws 0))) o.word;
            slot = o.slot;
            holder = o.holder;
            view = o.view;
            at = o.at;
            on = o.on;
            journal_is = o.journal_is;
            count_is = o.count_is;
            alone = o.alone;
          }));
        },
        (
          (λ zero_is. absurd (let e = ap (λ ws. slice_index ws 0) o.word in omega arith)),
          (λ not_zero. refl),
        ),
      )

  idle_hands : (me : Me S V) → me.1 ≡ hands me.0.known.has_turn → me.0.known.has_turn ≡ false → [] ≡ me.1
  idle_hands me held idle = sym (held ∙ ap (hands {T = T}) idle)

  pub takes_turn : (n id : ℕ) (me : Me S V) → me.1 ≡ hands me.0.known.has_turn → me.0.known.has_turn ≡ false
      → Allows K n id me 0 (λ n. either (n == 0) 1 n) (took journal_of owner count_of (step n 0 0 1 none) me)
  takes_turn n id me held idle = subst (λ (hs : List (ℕ × S)). Allows K n id (me.0, hs) 0 (λ n. either (n == 0) 1 n) (took journal_of owner count_of (step n 0 0 1 none) (me.0, hs))) (idle_hands me held idle)
      (λ s k long at small. ⊎_elim (λ h. take_home n s id me.0 k h at) (λ o. take_out n s id me.0 k o at) k.place)

  -- the turn is given back: the new value's journal begins with the journal at the taking, and goes on with entries of the holder's range

  give_back : (n id : ℕ) (v : V) (y : T) → v.known.has_turn ≡ true → Grows owner v.known.owners v.known.journal (journal_of y) → v.known.count ≤ count_of y
      → Allows K n id (v, (0, Some y) ∷ []) 0 (λ _. 0) (λ _. gave journal_of owner count_of (step n 0 0 0 none) (v, (0, Some y) ∷ []) 0)
  give_back n id v y on grows more s k long at small =
      let w : V = given v y in (
        w,
        gives,
        tt,
        ⊎_elim
            (λ h. absurd (let off = h.idle id v at in cc))
            (λ o.
            let here : id ≡ o.holder = o.alone id v at on in
            let is : v ≡ o.view = some-injective v o.view (sym at ∙ ap (get_elem? s.views) here ∙ o.at) in
            let journal_is : k.journal ≡ v.known.journal = sym o.journal_is ∙ ap (λ (u : V). u.known.journal) (sym is) in
            let count_is : k.count ≡ v.known.count = sym o.count_is ∙ ap (λ (u : V). u.known.count) (sym is) in
            record {
              journal = journal_of y;
              count = count_of y;
              apart = apart_set s.views id w (λ j u bt ne. k.apart id j v u at bt (λ e. ne (sym e))) k.apart;
              agree = λ i u bt. ⊎_elim
                  (λ p. subst (Agrees owner (journal_of y) (count_of y)) p.1 (agrees_whole w.known (journal_of y) (count_of y) refl (omega arith)))
                  (λ p. let old = k.agree i u p.1 in record {
                    follows = grown owner u.known.journal v.known.journal (journal_of y) u.known.owners v.known.owners (k.apart i id u v p.1 at p.0) (subst (Follows owner u.known.owners u.known.journal) journal_is old.follows) grows;
                    counted = let c = old.counted in omega arith;
                    joined = old.joined;
                  })
                  (at_set s.views id i w u bt);
              place = inl (record {
                word = ap (λ ws. slice_set ws 0 0) o.word;
                value = y;
                slot = ap (λ hs. slice_set hs 0 (some (Some y))) o.slot;
                journal_is = refl;
                count_is = refl;
                idle = λ i u bt. ⊎_elim (λ p. ap (λ (z : V). z.known.has_turn) (sym p.1)) (λ p. off u.known.has_turn (λ e. p.0 (o.alone i u p.1 e ∙ sym here))) (at_set s.views id i w u bt);
              });
            })
            k.place,
        (λ y' e. let head : ◌≡◌ {A = ℕ × S} (0, Some y) (0, Some y') = cc in let part : Some y ≡ Some y' = ap (λ (p : ℕ × S). p.1) head in let same : y ≡ y' = cc in ap (λ (z : T). (given v z, [])) same),
      )

  pub gives_back : (n id : ℕ) (me : Me S V) (v : V) (y : T) → me ≡ (v, (0, Some y) ∷ []) → v.known.has_turn ≡ true → Grows owner v.known.owners v.known.journal (journal_of y) → v.known.count ≤ count_of y
      → Allows K n id me 0 (λ _. 0) (λ _. gave journal_of owner count_of (step n 0 0 0 none) me 0)
  gives_back n id me v y is on grows more = subst (λ (m : Me S V). Allows K n id m 0 (λ _. 0) (λ _. gave journal_of owner count_of (step n 0 0 0 none) m 0)) (sym is) (give_back n id v y on grows more)

  -- a pass is told what the two passes knew of which it was joined

  look : (n id : ℕ) (v : V) → Allows K n id (v, []) 0 (λ n. n) (looked journal_of owner count_of (step n 0 0 0 none) (v, []))
  look n id v s k long at small =
      let same : set s.views id v ≡ s.views = set_again s.views id v at in
      let words : set s.words 0 (get_or s.words 0 0) ≡ s.words = set_first s.words in (
        v,
        keeps,
        tt,
        subst K (λ i. record { words = sym words i; homes = s.homes; views = sym same i }) k,
        (refl, (k.agree id v at).joined),
      )

  pub looks : (n id : ℕ) (me : Me S V) (v : V) (hs : List (ℕ × S)) → me ≡ (v, hs) → hs ≡ [] → Allows K n id me 0 (λ n. n) (looked journal_of owner count_of (step n 0 0 0 none) me)
  looks n id me v hs is empty = subst (λ (m : Me S V). Allows K n id m 0 (λ n. n) (looked journal_of owner count_of (step n 0 0 0 none) m)) (sym (is ∙ ap (λ (l : List (ℕ × S)). (v, l)) empty)) (look n id v)

  -- the place does not depend on the views without the turn
  place_stays : (words : List ℕ) (homes : List (maybe.Option S)) (views views' : List V) (journal : List E) (count : ℕ)
      → ((i : ℕ) (u : V) → get_elem? views' i ≡ some u → u.known.has_turn ≡ true → get_elem? views i ≡ some u)
      → ((i : ℕ) (u : V) → get_elem? views i ≡ some u → u.known.has_turn ≡ true → get_elem? views' i ≡ some u)
      → Home journal_of owner count_of journal count words homes views ⊎ Out journal_of owner count_of journal count words homes views
      → Home journal_of owner count_of journal count words homes views' ⊎ Out journal_of owner count_of journal count words homes views'
  place_stays words homes views views' journal count back there (inl h) = inl (record {
    word = h.word;
    value = h.value;
    slot = h.slot;
    journal_is = h.journal_is;
    count_is = h.count_is;
    idle = λ i u at. off u.known.has_turn (λ e. let o = h.idle i u (back i u at e) in cc);
  })
  place_stays words homes views views' journal count back there (inr o) = inr (record {
    word = o.word;
    slot = o.slot;
    holder = o.holder;
    view = o.view;
    at = there o.holder o.view o.at o.on;
    on = o.on;
    journal_is = o.journal_is;
    count_is = o.count_is;
    alone = λ i u at e. o.alone i u (back i u at e) e;
  })

  -- two entries of one place: one has the turn, the other hasn't
  turn_differs : (views : List V) (i id : ℕ) (u v : V) → get_elem? views i ≡ some u → get_elem? views id ≡ some v → u.known.has_turn ≡ true → v.known.has_turn ≡ false → i ≢ id
  turn_differs views i id u v bt at on idle e = let same = ap (λ (z : V). z.known.has_turn) (some-injective u v (sym bt ∙ ap (get_elem? views) e ∙ at)) in absurd (cc)

  -- a pass is split

  pub splits : (id : ℕ) (v : V) (n : ℕ) → v.known.has_turn ≡ false → IsOwner v.known.owners n → v.known.owners.low < n
      → Splits K id v (plain (record v.known { owners = lower_part n v.known.owners })) (plain (record v.known { owners = upper_part n v.known.owners }))
  splits id v n idle own above s k at =
      let owners : Owners = v.known.owners in
      let left : V = plain (record v.known { owners = lower_part n owners }) in
      let right : V = plain (record v.known { owners = upper_part n owners }) in
      let ws : List V = set s.views id left in
      let old = k.agree id v at in
      let agree_left : Agrees owner k.journal k.count left = record { follows = narrower owner v.known.journal k.journal owners (lower_part n owners) (λ m. in_lower owners n m own) old.follows; counted = old.counted; joined = nothing_joined owner } in
      let agree_right : Agrees owner k.journal k.count right = record { follows = narrower owner v.known.journal k.journal owners (upper_part n owners) (λ m. in_upper owners n m above) old.follows; counted = old.counted; joined = nothing_joined owner } in
      record {
        journal = k.journal;
        count = k.count;
        apart = apart_snoc ws right
            (λ j u bt m rm um. ⊎_elim
            (λ p. let below = subst (λ (z : V). IsOwner z.known.owners m) (sym p.1) um in absurd (omega arith))
            (λ p. k.apart id j v u at p.1 (λ e. p.0 (sym e)) m (in_upper owners n m above rm) um)
            (at_set s.views id j left u bt))
            (apart_set s.views id left (λ j u bt ne m lm um. k.apart id j v u at bt (λ e. ne (sym e)) m (in_lower owners n m own lm) um) k.apart);
        agree = λ i u bt. ⊎_elim
            (λ p. ⊎_elim (λ q. subst (Agrees owner k.journal k.count) q.1 agree_left) (λ q. k.agree i u q.1) (at_set s.views id i left u p.1))
            (λ p. subst (Agrees owner k.journal k.count) p.1 agree_right)
            (snoc_at ws right u i bt);
        place = place_stays s.words s.homes s.views (ws ++ right ∷ []) k.journal k.count
            (λ i u bt on. ⊎_elim
            (λ p. ⊎_elim (λ q. absurd (let e = ap (λ (z : V). z.known.has_turn) q.1 in cc)) (λ q. q.1) (at_set s.views id i left u p.1))
            (λ p. absurd (let e = ap (λ (z : V). z.known.has_turn) p.1 in cc))
            (snoc_at ws right u i bt))
            (λ i u bt on. at_longer ws (right ∷ []) i u (set_else s.views id i left (turn_differs s.views i id u v bt at on idle) ∙ bt))
            k.place;
      }

  -- two passes are joined

  pub joins : (id : ℕ) (v : V) (other : ℕ) (w : V) → v.known.has_turn ≡ false → w.known.has_turn ≡ false → Adjoins v.known.owners w.known.owners
      → Joins K id v other w (record { known = joined v.known w.known; first = v.known; second = w.known }) (plain nothing)
  joins id v other w idle idle' meets s k at ne bt =
      let both : V = record { known = joined v.known w.known; first = v.known; second = w.known } in
      let spent : V = plain nothing in
      let swapped : set (set s.views id both) other spent ≡ set (set s.views other spent) id both = set_swap s.views id other both spent ne in
      let atw : get_elem? s.views other ≡ some w = sym (set_else s.views id other both ne) ∙ bt in
      let one = k.agree id v at in
      let two = k.agree other w atw in
      let agree_both : Agrees owner k.journal k.count both = record {
        follows = both_follow owner v.known w.known k.journal one.follows two.follows meets;
        counted = let c = one.counted in let d = two.counted in omega arith;
        joined = compared owner v.known w.known k.journal one.follows two.follows;
      } in
      let agree_spent : Agrees owner k.journal k.count spent = record { follows = record { rest = k.journal; is = refl; foreign = λ i d near r. omega arith }; counted = omega arith; joined = nothing_joined owner } in
      record {
        journal = k.journal;
        count = k.count;
        apart = subst AllApart (sym swapped) (apart_set (set s.views other spent) id both
            (λ j u ct nj m rm um. ⊎_elim
            (λ p. let none_left = subst (λ (z : V). IsOwner z.known.owners m) (sym p.1) um in absurd (omega arith))
            (λ p. ⊎_elim (λ q. k.apart id j v u at p.1 (λ e. nj (sym e)) m q um) (λ q. k.apart other j w u atw p.1 (λ e. p.0 (sym e)) m q um) (one_of v.known.owners w.known.owners m meets rm))
            (at_set s.views other j spent u ct))
            (apart_set s.views other spent (λ j u ct nj m rm um. absurd (omega arith)) k.apart));
        agree = λ i u ct. ⊎_elim
            (λ p. subst (Agrees owner k.journal k.count) p.1 agree_spent)
            (λ p. ⊎_elim (λ q. subst (Agrees owner k.journal k.count) q.1 agree_both) (λ q. k.agree i u q.1) (at_set s.views id i both u p.1))
            (at_set (set s.views id both) other i spent u ct);
        place = place_stays s.words s.homes s.views (set (set s.views id both) other spent) k.journal k.count
            (λ i u ct on. ⊎_elim
            (λ p. absurd (let e = ap (λ (z : V). z.known.has_turn) p.1 in cc))
            (λ p. ⊎_elim (λ q. absurd (let e = ap (λ (z : V). z.known.has_turn) q.1 in cc)) (λ q. q.1) (at_set s.views id i both u p.1))
            (at_set (set s.views id both) other i spent u ct))
            (λ i u ct on. set_else (set s.views id both) other i spent (turn_differs s.views i other u w ct atw on idle') ∙ set_else s.views id i both (turn_differs s.views i id u v ct at on idle) ∙ ct)
            k.place;
      }

  -- the table is made

  pub opens : (x : T) → K (opening (0 ∷ []) (Some x ∷ []) (plain (starting (journal_of x) (count_of x))))
  opens x = record {
    journal = journal_of x;
    count = count_of x;
    apart = λ i j v w at bt ne. absurd (ne (one_only _ i v at ∙ sym (one_only _ j w bt)));
    agree = λ i v at. subst (Agrees owner (journal_of x) (count_of x)) (one_is i v at) (agrees_whole (starting (journal_of x) (count_of x)) (journal_of x) (count_of x) refl (omega arith));
    place = inl (record { word = refl; value = x; slot = refl; journal_is = refl; count_is = refl; idle = λ i v at. ap (λ (u : V). u.known.has_turn) (sym (one_is i v at)) });
  }

  -- the table is closed

  pub record Closes (v : V) (y : S) : Type 0 where
    pub value : T
    pub is : y ≡ Some value
    pub agrees : Agrees owner (journal_of value) (count_of value) v

  pub closes : (id : ℕ) (v : V) (ws : List ℕ) (xs : List S) (y : S) → Final (Seen K id v) ws xs → get_elem? ws 0 ≡ some 0 → get_elem? xs 0 ≡ some y → Closes v y
  closes id v ws xs y f free at = let k = f.1.0 in ⊎_elim
      (λ h. record {
        value = h.value;
        is = some-injective y (Some h.value) (sym at ∙ f.4 0 (Some h.value) (ap (λ hs. get_elem? hs 0) h.slot));
        agrees = subst (λ (n : ℕ). Agrees owner (journal_of h.value) n v) (sym h.count_is) (subst (λ (l : List E). Agrees owner l k.count v) (sym h.journal_is) (k.agree id v f.1.1));
      })
      (λ o. absurd (let e : 0 ≡ 1 = some-injective 0 1 (sym free ∙ ap (λ l. get_elem? l 0) (sym f.2 ∙ o.word)) in omega arith))
      k.place

  pub closed_agrees : (v : V) (y : S) (x : T) → Closes v y → y ≡ Some x → Agrees owner (journal_of x) (count_of x) v
  closed_agrees v y x k e = let both = k.is in let same : k.value ≡ x = cc in subst (λ (z : T). Agrees owner (journal_of z) (count_of z) v) same k.agrees
