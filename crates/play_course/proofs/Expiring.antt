-- What a task that expires answers in a run over an empty store.
use Rattle.std.proofs.Common.{◌≡◌, ℕ, inl, inr, false, List, [], ◌∷◌, ◌++◌, refl, sym, subst}
use Rattle.std.specs.Prelude.{Result, Ok, Err}
use Rattle.ice_ids.specs.declared.Id12.{Id12}
use Rattle.ice_ids.specs.declared.drawing.AnyIds.{AnyIds}
use Rattle.object_store.specs.declared.keys.Key.{Key}
use Rattle.object_store.specs.declared.keys.Key.TheVariants.{Snapshot}
use Rattle.object_store.specs.declared.keys.Part.{Part}
use Rattle.object_store.specs.declared.keys.Part.TheVariants.{Branches, Tags}
use Rattle.object_store.specs.declared.keys.Why.TheVariants.{Expire}
use Rattle.object_store.specs.declared.events.Event.{Event}
use Rattle.object_store.specs.declared.events.GoneAt.TheVariants.{Done as Gone_done, Moved as Gone_moved}
use Rattle.object_store.specs.declared.events.New.TheVariants.{Done as New_done, Present as New_present}
use Rattle.object_store.specs.declared.events.Op.TheVariants.{PutOver, List as ListPart}
use Rattle.object_store.specs.declared.events.Over.TheVariants.{Done as Over_done, Moved as Over_moved}
use Rattle.object_store.specs.declared.events.Reply.{Reply}
use Rattle.object_store.specs.declared.events.Reply.TheVariants.{Got as Is_got, New as Is_new, Over as Is_over, Gone as Is_gone, GoneAt as Is_gone_at, Listed as Is_listed, Failed}
use Rattle.store_api.specs.declared.machines.Refusal.{Refusal}
use Rattle.store_api.specs.declared.machines.Refusal.TheVariants as R
use Rattle.store_api.specs.Journal.{Each}
use Rattle.store_api.specs.Plays.{Play}
use Rattle.cleanup_reports.specs.declared.cases.RefCase.{RefCase}
use Rattle.cleanup_reports.specs.declared.cases.What.{What}
use Rattle.cleanup_reports.specs.declared.cases.What.TheVariants.{Absent, Kept}
use Rattle.live_refs.specs.Live.{live}
use Rattle.expiry.specs.declared.look.Decision.{Decision}
use Rattle.expiry.specs.declared.look.Decision.TheVariants.{Gone, Keeps, Drops, Cuts}
use Rattle.expiry.specs.declared.standing.Expired.{Expired}
use Rattle.expiry.specs.declared.terms.Terms.{Terms}
use Rattle.expiry.specs.Looks.{look_program}
use Rattle.expiry.specs.Plays.{after_case, after_listing, after_look, all_done, cut_told, decide, drop_op, drop_told, ends_with, expire_each, expire_play, expire_tags, listing}
use Rattle.play_outcome.specs.declared.outcome.Outcome.{Outcome}
use Rattle.play_expire.specs.Playing.{end_by, expire_task, outcome_of}
use Rattle.play_course.specs.Refusing.{is_strange, strange_end}
use Rattle.play_course.proofs.Tidy.{Client}
use Rattle.play_course.proofs.Meeting.{PlayMeets, call-meets, ended-as_meets, ended-meets, or-meets, play-asks, replied}
use Rattle.play_course.proofs.Knowing.{IsKept, OfOthers, OfOwn, beside, kept-next, kept-others}
use Rattle.play_course.proofs.Edges.{AllRefs, IsRefs, all-entries, live-refs, named-in}
use Rattle.play_course.proofs.Looking.{LooksWell, look-meets}

module _ (client : Client) (ids : AnyIds) (line : ℕ) (t : Terms) where
  -- it ends by no strange refusal
  abbrev Ends : Expired → Type 0
  Ends e = strange_end client.collects (end_by line e) ≡ false

  abbrev Well : Play Expired → List Event → Type 0
  Well p h = PlayMeets Ends (beside client ids) p h

  ends : (cases : List RefCase) (why : Refusal) (h : List Event) → is_strange client.collects why ≡ false → Well (ends_with cases (Err why)) h
  ends cases why h plain = ended-meets Ends (beside client ids) (record { cases = cases; result = Err why }) h plain

  kept-behind : (journal more : List Event) (event : Event) → Each (OfOthers client ids) journal more → OfOwn client ids (journal ++ more) event → IsKept client journal → IsKept client ((journal ++ more) ++ event ∷ [])
  kept-behind journal more event others own k = kept-next client (journal ++ more) event own.tidy own.after (kept-others client ids journal more others k)

  -- ---- what replies tell
  -- the journal is known still, or the expiry is refused as it may be
  abbrev ToldWell : Result What Refusal → List Event → Type 0
  ToldWell (Ok what) h = IsKept client h
  ToldWell (Err why) h = is_strange client.collects why ≡ false

  drop-told : (reply : Reply) (h : List Event) → IsKept client h → ToldWell (drop_told reply) h
  drop-told (Is_gone_at (Gone_done now)) h k = k
  drop-told (Is_gone_at (Gone_moved found now)) h k = k
  drop-told (Is_new (New_done version now)) h k = k
  drop-told (Is_new (New_present version now)) h k = k
  drop-told (Is_got x) h k = refl
  drop-told (Is_over x) h k = refl
  drop-told (Is_gone x) h k = refl
  drop-told (Is_listed x) h k = refl
  drop-told (Failed done) h k = refl

  cut-told : (id : Id12) (reply : Reply) (h : List Event) → IsKept client h → ToldWell (cut_told id reply) h
  cut-told id (Is_over (Over_done version now)) h k = k
  cut-told id (Is_over (Over_moved found now)) h k = k
  cut-told id (Is_got x) h k = refl
  cut-told id (Is_new x) h k = refl
  cut-told id (Is_gone x) h k = refl
  cut-told id (Is_gone_at x) h k = refl
  cut-told id (Is_listed x) h k = refl
  cut-told id (Failed done) h k = refl

  -- ---- one ref
  -- it goes on well, whatever became of the ref
  abbrev Follows : (Result What Refusal → Play Expired) → Type 0
  Follows next = (told : Result What Refusal) (h : List Event) → ToldWell told h → Well (next told) h

  decide-meets : (ref : Key) (next : Result What Refusal → Play Expired) (decision : Decision) (journal : List Event) → IsKept client journal → Follows next → Well (decide ref next decision) journal
  decide-meets ref next Gone journal k go = go (Ok Absent) journal k
  decide-meets ref next Keeps journal k go = go (Ok Kept) journal k
  decide-meets ref next (Drops version) journal k go =
      play-asks Ends (beside client ids) (drop_op ref version) (next (Err R.NoMemory)) (λ reply. next (drop_told reply)) journal (go (Err R.NoMemory) journal refl)
      (λ more event others own is. go (drop_told event.reply) ((journal ++ more) ++ event ∷ []) (drop-told event.reply ((journal ++ more) ++ event ∷ []) (kept-behind journal more event others own k)))
  decide-meets ref next (Cuts id version bytes) journal k go =
      play-asks Ends (beside client ids) (PutOver (Snapshot id) bytes version Expire) (next (Err R.NoMemory)) (λ reply. next (cut_told id reply)) journal (go (Err R.NoMemory) journal refl)
      (λ more event others own is. go (cut_told id event.reply) ((journal ++ more) ++ event ∷ []) (cut-told id event.reply ((journal ++ more) ++ event ∷ []) (kept-behind journal more event others own k)))

  look-follows : (ref : Key) (next : Result What Refusal → Play Expired) → Follows next → (answer : Result Decision Refusal) (h : List Event) → LooksWell client ids t answer h → Well (after_look ref next answer) h
  look-follows ref next go (Ok decision) h k = decide-meets ref next decision h k go
  look-follows ref next go (Err why) h plain = go (Err why) h plain

  -- ---- ref after ref
  -- it goes on well, whatever the cases so far
  abbrev GoesOn : (List RefCase → Play Expired) → Type 0
  GoesOn next = (cases : List RefCase) (h : List Event) → IsKept client h → Well (next cases) h

  case-follows : (ref : Key) (cases : List RefCase) (next : List RefCase → Play Expired) → GoesOn next → Follows (after_case ref cases next)
  case-follows ref cases next go (Ok what) h k = go (cases ++ record { key = ref; what = what } ∷ []) h k
  case-follows ref cases next go (Err why) h plain = ends cases why h plain

  each-meets : (refs : List Key) → AllRefs refs → (cases : List RefCase) (next : List RefCase → Play Expired) → GoesOn next → (journal : List Event) → IsKept client journal → Well (expire_each t refs cases next) journal
  unfolding expire_each
  each-meets [] all cases next go journal k = go cases journal k
  each-meets (ref ∷ refs) all cases next go journal k =
      let rest = λ (more : List RefCase). expire_each t refs more next in
      call-meets Ends (beside client ids) (LooksWell client ids t) (look_program t ref) (after_look ref (after_case ref cases rest)) journal (look-meets client ids t ref journal all.0 k)
      (look-follows ref (after_case ref cases rest) (case-follows ref cases rest (λ more h known. each-meets refs all.1 more next go h known)))
      (λ h. ends cases R.NoMemory h refl)

  -- ---- both parts
  listing-meets : (part : Part) → IsRefs part → (cases : List RefCase) (next : List Key → Play Expired) → ((refs : List Key) (h : List Event) → AllRefs refs → IsKept client h → Well (next refs) h) → (journal : List Event) → IsKept client journal → Well (listing part cases next) journal
  listing-meets part refs cases next go journal k =
      play-asks Ends (beside client ids) (ListPart part) (ends_with cases (Err R.NoMemory)) (after_listing cases next) journal (ends cases R.NoMemory journal refl) (λ more event others own is.
      let after : List Event = (journal ++ more) ++ event ∷ [] in
      elim (replied (journal ++ more) event (ListPart part) own.tidy.good is) [
        | inl h ↦ subst (λ (x : Reply). Well (after_listing cases next x) after) (sym h.1)
            (or-meets Ends (beside client ids) (next (live h.0)) (ends_with cases (Err R.NoMemory)) after
            (go (live h.0) after (live-refs h.0 (all-entries h.0 (λ place e at. named-in part e.key refs (h.2.right place e at).part_is))) (kept-behind journal more event others own k))
            (ends cases R.NoMemory after refl))
        | inr f ↦ subst (λ (x : Reply). Well (after_listing cases next x) after) (sym f.is) (ends cases R.StoreFault after refl)
      ])

  done-meets : GoesOn all_done
  done-meets cases h k = ended-meets Ends (beside client ids) (record { cases = cases; result = Ok tt }) h refl

  tags-meet : GoesOn (expire_tags t)
  tags-meet cases journal k = listing-meets Tags tt cases (λ refs. expire_each t refs cases all_done) (λ refs h all known. each-meets refs all cases all_done done-meets h known) journal k

  -- an expiry of this client is refused as it may be
  pub expiry-meets : (journal : List Event) → IsKept client journal → PlayMeets (λ o. strange_end client.collects o.end ≡ false) (beside client ids) (expire_task line t) journal
  expiry-meets journal k =
      ended-as_meets (outcome_of line) (λ (o : Outcome). strange_end client.collects o.end ≡ false) (beside client ids) (expire_play t) journal
      (listing-meets Branches tt [] (λ refs. expire_each t refs [] (expire_tags t)) (λ refs h all known. each-meets refs all [] (expire_tags t) tags-meet h known) journal k)
