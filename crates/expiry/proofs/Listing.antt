-- Ref after ref, as they were listed.
use Rattle.std.proofs.Common.{◌≡◌, ◌⊎◌, inl, inr, Bool, List, [], ◌∷◌, ◌++◌, refl, sym, ◌∙◌, ap, subst, append_assoc, append-nil}
use Rattle.std.specs.Prelude.{Result, Ok, Err}
use Rattle.std.specs.List.{All}
use Rattle.std.proofs.lemmas.List.{map-append}
use Rattle.std.proofs.lemmas.List.Elements.{All-nil, All-push}
use Rattle.repo_objects.specs.Laws.{SnapshotLaw}
use Rattle.object_store.specs.declared.keys.Key.{Key}
use Rattle.object_store.specs.declared.keys.Part.{Part}
use Rattle.object_store.specs.declared.keys.Part.TheVariants.{Branches, Tags}
use Rattle.object_store.specs.declared.events.Op.TheVariants.{List as ListPart}
use Rattle.object_store.specs.declared.events.Listed.{Listed}
use Rattle.object_store.specs.declared.events.Reply.{Reply}
use Rattle.object_store.specs.declared.events.Reply.TheVariants.{Got, New, Over, Gone as Is_gone, GoneAt, Listed as Is_listed, Failed}
use Rattle.object_store.specs.declared.events.Event.{Event}
use Rattle.store_api.specs.declared.machines.Refusal.{Refusal}
use Rattle.store_api.specs.declared.machines.Refusal.TheVariants as R
use Rattle.store_api.specs.Callers.{Caller, Makes}
use Rattle.store_api.specs.Plays.{Play}
use Rattle.repo_read.proofs.Own.{Since, own-made}
use Rattle.live_refs.specs.Live.{live}
use Rattle.cleanup_reports.specs.declared.cases.What.{What}
use Rattle.cleanup_reports.specs.declared.cases.RefCase.{RefCase}
use Rattle.expiry.specs.declared.terms.Terms.{Terms}
use Rattle.expiry.specs.declared.standing.Expired.{Expired}
use Rattle.expiry.specs.Looks.{look_program}
use Rattle.expiry.specs.Plays.{ends_with, after_look, after_case, expire_each, after_listing, listing, all_done, expire_tags, expire_play}
use Rattle.expiry.specs.Telling.{CaseTells, Cause, WasListed, CameToAll, refs_of, ExpireTells}
use Rattle.expiry.proofs.Lasting.{Lasts, lasts-makes, cases-more, listed-more, all-more}
use Rattle.expiry.proofs.Playing.{Goes, goes-call}
use Rattle.expiry.proofs.Reading.{LookTells, look-reads, look-leads, since-more, failed-so}
use Rattle.expiry.proofs.Deciding.{Fine, decided-goes, starved-goes}

-- ---- a listing is answered by one, or fails
listed-cases : (by : Caller) (old new : List Event) (P : Reply → Type 0) (part : Part)
    → ((listed : Listed) → Makes by (ListPart part) (Is_listed listed) old new → P (Is_listed listed)) → ((done : Bool) → Makes by (ListPart part) (Failed done) old new → P (Failed done))
    → (reply : Reply) → Makes by (ListPart part) reply old new → P reply
listed-cases by old new P part listed failed (Is_listed x) m = listed x m
listed-cases by old new P part listed failed (Failed done) m = failed done m
listed-cases by old new P part listed failed (Got x) m = let e = m.answered.answered.1 in absurd (cc)
listed-cases by old new P part listed failed (New x) m = let e = m.answered.answered.1 in absurd (cc)
listed-cases by old new P part listed failed (Over x) m = let e = m.answered.answered.1 in absurd (cc)
listed-cases by old new P part listed failed (Is_gone x) m = let e = m.answered.answered.1 in absurd (cc)
listed-cases by old new P part listed failed (GoneAt x) m = let e = m.answered.answered.1 in absurd (cc)

-- ---- which refs are left
refs-more : (cases : List RefCase) (ref : Key) (what : What) (left : List Key) → refs_of (cases ++ record { key = ref; what = what } ∷ []) ++ left ≡ refs_of cases ++ ref ∷ left
refs-more cases ref what left =
    ap (λ (l : List Key). l ++ left) (map-append (λ (c : RefCase). c.key) cases (record { key = ref; what = what } ∷ [])) ∙ append_assoc (refs_of cases) (ref ∷ []) left

module _ (laws : SnapshotLaw) (by : Caller) (t : Terms) (start : List Event) where
  abbrev IsSo : RefCase → List Event → Type 0
  IsSo c h = CaseTells t by.number c.key c.what start h

  abbrev Plays : Play Expired → List Event → Type 0
  Plays p h = Goes (Fine t start) (ExpireTells t by.number start) by p h

  -- It has come to the refs of these cases, and to none of those that are left; F is known of all of them.
  record Stands (F : List Key → List Event → Type 0) (cases : List RefCase) (left : List Key) (h : List Event) : Type 0 where
    pub since : Since start h
    pub each : All (λ (c : RefCase). IsSo c h) cases
    pub came : F (refs_of cases ++ left) h

  stands-more : (F : List Key → List Event → Type 0) → ((refs : List Key) → Lasts (F refs)) → (cases : List RefCase) (left : List Key) → Lasts (Stands F cases left)
  stands-more F lasts cases left journal more s = record { since = since-more start journal more s.since; each = cases-more t by.number start journal more cases s.each; came = lasts (refs_of cases ++ left) journal more s.came }

  -- ---- refusals
  abbrev Came : List Key → List Event → Type 0
  Came refs h = (refs ≡ []) ⊎ (WasListed by.number Branches refs start h ⊎ CameToAll by.number refs start h)

  refused-goes : (cases : List RefCase) (left : List Key) (why : Refusal) (h : List Event) → All (λ (c : RefCase). IsSo c h) cases → Came (refs_of cases ++ left) h → Cause t by.number why start h → Plays (ends_with cases (Err why)) h
  unfolding Goes
  refused-goes cases left why h each came cause = record { each = each; ends = (record { left = left; came = came }, cause) }

  -- ---- each of the refs
  module _ (F : List Key → List Event → Type 0) (lasts : (refs : List Key) → Lasts (F refs)) (tells : (refs : List Key) (h : List Event) → F refs h → Came refs h) (next : List RefCase → Play Expired) (behind : (cases : List RefCase) (h : List Event) → Stands F cases [] h → Plays (next cases) h) where
    case-goes : (ref : Key) (refs : List Key) (cases : List RefCase) → ((more : List RefCase) (h : List Event) → Stands F more refs h → Plays (expire_each t refs more next) h) → (what : What) (h : List Event) → Stands F cases (ref ∷ refs) h → CaseTells t by.number ref what start h
        → Plays (after_case ref cases (λ more. expire_each t refs more next) (Ok what)) h
    case-goes ref refs cases again what h s w = again (cases ++ record { key = ref; what = what } ∷ []) h (record {
      since = s.since;
      each = All-push (λ (c : RefCase). IsSo c h) cases (record { key = ref; what = what }) s.each w;
      came = subst (λ (l : List Key). F l h) (sym (refs-more cases ref what refs)) s.came;
    })

    one-goes : (ref : Key) (refs : List Key) (cases : List RefCase) (h : List Event) → Stands F cases (ref ∷ refs) h → ((more : List RefCase) (h : List Event) → Stands F more refs h → Plays (expire_each t refs more next) h)
        → Plays (expire_each t (ref ∷ refs) cases next) h
    unfolding expire_each
    one-goes ref refs cases h s again =
        let after : Result What Refusal → Play Expired = after_case ref cases (λ more. expire_each t refs more next) in
        let along : Lasts (Stands F cases (ref ∷ refs)) = stands-more F lasts cases (ref ∷ refs) in
        let told : (what : What) (k : List Event) → Stands F cases (ref ∷ refs) k → CaseTells t by.number ref what start k → Plays (after (Ok what)) k = case-goes ref refs cases again in
        let refused : (why : Refusal) (k : List Event) → Stands F cases (ref ∷ refs) k → Cause t by.number why start k → Plays (after (Err why)) k = λ why k u w. refused-goes cases (ref ∷ refs) why k u.each (tells (refs_of cases ++ ref ∷ refs) k u.came) w in
        goes-call (Fine t start) (ExpireTells t by.number start) by (LookTells t by.number ref start) (Stands F cases (ref ∷ refs)) along (λ k key. (tt, tt)) (after_look ref after)
        (λ answer k u w. decided-goes by t start ref (Stands F cases (ref ∷ refs)) along (λ j v. v.since) after told refused answer k u w)
        (λ k u. starved-goes by t start ref (Stands F cases (ref ∷ refs)) along (λ j v. v.since) after told refused k u)
        (look_program t ref) h (look-reads t ref) s (look-leads laws by t ref start h s.since)

    each-goes : (refs : List Key) (cases : List RefCase) (h : List Event) → Stands F cases refs h → Plays (expire_each t refs cases next) h
    unfolding expire_each
    each-goes [] cases h s = behind cases h s
    each-goes (ref ∷ refs) cases h s = one-goes ref refs cases h s (each-goes refs)

  -- ---- a listing
  was-listed : (part : Part) (listed : Listed) (old new : List Event) → Makes by (ListPart part) (Is_listed listed) old new → Since start old → WasListed by.number part (live listed.entries) start new
  was-listed part listed old new m s = record { reply = listed; own = own-made by start (ListPart part) (Is_listed listed) old new m s; refs_are = refl }

  -- K is known before it, and of it nothing is left; then what follows is as it should be, where the listing is known too
  listing-goes : (K : List Key → List Event → Type 0) (lasts : (refs : List Key) → Lasts (K refs)) (tells : (refs : List Key) (h : List Event) → K refs h → Came refs h) (part : Part) (cases : List RefCase) (next : List Key → Play Expired)
      → ((refs : List Key) (h : List Event) → Stands K cases [] h → WasListed by.number part refs start h → Plays (next refs) h) → (h : List Event) → Stands K cases [] h → Plays (listing part cases next) h
  unfolding Goes
  listing-goes K lasts tells part cases next follows h s = (
    (tt, tt),
    refused R.NoMemory h s tt,
    λ reply new m. listed-cases by h new (λ r. Plays (after_listing cases next r) new) part
        (λ listed k. (follows (live listed.entries) new (along (Is_listed listed) new k) (was-listed part listed h new k s.since), refused R.NoMemory new (along (Is_listed listed) new k) tt))
        (λ done k. refused R.StoreFault new (along (Failed done) new k) (failed-so by start (ListPart part) done h new k s.since))
        reply m,
  )
    where
      along : (reply : Reply) (new : List Event) → Makes by (ListPart part) reply h new → Stands K cases [] new
      along reply new m = lasts-makes (Stands K cases []) (stands-more K lasts cases []) by (ListPart part) reply h new m s

      refused : (why : Refusal) (k : List Event) → Stands K cases [] k → Cause t by.number why start k → Plays (ends_with cases (Err why)) k
      refused why k u w = refused-goes cases [] why k u.each (tells (refs_of cases ++ []) k u.came) w

  -- ---- the tags, and the branches before them
  abbrev OfBranches : List Key → List Event → Type 0
  OfBranches refs h = WasListed by.number Branches refs start h

  abbrev OfAll : List Key → List Event → Type 0
  OfAll refs h = CameToAll by.number refs start h

  abbrev OfNone : List Key → List Event → Type 0
  OfNone refs h = refs ≡ []

  done-goes : (cases : List RefCase) (h : List Event) → Stands OfAll cases [] h → Plays (all_done cases) h
  unfolding Goes
  done-goes cases h s = record { each = s.each; ends = subst (λ (l : List Key). CameToAll by.number l start h) (append-nil (refs_of cases)) s.came }

  tags-listed : (cases : List RefCase) (refs : List Key) (h : List Event) → Stands OfBranches cases [] h → WasListed by.number Tags refs start h → Plays (expire_each t refs cases all_done) h
  tags-listed cases refs h s w = each-goes OfAll (λ l j more c. all-more t by.number start j more l c) (λ l k c. inr (inr c)) all_done done-goes refs cases h (record {
    since = s.since;
    each = s.each;
    came = record {
      branches = refs_of cases;
      tags = refs;
      branches_listed = subst (λ (l : List Key). WasListed by.number Branches l start h) (append-nil (refs_of cases)) s.came;
      tags_listed = w;
      refs_are = refl;
    };
  })

  tags-go : (cases : List RefCase) (h : List Event) → Stands OfBranches cases [] h → Plays (expire_tags t cases) h
  tags-go cases h s = listing-goes OfBranches (λ l j more w. listed-more t by.number start j more Branches l w) (λ l k w. inr (inl w)) Tags cases (λ refs. expire_each t refs cases all_done) (tags-listed cases) h s

  branches-listed : (refs : List Key) (h : List Event) → Stands OfNone [] [] h → WasListed by.number Branches refs start h → Plays (expire_each t refs [] (expire_tags t)) h
  branches-listed refs h s w = each-goes OfBranches (λ l j more u. listed-more t by.number start j more Branches l u) (λ l k u. inr (inl u)) (expire_tags t) tags-go refs [] h (record { since = s.since; each = s.each; came = w })

  pub play-goes : (h : List Event) → Since start h → Plays (expire_play t) h
  play-goes h s =
      listing-goes OfNone (λ l j more e. e) (λ l k e. inl e) Branches [] (λ refs. expire_each t refs [] (expire_tags t)) branches-listed h
      (record { since = s; each = All-nil (λ (c : RefCase). IsSo c h); came = refl })
