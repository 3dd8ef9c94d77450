-- Chains that are safe: each snapshot down to a stop, or to the end, has nothing doomed but what is excused.
use Rattle.std.proofs.Common.{◌≡◌, ◌⊎◌, inl, inr, List, [], ◌∷◌, ◌++◌, refl, sym, ◌∙◌, ap, subst}
use Rattle.std.specs.Prelude.{Some}
use Rattle.ice_ids.specs.declared.Id12.{Id12}
use Rattle.ice_ids.specs.Text.{initial_id}
use Rattle.repo_objects.specs.Laws.{InitialLaw}
use Rattle.object_store.specs.declared.keys.Key.{Key}
use Rattle.object_store.specs.declared.keys.Key.TheVariants.{Snapshot, Txn}
use Rattle.object_store.specs.declared.events.Event.{Event}
use Rattle.object_store.specs.Machine.{first_put}
use Rattle.store_api.specs.Journal.{IsFirst, IsGood, IsOnce, WasPut}
use Rattle.reach.specs.Chains.{Chain, here, down, parent_at}
use Rattle.reach.specs.Holding.{Holds, Reaches}
use Rattle.reach.specs.Own.{HoldsBesides}
use Rattle.reach.proofs.Parents.{parent_in}
use Rattle.history_laws.proofs.Down.{Down, stop, bottom, next, down-map}
use Rattle.history_laws.proofs.Past.{Known, Has, Ends, Past, known-append, parent-one, holds-back-one, holds-fore-one}

module _ (doomed : Key → Type 0) (young : List Event → Key → Type 0) where
  -- it is young, or a snapshot that was found has it
  abbrev pub Excused : (Id12 → Type 0) → List Event → Key → Type 0
  Excused Found journal key = young journal key ⊎ ((y : Id12) × Found y × Has journal y key)

  pub record Fine (Found : Id12 → Type 0) (journal : List Event) (id : Id12) : Type 0 where
    pub known : Known journal id
    pub covered : (key : Key) → Has journal id key → doomed key → Excused Found journal key

  -- down to such a stop, or to the end
  abbrev pub SafeTo : (Found Stop : Id12 → Type 0) → List Event → Id12 → Type 0
  SafeTo Found Stop journal id = Down (parent_at journal) (Fine Found journal) Stop id

  -- down to one that was found
  abbrev pub Safe : (Id12 → Type 0) → List Event → Id12 → Type 0
  Safe Found journal id = SafeTo Found Found journal id

  pub safe-covered : (Found : Id12 → Type 0) (journal : List Event) (id : Id12) (key : Key) → Safe Found journal id → Has journal id key → doomed key → Excused Found journal key
  safe-covered Found journal id key (stop f) has d = inr (id, f, has)
  safe-covered Found journal id key (bottom g e) has d = g.covered key has d
  safe-covered Found journal id key (next g e rest) has d = g.covered key has d

  -- where more is found, and more is a stop
  pub safe-more : (F G S T : Id12 → Type 0) (journal : List Event) (id : Id12) → ((x : Id12) → F x → G x) → ((x : Id12) → S x → T x) → T initial_id → SafeTo F S journal id → SafeTo G T journal id
  safe-more F G S T journal id found stops at d =
      down-map (parent_at journal) (parent_at journal) (Fine F journal) S (Fine G journal) T
      (λ x g. record { known = g.known; covered = λ key has doom. excused (g.covered key has doom) }) stops (λ x g. inl refl) at d
    where
      excused : {key : Key} → Excused F journal key → Excused G journal key
      excused (inl y) = inl y
      excused (inr h) = inr (h.0, found h.0 h.1, h.2)

  -- what reaches nothing doomed is safe
  pub safe-quiet : (Found : Id12 → Type 0) (journal : List Event) (id : Id12) → Found initial_id → ((key : Key) → Reaches journal id key → doomed key → ⊥) → Ends journal id → Safe Found journal id
  safe-quiet Found journal id at quiet (stop e) = stop (subst Found (sym e) at)
  safe-quiet Found journal id at quiet (bottom known e) =
      bottom (record { known = known; covered = λ key has doom. absurd (quiet key (inr (record { at = id; chain = here; has = has })) doom) }) e
  safe-quiet Found journal id at quiet (next {below = below} known e rest) =
      next (record { known = known; covered = λ key has doom. absurd (quiet key (inr (record { at = id; chain = here; has = has })) doom) }) e
      (safe-quiet Found journal below at (λ key r doom. quiet key (further r) doom) rest)
    where
      further : {key : Key} → Reaches journal below key → Reaches journal id key
      further (inl i) = inl i
      further (inr r) = inr (record { at = r.at; chain = down e r.chain; has = r.has })

  -- what is safe has nothing doomed, where nothing doomed is young or had down from what was found
  pub safe-clean : (Found : Id12 → Type 0) (journal : List Event) → ((id x : Id12) (key : Key) → Found id → Chain journal id x → Has journal x key → doomed key → ⊥) → ((key : Key) → young journal key → doomed key → ⊥)
      → (id x : Id12) (key : Key) → Chain journal id x → Has journal x key → Safe Found journal id → doomed key → ⊥
  safe-clean Found journal clean old id x key c has safe d = down-clean id c safe
    where
      excused : Excused Found journal key → ⊥
      excused (inl y) = old key y d
      excused (inr h) = clean h.0 h.0 key h.1 here h.2 d

      down-clean : (y : Id12) → Chain journal y x → Safe Found journal y → ⊥
      down-clean y c (stop found) = clean y x key found c has d
      down-clean y here (bottom g e) = excused (g.covered key has d)
      down-clean y here (next g e rest) = excused (g.covered key has d)
      down-clean y (down f c) (bottom g e) = cc
      down-clean y (down {parent = below} f c) (next {below = another} g e rest) =
          let same : below ≡ another = cc in
          down-clean another (subst (λ (z : Id12). Chain journal z x) same c) rest

  -- over one more event
  module _ (initial : InitialLaw) (Found Stop : Id12 → Type 0) (at : Stop initial_id) (journal : List Event) (event : Event) (once : IsOnce journal) (good : IsGood journal event) (first : IsFirst journal event) (older : (key : Key) → young journal key → young (journal ++ event ∷ []) key) where
    has-back : (id : Id12) (key : Key) → Known journal id → Has (journal ++ event ∷ []) id key → Has journal id key
    has-back id key known (inl e) = inl e
    has-back id key known (inr h) = inr (holds-back-one initial journal event once good first id key known h)

    has-fore : (id : Id12) (key : Key) → Has journal id key → Has (journal ++ event ∷ []) id key
    has-fore id key (inl e) = inl e
    has-fore id key (inr h) = inr (holds-fore-one initial journal event once good first id key h)

    excused-on : (key : Key) → Excused Found journal key → Excused Found (journal ++ event ∷ []) key
    excused-on key (inl y) = inl (older key y)
    excused-on key (inr h) = inr (h.0, h.1, has-fore h.0 key h.2)

    pub safe-on : (id : Id12) → SafeTo Found Stop journal id → SafeTo Found Stop (journal ++ event ∷ []) id
    safe-on id d =
        down-map (parent_at journal) (parent_at (journal ++ event ∷ [])) (Fine Found journal) Stop (Fine Found (journal ++ event ∷ [])) Stop
        (λ x g. record { known = known-append journal (event ∷ []) x g.known; covered = λ key has doom. excused-on key (g.covered key (has-back x key g.known has) doom) })
        (λ x f. f) (λ x g. parent-one initial journal event once good first x g.known) at d

  -- an own commit over a safe snapshot is safe
  module _ (Found : Id12 → Type 0) (at : Found initial_id) (journal : List Event) (past : Past journal) (base id : Id12)
      (own : (key : Key) → doomed key → HoldsBesides (young journal) base id journal) (log_young : WasPut journal (Snapshot id) → young journal (Txn id) → (id ≡ initial_id) ⊎ young journal (Snapshot id))
      (safe : Safe Found journal base) (put : WasPut journal (Snapshot id)) (parent : parent_in id (first_put journal (Snapshot id)) ≡ Some base) where
    held : (key : Key) → Holds journal id key → doomed key → Excused Found journal key
    held key h doom = elim (own key doom key h) [
      | inl before ↦ safe-covered Found journal base key safe (inr before) doom
      | inr its ↦ inl its
    ]

    -- the snapshot itself was put after its log
    itself : doomed (Snapshot id) → Excused Found journal (Snapshot id)
    itself doom = elim (own (Snapshot id) doom (Txn id) refl) [
      | inl same ↦ safe-covered Found journal base (Snapshot id) safe (inl (ap Snapshot same)) doom
      | inr its ↦ elim (log_young put its) [
        | inl i ↦ inr (initial_id, at, inl (ap Snapshot i))
        | inr y ↦ inl y
      ]
    ]

    fine : Fine Found journal id
    fine = record {
      known = inr put;
      covered = λ key has. elim has [
        | inl is ↦ λ doom. subst (Excused Found journal) (sym is) (itself (subst doomed is doom))
        | inr h ↦ λ doom. held key h doom
      ];
    }

    pub safe-commit : Safe Found journal id
    safe-commit = elim (past.made id put) [
      | inl same ↦ next fine (same ∙ parent) safe
      | inr cut ↦ next fine cut (stop at)
    ]
