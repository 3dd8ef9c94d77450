-- No snapshot that is still to be got was got.
use Rattle.std.proofs.Common.{◌≡◌, inl, inr, Bool, true, false, List, [], ◌∷◌, ◌++◌, refl, sym, ◌∙◌, ap, subst}
use Rattle.std.specs.Prelude.{Option, Some, None, Contains}
use Rattle.std.proofs.lemmas.List.Elements.{Contains-push_cases}
use Rattle.ice_ids.specs.declared.Id12.{Id12}
use Rattle.ice_ids.specs.Sets.{has_object, with_object}
use Rattle.snapshot_file.specs.declared.snapshot.SnapshotFile.{SnapshotFile}
use Rattle.repo_objects.specs.Lines.{Line, unless_found, enter, enter_some, enter_ids}
use Rattle.ice_ids.proofs.OneMore.{Has, kept-with, has-with}
use Rattle.ice_ids.proofs.Elements.{first-is, first-or-later, later-is, none-in}
use Rattle.chunk_gc.proofs.Marking.{ReadIn}

-- none of these ids stands twice
abbrev pub Distinct : List Id12 → Type 0
Distinct [] = Unit {0}
Distinct (id ∷ ids) = (Contains ids id → ⊥) × Distinct ids

distinct-push : (ids : List Id12) (id : Id12) → Distinct ids → (Contains ids id → ⊥) → Distinct (ids ++ id ∷ [])
distinct-push [] id d n = (λ c. none-in id c, tt)
distinct-push (x ∷ ids) id d n = (other, distinct-push ids id d.1 (λ c. n (later-is x id ids c)))
  where
    other : Contains (ids ++ id ∷ []) x → ⊥
    other c = elim (Contains-push_cases ids id x c) [
      | inl a ↦ d.0 a
      | inr same ↦ n (subst (λ (y : Id12). Contains (x ∷ ids) y) (sym same) (first-is x ids))
    ]

-- each of these snapshots was found; of those that are still to be got each was found too, once, and none was got
pub record Once (line : Line) (xs : List SnapshotFile) : Type 0 where
  pub known : (s : SnapshotFile) → Contains xs s → Has line.all s.id
  pub waits : (id : Id12) → Contains line.todo id → Has line.all id
  pub once : Distinct line.todo
  pub unread : (id : Id12) → Contains line.todo id → ReadIn xs id → ⊥

pub once-none : (line : Line) → line.todo ≡ [] → Once line []
once-none line e = record {
  known = λ s c. absurd (none-in s c);
  waits = λ id c. absurd (never id c);
  once = subst Distinct (sym e) tt;
  unread = λ id c r. never id c;
}
  where
    never : (id : Id12) → Contains line.todo id → ⊥
    never id c = none-in id (subst (λ (l : List Id12). Contains l id) e c)

once-enter : (id : Id12) (line : Line) (xs : List SnapshotFile) → Once line xs → Once (enter id line) xs
once-enter id line xs a = go (has_object line.all id) refl
  where
    read : (q : Id12) → ReadIn xs q → Has line.all q
    read q r = subst (λ (x : Id12). Has line.all x) r.2 (a.known r.0 r.1)

    absent : has_object line.all id ≡ false → Has line.all id → ⊥
    absent e h = cc

    go : (b : Bool) → has_object line.all id ≡ b → Once (record { all = with_object line.all id; todo = unless_found b id line.todo }) xs
    go true e = record {
      known = λ s c. kept-with line.all id s.id (a.known s c);
      waits = λ q c. kept-with line.all id q (a.waits q c);
      once = a.once;
      unread = a.unread;
    }
    go false e = record {
      known = λ s c. kept-with line.all id s.id (a.known s c);
      waits = λ q c. elim (Contains-push_cases line.todo id q c) [
        | inl was ↦ kept-with line.all id q (a.waits q was)
        | inr same ↦ subst (λ (x : Id12). Has (with_object line.all id) x) same (has-with line.all id)
      ];
      once = distinct-push line.todo id a.once (λ c. absent e (a.waits id c));
      unread = λ q c r. elim (Contains-push_cases line.todo id q c) [
        | inl was ↦ a.unread q was r
        | inr same ↦ absent e (subst (λ (x : Id12). Has line.all x) (sym same) (read q r))
      ];
    }

pub once-some : (id : Option Id12) (line : Line) (xs : List SnapshotFile) → Once line xs → Once (enter_some id line) xs
once-some None line xs a = a
once-some (Some id) line xs a = once-enter id line xs a

pub once-ids : (ids : List Id12) (line : Line) (xs : List SnapshotFile) → Once line xs → Once (enter_ids ids line) xs
once-ids [] line xs o = o
once-ids (id ∷ ids) line xs o = once-ids ids (enter id line) xs (once-enter id line xs o)

-- what is behind the first is still to be got
in-todo : (line : Line) (id : Id12) (behind : List Id12) → line.todo ≡ id ∷ behind → (q : Id12) → Contains behind q → Contains line.todo q
in-todo line id behind is q c = subst (λ (l : List Id12). Contains l q) (sym is) (later-is id q behind c)

-- the first that is still to be got was got
pub once-taken : (line : Line) (id : Id12) (behind : List Id12) (s : SnapshotFile) (xs : List SnapshotFile) → s.id ≡ id → line.todo ≡ id ∷ behind → Once line xs → Once (record { all = line.all; todo = behind }) (xs ++ s ∷ [])
once-taken line id behind s xs own is a = record {
  known = λ x c. elim (Contains-push_cases xs s x c) [
    | inl was ↦ a.known x was
    | inr same ↦ subst (λ (y : SnapshotFile). Has line.all y.id) same (subst (λ (y : Id12). Has line.all y) (sym own) (a.waits id (subst (λ (l : List Id12). Contains l id) (sym is) (first-is id behind))))
  ];
  waits = λ q c. a.waits q (in-todo line id behind is q c);
  once = two.1;
  unread = λ q c r. elim (Contains-push_cases xs s r.0 r.1) [
    | inl was ↦ a.unread q (in-todo line id behind is q c) (r.0, was, r.2)
    | inr same ↦ two.0 (subst (λ (y : Id12). Contains behind y) (sym (sym own ∙ (ap (λ (y : SnapshotFile). y.id) same ∙ r.2))) c)
  ];
}
  where
    two : Distinct (id ∷ behind)
    two = subst Distinct is a.once

-- it was passed over
pub once-passed : (line : Line) (id : Id12) (behind : List Id12) (xs : List SnapshotFile) → line.todo ≡ id ∷ behind → Once line xs → Once (record { all = line.all; todo = behind }) xs
once-passed line id behind xs is o = record {
  known = o.known;
  waits = λ q c. o.waits q (in-todo line id behind is q c);
  once = (let two : Distinct (id ∷ behind) = subst Distinct is o.once in two.1);
  unread = λ q c r. o.unread q (in-todo line id behind is q c) r;
}
