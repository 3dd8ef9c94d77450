-- What entering ids in a queue changes.
use Rattle.std.proofs.Common.{◌≡◌, ◌⊎◌, inl, inr, Bool, true, false, List, [], ◌∷◌, ◌++◌, refl, sym, ◌∙◌, ap, subst}
use Rattle.std.specs.Prelude.{Option, Some, None, Contains}
use Rattle.std.proofs.lemmas.List.Elements.{Contains-append_left, Contains-push, Contains-push_cases}
use Rattle.ice_ids.specs.declared.Id12.{Id12}
use Rattle.ice_ids.specs.Sets.{has_object, with_object}
use Rattle.ice_ids.proofs.Elements.{first-is, later-is, first-or-later, none-in}
use Rattle.ice_ids.proofs.OneMore.{Has, kept-with, has-with, only-with}
use Rattle.snapshot_file.specs.declared.nodes.ManifestRef.{ManifestRef}
use Rattle.snapshot_file.specs.declared.nodes.NodeRow.{NodeRow}
use Rattle.snapshot_file.specs.Snapshots.{manifests_named}
use Rattle.repo_objects.specs.Trees.{NamesManifest}
use Rattle.repo_objects.specs.Lines.{Line, unless_found, enter, enter_some, enter_ids, enter_refs, enter_rows}

-- after is before with these entered
pub record Enters (P : Id12 → Type 0) (before after : Line) : Type 0 where
  pub kept : (q : Id12) → Has before.all q → Has after.all q
  pub entered : (q : Id12) → P q → Has after.all q
  pub only : (q : Id12) → Has after.all q → Has before.all q ⊎ P q
  pub left : (q : Id12) → Contains before.todo q → Contains after.todo q
  pub fresh : (q : Id12) → Has after.all q → Has before.all q ⊎ Contains after.todo q
  pub inside : (q : Id12) → Contains after.todo q → Contains before.todo q ⊎ P q
  pub new : (q : Id12) → Contains after.todo q → Contains before.todo q ⊎ (Has before.all q → ⊥)

enters-none : (line : Line) (P : Id12 → Type 0) → ((q : Id12) → P q → ⊥) → Enters P line line
enters-none line P never = record { kept = λ q h. h; entered = λ q p. absurd (never q p); only = λ q h. inl h; left = λ q h. h; fresh = λ q h. inl h; inside = λ q h. inl h; new = λ q h. inl h }

enters-both : (P Q R : Id12 → Type 0) (a b c : Line) → ((q : Id12) → P q ⊎ Q q → R q) → ((q : Id12) → R q → P q ⊎ Q q) → Enters P a b → Enters Q b c → Enters R a c
enters-both P Q R a b c to from v w = record {
  kept = λ q h. w.kept q (v.kept q h);
  entered = λ q r. elim (from q r) [ inl p ↦ w.kept q (v.entered q p) | inr x ↦ w.entered q x ];
  only = λ q h. elim (w.only q h) [ inl x ↦ elim (v.only q x) [ inl u ↦ inl u | inr u ↦ inr (to q (inl u)) ] | inr y ↦ inr (to q (inr y)) ];
  left = λ q h. w.left q (v.left q h);
  fresh = λ q h. elim (w.fresh q h) [ inl x ↦ elim (v.fresh q x) [ inl u ↦ inl u | inr u ↦ inr (w.left q u) ] | inr y ↦ inr y ];
  inside = λ q h. elim (w.inside q h) [ inl x ↦ elim (v.inside q x) [ inl u ↦ inl u | inr u ↦ inr (to q (inl u)) ] | inr y ↦ inr (to q (inr y)) ];
  new = λ q h. elim (w.new q h) [ inl x ↦ v.new q x | inr apart ↦ inr (λ was. apart (v.kept q was)) ];
}

pub enters-one : (id : Id12) (line : Line) → Enters (λ q. id ≡ q) line (enter id line)
enters-one id line = go (has_object line.all id) refl
  where
    go : (b : Bool) → has_object line.all id ≡ b → Enters (λ q. id ≡ q) line (record { all = with_object line.all id; todo = unless_found b id line.todo })
    go true e = record {
      kept = λ q h. kept-with line.all id q h;
      entered = λ q s. subst (λ (x : Id12). Has (with_object line.all id) x) s (has-with line.all id);
      only = λ q h. only-with line.all id q h;
      left = λ q h. h;
      fresh = λ q h. elim (only-with line.all id q h) [ inl a ↦ inl a | inr s ↦ inl (subst (λ (x : Id12). Has line.all x) s e) ];
      inside = λ q h. inl h;
      new = λ q h. inl h;
    }
    go false e = record {
      kept = λ q h. kept-with line.all id q h;
      entered = λ q s. subst (λ (x : Id12). Has (with_object line.all id) x) s (has-with line.all id);
      only = λ q h. only-with line.all id q h;
      left = λ q h. Contains-append_left line.todo (id ∷ []) q h;
      fresh = λ q h. elim (only-with line.all id q h) [ inl a ↦ inl a | inr s ↦ inr (subst (λ (x : Id12). Contains (line.todo ++ id ∷ []) x) s (Contains-push line.todo id)) ];
      inside = λ q h. Contains-push_cases line.todo id q h;
      new = λ q h. elim (Contains-push_cases line.todo id q h) [
        | inl x ↦ inl x
        | inr same ↦ inr (λ was. let w : Has line.all id = subst (λ (x : Id12). Has line.all x) (sym same) was in cc)
      ];
    }

pub enters-some : (id : Option Id12) (line : Line) → Enters (λ q. id ≡ Some q) line (enter_some id line)
enters-some None line = enters-none line (λ q. None ≡ Some q) (λ q e. cc)
enters-some (Some id) line = enters-both (λ q. id ≡ q) (λ q. ⊥) (λ q. Some id ≡ Some q) line (enter id line) (enter id line) (λ q c. elim c [ inl s ↦ ap (λ (x : Id12). Some x) s | inr n ↦ absurd n ]) (λ q e. inl cc) (enters-one id line) (enters-none (enter id line) (λ q. ⊥) (λ q n. n))

pub enters-ids : (ids : List Id12) (line : Line) → Enters (Contains ids) line (enter_ids ids line)
enters-ids [] line = enters-none line (Contains []) (λ q n. none-in q n)
enters-ids (id ∷ ids) line = enters-both (λ q. id ≡ q) (Contains ids) (Contains (id ∷ ids)) line (enter id line) (enter_ids ids (enter id line)) to (λ q. first-or-later id q ids) (enters-one id line) (enters-ids ids (enter id line))
  where
    to : (q : Id12) → (id ≡ q) ⊎ Contains ids q → Contains (id ∷ ids) q
    to q (inl s) = subst (λ (x : Id12). Contains (id ∷ ids) x) s (first-is id ids)
    to q (inr n) = later-is id q ids n

-- these name a manifest
abbrev NamesRef : List ManifestRef → Id12 → Type 0
NamesRef ms id = (m : ManifestRef) × Contains ms m × (m.id ≡ id)

enters-refs : (ms : List ManifestRef) (line : Line) → Enters (NamesRef ms) line (enter_refs ms line)
enters-refs [] line = enters-none line (NamesRef []) (λ q n. none-in n.0 n.1)
enters-refs (m ∷ ms) line = enters-both (λ q. m.id ≡ q) (NamesRef ms) (NamesRef (m ∷ ms)) line (enter m.id line) (enter_refs ms (enter m.id line)) to from (enters-one m.id line) (enters-refs ms (enter m.id line))
  where
    to : (q : Id12) → (m.id ≡ q) ⊎ NamesRef ms q → NamesRef (m ∷ ms) q
    to q (inl s) = (m, first-is m ms, s)
    to q (inr n) = (n.0, later-is m n.0 ms n.1, n.2)

    from : (q : Id12) → NamesRef (m ∷ ms) q → (m.id ≡ q) ⊎ NamesRef ms q
    from q n = elim (first-or-later m n.0 ms n.1) [ inl s ↦ inl (ap (λ (x : ManifestRef). x.id) s ∙ n.2) | inr l ↦ inr (n.0, l, n.2) ]

pub enters-rows : (rows : List NodeRow) (line : Line) → Enters (NamesManifest rows) line (enter_rows rows line)
enters-rows [] line = enters-none line (NamesManifest []) (λ q n. none-in n.row n.among)
enters-rows (row ∷ rows) line = enters-both (NamesRef (manifests_named row.kind)) (NamesManifest rows) (NamesManifest (row ∷ rows)) line (enter_refs (manifests_named row.kind) line) (enter_rows rows (enter_refs (manifests_named row.kind) line)) to from (enters-refs (manifests_named row.kind) line) (enters-rows rows (enter_refs (manifests_named row.kind) line))
  where
    to : (q : Id12) → NamesRef (manifests_named row.kind) q ⊎ NamesManifest rows q → NamesManifest (row ∷ rows) q
    to q (inl n) = record { row = row; among = first-is row rows; manifest = n.0; named = n.1; is = n.2 }
    to q (inr n) = record { row = n.row; among = later-is row n.row rows n.among; manifest = n.manifest; named = n.named; is = n.is }

    from : (q : Id12) → NamesManifest (row ∷ rows) q → NamesRef (manifests_named row.kind) q ⊎ NamesManifest rows q
    from q n = elim (first-or-later row n.row rows n.among) [
      | inl s ↦ inl (n.manifest, subst (λ (x : NodeRow). Contains (manifests_named x.kind) n.manifest) (sym s) n.named, n.is)
      | inr l ↦ inr (record { row = n.row; among = l; manifest = n.manifest; named = n.named; is = n.is })
    ]
