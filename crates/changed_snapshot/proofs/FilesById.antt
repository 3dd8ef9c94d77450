-- The manifests of a snapshot by their ids, new ones among them.
use Rattle.std.proofs.Common.{◌≡◌, ◌∙◌, ℕ, Bool, true, false, cond, ◌||◌, T, List, [], ◌∷◌, ◌++◌, map, Option, Some, None, option_map, refl, sym, ap, subst}
use Rattle.std.specs.Prelude.{find, IfSome}
use Rattle.std.specs.declared.cmp.Ordering.{Ordering}
use Rattle.std.specs.declared.cmp.Ordering.TheVariants.{Less, Equal, Greater}
use Rattle.std.specs.Cmp.{IsTotalOrder}
use Rattle.std.specs.Cmp.Lexicographic.{nat_list_cmp_total}
use Rattle.std.specs.List.{list_any, list_all, cons_option, AllByRecursion}
use Rattle.std.specs.BTreeMap.{insert_entry}
use Rattle.std.specs.FinMap.{put, entries, values, is_sorted, entries_sorted, len-entries, len-empty, entries-insert}
use Rattle.std.specs.FinMap.Entries.{by_order}
use Rattle.std.proofs.lemmas.List.{nil_from_length}
use Rattle.flat_tables.specs.Rows.{follows, Ascends}
use Rattle.ice_ids.specs.declared.Id12.{Id12}
use Rattle.ice_ids.specs.Text.{same_id12, id12_cmp}
use Rattle.ice_ids.proofs.TextLaws.{same_id12-self}
use Rattle.snapshot_file.specs.declared.snapshot.ManifestInfo.{ManifestInfo}
use Rattle.snapshot_file.specs.Snapshots.{file_key}
use Rattle.snapshot_file.specs.Layout.{IsInfo}
use Rattle.changed_snapshot.specs.declared.new_snapshot.NewList.{NewList}
use Rattle.changed_snapshot.specs.declared.new_snapshot.NewManifest.{NewManifest}
use Rattle.changed_snapshot.specs.Rows.{info_of, infos_of, files_with}
use Rattle.changed_snapshot.specs.Laws.{IsSized, AreSized}
use Rattle.changed_snapshot.specs.inside.Named.{files_by_id}
use Rattle.changed_snapshot.proofs.Found.{first_of, second_of}
use Rattle.changed_snapshot.proofs.IdSets.{exact, or_assoc}

pub id_total : IsTotalOrder id12_cmp
id_total = record {
  antisymm = λ x y. nat_list_cmp_total.antisymm x.0 y.0;
  trans = λ x y z. nat_list_cmp_total.trans x.0 y.0 z.0;
  congr = λ x y z. nat_list_cmp_total.congr x.0 y.0 z.0;
}

-- files by their ids
abbrev pub Rows : Type 0
Rows = List (Id12 × ManifestInfo)

-- what a map of the library does with one more file
one_more : (e : Id12 × ManifestInfo) (es : Rows) (k : Id12) (v : ManifestInfo) → insert_entry id12_cmp es k v ≡ put id12_cmp k v es
    → (r : Ordering) → id12_cmp k e.0 ≡ r → insert_entry id12_cmp (e ∷ es) k v ≡ put id12_cmp k v (e ∷ es)
one_more e es k v rest Less h = rw h refl
one_more e es k v rest Equal h = rw h refl
one_more e es k v rest Greater h = rw h (ap (λ (xs : Rows). e ∷ xs) rest)

insert_put : (es : Rows) (k : Id12) (v : ManifestInfo) → insert_entry id12_cmp es k v ≡ put id12_cmp k v es
insert_put [] k v = refl
insert_put (e ∷ es) k v = one_more e es k v (insert_put es k v) (id12_cmp k e.0) refl

pub nothing_entered : entries (files_by_id []) ≡ []
nothing_entered = nil_from_length (entries (files_by_id [])) (sym (len-entries (files_by_id [])) ∙ len-empty id12_cmp ManifestInfo)

-- the file before those that are entered
pub file_entered : (es new : Rows) (file : ManifestInfo) (files rest : List ManifestInfo) → files ≡ file ∷ rest → es ≡ entries (files_by_id rest) → new ≡ insert_entry id12_cmp es file.id file → new ≡ entries (files_by_id files)
file_entered es new file files rest e before now =
    now ∙ ap (λ (xs : Rows). insert_entry id12_cmp xs file.id file) before
    ∙ insert_put (entries (files_by_id rest)) file.id file
    ∙ sym (entries-insert id_total (files_by_id rest) file.id file)
    ∙ ap (λ (xs : List ManifestInfo). entries (files_by_id xs)) (sym e)

-- the entries with one file more before the others
entries_more : (file : ManifestInfo) (files : List ManifestInfo) → entries (files_by_id (file ∷ files)) ≡ put id12_cmp file.id file (entries (files_by_id files))
entries_more file files = entries-insert id_total (files_by_id files) file.id file

-- ---- what holds of each file

module _ (Q : Id12 → ManifestInfo → Type 0) where
  abbrev Each : Rows → Type 0
  Each es = AllByRecursion (λ (e : Id12 × ManifestInfo). Q e.0 e.1) es

  put_each : (k : Id12) (v : ManifestInfo) (es : Rows) → Q k v → Each es → Each (put id12_cmp k v es)
  put_each k v [] q all = (q, tt)
  put_each k v (e ∷ es) q all = elim (id12_cmp k e.0) as (λ o. id12_cmp k e.0 ≡ o → Each (by_order o ((k, v) ∷ e ∷ es) ((e.0, v) ∷ es) (e ∷ put id12_cmp k v es))) [
    | Less ↦ λ is. (q, all)
    | Equal ↦ λ is. (subst (λ id. Q id v) (exact e.0 k is) q, all.1)
    | Greater ↦ λ is. (all.0, put_each k v es q all.1)
  ] refl

  pub entries_each : (files : List ManifestInfo) → AllByRecursion (λ (file : ManifestInfo). Q file.id file) files → Each (entries (files_by_id files))
  entries_each [] all = subst Each (sym nothing_entered) tt
  entries_each (file ∷ files) all = subst Each (sym (entries_more file files)) (put_each file.id file (entries (files_by_id files)) all.0 (entries_each files all.1))

each_own : (files : List ManifestInfo) → AllByRecursion (λ (file : ManifestInfo). file.id ≡ file.id) files
each_own [] = tt
each_own (file ∷ files) = (refl, each_own files)

abbrev AreKeys : Rows → Type 0
AreKeys es = AllByRecursion (λ (e : Id12 × ManifestInfo). e.0 ≡ e.1.id) es

keys_are : (files : List ManifestInfo) → AreKeys (entries (files_by_id files))
keys_are files = entries_each (λ id file. id ≡ file.id) files (each_own files)

values_each : (Q : ManifestInfo → Type 0) (es : Rows) → AllByRecursion (λ (e : Id12 × ManifestInfo). Q e.1) es → AllByRecursion Q (map (λ (e : Id12 × ManifestInfo). e.1) es)
values_each Q [] all = tt
values_each Q (e ∷ es) all = (all.0, values_each Q es all.1)

-- what holds of all files holds of those that are left
pub all_values : (Q : ManifestInfo → Type 0) (files : List ManifestInfo) → AllByRecursion Q files → AllByRecursion Q (values (files_by_id files))
all_values Q files all = values_each Q (entries (files_by_id files)) (entries_each (λ id file. Q file) files all)

-- ---- their order

abbrev all_follow : Option (List ℕ) → Rows → Bool
all_follow before es = list_all (λ (e : Id12 × ManifestInfo). follows before e.0.0) es

true_of : (b : Bool) → T b → b ≡ true
true_of true h = refl
true_of false h = absurd h

values_ascend : (before : Option (List ℕ)) (es : Rows) → AreKeys es → T (all_follow before es) → T (is_sorted id12_cmp es) → Ascends file_key before (map (λ (e : Id12 × ManifestInfo). e.1) es)
values_ascend before [] keys follow sorted = tt
values_ascend before (e ∷ es) keys follow sorted =
    let own : e.0.0 ≡ e.1.id.0 = ap (λ (id : Id12). id.0) keys.0 in
    let rest : Ascends file_key (Some e.0.0) (map (λ (x : Id12 × ManifestInfo). x.1) es) =
    values_ascend (Some e.0.0) es keys.1 (first_of (all_follow (Some e.0.0) es) (is_sorted id12_cmp es) sorted) (second_of (all_follow (Some e.0.0) es) (is_sorted id12_cmp es) sorted)
    in (
      ap (follows before) (sym own) ∙ true_of (follows before e.0.0) (first_of (follows before e.0.0) (all_follow before es) follow),
      subst (λ k. Ascends file_key (Some k) (map (λ (x : Id12 × ManifestInfo). x.1) es)) own rest,
    )

all_first : (es : Rows) → T (all_follow None es)
all_first [] = tt
all_first (e ∷ es) = all_first es

pub files_ascend : (files : List ManifestInfo) → Ascends file_key None (values (files_by_id files))
files_ascend files = let es = entries (files_by_id files) in values_ascend None es (keys_are files) (all_first es) (entries_sorted (files_by_id files))

-- ---- which ids they have

abbrev pub lists_id : List ManifestInfo → Id12 → Bool
lists_id files id = list_any (λ (file : ManifestInfo). same_id12 file.id id) files

abbrev has_key : Rows → Id12 → Bool
has_key es id = list_any (λ (e : Id12 × ManifestInfo). same_id12 e.0 id) es

or_twice : (a b : Bool) → (a || b) ≡ (a || (a || b))
or_twice true b = refl
or_twice false b = refl

or_over : (a b c : Bool) → (a || (b || c)) ≡ (b || (a || c))
or_over true true c = refl
or_over true false c = refl
or_over false b c = refl

put_key : (k : Id12) (v : ManifestInfo) (es : Rows) (id : Id12) → has_key (put id12_cmp k v es) id ≡ (same_id12 k id || has_key es id)
put_key k v [] id = refl
put_key k v (e ∷ es) id = elim (id12_cmp k e.0) as (λ o. id12_cmp k e.0 ≡ o → has_key (by_order o ((k, v) ∷ e ∷ es) ((e.0, v) ∷ es) (e ∷ put id12_cmp k v es)) id ≡ (same_id12 k id || (same_id12 e.0 id || has_key es id))) [
  | Less ↦ λ is. refl
  | Equal ↦ λ is. or_twice (same_id12 e.0 id) (has_key es id) ∙ ap (λ x. same_id12 x id || (same_id12 e.0 id || has_key es id)) (sym (exact e.0 k is))
  | Greater ↦ λ is. ap (λ b. same_id12 e.0 id || b) (put_key k v es id) ∙ or_over (same_id12 e.0 id) (same_id12 k id) (has_key es id)
] refl

has_file : (files : List ManifestInfo) (id : Id12) → has_key (entries (files_by_id files)) id ≡ lists_id files id
has_file [] id = ap (λ (es : Rows). has_key es id) nothing_entered
has_file (file ∷ files) id =
    ap (λ (es : Rows). has_key es id) (entries_more file files)
    ∙ put_key file.id file (entries (files_by_id files)) id
    ∙ ap (λ b. same_id12 file.id id || b) (has_file files id)

values_have : (es : Rows) (id : Id12) → AreKeys es → lists_id (map (λ (e : Id12 × ManifestInfo). e.1) es) id ≡ has_key es id
values_have [] id keys = refl
values_have (e ∷ es) id keys = λ i. same_id12 (sym keys.0 i) id || values_have es id keys.1 i

-- those of all the files
pub same_listed : (files : List ManifestInfo) (id : Id12) → lists_id (values (files_by_id files)) id ≡ lists_id files id
same_listed files id = values_have (entries (files_by_id files)) id (keys_are files) ∙ has_file files id

-- ---- new ones and those of the base

both_listed : (xs ys : List ManifestInfo) (id : Id12) → lists_id (xs ++ ys) id ≡ (lists_id xs id || lists_id ys id)
both_listed [] ys id = refl
both_listed (x ∷ xs) ys id = ap (λ b. same_id12 x.id id || b) (both_listed xs ys id) ∙ sym (or_assoc (same_id12 x.id id) (lists_id xs id) (lists_id ys id))

pub or_right : (a b : Bool) → b ≡ true → (a || b) ≡ true
or_right true b h = refl
or_right false b h = h

pub or_left : (a b : Bool) → a ≡ true → (a || b) ≡ true
or_left a b h = ap (λ x. x || b) h

pub with_listed : (files : List ManifestInfo) (news : List NewList) (id : Id12) → lists_id (files_with files news) id ≡ (lists_id (infos_of news) id || lists_id files id)
with_listed files news id = same_listed (infos_of news ++ files) id ∙ both_listed (infos_of news) files id

-- the file of a new list that is found
more_infos : (new : NewList) (news : List NewList) (id : Id12) → lists_id (infos_of news) id ≡ true → lists_id (infos_of (new ∷ news)) id ≡ true
more_infos new news id h = elim new.manifest as (λ o. lists_id (cons_option (option_map info_of o) (infos_of news)) id ≡ true) [
  | None ↦ h
  | Some m ↦ or_right (same_id12 m.id id) (lists_id (infos_of news) id) h
]

first_info : (new : NewList) (news : List NewList) (m : NewManifest) → new.manifest ≡ Some m → lists_id (infos_of (new ∷ news)) m.id ≡ true
first_info new news m e =
    ap (λ o. lists_id (cons_option (option_map info_of o) (infos_of news)) m.id) e
    ∙ or_left (same_id12 m.id m.id) (lists_id (infos_of news) m.id) (same_id12-self m.id)

pub found_info : (test : NewList → Bool) (news : List NewList) (list : NewList) (m : NewManifest) → find test news ≡ Some list → list.manifest ≡ Some m → lists_id (infos_of news) m.id ≡ true
found_info test [] list m f e = cc
found_info test (new ∷ news) list m f e = by_test (test new) (found_info test news list m) f
  where
    by_test : (b : Bool) → (find test news ≡ Some list → list.manifest ≡ Some m → lists_id (infos_of news) m.id ≡ true) → cond b (Some new) (find test news) ≡ Some list → lists_id (infos_of (new ∷ news)) m.id ≡ true
    by_test true rest k = let same : new ≡ list = cc in first_info new news m (ap (λ (l : NewList). l.manifest) same ∙ e)
    by_test false rest k = more_infos new news m.id (rest k e)

-- new manifests that are sized can be listed
infos_each : (news : List NewList) → AreSized news → AllByRecursion IsInfo (infos_of news)
infos_each [] sized = tt
infos_each (new ∷ news) sized = by_manifest new.manifest sized.0 (infos_each news sized.1)
  where
    by_manifest : (o : Option NewManifest) → IfSome o IsSized → AllByRecursion IsInfo (infos_of news) → AllByRecursion IsInfo (cons_option (option_map info_of o) (infos_of news))
    by_manifest None is rest = rest
    by_manifest (Some m) is rest = (record { id = is.id; size = is.size; refs = is.refs }, rest)

append_each : (xs ys : List ManifestInfo) → AllByRecursion IsInfo xs → AllByRecursion IsInfo ys → AllByRecursion IsInfo (xs ++ ys)
append_each [] ys a b = b
append_each (x ∷ xs) ys a b = (a.0, append_each xs ys a.1 b)

pub infos_with : (files : List ManifestInfo) (news : List NewList) → AllByRecursion IsInfo files → AreSized news → AllByRecursion IsInfo (files_with files news)
infos_with files news old sized = all_values IsInfo (infos_of news ++ files) (append_each (infos_of news) files (infos_each news sized) old)
