-- The tests of paths against the grammar's own words.
use Rattle.std.proofs.Common.{◌≡◌, ◌≢◌, ℕ, ◌+◌, Bool, true, false, cond, not, ◌&&◌, eqb, ltb, List, [], ◌∷◌, ◌++◌, length, drop, Option, Some, None, is_none, option_map, Result, Ok, Err, refl, sym, ap, subst, ◌∙◌, arith, inl, inr, length-append, add-zero}
use Rattle.std.specs.Prelude.{nat_eq, codes}
use Rattle.std.specs.Bool.{Decides}
use Rattle.std.specs.List.{All, starts_with, list_all}
use Rattle.std.proofs.lemmas.Bool.{and_parts, and_from, ltb-true, ltb-false, lt-ltb, le-ltb, eqb-false, ne_eqb, not-true, false_from_ne_true, false≢true}
use Rattle.std.proofs.lemmas.Bool.Decides.{Decides-by_and, Decides-eqb}
use Rattle.std.proofs.lemmas.List.Elements.{All-weaker}
use Rattle.std.proofs.lemmas.Slice.Eq.{starts_is}
use Rattle.zarr_path.specs.declared.paths.PathFault.{PathFault}
use Rattle.zarr_path.specs.declared.paths.PathFault.TheVariants as f
use Rattle.zarr_path.specs.Paths.{most_bytes, root, is_name, parts_of, names_of, first_bad, joined, path_fault, ReadsPath}
use Rattle.zarr_path.specs.Grammar.{IsPart, IsName, AllNames, text_of, IsSpelled, IsFirstBad, IsFault, GrammarLaw, ReadsSpelled}
use Rattle.zarr_path.proofs.PartLaws.{NoSlash, parts_first}
use Rattle.zarr_path.proofs.JoinLaws.{joined-parts, AllNoSlash, parts-joined, parts-no_slash, parts-head}
use Rattle.zarr_path.proofs.SpellLaws.{Spelling, path_parts, path_made, rooted, names_of-root, names_of-cons}
use Rattle.zarr_path.proofs.FaultLaws.{no_first}

-- ---- names
no_slash_part : (part : List ℕ) → NoSlash part → IsPart part
no_slash_part part h = All-weaker (λ b. eqb b 47 ≡ false) (λ b. b ≢ 47) (λ b e. eqb-false b 47 e) part h

part_no_slash : (part : List ℕ) → IsPart part → NoSlash part
part_no_slash part h = All-weaker (λ b. b ≢ 47) (λ b. eqb b 47 ≡ false) (λ b e. ne_eqb b 47 e) part h

periods : (name : List ℕ) → Decides (list_all (λ b. eqb b 46) name) (All (λ b. b ≡ 46) name)
periods = Decides-by_and (λ b. eqb b 46) (λ b. b ≡ 46) (list_all (λ b. eqb b 46)) (λ b. Decides-eqb b 46) refl (λ _ _. refl)

pub name_words : (name : List ℕ) → is_name name ≡ true → NoSlash name → IsName name
unfolding is_name
name_words name h alone =
    let outer = and_parts (not (eqb (length name) 0) && not (list_all (λ b. eqb b 46) name)) (not (starts_with nat_eq name (codes "__"))) h in
    let first = and_parts (not (eqb (length name) 0)) (not (list_all (λ b. eqb b 46) name)) outer.0 in
    record {
      not_empty = λ e. eqb-false (length name) 0 (not-true (eqb (length name) 0) first.0) (ap length e);
      no_slash = no_slash_part name alone;
      not_periods = λ all. false≢true (sym (not-true (list_all (λ b. eqb b 46) name) first.1) ∙ (periods name).1 all);
      not_reserved = λ rest e. false≢true (sym (not-true (starts_with nat_eq name (codes "__")) outer.1) ∙ (starts_is Decides-eqb name (codes "__") (starts_with nat_eq name (codes "__")) refl).1 rest e);
    }

pub name_test : (name : List ℕ) → IsName name → is_name name ≡ true
unfolding is_name
name_test name h =
    let some : eqb (length name) 0 ≡ false = ne_eqb (length name) 0 (λ e. h.not_empty (nil name e)) in
    let other : list_all (λ b. eqb b 46) name ≡ false = false_from_ne_true (list_all (λ b. eqb b 46) name) (λ e. h.not_periods ((periods name).0 e)) in
    let free : starts_with nat_eq name (codes "__") ≡ false = false_from_ne_true (starts_with nat_eq name (codes "__")) (λ e. h.not_reserved (drop 2 name) ((starts_is Decides-eqb name (codes "__") (starts_with nat_eq name (codes "__")) refl).0 e)) in
    rw (some, other, free) refl
  where
    nil : (xs : List ℕ) → length xs ≡ 0 → xs ≡ []
    nil [] e = refl
    nil (x ∷ xs) e = absurd (omega arith)

names_words : (names : List (List ℕ)) → list_all is_name names ≡ true → AllNoSlash names → AllNames names
names_words [] h alone = tt
names_words (name ∷ names) h alone = let both = and_parts (is_name name) (list_all is_name names) h in (name_words name both.0 alone.0, names_words names both.1 alone.1)

names_test : (names : List (List ℕ)) → AllNames names → list_all is_name names ≡ true
names_test [] h = refl
names_test (name ∷ names) h = and_from (is_name name) (list_all is_name names) (name_test name h.0) (names_test names h.1)

names_alone : (names : List (List ℕ)) → AllNames names → AllNoSlash names
names_alone [] h = tt
names_alone (name ∷ names) h = (part_no_slash name h.0.no_slash, names_alone names h.1)

-- ---- paths
spelled_from : (text : List ℕ) → Spelling text → IsSpelled text
spelled_from text s = by_case s.rest s.slash
  where
    inner : (b : ℕ) (bs : List ℕ) → text ≡ 47 ∷ b ∷ bs → (names : List (List ℕ)) → parts_of (b ∷ bs) ≡ names → IsSpelled text
    inner b bs e [] g = let bad : 47 ∷ b ∷ bs ≡ [] = sym (joined-parts (b ∷ bs)) ∙ ap joined g in cc
    inner b bs e (name ∷ names) g = record {
      short = s.short;
      names = name ∷ names;
      named = subst AllNames g (names_words (parts_of (b ∷ bs)) (ap (list_all is_name) (sym (names_of-cons b bs)) ∙ ap (λ x. list_all is_name (names_of x)) (sym e) ∙ s.named) (parts-no_slash (b ∷ bs)));
      whole = e ∙ sym (joined-parts (b ∷ bs)) ∙ ap joined g;
    }

    by_case : (rest : List ℕ) → text ≡ 47 ∷ rest → IsSpelled text
    by_case [] e = record { short = s.short; names = []; named = tt; whole = e }
    by_case (b ∷ bs) e = inner b bs e (parts_of (b ∷ bs)) refl

spelling_from : (text : List ℕ) → IsSpelled text → Spelling text
spelling_from text h = by_case h.names h.named h.whole
  where
    named : (name : List ℕ) (names : List (List ℕ)) → AllNames (name ∷ names) → list_all is_name (names_of (joined (name ∷ names))) ≡ true
    named [] names all = absurd (all.0.not_empty refl)
    named (x ∷ xs) names all =
        ap (list_all is_name) (names_of-cons x (xs ++ joined names) ∙ parts-joined (x ∷ xs) names (part_no_slash (x ∷ xs) all.0.no_slash) (names_alone names all.1))
        ∙ names_test ((x ∷ xs) ∷ names) all

    by_case : (names : List (List ℕ)) → AllNames names → text ≡ text_of names → Spelling text
    by_case [] all e = record { short = h.short; rest = []; slash = e; named = ap (λ x. list_all is_name (names_of x)) e ∙ ap (list_all is_name) names_of-root }
    by_case (name ∷ names) all e = record { short = h.short; rest = name ++ joined names; slash = e; named = ap (λ x. list_all is_name (names_of x)) e ∙ named name names all }

-- ---- the first bad name
record Found (names : List (List ℕ)) (from at : ℕ) : Type 0 where
  before : List (List ℕ)
  part : List ℕ
  parts : List (List ℕ)
  whole : names ≡ before ++ part ∷ parts
  good : AllNames before
  alone : IsPart part
  bad : is_name part ≡ false
  place : at ≡ from + length (joined before)

found : (names : List (List ℕ)) (from at : ℕ) → first_bad from names ≡ Some at → AllNoSlash names → Found names from at
found [] from at h alone = cc
found (name ∷ names) from at h alone = by_test (is_name name) refl (λ g. found names (from + length name + 1) at g alone.1) h
  where
    by_test : (t : Bool) → is_name name ≡ t → (first_bad (from + length name + 1) names ≡ Some at → Found names (from + length name + 1) at)
        → cond t (first_bad (from + length name + 1) names) (Some from) ≡ Some at → Found (name ∷ names) from at
    by_test true e r g =
        let more = r g in
        record {
          before = name ∷ more.before;
          part = more.part;
          parts = more.parts;
          whole = ap (λ xs. name ∷ xs) more.whole;
          good = (name_words name e alone.0, more.good);
          alone = more.alone;
          bad = more.bad;
          place = omega (arith, more.place, length-append name (joined more.before));
        }
    by_test false e r g =
        let same : from ≡ at = cc (g) in
        record { before = []; part = name; parts = names; whole = refl; good = tt; alone = no_slash_part name alone.0; bad = e; place = omega (arith, same) }

-- the text behind the first slash
behind : List (List ℕ) → List ℕ → List (List ℕ) → List ℕ
behind names part parts = drop 1 (joined (names ++ part ∷ parts))

begins : (names : List (List ℕ)) (part : List ℕ) (parts : List (List ℕ)) → joined (names ++ part ∷ parts) ≡ 47 ∷ behind names part parts
unfolding behind
begins [] part parts = refl
begins (name ∷ names) part parts = refl

not_name : (part : List ℕ) → IsPart part → (IsName part → ⊥) → is_name part ≡ false
not_name part alone h = false_from_ne_true (is_name part) (λ e. h (name_words part e (part_no_slash part alone)))

first_found : (names : List (List ℕ)) (part : List ℕ) (parts : List (List ℕ)) (from : ℕ) → AllNames names → IsPart part → is_name part ≡ false
    → first_bad from (parts_of (behind names part parts)) ≡ Some (from + length (joined names))
unfolding behind
first_found [] part parts from all alone bad =
    let head = parts-head part parts (part_no_slash part alone) in
    ap (first_bad from) head.1 ∙ ap (λ t. cond t (first_bad (from + length part + 1) head.0) (Some from)) bad ∙ ap (λ n. Some n) (sym (add-zero from))
first_found (name ∷ names) part parts from all alone bad =
    let rest = behind names part parts in
    let cut : parts_of (name ++ joined (names ++ part ∷ parts)) ≡ name ∷ parts_of rest =
    ap (λ x. parts_of (name ++ x)) (begins names part parts) ∙ parts_first name rest (part_no_slash name all.0.no_slash) in
    ap (first_bad from) cut
    ∙ ap (λ t. cond t (first_bad (from + length name + 1) (parts_of rest)) (Some from)) (name_test name all.0)
    ∙ first_found names part parts (from + length name + 1) all.1 alone bad
    ∙ ap (λ n. Some n) (omega (arith, length-append name (joined names)))

first_bad-words : (text : List ℕ) (at : ℕ) (rest : List ℕ) → text ≡ 47 ∷ rest → first_bad 1 (names_of text) ≡ Some at → IsFirstBad text at
first_bad-words text at [] e h = let bad : None ≡ Some at = ap (λ x. first_bad 1 x) (sym names_of-root) ∙ ap (λ x. first_bad 1 (names_of x)) (sym e) ∙ h in cc
first_bad-words text at (b ∷ bs) e h =
    let r = found (parts_of (b ∷ bs)) 1 at (ap (first_bad 1) (sym (names_of-cons b bs)) ∙ ap (λ x. first_bad 1 (names_of x)) (sym e) ∙ h) (parts-no_slash (b ∷ bs)) in
    record {
      names = r.before;
      part = r.part;
      parts = r.parts;
      whole = e ∙ sym (joined-parts (b ∷ bs)) ∙ ap joined r.whole;
      before = r.good;
      bad = (r.alone, λ name. false≢true (sym r.bad ∙ name_test r.part name));
      place = omega (arith, r.place);
      not_root = λ is. absurd (omega (arith, ap length e, ap length is));
    }

first_bad-test : (text : List ℕ) (at : ℕ) → IsFirstBad text at → first_bad 1 (names_of text) ≡ Some at
first_bad-test text at w = by_case (behind w.names w.part w.parts) refl
  where
    by_case : (rest : List ℕ) → behind w.names w.part w.parts ≡ rest → first_bad 1 (names_of text) ≡ Some at
    by_case [] e = absurd (w.not_root (w.whole ∙ begins w.names w.part w.parts ∙ ap (λ x. 47 ∷ x) e))
    by_case (b ∷ bs) e =
        ap (λ x. first_bad 1 (names_of x)) (w.whole ∙ begins w.names w.part w.parts ∙ ap (λ x. 47 ∷ x) e)
        ∙ ap (first_bad 1) (names_of-cons b bs) ∙ ap (λ x. first_bad 1 (parts_of x)) (sym e)
        ∙ first_found w.names w.part w.parts 1 w.before w.bad.0 (not_name w.part w.bad.0 w.bad.1)
        ∙ ap (λ n. Some n) (omega (arith, w.place))

-- ---- faults
fault_words : (text : List ℕ) (fault : PathFault) → path_fault text ≡ Some fault → IsFault text fault
unfolding path_fault
fault_words text fault h = by_test (ltb most_bytes (length text)) refl (starts_with nat_eq text root) refl (first_bad 1 (names_of text)) refl h
  where
    by_test : (a : Bool) → ltb most_bytes (length text) ≡ a → (b : Bool) → starts_with nat_eq text root ≡ b → (o : Option ℕ) → first_bad 1 (names_of text) ≡ o
        → cond a (Some (f.Long (length text))) (cond (not b) (Some f.Relative) (option_map f.Name o)) ≡ Some fault → IsFault text fault
    by_test true e b d o g h = let same : f.Long (length text) ≡ fault = cc (h) in subst (IsFault text) same (ltb-true 1024 (length text) e, refl)
    by_test false e false d o g h =
        let same : f.Relative ≡ fault = cc (h) in
        subst (IsFault text) same (ltb-false 1024 (length text) e, λ rest is. false≢true (sym d ∙ ap (λ x. starts_with nat_eq x root) is))
    by_test false e true d None g h = cc
    by_test false e true d (Some at) g h =
        let same : f.Name at ≡ fault = cc (h) in
        let front = rooted text d in
        subst (IsFault text) same (ltb-false 1024 (length text) e, first_bad-words text at front.0 front.1 g)

fault_test : (text : List ℕ) (fault : PathFault) → IsFault text fault → path_fault text ≡ Some fault
unfolding path_fault
fault_test text (f.Long bytes) h =
    let long : ltb most_bytes (length text) ≡ true = lt-ltb 1024 (length text) h.0 in
    ap (λ t. cond t (Some (f.Long (length text))) (cond (not (starts_with nat_eq text root)) (Some f.Relative) (option_map f.Name (first_bad 1 (names_of text))))) long
    ∙ ap (λ n. Some (f.Long n)) (sym h.1)
fault_test text f.Relative h =
    let short : ltb most_bytes (length text) ≡ false = le-ltb 1024 (length text) h.0 in
    let other : starts_with nat_eq text root ≡ false = no_first text h.1 in
    rw (short, other) refl
fault_test text (f.Name at) h =
    let short : ltb most_bytes (length text) ≡ false = le-ltb 1024 (length text) h.0 in
    let first : starts_with nat_eq text root ≡ true = ap (λ x. starts_with nat_eq x root) (h.1.whole ∙ begins h.1.names h.1.part h.1.parts) in
    let bad : first_bad 1 (names_of text) ≡ Some at = first_bad-test text at h.1 in
    rw (short, first, bad) refl
fault_test text f.NoMemory h = absurd h

pub grammar : GrammarLaw
grammar text = (
  (λ h. spelled_from text (path_parts text h), λ h. path_made text (spelling_from text h)),
  λ fault. (fault_words text fault, fault_test text fault),
)

none_fault : (o : Option PathFault) → o ≡ None → is_none o ≡ true
none_fault o h = ap is_none h

pub reads_words : (text : List ℕ) (r : Result (List ℕ) PathFault) → ReadsPath text r → ReadsSpelled text r
reads_words text (Ok path) h = (h.0, spelled_from text (path_parts text (none_fault (path_fault text) h.1)))
reads_words text (Err fault) (inl e) = inl e
reads_words text (Err fault) (inr e) = inr (fault_words text fault e)

pub unforced : (text : List ℕ) → path_fault text ≢ Some f.NoMemory
unforced text e = fault_words text f.NoMemory e
