-- Metadata: what stays, and what fits.
use Rattle.std.proofs.Common.{◌≡◌, ◌∙◌, ◌⊎◌, inl, inr, ℕ, Bool, true, false, cond, not, ◌||◌, List, length, Option, Some, None, is_some, refl, sym, ap, subst}
use Rattle.std.specs.Prelude.{◌==◌}
use Rattle.std.proofs.lemmas.Bool.{eqb-true, eq-eqb}
use Rattle.std.proofs.lemmas.Slice.Eq.{bytes_eq-Decides}
use Rattle.zarr_path.proofs.OrderLaws.{same_path-true, same_path-refl}
use Rattle.zarr_meta.specs.declared.kinds.IntKind.{IntKind}
use Rattle.zarr_meta.specs.declared.views.ArrayView.{ArrayView}
use Rattle.zarr_meta.specs.declared.views.MetaView.{MetaView}
use Rattle.zarr_meta.specs.declared.views.MetaView.TheVariants as view
use Rattle.zarr_meta.specs.Grids.{chunk_bytes}
use Rattle.zarr_meta.specs.Kinds.{name_of, size_of, kind_named}
use Rattle.zarr_meta.specs.Meta.{view_in}
use Rattle.zarr_meta.proofs.PlainReads.{kind_read}
use Rattle.zarr_tree.specs.declared.edit.Frozen.{Frozen}
use Rattle.zarr_tree.specs.declared.edit.Frozen.TheVariants as frozen
use Rattle.zarr_tree.specs.Nodes.{is_metadata, is_group_view, is_group, array_of_view, is_array, same_numbers, same_kind, same_codecs, array_change, view_change, SameFrozen, Fits}

-- the text of a node's metadata
abbrev pub Text : Type 0
Text = List ℕ

-- ---- arrays whose parts that stay are the same
pub record SameArray (a b : ArrayView) : Type 0 where
  pub rank : length a.shape ≡ length b.shape
  pub kind : a.kind ≡ b.kind
  pub chunks : a.chunks ≡ b.chunks
  pub codecs : same_codecs a b ≡ true

tested : (b : Bool) (f : Frozen) (r : Option Frozen) → cond (not b) (Some f) r ≡ None → (b ≡ true) × (r ≡ None)
tested true f r h = (refl, h)
tested false f r h = cc

passes : (b : Bool) (f : Frozen) (r : Option Frozen) → b ≡ true → r ≡ None → cond (not b) (Some f) r ≡ None
passes true f r e h = h
passes false f r e h = cc

kinds_same : (k l : IntKind) → name_of k ≡ name_of l → k ≡ l
kinds_same k l e = some_same k l (sym (kind_read k) ∙ ap kind_named e ∙ kind_read l)
  where
    some_same : (x y : IntKind) → Some x ≡ Some y → x ≡ y
    some_same x y h = cc

same_array : (a b : ArrayView) → array_change a b ≡ None → SameArray a b
same_array a b h =
    let rank = tested (length a.shape == length b.shape) frozen.Rank _ h in
    let kind = tested (same_kind a b) frozen.DataType _ rank.1 in
    let chunks = tested (same_numbers a.chunks b.chunks) frozen.ChunkGrid _ kind.1 in
    let codecs = tested (same_codecs a b) frozen.Codecs None chunks.1 in
    record {
      rank = eqb-true _ _ rank.0;
      kind = kinds_same a.kind b.kind ((bytes_eq-Decides (name_of a.kind) (name_of b.kind)).0 kind.0);
      chunks = same_path-true a.chunks b.chunks chunks.0;
      codecs = codecs.0;
    }

array_same : (a b : ArrayView) → SameArray a b → array_change a b ≡ None
array_same a b s =
    passes (length a.shape == length b.shape) frozen.Rank _ (eq-eqb _ _ s.rank)
    (passes (same_kind a b) frozen.DataType _ ((bytes_eq-Decides (name_of a.kind) (name_of b.kind)).1 (ap name_of s.kind))
    (passes (same_numbers a.chunks b.chunks) frozen.ChunkGrid _ (ap (same_numbers a.chunks) (sym s.chunks) ∙ same_path-refl a.chunks)
    (passes (same_codecs a b) frozen.Codecs None s.codecs refl)))

-- the order of bytes, where an element has more than one
abbrev alike : Bool → Bool → Bool → Bool
alike one x y = one || cond x y (not y)

alike-refl : (one x : Bool) → alike one x x ≡ true
alike-refl true x = refl
alike-refl false true = refl
alike-refl false false = refl

alike-sym : (one x y : Bool) → alike one x y ≡ true → alike one y x ≡ true
alike-sym true x y h = refl
alike-sym false true true h = refl
alike-sym false true false h = cc
alike-sym false false true h = cc
alike-sym false false false h = refl

alike-trans : (one x y z : Bool) → alike one x y ≡ true → alike one y z ≡ true → alike one x z ≡ true
alike-trans true x y z h g = refl
alike-trans false true true z h g = g
alike-trans false true false z h g = cc
alike-trans false false true z h g = cc
alike-trans false false false z h g = g

array-refl : (a : ArrayView) → SameArray a a
array-refl a = record { rank = refl; kind = refl; chunks = refl; codecs = alike-refl (size_of a.kind == 1) a.big }

array-sym : (a b : ArrayView) → SameArray a b → SameArray b a
array-sym a b s = record {
  rank = sym s.rank;
  kind = sym s.kind;
  chunks = sym s.chunks;
  codecs = subst (λ k. alike (size_of k == 1) b.big a.big ≡ true) s.kind (alike-sym (size_of a.kind == 1) a.big b.big s.codecs);
}

array-trans : (a b c : ArrayView) → SameArray a b → SameArray b c → SameArray a c
array-trans a b c s r = record {
  rank = s.rank ∙ r.rank;
  kind = s.kind ∙ r.kind;
  chunks = s.chunks ∙ r.chunks;
  codecs = alike-trans (size_of a.kind == 1) a.big b.big c.big s.codecs (subst (λ k. alike (size_of k == 1) b.big c.big ≡ true) (sym s.kind) r.codecs);
}

-- ---- views
view-refl : (m : Option MetaView) → view_change m m ≡ None
view-refl None = refl
view-refl (Some view.Group) = refl
view-refl (Some (view.Array a)) = array_same a a (array-refl a)

view-sym : (m n : Option MetaView) → view_change m n ≡ None → view_change n m ≡ None
view-sym None None h = refl
view-sym None (Some view.Group) h = cc
view-sym None (Some (view.Array b)) h = cc
view-sym (Some view.Group) None h = cc
view-sym (Some view.Group) (Some view.Group) h = refl
view-sym (Some view.Group) (Some (view.Array b)) h = cc
view-sym (Some (view.Array a)) None h = cc
view-sym (Some (view.Array a)) (Some view.Group) h = cc
view-sym (Some (view.Array a)) (Some (view.Array b)) h = array_same b a (array-sym a b (same_array a b h))

view-trans : (l m n : Option MetaView) → view_change l m ≡ None → view_change m n ≡ None → view_change l n ≡ None
view-trans None None n h g = g
view-trans None (Some view.Group) n h g = cc
view-trans None (Some (view.Array b)) n h g = cc
view-trans (Some view.Group) None n h g = cc
view-trans (Some view.Group) (Some view.Group) n h g = g
view-trans (Some view.Group) (Some (view.Array b)) n h g = cc
view-trans (Some (view.Array a)) None n h g = cc
view-trans (Some (view.Array a)) (Some view.Group) n h g = cc
view-trans (Some (view.Array a)) (Some (view.Array b)) None h g = cc
view-trans (Some (view.Array a)) (Some (view.Array b)) (Some view.Group) h g = cc
view-trans (Some (view.Array a)) (Some (view.Array b)) (Some (view.Array c)) h g = array_same a c (array-trans a b c (same_array a b h) (same_array b c g))

-- what two views have in common
record Alike (m n : Option MetaView) : Type 0 where
  array : is_some (array_of_view m) ≡ is_some (array_of_view n)
  group : is_group_view m ≡ is_group_view n
  there : is_some m ≡ is_some n

view_alike : (m n : Option MetaView) → view_change m n ≡ None → Alike m n
view_alike None None h = record { array = refl; group = refl; there = refl }
view_alike None (Some view.Group) h = cc
view_alike None (Some (view.Array b)) h = cc
view_alike (Some view.Group) None h = cc
view_alike (Some view.Group) (Some view.Group) h = record { array = refl; group = refl; there = refl }
view_alike (Some view.Group) (Some (view.Array b)) h = cc
view_alike (Some (view.Array a)) None h = cc
view_alike (Some (view.Array a)) (Some view.Group) h = cc
view_alike (Some (view.Array a)) (Some (view.Array b)) h = record { array = refl; group = refl; there = refl }

record Later (a : ArrayView) (n : Option MetaView) : Type 0 where
  array : ArrayView
  found : array_of_view n ≡ Some array
  same : SameArray a array

later_array : (m n : Option MetaView) → view_change m n ≡ None → (a : ArrayView) → array_of_view m ≡ Some a → Later a n
later_array None n h a e = cc
later_array (Some view.Group) n h a e = cc
later_array (Some (view.Array x)) None h a e = cc
later_array (Some (view.Array x)) (Some view.Group) h a e = cc
later_array (Some (view.Array x)) (Some (view.Array y)) h a e = record { array = y; found = refl; same = subst (λ z. SameArray z y) (some_same x a e) (same_array x y h) }
  where
    some_same : (x y : ArrayView) → Some x ≡ Some y → x ≡ y
    some_same x y e = cc

-- ---- texts
pub frozen-refl : (m : Text) → SameFrozen m m
frozen-refl m = view-refl (view_in m)

pub frozen-sym : (m n : Text) → SameFrozen m n → SameFrozen n m
frozen-sym m n s = view-sym (view_in m) (view_in n) s

pub frozen-trans : (l m n : Text) → SameFrozen l m → SameFrozen m n → SameFrozen l n
frozen-trans l m n s r = view-trans (view_in l) (view_in m) (view_in n) s r

pub frozen-array : (m n : Text) → SameFrozen m n → is_array m ≡ is_array n
frozen-array m n s = (view_alike (view_in m) (view_in n) s).array

pub frozen-group : (m n : Text) → SameFrozen m n → is_group m ≡ is_group n
frozen-group m n s = (view_alike (view_in m) (view_in n) s).group

pub frozen-metadata : (m n : Text) → SameFrozen m n → is_metadata m ≡ is_metadata n
frozen-metadata m n s = (view_alike (view_in m) (view_in n) s).there

-- what fits the one fits the other
pub fits-frozen : (m n : Text) (i : List ℕ) (e : Option (List ℕ)) → SameFrozen m n → Fits m i e → Fits n i e
fits-frozen m n i e s f =
    let later : Later f.array (view_in n) = later_array (view_in m) (view_in n) s f.array f.found in
    record {
      array = later.array;
      found = later.found;
      rank = f.rank ∙ later.same.rank;
      low = f.low;
      whole = λ b is. f.whole b is ∙ (λ j. chunk_bytes (size_of (later.same.kind j)) (later.same.chunks j));
    }

pub fits-array : (m : Text) (i : List ℕ) (e : Option (List ℕ)) → Fits m i e → is_array m ≡ true
fits-array m i e f = ap is_some f.found

-- metadata is a group's or an array's
pub group_or_array : (m : Text) → is_metadata m ≡ true → (is_array m ≡ true) ⊎ (is_group m ≡ true)
group_or_array m h = by_view (view_in m) h
  where
    by_view : (o : Option MetaView) → is_some o ≡ true → (is_some (array_of_view o) ≡ true) ⊎ (is_group_view o ≡ true)
    by_view None h = cc
    by_view (Some view.Group) h = inr refl
    by_view (Some (view.Array a)) h = inl refl

-- and not both
pub array_no_group : (m : Text) → is_array m ≡ true → is_group m ≡ true → ⊥
array_no_group m a g = by_view (view_in m) a g
  where
    by_view : (o : Option MetaView) → is_some (array_of_view o) ≡ true → is_group_view o ≡ true → ⊥
    by_view None a g = cc
    by_view (Some view.Group) a g = cc
    by_view (Some (view.Array x)) a g = cc
