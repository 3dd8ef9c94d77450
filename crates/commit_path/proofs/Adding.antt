-- What a session knows, and that it can be written, stays so where a property is added.
use Rattle.std.proofs.Common.{◌≡◌, ℕ, Bool, true, false, cond, not, List, length, refl, sym, ap, subst, Option, Some, None, Ok}
use Rattle.std.specs.Prelude.{◌==◌}
use Rattle.std.specs.BTreeMap.{insert_entry}
use Rattle.std.specs.Str.{IsUtf8}
use Rattle.ice_ids.specs.declared.drawing.AnyIds.{AnyIds}
use Rattle.snapshot_file.specs.declared.properties.PropFault.{PropFault}
use Rattle.snapshot_file.specs.declared.properties.PropFault.TheVariants as P
use Rattle.snapshot_file.specs.Props.{AreProps, is_prop_name, is_prop_value, has_name, name_cmp, prop_limit, prop_fault}
use Rattle.snapshot_file.proofs.PropPlaces.{kept, proper}
use Rattle.object_store.specs.declared.events.Event.{Event}
use Rattle.session.specs.Sessions.{SessionState, writes}
use Rattle.session.specs.Editing.{if_writes, unless_unfit, with_prop, prop_added}
use Rattle.commit_path.specs.Own.{Owns}
use Rattle.commit_path.specs.Opened.{IsOpened}
use Rattle.commit_path.specs.Spelled.{IsSpelled}

-- a property was added, which had no fault
pub record PropAdded (s t : SessionState) (name value : List ℕ) : Type 0 where
  pub allowed : prop_fault s.props name value ≡ None
  pub is : t ≡ with_prop s name value

pub prop-added : (s t : SessionState) (name value : List ℕ) → prop_added s name value ≡ Ok t → PropAdded s t name value
unfolding prop_added
prop-added s t name value e = by_writes (writes s) (prop_fault s.props name value) refl e
  where
    by_writes : (w : Bool) (o : Option PropFault) → prop_fault s.props name value ≡ o → if_writes w (unless_unfit o (Ok (with_prop s name value))) ≡ Ok t → PropAdded s t name value
    by_writes true None is e = let same : with_prop s name value ≡ t = cc in record { allowed = is; is = sym same }
    by_writes true (Some fault) is e = absurd cc
    by_writes false o is e = absurd cc

-- what was asked of a property without a fault
asked : (a b c d : Bool) → ◌≡◌ {A = Option PropFault} (cond (not a) (Some P.Name) (cond (not b) (Some P.Value) (cond c (Some P.Twice) (cond d (Some P.Many) None)))) None → (a ≡ true) × ((b ≡ true) × (d ≡ false))
asked true true false false e = (refl, (refl, refl))
asked true true false true e = absurd cc
asked true true true d e = absurd cc
asked true false c d e = absurd cc
asked false b c d e = absurd cc

has_room : (props : List (List ℕ × List ℕ)) → (length props == prop_limit) ≡ false → length props ≡ prop_limit → ⊥
has_room props none e = let full : (length props == prop_limit) ≡ true = ap (λ (n : ℕ). n == prop_limit) e in cc

-- it keeps the rule of properties
fit : (props : List (List ℕ × List ℕ)) (name value : List ℕ) → prop_fault props name value ≡ None → AreProps props → IsUtf8 name → IsUtf8 value → AreProps (insert_entry name_cmp props name value)
unfolding prop_fault
fit props name value none are n v =
    let by = asked (is_prop_name name) (is_prop_value value) (has_name props name) (length props == prop_limit) none in
    kept props name value are (has_room props by.1.1) (record { proper = proper name value (is_prop_name name) (is_prop_value value) refl refl by.0 by.1.0; name = n; value = v })

pub prop-spelled : (s t : SessionState) (name value : List ℕ) → PropAdded s t name value → IsUtf8 name → IsUtf8 value → IsSpelled s → IsSpelled t
prop-spelled s t name value a n v w = subst IsSpelled (sym a.is) (record {
  base = w.base;
  of_snapshot = record { file = w.of_snapshot.file; proper = w.of_snapshot.proper; rows = w.of_snapshot.rows; files = w.of_snapshot.files };
  added = w.added;
  texts = w.texts;
  frozen = w.frozen;
  free = w.free;
  chunks = w.chunks;
  props = fit s.props name value a.allowed w.props n v;
  few = w.few;
})

pub prop-opened : (s t : SessionState) (name value : List ℕ) (journal : List Event) → PropAdded s t name value → IsOpened s journal → IsOpened t journal
prop-opened s t name value journal a o =
    subst (λ (x : SessionState). IsOpened x journal) (sym a.is) (record { named = o.named; put = o.put; had = o.had; rows = o.rows; objects = o.objects; chunks = o.chunks })

pub prop-owned : (ids : AnyIds) (client : ℕ) (s t : SessionState) (name value : List ℕ) (start journal : List Event) → PropAdded s t name value → Owns ids client s start journal → Owns ids client t start journal
prop-owned ids client s t name value start journal a o = subst (λ (x : SessionState). Owns ids client x start journal) (sym a.is) (record { chunks = o.chunks; drawn = o.drawn })
