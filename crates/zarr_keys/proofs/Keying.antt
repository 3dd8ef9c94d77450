-- What calls at keys come to, by what the key names.
use Rattle.std.proofs.Common.{◌≡◌, inl, ℕ, List, refl, sym, ap, subst}
use Rattle.std.specs.Prelude.{Option, None, Some, Result, Err}
use Rattle.zarr_path.specs.declared.keys.ZarrKey.{ZarrKey}
use Rattle.zarr_path.specs.Keys.{key_of}
use Rattle.store_api.specs.declared.machines.Refusal.{Refusal}
use Rattle.store_api.specs.declared.machines.Refusal.TheVariants as R
use Rattle.store_api.specs.Running.{Program}
use Rattle.session.specs.declared.setting.Setting.{Setting}
use Rattle.session.specs.Sessions.{SessionState}
use Rattle.session.specs.Editing.{Leaves}
use Rattle.session.specs.Setting.{SetBegun, SetRefused}
use Rattle.zarr_keys.specs.declared.values.KeyValue.{KeyValue}
use Rattle.zarr_keys.specs.declared.getting.KeyGetting.{KeyGetting}
use Rattle.zarr_keys.specs.Keys.{get_at, key_get_program, set_at, key_set_program, erased_at, key_erased}
use Rattle.zarr_keys.specs.Calls.{Gets, GetRefused}
use Rattle.zarr_keys.specs.inside.Working.{Names}

module _ (s : SessionState) (key : List ℕ) where
  pub get_named : (o : Option ZarrKey) → key_of key ≡ o → key_get_program s key ≡ get_at s o
  unfolding key_get_program
  get_named o e = ap (get_at s) e

  pub gets_at : (found : ZarrKey) (result : Result KeyGetting (SessionState × Refusal)) → key_of key ≡ Some found → Gets (get_at s (Some found)) s result → Gets (key_get_program s key) s result
  gets_at found result e g = subst (λ (p : Program KeyValue). Gets p s result) (sym (get_named (Some found) e)) g

  pub get_refused : (why : Refusal) → Names (key_of key) (Err why) → GetRefused (key_get_program s key) s s why
  get_refused R.BadKey e = (get_named None e, refl)
  get_refused R.NoMemory e = refl
  get_refused _ e = absurd e

  pub set_named : (bytes : List ℕ) (o : Option ZarrKey) → key_of key ≡ o → key_set_program s key bytes ≡ set_at s bytes o
  unfolding key_set_program
  set_named bytes o e = ap (set_at s bytes) e

  pub sets_at : (bytes : List ℕ) (found : ZarrKey) (result : Result Setting (SessionState × Refusal)) → key_of key ≡ Some found → SetBegun (set_at s bytes (Some found)) s result → SetBegun (key_set_program s key bytes) s result
  sets_at bytes found result e g = subst (λ (p : Program SessionState). SetBegun p s result) (sym (set_named bytes (Some found) e)) g

  pub set_refused : (bytes : List ℕ) (why : Refusal) → Names (key_of key) (Err why) → SetRefused (key_set_program s key bytes) s s why
  set_refused bytes R.BadKey e = (set_named bytes None e, refl)
  set_refused bytes R.NoMemory e = inl refl
  set_refused bytes _ e = absurd e

  erase_named : (o : Option ZarrKey) → key_of key ≡ o → key_erased s key ≡ erased_at s o
  unfolding key_erased
  erase_named o e = ap (erased_at s) e

  pub erases_at : (found : ZarrKey) (result : Result (Unit {0}) Refusal) (new : SessionState) → key_of key ≡ Some found → Leaves (erased_at s (Some found)) s result new → Leaves (key_erased s key) s result new
  erases_at found result new e l = subst (λ (r : Result SessionState Refusal). Leaves r s result new) (sym (erase_named (Some found) e)) l

  pub erase_refused : (why : Refusal) → Names (key_of key) (Err why) → Leaves (key_erased s key) s (Err why) s
  erase_refused R.BadKey e = (erase_named None e, refl)
  erase_refused R.NoMemory e = refl
  erase_refused _ e = absurd e
