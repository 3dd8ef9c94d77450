-- What replies lead to.
use Rattle.std.proofs.Common.{◌≡◌, ◌∙◌, ℕ, Bool, true, List, drop, refl, subst}
use Rattle.std.specs.Prelude.{Result, Ok, Err}
use Rattle.ice_ids.specs.declared.Id12.{Id12}
use Rattle.manifest_file.specs.declared.manifest.ManifestFile.{ManifestFile}
use Rattle.object_store.specs.declared.keys.Key.TheVariants.{Manifest, Chunk as Chunk_key}
use Rattle.object_store.specs.declared.events.Op.TheVariants.{Get}
use Rattle.object_store.specs.declared.events.Reply.{Reply}
use Rattle.object_store.specs.declared.events.Reply.TheVariants as reply
use Rattle.store_api.specs.declared.machines.Next.{Next}
use Rattle.store_api.specs.declared.machines.Refusal.{Refusal}
use Rattle.store_api.specs.declared.machines.Refusal.TheVariants.{StoreFault}
use Rattle.store_api.specs.Program.{Ask, Lands, IsSure}
use Rattle.store_api.specs.Running.{Program}
use Rattle.store_api.specs.Driving.{Heard, Took, Excuses, has_failed}
use Rattle.repo_read.specs.Answers.{manifest_told, object_told}
use Rattle.session.specs.inside.Working.{IsCalm, LandsCalmly}
use Rattle.array_region.specs.declared.getting.RegionGet.{RegionGet}
use Rattle.array_region.specs.Reading.{Chunk}
use Rattle.array_region.specs.Getting.{reads_of, chunks_of, box_after}

calm_excuses : {T : Type 0} (r : Reply) (result : Result (Next T) Refusal) → IsCalm result → Excuses r result
calm_excuses r (Ok next) c = tt
calm_excuses r (Err why) c = λ h. c

-- a reply that told something was of no failed operation
pub heard_read : {A : Type 0} (told : Reply → Result A Refusal) → ((done : Bool) → told (reply.Failed done) ≡ Err StoreFault) → (P S : Result A Refusal → Type 0) (a : A) (r : Reply) → Ok a ≡ told r → P (Ok a) → Heard (λ x. P (told x) × (has_failed x ≡ true → S (told x))) r
heard_read told fails P S a (reply.Failed done) e p = let no = e ∙ fails done in absurd (cc)
heard_read told fails P S a (reply.Got got) e p = (subst P e p, λ t. absurd (cc))
heard_read told fails P S a (reply.New new) e p = (subst P e p, λ t. absurd (cc))
heard_read told fails P S a (reply.Over over) e p = (subst P e p, λ t. absurd (cc))
heard_read told fails P S a (reply.Gone gone) e p = (subst P e p, λ t. absurd (cc))
heard_read told fails P S a (reply.GoneAt gone) e p = (subst P e p, λ t. absurd (cc))
heard_read told fails P S a (reply.Listed listed) e p = (subst P e p, λ t. absurd (cc))

module _ {T : Type 0} (q : Program T) (result : Result (Next T) Refusal) (r : Reply) where
  pub took_manifest : (id : Id12) (f : Result ManifestFile Refusal → Program T) (held : ManifestFile) → Ok held ≡ manifest_told id r → LandsCalmly (f (Ok held)) q result → Took (Ask (Get (Manifest id)) (λ x. f (manifest_told id x))) r q result
  took_manifest id f held e l =
      (heard_read (manifest_told id) (λ done. refl) (λ x. Lands (f x) q result) (λ x. IsSure (f x) result) held r e l.0, calm_excuses r result l.1)

  pub took_object : (want : ℕ) (id : Id12) (offset size : ℕ) (f : Result (List ℕ) Refusal → Program T) (bytes : List ℕ) → Ok bytes ≡ object_told want id offset size r → LandsCalmly (f (Ok bytes)) q result
      → Took (Ask (Get (Chunk_key id)) (λ x. f (object_told want id offset size x))) r q result
  took_object want id offset size f bytes e l =
      (heard_read (object_told want id offset size) (λ done. refl) (λ x. Lands (f x) q result) (λ x. IsSure (f x) result) bytes r e l.0, calm_excuses r result l.1)

-- a machine that is as before, but for what it keeps and where it stands
pub as_before : (old new : RegionGet) → new.session ≡ old.session → new.plan ≡ old.plan → new.numbers ≡ old.numbers → new.at ≡ old.at → (p : Program Chunk) (index : List ℕ)
    → box_after p new.session (reads_of new.plan) new.numbers.items index (drop new.at (chunks_of (reads_of new.plan))) ≡ box_after p old.session (reads_of old.plan) old.numbers.items index (drop old.at (chunks_of (reads_of old.plan)))
as_before old new e f g h p index = λ i. box_after p (e i) (reads_of (f i)) (g i).items index (drop (h i) (chunks_of (reads_of (f i))))
