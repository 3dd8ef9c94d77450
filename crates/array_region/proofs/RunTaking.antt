-- What replies lead to, where a box is written.
use Rattle.std.proofs.Common.{◌≡◌, ◌∙◌, ◌++◌, ℕ, Bool, true, false, List, [], ◌∷◌, length, refl, sym, ap, subst}
use Rattle.std.specs.Prelude.{Result, Ok, Err}
use Rattle.ice_ids.specs.declared.Id12.{Id12}
use Rattle.manifest_file.specs.declared.manifest.ManifestFile.{ManifestFile}
use Rattle.object_store.specs.declared.keys.Key.TheVariants.{Manifest, Chunk as Chunk_key}
use Rattle.object_store.specs.declared.events.Op.TheVariants.{Get}
use Rattle.object_store.specs.declared.events.New.TheVariants.{Done as New_done}
use Rattle.object_store.specs.declared.events.Reply.TheVariants.{New as Is_new}
use Rattle.object_store.specs.declared.events.Version.{Version}
use Rattle.object_store.specs.declared.events.Reply.{Reply}
use Rattle.store_api.specs.declared.machines.Next.{Next}
use Rattle.store_api.specs.declared.machines.Next.TheVariants as next
use Rattle.store_api.specs.declared.machines.Refusal.{Refusal}
use Rattle.store_api.specs.Program.{Done, Ask}
use Rattle.store_api.specs.Running.{Program}
use Rattle.store_api.specs.Driving.{Heard, Excuses}
use Rattle.repo_read.specs.Answers.{manifest_told, object_told}
use Rattle.object_store.specs.declared.events.Reply.TheVariants as replies
use Rattle.session.specs.Sessions.{SessionState}
use Rattle.session.specs.Chunks.{with_chunk}
use Rattle.array_region.specs.Writing.{write_chunks}
use Rattle.array_region.specs.declared.runs.Run.{Run}
use Rattle.manifest_file.specs.declared.manifest.Place.TheVariants.{Object}
use Rattle.zarr_changes.specs.declared.placing.Placed.{Placed}
use Rattle.session.specs.Placing.{with_places}
use Rattle.session.proofs.Places.{places-more}
use Rattle.store_api.specs.Program.{IsSure, Lands, is_told_surely}
use Rattle.store_api.specs.Driving.{Took, has_failed}
use Rattle.array_region.specs.declared.setting.Writing.{Writing}
use Rattle.array_region.specs.Filling.{writing_rest, state_after, answer_after}
use Rattle.array_region.specs.Getting.{kept_of}
use Rattle.array_region.specs.Setting.{set_after, object_put, run_old, run_entered, run_reads, run_met, RunLands, RunLandsBy, IsRunSure, RunTook}
use Rattle.array_region.proofs.Taking.{heard_read}
use Rattle.store_api.proofs.Programs.{told-failed}

pub lands_by : (p : Program SessionState) (run : Run) (result : Result (Next (Unit {0})) Refusal) → RunLands p run result → RunLandsBy p run result
lands_by p run (Ok next.Again) l = l
lands_by p run (Ok (next.Ready done)) l = l
lands_by p run (Err why) l = l.is

pub lands_excuses : (p : Program SessionState) (run : Run) (r : Reply) (result : Result (Next (Unit {0})) Refusal) → RunLands p run result → Excuses r result
lands_excuses p run r (Ok next) l = tt
lands_excuses p run r (Err why) l = λ h. l.calm

module _ (run : Run) (result : Result (Next (Unit {0})) Refusal) (r : Reply) where
  pub run_manifest : (id : Id12) (f : Result ManifestFile Refusal → Program SessionState) (held : ManifestFile) → Ok held ≡ manifest_told id r → RunLands (f (Ok held)) run result → RunTook (Ask (Get (Manifest id)) (λ x. f (manifest_told id x))) r run result
  run_manifest id f held e l =
      (heard_read (manifest_told id) (λ done. refl) (λ x. RunLandsBy (f x) run result) (λ x. IsRunSure (f x) result) held r e (lands_by (f (Ok held)) run result l), lands_excuses (f (Ok held)) run r result l, refl)

  pub run_object : (want : ℕ) (id : Id12) (offset size : ℕ) (f : Result (List ℕ) Refusal → Program SessionState) (bytes : List ℕ) → Ok bytes ≡ object_told want id offset size r → RunLands (f (Ok bytes)) run result
      → RunTook (Ask (Get (Chunk_key id)) (λ x. f (object_told want id offset size x))) r run result
  run_object want id offset size f bytes e l =
      (heard_read (object_told want id offset size) (λ done. refl) (λ x. RunLandsBy (f x) run result) (λ x. IsRunSure (f x) result) bytes r e (lands_by (f (Ok bytes)) run result l), lands_excuses (f (Ok bytes)) run r result l, refl)

-- an object was put, and the chunk is one of those so far
module _ (m new : Run) (result : Result (Next (Unit {0})) Refusal) (index bytes : List ℕ) (id : Id12) (placed : List Placed) (is : placed ≡ m.placed.items ++ (record { index = index; place = Object id 0 (length bytes) }) ∷ []) where
  abbrev put : Program SessionState
  put = set_after (object_put (run_entered m) (run_reads m).path index bytes id) (run_old m) (run_reads m) m.given.numbers.items (kept_of m.kept) (run_met m)

  pub run_put : (reply : Reply) (version : Version) (now : ℕ) → reply ≡ Is_new (New_done version now)
      → RunLands (write_chunks (run_old m) (with_places m.session (run_reads m).path placed) (run_reads m) m.given.numbers.items (kept_of m.kept) (run_met m)) new result → RunTook put reply new result
  run_put reply version now e l =
      let same : with_places m.session (run_reads m).path placed ≡ with_chunk (run_entered m) (run_reads m).path index (Object id 0 (length bytes)) =
      ap (with_places m.session (run_reads m).path) is ∙ places-more (run_reads m).path m.placed.items m.session (record { index = index; place = Object id 0 (length bytes) }) in
      let k = subst (λ (t : SessionState). RunLands (write_chunks (run_old m) t (run_reads m) m.given.numbers.items (kept_of m.kept) (run_met m)) new result) same l in
      subst (λ (x : Reply). RunTook put x new result) (sym e) ((lands_by _ new result k, λ t. absurd (cc)), lands_excuses _ new (Is_new (New_done version now)) result k, refl)

-- ---- the machine around a run
wrap_lands : (q : Program SessionState) (run : Run) (answered : Result (Next (Unit {0})) Refusal) (surely failed : Bool) → surely ≡ failed → RunLandsBy q run answered × (failed ≡ true → IsRunSure q answered)
    → Lands q (writing_rest (state_after run answered)) (answer_after run answered) × (surely ≡ true → IsSure q (answer_after run answered))
wrap_lands q run (Ok next.Again) surely failed f l = (l.0, λ t. tt)
wrap_lands q run (Ok (next.Ready done)) surely failed f l = ((l.0, tt), λ t. tt)
wrap_lands q run (Err why) surely failed f l = ((tt, l.0), λ t. l.1 (sym f ∙ t))

wrap_excuses : (reply : Reply) (run : Run) (answered : Result (Next (Unit {0})) Refusal) → Excuses reply answered → Excuses reply (answer_after run answered)
wrap_excuses reply run (Ok next.Again) x = tt
wrap_excuses reply run (Ok (next.Ready done)) x = tt
wrap_excuses reply run (Err why) x = x

heard_map : {P Q : Reply → Type 0} → ((r : Reply) → P r → Q r) → (reply : Reply) → Heard P reply → Heard Q reply
heard_map f (replies.Failed done) h = λ d. f (replies.Failed d) (h d)
heard_map f (replies.Got got) h = f (replies.Got got) h
heard_map f (replies.New new) h = f (replies.New new) h
heard_map f (replies.Over over) h = f (replies.Over over) h
heard_map f (replies.Gone gone) h = f (replies.Gone gone) h
heard_map f (replies.GoneAt gone) h = f (replies.GoneAt gone) h
heard_map f (replies.Listed listed) h = f (replies.Listed listed) h

wrap_took : (p : Program SessionState) (reply : Reply) (run : Run) (answered : Result (Next (Unit {0})) Refusal) → RunTook p reply run answered → Took p reply (writing_rest (state_after run answered)) (answer_after run answered)
wrap_took (Done a) reply run answered t = absurd t
wrap_took (Ask op k) reply run answered t =
    (heard_map (λ r l. wrap_lands (k r) run answered (is_told_surely op r) (has_failed r) (told-failed op r t.2) l) reply t.0, wrap_excuses reply run answered t.1)

pub answered_took : (p : Program SessionState) (reply : Reply) (run : Run) (answered : Result (Next (Unit {0})) Refusal) (state : Writing) (result : Result (Next SessionState) Refusal)
    → RunTook p reply run answered → state ≡ state_after run answered → result ≡ answer_after run answered → Took p reply (writing_rest state) result
answered_took p reply run answered state result t e f =
    subst (λ (x : Writing). Took p reply (writing_rest x) result) (sym e) (subst (λ (y : Result (Next SessionState) Refusal). Took p reply (writing_rest (state_after run answered)) y) (sym f) (wrap_took p reply run answered t))
