-- A beginning is the making of a repository, and that one was there is fine.
use Rattle.std.proofs.Common.{◌≡◌, ◌⊎◌, inl, inr, List, [], ◌∷◌, ap}
use Rattle.std.specs.Prelude.{Result, Ok, Err, IfErr}
use Rattle.object_store.specs.declared.events.Event.{Event}
use Rattle.store_api.specs.declared.machines.Refusal.{Refusal}
use Rattle.store_api.specs.declared.machines.Refusal.TheVariants.{RefExists, StoreFault, NoMemory}
use Rattle.store_api.specs.Callers.{View}
use Rattle.store_api.specs.Program.{Prog, Done, Ask, IsAsk, bind, Path}
use Rattle.store_api.specs.Running.{Program, IsCutOff, Runs}
use Rattle.refs_admin.specs.NewRepository.{init_program, MayRefuseInit}
use Rattle.repository.specs.Beginning.{begun, begin_program, MayRefuseBegin}

path-bind : {A B : Type 0} (p q : Prog A) (f : A → Prog B) (own : List Event) → Path p own q → Path (bind p f) own (bind q f)
unfolding Path
path-bind p q f [] path = ap (λ (x : Prog _). bind x f) path
path-bind (Done a) q f (x ∷ xs) path = absurd path
path-bind (Ask op next) q f (x ∷ xs) path = (path.0, path-bind (next x.reply) q f xs path.1)

ask-bind : {A B : Type 0} (p : Prog A) (f : A → Prog B) → IsAsk p → IsAsk (bind p f)
ask-bind (Done a) f i = absurd i
ask-bind (Ask op next) f i = tt

-- what is refused still, was refused
still-refused : (made : Result (Unit {0}) Refusal) (why : Refusal) → begun made ≡ Err why → made ≡ Err why
still-refused (Ok done) why e = e
still-refused (Err (RefExists version)) why e = absurd cc
still-refused (Err refusal) why e = e

pub begun-listed : (made : Result (Unit {0}) Refusal) → IfErr made MayRefuseInit → IfErr (begun made) MayRefuseBegin
begun-listed (Ok done) l = tt
begun-listed (Err (RefExists version)) l = tt
begun-listed (Err StoreFault) l = tt
begun-listed (Err NoMemory) l = tt
begun-listed (Err refusal) l = absurd l

abbrev ending : Result (Unit {0}) Refusal → Program (Unit {0})
ending made = Done (begun made)

ends-begun : (own : List Event) (made : Result (Unit {0}) Refusal) → Path init_program own (Done made) ⊎ IsCutOff init_program own made → Path begin_program own (Done (begun made)) ⊎ IsCutOff begin_program own (begun made)
ends-begun own made (inl path) = inl (path-bind init_program (Done made) ending own path)
ends-begun own made (inr cut) = inr (record {
  result_is = ap begun cut.result_is;
  left = bind cut.left ending;
  path = path-bind init_program cut.left ending own cut.path;
  sure = λ moved. ask-bind cut.left ending (cut.sure moved);
})

pub runs-begun : (old new : View) (made : Result (Unit {0}) Refusal) → Runs old new init_program made → Runs old new begin_program (begun made)
runs-begun old new made r = record {
  same = r.same;
  faults = r.faults;
  blames = λ why e. r.blames why (still-refused made why e);
  own = r.own;
  fits = r.fits;
  ends = ends-begun r.own made r.ends;
  grows = r.grows;
  alone = r.alone;
}
