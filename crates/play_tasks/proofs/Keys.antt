-- Lines that set, erase and read what keys have.
use Rattle.std.proofs.Common.{◌≡◌, ◌≢◌, inl, inr, refl, sym, ap, subst, ◌∙◌, arith, Bool, true, false, ℕ, zero, suc, ◌<◌, List, [], ◌∷◌, ◌++◌, append_assoc, length, Option, None, Some, Result, Ok, Err}
use Rattle.std.specs.Prelude.{nat_lt, codes}
use Rattle.std.specs.FinMap.{get}
use Rattle.std.specs.List.{list_all}
use Rattle.std.specs.Str.{is_utf8, IsUtf8, IsAscii}
use Rattle.std.proofs.Math.Seq.{take-append_seam}
use Rattle.std.proofs.lemmas.Bool.{and_parts, ltb-true}
use Rattle.std.proofs.lemmas.Str.{IsUtf8-from_is_utf8, is_utf8-from_IsUtf8, IsUtf8-nil, IsUtf8-append, IsUtf8-from_ascii, IsUtf8-take, IsCharBoundary-at_seam}
use Rattle.ice_ids.specs.declared.Id8.{Id8}
use Rattle.zarr_path.specs.declared.keys.ZarrKey.{ZarrKey}
use Rattle.zarr_path.specs.declared.keys.ZarrKey.TheVariants as k
use Rattle.zarr_path.specs.Paths.{root}
use Rattle.zarr_path.specs.Keys.{key_of, key_front, meta_key}
use Rattle.zarr_path.proofs.KeyLaws.{key_law}
use Rattle.zarr_path.proofs.KeyTests.{front-inner}
use Rattle.zarr_path.proofs.SpellLaws.{path_parts}
use Rattle.zarr_tree.specs.Nodes.{Node}
use Rattle.zarr_keys.specs.declared.values.KeyValue.{KeyValue}
use Rattle.zarr_keys.specs.Keys.{chunk_value, session_of, answered, get_at, key_get_program, put_over, set_at, key_set_program, erased_at, key_erased}
use Rattle.zarr_keys.specs.Calls.{GetRefused}
use Rattle.store_api.specs.declared.machines.Refusal.{Refusal}
use Rattle.store_api.specs.declared.machines.Refusal.TheVariants as R
use Rattle.store_api.specs.Program.{Done, Ask, IsAsk, is_fault, is_no_memory}
use Rattle.store_api.specs.Running.{Program, ◌>>=◌}
use Rattle.store_api.specs.Plays.{Play, Ask as Ask_play, Or, call, behind, Comes}
use Rattle.session.specs.declared.chunks.Value.{Value}
use Rattle.session.specs.Sessions.{SessionState, nodes_seen}
use Rattle.session.specs.Editing.{Leaves, node_fault, node_added}
use Rattle.session.specs.Chunks.{get_program}
use Rattle.script_calls.specs.declared.calls.Access.{Access}
use Rattle.play_script.specs.Well.{IsWellPath}
use Rattle.play_outcome.specs.declared.outcome.Shown.{Shown}
use Rattle.play_outcome.specs.declared.outcome.Outcome.{Outcome}
use Rattle.play_tasks.specs.declared.working.Step.{Step}
use Rattle.play_tasks.specs.declared.working.Step.TheVariants as step
use Rattle.play_tasks.specs.Lines.{key_shown, chunk_key_shown, key_set_deed, key_get_deed}
use Rattle.play_outcome.specs.Playing.{refused}
use Rattle.play_tasks.specs.Playing.{Rest, after_line, play_deed}
use Rattle.play_tasks.specs.inside.Working.{after_set, after_get, lines_from, working_rest, is_local, PlayComes, EndsCalmly}
use Rattle.play_tasks.proofs.Calm.{ends-refused, ends-behind, set-calm, get-calm}
use Rattle.play_tasks.proofs.Locals.{IsLocal, added_local, set_local, drop_local, unset_local, leaves-local}
use Rattle.play_tasks.proofs.Machines.{began}
use Rattle.play_outcome.proofs.Stepping.{is_memory}

-- ---- what a key of a UTF-8 text names
low_utf8 : (b : ℕ) (bs : List ℕ) → b < 128 → IsUtf8 bs → IsUtf8 (b ∷ bs)
low_utf8 b bs low rest = IsUtf8-append (b ∷ []) bs (IsUtf8-from_ascii (b ∷ []) one) rest
  where
    one : IsAscii (b ∷ [])
    one zero = low
    one (suc i) = omega arith

ascii_utf8 : (bs : List ℕ) → list_all (λ b. nat_lt b 128) bs ≡ true → IsUtf8 bs
ascii_utf8 [] low = IsUtf8-nil
ascii_utf8 (b ∷ bs) low =
    let parts = and_parts (nat_lt b 128) (list_all (λ x. nat_lt x 128) bs) low in
    low_utf8 b bs (ltb-true b 128 parts.0) (ascii_utf8 bs parts.1)

utf8-front : (xs ys : List ℕ) → IsUtf8 (xs ++ ys) → IsUtf8 ys → IsUtf8 xs
utf8-front xs ys whole back = subst IsUtf8 (take-append_seam xs ys) (IsUtf8-take (xs ++ ys) (length xs) whole (IsCharBoundary-at_seam (xs ++ ys) xs ys refl back))

inner : (b : ℕ) (bs : List ℕ) → 47 ∷ b ∷ bs ≢ root
inner b bs e = absurd (omega (arith, ap length e))

spelled-utf8 : (path rest : List ℕ) → path ≡ 47 ∷ rest → IsUtf8 (meta_key path) → IsUtf8 path
unfolding meta_key
spelled-utf8 path [] e u = subst IsUtf8 (sym e) (ascii_utf8 (47 ∷ []) refl)
spelled-utf8 path (b ∷ bs) e u =
    let other : path ≢ root = λ same. inner b bs (sym e ∙ same) in
    let front : key_front path ≡ (b ∷ bs) ++ 47 ∷ [] = front-inner path (b ∷ bs) other e in
    let whole : IsUtf8 ((b ∷ bs) ++ 47 ∷ codes "zarr.json") = subst IsUtf8 (ap (λ (x : List ℕ). x ++ codes "zarr.json") front ∙ append_assoc (b ∷ bs) (47 ∷ []) (codes "zarr.json")) u in
    let own : IsUtf8 (b ∷ bs) = utf8-front (b ∷ bs) (47 ∷ codes "zarr.json") whole (ascii_utf8 (47 ∷ codes "zarr.json") refl) in
    subst IsUtf8 (sym e) (IsUtf8-append (47 ∷ []) (b ∷ bs) (ascii_utf8 (47 ∷ []) refl) own)

-- the path of a node whose metadata's key it is
pub key-path : (key path : List ℕ) → is_utf8 key ≡ true → key_of key ≡ Some (k.Meta path) → IsWellPath path
key-path key path utf8 is =
    let own = (key_law key (k.Meta path)).0 is in
    let spelled = path_parts path own.0 in
    (own.0, is_utf8-from_IsUtf8 path (spelled-utf8 path spelled.rest spelled.slash (subst IsUtf8 own.1 (IsUtf8-from_is_utf8 key utf8))))

-- ---- refusals that tell no fault
spared_local : (r : Result (Id8 × SessionState) Refusal) → IsLocal r → IsLocal (session_of r)
spared_local (Ok a) l why e = absurd cc
spared_local (Err own) l why e = let x : own ≡ why = cc in sym (ap is_fault x) ∙ l own refl

put_local : (o : Option Node) (s : SessionState) (path text : List ℕ) → IsLocal (put_over o s path text)
put_local (Some node) s path text = set_local s path text
put_local None s path text = spared_local (node_added s path text) (added_local node_fault s path text)

erased_local : (o : Option ZarrKey) (s : SessionState) → IsLocal (erased_at s o)
erased_local None s = λ why e. let x : R.BadKey ≡ why = cc in sym (ap is_fault x)
erased_local (Some (k.Meta path)) s = drop_local s path
erased_local (Some (k.Chunk path index)) s = unset_local s path index

pub erase-local : (s t : SessionState) (key : List ℕ) (r : Result (Unit {0}) Refusal) → Leaves (key_erased s key) s r t → is_local r ≡ true
unfolding key_erased
erase-local s t key r l = leaves-local (erased_at s (key_of key)) s t r (erased_local (key_of key) s) l

set_calm : (o : Option ZarrKey) (s : SessionState) (bytes : List ℕ) → EndsCalmly (set_at s bytes o)
set_calm None s bytes = ends-refused R.BadKey refl
set_calm (Some (k.Meta path)) s bytes = λ why e. put_local (get (nodes_seen s) path) s path bytes why (cc)
set_calm (Some (k.Chunk path index)) s bytes = set-calm s path index bytes

pub key-set-calm : (s : SessionState) (key bytes : List ℕ) → EndsCalmly (key_set_program s key bytes)
unfolding key_set_program
key-set-calm s key bytes = set_calm (key_of key) s bytes

get_calm : (o : Option ZarrKey) (s : SessionState) → EndsCalmly (get_at s o)
get_calm None s = ends-refused R.BadKey refl
get_calm (Some (k.Meta path)) s = λ why e. absurd (cc)
get_calm (Some (k.Chunk path index)) s = ends-behind (get_program s path index) answered (get-calm s path index) (λ value why e. absurd (cc))

pub key-get-calm : (s : SessionState) (key : List ℕ) → EndsCalmly (key_get_program s key)
unfolding key_get_program
key-get-calm s key = get_calm (key_of key) s

pub key-get-why : (p : Program KeyValue) (s back : SessionState) (why : Refusal) → GetRefused p s back why → is_no_memory why ≡ false → p ≡ Done (Err why)
key-get-why p s back R.NoMemory c e = absurd (cc)
key-get-why p s back why c e = c.0

-- ---- a key that is set
set_plays : (access : Access) (line : ℕ) (shown : List Shown) (s : SessionState) (bytes : List ℕ) (rest : Rest) (o : Option ZarrKey) → play_deed access line shown s (key_set_deed bytes o s) rest ≡ call (set_at s bytes o) (after_set line shown rest)
set_plays access line shown s bytes rest None = refl
set_plays access line shown s bytes rest (Some (k.Meta path)) = refl
set_plays access line shown s bytes rest (Some (k.Chunk path index)) = refl

pub key-set-plays : (access : Access) (line : ℕ) (shown : List Shown) (s : SessionState) (key bytes : List ℕ) (rest : Rest) → play_deed access line shown s (key_set_deed bytes (key_of key) s) rest ≡ call (key_set_program s key bytes) (after_set line shown rest)
unfolding key_set_program
key-set-plays access line shown s key bytes rest = set_plays access line shown s bytes rest (key_of key)

-- what is played the same comes to the same
pub plays-comes : (line at : ℕ) (shown : List Shown) (f g : Rest → Play Outcome) (x : Step) → ((rest : Rest) → f rest ≡ g rest) → PlayComes line at shown g x → PlayComes line at shown f x
plays-comes line at shown f g (step.On t more) same c = λ rest. same rest ∙ c rest
plays-comes line at shown f g (step.Stop state) same c = λ task. subst (λ (p : Play Outcome). Comes (Or p (refused line shown R.NoMemory)) (working_rest task state)) (sym (same (lines_from task at))) (c task)

-- ---- a key that is read
abbrev keyed : Result Value Refusal → Result KeyValue Refusal
keyed (Ok value) = Ok (chunk_value value)
keyed (Err why) = Err why

called-keyed : (p : Program Value) (f : Result KeyValue Refusal → Play Outcome) → call (p >>= answered) f ≡ call p (λ r. f (keyed r))
called-keyed (Done (Ok value)) f = refl
called-keyed (Done (Err why)) f = refl
called-keyed (Ask op next) f = λ i. Ask_play op (f (Err R.NoMemory)) (λ reply. behind op reply (called-keyed (next reply) f i) (f (Err R.NoMemory)))

-- what follows what the key has
abbrev after_key : ℕ → List Shown → SessionState → Rest → Result KeyValue Refusal → Play Outcome
after_key line shown s rest (Ok value) = after_line line shown (Ok (key_shown line value ∷ [], s)) rest
after_key line shown s rest (Err why) = after_line line shown (Err why) rest

keyed_same : (line : ℕ) (shown : List Shown) (s : SessionState) (rest : Rest) (r : Result Value Refusal) → after_key line shown s rest (keyed r) ≡ after_get (chunk_key_shown line) line shown s rest r
keyed_same line shown s rest (Ok value) = refl
keyed_same line shown s rest (Err why) = refl

get_keyed : (line : ℕ) (shown : List Shown) (s : SessionState) (rest : Rest) (p : Program Value) → call (p >>= answered) (after_key line shown s rest) ≡ call p (after_get (chunk_key_shown line) line shown s rest)
get_keyed line shown s rest p = called-keyed p (after_key line shown s rest) ∙ ap (call p) (λ i r. keyed_same line shown s rest r i)

get_plays : (access : Access) (line : ℕ) (shown : List Shown) (s : SessionState) (rest : Rest) (o : Option ZarrKey) → play_deed access line shown s (key_get_deed line o s) rest ≡ call (get_at s o) (after_key line shown s rest)
get_plays access line shown s rest None = refl
get_plays access line shown s rest (Some (k.Meta path)) = refl
get_plays access line shown s rest (Some (k.Chunk path index)) = sym (get_keyed line shown s rest (get_program s path index))

key_get_plays : (access : Access) (line : ℕ) (shown : List Shown) (s : SessionState) (key : List ℕ) (rest : Rest) → play_deed access line shown s (key_get_deed line (key_of key) s) rest ≡ call (key_get_program s key) (after_key line shown s rest)
unfolding key_get_program
key_get_plays access line shown s key rest = get_plays access line shown s rest (key_of key)

-- it was told at once
pub key-got : (access : Access) (line : ℕ) (shown more : List Shown) (s t : SessionState) (key : List ℕ) (value : KeyValue) (rest : Rest) → key_get_program s key ≡ Done (Ok value) → t ≡ s → more ≡ shown ++ key_shown line value ∷ []
    → play_deed access line shown s (key_get_deed line (key_of key) s) rest ≡ rest t more
key-got access line shown more s t key value rest is same shows =
    key_get_plays access line shown s key rest ∙ ap (λ (p : Program KeyValue). call p (after_key line shown s rest)) is ∙ (λ i. rest (sym same i) (sym shows i))

-- a machine has it to do
pub key-asks : (access : Access) (line : ℕ) (shown : List Shown) (s t : SessionState) (key : List ℕ) (q : Program Value) (rest : Rest) → key_get_program s key ≡ (q >>= answered) → IsAsk q → t ≡ s
    → Comes (play_deed access line shown s (key_get_deed line (key_of key) s) rest) (call q (after_get (chunk_key_shown line) line shown t rest))
key-asks access line shown s t key q rest is asking same =
    let to : play_deed access line shown s (key_get_deed line (key_of key) s) rest ≡ call q (after_get (chunk_key_shown line) line shown t rest) =
    key_get_plays access line shown s key rest ∙ ap (λ (p : Program KeyValue). call p (after_key line shown s rest)) is ∙ get_keyed line shown s rest q ∙ ap (λ (x : SessionState). call q (after_get (chunk_key_shown line) line shown x rest)) (sym same) in
    subst (λ (p : Play Outcome). Comes p (call q (after_get (chunk_key_shown line) line shown t rest))) (sym to) (began q q (after_get (chunk_key_shown line) line shown t rest) refl asking)

-- it was refused
pub key-refused : (access : Access) (line : ℕ) (shown : List Shown) (s back : SessionState) (key : List ℕ) (why : Refusal) (rest : Rest) → GetRefused (key_get_program s key) s back why
    → Comes (Or (play_deed access line shown s (key_get_deed line (key_of key) s) rest) (refused line shown R.NoMemory)) (refused line shown why)
key-refused access line shown s back key why rest c = by_memory (is_no_memory why) refl
  where
    by_memory : (b : Bool) → is_no_memory why ≡ b → Comes (Or (play_deed access line shown s (key_get_deed line (key_of key) s) rest) (refused line shown R.NoMemory)) (refused line shown why)
    by_memory true e = inr (ap (refused line shown) (is_memory why e))
    by_memory false e =
        let to = key_get_plays access line shown s key rest ∙ ap (λ (p : Program KeyValue). call p (after_key line shown s rest)) (key-get-why (key_get_program s key) s back why c e) in
        inl (subst (λ (p : Play Outcome). Comes p (refused line shown why)) (sym to) refl)
