-- What a session holds at its commit is determined by the commits over which it was carried.
use Rattle.std.proofs.Common.{◌≡◌, inl, inr, ℕ, zero, suc, List, [], ◌∷◌, ◌++◌, Option, Some, None, refl, sym, ◌∙◌, ap, subst}
use Rattle.std.specs.FinMap.{FinMap}
use Rattle.ice_ids.specs.declared.Id8.{Id8}
use Rattle.ice_ids.specs.declared.Id12.{Id12}
use Rattle.zarr_path.specs.Paths.{path_cmp}
use Rattle.zarr_tree.specs.declared.cases.Conflict.{Conflict}
use Rattle.zarr_tree.specs.Nodes.{Node}
use Rattle.zarr_tree.specs.Held.{Held}
use Rattle.manifest_file.specs.declared.manifest.Place.{Place}
use Rattle.repo_objects.specs.Trees.{nodes_in}
use Rattle.conflicts.specs.declared.solving.Policy.{Policy}
use Rattle.object_store.specs.declared.events.Event.{Event}
use Rattle.session.specs.Sessions.{SessionState, base_nodes}
use Rattle.rebase.specs.Along.{Link, Way, Solves, left_at, solved_at, first_hidden, past, along}
use Rattle.play_tasks.specs.Playing.{policy_of}
use Rattle.play_tasks.specs.Solving.{WasRebased, WasCarried}
use Rattle.determined_sessions.specs.Sessions.{links_read, links_met, SolvedLaw}
use Rattle.determined_sessions.proofs.Sessions.{access-same, sessions-law}

abbrev Nodes : Type 0
Nodes = FinMap path_cmp Node

solves-same : (a b : Held Place) → Solves a ≡ Solves b → a ≡ b
solves-same a b e = cc

-- ---- along commits, and then along more
-- all is solved where nothing stays at the first commit, nothing is hidden by it, and further on all is solved
past-solves : (at : Id12) (xs : List Conflict) (hidden : Option Id8) (further : Way) (left : Held Place) → past at xs hidden further ≡ Solves left → (xs ≡ []) × (hidden ≡ None) × (further ≡ Solves left)
past-solves at [] None further left e = (refl, refl, e)
past-solves at [] (Some node) further left e = cc
past-solves at (x ∷ xs) hidden further left e = cc

-- the nodes of the last commit, or those before, where there is none
behind : Nodes → List Link → Nodes
behind before [] = before
behind before (l ∷ ls) = behind (nodes_in l.file.nodes) ls

behind-append : (before : Nodes) (xs ys : List Link) → behind before (xs ++ ys) ≡ behind (behind before xs) ys
unfolding behind
behind-append before [] ys = refl
behind-append before (l ∷ ls) ys = behind-append (nodes_in l.file.nodes) ls ys

behind-last : (before : Nodes) (ls : List Link) (l : Link) → behind before (ls ++ l ∷ []) ≡ nodes_in l.file.nodes
unfolding behind
behind-last before [] l = refl
behind-last before (k ∷ ks) l = behind-last (nodes_in k.file.nodes) ks l

along-append : (policy : Policy) (held mid left : Held Place) (before : Nodes) (xs ys : List Link) → along policy held before xs ≡ Solves mid → along policy mid (behind before xs) ys ≡ Solves left → along policy held before (xs ++ ys) ≡ Solves left
unfolding along behind
along-append policy held mid left before [] ys e f = ap (λ (h : Held Place). along policy h before ys) (solves-same held mid e) ∙ f
along-append policy held mid left before (l ∷ ls) ys e f =
    let first = past-solves l.file.id (left_at policy held before l) (first_hidden (nodes_in l.file.nodes) held.metas) (along policy (solved_at policy held before l) (nodes_in l.file.nodes) ls) mid e in
    (λ i. past l.file.id (first.0 i) (first.1 i) (along policy (solved_at policy held before l) (nodes_in l.file.nodes) (ls ++ ys)))
    ∙ along-append policy (solved_at policy held before l) mid left (nodes_in l.file.nodes) ls ys first.2 f

-- ---- sessions
-- what a session holds comes from another one along these commits, to whose last one it has moved
record CameAlong (policy : Policy) (s t : SessionState) (links : List Link) : Type 0 where
  held : along policy s.held (base_nodes s) links ≡ Solves t.held
  nodes : base_nodes t ≡ behind (base_nodes s) links

-- a session with the same held changes and rows came so from itself
came-still : (policy : Policy) (s t : SessionState) → t.held ≡ s.held → t.rows ≡ s.rows → CameAlong policy s t []
unfolding along behind
came-still policy s t held rows = record { held = ap (λ (h : Held Place). Solves h) (sym held); nodes = ap nodes_in rows }

came-on : (policy : Policy) (s mid t : SessionState) (xs ys : List Link) → CameAlong policy s mid xs → CameAlong policy mid t ys → CameAlong policy s t (xs ++ ys)
came-on policy s mid t xs ys a b = record {
  held = along-append policy s.held mid.held t.held (base_nodes s) xs ys a.held (ap (λ (n : Nodes). along policy mid.held n ys) (sym a.nodes) ∙ b.held);
  nodes = b.nodes ∙ ap (λ (n : Nodes). behind n ys) a.nodes ∙ sym (behind-append (base_nodes s) xs ys);
}

rebased-along : (client : ℕ) (policy : Policy) (s t : SessionState) (start journal : List Event) (was : WasRebased client policy s t start journal) → CameAlong policy s t (links_read client policy s t start journal was)
rebased-along client policy s t start journal (inl moved) =
    let m = moved.1 in
    let last : Link = record { file = m.snap; lists = m.solved.lists } in
    record {
      held = m.solved.solved ∙ ap (λ (x : SessionState). Solves x.held) (sym m.becomes);
      nodes = ap (λ (x : SessionState). base_nodes x) m.becomes ∙ sym (behind-last (base_nodes s) m.solved.before last) ∙ ap (behind (base_nodes s)) (sym m.solved.last);
    }
rebased-along client policy s t start journal (inr was) = came-still policy s t (ap (λ (x : SessionState). x.held) was.becomes) (ap (λ (x : SessionState). x.rows) was.becomes)

append-nil : (xs : List Link) → xs ++ [] ≡ xs
append-nil [] = refl
append-nil (x ∷ xs) = ap (λ (ls : List Link). x ∷ ls) (append-nil xs)

carried-along : (client : ℕ) (policy : Policy) (count : ℕ) (s t : SessionState) (start journal : List Event) (was : WasCarried client policy count s t start journal) → CameAlong policy s t (links_met client policy count s t start journal was)
unfolding WasCarried links_met
carried-along client policy zero s t start journal was = came-still policy s t (ap (λ (x : SessionState). x.held) was) (ap (λ (x : SessionState). x.rows) was)
carried-along client policy (suc count) s t start journal was =
    let mid = was.0 in
    let lost = was.1 in
    let since = start ++ was.2 in
    let first = links_met client policy count s mid start since was.3 in
    let still : CameAlong policy mid lost [] = came-still policy mid lost (ap (λ (x : SessionState). x.held) was.4.becomes) (ap (λ (x : SessionState). x.rows) was.4.becomes) in
    let on : CameAlong policy s lost first = subst (CameAlong policy s lost) (append-nil first) (came-on policy s mid lost first [] (carried-along client policy count s mid start since was.3) still) in
    came-on policy s lost t first (links_read client policy lost t since journal was.5) on (rebased-along client policy lost t since journal was.5)

pub solved-law : SolvedLaw
solved-law ids task client start journal whole t u id other a b named bytes boxes links =
    let access : a.access ≡ b.access = access-same a.access b.access (sym a.head_is ∙ b.head_is) in
    let session : a.session ≡ b.session = sessions-law ids task client start journal whole t u id other a b named bytes boxes in
    let first = carried-along client (policy_of a.access) a.count a.session t start journal a.carried in
    let second = carried-along client (policy_of b.access) b.count b.session u start whole b.carried in
    solves-same t.held u.held (sym first.held ∙ (λ i. along (policy_of (access i)) ((session i).held) (base_nodes (session i)) (links i)) ∙ second.held)
