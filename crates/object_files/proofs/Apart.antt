-- Names of keys are told apart: by a byte near their start, or by their last byte.
use Rattle.std.proofs.Common.{◌≡◌, ◌≢◌, ◌++◌, ℕ, ◌<◌, List, [], ◌∷◌, get_or, Result, Ok, Err, Global, refl, sym, ap, ◌∙◌, arith}
use Rattle.std.specs.Prelude.{codes, String, string_bytes, MatchResult, IfOk}
use Rattle.std.specs.Fmt.{decimal}
use Rattle.std.proofs.lemmas.List.{append_assoc, append_cancel_left, append_cancel_right}
use Rattle.ice_ids.specs.declared.Id12.{Id12}
use Rattle.ice_ids.specs.declared.IdFault.{IdFault}
use Rattle.ice_ids.specs.Text.{IsId12, id12_text, id12_of_text}
use Rattle.ice_ids.proofs.TextLaws.{id12_of_text-id12_text}
use Rattle.object_store.specs.declared.keys.Key.{Key}
use Rattle.object_store.specs.declared.keys.Key.TheVariants.{Snapshot, Manifest, Txn, Chunk, Branch, Tag, Tombstone, Lease}
use Rattle.object_store.specs.Names.{key_name}
use Rattle.object_store.specs.declared.events.StoreFault.{StoreFault}
use Rattle.object_store.specs.declared.events.StoreFault.TheVariants.{NoMemory}
use Rattle.whole_files.specs.Whole.{IsOutside}
use Rattle.object_files.specs.Paths.{IsKey, aside_in, aside_folder_in, path_in}

below-apart : (m n : ℕ) → m < n → m ≡ n → ⊥
below-apart m n below same = omega arith

-- ---- one id, one name
abbrev id_in : Id12 → Result Id12 IdFault → Id12
id_in default (Ok id) = id
id_in default (Err fault) = default

same_id : (start : List ℕ) (a b : Id12) → IsId12 a → IsId12 b → start ++ id12_text a ≡ start ++ id12_text b → a ≡ b
same_id start a b known too same =
    let texts : id12_text a ≡ id12_text b = append_cancel_left start (id12_text a) (id12_text b) same in
    ap (id_in a) (sym (id12_of_text-id12_text a known) ∙ ap id12_of_text texts ∙ id12_of_text-id12_text b too)

same_middle : (start a b end : List ℕ) → start ++ a ++ end ≡ start ++ b ++ end → a ≡ b
same_middle start a b end same = append_cancel_left start a b (append_cancel_right (start ++ a) (start ++ b) end same)

-- ---- bytes that differ
apart : (at m n : ℕ) (xs ys : List ℕ) → get_or xs at 0 ≡ m → get_or ys at 0 ≡ n → (m ≡ n → ⊥) → xs ≡ ys → ⊥
apart at m n xs ys first second differ same = differ (sym first ∙ ap (λ (zs : List ℕ). get_or zs at 0) same ∙ second)

abbrev last_of : List ℕ → ℕ → ℕ
last_of [] default = default
last_of (x ∷ xs) default = last_of xs x

last_of-append : (xs ys : List ℕ) (default : ℕ) → last_of (xs ++ ys) default ≡ last_of ys (last_of xs default)
last_of-append [] ys default = refl
last_of-append (x ∷ xs) ys default = last_of-append xs ys x

ends_apart : (m n : ℕ) (xs ys : List ℕ) → last_of xs 0 ≡ m → last_of ys 0 ≡ n → (m ≡ n → ⊥) → xs ≡ ys → ⊥
ends_apart m n xs ys first second differ same = differ (sym first ∙ ap (λ (zs : List ℕ). last_of zs 0) same ∙ second)

-- ---- the laws
pub names_differ : (a b : Key) → IsKey a → IsKey b → key_name a ≡ key_name b → a ≡ b
names_differ (Snapshot a) (Snapshot b) known too same = ap (λ (id : Id12). Snapshot id) (same_id (codes "snapshots/") a b known too same)
names_differ (Snapshot a) (Manifest b) known too same = absurd (apart 0 115 109 (codes "snapshots/" ++ id12_text a) (codes "manifests/" ++ id12_text b) refl refl (λ same. below-apart 109 115 (omega arith) (sym same)) same)
names_differ (Snapshot a) (Txn b) known too same = absurd (apart 0 115 116 (codes "snapshots/" ++ id12_text a) (codes "transactions/" ++ id12_text b) refl refl (below-apart 115 116 (omega arith)) same)
names_differ (Snapshot a) (Chunk b) known too same = absurd (apart 0 115 99 (codes "snapshots/" ++ id12_text a) (codes "chunks/" ++ id12_text b) refl refl (λ same. below-apart 99 115 (omega arith) (sym same)) same)
names_differ (Snapshot a) (Branch b) known too same = absurd (apart 0 115 114 (codes "snapshots/" ++ id12_text a) (codes "refs/branch." ++ b ++ codes "/ref.json") refl refl (λ same. below-apart 114 115 (omega arith) (sym same)) same)
names_differ (Snapshot a) (Tag b) known too same = absurd (apart 0 115 114 (codes "snapshots/" ++ id12_text a) (codes "refs/tag." ++ b ++ codes "/ref.json") refl refl (λ same. below-apart 114 115 (omega arith) (sym same)) same)
names_differ (Snapshot a) (Tombstone b) known too same = absurd (apart 0 115 114 (codes "snapshots/" ++ id12_text a) (codes "refs/tag." ++ b ++ codes "/ref.json.deleted") refl refl (λ same. below-apart 114 115 (omega arith) (sym same)) same)
names_differ (Snapshot a) (Lease b) known too same = absurd (apart 0 115 108 (codes "snapshots/" ++ id12_text a) (codes "leases/" ++ id12_text b) refl refl (λ same. below-apart 108 115 (omega arith) (sym same)) same)
names_differ (Manifest a) (Snapshot b) known too same = absurd (apart 0 109 115 (codes "manifests/" ++ id12_text a) (codes "snapshots/" ++ id12_text b) refl refl (below-apart 109 115 (omega arith)) same)
names_differ (Manifest a) (Manifest b) known too same = ap (λ (id : Id12). Manifest id) (same_id (codes "manifests/") a b known too same)
names_differ (Manifest a) (Txn b) known too same = absurd (apart 0 109 116 (codes "manifests/" ++ id12_text a) (codes "transactions/" ++ id12_text b) refl refl (below-apart 109 116 (omega arith)) same)
names_differ (Manifest a) (Chunk b) known too same = absurd (apart 0 109 99 (codes "manifests/" ++ id12_text a) (codes "chunks/" ++ id12_text b) refl refl (λ same. below-apart 99 109 (omega arith) (sym same)) same)
names_differ (Manifest a) (Branch b) known too same = absurd (apart 0 109 114 (codes "manifests/" ++ id12_text a) (codes "refs/branch." ++ b ++ codes "/ref.json") refl refl (below-apart 109 114 (omega arith)) same)
names_differ (Manifest a) (Tag b) known too same = absurd (apart 0 109 114 (codes "manifests/" ++ id12_text a) (codes "refs/tag." ++ b ++ codes "/ref.json") refl refl (below-apart 109 114 (omega arith)) same)
names_differ (Manifest a) (Tombstone b) known too same = absurd (apart 0 109 114 (codes "manifests/" ++ id12_text a) (codes "refs/tag." ++ b ++ codes "/ref.json.deleted") refl refl (below-apart 109 114 (omega arith)) same)
names_differ (Manifest a) (Lease b) known too same = absurd (apart 0 109 108 (codes "manifests/" ++ id12_text a) (codes "leases/" ++ id12_text b) refl refl (λ same. below-apart 108 109 (omega arith) (sym same)) same)
names_differ (Txn a) (Snapshot b) known too same = absurd (apart 0 116 115 (codes "transactions/" ++ id12_text a) (codes "snapshots/" ++ id12_text b) refl refl (λ same. below-apart 115 116 (omega arith) (sym same)) same)
names_differ (Txn a) (Manifest b) known too same = absurd (apart 0 116 109 (codes "transactions/" ++ id12_text a) (codes "manifests/" ++ id12_text b) refl refl (λ same. below-apart 109 116 (omega arith) (sym same)) same)
names_differ (Txn a) (Txn b) known too same = ap (λ (id : Id12). Txn id) (same_id (codes "transactions/") a b known too same)
names_differ (Txn a) (Chunk b) known too same = absurd (apart 0 116 99 (codes "transactions/" ++ id12_text a) (codes "chunks/" ++ id12_text b) refl refl (λ same. below-apart 99 116 (omega arith) (sym same)) same)
names_differ (Txn a) (Branch b) known too same = absurd (apart 0 116 114 (codes "transactions/" ++ id12_text a) (codes "refs/branch." ++ b ++ codes "/ref.json") refl refl (λ same. below-apart 114 116 (omega arith) (sym same)) same)
names_differ (Txn a) (Tag b) known too same = absurd (apart 0 116 114 (codes "transactions/" ++ id12_text a) (codes "refs/tag." ++ b ++ codes "/ref.json") refl refl (λ same. below-apart 114 116 (omega arith) (sym same)) same)
names_differ (Txn a) (Tombstone b) known too same = absurd (apart 0 116 114 (codes "transactions/" ++ id12_text a) (codes "refs/tag." ++ b ++ codes "/ref.json.deleted") refl refl (λ same. below-apart 114 116 (omega arith) (sym same)) same)
names_differ (Txn a) (Lease b) known too same = absurd (apart 0 116 108 (codes "transactions/" ++ id12_text a) (codes "leases/" ++ id12_text b) refl refl (λ same. below-apart 108 116 (omega arith) (sym same)) same)
names_differ (Chunk a) (Snapshot b) known too same = absurd (apart 0 99 115 (codes "chunks/" ++ id12_text a) (codes "snapshots/" ++ id12_text b) refl refl (below-apart 99 115 (omega arith)) same)
names_differ (Chunk a) (Manifest b) known too same = absurd (apart 0 99 109 (codes "chunks/" ++ id12_text a) (codes "manifests/" ++ id12_text b) refl refl (below-apart 99 109 (omega arith)) same)
names_differ (Chunk a) (Txn b) known too same = absurd (apart 0 99 116 (codes "chunks/" ++ id12_text a) (codes "transactions/" ++ id12_text b) refl refl (below-apart 99 116 (omega arith)) same)
names_differ (Chunk a) (Chunk b) known too same = ap (λ (id : Id12). Chunk id) (same_id (codes "chunks/") a b known too same)
names_differ (Chunk a) (Branch b) known too same = absurd (apart 0 99 114 (codes "chunks/" ++ id12_text a) (codes "refs/branch." ++ b ++ codes "/ref.json") refl refl (below-apart 99 114 (omega arith)) same)
names_differ (Chunk a) (Tag b) known too same = absurd (apart 0 99 114 (codes "chunks/" ++ id12_text a) (codes "refs/tag." ++ b ++ codes "/ref.json") refl refl (below-apart 99 114 (omega arith)) same)
names_differ (Chunk a) (Tombstone b) known too same = absurd (apart 0 99 114 (codes "chunks/" ++ id12_text a) (codes "refs/tag." ++ b ++ codes "/ref.json.deleted") refl refl (below-apart 99 114 (omega arith)) same)
names_differ (Chunk a) (Lease b) known too same = absurd (apart 0 99 108 (codes "chunks/" ++ id12_text a) (codes "leases/" ++ id12_text b) refl refl (below-apart 99 108 (omega arith)) same)
names_differ (Branch a) (Snapshot b) known too same = absurd (apart 0 114 115 (codes "refs/branch." ++ a ++ codes "/ref.json") (codes "snapshots/" ++ id12_text b) refl refl (below-apart 114 115 (omega arith)) same)
names_differ (Branch a) (Manifest b) known too same = absurd (apart 0 114 109 (codes "refs/branch." ++ a ++ codes "/ref.json") (codes "manifests/" ++ id12_text b) refl refl (λ same. below-apart 109 114 (omega arith) (sym same)) same)
names_differ (Branch a) (Txn b) known too same = absurd (apart 0 114 116 (codes "refs/branch." ++ a ++ codes "/ref.json") (codes "transactions/" ++ id12_text b) refl refl (below-apart 114 116 (omega arith)) same)
names_differ (Branch a) (Chunk b) known too same = absurd (apart 0 114 99 (codes "refs/branch." ++ a ++ codes "/ref.json") (codes "chunks/" ++ id12_text b) refl refl (λ same. below-apart 99 114 (omega arith) (sym same)) same)
names_differ (Branch a) (Branch b) known too same = ap (λ (name : List ℕ). Branch name) (same_middle (codes "refs/branch.") a b (codes "/ref.json") same)
names_differ (Branch a) (Tag b) known too same = absurd (apart 5 98 116 (codes "refs/branch." ++ a ++ codes "/ref.json") (codes "refs/tag." ++ b ++ codes "/ref.json") refl refl (below-apart 98 116 (omega arith)) same)
names_differ (Branch a) (Tombstone b) known too same = absurd (apart 5 98 116 (codes "refs/branch." ++ a ++ codes "/ref.json") (codes "refs/tag." ++ b ++ codes "/ref.json.deleted") refl refl (below-apart 98 116 (omega arith)) same)
names_differ (Branch a) (Lease b) known too same = absurd (apart 0 114 108 (codes "refs/branch." ++ a ++ codes "/ref.json") (codes "leases/" ++ id12_text b) refl refl (λ same. below-apart 108 114 (omega arith) (sym same)) same)
names_differ (Tag a) (Snapshot b) known too same = absurd (apart 0 114 115 (codes "refs/tag." ++ a ++ codes "/ref.json") (codes "snapshots/" ++ id12_text b) refl refl (below-apart 114 115 (omega arith)) same)
names_differ (Tag a) (Manifest b) known too same = absurd (apart 0 114 109 (codes "refs/tag." ++ a ++ codes "/ref.json") (codes "manifests/" ++ id12_text b) refl refl (λ same. below-apart 109 114 (omega arith) (sym same)) same)
names_differ (Tag a) (Txn b) known too same = absurd (apart 0 114 116 (codes "refs/tag." ++ a ++ codes "/ref.json") (codes "transactions/" ++ id12_text b) refl refl (below-apart 114 116 (omega arith)) same)
names_differ (Tag a) (Chunk b) known too same = absurd (apart 0 114 99 (codes "refs/tag." ++ a ++ codes "/ref.json") (codes "chunks/" ++ id12_text b) refl refl (λ same. below-apart 99 114 (omega arith) (sym same)) same)
names_differ (Tag a) (Branch b) known too same = absurd (apart 5 116 98 (codes "refs/tag." ++ a ++ codes "/ref.json") (codes "refs/branch." ++ b ++ codes "/ref.json") refl refl (λ same. below-apart 98 116 (omega arith) (sym same)) same)
names_differ (Tag a) (Tag b) known too same = ap (λ (name : List ℕ). Tag name) (same_middle (codes "refs/tag.") a b (codes "/ref.json") same)
names_differ (Tag a) (Tombstone b) known too same = absurd (ends_apart 110 100 (codes "refs/tag." ++ a ++ codes "/ref.json") (codes "refs/tag." ++ b ++ codes "/ref.json.deleted") (last_of-append (codes "refs/tag." ++ a) (codes "/ref.json") 0) (last_of-append (codes "refs/tag." ++ b) (codes "/ref.json.deleted") 0) (λ same. below-apart 100 110 (omega arith) (sym same)) same)
names_differ (Tag a) (Lease b) known too same = absurd (apart 0 114 108 (codes "refs/tag." ++ a ++ codes "/ref.json") (codes "leases/" ++ id12_text b) refl refl (λ same. below-apart 108 114 (omega arith) (sym same)) same)
names_differ (Tombstone a) (Snapshot b) known too same = absurd (apart 0 114 115 (codes "refs/tag." ++ a ++ codes "/ref.json.deleted") (codes "snapshots/" ++ id12_text b) refl refl (below-apart 114 115 (omega arith)) same)
names_differ (Tombstone a) (Manifest b) known too same = absurd (apart 0 114 109 (codes "refs/tag." ++ a ++ codes "/ref.json.deleted") (codes "manifests/" ++ id12_text b) refl refl (λ same. below-apart 109 114 (omega arith) (sym same)) same)
names_differ (Tombstone a) (Txn b) known too same = absurd (apart 0 114 116 (codes "refs/tag." ++ a ++ codes "/ref.json.deleted") (codes "transactions/" ++ id12_text b) refl refl (below-apart 114 116 (omega arith)) same)
names_differ (Tombstone a) (Chunk b) known too same = absurd (apart 0 114 99 (codes "refs/tag." ++ a ++ codes "/ref.json.deleted") (codes "chunks/" ++ id12_text b) refl refl (λ same. below-apart 99 114 (omega arith) (sym same)) same)
names_differ (Tombstone a) (Branch b) known too same = absurd (apart 5 116 98 (codes "refs/tag." ++ a ++ codes "/ref.json.deleted") (codes "refs/branch." ++ b ++ codes "/ref.json") refl refl (λ same. below-apart 98 116 (omega arith) (sym same)) same)
names_differ (Tombstone a) (Tag b) known too same = absurd (ends_apart 100 110 (codes "refs/tag." ++ a ++ codes "/ref.json.deleted") (codes "refs/tag." ++ b ++ codes "/ref.json") (last_of-append (codes "refs/tag." ++ a) (codes "/ref.json.deleted") 0) (last_of-append (codes "refs/tag." ++ b) (codes "/ref.json") 0) (below-apart 100 110 (omega arith)) same)
names_differ (Tombstone a) (Tombstone b) known too same = ap (λ (name : List ℕ). Tombstone name) (same_middle (codes "refs/tag.") a b (codes "/ref.json.deleted") same)
names_differ (Tombstone a) (Lease b) known too same = absurd (apart 0 114 108 (codes "refs/tag." ++ a ++ codes "/ref.json.deleted") (codes "leases/" ++ id12_text b) refl refl (λ same. below-apart 108 114 (omega arith) (sym same)) same)
names_differ (Lease a) (Snapshot b) known too same = absurd (apart 0 108 115 (codes "leases/" ++ id12_text a) (codes "snapshots/" ++ id12_text b) refl refl (below-apart 108 115 (omega arith)) same)
names_differ (Lease a) (Manifest b) known too same = absurd (apart 0 108 109 (codes "leases/" ++ id12_text a) (codes "manifests/" ++ id12_text b) refl refl (below-apart 108 109 (omega arith)) same)
names_differ (Lease a) (Txn b) known too same = absurd (apart 0 108 116 (codes "leases/" ++ id12_text a) (codes "transactions/" ++ id12_text b) refl refl (below-apart 108 116 (omega arith)) same)
names_differ (Lease a) (Chunk b) known too same = absurd (apart 0 108 99 (codes "leases/" ++ id12_text a) (codes "chunks/" ++ id12_text b) refl refl (λ same. below-apart 99 108 (omega arith) (sym same)) same)
names_differ (Lease a) (Branch b) known too same = absurd (apart 0 108 114 (codes "leases/" ++ id12_text a) (codes "refs/branch." ++ b ++ codes "/ref.json") refl refl (below-apart 108 114 (omega arith)) same)
names_differ (Lease a) (Tag b) known too same = absurd (apart 0 108 114 (codes "leases/" ++ id12_text a) (codes "refs/tag." ++ b ++ codes "/ref.json") refl refl (below-apart 108 114 (omega arith)) same)
names_differ (Lease a) (Tombstone b) known too same = absurd (apart 0 108 114 (codes "leases/" ++ id12_text a) (codes "refs/tag." ++ b ++ codes "/ref.json.deleted") refl refl (below-apart 108 114 (omega arith)) same)
names_differ (Lease a) (Lease b) known too same = ap (λ (id : Id12). Lease id) (same_id (codes "leases/") a b known too same)

-- no name begins as that of the folder of files aside
begins_apart : (key : Key) → get_or (codes "/" ++ key_name key) 1 0 ≡ 105 → ⊥
begins_apart (Snapshot id) same = below-apart 105 115 (omega arith) (sym same)
begins_apart (Manifest id) same = below-apart 105 109 (omega arith) (sym same)
begins_apart (Txn id) same = below-apart 105 116 (omega arith) (sym same)
begins_apart (Chunk id) same = below-apart 99 105 (omega arith) same
begins_apart (Branch name) same = below-apart 105 114 (omega arith) (sym same)
begins_apart (Tag name) same = below-apart 105 114 (omega arith) (sym same)
begins_apart (Tombstone name) same = below-apart 105 114 (omega arith) (sym same)
begins_apart (Lease id) same = below-apart 105 108 (omega arith) (sym same)

aside_apart : (root : List ℕ) (key : Key) (number : ℕ) → aside_in root number ≢ path_in root key
aside_apart root key number same =
    let start : List ℕ = codes "/icerepo.new" ++ codes "/" in
    let split : aside_in root number ≡ root ++ (start ++ decimal number) =
    ap (λ (zs : List ℕ). zs ++ decimal number) (append_assoc root (codes "/icerepo.new") (codes "/")) ∙ append_assoc root start (decimal number) in
    let behind : start ++ decimal number ≡ codes "/" ++ key_name key =
    append_cancel_left root (start ++ decimal number) (codes "/" ++ key_name key) (sym split ∙ same ∙ append_assoc root (codes "/") (key_name key)) in
    begins_apart key (sym (ap (λ (zs : List ℕ). get_or zs 1 0) behind))

pub asides_differ : (root : List ℕ) (key : Key) (number : ℕ) → IsKey key → aside_in root number ≢ path_in root key
asides_differ root key number known = aside_apart root key number

-- no object's file is written aside
pub outside : (root asides path : List ℕ) (key : Key) → asides ≡ aside_folder_in root → path ≡ path_in root key → IsOutside asides path
outside root asides path key there is = λ number same.
    aside_apart root key number (ap (λ (folder : List ℕ). folder ++ codes "/" ++ decimal number) (sym there) ∙ sym same ∙ is)

pub outside-ok : (root asides : List ℕ) (key : Key) (made : Result (String Global) StoreFault) → asides ≡ aside_folder_in root → MatchResult made (λ path. string_bytes path ≡ path_in root key) (λ fault. fault ≡ NoMemory) → IfOk made (λ path. IsOutside asides (string_bytes path))
outside-ok root asides key (Ok path) there is = outside root asides (string_bytes path) key there is
outside-ok root asides key (Err fault) there is = tt
