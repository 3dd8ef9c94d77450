-- What an expiry has still to do.
use Rattle.std.specs.Prelude.{◌≡◌, ℕ, ◌+◌, ◌*◌, Bool, true, false, List, length, Result, Ok, Err}
use Rattle.object_store.specs.declared.keys.Key.{Key}
use Rattle.object_store.specs.declared.events.Listed.{Listed}
use Rattle.object_store.specs.declared.events.Reply.{Reply}
use Rattle.object_store.specs.declared.events.Reply.TheVariants.{Listed as Is_listed}
use Rattle.object_store.specs.declared.events.StoreFault.{StoreFault}
use Rattle.object_store.specs.declared.events.StoreFault.TheVariants.{Failed, NoMemory as No_room}
use Rattle.store_api.specs.declared.machines.Next.{Next}
use Rattle.store_api.specs.declared.machines.Next.TheVariants.{Again, Ready}
use Rattle.store_api.specs.declared.machines.Refusal.{Refusal}
use Rattle.store_api.specs.declared.machines.Refusal.TheVariants.{NoMemory}
use Rattle.store_api.specs.declared.machines.Refusal.TheVariants.{StoreFault as Refused_fault}
use Rattle.store_api.specs.Program.{Prog, is_ask, is_fault}
use Rattle.store_api.specs.Plays.{Play, Ended, Or, call, dooms}
use Rattle.cleanup_reports.specs.declared.cases.What.{What}
use Rattle.cleanup_reports.specs.declared.cases.RefCase.{RefCase}
use Rattle.live_refs.specs.Live.{live}
use Rattle.expiry.specs.declared.terms.Terms.{Terms}
use Rattle.expiry.specs.declared.look.Decision.{Decision}
use Rattle.expiry.specs.declared.look.Decision.TheVariants.{Drops, Cuts}
use Rattle.expiry.specs.declared.register.Phase.{Phase}
use Rattle.expiry.specs.declared.register.Phase.TheVariants.{Branches, Tags}
use Rattle.expiry.specs.declared.standing.Expired.{Expired}
use Rattle.expiry.specs.declared.standing.Expiring.{Expiring}
use Rattle.expiry.specs.declared.standing.Expiring.TheVariants as state
use Rattle.expiry.specs.Plays.{tells_failure, ends_with, decide, after_look}
use Rattle.expiry.specs.Plays.{after_case, expire_each, listing, all_done, expire_tags}
use Rattle.expiry.specs.inside.Looking.{look_rest, look_left, look_most, is_ref}
use Rattle.expiry.specs.inside.Registers.{Refs, part_of, many}

-- ---- what is left to do
-- behind the last ref of a listing
abbrev pub behind_all : Terms → Phase → List RefCase → Play Expired
behind_all t Branches = expire_tags t
behind_all t Tags = all_done

-- with these refs left
abbrev pub refs_rest : Terms → Refs → Play Expired
refs_rest t refs = expire_each t refs.keys refs.cases (behind_all t refs.phase)

-- behind a ref that was taken
abbrev pub case_rest : Terms → Key → Refs → Result What Refusal → Play Expired
case_rest t key refs =
    after_case key refs.cases (λ more. expire_each t refs.keys more (behind_all t refs.phase))

abbrev pub listing_rest : Terms → Refs → Play Expired
listing_rest t refs =
    listing (part_of refs.phase) refs.cases
    (λ keys. expire_each t keys refs.cases (behind_all t refs.phase))

abbrev pub expiring_rest : Terms → Expiring → Play Expired
expiring_rest t (state.Listing refs) = listing_rest t refs
expiring_rest t (state.Looking look refs) =
    call (look_rest look) (after_look look.key (case_rest t look.key refs))
expiring_rest t (state.Dropping key version refs) =
    decide key (case_rest t key refs) (Drops version)
expiring_rest t (state.Cutting cut refs) =
    decide cut.key (case_rest t cut.key refs) (Cuts cut.id cut.version cut.bytes)
expiring_rest t (state.Ended outcome) = Ended outcome

-- how many steps are left at most
abbrev pub each_most : ℕ
each_most = look_most + 3

abbrev pub tags_left : ℕ
tags_left = many * each_most + 1

abbrev pub behind_left : Phase → ℕ
behind_left Branches = tags_left
behind_left Tags = 0

abbrev pub refs_left : Refs → ℕ
refs_left refs = length refs.keys * each_most + behind_left refs.phase

abbrev pub listing_left : Refs → ℕ
listing_left refs = many * each_most + 1 + behind_left refs.phase

abbrev pub expiring_left : Expiring → ℕ
expiring_left (state.Listing refs) = listing_left refs
expiring_left (state.Looking look refs) = look_left look + 2 + refs_left refs
expiring_left (state.Dropping key version refs) = 1 + refs_left refs
expiring_left (state.Cutting cut refs) = 1 + refs_left refs
expiring_left (state.Ended outcome) = 0

-- a look has an operation to make, and nothing but a branch or a tag is dropped
abbrev pub is_standing : Expiring → Bool
is_standing (state.Listing refs) = true
is_standing (state.Looking look refs) = is_ask (look_rest look)
is_standing (state.Dropping key version refs) = is_ref key
is_standing (state.Cutting cut refs) = true
is_standing (state.Ended outcome) = true

-- ---- behind a step of a look
abbrev pub settled : (Result Decision Refusal → Play Expired) → Prog (Result Decision Refusal)
    → Result (Next Decision) Refusal → Play Expired
settled f q (Ok Again) = call q f
settled f q (Ok (Ready decision)) = f (Ok decision)
settled f q (Err why) = f (Err why)

-- where it answered `Again` it has something to do
abbrev pub answers_well : Bool → Result (Next Decision) Refusal → Bool
answers_well live (Ok Again) = live
answers_well live (Ok (Ready decision)) = true
answers_well live (Err why) = true

abbrev pub faults : {A : Type 0} → Result A Refusal → Bool
faults (Ok a) = false
faults (Err why) = is_fault why

-- a fault of the store is bound to be told only where one was told
abbrev pub Blamed : Bool → Play Expired → Type 0
Blamed told q = dooms tells_failure q ≡ true → told ≡ true

-- ---- behind an operation that is asked outright
abbrev pub fault_told : StoreFault → Refusal
fault_told Failed = Refused_fault
fault_told No_room = NoMemory

-- what its answer tells
abbrev pub heard : {A : Type 0} → (Reply → Result A Refusal) → Result Reply StoreFault
    → Result A Refusal
heard told (Ok reply) = told reply
heard told (Err fault) = Err (fault_told fault)

abbrev pub listed_told : Reply → Result Listed Refusal
listed_told (Is_listed listed) = Ok listed
listed_told _ = Err Refused_fault

-- ... and of a listing
abbrev pub listed_rest : Terms → Refs → Result Listed Refusal → Play Expired
listed_rest t refs (Ok listed) =
    Or (expire_each t (live listed.entries) refs.cases (behind_all t refs.phase))
    (ends_with refs.cases (Err NoMemory))
listed_rest t refs (Err why) = ends_with refs.cases (Err why)
