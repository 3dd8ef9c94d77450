-- What holds behind an operation of a collection, by what holds behind each kind of reply.
use Rattle.std.proofs.Common.{◌≡◌, ℕ, Bool, true, List, [], ◌∷◌, ◌++◌, sym, subst}
use Rattle.object_store.specs.declared.keys.Key.{Key}
use Rattle.object_store.specs.declared.keys.Part.{Part}
use Rattle.object_store.specs.declared.events.Op.{Op}
use Rattle.object_store.specs.declared.events.Op.TheVariants.{Get, PutNew, PutOver, Remove, RemoveAt, List as ListPart}
use Rattle.object_store.specs.declared.events.Got.{Got}
use Rattle.object_store.specs.declared.events.Gone.TheVariants.{Done as Gone_done, Absent as Gone_absent}
use Rattle.object_store.specs.declared.events.Listed.{Listed}
use Rattle.object_store.specs.declared.events.Reply.{Reply}
use Rattle.object_store.specs.declared.events.Reply.TheVariants.{Got as Is_got, Gone as Is_gone, Listed as Is_listed}
use Rattle.object_store.specs.declared.events.Event.{Event}
use Rattle.object_store.specs.Machine.{found, got_of, IsListing, IsHonest, UnlessFailed}
use Rattle.collecting.specs.Walks.{Walk, MayGet, MayList, MayDo, ended, told_got, told_listed, told}

got-is : (g k : Got) → Is_got g ≡ Is_got k → g ≡ k
got-is g k e = cc

listed-is : (l m : Listed) → Is_listed l ≡ Is_listed m → l ≡ m
listed-is l m e = cc

module _ (cutoff : ℕ) (journal : List Event) (now : ℕ) (w : Walk) (Goal : Walk → Type 0)
    (got-told : (key : Key) (got : Got) → MayGet w key → got ≡ got_of now (found journal key) → Goal (told_got w.branches w.tags w.leases w key got))
    (listed-told : (part : Part) (l : Listed) → MayList w part → IsListing (found journal) part l.entries → Goal (told_listed cutoff w part l))
    (get-ends : (key : Key) → MayGet w key → Goal (ended w)) (list-ends : (part : Part) → MayList w part → Goal (ended w))
    (removed-told : (answered removed : List Key) (over : Bool) → Goal (record w { answered = answered; removed = removed; over = over })) where
  -- an operation that it may make, with its reply
  pub told-by : (n : ℕ) (op : Op) (reply : Reply) → MayDo cutoff w op → UnlessFailed (IsHonest (found journal) n now op) reply → Goal (told cutoff w op reply)
  told-by n (Get key) (Is_got got) may honest = got-told key got may (got-is got (got_of now (found journal key)) honest)
  told-by n (Get key) reply may honest = get-ends key may
  told-by n (ListPart part) (Is_listed l) may honest =
      let is = listed-is l (record { entries = honest.0; now = now }) honest.1 in
      listed-told part l may (subst (λ (x : Listed). IsListing (found journal) part x.entries) (sym is) honest.2)
  told-by n (ListPart part) reply may honest = list-ends part may
  told-by n (Remove key why) (Is_gone (Gone_done t)) may honest = removed-told (w.answered ++ key ∷ []) (w.removed ++ key ∷ []) w.over
  told-by n (Remove key why) (Is_gone (Gone_absent t)) may honest = removed-told (w.answered ++ key ∷ []) w.removed w.over
  told-by n (Remove key why) reply may honest = removed-told w.answered w.removed true
  told-by n (PutNew key bytes why) reply may honest = absurd may
  told-by n (PutOver key bytes old why) reply may honest = absurd may
  told-by n (RemoveAt key old why) reply may honest = absurd may
