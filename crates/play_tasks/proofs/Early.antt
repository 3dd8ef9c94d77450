-- A session was begun before its client put a snapshot.
use Rattle.std.proofs.Common.{◌≡◌, ℕ, sym, ◌∙◌, ap, subst, List, [], ◌∷◌, ◌++◌, append_assoc}
use Rattle.std.proofs.lemmas.List.{append_cancel_left}
use Rattle.object_store.specs.declared.keys.Key.TheVariants.{Snapshot}
use Rattle.object_store.specs.declared.events.Op.TheVariants.{Get}
use Rattle.object_store.specs.declared.events.Got.TheVariants.{Found}
use Rattle.object_store.specs.declared.events.Reply.TheVariants.{Got as Is_got}
use Rattle.object_store.specs.declared.events.Event.{Event}
use Rattle.object_store.specs.Machine.{version_at}
use Rattle.store_api.specs.Journal.{Each}
use Rattle.session.specs.Sessions.{SessionState}
use Rattle.session.specs.Opening.{Asked}
use Rattle.commit_path.specs.Opened.{WasBegun}
use Rattle.commit_path.specs.Single.{PutsNone, HasPutNone}
use Rattle.store_api.proofs.Happening.{HasOwn-append}
use Rattle.repo_read.proofs.Namings.{WasResolved-append}

each-front : (P : List Event → Event → Type 0) (old xs ys : List Event) → Each P old (xs ++ ys) → Each P old xs
unfolding Each
each-front P old [] ys each = tt
each-front P old (x ∷ xs) ys each = (each.0, each-front P (old ++ x ∷ []) xs ys each.1)

-- what put no snapshot until now, had put none before
pub put-none-before : (client : ℕ) (start journal before since after : List Event) (event : Event) → before ≡ start ++ since → journal ≡ before ++ event ∷ after → HasPutNone client start journal → HasPutNone client start before
put-none-before client start journal before since after event b is n =
    let same : start ++ n.more ≡ start ++ (since ++ event ∷ after) = sym n.is ∙ (is ∙ (ap (λ (x : List Event). x ++ event ∷ after) b ∙ append_assoc start since (event ∷ after))) in
    record { more = since; is = b; each = each-front (PutsNone client) start since (event ∷ after) (subst (Each (PutsNone client) start) (append_cancel_left start n.more (since ++ event ∷ after) same) n.each) }

-- the same get, of the same journal before it, whatever comes
abbrev pub WasBegun-more : (client : ℕ) (a : Asked) (s : SessionState) (start journal more : List Event) → WasBegun client a s start journal → WasBegun client a s start (journal ++ more)
WasBegun-more client a s start journal more b = record {
  named = b.named;
  resolved = WasResolved-append client a.at b.named start journal more b.resolved;
  base = b.base;
  bytes = b.bytes;
  version = b.version;
  got = record { now = b.got.now; own = HasOwn-append client (Get (Snapshot s.base)) (Is_got (Found b.bytes (version_at b.version) b.got.now)) start journal more b.got.own };
  snap = b.snap;
  read = b.read;
  begins = b.begins;
}
