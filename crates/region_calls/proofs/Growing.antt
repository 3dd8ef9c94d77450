-- What is so of all that was put, whatever more is put.
use Rattle.std.proofs.Common.{List, [], ◌++◌}
use Rattle.repo_objects.specs.Trees.{Puts, Extends}
use Rattle.object_store.specs.declared.events.Op.{Op}
use Rattle.object_store.specs.declared.events.Reply.{Reply}
use Rattle.object_store.specs.declared.events.Event.{Event}
use Rattle.store_api.specs.Journal.{Each, puts_of, IsFirst, IsOnce, IsGood, IsPolite}
use Rattle.store_api.specs.Callers.{Caller, Makes}
use Rattle.object_store.proofs.Journals.{Each-back}
use Rattle.store_api.proofs.Telling.{makes-keeps}
use Rattle.commit_path.proofs.Putting.{extends-more, puts-kept}

-- where nothing is put again, it is so of all puts that extend those of the journal
abbrev pub Surely : (Puts → Type 0) → List Event → Type 0
Surely F journal = IsOnce journal → (puts : Puts) → Extends (puts_of journal) puts → F puts

pub Surely-append : (F : Puts → Type 0) (journal more : List Event) → Each IsGood journal more → Surely F journal → Surely F (journal ++ more)
Surely-append F journal more g f once puts x = f (Each-back IsFirst [] journal more once).0 puts (extends-more (puts_of journal) (puts_of (journal ++ more)) puts (puts-kept journal more g once) x)

pub Surely-makes : (F : Puts → Type 0) (by : Caller) (op : Op) (reply : Reply) (old new : List Event) → IsPolite old op → Makes by op reply old new → Surely F old → Surely F new
Surely-makes F by op reply old new polite m f = makes-keeps (Surely F) (Surely-append F) by op reply old new polite m f
