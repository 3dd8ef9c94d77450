-- What a pass has seen of a journal, and what may come after it. All of it is this project's own.
use Rattle.std.specs.Prelude.{◌≡◌, ℕ, false, List, [], ◌++◌, length, max, if◌then◌else◌, nat_lt}
use Rattle.std.specs.List.{All}
use Rattle.turn_cell.specs.declared.known.Known.{Known}
use Rattle.turn_cell.specs.declared.known.Owners.{Owners}
use Rattle.turn_cell.specs.Owners.{IsOwner, all_owners, no_owners, united}

module _ {E : Type 0} (owner : E → ℕ) (owners : Owners) (seen journal : List E) where
  -- the journal begins with what was seen, and no entry past that has one of these owners
  pub record Follows : Type 0 where
    pub rest : List E
    pub is : journal ≡ seen ++ rest
    pub foreign : All (λ e. ¬ IsOwner owners (owner e)) rest

  -- the journal begins with what was seen, and each entry past that has one of these owners
  pub record Grows : Type 0 where
    pub rest : List E
    pub is : journal ≡ seen ++ rest
    pub own : All (λ e. IsOwner owners (owner e)) rest

module _ {E : Type 0} where
  abbrev pub longer : List E → List E → List E
  longer xs ys = if nat_lt (length xs) (length ys) then ys else xs

  -- it has seen this journal and this count, and has all owner numbers
  abbrev pub starting : List E → ℕ → Known E
  starting journal count = record {
    journal = journal;
    count = count;
    owners = all_owners;
    has_turn = false;
  }

  -- it has seen the longer journal and the greater count, and has both ranges of owner numbers
  abbrev pub joined : Known E → Known E → Known E
  joined a b = record {
    journal = longer a.journal b.journal;
    count = max a.count b.count;
    owners = united a.owners b.owners;
    has_turn = false;
  }

  abbrev pub nothing : Known E
  nothing = record { journal = []; count = 0; owners = no_owners; has_turn = false }
