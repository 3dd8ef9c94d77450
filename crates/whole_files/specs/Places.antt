-- Where a directory and its files aside lie.
use Rattle.std.specs.Prelude.{ℕ, List, string_bytes}
use Rattle.whole_files.specs.declared.places.Places.{Places}

abbrev pub root_of : Places → List ℕ
root_of places = string_bytes places.root

abbrev pub asides_of : Places → List ℕ
asides_of places = string_bytes places.asides
