-- Own: lines, and the words of a line.
use Rattle.std.specs.Prelude.{ℕ, List, [], ◌∷◌, ◌==◌, if◌then◌else◌}
use Rattle.std.specs.Prelude.{Option, Some, None, option_map, option_and_then}
use Rattle.std.specs.List.{slice_split, onto_first}
use denote.Ref.{Bor}

abbrev pub Text : Type 0
Text = List ℕ

-- a line ends with a line feed, which the last line may lack
unfoldable pub lines_of : Text → List Text
lines_of [] = []
lines_of (b ∷ bs) = if b == 10 then [] ∷ lines_of bs else onto_first b (lines_of bs)

-- what stands before the first separator, and what stands behind it, if there is one
unfoldable pub cut_of : ℕ → Text → Text × Option Text
cut_of c [] = ([], None)
cut_of c (b ∷ bs) = if b == c then ([], Some bs) else (b ∷ (cut_of c bs).0, (cut_of c bs).1)

-- the parts between the separators
abbrev pub parts : ℕ → Text → List Text
parts c text = slice_split (λ b. b == c) text

-- the parts of what is left of a line, if anything is left
abbrev pub pieces : ℕ → Option Text → List Text
pieces c None = []
pieces c (Some text) = parts c text

-- what code calls the rest of a line
abbrev pub seen : Option (Bor Text) → Option Text
seen rest = option_map (λ r. r.now) rest

-- words stand between single spaces, and none is empty
abbrev solid : Text × Option Text → Option (Text × Option Text)
solid ([], rest) = None
solid (b ∷ bs, rest) = Some (b ∷ bs, rest)

-- the next word, and what is left behind it
abbrev pub next : Option Text → Option (Text × Option Text)
next None = None
next (Some text) = solid (cut_of 32 text)

abbrev only : Text × Option Text → Option Text
only (word, None) = Some word
only (word, Some text) = None

-- the words that are left, where there are just so many
abbrev pub one : Option Text → Option Text
one rest = option_and_then only (next rest)

abbrev pub two : Option Text → Option (Text × Text)
two rest = option_and_then (λ p. option_map (λ second. (p.0, second)) (one p.1)) (next rest)

abbrev pub three : Option Text → Option (Text × Text × Text)
three rest = option_and_then (λ p. option_map (λ q. (p.0, q.0, q.1)) (two p.1)) (next rest)

abbrev pub four : Option Text → Option (Text × Text × Text × Text)
four rest = option_and_then (λ p. option_map (λ q. (p.0, q.0, q.1, q.2)) (three p.1)) (next rest)

abbrev pub five : Option Text → Option (Text × Text × Text × Text × Text)
five rest =
    option_and_then (λ p. option_map (λ q. (p.0, q.0, q.1, q.2, q.3)) (four p.1)) (next rest)
