-- The text of the script of `grow N` (own). Each x is the state of the
-- generator where a part begins.
use Rattle.std.specs.Prelude.{ℕ, zero, suc, ◌+◌, ◌*◌, ◌/◌, ◌%◌}
use Rattle.std.specs.Prelude.{List, [], ◌∷◌, ◌++◌, false, codes, decimal}
use Rattle.std.specs.Fmt.{digit_glyph}
use Rattle.grow_script.specs.Draws.{after, drawn}

-- a byte as two lower-case hexadecimal digits
abbrev pub hex_pair : ℕ → List ℕ
hex_pair byte = digit_glyph false (byte / 16) ∷ digit_glyph false (byte % 16) ∷ []

-- the base task: an array of 64 times 64 chunks
abbrev pub base_task : List ℕ
base_task = codes "task t0 write main 0 fail\ngroup /\narray /x int32 512,512 8,8 0\ncommit base\n"

-- the chunk in this row and column is filled with a byte
abbrev pub fill_text : ℕ → ℕ → ℕ → List ℕ
fill_text row column byte =
    codes "fill /x " ++ decimal row ++ codes "," ++ decimal column ++ codes " "
    ++ hex_pair byte ++ codes "\n"

-- ... all three drawn
abbrev pub fill_line : ℕ → List ℕ
fill_line x = fill_text (drawn 64 (after 1 x)) (drawn 64 (after 2 x)) (drawn 256 (after 3 x))

unfoldable pub fill_lines : ℕ → ℕ → List ℕ
fill_lines zero x = []
fill_lines (suc count) x = fill_lines count x ++ fill_line (after (3 * count) x)

-- the task of number k
abbrev pub grow_task : ℕ → ℕ → List ℕ
grow_task k x =
    codes "task t" ++ decimal k ++ codes " write main 9 ours\n" ++ fill_lines 50 x
    ++ codes "commit t" ++ decimal k ++ codes "\n"

-- the tasks from 1 on
unfoldable pub grow_tasks : ℕ → ℕ → List ℕ
grow_tasks zero x = []
grow_tasks (suc count) x = grow_tasks count x ++ grow_task (suc count) (after (150 * count) x)

-- turns of tasks from 1 to n, drawn
unfoldable pub drawn_turns : ℕ → ℕ → ℕ → List ℕ
drawn_turns n zero x = []
drawn_turns n (suc count) x =
    drawn_turns n count x ++ codes " t" ++ decimal (1 + drawn n (after (suc count) x))

-- the base task, the n tasks, and the line of turns, in which the base task comes first
abbrev pub script_text : ℕ → List ℕ
script_text n =
    base_task ++ grow_tasks n n ++ codes "turns t0*5"
    ++ drawn_turns n (20 * n) (after (150 * n) n) ++ codes "\n"
