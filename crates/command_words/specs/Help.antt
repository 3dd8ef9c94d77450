-- What the program says of itself (own): for each command what it reads and
-- prints, the statuses, and an example.
use Rattle.std.specs.Prelude.{ℕ, List, ◌++◌, codes}
use Rattle.command_words.specs.declared.reading.Topic.{Topic}
use Rattle.command_words.specs.declared.reading.Topic.TheVariants as T

-- the line that `--version` prints
abbrev pub version_line : List ℕ
version_line = codes "icerepo 0.1.0\n"

-- what the program is, and its commands
abbrev pub program_text : List ℕ
program_text =
    codes "icerepo keeps versioned trees of Zarr groups and arrays in an object store.\n"
    ++ codes "\n"
    ++ codes "icerepo play [--dir PATH]                        plays the script of standard input, and prints its report\n"
    ++ codes "icerepo cells BRANCH PATH FROM TO [--dir PATH]   prints the numbers of a box of cells of an array\n"
    ++ codes "icerepo grow N [--dir PATH]                      plays a script that is made from N, and prints one line\n"
    ++ codes "icerepo check [--dir PATH] [--progress]          checks all that the refs of a repository reach\n"
    ++ codes "icerepo mirror FROM TO                           copies a repository into a second directory\n"
    ++ codes "icerepo COMMAND --help                           says more of a command\n"
    ++ codes "icerepo --version                                prints the version; -V is short for it, -h for --help\n"
    ++ codes "\n"
    ++ codes "Without --dir the repository is in memory, and is gone at the end. With it, it stays in that directory.\n"
    ++ codes "\n"

-- what `play` reads and prints
abbrev pub play_text : List ℕ
play_text =
    codes "icerepo play [--dir PATH]\n"
    ++ codes "\n"
    ++ codes "Reads a script from standard input and plays it, over a repository in memory, or in the directory PATH.\n"
    ++ codes "A line `put PATH FROM TO CELLS` writes the numbers of a box of cells, and `cells PATH FROM TO` shows them.\n"
    ++ codes "A line `prop NAME VALUE` before a commit gives its snapshot a text under a name, which `log` shows.\n"
    ++ codes "A line `lease` keeps what its task reads from collections, until the task ends.\n"
    ++ codes "A task `task NAME expire @2026-01-01T00:00:00Z keep` takes older snapshots out of the histories of refs.\n"
    ++ codes "A task `task NAME collect @2026-01-01T00:00:00Z` removes objects that no ref reaches and that are older.\n"
    ++ codes "Prints what each task showed and how it ended, and then the snapshot at which each branch and tag stands.\n"
    ++ codes "\n"

-- what `cells` reads and prints
abbrev pub cells_text : List ℕ
cells_text =
    codes "icerepo cells BRANCH PATH FROM TO [--dir PATH]\n"
    ++ codes "\n"
    ++ codes "Reads nothing. Prints the numbers that the array PATH has at BRANCH in the box from FROM up to TO, which isn't\n"
    ++ codes "in it. FROM and TO have a number for each dimension, with commas between them, and are `-` where it has none.\n"
    ++ codes "Plays the script of the two lines `task cells read branch BRANCH` and `cells PATH FROM TO`, over a repository\n"
    ++ codes "in memory, where there is no array, or in the directory PATH, and prints its report.\n"
    ++ codes "\n"

-- what `grow` reads and prints
abbrev pub grow_text : List ℕ
grow_text =
    codes "icerepo grow N [--dir PATH]\n"
    ++ codes "\n"
    ++ codes "Reads nothing. Makes a script of one task that lays out an array and N tasks, N from 1 to 60, that each fill\n"
    ++ codes "50 of its chunks, and plays it, over a repository in memory, or in the directory PATH. The same N makes the\n"
    ++ codes "same script. Prints one line: how many tasks there were, how many committed and were refused, and how many\n"
    ++ codes "operations of the store were made.\n"
    ++ codes "\n"

-- what `check` reads and prints
abbrev pub check_text : List ℕ
check_text =
    codes "icerepo check [--dir PATH] [--progress]\n"
    ++ codes "\n"
    ++ codes "Reads nothing. Reads all that the branches and tags of the repository reach, in memory, where there is none, or in\n"
    ++ codes "the directory PATH: snapshots, logs, manifests, and the objects with chunks, each once. Changes nothing. Prints a\n"
    ++ codes "line for each object that is wrong: `absent`, `bad`, `ring` or `notwell`, and its name; and then `check checked`\n"
    ++ codes "with the numbers of snapshots and of objects with chunks, or `check refused 0` and why. That a chunk has as many\n"
    ++ codes "bytes as it should is tested; what they are isn't, as no digest of them is kept: a changed byte in a chunk isn't found.\n"
    ++ codes "With --progress it says on standard error how many operations it has made, at each thousand.\n"
    ++ codes "\n"

-- what `mirror` does and prints
abbrev pub mirror_text : List ℕ
mirror_text =
    codes "icerepo mirror FROM TO\n"
    ++ codes "\n"
    ++ codes "Reads nothing. Copies the repository in the directory FROM into the directory TO, which must be there: all that its\n"
    ++ codes "branches and tags reach, and then the refs, so that each ref in TO names a whole tree at each moment. A mirror that was\n"
    ++ codes "cut off, or whose source has gone on, is run again. Nothing in FROM is changed, and nothing in TO removed: refs that\n"
    ++ codes "FROM lacks stay, a branch that names another snapshot is put anew, and any other difference is refused. Prints a line\n"
    ++ codes "for each ref, `branch NAME ID put` or `kept`, and then `mirrored` with the numbers of snapshots, logs, manifests and\n"
    ++ codes "objects with chunks that were put, or `mirror refused` and why.\n"
    ++ codes "\n"

-- what the exit statuses mean
abbrev pub statuses_text : List ℕ
statuses_text =
    codes "Exit status:\n"
    ++ codes "0  all went well, and all was written\n"
    ++ codes "1  a task was refused; the report says which, at which line, and why\n"
    ++ codes "2  wrong words; standard error names them, and nothing was done\n"
    ++ codes "3  a line of the script was refused; standard error names it, and nothing was done\n"
    ++ codes "4  standard input failed; nothing was done\n"
    ++ codes "5  standard output failed\n"
    ++ codes "6  the store failed\n"
    ++ codes "7  there was no memory\n"
    ++ codes "8  the directory can't be used\n"
    ++ codes "\n"

-- two calls of `play`
abbrev pub play_example : List ℕ
play_example =
    codes "Example:\n"
    ++ codes "$ printf 'task a write main 0 fail\\ngroup /\\ncommit first\\n' | icerepo play\n"
    ++ codes "a committed 0000008000000000000G\n"
    ++ codes "branch main 0000008000000000000G\n"
    ++ codes "Without a line `commit` the changes are dropped, and the status is 0 all the same:\n"
    ++ codes "$ printf 'task a write main 0 fail\\ngroup /\\n' | icerepo play\n"
    ++ codes "a done\n"
    ++ codes "branch main 1CECHNKREP0F1RSTCMT0\n"

-- a call of `cells`
abbrev pub cells_example : List ℕ
cells_example =
    codes "Example, over a directory in which `play` wrote four numbers:\n"
    ++ codes "$ icerepo cells main /t 0 4 --dir repo\n"
    ++ codes "cells 2 cells 1,2,-1,-1\n"
    ++ codes "cells done\n"
    ++ codes "branch main C6MK83Z0XBWTSG5RXQK0\n"

-- a call of `grow`
abbrev pub grow_example : List ℕ
grow_example =
    codes "Example:\n"
    ++ codes "$ icerepo grow 1\n"
    ++ codes "tasks 2 committed 2 refused 0 events 16\n"

-- a call of `check`
abbrev pub check_example : List ℕ
check_example =
    codes "Example:\n"
    ++ codes "$ icerepo check\n"
    ++ codes "check checked 0 0\n"

-- a call of `mirror`
abbrev pub mirror_example : List ℕ
mirror_example =
    codes "Example, over a directory in which `play` wrote four numbers, and an empty one:\n"
    ++ codes "$ icerepo mirror repo copy\n"
    ++ codes "branch main C6MK83Z0XBWTSG5RXQK0 put\n"
    ++ codes "mirrored 2 1 1 0\n"

-- the help on a topic
abbrev pub help_of : Topic → List ℕ
help_of T.Program = program_text ++ statuses_text ++ play_example
help_of T.Play = play_text ++ statuses_text ++ play_example
help_of T.Cells = cells_text ++ statuses_text ++ cells_example
help_of T.Grow = grow_text ++ statuses_text ++ grow_example
help_of T.Check = check_text ++ statuses_text ++ check_example
help_of T.Mirror = mirror_text ++ statuses_text ++ mirror_example
