-- References to snapshots, as the files of branches and tags have them: a JSON object with the
-- member `snapshot`. (Icechunk specification version 1, references.)
use Rattle.std.specs.Prelude.{ℕ, ◌≡◌, List, ◌++◌, Some, None, Ok, Err, codes}
use Rattle.serde_json.specs.Data.{Data}
use Rattle.json_words.specs.Reading.{ReadsAs, IsRefused, text_member}
use Rattle.json_words.specs.declared.JsonFault.{JsonFault}
use Rattle.json_words.specs.declared.JsonFault.TheVariants as json
use Rattle.ice_ids.specs.declared.Id12.{Id12}
use Rattle.ice_ids.specs.Text.{id12_text, id12_of_text}
use Rattle.ref_file.specs.declared.RefFault.{RefFault}
use Rattle.ref_file.specs.declared.RefFault.TheVariants.{Json, Member, Id, NoMemory}

abbrev pub member_name : List ℕ
member_name = codes "snapshot"

-- the file refers to the snapshot of this id; other members aren't looked at
abbrev pub RefersTo : List ℕ → Id12 → Type 0
RefersTo file id =
    (value : Data) × (text : List ℕ) × ReadsAs file value
    × (text_member member_name value ≡ Some text) × (id12_of_text text ≡ Ok id)

-- the cause of each refusal, of which the first is told; want of memory may come anywhere
abbrev pub Refuses : List ℕ → RefFault → Type 0
Refuses file Json = IsRefused file
Refuses file Member = (value : Data) × ReadsAs file value × (text_member member_name value ≡ None)
Refuses file (Id fault) =
    (value : Data) × (text : List ℕ) × ReadsAs file value
    × (text_member member_name value ≡ Some text) × (id12_of_text text ≡ Err fault)
Refuses file NoMemory = Unit {0}

-- what a refusal of the JSON is here
abbrev pub json_fault : JsonFault → RefFault
json_fault json.Json = Json
json_fault json.NoMemory = NoMemory

-- own: the one spelling that is written, `{"snapshot":"ID"}`
unfoldable pub ref_bytes : Id12 → List ℕ
ref_bytes id = codes "{\"snapshot\":\"" ++ id12_text id ++ codes "\"}"
