use Rattle.std.proofs.Common.{◌≡◌, ◌∙◌, ap, map, List, ℕ, ◌++◌, ◌∷◌, [], Global}
use Rattle.std.specs.Prelude.{string_bytes, String}
use Rattle.std.proofs.lemmas.List.{map-append}
use Rattle.folder.proofs.Names.{adds-name}
use Rattle.folder.proofs.memory.add_name.Goals as goal

mapped : (old : List (String Global)) (text : String Global) (new : List (String Global)) (name : List ℕ) → new ≡ old ++ text ∷ [] → string_bytes text ≡ name → map string_bytes new ≡ map string_bytes old ++ name ∷ []
mapped old text new name is same = ap (map string_bytes) is ∙ map-append string_bytes old (text ∷ []) ∙ ap (λ bytes. map string_bytes old ++ bytes ∷ []) same

pub returns-in_ok-push : goal.returns-in_ok-push
returns-in_ok-push c =
    adds-name c.args.path.now c.args.folder.now c.in-Some.name.now (map string_bytes c.args.names.now.items) (map string_bytes c.push.new.self.items)
    (mapped c.args.names.now.items c.in_ok-from_str.field-0 c.push.new.self.items c.in-Some.name.now c.in_ok-push.ensures.items c.in_ok-from_str.ensures.ok) (λ name rest. c.in-Some.ensures name rest)
