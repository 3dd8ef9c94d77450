use Rattle.std.proofs.Common.{◌≡◌, sym, None, Some}
use Rattle.std.proofs.lemmas.Str.Pattern.{split_parts}
use Rattle.script_values.specs.Words.{cut_of}
use Rattle.script_values.proofs.Cuts.{cut_append, cut_whole, parts_from_cut, rest_shorter}
use Rattle.script_values.proofs.words.cut.Goals as goal

pub returns-in-Some : goal.returns-in-Some
returns-in-Some c =
    let p = split_parts c.args.separator c.args.text.now (Some (c.in-Some.first, c.in-Some.rest)) c.in-Some.ensures.cases c.requires in
    let e : cut_of c.args.separator c.args.text.now ≡ (c.in-Some.first.now, Some c.in-Some.rest.now) = rw p.0 (cut_append c.args.separator _ _ p.1) in
    record { cut = sym e; parts = parts_from_cut _ _ _ _ e; shorter = rest_shorter _ _ c.args.separator _ p.0 }

pub returns-in-None : goal.returns-in-None
returns-in-None c =
    let e = cut_whole c.args.separator c.args.text.now (split_parts c.args.separator c.args.text.now None c.in-None.ensures.cases c.requires) in
    record { cut = sym e; parts = parts_from_cut _ _ _ _ e; shorter = tt }
