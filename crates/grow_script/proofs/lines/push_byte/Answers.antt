use Rattle.std.proofs.Common.{◌≡◌, ◌∙◌, ap, subst, false, [], ◌^◌, ◌-◌, option_map, Some, string_bytes, OnOk}
use Rattle.std.specs.Fmt.{AppendsText, styled_digits_output, padded_integral, format_spec}
use Rattle.std.proofs.lemmas.Fmt.{hex_byte}
use Rattle.grow_script.specs.Script.{hex_pair}
use Rattle.grow_script.proofs.lines.push_byte.Goals as goal

pub returns : goal.returns
returns c =
    let digits : styled_digits_output c.in_radix.result c.laid_out.result ≡ Some (hex_pair c.args.byte) =
    ap (styled_digits_output c.in_radix.result) c.laid_out.ensures ∙ ap (option_map (padded_integral (format_spec 32 0 4 2 (2 ^ 64 - 1)) false [])) c.in_radix.ensures ∙ ap Some (hex_byte false c.args.byte c.requires) in
    subst (λ out. OnOk c.write.result (AppendsText (string_bytes c.args.text.now) (string_bytes c.write.new.self) out)) digits c.write.ensures.bytes
