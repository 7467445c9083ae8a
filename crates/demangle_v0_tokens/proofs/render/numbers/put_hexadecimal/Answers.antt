use Rattle.std.proofs.Common.{◌≡◌, ◌-◌, drop, take, subst, sym, ◌∙◌, arith, take_all}
use Rattle.std.specs.Str.{IsUtf8}
use Rattle.std.proofs.lemmas.List.{length-drop}
use Rattle.std.proofs.lemmas.Str.{IsUtf8-from_ascii}
use Rattle.demangle_v0_tokens.proofs.TokenTexts.{hex_ascii}
use Rattle.demangle_v0_tokens.proofs.render.numbers.put_hexadecimal.Goals as goal

pub from_utf8_unchecked-requires : goal.from_utf8_unchecked-requires
from_utf8_unchecked-requires g c =
    let start = c.write_hexadecimal-start.result in
    let text = c.write_hexadecimal-start.new.text in
    let all : take (16 - start) (drop start text) ≡ drop start text = take_all _ _ (omega (arith, length-drop start text, c.write_hexadecimal-start.array_long)) in
    subst IsUtf8 (sym (all ∙ c.write_hexadecimal-start.ensures.value)) (IsUtf8-from_ascii _ (hex_ascii c.args.number))
