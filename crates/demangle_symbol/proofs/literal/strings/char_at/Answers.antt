use Rattle.std.proofs.Common.{◌≡◌, ℕ, ◌+◌, ◌*◌, List, ◌∷◌, take, set, option_map, inl, inr, sym, ap, ◌∙◌, subst, arith, length-take}
use Rattle.std.specs.List.{slice_range}
use Rattle.std.specs.Str.{IsUtf8}
use Rattle.std.specs.Prelude.{encode_utf8}
use Rattle.std.proofs.lemmas.List.{take-take}
use Rattle.std.proofs.lemmas.List.Edits.{length-between}
use Rattle.demangle_symbol.specs.Literals.{string_of}
use Rattle.demangle_symbol.specs.Nibbles.{nibbles_in}
use Rattle.demangle_symbol.proofs.Hex.{hex_within}
use Rattle.demangle_symbol.proofs.Nibbles.{pairs, length-pairs, string_prefix, string_none, one_char, part_after, pair_more, none_more, bytes_step}
use Rattle.demangle_symbol.proofs.literal.strings.char_at.Goals as goal

pub returns-then-rest-at-lt2-clause-none : goal.returns-then-rest-at-lt2-clause-none
returns-then-rest-at-lt2-clause-none c =
    let s = c.args.symbol.now in
    let r = c.args.rest in
    let within = hex_within s r.from c.requires.hex.0 r.to c.requires.hex.1 in
    let n = length-between s r.from r.to (omega (arith, within)) in
    string_none (nibbles_in s r) c.loop-len.len (omega arith) c.loop-len.invariant.none (inr (omega arith))

pub returns-in-Some-clause-some : goal.returns-in-Some-clause-some
returns-in-Some-clause-some c =
    let s = c.args.symbol.now in
    let r = c.args.rest in
    let l = c.loop-len in
    let bs : List ℕ = pairs (nibbles_in s r) in
    let within = hex_within s r.from c.requires.hex.0 r.to c.requires.hex.1 in
    let n = length-between s r.from r.to (omega (arith, within)) in
    let p = length-pairs (nibbles_in s r) in
    let more = pair_more s r.from r.to l.len c.nibble_byte.result (omega (arith, within)) (omega arith) c.nibble_byte.ensures.value in
    let same : take (l.len + 1) (set l.bytes l.len c.nibble_byte.result) ≡ take (l.len + 1) bs = bytes_step l.bytes bs l.len c.nibble_byte.result (omega arith) l.invariant.bytes more in
    let rest = c.in-Some.ensures.some in
    let whole : take (l.len + 1) bs ≡ encode_utf8 c.in-Some.c =
    one_char (take (l.len + 1) bs) rest.0 c.in-Some.c (l.len + 1) (sym same ∙ rest.1) (omega (arith, length-take (l.len + 1) bs)) c.in-Some.ensures.scalar
    (λ m some lt u. l.invariant.none m some (omega arith) (subst IsUtf8 (take-take m (l.len + 1) bs (omega arith)) u)) in
    let twice : r.from + 2 * (l.len + 1) ≡ r.from + 2 * l.len + 2 = omega arith in
    string_prefix (nibbles_in s r) (l.len + 1) c.in-Some.c (omega arith) whole c.in-Some.ensures.scalar
    ∙ ap (λ ns. option_map (λ cs. c.in-Some.c ∷ cs) (string_of ns)) (part_after s r.from (2 * (l.len + 1)) r.to (omega arith) ∙ ap (λ k. slice_range s k r.to) twice)

pub loop-len-preserved : goal.loop-len-preserved
loop-len-preserved c =
    let s = c.args.symbol.now in
    let r = c.args.rest in
    let l = c.loop-len in
    let bs : List ℕ = pairs (nibbles_in s r) in
    let within = hex_within s r.from c.requires.hex.0 r.to c.requires.hex.1 in
    let more = pair_more s r.from r.to l.len c.nibble_byte.result (omega (arith, within)) (omega arith) c.nibble_byte.ensures.value in
    let same : take (l.len + 1) (set l.bytes l.len c.nibble_byte.result) ≡ take (l.len + 1) bs = bytes_step l.bytes bs l.len c.nibble_byte.result (omega arith) l.invariant.bytes more in
    record {
      left = omega arith;
      size = c.nibble_byte.array_long;
      bytes = same;
      none = none_more bs l.len l.invariant.none (λ u. c.in_default.ensures.none (subst IsUtf8 (sym same) u));
      looked = omega arith;
    }

pub returns-clause-none : goal.returns-clause-none
returns-clause-none c =
    let s = c.args.symbol.now in
    let r = c.args.rest in
    let within = hex_within s r.from c.requires.hex.0 r.to c.requires.hex.1 in
    let n = length-between s r.from r.to (omega (arith, within)) in
    string_none (nibbles_in s r) c.loop-len.len (omega arith) c.loop-len.invariant.none (inl (omega arith))
