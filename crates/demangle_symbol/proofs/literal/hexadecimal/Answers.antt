use Rattle.std.proofs.Common.{◌≡◌, ℕ, suc, ◌+◌, ◌-◌, ◌/◌, ◌%◌, ◌^◌, ◌<◌, List, ◌∷◌, false, length, sym, ap, ◌∙◌, arith}
use Rattle.std.specs.Fmt.{digits, digits_onto, digit_glyph}
use Rattle.demangle_symbol.proofs.Escaping.{onto_last, onto_more, shrinks}
use Rattle.demangle_symbol.proofs.literal.hexadecimal.Goals as goal

-- the text after one more digit
glyphs : (d n : ℕ) (text new : List ℕ) → new ≡ d ∷ text → d ≡ digit_glyph false n → new ≡ digit_glyph false n ∷ text
glyphs d n text new e f = e ∙ ap (λ x. x ∷ text) f

pub loop-turn-init : goal.loop-turn-init
unfolding digits
loop-turn-init c = record {
  count = ap length c.new-text.ensures;
  small = omega arith;
  begun = λ h. absurd (omega arith);
  onto = ap (digits_onto 64 16 false c.args.number) c.new-text.ensures;
}

pub returns-then-rest-eq0 : goal.returns-then-rest-eq0
returns-then-rest-eq0 c =
    let l = c.loop-turn in
    let left : 64 - l._turn ≡ suc (63 - l._turn) = omega arith in
    glyphs _ _ _ _ c.insert.ensures.items c.digit_char.ensures
    ∙ sym (onto_last (63 - l._turn) (64 - l._turn) l.rest l.text.items left c.if-rest-eq0.true)
    ∙ l.invariant.onto

pub loop-turn-preserved : goal.loop-turn-preserved
loop-turn-preserved c =
    let l = c.loop-turn in
    let left : 64 - l._turn ≡ suc (63 - l._turn) = omega arith in
    let next : 64 - (l._turn + 1) ≡ 63 - l._turn = omega arith in
    let some : 0 < l.rest / 16 = omega (arith, c.if-rest-eq0.false) in
    let left16 : 16 - l._turn ≡ 16 - (l._turn + 1) + 1 = omega arith in
    let new : c.insert.new.self.items ≡ digit_glyph false (l.rest % 16) ∷ l.text.items = glyphs _ _ _ _ c.insert.ensures.items c.digit_char.ensures in
    record {
      count = omega (arith, c.insert.ensures.len, l.invariant.count);
      small = shrinks l.rest (16 - (l._turn + 1)) (16 - l._turn) left16 l.invariant.small;
      begun = λ _. some;
      onto = ap (λ k. digits_onto k 16 false (l.rest / 16) c.insert.new.self.items) next
          ∙ ap (digits_onto (63 - l._turn) 16 false (l.rest / 16)) new
          ∙ sym (onto_more (63 - l._turn) (64 - l._turn) l.rest l.text.items left some)
          ∙ l.invariant.onto;
    }

pub returns : goal.returns
returns c =
    let l = c.loop-turn in
    let none : 16 - l._turn ≡ 0 = omega arith in
    let small : l.rest < 16 ^ 0 = rw none at l.invariant.small in
    absurd (omega (arith, l.invariant.begun (omega arith)))
