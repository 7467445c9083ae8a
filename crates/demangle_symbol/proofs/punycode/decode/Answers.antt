use Rattle.std.proofs.Common.{◌≡◌, ℕ, ◌+◌, ◌-◌, ◌/◌, ◌<◌, List, length, Option, arith, inl, inr, refl, sym, ap, ◌∙◌, Bool, true, false}
use Rattle.std.specs.List.{slice_range}
use Rattle.std.specs.Prelude.{option_and_then}
use lib.Utf8.{scalar}
use Rattle.std.proofs.lemmas.Bool.{eqb-true, eqb-false}
use Rattle.std.proofs.lemmas.List.Edits.{length-between}
use Rattle.demangle_symbol.specs.Punycode.{deltas, next_delta, insertions}
use Rattle.demangle_sink.proofs.Parts.{part_none}
use Rattle.demangle_symbol.proofs.Inserting.{deltas_done, inserted_end, puny_long, puny_whole, then_none, then_too_large, then_turn, scalar_below}
use Rattle.demangle_symbol.proofs.punycode.decode.Goals as goal

pub returns-in_default-clause-characters : goal.returns-in_default-clause-characters
returns-in_default-clause-characters c =
    let s = c.args.symbol.now in
    let a = c.args.name.ascii in
    sym (puny_long _ _ (omega (arith, length-between s a.from a.to (omega arith), c.in_default.ensures.many)))

pub loop-at-init : goal.loop-at-init
loop-at-init c =
    let s = c.args.symbol.now in
    let a = c.args.name.ascii in
    let ds : List ℕ = slice_range s c.args.name.punycode.from c.args.name.punycode.to in
    let e = c.in-Some.ensures.characters in
    let n = length-between s a.from a.to (omega arith) in
    let m : length c.in-Some.characters.items ≡ a.to - a.from = ap length e ∙ n in
    record {
      begun = omega arith;
      inside = omega arith;
      short = omega (arith, c.in-Some.ensures.few);
      here = omega arith;
      scalar = omega arith;
      rest = ap (λ cs. option_and_then (insertions 128 0 cs) (deltas (next_delta (length cs) true 72) ds)) e ∙ puny_whole (slice_range s a.from a.to) ds;
      grows = c.in-Some.ensures.grows;
      looked = omega (arith, c.in-Some.ensures.looks);
    }

pub returns-in_default-delta_at-clause-characters : goal.returns-in_default-delta_at-clause-characters
returns-in_default-delta_at-clause-characters c =
    let l = c.loop-at in
    sym (sym l.invariant.rest ∙ then_too_large l.n l.i l.characters.items _ l.invariant.short (c.in_default-delta_at.ensures.none (length l.characters.items) l.first))

pub returns-then-is_full-clause-characters : goal.returns-then-is_full-clause-characters
returns-then-is_full-clause-characters c =
    let l = c.loop-at in
    let cs = l.characters.items in
    let full : length cs ≡ 128 = eqb-true _ _ (sym c.if-is_full.ensures.value) in
    sym (sym l.invariant.rest ∙ ap (option_and_then (insertions l.n l.i cs)) (c.in-Some-delta_at.ensures.some (length cs) l.first) ∙ then_none l.n l.i cs c.in-Some-delta_at.delta _ (inr (omega arith)))

not_true : (b : Bool) → (b ≡ true → ⊥) → b ≡ false
not_true true h = absurd (h refl)
not_true false h = refl

pub returns-in_default-from_u32-clause-characters : goal.returns-in_default-from_u32-clause-characters
returns-in_default-from_u32-clause-characters c =
    let l = c.loop-at in
    let cs = l.characters.items in
    let no : scalar (l.n + (l.i + c.in-Some-delta_at.delta) / (length cs + 1)) ≡ false =
    not_true _ (λ h. c.in_default-from_u32.ensures.value (ap (λ k. scalar (l.n + (l.i + c.in-Some-delta_at.delta) / (k + 1))) c.len.ensures.value ∙ h)) in
    sym (sym l.invariant.rest ∙ ap (option_and_then (insertions l.n l.i cs)) (c.in-Some-delta_at.ensures.some (length cs) l.first) ∙ then_none l.n l.i cs c.in-Some-delta_at.delta _ (inl no))

pub loop-at-preserved : goal.loop-at-preserved
loop-at-preserved c =
    let s = c.args.symbol.now in
    let to : ℕ = c.args.name.punycode.to in
    let l = c.loop-at in
    let cs = l.characters.items in
    let d = c.in-Some-delta_at in
    let u = c.in-Some-from_u32.ensures.value in
    let free : length cs < 128 = omega (arith, eqb-false (length cs) 128 (sym c.if-is_full.ensures.value)) in
    record {
      begun = omega (arith, d.ensures.within);
      inside = omega (arith, d.ensures.within);
      short = omega (arith, c.insert.ensures.len);
      here = omega (arith, c.insert.ensures.len, c.len.ensures.value);
      scalar = scalar_below _ u.0;
      rest = then_turn l.n l.i cs c.insert.new.self.items (slice_range s l.at to) (slice_range s d.next to) d.delta c.len.result l.bias c.adapt-bias.result c.in-Some-from_u32.c l.first
          c.len.ensures.value (d.ensures.some (length cs) l.first) u.0 free u.1 c.insert.ensures.items c.insert.ensures.len c.adapt-bias.ensures ∙ l.invariant.rest;
      grows = omega (arith, d.ensures.grows);
      looked = omega (arith, d.ensures.some_looks, d.ensures.within);
    }

pub returns-clause-characters : goal.returns-clause-characters
returns-clause-characters c =
    let s = c.args.symbol.now in
    let to : ℕ = c.args.name.punycode.to in
    let l = c.loop-at in
    let cs = l.characters.items in
    let end : l.at ≡ to = omega arith in
    let rest : List ℕ → Option (List ℕ) = λ t. option_and_then (insertions l.n l.i cs) (deltas (next_delta (length cs) l.first l.bias) t) in
    sym (sym l.invariant.rest ∙ ap (λ k. rest (slice_range s k to)) end ∙ ap rest (part_none s to) ∙ ap (option_and_then (insertions l.n l.i cs)) (deltas_done (length cs) l.first l.bias) ∙ inserted_end l.n l.i cs l.invariant.short)
