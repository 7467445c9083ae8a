use Rattle.std.proofs.Common.{◌≡◌, ℕ, List, [], ◌∷◌, ◌++◌, append_assoc, sym, refl, ap, ◌∙◌, arith}
use Rattle.demangle_symbol.specs.Nibbles.{nibbles_in, characters_of, character_pieces}
use Rattle.demangle_sink.proofs.PrintsLemmas.{prints_then, prints_stop}
use Rattle.demangle_symbol.proofs.StringPieces.{characters_on, characters_all, text_left, character_pieces-push, character_pieces-split}
use Rattle.demangle_symbol.proofs.literal.strings.put_characters.Goals as goal

pub loop-chars-preserved : goal.loop-chars-preserved
loop-chars-preserved g c =
    let s = c.args.symbol.now in
    let l = c.loop-chars in
    let p = l.invariant.put in
    let n = c.in-Some.ensures in
    let rest : List ℕ = characters_of (nibbles_in s c.next.new.self.rest) in
    let on = characters_on s c.args.nibbles l.chars.rest c.next.new.self.rest p.0 c.in-Some.c p.1 n.some l.invariant.text in
    record {
      hex = n.hex;
      text = text_left s l.chars.rest c.next.new.self.rest c.in-Some.c n.some l.invariant.text;
      begun = omega (arith, n.on);
      order = n.within;
      same_end = omega (arith, n.same_end);
      put = (
        p.0 ++ c.in-Some.c ∷ [],
        on ∙ sym (append_assoc p.0 (c.in-Some.c ∷ []) rest),
        rw (character_pieces-push p.0 c.in-Some.c) (prints_then g.S.TextSink _ _ _ _ _ _ _ p.2 refl c.in_ok-put_escaped.ensures),
      );
      grows = omega (arith, n.grows);
      looked = omega (arith, n.some_looks);
    }

pub returns-in_err-put_escaped-clause-prints : goal.returns-in_err-put_escaped-clause-prints
returns-in_err-put_escaped-clause-prints g c =
    let s = c.args.symbol.now in
    let l = c.loop-chars in
    let p = l.invariant.put in
    let rest : List ℕ = characters_of (nibbles_in s c.next.new.self.rest) in
    let on = characters_on s c.args.nibbles l.chars.rest c.next.new.self.rest p.0 c.in-Some.c p.1 c.in-Some.ensures.some l.invariant.text in
    let pieces : character_pieces (characters_of (nibbles_in s c.args.nibbles)) ≡ _ = ap character_pieces on ∙ character_pieces-split p.0 rest c.in-Some.c in
    rw pieces
    (prints_stop g.S.TextSink _ _ _ _ _ _ (prints_then g.S.TextSink _ _ _ _ _ _ _ p.2 refl c.in_err-put_escaped.ensures) refl c.from_residual.ensures.0)

pub returns-clause-prints : goal.returns-clause-prints
returns-clause-prints g c =
    let s = c.args.symbol.now in
    let p = c.loop-chars.invariant.put in
    rw (characters_all s c.args.nibbles c.loop-chars.chars.rest p.0 p.1 (c.is_done.ensures.0 c.loop-chars-test.false)) p.2
