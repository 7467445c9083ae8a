use Rattle.std.proofs.Common.{true, arith, refl}
use Rattle.demangle_v0_grammar.specs.Items.{a_constant}
use Rattle.demangle_v0_grammar.specs.Reading.{parse}
use Rattle.demangle_v0_parser.specs.Traces.{trace_at}
use Rattle.demangle_v0_parser.specs.declared.Continuation.TheVariants as continuation
use Rattle.demangle_v0_tokens.specs.declared.tags.ConstantKind.TheVariants as kind
use Rattle.demangle_v0_parser.proofs.StepErrors.{stops_none}
use Rattle.demangle_v0_parser.proofs.Parsers.{advanced_rest}
use Rattle.demangle_v0_parser.proofs.BackrefSteps.{unit_constant}
use Rattle.demangle_v0_parser.proofs.TaggedConstantSteps.{constant_wrong, constant_as, number_reads, text_braced, mutable_braced, array_braced, tuple_braced}
use Rattle.demangle_v0_parser.proofs.StepCases.{marks}
use Rattle.demangle_v0_parser.proofs.parse.Parser.tagged_constant.Goals as goal

pub returns-in_err-kind : goal.returns-in_err-kind
returns-in_err-kind g c = record {
  does = rw (stops_none c.from_residual.result c.from_residual.ensures.1 c.in_err-kind.ensures.value
      c.in_err-kind.ensures.ok_part) (constant_wrong c.args.tag
      (rw c.in_err-kind.ensures.ok_part at c.constant_kind.ensures) c.requires.can_step.no_pending_text);
  same = (refl, refl, refl);
}

pub returns-in-Placeholder : goal.returns-in-Placeholder
unfolding parse trace_at
returns-in-Placeholder g c = rw (c.end_with.ensures.end, c.end_with.ensures.with_text) (record {
  does = constant_as c.args.tag kind.Placeholder
      (rw (c.in_ok-kind.ensures.ok_part, c.in-Placeholder.is) at c.constant_kind.ensures) (omega arith)
      (omega arith) (omega arith)
      (marks {words = 6} {weight = 6} {high = 0} continuation.End refl (omega arith) (omega arith) tt);
  same = (refl, refl, refl);
})

pub returns-in-Unsigned : goal.returns-in-Unsigned
returns-in-Unsigned g c = record {
  does = constant_as c.args.tag kind.Unsigned
      (rw (c.in_ok-kind.ensures.ok_part, c.in-Unsigned.is) at c.constant_kind.ensures) (omega arith)
      (omega arith) (omega arith) (number_reads c.args.tag c.number.ensures.performs.does);
  same = c.number.ensures.performs.same;
}

pub returns-in-Signed : goal.returns-in-Signed
returns-in-Signed g c = record {
  does = constant_as c.args.tag kind.Signed
      (rw (c.in_ok-kind.ensures.ok_part, c.in-Signed.is) at c.constant_kind.ensures) (omega arith)
      (omega arith) (omega arith) c.signed_number.ensures.does;
  same = c.signed_number.ensures.same;
}

pub returns-in-Bool : goal.returns-in-Bool
returns-in-Bool g c = record {
  does = constant_as c.args.tag kind.Bool
      (rw (c.in_ok-kind.ensures.ok_part, c.in-Bool.is) at c.constant_kind.ensures) (omega arith)
      (omega arith) (omega arith) c.end_with_token.ensures.performs.does;
  same = c.end_with_token.ensures.performs.same;
}

pub returns-in-Char : goal.returns-in-Char
returns-in-Char g c = record {
  does = constant_as c.args.tag kind.Char
      (rw (c.in_ok-kind.ensures.ok_part, c.in-Char.is) at c.constant_kind.ensures) (omega arith)
      (omega arith) (omega arith) c.end_with_token-in-Char.ensures.performs.does;
  same = c.end_with_token-in-Char.ensures.performs.same;
}

pub returns-in-Text : goal.returns-in-Text
returns-in-Text g c = rw (c.with_braces.ensures.continuation, c.with_braces.ensures.parser) (record {
  does = constant_as c.args.tag kind.Text
      (rw (c.in_ok-kind.ensures.ok_part, c.in-Text.is) at c.constant_kind.ensures) (omega arith)
      (omega arith) (omega arith) (text_braced _ _ _ c.requires.can_step.fits (refl, refl));
  same = (refl, refl, refl);
})

pub returns-in-Mut : goal.returns-in-Mut
returns-in-Mut g c = rw (c.with_braces-in-Mut.ensures.continuation, c.with_braces-in-Mut.ensures.parser) (record {
  does = constant_as c.args.tag kind.Mut
      (rw (c.in_ok-kind.ensures.ok_part, c.in-Mut.is) at c.constant_kind.ensures) (omega arith)
      (omega arith) (omega arith) (mutable_braced _ _ _ c.requires.can_step.fits (refl, refl));
  same = (refl, refl, refl);
})

pub returns-in-Array : goal.returns-in-Array
returns-in-Array g c = rw (c.with_braces-in-Array.ensures.continuation, c.with_braces-in-Array.ensures.parser) (record {
  does = constant_as c.args.tag kind.Array
      (rw (c.in_ok-kind.ensures.ok_part, c.in-Array.is) at c.constant_kind.ensures) (omega arith)
      (omega arith) (omega arith) (array_braced _ _ _ c.requires.can_step.fits (refl, refl));
  same = (refl, refl, refl);
})

pub returns-in-Tuple : goal.returns-in-Tuple
returns-in-Tuple g c = rw (c.with_braces-in-Tuple.ensures.continuation, c.with_braces-in-Tuple.ensures.parser) (record {
  does = constant_as c.args.tag kind.Tuple
      (rw (c.in_ok-kind.ensures.ok_part, c.in-Tuple.is) at c.constant_kind.ensures) (omega arith)
      (omega arith) (omega arith) (tuple_braced _ _ _ c.requires.can_step.fits (refl, refl));
  same = (refl, refl, refl);
})

pub returns-in-Shared : goal.returns-in-Shared
returns-in-Shared g c = let d = advanced_rest g.V.Output c.args.output.now _ 6 6 9 c.shared_reference.ensures in record {
  does = constant_as c.args.tag kind.Shared
      (rw (c.in_ok-kind.ensures.ok_part, c.in-Shared.is) at c.constant_kind.ensures) (omega arith)
      (omega arith) (omega arith) d.does;
  same = d.same;
}

pub returns-in-Variant : goal.returns-in-Variant
returns-in-Variant g c = let d = advanced_rest g.V.Output c.args.output.now _ 6 6 9 c.variant_path.ensures in record {
  does = constant_as c.args.tag kind.Variant
      (rw (c.in_ok-kind.ensures.ok_part, c.in-Variant.is) at c.constant_kind.ensures) (omega arith)
      (omega arith) (omega arith) d.does;
  same = d.same;
}

pub returns-in-Backref : goal.returns-in-Backref
returns-in-Backref g c =
    let m = c.args.self.now in
    let d = c.follow_backref.ensures.performs true a_constant m.state.in_value
    (unit_constant m.source.symbol.now m.source.form m.state.in_value m.state.letter m.state.lifetimes) in
    record {
      does = constant_as c.args.tag kind.Backref
          (rw (c.in_ok-kind.ensures.ok_part, c.in-Backref.is) at c.constant_kind.ensures) (omega arith)
          (omega arith) (omega arith) d.does;
      same = d.same;
    }
