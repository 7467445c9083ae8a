use Rattle.std.proofs.Common.{true, arith, refl}
use Rattle.demangle_v0_grammar.specs.Items.{a_constant}
use Rattle.demangle_v0_grammar.specs.Reading.{parse}
use Rattle.demangle_v0_parser.specs.Traces.{trace_at}
use Rattle.demangle_v0_tokens.specs.declared.fixed_texts.FixedText.TheVariants as fixed
use Rattle.demangle_v0_parser.specs.declared.Continuation.TheVariants as continuation
use Rattle.demangle_v0_parser.proofs.TypeSteps.{encloses}
use Rattle.demangle_v0_parser.proofs.parse.Parser.array_length.Goals as goal

pub returns : goal.returns
unfolding parse trace_at
returns g c = rw (c.put.ensures, c.push_if_printing.ensures.parser) (record {
  does = encloses continuation.Constant a_constant true true fixed.Semicolon refl refl (omega arith) (omega arith) (omega arith) c.requires.can_step.fits c.requires.can_step.fits c.push_if_printing.ensures.is_printed c.push_if_printing.ensures.without_output;
  same = (refl, refl, refl);
})
