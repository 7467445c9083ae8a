use Rattle.std.proofs.Common.{true, false, arith, refl}
use Rattle.demangle_v0_parser.proofs.TypeSteps.{encloses}
use Rattle.demangle_v0_grammar.specs.Items.{a_type}
use Rattle.demangle_v0_parser.proofs.BackrefSteps.{unit_type}
use Rattle.demangle_v0_grammar.specs.Reading.{parse}
use Rattle.demangle_v0_parser.specs.Productions.{dyn_type}
use Rattle.demangle_v0_parser.specs.Traces.{trace_at, frame_at}
use Rattle.demangle_v0_tokens.specs.declared.fixed_texts.FixedText.TheVariants as fixed
use Rattle.demangle_v0_parser.specs.declared.Continuation.TheVariants as continuation
use Rattle.demangle_v0_parser.proofs.Parsers.{advanced_rest}
use Rattle.demangle_v0_parser.proofs.StepCases.{alike, enters, marks}
use Rattle.demangle_v0_parser.proofs.parse.Parser.constructed_type.Goals as goal

pub returns-in-ConstPointer : goal.returns-in-ConstPointer
unfolding parse trace_at
returns-in-ConstPointer g c = rw (c.in-ConstPointer.is, c.put.ensures) (record { does = marks continuation.Const refl (omega arith) (omega arith) (omega (arith, c.requires.can_step.fits)); same = (refl, refl, refl) })

pub returns-in-MutPointer : goal.returns-in-MutPointer
unfolding parse trace_at
returns-in-MutPointer g c = rw (c.in-MutPointer.is, c.put-in-MutPointer.ensures) (record { does = marks continuation.Mut refl (omega arith) (omega arith) (omega (arith, c.requires.can_step.fits)); same = (refl, refl, refl) })

pub returns-in-Tuple : goal.returns-in-Tuple
returns-in-Tuple g c = rw c.in-Tuple.is (advanced_rest g.V.Output c.args.output.now _ 5 50 9 c.tuple_type.ensures)

pub returns-in-Array : goal.returns-in-Array
unfolding parse trace_at
returns-in-Array g c = rw (c.in-Array.is, c.put-in-Array.ensures, c.push.ensures) (record { does = enters continuation.«Type» (frame_at continuation.ArrayLength c.args.self.now.state) refl refl (omega arith) (omega arith) (omega arith) (omega (arith, c.requires.can_step.fits)) (omega (arith, c.requires.can_step.fits)) refl; same = (refl, refl, refl) })

pub returns-in-Pattern : goal.returns-in-Pattern
unfolding parse trace_at
returns-in-Pattern g c = rw (c.in-Pattern.is, c.push-in-Pattern.ensures) (record { does = enters continuation.«Type» (frame_at continuation.PatternIs c.args.self.now.state) (rw c.requires.can_step.no_pending_text refl) refl (omega arith) (omega arith) (omega arith) (omega (arith, c.requires.can_step.fits)) (omega (arith, c.requires.can_step.fits)) refl; same = (refl, refl, refl) })

pub returns-in-Slice : goal.returns-in-Slice
unfolding parse trace_at
returns-in-Slice g c = rw (c.in-Slice.is, c.put-in-Slice.ensures, c.push_if_printing.ensures.parser) (record {
  does = encloses continuation.«Type» a_type false c.args.self.now.state.in_value fixed.OpenBracket refl refl (omega arith) (omega arith) (omega arith) (omega (arith, c.requires.can_step.fits)) (omega (arith, c.requires.can_step.fits)) c.push_if_printing.ensures.is_printed c.push_if_printing.ensures.without_output;
  same = (refl, refl, refl);
})

pub returns-in-Backref : goal.returns-in-Backref
returns-in-Backref g c =
    let s = c.args.self.now.state in
    let d = c.follow_backref.ensures.performs true a_type false (unit_type c.args.self.now.source.symbol.now c.args.self.now.source.form s.in_value s.letter s.lifetimes) in
    rw c.in-Backref.is (record { does = alike (omega arith) refl (omega arith) (omega arith) d.does; same = d.same })

pub returns-in-Function : goal.returns-in-Function
returns-in-Function g c = rw c.in-Function.is (record {
  does = alike (omega arith) refl (omega arith) (omega arith) c.function_binder.ensures.performs.does;
  same = c.function_binder.ensures.performs.same;
})

pub returns-in-Dyn : goal.returns-in-Dyn
returns-in-Dyn g c =
    let d = advanced_rest g.V.Output c.args.output.now dyn_type 5 4 5 c.dyn_type.ensures in
    rw c.in-Dyn.is (record {
      does = alike (omega arith) refl (omega arith) (omega arith) d.does;
      same = d.same;
    })
