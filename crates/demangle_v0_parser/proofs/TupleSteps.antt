-- The continuations of tuple types.
use Rattle.std.proofs.Common.{true, false, refl, arith}
use Rattle.demangle_v0_grammar.specs.Items.{done}
use Rattle.demangle_v0_grammar.specs.Table.{more, type_inside, print_str}
use Rattle.demangle_v0_grammar.proofs.ListTraces.{second}
use Rattle.demangle_v0_parser.specs.Traces.{trace_at}
use Rattle.demangle_v0_parser.specs.Steps.{Env}
use Rattle.demangle_v0_parser.specs.declared.Continuation.TheVariants as continuation
use Rattle.demangle_v0_parser.specs.declared.State.{State}
use Rattle.demangle_v0_parser.proofs.ListSteps.{Listed, type_units, of_units}

pub first_type : {V : Type 0} (e : Env V) → Listed e continuation.FirstTupleType continuation.«Type» continuation.SecondTupleType (λ (s : State). s.in_value) true type_inside (print_str ")" done) (second type_inside (print_str ")" done))
unfolding trace_at
first_type e = of_units (type_units e) (λ s. refl) (λ s j o. refl) refl (omega arith) (omega arith) (λ left. refl) (λ left. omega arith) (λ left n f. f) refl

pub next_type : {V : Type 0} (e : Env V) → Listed e continuation.NextTupleType continuation.«Type» continuation.NextTupleType (λ (s : State). s.in_value) false type_inside (print_str ")" done) (more ", " type_inside (print_str ")" done))
unfolding trace_at
next_type e = of_units (type_units e) (λ s. refl) (λ s j o. refl) refl (omega arith) (omega arith) (λ left. refl) (λ left. omega arith) (λ left n f. f) refl
