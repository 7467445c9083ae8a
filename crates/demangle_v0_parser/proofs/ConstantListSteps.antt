-- The continuations of lists of constants.
use Rattle.std.specs.Prelude.{if◌then◌else◌}
use Rattle.std.proofs.Common.{Bool, true, false, refl, arith}
use Rattle.demangle_v0_grammar.specs.Items.{Items, print, done}
use Rattle.demangle_v0_tokens.specs.Texts.{text}
use Rattle.demangle_v0_grammar.specs.Table.{print_str, more, at_end, constant_inside}
use Rattle.demangle_v0_parser.specs.Productions.{at_first, after_first, after_next, element_continuation, list_element, close_of}
use Rattle.demangle_v0_parser.specs.Traces.{trace_at}
use Rattle.demangle_v0_parser.specs.Steps.{Env}
use Rattle.demangle_v0_parser.specs.declared.Continuation.{Continuation}
use Rattle.demangle_v0_parser.specs.declared.constant_lists.ConstantList.{ConstantList}
use Rattle.demangle_v0_parser.specs.declared.constant_lists.ConstantList.TheVariants as list
use Rattle.demangle_v0_grammar.proofs.ListProgress.{field_element}
use Rattle.demangle_v0_parser.proofs.ListSteps.{Units, Listed, constant_units, of_units}

-- the items at the end of a list
abbrev ending : ConstantList → Items
ending l = print (text (close_of l)) done

-- the items after the first element
abbrev after_second : ConstantList → Items
after_second list.Tuple = at_end (print_str "," (ending list.Tuple)) (more ", " constant_inside (ending list.Tuple))
after_second l = more ", " (list_element l) (ending l)

-- the continuation that reads the first element, or a further one
abbrev list_point : Bool → ConstantList → Continuation
list_point first l = if first then at_first l else after_next l

abbrev after_point : Bool → ConstantList → Continuation
after_point first l = if first then after_first l else after_next l

abbrev OfList : {V : Type 0} → Env V → Bool → ConstantList → Type 0
OfList e first l = Listed e (list_point first l) (element_continuation l) (after_point first l) (λ _. true) first (list_element l) (ending l) (after_second l)

module _ {V : Type 0} (e : Env V) where
  field_units : Units e (element_continuation list.Fields) (λ _. true) (list_element list.Fields)
  unfolding trace_at
  field_units = record { at = λ s i m. refl; element = λ left n. field_element e.symbol e.form e.output.is_printed left n; within = record { light = omega arith; low = λ left. omega arith; fits = λ left n f. f } }

  pub constants : (first : Bool) (l : ConstantList) → OfList e first l
  unfolding trace_at
  constants true list.Array = of_units (constant_units e) (λ s. refl) (λ s j o. refl) refl (omega arith) (omega arith) (λ left. refl) (λ left. omega arith) (λ left n f. f) refl
  constants true list.Tuple = of_units (constant_units e) (λ s. refl) (λ s j o. refl) refl (omega arith) (omega arith) (λ left. refl) (λ left. omega arith) (λ left n f. f) refl
  constants true list.TupleVariant = of_units (constant_units e) (λ s. refl) (λ s j o. refl) refl (omega arith) (omega arith) (λ left. refl) (λ left. omega arith) (λ left n f. f) refl
  constants false list.Array = of_units (constant_units e) (λ s. refl) (λ s j o. refl) refl (omega arith) (omega arith) (λ left. refl) (λ left. omega arith) (λ left n f. f) refl
  constants false list.Tuple = of_units (constant_units e) (λ s. refl) (λ s j o. refl) refl (omega arith) (omega arith) (λ left. refl) (λ left. omega arith) (λ left n f. f) refl
  constants false list.TupleVariant = of_units (constant_units e) (λ s. refl) (λ s j o. refl) refl (omega arith) (omega arith) (λ left. refl) (λ left. omega arith) (λ left n f. f) refl
  constants true list.Fields = of_units field_units (λ s. refl) (λ s j o. refl) refl (omega arith) (omega arith) (λ left. refl) (λ left. omega arith) (λ left n f. f) refl
  constants false list.Fields = of_units field_units (λ s. refl) (λ s j o. refl) refl (omega arith) (omega arith) (λ left. refl) (λ left. omega arith) (λ left n f. f) refl
