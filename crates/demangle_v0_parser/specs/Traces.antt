-- Internal: no public contract cites this.
-- The remaining trace of continuations, frames and stacks.
use Rattle.std.specs.Prelude.{Bool, List, None, Option, Some, [], false, ℕ, ◌++◌, ◌+◌, ◌∷◌}
use Rattle.demangle_v0_grammar.specs.Items.{Text, a_constant, a_path, a_pattern, a_trait_path, a_type}
use Rattle.demangle_v0_grammar.specs.Reading.{Form, Place, parse, unit_outcome}
use Rattle.demangle_v0_grammar.specs.LookTotals.{total}
use Rattle.demangle_v0_grammar.specs.Traces.{Trace, and_then, context_at, empty_trace, of, with_end, with_looks, with_reference, with_texts}
use Rattle.demangle_v0_tokens.specs.Texts.{text}
use Rattle.demangle_v0_tokens.specs.declared.fixed_texts.FixedText.{FixedText}
use Rattle.demangle_v0_parser.specs.declared.Continuation.{Continuation}
use Rattle.demangle_v0_parser.specs.declared.Continuation.TheVariants as continuation
use Rattle.demangle_v0_parser.specs.declared.frames.Frame.{Frame}
use Rattle.demangle_v0_parser.specs.declared.State.{State}
use Rattle.demangle_v0_parser.specs.Continuations.{bindings_left, items_at}

-- the trace, after which no bracket of a dyn trait path is open
abbrev pub with_closed_bracket : Trace → Trace
with_closed_bracket h = record h { is_bracket_open = false }

-- the remaining trace of a continuation: the rest of its production
unfoldable pub trace_at : List ℕ → Form → Bool → Continuation → Bool → ℕ → ℕ → ℕ → Place → Bool → Trace
trace_at b form out continuation.End v c left n i o = empty_trace i o
trace_at b form out continuation.AfterBackref v c left n i o = with_end out i (empty_trace (Some n) o)
trace_at b form out continuation.Path v c left n i o = with_closed_bracket (of form out (unit_outcome (context_at b form out left n) a_path v i))
trace_at b form out continuation.TargetPath v c left n i o = with_closed_bracket (of form out (unit_outcome (context_at b form out left n) a_path v i))
trace_at b form out continuation.«Type» v c left n i o = with_closed_bracket (of form out (unit_outcome (context_at b form out left n) a_type false i))
trace_at b form out continuation.TargetType v c left n i o = with_closed_bracket (of form out (unit_outcome (context_at b form out left n) a_type false i))
trace_at b form out continuation.Constant v c left n i o = with_closed_bracket (of form out (unit_outcome (context_at b form out left n) a_constant v i))
trace_at b form out continuation.TargetConstant v c left n i o = with_closed_bracket (of form out (unit_outcome (context_at b form out left n) a_constant v i))
trace_at b form out continuation.Pattern v c left n i o = with_closed_bracket (of form out (unit_outcome (context_at b form out left n) a_pattern false i))
trace_at b form out continuation.TraitPath v c left n i o = of form out (unit_outcome (context_at b form out left n) a_trait_path false i)
trace_at b form out continuation.OpenTraitArguments v c left n i o = of form out (parse (items_at continuation.OpenTraitArguments v c) (context_at b form out left n) i)
trace_at b form out continuation.FirstTraitArgument v c left n i o = of form out (parse (items_at continuation.FirstTraitArgument v c) (context_at b form out left n) i)
trace_at b form out continuation.FoldedTraitArguments v c left n i o = of form out (parse (items_at continuation.FoldedTraitArguments v c) (context_at b form out left n) i)
trace_at b form out continuation.NextTraitArgument v c left n i o = of form out (parse (items_at continuation.NextTraitArgument v c) (context_at b form out left n) i)
trace_at b form out continuation.Bindings v c left n i o = with_closed_bracket (of form out (parse (bindings_left o) (context_at b form out left n) i))
trace_at b form out p v c left n i o = with_closed_bracket (of form out (parse (items_at p v c) (context_at b form out left n) i))

-- the remaining trace of the production that a parse is in
abbrev pub trace_of_state : List ℕ → Form → Bool → Continuation → State → Trace
trace_of_state b form out p s = trace_at b form out p s.in_value s.letter s.depth_left s.lifetimes s.place s.is_bracket_open

abbrev pub trace_of_frame : List ℕ → Form → Bool → Frame → Place → Bool → Trace
trace_of_frame b form out f i o = trace_at b form out f.continuation f.in_value f.letter f.depth_left f.number i o

-- the remaining trace of a stack; the last frame comes first
unfoldable pub trace_of_stack : List ℕ → Form → Bool → List Frame → Place → Bool → Trace
trace_of_stack b form out [] i o = empty_trace i o
trace_of_stack b form out (f ∷ above) i o = and_then (trace_of_stack b form out above i o) (trace_of_frame b form out f)

abbrev pub remaining_trace : List ℕ → Form → Bool → Continuation → State → List Frame → Trace
remaining_trace b form out p s stack = and_then (trace_of_state b form out p s) (trace_of_stack b form out stack)

abbrev pub frame_of : Continuation → Bool → ℕ → ℕ → ℕ → Frame
frame_of p v c left n = record { continuation = p; in_value = v; letter = c; depth_left = left; number = n }

abbrev pub frame_at : Continuation → State → Frame
frame_at p s = frame_of p s.in_value s.letter s.depth_left s.lifetimes

-- Parts of a step.

-- a part of a step: it allows these looks, it prints these texts, it follows a reference to a place, or it ends what a
-- reference leads to
pub data Action : Type 0 where
  allows_looks : List ℕ → Action
  puts : List Text → Action
  goes_back : ℕ → Action
  comes_back : Place → Action

abbrev pub with_actions : Bool → List Action → Trace → Trace
with_actions out [] h = h
with_actions out (allows_looks ks ∷ bits) h = with_looks ks (with_actions out bits h)
with_actions out (puts ts ∷ bits) h = with_texts out ts (with_actions out bits h)
with_actions out (goes_back t ∷ bits) h = with_reference out t (with_actions out bits h)
with_actions out (comes_back e ∷ bits) h = with_end out e (with_actions out bits h)

abbrev pub action_looks : List Action → ℕ
action_looks [] = 0
action_looks (allows_looks ks ∷ bits) = total ks + action_looks bits
action_looks (puts ts ∷ bits) = action_looks bits
action_looks (goes_back t ∷ bits) = action_looks bits
action_looks (comes_back e ∷ bits) = action_looks bits

abbrev pub action_texts : List Action → List Text
action_texts [] = []
action_texts (allows_looks k ∷ bits) = action_texts bits
action_texts (puts ts ∷ bits) = ts ++ action_texts bits
action_texts (goes_back t ∷ bits) = action_texts bits
action_texts (comes_back e ∷ bits) = action_texts bits

-- the pending text, which the step still has to print
abbrev pub pending_texts : Option FixedText → List Text
pending_texts None = []
pending_texts (Some m) = text m ∷ []

abbrev pub pushed_on : List Frame → Option Frame → List Frame
pushed_on stack None = stack
pushed_on stack (Some f) = stack ++ f ∷ []

unfoldable pub then_frame : List ℕ → Form → Bool → Option Frame → Trace → Trace
then_frame b form out None h = h
then_frame b form out (Some f) h = and_then h (trace_of_frame b form out f)
