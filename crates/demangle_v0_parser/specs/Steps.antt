-- Internal: no public contract cites this.
-- The effect of one step.
use Rattle.std.specs.Prelude.{Err, IsAscii, IsOk, List, None, Ok, Option, Result, Some, [], false, length, true, ℕ, ◌*◌, ◌++◌, ◌+◌, ◌-◌, ◌<◌, ◌∷◌, ◌≡◌, ◌≤◌, ◌⊎◌}
use Rattle.demangle_v0_grammar.specs.Items.{Items}
use Rattle.demangle_v0_grammar.specs.Reading.{Form, Place, parse}
use Rattle.demangle_v0_grammar.specs.LookTotals.{total}
use Rattle.demangle_v0_grammar.specs.References.{bytes_after}
use Rattle.demangle_v0_grammar.specs.Traces.{Trace, context_at, empty_trace, of, with_end, with_looks, with_reference, with_texts}
use Rattle.demangle_v0_tokens.specs.Texts.{text}
use Rattle.demangle_v0_tokens.specs.Tokens.{texts_of}
use Rattle.demangle_v0_tokens.specs.declared.fixed_texts.FixedText.{FixedText}
use Rattle.demangle_v0_tokens.specs.declared.token.Token.{Token}
use Rattle.demangle_v0_parser.specs.declared.Continuation.{Continuation}
use Rattle.demangle_v0_parser.specs.declared.frames.Frame.{Frame}
use Rattle.demangle_v0_parser.specs.declared.State.{State}
use Rattle.demangle_v0_parser.specs.declared.StepError.{StepError}
use Rattle.demangle_v0_parser.specs.declared.StepError.TheVariants.{Abort, Sink}
use Rattle.demangle_v0_tokens.specs.declared.output.Output.{Ghosts}
use Rattle.demangle_sink.specs.declared.SinkRefused.{SinkRefused}
use Rattle.demangle_v0_parser.specs.Traces.{pending_texts, pushed_on, then_frame, trace_of_state, with_closed_bracket}
use Rattle.demangle_v0_parser.specs.Measure.{Fits, FitsFrame, IsInner, count_of, height_at, height_of, primitives_at, weight_at, weight_left, weight_of}

-- Steps.

-- the machine, before or after a step: state, stack, output and count of looks
pub record Machine (V : Type 0) : Type 0 where
  pub state : State
  pub stack : List Frame
  pub output : V
  pub looks : ℕ

abbrev pub machine : {V : Type 0} → State → List Frame → V → ℕ → Machine V
machine s stack v n = record { state = s; stack = stack; output = v; looks = n }

-- the context of a step: its output, the symbol, and whether hashes are printed
pub record Env (V : Type 0) : Type 1 where
  pub output : Ghosts V
  pub symbol : List ℕ
  pub form : Form

abbrev pub env : {V : Type 0} → Ghosts V → List ℕ → Form → Env V
env output b form = record { output = output; symbol = b; form = form }

-- a continuation, or a remaining part of one: the most primitives to read, its trace, its weight and its height
pub record StepPart : Type 0 where
  pub words : ℕ
  pub trace : Trace
  pub weight : ℕ
  pub height : ℕ

abbrev pub part : ℕ → Trace → ℕ → ℕ → StepPart
part words h weight height = record { words = words; trace = h; weight = weight; height = height }

-- what the output receives: a token, that a reference is followed to a place, or that what it leads to ends
pub data Emission : Type 0 where
  gives : Token → Emission
  refers_on : ℕ → Emission
  ends_at : Place → Emission

-- the trace after an emission, if there was one
abbrev pub after_emission : {V : Type 0} → Env V → Option Emission → Trace → Trace
after_emission env None h = h
after_emission env (Some (gives s)) h = with_texts env.output.is_printed (texts_of env.symbol env.form s) h
after_emission env (Some (refers_on t)) h = with_reference env.output.is_printed t h
after_emission env (Some (ends_at e)) h = with_end env.output.is_printed e h

abbrev pub Receives : {V : Type 0} → Env V → Emission → V → Result (Unit {0}) SinkRefused → V → Type 0
Receives env (gives s) v result w = env.output.prints v (texts_of env.symbol env.form s) result w
Receives env (refers_on t) v result w = env.output.follows v (length env.symbol - t + 1) result w
Receives env (ends_at e) v (Ok u) w = env.output.gives_back v (bytes_after (length env.symbol) e) w
Receives env (ends_at e) v (Err f) w = ⊥

abbrev pub Emits : {V : Type 0} → Env V → Option Emission → V → V → Type 0
Emits env None v w = v ≡ w
Emits env (Some x) v w = Receives env x v (Ok tt) w

-- The step continues at another continuation, and may have pushed a frame. It emits a token, follows a reference or ends
-- one, or prints the pending text, but no two of these.
pub record Continued {V : Type 0} (env : Env V) (part : StepPart) (before : Machine V) (to : Continuation) (after : Machine V) : Type 0 where
  pub prefix : List ℕ
  pub emitted : Option Emission
  pub back : List ℕ
  pub pushed : Option Frame
  pub emits : Emits env emitted before.output after.output
  pub one : (emitted ≡ None) ⊎ (after.state.pending_text ≡ None)
  pub reads : part.trace
      ≡ with_looks prefix (after_emission env emitted (with_texts env.output.is_printed (pending_texts after.state.pending_text) (with_looks back (then_frame env.symbol env.form env.output.is_printed pushed (trace_of_state env.symbol env.form env.output.is_printed to after.state)))))
  pub is_stack : after.stack ≡ pushed_on before.stack pushed
  pub primitive_count : length prefix + length back ≤ part.words
  pub paid_looks : after.looks ≤ before.looks + (total prefix + total back)
  pub looks_at_refusal : after.looks ≤ before.looks + (total prefix + 2)
  pub lighter : weight_left to + weight_of pushed + 1 ≤ part.weight + 100 * (total prefix + total back)
  pub outer_height : height_of pushed ≤ part.height
  pub inner_height : height_at to after.state.depth_left + count_of pushed ≤ part.height
  pub outer_fits : FitsFrame pushed
  pub inner_fits : Fits to after.state.depth_left after.state.lifetimes
  pub no_output : env.output.is_printed ≡ false → IsInner pushed

-- The production ends with this text, which is still to be printed.
pub record Aborted {V : Type 0} (env : Env V) (part : StepPart) (before : Machine V) (m : FixedText) (after : Machine V) : Type 0 where
  pub prefix : List ℕ
  pub emits : before.output ≡ after.output
  pub no_pending_text : after.state.pending_text ≡ None
  pub reads : part.trace ≡ with_looks prefix (with_texts env.output.is_printed (text m ∷ []) (empty_trace None false))
  pub is_stack : after.stack ≡ before.stack
  pub primitive_count : length prefix ≤ part.words
  pub paid_looks : after.looks ≤ before.looks + total prefix
  pub lighter : 1 ≤ part.weight + 100 * total prefix

-- The output rejected the token or the reference or, if nothing is printed, parsing failed. At most two looks were made too early, and
-- none if nothing is printed.
pub record Stopped {V : Type 0} (env : Env V) (part : StepPart) (before after : Machine V) : Type 0 where
  pub prefix : List ℕ
  pub emitted : Emission
  pub rest : Trace
  pub rejection : SinkRefused
  pub prints : Receives env emitted before.output (Err rejection) after.output
  pub reads : part.trace ≡ with_looks prefix (after_emission env (Some emitted) rest)
  pub primitive_count : length prefix ≤ part.words
  pub paid_looks : after.looks ≤ before.looks + (total prefix + 2)
  pub exact : env.output.is_printed ≡ false → after.looks ≤ before.looks + total prefix
  pub fails : env.output.is_printed ≡ false → rest.place ≡ None

-- frames may have been pushed
abbrev pub KeepsFrames : List Frame → List Frame → Type 0
KeepsFrames stack now = (more : List Frame) × (now ≡ stack ++ more)

abbrev pub StepResult : {V : Type 0} → Env V → StepPart → Machine V → Result Continuation StepError → Machine V → Type 0
StepResult env part before (Ok p) after = Continued env part before p after
StepResult env part before (Err (Abort m)) after = Aborted env part before m after
StepResult env part before (Err Sink) after = Stopped env part before after × KeepsFrames before.stack after.stack

-- these looks were made, no more than are allowed
pub record LooksWithin (before : ℕ) (costs : List ℕ) (after : ℕ) : Type 0 where
  pub grows : before ≤ after
  pub within : after ≤ before + total costs

-- the most looks of one step: those of the primitives that it may read, and none after an error
abbrev pub looks_bound : ℕ → List ℕ → Place → ℕ
looks_bound k b None = 0
looks_bound k b (Some i) = 4 * (length b - i) + k

abbrev pub step_looks_bound : List ℕ → Place → ℕ
step_looks_bound b i = looks_bound 20 b i

-- the effect of a continuation, or of a remaining part of one
pub record Performs {V : Type 0} (env : Env V) (before : Machine V) (part : StepPart) (result : Result Continuation StepError) (after : Machine V) : Type 0 where
  pub comes : StepResult env part before result after
  pub grows : before.looks ≤ after.looks
  pub own_looks : after.looks ≤ before.looks + step_looks_bound env.symbol before.state.place
  pub ready : env.output.ready before.output → IsOk result → env.output.ready after.output
  pub if_ok : env.output.ready before.output → (m : FixedText) → result ≡ Err (Abort m) → env.output.ready after.output

-- a whole continuation
abbrev pub whole : {V : Type 0} → Env V → Continuation → State → StepPart
whole env p s = part (primitives_at p) (trace_of_state env.symbol env.form env.output.is_printed p s) (weight_at p) (height_at p s.depth_left)

-- these remaining items of a production, with the most primitives to read, their weight, and the most frames that they
-- add
abbrev pub rest : {V : Type 0} → Env V → Items → ℕ → ℕ → ℕ → State → StepPart
rest env items words weight above s = part words (with_closed_bracket (of env.form env.output.is_printed (parse items (context_at env.symbol env.form env.output.is_printed s.depth_left s.lifetimes) s.place))) weight (8 * s.depth_left + above)

-- The effect of a continuation.
abbrev pub PerformsAt : {V : Type 0} → Env V → Continuation → Machine V → Result Continuation StepError → Machine V → Type 0
PerformsAt env p before result after = Performs env before (whole env p before.state) result after

-- the effect of a remaining part of one
abbrev pub PerformsRest : {V : Type 0} → Env V → Items → ℕ → ℕ → ℕ → Machine V → Result Continuation StepError → Machine V → Type 0
PerformsRest env items words weight above before result after = Performs env before (rest env items words weight above before.state) result after

-- When a continuation may run: no text is pending, there is room for a frame, and the lifetimes fit.
pub record CanRead (p : Continuation) (most : ℕ) (s : State) (stack : List Frame) : Type 0 where
  pub no_pending_text : s.pending_text ≡ None
  pub room : length stack < most
  pub fits : Fits p s.depth_left s.lifetimes

-- when a token may be emitted; this needs no room for a frame, and no lifetimes have to fit
pub record CanEmit {V : Type 0} (env : Env V) (s : State) (v : V) : Type 0 where
  pub ascii : env.output.is_printed ≡ true → IsAscii env.symbol
  pub ready : env.output.ready v
  pub no_pending_text : s.pending_text ≡ None

-- when a continuation may run and emit a token
pub record CanStep {V : Type 0} (env : Env V) (p : Continuation) (most : ℕ) (before : Machine V) : Type 0 where
  pub ascii : env.output.is_printed ≡ true → IsAscii env.symbol
  pub ready : env.output.ready before.output
  pub no_pending_text : before.state.pending_text ≡ None
  pub room : length before.stack < most
  pub fits : Fits p before.state.depth_left before.state.lifetimes

-- the state with which a frame resumes
abbrev pub resumed_of : State → Frame → State
resumed_of s f = record s { in_value = f.in_value; letter = f.letter; depth_left = f.depth_left; lifetimes = f.number }
