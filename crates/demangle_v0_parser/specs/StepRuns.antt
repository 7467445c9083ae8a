-- Internal: no public contract cites this.
-- Steps that one method performs in sequence, and the frames that they need not push.
use Rattle.std.specs.Prelude.{◌≡◌, ℕ, zero, suc, ◌*◌, ◌+◌, ◌-◌, Bool, true, false, List, [], ◌∷◌, ◌++◌, Result, Ok}
use Rattle.demangle_sink.specs.declared.SinkRefused.{SinkRefused}
use Rattle.demangle_v0_parser.specs.Loops.{StepDone}
use Rattle.demangle_v0_grammar.specs.LookTotals.{allowed_in}
use Rattle.demangle_v0_parser.specs.Measure.{weight_at, weights}
use Rattle.demangle_v0_parser.specs.Steps.{Env, Machine, PerformsAt, resumed_of}
use Rattle.demangle_v0_parser.specs.Traces.{frame_of, remaining_trace}
use Rattle.demangle_v0_parser.specs.declared.Continuation.{Continuation}
use Rattle.demangle_v0_parser.specs.declared.Continuation.TheVariants as continuation
use Rattle.demangle_v0_parser.specs.declared.State.{State}
use Rattle.demangle_v0_parser.specs.declared.StepError.{StepError}
use Rattle.demangle_v0_parser.specs.declared.frames.Frame.{Frame}

-- the machine with further frames below its own
abbrev pub raised : {V : Type 0} → List Frame → Machine V → Machine V
raised below t = record t { stack = below ++ t.stack }

-- the machine without its frames
abbrev pub bare : {V : Type 0} → Machine V → Machine V
bare t = record t { stack = [] }

-- the termination measure, in which a complete production has its weight too
abbrev pub full_measure : {V : Type 0} → Env V → Continuation → State → List Frame → ℕ
full_measure env p s stack = weight_at p + weights stack + 100 * allowed_in (remaining_trace env.symbol env.form env.output.is_printed p s stack).events

-- only the step of a path or of a name may be followed by another one of the same run
abbrev pub runs_on : Continuation → Bool
runs_on continuation.Path = true
runs_on continuation.NestedName = true
runs_on _ = false

-- Steps lead from `before` to `after`, one after another. Each of them is a step of its own (`StepDone`), so it prints at
-- most one token. After the end of a production the frame on top resumes.
pub data Runs {V : Type 0} (env : Env V) (p : Continuation) (before : Machine V) : Continuation → Machine V → Type 0 where
  starts : Runs env p before p before
  then_step : {at q : Continuation} {mid after : Machine V} → Runs env p before at mid → runs_on at ≡ true → StepDone env at mid (Ok q) after
      → (env.output.ready mid.output → env.output.ready after.output) → Runs env p before q after
  then_resumes : {mid : Machine V} (now : List Frame) (f : Frame) → Runs env p before continuation.End mid → mid.stack ≡ now ++ f ∷ []
      → Runs env p before f.continuation (record mid { state = resumed_of mid.state f; stack = now })

-- after such steps a last continuation is performed
pub record PerformsLast {V : Type 0} (env : Env V) (p : Continuation) (before : Machine V) (result : Result Continuation StepError) (after : Machine V) : Type 0 where
  pub at : Continuation
  pub mid : Machine V
  pub runs : Runs env p (bare before) at mid
  pub does : PerformsAt env at (raised before.stack mid) result after

-- after such steps a last one is done
pub record StepsDone {V : Type 0} (env : Env V) (p : Continuation) (before : Machine V) (result : Result Continuation SinkRefused) (after : Machine V) : Type 0 where
  pub at : Continuation
  pub mid : Machine V
  pub runs : Runs env p (bare before) at mid
  pub done : StepDone env at (raised before.stack mid) result after

-- The frames of nested paths, one in another, none of which is special. `outer` levels of nesting are allowed before the
-- first.
unfoldable pub name_frames : Bool → ℕ → ℕ → ℕ → List Frame
name_frames v n outer zero = []
name_frames v n outer (suc k) = name_frames v n outer k ++ frame_of continuation.NestedName v 118 (outer - k - 1) n ∷ []
