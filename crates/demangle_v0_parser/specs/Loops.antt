-- Internal: no public contract cites this.
-- The effect of steps on a whole stack of frames.
use Rattle.std.specs.Prelude.{◌≡◌, ℕ, ◌+◌, ◌-◌, ◌≤◌, ◌<◌, min, true, false, Option, Some, None, List, [], ◌∷◌, ◌++◌, length, Result, Ok, Err, IsOk}
use Rattle.demangle_v0_grammar.specs.Traces.{Trace}
use Rattle.demangle_v0_tokens.specs.Texts.{text}
use Rattle.demangle_v0_parser.specs.Frames as heights
use Rattle.demangle_v0_parser.specs.Skips.{is_skipped, skipped_continuation, after_skip}
use Rattle.demangle_v0_tokens.specs.declared.fixed_texts.FixedText.{FixedText}
use Rattle.demangle_sink.specs.declared.SinkRefused.{SinkRefused}
use Rattle.demangle_v0_parser.specs.Traces.{Action, allows_looks, goes_back, comes_back, puts, with_actions, action_looks, remaining_trace}
use Rattle.demangle_v0_parser.specs.Steps.{Env, env, whole, Machine, machine, Continued, Stopped, KeepsFrames, resumed_of}
use Rattle.demangle_v0_parser.specs.Measure.{AllInner, Fits, height_at, most_frames}
use Rattle.demangle_v0_grammar.specs.LookTotals.{allowed_in}
use Rattle.demangle_v0_grammar.specs.References.{bytes_after}
use Rattle.demangle_v0_grammar.specs.Reading.{Form, Place, max_depth}
use Rattle.demangle_sink.specs.Limit.{Follows, GivesBack, Prints, Ready}
use Rattle.demangle_sink.specs.declared.TextSink.{Ghosts as Sinks}
use Rattle.demangle_sink.specs.declared.limit.SizeLimitedFmtAdapter.{SizeLimitedFmtAdapter}
use Rattle.demangle_v0_parser.specs.declared.Continuation.{Continuation}
use Rattle.demangle_v0_parser.specs.declared.Continuation.TheVariants as continuation
use Rattle.demangle_v0_parser.specs.declared.frames.Frame.{Frame}
use Rattle.demangle_v0_parser.specs.declared.State.{State}
use Rattle.demangle_v0_parser.specs.declared.stops.Checkpoint.{Checkpoint}
use Rattle.demangle_v0_parser.specs.declared.stops.ReadOutcome.{ReadOutcome}
use Rattle.demangle_v0_parser.specs.declared.stops.ReadOutcome.TheVariants as halt
use Rattle.demangle_v0_parser.specs.declared.stops.Unfinished.{Unfinished}
use Rattle.demangle_v0_parser.specs.declared.stops.Unfinished.TheVariants as left
use Rattle.demangle_v0_tokens.specs.declared.output.Output.{Ghosts}
use Rattle.demangle_v0_tokens.specs.declared.output.NoOutput.{NoOutput}

-- One step, after its pending text is written.

-- writes the pending text, if there is one; this cannot fail if nothing is printed
abbrev pub FlushesText : {V : Type 0} → Ghosts V → Option FixedText → V → Result (Unit {0}) SinkRefused → V → Type 0
FlushesText output None v result w = (result ≡ Ok tt) × (w ≡ v)
FlushesText output (Some m) v result w = output.prints v (text m ∷ []) result w × (output.is_printed ≡ false → IsOk result)

abbrev pub without_pending_text : State → State
without_pending_text s = record s { pending_text = None }

abbrev pub StepCases : {V : Type 0} → Env V → Continuation → Machine V → Result Continuation SinkRefused → Machine V → Type 0
StepCases env p before (Ok q) after = Continued env (whole env p before.state) before q after × (after.state.pending_text ≡ None)
StepCases env p before (Err e) after = Stopped env (whole env p before.state) before after × KeepsFrames before.stack after.stack

-- `StepCases` as a record, so that a lemma finds its arguments
pub record StepDone {V : Type 0} (env : Env V) (p : Continuation) (before : Machine V) (result : Result Continuation SinkRefused) (after : Machine V) : Type 0 where
  pub steps : StepCases env p before result after

-- Unless the continuation is `End`, nothing changes. After `End` the top frame resumes, if there are more than `base`
-- frames.
pub data ResumesAt (base : ℕ) (p : Continuation) (s : State) (stack : List Frame) (q : Continuation) (t : State) (now : List Frame) : Type 0 where
  stays : (p ≡ continuation.End → ⊥) → q ≡ p → t ≡ s → now ≡ stack → ResumesAt base p s stack q t now
  pops : (f : Frame) → p ≡ continuation.End → base < length stack → stack ≡ now ++ f ∷ [] → q ≡ f.continuation → t ≡ resumed_of s f → ResumesAt base p s stack q t now

-- the looks that a path makes in any case: one at its tag, unless parsing has failed or no depth is left
abbrev pub looks_at_tag : ℕ → Place → ℕ
looks_at_tag left None = 0
looks_at_tag left (Some i) = min left 1

abbrev pub first_looks : Continuation → State → ℕ
first_looks continuation.Path s = looks_at_tag s.depth_left s.place
first_looks _ s = 0

-- the state before the path at place i is read
abbrev pub first_state : ℕ → State
first_state i = record { in_value = true; letter = 0; depth_left = max_depth; lifetimes = 0; place = Some i; is_bracket_open = false; pending_text = None }

-- The invariant of every parse: the stack has room for all frames that it can ever hold, and the lifetimes fit.

abbrev pub frame_height : Frame → ℕ
frame_height f = height_at f.continuation f.depth_left

abbrev pub AllFit : List Frame → Type 0
AllFit [] = Unit {0}
AllFit (f ∷ above) = Fits f.continuation f.depth_left f.number × AllFit above

pub record Valid (p : Continuation) (s : State) (stack : List Frame) : Type 0 where
  pub has_room : heights.HasRoomAbove frame_height most_frames (height_at p s.depth_left) stack
  pub fits : Fits p s.depth_left s.lifetimes
  pub all_fit : AllFit stack
  pub no_pending_text : s.pending_text ≡ None

-- Several steps in sequence.

-- the remaining trace of a parse
abbrev pub trace_left : {V : Type 0} → Env V → Continuation → Machine V → Trace
trace_left env p t = remaining_trace env.symbol env.form env.output.is_printed p t.state t.stack

-- the output received the texts of these parts, in order
abbrev pub Emitted : {V : Type 0} → Env V → List Action → V → V → Type 0
Emitted env [] v w = v ≡ w
Emitted env (allows_looks k ∷ bits) v w = Emitted env bits v w
Emitted {V = V} env (puts ts ∷ bits) v w = (mid : V) × env.output.prints v ts (Ok tt) mid × Emitted env bits mid w
Emitted {V = V} env (goes_back t ∷ bits) v w = (mid : V) × env.output.follows v (length env.symbol - t + 1) (Ok tt) mid × Emitted env bits mid w
Emitted {V = V} env (comes_back e ∷ bits) v w = (mid : V) × env.output.gives_back v (bytes_after (length env.symbol) e) mid × Emitted env bits mid w

-- steps lead from `before` to `after`, and make no more looks than their trace allows
pub record RanSteps {V : Type 0} (env : Env V) (p : Continuation) (before : Machine V) (q : Continuation) (after : Machine V) : Type 0 where
  pub bits : List Action
  pub emits : Emitted env bits before.output after.output
  pub reads : trace_left env p before ≡ with_actions env.output.is_printed bits (trace_left env q after)
  pub paid_looks : after.looks ≤ before.looks + action_looks bits

-- after such steps one more failed: the output rejected a piece or a reference, or the parse failed without output
pub record StoppedAfter {V : Type 0} (env : Env V) (p : Continuation) (before : Machine V) (output : V) (looks : ℕ) : Type 0 where
  pub at : Continuation
  pub mid : Machine V
  pub stack : List Frame
  pub end : Machine V
  pub ran : RanSteps env p before at (record mid { stack = stack })
  pub halts : Stopped env (whole env at mid.state) mid end
  pub same_output : end.output ≡ output
  pub same_looks : end.looks ≡ looks

-- A parse without output, above other frames.

abbrev pub no_output_env : List ℕ → Form → Env NoOutput
no_output_env b form = env (record { is_printed = false; ready = λ v. Unit {0}; prints = λ v texts result w. Unit {0}; follows = λ v n result w. Unit {0}; gives_back = λ v n w. Unit {0} }) b form

abbrev pub no_output_machine : State → List Frame → ℕ → Machine NoOutput
no_output_machine s stack n = machine s stack (record {}) n

-- the parse leads from `before` to `after`; its own frames are above the frames `below`
pub record Reads {V : Type 0} (env : Env V) (below : List Frame) (p : Continuation) (before : Machine V) (q : Continuation) (after : Machine V) : Type 0 where
  pub frames : List Frame
  pub is_stack : after.stack ≡ below ++ frames
  pub inner : AllInner frames
  pub ran : RanSteps env p before q (record after { stack = frames })

abbrev pub ReadCases : {V : Type 0} → Env V → List Frame → Continuation → Machine V → ReadOutcome → Continuation → Machine V → Type 0
ReadCases env below p before halt.Complete q after = (after.stack ≡ below) × RanSteps env p before continuation.End (record after { stack = [] })
ReadCases env below p before halt.StackFull q after = Reads env below p before q after
ReadCases env below p before halt.Failed q after = (d : StoppedAfter env p before after.output after.looks) × AllInner d.stack × KeepsFrames below after.stack

pub record ReadDone {V : Type 0} (env : Env V) (below : List Frame) (p : Continuation) (before : Machine V) (result : ReadOutcome) (q : Continuation) (after : Machine V) : Type 0 where
  pub reads : ReadCases env below p before result q after

-- The part that is read and not printed: an impl path, or folded arguments.

-- the state at its start
abbrev pub part_state : State → State
part_state s = record s { in_value = false }

abbrev pub part_checkpoint : Checkpoint → Checkpoint
part_checkpoint r = record { continuation = skipped_continuation r.continuation; state = part_state r.state }

abbrev pub part_trace : List ℕ → Form → Continuation → State → Trace
part_trace b form p s = remaining_trace b form false (skipped_continuation p) (part_state s) []

-- the state after it
abbrev pub state_at : State → Place → State
state_at s i = record s { place = i }

-- the part was read, the count of looks went from `began` to `looks`, and printing continues after the part
pub record Skipped (b : List ℕ) (form : Form) (o : Continuation) (s : State) (below : List Frame) (began : ℕ) (p : Continuation) (t : State) (now : List Frame) (looks : ℕ) : Type 0 where
  pub at : p ≡ after_skip o
  pub place : Place
  pub ends : (part_trace b form o s).place ≡ place
  pub state : t ≡ state_at s place
  pub is_stack : now ≡ below
  pub paid_looks : looks ≤ began + allowed_in (part_trace b form o s).events

-- the part was read up to `inner`; the count of looks was `began` at its start
abbrev pub ReadsPart : List ℕ → Form → List Frame → Checkpoint → ℕ → Checkpoint → List Frame → ℕ → Type 0
ReadsPart b form below r began inner now looks = Reads (no_output_env b form) below (skipped_continuation r.continuation) (no_output_machine (part_state r.state) [] began) inner.continuation (no_output_machine inner.state now looks)

-- the same, above a stack of `base` frames
pub record InPart (b : List ℕ) (form : Form) (base : ℕ) (began : ℕ) (inner printing : Checkpoint) (now : List Frame) (looks : ℕ) : Type 0 where
  pub below : List Frame
  pub height : length below ≡ base
  pub skips : is_skipped form printing.continuation ≡ true
  pub valid : Valid printing.continuation printing.state below
  pub reads : ReadsPart b form below printing began inner now looks

-- the part at the checkpoint `printing` was read until the stack, of at least `n` frames, was full
pub record StopsInPart (b : List ℕ) (form : Form) (printing : Checkpoint) (below : List Frame) (began : ℕ) (x : Unfinished) (n : ℕ) (inner : Checkpoint) (now : List Frame) (looks : ℕ) : Type 0 where
  pub base : ℕ
  pub is_left : x ≡ left.Skipping base printing
  pub height : base ≡ length below
  pub reads : ReadsPart b form below printing began inner now looks
  pub valid : Valid inner.continuation inner.state now
  pub full : n ≤ length now

-- A parse that prints.

abbrev pub printing : {S : Type 0} → Sinks S → List ℕ → Form → Env (SizeLimitedFmtAdapter S)
printing sink b form = env (record { is_printed = true; ready = λ v. Ready sink v; prints = λ v texts result w. Prints sink v texts result w; follows = λ v n result w. Follows v n result w; gives_back = λ v n w. GivesBack v n w }) b form

-- printing stopped in an impl path, which was read up to `inner`
pub record PrintingInPart {V : Type 0} (env : Env V) (p : Continuation) (before : Machine V) (base : ℕ) (inner r : Checkpoint) (now : List Frame) (w : V) (looks : ℕ) : Type 0 where
  pub began : ℕ
  pub skips : InPart env.symbol env.form base began inner r now looks
  pub ran : RanSteps env p before r.continuation (machine r.state skips.below w began)

abbrev pub PrintCases : {V : Type 0} → Env V → Continuation → Machine V → Result (Option Unfinished) SinkRefused → Checkpoint → List Frame → V → ℕ → Type 0
PrintCases env p before (Ok None) r now w looks = RanSteps env p before continuation.End (machine r.state [] w looks)
PrintCases env p before (Ok (Some left.Printing)) r now w looks = RanSteps env p before r.continuation (machine r.state now w looks)
PrintCases env p before (Ok (Some (left.Skipping base r))) inner now w looks = PrintingInPart env p before base inner r now w looks
PrintCases env p before (Err e) r now w looks = StoppedAfter env p before w looks

pub record PrintDone {V : Type 0} (env : Env V) (p : Continuation) (before : Machine V) (result : Result (Option Unfinished) SinkRefused) (r : Checkpoint) (now : List Frame) (w : V) (looks : ℕ) : Type 0 where
  pub ran : PrintCases env p before result r now w looks

-- the unfinished part is valid, in a stack of at least `n` frames
abbrev pub ValidUnfinished : List ℕ → Form → ℕ → Result (Option Unfinished) SinkRefused → Checkpoint → List Frame → ℕ → Type 0
ValidUnfinished b form n (Ok None) r stack looks = Unit {0}
ValidUnfinished b form n (Ok (Some left.Printing)) r stack looks = Valid r.continuation r.state stack × (n ≤ length stack)
ValidUnfinished b form n (Ok (Some (left.Skipping base r))) inner stack looks = (began : ℕ) × InPart b form base began inner r stack looks × Valid inner.continuation inner.state stack × (n ≤ length stack)
ValidUnfinished b form n (Err e) r stack looks = Unit {0}

-- the unfinished part that is not printed, if there was one, was read to its end
abbrev pub Passed : List ℕ → Form → Unfinished → Checkpoint → List Frame → ℕ → Checkpoint → List Frame → ℕ → Type 0
Passed b form left.Printing r stack old to now new = (to ≡ r) × (now ≡ stack) × (new ≤ old)
Passed b form (left.Skipping base r) inner stack old to now new = (below : List Frame) (began : ℕ) → ReadsPart b form below r began inner stack old → length below ≡ base → Skipped b form r.continuation r.state below began to.continuation to.state now new

-- the same, or the stack of at least `n` frames was full before that
abbrev pub Finishes : List ℕ → Form → ℕ → Unfinished → Checkpoint → List Frame → ℕ → Option Unfinished → Checkpoint → List Frame → ℕ → Type 0
Finishes b form n x r stack old None to now new = Passed b form x r stack old to now new
Finishes b form n left.Printing r stack old (Some y) to now new = ⊥
Finishes b form n (left.Skipping base r) inner stack old (Some left.Printing) to now new = ⊥
Finishes b form n (left.Skipping base r) inner stack old (Some (left.Skipping height to)) more now new = (height ≡ base) × (to ≡ r) × Valid more.continuation more.state now × (n ≤ length now)
    × ((below : List Frame) (began : ℕ) → ReadsPart b form below r began inner stack old → length below ≡ base → ReadsPart b form below r began more now new)

-- the looks that the unfinished part makes in any case
abbrev pub looks_left : Result (Option Unfinished) SinkRefused → Checkpoint → ℕ
looks_left (Ok None) r = 0
looks_left (Ok (Some left.Printing)) r = first_looks r.continuation r.state
looks_left (Ok (Some (left.Skipping base r))) inner = 0
looks_left (Err e) r = 0

-- the end: all was printed, or a piece was rejected
abbrev pub EndCases : {V : Type 0} → Env V → Continuation → Machine V → Result (Unit {0}) SinkRefused → V → ℕ → Type 0
EndCases env p before (Ok u) w looks = (t : State) × RanSteps env p before continuation.End (machine t [] w looks)
EndCases env p before (Err e) w looks = StoppedAfter env p before w looks

pub record Ended {V : Type 0} (env : Env V) (p : Continuation) (before : Machine V) (result : Result (Unit {0}) SinkRefused) (w : V) (looks : ℕ) : Type 0 where
  pub ended : EndCases env p before result w looks

-- all was printed, and parsing ended at this place
pub record EndedAt {V : Type 0} (env : Env V) (p : Continuation) (before : Machine V) (place : ℕ) (w : V) (looks : ℕ) : Type 0 where
  pub state : State
  pub at : state.place ≡ Some place
  pub ran : RanSteps env p before continuation.End (machine state [] w looks)
