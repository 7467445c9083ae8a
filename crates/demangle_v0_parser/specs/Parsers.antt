-- Internal: no public contract cites this.
-- The effect of continuations on a parser.
use Rattle.std.specs.Prelude.{◌≡◌, ℕ, ◌+◌, ◌-◌, ◌*◌, ◌<◌, ◌≤◌, Bool, true, false, ◌&&◌, Option, List, [], ◌++◌, length, Some, None, Result, Ok, Err, IsOk}
use Rattle.demangle_v0_grammar.specs.Traces.{Trace}
use Rattle.demangle_v0_grammar.specs.Reading.{Place}
use Rattle.demangle_v0_grammar.specs.Items.{Items, Kind}
use Rattle.demangle_v0_tokens.specs.Tokens.{TokenSpec, token_spec}
use Rattle.demangle_v0_tokens.specs.declared.fixed_texts.FixedText.{FixedText}
use Rattle.demangle_v0_tokens.specs.declared.token.TokenKind.{TokenKind}
use Rattle.demangle_v0_tokens.specs.declared.output.Output.{Ghosts}
use Rattle.demangle_v0_tokens.specs.declared.source.Source.{Source}
use Rattle.demangle_sink.specs.declared.SinkRefused.{SinkRefused}
use Rattle.demangle_sink.specs.declared.TextSink.{Ghosts as Sinks}
use Rattle.demangle_sink.specs.declared.limit.SizeLimitedFmtAdapter.{SizeLimitedFmtAdapter}
use Rattle.demangle_v0_parser.specs.Productions.{brace_after}
use Rattle.demangle_v0_parser.specs.Measure.{AllInner}
use Rattle.demangle_v0_parser.specs.Steps.{Performs, PerformsAt, Env, CanEmit, CanRead, CanStep, StepPart, Machine, env, rest, machine, step_looks_bound, whole}
use Rattle.demangle_v0_parser.specs.StepRuns.{PerformsLast, Runs, bare, name_frames, raised, runs_on}
use Rattle.demangle_v0_parser.specs.Traces.{pushed_on, remaining_trace}
use Rattle.demangle_v0_parser.specs.Loops.{Valid, ReadDone, Skipped, StopsInPart, PrintDone, ValidUnfinished, Finishes, Ended, first_looks, first_state, looks_left, printing, no_output_env, no_output_machine}
use Rattle.demangle_v0_parser.specs.Productions.{IsProduction, target_part}
use Rattle.demangle_v0_parser.specs.declared.Continuation.{Continuation}
use Rattle.demangle_v0_parser.specs.declared.Continuation.TheVariants as continuation
use Rattle.demangle_v0_parser.specs.declared.State.{State}
use Rattle.demangle_v0_parser.specs.declared.StepError.{StepError}
use Rattle.demangle_v0_parser.specs.declared.StepError.TheVariants.{Abort}
use Rattle.demangle_v0_parser.specs.Frames.{on_top}
use Rattle.demangle_v0_parser.specs.declared.frames.Frame.{Frame}
use Rattle.demangle_v0_parser.specs.declared.fuel.Fuel.{Fuel}
use Rattle.demangle_v0_parser.specs.declared.parse.Parser.{Parser}
use Rattle.demangle_v0_parser.specs.declared.stops.ReadOutcome.{ReadOutcome}
use Rattle.demangle_v0_parser.specs.declared.stops.Checkpoint.{Checkpoint}
use Rattle.demangle_v0_parser.specs.declared.stops.Unfinished.{Unfinished}

-- Changes to a parser.

abbrev pub pushed : Parser → Frame → Parser
pushed m f = record m { stack = on_top m.stack f }

abbrev pub with_text : Parser → FixedText → Parser
with_text m x = record m { state = record m.state { pending_text = Some x } }

abbrev pub closed : Parser → Parser
closed m = record m { state = record m.state { is_bracket_open = false } }

abbrev pub deeper : Parser → Parser
deeper m = record m { state = record m.state { depth_left = m.state.depth_left - 1 } }

abbrev pub moved : Parser → Place → ℕ → Parser
moved m i n = record m { state = record m.state { place = i }; looks = n }

abbrev pub restacked : Parser → List Frame → Parser
restacked m now = record m { stack = record m.stack { frames = now } }

-- with this text pending and, outside value position, a frame for the closing brace
abbrev pub braced : Parser → Option FixedText → Parser
braced m x = record m { state = record m.state { pending_text = x }; stack = record m.stack { frames = pushed_on m.stack.frames (brace_after m.state) } }

abbrev pub restated : Parser → State → ℕ → Parser
restated m s n = record m { state = s; looks = n }

-- further lifetimes are in scope
abbrev pub binding : Parser → ℕ → Parser
binding m number = record m { state = record m.state { lifetimes = m.state.lifetimes + number } }

-- The token of this kind at the parser's place, if tokens are printed or if not.
abbrev pub token_group : Bool → Parser → TokenKind → TokenSpec
token_group is_printed m w = token_spec m.source.symbol.now w m.state.letter is_printed m.state.lifetimes m.state.place

abbrev pub looked : Parser → ℕ → Parser
looked m n = record m { looks = n }

-- only the place, whether a bracket is open, the fuel and the count of looks may change
abbrev pub Placed : Parser → Parser → Type 0
Placed m k = k ≡ record m { state = record m.state { place = k.state.place; is_bracket_open = k.state.is_bracket_open }; fuel = k.fuel; looks = k.looks }

abbrev pub checked_at : Parser → Continuation → State → Parser
checked_at m p s = record m { continuation = p; state = s }

-- the checkpoint of a parser
abbrev pub checkpoint_of : Parser → Checkpoint
checkpoint_of m = record { continuation = m.continuation; state = m.state }

-- The fuel of a print that may be in vain, at its start, and of any other parse.

abbrev pub first_fuel : Fuel
first_fuel = record { used = 0; most = 128; outer = 0 }

abbrev pub no_fuel : Fuel
no_fuel = record { used = 0; most = 0; outer = 0 }

-- A new parser: of a path, or of the same parse, with room for this many frames.

abbrev pub path_parser : Source → ℕ → ℕ → ℕ → Parser
path_parser source i room n = record { source = source; continuation = continuation.Path; state = first_state i; stack = record { frames = []; room = room }; fuel = no_fuel; looks = n }

abbrev pub roomier : Parser → ℕ → Parser
roomier m n = record m { stack = record m.stack { room = n } }

-- The effect of a continuation.

abbrev pub env_of : {V : Type 0} → Ghosts V → Parser → Env V
env_of output m = env output m.source.symbol.now m.source.form

abbrev pub machine_of : {V : Type 0} → Parser → V → Machine V
machine_of m v = machine m.state m.stack.frames v m.looks

-- no continuation changes the symbol, the form in which it is printed, or the room of the stack
abbrev pub Same : Parser → Parser → Type 0
Same m k = (k.source.symbol ≡ m.source.symbol) × (k.source.form ≡ m.source.form) × (k.stack.room ≡ m.stack.room)

pub record PerformsPart {V : Type 0} (output : Ghosts V) (part : StepPart) (m : Parser) (v : V) (result : Result Continuation StepError) (k : Parser) (w : V) : Type 0 where
  pub does : Performs (env_of output m) (machine_of m v) part result (machine_of k w)
  pub same : Same m k

-- when a continuation may run with an output, and its effect
abbrev pub CanPerform : {V : Type 0} → Ghosts V → Continuation → Parser → V → Type 0
CanPerform output p m v = CanStep (env_of output m) p m.stack.room (machine_of m v)

abbrev pub Performed : {V : Type 0} → Ghosts V → Continuation → Parser → V → Result Continuation StepError → Parser → V → Type 0
Performed output p m v result k w = PerformsPart output (whole (env_of output m) p m.state) m v result k w

-- the effect of these items, which remain of a production
abbrev pub PerformedRest : {V : Type 0} → Ghosts V → Items → ℕ → ℕ → ℕ → Parser → V → Result Continuation StepError → Parser → V → Type 0
PerformedRest output items words weight above m v result k w = PerformsPart output (rest (env_of output m) items words weight above m.state) m v result k w

-- the machine of a parser with these frames
abbrev pub machine_over : {V : Type 0} → List Frame → Parser → V → Machine V
machine_over stack m v = machine m.state stack v m.looks

-- The effect of steps of which the last performs a continuation.

abbrev pub PerformedLast : {V : Type 0} → Ghosts V → Continuation → Parser → V → Result Continuation StepError → Parser → V → Type 0
PerformedLast output p m v result k w = PerformsLast (env_of output m) p (machine_of m v) result (machine_of k w)

-- the same, in no more looks than one step makes
pub record PerformedSteps {V : Type 0} (output : Ghosts V) (p : Continuation) (m : Parser) (v : V) (result : Result Continuation StepError) (k : Parser) (w : V) : Type 0 where
  pub steps : PerformedLast output p m v result k w
  pub ready : output.ready v → IsOk result → output.ready w
  pub if_ok : output.ready v → (x : FixedText) → result ≡ Err (Abort x) → output.ready w
  pub same : Same m k
  pub grows : m.looks ≤ k.looks
  pub own_looks : k.looks ≤ m.looks + step_looks_bound m.source.symbol.now m.state.place

-- The frames of `count` nested paths are not on the stack of `k`, which is after the path in them. The names of these
-- paths lead to the result at `m`.
abbrev pub NamesEnd : {V : Type 0} → Ghosts V → ℕ → ℕ → Parser → V → Result Continuation StepError → Parser → V → Type 0
NamesEnd {V = V} output count outer k v result m w =
    (p : Continuation) (before : Machine V) → Runs (env_of output k) p (bare before) continuation.End (machine_over (name_frames k.state.in_value k.state.lifetimes outer count) k v) → before.stack ≡ k.stack.frames → PerformsLast (env_of output k) p before result (machine_of m w)

-- the same, if the path in them was performed with this result
abbrev pub NamesFollow : {V : Type 0} → Ghosts V → Result Continuation StepError → ℕ → ℕ → Parser → V → Result Continuation StepError → Parser → V → Type 0
NamesFollow {V = V} output performed count outer k v result m w =
    let frames = name_frames k.state.in_value k.state.lifetimes outer count in
    (p at : Continuation) (before mid : Machine V) → Runs (env_of output k) p (bare before) at mid → runs_on at ≡ true → before.stack ≡ k.stack.frames → mid.stack ≡ frames
    → PerformsAt (env_of output k) at (raised before.stack mid) performed (machine_over (k.stack.frames ++ frames) k v) → PerformsLast (env_of output k) p before result (machine_of m w)

-- when a token may be printed
abbrev pub CanPrint : {V : Type 0} → Ghosts V → Parser → V → Type 0
CanPrint output m v = CanEmit (env_of output m) m.state v

-- the effect of a back reference to a production that starts with this continuation
abbrev pub Followed : {V : Type 0} → Ghosts V → Continuation → Parser → V → Result Continuation StepError → Parser → V → Type 0
Followed output p m v result k w =
    (closed : Bool) (kind : Kind) (value : Bool) → IsProduction m.source.symbol.now m.source.form p m.state.in_value m.state.letter m.state.lifetimes closed kind value
    → PerformsPart output (target_part (env_of output m) closed kind value m.state) m v result k w

-- An output that never receives a token, whether it prints or not.
abbrev pub unused_output : Bool → Ghosts (Unit {0})
unused_output is_printed = record { is_printed = is_printed; ready = λ v. Unit {0}; prints = λ v texts result w. ⊥; follows = λ v n result w. ⊥; gives_back = λ v n w. ⊥ }

-- when a continuation may run that emits nothing, and its effect
abbrev pub CanAdvance : Continuation → Parser → Type 0
CanAdvance p m = CanRead p m.stack.room m.state m.stack.frames

abbrev pub Advanced : Continuation → Parser → Result Continuation StepError → Parser → Type 0
Advanced p m result k = (is_printed : Bool) → Performed (unused_output is_printed) p m tt result k tt

-- the same, except at the first argument of a list that is printed folded
abbrev pub AdvancedUnfolded : Bool → Continuation → Parser → Result Continuation StepError → Parser → Type 0
AdvancedUnfolded is_first p m result k = (is_printed : Bool) → is_first && (is_printed && m.source.form.fold_arguments) ≡ false → Performed (unused_output is_printed) p m tt result k tt

-- the effect of a continuation that is only used if nothing is printed
abbrev pub AdvancedWithoutOutput : Continuation → Parser → Result Continuation StepError → Parser → Type 0
AdvancedWithoutOutput p m result k = Performed (unused_output false) p m tt result k tt

abbrev pub AdvancedRest : Items → ℕ → ℕ → ℕ → Parser → Result Continuation StepError → Parser → Type 0
AdvancedRest items words weight above m result k = (is_printed : Bool) → PerformedRest (unused_output is_printed) items words weight above m tt result k tt

-- The looks of a step.

-- the bytes from a place on; none after an error
abbrev pub left_at : ℕ → Place → ℕ
left_at n None = 0
left_at n (Some i) = n - i

-- at most four looks for each byte that is read, and `more` looks
abbrev pub ReadsOn : ℕ → Parser → Parser → Type 0
ReadsOn more m k = k.looks + 4 * left_at (length m.source.symbol.now) k.state.place ≤ m.looks + 4 * left_at (length m.source.symbol.now) m.state.place + more

-- at most four looks for each byte that is left, and `more` looks, whatever was read
abbrev pub LooksAt : ℕ → Parser → Parser → Type 0
LooksAt more m k = k.looks ≤ m.looks + 4 * left_at (length m.source.symbol.now) m.state.place + more

-- The effect of the loops.

-- the stack has room for all frames that the rest can need, and the lifetimes fit
abbrev pub IsValid : Parser → Type 0
IsValid m = Valid m.continuation m.state m.stack.frames

-- only the count of looks changes
abbrev pub Recounted : Parser → Parser → Type 0
Recounted m k = k ≡ looked m k.looks

-- the remaining trace, without output
abbrev pub trace_without_output : Parser → Trace
trace_without_output m = remaining_trace m.source.symbol.now m.source.form false m.continuation m.state m.stack.frames

-- without output, `m` is parsed until it stops at `k`, above the lowest `base` frames
abbrev pub ReadSteps : ℕ → Parser → ReadOutcome → Parser → Type 0
ReadSteps base m result k = (below above : List Frame) → m.stack.frames ≡ below ++ above → length below ≡ base → AllInner above
    → ReadDone (no_output_env m.source.symbol.now m.source.form) below m.continuation (no_output_machine m.state above m.looks) result k.continuation (no_output_machine k.state k.stack.frames k.looks)

-- the part that is not printed was read to its end
abbrev pub SkipsOver : Parser → Parser → Type 0
SkipsOver m k = Skipped m.source.symbol.now m.source.form m.continuation m.state m.stack.frames m.looks k.continuation k.state k.stack.frames k.looks

-- the impl path was read until the stack was full
abbrev pub SkipsFull : Parser → Unfinished → Parser → Type 0
SkipsFull m x k = StopsInPart m.source.symbol.now m.source.form (checkpoint_of m) m.stack.frames m.looks x k.stack.room (checkpoint_of k) k.stack.frames k.looks

-- the same for the rest of an impl path that was read in part
abbrev pub FinishesSkip : Parser → Unfinished → Option Unfinished → Parser → Type 0
FinishesSkip m x result k = Finishes m.source.symbol.now m.source.form k.stack.room x (checkpoint_of m) m.stack.frames m.looks result (checkpoint_of k) k.stack.frames k.looks

abbrev pub printing_of : {S : Type 0} → Sinks S → Parser → Env (SizeLimitedFmtAdapter S)
printing_of sink m = printing sink m.source.symbol.now m.source.form

-- the unfinished part can be printed
abbrev pub UnfinishedIsValid : ℕ → Result (Option Unfinished) SinkRefused → Parser → Type 0
UnfinishedIsValid n result m = ValidUnfinished m.source.symbol.now m.source.form n result (checkpoint_of m) m.stack.frames m.looks

-- the looks that are made in any case: by the next step, and by the unfinished part
abbrev pub first_looks_of : Parser → ℕ
first_looks_of m = first_looks m.continuation m.state

abbrev pub unfinished_looks : Result (Option Unfinished) SinkRefused → Parser → ℕ
unfinished_looks result m = looks_left result (checkpoint_of m)

-- `m` printed until it stopped at `k`
abbrev pub PrintsSteps : {S : Type 0} → Sinks S → Parser → SizeLimitedFmtAdapter S → Result (Option Unfinished) SinkRefused → Parser → SizeLimitedFmtAdapter S → Type 0
PrintsSteps sink m v result k w = PrintDone (printing_of sink m) m.continuation (machine_of m v) result (checkpoint_of k) k.stack.frames w k.looks

-- `m` printed until nothing was left
abbrev pub PrintsAll : {S : Type 0} → Sinks S → Parser → SizeLimitedFmtAdapter S → Result (Unit {0}) SinkRefused → Parser → SizeLimitedFmtAdapter S → Type 0
PrintsAll sink m v result k w = Ended (printing_of sink m) m.continuation (machine_of m v) result w k.looks

-- the same for the unfinished part of a text
abbrev pub PrintsOn : {S : Type 0} → Sinks S → Parser → Unfinished → SizeLimitedFmtAdapter S → Result (Option Unfinished) SinkRefused → Parser → SizeLimitedFmtAdapter S → Type 0
PrintsOn {S = S} sink m x v result k w = (p : Continuation) (began : Machine (SizeLimitedFmtAdapter S)) → PrintDone (printing_of sink m) p began (Ok (Some x)) (checkpoint_of m) m.stack.frames v m.looks
    → PrintDone (printing_of sink m) p began result (checkpoint_of k) k.stack.frames w k.looks

abbrev pub EndsPrinting : {S : Type 0} → Sinks S → Parser → Unfinished → SizeLimitedFmtAdapter S → Result (Unit {0}) SinkRefused → Parser → SizeLimitedFmtAdapter S → Type 0
EndsPrinting {S = S} sink m x v result k w = (p : Continuation) (began : Machine (SizeLimitedFmtAdapter S)) → PrintDone (printing_of sink m) p began (Ok (Some x)) (checkpoint_of m) m.stack.frames v m.looks
    → Ended (printing_of sink m) p began result w k.looks
