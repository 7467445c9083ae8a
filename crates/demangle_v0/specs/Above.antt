-- Internal: no public contract cites this.
-- Prints above other frames, and the targets of references.
use Rattle.std.specs.Prelude.{◌≡◌, ◌⊎◌, ℕ, min, ◌+◌, ◌-◌, ◌*◌, ◌<◌, ◌≤◌, true, Option, Some, None, List, [], ◌++◌, length, Result, Ok, Err, IfSome}
use Rattle.demangle_sink.specs.declared.SinkRefused.{SinkRefused}
use Rattle.demangle_sink.specs.declared.TextSink.{Ghosts as Sinks}
use Rattle.demangle_sink.specs.declared.limit.SizeLimitedFmtAdapter.{SizeLimitedFmtAdapter}
use Rattle.demangle_v0_parser.specs.Steps.{Env, Machine, machine}
use Rattle.demangle_v0_parser.specs.Loops.{InPart, RanSteps, StoppedAfter, printing}
use Rattle.demangle_v0.specs.HeldTexts.{kind_of}
use Rattle.demangle_sink.specs.Limit.{Holds, Ready}
use Rattle.demangle_sink.specs.Sink.{HasLength}
use Rattle.demangle_v0_grammar.specs.Reading.{Form, Place, max_depth}
use Rattle.std.below.core.specs.declared.int.usize.TheConstants.{MAX}
use Rattle.demangle_v0_parser.specs.declared.State.{State}
use Rattle.demangle_v0.specs.declared.held_texts.Note.{Note}
use Rattle.demangle_v0.specs.declared.held_texts.TargetText.{TargetText}
use Rattle.demangle_v0_parser.specs.Parsers.{PrintsSteps, checkpoint_of, printing_of}
use Rattle.demangle_v0_parser.specs.Targets.{is_target, unit_of}
use Rattle.demangle_v0_parser.specs.Measure.{measure}
use Rattle.demangle_v0_parser.specs.declared.Continuation.{Continuation}
use Rattle.demangle_v0_parser.specs.declared.Continuation.TheVariants as continuation
use Rattle.demangle_v0_parser.specs.declared.frames.Frame.{Frame}
use Rattle.demangle_v0_parser.specs.declared.parse.Parser.{Parser}
use Rattle.demangle_v0_parser.specs.declared.stops.Checkpoint.{Checkpoint}
use Rattle.demangle_v0_parser.specs.declared.stops.Unfinished.{Unfinished}
use Rattle.demangle_v0_parser.specs.declared.stops.Unfinished.TheVariants as left

-- the parse leads from `before` to `after`, and its own frames are above the frames `below`
pub record RunsAbove {V : Type 0} (env : Env V) (below : List Frame) (p : Continuation) (before : Machine V) (q : Continuation) (after : Machine V) : Type 0 where
  pub frames : List Frame
  pub is_stack : after.stack ≡ below ++ frames
  pub ran : RanSteps env p before q (record after { stack = frames })

-- printing stopped in a part that is not printed, which was read up to `inner`
pub record AboveInPart {V : Type 0} (env : Env V) (below : List Frame) (p : Continuation) (before : Machine V) (base : ℕ) (inner r : Checkpoint) (now : List Frame) (w : V) (looks : ℕ) : Type 0 where
  pub began : ℕ
  pub skips : InPart env.symbol env.form base began inner r now looks
  pub runs : RunsAbove env below p before r.continuation (machine r.state skips.below w began)

abbrev pub AboveCases : {V : Type 0} → Env V → List Frame → Continuation → Machine V → Result (Option Unfinished) SinkRefused → Checkpoint → List Frame → V → ℕ → Type 0
AboveCases env below p before (Ok None) r now w looks = (now ≡ below) × RanSteps env p before continuation.End (machine r.state [] w looks)
AboveCases env below p before (Ok (Some left.Printing)) r now w looks = RunsAbove env below p before r.continuation (machine r.state now w looks)
AboveCases env below p before (Ok (Some (left.Skipping base r))) inner now w looks = AboveInPart env below p before base inner r now w looks
AboveCases env below p before (Err e) r now w looks = StoppedAfter env p before w looks

pub record AboveDone {V : Type 0} (env : Env V) (below : List Frame) (p : Continuation) (before : Machine V) (result : Result (Option Unfinished) SinkRefused) (r : Checkpoint) (now : List Frame) (w : V) (looks : ℕ) : Type 0 where
  pub ran : AboveCases env below p before result r now w looks

-- above the lowest `base` frames, `m` printed until it stopped at `k`
abbrev pub PrintsAbove : {S : Type 0} → Sinks S → ℕ → Parser → SizeLimitedFmtAdapter S → Result (Option Unfinished) SinkRefused → Parser → SizeLimitedFmtAdapter S → Type 0
PrintsAbove sink base m v result k w = (below above : List Frame) → m.stack.frames ≡ below ++ above → length below ≡ base
    → AboveDone (printing_of sink m) below m.continuation (machine m.state above v m.looks) result (checkpoint_of k) k.stack.frames w k.looks

-- a target was printed, and what is after it is left
abbrev pub printing_on : Result (Option Unfinished) SinkRefused → Result (Option Unfinished) SinkRefused
printing_on (Ok None) = Ok (Some left.Printing)
printing_on result = result

-- the target that is next in `m` was printed; the rest is left
abbrev pub PrintsTarget : {S : Type 0} → Sinks S → Parser → SizeLimitedFmtAdapter S → Result (Option Unfinished) SinkRefused → Parser → SizeLimitedFmtAdapter S → Type 0
PrintsTarget sink m v result k w = PrintsSteps sink m v (printing_on result) k w

-- the measure of a parser that prints, and of one that stopped with this left
abbrev pub work_left : Parser → ℕ
work_left m = measure m.source.symbol.now m.source.form true m.continuation m.state m.stack.frames

abbrev pub work_after : Option Unfinished → Parser → ℕ
work_after None m = 0
work_after (Some left.Printing) m = work_left m + 1
work_after (Some (left.Skipping base r)) m = 0

-- it stopped at a target, and the stack is not full
pub record StopsAtTarget (result : Result (Option Unfinished) SinkRefused) (m : Parser) : Type 0 where
  pub left : result ≡ Ok (Some left.Printing)
  pub target : is_target m.continuation ≡ true
  pub room : length m.stack.frames < m.stack.room

-- The text of the target at which `m` is was put again. Printing continues at `k`, with the same frames.
pub record PutsAgainTarget {S : Type 0} (sink : Sinks S) (m : Parser) (v : SizeLimitedFmtAdapter S) (k : Parser) (w : SizeLimitedFmtAdapter S) : Type 0 where
  pub ran : (stack : List Frame) → RanSteps (printing_of sink m) m.continuation (machine m.state stack v m.looks) continuation.End (machine k.state stack w k.looks)
  pub is : k ≡ record m { state = record m.state { place = k.state.place; is_bracket_open = k.state.is_bracket_open } }

-- The target at which `m` is was run, and `next` is next: its text was put again, or its production is next.
abbrev pub RunsTarget : {S : Type 0} → Sinks S → Parser → SizeLimitedFmtAdapter S → (next : Continuation) → Parser → SizeLimitedFmtAdapter S → Type 0
RunsTarget sink m v next k w = ((next ≡ continuation.End) × PutsAgainTarget sink m v k w) ⊎ ((next ≡ unit_of m.continuation) × (k ≡ m) × (w ≡ v))

-- The text of the target of a note was printed, and what was noted before it is known.
pub record WasPrinted {S : Type 0} (sink : Sinks S) (b : List ℕ) (form : Form) (note : Note) (end : Place) (w : SizeLimitedFmtAdapter S) : Type 0 where
  pub target : is_target note.continuation ≡ true
  pub deep : note.state.depth_left ≤ max_depth
  pub before : SizeLimitedFmtAdapter S
  pub start : IfSome note.start (HasLength (sink.held before.out.now))
  pub laws : IfSome note.start (λ n. Holds sink)
  pub reread : note.reread ≡ before.reread
  pub after : State
  pub looks : ℕ
  pub looks_after : ℕ
  pub ends : after.place ≡ end
  pub ready : Ready sink before
  pub ran : RanSteps (printing sink b form) note.continuation (machine note.state [] before looks) continuation.End (machine after [] w looks_after)

-- the text of the target, as the note says
pub record IsNoted {S : Type 0} (sink : Sinks S) (b : List ℕ) (note : Note) (end : Place) (w : SizeLimitedFmtAdapter S) (t : TargetText) : Type 0 where
  pub start : note.start ≡ Some t.text.start
  pub held : HasLength (sink.held w.out.now) (t.text.start + t.text.len)
  pub place : note.state.place ≡ Some t.place
  pub ends : end ≡ Some t.end
  pub later : t.place ≤ t.end
  pub inside : t.end ≤ length b
  pub used : w.reread.used ≡ note.reread.used + t.text.reread
  pub peak : w.reread.high ≡ note.reread.used + t.text.peak
  pub references : w.reread.references ≡ note.reread.references + t.text.references
  pub few : w.reread.references < MAX
  pub low : w.reread.high < MAX
  pub known : w.reread.is_known ≡ true
  pub lifetimes : t.lifetimes ≡ note.state.lifetimes
  pub in_value : t.in_value ≡ note.state.in_value
  pub kind : t.kind ≡ kind_of note.continuation
  pub depth : t.depth ≡ min note.state.depth_left (2 * (t.end - t.place) + 2 + 2 * t.text.reread + 3 * t.text.references)
