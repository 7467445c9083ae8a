-- Internal: no public contract cites this.
-- The texts of targets that a sink holds.
use Rattle.std.specs.Prelude.{◌≡◌, ℕ, zero, suc, ◌+◌, ◌≤◌, true, false, List, [], ◌∷◌, length, Some, IfSome}
use Rattle.std.specs.List.{concat, slice_range}
use Rattle.demangle_sink.specs.Limit.{Holds}
use Rattle.demangle_sink.specs.declared.TextSink.{Ghosts as Sinks}
use Rattle.demangle_sink.specs.declared.limit.SizeLimitedFmtAdapter.{SizeLimitedFmtAdapter}
use Rattle.demangle_v0_grammar.specs.Reading.{Form, max_depth}
use Rattle.demangle_v0_grammar.specs.Climbs.{Climbs, followed_in}
use Rattle.demangle_v0_grammar.specs.Traces.{Trace, texts_in}
use Rattle.demangle_v0_parser.specs.Traces.{trace_at}
use Rattle.demangle_v0_parser.specs.declared.Continuation.{Continuation}
use Rattle.demangle_v0_parser.specs.declared.Continuation.TheVariants as continuation
use Rattle.demangle_v0_parser.specs.declared.State.{State}
use Rattle.demangle_v0.specs.declared.held_texts.StoredText.{StoredText}
use Rattle.demangle_v0.specs.declared.held_texts.TargetText.{TargetText}

-- a number for each kind of target, and the production that it is
abbrev pub kind_of : Continuation → ℕ
kind_of continuation.TargetPath = 0
kind_of continuation.TargetType = 1
kind_of p = 2

abbrev pub unit_at : ℕ → Continuation
unit_at zero = continuation.Path
unit_at (suc zero) = continuation.«Type»
unit_at (suc (suc k)) = continuation.Constant

-- the trace of the target, with d levels of depth left
abbrev pub target_trace : List ℕ → Form → TargetText → (d : ℕ) → Trace
target_trace b form t d = trace_at b form true (unit_at t.kind) t.in_value 0 d t.lifetimes (Some t.place) false

-- the bytes have the text of the target, as it is with d levels left
pub record HoldsText (b : List ℕ) (form : Form) (bytes : List ℕ) (t : TargetText) (d : ℕ) : Type 0 where
  pub ends : (target_trace b form t d).place ≡ Some t.end
  pub later : t.place ≤ t.end
  pub within : t.text.start + t.text.len ≤ length bytes
  pub same : slice_range bytes t.text.start (t.text.start + t.text.len) ≡ concat (texts_in (target_trace b form t d).events)
  pub counted : followed_in (target_trace b form t d).events ≡ t.text.references
  pub climbs : Climbs (length b) t.text.peak (target_trace b form t d).events 0 t.text.reread

-- the sink has it, as it is with d levels left
pub record HoldsAt {S : Type 0} (sink : Sinks S) (b : List ℕ) (form : Form) (v : SizeLimitedFmtAdapter S) (t : TargetText) (d : ℕ) : Type 0 where
  pub laws : Holds sink
  pub text : IfSome (sink.held v.out.now) (λ bytes. HoldsText b form bytes t d)

-- the sink has it, for each depth that is enough
abbrev pub HoldsTarget : {S : Type 0} → Sinks S → List ℕ → Form → SizeLimitedFmtAdapter S → TargetText → Type 0
HoldsTarget sink b form v t = (d : ℕ) → t.depth ≤ d → d ≤ max_depth → HoldsAt sink b form v t d

-- the text that is stored
abbrev pub text_of : StoredText → TargetText
text_of t = record {
  lifetimes = t.lifetimes;
  place = t.place;
  end = t.place + t.size;
  text = record { start = t.start; len = t.len; reread = t.reread; peak = t.peak; references = t.references };
  depth = t.depth;
  kind = t.kind;
  in_value = t.in_value;
}

abbrev pub HoldsTexts : {S : Type 0} → Sinks S → List ℕ → Form → SizeLimitedFmtAdapter S → List StoredText → Type 0
HoldsTexts sink b form v [] = Unit {0}
HoldsTexts sink b form v (t ∷ ts) = HoldsTarget sink b form v (text_of t) × HoldsTexts sink b form v ts

-- a text is that of the target that is next
pub record IsTextOf (t : TargetText) (p : Continuation) (s : State) : Type 0 where
  pub place : s.place ≡ Some t.place
  pub kind : t.kind ≡ kind_of p
  pub lifetimes : t.lifetimes ≡ s.lifetimes
  pub in_value : t.in_value ≡ s.in_value
  pub depth : t.depth ≤ s.depth_left
