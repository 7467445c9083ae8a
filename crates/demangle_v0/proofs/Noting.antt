-- Prints that continue at a target.
use Rattle.std.proofs.Common.{◌≡◌, ℕ, Bool, true, false, Option, Some, None, List, [], Result, Ok, refl, sym, ap, ◌∙◌}
use mathlib.Core.Bool.{not}
use Rattle.std.specs.Option.{is_some}
use Rattle.std.proofs.lemmas.Bool.{false≢true}
use Rattle.demangle_sink.specs.declared.TextSink.{Ghosts as Sinks}
use Rattle.demangle_sink.specs.declared.limit.SizeLimitedFmtAdapter.{SizeLimitedFmtAdapter}
use Rattle.demangle_sink.specs.Limit.{Ready}
use Rattle.demangle_v0_grammar.specs.Reading.{Form}
use Rattle.demangle_v0.specs.Above.{printing_on}
use Rattle.demangle_v0.specs.HeldTexts.{HoldsTexts}
use Rattle.demangle_v0_parser.specs.Loops.{printing}
use Rattle.demangle_v0.specs.declared.held_texts.StoredText.{StoredText}
use Rattle.demangle_v0.proofs.NotedTexts.{JoinedTaken, NothingTaken}
use Rattle.demangle_v0.proofs.Targets.{held_left, held_ran}
use Rattle.demangle_sink.specs.declared.SinkRefused.{SinkRefused}
use Rattle.demangle_v0.specs.Above.{AboveDone}
use Rattle.demangle_v0_parser.specs.Loops.{PrintDone}
use Rattle.demangle_v0_parser.specs.Steps.{Env, Machine, machine}
use Rattle.demangle_v0_parser.specs.declared.Continuation.{Continuation}
use Rattle.demangle_v0_parser.specs.declared.frames.Frame.{Frame}
use Rattle.demangle_v0_parser.specs.declared.stops.Checkpoint.{Checkpoint}
use Rattle.demangle_v0_parser.specs.declared.stops.Unfinished.{Unfinished}
use Rattle.demangle_v0_parser.specs.declared.stops.Unfinished.TheVariants as left
use Rattle.demangle_v0.proofs.Above.{whole_done}
use Rattle.demangle_v0.proofs.PrintLoop.{ran_joins}

pub ok_is : (q : Result (Option Unfinished) SinkRefused) (x y : Option Unfinished) → q ≡ Ok x → q ≡ Ok y → x ≡ y
ok_is q x y k l = cc

pub none_is : (x : Option Unfinished) (b : Bool) → is_some x ≡ not b → b ≡ true → x ≡ None
none_is None b h k = refl
none_is (Some y) b h k = absurd (false≢true (sym (h ∙ ap not k)))

pub some_on : (x : Option Unfinished) (b : Bool) → is_some x ≡ not b → b ≡ false → printing_on (Ok x) ≡ Ok x
some_on None b h k = absurd (false≢true (h ∙ ap not k))
some_on (Some y) b h k = refl

module _ {S : Type 0} (sink : Sinks S) (b : List ℕ) (form : Form) where
  pub held_on : NothingTaken sink b form → JoinedTaken sink b form → {p : Continuation} {t : Machine (SizeLimitedFmtAdapter S)} (x : Option Unfinished) {r : Checkpoint} {now : List Frame} {w : SizeLimitedFmtAdapter S} {n : ℕ} (ts : List StoredText) → Ready sink t.output → HoldsTexts sink b form t.output ts → PrintDone (printing sink b form) p t (Ok x) r now w n → HoldsTexts sink b form w ts
  held_on nothing joined None ts r h d = held_ran sink b form nothing joined ts r h d.ran
  held_on nothing joined (Some x) ts r h d = held_left sink b form nothing joined x ts r h d

module _ {V : Type 0} {e : Env V} where
  -- a parse that stopped at a target, and the parse from there
  pub target_joins : {p : Continuation} {t : Machine V} (x : Option Unfinished) {r to : Checkpoint} {frames now : List Frame} {v w : V} {m n : ℕ} (result : Result (Option Unfinished) SinkRefused) → x ≡ Some left.Printing → PrintDone e p t (Ok x) r frames v m
      → PrintDone e r.continuation (machine r.state frames v m) result to now w n → PrintDone e p t result to now w n
  target_joins None result k a c = absurd (never k)
    where
      never : None ≡ Some left.Printing → ⊥
      never z = cc
  target_joins (Some left.Printing) result k a c = ran_joins result a.ran c
  target_joins (Some (left.Skipping base at)) result k a c = absurd (never k)
    where
      never : Some (left.Skipping base at) ≡ Some left.Printing → ⊥
      never z = cc

  -- a print above no other frames
  pub above_all : {p : Continuation} {t : Machine V} {result : Result (Option Unfinished) SinkRefused} {r : Checkpoint} {now : List Frame} {w : V} {n : ℕ} → AboveDone e [] p t result r now w n → PrintDone e p t result r now w n
  above_all {p} {t} {result} {r} {now} {w} {n} d = whole_done e p t [] t.stack result r now w n (λ _. refl) d
