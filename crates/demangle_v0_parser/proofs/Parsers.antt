-- The effect of continuations on a parser.
use Rattle.std.specs.Prelude.{◌&&◌}
use Rattle.std.proofs.lemmas.Bool.{false≢true}
use Rattle.std.proofs.Common.{◌≡◌, ℕ, Bool, true, false, Option, Some, None, List, Result, Ok, Err, refl}
use Rattle.demangle_v0_grammar.specs.Items.{Items}
use Rattle.demangle_v0_grammar.specs.Reading.{Form}
use Rattle.demangle_v0_tokens.specs.declared.output.Output.{Ghosts}
use Rattle.demangle_sink.specs.declared.SinkRefused.{SinkRefused}
use Rattle.demangle_v0_parser.specs.Loops.{ValidUnfinished}
use Rattle.demangle_v0_parser.specs.Parsers.{UnfinishedIsValid, Same, PerformedRest, Performed, Advanced, AdvancedRest, AdvancedWithoutOutput, AdvancedUnfolded, unused_output, checkpoint_of}
use Rattle.demangle_v0_parser.specs.Steps.{StepResult, Performs, Emits, StepPart, env, machine, Emission, gives, refers_on, ends_at, Receives}
use Rattle.demangle_v0_parser.specs.declared.Continuation.{Continuation}
use Rattle.demangle_v0_parser.specs.declared.State.{State}
use Rattle.demangle_v0_parser.specs.declared.StepError.{StepError}
use Rattle.demangle_v0_parser.specs.declared.StepError.TheVariants.{Sink, Abort}
use Rattle.demangle_v0_parser.specs.declared.frames.Frame.{Frame}
use Rattle.demangle_v0_parser.specs.declared.parse.Parser.{Parser}
use Rattle.demangle_v0_parser.specs.declared.stops.Unfinished.{Unfinished}

-- A continuation that emits nothing has the same effect for every output.

none_emitted : (p : Bool) (b : List ℕ) (h : Form) (o : Option Emission) → Emits (env (unused_output p) b h) o tt tt → o ≡ None
none_emitted p b h None k = refl
none_emitted p b h (Some (gives s)) k = absurd k
none_emitted p b h (Some (refers_on t)) k = absurd k
none_emitted p b h (Some (ends_at e)) k = absurd k

none_received : (p : Bool) (b : List ℕ) (h : Form) (x : Emission) (r : Result (Unit {0}) SinkRefused) → Receives (env (unused_output p) b h) x tt r tt → ⊥
none_received p b h (gives s) r k = k
none_received p b h (refers_on t) r k = k
none_received p b h (ends_at e) (Ok u) k = k
none_received p b h (ends_at e) (Err f) k = k

comes_trace : {V : Type 0} (output : Ghosts V) (b : List ℕ) (h : Form) (v : V) (part : StepPart) (s t : State) (stack now : List Frame) (n m : ℕ) (r : Result Continuation StepError)
    → StepResult (env (unused_output output.is_printed) b h) part (machine s stack tt n) r (machine t now tt m) → StepResult (env output b h) part (machine s stack v n) r (machine t now v m)
comes_trace output b h v part s t stack now n m (Ok q) d = record {
  prefix = d.prefix;
  emitted = None;
  back = d.back;
  pushed = d.pushed;
  emits = refl;
  one = rw (none_emitted output.is_printed b h d.emitted d.emits) at d.one;
  reads = rw (none_emitted output.is_printed b h d.emitted d.emits) at d.reads;
  is_stack = d.is_stack;
  primitive_count = d.primitive_count;
  paid_looks = d.paid_looks;
  looks_at_refusal = d.looks_at_refusal;
  lighter = d.lighter;
  outer_height = d.outer_height;
  inner_height = d.inner_height;
  outer_fits = d.outer_fits;
  inner_fits = d.inner_fits;
  no_output = d.no_output;
}
comes_trace output b h v part s t stack now n m (Err (Abort x)) d = record {
  prefix = d.prefix;
  emits = refl;
  no_pending_text = d.no_pending_text;
  reads = d.reads;
  is_stack = d.is_stack;
  primitive_count = d.primitive_count;
  paid_looks = d.paid_looks;
  lighter = d.lighter;
}
comes_trace output b h v part s t stack now n m (Err Sink) d = absurd (none_received output.is_printed b h d.0.emitted _ d.0.prints)

does_trace : {V : Type 0} (output : Ghosts V) (b : List ℕ) (h : Form) (v : V) (part : StepPart) (s t : State) (stack now : List Frame) (n m : ℕ) (r : Result Continuation StepError)
    → Performs (env (unused_output output.is_printed) b h) (machine s stack tt n) part r (machine t now tt m) → Performs (env output b h) (machine s stack v n) part r (machine t now v m)
does_trace output b h v part s t stack now n m r d = record {
  comes = comes_trace output b h v part s t stack now n m r d.comes;
  grows = d.grows;
  own_looks = d.own_looks;
  ready = λ k _. k;
  if_ok = λ k _ _. k;
}

pub advanced : {V : Type 0} (output : Ghosts V) (v : V) (p : Continuation) {m k : Parser} {r : Result Continuation StepError} → Advanced p m r k → Performed output p m v r k v
advanced output v p {m} {k} {r} d = let x = d output.is_printed in record {
  does = does_trace output m.source.symbol.now m.source.form v _ m.state k.state m.stack.frames k.stack.frames m.looks k.looks r x.does;
  same = x.same;
}

-- if the output does not print
pub advanced_without_output : {V : Type 0} (output : Ghosts V) (v : V) (p : Continuation) {m k : Parser} {r : Result Continuation StepError} → (output.is_printed ≡ true → false ≡ true) → AdvancedWithoutOutput p m r k → Performed output p m v r k v
advanced_without_output output v p {m} {k} {r} q x = go output.is_printed refl
  where
    go : (b : Bool) → output.is_printed ≡ b → Performed output p m v r k v
    go true e = absurd (false≢true (q e))
    go false e = record {
      does = does_trace output m.source.symbol.now m.source.form v _ m.state k.state m.stack.frames k.stack.frames m.looks k.looks r (rw e x.does);
      same = x.same;
    }

-- at an argument that is not folded
pub advanced_unfolded : {V : Type 0} (output : Ghosts V) (v : V) (is_first : Bool) (p : Continuation) {m k : Parser} {r : Result Continuation StepError} → is_first && (output.is_printed && m.source.form.fold_arguments) ≡ false → AdvancedUnfolded is_first p m r k → Performed output p m v r k v
advanced_unfolded output v is_first p {m} {k} {r} h d = let x = d output.is_printed h in record {
  does = does_trace output m.source.symbol.now m.source.form v _ m.state k.state m.stack.frames k.stack.frames m.looks k.looks r x.does;
  same = x.same;
}

pub unless_both : (x y : Bool) → (x ≡ true → y ≡ false) → x && y ≡ false
unless_both true y h = h refl
unless_both false y h = refl

pub advanced_rest : {V : Type 0} (output : Ghosts V) (v : V) (items : Items) (words weight above : ℕ) {m k : Parser} {r : Result Continuation StepError} → AdvancedRest items words weight above m r k → PerformedRest output items words weight above m v r k v
advanced_rest output v items words weight above {m} {k} {r} d = let x = d output.is_printed in record {
  does = does_trace output m.source.symbol.now m.source.form v _ m.state k.state m.stack.frames k.stack.frames m.looks k.looks r x.does;
  same = x.same;
}

-- The rest that is left to print, for a parser of the same source.
pub left_as : (n : ℕ) (m k : Parser) (r : Result (Option Unfinished) SinkRefused) → Same m k → ValidUnfinished m.source.symbol.now m.source.form n r (checkpoint_of k) k.stack.frames k.looks → UnfinishedIsValid n r k
left_as n m k r (e, h, room) d = rw (e, h) d
