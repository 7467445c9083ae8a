-- Nested paths, one in another, whose names are read in a loop.
use Prim.Native.Char.{code}
use Rattle.std.specs.Prelude.{◌*◌}
use Rattle.std.proofs.Common.{◌≡◌, ℕ, zero, suc, ◌+◌, ◌-◌, ◌<◌, ◌≤◌, Bool, true, false, Option, Some, None, List, [], ◌∷◌, ◌++◌, length, Result, Ok, Err, refl, rules, arith, sym, ap, ◌∙◌, subst, add-one, length-append}
use Rattle.demangle_v0_grammar.specs.Reading.{Form, Place, level_of, levels, parse}
use Rattle.demangle_v0_grammar.specs.Table.{path}
use Rattle.demangle_v0_grammar.specs.Items.{a_path}
use Rattle.demangle_v0_grammar.specs.Traces.{Trace, and_then, with_looks}
use Rattle.demangle_symbol.specs.Primitives.{byte_at, namespace_at, is_upper}
use Rattle.demangle_v0_tokens.specs.declared.tags.PathKind.TheVariants as kind
use Rattle.demangle_v0_parser.specs.Traces.{frame_of, then_frame, trace_at, trace_of_frame, trace_of_state, pushed_on}
use Rattle.demangle_v0_parser.specs.Steps.{Machine, Env, machine, CanRead, Performs, PerformsRest, PerformsAt, StepPart, StepResult, rest}
use Rattle.demangle_v0_parser.specs.Measure.{Fits}
use Rattle.demangle_v0_parser.specs.Loops.{StepDone}
use Rattle.demangle_v0_parser.specs.Parsers.{Followed, NamesFollow, Performed, PerformedRest, PerformedSteps, Placed, env_of, looked, machine_of, machine_over, restacked}
use Rattle.demangle_v0_parser.specs.Productions.{crate_path}
use Rattle.demangle_v0_parser.specs.StepRuns.{PerformsLast, Runs, bare, name_frames, raised, runs_on, starts, then_resumes, then_step}
use Rattle.demangle_v0_tokens.specs.declared.fixed_texts.FixedText.{FixedText}
use Rattle.demangle_v0_tokens.specs.declared.fixed_texts.FixedText.TheVariants as fixed
use Rattle.demangle_v0_parser.specs.declared.Continuation.{Continuation}
use Rattle.demangle_v0_parser.specs.declared.Continuation.TheVariants as continuation
use Rattle.demangle_v0_parser.specs.declared.State.{State}
use Rattle.demangle_v0_parser.specs.declared.StepError.{StepError}
use Rattle.demangle_v0_parser.specs.declared.StepError.TheVariants.{Abort, Sink}
use Rattle.demangle_v0_parser.specs.declared.frames.Frame.{Frame}
use Rattle.demangle_v0_parser.specs.declared.parse.Parser.{Parser}
use Rattle.demangle_v0_tokens.specs.declared.output.Output.{Ghosts}
use Rattle.std.proofs.lemmas.List.{append-nil}
use Rattle.demangle_v0_parser.proofs.BackrefSteps.{unit_path}
use Rattle.demangle_v0_parser.proofs.LoopLemmas.{step_continues}
use Rattle.demangle_v0_parser.proofs.PathSteps.{nested_continues, path_as, path_tagged, path_untagged}
use Rattle.demangle_v0_parser.proofs.StepCases.{ends, marks, text_step}
use Rattle.demangle_v0_parser.proofs.StepRules.{kept_none}

-- one more frame
pub frames_more : (v : Bool) (n outer k : ℕ) → name_frames v n outer (k + 1) ≡ name_frames v n outer k ++ frame_of continuation.NestedName v 118 (outer - k - 1) n ∷ []
unfolding name_frames
frames_more v n outer k = rw add-one refl

pub frames_none : (v : Bool) (n outer : ℕ) → name_frames v n outer 0 ≡ []
unfolding name_frames
frames_none v n outer = refl

pub frames_length : (v : Bool) (n outer k : ℕ) → length (name_frames v n outer k) ≡ k
unfolding name_frames
frames_length v n outer zero = refl
frames_length v n outer (suc k) = omega (arith, frames_length v n outer k, length-append {A = Frame} (name_frames v n outer k) (frame_of continuation.NestedName v 118 (outer - k - 1) n ∷ []))

-- The names in two namespaces that are not special are read alike.
plain_rest : (b : List ℕ) (form : Form) (out : Bool) (v : Bool) (c left n : ℕ) (i : Place) (o : Bool) → is_upper c ≡ false → trace_at b form out continuation.NestedName v c left n i o ≡ trace_at b form out continuation.NestedName v 118 left n i o
unfolding trace_at
plain_rest b form out v c left n i o h = rw h refl

and_then_alike : (h : Trace) (f g : Place → Bool → Trace) → f h.place h.is_bracket_open ≡ g h.place h.is_bracket_open → and_then h f ≡ and_then h g
and_then_alike h f g k = ap (λ (r : Trace). record { events = h.events ++ r.events; place = r.place; is_bracket_open = r.is_bracket_open }) k

-- the frames of two such paths have the same trace
plain_frame : (b : List ℕ) (form : Form) (out : Bool) (v : Bool) (c left n : ℕ) (h : Trace) → is_upper c ≡ false → then_frame b form out (Some (frame_of continuation.NestedName v c left n)) h ≡ then_frame b form out (Some (frame_of continuation.NestedName v 118 left n)) h
unfolding then_frame
plain_frame b form out v c left n h u = and_then_alike h (trace_of_frame b form out (frame_of continuation.NestedName v c left n)) (trace_of_frame b form out (frame_of continuation.NestedName v 118 left n)) (plain_rest b form out v c left n h.place h.is_bracket_open u)

-- the trace of a nested path, after its `N`
nested_reads : {V : Type 0} (e : Env V) (s : State) (i letter j : ℕ) → s.place ≡ Some i → Some (letter, j) ≡ namespace_at e.symbol i
    → (rest e (path s.in_value (code "N")) 6 1 9 s).trace ≡ with_looks (4 * (j - i + 1) ∷ []) (then_frame e.symbol e.form e.output.is_printed (Some (frame_of continuation.NestedName s.in_value letter s.depth_left s.lifetimes)) (trace_of_state e.symbol e.form e.output.is_printed continuation.Path (record s { place = Some j })))
unfolding parse then_frame trace_at
nested_reads e s i letter j at r = rw (at, sym r) refl

not_pushed : (stack : List Frame) (o : Option Frame) → stack ≡ pushed_on stack o → o ≡ None
not_pushed stack None k = refl
not_pushed stack (Some f) k = absurd (omega (arith, ap length k, length-append {A = Frame} stack (f ∷ [])))

comes_moved : {V : Type 0} (e : Env V) (part : StepPart) (t u : Machine V) (r : Result Continuation StepError) → u.stack ≡ t.stack → (stack : List Frame) → StepResult e part t r u → StepResult e part (record t { stack = stack }) r (record u { stack = stack })
comes_moved e part t u (Ok q) k stack d = record {
  prefix = d.prefix;
  emitted = d.emitted;
  back = d.back;
  pushed = d.pushed;
  emits = d.emits;
  one = d.one;
  reads = d.reads;
  is_stack = sym (ap (pushed_on stack) (not_pushed t.stack d.pushed (sym k ∙ d.is_stack)));
  primitive_count = d.primitive_count;
  paid_looks = d.paid_looks;
  looks_at_refusal = d.looks_at_refusal;
  lighter = d.lighter;
  outer_height = d.outer_height;
  inner_height = d.inner_height;
  outer_fits = d.outer_fits;
  inner_fits = d.inner_fits;
  no_output = d.no_output;
}
comes_moved e part t u (Err (Abort m)) k stack d = record {
  prefix = d.prefix;
  emits = d.emits;
  no_pending_text = d.no_pending_text;
  reads = d.reads;
  is_stack = refl;
  primitive_count = d.primitive_count;
  paid_looks = d.paid_looks;
  lighter = d.lighter;
}
comes_moved e part t u (Err Sink) k stack d = (
  record {
    prefix = d.0.prefix;
    emitted = d.0.emitted;
    rest = d.0.rest;
    rejection = d.0.rejection;
    prints = d.0.prints;
    reads = d.0.reads;
    primitive_count = d.0.primitive_count;
    paid_looks = d.0.paid_looks;
    exact = d.0.exact;
    fails = d.0.fails;
  },
  kept_none stack,
)

unpended_state : (s : State) → s.pending_text ≡ None → record s { pending_text = None } ≡ s
unpended_state s k = ap (λ (x : Option FixedText). record s { pending_text = x }) (sym k)

module _ {V : Type 0} {e : Env V} where
  -- no text is pending after the step
  unpended : {p q : Continuation} {t u : Machine V} → u.state.pending_text ≡ None → StepDone e p t (Ok q) (record u { state = record u.state { pending_text = None } }) → StepDone e p t (Ok q) u
  unpended {p} {q} {t} {u} k z = subst (λ (s : State). StepDone e p t (Ok q) (record u { state = s })) (unpended_state u.state k) z

  -- a nested path whose name is not special
  plain_continues : {t : Machine V} {n most : ℕ} (i letter j : ℕ) → t.state.place ≡ Some i → Some (letter, j) ≡ namespace_at e.symbol i → is_upper letter ≡ false → n ≡ t.looks + 1 → CanRead continuation.NestedName most t.state t.stack
      → PerformsRest e (path t.state.in_value (code "N")) 6 1 9 t (Ok continuation.Path)
      (record t { state = record t.state { place = Some j }; stack = t.stack ++ frame_of continuation.NestedName t.state.in_value 118 t.state.depth_left t.state.lifetimes ∷ []; looks = n })
  unfolding parse trace_at
  plain_continues {t} i letter j at r u l can_step =
      let s = record t.state { place = Some j } in
      let f = frame_of continuation.NestedName s.in_value letter s.depth_left s.lifetimes in
      let g = frame_of continuation.NestedName s.in_value 118 s.depth_left s.lifetimes in
      let ks = 4 * (j - i + 1) ∷ [] in
      let inner = trace_of_state e.symbol e.form e.output.is_printed continuation.Path s in
      let read : (rest e (path t.state.in_value (code "N")) 6 1 9 t.state).trace ≡ with_looks ks (then_frame e.symbol e.form e.output.is_printed (Some f) inner) = nested_reads e t.state i letter j at r in
      text_step continuation.Path ks [] (omega arith) (Some g) (rw can_step.no_pending_text (read ∙ ap (with_looks ks) (plain_frame e.symbol e.form e.output.is_printed s.in_value letter s.depth_left s.lifetimes inner u))) refl
      (record { grows = omega arith; within = omega arith }) (omega arith) (rw at (omega (arith, l))) (omega arith) (omega arith) (omega arith) can_step.fits can_step.fits (λ _. refl)

  -- a continuation that pushes no frame does the same above other frames
  pub performs_moved : {part : StepPart} {t u : Machine V} {r : Result Continuation StepError} → u.stack ≡ t.stack → (stack : List Frame) → Performs e t part r u → Performs e (record t { stack = stack }) part r (record u { stack = stack })
  performs_moved {part} {t} {u} {r} k stack d = record { comes = comes_moved e part t u r k stack d.comes; grows = d.grows; own_looks = d.own_looks; ready = d.ready; if_ok = d.if_ok }

  -- nothing is left to do at the end of a production
  pub end_performs : {t : Machine V} → t.state.pending_text ≡ None → PerformsAt e continuation.End t (Ok continuation.End) t
  unfolding trace_at
  end_performs {t} k = marks continuation.End (rw k refl) (omega arith) (omega arith) tt

  -- the path in the nested ones is complete
  pub inner_runs : {p at : Continuation} {before mid : Machine V} {below frames : List Frame} (u : Machine V) → Runs e p (bare before) at mid → runs_on at ≡ true → before.stack ≡ below → mid.stack ≡ frames → u.state.pending_text ≡ None
      → PerformsAt e at (raised before.stack mid) (Ok continuation.End) (record u { stack = below ++ frames }) → Runs e p (bare before) continuation.End (record u { stack = frames })
  inner_runs {p} {at} {before} {mid} {below} {frames} u x on s m no_text d =
      let same : below ++ frames ≡ before.stack ++ mid.stack = rw (s, m) refl in
      let moved : PerformsAt e at mid (Ok continuation.End) (record u { stack = mid.stack }) = performs_moved same mid.stack d in
      let one : StepDone e at mid (Ok continuation.End) (record u { stack = mid.stack }) = unpended no_text (step_continues {x = u.output} moved (rw no_text (refl, refl)) (omega arith)) in
      subst (λ (ys : List Frame). Runs e p (bare before) continuation.End (record u { stack = ys })) m (then_step x on one (λ k. d.ready k refl))

  -- the frame of a nested path resumes
  pub name_resumes : {p : Continuation} (before u : Machine V) (outer left : ℕ) → Runs e p (bare before) continuation.End (record u { stack = name_frames u.state.in_value u.state.lifetimes outer (left + 1) })
      → Runs e p (bare before) continuation.NestedName (record u { state = record u.state { letter = 118; depth_left = outer - left - 1 }; stack = name_frames u.state.in_value u.state.lifetimes outer left })
  name_resumes before u outer left x = then_resumes (name_frames u.state.in_value u.state.lifetimes outer left) (frame_of continuation.NestedName u.state.in_value 118 (outer - left - 1) u.state.lifetimes) x (frames_more u.state.in_value u.state.lifetimes outer left)

  -- one more name
  pub name_runs : {p : Continuation} (before u w : Machine V) (outer left : ℕ) → Runs e p (bare before) continuation.End (record u { stack = name_frames u.state.in_value u.state.lifetimes outer (left + 1) })
      → (let t = record u { state = record u.state { letter = 118; depth_left = outer - left - 1 } } in w.state.pending_text ≡ None → w.stack ≡ u.stack → PerformsAt e continuation.NestedName t (Ok continuation.End) w
      → Runs e p (bare before) continuation.End (record w { stack = name_frames u.state.in_value u.state.lifetimes outer left }))
  name_runs before u w outer left x no_text k d =
      let frames = name_frames u.state.in_value u.state.lifetimes outer left in
      let moved = performs_moved k frames d in
      let one : StepDone e continuation.NestedName (record u { state = record u.state { letter = 118; depth_left = outer - left - 1 }; stack = frames }) (Ok continuation.End) (record w { stack = frames }) = unpended no_text (step_continues {x = w.output} moved (rw no_text (refl, refl)) (omega arith)) in
      then_step (name_resumes before u outer left x) refl one (λ z. d.ready z refl)

  -- a step over the tag and the namespace of such a path
  pub name_step : {t : Machine V} (i letter j k : ℕ) → t.state.place ≡ Some i → 0 < t.state.depth_left → Some (78, j) ≡ byte_at e.symbol i → Some (letter, k) ≡ namespace_at e.symbol j → is_upper letter ≡ false → t.state.pending_text ≡ None → Fits continuation.Path t.state.depth_left t.state.lifetimes
      → StepDone e continuation.Path t (Ok continuation.Path)
      (record t { state = record t.state { depth_left = t.state.depth_left - 1; place = Some k }; stack = t.stack ++ frame_of continuation.NestedName t.state.in_value 118 (t.state.depth_left - 1) t.state.lifetimes ∷ []; looks = t.looks + 2 })
  name_step {t} i letter j k at d q r u no_text fits =
      let before = record t { state = record t.state { depth_left = t.state.depth_left - 1; place = Some j }; looks = t.looks + 1 } in
      let after = record t { state = record t.state { depth_left = t.state.depth_left - 1; place = Some k }; stack = t.stack ++ frame_of continuation.NestedName t.state.in_value 118 (t.state.depth_left - 1) t.state.lifetimes ∷ []; looks = t.looks + 2 } in
      let can_read : CanRead continuation.NestedName (length t.stack + 1) before.state before.stack = record { no_pending_text = no_text; room = omega arith; fits = omega (arith, fits) } in
      let inner : PerformsRest e (path t.state.in_value (code "N")) 6 1 9 before (Ok continuation.Path) after = plain_continues j letter k refl r u (omega arith) can_read in
      let whole : PerformsAt e continuation.Path t (Ok continuation.Path) after = path_tagged i 78 j (t.looks + 1) at d q refl (path_as 78 kind.NestedName (search rules) (omega arith) (omega arith) (omega arith) inner) in
      unpended no_text (step_continues {x = t.output} whole (rw no_text (refl, refl)) (omega arith))

module _ {V : Type 0} {e : Env V} where
  -- no level is left, whatever the state is after that
  path_too_deep : {t : Machine V} {s : State} (i : ℕ) → t.state.place ≡ Some i → t.state.depth_left ≡ 0 → s.pending_text ≡ None → PerformsAt e continuation.Path t (Err (Abort fixed.Recursion)) (record t { state = s })
  unfolding trace_at parse level_of levels
  path_too_deep i at d k = ends fixed.Recursion [] (omega arith) k (rw (at, d) refl) (record { grows = omega arith; within = omega arith }) (omega arith) (omega arith)

  -- no namespace follows, whatever the state is after that
  namespace_missing : {t : Machine V} {s : State} {n : ℕ} (i : ℕ) → t.state.place ≡ Some i → None ≡ namespace_at e.symbol i → n ≡ t.looks + 1 → s.pending_text ≡ None → PerformsRest e (path t.state.in_value (code "N")) 6 1 9 t (Err (Abort fixed.Invalid)) (record t { state = s; looks = n })
  unfolding parse
  namespace_missing i at r l k = ends fixed.Invalid (4 * (length e.symbol - i + 1) ∷ []) (omega arith) k (rw (at, sym r) refl) (record { grows = omega arith; within = omega arith }) (rw at (omega (arith, l))) (omega arith)

  -- a single continuation
  pub performs_one : {p : Continuation} {t u : Machine V} {r : Result Continuation StepError} → PerformsAt e p t r u → PerformsLast e p t r u
  performs_one {p} {t} {u} {r} d = record { at = p; mid = bare t; runs = starts; does = subst (λ (zs : List Frame). PerformsAt e p (record t { stack = zs }) r u) (sym (append-nil t.stack)) d }

-- a single step
pub alone : {V : Type 0} {output : Ghosts V} {p : Continuation} {m k : Parser} {v w : V} {r : Result Continuation StepError} → Performed output p m v r k w → PerformedSteps output p m v r k w
alone d = record { steps = performs_one d.does; ready = d.does.ready; if_ok = d.does.if_ok; same = d.same; grows = d.does.grows; own_looks = d.does.own_looks }

-- The names of a parser's nested paths, whose frames are not on its stack.
module _ {V : Type 0} (output : Ghosts V) where
  -- the state with which the frame of a nested path resumes
  abbrev pub named : Parser → ℕ → ℕ → Parser
  named k outer left = record k { state = record k.state { letter = 118; depth_left = outer - left - 1 } }

  abbrev frames_of : Parser → ℕ → ℕ → List Frame
  frames_of k outer left = name_frames k.state.in_value k.state.lifetimes outer left

  frames_kept : (k n : Parser) (outer left : ℕ) → Placed (named k outer left) n → frames_of k outer left ≡ frames_of n outer left
  frames_kept k n outer left placed =
      ap (λ (a : Bool). name_frames a k.state.lifetimes outer left) (sym (ap (λ (z : Parser). z.state.in_value) placed))
      ∙ ap (λ (b : ℕ). name_frames n.state.in_value b outer left) (sym (ap (λ (z : Parser). z.state.lifetimes) placed))

  -- a name was read and printed
  pub named_runs : (m k n : Parser) (v w : V) (outer left : ℕ) (p : Continuation) (before : Machine V) → k.source ≡ m.source → Placed (named k outer left) n → n.state.pending_text ≡ None → Performed output continuation.NestedName (named k outer left) v (Ok continuation.End) n w
      → Runs (env_of output m) p (bare before) continuation.End (machine_over (frames_of k outer (left + 1)) k v) → Runs (env_of output m) p (bare before) continuation.End (machine_over (frames_of n outer left) n w)
  named_runs m k n v w outer left p before s placed no_text d x =
      let does : PerformsAt (env_of output m) continuation.NestedName (machine_of (named k outer left) v) (Ok continuation.End) (machine_of n w) = rw s at d.does in
      subst (λ (ys : List Frame). Runs (env_of output m) p (bare before) continuation.End (machine_over ys n w)) (frames_kept k n outer left placed)
      (name_runs before (machine_of k v) (machine_of n w) outer left x no_text (ap (λ (z : Parser). z.stack.frames) placed) does)

  -- a name was not read or not printed
  pub named_stops : (m k n z : Parser) (v w : V) (outer left : ℕ) (stop : StepError) (p : Continuation) (before : Machine V) → k.source ≡ m.source → before.stack ≡ k.stack.frames → Placed (named k outer left) n → z ≡ restacked n (n.stack.frames ++ frames_of n outer left)
      → Performed output continuation.NestedName (named k outer left) v (Err stop) n w → Runs (env_of output m) p (bare before) continuation.End (machine_over (frames_of k outer (left + 1)) k v) → PerformsLast (env_of output m) p before (Err stop) (machine_of z w)
  named_stops m k n z v w outer left stop p before s below placed pushed d x =
      let does : PerformsAt (env_of output m) continuation.NestedName (machine_of (named k outer left) v) (Err stop) (machine_of n w) = rw s at d.does in
      let stacks : n.stack.frames ≡ k.stack.frames = ap (λ (y : Parser). y.stack.frames) placed in
      let same : before.stack ++ frames_of k outer left ≡ n.stack.frames ++ frames_of n outer left = ap (λ (ys : List Frame). ys ++ frames_of k outer left) (below ∙ sym stacks) ∙ ap (λ (ys : List Frame). n.stack.frames ++ ys) (frames_kept k n outer left placed) in
      let moved = performs_moved stacks (before.stack ++ frames_of k outer left) does in
      record {
        at = continuation.NestedName;
        mid = machine_over (frames_of k outer left) (named k outer left) v;
        runs = name_resumes before (machine_of k v) outer left x;
        does = subst (λ (y : Parser). PerformsAt (env_of output m) continuation.NestedName (machine_over (before.stack ++ frames_of k outer left) (named k outer left) v) (Err stop) (machine_of y w)) (sym pushed)
            (subst (λ (ys : List Frame). PerformsAt (env_of output m) continuation.NestedName (machine_over (before.stack ++ frames_of k outer left) (named k outer left) v) (Err stop) (machine_over ys n w)) same moved);
      }

  -- no name is left
  pub named_ends : (m k : Parser) (v : V) (outer left : ℕ) (p : Continuation) (before : Machine V) → left ≤ 0 → before.stack ≡ k.stack.frames → k.state.pending_text ≡ None → Runs (env_of output m) p (bare before) continuation.End (machine_over (frames_of k outer left) k v)
      → PerformsLast (env_of output m) p before (Ok continuation.End) (machine_of k v)
  named_ends m k v outer left p before none below no_text x =
      let zero : left ≡ 0 = omega arith in
      let same : k.stack.frames ≡ before.stack ++ frames_of k outer left = sym below ∙ (sym (append-nil before.stack) ∙ ap (λ (ys : List Frame). before.stack ++ ys) (sym (ap (frames_of k outer) zero ∙ frames_none k.state.in_value k.state.lifetimes outer))) in
      record {
        at = continuation.End;
        mid = machine_over (frames_of k outer left) k v;
        runs = x;
        does = subst (λ (ys : List Frame). PerformsAt (env_of output m) continuation.End (machine_over ys k v) (Ok continuation.End) (machine_of k v)) same (end_performs no_text);
      }

  -- Paths that are nested in one another.

  -- the machine of a parser after the tags of `count` nested paths, with their frames alone
  abbrev pub begun : Parser → V → ℕ → ℕ → ℕ → ℕ → Machine V
  begun m v outer count at n = machine (record m.state { depth_left = outer - count; place = Some at }) (frames_of m outer count) v n

  abbrev pub Begins : Parser → V → ℕ → ℕ → ℕ → ℕ → Type 0
  Begins m v outer count at n = Runs (env_of output m) continuation.Path (bare (machine_of m v)) continuation.Path (begun m v outer count at n)

  pub begins : (m : Parser) (v : V) (at : ℕ) → m.state.place ≡ Some at → Begins m v m.state.depth_left 0 at m.looks
  begins m v at k =
      let env = env_of output m in
      let whole : m.state.depth_left ≡ m.state.depth_left - 0 = omega arith in
      subst (λ (d : ℕ). Runs env continuation.Path (bare (machine_of m v)) continuation.Path (machine (record m.state { depth_left = d; place = Some at }) (frames_of m m.state.depth_left 0) v m.looks)) whole
      (subst (λ (ys : List Frame). Runs env continuation.Path (bare (machine_of m v)) continuation.Path (machine (record m.state { place = Some at }) ys v m.looks)) (sym (frames_none m.state.in_value m.state.lifetimes m.state.depth_left))
      (subst (λ (i : Place). Runs env continuation.Path (bare (machine_of m v)) continuation.Path (machine (record m.state { place = i }) [] v m.looks)) k starts))

  -- one more nested path begins
  pub begins_more : (m : Parser) (v : V) (outer count at next letter after l : ℕ) → Begins m v outer count at l → 0 < outer - count → Some (78, next) ≡ byte_at m.source.symbol.now at → Some (letter, after) ≡ namespace_at m.source.symbol.now next → is_upper letter ≡ false → m.state.pending_text ≡ None
      → Fits continuation.Path (outer - count) m.state.lifetimes → Begins m v outer (count + 1) after (l + 2)
  begins_more m v outer count at next letter after l x left tag namespace plain no_text fits =
      let one : StepDone (env_of output m) continuation.Path (begun m v outer count at l) (Ok continuation.Path) (machine (record m.state { depth_left = outer - count - 1; place = Some after }) (frames_of m outer count ++ frame_of continuation.NestedName m.state.in_value 118 (outer - count - 1) m.state.lifetimes ∷ []) v (l + 2)) =
      name_step at letter next after refl left tag namespace plain no_text fits in
      let deeper : outer - count - 1 ≡ outer - (count + 1) = omega arith in
      subst (λ (ys : List Frame). Runs (env_of output m) continuation.Path (bare (machine_of m v)) continuation.Path (machine (record m.state { depth_left = outer - (count + 1); place = Some after }) ys v (l + 2))) (sym (frames_more m.state.in_value m.state.lifetimes outer count))
      (subst (λ (d : ℕ). Runs (env_of output m) continuation.Path (bare (machine_of m v)) continuation.Path (machine (record m.state { depth_left = d; place = Some after }) (frames_of m outer count ++ frame_of continuation.NestedName m.state.in_value 118 (outer - count - 1) m.state.lifetimes ∷ []) v (l + 2))) deeper (then_step x refl one (λ k. k)))

  -- the machine above the stack of the parser
  abbrev pub deep : Parser → V → ℕ → ℕ → ℕ → ℕ → Machine V
  deep m v outer count at l = raised m.stack.frames (begun m v outer count at l)

  -- what the last path does above the frames
  abbrev pub Deep : Parser → V → ℕ → ℕ → ℕ → ℕ → Result Continuation StepError → Parser → V → Type 0
  Deep m v outer count at l r z w = PerformsAt (env_of output m) continuation.Path (deep m v outer count at l) r (machine_of z w)

  -- it is the last of the steps
  pub deep_last : (m z : Parser) (v w : V) (outer count at l : ℕ) (r : Result Continuation StepError) → Begins m v outer count at l → Deep m v outer count at l r z w → PerformsLast (env_of output m) continuation.Path (machine_of m v) r (machine_of z w)
  deep_last m z v w outer count at l r x d = record { at = continuation.Path; mid = begun m v outer count at l; runs = x; does = d }

  -- its frames were pushed before that, and it has no tag
  pub deep_untagged : (m z : Parser) (v : V) (outer count at l n : ℕ) → 0 < outer - count → None ≡ byte_at m.source.symbol.now at → n ≡ l + 1 → m.state.pending_text ≡ None → z ≡ restacked (looked m n) (m.stack.frames ++ frames_of m outer count) → Deep m v outer count at l (Err (Abort fixed.Invalid)) z v
  deep_untagged m z v outer count at l n left missing look no_text pushed =
      let d : Deep m v outer count at l (Err (Abort fixed.Invalid)) (restacked (looked m n) (m.stack.frames ++ frames_of m outer count)) v = path_untagged at refl left missing look no_text in
      rw pushed d

  pub deep_too_deep : (m z : Parser) (v : V) (outer count at l : ℕ) → outer - count ≡ 0 → m.state.pending_text ≡ None → z ≡ restacked (looked m l) (m.stack.frames ++ frames_of m outer count) → Deep m v outer count at l (Err (Abort fixed.Recursion)) z v
  deep_too_deep m z v outer count at l none no_text pushed =
      let d : Deep m v outer count at l (Err (Abort fixed.Recursion)) (restacked (looked m l) (m.stack.frames ++ frames_of m outer count)) v = path_too_deep at refl none no_text in
      rw pushed d

  pub deep_unnamed : (m z : Parser) (v : V) (outer count at next l n : ℕ) → 0 < outer - count → Some (78, next) ≡ byte_at m.source.symbol.now at → None ≡ namespace_at m.source.symbol.now next → n ≡ l + 2 → m.state.pending_text ≡ None → z ≡ restacked (looked m n) (m.stack.frames ++ frames_of m outer count)
      → Deep m v outer count at l (Err (Abort fixed.Invalid)) z v
  deep_unnamed m z v outer count at next l n left tag missing look no_text pushed =
      let d : Deep m v outer count at l (Err (Abort fixed.Invalid)) (restacked (looked m n) (m.stack.frames ++ frames_of m outer count)) v =
      path_tagged at 78 next (l + 1) refl left tag refl (path_as 78 kind.NestedName (search rules) (omega arith) (omega arith) (omega arith) (namespace_missing next refl missing (omega arith) no_text)) in
      rw pushed d

  -- the frame of a nested path is on top
  pub deep_nested : (m z : Parser) (v : V) (outer count at next letter after l n : ℕ) → 0 < outer - count → Some (78, next) ≡ byte_at m.source.symbol.now at → Some (letter, after) ≡ namespace_at m.source.symbol.now next → n ≡ l + 2 → m.state.pending_text ≡ None
      → Fits continuation.Path (outer - count) m.state.lifetimes
      → z ≡ record m { state = record m.state { depth_left = outer - count - 1; place = Some after }; stack = record m.stack { frames = (m.stack.frames ++ frames_of m outer count) ++ frame_of continuation.NestedName m.state.in_value letter (outer - count - 1) m.state.lifetimes ∷ [] }; looks = n }
      → Deep m v outer count at l (Ok continuation.Path) z v
  deep_nested m z v outer count at next letter after l n left tag namespace look no_text fits pushed =
      let can_read : CanRead continuation.NestedName (length (m.stack.frames ++ frames_of m outer count) + 1) (record m.state { depth_left = outer - count - 1; place = Some next }) (m.stack.frames ++ frames_of m outer count) = record { no_pending_text = no_text; room = omega arith; fits = omega (arith, fits) } in
      let d : Deep m v outer count at l (Ok continuation.Path) (record m { state = record m.state { depth_left = outer - count - 1; place = Some after }; stack = record m.stack { frames = (m.stack.frames ++ frames_of m outer count) ++ frame_of continuation.NestedName m.state.in_value letter (outer - count - 1) m.state.lifetimes ∷ [] }; looks = n }) v =
      path_tagged at 78 next (l + 1) refl left tag refl (path_as 78 kind.NestedName (search rules) (omega arith) (omega arith) (omega arith) (nested_continues next letter after refl namespace (omega arith) can_read refl)) in
      rw pushed d

  -- another path is in the nested ones
  pub deep_other : (m z : Parser) (v w : V) (outer count at tag next l n : ℕ) (r : Result Continuation StepError) → 0 < outer - count → Some (tag, next) ≡ byte_at m.source.symbol.now at → n ≡ l + 1
      → PerformedRest output (path m.state.in_value tag) 6 8 9 (record m { state = record m.state { depth_left = outer - count - 1; place = Some next }; stack = record m.stack { frames = m.stack.frames ++ frames_of m outer count }; looks = n }) v r z w → Deep m v outer count at l r z w
  deep_other m z v w outer count at tag next l n r left read look d = path_tagged at tag next n refl left read look d.does

  -- the parser after the `C` of a crate
  abbrev pub in_crate : Parser → ℕ → ℕ → ℕ → ℕ → Parser
  in_crate m outer count next n = record m { state = record m.state { depth_left = outer - count - 1; place = Some next }; looks = n }

  -- a path that pushes no frames is in the nested ones, whose frames are not on its stack
  inner_deep : (m k : Parser) (v w : V) (outer count at tag next l n : ℕ) (performed : Result Continuation StepError) → 0 < outer - count → Some (tag, next) ≡ byte_at m.source.symbol.now at → n ≡ l + 1 → PerformedRest output (path m.state.in_value tag) 6 8 9 (in_crate m outer count next n) v performed k w → Placed (in_crate m outer count next n) k
      → PerformsAt (env_of output m) continuation.Path (deep m v outer count at l) performed (machine_over (m.stack.frames ++ frames_of m outer count) k w)
  inner_deep m k v w outer count at tag next l n performed left read look d placed =
      let stack : k.stack.frames ≡ m.stack.frames = ap (λ (q : Parser). q.stack.frames) placed in
      path_tagged at tag next n refl left read look (performs_moved stack (m.stack.frames ++ frames_of m outer count) d.does)

  -- the path of a crate, and of a reference, after its tag
  pub crate_inner : (m k : Parser) (v w : V) (performed : Result Continuation StepError) → PerformedRest output (crate_path m.state.in_value) 6 1 0 m v performed k w → PerformedRest output (path m.state.in_value 67) 6 8 9 m v performed k w
  crate_inner m k v w performed d = record { does = path_as 67 kind.CrateRoot (search rules) (omega arith) (omega arith) (omega arith) d.does; same = d.same }

  pub backref_inner : (m k : Parser) (v w : V) (performed : Result Continuation StepError) → Followed output continuation.Path m v performed k w → PerformedRest output (path m.state.in_value 66) 6 8 9 m v performed k w
  backref_inner m k v w performed follow =
      let s = m.state in
      let d = follow true a_path s.in_value (unit_path m.source.symbol.now m.source.form s.in_value s.letter s.lifetimes) in
      record { does = path_as 66 kind.Backref (search rules) (omega arith) (omega arith) (omega arith) d.does; same = d.same }

  -- the crate alone
  pub deep_crate : (m k : Parser) (v w : V) (outer count at next l n : ℕ) (performed : Result Continuation StepError) → count ≡ 0 → 0 < outer - count → Some (67, next) ≡ byte_at m.source.symbol.now at → n ≡ l + 1 → PerformedRest output (crate_path m.state.in_value) 6 1 0 (in_crate m outer count next n) v performed k w → Placed (in_crate m outer count next n) k
      → Deep m v outer count at l performed k w
  deep_crate m k v w outer count at next l n performed none left tag look d placed =
      let stack : k.stack.frames ≡ m.stack.frames = ap (λ (q : Parser). q.stack.frames) placed in
      let frames : m.stack.frames ++ frames_of m outer count ≡ k.stack.frames = ap (λ (ys : List Frame). m.stack.frames ++ ys) (ap (frames_of m outer) none ∙ frames_none m.state.in_value m.state.lifetimes outer) ∙ (append-nil m.stack.frames ∙ sym stack) in
      subst (λ (ys : List Frame). PerformsAt (env_of output m) continuation.Path (deep m v outer count at l) performed (machine_over ys k w)) frames (inner_deep m k v w outer count at 67 next l n performed left tag look (crate_inner (in_crate m outer count next n) k v w performed d) placed)

  -- the names after such a path
  pub inner_last : (m k z : Parser) (v w y : V) (outer count at tag next l n : ℕ) (performed r : Result Continuation StepError) → Begins m v outer count at l → 0 < outer - count → Some (tag, next) ≡ byte_at m.source.symbol.now at → n ≡ l + 1 → PerformedRest output (path m.state.in_value tag) 6 8 9 (in_crate m outer count next n) v performed k w
      → Placed (in_crate m outer count next n) k → NamesFollow output performed count outer k w r z y → PerformsLast (env_of output m) continuation.Path (machine_of m v) r (machine_of z y)
  inner_last m k z v w y outer count at tag next l n performed r x left read look d placed follow =
      let source : k.source ≡ m.source = ap (λ (q : Parser). q.source) placed in
      let stack : k.stack.frames ≡ m.stack.frames = ap (λ (q : Parser). q.stack.frames) placed in
      let frames : frames_of m outer count ≡ frames_of k outer count =
      ap (λ (a : Bool). name_frames a m.state.lifetimes outer count) (sym (ap (λ (q : Parser). q.state.in_value) placed)) ∙ ap (λ (b : ℕ). name_frames k.state.in_value b outer count) (sym (ap (λ (q : Parser). q.state.lifetimes) placed)) in
      let same : m.stack.frames ++ frames_of m outer count ≡ k.stack.frames ++ frames_of k outer count = ap (λ (ys : List Frame). ys ++ frames_of m outer count) (sym stack) ∙ ap (λ (ys : List Frame). k.stack.frames ++ ys) frames in
      let over : PerformsAt (env_of output m) continuation.Path (deep m v outer count at l) performed (machine_over (k.stack.frames ++ frames_of k outer count) k w) =
      subst (λ (ys : List Frame). PerformsAt (env_of output m) continuation.Path (deep m v outer count at l) performed (machine_over ys k w)) same (inner_deep m k v w outer count at tag next l n performed left read look d placed) in
      rw source at (follow continuation.Path continuation.Path (machine_of m v) (begun m v outer count at l) (rw source x) refl (sym stack) frames (rw source over))
