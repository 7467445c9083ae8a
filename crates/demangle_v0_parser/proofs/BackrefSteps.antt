-- Back references.
use Rattle.demangle_sink.specs.declared.SinkRefused.{SinkRefused}
use Rattle.demangle_v0_parser.specs.declared.State.{State}
use Rattle.std.specs.Prelude.{◌*◌, ◌^◌, if◌then◌else◌}
use Rattle.std.proofs.lemmas.Bool.{false≢true}
use Rattle.std.proofs.Common.{◌≡◌, ℕ, zero, suc, sub-one, ◌+◌, ◌-◌, ◌<◌, ◌≤◌, length, Bool, true, false, Some, None, List, [], ◌∷◌, ◌++◌, Ok, Err, refl, arith, sym, ap, ◌∙◌}
use Rattle.demangle_symbol.specs.Primitives.{Read, backref_at}
use Rattle.demangle_v0_grammar.specs.LookTotals.{total}
use Rattle.demangle_v0_grammar.specs.References.{bytes_after}
use Rattle.demangle_v0_grammar.specs.Traces.{Trace, refers, returns, of, empty_trace, and_then, with_looks, with_texts, context_at, with_reference, with_end}
use Rattle.demangle_v0_tokens.specs.Texts.{text}
use Rattle.demangle_v0_grammar.specs.Items.{Kind, a_path, a_type, a_constant, a_trait_path, target}
use Rattle.demangle_v0_parser.specs.Measure.{Fits}
use Rattle.demangle_v0_parser.specs.Steps.{Machine, Env, refers_on, ends_at, LooksWithin, Performs, PerformsAt, CanRead}
use Rattle.demangle_v0_parser.specs.Traces.{frame_of, then_frame, trace_at}
use Rattle.demangle_v0_grammar.specs.Reading.{Form, Place, parse, primitive_outcome, level_of, levels, target_of, target_read}
use Rattle.demangle_v0_parser.specs.Productions.{IsProduction, none_open_if, target_part}
use Rattle.demangle_v0_parser.specs.Targets.{target_of as target_continuation}
use Rattle.demangle_v0_tokens.specs.Backrefs.{read_backref, reference_read, leads}
use Rattle.demangle_v0_tokens.specs.declared.fixed_texts.FixedText.{FixedText}
use Rattle.demangle_v0_tokens.specs.declared.backref.BackrefOutcome.{BackrefOutcome}
use Rattle.demangle_v0_tokens.specs.declared.backref.BackrefOutcome.TheVariants.{NotFollowed, Target}
use Rattle.demangle_v0_parser.specs.declared.Continuation.{Continuation}
use Rattle.demangle_v0_parser.specs.declared.Continuation.TheVariants as continuation
use Rattle.demangle_v0_parser.specs.declared.frames.Frame.{Frame}
use Rattle.demangle_v0_parser.specs.declared.StepError.TheVariants.{Abort, Sink}
use Rattle.demangle_v0_tokens.specs.declared.output.Output.{Ghosts}
use Rattle.demangle_v0_parser.proofs.StepRules.{way_light}
use Rattle.demangle_v0_parser.proofs.StepCases.{text_step, ends, receives_on, receives_no_more}
use Rattle.demangle_v0_parser.proofs.PrimitiveLooks.{refer_short, refer_few}
use Rattle.std.proofs.lemmas.List.{append-nil}

shut_allowing : (closed : Bool) (ks : List ℕ) (h : Trace) → none_open_if closed (with_looks ks h) ≡ with_looks ks (none_open_if closed h)
shut_allowing true ks h = refl
shut_allowing false ks h = refl

-- the end of a target, after which a production continues at a place
abbrev after_target : ℕ → Place → Bool → Trace
after_target j i o = with_end true i (empty_trace (Some j) o)

shut_after : (closed : Bool) (h : Trace) (j : ℕ) → none_open_if closed (and_then h (after_target j)) ≡ and_then (none_open_if closed h) (after_target j)
shut_after true h j = refl
shut_after false h j = refl

shut_reference : (closed : Bool) (t : ℕ) (h : Trace) → none_open_if closed (with_reference true t h) ≡ with_reference true t (none_open_if closed h)
shut_reference true t h = refl
shut_reference false t h = refl

shut_fault : (closed out : Bool) (m : FixedText) → none_open_if closed (with_texts out (text m ∷ []) (empty_trace None false)) ≡ with_texts out (text m ∷ []) (empty_trace None false)
shut_fault true out m = refl
shut_fault false out m = refl

shut_ended : (closed : Bool) (i : Place) → none_open_if closed (empty_trace i false) ≡ empty_trace i false
shut_ended true i = refl
shut_ended false i = refl

-- The productions at which back references point.

pub unit_path : (b : List ℕ) (form : Form) (v : Bool) (c n : ℕ) → IsProduction b form continuation.Path v c n true a_path v
unfolding trace_at
unit_path b form v c n = record { same = λ left t. refl; light = omega arith; low = λ left. omega arith; fits = λ left f. f }

pub unit_type : (b : List ℕ) (form : Form) (v : Bool) (c n : ℕ) → IsProduction b form continuation.«Type» v c n true a_type false
unfolding trace_at
unit_type b form v c n = record { same = λ left t. refl; light = omega arith; low = λ left. omega arith; fits = λ left f. f }

pub unit_constant : (b : List ℕ) (form : Form) (v : Bool) (c n : ℕ) → IsProduction b form continuation.Constant v c n true a_constant v
unfolding trace_at
unit_constant b form v c n = record { same = λ left t. refl; light = omega arith; low = λ left. omega arith; fits = λ left f. f }

pub unit_trait : (b : List ℕ) (form : Form) (v : Bool) (c n : ℕ) → IsProduction b form continuation.TraitPath v c n false a_trait_path false
unfolding trace_at
unit_trait b form v c n = record { same = λ left t. refl; light = omega arith; low = λ left. omega arith; fits = λ left f. f }

-- the continuation at the target of a reference starts the same production
pub target_production : (b : List ℕ) (form : Form) (p : Continuation) (v : Bool) (c n : ℕ) (closed : Bool) (k : Kind) (value : Bool) → IsProduction b form p v c n closed k value → IsProduction b form (target_continuation p) v c n closed k value
unfolding trace_at
target_production b form continuation.Path v c n closed k value u = record { same = u.same; light = omega arith; low = λ left. omega arith; fits = u.fits }
target_production b form continuation.«Type» v c n closed k value u = record { same = u.same; light = omega arith; low = λ left. omega arith; fits = u.fits }
target_production b form continuation.Constant v c n closed k value u = record { same = u.same; light = omega arith; low = λ left. omega arith; fits = u.fits }
target_production b form p v c n closed k value u = u

module _ {V : Type 0} (output : Ghosts V) (b : List ℕ) (form : Form) where
  abbrev led : Bool → ℕ → Kind → Bool → ℕ → BackrefOutcome → Trace
  led out left k v n (NotFollowed m) = with_texts out (text m ∷ []) (empty_trace None false)
  led out left k v n (Target t j) = if out then with_reference true t (and_then (of form true (level_of b form.fold_arguments (levels b form.fold_arguments (left - 1)) true k v n t)) (after_target j)) else empty_trace (Some j) false

  target_trace : (left : ℕ) (k : Kind) (v : Bool) (n : ℕ) (i : Place) (r : BackrefOutcome) → r ≡ (read_backref b left i).refers
      → of form output.is_printed (parse (target k v) (context_at b form output.is_printed left n) i) ≡ with_looks (read_backref b left i).costs (led output.is_printed left k v n r)
  unfolding parse levels
  target_trace left k v n None r e = rw e refl
  target_trace left k v n (Some i) r e = go (backref_at b i) ∙ ap (λ (z : BackrefOutcome). with_looks (read_backref b left (Some i)).costs (led output.is_printed left k v n z)) (sym e)
    where
      last : (out : Bool) (left a j : ℕ) → of form out (target_of (levels b form.fold_arguments left) (λ level. target_read out (level true k v n) a (Some j))) ≡ led out left k v n (leads left a j)
      last out zero a j = refl
      last false (suc left) a j = refl
      last true (suc left) a j = rw sub-one (ap (λ xs. record { events = xs; place = Some j; is_bracket_open = (level_of b form.fold_arguments (levels b form.fold_arguments left) true k v n a).is_bracket_open }) (append-nil (refers a ∷ ((of form true (level_of b form.fold_arguments (levels b form.fold_arguments left) true k v n a)).events ++ returns (level_of b form.fold_arguments (levels b form.fold_arguments left) true k v n a).place ∷ []))))

      go : (r : Read ℕ) → of form output.is_printed (primitive_outcome (length b) i (λ a j. target_of (levels b form.fold_arguments left) (λ level. target_read output.is_printed (level true k v n) a j)) r)
          ≡ with_looks (reference_read (length b) left i r).costs (led output.is_printed left k v n (reference_read (length b) left i r).refers)
      go None = refl
      go (Some r) = ap (with_looks (4 * (r.1 - i + 1) ∷ [])) (last output.is_printed left r.0 r.1)

  abbrev target_at : Bool → ℕ → Kind → Bool → ℕ → Place → Trace
  target_at closed left k v n i = none_open_if closed (of form output.is_printed (parse (target k v) (context_at b form output.is_printed left n) i))

  shut_trace : (closed : Bool) (left : ℕ) (k : Kind) (v : Bool) (n : ℕ) (i : Place) (r : BackrefOutcome) → r ≡ (read_backref b left i).refers → target_at closed left k v n i ≡ with_looks (read_backref b left i).costs (none_open_if closed (led output.is_printed left k v n r))
  shut_trace closed left k v n i r e = ap (none_open_if closed) (target_trace left k v n i r e) ∙ shut_allowing closed (read_backref b left i).costs (led output.is_printed left k v n r)

  -- the trace of a reference that is followed
  shown_trace : (s : State) (closed : Bool) (k : Kind) (v : Bool) (a j : ℕ) → Target a j ≡ (read_backref b s.depth_left s.place).refers → output.is_printed ≡ true
      → target_at closed s.depth_left k v s.lifetimes s.place
      ≡ with_looks (read_backref b s.depth_left s.place).costs (with_reference true a (none_open_if closed (and_then (of form true (level_of b form.fold_arguments (levels b form.fold_arguments (s.depth_left - 1)) true k v s.lifetimes a)) (after_target j))))
  shown_trace s closed k v a j r q =
      let ks = (read_backref b s.depth_left s.place).costs in
      shut_trace closed s.depth_left k v s.lifetimes s.place (Target a j) r
      ∙ (ap (λ (z : Bool). with_looks ks (none_open_if closed (led z s.depth_left k v s.lifetimes (Target a j)))) q
      ∙ ap (with_looks ks) (shut_reference closed a (and_then (of form true (level_of b form.fold_arguments (levels b form.fold_arguments (s.depth_left - 1)) true k v s.lifetimes a)) (after_target j))))

  ref_paid : (left t j : ℕ) (i : Place) → Target t j ≡ (read_backref b left i).refers → 1 ≤ total (read_backref b left i).costs
  ref_paid left t j None e = absurd (no_target e)
    where
      no_target : Target t j ≡ (read_backref b left None).refers → ⊥
      no_target z = cc
  ref_paid left t j (Some i) e = go (backref_at b i)
    where
      go : (r : Read ℕ) → 1 ≤ total (reference_read (length b) left i r).costs
      go None = omega arith
      go (Some r) = omega arith

module _ {V : Type 0} {e : Env V} where
  -- a production that is complete
  pub stays_over : {t : Machine V} → t.state.pending_text ≡ None → PerformsAt e continuation.End t (Ok continuation.End) t
  unfolding then_frame trace_at
  stays_over k = text_step continuation.End [] [] (omega arith) None (rw k refl) refl (record { grows = omega arith; within = omega arith }) (omega arith) (omega arith) (omega arith) (omega arith) (omega arith) tt tt (λ _. tt)

  -- a target, whose production is next
  pub path_target : {t : Machine V} → t.state.pending_text ≡ None → Fits continuation.TargetPath t.state.depth_left t.state.lifetimes → PerformsAt e continuation.TargetPath t (Ok continuation.Path) t
  unfolding then_frame trace_at
  path_target k f = text_step continuation.Path [] [] (omega arith) None (rw k refl) refl (record { grows = omega arith; within = omega arith }) (omega arith) (omega arith) (omega arith) (omega arith) (omega arith) tt f (λ _. tt)

  pub type_target : {t : Machine V} → t.state.pending_text ≡ None → Fits continuation.TargetType t.state.depth_left t.state.lifetimes → PerformsAt e continuation.TargetType t (Ok continuation.«Type») t
  unfolding then_frame trace_at
  type_target k f = text_step continuation.«Type» [] [] (omega arith) None (rw k refl) refl (record { grows = omega arith; within = omega arith }) (omega arith) (omega arith) (omega arith) (omega arith) (omega arith) tt f (λ _. tt)

  pub constant_target : {t : Machine V} → t.state.pending_text ≡ None → Fits continuation.TargetConstant t.state.depth_left t.state.lifetimes → PerformsAt e continuation.TargetConstant t (Ok continuation.Constant) t
  unfolding then_frame trace_at
  constant_target k f = text_step continuation.Constant [] [] (omega arith) None (rw k refl) refl (record { grows = omega arith; within = omega arith }) (omega arith) (omega arith) (omega arith) (omega arith) (omega arith) tt f (λ _. tt)

  pub target_stops : {t : Machine V} {n : ℕ} (closed : Bool) (k : Kind) (v : Bool) (m : FixedText) → NotFollowed m ≡ (read_backref e.symbol t.state.depth_left t.state.place).refers → LooksWithin t.looks (read_backref e.symbol t.state.depth_left t.state.place).costs n → t.state.pending_text ≡ None
      → Performs e t (target_part e closed k v t.state) (Err (Abort m)) (record t { looks = n })
  target_stops {t} closed k v m r p q =
      let s = t.state in
      let ks = (read_backref e.symbol s.depth_left s.place).costs in
      ends m ks (refer_few e.symbol s.depth_left s.place) q (shut_trace e.output e.symbol e.form closed s.depth_left k v s.lifetimes s.place (NotFollowed m) r ∙ ap (with_looks ks) (shut_fault closed e.output.is_printed m)) p (omega (arith, p.within, refer_short e.symbol s.depth_left s.place)) (omega arith)

  -- the reference is not followed
  pub target_hidden : {t : Machine V} {n : ℕ} (closed : Bool) (k : Kind) (v : Bool) (a j : ℕ) → Target a j ≡ (read_backref e.symbol t.state.depth_left t.state.place).refers → LooksWithin t.looks (read_backref e.symbol t.state.depth_left t.state.place).costs n → e.output.is_printed ≡ false → t.state.pending_text ≡ None
      → Performs e t (target_part e closed k v t.state) (Ok continuation.End) (record t { state = record t.state { place = Some j; is_bracket_open = false }; looks = n })
  unfolding then_frame trace_at
  target_hidden {t} closed k v a j r p q m =
      let s = t.state in
      let ks = (read_backref e.symbol s.depth_left s.place).costs in
      text_step continuation.End ks [] (omega (arith, refer_few e.symbol s.depth_left s.place)) None
      (shut_trace e.output e.symbol e.form closed s.depth_left k v s.lifetimes s.place (Target a j) r
      ∙ (ap (λ (c : Bool). with_looks ks (none_open_if closed (led e.output e.symbol e.form c s.depth_left k v s.lifetimes (Target a j)))) q
      ∙ (ap (with_looks ks) (shut_ended closed (Some j)) ∙ rw m refl)))
      refl (rw append-nil p) (omega arith) (omega (arith, p.within, refer_short e.symbol s.depth_left s.place)) (omega (arith, ref_paid e.output e.symbol e.form s.depth_left a j s.place r)) (omega arith) (omega arith) tt tt (λ _. tt)

  -- the reference is followed
  pub target_shown : {t : Machine V} {stack : List Frame} {w : V} {n most : ℕ} (p : Continuation) (closed : Bool) (k : Kind) (v : Bool) (a j : ℕ) → IsProduction e.symbol e.form p t.state.in_value t.state.letter t.state.lifetimes closed k v → Target a j ≡ (read_backref e.symbol t.state.depth_left t.state.place).refers
      → LooksWithin t.looks (read_backref e.symbol t.state.depth_left t.state.place).costs n → e.output.is_printed ≡ true → e.output.follows t.output (length e.symbol - a + 1) (Ok tt) w → e.output.ready w → 0 < t.state.depth_left → j < 2 ^ 64 → CanRead continuation.Path most t.state t.stack
      → stack ≡ t.stack ++ frame_of continuation.AfterBackref t.state.in_value t.state.letter t.state.depth_left j ∷ []
      → Performs e t (target_part e closed k v t.state) (Ok p) (record t { state = record t.state { depth_left = t.state.depth_left - 1; place = Some a; is_bracket_open = false }; stack = stack; output = w; looks = n })
  unfolding then_frame trace_at
  target_shown {t} p closed k v a j unit r within_budget q put ready d small can_step w =
      let s = t.state in
      let ks = (read_backref e.symbol s.depth_left s.place).costs in
      receives_on p ks (omega (arith, refer_few e.symbol s.depth_left s.place)) (refers_on a) (Some (frame_of continuation.AfterBackref s.in_value s.letter s.depth_left j))
      (shown_trace e.output e.symbol e.form s closed k v a j r q
      ∙ (ap (λ (h : Trace). with_looks ks (with_reference true a h)) (shut_after closed (of e.form true (level_of e.symbol e.form.fold_arguments (levels e.symbol e.form.fold_arguments (s.depth_left - 1)) true k v s.lifetimes a)) j)
      ∙ (ap (λ (h : Trace). with_looks ks (with_reference true a (and_then h (after_target j)))) (sym (unit.same (s.depth_left - 1) a))
      ∙ ap (λ (z : Bool). with_looks ks (with_reference z a (and_then (trace_at e.symbol e.form z p s.in_value s.letter (s.depth_left - 1) s.lifetimes (Some a) false) (λ i o. with_end z i (empty_trace (Some j) o))))) (sym q))))
      put (λ _. ready) can_step.no_pending_text
      w within_budget (omega (arith, within_budget.within, refer_short e.symbol s.depth_left s.place)) (omega (arith, ref_paid e.output e.symbol e.form s.depth_left a j s.place r, unit.light, way_light p)) (omega arith) (omega (arith, d, unit.low (s.depth_left - 1))) small
      (unit.fits (s.depth_left - 1) (omega (arith, can_step.fits, d))) (λ h. absurd (false≢true (sym h ∙ q)))

  -- too few bytes may be read again
  pub target_refused : {t : Machine V} {u : State} {w : V} {n : ℕ} {f : SinkRefused} (closed : Bool) (k : Kind) (v : Bool) (a j : ℕ) → Target a j ≡ (read_backref e.symbol t.state.depth_left t.state.place).refers
      → LooksWithin t.looks (read_backref e.symbol t.state.depth_left t.state.place).costs n → e.output.is_printed ≡ true → e.output.follows t.output (length e.symbol - a + 1) (Err f) w
      → Performs e t (target_part e closed k v t.state) (Err Sink) (record t { state = u; output = w; looks = n })
  target_refused {t} closed k v a j r within_budget q put =
      let s = t.state in
      let ks = (read_backref e.symbol s.depth_left s.place).costs in
      let rest = none_open_if closed (and_then (of e.form true (level_of e.symbol e.form.fold_arguments (levels e.symbol e.form.fold_arguments (s.depth_left - 1)) true k v s.lifetimes a)) (after_target j)) in
      receives_no_more ks (omega (arith, refer_few e.symbol s.depth_left s.place)) (refers_on a) rest
      (shown_trace e.output e.symbol e.form s closed k v a j r q ∙ ap (λ (z : Bool). with_looks ks (with_reference z a rest)) (sym q))
      put (λ h. absurd (false≢true (sym h ∙ q))) within_budget (omega (arith, within_budget.within, refer_short e.symbol s.depth_left s.place))

  -- after the reference
  pub continues_after : {t : Machine V} {w : V} → t.state.pending_text ≡ None → e.output.gives_back t.output (bytes_after (length e.symbol) t.state.place) w → (e.output.ready t.output → e.output.ready w)
      → PerformsAt e continuation.AfterBackref t (Ok continuation.End) (record t { state = record t.state { place = Some t.state.lifetimes }; output = w })
  unfolding then_frame trace_at
  continues_after {t} k put still = receives_on continuation.End [] (omega arith) (ends_at t.state.place) None refl put still k refl (record { grows = omega arith; within = omega arith }) (omega arith) (omega arith) (omega arith) (omega arith) tt tt (λ _. tt)
