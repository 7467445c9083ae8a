-- The traces of lists, up to their end or to an element, and the continuations of their elements.
use Rattle.std.specs.Prelude.{codes, if◌then◌else◌, ◌*◌}
use Rattle.std.proofs.Common.{◌≡◌, ℕ, ◌+◌, ◌≤◌, Bool, true, false, Option, Some, None, List, [], ◌∷◌, ◌++◌, Ok, refl, arith, sym, ap, ◌∙◌, length}
use Rattle.std.proofs.lemmas.Bool.{false≢true}
use Rattle.std.proofs.lemmas.List.{append-nil}
use Prim.Native.Char.{code}
use Prim.Native.String.{String}
use Rattle.demangle_symbol.specs.Digits.{is_byte}
use Rattle.demangle_v0_grammar.specs.Items.{Items, a_type, a_constant, done, print, unit}
use Rattle.demangle_v0_grammar.specs.LookTotals.{total}
use Rattle.demangle_v0_grammar.specs.Table.{at_end, more, print_str, type_inside, constant_inside}
use Rattle.demangle_v0_grammar.specs.Traces.{Trace, of, and_then, with_looks, with_texts, context_at}
use Rattle.demangle_v0_grammar.specs.Reading.{Place, parse, max_depth}
use Rattle.demangle_v0_tokens.specs.Texts.{text}
use Rattle.demangle_v0_parser.specs.Productions.{separator}
use Rattle.demangle_v0_parser.specs.Traces.{pending_texts, frame_at, then_frame, with_closed_bracket, trace_of_frame, trace_at, trace_of_state}
use Rattle.demangle_v0_parser.specs.Measure.{weight_left, weight_at, primitives_at, height_at, is_inner, Fits}
use Rattle.demangle_v0_parser.specs.Steps.{PerformsAt, Machine, Env, part, Performs, LooksWithin}
use Rattle.demangle_v0_parser.specs.Continuations.{is_list_end, after_list, list_costs}
use Rattle.demangle_v0_tokens.specs.declared.fixed_texts.FixedText.{FixedText}
use Rattle.demangle_v0_tokens.specs.declared.fixed_texts.FixedText.TheVariants as fixed
use Rattle.demangle_v0_parser.specs.declared.Continuation.{Continuation}
use Rattle.demangle_v0_parser.specs.declared.Continuation.TheVariants as continuation
use Rattle.demangle_v0_parser.specs.declared.frames.Frame.{Frame}
use Rattle.demangle_v0_parser.specs.declared.State.{State}
use Rattle.demangle_v0_grammar.proofs.ListProgress.{Element, type_element, constant_element}
use Rattle.demangle_v0_grammar.proofs.ListTraces.{followed, end_failed, end_over, end_on, more_failed, more_over, more_on, second_on}
use Rattle.demangle_v0_parser.proofs.StepRules.{child_last}
use Rattle.demangle_v0_parser.proofs.StepCases.{Within, list_short, list_few, list_tokens, text_step}

-- The remaining items of a list of x, before z. Either nothing of the list is read, and these items follow its first
-- element, or an element is read.
abbrev pub trace_left : Bool → String → Items → Items → Items → Items
trace_left first text x z rest = if first then at_end z (unit x rest) else more text x z

-- the same after one more x
abbrev pub then_of : Bool → String → Items → Items → Items → Items
then_of first text x z rest = if first then rest else more text x z

-- the trace of these items from a place, with the bracket as they leave it
abbrev pub open_at : {V : Type 0} → Env V → Items → State → Place → Trace
open_at e p s i = of e.form e.output.is_printed (parse p (context_at e.symbol e.form e.output.is_printed s.depth_left s.lifetimes) i)

-- the same, with the bracket closed after them
abbrev pub shut_at : {V : Type 0} → Env V → Items → State → Place → Trace
shut_at e p s i = with_closed_bracket (open_at e p s i)

-- a list that does not end has a byte at its place
abbrev pub NotOver : List ℕ → Place → Type 0
NotOver b i = (k : ℕ) × (i ≡ Some k) × (is_byte b k (code "E") ≡ false) × (after_list b i ≡ Some k)

pub on : (b : List ℕ) (i : Place) → is_list_end b i ≡ false → NotOver b i
on b None h = absurd (false≢true (sym h))
on b (Some k) h = (k, refl, h, rw h refl)

-- a list that ends there
pub ends_at : (b : List ℕ) (i : Place) (k : ℕ) → i ≡ Some k → is_byte b k (code "E") ≡ true → (is_list_end b i ≡ true) × (Some (k + 1) ≡ after_list b i)
ends_at b i k at h = rw at (h, rw h refl)

pub one_look : {a n : ℕ} → n ≡ a + 1 → LooksWithin a (1 ∷ []) n
one_look l = record { grows = omega (arith, l); within = omega (arith, l) }

-- the looks before an element
pub paid_on : {a n : ℕ} (i : Place) → LooksWithin a (list_costs i) n → LooksWithin a (1 ∷ []) n
paid_on i p = record { grows = p.grows; within = omega (arith, p.within, list_few i) }

module _ {V : Type 0} (e : Env V) (s : State) where
  pub end_trace : (p q : Items) (i : Place) → is_list_end e.symbol i ≡ true → open_at e (at_end p q) s i ≡ with_looks (list_costs i) (open_at e p s (after_list e.symbol i))
  end_trace p q None h = end_failed e.form e.output.is_printed (context_at e.symbol e.form e.output.is_printed s.depth_left s.lifetimes) p q
  end_trace p q (Some i) h = rw h (end_over e.form e.output.is_printed (context_at e.symbol e.form e.output.is_printed s.depth_left s.lifetimes) p q i h)

  more_trace : (text : String) (x z : Items) (i : Place) → is_list_end e.symbol i ≡ true → open_at e (more text x z) s i ≡ with_looks (list_costs i) (open_at e z s (after_list e.symbol i))
  more_trace text x z None h = more_failed e.form e.output.is_printed (context_at e.symbol e.form e.output.is_printed s.depth_left s.lifetimes) text x z
  more_trace text x z (Some i) h = rw h (more_over e.form e.output.is_printed (context_at e.symbol e.form e.output.is_printed s.depth_left s.lifetimes) text x z i h)

  -- the look at the end of the list
  pub over_trace : (first : Bool) (text : String) (x z rest : Items) (i : Place) → is_list_end e.symbol i ≡ true → open_at e (trace_left first text x z rest) s i ≡ with_looks (list_costs i) (open_at e z s (after_list e.symbol i))
  over_trace true text x z rest i h = end_trace z (unit x rest) i h
  over_trace false text x z rest i h = more_trace text x z i h

  -- one element, after the separator, which is the text of `m`
  pub on_trace : (first : Bool) (sep : String) (m : FixedText) → text m ≡ codes sep → (x z rest : Items) (i : ℕ) → Element e.symbol e.form e.output.is_printed s.depth_left s.lifetimes x → is_byte e.symbol i (code "E") ≡ false
      → open_at e (trace_left first sep x z rest) s (Some i) ≡ with_looks (1 ∷ []) (with_texts e.output.is_printed (pending_texts (separator first m)) (followed (open_at e x s (Some i)) (open_at e (then_of first sep x z rest) s)))
  unfolding parse
  on_trace true sep m q x z rest i el h = end_on e.form e.output.is_printed (context_at e.symbol e.form e.output.is_printed s.depth_left s.lifetimes) z (unit x rest) i h
  on_trace false sep m q x z rest i el h = rw q (more_on e.form e.output.is_printed e.symbol s.depth_left s.lifetimes sep x z i el h)

module _ {V : Type 0} {e : Env V} where
  -- The list ends, and another continuation follows.
  pub list_ends : {t : Machine V} {h : Trace} {words weight high : ℕ} (to : Continuation) {s : State} {n : ℕ} → 1 ≤ words
      → h ≡ with_looks (list_costs t.state.place) (with_texts e.output.is_printed (pending_texts s.pending_text) (trace_of_state e.symbol e.form e.output.is_printed to s)) → LooksWithin t.looks (list_costs t.state.place) n
      → weight_left to + 1 ≤ weight → height_at to s.depth_left ≤ high → Fits to s.depth_left s.lifetimes → Performs e t (part words h weight high) (Ok to) (record t { state = s; looks = n })
  unfolding then_frame
  list_ends {t} to primitive_count r p w x f =
      text_step to (list_costs t.state.place) [] (omega (arith, primitive_count, list_tokens t.state.place)) None r refl (rw append-nil p) (omega arith) (omega (arith, p.within, list_short e.symbol t.state.place)) (omega (arith, w)) (omega arith) (omega (arith, x)) tt f (λ _. tt)

-- x is the production at this continuation, and its value position is `v`
pub record Units {V : Type 0} (e : Env V) (q : Continuation) (v : State → Bool) (x : Items) : Type 0 where
  pub at : (s : State) (i : ℕ) (m : Option FixedText) → shut_at e x s (Some i) ≡ trace_of_state e.symbol e.form e.output.is_printed q (record s { in_value = v s; place = Some i; pending_text = m })
  pub element : (left n : ℕ) → left ≤ max_depth → Element e.symbol e.form e.output.is_printed left n x
  pub within : Within q 3 1

module _ {V : Type 0} (e : Env V) where
  pub type_units : Units e continuation.«Type» (λ s. s.in_value) type_inside
  unfolding trace_at
  type_units = record { at = λ s i m. child_last e.output e.symbol e.form a_type false s.depth_left s.lifetimes (Some i); element = λ left n. type_element e.symbol e.form e.output.is_printed left n; within = record { light = omega arith; low = λ left. omega arith; fits = λ left n f. f } }

  pub constant_units : Units e continuation.Constant (λ _. true) constant_inside
  unfolding trace_at
  constant_units = record { at = λ s i m. child_last e.output e.symbol e.form a_constant true s.depth_left s.lifetimes (Some i); element = λ left n. constant_element e.symbol e.form e.output.is_printed left n; within = record { light = omega arith; low = λ left. omega arith; fits = λ left n f. f } }

-- A list of x before z. Its continuations are: `p`, at which an element may begin; `q`, that of an element, with its
-- value position; and `f`, after an element.
pub record Listed {V : Type 0} (e : Env V) (p q f : Continuation) (v : State → Bool) (first : Bool) (x z rest : Items) : Type 0 where
  pub units : Units e q v x
  pub at_p : (s : State) → trace_of_state e.symbol e.form e.output.is_printed p s ≡ shut_at e (trace_left first ", " x z rest) s s.place
  pub at_f : (s : State) (j : Place) (o : Bool) → trace_of_frame e.symbol e.form e.output.is_printed (frame_at f s) j o ≡ shut_at e (then_of first ", " x z rest) s j
  pub words : primitives_at p ≡ 8
  pub weight : 1 ≤ weight_at p
  pub light : weight_at f ≤ 3
  pub high : (left : ℕ) → height_at p left ≡ 8 * left + 2
  pub low : (left : ℕ) → height_at f left ≤ 8 * left + 2
  pub fits : (left n : ℕ) → Fits continuation.«Type» left n → Fits f left n
  pub inner : is_inner f ≡ true

pub of_units : {V : Type 0} {e : Env V} {p q f : Continuation} {v : State → Bool} {first : Bool} {x z rest : Items} → Units e q v x → ((s : State) → trace_of_state e.symbol e.form e.output.is_printed p s ≡ shut_at e (trace_left first ", " x z rest) s s.place)
    → ((s : State) (j : Place) (o : Bool) → trace_of_frame e.symbol e.form e.output.is_printed (frame_at f s) j o ≡ shut_at e (then_of first ", " x z rest) s j) → primitives_at p ≡ 8 → 1 ≤ weight_at p → weight_at f ≤ 3 → ((left : ℕ) → height_at p left ≡ 8 * left + 2)
    → ((left : ℕ) → height_at f left ≤ 8 * left + 2) → ((left n : ℕ) → Fits continuation.«Type» left n → Fits f left n) → is_inner f ≡ true → Listed e p q f v first x z rest
of_units u a f k w l h g y i = record { units = u; at_p = a; at_f = f; words = k; weight = w; light = l; high = h; low = g; fits = y; inner = i }

module _ {V : Type 0} {e : Env V} {p q f : Continuation} {v : State → Bool} {first : Bool} {x z rest : Items} (l : Listed e p q f v first x z rest) where
  -- an element, and the items after it
  one_then : (s : State) (i : ℕ) (m : Option FixedText) → with_closed_bracket (followed (open_at e x s (Some i)) (open_at e (then_of first ", " x z rest) s)) ≡ and_then (trace_of_state e.symbol e.form e.output.is_printed q (record s { in_value = v s; place = Some i; pending_text = m })) (trace_of_frame e.symbol e.form e.output.is_printed (frame_at f s))
  one_then s i m =
      let y = shut_at e x s (Some i) in
      ap (λ (h : Trace). and_then y (λ _ _. h)) (sym (l.at_f s y.place y.is_bracket_open)) ∙ ap (λ (h : Trace). and_then h (trace_of_frame e.symbol e.form e.output.is_printed (frame_at f s))) (l.units.at s i m)

  -- An element starts, after these looks and this pending text.
  pub list_enters : {t : Machine V} {h : Trace} {weight high : ℕ} {j : Place} {m : Option FixedText} {stack : List Frame} {n : ℕ} (i : NotOver e.symbol t.state.place) (ks : List ℕ) → length ks ≤ 8 → 1 ≤ total ks
      → h ≡ with_looks ks (with_texts e.output.is_printed (pending_texts m) (with_closed_bracket (followed (open_at e x t.state (Some i.0)) (open_at e (then_of first ", " x z rest) t.state))))
      → j ≡ after_list e.symbol t.state.place → LooksWithin t.looks (list_costs t.state.place) n → 8 * t.state.depth_left + 2 ≤ high → Fits continuation.«Type» t.state.depth_left t.state.lifetimes → stack ≡ t.stack ++ frame_at f t.state ∷ []
      → Performs e t (part 8 h weight high) (Ok q) (record t { state = record t.state { in_value = v t.state; place = j; pending_text = m }; stack = stack; looks = n })
  unfolding then_frame
  list_enters {t} {m = m} i ks primitive_count least w k p g y r =
      let s = t.state in
      let so = one_then s i.0 m in
      text_step q ks [] (omega (arith, primitive_count)) (Some (frame_at f s)) (rw (k ∙ i.3) (w ∙ ap (λ (o : Trace). with_looks ks (with_texts e.output.is_printed (pending_texts m) o)) so)) r
      (rw append-nil (record { grows = p.grows; within = omega (arith, p.within, list_few s.place, least) })) (omega arith) (omega (arith, p.within, list_short e.symbol s.place)) (omega (arith, least, l.light, l.units.within.light))
      (omega (arith, g, l.low s.depth_left)) (omega (arith, g, l.units.within.low s.depth_left)) (l.fits s.depth_left s.lifetimes y) (l.units.within.fits s.depth_left s.lifetimes y) (λ _. l.inner)

  pub list_continues : {t : Machine V} {j : Place} {m : Option FixedText} {stack : List Frame} {n : ℕ} → is_list_end e.symbol t.state.place ≡ false → j ≡ after_list e.symbol t.state.place → LooksWithin t.looks (list_costs t.state.place) n → m ≡ separator first fixed.Comma
      → Fits continuation.«Type» t.state.depth_left t.state.lifetimes → stack ≡ t.stack ++ frame_at f t.state ∷ [] → PerformsAt e p t (Ok q) (record t { state = record t.state { in_value = v t.state; place = j; pending_text = m }; stack = stack; looks = n })
  list_continues {t} h k p c y r =
      let s = t.state in
      let i = on e.symbol s.place h in
      let on_so = on_trace e s first ", " fixed.Comma refl x z rest i.0 (l.units.element s.depth_left s.lifetimes (omega (arith, y))) i.2 in
      rw (c, l.words) (list_enters i (1 ∷ []) (omega arith) (omega arith) (l.at_p s ∙ (ap (λ (o : Place). shut_at e (trace_left first ", " x z rest) s o) i.1 ∙ ap with_closed_bracket on_so)) k p (omega (arith, l.high s.depth_left)) y r)

  -- The list ends, and another continuation follows.
  pub list_closes : {t : Machine V} {to : Continuation} {s : State} {j : Place} {n : ℕ} → is_list_end e.symbol t.state.place ≡ true → j ≡ after_list e.symbol t.state.place → LooksWithin t.looks (list_costs t.state.place) n
      → shut_at e z t.state j ≡ with_texts e.output.is_printed (pending_texts s.pending_text) (trace_of_state e.symbol e.form e.output.is_printed to s) → weight_left to + 1 ≤ weight_at p → height_at to s.depth_left ≤ 8 * t.state.depth_left + 2 → Fits to s.depth_left s.lifetimes
      → PerformsAt e p t (Ok to) (record t { state = s; looks = n })
  list_closes {t} {to} h k p c w y g =
      let over = over_trace e t.state first ", " x z rest t.state.place h in
      list_ends to (omega (arith, l.words)) (l.at_p t.state ∙ (ap with_closed_bracket over ∙ ap (with_looks (list_costs t.state.place)) (ap (λ (o : Place). shut_at e z t.state o) (sym k) ∙ c))) p w (omega (arith, y, l.high t.state.depth_left)) g

-- The list ends, and the production ends with the closing text.
pub list_shuts : {V : Type 0} {e : Env V} {p q f : Continuation} {v : State → Bool} {first : Bool} {x rest : Items} {m : FixedText} → Listed e p q f v first x (print (text m) done) rest → {t : Machine V} {j : Place} {n : ℕ} → is_list_end e.symbol t.state.place ≡ true → j ≡ after_list e.symbol t.state.place
    → LooksWithin t.looks (list_costs t.state.place) n → PerformsAt e p t (Ok continuation.End) (record t { state = record t.state { place = j; pending_text = Some m; is_bracket_open = false }; looks = n })
unfolding parse trace_at
list_shuts l h k p = list_closes l h k p refl (omega (arith, l.weight)) (omega arith) tt

-- The second element of a tuple, or the comma after a single element.

pub second_closes : {V : Type 0} {e : Env V} {t : Machine V} {h : Trace} {weight high : ℕ} {j : Place} {n : ℕ} (x : Items) → h ≡ shut_at e (at_end (print_str "," (print_str ")" done)) (more ", " x (print_str ")" done))) t.state t.state.place → is_list_end e.symbol t.state.place ≡ true
    → j ≡ after_list e.symbol t.state.place → LooksWithin t.looks (list_costs t.state.place) n → 2 ≤ weight → 8 * t.state.depth_left + 2 ≤ high → Fits continuation.CloseParen t.state.depth_left t.state.lifetimes
    → Performs e t (part 8 h weight high) (Ok continuation.CloseParen) (record t { state = record t.state { place = j; pending_text = Some fixed.TrailingComma }; looks = n })
unfolding parse trace_at
second_closes {e = e} {t = t} x c h k p w g f = list_ends continuation.CloseParen (omega arith) (rw k (c ∙ ap with_closed_bracket (end_trace e t.state (print_str "," (print_str ")" done)) (more ", " x (print_str ")" done)) t.state.place h))) p (omega (arith, w)) (omega (arith, g)) f

pub second_continues : {V : Type 0} {e : Env V} {p q f : Continuation} {v : State → Bool} {x rest : Items} → Listed e p q f v false x (print_str ")" done) rest → {t : Machine V} {h : Trace} {weight high : ℕ} {j : Place} {stack : List Frame} {n : ℕ} → h ≡ shut_at e (at_end (print_str "," (print_str ")" done)) (more ", " x (print_str ")" done))) t.state t.state.place
    → is_list_end e.symbol t.state.place ≡ false → j ≡ after_list e.symbol t.state.place → LooksWithin t.looks (list_costs t.state.place) n → 8 * t.state.depth_left + 2 ≤ high → Fits continuation.«Type» t.state.depth_left t.state.lifetimes → stack ≡ t.stack ++ frame_at f t.state ∷ []
    → Performs e t (part 8 h weight high) (Ok q) (record t { state = record t.state { in_value = v t.state; place = j; pending_text = Some fixed.Comma }; stack = stack; looks = n })
second_continues {e = e} {x = x} l {t = t} c h k p g y r =
    let s = t.state in
    let i = on e.symbol s.place h in
    let so = second_on e.form e.output.is_printed e.symbol s.depth_left s.lifetimes x (print_str ")" done) i.0 (l.units.element s.depth_left s.lifetimes (omega (arith, y))) i.2 in
    list_enters l i (1 ∷ 1 ∷ []) (omega arith) (omega arith) (c ∙ (ap (λ (o : Place). shut_at e (at_end (print_str "," (print_str ")" done)) (more ", " x (print_str ")" done))) s o) i.1 ∙ ap with_closed_bracket so)) k p g y r
