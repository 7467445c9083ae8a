-- Parses that print.
use Rattle.demangle_v0_grammar.proofs.BudgetRules.{IsWithinBudget-more}
use Rattle.demangle_v0_grammar.proofs.ReferenceLaw.{shown_moves, dues, path_dues}
use Rattle.demangle_v0_grammar.specs.References.{Move, says, follows, ends, bytes_after, texts_before, is_whole, path_moves}
use Rattle.std.specs.Prelude.{◌*◌}
use Rattle.std.proofs.Common.{◌≡◌, ℕ, ◌+◌, ◌-◌, ◌≤◌, ◌<◌, Bool, true, Option, Some, None, List, [], ◌∷◌, ◌++◌, length, Result, Ok, Err, IsErr, refl, arith, sym, ap, ◌∙◌, subst, append_assoc, false}
use Rattle.std.proofs.lemmas.Bool.{false≢true, le-leb, lt-leb}
use Rattle.std.proofs.lemmas.List.{append-nil}
use Rattle.std.proofs.Math.Nat.{mul-le-mul_left}
use Rattle.demangle_v0_grammar.specs.Items.{Text, a_path}
use Rattle.demangle_v0_grammar.specs.LookBudget.{IsWithinBudget}
use Rattle.demangle_v0_grammar.specs.Reading.{Form, max_depth, read_at, level_of, levels}
use Rattle.demangle_sink.specs.Cut.{size, kept}
use Rattle.demangle_sink.proofs.CutLemmas.{size-append}
use Rattle.demangle_sink.proofs.PrintsLemmas.{prints_ready, prints_nothing, prints_then, prints_anyway, prints_short, prints_rejected}
use Rattle.demangle_v0_grammar.proofs.LooksLaw.{looks_a_byte, looks_before, printing_pays}
use Rattle.demangle_v0_grammar.proofs.PrintingLooks.{pays_tree}
use Rattle.demangle_v0.proofs.KeptBytes.{kept_bytes}
use Rattle.demangle_v0_grammar.proofs.PrintingSteps.{weighed, weighed_said, weighed_allowed}
use Rattle.demangle_v0_grammar.proofs.StepLooks.{pays_looks, pays_texts}
use Rattle.demangle_v0.proofs.WholePaths.{remaining_trace-empty_stack}
use Rattle.demangle_v0_grammar.specs.LookTotals.{total, allowed_in}
use Rattle.demangle_v0_grammar.specs.Again.{path_again}
use Rattle.demangle_v0_grammar.proofs.AgainLaw.{path_looks}
use Rattle.demangle_v0_tokens.specs.Tokens.{texts_of}
use Rattle.demangle_v0_grammar.specs.Traces.{Event, Trace, looks_then, texts_then, moves_in}
use Rattle.demangle_sink.specs.Limit.{Prints, Ready, PrintsUpTo, IsOver, used_after, followed, given_back}
use Rattle.demangle_sink.specs.declared.TextSink.{Ghosts as Sinks}
use Rattle.demangle_sink.specs.declared.SinkRefused.{SinkRefused}
use Rattle.demangle_sink.specs.declared.limit.Reread.{Reread}
use Rattle.demangle_sink.specs.declared.limit.SizeLimitedFmtAdapter.{SizeLimitedFmtAdapter}
use Rattle.demangle_v0_parser.specs.Traces.{Action, allows_looks, puts, with_actions, action_looks, action_texts, trace_at, trace_of_stack, remaining_trace, goes_back, comes_back}
use Rattle.demangle_v0_parser.specs.Steps.{Env, Machine, machine, Emission, gives, refers_on, ends_at, after_emission, Receives}
use Rattle.demangle_v0_parser.specs.Loops.{Valid, Emitted, RanSteps, StoppedAfter, Skipped, StopsInPart, PrintingInPart, printing, state_at, PrintDone, Passed, ValidUnfinished, Finishes, Ended, EndedAt, first_state, part_trace}
use Rattle.demangle_v0_parser.specs.declared.Continuation.{Continuation}
use Rattle.demangle_v0_parser.specs.declared.Continuation.TheVariants as continuation
use Rattle.demangle_v0_parser.specs.declared.frames.Frame.{Frame}
use Rattle.demangle_v0_parser.specs.declared.State.{State}
use Rattle.demangle_v0_parser.specs.declared.stops.Checkpoint.{Checkpoint}
use Rattle.demangle_v0_parser.specs.declared.stops.Unfinished.{Unfinished}
use Rattle.demangle_v0_parser.specs.declared.stops.Unfinished.TheVariants as left
use Rattle.demangle_v0_parser.proofs.LoopLemmas.{ran_then, ran_looks, prefix_of, after_broke, broke_trace, broke_emits, broke_enough, allowed_bits}
use Rattle.demangle_v0.proofs.SkipSteps.{skipped_trace, skipped_valid}
use Rattle.demangle_v0_grammar.proofs.SkippedPaths.{allowances, total_allowances}
use Rattle.demangle_v0_parser.specs.Skips.{is_skipped, after_skip}

module _ {V : Type 0} {e : Env V} where
  -- the output rejected a text
  pub ran_fail : {p : Continuation} {t : Machine V} {result : Result (Option Unfinished) SinkRefused} {r : Checkpoint} {now : List Frame} {w : V} {n : ℕ} → IsErr result → StoppedAfter e p t w n → PrintDone e p t result r now w n
  ran_fail {result = Ok x} h d = absurd (false≢true h)
  ran_fail {result = Err f} h d = record { ran = d }

  -- the stack is full
  pub ran_left : {o : Continuation} {first : Machine V} {r to : Checkpoint} {below now : List Frame} {w : V} {began k n : ℕ} {x : Unfinished} → is_skipped e.form r.continuation ≡ true → Valid r.continuation r.state below → StopsInPart e.symbol e.form r below began x k to now n
      → RanSteps e o first r.continuation (machine r.state below w began) → PrintDone e o first (Ok (Some x)) to now w n
  ran_left {below = below} {began = began} i v k ran = rw k.is_left (record {
    ran = record { began = began; skips = record { below = below; height = sym k.height; skips = i; valid = v; reads = k.reads }; ran = ran };
  })

  -- A parse that continues where another one stopped.

  pub ran_joins : {p q : Continuation} {t u : Machine V} (result : Result (Option Unfinished) SinkRefused) {r : Checkpoint} {now : List Frame} {w : V} {n : ℕ} → RanSteps e p t q u → PrintDone e q u result r now w n → PrintDone e p t result r now w n
  ran_joins (Ok None) a c = record { ran = ran_then a c.ran }
  ran_joins (Ok (Some left.Printing)) a c = record { ran = ran_then a c.ran }
  ran_joins (Ok (Some (left.Skipping base r))) a c = record { ran = record { began = c.ran.began; skips = c.ran.skips; ran = ran_then a c.ran.ran } }
  ran_joins (Err f) a c =
      let d = c.ran in record { ran = record { at = d.at; mid = d.mid; stack = d.stack; end = d.end; ran = ran_then a d.ran; halts = d.halts; same_output = d.same_output; same_looks = d.same_looks } }

  -- after the part that is not printed, or at a full stack before its end
  pub finished_ran : (k : ℕ) {p : Continuation} {t : Machine V} {primitive_count now : List Frame} {w : V} (x y : Unfinished) {r to : Checkpoint} {m n : ℕ} → PrintDone e p t (Ok (Some x)) r primitive_count w m → Finishes e.symbol e.form k x r primitive_count m (Some y) to now n → PrintDone e p t (Ok (Some y)) to now w n
  finished_ran i left.Printing y a k = absurd k
  finished_ran i (left.Skipping base r) left.Printing a k = absurd k
  finished_ran i (left.Skipping base r) (left.Skipping height to) a k =
      let z = a.ran.skips in
      rw (k.0, k.1) (record {
        ran = record {
          began = a.ran.began;
          skips = record { below = z.below; height = z.height; skips = z.skips; valid = z.valid; reads = k.4 z.below a.ran.began z.reads z.height };
          ran = a.ran.ran;
        };
      })

  -- The ends of complete parses.

  -- nothing is left
  pub ended_all : {p : Continuation} {t : Machine V} {answer : Option Unfinished} {r : Checkpoint} {now : List Frame} {w : V} {n : ℕ} → answer ≡ None → PrintDone e p t (Ok answer) r now w n → Ended e p t (Ok tt) w n
  ended_all {answer = None} {r = r} k c = record { ended = (r.state, c.ran) }
  ended_all {answer = Some y} k c = absurd (some_none k)
    where
      some_none : Some y ≡ None → ⊥
      some_none z = cc

  -- nothing is left, and the place at the end is known
  pub ended_at : {p : Continuation} {t : Machine V} {answer : Option Unfinished} {r : Checkpoint} {now : List Frame} {w : V} {n place : ℕ} → answer ≡ None → r.state.place ≡ Some place → PrintDone e p t (Ok answer) r now w n → EndedAt e p t place w n
  ended_at {answer = None} {r = r} k at c = record { state = r.state; at = at; ran = c.ran }
  ended_at {answer = Some y} k at c = absurd (some_none k)
    where
      some_none : Some y ≡ None → ⊥
      some_none z = cc

pub passed_valid : (b : List ℕ) (form : Form) (primitive_count now : List Frame) (k : ℕ) (x : Unfinished) (r to : Checkpoint) (m n : ℕ) → ValidUnfinished b form k (Ok (Some x)) r primitive_count m → Passed b form x r primitive_count m to now n → Valid to.continuation to.state now
passed_valid b form primitive_count now i left.Printing r to m n v k = rw (k.0, k.1) v.0
passed_valid b form primitive_count now i (left.Skipping base r) inner to m n v k = let s = v.1 in skipped_valid s.skips (k s.below v.0 s.reads s.height) s.valid

pub finished_valid : (b : List ℕ) (form : Form) (i j : ℕ) (primitive_count now : List Frame) (x y : Unfinished) (r to : Checkpoint) (m n : ℕ) → ValidUnfinished b form i (Ok (Some x)) r primitive_count m → Finishes b form j x r primitive_count m (Some y) to now n → ValidUnfinished b form j (Ok (Some y)) to now n
finished_valid b form i j primitive_count now left.Printing y r to m n v k = absurd k
finished_valid b form i j primitive_count now (left.Skipping base r) left.Printing inner to m n v k = absurd k
finished_valid b form i j primitive_count now (left.Skipping base r) (left.Skipping height to) inner more m n v k =
    let z = v.1 in
    rw (k.0, k.1) (v.0, record { below = z.below; height = z.height; skips = z.skips; valid = z.valid; reads = k.4 z.below v.0 z.reads z.height }, k.2, k.3)

reread_ready : {S : Type 0} (sink : Sinks S) (v w : SizeLimitedFmtAdapter S) (k : Reread) (l : ℕ) → Ready sink v → w ≡ record v { reread = k; lookups_left = l } → Ready sink w
reread_ready sink v w k l r e = subst (λ (z : SizeLimitedFmtAdapter _). Ready sink z) (sym e) (record { not_failed = r.not_failed; fresh = r.fresh })

-- The moves.

abbrev says_then : List Text → List Move → List Move
says_then [] ms = ms
says_then (t ∷ ts) ms = says t ∷ says_then ts ms

abbrev then_moves : List Action → List Move → List Move
then_moves [] ms = ms
then_moves (allows_looks ks ∷ bits) ms = then_moves bits ms
then_moves (puts ts ∷ bits) ms = says_then ts (then_moves bits ms)
then_moves (goes_back t ∷ bits) ms = follows t ∷ then_moves bits ms
then_moves (comes_back x ∷ bits) ms = ends x ∷ then_moves bits ms

moved_allowed : (ks : List ℕ) (xs : List Event) → moves_in (looks_then ks xs) ≡ moves_in xs
moved_allowed [] xs = refl
moved_allowed (k ∷ ks) xs = moved_allowed ks xs

moved_said : (ts : List Text) (xs : List Event) → moves_in (texts_then true ts xs) ≡ says_then ts (moves_in xs)
moved_said [] xs = refl
moved_said (t ∷ ts) xs = ap (λ (ms : List Move). says t ∷ ms) (moved_said ts xs)

moved_bits : (bits : List Action) (h : Trace) → moves_in (with_actions true bits h).events ≡ then_moves bits (moves_in h.events)
moved_bits [] h = refl
moved_bits (allows_looks ks ∷ bits) h = moved_allowed ks (with_actions true bits h).events ∙ moved_bits bits h
moved_bits (puts ts ∷ bits) h = moved_said ts (with_actions true bits h).events ∙ ap (says_then ts) (moved_bits bits h)
moved_bits (goes_back t ∷ bits) h = ap (λ (ms : List Move). follows t ∷ ms) (moved_bits bits h)
moved_bits (comes_back x ∷ bits) h = ap (λ (ms : List Move). ends x ∷ ms) (moved_bits bits h)

said_texts : (most : Option ℕ) (n used : ℕ) (ts : List Text) (ms : List Move) → texts_before most n used (says_then ts ms) ≡ ts ++ texts_before most n used ms
said_texts most n used [] ms = refl
said_texts most n used (t ∷ ts) ms = ap (λ (xs : List Text). t ∷ xs) (said_texts most n used ts ms)

said_whole : (most : Option ℕ) (n used : ℕ) (ts : List Text) (ms : List Move) → is_whole most n used (says_then ts ms) ≡ is_whole most n used ms
said_whole most n used [] ms = refl
said_whole most n used (t ∷ ts) ms = said_whole most n used ts ms

-- without a limit, nothing depends on the bytes that are used
unlimited_texts : (n u v : ℕ) (ms : List Move) → texts_before None n u ms ≡ texts_before None n v ms
unlimited_texts n u v [] = refl
unlimited_texts n u v (says t ∷ ms) = ap (λ (xs : List Text). t ∷ xs) (unlimited_texts n u v ms)
unlimited_texts n u v (follows t ∷ ms) = unlimited_texts n u v ms
unlimited_texts n u v (ends e ∷ ms) = unlimited_texts n (u - bytes_after n e) (v - bytes_after n e) ms

unlimited_whole : (n u v : ℕ) (ms : List Move) → is_whole None n u ms ≡ is_whole None n v ms
unlimited_whole n u v [] = refl
unlimited_whole n u v (says t ∷ ms) = unlimited_whole n u v ms
unlimited_whole n u v (follows t ∷ ms) = unlimited_whole n u v ms
unlimited_whole n u v (ends e ∷ ms) = unlimited_whole n (u - bytes_after n e) (v - bytes_after n e) ms

followed_texts : (most : Option ℕ) (n used t any : ℕ) (ms : List Move) → (IsOver most (used + (n - t + 1)) → ⊥) → texts_before most n used (follows t ∷ ms) ≡ texts_before most n (used_after most used (n - t + 1) any) ms
followed_texts None n used t any ms h = unlimited_texts n used any ms
followed_texts (Some k) n used t any ms h = rw (le-leb (used + (n - t + 1)) k (omega (arith, h))) refl

followed_whole : (most : Option ℕ) (n used t any : ℕ) (ms : List Move) → (IsOver most (used + (n - t + 1)) → ⊥) → is_whole most n used (follows t ∷ ms) ≡ is_whole most n (used_after most used (n - t + 1) any) ms
followed_whole None n used t any ms h = unlimited_whole n used any ms
followed_whole (Some k) n used t any ms h = rw (le-leb (used + (n - t + 1)) k (omega (arith, h))) refl

-- a reference for which too few bytes are left
over_texts : (most : Option ℕ) (n used t : ℕ) (ms : List Move) → IsOver most (used + (n - t + 1)) → texts_before most n used (follows t ∷ ms) ≡ []
over_texts None n used t ms h = absurd h
over_texts (Some k) n used t ms h = rw (lt-leb (used + (n - t + 1)) k h) refl

over_whole : (most : Option ℕ) (n used t : ℕ) (ms : List Move) → IsOver most (used + (n - t + 1)) → is_whole most n used (follows t ∷ ms) ≡ false
over_whole None n used t ms h = absurd h
over_whole (Some k) n used t ms h = rw (lt-leb (used + (n - t + 1)) k h) refl

-- how many bytes references use, and how many are given back, in a symbol of n bytes
abbrev used_in : ℕ → List Action → ℕ
used_in n [] = 0
used_in n (allows_looks ks ∷ bits) = used_in n bits
used_in n (puts ts ∷ bits) = used_in n bits
used_in n (goes_back t ∷ bits) = n - t + 1 + used_in n bits
used_in n (comes_back x ∷ bits) = used_in n bits

abbrev given_in : ℕ → List Action → ℕ
given_in n [] = 0
given_in n (allows_looks ks ∷ bits) = given_in n bits
given_in n (puts ts ∷ bits) = given_in n bits
given_in n (goes_back t ∷ bits) = given_in n bits
given_in n (comes_back x ∷ bits) = bytes_after n x + given_in n bits

due_texts : (r a n : ℕ) (ts : List Text) (xs : List Event) → IsWithinBudget r a (dues n (texts_then true ts xs)) 0 → IsWithinBudget r a (dues n xs) 0
due_texts r a n [] xs h = h
due_texts r a n (t ∷ ts) xs h = due_texts r a n ts xs (IsWithinBudget-more r (a - 0 + r * 0) a 0 0 0 _ (omega arith) (omega arith) h.1)

due_looks : (r a n : ℕ) (ks : List ℕ) (xs : List Event) → IsWithinBudget r a (dues n (looks_then ks xs)) 0 → (total ks ≤ a) × IsWithinBudget r (a - total ks) (dues n xs) 0
due_looks r a n [] xs h = (omega arith, IsWithinBudget-more r a (a - 0) 0 0 0 _ (omega arith) (omega arith) h)
due_looks r a n (k ∷ ks) xs h =
    let q : (total ks ≤ a - k + r * 0) × IsWithinBudget r (a - k + r * 0 - total ks) (dues n xs) 0 = due_looks r (a - k + r * 0) n ks xs h.1 in
    (omega (arith, h.0, q.0), IsWithinBudget-more r (a - k + r * 0 - total ks) (a - (k + total ks)) 0 0 0 _ (omega (arith, h.0, q.0)) (omega arith) q.1)

-- the looks of these actions, and what is given back
bits_due : (a n : ℕ) (bits : List Action) (h : Trace) → IsWithinBudget 17 a (dues n (with_actions true bits h).events) 0 → action_looks bits + 17 * given_in n bits ≤ a + 17 * used_in n bits
bits_due a n [] h p = omega arith
bits_due a n (allows_looks ks ∷ bits) h p =
    let q = due_looks 17 a n ks (with_actions true bits h).events p in
    omega (arith, q.0, bits_due (a - total ks) n bits h q.1)
bits_due a n (puts ts ∷ bits) h p = bits_due a n bits h (due_texts 17 a n ts (with_actions true bits h).events p)
bits_due a n (goes_back t ∷ bits) h p = omega (arith, bits_due (a - 0 + 17 * (n - t + 1)) n bits h p.1)
bits_due a n (comes_back x ∷ bits) h p = omega (arith, p.0, bits_due (a - 17 * bytes_after n x + 17 * 0) n bits h p.1)

more : (r a x y z l : ℕ) → z ≡ x + y → l ≤ a + r * x + r * y → l ≤ a + r * z
more r a x y z l e h = rw e (omega (arith, h))

bits_paid : (r a : ℕ) (bits : List Action) (h : Trace) → IsWithinBudget r a (weighed (with_actions true bits h).events) 0 → action_looks bits ≤ a + r * size (action_texts bits)
bits_paid r a [] h p = omega arith
bits_paid r a (allows_looks ks ∷ bits) h p =
    let q = pays_looks r a 0 ks _ (subst (λ xs. IsWithinBudget r a xs 0) (weighed_allowed ks (with_actions true bits h).events) p) in
    omega (arith, q.0, bits_paid r (a - total ks) bits h q.1)
bits_paid r a (goes_back t ∷ bits) h p = bits_paid r a bits h (IsWithinBudget-more r (a - 0 + r * 0) a 0 0 0 _ (omega arith) (omega arith) p.1)
bits_paid r a (comes_back x ∷ bits) h p = bits_paid r a bits h (IsWithinBudget-more r (a - 0 + r * 0) a 0 0 0 _ (omega arith) (omega arith) p.1)
bits_paid r a (puts ts ∷ bits) h p =
    let q = pays_texts r a 0 ts _ (subst (λ xs. IsWithinBudget r a xs 0) (weighed_said ts (with_actions true bits h).events) p) in
    more r a (size ts) (size (action_texts bits)) _ _ (size-append ts (action_texts bits)) (bits_paid r (a + r * size ts) bits h q)

-- with two looks that are not covered yet
within : (n w room m made : ℕ) → w ≤ room → made ≤ m + (looks_before n + looks_a_byte n * w + 2) → made ≤ m + 100000 * (room + 1) * (n + 1)
within n w room m made l h = let e : looks_a_byte n * w ≤ looks_a_byte n * room = mul-le-mul_left (looks_a_byte n) l in omega (arith, h, e)

module _ {S : Type 0} (sink : Sinks S) (b : List ℕ) (form : Form) where
  -- the part that is not printed was read
  pub ran_skips : {o p q : Continuation} {first t : Machine (SizeLimitedFmtAdapter S)} {s : State} {now : List Frame} {n : ℕ} (k : is_skipped form p ≡ true) → RanSteps (printing sink b form) o first p t → Skipped b form p t.state t.stack t.looks q s now n
      → RanSteps (printing sink b form) o first q (record t { state = s; stack = now; looks = n })
  ran_skips {p = p} {t = t} k x z = ran_then x (record {
    bits = allows_looks (allowances (part_trace b form p t.state).events) ∷ [];
    emits = refl;
    reads = skipped_trace k z;
    paid_looks = omega (arith, z.paid_looks, total_allowances (part_trace b form p t.state).events);
  })

  -- after the part that is not printed, if there is one
  pub passed_ran : {p : Continuation} {t : Machine (SizeLimitedFmtAdapter S)} {primitive_count now : List Frame} {w : SizeLimitedFmtAdapter S} (x : Unfinished) {r to : Checkpoint} {m n : ℕ} → PrintDone (printing sink b form) p t (Ok (Some x)) r primitive_count w m → Passed b form x r primitive_count m to now n
      → RanSteps (printing sink b form) p t to.continuation (machine to.state now w n)
  passed_ran left.Printing a k = rw (k.0, k.1) (record { bits = a.ran.bits; emits = a.ran.emits; reads = a.ran.reads; paid_looks = omega (arith, k.2, a.ran.paid_looks) })
  passed_ran (left.Skipping base r) a k = let s = a.ran.skips in ran_skips s.skips a.ran.ran (k s.below a.ran.began s.reads s.height)

  -- in the part that is not printed: the looks are those that the whole part allows
  in_part : {p : Continuation} {t : Machine (SizeLimitedFmtAdapter S)} {base : ℕ} {inner r : Checkpoint} {now : List Frame} {w : SizeLimitedFmtAdapter S} {n : ℕ} → (z : PrintingInPart (printing sink b form) p t base inner r now w n)
      → RanSteps (printing sink b form) p t (after_skip r.continuation) (machine (state_at r.state (part_trace b form r.continuation r.state).place) z.skips.below w n)
  in_part {r = r} z =
      let s = z.skips in
      ran_skips s.skips z.ran (record { at = refl; place = (part_trace b form r.continuation r.state).place; ends = refl; state = refl; is_stack = refl; paid_looks = omega (arith, ran_looks s.reads.ran) })

  abbrev begun : SizeLimitedFmtAdapter S → ℕ → Machine (SizeLimitedFmtAdapter S)
  begun v n = machine (first_state 0) [] v n

  -- the same with other bytes that are read again
  otherwise : (v w mid : SizeLimitedFmtAdapter S) (ts : List Text) (k : Reread) (l : ℕ) → mid ≡ record v { reread = k; lookups_left = l } → Prints sink mid ts (Ok tt) (record w { reread = mid.reread })
      → Prints sink v ts (Ok tt) (record w { reread = v.reread })
  otherwise v w mid ts k l e p =
      let q = subst (λ (z : SizeLimitedFmtAdapter S). Prints sink z ts (Ok tt) (record w { reread = z.reread })) e p in
      record { same_sink = q.same_sink; reread = refl; open_ = q.open_; within = q.within; left = q.left; past = q.past; hands = q.hands }

  -- the texts were printed; references may have been followed
  emitted_prints : (v w : SizeLimitedFmtAdapter S) (bits : List Action) → Ready sink v → Emitted (printing sink b form) bits v w → Prints sink v (action_texts bits) (Ok tt) (record w { reread = v.reread })
  emitted_prints v w [] r e = subst (λ (z : SizeLimitedFmtAdapter S). Prints sink v [] (Ok tt) (record z { reread = v.reread })) e (prints_nothing sink v r)
  emitted_prints v w (allows_looks ks ∷ bits) r t = emitted_prints v w bits r t
  emitted_prints v w (puts ts ∷ bits) r t =
      let rest = emitted_prints t.0 w bits (prints_ready sink v ts (Ok tt) t.0 t.1 refl) t.2 in
      subst (λ (k : Reread). Prints sink v (ts ++ action_texts bits) (Ok tt) (record w { reread = k })) t.1.reread (prints_then sink v t.0 (record w { reread = t.0.reread }) ts (action_texts bits) (Ok tt) (Ok tt) t.1 refl rest)
  emitted_prints v w (goes_back a ∷ bits) r t = otherwise v w t.0 (action_texts bits) _ _ t.1.1 (emitted_prints t.0 w bits (reread_ready sink v t.0 _ _ r t.1.1) t.2)
  emitted_prints v w (comes_back x ∷ bits) r t = otherwise v w t.0 (action_texts bits) (given_back v.reread (bytes_after (length b) x)) v.lookups_left t.1 (emitted_prints t.0 w bits (reread_ready sink v t.0 (given_back v.reread (bytes_after (length b) x)) v.lookups_left r t.1) t.2)

  -- the texts of moves from here on, up to the limit of an output, and whether they are all
  abbrev texts_from : SizeLimitedFmtAdapter S → List Move → List Text
  texts_from v ms = texts_before v.reread.most (length b) v.reread.used ms

  abbrev whole_from : SizeLimitedFmtAdapter S → List Move → Bool
  whole_from v ms = is_whole v.reread.most (length b) v.reread.used ms

  -- what is left after these actions
  limited_texts : (v w : SizeLimitedFmtAdapter S) (bits : List Action) (ms : List Move) → Emitted (printing sink b form) bits v w → texts_from v (then_moves bits ms) ≡ action_texts bits ++ texts_from w ms
  limited_texts v w [] ms e = ap (λ (z : SizeLimitedFmtAdapter S). texts_from z ms) e
  limited_texts v w (allows_looks ks ∷ bits) ms t = limited_texts v w bits ms t
  limited_texts v w (puts ts ∷ bits) ms t =
      said_texts v.reread.most (length b) v.reread.used ts (then_moves bits ms)
      ∙ (ap (λ (k : Reread). ts ++ texts_before k.most (length b) k.used (then_moves bits ms)) (sym t.1.reread)
      ∙ (ap (λ (xs : List Text). ts ++ xs) (limited_texts t.0 w bits ms t.2) ∙ sym (append_assoc ts (action_texts bits) (texts_from w ms))))
  limited_texts v w (goes_back a ∷ bits) ms t =
      followed_texts v.reread.most (length b) v.reread.used a t.0.reread.used (then_moves bits ms) t.1.0
      ∙ (ap (λ (z : SizeLimitedFmtAdapter S). texts_from z (then_moves bits ms)) (sym t.1.1) ∙ limited_texts t.0 w bits ms t.2)
  limited_texts v w (comes_back x ∷ bits) ms t = ap (λ (z : SizeLimitedFmtAdapter S). texts_from z (then_moves bits ms)) (sym t.1) ∙ limited_texts t.0 w bits ms t.2

  limited_whole : (v w : SizeLimitedFmtAdapter S) (bits : List Action) (ms : List Move) → Emitted (printing sink b form) bits v w → whole_from v (then_moves bits ms) ≡ whole_from w ms
  limited_whole v w [] ms e = ap (λ (z : SizeLimitedFmtAdapter S). whole_from z ms) e
  limited_whole v w (allows_looks ks ∷ bits) ms t = limited_whole v w bits ms t
  limited_whole v w (puts ts ∷ bits) ms t =
      said_whole v.reread.most (length b) v.reread.used ts (then_moves bits ms)
      ∙ (ap (λ (k : Reread). is_whole k.most (length b) k.used (then_moves bits ms)) (sym t.1.reread) ∙ limited_whole t.0 w bits ms t.2)
  limited_whole v w (goes_back a ∷ bits) ms t =
      followed_whole v.reread.most (length b) v.reread.used a t.0.reread.used (then_moves bits ms) t.1.0
      ∙ (ap (λ (z : SizeLimitedFmtAdapter S). whole_from z (then_moves bits ms)) (sym t.1.1) ∙ limited_whole t.0 w bits ms t.2)
  limited_whole v w (comes_back x ∷ bits) ms t = ap (λ (z : SizeLimitedFmtAdapter S). whole_from z (then_moves bits ms)) (sym t.1) ∙ limited_whole t.0 w bits ms t.2

  -- no more bytes are used at once than are allowed
  limited_use : (k u : ℕ) (v w : SizeLimitedFmtAdapter S) (bits : List Action) → v.reread.most ≡ Some k → v.reread.used ≡ u → Emitted (printing sink b form) bits v w → used_in (length b) bits ≤ given_in (length b) bits + (k - u)
  limited_use k u v w [] e f t = omega arith
  limited_use k u v w (allows_looks ks ∷ bits) e f t = limited_use k u v w bits e f t
  limited_use k u v w (puts ts ∷ bits) e f t = limited_use k u t.0 w bits (ap (λ (r : Reread). r.most) t.1.reread ∙ e) (ap (λ (r : Reread). r.used) t.1.reread ∙ f) t.2
  limited_use k u v w (goes_back a ∷ bits) e f t =
      let n : ℕ = length b - a + 1 in
      let is : t.0.reread ≡ followed v.reread n t.0.reread = ap (λ (z : SizeLimitedFmtAdapter S). z.reread) t.1.1 in
      let most : t.0.reread.most ≡ Some k = ap (λ (r : Reread). r.most) is ∙ e in
      let used : t.0.reread.used ≡ u + n = ap (λ (r : Reread). r.used) is ∙ ap (λ (m : Option ℕ). used_after m v.reread.used n t.0.reread.used) e ∙ ap (λ (z : ℕ). z + n) f in
      let fits : k < v.reread.used + n → ⊥ = subst (λ (m : Option ℕ). IsOver m (v.reread.used + n) → ⊥) e t.1.0 in
      omega (arith, fits, f, limited_use k (u + n) t.0 w bits most used t.2)
  limited_use k u v w (comes_back x ∷ bits) e f t =
      let n : ℕ = bytes_after (length b) x in
      let is : t.0.reread ≡ given_back v.reread n = ap (λ (z : SizeLimitedFmtAdapter S). z.reread) t.1 in
      omega (arith, limited_use k (u - n) t.0 w bits (ap (λ (r : Reread). r.most) is ∙ e) (ap (λ (r : Reread). r.used) is ∙ ap (λ (z : ℕ). z - n) f) t.2)

  whole_moves : moves_in (remaining_trace b form true continuation.Path (first_state 0) []).events ≡ path_moves b form
  unfolding trace_at path_moves read_at
  whole_moves = ap (λ (h : Trace). moves_in h.events) (remaining_trace-empty_stack b form true continuation.Path (first_state 0)) ∙ shown_moves form.include_hash (level_of b form.fold_arguments (levels b form.fold_arguments max_depth) true a_path true 0 0).tree

  abbrev rest_of : {v w : SizeLimitedFmtAdapter S} {m n : ℕ} → StoppedAfter (printing sink b form) continuation.Path (begun v m) w n → Trace
  rest_of d = after_emission (printing sink b form) (Some d.halts.emitted) (after_broke d)

  all_moved : {t : State} {v w : SizeLimitedFmtAdapter S} {m n : ℕ} (r : RanSteps (printing sink b form) continuation.Path (begun v m) continuation.End (machine t [] w n)) → path_moves b form ≡ then_moves r.bits []
  unfolding trace_at trace_of_stack
  all_moved {t} r = sym whole_moves ∙ (ap (λ (h : Trace). moves_in h.events) r.reads ∙ moved_bits r.bits (remaining_trace b form true continuation.End t []))

  prefix_moved : {v w : SizeLimitedFmtAdapter S} {m n : ℕ} (d : StoppedAfter (printing sink b form) continuation.Path (begun v m) w n) → path_moves b form ≡ then_moves (prefix_of d) (moves_in (rest_of d).events)
  prefix_moved d = sym whole_moves ∙ (ap (λ (h : Trace). moves_in h.events) (broke_trace d) ∙ moved_bits (prefix_of d) (rest_of d))

  -- the output rejected an emission after these texts
  rejects : (v mid end : SizeLimitedFmtAdapter S) (fronts : List Text) (x : Emission) (h : Trace) (e f : SinkRefused) → Prints sink v fronts (Ok tt) (record mid { reread = v.reread }) → Receives (printing sink b form) x mid (Err e) end
      → PrintsUpTo sink v (fronts ++ texts_from mid (moves_in (after_emission (printing sink b form) (Some x) h).events)) (whole_from mid (moves_in (after_emission (printing sink b form) (Some x) h).events)) (Err f) end
  rejects v mid end fronts (gives s) h e f p q =
      let texts = texts_of b form s in
      let ms = moves_in h.events in
      let both = prints_then sink v (record mid { reread = v.reread }) (record end { reread = v.reread }) fronts texts (Ok tt) (Err e) p refl (prints_anyway sink mid end texts (Err e) v.reread q) in
      let left : fronts ++ texts_from mid (moves_in (texts_then true texts h.events)) ≡ (fronts ++ texts) ++ texts_from mid ms =
      ap (λ (zs : List Move). fronts ++ texts_from mid zs) (moved_said texts h.events) ∙ (ap (λ (zs : List Text). fronts ++ zs) (said_texts mid.reread.most (length b) mid.reread.used texts ms) ∙ sym (append_assoc fronts texts (texts_from mid ms))) in
      rw left (prints_rejected sink v end (fronts ++ texts) (texts_from mid ms) (whole_from mid (moves_in (texts_then true texts h.events))) (Err e) (Err f) both refl refl)
  rejects v mid end fronts (refers_on a) h e f p q =
      let ms = moves_in h.events in
      let none : fronts ++ texts_from mid (follows a ∷ ms) ≡ fronts = ap (λ (xs : List Text). fronts ++ xs) (over_texts mid.reread.most (length b) mid.reread.used a ms q.0) ∙ append-nil fronts in
      rw (none, over_whole mid.reread.most (length b) mid.reread.used a ms q.0) (prints_short sink v mid end fronts (length b - a + 1) e p q (Err f) refl)
  rejects v mid end fronts (ends_at x) h e f p q = absurd q

  abbrev PrintsPath : SizeLimitedFmtAdapter S → Result (Unit {0}) SinkRefused → SizeLimitedFmtAdapter S → Type 0
  PrintsPath v result w = PrintsUpTo sink v (texts_from v (path_moves b form)) (whole_from v (path_moves b form)) result w

  pub prints_so : {v w : SizeLimitedFmtAdapter S} {m n : ℕ} (result : Result (Unit {0}) SinkRefused) → Ready sink v → Ended (printing sink b form) continuation.Path (begun v m) result w n → PrintsPath v result w
  prints_so {v} {w} (Ok u) ready z =
      let r = z.ended.1 in
      let texts : texts_from v (path_moves b form) ≡ action_texts r.bits = ap (texts_from v) (all_moved r) ∙ (limited_texts v w r.bits [] r.emits ∙ append-nil (action_texts r.bits)) in
      let all : whole_from v (path_moves b form) ≡ true = ap (whole_from v) (all_moved r) ∙ limited_whole v w r.bits [] r.emits in
      rw (texts, all) (emitted_prints v w r.bits ready r.emits)
  prints_so {v} {w} (Err f) ready z =
      let d = z.ended in
      let ms = moves_in (rest_of d).events in
      let texts : texts_from v (path_moves b form) ≡ action_texts (prefix_of d) ++ texts_from d.mid.output ms = ap (texts_from v) (prefix_moved d) ∙ limited_texts v d.mid.output (prefix_of d) ms (broke_emits d) in
      let all : whole_from v (path_moves b form) ≡ whole_from d.mid.output ms = ap (whole_from v) (prefix_moved d) ∙ limited_whole v d.mid.output (prefix_of d) ms (broke_emits d) in
      rw (texts, all, sym d.same_output) (rejects v d.mid.output d.end.output (action_texts (prefix_of d)) d.halts.emitted (after_broke d) d.halts.rejection f (emitted_prints v d.mid.output (prefix_of d) ready (broke_emits d)) d.halts.prints)

  -- all was printed, and the place at the end is known
  pub prints_to : {v w : SizeLimitedFmtAdapter S} {m n place : ℕ} → Ready sink v → EndedAt (printing sink b form) continuation.Path (begun v m) place w n → PrintsPath v (Ok tt) w
  prints_to ready z = prints_so (Ok tt) ready (record { ended = (z.state, z.ran) })

  -- The printed bytes pay for the looks of a parse.

  whole_paid : IsWithinBudget (looks_a_byte (length b)) (looks_before (length b)) (weighed (remaining_trace b form true continuation.Path (first_state 0) []).events) 0
  unfolding trace_at read_at
  whole_paid =
      subst (λ (h : Trace). IsWithinBudget (looks_a_byte (length b)) (looks_before (length b)) (weighed h.events) 0) (sym (remaining_trace-empty_stack b form true continuation.Path (first_state 0)))
      (pays_tree (looks_a_byte (length b)) (looks_before (length b)) 0 form.include_hash (level_of b form.fold_arguments (levels b form.fold_arguments max_depth) true a_path true 0 0).tree (printing_pays b form))

  bits_most : (v w : SizeLimitedFmtAdapter S) (m n : ℕ) (bits : List Action) (h : Trace) (all rest : List Text) → Ready sink v → Emitted (printing sink b form) bits v w → remaining_trace b form true continuation.Path (first_state 0) [] ≡ with_actions true bits h
      → action_texts bits ++ rest ≡ all → n ≤ m + (action_looks bits + 2) → n ≤ m + 100000 * (kept all v.remaining + 1) * (length b + 1)
  bits_most v w m n bits h all rest ready t e s l =
      let done = emitted_prints v w bits ready t in
      let bytes : size (action_texts bits) ≤ kept all v.remaining = kept_bytes sink v (record w { reread = v.reread }) all rest (size (action_texts bits)) (record { prefix = action_texts bits; done = done; is = s }) (omega (arith, done.within refl, done.left refl)) in
      let within_budget = bits_paid (looks_a_byte (length b)) (looks_before (length b)) bits h (subst (λ (g : Trace). IsWithinBudget (looks_a_byte (length b)) (looks_before (length b)) (weighed g.events) 0) e whole_paid) in
      within (length b) (size (action_texts bits)) (kept all v.remaining) m n bytes (omega (arith, l, within_budget))

  pub prints_most : {v w : SizeLimitedFmtAdapter S} {m n : ℕ} (result : Result (Unit {0}) SinkRefused) → Ready sink v → Ended (printing sink b form) continuation.Path (begun v m) result w n
      → n ≤ m + 100000 * (kept (texts_from v (path_moves b form)) v.remaining + 1) * (length b + 1)
  prints_most {v} {w} (Ok u) ready z =
      let r = z.ended.1 in
      let texts : action_texts r.bits ++ [] ≡ texts_from v (path_moves b form) = sym (ap (texts_from v) (all_moved r) ∙ limited_texts v w r.bits [] r.emits) in
      bits_most _ _ _ _ r.bits _ _ [] ready r.emits r.reads texts (omega (arith, r.paid_looks))
  prints_most {v} (Err f) ready z =
      let d = z.ended in
      let ms = moves_in (rest_of d).events in
      let texts : action_texts (prefix_of d) ++ texts_from d.mid.output ms ≡ texts_from v (path_moves b form) = sym (ap (texts_from v) (prefix_moved d) ∙ limited_texts v d.mid.output (prefix_of d) ms (broke_emits d)) in
      bits_most _ _ _ _ (prefix_of d) _ _ (texts_from d.mid.output ms) ready (broke_emits d) (broke_trace d) texts (broke_enough d)

  -- The looks and what is read again.

  whole_looks : allowed_in (remaining_trace b form true continuation.Path (first_state 0) []).events + 6 ≤ 17 * (length b + 1 + path_again b form)
  unfolding trace_at read_at
  whole_looks =
      rw (ap (λ (h : Trace). allowed_in h.events) (remaining_trace-empty_stack b form true continuation.Path (first_state 0))) (path_looks b form form.include_hash)

  bits_again : (m n : ℕ) (bits : List Action) (h : Trace) → remaining_trace b form true continuation.Path (first_state 0) [] ≡ with_actions true bits h
      → n ≤ m + (action_looks bits + 2) → n ≤ m + 17 * (length b + 1 + path_again b form)
  bits_again m n bits h e l =
      let w : allowed_in (with_actions true bits h).events + 6 ≤ 17 * (length b + 1 + path_again b form) = subst (λ (g : Trace). allowed_in g.events + 6 ≤ 17 * (length b + 1 + path_again b form)) e whole_looks in
      omega (arith, l, w, allowed_bits true bits h)

  pub prints_again : {v w : SizeLimitedFmtAdapter S} {m n : ℕ} (result : Result (Unit {0}) SinkRefused) → Ended (printing sink b form) continuation.Path (begun v m) result w n
      → n ≤ m + 17 * (length b + 1 + path_again b form)
  prints_again (Ok u) z = let r = z.ended.1 in bits_again _ _ r.bits _ r.reads (omega (arith, r.paid_looks))
  prints_again (Err f) z = let d = z.ended in bits_again _ _ (prefix_of d) _ (broke_trace d) (broke_enough d)

  -- The looks and the bytes that are read again.

  whole_dues : IsWithinBudget 17 (17 * (length b + 1)) (dues (length b) (remaining_trace b form true continuation.Path (first_state 0) []).events) 0
  unfolding trace_at read_at
  whole_dues =
      subst (λ (h : Trace). IsWithinBudget 17 (17 * (length b + 1)) (dues (length b) h.events) 0) (sym (remaining_trace-empty_stack b form true continuation.Path (first_state 0))) (path_dues b form)

  bits_few : (k m n : ℕ) (v w : SizeLimitedFmtAdapter S) (bits : List Action) (h : Trace) → v.reread.most ≡ Some k → Emitted (printing sink b form) bits v w → remaining_trace b form true continuation.Path (first_state 0) [] ≡ with_actions true bits h
      → n ≤ m + (action_looks bits + 2) → n ≤ m + 17 * (length b + 1 + k) + 2
  bits_few k m n v w bits h e t q l =
      let due : action_looks bits + 17 * given_in (length b) bits ≤ 17 * (length b + 1) + 17 * used_in (length b) bits = bits_due (17 * (length b + 1)) (length b) bits h (subst (λ (g : Trace). IsWithinBudget 17 (17 * (length b + 1)) (dues (length b) g.events) 0) q whole_dues) in
      omega (arith, l, due, limited_use k v.reread.used v w bits e refl t)

  pub prints_few : {v w : SizeLimitedFmtAdapter S} {m n : ℕ} (k : ℕ) (result : Result (Unit {0}) SinkRefused) → v.reread.most ≡ Some k → Ended (printing sink b form) continuation.Path (begun v m) result w n
      → n ≤ m + 20 * (length b + 1 + k)
  prints_few {m = m} {n = n} k (Ok u) e z =
      let r = z.ended.1 in
      let few : n ≤ m + 17 * (length b + 1 + k) + 2 = bits_few k _ _ _ _ r.bits _ e r.emits r.reads (omega (arith, r.paid_looks)) in
      omega (arith, few)
  prints_few {m = m} {n = n} k (Err f) e z =
      let d = z.ended in
      let few : n ≤ m + 17 * (length b + 1 + k) + 2 = bits_few k _ _ _ _ (prefix_of d) _ e (broke_emits d) (broke_trace d) (broke_enough d) in
      omega (arith, few)

  -- the same for a print that stopped before its end
  pub stops_few : {v w : SizeLimitedFmtAdapter S} {m n : ℕ} {r : Checkpoint} {now : List Frame} (k : ℕ) (result : Result (Option Unfinished) SinkRefused) → v.reread.most ≡ Some k
      → PrintDone (printing sink b form) continuation.Path (begun v m) result r now w n → n ≤ m + 17 * (length b + 1 + k) + 2
  stops_few k (Ok None) e z = let r = z.ran in bits_few k _ _ _ _ r.bits _ e r.emits r.reads (omega (arith, r.paid_looks))
  stops_few k (Ok (Some left.Printing)) e z = let r = z.ran in bits_few k _ _ _ _ r.bits _ e r.emits r.reads (omega (arith, r.paid_looks))
  stops_few k (Ok (Some (left.Skipping base at))) e z = let r = in_part z.ran in bits_few k _ _ _ _ r.bits _ e r.emits r.reads (omega (arith, r.paid_looks))
  stops_few k (Err f) e z = let d = z.ran in bits_few k _ _ _ _ (prefix_of d) _ e (broke_emits d) (broke_trace d) (broke_enough d)
