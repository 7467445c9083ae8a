-- The text of a target that was printed.
use Rattle.std.proofs.Common.{◌≡◌, ◌⊎◌, inl, inr, ℕ, zero, suc, ◌+◌, ◌-◌, ◌*◌, ◌≤◌, ◌<◌, Bool, true, false, Option, Some, None, IfSome, List, [], ◌∷◌, ◌++◌, length, Ok, refl, arith, sym, ap, ◌∙◌, subst}
use Rattle.std.specs.List.{concat, slice_range}
use Rattle.std.specs.Prelude.{if◌then◌else◌, ◌==◌}
use Rattle.std.proofs.Math.Dec.{eqb-suc-zero}
use Rattle.std.proofs.Math.ListN.{drop, drop_of_length-le, set, take}
use Rattle.std.proofs.Math.Seq.{drop-append_seam}
use Rattle.std.proofs.lemmas.Bool.{cases_lt, false≢true}
use Rattle.std.proofs.lemmas.List.{append-nil, drop-append-le, length-append, length-drop, take-append-le}
use Rattle.std.proofs.lemmas.List.Folds.{concat-append, drop_split}
use Rattle.std.below.core.specs.declared.int.usize.TheConstants.{MAX}
use Rattle.demangle_sink.specs.Cut.{prefix_within}
use Rattle.demangle_sink.specs.Limit.{Counts, Holds, Prints, Ready, given_back, sink_result, used_with}
use Rattle.demangle_sink.specs.Sink.{Grows, HasLength}
use Rattle.demangle_sink.specs.declared.TextSink.{Ghosts as Sinks}
use Rattle.demangle_sink.specs.declared.limit.Reread.{Reread}
use Rattle.demangle_sink.specs.declared.limit.SizeLimitedFmtAdapter.{SizeLimitedFmtAdapter}
use Rattle.demangle_sink.proofs.CutLemmas.{fitting-all}
use Rattle.demangle_sink.proofs.PrintsLemmas.{prints_ready}
use Rattle.demangle_sink.proofs.PutsPiecesLemmas.{puts_text}
use Rattle.demangle_sink.specs.PutsPieces.{PutsPieces}
use Rattle.demangle_v0_grammar.specs.Climbs.{Climbs, Ran, followed_in}
use Rattle.demangle_v0_grammar.specs.Items.{Kind, Text, a_constant, a_path, a_type}
use Rattle.demangle_v0_grammar.specs.Reading.{Form, Outcome, Place, unit_outcome}
use Rattle.demangle_v0_grammar.specs.References.{bytes_after}
use Rattle.demangle_v0_grammar.specs.Traces.{Event, Trace, context_at, empty_trace, events, looks_then, of, refers, returns, texts_in, texts_then, with_looks, with_texts, with_reference, with_end}
use Rattle.demangle_v0_grammar.proofs.EnoughDepth.{IsEnough}
use Rattle.demangle_v0_grammar.proofs.PrintedAgain.{PrintedAgain, printed_again}
use Rattle.demangle_v0_grammar.proofs.TraceLemmas.{and_then_ended}
use Rattle.demangle_v0.specs.Above.{IsNoted, RunsAbove, WasPrinted}
use Rattle.demangle_v0_parser.specs.Steps.{Machine}
use Rattle.demangle_v0_parser.specs.declared.Continuation.{Continuation}
use Rattle.demangle_v0_parser.specs.declared.frames.Frame.{Frame}
use Rattle.demangle_v0.specs.HeldTexts.{HoldsTarget, HoldsText, HoldsTexts, IsTextOf, target_trace, text_of, unit_at}
use Rattle.demangle_v0_parser.specs.Loops.{Emitted, printing}
use Rattle.demangle_v0_parser.specs.Traces.{Action, allows_looks, puts, goes_back, comes_back, trace_at, trace_of_stack, trace_of_state, with_actions, with_closed_bracket}
use Rattle.demangle_v0.specs.declared.held_texts.Note.{Note}
use Rattle.demangle_v0.specs.declared.held_texts.StoredText.{StoredText}
use Rattle.demangle_v0.specs.declared.held_texts.TargetText.{TargetText}
use Rattle.demangle_v0.proofs.PutAgain.{target_reads}

-- the events of actions that are printed
abbrev pub events_of : List Action → List Event
events_of [] = []
events_of (allows_looks ks ∷ bits) = looks_then ks (events_of bits)
events_of (puts ts ∷ bits) = texts_then true ts (events_of bits)
events_of (goes_back t ∷ bits) = refers t ∷ events_of bits
events_of (comes_back p ∷ bits) = returns p ∷ events_of bits

pub bits_events : (bits : List Action) (i : Place) (o : Bool) → with_actions true bits (empty_trace i o) ≡ record { events = events_of bits; place = i; is_bracket_open = o }
bits_events [] i o = refl
bits_events (allows_looks ks ∷ bits) i o = ap (with_looks ks) (bits_events bits i o)
bits_events (puts ts ∷ bits) i o = ap (with_texts true ts) (bits_events bits i o)
bits_events (goes_back t ∷ bits) i o = ap (with_reference true t) (bits_events bits i o)
bits_events (comes_back p ∷ bits) i o = ap (with_end true p) (bits_events bits i o)

-- looks and texts move no references

looks_texts : (ks : List ℕ) (xs : List Event) → texts_in (looks_then ks xs) ≡ texts_in xs
looks_texts [] xs = refl
looks_texts (k ∷ ks) xs = looks_texts ks xs

texts_texts : (ts : List Text) (xs : List Event) → texts_in (texts_then true ts xs) ≡ ts ++ texts_in xs
texts_texts [] xs = refl
texts_texts (t ∷ ts) xs = ap (λ (us : List Text). t ∷ us) (texts_texts ts xs)

looks_followed : (ks : List ℕ) (xs : List Event) → followed_in (looks_then ks xs) ≡ followed_in xs
looks_followed [] xs = refl
looks_followed (k ∷ ks) xs = looks_followed ks xs

texts_followed : (ts : List Text) (xs : List Event) → followed_in (texts_then true ts xs) ≡ followed_in xs
texts_followed [] xs = refl
texts_followed (t ∷ ts) xs = texts_followed ts xs

looks_ran : (n top u e : ℕ) (ks : List ℕ) (xs : List Event) → Ran n top xs u e → Ran n top (looks_then ks xs) u e
looks_ran n top u e [] xs h = h
looks_ran n top u e (k ∷ ks) xs h = looks_ran n top u e ks xs h

texts_ran : (n top u e : ℕ) (ts : List Text) (xs : List Event) → Ran n top xs u e → Ran n top (texts_then true ts xs) u e
texts_ran n top u e [] xs h = h
texts_ran n top u e (t ∷ ts) xs h = texts_ran n top u e ts xs h

-- a count that is below the greatest number is exact
used_low : (most : Option ℕ) (used n : ℕ) → used_with most used n < MAX → used_with most used n ≡ used + n
used_low None used n h = omega (arith, h)
used_low (Some k) used n h = refl

-- a reference is counted if all is known after it
counts_if : (old : Reread) (n : ℕ) (new : Reread) → Counts old n new ⊎ (new.is_known ≡ false) → new.is_known ≡ true → Counts old n new
counts_if old n new (inl c) k = c
counts_if old n new (inr z) k = absurd (false≢true (sym z ∙ k))

returned : (n : ℕ) (k : Bool) → (if n == 0 then false else k) ≡ true → (1 ≤ n) × (k ≡ true)
returned zero k h = absurd (false≢true h)
returned (suc n) k h = (omega arith, subst (λ (c : Bool). (if c then false else k) ≡ true) (eqb-suc-zero n) h)

-- the bytes after the first ones
pub seam : (xs ys : List ℕ) → slice_range (xs ++ ys) (length xs) (length xs + length ys) ≡ ys
seam xs ys =
    let part = slice_range (xs ++ ys) (length xs) (length xs + length ys) in
    let end : drop (length xs + length ys) (xs ++ ys) ≡ [] = drop_of_length-le (xs ++ ys) (omega (arith, length-append xs ys)) in
    sym (append-nil part) ∙ ap (λ (z : List ℕ). part ++ z) (sym end) ∙ sym (drop_split (xs ++ ys) (length xs) (length xs + length ys) (omega arith)) ∙ drop-append_seam xs ys

-- a part of the first bytes
before : (xs ys : List ℕ) (i j : ℕ) → j ≤ length xs → slice_range (xs ++ ys) i j ≡ slice_range xs i j
before xs ys i j l = go (cases_lt (length xs) i)
  where
    go : (length xs < i) ⊎ (i ≤ length xs) → slice_range (xs ++ ys) i j ≡ slice_range xs i j
    go (inl u) = let none : j - i ≡ 0 = omega (arith, l, u) in subst (λ (n : ℕ). take n (drop i (xs ++ ys)) ≡ take n (drop i xs)) (sym none) refl
    go (inr u) = ap (take (j - i)) (drop-append-le i xs ys u) ∙ take-append-le (j - i) (drop i xs) ys (omega (arith, l, length-drop i xs))

module _ {S : Type 0} (sink : Sinks S) (b : List ℕ) (form : Form) where
  -- the output went from v to w with these events, with fewer than `top` and one bytes read again at once
  record Went (top : ℕ) (xs : List Event) (v w : SizeLimitedFmtAdapter S) : Type 0 where
    pub ran : Ran (length b) top xs v.reread.used w.reread.used
    pub count : w.reread.references ≡ v.reread.references + followed_in xs
    pub known : v.reread.is_known ≡ true
    pub high : v.reread.high ≤ w.reread.high

  went : (top : ℕ) (bits : List Action) (v w : SizeLimitedFmtAdapter S) → Emitted (printing sink b form) bits v w → w.reread.is_known ≡ true → w.reread.references < MAX → w.reread.high ≤ top → top < MAX → Went top (events_of bits) v w
  went top [] v w h known few low less = rw h (record { ran = refl; count = omega arith; known = known; high = omega arith })
  went top (allows_looks ks ∷ bits) v w h known few low less =
      let x = went top bits v w h known few low less in
      record { ran = looks_ran (length b) top v.reread.used w.reread.used ks (events_of bits) x.ran; count = omega (arith, x.count, looks_followed ks (events_of bits)); known = x.known; high = x.high }
  went top (puts ts ∷ bits) v w h known few low less =
      let x = went top bits h.0 w h.2 known few low less in
      let same = h.1.reread in
      record {
        ran = texts_ran (length b) top v.reread.used w.reread.used ts (events_of bits) (subst (λ (r : Reread). Ran (length b) top (events_of bits) r.used w.reread.used) same x.ran);
        count = omega (arith, x.count, texts_followed ts (events_of bits), ap (λ (r : Reread). r.references) same);
        known = sym (ap (λ (r : Reread). r.is_known) same) ∙ x.known;
        high = omega (arith, x.high, ap (λ (r : Reread). r.high) same);
      }
  went top (goes_back t ∷ bits) v w h known few low less =
      let n = length b - t + 1 in
      let x = went top bits h.0 w h.2 known few low less in
      let counts : Counts v.reread n h.0.reread = counts_if v.reread n h.0.reread h.1.2 x.known in
      let used : h.0.reread.used ≡ v.reread.used + n = counts.0 ∙ used_low v.reread.most v.reread.used n (omega (arith, counts.1, x.high, low, less)) in
      record {
        ran = (omega (arith, used, counts.0, counts.1, x.high, low), subst (λ (u : ℕ). Ran (length b) top (events_of bits) u w.reread.used) used x.ran);
        count = omega (arith, x.count, counts.2, few);
        known = sym counts.3 ∙ x.known;
        high = omega (arith, x.high, counts.1);
      }
  went top (comes_back p ∷ bits) v w h known few low less =
      let n = bytes_after (length b) p in
      let x = went top bits h.0 w h.2 known few low less in
      let is : h.0.reread ≡ given_back v.reread n = ap (λ (z : SizeLimitedFmtAdapter S). z.reread) h.1 in
      let back = returned n v.reread.is_known (sym (ap (λ (r : Reread). r.is_known) is) ∙ x.known) in
      record {
        ran = (back.0, subst (λ (u : ℕ). Ran (length b) top (events_of bits) u w.reread.used) (ap (λ (r : Reread). r.used) is) x.ran);
        count = omega (arith, x.count, ap (λ (r : Reread). r.references) is);
        known = back.1;
        high = omega (arith, x.high, ap (λ (r : Reread). r.high) is);
      }

  -- the sink's laws
  abbrev pub NothingTaken : Type 0
  NothingTaken = (s : S) → sink.took s [] s

  abbrev pub JoinedTaken : Type 0
  JoinedTaken = (s t u : S) (xs ys : List ℕ) → sink.took s xs t → sink.took t ys u → sink.took s (xs ++ ys) u

  ready_with : (v w : SizeLimitedFmtAdapter S) (k : Reread) (l : ℕ) → Ready sink v → w ≡ record v { reread = k; lookups_left = l } → Ready sink w
  ready_with v w k l r e = subst (λ (z : SizeLimitedFmtAdapter S). Ready sink z) (sym e) (record { not_failed = r.not_failed; fresh = r.fresh })

  printed_taken : NothingTaken → JoinedTaken → (v w : SizeLimitedFmtAdapter S) (ts : List Text) → Prints sink v ts (Ok tt) w → sink.took v.out.now (concat ts) w.out.now
  printed_taken nothing joined v w ts h =
      let all : PutsPieces sink v.out.now ts (Ok tt) w.out.now = subst (λ (us : List Text). PutsPieces sink v.out.now us (Ok tt) w.out.now) (fitting-all ts v.remaining (h.within refl)) (ok w.is_limit_reached h.hands) in
      puts_text sink v.out.now w.out.now ts (Ok tt) nothing joined all
    where
      ok : (l : Bool) → PutsPieces sink v.out.now (prefix_within ts v.remaining) (sink_result l (Ok tt)) w.out.now → PutsPieces sink v.out.now (prefix_within ts v.remaining) (Ok tt) w.out.now
      ok true k = k
      ok false k = k

  -- the sink took the texts
  pub taken : NothingTaken → JoinedTaken → (bits : List Action) (v w : SizeLimitedFmtAdapter S) → Ready sink v → Emitted (printing sink b form) bits v w → sink.took v.out.now (concat (texts_in (events_of bits))) w.out.now
  taken nothing joined [] v w r h = subst (λ (z : SizeLimitedFmtAdapter S). sink.took v.out.now [] z.out.now) h (nothing v.out.now)
  taken nothing joined (allows_looks ks ∷ bits) v w r h = subst (λ (ts : List Text). sink.took v.out.now (concat ts) w.out.now) (sym (looks_texts ks (events_of bits))) (taken nothing joined bits v w r h)
  taken nothing joined (puts ts ∷ bits) v w r h =
      let rest = taken nothing joined bits h.0 w (prints_ready sink v ts (Ok tt) h.0 h.1 refl) h.2 in
      let both = joined v.out.now h.0.out.now w.out.now (concat ts) (concat (texts_in (events_of bits))) (printed_taken nothing joined v h.0 ts h.1) rest in
      subst (λ (ys : List ℕ). sink.took v.out.now ys w.out.now) (sym (concat-append ts (texts_in (events_of bits))) ∙ ap concat (sym (texts_texts ts (events_of bits)))) both
  taken nothing joined (goes_back t ∷ bits) v w r h = subst (λ (z : S). sink.took z (concat (texts_in (events_of bits))) w.out.now) (ap (λ (z : SizeLimitedFmtAdapter S). z.out.now) h.1.1) (taken nothing joined bits h.0 w (ready_with v h.0 _ _ r h.1.1) h.2)
  taken nothing joined (comes_back p ∷ bits) v w r h = subst (λ (z : S). sink.took z (concat (texts_in (events_of bits))) w.out.now) (ap (λ (z : SizeLimitedFmtAdapter S). z.out.now) h.1) (taken nothing joined bits h.0 w (ready_with v h.0 (given_back v.reread (bytes_after (length b) p)) v.lookups_left r h.1) h.2)

  -- the production of a target
  abbrev target_kind : ℕ → Kind
  target_kind zero = a_path
  target_kind (suc zero) = a_type
  target_kind (suc (suc k)) = a_constant

  abbrev target_value : ℕ → Bool → Bool
  target_value (suc zero) v = false
  target_value k v = v

  abbrev outcome_at : TargetText → (d : ℕ) → Outcome
  outcome_at t d = unit_outcome (context_at b form true d t.lifetimes) (target_kind t.kind) (target_value t.kind t.in_value) (Some t.place)

  abbrev closed : Outcome → Trace
  closed o = with_closed_bracket (of form true o)

  target_is : (k : ℕ) (v : Bool) (d n : ℕ) (i : Place) → trace_at b form true (unit_at k) v 0 d n i false ≡ with_closed_bracket (of form true (unit_outcome (context_at b form true d n) (target_kind k) (target_value k v) i))
  unfolding trace_at
  target_is zero v d n i = refl
  target_is (suc zero) v d n i = refl
  target_is (suc (suc k)) v d n i = refl

  text_is_of : (note : Note) (end : Place) (w : SizeLimitedFmtAdapter S) (t : TargetText) → IsNoted sink b note end w t → IsTextOf t note.continuation note.state
  text_is_of note end w t x = record { place = x.place; kind = x.kind; lifetimes = x.lifetimes; in_value = x.in_value; depth = omega (arith, x.depth) }

  -- what was printed of the target
  record Target (t : TargetText) (left : ℕ) (before w : SizeLimitedFmtAdapter S) : Type 0 where
    pub bits : List Action
    pub emits : Emitted (printing sink b form) bits before w
    pub is_events : (target_trace b form t left).events ≡ events_of bits
    pub ends : (target_trace b form t left).place ≡ Some t.end

  printed_target : (note : Note) (end : Place) (w : SizeLimitedFmtAdapter S) (t : TargetText) → IsNoted sink b note end w t → (x : WasPrinted sink b form note end w) → Target t note.state.depth_left x.before w
  unfolding trace_at trace_of_stack
  printed_target note end w t n x =
      let s = note.state in
      let own : Trace = trace_of_state b form true note.continuation s in
      let is : own ≡ target_trace b form t s.depth_left = target_reads sink b form note.continuation s t x.target (text_is_of note end w t n) in
      let all : own ≡ record { events = events_of x.ran.bits; place = x.after.place; is_bracket_open = x.after.is_bracket_open } = sym (and_then_ended own) ∙ x.ran.reads ∙ bits_events x.ran.bits x.after.place x.after.is_bracket_open in
      record {
        bits = x.ran.bits;
        emits = x.ran.emits;
        is_events = ap (λ (h : Trace). h.events) (sym is ∙ all);
        ends = ap (λ (h : Trace). h.place) (sym is ∙ all) ∙ x.ends ∙ n.ends;
      }

  module _ (nothing : NothingTaken) (joined : JoinedTaken) where
    -- what is held grows, since the note has a start
    note_laws : (note : Note) (end : Place) (w : SizeLimitedFmtAdapter S) (t : TargetText) → IsNoted sink b note end w t → WasPrinted sink b form note end w → Holds sink
    note_laws note end w t n x = subst (λ (o : Option ℕ). IfSome o (λ k. Holds sink)) n.start x.laws

    -- the sink holds the text, if it holds all that it took
    held_bytes : (note : Note) (end : Place) (w : SizeLimitedFmtAdapter S) (t : TargetText) (text : List ℕ) (n : IsNoted sink b note end w t) (x : WasPrinted sink b form note end w) → sink.held w.out.now ≡ Some text
        → (y : Target t note.state.depth_left x.before w) → slice_range text t.text.start (t.text.start + t.text.len) ≡ concat (texts_in (target_trace b form t note.state.depth_left).events)
    held_bytes note end w t text n x q y = go (sink.held x.before.out.now) refl
      where
        first : HasLength (sink.held x.before.out.now) t.text.start
        first = subst (λ (o : Option ℕ). IfSome o (HasLength (sink.held x.before.out.now))) n.start x.start

        grows : Grows (sink.held x.before.out.now) (concat (texts_in (events_of y.bits))) (sink.held w.out.now)
        grows = (note_laws note end w t n x).grows x.before.out.now w.out.now (concat (texts_in (events_of y.bits))) (taken nothing joined y.bits x.before w x.ready y.emits)

        go : (held : Option (List ℕ)) → sink.held x.before.out.now ≡ held → slice_range text t.text.start (t.text.start + t.text.len) ≡ concat (texts_in (target_trace b form t note.state.depth_left).events)
        go None k = absurd (subst (λ (o : Option (List ℕ)). HasLength o t.text.start) k first)
        go (Some prefix) k =
            let ys : List ℕ = concat (texts_in (events_of y.bits)) in
            let before : length prefix ≡ t.text.start = subst (λ (o : Option (List ℕ)). HasLength o t.text.start) k first in
            let half : Grows (Some prefix) ys (sink.held w.out.now) = subst (λ (o : Option (List ℕ)). Grows o ys (sink.held w.out.now)) k grows in
            let whole : text ≡ prefix ++ ys = subst (λ (o : Option (List ℕ)). Grows (Some prefix) ys o) q half in
            let all : length text ≡ t.text.start + t.text.len = subst (λ (o : Option (List ℕ)). HasLength o (t.text.start + t.text.len)) q n.held in
            let len : t.text.len ≡ length ys = omega (arith, before, all, ap (λ (zs : List ℕ). length zs) whole, length-append prefix ys) in
            rw (whole, sym before, len, y.is_events) (seam prefix ys)

    -- the note holds for each depth that is enough
    pub noted_target : (note : Note) (end : Place) (w : SizeLimitedFmtAdapter S) (t : TargetText) → IsNoted sink b note end w t → WasPrinted sink b form note end w → HoldsTarget sink b form w t
    noted_target note end w t n x d l m = record { laws = note_laws note end w t n x; text = go (sink.held w.out.now) refl }
      where
        go : (held : Option (List ℕ)) → sink.held w.out.now ≡ held → IfSome held (λ bytes. HoldsText b form bytes t d)
        go None q = tt
        go (Some text) q =
            let left = note.state.depth_left in
            let y = printed_target note end w t n x in
            let z = went w.reread.high y.bits x.before w y.emits n.known n.few (omega arith) n.low in
            let same_reread : note.reread ≡ x.before.reread = x.reread in
            let tree : List Event = (target_trace b form t left).events in
            let is_left : target_trace b form t left ≡ closed (outcome_at t left) = target_is t.kind t.in_value left t.lifetimes (Some t.place) in
            let is_d : target_trace b form t d ≡ closed (outcome_at t d) = target_is t.kind t.in_value d t.lifetimes (Some t.place) in
            let own : events form.include_hash true (outcome_at t left).tree ≡ events_of y.bits = ap (λ (h : Trace). h.events) (sym is_left) ∙ y.is_events in
            let old = note.reread.used in
            let started : x.before.reread.used ≡ old = sym (ap (λ (r : Reread). r.used) same_reread) in
            let run : Ran (length b) w.reread.high (events form.include_hash true (outcome_at t left).tree) old w.reread.used = subst (λ (u : ℕ). Ran (length b) w.reread.high (events form.include_hash true (outcome_at t left).tree) u w.reread.used) started (subst (λ (xs : List Event). Ran (length b) w.reread.high xs x.before.reread.used w.reread.used) (sym own) z.ran) in
            let count : followed_in (events form.include_hash true (outcome_at t left).tree) ≡ t.text.references = omega (arith, ap followed_in own, z.count, n.references, ap (λ (r : Reread). r.references) same_reread) in
            let again = printed_again b form left t.lifetimes t.place t.end w.reread.high old w.reread.used d (target_kind t.kind) (target_value t.kind t.in_value) (omega (arith, n.later, n.inside)) (ap (λ (h : Trace). h.place) (sym is_left) ∙ y.ends) (omega (arith, n.peak)) run (enough (followed_in (events form.include_hash true (outcome_at t left).tree)) count) in
            let same : target_trace b form t d ≡ target_trace b form t left = is_d ∙ ap closed again.same ∙ sym is_left in
            record {
              ends = ap (λ (h : Trace). h.place) same ∙ y.ends;
              later = n.later;
              within = omega (arith, subst (λ (o : Option (List ℕ)). HasLength o (t.text.start + t.text.len)) q n.held);
              same = held_bytes note end w t text n x q y ∙ ap (λ (h : Trace). concat (texts_in h.events)) (sym same);
              counted = ap (λ (h : Trace). followed_in h.events) (same ∙ is_left) ∙ count;
              climbs = subst (λ (h : Trace). Climbs (length b) t.text.peak h.events 0 t.text.reread) (sym (same ∙ is_left)) (climb again);
            }
          where
            enough : (k : ℕ) → k ≡ t.text.references → IsEnough note.state.depth_left d (2 * (t.end - t.place) + 2 + (3 * k + 2 * (w.reread.used - note.reread.used)))
            enough k c = pick (cases_lt note.state.depth_left (2 * (t.end - t.place) + 2 + (3 * k + 2 * (w.reread.used - note.reread.used))))
              where
                pick : (note.state.depth_left < 2 * (t.end - t.place) + 2 + (3 * k + 2 * (w.reread.used - note.reread.used))) ⊎ (2 * (t.end - t.place) + 2 + (3 * k + 2 * (w.reread.used - note.reread.used)) ≤ note.state.depth_left) → IsEnough note.state.depth_left d (2 * (t.end - t.place) + 2 + (3 * k + 2 * (w.reread.used - note.reread.used)))
                pick (inl u) = inr (omega (arith, n.depth, n.used, l, c, u))
                pick (inr u) = inl (omega (arith, n.depth, n.used, l, c, u))

            climb : PrintedAgain b form note.state.depth_left t.lifetimes t.place w.reread.high note.reread.used w.reread.used d (target_kind t.kind) (target_value t.kind t.in_value) → Climbs (length b) t.text.peak (events form.include_hash true (outcome_at t note.state.depth_left).tree) 0 t.text.reread
            climb a =
                let xs : List Event = events form.include_hash true (outcome_at t note.state.depth_left).tree in
                let top : w.reread.high - note.reread.used ≡ t.text.peak = omega (arith, n.peak) in
                let last : w.reread.used - note.reread.used ≡ t.text.reread = omega (arith, n.used) in
                subst (λ (k : ℕ). Climbs (length b) k xs 0 t.text.reread) top (subst (λ (e : ℕ). Climbs (length b) (w.reread.high - note.reread.used) xs 0 e) last a.climbs)

  -- a text replaces another
  pub entry_set : (w : SizeLimitedFmtAdapter S) (ts : List StoredText) (k : ℕ) (t : StoredText) → HoldsTexts sink b form w ts → HoldsTarget sink b form w (text_of t) → HoldsTexts sink b form w (set ts k t)
  entry_set w [] k t h x = tt
  entry_set w (u ∷ ts) zero t h x = (x, h.1)
  entry_set w (u ∷ ts) (suc k) t h x = (h.0, entry_set w ts k t h.1 x)

  -- the texts are still there after more was taken
  pub still_held : (xs : List ℕ) (v w : SizeLimitedFmtAdapter S) (t : TargetText) → sink.took v.out.now xs w.out.now → HoldsTarget sink b form v t → HoldsTarget sink b form w t
  still_held xs v w t took h d l m =
      let held = h d l m in
      record { laws = held.laws; text = go (sink.held v.out.now) (sink.held w.out.now) (held.laws.grows v.out.now w.out.now xs took) held.text }
    where
      more : (bytes : List ℕ) → HoldsText b form bytes t d → HoldsText b form (bytes ++ xs) t d
      more bytes f = record {
        ends = f.ends;
        later = f.later;
        within = omega (arith, f.within, length-append bytes xs);
        same = before bytes xs t.text.start (t.text.start + t.text.len) f.within ∙ f.same;
        counted = f.counted;
        climbs = f.climbs;
      }

      go : (old new : Option (List ℕ)) → Grows old xs new → IfSome old (λ bytes. HoldsText b form bytes t d) → IfSome new (λ bytes. HoldsText b form bytes t d)
      go old None g f = tt
      go None (Some text) g f = absurd g
      go (Some bytes) (Some text) g f = subst (λ (ys : List ℕ). HoldsText b form ys t d) (sym g) (more bytes f)

  pub all_held : (xs : List ℕ) (v w : SizeLimitedFmtAdapter S) (ts : List StoredText) → sink.took v.out.now xs w.out.now → HoldsTexts sink b form v ts → HoldsTexts sink b form w ts
  all_held xs v w [] took h = tt
  all_held xs v w (t ∷ ts) took h = (still_held xs v w (text_of t) took h.0, all_held xs v w ts took h.1)

  -- the texts are still there after steps above other frames
  pub held_along : NothingTaken → JoinedTaken → {below : List Frame} {p q : Continuation} {first t : Machine (SizeLimitedFmtAdapter S)} (ts : List StoredText) → Ready sink first.output → HoldsTexts sink b form first.output ts → RunsAbove (printing sink b form) below p first q t → HoldsTexts sink b form t.output ts
  held_along nothing joined {first = first} {t = t} ts r h x = all_held (concat (texts_in (events_of x.ran.bits))) first.output t.output ts (taken nothing joined x.ran.bits first.output t.output r x.ran.emits) h
