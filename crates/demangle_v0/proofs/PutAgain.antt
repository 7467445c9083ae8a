-- The text of a target that is put again.
use Rattle.std.proofs.Common.{◌≡◌, ◌⊎◌, inl, inr, ℕ, zero, suc, ◌+◌, ◌-◌, ◌≤◌, ◌<◌, true, false, Option, Some, None, IfSome, List, [], ◌∷◌, ◌++◌, length, refl, arith, sym, ap, ◌∙◌, subst}
use Rattle.std.specs.List.{concat, slice_range}
use Rattle.std.specs.Prelude.{min, Bool}
use Rattle.std.proofs.Math.ListN.{get_or}
use Rattle.std.proofs.lemmas.Bool.{false≢true}
use Rattle.std.proofs.lemmas.List.{length-append}
use Rattle.std.proofs.lemmas.Option.{IfSome_then}
use Rattle.std.below.core.specs.declared.int.usize.TheConstants.{MAX}
use Rattle.demangle_symbol.proofs.Ranges.{range_length}
use Rattle.demangle_sink.specs.Cut.{size}
use Rattle.demangle_sink.specs.Limit.{FollowsAgain, IsOver, PutsAgain, Ready}
use Rattle.demangle_sink.specs.Sink.{TakesAgain, room_after}
use Rattle.demangle_sink.specs.declared.TextSink.{Ghosts as Sinks}
use Rattle.demangle_sink.specs.declared.limit.HeldText.{HeldText}
use Rattle.demangle_sink.specs.declared.limit.Reread.{Reread}
use Rattle.demangle_sink.specs.declared.limit.SizeLimitedFmtAdapter.{SizeLimitedFmtAdapter}
use Rattle.demangle_v0_grammar.specs.Climbs.{Climbs, followed_in}
use Rattle.demangle_v0_grammar.specs.Items.{Text}
use Rattle.demangle_v0_grammar.specs.Reading.{Form, Place, max_depth}
use Rattle.demangle_v0_grammar.specs.Traces.{Event, Trace, and_then, prints_text, allows, refers, returns, texts_in}
use Rattle.demangle_v0.specs.HeldTexts.{HoldsTarget, HoldsText, HoldsTexts, IsTextOf, target_trace, text_of, unit_at}
use Rattle.demangle_v0_parser.specs.Loops.{RanSteps, printing, trace_left}
use Rattle.demangle_v0_parser.specs.Measure.{Fits}
use Rattle.demangle_v0_parser.specs.Steps.{machine}
use Rattle.demangle_v0_parser.specs.Targets.{is_target}
use Rattle.demangle_v0_parser.specs.Traces.{trace_at, trace_of_stack, trace_of_state, with_actions}
use Rattle.demangle_v0_parser.specs.declared.Continuation.{Continuation}
use Rattle.demangle_v0_parser.specs.declared.Continuation.TheVariants as continuation
use Rattle.demangle_v0_parser.specs.declared.State.{State}
use Rattle.demangle_v0_parser.specs.declared.frames.Frame.{Frame}
use Rattle.demangle_v0.specs.declared.held_texts.StoredText.{StoredText}
use Rattle.demangle_v0.specs.declared.held_texts.TargetText.{TargetText}
use Rattle.demangle_v0.proofs.AgainTexts.{NothingLaw, Sent, actions_of, actions_trace, sent_emits}

pub target_deep : (p : Continuation) (left n : ℕ) → is_target p ≡ true → Fits p left n → left ≤ max_depth
target_deep continuation.TargetPath left n k h = omega (arith, h)
target_deep continuation.TargetType left n k h = omega (arith, h)
target_deep continuation.TargetConstant left n k h = omega (arith, h)
target_deep p left n k h = absurd (false≢true k)

length_concat : (ts : List Text) → length (concat ts) ≡ size ts
length_concat [] = refl
length_concat (t ∷ ts) = omega (arith, length-append t (concat ts), length_concat ts)

-- without a reference, nothing is read again
still : (n top e : ℕ) (xs : List Event) → followed_in xs ≡ 0 → Climbs n top xs 0 e → Climbs n 0 xs 0 0
still n top e [] k h = refl
still n top e (prints_text t ∷ xs) k h = still n top e xs k h
still n top e (allows j ∷ xs) k h = still n top e xs k h
still n top e (refers t ∷ xs) k h = absurd (omega (arith, k))
still n top e (returns p ∷ xs) k h = absurd (omega (arith, h.0, h.1))

module _ {S : Type 0} (sink : Sinks S) (b : List ℕ) (form : Form) where
  pub held_entry : (v : SizeLimitedFmtAdapter S) (ts : List StoredText) (k : ℕ) (d : StoredText) → HoldsTexts sink b form v ts → k < length ts → HoldsTarget sink b form v (text_of (get_or ts k d))
  held_entry v [] k d h l = absurd (omega (arith, l))
  held_entry v (t ∷ ts) zero d h l = h.0
  held_entry v (t ∷ ts) (suc k) d h l = held_entry v ts k d h.1 (omega (arith, l))

  -- the text of the target at a depth
  pub held_text : (v : SizeLimitedFmtAdapter S) (t : TargetText) (d : ℕ) → HoldsTarget sink b form v t → t.depth ≤ d → d ≤ max_depth → IfSome (sink.held v.out.now) (λ bytes. HoldsText b form bytes t d)
  held_text v t d h l m = (h d l m).text

  pub held_within : (v : SizeLimitedFmtAdapter S) (t : TargetText) (d : ℕ) → HoldsTarget sink b form v t → t.depth ≤ d → d ≤ max_depth → IfSome (sink.held v.out.now) (λ bytes. t.text.start + t.text.len ≤ length bytes)
  held_within v t d h l m = IfSome_then (sink.held v.out.now) (h d l m).text (λ bytes f. f.within)

  -- how much is read again for a text that is put again: at most `top` at once, and e in the end
  record Counted (xs : List Event) (old new : Reread) : Type 0 where
    pub top : ℕ
    pub e : ℕ
    pub climbs : Climbs (length b) top xs 0 e
    pub uses : new.used ≡ old.used + e
    pub fits : 0 < followed_in xs → IsOver old.most (old.used + top) → ⊥
    pub counts : 0 < followed_in xs → old.used + top ≤ MAX
    pub most : new.most ≡ old.most
    pub high : ((new.high ≡ old.high) × ((followed_in xs ≡ 0) ⊎ (old.used + top ≤ new.high))) ⊎ ((0 < followed_in xs) × (old.high ≤ new.high) × (old.used + top ≤ new.high))
    pub references : 0 < followed_in xs → new.references ≡ min MAX (old.references + followed_in xs)
    pub calm : followed_in xs ≡ 0 → new.references ≡ old.references
    pub known : new.is_known ≡ old.is_known

  counted_of : (xs : List Event) (old : Reread) (text : HeldText) (new : Reread) → followed_in xs ≡ text.references → Climbs (length b) text.peak xs 0 text.reread → FollowsAgain old text new → Counted xs old new
  counted_of xs old text new k c (inl z) =
      let none : followed_in xs ≡ 0 = k ∙ z.0 in
      record {
        top = 0;
        e = 0;
        climbs = still (length b) text.peak text.reread xs none c;
        uses = omega (arith, ap (λ (r : Reread). r.used) z.1);
        fits = λ some. absurd (omega (arith, some, none));
        counts = λ some. absurd (omega (arith, some, none));
        most = ap (λ (r : Reread). r.most) z.1;
        high = inl (ap (λ (r : Reread). r.high) z.1, inl none);
        references = λ some. absurd (omega (arith, some, none));
        calm = λ _. ap (λ (r : Reread). r.references) z.1;
        known = ap (λ (r : Reread). r.is_known) z.1;
      }
  counted_of xs old text new k c (inr z) =
      record {
        top = text.peak;
        e = text.reread;
        climbs = c;
        uses = ap (λ (r : Reread). r.used) z.is;
        fits = λ _. z.fits;
        counts = λ _. z.counted;
        most = ap (λ (r : Reread). r.most) z.is;
        high = inr (omega (arith, z.some, k), omega (arith, ap (λ (r : Reread). r.high) z.is), omega (arith, ap (λ (r : Reread). r.high) z.is));
        references = λ _. omega (arith, ap (λ (r : Reread). r.references) z.is, k);
        calm = λ none. absurd (omega (arith, z.some, k, none));
        known = ap (λ (r : Reread). r.is_known) z.is;
      }

  none_some : {A : Type 0} {x : A} → None ≡ Some x → ⊥
  none_some k = cc

  sent_again : (v w : SizeLimitedFmtAdapter S) (t : TargetText) (d : ℕ) (bytes : List ℕ) → sink.held v.out.now ≡ Some bytes → Ready sink v → PutsAgain sink v t.text w → HoldsText b form bytes t d
      → (top : ℕ) × (e : ℕ) × Sent sink b form (target_trace b form t d).events v.reread.used top 0 e v w
  sent_again v w t d bytes q r p f =
      let xs : List Event = (target_trace b form t d).events in
      let len : length (slice_range bytes t.text.start (t.text.start + t.text.len)) ≡ t.text.start + t.text.len - t.text.start = range_length bytes t.text.start (t.text.start + t.text.len) f.within in
      let whole : length (concat (texts_in xs)) ≡ t.text.len = omega (arith, len, ap (λ (ys : List ℕ). length ys) f.same) in
      let total : size (texts_in xs) ≡ t.text.len = omega (arith, whole, length_concat (texts_in xs)) in
      let again : sink.took v.out.now (slice_range bytes t.text.start (t.text.start + t.text.len)) w.out.now = subst (λ o. TakesAgain sink.took o t.text.start t.text.len v.out.now w.out.now) q p.takes.again in
      let c = counted_of xs v.reread t.text w.reread f.counted f.climbs p.reread in (
        c.top,
        c.e,
        record {
          same_sink = p.same_sink;
          not_failed = r.not_failed;
          ends_well = p.not_failed;
          fresh = r.fresh;
          open_ = p.open_;
          took = subst (λ z. sink.took v.out.now z w.out.now) f.same again;
          quiet = λ k. absurd (omega (arith, p.some, whole, ap (λ (ts : List Text). length (concat ts)) k));
          room = p.takes.room ∙ ap (λ z. room_after z (sink.room v.out.now)) (sym whole);
          within = omega (arith, p.within, total);
          left = omega (arith, p.left, total);
          climbs = c.climbs;
          used = omega arith;
          uses = c.uses;
          fits = c.fits;
          counts = c.counts;
          most = c.most;
          high = c.high;
          references = c.references;
          calm = c.calm;
          known = c.known;
          looked = λ k. absurd (omega (arith, p.some, whole, ap (λ (ts : List Text). length (concat ts)) k));
        },
      )

  target_closed : (k : ℕ) (v : Bool) (d n : ℕ) (i : Place) → (trace_at b form true (unit_at k) v 0 d n i false).is_bracket_open ≡ false
  unfolding trace_at
  target_closed zero v d n i = refl
  target_closed (suc zero) v d n i = refl
  target_closed (suc (suc k)) v d n i = refl

  pub target_reads : (p : Continuation) (s : State) (t : TargetText) → is_target p ≡ true → IsTextOf t p s → trace_of_state b form true p s ≡ target_trace b form t s.depth_left
  unfolding trace_at
  target_reads continuation.TargetPath s t k x = rw (x.place, x.kind, x.lifetimes, x.in_value) refl
  target_reads continuation.TargetType s t k x = rw (x.place, x.kind, x.lifetimes) refl
  target_reads continuation.TargetConstant s t k x = rw (x.place, x.kind, x.lifetimes, x.in_value) refl
  target_reads p s t k x = absurd (false≢true k)

  and_put : (h : Trace) (e : ℕ) (k : Place → Bool → Trace) → h.place ≡ Some e → h.is_bracket_open ≡ false → and_then h k ≡ with_actions true (actions_of h.events) (k (Some e) false)
  and_put h e k p o =
      ap (λ (i : Place). record (k i h.is_bracket_open) { events = h.events ++ (k i h.is_bracket_open).events }) p
      ∙ ap (λ (z : Bool). record (k (Some e) z) { events = h.events ++ (k (Some e) z).events }) o
      ∙ sym (actions_trace h.events (k (Some e) false))

  -- the state after the target
  abbrev pub after_target : State → TargetText → State
  after_target s t = record s { place = Some t.end; is_bracket_open = false }

  left_after : (s : State) (v : SizeLimitedFmtAdapter S) (t : TargetText) (stack : List Frame) (n : ℕ) → trace_left (printing sink b form) continuation.End (machine (after_target s t) stack v n) ≡ trace_of_stack b form true stack (Some t.end) false
  unfolding trace_at
  left_after s v t stack n = refl

  pub put_ran : NothingLaw sink b form → (p : Continuation) (s : State) (v w : SizeLimitedFmtAdapter S) (t : TargetText) (n : ℕ) → is_target p ≡ true → IsTextOf t p s → HoldsTarget sink b form v t → s.depth_left ≤ max_depth → Ready sink v
      → PutsAgain sink v t.text w → (stack : List Frame) → RanSteps (printing sink b form) p (machine s stack v n) continuation.End (machine (after_target s t) stack w n)
  put_ran nothing p s v w t n k x h m r z stack = go (sink.held v.out.now) refl
    where
      go : (held : Option (List ℕ)) → sink.held v.out.now ≡ held → RanSteps (printing sink b form) p (machine s stack v n) continuation.End (machine (after_target s t) stack w n)
      go None q = absurd (subst (λ o. TakesAgain sink.took o t.text.start t.text.len v.out.now w.out.now) q z.takes.again)
      go (Some bytes) q =
          let f : HoldsText b form bytes t s.depth_left = subst (λ o. IfSome o (λ ys. HoldsText b form ys t s.depth_left)) q (held_text v t s.depth_left h x.depth m) in
          let h1 : Trace = target_trace b form t s.depth_left in
          let y = sent_again v w t s.depth_left bytes q r z f in
          let stacked : Place → Bool → Trace = trace_of_stack b form true stack in
          record {
            bits = actions_of h1.events;
            emits = sent_emits sink b form z.takes.laws.splits nothing h1.events v.reread.used y.0 0 y.1 v w y.2;
            reads = ap (λ (u : Trace). and_then u stacked) (target_reads p s t k x) ∙ and_put h1 t.end stacked f.ends (target_closed t.kind t.in_value s.depth_left t.lifetimes (Some t.place)) ∙ ap (λ (u : Trace). with_actions true (actions_of h1.events) u) (sym (left_after s w t stack n));
            paid_looks = omega arith;
          }
