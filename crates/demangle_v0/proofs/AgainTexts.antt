-- A text that is put again, as if each of its events happened again.
use Rattle.std.specs.Prelude.{min, if◌then◌else◌, ◌==◌}
use Rattle.std.proofs.Math.Dec.{eqb-suc-zero}
use Rattle.std.proofs.Common.{◌≡◌, ◌⊎◌, inl, inr, ℕ, zero, suc, ◌+◌, ◌-◌, ◌≤◌, ◌<◌, Bool, true, false, Option, Some, None, List, [], ◌∷◌, ◌++◌, length, Ok, refl, arith, sym, ap, ◌∙◌, subst}
use Rattle.std.specs.List.{concat}
use Rattle.std.proofs.lemmas.List.{append-nil, length-append}
use Rattle.std.below.core.specs.declared.int.usize.TheConstants.{MAX}
use Rattle.demangle_sink.specs.declared.TextSink.{Ghosts as Sinks}
use Rattle.demangle_sink.specs.declared.limit.Reread.{Reread}
use Rattle.demangle_sink.specs.declared.limit.SizeLimitedFmtAdapter.{SizeLimitedFmtAdapter}
use Rattle.demangle_sink.specs.Cut.{size}
use Rattle.demangle_sink.specs.Sink.{room_after}
use Rattle.demangle_sink.specs.Limit.{Prints, IsOver, Follows, GivesBack, given_back, used_after, used_with}
use Rattle.demangle_sink.proofs.PrintsLemmas.{prints_put}
use Rattle.demangle_sink.proofs.PutsPiecesLemmas.{puts_put, room-both, room-nothing}
use Rattle.demangle_v0_grammar.specs.Items.{Text}
use Rattle.demangle_v0_grammar.specs.Reading.{Form, Place}
use Rattle.demangle_v0_grammar.specs.References.{bytes_after}
use Rattle.demangle_v0_grammar.specs.Climbs.{Climbs, followed_in}
use Rattle.demangle_v0_grammar.specs.Traces.{Event, Trace, prints_text, allows, refers, returns, texts_in, with_looks, with_texts, with_reference, with_end}
use Rattle.demangle_v0_parser.specs.Loops.{Emitted, printing}
use Rattle.demangle_v0_parser.specs.Traces.{Action, allows_looks, puts, goes_back, comes_back, with_actions}

-- the actions of events, one for each
abbrev pub actions_of : List Event → List Action
actions_of [] = []
actions_of (prints_text t ∷ xs) = puts (t ∷ []) ∷ actions_of xs
actions_of (allows k ∷ xs) = allows_looks (k ∷ []) ∷ actions_of xs
actions_of (refers t ∷ xs) = goes_back t ∷ actions_of xs
actions_of (returns p ∷ xs) = comes_back p ∷ actions_of xs

pub actions_trace : (xs : List Event) (h : Trace) → with_actions true (actions_of xs) h ≡ record h { events = xs ++ h.events }
actions_trace [] h = refl
actions_trace (prints_text t ∷ xs) h = ap (with_texts true (t ∷ [])) (actions_trace xs h)
actions_trace (allows k ∷ xs) h = ap (with_looks (k ∷ [])) (actions_trace xs h)
actions_trace (refers t ∷ xs) h = ap (with_reference true t) (actions_trace xs h)
actions_trace (returns p ∷ xs) h = ap (with_end true p) (actions_trace xs h)

module _ {S : Type 0} (sink : Sinks S) (b : List ℕ) (form : Form) where
  -- a sink that takes bytes again could have taken them in two parts
  abbrev pub SplitLaw : Type 0
  SplitLaw = (s u : S) (xs ys : List ℕ) → sink.failed s ≡ false → sink.took s (xs ++ ys) u → (t : S) × sink.took s xs t × sink.took t ys u × (sink.failed t ≡ false) × (sink.room t ≡ room_after (length xs) (sink.room s))

  -- `w` is `v` after the texts and the references of these events. `base` and u bytes are used before, and `top` at once
  -- at most.
  pub record Sent (xs : List Event) (base top u e : ℕ) (v w : SizeLimitedFmtAdapter S) : Type 0 where
    pub same_sink : w.out ≡ record v.out { now = w.out.now }
    pub not_failed : sink.failed v.out.now ≡ false
    pub ends_well : sink.failed w.out.now ≡ false
    pub fresh : v.is_limit_reached ≡ false
    pub open_ : w.is_limit_reached ≡ false
    pub took : sink.took v.out.now (concat (texts_in xs)) w.out.now
    pub quiet : texts_in xs ≡ [] → w.out.now ≡ v.out.now
    pub room : sink.room w.out.now ≡ room_after (length (concat (texts_in xs))) (sink.room v.out.now)
    pub within : size (texts_in xs) ≤ v.remaining
    pub left : w.remaining ≡ v.remaining - size (texts_in xs)
    pub climbs : Climbs (length b) top xs u e
    pub used : v.reread.used ≡ base + u
    pub uses : w.reread.used ≡ base + e
    pub fits : 0 < followed_in xs → IsOver v.reread.most (base + top) → ⊥
    pub counts : 0 < followed_in xs → base + top ≤ MAX
    pub most : w.reread.most ≡ v.reread.most
    pub high : ((w.reread.high ≡ v.reread.high) × ((followed_in xs ≡ 0) ⊎ (base + top ≤ w.reread.high))) ⊎ ((0 < followed_in xs) × (v.reread.high ≤ w.reread.high) × (base + top ≤ w.reread.high))
    pub references : 0 < followed_in xs → w.reread.references ≡ min MAX (v.reread.references + followed_in xs)
    pub calm : followed_in xs ≡ 0 → w.reread.references ≡ v.reread.references
    pub known : w.reread.is_known ≡ v.reread.is_known
    pub looked : texts_in xs ≡ [] → w.lookups_left ≡ v.lookups_left

  nothing_left : (base top u e : ℕ) (v w : SizeLimitedFmtAdapter S) → Sent [] base top u e v w → v ≡ w
  nothing_left base top u e v w h =
      let out = h.same_sink ∙ ap (λ z. record v.out { now = z }) (h.quiet refl) in
      let high : w.reread.high ≡ v.reread.high = same_high h.high in
      let used : w.reread.used ≡ v.reread.used = omega (arith, h.used, h.uses, h.climbs) in
      let references : w.reread.references ≡ v.reread.references = h.calm refl in
      let remaining : w.remaining ≡ v.remaining = omega (arith, h.left) in
      let reread : w.reread ≡ v.reread = λ i. record { most = h.most i; used = used i; high = high i; references = references i; is_known = h.known i } in
      let limit : w.is_limit_reached ≡ v.is_limit_reached = h.open_ ∙ sym h.fresh in
      let looked : w.lookups_left ≡ v.lookups_left = h.looked refl in
      sym (λ i. record { out = out i; remaining = remaining i; reread = reread i; is_limit_reached = limit i; lookups_left = looked i })
    where
      same_high : ((w.reread.high ≡ v.reread.high) × ((followed_in [] ≡ 0) ⊎ (base + top ≤ w.reread.high))) ⊎ ((0 < followed_in []) × (v.reread.high ≤ w.reread.high) × (base + top ≤ w.reread.high)) → w.reread.high ≡ v.reread.high
      same_high (inl p) = p.0
      same_high (inr p) = absurd (omega (arith, p.0))

  over_less : (most : Option ℕ) (m n : ℕ) → m ≤ n → IsOver most m → IsOver most n
  over_less None m n l o = o
  over_less (Some k) m n l o = omega (arith, l, o)

  used_sum : (most : Option ℕ) (used n : ℕ) → used + n ≤ MAX → used_with most used n ≡ used + n
  used_sum None used n l = omega (arith, l)
  used_sum (Some k) used n l = refl

  still_known : (n : ℕ) (k : Bool) → 1 ≤ n → (if n == 0 then false else k) ≡ k
  still_known zero k l = absurd (omega (arith, l))
  still_known (suc n) k l = rw (eqb-suc-zero n) refl

  -- nothing but looks was in between
  quietly : {xs : List Event} {k base top u e : ℕ} {v w : SizeLimitedFmtAdapter S} → Sent (allows k ∷ xs) base top u e v w → Sent xs base top u e v w
  quietly h = record {
    same_sink = h.same_sink;
    not_failed = h.not_failed;
    ends_well = h.ends_well;
    fresh = h.fresh;
    open_ = h.open_;
    took = h.took;
    quiet = h.quiet;
    room = h.room;
    within = h.within;
    left = h.left;
    climbs = h.climbs;
    used = h.used;
    uses = h.uses;
    fits = h.fits;
    counts = h.counts;
    most = h.most;
    high = h.high;
    references = h.references;
    calm = h.calm;
    known = h.known;
    looked = h.looked;
  }

  -- with other numbers of bytes that are read again
  counted_again : (r : Reread) → SizeLimitedFmtAdapter S → SizeLimitedFmtAdapter S
  counted_again r v = record v { reread = r }

  used_itself : (most : Option ℕ) (used n : ℕ) → used_with most used n ≡ used_after most used n (used_with most used n)
  used_itself None used n = refl
  used_itself (Some k) used n = refl

  -- a reference was followed and counted
  abbrev once : Reread → (n high : ℕ) → Reread
  once r n high = record r { used = used_with r.most r.used n; high = high; references = min MAX (r.references + 1) }

  after_reference : (t : ℕ) (xs : List Event) (base top u e : ℕ) (v w : SizeLimitedFmtAdapter S) → Sent (refers t ∷ xs) base top u e v w
      → Follows v (length b - t + 1) (Ok tt) (record v { reread = once v.reread (length b - t + 1) w.reread.high }) × Sent xs base top (u + (length b - t + 1)) e (record v { reread = once v.reread (length b - t + 1) w.reread.high }) w
  after_reference t xs base top u e v w h =
      let n = length b - t + 1 in
      let step = h.climbs in
      let some : 0 < followed_in xs + 1 = omega arith in
      let sum : used_with v.reread.most v.reread.used n ≡ v.reread.used + n = used_sum v.reread.most v.reread.used n (omega (arith, h.used, h.counts some, step.0)) in
      let high = highest h.high in
      let same : used_with v.reread.most v.reread.used n ≡ used_after v.reread.most v.reread.used n (used_with v.reread.most v.reread.used n) = used_itself v.reread.most v.reread.used n in (
        (
          λ o. h.fits some (over_less v.reread.most (v.reread.used + n) (base + top) (omega (arith, h.used, step.0)) o),
          ap (λ (z : ℕ). record v { reread = record (once v.reread n w.reread.high) { used = z } }) same,
          inl (refl, omega (arith, sum, h.used, step.0, high.0, high.1), refl, refl),
        ),
        record {
          same_sink = h.same_sink;
          not_failed = h.not_failed;
          ends_well = h.ends_well;
          fresh = h.fresh;
          open_ = h.open_;
          took = h.took;
          quiet = h.quiet;
          room = h.room;
          within = h.within;
          left = h.left;
          climbs = step.1;
          used = omega (arith, sum, h.used);
          uses = h.uses;
          fits = λ _. h.fits some;
          counts = λ _. h.counts some;
          most = h.most;
          high = inl (refl, inr high.1);
          references = λ _. omega (arith, h.references some);
          calm = λ none. omega (arith, h.references some, none);
          known = h.known;
          looked = h.looked;
        },
      )
    where
      highest : ((w.reread.high ≡ v.reread.high) × ((followed_in xs + 1 ≡ 0) ⊎ (base + top ≤ w.reread.high))) ⊎ ((0 < followed_in xs + 1) × (v.reread.high ≤ w.reread.high) × (base + top ≤ w.reread.high)) → (v.reread.high ≤ w.reread.high) × (base + top ≤ w.reread.high)
      highest (inl (p, inl z)) = absurd (omega (arith, z))
      highest (inl (p, inr z)) = (omega (arith, p), z)
      highest (inr z) = (z.1, z.2)

  after_return : (p : Place) (xs : List Event) (base top u e : ℕ) (v w : SizeLimitedFmtAdapter S) → Sent (returns p ∷ xs) base top u e v w
      → GivesBack v (bytes_after (length b) p) (record v { reread = given_back v.reread (bytes_after (length b) p) }) × Sent xs base top (u - bytes_after (length b) p) e (record v { reread = given_back v.reread (bytes_after (length b) p) }) w
  after_return p xs base top u e v w h =
      let n = bytes_after (length b) p in
      let step = h.climbs in (
        refl,
        record {
          same_sink = h.same_sink;
          not_failed = h.not_failed;
          ends_well = h.ends_well;
          fresh = h.fresh;
          open_ = h.open_;
          took = h.took;
          quiet = h.quiet;
          room = h.room;
          within = h.within;
          left = h.left;
          climbs = step.2;
          used = omega (arith, h.used, step.1);
          uses = h.uses;
          fits = h.fits;
          counts = h.counts;
          most = h.most;
          high = h.high;
          references = h.references;
          calm = h.calm;
          known = h.known ∙ sym (still_known n v.reread.is_known step.0);
          looked = h.looked;
        },
      )

  abbrev pub NothingLaw : Type 0
  NothingLaw = (s : S) → sink.took s [] s

  one_piece : (v mid : SizeLimitedFmtAdapter S) (t : Text) → mid.out.ghost_name ≡ v.out.ghost_name → length t ≤ v.remaining → mid.remaining ≡ v.remaining - length t → mid.reread ≡ v.reread → mid.is_limit_reached ≡ false
      → sink.took v.out.now t mid.out.now → sink.failed mid.out.now ≡ false → sink.room mid.out.now ≡ room_after (length t) (sink.room v.out.now) → Prints sink v (t ∷ []) (Ok tt) mid
  one_piece v mid t name l left reread here took alive room =
      prints_put sink v t (Ok tt) mid name l left reread here (puts_put sink v.out.now t (Ok tt) mid.out.now took alive tt tt (λ f. (refl, room)))

  after_text : SplitLaw → NothingLaw → (t : Text) (xs : List Event) (base top u e : ℕ) (v w : SizeLimitedFmtAdapter S) → Sent (prints_text t ∷ xs) base top u e v w
      → (mid : SizeLimitedFmtAdapter S) × Prints sink v (t ∷ []) (Ok tt) mid × Sent xs base top u e mid w
  after_text law none t xs base top u e v w h = go (texts_in xs) refl
    where
      go : (ts : List Text) → texts_in xs ≡ ts → (mid : SizeLimitedFmtAdapter S) × Prints sink v (t ∷ []) (Ok tt) mid × Sent xs base top u e mid w
      go [] q =
          let empty : concat (texts_in xs) ≡ [] = ap concat q in
          let joined : t ++ concat (texts_in xs) ≡ t = ap (λ z. t ++ z) empty ∙ append-nil t in
          let mid : SizeLimitedFmtAdapter S = record v { out = record v.out { now = w.out.now }; remaining = v.remaining - length t; lookups_left = w.lookups_left } in
          let took : sink.took v.out.now t w.out.now = subst (λ z. sink.took v.out.now z w.out.now) joined h.took in
          let room : sink.room w.out.now ≡ room_after (length t) (sink.room v.out.now) = h.room ∙ ap (λ z. room_after (length z) (sink.room v.out.now)) joined in (
            mid,
            one_piece v mid t refl (omega (arith, h.within)) refl refl h.fresh took h.ends_well room,
            record {
              same_sink = h.same_sink;
              not_failed = h.ends_well;
              ends_well = h.ends_well;
              fresh = h.fresh;
              open_ = h.open_;
              took = subst (λ z. sink.took w.out.now z w.out.now) (sym empty) (none w.out.now);
              quiet = λ _. refl;
              room = sym (ap (λ z. room_after (length z) (sink.room w.out.now)) empty ∙ room-nothing (sink.room w.out.now));
              within = omega (arith, h.within);
              left = omega (arith, h.left);
              climbs = h.climbs;
              used = h.used;
              uses = h.uses;
              fits = h.fits;
              counts = h.counts;
              most = h.most;
              high = h.high;
              references = h.references;
              calm = h.calm;
              known = h.known;
              looked = λ _. refl;
            },
          )
      go (y ∷ ys) q =
          let split = law v.out.now w.out.now t (concat (texts_in xs)) h.not_failed h.took in
          let mid : SizeLimitedFmtAdapter S = record v { out = record v.out { now = split.0 }; remaining = v.remaining - length t; lookups_left = w.lookups_left } in (
            mid,
            one_piece v mid t refl (omega (arith, h.within)) refl refl h.fresh split.1 split.3 split.4,
            record {
              same_sink = h.same_sink;
              not_failed = split.3;
              ends_well = h.ends_well;
              fresh = h.fresh;
              open_ = h.open_;
              took = split.2;
              quiet = λ k. absurd (none_some (sym k ∙ q));
              room = h.room ∙ ap (λ z. room_after z (sink.room v.out.now)) (length-append t (concat (texts_in xs))) ∙ sym (room-both (length t) (length (concat (texts_in xs))) (sink.room v.out.now)) ∙ ap (room_after (length (concat (texts_in xs)))) (sym split.4);
              within = omega (arith, h.within);
              left = omega (arith, h.left);
              climbs = h.climbs;
              used = h.used;
              uses = h.uses;
              fits = h.fits;
              counts = h.counts;
              most = h.most;
              high = h.high;
              references = h.references;
              calm = h.calm;
              known = h.known;
              looked = λ _. refl;
            },
          )
        where
          none_some : {A : Type 0} {y : A} {ys : List A} → [] ≡ y ∷ ys → ⊥
          none_some k = cc

  -- the events happened again
  pub sent_emits : SplitLaw → NothingLaw → (xs : List Event) (base top u e : ℕ) (v w : SizeLimitedFmtAdapter S) → Sent xs base top u e v w → Emitted (printing sink b form) (actions_of xs) v w
  sent_emits law none [] base top u e v w h = nothing_left base top u e v w h
  sent_emits law none (prints_text t ∷ xs) base top u e v w h = let z = after_text law none t xs base top u e v w h in (z.0, z.1, sent_emits law none xs base top u e z.0 w z.2)
  sent_emits law none (allows k ∷ xs) base top u e v w h = sent_emits law none xs base top u e v w (quietly h)
  sent_emits law none (refers t ∷ xs) base top u e v w h =
      let z = after_reference t xs base top u e v w h in
      (record v { reread = once v.reread (length b - t + 1) w.reread.high }, z.0, sent_emits law none xs base top (u + (length b - t + 1)) e (record v { reread = once v.reread (length b - t + 1) w.reread.high }) w z.1)
  sent_emits law none (returns p ∷ xs) base top u e v w h =
      let z = after_return p xs base top u e v w h in
      (record v { reread = given_back v.reread (bytes_after (length b) p) }, z.0, sent_emits law none xs base top (u - bytes_after (length b) p) e (record v { reread = given_back v.reread (bytes_after (length b) p) }) w z.1)
