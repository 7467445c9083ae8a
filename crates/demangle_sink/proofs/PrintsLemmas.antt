-- One piece printed under a limit, and lists of pieces in sequence.
use Rattle.std.proofs.Common.{◌≡◌, ℕ, ◌-◌, ◌≤◌, ◌<◌, List, [], ◌∷◌, ◌++◌, length, Bool, true, false, Result, Ok, Err, IsOk, IsErr, refl, sym, ap, ◌∙◌, arith, inl, inr}
use Rattle.std.proofs.lemmas.Bool.{false≢true, true≢false, le-leb}
use Rattle.std.proofs.lemmas.Bool.Decides.{leb_tells}
use Rattle.demangle_sink.specs.declared.TextSink.{Ghosts}
use Rattle.demangle_sink.specs.declared.SinkRefused.{SinkRefused}
use Rattle.demangle_sink.specs.declared.limit.Reread.{Reread}
use Rattle.demangle_sink.specs.declared.limit.SizeLimitedFmtAdapter.{SizeLimitedFmtAdapter}
use Rattle.demangle_sink.specs.Cut.{size, prefix_within, cut, cut_up_to, marker}
use Rattle.demangle_sink.specs.PutsPieces.{PutsPieces}
use Rattle.demangle_sink.specs.Limit.{Ready, Prints, Follows, PrintsUpTo, sink_result}
use Rattle.demangle_sink.proofs.CutLemmas.{size-append, fitting-all, fitting-append, fitting-stop, fitting-more}
use Rattle.demangle_sink.proofs.PutsPiecesLemmas.{puts_nothing, puts_then, puts_stop}

-- for a piece within the limit, the sink determines the result
pub prints_put : {S : Type 0} (sink : Ghosts S) (old : SizeLimitedFmtAdapter S) (s : List ℕ) (result : Result (Unit {0}) SinkRefused) (new : SizeLimitedFmtAdapter S)
    → new.out.ghost_name ≡ old.out.ghost_name
    → length s ≤ old.remaining
    → new.remaining ≡ old.remaining - length s
    → new.reread ≡ old.reread
    → new.is_limit_reached ≡ false
    → PutsPieces sink old.out.now (s ∷ []) result new.out.now
    → Prints sink old (s ∷ []) result new
prints_put sink old s result new same h left reread here hands =
    let fit : prefix_within (s ∷ []) old.remaining ≡ s ∷ [] = fitting-all (s ∷ []) old.remaining (omega arith) in
    record {
      same_sink = same;
      reread = reread;
      open_ = λ _. here;
      within = λ _. omega arith;
      left = λ _. omega arith;
      past = λ e. absurd (true≢false (sym e ∙ here));
      hands = rw (fit, here) hands;
    }

-- after an Ok the next piece may be put
pub prints_ready : {S : Type 0} (sink : Ghosts S) (old : SizeLimitedFmtAdapter S) (xs : List (List ℕ)) (r : Result (Unit {0}) SinkRefused) (new : SizeLimitedFmtAdapter S)
    → Prints sink old xs r new → IsOk r → Ready sink new
prints_ready sink old xs r new p ok =
    let here : new.is_limit_reached ≡ false = p.open_ ok in
    let h : PutsPieces sink old.out.now (prefix_within xs old.remaining) r new.out.now = rw here at p.hands in
    record { not_failed = (h.all ok).not_failed; fresh = here }

pub prints_nothing : {S : Type 0} (sink : Ghosts S) (out : SizeLimitedFmtAdapter S) → Ready sink out → Prints sink out [] (Ok tt) out
prints_nothing sink out h = record {
  same_sink = refl;
  reread = refl;
  open_ = λ _. h.fresh;
  within = λ _. omega arith;
  left = λ _. omega arith;
  past = λ e. absurd (true≢false (sym e ∙ h.fresh));
  hands = rw h.fresh (puts_nothing sink out.out.now h.not_failed);
}

-- if the first list was taken, the second follows it
pub prints_then : {S : Type 0} (sink : Ghosts S) (old mid new : SizeLimitedFmtAdapter S) (xs ys : List (List ℕ)) (r result : Result (Unit {0}) SinkRefused)
    → Prints sink old xs r mid → IsOk r
    → Prints sink mid ys result new
    → Prints sink old (xs ++ ys) result new
prints_then sink old mid new xs ys r result first ok second =
    let here : size xs ≤ old.remaining = first.within ok in
    let left : mid.remaining ≡ old.remaining - size xs = first.left ok in
    let fit : prefix_within (xs ++ ys) old.remaining ≡ xs ++ prefix_within ys mid.remaining = fitting-append xs ys old.remaining here ∙ ap (λ n. xs ++ prefix_within ys n) (sym left) in
    let h : PutsPieces sink old.out.now (prefix_within xs old.remaining) r mid.out.now = rw (first.open_ ok) at first.hands in
    let h' : PutsPieces sink old.out.now xs r mid.out.now = rw (fitting-all xs old.remaining here) at h in
    record {
      same_sink = second.same_sink ∙ first.same_sink;
      reread = second.reread ∙ first.reread;
      open_ = second.open_;
      within = λ e. let w : size ys ≤ mid.remaining = second.within e in omega (arith, size-append xs ys);
      left = λ e. let w : size ys ≤ mid.remaining = second.within e in let v : new.remaining ≡ mid.remaining - size ys = second.left e in omega (arith, size-append xs ys);
      past = λ e. let w : mid.remaining < size ys = second.past e in omega (arith, size-append xs ys);
      hands = rw fit (puts_then sink _ _ _ xs _ r _ h' ok second.hands);
    }

-- if the first list was not completely taken, nothing of the second is
pub prints_stop : {S : Type 0} (sink : Ghosts S) (old new : SizeLimitedFmtAdapter S) (xs ys : List (List ℕ)) (r result : Result (Unit {0}) SinkRefused)
    → Prints sink old xs r new → IsErr r → IsErr result
    → Prints sink old (xs ++ ys) result new
prints_stop sink old new xs ys r (Ok u) p err err' = absurd (false≢true err')
prints_stop sink old new xs ys r (Err u) p err err' = record {
  same_sink = p.same_sink;
  reread = p.reread;
  open_ = λ e. absurd (false≢true e);
  within = λ e. absurd (false≢true e);
  left = λ e. absurd (false≢true e);
  past = λ e. let w : old.remaining < size xs = p.past e in omega (arith, size-append xs ys);
  hands = split new.is_limit_reached refl;
} where
  split : (b : Bool) → new.is_limit_reached ≡ b → PutsPieces sink old.out.now (prefix_within (xs ++ ys) old.remaining) (sink_result new.is_limit_reached (Err u)) new.out.now
  split true e =
      let h : PutsPieces sink old.out.now (prefix_within xs old.remaining) (Ok tt) new.out.now = rw e at p.hands in
      rw (fitting-stop xs ys old.remaining (p.past e), e) h
  split false e =
      let h : PutsPieces sink old.out.now (prefix_within xs old.remaining) r new.out.now = rw e at p.hands in
      let more = fitting-more xs ys old.remaining in
      rw (more.1, e) (puts_stop sink _ _ _ more.0 r (Err u) h err refl)

-- the same for any number of bytes that may be read again
pub prints_anyway : {S : Type 0} (sink : Ghosts S) (old new : SizeLimitedFmtAdapter S) (xs : List (List ℕ)) (r : Result (Unit {0}) SinkRefused) (k : Reread)
    → Prints sink old xs r new → Prints sink (record old { reread = k }) xs r (record new { reread = k })
prints_anyway sink old new xs r k p = record { same_sink = p.same_sink; reread = refl; open_ = p.open_; within = p.within; left = p.left; past = p.past; hands = p.hands }

-- a text for which no reference is followed
pub prints_whole : {S : Type 0} (sink : Ghosts S) (old new : SizeLimitedFmtAdapter S) (xs : List (List ℕ)) (r : Result (Unit {0}) SinkRefused)
    → Prints sink old xs r new → PrintsUpTo sink old xs true r new
prints_whole sink old new xs r p = prints_anyway sink old new xs r old.reread p

-- after these pieces a reference may not be followed
pub prints_short : {S : Type 0} (sink : Ghosts S) (old mid new : SizeLimitedFmtAdapter S) (xs : List (List ℕ)) (n : ℕ) (e : SinkRefused)
    → Prints sink old xs (Ok tt) (record mid { reread = old.reread }) → Follows mid n (Err e) new → (result : Result (Unit {0}) SinkRefused) → IsErr result
    → PrintsUpTo sink old xs false result new
prints_short sink old mid new xs n e p f result err = rw f.1 (record {
  same_sink = p.same_sink;
  refused = err;
  hands = let here : mid.is_limit_reached ≡ false = p.open_ refl in rw here at p.hands;
})

-- a piece was rejected, so nothing after it was put, nor was a reference followed
pub prints_rejected : {S : Type 0} (sink : Ghosts S) (old new : SizeLimitedFmtAdapter S) (xs ys : List (List ℕ)) (is_whole : Bool) (r result : Result (Unit {0}) SinkRefused)
    → Prints sink old xs r (record new { reread = old.reread }) → IsErr r → IsErr result
    → PrintsUpTo sink old (xs ++ ys) is_whole result new
prints_rejected sink old new xs ys true r result p err err' = prints_stop sink old (record new { reread = old.reread }) xs ys r result p err err'
prints_rejected sink old new xs ys false r result p err err' =
    let all = prints_stop sink old (record new { reread = old.reread }) xs ys r result p err err' in
    record { same_sink = all.same_sink; refused = err'; hands = all.hands }

pub cut-past : (xs : List (List ℕ)) (l : ℕ) → l < size xs → cut xs l ≡ prefix_within xs l ++ marker ∷ []
cut-past xs l h = elim (leb_tells (size xs) l) [ inl e ↦ let le : size xs ≤ l = e.1 in absurd (omega arith) | inr e ↦ rw e.0 refl ]

pub cut-within : (xs : List (List ℕ)) (l : ℕ) → size xs ≤ l → cut xs l ≡ xs
cut-within xs l h = rw (le-leb _ _ h) refl

-- if the limit was reached, the marker follows
pub prints_cut_over : {S : Type 0} (sink : Ghosts S) (old new : SizeLimitedFmtAdapter S) (start mid after : S) (limit : ℕ) (xs : List (List ℕ)) (r result : Result (Unit {0}) SinkRefused)
    → old.out.now ≡ start → old.remaining ≡ limit
    → Prints sink old xs r new → new.is_limit_reached ≡ true → mid ≡ new.out.now
    → PutsPieces sink mid (marker ∷ []) result after
    → PutsPieces sink start (cut xs limit) result after
prints_cut_over sink old new start mid after limit xs r result at lim p over same hands =
    let past : limit < size xs = let q : old.remaining < size xs = p.past over in omega arith in
    let h : PutsPieces sink old.out.now (prefix_within xs old.remaining) (Ok tt) new.out.now = rw over at p.hands in
    let h' : PutsPieces sink start (prefix_within xs limit) (Ok tt) mid = rw (same, ← at, ← lim) h in
    rw (cut-past xs limit past) (puts_then sink _ _ _ _ _ (Ok tt) _ h' refl hands)

-- if it was not reached, nothing follows
pub prints_cut_all : {S : Type 0} (sink : Ghosts S) (old new : SizeLimitedFmtAdapter S) (start after : S) (limit : ℕ) (xs : List (List ℕ)) (r : Result (Unit {0}) SinkRefused)
    → old.out.now ≡ start → old.remaining ≡ limit
    → Prints sink old xs r new → new.is_limit_reached ≡ false → after ≡ new.out.now
    → PutsPieces sink start (cut xs limit) r after
prints_cut_all sink old new start after limit xs r at lim p over same =
    let h : PutsPieces sink old.out.now (prefix_within xs old.remaining) r new.out.now = rw over at p.hands in
    let h' : PutsPieces sink start (prefix_within xs limit) r after = rw (same, ← at, ← lim) h in
    go r p h'
  where
    go : (r : Result (Unit {0}) SinkRefused) → Prints sink old xs r new → PutsPieces sink start (prefix_within xs limit) r after → PutsPieces sink start (cut xs limit) r after
    go (Ok u) p h = let q : size xs ≤ old.remaining = p.within refl in let within : size xs ≤ limit = omega arith in rw (cut-within xs limit within) (rw (fitting-all xs limit within) at h)
    go (Err u) p h = elim (leb_tells (size xs) limit) [
      | inl e ↦ rw (cut-within xs limit e.1) (rw (fitting-all xs limit e.1) at h)
      | inr e ↦ rw (cut-past xs limit e.1) (puts_stop sink _ _ _ (marker ∷ []) (Err u) (Err u) h refl refl)
    ]

-- The same for a text up to a limit of what is read again.

pub cut_over : {S : Type 0} (sink : Ghosts S) (old new : SizeLimitedFmtAdapter S) (start mid after : S) (limit : ℕ) (xs : List (List ℕ)) (is_whole : Bool) (r result : Result (Unit {0}) SinkRefused)
    → old.out.now ≡ start → old.remaining ≡ limit
    → PrintsUpTo sink old xs is_whole r new → new.is_limit_reached ≡ true → mid ≡ new.out.now
    → PutsPieces sink mid (marker ∷ []) result after
    → PutsPieces sink start (cut_up_to xs is_whole limit) result after
cut_over sink old new start mid after limit xs true r result at lim p over same hands = prints_cut_over sink old (record new { reread = old.reread }) start mid after limit xs r result at lim p over same hands
cut_over sink old new start mid after limit xs false r result at lim p over same hands =
    let h : PutsPieces sink old.out.now (prefix_within xs old.remaining) (Ok tt) new.out.now = rw over at p.hands in
    let h' : PutsPieces sink start (prefix_within xs limit) (Ok tt) mid = rw (same, ← at, ← lim) h in
    puts_then sink _ _ _ _ _ (Ok tt) _ h' refl hands

pub cut_all : {S : Type 0} (sink : Ghosts S) (old new : SizeLimitedFmtAdapter S) (start after : S) (limit : ℕ) (xs : List (List ℕ)) (is_whole : Bool) (r : Result (Unit {0}) SinkRefused)
    → old.out.now ≡ start → old.remaining ≡ limit
    → PrintsUpTo sink old xs is_whole r new → new.is_limit_reached ≡ false → after ≡ new.out.now
    → PutsPieces sink start (cut_up_to xs is_whole limit) r after
cut_all sink old new start after limit xs true r at lim p over same = prints_cut_all sink old (record new { reread = old.reread }) start after limit xs r at lim p over same
cut_all sink old new start after limit xs false (Ok u) at lim p over same = absurd (false≢true p.refused)
cut_all sink old new start after limit xs false (Err u) at lim p over same =
    let h : PutsPieces sink old.out.now (prefix_within xs old.remaining) (Err u) new.out.now = rw over at p.hands in
    let h' : PutsPieces sink start (prefix_within xs limit) (Err u) after = rw (same, ← at, ← lim) h in
    puts_stop sink _ _ _ (marker ∷ []) (Err u) (Err u) h' refl refl
