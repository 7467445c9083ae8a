-- One piece that is put into a sink, and lists of pieces in sequence.
use Rattle.std.proofs.Common.{◌≡◌, ℕ, ◌+◌, List, [], ◌∷◌, ◌++◌, length, Option, None, Some, true, false, Result, Ok, Err, IsOk, IsErr, OnOk, OnErr, refl, sym, ap, ◌∙◌, subst, arith}
use Rattle.std.specs.List.{concat, FoldsTo}
use Rattle.std.proofs.lemmas.List.{append_assoc, append-nil}
use Rattle.std.proofs.lemmas.Bool.{false≢true, true≢false}
use Rattle.demangle_sink.specs.declared.TextSink.{Ghosts}
use Rattle.demangle_sink.specs.declared.SinkRefused.{SinkRefused}
use Rattle.demangle_sink.specs.Sink.{IsWithin, room_after}
use Rattle.demangle_sink.specs.Cut.{size}
use Rattle.demangle_sink.specs.PutsPieces.{FitsRoom, PutsPieces, HoldsPrefix}
use Rattle.demangle_sink.proofs.CutLemmas.{size-append}

fits-first : (a b : ℕ) (r : Option ℕ) → IsWithin (a + b) r → IsWithin a r
fits-first a b None f = tt
fits-first a b (Some r) f = omega (arith, f)

fits-second : (a b : ℕ) (r : Option ℕ) → IsWithin (a + b) r → IsWithin b (room_after a r)
fits-second a b None f = tt
fits-second a b (Some r) f = omega (arith, f)

pub room-both : (a b : ℕ) (r : Option ℕ) → room_after b (room_after a r) ≡ room_after (a + b) r
room-both a b None = refl
room-both a b (Some r) = ap Some (omega arith)

pub room-nothing : (r : Option ℕ) → room_after 0 r ≡ r
room-nothing None = refl
room-nothing (Some r) = ap Some (omega arith)

size-one : (s : List ℕ) → size (s ∷ []) ≡ length s
size-one s = omega arith

-- steps over one list, and then over another
folds-append : {S : Type 0} (took : S → List ℕ → S → Type 0) (xs ys : List (List ℕ)) (s t u : S) → FoldsTo took s xs t → FoldsTo took t ys u → FoldsTo took s (xs ++ ys) u
folds-append took [] ys s t u h k = subst (λ v. FoldsTo took v ys u) (sym h) k
folds-append took (x ∷ xs) ys s t u h k = (h.0, h.1, folds-append took xs ys h.0 t u h.2 k)

-- steps over the pieces take their joined bytes
pub folds-took : {S : Type 0} (took : S → List ℕ → S → Type 0)
    → ((s : S) → took s [] s)
    → ((s t u : S) (ps qs : List ℕ) → took s ps t → took t qs u → took s (ps ++ qs) u)
    → (xs : List (List ℕ)) (s t : S) → FoldsTo took s xs t → took s (concat xs) t
folds-took took nothing joined [] s t h = subst (took s []) h (nothing s)
folds-took took nothing joined (x ∷ xs) s t h = joined s h.0 t x (concat xs) h.1 (folds-took took nothing joined xs h.0 t h.2)

pub puts_nothing : {S : Type 0} (sink : Ghosts S) (s : S) → sink.failed s ≡ false → PutsPieces sink s [] (Ok tt) s
puts_nothing sink s not_failed = record {
  all = λ _. record { took = refl; not_failed = not_failed };
  refused = λ e. absurd (false≢true e);
  fits = λ _. record { not_failed = not_failed; room = sym (room-nothing (sink.room s)) };
}

-- by the contract of `put`
pub puts_put : {S : Type 0} (sink : Ghosts S) (old : S) (s : List ℕ) (result : Result (Unit {0}) SinkRefused) (new : S)
    → OnOk result (sink.took old s new)
    → OnOk result (sink.failed new ≡ false)
    → OnErr result (sink.failed new ≡ true)
    → OnErr result (sink.keeps ≡ true → sink.took old [] new × (sink.room new ≡ sink.room old))
    → (IsWithin (length s) (sink.room old) → IsOk result × (sink.room new ≡ room_after (length s) (sink.room old)))
    → PutsPieces sink old (s ∷ []) result new
puts_put sink old s (Ok u) new taken not_failed failed kept fits = record {
  all = λ _. record { took = (new, taken, refl); not_failed = not_failed };
  refused = λ e. absurd (false≢true e);
  fits = λ f.
      let g : IsWithin (length s) (sink.room old) = subst (λ n. IsWithin n (sink.room old)) (size-one s) f in
      record { not_failed = not_failed; room = rw (size-one s) (fits g).1 };
}
puts_put sink old s (Err u) new taken not_failed failed kept fits = record {
  all = λ e. absurd (false≢true e);
  refused = λ _. record {
    failed = failed;
    kept = λ k. record {
      prefix = [];
      next = s;
      rest = [];
      at = old;
      whole = refl;
      took = refl;
      kept = (kept k).0;
      longer = λ f. absurd (false≢true (fits (subst (λ r. IsWithin (length s) r) (kept k).1 f)).0);
    };
  };
  fits = λ f.
      let g : IsWithin (length s) (sink.room old) = subst (λ n. IsWithin n (sink.room old)) (size-one s) f in
      absurd (false≢true (fits g).0);
}

-- if the first list was taken, the second follows it
pub puts_then : {S : Type 0} (sink : Ghosts S) (old mid new : S) (xs ys : List (List ℕ)) (r result : Result (Unit {0}) SinkRefused)
    → PutsPieces sink old xs r mid → IsOk r
    → PutsPieces sink mid ys result new
    → PutsPieces sink old (xs ++ ys) result new
puts_then sink old mid new xs ys r result first ok second = record {
  all = λ e. let t = second.all e in record { took = folds-append sink.took xs ys _ _ _ (first.all ok).took t.took; not_failed = t.not_failed };
  refused = λ e. record {
    failed = (second.refused e).failed;
    kept = λ k. let s = (second.refused e).kept k in record {
      prefix = xs ++ s.prefix;
      next = s.next;
      rest = s.rest;
      at = s.at;
      whole = ap (λ zs. xs ++ zs) s.whole ∙ sym (append_assoc xs s.prefix (s.next ∷ s.rest));
      took = folds-append sink.took xs s.prefix _ _ _ (first.all ok).took s.took;
      kept = s.kept;
      longer = s.longer;
    };
  };
  fits = λ f.
      let room : Option ℕ = sink.room old in
      let g : IsWithin (size xs + size ys) room = subst (λ n. IsWithin n room) (size-append xs ys) f in
      let one : FitsRoom sink old xs mid = first.fits (fits-first _ _ _ g) in
      let f2 : IsWithin (size ys) (sink.room mid) = subst (IsWithin (size ys)) (sym one.room) (fits-second _ _ _ g) in
      let two : FitsRoom sink mid ys new = second.fits f2 in
      record { not_failed = two.not_failed; room = two.room ∙ (ap (room_after (size ys)) one.room ∙ (room-both (size xs) (size ys) room ∙ ap (λ n. room_after n room) (sym (size-append xs ys)))) };
}

-- if the sink rejected a piece of the first list, it gets no piece of the second
pub puts_stop : {S : Type 0} (sink : Ghosts S) (old new : S) (xs ys : List (List ℕ)) (r result : Result (Unit {0}) SinkRefused)
    → PutsPieces sink old xs r new → IsErr r → IsErr result
    → PutsPieces sink old (xs ++ ys) result new
puts_stop sink old new xs ys r (Ok u) p err err' = absurd (false≢true err')
puts_stop sink old new xs ys r (Err u) p err err' = record {
  all = λ e. absurd (false≢true e);
  refused = λ _. record {
    failed = (p.refused err).failed;
    kept = λ k. let s = (p.refused err).kept k in record {
      prefix = s.prefix;
      next = s.next;
      rest = s.rest ++ ys;
      at = s.at;
      whole = ap (λ zs. zs ++ ys) s.whole ∙ append_assoc s.prefix (s.next ∷ s.rest) ys;
      took = s.took;
      kept = s.kept;
      longer = s.longer;
    };
  };
  fits = λ f.
      let room : Option ℕ = sink.room old in
      let one : FitsRoom sink old xs new = p.fits (fits-first _ _ _ (subst (λ n. IsWithin n room) (size-append xs ys) f)) in
      absurd (true≢false (sym (p.refused err).failed ∙ one.not_failed));
}

-- an `Ok` says that the bytes were taken
pub puts_text : {S : Type 0} (sink : Ghosts S) (old new : S) (list : List (List ℕ)) (result : Result (Unit {0}) SinkRefused)
    → ((s : S) → sink.took s [] s)
    → ((s t u : S) (ps qs : List ℕ) → sink.took s ps t → sink.took t qs u → sink.took s (ps ++ qs) u)
    → PutsPieces sink old list result new → OnOk result (sink.took old (concat list) new)
puts_text sink old new list (Ok u) nothing joined h = folds-took sink.took nothing joined list old new (h.all refl).took
puts_text sink old new list (Err e) nothing joined h = tt

-- a list within the room is taken
pub puts_fits : {S : Type 0} (sink : Ghosts S) (old new : S) (list : List (List ℕ)) (result : Result (Unit {0}) SinkRefused)
    → PutsPieces sink old list result new → IsWithin (size list) (sink.room old) → IsOk result
puts_fits sink old new list (Ok u) h f = refl
puts_fits sink old new list (Err e) h f = absurd (true≢false (sym (h.refused refl).failed ∙ (h.fits f).not_failed))

-- after an `Err`, a sink that keeps has taken a prefix
pub puts_kept : {S : Type 0} (sink : Ghosts S) (old new : S) (list : List (List ℕ)) (result : Result (Unit {0}) SinkRefused)
    → ((s : S) → sink.took s [] s)
    → ((s t u : S) (ps qs : List ℕ) → sink.took s ps t → sink.took t qs u → sink.took s (ps ++ qs) u)
    → PutsPieces sink old list result new → OnErr result (sink.keeps ≡ true → HoldsPrefix sink old list new)
puts_kept sink old new list (Ok u) nothing joined h = tt
puts_kept sink old new list (Err e) nothing joined h = λ k. let s = (h.refused refl).kept k in record {
  prefix = s.prefix;
  next = s.next;
  rest = s.rest;
  whole = s.whole;
  longer = s.longer;
  took = subst (λ bs. sink.took old bs new) (append-nil (concat s.prefix)) (joined old s.at new (concat s.prefix) [] (folds-took sink.took nothing joined s.prefix old s.at s.took) s.kept);
}

pub puts_failed : {S : Type 0} (sink : Ghosts S) (old new : S) (list : List (List ℕ)) (result : Result (Unit {0}) SinkRefused)
    → PutsPieces sink old list result new → OnErr result (sink.failed new ≡ true)
puts_failed sink old new list (Ok u) h = tt
puts_failed sink old new list (Err e) h = (h.refused refl).failed
