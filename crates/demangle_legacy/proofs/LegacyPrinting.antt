-- The pieces of a legacy symbol, an element at a time.
use Rattle.std.proofs.Common.{◌≡◌, ℕ, ◌+◌, ◌<◌, ◌⊎◌, inl, inr, Bool, true, false, cond, not, ◌&&◌, List, [], ◌∷◌, ◌++◌, length, drop, slice_range, Some, None, Ok, refl, sym, ap, ◌∙◌, arith, subst, eqb, IsSome}
use Rattle.std.specs.Prelude.{codes}
use Rattle.std.proofs.lemmas.Bool.Decides.{nat_tests}
use Rattle.std.proofs.lemmas.List.{at_drop_more}
use Rattle.std.proofs.lemmas.Bool.{false≢true}
use Rattle.std.proofs.lemmas.Option.{get_or_from_slice_get}
use Rattle.demangle_symbol.specs.Digits.{is_byte}
use Rattle.demangle_legacy.specs.Legacy.{element_of, parts_of, elements_of, after_E, suffix_of}
use Rattle.demangle_legacy.specs.Unescaped.{unescaped, is_hash, printed_elements, joined_pieces, following_pieces}
use Rattle.demangle_symbol.proofs.Digits.{is_byte_there, is_byte_within}
use Rattle.demangle_symbol.proofs.Options.{option_cases}
use Rattle.demangle_sink.specs.declared.TextSink.{Ghosts}
use Rattle.demangle_sink.specs.declared.limit.SizeLimitedFmtAdapter.{SizeLimitedFmtAdapter}
use Rattle.demangle_sink.specs.Limit.{Prints}
use Rattle.demangle_sink.specs.Limit.{PrintedPrefix}
use Rattle.demangle_sink.proofs.Printed.{printed_left, printed_then}
use Rattle.demangle_legacy.proofs.LegacyElements.{parts_end, parts_more, parts_E, no_byte_E, after_more}

shown_more : (hash : Bool) (e : List ℕ) (es : List (List ℕ)) → ((not hash && is_hash e) ≡ false) ⊎ (0 < length es) → printed_elements hash (e ∷ es) ≡ e ∷ printed_elements hash es
unfolding printed_elements
shown_more hash e [] (inl h) = ap (λ b. cond b [] (e ∷ [])) h
shown_more hash e [] (inr h) = absurd (omega arith)
shown_more hash e (f ∷ es) h = refl

shown_less : (hash : Bool) (e : List ℕ) → hash ≡ false → is_hash e ≡ true → printed_elements hash (e ∷ []) ≡ []
unfolding printed_elements
shown_less true e h k = cc
shown_less false e h k = ap (λ b. cond b [] (e ∷ [])) k

-- the pieces of the elements that are left at a place of the symbol, with `::` before them except at place 0
abbrev pub left_pieces : Bool → ℕ → List (List ℕ) → List (List ℕ)
left_pieces hash at left = cond (eqb at 0) (joined_pieces (printed_elements hash left)) (following_pieces (printed_elements hash left))

-- the elements from a place

pub elements_more : (s : List ℕ) (at from to : ℕ) → element_of (drop at s) ≡ Some (slice_range s from to, drop to s) → elements_of (drop at s) ≡ slice_range s from to ∷ elements_of (drop to s)
elements_more s at from to h = ap (λ (r : List (List ℕ) × List ℕ). r.0) (parts_more (drop at s) (slice_range s from to, drop to s) h)

pub elements_end : (s : List ℕ) (at : ℕ) → element_of (drop at s) ≡ None → elements_of (drop at s) ≡ []
elements_end s at h = ap (λ (r : List (List ℕ) × List ℕ). r.0) (parts_end (drop at s) h)

-- an `E` follows the last element
pub elements_E : (s : List ℕ) (to : ℕ) → is_byte s to 69 ≡ true → elements_of (drop to s) ≡ []
elements_E s to h =
    let is = get_or_from_slice_get s to 69 0 (is_byte_there s to 69 h) in
    at_drop_more elements_of s to 0 (is_byte_within s to 69 h) ∙ ap (λ c. elements_of (c ∷ drop (to + 1) s)) is ∙ ap (λ (r : List (List ℕ) × List ℕ). r.0) (parts_E (drop (to + 1) s))

pub none_there : IsSome {T = List ℕ} None → ⊥
none_there h = false≢true h

-- and no other byte follows it
pub elements_left : (s : List ℕ) (to : ℕ) → IsSome (suffix_of s) → (parts_of s).1 ≡ (parts_of (drop to s)).1 → is_byte s to 69 ≡ false → 0 < length (elements_of (drop to s))
elements_left s to some same h = elim (option_cases (element_of (drop to s))) [
  | inl e ↦
      let none : suffix_of s ≡ None = ap after_E (same ∙ ap (λ (r : List (List ℕ) × List ℕ). r.1) (parts_end (drop to s) e)) ∙ no_byte_E s to h in
      absurd (none_there (subst (λ o. IsSome o) none some))
  | inr e ↦ omega (arith, ap (λ (r : List (List ℕ) × List ℕ). length r.0) (parts_more (drop to s) e.0 e.1))
]

-- one more element

pub left_first : (hash : Bool) (at : ℕ) (e : List ℕ) (es : List (List ℕ)) → ((not hash && is_hash e) ≡ false) ⊎ (0 < length es) → at ≡ 0 → left_pieces hash at (e ∷ es) ≡ unescaped e ++ following_pieces (printed_elements hash es)
left_first hash at e es keeps first =
    let t : eqb at 0 ≡ true = grind (arith, nat_tests) in
    ap (λ b. cond b (joined_pieces (printed_elements hash (e ∷ es))) (following_pieces (printed_elements hash (e ∷ es)))) t ∙ ap joined_pieces (shown_more hash e es keeps)

pub left_next : (hash : Bool) (at : ℕ) (e : List ℕ) (es : List (List ℕ)) → ((not hash && is_hash e) ≡ false) ⊎ (0 < length es) → 0 < at → left_pieces hash at (e ∷ es) ≡ (codes "::" ∷ []) ++ (unescaped e ++ following_pieces (printed_elements hash es))
left_next hash at e es keeps later =
    let t : eqb at 0 ≡ false = grind (arith, nat_tests) in
    ap (λ b. cond b (joined_pieces (printed_elements hash (e ∷ es))) (following_pieces (printed_elements hash (e ∷ es)))) t ∙ ap following_pieces (shown_more hash e es keeps)

pub left_after : (hash : Bool) (at : ℕ) (es : List (List ℕ)) → 0 < at → following_pieces (printed_elements hash es) ≡ left_pieces hash at es
left_after hash at es later =
    let t : eqb at 0 ≡ false = grind (arith, nat_tests) in
    ap (λ b. cond b (joined_pieces (printed_elements hash es)) (following_pieces (printed_elements hash es))) (sym t)

nothing : (at : ℕ) → cond {A = List (List ℕ)} (eqb at 0) [] [] ≡ []
nothing at = both (eqb at 0) where
  both : (b : Bool) → cond {A = List (List ℕ)} b [] [] ≡ []
  both true = refl
  both false = refl

pub left_none : (hash : Bool) (at : ℕ) (es : List (List ℕ)) → es ≡ [] → left_pieces hash at es ≡ []
unfolding printed_elements
left_none hash at es e = ap (left_pieces hash at) e ∙ nothing at

-- the hash is omitted
pub left_hash : (hash : Bool) (at : ℕ) (e : List ℕ) (es : List (List ℕ)) → hash ≡ false → is_hash e ≡ true → es ≡ [] → left_pieces hash at (e ∷ es) ≡ []
left_hash hash at e es off h last =
    ap (λ t. left_pieces hash at (e ∷ t)) last
    ∙ ap (λ t. cond (eqb at 0) (joined_pieces t) (following_pieces t)) (shown_less hash e off h)
    ∙ nothing at

kept : (hash : Bool) (last h : Bool) (n : ℕ) → (not hash && (last && h)) ≡ false → (last ≡ false → 0 < n) → ((not hash && h) ≡ false) ⊎ (0 < n)
kept true last h n e left = inl refl
kept false true h n e left = inl e
kept false false h n e left = inr (left refl)

-- an iteration of the printing: the element at a place of the symbol is printed
module _ (s : List ℕ) (hash : Bool) (at from to : ℕ) (legacy : IsSome (suffix_of s)) (same : (parts_of s).1 ≡ (parts_of (drop at s)).1) (element : element_of (drop at s) ≡ Some (slice_range s from to, drop to s)) where
  pub same_after : (parts_of s).1 ≡ (parts_of (drop to s)).1
  same_after = same ∙ after_more s at from to element

  module _ (shown_too : (not hash && (is_byte s to 69 && is_hash (slice_range s from to))) ≡ false) where
    keeps : ((not hash && is_hash (slice_range s from to)) ≡ false) ⊎ (0 < length (elements_of (drop to s)))
    keeps = kept hash (is_byte s to 69) (is_hash (slice_range s from to)) (length (elements_of (drop to s))) shown_too (elements_left s to legacy same_after)

    pub turn_first : at ≡ 0 → left_pieces hash at (elements_of (drop at s)) ≡ unescaped (slice_range s from to) ++ following_pieces (printed_elements hash (elements_of (drop to s)))
    turn_first first = ap (left_pieces hash at) (elements_more s at from to element) ∙ left_first hash at (slice_range s from to) (elements_of (drop to s)) keeps first

    pub turn_next : 0 < at → left_pieces hash at (elements_of (drop at s)) ≡ (codes "::" ∷ []) ++ (unescaped (slice_range s from to) ++ following_pieces (printed_elements hash (elements_of (drop to s))))
    turn_next later = ap (left_pieces hash at) (elements_more s at from to element) ∙ left_next hash at (slice_range s from to) (elements_of (drop to s)) keeps later

    -- `::` was printed if other elements precede it, and the pieces of the element are left
    pub turn_begun : {S : Type 0} (sink : Ghosts S) (old mid new : SizeLimitedFmtAdapter S) (whole : List (List ℕ))
        → PrintedPrefix sink old whole (left_pieces hash at (elements_of (drop at s))) mid
        → ((0 < at) × Prints sink mid (codes "::" ∷ []) (Ok tt) new) ⊎ ((at ≡ 0) × (new ≡ mid))
        → PrintedPrefix sink old whole (unescaped (slice_range s from to) ++ following_pieces (printed_elements hash (elements_of (drop to s)))) new
    turn_begun sink old mid new whole p (inl (later, put)) = printed_then sink old mid new whole _ _ _ p (turn_next later) put
    turn_begun sink old mid new whole p (inr (first, none)) = rw none (printed_left sink old mid whole _ _ p (turn_first first))

  -- the element is omitted
  pub turn_hash : (not hash && (is_byte s to 69 && is_hash (slice_range s from to))) ≡ true → left_pieces hash at (elements_of (drop at s)) ≡ []
  turn_hash out = hidden hash (is_byte s to 69) (is_hash (slice_range s from to)) refl refl refl out where
    hidden : (h last is : Bool) → h ≡ hash → last ≡ is_byte s to 69 → is ≡ is_hash (slice_range s from to) → (not h && (last && is)) ≡ true → left_pieces hash at (elements_of (drop at s)) ≡ []
    hidden true last is a b c e = absurd (false≢true e)
    hidden false false is a b c e = absurd (false≢true e)
    hidden false true false a b c e = absurd (false≢true e)
    hidden false true true a b c e = ap (left_pieces hash at) (elements_more s at from to element) ∙ left_hash hash at (slice_range s from to) (elements_of (drop to s)) (sym a) (sym c) (elements_E s to (sym b))

-- an element that is omitted is followed by an `E`
pub omitted_E : (hash last is : Bool) → (not hash && (last && is)) ≡ true → last ≡ true
omitted_E true last is e = absurd (false≢true e)
omitted_E false true is e = refl
omitted_E false false is e = absurd (false≢true e)
