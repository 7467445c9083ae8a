-- The reading of integers, byte by byte.
use Rattle.std.proofs.Common.{◌≡◌, ℕ, ◌+◌, ◌*◌, ◌^◌, ◌<◌, ◌≤◌, inl, inr, Bool, true, false, ltb, nat_lt, List, length, Some, None, sym, refl, ap, ◌∙◌, arith, rules, lit<}
use Rattle.std.specs.Prelude.{◌&&◌}
use Rattle.std.specs.List.{slice_get, slice_range}
use Rattle.std.proofs.lemmas.Bool.{lt-ltb, ltb-true}
use Rattle.std.proofs.lemmas.Bool.Decides.{nat_tests}
use Rattle.std.proofs.Math.Nat.{pow-le-pow_right}
use Rattle.std.proofs.lemmas.Option.{slice_get_within}
use Rattle.std.proofs.lemmas.Grind.{pow_more}
use Rattle.demangle_symbol.specs.Digits.{run_end, number, is_byte}
use Rattle.demangle_symbol.specs.Integers.{Digit62, Digits62UpTo, OneMore, one_more_at}
use Rattle.demangle_symbol.specs.Primitives.{only_if, is_digit_62, digit_62, integer_value, Integer, OptInteger, integer_at, optional_at}
use Rattle.demangle_symbol.proofs.Digits.{run_more, run_stops, run_none, run_past, number_none, number_more, number_part, is_byte_there}

pub digit_there : (s : List ℕ) (i b d : ℕ) → slice_get s i ≡ Some b → is_digit_62 b ≡ true → d ≡ digit_62 b → Digit62 s i d
digit_there s i b d here passes value = record { byte = b; there = here; passes = passes; value = value }

pub digit_small : (b d : ℕ) → is_digit_62 b ≡ true → d ≡ digit_62 b → d < 62
digit_small b d passes value = grind (arith, nat_tests, passes, value)

pub ruleset digit_reads = (digit_there, digit_small, run_stops, run_none)

pub digits_none : (s : List ℕ) (i : ℕ) → Digits62UpTo s i i 0
digits_none s i = record { order = omega arith; run = refl; value = sym (number_none 62 digit_62 s i) }

-- one more digit
pub digits_more : (s : List ℕ) (i k n d : ℕ) → Digits62UpTo s i k n → Digit62 s k d → Digits62UpTo s i (k + 1) (n * 62 + d)
digits_more s i k n d h digit = record {
  order = omega (arith, h.order);
  run = h.run ∙ run_more is_digit_62 s k digit.byte digit.there digit.passes;
  value = omega (arith, number_more 62 digit_62 s i k digit.byte h.order digit.there, h.value, digit.value);
}

pub digits_first : (s : List ℕ) (i d : ℕ) → Digit62 s i d → Digits62UpTo s i (i + 1) d
digits_first s i d digit =
    let e : 0 * 62 + d ≡ d = omega arith in
    rw e at (digits_more s i i 0 d (digits_none s i) digit)

-- fewer than ten digits and one more
pub digits_fit : (n d k : ℕ) → n < 62 ^ k → d < 62 → n * 62 + d < 62 ^ (k + 1)
digits_fit n d k small digit = omega (arith, pow_more 62 k)

pub digits_below : (n k : ℕ) → n < 62 ^ k → k ≤ 10 → n < 62 ^ 10
digits_below n k small few =
    let bound : 62 ^ k ≤ 62 ^ 10 = pow-le-pow_right (lit< tt) few in
    omega arith

-- the end of the digits
ends_at : (s : List ℕ) (k : ℕ) → slice_get s k ≡ Some 95 → run_end is_digit_62 s k ≡ k
ends_at s k here = run_stops is_digit_62 s k 95 here refl

value_none : (s : List ℕ) (i k : ℕ) → k ≡ i → integer_value s i k ≡ 0
value_none s i k same = grind (arith, nat_tests)

value_some : (s : List ℕ) (i k : ℕ) → i < k → integer_value s i k ≡ number 62 digit_62 (slice_range s i k) + 1
value_some s i k some = grind (arith, nat_tests)

pub integer_empty : (s : List ℕ) (i : ℕ) → slice_get s i ≡ Some 95 → Integer s i (i + 1) 0
integer_empty s i here =
    let e : run_end is_digit_62 s i ≡ i = ends_at s i here in
    record {
      ends = ap (slice_get s) e ∙ here;
      next = ap (λ k. k + 1) (sym e);
      value = sym (value_none s i (run_end is_digit_62 s i) e);
      fits = omega arith;
    }

pub digits_integer : (s : List ℕ) (i k n : ℕ) → Digits62UpTo s i k n → i < k → slice_get s k ≡ Some 95 → n + 1 < 2 ^ 64 → Integer s i (k + 1) (n + 1)
digits_integer s i k n h some here fits =
    let e : run_end is_digit_62 s i ≡ k = h.run ∙ ends_at s k here in
    record {
      ends = ap (slice_get s) e ∙ here;
      next = ap (λ j. j + 1) (sym e);
      value = omega (arith, value_some s i k some, ap (integer_value s i) e, h.value);
      fits = fits;
    }

-- and no integer
pub no_integer_other : (s : List ℕ) (i k n : ℕ) → Digits62UpTo s i k n → run_end is_digit_62 s k ≡ k → (slice_get s k ≡ Some 95 → ⊥) → (j v : ℕ) → Integer s i j v → ⊥
no_integer_other s i k n h stops other j v int =
    other (ap (slice_get s) (sym (h.run ∙ stops)) ∙ int.ends)

pub no_integer_large : (s : List ℕ) (i k n d : ℕ) → Digits62UpTo s i k n → Digit62 s k d → 2 ^ 64 ≤ n * 62 + d → (j v : ℕ) → Integer s i j v → ⊥
no_integer_large s i k n d h digit large j v int =
    let more : Digits62UpTo s i (k + 1) (n * 62 + d) = digits_more s i k n d h digit in
    let end : ℕ = run_end is_digit_62 s i in
    let within : k < length s = slice_get_within s k digit.byte digit.there in
    let most : number 62 digit_62 (slice_range s i (k + 1)) ≤ number 62 digit_62 (slice_range s i end) = number_part 62 digit_62 s i (k + 1) end (omega arith) (omega (arith, more.run)) in
    omega (arith, int.value, int.fits, more.value, value_some s i end (omega (arith, h.order, more.run)))

pub no_integer_last : (s : List ℕ) (i k n : ℕ) → Digits62UpTo s i k n → i < k → slice_get s k ≡ Some 95 → 2 ^ 64 ≤ n + 1 → (j v : ℕ) → Integer s i j v → ⊥
no_integer_last s i k n h some here large j v int =
    let e : run_end is_digit_62 s i ≡ k = h.run ∙ ends_at s k here in
    omega (arith, int.value, int.fits, h.value, value_some s i k some, ap (integer_value s i) e)

pub no_integer_past : (s : List ℕ) (i k n : ℕ) → Digits62UpTo s i k n → length s ≤ k → (j v : ℕ) → Integer s i j v → ⊥
no_integer_past s i k n h past j v int =
    no_integer_other s i k n h (run_past is_digit_62 s k past) (λ here. let within : k < length s = slice_get_within s k 95 here in absurd (omega arith)) j v int

pub byte_is : (s : List ℕ) (k b : ℕ) → slice_get s k ≡ Some b → is_byte s k b ≡ true
unfolding is_byte
byte_is s k b here = rw here (search rules)

pub only_both : {A : Type 0} (a b : Bool) (x : A) → a ≡ true → b ≡ true → only_if (a && b) x ≡ Some x
only_both true true x p q = refl
only_both true false x p q = absurd (cc)
only_both false b x p q = absurd (cc)

pub only_not_both : {A : Type 0} (a b : Bool) (x : A) → (a ≡ true → b ≡ true → ⊥) → only_if (a && b) x ≡ None
only_not_both true true x h = absurd (h refl refl)
only_not_both true false x h = refl
only_not_both false b x h = refl

pub only_not : {A : Type 0} (b : Bool) (x : A) → (b ≡ true → ⊥) → only_if b x ≡ None
only_not true x h = absurd (h refl)
only_not false x h = refl

-- the relation and the function agree
pub integer_read : (s : List ℕ) (i j v : ℕ) → Integer s i j v → integer_at s i ≡ Some (v, j)
unfolding integer_at
integer_read s i j v h =
    let end : ℕ = run_end is_digit_62 s i in
    let small : integer_value s i end < 2 ^ 64 = rw (← h.value) h.fits in
    only_both (is_byte s end 95) (nat_lt (integer_value s i end) (2 ^ 64)) (integer_value s i end, end + 1) (byte_is s end 95 h.ends) (lt-ltb _ _ small)
    ∙ ap (λ x. Some (x, end + 1)) (sym h.value) ∙ ap (λ x. Some (v, x)) (sym h.next)

pub integer_unread : (s : List ℕ) (i : ℕ) → ((j v : ℕ) → Integer s i j v → ⊥) → integer_at s i ≡ None
unfolding integer_at
integer_unread s i none =
    let end : ℕ = run_end is_digit_62 s i in
    only_not_both (is_byte s end 95) (nat_lt (integer_value s i end) (2 ^ 64)) (integer_value s i end, end + 1)
    (λ there small. none (end + 1) (integer_value s i end) (record { ends = is_byte_there s end 95 there; next = refl; value = refl; fits = ltb-true _ _ small }))

pub ruleset integer_steps = (digits_none, digits_more, digits_first, digits_fit, digits_below, integer_empty, digits_integer, no_integer_other, no_integer_large, no_integer_last, no_integer_past, integer_read, integer_unread)

pub one_more : (s : List ℕ) (i n j : ℕ) → Some (n, j) ≡ integer_at s i → n + 1 < 2 ^ 64 → one_more_at s i ≡ Some (n + 1, j)
one_more s i n j here small = let fits : ltb (n + 1) (2 ^ 64) ≡ true = lt-ltb _ _ small in rw (← here, fits) refl

pub one_more_large : (s : List ℕ) (i n j : ℕ) → Some (n, j) ≡ integer_at s i → 2 ^ 64 ≤ n + 1 → one_more_at s i ≡ None
one_more_large s i n j here large = let fits : ltb (n + 1) (2 ^ 64) ≡ false = grind (arith, nat_tests) in rw (← here, fits) refl

pub one_more_bad : (s : List ℕ) (i : ℕ) → None ≡ integer_at s i → one_more_at s i ≡ None
one_more_bad s i here = rw (← here) refl

pub ruleset one_more_reads = (one_more, one_more_large, one_more_bad)

pub optional_there : (tag : ℕ) (s : List ℕ) (i : ℕ) → is_byte s i tag ≡ true → optional_at tag s i ≡ one_more_at s (i + 1)
unfolding optional_at
optional_there tag s i there = rw there refl

pub optional_absent : (tag : ℕ) (s : List ℕ) (i : ℕ) → is_byte s i tag ≡ false → optional_at tag s i ≡ Some (0, i)
unfolding optional_at
optional_absent tag s i other = rw other refl

pub not_optional : (tag : ℕ) (s : List ℕ) (i : ℕ) → true ≡ is_byte s i tag → ((j v : ℕ) → OneMore s (i + 1) j v → ⊥) → (j v : ℕ) → OptInteger tag s i j v → ⊥
not_optional tag s i there none j v (inl h) = none j v h.1
not_optional tag s i there none j v (inr h) = absurd (cc)

pub ruleset optional_reads = (optional_there, optional_absent)
