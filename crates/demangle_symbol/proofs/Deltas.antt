-- Deltas: one more digit, and the sum never falls.
use Rattle.std.proofs.Common.{◌≡◌, ℕ, zero, suc, ◌+◌, ◌-◌, ◌*◌, ◌/◌, ◌<◌, ◌≤◌, inl, inr, true, false, List, [], ◌∷◌, Option, Some, None, IfSome, refl, sym, arith, subst, ltb, option_map}
use Rattle.std.specs.Prelude.{slice_index}
use Rattle.std.proofs.lemmas.Bool.Decides.{nat_tests}
use Rattle.demangle_symbol.specs.Punycode.{Reading, digit_of, threshold, with_digit, next_delta, deltas, adapted_bias, bias_after}
use Rattle.std.proofs.lemmas.Bool.{cases_lt}
use Rattle.demangle_symbol.proofs.Options.{option_cases}

pub bias_turn : (n delta : ℕ) → 455 < delta → bias_after (suc n) delta ≡ 36 + bias_after n (delta / 35)
unfolding bias_after
bias_turn n delta h = let t : ltb 455 delta ≡ true = grind (arith, nat_tests) in rw (t, bias_after) refl

pub bias_end : (n delta : ℕ) → delta ≤ 455 → bias_after n delta ≡ (36 * delta) / (delta + 38)
unfolding bias_after
bias_end zero delta h = refl
bias_end (suc n) delta h = let t : ltb 455 delta ≡ false = grind (arith, nat_tests) in rw (t, bias_after) refl

-- the state after one more digit of the same delta
abbrev pub further : Reading → ℕ → Reading
further r d = record r { sum = with_digit r d; weight = r.weight * (36 - threshold r.place r.bias); place = r.place + 36 }

abbrev pub after_delta : Reading → ℕ → Reading
after_delta r d = next_delta (r.count + 1) false (adapted_bias (with_digit r d) (r.count + 1) r.first)

pub deltas_bad : (r : Reading) (c : ℕ) (s : List ℕ) → digit_of c ≡ None → deltas r (c ∷ s) ≡ None
unfolding deltas
deltas_bad r c s h = rw (h, deltas) refl

pub deltas_last : (r : Reading) (c d : ℕ) (s : List ℕ) → digit_of c ≡ Some d → d < threshold r.place r.bias → deltas r (c ∷ s) ≡ option_map (λ ds. with_digit r d ∷ ds) (deltas (after_delta r d) s)
unfolding deltas
deltas_last r c d s h l = let t : ltb d (threshold r.place r.bias) ≡ true = grind (arith, nat_tests) in rw (h, t, deltas) refl

pub deltas_more : (r : Reading) (c d : ℕ) (s : List ℕ) → digit_of c ≡ Some d → threshold r.place r.bias ≤ d → deltas r (c ∷ s) ≡ deltas (further r d) s
unfolding deltas
deltas_more r c d s h l = let t : ltb d (threshold r.place r.bias) ≡ false = grind (arith, nat_tests) in rw (h, t, deltas) refl

pub deltas_short : (r : Reading) → 36 < r.place → deltas r [] ≡ None
unfolding deltas
deltas_short r h = let t : ltb 36 r.place ≡ true = grind (arith, nat_tests) in rw (t, deltas) refl

-- the first delta is at least n
abbrev pub AtLeast : ℕ → Option (List ℕ) → Type 0
AtLeast n o = IfSome o (λ ds. n ≤ slice_index ds 0)

in_prefix : (n d : ℕ) (o : Option (List ℕ)) → n ≤ d → AtLeast n (option_map (λ ds. d ∷ ds) o)
in_prefix n d None h = tt
in_prefix n d (Some ds) h = h

less : (m n : ℕ) (o : Option (List ℕ)) → m ≤ n → AtLeast n o → AtLeast m o
less m n None h k = tt
less m n (Some ds) h k = omega arith

none_at_least : (n : ℕ) (o : Option (List ℕ)) → o ≡ None → AtLeast n o
none_at_least n o h = subst (AtLeast n) (sym h) tt

-- no digit lowers the sum
pub deltas_grow : (s : List ℕ) (r : Reading) → 36 < r.place → AtLeast r.sum (deltas r s)
deltas_grow [] r h = none_at_least r.sum (deltas r []) (deltas_short r h)
deltas_grow (c ∷ s) r h = elim (option_cases (digit_of c)) [
  | inl e ↦ none_at_least r.sum (deltas r (c ∷ s)) (deltas_bad r c s e)
  | inr p ↦ elim (cases_lt p.0 (threshold r.place r.bias)) [
    | inl l ↦ subst (AtLeast r.sum) (sym (deltas_last r c p.0 s p.1 l)) (in_prefix r.sum (with_digit r p.0) (deltas (after_delta r p.0) s) (omega arith))
    | inr l ↦ subst (AtLeast r.sum) (sym (deltas_more r c p.0 s p.1 l)) (less r.sum (with_digit r p.0) (deltas (further r p.0) s) (omega arith) (deltas_grow s (further r p.0) (omega arith)))
  ]
]

-- with one more digit
pub deltas_grow-digit : (s : List ℕ) (r : Reading) (c d : ℕ) → 36 ≤ r.place → digit_of c ≡ Some d → AtLeast (with_digit r d) (deltas r (c ∷ s))
deltas_grow-digit s r c d h e = elim (cases_lt d (threshold r.place r.bias)) [
  | inl l ↦ subst (AtLeast (with_digit r d)) (sym (deltas_last r c d s e l)) (in_prefix (with_digit r d) (with_digit r d) (deltas (after_delta r d) s) (omega arith))
  | inr l ↦ subst (AtLeast (with_digit r d)) (sym (deltas_more r c d s e l)) (deltas_grow s (further r d) (omega arith))
]
