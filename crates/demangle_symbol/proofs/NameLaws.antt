-- Properties of a name that can be decoded.
use Rattle.std.proofs.Common.{◌≡◌, ℕ, ◌+◌, ◌/◌, ◌%◌, ◌^◌, ◌<◌, ◌≤◌, ◌⊎◌, inl, inr, Bool, true, false, List, [], ◌∷◌, length, Option, Some, None, All, refl, sym, ap, ◌∙◌, arith}
use Rattle.std.specs.Prelude.{option_and_then, insert}
use lib.Utf8.{scalar}
use Rattle.std.proofs.lemmas.Bool.{cases_lt}
use Rattle.std.proofs.lemmas.List.Elements.{All-nil, All-cons}
use Rattle.std.proofs.lemmas.Nat.{le-div}
use Rattle.demangle_symbol.specs.Punycode.{next_delta, deltas, insertions, puny}
use Rattle.demangle_symbol.proofs.Inserting.{inserted_none, inserted_step, inserted_end, inserted_long, scalar_below}

bool_cases : (b : Bool) → (b ≡ true) ⊎ (b ≡ false)
bool_cases true = inl refl
bool_cases false = inr refl

-- the conditions of a step
step_asks : (n i : ℕ) (cs : List ℕ) (d : ℕ) (ds out : List ℕ) → insertions n i cs (d ∷ ds) ≡ Some out → (scalar (n + (i + d) / (length cs + 1)) ≡ true) × (length cs < 128)
step_asks n i cs d ds out h = go (bool_cases (scalar (n + (i + d) / (length cs + 1)))) (cases_lt (length cs) 128) where
  go : (scalar (n + (i + d) / (length cs + 1)) ≡ true) ⊎ (scalar (n + (i + d) / (length cs + 1)) ≡ false) → (length cs < 128) ⊎ (128 ≤ length cs) → (scalar (n + (i + d) / (length cs + 1)) ≡ true) × (length cs < 128)
  go (inl sc) (inl lt) = (sc, lt)
  go (inl sc) (inr le) = let none = inserted_none n i cs d ds (inr le) in absurd (cc)
  go (inr fails) _ = let none = inserted_none n i cs d ds (inl fails) in absurd (cc)

delta_small : (n i len d : ℕ) → n + (i + d) / (len + 1) < 0x11_0000 → len < 128 → d < 2 ^ 28
delta_small n i len d below few = go (cases_lt d (2 ^ 28)) where
  go : (d < 2 ^ 28) ⊎ (2 ^ 28 ≤ d) → d < 2 ^ 28
  go (inl lt) = lt
  go (inr le) =
      let much : 0x11_0000 ≤ (i + d) / (len + 1) = le-div 0x11_0000 (i + d) (len + 1) (omega arith) (omega arith) in
      absurd (omega arith)

small_deltas : (ds : List ℕ) (n i : ℕ) (cs out : List ℕ) → insertions n i cs ds ≡ Some out → All (λ d. d < 2 ^ 28) ds
small_deltas [] n i cs out h = All-nil (λ d. d < 2 ^ 28)
small_deltas (d ∷ ds) n i cs out h =
    let asks = step_asks n i cs d ds out h in
    let c : ℕ = n + (i + d) / (length cs + 1) in
    let at : ℕ = (i + d) % (length cs + 1) in
    All-cons (λ x. x < 2 ^ 28) d ds (delta_small n i (length cs) d (scalar_below c asks.0) asks.1)
    (small_deltas ds c (at + 1) (insert cs at c) out (sym (inserted_step n i cs d ds asks.0 asks.1) ∙ h))

some_same : (o p : Option (List ℕ)) (f : List ℕ → Option (List ℕ)) (xs out : List ℕ) → option_and_then f o ≡ Some out → o ≡ Some xs → f xs ≡ Some out
some_same None p f xs out h e = absurd (cc)
some_same (Some ys) p f xs out h e = let same : ys ≡ xs = cc in ap f (sym same) ∙ h

pub decoded_deltas : (ascii digits characters ds : List ℕ) → puny ascii digits ≡ Some characters → deltas (next_delta (length ascii) true 72) digits ≡ Some ds → All (λ d. d < 2 ^ 28) ds
unfolding puny
decoded_deltas ascii digits characters ds h e =
    small_deltas ds 128 0 ascii characters (some_same (deltas (next_delta (length ascii) true 72) digits) None (insertions 128 0 ascii) ds characters h e)

few_characters : (ds : List ℕ) (n i : ℕ) (cs out : List ℕ) → insertions n i cs ds ≡ Some out → length out ≤ 128
few_characters [] n i cs out h = go (cases_lt 128 (length cs)) where
  go : (128 < length cs) ⊎ (length cs ≤ 128) → length out ≤ 128
  go (inl lt) = let none = inserted_long n i cs [] lt in absurd (cc)
  go (inr le) = let is = inserted_end n i cs le in let same : out ≡ cs = cc in omega (arith, ap length same)
few_characters (d ∷ ds) n i cs out h =
    let asks = step_asks n i cs d ds out h in
    let c : ℕ = n + (i + d) / (length cs + 1) in
    let at : ℕ = (i + d) % (length cs + 1) in
    few_characters ds c (at + 1) (insert cs at c) out (sym (inserted_step n i cs d ds asks.0 asks.1) ∙ h)

few : (o : Option (List ℕ)) (ascii characters : List ℕ) → option_and_then (insertions 128 0 ascii) o ≡ Some characters → length characters ≤ 128
few None ascii characters h = absurd (cc)
few (Some ds) ascii characters h = few_characters ds 128 0 ascii characters h

pub decoded_few : (ascii digits characters : List ℕ) → puny ascii digits ≡ Some characters → length characters ≤ 128
unfolding puny
decoded_few ascii digits characters h = few (deltas (next_delta (length ascii) true 72) digits) ascii characters h
