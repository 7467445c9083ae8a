-- Inserting the characters of deltas.
use Rattle.std.proofs.Common.{◌≡◌, ℕ, ◌+◌, ◌/◌, ◌%◌, ◌<◌, ◌≤◌, ◌⊎◌, inl, inr, ◌&&◌, Bool, true, false, List, [], ◌∷◌, length, Option, Some, None, IfSome, refl, sym, ap, ◌∙◌, arith, subst, ltb, leb, option_map}
use Rattle.std.specs.Prelude.{option_and_then, insert, slice_index}
use lib.Utf8.{scalar}
use Rattle.std.proofs.lemmas.Nat.{le-div}
use Rattle.std.proofs.lemmas.Bool.Decides.{nat_tests}
use Rattle.demangle_symbol.specs.declared.punycode.TheConstants.{MAX_DELTA}
use Rattle.demangle_symbol.specs.Punycode.{next_delta, deltas, insertions, puny, adapted_bias}

pub not_scalar : (c : ℕ) → 0x11_0000 ≤ c → scalar c ≡ false
not_scalar c h = grind (arith, nat_tests)

pub scalar_below : (c : ℕ) → scalar c ≡ true → c < 0x11_0000
scalar_below c h = grind (arith, nat_tests)

pub deltas_done : (count : ℕ) (first : Bool) (bias : ℕ) → deltas (next_delta count first bias) [] ≡ Some []
unfolding deltas
deltas_done count first bias = refl

abbrev pub IsRefused : ℕ → ℕ → List ℕ → ℕ → Type 0
IsRefused n i cs d = (scalar (n + (i + d) / (length cs + 1)) ≡ false) ⊎ (128 ≤ length cs)

refused : (n i : ℕ) (cs : List ℕ) (d : ℕ) → IsRefused n i cs d → (scalar (n + (i + d) / (length cs + 1)) && leb (length cs + 1) 128) ≡ false
refused n i cs d (inl h) = ap (λ b. b && leb (length cs + 1) 128) h
refused n i cs d (inr h) = let t : leb (length cs + 1) 128 ≡ false = grind (arith, nat_tests) in and_false (scalar (n + (i + d) / (length cs + 1))) _ t where
  and_false : (a b : Bool) → b ≡ false → (a && b) ≡ false
  and_false true b h = h
  and_false false b h = refl

pub inserted_none : (n i : ℕ) (cs : List ℕ) (d : ℕ) (ds : List ℕ) → IsRefused n i cs d → insertions n i cs (d ∷ ds) ≡ None
unfolding insertions
inserted_none n i cs d ds h = let t = refused n i cs d h in rw (t, insertions) refl

pub inserted_step : (n i : ℕ) (cs : List ℕ) (d : ℕ) (ds : List ℕ) → scalar (n + (i + d) / (length cs + 1)) ≡ true → length cs < 128
    → insertions n i cs (d ∷ ds) ≡ insertions (n + (i + d) / (length cs + 1)) ((i + d) % (length cs + 1) + 1) (insert cs ((i + d) % (length cs + 1)) (n + (i + d) / (length cs + 1))) ds
unfolding insertions
inserted_step n i cs d ds h l =
    let k : leb (length cs + 1) 128 ≡ true = grind (arith, nat_tests) in
    let t : (scalar (n + (i + d) / (length cs + 1)) && leb (length cs + 1) 128) ≡ true = cc (ap (λ b. b && leb (length cs + 1) 128) h) in
    rw (t, insertions) refl

pub inserted_end : (n i : ℕ) (cs : List ℕ) → length cs ≤ 128 → insertions n i cs [] ≡ Some cs
unfolding insertions
inserted_end n i cs h = let t : ltb 128 (length cs) ≡ false = grind (arith, nat_tests) in rw (t, insertions) refl

pub inserted_long : (n i : ℕ) (cs ds : List ℕ) → 128 < length cs → insertions n i cs ds ≡ None
unfolding insertions
inserted_long n i cs [] h = let t : ltb 128 (length cs) ≡ true = grind (arith, nat_tests) in rw (t, insertions) refl
inserted_long n i cs (d ∷ ds) h = inserted_none n i cs d ds (inr (omega arith))

then_long : (n i : ℕ) (cs : List ℕ) (o : Option (List ℕ)) → 128 < length cs → option_and_then (insertions n i cs) o ≡ None
then_long n i cs None h = refl
then_long n i cs (Some ds) h = inserted_long n i cs ds h

pub puny_long : (ascii digits : List ℕ) → 128 < length ascii → puny ascii digits ≡ None
unfolding puny
puny_long ascii digits h = then_long 128 0 ascii (deltas (next_delta (length ascii) true 72) digits) h

pub puny_whole : (ascii digits : List ℕ) → option_and_then (insertions 128 0 ascii) (deltas (next_delta (length ascii) true 72) digits) ≡ puny ascii digits
unfolding puny
puny_whole ascii digits = refl

pub then_none : (n i : ℕ) (cs : List ℕ) (d : ℕ) (o : Option (List ℕ)) → IsRefused n i cs d → option_and_then (insertions n i cs) (option_map (λ ds. d ∷ ds) o) ≡ None
then_none n i cs d None h = refl
then_none n i cs d (Some ds) h = inserted_none n i cs d ds h

pub then_step : (n i : ℕ) (cs : List ℕ) (d : ℕ) (o : Option (List ℕ)) → scalar (n + (i + d) / (length cs + 1)) ≡ true → length cs < 128
    → option_and_then (insertions n i cs) (option_map (λ ds. d ∷ ds) o)
    ≡ option_and_then (insertions (n + (i + d) / (length cs + 1)) ((i + d) % (length cs + 1) + 1) (insert cs ((i + d) % (length cs + 1)) (n + (i + d) / (length cs + 1)))) o
then_step n i cs d None h l = refl
then_step n i cs d (Some ds) h l = inserted_step n i cs d ds h l

-- a delta above MAX_DELTA gives no character
pub then_too_large : (n i : ℕ) (cs : List ℕ) (o : Option (List ℕ)) → length cs ≤ 128 → IfSome o (λ ds. MAX_DELTA < slice_index ds 0) → option_and_then (insertions n i cs) o ≡ None
then_too_large n i cs None l h = refl
then_too_large n i cs (Some []) l h = absurd (omega arith)
then_too_large n i cs (Some (d ∷ ds)) l h =
    let much : 0x11_0000 ≤ (i + d) / (length cs + 1) = le-div 0x11_0000 (i + d) (length cs + 1) (omega arith) (omega arith) in
    inserted_none n i cs d ds (inl (not_scalar (n + (i + d) / (length cs + 1)) (omega arith)))

-- one delta taken, as in the code
pub then_turn : (n i : ℕ) (cs new s t : List ℕ) (d len bias bias2 c : ℕ) (first : Bool) → len ≡ length cs
    → deltas (next_delta (length cs) first bias) s ≡ option_map (λ ds. d ∷ ds) (deltas (next_delta (length cs + 1) false (adapted_bias d (length cs + 1) first)) t)
    → scalar (n + (i + d) / (len + 1)) ≡ true → length cs < 128 → c ≡ n + (i + d) / (len + 1) → new ≡ insert cs ((i + d) % (len + 1)) c → length new ≡ length cs + 1 → bias2 ≡ adapted_bias d (len + 1) first
    → option_and_then (insertions (n + (i + d) / (len + 1)) ((i + d) % (len + 1) + 1) new) (deltas (next_delta (length new) false bias2) t) ≡ option_and_then (insertions n i cs) (deltas (next_delta (length cs) first bias) s)
then_turn n i cs new s t d len bias bias2 c first e h sc l k m q b =
    let sc2 : scalar (n + (i + d) / (length cs + 1)) ≡ true = subst (λ j. scalar (n + (i + d) / (j + 1)) ≡ true) e sc in
    let o = deltas (next_delta (length cs + 1) false (adapted_bias d (length cs + 1) first)) t in
    let step = then_step n i cs d o sc2 l in
    let whole = ap (option_and_then (insertions n i cs)) h ∙ step in
    let made : new ≡ insert cs ((i + d) % (length cs + 1)) (n + (i + d) / (length cs + 1)) = m ∙ ap (insert cs ((i + d) % (len + 1))) k ∙ ap (λ j. insert cs ((i + d) % (j + 1)) (n + (i + d) / (j + 1))) e in
    let bias3 : bias2 ≡ adapted_bias d (length cs + 1) first = b ∙ ap (λ j. adapted_bias d (j + 1) first) e in
    ap (λ j. option_and_then (insertions (n + (i + d) / (j + 1)) ((i + d) % (j + 1) + 1) new) (deltas (next_delta (length new) false bias2) t)) e
    ∙ ap (λ x. option_and_then (insertions (n + (i + d) / (length cs + 1)) ((i + d) % (length cs + 1) + 1) new) (deltas (next_delta x false bias2) t)) q
    ∙ ap (λ x. option_and_then (insertions (n + (i + d) / (length cs + 1)) ((i + d) % (length cs + 1) + 1) new) (deltas (next_delta (length cs + 1) false x) t)) bias3
    ∙ ap (λ x. option_and_then (insertions (n + (i + d) / (length cs + 1)) ((i + d) % (length cs + 1) + 1) x) o) made
    ∙ sym whole
