-- Punycode as RFC 3492 defines it, over natural numbers. `_` replaces `-`, and digits are lower case.
use Rattle.std.specs.Prelude.{ℕ, zero, suc, ◌+◌, ◌-◌, ◌*◌, ◌/◌, ◌%◌, min, max, Bool, true, false, ◌&&◌, nat_lt, nat_le, List, [], ◌∷◌, length, Option, Some, None, option_map, option_and_then, if◌then◌else◌, insert}
use lib.Utf8.{scalar as is_scalar}

-- 'a' to 'z' are 0 to 25, and '0' to '9' are 26 to 35
abbrev pub digit_of : ℕ → Option ℕ
digit_of c =
    if nat_le 97 c && nat_le c 122 then Some (c - 97) else (if nat_le 48 c && nat_le c 57 then Some (c - 22) else None)

-- a digit below this ends its delta
abbrev pub threshold : ℕ → ℕ → ℕ
threshold k bias = min (max (k - bias) 1) 26

-- the RFC's loop, with at most n iterations
unfoldable pub bias_after : ℕ → ℕ → ℕ
bias_after zero delta = (36 * delta) / (delta + 38)
bias_after (suc n) delta = elim (nat_lt 455 delta) [ true ↦ 36 + bias_after n (delta / 35) | false ↦ (36 * delta) / (delta + 38) ]

-- the bias after a delta; `count` is the number of characters with the new one, and the first delta is damped
unfoldable pub adapted_bias : ℕ → ℕ → Bool → ℕ
adapted_bias delta count first =
    let damped = delta / (if first then 700 else 2) in bias_after damped (damped + damped / count)

-- The state of the reading of deltas. `count` is the number of characters so far, and `first` says that no delta was
-- read yet. Within a delta, `sum` is its value so far, `weight` the weight of the next digit, and `place` the number of
-- that digit times 36, from 36.
pub record Reading : Type 0 where
  pub count : ℕ
  pub first : Bool
  pub bias : ℕ
  pub sum : ℕ
  pub weight : ℕ
  pub place : ℕ

abbrev pub next_delta : ℕ → Bool → ℕ → Reading
next_delta count first bias = record { count = count; first = first; bias = bias; sum = 0; weight = 1; place = 36 }

abbrev pub with_digit : Reading → ℕ → ℕ
with_digit r d = r.sum + d * r.weight

-- the deltas that the digits spell
unfoldable pub deltas : Reading → List ℕ → Option (List ℕ)
deltas r [] = if nat_lt 36 r.place then None else Some []
deltas r (c ∷ s) = elim (digit_of c) [
  | None ↦ None
  | Some d ↦ elim (nat_lt d (threshold r.place r.bias)) [
    | true ↦ option_map (λ ds. with_digit r d ∷ ds) (deltas (next_delta (r.count + 1) false (adapted_bias (with_digit r d) (r.count + 1) r.first)) s)
    | false ↦ deltas (record r { sum = with_digit r d; weight = r.weight * (36 - threshold r.place r.bias); place = r.place + 36 }) s
  ]
]

-- Each delta gives an index and a character. They are counted from the index i and the character n of the last
-- insertion.
unfoldable pub insertions : ℕ → ℕ → List ℕ → List ℕ → Option (List ℕ)
insertions n i characters [] = if nat_lt 128 (length characters) then None else Some characters
insertions n i characters (delta ∷ ds) =
    let size = length characters + 1 in
    let c = n + (i + delta) / size in
    let at = (i + delta) % size in
    elim (is_scalar c && nat_le size 128) [ true ↦ insertions c (at + 1) (insert characters at c) ds | false ↦ None ]

-- the characters of a name with this ASCII part and these digits, if it can be decoded
unfoldable pub puny : List ℕ → List ℕ → Option (List ℕ)
puny ascii digits = option_and_then (insertions 128 0 ascii) (deltas (next_delta (length ascii) true 72) digits)
