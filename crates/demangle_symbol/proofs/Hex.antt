-- The reading of hexadecimal strings and of their numbers.
use Rattle.std.proofs.Common.{◌≡◌, ℕ, ◌+◌, ◌-◌, ◌*◌, ◌^◌, ◌<◌, ◌≤◌, true, false, eqb, ◌==◌, List, length, drop, get_or, Some, None, sym, refl, ap, ◌∙◌, arith, lit<}
use Rattle.std.specs.List.{slice_get, slice_range}
use Rattle.std.proofs.lemmas.Option.{get_or_from_slice_get, slice_get_past, slice_get_within}
use Rattle.std.proofs.lemmas.Grind.{common_steps, pow_more}
use Rattle.std.proofs.lemmas.List.{get_or-drop, length-take}
use Rattle.std.proofs.Math.Nat.{pow-le-pow_right}
use Rattle.std.proofs.lemmas.List.Sums.{prefix_len-drop_yes, prefix_len-drop_no, prefix_len-drop_all, prefix_len_passes}
use Rattle.std.proofs.lemmas.List.Edits.{length-between, get_or-between}
use Rattle.demangle_symbol.specs.Digits.{run_end, number, is_byte}
use Rattle.demangle_symbol.specs.Primitives.{nibbles_at, is_nibble, nibble, Hex, zeros, hex_number}
use Rattle.demangle_symbol.specs.Nibbles.{hex_at}
use Rattle.std.specs.Prelude.{option_map}
use Rattle.demangle_symbol.proofs.Digits.{run_more, run_stops, run_past, number_none, number_more, is_byte_there}
use Rattle.demangle_symbol.proofs.Idents.{is_byte_not}
use Rattle.demangle_symbol.proofs.Integers.{byte_is, only_not}

pub no_hex_past : (s : List ℕ) (i k : ℕ) → run_end is_nibble s i ≡ run_end is_nibble s k → length s ≤ k → (j end : ℕ) → Hex s i j end → ⊥
no_hex_past s i k run past j end h =
    let e : end ≡ k = h.nibbles ∙ run ∙ run_past is_nibble s k past in
    let none : slice_get s k ≡ None = slice_get_past s k past in
    let some : slice_get s k ≡ Some 95 = ap (slice_get s) (sym e) ∙ h.ends in
    cc

-- the relation and the function agree
pub hex_read : (s : List ℕ) (i j end : ℕ) → Hex s i j end → nibbles_at s i ≡ Some (slice_range s i end, j)
unfolding nibbles_at
hex_read s i j end h =
    let there : is_byte s (run_end is_nibble s i) 95 ≡ true = byte_is s _ 95 (ap (slice_get s) (sym h.nibbles) ∙ h.ends) in
    rw there (ap (λ e. Some (slice_range s i e, e + 1)) (sym h.nibbles) ∙ ap (λ e. Some (slice_range s i end, e)) (sym h.next))

pub hex_unread : (s : List ℕ) (i : ℕ) → ((j end : ℕ) → Hex s i j end → ⊥) → nibbles_at s i ≡ None
unfolding nibbles_at
hex_unread s i none = only_not (is_byte s (run_end is_nibble s i) 95) _ (λ there. none (run_end is_nibble s i + 1) (run_end is_nibble s i) (record { nibbles = refl; ends = is_byte_there s _ 95 there; next = refl }))

-- by the places of its nibbles
pub hex_there : (s : List ℕ) (i j end : ℕ) → Hex s i j end → hex_at s i ≡ Some (record { from = i; to = end }, j)
hex_there s i j end h =
    let e : j - 1 ≡ end = omega (arith, h.next) in
    ap (option_map (λ (r : List ℕ × ℕ). (record { from = i; to = r.1 - 1 }, r.1))) (hex_read s i j end h)
    ∙ ap (λ (k : ℕ). Some (record { from = i; to = k }, j)) e

pub hex_not_there : (s : List ℕ) (i : ℕ) → ((j end : ℕ) → Hex s i j end → ⊥) → hex_at s i ≡ None
hex_not_there s i none = ap (option_map (λ (r : List ℕ × ℕ). (record { from = i; to = r.1 - 1 }, r.1))) (hex_unread s i none)

pub ruleset hex_reads = (hex_read, hex_unread, hex_there, hex_not_there)

pub ruleset hex_steps = (run_more, run_stops, run_past, no_hex_past)

-- the leading zeros of a part from place k
unfoldable pub zeros_from : List ℕ → ℕ → ℕ → ℕ → ℕ
zeros_from s from to k = zeros (drop (k - from) (slice_range s from to))

pub zeros_start : (s : List ℕ) (from to : ℕ) → zeros_from s from to from ≡ zeros (slice_range s from to)
unfolding zeros_from
zeros_start s from to = let e : from - from ≡ 0 = omega arith in ap (λ k. zeros (drop k (slice_range s from to))) e

pub zeros_end : (s : List ℕ) (from to : ℕ) → zeros_from s from to to ≡ 0
unfolding zeros_from
zeros_end s from to = prefix_len-drop_all _ (slice_range s from to) (to - from) (omega (arith, length-take (to - from) (drop from s)))

-- the byte at k in a part
in_part : (s : List ℕ) (from to k : ℕ) → from ≤ k → k < to → get_or (slice_range s from to) (k - from) 0 ≡ get_or s k 0
in_part s from to k begun left =
    let e : from + (k - from) ≡ k = omega arith in
    get_or-between s from to (k - from) 0 (omega arith) ∙ ap (λ x. get_or s x 0) e

pub zeros_more : (s : List ℕ) (from to k : ℕ) → from ≤ k → k < to → to ≤ length s → is_byte s k 48 ≡ true → zeros_from s from to k ≡ 1 + zeros_from s from to (k + 1)
unfolding zeros_from
zeros_more s from to k begun left inside h =
    let is : get_or s k 0 ≡ 48 = get_or_from_slice_get s k 48 0 (is_byte_there s k 48 h) in
    let passes : eqb (get_or (slice_range s from to) (k - from) 0) 48 ≡ true = ap (λ b. eqb b 48) (in_part s from to k begun left ∙ is) in
    let next : k + 1 - from ≡ k - from + 1 = omega arith in
    prefix_len-drop_yes (λ b. b == 48) (slice_range s from to) (k - from) 0 (omega (arith, length-between s from to inside)) passes
    ∙ ap (λ n. 1 + zeros (drop n (slice_range s from to))) (sym next)

pub zeros_stop : (s : List ℕ) (from to k : ℕ) → from ≤ k → k < to → to ≤ length s → is_byte s k 48 ≡ false → zeros_from s from to k ≡ 0
unfolding zeros_from
zeros_stop s from to k begun left inside h =
    let fails : eqb (get_or (slice_range s from to) (k - from) 0) 48 ≡ false =
    ap (λ b. eqb b 48) (in_part s from to k begun left) ∙ (is_byte_not s k 48 (omega arith) h).1 in
    prefix_len-drop_no (λ b. b == 48) (slice_range s from to) (k - from) 0 (omega (arith, length-between s from to inside)) fails

pub number_zero : (s : List ℕ) (from k : ℕ) → from ≤ k → is_byte s k 48 ≡ true → number 16 nibble (slice_range s from k) ≡ 0 → number 16 nibble (slice_range s from (k + 1)) ≡ 0
number_zero s from k begun h none = omega (arith, number_more 16 nibble s from k 48 begun (is_byte_there s k 48 h))

pub ruleset zeros_steps = (zeros_start, zeros_end, zeros_more, zeros_stop, number_zero, number_none)

-- a byte of a hexadecimal string before its `_` is a nibble
pub nibble_there : (s : List ℕ) (i j end k b : ℕ) → Hex s i j end → i ≤ k → k < end → slice_get s k ≡ Some b → is_nibble b ≡ true
nibble_there s i j end k b h begun left here =
    let e : i + (k - i) ≡ k = omega arith in
    let is : get_or (drop i s) (k - i) 0 ≡ b = get_or-drop i s (k - i) 0 ∙ ap (λ x. get_or s x 0) e ∙ get_or_from_slice_get s k b 0 here in
    let passes : is_nibble (get_or (drop i s) (k - i) 0) ≡ true = prefix_len_passes is_nibble (drop i s) (k - i) 0 (omega (arith, h.nibbles)) in
    ap is_nibble (sym is) ∙ passes

pub hex_within : (s : List ℕ) (i j end : ℕ) → Hex s i j end → (i ≤ end) × (end < length s)
hex_within s i j end h = (omega (arith, h.nibbles), slice_get_within s end 95 h.ends)

pub hex_number_some : (most : ℕ) (s : List ℕ) (from to : ℕ) → to ≤ length s → to - (from + zeros (slice_range s from to)) ≤ most → hex_number most (slice_range s from to) ≡ Some (number 16 nibble (slice_range s from to))
unfolding hex_number
hex_number_some most s from to inside few =
    let n : length (slice_range s from to) ≡ to - from = length-between s from to inside in
    grind (arith, common_steps)

pub hex_number_none : (most : ℕ) (s : List ℕ) (from to : ℕ) → to ≤ length s → most < to - (from + zeros (slice_range s from to)) → hex_number most (slice_range s from to) ≡ None
unfolding hex_number
hex_number_none most s from to inside many =
    let n : length (slice_range s from to) ≡ to - from = length-between s from to inside in
    grind (arith, common_steps)

-- k nibbles spell a number below 16 ^ k
pub nibbles_more : (n d k : ℕ) → n < 16 ^ k → d < 16 → n * 16 + d < 16 ^ (k + 1)
nibbles_more n d k small digit = omega (arith, pow_more 16 k)

pub nibbles_fit : (most n d k : ℕ) → n < 16 ^ k → d < 16 → k < most → n * 16 + d < 16 ^ most
nibbles_fit most n d k small digit few =
    let le : k + 1 ≤ most = omega arith in
    let bound : 16 ^ (k + 1) ≤ 16 ^ most = pow-le-pow_right (lit< tt) le in
    omega (arith, nibbles_more n d k small digit)

pub ruleset number_steps = (number_none, number_more, nibble_there, hex_within, hex_number_some, hex_number_none, nibbles_more, nibbles_fit)
