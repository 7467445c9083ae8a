-- Pairs of nibbles, and the characters that their bytes spell.
use Rattle.std.proofs.Common.{◌≡◌, ℕ, zero, suc, ◌+◌, ◌-◌, ◌*◌, ◌<◌, ◌≤◌, ◌⊎◌, inl, inr, Bool, true, false, List, [], ◌∷◌, ◌++◌, length, take, drop, get_or, Option, Some, None, option_map, refl, sym, ap, ◌∙◌, subst, arith, IsTrue, length-append, length-drop}
use Rattle.std.specs.Prelude.{encode_utf8, chars}
use Rattle.std.specs.List.{slice_range}
use Rattle.std.specs.Str.{IsUtf8, is_utf8}
use Rattle.std.specs.Char.{IsScalar, len_utf8}
use Rattle.std.proofs.Math.Utf8.{scalars, encodes}
use Rattle.std.proofs.lemmas.Str.{IsUtf8-append, IsUtf8-encode, IsUtf8-past_char, IsUtf8-from_is_utf8, is_utf8-from_IsUtf8, chars_past_char, length-encode, len_utf8_bounds}
use Rattle.std.proofs.lemmas.Option.{slice_get-get_or}
use Rattle.std.specs.Prelude.{◌&&◌}
use lib.Utf8.{scalar}
use Rattle.std.proofs.Math.ListN.{set}
use Rattle.std.proofs.lemmas.Bool.{cases_lt}
use Rattle.std.proofs.lemmas.List.{take_at, append-nil, take_more, take_more_set, drop-take, drop-drop}
use Rattle.std.proofs.lemmas.List.Edits.{length-between, get_or-between}
use Rattle.demangle_symbol.specs.Primitives.{only_if, then_if_some, is_nibble, nibble, Hex}
use Rattle.demangle_symbol.specs.Literals.{nibble_bytes, string_of}
use Rattle.demangle_symbol.specs.Nibbles.{HexPart}
use Rattle.demangle_symbol.specs.declared.cursor.Part.{Part}
use Rattle.demangle_symbol.specs.Digits.{run_end}
use Rattle.demangle_symbol.proofs.Hex.{nibble_there, hex_within}
use Rattle.demangle_symbol.proofs.Digits.{run_more}
use Rattle.std.proofs.lemmas.List.{get_or-drop}
use Rattle.std.proofs.lemmas.List.Sums.{prefix_len_passes, prefix_len-le-length}

-- the byte at a place of a hexadecimal string is a nibble
pub nibble_in : (s : List ℕ) (rest : Part) (k : ℕ) → HexPart s rest → rest.from ≤ k → k < rest.to → (k < length s) × IsTrue (is_nibble (get_or s k 0))
nibble_in s rest k h begun left =
    let within = hex_within s rest.from h.0 rest.to h.1 in
    let lt : k < length s = omega (arith, within) in
    (lt, nibble_there s rest.from h.0 rest.to k (get_or s k 0) h.1 begun left (slice_get-get_or s k 0 lt))

-- a run from each place in it has the same end
run_next : (p : ℕ → Bool) (s : List ℕ) (i : ℕ) → i < run_end p s i → run_end p s i ≡ run_end p s (i + 1)
run_next p s i some =
    let here : i + 0 ≡ i = omega arith in
    let passes : p (get_or s i 0) ≡ true = ap p (sym (get_or-drop i s 0 0 ∙ ap (λ k. get_or s k 0) here)) ∙ prefix_len_passes p (drop i s) 0 0 (omega arith) in
    let inside : i < length s = omega (arith, prefix_len-le-length p (drop i s), length-drop i s) in
    run_more p s i (get_or s i 0) (slice_get-get_or s i 0 inside) passes

run_on : (p : ℕ → Bool) (s : List ℕ) (d i : ℕ) → i + d ≤ run_end p s i → run_end p s i ≡ run_end p s (i + d)
run_on p s zero i h = let e : i ≡ i + 0 = omega arith in ap (run_end p s) e
run_on p s (suc d) i h =
    let first : run_end p s i ≡ run_end p s (i + 1) = run_next p s i (omega arith) in
    let e : i + 1 + d ≡ i + suc d = omega arith in
    first ∙ run_on p s d (i + 1) (omega arith) ∙ ap (run_end p s) e

run_later : (p : ℕ → Bool) (s : List ℕ) (i k : ℕ) → i ≤ k → k ≤ run_end p s i → run_end p s i ≡ run_end p s k
run_later p s i k begun left = let e : i + (k - i) ≡ k = omega arith in run_on p s (k - i) i (omega arith) ∙ ap (run_end p s) e

pub ruleset nibble_steps = (nibble_in)

-- the bytes of pairs of nibbles; an odd one is left out
unfoldable pub pairs : List ℕ → List ℕ
pairs [] = []
pairs (a ∷ []) = []
pairs (a ∷ b ∷ r) = (nibble a * 16 + nibble b) ∷ pairs r

pub length-pairs : (ns : List ℕ) → (2 * length (pairs ns) ≤ length ns) × (length ns ≤ 2 * length (pairs ns) + 1)
unfolding pairs
length-pairs [] = (omega arith, omega arith)
length-pairs (a ∷ []) = (omega arith, omega arith)
length-pairs (a ∷ b ∷ r) = let h = length-pairs r in (omega (arith, h.0), omega (arith, h.1))

-- the byte of the pair at place k
pub pair_at : (ns : List ℕ) (k : ℕ) → 2 * k + 2 ≤ length ns → get_or (pairs ns) k 0 ≡ nibble (get_or ns (2 * k) 0) * 16 + nibble (get_or ns (2 * k + 1) 0)
unfolding pairs
pair_at [] k h = absurd (omega arith)
pair_at (a ∷ []) k h = absurd (omega arith)
pair_at (a ∷ b ∷ r) zero h = refl
pair_at (a ∷ b ∷ r) (suc k) h =
    let e : 2 * suc k ≡ suc (suc (2 * k)) = omega arith in
    let f : 2 * suc k + 1 ≡ suc (suc (2 * k + 1)) = omega arith in
    pair_at r k (omega arith) ∙ ap (λ n. nibble (get_or (a ∷ b ∷ r) n 0) * 16 + nibble (get_or r (2 * k + 1) 0)) (sym e)
    ∙ ap (λ n. nibble (get_or (a ∷ b ∷ r) (2 * suc k) 0) * 16 + nibble (get_or (a ∷ b ∷ r) n 0)) (sym f)

-- an odd number of nibbles, and an even one
bytes_odd : (ns : List ℕ) → length ns ≡ 2 * length (pairs ns) + 1 → nibble_bytes ns ≡ None
unfolding pairs
bytes_odd [] h = absurd (omega arith)
bytes_odd (a ∷ []) h = refl
bytes_odd (a ∷ b ∷ r) h = let e : nibble_bytes r ≡ None = bytes_odd r (omega arith) in rw e refl

bytes_even : (ns : List ℕ) → length ns ≡ 2 * length (pairs ns) → nibble_bytes ns ≡ Some (pairs ns)
unfolding pairs
bytes_even [] h = refl
bytes_even (a ∷ []) h = absurd (omega arith)
bytes_even (a ∷ b ∷ r) h = let e : nibble_bytes r ≡ Some (pairs r) = bytes_even r (omega arith) in rw e refl

map_none : {A : Type 0} (f : A → A) (o : Option A) → ((a : A) → f a ≡ a) → option_map f o ≡ o
map_none f None h = refl
map_none f (Some a) h = ap (λ x. Some x) (h a)

step : (x : ℕ) (xs : List ℕ) (o : Option (List ℕ)) → then_if_some (option_map (λ bs. xs ++ bs) o) (λ bs. Some (x ∷ bs)) ≡ option_map (λ bs. (x ∷ xs) ++ bs) o
step x xs None = refl
step x xs (Some bs) = refl

-- the first k bytes, and the others
bytes_prefix : (ns : List ℕ) (k : ℕ) → 2 * k ≤ length ns → nibble_bytes ns ≡ option_map (λ bs. take k (pairs ns) ++ bs) (nibble_bytes (drop (2 * k) ns))
unfolding pairs
bytes_prefix ns zero h = sym (map_none (λ bs. bs) (nibble_bytes ns) (λ bs. refl))
bytes_prefix [] (suc k) h = absurd (omega arith)
bytes_prefix (a ∷ []) (suc k) h = absurd (omega arith)
bytes_prefix (a ∷ b ∷ r) (suc k) h =
    let e : 2 * suc k ≡ suc (suc (2 * k)) = omega arith in
    let x : ℕ = nibble a * 16 + nibble b in
    ap (λ o. then_if_some o (λ bs. Some (x ∷ bs))) (bytes_prefix r k (omega arith))
    ∙ step x (take k (pairs r)) (nibble_bytes (drop (2 * k) r))
    ∙ ap (λ n. option_map (λ bs. (x ∷ take k (pairs r)) ++ bs) (nibble_bytes (drop n (a ∷ b ∷ r)))) (sym e)

-- a character before bytes
utf8_step : (c : ℕ) (bs : List ℕ) → IsScalar c → only_if (is_utf8 (encode_utf8 c ++ bs)) (chars (encode_utf8 c ++ bs)) ≡ option_map (λ cs. c ∷ cs) (only_if (is_utf8 bs) (chars bs))
utf8_step c bs sc = go (is_utf8 bs) (is_utf8 (encode_utf8 c ++ bs)) refl refl where
  go : (t u : Bool) → is_utf8 bs ≡ t → is_utf8 (encode_utf8 c ++ bs) ≡ u → only_if u (chars (encode_utf8 c ++ bs)) ≡ option_map (λ cs. c ∷ cs) (only_if t (chars bs))
  go true true e f = ap (λ x. Some x) (chars_past_char (encode_utf8 c ++ bs) bs c (IsUtf8-from_is_utf8 _ f) refl)
  go true false e f =
      let u : is_utf8 (encode_utf8 c ++ bs) ≡ true = is_utf8-from_IsUtf8 _ (IsUtf8-append (encode_utf8 c) bs (IsUtf8-encode c sc) (IsUtf8-from_is_utf8 bs e)) in
      absurd (cc)
  go false true e f =
      let t : is_utf8 bs ≡ true = is_utf8-from_IsUtf8 bs (IsUtf8-past_char (encode_utf8 c ++ bs) bs c (IsUtf8-from_is_utf8 _ f) refl) in
      absurd (cc)
  go false false e f = refl

strings_step : (c : ℕ) (o : Option (List ℕ)) → IsScalar c
    → then_if_some (option_map (λ bs. encode_utf8 c ++ bs) o) (λ bs. only_if (is_utf8 bs) (chars bs)) ≡ option_map (λ cs. c ∷ cs) (then_if_some o (λ bs. only_if (is_utf8 bs) (chars bs)))
strings_step c None sc = refl
strings_step c (Some bs) sc = utf8_step c bs sc

-- a string that starts with a character
pub string_prefix : (ns : List ℕ) (k c : ℕ) → 2 * k ≤ length ns → take k (pairs ns) ≡ encode_utf8 c → IsScalar c → string_of ns ≡ option_map (λ cs. c ∷ cs) (string_of (drop (2 * k) ns))
unfolding string_of
string_prefix ns k c h e sc =
    ap (λ o. then_if_some o (λ bs. only_if (is_utf8 bs) (chars bs))) (bytes_prefix ns k h ∙ ap (λ xs. option_map (λ bs. xs ++ bs) (nibble_bytes (drop (2 * k) ns))) e)
    ∙ strings_step c (nibble_bytes (drop (2 * k) ns)) sc

-- the bytes of a character at the start
take_char : (c : ℕ) (rest bs : List ℕ) → bs ≡ encode_utf8 c ++ rest → take (len_utf8 c) bs ≡ encode_utf8 c
take_char c rest bs e = ap (take (len_utf8 c)) e ∙ take_at (encode_utf8 c) rest (len_utf8 c) (length-encode c)

char_utf8 : (c : ℕ) (rest bs : List ℕ) → bs ≡ encode_utf8 c ++ rest → IsScalar c → IsUtf8 (take (len_utf8 c) bs)
char_utf8 c rest bs e sc = subst IsUtf8 (sym (take_char c rest bs e)) (IsUtf8-encode c sc)

and_left : (a b : Bool) → (a && b) ≡ true → a ≡ true
and_left true b p = refl
and_left false b p = absurd (cc)

char_len : (c : ℕ) (rest bs : List ℕ) → bs ≡ encode_utf8 c ++ rest → length bs ≡ len_utf8 c + length rest
char_len c rest bs e = ap length e ∙ length-append (encode_utf8 c) rest ∙ ap (λ n. n + length rest) (length-encode c)

-- a text that is not empty starts with a complete character
first_of_text : (bs : List ℕ) → IsUtf8 bs → 0 < length bs → (m : ℕ) × (0 < m) × (m ≤ 4) × (m ≤ length bs) × IsUtf8 (take m bs)
first_of_text bs h some = go h.0 h.1.0 h.1.1 where
  go : (cs : List ℕ) → scalars cs ≡ true → encodes cs ≡ bs → (m : ℕ) × (0 < m) × (m ≤ 4) × (m ≤ length bs) × IsUtf8 (take m bs)
  go [] sc e = absurd (omega (arith, ap length e))
  go (c ∷ cs) sc e =
      let bounds = len_utf8_bounds c in
      let is : IsScalar c = and_left (scalar c) (scalars cs) sc in
      (len_utf8 c, omega arith, omega arith, omega (arith, char_len c (encodes cs) bs (sym e)), char_utf8 c (encodes cs) bs (sym e) is)

only_not : {A : Type 0} (b : Bool) (x : A) → (b ≡ true → ⊥) → only_if b x ≡ None
only_not true x h = absurd (h refl)
only_not false x h = refl

-- no character ends within the first k bytes, and there are no more bytes, or no character has more
pub string_none : (ns : List ℕ) (k : ℕ) → 0 < length ns → ((m : ℕ) → 0 < m → m ≤ k → IsUtf8 (take m (pairs ns)) → ⊥) → (4 ≤ k) ⊎ (length ns < 2 * k + 2) → string_of ns ≡ None
unfolding string_of
string_none ns k some none stop = go (cases_lt (2 * length (pairs ns)) (length ns)) where
  within : (m : ℕ) → m ≤ 4 → m ≤ length (pairs ns) → (4 ≤ k) ⊎ (length ns < 2 * k + 2) → m ≤ k
  within m h l (inl e) = omega arith
  within m h l (inr e) = let n = length-pairs ns in omega arith

  none_whole : length ns ≤ 2 * length (pairs ns) → is_utf8 (pairs ns) ≡ true → ⊥
  none_whole le u =
      let f = first_of_text (pairs ns) (IsUtf8-from_is_utf8 _ u) (omega arith) in
      none f.0 f.1 (within f.0 f.2 f.3 stop) f.4

  go : (2 * length (pairs ns) < length ns) ⊎ (length ns ≤ 2 * length (pairs ns)) → then_if_some (nibble_bytes ns) (λ bs. only_if (is_utf8 bs) (chars bs)) ≡ None
  go (inl lt) = let n = length-pairs ns in let e : nibble_bytes ns ≡ None = bytes_odd ns (omega arith) in rw e refl
  go (inr le) =
      let n = length-pairs ns in
      let e : nibble_bytes ns ≡ Some (pairs ns) = bytes_even ns (omega arith) in
      rw e (only_not (is_utf8 (pairs ns)) (chars (pairs ns)) (none_whole le))

no_bytes : (rest : List ℕ) → length rest ≡ 0 → rest ≡ []
no_bytes [] h = refl
no_bytes (x ∷ rest) h = absurd (omega arith)

-- a text of n bytes is one character, if no shorter prefix is a text
pub one_char : (t rest : List ℕ) (c n : ℕ) → t ≡ encode_utf8 c ++ rest → length t ≡ n → IsScalar c → ((m : ℕ) → 0 < m → m < n → IsUtf8 (take m t) → ⊥) → t ≡ encode_utf8 c
one_char t rest c n e len sc none = go (cases_lt (len_utf8 c) n) where
  bounds : (0 < len_utf8 c) × (length t ≡ len_utf8 c + length rest)
  bounds = let b = len_utf8_bounds c in (omega arith, char_len c rest t e)

  go : (len_utf8 c < n) ⊎ (n ≤ len_utf8 c) → t ≡ encode_utf8 c
  go (inl lt) = absurd (none (len_utf8 c) bounds.0 lt (char_utf8 c rest t e sc))
  go (inr le) =
      let b = bounds in
      let nothing : rest ≡ [] = no_bytes rest (omega arith) in
      e ∙ ap (λ x. encode_utf8 c ++ x) nothing ∙ append-nil (encode_utf8 c)

-- the rest of a part after its first k bytes
pub part_after : (s : List ℕ) (i k to : ℕ) → i + k ≤ to → drop k (slice_range s i to) ≡ slice_range s (i + k) to
part_after s i k to le =
    let n : to - i ≡ k + (to - (i + k)) = omega arith in
    ap (λ m. drop k (take m (drop i s))) n ∙ drop-take k (to - (i + k)) (drop i s) ∙ ap (take (to - (i + k))) (drop-drop k i s)

-- one more byte of a part
pub pair_more : (s : List ℕ) (from to k b : ℕ) → to ≤ length s → from + 2 * k + 2 ≤ to → b ≡ nibble (get_or s (from + 2 * k) 0) * 16 + nibble (get_or s (from + 2 * k + 1) 0)
    → take (k + 1) (pairs (slice_range s from to)) ≡ take k (pairs (slice_range s from to)) ++ b ∷ []
pair_more s from to k b inside two is =
    let ns : List ℕ = slice_range s from to in
    let n : length ns ≡ to - from = length-between s from to inside in
    let le : 2 * k + 2 ≤ length ns = omega arith in
    let p = length-pairs ns in
    let few : k < length (pairs ns) = omega arith in
    let first : get_or ns (2 * k) 0 ≡ get_or s (from + 2 * k) 0 = get_or-between s from to (2 * k) 0 (omega arith) in
    let place : from + (2 * k + 1) ≡ from + 2 * k + 1 = omega arith in
    let second : get_or ns (2 * k + 1) 0 ≡ get_or s (from + 2 * k + 1) 0 = get_or-between s from to (2 * k + 1) 0 (omega arith) ∙ ap (λ x. get_or s x 0) place in
    take_more (pairs ns) k 0 few
    ∙ ap (λ x. take k (pairs ns) ++ x ∷ []) (pair_at ns k le ∙ ap (λ x. nibble x * 16 + nibble (get_or ns (2 * k + 1) 0)) first ∙ ap (λ x. nibble (get_or s (from + 2 * k) 0) * 16 + nibble x) second ∙ sym is)

-- no character ends within one more byte
pub none_more : (bs : List ℕ) (k : ℕ) → ((m : ℕ) → 0 < m → m ≤ k → IsUtf8 (take m bs) → ⊥) → (IsUtf8 (take (k + 1) bs) → ⊥) → (m : ℕ) → 0 < m → m ≤ k + 1 → IsUtf8 (take m bs) → ⊥
none_more bs k none last m some le u = go (cases_lt k m) where
  go : (k < m) ⊎ (m ≤ k) → ⊥
  go (inl lt) = let e : m ≡ k + 1 = omega arith in last (subst (λ x. IsUtf8 (take x bs)) e u)
  go (inr le') = none m some le' u

-- one more byte was read
pub bytes_step : (bytes bs : List ℕ) (k v : ℕ) → k < length bytes → take k bytes ≡ take k bs → take (k + 1) bs ≡ take k bs ++ v ∷ [] → take (k + 1) (set bytes k v) ≡ take (k + 1) bs
bytes_step bytes bs k v lt e f = take_more_set bytes k v lt ∙ ap (λ x. x ++ v ∷ []) e ∙ sym f

-- the remaining nibbles of a hexadecimal string are those of one
pub hex_later : (s : List ℕ) (from at to j : ℕ) → Hex s from j to → from ≤ at → at ≤ to → Hex s at j to
hex_later s from at to j h begun left = record { nibbles = h.nibbles ∙ run_later is_nibble s from at begun (omega (arith, h.nibbles)); ends = h.ends; next = h.next }
