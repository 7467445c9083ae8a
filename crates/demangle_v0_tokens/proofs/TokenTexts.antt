-- The texts of binders, ABIs, names and numbers, in the order in which they are printed.
use Rattle.std.proofs.Common.{◌≡◌, ℕ, zero, suc, ◌+◌, ◌/◌, ◌%◌, ◌<◌, ◌≤◌, Bool, true, false, cond, eqb, List, [], ◌∷◌, ◌++◌, length, get_or, refl, sym, ap, ◌∙◌, arith}
use Rattle.std.specs.Prelude.{◌&&◌, not, codes}
use Rattle.std.specs.List.{slice_range}
use Rattle.std.specs.Str.{IsAscii}
use Rattle.std.specs.Fmt.{digits, digits_onto, digit_glyph}
use Rattle.std.proofs.lemmas.Bool.Decides.{nat_tests}
use Rattle.std.proofs.lemmas.List.Edits.{between_more, between_none}
use Rattle.std.proofs.lemmas.Option.{slice_get-get_or}
use Rattle.std.proofs.lemmas.Str.Ascii.{IsAscii-cons, IsAscii-nil}
use Rattle.demangle_symbol.specs.Digits.{is_byte, option_is}
use Rattle.demangle_symbol.specs.Names.{is_empty}
use Rattle.demangle_v0_grammar.specs.Binders.{binder_texts, more_texts}
use Rattle.demangle_v0_tokens.specs.Tokens.{if_plain}
use Rattle.demangle_v0_grammar.specs.Reading.{letter_of}
use Rattle.demangle_v0_grammar.specs.Table.{hyphenated_abi}
use Rattle.demangle_sink.proofs.Parts.{part_first}

-- the first lifetime of a binder
pub binder_first : (k m n : ℕ) → k ≡ suc m → binder_texts k n ≡ (codes "for<" ∷ codes "'" ∷ letter_of n) ++ more_texts m (n + 1)
unfolding binder_texts
binder_first k m n e = rw e refl

pub binder_none : (k n : ℕ) → k ≡ 0 → binder_texts k n ≡ []
unfolding binder_texts
binder_none k n e = rw e refl

-- one more text, after others
pub more_turn : (k m n n' : ℕ) → k ≡ suc m → n' ≡ n + 1 → more_texts k n ≡ (codes ", " ∷ codes "'" ∷ letter_of n) ++ more_texts m n'
unfolding more_texts
more_turn k m n n' e f = rw (e, f) refl

pub more_end : (k n : ℕ) → k ≡ 0 → more_texts k n ≡ codes "> " ∷ []
unfolding more_texts
more_end k n e = rw e refl

-- the name of an ABI before any byte of it is read
pub hyphen_start : (s : List ℕ) (from to : ℕ) → hyphenated_abi (slice_range s from from) (slice_range s from to) ≡ hyphenated_abi [] (slice_range s from to)
hyphen_start s from to = ap (λ part. hyphenated_abi part (slice_range s from to)) (between_none s from)

-- whether the byte at a place is this one
byte_is : (s : List ℕ) (at b : ℕ) (c : Bool) → at < length s → is_byte s at b ≡ c → eqb (get_or s at 0) b ≡ c
unfolding is_byte
byte_is s at b c h e = ap (λ o. option_is o b) (sym (slice_get-get_or s at 0 h)) ∙ e

-- a `_` ends a part
pub hyphen_turn : (s : List ℕ) (from at to : ℕ) → at < to → to ≤ length s → is_byte s at 95 ≡ true → hyphenated_abi (slice_range s from at) (slice_range s at to) ≡ (slice_range s from at ∷ codes "-" ∷ []) ++ hyphenated_abi (slice_range s (at + 1) (at + 1)) (slice_range s (at + 1) to)
hyphen_turn s from at to lt inside e =
    let first = part_first s at to lt inside in
    let is : eqb (get_or s at 0) 95 ≡ true = byte_is s at 95 true (omega arith) e in
    rw (first, is, between_none s (at + 1)) refl

-- any other byte belongs to a part
pub hyphen_on : (s : List ℕ) (from at to : ℕ) → from ≤ at → at < to → to ≤ length s → is_byte s at 95 ≡ false → hyphenated_abi (slice_range s from at) (slice_range s at to) ≡ hyphenated_abi (slice_range s from (at + 1)) (slice_range s (at + 1) to)
hyphen_on s from at to le lt inside e =
    let first = part_first s at to lt inside in
    let more : slice_range s from (at + 1) ≡ slice_range s from at ++ get_or s at 0 ∷ [] = between_more s from at 0 le (omega arith) in
    let is : eqb (get_or s at 0) 95 ≡ false = byte_is s at 95 false (omega arith) e in
    rw (first, is, more) refl

-- at the end, the last part remains
pub hyphen_end : (s : List ℕ) (from at to : ℕ) → at ≡ to → hyphenated_abi (slice_range s from at) (slice_range s at to) ≡ slice_range s from to ∷ []
hyphen_end s from at to e = rw (e, between_none s to) refl

-- a disambiguator in brackets
pub brackets_some : (d : ℕ) (plain : Bool) → 0 < d → not plain ≡ false → cond (eqb d 0) [] (if_plain plain (codes "[" ∷ digits 16 false d ∷ codes "]" ∷ [])) ≡ codes "[" ∷ digits 16 false d ∷ codes "]" ∷ []
brackets_some d true h e = let t : eqb d 0 ≡ false = grind (arith, nat_tests) in rw t refl
brackets_some d false h e = cc e

-- hexadecimal digits are ASCII
glyph_small : (d : ℕ) → d < 16 → digit_glyph false d < 128
glyph_small d h = grind (arith, nat_tests)

onto_ascii : (k n : ℕ) (text : List ℕ) → IsAscii text → IsAscii (digits_onto k 16 false n text)
onto_ascii zero n text h = h
onto_ascii (suc k) n text h =
    let h' : IsAscii (digit_glyph false (n % 16) ∷ text) = IsAscii-cons _ text (glyph_small (n % 16) (omega arith)) h in
    go (eqb (n / 16) 0) h' (onto_ascii k (n / 16) (digit_glyph false (n % 16) ∷ text) h')
  where
    go : (c : Bool) → IsAscii (digit_glyph false (n % 16) ∷ text) → IsAscii (digits_onto k 16 false (n / 16) (digit_glyph false (n % 16) ∷ text)) → IsAscii (cond c (digit_glyph false (n % 16) ∷ text) (digits_onto k 16 false (n / 16) (digit_glyph false (n % 16) ∷ text)))
    go true a b = a
    go false a b = b

pub hex_ascii : (n : ℕ) → IsAscii (digits 16 false n)
unfolding digits
hex_ascii n = onto_ascii 64 n [] IsAscii-nil

-- a name with bytes in its ASCII part, and one without
pub name_there : (xs ys : List ℕ) → 0 < length xs → false ≡ (is_empty xs && is_empty ys)
name_there [] ys h = absurd (omega arith)
name_there (x ∷ xs) ys h = refl

pub name_left : (xs ys : List ℕ) → length xs ≤ 0 → eqb (length ys) 0 ≡ (is_empty xs && is_empty ys)
name_left [] [] h = refl
name_left [] (y ∷ ys) h = grind (arith, nat_tests)
name_left (x ∷ xs) ys h = absurd (omega arith)

pub ruleset name_steps = (name_there, name_left)
