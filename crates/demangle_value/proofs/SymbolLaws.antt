-- Facts on every symbol: it is ASCII, and its text is bounded.
use Rattle.std.proofs.Common.{◌≡◌, ℕ, ◌+◌, ◌<◌, ◌≤◌, Bool, true, false, cond, ◌&&◌, List, [], ◌∷◌, length, drop, refl, sym, subst, arith, inl, inr, nat_eq}
use Rattle.std.specs.Prelude.{codes, IsAscii, IsUtf8}
use Rattle.std.specs.List.{concat, starts_with, list_all}
use Rattle.std.proofs.lemmas.List.{length-append}
use Rattle.std.proofs.lemmas.Str.{IsUtf8-from_ascii, IsAscii-append, IsAscii-drop}
use Rattle.std.proofs.lemmas.Str.Ascii.{IsAscii-nil, IsAscii-cons}
use Rattle.std.proofs.lemmas.Bool.Decides.{nat_tests}
use Rattle.demangle_sink.specs.Cut.{size}
use Rattle.demangle_legacy.specs.Legacy.{IsLegacyPrefix}
use Rattle.demangle_legacy.specs.Unescaped.{legacy_pieces}
use Rattle.demangle_value.specs.Shape.{path_pieces}
use Rattle.demangle_value.specs.Stripped.{stripped, is_thin_lto}
use Rattle.demangle_value.specs.Symbols.{IsSymbol, form_in, limit_in, handed_in, handed, unfolded}
use Rattle.demangle_value.specs.declared.format.Format.{Format}
use Rattle.demangle_v0_grammar.specs.V0.{IsV0Prefix}
use Rattle.demangle_legacy.proofs.LegacyLaws.{legacy_spelled}
use Rattle.demangle_value.proofs.PrintingLaws.{size-handed}
use Rattle.demangle_value.proofs.Stripping.{ending, begins}
use Rattle.demangle_value.proofs.SymbolLemmas.{pieces-legacy, pieces-v0, suffix-shorter, v0_suffix-shorter}
use Rattle.demangle_v0_grammar.proofs.V0Reading.{v0_is_read}

thin_lto_ascii : (c : ℕ) → is_thin_lto c ≡ true → c < 128
thin_lto_ascii c h = grind (arith, nat_tests)

all_thin : (s : List ℕ) → list_all is_thin_lto s ≡ true → IsAscii s
all_thin [] h = IsAscii-nil
all_thin (c ∷ s) h = go (is_thin_lto c) refl h (λ h. all_thin s h) where
  go : (b : Bool) → is_thin_lto c ≡ b → (b && list_all is_thin_lto s) ≡ true → (list_all is_thin_lto s ≡ true → IsAscii s) → IsAscii (c ∷ s)
  go true e h rest = IsAscii-cons c s (thin_lto_ascii c e) (rest h)
  go false e h rest = cc

two : (a b : ℕ) (s : List ℕ) → a < 128 → b < 128 → IsAscii s → IsAscii (a ∷ b ∷ s)
two a b s p q h = IsAscii-cons a (b ∷ s) p (IsAscii-cons b s q h)

ending_ascii : (rest : List ℕ) → IsAscii rest → IsAscii (ending rest)
ending_ascii rest h =
    let vm = two 109 46 rest (omega arith) (omega arith) h in
    let lv = two 108 118 (109 ∷ 46 ∷ rest) (omega arith) (omega arith) vm in
    two 46 108 (108 ∷ 118 ∷ 109 ∷ 46 ∷ rest) (omega arith) (omega arith) lv

-- a text is ASCII if it is ASCII without its suffix
stripped_ascii : (s : List ℕ) → IsAscii (stripped s) → IsAscii s
unfolding stripped
stripped_ascii [] h = h
stripped_ascii (c ∷ s) h = go (starts_with nat_eq (c ∷ s) (codes ".llvm.")) refl (list_all is_thin_lto (drop 5 s)) refl h (λ g. stripped_ascii s g) where
  go : (b : Bool) → starts_with nat_eq (c ∷ s) (codes ".llvm.") ≡ b → (d : Bool) → list_all is_thin_lto (drop 5 s) ≡ d
      → IsAscii (cond b (cond d [] (c ∷ s)) (c ∷ stripped s)) → (IsAscii (stripped s) → IsAscii s) → IsAscii (c ∷ s)
  go true e true f h rest = subst IsAscii (sym (begins (c ∷ s) e)) (ending_ascii (drop 5 s) (all_thin (drop 5 s) f))
  go true e false f h rest = h
  go false e d f h rest = IsAscii-cons c s (h 0) (rest (IsAscii-drop (c ∷ stripped s) 1 h))

one : (a : ℕ) → a < 128 → IsAscii (a ∷ [])
one a p = IsAscii-cons a [] p IsAscii-nil

legacy_prefix : (p : List ℕ) → IsLegacyPrefix p → IsAscii p
legacy_prefix p (inl e) = subst IsAscii (sym e) (two 95 90 (78 ∷ []) (omega arith) (omega arith) (one 78 (omega arith)))
legacy_prefix p (inr (inl e)) = subst IsAscii (sym e) (two 90 78 [] (omega arith) (omega arith) IsAscii-nil)
legacy_prefix p (inr (inr e)) = subst IsAscii (sym e) (two 95 95 (90 ∷ 78 ∷ []) (omega arith) (omega arith) (two 90 78 [] (omega arith) (omega arith) IsAscii-nil))

v0_prefix : (p : List ℕ) → IsV0Prefix p → IsAscii p
v0_prefix p (inl e) = subst IsAscii (sym e) (two 95 82 [] (omega arith) (omega arith) IsAscii-nil)
v0_prefix p (inr (inl e)) = subst IsAscii (sym e) (one 82 (omega arith))
v0_prefix p (inr (inr e)) = subst IsAscii (sym e) (two 95 95 (82 ∷ []) (omega arith) (omega arith) (one 82 (omega arith)))

pub symbol_ascii : (text : List ℕ) → IsSymbol text → IsAscii text
symbol_ascii text (inl (elements, suffix, legacy, allowed)) =
    subst IsAscii (sym legacy.2) (IsAscii-append legacy.0 legacy.1 (legacy_prefix legacy.0 legacy.3) legacy.4)
symbol_ascii text (inr (inner, suffix, v0, allowed)) =
    subst IsAscii (sym v0.1) (IsAscii-append v0.0 inner (v0_prefix v0.0 v0.2) v0.3)

pub symbols_ascii : (bytes : List ℕ) → IsSymbol (stripped bytes) → IsAscii bytes
symbols_ascii bytes is = stripped_ascii bytes (symbol_ascii (stripped bytes) is)

pub symbols_utf8 : (bytes : List ℕ) → IsSymbol (stripped bytes) → IsUtf8 bytes
symbols_utf8 bytes is = IsUtf8-from_ascii bytes (symbols_ascii bytes is)

pub length-concat : (pieces : List (List ℕ)) → length (concat pieces) ≡ size pieces
length-concat [] = refl
length-concat (piece ∷ pieces) = omega (arith, length-append piece (concat pieces), length-concat pieces)

pub size_symbol_in : (text : List ℕ) (format : Format) → IsSymbol text → size (handed_in text format) ≤ (limit_in format text) + 20 + length text
size_symbol_in text format (inl (elements, suffix, legacy, allowed)) =
    let read = legacy_spelled text elements suffix legacy in
    omega (arith, size-handed text format (legacy_pieces format.form elements) suffix (pieces-legacy (form_in format text) text elements suffix read allowed), suffix-shorter text elements suffix read)
size_symbol_in text format (inr (inner, suffix, v0, allowed)) =
    let read = v0_is_read text inner suffix v0 in
    omega (arith, size-handed text format (path_pieces inner (form_in format text)) suffix (pieces-v0 (form_in format text) text inner suffix read allowed), v0_suffix-shorter text inner suffix read)

pub length_handed_in : (text : List ℕ) (format : Format) → IsSymbol text → length (concat (handed_in text format)) ≤ (limit_in format text) + 20 + length text
length_handed_in text format is = omega (arith, length-concat (handed_in text format), size_symbol_in text format is)

-- the same with or without the hash, and with generic arguments

pub size_symbol : (text : List ℕ) (hash : Bool) (limit : ℕ) → IsSymbol text → size (handed text hash limit) ≤ limit + 20 + length text
size_symbol text hash limit is = size_symbol_in text (unfolded hash limit) is

pub length_handed : (text : List ℕ) (hash : Bool) (limit : ℕ) → IsSymbol text → length (concat (handed text hash limit)) ≤ limit + 20 + length text
length_handed text hash limit is = length_handed_in text (unfolded hash limit) is
