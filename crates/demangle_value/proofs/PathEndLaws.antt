-- The end of a symbol's path.
use Rattle.std.proofs.Common.{◌≡◌, ℕ, ◌+◌, ◌-◌, ◌<◌, ◌≤◌, Bool, true, false, List, [], ◌∷◌, ◌++◌, length, take, drop, Option, None, Some, refl, sym, ap, ◌∙◌, arith, cond, inl, inr}
use Rattle.std.specs.Prelude.{IsAscii, nat_lt}
use Rattle.std.specs.List.{list_all}
use Rattle.std.specs.Option.{option_map_or}
use Prim.Native.Nat.{min}
use Rattle.std.proofs.lemmas.Bool.Decides.{leb_tells}
use Rattle.std.proofs.lemmas.List.{append_assoc, take-append-drop, drop_at, drop_all, length-append, length-drop}
use Rattle.demangle_sink.specs.Cut.{size, cut}
use Rattle.demangle_sink.proofs.CutLemmas.{size-append}
use Rattle.demangle_legacy.specs.Legacy.{IsLegacyPrefix}
use Rattle.demangle_legacy.specs.Unescaped.{legacy_pieces}
use Rattle.demangle_value.specs.Shape.{unlimited_form, path_pieces}
use Rattle.demangle_legacy.proofs.LegacyLaws.{legacy_spelled}
use Rattle.demangle_v0_grammar.specs.Reading.{form, path_texts}
use Rattle.demangle_v0_grammar.specs.V0.{IsV0Prefix, v0_inner}
use Rattle.demangle_v0_grammar.proofs.V0Reading.{v0_is_read, ascii_all, all_ascii, prefix_inner}
use Rattle.demangle_value.specs.PathEnds.{path_len_of, v0_ascii, handed_with_path_len}
use Rattle.demangle_value.specs.Style.{HasStyle, style_pieces}
use Rattle.demangle_value.specs.Symbols.{IsSymbol, pieces_of, handed, unfolded}
use Rattle.demangle_value.specs.declared.value.DemangleStyle.{DemangleStyle}
use Rattle.demangle_value.proofs.AllReferences.{unlimited_pieces}
use Rattle.demangle_value.proofs.PrintingLaws.{handed-some_of, size-cut}
use Rattle.demangle_value.proofs.SymbolLaws.{size_symbol, symbol_ascii}
use Rattle.demangle_value.proofs.SymbolLemmas.{elements-shorter, pieces-legacy, pieces-v0, styled-pieces, symbol-pieces}

path_len-some : (text : List ℕ) (pieces : List (List ℕ)) (suffix : List ℕ) → pieces_of true text ≡ Some (pieces, suffix) → path_len_of text ≡ length text - length suffix
path_len-some text pieces suffix e = ap (λ o. option_map_or (λ (r : List (List ℕ) × List ℕ). length text - length r.1) o 0) e

pub path_len-styled : (text : List ℕ) (style : DemangleStyle) (suffix : List ℕ) → HasStyle text style suffix → path_len_of text ≡ length text - length suffix
path_len-styled text style suffix has = path_len-some text (style_pieces (unlimited_form true false) style) suffix (styled-pieces (unlimited_form true false) text style suffix has)

-- a prefix is not empty
legacy_prefix-len : (p : List ℕ) → IsLegacyPrefix p → 0 < length p
legacy_prefix-len p (inl e) = let len : length p ≡ 3 = ap length e in omega arith
legacy_prefix-len p (inr (inl e)) = let len : length p ≡ 2 = ap length e in omega arith
legacy_prefix-len p (inr (inr e)) = let len : length p ≡ 4 = ap length e in omega arith

v0_prefix-len : (p : List ℕ) → IsV0Prefix p → 0 < length p
v0_prefix-len p (inl e) = let len : length p ≡ 2 = ap length e in omega arith
v0_prefix-len p (inr (inl e)) = let len : length p ≡ 1 = ap length e in omega arith
v0_prefix-len p (inr (inr e)) = let len : length p ≡ 3 = ap length e in omega arith

-- a symbol has a path before its suffix
pub path_len_positive : (text : List ℕ) → IsSymbol text → 0 < path_len_of text
path_len_positive text (inl (elements, suffix, legacy, allowed)) =
    let len = path_len-some text (legacy_pieces (form true false) elements) suffix (pieces-legacy (unlimited_form true false) text elements suffix (legacy_spelled text elements suffix legacy) allowed) in
    let below : length suffix ≤ length legacy.1 = elements-shorter elements legacy.1 suffix legacy.5 in
    let prefix : 0 < length legacy.0 = legacy_prefix-len legacy.0 legacy.3 in
    omega (arith, len, below, prefix, ap length legacy.2, length-append legacy.0 legacy.1)
path_len_positive text (inr (inner, suffix, v0, allowed)) =
    let len = path_len-some text (path_pieces inner (unlimited_form true false)) suffix (pieces-v0 (unlimited_form true false) text inner suffix (v0_is_read text inner suffix v0) allowed) in
    let prefix : 0 < length v0.0 = v0_prefix-len v0.0 v0.2 in
    let part = v0.5 in
    omega (arith, len, prefix, ap length v0.1, length-append v0.0 inner, ap length part.2, length-drop part.0 inner)

-- a v0 symbol is ASCII with a prefix, and a text with a prefix of the legacy scheme has no prefix of v0
pub v0_ascii-ascii : (text : List ℕ) → IsAscii text → v0_ascii text ≡ v0_inner text
v0_ascii-ascii text ascii = ap (λ b. cond b (v0_inner text) None) (ascii_all text ascii)

pub v0_ascii-none : (text : List ℕ) → (IsAscii text → v0_inner text ≡ None) → v0_ascii text ≡ None
v0_ascii-none text none = go (list_all (λ b. nat_lt b 128) text) refl where
  go : (b : Bool) → list_all (λ b. nat_lt b 128) text ≡ b → cond b (v0_inner text) None ≡ None
  go true e = none (all_ascii text e)
  go false e = refl

legacy_not_v0 : (text rest prefix : List ℕ) → text ≡ prefix ++ rest → IsLegacyPrefix prefix → v0_inner text ≡ None
legacy_not_v0 text rest prefix e is = ap v0_inner e ∙ go is where
  go : IsLegacyPrefix prefix → v0_inner (prefix ++ rest) ≡ None
  go (inl e) = ap (λ p. v0_inner (p ++ rest)) e
  go (inr (inl e)) = ap (λ p. v0_inner (p ++ rest)) e
  go (inr (inr e)) = ap (λ p. v0_inner (p ++ rest)) e

pub handed_with_path_len-none : (text : List ℕ) (len : ℕ) (hash : Bool) (limit : ℕ) → v0_ascii text ≡ None → handed_with_path_len text len hash limit ≡ handed text hash limit
handed_with_path_len-none text len hash limit e = ap (λ o. option_map_or (λ inner. cut (path_texts inner (form hash false)) limit ++ drop len text ∷ []) o (handed text hash limit)) e

pub handed_with_path_len-some : (text : List ℕ) (len : ℕ) (hash : Bool) (limit : ℕ) (inner : List ℕ) → v0_ascii text ≡ Some inner
    → handed_with_path_len text len hash limit ≡ cut (path_pieces inner (unlimited_form hash false)) limit ++ drop len text ∷ []
handed_with_path_len-some text len hash limit inner e =
    ap (λ o. option_map_or (λ inner. cut (path_texts inner (form hash false)) limit ++ drop len text ∷ []) o (handed text hash limit)) e
    ∙ ap (λ (xs : List (List ℕ)). cut xs limit ++ drop len text ∷ []) (sym (unlimited_pieces inner hash false))

-- no byte is left after the end of a text
pub drop-min : (n : ℕ) (xs : List ℕ) → drop (min n (length xs)) xs ≡ drop n xs
drop-min n xs = elim (leb_tells n (length xs)) [
  | inl h ↦ ap (λ k. drop k xs) (let within : n ≤ length xs = h.1 in omega (arith, within))
  | inr h ↦
      let past : length xs < n = h.1 in
      let all : min n (length xs) ≡ length xs = omega (arith, past) in
      ap (λ k. drop k xs) all ∙ drop_all (length xs) xs (omega arith) ∙ sym (drop_all n xs (omega (arith, past)))
]

-- the rest after a prefix
behind_front : (text prefix suffix : List ℕ) → text ≡ prefix ++ suffix → drop (length text - length suffix) text ≡ suffix
behind_front text prefix suffix e =
    let at : length prefix ≡ length text - length suffix = omega (arith, ap length e, length-append prefix suffix) in
    ap (λ t. drop (length text - length suffix) t) e ∙ drop_at prefix suffix (length text - length suffix) at

-- the pieces of an ASCII text with a v0 prefix, by the suffix that the code passes
pub handed_with_path_len-cut : (text : List ℕ) (len : ℕ) (hash : Bool) (limit : ℕ) (inner suffix : List ℕ) → IsAscii text → v0_inner text ≡ Some inner
    → suffix ≡ drop (min len (length text)) text → handed_with_path_len text len hash limit ≡ cut (path_pieces inner (unlimited_form hash false)) limit ++ suffix ∷ []
handed_with_path_len-cut text len hash limit inner suffix ascii some is =
    handed_with_path_len-some text len hash limit inner (v0_ascii-ascii text ascii ∙ some)
    ∙ ap (λ s. cut (path_pieces inner (unlimited_form hash false)) limit ++ s ∷ []) (sym (is ∙ drop-min len text))

-- a symbol prints the same if the end of its path is known
pub handed_with_path_len-symbol : (text : List ℕ) (hash : Bool) (limit : ℕ) → IsSymbol text → handed_with_path_len text (path_len_of text) hash limit ≡ handed text hash limit
handed_with_path_len-symbol text hash limit (inl (elements, suffix, legacy, allowed)) =
    handed_with_path_len-none text (path_len_of text) hash limit (v0_ascii-none text (λ _. legacy_not_v0 text legacy.1 legacy.0 legacy.2 legacy.3))
handed_with_path_len-symbol text hash limit (inr (inner, suffix, v0, allowed)) =
    let read = v0_is_read text inner suffix v0 in
    let ascii : IsAscii text = symbol_ascii text (inr (inner, suffix, v0, allowed)) in
    let some : v0_ascii text ≡ Some inner = v0_ascii-ascii text ascii ∙ prefix_inner v0.0 text inner v0.1 v0.2 in
    let part = v0.5 in
    let whole : text ≡ (v0.0 ++ take part.0 inner) ++ suffix =
    v0.1 ∙ ap (λ x. v0.0 ++ x) (sym (take-append-drop part.0 inner)) ∙ sym (append_assoc v0.0 (take part.0 inner) (drop part.0 inner))
    ∙ ap (λ x. (v0.0 ++ take part.0 inner) ++ x) (sym part.2) in
    let len = path_len-some text (path_pieces inner (unlimited_form true false)) suffix (pieces-v0 (unlimited_form true false) text inner suffix read allowed) in
    handed_with_path_len-some text (path_len_of text) hash limit inner some
    ∙ ap (λ s. cut (path_pieces inner (unlimited_form hash false)) limit ++ s ∷ []) (ap (λ n. drop n text) len ∙ behind_front text (v0.0 ++ take part.0 inner) suffix whole)
    ∙ sym (handed-some_of text (unfolded hash limit) (path_pieces inner (unlimited_form hash false), suffix) (pieces-v0 (unlimited_form hash false) text inner suffix read allowed))

-- the pieces of any text are within the limit, the marker and its own bytes
size_handed : (text : List ℕ) (hash : Bool) (limit : ℕ) → size (handed text hash limit) ≤ limit + 20 + length text
size_handed text hash limit = go (pieces_of hash text) refl where
  go : (read : Option (List (List ℕ) × List ℕ)) → pieces_of hash text ≡ read → size (handed text hash limit) ≤ limit + 20 + length text
  go None e =
      let as_is : handed text hash limit ≡ text ∷ [] = ap (λ o. option_map_or (λ (r : List (List ℕ) × List ℕ). cut r.0 limit ++ r.1 ∷ []) o (text ∷ [])) e in
      omega (arith, ap size as_is)
  go (Some read) e = size_symbol text hash limit (symbol-pieces (unlimited_form hash false) text read e)

pub size_handed_with : (text : List ℕ) (len : ℕ) (hash : Bool) (limit : ℕ) → size (handed_with_path_len text len hash limit) ≤ limit + 20 + length text
size_handed_with text len hash limit = go (v0_ascii text) refl where
  go : (read : Option (List ℕ)) → v0_ascii text ≡ read → size (handed_with_path_len text len hash limit) ≤ limit + 20 + length text
  go None e = omega (arith, ap size (handed_with_path_len-none text len hash limit e), size_handed text hash limit)
  go (Some inner) e =
      omega (arith, ap size (handed_with_path_len-some text len hash limit inner e), size-append (cut (path_pieces inner (unlimited_form hash false)) limit) (drop len text ∷ []), size-cut (path_pieces inner (unlimited_form hash false)) limit, length-drop len text)
