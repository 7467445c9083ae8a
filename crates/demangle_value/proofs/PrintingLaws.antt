-- The pieces of texts, with the hash or without it, and within a limit.
use Rattle.std.proofs.Common.{◌≡◌, ◌⊎◌, ℕ, ◌+◌, ◌≤◌, Bool, true, false, List, [], ◌∷◌, ◌++◌, length, codes, Option, None, Some, refl, sym, ap, ◌∙◌, arith, cond, subst, inl, inr}
use Rattle.std.specs.Option.{option_map_or}
use Rattle.std.proofs.lemmas.List.{append-nil, append_assoc}
use Rattle.std.proofs.lemmas.Grind.{flat_map-append}
use Rattle.std.proofs.lemmas.Bool.Decides.{leb_tells}
use Rattle.demangle_sink.specs.Cut.{size, prefix_within, cut, kept, marker}
use Rattle.demangle_value.specs.Hashes.{OmitsHash, pieces_after}
use Rattle.demangle_legacy.specs.Legacy.{IsLegacy, legacy_of}
use Rattle.demangle_value.specs.Stripped.{is_allowed}
use Rattle.demangle_value.specs.Symbols.{IsSymbol, form_in, limit_in, pieces_in, handed_in, kept_in, unfolded, handed}
use Rattle.demangle_value.specs.declared.format.Format.{Format}
use Rattle.demangle_v0_grammar.specs.Reading.{form}
use Rattle.demangle_value.specs.Shape.{unlimited_form}
use Rattle.demangle_legacy.specs.Unescaped.{unescaped, is_hash, printed_elements, joined_pieces, following_pieces, legacy_pieces}
use Rattle.demangle_sink.proofs.CutLemmas.{size-append, fitting-within}
use Rattle.demangle_sink.proofs.PrintsLemmas.{cut-within, cut-past}
use Rattle.demangle_legacy.proofs.LegacyLaws.{legacy_spelled}
use Rattle.demangle_value.proofs.SymbolLemmas.{symbol-pieces, pieces-legacy}

pub handed-some_of : (text : List ℕ) (format : Format) (read : List (List ℕ) × List ℕ) → pieces_in (form_in format text) text ≡ Some read → handed_in text format ≡ cut read.0 (limit_in format text) ++ read.1 ∷ []
handed-some_of text format read e = ap (λ o. option_map_or (λ (r : List (List ℕ) × List ℕ). cut r.0 (limit_in format text) ++ r.1 ∷ []) o (text ∷ [])) e

pub handed-no_symbol : (text : List ℕ) → (IsSymbol text → ⊥) → (format : Format) → handed_in text format ≡ text ∷ []
handed-no_symbol text none format = go (pieces_in (form_in format text) text) refl where
  go : (read : Option (List (List ℕ) × List ℕ)) → pieces_in (form_in format text) text ≡ read → option_map_or (λ r. cut r.0 (limit_in format text) ++ r.1 ∷ []) read (text ∷ []) ≡ text ∷ []
  go None e = refl
  go (Some read) e = absurd (none (symbol-pieces (form_in format text) text read e))

pub kept-no_symbol : (text : List ℕ) → (IsSymbol text → ⊥) → (format : Format) → kept_in text format ≡ 0
kept-no_symbol text none format = go (pieces_in (form_in format text) text) refl where
  go : (read : Option (List (List ℕ) × List ℕ)) → pieces_in (form_in format text) text ≡ read → option_map_or (λ r. kept r.0 (limit_in format text)) read 0 ≡ 0
  go None e = refl
  go (Some read) e = absurd (none (symbol-pieces (form_in format text) text read e))

-- cut pieces have at most the bytes of the limit and of the marker
pub size-cut : (pieces : List (List ℕ)) (limit : ℕ) → size (cut pieces limit) ≤ limit + 20
size-cut pieces limit = elim (leb_tells (size pieces) limit) [
  | inl e ↦ let within : size pieces ≤ limit = e.1 in omega (arith, ap size (cut-within pieces limit within))
  | inr e ↦ omega (arith, ap size (cut-past pieces limit e.1), size-append (prefix_within pieces limit) (marker ∷ []), fitting-within pieces limit)
]

pub size-handed : (text : List ℕ) (format : Format) (pieces : List (List ℕ)) (suffix : List ℕ) → pieces_in (form_in format text) text ≡ Some (pieces, suffix)
    → size (handed_in text format) ≤ (limit_in format text) + 20 + length suffix
size-handed text format pieces suffix e =
    omega (arith, ap size (handed-some_of text format (pieces, suffix) e), size-append (cut pieces (limit_in format text)) (suffix ∷ []), size-cut pieces (limit_in format text))

-- with the hash, all elements are printed
printed-all : (elements : List (List ℕ)) → printed_elements true elements ≡ elements
unfolding printed_elements
printed-all [] = refl
printed-all (e ∷ []) = refl
printed-all (e ∷ f ∷ es) = ap (λ xs. e ∷ xs) (printed-all (f ∷ es))

-- without the hash, all elements, or all except a last one that is a hash
printed-cases : (elements : List (List ℕ)) → (printed_elements false elements ≡ elements)
    ⊎ ((prefix : List (List ℕ)) × (last : List ℕ) × (elements ≡ prefix ++ last ∷ []) × (printed_elements false elements ≡ prefix) × (is_hash last ≡ true))
unfolding printed_elements
printed-cases [] = inl refl
printed-cases (e ∷ []) = go (is_hash e) refl where
  go : (b : Bool) → is_hash e ≡ b → (cond b [] (e ∷ []) ≡ e ∷ [])
      ⊎ ((prefix : List (List ℕ)) × (last : List ℕ) × (e ∷ [] ≡ prefix ++ last ∷ []) × (cond b [] (e ∷ []) ≡ prefix) × (is_hash last ≡ true))
  go true is = inr ([], e, refl, refl, is)
  go false is = inl refl
printed-cases (e ∷ f ∷ es) = elim (printed-cases (f ∷ es)) [
  | inl same ↦ inl (ap (λ xs. e ∷ xs) same)
  | inr h ↦ inr (e ∷ h.0, h.1, ap (λ xs. e ∷ xs) h.2, ap (λ xs. e ∷ xs) h.3, h.4)
]

-- the pieces of a list with one more element
joined-last : (prefix : List (List ℕ)) (last : List ℕ) → joined_pieces (prefix ++ last ∷ []) ≡ joined_pieces prefix ++ pieces_after prefix last
joined-last [] last = append-nil (unescaped last)
joined-last (e ∷ es) last =
    ap (λ xs. unescaped e ++ xs) (flat_map-append (λ f. codes "::" ∷ unescaped f) es (last ∷ []) ∙ ap (λ xs. following_pieces es ++ xs) (append-nil (codes "::" ∷ unescaped last)))
    ∙ sym (append_assoc (unescaped e) (following_pieces es) (codes "::" ∷ unescaped last))

pub hash-last : (text : List ℕ) (elements : List (List ℕ)) (suffix : List ℕ) (limit : ℕ) → IsLegacy text elements suffix → is_allowed suffix ≡ true
    → size (legacy_pieces (form true false) elements) ≤ limit → (handed text false limit ≡ handed text true limit) ⊎ OmitsHash text elements suffix limit
hash-last text elements suffix limit legacy allowed within =
    let read : legacy_of text ≡ Some (elements, suffix) = legacy_spelled text elements suffix legacy in
    let all : legacy_pieces (form true false) elements ≡ joined_pieces elements = ap joined_pieces (printed-all elements) in
    let full : handed text true limit ≡ joined_pieces elements ++ suffix ∷ [] =
    handed-some_of text (unfolded true limit) (legacy_pieces (form true false) elements, suffix) (pieces-legacy (unlimited_form true false) text elements suffix read allowed)
    ∙ ap (λ xs. xs ++ suffix ∷ []) (cut-within (legacy_pieces (form true false) elements) limit within ∙ all) in
    let short : handed text false limit ≡ cut (joined_pieces (printed_elements false elements)) limit ++ suffix ∷ [] =
    handed-some_of text (unfolded false limit) (legacy_pieces (form false false) elements, suffix) (pieces-legacy (unlimited_form false false) text elements suffix read allowed) in
    elim (printed-cases elements) [
      | inl same ↦ inl (short ∙ ap (λ es. cut (joined_pieces es) limit ++ suffix ∷ []) same
          ∙ ap (λ xs. xs ++ suffix ∷ []) (cut-within (joined_pieces elements) limit (subst (λ xs. size xs ≤ limit) all within)) ∙ sym full)
      | inr h ↦
          let parts : joined_pieces elements ≡ joined_pieces h.0 ++ pieces_after h.0 h.1 = ap joined_pieces h.2 ∙ joined-last h.0 h.1 in
          let room : size (joined_pieces h.0) ≤ limit = omega (arith, ap size all, ap size parts, size-append (joined_pieces h.0) (pieces_after h.0 h.1)) in
          inr (record {
            prefix = h.0;
            last = h.1;
            whole = h.2;
            hash = h.4;
            with_hash = full ∙ ap (λ xs. xs ++ suffix ∷ []) parts;
            without_hash = short ∙ ap (λ es. cut (joined_pieces es) limit ++ suffix ∷ []) h.3 ∙ ap (λ xs. xs ++ suffix ∷ []) (cut-within (joined_pieces h.0) limit room);
          })
    ]
