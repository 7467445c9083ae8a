-- The pieces of a symbol of each scheme, and the start of its run, by the relations of the schemes.
use Rattle.std.proofs.Common.{◌≡◌, ◌⊎◌, inl, inr, ℕ, true, List, [], ◌∷◌, ◌++◌, drop, get_or, codes, Some, sym, ap, ◌∙◌, arith}
use Rattle.std.specs.Option.{option_map_or}
use Rattle.demangle_sink.specs.Cut.{cut, kept}
use Rattle.demangle_legacy.specs.Legacy.{IsLegacy, IsLegacyPrefix}
use Rattle.demangle_legacy.specs.Unescaped.{legacy_pieces}
use Rattle.demangle_value.specs.Shape.{LimitedForm, path_pieces}
use Rattle.demangle_value.specs.Stripped.{is_allowed}
use Rattle.demangle_value.specs.Filtered.{starts_run}
use Rattle.demangle_value.specs.Symbols.{IsSymbol, form_in, limit_in, pieces_in, handed_in, kept_in}
use Rattle.demangle_value.specs.declared.format.Format.{Format}
use Rattle.demangle_v0_grammar.specs.V0.{IsV0, IsV0Prefix}
use Rattle.demangle_legacy.proofs.LegacyLaws.{legacy_spelled}
use Rattle.demangle_value.proofs.SymbolLemmas.{no_legacy, pieces-legacy, pieces-v0, none≢some}
use Rattle.demangle_v0_grammar.proofs.V0Reading.{v0_is_read}

handed_of : (text : List ℕ) (format : Format) (read : List (List ℕ) × List ℕ) → pieces_in (form_in format text) text ≡ Some read → handed_in text format ≡ cut read.0 (limit_in format text) ++ read.1 ∷ []
handed_of text format read e = ap (λ o. option_map_or (λ (r : List (List ℕ) × List ℕ). cut r.0 (limit_in format text) ++ r.1 ∷ []) o (text ∷ [])) e

kept_by : (text : List ℕ) (format : Format) (read : List (List ℕ) × List ℕ) → pieces_in (form_in format text) text ≡ Some read → kept_in text format ≡ kept read.0 (limit_in format text)
kept_by text format read e = ap (λ o. option_map_or (λ (r : List (List ℕ) × List ℕ). kept r.0 (limit_in format text)) o 0) e

pieces_spelled : (form : LimitedForm) (text : List ℕ) (elements : List (List ℕ)) (suffix : List ℕ) → IsLegacy text elements suffix → is_allowed suffix ≡ true
    → pieces_in form text ≡ Some (legacy_pieces form.plain elements, suffix)
pieces_spelled form text elements suffix is allowed = pieces-legacy form text elements suffix (legacy_spelled text elements suffix is) allowed

pieces_rendered : (form : LimitedForm) (text inner suffix : List ℕ) → IsV0 text inner suffix → is_allowed suffix ≡ true
    → pieces_in form text ≡ Some (path_pieces inner form, suffix)
pieces_rendered form text inner suffix is allowed = pieces-v0 form text inner suffix (v0_is_read text inner suffix is) allowed

pub legacy-handed : (text : List ℕ) (elements : List (List ℕ)) (suffix : List ℕ) (format : Format) → IsLegacy text elements suffix → is_allowed suffix ≡ true
    → handed_in text format ≡ cut (legacy_pieces format.form elements) (limit_in format text) ++ suffix ∷ []
legacy-handed text elements suffix format is allowed =
    handed_of text format (legacy_pieces format.form elements, suffix) (pieces_spelled (form_in format text) text elements suffix is allowed)

pub legacy-kept : (text : List ℕ) (elements : List (List ℕ)) (suffix : List ℕ) (format : Format) → IsLegacy text elements suffix → is_allowed suffix ≡ true
    → kept_in text format ≡ kept (legacy_pieces format.form elements) (limit_in format text)
legacy-kept text elements suffix format is allowed =
    kept_by text format (legacy_pieces format.form elements, suffix) (pieces_spelled (form_in format text) text elements suffix is allowed)

pub v0-handed : (text inner suffix : List ℕ) (format : Format) → IsV0 text inner suffix → is_allowed suffix ≡ true
    → handed_in text format ≡ cut (path_pieces inner (form_in format text)) (limit_in format text) ++ suffix ∷ []
v0-handed text inner suffix format is allowed =
    handed_of text format (path_pieces inner (form_in format text), suffix) (pieces_rendered (form_in format text) text inner suffix is allowed)

pub v0-kept : (text inner suffix : List ℕ) (format : Format) → IsV0 text inner suffix → is_allowed suffix ≡ true
    → kept_in text format ≡ kept (path_pieces inner (form_in format text)) (limit_in format text)
v0-kept text inner suffix format is allowed =
    kept_by text format (path_pieces inner (form_in format text), suffix) (pieces_rendered (form_in format text) text inner suffix is allowed)

pub one-scheme : (text : List ℕ) (elements : List (List ℕ)) (inner suffix other : List ℕ) → IsLegacy text elements suffix → IsV0 text inner other → ⊥
one-scheme text elements inner suffix other legacy v0 =
    none≢some (sym (no_legacy text inner other v0) ∙ legacy_spelled text elements suffix legacy)

-- a run starts at the underscore, or after it
abbrev Begun : List ℕ → Type 0
Begun text = (starts_run (codes "_" ++ text) ≡ true) ⊎ (starts_run text ≡ true)

no_letter_first : (text rest : List ℕ) (c : ℕ) → codes "_" ++ text ≡ c ∷ rest → (95 ≡ c → ⊥) → Begun text
no_letter_first text rest c e other = absurd (other (ap (λ l. get_or l 0 0) e))

legacy_begun : (text prefix inner : List ℕ) → codes "_" ++ text ≡ prefix ++ inner → IsLegacyPrefix prefix → Begun text
legacy_begun text prefix inner e (inl p) = inl (ap starts_run (e ∙ ap (λ l. l ++ inner) p))
legacy_begun text prefix inner e (inr (inl p)) = no_letter_first text (codes "N" ++ inner) 90 (e ∙ ap (λ l. l ++ inner) p) (λ f. omega (arith, f))
legacy_begun text prefix inner e (inr (inr p)) = inr (ap (λ l. starts_run (drop 1 l)) (e ∙ ap (λ l. l ++ inner) p))

v0_begun : (text prefix inner : List ℕ) → codes "_" ++ text ≡ prefix ++ inner → IsV0Prefix prefix → Begun text
v0_begun text prefix inner e (inl p) = inl (ap starts_run (e ∙ ap (λ l. l ++ inner) p))
v0_begun text prefix inner e (inr (inl p)) = no_letter_first text inner 82 (e ∙ ap (λ l. l ++ inner) p) (λ f. omega (arith, f))
v0_begun text prefix inner e (inr (inr p)) = inr (ap (λ l. starts_run (drop 1 l)) (e ∙ ap (λ l. l ++ inner) p))

pub symbol_begun : (text : List ℕ) → IsSymbol (codes "_" ++ text) → (starts_run (codes "_" ++ text) ≡ true) ⊎ (starts_run text ≡ true)
symbol_begun text (inl is) = legacy_begun text is.2.0 is.2.1 is.2.2 is.2.3
symbol_begun text (inr is) = v0_begun text is.2.0 is.0 is.2.1 is.2.2
