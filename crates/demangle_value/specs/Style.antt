-- Internal: no public contract cites this.
-- The parsed form of a demangled symbol.
use Rattle.std.specs.Prelude.{◌≡◌, Bool, ℕ, ◌+◌, ◌*◌, ◌≤◌, true, List, Option, None, Some, length}
use Rattle.demangle_value.specs.declared.value.DemangleStyle.{DemangleStyle}
use Rattle.demangle_value.specs.declared.value.DemangleStyle.TheVariants.{Legacy, V0}
use Rattle.demangle_sink.specs.Cut.{kept}
use Rattle.demangle_legacy.specs.Legacy.{legacy_of, elements_of}
use Rattle.demangle_v0_grammar.specs.Again.{path_again}
use Rattle.demangle_legacy.specs.Unescaped.{legacy_pieces}
use Rattle.demangle_value.specs.Shape.{LimitedForm, path_pieces, texts_within, is_all}
use Rattle.demangle_value.specs.Stripped.{is_allowed}
use Rattle.demangle_value.specs.Symbols.{pieces_in}
use Rattle.demangle_v0_grammar.specs.V0.{v0_of}

-- the pieces of a symbol of this style
abbrev pub style_pieces : LimitedForm → DemangleStyle → List (List ℕ)
style_pieces form (Legacy symbol) = legacy_pieces form.plain (elements_of symbol)
style_pieces form (V0 symbol) = path_pieces symbol form

-- the texts of a symbol of this style up to the limit of the bytes that are read again, and whether they are all
abbrev pub style_texts : LimitedForm → DemangleStyle → List (List ℕ)
style_texts form (Legacy symbol) = legacy_pieces form.plain (elements_of symbol)
style_texts form (V0 symbol) = texts_within symbol form

abbrev pub is_style_all : LimitedForm → DemangleStyle → Bool
is_style_all form (Legacy symbol) = true
is_style_all form (V0 symbol) = is_all symbol form

-- the number of bytes after the prefix
abbrev pub style_len : DemangleStyle → ℕ
style_len (Legacy symbol) = length symbol
style_len (V0 symbol) = length symbol

-- the most looks that printing within a limit makes
abbrev pub style_looks : LimitedForm → ℕ → DemangleStyle → ℕ
style_looks form limit (Legacy symbol) = 16 * (length symbol + 1)
style_looks form limit (V0 symbol) = 100000 * (kept (texts_within symbol form) limit + 1) * (length symbol + 1)

-- the most looks that printing makes, by how far reading goes back
abbrev pub style_looks_again : LimitedForm → DemangleStyle → ℕ
style_looks_again form (Legacy symbol) = 16 * (length symbol + 1)
style_looks_again form (V0 symbol) = 17 * (length symbol + 1 + path_again symbol form.plain)

-- the fewest looks that printing makes
abbrev pub style_least : DemangleStyle → ℕ
style_least (Legacy symbol) = 0
style_least (V0 symbol) = 1

-- the scheme parses the text to this symbol and this suffix
abbrev pub IsReadAs : List ℕ → DemangleStyle → List ℕ → Type 0
IsReadAs text (Legacy symbol) suffix = legacy_of text ≡ Some (elements_of symbol, suffix)
IsReadAs text (V0 symbol) suffix = v0_of text ≡ Some (symbol, suffix)

-- the text has no style
abbrev pub HasNoStyle : List ℕ → Type 0
HasNoStyle text = (form : LimitedForm) → pieces_in form text ≡ None

-- the text has this style and this suffix
pub record HasStyle (text : List ℕ) (style : DemangleStyle) (suffix : List ℕ) : Type 0 where
  pub read : IsReadAs text style suffix
  pub allowed : is_allowed suffix ≡ true
  pub inner : style_len style ≤ length text

-- the text has this style and suffix, or it has no style
abbrev pub IsStyled : Option DemangleStyle → List ℕ → List ℕ → Type 0
IsStyled None text suffix = HasNoStyle text
IsStyled (Some style) text suffix = HasStyle text style suffix
