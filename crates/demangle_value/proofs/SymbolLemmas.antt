-- The pieces of a text, by the result of parsing it.
use Rattle.std.proofs.Common.{◌≡◌, ℕ, zero, suc, ◌+◌, ◌*◌, ◌≤◌, Bool, true, false, List, [], ◌∷◌, ◌++◌, length, Option, None, Some, sym, refl, ap, ◌∙◌, subst, arith, option_map, cond, drop, inl, inr}
use Rattle.std.specs.Option.{option_map_or, is_some, option_or}
use Rattle.std.proofs.lemmas.List.{length-append}
use Rattle.std.proofs.lemmas.Nat.{mul-le}
use Rattle.std.proofs.lemmas.Bool.{true≢false}
use Rattle.demangle_sink.specs.Cut.{cut, kept}
use Rattle.demangle_legacy.specs.Legacy.{IsElements, inner_of, legacy_of, elements_of}
use Rattle.demangle_value.specs.Limits.{text_format}
use Rattle.demangle_value.specs.Stripped.{is_allowed}
use Rattle.demangle_legacy.specs.Unescaped.{legacy_pieces}
use Rattle.demangle_value.specs.Shape.{LimitedForm, unlimited_form, is_all, texts_within, path_pieces}
use Rattle.demangle_v0_grammar.specs.Again.{path_again}
use Rattle.demangle_v0_grammar.specs.V0.{IsV0, IsV0Prefix, v0_of}
use Rattle.demangle_value.specs.Symbols.{IsLegacySymbol, IsV0Symbol, IsSymbol, form_in, limit_in, kept_in, if_allowed, read_in, pieces_in, handed_in, again_in, PrintingLooksIn}
use Rattle.demangle_value.specs.declared.format.Format.{Format}
use Rattle.demangle_value.specs.Style.{style_pieces, style_len, style_looks, style_looks_again, style_least, IsReadAs, HasNoStyle, HasStyle, IsStyled}
use Rattle.demangle_value.specs.declared.value.DemangleStyle.{DemangleStyle}
use Rattle.demangle_value.specs.declared.value.DemangleStyle.TheVariants.{Legacy, V0}
use Rattle.demangle_legacy.proofs.LegacyLaws.{legacy_no_prefix, legacy_read, legacy_spelled}
use Rattle.demangle_value.proofs.AllReferences.{kept_marked, few_looks}
use Rattle.std.specs.Prelude.{IfSome}
use Rattle.demangle_v0_grammar.proofs.V0Reading.{read_is_v0, v0_is_read}

pub styled-none : (style : Option DemangleStyle) (text suffix : List ℕ) → IsStyled style text suffix → style ≡ None → HasNoStyle text
styled-none style text suffix is e = subst (λ s. IsStyled s text suffix) e is

pub styled-some : (style : Option DemangleStyle) (text suffix : List ℕ) (x : DemangleStyle) → IsStyled style text suffix → style ≡ Some x → HasStyle text x suffix
styled-some style text suffix x is e = subst (λ s. IsStyled s text suffix) e is

allowed-some : (read : Option (List (List ℕ) × List ℕ)) (r : List (List ℕ) × List ℕ) → if_allowed read ≡ Some r → (read ≡ Some r) × (is_allowed r.1 ≡ true)
allowed-some None r e = cc
allowed-some (Some (elements, suffix)) r e = go (is_allowed suffix) refl e where
  go : (b : Bool) → is_allowed suffix ≡ b → (cond b (Some (elements, suffix)) None ≡ Some r) → (Some (elements, suffix) ≡ Some r) × (is_allowed r.1 ≡ true)
  go true is e = (e, ap (λ (x : Option (List (List ℕ) × List ℕ)). is_allowed (option_map_or (λ p. p.1) x [])) (sym e) ∙ is)
  go false is e = cc

-- no symbol of the v0 scheme has a prefix of the legacy scheme
pub no_legacy : (text inner suffix : List ℕ) → IsV0 text inner suffix → legacy_of text ≡ None
unfolding inner_of
no_legacy text inner suffix is = legacy_no_prefix text (sym (ap inner_of is.1 ∙ go is.0 is.2)) where
  go : (prefix : List ℕ) → IsV0Prefix prefix → inner_of (prefix ++ inner) ≡ None
  go prefix (inl e) = ap (λ p. inner_of (p ++ inner)) e
  go prefix (inr (inl e)) = ap (λ p. inner_of (p ++ inner)) e
  go prefix (inr (inr e)) = ap (λ p. inner_of (p ++ inner)) e

abbrev legacy_parts : LimitedForm → List (List ℕ) × List ℕ → List (List ℕ) × List ℕ
legacy_parts form read = (legacy_pieces form.plain read.0, read.1)

abbrev v0_parts : LimitedForm → List ℕ × List ℕ → List (List ℕ) × List ℕ
v0_parts form read = (path_pieces read.0 form, read.1)

-- the pieces of a legacy symbol
pub pieces-legacy : (form : LimitedForm) (text : List ℕ) (elements : List (List ℕ)) (suffix : List ℕ) → legacy_of text ≡ Some (elements, suffix) → is_allowed suffix ≡ true
    → pieces_in form text ≡ Some (legacy_pieces form.plain elements, suffix)
pieces-legacy form text elements suffix e allowed =
    ap (λ read. if_allowed (option_or (option_map (legacy_parts form) read) (option_map (v0_parts form) (v0_of text)))) e
    ∙ ap (λ b. cond b (Some (legacy_pieces form.plain elements, suffix)) None) allowed

-- the pieces of a v0 symbol
pub pieces-v0 : (form : LimitedForm) (text inner suffix : List ℕ) → v0_of text ≡ Some (inner, suffix) → is_allowed suffix ≡ true
    → pieces_in form text ≡ Some (path_pieces inner form, suffix)
pieces-v0 form text inner suffix e allowed =
    ap (λ read. if_allowed (option_or (option_map (legacy_parts form) read) (option_map (v0_parts form) (v0_of text)))) (no_legacy text inner suffix (read_is_v0 text inner suffix e))
    ∙ ap (λ read. if_allowed (option_map (v0_parts form) read)) e
    ∙ ap (λ b. cond b (Some (path_pieces inner form, suffix)) None) allowed

-- a text that no scheme accepts, or with another suffix, is one piece
pub no_pieces : (form : LimitedForm) (text : List ℕ) → legacy_of text ≡ None → v0_of text ≡ None → pieces_in form text ≡ None
no_pieces form text legacy v0 =
    ap (λ read. if_allowed (option_or (option_map (legacy_parts form) read) (option_map (v0_parts form) (v0_of text)))) legacy
    ∙ ap (λ read. if_allowed (option_map (v0_parts form) read)) v0

pub no_pieces-legacy : (form : LimitedForm) (text : List ℕ) (elements : List (List ℕ)) (suffix : List ℕ) → legacy_of text ≡ Some (elements, suffix) → is_allowed suffix ≡ false → pieces_in form text ≡ None
no_pieces-legacy form text elements suffix e other =
    ap (λ read. if_allowed (option_or (option_map (legacy_parts form) read) (option_map (v0_parts form) (v0_of text)))) e
    ∙ ap (λ b. cond b (Some (legacy_pieces form.plain elements, suffix)) None) other

pub no_pieces-v0 : (form : LimitedForm) (text inner suffix : List ℕ) → v0_of text ≡ Some (inner, suffix) → is_allowed suffix ≡ false → pieces_in form text ≡ None
no_pieces-v0 form text inner suffix e other =
    ap (λ read. if_allowed (option_or (option_map (legacy_parts form) read) (option_map (v0_parts form) (v0_of text)))) (no_legacy text inner suffix (read_is_v0 text inner suffix e))
    ∙ ap (λ read. if_allowed (option_map (v0_parts form) read)) e
    ∙ ap (λ b. cond b (Some (path_pieces inner form, suffix)) None) other

pub none≢some : {x : List (List ℕ) × List ℕ} → None ≡ Some x → ⊥
none≢some h = cc

-- a text that has pieces is a symbol
pub symbol-pieces : (form : LimitedForm) (text : List ℕ) (r : List (List ℕ) × List ℕ) → pieces_in form text ≡ Some r → IsSymbol text
symbol-pieces form text r e = let h = allowed-some (read_in form text) r e in go (legacy_of text) (v0_of text) refl refl h.0 h.1 where
  suffix_is : (x y : List (List ℕ) × List ℕ) → Some x ≡ Some y → x.1 ≡ y.1
  suffix_is x y e = ap (λ (o : Option (List (List ℕ) × List ℕ)). option_map_or (λ p. p.1) o []) e

  go : (a : Option (List (List ℕ) × List ℕ)) (b : Option (List ℕ × List ℕ)) → legacy_of text ≡ a → v0_of text ≡ b
      → option_or (option_map (legacy_parts form) a) (option_map (v0_parts form) b) ≡ Some r → is_allowed r.1 ≡ true → IsSymbol text
  go (Some p) b legacy v0 e allowed = inl (p.0, p.1, legacy_read text p.0 p.1 legacy, ap is_allowed (suffix_is (legacy_parts form p) r e) ∙ allowed)
  go None (Some p) legacy v0 e allowed = inr (p.0, p.1, read_is_v0 text p.0 p.1 v0, ap is_allowed (suffix_is (v0_parts form p) r e) ∙ allowed)
  go None None legacy v0 e allowed = cc

-- a symbol has pieces
pub pieces-symbol : (form : LimitedForm) (text : List ℕ) → IsSymbol text → (r : List (List ℕ) × List ℕ) × (pieces_in form text ≡ Some r)
pieces-symbol form text (inl (elements, suffix, legacy, allowed)) =
    ((legacy_pieces form.plain elements, suffix), pieces-legacy form text elements suffix (legacy_spelled text elements suffix legacy) allowed)
pieces-symbol form text (inr (inner, suffix, v0, allowed)) =
    ((path_pieces inner form, suffix), pieces-v0 form text inner suffix (v0_is_read text inner suffix v0) allowed)

-- the pieces of a text with a style
pub styled-pieces : (form : LimitedForm) (text : List ℕ) (style : DemangleStyle) (suffix : List ℕ) → HasStyle text style suffix → pieces_in form text ≡ Some (style_pieces form style, suffix)
styled-pieces form text (Legacy symbol) suffix has = pieces-legacy form text (elements_of symbol) suffix has.read has.allowed
styled-pieces form text (V0 symbol) suffix has = pieces-v0 form text symbol suffix has.read has.allowed

-- a symbol prints its pieces within the limit, and its suffix
pub handed-some : (text : List ℕ) (format : Format) (style : DemangleStyle) (suffix : List ℕ) → HasStyle text style suffix
    → handed_in text format ≡ cut (style_pieces (form_in format text) style) (limit_in format text) ++ suffix ∷ []
handed-some text format style suffix has =
    ap (λ read. option_map_or (λ (r : List (List ℕ) × List ℕ). cut r.0 (limit_in format text) ++ r.1 ∷ []) read (text ∷ [])) (styled-pieces (form_in format text) text style suffix has)

pub kept_in-some : (text : List ℕ) (format : Format) (style : DemangleStyle) (suffix : List ℕ) → HasStyle text style suffix
    → kept_in text format ≡ kept (style_pieces (form_in format text) style) (limit_in format text)
kept_in-some text format style suffix has =
    ap (λ read. option_map_or (λ (r : List (List ℕ) × List ℕ). kept r.0 (limit_in format text)) read 0) (styled-pieces (form_in format text) text style suffix has)

-- the looks of printing a text with this style
style_looks-most : (text : List ℕ) (format : Format) (style : DemangleStyle) (suffix : List ℕ) → HasStyle text style suffix
    → style_looks (form_in format text) (limit_in format text) style ≤ 100000 * (kept_in text format + 1) * (length text + 1)
style_looks-most text format (Legacy symbol) suffix has =
    let inner : length symbol ≤ length text = has.inner in
    mul-le 16 (length symbol + 1) (100000 * (kept_in text format + 1)) (length text + 1) (omega arith) (omega arith)
style_looks-most text format (V0 symbol) suffix has =
    let inner : length symbol ≤ length text = has.inner in
    let same = kept_in-some text format (V0 symbol) suffix has in
    let marked : kept (texts_within symbol (form_in format text)) (limit_in format text) ≤ kept (path_pieces symbol (form_in format text)) (limit_in format text) = kept_marked (texts_within symbol (form_in format text)) (is_all symbol (form_in format text)) (limit_in format text) in
    mul-le (100000 * (kept (texts_within symbol (form_in format text)) (limit_in format text) + 1)) (length symbol + 1) (100000 * (kept_in text format + 1)) (length text + 1) (omega (arith, same, marked)) (omega arith)

style_looks_again-most : (text : List ℕ) (format : Format) (style : DemangleStyle) (suffix : List ℕ) → HasStyle text style suffix
    → style_looks_again (form_in format text) style ≤ 17 * (length text + 1 + again_in text format)
style_looks_again-most text format (Legacy symbol) suffix has = let inner : length symbol ≤ length text = has.inner in omega arith
style_looks_again-most text format (V0 symbol) suffix has =
    let inner : length symbol ≤ length text = has.inner in
    let same : again_in text format ≡ path_again symbol format.form = ap (λ read. option_map_or (λ (r : List ℕ × List ℕ). path_again r.0 format.form) read 0) has.read in
    omega arith

style_looks-legacy : (text : List ℕ) (format : Format) (style : DemangleStyle) (suffix : List ℕ) → HasStyle text style suffix → IsLegacySymbol text
    → style_looks (form_in format text) (limit_in format text) style ≤ 16 * (length text + 1)
style_looks-legacy text format (Legacy symbol) suffix has is = let inner : length symbol ≤ length text = has.inner in omega arith
style_looks-legacy text format (V0 symbol) suffix has is = absurd (none≢some (sym (no_legacy text symbol suffix (read_is_v0 text symbol suffix has.read)) ∙ legacy_spelled text is.0 is.1 is.2))

style_least-v0 : (text : List ℕ) (style : DemangleStyle) (suffix : List ℕ) → HasStyle text style suffix → IsV0Symbol text → style_least style ≡ 1
style_least-v0 text (Legacy symbol) suffix has is = absurd (none≢some (sym (no_legacy text is.0 is.1 is.2) ∙ has.read))
style_least-v0 text (V0 symbol) suffix has is = refl

pub symbol_styled : (text : List ℕ) (style : DemangleStyle) (suffix : List ℕ) → HasStyle text style suffix → IsSymbol text
symbol_styled text style suffix has = symbol-pieces (unlimited_form true false) text (style_pieces (unlimited_form true false) style, suffix) (styled-pieces (unlimited_form true false) text style suffix has)

pub no_symbol_unstyled : (text : List ℕ) → HasNoStyle text → IsSymbol text → ⊥
no_symbol_unstyled text none symbol = let some = pieces-symbol (unlimited_form true false) text symbol in none≢some (sym (none (unlimited_form true false)) ∙ some.1)

-- the looks of printing a text with this style, and one without a style
pub styled_looks : (text : List ℕ) (format : Format) (style : DemangleStyle) (suffix : List ℕ) (old new : ℕ) → HasStyle text style suffix
    → old ≤ new → new ≤ old + style_looks (form_in format text) (limit_in format text) style → new ≤ old + style_looks_again (form_in format text) style
    → IfSome (text_format format (length text)).reread (λ k. new ≤ old + 20 * (style_len style + 1 + k)) → old + style_least style ≤ new → PrintingLooksIn text format old new
styled_looks text format style suffix old new has grows most again few least = record {
  grows = grows;
  most = omega (arith, most, style_looks-most text format style suffix has);
  again = omega (arith, again, style_looks_again-most text format style suffix has);
  few = λ k e.
      let w : new ≤ old + 20 * (style_len style + 1 + k) = few_looks (text_format format (length text)).reread k (style_len style) old new e few in
      omega (arith, w, has.inner);
  legacy = λ legacy. omega (arith, most, style_looks-legacy text format style suffix has legacy);
  v0 = λ v0. omega (arith, least, style_least-v0 text style suffix has v0);
  no_symbol = λ none. absurd (none (symbol_styled text style suffix has));
}

pub unstyled_looks : (text : List ℕ) (format : Format) (looks : ℕ) → HasNoStyle text → PrintingLooksIn text format looks looks
unstyled_looks text format looks none = record {
  grows = omega arith;
  most = omega arith;
  again = omega arith;
  few = λ k e. omega arith;
  legacy = λ legacy. omega arith;
  v0 = λ v0. absurd (no_symbol_unstyled text none (inr v0));
  no_symbol = λ _. refl;
}

pub styled_symbol : (style : Option DemangleStyle) (text suffix : List ℕ) → IsStyled style text suffix → is_some style ≡ true → IsSymbol text
styled_symbol None text suffix is e = cc
styled_symbol (Some style) text suffix is e = symbol_styled text style suffix is

pub unstyled_no_symbol : (style : Option DemangleStyle) (text suffix : List ℕ) → IsStyled style text suffix → is_some style ≡ false → IsSymbol text → ⊥
unstyled_no_symbol None text suffix is e = no_symbol_unstyled text is
unstyled_no_symbol (Some style) text suffix is e = absurd (true≢false e)

-- the rest after the elements is a part of the text
pub elements-shorter : (elements : List (List ℕ)) (text suffix : List ℕ) → IsElements elements text suffix → length suffix ≤ length text
elements-shorter [] text suffix is = omega (arith, ap length is)
elements-shorter (element ∷ elements) text suffix is =
    let below : length suffix ≤ length is.1 = elements-shorter elements is.1 suffix is.5 in
    omega (arith, ap length is.2, length-append is.0 (element ++ is.1), length-append element is.1)

-- a suffix is a part of its symbol
pub suffix-shorter : (text : List ℕ) (elements : List (List ℕ)) (suffix : List ℕ) → legacy_of text ≡ Some (elements, suffix) → length suffix ≤ length text
suffix-shorter text elements suffix e =
    let is = legacy_read text elements suffix e in
    let below : length suffix ≤ length is.1 = elements-shorter elements is.1 suffix is.5 in
    omega (arith, ap length is.2, length-append is.0 is.1)

length-drop_le : (k : ℕ) (xs : List ℕ) → length (drop k xs) ≤ length xs
length-drop_le zero xs = omega arith
length-drop_le (suc k) [] = omega arith
length-drop_le (suc k) (x ∷ xs) = omega (arith, length-drop_le k xs)

pub v0_suffix-shorter : (text inner suffix : List ℕ) → v0_of text ≡ Some (inner, suffix) → length suffix ≤ length text
v0_suffix-shorter text inner suffix e =
    let is = read_is_v0 text inner suffix e in
    let part = is.5 in
    omega (arith, ap length is.1, length-append is.0 inner, ap length part.2, length-drop_le part.0 inner)

pub style_suffix-shorter : (text : List ℕ) (style : DemangleStyle) (suffix : List ℕ) → IsReadAs text style suffix → length suffix ≤ length text
style_suffix-shorter text (Legacy symbol) suffix read = suffix-shorter text (elements_of symbol) suffix read
style_suffix-shorter text (V0 symbol) suffix read = v0_suffix-shorter text symbol suffix read

-- a text with a suffix that is not allowed has no style
pub not_allowed_unstyled : (text : List ℕ) (style : DemangleStyle) (suffix : List ℕ) → IsReadAs text style suffix → is_allowed suffix ≡ false → HasNoStyle text
not_allowed_unstyled text (Legacy symbol) suffix read other form = no_pieces-legacy form text (elements_of symbol) suffix read other
not_allowed_unstyled text (V0 symbol) suffix read other form = no_pieces-v0 form text symbol suffix read other
