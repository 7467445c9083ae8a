-- The primitives of a v0 symbol without line feeds, and the texts that are printed for them.
use Rattle.std.proofs.Common.{◌≡◌, ◌≢◌, ◌==◌, ℕ, zero, suc, ◌+◌, ◌-◌, ◌/◌, ◌%◌, ◌<◌, inl, inr, not, ◌&&◌, Bool, true, false, cond, List, [], ◌∷◌, ◌++◌, length, map, take, drop, Option, None, Some, refl, sym, ap, ◌∙◌, subst, arith, codes, ne_eqb}
use Rattle.std.specs.Prelude.{◌||◌, nat_lt, nat_le, flat_map, option_and_then}
use Rattle.std.specs.List.{insert, slice_get, slice_range}
use Rattle.std.specs.Fmt.{digits, digits_onto, digit_glyph}
use Rattle.std.specs.Char.{encode_utf8}
use Rattle.std.proofs.lemmas.Bool.{true≢false}
use Rattle.std.proofs.lemmas.Bool.Decides.{eqb_tells}
use Prim.Native.Char.{code}
use lib.Utf8.{scalar as is_scalar}
use Rattle.rustc_demangle.specs.Lines.{line_feeds}
use Rattle.demangle_symbol.specs.Digits.{is_byte, run_end}
use Rattle.demangle_symbol.specs.Primitives.{Name, only_if, then_if_some, some_or, is_upper, is_lower, namespace_at, identifier_at, nibbles_at, is_nibble, name_of, name_from, name_len, digits_from, length_end, tail_len, punycode_len, ascii_to}
use Rattle.demangle_symbol.specs.Punycode.{insertions, deltas, next_delta, puny}
use Rattle.demangle_symbol.specs.Names.{is_empty, fallback_pieces, name_pieces}
use Rattle.demangle_symbol.specs.Literals.{literal_escape, literal, is_shown}
use Rattle.demangle_v0_grammar.specs.Table.{hyphenated_abi, extern}
use Rattle.demangle_laws.proofs.LineFeeds.{line_feeds-append, line_feeds-take, line_feeds-drop, line_feeds-other, line_feeds-character}

-- texts without line feeds
abbrev pub AreClear : List (List ℕ) → Type 0
AreClear [] = Unit {0}
AreClear (t ∷ ts) = (line_feeds t ≡ 0) × AreClear ts

clear_join : (xs ys : List (List ℕ)) → AreClear xs → AreClear ys → AreClear (xs ++ ys)
clear_join [] ys h k = k
clear_join (x ∷ xs) ys h k = (h.0, clear_join xs ys h.1 k)

-- the first byte of a text without line feeds, and the rest
first_clear : (b : ℕ) (bs : List ℕ) → line_feeds (b ∷ bs) ≡ 0 → b ≢ 10
first_clear b bs h same = let q : 1 + line_feeds bs ≡ 0 = subst (λ x. line_feeds (x ∷ bs) ≡ 0) same h in omega (arith, q)

rest_clear : (b : ℕ) (bs : List ℕ) → line_feeds (b ∷ bs) ≡ 0 → line_feeds bs ≡ 0
rest_clear b bs h = omega (arith, h)

encoded_clear : (cs : List ℕ) → line_feeds cs ≡ 0 → AreClear (map encode_utf8 cs)
encoded_clear [] h = tt
encoded_clear (c ∷ cs) h = (line_feeds-character c (first_clear c cs h), encoded_clear cs (rest_clear c cs h))

range_clear : (s : List ℕ) (i j : ℕ) → line_feeds s ≡ 0 → line_feeds (slice_range s i j) ≡ 0
range_clear s i j h = omega (arith, h, line_feeds-take (j - i) (drop i s), line_feeds-drop i s)

-- Numbers.

glyph_clear : (d : ℕ) (text : List ℕ) → line_feeds text ≡ 0 → line_feeds (digit_glyph false d ∷ text) ≡ 0
glyph_clear d text h = go (nat_lt d 10)
  where
    go : (b : Bool) → line_feeds (cond b (48 + d) (87 + d) ∷ text) ≡ 0
    go true = line_feeds-other (48 + d) text (λ same. omega (arith, same)) ∙ h
    go false = line_feeds-other (87 + d) text (λ same. omega (arith, same)) ∙ h

onto_clear : (k base n : ℕ) (text : List ℕ) → line_feeds text ≡ 0 → line_feeds (digits_onto k base false n text) ≡ 0
onto_clear zero base n text h = h
onto_clear (suc k) base n text h =
    at (n / base == 0) _ _ (glyph_clear (n % base) text h) (onto_clear k base (n / base) (digit_glyph false (n % base) ∷ text) (glyph_clear (n % base) text h))
  where
    at : (b : Bool) (x y : List ℕ) → line_feeds x ≡ 0 → line_feeds y ≡ 0 → line_feeds (cond b x y) ≡ 0
    at true x y p q = p
    at false x y p q = q

pub number_clear : (base n : ℕ) → line_feeds (digits base false n) ≡ 0
unfolding digits
number_clear base n = onto_clear 64 base n [] refl

-- Primitives.

none≢some : {A : Type 0} {x : A} → None ≡ Some x → ⊥
none≢some e = cc

some_same : {A : Type 0} {x y : A} → Some x ≡ Some y → x ≡ y
some_same e = cc

value_same : {A : Type 0} {x y : A × ℕ} → Some x ≡ Some y → x.0 ≡ y.0
value_same e = ap (λ r. r.0) (some_same e)

only_some : {A : Type 0} (b : Bool) (x : A × ℕ) (v : A) (j : ℕ) → only_if b x ≡ Some (v, j) → (b ≡ true) × (x.0 ≡ v)
only_some true x v j e = (refl, value_same e)
only_some false x v j e = absurd (none≢some e)

pub namespace_clear : (s : List ℕ) (i b j : ℕ) → namespace_at s i ≡ Some (b, j) → b ≢ 10
unfolding namespace_at
namespace_clear s i b j e same = go (slice_get s i) e
  where
    letter : (c : ℕ) → ((is_upper c || is_lower c) ≡ true) × (c ≡ b) → ⊥
    letter c h = true≢false (sym h.0 ∙ ap (λ x. is_upper x || is_lower x) (h.1 ∙ same))

    go : (o : Option ℕ) → then_if_some {B = ℕ × ℕ} o (λ c. only_if (is_upper c || is_lower c) (c, i + 1)) ≡ Some (b, j) → ⊥
    go None e = none≢some e
    go (Some c) e = letter c (only_some (is_upper c || is_lower c) (c, i + 1) b j e)

pub nibbles_clear : (s : List ℕ) (i : ℕ) (h : List ℕ) (j : ℕ) → line_feeds s ≡ 0 → nibbles_at s i ≡ Some (h, j) → line_feeds h ≡ 0
unfolding nibbles_at
nibbles_clear s i h j none e =
    let end = run_end is_nibble s i in
    let is : slice_range s i end ≡ h = (only_some (is_byte s end 95) (slice_range s i end, end + 1) h j e).1 in
    ap line_feeds (sym is) ∙ range_clear s i end none

pub identifier_clear : (s : List ℕ) (i : ℕ) (a : Name) (j : ℕ) → line_feeds s ≡ 0 → identifier_at s i ≡ Some (a, j) → (line_feeds a.ascii ≡ 0) × (line_feeds a.punycode ≡ 0)
unfolding identifier_at
identifier_clear s i a j none e =
    let k = name_from s i + name_len s i in
    let test : Bool = nat_lt (digits_from s i) (length_end s (digits_from s i)) && nat_le k (length s) && not (is_byte s i 117 && tail_len s (name_from s i) k == 0) in
    let is : name_of s i k ≡ a = (only_some test (name_of s i k, k) a j e).1 in (
      ap (λ n. line_feeds n.ascii) (sym is) ∙ range_clear s (name_from s i) (ascii_to s i k) none,
      ap (λ n. line_feeds n.punycode) (sym is) ∙ range_clear s (k - punycode_len s i k) k none,
    )

-- Names.

insert_clear : (cs : List ℕ) (at c : ℕ) → 10 < c → line_feeds cs ≡ 0 → line_feeds (insert cs at c) ≡ 0
insert_clear cs at c l h =
    omega (arith, h, line_feeds-append (take at cs) (c ∷ drop at cs), line_feeds-take at cs, line_feeds-drop at cs, line_feeds-other c (drop at cs) (λ same. omega (arith, l, same)))

inserted_if : (n i : ℕ) (cs ds out : List ℕ) (b : Bool) → (insertions n i cs ds ≡ Some out → line_feeds out ≡ 0)
    → ◌≡◌ {A = Option (List ℕ)} (elim b [ true ↦ insertions n i cs ds | false ↦ None ]) (Some out) → line_feeds out ≡ 0
inserted_if n i cs ds out true h e = h e
inserted_if n i cs ds out false h e = absurd (none≢some e)

-- a decoded character is past ASCII
inserted_clear : (n i : ℕ) (cs ds out : List ℕ) → 10 < n → line_feeds cs ≡ 0 → insertions n i cs ds ≡ Some out → line_feeds out ≡ 0
unfolding insertions
inserted_clear n i cs [] out l h e = go (nat_lt 128 (length cs)) e
  where
    go : (b : Bool) → cond b None (Some cs) ≡ Some out → line_feeds out ≡ 0
    go true e = absurd (none≢some e)
    go false e = ap line_feeds (sym (some_same e)) ∙ h
inserted_clear n i cs (d ∷ ds) out l h e =
    let size : ℕ = length cs + 1 in
    let c : ℕ = n + (i + d) / size in
    let at : ℕ = (i + d) % size in
    let more : 10 < c = omega (arith, l) in
    inserted_if c (at + 1) (insert cs at c) ds out (is_scalar c && nat_le size 128) (inserted_clear c (at + 1) (insert cs at c) ds out more (insert_clear cs at c more h)) e

puny_clear : (ascii ds cs : List ℕ) → line_feeds ascii ≡ 0 → puny ascii ds ≡ Some cs → line_feeds cs ≡ 0
unfolding puny
puny_clear ascii ds cs h e = go (deltas (next_delta (length ascii) true 72) ds) e
  where
    go : (o : Option (List ℕ)) → option_and_then (insertions 128 0 ascii) o ≡ Some cs → line_feeds cs ≡ 0
    go None e = absurd (none≢some e)
    go (Some ds) e = inserted_clear 128 0 ascii ds cs (omega arith) h e

pub name_clear : (a : Name) → line_feeds a.ascii ≡ 0 → line_feeds a.punycode ≡ 0 → AreClear (name_pieces a)
unfolding name_pieces
name_clear a h k = go (is_empty a.punycode)
  where
    prefix : (b : Bool) → AreClear (cond b [] (a.ascii ∷ codes "-" ∷ []))
    prefix true = tt
    prefix false = (h, (refl, tt))

    decoded : (o : Option (List ℕ)) → puny a.ascii a.punycode ≡ o → AreClear (some_or (fallback_pieces a) o (λ cs. map encode_utf8 cs))
    decoded None e = (refl, clear_join (cond (is_empty a.ascii) [] (a.ascii ∷ codes "-" ∷ [])) (a.punycode ∷ codes "}" ∷ []) (prefix (is_empty a.ascii)) (k, (refl, tt)))
    decoded (Some cs) e = encoded_clear cs (puny_clear a.ascii a.punycode cs h e)

    go : (b : Bool) → AreClear (cond b (a.ascii ∷ []) (some_or (fallback_pieces a) (puny a.ascii a.punycode) (λ cs. map encode_utf8 cs)))
    go true = (h, tt)
    go false = decoded (puny a.ascii a.punycode) refl

-- the parts of an ABI
hyphenated_clear : (part bs : List ℕ) → line_feeds part ≡ 0 → line_feeds bs ≡ 0 → AreClear (hyphenated_abi part bs)
hyphenated_clear part [] h k = (h, tt)
hyphenated_clear part (b ∷ bs) h k =
    let one : line_feeds (part ++ b ∷ []) ≡ 0 = omega (arith, h, line_feeds-append part (b ∷ []), line_feeds-other b [] (first_clear b bs k)) in
    go (b == code "_") (hyphenated_clear [] bs refl (rest_clear b bs k)) (hyphenated_clear (part ++ b ∷ []) bs one (rest_clear b bs k))
  where
    go : (t : Bool) → AreClear (hyphenated_abi [] bs) → AreClear (hyphenated_abi (part ++ b ∷ []) bs) → AreClear (cond t (part ∷ codes "-" ∷ hyphenated_abi [] bs) (hyphenated_abi (part ++ b ∷ []) bs))
    go true x y = (h, (refl, x))
    go false x y = y

pub extern_clear : (abi : List ℕ) → line_feeds abi ≡ 0 → AreClear (extern abi)
extern_clear abi h = (refl, clear_join (hyphenated_abi [] abi) (codes "\" " ∷ []) (hyphenated_clear [] abi refl h) (refl, tt))

-- Literals.

escaped_feed : (quote : ℕ) → quote ≢ 10 → line_feeds (literal_escape quote 10) ≡ 0
escaped_feed quote ne = ap (λ b. line_feeds (cond (b || 10 == 92) (92 ∷ 10 ∷ []) (codes "\\n"))) (ne_eqb 10 quote (λ same. ne (sym same)))

escaped_other : (quote c : ℕ) → c ≢ 10 → line_feeds (literal_escape quote c) ≡ 0
escaped_other quote c ne = go (c == quote || c == code "\\") (c == 0) (c == 9) (c == 10) (c == 13) ((nat_le 32 c && nat_lt c 127) || is_shown c)
  where
    go : (x y z v w t : Bool) → line_feeds (cond x (92 ∷ c ∷ []) (cond y (codes "\\0") (cond z (codes "\\t") (cond v (codes "\\n") (cond w (codes "\\r") (cond t (c ∷ []) (codes "\\u{" ++ digits 16 false c ++ codes "}"))))))) ≡ 0
    go true y z v w t = omega (arith, line_feeds-other c [] ne)
    go false true z v w t = refl
    go false false true v w t = refl
    go false false false true w t = refl
    go false false false false true t = refl
    go false false false false false true = line_feeds-other c [] ne
    go false false false false false false = omega (arith, line_feeds-append (digits 16 false c) (codes "}"), number_clear 16 c)

escaped_clear : (quote c : ℕ) → quote ≢ 10 → line_feeds (literal_escape quote c) ≡ 0
escaped_clear quote c ne = elim (eqb_tells c 10) [
  | inl e ↦ subst (λ x. line_feeds (literal_escape quote x) ≡ 0) (sym e.1) (escaped_feed quote ne)
  | inr e ↦ escaped_other quote c e.1
]

all_escaped : (quote : ℕ) (cs : List ℕ) → quote ≢ 10 → line_feeds (flat_map (literal_escape quote) cs) ≡ 0
all_escaped quote [] ne = refl
all_escaped quote (c ∷ cs) ne = omega (arith, line_feeds-append (literal_escape quote c) (flat_map (literal_escape quote) cs), escaped_clear quote c ne, all_escaped quote cs ne)

pub literal_clear : (quote : ℕ) (cs : List ℕ) → quote ≢ 10 → AreClear (literal quote cs)
unfolding literal
literal_clear quote cs ne =
    let all = flat_map (literal_escape quote) cs in
    encoded_clear (quote ∷ all ++ quote ∷ []) (omega (arith, line_feeds-other quote (all ++ quote ∷ []) ne, line_feeds-append all (quote ∷ []), line_feeds-other quote [] ne, all_escaped quote cs ne))
