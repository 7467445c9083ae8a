-- The hexadecimal digits of a number, from the lowest; and the pieces of a literal.
use Rattle.std.proofs.Common.{◌≡◌, ℕ, suc, ◌+◌, ◌-◌, ◌≤◌, ◌/◌, ◌%◌, ◌^◌, ◌<◌, true, false, eqb, List, [], ◌∷◌, ◌++◌, map, refl, ap, ◌∙◌, arith, append_assoc, length, drop, set}
use Rattle.std.specs.Prelude.{encode_utf8, codes, flat_map}
use Rattle.std.proofs.lemmas.List.{map-append, append-nil, drop-set}
use Rattle.demangle_symbol.specs.Literals.{literal_escape, literal}
use Rattle.std.specs.Fmt.{digits_onto, digit_glyph}
use Rattle.std.proofs.lemmas.Bool.Decides.{nat_tests}
use Rattle.std.proofs.lemmas.Grind.{pow_more}

-- the highest digit
pub onto_last : (k m n : ℕ) (text : List ℕ) → m ≡ suc k → n / 16 ≡ 0 → digits_onto m 16 false n text ≡ digit_glyph false (n % 16) ∷ text
onto_last k m n text e h = let t : eqb (n / 16) 0 ≡ true = grind (arith, nat_tests) in rw (e, t) refl

-- another
pub onto_more : (k m n : ℕ) (text : List ℕ) → m ≡ suc k → 0 < n / 16 → digits_onto m 16 false n text ≡ digits_onto k 16 false (n / 16) (digit_glyph false (n % 16) ∷ text)
onto_more k m n text e h = let t : eqb (n / 16) 0 ≡ false = grind (arith, nat_tests) in rw (e, t) refl

-- each digit makes the number smaller
pub shrinks : (n k m : ℕ) → m ≡ k + 1 → n < 16 ^ m → n / 16 < 16 ^ k
shrinks n k m e h =
    let h' : n < 16 ^ (k + 1) = rw (← e) h in
    omega (arith, pow_more 16 k)

-- the pieces of a code
pub code_pieces : (ds : List ℕ) → map encode_utf8 (codes "\\u{" ++ ds ++ codes "}") ≡ map encode_utf8 (codes "\\u{") ++ (map encode_utf8 ds ++ encode_utf8 125 ∷ [])
code_pieces ds =
    map-append encode_utf8 (codes "\\u{" ++ ds) (codes "}")
    ∙ ap (λ x. x ++ encode_utf8 125 ∷ []) (map-append encode_utf8 (codes "\\u{") ds)
    ∙ append_assoc (map encode_utf8 (codes "\\u{")) (map encode_utf8 ds) (encode_utf8 125 ∷ [])

-- the pieces of a literal
pub literal_pieces : (quote : ℕ) (cs : List ℕ) → literal quote cs ≡ encode_utf8 quote ∷ (map encode_utf8 (flat_map (literal_escape quote) cs) ++ encode_utf8 quote ∷ [])
unfolding literal
literal_pieces quote cs = map-append encode_utf8 (quote ∷ flat_map (literal_escape quote) cs) (quote ∷ [])

pub literal_one : (quote c : ℕ) → literal quote (c ∷ []) ≡ encode_utf8 quote ∷ (map encode_utf8 (literal_escape quote c) ++ encode_utf8 quote ∷ [])
literal_one quote c =
    literal_pieces quote (c ∷ []) ∙ ap (λ x. encode_utf8 quote ∷ (map encode_utf8 x ++ encode_utf8 quote ∷ [])) (append-nil (literal_escape quote c))
