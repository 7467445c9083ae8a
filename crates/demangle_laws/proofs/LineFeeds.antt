-- The line feeds of a text.
use Rattle.std.proofs.Common.{◌≡◌, ◌≢◌, ℕ, ◌+◌, ◌/◌, ◌%◌, ◌≤◌, Bool, true, false, cond, List, [], ◌∷◌, ◌++◌, take, drop, ap, ◌∙◌, arith, ne_eqb, ltb}
use Rattle.std.specs.List.{concat}
use Rattle.std.proofs.lemmas.List.{take-append-drop}
use Rattle.std.proofs.lemmas.List.Folds.{concat-append}
use Rattle.std.specs.Char.{encode_utf8}
use Rattle.rustc_demangle.specs.Lines.{line_feeds}

pub line_feeds-append : (xs ys : List ℕ) → line_feeds (xs ++ ys) ≡ line_feeds xs + line_feeds ys
line_feeds-append [] ys = omega arith
line_feeds-append (b ∷ xs) ys = omega (arith, line_feeds-append xs ys)

pub line_feeds-concat : (xs ys : List (List ℕ)) → line_feeds (concat (xs ++ ys)) ≡ line_feeds (concat xs) + line_feeds (concat ys)
line_feeds-concat xs ys = ap line_feeds (concat-append xs ys) ∙ line_feeds-append (concat xs) (concat ys)

pub line_feeds-cons : (x : List ℕ) (xs : List (List ℕ)) → line_feeds (concat (x ∷ xs)) ≡ line_feeds x + line_feeds (concat xs)
line_feeds-cons x xs = line_feeds-append x (concat xs)

pub line_feeds-take : (n : ℕ) (xs : List ℕ) → line_feeds (take n xs) ≤ line_feeds xs
line_feeds-take n xs = omega (arith, ap line_feeds (take-append-drop n xs), line_feeds-append (take n xs) (drop n xs))

pub line_feeds-drop : (n : ℕ) (xs : List ℕ) → line_feeds (drop n xs) ≤ line_feeds xs
line_feeds-drop n xs = omega (arith, ap line_feeds (take-append-drop n xs), line_feeds-append (take n xs) (drop n xs))

pub line_feeds-other : (b : ℕ) (xs : List ℕ) → b ≢ 10 → line_feeds (b ∷ xs) ≡ line_feeds xs
line_feeds-other b xs ne = ap (λ t. cond t 1 0 + line_feeds xs) (ne_eqb b 10 ne) ∙ omega arith

-- a character that is not a line feed is written without one
pub line_feeds-character : (c : ℕ) → c ≢ 10 → line_feeds (encode_utf8 c) ≡ 0
unfolding encode_utf8
line_feeds-character c ne = go (ltb c 128) (ltb c 2048) (ltb c 65536)
  where
    two : (x y : ℕ) → line_feeds ((192 + x) ∷ (128 + y) ∷ []) ≡ 0
    two x y = line_feeds-other (192 + x) ((128 + y) ∷ []) (λ same. omega (arith, same)) ∙ line_feeds-other (128 + y) [] (λ same. omega (arith, same))

    three : (x y z : ℕ) → line_feeds ((224 + x) ∷ (128 + y) ∷ (128 + z) ∷ []) ≡ 0
    three x y z = line_feeds-other (224 + x) ((128 + y) ∷ (128 + z) ∷ []) (λ same. omega (arith, same)) ∙ line_feeds-other (128 + y) ((128 + z) ∷ []) (λ same. omega (arith, same)) ∙ line_feeds-other (128 + z) [] (λ same. omega (arith, same))

    four : (x y z w : ℕ) → line_feeds ((240 + x) ∷ (128 + y) ∷ (128 + z) ∷ (128 + w) ∷ []) ≡ 0
    four x y z w = line_feeds-other (240 + x) ((128 + y) ∷ (128 + z) ∷ (128 + w) ∷ []) (λ same. omega (arith, same)) ∙ line_feeds-other (128 + y) ((128 + z) ∷ (128 + w) ∷ []) (λ same. omega (arith, same))
        ∙ line_feeds-other (128 + z) ((128 + w) ∷ []) (λ same. omega (arith, same)) ∙ line_feeds-other (128 + w) [] (λ same. omega (arith, same))

    go : (x y z : Bool) → line_feeds (cond x (c ∷ []) (cond y ((192 + c / 64) ∷ (128 + c % 64) ∷ []) (cond z ((224 + c / 4096) ∷ (128 + c / 64 % 64) ∷ (128 + c % 64) ∷ []) ((240 + c / 262144) ∷ (128 + c / 4096 % 64) ∷ (128 + c / 64 % 64) ∷ (128 + c % 64) ∷ [])))) ≡ 0
    go true y z = line_feeds-other c [] ne
    go false true z = two (c / 64) (c % 64)
    go false false true = three (c / 4096) (c / 64 % 64) (c % 64)
    go false false false = four (c / 262144) (c / 4096 % 64) (c / 64 % 64) (c % 64)
