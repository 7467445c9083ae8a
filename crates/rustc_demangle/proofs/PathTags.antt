-- A run that begins with `_R` and a byte that begins no path is no symbol.
use Rattle.std.proofs.Common.{◌≡◌, ℕ, ◌<◌, ◌≤◌, ◌⊎◌, inl, inr, ◌&&◌, ◌||◌, Bool, true, false, eqb, eqb-true, cond, List, [], ◌∷◌, ◌++◌, length, get_or, slice_index_or, Option, Some, refl, sym, ap, subst, ◌∙◌, arith, append_assoc, codes}
use Rattle.std.proofs.lemmas.Bool.{true≢false}
use Rattle.demangle_symbol.specs.Primitives.{byte_at, some_or}
use Rattle.demangle_v0_grammar.specs.Items.{Items, invalid}
use Rattle.demangle_v0_grammar.specs.Table.{is_among, path}
use Rattle.demangle_v0_grammar.specs.Spelling.{Spells, freely, byte_, raise_, IsPath}
use Rattle.demangle_v0_grammar.specs.V0.{IsV0Prefix}
use Rattle.demangle_legacy.specs.Legacy.{IsLegacyPrefix}
use Rattle.demangle_value.specs.Filtered.{replacement_in}
use Rattle.demangle_value.specs.Stripped.{stripped}
use Rattle.demangle_value.specs.Symbols.{IsSymbol}
use Rattle.demangle_value.specs.declared.format.Format.{Format}
use Rattle.rustc_demangle.specs.Rewritten.{stays, replacement_of}
use Rattle.demangle_value.proofs.RunLemmas.{replacement_in-no_symbol}
use Rattle.demangle_value.proofs.RunStarts.{and_left, and_right}
use Rattle.demangle_value.proofs.Stripping.{stripped_prefix}
use Rattle.rustc_demangle.proofs.CandidateLemmas.{or_false}

-- the tag of a path
abbrev is_path_tag : ℕ → Bool
is_path_tag c = is_among c (codes "CNMXYIB")

-- the tag of a path that is more than a crate
abbrev is_longer_tag : ℕ → Bool
is_longer_tag c = is_among c (codes "NMXYIB")

row_passed : (b : Bool) (row rest : Items) → b ≡ false → cond (b || false) row rest ≡ rest
row_passed b row rest e = ap (λ b. cond (b || false) row rest) e

-- no other byte has a row in the table
no_row : (v : Bool) (c : ℕ) → is_path_tag c ≡ false → path v c ≡ invalid
no_row v c none =
    let a = or_false (eqb c 67) _ none in
    let b = or_false (eqb c 78) _ a.1 in
    let d = or_false (eqb c 77) _ b.1 in
    let e = or_false (eqb c 88) _ d.1 in
    let f = or_false (eqb c 89) _ e.1 in
    let g = or_false (eqb c 73) _ f.1 in
    let h = or_false (eqb c 66) _ g.1 in
    row_passed (eqb c 67) _ _ a.0 ∙ row_passed (eqb c 78) _ _ b.0 ∙ row_passed (eqb c 77) _ _ d.0 ∙ row_passed (eqb c 88) _ _ e.0
    ∙ row_passed (eqb c 89) _ _ f.0 ∙ row_passed (eqb c 73) _ _ g.0 ∙ row_passed (eqb c 66) _ _ h.0

nothing_spelled : {symbol : List ℕ} {d m i j : ℕ} → Spells symbol freely d m invalid i j → ⊥
nothing_spelled x = elim x [ ]

first_byte : (c : ℕ) (t : List ℕ) (v k : ℕ) → byte_at (c ∷ t) 0 ≡ Some (v, k) → v ≡ c
unfolding byte_at
first_byte c t v k e = sym (ap (λ (o : Option (ℕ × ℕ)). some_or 0 o (λ z. z.0)) e)

no_byte : (v k : ℕ) → byte_at [] 0 ≡ Some (v, k) → ⊥
unfolding byte_at
no_byte v k e = cc e

abbrev BeginsPath : List ℕ → Type 0
BeginsPath inner = (c : ℕ) × (t : List ℕ) × (inner ≡ c ∷ t) × (is_path_tag c ≡ true)

path_begins : (inner : List ℕ) (j : ℕ) → IsPath inner 0 j → BeginsPath inner
path_begins [] j (raise_ _ (byte_ v k e _)) = absurd (no_byte v k e)
path_begins (c ∷ t) j (raise_ _ (byte_ v k e rest)) = (c, t, refl, at (is_path_tag c) refl)
  where
    at : (b : Bool) → is_path_tag c ≡ b → is_path_tag c ≡ true
    at true is = is
    at false none = absurd (nothing_spelled (subst (λ p. Spells (c ∷ t) freely 1 0 p k j) (ap (path true) (first_byte c t v k e) ∙ no_row true c none) rest))

-- how a run begins that is a symbol
abbrev Begins : List ℕ → Type 0
Begins run = (prefix : List ℕ) × (rest : List ℕ) × (run ≡ prefix ++ rest) × (IsLegacyPrefix prefix ⊎ (IsV0Prefix prefix × BeginsPath rest))

symbol_begins : (run : List ℕ) → IsSymbol (stripped run) → Begins run
symbol_begins run (inl (elements, suffix, legacy, allowed)) =
    let more = stripped_prefix run in
    (legacy.0, legacy.1 ++ more.0, more.1 ∙ ap (λ l. l ++ more.0) legacy.2 ∙ append_assoc legacy.0 legacy.1 more.0, inl legacy.3)
symbol_begins run (inr (inner, suffix, (prefix, whole, is, ascii, begins, (k, paths, ends)), allowed)) =
    let more = stripped_prefix run in
    let tag = path_begins inner paths.0 paths.1 in
    (prefix, inner ++ more.0, more.1 ∙ ap (λ l. l ++ more.0) whole ∙ append_assoc prefix inner more.0, inr (is, (tag.0, tag.1 ++ more.0, ap (λ l. l ++ more.0) tag.2, tag.3)))

-- the tag of a path is that of a crate or of a longer path
only_crate : (c : ℕ) → is_path_tag c ≡ true → is_longer_tag c ≡ false → c ≡ 67
only_crate c is none = at (eqb c 67) refl is
  where
    at : (b : Bool) → eqb c 67 ≡ b → (b || is_longer_tag c) ≡ true → c ≡ 67
    at true e h = eqb-true c 67 e
    at false e h = absurd (true≢false (sym h ∙ none))

kept_at : (format : Format) (s : List ℕ) → (stays s ≡ false → IsSymbol (stripped s) → ⊥) → replacement_of format s ≡ s
kept_at format s none = at (stays s) refl
  where
    at : (b : Bool) → stays s ≡ b → cond b s (replacement_in format s) ≡ s
    at true e = refl
    at false e = replacement_in-no_symbol format s (none e)

crate_stays : (s t : List ℕ) → s ≡ codes "_RC" ++ t → stays s ≡ true
crate_stays s t e = ap stays e

underscored_crate_stays : (s t : List ℕ) → s ≡ codes "__RC" ++ t → stays s ≡ true
underscored_crate_stays s t e = ap stays e

-- the byte at a place of equal lists
byte_of : (n : ℕ) (s t : List ℕ) → s ≡ t → get_or s n 0 ≡ get_or t n 0
byte_of n s t e = ap (λ l. get_or l n 0) e

tagged : (c d : ℕ) → c ≡ d → is_path_tag c ≡ true → is_path_tag d ≡ true
tagged c d e is = ap is_path_tag (sym e) ∙ is

-- A candidate whose second byte is `R`.

no_tag : (a c : ℕ) (t : List ℕ) → is_longer_tag c ≡ false → stays (a ∷ 82 ∷ c ∷ t) ≡ false → Begins (a ∷ 82 ∷ c ∷ t) → ⊥
no_tag a c t none not (p, r, e, inl (inl q)) = let w = byte_of 1 _ _ (e ∙ ap (λ p. p ++ r) q) in omega (arith, w)
no_tag a c t none not (p, r, e, inl (inr (inl q))) = let w = byte_of 1 _ _ (e ∙ ap (λ p. p ++ r) q) in omega (arith, w)
no_tag a c t none not (p, r, e, inl (inr (inr q))) = let w = byte_of 1 _ _ (e ∙ ap (λ p. p ++ r) q) in omega (arith, w)
no_tag a c t none not (p, r, e, inr (inl q, (d, u, f, is))) =
    let whole : a ∷ 82 ∷ c ∷ t ≡ codes "_R" ++ (d ∷ u) = e ∙ ap (λ p. p ++ r) q ∙ ap (λ r. codes "_R" ++ r) f in
    let first : a ≡ 95 = byte_of 0 _ _ whole in
    let third : c ≡ d = byte_of 2 _ _ whole in
    let crate : c ≡ 67 = only_crate c (tagged d c (sym third) is) none in
    true≢false (sym (crate_stays (a ∷ 82 ∷ c ∷ t) t (ap (λ a. a ∷ 82 ∷ c ∷ t) first ∙ ap (λ c. 95 ∷ 82 ∷ c ∷ t) crate)) ∙ not)
no_tag a c t none not (p, r, e, inr (inr (inl q), (d, u, f, is))) =
    let second : 82 ≡ d = byte_of 1 _ _ (e ∙ ap (λ p. p ++ r) q ∙ ap (λ r. codes "R" ++ r) f) in
    true≢false (sym (tagged d 82 (sym second) is))
no_tag a c t none not (p, r, e, inr (inr (inr q), tag)) = let w = byte_of 1 _ _ (e ∙ ap (λ p. p ++ r) q) in omega (arith, w)

pub kept_run : (format : Format) (s : List ℕ) → 3 ≤ length s → slice_index_or s 1 0 ≡ 82 → is_among (slice_index_or s 2 0) (codes "NMXYIB") ≡ false → replacement_of format s ≡ s
kept_run format [] more second none = absurd (omega (arith, more))
kept_run format (a ∷ []) more second none = absurd (omega (arith, more))
kept_run format (a ∷ b ∷ []) more second none = absurd (omega (arith, more))
kept_run format (a ∷ b ∷ c ∷ t) more second none =
    subst (λ b. replacement_of format (a ∷ b ∷ c ∷ t) ≡ a ∷ b ∷ c ∷ t) (sym second)
    (kept_at format (a ∷ 82 ∷ c ∷ t) (λ not is. no_tag a c t none not (symbol_begins (a ∷ 82 ∷ c ∷ t) is)))

-- A candidate whose second and third bytes are `_R`.

no_underscored_tag : (a c : ℕ) (t : List ℕ) → is_longer_tag c ≡ false → stays (a ∷ 95 ∷ 82 ∷ c ∷ t) ≡ false → Begins (a ∷ 95 ∷ 82 ∷ c ∷ t) → ⊥
no_underscored_tag a c t none not (p, r, e, inl (inl q)) = let w = byte_of 1 _ _ (e ∙ ap (λ p. p ++ r) q) in omega (arith, w)
no_underscored_tag a c t none not (p, r, e, inl (inr (inl q))) = let w = byte_of 1 _ _ (e ∙ ap (λ p. p ++ r) q) in omega (arith, w)
no_underscored_tag a c t none not (p, r, e, inl (inr (inr q))) = let w = byte_of 2 _ _ (e ∙ ap (λ p. p ++ r) q) in omega (arith, w)
no_underscored_tag a c t none not (p, r, e, inr (inl q, tag)) = let w = byte_of 1 _ _ (e ∙ ap (λ p. p ++ r) q) in omega (arith, w)
no_underscored_tag a c t none not (p, r, e, inr (inr (inl q), (d, u, f, is))) =
    let second : 95 ≡ d = byte_of 1 _ _ (e ∙ ap (λ p. p ++ r) q ∙ ap (λ r. codes "R" ++ r) f) in
    true≢false (sym (tagged d 95 (sym second) is))
no_underscored_tag a c t none not (p, r, e, inr (inr (inr q), (d, u, f, is))) =
    let whole : a ∷ 95 ∷ 82 ∷ c ∷ t ≡ codes "__R" ++ (d ∷ u) = e ∙ ap (λ p. p ++ r) q ∙ ap (λ r. codes "__R" ++ r) f in
    let first : a ≡ 95 = byte_of 0 _ _ whole in
    let fourth : c ≡ d = byte_of 3 _ _ whole in
    let crate : c ≡ 67 = only_crate c (tagged d c (sym fourth) is) none in
    true≢false (sym (underscored_crate_stays (a ∷ 95 ∷ 82 ∷ c ∷ t) t (ap (λ a. a ∷ 95 ∷ 82 ∷ c ∷ t) first ∙ ap (λ c. 95 ∷ 95 ∷ 82 ∷ c ∷ t) crate)) ∙ not)

pub kept_underscored_run : (format : Format) (s : List ℕ) → 3 < length s → (eqb (slice_index_or s 1 0) 95 && eqb (slice_index_or s 2 0) 82) ≡ true → is_among (slice_index_or s 3 0) (codes "NMXYIB") ≡ false → replacement_of format s ≡ s
kept_underscored_run format [] more both none = absurd (omega (arith, more))
kept_underscored_run format (a ∷ []) more both none = absurd (omega (arith, more))
kept_underscored_run format (a ∷ b ∷ []) more both none = absurd (omega (arith, more))
kept_underscored_run format (a ∷ b ∷ c ∷ []) more both none = absurd (omega (arith, more))
kept_underscored_run format (a ∷ b ∷ c ∷ d ∷ t) more both none =
    let second : b ≡ 95 = eqb-true b 95 (and_left (eqb b 95) (eqb c 82) both) in
    let third : c ≡ 82 = eqb-true c 82 (and_right (eqb b 95) (eqb c 82) both) in
    subst (λ b. replacement_of format (a ∷ b ∷ c ∷ d ∷ t) ≡ a ∷ b ∷ c ∷ d ∷ t) (sym second)
    (subst (λ c. replacement_of format (a ∷ 95 ∷ c ∷ d ∷ t) ≡ a ∷ 95 ∷ c ∷ d ∷ t) (sym third)
    (kept_at format (a ∷ 95 ∷ 82 ∷ d ∷ t) (λ not is. no_underscored_tag a d t none not (symbol_begins (a ∷ 95 ∷ 82 ∷ d ∷ t) is))))
