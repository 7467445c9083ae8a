-- The runs of a line, in the order in which they are replaced.
use Rattle.std.proofs.Common.{◌≡◌, ℕ, zero, suc, ◌+◌, ◌-◌, ◌<◌, ◌≤◌, ◌⊎◌, inl, inr, ◌||◌, Bool, true, false, cond, List, [], ◌∷◌, ◌++◌, length, take, drop, get_or, Option, None, Some, refl, sym, ap, subst, ◌∙◌, arith, codes, nat_eq}
use Rattle.std.specs.List.{starts_with, prefix_len, take_while, concat}
use Rattle.std.specs.Option.{option_map_or}
use Rattle.std.specs.Str.{IsUtf8, IsCharBoundary}
use Rattle.std.proofs.lemmas.Bool.Decides.{nat_tests, Decides-eqb}
use Rattle.std.proofs.lemmas.Slice.Eq.{starts_is}
use Rattle.std.proofs.lemmas.Str.{IsCharBoundary-after_ascii}
use Rattle.std.proofs.lemmas.List.Sums.{prefix_len_passes, prefix_len-le-length}
use Rattle.demangle_value.specs.Stripped.{stripped}
use Rattle.demangle_value.specs.Limits.{most_bytes}
use Rattle.demangle_value.specs.Symbols.{IsSymbol, form_in, pieces_in, handed_in, unfolded, printed}
use Rattle.demangle_value.specs.declared.format.Format.{Format}
use Rattle.demangle_value.proofs.SymbolLemmas.{pieces-symbol, symbol-pieces}
use Rattle.demangle_value.specs.Filtered.{by_runs, is_run_byte, starts_run, filtered_by, replacement_in, replacement}

-- skipped bytes are omitted
pub filtered_skip : (f : List ℕ → List ℕ) (n : ℕ) (s : List ℕ) → filtered_by f n s ≡ filtered_by f zero (drop n s)
unfolding by_runs
filtered_skip f zero [] = refl
filtered_skip f (suc n) [] = refl
filtered_skip f zero (c ∷ s) = refl
filtered_skip f (suc n) (c ∷ s) = filtered_skip f n s

-- one iteration, by whether a run starts
abbrev pub turn : (List ℕ → List ℕ) → ℕ → List ℕ → Bool → List ℕ
turn f c s b = elim b [
  | true ↦ f (c ∷ take_while is_run_byte s) ++ filtered_by f (prefix_len is_run_byte s) s
  | false ↦ c ∷ filtered_by f zero s
]

-- if no run starts, the character is unchanged
pub filtered_other : (f : List ℕ → List ℕ) (c : ℕ) (s : List ℕ) → starts_run (c ∷ s) ≡ false → filtered_by f zero (c ∷ s) ≡ c ∷ filtered_by f zero s
unfolding by_runs
filtered_other f c s none = ap (turn f c s) none

-- if a run starts, it is replaced
pub filtered_first : (f : List ℕ → List ℕ) (c : ℕ) (s : List ℕ) → starts_run (c ∷ s) ≡ true
    → filtered_by f zero (c ∷ s) ≡ f (c ∷ take_while is_run_byte s) ++ filtered_by f zero (drop (prefix_len is_run_byte s) s)
unfolding by_runs
filtered_first f c s some = ap (turn f c s) some ∙ ap (λ l. f (c ∷ take_while is_run_byte s) ++ l) (filtered_skip f (prefix_len is_run_byte s) s)

-- a run starts with `_ZN` or `_R`
pub begins_with : (s : List ℕ) → starts_run s ≡ true → (t : List ℕ) × ((s ≡ codes "_ZN" ++ t) ⊎ (s ≡ codes "_R" ++ t))
begins_with s some = at (starts_with nat_eq s (codes "_ZN")) refl some
  where
    at : (b : Bool) → starts_with nat_eq s (codes "_ZN") ≡ b → (b || starts_with nat_eq s (codes "_R")) ≡ true → (t : List ℕ) × ((s ≡ codes "_ZN" ++ t) ⊎ (s ≡ codes "_R" ++ t))
    at true e h = (drop 3 s, inl ((starts_is Decides-eqb s (codes "_ZN") true (sym e)).0 refl))
    at false e h = (drop 2 s, inr ((starts_is Decides-eqb s (codes "_R") true (sym h)).0 refl))

-- the first byte of a run
pub first_of_run : (s : List ℕ) → starts_run s ≡ true → get_or s 0 0 ≡ 95
first_of_run s some = elim ((begins_with s some).1) [ inl e ↦ ap (λ l. get_or l 0 0) e | inr e ↦ ap (λ l. get_or l 0 0) e ]

-- it has at least that byte
pub run_some : (s : List ℕ) → starts_run s ≡ true → (0 < length s) × (0 < prefix_len is_run_byte s)
run_some [] some = absurd (elim ((begins_with [] some).1) [ inl e ↦ cc | inr e ↦ cc ])
run_some (c ∷ s) some = (omega arith, rw (first_of_run (c ∷ s) some) (omega arith))

-- the same for the whole list: a run at its start, and the text after it
pub filtered_run : (f : List ℕ → List ℕ) (s : List ℕ) → starts_run s ≡ true
    → filtered_by f zero s ≡ f (take (prefix_len is_run_byte s) s) ++ filtered_by f zero (drop (prefix_len is_run_byte s) s)
filtered_run f [] some = absurd (omega (arith, (run_some [] some).0))
filtered_run f (c ∷ s) some =
    let first : c ≡ 95 = first_of_run (c ∷ s) some in
    let count : prefix_len is_run_byte (c ∷ s) ≡ suc (prefix_len is_run_byte s) = ap (λ b. cond b (1 + prefix_len is_run_byte s) 0) (ap is_run_byte first) ∙ omega arith in
    filtered_first f c s some ∙ ap (λ n. f (take n (c ∷ s)) ++ filtered_by f zero (drop n (c ∷ s))) (sym count)

pub run_ascii : (c : ℕ) → is_run_byte c ≡ true → c < 128
run_ascii c is = grind (arith, nat_tests)

pub cut_after : (s : List ℕ) → IsUtf8 s → starts_run s ≡ true → IsCharBoundary s (prefix_len is_run_byte s)
cut_after s utf8 some =
    let n = prefix_len is_run_byte s in
    let pos : 0 < n = (run_some s some).1 in
    let last : get_or s (n - 1) 0 < 128 = run_ascii _ (prefix_len_passes is_run_byte s (n - 1) 0 (omega arith)) in
    let le : n ≤ length s = prefix_len-le-length is_run_byte s in
    subst (IsCharBoundary s) (omega arith) (IsCharBoundary-after_ascii s (n - 1) utf8 (omega arith) last)

-- a text in which no run starts is unchanged
pub filtered_all : (f : List ℕ → List ℕ) (s : List ℕ) → ((k : ℕ) → k < length s → starts_run (drop k s) ≡ false) → filtered_by f zero s ≡ s
unfolding by_runs
filtered_all f [] none = refl
filtered_all f (c ∷ s) none =
    filtered_other f c s (none 0 (omega arith)) ∙ ap (λ l. c ∷ l) (filtered_all f s (λ k lt. none (suc k) (omega arith)))

-- a run that is a symbol is replaced by the text that the symbol prints
pub replacement_in-symbol : (format : Format) (run : List ℕ) → IsSymbol (stripped run) → replacement_in format run ≡ concat (handed_in (stripped run) format)
replacement_in-symbol format run symbol =
    ap (λ read. option_map_or (λ (_ : List (List ℕ) × List ℕ). concat (handed_in (stripped run) format)) read run) (pieces-symbol (form_in format (stripped run)) (stripped run) symbol).1

pub replacement-symbol : (h : Bool) (run : List ℕ) → IsSymbol (stripped run) → replacement h run ≡ printed (stripped run) h
replacement-symbol h run symbol = replacement_in-symbol (unfolded h most_bytes) run symbol

-- a run that is not a symbol is unchanged
pub replacement_in-no_symbol : (format : Format) (run : List ℕ) → (IsSymbol (stripped run) → ⊥) → replacement_in format run ≡ run
replacement_in-no_symbol format run none = at (pieces_in (form_in format (stripped run)) (stripped run)) refl
  where
    at : (read : Option (List (List ℕ) × List ℕ)) → pieces_in (form_in format (stripped run)) (stripped run) ≡ read → option_map_or (λ _. concat (handed_in (stripped run) format)) read run ≡ run
    at None e = refl
    at (Some read) e = absurd (none (symbol-pieces (form_in format (stripped run)) (stripped run) read e))

pub replacement-no_symbol : (h : Bool) (run : List ℕ) → (IsSymbol (stripped run) → ⊥) → replacement h run ≡ run
replacement-no_symbol h run none = replacement_in-no_symbol (unfolded h most_bytes) run none

-- The run that was found may be split off, by the values of the code.
pub cut_at : (rest bytes found bytes' : List ℕ) (n m : ℕ) → IsUtf8 bytes' → bytes ≡ rest → starts_run (drop n bytes) ≡ true → found ≡ drop n rest
    → bytes' ≡ found → m ≡ prefix_len is_run_byte bytes' → IsCharBoundary found m
cut_at rest bytes found bytes' n m utf8 b some f b' count =
    let some' : starts_run bytes' ≡ true = subst (λ l. starts_run l ≡ true) (ap (drop n) b ∙ sym f ∙ sym b') some in
    subst (IsCharBoundary found) (sym count) (subst (λ l. IsCharBoundary l (prefix_len is_run_byte bytes')) b' (cut_after bytes' utf8 some'))

-- the printed symbol replaces its run
pub symbol_replaced : (run symbol : List ℕ) (format : Format) → symbol ≡ stripped run → IsSymbol symbol → concat (handed_in symbol format) ≡ replacement_in format run
symbol_replaced run symbol format same is =
    ap (λ s. concat (handed_in s format)) same ∙ sym (replacement_in-symbol format run (subst IsSymbol same is))

-- a run that is not a symbol is unchanged
pub run_kept : (run symbol : List ℕ) (format : Format) → symbol ≡ stripped run → (IsSymbol symbol → ⊥) → run ≡ replacement_in format run
run_kept run symbol format same other = sym (replacement_in-no_symbol format run (λ is. other (subst IsSymbol (sym same) is)))
