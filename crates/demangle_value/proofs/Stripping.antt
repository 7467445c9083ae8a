-- The first `.llvm.` of a text.
use Rattle.std.proofs.Common.{◌≡◌, ℕ, zero, suc, ◌+◌, ◌-◌, ◌<◌, ◌≤◌, inl, inr, Bool, true, false, cond, List, [], ◌∷◌, ◌++◌, length, take, drop, refl, sym, ap, ◌∙◌, arith, subst, nat_eq, eqb, get_or}
use Rattle.std.specs.Prelude.{codes, IsAscii}
use Rattle.std.specs.List.{starts_with, list_all}
use Rattle.std.specs.Cmp.Lexicographic.{bytes_decides}
use Rattle.std.specs.Str.Pattern.{FindsText, SplitsAroundMatch}
use Rattle.std.proofs.lemmas.List.{take-append-drop, append-nil, length-append, length-drop, get_or-drop}
use Rattle.std.proofs.lemmas.Str.{IsAscii-drop}
use Rattle.std.proofs.lemmas.Str.Ascii.{IsAscii-nil, IsAscii-cons}
use Rattle.memchr.specs.Find.{Nowhere, Passes, is_byte}
use Rattle.demangle_value.specs.Stripped.{stripped, is_thin_lto}
use Rattle.std.proofs.lemmas.Bool.{cases_Bool, cases_lt, true≢false}
use Rattle.std.proofs.lemmas.List.Folds.{list_all_at}

abbrev pub ending : List ℕ → List ℕ
ending rest = 46 ∷ 108 ∷ 108 ∷ 118 ∷ 109 ∷ 46 ∷ rest

pub begins : (t : List ℕ) → starts_with nat_eq t (codes ".llvm.") ≡ true → t ≡ ending (drop 6 t)
begins t e = sym (take-append-drop 6 t) ∙ ap (λ x. x ++ drop 6 t) (sym ((bytes_decides (codes ".llvm.") (take 6 t)).0 e))

not_here : (t : List ℕ) → ((rest : List ℕ) → t ≡ ending rest → ⊥) → starts_with nat_eq t (codes ".llvm.") ≡ false
not_here t h = elim (cases_Bool (starts_with nat_eq t (codes ".llvm."))) [ inr f ↦ f | inl e ↦ absurd (h (drop 6 t) (begins t e)) ]

stripped_later : (c : ℕ) (s : List ℕ) → ((rest : List ℕ) → c ∷ s ≡ ending rest → ⊥) → stripped (c ∷ s) ≡ c ∷ stripped s
unfolding stripped
stripped_later c s h = ap (λ b. cond b (cond (list_all is_thin_lto (drop 5 s)) [] (c ∷ s)) (c ∷ stripped s)) (not_here (c ∷ s) h)

pub stripped_none : (s : List ℕ) → ((i : ℕ) → i ≤ length s → (rest : List ℕ) → drop i s ≡ ending rest → ⊥) → s ≡ stripped s
unfolding stripped
stripped_none [] h = refl
stripped_none (c ∷ s) h = ap (λ t. c ∷ t) (stripped_none s (λ i l. h (suc i) (omega arith))) ∙ sym (stripped_later c s (h 0 (omega arith)))

begins_ending : (t rest : List ℕ) → t ≡ ending rest → starts_with nat_eq t (codes ".llvm.") ≡ true
begins_ending t rest e = ap (λ z. starts_with nat_eq z (codes ".llvm.")) e

-- a text without a suffix of ThinLTO
abbrev Uncut : List ℕ → Type 0
Uncut s = (i : ℕ) (rest : List ℕ) → drop i s ≡ ending rest → list_all is_thin_lto rest ≡ true → ⊥

uncut_here : (c : ℕ) (s : List ℕ) (b d : Bool) → starts_with nat_eq (c ∷ s) (codes ".llvm.") ≡ b → list_all is_thin_lto (drop 5 s) ≡ d → Uncut (c ∷ s) → s ≡ stripped s
    → c ∷ s ≡ cond b (cond d [] (c ∷ s)) (c ∷ stripped s)
uncut_here c s true true e t h below = absurd (h 0 (drop 5 s) (begins (c ∷ s) e) t)
uncut_here c s true false e t h below = refl
uncut_here c s false d e t h below = ap (λ z. c ∷ z) below

stripped_uncut : (s : List ℕ) → Uncut s → s ≡ stripped s
unfolding stripped
stripped_uncut [] h = refl
stripped_uncut (c ∷ s) h =
    uncut_here c s (starts_with nat_eq (c ∷ s) (codes ".llvm.")) (list_all is_thin_lto (drop 5 s)) refl refl h (stripped_uncut s (λ i rest e t. h (suc i) rest e t))

-- no `.llvm.` is before the last bytes that may follow one
pub stripped_thin_end : (s : List ℕ) (from : ℕ) → from ≤ length s → ((k : ℕ) → from ≤ k → k < length s → is_thin_lto (get_or s k 0) ≡ true) → (0 < from → is_thin_lto (get_or s (from - 1) 0) ≡ false)
    → (6 ≤ from → starts_with nat_eq (drop (from - 6) s) (codes ".llvm.") ≡ false) → s ≡ stripped s
stripped_thin_end s from within after before other = stripped_uncut s (λ i rest e thin.
    let size : length s - i ≡ 6 + length rest = omega (arith, length-drop i s, ap length e) in
    let dot : get_or s (i + 5) 0 ≡ 46 = sym (get_or-drop i s 5 0) ∙ ap (λ t. get_or t 5 0) e in
    elim (cases_lt (i + 5) from) [
      | inr early ↦ true≢false (sym (after (i + 5) early (omega (arith, size))) ∙ ap is_thin_lto dot)
      | inl late ↦ elim (cases_lt (i + 6) from) [
        | inr same ↦
            let at : drop (from - 6) s ≡ ending rest = ap (λ k. drop k s) (omega (arith, late, same)) ∙ e in
            true≢false (sym (begins_ending (drop (from - 6) s) rest at) ∙ other (omega (arith, late)))
        | inl later ↦
            let k = from - (i + 7) in
            let there : get_or rest k 0 ≡ get_or s (from - 1) 0 =
            ap (λ t. get_or (drop 6 t) k 0) (sym e) ∙ get_or-drop 6 (drop i s) k 0 ∙ get_or-drop i s (6 + k) 0 ∙ ap (λ j. get_or s j 0) (omega (arith, later)) in
            true≢false (sym thin ∙ list_all_at is_thin_lto rest k 0 (omega (arith, later, size, within)) (ap is_thin_lto there ∙ before (omega (arith, later))))
      ]
    ])

-- the last `.` is not the end of a `.llvm.`
pub stripped_undotted_end : (s : List ℕ) (dot : ℕ) → dot < length s → get_or s dot 0 ≡ 46 → Nowhere (Passes (is_byte 46) s) (dot + 1) (length s)
    → (5 ≤ dot → starts_with nat_eq (drop (dot - 5) s) (codes ".llvm.") ≡ false) → s ≡ stripped s
stripped_undotted_end s dot low hit none other = stripped_uncut s (λ i rest e thin.
    let size : length s - i ≡ 6 + length rest = omega (arith, length-drop i s, ap length e) in
    let second : get_or s (i + 5) 0 ≡ 46 = sym (get_or-drop i s 5 0) ∙ ap (λ t. get_or t 5 0) e in
    elim (cases_lt dot (i + 5)) [
      | inl before ↦ none (i + 5) (omega (arith, before)) (omega (arith, size)) (ap (λ x. eqb x 46) second)
      | inr after ↦ elim (cases_lt (i + 5) dot) [
        | inr same ↦
            let at : drop (dot - 5) s ≡ ending rest = ap (λ k. drop k s) (omega (arith, after, same)) ∙ e in
            true≢false (sym (begins_ending (drop (dot - 5) s) rest at) ∙ other (omega (arith, after)))
        | inl later ↦
            let k = dot - (i + 6) in
            let there : get_or rest k 0 ≡ 46 =
            ap (λ t. get_or (drop 6 t) k 0) (sym e) ∙ get_or-drop 6 (drop i s) k 0 ∙ get_or-drop i s (6 + k) 0 ∙ ap (λ j. get_or s j 0) (omega (arith, later)) ∙ hit in
            true≢false (sym thin ∙ list_all_at is_thin_lto rest k 0 (omega (arith, later, size, low)) (ap is_thin_lto there))
      ]
    ])

-- the text has no `.`
pub stripped_undotted : (s : List ℕ) → Nowhere (Passes (is_byte 46) s) 0 (length s) → s ≡ stripped s
stripped_undotted s h = stripped_none s (λ i l rest e.
    let inside : i < length s = omega (arith, length-drop i s, ap length e) in
    let dot : get_or s i 0 ≡ 46 = ap (λ k. get_or s k 0) (omega arith) ∙ (sym (get_or-drop i s 0 0) ∙ ap (λ t. get_or t 0 0) e) in
    h i (omega arith) inside (ap (λ x. eqb x 46) dot))

stripped_here : (rest : List ℕ) → stripped (ending rest) ≡ cond (list_all is_thin_lto rest) [] (ending rest)
unfolding stripped
stripped_here rest = refl

pub stripped_at : (i : ℕ) (s rest : List ℕ) → ((j : ℕ) → j < i → (r : List ℕ) → drop j s ≡ ending r → ⊥) → drop i s ≡ ending rest → stripped s ≡ cond (list_all is_thin_lto rest) (take i s) s
stripped_at zero s rest h e = subst (λ t. stripped t ≡ cond (list_all is_thin_lto rest) [] t) (sym e) (stripped_here rest)
stripped_at (suc i) [] rest h e = cc
stripped_at (suc i) (c ∷ s) rest h e =
    stripped_later c s (h 0 (omega arith)) ∙ ap (λ t. c ∷ t) (stripped_at i s rest (λ j l. h (suc j) (omega arith)) e) ∙ both (list_all is_thin_lto rest) where
      both : (b : Bool) → c ∷ cond b (take i s) s ≡ cond b (c ∷ take i s) (c ∷ s)
      both true = refl
      both false = refl

-- the text after the first `.llvm.` is removed if it may be
pub stripped_split : (s a b : List ℕ) → SplitsAroundMatch (FindsText (codes ".llvm.")) s a b → stripped s ≡ cond (list_all is_thin_lto b) a s
stripped_split s a b h =
    let split : drop h.0 s ≡ ending (drop h.1 s) = h.2.1.split in
    stripped_at h.0 s (drop h.1 s) h.2.0 split
    ∙ ap (λ r. cond (list_all is_thin_lto r) (take h.0 s) s) (sym h.4)
    ∙ ap (λ x. cond (list_all is_thin_lto b) x s) (sym h.3)

-- an ASCII text stays ASCII without its suffix
pub IsAscii-stripped : (s : List ℕ) → IsAscii s → IsAscii (stripped s)
unfolding stripped
IsAscii-stripped [] h = h
IsAscii-stripped (c ∷ s) h = go (starts_with nat_eq (c ∷ s) (codes ".llvm.")) (list_all is_thin_lto (drop 5 s)) (IsAscii-stripped s (IsAscii-drop (c ∷ s) 1 h)) where
  go : (b d : Bool) → IsAscii (stripped s) → IsAscii (cond b (cond d [] (c ∷ s)) (c ∷ stripped s))
  go true true rest = IsAscii-nil
  go true false rest = h
  go false d rest = IsAscii-cons c (stripped s) (h 0) rest

-- a longer text starts with it too
begins-append : (t ys : List ℕ) → starts_with nat_eq t (codes ".llvm.") ≡ true → starts_with nat_eq (t ++ ys) (codes ".llvm.") ≡ true
begins-append t ys e = ap (λ z. starts_with nat_eq (z ++ ys) (codes ".llvm.")) (begins t e)

prefix_of : (c : ℕ) (s prefix : List ℕ) (b t : Bool) → (rest : List ℕ) × (s ≡ prefix ++ rest) → (rest : List ℕ) × (c ∷ s ≡ cond b (cond t [] (c ∷ s)) (c ∷ prefix) ++ rest)
prefix_of c s prefix true true below = (c ∷ s, refl)
prefix_of c s prefix true false below = ([], sym (append-nil (c ∷ s)))
prefix_of c s prefix false t below = (below.0, ap (λ z. c ∷ z) below.1)

-- the stripped text is a prefix
pub stripped_prefix : (s : List ℕ) → (rest : List ℕ) × (s ≡ stripped s ++ rest)
unfolding stripped
stripped_prefix [] = ([], refl)
stripped_prefix (c ∷ s) = prefix_of c s (stripped s) (starts_with nat_eq (c ∷ s) (codes ".llvm.")) (list_all is_thin_lto (drop 5 s)) (stripped_prefix s)

pub stripped-shorter : (s : List ℕ) → length (stripped s) ≤ length s
stripped-shorter s = let prefix = stripped_prefix s in omega (arith, ap length prefix.1, length-append (stripped s) prefix.0)

again : (c : ℕ) (s : List ℕ) (b : Bool) → starts_with nat_eq (c ∷ stripped s) (codes ".llvm.") ≡ b → starts_with nat_eq (c ∷ s) (codes ".llvm.") ≡ false → stripped (stripped s) ≡ stripped s
    → stripped (c ∷ stripped s) ≡ c ∷ stripped s
unfolding stripped
again c s true e h below =
    let prefix = stripped_prefix s in
    let longer : starts_with nat_eq ((c ∷ stripped s) ++ prefix.0) (codes ".llvm.") ≡ true = begins-append (c ∷ stripped s) prefix.0 e in
    let same : starts_with nat_eq (c ∷ s) (codes ".llvm.") ≡ true = ap (λ z. starts_with nat_eq (c ∷ z) (codes ".llvm.")) prefix.1 ∙ longer in
    absurd (true≢false (sym same ∙ h))
again c s false e h below =
    ap (λ b. cond b (cond (list_all is_thin_lto (drop 5 (stripped s))) [] (c ∷ stripped s)) (c ∷ stripped (stripped s))) e ∙ ap (λ z. c ∷ z) below

twice : (c : ℕ) (s : List ℕ) (b t : Bool) → starts_with nat_eq (c ∷ s) (codes ".llvm.") ≡ b → list_all is_thin_lto (drop 5 s) ≡ t → stripped (stripped s) ≡ stripped s
    → stripped (cond b (cond t [] (c ∷ s)) (c ∷ stripped s)) ≡ cond b (cond t [] (c ∷ s)) (c ∷ stripped s)
unfolding stripped
twice c s true true e h below = refl
twice c s true false e h below =
    ap (λ b. cond b (cond (list_all is_thin_lto (drop 5 s)) [] (c ∷ s)) (c ∷ stripped s)) e ∙ ap (λ t. cond t [] (c ∷ s)) h
twice c s false t e h below = again c s (starts_with nat_eq (c ∷ stripped s) (codes ".llvm.")) refl e below

-- stripping twice is stripping once
pub stripped-stripped : (s : List ℕ) → stripped (stripped s) ≡ stripped s
unfolding stripped
stripped-stripped [] = refl
stripped-stripped (c ∷ s) = twice c s (starts_with nat_eq (c ∷ s) (codes ".llvm.")) (list_all is_thin_lto (drop 5 s)) refl refl (stripped-stripped s)
