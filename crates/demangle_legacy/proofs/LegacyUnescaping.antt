-- An element prints exactly the pieces of its units and of its rest.
use Rattle.std.proofs.Common.{◌≡◌, ℕ, zero, suc, ◌+◌, ◌<◌, ◌≤◌, ◌≢◌, ◌⊎◌, inl, inr, Bool, true, false, List, [], ◌∷◌, ◌++◌, length, take, drop, Option, Some, None, refl, sym, ap, ◌∙◌, arith, subst, eqb, ltb, option_map, append_assoc}
use Rattle.std.specs.Prelude.{codes, position}
use Rattle.std.specs.List.{position_or_len}
use Rattle.std.proofs.lemmas.List.{length-append}
use Rattle.std.proofs.lemmas.Bool.{false≢true}
use Rattle.std.proofs.lemmas.Bool.Decides.{nat_tests}
use Rattle.std.proofs.Math.Seq.{drop-append_seam, take-append_seam}
use Rattle.demangle_legacy.specs.Unescaped.{is_dollar, is_special, escape_of, leading_unit, pieces_from, unescaped}
use Rattle.demangle_legacy.specs.UnescapedRelation.{is_dot, HasFirst, HasNo, IsDots, IsDot, IsEscape, IsPlain, IsUnit, NoUnitFirst, AreUnits, HasEscapedStart, IsUnescaped}
use Rattle.demangle_legacy.proofs.LegacyElements.{bool_cases}
use Rattle.demangle_legacy.proofs.LegacyUnits.{begins_mark, escape_unit, mark_short, mark_two, pieces_skip, unescaped_is, unit_of_dollar, unit_of_run, unmarked}
use Rattle.demangle_symbol.proofs.Options.{none_some, option_cases}

some_same : {A : Type 0} (x y : A) → ◌≡◌ {A = Option A} (Some x) (Some y) → x ≡ y
some_same x y e = cc

-- the first byte that passes the test

record Found (p : ℕ → Bool) (s : List ℕ) (n : ℕ) : Type 0 where
  prefix : List ℕ
  byte : ℕ
  following : List ℕ
  is : s ≡ prefix ++ byte ∷ following
  at : length prefix ≡ n
  none : HasNo p prefix
  here : p byte ≡ true

first_found : (p : ℕ → Bool) (s : List ℕ) → position_or_len p s < length s → Found p s (position_or_len p s)
first_found p [] h = absurd (omega arith)
first_found p (c ∷ s) h = elim (bool_cases (p c)) [
  | inl e ↦ record { prefix = []; byte = c; following = s; is = refl; at = rw e refl; none = tt; here = e }
  | inr e ↦
      let more : position_or_len p (c ∷ s) ≡ 1 + position_or_len p s = rw e refl in
      let rest = first_found p s (omega (arith, more)) in
      record {
        prefix = c ∷ rest.prefix;
        byte = rest.byte;
        following = rest.following;
        is = ap (λ t. c ∷ t) rest.is;
        at = let n = rest.at in omega (arith, n, more);
        none = (e, rest.none);
        here = rest.here;
      }
]

found : (p : ℕ → Bool) (s : List ℕ) (n : ℕ) → position p s ≡ Some n → Found p s n
found p s n e = elim (bool_cases (ltb (position_or_len p s) (length s))) [
  | inl lt ↦
      let here : ◌≡◌ {A = Option ℕ} (Some (position_or_len p s)) (Some n) = sym (rw lt refl) ∙ e in
      let less : position_or_len p s < length s = grind (arith, nat_tests) in
      subst (Found p s) (some_same (position_or_len p s) n here) (first_found p s less)
  | inr ge ↦ absurd (none_some n (sym (rw ge refl) ∙ e))
]

no_before : (p : ℕ → Bool) (prefix : List ℕ) (s : List ℕ) → HasNo p prefix → HasFirst p s → position_or_len p (prefix ++ s) ≡ length prefix
no_before p [] [] none k = absurd k
no_before p [] (c ∷ s) none k = rw k refl
no_before p (c ∷ prefix) s none k = let n = no_before p prefix s none.1 k in rw none.0 (omega (arith, n))

some_first : (p : ℕ → Bool) (s : List ℕ) → HasFirst p s → 0 < length s
some_first p [] k = absurd k
some_first p (c ∷ s) k = omega arith

at_first : (p : ℕ → Bool) (prefix s : List ℕ) → HasNo p prefix → HasFirst p s → position p (prefix ++ s) ≡ Some (length prefix)
at_first p prefix s none k =
    let n = no_before p prefix s none k in
    let within : position_or_len p (prefix ++ s) < length (prefix ++ s) = omega (arith, n, length-append prefix s, some_first p s k) in
    let lt : ltb (position_or_len p (prefix ++ s)) (length (prefix ++ s)) ≡ true = grind (arith, nat_tests) in
    rw lt (ap (λ i. Some i) n)

-- a unit of the relation is read by the function

abbrev Reads : List ℕ → List ℕ × ℕ → Type 0
Reads text u = (unit : List ℕ) × (following : List ℕ) × (text ≡ unit ++ following) × (suc u.1 ≡ length unit) × IsUnit unit u.0 following

dots_read : (s : List ℕ) → leading_unit 46 (46 ∷ s) ≡ Some (codes "::", 1)
unfolding leading_unit
dots_read s = refl

dot_read : (s : List ℕ) → (HasFirst is_dot s → ⊥) → leading_unit 46 s ≡ Some (codes ".", 0)
unfolding leading_unit
dot_read [] h = refl
dot_read (c ∷ s) h = elim (bool_cases (eqb c 46)) [ inl e ↦ absurd (h e) | inr e ↦ grind (arith, nat_tests) ]

dots_are : (s : List ℕ) (u : List ℕ × ℕ) → leading_unit 46 s ≡ Some u → Reads (46 ∷ s) u
dots_are [] u e =
    let no : HasFirst is_dot [] → ⊥ = λ k. k in
    subst (Reads (46 ∷ [])) (some_same (codes ".", 0) u (sym (dot_read [] no) ∙ e)) (codes ".", [], refl, refl, inr (inl (refl, refl, no)))
dots_are (c ∷ s) u e = elim (bool_cases (eqb c 46)) [
  | inl h ↦
      let is : c ≡ 46 = grind (arith, nat_tests) in
      let same = some_same (codes "::", 1) u (sym (ap (λ d. leading_unit 46 (d ∷ s)) is ∙ dots_read s) ∙ e) in
      subst (Reads (46 ∷ c ∷ s)) same (codes "..", s, ap (λ d. 46 ∷ d ∷ s) is, refl, inl (refl, refl))
  | inr h ↦
      let no : HasFirst is_dot (c ∷ s) → ⊥ = λ k. grind (arith, nat_tests) in
      subst (Reads (46 ∷ c ∷ s)) (some_same (codes ".", 0) u (sym (dot_read (c ∷ s) no) ∙ e)) (codes ".", c ∷ s, refl, refl, inr (inl (refl, refl, no)))
]

take_found : (prefix : List ℕ) (c : ℕ) (s : List ℕ) → take (length prefix) (prefix ++ c ∷ s) ≡ prefix
take_found prefix c s = take-append_seam prefix (c ∷ s)

escape_is : (s : List ℕ) (u : List ℕ × ℕ) (n : ℕ) (o : Option (List ℕ)) → Found is_dollar s n → escape_of (take n s) ≡ o → option_map (λ text. (text, n + 1)) o ≡ Some u → Reads (36 ∷ s) u
escape_is s u n None f k e = cc
escape_is s u n (Some text) f k e =
    let byte : f.byte ≡ 36 = let here = f.here in grind (arith, nat_tests) in
    let is : s ≡ f.prefix ++ 36 ∷ f.following = f.is ∙ ap (λ c. f.prefix ++ c ∷ f.following) byte in
    let name : take n s ≡ f.prefix = ap (λ m. take m s) (sym f.at) ∙ ap (take (length f.prefix)) is ∙ take_found f.prefix 36 f.following in
    let whole : 36 ∷ s ≡ (36 ∷ (f.prefix ++ 36 ∷ [])) ++ f.following = ap (λ t. 36 ∷ t) (is ∙ sym (append_assoc f.prefix (36 ∷ []) f.following)) in
    let long = length-append f.prefix (36 ∷ []) in
    let at = f.at in
    let size : suc (n + 1) ≡ length (36 ∷ (f.prefix ++ 36 ∷ [])) = omega (arith, long, at) in
    subst (Reads (36 ∷ s)) (some_same (text, n + 1) u e) (36 ∷ (f.prefix ++ 36 ∷ []), f.following, whole, size, inr (inr (inl (f.prefix, refl, f.none, ap escape_of (sym name) ∙ k))))

escapes_are : (s : List ℕ) (u : List ℕ × ℕ) → leading_unit 36 s ≡ Some u → Reads (36 ∷ s) u
unfolding escape_unit
escapes_are s u e = elim (option_cases (position is_dollar s)) [
  | inl h ↦ absurd (none_some u (sym (unit_of_dollar s ∙ ap (escape_unit s) h) ∙ e))
  | inr h ↦ escape_is s u h.0 (escape_of (take h.0 s)) (found is_dollar s h.0 h.1) refl (sym (unit_of_dollar s ∙ ap (escape_unit s) h.1) ∙ e)
]

plain_are : (c : ℕ) (s : List ℕ) (u : List ℕ × ℕ) → is_special c ≡ false → leading_unit c s ≡ Some u → Reads (c ∷ s) u
plain_are c s u other e =
    let no_dot : c ≢ 46 = λ k. grind (arith, nat_tests) in
    let no_dollar : c ≢ 36 = λ k. grind (arith, nat_tests) in
    elim (option_cases (position is_special s)) [
      | inl h ↦ absurd (none_some u (sym (unit_of_run c s no_dot no_dollar ∙ ap (option_map (λ n. (c ∷ take n s, n))) h) ∙ e))
      | inr h ↦
          let n = h.0 in
          let f = found is_special s n h.1 in
          let run : take n s ≡ f.prefix = ap (λ m. take m s) (sym f.at) ∙ ap (take (length f.prefix)) f.is ∙ take_found f.prefix f.byte f.following in
          let same = some_same (c ∷ take n s, n) u (sym (unit_of_run c s no_dot no_dollar ∙ ap (option_map (λ n. (c ∷ take n s, n))) h.1) ∙ e) in
          let at = f.at in
          subst (Reads (c ∷ s)) same (c ∷ f.prefix, f.byte ∷ f.following, ap (λ t. c ∷ t) f.is, omega (arith, at), inr (inr (inr (ap (λ t. c ∷ t) (sym run), (λ k. cc), (other, f.none), f.here))))
    ]

-- the unit that the function reads is one of the relation
unit_is : (c : ℕ) (s : List ℕ) (u : List ℕ × ℕ) → leading_unit c s ≡ Some u → Reads (c ∷ s) u
unit_is c s u e = elim (bool_cases (eqb c 46)) [
  | inl h ↦
      let is : 46 ≡ c = grind (arith, nat_tests) in
      subst (λ d. leading_unit d s ≡ Some u → Reads (d ∷ s) u) is (dots_are s u) e
  | inr h ↦ elim (bool_cases (eqb c 36)) [
    | inl k ↦
        let is : 36 ≡ c = grind (arith, nat_tests) in
        subst (λ d. leading_unit d s ≡ Some u → Reads (d ∷ s) u) is (escapes_are s u) e
    | inr k ↦ let other : is_special c ≡ false = grind (arith, nat_tests) in plain_are c s u other e
  ]
]

-- the function reads the first unit of the relation

abbrev ReadAs : List ℕ → List ℕ → List ℕ → Type 0
ReadAs unit piece following = (c : ℕ) × (s : List ℕ) × (unit ≡ c ∷ s) × (leading_unit c (s ++ following) ≡ Some (piece, length s))

dots_as : (unit piece following : List ℕ) → IsDots unit piece → ReadAs unit piece following
dots_as unit piece following h = (46, codes ".", h.0, dots_read following ∙ ap (λ p. Some (p, 1)) (sym h.1))

dot_as : (unit piece following : List ℕ) → IsDot unit piece following → ReadAs unit piece following
dot_as unit piece following h = (46, [], h.0, dot_read following h.2 ∙ ap (λ p. Some (p, 0)) (sym h.1))

escape_as : (unit piece following : List ℕ) → IsEscape unit piece → ReadAs unit piece following
unfolding escape_unit
escape_as unit piece following h =
    let name = h.0 in
    let rest = name ++ codes "$" in
    let is : rest ++ following ≡ name ++ 36 ∷ following = append_assoc name (codes "$") following in
    let first : position is_dollar (rest ++ following) ≡ Some (length name) = ap (position is_dollar) is ∙ at_first is_dollar name (36 ∷ following) h.2 refl in
    let read : escape_of (take (length name) (rest ++ following)) ≡ Some piece = ap (λ t. escape_of (take (length name) t)) is ∙ ap escape_of (take_found name 36 following) ∙ h.3 in
    let long : length name + 1 ≡ length rest = let l = length-append name (codes "$") in omega (arith, l) in
    (36, rest, h.1, unit_of_dollar (rest ++ following) ∙ ap (escape_unit (rest ++ following)) first ∙ ap (option_map (λ (t : List ℕ). (t, length name + 1))) read ∙ ap (λ n. Some (piece, n)) long)

plain_as : (unit piece following : List ℕ) → IsPlain unit piece following → ReadAs unit piece following
plain_as [] piece following h = absurd (h.1 refl)
plain_as (c ∷ s) piece following h =
    let other = h.2.0 in
    let no_dot : c ≢ 46 = λ k. grind (arith, nat_tests) in
    let no_dollar : c ≢ 36 = λ k. grind (arith, nat_tests) in
    let first : position is_special (s ++ following) ≡ Some (length s) = at_first is_special s following h.2.1 h.3 in (
      c,
      s,
      refl,
      unit_of_run c (s ++ following) no_dot no_dollar ∙ ap (option_map (λ n. (c ∷ take n (s ++ following), n))) first
          ∙ ap (λ t. Some (c ∷ t, length s)) (take-append_seam s following) ∙ ap (λ t. Some (t, length s)) h.0,
    )

unit_as : (unit piece following : List ℕ) → IsUnit unit piece following → ReadAs unit piece following
unit_as unit piece following (inl h) = dots_as unit piece following h
unit_as unit piece following (inr (inl h)) = dot_as unit piece following h
unit_as unit piece following (inr (inr (inl h))) = escape_as unit piece following h
unit_as unit piece following (inr (inr (inr h))) = plain_as unit piece following h

-- the whole text

abbrev pieces_by : ℕ → List ℕ → Option (List ℕ × ℕ) → List (List ℕ)
pieces_by c s o = elim o [ None ↦ (c ∷ s) ∷ [] | Some u ↦ u.0 ∷ pieces_from (u.1) s ]

pieces_are : (c : ℕ) (s : List ℕ) → pieces_from 0 (c ∷ s) ≡ pieces_by c s (leading_unit c s)
unfolding pieces_from
pieces_are c s = refl

pieces_unit : (c : ℕ) (s : List ℕ) (u : List ℕ × ℕ) → leading_unit c s ≡ Some u → pieces_from 0 (c ∷ s) ≡ u.0 ∷ pieces_from 0 (drop u.1 s)
pieces_unit c s u e = pieces_are c s ∙ ap (pieces_by c s) e ∙ ap (λ ps. u.0 ∷ ps) (pieces_skip u.1 s)

pieces_rest : (c : ℕ) (s : List ℕ) → leading_unit c s ≡ None → pieces_from 0 (c ∷ s) ≡ (c ∷ s) ∷ []
pieces_rest c s e = pieces_are c s ∙ ap (pieces_by c s) e

pieces_end : pieces_from 0 [] ≡ [] ∷ []
unfolding pieces_from
pieces_end = refl

none_in_nothing : NoUnitFirst []
none_in_nothing unit piece following e h = let r = unit_as unit piece following h in let k : ◌≡◌ {A = List ℕ} [] (r.0 ∷ (r.1 ++ following)) = e ∙ ap (λ t. t ++ following) r.2 in cc

none_where_none : (c : ℕ) (s : List ℕ) → leading_unit c s ≡ None → NoUnitFirst (c ∷ s)
none_where_none c s none unit piece following e h =
    let r = unit_as unit piece following h in
    let k : c ∷ s ≡ r.0 ∷ (r.1 ++ following) = e ∙ ap (λ t. t ++ following) r.2 in
    let here : c ≡ r.0 = cc in
    let after : s ≡ r.1 ++ following = cc in
    none_some (piece, length r.1) (sym none ∙ ap (λ d. leading_unit d s) here ∙ ap (leading_unit r.0) after ∙ r.3)

units_read : (most : ℕ) (text : List ℕ) → length text ≤ most → AreUnits (pieces_from 0 text) text
units_read most [] h = subst (λ ps. AreUnits ps []) (sym pieces_end) (inl (refl, refl, none_in_nothing))
units_read zero (c ∷ s) h = absurd (omega (arith, h))
units_read (suc most) (c ∷ s) h = elim (option_cases (leading_unit c s)) [
  | inl e ↦ subst (λ ps. AreUnits ps (c ∷ s)) (sym (pieces_rest c s e)) (inl (refl, refl, none_where_none c s e))
  | inr e ↦
      let u = e.0 in
      let r = unit_is c s u e.1 in
      let unit = r.0 in
      let following = r.1 in
      let left : drop u.1 s ≡ following = ap (λ n. drop n (c ∷ s)) r.3 ∙ ap (drop (length unit)) r.2 ∙ drop-append_seam unit following in
      let size = r.3 in
      let long = ap length r.2 in
      let both = length-append unit following in
      let rest : AreUnits (pieces_from 0 following) following = units_read most following (omega (arith, h, size, long, both)) in
      subst (λ ps. AreUnits ps (c ∷ s)) (sym (pieces_unit c s u e.1 ∙ ap (λ t. u.0 ∷ pieces_from 0 t) left)) (inr (unit, following, r.2, r.4, rest))
]

rest_once : (text : List ℕ) → NoUnitFirst text → text ∷ [] ≡ pieces_from 0 text
rest_once [] h = sym pieces_end
rest_once (c ∷ s) h = elim (option_cases (leading_unit c s)) [
  | inl e ↦ sym (pieces_rest c s e)
  | inr e ↦ let r = unit_is c s e.0 e.1 in absurd (h r.0 e.0.0 r.1 r.2 r.4)
]

units_once : (pieces : List (List ℕ)) (text : List ℕ) → AreUnits pieces text → pieces ≡ pieces_from 0 text
units_once [] text h = absurd h
units_once (piece ∷ pieces) text (inl h) = ap (λ ps. piece ∷ ps) h.0 ∙ ap (λ t. t ∷ []) (sym h.1) ∙ rest_once text h.2
units_once (piece ∷ pieces) text (inr h) =
    let unit = h.0 in
    let following = h.1 in
    let r = unit_as unit piece following h.3 in
    let is : text ≡ r.0 ∷ (r.1 ++ following) = h.2 ∙ ap (λ t. t ++ following) r.2 in
    ap (λ ps. piece ∷ ps) (units_once pieces following h.4)
    ∙ ap (λ t. piece ∷ pieces_from 0 t) (sym (drop-append_seam r.1 following))
    ∙ sym (ap (pieces_from 0) is ∙ pieces_unit r.0 (r.1 ++ following) (piece, length r.1) r.3)

-- an element, with an omitted `_` or without one

marked_is : (text : List ℕ) → HasFirst is_dollar text → unescaped (95 ∷ text) ≡ pieces_from 0 text
unfolding begins_mark
marked_is [] h = absurd h
marked_is (c ∷ s) h =
    let is : c ≡ 36 = grind (arith, nat_tests) in
    ap (λ d. unescaped (95 ∷ d ∷ s)) is ∙ unescaped_is (95 ∷ 36 ∷ s) ∙ pieces_skip 1 (95 ∷ 36 ∷ s) ∙ ap (λ d. pieces_from 0 (d ∷ s)) (sym is)

abbrev Mark : List ℕ → Type 0
Mark element = (text : List ℕ) × HasEscapedStart element text

mark_of : (element : List ℕ) → Mark element ⊎ ((begins_mark element ≡ false) × ((text : List ℕ) → HasEscapedStart element text → ⊥))
mark_of [] = inr (mark_short [] (omega arith), λ text h. let e = ap length h.0 in omega (arith, e))
mark_of (c ∷ []) = inr (mark_short (c ∷ []) (omega arith), λ text h. short text h.0 h.1) where
  short : (text : List ℕ) → c ∷ [] ≡ codes "_" ++ text → HasFirst is_dollar text → ⊥
  short [] e k = k
  short (d ∷ s) e k = let l = ap length e in omega (arith, l)
mark_of (c ∷ d ∷ s) = elim (bool_cases (eqb c 95)) [
  | inl h ↦ elim (bool_cases (eqb d 36)) [
    | inl k ↦ let is : c ≡ 95 = grind (arith, nat_tests) in inl (d ∷ s, (ap (λ x. x ∷ d ∷ s) is, k))
    | inr k ↦ inr (mark_two c d s (inr k), λ text m. second text m.0 m.1 k)
  ]
  | inr h ↦ inr (mark_two c d s (inl h), λ text m. let e = m.0 in let is : c ≡ 95 = cc in grind (arith, nat_tests))
] where
  second : (text : List ℕ) → c ∷ d ∷ s ≡ codes "_" ++ text → HasFirst is_dollar text → eqb d 36 ≡ false → ⊥
  second [] e b k = b
  second (x ∷ t) e b k = let is : d ≡ x = cc in false≢true (sym k ∙ ap (λ y. eqb y 36) is ∙ b)

-- the laws

-- The pieces of an element are those of its units and its rest.
pub unescaped_read : (element : List ℕ) → IsUnescaped element (unescaped element)
unescaped_read element = elim (mark_of element) [
  | inl m ↦
      let text = m.0 in
      let is : unescaped element ≡ pieces_from 0 text = ap unescaped m.1.0 ∙ marked_is text m.1.1 in
      inl (text, m.1, subst (λ ps. AreUnits ps text) (sym is) (units_read (length text) text (omega arith)))
  | inr m ↦ inr (m.1, subst (λ ps. AreUnits ps element) (sym (unmarked element m.0)) (units_read (length element) element (omega arith)))
]

-- It has no other pieces.
pub unescaped_once : (element : List ℕ) (pieces : List (List ℕ)) → IsUnescaped element pieces → pieces ≡ unescaped element
unescaped_once element pieces (inl h) = units_once pieces h.0 h.2 ∙ sym (ap unescaped h.1.0 ∙ marked_is h.0 h.1.1)
unescaped_once element pieces (inr h) = elim (mark_of element) [
  | inl m ↦ absurd (h.0 m.0 m.1)
  | inr m ↦ units_once pieces element h.1 ∙ sym (unmarked element m.0)
]
