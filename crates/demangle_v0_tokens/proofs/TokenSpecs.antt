-- Each token spec reads what its items read.
use Rattle.std.specs.Prelude.{ℕ, if◌then◌else◌, ◌==◌, nat_le, codes, decimal, option_map, slice_range}
use Rattle.std.specs.Fmt.{digits}
use Rattle.std.proofs.Common.{◌≡◌, Bool, true, false, cond, List, [], ◌∷◌, ◌++◌, length, Option, Some, None, refl, sym, ◌∙◌, ap, ◌+◌, ◌-◌, ◌*◌, subst, arith}
use Prim.Native.Char.{code}
use lib.Utf8.{scalar}
use Rattle.demangle_symbol.specs.Digits.{is_byte, run_end}
use Rattle.demangle_symbol.specs.Primitives.{Read, Name, only_if, some_or, name_of, name_from, name_len, is_upper, is_nibble, integer_at, optional_at, identifier_at, nibbles_at, number_of}
use Rattle.demangle_symbol.specs.Names.{name_pieces, is_empty_name, is_empty}
use Rattle.demangle_symbol.specs.Literals.{literal, string_of}
use Rattle.demangle_v0_grammar.specs.Items.{Text, Items, done, invalid, print, print_plain, integer, optional, identifier, lifetime}
use Rattle.demangle_v0_grammar.specs.Table.{print_str, print_all, print_name, print_bool, print_char, print_qualifiers, function_qualifiers, in_special, in_namespace, path, extern, row_text, basic_types, number_pieces}
use Rattle.demangle_v0_grammar.specs.Reading.{Form, Tree, nothing, piece, looked, invalid_syntax, Place, Outcome, Context, failed_with, with_tree, at_place, followed_by, parse, primitive_outcome, byte_choice, letter_of, all_pieces, lifetime_at}
use Rattle.demangle_v0_tokens.specs.Texts.{text, token_items}
use Rattle.demangle_v0_grammar.specs.Traces.{Trace, of, events, empty_trace, with_looks, with_texts, context_at}
use Rattle.demangle_symbol.specs.Idents.{ident_parts, ident_at}
use Rattle.demangle_symbol.specs.Nibbles.{hex_at}
use Rattle.demangle_v0_tokens.specs.Tokens.{bytes_in, nested_texts, number_texts, if_plain, texts_of, TokenSpec, token_read, invalid_token, after_primitive, byte_group, checked_lifetime, abi_named, abi_group, bool_token, character_token, literal_token, named_group, crate_group, nested_group, token_spec}
use Rattle.demangle_symbol.specs.declared.cursor.Part.{Part}
use Rattle.demangle_symbol.specs.declared.cursor.ident.Ident.{Ident}
use Rattle.demangle_v0_tokens.specs.declared.token.TokenKind.{TokenKind}
use Rattle.demangle_v0_tokens.specs.declared.token.TokenKind.TheVariants as token_kind
use Rattle.demangle_v0_tokens.specs.declared.fixed_texts.FixedText.TheVariants as fixed
use Rattle.demangle_v0_tokens.specs.declared.token.Abi.TheVariants as abi
use Rattle.demangle_v0_tokens.specs.declared.token.Token.{Token}
use Rattle.demangle_v0_tokens.specs.declared.token.Token.TheVariants.{Nothing, Fixed, CrateName, FieldName, NestedName, Lifetime, LifetimeError, DynLifetime, DynLifetimeError, FunctionQualifiers, Number, Character, BindingName}
use Rattle.demangle_v0_tokens.specs.declared.read.TokenOutcome.{TokenOutcome}
use Rattle.demangle_v0_tokens.specs.declared.read.TokenOutcome.TheVariants.{Parsed, NotParsed}
use Rattle.demangle_v0_grammar.proofs.TypeTraces.{says_all, lifetime_named, lifetime_wrong}
use Rattle.demangle_v0_grammar.proofs.TraceLemmas.{handing_both}

-- the trace of a parse in the plain form or in the other
abbrev in_plain : Bool → Bool → Outcome → Trace
in_plain plain out o = record { events = events plain out o.tree; place = o.place; is_bracket_open = o.is_bracket_open }

-- a token, and the items after it unless it ends the production
abbrev pub token_then : List ℕ → Form → Bool → TokenOutcome → (Place → Trace) → Trace
token_then b form out (Parsed x j) k = with_texts out (texts_of b form x) (k j)
token_then b form out (NotParsed m) k = with_texts out (text m ∷ []) (empty_trace None false)

abbrev pub grouped : List ℕ → Form → Bool → TokenSpec → (Place → Trace) → Trace
grouped b form out g k = with_looks g.costs (token_then b form out g.reads k)

-- Primitives.

primitive_reads : {A : Type 0} (b : List ℕ) (form : Form) (out : Bool) (n i : ℕ) (rest : A → Place → Outcome) (f : A → ℕ → TokenSpec) (k : Place → Trace) → ((a : A) (j : ℕ) → of form out (rest a (Some j)) ≡ grouped b form out (f a j) k) → (r : Read A)
    → of form out (primitive_outcome n i rest r) ≡ grouped b form out (after_primitive n i r f) k
primitive_reads b form out n i rest f k h None = refl
primitive_reads b form out n i rest f k h (Some r) = ap (with_looks (4 * (r.1 - i + 1) ∷ [])) (h r.0 r.1)

pub name_reads : (b : List ℕ) (form : Form) (out : Bool) (n i : ℕ) (rest : Name → Place → Outcome) (f : Ident → ℕ → TokenSpec) (k : Place → Trace) → ((j : ℕ) → of form out (rest (name_of b i j) (Some j)) ≡ grouped b form out (f (ident_parts b i j) j) k)
    → of form out (primitive_outcome n i rest (identifier_at b i)) ≡ grouped b form out (after_primitive n i (ident_at b i) f) k
unfolding identifier_at
name_reads b form out n i rest f k h = go _ (name_from b i + name_len b i)
  where
    go : (c : Bool) (j : ℕ) → of form out (primitive_outcome n i rest (only_if c (name_of b i j, j))) ≡ grouped b form out (after_primitive n i (option_map (λ (r : Name × ℕ). (ident_parts b i r.1, r.1)) (only_if c (name_of b i j, j))) f) k
    go true j = ap (with_looks (4 * (j - i + 1) ∷ [])) (h j)
    go false j = refl

hex_reads : (b : List ℕ) (form : Form) (out : Bool) (n i : ℕ) (rest : List ℕ → Place → Outcome) (f : Part → ℕ → TokenSpec) (k : Place → Trace) → ((end j : ℕ) → of form out (rest (slice_range b i end) (Some j)) ≡ grouped b form out (f (record { from = i; to = end }) j) k)
    → of form out (primitive_outcome n i rest (nibbles_at b i)) ≡ grouped b form out (after_primitive n i (hex_at b i) f) k
unfolding nibbles_at
hex_reads b form out n i rest f k h = go _ (run_end is_nibble b i)
  where
    go : (c : Bool) (end : ℕ) → of form out (primitive_outcome n i rest (only_if c (slice_range b i end, end + 1))) ≡ grouped b form out (after_primitive n i (option_map (λ (r : List ℕ × ℕ). (record { from = i; to = r.1 - 1 }, r.1)) (only_if c (slice_range b i end, end + 1))) f) k
    go true end =
        let e : end ≡ end + 1 - 1 = omega arith in
        ap (with_looks (4 * (end + 1 - i + 1) ∷ [])) (subst (λ z. of form out (rest (slice_range b i end) (Some (end + 1))) ≡ grouped b form out (f (record { from = i; to = z }) (end + 1)) k) e (h end (end + 1)))
    go false end = refl

ask_reads : (b : List ℕ) (form : Form) (out c : Bool) (f g : Place → Outcome) (x y : TokenSpec) (k : Place → Trace) (i : ℕ) → of form out (f (Some (i + 1))) ≡ grouped b form out x k → of form out (g (Some i)) ≡ grouped b form out y k
    → of form out (byte_choice c f g (Some i)) ≡ grouped b form out (byte_group c x y) k
ask_reads b form out true f g x y k i p q = ap (with_looks (1 ∷ [])) p
ask_reads b form out false f g x y k i p q = ap (with_looks (1 ∷ [])) q

-- Names.

crate_read : (b : List ℕ) (form : Form) (out : Bool) (s : Context) (a : Ident) (name : Name) (d : ℕ) (j : Place) → name ≡ Rattle.demangle_symbol.specs.Idents.name_in b a
    → of form out (parse (print_name name (if d == 0 then done else print_plain (codes "[") (print_plain (digits 16 false d) (print_plain (codes "]") done)))) s j) ≡ with_texts out (texts_of b form (CrateName a d)) (of form out (parse done s j))
unfolding parse
crate_read b form out s a name d j e =
    rw e (says_all form out (name_pieces (Rattle.demangle_symbol.specs.Idents.name_in b a)) (cond (d == 0) done more) s j
    ∙ (ap (with_texts out (name_pieces (Rattle.demangle_symbol.specs.Idents.name_in b a))) (go form.include_hash (d == 0))
    ∙ sym (handing_both out (name_pieces (Rattle.demangle_symbol.specs.Idents.name_in b a)) (cond (d == 0) [] (if_plain form.include_hash ts)) (of form out (parse done s j)))))
  where
    more : Items
    more = print_plain (codes "[") (print_plain (digits 16 false d) (print_plain (codes "]") done))

    ts : List Text
    ts = codes "[" ∷ digits 16 false d ∷ codes "]" ∷ []

    go : (plain c : Bool) → in_plain plain out (parse (cond c done more) s j) ≡ with_texts out (cond c [] (if_plain plain ts)) (in_plain plain out (parse done s j))
    go plain true = refl
    go true false = refl
    go false false = refl

nested_read : (b : List ℕ) (form : Form) (out : Bool) (s : Context) (a : Name) (n d : ℕ) (j : Place)
    → of form out (parse (if is_upper n then in_special n d a else if is_empty_name a then done else print_str "::" (print_name a done)) s j) ≡ with_texts out (nested_texts n d a) (of form out (parse done s j))
unfolding parse
nested_read b form out s a n d j = go (is_upper n) (is_empty_name a)
  where
    ending : Items
    ending = print_str "#" (print (decimal d) (print_str "}" done))

    ends : List Text
    ends = codes "#" ∷ decimal d ∷ codes "}" ∷ []

    which : Text
    which = if n == code "C" then codes "closure" else if n == code "S" then codes "shim" else n ∷ []

    go : (u e : Bool) → of form out (parse (cond u (print_str "::{" (print which (cond e ending (print_str ":" (print_name a ending))))) (cond e done (print_str "::" (print_name a done)))) s j)
        ≡ with_texts out (cond u (codes "::{" ∷ which ∷ (cond e [] (codes ":" ∷ name_pieces a) ++ ends)) (cond e [] (codes "::" ∷ name_pieces a))) (of form out (parse done s j))
    go true false =
        ap (λ (h : Trace). with_texts out (codes "::{" ∷ []) (with_texts out (which ∷ []) (with_texts out (codes ":" ∷ []) h)))
        (says_all form out (name_pieces a) ending s j ∙ sym (handing_both out (name_pieces a) ends (of form out (parse done s j))))
    go false false = ap (with_texts out (codes "::" ∷ [])) (says_all form out (name_pieces a) done s j)
    go _ _ = refl

-- Lifetimes.

-- a lifetime that is not `'_`, with ` + ` before it or not
lifetime_checked : (b : List ℕ) (form : Form) (plus : Bool) (left : ℕ) (out : Bool) (n k j : ℕ) (p : Items) → (k == 0) ≡ false
    → with_texts out (if plus then codes " + " ∷ [] else []) (of form out (parse (lifetime k p) (context_at b form out left n) (Some j)))
    ≡ grouped b form out (checked_lifetime out n k j (if plus then DynLifetime (n - k) else Lifetime (Some (n - k))) (if plus then DynLifetimeError else LifetimeError)) (λ i. of form out (parse p (context_at b form out left n) i))
unfolding parse
lifetime_checked b form true left false n k j p e = refl
lifetime_checked b form false left false n k j p e = refl
lifetime_checked b form plus left true n k j p e = go plus (nat_le k n) refl
  where
    go : (plus c : Bool) → nat_le k n ≡ c → with_texts true (cond plus (codes " + " ∷ []) []) (of form true (parse (lifetime k p) (context_at b form true left n) (Some j)))
        ≡ grouped b form true (cond c (token_read (cond plus (DynLifetime (n - k)) (Lifetime (Some (n - k)))) (Some j)) (token_read (cond plus DynLifetimeError LifetimeError) None)) (λ i. of form true (parse p (context_at b form true left n) i))
    go true true f = ap (with_texts true (codes " + " ∷ [])) (lifetime_named form b left n p k j e f)
    go false true f = lifetime_named form b left n p k j e f
    go true false f = ap (with_texts true (codes " + " ∷ [])) (lifetime_wrong form b left n p k j e f)
    go false false f = lifetime_wrong form b left n p k j e f

lifetime_read : (b : List ℕ) (form : Form) (left : ℕ) (out : Bool) (n : ℕ) (p : Items) (k j : ℕ) (c : Bool) → (k == 0) ≡ c
    → of form out (parse (lifetime k p) (context_at b form out left n) (Some j)) ≡ grouped b form out (if c then token_read (Lifetime None) (Some j) else checked_lifetime out n k j (Lifetime (Some (n - k))) LifetimeError) (λ i. of form out (parse p (context_at b form out left n) i))
unfolding parse
lifetime_read b form left true n p k j true e = rw e refl
lifetime_read b form left false n p k j true e = refl
lifetime_read b form left out n p k j false e = lifetime_checked b form false left out n k j p e

plus_or : (b : List ℕ) (form : Form) (left : ℕ) (out : Bool) (n : ℕ) (p : Items) (k j : ℕ) (c : Bool) → (k == 0) ≡ c
    → of form out (parse (if c then p else print_str " + " (lifetime k p)) (context_at b form out left n) (Some j)) ≡ grouped b form out (if c then token_read Nothing (Some j) else checked_lifetime out n k j (DynLifetime (n - k)) DynLifetimeError) (λ i. of form out (parse p (context_at b form out left n) i))
unfolding parse
plus_or b form left out n p k j true e = refl
plus_or b form left out n p k j false e = lifetime_checked b form true left out n k j p e

-- Functions.

head_read : (b : List ℕ) (form : Form) (out unsafe : Bool) (ts : List Text) (p : Items) (s : Context) (j : Place) → of form out (parse (print_qualifiers unsafe ts p) s j) ≡ with_texts out (if unsafe then codes "unsafe " ∷ ts else ts) (of form out (parse p s j))
unfolding parse
head_read b form out true ts p s j = ap (with_texts out (codes "unsafe " ∷ [])) (says_all form out ts p s j)
head_read b form out false ts p s j = says_all form out ts p s j

named_read : (b : List ℕ) (form : Form) (out unsafe : Bool) (a : Ident) (p : Items) (s : Context) (j : ℕ)
    → of form out (parse (if is_empty (bytes_in b a.ascii) then invalid else if is_empty (bytes_in b a.punycode) then print_qualifiers unsafe (extern (bytes_in b a.ascii)) p else invalid) s (Some j))
    ≡ grouped b form out (abi_named unsafe a b j) (λ i. of form out (parse p s i))
unfolding parse
named_read b form out unsafe a p s j = go (is_empty (bytes_in b a.ascii)) (is_empty (bytes_in b a.punycode))
  where
    go : (x y : Bool) → of form out (parse (cond x invalid (cond y (print_qualifiers unsafe (extern (bytes_in b a.ascii)) p) invalid)) s (Some j))
        ≡ grouped b form out (cond x invalid_token (cond y (token_read (FunctionQualifiers unsafe (abi.Named a.ascii)) (Some j)) invalid_token)) (λ i. of form out (parse p s i))
    go false true = head_read b form out unsafe (extern (bytes_in b a.ascii)) p s (Some j)
    go _ _ = refl

abi_read : (form : Form) (out unsafe : Bool) (p : Items) (s : Context) (i : ℕ) → of form out (parse (function_qualifiers unsafe p) s (Some i)) ≡ grouped s.symbol form out (abi_group s.symbol unsafe i) (λ i. of form out (parse p s i))
unfolding parse
abi_read form out unsafe p s i =
    let c = s.symbol in
    let k : Place → Trace = λ j. of form out (parse p s j) in
    let rest : Name → Items = λ a. if is_empty a.ascii then invalid else if is_empty a.punycode then print_qualifiers unsafe (extern a.ascii) p else invalid in
    ask_reads c form out (is_byte c i (code "K")) (λ j. byte_choice (Rattle.demangle_v0_grammar.specs.Reading.is_next_byte s (code "C") j) (parse (print_qualifiers unsafe (extern (codes "C")) p) s) (parse (identifier rest) s) j) (parse (print_qualifiers unsafe [] p) s) _ _ k i
    (ask_reads c form out (is_byte c (i + 1) (code "C")) (parse (print_qualifiers unsafe (extern (codes "C")) p) s) (parse (identifier rest) s) _ _ k (i + 1)
    (head_read c form out unsafe (extern (codes "C")) p s (Some (i + 1 + 1)))
    (name_reads c form out (length c) (i + 1) (λ a. parse (rest a) s) (λ a j. abi_named unsafe a c j) k (λ j. named_read c form out unsafe (ident_parts c (i + 1) j) p s j)))
    (head_read c form out unsafe [] p s (Some i))

-- Numbers and literals.

number_read : (b : List ℕ) (form : Form) (out : Bool) (note : ℕ) (h : Part) (p : Items) (s : Context) (j : Place)
    → of form out (parse (number_pieces (bytes_in b h) (some_or p (row_text note basic_types) (λ text. print_plain text p))) s j) ≡ with_texts out (texts_of b form (Number (number_of (bytes_in b h)) h note)) (of form out (parse p s j))
unfolding parse
number_read b form out note h p s j = go (number_of (bytes_in b h)) (row_text note basic_types) form.include_hash
  where
    go : (n : Option ℕ) (o : Option Text) (plain : Bool) → in_plain plain out (parse (some_or (print_str "0x" (print (bytes_in b h) (some_or p o (λ text. print_plain text p)))) n (λ n. print (decimal n) (some_or p o (λ text. print_plain text p)))) s j)
        ≡ with_texts out (number_texts (bytes_in b h) n ++ some_or [] o (λ t. if_plain plain (t ∷ []))) (in_plain plain out (parse p s j))
    go None (Some t) true = refl
    go (Some n) (Some t) true = refl
    go _ _ _ = refl

truth_read : (b : List ℕ) (form : Form) (out : Bool) (p : Items) (s : Context) (j : ℕ) (o : Option ℕ) → of form out (parse (print_bool p o) s (Some j)) ≡ grouped b form out (bool_token o j) (λ i. of form out (parse p s i))
unfolding parse
truth_read b form out p s j None = refl
truth_read b form out p s j (Some n) = go (n == 0) (n == 1)
  where
    go : (x y : Bool) → of form out (parse (cond x (print_str "false" p) (cond y (print_str "true" p) invalid)) s (Some j)) ≡ grouped b form out (cond x (token_read (Fixed fixed.False) (Some j)) (cond y (token_read (Fixed fixed.True) (Some j)) invalid_token)) (λ i. of form out (parse p s i))
    go false true = refl
    go _ _ = refl

character_read : (b : List ℕ) (form : Form) (out : Bool) (p : Items) (s : Context) (j : ℕ) (o : Option ℕ) → of form out (parse (print_char p o) s (Some j)) ≡ grouped b form out (character_token o j) (λ i. of form out (parse p s i))
unfolding parse
character_read b form out p s j None = refl
character_read b form out p s j (Some c) = go (scalar c)
  where
    go : (x : Bool) → of form out (parse (cond x (print_all (literal (code "'") (c ∷ [])) p) invalid) s (Some j)) ≡ grouped b form out (cond x (token_read (Character c) (Some j)) invalid_token) (λ i. of form out (parse p s i))
    go true = says_all form out (literal (code "'") (c ∷ [])) p s (Some j)
    go false = refl

literal_read : (b : List ℕ) (form : Form) (out : Bool) (p : Items) (s : Context) (j : ℕ) (h : Part) (o : Option (List ℕ)) → string_of (bytes_in b h) ≡ o
    → of form out (parse (some_or invalid o (λ cs. print_all (literal (code "\"") cs) p)) s (Some j)) ≡ grouped b form out (literal_token o h j) (λ i. of form out (parse p s i))
unfolding parse
literal_read b form out p s j h None e = refl
literal_read b form out p s j h (Some cs) e = rw e (says_all form out (literal (code "\"") cs) p s (Some j))

-- The parts that are read in this context.
module _ (b : List ℕ) (form : Form) (left : ℕ) (out : Bool) (n : ℕ) where
  abbrev at : Context
  at = context_at b form out left n

  abbrev then_trace : Items → Place → Trace
  then_trace p j = of form out (parse p at j)

  named_reads : (p : ℕ → Name → Items) (f : Ident → ℕ → Token) (k : Place → Trace) (i : ℕ) → ((d j m : ℕ) → of form out (parse (p d (name_of b j m)) at (Some m)) ≡ with_texts out (texts_of b form (f (ident_parts b j m) d)) (k (Some m)))
      → of form out (parse (optional 115 (λ d. identifier (p d))) at (Some i)) ≡ grouped b form out (named_group b i f) k
  unfolding parse
  named_reads p f k i h =
      primitive_reads b form out (length b) i (λ d. parse (identifier (p d)) at) (λ d j. after_primitive (length b) j (ident_at b j) (λ a m. token_read (f a d) (Some m))) k
      (λ d j. name_reads b form out (length b) j (λ a. parse (p d a) at) (λ a m. token_read (f a d) (Some m)) k (h d j)) (optional_at 115 b i)

  pub word_read : (w : TokenKind) (note : ℕ) (p : Items) (i : Place) → of form out (parse (token_items w note p) at i) ≡ grouped b form out (token_spec b w note out n i) (λ j. of form out (parse p at j))
  unfolding parse
  word_read token_kind.FieldName note p (Some i) = named_reads (λ _ a. print_name a p) (λ a _. FieldName a) (then_trace p) i (λ _ j m. says_all form out (name_pieces (name_of b j m)) p at (Some m))
  word_read token_kind.BindingName note p (Some i) =
      name_reads b form out (length b) i (λ a. parse (print_name a (print_str " = " p)) at) (λ a m. token_read (BindingName a) (Some m)) (then_trace p)
      (λ m. let ts = name_pieces (name_of b i m) in says_all form out ts (print_str " = " p) at (Some m) ∙ sym (handing_both out ts (codes " = " ∷ []) (of form out (parse p at (Some m)))))
  word_read token_kind.LifetimeIndex note p (Some i) =
      primitive_reads b form out (length b) i (λ k. parse (lifetime k p) at) (λ k j. if k == 0 then token_read (Lifetime None) (Some j) else checked_lifetime out n k j (Lifetime (Some (n - k))) LifetimeError) (then_trace p)
      (λ k j. lifetime_read b form left out n p k j (k == 0) refl) (integer_at b i)
  word_read token_kind.DynLifetime note p (Some i) =
      ask_reads b form out (is_byte b i (code "L")) (parse (integer (λ k. if k == 0 then p else print_str " + " (lifetime k p))) at) (parse invalid at) _ invalid_token (then_trace p) i
      (primitive_reads b form out (length b) (i + 1) (λ k. parse (if k == 0 then p else print_str " + " (lifetime k p)) at) (λ k j. if k == 0 then token_read Nothing (Some j) else checked_lifetime out n k j (DynLifetime (n - k)) DynLifetimeError) (then_trace p)
      (λ m j. plus_or b form left out n p m j (m == 0) refl) (integer_at b (i + 1)))
      refl
  word_read token_kind.FunctionQualifiers note p (Some i) =
      ask_reads b form out (is_byte b i (code "U")) (parse (function_qualifiers true p) at) (parse (function_qualifiers false p) at) _ _ (then_trace p) i (abi_read form out true p at (i + 1)) (abi_read form out false p at i)
  word_read token_kind.Number note p (Some i) =
      hex_reads b form out (length b) i (λ h. parse (number_pieces h (some_or p (row_text note basic_types) (λ text. print_plain text p))) at) (λ h j. token_read (Number (number_of (bytes_in b h)) h note) (Some j)) (then_trace p)
      (λ end j. number_read b form out note (record { from = i; to = end }) p at (Some j))
  word_read token_kind.Bool note p (Some i) =
      hex_reads b form out (length b) i (λ h. parse (print_bool p (number_of h)) at) (λ h j. bool_token (number_of (bytes_in b h)) j) (then_trace p)
      (λ end j. truth_read b form out p at j (number_of (slice_range b i end)))
  word_read token_kind.Character note p (Some i) =
      hex_reads b form out (length b) i (λ h. parse (print_char p (number_of h)) at) (λ h j. character_token (number_of (bytes_in b h)) j) (then_trace p)
      (λ end j. character_read b form out p at j (number_of (slice_range b i end)))
  word_read token_kind.StrLiteral note p (Some i) =
      hex_reads b form out (length b) i (λ h. parse (some_or invalid (string_of h) (λ cs. print_all (literal (code "\"") cs) p)) at) (λ h j. literal_token (string_of (bytes_in b h)) h j) (then_trace p)
      (λ end j. let h : Part = record { from = i; to = end } in literal_read b form out p at j h (string_of (bytes_in b h)) refl)
  word_read _ note p _ = refl

  -- the names of paths, after their tag

  pub crate_reads : (v : Bool) (i : ℕ) → of form out (parse (path v 67) at (Some i)) ≡ grouped b form out (crate_group b i) (λ j. of form out (parse done at j))
  unfolding parse
  crate_reads v i = named_reads (λ d a. print_name a (if d == 0 then done else print_plain (codes "[") (print_plain (digits 16 false d) (print_plain (codes "]") done)))) CrateName (then_trace done) i
      (λ d j m. crate_read b form out at (ident_parts b j m) (name_of b j m) d (Some m) refl)

  pub nested_reads : (c i : ℕ) → of form out (parse (in_namespace c) at (Some i)) ≡ grouped b form out (nested_group b c i) (λ j. of form out (parse done at j))
  unfolding parse
  nested_reads c i = named_reads (λ d a. if is_upper c then in_special c d a else if is_empty_name a then done else print_str "::" (print_name a done)) (λ a d. NestedName c d a) (then_trace done) i
      (λ d j m. nested_read b form out at (name_of b j m) c d (Some m))
