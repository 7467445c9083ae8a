-- The looks of the primitives that one step reads.
use Rattle.std.specs.Prelude.{◌*◌, ◌==◌, nat_le, if◌then◌else◌, option_map}
use Rattle.std.proofs.Common.{◌≡◌, ℕ, ◌+◌, ◌-◌, ◌≤◌, length, Bool, true, false, Option, Some, None, List, [], refl, ap, arith}
use Prim.Native.Char.{code}
use lib.Utf8.{scalar}
use Rattle.demangle_symbol.specs.Digits.{is_byte}
use Rattle.demangle_symbol.specs.Primitives.{Read, integer_at, optional_at, backref_at, identifier_at, nibbles_at, number_of}
use Rattle.demangle_symbol.specs.Idents.{ident_at}
use Rattle.demangle_symbol.specs.Nibbles.{hex_at}
use Rattle.demangle_symbol.specs.Names.{is_empty}
use Rattle.demangle_symbol.specs.Literals.{string_of}
use Rattle.demangle_symbol.proofs.Counts.{Placed, integer_placed, optional_placed, backref_placed, nibbles_placed, identifier_placed}
use Rattle.demangle_v0_grammar.specs.LookTotals.{total}
use Rattle.demangle_v0_tokens.specs.Tokens.{TokenSpec, token_read, invalid_token, byte_group, bytes_in, after_primitive, named_group, abi_named, abi_group, checked_lifetime, bool_token, character_token, literal_token, token_at, token_spec}
use Rattle.demangle_v0_parser.specs.Steps.{looks_bound, step_looks_bound}
use Rattle.demangle_v0_grammar.specs.Reading.{Place}
use Rattle.demangle_v0_tokens.specs.Backrefs.{read_backref, reference_read}
use Rattle.demangle_symbol.specs.declared.cursor.Part.{Part}
use Rattle.demangle_symbol.specs.declared.cursor.ident.Ident.{Ident}
use Rattle.demangle_v0_tokens.specs.declared.token.TokenKind.{TokenKind}
use Rattle.demangle_v0_tokens.specs.declared.token.TokenKind.TheVariants as token_kind
use Rattle.demangle_v0_tokens.specs.declared.token.Token.{Token}
use Rattle.demangle_v0_tokens.specs.declared.token.Token.TheVariants.{Nothing, Fixed, FieldName, Lifetime, LifetimeError, DynLifetime, DynLifetimeError, FunctionQualifiers, Number, Character, BindingName}
use Rattle.demangle_v0_tokens.specs.declared.token.Abi.TheVariants as abi
use Rattle.demangle_v0_tokens.specs.declared.fixed_texts.FixedText.TheVariants as fixed
use Rattle.demangle_v0_grammar.proofs.SpelledIsParsed.{there_placed}

-- from place i on, the token spec makes at most four looks for each byte and `looks` more, and it reads at most `words`
-- primitives
record Brief (b : List ℕ) (i looks words : ℕ) (g : TokenSpec) : Type 0 where
  short : total g.costs ≤ 4 * (length b - i) + looks
  primitive_count : length g.costs ≤ words

free : {b : List ℕ} {i : ℕ} {g : TokenSpec} → g.costs ≡ [] → Brief b i 0 0 g
free e = record { short = rw e (omega arith); primitive_count = rw e (omega arith) }

wide : {b : List ℕ} {i j k l m n : ℕ} {g : TokenSpec} → i ≤ j → k ≤ l → m ≤ n → Brief b j k m g → Brief b i l n g
wide x y z g = record { short = omega (arith, x, y, g.short); primitive_count = omega (arith, z, g.primitive_count) }

mapped : {A B : Type 0} (low : ℕ) (s : List ℕ) (r : Read A) (g : A × ℕ → B) → Placed low s r → Placed low s (option_map (λ r. (g r, r.1)) r)
mapped low s None g h = tt
mapped low s (Some r) g h = h

-- after a primitive, and after a look at a byte
one : {A : Type 0} {b : List ℕ} {k m : ℕ} (i : ℕ) (r : Read A) (f : A → ℕ → TokenSpec) → Placed (i + 1) b r → ((v : A) (j : ℕ) → Brief b j k m (f v j)) → Brief b i (k + 4) (m + 1) (after_primitive (length b) i r f)
one i None f p h = record { short = omega arith; primitive_count = omega arith }
one i (Some r) f p h = let g = h r.0 r.1 in record { short = omega (arith, p.0, p.1, g.short); primitive_count = omega (arith, g.primitive_count) }

either : {b : List ℕ} {i k m : ℕ} {g h : TokenSpec} (c : Bool) → Brief b i k m g → Brief b i k m h → Brief b i (k + 1) (m + 1) (byte_group c g h)
either true g h = record { short = omega (arith, g.short); primitive_count = omega (arith, g.primitive_count) }
either false g h = record { short = omega (arith, h.short); primitive_count = omega (arith, h.primitive_count) }

pub ident_placed : (b : List ℕ) (i : ℕ) → Placed (i + 1) b (ident_at b i)
ident_placed b i = mapped (i + 1) b (identifier_at b i) _ (identifier_placed b i)

pub hex_placed : (b : List ℕ) (i : ℕ) → Placed (i + 1) b (hex_at b i)
hex_placed b i = mapped (i + 1) b (nibbles_at b i) _ (nibbles_placed b i)

abbrev place_of : ℕ → Read ℕ → ℕ
place_of i None = i
place_of i (Some r) = r.1

-- an optional primitive ends within the bytes, or at the place where it would begin
pub optional_there : (t : ℕ) (b : List ℕ) (i : ℕ) → (v j : ℕ) → optional_at t b i ≡ Some (v, j) → (i ≤ j) × (4 * (j - i) + 4 * (length b - j) ≤ 4 * (length b - i))
unfolding optional_at
optional_there t b i v j e = go (is_byte b i t) refl
  where
    within : i ≤ length b → (i ≤ j) × (4 * (j - i) + 4 * (length b - j) ≤ 4 * (length b - i))
    within l = let p = Rattle.demangle_symbol.proofs.Counts.placed i b (optional_at t b i) (optional_placed t b i l) v j e in (p.0, omega (arith, p.0, p.1))

    go : (c : Bool) → is_byte b i t ≡ c → (i ≤ j) × (4 * (j - i) + 4 * (length b - j) ≤ 4 * (length b - i))
    go true h = within (omega (arith, there_placed b t i h))
    go false h = let q : i ≡ j = ap (place_of i) (rw h at e) in (omega arith, omega arith)

named_brief : (b : List ℕ) (i : ℕ) (f : Ident → ℕ → Token) → Brief b i 8 2 (named_group b i f)
named_brief b i f = go (optional_at 115 b i) refl
  where
    go : (r : Read ℕ) → optional_at 115 b i ≡ r → Brief b i 8 2 (after_primitive (length b) i r (λ d j. after_primitive (length b) j (ident_at b j) (λ a k. token_read (f a d) (Some k))))
    go None e = record { short = omega arith; primitive_count = omega arith }
    go (Some r) e =
        let p = optional_there 115 b i r.0 r.1 e in
        let g = one r.1 (ident_at b r.1) (λ a k. token_read (f a r.0) (Some k)) (ident_placed b r.1) (λ a k. free refl) in
        record { short = omega (arith, p.0, p.1, g.short); primitive_count = omega (arith, g.primitive_count) }

pub named_few : (b : List ℕ) (i : ℕ) (f : Ident → ℕ → Token) → length (named_group b i f).costs ≤ 2
named_few b i f = (named_brief b i f).primitive_count

force_free : (q : Bool) (out : Bool) (n k j : ℕ) (x y z : Token) → (if q then token_read z (Some j) else checked_lifetime out n k j x y).costs ≡ []
force_free true out n k j x y z = refl
force_free false false n k j x y z = refl
force_free false true n k j x y z = go (nat_le k n)
  where
    go : (c : Bool) → (if c then token_read x (Some j) else token_read y None).costs ≡ []
    go true = refl
    go false = refl

truth_free : (r : Option ℕ) (j : ℕ) → (bool_token r j).costs ≡ []
truth_free None j = refl
truth_free (Some n) j = go (n == 0) (n == 1)
  where
    go : (x y : Bool) → (if x then token_read (Fixed fixed.False) (Some j) else if y then token_read (Fixed fixed.True) (Some j) else invalid_token).costs ≡ []
    go true y = refl
    go false true = refl
    go false false = refl

character_free : (r : Option ℕ) (j : ℕ) → (character_token r j).costs ≡ []
character_free None j = refl
character_free (Some c) j = go (scalar c)
  where
    go : (x : Bool) → (if x then token_read (Character c) (Some j) else invalid_token).costs ≡ []
    go true = refl
    go false = refl

literal_free : (r : Option (List ℕ)) (h : Part) (j : ℕ) → (literal_token r h j).costs ≡ []
literal_free None h j = refl
literal_free (Some cs) h j = refl

abi_free : (u : Bool) (a : Ident) (b : List ℕ) (j : ℕ) → (abi_named u a b j).costs ≡ []
abi_free u a b j = go (is_empty (bytes_in b a.ascii)) (is_empty (bytes_in b a.punycode))
  where
    go : (x y : Bool) → (if x then invalid_token else if y then token_read (FunctionQualifiers u (abi.Named a.ascii)) (Some j) else invalid_token).costs ≡ []
    go true y = refl
    go false true = refl
    go false false = refl

abi_brief : (b : List ℕ) (u : Bool) (i : ℕ) → Brief b i 6 3 (abi_group b u i)
abi_brief b u i =
    either {k = 5} {m = 2} (is_byte b i (code "K"))
    (wide (omega arith) (omega arith) (omega arith) (either {i = i + 1} {k = 4} {m = 1} (is_byte b (i + 1) (code "C")) (wide {j = i + 1} (omega arith) (omega arith) (omega arith) (free refl)) (one (i + 1) (ident_at b (i + 1)) (λ a j. abi_named u a b j) (ident_placed b (i + 1)) (λ a j. free (abi_free u a b j)))))
    (wide {j = i} (omega arith) (omega arith) (omega arith) (free refl))

-- the lifetime of an index, if it is in force
force_brief : (b : List ℕ) (out : Bool) (n i : ℕ) (x : ℕ → Token) (y z : Token) → Brief b i 4 1 (after_primitive (length b) i (integer_at b i) (λ k j. if k == 0 then token_read z (Some j) else checked_lifetime out n k j (x k) y))
force_brief b out n i x y z = one i (integer_at b i) (λ k j. if k == 0 then token_read z (Some j) else checked_lifetime out n k j (x k) y) (integer_placed b i) (λ k j. free (force_free (k == 0) out n k j (x k) y z))

token_brief : (b : List ℕ) (x : TokenKind) (c : ℕ) (out : Bool) (n i : ℕ) → Brief b i 8 4 (token_at b x c out n i)
token_brief b token_kind.FieldName c out n i = wide (omega arith) (omega arith) (omega arith) (named_brief b i (λ a d. FieldName a))
token_brief b token_kind.BindingName c out n i = wide (omega arith) (omega arith) (omega arith) (one i (ident_at b i) (λ a j. token_read (BindingName a) (Some j)) (ident_placed b i) (λ a j. free refl))
token_brief b token_kind.LifetimeIndex c out n i = wide (omega arith) (omega arith) (omega arith) (force_brief b out n i (λ k. Lifetime (Some (n - k))) LifetimeError (Lifetime None))
token_brief b token_kind.DynLifetime c out n i =
    wide (omega arith) (omega arith) (omega arith) (either {i = i} {k = 4} {m = 1} (is_byte b i (code "L")) (wide (omega arith) (omega arith) (omega arith) (force_brief b out n (i + 1) (λ k. DynLifetime (n - k)) DynLifetimeError Nothing)) (wide {j = i} (omega arith) (omega arith) (omega arith) (free refl)))
token_brief b token_kind.FunctionQualifiers c out n i =
    wide (omega arith) (omega arith) (omega arith) (either {i = i} {k = 6} {m = 3} (is_byte b i (code "U")) (wide (omega arith) (omega arith) (omega arith) (abi_brief b true (i + 1))) (abi_brief b false i))
token_brief b token_kind.Number c out n i = wide (omega arith) (omega arith) (omega arith) (one i (hex_at b i) (λ h j. token_read (Number (number_of (bytes_in b h)) h c) (Some j)) (hex_placed b i) (λ h j. free refl))
token_brief b token_kind.Bool c out n i = wide (omega arith) (omega arith) (omega arith) (one i (hex_at b i) (λ h j. bool_token (number_of (bytes_in b h)) j) (hex_placed b i) (λ h j. free (truth_free (number_of (bytes_in b h)) j)))
token_brief b token_kind.Character c out n i = wide (omega arith) (omega arith) (omega arith) (one i (hex_at b i) (λ h j. character_token (number_of (bytes_in b h)) j) (hex_placed b i) (λ h j. free (character_free (number_of (bytes_in b h)) j)))
token_brief b token_kind.StrLiteral c out n i = wide (omega arith) (omega arith) (omega arith) (one i (hex_at b i) (λ h j. literal_token (string_of (bytes_in b h)) h j) (hex_placed b i) (λ h j. free (literal_free (string_of (bytes_in b h)) h j)))

pub group_few : (b : List ℕ) (x : TokenKind) (c : ℕ) (out : Bool) (n : ℕ) (i : Place) → length (token_spec b x c out n i).costs ≤ 4
group_few b x c out n None = omega arith
group_few b x c out n (Some i) = (token_brief b x c out n i).primitive_count

pub refer_few : (b : List ℕ) (left : ℕ) (i : Place) → length (read_backref b left i).costs ≤ 1
refer_few b left None = omega arith
refer_few b left (Some i) = go (backref_at b i)
  where
    go : (r : Read ℕ) → length (reference_read (length b) left i r).costs ≤ 1
    go None = omega arith
    go (Some r) = omega arith

pub named_at : {i : Place} {n : ℕ} (m : ℕ) (b : List ℕ) (at : ℕ) (f : Ident → ℕ → Token) → i ≡ Some at → n ≤ m + total (named_group b at f).costs → n ≤ m + step_looks_bound b i
named_at m b at f k l = rw k (omega (arith, l, (named_brief b at f).short))

pub group_short : (b : List ℕ) (x : TokenKind) (c : ℕ) (out : Bool) (n : ℕ) (i : Place) → total (token_spec b x c out n i).costs ≤ step_looks_bound b i
group_short b x c out n None = omega arith
group_short b x c out n (Some i) = omega (arith, (token_brief b x c out n i).short)

pub group_tight : (b : List ℕ) (x : TokenKind) (c : ℕ) (out : Bool) (n : ℕ) (i : Place) → total (token_spec b x c out n i).costs ≤ looks_bound 8 b i
group_tight b x c out n None = omega arith
group_tight b x c out n (Some i) = (token_brief b x c out n i).short

pub refer_short : (b : List ℕ) (left : ℕ) (i : Place) → total (read_backref b left i).costs ≤ step_looks_bound b i
refer_short b left None = omega arith
refer_short b left (Some i) = go (backref_at b i) (backref_placed b i)
  where
    go : (r : Read ℕ) → Placed (i + 1) b r → total (reference_read (length b) left i r).costs ≤ step_looks_bound b (Some i)
    go None p = omega arith
    go (Some r) p = omega (arith, p.0, p.1)

-- more looks are allowed
pub own_more : {l : ℕ} (n j k : ℕ) (b : List ℕ) (i : Place) → j ≤ k → l ≤ n + looks_bound j b i → l ≤ n + looks_bound k b i
own_more n j k b None h q = q
own_more n j k b (Some i) h q = omega (arith, h, q)
