-- The characters of a string constant in order, and their pieces.
use Rattle.std.proofs.Common.{◌≡◌, ℕ, ◌≤◌, true, false, List, [], ◌∷◌, ◌++◌, map, Option, Some, None, option_map, refl, sym, ap, ◌∙◌, append_assoc}
use Rattle.std.specs.Prelude.{encode_utf8, flat_map, is_some, IsSome}
use Rattle.std.specs.Str.{is_utf8}
use Rattle.std.proofs.lemmas.List.{map-append, append-nil}
use Rattle.std.proofs.lemmas.List.Concat.{flat_map-append}
use Rattle.std.proofs.lemmas.Str.{is_utf8-from_IsUtf8, IsUtf8-nil, chars-nil}
use Rattle.demangle_symbol.specs.Primitives.{some_or}
use Rattle.demangle_symbol.specs.Literals.{literal_escape, string_of}
use Rattle.demangle_symbol.specs.Nibbles.{nibbles_in, characters_of, character_pieces}
use Rattle.demangle_symbol.specs.declared.cursor.Part.{Part}
use Rattle.demangle_sink.proofs.Parts.{part_past}

-- the empty list of nibbles spells the empty text
string_empty : string_of [] ≡ Some []
unfolding string_of
string_empty =
    let u : is_utf8 [] ≡ true = is_utf8-from_IsUtf8 [] IsUtf8-nil in
    rw (u, chars-nil) refl

pub string_done : (s : List ℕ) (rest : Part) → rest.to ≤ rest.from → string_of (nibbles_in s rest) ≡ Some []
string_done s rest past = ap string_of (part_past s rest.from rest.to past) ∙ string_empty

same_some : (o p : Option (List ℕ)) (c : ℕ) → o ≡ option_map (λ cs. c ∷ cs) p → is_some o ≡ is_some p
same_some o None c e = ap is_some e
same_some o (Some cs) c e = ap is_some e

-- with a character removed from the start, the nibbles are a text exactly if they were one
pub text_on : (s : List ℕ) (a b : Part) (c : ℕ) → string_of (nibbles_in s a) ≡ option_map (λ cs. c ∷ cs) (string_of (nibbles_in s b)) → is_some (string_of (nibbles_in s a)) ≡ is_some (string_of (nibbles_in s b))
text_on s a b c e = same_some (string_of (nibbles_in s a)) (string_of (nibbles_in s b)) c e

pub ruleset text_steps = (string_done, text_on)

first_char : (o p : Option (List ℕ)) (c : ℕ) → o ≡ option_map (λ cs. c ∷ cs) p → IsSome o → some_or [] o (λ cs. cs) ≡ c ∷ some_or [] p (λ cs. cs)
first_char o None c e h = let none : false ≡ true = sym (ap is_some e) ∙ h in absurd (cc)
first_char o (Some cs) c e h = ap (λ x. some_or [] x (λ ds. ds)) e

-- the characters are the first one and the remaining ones
pub characters_prefix : (s : List ℕ) (a b : Part) (c : ℕ) → string_of (nibbles_in s a) ≡ option_map (λ cs. c ∷ cs) (string_of (nibbles_in s b)) → IsSome (string_of (nibbles_in s a)) → characters_of (nibbles_in s a) ≡ c ∷ characters_of (nibbles_in s b)
characters_prefix s a b c e h = first_char (string_of (nibbles_in s a)) (string_of (nibbles_in s b)) c e h

pub characters_done : (s : List ℕ) (rest : Part) → rest.to ≤ rest.from → characters_of (nibbles_in s rest) ≡ []
characters_done s rest past = ap (λ o. some_or [] o (λ cs. cs)) (string_done s rest past)

-- the pieces of one more character
pub character_pieces-push : (cs : List ℕ) (c : ℕ) → character_pieces (cs ++ c ∷ []) ≡ character_pieces cs ++ map encode_utf8 (literal_escape 34 c)
character_pieces-push cs c =
    ap (map encode_utf8) (flat_map-append (literal_escape 34) cs (c ∷ []) ∙ ap (λ x. flat_map (literal_escape 34) cs ++ x) (append-nil (literal_escape 34 c)))
    ∙ map-append encode_utf8 (flat_map (literal_escape 34) cs) (literal_escape 34 c)

-- the pieces before and after one character
pub character_pieces-split : (cs rest : List ℕ) (c : ℕ) → character_pieces (cs ++ (c ∷ rest)) ≡ (character_pieces cs ++ map encode_utf8 (literal_escape 34 c)) ++ character_pieces rest
character_pieces-split cs rest c =
    ap character_pieces (sym (append_assoc cs (c ∷ []) rest))
    ∙ ap (map encode_utf8) (flat_map-append (literal_escape 34) (cs ++ c ∷ []) rest)
    ∙ map-append encode_utf8 (flat_map (literal_escape 34) (cs ++ c ∷ [])) (flat_map (literal_escape 34) rest)
    ∙ ap (λ x. x ++ character_pieces rest) (character_pieces-push cs c)

-- the rest after one more character is a text
pub text_left : (s : List ℕ) (a b : Part) (c : ℕ) → string_of (nibbles_in s a) ≡ option_map (λ cs. c ∷ cs) (string_of (nibbles_in s b)) → IsSome (string_of (nibbles_in s a)) → IsSome (string_of (nibbles_in s b))
text_left s a b c e h = sym (text_on s a b c e) ∙ h

-- the next remaining character follows those that are done
pub characters_on : (s : List ℕ) (whole a b : Part) (done : List ℕ) (c : ℕ) → characters_of (nibbles_in s whole) ≡ done ++ characters_of (nibbles_in s a)
    → string_of (nibbles_in s a) ≡ option_map (λ cs. c ∷ cs) (string_of (nibbles_in s b)) → IsSome (string_of (nibbles_in s a))
    → characters_of (nibbles_in s whole) ≡ done ++ (c ∷ characters_of (nibbles_in s b))
characters_on s whole a b done c before e h = before ∙ ap (λ x. done ++ x) (characters_prefix s a b c e h)

-- all are done
pub characters_all : (s : List ℕ) (whole rest : Part) (done : List ℕ) → characters_of (nibbles_in s whole) ≡ done ++ characters_of (nibbles_in s rest) → rest.to ≤ rest.from → characters_of (nibbles_in s whole) ≡ done
characters_all s whole rest done before past = before ∙ ap (λ x. done ++ x) (characters_done s rest past) ∙ append-nil done
