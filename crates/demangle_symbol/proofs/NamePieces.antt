-- The pieces of a name by the bounds of its parts.
use Rattle.std.proofs.Common.{◌≡◌, ℕ, ◌<◌, ◌≤◌, true, false, List, [], ◌∷◌, length, map, Some, None, refl, ap}
use Rattle.std.specs.Prelude.{encode_utf8, codes}
use Rattle.std.specs.List.{slice_range}
use Rattle.demangle_symbol.specs.declared.cursor.ident.Ident.{Ident}
use Rattle.demangle_symbol.specs.Names.{is_empty, name_pieces, fallback_pieces}
use Rattle.demangle_symbol.specs.Punycode.{puny}
use Rattle.demangle_symbol.specs.Idents.{ascii_prefix, name_in}
use Rattle.demangle_sink.proofs.Parts.{part_first, part_past}

-- a part has bytes, or is empty
part_empty : (s : List ℕ) (i to : ℕ) → to ≤ i → is_empty (slice_range s i to) ≡ true
part_empty s i to past = ap is_empty (part_past s i to past)

part_filled : (s : List ℕ) (i to : ℕ) → i < to → to ≤ length s → is_empty (slice_range s i to) ≡ false
part_filled s i to some inside = ap is_empty (part_first s i to some inside)

pub prefix_none : (s : List ℕ) (a : Ident) → a.ascii.to ≤ a.ascii.from → ascii_prefix (name_in s a) ≡ []
prefix_none s a past = let e : is_empty (slice_range s a.ascii.from a.ascii.to) ≡ true = part_empty s _ _ past in rw e refl

pub prefix_some : (s : List ℕ) (a : Ident) → a.ascii.from < a.ascii.to → a.ascii.to ≤ length s → ascii_prefix (name_in s a) ≡ slice_range s a.ascii.from a.ascii.to ∷ codes "-" ∷ []
prefix_some s a some inside = let e : is_empty (slice_range s a.ascii.from a.ascii.to) ≡ false = part_filled s _ _ some inside in rw e refl

pub pieces_plain : (s : List ℕ) (a : Ident) → a.punycode.to ≤ a.punycode.from → name_pieces (name_in s a) ≡ slice_range s a.ascii.from a.ascii.to ∷ []
unfolding name_pieces
pieces_plain s a past = let e : is_empty (slice_range s a.punycode.from a.punycode.to) ≡ true = part_empty s _ _ past in rw e refl

pub pieces_decoded : (s : List ℕ) (a : Ident) (cs : List ℕ) → a.punycode.from < a.punycode.to → a.punycode.to ≤ length s → Some cs ≡ puny (slice_range s a.ascii.from a.ascii.to) (slice_range s a.punycode.from a.punycode.to) → name_pieces (name_in s a) ≡ map encode_utf8 cs
unfolding name_pieces
pieces_decoded s a cs some inside h = let e : is_empty (slice_range s a.punycode.from a.punycode.to) ≡ false = part_filled s _ _ some inside in rw (e, ← h) refl

pub pieces_undecoded : (s : List ℕ) (a : Ident) → a.punycode.from < a.punycode.to → a.punycode.to ≤ length s → None ≡ puny (slice_range s a.ascii.from a.ascii.to) (slice_range s a.punycode.from a.punycode.to) → name_pieces (name_in s a) ≡ fallback_pieces (name_in s a)
unfolding name_pieces
pieces_undecoded s a some inside h = let e : is_empty (slice_range s a.punycode.from a.punycode.to) ≡ false = part_filled s _ _ some inside in rw (e, ← h) refl
