-- The distances back to the targets alone do not pay: a target may be read beyond its reference, for example one that
-- encloses the reference.
use Rattle.std.specs.Prelude.{◌≡◌, ℕ, ◌+◌, ◌*◌, true, false, nat_lt, List, length, codes, refl}
use Rattle.std.specs.Fmt.{digits}
use Rattle.std.specs.Str.{is_utf8, chars}
use Rattle.std.specs.Char.{encode_utf8}
use Rattle.ucd_category.proofs.Computing.{ucd_category}
use Rattle.ucd_derived.proofs.Computing.{ucd_derived}
use Rattle.demangle_symbol.specs.Digits.{is_byte, number}
use Rattle.demangle_symbol.specs.Primitives.{byte_at, namespace_at, integer_at, optional_at, backref_at, identifier_at, nibbles_at, hex_number, number_of, length_end, length_value, tail_len}
use Rattle.demangle_symbol.specs.Punycode.{bias_after, adapted_bias, deltas, insertions, puny}
use Rattle.demangle_symbol.specs.Names.{name_pieces}
use Rattle.demangle_symbol.specs.Literals.{literal, string_of}
use Rattle.demangle_v0_grammar.specs.Items.{a_path}
use Rattle.demangle_v0_grammar.specs.Reading.{Outcome, repetitions, bound_by, parse, level_of, levels, read_at}
use Rattle.demangle_v0_grammar.specs.ValidationLooks.{looks_in}
use Rattle.demangle_v0_grammar.specs.Again.{led_back, read_again, up_to_end, again}

-- a tuple whose first element is a reference to the tuple, with 20 other elements, as the argument of a crate `a`
abbrev pub tuple_in_itself : List ℕ
tuple_in_itself = codes "IC1aTB3_hhhhhhhhhhhhhhhhhhhhEE"

-- the closure in a function of the Rust compiler's parser, whose references lead back to paths before them
abbrev pub closure_of_parser : List ℕ
closure_of_parser = codes "INvMs0_NtCsaLBsNTKQP2p_11rustc_parse6parserNtB6_6Parser10look_aheadbNCNvMs_NtB6_2tyBG_15parse_ty_commons2_0EB8_"

-- the looks of printing a symbol's first path; how far its references lead back, up to the targets, in all, and from the
-- symbol's end
unfoldable pub figures : List ℕ → ℕ × ℕ × ℕ × ℕ
unfolding digits encode_utf8 chars is_utf8 ucd_category ucd_derived is_byte number byte_at namespace_at integer_at optional_at backref_at identifier_at nibbles_at hex_number number_of length_end length_value tail_len bias_after adapted_bias deltas insertions puny name_pieces literal string_of repetitions bound_by parse level_of levels read_at
figures symbol =
    let o : Outcome = read_at symbol false true a_path 0 0 0 true in
    (looks_in o, again led_back o.tree, again (read_again (length symbol)) o.tree, again (up_to_end (length symbol)) o.tree)

pub closure_figures : figures closure_of_parser ≡ (1017, 125, 125, 279)
unfolding figures
closure_figures = refl

pub tuple_figures : figures tuple_in_itself ≡ (42379, 664, 4152, 4482)
unfolding figures
tuple_figures = refl

-- the looks are more than 32 for each byte of the symbol and of the distances back to the targets
pub led_back_is_short : nat_lt (32 * (length tuple_in_itself + 1 + (figures tuple_in_itself).1)) (figures tuple_in_itself).0 ≡ true
led_back_is_short = rw tuple_figures refl

-- 480 function types, each the first parameter of the one before it
abbrev pub nested_functions : List ℕ
nested_functions = codes "MC1aFFFFFFFFFFFFFFFFFFFFFFFFFFFFFFFFFFFFFFFFFFFFFFFFFFFFFFFFFFFFFFFFFFFFFFFFFFFFFFFFFFFFFFFFFFFFFFFFFFFFFFFFFFFFFFFFFFFFFFFFFFFFFFFFFFFFFFFFFFFFFFFFFFFFFFFFFFFFFFFFFFFFFFFFFFFFFFFFFFFFFFFFFFFFFFFFFFFFFFFFFFFFFFFFFFFFFFFFFFFFFFFFFFFFFFFFFFFFFFFFFFFFFFFFFFFFFFFFFFFFFFFFFFFFFFFFFFFFFFFFFFFFFFFFFFFFFFFFFFFFFFFFFFFFFFFFFFFFFFFFFFFFFFFFFFFFFFFFFFFFFFFFFFFFFFFFFFFFFFFFFFFFFFFFFFFFFFFFFFFFFFFFFFFFFFFFFFFFFFFFFFFFFFFFFFFFFFFFFFFFFFFFFFFFFFFFFFFFFFFFFFFFFFFFFFFFFFFFFFFFFFFFFFFFFFFFFFFFFFFF"

pub function_figures : figures nested_functions ≡ (8198, 0, 0, 0)
unfolding figures
function_figures = refl

-- without references, the looks are more than 16 for each byte of the symbol
pub sixteen_is_short : nat_lt (16 * (length nested_functions + 1)) (figures nested_functions).0 ≡ true
sixteen_is_short = rw function_figures refl
